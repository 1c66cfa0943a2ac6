-- The number of a message that was handed out is in hand.
use Rattle.std.proofs.Common.{◌≡◌, ℕ, List, [], ◌∷◌, ◌++◌, Some, None, sym, subst}
use Rattle.std.specs.Prelude.{Option, Contains, MatchOption, IfSome}
use Rattle.std.proofs.lemmas.List.Elements.{Contains-append_right}
use Rattle.tree_node.proofs.ClassLemmas.{Contains-head}

pub in_hand_then : (o : Option (ℕ × List ℕ)) (P : Type 0) (Q : ℕ × List ℕ → Type 0) (old new : List ℕ) → MatchOption o P (λ x. Q x × (new ≡ old ++ x.0 ∷ [])) → IfSome o (λ x. Contains new x.0)
in_hand_then None P Q old new t = tt
in_hand_then (Some x) P Q old new t = subst (λ (h : List ℕ). Contains h x.0) (sym t.1) (Contains-append_right old (x.0 ∷ []) x.0 (Contains-head x.0 []))
