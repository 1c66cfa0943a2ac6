-- Names that come behind others, or leave.
use Rattle.std.proofs.Common.{arith, ◌≡◌, ◌≢◌, ◌∙◌, sym, ap, refl, subst, ◌⊎◌, inl, inr, List, [], ◌∷◌, ◌++◌, append_assoc, append-nil, Bool, true, false, not, cond}
use Rattle.std.specs.Prelude.{Contains}
use Rattle.std.proofs.lemmas.List.Elements.{Contains-push_cases}
use Rattle.tree_node.specs.declared.names.ThreadName.{ThreadName}
use Rattle.tree_node.specs.State.{equal_thread}
use Rattle.tree_node.proofs.ClassLemmas.{Contains-cons_cases}
use Rattle.thread_roster.specs.Order.{without_name, HaveComeBehind, MayHaveLeft}
use Rattle.thread_roster.proofs.NameLemmas.{is_same}
use Rattle.thread_roster.proofs.OrderLemmas.{name_append}

pub behind_same : (a b : List ThreadName) → b ≡ a → HaveComeBehind a b
behind_same a b e = ([], e ∙ sym (append-nil a))

pub behind_one : (n : ThreadName) (a b : List ThreadName) → b ≡ a ++ n ∷ [] → HaveComeBehind a b
behind_one n a b e = (n ∷ [], e)

pub behind_then : (a b c : List ThreadName) → HaveComeBehind a b → HaveComeBehind b c → HaveComeBehind a c
behind_then a b c (x, e) (y, f) = (x ++ y, f ∙ (ap (λ (l : List ThreadName). l ++ y) e ∙ append_assoc a x y))

-- ---- one leaves

pub is_not_left : (n : ThreadName) (ns : List ThreadName) → Contains (without_name n ns) n → ⊥
is_not_left n [] (k, below, is) = absurd (omega arith)
is_not_left n (x ∷ ns) c = go (equal_thread x n) refl (is_not_left n ns) c
  where
    here : equal_thread x n ≡ false → (Contains (without_name n ns) n → ⊥) → (x ≡ n) ⊎ Contains (without_name n ns) n → ⊥
    here e rest (inl same) = let yes : equal_thread x n ≡ true = is_same x n same in cc
    here e rest (inr d) = rest d

    go : (b : Bool) → equal_thread x n ≡ b → (Contains (without_name n ns) n → ⊥) → Contains (cond (not b) (x ∷ without_name n ns) (without_name n ns)) n → ⊥
    go true e rest d = rest d
    go false e rest d = here e rest (Contains-cons_cases x n (without_name n ns) d)

pub has_stayed : (n : ThreadName) (a b : List ThreadName) → HaveComeBehind a b → MayHaveLeft n a b
has_stayed n a b h = inl h

pub has_left : (n : ThreadName) (a b : List ThreadName) → b ≡ without_name n a → MayHaveLeft n a b
has_left n a b e = inr (behind_same (without_name n a) b e, λ c. is_not_left n a (subst (λ (l : List ThreadName). Contains l n) e c))

-- first others come behind
pub behind_left : (n : ThreadName) (a b c : List ThreadName) → HaveComeBehind a b → MayHaveLeft n b c → MayHaveLeft n a c
behind_left n a b c h (inl k) = inl (behind_then a b c h k)
behind_left n a b c (x, e) (inr ((y, f), absent)) = inr (
  (
    without_name n x ++ y,
    f ∙ (ap (λ (l : List ThreadName). without_name n l ++ y) e ∙ (ap (λ (l : List ThreadName). l ++ y) (name_append n a x) ∙ append_assoc (without_name n a) (without_name n x) y)),
  ),
  absent,
)

-- and then another one does
pub left_then : (n m : ThreadName) (a b c : List ThreadName) → MayHaveLeft n a b → c ≡ b ++ m ∷ [] → n ≢ m → MayHaveLeft n a c
left_then n m a b c (inl h) e differs = inl (behind_then a b c h (behind_one m b c e))
left_then n m a b c (inr (h, absent)) e differs = inr (behind_then (without_name n a) b c h (behind_one m b c e), λ d. go (Contains-push_cases b m n (subst (λ (l : List ThreadName). Contains l n) e d)))
  where
    go : Contains b n ⊎ (m ≡ n) → ⊥
    go (inl d) = absent d
    go (inr same) = differs (sym same)
