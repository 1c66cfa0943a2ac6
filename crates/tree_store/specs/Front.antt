-- How far a comparison has come that is open, and what a store keeps of it.
use Rattle.std.specs.Prelude.{◌≡◌, ◌≤◌, ℕ, suc, List, [], ◌∷◌, length, take, Some, slice_get}
use Rattle.std.specs.Map.{lookup}
use Rattle.tree_node.specs.Store.{Store}
use Rattle.tree_node.specs.Compare.{Pair, relation, IsMatched, IsWithin}
use Rattle.tree_node.specs.ClassPairs.{equal_pair, roots, leads_to, all_new}
use Rattle.tree_store.specs.declared.front.Front.{Front}

-- the pairs that a comparison of p has come to, of which so many were looked at: each matched in this store, or in an earlier one
-- all of whose equations this store entails
pub data IsMatchedFront (p : Pair) : Store → List Pair → ℕ → Type 0 where
  begins : {s : Store} → IsMatchedFront p s (roots s p ∷ []) 0
  goes_on : {s : Store} {queue : List Pair} {at : ℕ} (c : Pair) → IsMatchedFront p s queue at → slice_get queue at ≡ Some c → IsMatched (relation s c) → IsMatchedFront p s (all_new equal_pair queue (leads_to s c)) (suc at)
  stays : {s t : Store} {queue : List Pair} {at : ℕ} → IsMatchedFront p s queue at → IsWithin s t → IsMatchedFront p t queue at

-- the pair at the place, if there is one, does not match
abbrev pub IsAtUnmatched : Store → List Pair → ℕ → Type 0
IsAtUnmatched s queue at = (c : Pair) → slice_get queue at ≡ Some c → IsMatched (relation s c) → ⊥

-- the pairs stand there as before, with others behind them perhaps, and the place is no earlier
pub record HasGoneOn (before : List Pair) (at : ℕ) (after : List Pair) (now : ℕ) : Type 0 where
  pub first : take (length before) after ≡ before
  pub place : at ≤ now

-- each front is one of the pair under which it is kept
abbrev pub AreFronts : Store → List (Pair × Front) → Type 0
AreFronts s fronts = (p : Pair) (f : Front) → lookup (equal_pair p) fronts ≡ Some f → IsMatchedFront p s f.pairs f.at
