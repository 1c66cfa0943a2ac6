-- One statement more in a sequence.
use Rattle.std.proofs.Common.{arith, ◌≡◌, refl, ℕ, ◌+◌, ◌<◌, List, [], ◌∷◌, ◌++◌, length, true, false}
use Rattle.std.specs.Prelude.{nat_lt, slice_set}
use Rattle.std.proofs.lemmas.List.{take_more_set}
use Rattle.tree_node.specs.declared.names.CodeId.{CodeId}
use Rattle.kernel_syntax.specs.BodyList.{few_or_many}

pub few_more : (count : ℕ) (few many : List CodeId) (body : CodeId) → count < 4 → length few ≡ 4 → few_or_many (count + 1) (slice_set few count body) many ≡ few_or_many count few many ++ body ∷ []
few_more count few many body low four =
    let here : nat_lt 4 count ≡ false = grind (arith, low) in
    let next : nat_lt 4 (count + 1) ≡ false = grind (arith, low) in
    rw (here, next) (take_more_set few count body (omega (arith, low, four)))

pub many_more : (count : ℕ) (few many : List CodeId) (body : CodeId) → 4 < count → few_or_many count few (many ++ body ∷ []) ≡ few_or_many count few many ++ body ∷ []
many_more count few many body high = let here : nat_lt 4 count ≡ true = grind (arith, high) in rw here refl
