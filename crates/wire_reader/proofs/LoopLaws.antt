-- Items that a loop reads one after another.
use Rattle.std.proofs.Common.{◌≡◌, ℕ, suc, ◌+◌, ◌-◌, ◌<◌, ◌≤◌, List, [], ◌∷◌, ◌++◌, Ok, Err, sym, ap, ◌∙◌, arith, ◌⊎◌, inl, inr}
use Rattle.wire_reader.specs.declared.fault.WireFault.{WireFault}
use Rattle.wire_reader.specs.declared.fault.WireFault.TheVariants.{Memory}
use Rattle.byte_fields.specs.Reading.{Left, Read, ◌>>=◌}
use Rattle.wire_reader.specs.Reading.{items_at}

-- one item more
pub items_step : {X : Type 0} (item : List X → Left → Read WireFault X) (count i : ℕ) (front : List X) (l : Left) (x : X) (m : Left) (total : Read WireFault (List X)) → i < count
    → item front l ≡ Ok (x, m) → items_at item (count - i) front l ≡ total → items_at item (count - (i + 1)) (front ++ x ∷ []) m ≡ total
unfolding items_at
items_step item count i front l x m total lt h so_far =
    let k : count - i ≡ suc (count - (i + 1)) = omega arith in
    let one : items_at item (count - i) front l ≡ items_at item (count - (i + 1)) (front ++ x ∷ []) m =
    ap (λ (n : ℕ). items_at item n front l) k ∙ ap (λ (a : Read WireFault _). a >>= λ r. items_at item (count - (i + 1)) (front ++ r.0 ∷ []) r.1) h in
    sym one ∙ so_far

-- an item that is not there, unless memory runs out
pub items_stop : {X : Type 0} (item : List X → Left → Read WireFault X) (count i : ℕ) (front : List X) (l : Left) (f : WireFault) (total : Read WireFault (List X)) → i < count
    → (f ≡ Memory) ⊎ (item front l ≡ Err f) → items_at item (count - i) front l ≡ total → (f ≡ Memory) ⊎ (total ≡ Err f)
unfolding items_at
items_stop item count i front l f total lt (inl h) so_far = inl h
items_stop item count i front l f total lt (inr h) so_far =
    let k : count - i ≡ suc (count - (i + 1)) = omega arith in
    let one : items_at item (count - i) front l ≡ Err f =
    ap (λ (n : ℕ). items_at item n front l) k ∙ ap (λ (a : Read WireFault _). a >>= λ r. items_at item (count - (i + 1)) (front ++ r.0 ∷ []) r.1) h in
    inr (sym so_far ∙ one)

-- all of them
pub items_done : {X : Type 0} (item : List X → Left → Read WireFault X) (count i : ℕ) (front : List X) (l : Left) (total : Read WireFault (List X)) → count ≤ i
    → items_at item (count - i) front l ≡ total → total ≡ Ok (front, l)
unfolding items_at
items_done item count i front l total le so_far =
    let k : count - i ≡ 0 = omega arith in
    sym so_far ∙ ap (λ (n : ℕ). items_at item n front l) k
