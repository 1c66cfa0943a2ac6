-- Variables that a counter gave in a row are made.
use Rattle.std.proofs.Common.{arith, ◌≡◌, ap, refl, subst, ℕ, ◌+◌, ◌-◌, ◌<◌, ◌≤◌, List, [], Some, None}
use Rattle.std.specs.Prelude.{Option, Result, Ok, Err, OnOk, ◌^◌}
use Rattle.tree_node.specs.declared.names.VarName.{VarName}
use Rattle.tree_node.specs.declared.names.Name.TheVariants as name
use Rattle.bind_protocol.specs.Records.{Records}
use Rattle.oz_model.specs.Effect.{vars_among}
use Rattle.pick_list.specs.Names.{row_of}
use Rattle.site_model.specs.Variables.{after_makes}
use Rattle.site_variables.specs.Variables.{IsUnion, AreCounted, vars_between}

pub none_before : (o : Option VarName) → vars_between None o ≡ []
none_before None = refl
none_before (Some b) = refl

pub none_behind : (o : Option VarName) → vars_between o None ≡ []
none_behind None = refl
none_behind (Some a) = refl

pub none_between : (a b : VarName) → b.num ≡ a.num → vars_between (Some a) (Some b) ≡ []
none_between a b e = let none : b.num - a.num ≡ 0 = omega (arith, e) in ap (λ (k : ℕ). vars_among (row_of (name.Var a) k)) none

-- where there are none the records stay
pub none_made : (b : Records) (xs : List VarName) → xs ≡ [] → b ≡ after_makes b xs
none_made b xs e = rw e refl

pub row_counted : (first behind : Option VarName) (a b : VarName) (k : ℕ) → first ≡ Some a → behind ≡ Some b → k ≡ b.num - a.num → vars_between first behind ≡ vars_among (row_of (name.Var a) k)
row_counted first behind a b k p q e = rw (p, q, e) refl

pub counted_at : (first behind : Option VarName) (a b : VarName) → first ≡ Some a → behind ≡ Some b → AreCounted first behind → (a.num ≤ b.num) × (b.num < a.num + 2 ^ 32)
counted_at first behind a b p q h = (counted.1, counted.2)
  where
    counted : AreCounted (Some a) (Some b)
    counted = subst (λ (o : Option VarName). AreCounted (Some a) o) q (subst (λ (o : Option VarName). AreCounted o behind) p h)

pub ok_with : {A E P Q : Type 0} (r : Result A E) → OnOk r P → (P → Q) → OnOk r Q
ok_with (Ok x) h f = f h
ok_with (Err e) h f = tt

-- a number that fits in 32 bits
pub row_union : (first behind : Option VarName) (a b : VarName) (k : ℕ) (old new : List VarName) → first ≡ Some a → behind ≡ Some b → k ≡ b.num - a.num → IsUnion old (vars_between first behind) new → IsUnion old (vars_among (row_of (name.Var a) k)) new
row_union first behind a b k old new p q e h = subst (λ (xs : List VarName). IsUnion old xs new) (row_counted first behind a b k p q e) h
