use Rattle.std.proofs.Common.{arith, ◌≡◌, ◌≢◌, sym, refl, length, List, [], ◌∷◌, Bool, true, false, ◌&&◌}
use Rattle.tree_node.specs.declared.names.VarName.{VarName}
use Rattle.tree_node.specs.declared.node.Feature.{Feature}
use Rattle.tree_node.specs.Goal.{equal_fields, equal_feature}
use Rattle.tree_node.specs.Store.{equal_var}
use Rattle.tree_node.proofs.node.equal_fields.Goals as goal

and_false : (a b : Bool) → (a && (b && false)) ≡ false
and_false true true = refl
and_false true false = refl
and_false false b = refl

equal_fields-length : (xs ys : List (Feature × VarName)) → length xs ≢ length ys → equal_fields xs ys ≡ false
equal_fields-length [] [] h = absurd (h refl)
equal_fields-length [] (y ∷ ys) h = refl
equal_fields-length (x ∷ xs) [] h = refl
equal_fields-length ((f, x) ∷ xs) ((g, y) ∷ ys) h =
    let shorter : length xs ≢ length ys = λ e. h (omega arith) in
    rw (equal_fields-length xs ys shorter) (and_false (equal_feature f g) (equal_var x y))

-- lists of different lengths are not the same
pub returns-then-left-right-clause-test : goal.returns-then-left-right-clause-test
returns-then-left-right-clause-test c =
    let differs : length c.args.left.now ≢ length c.args.right.now = λ e. omega (arith, c.if-left-right.true) in
    sym (equal_fields-length c.args.left.now c.args.right.now differs)
