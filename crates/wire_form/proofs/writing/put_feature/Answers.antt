use Rattle.std.proofs.Common.{◌∙◌, rules, subst, ℤ}
use Rattle.std.specs.Prelude.{FitsSigned}
use Rattle.std.specs.Int.{w128}
use Rattle.std.proofs.lemmas.Int.{to_z-of_z}
use Rattle.wire_reader.specs.Format.{integer}
use Rattle.wire_form.specs.Writing.{IsWritten}
use Rattle.wire_form.proofs.WriteLaws.{writes_tag}
use Rattle.wire_form.proofs.writing.put_feature.Goals as goal

pub returns-in_ok-push-in-Int : goal.returns-in_ok-push-in-Int
returns-in_ok-push-in-Int c =
    let form = c.args.form in
    let mid = c.push.new.self.items in
    let new = c.put_integer.new.out.items in
    let fits : FitsSigned w128 c.get.result = search rules in
    let put = subst (λ (z : ℤ). IsWritten (integer form) z mid new c.put_integer.result) (to_z-of_z w128 c.get.result fits ∙ c.get.ensures) c.put_integer.ensures in
    rw c.in-Int.is (writes_tag 0 (integer form) c.in-Int.number c.args.out.now.items mid new c.put_integer.result c.in_ok-push-in-Int.ensures.items put)
