use Rattle.std.proofs.Common.{◌≡◌, ◌∙◌, ◌++◌, ℕ, List, rules, subst, ℤ}
use Rattle.std.specs.Prelude.{FitsSigned}
use Rattle.std.specs.Int.{w128}
use Rattle.std.proofs.lemmas.Int.{to_z-of_z}
use Rattle.tree_node.specs.declared.names.VarName.{VarName}
use Rattle.tree_node.specs.declared.node.Feature.{Feature}
use Rattle.byte_fields.specs.Field.{◌before◌}
use Rattle.wire_reader.specs.Format as format
use Rattle.wire_reader.specs.Format.{integer}
use Rattle.wire_form.specs.Writing.{IsWritten}
use Rattle.wire_form.proofs.WriteLaws.{writes_tag, writes_then, formals_written}
use Rattle.wire_form.proofs.writing.put_node.Goals as goal

pub returns-in_ok-push-in-Int : goal.returns-in_ok-push-in-Int
returns-in_ok-push-in-Int c =
    let form = c.args.form in
    let mid = c.push.new.self.items in
    let new = c.put_integer.new.out.items in
    let fits : FitsSigned w128 c.get.result = search rules in
    let put = subst (λ (z : ℤ). IsWritten (integer form) z mid new c.put_integer.result) (to_z-of_z w128 c.get.result fits ∙ c.get.ensures) c.put_integer.ensures in
    rw c.in-Int.is (writes_tag 1 (integer form) c.in-Int.number c.args.out.now.items mid new c.put_integer.result c.in_ok-push-in-Int.ensures.items put)

pub returns-in_ok-push-in-Proc-2 : goal.returns-in_ok-push-in-Proc-2
returns-in_ok-push-in-Proc-2 c =
    let m = c.in-Proc in
    let one = c.push-in-Proc.new.self.items in
    let two = c.put_proc.new.out.items in
    let three = c.put_code.new.out.items in
    let four = c.push-in-Proc-2.new.self.items in
    let new = c.put_variables.new.out.items in
    let r = c.put_variables.result in
    let fits = rw m.is at c.requires.fits in
    let formals = formals_written m.count three four fits.1 c.in_ok-push-in-Proc-2.ensures.items in
    let vars = subst (λ (xs : List VarName). IsWritten format.variables xs four new r) c.as_slice-in-Proc.ensures c.put_variables.ensures in
    rw m.is
    (writes_tag 4 format.procedure (m.name, (m.code, (m.count, m.vars))) c.args.out.now.items one new r c.in_ok-push-in-Proc.ensures.items
    (writes_then format.proc_name (format.code before format.formals before format.variables) m.name (m.code, (m.count, m.vars)) one two new r c.in_ok-put_proc-in-Proc.ensures
    (writes_then format.code (format.formals before format.variables) m.code (m.count, m.vars) two three new r c.in_ok-put_code-in-Proc.ensures
    (writes_then format.formals format.variables m.count m.vars three four new r formals vars))))

pub returns-in_ok-put_text-in-Rec : goal.returns-in_ok-put_text-in-Rec
returns-in_ok-put_text-in-Rec c =
    let m = c.in-Rec in
    let form = c.args.form in
    let one = c.push-in-Rec.new.self.items in
    let two = c.put_text-in-Rec.new.out.items in
    let new = c.put_fields.new.out.items in
    let r = c.put_fields.result in
    let label = subst (λ (xs : List ℕ). format.text.Has xs × (two ≡ one ++ format.text.spelling xs)) c.as_slice-in-Rec.ensures c.in_ok-put_text-in-Rec.ensures in
    let fields = subst (λ (xs : List (Feature × VarName)). IsWritten (format.record_fields form) xs two new r) c.as_slice-in-Rec-2.ensures c.put_fields.ensures in
    rw m.is
    (writes_tag 3 (format.tree form) (m.label, m.fields) c.args.out.now.items one new r c.in_ok-push-in-Rec.ensures.items
    (writes_then format.text (format.record_fields form) m.label m.fields one two new r label fields))
