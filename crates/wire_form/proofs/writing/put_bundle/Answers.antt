use Rattle.std.proofs.Common.{◌∙◌, ◌++◌, ap, length, List, ℕ}
use Rattle.std.specs.Int.{w16, to_be_bytes}
use Rattle.wire_reader.specs.Format.{equation}
use Rattle.wire_reader.proofs.FitsLaws.{bundle_has}
use Rattle.wire_form.proofs.WriteLaws.{writing_all, put_list}
use Rattle.wire_form.proofs.writing.put_bundle.Goals as goal

pub returns : goal.returns
returns c =
    let equations = c.args.equations.now in
    let w = writing_all (equation c.args.form) c.extend_from_slice.new.self.items equations c.loop-entry.entry-index c.loop-entry.out.items c.loop-entry-test.false c.loop-entry.invariant in
    let put = c.in_ok-extend_from_slice.ensures.items ∙ ap (λ (z : List ℕ). c.args.out.now.items ++ z) c.to_be_bytes.ensures in
    (bundle_has c.args.form equations c.requires.fits w.0, put_list (equation c.args.form) c.args.out.now.items c.extend_from_slice.new.self.items c.loop-entry.out.items (to_be_bytes w16 (length equations)) equations put w.1)
