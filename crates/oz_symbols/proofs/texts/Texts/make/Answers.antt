use Rattle.std.proofs.Common.{◌≡◌, ◌∙◌, sym, subst}
use Rattle.oz_symbols.specs.Texts.{AreSpelled}
use Rattle.oz_symbols.proofs.Interning.{spelled_more}
use Rattle.oz_symbols.proofs.texts.Texts.make.Goals as goal

pub invariant_of-self-2 : goal.invariant_of-self-2
invariant_of-self-2 c =
    let is : c.in_ok-copy.field-0 ≡ c.args.spelled.now = c.in_ok-copy.ensures ∙ c.in_ok-text.ensures ∙ c.in_ok-from_slice.ensures.items ∙ c.as_bytes.ensures.value in
    subst AreSpelled (sym c.in_ok-insert.ensures.entries) (spelled_more c.self.inside.made.entries c.args.spelled c.in_ok-copy.field-0 c.self.invariant is)
