use Rattle.std.proofs.Common.{◌∙◌, sym}
use Rattle.oz_symbols.proofs.Interning.{found_spelled}
use Rattle.oz_symbols.proofs.texts.Texts.interned.Goals as goal

pub returns-in_ok-copy-in-Some : goal.returns-in_ok-copy-in-Some
returns-in_ok-copy-in-Some c =
    c.in_ok-copy-in-Some.ensures
    ∙ found_spelled c.self.inside.made.entries c.args.spelled.now c.in-Some.text.now c.self.invariant (sym c.in-Some.ensures.value)
