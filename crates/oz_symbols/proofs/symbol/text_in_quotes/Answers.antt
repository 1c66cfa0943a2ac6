use Rattle.std.proofs.Common.{◌≡◌, ◌++◌, [], ◌∷◌, ◌∙◌, arith, rules}
use Rattle.oz_symbols.proofs.Escapes.{ends_escaping, ends_plain}
use Rattle.oz_symbols.proofs.symbol.text_in_quotes.Goals as goal

pub returns-then-escaping : goal.returns-then-escaping
returns-then-escaping c =
    let pushed : c.push.new.self.items ≡ c.loop-byte.text.items ++ 92 ∷ [] = search rules in
    pushed ∙ ends_escaping c.loop-byte.escaping c.loop-byte.text.items c.args.spelled.now c.loop-byte.byte-index c.if-escaping.true (omega arith) c.loop-byte.invariant

pub returns : goal.returns
returns c = ends_plain c.loop-byte.escaping c.loop-byte.text.items c.args.spelled.now c.loop-byte.byte-index c.if-escaping.false (omega arith) c.loop-byte.invariant
