use Rattle.std.proofs.Common.{rules, ◌≡◌, drop, Ok, Err, None, ap, ◌∙◌}
use Rattle.oz_lexer.specs.declared.token.LexKind.TheVariants.{OpenComment}
use Rattle.oz_lexer.specs.Blanks.{IsBehindBlanks}
use Rattle.oz_lexer.specs.Scan.{behind_blank}
use Rattle.oz_lexer.proofs.NextLemmas.{blanks_end, lex_next, lex_slice, open_next}
use Rattle.oz_lexer.proofs.lexer.lex.Goals as goal

pub overflow_sub-text : goal.overflow_sub-text
overflow_sub-text c =
    let s : IsBehindBlanks (drop c.args.at c.args.text.now) c.in-Ok.rest.now = search rules in
    (blanks_end c.args.text.now c.args.at c.in-Ok.rest.now c.requires s).within

pub token-requires-clause-blank : goal.token-requires-clause-blank
token-requires-clause-blank c =
    let s : IsBehindBlanks (drop c.args.at c.args.text.now) c.in-Ok.rest.now = search rules in
    let none : behind_blank c.in-Ok.rest.now ≡ Ok None = search rules in
    ap behind_blank (blanks_end c.args.text.now c.args.at c.in-Ok.rest.now c.requires s).is ∙ none

pub overflow_sub-result : goal.overflow_sub-result
overflow_sub-result c =
    let s : IsBehindBlanks (drop c.args.at c.args.text.now) c.in-Err.open.now = search rules in
    (blanks_end c.args.text.now c.args.at c.in-Err.open.now c.requires s).within

pub returns-in-Ok-clause-next : goal.returns-in-Ok-clause-next
returns-in-Ok-clause-next c =
    let s : IsBehindBlanks (drop c.args.at c.args.text.now) c.in-Ok.rest.now = search rules in
    lex_next c.args.text.now c.args.at c.in-Ok.rest.now c.token.result c.requires s c.token.ensures.begins

pub returns-in-Ok-clause-slice : goal.returns-in-Ok-clause-slice
returns-in-Ok-clause-slice c =
    let s : IsBehindBlanks (drop c.args.at c.args.text.now) c.in-Ok.rest.now = search rules in
    let h = blanks_end c.args.text.now c.args.at c.in-Ok.rest.now c.requires s in
    lex_slice c.args.text.now c.args.at _ c.token.result h.behind c.token.ensures.slice

pub returns-in-Err-clause-next : goal.returns-in-Err-clause-next
returns-in-Err-clause-next c =
    let s : IsBehindBlanks (drop c.args.at c.args.text.now) c.in-Err.open.now = search rules in
    let stays : behind_blank c.in-Err.open.now ≡ Err OpenComment = search rules in
    open_next c.args.text.now c.args.at c.in-Err.open.now c.requires s stays
