use Rattle.std.proofs.Common.{rules, arith, ◌≡◌, ◌+◌, drop, Ok, Err, sym, subst, List, ℕ}
use Rattle.oz_lexer.specs.Tokens.{IsLexemeAt}
use Rattle.oz_lexer.specs.Scan.{front_of}
use Rattle.oz_lexer.proofs.Cuts.{token_is_cut, fault_within}
use Rattle.oz_lexer.proofs.FrontLemmas.{err_begins}
use Rattle.oz_lexer.proofs.lexer.token.Goals as goal

pub overflow_add-end : goal.overflow_add-end
overflow_add-end c =
    let found : front_of (drop c.args.start c.args.text.now) ≡ Ok (c.in-Ok.kind, c.in-Ok.length) = search rules in
    let cut = token_is_cut c.args.text.now c.args.start c.in-Ok.kind c.in-Ok.length c.utf8.text c.requires.start c.requires.blank found in
    search (rules, cut.within)

pub slice-requires-clause-start : goal.slice-requires-clause-start
slice-requires-clause-start c =
    let found : front_of (drop c.args.start c.args.text.now) ≡ Ok (c.in-Ok.kind, c.in-Ok.length) = search rules in
    (token_is_cut c.args.text.now c.args.start c.in-Ok.kind c.in-Ok.length c.utf8.text c.requires.start c.requires.blank found).first

pub slice-requires-clause-end : goal.slice-requires-clause-end
slice-requires-clause-end c =
    let found : front_of (drop c.args.start c.args.text.now) ≡ Ok (c.in-Ok.kind, c.in-Ok.length) = search rules in
    (token_is_cut c.args.text.now c.args.start c.in-Ok.kind c.in-Ok.length c.utf8.text c.requires.start c.requires.blank found).last

pub overflow_add-result : goal.overflow_add-result
overflow_add-result c =
    let found : front_of (drop c.args.start c.args.text.now) ≡ Err (c.in-Err.kind, c.in-Err.before) = search rules in
    let within = fault_within c.args.text.now c.args.start c.in-Err.kind c.in-Err.before c.requires.start c.requires.blank found in
    search (rules, within)

pub returns-in-Ok-clause-begins : goal.returns-in-Ok-clause-begins
returns-in-Ok-clause-begins c =
    let found : front_of (drop c.args.start c.args.text.now) ≡ Ok (c.in-Ok.kind, c.in-Ok.length) = search rules in
    let cut = token_is_cut c.args.text.now c.args.start c.in-Ok.kind c.in-Ok.length c.utf8.text c.requires.start c.requires.blank found in
    subst (λ (xs : List ℕ). IsLexemeAt c.args.start (drop c.args.start c.args.text.now) (Ok c.in-Ok.kind) c.args.start xs (drop (c.args.start + c.in-Ok.length) c.args.text.now)) (sym c.slice.ensures) cut.begins

pub returns-in-Ok-clause-slice : goal.returns-in-Ok-clause-slice
returns-in-Ok-clause-slice c =
    let found : front_of (drop c.args.start c.args.text.now) ≡ Ok (c.in-Ok.kind, c.in-Ok.length) = search rules in
    let cut = token_is_cut c.args.text.now c.args.start c.in-Ok.kind c.in-Ok.length c.utf8.text c.requires.start c.requires.blank found in
    record { order = omega arith; span = omega arith; within = cut.within; slice = c.slice.ensures }

pub returns-in-Err-clause-begins : goal.returns-in-Err-clause-begins
returns-in-Err-clause-begins c =
    let found : front_of (drop c.args.start c.args.text.now) ≡ Err (c.in-Err.kind, c.in-Err.before) = search rules in
    err_begins c.args.start (drop c.args.start c.args.text.now) c.in-Err.kind c.in-Err.before c.requires.blank found

pub returns-in-Err-clause-slice : goal.returns-in-Err-clause-slice
returns-in-Err-clause-slice c =
    let found : front_of (drop c.args.start c.args.text.now) ≡ Err (c.in-Err.kind, c.in-Err.before) = search rules in
    fault_within c.args.text.now c.args.start c.in-Err.kind c.in-Err.before c.requires.start c.requires.blank found
