use Rattle.std.proofs.Common.{◌≡◌, false, rules}
use Rattle.std.proofs.lemmas.Result.{err_from_is_err_and}
use Rattle.oz_grammar.specs.Reading.{is_close_round}
use Rattle.oz_phrases.proofs.Unfold.{fields_refused}
use Rattle.oz_phrases.proofs.fields.fields_in_brackets.Goals as goal

pub returns-in_err-following-clause-read : goal.returns-in_err-following-clause-read
returns-in_err-following-clause-read c =
    let p = err_from_is_err_and c.from_residual.result c.from_residual.ensures.1 in
    let open_ : is_close_round c.loop-purpose.rest.now ≡ false = search rules in
    rw (p.1, p.2) (fields_refused c.in_err-following.field-0.0 c.args.purpose c.args.scope.now c.loop-purpose.room c.loop-purpose.fields.items c.loop-purpose.next c.loop-purpose.rest.now _ c.loop-purpose.invariant.read open_ (search rules))
