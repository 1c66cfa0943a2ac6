use Rattle.std.proofs.Common.{◌≡◌, ◌∙◌, ap, refl, sym, subst, List, Option, Result, Ok, Err, codes, rules}
use Rattle.clap.specs.Words.{Row, Text, found_of, one_of, one_text, rows_of}
use Rattle.clap.specs.declared.parser.matches.Found.{Found}
use Rattle.clap.proofs.WalkLemmas.{one_text-rows}
use Rattle.oz_words.specs.Command.{sites_option, workers_option, steps_option, messages_option}
use Rattle.oz_words.specs.declared.options.Action.{Action}
use Rattle.oz_words.specs.declared.options.Options.{Options}
use Rattle.oz_words.specs.declared.options.WordsError.{WordsError}
use Rattle.oz_words.specs.declared.options.WordsError.TheVariants.{Usage, Memory}
use Rattle.oz_words.specs.Matches.{words_rows}
use Rattle.oz_words.specs.Words.{ReadsAction, ReadsWords, IsNumberText, MayBeNumberText}
use Rattle.oz_words.proofs.options.read_options.Goals as goal

-- what a getter reads, by the rows
by_rows : (f : Found) (rows : List Row) (id : Text) → rows_of f ≡ rows → one_text f id ≡ one_of id rows
by_rows f rows id e = one_text-rows f id ∙ ap (one_of id) e

action_by_rows : (f : Found) (rows : List Row) (r : Result Action WordsError) → rows_of f ≡ rows
    → ReadsAction (one_text f (codes "action")) (one_text f (codes "number")) r → ReadsAction (one_of (codes "action") rows) (one_of (codes "number") rows) r
action_by_rows f rows r e read =
    subst (λ (named : Option Text). ReadsAction named (one_of (codes "number") rows) r) (by_rows f rows (codes "action") e)
    (subst (λ (number : Option Text). ReadsAction (one_text f (codes "action")) number r) (by_rows f rows (codes "number") e) read)

pub returns-clause-text : goal.returns-clause-text
returns-clause-text c =
    let p = c.in_ok-matches.ensures in
    let f = found_of c.in_ok-matches.matches in
    let action = action_by_rows f _ (Ok c.in_ok-action.action) p.rows c.in_ok-action.ensures.text in (
      (p.no_fault, action.0),
      record {
        sites = subst (λ (t : Option Text). IsNumberText t c.number_of.result) (by_rows f _ _ p.rows) c.number_of.ensures.text;
        workers = subst (λ (t : Option Text). IsNumberText t c.number_of-2.result) (by_rows f _ _ p.rows) c.number_of-2.ensures.text;
        steps = subst (λ (t : Option Text). IsNumberText t c.number_of-3.result) (by_rows f _ _ p.rows) c.number_of-3.ensures.text;
        messages = subst (λ (t : Option Text). IsNumberText t c.number_of-4.result) (by_rows f _ _ p.rows) c.number_of-4.ensures.text;
        seed = subst (λ (t : Option Text). MayBeNumberText t c.seed_in.result) (by_rows f _ _ p.rows) c.seed_in.ensures;
        action = action.1;
      },
    )

not_taken : (words : List Text) (r : Result Options WordsError) (e : WordsError) → r ≡ Err e
    → ReadsAction (one_of (codes "action") (words_rows words)) (one_of (codes "number") (words_rows words)) (Err e) → ReadsWords words r
not_taken words r Usage is read = subst (ReadsWords words) (sym is) (λ taken. read taken.1)
not_taken words r Memory is read = absurd read

pub returns-in_err-action-clause-text : goal.returns-in_err-action-clause-text
returns-in_err-action-clause-text c =
    let p = c.in_ok-matches.ensures in
    not_taken _ _ c.in_err-action.field-0.0 (search rules)
    (action_by_rows (found_of c.in_ok-matches.matches) _ (Err c.in_err-action.field-0.0) p.rows c.in_err-action.ensures.text)

pub number_of-requires : goal.number_of-requires
number_of-requires c = (sites_option, refl, c.in_ok-matches.ensures.sites)

pub number_of-requires-2 : goal.number_of-requires-2
number_of-requires-2 c = (workers_option, refl, c.in_ok-matches.ensures.workers)

pub number_of-requires-3 : goal.number_of-requires-3
number_of-requires-3 c = (steps_option, refl, c.in_ok-matches.ensures.steps)

pub number_of-requires-4 : goal.number_of-requires-4
number_of-requires-4 c = (messages_option, refl, c.in_ok-matches.ensures.messages)
