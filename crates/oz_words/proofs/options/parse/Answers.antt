use Rattle.std.proofs.Common.{◌≡◌, ◌∙◌, ap, sym, [], ◌∷◌, true, inl, inr}
use Rattle.std.specs.Prelude.{◌≢◌}
use Rattle.clap.specs.Words.{app_of, is_simple, is_simple_and_free}
use Rattle.clap.specs.Kinds.{IsAmong, Kinds}
use Rattle.clap.specs.declared.error.ErrorKind.{ErrorKind}
use Rattle.oz_words.proofs.Arguments.{sites_number, workers_number, steps_number, messages_number, action_value, seed_value, size_value, simple, simple_and_free}
use Rattle.oz_words.proofs.options.parse.Goals as goal

refused : (k : ErrorKind) (faults : Kinds) → IsAmong k faults → faults ≢ []
refused k [] among = absurd among
refused k (f ∷ fs) among = λ e. cc

pub returns-in-Ok-try_get_matches_from : goal.returns-in-Ok-try_get_matches_from
returns-in-Ok-try_get_matches_from c =
    let app = c.in-Ok.ensures.app in
    let made = c.in-Ok.ensures.words _ in
    let parsed = c.in-Ok-try_get_matches_from.ensures in
    let free : is_simple_and_free (app_of c.in-Ok.command) ≡ true = ap is_simple_and_free app.2 ∙ simple_and_free app.0 in
    let plain : is_simple (app_of c.in-Ok.command) ≡ true = ap is_simple app.2 ∙ simple app.0 in
    let m = c.in-Ok-try_get_matches_from.matches in
    record {
      no_fault = sym made.0 ∙ parsed.kinds free;
      rows = (parsed.matches plain).0 ∙ made.1;
      sites = sites_number c.in-Ok.command app.0 app.2 m parsed.parsed;
      workers = workers_number c.in-Ok.command app.0 app.2 m parsed.parsed;
      steps = steps_number c.in-Ok.command app.0 app.2 m parsed.parsed;
      messages = messages_number c.in-Ok.command app.0 app.2 m parsed.parsed;
      seed = seed_value c.in-Ok.command app.0 app.2 m parsed.parsed;
      action = action_value c.in-Ok.command app.0 app.2 app.1 m parsed.parsed;
      size = size_value c.in-Ok.command app.0 app.2 m parsed.parsed;
    }

pub returns : goal.returns
returns c =
    let app = c.in-Ok.ensures.app in
    let made = c.in-Ok.ensures.words _ in
    let free : is_simple_and_free (app_of c.in-Ok.command) ≡ true = ap is_simple_and_free app.2 ∙ simple_and_free app.0 in
    elim (c.in-Err-try_get_matches_from.ensures.kinds free) [
      | inl memory ↦ absurd (c.in_default.not-OutOfMemory (c.kind.ensures ∙ memory))
      | inr among ↦ λ none. refused _ _ among (made.0 ∙ none)
    ]
