use Rattle.std.proofs.Common.{◌≡◌, ◌≢◌, ◌↔◌, ◌∙◌, ap, ℕ, ◌<◌, ◌+◌, List, [], ◌∷◌, ◌++◌, Some}
use Rattle.std.specs.Prelude.{nat_eq}
use Rattle.std.specs.Map.{set_value}
use Rattle.variable_owner.proofs.PlaceLemmas.{all_err, value_back}
use Rattle.variable_owner.proofs.row.keep.Goals as goal

pub returns-in_err-push-clause-err : goal.returns-in_err-push-clause-err
returns-in_err-push-clause-err c =
    all_err c.from_residual.result ((c.get_mut.follows.holds c.push.new.self).0 ∙ ap (λ (ks : List ℕ). set_value (nat_eq c.args.place) c.args.registered.now.entries ks) c.in_err-push.ensures.err ∙ value_back (nat_eq c.args.place) c.args.registered.now.entries c.in-Some.sites.now c.in-Some.ensures.value)
