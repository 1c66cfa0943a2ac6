use Rattle.site_model.proofs.ExampleRun.{token_returns, bundle_travels}
use Rattle.site_model.proofs.laws.worked_turns.Goals as goal

pub returns : goal.returns
returns c = record { run = token_returns; bundle = bundle_travels }
