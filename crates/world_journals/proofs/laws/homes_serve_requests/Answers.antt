use Rattle.world_journals.proofs.AskedLemmas.{homes_serve_requests}
use Rattle.world_journals.proofs.laws.homes_serve_requests.Goals as goal

pub returns : goal.returns
returns c = record { served = homes_serve_requests }
