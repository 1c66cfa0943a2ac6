use Rattle.site_wire.proofs.RunLemmas.{sites_send_what_fits}
use Rattle.site_wire.proofs.laws.sites_send_what_fits.Goals as goal

pub returns : goal.returns
returns c = sites_send_what_fits
