use Rattle.std.proofs.Common.{vec_len}
use Rattle.site_worker.proofs.driving.+drive_in.Given as goal

abbrev pub decreases-drive_in : goal.decreases-drive_in
decreases-drive_in g l = vec_len l.load.groups
