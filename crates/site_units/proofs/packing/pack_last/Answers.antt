use Rattle.site_units.proofs.PackLemmas.{none_packed}
use Rattle.site_units.proofs.packing.pack_last.Goals as goal

pub loop-taken-init : goal.loop-taken-init
loop-taken-init c = none_packed c.args.store.now.equations c.args.sent.now _ c.new-packed.ensures.items
