use Rattle.std.proofs.Common.{◌≡◌, ◌+◌, ◌∷◌, [], length, length-append, ap, ◌∙◌, arith}
use Rattle.site_model.specs.Site.{initial_site}
use Rattle.site_worker.specs.Sites.{IsNewSite}
use Rattle.site_worker.proofs.NewSites.{more_sites}
use Rattle.site_worker.proofs.sites.new_sites.Goals as goal

pub loop-k-preserved : goal.loop-k-preserved
loop-k-preserved c =
    let s = c.in_ok-new.field-0 in
    let made = c.in_ok-new.ensures in
    let old = c.loop-k.invariant in
    let many = old.0 in
    let items = c.in_ok-push.ensures.items in
    let number : c.loop-k.k + 1 ≡ 1 + length c.loop-k.sites.items = omega arith in
    let new : IsNewSite c.args.program.now c.args.count (1 + length c.loop-k.sites.items) s =
    record { program = made.program; sites = made.sites; state = made.state ∙ ap (initial_site c.args.program.now c.args.count) number; live = made.live } in
    let long = ap length items ∙ length-append c.loop-k.sites.items (s ∷ []) in
    (omega arith, rw items (more_sites c.args.program.now c.args.count 1 c.loop-k.sites.items s old.1 new))
