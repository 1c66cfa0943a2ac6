use Rattle.std.proofs.Common.{arith, ◌≡◌, sym, subst, List, ℕ, length}
use Rattle.std.specs.Prelude.{Some, slice_get}
use Rattle.site_model.specs.Site.{initial_site}
use Rattle.site_core.specs.Site.{SiteState}
use Rattle.site_core.specs.Start.{first_order}
use Rattle.site_message.specs.declared.story.NoSeat.{NoSeat}
use Rattle.world_core.specs.World.{IsNewSite}
use Rattle.world_core.proofs.PlaceLemmas.{push_all}
use Rattle.world_core.proofs.world.first_sites.Goals as goal

pub loop-number-preserved : goal.loop-number-preserved
loop-number-preserved c = record {
  length = omega (arith, c.in_ok-push.ensures.len, c.loop-number.invariant.length);
  sites = λ i s h. push_all (IsNewSite c.args.program.now c.args.sites) c.loop-number.first.items c.in_ok-new.field-0 c.loop-number.invariant.sites here i s
      (subst (λ (xs : List (SiteState NoSeat)). slice_get xs i ≡ Some s) c.in_ok-push.ensures.items h);
}
  where
    here : IsNewSite c.args.program.now c.args.sites (length c.loop-number.first.items) c.in_ok-new.field-0
    here = (
      (c.in_ok-new.ensures.program, c.in_ok-new.ensures.sites, c.in_ok-new.ensures.live),
      subst (λ (n : ℕ). c.in_ok-new.field-0.state ≡ initial_site c.args.program.now c.args.sites n) (sym c.loop-number.invariant.length) c.in_ok-new.ensures.state,
      subst (λ (n : ℕ). c.in_ok-new.field-0.order ≡ first_order n) (sym c.loop-number.invariant.length) c.in_ok-new.ensures.order,
    )
