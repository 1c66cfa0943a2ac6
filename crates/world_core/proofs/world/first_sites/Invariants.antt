use Rattle.std.proofs.Common.{◌≡◌, ◌+◌, ℕ, length}
use Rattle.std.specs.Prelude.{Some, slice_get}
use Rattle.site_core.specs.Site.{SiteState}
use Rattle.site_message.specs.declared.story.NoSeat.{NoSeat}
use Rattle.world_core.specs.World.{IsNewSite}
use Rattle.world_core.proofs.world.first_sites.Given as goal

abbrev pub invariant-loop-number : goal.invariant-loop-number
invariant-loop-number l = record {
  length : length l.first.items + 1 ≡ l.number;
  sites : (i : ℕ) (s : SiteState NoSeat) → slice_get l.first.items i ≡ Some s → IsNewSite l.program l.sites i s;
}
