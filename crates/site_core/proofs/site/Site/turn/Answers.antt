use Rattle.std.proofs.Common.{◌∙◌, ap, subst, sym, ◌+◌, ◌≤◌, ◌^◌}
use Rattle.std.specs.Prelude.{IfOk, OnOk}
use Rattle.site_core.specs.Site.{IsTurnInOrder, IsTurnMade, message_in}
use Rattle.site_units.specs.Core.{site_of}
use Rattle.site_core.proofs.site.Site.turn.Goals as goal

pub guarded_turn-requires-clause-consistent : goal.guarded_turn-requires-clause-consistent
guarded_turn-requires-clause-consistent g c = (c.self.invariant (ap (λ s. s.spent) c.self.view_is ∙ c.requires.live)).0

pub guarded_turn-requires-clause-empty : goal.guarded_turn-requires-clause-empty
guarded_turn-requires-clause-empty g c = (c.self.invariant (ap (λ s. s.spent) c.self.view_is ∙ c.requires.live)).1

pub guarded_turn-requires-clause-room : goal.guarded_turn-requires-clause-room
guarded_turn-requires-clause-room g c = subst (λ s. s.state.steps ≤ 2 ^ 48) (sym c.self.view_is) c.requires.room

pub returns-clause-sites : goal.returns-clause-sites
returns-clause-sites g c = c.guarded_turn.ensures.sites ∙ ap (λ s. s.sites) c.self.view_is

pub returns-clause-number : goal.returns-clause-number
returns-clause-number g c = c.guarded_turn.ensures.number ∙ ap (λ s. s.state.records.site) c.self.view_is

pub returns-clause-turn : goal.returns-clause-turn
returns-clause-turn g c =
    subst (λ s. IfOk c.guarded_turn.result (λ e. IsTurnMade s.program s.sites s.state c.args.message c.args.quantum.0 e (site_of c.guarded_turn.new.core))) c.self.view_is c.guarded_turn.ensures.turn

pub returns-clause-order : goal.returns-clause-order
returns-clause-order g c =
    subst (λ s. IfOk c.guarded_turn.result (λ e. IsTurnInOrder s.program s.sites s.state (message_in c.args.message) e (site_of c.guarded_turn.new.core) s.order c.guarded_turn.new.core.threads.order)) c.self.view_is
    c.guarded_turn.ensures.order

pub returns-clause-few : goal.returns-clause-few
returns-clause-few g c = subst (λ s. OnOk c.guarded_turn.result (c.guarded_turn.new.core.steps ≤ s.state.steps + c.args.quantum.0)) c.self.view_is c.guarded_turn.ensures.steps

pub returns-clause-live : goal.returns-clause-live
returns-clause-live g c = c.guarded_turn.ensures.live

pub returns-clause-spent : goal.returns-clause-spent
returns-clause-spent g c = c.guarded_turn.ensures.over
