use Rattle.std.proofs.Common.{◌∙◌, ap, subst, length, sym, ◌+◌, ◌≤◌, ◌^◌}
use Rattle.std.specs.Prelude.{IfOk, OnOk}
use Rattle.site_message.specs.declared.turn.Turn.{Turn}
use Rattle.site_core.specs.Replay.{IsReplayMade, IsStuckTurn}
use Rattle.site_core.specs.Site.{IsTurnMade, message_in}
use Rattle.site_core.proofs.ResultLemmas.{if_ok_more}
use Rattle.site_core.proofs.ReplayLemmas.{replay_is_turn}
use Rattle.site_units.specs.Core.{site_of}
use Rattle.site_core.proofs.site.Site.replay.Goals as goal

pub guarded_replay-requires-clause-consistent : goal.guarded_replay-requires-clause-consistent
guarded_replay-requires-clause-consistent g c = (c.self.invariant (ap (λ s. s.spent) c.self.view_is ∙ c.requires.live)).0

pub guarded_replay-requires-clause-empty : goal.guarded_replay-requires-clause-empty
guarded_replay-requires-clause-empty g c = (c.self.invariant (ap (λ s. s.spent) c.self.view_is ∙ c.requires.live)).1

pub guarded_replay-requires-clause-room : goal.guarded_replay-requires-clause-room
guarded_replay-requires-clause-room g c = subst (λ s. s.state.steps ≤ 2 ^ 48) (sym c.self.view_is) c.requires.room

pub returns-clause-sites : goal.returns-clause-sites
returns-clause-sites g c = c.guarded_replay.ensures.sites ∙ ap (λ s. s.sites) c.self.view_is

pub returns-clause-number : goal.returns-clause-number
returns-clause-number g c = c.guarded_replay.ensures.number ∙ ap (λ s. s.state.records.site) c.self.view_is

pub returns-clause-turn : goal.returns-clause-turn
returns-clause-turn g c =
    subst (λ s. IfOk c.guarded_replay.result (λ e. IsReplayMade s.program s.sites s.state c.args.message c.args.threads.now e (site_of c.guarded_replay.new.core))) c.self.view_is c.guarded_replay.ensures.turn

pub returns-clause-stuck : goal.returns-clause-stuck
returns-clause-stuck g c at e =
    subst (λ s. IsStuckTurn s.program s.sites s.state (message_in c.args.message) c.args.threads.now at) c.self.view_is (c.guarded_replay.ensures.stuck at e)

pub returns-clause-as_many : goal.returns-clause-as_many
returns-clause-as_many g c =
    let now = site_of c.guarded_replay.new.core in
    if_ok_more c.guarded_replay.result (λ (e : Turn). IsReplayMade c.args.self.now.program c.args.self.now.sites c.args.self.now.state c.args.message c.args.threads.now e now)
    (λ (e : Turn). IsTurnMade c.args.self.now.program c.args.self.now.sites c.args.self.now.state c.args.message (length c.args.threads.now) e now)
    (λ e made. replay_is_turn c.args.self.now.program c.args.self.now.sites c.args.self.now.state c.args.message c.args.threads.now e now made)
    (subst (λ s. IfOk c.guarded_replay.result (λ e. IsReplayMade s.program s.sites s.state c.args.message c.args.threads.now e (site_of c.guarded_replay.new.core))) c.self.view_is c.guarded_replay.ensures.turn)

pub returns-clause-few : goal.returns-clause-few
returns-clause-few g c = subst (λ s. OnOk c.guarded_replay.result (c.guarded_replay.new.core.steps ≤ s.state.steps + length c.args.threads.now)) c.self.view_is c.guarded_replay.ensures.steps

pub returns-clause-live : goal.returns-clause-live
returns-clause-live g c = c.guarded_replay.ensures.live

pub returns-clause-spent : goal.returns-clause-spent
returns-clause-spent g c = c.guarded_replay.ensures.over
