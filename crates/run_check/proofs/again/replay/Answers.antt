use Rattle.std.proofs.Common.{◌≡◌, ◌∙◌, sym, subst, ℕ, List, length}
use Rattle.std.specs.Prelude.{OnOk}
use Rattle.tree_node.specs.declared.names.ThreadName.{ThreadName}
use Rattle.world_core.specs.Replay.{IsReplayed, IsWorldStuck, PrintsOthers}
use Rattle.run_check.proofs.WorldLemmas.{next_or, wrong_or}
use Rattle.run_check.proofs.again.replay.Goals as goal

pub returns-clause-next : goal.returns-clause-next
returns-clause-next c l sites goes_on =
    let w = c.args.world.now in
    let e = c.args.entry.now in
    let place = c.in_ok-place.place in
    let threads : c.deref.result.now ≡ e.units = c.deref.ensures.value ∙ c.in_ok-threads.ensures in
    let lines : c.as_slice.result.now ≡ e.lines = c.as_slice.ensures in
    next_or l w c.replay.new.self e place (length c.deref.result.now) c.replay.result c.in_ok-place.ensures.place (sym sites) goes_on c.replay.ensures.run
    (subst (λ (z : List ThreadName × List (List ℕ)). OnOk c.replay.result (IsReplayed w c.replay.new.self e.site place z.0 z.1)) (λ i. (threads i, lines i)) c.replay.ensures.replayed) c.replay.ensures.turn

pub returns-clause-wrong : goal.returns-clause-wrong
returns-clause-wrong c l sites =
    let w = c.args.world.now in
    let e = c.args.entry.now in
    let place = c.in_ok-place.place in
    let threads : c.deref.result.now ≡ e.units = c.deref.ensures.value ∙ c.in_ok-threads.ensures in
    let lines : c.as_slice.result.now ≡ e.lines = c.as_slice.ensures in
    wrong_or l w e place c.replay.result c.in_ok-place.ensures.place (sym sites) c.replay.ensures.refused
    (λ at q. subst (λ (ths : List ThreadName). IsWorldStuck w e.site place ths at) threads (c.replay.ensures.stuck at q))
    (λ q. subst (λ (z : List ThreadName × List (List ℕ)). PrintsOthers w e.site place z.0 z.1) (λ i. (threads i, lines i)) (c.replay.ensures.other q))
