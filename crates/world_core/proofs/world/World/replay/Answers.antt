use Rattle.std.proofs.Common.{rules, arith, ◌≡◌, ◌≤◌, ◌+◌, ◌-◌, ◌++◌, ◌∙◌, ap, refl, sym, subst, ℕ, List, ◌∷◌, length, length-set, map, Bool, false, Err}
use Rattle.std.specs.Bool.{IsTrue}
use Rattle.std.proofs.lemmas.Bool.{false≢true}
use Rattle.std.specs.Prelude.{slice_set}
use Rattle.std.specs.List.{enumerate_from}
use Rattle.site_message.specs.declared.message.Sent.{Sent}
use Rattle.site_message.specs.declared.turn.Turn.{Turn}
use Rattle.site_model.specs.Bundle.{bundle_limit}
use Rattle.site_model.specs.Run.{WorldRun}
use Rattle.site_units.specs.declared.replay.Replay.{Replay}
use Rattle.world_core.specs.declared.travel.Travel.{Travel}
use Rattle.world_core.specs.declared.refusal.WorldRefusal.{WorldRefusal}
use Rattle.world_core.specs.declared.refusal.ReplayRefusal.TheVariants as refusal
use Rattle.world_core.specs.World.{WorldState, IsConsistent, state_in, states_by}
use Rattle.world_core.specs.Travels.{IsNotThere}
use Rattle.world_core.proofs.ReplayLemmas.{replayed_there, stuck_there, others_there, state_set, same_entry, Told, not_there, site_stuck, site_there, site_lines}
use Rattle.world_core.proofs.TurnLemmas.{After, after_turn, taken_below, turn_stays}
use Rattle.world_core.proofs.WorldLemmas.{machine, were_fit, protocols, answers_hold, messages_few}
use Rattle.world_core.proofs.world.World.replay.Goals as goal

pub push_all-requires : goal.push_all-requires
push_all-requires c =
    let w = c.self.inside in
    let live : w.spent ≡ false = ap (λ (v : WorldState). v.spent) c.self.view_is ∙ c.requires.live in
    let k = c.self.invariant.live live in
    record { below = taken_below w.journal w.mail.messages c.take_message.new.mail.messages k.travels c.args.site c.args.place c.in_ok-message.message c.in_ok-message.ensures.taken w.sent k.count }

-- the world before, which can make turns
before : (c : goal.After-self-4-1) → IsConsistent c.self.inside.program.now c.self.inside.journal c.self.inside.sites.items c.self.inside.mail c.self.inside.sent false
before c =
    let w = c.self.inside in
    let live : w.spent ≡ false = ap (λ (v : WorldState). v.spent) c.self.view_is ∙ c.requires.live in
    subst (λ (b : Bool). IsConsistent w.program.now w.journal w.sites.items w.mail w.sent b) live c.self.invariant

after : (c : goal.After-self-4-1) → After c.self.inside.program.now c.self.inside.journal c.self.inside.sites.items c.self.inside.mail c.take_message.new.mail c.self.inside.sent c.args.site (c.args.site - 1) c.args.place (length c.args.threads.now) c.index_mut.result.now c.replay.new.self c.in_ok-made.made
after c =
    let w = c.self.inside in
    let sites : length w.sites.items ≡ c.args.self.now.sites = ap (λ (v : WorldState). v.sites) c.self.view_is in
    let among = c.requires.among in
    let high : c.args.site ≤ length w.sites.items = omega arith in
    after_turn w.program.now w.journal w.sites.items w.mail c.take_message.new.mail w.sent (before c) c.args.site c.requires.some high c.args.place (length c.args.threads.now) c.requires.units
    c.index_mut.result.now c.replay.new.self c.index_mut.ensures.value c.in_ok-message.message c.in_ok-message.ensures.taken c.in_ok-made.made c.in_ok-made.ensures.as_many

pushed : (c : goal.After-self-4-1) → c.push.new.self ≡ c.in_ok-made.made ∷ c.self.inside.journal
pushed c = search rules

pub invariant_of-self-2 : goal.invariant_of-self-2
invariant_of-self-2 c =
    let w = c.self.inside in
    let sent : c.push_all.new.self.messages ≡ c.take_message.new.mail.messages ++ enumerate_from w.sent c.in_ok-made.made.sent = c.in_ok-self-inside.ensures.messages ∙ ap (λ (ms : List Sent). c.take_message.new.mail.messages ++ enumerate_from w.sent ms) c.as_slice.ensures in
    let next : c.in_ok-self-inside.field-0 ≡ w.sent + length c.in_ok-made.made.sent = c.in_ok-self-inside.ensures.next ∙ ap (λ (ms : List Sent). w.sent + length ms) c.as_slice.ensures in
    subst (λ (j : List Turn). IsConsistent w.program.now j (slice_set w.sites.items (c.args.site - 1) c.replay.new.self) c.push_all.new.self c.in_ok-self-inside.field-0 false) (sym (pushed c))
    ((after c).consistent c.push_all.new.self c.in_ok-self-inside.field-0 c.take_message.ensures.queues c.push_all.ensures.queues sent next c.replay.ensures.program c.replay.ensures.sites c.in_ok-made.ensures.live)

pub returns-clause-turn : goal.returns-clause-turn
returns-clause-turn c =
    (after c).turn c.args.self.now _ (ap (λ (v : WorldState). v.program) (sym c.self.view_is)) (ap (λ (v : WorldState). v.sites) (sym c.self.view_is)) (ap (λ (v : WorldState). v.journal) (sym c.self.view_is))
    (ap (λ (v : WorldState). v.states) (sym c.self.view_is)) (ap (λ (v : WorldState). v.travels) (sym c.self.view_is)) refl (length-set c.self.inside.sites.items (c.args.site - 1) c.replay.new.self) (pushed c) refl c.in_ok-made.ensures.few

pub returns-clause-replayed : goal.returns-clause-replayed
returns-clause-replayed c =
    let w = c.self.inside in
    let sites : length w.sites.items ≡ c.args.self.now.sites = ap (λ (v : WorldState). v.sites) c.self.view_is in
    let among = c.requires.among in
    let high : c.args.site ≤ length w.sites.items = omega arith in
    let t = returns-clause-turn c in
    let entry : t.entry ≡ c.in_ok-made.made = same_entry t.entry c.in_ok-made.made _ _ (sym t.journal ∙ pushed c) in
    replayed_there w.program.now w.journal w.sites.items w.mail w.sent (before c) c.args.site c.requires.some high c.args.place c.index_mut.result.now c.index_mut.ensures.value c.in_ok-message.message
    c.take_message.new.mail c.in_ok-message.ensures.taken c.args.self.now (ap (λ (v : WorldState). v.program) (sym c.self.view_is)) (ap (λ (v : WorldState). v.sites) (sym c.self.view_is))
    (ap (λ (v : WorldState). v.journal) (sym c.self.view_is)) (ap (λ (v : WorldState). v.states) (sym c.self.view_is)) (ap (λ (v : WorldState). v.travels) (sym c.self.view_is))
    c.args.threads.now c.args.lines.now c.in_ok-made.made c.replay.new.self.state _ c.in_ok-made.ensures.turn (c.has_lines.ensures.same c.if-not-has_lines.false) (pushed c) (ap (λ (x : Turn). x.site) (sym entry) ∙ t.site_is)
    (state_set w.program.now w.sites.items c.args.site c.replay.new.self c.requires.some high)

pub returns-clause-stays : goal.returns-clause-stays
returns-clause-stays c = turn_stays _ _ c.args.site c.args.place (length c.args.threads.now) c.requires.units (returns-clause-turn c)

-- the run goes on
run : (c : goal.After-self-4-1) → WorldRun c.self.inside.program.now (length (slice_set c.self.inside.sites.items (c.args.site - 1) c.replay.new.self)) bundle_limit c.push.new.self (states_by c.self.inside.program.now (length (slice_set c.self.inside.sites.items (c.args.site - 1) c.replay.new.self)) (map state_in (slice_set c.self.inside.sites.items (c.args.site - 1) c.replay.new.self)))
run c =
    let w = c.self.inside in
    let states = map state_in (slice_set w.sites.items (c.args.site - 1) c.replay.new.self) in
    subst (λ (n : ℕ). WorldRun w.program.now n bundle_limit c.push.new.self (states_by w.program.now n states)) (sym (length-set w.sites.items (c.args.site - 1) c.replay.new.self))
    (subst (λ (j : List Turn). WorldRun w.program.now (length w.sites.items) bundle_limit j (states_by w.program.now (length w.sites.items) states)) (sym (pushed c)) (after c).run)

low : (c : goal.After-self-4-1) → 1 ≤ length (slice_set c.self.inside.sites.items (c.args.site - 1) c.replay.new.self)
low c = let r = c.self.invariant.range.0 in rw (length-set c.self.inside.sites.items (c.args.site - 1) c.replay.new.self) r

high : (c : goal.After-self-4-1) → length (slice_set c.self.inside.sites.items (c.args.site - 1) c.replay.new.self) ≤ 64
high c = let r = c.self.invariant.range.1 in rw (length-set c.self.inside.sites.items (c.args.site - 1) c.replay.new.self) r

pub returns-clause-run : goal.returns-clause-run
returns-clause-run c = run c

pub returns-clause-simulated : goal.returns-clause-simulated
returns-clause-simulated c = machine c.self.inside.program.now _ c.push.new.self _ c.self.invariant.program (low c) (high c) (run c)

pub returns-clause-protocols : goal.returns-clause-protocols
returns-clause-protocols c = protocols c.self.inside.program.now _ c.push.new.self _ c.self.invariant.program (low c) (high c) (run c)

pub returns-clause-answers : goal.returns-clause-answers
returns-clause-answers c = answers_hold c.self.inside.program.now _ c.push.new.self _ c.self.invariant.program (low c) (high c) (run c)

pub returns-clause-fit : goal.returns-clause-fit
returns-clause-fit c = were_fit c.self.inside.program.now _ c.push.new.self _ c.self.invariant.program (low c) (high c) (run c)

pub returns-clause-few : goal.returns-clause-few
returns-clause-few c = messages_few c.self.inside.program.now _ c.push.new.self _ c.self.invariant.program (low c) (high c) (run c)

-- ---- why a turn was not made again

-- the message was not there
pub returns-in_err-message-clause-refused : goal.returns-in_err-message-clause-refused
returns-in_err-message-clause-refused c =
    let travels = ap (λ (v : WorldState). v.travels) c.self.view_is in
    let is = c.in_err-message.ensures.error.0 in
    let absent = subst (λ (ts : List Travel). IsNotThere ts c.args.site c.args.place) travels (c.in_err-message.ensures.refused.0 (ap (λ (x : WorldRefusal). Err x) is)) in
    (λ q. absent, λ n. not_there c.from_residual.result c.in_err-message.field-0.0 c.from_residual.ensures.1 is)

pub returns-in_err-message-clause-stuck : goal.returns-in_err-message-clause-stuck
returns-in_err-message-clause-stuck c at q =
    let r = not_there c.from_residual.result c.in_err-message.field-0.0 c.from_residual.ensures.1 c.in_err-message.ensures.error.0 in
    let both : ◌≡◌ {A = Told} (Err refusal.NotThere) (Err (refusal.NotRunnable at)) = sym r ∙ q in
    cc

pub returns-in_err-message-clause-other : goal.returns-in_err-message-clause-other
returns-in_err-message-clause-other c q =
    let r = not_there c.from_residual.result c.in_err-message.field-0.0 c.from_residual.ensures.1 c.in_err-message.ensures.error.0 in
    let both : ◌≡◌ {A = Told} (Err refusal.NotThere) (Err refusal.OtherLines) = sym r ∙ q in
    cc

-- the site did not make it
pub returns-in_err-made-clause-refused : goal.returns-in_err-made-clause-refused
returns-in_err-made-clause-refused c =
    let travels = ap (λ (v : WorldState). v.travels) (sym c.self.view_is) in (
      λ q. absurd (site_there c.from_residual-in_err-made.result c.in_err-made.field-0.0 c.from_residual-in_err-made.ensures.1 q),
      λ n. (let both = c.in_ok-message.ensures.refused.1 (subst (λ (ts : List Travel). IsNotThere ts c.args.site c.args.place) travels n) in cc),
    )

pub returns-in_err-made-clause-same : goal.returns-in_err-made-clause-same
returns-in_err-made-clause-same c q = absurd (site_there c.from_residual-in_err-made.result c.in_err-made.field-0.0 c.from_residual-in_err-made.ensures.1 q)

pub returns-in_err-made-clause-stuck : goal.returns-in_err-made-clause-stuck
returns-in_err-made-clause-stuck c at q =
    let w = c.self.inside in
    let live : w.spent ≡ false = ap (λ (v : WorldState). v.spent) c.self.view_is ∙ c.requires.live in
    let k : IsConsistent w.program.now w.journal w.sites.items w.mail w.sent false = subst (λ (b : Bool). IsConsistent w.program.now w.journal w.sites.items w.mail w.sent b) live c.self.invariant in
    let sites : length w.sites.items ≡ c.args.self.now.sites = ap (λ (v : WorldState). v.sites) c.self.view_is in
    let among = c.requires.among in
    let high : c.args.site ≤ length w.sites.items = omega arith in
    let stopped = site_stuck c.from_residual-in_err-made.result c.in_err-made.field-0.0 at c.from_residual-in_err-made.ensures.1 q in
    stuck_there w.program.now w.journal w.sites.items w.mail w.sent k c.args.site c.requires.some high c.args.place c.index_mut.result.now c.index_mut.ensures.value c.in_ok-message.message
    c.take_message.new.mail c.in_ok-message.ensures.taken c.args.self.now (ap (λ (v : WorldState). v.program) (sym c.self.view_is)) (ap (λ (v : WorldState). v.sites) (sym c.self.view_is))
    (ap (λ (v : WorldState). v.journal) (sym c.self.view_is)) (ap (λ (v : WorldState). v.states) (sym c.self.view_is)) (ap (λ (v : WorldState). v.travels) (sym c.self.view_is))
    c.args.threads.now at (c.in_err-made.ensures.stuck at (ap (λ (x : Replay). Err x) stopped))

pub returns-in_err-made-clause-other : goal.returns-in_err-made-clause-other
returns-in_err-made-clause-other c q = absurd (site_lines c.from_residual-in_err-made.result c.in_err-made.field-0.0 c.from_residual-in_err-made.ensures.1 q)

-- memory ran out behind it
pub returns-then-is_err-clause-refused : goal.returns-then-is_err-clause-refused
returns-then-is_err-clause-refused c =
    let travels = ap (λ (v : WorldState). v.travels) (sym c.self.view_is) in (
      λ q. cc,
      λ n. (let both = c.in_ok-message.ensures.refused.1 (subst (λ (ts : List Travel). IsNotThere ts c.args.site c.args.place) travels n) in cc),
    )

-- it prints other lines
pub returns-then-not-has_lines-clause-other : goal.returns-then-not-has_lines-clause-other
returns-then-not-has_lines-clause-other c q =
    let w = c.self.inside in
    let live : w.spent ≡ false = ap (λ (v : WorldState). v.spent) c.self.view_is ∙ c.requires.live in
    let k : IsConsistent w.program.now w.journal w.sites.items w.mail w.sent false = subst (λ (b : Bool). IsConsistent w.program.now w.journal w.sites.items w.mail w.sent b) live c.self.invariant in
    let sites : length w.sites.items ≡ c.args.self.now.sites = ap (λ (v : WorldState). v.sites) c.self.view_is in
    let among = c.requires.among in
    let high : c.args.site ≤ length w.sites.items = omega arith in
    others_there w.program.now w.journal w.sites.items w.mail w.sent k c.args.site c.requires.some high c.args.place c.index_mut.result.now c.index_mut.ensures.value c.in_ok-message.message
    c.take_message.new.mail c.in_ok-message.ensures.taken c.args.self.now (ap (λ (v : WorldState). v.program) (sym c.self.view_is)) (ap (λ (v : WorldState). v.sites) (sym c.self.view_is))
    (ap (λ (v : WorldState). v.journal) (sym c.self.view_is)) (ap (λ (v : WorldState). v.states) (sym c.self.view_is)) (ap (λ (v : WorldState). v.travels) (sym c.self.view_is))
    c.args.threads.now c.args.lines.now c.in_ok-made.made c.replay.new.self.state c.in_ok-made.ensures.turn
    (λ same. false≢true (subst (λ (b : Bool). IsTrue b) c.if-not-has_lines.true (c.has_lines.ensures.all same)))
