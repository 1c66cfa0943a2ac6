use Rattle.std.proofs.Common.{rules, arith, ◌≡◌, ◌≤◌, ◌+◌, ◌-◌, ◌++◌, ◌∙◌, ap, refl, sym, subst, ℕ, List, ◌∷◌, length, length-set, map, Bool, false}
use Rattle.std.specs.Prelude.{slice_set}
use Rattle.std.specs.List.{enumerate_from}
use Rattle.site_message.specs.declared.message.Sent.{Sent}
use Rattle.site_message.specs.declared.turn.Turn.{Turn}
use Rattle.site_model.specs.Bundle.{bundle_limit}
use Rattle.site_model.specs.Run.{WorldRun}
use Rattle.world_core.specs.declared.travel.Travel.{Travel}
use Rattle.world_core.specs.Travels.{IsNotThere}
use Rattle.world_core.specs.World.{WorldState, IsConsistent, state_in, states_by}
use Rattle.world_core.proofs.TurnLemmas.{After, after_turn, after_in_order, taken_below, turn_stays}
use Rattle.world_core.proofs.WorldLemmas.{machine, were_fit, protocols, answers_hold, messages_few}
use Rattle.world_core.proofs.world.World.turn.Goals as goal

pub push_all-requires : goal.push_all-requires
push_all-requires c =
    let w = c.self.inside in
    let live : w.spent ≡ false = ap (λ (v : WorldState). v.spent) c.self.view_is ∙ c.requires.live in
    let k = c.self.invariant.live live in
    record { below = taken_below w.journal w.mail.messages c.take_message.new.mail.messages k.travels c.args.site c.args.place c.in_ok-message.message c.in_ok-message.ensures.taken w.sent k.count }

-- the world before, which can make turns
before : (c : goal.After-self-4-1) → IsConsistent c.self.inside.program.now c.self.inside.journal c.self.inside.sites.items c.self.inside.mail c.self.inside.sent false
before c =
    let w = c.self.inside in
    let live : w.spent ≡ false = ap (λ (v : WorldState). v.spent) c.self.view_is ∙ c.requires.live in
    subst (λ (b : Bool). IsConsistent w.program.now w.journal w.sites.items w.mail w.sent b) live c.self.invariant

after : (c : goal.After-self-4-1) → After c.self.inside.program.now c.self.inside.journal c.self.inside.sites.items c.self.inside.mail c.take_message.new.mail c.self.inside.sent c.args.site (c.args.site - 1) c.args.place c.args.quantum.0 c.index_mut.result.now c.turn.new.self c.in_ok-turn.turn
after c =
    let w = c.self.inside in
    let sites : length w.sites.items ≡ c.args.self.now.sites = ap (λ (v : WorldState). v.sites) c.self.view_is in
    let among = c.requires.among in
    let high : c.args.site ≤ length w.sites.items = omega arith in
    after_turn w.program.now w.journal w.sites.items w.mail c.take_message.new.mail w.sent (before c) c.args.site c.requires.some high c.args.place c.args.quantum.0 c.requires.units
    c.index_mut.result.now c.turn.new.self c.index_mut.ensures.value c.in_ok-message.message c.in_ok-message.ensures.taken c.in_ok-turn.turn c.in_ok-turn.ensures.turn

pushed : (c : goal.After-self-4-1) → c.push.new.self ≡ c.in_ok-turn.turn ∷ c.self.inside.journal
pushed c = search rules

pub invariant_of-self-2 : goal.invariant_of-self-2
invariant_of-self-2 c =
    let w = c.self.inside in
    let sent : c.push_all.new.self.messages ≡ c.take_message.new.mail.messages ++ enumerate_from w.sent c.in_ok-turn.turn.sent = c.in_ok-self-inside.ensures.messages ∙ ap (λ (ms : List Sent). c.take_message.new.mail.messages ++ enumerate_from w.sent ms) c.as_slice.ensures in
    let next : c.in_ok-self-inside.field-0 ≡ w.sent + length c.in_ok-turn.turn.sent = c.in_ok-self-inside.ensures.next ∙ ap (λ (ms : List Sent). w.sent + length ms) c.as_slice.ensures in
    subst (λ (j : List Turn). IsConsistent w.program.now j (slice_set w.sites.items (c.args.site - 1) c.turn.new.self) c.push_all.new.self c.in_ok-self-inside.field-0 false) (sym (pushed c))
    ((after c).consistent c.push_all.new.self c.in_ok-self-inside.field-0 c.take_message.ensures.queues c.push_all.ensures.queues sent next c.turn.ensures.program c.turn.ensures.sites c.in_ok-turn.ensures.live)

pub returns-then-is_err-clause-refused : goal.returns-then-is_err-clause-refused
returns-then-is_err-clause-refused c =
    let travels = ap (λ (v : WorldState). v.travels) (sym c.self.view_is) in (
      λ q. cc,
      λ n. (let both = c.in_ok-message.ensures.refused.1 (subst (λ (ts : List Travel). IsNotThere ts c.args.site c.args.place) travels n) in cc),
    )

pub returns-clause-turn : goal.returns-clause-turn
returns-clause-turn c =
    (after c).turn c.args.self.now _ (ap (λ (v : WorldState). v.program) (sym c.self.view_is)) (ap (λ (v : WorldState). v.sites) (sym c.self.view_is)) (ap (λ (v : WorldState). v.journal) (sym c.self.view_is))
    (ap (λ (v : WorldState). v.states) (sym c.self.view_is)) (ap (λ (v : WorldState). v.travels) (sym c.self.view_is)) refl (length-set c.self.inside.sites.items (c.args.site - 1) c.turn.new.self) (pushed c) refl c.in_ok-turn.ensures.few

pub returns-clause-order : goal.returns-clause-order
returns-clause-order c =
    let w = c.self.inside in
    let sites : length w.sites.items ≡ c.args.self.now.sites = ap (λ (v : WorldState). v.sites) c.self.view_is in
    let among = c.requires.among in
    let high : c.args.site ≤ length w.sites.items = omega arith in
    after_in_order w.program.now w.journal w.sites.items w.mail c.take_message.new.mail w.sent (before c) c.args.site c.requires.some high c.args.place c.args.quantum.0 c.requires.units
    c.index_mut.result.now c.turn.new.self c.index_mut.ensures.value c.in_ok-message.message c.in_ok-message.ensures.taken c.in_ok-turn.turn c.in_ok-turn.ensures.turn
    c.args.self.now _ (ap (λ (v : WorldState). v.program) (sym c.self.view_is)) (ap (λ (v : WorldState). v.sites) (sym c.self.view_is)) (ap (λ (v : WorldState). v.journal) (sym c.self.view_is))
    (ap (λ (v : WorldState). v.states) (sym c.self.view_is)) (ap (λ (v : WorldState). v.orders) (sym c.self.view_is)) refl (length-set c.self.inside.sites.items (c.args.site - 1) c.turn.new.self) (pushed c) refl refl c.in_ok-turn.ensures.order

pub returns-clause-stays : goal.returns-clause-stays
returns-clause-stays c = turn_stays _ _ c.args.site c.args.place c.args.quantum.0 c.requires.units (returns-clause-turn c)

-- the run goes on
run : (c : goal.After-self-4-1) → WorldRun c.self.inside.program.now (length (slice_set c.self.inside.sites.items (c.args.site - 1) c.turn.new.self)) bundle_limit c.push.new.self (states_by c.self.inside.program.now (length (slice_set c.self.inside.sites.items (c.args.site - 1) c.turn.new.self)) (map state_in (slice_set c.self.inside.sites.items (c.args.site - 1) c.turn.new.self)))
run c =
    let w = c.self.inside in
    let states = map state_in (slice_set w.sites.items (c.args.site - 1) c.turn.new.self) in
    subst (λ (n : ℕ). WorldRun w.program.now n bundle_limit c.push.new.self (states_by w.program.now n states)) (sym (length-set w.sites.items (c.args.site - 1) c.turn.new.self))
    (subst (λ (j : List Turn). WorldRun w.program.now (length w.sites.items) bundle_limit j (states_by w.program.now (length w.sites.items) states)) (sym (pushed c)) (after c).run)

low : (c : goal.After-self-4-1) → 1 ≤ length (slice_set c.self.inside.sites.items (c.args.site - 1) c.turn.new.self)
low c = let r = c.self.invariant.range.0 in rw (length-set c.self.inside.sites.items (c.args.site - 1) c.turn.new.self) r

high : (c : goal.After-self-4-1) → length (slice_set c.self.inside.sites.items (c.args.site - 1) c.turn.new.self) ≤ 64
high c = let r = c.self.invariant.range.1 in rw (length-set c.self.inside.sites.items (c.args.site - 1) c.turn.new.self) r

pub returns-clause-run : goal.returns-clause-run
returns-clause-run c = run c

pub returns-clause-simulated : goal.returns-clause-simulated
returns-clause-simulated c = machine c.self.inside.program.now _ c.push.new.self _ c.self.invariant.program (low c) (high c) (run c)

pub returns-clause-protocols : goal.returns-clause-protocols
returns-clause-protocols c = protocols c.self.inside.program.now _ c.push.new.self _ c.self.invariant.program (low c) (high c) (run c)

pub returns-clause-answers : goal.returns-clause-answers
returns-clause-answers c = answers_hold c.self.inside.program.now _ c.push.new.self _ c.self.invariant.program (low c) (high c) (run c)

pub returns-clause-fit : goal.returns-clause-fit
returns-clause-fit c = were_fit c.self.inside.program.now _ c.push.new.self _ c.self.invariant.program (low c) (high c) (run c)

pub returns-clause-few : goal.returns-clause-few
returns-clause-few c = messages_few c.self.inside.program.now _ c.push.new.self _ c.self.invariant.program (low c) (high c) (run c)
