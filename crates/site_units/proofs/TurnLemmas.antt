-- Units in a row, and turns.
use Rattle.std.proofs.Common.{arith, ◌≡◌, ◌∙◌, sym, ap, refl, subst, ℕ, zero, suc, length, filter, List, [], ◌∷◌, ◌++◌, Bool, true, false, cond, Some, None}
use Rattle.std.specs.Prelude.{Option, ◌+◌, ◌≤◌, ◌<◌}
use Rattle.tree_node.specs.declared.names.ThreadName.{ThreadName}
use Rattle.tree_node.specs.declared.pick.Pick.{Pick}
use Rattle.kernel_syntax.specs.declared.stmt.Stmt.{Stmt}
use Rattle.site_message.specs.declared.message.Sent.{Sent}
use Rattle.thread_machine.specs.Running.{Running}
use Rattle.thread_roster.specs.declared.mode.Mode.{Mode}
use Rattle.thread_roster.specs.Threads.{Entry, AllWait, IsOrderOf, waiting_of, is_waiting}
use Rattle.thread_roster.proofs.WakeLemmas.{as_many_wait}
use Rattle.thread_roster.proofs.ThreadLemmas.{seen_length}
use Rattle.site_model.specs.Site.{Site, is_idle}
use Rattle.site_model.specs.Bundle.{bundle_limit}
use Rattle.site_model.specs.Transition.{Transition, without_output, sequence}
use Rattle.site_model.specs.Turn.{AreUnits}
use Rattle.site_model.specs.Unit.{IsUnit}
use Rattle.site_variables.specs.Variables.{stacks_of}
use Rattle.site_units.specs.declared.data.Core.{Core}
use Rattle.site_units.specs.declared.data.Output.{Output}
use Rattle.site_units.specs.Core.{site_of, stack_in}
use Rattle.site_units.specs.Invariant.{IsConsistent}
use Rattle.site_units.specs.Order.{last_of, passed_on}
use Rattle.site_units.specs.Units.{IsTransitionMade}
use Rattle.site_units.specs.declared.turn.LastUnits.{LastUnits}
use Rattle.site_units.specs.LastUnits.{thread_of_some, thread_in, threads_of}
use Rattle.site_message.specs.Units.{in_a_row}
use Rattle.site_units.specs.Turns.{AreUnitsInOrder, AreUnitsMade, AreToldUnitsMade}
use Rattle.site_units.proofs.SiteLemmas.{nil_right, joined}
use Rattle.site_units.proofs.OrderLemmas.{order_seen, none_passed}
use Rattle.std.proofs.lemmas.Bool.{eq-eqb}

-- ---- transitions in a row

pub sequence_joined : (a b c : Transition) → sequence (sequence a b) c ≡ sequence a (sequence b c)
sequence_joined a b c = rw (joined a.picks b.picks c.picks, joined a.sent b.sent c.sent, joined a.lines b.lines c.lines) refl

pub sequence_nothing : (d : Transition) → d ≡ sequence d (without_output d.site)
sequence_nothing d = rw (nil_right d.picks, nil_right d.sent, nil_right d.lines) refl

pub units_more : (p : List Stmt) (n limit : ℕ) (ths : List ThreadName) (th : ThreadName) (s : Site) (d one : Transition) → AreUnits p n limit ths s d → IsUnit p n limit th d.site one → AreUnits p n limit (ths ++ th ∷ []) s (sequence d one)
units_more p n limit [] th s d one e u =
    let here : IsUnit p n limit th s one = subst (λ (z : Transition). IsUnit p n limit th z.site one) e u in
    (one, without_output one.site, here, refl, ap (λ (z : Transition). sequence z one) e ∙ sequence_nothing one)
units_more p n limit (t ∷ ths) th s d one (first, rest, u0, us, e) u =
    let tail : IsUnit p n limit th rest.site one = subst (λ (z : Transition). IsUnit p n limit th z.site one) e u in
    (first, sequence rest one, u0, units_more p n limit ths th first.site rest one us tail, ap (λ (z : Transition). sequence z one) e ∙ sequence_joined first rest one)

-- units in order are units
pub are_units : (p : List Stmt) (n : ℕ) (ths : List ThreadName) (s : Site) (old new : List ThreadName) (d : Transition) → AreUnitsInOrder p n ths s old d new → AreUnits p n bundle_limit ths s d
are_units p n [] s old new d (e, same, stands) = e
are_units p n (th ∷ ths) s old new d (one, rest, now, stands, unit, first, us, e) = (one, rest, unit.0, are_units p n ths one.site now new rest us, e)

-- and those of the same threads come to one transition
pub in_order_is_one : (p : List Stmt) (n : ℕ) (ths : List ThreadName) (s : Site) (a b x y : List ThreadName) (d e : Transition) → AreUnitsInOrder p n ths s a d b → AreUnitsInOrder p n ths s x e y → d ≡ e
in_order_is_one p n [] s a b x y d e (h, same, stands) (k, other, ready) = h ∙ sym k
in_order_is_one p n (th ∷ ths) s a b x y d e (one, rest, now, stands, unit, first, us, is) (other, more, then, ready, again, begins, vs, at) =
    let same : one ≡ other = again.1 one unit.0 in
    let moved : AreUnitsInOrder p n ths other.site now rest b = subst (λ (z : Transition). AreUnitsInOrder p n ths z.site now rest b) same us in
    let tail : rest ≡ more = in_order_is_one p n ths other.site now b then y rest more moved vs in
    is ∙ ap (λ (z : Transition). sequence z rest) same ∙ ap (λ (z : Transition). sequence other z) tail ∙ sym at

pub reached_more : (p : List Stmt) (d e : Transition) (c0 c1 c2 : Core) (o0 o1 o2 : Output) → IsTransitionMade p d c0 o0 c1 o1 → IsTransitionMade p e c1 o1 c2 o2 → IsTransitionMade p (sequence d e) c0 o0 c2 o2
reached_more p d e c0 c1 c2 o0 o1 o2 h g = record {
  site = g.site;
  picks = g.picks ∙ (ap (λ (l : List Pick). l ++ e.picks) h.picks ∙ joined o0.picks d.picks e.picks);
  sent = g.sent ∙ (ap (λ (l : List Sent). l ++ e.sent) h.sent ∙ joined o0.sent d.sent e.sent);
  lines = g.lines ∙ (ap (λ (l : List (List ℕ)). l ++ e.lines) h.lines ∙ joined o0.lines.items d.lines e.lines);
  consistent = g.consistent;
  sites = g.sites ∙ h.sites;
}

pub reached_nothing : (p : List Stmt) (c : Core) (o : Output) → IsConsistent p c → IsTransitionMade p (without_output (site_of c)) c o c o
reached_nothing p c o h = record {
  site = refl;
  picks = sym (nil_right o.picks);
  sent = sym (nil_right o.sent);
  lines = sym (nil_right o.lines.items);
  consistent = h;
  sites = refl;
}

-- ---- the loop of units

-- so many units so far, the last of this thread
pub record UnitsSoFar (p : List Stmt) (count : ℕ) (last : Option ThreadName) (c0 : Core) (o0 : Output) (c1 : Core) (o1 : Output) : Type 0 where
  pub ths : List ThreadName
  pub d : Transition
  pub units : AreUnitsInOrder p c0.sites ths (site_of c0) c0.threads.order d c1.threads.order
  pub reached : IsTransitionMade p d c0 o0 c1 o1
  pub as_many : length ths ≡ count
  pub ends : last_of ths ≡ last
  pub steps : c1.steps ≤ c0.steps + count

no_units : (p : List Stmt) (c : Core) (o : Output) → IsConsistent p c → IsOrderOf c.threads.living c.threads.order → UnitsSoFar p 0 None c o c o
no_units p c o h ready = record {
  ths = [];
  d = without_output (site_of c);
  units = (refl, refl, order_seen c.threads.living c.threads.order ready);
  reached = reached_nothing p c o h;
  as_many = refl;
  ends = refl;
  steps = omega arith;
}

-- ---- rest

pub waiting_seen : (ts : List (Entry Running)) → waiting_of (stacks_of stack_in ts) ≡ waiting_of ts
waiting_seen [] = refl
waiting_seen (t ∷ ts) = go (is_waiting t.1.1) (waiting_seen ts)
  where
    go : (b : Bool) → waiting_of (stacks_of stack_in ts) ≡ waiting_of ts →
        length (cond b ((t.0, (t.1.0.stack, t.1.1)) ∷ filter (λ s. is_waiting s.1.1) (stacks_of stack_in ts)) (filter (λ s. is_waiting s.1.1) (stacks_of stack_in ts)))
        ≡ length (cond b (t ∷ filter (λ (s : Entry Running). is_waiting s.1.1) ts) (filter (λ (s : Entry Running). is_waiting s.1.1) ts))
    go true ih = ap suc ih
    go false ih = ih

pub all_idle : (c : Core) → AllWait c.threads.living → is_idle (site_of c) ≡ true
all_idle c h =
    eq-eqb (waiting_of (stacks_of stack_in c.threads.living)) (length (stacks_of stack_in c.threads.living))
    (waiting_seen c.threads.living ∙ (as_many_wait c.threads.living h ∙ sym (seen_length (λ (e : Running × Mode). (stack_in e.0, e.1)) c.threads.living)))

-- ---- the end of a turn

pub consistent_turned : (p : List Stmt) (c : Core) (ns : List ThreadName) → IsConsistent p c → IsConsistent p (record c { threads = record c.threads { order = ns } })
consistent_turned p c ns h = record {
  linked = h.linked;
  threads = h.threads;
  equations = h.equations;
  site = h.site;
  below = h.below;
  known_made = h.known_made;
  made_known = h.made_known;
  threads_made = h.threads_made;
  tables = h.tables;
  cells = λ cell. record { content = (h.cells cell).content; queue = (h.cells cell).queue; once = (h.cells cell).once };
  ports = h.ports;
  homes = λ cell. record { content = (h.homes cell).content; news = (h.homes cell).news; waits = (h.homes cell).waits; once = (h.homes cell).once };
  asks = h.asks;
  awaits = h.awaits;
  among = h.among;
  some = h.some;
}

-- units in a row, in an order in which the thread of the last one is passed on
units_end : (p : List Stmt) (quantum count : ℕ) (last : Option ThreadName) (c0 c1 : Core) (o0 o1 : Output) (ns : List ThreadName) (h : UnitsSoFar p count last c0 o0 c1 o1) → count ≤ quantum → (count < quantum → AllWait c1.threads.living) → ns ≡ passed_on last c1.threads.order →
    AreUnitsMade p quantum h.ths c0 o0 (record c1 { threads = record c1.threads { order = ns } }) o1
units_end p quantum count last c0 c1 o0 o1 ns h most idle passed = (
  h.d,
  c1.threads.order,
  h.units,
  record {
    site = h.reached.site;
    picks = h.reached.picks;
    sent = h.reached.sent;
    lines = h.reached.lines;
    consistent = consistent_turned p c1 ns h.reached.consistent;
    sites = h.reached.sites;
  },
  (let f : length h.ths ≡ count = h.as_many in omega arith),
  (λ less. subst (λ (s : Site). is_idle s ≡ true) h.reached.site (all_idle c1 (idle (let f : length h.ths ≡ count = h.as_many in omega arith)))),
  passed ∙ ap (λ (o : Option ThreadName). passed_on o c1.threads.order) (sym h.ends),
)

-- nothing was done, since no thread can go on
units_stop : (p : List Stmt) (quantum count : ℕ) (last : Option ThreadName) (c0 c1 c2 : Core) (o0 o1 o2 : Output) (h : UnitsSoFar p count last c0 o0 c1 o1) → c2 ≡ c1 → o2 ≡ o1 → count ≤ quantum → AllWait c1.threads.living → c1.threads.order ≡ [] → AreUnitsMade p quantum h.ths c0 o0 c2 o2
units_stop p quantum count last c0 c1 c2 o0 o1 o2 h same silent most idle none =
    subst (λ (c : Core). AreUnitsMade p quantum h.ths c0 o0 c o2) (sym same)
    (subst (λ (o : Output). AreUnitsMade p quantum h.ths c0 o0 c1 o) (sym silent) (units_end p quantum count last c0 c1 o0 o1 c1.threads.order h most (λ less. idle) (none_passed last c1.threads.order none)))

turned_on : (p : List Stmt) (quantum count : ℕ) (last : Option ThreadName) (c0 c1 c2 : Core) (o0 o1 : Output) (h : UnitsSoFar p count last c0 o0 c1 o1) → count ≤ quantum → (count < quantum → AllWait c1.threads.living) → (ns : List ThreadName) × (c2 ≡ record c1 { threads = record c1.threads { order = ns } }) →
    c2.threads.order ≡ passed_on last c1.threads.order → AreUnitsMade p quantum h.ths c0 o0 c2 o1
turned_on p quantum count last c0 c1 c2 o0 o1 h most idle (ns, e) passed =
    subst (λ (c : Core). AreUnitsMade p quantum h.ths c0 o0 c o1) (sym e) (units_end p quantum count last c0 c1 o0 o1 ns h most idle (ap (λ (c : Core). c.threads.order) (sym e) ∙ passed))

-- ---- units that are counted in a row

-- the thread that made them
pub no_thread : (last : LastUnits) → last.count ≡ 0 → thread_in last ≡ None
no_thread last none = ap (λ (n : ℕ). thread_of_some n last.thread) none

pub of_some : (n : ℕ) (th : ThreadName) → 0 < n → thread_of_some n th ≡ Some th
of_some zero th some = absurd (omega arith)
of_some (suc n) th some = refl

pub their_thread : (last : LastUnits) → 0 < last.count → thread_in last ≡ Some last.thread
their_thread last some = of_some last.count last.thread some

pub row_joined : (a b : ℕ) (th : ThreadName) → in_a_row (a + b) th ≡ in_a_row a th ++ in_a_row b th
row_joined zero b th = let e : zero + b ≡ b = omega arith in ap (λ (k : ℕ). in_a_row k th) e
row_joined (suc a) b th = let e : suc a + b ≡ suc (a + b) = omega arith in ap (λ (k : ℕ). in_a_row k th) e ∙ ap (λ (l : List ThreadName). th ∷ l) (row_joined a b th)

-- so many more of the same thread
pub counted_on : (t : List ThreadName) (old new : LastUnits) (th : ThreadName) (k : ℕ) → old.thread ≡ th → new.thread ≡ old.thread → new.count ≡ old.count + k → t ++ threads_of new ≡ (t ++ threads_of old) ++ in_a_row k th
counted_on t old new th k is same more =
    ap (λ (m : ThreadName). t ++ in_a_row new.count m) (same ∙ is)
    ∙ (ap (λ (n : ℕ). t ++ in_a_row n th) more
    ∙ (ap (λ (us : List ThreadName). t ++ us) (row_joined old.count k th)
    ∙ (sym (joined t (in_a_row old.count th) (in_a_row k th))
    ∙ ap (λ (m : ThreadName). (t ++ in_a_row old.count m) ++ in_a_row k th) (sym is))))

-- the first ones of another thread, behind those before
pub begun : (t u : List ThreadName) (old new : LastUnits) (th : ThreadName) (k : ℕ) → u ≡ t ++ threads_of old → new.thread ≡ th → new.count ≡ k → u ++ threads_of new ≡ (t ++ threads_of old) ++ in_a_row k th
begun t u old new th k e is as_many =
    ap (λ (us : List ThreadName). us ++ threads_of new) e
    ∙ (ap (λ (m : ThreadName). (t ++ threads_of old) ++ in_a_row new.count m) is
    ∙ ap (λ (n : ℕ). (t ++ threads_of old) ++ in_a_row n th) as_many)

-- none is told
pub told_none : (t : List ThreadName) (last : LastUnits) → last.count ≡ 0 → t ≡ t ++ threads_of last
told_none t last none = sym (nil_right t) ∙ ap (λ (n : ℕ). t ++ in_a_row n last.thread) (sym none)

no_names : (ths : List ThreadName) → length ths ≡ 0 → ths ≡ []
no_names [] none = refl
no_names (th ∷ ths) none = absurd (omega arith)

-- ---- the threads that were told

-- so many units so far, whose threads are told behind others, but for the last ones
pub record ToldSoFar (p : List Stmt) (count : ℕ) (last : LastUnits) (t0 t1 : List ThreadName) (c0 : Core) (o0 : Output) (c1 : Core) (o1 : Output) : Type 0 where
  pub made : UnitsSoFar p count (thread_in last) c0 o0 c1 o1
  pub told : t1 ++ threads_of last ≡ t0 ++ made.ths
  pub few : last.count ≤ count

pub none_told : (p : List Stmt) (last : LastUnits) (t : List ThreadName) (c : Core) (o : Output) → last.count ≡ 0 → IsConsistent p c → IsOrderOf c.threads.living c.threads.order → ToldSoFar p 0 last t t c o c o
none_told p last t c o none h ready =
    let units : UnitsSoFar p 0 (thread_in last) c o c o = subst (λ (by : Option ThreadName). UnitsSoFar p 0 by c o c o) (sym (no_thread last none)) (no_units p c o h ready) in record {
      made = units;
      told = sym (told_none t last none) ∙ sym (nil_right t) ∙ ap (λ (us : List ThreadName). t ++ us) (sym (no_names units.ths units.as_many));
      few = omega (arith, none);
    }

-- nothing was done, since no thread can go on
pub told_stop : (p : List Stmt) (quantum count : ℕ) (last : LastUnits) (t0 t1 t2 : List ThreadName) (c0 c1 c2 : Core) (o0 o1 o2 : Output) → ToldSoFar p count last t0 t1 c0 o0 c1 o1 → t2 ≡ t1 ++ threads_of last → c2 ≡ c1 → o2 ≡ o1 → count ≤ quantum →
    AllWait c1.threads.living → c1.threads.order ≡ [] → AreToldUnitsMade p quantum t0 t2 c0 o0 c2 o2
told_stop p quantum count last t0 t1 t2 c0 c1 c2 o0 o1 o2 h told same silent most idle none = (h.made.ths, told ∙ h.told, units_stop p quantum count (thread_in last) c0 c1 c2 o0 o1 o2 h.made same silent most idle none)

-- the thread of the last one is passed on
pub told_end : (p : List Stmt) (quantum count : ℕ) (last : LastUnits) (t0 t1 t2 : List ThreadName) (c0 c1 c2 : Core) (o0 o1 : Output) → ToldSoFar p count last t0 t1 c0 o0 c1 o1 → t2 ≡ t1 ++ threads_of last → count ≤ quantum → (count < quantum → AllWait c1.threads.living) →
    (ns : List ThreadName) × (c2 ≡ record c1 { threads = record c1.threads { order = ns } }) → c2.threads.order ≡ passed_on (thread_in last) c1.threads.order → AreToldUnitsMade p quantum t0 t2 c0 o0 c2 o1
told_end p quantum count last t0 t1 t2 c0 c1 c2 o0 o1 h told most idle turned passed = (h.made.ths, told ∙ h.told, turned_on p quantum count (thread_in last) c0 c1 c2 o0 o1 h.made most idle turned passed)
