-- A step of a thread of a site: its whole row.
use Rattle.std.proofs.Common.{arith, ◌≡◌, ◌∙◌, sym, ap, refl, subst, ℕ, ◌+◌, ◌<◌, ◌≤◌, List, [], ◌∷◌, ◌++◌, ◌⊎◌, inl, inr, Bool, true, false, cond, Some, None, length}
use Rattle.std.specs.Prelude.{Option, Contains, ◌≢◌, ◌==◌, is_some, IsTrue, option_to_list}
use Rattle.tree_node.specs.declared.names.VarName.{VarName}
use Rattle.tree_node.specs.declared.names.ThreadName.{ThreadName}
use Rattle.tree_node.specs.declared.names.Name.{Name}
use Rattle.tree_node.specs.declared.names.Name.TheVariants as name
use Rattle.tree_node.specs.declared.names.NameKind.{NameKind}
use Rattle.tree_node.specs.declared.node.Term.{Term}
use Rattle.tree_node.specs.declared.pick.Pick.{Pick}
use Rattle.tree_node.specs.Assoc.{value_of, with_optional_value}
use Rattle.tree_node.specs.Each.{Each}
use Rattle.tree_node.specs.Names.{EachOfEquation, EachOfStack, EachName, EachOfThread}
use Rattle.tree_node.specs.Order.{IsLower}
use Rattle.tree_node.specs.State.{Stack, State, equal_thread}
use Rattle.tree_node.specs.Store.{Store, Equation, IsFree}
use Rattle.kernel_syntax.specs.declared.stmt.Stmt.{Stmt}
use Rattle.oz_model.specs.Effect.{Effect, Birth, CellChange, Stays, Made, Exchanged}
use Rattle.oz_model.specs.Step.{threads_born, living_stack, stack_left, IsAllowed, effect_of, next}
use Rattle.oz_model.proofs.NameLemmas.{Each-weaker}
use Rattle.oz_model.specs.EffectNames.{EachOfBirth}
use Rattle.oz_model.proofs.EffectNames.{step_names, effect_names}
use Rattle.bind_protocol.specs.Records.{knowledge, IsKnown}
use Rattle.site_model.specs.Site.{Site, Counters}
use Rattle.thread_roster.specs.declared.mode.Mode.TheVariants.{Runs}
use Rattle.thread_roster.specs.Binds.{goes_on}
use Rattle.site_model.specs.Transition.{Transition, without_output, with_messages, with_pick, sequence, with_lines}
use Rattle.site_model.specs.Variables.{own_bind, own_binds}
use Rattle.site_model.specs.Cells.{exchange_stack}
use Rattle.site_model.specs.Unit.{step_row, next_names, with_fresh_names, after_cell, after_effect, birth_row, content_here, counters_after, placement}
use Rattle.site_model.specs.Fit as Fit
use Rattle.world_model.specs.World.{World, after_transition, mail_from, eqs, records, threads, counters, IsOnItsWay}
use Rattle.world_model.specs.Names.{IsMade, IsCentreMade}
use Rattle.world_model.proofs.PutLemmas.{at_here, at_own, field_kept}
use Rattle.world_model.proofs.KeyLemmas.{woken_new, goes_there}
use Rattle.world_variables.proofs.RowLemmas.{to_put, unsent, acts_then, makes_row, bind_row}
use Rattle.world_variables.proofs.StepLemmas.{goes_parts, birth_parts, leave_parts, same_parts}
use Rattle.world_model.proofs.MailLemmas.{sent_to, from_number, acts_after}
use Rattle.world_variables.proofs.MakeLemmas.{IsNextOf, next_are}
use Rattle.world_variables.proofs.TellLemmas.{each_of}
use Rattle.site_message.specs.declared.message.Msg.{Msg}
use Rattle.site_message.specs.declared.message.Msg.TheVariants as msg
use Rattle.bind_protocol.specs.Rows.{sent_message}
use Rattle.site_model.specs.Messages.{with_thread}
use Rattle.site_model.specs.Bundle.{with_own_bundle, bundle_of}
use Rattle.site_model.proofs.BundleLemmas.{bundle_known}
use Rattle.tree_node.specs.declared.item.Item.TheVariants as item
use Rattle.tree_node.specs.Env.{env_for}
use Rattle.kernel_syntax.specs.Free.{free}
use Rattle.oz_model.specs.Laws.{nobody}
use Rattle.oz_model.proofs.ClosureLemmas.{for_names}
use Rattle.world_variables.specs.Laws.{PartsIn}
use Rattle.tree_node.proofs.NameLemmas.{same_thread_decides}
use Rattle.kernel_syntax.proofs.PreorderLemmas.{each_right}
use Rattle.site_model.proofs.FrameLemmas.{binds_counters}

-- ---- equations are added

-- an own variable that has no equation at the centre is unbound here
pub unbound_free : (p : List Stmt) (here : ℕ → Name → Type 0) (w : World) (c : State) (i : ℕ) (x : VarName) → PartsIn p here w c → x.site ≡ i → Fit.IsBelowCounter (counters w.sites i) (name.Var x) → IsFree c.equations x → knowledge (records w.sites i) x ≡ Some None
unbound_free p here w c i x h own counted free = go (knowledge (records w.sites i) x) refl ((h.makers.own i x own).0 counted)
  where
    go : (o : Option (Option Term)) → knowledge (records w.sites i) x ≡ o → IsKnown (records w.sites i) x → knowledge (records w.sites i) x ≡ Some None
    go None e k = let none : IsTrue (is_some (knowledge (records w.sites i) x)) = k in absurd (missing (knowledge (records w.sites i) x) e none)
      where
        missing : (o : Option (Option Term)) → o ≡ None → IsTrue (is_some o) → ⊥
        missing None e h = cc
        missing (Some o) e h = cc
    go (Some None) e k = e
    go (Some (Some t)) e k = absurd (free t (h.knowledge.known i (x, t) ((h.kept i).bound x t e)))

pub record CanAdd (here : Name → Type 0) (counters : ℕ → Counters) (i : ℕ) (c : Store) (e : Equation) : Type 0 where
  pub own : e.0.site ≡ i
  pub free : IsFree c e.0
  pub counted : Fit.IsBelowCounter (counters i) (name.Var e.0)
  pub low : IsLower e.1 e.0
  pub names : EachOfEquation here e
  pub was : EachOfEquation (IsMade counters) e

abbrev pub CanAddEach : (Name → Type 0) → (ℕ → Counters) → ℕ → Store → List Equation → Type 0
CanAddEach here counters i c [] = Unit {0}
CanAddEach here counters i c (e ∷ es) = CanAddEach here counters i c es × CanAdd here counters i (es ++ c) e

pub made_binds : (w : World) (i limit : ℕ) (es : List Equation) → counters (after_transition w i (own_binds limit es (w.sites i))).sites ≡ counters w.sites
made_binds w i limit es = field_kept (λ (t : Site). t.counters) w.sites i (own_binds limit es (w.sites i)).site (binds_counters limit es (w.sites i))

pub binds_rows : (p : List Stmt) (here : ℕ → Name → Type 0) (w : World) (c : State) (i limit : ℕ) (es : List Equation) → i ≢ 0 → CanAddEach (here i) (counters w.sites) i c.equations es → PartsIn p here w c →
    PartsIn p here (after_transition w i (own_binds limit es (w.sites i))) (record c { equations = es ++ c.equations })
binds_rows p here w c i limit [] real can h =
    unsent p here w.sites i (w.sites i) w.mail w.sent c (rw (at_own (eqs w.sites) i, at_own (records w.sites) i, at_own (threads w.sites) i, at_own (counters w.sites) i) h)
binds_rows p here w c i limit (e ∷ es) real can h =
    let low = binds_rows p here w c i limit es real can.0 h in
    let v = after_transition w i (own_binds limit es (w.sites i)) in
    let same : counters v.sites ≡ counters w.sites = made_binds w i limit es in
    let counted : Fit.IsBelowCounter (counters v.sites i) (name.Var e.0) = subst (λ (m : ℕ → Counters). Fit.IsBelowCounter (m i) (name.Var e.0)) (sym same) can.1.counted in
    let was : EachOfEquation (IsMade (counters v.sites)) e = subst (λ (m : ℕ → Counters). EachOfEquation (IsMade m) e) (sym same) can.1.was in
    acts_then p here w i (own_binds limit es (w.sites i)) (own_bind limit e.0 e.1) (record c { equations = e ∷ es ++ c.equations })
    (bind_row p here v (record c { equations = es ++ c.equations }) limit i e.0 e.1 can.1.own (λ zero. real (sym can.1.own ∙ zero))
    (unbound_free p here v (record c { equations = es ++ c.equations }) i e.0 low can.1.own counted can.1.free) can.1.low can.1.names was low)

-- who can go on still can
pub binds_run : (limit : ℕ) (es : List Equation) (s : Site) (n : ThreadName) (st : Stack) → value_of equal_thread s.threads n ≡ Some (st, Runs) → value_of equal_thread (own_binds limit es s).site.threads n ≡ Some (st, Runs)
binds_run limit [] s n st h = h
binds_run limit (e ∷ es) s n st h = woken_new (goes_on (e ∷ (own_binds limit es s).site.equations) e.0) (own_binds limit es s).site.threads n st Runs (binds_run limit es s n st h)

-- ---- the thread goes on

record CellKeeps (s t : Site) : Type 0 where
  equations : t.equations ≡ s.equations
  records : t.records ≡ s.records
  threads : t.threads ≡ s.threads
  counters : t.counters ≡ s.counters

cell_keeps : (ch : CellChange) (s : Site) → CellKeeps s (after_cell ch s)
cell_keeps Stays s = record { equations = refl; records = refl; threads = refl; counters = refl }
cell_keeps (Made c v) s = record { equations = refl; records = refl; threads = refl; counters = refl }
cell_keeps (Exchanged c new told) s = record { equations = refl; records = refl; threads = refl; counters = refl }

pub goes_row : (p : List Stmt) (here : ℕ → Name → Type 0) (w : World) (c d : State) (i : ℕ) (n : ThreadName) (e : Effect) (lines : List (List ℕ)) (st su : Stack) → value_of equal_thread (threads w.sites i) n ≡ Some (st, Runs) →
    exchange_stack (content_here (w.sites i) e.cell) e.cell e.stack ≡ su → EachOfStack (here i) su → d.equations ≡ c.equations → d.threads ≡ with_optional_value equal_thread c.threads n (living_stack su) → IsCentreMade (counters w.sites) d → PartsIn p here w c →
    PartsIn p here (after_transition w i (with_lines lines (after_effect n e (w.sites i)))) d
goes_row p here w c d i n e lines st su at stack names eq th centred h =
    unsent p here w.sites i (after_effect n e (w.sites i)) w.mail w.sent d
    (rw (k.equations, k.records, k.counters, at_own (eqs w.sites) i, at_own (records w.sites) i, at_own (counters w.sites) i)
    (rw (k.threads, stack) (goes_parts p here (eqs w.sites) (records w.sites) (threads w.sites) (counters w.sites) w.mail c h i n st (living_stack su) d at (alive su names) eq th centred)))
  where
    k : CellKeeps (w.sites i) (after_cell e.cell (w.sites i))
    k = cell_keeps e.cell (w.sites i)

    alive : (su : Stack) → EachOfStack (here i) su → (sv : Stack) → living_stack su ≡ Some sv → EachOfStack (here i) sv
    alive [] h sv q = cc
    alive (x ∷ xs) h sv q = let same : x ∷ xs ≡ sv = cc in subst (λ (z : Stack). EachOfStack (here i) z) same h

-- ---- a thread is born

-- a thread that is new has no stack at the centre
pub new_none : (ts : List (ThreadName × Stack)) (n : ThreadName) → Each (EachOfThread (λ y. y ≢ name.Thread n)) ts → value_of equal_thread ts n ≡ None
new_none [] n h = refl
new_none (t ∷ ts) n h = go (equal_thread t.0 n) refl (new_none ts n h.1)
  where
    go : (b : Bool) → equal_thread t.0 n ≡ b → value_of equal_thread ts n ≡ None → cond b (Some t.1) (value_of equal_thread ts n) ≡ None
    go true q rest = absurd (h.0.0 (ap name.Thread ((same_thread_decides t.0 n).0 q)))
    go false q rest = rest

abbrev pub born_stack : List Stmt → Birth → Stack
born_stack p b = item.Run b.code (env_for (free p b.code) b.vars) ∷ []

pub bears_row : (p : List Stmt) (here : ℕ → Name → Type 0) (w : World) (c d : State) (i n limit : ℕ) (o : Option Birth) → here i (name.Var nobody) →
    ((l a : ℕ) (m : Msg) → IsOnItsWay w.mail l a m → l < w.sent) → EachOfBirth (here i) o → EachOfBirth (IsMade (counters w.sites)) o → ((b : Birth) → o ≡ Some b → value_of equal_thread c.threads b.name ≡ None) →
    d.equations ≡ c.equations → d.threads ≡ threads_born p o ++ c.threads → IsCentreMade (counters w.sites) d → PartsIn p here w c → PartsIn p here (after_transition w i (birth_row p n limit o (w.sites i))) d
bears_row p here w c d i n limit None nob below names was new eq th centred h =
    unsent p here w.sites i (w.sites i) w.mail w.sent d (rw (at_own (eqs w.sites) i, at_own (records w.sites) i, at_own (threads w.sites) i, at_own (counters w.sites) i) (same_parts p here (eqs w.sites) (records w.sites) (threads w.sites) (counters w.sites) w.mail c h d eq th centred))
bears_row p here w c d i n limit (Some b) nob below names was new eq th centred h = go (placement n (w.sites i).records.site b.at == (w.sites i).records.site)
  where
    st : Stack
    st = born_stack p b

    to : ℕ
    to = placement n (w.sites i).records.site b.at

    spawn : Msg
    spawn = msg.Spawn b.name b.code b.vars (bundle_of limit (w.sites i).equations (msg.Spawn b.name b.code b.vars []))

    carried : Each (Contains c.equations) (bundle_of limit (w.sites i).equations (msg.Spawn b.name b.code b.vars []))
    carried = Each-weaker (Contains (w.sites i).equations) (Contains c.equations) (h.knowledge.known i) _ (bundle_known limit (w.sites i).equations (msg.Spawn b.name b.code b.vars []))

    here_now : EachOfStack (here i) st
    here_now = (for_names (here i) (free p b.code) b.vars names.1, tt)

    said : Fit.EachOfMsg (IsMade (counters w.sites)) spawn
    said = (was.0, was.1, each_of (EachOfEquation (IsMade (counters w.sites))) c.equations h.centred.all.0 _ carried)

    go : (q : Bool) → PartsIn p here (after_transition w i (cond q (without_output (with_thread p (Some b) (w.sites i))) (with_messages (w.sites i) (with_own_bundle limit (w.sites i).equations (sent_message to (msg.Spawn b.name b.code b.vars [])) ∷ [])))) d
    go true =
        unsent p here w.sites i (with_thread p (Some b) (w.sites i)) w.mail w.sent d
        (rw (at_own (eqs w.sites) i, at_own (records w.sites) i, at_own (counters w.sites) i)
        (birth_parts p here (eqs w.sites) (records w.sites) (threads w.sites) (counters w.sites) w.mail c h i b.name st d (new b refl) here_now eq th centred))
    go false =
        to_put p here w.sites i (w.sites i) (w.mail ++ mail_from w.sent (sent_to to spawn ∷ [])) d
        (rw (at_own (eqs w.sites) i, at_own (records w.sites) i, at_own (threads w.sites) i, at_own (counters w.sites) i)
        (leave_parts p here (eqs w.sites) (records w.sites) (threads w.sites) (counters w.sites) w.mail c h w.sent to b.name b.code b.vars (bundle_of limit (w.sites i).equations (msg.Spawn b.name b.code b.vars [])) st d below refl (new b refl) carried said eq th centred))

-- ---- the whole step

-- numbers of messages after a part of a turn
pub below_acts : (w : World) (i : ℕ) (d : Transition) → ((l a : ℕ) (m : Msg) → IsOnItsWay w.mail l a m → l < w.sent) → (l a : ℕ) (m : Msg) → IsOnItsWay (after_transition w i d).mail l a m → l < (after_transition w i d).sent
below_acts w i d below l a m h = go (from_number w.mail w.sent d.sent l a m h)
  where
    go : IsOnItsWay w.mail l a m ⊎ (Contains d.sent (sent_to a m) × (w.sent ≤ l) × (l < w.sent + length d.sent)) → l < w.sent + length d.sent
    go (inl q) = omega (arith, below l a m q)
    go (inr q) = q.2

four_parts : (w : World) (i : ℕ) (a b c d : Transition) → after_transition w i (sequence (sequence (sequence a b) c) d) ≡ after_transition (after_transition (after_transition (after_transition w i a) i b) i c) i d
four_parts w i a b c d =
    acts_after w i (sequence (sequence a b) c) d ∙ ap (λ (v : World). after_transition v i d) (acts_after w i (sequence a b) c ∙ ap (λ (v : World). after_transition v i c) (acts_after w i a b))

at_site : (p : List Stmt) (here : ℕ → Name → Type 0) (w : World) (i : ℕ) (d : Transition) (f : Site → Transition) (c : State) → PartsIn p here (after_transition (after_transition w i d) i (f ((after_transition w i d).sites i))) c → PartsIn p here (after_transition (after_transition w i d) i (f d.site)) c
at_site p here w i d f c h = subst (λ (s : Site). PartsIn p here (after_transition (after_transition w i d) i (f s)) c) (at_here w.sites i d.site) h

-- what is to be known of a step of the centre by a thread of site i
pub record IsOwnStep (p : List Stmt) (here : ℕ → Name → Type 0) (w : World) (c : State) (limit i : ℕ) (k : Pick) (kinds : List NameKind) (st : Stack) : Type 0 where
  pub real : i ≢ 0
  pub at : value_of equal_thread (threads w.sites i) k.thread ≡ Some (st, Runs)
  pub allowed : IsAllowed p c k
  pub fresh : k.fresh ≡ next_names i (counters w.sites i) kinds
  pub adds : CanAddEach (here i) (counters (after_transition w i (with_pick (with_fresh_names kinds (w.sites i)) k)).sites) i c.equations (effect_of p c k).adds
  pub cell : exchange_stack (content_here (own_binds limit (effect_of p c k).adds (with_fresh_names kinds (w.sites i))).site (effect_of p c k).cell) (effect_of p c k).cell (effect_of p c k).stack ≡ stack_left c (effect_of p c k)
  pub stack : EachOfStack (here i) (stack_left c (effect_of p c k))
  pub birth : EachOfBirth (here i) (effect_of p c k).born
  pub unborn : (b : Birth) → (effect_of p c k).born ≡ Some b → value_of equal_thread c.threads b.name ≡ None
  pub central : value_of equal_thread c.threads k.thread ≡ Some st
  pub nobody : here i (name.Var nobody)
  pub below : (l a : ℕ) (m : Msg) → IsOnItsWay w.mail l a m → l < w.sent

pub own_step : (p : List Stmt) (here : ℕ → Name → Type 0) (w : World) (c : State) (n limit i : ℕ) (k : Pick) (kinds : List NameKind) (st : Stack) → IsOwnStep p here w c limit i k kinds st → PartsIn p here w c →
    PartsIn p here (after_transition w i (step_row p n limit k kinds (effect_of p c k) (w.sites i))) (next p c k)
own_step p here w c n limit i k kinds st q h =
    subst (λ (v : World). PartsIn p here v (next p c k)) (sym (four_parts w i d1 d2 d3 d4)) h4
  where
    e : Effect
    e = effect_of p c k

    su : Stack
    su = stack_left c e

    d1 : Transition
    d1 = with_pick (with_fresh_names kinds (w.sites i)) k

    w1 : World
    w1 = after_transition w i d1

    h1 : PartsIn p here w1 c
    h1 = makes_row p here w c i k kinds h

    d2 : Transition
    d2 = own_binds limit e.adds d1.site

    w2 : World
    w2 = after_transition w1 i d2

    c2 : State
    c2 = record c { equations = e.adds ++ c.equations }

    h2 : PartsIn p here w2 c2
    h2 = at_site p here w i d1 (own_binds limit e.adds) c2 (binds_rows p here w1 c i limit e.adds q.real q.adds h1)

    made2 : counters w2.sites ≡ counters w1.sites
    made2 = field_kept (λ (t : Site). t.counters) w1.sites i d2.site (binds_counters limit e.adds d1.site ∙ sym (ap (λ (t : Site). t.counters) (at_here w.sites i d1.site)))

    fresh_made : Each (IsMade (counters w1.sites)) k.fresh
    fresh_made = subst (λ (ns : List Name). Each (IsMade (counters w1.sites)) ns) (sym q.fresh) (Each-weaker _ _ one (next_names i (counters w.sites i) kinds) (next_are i (counters w.sites i) kinds))
      where
        one : (x : Name) → IsNextOf i (counters w.sites i) (counters_after (counters w.sites i) kinds) x → IsMade (counters w1.sites) x
        one x r = inr (subst (λ (j : ℕ). Fit.IsBelowCounter (counters w1.sites j) x) (sym r.0) (subst (λ (t : Site). Fit.IsBelowCounter t.counters x) (sym (at_here w.sites i d1.site)) r.2))

    all4 : EachName (IsMade (counters w1.sites)) (next p c k)
    all4 = step_names (IsMade (counters w1.sites)) (inl refl) p c k h1.centred.all fresh_made q.allowed

    centred4 : IsCentreMade (counters w2.sites) (next p c k)
    centred4 = record { all = subst (λ (m : ℕ → Counters). EachName (IsMade m) (next p c k)) (sym made2) all4; nobody = h2.centred.nobody }

    c3 : State
    c3 = record (next p c k) { threads = with_optional_value equal_thread c.threads k.thread (living_stack su) }

    centred3 : IsCentreMade (counters w2.sites) c3
    centred3 = record {
      all = (centred4.all.0, centred4.all.1, centred4.all.2, each_right (EachOfThread (IsMade (counters w2.sites))) (threads_born p e.born) (with_optional_value equal_thread c.threads k.thread (living_stack su)) centred4.all.3);
      nobody = centred4.nobody;
    }

    site2 : w2.sites i ≡ d2.site
    site2 = at_here w1.sites i d2.site

    d3 : Transition
    d3 = with_lines (option_to_list e.line) (after_effect k.thread e d2.site)

    w3 : World
    w3 = after_transition w2 i d3

    h3 : PartsIn p here w3 c3
    h3 = at_site p here w1 i d2 (λ t. with_lines (option_to_list e.line) (after_effect k.thread e t)) c3
        (goes_row p here w2 c2 c3 i k.thread e (option_to_list e.line) st su
        (subst (λ (t : Site). value_of equal_thread t.threads k.thread ≡ Some (st, Runs)) (sym site2) (binds_run limit e.adds d1.site k.thread st q.at))
        (subst (λ (t : Site). exchange_stack (content_here t e.cell) e.cell e.stack ≡ su) (sym site2) q.cell) q.stack refl refl centred3 h2)

    made3 : counters w3.sites ≡ counters w2.sites
    made3 = field_kept (λ (t : Site). t.counters) w2.sites i d3.site ((cell_keeps e.cell d2.site).counters ∙ sym (ap (λ (t : Site). t.counters) site2))

    d4 : Transition
    d4 = birth_row p n limit e.born d3.site

    births : EachOfBirth (IsMade (counters w3.sites)) e.born
    births = subst (λ (m : ℕ → Counters). EachOfBirth (IsMade m) e.born) (sym (made3 ∙ made2)) (effect_names (IsMade (counters w1.sites)) (inl refl) p c k h1.centred.all fresh_made q.allowed).born

    unborn3 : (b : Birth) → e.born ≡ Some b → value_of equal_thread c3.threads b.name ≡ None
    unborn3 b is = goes_there equal_thread same_thread_decides c.threads k.thread b.name (living_stack su) other ∙ q.unborn b is
      where
        other : k.thread ≢ b.name
        other same = let both : Some st ≡ None = sym q.central ∙ subst (λ (x : ThreadName). value_of equal_thread c.threads x ≡ None) (sym same) (q.unborn b is) in cc

    below3 : (l a : ℕ) (m : Msg) → IsOnItsWay w3.mail l a m → l < w3.sent
    below3 = below_acts w2 i d3 (below_acts w1 i d2 (below_acts w i d1 q.below))

    h4 : PartsIn p here (after_transition w3 i d4) (next p c k)
    h4 = at_site p here w2 i d3 (birth_row p n limit e.born) (next p c k)
        (bears_row p here w3 c3 (next p c k) i n limit e.born q.nobody below3 q.birth births unborn3 refl refl
        (subst (λ (m : ℕ → Counters). IsCentreMade m (next p c k)) (sym made3) centred4) h3)
