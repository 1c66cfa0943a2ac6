-- Requests for a port's end and for the content of a stationary cell that come to a site that fits, and answers.
use Rattle.std.proofs.Common.{arith, ◌≡◌, ◌≢◌, ◌∙◌, sym, ap, refl, subst, ℕ, ◌≤◌, List, [], ◌∷◌, ◌++◌, ◌⊎◌, inl, inr, ne_eqb, Bool, true, false, cond, Some, None}
use Rattle.std.specs.Prelude.{Option, ◌==◌}
use Rattle.indexmap.specs.IndexMap.{insert_entry}
use Rattle.tree_node.specs.declared.names.VarName.{VarName}
use Rattle.tree_node.specs.declared.names.CellName.{CellName}
use Rattle.tree_node.specs.declared.names.PortName.{PortName}
use Rattle.tree_node.specs.declared.names.ThreadName.{ThreadName}
use Rattle.tree_node.specs.declared.names.Name.TheVariants as name
use Rattle.tree_node.specs.declared.node.Term.{Term}
use Rattle.tree_node.specs.Assoc.{with_value}
use Rattle.tree_node.specs.Each.{Each, AreDistinct}
use Rattle.tree_node.specs.Goal.{equal_cell}
use Rattle.tree_node.specs.State.{Stack, equal_thread}
use Rattle.tree_node.specs.Store.{Equation}
use Rattle.kernel_syntax.specs.declared.stmt.Stmt.{Stmt}
use Rattle.kernel_syntax.specs.Program.{IsProgram}
use Rattle.site_message.specs.declared.message.Msg.TheVariants as msg
use Rattle.site_message.specs.Wire.{IsSite, FitsVar}
use Rattle.oz_model.specs.Effect.{stack_effect}
use Rattle.oz_model.proofs.KindLemmas.{equal_cell_decides, cell_cases}
use Rattle.bind_protocol.specs.Records.{is_own, knowledge}
use Rattle.bind_protocol.specs.Rows.{sent_message}
use Rattle.thread_roster.specs.declared.mode.Awaited.{Awaited}
use Rattle.thread_roster.specs.declared.mode.Awaited.TheVariants.{Cell, Port}
use Rattle.thread_roster.specs.declared.mode.Mode.TheVariants.{Runs, WaitsFor}
use Rattle.thread_roster.specs.Binds.{goes_on}
use Rattle.site_model.specs.Site.{Site, CellRecord, HomeRecord, EarlyRequest, cell_record_in, thread_state, home_record, port_end}
use Rattle.site_model.specs.Bundle.{with_own_bundle}
use Rattle.site_model.specs.Variables.{with_known_equation, with_known_equation_as, with_known_equations}
use Rattle.site_model.specs.Requests.{NewEnd, OldContent, with_early, answered_stack, after_answer, answer_row, next_var, with_new_end, old_end, port_send_row, with_home_content, cell_ask_row, serve_early, cell_make_row}
use Rattle.world_model.proofs.KeyLemmas.{woken_new}
use Rattle.site_wire.specs.Sending.{CanBeSpelled, EquationsFit, OwnersFit, StackFits, ThreadFits, IsInLine, QueueFits, ThreadsFit, ContentFits, EarlyFits, KeptFits, SiteFits, TransitionFits, IsKeptVar, home_in, own_threads, line_in}
use Rattle.site_wire.proofs.BundleLemmas.{carried}
use Rattle.site_wire.proofs.EffectLemmas.{GoesOn, GoesOnSent, calm_fits, sent_fits}
use Rattle.site_wire.proofs.ThreadLemmas.{besides, besides_fit, served_fit, answered_fit, line_stays, queues_same}
use Rattle.site_wire.proofs.CellLemmas.{homes_put, home_here, home_other, ends_put, end_fits, line_home, line_elsewhere}
use Rattle.site_wire.proofs.SiteLemmas.{still, made_fit, in_early, content_kept}
use Rattle.site_wire.proofs.StepLemmas.{settled_fits}
use Rattle.site_wire.proofs.KeptLemmas.{own_other, early_fits, sent_stack_fits}
use Rattle.site_model.proofs.FrameLemmas.{makes_site}

-- ---- what equations that come to be known leave as it was

told_waits : (s : Site) (x : VarName) (t : Term) (n : ThreadName) (st : Stack) (a : Awaited) → thread_state s n ≡ Some (st, WaitsFor a) → thread_state (with_known_equation s x t) n ≡ Some (st, WaitsFor a)
told_waits s x t n st a now = go (is_own s.records x) (knowledge s.records x)
  where
    go : (c : Bool) (o : Option (Option Term)) → thread_state (with_known_equation_as c o s x t) n ≡ Some (st, WaitsFor a)
    go true o = now
    go false None = woken_new (goes_on ((x, t) ∷ s.equations) x) s.threads n st (WaitsFor a) now
    go false (Some None) = woken_new (goes_on ((x, t) ∷ s.equations) x) s.threads n st (WaitsFor a) now
    go false (Some (Some r)) = now

pub told_all_waits : (es : List Equation) (s : Site) (n : ThreadName) (st : Stack) (a : Awaited) → thread_state s n ≡ Some (st, WaitsFor a) → thread_state (with_known_equations s es) n ≡ Some (st, WaitsFor a)
told_all_waits [] s n st a now = now
told_all_waits (e ∷ es) s n st a now = told_all_waits es (with_known_equation s e.0 e.1) n st a (told_waits s e.0 e.1 n st a now)

-- ---- a site that fits, but for the line of this cell

pub record BesidesFits (p : List Stmt) (i : ℕ) (c : CellName) (s : Site) : Type 0 where
  pub site : s.records.site ≡ i
  pub equations : EquationsFit p s.equations
  pub owners : OwnersFit p s.records.owners
  pub threads : ThreadsFit p i s.counters.threads s.threads (besides c (line_in i s.cell_records s.homes))
  pub contents : (d : CellName) → ContentFits (cell_record_in s.cell_records d).held.token
  pub kept : KeptFits s.counters.sites s.ports s.homes

-- its line alone goes by what its home keeps of it
besides_homes : (i : ℕ) (qs : List (CellName × CellRecord)) (hs : List (CellName × HomeRecord)) (c : CellName) (r : HomeRecord) (d : CellName) → besides c (line_in i qs (insert_entry equal_cell hs c r)) d ≡ besides c (line_in i qs hs) d
besides_homes i qs hs c r d = go (cell_cases d c)
  where
    go : (d ≡ c) ⊎ (d ≢ c) → besides c (line_in i qs (insert_entry equal_cell hs c r)) d ≡ besides c (line_in i qs hs) d
    go (inl e) =
        let yes : equal_cell d c ≡ true = (equal_cell_decides d c).1 e in
        rw yes refl
    go (inr e) = ap (λ (h : HomeRecord). cond (equal_cell d c) [] (cond (d.at == 0) (cell_record_in qs d).queue (cond (d.at == i) (own_threads i h.early) []))) (home_other hs c d r e)

module _ (p : List Stmt) (is : IsProgram p) (n limit : ℕ) (high : limit ≤ 256) (i : ℕ) (low : IsSite i) where
  -- ---- answers

  pub ends_fit : (th : ThreadName) (old new : VarName) (st : Stack) (q : PortName) (s : Site) → thread_state s th ≡ Some (st, WaitsFor (Port q)) → FitsVar old → FitsVar new → SiteFits p i s → TransitionFits p i (answer_row p th (NewEnd old new) s)
  ends_fit th old new st q s now f g h = still p is limit high i low (after_answer p th (NewEnd old new) s) (subst (SiteFits p i) (sym after) on)
    where
      was : ThreadFits p th (st, WaitsFor (Port q))
      was = h.threads.each th (st, WaitsFor (Port q)) now

      goes : GoesOnSent p (stack_effect p s.equations (name.Var new ∷ []) None st)
      goes = sent_fits p is s.equations new st h.equations was.stack (was.sends q refl) g

      left : StackFits p (answered_stack p s (NewEnd old new) st)
      left = sent_stack_fits p is n limit high i low old (stack_effect p s.equations (name.Var new ∷ []) None st).port (stack_effect p s.equations (name.Var new ∷ []) None st).stack (λ r value x e. f) goes.1 goes.0

      after : after_answer p th (NewEnd old new) s ≡ record s { threads = with_value equal_thread s.threads th (answered_stack p s (NewEnd old new) st, Runs) }
      after = rw now refl

      on : SiteFits p i (record s { threads = with_value equal_thread s.threads th (answered_stack p s (NewEnd old new) st, Runs) })
      on = record {
        site = h.site;
        equations = h.equations;
        owners = h.owners;
        threads = answered_fit p i s.counters.threads s.threads (line_in i s.cell_records s.homes) (Port q) th st (answered_stack p s (NewEnd old new) st) (λ (c : CellName) (e : Port q ≡ Cell c). cc) now left h.threads;
        contents = h.contents;
        kept = h.kept;
      }

  -- the stack that an old content leaves
  content_left : (v : VarName) (st : Stack) (c : CellName) (th : ThreadName) (s : Site) → EquationsFit p s.equations → ThreadFits p th (st, WaitsFor (Cell c)) → FitsVar v → StackFits p (answered_stack p s (OldContent v) st)
  content_left v st c th s h was f =
      let calm : GoesOn p (stack_effect p s.equations [] None st) = calm_fits p is s.equations st h was.stack (was.calm c refl) in
      settled_fits p is n limit high i low v (stack_effect p s.equations [] None st).cell (stack_effect p s.equations [] None st).stack (λ d new told e. f) calm.1 calm.0

  pub contents_fit : (th : ThreadName) (v : VarName) (st : Stack) (c : CellName) (s : Site) → thread_state s th ≡ Some (st, WaitsFor (Cell c)) → c.at ≢ 0 → c.at ≢ i → FitsVar v → SiteFits p i s → TransitionFits p i (answer_row p th (OldContent v) s)
  contents_fit th v st c s now stationary elsewhere f h = still p is limit high i low (after_answer p th (OldContent v) s) (subst (SiteFits p i) (sym after) on)
    where
      none : (d : CellName) → Cell c ≡ Cell d → line_in i s.cell_records s.homes d ≡ []
      none d e = let same : c ≡ d = cc in subst (λ (z : CellName). line_in i s.cell_records s.homes z ≡ []) same (line_elsewhere i s.cell_records s.homes c stationary elsewhere)

      after : after_answer p th (OldContent v) s ≡ record s { threads = with_value equal_thread s.threads th (answered_stack p s (OldContent v) st, Runs) }
      after = rw now refl

      on : SiteFits p i (record s { threads = with_value equal_thread s.threads th (answered_stack p s (OldContent v) st, Runs) })
      on = record {
        site = h.site;
        equations = h.equations;
        owners = h.owners;
        threads = answered_fit p i s.counters.threads s.threads (line_in i s.cell_records s.homes) (Cell c) th st (answered_stack p s (OldContent v) st) none now (content_left v st c th s h.equations (h.threads.each th (st, WaitsFor (Cell c)) now) f) h.threads;
        contents = h.contents;
        kept = h.kept;
      }

  -- ---- a send of another site

  pub end_moves : (q : PortName) (th : ThreadName) (k : ℕ) (end : VarName) (s : Site) → port_end s q ≡ Some end → IsSite th.site → SiteFits p i s → TransitionFits p i (port_send_row limit q th k s)
  end_moves q th k end s held named h = record {
    site = on;
    sent = (carried p is limit high s.equations (msg.PortEnd th (old_end s q) (next_var s) []) h.equations (named, old, new, (omega arith, tt, tt)), tt);
  }
    where
      new : FitsVar (next_var s)
      new = subst IsSite (sym h.site) low

      old : FitsVar (old_end s q)
      old = rw held (end_fits s.ports q end h.kept.ends held)

      on : SiteFits p i (with_new_end q s)
      on = record {
        site = makes_site s.records (next_var s ∷ []) ∙ h.site;
        equations = h.equations;
        owners = made_fit p s.records (next_var s ∷ []) h.owners;
        threads = h.threads;
        contents = h.contents;
        kept = record { sites = h.kept.sites; ends = ends_put s.ports q (next_var s) new h.kept.ends; homes = h.kept.homes };
      }

  -- ---- requests at the home

  -- the old content goes to the site that asked
  answers : (c : CellName) (r : EarlyRequest) (v : VarName) (s : Site) → EarlyFits r → FitsVar v → EquationsFit p s.equations → CanBeSpelled (with_own_bundle limit s.equations (sent_message r.asking (msg.CellOld r.thread v [])) ∷ [])
  answers c r v s f g h = (carried p is limit high s.equations (msg.CellOld r.thread v []) h (f.0, g, (omega arith, tt, tt)), tt)

  pub asked_fits : (c : CellName) (r : EarlyRequest) (s : Site) → r.asking ≢ i → EarlyFits r → SiteFits p i s → TransitionFits p i (cell_ask_row p limit c r s)
  asked_fits c r s other f h = go (home_record s c).content refl
    where
      away : (r.asking == s.records.site) ≡ false
      away = ne_eqb r.asking s.records.site (λ e. other (e ∙ h.site))

      go : (o : Option VarName) → (home_record s c).content ≡ o → TransitionFits p i (cell_ask_row p limit c r s)
      go (Some v) e =
          let known : FitsVar v = subst IsKeptVar e (h.kept.homes c).0 in
          let on : SiteFits p i (with_home_content c r.new s) = content_kept p is limit high i low c r.new s f.2 h in
          rw (e, away) (record { site = on; sent = answers c r v s f known h.equations })
      go None e =
          rw e (still p is limit high i low (with_early c r s) (early_fits p is n limit high i low c r s f
          (λ at. subst (QueueFits s.threads c) (sym (own_other i (home_in s.homes c).early r (ne_eqb r.asking i other))) (in_early p is limit high i low c s h at)) h))

  -- ---- the home hears of a cell

  -- the site with another content of it
  besides_content : (c : CellName) (new : VarName) (s : Site) → FitsVar new → BesidesFits p i c s → BesidesFits p i c (with_home_content c new s)
  besides_content c new s f h = record {
    site = h.site;
    equations = h.equations;
    owners = h.owners;
    threads = queues_same p i s.counters.threads s.threads (besides c (line_in i s.cell_records s.homes)) _ (besides_homes i s.cell_records s.homes c (record (home_record s c) { content = Some new })) h.threads;
    contents = h.contents;
    kept = record { sites = h.kept.sites; ends = h.kept.ends; homes = homes_put s.homes c (record (home_record s c) { content = Some new }) (f, (h.kept.homes c).1) h.kept.homes };
  }

  heard_fits : (c : CellName) (rs : List EarlyRequest) (v : VarName) (s : Site) → c.at ≡ i → FitsVar v → Each EarlyFits rs → AreDistinct (own_threads i rs) → Each (IsInLine s.threads c) (own_threads i rs) → BesidesFits p i c s → TransitionFits p i (serve_early p limit c v rs s)
  heard_fits c [] v s at fits early once line h = record {
    site = record {
      site = h.site;
      equations = h.equations;
      owners = h.owners;
      threads = queues_same p i s.counters.threads s.threads (besides c (line_in i s.cell_records s.homes)) _ (λ d. same d (cell_cases d c)) h.threads;
      contents = h.contents;
      kept = record { sites = h.kept.sites; ends = h.kept.ends; homes = homes_put s.homes c (record { content = Some v; early = [] }) (fits, tt) h.kept.homes };
    };
    sent = tt;
  }
    where
      same : (d : CellName) → (d ≡ c) ⊎ (d ≢ c) → line_in i s.cell_records (insert_entry equal_cell s.homes c (record { content = Some v; early = [] })) d ≡ besides c (line_in i s.cell_records s.homes) d
      same d (inl e) =
          let none : line_in i s.cell_records (insert_entry equal_cell s.homes c (record { content = Some v; early = [] })) c ≡ [] =
          line_home i s.cell_records (insert_entry equal_cell s.homes c (record { content = Some v; early = [] })) c low.0 at ∙ ap (λ (r : HomeRecord). own_threads i r.early) (home_here s.homes c (record { content = Some v; early = [] })) in
          let yes : equal_cell d c ≡ true = (equal_cell_decides d c).1 e in
          subst (λ (z : CellName). line_in i s.cell_records (insert_entry equal_cell s.homes c (record { content = Some v; early = [] })) z ≡ []) (sym e) none ∙ sym (ap (λ (b : Bool). cond b [] (line_in i s.cell_records s.homes d)) yes)
      same d (inr e) =
          let no : equal_cell d c ≡ false = go (equal_cell d c) refl in
          ap (λ (r : HomeRecord). cond (d.at == 0) (cell_record_in s.cell_records d).queue (cond (d.at == i) (own_threads i r.early) [])) (home_other s.homes c d (record { content = Some v; early = [] }) e)
          ∙ sym (ap (λ (b : Bool). cond b [] (line_in i s.cell_records s.homes d)) no)
        where
          go : (b : Bool) → equal_cell d c ≡ b → equal_cell d c ≡ false
          go true q = absurd (e ((equal_cell_decides d c).0 q))
          go false q = q
  heard_fits c (r ∷ rs) v s at fits early once line h = go (r.asking == i) (ap (λ (k : ℕ). r.asking == k) h.site) once line (λ u one in_line g. heard_fits c rs r.new u at early.0.2 early.1 one in_line g)
    where
      told : BesidesFits p i c (with_home_content c r.new s)
      told = besides_content c r.new s early.0.2 h

      go : (b : Bool) → (r.asking == s.records.site) ≡ b → AreDistinct (cond b (r.thread ∷ own_threads i rs) (own_threads i rs)) → Each (IsInLine s.threads c) (cond b (r.thread ∷ own_threads i rs) (own_threads i rs))
          → ((u : Site) → AreDistinct (own_threads i rs) → Each (IsInLine u.threads c) (own_threads i rs) → BesidesFits p i c u → TransitionFits p i (serve_early p limit c r.new rs u)) → TransitionFits p i (serve_early p limit c v (r ∷ rs) s)
      go true e one in_line again = rw e (record { site = rest.site; sent = rest.sent })
        where
          now : thread_state s r.thread ≡ Some (in_line.0.0, WaitsFor (Cell c))
          now = in_line.0.1

          left : StackFits p (answered_stack p (with_home_content c r.new s) (OldContent v) in_line.0.0)
          left = content_left v in_line.0.0 c r.thread s h.equations (h.threads.each r.thread (in_line.0.0, WaitsFor (Cell c)) now) fits

          after : after_answer p r.thread (OldContent v) (with_home_content c r.new s) ≡ record (with_home_content c r.new s) { threads = with_value equal_thread s.threads r.thread (answered_stack p (with_home_content c r.new s) (OldContent v) in_line.0.0, Runs) }
          after = rw now refl

          next : BesidesFits p i c (record (with_home_content c r.new s) { threads = with_value equal_thread s.threads r.thread (answered_stack p (with_home_content c r.new s) (OldContent v) in_line.0.0, Runs) })
          next = record {
            site = told.site;
            equations = told.equations;
            owners = told.owners;
            threads = served_fit p i s.counters.threads s.threads (line_in i s.cell_records (with_home_content c r.new s).homes) c r.thread in_line.0.0 (answered_stack p (with_home_content c r.new s) (OldContent v) in_line.0.0) now left told.threads;
            contents = told.contents;
            kept = told.kept;
          }

          rest : TransitionFits p i (serve_early p limit c r.new rs (after_answer p r.thread (OldContent v) (with_home_content c r.new s)))
          rest = subst (λ (u : Site). TransitionFits p i (serve_early p limit c r.new rs u)) (sym after)
              (again (record (with_home_content c r.new s) { threads = with_value equal_thread s.threads r.thread (answered_stack p (with_home_content c r.new s) (OldContent v) in_line.0.0, Runs) }) one.1
              (line_stays p i s.threads c r.thread _ (own_threads i rs) one.0 in_line.1) next)
      go false e one in_line again =
          let rest : TransitionFits p i (serve_early p limit c r.new rs (with_home_content c r.new s)) = again (with_home_content c r.new s) one in_line told in
          rw e (record { site = rest.site; sent = ((answers c r v s early.0 fits h.equations).0, rest.sent) })

  pub makes_fit : (c : CellName) (v : VarName) (s : Site) → c.at ≡ i → FitsVar v → SiteFits p i s → TransitionFits p i (cell_make_row p limit c v s)
  makes_fit c v s at f h =
      let line : QueueFits s.threads c (own_threads i (home_in s.homes c).early) = in_early p is limit high i low c s h at in
      heard_fits c (home_record s c).early v s at f (h.kept.homes c).1 line.once line.inside
      (record { site = h.site; equations = h.equations; owners = h.owners; threads = besides_fit p i s.counters.threads s.threads (line_in i s.cell_records s.homes) c h.threads; contents = h.contents; kept = h.kept })
