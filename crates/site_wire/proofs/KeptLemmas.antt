-- Requests of threads that wait for an answer, and steps on ports and on stationary cells, of a site that fits.
use Rattle.std.proofs.Common.{arith, ◌≡◌, ◌≢◌, ◌∙◌, sym, ap, refl, subst, ℕ, ◌≤◌, List, [], ◌∷◌, ◌++◌, eq-eqb, Bool, true, false, cond, Some}
use Rattle.std.specs.Prelude.{◌==◌}
use Rattle.tree_node.specs.declared.names.VarName.{VarName}
use Rattle.tree_node.specs.declared.names.CellName.{CellName}
use Rattle.tree_node.specs.declared.names.PortName.{PortName}
use Rattle.tree_node.specs.declared.names.ThreadName.{ThreadName}
use Rattle.tree_node.specs.declared.names.NameKind.{NameKind}
use Rattle.tree_node.specs.declared.pick.Pick.{Pick}
use Rattle.tree_node.specs.Assoc.{value_of, with_value, with_optional_value}
use Rattle.tree_node.specs.State.{Stack, equal_thread}
use Rattle.tree_node.proofs.EachLemmas.{each_append}
use Rattle.kernel_syntax.specs.declared.stmt.Stmt.{Stmt}
use Rattle.kernel_syntax.specs.Program.{IsProgram}
use Rattle.site_message.specs.declared.message.Msg.{Msg}
use Rattle.site_message.specs.declared.message.Msg.TheVariants as msg
use Rattle.site_message.specs.declared.message.Sent.{Sent}
use Rattle.site_message.specs.Wire.{IsSite, FitsVar, FitsWire}
use Rattle.oz_model.specs.Effect.{CellChange, Stays, Made, Exchanged, PortChange, Keeps, Opened, Effect}
use Rattle.oz_model.specs.Effect as effect
use Rattle.oz_model.specs.EffectNames.{EachOfChange, EachOfPortChange}
use Rattle.oz_model.specs.Step.{living_stack}
use Rattle.bind_protocol.specs.Rows.{sent_message}
use Rattle.thread_roster.specs.declared.mode.Awaited.{Awaited}
use Rattle.thread_roster.specs.declared.mode.Awaited.TheVariants.{Cell, Port}
use Rattle.thread_roster.specs.declared.mode.Mode.TheVariants.{Runs, WaitsFor}
use Rattle.site_model.specs.Site.{Site, Threads, EarlyRequest, thread_state, home_record, with_home_record}
use Rattle.site_model.specs.Bundle.{with_own_bundle}
use Rattle.site_model.specs.Transition.{without_output, with_messages}
use Rattle.site_model.specs.Cells.{exchange_stack}
use Rattle.site_model.specs.Requests.{with_asking, asking_row, send_request_row, home_request_row, with_early, early_request_row, send_stack}
use Rattle.site_model.specs.Unit.{with_fresh_names, runnable_state, with_stack, after_home_cell, after_port, home_content, end_here, kept_stack, telling_row, kept_step_row}
use Rattle.site_wire.specs.Sending.{IsOfSites, StackFits, IsAtNameless, IsAtSend, QueueFits, EarlyFits, EndsFit, SiteFits, TransitionFits, home_in, own_threads, line_in}
use Rattle.site_wire.proofs.TextLemmas.{told_fits}
use Rattle.site_wire.proofs.BundleLemmas.{carried}
use Rattle.site_wire.proofs.EffectLemmas.{EffectFits}
use Rattle.site_wire.proofs.ThreadLemmas.{lines_up}
use Rattle.site_wire.proofs.CellLemmas.{ends_put, line_home}
use Rattle.site_wire.proofs.SiteLemmas.{still, fresh_fits, homes_fit, content_kept}
use Rattle.site_wire.proofs.StepLemmas.{thread_fits, settled_fits, left_fits, asking_stands}

-- ---- one early request more

pub own_mine : (i : ℕ) (rs : List EarlyRequest) (r : EarlyRequest) → r.asking ≡ i → own_threads i (rs ++ r ∷ []) ≡ own_threads i rs ++ r.thread ∷ []
own_mine i [] r e = rw (eq-eqb r.asking i e) refl
own_mine i (q ∷ rs) r e = go (q.asking == i) (own_mine i rs r e)
  where
    go : (b : Bool) → own_threads i (rs ++ r ∷ []) ≡ own_threads i rs ++ r.thread ∷ [] → cond b (q.thread ∷ own_threads i (rs ++ r ∷ [])) (own_threads i (rs ++ r ∷ [])) ≡ cond b (q.thread ∷ own_threads i rs) (own_threads i rs) ++ r.thread ∷ []
    go true ih = ap (λ (ns : List ThreadName). q.thread ∷ ns) ih
    go false ih = ih

pub own_other : (i : ℕ) (rs : List EarlyRequest) (r : EarlyRequest) → (r.asking == i) ≡ false → own_threads i (rs ++ r ∷ []) ≡ own_threads i rs
own_other i [] r e = rw e refl
own_other i (q ∷ rs) r e = go (q.asking == i) (own_other i rs r e)
  where
    go : (b : Bool) → own_threads i (rs ++ r ∷ []) ≡ own_threads i rs → cond b (q.thread ∷ own_threads i (rs ++ r ∷ [])) (own_threads i (rs ++ r ∷ [])) ≡ cond b (q.thread ∷ own_threads i rs) (own_threads i rs)
    go true ih = ap (λ (ns : List ThreadName). q.thread ∷ ns) ih
    go false ih = ih

-- ---- what does not change

home_threads : (c : CellChange) (s : Site) → (after_home_cell c s).threads ≡ s.threads
home_threads Stays s = refl
home_threads (Made c v) s = go (c.at == s.records.site)
  where
    go : (b : Bool) → (cond b (with_home_record s c (record { content = Some v; early = [] })) s).threads ≡ s.threads
    go true = refl
    go false = refl
home_threads (Exchanged c new told) s = refl

port_threads : (q : PortChange) (s : Site) → (after_port q s).threads ≡ s.threads
port_threads Keeps s = refl
port_threads (Opened q end) s = refl
port_threads (effect.Sent q value new) s = refl

-- what such a step is given: a cell that is made has a home, and an old content and an old end are variables of sites
pub record IsKeptGiven (e : Effect) (s : Site) : Type 0 where
  pub stationary : (c : CellName) (v : VarName) → e.cell ≡ Made c v → c.at ≢ 0
  pub content : (c : CellName) (new told : VarName) → e.cell ≡ Exchanged c new told → FitsVar (home_content s e.cell)
  pub end : (q : PortName) (value new : VarName) → e.port ≡ effect.Sent q value new → FitsVar (end_here s e.port)

module _ (p : List Stmt) (is : IsProgram p) (n limit : ℕ) (high : limit ≤ 256) (i : ℕ) (low : IsSite i) where
  -- ---- asking

  asking_fits : (th : ThreadName) (st : Stack) (a : Awaited) (to : ℕ) (m : Msg) (s : Site) → FitsWire m → SiteFits p i s → SiteFits p i (with_asking th st a s) → TransitionFits p i (asking_row limit th st a to m s)
  asking_fits th st a to m s f h g = record { site = g; sent = (carried p is limit high s.equations m h.equations f, tt) }

  pub send_asks : (q : PortName) (th : ThreadName) (st : Stack) (s : Site) → thread_state s th ≡ Some (st, Runs) → IsAtSend p st → IsSite q.site → SiteFits p i s → TransitionFits p i (send_request_row limit q th st s)
  send_asks q th st s now sends port h = asking_fits th st (Port q) q.site (msg.PortSend q th s.records.site) s (port, (h.threads.each th (st, Runs) now).name, subst IsSite (sym h.site) low) h
      (asking_stands p is n limit high i low th st (Port q) s now (λ (c : CellName) (k : Port q ≡ Cell c). cc) (λ r k. sends) h)

  pub home_asks : (c : CellName) (new : VarName) (th : ThreadName) (st : Stack) (s : Site) → thread_state s th ≡ Some (st, Runs) → IsAtNameless p st → IsSite c.site × IsSite c.at → FitsVar new → SiteFits p i s → TransitionFits p i (home_request_row limit c new th st s)
  home_asks c new th st s now calm cell fits h = asking_fits th st (Cell c) c.at (msg.CellAsk c th s.records.site new []) s
      (cell.0, cell.1, (h.threads.each th (st, Runs) now).name, subst IsSite (sym h.site) low, fits, (omega arith, tt, tt)) h
      (asking_stands p is n limit high i low th st (Cell c) s now (λ d k. calm) (λ (q : PortName) (k : Cell c ≡ Port q). cc) h)

  -- a request waits for the home to hear of the cell
  pub early_fits : (c : CellName) (r : EarlyRequest) (s : Site) → EarlyFits r → (c.at ≡ i → QueueFits s.threads c (own_threads i ((home_in s.homes c).early ++ r ∷ []))) → SiteFits p i s → SiteFits p i (with_early c r s)
  early_fits c r s f q h = homes_fit p is limit high i low c (record (home_record s c) { early = (home_record s c).early ++ r ∷ [] }) s
      ((h.kept.homes c).0, each_append EarlyFits (home_record s c).early (r ∷ []) (h.kept.homes c).1 (f, tt)) q h

  pub home_waits : (c : CellName) (new : VarName) (th : ThreadName) (st : Stack) (s : Site) → thread_state s th ≡ Some (st, Runs) → IsAtNameless p st → c.at ≡ s.records.site → FitsVar new → SiteFits p i s → TransitionFits p i (early_request_row c new th st s)
  home_waits c new th st s now calm at fits h = still p is limit high i low (with_early c (record { thread = th; asking = s.records.site; new = new }) (with_asking th st (Cell c) s))
      (early_fits c (record { thread = th; asking = s.records.site; new = new }) (with_asking th st (Cell c) s) ((h.threads.each th (st, Runs) now).name, subst IsSite (sym h.site) low, fits) (λ e. line) stands)
    where
      stands : SiteFits p i (with_asking th st (Cell c) s)
      stands = asking_stands p is n limit high i low th st (Cell c) s now (λ d k. calm) (λ (q : PortName) (k : Cell c ≡ Port q). cc) h

      behind : QueueFits (with_value equal_thread s.threads th (st, WaitsFor (Cell c))) c (line_in i s.cell_records s.homes c ++ th ∷ [])
      behind = lines_up p i s.counters.threads s.threads (line_in i s.cell_records s.homes) th c st now h.threads stands.threads

      here : line_in i s.cell_records s.homes c ++ th ∷ [] ≡ own_threads i ((home_in s.homes c).early ++ record { thread = th; asking = s.records.site; new = new } ∷ [])
      here = ap (λ (ns : List ThreadName). ns ++ th ∷ []) (line_home i s.cell_records s.homes c low.0 (at ∙ h.site)) ∙ sym (own_mine i (home_in s.homes c).early (record { thread = th; asking = s.records.site; new = new }) h.site)

      line : QueueFits (with_value equal_thread s.threads th (st, WaitsFor (Cell c))) c (own_threads i ((home_in s.homes c).early ++ record { thread = th; asking = s.records.site; new = new } ∷ []))
      line = subst (QueueFits (with_value equal_thread s.threads th (st, WaitsFor (Cell c))) c) here behind

  -- ---- what becomes of a stationary cell and of a port

  home_fits : (c : CellChange) (s : Site) → EachOfChange IsOfSites c → SiteFits p i s → SiteFits p i (after_home_cell c s)
  home_fits Stays s f h = h
  home_fits (Made c v) s f h = go (c.at == s.records.site)
    where
      go : (b : Bool) → SiteFits p i (cond b (with_home_record s c (record { content = Some v; early = [] })) s)
      go true = homes_fit p is limit high i low c (record { content = Some v; early = [] }) s (f.1, tt) (λ e. record { once = tt; inside = tt }) h
      go false = h
  home_fits (Exchanged c new told) s f h = content_kept p is limit high i low c new s f.1 h

  ports_fit : (ports : List (PortName × VarName)) (s : Site) → EndsFit ports → SiteFits p i s → SiteFits p i (record s { ports = ports })
  ports_fit ports s f h = record {
    site = h.site;
    equations = h.equations;
    owners = h.owners;
    threads = h.threads;
    contents = h.contents;
    kept = record { sites = h.kept.sites; ends = f; homes = h.kept.homes };
  }

  port_fits : (q : PortChange) (s : Site) → EachOfPortChange IsOfSites q → SiteFits p i s → SiteFits p i (after_port q s)
  port_fits Keeps s f h = h
  port_fits (Opened q x) s f h = ports_fit _ s (ends_put s.ports q x f.1 h.kept.ends) h
  port_fits (effect.Sent q value new) s f h = ports_fit _ s (ends_put s.ports q new f.2 h.kept.ends) h

  -- the stack goes on with the old end
  pub sent_stack_fits : (old : VarName) (q : PortChange) (st : Stack) → ((r : PortName) (value new : VarName) → q ≡ effect.Sent r value new → FitsVar old) → EachOfPortChange IsOfSites q → StackFits p st → StackFits p (send_stack old q st)
  sent_stack_fits old Keeps st f g h = h
  sent_stack_fits old (Opened r x) st f g h = h
  sent_stack_fits old (effect.Sent r value new) st f g h = record {
    names = ((((f r value new refl, (g.1, (g.2, tt))), tt), tt), h.names);
    nodes = ((((tt, (told_fits p is).pairs value new), tt), tt), h.nodes);
    covered = (tt, h.covered);
  }

  -- ---- steps

  -- the home of a new cell is told
  tells_fit : (c : CellChange) (s : Site) → ((d : CellName) (v : VarName) → c ≡ Made d v → d.at ≢ 0) → EachOfChange IsOfSites c → SiteFits p i s → TransitionFits p i (telling_row limit c s)
  tells_fit Stays s away f h = still p is limit high i low s h
  tells_fit (Exchanged c new told) s away f h = still p is limit high i low s h
  tells_fit (Made c v) s away f h = go (c.at == s.records.site)
    where
      home : IsSite c.at
      home = let other : c.at ≢ 0 = away c v refl in (omega (arith, other), f.0.1)

      go : (b : Bool) → TransitionFits p i (cond b (without_output s) (with_messages s (with_own_bundle limit s.equations (sent_message c.at (msg.CellMake c v [])) ∷ [])))
      go true = still p is limit high i low s h
      go false = record { site = h; sent = (carried p is limit high s.equations (msg.CellMake c v []) h.equations (f.0.0, home, f.1, (omega arith, tt, tt)), tt) }

  pub kept_fits : (k : Pick) (kinds : List NameKind) (e : Effect) (s : Site) (st : Stack) → thread_state s k.thread ≡ Some (st, Runs) → EffectFits p e → IsKeptGiven e s → SiteFits p i s → TransitionFits p i (kept_step_row limit k kinds e s)
  kept_fits k kinds e s st now f g h = record { site = told.site; sent = told.sent }
    where
      fits : SiteFits p i (after_port e.port (after_home_cell e.cell (with_fresh_names kinds s)))
      fits = port_fits e.port (after_home_cell e.cell (with_fresh_names kinds s)) f.port (home_fits e.cell (with_fresh_names kinds s) f.cell (fresh_fits p is limit high i low kinds s h))

      same : (after_port e.port (after_home_cell e.cell (with_fresh_names kinds s))).threads ≡ s.threads
      same = port_threads e.port (after_home_cell e.cell (with_fresh_names kinds s)) ∙ home_threads e.cell (with_fresh_names kinds s)

      runs : thread_state (after_port e.port (after_home_cell e.cell (with_fresh_names kinds s))) k.thread ≡ Some (st, Runs)
      runs = subst (λ (ts : Threads). value_of equal_thread ts k.thread ≡ Some (st, Runs)) (sym same) now

      left : StackFits p (kept_stack s e)
      left = sent_stack_fits (end_here s e.port) e.port (exchange_stack (home_content s e.cell) e.cell e.stack) g.end f.port
          (settled_fits p is n limit high i low (home_content s e.cell) e.cell e.stack g.content f.cell f.stack)

      on : SiteFits p i (with_stack k.thread (kept_stack s e) (after_port e.port (after_home_cell e.cell (with_fresh_names kinds s))))
      on = let t : SiteFits p i (record (after_port e.port (after_home_cell e.cell (with_fresh_names kinds s))) { threads = with_optional_value equal_thread (after_port e.port (after_home_cell e.cell (with_fresh_names kinds s))).threads k.thread (runnable_state (living_stack (kept_stack s e))) }) =
          thread_fits p is n limit high i low k.thread st (runnable_state (living_stack (kept_stack s e))) (after_port e.port (after_home_cell e.cell (with_fresh_names kinds s))) runs
          (left_fits p is n limit high i low k.thread (kept_stack s e) (st, Runs) (fits.threads.each k.thread (st, Runs) runs) left) fits in
          record { site = t.site; equations = t.equations; owners = t.owners; threads = t.threads; contents = t.contents; kept = t.kept }

      told : TransitionFits p i (telling_row limit e.cell (with_stack k.thread (kept_stack s e) (after_port e.port (after_home_cell e.cell (with_fresh_names kinds s)))))
      told = tells_fit e.cell (with_stack k.thread (kept_stack s e) (after_port e.port (after_home_cell e.cell (with_fresh_names kinds s)))) g.stationary f.cell on
