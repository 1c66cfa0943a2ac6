-- A thread's own step on a port or on a stationary cell: what the row does.
use Rattle.std.proofs.Common.{arith, ◌≡◌, ◌∙◌, sym, ap, refl, subst, ℕ, List, [], ◌∷◌, ◌+◌, ◌++◌, inl, inr, Bool, true, false, cond, Some, None, ◌≤◌, ◌⊎◌}
use Rattle.std.specs.Prelude.{Option, ◌≢◌, ◌==◌, unwrap_or}
use Rattle.std.specs.Map.{lookup}
use Rattle.tree_node.specs.declared.names.VarName.{VarName}
use Rattle.tree_node.specs.declared.names.CellName.{CellName}
use Rattle.tree_node.specs.declared.names.PortName.{PortName}
use Rattle.tree_node.specs.declared.names.ThreadName.{ThreadName}
use Rattle.tree_node.specs.declared.names.Name.{Name}
use Rattle.tree_node.specs.declared.names.Name.TheVariants as name
use Rattle.tree_node.specs.declared.names.NameKind.{NameKind}
use Rattle.tree_node.specs.declared.pick.Pick.{Pick}
use Rattle.tree_node.specs.Assoc.{value_of, with_value, with_optional_value}
use Rattle.tree_node.specs.Each.{Each, AreDistinct}
use Rattle.tree_node.specs.Goal.{equal_port}
use Rattle.tree_node.specs.Names.{EachOfEquation, EachOfStack}
use Rattle.tree_node.specs.State.{Stack, State, equal_thread}
use Rattle.kernel_syntax.specs.declared.stmt.Stmt.{Stmt}
use Rattle.site_message.specs.declared.message.Msg.TheVariants as msg
use Rattle.oz_model.specs.Effect.{CellChange, Stays, Made, Exchanged, PortChange, Keeps, Opened, Sent, Effect, stack_effect, vars_among}
use Rattle.oz_model.specs.EffectNames.{EachOfEffect}
use Rattle.oz_model.specs.Need.{Need, Takes, stack_need, kinds_of}
use Rattle.oz_model.specs.Step.{AreOfKinds, IsBindFor, stack_left}
use Rattle.oz_model.proofs.EffectNames.{stack_effect_names}
use Rattle.oz_model.proofs.NameLemmas.{Each-weaker, EachOfEquation-weaker}
use Rattle.bind_protocol.specs.Records.{Records}
use Rattle.bind_protocol.specs.Rows.{sent_message}
use Rattle.thread_roster.specs.declared.mode.Awaited.{Awaited}
use Rattle.thread_roster.specs.declared.mode.Mode.TheVariants as mode
use Rattle.site_model.specs.Bundle.{with_own_bundle}
use Rattle.site_model.specs.Cells.{exchange_stack, step_pick}
use Rattle.site_model.specs.Requests.{send_stack}
use Rattle.site_model.specs.Site.{Site, Threads, HomeRecord, home_record, thread_state, with_home_record}
use Rattle.site_model.specs.Transition.{Transition, without_output, with_messages}
use Rattle.site_model.specs.Unit.{next_names, counters_after, runnable_state, with_fresh_names, with_stack, kept_stack, end_here, home_content, after_port, after_home_cell, telling_row, kept_step_row}
use Rattle.site_model.specs.Variables.{after_makes}
use Rattle.site_model.proofs.FrameLemmas.{makes_site}
use Rattle.world_model.specs.Keepers.{ports}
use Rattle.world_model.specs.Matches.{PartsMatch}
use Rattle.world_model.specs.Names.{IsHere, IsHereName, here_at}
use Rattle.world_model.specs.Shown.{standing, shown, shown_world}
use Rattle.world_model.specs.World.{World, at_put, put, eqs, records, threads, counters, after_transition}
use Rattle.world_model.proofs.PutLemmas.{at_here, at_other}
use Rattle.world_variables.specs.Plain.{IsKept}
use Rattle.world_variables.specs.Sums.{names}
use Rattle.world_variables.proofs.PlaceLemmas.{gone_on}
use Rattle.world_variables.proofs.RegisterLemmas.{MaySend}
use Rattle.world_variables.proofs.SumLemmas.{with_names}
use Rattle.world_cells.proofs.FrameLemmas.{AreOfNone}
use Rattle.world_cells.proofs.QueueLemmas.{SameWaiters, goes_waiters, running_not, waiters_same}
use Rattle.world_answers.specs.Joined.{Joined}
use Rattle.world_answers.proofs.ActLemmas.{IsKeptAct, act_next, act_here, act_wider, act_fresh, act_news, act_quiet, act_leaves, act_counted, made_away, act_reached}
use Rattle.world_answers.proofs.AskLemmas.{shown_at}
use Rattle.world_answers.proofs.KeptLemmas.{IsQuiet, old_end_of, old_content_of, left_is, left_names}
use Rattle.world_answers.proofs.LeaveLemmas.{Leaves}
use Rattle.world_answers.specs.AnswerCounts.{cell_one, placed_cells}
use Rattle.world_answers.proofs.OwedLemmas.{Owes, Nobody, tells_cell, owes_cell}
use Rattle.world_answers.proofs.PackLemmas.{ReachedAt, shown_is}
use Rattle.world_answers.proofs.ShownLemmas.{standing_with, standing_distinct, stands_to, shown_threads_real}
use Rattle.world_answers.proofs.StandLemmas.{EachOfStack-weaker, here_wider}

-- ---- what stays

-- all but ports and homes is as it was
pub record Alike (s t : Site) : Type 0 where
  pub equations : t.equations ≡ s.equations
  pub records : t.records ≡ s.records
  pub counters : t.counters ≡ s.counters
  pub cell_records : t.cell_records ≡ s.cell_records
  pub managers : t.managers ≡ s.managers
  pub ended : t.ended ≡ s.ended
  pub threads : t.threads ≡ s.threads

alike_home : (s : Site) (c : CellName) (h : HomeRecord) → Alike s (with_home_record s c h)
alike_home s c h = record { equations = refl; records = refl; counters = refl; cell_records = refl; managers = refl; ended = refl; threads = refl }

alike_same : (s : Site) → Alike s s
alike_same s = record { equations = refl; records = refl; counters = refl; cell_records = refl; managers = refl; ended = refl; threads = refl }

alike_then : (s t u : Site) → Alike s t → Alike t u → Alike s u
alike_then s t u f g = record {
  equations = g.equations ∙ f.equations;
  records = g.records ∙ f.records;
  counters = g.counters ∙ f.counters;
  cell_records = g.cell_records ∙ f.cell_records;
  managers = g.managers ∙ f.managers;
  ended = g.ended ∙ f.ended;
  threads = g.threads ∙ f.threads;
}

cell_alike : (ch : CellChange) (s : Site) → Alike s (after_home_cell ch s)
cell_alike Stays s = alike_same s
cell_alike (Made c v) s = go (c.at == s.records.site)
  where
    go : (b : Bool) → Alike s (cond b (with_home_record s c (record { content = Some v; early = [] })) s)
    go true = alike_home s c _
    go false = alike_same s
cell_alike (Exchanged c new told) s = alike_home s c _

port_alike : (r : PortChange) (s : Site) → Alike s (after_port r s)
port_alike Keeps s = alike_same s
port_alike (Opened q end) s = record { equations = refl; records = refl; counters = refl; cell_records = refl; managers = refl; ended = refl; threads = refl }
port_alike (Sent q value new) s = record { equations = refl; records = refl; counters = refl; cell_records = refl; managers = refl; ended = refl; threads = refl }

pub port_homes : (r : PortChange) (s : Site) → (after_port r s).homes ≡ s.homes
port_homes Keeps s = refl
port_homes (Opened q end) s = refl
port_homes (Sent q value new) s = refl

pub cell_ports : (ch : CellChange) (s : Site) → (after_home_cell ch s).ports ≡ s.ports
cell_ports Stays s = refl
cell_ports (Made c v) s = go (c.at == s.records.site)
  where
    go : (b : Bool) → (cond b (with_home_record s c (record { content = Some v; early = [] })) s).ports ≡ s.ports
    go true = refl
    go false = refl
cell_ports (Exchanged c new told) s = refl

-- the home of a new cell is told, and nothing else
pub record Tells (t : Site) (d : Transition) : Type 0 where
  pub site : d.site ≡ t
  pub picks : d.picks ≡ []
  pub lines : d.lines ≡ []
  pub silent : AreOfNone d.sent

pub tells : (limit : ℕ) (ch : CellChange) (t : Site) → Tells t (telling_row limit ch t)
tells limit Stays t = record { site = refl; picks = refl; lines = refl; silent = tt }
tells limit (Exchanged c new told) t = record { site = refl; picks = refl; lines = refl; silent = tt }
tells limit (Made c v) t = go (c.at == t.records.site)
  where
    go : (b : Bool) → Tells t (cond b (without_output t) (with_messages t (with_own_bundle limit t.equations (sent_message c.at (msg.CellMake c v [])) ∷ [])))
    go true = record { site = refl; picks = refl; lines = refl; silent = tt }
    go false = record { site = refl; picks = refl; lines = refl; silent = (tt, tt) }

-- ---- the row

module _ (p : List Stmt) (limit i : ℕ) (real : i ≢ 0) (w : World) (ks : List Pick) (j : Joined p w ks) (n : ThreadName) (st : Stack) (kinds : List NameKind) (runs : thread_state (w.sites i) n ≡ Some (st, mode.Runs)) (need : stack_need p (eqs w.sites i) st ≡ Takes kinds)
    (on : IsKept (stack_effect p (eqs w.sites i) (next_names i (counters w.sites i) kinds) None st)) where
  abbrev s : Site
  s = w.sites i

  abbrev c : State
  c = j.reached.centre

  abbrev fresh : List Name
  fresh = next_names i (counters w.sites i) kinds

  abbrev e : Effect
  e = stack_effect p (eqs w.sites i) fresh None st

  pub own_found : value_of equal_thread (threads (shown w.sites j.transit) i) n ≡ Some (st, mode.Runs)
  own_found = shown_at p i real w ks j n st runs

  abbrev served : Pick
  served = step_pick n fresh None

  abbrev left : Stack
  left = stack_left c e

  -- the site as the step leaves it
  abbrev pub own_site : Site
  own_site = with_stack n (kept_stack s e) (after_port e.port (after_home_cell e.cell (with_fresh_names kinds s)))

  abbrev pub own_row : Transition
  own_row = kept_step_row limit served kinds e s

  told : Tells own_site (telling_row limit e.cell own_site)
  told = tells limit e.cell own_site

  abbrev middle : Site
  middle = after_port e.port (after_home_cell e.cell (with_fresh_names kinds s))

  alike : Alike (with_fresh_names kinds s) middle
  alike = alike_then (with_fresh_names kinds s) (after_home_cell e.cell (with_fresh_names kinds s)) middle (cell_alike e.cell (with_fresh_names kinds s)) (port_alike e.port (after_home_cell e.cell (with_fresh_names kinds s)))

  quiet : IsQuiet e
  quiet = act_quiet p i real w ks j.transit j.reached i i n st kinds own_found need on

  number : s.records.site ≡ i
  number = (j.reached.parts.kept i).site

  pub own_kept : IsKeptAct s kinds fresh served own_row
  own_kept = record {
    equations = ap (λ (t : Site). t.equations) told.site ∙ alike.equations;
    records = ap (λ (t : Site). t.records) told.site ∙ alike.records ∙ ap (λ (k : ℕ). after_makes s.records (vars_among (next_names k s.counters kinds))) number;
    counters = ap (λ (t : Site). t.counters) told.site ∙ alike.counters;
    still = record {
      cell_records = ap (λ (t : Site). t.cell_records) told.site ∙ alike.cell_records;
      managers = ap (λ (t : Site). t.managers) told.site ∙ alike.managers;
      site = ap (λ (t : Site). t.records.site) told.site ∙ ap (λ (b : Records). b.site) alike.records ∙ makes_site s.records (vars_among (next_names s.records.site s.counters kinds));
      silent = told.silent;
    };
    ended = ap (λ (t : Site). t.ended) told.site ∙ ap (λ (k : ℕ). middle.ended + k) (quiet.stays (end_here s e.port) (home_content s e.cell)) ∙ omega arith ∙ alike.ended;
    picks = ap (λ (ls : List Pick). served ∷ ls) told.picks;
    lines = told.lines;
  }

  -- it has to do with no mobile cell
  pub own_leaves : Leaves p s c own_row (act_next p i real w ks j.transit j.reached i i n st kinds own_found need on)
  own_leaves = act_leaves p i real w ks j.transit j.reached i i n st kinds own_found need on own_row own_kept

  -- what the step needs of the site: the end of an own port, or the content at this home
  module _ (ends : (q : PortName) (value new : VarName) → e.port ≡ Sent q value new → q.site ≡ i) (holds : (b : CellName) (new old : VarName) → e.cell ≡ Exchanged b new old → (b.at ≡ i) × (v : VarName) × ((home_record s b).content ≡ Some v)) where
    old_ends : (r : PortChange) → e.port ≡ r → end_here s r ≡ old_end_of c r
    old_ends Keeps q = refl
    old_ends (Opened r end) q = refl
    old_ends (Sent r value new) q = ap (λ (o : Option VarName). unwrap_or o (record { site = 0; num = 0 }))
        (ap (λ (k : ℕ). lookup (equal_port r) (ports w.sites k)) (sym (ends r value new q)) ∙ j.answers.ends.ends r)

    old_contents : (ch : CellChange) → e.cell ≡ ch → home_content s ch ≡ old_content_of c ch
    old_contents Stays q = refl
    old_contents (Made b v) q = refl
    old_contents (Exchanged b new old) q =
        let h = holds b new old q in
        ap (λ (o : Option VarName). unwrap_or o (record { site = 0; num = 0 })) (h.2 ∙ sym (j.answers.contents.back i b h.1 h.2).2)

    pub own_left : kept_stack s e ≡ left
    own_left = ap (λ (x : VarName). send_stack x e.port (exchange_stack (home_content s e.cell) e.cell e.stack)) (old_ends e.port refl)
        ∙ ap (λ (x : VarName). send_stack (old_end_of c e.port) e.port (exchange_stack x e.cell e.stack)) (old_contents e.cell refl)
        ∙ sym (left_is c e)

    pub own_threads : own_row.site.threads ≡ with_value equal_thread s.threads n (left, mode.Runs)
    own_threads = ap (λ (t : Site). t.threads) told.site
        ∙ ap (λ (o : Option Stack). with_optional_value equal_thread middle.threads n (runnable_state o)) (quiet.goes (end_here s e.port) (home_content s e.cell))
        ∙ ap (λ (ts : Threads). with_value equal_thread ts n (kept_stack s e, mode.Runs)) alike.threads
        ∙ ap (λ (q : Stack). with_value equal_thread s.threads n (q, mode.Runs)) own_left

    stood : standing own_row.site.threads ≡ with_value equal_thread (standing s.threads) n (left, mode.Runs)
    stood = ap standing own_threads ∙ standing_with s.threads n (left, mode.Runs) (st, mode.Runs) runs refl refl

    abbrev here : ℕ → Name → Type 0
    here = act_here p i real w ks j.transit j.reached i i n st kinds own_found need on own_row own_kept j.transit

    wider : (y : VarName) → IsHere s.records y → IsHere own_row.site.records y
    wider = act_wider p i real w ks j.transit j.reached i i n st kinds own_found need on own_row own_kept j.transit

    here_now : (y : VarName) → IsHere s.records y → here i (name.Var y)
    here_now y h = inl (subst (λ (t : Site). IsHere t.records y) (sym (at_here w.sites i own_row.site)) (wider y h))

    -- its names are known
    pub own_names : EachOfEffect (here i) e
    own_names = stack_effect_names (here i) (inl (inl refl)) p (eqs w.sites i) fresh None st equations stacks (act_fresh p i real w ks j.transit j.reached i i n st kinds own_found need on own_row own_kept j.transit)
        (subst (λ (d : Need). AreOfKinds fresh (kinds_of d)) (sym need) (act_news p i real w ks j.transit j.reached i i n st kinds own_found need on).of_kinds) (subst (λ (d : Need). IsBindFor (eqs w.sites i) d None) (sym need) tt)
      where
        up : (x : Name) → here_at (records w.sites) i x → here i x
        up x (inl h) = inl (subst (λ (t : Site). IsHereName t.records x) (sym (at_here w.sites i own_row.site)) (here_wider s.records own_row.site.records wider x h))
        up x (inr h) = inr h

        equations : Each (EachOfEquation (here i)) (eqs w.sites i)
        equations = Each-weaker (EachOfEquation (here_at (records w.sites) i)) (EachOfEquation (here i)) (λ q h. EachOfEquation-weaker (here_at (records w.sites) i) (here i) up q h) (eqs w.sites i) (j.reached.parts.homes i).equations

        stacks : EachOfStack (here i) st
        stacks = EachOfStack-weaker (here_at (records w.sites) i) (here i) up st ((j.reached.parts.homes i).stacks n (st, mode.Runs) own_found)

    end_known : (r : PortChange) → e.port ≡ r → here i (name.Var (old_end_of c r))
    end_known Keeps q = inl (inl refl)
    end_known (Opened r end) q = inl (inl refl)
    end_known (Sent r value new) q = go (value_of equal_port c.ports r) refl
      where
        home : r.site ≡ i
        home = ends r value new q

        go : (o : Option VarName) → value_of equal_port c.ports r ≡ o → here i (name.Var (unwrap_or (value_of equal_port c.ports r) (record { site = 0; num = 0 })))
        go None h = rw h (inl (inl refl))
        go (Some x) h = rw h (here_now x (j.answers.ends.alone i r x (ap (λ (k : ℕ). lookup (equal_port r) (ports w.sites k)) (sym home) ∙ j.answers.ends.ends r ∙ h)).1)

    content_known : (ch : CellChange) → e.cell ≡ ch → here i (name.Var (old_content_of c ch))
    content_known Stays q = inl (inl refl)
    content_known (Made b v) q = inl (inl refl)
    content_known (Exchanged b new old) q =
        let h = holds b new old q in
        let k = j.answers.contents.back i b h.1 h.2 in
        subst (λ (o : Option VarName). here i (name.Var (unwrap_or o (record { site = 0; num = 0 })))) (sym k.2) (here_now h.1 k.3)

    pub left_here : EachOfStack (here i) left
    left_here = left_names (here i) c e own_names (end_known e.port refl) (content_known e.cell refl)

    -- each thread is there once
    pub own_once : AreDistinct (names own_row.site.threads)
    own_once = subst (λ (xs : List ThreadName). AreDistinct xs) (sym (ap (λ (ts : Threads). names ts) own_threads ∙ with_names s.threads n (left, mode.Runs))) (j.once i)

    -- the machine follows
    module _ (may : MaySend p (eqs w.sites) (at_put (records w.sites) i (after_makes (records w.sites i) (vars_among fresh))) (threads (shown (put w.sites i own_row.site) j.transit)) (at_put (counters w.sites) i (counters_after (counters w.sites i) kinds))
        (act_next p i real w ks j.transit j.reached i i n st kinds own_found need on).equations own_row.sent) where
      pub own_reached : ReachedAt p (shown_world (after_transition w i own_row) j.transit) (ks ++ own_row.picks) (act_next p i real w ks j.transit j.reached i i n st kinds own_found need on)
      own_reached = act_reached p i real w ks j.transit j.reached i i n st kinds own_found need on own_row own_kept j.transit left_here may
          adapt
          (λ b. subst (λ (ts : Threads). SameWaiters (standing s.threads) ts b) (sym stood) (goes_waiters (standing s.threads) n (Some (left, mode.Runs)) (st, mode.Runs) b (stands_to s.threads n (st, mode.Runs) runs refl) (λ su q. running_not st su b q) (λ su q. running_not left su b q)))
          (λ b. waiters_same j.transit b)
          (standing_distinct own_row.site.threads own_once) (j.reached.sums.once 0)
        where
          same : ◌≡◌ {A = ℕ → Threads} (gone_on (threads (shown w.sites j.transit)) i n (Some left)) (threads (shown (put w.sites i own_row.site) j.transit))
          same = shown_is w.sites j.transit i own_row.site (gone_on (threads (shown w.sites j.transit)) i n (Some left)) real (at_other (threads (shown w.sites j.transit)) i _ 0 (λ z. real (sym z)))
              (at_here (threads (shown w.sites j.transit)) i _ ∙ ap (λ (ts : Threads). with_value equal_thread ts n (left, mode.Runs)) (shown_threads_real w.sites j.transit i real) ∙ sym stood)
              (λ k far other. at_other (threads (shown w.sites j.transit)) i _ k other ∙ shown_threads_real w.sites j.transit k far)

          Parts : (ℕ → Threads) → Type 0
          Parts g = PartsMatch p here (eqs w.sites) (at_put (records w.sites) i (after_makes (records w.sites i) (vars_among fresh))) g (at_put (counters w.sites) i (counters_after (counters w.sites i) kinds)) w.mail (act_next p i real w ks j.transit j.reached i i n st kinds own_found need on)

          adapt : Parts (gone_on (threads (shown w.sites j.transit)) i n (Some left)) → Parts (threads (shown (put w.sites i own_row.site) j.transit))
          adapt h = subst Parts same h

    -- those who wait for answers go on waiting
    pub own_waiters : (b : Awaited) → SameWaiters s.threads own_row.site.threads b
    own_waiters b = subst (λ (ts : Threads). SameWaiters s.threads ts b) (sym own_threads) (goes_waiters s.threads n (Some (left, mode.Runs)) (st, mode.Runs) b runs (λ su q. running_not st su b q) (λ su q. running_not left su b q))

    -- it tells at most the home of a cell that it makes
    pub own_owes : Owes p s c own_row [] Nobody
    own_owes = owes_cell p s c own_row e.cell (tells_cell limit e.cell own_site far) paid (λ b m su h. (own_waiters b).new m su h)
      where
        far : (b : CellName) (v : VarName) → e.cell ≡ Made b v → b.at ≢ 0
        far b v is = by_port quiet.alone
          where
            by_port : (e.port ≡ Keeps) ⊎ (e.cell ≡ Stays) → b.at ≢ 0
            by_port (inl keeps) = made_away e b v keeps is on
            by_port (inr stays) = let both : Stays ≡ Made b v = sym stays ∙ is in absurd (cc)

        paid : cell_one e.cell ≤ placed_cells p c own_row.picks
        paid = let same : placed_cells p c own_row.picks ≡ cell_one e.cell = act_counted p i real w ks j.transit j.reached i i n st kinds own_found need on (λ (x : Effect). cell_one x.cell) own_row own_kept in omega (arith, same)
