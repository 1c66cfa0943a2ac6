-- A site makes a step of a thread on a port or on a stationary cell: its own, or one that waits for the site's answer. What was reached then.
use Rattle.std.proofs.Common.{◌≡◌, ◌∙◌, sym, ap, refl, subst, arith, ℕ, ◌+◌, List, [], ◌∷◌, ◌++◌, ◌⊎◌, inl, inr, Some, None}
use Rattle.std.specs.Prelude.{◌≢◌}
use Rattle.tree_node.specs.declared.names.VarName.{VarName}
use Rattle.tree_node.specs.declared.names.CellName.{CellName}
use Rattle.tree_node.specs.declared.names.ThreadName.{ThreadName}
use Rattle.tree_node.specs.declared.names.Name.{Name}
use Rattle.tree_node.specs.declared.names.NameKind.{NameKind}
use Rattle.tree_node.specs.declared.pick.Pick.{Pick}
use Rattle.tree_node.specs.Assoc.{value_of}
use Rattle.tree_node.specs.Each.{Each, AreDistinct}
use Rattle.tree_node.specs.Names.{EachName, EachOfStack}
use Rattle.tree_node.specs.State.{Stack, State, equal_thread}
use Rattle.tree_node.specs.Store.{Store, Equation, IsSound}
use Rattle.kernel_syntax.specs.declared.stmt.Stmt.{Stmt}
use Rattle.oz_model.specs.Effect.{CellChange, Stays, Made, Exchanged, PortChange, Keeps, Effect, stack_effect, vars_among}
use Rattle.oz_model.specs.EffectNames.{EachOfEffect}
use Rattle.oz_model.specs.Laws.{FindsCell, FindsPort}
use Rattle.oz_model.specs.Need.{Takes, stack_need}
use Rattle.oz_model.specs.Run.{IsRun, exchange_in}
use Rattle.oz_model.specs.Step.{IsAllowed, AreFresh, effect_of, cells_after, ports_after, stack_left, next}
use Rattle.oz_model.proofs.CellLemmas.{steps_find_cells}
use Rattle.oz_model.proofs.EffectNames.{effect_names}
use Rattle.oz_model.proofs.KindLemmas.{cells_differ}
use Rattle.oz_model.proofs.NameLemmas.{Each-weaker}
use Rattle.oz_model.proofs.PortLemmas.{steps_find_ports}
use Rattle.oz_model.proofs.SoundLemmas.{runs_are_sound}
use Rattle.bind_protocol.specs.Records.{Records, IsKnown}
use Rattle.thread_roster.specs.declared.mode.Awaited.{Awaited}
use Rattle.thread_roster.specs.declared.mode.Mode.TheVariants as mode
use Rattle.site_model.specs.Cells.{step_pick}
use Rattle.site_model.specs.Site.{Site, Threads, Counters}
use Rattle.site_model.specs.Transition.{Transition}
use Rattle.site_model.specs.Unit.{next_names, counters_after}
use Rattle.site_model.specs.Variables.{after_makes}
use Rattle.world_model.specs.Chain.{mobile_cells}
use Rattle.world_model.specs.Matches.{PartsMatch}
use Rattle.world_model.specs.Names.{IsHere, IsHereName, IsMade, here_at}
use Rattle.world_model.specs.Shown.{standing, shown, shown_world}
use Rattle.world_model.specs.World.{World, at_put, put, eqs, records, threads, counters, after_transition}
use Rattle.world_model.proofs.MobileLemmas.{mobile_stay, mobile_unmade}
use Rattle.world_model.proofs.PutLemmas.{at_all, at_here, at_own}
use Rattle.world_variables.specs.Plain.{IsKept}
use Rattle.world_variables.specs.Sums.{names}
use Rattle.world_variables.proofs.AlikeLemmas.{parts_weaker}
use Rattle.world_variables.proofs.MakeLemmas.{IsNextOf, next_are, makes_parts}
use Rattle.world_variables.proofs.PlaceLemmas.{gone_on}
use Rattle.world_variables.proofs.RegisterLemmas.{MaySend, parts_posts}
use Rattle.world_variables.proofs.UnitLemmas.{makes_known, made_known, vars_each, names_here}
use Rattle.world_cells.specs.Reached.{Reached}
use Rattle.world_cells.proofs.FrameLemmas.{NoCells}
use Rattle.world_cells.proofs.QueueLemmas.{SameWaiters}
use Rattle.world_answers.specs.AnswerCounts.{counted}
use Rattle.world_answers.specs.Balance.{of_exchange, exchanges_by}
use Rattle.world_answers.proofs.KeptLemmas.{IsQuiet, kept_quiet, allowed, news, effect_is, fresh_made, all, step_kept, kept_told}
use Rattle.world_answers.proofs.LeaveLemmas.{Left, Leaves}
use Rattle.world_answers.proofs.PackLemmas.{ReachedAt, packed, to_shown}
use Rattle.world_answers.proofs.StandLemmas.{here_wider}

-- ---- the mobile cells stay

pub made_away : (e : Effect) (c : CellName) (v : VarName) → e.port ≡ Keeps → e.cell ≡ Made c v → IsKept e → c.at ≢ 0
made_away e c v q r on = subst (λ (ch : CellChange). IsKept (record e { port = Keeps; cell = ch })) r (subst (λ (x : PortChange). IsKept (record e { port = x })) q on)

pub exchanged_away : (e : Effect) (c : CellName) (new told : VarName) → e.port ≡ Keeps → e.cell ≡ Exchanged c new told → IsKept e → c.at ≢ 0
exchanged_away e c new told q r on = subst (λ (ch : CellChange). IsKept (record e { port = Keeps; cell = ch })) r (subst (λ (x : PortChange). IsKept (record e { port = x })) q on)

pub kept_cells : (cells : List (CellName × VarName)) (e : Effect) → IsKept e → IsQuiet e → mobile_cells (cells_after cells e.cell) ≡ mobile_cells cells
kept_cells cells e on quiet = by_port e.port refl quiet.alone
  where
    by_cell : (ch : CellChange) → e.cell ≡ ch → e.port ≡ Keeps → mobile_cells (cells_after cells ch) ≡ mobile_cells cells
    by_cell Stays q keeps = refl
    by_cell (Made c v) q keeps = mobile_unmade cells c v (made_away e c v keeps q on)
    by_cell (Exchanged c new told) q keeps = mobile_stay cells c new (exchanged_away e c new told keeps q on)

    by_port : (r : PortChange) → e.port ≡ r → (e.port ≡ Keeps) ⊎ (e.cell ≡ Stays) → mobile_cells (cells_after cells e.cell) ≡ mobile_cells cells
    by_port r q (inl keeps) = by_cell e.cell refl keeps
    by_port r q (inr stays) = ap (λ (ch : CellChange). mobile_cells (cells_after cells ch)) stays

pub kept_exchanges : (c : State) (e : Effect) → IsKept e → IsQuiet e → (b : CellName) → b.at ≡ 0 → exchange_in c b e.cell ≡ []
kept_exchanges c e on quiet b zero = by_port quiet.alone
  where
    by_cell : (ch : CellChange) → e.cell ≡ ch → e.port ≡ Keeps → exchange_in c b ch ≡ []
    by_cell Stays q keeps = refl
    by_cell (Made d v) q keeps = refl
    by_cell (Exchanged d new told) q keeps = rw (cells_differ d b (λ same. exchanged_away e d new told keeps q on (ap (λ (x : CellName). x.at) same ∙ zero))) refl

    by_port : (e.port ≡ Keeps) ⊎ (e.cell ≡ Stays) → exchange_in c b e.cell ≡ []
    by_port (inl keeps) = by_cell e.cell refl keeps
    by_port (inr stays) = ap (exchange_in c b) stays

-- ---- what the row does

pub record IsKeptAct (s : Site) (kinds : List NameKind) (fresh : List Name) (served : Pick) (d : Transition) : Type 0 where
  pub equations : d.site.equations ≡ s.equations
  pub records : d.site.records ≡ after_makes s.records (vars_among fresh)
  pub counters : d.site.counters ≡ counters_after s.counters kinds
  pub still : NoCells s d
  pub ended : d.site.ended ≡ s.ended
  pub picks : d.picks ≡ served ∷ []
  pub lines : d.lines ≡ []

-- thread n, which stands at number a with the stack st, is read by what site o knows; site i makes the names
module _ (p : List Stmt) (i : ℕ) (real : i ≢ 0) (w : World) (ks : List Pick) (t : Threads) (r : Reached p (shown_world w t) ks) (a o : ℕ) (n : ThreadName) (st : Stack) (kinds : List NameKind) (at : value_of equal_thread (threads (shown w.sites t) a) n ≡ Some (st, mode.Runs)) (need : stack_need p (eqs w.sites o) st ≡ Takes kinds)
    (on : IsKept (stack_effect p (eqs w.sites o) (next_names i (counters w.sites i) kinds) None st)) where
  abbrev c : State
  c = r.centre

  abbrev fresh : List Name
  fresh = next_names i (counters w.sites i) kinds

  abbrev pub act_served : Pick
  act_served = step_pick n fresh None

  abbrev e : Effect
  e = stack_effect p (eqs w.sites o) fresh None st

  abbrev pub act_left : Stack
  act_left = stack_left c e

  abbrev pub act_next : State
  act_next = next p c act_served

  pub sound : IsSound c.equations
  sound = runs_are_sound p ks c r.run

  pub act_allowed : IsAllowed p c act_served
  act_allowed = allowed p (here_at (records w.sites)) (eqs w.sites) (records w.sites) (threads (shown w.sites t)) (counters w.sites) w.mail c r.parts i a o n st kinds real sound at need

  quiet : IsQuiet e
  quiet = kept_quiet p (eqs w.sites o) fresh st on

  -- the machine's cells and ports then
  pub act_cells : act_next.cells ≡ cells_after c.cells e.cell
  act_cells = ap (λ (y : State). y.cells) (all p (here_at (records w.sites)) (eqs w.sites) (records w.sites) (threads (shown w.sites t)) (counters w.sites) w.mail c r.parts i a o n st kinds real sound at need)

  pub act_ports : act_next.ports ≡ ports_after c.ports e.port
  act_ports = ap (λ (y : State). y.ports) (all p (here_at (records w.sites)) (eqs w.sites) (records w.sites) (threads (shown w.sites t)) (counters w.sites) w.mail c r.parts i a o n st kinds real sound at need)

  pub act_equations : act_next.equations ≡ c.equations
  act_equations = ap (λ (y : State). y.equations) (all p (here_at (records w.sites)) (eqs w.sites) (records w.sites) (threads (shown w.sites t)) (counters w.sites) w.mail c r.parts i a o n st kinds real sound at need) ∙ ap (λ (es : List Equation). es ++ c.equations) quiet.adds

  pub act_quiet : IsQuiet e
  act_quiet = quiet

  pub act_news : AreFresh c kinds fresh
  act_news = news p (here_at (records w.sites)) (eqs w.sites) (records w.sites) (threads (shown w.sites t)) (counters w.sites) w.mail c r.parts i a o n st kinds real sound at need

  pub act_effect : effect_of p c act_served ≡ e
  act_effect = effect_is p (here_at (records w.sites)) (eqs w.sites) (records w.sites) (threads (shown w.sites t)) (counters w.sites) w.mail c r.parts i a o n st kinds real sound at need

  -- the machine finds its cell and its port
  pub act_finds_cell : FindsCell c.cells e.cell
  act_finds_cell = subst (λ (x : Effect). FindsCell c.cells x.cell) act_effect (steps_find_cells p ks c act_served r.run act_allowed)

  pub act_finds_port : FindsPort c.ports e.port
  act_finds_port = subst (λ (x : Effect). FindsPort c.ports x.port) act_effect (steps_find_ports p ks c act_served r.run act_allowed)

  -- what occurs was made, and so were the names of the effect
  pub act_all : EachName (IsMade (at_put (counters w.sites) i (counters_after (counters w.sites i) kinds))) c
  act_all = (makes_parts p (here_at (records w.sites)) (eqs w.sites) (threads (shown w.sites t)) w.mail c i kinds (records w.sites) (counters w.sites) r.parts).centred.all

  pub act_made : EachOfEffect (IsMade (at_put (counters w.sites) i (counters_after (counters w.sites i) kinds))) e
  act_made = subst (EachOfEffect (IsMade then_made)) act_effect (effect_names (IsMade then_made) (inl refl) p c act_served act_all
      (fresh_made p (here_at (records w.sites)) (eqs w.sites) (records w.sites) (threads (shown w.sites t)) (counters w.sites) w.mail c r.parts i a o n st kinds real sound at need) act_allowed)
    where
      then_made : ℕ → Counters
      then_made = at_put (counters w.sites) i (counters_after (counters w.sites i) kinds)

  -- what its effect counts
  pub act_counted : (f : Effect → ℕ) (d : Transition) → IsKeptAct (w.sites i) kinds fresh act_served d → counted f p c d.picks ≡ f e
  act_counted f d row = ap (λ (ls : List Pick). counted f p c ls) row.picks ∙ and_none (f (effect_of p c act_served)) ∙ ap f act_effect
    where
      and_none : (a : ℕ) → a + 0 ≡ a
      and_none a = omega arith

  -- what its exchange gives
  pub act_exchanged : (f : CellName → ThreadName → ℕ) (d : Transition) → IsKeptAct (w.sites i) kinds fresh act_served d → exchanges_by f p c d.picks ≡ of_exchange f n e.cell
  act_exchanged f d row = ap (λ (ls : List Pick). exchanges_by f p c ls) row.picks ∙ and_none (of_exchange f n (effect_of p c act_served).cell) ∙ ap (λ (x : Effect). of_exchange f n x.cell) act_effect
    where
      and_none : (a : ℕ) → a + 0 ≡ a
      and_none a = omega arith

  -- it has to do with no mobile cell
  pub act_leaves : (d : Transition) → IsKeptAct (w.sites i) kinds fresh act_served d → Leaves p (w.sites i) c d act_next
  act_leaves d row = record {
    still = row.still;
    left = subst (λ (ls : List Pick). Left p c ls act_next) (sym row.picks)
        (act_next, (act_allowed, refl), ap mobile_cells act_cells ∙ kept_cells c.cells e on quiet, λ b zero. ap (λ (x : Effect). exchange_in c b x.cell) act_effect ∙ kept_exchanges c e on quiet b zero, refl);
  }

  module _ (d : Transition) (row : IsKeptAct (w.sites i) kinds fresh act_served d) (u : Threads) where
    abbrev v : World
    v = after_transition w i d

    abbrev pub act_here : ℕ → Name → Type 0
    act_here = here_at (records v.sites)

    pub act_wider : (y : VarName) → IsHere (w.sites i).records y → IsHere d.site.records y
    act_wider y (inl zero) = inl zero
    act_wider y (inr q) = inr (subst (λ (b : Records). IsKnown b y) (sym row.records) (makes_known (vars_among fresh) (w.sites i).records y q))

    up : (k : ℕ) (x : Name) → here_at (records w.sites) k x → act_here k x
    up = at_all w.sites i d.site (λ k (y : Site). (x : Name) → here_at (records w.sites) k x → IsHereName y.records x ⊎ (k ≡ 0)) (λ x q. either x q) (λ k other x q. q)
      where
        either : (x : Name) → here_at (records w.sites) i x → IsHereName d.site.records x ⊎ (i ≡ 0)
        either x (inl q) = inl (here_wider (w.sites i).records d.site.records act_wider x q)
        either x (inr q) = inr q

    parts0 : PartsMatch p act_here (eqs w.sites) (records w.sites) (threads (shown w.sites t)) (counters w.sites) w.mail c
    parts0 = parts_weaker p (here_at (records w.sites)) act_here (eqs w.sites) (records w.sites) (threads (shown w.sites t)) (counters w.sites) w.mail c up r.parts

    abbrev gone : ℕ → Threads
    gone = gone_on (threads (shown w.sites t)) a n (Some act_left)

    abbrev then_records : ℕ → Records
    then_records = at_put (records w.sites) i (after_makes (records w.sites i) (vars_among fresh))

    abbrev then_counters : ℕ → Counters
    then_counters = at_put (counters w.sites) i (counters_after (counters w.sites i) kinds)

    -- the names that the site makes are known there
    pub act_fresh : Each (act_here i) fresh
    act_fresh = Each-weaker (IsHereName (records v.sites i)) (act_here i) (λ x q. inl q) fresh (names_here (records v.sites i) fresh
        (subst (λ (b : Records). Each (IsKnown b) (vars_among fresh)) (sym (ap (λ (y : Site). y.records) (at_here w.sites i d.site) ∙ row.records))
        (made_known (vars_among fresh) (w.sites i).records (subst (λ (k : ℕ). Each (λ (x : VarName). x.site ≡ k) (vars_among fresh)) (sym (r.parts.kept i).site)
        (vars_each (λ (x : VarName). x.site ≡ i) (IsNextOf i (counters w.sites i) (counters_after (counters w.sites i) kinds)) (λ x r. r.0) fresh (next_are i (counters w.sites i) kinds))))))

    module _ (names_are : EachOfStack (act_here a) act_left) (may : MaySend p (eqs w.sites) then_records (threads (shown (put w.sites i d.site) u)) then_counters act_next.equations d.sent)
        (adapt : PartsMatch p act_here (eqs w.sites) then_records gone then_counters w.mail act_next → PartsMatch p act_here (eqs w.sites) then_records (threads (shown (put w.sites i d.site) u)) then_counters w.mail act_next) where
      stepped : PartsMatch p act_here (eqs w.sites) then_records gone then_counters w.mail act_next
      stepped = step_kept p act_here (eqs w.sites) (records w.sites) (threads (shown w.sites t)) (counters w.sites) w.mail c parts0 i a o n st kinds real sound at need on names_are

      abbrev ends : ℕ → Threads
      ends = threads (shown (put w.sites i d.site) u)

      posted : PartsMatch p act_here (eqs w.sites) then_records ends then_counters v.mail act_next
      posted = parts_posts p act_here (eqs w.sites) then_records ends then_counters w.mail act_next (adapt stepped) w.sent d.sent may

      parts_now : PartsMatch p act_here (eqs v.sites) (records v.sites) (threads (shown v.sites u)) (counters v.sites) v.mail act_next
      parts_now = to_shown p act_here w.sites i d.site u ends v.mail act_next refl
          (subst (λ (f : ℕ → Store). PartsMatch p act_here f (at_put (records w.sites) i d.site.records) ends (at_put (counters w.sites) i d.site.counters) v.mail act_next) (sym (ap (at_put (eqs w.sites) i) row.equations ∙ at_own (eqs w.sites) i))
          (subst (λ (b : Records). PartsMatch p act_here (eqs w.sites) (at_put (records w.sites) i b) ends (at_put (counters w.sites) i d.site.counters) v.mail act_next) (sym row.records)
          (subst (λ (m : Counters). PartsMatch p act_here (eqs w.sites) then_records ends (at_put (counters w.sites) i m) v.mail act_next) (sym row.counters) posted)))

      -- the machine makes the step
      pub act_reached : ((b : Awaited) → SameWaiters (standing (w.sites i).threads) (standing d.site.threads) b) → ((b : Awaited) → SameWaiters t u b) → AreDistinct (names (standing d.site.threads)) → AreDistinct (names u) → ReachedAt p (shown_world v u) (ks ++ d.picks) act_next
      act_reached here away once_here once_away = packed p w ks t r i d u act_next real (record {
        run = subst (λ (ls : List Pick). IsRun p c ls act_next) (sym row.picks) (act_next, (act_allowed, refl), refl);
        parts = parts_now;
        still = row.still;
        cells = ap mobile_cells act_cells ∙ kept_cells c.cells e on quiet;
        here = here;
        away = away;
        wider = act_wider;
        lines = (told.0, row.lines);
        ended = (told.1, row.ended);
        once = (once_here, once_away);
      })
        where
          told : (act_next.lines ≡ c.lines) × (act_next.ended ≡ c.ended)
          told = kept_told p (here_at (records w.sites)) (eqs w.sites) (records w.sites) (threads (shown w.sites t)) (counters w.sites) w.mail c r.parts i a o n st kinds real sound at need on
