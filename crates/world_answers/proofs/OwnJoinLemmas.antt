-- A thread's own step on a port or on a stationary cell keeps a world joined with the machine.
use Rattle.std.specs.List.{count_by}
use Rattle.std.proofs.Common.{◌≡◌, ◌∙◌, sym, ap, refl, subst, ℕ, List, [], ◌∷◌, ◌++◌, append-nil, ◌⊎◌, inl, inr, Bool, true, false, Some, None, arith}
use Rattle.std.specs.Prelude.{Option, Contains, IsSome, ◌≢◌, ◌==◌}
use Rattle.indexmap.specs.IndexMap.{insert_entry}
use Rattle.tree_node.specs.declared.names.VarName.{VarName}
use Rattle.tree_node.specs.declared.names.CellName.{CellName}
use Rattle.tree_node.specs.declared.names.PortName.{PortName}
use Rattle.tree_node.specs.declared.names.ThreadName.{ThreadName}
use Rattle.tree_node.specs.declared.names.Name.{Name}
use Rattle.tree_node.specs.declared.names.Name.TheVariants as name
use Rattle.tree_node.specs.declared.names.NameKind.{NameKind}
use Rattle.tree_node.specs.declared.pick.Pick.{Pick}
use Rattle.tree_node.specs.Assoc.{value_of, with_value}
use Rattle.tree_node.specs.Each.{Each, AreDistinct}
use Rattle.tree_node.specs.Goal.{equal_cell, equal_port}
use Rattle.tree_node.specs.Names.{IsNew, EachOfEquation, EachOfStack}
use Rattle.tree_node.specs.Order.{site_of}
use Rattle.tree_node.specs.State.{Stack, State, equal_thread}
use Rattle.tree_node.specs.Store.{Store, Equation}
use Rattle.tree_node.proofs.ClassLemmas.{Contains-head, Contains-tail}
use Rattle.kernel_syntax.specs.declared.stmt.Stmt.{Stmt}
use Rattle.site_message.specs.declared.message.Msg.{Msg}
use Rattle.site_message.specs.declared.message.Msg.TheVariants as msg
use Rattle.site_message.specs.declared.message.Sent.{Sent as Letter}
use Rattle.oz_model.specs.Effect.{CellChange, Stays, Made, Exchanged, PortChange, Keeps, Opened, Sent, Effect, stack_effect, vars_among}
use Rattle.oz_model.specs.EffectNames.{EachOfEffect, EachOfChange, EachOfPortChange}
use Rattle.oz_model.specs.Answers.{IsPartOf}
use Rattle.oz_model.specs.Laws.{FindsCell, FindsPort}
use Rattle.oz_model.specs.Need.{Takes, stack_need}
use Rattle.oz_model.specs.Step.{cells_after, ports_after}
use Rattle.oz_model.proofs.CellLemmas.{cells_have_contents}
use Rattle.oz_model.proofs.EffectNames.{effect_names}
use Rattle.oz_model.proofs.KindLemmas.{cell_cases}
use Rattle.oz_model.proofs.NameLemmas.{Each-weaker}
use Rattle.oz_model.proofs.PortLemmas.{ports_have_ends}
use Rattle.thread_roster.specs.declared.mode.Awaited.{Awaited}
use Rattle.thread_roster.specs.declared.mode.Awaited.TheVariants.{Cell}
use Rattle.thread_roster.specs.declared.mode.Mode.TheVariants as mode
use Rattle.site_model.specs.Bundle.{bundle_of}
use Rattle.site_model.specs.Site.{Site, EarlyRequest, home_record, thread_state}
use Rattle.site_model.specs.Transition.{Transition}
use Rattle.site_model.specs.Unit.{next_names, counters_after, with_fresh_names, after_home_cell, after_port, telling_row}
use Rattle.site_model.specs.Variables.{after_makes}
use Rattle.site_model.proofs.BundleLemmas.{bundle_known}
use Rattle.site_model.proofs.FrameLemmas.{makes_site}
use Rattle.world_model.specs.Claims.{Asks, ContentOf, claimant, FitsClaim, Claim, Asked, Answered, Listed, IsClaim, IsAsking, home_in}
use Rattle.world_model.specs.Keepers.{PortsMatch, HomesMatch, AreEarly, IsTold, homes, ports, content_at, early_at}
use Rattle.world_model.specs.Names.{IsHere, IsHereName, IsMade, here_at}
use Rattle.world_model.specs.Shown.{shown, shown_world}
use Rattle.world_model.specs.World.{World, Mail, IsOnItsWay, at_put, put, eqs, records, threads, counters, mail_from, after_transition}
use Rattle.world_model.proofs.MailLemmas.{sent_to}
use Rattle.world_model.proofs.PutLemmas.{nat_decides, at_all, field_kept}
use Rattle.world_variables.specs.Plain.{IsKept}
use Rattle.world_variables.specs.Sums.{names}
use Rattle.world_variables.proofs.FollowLemmas.{value_each}
use Rattle.world_variables.proofs.MakeLemmas.{IsNextOf, next_are}
use Rattle.world_variables.proofs.RegisterLemmas.{MaySend}
use Rattle.world_cells.proofs.QueueLemmas.{SameWaiters}
use Rattle.world_cells.proofs.SendLemmas.{each_more, each_part}
use Rattle.world_answers.specs.Joined.{Joined}
use Rattle.world_answers.proofs.ActLemmas.{act_served, act_allowed, act_effect, act_exchanged, act_all, act_next, act_cells, act_ports, act_equations, act_quiet, act_wider, act_made, act_finds_cell, act_finds_port}
use Rattle.world_answers.proofs.AskJoinLemmas.{never_lost, ports_same, early_same}
use Rattle.world_answers.proofs.ClaimLemmas.{asking_alike}
use Rattle.world_answers.proofs.GrowLemmas.{made_grow, kinds_grow}
use Rattle.world_answers.proofs.HomeLemmas.{Rehomed, rehomed, same_homes, kept_made, kept_told, kept_exchange, content_other, early_own, early_other, Homes}
use Rattle.world_answers.proofs.KeptLemmas.{IsQuiet}
use Rattle.world_answers.specs.AnswerCounts.{asks_content, tells_content}
use Rattle.world_answers.specs.Balance.{of_exchange, exchanges_by}
use Rattle.world_answers.proofs.BalanceLemmas.{Balances, none_came}
use Rattle.world_answers.proofs.BalanceRowLemmas.{still_balances, exchange_balances}
use Rattle.world_answers.proofs.OwedLemmas.{TellsCell, tells_cell}
use Rattle.world_answers.proofs.OwnLemmas.{own_found, own_site, own_row, own_kept, own_reached, own_once, own_waiters, own_names, cell_ports, port_homes, tells}
use Rattle.world_answers.proofs.PortsLemmas.{ended_at, port_kept, opened_here, opened_there, moved_here, moved_there, Ports}
use Rattle.world_answers.proofs.PackLemmas.{ReachedAt, whole}
use Rattle.world_answers.proofs.SayLemmas.{none_sent, keepers_may, content_names}
use Rattle.world_answers.proofs.SpotLemmas.{Turned, IsLetter, IsLost, IsNewClaim, sends, stays, claims_from, claims_kept, relisted, tell_claims}
use Rattle.world_answers.proofs.StandLemmas.{EachOfStack-weaker, here_wider}

-- ---- a cell that is made was in no request

-- no request for a cell that the machine does not have
pub unlisted : (p : List Stmt) (w : World) (ks : List Pick) (j : Joined p w ks) (b : CellName) → value_of equal_cell j.reached.centre.cells b ≡ None → (r : EarlyRequest) → Contains (early_at (homes w.sites) b) r → ⊥
unlisted p w ks j b none r h = has (cells_have_contents p ks c b j.reached.run occurs)
  where
    c : State
    c = j.reached.centre

    has : IsSome (value_of equal_cell c.cells b) → ⊥
    has q = let both : ◌≡◌ {A = Bool} false true = subst (λ (o : Option VarName). IsSome o) none q in cc

    ground : (st : Stack) × IsAsking (threads w.sites) r.asking r.thread (Cell b) st × Asks p (eqs w.sites r.asking) st (ContentOf b r.new)
    ground = j.answers.asking.grounded (Listed b r) h

    found : (z : Stack) × (value_of equal_thread j.transit r.thread ≡ Some (z, mode.Runs)) × (x : Claim) × IsClaim w.mail (early_at (homes w.sites)) x × (claimant x ≡ r.thread) × FitsClaim p (eqs w.sites r.asking) r.asking (Cell b) ground.0 z x
    found = j.answers.asking.stands r.asking r.thread (Cell b) ground.0 ground.1

    fits : found.0 ≡ ground.0
    fits = (subst (λ (x : Claim). FitsClaim p (eqs w.sites r.asking) r.asking (Cell b) ground.0 found.0 x) (j.answers.asking.once found.2 (Listed b r) found.3 h found.4) found.5).2

    all : (xs : List Equation) → ((e : Equation) → Contains xs e → Contains c.equations e) → Each (Contains c.equations) xs
    all [] f = tt
    all (x ∷ xs) f = (f x (Contains-head x xs), all xs (λ e q. f e (Contains-tail x e xs q)))

    occurs : IsNew c (name.Cell b) → ⊥
    occurs new = (content_names (λ y. y ≢ name.Cell b) (λ e. cc) p (eqs w.sites r.asking) ground.0 (each_part (EachOfEquation (λ y. y ≢ name.Cell b)) c.equations new.0 (eqs w.sites r.asking) (all (eqs w.sites r.asking) (λ e q. j.reached.parts.knowledge.known r.asking e q)))
        (subst (EachOfStack (λ y. y ≢ name.Cell b)) fits (value_each (λ y. y ≢ name.Cell b) c.threads r.thread found.0 new.3 (j.reached.parts.placed.up 0 r.thread found.0 (mode.Runs, found.1))).1) b r.new ground.2).0 refl

no_elements : {X : Type 0} (xs : List X) → ((x : X) → Contains xs x → ⊥) → xs ≡ []
no_elements [] f = refl
no_elements (x ∷ xs) f = absurd (f x (Contains-head x xs))

-- ---- the step

-- a port that is made is the site's own: its name is fresh
new_port : (p : List Stmt) (i : ℕ) (real : i ≢ 0) (w : World) (ks : List Pick) (j : Joined p w ks) (n : ThreadName) (st : Stack) (kinds : List NameKind) (found : value_of equal_thread (threads (shown w.sites j.transit) i) n ≡ Some (st, mode.Runs)) (need : stack_need p (eqs w.sites i) st ≡ Takes kinds)
    (on : IsKept (stack_effect p (eqs w.sites i) (next_names i (counters w.sites i) kinds) None st)) (q : PortName) (end : VarName) → (stack_effect p (eqs w.sites i) (next_names i (counters w.sites i) kinds) None st).port ≡ Opened q end → value_of equal_port j.reached.centre.ports q ≡ None → q.site ≡ i
new_port p i real w ks j n st kinds found need on q end is none = go (q.site == i) refl
  where
    c : State
    c = j.reached.centre

    fresh : List Name
    fresh = next_names i (counters w.sites i) kinds

    Other : Name → Type 0
    Other y = y ≢ name.Port q

    made : q.site ≢ i → Each Other fresh
    made far = Each-weaker (IsNextOf i (counters w.sites i) (counters_after (counters w.sites i) kinds)) Other (λ x r same. far (sym (ap site_of same) ∙ r.0)) fresh (next_are i (counters w.sites i) kinds)

    occurs : q.site ≢ i → IsNew c (name.Port q) → ⊥
    occurs far new = (subst (EachOfPortChange Other) is (subst (EachOfEffect Other) (act_effect p i real w ks j.transit j.reached i i n st kinds found need on) (effect_names Other (λ same. cc) p c (act_served p i real w ks j.transit j.reached i i n st kinds found need on) new (made far) (act_allowed p i real w ks j.transit j.reached i i n st kinds found need on))).port).0 refl

    has : IsSome (value_of equal_port c.ports q) → ⊥
    has h = let both : ◌≡◌ {A = Bool} false true = subst (λ (o : Option VarName). IsSome o) none h in cc

    go : (b : Bool) → (q.site == i) ≡ b → q.site ≡ i
    go true e = (nat_decides q.site i).0 e
    go false e = let far : q.site ≢ i = (λ h. let yes : (q.site == i) ≡ true = (nat_decides q.site i).1 h in cc) in absurd (has (ports_have_ends p ks c q j.reached.run (occurs far)))

module _ (p : List Stmt) (limit i : ℕ) (real : i ≢ 0) (w : World) (ks : List Pick) (j : Joined p w ks) (n : ThreadName) (st : Stack) (kinds : List NameKind) (runs : thread_state (w.sites i) n ≡ Some (st, mode.Runs)) (need : stack_need p (eqs w.sites i) st ≡ Takes kinds)
    (on : IsKept (stack_effect p (eqs w.sites i) (next_names i (counters w.sites i) kinds) None st)) where
  abbrev s : Site
  s = w.sites i

  abbrev c : State
  c = j.reached.centre

  abbrev fresh : List Name
  fresh = next_names i (counters w.sites i) kinds

  abbrev e : Effect
  e = stack_effect p (eqs w.sites i) fresh None st

  found : value_of equal_thread (threads (shown w.sites j.transit) i) n ≡ Some (st, mode.Runs)
  found = own_found p limit i real w ks j n st kinds runs need on

  abbrev d : Transition
  d = own_row p limit i real w ks j n st kinds runs need on

  abbrev v : World
  v = after_transition w i d

  abbrev z : State
  z = act_next p i real w ks j.transit j.reached i i n st kinds found need on

  quiet : IsQuiet e
  quiet = act_quiet p i real w ks j.transit j.reached i i n st kinds found need on

  site_is : d.site ≡ own_site p limit i real w ks j n st kinds runs need on
  site_is = (tells limit e.cell (own_site p limit i real w ks j n st kinds runs need on)).site

  number : s.records.site ≡ i
  number = (j.reached.parts.kept i).site

  -- making names changes no number
  fresh_number : (with_fresh_names kinds s).records.site ≡ s.records.site
  fresh_number = makes_site s.records (vars_among (next_names s.records.site s.counters kinds))

  site_number : (own_site p limit i real w ks j n st kinds runs need on).records.site ≡ s.records.site
  site_number = sym (ap (λ (t : Site). t.records.site) site_is) ∙ (own_kept p limit i real w ks j n st kinds runs need on).still.site

  homes_are : d.site.homes ≡ (after_home_cell e.cell (with_fresh_names kinds s)).homes
  homes_are = ap (λ (t : Site). t.homes) site_is ∙ port_homes e.port (after_home_cell e.cell (with_fresh_names kinds s))

  ports_are : d.site.ports ≡ (after_port e.port (with_fresh_names kinds s)).ports
  ports_are = ap (λ (t : Site). t.ports) site_is ∙ ported e.port
    where
      ported : (r : PortChange) → (after_port r (after_home_cell e.cell (with_fresh_names kinds s))).ports ≡ (after_port r (with_fresh_names kinds s)).ports
      ported Keeps = cell_ports e.cell (with_fresh_names kinds s)
      ported (Opened q end) = ap (λ (es : List (PortName × VarName)). insert_entry equal_port es q end) (cell_ports e.cell (with_fresh_names kinds s))
      ported (Sent q value new) = ap (λ (es : List (PortName × VarName)). insert_entry equal_port es q new) (cell_ports e.cell (with_fresh_names kinds s))

  module _ (ends : (q : PortName) (value new : VarName) → e.port ≡ Sent q value new → q.site ≡ i) (holds : (b : CellName) (new old : VarName) → e.cell ≡ Exchanged b new old → (b.at ≡ i) × (x : VarName) × ((home_record s b).content ≡ Some x)) where
    wide : (k : ℕ) (y : VarName) → IsHere (records w.sites k) y → IsHere (records v.sites k) y
    wide = at_all w.sites i d.site (λ k (t : Site). (y : VarName) → IsHere (records w.sites k) y → IsHere t.records y)
        (act_wider p i real w ks j.transit j.reached i i n st kinds found need on d (own_kept p limit i real w ks j n st kinds runs need on) j.transit) (λ k far y h. h)

    abbrev MaySendIt : Type 0
    MaySendIt = MaySend p (eqs w.sites) (at_put (records w.sites) i (after_makes (records w.sites i) (vars_among fresh))) (threads (shown (put w.sites i d.site) j.transit)) (at_put (counters w.sites) i (counters_after (counters w.sites i) kinds)) z.equations d.sent

    -- the thread goes on, and others wait as before: what homes and owners keep is the rest
    step_joined : MaySendIt → (came : ℕ → ℕ → Msg → Type 0) → Turned w.mail v.mail (λ k. ⊥) came → ((y : Claim) → IsNewClaim came y → ⊥) → ((b : CellName) → early_at (homes v.sites) b ≡ early_at (homes w.sites) b) →
        PortsMatch (ports v.sites) (records v.sites) z.ports → HomesMatch (homes v.sites) (records v.sites) v.mail z.cells → AreEarly (homes v.sites) (records v.sites) → Joined p v (ks ++ d.picks)
    step_joined may came turned none same ends_now contents early = record {
      transit = j.transit;
      reached = whole there;
      answers = record {
        asking = asking_alike p (eqs w.sites) (eqs v.sites) (IsAsking (threads w.sites)) (IsAsking (threads v.sites)) (IsClaim w.mail (early_at (homes w.sites))) (IsClaim v.mail (early_at (homes v.sites))) j.transit
            (λ k. (there.parts.kept k).sound) grown (λ k o a su h. ((waits k a).old o su h.0, h.1)) (λ k o a su h. ((waits k a).new o su h.0, h.1)) from old j.answers.asking;
        named = λ k o a su h. (let q = j.answers.named k o a su ((waits k a).old o su h.0, h.1) in (q.0, EachOfStack-weaker (IsHereName (records w.sites k)) (IsHereName (records v.sites k)) (here_wider (records w.sites k) (records v.sites k) (wide k)) su q.1));
        made = λ k o a su h. EachOfStack-weaker (IsMade (counters w.sites)) (IsMade (counters v.sites)) (made_grow w.sites i d.site (kinds_grow s.counters d.site.counters kinds (own_kept p limit i real w ks j n st kinds runs need on).counters)) su (j.answers.made k o a su ((waits k a).old o su h.0, h.1));
        ends = ends_now;
        contents = contents;
        early = early;
      };
      once = at_all w.sites i d.site (λ k (t : Site). AreDistinct (names t.threads)) (own_once p limit i real w ks j n st kinds runs need on ends holds) (λ k far. j.once k);
    }
      where
        there : ReachedAt p (shown_world v j.transit) (ks ++ d.picks) z
        there = own_reached p limit i real w ks j n st kinds runs need on ends holds may

        grown : (k : ℕ) → IsPartOf (eqs w.sites k) (eqs v.sites k)
        grown = at_all w.sites i d.site (λ k (t : Site). IsPartOf (eqs w.sites k) t.equations) (λ x q. subst (λ (es : Store). Contains es x) (sym (own_kept p limit i real w ks j n st kinds runs need on).equations) q) (λ k far x q. q)

        waits : (k : ℕ) (a : Awaited) → SameWaiters (threads w.sites k) (threads v.sites k) a
        waits = at_all w.sites i d.site (λ k (t : Site). (a : Awaited) → SameWaiters (threads w.sites k) t.threads a) (own_waiters p limit i real w ks j n st kinds runs need on ends holds) (λ k far a. record { old = λ o su h. h; new = λ o su h. h })

        from : (y : Claim) → IsClaim v.mail (early_at (homes v.sites)) y → IsClaim w.mail (early_at (homes w.sites)) y
        from y h = go (claims_from w.mail v.mail (early_at (homes w.sites)) (λ k. ⊥) came turned y (relisted v.mail (early_at (homes w.sites)) (early_at (homes v.sites)) same y h))
          where
            go : (IsClaim w.mail (early_at (homes w.sites)) y × (IsLost (λ k. ⊥) y → ⊥)) ⊎ IsNewClaim came y → IsClaim w.mail (early_at (homes w.sites)) y
            go (inl q) = q.0
            go (inr q) = absurd (none y q)

        old : (y : Claim) → IsClaim w.mail (early_at (homes w.sites)) y → IsClaim v.mail (early_at (homes v.sites)) y
        old y h = relisted v.mail (early_at (homes v.sites)) (early_at (homes w.sites)) (λ b. sym (same b)) y (claims_kept w.mail v.mail (early_at (homes w.sites)) (λ k. ⊥) came turned y h (never_lost y))

    -- ---- nothing is sent

    module _ (silent : d.sent ≡ []) where
      mail_same : ◌≡◌ {A = Mail} v.mail w.mail
      mail_same = ap (λ (ms : List Letter). w.mail ++ mail_from w.sent ms) silent ∙ append-nil w.mail

      quietly : MaySendIt
      quietly = subst (λ (ms : List Letter). MaySend p (eqs w.sites) (at_put (records w.sites) i (after_makes (records w.sites i) (vars_among fresh))) (threads (shown (put w.sites i d.site) j.transit)) (at_put (counters w.sites) i (counters_after (counters w.sites i) kinds)) z.equations ms) (sym silent)
          (none_sent p (eqs w.sites) (at_put (records w.sites) i (after_makes (records w.sites i) (vars_among fresh))) (threads (shown (put w.sites i d.site) j.transit)) (at_put (counters w.sites) i (counters_after (counters w.sites i) kinds)) z.equations)

      told_from : (k to : ℕ) (b : CellName) (x : VarName) → IsTold v.mail k to b x → IsTold w.mail k to b x
      told_from k to b x h = subst (λ (m : Mail). IsTold m k to b x) mail_same h

      told_old : (k to : ℕ) (b : CellName) (x : VarName) → IsTold w.mail k to b x → IsTold v.mail k to b x
      told_old k to b x h = subst (λ (m : Mail). IsTold m k to b x) (sym mail_same) h

      silent_joined : ((b : CellName) → early_at (homes v.sites) b ≡ early_at (homes w.sites) b) → PortsMatch (ports v.sites) (records v.sites) z.ports → HomesMatch (homes v.sites) (records v.sites) v.mail z.cells → AreEarly (homes v.sites) (records v.sites) → Joined p v (ks ++ d.picks)
      silent_joined same ends_now contents early = step_joined quietly (λ k a m. ⊥) (subst (λ (m : Mail). Turned w.mail m (λ k. ⊥) (λ k a x. ⊥)) (sym mail_same) (stays w.mail)) never same ends_now contents early
        where
          never : (y : Claim) → IsNewClaim (λ k a m. ⊥) y → ⊥
          never (Asked k to a o f) (bundle, h) = h
          never (Answered k to o x) (bundle, h) = h
          never (Listed b r) h = h

    own_exchanged : (f : CellName → ThreadName → ℕ) → exchanges_by f p c d.picks ≡ of_exchange f n e.cell
    own_exchanged f = act_exchanged p i real w ks j.transit j.reached i i n st kinds found need on f d (own_kept p limit i real w ks j n st kinds runs need on)

    -- ---- on a port

    module _ (stays_cell : e.cell ≡ Stays) where
      port_silent : d.sent ≡ []
      port_silent = ap (λ (ch : CellChange). (telling_row limit ch (own_site p limit i real w ks j n st kinds runs need on)).sent) stays_cell

      homes_same : ◌≡◌ {A = Homes} (homes v.sites) (homes w.sites)
      homes_same = field_kept (λ (t : Site). t.homes) w.sites i d.site (homes_are ∙ ap (λ (ch : CellChange). (after_home_cell ch (with_fresh_names kinds s)).homes) stays_cell)

      cells_same : z.cells ≡ c.cells
      cells_same = act_cells p i real w ks j.transit j.reached i i n st kinds found need on ∙ ap (λ (ch : CellChange). cells_after c.cells ch) stays_cell

      port_joined : PortsMatch (ports v.sites) (records v.sites) z.ports → Joined p v (ks ++ d.picks)
      port_joined ends_now = silent_joined port_silent (λ b. ap (λ (f : Homes). early_at f b) homes_same) ends_now
          (subst (λ (cs : List (CellName × VarName)). HomesMatch (homes v.sites) (records v.sites) v.mail cs) (sym cells_same)
          (same_homes (homes w.sites) (homes v.sites) (records w.sites) (records v.sites) w.mail v.mail c.cells homes_same wide (told_from port_silent) (told_old port_silent) j.answers.contents))
          (early_same (homes w.sites) (homes v.sites) (records w.sites) (records v.sites) homes_same wide j.answers.early)

      pub port_balances : (R : ℕ → ThreadName → Type 0) → Balances p R none_came w.sites (put w.sites i d.site) c d
      port_balances R = still_balances p R w.sites (put w.sites i d.site) c d none_came (λ b th. refl) (λ b. ap (λ (f : Homes). early_at f b) homes_same) (λ f vanishes. own_exchanged f ∙ ap (of_exchange f n) stays_cell)
          (ap (count_by asks_content) port_silent) (ap (count_by tells_content) port_silent)

      -- the names of the effect are here
      end_here : (x : VarName) (q : PortName) → q.site ≡ i → here_at (records v.sites) i (name.Var x) → IsHere (records v.sites q.site) x
      end_here x q home (inl h) = subst (λ (k : ℕ). IsHere (records v.sites k) x) (sym home) h
      end_here x q home (inr h) = absurd (real h)

      port_names : EachOfPortChange (here_at (records v.sites) i) e.port
      port_names = (own_names p limit i real w ks j n st kinds runs need on ends holds).port

      -- a port is made
      pub opened_joined : (q : PortName) (end : VarName) → e.port ≡ Opened q end → Joined p v (ks ++ d.picks)
      opened_joined q end is = port_joined (subst (λ (es : List (PortName × VarName)). PortsMatch (ports v.sites) (records v.sites) es) (sym (act_ports p i real w ks j.transit j.reached i i n st kinds found need on ∙ ap (λ (r : PortChange). ports_after c.ports r) is))
          (port_kept (ports w.sites) (ports v.sites) (records w.sites) (records v.sites) c.ports (c.ports ++ (q, end) ∷ []) q end j.answers.ends
          (ended_at w.sites i d.site q end home (ports_are ∙ ap (λ (r : PortChange). (after_port r (with_fresh_names kinds s)).ports) is)) wide
          (opened_here c.ports q end none) (λ r other. opened_there c.ports q r end other)
          (end_here end q home (subst (EachOfPortChange (here_at (records v.sites) i)) is port_names).1)))
        where
          none : value_of equal_port c.ports q ≡ None
          none = subst (FindsPort c.ports) is (act_finds_port p i real w ks j.transit j.reached i i n st kinds found need on)

          home : q.site ≡ i
          home = new_port p i real w ks j n st kinds found need on q end is none

      -- an own port is sent to
      pub sent_joined : (q : PortName) (value new : VarName) → e.port ≡ Sent q value new → Joined p v (ks ++ d.picks)
      sent_joined q value new is = port_joined (subst (λ (es : List (PortName × VarName)). PortsMatch (ports v.sites) (records v.sites) es) (sym (act_ports p i real w ks j.transit j.reached i i n st kinds found need on ∙ ap (λ (r : PortChange). ports_after c.ports r) is))
          (port_kept (ports w.sites) (ports v.sites) (records w.sites) (records v.sites) c.ports (with_value equal_port c.ports q new) q new j.answers.ends
          (ended_at w.sites i d.site q new home (ports_are ∙ ap (λ (r : PortChange). (after_port r (with_fresh_names kinds s)).ports) is)) wide
          (moved_here c.ports q old.0 new old.1) (λ r other. moved_there c.ports q r new other)
          (end_here new q home (subst (EachOfPortChange (here_at (records v.sites) i)) is port_names).2)))
        where
          old : (x : VarName) × (value_of equal_port c.ports q ≡ Some x)
          old = subst (FindsPort c.ports) is (act_finds_port p i real w ks j.transit j.reached i i n st kinds found need on)

          home : q.site ≡ i
          home = ends q value new is

    -- ---- on a cell

    module _ (keeps : e.port ≡ Keeps) where
      ports_stay : ◌≡◌ {A = Ports} (ports v.sites) (ports w.sites)
      ports_stay = field_kept (λ (t : Site). t.ports) w.sites i d.site (ports_are ∙ ap (λ (r : PortChange). (after_port r (with_fresh_names kinds s)).ports) keeps)

      ends_stay : PortsMatch (ports v.sites) (records v.sites) z.ports
      ends_stay = subst (λ (es : List (PortName × VarName)). PortsMatch (ports v.sites) (records v.sites) es) (sym (act_ports p i real w ks j.transit j.reached i i n st kinds found need on ∙ ap (λ (r : PortChange). ports_after c.ports r) keeps))
          (ports_same (ports w.sites) (ports v.sites) (records w.sites) (records v.sites) c.ports ports_stay wide j.answers.ends)

      cell_names : EachOfChange (here_at (records v.sites) i) e.cell
      cell_names = (own_names p limit i real w ks j n st kinds runs need on ends holds).cell

      known_home : (b : CellName) (x : VarName) → b.at ≡ i → here_at (records v.sites) i (name.Var x) → IsHere (records v.sites b.at) x
      known_home b x home (inl h) = subst (λ (k : ℕ). IsHere (records v.sites k) x) (sym home) h
      known_home b x home (inr h) = absurd (real h)

      -- an exchange at the home
      module _ (b : CellName) (new old : VarName) (is : e.cell ≡ Exchanged b new old) where
        was : (b.at ≡ i) × (x : VarName) × ((home_record s b).content ≡ Some x)
        was = holds b new old is

        silent_exchange : d.sent ≡ []
        silent_exchange = ap (λ (ch : CellChange). (telling_row limit ch (own_site p limit i real w ks j n st kinds runs need on)).sent) is

        moved_exchange : Rehomed (homes w.sites) (homes v.sites) b (record { content = Some new; early = (home_record s b).early })
        moved_exchange = rehomed w.sites i d.site b (record { content = Some new; early = (home_record s b).early }) was.0 (homes_are ∙ ap (λ (ch : CellChange). (after_home_cell ch (with_fresh_names kinds s)).homes) is)

        at_home : content_at (homes w.sites) b ≡ Some was.1
        at_home = ap (λ (k : ℕ). (home_in (homes w.sites k) b).content) was.0 ∙ was.2

        exchanged_early : (x : CellName) → early_at (homes v.sites) x ≡ early_at (homes w.sites) x
        exchanged_early x = go (cell_cases b x)
          where
            go : (b ≡ x) ⊎ (b ≢ x) → early_at (homes v.sites) x ≡ early_at (homes w.sites) x
            go (inl same) = subst (λ (y : CellName). early_at (homes v.sites) y ≡ early_at (homes w.sites) y) same (early_own (homes w.sites) (homes v.sites) b _ moved_exchange ∙ sym (ap (λ (k : ℕ). (home_in (homes w.sites k) b).early) was.0))
            go (inr other) = early_other (homes w.sites) (homes v.sites) b _ moved_exchange x other

        -- the thread's exchange is its own
        pub exchanged_balances : (R : ℕ → ThreadName → Type 0) → R i n → Balances p R none_came w.sites (put w.sites i d.site) c d
        exchanged_balances R goes = exchange_balances p R w.sites (put w.sites i d.site) c d n b (λ z. real (sym was.0 ∙ z)) (subst (λ (k : ℕ). R k n) (sym was.0) goes) exchanged_early
            (λ f. own_exchanged f ∙ ap (of_exchange f n) is) (ap (count_by asks_content) silent_exchange) (ap (count_by tells_content) silent_exchange)

        pub exchanged_joined : Joined p v (ks ++ d.picks)
        exchanged_joined = silent_joined silent_exchange exchanged_early ends_stay
            (subst (λ (cs : List (CellName × VarName)). HomesMatch (homes v.sites) (records v.sites) v.mail cs) (sym (act_cells p i real w ks j.transit j.reached i i n st kinds found need on ∙ ap (λ (ch : CellChange). cells_after c.cells ch) is))
            (kept_exchange (homes w.sites) (homes v.sites) (records w.sites) (records v.sites) w.mail v.mail c.cells b new was.1 (home_record s b).early j.answers.contents moved_exchange wide (told_from silent_exchange) (told_old silent_exchange) at_home
            (known_home b new was.0 (subst (EachOfChange (here_at (records v.sites) i)) is cell_names).1) (subst (λ (k : ℕ). AreDistinct (home_in (homes w.sites k) b).early) was.0 (j.answers.contents.lists b))))
            is_early
          where
            is_early : AreEarly (homes v.sites) (records v.sites)
            is_early x r h = go (cell_cases b x)
              where
                was_early : (x.at ≢ 0) × (content_at (homes w.sites) x ≡ None) × IsHere (records w.sites x.at) r.new
                was_early = j.answers.early x r (subst (λ (rs : List EarlyRequest). Contains rs r) (exchanged_early x) h)

                go : (b ≡ x) ⊎ (b ≢ x) → (x.at ≢ 0) × (content_at (homes v.sites) x ≡ None) × IsHere (records v.sites x.at) r.new
                go (inr other) = (was_early.0, content_other (homes w.sites) (homes v.sites) b _ moved_exchange x other ∙ was_early.1, wide x.at r.new was_early.2)
                go (inl same) =
                    let both : ◌≡◌ {A = Option VarName} None (Some was.1) = sym (subst (λ (y : CellName). content_at (homes w.sites) y ≡ None) (sym same) was_early.1) ∙ at_home in absurd (cc)

      -- a cell is made
      module _ (b : CellName) (x : VarName) (is : e.cell ≡ Made b x) (away : b.at ≢ 0) where
        unmade : value_of equal_cell c.cells b ≡ None
        unmade = subst (FindsCell c.cells) is (act_finds_cell p i real w ks j.transit j.reached i i n st kinds found need on)

        none_early : early_at (homes w.sites) b ≡ []
        none_early = no_elements (early_at (homes w.sites) b) (unlisted p w ks j b unmade)

        made_cells : z.cells ≡ (b, x) ∷ c.cells
        made_cells = act_cells p i real w ks j.transit j.reached i i n st kinds found need on ∙ ap (λ (ch : CellChange). cells_after c.cells ch) is

        made_names : here_at (records v.sites) i (name.Cell b) × here_at (records v.sites) i (name.Var x)
        made_names = subst (EachOfChange (here_at (records v.sites) i)) is cell_names

        own_home : b.at ≡ i → (b.at == s.records.site) ≡ true
        own_home home = (nat_decides b.at s.records.site).1 (home ∙ sym number)

        other_home : b.at ≢ i → (b.at == s.records.site) ≡ false
        other_home far = go (b.at == s.records.site) refl
          where
            go : (q : Bool) → (b.at == s.records.site) ≡ q → q ≡ false
            go true q = absurd (far ((nat_decides b.at s.records.site).0 q ∙ number))
            go false q = refl

        moved_made : b.at ≡ i → Rehomed (homes w.sites) (homes v.sites) b (record { content = Some x; early = [] })
        moved_made home = rehomed w.sites i d.site b (record { content = Some x; early = [] }) home (homes_are ∙ ap (λ (ch : CellChange). (after_home_cell ch (with_fresh_names kinds s)).homes) is ∙ kept_here)
          where
            kept_here : (after_home_cell (Made b x) (with_fresh_names kinds s)).homes ≡ insert_entry equal_cell s.homes b (record { content = Some x; early = [] })
            kept_here = rw (fresh_number, own_home home) refl

        made_early : b.at ≡ i → (y : CellName) → early_at (homes v.sites) y ≡ early_at (homes w.sites) y
        made_early home y = go (cell_cases b y)
          where
            go : (b ≡ y) ⊎ (b ≢ y) → early_at (homes v.sites) y ≡ early_at (homes w.sites) y
            go (inl same) = subst (λ (a : CellName). early_at (homes v.sites) a ≡ early_at (homes w.sites) a) same (early_own (homes w.sites) (homes v.sites) b _ (moved_made home) ∙ sym none_early)
            go (inr other) = early_other (homes w.sites) (homes v.sites) b _ (moved_made home) y other

        told_homes : b.at ≢ i → ◌≡◌ {A = Homes} (homes v.sites) (homes w.sites)
        told_homes far = field_kept (λ (t : Site). t.homes) w.sites i d.site (homes_are ∙ ap (λ (ch : CellChange). (after_home_cell ch (with_fresh_names kinds s)).homes) is ∙ rw (fresh_number, other_home far) refl)

        -- no content is exchanged
        pub made_balances : (R : ℕ → ThreadName → Type 0) → Balances p R none_came w.sites (put w.sites i d.site) c d
        made_balances R = still_balances p R w.sites (put w.sites i d.site) c d none_came (λ a th. refl) (early_stays (b.at == i) refl) (λ f vanishes. own_exchanged f ∙ ap (of_exchange f n) is) (let none = t.asks in omega (arith, none)) t.olds
          where
            early_stays : (q : Bool) → (b.at == i) ≡ q → (y : CellName) → early_at (homes v.sites) y ≡ early_at (homes w.sites) y
            early_stays true q y = made_early ((nat_decides b.at i).0 q) y
            early_stays false q y = ap (λ (f : Homes). early_at f y) (told_homes (λ z. let yes : (b.at == i) ≡ true = (nat_decides b.at i).1 z in cc))

            real_home : (a : CellName) (u : VarName) → e.cell ≡ Made a u → a.at ≢ 0
            real_home a u q = let both : Made b x ≡ Made a u = sym is ∙ q in let cell : b ≡ a = cc in subst (λ (y : CellName). y.at ≢ 0) cell away

            t : TellsCell e.cell (telling_row limit e.cell (own_site p limit i real w ks j n st kinds runs need on)).sent
            t = tells_cell limit e.cell (own_site p limit i real w ks j n st kinds runs need on) real_home

        -- at its home
        pub made_joined : b.at ≡ i → Joined p v (ks ++ d.picks)
        made_joined home = silent_joined silent (made_early home) ends_stay
            (subst (λ (cs : List (CellName × VarName)). HomesMatch (homes v.sites) (records v.sites) v.mail cs) (sym made_cells)
            (kept_made (homes w.sites) (records w.sites) w.mail c.cells b x j.answers.contents unmade (homes v.sites) (records v.sites) v.mail away (moved_made home) wide (told_from silent) (told_old silent) (known_home b x home made_names.1)))
            is_early
          where
            silent : d.sent ≡ []
            silent = ap (λ (ch : CellChange). (telling_row limit ch (own_site p limit i real w ks j n st kinds runs need on)).sent) is ∙ told_none
              where
                told_none : (telling_row limit (Made b x) (own_site p limit i real w ks j n st kinds runs need on)).sent ≡ []
                told_none = rw (site_number, own_home home) refl

            is_early : AreEarly (homes v.sites) (records v.sites)
            is_early y r h = go (cell_cases b y)
              where
                before : Contains (early_at (homes w.sites) y) r
                before = subst (λ (rs : List EarlyRequest). Contains rs r) (made_early home y) h

                go : (b ≡ y) ⊎ (b ≢ y) → (y.at ≢ 0) × (content_at (homes v.sites) y ≡ None) × IsHere (records v.sites y.at) r.new
                go (inr other) = let q = j.answers.early y r before in (q.0, content_other (homes w.sites) (homes v.sites) b _ (moved_made home) y other ∙ q.1, wide y.at r.new q.2)
                go (inl same) = absurd (unlisted p w ks j b unmade r (subst (λ (a : CellName). Contains (early_at (homes w.sites) a) r) (sym same) before))

        -- elsewhere: the home is told
        pub told_joined : b.at ≢ i → Joined p v (ks ++ d.picks)
        told_joined far = step_joined may (IsLetter w.sent b.at (msg.CellMake b x bundle)) turned (tell_claims w.sent b.at b x bundle) (λ y. ap (λ (f : Homes). early_at f y) homes_same) ends_stay
            (subst (λ (cs : List (CellName × VarName)). HomesMatch (homes v.sites) (records v.sites) v.mail cs) (sym made_cells)
            (subst (λ (f : Homes). HomesMatch f (records v.sites) v.mail ((b, x) ∷ c.cells)) (sym homes_same)
            (kept_told (homes w.sites) (records w.sites) w.mail c.cells b x j.answers.contents unmade (records v.sites) v.mail w.sent away wide from old (bundle, turned.new w.sent b.at (msg.CellMake b x bundle) (refl, refl, refl)))))
            (early_same (homes w.sites) (homes v.sites) (records w.sites) (records v.sites) homes_same wide j.answers.early)
          where
            base : Site
            base = own_site p limit i real w ks j n st kinds runs need on

            bundle : List Equation
            bundle = bundle_of limit base.equations (msg.CellMake b x [])

            sent_is : d.sent ≡ sent_to b.at (msg.CellMake b x bundle) ∷ []
            sent_is = ap (λ (ch : CellChange). (telling_row limit ch base).sent) is ∙ told_one
              where
                told_one : (telling_row limit (Made b x) base).sent ≡ sent_to b.at (msg.CellMake b x bundle) ∷ []
                told_one = rw (site_number, other_home far) refl

            homes_same : ◌≡◌ {A = Homes} (homes v.sites) (homes w.sites)
            homes_same = told_homes far

            base_equations : base.equations ≡ s.equations
            base_equations = sym (ap (λ (t : Site). t.equations) site_is) ∙ (own_kept p limit i real w ks j n st kinds runs need on).equations

            carried : Each (Contains c.equations) bundle
            carried = each_more base.equations c.equations (λ q h. j.reached.parts.knowledge.known i q (subst (λ (es : Store). Contains es q) base_equations h)) bundle (bundle_known limit base.equations (msg.CellMake b x []))

            made_made : IsMade (at_put (counters w.sites) i (counters_after (counters w.sites i) kinds)) (name.Cell b) × IsMade (at_put (counters w.sites) i (counters_after (counters w.sites i) kinds)) (name.Var x)
            made_made = subst (EachOfChange (IsMade (at_put (counters w.sites) i (counters_after (counters w.sites i) kinds)))) is (act_made p i real w ks j.transit j.reached i i n st kinds found need on).cell

            may : MaySendIt
            may = subst (λ (ms : List Letter). MaySend p (eqs w.sites) (at_put (records w.sites) i (after_makes (records w.sites i) (vars_among fresh))) (threads (shown (put w.sites i d.site) j.transit)) (at_put (counters w.sites) i (counters_after (counters w.sites i) kinds)) z.equations ms) (sym sent_is)
                (keepers_may p (eqs w.sites) (at_put (records w.sites) i (after_makes (records w.sites i) (vars_among fresh))) (threads (shown (put w.sites i d.site) j.transit)) (at_put (counters w.sites) i (counters_after (counters w.sites i) kinds)) z.equations b.at (msg.CellMake b x bundle) (λ h. h)
                (subst (λ (es : Store). Each (Contains es) bundle) (sym (act_equations p i real w ks j.transit j.reached i i n st kinds found need on)) carried)
                (made_made.0, made_made.1, each_part (EachOfEquation (IsMade (at_put (counters w.sites) i (counters_after (counters w.sites i) kinds)))) c.equations (act_all p i real w ks j.transit j.reached i i n st kinds found need on).0 bundle carried))

            turned : Turned w.mail v.mail (λ k. ⊥) (IsLetter w.sent b.at (msg.CellMake b x bundle))
            turned = subst (λ (ms : List Letter). Turned w.mail (w.mail ++ mail_from w.sent ms) (λ k. ⊥) (IsLetter w.sent b.at (msg.CellMake b x bundle))) (sym sent_is) (sends w.mail w.sent b.at (msg.CellMake b x bundle))

            from : (k a : ℕ) (y : CellName) (u : VarName) → IsTold v.mail k a y u → IsTold w.mail k a y u ⊎ ((k ≡ w.sent) × (a ≡ b.at) × (y ≡ b) × (u ≡ x))
            from k a y u (es, h) = go (turned.from k a (msg.CellMake y u es) h)
              where
                go : (IsOnItsWay w.mail k a (msg.CellMake y u es) × (⊥ → ⊥)) ⊎ IsLetter w.sent b.at (msg.CellMake b x bundle) k a (msg.CellMake y u es) → IsTold w.mail k a y u ⊎ ((k ≡ w.sent) × (a ≡ b.at) × (y ≡ b) × (u ≡ x))
                go (inl q) = inl (es, q.0)
                go (inr (f, g, q)) =
                    let cell : y ≡ b = cc in
                    let content : u ≡ x = cc in inr (f, g, cell, content)

            old : (k a : ℕ) (y : CellName) (u : VarName) → IsTold w.mail k a y u → IsTold v.mail k a y u
            old k a y u (es, h) = (es, turned.kept k a (msg.CellMake y u es) h (λ q. q))
