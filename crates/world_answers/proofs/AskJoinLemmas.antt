-- The units of a thread that asks: the owner of a port, the home of a cell, or its own home before the home heard of the cell.
use Rattle.world_model.proofs.KeyLemmas.{with_here}
use Rattle.tree_node.proofs.NameLemmas.{same_thread_decides}
use Rattle.std.proofs.Common.{◌≡◌, ◌∙◌, sym, ap, refl, subst, ℕ, List, [], ◌∷◌, ◌++◌, append-nil, ◌⊎◌, inl, inr, Bool, true, false, Some, None, cond}
use Rattle.std.specs.Prelude.{Contains, ◌≢◌, ◌==◌, not}
use Rattle.tree_node.specs.declared.names.VarName.{VarName}
use Rattle.tree_node.specs.declared.names.CellName.{CellName}
use Rattle.tree_node.specs.declared.names.PortName.{PortName}
use Rattle.tree_node.specs.declared.names.ThreadName.{ThreadName}
use Rattle.tree_node.specs.declared.names.Name.TheVariants as name
use Rattle.tree_node.specs.declared.pick.Pick.{Pick}
use Rattle.tree_node.specs.Assoc.{value_of}
use Rattle.tree_node.specs.Each.{Each, AreDistinct}
use Rattle.tree_node.specs.Names.{EachOfEquation, EachOfStack}
use Rattle.tree_node.specs.State.{Stack, State, equal_thread}
use Rattle.tree_node.specs.Store.{Equation}
use Rattle.tree_node.proofs.ClassLemmas.{Contains-head, Contains-tail}
use Rattle.kernel_syntax.specs.declared.stmt.Stmt.{Stmt}
use Rattle.site_message.specs.declared.message.Msg.{Msg}
use Rattle.site_message.specs.declared.message.Msg.TheVariants as msg
use Rattle.site_message.specs.declared.message.Sent.{Sent}
use Rattle.oz_model.proofs.KindLemmas.{cell_cases}
use Rattle.bind_protocol.specs.Records.{Records}
use Rattle.thread_roster.specs.declared.mode.Awaited.{Awaited}
use Rattle.thread_roster.specs.declared.mode.Awaited.TheVariants.{Cell}
use Rattle.thread_roster.specs.declared.mode.Mode.TheVariants as mode
use Rattle.site_model.specs.Bundle.{bundle_of, with_own_bundle}
use Rattle.site_model.specs.Requests.{with_asking, asking_row, with_early, early_request_row}
use Rattle.site_model.specs.Site.{Site, Threads, Counters, HomeRecord, EarlyRequest, home_record, thread_state}
use Rattle.site_model.specs.Transition.{Transition, without_output, with_messages}
use Rattle.site_model.proofs.BundleLemmas.{bundle_known}
use Rattle.world_model.specs.Claims.{Asking, ContentOf, Asks, awaited, server, request, Claim, Asked, Answered, Listed, IsClaim, IsAsking, AskingMatch, keeper_of, EndOf}
use Rattle.world_model.specs.Keepers.{PortsMatch, HomesMatch, AreEarly, IsTold, homes, ports, content_at, early_at}
use Rattle.world_model.specs.Names.{IsHere, IsMade, here_at}
use Rattle.world_model.specs.Shown.{is_asking, shown}
use Rattle.world_model.specs.World.{World, Mail, IsOnItsWay, put, eqs, records, threads, counters, after_transition}
use Rattle.world_model.proofs.MailLemmas.{sent_to}
use Rattle.world_model.proofs.PutLemmas.{at_all, field_kept, nat_decides}
use Rattle.world_variables.specs.Sums.{names}
use Rattle.world_variables.proofs.FollowLemmas.{value_each}
use Rattle.world_variables.proofs.RegisterLemmas.{MaySend}
use Rattle.world_cells.proofs.SendLemmas.{each_more, each_part}
use Rattle.world_answers.specs.Joined.{Joined}
use Rattle.world_answers.proofs.AskLemmas.{IsAskingRow, shown_at, nobody_asks, from_wait, asks_reached, asks_claims, asks_named, own_waits, once_names}
use Rattle.world_answers.proofs.HomeLemmas.{Rehomed, rehomed, same_homes, kept_early, early_own, early_other, content_own, content_other, distinct_end, Homes}
use Rattle.world_answers.proofs.LeaveLemmas.{Leaves, leaves_none}
use Rattle.thread_roster.proofs.NameLemmas.{name_cases as threads_decide}
use Rattle.world_answers.proofs.BalanceLemmas.{Balances, none_came}
use Rattle.world_answers.proofs.BalanceRowLemmas.{asks_balances, early_balances}
use Rattle.world_answers.proofs.OwedLemmas.{Owes, Nobody, AsksOne, asks_for_one, others_wait, owes_none}
use Rattle.world_answers.proofs.PackLemmas.{of_none, whole}
use Rattle.world_answers.proofs.SayLemmas.{none_sent, request_filled, request_bundle, keepers_may, request_names, content_names}
use Rattle.world_answers.proofs.SpotLemmas.{IsLetter, IsLost, IsNewClaim, Turned, sends, claims_from, claims_kept, request_claims, request_tells, appended_from, appended_old, appended_new}
use Rattle.world_answers.proofs.StandLemmas.{request_not}
use Rattle.world_answers.proofs.PortsLemmas.{Ports}

pub away_asks : (c : CellName) → c.at ≢ 0 → is_asking (mode.WaitsFor (Cell c)) ≡ true
away_asks c far = go (c.at == 0) refl
  where
    go : (b : Bool) → (c.at == 0) ≡ b → not b ≡ true
    go true e = absurd (far ((nat_decides c.at 0).0 e))
    go false e = refl

pub never_lost : (y : Claim) → IsLost (λ k. ⊥) y → ⊥
never_lost (Asked k to a n f) h = h
never_lost (Answered k to n x) h = h
never_lost (Listed c r) h = h

pub ports_same : (ps qs : Ports) (rs more : ℕ → Records) (central : List (PortName × VarName)) → ◌≡◌ {A = Ports} qs ps → ((i : ℕ) (y : VarName) → IsHere (rs i) y → IsHere (more i) y) → PortsMatch ps rs central → PortsMatch qs more central
ports_same ps qs rs more central same wider m = subst (λ (f : Ports). PortsMatch f more central) (sym same) (record { ends = m.ends; alone = λ i q e h. (let r = m.alone i q e h in (r.0, wider i e r.1)) })

pub early_same : (hs gs : Homes) (rs more : ℕ → Records) → ◌≡◌ {A = Homes} gs hs → ((i : ℕ) (y : VarName) → IsHere (rs i) y → IsHere (more i) y) → AreEarly hs rs → AreEarly gs more
early_same hs gs rs more same wider m = subst (λ (f : Homes). AreEarly f more) (sym same) (λ c r h. (let q = m c r h in (q.0, q.1, wider c.at r.new q.2)))

module _ (p : List Stmt) (i : ℕ) (real : i ≢ 0) (w : World) (ks : List Pick) (j : Joined p w ks) (n : ThreadName) (st : Stack) (at : thread_state (w.sites i) n ≡ Some (st, mode.Runs)) where
  abbrev s : Site
  s = w.sites i

  abbrev c : State
  c = j.reached.centre

  abbrev u : Threads
  u = (n, (st, mode.Runs)) ∷ j.transit

  found : value_of equal_thread (threads (shown w.sites j.transit) i) n ≡ Some (st, mode.Runs)
  found = shown_at p i real w ks j n st at

  central : value_of equal_thread c.threads n ≡ Some st
  central = j.reached.parts.placed.up i n st (mode.Runs, found)

  known : (e : Equation) → Contains s.equations e → Contains c.equations e
  known e h = j.reached.parts.knowledge.known i e h

  pub number : s.records.site ≡ i
  number = (j.reached.parts.kept i).site

  -- what is said of it was made
  made : Each (EachOfEquation (IsMade (counters w.sites))) s.equations
  made = each_part (EachOfEquation (IsMade (counters w.sites))) c.equations j.reached.parts.centred.all.0 s.equations (all s.equations (λ e h. known e h))
    where
      all : (xs : List Equation) → ((e : Equation) → Contains xs e → Contains c.equations e) → Each (Contains c.equations) xs
      all [] f = tt
      all (x ∷ xs) f = (f x (Contains-head x xs), all xs (λ e h. f e (Contains-tail x e xs h)))

  thread_made : IsMade (counters w.sites) (name.Thread n) × EachOfStack (IsMade (counters w.sites)) st
  thread_made = value_each (IsMade (counters w.sites)) c.threads n st j.reached.parts.centred.all.3 central

  module _ (a : Awaited) (so : is_asking (mode.WaitsFor a) ≡ true) (d : Transition) (row : IsAskingRow s n st a d)
      (may : MaySend p (eqs w.sites) (records w.sites) (threads (shown (put w.sites i d.site) u)) (counters w.sites) c.equations d.sent) where
    abbrev v : World
    v = after_transition w i d

    records_same : ◌≡◌ {A = ℕ → Records} (records v.sites) (records w.sites)
    records_same = field_kept (λ (x : Site). x.records) w.sites i d.site row.records

    as_before : (k : ℕ) (y : VarName) → IsHere (records w.sites k) y → IsHere (records v.sites k) y
    as_before k y h = subst (λ (r : ℕ → Records). IsHere (r k) y) (sym records_same) h

    -- a thread that asks, with its claim, and with what homes keep then
    pub asked_joined : AskingMatch p (eqs v.sites) (IsAsking (threads v.sites)) (IsClaim v.mail (early_at (homes v.sites))) u → HomesMatch (homes v.sites) (records v.sites) v.mail c.cells → AreEarly (homes v.sites) (records v.sites) →
        Joined p v (ks ++ d.picks)
    asked_joined asking contents early = record {
      transit = u;
      reached = whole (asks_reached p i real w ks j n st at a so d row may);
      answers = record {
        asking = asking;
        named = asks_named p i real w ks j n st at a so d row may;
        made = λ k o b su h. subst (λ (m : ℕ → Counters). EachOfStack (IsMade m) su) (sym (field_kept (λ (x : Site). x.counters) w.sites i d.site row.counters)) (made_now k o b su (from_wait p i real w ks j n st at a so d row may k o b su h));
        ends = ports_same (ports w.sites) (ports v.sites) (records w.sites) (records v.sites) c.ports (field_kept (λ (x : Site). x.ports) w.sites i d.site row.ports) as_before j.answers.ends;
        contents = contents;
        early = early;
      };
      once = at_all w.sites i d.site (λ k (x : Site). AreDistinct (names x.threads)) (once_names p i real w ks j n st at a so d row may) (λ k far. j.once k);
    }
      where
        made_now : (k : ℕ) (o : ThreadName) (b : Awaited) (su : Stack) → ((k ≡ i) × (o ≡ n) × (b ≡ a) × (su ≡ st)) ⊎ IsAsking (threads w.sites) k o b su → EachOfStack (IsMade (counters w.sites)) su
        made_now k o b su (inr h) = j.answers.made k o b su h
        made_now k o b su (inl (e, f, g, h)) = rw h thread_made.1

  -- ---- another site is asked

  module _ (limit : ℕ) (a : Asking) (asks : Asks p (eqs w.sites i) st a) (far : server a ≢ i) (so : is_asking (mode.WaitsFor (awaited a)) ≡ true) where
    abbrev bundle_away : List Equation
    bundle_away = bundle_of limit s.equations (request a n i [])

    abbrev d_away : Transition
    d_away = with_messages (with_asking n st (awaited a) s) (sent_to (server a) (request a n i bundle_away) ∷ [])

    abbrev v_away : World
    v_away = after_transition w i d_away

    row_away : IsAskingRow s n st (awaited a) d_away
    row_away = record {
      threads = refl;
      equations = refl;
      records = refl;
      counters = refl;
      still = record { cell_records = refl; managers = refl; site = refl; silent = (of_none (request a n i bundle_away) (request_not a n i bundle_away), tt) };
      ports = refl;
      ended = refl;
      picks = refl;
      lines = refl;
    }

    told_away : Each (Contains c.equations) bundle_away
    told_away = each_more s.equations c.equations known bundle_away (bundle_known limit s.equations (request a n i []))

    may_away : MaySend p (eqs w.sites) (records w.sites) (threads (shown (put w.sites i d_away.site) u)) (counters w.sites) c.equations d_away.sent
    may_away = keepers_may p (eqs w.sites) (records w.sites) (threads (shown (put w.sites i d_away.site) u)) (counters w.sites) c.equations (server a) (request a n i bundle_away) (request_not a n i bundle_away)
        (request_bundle (Contains c.equations) a n i bundle_away told_away)
        (request_names (IsMade (counters w.sites)) (inl refl) p s.equations st made thread_made.1 a n i bundle_away asks thread_made.0 (each_part (EachOfEquation (IsMade (counters w.sites))) c.equations j.reached.parts.centred.all.0 bundle_away told_away))

    homes_same : ◌≡◌ {A = Homes} (homes v_away.sites) (homes w.sites)
    homes_same = refl_homes
      where
        refl_homes : ◌≡◌ {A = Homes} (homes v_away.sites) (homes w.sites)
        refl_homes = field_kept (λ (t : Site). t.homes) w.sites i d_away.site refl

    abbrev early_away : CellName → List EarlyRequest
    early_away = early_at (homes w.sites)

    abbrev letter_away : ℕ → ℕ → Msg → Type 0
    letter_away = IsLetter w.sent (server a) (request a n i bundle_away)

    turned_away : Turned w.mail v_away.mail (λ k. ⊥) letter_away
    turned_away = sends w.mail w.sent (server a) (request a n i bundle_away)

    asking_away : AskingMatch p (eqs v_away.sites) (IsAsking (threads v_away.sites)) (IsClaim v_away.mail (early_at (homes v_away.sites))) u
    asking_away = subst (λ (f : Homes). AskingMatch p (eqs v_away.sites) (IsAsking (threads v_away.sites)) (IsClaim v_away.mail (early_at f)) u) (sym homes_same)
        (asks_claims p i real w ks j n st at (awaited a) so d_away row_away may_away (Asked w.sent (server a) a n i) (IsClaim v_away.mail early_away) refl (refl, refl, refl)
        (refl, λ e. far (sym e), st, own_waits p i real w ks j n st at (awaited a) so d_away row_away may_away, asks)
        (λ y h. from y (claims_from w.mail v_away.mail early_away (λ k. ⊥) letter_away turned_away y h))
        (λ y h. claims_kept w.mail v_away.mail early_away (λ k. ⊥) letter_away turned_away y h (never_lost y))
        (bundle_away, turned_away.new w.sent (server a) (request a n i bundle_away) (refl, refl, refl)))
      where
        from : (y : Claim) → (IsClaim w.mail early_away y × (IsLost (λ k. ⊥) y → ⊥)) ⊎ IsNewClaim letter_away y → IsClaim w.mail early_away y ⊎ (y ≡ Asked w.sent (server a) a n i)
        from y (inl h) = inl h.0
        from y (inr h) = inr (request_claims w.sent (server a) a n i bundle_away y h)

    told_from : (k to : ℕ) (b : CellName) (z : VarName) → IsTold v_away.mail k to b z → IsTold w.mail k to b z
    told_from k to b z (es, h) = go (turned_away.from k to (msg.CellMake b z es) h)
      where
        go : (IsOnItsWay w.mail k to (msg.CellMake b z es) × (⊥ → ⊥)) ⊎ letter_away k to (msg.CellMake b z es) → IsTold w.mail k to b z
        go (inl q) = (es, q.0)
        go (inr q) = absurd (request_tells a n i bundle_away b z es (sym q.2))

    told_old : (k to : ℕ) (b : CellName) (z : VarName) → IsTold w.mail k to b z → IsTold v_away.mail k to b z
    told_old k to b z (es, h) = (es, turned_away.kept k to (msg.CellMake b z es) h (λ q. q))

    stays_wide : (k : ℕ) (y : VarName) → IsHere (records w.sites k) y → IsHere (records v_away.sites k) y
    stays_wide k y h = subst (λ (r : ℕ → Records). IsHere (r k) y) (sym (field_kept (λ (t : Site). t.records) w.sites i d_away.site refl)) h

    -- it has to do with no mobile cell
    pub away_leaves : Leaves p s c d_away c
    away_leaves = leaves_none p s c d_away row_away.still refl

    -- it asks once
    pub away_asked : AsksOne s d_away n
    away_asked = record {
      picks = refl;
      tells = (asks_for_one (server a) a n i bundle_away).tells;
      one = (asks_for_one (server a) a n i bundle_away).one;
      none = (asks_for_one (server a) a n i bundle_away).none;
      waits = λ b m su h. others_wait s.threads n st (st, mode.WaitsFor (awaited a)) at b m su h;
      now = (awaited a, st, with_here equal_thread same_thread_decides s.threads n (st, mode.WaitsFor (awaited a)) (st, mode.Runs) at, so, λ e. far (sym (keeper_is a) ∙ e ∙ number));
    }
      where
        keeper_is : (b : Asking) → keeper_of (awaited b) ≡ server b
        keeper_is (EndOf q) = refl
        keeper_is (ContentOf b new) = refl

    -- one request more is outstanding
    pub away_balances : (R : ℕ → ThreadName → Type 0) → R i n → Balances p R none_came w.sites (put w.sites i d_away.site) c d_away
    away_balances R goes = asks_balances p R w.sites (put w.sites i d_away.site) c d_away a n i (server a) bundle_away far goes (λ b. ap (λ (f : Homes). early_at f b) homes_same) refl refl

    pub away_joined : Joined p v_away (ks ++ d_away.picks)
    away_joined = asked_joined (awaited a) so d_away row_away may_away asking_away
        (same_homes (homes w.sites) (homes v_away.sites) (records w.sites) (records v_away.sites) w.mail v_away.mail c.cells homes_same stays_wide told_from told_old j.answers.contents)
        (early_same (homes w.sites) (homes v_away.sites) (records w.sites) (records v_away.sites) homes_same stays_wide j.answers.early)

    -- the row, as the site does it
    pub away_row : asking_row limit n st (awaited a) (server a) (request a n s.records.site []) s ≡ d_away
    away_row = ap (λ (k : ℕ). with_messages (with_asking n st (awaited a) s) (with_own_bundle limit s.equations (sent_to (server a) (request a n k [])) ∷ [])) number
        ∙ ap (λ (o : Sent). with_messages (with_asking n st (awaited a) s) (o ∷ [])) (request_filled limit s.equations (server a) a n i)

  -- ---- its own home did not hear of the cell

  module _ (b : CellName) (new : VarName) (asks : Asks p (eqs w.sites i) st (ContentOf b new)) (home : b.at ≡ i) (none : (home_record s b).content ≡ None) where
    abbrev r : EarlyRequest
    r = record { thread = n; asking = i; new = new }

    abbrev d_early : Transition
    d_early = without_output (with_early b r (with_asking n st (Cell b) s))

    abbrev v_early : World
    v_early = after_transition w i d_early

    so_early : is_asking (mode.WaitsFor (Cell b)) ≡ true
    so_early = away_asks b (λ e. real (sym home ∙ e))

    row_early : IsAskingRow s n st (Cell b) d_early
    row_early = record {
      threads = refl;
      equations = refl;
      records = refl;
      counters = refl;
      still = record { cell_records = refl; managers = refl; site = refl; silent = tt };
      ports = refl;
      ended = refl;
      picks = refl;
      lines = refl;
    }

    may_early : MaySend p (eqs w.sites) (records w.sites) (threads (shown (put w.sites i d_early.site) u)) (counters w.sites) c.equations d_early.sent
    may_early = none_sent p (eqs w.sites) (records w.sites) (threads (shown (put w.sites i d_early.site) u)) (counters w.sites) c.equations

    abbrev listed_early : CellName → List EarlyRequest
    listed_early = early_at (homes w.sites)

    abbrev now_early : CellName → List EarlyRequest
    now_early = early_at (homes v_early.sites)

    abbrev kept : HomeRecord
    kept = record { content = (home_record s b).content; early = (home_record s b).early ++ r ∷ [] }

    moved_early : Rehomed (homes w.sites) (homes v_early.sites) b kept
    moved_early = rehomed w.sites i d_early.site b kept home refl

    at_home : (home_record s b).early ≡ listed_early b
    at_home = ap (λ (k : ℕ). (home_record (w.sites k) b).early) (sym home)

    content_home : (home_record s b).content ≡ content_at (homes w.sites) b
    content_home = ap (λ (k : ℕ). (home_record (w.sites k) b).content) (sym home)

    grown : now_early b ≡ listed_early b ++ r ∷ []
    grown = early_own (homes w.sites) (homes v_early.sites) b kept moved_early ∙ ap (λ (rs : List EarlyRequest). rs ++ r ∷ []) at_home

    others : (e : CellName) → b ≢ e → now_early e ≡ listed_early e
    others e other = early_other (homes w.sites) (homes v_early.sites) b kept moved_early e other

    mail_same : ◌≡◌ {A = Mail} v_early.mail w.mail
    mail_same = append-nil w.mail

    -- who has a claim asks already, so it is no other request of this thread
    fresh_one : (q : EarlyRequest) → Contains (listed_early b) q → q ≢ r
    fresh_one q h e =
        let g = j.answers.asking.grounded (Listed b q) h in
        nobody_asks p i real w ks j n st at q.asking (Cell b) g.0 (subst (λ (o : ThreadName). IsAsking (threads w.sites) q.asking o (Cell b) g.0) (ap (λ (z : EarlyRequest). z.thread) e) g.1)

    asking_early : AskingMatch p (eqs v_early.sites) (IsAsking (threads v_early.sites)) (IsClaim v_early.mail now_early) u
    asking_early = subst (λ (mail : Mail). AskingMatch p (eqs v_early.sites) (IsAsking (threads v_early.sites)) (IsClaim mail now_early) u) (sym mail_same)
        (asks_claims p i real w ks j n st at (Cell b) so_early d_early row_early may_early (Listed b r) (IsClaim w.mail now_early) refl (refl, refl, refl)
        (st, own_waits p i real w ks j n st at (Cell b) so_early d_early row_early may_early, asks)
        (λ y h. appended_from w.mail listed_early now_early b r others grown y h)
        (λ y h. appended_old w.mail listed_early now_early b r others grown y h)
        (appended_new w.mail listed_early now_early b r others grown))

    records_are : ◌≡◌ {A = ℕ → Records} (records v_early.sites) (records w.sites)
    records_are = field_kept (λ (t : Site). t.records) w.sites i d_early.site refl

    wide : (k : ℕ) (y : VarName) → IsHere (records w.sites k) y → IsHere (records v_early.sites k) y
    wide k y h = subst (λ (f : ℕ → Records). IsHere (f k) y) (sym records_are) h

    new_here : IsHere (records w.sites i) new
    new_here = out (content_names (here_at (records w.sites) i) (inl (inl refl)) p s.equations st (j.reached.parts.homes i).equations ((j.reached.parts.homes i).stacks n (st, mode.Runs) found) b new asks).1
      where
        out : here_at (records w.sites) i (name.Var new) → IsHere (records w.sites i) new
        out (inl h) = h
        out (inr e) = absurd (real e)

    is_early : AreEarly (homes v_early.sites) (records v_early.sites)
    is_early e q h = listed (appended_from w.mail listed_early now_early b r others grown (Listed e q) h)
      where
        content_stays : (e : CellName) → content_at (homes v_early.sites) e ≡ content_at (homes w.sites) e
        content_stays e = go (cell_cases b e)
          where
            go : (b ≡ e) ⊎ (b ≢ e) → content_at (homes v_early.sites) e ≡ content_at (homes w.sites) e
            go (inl same) = subst (λ (y : CellName). content_at (homes v_early.sites) y ≡ content_at (homes w.sites) y) same (content_own (homes w.sites) (homes v_early.sites) b kept moved_early ∙ content_home)
            go (inr other) = content_other (homes w.sites) (homes v_early.sites) b kept moved_early e other

        listed : Contains (listed_early e) q ⊎ (Listed e q ≡ Listed b r) → (e.at ≢ 0) × (content_at (homes v_early.sites) e ≡ None) × IsHere (records v_early.sites e.at) q.new
        listed (inl g) = let z = j.answers.early e q g in (z.0, content_stays e ∙ z.1, wide e.at q.new z.2)
        listed (inr same) =
            let cell : e ≡ b = cc in
            let request_is : q ≡ r = cc in
            rw (cell, request_is) (λ z. real (sym home ∙ z), content_stays b ∙ sym content_home ∙ none, wide b.at new (subst (λ (k : ℕ). IsHere (records w.sites k) new) (sym home) new_here))

    -- it has to do with no mobile cell
    pub early_leaves : Leaves p s c d_early c
    early_leaves = leaves_none p s c d_early row_early.still refl

    -- it asks nobody
    pub early_owes : Owes p s c d_early [] Nobody
    early_owes = owes_none p s c d_early Nobody tt (λ a asks far m back su h. others_wait s.threads n st (st, mode.WaitsFor (Cell b)) at a m su h)

    -- and no other site is asked
    pub own_early_balances : (R : ℕ → ThreadName → Type 0) → R i n → Balances p R none_came w.sites (put w.sites i d_early.site) c d_early
    own_early_balances R goes = early_balances p R w.sites (put w.sites i d_early.site) c d_early b r none_came goes grown others (λ a other th. refl) (λ th. here th (threads_decide th n)) refl refl
      where
        here : (th : ThreadName) → (th ≡ n) ⊎ (th ≢ n) → R b.at th ⊎ (0 ≡ cond {A = ℕ} (equal_thread th n) 1 0)
        here th (inl e) = inl (subst (λ (l : ℕ). R l th) (sym home) (subst (R i) (sym e) goes))
        here th (inr other) = inr (go (equal_thread th n) refl)
          where
            go : (x : Bool) → equal_thread th n ≡ x → 0 ≡ cond {A = ℕ} x 1 0
            go true q = absurd (other ((same_thread_decides th n).0 q))
            go false q = refl

    pub early_joined : Joined p v_early (ks ++ d_early.picks)
    early_joined = asked_joined (Cell b) so_early d_early row_early may_early asking_early
        (kept_early (homes w.sites) (homes v_early.sites) (records w.sites) (records v_early.sites) w.mail v_early.mail c.cells b (listed_early b ++ r ∷ []) j.answers.contents
        (subst (λ (h : HomeRecord). Rehomed (homes w.sites) (homes v_early.sites) b h) (rw (at_home, content_home) refl) moved_early) wide
        (λ k to e z h. subst (λ (mail : Mail). IsTold mail k to e z) mail_same h) (λ k to e z h. subst (λ (mail : Mail). IsTold mail k to e z) (sym mail_same) h)
        (distinct_end (listed_early b) r (j.answers.contents.lists b) fresh_one))
        is_early

    pub early_row : early_request_row b new n st s ≡ d_early
    early_row = ap (λ (k : ℕ). without_output (with_early b (record { thread = n; asking = k; new = new }) (with_asking n st (Cell b) s))) number
