-- A request comes to the home of a stationary cell, and the home hears of the cell.
use Rattle.std.proofs.Common.{◌≡◌, ◌∙◌, sym, ap, refl, subst, ℕ, List, [], ◌∷◌, ◌++◌, ◌⊎◌, inl, inr, Some, None, arith, ◌+◌, cond}
use Rattle.std.specs.Prelude.{Option, Contains, ◌≢◌, ◌==◌}
use Rattle.std.specs.List.{sum_by}
use Rattle.std.proofs.lemmas.List.Sums.{sum_by-cons}
use Rattle.world_model.proofs.MailLemmas.{sent_to}
use Rattle.tree_node.specs.declared.names.VarName.{VarName}
use Rattle.tree_node.specs.declared.names.CellName.{CellName}
use Rattle.tree_node.specs.declared.names.PortName.{PortName}
use Rattle.tree_node.specs.declared.names.ThreadName.{ThreadName}
use Rattle.tree_node.specs.declared.pick.Pick.{Pick}
use Rattle.tree_node.specs.Assoc.{value_of}
use Rattle.tree_node.specs.Each.{AreDistinct}
use Rattle.tree_node.specs.Goal.{equal_cell}
use Rattle.tree_node.specs.State.{Stack, State, equal_thread}
use Rattle.tree_node.specs.Store.{Store, Equation}
use Rattle.tree_node.proofs.ClassLemmas.{Contains-head, Contains-cons_cases}
use Rattle.kernel_syntax.specs.declared.stmt.Stmt.{Stmt}
use Rattle.site_message.specs.declared.message.Msg.TheVariants as msg
use Rattle.oz_model.proofs.KindLemmas.{cell_cases, cell_same, cells_differ}
use Rattle.bind_protocol.specs.Records.{Records}
use Rattle.thread_roster.specs.declared.mode.Awaited.{Awaited}
use Rattle.thread_roster.specs.declared.mode.Awaited.TheVariants.{Cell}
use Rattle.thread_roster.specs.declared.mode.Mode.TheVariants as mode
use Rattle.site_model.specs.Requests.{with_early, serve_request, cell_ask_row, cell_make_row}
use Rattle.site_model.specs.Site.{Site, Threads, HomeRecord, EarlyRequest, home_record}
use Rattle.site_model.specs.Transition.{Transition, without_output}
use Rattle.world_model.specs.Claims.{ContentOf, Asks, Waiting, Claim, Asked, Answered, Listed, IsClaim, IsAsking, FitsClaim, AskingMatch, home_in}
use Rattle.world_model.specs.Keepers.{PortsMatch, HomesMatch, AreEarly, IsTold, homes, ports, content_at, early_at}
use Rattle.world_model.specs.Names.{IsHere}
use Rattle.world_model.specs.World.{World, Mail, IsOnItsWay, put, eqs, records, threads, after_transition, after_receipt}
use Rattle.world_model.proofs.MailLemmas.{nothing, gone}
use Rattle.world_model.proofs.PutLemmas.{at_all, at_here, field_kept}
use Rattle.world_answers.specs.Joined.{Joined}
use Rattle.world_answers.proofs.AnswerLemmas.{asking_one}
use Rattle.world_answers.proofs.AskJoinLemmas.{ports_same}
use Rattle.world_answers.proofs.ClaimLemmas.{own_found, turns_away}
use Rattle.world_answers.proofs.HomeLemmas.{Rehomed, rehomed, kept_at, kept_early, kept_exchange, content_own, content_other, early_own, early_other, distinct_end}
use Rattle.world_answers.proofs.HomeServeLemmas.{Serving, ServedOne, served_one}
use Rattle.world_answers.proofs.LeaveLemmas.{Leaves, leaves_none}
use Rattle.world_answers.proofs.OwedLemmas.{Owes, Nobody, owes_none}
use Rattle.world_answers.specs.Balance.{early_for}
use Rattle.world_answers.proofs.BalanceLemmas.{Balances, came_of}
use Rattle.world_answers.proofs.BalanceRowLemmas.{served_balances, early_balances}
use Rattle.world_answers.proofs.PackLemmas.{whole, came}
use Rattle.world_answers.proofs.SpotLemmas.{relisted, IsLost, IsNewClaim, comes, claims_from, claims_kept, lost_request, lost_told, request_tells, appended_from, appended_old, appended_new}
use Rattle.world_answers.proofs.HomeEarlyLemmas.{serving_kept, kept_told_from, kept_told_old, ServedAll, shorter, shorter_here, shorter_there, served_all}

-- the requests that are kept are these
subst_claims : (p : List Stmt) (es : ℕ → Store) (waits : Waiting) (mail : Mail) (early now : CellName → List EarlyRequest) (t : Threads) → ((y : CellName) → now y ≡ early y) → AskingMatch p es waits (IsClaim mail early) t → AskingMatch p es waits (IsClaim mail now) t
subst_claims p es waits mail early now t same m = record {
  stands = λ l n a st h. (let r = m.stands l n a st h in (r.0, r.1, r.2, relisted mail now early (λ y. sym (same y)) r.2 r.3, r.4, r.5));
  known = m.known;
  alone = m.alone;
  grounded = λ y h. m.grounded y (relisted mail early now same y h);
  once = λ y z h g q. m.once y z (relisted mail early now same y h) (relisted mail early now same z g) q;
}

-- ---- the home hears of the cell

module _ (p : List Stmt) (limit i : ℕ) (real : i ≢ 0) (w : World) (ks : List Pick) (j : Joined p w ks) (k : ℕ) (b : CellName) (x : VarName) (bundle : List Equation) (at : IsOnItsWay w.mail k i (msg.CellMake b x bundle)) (known : IsHere (records w.sites i) x) where
  abbrev c_make : State
  c_make = j.reached.centre

  abbrev early_make : CellName → List EarlyRequest
  early_make = early_at (homes w.sites)

  abbrev less_make : World
  less_make = after_receipt (Some k) w

  tells : (i ≡ b.at) × (b.at ≢ 0) × (content_at (homes w.sites) b ≡ None) × (value_of equal_cell c_make.cells b ≡ Some x)
  tells = j.answers.contents.makes k i b x (bundle, at)

  start_make : Serving p less_make ks c_make early_make
  start_make = record {
    transit = j.transit;
    reached = came p w ks j.transit j.reached k i (msg.CellMake b x bundle) (λ h. h) at;
    asking = asking;
    named = j.answers.named;
    made = j.answers.made;
    once = j.once;
  }
    where
      old : (y : Claim) → IsClaim w.mail early_make y → IsClaim less_make.mail early_make y
      old y h = claims_kept w.mail less_make.mail early_make (λ l. l ≡ k) (λ l a m. ⊥) (comes w.mail k) y h (lost_told w.mail early_make j.reached.numbers.once k i b x bundle at y h)

      from : (y : Claim) → IsClaim less_make.mail early_make y → IsClaim w.mail early_make y
      from y h = go (claims_from w.mail less_make.mail early_make (λ l. l ≡ k) (λ l a m. ⊥) (comes w.mail k) y h)
        where
          never : (z : Claim) → IsNewClaim (λ l a m. ⊥) z → ⊥
          never (Asked l a q m f) (es, g) = g
          never (Answered l a m q) (es, g) = g
          never (Listed q r) g = g

          go : (IsClaim w.mail early_make y × (IsLost (λ l. l ≡ k) y → ⊥)) ⊎ IsNewClaim (λ l a m. ⊥) y → IsClaim w.mail early_make y
          go (inl g) = g.0
          go (inr g) = absurd (never y g)

      asking : AskingMatch p (eqs w.sites) (IsAsking (threads w.sites)) (IsClaim less_make.mail early_make) j.transit
      asking = record {
        stands = λ l n a st h. (let r = j.answers.asking.stands l n a st h in (r.0, r.1, r.2, old r.2 r.3, r.4, r.5));
        known = j.answers.asking.known;
        alone = j.answers.asking.alone;
        grounded = λ y h. j.answers.asking.grounded y (from y h);
        once = λ y z h g q. j.answers.asking.once y z (from y h) (from z g) q;
      }

  early_is : (home_record (w.sites i) b).early ≡ early_make b
  early_is = ap (λ (l : ℕ). (home_in (homes w.sites l) b).early) tells.0

  abbrev d_make : Transition
  d_make = cell_make_row p limit b x (w.sites i)

  pub served : ServedAll p less_make ks i d_make c_make b early_make (home_record (w.sites i) b).early
  served = served_all p limit i real b (sym tells.0) (home_record (w.sites i) b).early less_make ks early_make c_make start_make x (sym early_is) (subst AreDistinct (sym early_is) (j.answers.contents.lists b)) tells.3 known
      (λ r h. subst (λ (l : ℕ). IsHere (records w.sites l) r.new) (sym tells.0) (j.answers.early b r (subst (λ (rs : List EarlyRequest). Contains rs r) early_is h)).2)

  abbrev v_make : World
  v_make = after_transition less_make i d_make

  abbrev z_make : State
  z_make = served.centre

  wide_make : (l : ℕ) (y : VarName) → IsHere (records w.sites l) y → IsHere (records v_make.sites l) y
  wide_make l y h = subst (λ (f : ℕ → Records). IsHere (f l) y) (sym (field_kept (λ (q : Site). q.records) w.sites i d_make.site served.records)) h

  moved_make : Rehomed (homes w.sites) (homes v_make.sites) b (record { content = Some served.content; early = [] })
  moved_make = record {
    own = ap (λ (l : ℕ). home_in (homes v_make.sites l) b) (sym tells.0) ∙ ap (λ (y : Site). home_in y.homes b) (at_here w.sites i d_make.site) ∙ served.home;
    others = at_all w.sites i d_make.site (λ l (y : Site). (q : CellName) → (l ≡ b.at → b ≢ q) → home_in y.homes q ≡ home_in (homes w.sites l) q) (λ q other. served.homes q (other tells.0)) (λ l far q other. refl);
  }

  early_now : (y : CellName) → early_at (homes v_make.sites) y ≡ served.later y
  early_now y = go (cell_cases b y)
    where
      go : (b ≡ y) ⊎ (b ≢ y) → early_at (homes v_make.sites) y ≡ served.later y
      go (inl same) = subst (λ (q : CellName). early_at (homes v_make.sites) q ≡ served.later q) same (early_own (homes w.sites) (homes v_make.sites) b _ moved_make ∙ sym served.empty)
      go (inr other) = early_other (homes w.sites) (homes v_make.sites) b _ moved_make y other ∙ sym (served.others y other)

  content_known : IsHere (records v_make.sites b.at) served.content
  content_known = wide_make b.at served.content (subst (λ (l : ℕ). IsHere (records w.sites l) served.content) tells.0 served.known)

  told_from_make : (l a : ℕ) (y : CellName) (u : VarName) → IsTold v_make.mail l a y u → IsTold w.mail l a y u × (l ≢ k)
  told_from_make l a y u h =
      let q = served.told_from l a y u h in
      let g = (gone k w.mail).old l a (msg.CellMake y u q.0) q.1 in ((q.0, g.0), g.1)

  told_old_make : (l a : ℕ) (y : CellName) (u : VarName) → IsTold w.mail l a y u → b ≢ y → IsTold v_make.mail l a y u
  told_old_make l a y u (es, h) other = served.told_old l a y u (
    es,
    (gone k w.mail).kept l a (msg.CellMake y u es) h
        (λ e. let same : msg.CellMake y u es ≡ msg.CellMake b x bundle = (j.reached.numbers.once k a i (msg.CellMake y u es) (msg.CellMake b x bundle) (subst (λ (o : ℕ). IsOnItsWay w.mail o a (msg.CellMake y u es)) e h) at).1 in let cell : y ≡ b = cc in other (sym cell)),
  )

  contents_make : HomesMatch (homes v_make.sites) (records v_make.sites) v_make.mail z_make.cells
  contents_make = kept_at (homes w.sites) (homes v_make.sites) (records w.sites) (records v_make.sites) w.mail v_make.mail c_make.cells z_make.cells b (record { content = Some served.content; early = [] }) j.answers.contents moved_make wide_make served.far
      (λ l a y u other h. (told_from_make l a y u h).0) (λ l a y u other h. told_old_make l a y u h other)
      (λ u far h. inl (sym served.held ∙ h))
      (λ u h. let same : served.content ≡ u = some_same served.content u h in (tells.1, served.held ∙ h, subst (λ (y : VarName). IsHere (records v_make.sites b.at) y) same content_known))
      (λ l a u h. let q = told_from_make l a b u h in absurd (q.1 (j.answers.contents.once l k a i b u x q.0 (bundle, at))))
      (λ l m a e u y h g. let q = told_from_make l a b u h in absurd (q.1 (j.answers.contents.once l k a i b u x q.0 (bundle, at)))) tt
    where
      some_same : (y u : VarName) → Some y ≡ Some u → y ≡ u
      some_same y u h = cc

  -- it has to do with no mobile cell
  pub make_leaves : Leaves p (w.sites i) c_make d_make z_make
  make_leaves = served.leaves

  -- it answers those that it serves
  pub make_owes : Owes p (w.sites i) c_make d_make served.served Nobody
  make_owes = served.owes

  -- its exchanges balance the requests that it kept
  pub make_balances : (R : ℕ → ThreadName → Type 0) → ((r : EarlyRequest) → Contains (early_make b) r → R r.asking r.thread) → Balances p R (came_of (sent_to i (msg.CellMake b x bundle))) w.sites (put w.sites i d_make.site) c_make d_make
  make_balances R goes = served_balances p R w.sites (put w.sites i d_make.site) c_make d_make b i (sym tells.0) tells.1 (home_record (w.sites i) b).early (came_of (sent_to i (msg.CellMake b x bundle)))
      (λ r h. goes r (subst (λ (rs : List EarlyRequest). Contains rs r) early_is h)) here (λ a other. early_now a ∙ served.others a other) (λ a other th. refl)
      (λ r h. absurd (nothing r (subst (λ (rs : List EarlyRequest). Contains rs r) gone_all h))) served.exchanged (let none = served.owes.asks in omega (arith, none)) served.told
    where
      gone_all : early_at (homes v_make.sites) b ≡ []
      gone_all = early_now b ∙ served.empty

      here : (th : ThreadName) → early_for th (early_at (homes v_make.sites) b) + early_for th (home_record (w.sites i) b).early ≡ early_for th (early_make b) + 0
      here th = let x : early_for th (early_at (homes v_make.sites) b) ≡ 0 = ap (early_for th) gone_all in let y : early_for th (home_record (w.sites i) b).early ≡ early_for th (early_make b) = ap (early_for th) early_is in omega (arith, x, y)

  pub make_joined : Joined p v_make (ks ++ d_make.picks)
  make_joined = record {
    transit = served.serving.transit;
    reached = whole served.serving.reached;
    answers = record {
      asking = subst_claims p (eqs v_make.sites) (IsAsking (threads v_make.sites)) v_make.mail served.later (early_at (homes v_make.sites)) served.serving.transit early_now served.serving.asking;
      named = served.serving.named;
      made = served.serving.made;
      ends = subst (λ (es : List (PortName × VarName)). PortsMatch (ports v_make.sites) (records v_make.sites) es) (sym served.machine_ports)
          (ports_same (ports w.sites) (ports v_make.sites) (records w.sites) (records v_make.sites) c_make.ports (field_kept (λ (y : Site). y.ports) w.sites i d_make.site served.own_ports) wide_make j.answers.ends);
      contents = contents_make;
      early = is_early;
    };
    once = served.serving.once;
  }
    where
      is_early : AreEarly (homes v_make.sites) (records v_make.sites)
      is_early y r h = go (cell_cases b y)
        where
          go : (b ≡ y) ⊎ (b ≢ y) → (y.at ≢ 0) × (content_at (homes v_make.sites) y ≡ None) × IsHere (records v_make.sites y.at) r.new
          go (inl same) = absurd (nothing r (subst (λ (rs : List EarlyRequest). Contains rs r) (early_own (homes w.sites) (homes v_make.sites) b _ moved_make) (subst (λ (q : CellName). Contains (early_at (homes v_make.sites) q) r) (sym same) h)))
          go (inr other) =
              let q = j.answers.early y r (subst (λ (rs : List EarlyRequest). Contains rs r) (early_other (homes w.sites) (homes v_make.sites) b _ moved_make y other) h) in
              (q.0, content_other (homes w.sites) (homes v_make.sites) b _ moved_make y other ∙ q.1, wide_make y.at r.new q.2)

-- ---- a request comes to the home

module _ (p : List Stmt) (limit i : ℕ) (real : i ≢ 0) (w : World) (ks : List Pick) (j : Joined p w ks) (k : ℕ) (b : CellName) (n : ThreadName) (o : ℕ) (new : VarName) (bundle : List Equation) (at : IsOnItsWay w.mail k i (msg.CellAsk b n o new bundle)) (known : IsHere (records w.sites i) new) where
  abbrev c_ask : State
  c_ask = j.reached.centre

  abbrev early_ask : CellName → List EarlyRequest
  early_ask = early_at (homes w.sites)

  abbrev rq : EarlyRequest
  rq = record { thread = n; asking = o; new = new }

  abbrev less_ask : World
  less_ask = after_receipt (Some k) w

  claim_at : IsClaim w.mail early_ask (Asked k i (ContentOf b new) n o)
  claim_at = (bundle, at)

  ground : (i ≡ b.at) × (o ≢ i) × (st : Stack) × IsAsking (threads w.sites) o n (Cell b) st × Asks p (eqs w.sites o) st (ContentOf b new)
  ground = j.answers.asking.grounded (Asked k i (ContentOf b new) n o) claim_at

  one : (a : Awaited) (su : Stack) → IsAsking (threads w.sites) o n a su → (a ≡ Cell b) × (su ≡ ground.2)
  one a su h = asking_one (threads w.sites) o n (Cell b) ground.2 ground.3 a su h

  found : (z : Stack) × (value_of equal_thread j.transit n ≡ Some (z, mode.Runs)) × FitsClaim p (eqs w.sites o) o (Cell b) ground.2 z (Asked k i (ContentOf b new) n o)
  found = own_found p (eqs w.sites) (IsAsking (threads w.sites)) (IsClaim w.mail early_ask) j.transit j.answers.asking o n (Cell b) ground.2 (Asked k i (ContentOf b new) n o) one ground.3 claim_at refl

  abbrev longer : CellName → List EarlyRequest
  longer = shorter early_ask b (early_ask b ++ rq ∷ [])

  longer_here : longer b ≡ early_ask b ++ rq ∷ []
  longer_here = shorter_here early_ask b (early_ask b ++ rq ∷ [])

  longer_there : (y : CellName) → b ≢ y → longer y ≡ early_ask y
  longer_there y other = shorter_there early_ask b (early_ask b ++ rq ∷ []) y other

  -- the home has the request
  listed : Serving p less_ask ks c_ask longer
  listed = record {
    transit = j.transit;
    reached = came p w ks j.transit j.reached k i (msg.CellAsk b n o new bundle) (λ h. h) at;
    asking = turns_away p (eqs w.sites) (IsAsking (threads w.sites)) (IsClaim w.mail early_ask) j.transit j.answers.asking o n (Cell b) ground.2 (Asked k i (ContentOf b new) n o) one ground.3 claim_at refl
        (Listed b rq) found.0 (IsClaim less_ask.mail longer) j.transit refl found.1 (λ m other. refl) (refl, refl, found.2.2) (ground.2, ground.3, ground.4) from old
        (appended_new less_ask.mail early_ask longer b rq longer_there longer_here);
    named = j.answers.named;
    made = j.answers.made;
    once = j.once;
  }
    where
      from : (y : Claim) → IsClaim less_ask.mail longer y → (IsClaim w.mail early_ask y × (y ≢ Asked k i (ContentOf b new) n o)) ⊎ (y ≡ Listed b rq)
      from y h = go (appended_from less_ask.mail early_ask longer b rq longer_there longer_here y h)
        where
          never : (z : Claim) → IsNewClaim (λ l a m. ⊥) z → ⊥
          never (Asked l a q m f) (es, g) = g
          never (Answered l a m q) (es, g) = g
          never (Listed q r) g = g

          back : (IsClaim w.mail early_ask y × (IsLost (λ l. l ≡ k) y → ⊥)) ⊎ IsNewClaim (λ l a m. ⊥) y → IsClaim w.mail early_ask y × (y ≢ Asked k i (ContentOf b new) n o)
          back (inl g) = (g.0, λ e. g.1 (subst (IsLost (λ l. l ≡ k)) (sym e) refl))
          back (inr g) = absurd (never y g)

          go : IsClaim less_ask.mail early_ask y ⊎ (y ≡ Listed b rq) → (IsClaim w.mail early_ask y × (y ≢ Asked k i (ContentOf b new) n o)) ⊎ (y ≡ Listed b rq)
          go (inl g) = inl (back (claims_from w.mail less_ask.mail early_ask (λ l. l ≡ k) (λ l a m. ⊥) (comes w.mail k) y g))
          go (inr g) = inr g

      old : (y : Claim) → IsClaim w.mail early_ask y → y ≢ Asked k i (ContentOf b new) n o → IsClaim less_ask.mail longer y
      old y h other = appended_old less_ask.mail early_ask longer b rq longer_there longer_here y
          (claims_kept w.mail less_ask.mail early_ask (λ l. l ≡ k) (λ l a m. ⊥) (comes w.mail k) y h (lost_request w.mail early_ask j.reached.numbers.once k i (ContentOf b new) n o bundle at y h other))

  -- it is none that the home has
  fresh_one : (q : EarlyRequest) → Contains (early_ask b) q → q ≢ rq
  fresh_one q h e =
      let same : Listed b q ≡ Asked k i (ContentOf b new) n o = j.answers.asking.once (Listed b q) (Asked k i (ContentOf b new) n o) h claim_at (ap (λ (z : EarlyRequest). z.thread) e) in cc

  told_less_from : (l a : ℕ) (y : CellName) (u : VarName) → IsTold less_ask.mail l a y u → IsTold w.mail l a y u
  told_less_from l a y u (es, h) = (es, ((gone k w.mail).old l a (msg.CellMake y u es) h).0)

  told_less_old : (l a : ℕ) (y : CellName) (u : VarName) → IsTold w.mail l a y u → IsTold less_ask.mail l a y u
  told_less_old l a y u (es, h) = (
    es,
    (gone k w.mail).kept l a (msg.CellMake y u es) h
        (λ e. request_tells (ContentOf b new) n o bundle y u es (sym (j.reached.numbers.once k a i (msg.CellMake y u es) (msg.CellAsk b n o new bundle) (subst (λ (m : ℕ). IsOnItsWay w.mail m a (msg.CellMake y u es)) e h) at).1)),
  )

  home_is : (home_record (w.sites i) b) ≡ home_in (homes w.sites b.at) b
  home_is = ap (λ (l : ℕ). home_in (homes w.sites l) b) ground.0

  -- ---- the content is not here

  module _ (none : (home_record (w.sites i) b).content ≡ None) where
    abbrev kept_h : HomeRecord
    kept_h = record { content = (home_record (w.sites i) b).content; early = (home_record (w.sites i) b).early ++ rq ∷ [] }

    abbrev d_none : Transition
    d_none = without_output (with_early b rq (w.sites i))

    abbrev v_none : World
    v_none = after_transition less_ask i d_none

    keeping : Serving p v_none (ks ++ []) c_ask longer
    keeping = serving_kept p i real less_ask ks longer c_ask listed b kept_h

    moved_none : Rehomed (homes w.sites) (homes v_none.sites) b kept_h
    moved_none = rehomed w.sites i d_none.site b kept_h (sym ground.0) refl

    early_none : (y : CellName) → early_at (homes v_none.sites) y ≡ longer y
    early_none y = go (cell_cases b y)
      where
        go : (b ≡ y) ⊎ (b ≢ y) → early_at (homes v_none.sites) y ≡ longer y
        go (inl same) = subst (λ (q : CellName). early_at (homes v_none.sites) q ≡ longer q) same
            (early_own (homes w.sites) (homes v_none.sites) b kept_h moved_none ∙ ap (λ (h : HomeRecord). h.early ++ rq ∷ []) home_is ∙ sym longer_here)
        go (inr other) = early_other (homes w.sites) (homes v_none.sites) b kept_h moved_none y other ∙ sym (longer_there y other)

    wide_none : (l : ℕ) (y : VarName) → IsHere (records w.sites l) y → IsHere (records v_none.sites l) y
    wide_none l y h = subst (λ (f : ℕ → Records). IsHere (f l) y) (sym (field_kept (λ (q : Site). q.records) w.sites i d_none.site refl)) h

    content_none : content_at (homes w.sites) b ≡ None
    content_none = ap (λ (h : HomeRecord). h.content) (sym home_is) ∙ none

    pub kept_joined : Joined p v_none (ks ++ [])
    kept_joined = record {
      transit = keeping.transit;
      reached = whole keeping.reached;
      answers = record {
        asking = subst_claims p (eqs v_none.sites) (IsAsking (threads v_none.sites)) v_none.mail longer (early_at (homes v_none.sites)) keeping.transit early_none keeping.asking;
        named = keeping.named;
        made = keeping.made;
        ends = ports_same (ports w.sites) (ports v_none.sites) (records w.sites) (records v_none.sites) c_ask.ports (field_kept (λ (y : Site). y.ports) w.sites i d_none.site refl) wide_none j.answers.ends;
        contents = kept_early (homes w.sites) (homes v_none.sites) (records w.sites) (records v_none.sites) w.mail v_none.mail c_ask.cells b (early_ask b ++ rq ∷ []) j.answers.contents
            (subst (λ (h : HomeRecord). Rehomed (homes w.sites) (homes v_none.sites) b h) (ap (λ (h : HomeRecord). record { content = h.content; early = h.early ++ rq ∷ [] }) home_is) moved_none) wide_none
            (λ l a y u h. told_less_from l a y u (kept_told_from p i real less_ask ks longer c_ask listed b kept_h l a y u h)) (λ l a y u h. kept_told_old p i real less_ask ks longer c_ask listed b kept_h l a y u (told_less_old l a y u h))
            (distinct_end (early_ask b) rq (j.answers.contents.lists b) fresh_one);
        early = is_early;
      };
      once = keeping.once;
    }
      where
        is_early : AreEarly (homes v_none.sites) (records v_none.sites)
        is_early y q h = go (appended_from w.mail early_ask longer b rq longer_there longer_here (Listed y q) (subst (λ (rs : List EarlyRequest). Contains rs q) (early_none y) h))
          where
            stays : (y : CellName) → content_at (homes v_none.sites) y ≡ content_at (homes w.sites) y
            stays y = one_of (cell_cases b y)
              where
                one_of : (b ≡ y) ⊎ (b ≢ y) → content_at (homes v_none.sites) y ≡ content_at (homes w.sites) y
                one_of (inl same) = subst (λ (a : CellName). content_at (homes v_none.sites) a ≡ content_at (homes w.sites) a) same (content_own (homes w.sites) (homes v_none.sites) b kept_h moved_none ∙ ap (λ (z : HomeRecord). z.content) home_is)
                one_of (inr other) = content_other (homes w.sites) (homes v_none.sites) b kept_h moved_none y other

            go : Contains (early_ask y) q ⊎ (Listed y q ≡ Listed b rq) → (y.at ≢ 0) × (content_at (homes v_none.sites) y ≡ None) × IsHere (records v_none.sites y.at) q.new
            go (inl g) = let z = j.answers.early y q g in (z.0, stays y ∙ z.1, wide_none y.at q.new z.2)
            go (inr same) =
                let cell : y ≡ b = cc in
                let request_is : q ≡ rq = cc in
                rw (cell, request_is) (λ z. real (ground.0 ∙ z), stays b ∙ content_none, wide_none b.at new (subst (λ (l : ℕ). IsHere (records w.sites l) new) ground.0 known))

  -- ---- the content is here

  module _ (v : VarName) (has : (home_record (w.sites i) b).content ≡ Some v) where
    abbrev d_some : Transition
    d_some = serve_request p limit b rq v (w.sites i)

    abbrev v_some : World
    v_some = after_transition less_ask i d_some

    backed : (b.at ≡ i) × (i ≢ 0) × (value_of equal_cell c_ask.cells b ≡ Some v) × IsHere (records w.sites i) v
    backed = j.answers.contents.back i b v has

    content_some : content_at (homes w.sites) b ≡ Some v
    content_some = ap (λ (h : HomeRecord). h.content) (sym home_is) ∙ has

    none_early : early_ask b ≡ []
    none_early = go (early_ask b) refl
      where
        go : (rs : List EarlyRequest) → early_ask b ≡ rs → early_ask b ≡ []
        go [] e = e
        go (r ∷ rs) e =
            let q = j.answers.early b r (subst (λ (xs : List EarlyRequest). Contains xs r) (sym e) (Contains-head r rs)) in
            let both : ◌≡◌ {A = Option VarName} None (Some v) = sym q.1 ∙ content_some in absurd (cc)

    longer_one : longer b ≡ rq ∷ early_ask b
    longer_one = longer_here ∙ ap (λ (rs : List EarlyRequest). rs ++ rq ∷ []) none_early ∙ ap (λ (rs : List EarlyRequest). rq ∷ rs) (sym none_early)

    served_it : ServedOne p less_ask ks i d_some c_ask b rq early_ask
    served_it = served_one p limit i real less_ask ks longer early_ask c_ask listed b backed.0 rq longer_one (λ y other. sym (longer_there y other)) (subst AreDistinct (sym (longer_one ∙ ap (λ (rs : List EarlyRequest). rq ∷ rs) none_early)) (tt, tt)) v backed.2 backed.3

    moved_some : Rehomed (homes w.sites) (homes v_some.sites) b (record { content = Some new; early = (home_record (w.sites i) b).early })
    moved_some = rehomed w.sites i d_some.site b (record { content = Some new; early = (home_record (w.sites i) b).early }) backed.0 served_it.homes

    wide_some : (l : ℕ) (y : VarName) → IsHere (records w.sites l) y → IsHere (records v_some.sites l) y
    wide_some l y h = subst (λ (f : ℕ → Records). IsHere (f l) y) (sym (field_kept (λ (q : Site). q.records) w.sites i d_some.site served_it.records)) h

    early_some : (y : CellName) → early_at (homes v_some.sites) y ≡ early_ask y
    early_some y = go (cell_cases b y)
      where
        go : (b ≡ y) ⊎ (b ≢ y) → early_at (homes v_some.sites) y ≡ early_ask y
        go (inl same) = subst (λ (q : CellName). early_at (homes v_some.sites) q ≡ early_ask q) same (early_own (homes w.sites) (homes v_some.sites) b _ moved_some ∙ ap (λ (h : HomeRecord). h.early) home_is)
        go (inr other) = early_other (homes w.sites) (homes v_some.sites) b _ moved_some y other

    pub exchange_joined : Joined p v_some (ks ++ d_some.picks)
    exchange_joined = record {
      transit = served_it.serving.transit;
      reached = whole served_it.serving.reached;
      answers = record {
        asking = subst_claims p (eqs v_some.sites) (IsAsking (threads v_some.sites)) v_some.mail early_ask (early_at (homes v_some.sites)) served_it.serving.transit early_some served_it.serving.asking;
        named = served_it.serving.named;
        made = served_it.serving.made;
        ends = subst (λ (es : List (PortName × VarName)). PortsMatch (ports v_some.sites) (records v_some.sites) es) (sym served_it.ports)
            (ports_same (ports w.sites) (ports v_some.sites) (records w.sites) (records v_some.sites) c_ask.ports (field_kept (λ (y : Site). y.ports) w.sites i d_some.site served_it.own_ports) wide_some j.answers.ends);
        contents = subst (λ (cs : List (CellName × VarName)). HomesMatch (homes v_some.sites) (records v_some.sites) v_some.mail cs) (sym served_it.cells)
            (kept_exchange (homes w.sites) (homes v_some.sites) (records w.sites) (records v_some.sites) w.mail v_some.mail c_ask.cells b new v (home_record (w.sites i) b).early j.answers.contents moved_some wide_some
            (λ l a y u h. told_less_from l a y u (served_it.told_from l a y u h)) (λ l a y u h. served_it.told_old l a y u (told_less_old l a y u h)) content_some
            (wide_some b.at new (subst (λ (l : ℕ). IsHere (records w.sites l) new) ground.0 known)) (subst AreDistinct (ap (λ (h : HomeRecord). h.early) (sym home_is)) (j.answers.contents.lists b)));
        early = is_early;
      };
      once = served_it.serving.once;
    }
      where
        is_early : AreEarly (homes v_some.sites) (records v_some.sites)
        is_early y r h = go (cell_cases b y)
          where
            was : (y.at ≢ 0) × (content_at (homes w.sites) y ≡ None) × IsHere (records w.sites y.at) r.new
            was = j.answers.early y r (subst (λ (rs : List EarlyRequest). Contains rs r) (early_some y) h)

            go : (b ≡ y) ⊎ (b ≢ y) → (y.at ≢ 0) × (content_at (homes v_some.sites) y ≡ None) × IsHere (records v_some.sites y.at) r.new
            go (inr other) = (was.0, content_other (homes w.sites) (homes v_some.sites) b _ moved_some y other ∙ was.1, wide_some y.at r.new was.2)
            go (inl same) = let both : ◌≡◌ {A = Option VarName} None (Some v) = sym (subst (λ (q : CellName). content_at (homes w.sites) q ≡ None) (sym same) was.1) ∙ content_some in absurd (cc)

  -- ---- either

  abbrev pub asked_row : Transition
  asked_row = cell_ask_row p limit b rq (w.sites i)

  pub ask_joined : Joined p (after_transition less_ask i (cell_ask_row p limit b rq (w.sites i))) (ks ++ (cell_ask_row p limit b rq (w.sites i)).picks)
  ask_joined = go (home_record (w.sites i) b).content refl
    where
      go : (q : Option VarName) → (home_record (w.sites i) b).content ≡ q → Joined p (after_transition less_ask i (cell_ask_row p limit b rq (w.sites i))) (ks ++ (cell_ask_row p limit b rq (w.sites i)).picks)
      go (Some v) e = rw e (exchange_joined v e)
      go None e = rw e (kept_joined e)

  -- it has to do with no mobile cell
  pub ask_leaves : (z : State) × Leaves p (w.sites i) c_ask (cell_ask_row p limit b rq (w.sites i)) z
  ask_leaves = go (home_record (w.sites i) b).content refl
    where
      go : (q : Option VarName) → (home_record (w.sites i) b).content ≡ q → (z : State) × Leaves p (w.sites i) c_ask (cell_ask_row p limit b rq (w.sites i)) z
      go (Some v) e = rw e ((served_it v e).centre, (served_it v e).leaves)
      go None e = rw e (c_ask, leaves_none p (w.sites i) c_ask (without_output (with_early b rq (w.sites i))) (record { cell_records = refl; managers = refl; site = refl; silent = tt }) refl)

  -- it answers the thread that asks, or nobody
  pub ask_owes : (ns : List ThreadName) × Owes p (w.sites i) c_ask (cell_ask_row p limit b rq (w.sites i)) ns Nobody
  ask_owes = go (home_record (w.sites i) b).content refl
    where
      go : (q : Option VarName) → (home_record (w.sites i) b).content ≡ q → (ns : List ThreadName) × Owes p (w.sites i) c_ask (cell_ask_row p limit b rq (w.sites i)) ns Nobody
      go (Some v) e = rw e ((served_it v e).served, (served_it v e).owes)
      go None e = rw e ([], owes_none p (w.sites i) c_ask (without_output (with_early b rq (w.sites i))) Nobody tt (λ a asks far n back st h. h))

  -- it makes the exchange of the request that came, or keeps the request
  pub ask_balances : (R : ℕ → ThreadName → Type 0) → R o n → Balances p R (came_of (sent_to i (msg.CellAsk b n o new bundle))) w.sites (put w.sites i (cell_ask_row p limit b rq (w.sites i)).site) c_ask (cell_ask_row p limit b rq (w.sites i))
  ask_balances R goes = go (home_record (w.sites i) b).content refl
    where
      come : CellName → ThreadName → ℕ
      come = came_of (sent_to i (msg.CellAsk b n o new bundle))

      here : (th : ThreadName) → come b th ≡ cond (equal_thread th n) 1 0
      here th = rw (cell_same b) refl

      there : (a : CellName) → b ≢ a → (th : ThreadName) → come a th ≡ 0
      there a other th = rw (cells_differ a b (λ e. other (sym e))) refl

      one : (f : EarlyRequest → ℕ) → sum_by f (rq ∷ []) ≡ f rq
      one f = let x = sum_by-cons f rq [] in omega (arith, x)

      real_home : b.at ≢ 0
      real_home z = real (ground.0 ∙ z)

      some : (v : VarName) (e : (home_record (w.sites i) b).content ≡ Some v) → Balances p R come w.sites (put w.sites i (d_some v e).site) c_ask (d_some v e)
      some v e = served_balances p R w.sites (put w.sites i (d_some v e).site) c_ask (d_some v e) b i (sym ground.0) real_home (rq ∷ []) come
          (λ r h. request_goes r (Contains-cons_cases rq r [] h)) kept (λ a other. early_some v e a) there (λ r h. subst (λ (rs : List EarlyRequest). Contains rs r) (early_some v e b) h)
          (λ f. (served_it v e).exchanged f ∙ sym (one (λ (r : EarlyRequest). f b r.thread))) (let none = (served_it v e).owes.asks in omega (arith, none))
          (λ th. (served_it v e).told th ∙ sym (one (λ (r : EarlyRequest). cond (r.asking == i) 0 (cond (equal_thread th r.thread) 1 0))))
        where
          request_goes : (r : EarlyRequest) → (rq ≡ r) ⊎ Contains [] r → R r.asking r.thread
          request_goes r (inl q) = subst (λ (x : EarlyRequest). R x.asking x.thread) q goes
          request_goes r (inr q) = absurd (nothing r q)

          kept : (th : ThreadName) → early_for th (early_at (homes (v_some v e).sites) b) + early_for th (rq ∷ []) ≡ early_for th (early_ask b) + come b th
          kept th =
              let x : early_for th (early_at (homes (v_some v e).sites) b) ≡ early_for th (early_ask b) = ap (early_for th) (early_some v e b) in
              let y = one (λ (r : EarlyRequest). cond (equal_thread th r.thread) 1 0) in
              let z = here th in omega (arith, x, y, z)

      none : (e : (home_record (w.sites i) b).content ≡ None) → Balances p R come w.sites (put w.sites i (d_none e).site) c_ask (d_none e)
      none e = early_balances p R w.sites (put w.sites i (d_none e).site) c_ask (d_none e) b rq come goes (early_none e b ∙ longer_here) (λ a other. early_none e a ∙ longer_there a other) there (λ th. inr (here th)) refl refl

      go : (q : Option VarName) → (home_record (w.sites i) b).content ≡ q → Balances p R come w.sites (put w.sites i (cell_ask_row p limit b rq (w.sites i)).site) c_ask (cell_ask_row p limit b rq (w.sites i))
      go (Some v) e = rw e (some v e)
      go None e = rw e (none e)
