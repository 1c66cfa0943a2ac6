-- The requests that a home keeps until it hears of their cell are all served then.
use Rattle.std.specs.List.{count_by, sum_by}
use Rattle.std.proofs.lemmas.List.Sums.{sum_by-cons}
use Rattle.std.proofs.Common.{◌≡◌, ◌∙◌, sym, ap, refl, subst, ℕ, List, [], ◌∷◌, ◌++◌, append-nil, append_assoc, Some, arith, ◌+◌, cond}
use Rattle.std.specs.Prelude.{Contains, ◌≢◌, ◌==◌, if◌then◌else◌}
use Rattle.tree_node.specs.declared.names.VarName.{VarName}
use Rattle.tree_node.specs.declared.names.CellName.{CellName}
use Rattle.tree_node.specs.declared.names.ThreadName.{ThreadName}
use Rattle.tree_node.specs.declared.pick.Pick.{Pick}
use Rattle.tree_node.specs.Assoc.{value_of}
use Rattle.tree_node.specs.Each.{AreDistinct}
use Rattle.tree_node.specs.Goal.{equal_cell}
use Rattle.tree_node.specs.Names.{EachOfStack}
use Rattle.tree_node.specs.State.{State, equal_thread}
use Rattle.tree_node.specs.Store.{Store}
use Rattle.tree_node.proofs.ClassLemmas.{Contains-head, Contains-tail}
use Rattle.kernel_syntax.specs.declared.stmt.Stmt.{Stmt}
use Rattle.oz_model.proofs.ExchangeLemmas.{put_here, put_there}
use Rattle.oz_model.proofs.KindLemmas.{cell_same, cells_differ}
use Rattle.bind_protocol.specs.Records.{Records}
use Rattle.site_model.specs.Requests.{serve_request, serve_early}
use Rattle.site_model.specs.Site.{Site, Threads, Counters, HomeRecord, EarlyRequest, home_record, with_home_record}
use Rattle.site_model.specs.Transition.{Transition, without_output, sequence}
use Rattle.world_model.specs.Claims.{IsClaim, IsAsking, AskingMatch, home_in}
use Rattle.world_model.specs.Keepers.{IsTold}
use Rattle.world_model.specs.Matches.{PartsMatch}
use Rattle.world_model.specs.Names.{IsHere, IsHereName, IsMade, here_at}
use Rattle.world_model.specs.Shown.{standing, shown, shown_world}
use Rattle.world_model.specs.World.{World, Mail, eqs, records, threads, counters, after_transition}
use Rattle.world_model.proofs.MailLemmas.{acts_after}
use Rattle.world_model.proofs.PutLemmas.{at_here, field_kept}
use Rattle.world_variables.specs.Sums.{names}
use Rattle.world_variables.proofs.RegisterLemmas.{parts_posts}
use Rattle.world_cells.proofs.QueueLemmas.{waiters_same}
use Rattle.world_answers.proofs.HomeLemmas.{home_here, home_there}
use Rattle.world_answers.proofs.HomeServeLemmas.{Serving, ServedOne, served_one}
use Rattle.world_answers.proofs.LeaveLemmas.{Leaves, leaves_none, leaves_then, left_run}
use Rattle.world_answers.specs.Balance.{answers_to, exchanges_by}
use Rattle.world_answers.proofs.BalanceLemmas.{exchanges_append}
use Rattle.world_answers.proofs.OwedLemmas.{Owes, Nobody, owes_then, owes_none, count_append}
use Rattle.world_answers.proofs.PackLemmas.{ReachedAt, whole, packed, same_parts, shown_is}
use Rattle.world_answers.proofs.SayLemmas.{none_sent}
use Rattle.world_answers.proofs.ShownLemmas.{standing_distinct, shown_threads_real}

-- ---- only what a home keeps changes

module _ (p : List Stmt) (i : ℕ) (real : i ≢ 0) (w : World) (ks : List Pick) (early : CellName → List EarlyRequest) (c : State) (j : Serving p w ks c early) (b : CellName) (h : HomeRecord) where
  abbrev d_kept : Transition
  d_kept = without_output (with_home_record (w.sites i) b h)

  abbrev v_kept : World
  v_kept = after_transition w i d_kept

  threads_kept : ◌≡◌ {A = ℕ → Threads} (threads v_kept.sites) (threads w.sites)
  threads_kept = field_kept (λ (y : Site). y.threads) w.sites i d_kept.site refl

  mail_kept : ◌≡◌ {A = Mail} v_kept.mail w.mail
  mail_kept = append-nil w.mail

  reached_kept : ReachedAt p (shown_world v_kept j.transit) (ks ++ []) c
  reached_kept = packed p w ks j.transit (whole j.reached) i d_kept j.transit c real (record {
    run = refl;
    parts = same_parts p w i d_kept j.transit c refl refl refl
        (parts_posts p (here_at (records w.sites)) (eqs w.sites) (records w.sites) (threads (shown v_kept.sites j.transit)) (counters w.sites) w.mail c
        (subst (λ (g : ℕ → Threads). PartsMatch p (here_at (records w.sites)) (eqs w.sites) (records w.sites) g (counters w.sites) w.mail c)
        (shown_is w.sites j.transit i d_kept.site (threads (shown w.sites j.transit)) real refl (shown_threads_real w.sites j.transit i real) (λ k far other. shown_threads_real w.sites j.transit k far)) j.reached.parts)
        w.sent [] (none_sent p (eqs w.sites) (records w.sites) (threads (shown v_kept.sites j.transit)) (counters w.sites) c.equations));
    still = record { cell_records = refl; managers = refl; site = refl; silent = tt };
    cells = refl;
    here = λ a. waiters_same (standing (w.sites i).threads) a;
    away = λ a. waiters_same j.transit a;
    wider = λ y q. q;
    lines = (refl, refl);
    ended = (refl, refl);
    once = (standing_distinct (w.sites i).threads (j.once i), j.reached.sums.once 0);
  })

  pub serving_kept : Serving p v_kept (ks ++ []) c early
  serving_kept = record {
    transit = j.transit;
    reached = reached_kept;
    asking = subst (λ (f : ℕ → Store). AskingMatch p f (IsAsking (threads v_kept.sites)) (IsClaim v_kept.mail early) j.transit) (sym (field_kept (λ (y : Site). y.equations) w.sites i d_kept.site refl))
        (subst (λ (f : ℕ → Threads). AskingMatch p (eqs w.sites) (IsAsking f) (IsClaim v_kept.mail early) j.transit) (sym threads_kept)
        (subst (λ (m : Mail). AskingMatch p (eqs w.sites) (IsAsking (threads w.sites)) (IsClaim m early) j.transit) (sym mail_kept) j.asking));
    named = λ l m a su q. subst (λ (f : ℕ → Records). (l ≢ 0) × EachOfStack (IsHereName (f l)) su) (sym (field_kept (λ (y : Site). y.records) w.sites i d_kept.site refl)) (j.named l m a su (subst (λ (f : ℕ → Threads). IsAsking f l m a su) threads_kept q));
    made = λ l m a su q. subst (λ (f : ℕ → Counters). EachOfStack (IsMade f) su) (sym (field_kept (λ (y : Site). y.counters) w.sites i d_kept.site refl)) (j.made l m a su (subst (λ (f : ℕ → Threads). IsAsking f l m a su) threads_kept q));
    once = λ l. subst (λ (f : ℕ → Threads). AreDistinct (names (f l))) (sym threads_kept) (j.once l);
  }

  pub kept_told_from : (l a : ℕ) (x : CellName) (y : VarName) → IsTold v_kept.mail l a x y → IsTold w.mail l a x y
  kept_told_from l a x y q = subst (λ (m : Mail). IsTold m l a x y) mail_kept q

  pub kept_told_old : (l a : ℕ) (x : CellName) (y : VarName) → IsTold w.mail l a x y → IsTold v_kept.mail l a x y
  kept_told_old l a x y q = subst (λ (m : Mail). IsTold m l a x y) (sym mail_kept) q

-- ---- all early requests are served

pub record ServedAll (p : List Stmt) (w : World) (ks : List Pick) (i : ℕ) (d : Transition) (c : State) (b : CellName) (early : CellName → List EarlyRequest) (rs : List EarlyRequest) : Type 0 where
  pub later : CellName → List EarlyRequest
  pub centre : State
  pub serving : Serving p (after_transition w i d) (ks ++ d.picks) centre later
  pub leaves : Leaves p (w.sites i) c d centre
  pub served : List ThreadName
  pub owes : Owes p (w.sites i) c d served Nobody
  pub exchanged : (f : CellName → ThreadName → ℕ) → exchanges_by f p c d.picks ≡ sum_by (λ (r : EarlyRequest). f b r.thread) rs
  pub told : (th : ThreadName) → count_by (answers_to th) d.sent ≡ sum_by (λ (r : EarlyRequest). cond (r.asking == i) 0 (cond (equal_thread th r.thread) 1 0)) rs
  pub empty : later b ≡ []
  pub others : (x : CellName) → b ≢ x → later x ≡ early x
  pub content : VarName
  pub held : value_of equal_cell centre.cells b ≡ Some content
  pub far : (x : CellName) → b ≢ x → value_of equal_cell centre.cells x ≡ value_of equal_cell c.cells x
  pub machine_ports : centre.ports ≡ c.ports
  pub home : home_in d.site.homes b ≡ record { content = Some content; early = [] }
  pub homes : (x : CellName) → b ≢ x → home_in d.site.homes x ≡ home_in (w.sites i).homes x
  pub own_ports : d.site.ports ≡ (w.sites i).ports
  pub records : d.site.records ≡ (w.sites i).records
  pub told_from : (l a : ℕ) (x : CellName) (y : VarName) → IsTold (after_transition w i d).mail l a x y → IsTold w.mail l a x y
  pub told_old : (l a : ℕ) (x : CellName) (y : VarName) → IsTold w.mail l a x y → IsTold (after_transition w i d).mail l a x y
  pub known : IsHere (w.sites i).records content

-- the list without its first request of this cell
abbrev pub shorter : (CellName → List EarlyRequest) → CellName → List EarlyRequest → CellName → List EarlyRequest
shorter early b rs x = if equal_cell b x then rs else early x

pub shorter_here : (early : CellName → List EarlyRequest) (b : CellName) (rs : List EarlyRequest) → shorter early b rs b ≡ rs
shorter_here early b rs = rw (cell_same b) refl

pub shorter_there : (early : CellName → List EarlyRequest) (b : CellName) (rs : List EarlyRequest) (x : CellName) → b ≢ x → shorter early b rs x ≡ early x
shorter_there early b rs x other = rw (cells_differ b x other) refl

-- the first was served, and then the others
module _ (p : List Stmt) (limit i : ℕ) (w : World) (ks : List Pick) (early : CellName → List EarlyRequest) (c : State) (b : CellName) (v : VarName) (r : EarlyRequest) (rs : List EarlyRequest)
    (one : ServedOne p w ks i (serve_request p limit b r v (w.sites i)) c b r (shorter early b rs)) where
  abbrev first : Transition
  first = serve_request p limit b r v (w.sites i)

  abbrev others_row : Transition
  others_row = serve_early p limit b r.new rs first.site

  site_is : (after_transition w i first).sites i ≡ first.site
  site_is = at_here w.sites i first.site

  pub records_first : ((after_transition w i first).sites i).records ≡ (w.sites i).records
  records_first = ap (λ (y : Site). y.records) site_is ∙ one.records

  module _ (rest : ServedAll p (after_transition w i first) (ks ++ first.picks) i (serve_early p limit b r.new rs ((after_transition w i first).sites i)) one.centre b (shorter early b rs) rs) where
    moved : ServedAll p (after_transition w i first) (ks ++ first.picks) i others_row one.centre b (shorter early b rs) rs
    moved = subst (λ (y : Site). ServedAll p (after_transition w i first) (ks ++ first.picks) i (serve_early p limit b r.new rs y) one.centre b (shorter early b rs) rs) site_is rest

    world_is : after_transition (after_transition w i first) i others_row ≡ after_transition w i (sequence first others_row)
    world_is = sym (acts_after w i first others_row)

    picks_are : (ks ++ first.picks) ++ others_row.picks ≡ ks ++ (first.picks ++ others_row.picks)
    picks_are = append_assoc ks first.picks others_row.picks

    pub served_both : ServedAll p w ks i (sequence first others_row) c b early (r ∷ rs)
    served_both = record {
      later = moved.later;
      centre = moved.centre;
      serving = subst (λ (y : World). Serving p y (ks ++ (first.picks ++ others_row.picks)) moved.centre moved.later) world_is
          (subst (λ (ls : List Pick). Serving p (after_transition (after_transition w i first) i others_row) ls moved.centre moved.later) picks_are moved.serving);
      leaves = leaves_then p (w.sites i) c one.centre moved.centre first others_row one.leaves (subst (λ (y : Site). Leaves p y one.centre others_row moved.centre) site_is moved.leaves);
      served = one.served ++ moved.served;
      owes = owes_then p (w.sites i) c one.centre first others_row one.served moved.served (left_run p first.picks c one.centre one.leaves.left) one.leaves.still.site one.owes
          (subst (λ (y : Site). Owes p y one.centre others_row moved.served Nobody) site_is moved.owes);
      exchanged = λ f. (
          let x = exchanges_append f p first.picks others_row.picks c one.centre (left_run p first.picks c one.centre one.leaves.left) in
          let y = one.exchanged f in
          let z = moved.exchanged f in
          let sum = sum_by-cons (λ (q : EarlyRequest). f b q.thread) r rs in omega (arith, x, y, z, sum)
          );
      told = λ th. (
          let x = count_append (answers_to th) first.sent others_row.sent in
          let y = one.told th in
          let z = moved.told th in
          let sum = sum_by-cons (λ (q : EarlyRequest). cond (q.asking == i) 0 (cond (equal_thread th q.thread) 1 0)) r rs in omega (arith, x, y, z, sum)
          );
      empty = moved.empty;
      others = λ x other. moved.others x other ∙ shorter_there early b rs x other;
      content = moved.content;
      held = moved.held;
      far = λ x other. moved.far x other ∙ ap (λ (cs : List (CellName × VarName)). value_of equal_cell cs x) one.cells ∙ put_there c.cells b x r.new (cells_differ b x other);
      machine_ports = moved.machine_ports ∙ one.ports;
      home = moved.home;
      homes = λ x other. moved.homes x other ∙ ap (λ (y : Site). home_in y.homes x) site_is ∙ ap (λ (hs : List (CellName × HomeRecord)). home_in hs x) one.homes ∙ home_there (w.sites i).homes b x (record (home_record (w.sites i) b) { content = Some r.new }) other;
      own_ports = moved.own_ports ∙ ap (λ (y : Site). y.ports) site_is ∙ one.own_ports;
      records = moved.records ∙ records_first;
      told_from = λ l a x y h. one.told_from l a x y (moved.told_from l a x y (subst (λ (z : World). IsTold z.mail l a x y) (sym world_is) h));
      told_old = λ l a x y h. subst (λ (z : World). IsTold z.mail l a x y) world_is (moved.told_old l a x y (one.told_old l a x y h));
      known = subst (λ (z : Records). IsHere z moved.content) records_first moved.known;
    }

first_served : (p : List Stmt) (limit i : ℕ) (real : i ≢ 0) (b : CellName) (home : b.at ≡ i) (r : EarlyRequest) (rs : List EarlyRequest) (w : World) (ks : List Pick) (early : CellName → List EarlyRequest) (c : State) (j : Serving p w ks c early) (v : VarName) → early b ≡ r ∷ rs → AreDistinct (r ∷ rs) →
    value_of equal_cell c.cells b ≡ Some v → IsHere (records w.sites i) v → ServedOne p w ks i (serve_request p limit b r v (w.sites i)) c b r (shorter early b rs)
first_served p limit i real b home r rs w ks early c j v is distinct value known =
    served_one p limit i real w ks early (shorter early b rs) c j b home r (is ∙ ap (λ (xs : List EarlyRequest). r ∷ xs) (sym (shorter_here early b rs))) (λ x other. shorter_there early b rs x other) (subst AreDistinct (sym is) distinct) v value known

pub served_all : (p : List Stmt) (limit i : ℕ) (real : i ≢ 0) (b : CellName) (home : b.at ≡ i) (rs : List EarlyRequest) (w : World) (ks : List Pick) (early : CellName → List EarlyRequest) (c : State) (j : Serving p w ks c early) (v : VarName) → early b ≡ rs → AreDistinct rs →
    value_of equal_cell c.cells b ≡ Some v → IsHere (records w.sites i) v → ((r : EarlyRequest) → Contains rs r → IsHere (records w.sites i) r.new) → ServedAll p w ks i (serve_early p limit b v rs (w.sites i)) c b early rs
served_all p limit i real b home [] w ks early c j v is distinct value known all = record {
  later = early;
  centre = c;
  serving = serving_kept p i real w ks early c j b (record { content = Some v; early = [] });
  leaves = leaves_none p (w.sites i) c (without_output (with_home_record (w.sites i) b (record { content = Some v; early = [] }))) (record { cell_records = refl; managers = refl; site = refl; silent = tt }) refl;
  served = [];
  owes = owes_none p (w.sites i) c (without_output (with_home_record (w.sites i) b (record { content = Some v; early = [] }))) Nobody tt (λ a asks far n back st h. h);
  exchanged = λ f. refl;
  told = λ th. refl;
  empty = is;
  others = λ x other. refl;
  content = v;
  held = value;
  far = λ x other. refl;
  machine_ports = refl;
  home = home_here (w.sites i).homes b (record { content = Some v; early = [] });
  homes = λ x other. home_there (w.sites i).homes b x (record { content = Some v; early = [] }) other;
  own_ports = refl;
  records = refl;
  told_from = kept_told_from p i real w ks early c j b (record { content = Some v; early = [] });
  told_old = kept_told_old p i real w ks early c j b (record { content = Some v; early = [] });
  known = known;
}
served_all p limit i real b home (r ∷ rs) w ks early c j v is distinct value known all =
    let one : ServedOne p w ks i (serve_request p limit b r v (w.sites i)) c b r (shorter early b rs) = first_served p limit i real b home r rs w ks early c j v is distinct value known in
    let records_are : ((after_transition w i (serve_request p limit b r v (w.sites i))).sites i).records ≡ (w.sites i).records = records_first p limit i w ks early c b v r rs one in
    served_both p limit i w ks early c b v r rs one
    (served_all p limit i real b home rs (after_transition w i (serve_request p limit b r v (w.sites i))) (ks ++ (serve_request p limit b r v (w.sites i)).picks) (shorter early b rs) one.centre one.serving r.new (shorter_here early b rs) distinct.1
    (ap (λ (cs : List (CellName × VarName)). value_of equal_cell cs b) one.cells ∙ put_here c.cells b v r.new value)
    (subst (λ (q : Records). IsHere q r.new) (sym records_are) (all r (Contains-head r rs))) (λ q h. subst (λ (z : Records). IsHere z q.new) (sym records_are) (all q (Contains-tail r q rs h))))
