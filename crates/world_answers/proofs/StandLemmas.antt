-- Units and messages that are no requests and no answers, beside threads that wait for answers: the whole.
use Rattle.std.proofs.Common.{◌≡◌, ◌∙◌, sym, ap, refl, subst, ℕ, List, [], ◌∷◌, ◌++◌, ◌⊎◌, inl, inr, Bool, true, false, Some, None}
use Rattle.std.specs.Prelude.{Option, Contains, length, ◌≢◌, ◌≤◌, ◌<◌, ◌+◌}
use Rattle.std.proofs.lemmas.List.Elements.{Contains-append_left}
use Rattle.tree_node.specs.declared.names.VarName.{VarName}
use Rattle.tree_node.specs.declared.names.CellName.{CellName}
use Rattle.tree_node.specs.declared.names.PortName.{PortName}
use Rattle.tree_node.specs.declared.names.ThreadName.{ThreadName}
use Rattle.tree_node.specs.declared.names.Name.{Name}
use Rattle.tree_node.specs.declared.names.Name.TheVariants as name
use Rattle.tree_node.specs.declared.pick.Pick.{Pick}
use Rattle.tree_node.specs.Assoc.{value_of}
use Rattle.tree_node.specs.Each.{AreDistinct}
use Rattle.std.specs.Map.{lookup}
use Rattle.tree_node.specs.Goal.{equal_port}
use Rattle.tree_node.specs.Names.{EachOfStack}
use Rattle.tree_node.specs.State.{Stack, State, equal_thread}
use Rattle.tree_node.specs.Store.{Equation, IsSound}
use Rattle.kernel_syntax.specs.declared.stmt.Stmt.{Stmt}
use Rattle.site_message.specs.declared.message.Msg.{Msg}
use Rattle.site_message.specs.declared.message.Msg.TheVariants as msg
use Rattle.site_message.specs.declared.message.Sent.{Sent}
use Rattle.oz_model.specs.Answers.{IsPartOf}
use Rattle.oz_model.proofs.NameLemmas.{Each-weaker, EachOfItem-weaker}
use Rattle.bind_protocol.specs.Records.{Records}
use Rattle.thread_roster.specs.declared.mode.Awaited.{Awaited}
use Rattle.thread_roster.specs.declared.mode.Mode.{Mode}
use Rattle.thread_roster.specs.declared.mode.Mode.TheVariants as mode
use Rattle.site_model.specs.Requests.{Answer, NewEnd, OldContent}
use Rattle.site_model.specs.Site.{Threads, ThreadState, HomeRecord, EarlyRequest}
use Rattle.world_model.specs.Claims.{Asking, EndOf, ContentOf, Claim, Asked, Answered, Listed, request, answer, home_in, IsClaim, IsAsking}
use Rattle.world_model.specs.Keepers.{AnswersMatch, IsTold, homes, ports, content_at, early_at, end_at}
use Rattle.world_model.specs.Names.{IsHere, IsHereName, IsMade}
use Rattle.world_model.specs.Shown.{is_asking, shown}
use Rattle.world_model.specs.World.{World, Mail, IsOnItsWay, mail_from, without_number, eqs, records, threads, counters}
use Rattle.world_model.proofs.MailLemmas.{nothing, sent_to, gone, from_number}
use Rattle.tree_node.proofs.ClassLemmas.{Contains-cons_cases}
use Rattle.world_cells.specs.Reached.{KeepsAnswers}
use Rattle.world_cells.specs.Standing.{IsStanding}
use Rattle.world_cells.proofs.QueueLemmas.{SameWaiters}
use Rattle.world_answers.specs.Joined.{Joined}
use Rattle.world_answers.proofs.BesideLemmas.{AreStanding}
use Rattle.world_answers.proofs.ClaimLemmas.{asking_alike}
use Rattle.world_answers.proofs.ShownLemmas.{stands_to, shown_threads_real}

-- ---- modes

-- who waits for an answer waits for a port or for a cell
pub asks_for : (m : Mode) → is_asking m ≡ true → (a : Awaited) × (m ≡ mode.WaitsFor a)
asks_for mode.Runs e = cc
asks_for (mode.Waits x) e = cc
asks_for (mode.Needs x) e = cc
asks_for (mode.WaitsAny xs) e = cc
asks_for (mode.WaitsFor a) e = (a, refl)

pub EachOfStack-weaker : (P Q : Name → Type 0) → ((x : Name) → P x → Q x) → (st : Stack) → EachOfStack P st → EachOfStack Q st
EachOfStack-weaker P Q f st h = Each-weaker _ _ (λ i q. EachOfItem-weaker P Q f i q) st h

pub here_wider : (b c : Records) → ((y : VarName) → IsHere b y → IsHere c y) → (x : Name) → IsHereName b x → IsHereName c x
here_wider b c f (name.Var y) h = f y h
here_wider b c f (name.Cell y) h = tt
here_wider b c f (name.Proc y) h = tt
here_wider b c f (name.Port y) h = tt
here_wider b c f (name.Thread y) h = tt

-- ---- messages

-- a request or an answer is none of those that stand
pub request_not : (a : Asking) (n : ThreadName) (k : ℕ) (bundle : List Equation) → IsStanding (request a n k bundle) → ⊥
request_not (EndOf q) n k bundle h = h
request_not (ContentOf c new) n k bundle h = h

pub answer_not : (n : ThreadName) (x : Answer) (bundle : List Equation) → IsStanding (answer n x bundle) → ⊥
answer_not n (NewEnd old new) bundle h = h
answer_not n (OldContent v) bundle h = h

pub all_stand : (ms : List Sent) → AreStanding ms → (to : ℕ) (m : Msg) → Contains ms (sent_to to m) → IsStanding m
all_stand [] h to m k = absurd (nothing _ k)
all_stand (o ∷ ms) h to m k = go (Contains-cons_cases _ _ ms k) (λ q. all_stand ms h.1 to m q)
  where
    go : (o ≡ sent_to to m) ⊎ Contains ms (sent_to to m) → (Contains ms (sent_to to m) → IsStanding m) → IsStanding m
    go (inl e) ih = subst (λ (y : Sent). IsStanding y.msg) e h.0
    go (inr q) ih = ih q

-- messages before and after: what is no request and no answer, and tells no home, may be sent and may come
pub record SameRequests (mail more : Mail) : Type 0 where
  pub from : (k to : ℕ) (m : Msg) → (IsStanding m → ⊥) → IsOnItsWay more k to m → IsOnItsWay mail k to m
  pub old : (k to : ℕ) (m : Msg) → (IsStanding m → ⊥) → IsOnItsWay mail k to m → IsOnItsWay more k to m

pub standing_sent : (mail : Mail) (n : ℕ) (ms : List Sent) → AreStanding ms → SameRequests mail (mail ++ mail_from n ms)
standing_sent mail n ms h = record { from = λ k to m not_so q. from k to m not_so (from_number mail n ms k to m q); old = λ k to m not_so q. Contains-append_left mail (mail_from n ms) _ q }
  where
    from : (k to : ℕ) (m : Msg) → (IsStanding m → ⊥) → IsOnItsWay mail k to m ⊎ (Contains ms (sent_to to m) × (n ≤ k) × (k < n + length ms)) → IsOnItsWay mail k to m
    from k to m not_so (inl q) = q
    from k to m not_so (inr q) = absurd (not_so (all_stand ms h to m q.0))

pub standing_gone : (mail : Mail) (k i : ℕ) (x : Msg) → IsStanding x → ((a b : ℕ) (m o : Msg) → IsOnItsWay mail k a m → IsOnItsWay mail k b o → (a ≡ b) × (m ≡ o)) → IsOnItsWay mail k i x → SameRequests mail (without_number k mail)
standing_gone mail k i x stands once at = record { from = λ l to m not_so q. ((gone k mail).old l to m q).0; old = λ l to m not_so q. (gone k mail).kept l to m q (λ e. not_so (subst IsStanding (sym (once to i m x (subst (λ (j : ℕ). IsOnItsWay mail j to m) e q) at).1) stands)) }

pub requests_then : (a b c : Mail) → SameRequests a b → SameRequests b c → SameRequests a c
requests_then a b c f g = record { from = λ k to m not_so q. f.from k to m not_so (g.from k to m not_so q); old = λ k to m not_so q. g.old k to m not_so (f.old k to m not_so q) }

-- the claims are the same
pub claims_from : (mail more : Mail) (early : CellName → List EarlyRequest) → SameRequests mail more → (y : Claim) → IsClaim more early y → IsClaim mail early y
claims_from mail more early s (Asked k to a n f) (bundle, at) = (bundle, s.from k to (request a n f bundle) (request_not a n f bundle) at)
claims_from mail more early s (Answered k to n x) (bundle, at) = (bundle, s.from k to (answer n x bundle) (answer_not n x bundle) at)
claims_from mail more early s (Listed c r) h = h

pub claims_old : (mail more : Mail) (early : CellName → List EarlyRequest) → SameRequests mail more → (y : Claim) → IsClaim mail early y → IsClaim more early y
claims_old mail more early s (Asked k to a n f) (bundle, at) = (bundle, s.old k to (request a n f bundle) (request_not a n f bundle) at)
claims_old mail more early s (Answered k to n x) (bundle, at) = (bundle, s.old k to (answer n x bundle) (answer_not n x bundle) at)
claims_old mail more early s (Listed c r) h = h

-- ---- all that is kept stays

module _ (p : List Stmt) (w v : World) (transit : Threads) (c z : State) (m : AnswersMatch p w transit c) where
  pub answers_stay : ((i : ℕ) → IsSound (eqs v.sites i)) → ((i : ℕ) → IsPartOf (eqs w.sites i) (eqs v.sites i)) → ((i : ℕ) (y : VarName) → IsHere (records w.sites i) y → IsHere (records v.sites i) y) →
      ((i : ℕ) (a : Awaited) → is_asking (mode.WaitsFor a) ≡ true → SameWaiters (threads w.sites i) (threads v.sites i) a) → SameRequests w.mail v.mail →
      ◌≡◌ {A = ℕ → List (CellName × HomeRecord)} (homes v.sites) (homes w.sites) → ◌≡◌ {A = ℕ → List (PortName × VarName)} (ports v.sites) (ports w.sites) → KeepsAnswers c z → ((x : Name) → IsMade (counters w.sites) x → IsMade (counters v.sites) x) → AnswersMatch p v transit z
  answers_stay sound part wider same requests hs ps keeps grow = record {
    asking = asking_alike p (eqs w.sites) (eqs v.sites) (IsAsking (threads w.sites)) (IsAsking (threads v.sites)) (IsClaim w.mail (early_at (homes w.sites))) (IsClaim v.mail (early_at (homes v.sites))) transit sound part
        (λ i n a st h. ((same i a h.1).old n st h.0, h.1)) (λ i n a st h. ((same i a h.1).new n st h.0, h.1)) (λ y h. claims_from w.mail v.mail (early_at (homes w.sites)) requests y (subst (λ (f : ℕ → List (CellName × HomeRecord)). IsClaim v.mail (early_at f) y) hs h)) (λ y h. subst (λ (f : ℕ → List (CellName × HomeRecord)). IsClaim v.mail (early_at f) y) (sym hs) (claims_old w.mail v.mail (early_at (homes w.sites)) requests y h)) m.asking;
    named = λ i n a st h. (let q = m.named i n a st ((same i a h.1).old n st h.0, h.1) in (q.0, EachOfStack-weaker (IsHereName (records w.sites i)) (IsHereName (records v.sites i)) (here_wider (records w.sites i) (records v.sites i) (wider i)) st q.1));
    made = λ i n a st h. EachOfStack-weaker (IsMade (counters w.sites)) (IsMade (counters v.sites)) grow st (m.made i n a st ((same i a h.1).old n st h.0, h.1));
    ends = record {
      ends = λ q. ap (λ (f : ℕ → List (PortName × VarName)). end_at f q) ps ∙ m.ends.ends q ∙ ap (λ (l : List (PortName × VarName)). value_of equal_port l q) (sym keeps.ports);
      alone = λ i q e h. (let r = m.ends.alone i q e (subst (λ (f : ℕ → List (PortName × VarName)). lookup (equal_port q) (f i) ≡ Some e) ps h) in (r.0, wider i e r.1));
    };
    contents = record {
      kept = λ d u far e. kept d u far (m.contents.kept d u far (sym (keeps.stationary d far) ∙ e));
      back = λ i d u h. (let r = m.contents.back i d u (subst (λ (f : ℕ → List (CellName × HomeRecord)). (home_in (f i) d).content ≡ Some u) hs h) in (r.0, r.1, keeps.stationary d (λ e. r.1 (sym r.0 ∙ e)) ∙ r.2, wider i u r.3));
      makes = λ k to d u h. (let r = m.contents.makes k to d u (told_from k to d u h) in (r.0, r.1, content_same d ∙ r.2, keeps.stationary d r.1 ∙ r.3));
      once = λ k l a b d u y h g. m.contents.once k l a b d u y (told_from k a d u h) (told_from l b d y g);
      lists = λ d. subst (λ (f : ℕ → List (CellName × HomeRecord)). AreDistinct (early_at f d)) (sym hs) (m.contents.lists d);
    };
    early = λ d r h. (let q = m.early d r (subst (λ (f : ℕ → List (CellName × HomeRecord)). Contains (early_at f d) r) hs h) in (q.0, content_same d ∙ q.1, wider d.at r.new q.2));
  }
    where
      content_same : (d : CellName) → content_at (homes v.sites) d ≡ content_at (homes w.sites) d
      content_same d = ap (λ (f : ℕ → List (CellName × HomeRecord)). content_at f d) hs

      told_from : (k to : ℕ) (d : CellName) (u : VarName) → IsTold v.mail k to d u → IsTold w.mail k to d u
      told_from k to d u (bundle, at) = (bundle, requests.from k to (msg.CellMake d u bundle) (λ h. h) at)

      kept : (d : CellName) (u : VarName) → d.at ≢ 0 → (content_at (homes w.sites) d ≡ Some u) ⊎ ((content_at (homes w.sites) d ≡ None) × (k : ℕ) × IsTold w.mail k d.at d u) →
          (content_at (homes v.sites) d ≡ Some u) ⊎ ((content_at (homes v.sites) d ≡ None) × (k : ℕ) × IsTold v.mail k d.at d u)
      kept d u far (inl h) = inl (content_same d ∙ h)
      kept d u far (inr (none, k, (bundle, at))) = inr (content_same d ∙ none, k, (bundle, requests.old k d.at (msg.CellMake d u bundle) (λ h. h) at))

-- ---- who has a name

module _ (p : List Stmt) (w : World) (ks : List Pick) (j : Joined p w ks) where
  zero_threads : (shown w.sites j.transit 0).threads ≡ j.transit
  zero_threads = refl

  -- a name that the machine has no thread of is no thread's of any site
  pub nowhere : (o : ThreadName) → value_of equal_thread j.reached.centre.threads o ≡ None → (i : ℕ) → i ≢ 0 → value_of equal_thread (threads w.sites i) o ≡ None
  nowhere o none i real = go (value_of equal_thread (threads w.sites i) o) refl
    where
      not_both : (st : Stack) → value_of equal_thread j.reached.centre.threads o ≡ Some st → ⊥
      not_both st h = let both : ◌≡◌ {A = Option Stack} None (Some st) = sym none ∙ h in cc

      asks : (v : ThreadState) → value_of equal_thread (threads w.sites i) o ≡ Some v → is_asking v.1 ≡ true → ⊥
      asks v e q =
          let a = asks_for v.1 q in
          let s = j.answers.asking.stands i o a.0 v.0 (e ∙ ap (λ (m : Mode). Some (v.0, m)) a.1, subst (λ (m : Mode). is_asking m ≡ true) a.1 q) in
          not_both s.0 (j.reached.parts.placed.up 0 o s.0 (mode.Runs, s.1))

      stands : (v : ThreadState) → value_of equal_thread (threads w.sites i) o ≡ Some v → is_asking v.1 ≡ false → ⊥
      stands v e q = not_both v.0 (j.reached.parts.placed.up i o v.0 (v.1, ap (λ (ts : Threads). value_of equal_thread ts o) (shown_threads_real w.sites j.transit i real) ∙ stands_to (threads w.sites i) o v e q))

      go : (r : Option ThreadState) → value_of equal_thread (threads w.sites i) o ≡ r → value_of equal_thread (threads w.sites i) o ≡ None
      go None e = e
      go (Some v) e = one (is_asking v.1) refl
        where
          one : (b : Bool) → is_asking v.1 ≡ b → value_of equal_thread (threads w.sites i) o ≡ None
          one true q = absurd (asks v e q)
          one false q = absurd (stands v e q)
