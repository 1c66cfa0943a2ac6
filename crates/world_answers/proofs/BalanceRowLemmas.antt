-- Each kind of row balances requests, exchanges and answers.
use Rattle.std.proofs.Common.{arith, ◌≡◌, ◌∙◌, sym, ap, refl, subst, ℕ, ◌+◌, List, [], ◌∷◌, ◌++◌, ◌⊎◌, inl, inr, Bool, true, false, cond}
use Rattle.std.specs.Prelude.{◌≢◌, ◌==◌, Contains}
use Rattle.std.specs.List.{count_by, sum_by}
use Rattle.std.proofs.lemmas.List.Sums.{sum_by-append, sum_by-cons}
use Rattle.std.proofs.lemmas.List.Elements.{Contains-append_cases}
use Rattle.tree_node.specs.declared.names.VarName.{VarName}
use Rattle.tree_node.specs.declared.names.CellName.{CellName}
use Rattle.tree_node.specs.declared.names.ThreadName.{ThreadName}
use Rattle.tree_node.specs.Goal.{equal_cell}
use Rattle.tree_node.specs.State.{State, equal_thread}
use Rattle.tree_node.specs.Store.{Equation}
use Rattle.tree_node.proofs.ClassLemmas.{Contains-cons_cases, Contains-head, Contains-tail}
use Rattle.kernel_syntax.specs.declared.stmt.Stmt.{Stmt}
use Rattle.site_message.specs.declared.message.Msg.{Msg}
use Rattle.site_message.specs.declared.message.Msg.TheVariants as msg
use Rattle.site_message.specs.declared.message.Sent.{Sent}
use Rattle.oz_model.proofs.KindLemmas.{cell_cases, equal_cell_decides, cells_differ}
use Rattle.bind_protocol.proofs.ListLemmas.{there_counted}
use Rattle.thread_roster.proofs.NameLemmas.{name_cases as threads_decide, is_other}
use Rattle.site_model.specs.Site.{EarlyRequest}
use Rattle.site_model.specs.Transition.{Transition}
use Rattle.world_model.specs.Claims.{Asking, EndOf, ContentOf, request, server}
use Rattle.world_model.specs.Keepers.{homes, early_at}
use Rattle.world_model.specs.World.{Sites}
use Rattle.world_model.proofs.MailLemmas.{nothing, sent_to}
use Rattle.world_model.proofs.PutLemmas.{nat_decides}
use Rattle.world_answers.specs.AnswerCounts.{asks_content, tells_content}
use Rattle.world_answers.specs.Balance.{asks_content_for, answers_to, early_for, one_exchange, away_exchange, exchanges_by}
use Rattle.world_answers.proofs.BalanceLemmas.{Vanishes, one_vanishes, away_vanishes, Balances, none_came}
use Rattle.world_answers.proofs.OwedLemmas.{only_one}

-- ---- names

nat_cases : (a b : ℕ) → (a ≡ b) ⊎ (a ≢ b)
nat_cases a b = go (a == b) refl
  where
    go : (x : Bool) → (a == b) ≡ x → (a ≡ b) ⊎ (a ≢ b)
    go true e = inl ((nat_decides a b).0 e)
    go false e = inr (λ z. let yes : (a == b) ≡ true = (nat_decides a b).1 z in cc)

numbers_differ : (a b : ℕ) → a ≢ b → (a == b) ≡ false
numbers_differ a b far = go (a == b) refl
  where
    go : (x : Bool) → (a == b) ≡ x → x ≡ false
    go true e = absurd (far ((nat_decides a b).0 e))
    go false e = refl

-- an exchange of another cell, or by another thread
other_cell : (a b : CellName) (th n : ThreadName) → a ≢ b → one_exchange a th b n ≡ 0
other_cell a b th n far = rw (cells_differ a b far) refl

other_thread : (a b : CellName) (th n : ThreadName) → th ≢ n → one_exchange a th b n ≡ 0
other_thread a b th n far = go (equal_cell a b)
  where
    go : (x : Bool) → cond {A = ℕ} x (cond (equal_thread th n) 1 0) 0 ≡ 0
    go true = ap (λ (y : Bool). cond {A = ℕ} y 1 0) (is_other th n far)
    go false = refl

this_cell : (b : CellName) (th n : ThreadName) → one_exchange b th b n ≡ cond (equal_thread th n) 1 0
this_cell b th n = rw ((equal_cell_decides b b).1 refl) refl

away_none : (l : ℕ) (th n : ThreadName) (b : CellName) → (th ≢ n) ⊎ (b.at ≡ l) → away_exchange l th b n ≡ 0
away_none l th n b h = first (b.at == 0) (b.at == l) refl h
  where
    first : (x y : Bool) → (b.at == l) ≡ y → (th ≢ n) ⊎ (b.at ≡ l) → cond {A = ℕ} x 0 (cond y 0 (cond (equal_thread th n) 1 0)) ≡ 0
    first true y e h = refl
    first false true e h = refl
    first false false e (inl far) = ap (λ (z : Bool). cond {A = ℕ} z 1 0) (is_other th n far)
    first false false e (inr same) = let yes : (b.at == l) ≡ true = (nat_decides b.at l).1 same in cc

away_one : (l : ℕ) (th n : ThreadName) (b : CellName) → b.at ≢ 0 → b.at ≢ l → away_exchange l th b n ≡ cond (equal_thread th n) 1 0
away_one l th n b real far = rw (numbers_differ b.at 0 real, numbers_differ b.at l far) refl

-- ---- counts

pub fewer : (f g : Sent → Bool) → ((to : ℕ) (x : Msg) → f (sent_to to x) ≡ true → g (sent_to to x) ≡ true) → (ms : List Sent) → count_by g ms ≡ 0 → count_by f ms ≡ 0
fewer f g up [] z = refl
fewer f g up (m ∷ ms) z = go (f m) refl (fewer f g up ms)
  where
    sum_f : count_by f (m ∷ ms) ≡ cond (f m) 1 0 + count_by f ms
    sum_f = sum_by-cons (λ (y : Sent). cond (f y) 1 0) m ms

    sum_g : count_by g (m ∷ ms) ≡ cond (g m) 1 0 + count_by g ms
    sum_g = sum_by-cons (λ (y : Sent). cond (g y) 1 0) m ms

    go : (b : Bool) → f m ≡ b → (count_by g ms ≡ 0 → count_by f ms ≡ 0) → count_by f (m ∷ ms) ≡ 0
    go true e ih =
        let one : ◌≡◌ {A = ℕ} (cond (g m) 1 0) 1 = ap (λ (b : Bool). cond {A = ℕ} b 1 0) (up m.to m.msg e) in
        absurd (omega (arith, sum_g, one, z))
    go false e ih =
        let none : ◌≡◌ {A = ℕ} (cond (f m) 1 0) 0 = ap (λ (b : Bool). cond {A = ℕ} b 1 0) e in
        let rest : count_by g ms ≡ 0 = omega (arith, sum_g, z) in
        let r = ih rest in omega (arith, sum_f, none, r)

asks_one : (c : CellName) (th : ThreadName) (to : ℕ) (x : Msg) → asks_content_for c th (sent_to to x) ≡ true → asks_content (sent_to to x) ≡ true
asks_one c th to (msg.CellAsk d n k v bundle) e = refl
asks_one c th to (msg.Spawn n code vars bundle) e = cc
asks_one c th to (msg.Register x o) e = cc
asks_one c th to (msg.BindReq x n t bundle) e = cc
asks_one c th to (msg.Binding x t bundle) e = cc
asks_one c th to (msg.Get d o) e = cc
asks_one c th to (msg.Forward d o) e = cc
asks_one c th to (msg.Put d v bundle) e = cc
asks_one c th to (msg.PortSend q n o) e = cc
asks_one c th to (msg.PortEnd n old new bundle) e = cc
asks_one c th to (msg.CellMake d v bundle) e = cc
asks_one c th to (msg.CellOld n v bundle) e = cc

tells_one : (th : ThreadName) (to : ℕ) (x : Msg) → answers_to th (sent_to to x) ≡ true → tells_content (sent_to to x) ≡ true
tells_one th to (msg.CellOld n v bundle) e = refl
tells_one th to (msg.CellAsk d n k v bundle) e = cc
tells_one th to (msg.Spawn n code vars bundle) e = cc
tells_one th to (msg.Register x o) e = cc
tells_one th to (msg.BindReq x n t bundle) e = cc
tells_one th to (msg.Binding x t bundle) e = cc
tells_one th to (msg.Get d o) e = cc
tells_one th to (msg.Forward d o) e = cc
tells_one th to (msg.Put d v bundle) e = cc
tells_one th to (msg.PortSend q n o) e = cc
tells_one th to (msg.PortEnd n old new bundle) e = cc
tells_one th to (msg.CellMake d v bundle) e = cc

none_asked : (ms : List Sent) → count_by asks_content ms ≡ 0 → (c : CellName) (th : ThreadName) → count_by (asks_content_for c th) ms ≡ 0
none_asked ms z c th = fewer (asks_content_for c th) asks_content (asks_one c th) ms z

none_told : (ms : List Sent) → count_by tells_content ms ≡ 0 → (th : ThreadName) → count_by (answers_to th) ms ≡ 0
none_told ms z th = fewer (answers_to th) tells_content (tells_one th) ms z

no_request : (ms : List Sent) → count_by asks_content ms ≡ 0 → (to : ℕ) (b : CellName) (n : ThreadName) (o : ℕ) (u : VarName) (es : List Equation) → Contains ms (sent_to to (msg.CellAsk b n o u es)) → ⊥
no_request ms z to b n o u es h = let some = there_counted asks_content ms (sent_to to (msg.CellAsk b n o u es)) h refl in absurd (omega (arith, z, some))

-- sums over requests that agree one by one, but where P holds
sums_or : (f g : EarlyRequest → ℕ) (P : Type 0) (rs : List EarlyRequest) → ((r : EarlyRequest) → Contains rs r → (f r ≡ g r) ⊎ P) → (sum_by f rs ≡ sum_by g rs) ⊎ P
sums_or f g P [] h = inl refl
sums_or f g P (r ∷ rs) h = go (h r (Contains-head r rs)) (sums_or f g P rs (λ q c. h q (Contains-tail r q rs c)))
  where
    go : (f r ≡ g r) ⊎ P → (sum_by f rs ≡ sum_by g rs) ⊎ P → (sum_by f (r ∷ rs) ≡ sum_by g (r ∷ rs)) ⊎ P
    go (inr x) y = inr x
    go (inl x) (inr y) = inr y
    go (inl x) (inl y) = let a = sum_by-cons f r rs in let b = sum_by-cons g r rs in inl (omega (arith, x, y, a, b))

sums_same : (f g : EarlyRequest → ℕ) (rs : List EarlyRequest) → ((r : EarlyRequest) → f r ≡ g r) → sum_by f rs ≡ sum_by g rs
sums_same f g [] h = refl
sums_same f g (r ∷ rs) h = let a = sum_by-cons f r rs in let b = sum_by-cons g r rs in let x = h r in let y = sums_same f g rs h in omega (arith, x, y, a, b)

sums_none : (f : EarlyRequest → ℕ) (rs : List EarlyRequest) → ((r : EarlyRequest) → f r ≡ 0) → sum_by f rs ≡ 0
sums_none f [] h = refl
sums_none f (r ∷ rs) h = let a = sum_by-cons f r rs in let x = h r in let y = sums_none f rs h in omega (arith, x, y, a)

pub early_more : (th : ThreadName) (rs : List EarlyRequest) (r : EarlyRequest) → early_for th (rs ++ r ∷ []) ≡ early_for th rs + cond (equal_thread th r.thread) 1 0
early_more th rs r =
    let a = sum_by-append (λ (x : EarlyRequest). cond (equal_thread th x.thread) 1 0) rs (r ∷ []) in
    let b = sum_by-cons (λ (x : EarlyRequest). cond (equal_thread th x.thread) 1 0) r [] in
    let none : sum_by (λ (x : EarlyRequest). cond (equal_thread th x.thread) 1 0) [] ≡ 0 = refl in omega (arith, a, b, none)

-- ---- rows

module _ (p : List Stmt) (R : ℕ → ThreadName → Type 0) (w v : Sites) (c : State) (d : Transition) where
  abbrev Goes : ℕ → ThreadName → Type 0
  Goes l th = (k : ℕ) × (k ≢ l) × R k th

  abbrev Answered : ℕ → ThreadName → Type 0
  Answered l th = (count_by (answers_to th) d.sent ≡ exchanges_by (away_exchange l th) p c d.picks) ⊎ Goes l th

  abbrev EarlyStays : Type 0
  EarlyStays = (b : CellName) → early_at (homes v) b ≡ early_at (homes w) b

  kept_same : EarlyStays → (b : CellName) (th : ThreadName) → early_for th (early_at (homes v) b) ≡ early_for th (early_at (homes w) b)
  kept_same same b th = ap (early_for th) (same b)

  was_early : EarlyStays → (b : CellName) (r : EarlyRequest) → Contains (early_at (homes v) b) r → Contains (early_at (homes w) b) r ⊎ R r.asking r.thread
  was_early same b r h = inl (subst (λ (rs : List EarlyRequest). Contains rs r) (same b) h)

  -- no content of a stationary cell is exchanged, asked for or told
  pub still_balances : (come : CellName → ThreadName → ℕ) → ((b : CellName) (th : ThreadName) → come b th ≡ 0) → EarlyStays → ((f : CellName → ThreadName → ℕ) → Vanishes f → exchanges_by f p c d.picks ≡ 0) → count_by asks_content d.sent ≡ 0 → count_by tells_content d.sent ≡ 0 → Balances p R come w v c d
  still_balances come nobody same none asks tells = record {
    asked = λ b th away. let x = kept_same same b th in let y = none (one_exchange b th) (one_vanishes b th away) in let z = nobody b th in inr (omega (arith, x, y, z));
    far = λ b th. inl (none_asked d.sent asks b th);
    answered = λ l th. let x = none_told d.sent tells th in let y = none (away_exchange l th) (away_vanishes l th) in inl (omega (arith, x, y));
    early = was_early same;
    letters = λ to b n o u es h. absurd (no_request d.sent asks to b n o u es h);
  }

  -- a thread exchanges at the home where it goes
  pub exchange_balances : (n : ThreadName) (b : CellName) → b.at ≢ 0 → R b.at n → EarlyStays → ((f : CellName → ThreadName → ℕ) → exchanges_by f p c d.picks ≡ f b n) → count_by asks_content d.sent ≡ 0 → count_by tells_content d.sent ≡ 0 → Balances p R none_came w v c d
  exchange_balances n b real goes same one asks tells = record {
    asked = λ a th away. asked a th (cell_cases a b) (threads_decide th n);
    far = λ a th. inl (none_asked d.sent asks a th);
    answered = λ l th. answered l th (threads_decide th n) (nat_cases b.at l);
    early = was_early same;
    letters = λ to a m o u es h. absurd (no_request d.sent asks to a m o u es h);
  }
    where
      Asked : CellName → ThreadName → Type 0
      Asked a th = R a.at th ⊎ (early_for th (early_at (homes v) a) + exchanges_by (one_exchange a th) p c d.picks ≡ early_for th (early_at (homes w) a) + 0)

      asked_none : (a : CellName) (th : ThreadName) → one_exchange a th b n ≡ 0 → Asked a th
      asked_none a th z = let x = kept_same same a th in let y = one (one_exchange a th) in inr (omega (arith, x, y, z))

      asked : (a : CellName) (th : ThreadName) → (a ≡ b) ⊎ (a ≢ b) → (th ≡ n) ⊎ (th ≢ n) → Asked a th
      asked a th (inl e) (inl f) = inl (subst (λ (x : CellName). R x.at th) (sym e) (subst (R b.at) (sym f) goes))
      asked a th (inr other) f = asked_none a th (other_cell a b th n other)
      asked a th (inl e) (inr other) = asked_none a th (other_thread a b th n other)

      answered_none : (l : ℕ) (th : ThreadName) → away_exchange l th b n ≡ 0 → Answered l th
      answered_none l th z = let x = none_told d.sent tells th in let y = one (away_exchange l th) in inl (omega (arith, x, y, z))

      answered : (l : ℕ) (th : ThreadName) → (th ≡ n) ⊎ (th ≢ n) → (b.at ≡ l) ⊎ (b.at ≢ l) → Answered l th
      answered l th (inr other) q = answered_none l th (away_none l th n b (inl other))
      answered l th (inl e) (inl home) = answered_none l th (away_none l th n b (inr home))
      answered l th (inl e) (inr other) = inr (b.at, other, subst (R b.at) (sym e) goes)

  -- a thread asks another site
  pub asks_balances : (a : Asking) (n : ThreadName) (i to : ℕ) (bundle : List Equation) → server a ≢ i → R i n → EarlyStays → d.picks ≡ [] → d.sent ≡ sent_to to (request a n i bundle) ∷ [] → Balances p R none_came w v c d
  asks_balances a n i to bundle other goes same picks sent = record {
    asked = λ b th away. let x = kept_same same b th in let y = no_picks (one_exchange b th) in inr (omega (arith, x, y));
    far = λ b th. subst (λ (ms : List Sent). (count_by (asks_content_for b th) ms ≡ 0) ⊎ ((l : ℕ) × (b.at ≢ l) × R l th)) (sym sent) (far a other b th);
    answered = λ l th. let y = no_picks (away_exchange l th) in let x = subst (λ (ms : List Sent). count_by (answers_to th) ms ≡ 0) (sym sent) (told a th) in inl (omega (arith, x, y));
    early = was_early same;
    letters = λ k b m o u es h. letters a b m o u es (sym (only_one to k (request a n i bundle) (msg.CellAsk b m o u es) (subst (λ (ms : List Sent). Contains ms (sent_to k (msg.CellAsk b m o u es))) sent h)));
  }
    where
      no_picks : (f : CellName → ThreadName → ℕ) → exchanges_by f p c d.picks ≡ 0
      no_picks f = ap (exchanges_by f p c) picks

      told : (a : Asking) (th : ThreadName) → count_by (answers_to th) (sent_to to (request a n i bundle) ∷ []) ≡ 0
      told (EndOf q) th = refl
      told (ContentOf b u) th = refl

      letters : (a : Asking) (b : CellName) (m : ThreadName) (o : ℕ) (u : VarName) (es : List Equation) → request a n i bundle ≡ msg.CellAsk b m o u es → R o m
      letters (EndOf q) b m o u es e = cc
      letters (ContentOf e0 u0) b m o u es e =
          let thread : n ≡ m = cc in
          let site : i ≡ o = cc in subst (λ (l : ℕ). R l m) site (subst (R i) thread goes)

      far : (a : Asking) → server a ≢ i → (b : CellName) (th : ThreadName) → (count_by (asks_content_for b th) (sent_to to (request a n i bundle) ∷ []) ≡ 0) ⊎ ((l : ℕ) × (b.at ≢ l) × R l th)
      far (EndOf q) away b th = inl refl
      far (ContentOf e u) away b th = go (cell_cases b e) (threads_decide th n)
        where
          sum : count_by (asks_content_for b th) (sent_to to (msg.CellAsk e n i u bundle) ∷ []) ≡ cond {A = ℕ} (cond (equal_cell b e) (equal_thread th n) false) 1 0 + 0
          sum = sum_by-cons (λ (y : Sent). cond {A = ℕ} (asks_content_for b th y) 1 0) (sent_to to (msg.CellAsk e n i u bundle)) []

          none : cond {A = ℕ} (cond (equal_cell b e) (equal_thread th n) false) 1 0 ≡ 0 → count_by (asks_content_for b th) (sent_to to (msg.CellAsk e n i u bundle) ∷ []) ≡ 0
          none z = omega (arith, sum, z)

          go : (b ≡ e) ⊎ (b ≢ e) → (th ≡ n) ⊎ (th ≢ n) → (count_by (asks_content_for b th) (sent_to to (msg.CellAsk e n i u bundle) ∷ []) ≡ 0) ⊎ ((l : ℕ) × (b.at ≢ l) × R l th)
          go (inl x) (inl y) = inr (i, λ z. away (sym (ap (λ (q : CellName). q.at) x) ∙ z), subst (R i) (sym y) goes)
          go (inr x) y = inl (none (ap (λ (q : Bool). cond {A = ℕ} (cond q (equal_thread th n) false) 1 0) (cells_differ b e x)))
          go (inl x) (inr y) = inl (none (both (equal_cell b e) (is_other th n y)))
            where
              both : (q : Bool) → equal_thread th n ≡ false → cond {A = ℕ} (cond q (equal_thread th n) false) 1 0 ≡ 0
              both true f = ap (λ (z : Bool). cond {A = ℕ} z 1 0) f
              both false f = refl

  -- the home keeps a request: one of a thread that goes there, or one that came
  module _ (b : CellName) (r : EarlyRequest) (come : CellName → ThreadName → ℕ) (goes : R r.asking r.thread) (grown : early_at (homes v) b ≡ early_at (homes w) b ++ r ∷ []) (others : (a : CellName) → b ≢ a → early_at (homes v) a ≡ early_at (homes w) a)
      (there : (a : CellName) → b ≢ a → (th : ThreadName) → come a th ≡ 0) (here : (th : ThreadName) → R b.at th ⊎ (come b th ≡ cond (equal_thread th r.thread) 1 0)) (picks : d.picks ≡ []) (sent : d.sent ≡ []) where
    pub early_balances : Balances p R come w v c d
    early_balances = record {
      asked = λ a th away. asked a th (cell_cases b a);
      far = λ a th. inl (ap (count_by (asks_content_for a th)) sent);
      answered = λ l th. let x : count_by (answers_to th) d.sent ≡ 0 = ap (count_by (answers_to th)) sent in let y = no_picks (away_exchange l th) in inl (omega (arith, x, y));
      early = λ a q h. early a q h (cell_cases b a);
      letters = λ to a n o u es h. absurd (nothing _ (subst (λ (ms : List Sent). Contains ms (sent_to to (msg.CellAsk a n o u es))) sent h));
    }
      where
        no_picks : (f : CellName → ThreadName → ℕ) → exchanges_by f p c d.picks ≡ 0
        no_picks f = ap (exchanges_by f p c) picks

        Asked : CellName → ThreadName → Type 0
        Asked a th = R a.at th ⊎ (early_for th (early_at (homes v) a) + exchanges_by (one_exchange a th) p c d.picks ≡ early_for th (early_at (homes w) a) + come a th)

        own : (th : ThreadName) → R b.at th ⊎ (come b th ≡ cond (equal_thread th r.thread) 1 0) → Asked b th
        own th (inl h) = inl h
        own th (inr h) =
            let x : early_for th (early_at (homes v) b) ≡ early_for th (early_at (homes w) b ++ r ∷ []) = ap (early_for th) grown in
            let y = early_more th (early_at (homes w) b) r in
            let z = no_picks (one_exchange b th) in inr (omega (arith, x, y, z, h))

        asked : (a : CellName) (th : ThreadName) → (b ≡ a) ⊎ (b ≢ a) → Asked a th
        asked a th (inl e) = subst (λ (x : CellName). Asked x th) e (own th (here th))
        asked a th (inr other) =
            let x : early_for th (early_at (homes v) a) ≡ early_for th (early_at (homes w) a) = ap (early_for th) (others a other) in
            let y = there a other th in
            let z = no_picks (one_exchange a th) in inr (omega (arith, x, y, z))

        early : (a : CellName) (q : EarlyRequest) → Contains (early_at (homes v) a) q → (b ≡ a) ⊎ (b ≢ a) → Contains (early_at (homes w) a) q ⊎ R q.asking q.thread
        early a q h (inr other) = inl (subst (λ (rs : List EarlyRequest). Contains rs q) (others a other) h)
        early a q h (inl e) = split (Contains-append_cases (early_at (homes w) b) (r ∷ []) q (subst (λ (rs : List EarlyRequest). Contains rs q) grown (subst (λ (x : CellName). Contains (early_at (homes v) x) q) (sym e) h)))
          where
            last : (r ≡ q) ⊎ Contains [] q → R q.asking q.thread
            last (inl k) = subst (λ (x : EarlyRequest). R x.asking x.thread) k goes
            last (inr k) = absurd (nothing q k)

            split : Contains (early_at (homes w) b) q ⊎ Contains (r ∷ []) q → Contains (early_at (homes w) a) q ⊎ R q.asking q.thread
            split (inl k) = inl (subst (λ (x : CellName). Contains (early_at (homes w) x) q) e k)
            split (inr k) = inr (last (Contains-cons_cases r q [] k))

  -- the home serves these requests
  module _ (b : CellName) (i : ℕ) (home : b.at ≡ i) (real : b.at ≢ 0) (rs : List EarlyRequest) (come : CellName → ThreadName → ℕ) (goes : (r : EarlyRequest) → Contains rs r → R r.asking r.thread)
      (here : (th : ThreadName) → early_for th (early_at (homes v) b) + early_for th rs ≡ early_for th (early_at (homes w) b) + come b th) (others : (a : CellName) → b ≢ a → early_at (homes v) a ≡ early_at (homes w) a) (there : (a : CellName) → b ≢ a → (th : ThreadName) → come a th ≡ 0)
      (from : (r : EarlyRequest) → Contains (early_at (homes v) b) r → Contains (early_at (homes w) b) r)
      (exchanged : (f : CellName → ThreadName → ℕ) → exchanges_by f p c d.picks ≡ sum_by (λ (r : EarlyRequest). f b r.thread) rs) (asks : count_by asks_content d.sent ≡ 0)
      (told : (th : ThreadName) → count_by (answers_to th) d.sent ≡ sum_by (λ (r : EarlyRequest). cond (r.asking == i) 0 (cond (equal_thread th r.thread) 1 0)) rs) where
    pub served_balances : Balances p R come w v c d
    served_balances = record {
      asked = λ a th away. inr (asked a th (cell_cases b a));
      far = λ a th. inl (none_asked d.sent asks a th);
      answered = λ l th. answered l th (nat_cases b.at l);
      early = λ a r h. inl (early a r h (cell_cases b a));
      letters = λ to a n o u es h. absurd (no_request d.sent asks to a n o u es h);
    }
      where
        own : (th : ThreadName) → early_for th (early_at (homes v) b) + exchanges_by (one_exchange b th) p c d.picks ≡ early_for th (early_at (homes w) b) + come b th
        own th =
            let x = exchanged (one_exchange b th) in
            let y = sums_same (λ (r : EarlyRequest). one_exchange b th b r.thread) (λ (r : EarlyRequest). cond (equal_thread th r.thread) 1 0) rs (λ r. this_cell b th r.thread) in
            let z = here th in omega (arith, x, y, z)

        asked : (a : CellName) (th : ThreadName) → (b ≡ a) ⊎ (b ≢ a) → early_for th (early_at (homes v) a) + exchanges_by (one_exchange a th) p c d.picks ≡ early_for th (early_at (homes w) a) + come a th
        asked a th (inl e) = subst (λ (x : CellName). early_for th (early_at (homes v) x) + exchanges_by (one_exchange x th) p c d.picks ≡ early_for th (early_at (homes w) x) + come x th) e (own th)
        asked a th (inr other) =
            let x = exchanged (one_exchange a th) in
            let y = sums_none (λ (r : EarlyRequest). one_exchange a th b r.thread) rs (λ r. other_cell a b th r.thread (λ e. other (sym e))) in
            let z = there a other th in
            let k : early_for th (early_at (homes v) a) ≡ early_for th (early_at (homes w) a) = ap (early_for th) (others a other) in omega (arith, x, y, z, k)

        early : (a : CellName) (r : EarlyRequest) → Contains (early_at (homes v) a) r → (b ≡ a) ⊎ (b ≢ a) → Contains (early_at (homes w) a) r
        early a r h (inl e) = subst (λ (x : CellName). Contains (early_at (homes w) x) r) e (from r (subst (λ (x : CellName). Contains (early_at (homes v) x) r) (sym e) h))
        early a r h (inr other) = subst (λ (rs : List EarlyRequest). Contains rs r) (others a other) h

        -- an answer that is told, or none for a thread that goes at the home
        answer_one : ThreadName → EarlyRequest → ℕ
        answer_one th r = cond (r.asking == i) 0 (cond (equal_thread th r.thread) 1 0)

        at_home : (l : ℕ) (th : ThreadName) → b.at ≡ l → (r : EarlyRequest) → Contains rs r → (answer_one th r ≡ away_exchange l th b r.thread) ⊎ Goes l th
        at_home l th same r h = go (r.asking == i) refl (threads_decide th r.thread)
          where
            zero_is : away_exchange l th b r.thread ≡ 0
            zero_is = away_none l th r.thread b (inr same)

            go : (x : Bool) → (r.asking == i) ≡ x → (th ≡ r.thread) ⊎ (th ≢ r.thread) → (cond x 0 (cond (equal_thread th r.thread) 1 0) ≡ away_exchange l th b r.thread) ⊎ Goes l th
            go true e q = inl (sym zero_is)
            go false e (inr other) = inl (ap (λ (y : Bool). cond {A = ℕ} y 1 0) (is_other th r.thread other) ∙ sym zero_is)
            go false e (inl q) = inr (r.asking, λ z. let yes : (r.asking == i) ≡ true = (nat_decides r.asking i).1 (z ∙ sym same ∙ home) in cc, subst (R r.asking) (sym q) (goes r h))

        elsewhere : (l : ℕ) (th : ThreadName) → b.at ≢ l → (r : EarlyRequest) → Contains rs r → (answer_one th r ≡ away_exchange l th b r.thread) ⊎ Goes l th
        elsewhere l th differs r h = go (r.asking == i) refl (threads_decide th r.thread)
          where
            one_is : away_exchange l th b r.thread ≡ cond (equal_thread th r.thread) 1 0
            one_is = away_one l th r.thread b real differs

            go : (x : Bool) → (r.asking == i) ≡ x → (th ≡ r.thread) ⊎ (th ≢ r.thread) → (cond x 0 (cond (equal_thread th r.thread) 1 0) ≡ away_exchange l th b r.thread) ⊎ Goes l th
            go false e q = inl (sym one_is)
            go true e (inr other) = inl (sym (one_is ∙ ap (λ (y : Bool). cond {A = ℕ} y 1 0) (is_other th r.thread other)))
            go true e (inl q) = inr (r.asking, λ z. differs (home ∙ sym ((nat_decides r.asking i).0 e) ∙ z), subst (R r.asking) (sym q) (goes r h))

        answered : (l : ℕ) (th : ThreadName) → (b.at ≡ l) ⊎ (b.at ≢ l) → Answered l th
        answered l th q = go (sums_or (answer_one th) (λ (r : EarlyRequest). away_exchange l th b r.thread) (Goes l th) rs (by q))
          where
            by : (b.at ≡ l) ⊎ (b.at ≢ l) → (r : EarlyRequest) → Contains rs r → (answer_one th r ≡ away_exchange l th b r.thread) ⊎ Goes l th
            by (inl same) = at_home l th same
            by (inr differs) = elsewhere l th differs

            go : (sum_by (answer_one th) rs ≡ sum_by (λ (r : EarlyRequest). away_exchange l th b r.thread) rs) ⊎ Goes l th → Answered l th
            go (inr h) = inr h
            go (inl h) = let x = told th in let y = exchanged (away_exchange l th) in inl (omega (arith, h, x, y))
