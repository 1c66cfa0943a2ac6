-- What a row of a site sends of requests and answers, the machine's steps that pay for it, and the threads that wait for answers.
use Rattle.std.proofs.Common.{arith, ◌≡◌, ◌∙◌, sym, ap, refl, subst, ℕ, ◌+◌, ◌≤◌, List, [], ◌∷◌, ◌++◌, ◌⊎◌, inl, inr, Bool, true, false, cond, Some, length, length-append}
use Rattle.std.specs.Prelude.{Option, ◌≢◌, ◌==◌, Contains}
use Rattle.std.specs.List.{count_by}
use Rattle.std.proofs.lemmas.List.Sums.{sum_by-append, sum_by-cons}
use Rattle.std.proofs.lemmas.List.Elements.{Contains-append_left, Contains-append_right, Contains-append_cases}
use Rattle.tree_node.specs.declared.names.VarName.{VarName}
use Rattle.tree_node.specs.declared.names.CellName.{CellName}
use Rattle.tree_node.specs.declared.names.ThreadName.{ThreadName}
use Rattle.tree_node.specs.declared.pick.Pick.{Pick}
use Rattle.tree_node.specs.Assoc.{value_of, with_value}
use Rattle.tree_node.specs.Each.{Each, AreDistinct}
use Rattle.tree_node.specs.State.{Stack, State, equal_thread}
use Rattle.tree_node.specs.Store.{Equation}
use Rattle.tree_node.proofs.ClassLemmas.{Contains-cons_cases, Contains-head, Contains-tail}
use Rattle.kernel_syntax.specs.declared.stmt.Stmt.{Stmt}
use Rattle.site_message.specs.declared.message.Msg.{Msg}
use Rattle.site_message.specs.declared.message.Msg.TheVariants as msg
use Rattle.site_message.specs.declared.message.Sent.{Sent}
use Rattle.oz_model.specs.Effect.{Effect, CellChange, Stays, Made, Exchanged}
use Rattle.oz_model.specs.Run.{IsRun}
use Rattle.oz_model.specs.Step.{next}
use Rattle.thread_roster.specs.declared.mode.Awaited.{Awaited}
use Rattle.thread_roster.specs.declared.mode.Mode.TheVariants as mode
use Rattle.site_model.specs.Requests.{Answer, NewEnd, OldContent}
use Rattle.site_model.specs.Unit.{telling_row}
use Rattle.bind_protocol.specs.Rows.{sent_message}
use Rattle.thread_roster.proofs.NameLemmas.{name_cases as threads_decide}
use Rattle.world_model.proofs.KeyLemmas.{with_there}
use Rattle.site_model.specs.Bundle.{with_own_bundle}
use Rattle.site_model.specs.Site.{Site, Threads, ThreadState}
use Rattle.site_model.specs.Transition.{Transition, sequence, without_output, with_messages}
use Rattle.world_model.specs.Claims.{Asking, EndOf, ContentOf, answer, request, keeper_of}
use Rattle.world_model.specs.Shown.{is_asking}
use Rattle.world_model.specs.World.{threads}
use Rattle.world_model.proofs.MailLemmas.{nothing, sent_to}
use Rattle.world_model.proofs.PutLemmas.{nat_decides}
use Rattle.world_cells.specs.Standing.{IsStanding}
use Rattle.world_answers.specs.AnswerCounts.{asks_end, tells_end, tells_home, asks_content, tells_content, counted, sends_made, send_one, exchange_one, cell_one, placed_exchanges, placed_cells}
use Rattle.world_answers.proofs.BesideLemmas.{AreStanding}
use Rattle.world_answers.proofs.SpotLemmas.{answer_tells}
use Rattle.world_answers.proofs.StandLemmas.{all_stand, answer_not}
use Rattle.tree_node.proofs.NameLemmas.{same_thread_decides}

-- ---- lists of threads

module _ {X : Type 0} (P : X → Type 0) where
  each_has : (xs : List X) (x : X) → Each P xs → Contains xs x → P x
  each_has [] x h k = absurd (nothing _ k)
  each_has (y ∷ ys) x h k = go (Contains-cons_cases y x ys k) (λ q. each_has ys x h.1 q)
    where
      go : (y ≡ x) ⊎ Contains ys x → (Contains ys x → P x) → P x
      go (inl e) ih = subst P e h.0
      go (inr q) ih = ih q

  pub has_each : (xs : List X) → ((x : X) → Contains xs x → P x) → Each P xs
  has_each [] f = tt
  has_each (x ∷ xs) f = (f x (Contains-head x xs), has_each xs (λ y h. f y (Contains-tail x y xs h)))

-- the list without this thread
abbrev pub dropped : ThreadName → List ThreadName → List ThreadName
dropped n [] = []
dropped n (m ∷ ms) = cond (equal_thread n m) ms (m ∷ dropped n ms)

dropped_from : (n : ThreadName) (ms : List ThreadName) (x : ThreadName) → Contains (dropped n ms) x → Contains ms x
dropped_from n [] x h = h
dropped_from n (m ∷ ms) x h = go (equal_thread n m) h (dropped_from n ms x)
  where
    go : (b : Bool) → Contains (cond b ms (m ∷ dropped n ms)) x → (Contains (dropped n ms) x → Contains ms x) → Contains (m ∷ ms) x
    go true k ih = Contains-tail m x ms k
    go false k ih = one (Contains-cons_cases m x (dropped n ms) k)
      where
        one : (m ≡ x) ⊎ Contains (dropped n ms) x → Contains (m ∷ ms) x
        one (inl e) = subst (Contains (m ∷ ms)) e (Contains-head m ms)
        one (inr q) = Contains-tail m x ms (ih q)

dropped_not : (n : ThreadName) (ms : List ThreadName) (x : ThreadName) → AreDistinct ms → Contains (dropped n ms) x → n ≢ x
dropped_not n [] x d h = absurd (nothing _ h)
dropped_not n (m ∷ ms) x d h = go (equal_thread n m) refl h (dropped_not n ms x d.1)
  where
    go : (b : Bool) → equal_thread n m ≡ b → Contains (cond b ms (m ∷ dropped n ms)) x → (Contains (dropped n ms) x → n ≢ x) → n ≢ x
    go true e k ih = λ same. each_has (λ y. m ≢ y) ms x d.0 k (sym ((same_thread_decides n m).0 e) ∙ same)
    go false e k ih = one (Contains-cons_cases m x (dropped n ms) k)
      where
        one : (m ≡ x) ⊎ Contains (dropped n ms) x → n ≢ x
        one (inl q) = λ same. let yes : equal_thread n m ≡ true = (same_thread_decides n m).1 (same ∙ sym q) in cc
        one (inr q) = ih q

dropped_distinct : (n : ThreadName) (ms : List ThreadName) → AreDistinct ms → AreDistinct (dropped n ms)
dropped_distinct n [] d = tt
dropped_distinct n (m ∷ ms) d = go (equal_thread n m) (dropped_distinct n ms d.1)
  where
    go : (b : Bool) → AreDistinct (dropped n ms) → AreDistinct (cond b ms (m ∷ dropped n ms))
    go true ih = d.1
    go false ih = (has_each (λ y. m ≢ y) (dropped n ms) (λ x h. each_has (λ y. m ≢ y) ms x d.0 (dropped_from n ms x h)), ih)

dropped_long : (n : ThreadName) (ms : List ThreadName) → length ms ≤ 1 + length (dropped n ms)
dropped_long n [] = omega arith
dropped_long n (m ∷ ms) = go (equal_thread n m) (dropped_long n ms)
  where
    go : (b : Bool) → length ms ≤ 1 + length (dropped n ms) → length (m ∷ ms) ≤ 1 + length (cond b ms (m ∷ dropped n ms))
    go true ih = omega arith
    go false ih = omega (arith, ih)

-- without all of these
abbrev pub left_over : List ThreadName → List ThreadName → List ThreadName
left_over [] ms = ms
left_over (n ∷ ns) ms = left_over ns (dropped n ms)

pub over_from : (ns ms : List ThreadName) (x : ThreadName) → Contains (left_over ns ms) x → Contains ms x
over_from [] ms x h = h
over_from (n ∷ ns) ms x h = dropped_from n ms x (over_from ns (dropped n ms) x h)

pub over_distinct : (ns ms : List ThreadName) → AreDistinct ms → AreDistinct (left_over ns ms)
over_distinct [] ms d = d
over_distinct (n ∷ ns) ms d = over_distinct ns (dropped n ms) (dropped_distinct n ms d)

pub over_not : (ns ms : List ThreadName) (x : ThreadName) → AreDistinct ms → Contains (left_over ns ms) x → Contains ns x → ⊥
over_not [] ms x d h k = nothing _ k
over_not (n ∷ ns) ms x d h k = go (Contains-cons_cases n x ns k) (λ q. over_not ns (dropped n ms) x (dropped_distinct n ms d) h q)
  where
    go : (n ≡ x) ⊎ Contains ns x → (Contains ns x → ⊥) → ⊥
    go (inl e) ih = dropped_not n ms x d (over_from ns (dropped n ms) x h) e
    go (inr q) ih = ih q

pub over_long : (ns ms : List ThreadName) → length ms ≤ length ns + length (left_over ns ms)
over_long [] ms = omega arith
over_long (n ∷ ns) ms = let one = dropped_long n ms in let rest = over_long ns (dropped n ms) in omega (arith, one, rest)

-- ---- counts

pub count_append : (f : Sent → Bool) (ms os : List Sent) → count_by f (ms ++ os) ≡ count_by f ms + count_by f os
count_append f ms os = sum_by-append (λ x. cond (f x) 1 0) ms os

pub counted_append : (f : Effect → ℕ) (p : List Stmt) (ks ls : List Pick) (s t : State) → IsRun p s ks t → counted f p s (ks ++ ls) ≡ counted f p s ks + counted f p t ls
counted_append f p [] ls s t h = let same : counted f p s ls ≡ counted f p t ls = ap (λ (x : State). counted f p x ls) (sym h) in omega (arith, same)
counted_append f p (k ∷ ks) ls s t (m, step, rest) =
    let ih = counted_append f p ks ls m t rest in
    let here : counted f p (next p s k) (ks ++ ls) ≡ counted f p m (ks ++ ls) = ap (λ (x : State). counted f p x (ks ++ ls)) (sym step.1) in
    let there : counted f p (next p s k) ks ≡ counted f p m ks = ap (λ (x : State). counted f p x ks) (sym step.1) in
    omega (arith, ih, here, there)

-- nothing of requests and answers is among these
pub record HasNone (ms : List Sent) : Type 0 where
  pub ends_asked : count_by asks_end ms ≡ 0
  pub ends_told : count_by tells_end ms ≡ 0
  pub homes_told : count_by tells_home ms ≡ 0
  pub contents_asked : count_by asks_content ms ≡ 0
  pub contents_told : count_by tells_content ms ≡ 0

with_one : (m : Sent) (ms : List Sent) → IsStanding m.msg → HasNone ms → HasNone (m ∷ ms)
with_one m ms stands ih = record {
  ends_asked = more asks_end one.0 ih.ends_asked;
  ends_told = more tells_end one.1 ih.ends_told;
  homes_told = more tells_home one.2 ih.homes_told;
  contents_asked = more asks_content one.3 ih.contents_asked;
  contents_told = more tells_content one.4 ih.contents_told;
}
  where
    more : (f : Sent → Bool) → f m ≡ false → count_by f ms ≡ 0 → count_by f (m ∷ ms) ≡ 0
    more f e none = let sum = sum_by-cons (λ x. cond (f x) 1 0) m ms in let zero : ◌≡◌ {A = ℕ} (cond (f m) 1 0) 0 = ap (λ (b : Bool). cond b 1 0) e in omega (arith, sum, zero, none)

    tests : (to : ℕ) (x : Msg) → IsStanding x → (asks_end (sent_to to x) ≡ false) × (tells_end (sent_to to x) ≡ false) × (tells_home (sent_to to x) ≡ false) × (asks_content (sent_to to x) ≡ false) × (tells_content (sent_to to x) ≡ false)
    tests to (msg.Spawn n code vars bundle) k = (refl, refl, refl, refl, refl)
    tests to (msg.Register x o) k = (refl, refl, refl, refl, refl)
    tests to (msg.BindReq x n t bundle) k = (refl, refl, refl, refl, refl)
    tests to (msg.Binding x t bundle) k = (refl, refl, refl, refl, refl)
    tests to (msg.Get c o) k = (refl, refl, refl, refl, refl)
    tests to (msg.Forward c o) k = (refl, refl, refl, refl, refl)
    tests to (msg.Put c v bundle) k = (refl, refl, refl, refl, refl)
    tests to (msg.PortSend q n o) k = absurd k
    tests to (msg.PortEnd n old new bundle) k = absurd k
    tests to (msg.CellMake c v bundle) k = absurd k
    tests to (msg.CellAsk c n o v bundle) k = absurd k
    tests to (msg.CellOld n v bundle) k = absurd k

    one : (asks_end m ≡ false) × (tells_end m ≡ false) × (tells_home m ≡ false) × (asks_content m ≡ false) × (tells_content m ≡ false)
    one = tests m.to m.msg stands

pub standing_none : (ms : List Sent) → AreStanding ms → HasNone ms
standing_none [] h = record { ends_asked = refl; ends_told = refl; homes_told = refl; contents_asked = refl; contents_told = refl }
standing_none (m ∷ ms) h = with_one m ms h.0 (standing_none ms h.1)

-- ---- rows

-- the row asks for nothing. It answers these threads, and the machine's steps pay for what it tells; who waits for an answer of another
-- site goes on waiting, but those of whom `back` holds
pub record Owes (p : List Stmt) (s : Site) (c : State) (d : Transition) (served : List ThreadName) (back : ThreadName → Type 0) : Type 0 where
  pub ends : count_by tells_end d.sent ≤ sends_made p c d.picks
  pub olds : count_by tells_content d.sent ≤ placed_exchanges p c d.picks
  pub homes : count_by tells_home d.sent ≤ placed_cells p c d.picks
  pub asks : count_by asks_end d.sent + count_by asks_content d.sent ≡ 0
  pub answers : length served ≤ count_by tells_end d.sent + count_by tells_content d.sent
  pub only : (to : ℕ) (n : ThreadName) (x : Answer) (bundle : List Equation) → Contains d.sent (sent_to to (answer n x bundle)) → Contains served n
  pub waits : (a : Awaited) → is_asking (mode.WaitsFor a) ≡ true → keeper_of a ≢ s.records.site → (n : ThreadName) → (back n → ⊥) → (st : Stack) → value_of equal_thread s.threads n ≡ Some (st, mode.WaitsFor a) → value_of equal_thread d.site.threads n ≡ Some (st, mode.WaitsFor a)

-- nobody comes back
abbrev pub Nobody : ThreadName → Type 0
Nobody n = ⊥

-- one row and then another
pub owes_then : (p : List Stmt) (s : Site) (c m : State) (d e : Transition) (ns ms : List ThreadName) → IsRun p c d.picks m → d.site.records.site ≡ s.records.site → Owes p s c d ns Nobody → Owes p d.site m e ms Nobody → Owes p s c (sequence d e) (ns ++ ms) Nobody
owes_then p s c m d e ns ms run number a b = record {
  ends = (let l = count_append tells_end d.sent e.sent in let r = counted_append (λ (x : Effect). send_one x.port) p d.picks e.picks c m run in let x = a.ends in let y = b.ends in omega (arith, l, r, x, y));
  olds = (let l = count_append tells_content d.sent e.sent in let r = counted_append (λ (x : Effect). exchange_one x.cell) p d.picks e.picks c m run in let x = a.olds in let y = b.olds in omega (arith, l, r, x, y));
  homes = (let l = count_append tells_home d.sent e.sent in let r = counted_append (λ (x : Effect). cell_one x.cell) p d.picks e.picks c m run in let x = a.homes in let y = b.homes in omega (arith, l, r, x, y));
  asks = (let l = count_append asks_end d.sent e.sent in let r = count_append asks_content d.sent e.sent in let x = a.asks in let y = b.asks in omega (arith, l, r, x, y));
  answers = (let l = count_append tells_end d.sent e.sent in let r = count_append tells_content d.sent e.sent in let k = length-append ns ms in let x = a.answers in let y = b.answers in omega (arith, l, r, k, x, y));
  only = λ to n x bundle h. only to n x bundle (Contains-append_cases d.sent e.sent _ h);
  waits = λ w asks far n back st h. b.waits w asks (λ k. far (k ∙ number)) n back st (a.waits w asks far n back st h);
}
  where
    only : (to : ℕ) (n : ThreadName) (x : Answer) (bundle : List Equation) → Contains d.sent (sent_to to (answer n x bundle)) ⊎ Contains e.sent (sent_to to (answer n x bundle)) → Contains (ns ++ ms) n
    only to n x bundle (inl h) = Contains-append_left ns ms n (a.only to n x bundle h)
    only to n x bundle (inr h) = Contains-append_right ns ms n (b.only to n x bundle h)

-- a row without requests and answers
pub owes_none : (p : List Stmt) (s : Site) (c : State) (d : Transition) (back : ThreadName → Type 0) → AreStanding d.sent →
    ((a : Awaited) → is_asking (mode.WaitsFor a) ≡ true → keeper_of a ≢ s.records.site → (n : ThreadName) → (back n → ⊥) → (st : Stack) → value_of equal_thread s.threads n ≡ Some (st, mode.WaitsFor a) → value_of equal_thread d.site.threads n ≡ Some (st, mode.WaitsFor a)) → Owes p s c d [] back
owes_none p s c d back stands waits = record {
  ends = (let z = none.ends_told in omega (arith, z));
  olds = (let z = none.contents_told in omega (arith, z));
  homes = (let z = none.homes_told in omega (arith, z));
  asks = (let y = none.ends_asked in let z = none.contents_asked in omega (arith, y, z));
  answers = omega arith;
  only = λ to n x bundle h. absurd (answer_not n x bundle (all_stand d.sent stands to (answer n x bundle) h));
  waits = waits;
}
  where
    none : HasNone d.sent
    none = standing_none d.sent stands

-- the machine's steps pay for an answer
abbrev pub Pays : List Stmt → State → List Pick → Answer → Type 0
Pays p c ks (NewEnd old new) = 1 ≤ sends_made p c ks
Pays p c ks (OldContent v) = 1 ≤ placed_exchanges p c ks

-- one of few messages is one of one
pub only_one : (to a : ℕ) (x m : Msg) → Contains (sent_to to x ∷ []) (sent_to a m) → m ≡ x
only_one to a x m h = go (Contains-cons_cases _ _ [] h)
  where
    go : (sent_to to x ≡ sent_to a m) ⊎ Contains [] (sent_to a m) → m ≡ x
    go (inl e) = sym (ap (λ (o : Sent). o.msg) e)
    go (inr q) = absurd (nothing _ q)

-- the row of a site that answers one thread
pub owes_answer : (p : List Stmt) (s : Site) (c : State) (d : Transition) (to : ℕ) (n : ThreadName) (y : Answer) (bundle : List Equation) → d.sent ≡ sent_to to (answer n y bundle) ∷ [] → d.site.threads ≡ s.threads → Pays p c d.picks y → Owes p s c d (n ∷ []) Nobody
owes_answer p s c d to n y bundle sent threads_are pays = go y sent pays
  where
    waits : (a : Awaited) → is_asking (mode.WaitsFor a) ≡ true → keeper_of a ≢ s.records.site → (m : ThreadName) → (⊥ → ⊥) → (st : Stack) → value_of equal_thread s.threads m ≡ Some (st, mode.WaitsFor a) → value_of equal_thread d.site.threads m ≡ Some (st, mode.WaitsFor a)
    waits a asks far m back st h = ap (λ (ts : Threads). value_of equal_thread ts m) threads_are ∙ h

    only : (y : Answer) → d.sent ≡ sent_to to (answer n y bundle) ∷ [] → (a : ℕ) (m : ThreadName) (x : Answer) (es : List Equation) → Contains d.sent (sent_to a (answer m x es)) → Contains (n ∷ []) m
    only y sent a m x es h = subst (Contains (n ∷ [])) (sym (same y x (only_one to a (answer n y bundle) (answer m x es) (subst (λ (ms : List Sent). Contains ms (sent_to a (answer m x es))) sent h)))) (Contains-head n [])
      where
        same : (y x : Answer) → answer m x es ≡ answer n y bundle → m ≡ n
        same (NewEnd o u) (NewEnd q v) e = cc
        same (NewEnd o u) (OldContent v) e = cc
        same (OldContent o) (NewEnd q v) e = cc
        same (OldContent o) (OldContent v) e = cc

    go : (y : Answer) → d.sent ≡ sent_to to (answer n y bundle) ∷ [] → Pays p c d.picks y → Owes p s c d (n ∷ []) Nobody
    go (NewEnd old new) is pay = record {
      ends = subst (λ (ms : List Sent). count_by tells_end ms ≤ sends_made p c d.picks) (sym is) pay;
      olds = subst (λ (ms : List Sent). count_by tells_content ms ≤ placed_exchanges p c d.picks) (sym is) (omega arith);
      homes = subst (λ (ms : List Sent). count_by tells_home ms ≤ placed_cells p c d.picks) (sym is) (omega arith);
      asks = subst (λ (ms : List Sent). count_by asks_end ms + count_by asks_content ms ≡ 0) (sym is) refl;
      answers = subst (λ (ms : List Sent). 1 ≤ count_by tells_end ms + count_by tells_content ms) (sym is) (omega arith);
      only = only (NewEnd old new) is;
      waits = waits;
    }
    go (OldContent v) is pay = record {
      ends = subst (λ (ms : List Sent). count_by tells_end ms ≤ sends_made p c d.picks) (sym is) (omega arith);
      olds = subst (λ (ms : List Sent). count_by tells_content ms ≤ placed_exchanges p c d.picks) (sym is) pay;
      homes = subst (λ (ms : List Sent). count_by tells_home ms ≤ placed_cells p c d.picks) (sym is) (omega arith);
      asks = subst (λ (ms : List Sent). count_by asks_end ms + count_by asks_content ms ≡ 0) (sym is) refl;
      answers = subst (λ (ms : List Sent). 1 ≤ count_by tells_end ms + count_by tells_content ms) (sym is) (omega arith);
      only = only (OldContent v) is;
      waits = waits;
    }

-- the row that makes a cell, at its home or elsewhere, or that has to do with no cell
pub record TellsCell (ch : CellChange) (ms : List Sent) : Type 0 where
  pub ends : count_by tells_end ms ≡ 0
  pub olds : count_by tells_content ms ≡ 0
  pub homes : count_by tells_home ms ≤ cell_one ch
  pub asks : count_by asks_end ms + count_by asks_content ms ≡ 0
  pub only : (to : ℕ) (n : ThreadName) (x : Answer) (bundle : List Equation) → Contains ms (sent_to to (answer n x bundle)) → ⊥

pub tells_cell : (limit : ℕ) (ch : CellChange) (t : Site) → ((c : CellName) (v : VarName) → ch ≡ Made c v → c.at ≢ 0) → TellsCell ch (telling_row limit ch t).sent
tells_cell limit Stays t far = record { ends = refl; olds = refl; homes = omega arith; asks = refl; only = λ to n x bundle h. nothing _ h }
tells_cell limit (Exchanged c new told) t far = record { ends = refl; olds = refl; homes = omega arith; asks = refl; only = λ to n x bundle h. nothing _ h }
tells_cell limit (Made c v) t far = go (c.at == t.records.site) (c.at == 0) refl
  where
    go : (b z : Bool) → (c.at == 0) ≡ z → TellsCell (Made c v) (cond b (without_output t) (with_messages t (with_own_bundle limit t.equations (sent_message c.at (msg.CellMake c v [])) ∷ []))).sent
    go true z e = record { ends = refl; olds = refl; homes = omega arith; asks = refl; only = λ to n x bundle h. nothing _ h }
    go false true e = absurd (far c v refl ((nat_decides c.at 0).0 e))
    go false false e = record {
      ends = refl;
      olds = refl;
      homes = rw e (omega arith);
      asks = refl;
      only = λ to n x bundle h. answer_tells n x bundle c v _ (only_one c.at to (msg.CellMake c v _) (answer n x bundle) h);
    }

pub owes_cell : (p : List Stmt) (s : Site) (c : State) (d : Transition) (ch : CellChange) → TellsCell ch d.sent → cell_one ch ≤ placed_cells p c d.picks →
    ((a : Awaited) (n : ThreadName) (st : Stack) → value_of equal_thread s.threads n ≡ Some (st, mode.WaitsFor a) → value_of equal_thread d.site.threads n ≡ Some (st, mode.WaitsFor a)) → Owes p s c d [] Nobody
owes_cell p s c d ch t pay waits = record {
  ends = (let z = t.ends in omega (arith, z));
  olds = (let z = t.olds in omega (arith, z));
  homes = (let z = t.homes in omega (arith, z, pay));
  asks = t.asks;
  answers = omega arith;
  only = λ to n x bundle h. absurd (t.only to n x bundle h);
  waits = λ a asks far n back st h. waits a n st h;
}

-- who waits is none that can go on
pub others_wait : (ts : Threads) (n : ThreadName) (st : Stack) (q : ThreadState) → value_of equal_thread ts n ≡ Some (st, mode.Runs) → (a : Awaited) (m : ThreadName) (su : Stack) → value_of equal_thread ts m ≡ Some (su, mode.WaitsFor a) → value_of equal_thread (with_value equal_thread ts n q) m ≡ Some (su, mode.WaitsFor a)
others_wait ts n st q at a m su h = go (threads_decide n m)
  where
    go : (n ≡ m) ⊎ (n ≢ m) → value_of equal_thread (with_value equal_thread ts n q) m ≡ Some (su, mode.WaitsFor a)
    go (inr far) = with_there equal_thread same_thread_decides ts n m q far ∙ h
    go (inl e) =
        let both : ◌≡◌ {A = Option ThreadState} (Some (st, mode.Runs)) (Some (su, mode.WaitsFor a)) = sym at ∙ ap (value_of equal_thread ts) e ∙ h in
        let pair : ◌≡◌ {A = ThreadState} (st, mode.Runs) (su, mode.WaitsFor a) = cc in
        let modes : mode.Runs ≡ mode.WaitsFor a = ap (λ (v : ThreadState). v.1) pair in absurd (cc)

-- what a request counts
pub record AsksFor (ms : List Sent) : Type 0 where
  pub tells : (count_by tells_end ms ≡ 0) × (count_by tells_content ms ≡ 0) × (count_by tells_home ms ≡ 0)
  pub one : count_by asks_end ms + count_by asks_content ms ≤ 1
  pub none : (to : ℕ) (m : ThreadName) (x : Answer) (bundle : List Equation) → Contains ms (sent_to to (answer m x bundle)) → ⊥

pub asks_for_one : (to : ℕ) (a : Asking) (n : ThreadName) (k : ℕ) (bundle : List Equation) → AsksFor (sent_to to (request a n k bundle) ∷ [])
asks_for_one to a n k bundle = go a
  where
    differ : (a : Asking) (m : ThreadName) (x : Answer) (es : List Equation) → answer m x es ≡ request a n k bundle → ⊥
    differ (EndOf q) m (NewEnd old new) es e = cc
    differ (EndOf q) m (OldContent v) es e = cc
    differ (ContentOf c u) m (NewEnd old new) es e = cc
    differ (ContentOf c u) m (OldContent v) es e = cc

    go : (a : Asking) → AsksFor (sent_to to (request a n k bundle) ∷ [])
    go (EndOf q) = record { tells = (refl, refl, refl); one = omega arith; none = λ b m x es h. differ (EndOf q) m x es (only_one to b (request (EndOf q) n k bundle) (answer m x es) h) }
    go (ContentOf c new) = record { tells = (refl, refl, refl); one = omega arith; none = λ b m x es h. differ (ContentOf c new) m x es (only_one to b (request (ContentOf c new) n k bundle) (answer m x es) h) }

-- the row of a thread that asks another site
pub record AsksOne (s : Site) (d : Transition) (n : ThreadName) : Type 0 where
  pub picks : d.picks ≡ []
  pub tells : (count_by tells_end d.sent ≡ 0) × (count_by tells_content d.sent ≡ 0) × (count_by tells_home d.sent ≡ 0)
  pub one : count_by asks_end d.sent + count_by asks_content d.sent ≤ 1
  pub none : (to : ℕ) (m : ThreadName) (x : Answer) (bundle : List Equation) → Contains d.sent (sent_to to (answer m x bundle)) → ⊥
  pub waits : (a : Awaited) (m : ThreadName) (st : Stack) → value_of equal_thread s.threads m ≡ Some (st, mode.WaitsFor a) → value_of equal_thread d.site.threads m ≡ Some (st, mode.WaitsFor a)
  pub now : (a : Awaited) × (st : Stack) × (value_of equal_thread d.site.threads n ≡ Some (st, mode.WaitsFor a)) × (is_asking (mode.WaitsFor a) ≡ true) × (keeper_of a ≢ s.records.site)
