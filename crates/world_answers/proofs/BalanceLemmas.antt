-- Requests, exchanges and answers of each thread balance, as rows are made and messages come.
use Rattle.std.proofs.Common.{arith, ◌≡◌, ◌∙◌, sym, ap, refl, subst, ℕ, zero, suc, ◌+◌, ◌≤◌, ◌<◌, List, [], ◌∷◌, ◌++◌, ◌⊎◌, inl, inr, Bool, true, false, cond, length, Some}
use Rattle.std.specs.Prelude.{◌≢◌, ◌==◌, not, Contains}
use Rattle.std.specs.List.{count_by}
use Rattle.std.proofs.lemmas.List.Sums.{sum_by-append, sum_by-cons}
use Rattle.tree_node.specs.declared.names.VarName.{VarName}
use Rattle.tree_node.specs.declared.names.CellName.{CellName}
use Rattle.tree_node.specs.declared.names.ThreadName.{ThreadName}
use Rattle.tree_node.specs.declared.pick.Pick.{Pick}
use Rattle.tree_node.specs.Goal.{equal_cell}
use Rattle.tree_node.specs.State.{State}
use Rattle.tree_node.specs.Store.{Equation}
use Rattle.tree_node.proofs.ClassLemmas.{Contains-cons_cases, Contains-head, Contains-tail}
use Rattle.kernel_syntax.specs.declared.stmt.Stmt.{Stmt}
use Rattle.site_message.specs.declared.message.Msg.{Msg}
use Rattle.site_message.specs.declared.message.Msg.TheVariants as msg
use Rattle.site_message.specs.declared.message.Sent.{Sent}
use Rattle.oz_model.specs.Effect.{CellChange, Stays, Made, Exchanged}
use Rattle.oz_model.specs.Run.{IsRun, start, Run as ModelRun, exchange_in}
use Rattle.oz_model.specs.Step.{next, content_of, effect_of}
use Rattle.oz_model.proofs.KindLemmas.{cell_same, cells_differ}
use Rattle.site_model.specs.Site.{EarlyRequest}
use Rattle.site_model.specs.Transition.{Transition}
use Rattle.world_model.specs.Keepers.{homes, early_at}
use Rattle.world_model.specs.World.{World, Mail, Sites, IsOnItsWay, mail_from, without_number, put, after_transition, after_receipt}
use Rattle.world_model.proofs.MailLemmas.{nothing, sent_to, from_number, gone}
use Rattle.world_model.proofs.PutLemmas.{nat_decides}
use Rattle.world_cells.proofs.PlacedLemmas.{NoPlaced}
use Rattle.world_cells.proofs.TallyLemmas.{OneOfNumber}
use Rattle.world_answers.specs.Balance.{asks_content_for, answers_to, travelling_for, early_for, one_exchange, away_exchange, of_exchange, exchanges_by}
use Rattle.world_answers.specs.Joined.{Joined}
use Rattle.world_answers.proofs.OwedLemmas.{count_append}

-- ---- exchanges

-- nothing for mobile cells
abbrev pub Vanishes : (CellName → ThreadName → ℕ) → Type 0
Vanishes f = (d : CellName) (n : ThreadName) → d.at ≡ 0 → f d n ≡ 0

pub one_vanishes : (c : CellName) (th : ThreadName) → c.at ≢ 0 → Vanishes (one_exchange c th)
one_vanishes c th far d n none = rw (cells_differ c d (λ e. far (ap (λ (x : CellName). x.at) e ∙ none))) refl

pub away_vanishes : (i : ℕ) (th : ThreadName) → Vanishes (away_exchange i th)
away_vanishes i th d n none = rw ((nat_decides d.at 0).1 none) refl

pub exchanges_append : (f : CellName → ThreadName → ℕ) (p : List Stmt) (ks ls : List Pick) (s t : State) → IsRun p s ks t → exchanges_by f p s (ks ++ ls) ≡ exchanges_by f p s ks + exchanges_by f p t ls
exchanges_append f p [] ls s t h = let same : exchanges_by f p s ls ≡ exchanges_by f p t ls = ap (λ (x : State). exchanges_by f p x ls) (sym h) in omega (arith, same)
exchanges_append f p (k ∷ ks) ls s t (m, step, rest) =
    let ih = exchanges_append f p ks ls m t rest in
    let here : exchanges_by f p (next p s k) (ks ++ ls) ≡ exchanges_by f p m (ks ++ ls) = ap (λ (x : State). exchanges_by f p x (ks ++ ls)) (sym step.1) in
    let there : exchanges_by f p (next p s k) ks ≡ exchanges_by f p m ks = ap (λ (x : State). exchanges_by f p x ks) (sym step.1) in
    omega (arith, ih, here, there)

-- picks that exchange the contents of mobile cells alone
pub placed_none : (f : CellName → ThreadName → ℕ) → Vanishes f → (p : List Stmt) (c : State) (ks : List Pick) → NoPlaced p c ks → exchanges_by f p c ks ≡ 0
placed_none f v p c [] h = refl
placed_none f v p c (k ∷ ks) h = both (one (effect_of p c k).cell (λ b far. front _ _ (h b far))) (placed_none f v p (next p c k) ks (λ b far. back _ _ (h b far)))
  where
    front : (xs ys : List (VarName × VarName)) → xs ++ ys ≡ [] → xs ≡ []
    front [] ys e = refl
    front (x ∷ xs) ys e = cc

    back : (xs ys : List (VarName × VarName)) → xs ++ ys ≡ [] → ys ≡ []
    back [] ys e = e
    back (x ∷ xs) ys e = cc

    both : {a b : ℕ} → a ≡ 0 → b ≡ 0 → a + b ≡ 0
    both x y = omega (arith, x, y)

    one : (ch : CellChange) → ((b : CellName) → b.at ≢ 0 → exchange_in c b ch ≡ []) → of_exchange f k.thread ch ≡ 0
    one Stays g = refl
    one (Made d u) g = refl
    one (Exchanged d new told) g = go (d.at == 0) refl
      where
        some : (y : Bool) → y ≡ true → cond {A = List (VarName × VarName)} y ((content_of c.cells d, new) ∷ []) [] ≡ [] → ⊥
        some true q e = cc
        some false q e = cc

        go : (x : Bool) → (d.at == 0) ≡ x → f d k.thread ≡ 0
        go true e = v d k.thread ((nat_decides d.at 0).0 e)
        go false e = absurd (some (equal_cell d d) (cell_same d) (g d (λ z. let yes : (d.at == 0) ≡ true = (nat_decides d.at 0).1 z in cc)))

-- ---- messages that travel

abbrev counted : (Sent → Bool) → Mail → ℕ
counted f mail = count_by (λ (m : ℕ × Sent). f m.1) mail

counted_more : (f : Sent → Bool) (m : ℕ × Sent) (ms : Mail) → counted f (m ∷ ms) ≡ cond (f m.1) 1 0 + counted f ms
counted_more f m ms = sum_by-cons (λ (x : ℕ × Sent). cond (f x.1) 1 0) m ms

counted_from : (f : Sent → Bool) (k : ℕ) (ms : List Sent) → counted f (mail_from k ms) ≡ count_by f ms
counted_from f k [] = refl
counted_from f k (m ∷ ms) =
    let a = counted_more f (k, m) (mail_from (k + 1) ms) in
    let b = sum_by-cons (λ (x : Sent). cond (f x) 1 0) m ms in
    let ih = counted_from f (k + 1) ms in omega (arith, a, b, ih)

pub counted_sent : (f : Sent → Bool) (mail : Mail) (k : ℕ) (ms : List Sent) → counted f (mail ++ mail_from k ms) ≡ counted f mail + count_by f ms
counted_sent f mail k ms = let a = sum_by-append (λ (x : ℕ × Sent). cond (f x.1) 1 0) mail (mail_from k ms) in let b = counted_from f k ms in omega (arith, a, b)

-- how many have this number
abbrev pub numbered : ℕ → Mail → ℕ
numbered k mail = count_by (λ (m : ℕ × Sent). k == m.0) mail

numbered_more : (k : ℕ) (m : ℕ × Sent) (ms : Mail) → numbered k (m ∷ ms) ≡ cond (k == m.0) 1 0 + numbered k ms
numbered_more k m ms = sum_by-cons (λ (x : ℕ × Sent). cond (k == x.0) 1 0) m ms

one_is : (b : Bool) → b ≡ true → ◌≡◌ {A = ℕ} (cond b 1 0) 1
one_is true e = refl
one_is false e = cc

none_is : (b : Bool) → b ≡ false → ◌≡◌ {A = ℕ} (cond b 1 0) 0
none_is true e = cc
none_is false e = refl

gone_none : (f : Sent → Bool) (k : ℕ) (mail : Mail) → numbered k mail ≡ 0 → counted f (without_number k mail) ≡ counted f mail
gone_none f k [] z = refl
gone_none f k (m ∷ ms) z = go (k == m.0) refl (gone_none f k ms)
  where
    go : (b : Bool) → (k == m.0) ≡ b → (numbered k ms ≡ 0 → counted f (without_number k ms) ≡ counted f ms) → counted f (cond (not b) (m ∷ without_number k ms) (without_number k ms)) ≡ counted f (m ∷ ms)
    go true e ih = let a = numbered_more k m ms in let one = one_is (k == m.0) e in absurd (omega (arith, a, one, z))
    go false e ih =
        let a = numbered_more k m ms in
        let none : numbered k ms ≡ 0 = omega (arith, a, z) in
        let x = counted_more f m ms in
        let y = counted_more f m (without_number k ms) in
        let r = ih none in omega (arith, x, y, r)

-- the one of a number has come
pub gone_one : (f : Sent → Bool) (k : ℕ) (s : Sent) (mail : Mail) → Contains mail (k, s) → OneOfNumber mail k s → numbered k mail ≤ 1 → counted f (without_number k mail) + cond (f s) 1 0 ≡ counted f mail
gone_one f k s [] h one few = absurd (nothing _ h)
gone_one f k s ((l, o) ∷ ms) h one few = go (k == l) refl (gone_one f k s ms)
  where
    go : (b : Bool) → (k == l) ≡ b → (Contains ms (k, s) → OneOfNumber ms k s → numbered k ms ≤ 1 → counted f (without_number k ms) + cond (f s) 1 0 ≡ counted f ms) →
        counted f (cond (not b) ((l, o) ∷ without_number k ms) (without_number k ms)) + cond (f s) 1 0 ≡ counted f ((l, o) ∷ ms)
    go true e ih =
        let a = numbered_more k (l, o) ms in
        let here = one_is (k == l) e in
        let none : numbered k ms ≡ 0 = omega (arith, a, here, few) in
        let is : o ≡ s = one o (subst (λ (z : ℕ). Contains ((l, o) ∷ ms) (z, o)) (sym ((nat_decides k l).0 e)) (Contains-head (l, o) ms)) in
        let same : ◌≡◌ {A = ℕ} (cond (f o) 1 0) (cond (f s) 1 0) = ap (λ (y : Sent). cond {A = ℕ} (f y) 1 0) is in
        let x = counted_more f (l, o) ms in
        let y = gone_none f k ms none in omega (arith, same, x, y)
    go false e ih = by (Contains-cons_cases (l, o) (k, s) ms h)
      where
        by : (◌≡◌ {A = ℕ × Sent} (l, o) (k, s)) ⊎ Contains ms (k, s) → counted f ((l, o) ∷ without_number k ms) + cond (f s) 1 0 ≡ counted f ((l, o) ∷ ms)
        by (inl q) = let yes : (k == l) ≡ true = (nat_decides k l).1 (sym (ap (λ (x : ℕ × Sent). x.0) q)) in cc
        by (inr q) =
            let a = numbered_more k (l, o) ms in
            let rest : numbered k ms ≤ 1 = omega (arith, a, few) in
            let r = ih q (λ y c. one y (Contains-tail (l, o) (k, y) ms c)) rest in
            let x = counted_more f (l, o) ms in
            let y = counted_more f (l, o) (without_number k ms) in omega (arith, r, x, y)

-- ---- each number is there once at most

below_none : (k : ℕ) (mail : Mail) → ((l : ℕ) (o : Sent) → Contains mail (l, o) → l < k) → numbered k mail ≡ 0
below_none k [] h = refl
below_none k ((l, o) ∷ ms) h = go (k == l) refl (below_none k ms (λ a b c. h a b (Contains-tail (l, o) (a, b) ms c)))
  where
    go : (b : Bool) → (k == l) ≡ b → numbered k ms ≡ 0 → numbered k ((l, o) ∷ ms) ≡ 0
    go true e ih = let low = h l o (Contains-head (l, o) ms) in let same = (nat_decides k l).0 e in absurd (omega (arith, low, same))
    go false e ih = let a = numbered_more k (l, o) ms in let none = none_is (k == l) e in omega (arith, a, none, ih)

later_none : (k a : ℕ) (ms : List Sent) → k < a → numbered k (mail_from a ms) ≡ 0
later_none k a [] h = refl
later_none k a (m ∷ ms) h = go (k == a) refl (later_none k (a + 1) ms (omega (arith, h)))
  where
    go : (b : Bool) → (k == a) ≡ b → numbered k (mail_from (a + 1) ms) ≡ 0 → numbered k ((a, m) ∷ mail_from (a + 1) ms) ≡ 0
    go true e ih = let same = (nat_decides k a).0 e in absurd (omega (arith, h, same))
    go false e ih = let x = numbered_more k (a, m) (mail_from (a + 1) ms) in let none = none_is (k == a) e in omega (arith, x, none, ih)

new_few : (k a : ℕ) (ms : List Sent) → numbered k (mail_from a ms) ≤ 1
new_few k a [] = omega arith
new_few k a (m ∷ ms) = go (k == a) refl (new_few k (a + 1) ms)
  where
    go : (b : Bool) → (k == a) ≡ b → numbered k (mail_from (a + 1) ms) ≤ 1 → numbered k ((a, m) ∷ mail_from (a + 1) ms) ≤ 1
    go true e ih =
        let same = (nat_decides k a).0 e in
        let low : k < a + 1 = omega (arith, same) in
        let x = numbered_more k (a, m) (mail_from (a + 1) ms) in
        let one = one_is (k == a) e in
        let rest = later_none k (a + 1) ms low in omega (arith, x, one, rest)
    go false e ih = let x = numbered_more k (a, m) (mail_from (a + 1) ms) in let none = none_is (k == a) e in omega (arith, x, none, ih)

less_or : (a b : ℕ) → (a < b) ⊎ (b ≤ a)
less_or a zero = inr (omega arith)
less_or zero (suc b) = inl (omega arith)
less_or (suc a) (suc b) = up (less_or a b)
  where
    up : (a < b) ⊎ (b ≤ a) → (suc a < suc b) ⊎ (suc b ≤ suc a)
    up (inl h) = inl (omega (arith, h))
    up (inr h) = inr (omega (arith, h))

sent_few : (k : ℕ) (mail : Mail) (a : ℕ) (ms : List Sent) → ((l : ℕ) (o : Sent) → Contains mail (l, o) → l < a) → numbered k mail ≤ 1 → numbered k (mail ++ mail_from a ms) ≤ 1
sent_few k mail a ms below few = go (less_or k a)
  where
    sum : numbered k (mail ++ mail_from a ms) ≡ numbered k mail + numbered k (mail_from a ms)
    sum = sum_by-append (λ (x : ℕ × Sent). cond (k == x.0) 1 0) mail (mail_from a ms)

    go : (k < a) ⊎ (a ≤ k) → numbered k (mail ++ mail_from a ms) ≤ 1
    go (inl h) = let z = later_none k a ms h in omega (arith, sum, z, few)
    go (inr h) = let z = below_none k mail (λ l o c. let low = below l o c in omega (arith, low, h)) in let new = new_few k a ms in omega (arith, sum, z, new)

gone_few : (k l : ℕ) (mail : Mail) → numbered k (without_number l mail) ≤ numbered k mail
gone_few k l [] = omega arith
gone_few k l (m ∷ ms) = go (l == m.0) (gone_few k l ms)
  where
    go : (b : Bool) → numbered k (without_number l ms) ≤ numbered k ms → numbered k (cond (not b) (m ∷ without_number l ms) (without_number l ms)) ≤ numbered k (m ∷ ms)
    go true ih = let a = numbered_more k m ms in omega (arith, a, ih)
    go false ih = let a = numbered_more k m ms in let b = numbered_more k m (without_number l ms) in omega (arith, a, b, ih)

-- ---- the world

-- no request has come; this message has come, and is not yet heard
abbrev pub none_came : CellName → ThreadName → ℕ
none_came c th = 0

abbrev pub came_of : Sent → CellName → ThreadName → ℕ
came_of s c th = cond (asks_content_for c th s) 1 0

-- R tells at which site a thread goes. The requests of a thread for a stationary cell that were sent are its exchanges and those that travel, that
-- came or that the home keeps, but for threads that go at the home; who asked goes where it asked, at another site; and the answers to a
-- thread that goes at one site are its exchanges of cells of other sites
pub record Balanced (p : List Stmt) (R : ℕ → ThreadName → Type 0) (come : CellName → ThreadName → ℕ) (w : World) (ks : List Pick) (out : List Sent) : Type 0 where
  pub asked : (c : CellName) (th : ThreadName) → c.at ≢ 0 →
      R c.at th ⊎ (count_by (asks_content_for c th) out ≡ exchanges_by (one_exchange c th) p (start p) ks + (travelling_for c th w.mail + come c th + early_for th (early_at (homes w.sites) c)))
  pub far : (c : CellName) (th : ThreadName) → (count_by (asks_content_for c th) out ≡ 0) ⊎ ((l : ℕ) × (c.at ≢ l) × R l th)
  pub answered : (l : ℕ) (th : ThreadName) → (count_by (answers_to th) out ≡ exchanges_by (away_exchange l th) p (start p) ks) ⊎ ((k : ℕ) × (k ≢ l) × R k th)
  pub early : (c : CellName) (r : EarlyRequest) → Contains (early_at (homes w.sites) c) r → R r.asking r.thread
  pub letters : (k to : ℕ) (c : CellName) (n : ThreadName) (o : ℕ) (v : VarName) (es : List Equation) → IsOnItsWay w.mail k to (msg.CellAsk c n o v es) → R o n
  pub numbers : (k : ℕ) → numbered k w.mail ≤ 1

-- and of a row, by which the sites w become v, at state c of the machine
pub record Balances (p : List Stmt) (R : ℕ → ThreadName → Type 0) (come : CellName → ThreadName → ℕ) (w v : Sites) (c : State) (d : Transition) : Type 0 where
  pub asked : (b : CellName) (th : ThreadName) → b.at ≢ 0 → R b.at th ⊎ (early_for th (early_at (homes v) b) + exchanges_by (one_exchange b th) p c d.picks ≡ early_for th (early_at (homes w) b) + come b th)
  pub far : (b : CellName) (th : ThreadName) → (count_by (asks_content_for b th) d.sent ≡ 0) ⊎ ((l : ℕ) × (b.at ≢ l) × R l th)
  pub answered : (l : ℕ) (th : ThreadName) → (count_by (answers_to th) d.sent ≡ exchanges_by (away_exchange l th) p c d.picks) ⊎ ((k : ℕ) × (k ≢ l) × R k th)
  pub early : (b : CellName) (r : EarlyRequest) → Contains (early_at (homes v) b) r → Contains (early_at (homes w) b) r ⊎ R r.asking r.thread
  pub letters : (to : ℕ) (b : CellName) (n : ThreadName) (o : ℕ) (u : VarName) (es : List Equation) → Contains d.sent (sent_to to (msg.CellAsk b n o u es)) → R o n

-- who asks goes where it asked
abbrev pub GoesAsAsked : (ℕ → ThreadName → Type 0) → World → Type 0
GoesAsAsked R w =
    ((c : CellName) (r : EarlyRequest) → Contains (early_at (homes w.sites) c) r → R r.asking r.thread)
    × ((k to : ℕ) (c : CellName) (n : ThreadName) (o : ℕ) (v : VarName) (es : List Equation) → IsOnItsWay w.mail k to (msg.CellAsk c n o v es) → R o n)

-- the world was reached, and balances
pub record Settled (p : List Stmt) (R : ℕ → ThreadName → Type 0) (w : World) (ks : List Pick) (out : List Sent) : Type 0 where
  pub joined : Joined p w ks
  pub balanced : Balanced p R none_came w ks out

-- threads go at more sites
pub balanced_wider : (p : List Stmt) (R S : ℕ → ThreadName → Type 0) (come : CellName → ThreadName → ℕ) (w : World) (ks : List Pick) (out : List Sent) → ((l : ℕ) (th : ThreadName) → R l th → S l th) → Balanced p R come w ks out → Balanced p S come w ks out
balanced_wider p R S come w ks out up b = record {
  asked = λ c th away. asked c th (b.asked c th away);
  far = λ c th. far c th (b.far c th);
  answered = λ l th. answered l th (b.answered l th);
  early = λ c r h. up r.asking r.thread (b.early c r h);
  letters = λ k to c n o v es h. up o n (b.letters k to c n o v es h);
  numbers = b.numbers;
}
  where
    asked : (c : CellName) (th : ThreadName) → {X : Type 0} → R c.at th ⊎ X → S c.at th ⊎ X
    asked c th (inl h) = inl (up c.at th h)
    asked c th (inr h) = inr h

    far : (c : CellName) (th : ThreadName) → {X : Type 0} → X ⊎ ((l : ℕ) × (c.at ≢ l) × R l th) → X ⊎ ((l : ℕ) × (c.at ≢ l) × S l th)
    far c th (inl h) = inl h
    far c th (inr (l, other, h)) = inr (l, other, up l th h)

    answered : (l : ℕ) (th : ThreadName) → {X : Type 0} → X ⊎ ((k : ℕ) × (k ≢ l) × R k th) → X ⊎ ((k : ℕ) × (k ≢ l) × S k th)
    answered l th (inl h) = inl h
    answered l th (inr (k, other, h)) = inr (k, other, up k th h)

module _ (p : List Stmt) (R : ℕ → ThreadName → Type 0) (w : World) (ks : List Pick) (out : List Sent) where
  -- what came is no request
  pub balanced_without : (come : CellName → ThreadName → ℕ) → ((c : CellName) (th : ThreadName) → come c th ≡ 0) → {v : World} → Balanced p R come v ks out → Balanced p R none_came v ks out
  balanced_without come none {v} b = record { asked = λ c th away. asked c th (b.asked c th away); far = b.far; answered = b.answered; early = b.early; letters = b.letters; numbers = b.numbers }
    where
      asked : (c : CellName) (th : ThreadName) → R c.at th ⊎ (count_by (asks_content_for c th) out ≡ exchanges_by (one_exchange c th) p (start p) ks + (travelling_for c th v.mail + come c th + early_for th (early_at (homes v.sites) c))) →
          R c.at th ⊎ (count_by (asks_content_for c th) out ≡ exchanges_by (one_exchange c th) p (start p) ks + (travelling_for c th v.mail + 0 + early_for th (early_at (homes v.sites) c)))
      asked c th (inl h) = inl h
      asked c th (inr h) = let z = none c th in inr (omega (arith, h, z))

  -- a message comes
  pub balanced_came : (k i : ℕ) (m : Msg) → IsOnItsWay w.mail k i m → OneOfNumber w.mail k (sent_to i m) → Balanced p R none_came w ks out → Balanced p R (came_of (sent_to i m)) (after_receipt (Some k) w) ks out
  balanced_came k i m at one b = record {
    asked = λ c th away. asked c th (b.asked c th away);
    far = b.far;
    answered = b.answered;
    early = b.early;
    letters = λ l to c n o v es h. b.letters l to c n o v es ((gone k w.mail).old l to (msg.CellAsk c n o v es) h).0;
    numbers = λ l. let less = gone_few l k w.mail in let few = b.numbers l in omega (arith, less, few);
  }
    where
      asked : (c : CellName) (th : ThreadName) → R c.at th ⊎ (count_by (asks_content_for c th) out ≡ exchanges_by (one_exchange c th) p (start p) ks + (travelling_for c th w.mail + 0 + early_for th (early_at (homes w.sites) c))) →
          R c.at th ⊎ (count_by (asks_content_for c th) out ≡ exchanges_by (one_exchange c th) p (start p) ks + (travelling_for c th (without_number k w.mail) + came_of (sent_to i m) c th + early_for th (early_at (homes w.sites) c)))
      asked c th (inl h) = inl h
      asked c th (inr h) = let less = gone_one (asks_content_for c th) k (sent_to i m) w.mail at one (b.numbers k) in inr (omega (arith, h, less))

  module _ (come : CellName → ThreadName → ℕ) (c : State) (run : ModelRun p ks c) (below : (l : ℕ) (o : Sent) → Contains w.mail (l, o) → l < w.sent) (i : ℕ) (d : Transition) (b : Balanced p R come w ks out) (a : Balances p R come w.sites (put w.sites i d.site) c d) where
    abbrev v : World
    v = after_transition w i d

    -- a row is made
    pub balanced_row : Balanced p R none_came v (ks ++ d.picks) (out ++ d.sent)
    balanced_row = record {
      asked = λ e th away. asked e th (b.asked e th away) (a.asked e th away);
      far = λ e th. far e th (b.far e th) (a.far e th);
      answered = λ l th. answered l th (b.answered l th) (a.answered l th);
      early = λ e r h. early e r (a.early e r h);
      letters = λ k to e n o u es h. letters k to e n o u es (from_number w.mail w.sent d.sent k to (msg.CellAsk e n o u es) h);
      numbers = λ k. sent_few k w.mail w.sent d.sent below (b.numbers k);
    }
      where
        asked : (e : CellName) (th : ThreadName) →
            R e.at th ⊎ (count_by (asks_content_for e th) out ≡ exchanges_by (one_exchange e th) p (start p) ks + (travelling_for e th w.mail + come e th + early_for th (early_at (homes w.sites) e))) →
            R e.at th ⊎ (early_for th (early_at (homes v.sites) e) + exchanges_by (one_exchange e th) p c d.picks ≡ early_for th (early_at (homes w.sites) e) + come e th) →
            R e.at th ⊎ (count_by (asks_content_for e th) (out ++ d.sent) ≡ exchanges_by (one_exchange e th) p (start p) (ks ++ d.picks) + (travelling_for e th v.mail + 0 + early_for th (early_at (homes v.sites) e)))
        asked e th (inl h) y = inl h
        asked e th (inr h) (inl y) = inl y
        asked e th (inr h) (inr y) =
            let sent = count_append (asks_content_for e th) out d.sent in
            let made = exchanges_append (one_exchange e th) p ks d.picks (start p) c run in
            let travels = counted_sent (asks_content_for e th) w.mail w.sent d.sent in inr (omega (arith, h, y, sent, made, travels))

        far : (e : CellName) (th : ThreadName) → (count_by (asks_content_for e th) out ≡ 0) ⊎ ((l : ℕ) × (e.at ≢ l) × R l th) → (count_by (asks_content_for e th) d.sent ≡ 0) ⊎ ((l : ℕ) × (e.at ≢ l) × R l th) → (count_by (asks_content_for e th) (out ++ d.sent) ≡ 0) ⊎ ((l : ℕ) × (e.at ≢ l) × R l th)
        far e th (inr h) y = inr h
        far e th (inl h) (inr y) = inr y
        far e th (inl h) (inl y) = let sent = count_append (asks_content_for e th) out d.sent in inl (omega (arith, h, y, sent))

        answered : (l : ℕ) (th : ThreadName) → (count_by (answers_to th) out ≡ exchanges_by (away_exchange l th) p (start p) ks) ⊎ ((k : ℕ) × (k ≢ l) × R k th) → (count_by (answers_to th) d.sent ≡ exchanges_by (away_exchange l th) p c d.picks) ⊎ ((k : ℕ) × (k ≢ l) × R k th) →
            (count_by (answers_to th) (out ++ d.sent) ≡ exchanges_by (away_exchange l th) p (start p) (ks ++ d.picks)) ⊎ ((k : ℕ) × (k ≢ l) × R k th)
        answered l th (inr h) y = inr h
        answered l th (inl h) (inr y) = inr y
        answered l th (inl h) (inl y) =
            let sent = count_append (answers_to th) out d.sent in
            let made = exchanges_append (away_exchange l th) p ks d.picks (start p) c run in inl (omega (arith, h, y, sent, made))

        early : (e : CellName) (r : EarlyRequest) → Contains (early_at (homes w.sites) e) r ⊎ R r.asking r.thread → R r.asking r.thread
        early e r (inl h) = b.early e r h
        early e r (inr h) = h

        letters : (k to : ℕ) (e : CellName) (n : ThreadName) (o : ℕ) (u : VarName) (es : List Equation) → IsOnItsWay w.mail k to (msg.CellAsk e n o u es) ⊎ (Contains d.sent (sent_to to (msg.CellAsk e n o u es)) × (w.sent ≤ k) × (k < w.sent + length d.sent)) → R o n
        letters k to e n o u es (inl h) = b.letters k to e n o u es h
        letters k to e n o u es (inr h) = a.letters to e n o u es h.0
