-- How many messages travel after one more entry.
use Rattle.std.proofs.Common.{arith, ◌≡◌, ◌∙◌, sym, ap, refl, ℕ, ◌+◌, ◌≤◌, List, [], ◌∷◌, ◌++◌, length, ◌⊎◌, inl, inr, Bool, true, false, cond, Some}
use Rattle.std.specs.Prelude.{Contains, ◌||◌, not}
use Rattle.std.specs.List.{count_by, filter, enumerate_from}
use Rattle.tree_node.proofs.ClassLemmas.{Contains-cons_cases}
use Rattle.site_message.specs.declared.message.Sent.{Sent}
use Rattle.site_message.specs.declared.turn.Turn.{Turn}
use Rattle.site_message.specs.Journal.{IsTravelling, sent_of, travelling, was_delivered, is_number}
use Rattle.site_message.proofs.JournalLemmas.{travelling_tells}
use Rattle.bind_protocol.proofs.ListLemmas.{one, count_append, count_cons}
use Rattle.world_model.specs.Chain.{messages}
use Rattle.world_model.proofs.MailLemmas.{nothing, numbered_append}
use Rattle.world_model.proofs.PutLemmas.{nat_decides}

abbrev Numbered : Type 0
Numbered = ℕ × Sent

count_map_cons : (p : Sent → Bool) (y : Numbered) (ys : List Numbered) → count_by p (messages (y ∷ ys)) ≡ one (p y.1) + count_by p (messages ys)
count_map_cons p y ys = count_cons p y.1 (messages ys)

-- fewer are kept
pub filter_fewer : (p : Sent → Bool) (f g : Numbered → Bool) (ys : List Numbered) → ((y : Numbered) → g y ≡ true → f y ≡ true) → count_by p (messages (filter g ys)) ≤ count_by p (messages (filter f ys))
filter_fewer p f g [] h = omega arith
filter_fewer p f g (y ∷ ys) h = go (g y) refl (f y) refl (filter_fewer p f g ys h)
  where
    go : (b : Bool) → g y ≡ b → (c : Bool) → f y ≡ c → count_by p (messages (filter g ys)) ≤ count_by p (messages (filter f ys)) → count_by p (messages (cond b (y ∷ filter g ys) (filter g ys))) ≤ count_by p (messages (cond c (y ∷ filter f ys) (filter f ys)))
    go true q true r ih = omega (arith, count_map_cons p y (filter g ys), count_map_cons p y (filter f ys))
    go true q false r ih = let contrary : f y ≡ true = h y q in cc
    go false q true r ih = omega (arith, count_map_cons p y (filter f ys))
    go false q false r ih = ih

-- and one that is no more kept
pub filter_one : (p : Sent → Bool) (f g : Numbered → Bool) (ys : List Numbered) (m : Numbered) → ((y : Numbered) → g y ≡ true → f y ≡ true) → Contains (filter f ys) m → g m ≡ false →
    one (p m.1) + count_by p (messages (filter g ys)) ≤ count_by p (messages (filter f ys))
filter_one p f g [] m h at gone = absurd (nothing m at)
filter_one p f g (y ∷ ys) m h at gone = go (g y) refl (f y) refl at (λ l. filter_one p f g ys m h l gone)
  where
    fewer : count_by p (messages (filter g ys)) ≤ count_by p (messages (filter f ys))
    fewer = filter_fewer p f g ys h

    go : (b : Bool) → g y ≡ b → (c : Bool) → f y ≡ c → Contains (cond c (y ∷ filter f ys) (filter f ys)) m → (Contains (filter f ys) m → one (p m.1) + count_by p (messages (filter g ys)) ≤ count_by p (messages (filter f ys))) → one (p m.1) + count_by p (messages (cond b (y ∷ filter g ys) (filter g ys))) ≤ count_by p (messages (cond c (y ∷ filter f ys) (filter f ys)))
    go true q true r k ih = by_place (Contains-cons_cases y m (filter f ys) k)
      where
        by_place : (y ≡ m) ⊎ Contains (filter f ys) m → one (p m.1) + count_by p (messages (y ∷ filter g ys)) ≤ count_by p (messages (y ∷ filter f ys))
        by_place (inl e) = let yes : g m ≡ true = ap g (sym e) ∙ q in let no : false ≡ true = sym gone ∙ yes in cc
        by_place (inr l) = omega (arith, ih l, count_map_cons p y (filter g ys), count_map_cons p y (filter f ys))
    go true q false r k ih = let contrary : f y ≡ true = h y q in cc
    go false q true r k ih = by_place (Contains-cons_cases y m (filter f ys) k)
      where
        by_place : (y ≡ m) ⊎ Contains (filter f ys) m → one (p m.1) + count_by p (messages (filter g ys)) ≤ count_by p (messages (y ∷ filter f ys))
        by_place (inl e) = let same : one (p m.1) ≡ one (p y.1) = ap (λ (z : Numbered). one (p z.1)) (sym e) in omega (arith, fewer, count_map_cons p y (filter f ys))
        by_place (inr l) = omega (arith, ih l, count_map_cons p y (filter f ys))
    go false q false r k ih = ih k

filter_append : (f : Numbered → Bool) (xs ys : List Numbered) → filter f (xs ++ ys) ≡ filter f xs ++ filter f ys
filter_append f [] ys = refl
filter_append f (x ∷ xs) ys = go (f x) (filter_append f xs ys)
  where
    go : (b : Bool) → filter f (xs ++ ys) ≡ filter f xs ++ filter f ys → cond b (x ∷ filter f (xs ++ ys)) (filter f (xs ++ ys)) ≡ cond b (x ∷ filter f xs) (filter f xs) ++ filter f ys
    go true ih = ap (λ (zs : List Numbered). x ∷ zs) ih
    go false ih = ih

messages_append : (xs ys : List Numbered) → messages (xs ++ ys) ≡ messages xs ++ messages ys
messages_append [] ys = refl
messages_append (x ∷ xs) ys = ap (λ (zs : List Sent). x.1 ∷ zs) (messages_append xs ys)

-- what is left of numbered messages are among them
pub kept_fewer : (p : Sent → Bool) (f : Numbered → Bool) (n : ℕ) (ms : List Sent) → count_by p (messages (filter f (enumerate_from n ms))) ≤ count_by p ms
kept_fewer p f n [] = omega arith
kept_fewer p f n (m ∷ ms) = go (f (n, m)) (kept_fewer p f (n + 1) ms)
  where
    go : (b : Bool) → count_by p (messages (filter f (enumerate_from (n + 1) ms))) ≤ count_by p ms → count_by p (messages (cond b ((n, m) ∷ filter f (enumerate_from (n + 1) ms)) (filter f (enumerate_from (n + 1) ms)))) ≤ count_by p (m ∷ ms)
    go true ih = omega (arith, count_map_cons p (n, m) (filter f (enumerate_from (n + 1) ms)), count_cons p m ms)
    go false ih = omega (arith, count_cons p m ms)

-- ---- entries

-- it has not been delivered
abbrev pub is_left : List Turn → Numbered → Bool
is_left j y = not (was_delivered j y.0)

-- what still travels of the old messages
abbrev pub left_over : Turn → List Turn → List Numbered
left_over e j = filter (is_left (e ∷ j)) (enumerate_from 0 (sent_of j))

left_before : (j : List Turn) (e : Turn) (y : Numbered) → is_left (e ∷ j) y ≡ true → is_left j y ≡ true
left_before j e y h = go (is_number e.delivered y.0) (was_delivered j y.0) h
  where
    go : (a b : Bool) → not (a || b) ≡ true → not b ≡ true
    go true b k = cc
    go false b k = k

-- those that travel are the old ones and new ones
pub travel_after : (p : Sent → Bool) (j : List Turn) (e : Turn) → count_by p (messages (travelling (e ∷ j))) ≤ count_by p (messages (left_over e j) ++ e.sent)
travel_after p j e =
    let split : travelling (e ∷ j) ≡ left_over e j ++ filter (is_left (e ∷ j)) (enumerate_from (0 + length (sent_of j)) e.sent) =
    ap (filter (is_left (e ∷ j))) (numbered_append 0 (sent_of j) e.sent) ∙ filter_append (is_left (e ∷ j)) (enumerate_from 0 (sent_of j)) (enumerate_from (0 + length (sent_of j)) e.sent) in
    let all : count_by p (messages (travelling (e ∷ j))) ≡ count_by p (messages (left_over e j)) + count_by p (messages (filter (is_left (e ∷ j)) (enumerate_from (0 + length (sent_of j)) e.sent))) =
    ap (λ (ys : List Numbered). count_by p (messages ys)) split ∙ ap (count_by p) (messages_append (left_over e j) _) ∙ count_append p (messages (left_over e j)) _ in
    omega (arith, kept_fewer p (is_left (e ∷ j)) (0 + length (sent_of j)) e.sent, count_append p (messages (left_over e j)) e.sent)

-- the message that comes, if one, was among those that travelled
pub travel_less : (p : Sent → Bool) (j : List Turn) (e : Turn) → count_by p (messages (left_over e j)) ≤ count_by p (messages (travelling j))
travel_less p j e = filter_fewer p (is_left j) (is_left (e ∷ j)) (enumerate_from 0 (sent_of j)) (left_before j e)

pub travel_one : (p : Sent → Bool) (j : List Turn) (e : Turn) (k : ℕ) (m : Sent) → e.delivered ≡ Some k → IsTravelling j k m → count_by p (m ∷ messages (left_over e j)) ≤ count_by p (messages (travelling j))
travel_one p j e k m is at =
    let here : Contains (travelling j) (k, m) = (travelling_tells j k m).1 at in
    let gone : is_left (e ∷ j) (k, m) ≡ false = after_receipt in
    omega (arith, filter_one p (is_left j) (is_left (e ∷ j)) (enumerate_from 0 (sent_of j)) (k, m) (left_before j e) here gone, count_cons p m (messages (left_over e j)))
  where
    after_receipt : is_left (e ∷ j) (k, m) ≡ false
    after_receipt = rw (is, (nat_decides k k).1 refl) refl
