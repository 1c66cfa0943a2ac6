-- How the messages of an inbox change with a turn.
use Rattle.std.proofs.Common.{◌≡◌, ◌≢◌, ◌⊎◌, ℕ, ◌+◌, ◌<◌, List, [], ◌∷◌, ◌++◌, length, map, Bool, true, false, not, eqb, ne_eqb, Option, Some, refl, sym, ap, ◌∙◌, arith, ⊎_elim}
use Rattle.std.specs.List.{filter, enumerate_from}
use Rattle.std.proofs.lemmas.List.Elements.{filter-append}
use Rattle.site_message.specs.declared.message.Sent.{Sent}
use Rattle.site_message.specs.declared.turn.Turn.{Turn}
use Rattle.site_message.specs.Journal.{Wired, sent_of, travelling, is_number}
use Rattle.site_message.specs.Laws.{IsAscending}
use Rattle.site_message.proofs.TravelLemmas.{travelling_grows, travelling_ascends, ascends_filter}
use Rattle.wire_reader.specs.declared.form.Form.TheVariants as forms
use Rattle.wire_reader.specs.Format.{spelling}
use Rattle.message_book.specs.Inboxes.{place, spelling_of, messages_at, new_messages, letter_of}
use Rattle.std.proofs.lemmas.List.{map-append}

-- filters change their order
swap_step : {X : Type 0} (a b : X → Bool) (x : X) (xs : List X) (s t : Bool) → a x ≡ s → b x ≡ t → filter a (filter b xs) ≡ filter b (filter a xs) → filter a (filter b (x ∷ xs)) ≡ filter b (filter a (x ∷ xs))
swap_step a b x xs true true p q rest = rw (p, q) (rw p (ap (λ l. x ∷ l) rest))
swap_step a b x xs true false p q rest = rw (p, q) rest
swap_step a b x xs false true p q rest = rw (p, q) (rw p rest)
swap_step a b x xs false false p q rest = rw (p, q) rest

filters_swap : {X : Type 0} (a b : X → Bool) (xs : List X) → filter a (filter b xs) ≡ filter b (filter a xs)
filters_swap a b [] = refl
filters_swap a b (x ∷ xs) = swap_step a b x xs (a x) (b x) refl refl (filters_swap a b xs)

-- a filter by what a map keeps
map_step : {X Y : Type 0} (f : X → Y) (a : X → Bool) (b : Y → Bool) (x : X) (xs : List X) (t : Bool) → a x ≡ t → b (f x) ≡ t → map f (filter a xs) ≡ filter b (map f xs) → map f (filter a (x ∷ xs)) ≡ filter b (map f (x ∷ xs))
map_step f a b x xs true p q rest = rw (p, q) (ap (λ l. f x ∷ l) rest)
map_step f a b x xs false p q rest = rw (p, q) rest

pub map_filter : {X Y : Type 0} (f : X → Y) (a : X → Bool) (b : Y → Bool) → ((x : X) → a x ≡ b (f x)) → (xs : List X) → map f (filter a xs) ≡ filter b (map f xs)
map_filter f a b same [] = refl
map_filter f a b same (x ∷ xs) = map_step f a b x xs (a x) refl (sym (same x)) (map_filter f a b same xs)

-- the new messages of a place
new_step : (n i k : ℕ) (s : Sent) (ss : List Sent) (t : Bool) → eqb (place n s.to) i ≡ t
    → map spelling_of (filter (λ (p : ℕ × Sent). eqb (place n p.1.to) i) (enumerate_from (k + 1) ss)) ≡ new_messages n i (k + 1) (map letter_of ss)
    → map spelling_of (filter (λ (p : ℕ × Sent). eqb (place n p.1.to) i) (enumerate_from k (s ∷ ss))) ≡ new_messages n i k (map letter_of (s ∷ ss))
new_step n i k s ss true e rest = rw e (ap (λ l. (k, spelling forms.Two s.msg) ∷ l) rest)
new_step n i k s ss false e rest = rw e rest

new_are : (n i k : ℕ) (ss : List Sent) → map spelling_of (filter (λ (p : ℕ × Sent). eqb (place n p.1.to) i) (enumerate_from k ss)) ≡ new_messages n i k (map letter_of ss)
new_are n i k [] = refl
new_are n i k (s ∷ ss) = new_step n i k s ss (eqb (place n s.to) i) refl (new_are n i (k + 1) ss)

-- without the message of a number
abbrev pub without_message : Option ℕ → List (ℕ × List ℕ) → List (ℕ × List ℕ)
without_message o xs = filter (λ (p : ℕ × List ℕ). not (is_number o p.0)) xs

pub messages_step : (n : ℕ) (j : List Turn) (e : Turn) (i : ℕ) → Wired (e ∷ j) → messages_at n (e ∷ j) i ≡ without_message e.delivered (messages_at n j i) ++ new_messages n i (length (sent_of j)) (map letter_of e.sent)
messages_step n j e i w =
    let q : ℕ × Sent → Bool = λ p. eqb (place n p.1.to) i in
    let d : ℕ × Sent → Bool = λ p. not (is_number e.delivered p.0) in
    let len = length (sent_of j) in
    ap (λ l. map spelling_of (filter q l)) (travelling_grows j e w)
    ∙ (ap (map spelling_of) (filter-append q (filter d (travelling j)) (enumerate_from len e.sent))
    ∙ (map-append spelling_of (filter q (filter d (travelling j))) (filter q (enumerate_from len e.sent))
    ∙ (λ t. (ap (map spelling_of) (filters_swap q d (travelling j)) ∙ map_filter spelling_of d (λ (p : ℕ × List ℕ). not (is_number e.delivered p.0)) (λ p. refl) (filter q (travelling j))) t ++ new_are n i len e.sent t)))

-- the numbers of an inbox ascend
contents_ascend : (b : ℕ) (xs : List (ℕ × Sent)) → IsAscending b xs → IsAscending b (map spelling_of xs)
contents_ascend b [] h = tt
contents_ascend b (p ∷ ps) h = (h.0, contents_ascend (p.0 + 1) ps h.1)

pub messages_ascend : (n : ℕ) (j : List Turn) (i : ℕ) → IsAscending 0 (messages_at n j i)
messages_ascend n j i =
    let q : ℕ × Sent → Bool = λ p. eqb (place n p.1.to) i in
    contents_ascend 0 (filter q (travelling j)) (ascends_filter q 0 (travelling j) (travelling_ascends j))

-- none of these has the number k
abbrev pub LacksNumber : ℕ → List (ℕ × List ℕ) → Type 0
LacksNumber k [] = Unit {0}
LacksNumber k (p ∷ ps) = (k ≢ p.0) × LacksNumber k ps

above : (b k : ℕ) (xs : List (ℕ × List ℕ)) → IsAscending b xs → k < b → LacksNumber k xs
above b k [] h low = tt
above b k (p ∷ ps) h low = let l = h.0 in ((λ e. absurd (omega arith)), above (p.0 + 1) k ps h.1 (omega arith))

-- some message has the number k
abbrev pub HasNumber : ℕ → List (ℕ × List ℕ) → Type 0
HasNumber k [] = ⊥
HasNumber k (p ∷ ps) = (k ≡ p.0) ⊎ HasNumber k ps

pub right : (k : ℕ) (xs ys : List (ℕ × List ℕ)) → LacksNumber k (xs ++ ys) → LacksNumber k ys
right k [] ys h = h
right k (x ∷ xs) ys h = right k xs ys h.1

pub after_low : (b k : ℕ) (xs ys : List (ℕ × List ℕ)) → IsAscending b (xs ++ ys) → HasNumber k xs → LacksNumber k ys
after_low b k [] ys h at = absurd at
after_low b k (p ∷ ps) ys h at = ⊎_elim
    (λ (e : k ≡ p.0). right k ps ys (above (p.0 + 1) k (ps ++ ys) h.1 (omega arith)))
    (λ (r : HasNumber k ps). after_low (p.0 + 1) k ps ys h.1 r)
    at

pub without_none_there : (k : ℕ) (xs : List (ℕ × List ℕ)) → LacksNumber k xs → without_message (Some k) xs ≡ xs
without_none_there k [] h = refl
without_none_there k (p ∷ ps) h = rw (ne_eqb k p.0 h.0) (ap (λ l. p ∷ l) (without_none_there k ps h.1))
