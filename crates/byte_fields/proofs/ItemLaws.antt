-- Items one after another, up to where another byte comes.
use Rattle.std.proofs.Common.{◌≡◌, ℕ, zero, suc, ◌+◌, ◌<◌, Bool, true, false, cond, List, [], ◌∷◌, ◌++◌, length, Ok, Err, refl, sym, ap, subst, ◌∙◌, append_assoc, arith, inl, inr}
use Rattle.std.specs.List.{flat_map}
use Rattle.std.proofs.lemmas.Bool.{eqb-true, eqb-false, eq-eqb, ne_eqb, false≢true}
use Rattle.std.proofs.lemmas.List.{length-append, append-nil}
use Rattle.std.proofs.lemmas.List.Concat.{flat_map-cons}
use Rattle.byte_fields.specs.declared.fault.FileFault.{FileFault}
use Rattle.byte_fields.specs.Field.{Field, EachBehind}
use Rattle.byte_fields.specs.Text.{BeginsWith, EachEnds, many}
use Rattle.byte_fields.specs.Reading.{Left, Read, ◌>>=◌}
use Rattle.byte_fields.specs.TextReading.{begins_with, items_at, many_at}
use Rattle.byte_fields.specs.Laws.{AnyBytes, Takes, IsRead, AreRead}
use Rattle.byte_fields.proofs.ResultLaws.{done, ok_is, no_err, bind_ok, bind_err, chosen}
use Rattle.byte_fields.proofs.FieldLaws.{reads}

-- ---- the byte that begins an item

pub begins_yes : (c : ℕ) (bytes : List ℕ) → begins_with c bytes ≡ true → BeginsWith c bytes
begins_yes c [] e = false≢true e
begins_yes c (b ∷ bytes) e = eqb-true b c e

pub begins_no : (c : ℕ) (bytes : List ℕ) → begins_with c bytes ≡ false → BeginsWith c bytes → ⊥
begins_no c [] e h = h
begins_no c (b ∷ bytes) e h = eqb-false b c e h

pub is_begun : (c : ℕ) (bytes : List ℕ) → BeginsWith c bytes → begins_with c bytes ≡ true
is_begun c [] h = absurd h
is_begun c (b ∷ bytes) h = eq-eqb b c h

pub not_begun : (c : ℕ) (bytes : List ℕ) → (BeginsWith c bytes → ⊥) → begins_with c bytes ≡ false
not_begun c [] h = refl
not_begun c (b ∷ bytes) h = ne_eqb b c h

some_of : (c : ℕ) (bytes : List ℕ) → begins_with c bytes ≡ true → 0 < length bytes
some_of c [] e = absurd (false≢true e)
some_of c (b ∷ bytes) e = omega arith

-- an item has a byte at least
pub some_bytes : {X : Type 0} (c : ℕ) (F : Field FileFault X) (behind : List X → Field FileFault X) (item : List X → Left → Read FileFault X) → AreRead c F behind item → (x : X) → 0 < length (F.spelling x)
some_bytes c F behind item are x = some_of c (F.spelling x) (ap (λ (z : List ℕ). begins_with c z) (sym (append-nil (F.spelling x))) ∙ are.begins x [])

-- ---- lists of items

pub spelled_cons : {E X : Type 0} (F : Field E X) (x : X) (more : List X) (rest : List ℕ) → flat_map F.spelling (x ∷ more) ++ rest ≡ F.spelling x ++ (flat_map F.spelling more ++ rest)
spelled_cons F x more rest = ap (λ (z : List ℕ). z ++ rest) (flat_map-cons F.spelling x more) ∙ append_assoc (F.spelling x) (flat_map F.spelling more) rest

pub length_cons : {E X : Type 0} (F : Field E X) (x : X) (more : List X) → length (flat_map F.spelling (x ∷ more)) ≡ length (F.spelling x) + length (flat_map F.spelling more)
length_cons F x more = ap (λ (z : List ℕ). length z) (flat_map-cons F.spelling x more) ∙ length-append (F.spelling x) (flat_map F.spelling more)

-- one item that was taken, as the field spells it
record TakesOne {X : Type 0} (F : Field FileFault X) (at : ℕ) (bytes : List ℕ) (x : X) (l : Left) : Type 0 where
  parts : bytes ≡ F.spelling x ++ l.1
  place : l.0 ≡ at + length (F.spelling x)
  ends : F.Ends x l.1
  fewer : length l.1 < length bytes

take_one : {X : Type 0} (c : ℕ) (F : Field FileFault X) (behind : List X → Field FileFault X) (item : List X → Left → Read FileFault X) → AreRead c F behind item
    → (front : List X) (at : ℕ) (bytes : List ℕ) (x : X) (l : Left) → Takes AnyBytes (behind front) at bytes x l → TakesOne F at bytes x l
take_one c F behind item are front at bytes x l t =
    let same = are.spelling front x in
    let parts : bytes ≡ F.spelling x ++ l.1 = t.parts ∙ ap (λ (z : List ℕ). z ++ l.1) same in
    record {
      parts = parts;
      place = t.place ∙ ap (λ (z : List ℕ). at + length z) same;
      ends = are.ends front x l.1 t.ends;
      fewer = omega (arith, ap (λ (z : List ℕ). length z) parts, length-append (F.spelling x) l.1, some_bytes c F behind item are x);
    }

-- fewer bytes stand behind an item
pub item_shorter : {X : Type 0} (c : ℕ) (F : Field FileFault X) (behind : List X → Field FileFault X) (item : List X → Left → Read FileFault X) → AreRead c F behind item
    → (front : List X) (l : Left) (x : X) (m : Left) → item front l ≡ Ok (x, m) → length m.1 < length l.1
item_shorter c F behind item are front l x m e = (take_one c F behind item are front l.0 l.1 x m ((are.read front).takes l.0 l.1 x m tt e)).fewer

-- these items were taken from the front, behind others
record TakesAll {X : Type 0} (c : ℕ) (F : Field FileFault X) (behind : List X → Field FileFault X) (front : List X) (at : ℕ) (bytes : List ℕ) (xs : List X) (m : Left) : Type 0 where
  more : List X
  all : xs ≡ front ++ more
  each : EachBehind behind front more
  parts : bytes ≡ flat_map F.spelling more ++ m.1
  place : m.0 ≡ at + length (flat_map F.spelling more)
  ends : EachEnds F more m.1
  stops : BeginsWith c m.1 → ⊥

items_take : {X : Type 0} (c : ℕ) (F : Field FileFault X) (behind : List X → Field FileFault X) (item : List X → Left → Read FileFault X) → AreRead c F behind item
    → (n : ℕ) (front : List X) (at : ℕ) (bytes : List ℕ) (xs : List X) (m : Left) → length bytes < n → items_at n c item front (at, bytes) ≡ Ok (xs, m) → TakesAll c F behind front at bytes xs m
unfolding items_at
items_take c F behind item are zero front at bytes xs m low e = absurd (omega (arith, low))
items_take c F behind item are (suc n) front at bytes xs m low e =
    elim (chosen (begins_with c bytes) (item front (at, bytes) >>= λ r. items_at n c item (front ++ r.0 ∷ []) r.1) (Ok (front, (at, bytes))) (Ok (xs, m)) e) [
      | inl h ↦
          let a = bind_ok (item front (at, bytes)) (λ r. items_at n c item (front ++ r.0 ∷ []) r.1) (xs, m) h.1 in
          let t = (are.read front).takes at bytes a.0.0 a.0.1 tt a.1 in
          let o = take_one c F behind item are front at bytes a.0.0 a.0.1 t in
          let u = items_take c F behind item are n (front ++ a.0.0 ∷ []) a.0.1.0 a.0.1.1 xs m (omega (arith, low, o.fewer)) a.2 in
          record {
            more = a.0.0 ∷ u.more;
            all = u.all ∙ append_assoc front (a.0.0 ∷ []) u.more;
            each = (t.has, u.each);
            parts = o.parts ∙ ap (λ (z : List ℕ). F.spelling a.0.0 ++ z) u.parts ∙ sym (spelled_cons F a.0.0 u.more m.1);
            place = omega (arith, o.place, u.place, length_cons F a.0.0 u.more);
            ends = (subst (λ (z : List ℕ). F.Ends a.0.0 z) u.parts o.ends, u.ends);
            stops = u.stops;
          }
      | inr h ↦
          let same = ok_is (front, (at, bytes)) (xs, m) h.1 in
          let none : TakesAll c F behind front at bytes front (at, bytes) = record { more = []; all = sym (append-nil front); each = tt; parts = refl; place = omega arith; ends = tt; stops = begins_no c bytes h.0 } in
          subst (λ (q : List _ × Left). TakesAll c F behind front at bytes q.0 q.1) same none
    ]

-- an item that is read, whatever stands behind it
read_one : {X : Type 0} (c : ℕ) (F : Field FileFault X) (behind : List X → Field FileFault X) (item : List X → Left → Read FileFault X) → AreRead c F behind item
    → (front : List X) (at : ℕ) (x : X) (bytes rest : List ℕ) → (behind front).Has x → bytes ≡ F.spelling x ++ rest → F.Ends x rest → item front (at, bytes) ≡ Ok (x, (at + length (F.spelling x), rest))
read_one c F behind item are front at x bytes rest has parts ends =
    let same = are.spelling front x in
    reads (behind front) (item front) (are.read front) at bytes rest x has (parts ∙ ap (λ (z : List ℕ). z ++ rest) (sym same)) (are.may_end front x rest ends)
    ∙ ap (λ (z : List ℕ). done (x, (at + length z, rest))) same

-- and then what is read behind it
step_one : {X : Type 0} (c : ℕ) (F : Field FileFault X) (behind : List X → Field FileFault X) (item : List X → Left → Read FileFault X) → AreRead c F behind item
    → (n : ℕ) (front : List X) (at : ℕ) (x : X) (bytes rest : List ℕ) → (behind front).Has x → bytes ≡ F.spelling x ++ rest → F.Ends x rest
    → items_at (suc n) c item front (at, bytes) ≡ items_at n c item (front ++ x ∷ []) (at + length (F.spelling x), rest)
unfolding items_at
step_one c F behind item are n front at x bytes rest has parts ends =
    let one = read_one c F behind item are front at x bytes rest has parts ends in
    let here : begins_with c bytes ≡ true = ap (λ (z : List ℕ). begins_with c z) parts ∙ are.begins x rest in
    ap (λ (b : Bool). cond b (item front (at, bytes) >>= λ r. items_at n c item (front ++ r.0 ∷ []) r.1) (Ok (front, (at, bytes)))) here
    ∙ ap (λ (a : Read FileFault _). a >>= λ r. items_at n c item (front ++ r.0 ∷ []) r.1) one

shorter : {X : Type 0} (c : ℕ) (F : Field FileFault X) (behind : List X → Field FileFault X) (item : List X → Left → Read FileFault X) → AreRead c F behind item
    → (n : ℕ) (x : X) (more : List X) (rest : List ℕ) → length (flat_map F.spelling (x ∷ more) ++ rest) < suc n → length (flat_map F.spelling more ++ rest) < n
shorter c F behind item are n x more rest low =
    omega (arith, low, length-append (flat_map F.spelling (x ∷ more)) rest, length-append (flat_map F.spelling more) rest, length_cons F x more, some_bytes c F behind item are x)

items_again : {X : Type 0} (c : ℕ) (F : Field FileFault X) (behind : List X → Field FileFault X) (item : List X → Left → Read FileFault X) → AreRead c F behind item
    → (n : ℕ) (more front : List X) (at : ℕ) (rest : List ℕ) → length (flat_map F.spelling more ++ rest) < n → EachBehind behind front more → EachEnds F more rest → (BeginsWith c rest → ⊥)
    → items_at n c item front (at, flat_map F.spelling more ++ rest) ≡ Ok (front ++ more, (at + length (flat_map F.spelling more), rest))
unfolding items_at
items_again c F behind item are zero more front at rest low each ends stops = absurd (omega (arith, low))
items_again c F behind item are (suc n) [] front at rest low each ends stops =
    ap (λ (b : Bool). cond b (item front (at, rest) >>= λ r. items_at n c item (front ++ r.0 ∷ []) r.1) (Ok (front, (at, rest)))) (not_begun c rest stops)
    ∙ ap (λ (xs : List _). done (xs, (at, rest))) (sym (append-nil front)) ∙ ap (λ (k : ℕ). done (front ++ [], (k, rest))) (omega arith)
items_again c F behind item are (suc n) (x ∷ more) front at rest low each ends stops =
    let behind_x = flat_map F.spelling more ++ rest in
    let one = step_one c F behind item are n front at x (flat_map F.spelling (x ∷ more) ++ rest) behind_x each.0 (spelled_cons F x more rest) ends.0 in
    let others = items_again c F behind item are n more (front ++ x ∷ []) (at + length (F.spelling x)) rest (shorter c F behind item are n x more rest low) each.1 ends.1 stops in
    let place : (at + length (F.spelling x)) + length (flat_map F.spelling more) ≡ at + length (flat_map F.spelling (x ∷ more)) = omega (arith, length_cons F x more) in
    one ∙ others
    ∙ ap (λ (xs : List _). done (xs, ((at + length (F.spelling x)) + length (flat_map F.spelling more), rest))) (append_assoc front (x ∷ []) more)
    ∙ ap (λ (k : ℕ). done (front ++ x ∷ more, (k, rest))) place

-- some items, and the fault of the next one
record FailsAt {X : Type 0} (c : ℕ) (F : Field FileFault X) (behind : List X → Field FileFault X) (front : List X) (at : ℕ) (bytes : List ℕ) (f : FileFault) : Type 0 where
  more : List X
  rest : List ℕ
  each : EachBehind behind front more
  parts : bytes ≡ flat_map F.spelling more ++ rest
  ends : EachEnds F more rest
  begins : BeginsWith c rest
  fault : (behind (front ++ more)).Fault (at + length (flat_map F.spelling more)) rest f

items_fail : {X : Type 0} (c : ℕ) (F : Field FileFault X) (behind : List X → Field FileFault X) (item : List X → Left → Read FileFault X) → AreRead c F behind item
    → (n : ℕ) (front : List X) (at : ℕ) (bytes : List ℕ) (f : FileFault) → items_at n c item front (at, bytes) ≡ Err f → FailsAt c F behind front at bytes f
unfolding items_at
items_fail c F behind item are zero front at bytes f e = absurd (no_err (front, (at, bytes)) f e)
items_fail c F behind item are (suc n) front at bytes f e =
    elim (chosen (begins_with c bytes) (item front (at, bytes) >>= λ r. items_at n c item (front ++ r.0 ∷ []) r.1) (Ok (front, (at, bytes))) (Err f) e) [
      | inr h ↦ absurd (no_err (front, (at, bytes)) f h.1)
      | inl h ↦ elim (bind_err (item front (at, bytes)) (λ r. items_at n c item (front ++ r.0 ∷ []) r.1) f h.1) [
        | inl k ↦
            let now = (are.read front).fails at bytes f tt k in
            let here : (behind (front ++ [])).Fault (at + 0) bytes f = subst (λ (xs : List _). (behind xs).Fault (at + 0) bytes f) (sym (append-nil front)) (subst (λ (j : ℕ). (behind front).Fault j bytes f) (omega arith) now) in
            record { more = []; rest = bytes; each = tt; parts = refl; ends = tt; begins = begins_yes c bytes h.0; fault = here }
        | inr k ↦
            let t = (are.read front).takes at bytes k.0.0 k.0.1 tt k.1 in
            let o = take_one c F behind item are front at bytes k.0.0 k.0.1 t in
            let u = items_fail c F behind item are n (front ++ k.0.0 ∷ []) k.0.1.0 k.0.1.1 f k.2 in
            let there : k.0.1.0 + length (flat_map F.spelling u.more) ≡ at + length (flat_map F.spelling (k.0.0 ∷ u.more)) = omega (arith, o.place, length_cons F k.0.0 u.more) in
            record {
              more = k.0.0 ∷ u.more;
              rest = u.rest;
              each = (t.has, u.each);
              parts = o.parts ∙ ap (λ (z : List ℕ). F.spelling k.0.0 ++ z) u.parts ∙ sym (spelled_cons F k.0.0 u.more u.rest);
              ends = (subst (λ (z : List ℕ). F.Ends k.0.0 z) u.parts o.ends, u.ends);
              begins = u.begins;
              fault = subst (λ (j : ℕ). (behind (front ++ k.0.0 ∷ u.more)).Fault j u.rest f) there (subst (λ (xs : List _). (behind xs).Fault (k.0.1.0 + length (flat_map F.spelling u.more)) u.rest f) (append_assoc front (k.0.0 ∷ []) u.more) u.fault);
            }
      ]
    ]

items_failing : {X : Type 0} (c : ℕ) (F : Field FileFault X) (behind : List X → Field FileFault X) (item : List X → Left → Read FileFault X) → AreRead c F behind item
    → (n : ℕ) (more front : List X) (at : ℕ) (bytes rest : List ℕ) (f : FileFault) → length (flat_map F.spelling more ++ rest) < n → EachBehind behind front more → bytes ≡ flat_map F.spelling more ++ rest
    → EachEnds F more rest → BeginsWith c rest → (behind (front ++ more)).Fault (at + length (flat_map F.spelling more)) rest f → items_at n c item front (at, bytes) ≡ Err f
unfolding items_at
items_failing c F behind item are zero more front at bytes rest f low each parts ends begun fault = absurd (omega (arith, low))
items_failing c F behind item are (suc n) [] front at bytes rest f low each parts ends begun fault =
    let here : (behind front).Fault at rest f = subst (λ (k : ℕ). (behind front).Fault k rest f) (omega arith) (subst (λ (xs : List _). (behind xs).Fault (at + 0) rest f) (append-nil front) fault) in
    ap (λ (bs : List ℕ). items_at (suc n) c item front (at, bs)) parts
    ∙ ap (λ (b : Bool). cond b (item front (at, rest) >>= λ r. items_at n c item (front ++ r.0 ∷ []) r.1) (Ok (front, (at, rest)))) (is_begun c rest begun)
    ∙ ap (λ (a : Read FileFault _). a >>= λ r. items_at n c item (front ++ r.0 ∷ []) r.1) ((are.read front).failing at rest f here)
items_failing c F behind item are (suc n) (x ∷ more) front at bytes rest f low each parts ends begun fault =
    let behind_x = flat_map F.spelling more ++ rest in
    let one = step_one c F behind item are n front at x bytes behind_x each.0 (parts ∙ spelled_cons F x more rest) ends.0 in
    let place : at + length (flat_map F.spelling (x ∷ more)) ≡ (at + length (F.spelling x)) + length (flat_map F.spelling more) = omega (arith, length_cons F x more) in
    let there : (behind ((front ++ x ∷ []) ++ more)).Fault ((at + length (F.spelling x)) + length (flat_map F.spelling more)) rest f =
    subst (λ (k : ℕ). (behind ((front ++ x ∷ []) ++ more)).Fault k rest f) place (subst (λ (xs : List _). (behind xs).Fault (at + length (flat_map F.spelling (x ∷ more))) rest f) (sym (append_assoc front (x ∷ []) more)) fault) in
    one
    ∙ items_failing c F behind item are n more (front ++ x ∷ []) (at + length (F.spelling x)) behind_x rest f (shorter c F behind item are n x more rest low) each.1 refl ends.1 begun there

pub many_read : {X : Type 0} (c : ℕ) (F : Field FileFault X) (behind : List X → Field FileFault X) (item : List X → Left → Read FileFault X) → AreRead c F behind item → IsRead AnyBytes (many c F behind) (many_at c item)
unfolding many_at
many_read {X = X} c F behind item are = record { takes = takes; again = again; fails = fails; failing = failing }
  where
    takes : (at : ℕ) (bytes : List ℕ) (xs : List X) (m : Left) → AnyBytes bytes → many_at c item (at, bytes) ≡ Ok (xs, m) → Takes AnyBytes (many c F behind) at bytes xs m
    takes at bytes xs m fits e =
        let u = items_take c F behind item are (suc (length bytes)) [] at bytes xs m (omega arith) e in
        let one : Takes AnyBytes (many c F behind) at bytes u.more m = record { has = u.each; parts = u.parts; place = u.place; ends = (u.ends, u.stops); rest_fits = tt } in
        subst (λ (ys : List X). Takes AnyBytes (many c F behind) at bytes ys m) (sym u.all) one

    again : (at : ℕ) (xs : List X) (rest : List ℕ) → EachBehind behind [] xs → EachEnds F xs rest × (BeginsWith c rest → ⊥)
        → many_at c item (at, flat_map F.spelling xs ++ rest) ≡ Ok (xs, (at + length (flat_map F.spelling xs), rest))
    again at xs rest has ends = items_again c F behind item are (suc (length (flat_map F.spelling xs ++ rest))) xs [] at rest (omega arith) has ends.0 ends.1

    fails : (at : ℕ) (bytes : List ℕ) (f : FileFault) → AnyBytes bytes → many_at c item (at, bytes) ≡ Err f → (many c F behind).Fault at bytes f
    fails at bytes f fits e =
        let u = items_fail c F behind item are (suc (length bytes)) [] at bytes f e in
        (u.more, u.rest, u.each, u.parts, u.ends, u.begins, u.fault)

    failing : (at : ℕ) (bytes : List ℕ) (f : FileFault) → (many c F behind).Fault at bytes f → many_at c item (at, bytes) ≡ Err f
    failing at bytes f h =
        items_failing c F behind item are (suc (length bytes)) h.0 [] at bytes h.1 f (omega (arith, ap (λ (z : List ℕ). length z) h.3)) h.2 h.3 h.4 h.5 h.6
