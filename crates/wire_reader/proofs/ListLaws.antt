-- Lists of items behind a count are read item by item.
use Rattle.std.proofs.Common.{◌≡◌, ℕ, zero, suc, ◌+◌, ◌<◌, List, [], ◌∷◌, ◌++◌, length, Ok, Err, refl, sym, ap, subst, ◌∙◌, append_assoc, arith, inl, inr}
use Rattle.std.specs.List.{flat_map}
use Rattle.std.proofs.lemmas.List.{length-append, append-nil}
use Rattle.wire_reader.specs.declared.fault.WireFault.{WireFault}
use Rattle.byte_fields.specs.Field.{Field, EachBehind, EndsAnywhere}
use Rattle.wire_reader.specs.Field.{list_behind}
use Rattle.byte_fields.specs.Reading.{Left, Read, ◌>>=◌}
use Rattle.wire_reader.specs.Reading.{items_at, list_at}
use Rattle.byte_fields.specs.Laws.{Takes, IsRead}
use Rattle.byte_fields.proofs.ResultLaws.{done, ok_is, no_err, bind_ok, bind_err}
use Rattle.byte_fields.proofs.FieldLaws.{reads}
use Rattle.wire_reader.proofs.FieldLaws.{IsBytes}
use Rattle.byte_fields.proofs.ItemLaws.{spelled_cons, length_cons}

-- what stands behind some items is spelled as any item is, and is read by its own reader
pub record AreRead {X : Type 0} (F : Field WireFault X) (behind : List X → Field WireFault X) (item : List X → Left → Read WireFault X) : Type 0 where
  pub read : (front : List X) → IsRead IsBytes (behind front) (item front)
  pub spelling : (front : List X) (x : X) → (behind front).spelling x ≡ F.spelling x
  pub free : (front : List X) → EndsAnywhere (behind front)

-- these items were taken from the front, behind others
pub record TakesAll {X : Type 0} (F : Field WireFault X) (behind : List X → Field WireFault X) (front : List X) (at : ℕ) (bytes : List ℕ) (more : List X) (m : Left) : Type 0 where
  pub each : EachBehind behind front more
  pub parts : bytes ≡ flat_map F.spelling more ++ m.1
  pub place : m.0 ≡ at + length (flat_map F.spelling more)
  pub rest_fits : IsBytes m.1

-- one item, and then more
one_more : {X : Type 0} (F : Field WireFault X) (behind : List X → Field WireFault X) (item : List X → Left → Read WireFault X) → AreRead F behind item
    → (front : List X) (at : ℕ) (bytes : List ℕ) (x : X) (l : Left) (more : List X) (m : Left) → Takes IsBytes (behind front) at bytes x l
    → TakesAll F behind (front ++ x ∷ []) l.0 l.1 more m → TakesAll F behind front at bytes (x ∷ more) m
one_more F behind item are front at bytes x l more m t u =
    let same = are.spelling front x in
    let parts : bytes ≡ F.spelling x ++ l.1 = t.parts ∙ ap (λ (z : List ℕ). z ++ l.1) same in
    let place : l.0 ≡ at + length (F.spelling x) = t.place ∙ ap (λ (z : List ℕ). at + length z) same in
    record {
      each = (t.has, u.each);
      parts = parts ∙ ap (λ (z : List ℕ). F.spelling x ++ z) u.parts ∙ sym (spelled_cons F x more m.1);
      place = omega (arith, place, u.place, length_cons F x more);
      rest_fits = u.rest_fits;
    }

pub items_take : {X : Type 0} (F : Field WireFault X) (behind : List X → Field WireFault X) (item : List X → Left → Read WireFault X) → AreRead F behind item
    → (n : ℕ) (front : List X) (at : ℕ) (bytes : List ℕ) (xs : List X) (m : Left) → IsBytes bytes → items_at item n front (at, bytes) ≡ Ok (xs, m)
    → (more : List X) × (xs ≡ front ++ more) × (length more ≡ n) × TakesAll F behind front at bytes more m
unfolding items_at
items_take F behind item are zero front at bytes xs m fits e =
    let same = ok_is (front, (at, bytes)) (xs, m) e in
    let none : TakesAll F behind front at bytes [] (at, bytes) = record { each = tt; parts = refl; place = omega arith; rest_fits = fits } in
    ([], ap (λ (q : List _ × Left). q.0) (sym same) ∙ sym (append-nil front), refl, subst (λ (q : List _ × Left). TakesAll F behind front at bytes [] q.1) same none)
items_take F behind item are (suc n) front at bytes xs m fits e =
    let a = bind_ok (item front (at, bytes)) (λ r. items_at item n (front ++ r.0 ∷ []) r.1) (xs, m) e in
    let t = (are.read front).takes at bytes a.0.0 a.0.1 fits a.1 in
    let u = items_take F behind item are n (front ++ a.0.0 ∷ []) a.0.1.0 a.0.1.1 xs m t.rest_fits a.2 in
    (a.0.0 ∷ u.0, u.1 ∙ append_assoc front (a.0.0 ∷ []) u.0, ap suc u.2, one_more F behind item are front at bytes a.0.0 a.0.1 u.0 m t u.3)

-- an item that is read, whatever stands behind it
read_one : {X : Type 0} (F : Field WireFault X) (behind : List X → Field WireFault X) (item : List X → Left → Read WireFault X) → AreRead F behind item
    → (front : List X) (at : ℕ) (x : X) (bytes rest : List ℕ) → (behind front).Has x → bytes ≡ F.spelling x ++ rest → item front (at, bytes) ≡ Ok (x, (at + length (F.spelling x), rest))
read_one F behind item are front at x bytes rest has parts =
    let same = are.spelling front x in
    reads (behind front) (item front) (are.read front) at bytes rest x has (parts ∙ ap (λ (z : List ℕ). z ++ rest) (sym same)) (are.free front x rest)
    ∙ ap (λ (z : List ℕ). done (x, (at + length z, rest))) same

pub items_again : {X : Type 0} (F : Field WireFault X) (behind : List X → Field WireFault X) (item : List X → Left → Read WireFault X) → AreRead F behind item
    → (more front : List X) (at : ℕ) (rest : List ℕ) → EachBehind behind front more
    → items_at item (length more) front (at, flat_map F.spelling more ++ rest) ≡ Ok (front ++ more, (at + length (flat_map F.spelling more), rest))
unfolding items_at
items_again F behind item are [] front at rest each =
    ap (λ (xs : List _). done (xs, (at, rest))) (sym (append-nil front)) ∙ ap (λ (n : ℕ). done (front ++ [], (n, rest))) (omega arith)
items_again F behind item are (x ∷ more) front at rest each =
    let one = read_one F behind item are front at x (flat_map F.spelling (x ∷ more) ++ rest) (flat_map F.spelling more ++ rest) each.0 (spelled_cons F x more rest) in
    let others = items_again F behind item are more (front ++ x ∷ []) (at + length (F.spelling x)) rest each.1 in
    let place : (at + length (F.spelling x)) + length (flat_map F.spelling more) ≡ at + length (flat_map F.spelling (x ∷ more)) = omega (arith, length_cons F x more) in
    ap (λ (a : Read WireFault _). a >>= λ r. items_at item (length more) (front ++ r.0 ∷ []) r.1) one ∙ others
    ∙ ap (λ (xs : List _). done (xs, ((at + length (F.spelling x)) + length (flat_map F.spelling more), rest))) (append_assoc front (x ∷ []) more)
    ∙ ap (λ (n : ℕ). done (front ++ x ∷ more, (n, rest))) place

-- some items, and the fault of the next one
pub record FailsAt {X : Type 0} (F : Field WireFault X) (behind : List X → Field WireFault X) (front : List X) (n at : ℕ) (bytes : List ℕ) (f : WireFault) : Type 0 where
  pub more : List X
  pub rest : List ℕ
  pub fewer : length more < n
  pub each : EachBehind behind front more
  pub parts : bytes ≡ flat_map F.spelling more ++ rest
  pub fault : (behind (front ++ more)).Fault (at + length (flat_map F.spelling more)) rest f

pub items_fail : {X : Type 0} (F : Field WireFault X) (behind : List X → Field WireFault X) (item : List X → Left → Read WireFault X) → AreRead F behind item
    → (n : ℕ) (front : List X) (at : ℕ) (bytes : List ℕ) (f : WireFault) → IsBytes bytes → items_at item n front (at, bytes) ≡ Err f → FailsAt F behind front n at bytes f
unfolding items_at
items_fail F behind item are zero front at bytes f fits e = absurd (no_err (front, (at, bytes)) f e)
items_fail F behind item are (suc n) front at bytes f fits e = elim (bind_err (item front (at, bytes)) (λ r. items_at item n (front ++ r.0 ∷ []) r.1) f e) [
  | inl h ↦
      let now = (are.read front).fails at bytes f fits h in
      let here : (behind (front ++ [])).Fault (at + 0) bytes f = subst (λ (xs : List _). (behind xs).Fault (at + 0) bytes f) (sym (append-nil front)) (subst (λ (k : ℕ). (behind front).Fault k bytes f) (omega arith) now) in
      record { more = []; rest = bytes; fewer = omega arith; each = tt; parts = refl; fault = here }
  | inr h ↦
      let t = (are.read front).takes at bytes h.0.0 h.0.1 fits h.1 in
      let u = items_fail F behind item are n (front ++ h.0.0 ∷ []) h.0.1.0 h.0.1.1 f t.rest_fits h.2 in
      let same = are.spelling front h.0.0 in
      let parts : bytes ≡ F.spelling h.0.0 ++ h.0.1.1 = t.parts ∙ ap (λ (z : List ℕ). z ++ h.0.1.1) same in
      let place : h.0.1.0 ≡ at + length (F.spelling h.0.0) = t.place ∙ ap (λ (z : List ℕ). at + length z) same in
      let there : h.0.1.0 + length (flat_map F.spelling u.more) ≡ at + length (flat_map F.spelling (h.0.0 ∷ u.more)) = omega (arith, place, length_cons F h.0.0 u.more) in
      record {
        more = h.0.0 ∷ u.more;
        rest = u.rest;
        fewer = omega (arith, u.fewer);
        each = (t.has, u.each);
        parts = parts ∙ ap (λ (z : List ℕ). F.spelling h.0.0 ++ z) u.parts ∙ sym (spelled_cons F h.0.0 u.more u.rest);
        fault = subst (λ (k : ℕ). (behind (front ++ h.0.0 ∷ u.more)).Fault k u.rest f) there (subst (λ (xs : List _). (behind xs).Fault (h.0.1.0 + length (flat_map F.spelling u.more)) u.rest f) (append_assoc front (h.0.0 ∷ []) u.more) u.fault);
      }
]

pub items_failing : {X : Type 0} (F : Field WireFault X) (behind : List X → Field WireFault X) (item : List X → Left → Read WireFault X) → AreRead F behind item
    → (more front : List X) (n at : ℕ) (bytes rest : List ℕ) (f : WireFault) → length more < n → EachBehind behind front more → bytes ≡ flat_map F.spelling more ++ rest
    → (behind (front ++ more)).Fault (at + length (flat_map F.spelling more)) rest f → items_at item n front (at, bytes) ≡ Err f
unfolding items_at
items_failing F behind item are more front zero at bytes rest f fewer each parts fault = absurd (omega (arith, fewer))
items_failing F behind item are [] front (suc n) at bytes rest f fewer each parts fault =
    let here : (behind front).Fault at rest f = subst (λ (k : ℕ). (behind front).Fault k rest f) (omega arith) (subst (λ (xs : List _). (behind xs).Fault (at + 0) rest f) (append-nil front) fault) in
    ap (λ (bs : List ℕ). items_at item (suc n) front (at, bs)) parts
    ∙ ap (λ (a : Read WireFault _). a >>= λ r. items_at item n (front ++ r.0 ∷ []) r.1) ((are.read front).failing at rest f here)
items_failing F behind item are (x ∷ more) front (suc n) at bytes rest f fewer each parts fault =
    let one = read_one F behind item are front at x bytes (flat_map F.spelling more ++ rest) each.0 (parts ∙ spelled_cons F x more rest) in
    let place : at + length (flat_map F.spelling (x ∷ more)) ≡ (at + length (F.spelling x)) + length (flat_map F.spelling more) = omega (arith, length_cons F x more) in
    let there : (behind ((front ++ x ∷ []) ++ more)).Fault ((at + length (F.spelling x)) + length (flat_map F.spelling more)) rest f =
    subst (λ (k : ℕ). (behind ((front ++ x ∷ []) ++ more)).Fault k rest f) place (subst (λ (xs : List _). (behind xs).Fault (at + length (flat_map F.spelling (x ∷ more))) rest f) (sym (append_assoc front (x ∷ []) more)) fault) in
    ap (λ (a : Read WireFault _). a >>= λ r. items_at item n (front ++ r.0 ∷ []) r.1) one
    ∙ items_failing F behind item are more (front ++ x ∷ []) n (at + length (F.spelling x)) (flat_map F.spelling more ++ rest) rest f (omega (arith, fewer)) each.1 refl there

-- a count and its items
pub listed_read : {X : Type 0} (C : Field WireFault ℕ) (count : Left → Read WireFault ℕ) (F : Field WireFault X) (behind : List X → Field WireFault X) (item : List X → Left → Read WireFault X)
    → IsRead IsBytes C count → EndsAnywhere C → AreRead F behind item → IsRead IsBytes (list_behind C F behind) (list_at count item)
listed_read {X = X} C count F behind item c c_free are = record { takes = takes; again = again; fails = fails; failing = failing }
  where
    takes : (at : ℕ) (bytes : List ℕ) (xs : List X) (m : Left) → IsBytes bytes → list_at count item (at, bytes) ≡ Ok (xs, m) → Takes IsBytes (list_behind C F behind) at bytes xs m
    takes at bytes xs m fits e =
        let a = bind_ok (count (at, bytes)) (λ n. items_at item n.0 [] n.1) (xs, m) e in
        let t = c.takes at bytes a.0.0 a.0.1 fits a.1 in
        let u = items_take F behind item are a.0.0 [] a.0.1.0 a.0.1.1 xs m t.rest_fits a.2 in
        let n-is : a.0.0 ≡ length u.0 = sym u.2 in
        let has : C.Has (length u.0) = subst (λ (n : ℕ). C.Has n) n-is t.has in
        let front : bytes ≡ C.spelling (length u.0) ++ a.0.1.1 = subst (λ (n : ℕ). bytes ≡ C.spelling n ++ a.0.1.1) n-is t.parts in
        let place : a.0.1.0 ≡ at + length (C.spelling (length u.0)) = subst (λ (n : ℕ). a.0.1.0 ≡ at + length (C.spelling n)) n-is t.place in
        let one : Takes IsBytes (list_behind C F behind) at bytes u.0 m = record {
          has = (has, u.3.each);
          parts = front ∙ ap (λ (z : List ℕ). C.spelling (length u.0) ++ z) u.3.parts ∙ sym (append_assoc (C.spelling (length u.0)) (flat_map F.spelling u.0) m.1);
          place = omega (arith, place, u.3.place, length-append (C.spelling (length u.0)) (flat_map F.spelling u.0));
          ends = tt;
          rest_fits = u.3.rest_fits;
        } in
        subst (λ (ys : List X). Takes IsBytes (list_behind C F behind) at bytes ys m) (sym u.1) one

    again : (at : ℕ) (xs : List X) (rest : List ℕ) → (list_behind C F behind).Has xs → Unit {0} → list_at count item (at, (list_behind C F behind).spelling xs ++ rest) ≡ Ok (xs, (at + length ((list_behind C F behind).spelling xs), rest))
    again at xs rest has ends =
        let one = reads C count c at ((C.spelling (length xs) ++ flat_map F.spelling xs) ++ rest) (flat_map F.spelling xs ++ rest) (length xs) has.0 (append_assoc (C.spelling (length xs)) (flat_map F.spelling xs) rest) (c_free (length xs) (flat_map F.spelling xs ++ rest)) in
        let two = items_again F behind item are xs [] (at + length (C.spelling (length xs))) rest has.1 in
        let place : (at + length (C.spelling (length xs))) + length (flat_map F.spelling xs) ≡ at + length (C.spelling (length xs) ++ flat_map F.spelling xs) = omega (arith, length-append (C.spelling (length xs)) (flat_map F.spelling xs)) in
        ap (λ (a : Read WireFault ℕ). a >>= λ n. items_at item n.0 [] n.1) one ∙ two ∙ ap (λ (n : ℕ). done (xs, (n, rest))) place

    fails : (at : ℕ) (bytes : List ℕ) (f : WireFault) → IsBytes bytes → list_at count item (at, bytes) ≡ Err f → (list_behind C F behind).Fault at bytes f
    fails at bytes f fits e = elim (bind_err (count (at, bytes)) (λ n. items_at item n.0 [] n.1) f e) [
      | inl h ↦ inl (c.fails at bytes f fits h)
      | inr h ↦
          let t = c.takes at bytes h.0.0 h.0.1 fits h.1 in
          let u = items_fail F behind item are h.0.0 [] h.0.1.0 h.0.1.1 f t.rest_fits h.2 in
          let fault : (behind u.more).Fault ((at + length (C.spelling h.0.0)) + length (flat_map F.spelling u.more)) u.rest f = subst (λ (k : ℕ). (behind u.more).Fault (k + length (flat_map F.spelling u.more)) u.rest f) t.place u.fault in
          inr (h.0.0, h.0.1.1, t.has, t.parts, t.ends, (u.more, u.rest, u.fewer, u.each, u.parts, fault))
    ]

    failing : (at : ℕ) (bytes : List ℕ) (f : WireFault) → (list_behind C F behind).Fault at bytes f → list_at count item (at, bytes) ≡ Err f
    failing at bytes f (inl h) = ap (λ (a : Read WireFault ℕ). a >>= λ n. items_at item n.0 [] n.1) (c.failing at bytes f h)
    failing at bytes f (inr h) =
        ap (λ (a : Read WireFault ℕ). a >>= λ n. items_at item n.0 [] n.1) (reads C count c at bytes h.1 h.0 h.2 h.3 h.4)
        ∙ items_failing F behind item are h.5.0 [] h.0 (at + length (C.spelling h.0)) h.1 h.5.1 f h.5.2 h.5.3 h.5.4 h.5.5
