-- What reads the parts of a field reads the field.
use Rattle.std.proofs.Common.{◌≡◌, ℕ, ◌+◌, List, ◌++◌, length, Ok, Err, sym, ap, subst, ◌∙◌, append_assoc, arith, inl, inr}
use Rattle.std.proofs.lemmas.List.{length-append}
use Rattle.byte_fields.specs.Field.{Field, ◌then◌, ◌before◌, part_field}
use Rattle.byte_fields.specs.Reading.{Left, Read, ◌>>=◌, ◌and◌, ◌also◌, map_at}
use Rattle.byte_fields.specs.Laws.{Takes, IsRead}
use Rattle.byte_fields.proofs.ResultLaws.{done, ok_is, no_err, bind_ok, bind_err}

-- what a value was taken from reads as that value
pub reads : {E X : Type 0} {P : List ℕ → Type 0} (F : Field E X) (R : Left → Read E X) → IsRead P F R → (at : ℕ) (bytes rest : List ℕ) (x : X) → F.Has x → bytes ≡ F.spelling x ++ rest
    → F.Ends x rest → R (at, bytes) ≡ Ok (x, (at + length (F.spelling x), rest))
reads F R r at bytes rest x has parts ends = ap (λ (bs : List ℕ). R (at, bs)) parts ∙ r.again at x rest has ends

-- ---- one after another

pub and_read : {E X Y : Type 0} (P : List ℕ → Type 0) (F : Field E X) (G : X → Field E Y) (R : Left → Read E X) (S : X → Left → Read E Y) → IsRead P F R → ((x : X) → F.Has x → IsRead P (G x) (S x)) → IsRead P (F then G) (R and S)
and_read {E = E} {X = X} {Y = Y} P F G R S r s = record { takes = takes; again = again; fails = fails; failing = failing }
  where
    takes : (at : ℕ) (bytes : List ℕ) (p : X × Y) (m : Left) → P bytes → (R and S) (at, bytes) ≡ Ok (p, m) → Takes P (F then G) at bytes p m
    takes at bytes p m fits e =
        let a = bind_ok (R (at, bytes)) (λ a. S a.0 a.1 >>= λ b. Ok ((a.0, b.0), b.1)) (p, m) e in
        let b = bind_ok (S a.0.0 a.0.1) (λ b. Ok ((a.0.0, b.0), b.1)) (p, m) a.2 in
        let t = r.takes at bytes a.0.0 a.0.1 fits a.1 in
        let u = (s a.0.0 t.has).takes a.0.1.0 a.0.1.1 b.0.0 b.0.1 t.rest_fits b.1 in
        let second = (G a.0.0).spelling b.0.0 in
        let both : Takes P (F then G) at bytes (a.0.0, b.0.0) b.0.1 = record {
          has = (t.has, u.has);
          parts = t.parts ∙ ap (λ (z : List ℕ). F.spelling a.0.0 ++ z) u.parts ∙ sym (append_assoc (F.spelling a.0.0) second b.0.1.1);
          place = omega (arith, t.place, u.place, length-append (F.spelling a.0.0) second);
          ends = (subst (λ (z : List ℕ). F.Ends a.0.0 z) u.parts t.ends, u.ends);
          rest_fits = u.rest_fits;
        } in
        subst (λ (q : (X × Y) × Left). Takes P (F then G) at bytes q.0 q.1) (ok_is {E = E} ((a.0.0, b.0.0), b.0.1) (p, m) b.2) both

    again : (at : ℕ) (p : X × Y) (rest : List ℕ) → (F then G).Has p → (F then G).Ends p rest → (R and S) (at, (F then G).spelling p ++ rest) ≡ Ok (p, (at + length ((F then G).spelling p), rest))
    again at p rest has ends =
        let second = (G p.0).spelling p.1 in
        let one = reads F R r at ((F.spelling p.0 ++ second) ++ rest) (second ++ rest) p.0 has.0 (append_assoc (F.spelling p.0) second rest) ends.0 in
        let two = (s p.0 has.0).again (at + length (F.spelling p.0)) p.1 rest has.1 ends.1 in
        let place : (at + length (F.spelling p.0)) + length second ≡ at + length (F.spelling p.0 ++ second) = omega (arith, length-append (F.spelling p.0) second) in
        ap (λ (a : Read E X). a >>= λ a. S a.0 a.1 >>= λ b. Ok ((a.0, b.0), b.1)) one
        ∙ ap (λ (b : Read E Y). b >>= λ b. Ok ((p.0, b.0), b.1)) two
        ∙ ap (λ (n : ℕ). done (p, (n, rest))) place

    fails : (at : ℕ) (bytes : List ℕ) (f : E) → P bytes → (R and S) (at, bytes) ≡ Err f → (F then G).Fault at bytes f
    fails at bytes f fits e = elim (bind_err (R (at, bytes)) (λ a. S a.0 a.1 >>= λ b. Ok ((a.0, b.0), b.1)) f e) [
      | inl h ↦ inl (r.fails at bytes f fits h)
      | inr h ↦
          let t = r.takes at bytes h.0.0 h.0.1 fits h.1 in
          elim (bind_err (S h.0.0 h.0.1) (λ b. Ok ((h.0.0, b.0), b.1)) f h.2) [
            | inl k ↦ inr (h.0.0, h.0.1.1, t.has, t.parts, t.ends, subst (λ (n : ℕ). (G h.0.0).Fault n h.0.1.1 f) t.place ((s h.0.0 t.has).fails h.0.1.0 h.0.1.1 f t.rest_fits k))
            | inr k ↦ absurd (no_err ((h.0.0, k.0.0), k.0.1) f k.2)
          ]
    ]

    failing : (at : ℕ) (bytes : List ℕ) (f : E) → (F then G).Fault at bytes f → (R and S) (at, bytes) ≡ Err f
    failing at bytes f (inl h) = ap (λ (a : Read E X). a >>= λ a. S a.0 a.1 >>= λ b. Ok ((a.0, b.0), b.1)) (r.failing at bytes f h)
    failing at bytes f (inr h) =
        ap (λ (a : Read E X). a >>= λ a. S a.0 a.1 >>= λ b. Ok ((a.0, b.0), b.1)) (reads F R r at bytes h.1 h.0 h.2 h.3 h.4)
        ∙ ap (λ (b : Read E Y). b >>= λ b. Ok ((h.0, b.0), b.1)) ((s h.0 h.2).failing (at + length (F.spelling h.0)) h.1 f h.5)

pub before_read : {E X Y : Type 0} (P : List ℕ → Type 0) (F : Field E X) (G : Field E Y) (R : Left → Read E X) (S : Left → Read E Y) → IsRead P F R → IsRead P G S → IsRead P (F before G) (R also S)
before_read P F G R S r s = and_read P F (λ x. G) R (λ x. S) r (λ x h. s)

-- ---- a value made of what is read

pub made_read : {E X Y : Type 0} (P : List ℕ → Type 0) (F : Field E Y) (R : Left → Read E Y) (con : Y → X) (part : X → Y) → ((y : Y) → F.Has y → part (con y) ≡ y) → ((x : X) → con (part x) ≡ x)
    → IsRead P F R → IsRead P (part_field part F) (map_at con R)
made_read {E = E} {X = X} {Y = Y} P F R con part back whole r = record { takes = takes; again = again; fails = fails; failing = failing }
  where
    takes : (at : ℕ) (bytes : List ℕ) (x : X) (m : Left) → P bytes → map_at con R (at, bytes) ≡ Ok (x, m) → Takes P (part_field part F) at bytes x m
    takes at bytes x m fits e =
        let a = bind_ok (R (at, bytes)) (λ a. Ok (con a.0, a.1)) (x, m) e in
        let t = r.takes at bytes a.0.0 a.0.1 fits a.1 in
        let same = back a.0.0 t.has in
        let one : Takes P (part_field part F) at bytes (con a.0.0) a.0.1 = record {
          has = subst (λ (y : Y). F.Has y) (sym same) t.has;
          parts = subst (λ (y : Y). bytes ≡ F.spelling y ++ a.0.1.1) (sym same) t.parts;
          place = subst (λ (y : Y). a.0.1.0 ≡ at + length (F.spelling y)) (sym same) t.place;
          ends = subst (λ (y : Y). F.Ends y a.0.1.1) (sym same) t.ends;
          rest_fits = t.rest_fits;
        } in
        subst (λ (q : X × Left). Takes P (part_field part F) at bytes q.0 q.1) (ok_is {E = E} (con a.0.0, a.0.1) (x, m) a.2) one

    again : (at : ℕ) (x : X) (rest : List ℕ) → F.Has (part x) → F.Ends (part x) rest → map_at con R (at, F.spelling (part x) ++ rest) ≡ Ok (x, (at + length (F.spelling (part x)), rest))
    again at x rest has ends =
        ap (λ (a : Read E Y). a >>= λ a. Ok (con a.0, a.1)) (r.again at (part x) rest has ends)
        ∙ ap (λ (z : X). done (z, (at + length (F.spelling (part x)), rest))) (whole x)

    fails : (at : ℕ) (bytes : List ℕ) (f : E) → P bytes → map_at con R (at, bytes) ≡ Err f → F.Fault at bytes f
    fails at bytes f fits e = elim (bind_err (R (at, bytes)) (λ a. Ok (con a.0, a.1)) f e) [
      | inl h ↦ r.fails at bytes f fits h
      | inr h ↦ absurd (no_err (con h.0.0, h.0.1) f h.2)
    ]

    failing : (at : ℕ) (bytes : List ℕ) (f : E) → F.Fault at bytes f → map_at con R (at, bytes) ≡ Err f
    failing at bytes f h = ap (λ (a : Read E Y). a >>= λ a. Ok (con a.0, a.1)) (r.failing at bytes f h)
