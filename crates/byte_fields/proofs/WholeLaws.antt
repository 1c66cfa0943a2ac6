-- All of the bytes: they spell a value of a field, or have one first fault.
use Rattle.std.proofs.Common.{◌≡◌, ℕ, ◌+◌, Bool, cond, eqb, List, [], ◌++◌, length, Result, Ok, Err, refl, sym, ap, ◌∙◌, arith, ◌⊎◌, inl, inr}
use Rattle.std.specs.Prelude.{IfErr}
use Rattle.std.proofs.lemmas.List.{append-nil, nil_from_length}
use Rattle.std.proofs.lemmas.Bool.{eqb-true, eqb-false, ne_eqb}
use Rattle.byte_fields.specs.Field.{Field, EndsAnywhere, IsSpelled, IsFirstFaultOf}
use Rattle.byte_fields.specs.Reading.{Left, Read, ◌>>=◌, whole_at, IsReadAsWhole}
use Rattle.byte_fields.specs.Laws.{IsRead, IsReadBy}
use Rattle.byte_fields.proofs.ResultLaws.{done, failed, ok_is, err_is, no_ok, no_err, bind_ok, bind_err, passed, not_passed}

-- what reads a field reads it as its values themselves
pub read_by_itself : {E X : Type 0} (P : List ℕ → Type 0) (F : Field E X) (R : Left → Read E X) → IsRead P F R → IsReadBy P F (λ (x : X). x) R
read_by_itself P F R r = record {
  takes = λ at bytes x m fits e. (x, r.takes at bytes x m fits e, refl);
  again = r.again;
  fails = r.fails;
  failing = r.failing;
}

module _ {E X Y : Type 0} (P : List ℕ → Type 0) (F : Field E X) (value : X → Y) (R : Left → Read E Y) (more : ℕ → E) (r : IsReadBy P F value R) (free : EndsAnywhere F) where
  -- what the bytes before others spell is read
  reads_before : (bytes rest : List ℕ) (x : X) → F.Has x → bytes ≡ F.spelling x ++ rest → R (0, bytes) ≡ Ok (value x, (0 + length (F.spelling x), rest))
  reads_before bytes rest x has parts = ap (λ (z : List ℕ). R (0, z)) parts ∙ r.again 0 x rest has (free x rest)

  pub whole_spelled : (bytes : List ℕ) (y : Y) → P bytes → whole_at R more bytes ≡ Ok y → (x : X) × IsSpelled F x bytes × (value x ≡ y)
  unfolding whole_at
  whole_spelled bytes y fits e =
      let a = bind_ok (R (0, bytes)) (λ r. cond (eqb (length r.1.1) 0) (Ok r.0) (Err (more r.1.0))) y e in
      let t = r.takes 0 bytes a.0.0 a.0.1 fits a.1 in
      let g = passed (eqb (length a.0.1.1) 0) (more a.0.1.0) a.0.0 y a.2 in
      let none = nil_from_length a.0.1.1 (eqb-true (length a.0.1.1) 0 g.0) in
      (t.0, (t.1.has, t.1.parts ∙ ap (λ (z : List ℕ). F.spelling t.0 ++ z) none ∙ append-nil (F.spelling t.0)), t.2 ∙ g.1)

  pub whole_again : (bytes : List ℕ) (x : X) → IsSpelled F x bytes → whole_at R more bytes ≡ Ok (value x)
  unfolding whole_at
  whole_again bytes x h =
      ap (λ (a : Read E Y). a >>= λ r. cond (eqb (length r.1.1) 0) (Ok r.0) (Err (more r.1.0)))
      (reads_before bytes [] x h.0 (h.1 ∙ sym (append-nil (F.spelling x))))

  pub whole_fails : (bytes : List ℕ) (f : E) → P bytes → whole_at R more bytes ≡ Err f → IsFirstFaultOf F more bytes f
  unfolding whole_at
  whole_fails bytes f fits e = elim (bind_err (R (0, bytes)) (λ r. cond (eqb (length r.1.1) 0) (Ok r.0) (Err (more r.1.0))) f e) [
    | inl h ↦ inl (r.fails 0 bytes f fits h)
    | inr h ↦
        let t = r.takes 0 bytes h.0.0 h.0.1 fits h.1 in
        let g = not_passed (eqb (length h.0.1.1) 0) (more h.0.1.0) h.0.0 f h.2 in
        let place : h.0.1.0 ≡ length (F.spelling t.0) = t.1.place ∙ omega arith in
        inr (t.0, h.0.1.1, t.1.has, t.1.parts, eqb-false (length h.0.1.1) 0 g.0, sym g.1 ∙ ap more place)
  ]

  pub whole_failing : (bytes : List ℕ) (f : E) → IsFirstFaultOf F more bytes f → whole_at R more bytes ≡ Err f
  unfolding whole_at
  whole_failing bytes f (inl h) = ap (λ (a : Read E Y). a >>= λ r. cond (eqb (length r.1.1) 0) (Ok r.0) (Err (more r.1.0))) (r.failing 0 bytes f h)
  whole_failing bytes f (inr h) =
      let long = length (F.spelling h.0) in
      let place : 0 + long ≡ long = omega arith in
      ap (λ (a : Read E Y). a >>= λ r. cond (eqb (length r.1.1) 0) (Ok r.0) (Err (more r.1.0))) (reads_before bytes h.1 h.0 h.2 h.3)
      ∙ ap (λ (b : Bool). cond b (done {E = E} (value h.0)) (Err (more (0 + long)))) (ne_eqb (length h.1) 0 h.4)
      ∙ ap (λ (n : ℕ). failed {A = Y} (more n)) place
      ∙ ap (λ (g : E). failed {A = Y} g) (sym h.5)

  -- ---- for all bytes and values

  one_by : (bytes : List ℕ) (a : Result Y E) → P bytes → whole_at R more bytes ≡ a → ((x : X) × IsSpelled F x bytes) ⊎ ((f : E) × IsFirstFaultOf F more bytes f)
  one_by bytes (Ok y) fits e = let s = whole_spelled bytes y fits e in inl (s.0, s.1)
  one_by bytes (Err f) fits e = inr (f, whole_fails bytes f fits e)

  pub one_of : (bytes : List ℕ) → P bytes → ((x : X) × IsSpelled F x bytes) ⊎ ((f : E) × IsFirstFaultOf F more bytes f)
  one_of bytes fits = one_by bytes (whole_at R more bytes) fits refl

  pub one_value : (bytes : List ℕ) (x z : X) → IsSpelled F x bytes → IsSpelled F z bytes → value x ≡ value z
  one_value bytes x z h k = ok_is {E = E} (value x) (value z) (sym (whole_again bytes x h) ∙ whole_again bytes z k)

  pub one_fault : (bytes : List ℕ) (f g : E) → IsFirstFaultOf F more bytes f → IsFirstFaultOf F more bytes g → f ≡ g
  one_fault bytes f g h k = err_is {A = Y} f g (sym (whole_failing bytes f h) ∙ whole_failing bytes g k)

  pub never_both : (bytes : List ℕ) (x : X) (f : E) → IsSpelled F x bytes → IsFirstFaultOf F more bytes f → ⊥
  never_both bytes x f h k = no_err (value x) f (sym (whole_again bytes x h) ∙ whole_failing bytes f k)

  pub no_prefix : (x z : X) (rest : List ℕ) → F.Has x → F.Has z → F.spelling x ++ rest ≡ F.spelling z → (rest ≡ []) × (value x ≡ value z)
  no_prefix x z rest hx hz e =
      let read : R (0, F.spelling x ++ rest) ≡ Ok (value z, (0 + length (F.spelling z), [])) = reads_before (F.spelling x ++ rest) [] z hz (e ∙ sym (append-nil (F.spelling z))) in
      let p = ok_is {E = E} (value x, (0 + length (F.spelling x), rest)) (value z, (0 + length (F.spelling z), [])) (sym (r.again 0 x rest hx (free x rest)) ∙ read) in
      (ap (λ (a : Y × Left). a.1.1) p, ap (λ (a : Y × Left). a.0) p)

  -- ---- what a reader answers that gives what reading gives, unless memory runs out

  pub only_value : (memory : E) (bytes : List ℕ) (a : Result Y E) → IsReadAsWhole memory R more bytes a → (x : X) → IsSpelled F x bytes → (a ≡ Ok (value x)) ⊎ (a ≡ Err memory)
  only_value memory bytes (Ok y) h x s = inl (sym h ∙ whole_again bytes x s)
  only_value memory bytes (Err f) (inl h) x s = inr (ap (λ (g : E). failed {A = Y} g) h)
  only_value memory bytes (Err f) (inr h) x s = absurd (no_ok (value x) f (sym h ∙ whole_again bytes x s))

  pub fault_first : (memory : E) (bytes : List ℕ) (a : Result Y E) → P bytes → IsReadAsWhole memory R more bytes a → IfErr a (λ f. (f ≡ memory) ⊎ IsFirstFaultOf F more bytes f)
  fault_first memory bytes (Ok y) fits h = tt
  fault_first memory bytes (Err f) fits (inl h) = inl h
  fault_first memory bytes (Err f) fits (inr h) = inr (whole_fails bytes f fits h)

  pub first_fault : (memory : E) (bytes : List ℕ) (a : Result Y E) → IsReadAsWhole memory R more bytes a → (f : E) → IsFirstFaultOf F more bytes f → (a ≡ Err f) ⊎ (a ≡ Err memory)
  first_fault memory bytes (Ok y) h f s = absurd (no_err y f (sym h ∙ whole_failing bytes f s))
  first_fault memory bytes (Err g) (inl h) f s = inr (ap (λ (k : E). failed {A = Y} k) h)
  first_fault memory bytes (Err g) (inr h) f s = inl (sym h ∙ whole_failing bytes f s)
