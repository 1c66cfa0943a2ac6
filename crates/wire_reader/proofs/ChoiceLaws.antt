-- A tag and what follows it is read: the reader goes down a list of tags, and reads behind the first that stands there.
use Rattle.std.proofs.Common.{◌≡◌, ℕ, ◌+◌, Bool, true, false, cond, eqb, List, ◌∷◌, ◌++◌, length, Ok, Err, sym, ap, subst, ◌∙◌, arith, ◌⊎◌, inl, inr}
use Rattle.std.proofs.lemmas.Bool.{eqb-true, eqb-false, ne_eqb}
use Rattle.wire_reader.specs.declared.fault.WireFault.{WireFault}
use Rattle.byte_fields.specs.Field.{Field, Faults, EndsAnywhere}
use Rattle.byte_fields.specs.Reading.{Left, Read, ◌>>=◌, map_at}
use Rattle.byte_fields.specs.Laws.{Takes, IsRead}
use Rattle.byte_fields.proofs.ResultLaws.{done, ok_is, no_err, bind_ok, bind_err, chosen}
use Rattle.wire_reader.proofs.FieldLaws.{IsBytes}

-- what is read behind this tag is a value of the field, and fails with these faults
pub record IsBehind {X : Type 0} (F : Field WireFault X) (tag : ℕ) (R : Left → Read WireFault X) (Fault : Faults WireFault) : Type 0 where
  pub takes : (at : ℕ) (bytes : List ℕ) (x : X) (m : Left) → IsBytes bytes → R (at + 1, bytes) ≡ Ok (x, m) → Takes IsBytes F at (tag ∷ bytes) x m
  pub fails : (at : ℕ) (bytes : List ℕ) (f : WireFault) → IsBytes bytes → R (at + 1, bytes) ≡ Err f → Fault (at + 1) bytes f
  pub failing : (at : ℕ) (bytes : List ℕ) (f : WireFault) → Fault (at + 1) bytes f → R (at + 1, bytes) ≡ Err f

pub is_behind_where : {X Y : Type 0} (F : Field WireFault X) (tag : ℕ) (G : Field WireFault Y) (R : Left → Read WireFault Y) (con : Y → X) → ((y : Y) → G.Has y → F.Has (con y))
    → ((y : Y) → G.Has y → F.spelling (con y) ≡ tag ∷ G.spelling y) → IsRead IsBytes G R → EndsAnywhere F → IsBehind F tag (map_at con R) G.Fault
is_behind_where {X = X} {Y = Y} F tag G R con has spelled r free = record { takes = takes; fails = fails; failing = failing }
  where
    takes : (at : ℕ) (bytes : List ℕ) (x : X) (m : Left) → IsBytes bytes → map_at con R (at + 1, bytes) ≡ Ok (x, m) → Takes IsBytes F at (tag ∷ bytes) x m
    takes at bytes x m fits e =
        let a = bind_ok (R (at + 1, bytes)) (λ a. Ok (con a.0, a.1)) (x, m) e in
        let t = r.takes (at + 1) bytes a.0.0 a.0.1 fits a.1 in
        let same = spelled a.0.0 t.has in
        let long : length (F.spelling (con a.0.0)) ≡ length (G.spelling a.0.0) + 1 = ap (λ (z : List ℕ). length z) same ∙ omega arith in
        let one : Takes IsBytes F at (tag ∷ bytes) (con a.0.0) a.0.1 = record {
          has = has a.0.0 t.has;
          parts = ap (λ (z : List ℕ). tag ∷ z) t.parts ∙ ap (λ (z : List ℕ). z ++ a.0.1.1) (sym same);
          place = omega (arith, t.place, long);
          ends = free (con a.0.0) a.0.1.1;
          rest_fits = t.rest_fits;
        } in
        subst (λ (q : X × Left). Takes IsBytes F at (tag ∷ bytes) q.0 q.1) (ok_is (con a.0.0, a.0.1) (x, m) a.2) one

    fails : (at : ℕ) (bytes : List ℕ) (f : WireFault) → IsBytes bytes → map_at con R (at + 1, bytes) ≡ Err f → G.Fault (at + 1) bytes f
    fails at bytes f fits e = elim (bind_err (R (at + 1, bytes)) (λ a. Ok (con a.0, a.1)) f e) [
      | inl h ↦ r.fails (at + 1) bytes f fits h
      | inr h ↦ absurd (no_err (con h.0.0, h.0.1) f h.2)
    ]

    failing : (at : ℕ) (bytes : List ℕ) (f : WireFault) → G.Fault (at + 1) bytes f → map_at con R (at + 1, bytes) ≡ Err f
    failing at bytes f h = ap (λ (a : Read WireFault Y). a >>= λ a. Ok (con a.0, a.1)) (r.failing (at + 1) bytes f h)

-- where each value is spelled so
pub is_behind : {X Y : Type 0} (F : Field WireFault X) (tag : ℕ) (G : Field WireFault Y) (R : Left → Read WireFault Y) (con : Y → X) → ((y : Y) → G.Has y → F.Has (con y))
    → ((y : Y) → F.spelling (con y) ≡ tag ∷ G.spelling y) → IsRead IsBytes G R → EndsAnywhere F → IsBehind F tag (map_at con R) G.Fault
is_behind F tag G R con has spelled r free = is_behind_where F tag G R con has (λ y h. spelled y) r free

-- what is spelled behind a tag is read again there
pub again_behind : {X Y : Type 0} (G : Field WireFault Y) (R : Left → Read WireFault Y) (con : Y → X) (tag at : ℕ) (y : Y) (rest : List ℕ) → IsRead IsBytes G R → G.Has y → G.Ends y rest
    → map_at con R (at + 1, G.spelling y ++ rest) ≡ Ok (con y, (at + length (tag ∷ G.spelling y), rest))
again_behind G R con tag at y rest r has ends =
    ap (λ (a : Read WireFault _). a >>= λ a. Ok (con a.0, a.1)) (r.again (at + 1) y rest has ends)
    ∙ ap (λ (n : ℕ). done (con y, (n, rest))) (omega arith)

-- a value comes from behind this tag, or from behind another
pub takes_if : {X : Type 0} (F : Field WireFault X) (tag k : ℕ) (b : Bool) (R : Left → Read WireFault X) (Fault : Faults WireFault) → IsBehind F k R Fault → (b ≡ true → tag ≡ k) → (other : Read WireFault X) (at : ℕ) (bytes : List ℕ) (x : X) (m : Left) → IsBytes bytes
    → (other ≡ Ok (x, m) → Takes IsBytes F at (tag ∷ bytes) x m) → cond b (R (at + 1, bytes)) other ≡ Ok (x, m) → Takes IsBytes F at (tag ∷ bytes) x m
takes_if F tag k b R Fault here same other at bytes x m fits go e = elim (chosen b (R (at + 1, bytes)) other (Ok (x, m)) e) [
  | inl h ↦ subst (λ (t : ℕ). Takes IsBytes F at (t ∷ bytes) x m) (sym (same h.0)) (here.takes at bytes x m fits h.1)
  | inr h ↦ go h.1
]

pub takes_step : {X : Type 0} (F : Field WireFault X) (tag k : ℕ) (R : Left → Read WireFault X) (Fault : Faults WireFault) → IsBehind F k R Fault → (other : Read WireFault X) (at : ℕ) (bytes : List ℕ) (x : X) (m : Left) → IsBytes bytes
    → (other ≡ Ok (x, m) → Takes IsBytes F at (tag ∷ bytes) x m) → cond (eqb tag k) (R (at + 1, bytes)) other ≡ Ok (x, m) → Takes IsBytes F at (tag ∷ bytes) x m
takes_step F tag k R Fault here other at bytes x m fits go e = takes_if F tag k (eqb tag k) R Fault here (eqb-true tag k) other at bytes x m fits go e

-- a fault comes from behind this tag, or from behind another
pub fails_if : {X : Type 0} (F : Field WireFault X) (tag k : ℕ) (b : Bool) (R : Left → Read WireFault X) (Fault : Faults WireFault) → IsBehind F k R Fault → (b ≡ true → tag ≡ k) → (b ≡ false → tag ≡ k → ⊥) → (other : Read WireFault X) (Others : Type 0) (at : ℕ) (bytes : List ℕ) (f : WireFault) → IsBytes bytes
    → ((tag ≡ k → ⊥) → other ≡ Err f → Others) → cond b (R (at + 1, bytes)) other ≡ Err f → ((tag ≡ k) × Fault (at + 1) bytes f) ⊎ Others
fails_if F tag k b R Fault here same other_tag other Others at bytes f fits go e = elim (chosen b (R (at + 1, bytes)) other (Err f) e) [
  | inl h ↦ inl (same h.0, here.fails at bytes f fits h.1)
  | inr h ↦ inr (go (other_tag h.0) h.1)
]

pub fails_step : {X : Type 0} (F : Field WireFault X) (tag k : ℕ) (R : Left → Read WireFault X) (Fault : Faults WireFault) → IsBehind F k R Fault → (other : Read WireFault X) (Others : Type 0) (at : ℕ) (bytes : List ℕ) (f : WireFault) → IsBytes bytes
    → ((tag ≡ k → ⊥) → other ≡ Err f → Others) → cond (eqb tag k) (R (at + 1, bytes)) other ≡ Err f → ((tag ≡ k) × Fault (at + 1) bytes f) ⊎ Others
fails_step F tag k R Fault here other Others at bytes f fits go e =
    fails_if F tag k (eqb tag k) R Fault here (eqb-true tag k) (eqb-false tag k) other Others at bytes f fits go e

-- another tag is passed over
pub passes : {A : Type 0} (tag k : ℕ) (x y z : A) → (tag ≡ k → ⊥) → y ≡ z → cond (eqb tag k) x y ≡ z
passes tag k x y z other e = ap (λ (b : Bool). cond b x y) (ne_eqb tag k other) ∙ e
