-- Bytes, and values of a field that pass a test.
use Rattle.std.proofs.Common.{◌≡◌, ℕ, ◌+◌, ◌<◌, Bool, true, false, cond, List, ◌++◌, length, get_or, Ok, Err, sym, ap, subst, ◌∙◌, inl, inr}
use Rattle.wire_reader.specs.declared.fault.WireFault.{WireFault}
use Rattle.byte_fields.specs.Field.{Field}
use Rattle.wire_reader.specs.Field.{restriction}
use Rattle.byte_fields.specs.Reading.{Left, Read, ◌>>=◌}
use Rattle.wire_reader.specs.Reading.{filter_at}
use Rattle.std.proofs.lemmas.Bool.{true_from_ne_false, false_from_ne_true}
use Rattle.byte_fields.specs.Laws.{Takes, IsRead}
use Rattle.byte_fields.proofs.FieldLaws.{reads}
use Rattle.byte_fields.proofs.ResultLaws.{done, failed, bind_ok, bind_err, passed, not_passed}

abbrev pub IsBytes : List ℕ → Type 0
IsBytes bytes = (i : ℕ) → get_or bytes i 0 < 256

pub tested_read : {X : Type 0} (F : Field WireFault X) (R : Left → Read WireFault X) (P : X → Type 0) (test : X → Bool) (fault : ℕ → WireFault)
    → ((x : X) → test x ≡ true → P x) → ((x : X) → test x ≡ false → P x → ⊥) → IsRead IsBytes F R → IsRead IsBytes (restriction P fault F) (filter_at test fault R)
tested_read {X = X} F R P test fault passes misses r = record { takes = takes; again = again; fails = fails; failing = failing }
  where
    takes : (at : ℕ) (bytes : List ℕ) (x : X) (m : Left) → IsBytes bytes → filter_at test fault R (at, bytes) ≡ Ok (x, m) → Takes IsBytes (restriction P fault F) at bytes x m
    takes at bytes x m fits e =
        let a = bind_ok (R (at, bytes)) (λ a. cond (test a.0) (Ok a) (Err (fault at))) (x, m) e in
        let t = r.takes at bytes a.0.0 a.0.1 fits a.1 in
        let g = passed (test a.0.0) (fault at) a.0 (x, m) a.2 in
        let one : Takes IsBytes (restriction P fault F) at bytes a.0.0 a.0.1 = record { has = (t.has, passes a.0.0 g.0); parts = t.parts; place = t.place; ends = t.ends; rest_fits = t.rest_fits } in
        subst (λ (q : X × Left). Takes IsBytes (restriction P fault F) at bytes q.0 q.1) g.1 one

    again : (at : ℕ) (x : X) (rest : List ℕ) → F.Has x × P x → F.Ends x rest → filter_at test fault R (at, F.spelling x ++ rest) ≡ Ok (x, (at + length (F.spelling x), rest))
    again at x rest has ends =
        let l : Left = (at + length (F.spelling x), rest) in
        ap (λ (a : Read WireFault X). a >>= λ a. cond (test a.0) (Ok a) (Err (fault at))) (r.again at x rest has.0 ends)
        ∙ ap (λ (b : Bool). cond b (done (x, l)) (Err (fault at))) (true_from_ne_false (test x) (λ e. misses x e has.1))

    fails : (at : ℕ) (bytes : List ℕ) (f : WireFault) → IsBytes bytes → filter_at test fault R (at, bytes) ≡ Err f → (restriction P fault F).Fault at bytes f
    fails at bytes f fits e = elim (bind_err (R (at, bytes)) (λ a. cond (test a.0) (Ok a) (Err (fault at))) f e) [
      | inl h ↦ inl (r.fails at bytes f fits h)
      | inr h ↦
          let t = r.takes at bytes h.0.0 h.0.1 fits h.1 in
          let g = not_passed (test h.0.0) (fault at) h.0 f h.2 in
          inr (h.0.0, h.0.1.1, t.has, t.parts, t.ends, (misses h.0.0 g.0, sym g.1))
    ]

    failing : (at : ℕ) (bytes : List ℕ) (f : WireFault) → (restriction P fault F).Fault at bytes f → filter_at test fault R (at, bytes) ≡ Err f
    failing at bytes f (inl h) = ap (λ (a : Read WireFault X). a >>= λ a. cond (test a.0) (Ok a) (Err (fault at))) (r.failing at bytes f h)
    failing at bytes f (inr h) =
        let l : Left = (at + length (F.spelling h.0), h.1) in
        ap (λ (a : Read WireFault X). a >>= λ a. cond (test a.0) (Ok a) (Err (fault at))) (reads F R r at bytes h.1 h.0 h.2 h.3 h.4)
        ∙ ap (λ (b : Bool). cond b (done (h.0, l)) (Err (fault at))) (false_from_ne_true (test h.0) (λ e. h.5.0 (passes h.0 e)))
        ∙ ap (λ (g : WireFault). failed g) (sym h.5.1)
