-- The bytes at the front that pass a test.
use Rattle.std.proofs.Common.{◌≡◌, ℕ, suc, ◌+◌, Bool, true, false, cond, List, [], ◌∷◌, ◌++◌, length, take, drop, refl, sym, subst, arith}
use Rattle.std.specs.List.{list_all, prefix_len}
use Rattle.std.proofs.lemmas.Bool.{and_parts}
use Rattle.byte_fields.specs.Text.{StopsAt, AllPass}

one_plus : (k : ℕ) → 1 + k ≡ suc k
one_plus k = omega arith

passes_by : (p : ℕ → Bool) (b : ℕ) (bs : List ℕ) (t : Bool) → p b ≡ t → AllPass p (take (prefix_len p bs) bs) → AllPass p (take (cond t (1 + prefix_len p bs) 0) (b ∷ bs))
passes_by p b bs true e h = subst (λ (n : ℕ). AllPass p (take n (b ∷ bs))) (sym (one_plus (prefix_len p bs))) (rw (e, h) refl)
passes_by p b bs false e h = refl

pub front_passes : (p : ℕ → Bool) (bytes : List ℕ) → AllPass p (take (prefix_len p bytes) bytes)
front_passes p [] = refl
front_passes p (b ∷ bs) = passes_by p b bs (p b) refl (front_passes p bs)

ends_by : (p : ℕ → Bool) (b : ℕ) (bs : List ℕ) (t : Bool) → p b ≡ t → StopsAt p (drop (prefix_len p bs) bs) → StopsAt p (drop (cond t (1 + prefix_len p bs) 0) (b ∷ bs))
ends_by p b bs true e h = subst (λ (n : ℕ). StopsAt p (drop n (b ∷ bs))) (sym (one_plus (prefix_len p bs))) h
ends_by p b bs false e h = e

pub front_ends : (p : ℕ → Bool) (bytes : List ℕ) → StopsAt p (drop (prefix_len p bytes) bytes)
front_ends p [] = tt
front_ends p (b ∷ bs) = ends_by p b bs (p b) refl (front_ends p bs)

no_more : (p : ℕ → Bool) (rest : List ℕ) → StopsAt p rest → prefix_len p rest ≡ 0
no_more p [] h = refl
no_more p (b ∷ bs) h = rw h refl

-- bytes that pass, and then one that does not
pub front_counts : (p : ℕ → Bool) (front rest : List ℕ) → AllPass p front → StopsAt p rest → prefix_len p (front ++ rest) ≡ length front
front_counts p [] rest all none = no_more p rest none
front_counts p (d ∷ ds) rest all none =
    let both = and_parts (p d) (list_all p ds) all in
    rw (both.0, front_counts p ds rest both.1 none) (one_plus (length ds))
