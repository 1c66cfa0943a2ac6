-- Functions that are changed at one place.
use Rattle.std.proofs.Common.{rules, ◌≡◌, ◌∙◌, sym, ap, refl, subst, ℕ, Bool, true, false, cond}
use Rattle.std.specs.Prelude.{◌≢◌, ◌==◌}
pub use Rattle.std.proofs.lemmas.Bool.Decides.{Decides-eqb as nat_decides}
use Rattle.site_model.specs.Site.{Site}
use Rattle.world_model.specs.World.{Sites, at_put, put}

-- a fact about every place: at the one that changed, and at the others
pub at_all : {X : Type 0} (g : ℕ → X) (j : ℕ) (v : X) (P : ℕ → X → Type 0) → P j v → ((i : ℕ) → i ≢ j → P i (g i)) → (i : ℕ) → P i (at_put g j v i)
at_all {X} g j v P here there i = go (i == j) refl
  where
    go : (b : Bool) → (i == j) ≡ b → P i (cond b v (g i))
    go true e = subst (λ (k : ℕ). P k v) (sym ((nat_decides i j).0 e)) here
    go false e = there i (λ (k : i ≡ j). let yes : (i == j) ≡ true = (nat_decides i j).1 k in cc)

pub at_here : {X : Type 0} (g : ℕ → X) (j : ℕ) (v : X) → at_put g j v j ≡ v
at_here g j v = rw ((nat_decides j j).1 refl) refl

pub at_other : {X : Type 0} (g : ℕ → X) (j : ℕ) (v : X) (i : ℕ) → i ≢ j → at_put g j v i ≡ g i
at_other {X} g j v i other = go (i == j) refl
  where
    go : (b : Bool) → (i == j) ≡ b → cond b v (g i) ≡ g i
    go true e = absurd (other ((nat_decides i j).0 e))
    go false e = refl

field_at : {X : Type 0} (h : Site → X) (f : Sites) (i : ℕ) (s : Site) (j : ℕ) → h (put f i s j) ≡ at_put (λ (k : ℕ). h (f k)) i (h s) j
field_at {X} h f i s j = go (j == i)
  where
    go : (b : Bool) → h (cond b s (f j)) ≡ cond b (h s) (h (f j))
    go true = refl
    go false = refl

-- a part of each site, after one site changed
pub field_put : {X : Type 0} (h : Site → X) (f : Sites) (i : ℕ) (s : Site) → ◌≡◌ {A = ℕ → X} (λ j. h (put f i s j)) (at_put (λ j. h (f j)) i (h s))
field_put h f i s = search (rules, field_at h f i s)

own_at : {X : Type 0} (g : ℕ → X) (i j : ℕ) → at_put g i (g i) j ≡ g j
own_at {X} g i j = go (j == i) refl
  where
    go : (c : Bool) → (j == i) ≡ c → cond c (g i) (g j) ≡ g j
    go true e = ap g (sym ((nat_decides j i).0 e))
    go false e = refl

pub at_own : {X : Type 0} (g : ℕ → X) (i : ℕ) → at_put g i (g i) ≡ g
at_own g i = search (rules, own_at g i)

twice_at : {X : Type 0} (g : ℕ → X) (i : ℕ) (a b : X) (j : ℕ) → at_put (at_put g i a) i b j ≡ at_put g i b j
twice_at {X} g i a b j = go (j == i)
  where
    go : (c : Bool) → cond c b (cond c a (g j)) ≡ cond c b (g j)
    go true = refl
    go false = refl

pub at_twice : {X : Type 0} (g : ℕ → X) (i : ℕ) (a b : X) → at_put (at_put g i a) i b ≡ at_put g i b
at_twice g i a b = search (rules, twice_at g i a b)

-- a part that the site keeps
pub field_kept : {X : Type 0} (h : Site → X) (f : Sites) (i : ℕ) (s : Site) → h s ≡ h (f i) → ◌≡◌ {A = ℕ → X} (λ j. h (put f i s j)) (λ j. h (f j))
field_kept {X} h f i s e = field_put h f i s ∙ ap (λ (v : X). at_put (λ (j : ℕ). h (f j)) i v) e ∙ at_own (λ (j : ℕ). h (f j)) i

-- two and three functions that changed at one place
pub two_all : {X Y : Type 0} (g : ℕ → X) (h : ℕ → Y) (j : ℕ) (v : X) (u : Y) (P : ℕ → X → Y → Type 0) → P j v u → ((i : ℕ) → i ≢ j → P i (g i) (h i)) → (i : ℕ) → P i (at_put g j v i) (at_put h j u i)
two_all {X} {Y} g h j v u P here there i = go (i == j) refl
  where
    go : (b : Bool) → (i == j) ≡ b → P i (cond b v (g i)) (cond b u (h i))
    go true e = subst (λ (k : ℕ). P k v u) (sym ((nat_decides i j).0 e)) here
    go false e = there i (λ (k : i ≡ j). let yes : (i == j) ≡ true = (nat_decides i j).1 k in cc)
