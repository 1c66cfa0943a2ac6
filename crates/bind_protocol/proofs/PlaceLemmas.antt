-- The records of one site of a world exchanged, and messages sent.
use Rattle.std.proofs.Common.{arith, rules, ◌≡◌, ◌≢◌, ◌∙◌, ℕ, zero, suc, ◌-◌, List, [], ◌∷◌, ◌++◌, refl, sym, ap, subst, ◌⊎◌, inl, inr, Bool, true, false}
use Rattle.std.specs.Prelude.{Option, Some, slice_get, slice_set, ◌==◌}
use Rattle.tree_node.specs.declared.names.VarName.{VarName}
use Rattle.tree_node.specs.declared.node.Term.{Term}
use Rattle.variable_owner.specs.declared.owners.Owner.{Owner}
use Rattle.variable_owner.specs.Owners.{owner_of, sites_of, with_owner}
use Rattle.bind_protocol.specs.Records.{Records, is_own, knowledge, owner_knows}
use Rattle.bind_protocol.specs.World.{World, IsSiteOf, records_at, records_of, knowledge_at, known_at, registered_sites, registered_at, with_records}
use Rattle.bind_protocol.proofs.LookLemmas.{in_here, in_other, owner_here, owner_other, put_here, put_other, site_there}
use Rattle.bind_protocol.proofs.GrowLemmas.{Changes}
pub use Rattle.std.proofs.lemmas.List.{append-nil as append_nil}

same_set : {X : Type 0} (xs : List X) (k : ℕ) (y : X) → slice_get xs k ≡ Some y → slice_set xs k y ≡ xs
same_set [] k y e = cc
same_set (x ∷ xs) zero y e = let same : x ≡ y = cc in ap (λ z. z ∷ xs) (sym same)
same_set (x ∷ xs) (suc k) y e = ap (λ ys. x ∷ ys) (same_set xs k y e)

put_same : (bs : List Records) (i : ℕ) (b : Records) → records_at bs i ≡ Some b → slice_set bs (i - 1) b ≡ bs
put_same bs zero b e = cc
put_same bs (suc k) b e = let p : suc k - 1 ≡ k = omega arith in rw p (same_set bs k b e)

pub site_records : (w : World) (i : ℕ) → IsSiteOf w i → records_at w.binders i ≡ Some (records_of w i)
site_records w i h = let s = site_there w.binders i h.0 h.1 in rw s.1 refl

-- the same records put back
pub puts_same : (w : World) (i : ℕ) → IsSiteOf w i → with_records w i (records_of w i) ≡ w
puts_same w i h = ap (λ bs. record w { binders = bs }) (put_same w.binders i (records_of w i) (site_records w i h))

pub known_records : (w : World) (i : ℕ) (x : VarName) → IsSiteOf w i → known_at w i x ≡ knowledge (records_of w i) x
known_records w i x h = ap (λ o. knowledge_at o x) (site_records w i h)

pub listed_records : (w : World) (i : ℕ) (x : VarName) → IsSiteOf w i → x.site ≡ i → registered_at w x ≡ sites_of (owner_of (records_of w i).owners x)
listed_records w i x h e = subst (λ (j : ℕ). registered_sites (records_at w.binders j) x ≡ sites_of (owner_of (records_of w i).owners x)) (sym e) (ap (λ o. registered_sites o x) (site_records w i h))

nat_cases : (i j : ℕ) → (i ≡ j) ⊎ (i ≢ j)
nat_cases i j = go (i == j) refl
  where
    go : (b : Bool) → (i == j) ≡ b → (i ≡ j) ⊎ (i ≢ j)
    go true q = inl (let e : i ≡ j = search rules in e)
    go false q = inr (let e : i ≢ j = search rules in e)

module _ (w : World) (i : ℕ) (b : Records) (h : IsSiteOf w i) where
  pub known_here : (x : VarName) → known_at (with_records w i b) i x ≡ knowledge b x
  known_here x = ap (λ o. knowledge_at o x) (put_here w.binders i b h.0 h.1)

  pub known_other : (j : ℕ) (x : VarName) → j ≢ i → known_at (with_records w i b) j x ≡ known_at w j x
  known_other j x n = ap (λ o. knowledge_at o x) (put_other w.binders i j b h.0 n)

  pub listed_here : (x : VarName) → x.site ≡ i → registered_at (with_records w i b) x ≡ sites_of (owner_of b.owners x)
  listed_here x e = subst (λ (j : ℕ). registered_sites (records_at (with_records w i b).binders j) x ≡ sites_of (owner_of b.owners x)) (sym e) (ap (λ o. registered_sites o x) (put_here w.binders i b h.0 h.1))

  pub listed_other : (x : VarName) → x.site ≢ i → registered_at (with_records w i b) x ≡ registered_at w x
  listed_other x n = ap (λ o. registered_sites o x) (put_other w.binders i x.site b h.0 n)

  pub numbered_puts : b.site ≡ i → ((j : ℕ) (c : Records) → records_at w.binders j ≡ Some c → c.site ≡ j) → (j : ℕ) (c : Records) → records_at (with_records w i b).binders j ≡ Some c → c.site ≡ j
  numbered_puts own old j c e = go (nat_cases j i)
    where
      go : (j ≡ i) ⊎ (j ≢ i) → c.site ≡ j
      go (inl same) =
          let there : records_at (with_records w i b).binders i ≡ Some c = subst (λ (k : ℕ). records_at (with_records w i b).binders k ≡ Some c) same e in
          let both : Some b ≡ Some c = sym (put_here w.binders i b h.0 h.1) ∙ there in
          let is : b ≡ c = cc in
          ap (λ (r : Records). r.site) (sym is) ∙ own ∙ sym same
      go (inr n) = old j c (sym (put_other w.binders i j b h.0 n) ∙ e)

  -- what the site knows of one variable changes
  pub puts_changes : (y : VarName) (v : Option Term) → knowledge b y ≡ Some v → ((x : VarName) → x ≢ y → knowledge b x ≡ knowledge (records_of w i) x) → Changes (known_at w) (known_at (with_records w i b)) i y v
  puts_changes y v here others = record {
    here = known_here y ∙ here;
    others = λ j x n. go j x n (nat_cases j i);
  }
    where
      go : (j : ℕ) (x : VarName) → (j ≡ i → x ≡ y → ⊥) → (j ≡ i) ⊎ (j ≢ i) → known_at (with_records w i b) j x ≡ known_at w j x
      go j x n (inl same) =
          let there : known_at (with_records w i b) i x ≡ known_at w i x = known_here x ∙ others x (λ f. n same f) ∙ sym (known_records w i x h) in
          subst (λ (k : ℕ). known_at (with_records w i b) k x ≡ known_at w k x) (sym same) there
      go j x n (inr m) = known_other j x m

  -- where the owners stay, so do the registrations
  pub listed_stays : b.owners ≡ (records_of w i).owners → (x : VarName) → registered_at (with_records w i b) x ≡ registered_at w x
  listed_stays same x = go (nat_cases x.site i)
    where
      go : (x.site ≡ i) ⊎ (x.site ≢ i) → registered_at (with_records w i b) x ≡ registered_at w x
      go (inl e) = listed_here x e ∙ ap (λ es. sites_of (owner_of es x)) same ∙ sym (listed_records w i x h e)
      go (inr n) = listed_other x n

-- the owner's part of y becomes o
module _ (w : World) (y : VarName) (o : Owner) (h : IsSiteOf w y.site) where
  abbrev pub owns : World
  owns = with_records w y.site (record (records_of w y.site) { owners = with_owner (records_of w y.site).owners y o })

  pub owns_changes : (v : Option Term) → is_own (records_of w y.site) y ≡ true → owner_knows (Some o) ≡ Some v → Changes (known_at w) (known_at owns) y.site y v
  owns_changes v own is =
      puts_changes w y.site _ h y v (owner_here (records_of w y.site) y o own ∙ is) (λ x n. owner_other (records_of w y.site) y x o n)

  pub owns_listed : registered_at owns y ≡ sites_of (Some o)
  owns_listed = listed_here w y.site _ h y refl ∙ ap sites_of (in_here (records_of w y.site).owners y o)

  pub owns_others : (x : VarName) → x ≢ y → registered_at owns x ≡ registered_at w x
  owns_others x n = go (nat_cases x.site y.site)
    where
      go : (x.site ≡ y.site) ⊎ (x.site ≢ y.site) → registered_at owns x ≡ registered_at w x
      go (inl e) = listed_here w y.site _ h x e ∙ ap sites_of (in_other (records_of w y.site).owners y x o n) ∙ sym (listed_records w y.site x h e)
      go (inr m) = listed_other w y.site _ h x m
