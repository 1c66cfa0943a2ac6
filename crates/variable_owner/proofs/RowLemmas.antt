-- Owners in a row by number, and others behind them.
use Rattle.std.proofs.Common.{arith, ◌≡◌, ◌∙◌, sym, ap, refl, ℕ, zero, suc, ◌+◌, ◌-◌, ◌<◌, ◌≤◌, List, [], ◌∷◌, ◌++◌, length, set, Bool, true, false, cond, Some, None}
use Rattle.std.proofs.lemmas.List.{append-nil}
use Rattle.std.specs.Map.{set_value}
use Rattle.std.proofs.lemmas.Bool.Decides.{nat_tests}
use Rattle.tree_node.specs.declared.names.VarName.{VarName}
use Rattle.tree_node.specs.Store.{equal_var}
use Rattle.tree_node.proofs.ClassLemmas.{same_name_decides}
use Rattle.variable_owner.specs.declared.owners.Owner.{Owner}
use Rattle.tree_node.specs.declared.node.Term.{Term}
use Rattle.variable_owner.specs.Owners.{Owned, owner_of, with_owner, with_registered, after_register, after_bind, after_ask}
use Rattle.variable_owner.specs.Row.{in_row, is_in_row, owner_in}
use Rattle.variable_owner.proofs.OwnerLemmas.{written, registered, asked}

by_parts : (site num : ℕ) (x : VarName) → x.site ≡ site → x.num ≡ num → x ≡ record { site = site; num = num }
by_parts site num x p q = ap (λ (s : ℕ). record { site = s; num = x.num }) p ∙ ap (λ (n : ℕ). record { site = site; num = n }) q

here : (site num : ℕ) (x : VarName) → x.site ≡ site → x.num ≡ num → equal_var x (record { site = site; num = num }) ≡ true
here site num x p q = (same_name_decides x _).1 (by_parts site num x p q)

apart : (site num : ℕ) (x : VarName) → (x.site ≡ site → x.num ≡ num → ⊥) → equal_var x (record { site = site; num = num }) ≡ false
apart site num x h = go (equal_var x (record { site = site; num = num })) refl
  where
    go : (b : Bool) → equal_var x (record { site = site; num = num }) ≡ b → b ≡ false
    go true e = let same = (same_name_decides x (record { site = site; num = num })).0 e in absurd (h (ap (λ (y : VarName). y.site) same) (ap (λ (y : VarName). y.num) same))
    go false e = refl

-- ---- a variable at a place of the row

at_held : (site first : ℕ) (os : List Owner) (es : List Owned) (x : VarName) (i : ℕ) → x.site ≡ site → x.num ≡ first + i → i < length os → owner_of (in_row site first os ++ es) x ≡ Some (owner_in os i)
at_held site first [] es x i own num below = absurd (omega (arith, below))
at_held site first (p ∷ os) es x zero own num below = rw (here site first x own (omega (arith, num))) refl
at_held site first (p ∷ os) es x (suc i) own num below = rw (apart site first x (λ _ k. omega (arith, k, num))) (at_held site (suc first) os es x i own (omega (arith, num)) (omega (arith, below)))

at_written : (site first : ℕ) (os : List Owner) (es : List Owned) (x : VarName) (i : ℕ) (p : Owner) → x.site ≡ site → x.num ≡ first + i → i < length os → with_owner (in_row site first os ++ es) x p ≡ in_row site first (set os i p) ++ es
at_written site first [] es x i p own num below = absurd (omega arith)
at_written site first (o ∷ os) es x zero p own num below = rw (here site first x own (omega arith)) refl
at_written site first (o ∷ os) es x (suc i) p own num below =
    rw (apart site first x (λ _ k. omega arith)) (ap (λ (l : List Owned). (record { site = site; num = first }, o) ∷ l) (at_written site (suc first) os es x i p own (omega arith) (omega arith)))

-- what the test of the row tells
record Within (site first n : ℕ) (x : VarName) : Type 0 where
  own : x.site ≡ site
  num : x.num ≡ first + (x.num - first)
  below : x.num - first < n

within : (site first n : ℕ) (x : VarName) → is_in_row site first n x ≡ true → Within site first n x
within site first n x h = record { own = grind (arith, nat_tests, h); num = grind (arith, nat_tests, h); below = grind (arith, nat_tests, h) }

pub row_below : (site first n : ℕ) (x : VarName) → is_in_row site first n x ≡ true → x.num - first < n
row_below site first n x h = (within site first n x h).below

pub row_held : (site first : ℕ) (os : List Owner) (es : List Owned) (x : VarName) → is_in_row site first (length os) x ≡ true → owner_of (in_row site first os ++ es) x ≡ Some (owner_in os (x.num - first))
row_held site first os es x h = let w = within site first (length os) x h in at_held site first os es x (x.num - first) w.own w.num w.below

pub row_written : (site first : ℕ) (os : List Owner) (es : List Owned) (x : VarName) (p : Owner) → is_in_row site first (length os) x ≡ true →
    with_owner (in_row site first os ++ es) x p ≡ in_row site first (set os (x.num - first) p) ++ es
row_written site first os es x p h = let w = within site first (length os) x h in at_written site first os es x (x.num - first) p w.own w.num w.below

-- a registration, and a request to bind
pub row_registered : (site first : ℕ) (os ps : List Owner) (es : List Owned) (x : VarName) (k : ℕ) → is_in_row site first (length os) x ≡ true → ps ≡ set os (x.num - first) (with_registered (owner_in os (x.num - first)) k) →
    in_row site first ps ++ es ≡ after_register (in_row site first os ++ es) x k
row_registered site first os ps es x k h put =
    let o = owner_in os (x.num - first) in
    registered (in_row site first os ++ es) _ x k o (with_registered o k) (row_held site first os es x h)
    (ap (λ (l : List Owner). in_row site first l ++ es) put ∙ sym (row_written site first os es x (with_registered o k) h)) refl

pub row_asked : (site first : ℕ) (os ps : List Owner) (es : List Owned) (x : VarName) (t : Term) → is_in_row site first (length os) x ≡ true → ps ≡ set os (x.num - first) (after_bind (owner_in os (x.num - first)) t) →
    in_row site first ps ++ es ≡ after_ask (in_row site first os ++ es) x t
row_asked site first os ps es x t h put =
    let o = owner_in os (x.num - first) in
    asked (in_row site first os ++ es) _ x t o (after_bind o t) (row_held site first os es x h)
    (ap (λ (l : List Owner). in_row site first l ++ es) put ∙ sym (row_written site first os es x (after_bind o t) h)) refl

-- ---- a variable beside the row

pub beside_none : (site first : ℕ) (os : List Owner) (x : VarName) → is_in_row site first (length os) x ≡ false → owner_of (in_row site first os) x ≡ None
beside_none site first os x h = none site first os (λ own least below. grind (arith, nat_tests, h, own, least, below))
  where
    none : (site first : ℕ) (os : List Owner) → (x.site ≡ site → first ≤ x.num → x.num < first + length os → ⊥) → owner_of (in_row site first os) x ≡ None
    none site first [] out = refl
    none site first (o ∷ os) out =
        rw (apart site first x (λ own k. out own (omega (arith, k)) (omega (arith, k)))) (none site (suc first) os (λ own least below. out own (omega (arith, least)) (omega (arith, below))))

pub past_owner : (xs es : List Owned) (x : VarName) → owner_of xs x ≡ None → owner_of (xs ++ es) x ≡ owner_of es x
past_owner [] es x h = refl
past_owner ((y, o) ∷ xs) es x h = go (equal_var x y) refl h (λ k. past_owner xs es x k)
  where
    go : (b : Bool) → equal_var x y ≡ b → cond b (Some o) (owner_of xs x) ≡ None → (owner_of xs x ≡ None → owner_of (xs ++ es) x ≡ owner_of es x) → cond b (Some o) (owner_of (xs ++ es) x) ≡ owner_of es x
    go true e k ih = cc
    go false e k ih = ih k

pub past_written : (xs es : List Owned) (x : VarName) (p : Owner) → owner_of xs x ≡ None → with_owner (xs ++ es) x p ≡ xs ++ with_owner es x p
past_written [] es x p h = refl
past_written ((y, o) ∷ xs) es x p h = go (equal_var x y) refl h (λ k. past_written xs es x p k)
  where
    go : (b : Bool) → equal_var x y ≡ b → cond b (Some o) (owner_of xs x) ≡ None → (owner_of xs x ≡ None → with_owner (xs ++ es) x p ≡ xs ++ with_owner es x p) →
        cond b ((y, p) ∷ xs ++ es) ((y, o) ∷ with_owner (xs ++ es) x p) ≡ (y, o) ∷ xs ++ with_owner es x p
    go true e k ih = cc
    go false e k ih = ap (λ (l : List Owned). (y, o) ∷ l) (ih k)

-- what is not there is not in a part
pub first_none : (xs es : List Owned) (x : VarName) → owner_of (xs ++ es) x ≡ None → owner_of xs x ≡ None
first_none [] es x h = refl
first_none ((y, o) ∷ xs) es x h = go (equal_var x y) refl h (λ k. first_none xs es x k)
  where
    go : (b : Bool) → equal_var x y ≡ b → cond b (Some o) (owner_of (xs ++ es) x) ≡ None → (owner_of (xs ++ es) x ≡ None → owner_of xs x ≡ None) → cond b (Some o) (owner_of xs x) ≡ None
    go true e k ih = cc
    go false e k ih = ih k

-- ---- a variable more

row_more : (site first : ℕ) (os : List Owner) (o : Owner) → in_row site first (os ++ o ∷ []) ≡ in_row site first os ++ (record { site = site; num = first + length os }, o) ∷ []
row_more site first [] o = let e : first ≡ first + 0 = omega arith in ap (λ (n : ℕ). (record { site = site; num = n }, o) ∷ []) e
row_more site first (p ∷ os) o =
    let e : suc first + length os ≡ first + suc (length os) = omega arith in
    ap (λ (l : List Owned). (record { site = site; num = first }, p) ∷ l)
    (row_more site (suc first) os o ∙ ap (λ (n : ℕ). in_row site (suc first) os ++ (record { site = site; num = n }, o) ∷ []) e)

-- no entries
pub none_filed : (es : List Owned) → length es ≡ 0 → es ≡ []
none_filed [] h = refl
none_filed (e ∷ es) h = absurd (omega (arith, h))

-- the next of the row joins it, where there are no others
pub next_added : (site first : ℕ) (os ps : List Owner) (es : List Owned) (x : VarName) (o : Owner) → x ≡ record { site = site; num = first + length os } → es ≡ [] → ps ≡ os ++ o ∷ [] →
    owner_of (in_row site first os ++ es) x ≡ None → in_row site first ps ++ es ≡ with_owner (in_row site first os ++ es) x o
next_added site first os ps es x o name none more new =
    ap (λ (l : List Owned). in_row site first ps ++ l) none ∙ append-nil (in_row site first ps) ∙ ap (in_row site first) more ∙ row_more site first os o
    ∙ ap (λ (y : VarName). in_row site first os ++ (y, o) ∷ []) (sym name) ∙ ap (λ (l : List Owned). in_row site first os ++ with_owner l x o) (sym none)
    ∙ sym (past_written (in_row site first os) es x o (first_none (in_row site first os) es x new))

-- ---- an owner that is lent

-- of the others
pub other_held : (site first : ℕ) (os : List Owner) (es : List Owned) (x : VarName) (o : Owner) → is_in_row site first (length os) x ≡ false → Some o ≡ owner_of es x → owner_of (in_row site first os ++ es) x ≡ Some o
other_held site first os es x o h found = past_owner (in_row site first os) es x (beside_none site first os x h) ∙ sym found

pub other_written : (site first : ℕ) (os : List Owner) (es fs : List Owned) (x : VarName) (o p : Owner) → is_in_row site first (length os) x ≡ false → Some o ≡ owner_of es x → fs ≡ set_value (equal_var x) es p →
    in_row site first os ++ fs ≡ with_owner (in_row site first os ++ es) x p
other_written site first os es fs x o p h found e =
    ap (λ (l : List Owned). in_row site first os ++ l) (e ∙ written es x o p (sym found)) ∙ sym (past_written (in_row site first os) es x p (beside_none site first os x h))
