-- One declaration more and one less, and the positions of all names.
use Rattle.std.proofs.Common.{◌≡◌, ℕ, zero, suc, ◌+◌, ◌<◌, ltb, List, [], ◌∷◌, ◌++◌, length, Bool, true, false, cond, not, Option, Some, None, refl, sym, ap, subst, ◌∙◌, arith, append_assoc, eqb, true≢false}
use Rattle.std.specs.Prelude.{IfSome, IsSome}
use Rattle.std.specs.Global.{Vec}
use Rattle.std.specs.Cmp.Lexicographic.{pointwise, bytes_decides, nat_list_eq_equiv}
use Rattle.std.specs.Str.{bytes_eq}
use Rattle.std.specs.List.{position, position_or_len}
use Rattle.std.specs.Map.{keys_of, lookup, set_value}
use Rattle.std.proofs.lemmas.List.{append-nil, length-map}
use Rattle.std.proofs.lemmas.List.Quantifiers.{position-Some}
use Rattle.std.proofs.lemmas.Option.{none-some, same_Some}
use Rattle.indexmap.specs.IndexMap.{insert_entry, set_value_at}
use Rattle.oz_grammar.specs.Scoping.{Scope, declared_behind, position_of}
use Rattle.oz_phrases.specs.ScopeIndex.{Declarations, Positions, declared_names, option_join, position_named, IsKeptAt, KeepsPlaces, AreKept, HidesBehind, IsIndexed}

-- ---- positions

position_push : (xs : Scope) (y x : List ℕ) → position_of (xs ++ y ∷ []) x ≡ cond (bytes_eq y x) (Some (length xs)) (position_of xs x)
position_push [] y x = refl
position_push (z ∷ zs) y x = ap (declared_behind (bytes_eq z x)) (position_push zs y x) ∙ go (bytes_eq y x)
  where
    go : (b : Bool) → declared_behind (bytes_eq z x) (cond b (Some (length zs)) (position_of zs x)) ≡ cond b (Some (length (z ∷ zs))) (declared_behind (bytes_eq z x) (position_of zs x))
    go true = let e : length zs + 1 ≡ length (z ∷ zs) = omega arith in ap (λ (p : ℕ). Some p) e
    go false = refl

behind_within : (b : Bool) (o : Option ℕ) (n : ℕ) → IfSome o (λ p. p < n) → IfSome (declared_behind b o) (λ p. p < suc n)
behind_within true None n h = omega arith
behind_within false None n h = tt
behind_within b (Some p) n h = omega (arith, h)

pub position_within : (xs : Scope) (x : List ℕ) → IfSome (position_of xs x) (λ p. p < length xs)
position_within [] x = tt
position_within (y ∷ ys) x = behind_within (bytes_eq y x) (position_of ys x) (length ys) (position_within ys x)

-- ---- hidden declarations

pub names_push : (ds : Declarations) (y : List ℕ) (o : Option ℕ) (n : ℕ) → declared_names (ds ++ (y, o, n) ∷ []) ≡ declared_names ds ++ y ∷ []
names_push [] y o n = refl
names_push (d ∷ ds) y o n = ap (λ (xs : Scope). d.0 ∷ xs) (names_push ds y o n)

hides_push : (before : Scope) (ds : Declarations) (y : List ℕ) (o : Option ℕ) (n : ℕ) → HidesBehind before ds → o ≡ position_of (before ++ declared_names ds) y → HidesBehind before (ds ++ (y, o, n) ∷ [])
hides_push before [] y o n h e = (e ∙ ap (λ (s : Scope). position_of s y) (append-nil before), tt)
hides_push before (d ∷ ds) y o n h e = (h.0, hides_push (before ++ d.0 ∷ []) ds y o n h.1 (e ∙ ap (λ (s : Scope). position_of s y) (sym (append_assoc before (d.0 ∷ []) (declared_names ds)))))

hides_less : (before : Scope) (ds : Declarations) (y : List ℕ) (o : Option ℕ) (n : ℕ) → HidesBehind before (ds ++ (y, o, n) ∷ []) → HidesBehind before ds × (o ≡ position_of (before ++ declared_names ds) y)
hides_less before [] y o n h = (tt, h.0 ∙ ap (λ (s : Scope). position_of s y) (sym (append-nil before)))
hides_less before (d ∷ ds) y o n h =
    let less = hides_less (before ++ d.0 ∷ []) ds y o n h.1 in
    ((h.0, less.0), less.1 ∙ ap (λ (s : Scope). position_of s y) (append_assoc before (d.0 ∷ []) (declared_names ds)))

-- ---- entries

same : (x y : List ℕ) → bytes_eq x y ≡ true → x ≡ y
same x y e = (bytes_decides x y).0 e

flips : (x y : List ℕ) → bytes_eq x y ≡ bytes_eq y x
flips x y = nat_list_eq_equiv.symm x y

pub put_there : (es : Positions) (k : Vec ℕ) (v : Option ℕ) (x : List ℕ) → position_named (insert_entry (λ (a b : Vec ℕ). pointwise eqb a.items b.items) es k v) x ≡ cond (bytes_eq x k.items) v (position_named es x)
put_there [] k v x = go (bytes_eq x k.items)
  where
    go : (b : Bool) → option_join (cond b (Some v) None) ≡ cond b v None
    go true = refl
    go false = refl
put_there ((z, w) ∷ es) k v x = go (bytes_eq k.items z.items) (bytes_eq x z.items) (bytes_eq x k.items) refl refl refl (put_there es k v x)
  where
    go : (kz xz xk : Bool) → bytes_eq k.items z.items ≡ kz → bytes_eq x z.items ≡ xz → bytes_eq x k.items ≡ xk →
        position_named (insert_entry (λ (a b : Vec ℕ). pointwise eqb a.items b.items) es k v) x ≡ cond xk v (position_named es x) →
        position_named (cond kz ((z, v) ∷ es) ((z, w) ∷ insert_entry (λ (a b : Vec ℕ). pointwise eqb a.items b.items) es k v)) x ≡ cond xk v (option_join (cond xz (Some w) (lookup (λ (q : Vec ℕ). bytes_eq x q.items) es)))
    go true true true a b c ih = rw b refl
    go true true false a b c ih = absurd (true≢false (sym b ∙ ap (λ (s : List ℕ). bytes_eq x s) (sym (same k.items z.items a)) ∙ c))
    go true false true a b c ih = absurd (true≢false (sym c ∙ ap (λ (s : List ℕ). bytes_eq x s) (same k.items z.items a) ∙ b))
    go true false false a b c ih = rw b refl
    go false true true a b c ih = absurd (true≢false (sym b ∙ ap (λ (s : List ℕ). bytes_eq s z.items) (same x k.items c) ∙ a))
    go false true false a b c ih = rw b refl
    go false false true a b c ih = rw b ih
    go false false false a b c ih = rw b ih

pub set_there : (es : Positions) (y : List ℕ) (w : Option ℕ) (x : List ℕ) → IsSome (lookup (λ (k : Vec ℕ). bytes_eq y k.items) es) → position_named (set_value (λ (k : Vec ℕ). bytes_eq y k.items) es w) x ≡ cond (bytes_eq x y) w (position_named es x)
set_there [] y w x h = cc
set_there ((z, v) ∷ es) y w x h = go (bytes_eq y z.items) (bytes_eq x z.items) (bytes_eq x y) refl refl refl h (set_there es y w x)
  where
    go : (yz xz xy : Bool) → bytes_eq y z.items ≡ yz → bytes_eq x z.items ≡ xz → bytes_eq x y ≡ xy → IsSome (cond yz (Some v) (lookup (λ (k : Vec ℕ). bytes_eq y k.items) es)) →
        (IsSome (lookup (λ (k : Vec ℕ). bytes_eq y k.items) es) → position_named (set_value (λ (k : Vec ℕ). bytes_eq y k.items) es w) x ≡ cond xy w (position_named es x)) →
        position_named (cond yz ((z, w) ∷ es) ((z, v) ∷ set_value (λ (k : Vec ℕ). bytes_eq y k.items) es w)) x ≡ cond xy w (option_join (cond xz (Some v) (lookup (λ (k : Vec ℕ). bytes_eq x k.items) es)))
    go true true true a b c h ih = rw b refl
    go true true false a b c h ih = absurd (true≢false (sym b ∙ ap (λ (s : List ℕ). bytes_eq x s) (sym (same y z.items a)) ∙ c))
    go true false true a b c h ih = absurd (true≢false (sym c ∙ ap (λ (s : List ℕ). bytes_eq x s) (same y z.items a) ∙ b))
    go true false false a b c h ih = rw b refl
    go false true true a b c h ih = absurd (true≢false (sym b ∙ ap (λ (s : List ℕ). bytes_eq s z.items) (same x y c) ∙ a))
    go false true false a b c h ih = rw b refl
    go false false true a b c h ih = rw b (ih h)
    go false false false a b c h ih = rw b (ih h)

-- ---- places

kept_push : (es : Positions) (ds : Declarations) (y : List ℕ) (o : Option ℕ) (n : ℕ) → AreKept es ds → IsKeptAt es y n → AreKept es (ds ++ (y, o, n) ∷ [])
kept_push es [] y o n h e = (e, tt)
kept_push es (d ∷ ds) y o n h e = (h.0, kept_push es ds y o n h.1 e)

kept_less : (es : Positions) (ds : Declarations) (y : List ℕ) (o : Option ℕ) (n : ℕ) → AreKept es (ds ++ (y, o, n) ∷ []) → AreKept es ds × IsKeptAt es y n
kept_less es [] y o n h = (tt, h.0)
kept_less es (d ∷ ds) y o n h = let less = kept_less es ds y o n h.1 in ((h.0, less.0), less.1)

kept_goes_on : (old new : Positions) (ds : Declarations) → KeepsPlaces old new → AreKept old ds → AreKept new ds
kept_goes_on old new [] k h = tt
kept_goes_on old new (d ∷ ds) k h = (k d.0 d.2 h.0, kept_goes_on old new ds k h.1)

-- a write by a place leaves all places
pub kept_write : (es : Positions) (i : ℕ) (w : Option ℕ) → KeepsPlaces es (set_value_at es i w)
kept_write [] i w x n h = absurd h
kept_write (e ∷ es) zero w x zero h = h
kept_write (e ∷ es) zero w x (suc n) h = h
kept_write (e ∷ es) (suc i) w x zero h = h
kept_write (e ∷ es) (suc i) w x (suc n) h = (h.0, kept_write es i w x n h.1)

-- and writes at the name that is kept there
pub write_there : (es : Positions) (y : List ℕ) (n : ℕ) (w : Option ℕ) → IsKeptAt es y n → set_value_at es n w ≡ set_value (λ (k : Vec ℕ). bytes_eq y k.items) es w
write_there [] y n w h = absurd h
write_there (e ∷ es) y zero w h = rw h refl
write_there (e ∷ es) y (suc n) w h = rw h.0 (ap (λ (xs : Positions). e ∷ xs) (write_there es y n w h.1))

pub kept_within : (es : Positions) (y : List ℕ) (n : ℕ) → IsKeptAt es y n → n < length es
kept_within [] y n h = absurd h
kept_within (e ∷ es) y zero h = omega arith
kept_within (e ∷ es) y (suc n) h = let within = kept_within es y n h.1 in omega (arith, within)

pub kept_is_there : (es : Positions) (y : List ℕ) (n : ℕ) → IsKeptAt es y n → IsSome (lookup (λ (k : Vec ℕ). bytes_eq y k.items) es)
kept_is_there [] y n h = absurd h
kept_is_there (e ∷ es) y zero h = rw h refl
kept_is_there (e ∷ es) y (suc n) h = rw h.0 (kept_is_there es y n h.1)

-- a name more leaves the places of those before
pub kept_insert : (es : Positions) (k : Vec ℕ) (v : Option ℕ) → KeepsPlaces es (insert_entry (λ (a b : Vec ℕ). pointwise eqb a.items b.items) es k v)
kept_insert [] k v x n h = absurd h
kept_insert (e ∷ es) k v x zero h = go (bytes_eq k.items e.0.items)
  where
    go : (b : Bool) → IsKeptAt (cond b ((e.0, v) ∷ es) (e ∷ insert_entry (λ (a b : Vec ℕ). pointwise eqb a.items b.items) es k v)) x zero
    go true = h
    go false = h
kept_insert (e ∷ es) k v x (suc n) h = go (kept_insert es k v x n h.1) (bytes_eq k.items e.0.items)
  where
    go : IsKeptAt (insert_entry (λ (a b : Vec ℕ). pointwise eqb a.items b.items) es k v) x n → (b : Bool) → IsKeptAt (cond b ((e.0, v) ∷ es) (e ∷ insert_entry (λ (a b : Vec ℕ). pointwise eqb a.items b.items) es k v)) x (suc n)
    go ih true = h
    go ih false = (h.0, ih)

-- and is kept at the place that is told
kept_inserted : (es : Positions) (k : Vec ℕ) (v : Option ℕ) → IsKeptAt (insert_entry (λ (a b : Vec ℕ). pointwise eqb a.items b.items) es k v) k.items (position_or_len (λ (q : Vec ℕ). pointwise eqb k.items q.items) (keys_of es))
kept_inserted [] k v = nat_list_eq_equiv.refl k.items
kept_inserted (e ∷ es) k v = go (kept_inserted es k v) (bytes_eq k.items e.0.items) refl
  where
    go : IsKeptAt (insert_entry (λ (a b : Vec ℕ). pointwise eqb a.items b.items) es k v) k.items (position_or_len (λ (q : Vec ℕ). pointwise eqb k.items q.items) (keys_of es)) → (b : Bool) → bytes_eq k.items e.0.items ≡ b → IsKeptAt (cond b ((e.0, v) ∷ es) (e ∷ insert_entry (λ (a b : Vec ℕ). pointwise eqb a.items b.items) es k v)) k.items (cond (not b) (1 + position_or_len (λ (q : Vec ℕ). pointwise eqb k.items q.items) (keys_of es)) 0)
    go ih true q = q
    go ih false q =
        let next : suc (position_or_len (λ (q : Vec ℕ). pointwise eqb k.items q.items) (keys_of es)) ≡ 1 + position_or_len (λ (q : Vec ℕ). pointwise eqb k.items q.items) (keys_of es) = omega arith in
        subst (λ (n : ℕ). IsKeptAt (e ∷ insert_entry (λ (a b : Vec ℕ). pointwise eqb a.items b.items) es k v) k.items n) next (q, ih)

pub kept_told : (es after : Positions) (k : Vec ℕ) (v : Option ℕ) (x : List ℕ) (n : ℕ) → after ≡ insert_entry (λ (a b : Vec ℕ). pointwise eqb a.items b.items) es k v → n ≡ position_or_len (λ (q : Vec ℕ). pointwise eqb k.items q.items) (keys_of es) → k.items ≡ x → IsKeptAt after x n
kept_told es after k v x n e at same_name =
    subst (λ (ys : Positions). IsKeptAt ys x n) (sym e)
    (subst (λ (s : List ℕ). IsKeptAt (insert_entry (λ (a b : Vec ℕ). pointwise eqb a.items b.items) es k v) s n) same_name
    (subst (λ (m : ℕ). IsKeptAt (insert_entry (λ (a b : Vec ℕ). pointwise eqb a.items b.items) es k v) k.items m) (sym at) (kept_inserted es k v)))

kept_first : (es : Positions) (y : List ℕ) → position_or_len (λ (k : Vec ℕ). bytes_eq y k.items) (keys_of es) < length (keys_of es) → IsKeptAt es y (position_or_len (λ (k : Vec ℕ). bytes_eq y k.items) (keys_of es))
kept_first [] y within = absurd (omega (arith, within))
kept_first (e ∷ es) y within = go (λ (less : position_or_len (λ (k : Vec ℕ). bytes_eq y k.items) (keys_of es) < length (keys_of es)). kept_first es y less) (bytes_eq y e.0.items) refl within
  where
    go : (position_or_len (λ (k : Vec ℕ). bytes_eq y k.items) (keys_of es) < length (keys_of es) → IsKeptAt es y (position_or_len (λ (k : Vec ℕ). bytes_eq y k.items) (keys_of es))) → (b : Bool) → bytes_eq y e.0.items ≡ b → cond (not b) (1 + position_or_len (λ (k : Vec ℕ). bytes_eq y k.items) (keys_of es)) 0 < suc (length (keys_of es)) → IsKeptAt (e ∷ es) y (cond (not b) (1 + position_or_len (λ (k : Vec ℕ). bytes_eq y k.items) (keys_of es)) 0)
    go ih true q less = q
    go ih false q less =
        let next : suc (position_or_len (λ (k : Vec ℕ). bytes_eq y k.items) (keys_of es)) ≡ 1 + position_or_len (λ (k : Vec ℕ). bytes_eq y k.items) (keys_of es) = omega arith in
        subst (λ (n : ℕ). IsKeptAt (e ∷ es) y n) next (q, ih (omega (arith, less)))

-- a name is kept where it is found
pub kept_found : (es : Positions) (y : List ℕ) (n : ℕ) → position (λ (k : Vec ℕ). bytes_eq y k.items) (keys_of es) ≡ Some n → IsKeptAt es y n
kept_found es y n found =
    let first : position_or_len (λ (k : Vec ℕ). bytes_eq y k.items) (keys_of es) ≡ n = is_first (ltb (position_or_len (λ (k : Vec ℕ). bytes_eq y k.items) (keys_of es)) (length (keys_of es))) found in
    let within : n < length (keys_of es) = is_within (keys_of es) found in
    subst (λ (m : ℕ). IsKeptAt es y m) first (kept_first es y (subst (λ (m : ℕ). m < length (keys_of es)) (sym first) within))
  where
    is_first : (b : Bool) → cond b (Some (position_or_len (λ (k : Vec ℕ). bytes_eq y k.items) (keys_of es))) None ≡ Some n → position_or_len (λ (k : Vec ℕ). bytes_eq y k.items) (keys_of es) ≡ n
    is_first true e = same_Some (position_or_len (λ (k : Vec ℕ). bytes_eq y k.items) (keys_of es)) n e
    is_first false e = absurd (none-some n e)

    is_within : (ks : List (Vec ℕ)) → position (λ (k : Vec ℕ). bytes_eq y k.items) ks ≡ Some n → n < length ks
    is_within [] e = absurd (none-some n e)
    is_within (k ∷ ks) e = (position-Some (λ (q : Vec ℕ). bytes_eq y q.items) (k ∷ ks) n k e).0

-- ---- the index

-- the index after one declaration more
pub indexed_push : (ds : Declarations) (old new : Positions) (y : List ℕ) (o : Option ℕ) (n : ℕ) → IsIndexed ds old → o ≡ position_named old y → KeepsPlaces old new → IsKeptAt new y n →
    ((x : List ℕ) → position_named new x ≡ cond (bytes_eq x y) (Some (length ds)) (position_named old x)) → IsIndexed (ds ++ (y, o, n) ∷ []) new
indexed_push ds old new y o n i e keeps at h = record {
  hides = hides_push [] ds y o n i.hides (e ∙ i.positions_are y);
  kept = kept_push new ds y o n (kept_goes_on old new ds keeps i.kept) at;
  positions_are = λ x. h x ∙ go x (bytes_eq x y) refl ∙ sym (ap (λ (s : Scope). position_of s x) (names_push ds y o n) ∙ position_push (declared_names ds) y x);
}
  where
    go : (x : List ℕ) (b : Bool) → bytes_eq x y ≡ b → cond b (Some (length ds)) (position_named old x) ≡ cond (bytes_eq y x) (Some (length (declared_names ds))) (position_of (declared_names ds) x)
    go x true q = rw (flips y x ∙ q) (ap (λ (p : ℕ). Some p) (sym (length-map ds (λ (d : List ℕ × Option ℕ × ℕ). d.0))))
    go x false q = rw (flips y x ∙ q) (i.positions_are x)

-- the innermost declaration's position is kept at the place that stands beside it
pub last_is_kept : (ds : Declarations) (old : Positions) (y : List ℕ) (o : Option ℕ) (n : ℕ) → IsIndexed (ds ++ (y, o, n) ∷ []) old → IsKeptAt old y n
last_is_kept ds old y o n i = (kept_less old ds y o n i.kept).1

-- the index after one less
pub indexed_less : (ds : Declarations) (old : Positions) (y : List ℕ) (o : Option ℕ) (n : ℕ) → IsIndexed (ds ++ (y, o, n) ∷ []) old → IsIndexed ds (set_value_at old n o)
indexed_less ds old y o n i = record {
  hides = (hides_less [] ds y o n i.hides).0;
  kept = kept_goes_on old (set_value_at old n o) ds (kept_write old n o) (kept_less old ds y o n i.kept).0;
  positions_are = λ x. ap (λ (es : Positions). position_named es x) (write_there old y n o at) ∙ set_there old y o x (kept_is_there old y n at) ∙ go x (bytes_eq x y) refl;
}
  where
    at : IsKeptAt old y n
    at = last_is_kept ds old y o n i

    was : (x : List ℕ) → position_named old x ≡ cond (bytes_eq y x) (Some (length (declared_names ds))) (position_of (declared_names ds) x)
    was x = i.positions_are x ∙ ap (λ (s : Scope). position_of s x) (names_push ds y o n) ∙ position_push (declared_names ds) y x

    go : (x : List ℕ) (b : Bool) → bytes_eq x y ≡ b → cond b o (position_named old x) ≡ position_of (declared_names ds) x
    go x true q = (hides_less [] ds y o n i.hides).1 ∙ ap (position_of (declared_names ds)) (sym (same x y q))
    go x false q = was x ∙ ap (λ (b : Bool). cond b (Some (length (declared_names ds))) (position_of (declared_names ds) x)) (flips y x ∙ q)
