-- Keys that are put at several variables, one after another.
use Rattle.std.proofs.Common.{arith, ◌≡◌, sym, ap, refl, subst, ℕ, suc, ◌+◌, ◌<◌, List, [], ◌∷◌, ◌++◌, length, take, get_or, ◌⊎◌, inl, inr, ◌||◌, Bool, true, false, cond}
use Rattle.std.specs.Prelude.{Contains}
use Rattle.std.proofs.Math.Seq.{take-suc}
use Rattle.tree_node.specs.declared.names.VarName.{VarName}
use Rattle.thread_roster.specs.declared.mode.Awaited.{Awaited}
use Rattle.tree_node.specs.Each.{Each}
use Rattle.tree_node.specs.Store.{equal_var}
use Rattle.tree_node.proofs.ClassLemmas.{same_name_decides}
use Rattle.std.specs.List.{list_any}
use Rattle.std.proofs.lemmas.List.Elements.{Contains-push, Contains-push_cases, Contains-append_left}
use Rattle.thread_roster.specs.declared.mode.Event.{Event}
use Rattle.thread_roster.specs.declared.mode.Event.TheVariants as event
use Rattle.thread_roster.specs.declared.mode.Mode.TheVariants as mode
use Rattle.thread_roster.specs.Slots.{wakes}
use Rattle.thread_roster.proofs.ConsistencyLemmas.{AreLeft}
use Rattle.tree_node.proofs.EachLemmas.{each_append}
use Rattle.tree_node.proofs.EnvLemmas.{each_more}
use Rattle.waiting_keys.specs.Keys.{IsQueuedAgain, keys_among, with_key, without_keys}
use Rattle.thread_roster.specs.Parking.{HasMoreKeys, keys_for}

abbrev pub Filed : Type 0
Filed = List (VarName × List ℕ)

pub more_on : (a b c : Filed) (key : ℕ) → HasMoreKeys (keys_among a) key (keys_among b) → HasMoreKeys (keys_among b) key (keys_among c) → HasMoreKeys (keys_among a) key (keys_among c)
more_on a b c key f g = record { kept = λ y j k. g.kept y j (f.kept y j k); only = λ y j k. go y j (g.only y j k) }
  where
    go : (y : VarName) (j : ℕ) → Contains (keys_among b y) j ⊎ (j ≡ key) → Contains (keys_among a y) j ⊎ (j ≡ key)
    go y j (inl k) = f.only y j k
    go y j (inr e) = inr e

pub more_at : (old new : Filed) (key : ℕ) → ((y : VarName) → IsQueuedAgain (keys_among old y) key (keys_among new y)) → HasMoreKeys (keys_among old) key (keys_among new)
more_at old new key h = record { kept = λ y. (h y).kept; only = λ y. (h y).only }

-- the key is at each of these variables
abbrev pub IsAtEach : Filed → ℕ → List VarName → Type 0
IsAtEach waiting key xs = Each (λ (y : VarName). Contains (keys_among waiting y) key) xs

pub at_next : (b c : Filed) (key : ℕ) (xs : List VarName) (i : ℕ) (d : VarName) → HasMoreKeys (keys_among b) key (keys_among c) → IsAtEach b key (take i xs) → i < length xs → Contains (keys_among c (get_or xs i d)) key → IsAtEach c key (take (i + 1) xs)
at_next b c key xs i d more before within there =
    subst (λ (ys : List VarName). IsAtEach c key ys) (sym whole)
    (each_append (λ (y : VarName). Contains (keys_among c y) key) (take i xs) (get_or xs i d ∷ [])
    (each_more (λ (y : VarName). Contains (keys_among b y) key) (λ (y : VarName). Contains (keys_among c y) key) (take i xs) (λ y k. more.kept y key k) before) (there, tt))
  where
    whole : take (i + 1) xs ≡ take i xs ++ get_or xs i d ∷ []
    whole = let one : i + 1 ≡ suc i = omega arith in subst (λ (n : ℕ). take n xs ≡ take i xs ++ get_or xs i d ∷ []) (sym one) (take-suc xs i d within)

pub same_vars : (b : Filed) (key : ℕ) (xs ys : List VarName) → xs ≡ ys → IsAtEach b key xs → IsAtEach b key ys
same_vars b key xs ys e h = subst (λ (zs : List VarName). IsAtEach b key zs) e h

-- ---- one more key at one variable

pub more_with : (old new : Filed) (x : VarName) (key : ℕ) → ((y : VarName) → keys_among new y ≡ with_key (keys_among old) x key y) → HasMoreKeys (keys_among old) key (keys_among new)
more_with old new x key h = record {
  kept = λ y j k. subst (λ (js : List ℕ). Contains js j) (sym (h y)) (kept y j (equal_var x y) k);
  only = λ y j k. only y j (equal_var x y) (subst (λ (js : List ℕ). Contains js j) (h y) k);
}
  where
    kept : (y : VarName) (j : ℕ) (r : Bool) → Contains (keys_among old y) j → Contains (cond r (keys_among old y ++ key ∷ []) (keys_among old y)) j
    kept y j true k = Contains-append_left (keys_among old y) (key ∷ []) j k
    kept y j false k = k

    only : (y : VarName) (j : ℕ) (r : Bool) → Contains (cond r (keys_among old y ++ key ∷ []) (keys_among old y)) j → Contains (keys_among old y) j ⊎ (j ≡ key)
    only y j true k = last (Contains-push_cases (keys_among old y) key j k)
      where
        last : Contains (keys_among old y) j ⊎ (key ≡ j) → Contains (keys_among old y) j ⊎ (j ≡ key)
        last (inl c) = inl c
        last (inr e) = inr (sym e)
    only y j false k = inl k

with_there : (old new : Filed) (x : VarName) (key : ℕ) → ((y : VarName) → keys_among new y ≡ with_key (keys_among old) x key y) → Contains (keys_among new x) key
with_there old new x key h = subst (λ (js : List ℕ). Contains js key) (sym (h x)) (rw ((same_name_decides x x).1 refl) (Contains-push (keys_among old x) key))

-- ---- keys of both kinds

pub more_waiters : (old new needers : Filed) (key : ℕ) → HasMoreKeys (keys_among old) key (keys_among new) → HasMoreKeys (keys_for old needers) key (keys_for new needers)
more_waiters old new needers key h = record { kept = λ e j k. kept e j k; only = λ e j k. only e j k }
  where
    kept : (e : Event) (j : ℕ) → Contains (keys_for old needers e) j → Contains (keys_for new needers e) j
    kept (event.Bound x) j k = h.kept x j k
    kept (event.Determined x) j k = k

    only : (e : Event) (j : ℕ) → Contains (keys_for new needers e) j → Contains (keys_for old needers e) j ⊎ (j ≡ key)
    only (event.Bound x) j k = h.only x j k
    only (event.Determined x) j k = inl k

pub more_needers : (waiters old new : Filed) (key : ℕ) → HasMoreKeys (keys_among old) key (keys_among new) → HasMoreKeys (keys_for waiters old) key (keys_for waiters new)
more_needers waiters old new key h = record { kept = λ e j k. kept e j k; only = λ e j k. only e j k }
  where
    kept : (e : Event) (j : ℕ) → Contains (keys_for waiters old e) j → Contains (keys_for waiters new e) j
    kept (event.Bound x) j k = k
    kept (event.Determined x) j k = h.kept x j k

    only : (e : Event) (j : ℕ) → Contains (keys_for waiters new e) j → Contains (keys_for waiters old e) j ⊎ (j ≡ key)
    only (event.Bound x) j k = inl k
    only (event.Determined x) j k = h.only x j k

-- the key is where the thread may be looked for
pub waits_there : (old new needers : Filed) (x : VarName) (key : ℕ) → ((y : VarName) → keys_among new y ≡ with_key (keys_among old) x key y) → (e : Event) → wakes e (mode.Waits x) ≡ true → Contains (keys_for new needers e) key
waits_there old new needers x key h (event.Bound y) w = subst (λ (z : VarName). Contains (keys_among new z) key) ((same_name_decides x y).0 w) (with_there old new x key h)
waits_there old new needers x key h (event.Determined y) w = cc

pub needs_there : (waiters old new : Filed) (x : VarName) (key : ℕ) → ((y : VarName) → keys_among new y ≡ with_key (keys_among old) x key y) → (e : Event) → wakes e (mode.Needs x) ≡ true → Contains (keys_for waiters new e) key
needs_there waiters old new x key h (event.Bound y) w = cc
needs_there waiters old new x key h (event.Determined y) w = subst (λ (z : VarName). Contains (keys_among new z) key) ((same_name_decides x y).0 w) (with_there old new x key h)

pub any_there : (new needers : Filed) (xs : List VarName) (key : ℕ) → IsAtEach new key xs → (e : Event) → wakes e (mode.WaitsAny xs) ≡ true → Contains (keys_for new needers e) key
any_there new needers xs key h (event.Determined y) w = cc
any_there new needers xs key h (event.Bound y) w = among xs h w
  where
    among : (ys : List VarName) → IsAtEach new key ys → list_any (λ (z : VarName). equal_var z y) ys ≡ true → Contains (keys_among new y) key
    among [] all w = cc
    among (z ∷ ys) all w = go (equal_var z y) refl w (λ k. among ys all.1 k)
      where
        go : (r : Bool) → equal_var z y ≡ r → (r || list_any (λ (u : VarName). equal_var u y) ys) ≡ true → (list_any (λ (u : VarName). equal_var u y) ys ≡ true → Contains (keys_among new y) key) → Contains (keys_among new y) key
        go true q k ih = subst (λ (u : VarName). Contains (keys_among new u) key) ((same_name_decides z y).0 q) all.0
        go false q k ih = ih k

pub token_there : (c : Awaited) (e : Event) → wakes e (mode.WaitsFor c) ≡ true → ⊥
token_there c (event.Bound y) w = cc
token_there c (event.Determined y) w = cc

-- ---- keys that are taken

pub none_filed : (waiters needers : Filed) → waiters ≡ [] → needers ≡ [] → (e : Event) → keys_for waiters needers e ≡ []
none_filed waiters needers a b (event.Bound x) = ap (λ (l : Filed). keys_among l x) a
none_filed waiters needers a b (event.Determined x) = ap (λ (l : Filed). keys_among l x) b

pub left_bound : (old new needers : Filed) (x : VarName) → ((y : VarName) → keys_among new y ≡ without_keys (keys_among old) x y) → AreLeft (event.Bound x) (keys_for old needers) (keys_for new needers)
left_bound old new needers x taken (event.Determined y) = inl refl
left_bound old new needers x taken (event.Bound y) = go (equal_var x y) refl (taken y)
  where
    go : (b : Bool) → equal_var x y ≡ b → keys_among new y ≡ cond b [] (keys_among old y) → (keys_among new y ≡ keys_among old y) ⊎ ((keys_among new y ≡ []) × (event.Bound x ≡ event.Bound y))
    go true e r = inr (r, ap event.Bound ((same_name_decides x y).0 e))
    go false e r = inl r

pub left_determined : (waiters old new : Filed) (x : VarName) → ((y : VarName) → keys_among new y ≡ without_keys (keys_among old) x y) → AreLeft (event.Determined x) (keys_for waiters old) (keys_for waiters new)
left_determined waiters old new x taken (event.Bound y) = inl refl
left_determined waiters old new x taken (event.Determined y) = go (equal_var x y) refl (taken y)
  where
    go : (b : Bool) → equal_var x y ≡ b → keys_among new y ≡ cond b [] (keys_among old y) → (keys_among new y ≡ keys_among old y) ⊎ ((keys_among new y ≡ []) × (event.Determined x ≡ event.Determined y))
    go true e r = inr (r, ap event.Determined ((same_name_decides x y).0 e))
    go false e r = inl r
