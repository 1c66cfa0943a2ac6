-- Free positions: how deep they are looked for, and which they are.
use Rattle.std.proofs.Common.{arith, ◌≡◌, sym, refl, subst, ℕ, zero, suc, ◌+◌, ◌<◌, ◌≤◌, List, [], ◌∷◌, map, length, ◌⊎◌, inl, inr, Bool, true, false, cond, Some, None}
use Rattle.std.specs.Prelude.{◌==◌, nat_lt, Contains, Option, slice_get, unwrap_or}
use Rattle.std.proofs.lemmas.Option.{slice_get_past}
use Rattle.tree_node.specs.declared.names.CodeId.{CodeId}
use Rattle.tree_node.specs.Each.{Each}
use Rattle.tree_node.proofs.ClassLemmas.{Contains-head, Contains-tail, Contains-cons_cases}
use Rattle.kernel_syntax.specs.declared.stmt.Stmt.{Stmt}
use Rattle.kernel_syntax.specs.declared.stmt.Stmt.TheVariants as stmt
use Rattle.kernel_syntax.specs.Scopes.{BodyScope, stmt_at, bodies_of, scopes_of, bare_scope, named_positions}
use Rattle.kernel_syntax.specs.Free.{AreRising, with_position, with_positions, is_declared, without_declared, free_in_each, free_of, free_within, free}
use Rattle.kernel_syntax.specs.Program.{IsProgram}
use Rattle.kernel_syntax.specs.Uses.{IsDeclared, IsBodyOutside, IsUsed, itself, within}
use Rattle.kernel_syntax.specs.Laws.{FreeUnfolds, FreeAscends, FreeIsUsed, ProgramsAreClosed, OwnersHaveFree, NamesAreFree}
use Rattle.kernel_syntax.proofs.OrderLemmas.{ascends_with_all}
use Rattle.tree_node.proofs.OrderLemmas.{none}
use Rattle.tree_node.proofs.EnvLemmas.{each_more}

-- statements that agree on the bodies have the same free positions
each_agrees : (f g : CodeId → List ℕ) (js : List ℕ) (ss : List BodyScope) → Each (λ (s : BodyScope). f s.body ≡ g s.body) ss → free_in_each f js ss ≡ free_in_each g js ss
each_agrees f g js [] h = refl
each_agrees f g js (s ∷ ss) h = rw h.0 (each_agrees f g (with_positions js (without_declared s.first s.count (g s.body))) ss h.1)

-- what holds of each body holds of each body with what is declared for it
bodies_alone : (P : CodeId → Type 0) (cs : List CodeId) → Each P cs → Each (λ (s : BodyScope). P s.body) (map bare_scope cs)
bodies_alone P [] h = tt
bodies_alone P (c ∷ cs) h = (h.0, bodies_alone P cs h.1)

pub scopes_have : (P : CodeId → Type 0) (st : Stmt) → Each P (bodies_of st) → Each (λ (s : BodyScope). P s.body) (scopes_of st)
scopes_have P (stmt.Seq bodies) h = bodies_alone P bodies h
scopes_have P stmt.Skip h = tt
scopes_have P (stmt.Local first count body) h = h
scopes_have P (stmt.TellVar left right) h = tt
scopes_have P (stmt.TellInt left value) h = tt
scopes_have P (stmt.TellAtom left text) h = tt
scopes_have P (stmt.TellRec left label fields) h = tt
scopes_have P (stmt.TellProc left first count body) h = h
scopes_have P (stmt.Calc left op a b) h = tt
scopes_have P (stmt.Test left op a b) h = tt
scopes_have P (stmt.Select left source by) h = tt
scopes_have P (stmt.If subject chosen other) h = h
scopes_have P (stmt.Case subject pattern first chosen other) h = h
scopes_have P (stmt.Call callee args) h = tt
scopes_have P (stmt.Browse x) h = tt
scopes_have P (stmt.Wait x) h = tt
scopes_have P (stmt.NewCell content cell) h = tt
scopes_have P (stmt.Exchange cell old new) h = tt
scopes_have P (stmt.NewPort stream port) h = tt
scopes_have P (stmt.Send port value) h = tt
scopes_have P (stmt.NewCellAt content cell place) h = tt
scopes_have P (stmt.Thread at body) h = h
scopes_have P (stmt.Try body first handler) h = h
scopes_have P (stmt.Raise x) h = tt

pub of_agrees : (f g : CodeId → List ℕ) (st : Stmt) → Each (λ c. f c ≡ g c) (bodies_of st) → free_of f st ≡ free_of g st
of_agrees f g st h = rw (each_agrees f g [] (scopes_of st) (scopes_have (λ c. f c ≡ g c) st h)) refl

-- bodies stand behind their owners
abbrev pub GoesOn : List Stmt → Type 0
GoesOn p = (code : CodeId) → Each (λ (c : CodeId). (code.0 < c.0) × (c.0 < length p)) (bodies_of (stmt_at p code))

abbrev pub StandBehind : List Stmt → Type 0
StandBehind p = (i : ℕ) (st : Stmt) → slice_get p i ≡ Some st → Each (λ (c : CodeId). (i < c.0) × (c.0 < length p)) (bodies_of st)

pub go_on : (p : List Stmt) → StandBehind p → GoesOn p
go_on p bodies code = go (slice_get p code.0) refl
  where
    go : (o : Option Stmt) → slice_get p code.0 ≡ o → Each (λ (c : CodeId). (code.0 < c.0) × (c.0 < length p)) (bodies_of (unwrap_or o stmt.Skip))
    go None e = tt
    go (Some st) e = bodies code.0 st e

pub goes_on : (p : List Stmt) → IsProgram p → GoesOn p
goes_on p is code = go_on p is.bodies code

-- no statement stands within more others than follow it
enough : (p : List Stmt) → GoesOn p → (d e : ℕ) (code : CodeId) → length p ≤ d + code.0 → length p ≤ e + code.0 → free_within d p code ≡ free_within e p code
enough p on zero zero code l m = refl
enough p on zero (suc e) code l m = rw (slice_get_past p code.0 (omega (arith, l))) refl
enough p on (suc d) zero code l m = rw (slice_get_past p code.0 (omega (arith, m))) refl
enough p on (suc d) (suc e) code l m =
    of_agrees (free_within d p) (free_within e p) (stmt_at p code)
    (each_more _ (λ c. free_within d p c ≡ free_within e p c) (bodies_of (stmt_at p code))
    (λ c h. enough p on d e c (omega (arith, h.0, l)) (omega (arith, h.0, m))) (on code))

pub unfolds : (p : List Stmt) → GoesOn p → (code : CodeId) → free p code ≡ free_of (free p) (stmt_at p code)
unfolding free
unfolds p on code = enough p on (length p) (suc (length p)) code (omega arith) (omega arith)

pub free_unfolds : FreeUnfolds
free_unfolds p code is = unfolds p (goes_on p is) code

-- they ascend
ascends-each : (f : CodeId → List ℕ) (js : List ℕ) (ss : List BodyScope) → AreRising js → AreRising (free_in_each f js ss)
ascends-each f js [] up = up
ascends-each f js (s ∷ ss) up =
    let row : List ℕ = without_declared s.first s.count (f s.body) in
    ascends-each f (with_positions js row) ss (ascends_with_all js row up)

pub ascends_of : (f : CodeId → List ℕ) (st : Stmt) → AreRising (free_of f st)
ascends_of f st = ascends_with_all (free_in_each f [] (scopes_of st)) (named_positions st) (ascends-each f [] (scopes_of st) tt)

pub free_ascends : FreeAscends
unfolding free
free_ascends p code = go (length p)
  where
    go : (d : ℕ) → AreRising (free_within d p code)
    go zero = tt
    go (suc d) = ascends_of (free_within d p) (stmt_at p code)

-- members of the lists
Contains-here : {X : Type 0} (x y : X) (xs : List X) → x ≡ y → Contains (x ∷ xs) y
Contains-here x y xs e = (zero, omega arith, e)

from_with : (k : ℕ) (js : List ℕ) (x : ℕ) → Contains (with_position k js) x → (k ≡ x) ⊎ Contains js x
from_with k [] x h = Contains-cons_cases k x [] h
from_with k (j ∷ js) x h = go (k == j) (nat_lt k j) (λ g. from_with k js x g) h
  where
    further : (Contains (with_position k js) x → (k ≡ x) ⊎ Contains js x) → (j ≡ x) ⊎ Contains (with_position k js) x → (k ≡ x) ⊎ Contains (j ∷ js) x
    further ih (inl e) = inr (Contains-here j x js e)
    further ih (inr g) = behind (ih g)
      where
        behind : (k ≡ x) ⊎ Contains js x → (k ≡ x) ⊎ Contains (j ∷ js) x
        behind (inl e) = inl e
        behind (inr g) = inr (Contains-tail j x js g)

    go : (a b : Bool) → (Contains (with_position k js) x → (k ≡ x) ⊎ Contains js x) → Contains (cond a (j ∷ js) (cond b (k ∷ j ∷ js) (j ∷ with_position k js))) x → (k ≡ x) ⊎ Contains (j ∷ js) x
    go true b ih g = inr g
    go false true ih g = Contains-cons_cases k x (j ∷ js) g
    go false false ih g = further ih (Contains-cons_cases j x (with_position k js) g)

with-itself : (k : ℕ) (js : List ℕ) → Contains (with_position k js) k
with-itself k [] = Contains-head k []
with-itself k (j ∷ js) = go (k == j) refl (nat_lt k j) (with-itself k js)
  where
    go : (a : Bool) → (k == j) ≡ a → (b : Bool) → Contains (with_position k js) k → Contains (cond a (j ∷ js) (cond b (k ∷ j ∷ js) (j ∷ with_position k js))) k
    go true e b ih = let same : j ≡ k = grind (arith, e) in Contains-here j k js same
    go false e true ih = Contains-head k (j ∷ js)
    go false e false ih = Contains-tail j k (with_position k js) ih

with-others : (k : ℕ) (js : List ℕ) (x : ℕ) → Contains js x → Contains (with_position k js) x
with-others k [] x h = Contains-tail k x [] h
with-others k (j ∷ js) x h = go (k == j) (nat_lt k j) (λ g. with-others k js x g) (Contains-cons_cases j x js h)
  where
    go : (a b : Bool) → (Contains js x → Contains (with_position k js) x) → (j ≡ x) ⊎ Contains js x → Contains (cond a (j ∷ js) (cond b (k ∷ j ∷ js) (j ∷ with_position k js))) x
    go true b ih g = h
    go false true ih g = Contains-tail k x (j ∷ js) h
    go false false ih (inl e) = Contains-here j x (with_position k js) e
    go false false ih (inr g) = Contains-tail j x (with_position k js) (ih g)

from_all : (js ks : List ℕ) (x : ℕ) → Contains (with_positions js ks) x → Contains js x ⊎ Contains ks x
from_all js [] x h = inl h
from_all js (k ∷ ks) x h = go (from_all (with_position k js) ks x h)
  where
    first : (k ≡ x) ⊎ Contains js x → Contains js x ⊎ Contains (k ∷ ks) x
    first (inl e) = inr (Contains-here k x ks e)
    first (inr g) = inl g

    go : Contains (with_position k js) x ⊎ Contains ks x → Contains js x ⊎ Contains (k ∷ ks) x
    go (inl g) = first (from_with k js x g)
    go (inr g) = inr (Contains-tail k x ks g)

all-old : (js ks : List ℕ) (x : ℕ) → Contains js x → Contains (with_positions js ks) x
all-old js [] x h = h
all-old js (k ∷ ks) x h = all-old (with_position k js) ks x (with-others k js x h)

all-new : (js ks : List ℕ) (x : ℕ) → Contains ks x → Contains (with_positions js ks) x
all-new js [] x h = absurd (none x h)
all-new js (k ∷ ks) x h = go (λ g. all-new (with_position k js) ks x g) (Contains-cons_cases k x ks h)
  where
    go : (Contains ks x → Contains (with_positions (with_position k js) ks) x) → (k ≡ x) ⊎ Contains ks x → Contains (with_positions (with_position k js) ks) x
    go ih (inl e) = all-old (with_position k js) ks x (subst (λ (y : ℕ). Contains (with_position k js) y) e (with-itself k js))
    go ih (inr g) = ih g

pub from_without : (first count : ℕ) (ks : List ℕ) (x : ℕ) → Contains (without_declared first count ks) x → Contains ks x × (IsDeclared first count x → ⊥)
from_without first count [] x h = absurd (none x h)
from_without first count (k ∷ ks) x h = go (is_declared first count k) refl (λ g. from_without first count ks x g) h
  where
    further : is_declared first count k ≡ false → (Contains (without_declared first count ks) x → Contains ks x × (IsDeclared first count x → ⊥)) →
        (k ≡ x) ⊎ Contains (without_declared first count ks) x → Contains (k ∷ ks) x × (IsDeclared first count x → ⊥)
    further e ih (inl same) = (Contains-here k x ks same, λ d. let outside : is_declared first count x ≡ false = rw (← same) e in grind (arith, outside, d.0, d.1))
    further e ih (inr g) = let rest = ih g in (Contains-tail k x ks rest.0, rest.1)

    go : (b : Bool) → is_declared first count k ≡ b → (Contains (without_declared first count ks) x → Contains ks x × (IsDeclared first count x → ⊥)) →
        Contains (cond b (without_declared first count ks) (k ∷ without_declared first count ks)) x → Contains (k ∷ ks) x × (IsDeclared first count x → ⊥)
    go true e ih g = let rest = ih g in (Contains-tail k x ks rest.0, rest.1)
    go false e ih g = further e ih (Contains-cons_cases k x (without_declared first count ks) g)

pub without-others : (first count : ℕ) (ks : List ℕ) (x : ℕ) → Contains ks x → (IsDeclared first count x → ⊥) → Contains (without_declared first count ks) x
without-others first count [] x h out = h
without-others first count (k ∷ ks) x h out = go (is_declared first count k) refl (λ g. without-others first count ks x g out) (Contains-cons_cases k x ks h)
  where
    go : (b : Bool) → is_declared first count k ≡ b → (Contains ks x → Contains (without_declared first count ks) x) → (k ≡ x) ⊎ Contains ks x →
        Contains (cond b (without_declared first count ks) (k ∷ without_declared first count ks)) x
    go true e ih (inl same) =
        let at : is_declared first count x ≡ true = rw (← same) e in
        let low : first ≤ x = grind (arith, at) in let high : x < first + count = grind (arith, at) in absurd (out (low, high))
    go true e ih (inr g) = ih g
    go false e ih (inl same) = Contains-here k x (without_declared first count ks) same
    go false e ih (inr g) = Contains-tail k x (without_declared first count ks) (ih g)

-- a position that is free in one of these bodies, and not declared for it
abbrev FromBody : (CodeId → List ℕ) → List BodyScope → ℕ → Type 0
FromBody f ss x = (s : BodyScope) × Contains ss s × Contains (f s.body) x × (IsDeclared s.first s.count x → ⊥)

from_each : (f : CodeId → List ℕ) (js : List ℕ) (ss : List BodyScope) (x : ℕ) → Contains (free_in_each f js ss) x → Contains js x ⊎ FromBody f ss x
from_each f js [] x h = inl h
from_each f js (s ∷ ss) x h = go (from_each f (with_positions js row) ss x h)
  where
    row : List ℕ
    row = without_declared s.first s.count (f s.body)

    first : Contains js x ⊎ Contains row x → Contains js x ⊎ FromBody f (s ∷ ss) x
    first (inl g) = inl g
    first (inr g) = let here = from_without s.first s.count (f s.body) x g in inr (s, Contains-head s ss, here.0, here.1)

    go : Contains (with_positions js row) x ⊎ FromBody f ss x → Contains js x ⊎ FromBody f (s ∷ ss) x
    go (inl g) = first (from_all js row x g)
    go (inr (b, at, g, out)) = inr (b, Contains-tail s b ss at, g, out)

each-old : (f : CodeId → List ℕ) (js : List ℕ) (ss : List BodyScope) (x : ℕ) → Contains js x → Contains (free_in_each f js ss) x
each-old f js [] x h = h
each-old f js (s ∷ ss) x h =
    let row : List ℕ = without_declared s.first s.count (f s.body) in
    each-old f (with_positions js row) ss x (all-old js row x h)

each-new : (f : CodeId → List ℕ) (js : List ℕ) (ss : List BodyScope) (b : BodyScope) (x : ℕ) → Contains ss b → Contains (f b.body) x → (IsDeclared b.first b.count x → ⊥) → Contains (free_in_each f js ss) x
each-new f js [] b x h g out = absurd (none b h)
each-new f js (s ∷ ss) b x h g out = go (λ at. each-new f (with_positions js (row s)) ss b x at g out) (Contains-cons_cases s b ss h)
  where
    row : BodyScope → List ℕ
    row t = without_declared t.first t.count (f t.body)

    here : Contains (row b) x
    here = without-others b.first b.count (f b.body) x g out

    go : (Contains ss b → Contains (free_in_each f (with_positions js (row s)) ss) x) → (s ≡ b) ⊎ Contains ss b → Contains (free_in_each f (with_positions js (row s)) ss) x
    go ih (inl e) = each-old f (with_positions js (row s)) ss x (all-new js (row s) x (subst (λ (t : BodyScope). Contains (row t) x) (sym e) here))
    go ih (inr at) = ih at

-- a free position is named by the statement itself or comes from a body that it is not declared for
abbrev FromStmt : (CodeId → List ℕ) → Stmt → ℕ → Type 0
FromStmt f st x = Contains (named_positions st) x ⊎ ((c : CodeId) × IsBodyOutside st c x × Contains (f c) x)

from_of : (f : CodeId → List ℕ) (st : Stmt) (x : ℕ) → Contains (free_of f st) x → FromStmt f st x
from_of f st x h = go (from_all (free_in_each f [] (scopes_of st)) (named_positions st) x h)
  where
    inner : Contains [] x ⊎ FromBody f (scopes_of st) x → FromStmt f st x
    inner (inl g) = absurd (none x g)
    inner (inr (s, at, g, out)) = inr (s.body, (s, at, refl, out), g)

    go : Contains (free_in_each f [] (scopes_of st)) x ⊎ Contains (named_positions st) x → FromStmt f st x
    go (inl g) = inner (from_each f [] (scopes_of st) x g)
    go (inr g) = inl g

of-names : (f : CodeId → List ℕ) (st : Stmt) (x : ℕ) → Contains (named_positions st) x → Contains (free_of f st) x
of-names f st x h = all-new (free_in_each f [] (scopes_of st)) (named_positions st) x h

of-bodies : (f : CodeId → List ℕ) (st : Stmt) (c : CodeId) (x : ℕ) → IsBodyOutside st c x → Contains (f c) x → Contains (free_of f st) x
of-bodies f st c x (s, at, same, out) h =
    all-old (free_in_each f [] (scopes_of st)) (named_positions st) x
    (each-new f [] (scopes_of st) s x at (subst (λ (y : CodeId). Contains (f y) x) (sym same) h) out)

-- they are those that the code uses
used-within : (d : ℕ) (p : List Stmt) (code : CodeId) (k : ℕ) → Contains (free_within d p code) k → IsUsed p code k
used-within zero p code k h = absurd (none k h)
used-within (suc d) p code k h = go (λ c g. used-within d p c k g) (from_of (free_within d p) (stmt_at p code) k h)
  where
    go : ((c : CodeId) → Contains (free_within d p c) k → IsUsed p c k) → FromStmt (free_within d p) (stmt_at p code) k → IsUsed p code k
    go ih (inl g) = itself g
    go ih (inr (c, at, g)) = within c at (ih c g)

free-used : (p : List Stmt) (code : CodeId) (k : ℕ) → Contains (free p code) k → IsUsed p code k
unfolding free
free-used p code k h = used-within (length p) p code k h

pub owners_have_free : OwnersHaveFree
owners_have_free p code c k is at h =
    subst (λ (ks : List ℕ). Contains ks k) (sym (free_unfolds p code is)) (of-bodies (free p) (stmt_at p code) c k at h)

pub names_are_free : NamesAreFree
names_are_free p code k is h =
    subst (λ (ks : List ℕ). Contains ks k) (sym (free_unfolds p code is)) (of-names (free p) (stmt_at p code) k h)

used-free : (p : List Stmt) {code : CodeId} {k : ℕ} → IsProgram p → IsUsed p code k → Contains (free p code) k
used-free p {code} {k} is (itself h) = names_are_free p code k is h
used-free p {code} {k} is (within c at u) = owners_have_free p code c k is at (used-free p is u)

pub free_is_used : FreeIsUsed
free_is_used p code k is = (free-used p code k, used-free p is)

pub programs_are_closed : ProgramsAreClosed
programs_are_closed p k is u = none k (subst (λ (ks : List ℕ). Contains ks k) is.closed (used-free p is u))
