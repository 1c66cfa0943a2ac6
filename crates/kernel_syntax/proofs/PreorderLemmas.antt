-- A table in preorder whose statements are within their limits is a program.
use Rattle.std.proofs.Common.{arith, ◌≡◌, ◌∙◌, sym, ap, subst, refl, ℕ, zero, suc, ◌+◌, ◌<◌, ◌≤◌, ◌↔◌, List, [], ◌∷◌, ◌++◌, map, drop, length, length-append, append_assoc, Some}
use Rattle.std.specs.Prelude.{slice_get, unwrap_or}
use Rattle.tree_node.specs.declared.names.CodeId.{CodeId}
use Rattle.tree_node.specs.Each.{Each}
use Rattle.kernel_syntax.specs.declared.preorder.Body.{Body}
use Rattle.kernel_syntax.specs.declared.stmt.Pattern.{Pattern}
use Rattle.kernel_syntax.specs.declared.stmt.Pattern.TheVariants as pattern
use Rattle.kernel_syntax.specs.declared.stmt.Stmt.{Stmt}
use Rattle.kernel_syntax.specs.declared.stmt.Stmt.TheVariants as stmt
use Rattle.kernel_syntax.specs.Scopes.{stmt_at, bodies_of, scopes_of, bare_scope, named_positions, features_in}
use Rattle.kernel_syntax.specs.Free.{with_positions, without_declared, free_in_each, free_of, free}
use Rattle.kernel_syntax.specs.Texts.{HasTexts}
use Rattle.kernel_syntax.specs.Preorder.{sequence_body, bodies_in, DeclaresBehind, IsBody, AreBodies, HasRoom, whole_program, IsInPreorder}
use Rattle.kernel_syntax.specs.Program.{IsPattern, IsStmt, IsProgram}
use Rattle.kernel_syntax.proofs.Below.{Below, all_below, without_below, still_below, none_below}
use Rattle.kernel_syntax.proofs.FreeLemmas.{GoesOn, StandBehind, go_on, unfolds}
use Rattle.tree_node.proofs.EnvLemmas.{each_more}
use Rattle.tree_node.proofs.EachLemmas.{each_append}

pub each_left : {X : Type 0} (P : X → Type 0) (xs ys : List X) → Each P (xs ++ ys) → Each P xs
each_left P [] ys h = tt
each_left P (x ∷ xs) ys h = (h.0, each_left P xs ys h.1)

pub each_right : {X : Type 0} (P : X → Type 0) (xs ys : List X) → Each P (xs ++ ys) → Each P ys
each_right P [] ys h = h
each_right P (x ∷ xs) ys h = each_right P xs ys h.1

-- ---- bodies stand behind their owners

in_sequence : (P : CodeId → Type 0) (b : Body) (cs : List CodeId) → Each (λ (c : Body). P c.code) (map (sequence_body b) cs) → Each P cs
in_sequence P b [] h = tt
in_sequence P b (c ∷ cs) h = (h.0, in_sequence P b cs h.1)

-- what holds of the numbers of the bodies that are to come holds of those that the statement has
numbers_of : (P : CodeId → Type 0) (b : Body) (st : Stmt) → Each (λ (c : Body). P c.code) (bodies_in b st) → Each P (bodies_of st)
numbers_of P b (stmt.Seq bodies) h = in_sequence P b bodies h
numbers_of P b stmt.Skip h = tt
numbers_of P b (stmt.Local first count body) h = h
numbers_of P b (stmt.TellVar left right) h = tt
numbers_of P b (stmt.TellInt left value) h = tt
numbers_of P b (stmt.TellAtom left text) h = tt
numbers_of P b (stmt.TellRec left label fields) h = tt
numbers_of P b (stmt.TellProc left first count body) h = h
numbers_of P b (stmt.Calc left op x y) h = tt
numbers_of P b (stmt.Test left op x y) h = tt
numbers_of P b (stmt.Select left source by) h = tt
numbers_of P b (stmt.If subject chosen other) h = h
numbers_of P b (stmt.Case subject pattern first chosen other) h = h
numbers_of P b (stmt.Call callee args) h = tt
numbers_of P b (stmt.Browse x) h = tt
numbers_of P b (stmt.Wait x) h = tt
numbers_of P b (stmt.NewCell content cell) h = tt
numbers_of P b (stmt.Exchange cell old new) h = tt
numbers_of P b (stmt.NewPort stream port) h = tt
numbers_of P b (stmt.Send port value) h = tt
numbers_of P b (stmt.NewCellAt content cell place) h = tt
numbers_of P b (stmt.Thread at body) h = h
numbers_of P b (stmt.Try body first handler) h = h
numbers_of P b (stmt.Raise x) h = tt

-- the number is among those of the table from k on
abbrev IsAmong : ℕ → ℕ → CodeId → Type 0
IsAmong k hi c = (k ≤ c.0) × (c.0 < hi)

are_among : (k hi : ℕ) (bs : List Body) (sts : List Stmt) → k + length sts ≡ hi → AreBodies k bs sts → Each (λ (b : Body). IsAmong k hi b.code) bs
are_among k hi [] [] e h = tt
are_among k hi [] (st ∷ sts) e h = absurd h
are_among k hi (b ∷ bs) [] e h = absurd h
are_among k hi (b ∷ bs) (st ∷ sts) e h =
    let at = h.0 in
    let more = are_among (k + 1) hi (bodies_in b st ++ bs) sts (omega arith) h.2 in
    ((omega arith, omega arith), each_more _ (λ (c : Body). IsAmong k hi c.code) bs (λ c g. let low = g.0 in (omega arith, g.1)) (each_right _ (bodies_in b st) bs more))

stand_behind : (k hi : ℕ) (bs : List Body) (sts : List Stmt) → k + length sts ≡ hi → AreBodies k bs sts
    → (i : ℕ) (st : Stmt) → slice_get sts i ≡ Some st → Each (λ (c : CodeId). (k + i < c.0) × (c.0 < hi)) (bodies_of st)
stand_behind k hi [] [] e h i st at = absurd cc
stand_behind k hi [] (row ∷ sts) e h i st at = absurd h
stand_behind k hi (b ∷ bs) [] e h i st at = absurd h
stand_behind k hi (b ∷ bs) (row ∷ sts) e h zero st at =
    let same : row ≡ st = cc in
    let more = are_among (k + 1) hi (bodies_in b row ++ bs) sts (omega arith) h.2 in
    let here = numbers_of (λ (c : CodeId). IsAmong (k + 1) hi c) b row (each_left _ (bodies_in b row) bs more) in
    subst (λ (s : Stmt). Each (λ (c : CodeId). (k + 0 < c.0) × (c.0 < hi)) (bodies_of s)) same
    (each_more _ (λ (c : CodeId). (k + 0 < c.0) × (c.0 < hi)) (bodies_of row) (λ c g. let low = g.0 in (omega arith, g.1)) here)
stand_behind k hi (b ∷ bs) (row ∷ sts) e h (suc i) st at =
    let next : k + 1 + i ≡ k + suc i = omega arith in
    subst (λ (n : ℕ). Each (λ (c : CodeId). (n < c.0) × (c.0 < hi)) (bodies_of st)) next (stand_behind (k + 1) hi (bodies_in b row ++ bs) sts (omega arith) h.2 i st at)

pub behind : (p : List Stmt) → IsInPreorder p → StandBehind p
behind p order i st at =
    let z : 0 + i ≡ i = omega arith in
    subst (λ (n : ℕ). Each (λ (c : CodeId). (n < c.0) × (c.0 < length p)) (bodies_of st)) z (stand_behind 0 (length p) (whole_program ∷ []) p (omega arith) order i st at)

-- ---- what is free is declared around

-- the free positions of a body are declared around it
abbrev IsClosed : (CodeId → List ℕ) → Body → Type 0
IsClosed inner b = Below b.around (inner b.code)

undeclared : (inner : CodeId → List ℕ) (n : ℕ) (js : List ℕ) (c : CodeId) → Below n js → Below n (inner c) → Below n (with_positions js (without_declared 0 0 (inner c)))
undeclared inner n js c p q = all_below n js (without_declared 0 0 (inner c)) p (still_below n 0 0 (inner c) q)

declared : (inner : CodeId → List ℕ) (n first count : ℕ) (c : CodeId) → first ≡ n → Below (n + count) (inner c) → Below n (with_positions [] (without_declared first count (inner c)))
declared inner n first count c e q =
    let at : Below n (without_declared n count (inner c)) = without_below n count (inner c) q in
    all_below n [] (without_declared first count (inner c)) tt (subst (λ (m : ℕ). Below n (without_declared m count (inner c))) (sym e) at)

sequence_closed : (inner : CodeId → List ℕ) (b : Body) (js : List ℕ) (cs : List CodeId) → Below b.around js → Each (IsClosed inner) (map (sequence_body b) cs) → Below b.around (free_in_each inner js (map bare_scope cs))
sequence_closed inner b js [] p h = p
sequence_closed inner b js (c ∷ cs) p h =
    sequence_closed inner b (with_positions js (without_declared 0 0 (inner c))) cs (undeclared inner b.around js c p h.0) h.1

bodies_closed : (inner : CodeId → List ℕ) (b : Body) (st : Stmt) → DeclaresBehind b.around st → Each (IsClosed inner) (bodies_in b st) → Below b.around (free_in_each inner [] (scopes_of st))
bodies_closed inner b (stmt.Seq bodies) d h = sequence_closed inner b [] bodies tt h
bodies_closed inner b stmt.Skip d h = tt
bodies_closed inner b (stmt.Local first count body) d h = declared inner b.around first count body d h.0
bodies_closed inner b (stmt.TellVar left right) d h = tt
bodies_closed inner b (stmt.TellInt left value) d h = tt
bodies_closed inner b (stmt.TellAtom left text) d h = tt
bodies_closed inner b (stmt.TellRec left label fields) d h = tt
bodies_closed inner b (stmt.TellProc left first count body) d h = declared inner b.around first count body d h.0
bodies_closed inner b (stmt.Calc left op x y) d h = tt
bodies_closed inner b (stmt.Test left op x y) d h = tt
bodies_closed inner b (stmt.Select left source by) d h = tt
bodies_closed inner b (stmt.If subject chosen other) d h =
    undeclared inner b.around _ other (undeclared inner b.around [] chosen tt h.0) h.1.0
bodies_closed inner b (stmt.Case subject pattern first chosen other) d h =
    undeclared inner b.around _ other (declared inner b.around first (length (features_in pattern)) chosen d h.0) h.1.0
bodies_closed inner b (stmt.Call callee args) d h = tt
bodies_closed inner b (stmt.Browse x) d h = tt
bodies_closed inner b (stmt.Wait x) d h = tt
bodies_closed inner b (stmt.NewCell content cell) d h = tt
bodies_closed inner b (stmt.Exchange cell old new) d h = tt
bodies_closed inner b (stmt.NewPort stream port) d h = tt
bodies_closed inner b (stmt.Send port value) d h = tt
bodies_closed inner b (stmt.NewCellAt content cell place) d h = tt
bodies_closed inner b (stmt.Thread at body) d h = undeclared inner b.around [] body tt h.0
bodies_closed inner b (stmt.Try body first handler) d h =
    let at : Below b.around (without_declared b.around 1 (inner handler)) = without_below b.around 1 (inner handler) h.1.0 in
    all_below b.around _ (without_declared first 1 (inner handler)) (undeclared inner b.around [] body tt h.0)
    (subst (λ (m : ℕ). Below b.around (without_declared m 1 (inner handler))) (sym d) at)
bodies_closed inner b (stmt.Raise x) d h = tt

pub stmt_here : (pre sts : List Stmt) (st : Stmt) → slice_get (pre ++ st ∷ sts) (length pre) ≡ Some st
stmt_here [] sts st = refl
stmt_here (x ∷ pre) sts st = stmt_here pre sts st

are_closed : (p : List Stmt) → GoesOn p → (pre : List Stmt) (k : ℕ) (bs : List Body) (sts : List Stmt) → p ≡ pre ++ sts → length pre ≡ k → AreBodies k bs sts → Each (IsClosed (free p)) bs
are_closed p on pre k [] sts e at h = tt
are_closed p on pre k (b ∷ bs) [] e at h = absurd h
are_closed p on pre k (b ∷ bs) (st ∷ sts) e at h =
    let more = are_closed p on (pre ++ st ∷ []) (k + 1) (bodies_in b st ++ bs) sts (e ∙ sym (append_assoc pre (st ∷ []) sts)) (omega (arith, at, length-append pre (st ∷ []))) h.2 in
    let number : length pre ≡ b.code.0 = at ∙ sym h.0 in
    let found : slice_get p b.code.0 ≡ Some st = rw (e, ← number) (stmt_here pre sts st) in
    let same : stmt_at p b.code ≡ st = ap (λ o. unwrap_or o stmt.Skip) found in
    let is : free p b.code ≡ free_of (free p) st = unfolds p on b.code ∙ ap (free_of (free p)) same in
    let inner = bodies_closed (free p) b st h.1.declares (each_left _ (bodies_in b st) bs more) in
    (subst (Below b.around) (sym is) (all_below b.around (free_in_each (free p) [] (scopes_of st)) (named_positions st) inner h.1.names), each_right _ (bodies_in b st) bs more)

nothing_free : (p : List Stmt) → IsInPreorder p → free p (record { 0 = 0 }) ≡ []
nothing_free p order = none_below _ (are_closed p (go_on p (behind p order)) [] 0 (whole_program ∷ []) p refl refl order).0

-- ---- positions are small

pub pattern_few : (p : Pattern) → IsPattern p → length (features_in p) ≤ 64
pattern_few (pattern.Int value) is = omega arith
pattern_few (pattern.Atom text) is = omega arith
pattern_few (pattern.Rec label features) is = is.1

pub bodies_room : (b : Body) (st : Stmt) → HasRoom b → IsStmt st → 1 ≤ b.levels → Each HasRoom (bodies_in b st)
bodies_room b (stmt.Seq bodies) room limits level = sequence bodies
  where
    sequence : (cs : List CodeId) → Each HasRoom (map (sequence_body b) cs)
    sequence [] = tt
    sequence (c ∷ cs) = (room, sequence cs)
bodies_room b stmt.Skip room limits level = tt
bodies_room b (stmt.Local first count body) room limits level = (omega (arith, limits.1, room), tt)
bodies_room b (stmt.TellVar left right) room limits level = tt
bodies_room b (stmt.TellInt left value) room limits level = tt
bodies_room b (stmt.TellAtom left text) room limits level = tt
bodies_room b (stmt.TellRec left label fields) room limits level = tt
bodies_room b (stmt.TellProc left first count body) room limits level = (omega (arith, limits.0, room), tt)
bodies_room b (stmt.Calc left op x y) room limits level = tt
bodies_room b (stmt.Test left op x y) room limits level = tt
bodies_room b (stmt.Select left source by) room limits level = tt
bodies_room b (stmt.If subject chosen other) room limits level = (omega (arith, room), (omega (arith, room), tt))
bodies_room b (stmt.Case subject p first chosen other) room limits level = (omega (arith, pattern_few p limits.0, room), (omega (arith, room), tt))
bodies_room b (stmt.Call callee args) room limits level = tt
bodies_room b (stmt.Browse x) room limits level = tt
bodies_room b (stmt.Wait x) room limits level = tt
bodies_room b (stmt.NewCell content cell) room limits level = tt
bodies_room b (stmt.Exchange cell old new) room limits level = tt
bodies_room b (stmt.NewPort stream port) room limits level = tt
bodies_room b (stmt.Send port value) room limits level = tt
bodies_room b (stmt.NewCellAt content cell place) room limits level = tt
bodies_room b (stmt.Thread at body) room limits level = (omega (arith, room), tt)
bodies_room b (stmt.Try body first handler) room limits level = (omega (arith, room), (omega (arith, room), tt))
bodies_room b (stmt.Raise x) room limits level = tt

-- a statement names positions below 12,800
abbrev pub NamesFew : Stmt → Type 0
NamesFew st = Below 12800 (named_positions st)

pub names_few : (k : ℕ) (bs : List Body) (sts : List Stmt) → Each IsStmt sts → Each HasRoom bs → AreBodies k bs sts → Each NamesFew sts
names_few k [] [] limits room h = tt
names_few k [] (st ∷ sts) limits room h = absurd h
names_few k (b ∷ bs) [] limits room h = absurd h
names_few k (b ∷ bs) (st ∷ sts) limits room h = (
  each_more _ (λ (j : ℕ). j < 12800) (named_positions st) (λ j low. omega (arith, low, room.0)) h.1.names,
  names_few (k + 1) (bodies_in b st ++ bs) sts limits.1 (each_append HasRoom (bodies_in b st) bs (bodies_room b st room.0 limits.0 h.1.level) room.1) h.2,
)

-- ---- one body more of the walk

pub rest_of : (P : Stmt → Type 0) (p : List Stmt) (k : ℕ) (st : Stmt) → drop k p ≡ st ∷ drop (k + 1) p → Each P (drop k p) → P st × Each P (drop (k + 1) p)
rest_of P p k st e h = subst (Each P) e h

pub room_behind : (b : Body) (bs coming next : List Body) (st : Stmt) → coming ≡ b ∷ bs → next ≡ bodies_in b st ++ bs → IsStmt st → IsBody b st → Each HasRoom coming → Each HasRoom next
room_behind b bs coming next st e f limits is room =
    let h : Each HasRoom (b ∷ bs) = subst (Each HasRoom) e room in
    rw f (each_append HasRoom (bodies_in b st) bs (bodies_room b st h.0 limits is.level) h.1)

pub goes_behind : (p : List Stmt) (k : ℕ) (b : Body) (bs coming next : List Body) (st : Stmt) → drop k p ≡ st ∷ drop (k + 1) p → coming ≡ b ∷ bs → next ≡ bodies_in b st ++ bs → b.code.0 ≡ k → IsBody b st
    → (AreBodies k coming (drop k p) ↔ IsInPreorder p) → (AreBodies (k + 1) next (drop (k + 1) p) ↔ IsInPreorder p)
goes_behind p k b bs coming next st d e f number is ahead =
    let same : AreBodies k (b ∷ bs) (drop k p) ↔ IsInPreorder p = subst (λ (cs : List Body). AreBodies k cs (drop k p) ↔ IsInPreorder p) e ahead in
    let here : AreBodies k (b ∷ bs) (st ∷ drop (k + 1) p) ↔ IsInPreorder p = subst (λ (sts : List Stmt). AreBodies k (b ∷ bs) sts ↔ IsInPreorder p) d same in
    subst (λ (cs : List Body). AreBodies (k + 1) cs (drop (k + 1) p) ↔ IsInPreorder p) (sym f) (λ h. here.0 (number, is, h), λ h. (here.1 h).2)

some_stmt : (p : List Stmt) → IsInPreorder p → 0 < length p
some_stmt [] order = absurd order
some_stmt (st ∷ sts) order = omega arith

pub program_of : (p : List Stmt) → Each IsStmt p → Each HasTexts p → IsInPreorder p → IsProgram p
program_of p stmts texts order = record {
  stmts = stmts;
  texts = texts;
  order = order;
  some = some_stmt p order;
  bodies = behind p order;
  closed = nothing_free p order;
}
