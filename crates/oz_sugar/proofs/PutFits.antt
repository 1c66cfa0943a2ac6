-- What a tree stands for fits, where it is not too deep.
use Rattle.std.proofs.Common.{◌≡◌, ◌∙◌, ℕ, zero, suc, ◌+◌, ◌-◌, ◌<◌, ◌≤◌, List, [], ◌∷◌, ◌++◌, length, map, Bool, true, false, cond, Option, Some, None, refl, sym, ap, subst, arith, length-append}
use Rattle.std.specs.Prelude.{slice_index, nat_lt}
use Rattle.std.proofs.lemmas.Bool.{ltb-false}
use Rattle.tree_node.specs.declared.node.Feature.{Feature}
use Rattle.tree_node.specs.Each.{Each}
use Rattle.tree_node.proofs.EachLemmas.{each_append}
use Rattle.kernel_syntax.specs.declared.stmt.Stmt.{Stmt}
use Rattle.kernel_syntax.specs.declared.stmt.Stmt.TheVariants as stmt
use Rattle.kernel_syntax.specs.declared.stmt.Selector.TheVariants as selector
use Rattle.kernel_syntax.specs.Scopes.{named_positions, features_in}
use Rattle.kernel_syntax.specs.Program.{AreFeatures, IsStmt, IsProgram}
use Rattle.kernel_syntax.specs.Texts.{IsFeature, HasTexts}
use Rattle.kernel_syntax.specs.declared.built_in.BuiltIn.{BuiltIn}
use Rattle.kernel_syntax.specs.declared.built_in.BuiltIn.TheVariants as built
use Rattle.kernel_syntax.specs.BuiltIns.{arity_of}
use Rattle.oz_grammar.specs.Table.{built_in_row}
use Rattle.kernel_syntax.specs.declared.sugar.Operation.{Operation}
use Rattle.kernel_syntax.specs.declared.sugar.Operation.TheVariants as operation
use Rattle.kernel_syntax.specs.declared.sugar.Action.{Action}
use Rattle.kernel_syntax.specs.declared.sugar.Action.TheVariants as action
use Rattle.kernel_syntax.specs.declared.sugar.Field.{Field}
use Rattle.kernel_syntax.specs.declared.sugar.Field.TheVariants as field
use Rattle.kernel_syntax.specs.Sugar.{Value, Variable, Integer, Atom, Record, Apply, Proc, Fun, If, Case, Brackets, Values, no_values, value_and, ValueClauses, no_clauses, clause_and, Statement, Skip, Tell, Acts, Local, Thread, IfStatement, CaseStatement, Try, Finally, Statements, no_statements, statement_and, Clauses, no_cases, case_and, count_values, count_value_clauses, count_clauses, left_of, new_of, new_in, by_kind}
use Rattle.sugar_rows.specs.Codes.{Code, Leaf, Codes, One, Then, follow}
use Rattle.sugar_rows.specs.Codes as code
use Rattle.oz_sugar.proofs.Programs.{codes_are_programs}
use Rattle.sugar_rows.specs.Put.{Places, expanded_rows, place, positions_from, declare, field_place, slot_places, operation_row, action_row, held, under, record_code, finally_code, put, put_all, put_fields, put_clauses, put_statement, put_statements, put_others, put_cases, put_branch}
use Rattle.oz_sugar.specs.Deep.{or_else, too_deep, deep_value, deep_parts, deep_fields, deep_clauses, deep_statement, deep_statements, deep_cases, deep}
use Rattle.oz_sugar.specs.CodeLimits.{IsLeaf, FitsCode, FitsCodes}
use Rattle.kernel_syntax.specs.SugarLimits.{FitsField, FitsOperation, FitsAction, FitsValue, FitsValues, FitsValueClauses, FitsStatement, FitsStatements, FitsOthers, FitsClauses}

-- ---- depths

deep_by : (b : Bool) (left : ℕ) (behind : Option ℕ) → cond b (Some left) behind ≡ None → (b ≡ false) × (behind ≡ None)
deep_by true left behind e = absurd cc
deep_by false left behind e = (refl, e)

pub not_deep : (depth left : ℕ) (behind : Option ℕ) → too_deep depth left behind ≡ None → (depth ≤ 200) × (behind ≡ None)
not_deep depth left behind e = let h = deep_by (nat_lt 200 depth) left behind e in let l : nat_lt 200 depth ≡ false = h.0 in (ltb-false 200 depth l, h.1)

pub none_of_two : (a b : Option ℕ) → or_else a b ≡ None → (a ≡ None) × (b ≡ None)
none_of_two None b e = (refl, e)
none_of_two (Some left) b e = absurd cc

-- ---- positions

abbrev pub Around : ℕ → Places → Type 0
Around n places = Each (λ (j : ℕ). j < n) places

pub around_more : (n m : ℕ) (places : Places) → n ≤ m → Around n places → Around m places
around_more n m [] le h = tt
around_more n m (k ∷ places) le h = let l = h.0 in (omega (arith, l, le), around_more n m places le h.1)

pub place_below : (n : ℕ) (places : Places) (k : ℕ) → Around n places → k < length places → place places k < n
place_below n [] k h lt = absurd (omega arith)
place_below n (j ∷ places) zero h lt = h.0
place_below n (j ∷ places) (suc k) h lt = place_below n places k h.1 (omega arith)

positions_below : (n count m : ℕ) → n + count ≤ m → Around m (positions_from n count)
positions_below n zero m le = tt
positions_below n (suc count) m le = (omega arith, positions_below (n + 1) count m (omega arith))

positions_count : (n count : ℕ) → length (positions_from n count) ≡ count
positions_count n zero = refl
positions_count n (suc count) = ap suc (positions_count (n + 1) count)

pub declare_around : (n count : ℕ) (places : Places) → Around n places → Around (n + count) (declare places n count)
declare_around n count places h = each_append _ places (positions_from n count) (around_more n (n + count) places (omega arith) h) (positions_below n count (n + count) (omega arith))

pub declare_count : (n count : ℕ) (places : Places) → length (declare places n count) ≡ length places + count
declare_count n count places = let c = positions_count n count in length-append places (positions_from n count) ∙ ap (λ (m : ℕ). length places + m) c

-- ---- leaves

-- a row that fits with d levels under n declarations
abbrev pub FitsLeaf : Stmt → ℕ → Type 0
FitsLeaf row n = IsLeaf row × IsStmt row × HasTexts row × Around n (named_positions row)

pub leaf_fits : (row : Stmt) (d n : ℕ) → 1 ≤ d → FitsLeaf row n → FitsCode (Leaf row) d n
leaf_fits row d n level f = (level, f.0, f.1, f.2, f.3)

index_below : (n : ℕ) (ys : List ℕ) (k : ℕ) → Around n ys → k < length ys → slice_index ys k < n
index_below n ys k h lt = place_below n ys k h lt

built_in_fits : (b : BuiltIn) (ys : List ℕ) (n : ℕ) → length ys ≡ arity_of b → Around n ys → FitsLeaf (built_in_row b ys) n
built_in_fits built.Browse ys n e h = (tt, tt, tt, (index_below n ys 0 h (omega arith), tt))
built_in_fits built.Wait ys n e h = (tt, tt, tt, (index_below n ys 0 h (omega arith), tt))
built_in_fits built.NewCell ys n e h = (tt, tt, tt, (index_below n ys 0 h (omega arith), (index_below n ys 1 h (omega arith), tt)))
built_in_fits built.Exchange ys n e h = (tt, tt, tt, (index_below n ys 0 h (omega arith), (index_below n ys 1 h (omega arith), (index_below n ys 2 h (omega arith), tt))))
built_in_fits built.NewPort ys n e h = (tt, tt, tt, (index_below n ys 0 h (omega arith), (index_below n ys 1 h (omega arith), tt)))
built_in_fits built.Send ys n e h = (tt, tt, tt, (index_below n ys 0 h (omega arith), (index_below n ys 1 h (omega arith), tt)))
built_in_fits built.NewCellAt ys n e h = (tt, tt, tt, (index_below n ys 0 h (omega arith), (index_below n ys 1 h (omega arith), (index_below n ys 2 h (omega arith), tt))))

one_more : (n x : ℕ) (ys : List ℕ) → Around n ys → x < n → Around n (ys ++ x ∷ [])
one_more n x ys h lt = each_append _ ys (x ∷ []) h (lt, tt)

pub operation_fits : (f : Operation) (places : Places) (ys : List ℕ) (count n x : ℕ) → FitsOperation f count (length places) → length ys ≡ count → Around n places → Around n ys → x < n → FitsLeaf (operation_row places f ys x) n
operation_fits (operation.Calc o) places ys count n x f e ps h lt = (tt, tt, tt, (lt, (index_below n ys 0 h (omega (arith, f, e)), (index_below n ys 1 h (omega (arith, f, e)), tt))))
operation_fits (operation.Test o) places ys count n x f e ps h lt = (tt, tt, tt, (lt, (index_below n ys 0 h (omega (arith, f, e)), (index_below n ys 1 h (omega (arith, f, e)), tt))))
operation_fits (operation.Select (selector.Var k)) places ys count n x f e ps h lt = let c = f.0 in (tt, tt, tt, (lt, (index_below n ys 0 h (omega (arith, c, e)), (place_below n places k ps f.1, tt))))
operation_fits (operation.Select (selector.Feature g)) places ys count n x f e ps h lt = let c = f.0 in (tt, tt, f.1, (lt, (index_below n ys 0 h (omega (arith, c, e)), tt)))
operation_fits (operation.Call p) places ys count n x f e ps h lt =
    let c = f.1 in let l = length-append ys (x ∷ []) in (tt, omega (arith, c, e, l), tt, (place_below n places p ps f.0, one_more n x ys h lt))
operation_fits (operation.BuiltIn b) places ys count n x f e ps h lt =
    let l = length-append ys (x ∷ []) in built_in_fits b (ys ++ x ∷ []) n (l ∙ ap (λ (m : ℕ). m + 1) e ∙ f) (one_more n x ys h lt)

pub action_fits : (a : Action) (places : Places) (ys : List ℕ) (count n : ℕ) → FitsAction a count (length places) → length ys ≡ count → Around n places → Around n ys → FitsLeaf (action_row places a ys) n
action_fits (action.Call p) places ys count n f e ps h = let c = f.1 in (tt, omega (arith, c, e), tt, (place_below n places p ps f.0, h))
action_fits (action.BuiltIn b) places ys count n f e ps h = built_in_fits b ys n (e ∙ f) h
action_fits action.Raise places ys count n f e ps h = (tt, tt, tt, (index_below n ys 0 h (omega (arith, f, e)), tt))

-- ---- parts

held_place : Value → Places → ℕ → ℕ
held_place (Variable left k) places n = place places k
held_place v places n = n

less : (e : ℕ) → 201 - e - 1 ≡ 201 - (e + 1)
less e = omega arith

-- a part that is no variable
new_fits : (p g : Code) (e n : ℕ) → e ≤ 200 → FitsCode p (201 - (e + 1)) (n + 1) → FitsCode g (201 - (e + 1)) (n + 1) → FitsCode (code.Local 1 (Then p (One g))) (201 - e) n
new_fits p g e n le hp hg = (omega arith, omega arith, omega arith, (subst (λ (d : ℕ). FitsCode p d (n + 1)) (sym (less e)) hp, subst (λ (d : ℕ). FitsCode g d (n + 1)) (sym (less e)) hg))

-- what holds of a part that is no variable
abbrev IfNew : Value → Type 0 → Type 0
IfNew (Variable left k) P = Unit {0}
IfNew v P = P

new_part : (v : Value) (P : Type 0) (o : Option ℕ) → by_kind v None o ≡ None → (o ≡ None → P) → IfNew v P
new_part (Variable left k) P o e h = tt
new_part (Integer left i) P o e h = h e
new_part (Atom left a) P o e h = h e
new_part (Record left a slots vs) P o e h = h e
new_part (Apply left operation vs) P o e h = h e
new_part (Proc left count q) P o e h = h e
new_part (Fun left count v) P o e h = h e
new_part (If left c a b) P o e h = h e
new_part (Case left c cs b) P o e h = h e
new_part (Brackets left v) P o e h = h e

-- a part, and what goes on with its position
held_fits : (v : Value) (places : Places) (n e : ℕ) (p : ℕ → ℕ → Code) (g : ℕ → ℕ → Code) → e ≤ 200 → IfNew v (FitsCode (p (n + 1) n) (201 - (e + 1)) (n + 1))
    → FitsCode (g (n + new_of v) (held_place v places n)) (201 - (e + new_of v)) (n + new_of v) → FitsCode (held v places p n g) (201 - e) n
unfolding held_place
held_fits (Variable left k) places n e p g le h f =
    let a : n + 0 ≡ n = omega arith in
    let b : e + 0 ≡ e = omega arith in
    subst (λ (m : ℕ). FitsCode (g m (place places k)) (201 - e) m) a (subst (λ (d : ℕ). FitsCode (g (n + 0) (place places k)) (201 - d) (n + 0)) b f)
held_fits (Integer left i) places n e p g le h f = new_fits (p (n + 1) n) (g (n + 1) n) e n le h f
held_fits (Atom left a) places n e p g le h f = new_fits (p (n + 1) n) (g (n + 1) n) e n le h f
held_fits (Record left a slots vs) places n e p g le h f = new_fits (p (n + 1) n) (g (n + 1) n) e n le h f
held_fits (Apply left operation vs) places n e p g le h f = new_fits (p (n + 1) n) (g (n + 1) n) e n le h f
held_fits (Proc left count q) places n e p g le h f = new_fits (p (n + 1) n) (g (n + 1) n) e n le h f
held_fits (Fun left count v) places n e p g le h f = new_fits (p (n + 1) n) (g (n + 1) n) e n le h f
held_fits (If left c a b) places n e p g le h f = new_fits (p (n + 1) n) (g (n + 1) n) e n le h f
held_fits (Case left c cs b) places n e p g le h f = new_fits (p (n + 1) n) (g (n + 1) n) e n le h f
held_fits (Brackets left v) places n e p g le h f = new_fits (p (n + 1) n) (g (n + 1) n) e n le h f

held_below : (v : Value) (places : Places) (n : ℕ) → FitsValue v (length places) → Around n places → held_place v places n < n + new_of v
unfolding held_place
held_below (Variable left k) places n f h = let l = place_below n places k h f in omega (arith, l)
held_below (Integer left i) places n f h = omega arith
held_below (Atom left a) places n f h = omega arith
held_below (Record left a slots vs) places n f h = omega arith
held_below (Apply left operation vs) places n f h = omega arith
held_below (Proc left count q) places n f h = omega arith
held_below (Fun left count v) places n f h = omega arith
held_below (If left c a b) places n f h = omega arith
held_below (Case left c cs b) places n f h = omega arith
held_below (Brackets left v) places n f h = omega arith

new_few : (v : Value) → new_of v ≤ 1
new_few (Variable left k) = omega arith
new_few (Integer left i) = omega arith
new_few (Atom left a) = omega arith
new_few (Record left a slots vs) = omega arith
new_few (Apply left operation vs) = omega arith
new_few (Proc left count q) = omega arith
new_few (Fun left count v) = omega arith
new_few (If left c a b) = omega arith
new_few (Case left c cs b) = omega arith
new_few (Brackets left v) = omega arith

-- ---- statements behind one another

follow_fits : (c : Code) (cs : List Code) (d n : ℕ) → FitsCode c d n → Each (λ (r : Code). FitsCode r d n) cs → FitsCodes (follow c cs) d n
follow_fits c [] d n f h = f
follow_fits c (r ∷ rs) d n f h = (f, follow_fits r rs d n h.0 h.1)

under_fits : (count : ℕ) (q : Codes) (e n : ℕ) → e + count ≤ 200 → FitsCodes q (201 - (e + count)) (n + count) → FitsCodes (under count q) (201 - e) n
under_fits zero q e n le f =
    let a : n + 0 ≡ n = omega arith in
    let b : e + 0 ≡ e = omega arith in
    subst (λ (m : ℕ). FitsCodes q (201 - e) m) a (subst (λ (d : ℕ). FitsCodes q (201 - d) (n + 0)) b f)
under_fits (suc count) q e n le f =
    let a : n + suc count ≡ n + 1 + count = omega arith in
    let b : e + suc count ≡ e + 1 + count = omega arith in
    let inner = under_fits count q (e + 1) (n + 1) (omega arith) (subst (λ (m : ℕ). FitsCodes q (201 - (e + 1 + count)) m) a (subst (λ (d : ℕ). FitsCodes q (201 - d) (n + suc count)) b f)) in
    (omega arith, omega arith, omega arith, subst (λ (d : ℕ). FitsCodes (under count q) d (n + 1)) (sym (less e)) inner)

-- ---- records

same_features : (places : Places) (n : ℕ) (slots : List (Feature × Field)) → map (λ (f : Feature × ℕ). f.0) (slot_places places n slots) ≡ map (λ (s : Feature × Field). s.0) slots
same_features places n [] = refl
same_features places n (s ∷ slots) = ap (λ (xs : List Feature). s.0 ∷ xs) (same_features places n slots)

field_below : (places : Places) (n count : ℕ) (p : Field) → Around n places → FitsField (length places) count p → field_place places n p < n + count
field_below places n count (field.Variable k) h f = let l = place_below n places k h f in omega (arith, l)
field_below places n count (field.Value i) h f = omega (arith, f)

slots_below : (places : Places) (n count : ℕ) (slots : List (Feature × Field)) → Around n places → Each (λ (s : Feature × Field). FitsField (length places) count s.1) slots → Around (n + count) (map (λ (f : Feature × ℕ). f.1) (slot_places places n slots))
slots_below places n count [] h f = tt
slots_below places n count (s ∷ slots) h f = (field_below places n count s.1 h f.0, slots_below places n count slots h f.1)

record_fits : (count e n : ℕ) (tell : Stmt) (cs : List Code) → e + count ≤ 200 → FitsLeaf tell (n + count) → Each (λ (r : Code). FitsCode r (201 - (e + count)) (n + count)) cs → FitsCode (record_code count (Leaf tell) cs) (201 - e) n
record_fits zero e n tell cs le f h =
    let a : n + 0 ≡ n = omega arith in leaf_fits tell (201 - e) n (omega arith) (subst (FitsLeaf tell) a f)
record_fits (suc count) e n tell cs le f h =
    let a : n + suc count ≡ n + 1 + count = omega arith in
    let b : e + suc count ≡ e + 1 + count = omega arith in
    let whole = follow_fits (Leaf tell) cs (201 - (e + suc count)) (n + suc count) (leaf_fits tell (201 - (e + suc count)) (n + suc count) (omega arith) f) h in
    let inner = under_fits count (follow (Leaf tell) cs) (e + 1) (n + 1) (omega arith) (subst (λ (m : ℕ). FitsCodes (follow (Leaf tell) cs) (201 - (e + 1 + count)) m) a (subst (λ (d : ℕ). FitsCodes (follow (Leaf tell) cs) (201 - d) (n + suc count)) b whole)) in
    (omega arith, omega arith, omega arith, subst (λ (d : ℕ). FitsCodes (under count (follow (Leaf tell) cs)) d (n + 1)) (sym (less e)) inner)

kind_each : (v : Value) (P : Code → Type 0) (c : Code) (cs ds : List Code) (o : Option ℕ) → by_kind v None o ≡ None → (new_of v ≡ 0 → Each P cs) → (new_of v ≡ 1 → o ≡ None → P c × Each P ds) → Each P (by_kind v cs (c ∷ ds))
kind_each (Variable left k) P c cs ds o e h g = h refl
kind_each (Integer left i) P c cs ds o e h g = g refl e
kind_each (Atom left a) P c cs ds o e h g = g refl e
kind_each (Record left a slots vs) P c cs ds o e h g = g refl e
kind_each (Apply left operation vs) P c cs ds o e h g = g refl e
kind_each (Proc left count q) P c cs ds o e h g = g refl e
kind_each (Fun left count v) P c cs ds o e h g = g refl e
kind_each (If left d a b) P c cs ds o e h g = g refl e
kind_each (Case left d cl b) P c cs ds o e h g = g refl e
kind_each (Brackets left v) P c cs ds o e h g = g refl e

one_deeper : (c : Code) (e n : ℕ) → FitsCode c (201 - (e + 1)) n → FitsCode c (201 - e - 1) n
one_deeper c e n f = subst (λ (d : ℕ). FitsCode c d n) (sym (less e)) f

all_deeper : (q : Codes) (e n : ℕ) → FitsCodes q (201 - (e + 1)) n → FitsCodes q (201 - e - 1) n
all_deeper q e n f = subst (λ (d : ℕ). FitsCodes q d n) (sym (less e)) f

tell_fits : (left : ℕ) (a : List ℕ) (slots : List (Feature × Field)) (vs : Values) (places : Places) (n x : ℕ) → FitsValue (Record left a slots vs) (length places) → Around n places → x < n → FitsLeaf (stmt.TellRec x a (slot_places places n slots)) (n + new_in vs)
tell_fits left a slots vs places n x f h lt =
    let same = sym (same_features places n slots) in
    (tt, subst AreFeatures same f.1, (f.0, subst (Each IsFeature) same f.2), (omega (arith, lt), slots_below places n (new_in vs) slots h f.3))

-- `finally`
finally_fits : (n e : ℕ) (u s : Codes) → e + 2 ≤ 200 → FitsCodes u (201 - (e + 2)) (n + 1) → FitsCodes s (201 - (e + 2)) (n + 1) → FitsCode (finally_code n u s) (201 - e) n
finally_fits n e u s le fu fs =
    let a : 201 - (e + 2) ≡ 201 - e - 1 - 1 = omega arith in
    let z : n + 1 ≡ n + 1 + 0 = omega arith in
    let level : 1 ≤ 201 - e - 1 - 1 = omega (arith, le) in (
      omega (arith, le),
      omega arith,
      omega arith,
      (
        (omega (arith, le), omega arith, omega arith, subst (λ (m : ℕ). FitsCodes u (201 - e - 1 - 1) m) z (subst (λ (d : ℕ). FitsCodes u d (n + 1)) a fu)),
        (
          (
            omega (arith, le),
            subst (λ (d : ℕ). FitsCodes s d (n + 1)) a fs,
            ((level, tt, omega arith, tt, (omega arith, tt)), (level, tt, tt, tt, (omega arith, tt))),
          ),
          (omega (arith, le), tt, omega arith, tt, (omega arith, tt)),
        ),
      ),
    )

mutual
  pub value_fits : (v : Value) (places : Places) (n x e at : ℕ) → FitsValue v (length places) → Around n places → x < n → deep_value v at e ≡ None → FitsCode (put v places n x) (201 - e) n
  value_fits (Variable left k) places n x e at f h lt deep = let u = not_deep e at None deep in let l = u.0 in leaf_fits (stmt.TellVar x (place places k)) (201 - e) n (omega (arith, l)) (tt, tt, tt, (lt, (place_below n places k h f, tt)))
  value_fits (Integer left i) places n x e at f h lt deep = let u = not_deep e at None deep in let l = u.0 in leaf_fits (stmt.TellInt x i) (201 - e) n (omega (arith, l)) (tt, tt, f, (lt, tt))
  value_fits (Atom left a) places n x e at f h lt deep = let u = not_deep e at None deep in let l = u.0 in leaf_fits (stmt.TellAtom x a) (201 - e) n (omega (arith, l)) (tt, tt, f, (lt, tt))
  value_fits (Record left a slots vs) places n x e at f h lt deep =
      let u = not_deep (e + new_in vs) at (deep_fields vs (e + new_in vs)) deep in
      record_fits (new_in vs) e n (stmt.TellRec x a (slot_places places n slots)) (put_fields vs places (n + new_in vs) n) u.0 (tell_fits left a slots vs places n x f h lt)
      (fields_fit vs places (n + new_in vs) n (e + new_in vs) f.4 (around_more n (n + new_in vs) places (omega arith) h) (omega arith) u.1)
  value_fits (Apply left operation vs) places n x e at f h lt deep =
      let u = not_deep (e + new_in vs) at (deep_parts vs e) deep in
      all_fits vs places n [] e (λ ys. operation_row places operation ys x) f.1 h tt u.0 u.1 (λ m zs le c z. operation_fits operation places zs (count_values vs) m x f.0 (omega (arith, c)) (around_more n m places le h) z (omega (arith, lt, le)))
  value_fits (Proc left count q) places n x e at f h lt deep =
      let u = not_deep e at (deep_statements q (e + 1)) deep in
      let l = u.0 in (
        omega (arith, l),
        lt,
        f.0,
        all_deeper (put_statements q (declare places n count) (n + count)) e (n + count)
            (statements_fit q (declare places n count) (n + count) (e + 1) (subst (FitsStatements q) (sym (declare_count n count places)) f.1) (declare_around n count places h) u.1),
      )
  value_fits (Fun left count v) places n x e at f h lt deep =
      let u = not_deep e at (deep_value v (left_of v) (e + 1)) deep in
      let l = u.0 in
      let few = f.0 in
      let a : n + count + 1 ≡ n + (count + 1) = omega arith in (
        omega (arith, l),
        lt,
        omega (arith, few),
        subst (λ (m : ℕ). FitsCode (put v (declare places n count) (n + count + 1) (n + count)) (201 - e - 1) m) a
            (one_deeper (put v (declare places n count) (n + count + 1) (n + count)) e (n + count + 1)
            (value_fits v (declare places n count) (n + count + 1) (n + count) (e + 1) (left_of v) (subst (FitsValue v) (sym (declare_count n count places)) f.1)
            (around_more (n + count) (n + count + 1) (declare places n count) (omega arith) (declare_around n count places h)) (omega arith) u.1)),
      )
  value_fits (If left c a b) places n x e at f h lt deep =
      let u = not_deep (e + new_of c) at (or_else (by_kind c None (deep_value c (left_of c) (e + 1))) (or_else (deep_value a (left_of a) (e + new_of c + 1)) (deep_value b (left_of b) (e + new_of c + 1)))) deep in
      let l = u.0 in
      let w = none_of_two (by_kind c None (deep_value c (left_of c) (e + 1))) (or_else (deep_value a (left_of a) (e + new_of c + 1)) (deep_value b (left_of b) (e + new_of c + 1))) u.1 in
      let z = none_of_two (deep_value a (left_of a) (e + new_of c + 1)) (deep_value b (left_of b) (e + new_of c + 1)) w.1 in
      let more = around_more n (n + new_of c) places (omega arith) h in
      held_fits c places n e (put c places) (λ m y. code.If y (One (put a places m x)) (One (put b places m x))) (omega (arith, l)) (new_part c (FitsCode (put c places (n + 1) n) (201 - (e + 1)) (n + 1)) (deep_value c (left_of c) (e + 1)) w.0
      (λ d. value_fits c places (n + 1) n (e + 1) (left_of c) f.0 (around_more n (n + 1) places (omega arith) h) (omega arith) d)) (
        omega (arith, l),
        held_below c places n f.0 h,
        one_deeper (put a places (n + new_of c) x) (e + new_of c) (n + new_of c) (value_fits a places (n + new_of c) x (e + new_of c + 1) (left_of a) f.1 more (omega (arith, lt)) z.0),
        one_deeper (put b places (n + new_of c) x) (e + new_of c) (n + new_of c) (value_fits b places (n + new_of c) x (e + new_of c + 1) (left_of b) f.2 more (omega (arith, lt)) z.1),
      )
  value_fits (Case left c cs b) places n x e at f h lt deep =
      let u = not_deep (e + new_of c + (count_value_clauses cs - 1)) at (or_else (by_kind c None (deep_value c (left_of c) (e + 1))) (or_else (deep_clauses cs (e + new_of c + 1)) (deep_value b (left_of b) (e + new_of c + count_value_clauses cs)))) deep in
      let l = u.0 in
      let w = none_of_two (by_kind c None (deep_value c (left_of c) (e + 1))) (or_else (deep_clauses cs (e + new_of c + 1)) (deep_value b (left_of b) (e + new_of c + count_value_clauses cs))) u.1 in
      let z = none_of_two (deep_clauses cs (e + new_of c + 1)) (deep_value b (left_of b) (e + new_of c + count_value_clauses cs)) w.1 in
      let more = around_more n (n + new_of c) places (omega arith) h in
      held_fits c places n e (put c places) (λ m y. put_clauses cs places m y x (put b places m x)) (omega (arith, l)) (new_part c (FitsCode (put c places (n + 1) n) (201 - (e + 1)) (n + 1)) (deep_value c (left_of c) (e + 1)) w.0
      (λ d. value_fits c places (n + 1) n (e + 1) (left_of c) f.0 (around_more n (n + 1) places (omega arith) h) (omega arith) d))
      (clauses_fit cs places (n + new_of c) (held_place c places n) x (e + new_of c) (put b places (n + new_of c) x) f.1 more (held_below c places n f.0 h) (omega (arith, lt)) (omega (arith, l)) z.0
      (value_fits b places (n + new_of c) x (e + new_of c + count_value_clauses cs) (left_of b) f.2 more (omega (arith, lt)) z.1))
  value_fits (Brackets left v) places n x e at f h lt deep = value_fits v places n x e at f h lt deep

  -- the parts of a list, and a row of their positions
  all_fits : (vs : Values) (places : Places) (n : ℕ) (ys : List ℕ) (e : ℕ) (row : List ℕ → Stmt) → FitsValues vs (length places) → Around n places → Around n ys → e + new_in vs ≤ 200 → deep_parts vs e ≡ None
      → ((m : ℕ) (zs : List ℕ) → n ≤ m → length zs ≡ length ys + count_values vs → Around m zs → FitsLeaf (row zs) m) → FitsCode (put_all vs places n ys (λ m zs. Leaf (row zs))) (201 - e) n
  all_fits no_values places n ys e row f h below le deep g = leaf_fits (row ys) (201 - e) n (omega (arith, le)) (g n ys (omega arith) (omega arith) below)
  all_fits (value_and v vs) places n ys e row f h below le deep g =
      let w = none_of_two (by_kind v None (deep_value v (left_of v) (e + 1))) (deep_parts vs (e + new_of v)) deep in
      let l = length-append ys (held_place v places n ∷ []) in
      held_fits v places n e (put v places) (λ m y. put_all vs places m (ys ++ y ∷ []) (λ k zs. Leaf (row zs))) (omega (arith, le))
      (new_part v (FitsCode (put v places (n + 1) n) (201 - (e + 1)) (n + 1)) (deep_value v (left_of v) (e + 1)) w.0
      (λ d. value_fits v places (n + 1) n (e + 1) (left_of v) f.0 (around_more n (n + 1) places (omega arith) h) (omega arith) d))
      (all_fits vs places (n + new_of v) (ys ++ held_place v places n ∷ []) (e + new_of v) row f.1 (around_more n (n + new_of v) places (omega arith) h)
      (each_append _ ys (held_place v places n ∷ []) (around_more n (n + new_of v) ys (omega arith) below) (held_below v places n f.0 h, tt)) (omega (arith, le)) w.1
      (λ m zs up c z. g m zs (omega (arith, up)) (omega (arith, c, l)) z))

  fields_fit : (vs : Values) (places : Places) (m i e : ℕ) → FitsValues vs (length places) → Around m places → i + new_in vs ≤ m → deep_fields vs e ≡ None → Each (λ (r : Code). FitsCode r (201 - e) m) (put_fields vs places m i)
  fields_fit no_values places m i e f h le deep = tt
  fields_fit (value_and v vs) places m i e f h le deep =
      let w = none_of_two (by_kind v None (deep_value v (left_of v) e)) (deep_fields vs e) deep in
      kind_each v (λ (r : Code). FitsCode r (201 - e) m) (put v places m i) (put_fields vs places m i) (put_fields vs places m (i + 1)) (deep_value v (left_of v) e) w.0
      (λ old. fields_fit vs places m i e f.1 h (omega (arith, le, old)) w.1)
      (λ new d. (value_fits v places m i e (left_of v) f.0 h (omega (arith, le, new)) d, fields_fit vs places m (i + 1) e f.1 h (omega (arith, le, new)) w.1))

  clauses_fit : (cs : ValueClauses) (places : Places) (n y x e : ℕ) (other : Code) → FitsValueClauses cs (length places) → Around n places → y < n → x < n → e + count_value_clauses cs ≤ 201 → deep_clauses cs (e + 1) ≡ None
      → FitsCode other (201 - (e + count_value_clauses cs)) n → FitsCode (put_clauses cs places n y x other) (201 - e) n
  clauses_fit no_clauses places n y x e other f h yn xn le deep g = let b : e + 0 ≡ e = omega arith in subst (λ (d : ℕ). FitsCode other (201 - d) n) b g
  clauses_fit (clause_and p v cs) places n y x e other f h yn xn le deep g =
      let w = none_of_two (deep_value v (left_of v) (e + 1)) (deep_clauses cs (e + 1 + 1)) deep in
      let b : e + suc (count_value_clauses cs) ≡ e + 1 + count_value_clauses cs = omega arith in
      let k = length (features_in p) in (
        omega (arith, le),
        yn,
        f.0.0,
        f.0.1,
        f.0.2,
        one_deeper (put v (declare places n k) (n + k) x) e (n + k)
            (value_fits v (declare places n k) (n + k) x (e + 1) (left_of v) (subst (FitsValue v) (sym (declare_count n k places)) f.1) (declare_around n k places h) (omega (arith, xn)) w.0),
        one_deeper (put_clauses cs places n y x other) e n
            (clauses_fit cs places n y x (e + 1) other f.2 h yn xn (omega (arith, le)) w.1 (subst (λ (d : ℕ). FitsCode other (201 - d) n) b g)),
      )

  pub statement_fits : (s : Statement) (places : Places) (n e : ℕ) → FitsStatement s (length places) → Around n places → deep_statement s e ≡ None → FitsCode (put_statement s places n) (201 - e) n
  statement_fits (Skip left) places n e f h deep = let u = not_deep e left None deep in let l = u.0 in leaf_fits stmt.Skip (201 - e) n (omega (arith, l)) (tt, tt, tt, tt)
  statement_fits (Tell left x v) places n e f h deep = value_fits v places n (place places x) e left f.1 h (place_below n places x h f.0) deep
  statement_fits (Acts left a vs) places n e f h deep =
      let u = not_deep (e + new_in vs) left (deep_parts vs e) deep in
      all_fits vs places n [] e (λ ys. action_row places a ys) f.1 h tt u.0 u.1 (λ m zs le c z. action_fits a places zs (count_values vs) m f.0 (omega (arith, c)) (around_more n m places le h) z)
  statement_fits (Local left count q) places n e f h deep =
      let u = not_deep e left (deep_statements q (e + 1)) deep in
      let l = u.0 in (
        omega (arith, l),
        f.0,
        f.1,
        all_deeper (put_statements q (declare places n count) (n + count)) e (n + count)
            (statements_fit q (declare places n count) (n + count) (e + 1) (subst (FitsStatements q) (sym (declare_count n count places)) f.2) (declare_around n count places h) u.1),
      )
  statement_fits (Thread left at q) places n e f h deep =
      let u = not_deep e left (deep_statements q (e + 1)) deep in
      let l = u.0 in (omega (arith, l), f.0, f.1, all_deeper (put_statements q places n) e n (statements_fit q places n (e + 1) f.2 h u.1))
  statement_fits (IfStatement left c q r) places n e f h deep =
      let u = not_deep (e + new_of c) left (or_else (by_kind c None (deep_value c (left_of c) (e + 1))) (or_else (deep_statements q (e + new_of c + 1)) (deep_statements r (e + new_of c + 1)))) deep in
      let l = u.0 in
      let w = none_of_two (by_kind c None (deep_value c (left_of c) (e + 1))) (or_else (deep_statements q (e + new_of c + 1)) (deep_statements r (e + new_of c + 1))) u.1 in
      let z = none_of_two (deep_statements q (e + new_of c + 1)) (deep_statements r (e + new_of c + 1)) w.1 in
      let more = around_more n (n + new_of c) places (omega arith) h in
      held_fits c places n e (put c places) (λ m y. code.If y (put_statements q places m) (put_statements r places m)) (omega (arith, l)) (new_part c (FitsCode (put c places (n + 1) n) (201 - (e + 1)) (n + 1)) (deep_value c (left_of c) (e + 1)) w.0
      (λ d. value_fits c places (n + 1) n (e + 1) (left_of c) f.0 (around_more n (n + 1) places (omega arith) h) (omega arith) d)) (
        omega (arith, l),
        held_below c places n f.0 h,
        all_deeper (put_statements q places (n + new_of c)) (e + new_of c) (n + new_of c) (statements_fit q places (n + new_of c) (e + new_of c + 1) f.1 more z.0),
        all_deeper (put_statements r places (n + new_of c)) (e + new_of c) (n + new_of c) (statements_fit r places (n + new_of c) (e + new_of c + 1) f.2 more z.1),
      )
  statement_fits (CaseStatement left c no_cases r) places n e f h deep = let none = f.3 in absurd (omega (arith, none))
  statement_fits (CaseStatement left c (case_and p q cs) r) places n e f h deep =
      let u = not_deep (e + new_of c + (suc (count_clauses cs) - 1)) left (or_else (by_kind c None (deep_value c (left_of c) (e + 1))) (or_else (deep_cases (case_and p q cs) (e + new_of c + 1)) (deep_statements r (e + new_of c + suc (count_clauses cs))))) deep in
      let l = u.0 in
      let w = none_of_two (by_kind c None (deep_value c (left_of c) (e + 1))) (or_else (deep_cases (case_and p q cs) (e + new_of c + 1)) (deep_statements r (e + new_of c + suc (count_clauses cs)))) u.1 in
      let z = none_of_two (deep_cases (case_and p q cs) (e + new_of c + 1)) (deep_statements r (e + new_of c + suc (count_clauses cs))) w.1 in
      let more = around_more n (n + new_of c) places (omega arith) h in
      held_fits c places n e (put c places) (λ m y. put_cases (case_and p q cs) places m y (put_statements r places m)) (omega (arith, l)) (new_part c (FitsCode (put c places (n + 1) n) (201 - (e + 1)) (n + 1)) (deep_value c (left_of c) (e + 1)) w.0
      (λ d. value_fits c places (n + 1) n (e + 1) (left_of c) f.0 (around_more n (n + 1) places (omega arith) h) (omega arith) d))
      (cases_fit (case_and p q cs) places (n + new_of c) (held_place c places n) (e + new_of c) (put_statements r places (n + new_of c)) f.1 more (held_below c places n f.0 h) (omega (arith, l)) z.0
      (statements_fit r places (n + new_of c) (e + new_of c + suc (count_clauses cs)) f.2 more z.1))
  statement_fits (Try left q r) places n e f h deep =
      let u = not_deep e left (or_else (deep_statements q (e + 1)) (deep_statements r (e + 1))) deep in
      let l = u.0 in
      let w = none_of_two (deep_statements q (e + 1)) (deep_statements r (e + 1)) u.1 in (
        omega (arith, l),
        all_deeper (put_statements q places n) e n (statements_fit q places n (e + 1) f.0 h w.0),
        all_deeper (put_statements r (declare places n 1) (n + 1)) e (n + 1) (statements_fit r (declare places n 1) (n + 1) (e + 1) (subst (FitsStatements r) (sym (declare_count n 1 places)) f.1) (declare_around n 1 places h) w.1),
      )
  statement_fits (Finally left q u) places n e f h deep =
      let d = not_deep (e + 2) left (or_else (deep_statements q (e + 2)) (deep_statements u (e + 2))) deep in
      let w = none_of_two (deep_statements q (e + 2)) (deep_statements u (e + 2)) d.1 in
      let more = around_more n (n + 1) places (omega arith) h in
      finally_fits n e (put_statements u places (n + 1)) (put_statements q places (n + 1)) d.0 (statements_fit u places (n + 1) (e + 2) f.1 more w.1) (statements_fit q places (n + 1) (e + 2) f.0 more w.0)

  pub statements_fit : (q : Statements) (places : Places) (n e : ℕ) → FitsStatements q (length places) → Around n places → deep_statements q e ≡ None → FitsCodes (put_statements q places n) (201 - e) n
  statements_fit no_statements places n e f h deep = absurd f
  statements_fit (statement_and s q) places n e f h deep =
      let w = none_of_two (deep_statement s e) (deep_statements q e) deep in
      follow_fits (put_statement s places n) (put_others q places n) (201 - e) n (statement_fits s places n e f.0 h w.0) (others_fit q places n e f.1 h w.1)

  others_fit : (q : Statements) (places : Places) (n e : ℕ) → FitsOthers q (length places) → Around n places → deep_statements q e ≡ None → Each (λ (r : Code). FitsCode r (201 - e) n) (put_others q places n)
  others_fit no_statements places n e f h deep = tt
  others_fit (statement_and s q) places n e f h deep =
      let w = none_of_two (deep_statement s e) (deep_statements q e) deep in (statement_fits s places n e f.0 h w.0, others_fit q places n e f.1 h w.1)

  -- clauses as a branch
  cases_fit : (cs : Clauses) (places : Places) (n y e : ℕ) (other : Codes) → FitsClauses cs (length places) → Around n places → y < n → e + count_clauses cs ≤ 201 → deep_cases cs (e + 1) ≡ None
      → FitsCodes other (201 - (e + count_clauses cs)) n → FitsCodes (put_branch cs places n y other) (201 - e) n
  cases_fit no_cases places n y e other f h yn le deep g = let b : e + 0 ≡ e = omega arith in subst (λ (d : ℕ). FitsCodes other (201 - d) n) b g
  cases_fit (case_and p q cs) places n y e other f h yn le deep g =
      let w = none_of_two (deep_statements q (e + 1)) (deep_cases cs (e + 1 + 1)) deep in
      let b : e + suc (count_clauses cs) ≡ e + 1 + count_clauses cs = omega arith in
      let k = length (features_in p) in (
        omega (arith, le),
        yn,
        f.0.0,
        f.0.1,
        f.0.2,
        all_deeper (put_statements q (declare places n k) (n + k)) e (n + k)
            (statements_fit q (declare places n k) (n + k) (e + 1) (subst (FitsStatements q) (sym (declare_count n k places)) f.1) (declare_around n k places h) w.0),
        all_deeper (put_branch cs places n y other) e n (cases_fit cs places n y (e + 1) other f.2 h yn (omega (arith, le)) w.1 (subst (λ (d : ℕ). FitsCodes other (201 - d) n) b g)),
      )

-- what a program with sugar that is not too deep stands for is a program
pub expansions_are_programs : (q : Statements) → FitsStatements q 0 → deep q ≡ None → IsProgram (expanded_rows q)
expansions_are_programs q f e = codes_are_programs (put_statements q [] 0) (statements_fit q [] 0 1 f tt e)
