-- The rows of a derivation that passes are within the limits of statements.
use Rattle.std.proofs.Common.{◌≡◌, ◌∙◌, ℕ, zero, suc, ◌+◌, ◌*◌, ◌<◌, ◌≤◌, List, [], ◌∷◌, ◌++◌, length, map, true, false, Option, Some, None, refl, sym, ap, subst, arith, length-append}
use Rattle.std.specs.Prelude.{nat_lt, ℤ, pos, int_lt}
use Rattle.std.proofs.lemmas.List.{length-map}
use Rattle.tree_node.specs.declared.names.CodeId.{CodeId}
use Rattle.tree_node.specs.declared.node.Feature.{Feature}
use Rattle.tree_node.specs.Each.{Each}
use Rattle.tree_node.specs.Node.{AreAscending}
use Rattle.kernel_syntax.specs.Scopes as scopes
use Rattle.kernel_syntax.specs.Program.{IsStmt, IsPattern, IsThreadSite, AreFeatures}
use Rattle.oz_grammar.specs.declared.symbol.Symbol.{Symbol}
use Rattle.oz_grammar.specs.declared.symbol.Symbol.TheVariants as t
use Rattle.kernel_syntax.specs.declared.built_in.BuiltIn.{BuiltIn}
use Rattle.kernel_syntax.specs.declared.built_in.BuiltIn.TheVariants as built
use Rattle.oz_grammar.specs.declared.symbol.Purpose.TheVariants as purpose
use Rattle.oz_grammar.specs.declared.fault.Fault.{Fault}
use Rattle.oz_grammar.specs.declared.fault.FaultKind.TheVariants.{Wide, Twice, Site}
use Rattle.oz_grammar.specs.Grammar.{Identifier, ByVariable, ByFeature, Value, ToVar, Calculates, Tests, Selects, Pairs, ToInt, ToAtom, ToRecord, Pattern, IntPattern, AtomPattern, RecordPattern, PairPattern, Plain, Skips, Tells, Calls, Raises, Opening, Locals, ProcValue, ProcNamed, Threads, ThreadsAt, Choice, Ifs, Cases, Statement, Simple, Block, Chooses, Tries, Sequence, One, Then, seq_text}
use Rattle.oz_grammar.specs.Scoping.{Scope, Fields, declaration_of, built_in_at, has_name, fields_of, pattern_names, opening_scope, choice_scope}
use Rattle.oz_grammar.specs.Table.{code_at, features_in, slots_of, record_row, record_pattern, value_row, value_of, pattern_of, call_row, plain_row, opening_row, choice_row, stmt_rows, seq_rows, many_rows, program_table}
use Rattle.oz_grammar.specs.Faults.{where_so, number_fault, selected_fault, use_fault, count_fault, called_fault, argument_fault, formal_fault, site_fault, deep_fault, fewer}
use Rattle.oz_grammar.specs.Check.{check_value, check_pattern, check_locals, check_formals, check_arguments, check_uses, check_call, check_plain, check_opening, check_choice, check_stmt, check_seq, check}
use Rattle.oz_grammar.proofs.FieldOrder.{stopped, or_neither, is_so, not_so, good_fields}
use Rattle.tree_node.proofs.EachLemmas.{each_append}

-- ---- what stands behind is reached, and lists are short

at_most_64 : (n : ℕ) → count_fault n ≡ None → n < 64
at_most_64 n e = let low : nat_lt n 64 ≡ true = is_so (nat_lt n 64) Wide e in grind arith

pub locals_few : (before xs : List Identifier) (rest : List Symbol) (behind : Option Fault) → check_locals before xs rest behind ≡ None → length before ≤ 64 → (behind ≡ None) × (length before + length xs ≤ 64)
locals_few before [] rest behind e le = (e, omega (arith, le))
locals_few before (x ∷ xs) rest behind e le =
    let s = stopped (count_fault (length before)) _ _ e in
    let lt = at_most_64 (length before) s.0 in
    let l = length-append before (x ∷ []) in
    let h = locals_few (before ++ x ∷ []) xs rest behind s.1 (omega arith) in
    (h.0, omega (arith, h.1, l))

pub formals_few : (before xs : List Identifier) (rest : List Symbol) (behind : Option Fault) → check_formals before xs rest behind ≡ None → length before ≤ 64 → (behind ≡ None) × (length before + length xs ≤ 64)
formals_few before [] rest behind e le = (e, omega (arith, le))
formals_few before (x ∷ xs) rest behind e le =
    let s = stopped (formal_fault before x) _ _ e in
    let two = or_neither (count_fault (length before)) (where_so (has_name before x) Twice) s.0 in
    let lt = at_most_64 (length before) two.0 in
    let l = length-append before (x ∷ []) in
    let h = formals_few (before ++ x ∷ []) xs rest behind s.1 (omega arith) in
    (h.0, omega (arith, h.1, l))

pub arguments_few : (scope : Scope) (n : ℕ) (xs : List Identifier) (rest : List Symbol) (behind : Option Fault) → check_arguments scope n xs rest behind ≡ None → n ≤ 64 → (behind ≡ None) × (n + length xs ≤ 64)
arguments_few scope n [] rest behind e le = (e, omega (arith, le))
arguments_few scope n (x ∷ xs) rest behind e le =
    let s = stopped (argument_fault scope n x) _ _ e in
    let two = or_neither (count_fault n) (use_fault scope x) s.0 in
    let lt = at_most_64 n two.0 in
    let h = arguments_few scope (n + 1) xs rest behind s.1 (omega arith) in
    (h.0, omega (arith, h.1))

pub uses_behind : (scope : Scope) (xs : List Identifier) (rest : List Symbol) (behind : Option Fault) → check_uses scope xs rest behind ≡ None → behind ≡ None
uses_behind scope [] rest behind e = e
uses_behind scope (x ∷ xs) rest behind e = uses_behind scope xs rest behind (stopped (use_fault scope x) _ _ e).1

-- ---- rows without bodies

record_limits : (left : ℕ) (label : List ℕ) (scope : Scope) (fields : Fields) → AreAscending (features_in fields) → length fields ≤ 64 → IsStmt (record_row left label (slots_of scope fields))
record_limits left label scope [] up few = tt
record_limits left label scope (f ∷ fields) up few =
    let same = slots_features scope (f ∷ fields) in
    let l = length-map (f ∷ fields) (λ (g : Feature × Identifier). g.0) in
    subst (λ (fs : List Feature). AreFeatures fs) (sym same) (omega (arith, l), omega (arith, l, few), up)
  where
    slots_features : (s : Scope) (gs : Fields) → map (λ (g : Feature × ℕ). g.0) (slots_of s gs) ≡ features_in gs
    slots_features s [] = refl
    slots_features s (g ∷ gs) = ap (λ (fs : List Feature). g.0 ∷ fs) (slots_features s gs)

pub value_limits : (left : ℕ) (v : Value) (scope : Scope) (rest : List Symbol) (behind : Option Fault) → check_value v scope rest behind ≡ None → (behind ≡ None) × IsStmt (value_row left v scope)
value_limits left (ToVar y) scope rest behind e = ((stopped (use_fault scope y) _ behind e).1, tt)
value_limits left (Calculates y o z) scope rest behind e = ((stopped (use_fault scope z) _ behind (stopped (use_fault scope y) _ _ e).1).1, tt)
value_limits left (Tests y o z) scope rest behind e = ((stopped (use_fault scope z) _ behind (stopped (use_fault scope y) _ _ e).1).1, tt)
value_limits left (Selects y (ByVariable x)) scope rest behind e = ((stopped (use_fault scope x) _ behind (stopped (use_fault scope y) _ _ e).1).1, tt)
value_limits left (Selects y (ByFeature m)) scope rest behind e = ((stopped (selected_fault m) _ behind (stopped (use_fault scope y) _ _ e).1).1, tt)
value_limits left (Pairs h u) scope rest behind e =
    ((stopped (use_fault scope u) _ behind (stopped (use_fault scope h) _ _ e).1).1, (omega arith, omega arith, ((refl, tt), (tt, tt))))
value_limits left (ToInt n) scope rest behind e = ((stopped (number_fault n) _ behind e).1, tt)
value_limits left (ToAtom a) scope rest behind e = (e, tt)
value_limits left (ToRecord a fs) scope rest behind e =
    let g = good_fields purpose.Use scope fs (t.CloseRound ∷ rest) behind e in
    (g.0, record_limits left a scope (fields_of fs) g.1.ascending g.1.few)

pub call_limits : (b : Option BuiltIn) (callee : ℕ) (scope : Scope) (xs : List Identifier) (rest : List Symbol) (behind : Option Fault) → check_call b scope xs rest behind ≡ None
    → (behind ≡ None) × IsStmt (call_row b callee (map (declaration_of scope) xs))
call_limits (Some built.Browse) callee scope xs rest behind e = (uses_behind scope xs rest behind e, tt)
call_limits (Some built.Wait) callee scope xs rest behind e = (uses_behind scope xs rest behind e, tt)
call_limits (Some built.NewCell) callee scope xs rest behind e = (uses_behind scope xs rest behind e, tt)
call_limits (Some built.Exchange) callee scope xs rest behind e = (uses_behind scope xs rest behind e, tt)
call_limits (Some built.NewPort) callee scope xs rest behind e = (uses_behind scope xs rest behind e, tt)
call_limits (Some built.Send) callee scope xs rest behind e = (uses_behind scope xs rest behind e, tt)
call_limits (Some built.NewCellAt) callee scope xs rest behind e = (uses_behind scope xs rest behind e, tt)
call_limits None callee scope xs rest behind e =
    let h = arguments_few scope 0 xs rest behind e (omega arith) in
    let l = length-map xs (declaration_of scope) in
    (h.0, omega (arith, h.1, l))

pub plain_limits : (s : Plain) (scope : Scope) (rest : List Symbol) (behind : Option Fault) → check_plain s scope rest behind ≡ None → (behind ≡ None) × IsStmt (plain_row s scope)
plain_limits Skips scope rest behind e = (e, tt)
plain_limits (Tells x v) scope rest behind e = value_limits (declaration_of scope x) v scope rest behind (stopped (use_fault scope x) _ _ e).1
plain_limits (Calls p xs) scope rest behind e =
    call_limits (built_in_at scope p) (declaration_of scope p) scope xs (t.CloseCurly ∷ rest) behind (stopped (called_fault (built_in_at scope p) scope p) _ _ e).1
plain_limits (Raises x) scope rest behind e = ((stopped (use_fault scope x) _ behind e).1, tt)

-- ---- rows with bodies

pub site_limits : (n : Option ℤ) → site_fault n ≡ None → IsThreadSite (Some (value_of n))
site_limits (Some z) e = let no : int_lt z (pos 1) ≡ false = not_so (int_lt z (pos 1)) Site e in grind arith
site_limits None e = cc

-- what stands behind is reached, the row is within its limits, and at most 64 names are declared
pub record Opens (o : Opening) (scope : Scope) (behind : Option Fault) : Type 0 where
  pub reached : behind ≡ None
  pub row : (c : CodeId) → IsStmt (opening_row o scope c)
  pub few : length (opening_scope o scope) ≤ length scope + 64

pub opening_limits : (o : Opening) (scope : Scope) (rest : List Symbol) (behind : Option Fault) → length scope ≤ 12800 → check_opening o scope rest behind ≡ None → Opens o scope behind
opening_limits (Locals x xs) scope rest behind le e =
    let h = locals_few (x ∷ []) xs (t.In ∷ rest) behind e (omega arith) in
    let l = length-append scope (x ∷ xs) in
    record { reached = h.0; row = λ c. (omega arith, omega (arith, h.1), omega (arith, h.1, le)); few = omega (arith, h.1, l) }
opening_limits (ProcValue x xs) scope rest behind le e =
    let h = formals_few [] xs (t.CloseCurly ∷ rest) behind (stopped (use_fault scope x) _ _ e).1 (omega arith) in
    let l = length-append scope xs in
    record { reached = h.0; row = λ c. (omega (arith, h.1), omega (arith, h.1, le)); few = omega (arith, h.1, l) }
opening_limits (ProcNamed x xs) scope rest behind le e =
    let h = formals_few [] xs (t.CloseCurly ∷ rest) behind (stopped (use_fault scope x) _ _ e).1 (omega arith) in
    let l = length-append scope xs in
    record { reached = h.0; row = λ c. (omega (arith, h.1), omega (arith, h.1, le)); few = omega (arith, h.1, l) }
opening_limits Threads scope rest behind le e = record { reached = e; row = λ c. tt; few = omega arith }
opening_limits (ThreadsAt n) scope rest behind le e =
    let s = stopped (site_fault n) _ behind e in
    record { reached = s.1; row = λ c. site_limits n s.0; few = omega arith }

-- a pattern within its limits, which declares at most 64 names, one for each of its features
pub record Declares (p : Pattern) (behind : Option Fault) : Type 0 where
  pub reached : behind ≡ None
  pub is : IsPattern (pattern_of p)
  pub few : length (scopes.features_in (pattern_of p)) ≤ 64
  pub each : length (pattern_names p) ≡ length (scopes.features_in (pattern_of p))

record_pattern_limits : (a : List ℕ) (fields : Fields) → AreAscending (features_in fields) → length fields ≤ 64
    → IsPattern (record_pattern a (features_in fields)) × (length (scopes.features_in (record_pattern a (features_in fields))) ≡ length fields)
record_pattern_limits a [] up few = (tt, refl)
record_pattern_limits a (f ∷ fields) up few =
    let l = length-map (f ∷ fields) (λ (g : Feature × Identifier). g.0) in ((omega (arith, l), omega (arith, l, few), up), l)

pub pattern_limits : (p : Pattern) (scope : Scope) (rest : List Symbol) (behind : Option Fault) → check_pattern p scope rest behind ≡ None → Declares p behind
pattern_limits (IntPattern n) scope rest behind e = record { reached = (stopped (number_fault n) _ behind e).1; is = tt; few = omega arith; each = refl }
pattern_limits (AtomPattern a) scope rest behind e = record { reached = e; is = tt; few = omega arith; each = refl }
pattern_limits (RecordPattern a fs) scope rest behind e =
    let g = good_fields purpose.Declare scope fs (t.CloseRound ∷ rest) behind e in
    let r = record_pattern_limits a (fields_of fs) g.1.ascending g.1.few in
    let l = length-map (fields_of fs) (λ (f : Feature × Identifier). f.1) in
    record { reached = g.0; is = r.0; few = omega (arith, r.1, g.1.few); each = l ∙ sym r.1 }
pattern_limits (PairPattern h u) scope rest behind e = record {
  reached = (stopped (where_so (has_name (h ∷ []) u) Twice) _ behind e).1;
  is = (omega arith, omega arith, ((refl, tt), (tt, tt)));
  few = omega arith;
  each = refl;
}

pub record Branches (h : Choice) (scope : Scope) (behind : Option Fault) : Type 0 where
  pub reached : behind ≡ None
  pub row : (b c : CodeId) → IsStmt (choice_row h scope b c)
  pub few : length (choice_scope h scope) ≤ length scope + 64

pub choice_limits : (h : Choice) (scope : Scope) (rest : List Symbol) (behind : Option Fault) → length scope ≤ 12800 → check_choice h scope rest behind ≡ None → Branches h scope behind
choice_limits (Ifs x) scope rest behind le e = record { reached = (stopped (use_fault scope x) _ behind e).1; row = λ b c. tt; few = omega arith }
choice_limits (Cases x p) scope rest behind le e =
    let d = pattern_limits p scope (t.Then ∷ rest) behind (stopped (use_fault scope x) _ _ e).1 in
    let l = length-append scope (pattern_names p) in
    record { reached = d.reached; row = λ b c. (d.is, omega (arith, d.few, le)); few = omega (arith, l, d.each, d.few) }

-- ---- rows of a derivation

pub deep_enough : (d : ℕ) → deep_fault d ≡ None → d ≡ suc (fewer d)
deep_enough zero e = cc
deep_enough (suc d) e = refl

mutual
  pub stmt_limits : (s : Statement) (d : ℕ) (scope : Scope) (k : ℕ) (rest : List Symbol) (behind : Option Fault) → check_stmt s d scope rest behind ≡ None → length scope + 64 * d ≤ 12800
      → (behind ≡ None) × Each IsStmt (stmt_rows s scope k)
  stmt_limits (Simple s) d scope k rest behind e le =
      let h = plain_limits s scope rest behind (stopped (deep_fault d) _ _ e).1 in (h.0, (h.1, tt))
  stmt_limits (Block o q) d scope k rest behind e le =
      let s = stopped (deep_fault d) _ _ e in
      let more = deep_enough d s.0 in
      let h = opening_limits o scope _ _ (omega (arith, le)) s.1 in
      let b = seq_limits q (fewer d) (opening_scope o scope) (k + 1) (t.End ∷ rest) behind h.reached (omega (arith, le, more, h.few)) in
      (b.0, (h.row (code_at (k + 1)), b.1))
  stmt_limits (Chooses h q r) d scope k rest behind e le =
      let s = stopped (deep_fault d) _ _ e in
      let more = deep_enough d s.0 in
      let c = choice_limits h scope _ _ (omega (arith, le)) s.1 in
      let first = seq_limits q (fewer d) (choice_scope h scope) (k + 1) _ _ c.reached (omega (arith, le, more, c.few)) in
      let second = seq_limits r (fewer d) scope (k + 1 + length (seq_rows q (choice_scope h scope) (k + 1))) (t.End ∷ rest) behind first.0 (omega (arith, le, more)) in
      (second.0, (c.row _ _, each_append IsStmt (seq_rows q (choice_scope h scope) (k + 1)) _ first.1 second.1))
  stmt_limits (Tries q x r) d scope k rest behind e le =
      let s = stopped (deep_fault d) _ _ e in
      let more = deep_enough d s.0 in
      let l = length-append scope (x ∷ []) in
      let first = seq_limits q (fewer d) scope (k + 1) _ _ s.1 (omega (arith, le, more)) in
      let second = seq_limits r (fewer d) (scope ++ x ∷ []) (k + 1 + length (seq_rows q scope (k + 1))) (t.End ∷ rest) behind first.0 (omega (arith, le, more, l)) in
      (second.0, (omega (arith, le), each_append IsStmt (seq_rows q scope (k + 1)) _ first.1 second.1))

  pub seq_limits : (q : Sequence) (d : ℕ) (scope : Scope) (k : ℕ) (rest : List Symbol) (behind : Option Fault) → check_seq q d scope rest behind ≡ None → length scope + 64 * d ≤ 12800
      → (behind ≡ None) × Each IsStmt (seq_rows q scope k)
  seq_limits (One s) d scope k rest behind e le = stmt_limits s d scope k rest behind e le
  seq_limits (Then s q) d scope k rest behind e le =
      let first = stmt_limits s d scope (k + 1) (seq_text q rest) (check_seq q d scope rest behind) e le in
      let many = many_limits q d scope (k + 1 + length (stmt_rows s scope (k + 1))) rest behind first.0 le in
      (many.0, (tt, each_append IsStmt (stmt_rows s scope (k + 1)) _ first.1 many.1))

  pub many_limits : (q : Sequence) (d : ℕ) (scope : Scope) (k : ℕ) (rest : List Symbol) (behind : Option Fault) → check_seq q d scope rest behind ≡ None → length scope + 64 * d ≤ 12800
      → (behind ≡ None) × Each IsStmt (many_rows q scope k)
  many_limits (One s) d scope k rest behind e le = stmt_limits s d scope k rest behind e le
  many_limits (Then s q) d scope k rest behind e le =
      let first = stmt_limits s d scope k (seq_text q rest) (check_seq q d scope rest behind) e le in
      let many = many_limits q d scope (k + length (stmt_rows s scope k)) rest behind first.0 le in
      (many.0, each_append IsStmt (stmt_rows s scope k) _ first.1 many.1)

pub program_limits : (q : Sequence) → check q ≡ None → Each IsStmt (program_table q)
program_limits q e = (seq_limits q 200 [] 0 (t.EndOfText ∷ []) None e (omega arith)).1
