-- Steps of what is read: each part, where what stands in it and behind it is read.
use Rattle.std.proofs.Common.{◌≡◌, ◌∙◌, ℕ, zero, suc, ◌+◌, ◌-◌, ◌<◌, ◌≤◌, List, [], ◌∷◌, length, Bool, true, false, cond, Option, Some, None, Ok, refl, sym, ap, subst, arith}
use Rattle.std.specs.Prelude.{IfOk}
use Rattle.tree_node.specs.declared.node.Feature.{Feature}
use Rattle.kernel_syntax.specs.declared.built_in.BuiltIn.{BuiltIn}
use Rattle.kernel_syntax.specs.BuiltIns.{arity_of}
use Rattle.kernel_syntax.specs.declared.stmt.Pattern.{Pattern}
use Rattle.kernel_syntax.specs.declared.sugar.Operation.{Operation}
use Rattle.kernel_syntax.specs.Sugar as sugar
use Rattle.kernel_syntax.specs.Sugar.{Values, no_values, value_and, no_statements, statement_and}
use Rattle.oz_grammar.specs.declared.symbol.Symbol.{Symbol}
use Rattle.oz_grammar.specs.declared.symbol.Symbol.TheVariants as t
use Rattle.oz_grammar.specs.declared.fault.Fault.{Fault}
use Rattle.oz_grammar.specs.declared.fault.FaultKind.{FaultKind}
use Rattle.oz_grammar.specs.declared.fault.What.{What}
use Rattle.oz_grammar.specs.declared.fault.What.TheVariants as what
use Rattle.oz_grammar.specs.Grammar.{FeatureToken, AtomFeature, IntFeature, feature_symbol}
use Rattle.oz_grammar.specs.Scoping.{Scope, declaration_of, feature_of, place_feature}
use Rattle.oz_grammar.specs.Faults.{deep_fault, use_fault, fewer}
use Rattle.oz_grammar.specs.Check.{first_fault}
use Rattle.oz_grammar.specs.Table.{features_in}
use Rattle.oz_grammar.specs.Points.{First}
use Rattle.oz_grammar.specs.Reading.{fault_expected}
use Rattle.oz_grammar.proofs.FieldOrder.{stopped}
use Rattle.surface_grammar.specs.declared.parts.CallUse.{CallUse}
use Rattle.surface_grammar.specs.declared.parts.Closer.{Closer}
use Rattle.surface_grammar.specs.declared.parts.Closer.TheVariants as closer
use Rattle.surface_grammar.specs.Derivations.{Primary, Variable, Integer, Atom, Record, Calls, Procedure, Function, Brackets, Selects, Value, Statement, Skips, Tells, CallsStatement, Raises, Locals, ProcNamed, FunNamed, Threads, ThreadsAt, Ifs, Cases, Tries, TriesFinally, Finally, Sequence, One, Then, value_text, statement_text, sequence_text}
use Rattle.surface_grammar.specs.Points.{Ends, given_fault, named_fault}
use Rattle.surface_grammar.specs.Check.{levels_behind, check_primary, check_value}
use Rattle.surface_grammar.specs.Trees.{with_last, record_value, pair_value}
use Rattle.surface_grammar.specs.Reading.{Read, ValueReader, StatementReader, arguments_at, wanted_at, wanted_of, most_of_call, called_at, FieldsSoFar, with_one, fields_at, is_end_of, is_at_statement, expected_behind, with_statement, others_at, closed_at, behind_head_at, second_at, operand_at, tail_at, with_value_clause, value_clause_at, value_clauses_at, thread_at, with_clause, clause_at, clauses_at, below, value_with, statement_with}
use Rattle.surface_grammar.proofs.Starts.{is_no_colon}
use Rattle.surface_grammar.proofs.Passing.{primary_on}
use Rattle.surface_grammar.proofs.ReadSteps.{any}
use Rattle.surface_grammar.proofs.ReadFields.{Same, same_fault}
use Rattle.surface_grammar.proofs.ReadHeld.{value_clause_read}
use Rattle.surface_grammar.proofs.ReadStatements.{all_reads, clause_read, ClauseEnds}
use Rattle.surface_grammar.proofs.ReadTrees.{value_holder, value_round, value_placed, fields_more, named_more, named_room}

-- a value's check with nothing wrong for its holder
pub same_holder : (v : Value) (scope : Scope) (d : ℕ) (holder : Option FaultKind) (rest : List Symbol) (behind : Option Fault) → check_value v scope d holder rest behind ≡ None → check_value v scope d None rest behind ≡ None
same_holder v scope d holder rest behind e = subst (λ (h : Option FaultKind). check_value v scope d h rest behind ≡ None) (value_holder v scope d holder rest behind e) e

-- the arguments of a call, by what is called
pub wanted_called : (b : BuiltIn) (d : ℕ) (u : CallUse) (scope : Scope) (p : List ℕ) (text rest : List Symbol) (vs : Values) → wanted_at (value_with d) scope (wanted_of u b) no_values text ≡ Ok (vs, rest) → called_at (value_with d) u scope (Some b) p text ≡ Ok ((Some b, declaration_of scope p, vs), rest)
wanted_called b d u scope p text rest vs e = rw e refl

pub procedure_called : (d : ℕ) (u : CallUse) (scope : Scope) (p : List ℕ) (text rest : List Symbol) (vs : Values) → use_fault scope p ≡ None → arguments_at (value_with d) scope (most_of_call u) no_values text ≡ Ok (vs, rest)
    → called_at (value_with d) u scope None p text ≡ Ok ((None, declaration_of scope p, vs), rest)
procedure_called d u scope p text rest vs ok e = rw (ok, e) refl

pub one_fewer : (b : BuiltIn) (n : ℕ) → suc n ≡ arity_of b → n ≡ arity_of b - 1
one_fewer b n e = omega (arith, e)

-- where no level is left, a primary is no part of another value
no_levels : (p : Primary) → levels_behind p zero ≡ zero
no_levels (Variable x) = refl
no_levels (Integer n) = refl
no_levels (Atom a) = refl
no_levels (Record a fs) = refl
no_levels (Calls p vs) = refl
no_levels (Procedure xs q) = refl
no_levels (Function xs v) = refl
no_levels (Brackets v) = refl
no_levels (Selects p s) = ap fewer (no_levels p)

deep_zero : (r : ℕ) → r ≡ zero → deep_fault r ≡ None → ⊥
deep_zero zero e d = cc
deep_zero (suc r) e d = cc

pub no_part : (p : Primary) (scope : Scope) (holder : Option FaultKind) (more symbols : List Symbol) (behind : Option Fault) → check_primary p scope zero holder more (first_fault (deep_fault (levels_behind p zero)) symbols behind) ≡ None → ⊥
no_part p scope holder more symbols behind e = deep_zero (levels_behind p zero) (no_levels p) (stopped (deep_fault (levels_behind p zero)) symbols behind (primary_on p scope zero holder more _ e)).0

pub bar_is : (r d : ℕ) (scope : Scope) (left : ℕ) (v u : sugar.Value) (text rest : List Symbol) → deep_fault r ≡ None → tail_at (below d) d scope text ≡ Ok (u, rest) → behind_head_at (below (suc d)) scope left (v, r) (t.Bar ∷ text) ≡ Ok (pair_value left v u, rest)
unfolding below
bar_is zero d scope left v u text rest ok e = cc
bar_is (suc r) d scope left v u text rest ok e = rw e refl

pub second_is : (r d : ℕ) (f : Operation) (scope : Scope) (left : ℕ) (v u : sugar.Value) (s : Symbol) (text rest : List Symbol) → deep_fault r ≡ None → operand_at (below d) d scope text ≡ Ok (u, rest)
    → second_at (below (suc d)) scope left f (v, r) (s ∷ text) ≡ Ok (sugar.Apply left f (value_and v (value_and u no_values)), rest)
unfolding below
second_is zero d f scope left v u s text rest ok e = cc
second_is (suc r) d f scope left v u s text rest ok e = rw e refl

pub wanted_closes : (value : ValueReader) (scope : Scope) (before : Values) (rest : List Symbol) → wanted_at value scope zero before (t.CloseCurly ∷ rest) ≡ Ok (before, rest)
unfolding wanted_at
wanted_closes value scope before rest = refl

pub wanted_more : (value : ValueReader) (scope : Scope) (k : ℕ) (before : Values) (symbols : List Symbol) (v : sugar.Value) (rest : List Symbol) → value scope None what.Value symbols ≡ Ok (v, rest) → wanted_at value scope (suc k) before symbols ≡ wanted_at value scope k (with_last before v) rest
unfolding wanted_at
wanted_more value scope k before symbols v rest e = rw e refl

-- a field behind others is read, and those behind it
abbrev pub AsRecord : ℕ → List ℕ → FieldsSoFar × List Symbol → Read sugar.Value
AsRecord left a m = Ok (record_value left a m.0.0 m.0.1, m.1)

pub placed_more : (value : ValueReader) (scope : Scope) (room : ℕ) (before : List Feature) (m : FieldsSoFar) (v : Value) (u : sugar.Value) (text : List Symbol) → Same before m → given_fault room before (place_feature m.2) ≡ None → is_no_colon text ≡ true
    → value scope None what.FieldOrBracket (value_text v text) ≡ Ok (u, text) → fields_at value scope room m (value_text v text) ≡ fields_at value scope (fewer room) (with_one (place_feature m.2) u (m.2 + 1) m) text
placed_more value scope zero before m v u text same ok colon e = cc
placed_more value scope (suc room) before m v u text same ok colon e =
    let given : given_fault (suc room) (features_in m.0) (place_feature m.2) ≡ None = sym (same_fault (suc room) before m (place_feature m.2) same) ∙ ok in
    fields_more value scope room m (value_text v text) (with_one (place_feature m.2) u (m.2 + 1) m) text (value_round v text) (value_placed v value scope (suc room) m text colon ∙ rw (given, e) refl)

pub feature_more : (value : ValueReader) (scope : Scope) (room : ℕ) (before : List Feature) (m : FieldsSoFar) (f : FeatureToken) (u : sugar.Value) (text rest : List Symbol) → Same before m → named_fault room before f ≡ None → value scope None what.Value text ≡ Ok (u, rest)
    → fields_at value scope room m (feature_symbol f ∷ t.Colon ∷ text) ≡ fields_at value scope (fewer room) (with_one (feature_of f) u m.2 m) rest
feature_more value scope zero before m (AtomFeature a) u text rest same ok e = cc
feature_more value scope zero before m (IntFeature n) u text rest same ok e = let r = named_room zero before (IntFeature n) ok in absurd (omega (arith, r))
feature_more value scope (suc room) before m f u text rest same ok e = named_more value scope room before m f u text rest same ok e

-- clauses behind others
abbrev pub behind_value_clauses : sugar.ValueClauses → sugar.ValueClauses → sugar.ValueClauses
behind_value_clauses sugar.no_clauses cs = cs
behind_value_clauses (sugar.clause_and p v bs) cs = sugar.clause_and p v (behind_value_clauses bs cs)

pub value_clause_behind : (bs : sugar.ValueClauses) (p : Pattern) (v : sugar.Value) (cs : sugar.ValueClauses) → behind_value_clauses (with_value_clause bs p v) cs ≡ behind_value_clauses bs (sugar.clause_and p v cs)
value_clause_behind sugar.no_clauses p v cs = refl
value_clause_behind (sugar.clause_and q u bs) p v cs = ap (sugar.clause_and q u) (value_clause_behind bs p v cs)

pub no_value_clause_behind : (bs : sugar.ValueClauses) → behind_value_clauses bs sugar.no_clauses ≡ bs
no_value_clause_behind sugar.no_clauses = refl
no_value_clause_behind (sugar.clause_and q u bs) = ap (sugar.clause_and q u) (no_value_clause_behind bs)

abbrev pub behind_clauses : sugar.Clauses → sugar.Clauses → sugar.Clauses
behind_clauses sugar.no_cases cs = cs
behind_clauses (sugar.case_and p q bs) cs = sugar.case_and p q (behind_clauses bs cs)

pub clause_behind : (bs : sugar.Clauses) (p : Pattern) (q : sugar.Statements) (cs : sugar.Clauses) → behind_clauses (with_clause bs p q) cs ≡ behind_clauses bs (sugar.case_and p q cs)
clause_behind sugar.no_cases p q cs = refl
clause_behind (sugar.case_and o r bs) p q cs = ap (sugar.case_and o r) (clause_behind bs p q cs)

pub no_clause_behind : (bs : sugar.Clauses) → behind_clauses bs sugar.no_cases ≡ bs
no_clause_behind sugar.no_cases = refl
no_clause_behind (sugar.case_and q u bs) = ap (sugar.case_and q u) (no_clause_behind bs)

-- statements behind others
abbrev pub behind_statements : sugar.Statements → sugar.Statements → sugar.Statements
behind_statements no_statements q = q
behind_statements (statement_and s b) q = statement_and s (behind_statements b q)

pub statement_behind : (b : sugar.Statements) (s : sugar.Statement) (q : sugar.Statements) → behind_statements (with_statement b s) q ≡ behind_statements b (statement_and s q)
statement_behind no_statements s q = refl
statement_behind (statement_and r b) s q = ap (statement_and r) (statement_behind b s q)

pub no_statement_behind : (b : sugar.Statements) → behind_statements b no_statements ≡ b
no_statement_behind no_statements = refl
no_statement_behind (statement_and r b) = ap (statement_and r) (no_statement_behind b)

-- what is expected where no statement begins does not matter where one does
same_statement : (b : Bool) (w u : What) (symbols : List Symbol) (r : Read sugar.Statement) (x : sugar.Statement × List Symbol) → cond b r (fault_expected w symbols) ≡ Ok x → cond b r (fault_expected u symbols) ≡ Ok x
same_statement true w u symbols r x e = e
same_statement false w u symbols r x e = cc

-- what is read leaves fewer symbols
pub statement_shorter : (d : ℕ) (scope : Scope) (w : What) (symbols : List Symbol) (s : sugar.Statement) (rest : List Symbol) → statement_with d scope w symbols ≡ Ok (s, rest) → length rest < length symbols
statement_shorter d scope w [] s rest e = cc
statement_shorter d scope w (x ∷ xs) s rest e =
    let r = (all_reads d).statement First Ends scope what.Statement (length xs) (x ∷ xs) [] refl refl (omega arith) in
    let same = same_statement (is_at_statement (x ∷ xs)) w what.Statement (x ∷ xs) _ (s, rest) e in
    let good = subst (λ (k : Read sugar.Statement). IfOk k (λ y. (length y.1 ≤ length xs) × any y)) same r.good in
    let le = good.0 in omega (arith, le)

pub clause_shorter : (d : ℕ) (scope : Scope) (symbols : List Symbol) (c : Pattern × sugar.Value) (rest : List Symbol) → value_clause_at (value_with d) scope symbols ≡ Ok (c, rest) → length rest < length symbols
clause_shorter d scope [] c rest e = cc
clause_shorter d scope (x ∷ xs) c rest e =
    let r = value_clause_read d (all_reads d).values scope (length xs) (x ∷ xs) [] (omega arith) in
    let good = subst (λ (k : Read (Pattern × sugar.Value)). IfOk k (λ y. (length y.1 ≤ length xs) × any y)) e r.good in
    let le = good.0 in omega (arith, le)

pub statement_clause_shorter : (d : ℕ) (scope : Scope) (symbols : List Symbol) (c : Pattern × sugar.Statements) (rest : List Symbol) → clause_at (statement_with d) scope symbols ≡ Ok (c, rest) → length rest < length symbols
statement_clause_shorter d scope [] c rest e = cc
statement_clause_shorter d scope (x ∷ xs) c rest e =
    let r = clause_read d (all_reads d) scope (length xs) (x ∷ xs) [] (omega arith) in
    let good = subst (λ (k : Read (Pattern × sugar.Statements)). IfOk k (λ y. (length y.1 ≤ length xs) × ClauseEnds y)) e r.good in
    let le = good.0 in omega (arith, le)

-- ---- sequences

pub others_end : (statement : StatementReader) (c : Closer) (scope : Scope) (fuel : ℕ) (before : sugar.Statements) (more : List Symbol) → 1 ≤ fuel → is_end_of c more ≡ true → others_at statement c scope fuel before more ≡ Ok (before, more)
unfolding others_at
others_end statement c scope zero before more some e = absurd (omega (arith, some))
others_end statement c scope (suc fuel) before more some e = rw e refl

pub others_more : (statement : StatementReader) (c : Closer) (scope : Scope) (fuel : ℕ) (before : sugar.Statements) (symbols : List Symbol) (s : sugar.Statement) (rest : List Symbol) → is_end_of c symbols ≡ false → statement scope (expected_behind c) symbols ≡ Ok (s, rest)
    → others_at statement c scope (suc fuel) before symbols ≡ others_at statement c scope fuel (with_statement before s) rest
unfolding others_at
others_more statement c scope fuel before symbols s rest o e = rw (o, e) refl

-- what begins a statement closes nothing
pub begun_open : (c : Closer) (symbols : List Symbol) → is_at_statement symbols ≡ true → is_end_of c symbols ≡ false
begun_open c [] e = cc
begun_open closer.End (t.End ∷ rest) e = absurd cc
begun_open closer.End (x ∷ rest) e = refl
begun_open closer.Else (t.Else ∷ rest) e = absurd cc
begun_open closer.Else (x ∷ rest) e = refl
begun_open closer.OfClause (t.Clause ∷ rest) e = absurd cc
begun_open closer.OfClause (t.Else ∷ rest) e = absurd cc
begun_open closer.OfClause (x ∷ rest) e = refl
begun_open closer.OfTry (t.Catch ∷ rest) e = absurd cc
begun_open closer.OfTry (t.Finally ∷ rest) e = absurd cc
begun_open closer.OfTry (x ∷ rest) e = refl
begun_open closer.OfHandler (t.Finally ∷ rest) e = absurd cc
begun_open closer.OfHandler (t.End ∷ rest) e = absurd cc
begun_open closer.OfHandler (x ∷ rest) e = refl
begun_open closer.EndOfText (t.EndOfText ∷ rest) e = absurd cc
begun_open closer.EndOfText (x ∷ rest) e = refl

pub begins_statement : (s : Statement) (rest : List Symbol) → is_at_statement (statement_text s rest) ≡ true
begins_statement Skips rest = refl
begins_statement (Tells x v) rest = refl
begins_statement (CallsStatement p vs) rest = refl
begins_statement (Raises v) rest = refl
begins_statement (Locals x xs q) rest = refl
begins_statement (ProcNamed x xs q) rest = refl
begins_statement (FunNamed x xs v) rest = refl
begins_statement (Threads q) rest = refl
begins_statement (ThreadsAt n q) rest = refl
begins_statement (Ifs e q r) rest = refl
begins_statement (Cases e p q cs r) rest = refl
begins_statement (Tries q x r) rest = refl
begins_statement (TriesFinally q x r u) rest = refl
begins_statement (Finally q u) rest = refl

pub begins_sequence : (q : Sequence) (rest : List Symbol) → is_at_statement (sequence_text q rest) ≡ true
begins_sequence (One s) rest = begins_statement s rest
begins_sequence (Then s q) rest = begins_statement s (sequence_text q rest)

pub thread_plain : (statement : StatementReader) (scope : Scope) (left : ℕ) (symbols : List Symbol) (q : sugar.Statements) (rest : List Symbol) → is_at_statement symbols ≡ true → closed_at statement closer.End scope what.StatementOrAt symbols ≡ Ok (q, rest)
    → thread_at statement scope left symbols ≡ Ok (sugar.Thread left None q, rest)
thread_plain statement scope left [] q rest b e = cc
thread_plain statement scope left (t.At ∷ symbols) q rest b e = absurd cc
thread_plain statement scope left (s ∷ symbols) q rest b e = rw e refl

-- ---- clauses

pub clauses_more : (value : ValueReader) (scope : Scope) (fuel : ℕ) (before : sugar.ValueClauses) (symbols : List Symbol) (p : Pattern) (v : sugar.Value) (rest : List Symbol) → value_clause_at value scope symbols ≡ Ok ((p, v), t.Clause ∷ rest)
    → value_clauses_at value scope (suc fuel) before symbols ≡ value_clauses_at value scope fuel (with_value_clause before p v) rest
unfolding value_clauses_at
clauses_more value scope fuel before symbols p v rest e = rw e refl

pub clauses_last : (value : ValueReader) (scope : Scope) (fuel : ℕ) (before : sugar.ValueClauses) (symbols : List Symbol) (p : Pattern) (v : sugar.Value) (rest : List Symbol) → value_clause_at value scope symbols ≡ Ok ((p, v), t.Else ∷ rest)
    → value_clauses_at value scope (suc fuel) before symbols ≡ Ok (with_value_clause before p v, rest)
unfolding value_clauses_at
clauses_last value scope fuel before symbols p v rest e = rw e refl

pub branches_more : (statement : StatementReader) (scope : Scope) (fuel : ℕ) (before : sugar.Clauses) (symbols : List Symbol) (p : Pattern) (q : sugar.Statements) (rest : List Symbol) → clause_at statement scope symbols ≡ Ok ((p, q), t.Clause ∷ rest)
    → clauses_at statement scope (suc fuel) before symbols ≡ clauses_at statement scope fuel (with_clause before p q) rest
unfolding clauses_at
branches_more statement scope fuel before symbols p q rest e = rw e refl

pub branches_last : (statement : StatementReader) (scope : Scope) (fuel : ℕ) (before : sugar.Clauses) (symbols : List Symbol) (p : Pattern) (q : sugar.Statements) (rest : List Symbol) → clause_at statement scope symbols ≡ Ok ((p, q), t.Else ∷ rest)
    → clauses_at statement scope (suc fuel) before symbols ≡ Ok (with_clause before p q, rest)
unfolding clauses_at
branches_last statement scope fuel before symbols p q rest e = rw e refl
