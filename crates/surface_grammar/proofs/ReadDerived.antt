-- What is derived and passes is read as its tree.
use Rattle.std.proofs.Common.{◌≡◌, ◌∙◌, ℕ, zero, suc, ◌+◌, ◌-◌, ◌<◌, List, [], ◌∷◌, ◌++◌, length, true, false, Option, Some, None, Ok, refl, sym, ap, subst, arith}
use Rattle.std.specs.Prelude.{◌&&◌}
use Rattle.tree_node.specs.declared.node.Feature.{Feature}
use Rattle.kernel_syntax.specs.declared.built_in.BuiltIn.{BuiltIn}
use Rattle.kernel_syntax.specs.BuiltIns.{arity_of}
use Rattle.kernel_syntax.specs.declared.sugar.Operation.TheVariants as operation
use Rattle.kernel_syntax.specs.Sugar as sugar
use Rattle.kernel_syntax.specs.Sugar.{Values, no_values, no_statements, statement_and, count_values, field_of}
use Rattle.oz_grammar.specs.declared.symbol.Symbol.{Symbol}
use Rattle.oz_grammar.specs.declared.symbol.Symbol.TheVariants as t
use Rattle.oz_grammar.specs.declared.symbol.Sign.TheVariants as sign
use Rattle.oz_grammar.specs.declared.fault.Fault.{Fault}
use Rattle.oz_grammar.specs.declared.fault.FaultKind.{FaultKind}
use Rattle.oz_grammar.specs.declared.fault.What.{What}
use Rattle.oz_grammar.specs.declared.fault.What.TheVariants as what
use Rattle.oz_grammar.specs.Grammar.{selection_symbol, names_text, pattern_text}
use Rattle.oz_grammar.specs.Grammar as grammar
use Rattle.oz_grammar.specs.Scoping.{Scope, built_in_at, declaration_of, feature_of, place_feature, pattern_names, with_field}
use Rattle.oz_grammar.specs.Faults.{or_else, deep_fault, use_fault, called_fault, number_fault, site_fault, fewer}
use Rattle.oz_grammar.specs.Check.{check_pattern}
use Rattle.oz_grammar.specs.Table.{pattern_of}
use Rattle.oz_grammar.specs.Reading.{◌>>=◌, sign_at, used_variable_at, locals_at}
use Rattle.oz_grammar.proofs.FieldOrder.{stopped}
use Rattle.oz_grammar.proofs.PartsChecked.{passes, then_read, used_read, locals_read, pattern_read}
use Rattle.surface_grammar.specs.declared.parts.CallUse.TheVariants.{AsValue, AsStatement}
use Rattle.surface_grammar.specs.declared.parts.Callable.TheVariants.{OfProc, OfFun}
use Rattle.surface_grammar.specs.declared.parts.Closer.{Closer}
use Rattle.surface_grammar.specs.declared.parts.Closer.TheVariants as closer
use Rattle.surface_grammar.specs.Derivations.{Primary, Variable, Integer, Atom, Record, Calls, Procedure, Function, Brackets, Selects, Tail, Last, More, Value, Alone, Calculates, Tests, Pairs, IfValue, CaseValue, Arguments, no_arguments, argument_and, no_fields, placed_and, named_and, ValueClauses, Statement, Skips, Tells, CallsStatement, Raises, Locals, ProcNamed, FunNamed, Threads, ThreadsAt, Ifs, Cases, Tries, TriesFinally, Finally, Sequence, One, Then, primary_text, tail_text, value_text, arguments_text, fields_text, value_clauses_text, statement_text, clauses_text, sequence_text, program_text, is_atom, tail_ends_in_atom, ends_in_atom, begins_round, StaysBare, count_arguments, HasAllArguments, LacksOneArgument, PrimaryDerives, TailDerives, ValueDerives, ArgumentsDerive, FieldsDerive, ValueClausesDerive, StatementDerives, ClausesDerive, SequenceDerives, IsDerivation}
use Rattle.surface_grammar.specs.Derivations as tree
use Rattle.surface_grammar.specs.Points.{argument_fault, given_fault, named_fault}
use Rattle.surface_grammar.specs.Check.{levels_behind, most_arguments, check_formals, check_primary, check_tail, check_value, check_arguments, check_fields, check_value_clauses, check_statement, check_clauses, check_sequence, check}
use Rattle.surface_grammar.specs.Trees.{with_last, with_value, record_value, call_value, primary_of, tail_of, value_in, arguments_of, fields_in, value_clauses_of, statement_of, clauses_of, sequence_of, program_of}
use Rattle.surface_grammar.specs.Reading.{Read, arguments_at, wanted_at, called_at, call_value_at, FieldsSoFar, with_one, fields_at, atom_at, brackets_at, formals_at, is_end_of, expected_behind, with_statement, others_at, sequence_at, closed_at, body_at, callable_at, selections_at, part_at, behind_head_at, behind_part_at, operand_at, tail_at, if_value_at, with_value_clause, value_clause_at, value_clauses_at, case_value_at, with_clause, clause_at, clauses_at, readers_over, below, value_with, statement_with, program_at}
use Rattle.surface_grammar.proofs.Starts.{stops, stops_no_colon}
use Rattle.surface_grammar.proofs.Runs.{and_false, arguments_round, arguments_stop, fields_round, fields_stop, moved_bare, closes, closes_stops, closes_bare, sequence_closes}
use Rattle.surface_grammar.proofs.Passing.{primary_on, value_on, formals_on, locals_on, pattern_on, value_clauses_on, statement_on, sequence_on, clauses_on}
use Rattle.surface_grammar.proofs.ReadFields.{Same, same_more}
use Rattle.surface_grammar.proofs.ReadHeld.{same_no_fields}
use Rattle.surface_grammar.proofs.ReadTrees.{one_selection, formals_checked, behind_values, one_behind, none_behind, value_holder, value_open, arguments_close, arguments_more, room_left, atom_plain, compound_then, whole_at, last_selection, stops_no_dot, behind_nothing, head_alone, counted, fields_close}
use Rattle.surface_grammar.proofs.ReadParts.{same_holder, wanted_called, procedure_called, one_fewer, no_part, bar_is, second_is, wanted_closes, wanted_more, AsRecord, placed_more, feature_more, behind_value_clauses, value_clause_behind, no_value_clause_behind, behind_clauses, clause_behind, no_clause_behind, behind_statements, statement_behind, no_statement_behind, statement_shorter, clause_shorter, statement_clause_shorter, others_end, others_more, begun_open, begins_statement, begins_sequence, thread_plain, clauses_more, clauses_last, branches_more, branches_last}

-- ---- laws of parts: a value, a sequence, and arguments are read as their trees

abbrev pub ValueLaw : Value → ℕ → Type 0
ValueLaw v d =
    (scope : Scope) (holder : Option FaultKind) (w : What) (rest : List Symbol) (behind : Option Fault) → ValueDerives v scope → check_value v scope d holder rest behind ≡ None → stops rest ≡ true → StaysBare v rest
    → value_with d scope holder w (value_text v rest) ≡ Ok (value_in v scope rest, rest)

abbrev pub SequenceLaw : Sequence → ℕ → Type 0
SequenceLaw q d =
    (c : Closer) (scope : Scope) (w : What) (more : List Symbol) (behind : Option Fault) → is_end_of c more ≡ true → closes more ≡ true → SequenceDerives q scope → check_sequence q scope d more behind ≡ None
    → sequence_at (statement_with d) c scope w (sequence_text q more) ≡ Ok (sequence_of q scope more, more)

abbrev ArgumentsLaw : Arguments → ℕ → Type 0
ArgumentsLaw vs d =
    (scope : Scope) (room n most : ℕ) (before : Values) (rest : List Symbol) (behind : Option Fault) → n + room ≡ most → ArgumentsDerive vs scope → check_arguments vs scope d n most (t.CloseCurly ∷ rest) behind ≡ None
    → arguments_at (value_with d) scope room before (arguments_text vs (t.CloseCurly ∷ rest)) ≡ Ok (behind_values before (arguments_of vs scope (t.CloseCurly ∷ rest)), rest)

abbrev WantedLaw : Arguments → ℕ → Type 0
WantedLaw vs d =
    (scope : Scope) (k n most : ℕ) (before : Values) (rest : List Symbol) (behind : Option Fault) → count_arguments vs ≡ k → ArgumentsDerive vs scope → check_arguments vs scope d n most (t.CloseCurly ∷ rest) behind ≡ None
    → wanted_at (value_with d) scope k before (arguments_text vs (t.CloseCurly ∷ rest)) ≡ Ok (behind_values before (arguments_of vs scope (t.CloseCurly ∷ rest)), rest)

operand_is : (p : Primary) (d : ℕ) (scope : Scope) (rest : List Symbol) → part_at (below d) d scope None what.Value (primary_text p rest) ≡ selections_at (levels_behind p d) scope (length (primary_text p rest)) (primary_of p scope rest) rest → stops rest ≡ true
    → operand_at (below d) d scope (primary_text p rest) ≡ Ok (primary_of p scope rest, rest)
operand_is p d scope rest part ends =
    then_read (part_at (below d) d scope None what.Value (primary_text p rest)) (λ q. Ok (q.0.0, q.1)) ((primary_of p scope rest, levels_behind p d), rest) (Ok (primary_of p scope rest, rest))
    (part ∙ last_selection (levels_behind p d) scope (length (primary_text p rest)) (primary_of p scope rest) rest (stops_no_dot rest ends)) refl

call_is : (o : Option BuiltIn) (vs : Arguments) (p : List ℕ) (d : ℕ) (wanted : WantedLaw vs d) (all : ArgumentsLaw vs d) (scope : Scope) (rest : List Symbol) (behind : Option Fault) → LacksOneArgument o vs × ArgumentsDerive vs scope → called_fault o scope p ≡ None → check_arguments vs scope d 0 (most_arguments o 63) (t.CloseCurly ∷ rest) behind ≡ None
    → called_at (value_with d) AsValue scope o p (arguments_text vs (t.CloseCurly ∷ rest)) ≡ Ok ((o, declaration_of scope p, arguments_of vs scope (t.CloseCurly ∷ rest)), rest)
call_is (Some b) vs p d wanted all scope rest behind good ok e = wanted_called b d AsValue scope p (arguments_text vs (t.CloseCurly ∷ rest)) rest (arguments_of vs scope (t.CloseCurly ∷ rest)) (wanted scope (arity_of b - 1) 0 64 no_values rest behind (one_fewer b (count_arguments vs) good.0) good.1 e)
call_is None vs p d wanted all scope rest behind good ok e = procedure_called d AsValue scope p (arguments_text vs (t.CloseCurly ∷ rest)) rest (arguments_of vs scope (t.CloseCurly ∷ rest)) ok (all scope 63 0 63 no_values rest behind refl good.1 e)

statement_call_is : (o : Option BuiltIn) (vs : Arguments) (p : List ℕ) (d : ℕ) (wanted : WantedLaw vs d) (all : ArgumentsLaw vs d) (scope : Scope) (rest : List Symbol) (behind : Option Fault) → HasAllArguments o vs × ArgumentsDerive vs scope → called_fault o scope p ≡ None → check_arguments vs scope d 0 (most_arguments o 64) (t.CloseCurly ∷ rest) behind ≡ None
    → called_at (value_with d) AsStatement scope o p (arguments_text vs (t.CloseCurly ∷ rest)) ≡ Ok ((o, declaration_of scope p, arguments_of vs scope (t.CloseCurly ∷ rest)), rest)
statement_call_is (Some b) vs p d wanted all scope rest behind good ok e = wanted_called b d AsStatement scope p (arguments_text vs (t.CloseCurly ∷ rest)) rest (arguments_of vs scope (t.CloseCurly ∷ rest)) (wanted scope (arity_of b) 0 64 no_values rest behind good.0 good.1 e)
statement_call_is None vs p d wanted all scope rest behind good ok e = procedure_called d AsStatement scope p (arguments_text vs (t.CloseCurly ∷ rest)) rest (arguments_of vs scope (t.CloseCurly ∷ rest)) ok (all scope 64 0 64 no_values rest behind refl good.1 e)

if_is : (c a b : Value) (d : ℕ) (lc : ValueLaw c d) (la : ValueLaw a d) (lb : ValueLaw b d) (scope : Scope) (left : ℕ) (rest : List Symbol) (behind : Option Fault) → ValueDerives c scope × ValueDerives a scope × ValueDerives b scope
    → check_value c scope d None (t.Then ∷ value_text a (t.Else ∷ value_text b (t.End ∷ rest))) (check_value a scope d None (t.Else ∷ value_text b (t.End ∷ rest)) (check_value b scope d None (t.End ∷ rest) behind)) ≡ None
    → if_value_at (value_with d) scope left (value_text c (t.Then ∷ value_text a (t.Else ∷ value_text b (t.End ∷ rest))))
    ≡ Ok (sugar.If left (value_in c scope (t.Then ∷ value_text a (t.Else ∷ value_text b (t.End ∷ rest)))) (value_in a scope (t.Else ∷ value_text b (t.End ∷ rest))) (value_in b scope (t.End ∷ rest)), rest)
if_is c a b d lc la lb scope left rest behind good e =
    let ea = value_on c scope d None _ _ e in
    let eb = value_on a scope d None _ _ ea in
    then_read (value_with d scope None what.Value (value_text c (t.Then ∷ value_text a (t.Else ∷ value_text b (t.End ∷ rest))))) _ _ _ (lc scope None what.Value (t.Then ∷ value_text a (t.Else ∷ value_text b (t.End ∷ rest))) _ good.0 e refl (and_false (ends_in_atom c)))
    (then_read (value_with d scope None what.Value (value_text a (t.Else ∷ value_text b (t.End ∷ rest)))) _ _ _ (la scope None what.Value (t.Else ∷ value_text b (t.End ∷ rest)) _ good.1 ea refl (and_false (ends_in_atom a)))
    (then_read (value_with d scope None what.Value (value_text b (t.End ∷ rest))) _ _ _ (lb scope None what.Value (t.End ∷ rest) behind good.2 eb refl (and_false (ends_in_atom b))) refl))

value_clause_is : (p : grammar.Pattern) (v : Value) (d : ℕ) (law : ValueLaw v d) (scope : Scope) (more : List Symbol) (behind : Option Fault) → ValueDerives v (scope ++ pattern_names p) → check_pattern p scope (t.Then ∷ value_text v more) (check_value v (scope ++ pattern_names p) d None more behind) ≡ None → closes more ≡ true
    → value_clause_at (value_with d) scope (pattern_text p (t.Then ∷ value_text v more)) ≡ Ok ((pattern_of p, value_in v (scope ++ pattern_names p) more), more)
value_clause_is p v d law scope more behind good e ends =
    rw (pattern_read p scope (value_text v more) _ e) (then_read (value_with d (scope ++ pattern_names p) None what.Value (value_text v more)) _ _ _ (law (scope ++ pattern_names p) None what.Value more behind good (pattern_on p scope _ _ e) (closes_stops more ends) (closes_bare v more ends)) refl)

body_is : (q : Sequence) (d : ℕ) (law : SequenceLaw q d) (scope : Scope) (rest : List Symbol) (behind : Option Fault) → SequenceDerives q scope → check_sequence q scope d (t.End ∷ rest) behind ≡ None → body_at (statement_with d) scope (sequence_text q (t.End ∷ rest)) ≡ Ok (sequence_of q scope (t.End ∷ rest), rest)
body_is q d law scope rest behind good e = then_read (sequence_at (statement_with d) closer.End scope what.Statement (sequence_text q (t.End ∷ rest))) _ _ _ (law closer.End scope what.Statement (t.End ∷ rest) behind refl refl good e) refl

procedure_is : (xs : List (List ℕ)) (q : Sequence) (d : ℕ) (law : SequenceLaw q d) (scope : Scope) (left : ℕ) (rest : List Symbol) (behind : Option Fault) → SequenceDerives q (scope ++ xs) → check_formals OfProc [] xs (t.CloseCurly ∷ sequence_text q (t.End ∷ rest)) (check_sequence q (scope ++ xs) d (t.End ∷ rest) behind) ≡ None
    → callable_at (readers_over (below d) d) OfProc scope left (names_text xs (t.CloseCurly ∷ sequence_text q (t.End ∷ rest))) ≡ Ok (sugar.Proc left (length xs) (sequence_of q (scope ++ xs) (t.End ∷ rest)), rest)
procedure_is xs q d law scope left rest behind good e =
    then_read (formals_at OfProc [] (names_text xs (t.CloseCurly ∷ sequence_text q (t.End ∷ rest)))) _ _ _ (formals_checked xs [] OfProc (sequence_text q (t.End ∷ rest)) _ e)
    (then_read (body_at (statement_with d) (scope ++ xs) (sequence_text q (t.End ∷ rest))) _ _ _ (body_is q d law (scope ++ xs) rest behind good (formals_on xs [] OfProc (t.CloseCurly ∷ sequence_text q (t.End ∷ rest)) _ e)) refl)

function_is : (xs : List (List ℕ)) (v : Value) (d : ℕ) (law : ValueLaw v d) (scope : Scope) (left : ℕ) (rest : List Symbol) (behind : Option Fault) → ValueDerives v (scope ++ xs) → check_formals OfFun [] xs (t.CloseCurly ∷ value_text v (t.End ∷ rest)) (check_value v (scope ++ xs) d None (t.End ∷ rest) behind) ≡ None
    → callable_at (readers_over (below d) d) OfFun scope left (names_text xs (t.CloseCurly ∷ value_text v (t.End ∷ rest))) ≡ Ok (sugar.Fun left (length xs) (value_in v (scope ++ xs) (t.End ∷ rest)), rest)
function_is xs v d law scope left rest behind good e =
    then_read (formals_at OfFun [] (names_text xs (t.CloseCurly ∷ value_text v (t.End ∷ rest)))) _ _ _ (formals_checked xs [] OfFun (value_text v (t.End ∷ rest)) _ e)
    (then_read (value_with d (scope ++ xs) None what.Value (value_text v (t.End ∷ rest))) _ _ _ (law (scope ++ xs) None what.Value (t.End ∷ rest) behind good (formals_on xs [] OfFun (t.CloseCurly ∷ value_text v (t.End ∷ rest)) _ e) refl (and_false (ends_in_atom v))) refl)

branch_is : (p : grammar.Pattern) (q : Sequence) (d : ℕ) (law : SequenceLaw q d) (scope : Scope) (more : List Symbol) (behind : Option Fault) → SequenceDerives q (scope ++ pattern_names p) → check_pattern p scope (t.Then ∷ sequence_text q more) (check_sequence q (scope ++ pattern_names p) d more behind) ≡ None → is_end_of closer.OfClause more ≡ true → closes more ≡ true
    → clause_at (statement_with d) scope (pattern_text p (t.Then ∷ sequence_text q more)) ≡ Ok ((pattern_of p, sequence_of q (scope ++ pattern_names p) more), more)
branch_is p q d law scope more behind good e end ends =
    rw (pattern_read p scope (sequence_text q more) _ e) (then_read (sequence_at (statement_with d) closer.OfClause (scope ++ pattern_names p) what.Statement (sequence_text q more)) _ _ _ (law closer.OfClause (scope ++ pattern_names p) what.Statement more behind end ends good (pattern_on p scope _ _ e)) refl)

abbrev ClausesLaw : ValueClauses → grammar.Pattern → Value → ℕ → Type 0
ClausesLaw cs p v d =
    (scope : Scope) (fuel : ℕ) (before : sugar.ValueClauses) (more : List Symbol) (behind : Option Fault) → length (pattern_text p (t.Then ∷ value_text v (value_clauses_text cs (t.Else ∷ more)))) < fuel
    → ValueDerives v (scope ++ pattern_names p) → ValueClausesDerive cs scope
    → check_pattern p scope (t.Then ∷ value_text v (value_clauses_text cs (t.Else ∷ more))) (check_value v (scope ++ pattern_names p) d None (value_clauses_text cs (t.Else ∷ more)) (check_value_clauses cs scope d (t.Else ∷ more) behind)) ≡ None
    → value_clauses_at (value_with d) scope fuel before (pattern_text p (t.Then ∷ value_text v (value_clauses_text cs (t.Else ∷ more))))
    ≡ Ok (behind_value_clauses before (sugar.clause_and (pattern_of p) (value_in v (scope ++ pattern_names p) (value_clauses_text cs (t.Else ∷ more))) (value_clauses_of cs scope (t.Else ∷ more))), more)

case_is : (c : Value) (p : grammar.Pattern) (v : Value) (cs : ValueClauses) (b : Value) (d : ℕ) (lc : ValueLaw c d) (lb : ValueLaw b d) (clauses : ClausesLaw cs p v d) (scope : Scope) (left : ℕ) (rest : List Symbol) (behind : Option Fault) → ValueDerives (CaseValue c p v cs b) scope
    → check_value c scope d None (t.Of ∷ pattern_text p (t.Then ∷ value_text v (value_clauses_text cs (t.Else ∷ value_text b (t.End ∷ rest)))))
    (check_pattern p scope (t.Then ∷ value_text v (value_clauses_text cs (t.Else ∷ value_text b (t.End ∷ rest)))) (check_value v (scope ++ pattern_names p) d None (value_clauses_text cs (t.Else ∷ value_text b (t.End ∷ rest))) (check_value_clauses cs scope d (t.Else ∷ value_text b (t.End ∷ rest)) (check_value b scope d None (t.End ∷ rest) behind)))) ≡ None
    → case_value_at (value_with d) scope left (value_text c (t.Of ∷ pattern_text p (t.Then ∷ value_text v (value_clauses_text cs (t.Else ∷ value_text b (t.End ∷ rest))))))
    ≡ Ok (
      sugar.Case left (value_in c scope (t.Of ∷ pattern_text p (t.Then ∷ value_text v (value_clauses_text cs (t.Else ∷ value_text b (t.End ∷ rest))))))
          (sugar.clause_and (pattern_of p) (value_in v (scope ++ pattern_names p) (value_clauses_text cs (t.Else ∷ value_text b (t.End ∷ rest)))) (value_clauses_of cs scope (t.Else ∷ value_text b (t.End ∷ rest)))) (value_in b scope (t.End ∷ rest)),
      rest,
    )
case_is c p v cs b d lc lb clauses scope left rest behind good e =
    let more : List Symbol = value_text b (t.End ∷ rest) in
    let text : List Symbol = pattern_text p (t.Then ∷ value_text v (value_clauses_text cs (t.Else ∷ more))) in
    let ep = value_on c scope d None _ _ e in
    let eb = value_clauses_on cs scope d _ _ (value_on v (scope ++ pattern_names p) d None _ _ (pattern_on p scope _ _ ep)) in
    then_read (value_with d scope None what.Value (value_text c (t.Of ∷ text))) _ _ _ (lc scope None what.Value (t.Of ∷ text) _ good.0 e refl (and_false (ends_in_atom c)))
    (then_read (value_clauses_at (value_with d) scope (length text + 1) sugar.no_clauses text) _ _ _ (clauses scope (length text + 1) sugar.no_clauses more _ (omega arith) good.1 good.2 ep)
    (then_read (value_with d scope None what.Value more) _ _ _ (lb scope None what.Value (t.End ∷ rest) behind good.3 eb refl (and_false (ends_in_atom b))) refl))

mutual
  unfolding below

  pub primary_is : (p : Primary) (d : ℕ) (scope : Scope) (holder : Option FaultKind) (w : What) (rest : List Symbol) (behind : Option Fault) → PrimaryDerives p scope → check_primary p scope d holder rest behind ≡ None → (is_atom p && begins_round rest) ≡ false
      → part_at (below d) d scope holder w (primary_text p rest) ≡ selections_at (levels_behind p d) scope (length (primary_text p rest)) (primary_of p scope rest) rest
  primary_is (Variable x) d scope holder w rest behind good e bare = let s = stopped (or_else holder (use_fault scope x)) _ behind e in rw s.0 refl
  primary_is (Integer n) d scope holder w rest behind good e bare = let s = stopped (or_else (number_fault n) (or_else (deep_fault d) holder)) _ behind e in rw s.0 refl
  primary_is (Atom a) d scope holder w rest behind good e bare =
      let s = stopped (or_else (deep_fault d) holder) _ behind e in
      compound_then d holder (t.Atom a ∷ rest) scope (length (t.Atom a ∷ rest)) (atom_at (below d).value scope (length (t.Atom a ∷ rest)) a rest) (sugar.Atom (length (t.Atom a ∷ rest)) a) rest s.0 (atom_plain (below d).value scope (length (t.Atom a ∷ rest)) a rest bare)
  primary_is (Record a fs) zero scope holder w rest behind good e bare = cc
  primary_is (Record a fs) (suc d) scope holder w rest behind good e bare =
      let s = stopped (or_else (deep_fault (suc d)) holder) _ _ e in
      let symbols : List Symbol = primary_text (Record a fs) rest in
      compound_then (suc d) holder symbols scope (length symbols) (fields_at (value_with d) scope 64 ([], no_values, 1) (fields_text fs (t.CloseRound ∷ rest)) >>= λ m. Ok (record_value (length symbols) a m.0.0 m.0.1, m.1)) (primary_of (Record a fs) scope rest) rest s.0
      (fields_are fs d scope 64 [] ([], no_values, 1) (length symbols) a rest behind same_no_fields good s.1)
  primary_is (Calls p vs) zero scope holder w rest behind good e bare = cc
  primary_is (Calls p vs) (suc d) scope holder w rest behind good e bare =
      let s = stopped (or_else (deep_fault (suc d)) holder) _ _ e in
      let c = stopped (called_fault (built_in_at scope p) scope p) _ _ s.1 in
      let symbols : List Symbol = primary_text (Calls p vs) rest in
      let called = call_is (built_in_at scope p) vs p d (wanted_are vs d) (arguments_are vs d) scope rest behind good c.0 c.1 in
      compound_then (suc d) holder symbols scope (length symbols) (call_value_at (value_with d) scope (length symbols) (t.Variable p ∷ arguments_text vs (t.CloseCurly ∷ rest))) (primary_of (Calls p vs) scope rest) rest s.0
      (then_read (called_at (value_with d) AsValue scope (built_in_at scope p) p (arguments_text vs (t.CloseCurly ∷ rest))) (λ k. Ok (call_value k.0.0 (length symbols) k.0.1 k.0.2, k.1)) ((built_in_at scope p, declaration_of scope p, arguments_of vs scope (t.CloseCurly ∷ rest)), rest) (Ok (primary_of (Calls p vs) scope rest, rest)) called refl)
  primary_is (Procedure xs q) zero scope holder w rest behind good e bare = cc
  primary_is (Procedure xs q) (suc d) scope holder w rest behind good e bare =
      let s = stopped (or_else (deep_fault (suc d)) holder) _ _ e in
      let symbols : List Symbol = primary_text (Procedure xs q) rest in
      compound_then (suc d) holder symbols scope (length symbols) (callable_at (readers_over (below d) d) OfProc scope (length symbols) (names_text xs (t.CloseCurly ∷ sequence_text q (t.End ∷ rest)))) (primary_of (Procedure xs q) scope rest) rest s.0
      (procedure_is xs q d (sequence_is q d) scope (length symbols) rest behind good s.1)
  primary_is (Function xs v) zero scope holder w rest behind good e bare = cc
  primary_is (Function xs v) (suc d) scope holder w rest behind good e bare =
      let s = stopped (or_else (deep_fault (suc d)) holder) _ _ e in
      let symbols : List Symbol = primary_text (Function xs v) rest in
      compound_then (suc d) holder symbols scope (length symbols) (callable_at (readers_over (below d) d) OfFun scope (length symbols) (names_text xs (t.CloseCurly ∷ value_text v (t.End ∷ rest)))) (primary_of (Function xs v) scope rest) rest s.0
      (function_is xs v d (value_is v d) scope (length symbols) rest behind good s.1)
  primary_is (Brackets v) zero scope holder w rest behind good e bare = cc
  primary_is (Brackets v) (suc d) scope holder w rest behind good e bare =
      let s = stopped (or_else (deep_fault (suc d)) holder) _ _ e in
      let symbols : List Symbol = primary_text (Brackets v) rest in
      compound_then (suc d) holder symbols scope (length symbols) (brackets_at (value_with d) scope (length symbols) (value_text v (t.CloseRound ∷ rest))) (primary_of (Brackets v) scope rest) rest s.0
      (then_read (value_with d scope None what.Value (value_text v (t.CloseRound ∷ rest))) (λ u. sign_at sign.CloseRound u.1 >>= λ more. Ok (sugar.Brackets (length symbols) u.0, more)) (value_in v scope (t.CloseRound ∷ rest), t.CloseRound ∷ rest) (Ok (primary_of (Brackets v) scope rest, rest))
      (value_is v d scope None what.Value (t.CloseRound ∷ rest) behind good s.1 refl (and_false (ends_in_atom v))) refl)
  primary_is (Selects p k) d scope holder w rest behind good e bare =
      let s = stopped (deep_fault (levels_behind p d)) _ _ (primary_on p scope d holder _ _ e) in
      primary_is p d scope holder w (t.Dot ∷ selection_symbol k ∷ rest) _ good e (and_false (is_atom p))
      ∙ one_selection (levels_behind p d) k scope (length (primary_text (Selects p k) rest)) (primary_of p scope (t.Dot ∷ selection_symbol k ∷ rest)) rest behind s.0 s.1

  pub tail_is : (l : Tail) (d : ℕ) (scope : Scope) (rest : List Symbol) (behind : Option Fault) → TailDerives l scope → check_tail l scope d rest behind ≡ None → stops rest ≡ true → (tail_ends_in_atom l && begins_round rest) ≡ false
      → tail_at (below d) d scope (tail_text l rest) ≡ Ok (tail_of l scope rest, rest)
  tail_is (Last p) d scope rest behind good e ends bare =
      then_read (part_at (below d) d scope None what.Value (primary_text p rest)) (λ q. behind_head_at (below d) scope (length (primary_text p rest)) q.0 q.1) ((primary_of p scope rest, levels_behind p d), rest) (Ok (primary_of p scope rest, rest))
      (primary_is p d scope None what.Value rest behind good e bare ∙ last_selection (levels_behind p d) scope (length (primary_text p rest)) (primary_of p scope rest) rest (stops_no_dot rest ends)) (head_alone (below d) scope (length (primary_text p rest)) (primary_of p scope rest, levels_behind p d) rest ends)
  tail_is (More p l) zero scope rest behind good e ends bare = absurd (no_part p scope None (t.Bar ∷ tail_text l rest) _ _ e)
  tail_is (More p l) (suc d) scope rest behind good e ends bare =
      let s = stopped (deep_fault (levels_behind p (suc d))) _ _ (primary_on p scope (suc d) None _ _ e) in
      let left : ℕ = length (tail_text (More p l) rest) in
      let more : List Symbol = t.Bar ∷ tail_text l rest in
      then_read (part_at (below (suc d)) (suc d) scope None what.Value (primary_text p more)) (λ q. behind_head_at (below (suc d)) scope left q.0 q.1) ((primary_of p scope more, levels_behind p (suc d)), more) (Ok (tail_of (More p l) scope rest, rest))
      (primary_is p (suc d) scope None what.Value more _ good.0 e (and_false (is_atom p)) ∙ last_selection (levels_behind p (suc d)) scope left (primary_of p scope more) more refl)
      (bar_is (levels_behind p (suc d)) d scope left (primary_of p scope more) (tail_of l scope rest) (tail_text l rest) rest s.0 (tail_is l d scope rest behind good.1 s.1 ends bare))

  pub value_is : (v : Value) (d : ℕ) (scope : Scope) (holder : Option FaultKind) (w : What) (rest : List Symbol) (behind : Option Fault) → ValueDerives v scope → check_value v scope d holder rest behind ≡ None → stops rest ≡ true → StaysBare v rest
      → value_with d scope holder w (value_text v rest) ≡ Ok (value_in v scope rest, rest)
  value_is (Alone p) d scope holder w rest behind good e ends bare =
      whole_at p (below d) d scope holder w rest
      ∙ then_read (part_at (below d) d scope holder w (primary_text p rest)) (λ q. behind_part_at (below d) scope (length (primary_text p rest)) q.0 q.1) ((primary_of p scope rest, levels_behind p d), rest) (Ok (primary_of p scope rest, rest))
      (primary_is p d scope holder w rest behind good e bare ∙ last_selection (levels_behind p d) scope (length (primary_text p rest)) (primary_of p scope rest) rest (stops_no_dot rest ends)) (behind_nothing (below d) scope (length (primary_text p rest)) (primary_of p scope rest, levels_behind p d) rest ends)
  value_is (Calculates p o q) zero scope holder w rest behind good e ends bare = absurd (no_part p scope holder (t.Operator o ∷ primary_text q rest) _ _ e)
  value_is (Calculates p o q) (suc d) scope holder w rest behind good e ends bare =
      let s = stopped (deep_fault (levels_behind p (suc d))) _ _ (primary_on p scope (suc d) holder _ _ e) in
      let left : ℕ = length (value_text (Calculates p o q) rest) in
      let more : List Symbol = t.Operator o ∷ primary_text q rest in
      whole_at p (below (suc d)) (suc d) scope holder w more
      ∙ then_read (part_at (below (suc d)) (suc d) scope holder w (primary_text p more)) (λ k. behind_part_at (below (suc d)) scope left k.0 k.1) ((primary_of p scope more, levels_behind p (suc d)), more) (Ok (value_in (Calculates p o q) scope rest, rest))
      (primary_is p (suc d) scope holder w more _ good.0 e (and_false (is_atom p)) ∙ last_selection (levels_behind p (suc d)) scope left (primary_of p scope more) more refl)
      (second_is (levels_behind p (suc d)) d (operation.Calc o) scope left (primary_of p scope more) (primary_of q scope rest) (t.Operator o) (primary_text q rest) rest s.0 (operand_is q d scope rest (primary_is q d scope None what.Value rest behind good.1 s.1 bare) ends))
  value_is (Tests p o q) zero scope holder w rest behind good e ends bare = absurd (no_part p scope holder (t.Test o ∷ primary_text q rest) _ _ e)
  value_is (Tests p o q) (suc d) scope holder w rest behind good e ends bare =
      let s = stopped (deep_fault (levels_behind p (suc d))) _ _ (primary_on p scope (suc d) holder _ _ e) in
      let left : ℕ = length (value_text (Tests p o q) rest) in
      let more : List Symbol = t.Test o ∷ primary_text q rest in
      whole_at p (below (suc d)) (suc d) scope holder w more
      ∙ then_read (part_at (below (suc d)) (suc d) scope holder w (primary_text p more)) (λ k. behind_part_at (below (suc d)) scope left k.0 k.1) ((primary_of p scope more, levels_behind p (suc d)), more) (Ok (value_in (Tests p o q) scope rest, rest))
      (primary_is p (suc d) scope holder w more _ good.0 e (and_false (is_atom p)) ∙ last_selection (levels_behind p (suc d)) scope left (primary_of p scope more) more refl)
      (second_is (levels_behind p (suc d)) d (operation.Test o) scope left (primary_of p scope more) (primary_of q scope rest) (t.Test o) (primary_text q rest) rest s.0 (operand_is q d scope rest (primary_is q d scope None what.Value rest behind good.1 s.1 bare) ends))
  value_is (Pairs p l) zero scope holder w rest behind good e ends bare = absurd (no_part p scope holder (t.Bar ∷ tail_text l rest) _ _ e)
  value_is (Pairs p l) (suc d) scope holder w rest behind good e ends bare =
      let s = stopped (deep_fault (levels_behind p (suc d))) _ _ (primary_on p scope (suc d) holder _ _ e) in
      let left : ℕ = length (value_text (Pairs p l) rest) in
      let more : List Symbol = t.Bar ∷ tail_text l rest in
      whole_at p (below (suc d)) (suc d) scope holder w more
      ∙ then_read (part_at (below (suc d)) (suc d) scope holder w (primary_text p more)) (λ k. behind_part_at (below (suc d)) scope left k.0 k.1) ((primary_of p scope more, levels_behind p (suc d)), more) (Ok (value_in (Pairs p l) scope rest, rest))
      (primary_is p (suc d) scope holder w more _ good.0 e (and_false (is_atom p)) ∙ last_selection (levels_behind p (suc d)) scope left (primary_of p scope more) more refl)
      (bar_is (levels_behind p (suc d)) d scope left (primary_of p scope more) (tail_of l scope rest) (tail_text l rest) rest s.0 (tail_is l d scope rest behind good.1 s.1 ends bare))
  value_is (IfValue c a b) zero scope holder w rest behind good e ends bare = cc
  value_is (IfValue c a b) (suc d) scope holder w rest behind good e ends bare =
      let s = stopped (or_else (deep_fault (suc d)) holder) _ _ e in
      passes (or_else (deep_fault (suc d)) holder) (value_text (IfValue c a b) rest) _ s.0 ∙ if_is c a b d (value_is c d) (value_is a d) (value_is b d) scope (length (value_text (IfValue c a b) rest)) rest behind good s.1
  value_is (CaseValue c p v cs b) zero scope holder w rest behind good e ends bare = cc
  value_is (CaseValue c p v cs b) (suc d) scope holder w rest behind good e ends bare =
      let s = stopped (or_else (deep_fault (suc d)) holder) _ _ e in
      passes (or_else (deep_fault (suc d)) holder) (value_text (CaseValue c p v cs b) rest) _ s.0 ∙ case_is c p v cs b d (value_is c d) (value_is b d) (value_clauses_are cs p v d (value_is v d)) scope (length (value_text (CaseValue c p v cs b) rest)) rest behind good s.1

  arguments_are : (vs : Arguments) (d : ℕ) (scope : Scope) (room n most : ℕ) (before : Values) (rest : List Symbol) (behind : Option Fault) → n + room ≡ most → ArgumentsDerive vs scope → check_arguments vs scope d n most (t.CloseCurly ∷ rest) behind ≡ None
      → arguments_at (value_with d) scope room before (arguments_text vs (t.CloseCurly ∷ rest)) ≡ Ok (behind_values before (arguments_of vs scope (t.CloseCurly ∷ rest)), rest)
  arguments_are no_arguments d scope room n most before rest behind same good e = arguments_close (value_with d) scope room before rest ∙ ap (λ (us : Values). Ok (us, rest)) (sym (none_behind before))
  arguments_are (argument_and v vs) d scope room n most before rest behind same good e =
      let text : List Symbol = arguments_text vs (t.CloseCurly ∷ rest) in
      let k = room_left n room most same (value_holder v scope d (argument_fault n most) text _ e) in
      let there = k.1 in
      subst (λ (m : ℕ). arguments_at (value_with d) scope m before (value_text v text) ≡ Ok (behind_values before (arguments_of (argument_and v vs) scope (t.CloseCurly ∷ rest)), rest)) (sym k.1)
      (arguments_more (value_with d) scope k.0 before (value_text v text) (value_in v scope text) text (value_open v text)
      (value_is v d scope None what.ValueOrClose text _ good.0 (same_holder v scope d (argument_fault n most) text _ e) (arguments_stop vs rest) (moved_bare v text (arguments_text vs []) (arguments_round vs rest) good.1))
      ∙ arguments_are vs d scope k.0 (n + 1) most (with_last before (value_in v scope text)) rest behind (omega (arith, same, there)) good.2 (value_on v scope d (argument_fault n most) text _ e)
      ∙ ap (λ (us : Values). Ok (us, rest)) (one_behind before (value_in v scope text) (arguments_of vs scope (t.CloseCurly ∷ rest))))

  wanted_are : (vs : Arguments) (d : ℕ) (scope : Scope) (k n most : ℕ) (before : Values) (rest : List Symbol) (behind : Option Fault) → count_arguments vs ≡ k → ArgumentsDerive vs scope → check_arguments vs scope d n most (t.CloseCurly ∷ rest) behind ≡ None
      → wanted_at (value_with d) scope k before (arguments_text vs (t.CloseCurly ∷ rest)) ≡ Ok (behind_values before (arguments_of vs scope (t.CloseCurly ∷ rest)), rest)
  wanted_are no_arguments d scope zero n most before rest behind same good e = wanted_closes (value_with d) scope before rest ∙ ap (λ (us : Values). Ok (us, rest)) (sym (none_behind before))
  wanted_are no_arguments d scope (suc k) n most before rest behind same good e = absurd cc
  wanted_are (argument_and v vs) d scope zero n most before rest behind same good e = absurd cc
  wanted_are (argument_and v vs) d scope (suc k) n most before rest behind same good e =
      let text : List Symbol = arguments_text vs (t.CloseCurly ∷ rest) in
      wanted_more (value_with d) scope k before (value_text v text) (value_in v scope text) text
      (value_is v d scope None what.Value text _ good.0 (same_holder v scope d (argument_fault n most) text _ e) (arguments_stop vs rest) (moved_bare v text (arguments_text vs []) (arguments_round vs rest) good.1))
      ∙ wanted_are vs d scope k (n + 1) most (with_last before (value_in v scope text)) rest behind (omega (arith, same)) good.2 (value_on v scope d (argument_fault n most) text _ e)
      ∙ ap (λ (us : Values). Ok (us, rest)) (one_behind before (value_in v scope text) (arguments_of vs scope (t.CloseCurly ∷ rest)))

  fields_are : (fs : tree.Fields) (d : ℕ) (scope : Scope) (room : ℕ) (before : List Feature) (m : FieldsSoFar) (left : ℕ) (a : List ℕ) (rest : List Symbol) (behind : Option Fault) → Same before m → FieldsDerive fs scope → check_fields fs scope d room before m.2 (t.CloseRound ∷ rest) behind ≡ None
      → (fields_at (value_with d) scope room m (fields_text fs (t.CloseRound ∷ rest)) >>= AsRecord left a) ≡ Ok (fields_in fs scope m.2 (count_values m.1) m.0 m.1 (t.CloseRound ∷ rest) left a, rest)
  fields_are no_fields d scope room before m left a rest behind same good e = ap (λ (r : Read FieldsSoFar). r >>= AsRecord left a) (fields_close (value_with d) scope room m rest)
  fields_are (placed_and v fs) d scope room before m left a rest behind same good e =
      let text : List Symbol = fields_text fs (t.CloseRound ∷ rest) in
      let u : sugar.Value = value_in v scope text in
      let ok = value_holder v scope d (given_fault room before (place_feature m.2)) text _ e in
      let one = value_is v d scope None what.FieldOrBracket text _ good.0 (same_holder v scope d (given_fault room before (place_feature m.2)) text _ e) (fields_stop fs rest) (moved_bare v text (fields_text fs []) (fields_round fs rest) good.1) in
      ap (λ (r : Read FieldsSoFar). r >>= AsRecord left a) (placed_more (value_with d) scope room before m v u text same ok (stops_no_colon text (fields_stop fs rest)) one)
      ∙ fields_are fs d scope (fewer room) (place_feature m.2 ∷ before) (with_one (place_feature m.2) u (m.2 + 1) m) left a rest behind (same_more before m (place_feature m.2) u (m.2 + 1) same) good.2 (value_on v scope d (given_fault room before (place_feature m.2)) text _ e)
      ∙ ap (λ (i : ℕ). Ok (fields_in fs scope (m.2 + 1) i (with_field (place_feature m.2) (field_of u (count_values m.1)) m.0) (with_value m.1 u) (t.CloseRound ∷ rest) left a, rest)) (counted m.1 u)
  fields_are (named_and f v fs) d scope room before m left a rest behind same good e =
      let text : List Symbol = fields_text fs (t.CloseRound ∷ rest) in
      let u : sugar.Value = value_in v scope text in
      let s = stopped (named_fault room before f) _ _ e in
      let one = value_is v d scope None what.Value text _ good.0 s.1 (fields_stop fs rest) (moved_bare v text (fields_text fs []) (fields_round fs rest) good.1) in
      ap (λ (r : Read FieldsSoFar). r >>= AsRecord left a) (feature_more (value_with d) scope room before m f u (value_text v text) text same s.0 one)
      ∙ fields_are fs d scope (fewer room) (feature_of f ∷ before) (with_one (feature_of f) u m.2 m) left a rest behind (same_more before m (feature_of f) u m.2 same) good.2 (value_on v scope d None text _ s.1)
      ∙ ap (λ (i : ℕ). Ok (fields_in fs scope m.2 i (with_field (feature_of f) (field_of u (count_values m.1)) m.0) (with_value m.1 u) (t.CloseRound ∷ rest) left a, rest)) (counted m.1 u)

  value_clauses_are : (cs : ValueClauses) (p : grammar.Pattern) (v : Value) (d : ℕ) (law : ValueLaw v d) (scope : Scope) (fuel : ℕ) (before : sugar.ValueClauses) (more : List Symbol) (behind : Option Fault) → length (pattern_text p (t.Then ∷ value_text v (value_clauses_text cs (t.Else ∷ more)))) < fuel
      → ValueDerives v (scope ++ pattern_names p) → ValueClausesDerive cs scope
      → check_pattern p scope (t.Then ∷ value_text v (value_clauses_text cs (t.Else ∷ more))) (check_value v (scope ++ pattern_names p) d None (value_clauses_text cs (t.Else ∷ more)) (check_value_clauses cs scope d (t.Else ∷ more) behind)) ≡ None
      → value_clauses_at (value_with d) scope fuel before (pattern_text p (t.Then ∷ value_text v (value_clauses_text cs (t.Else ∷ more))))
      ≡ Ok (behind_value_clauses before (sugar.clause_and (pattern_of p) (value_in v (scope ++ pattern_names p) (value_clauses_text cs (t.Else ∷ more))) (value_clauses_of cs scope (t.Else ∷ more))), more)
  value_clauses_are cs p v d law scope zero before more behind lt good rest e = absurd (omega (arith, lt))
  value_clauses_are tree.no_clauses p v d law scope (suc fuel) before more behind lt good rest e =
      clauses_last (value_with d) scope fuel before (pattern_text p (t.Then ∷ value_text v (t.Else ∷ more))) (pattern_of p) (value_in v (scope ++ pattern_names p) (t.Else ∷ more)) more (value_clause_is p v d law scope (t.Else ∷ more) _ good e refl)
      ∙ ap (λ (cs : sugar.ValueClauses). Ok (cs, more)) (sym (no_value_clause_behind _) ∙ value_clause_behind before (pattern_of p) (value_in v (scope ++ pattern_names p) (t.Else ∷ more)) sugar.no_clauses)
  value_clauses_are (tree.clause_and o u cs) p v d law scope (suc fuel) before more behind lt good rest e =
      let text : List Symbol = pattern_text o (t.Then ∷ value_text u (value_clauses_text cs (t.Else ∷ more))) in
      let one = value_clause_is p v d law scope (t.Clause ∷ text) _ good e refl in
      let shorter = clause_shorter d scope (pattern_text p (t.Then ∷ value_text v (t.Clause ∷ text))) (pattern_of p, value_in v (scope ++ pattern_names p) (t.Clause ∷ text)) (t.Clause ∷ text) one in
      clauses_more (value_with d) scope fuel before (pattern_text p (t.Then ∷ value_text v (t.Clause ∷ text))) (pattern_of p) (value_in v (scope ++ pattern_names p) (t.Clause ∷ text)) text one
      ∙ value_clauses_are cs o u d (value_is u d) scope fuel (with_value_clause before (pattern_of p) (value_in v (scope ++ pattern_names p) (t.Clause ∷ text))) more behind (omega (arith, lt, shorter)) rest.0 rest.1 (value_on v (scope ++ pattern_names p) d None _ _ (pattern_on p scope _ _ e))
      ∙ ap (λ (cs : sugar.ValueClauses). Ok (cs, more)) (value_clause_behind before (pattern_of p) (value_in v (scope ++ pattern_names p) (t.Clause ∷ text)) (sugar.clause_and (pattern_of o) (value_in u (scope ++ pattern_names o) (value_clauses_text cs (t.Else ∷ more))) (value_clauses_of cs scope (t.Else ∷ more))))

  others_are : (q : Sequence) (d : ℕ) (c : Closer) (scope : Scope) (fuel : ℕ) (before : sugar.Statements) (more : List Symbol) (behind : Option Fault) → is_end_of c more ≡ true → closes more ≡ true → length (sequence_text q more) < fuel → SequenceDerives q scope → check_sequence q scope d more behind ≡ None
      → others_at (statement_with d) c scope fuel before (sequence_text q more) ≡ Ok (behind_statements before (sequence_of q scope more), more)
  others_are q d c scope zero before more behind end ends lt good e = absurd (omega (arith, lt))
  others_are (One s) d c scope (suc fuel) before more behind end ends lt good e =
      let one = statement_is s d scope (expected_behind c) more behind good e ends in
      let shorter = statement_shorter d scope (expected_behind c) (statement_text s more) (statement_of s scope more) more one in
      others_more (statement_with d) c scope fuel before (statement_text s more) (statement_of s scope more) more (begun_open c (statement_text s more) (begins_statement s more)) one
      ∙ others_end (statement_with d) c scope fuel (with_statement before (statement_of s scope more)) more (omega (arith, lt, shorter)) end
      ∙ ap (λ (b : sugar.Statements). Ok (b, more)) (sym (no_statement_behind _) ∙ statement_behind before (statement_of s scope more) no_statements)
  others_are (Then s q) d c scope (suc fuel) before more behind end ends lt good e =
      let text : List Symbol = sequence_text q more in
      let one = statement_is s d scope (expected_behind c) text _ good.0 e (sequence_closes q more) in
      let shorter = statement_shorter d scope (expected_behind c) (statement_text s text) (statement_of s scope text) text one in
      others_more (statement_with d) c scope fuel before (statement_text s text) (statement_of s scope text) text (begun_open c (statement_text s text) (begins_statement s text)) one
      ∙ others_are q d c scope fuel (with_statement before (statement_of s scope text)) more behind end ends (omega (arith, lt, shorter)) good.1 (statement_on s scope d text _ e)
      ∙ ap (λ (b : sugar.Statements). Ok (b, more)) (statement_behind before (statement_of s scope text) (sequence_of q scope more))

  sequence_is : (q : Sequence) (d : ℕ) (c : Closer) (scope : Scope) (w : What) (more : List Symbol) (behind : Option Fault) → is_end_of c more ≡ true → closes more ≡ true → SequenceDerives q scope → check_sequence q scope d more behind ≡ None
      → sequence_at (statement_with d) c scope w (sequence_text q more) ≡ Ok (sequence_of q scope more, more)
  sequence_is (One s) d c scope w more behind end ends good e =
      then_read (statement_with d scope w (statement_text s more)) _ _ _ (statement_is s d scope w more behind good e ends) (others_end (statement_with d) c scope (length more + 1) (statement_and (statement_of s scope more) no_statements) more (omega arith) end)
  sequence_is (Then s q) d c scope w more behind end ends good e =
      let text : List Symbol = sequence_text q more in
      then_read (statement_with d scope w (statement_text s text)) _ _ _ (statement_is s d scope w text _ good.0 e (sequence_closes q more))
      (others_are q d c scope (length text + 1) (statement_and (statement_of s scope text) no_statements) more behind end ends (omega arith) good.1 (statement_on s scope d text _ e))

  branches_are : (cs : tree.Clauses) (p : grammar.Pattern) (q : Sequence) (d : ℕ) (law : SequenceLaw q d) (scope : Scope) (fuel : ℕ) (before : sugar.Clauses) (more : List Symbol) (behind : Option Fault) → length (pattern_text p (t.Then ∷ sequence_text q (clauses_text cs (t.Else ∷ more)))) < fuel
      → SequenceDerives q (scope ++ pattern_names p) → ClausesDerive cs scope → check_pattern p scope (t.Then ∷ sequence_text q (clauses_text cs (t.Else ∷ more))) (check_sequence q (scope ++ pattern_names p) d (clauses_text cs (t.Else ∷ more)) (check_clauses cs scope d (t.Else ∷ more) behind)) ≡ None
      → clauses_at (statement_with d) scope fuel before (pattern_text p (t.Then ∷ sequence_text q (clauses_text cs (t.Else ∷ more))))
      ≡ Ok (behind_clauses before (sugar.case_and (pattern_of p) (sequence_of q (scope ++ pattern_names p) (clauses_text cs (t.Else ∷ more))) (clauses_of cs scope (t.Else ∷ more))), more)
  branches_are cs p q d law scope zero before more behind lt good rest e = absurd (omega (arith, lt))
  branches_are tree.no_cases p q d law scope (suc fuel) before more behind lt good rest e =
      branches_last (statement_with d) scope fuel before (pattern_text p (t.Then ∷ sequence_text q (t.Else ∷ more))) (pattern_of p) (sequence_of q (scope ++ pattern_names p) (t.Else ∷ more)) more (branch_is p q d law scope (t.Else ∷ more) _ good e refl refl)
      ∙ ap (λ (cs : sugar.Clauses). Ok (cs, more)) (sym (no_clause_behind _) ∙ clause_behind before (pattern_of p) (sequence_of q (scope ++ pattern_names p) (t.Else ∷ more)) sugar.no_cases)
  branches_are (tree.case_and o u cs) p q d law scope (suc fuel) before more behind lt good rest e =
      let text : List Symbol = pattern_text o (t.Then ∷ sequence_text u (clauses_text cs (t.Else ∷ more))) in
      let one = branch_is p q d law scope (t.Clause ∷ text) _ good e refl refl in
      let shorter = statement_clause_shorter d scope (pattern_text p (t.Then ∷ sequence_text q (t.Clause ∷ text))) (pattern_of p, sequence_of q (scope ++ pattern_names p) (t.Clause ∷ text)) (t.Clause ∷ text) one in
      branches_more (statement_with d) scope fuel before (pattern_text p (t.Then ∷ sequence_text q (t.Clause ∷ text))) (pattern_of p) (sequence_of q (scope ++ pattern_names p) (t.Clause ∷ text)) text one
      ∙ branches_are cs o u d (sequence_is u d) scope fuel (with_clause before (pattern_of p) (sequence_of q (scope ++ pattern_names p) (t.Clause ∷ text))) more behind (omega (arith, lt, shorter)) rest.0 rest.1 (sequence_on q (scope ++ pattern_names p) d _ _ (pattern_on p scope _ _ e))
      ∙ ap (λ (cs : sugar.Clauses). Ok (cs, more)) (clause_behind before (pattern_of p) (sequence_of q (scope ++ pattern_names p) (t.Clause ∷ text)) (sugar.case_and (pattern_of o) (sequence_of u (scope ++ pattern_names o) (clauses_text cs (t.Else ∷ more))) (clauses_of cs scope (t.Else ∷ more))))

  pub statement_is : (s : Statement) (d : ℕ) (scope : Scope) (w : What) (rest : List Symbol) (behind : Option Fault) → StatementDerives s scope → check_statement s scope d rest behind ≡ None → closes rest ≡ true → statement_with d scope w (statement_text s rest) ≡ Ok (statement_of s scope rest, rest)
  statement_is Skips zero scope w rest behind good e ends = cc
  statement_is Skips (suc d) scope w rest behind good e ends = refl
  statement_is (Tells x v) zero scope w rest behind good e ends = cc
  statement_is (Tells x v) (suc d) scope w rest behind good e ends =
      let s = stopped (use_fault scope x) _ _ e in
      then_read (used_variable_at what.Statement scope (t.Variable x ∷ t.Equals ∷ value_text v rest)) _ _ _ (used_read what.Statement scope x (t.Equals ∷ value_text v rest) s.0)
      (then_read (value_with (suc d) scope None what.Value (value_text v rest)) _ _ _ (value_is v (suc d) scope None what.Value rest behind good s.1 (closes_stops rest ends) (closes_bare v rest ends)) refl)
  statement_is (CallsStatement p vs) zero scope w rest behind good e ends = cc
  statement_is (CallsStatement p vs) (suc d) scope w rest behind good e ends =
      let s = stopped (called_fault (built_in_at scope p) scope p) _ _ e in
      then_read (called_at (value_with (suc d)) AsStatement scope (built_in_at scope p) p (arguments_text vs (t.CloseCurly ∷ rest))) _ _ _ (statement_call_is (built_in_at scope p) vs p (suc d) (wanted_are vs (suc d)) (arguments_are vs (suc d)) scope rest behind good s.0 s.1) refl
  statement_is (Raises v) zero scope w rest behind good e ends = cc
  statement_is (Raises v) (suc d) scope w rest behind good e ends =
      then_read (value_with (suc d) scope None what.Value (value_text v (t.End ∷ rest))) _ _ _ (value_is v (suc d) scope None what.Value (t.End ∷ rest) behind good e refl (and_false (ends_in_atom v))) refl
  statement_is (Locals x xs q) zero scope w rest behind good e ends = cc
  statement_is (Locals x xs q) (suc d) scope w rest behind good e ends =
      then_read (locals_at (x ∷ []) (names_text xs (t.In ∷ sequence_text q (t.End ∷ rest)))) _ _ _ (locals_read xs (x ∷ []) (sequence_text q (t.End ∷ rest)) _ e)
      (then_read (body_at (statement_with d) (scope ++ x ∷ xs) (sequence_text q (t.End ∷ rest))) _ _ _ (body_is q d (sequence_is q d) (scope ++ x ∷ xs) rest behind good (locals_on xs (x ∷ []) (t.In ∷ sequence_text q (t.End ∷ rest)) _ e)) refl)
  statement_is (ProcNamed x xs q) zero scope w rest behind good e ends = cc
  statement_is (ProcNamed x xs q) (suc d) scope w rest behind good e ends =
      let s = stopped (use_fault scope x) _ _ e in
      let text : List Symbol = names_text xs (t.CloseCurly ∷ sequence_text q (t.End ∷ rest)) in
      then_read (used_variable_at what.Variable scope (t.Variable x ∷ text)) _ _ _ (used_read what.Variable scope x text s.0)
      (then_read (callable_at (readers_over (below d) d) OfProc scope (length (statement_text (ProcNamed x xs q) rest)) text) _ _ _ (procedure_is xs q d (sequence_is q d) scope (length (statement_text (ProcNamed x xs q) rest)) rest behind good s.1) refl)
  statement_is (FunNamed x xs v) zero scope w rest behind good e ends = cc
  statement_is (FunNamed x xs v) (suc d) scope w rest behind good e ends =
      let s = stopped (use_fault scope x) _ _ e in
      let text : List Symbol = names_text xs (t.CloseCurly ∷ value_text v (t.End ∷ rest)) in
      then_read (used_variable_at what.Variable scope (t.Variable x ∷ text)) _ _ _ (used_read what.Variable scope x text s.0)
      (then_read (callable_at (readers_over (below d) d) OfFun scope (length (statement_text (FunNamed x xs v) rest)) text) _ _ _ (function_is xs v d (value_is v d) scope (length (statement_text (FunNamed x xs v) rest)) rest behind good s.1) refl)
  statement_is (Threads q) zero scope w rest behind good e ends = cc
  statement_is (Threads q) (suc d) scope w rest behind good e ends =
      thread_plain (statement_with d) scope (length (statement_text (Threads q) rest)) (sequence_text q (t.End ∷ rest)) (sequence_of q scope (t.End ∷ rest)) rest (begins_sequence q (t.End ∷ rest))
      (then_read (sequence_at (statement_with d) closer.End scope what.StatementOrAt (sequence_text q (t.End ∷ rest))) _ _ _ (sequence_is q d closer.End scope what.StatementOrAt (t.End ∷ rest) behind refl refl good e) refl)
  statement_is (ThreadsAt n q) zero scope w rest behind good e ends = cc
  statement_is (ThreadsAt n q) (suc d) scope w rest behind good e ends =
      let s = stopped (site_fault n) _ _ e in
      rw s.0 (then_read (body_at (statement_with d) scope (sequence_text q (t.End ∷ rest))) _ _ _ (body_is q d (sequence_is q d) scope rest behind good s.1) refl)
  statement_is (Ifs c q r) zero scope w rest behind good e ends = cc
  statement_is (Ifs c q r) (suc d) scope w rest behind good e ends =
      let more : List Symbol = sequence_text r (t.End ∷ rest) in
      let eq = value_on c scope (suc d) None _ _ e in
      let er = sequence_on q scope d _ _ eq in
      then_read (value_with (suc d) scope None what.Value (value_text c (t.Then ∷ sequence_text q (t.Else ∷ more)))) _ _ _ (value_is c (suc d) scope None what.Value (t.Then ∷ sequence_text q (t.Else ∷ more)) _ good.0 e refl (and_false (ends_in_atom c)))
      (then_read (closed_at (statement_with d) closer.Else scope what.Statement (sequence_text q (t.Else ∷ more))) _ _ _
      (then_read (sequence_at (statement_with d) closer.Else scope what.Statement (sequence_text q (t.Else ∷ more))) _ _ _ (sequence_is q d closer.Else scope what.Statement (t.Else ∷ more) _ refl refl good.1 eq) refl)
      (then_read (body_at (statement_with d) scope more) _ _ _ (body_is r d (sequence_is r d) scope rest behind good.2 er) refl))
  statement_is (Cases c p q cs r) zero scope w rest behind good e ends = cc
  statement_is (Cases c p q cs r) (suc d) scope w rest behind good e ends =
      let more : List Symbol = sequence_text r (t.End ∷ rest) in
      let text : List Symbol = pattern_text p (t.Then ∷ sequence_text q (clauses_text cs (t.Else ∷ more))) in
      let ep = value_on c scope (suc d) None _ _ e in
      let er = clauses_on cs scope d _ _ (sequence_on q (scope ++ pattern_names p) d _ _ (pattern_on p scope _ _ ep)) in
      then_read (value_with (suc d) scope None what.Value (value_text c (t.Of ∷ text))) _ _ _ (value_is c (suc d) scope None what.Value (t.Of ∷ text) _ good.0 e refl (and_false (ends_in_atom c)))
      (then_read (clauses_at (statement_with d) scope (length text + 1) sugar.no_cases text) _ _ _ (branches_are cs p q d (sequence_is q d) scope (length text + 1) sugar.no_cases more _ (omega arith) good.1 good.2 ep)
      (then_read (body_at (statement_with d) scope more) _ _ _ (body_is r d (sequence_is r d) scope rest behind good.3 er) refl))
  statement_is (Tries q x r) zero scope w rest behind good e ends = cc
  statement_is (Tries q x r) (suc d) scope w rest behind good e ends =
      let more : List Symbol = t.Catch ∷ t.Variable x ∷ t.Then ∷ sequence_text r (t.End ∷ rest) in
      then_read (sequence_at (statement_with d) closer.OfTry scope what.Statement (sequence_text q more)) _ _ _ (sequence_is q d closer.OfTry scope what.Statement more _ refl refl good.0 e)
      (then_read (sequence_at (statement_with d) closer.OfHandler (scope ++ x ∷ []) what.Statement (sequence_text r (t.End ∷ rest))) _ _ _ (sequence_is r d closer.OfHandler (scope ++ x ∷ []) what.Statement (t.End ∷ rest) behind refl refl good.1 (sequence_on q scope d _ _ e)) refl)
  statement_is (TriesFinally q x r u) zero scope w rest behind good e ends = cc
  statement_is (TriesFinally q x r u) (suc d) scope w rest behind good e ends =
      let last : List Symbol = t.Finally ∷ sequence_text u (t.End ∷ rest) in
      let more : List Symbol = t.Catch ∷ t.Variable x ∷ t.Then ∷ sequence_text r last in
      let er = sequence_on q scope d _ _ e in
      let eu = sequence_on r (scope ++ x ∷ []) d _ _ er in
      then_read (sequence_at (statement_with d) closer.OfTry scope what.Statement (sequence_text q more)) _ _ _ (sequence_is q d closer.OfTry scope what.Statement more _ refl refl good.0 e)
      (then_read (sequence_at (statement_with d) closer.OfHandler (scope ++ x ∷ []) what.Statement (sequence_text r last)) _ _ _ (sequence_is r d closer.OfHandler (scope ++ x ∷ []) what.Statement last _ refl refl good.1 er)
      (then_read (body_at (statement_with d) scope (sequence_text u (t.End ∷ rest))) _ _ _ (body_is u d (sequence_is u d) scope rest behind good.2 eu) refl))
  statement_is (Finally q u) zero scope w rest behind good e ends = cc
  statement_is (Finally q u) (suc d) scope w rest behind good e ends =
      let more : List Symbol = t.Finally ∷ sequence_text u (t.End ∷ rest) in
      then_read (sequence_at (statement_with d) closer.OfTry scope what.Statement (sequence_text q more)) _ _ _ (sequence_is q d closer.OfTry scope what.Statement more _ refl refl good.0 e)
      (then_read (body_at (statement_with d) scope (sequence_text u (t.End ∷ rest))) _ _ _ (body_is u d (sequence_is u d) scope rest behind good.1 (sequence_on q scope d _ _ e)) refl)

-- ---- programs

-- what is derived and passes is read as its tree
pub program_is : (q : Sequence) → IsDerivation q → check q ≡ None → program_at (program_text q) ≡ Ok (program_of q)
unfolding program_at
program_is q good e = then_read (sequence_at (statement_with 200) closer.EndOfText [] what.Statement (program_text q)) _ _ _ (sequence_is q 200 closer.EndOfText [] what.Statement (t.EndOfText ∷ []) None refl refl good e) refl
