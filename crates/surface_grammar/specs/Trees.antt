-- The tree that a derivation gives: an identifier is the number of declarations of the text around its own, fields stand by
-- their features, and the clauses of a `case` are one list.
use Rattle.std.specs.Prelude.{ℕ, ◌+◌, List, [], ◌∷◌, ◌++◌, length, Option, Some, None}
use Rattle.tree_node.specs.declared.node.Feature.{Feature}
use Rattle.oz_grammar.specs.declared.symbol.Symbol.{Symbol}
use Rattle.oz_grammar.specs.declared.symbol.Symbol.TheVariants as t
use Rattle.kernel_syntax.specs.declared.built_in.BuiltIn.{BuiltIn}
use Rattle.oz_grammar.specs.Grammar.{selection_symbol, pattern_text}
use Rattle.oz_grammar.specs.Scoping.{Scope, declaration_of, built_in_at, with_field, feature_of, place_feature, pattern_names}
use Rattle.oz_grammar.specs.Table.{value_of, bar_label, pattern_of, selector_of}
use Rattle.kernel_syntax.specs.declared.sugar.Field.{Field}
use Rattle.kernel_syntax.specs.declared.sugar.Operation.TheVariants as operation
use Rattle.kernel_syntax.specs.declared.sugar.Action.TheVariants as action
use Rattle.kernel_syntax.specs.Sugar as sugar
use Rattle.kernel_syntax.specs.Sugar.{by_kind, field_of}
use Rattle.surface_grammar.specs.Derivations.{Primary, Variable, Integer, Atom, Record, Calls, Procedure, Function, Brackets, Selects, Tail, Last, More, Value, Alone, Calculates, Tests, Pairs, IfValue, CaseValue, Arguments, no_arguments, argument_and, Fields, no_fields, placed_and, named_and, ValueClauses, no_clauses, clause_and, Statement, Skips, Tells, CallsStatement, Raises, Locals, ProcNamed, FunNamed, Threads, ThreadsAt, Ifs, Cases, Tries, TriesFinally, Finally, Clauses, no_cases, case_and, Sequence, One, Then, primary_text, tail_text, value_text, arguments_text, fields_text, value_clauses_text, statement_text, clauses_text, sequence_text}

-- one value more
abbrev pub with_last : sugar.Values → sugar.Value → sugar.Values
with_last sugar.no_values v = sugar.value_and v sugar.no_values
with_last (sugar.value_and u vs) v = sugar.value_and u (with_last vs v)

-- one value more, unless it is a variable
abbrev pub with_value : sugar.Values → sugar.Value → sugar.Values
with_value vs v = by_kind v vs (with_last vs v)

-- a record with these fields and values; without fields it is the atom
abbrev pub record_value : ℕ → List ℕ → List (Feature × Field) → sugar.Values → sugar.Value
record_value left a [] vs = sugar.Atom left a
record_value left a (slot ∷ slots) vs = sugar.Record left a (slot ∷ slots) vs

-- H|T of these values
abbrev pub pair_value : ℕ → sugar.Value → sugar.Value → sugar.Value
pair_value left h u = sugar.Record left bar_label (sugar.pair_fields h u) (sugar.pair_values h u)

-- a call as a value, of what is built in or of a procedure
abbrev pub call_value : Option BuiltIn → ℕ → ℕ → sugar.Values → sugar.Value
call_value (Some b) left p vs = sugar.Apply left (operation.BuiltIn b) vs
call_value None left p vs = sugar.Apply left (operation.Call p) vs

-- .. and as a statement
abbrev pub call_statement : Option BuiltIn → ℕ → ℕ → sugar.Values → sugar.Statement
call_statement (Some b) left p vs = sugar.Acts left (action.BuiltIn b) vs
call_statement None left p vs = sugar.Acts left (action.Call p) vs

-- Each takes the declarations around it and the symbols behind it: its place is how many symbols its text has with those.
abbrev mutual
  pub primary_of : Primary → Scope → List Symbol → sugar.Value
  primary_of (Variable x) scope rest = sugar.Variable (length (primary_text (Variable x) rest)) (declaration_of scope x)
  primary_of (Integer n) scope rest = sugar.Integer (length (primary_text (Integer n) rest)) (value_of n)
  primary_of (Atom a) scope rest = sugar.Atom (length (primary_text (Atom a) rest)) a
  primary_of (Record a fs) scope rest = fields_in fs scope 1 0 [] sugar.no_values (t.CloseRound ∷ rest) (length (primary_text (Record a fs) rest)) a
  primary_of (Calls p vs) scope rest = call_value (built_in_at scope p) (length (primary_text (Calls p vs) rest)) (declaration_of scope p) (arguments_of vs scope (t.CloseCurly ∷ rest))
  primary_of (Procedure xs q) scope rest = sugar.Proc (length (primary_text (Procedure xs q) rest)) (length xs) (sequence_of q (scope ++ xs) (t.End ∷ rest))
  primary_of (Function xs v) scope rest = sugar.Fun (length (primary_text (Function xs v) rest)) (length xs) (value_in v (scope ++ xs) (t.End ∷ rest))
  primary_of (Brackets v) scope rest = sugar.Brackets (length (primary_text (Brackets v) rest)) (value_in v scope (t.CloseRound ∷ rest))
  primary_of (Selects p s) scope rest =
      sugar.Apply (length (primary_text (Selects p s) rest)) (operation.Select (selector_of s scope)) (sugar.value_and (primary_of p scope (t.Dot ∷ selection_symbol s ∷ rest)) sugar.no_values)

  pub tail_of : Tail → Scope → List Symbol → sugar.Value
  tail_of (Last p) scope rest = primary_of p scope rest
  tail_of (More p l) scope rest = pair_value (length (tail_text (More p l) rest)) (primary_of p scope (t.Bar ∷ tail_text l rest)) (tail_of l scope rest)

  pub value_in : Value → Scope → List Symbol → sugar.Value
  value_in (Alone p) scope rest = primary_of p scope rest
  value_in (Calculates p o q) scope rest =
      sugar.Apply (length (value_text (Calculates p o q) rest)) (operation.Calc o)
      (sugar.value_and (primary_of p scope (t.Operator o ∷ primary_text q rest)) (sugar.value_and (primary_of q scope rest) sugar.no_values))
  value_in (Tests p o q) scope rest =
      sugar.Apply (length (value_text (Tests p o q) rest)) (operation.Test o)
      (sugar.value_and (primary_of p scope (t.Test o ∷ primary_text q rest)) (sugar.value_and (primary_of q scope rest) sugar.no_values))
  value_in (Pairs p l) scope rest = pair_value (length (value_text (Pairs p l) rest)) (primary_of p scope (t.Bar ∷ tail_text l rest)) (tail_of l scope rest)
  value_in (IfValue e a b) scope rest =
      sugar.If (length (value_text (IfValue e a b) rest)) (value_in e scope (t.Then ∷ value_text a (t.Else ∷ value_text b (t.End ∷ rest))))
      (value_in a scope (t.Else ∷ value_text b (t.End ∷ rest))) (value_in b scope (t.End ∷ rest))
  value_in (CaseValue e p v cs b) scope rest =
      sugar.Case (length (value_text (CaseValue e p v cs b) rest)) (value_in e scope (t.Of ∷ pattern_text p (t.Then ∷ value_text v (value_clauses_text cs (t.Else ∷ value_text b (t.End ∷ rest))))))
      (sugar.clause_and (pattern_of p) (value_in v (scope ++ pattern_names p) (value_clauses_text cs (t.Else ∷ value_text b (t.End ∷ rest)))) (value_clauses_of cs scope (t.Else ∷ value_text b (t.End ∷ rest))))
      (value_in b scope (t.End ∷ rest))

  pub arguments_of : Arguments → Scope → List Symbol → sugar.Values
  arguments_of no_arguments scope rest = sugar.no_values
  arguments_of (argument_and v vs) scope rest = sugar.value_and (value_in v scope (arguments_text vs rest)) (arguments_of vs scope rest)

  -- a record behind some of its fields: the next one without a feature has feature nth, i of those before are no variables
  pub fields_in : Fields → Scope → ℕ → ℕ → List (Feature × Field) → sugar.Values → List Symbol → ℕ → List ℕ → sugar.Value
  fields_in no_fields scope nth i slots vs rest left a = record_value left a slots vs
  fields_in (placed_and v fs) scope nth i slots vs rest left a =
      fields_in fs scope (nth + 1) (i + sugar.new_of (value_in v scope (fields_text fs rest))) (with_field (place_feature nth) (field_of (value_in v scope (fields_text fs rest)) i) slots)
      (with_value vs (value_in v scope (fields_text fs rest))) rest left a
  fields_in (named_and m v fs) scope nth i slots vs rest left a =
      fields_in fs scope nth (i + sugar.new_of (value_in v scope (fields_text fs rest))) (with_field (feature_of m) (field_of (value_in v scope (fields_text fs rest)) i) slots)
      (with_value vs (value_in v scope (fields_text fs rest))) rest left a

  pub value_clauses_of : ValueClauses → Scope → List Symbol → sugar.ValueClauses
  value_clauses_of no_clauses scope rest = sugar.no_clauses
  value_clauses_of (clause_and p v cs) scope rest =
      sugar.clause_and (pattern_of p) (value_in v (scope ++ pattern_names p) (value_clauses_text cs rest)) (value_clauses_of cs scope rest)

  pub statement_of : Statement → Scope → List Symbol → sugar.Statement
  statement_of Skips scope rest = sugar.Skip (length (statement_text Skips rest))
  statement_of (Tells x v) scope rest = sugar.Tell (length (statement_text (Tells x v) rest)) (declaration_of scope x) (value_in v scope rest)
  statement_of (CallsStatement p vs) scope rest =
      call_statement (built_in_at scope p) (length (statement_text (CallsStatement p vs) rest)) (declaration_of scope p) (arguments_of vs scope (t.CloseCurly ∷ rest))
  statement_of (Raises v) scope rest = sugar.Acts (length (statement_text (Raises v) rest)) action.Raise (sugar.value_and (value_in v scope (t.End ∷ rest)) sugar.no_values)
  statement_of (Locals x xs q) scope rest = sugar.Local (length (statement_text (Locals x xs q) rest)) (length (x ∷ xs)) (sequence_of q (scope ++ x ∷ xs) (t.End ∷ rest))
  statement_of (ProcNamed x xs q) scope rest =
      sugar.Tell (length (statement_text (ProcNamed x xs q) rest)) (declaration_of scope x) (sugar.Proc (length (statement_text (ProcNamed x xs q) rest)) (length xs) (sequence_of q (scope ++ xs) (t.End ∷ rest)))
  statement_of (FunNamed x xs v) scope rest =
      sugar.Tell (length (statement_text (FunNamed x xs v) rest)) (declaration_of scope x) (sugar.Fun (length (statement_text (FunNamed x xs v) rest)) (length xs) (value_in v (scope ++ xs) (t.End ∷ rest)))
  statement_of (Threads q) scope rest = sugar.Thread (length (statement_text (Threads q) rest)) None (sequence_of q scope (t.End ∷ rest))
  statement_of (ThreadsAt n q) scope rest = sugar.Thread (length (statement_text (ThreadsAt n q) rest)) (Some (value_of n)) (sequence_of q scope (t.End ∷ rest))
  statement_of (Ifs e q r) scope rest =
      sugar.IfStatement (length (statement_text (Ifs e q r) rest)) (value_in e scope (t.Then ∷ sequence_text q (t.Else ∷ sequence_text r (t.End ∷ rest))))
      (sequence_of q scope (t.Else ∷ sequence_text r (t.End ∷ rest))) (sequence_of r scope (t.End ∷ rest))
  statement_of (Cases e p q cs r) scope rest =
      sugar.CaseStatement (length (statement_text (Cases e p q cs r) rest)) (value_in e scope (t.Of ∷ pattern_text p (t.Then ∷ sequence_text q (clauses_text cs (t.Else ∷ sequence_text r (t.End ∷ rest))))))
      (sugar.case_and (pattern_of p) (sequence_of q (scope ++ pattern_names p) (clauses_text cs (t.Else ∷ sequence_text r (t.End ∷ rest)))) (clauses_of cs scope (t.Else ∷ sequence_text r (t.End ∷ rest))))
      (sequence_of r scope (t.End ∷ rest))
  statement_of (Tries q x r) scope rest =
      sugar.Try (length (statement_text (Tries q x r) rest)) (sequence_of q scope (t.Catch ∷ t.Variable x ∷ t.Then ∷ sequence_text r (t.End ∷ rest))) (sequence_of r (scope ++ x ∷ []) (t.End ∷ rest))
  statement_of (TriesFinally q x r u) scope rest =
      sugar.Finally (length (statement_text (TriesFinally q x r u) rest))
      (sugar.statement_and (sugar.Try (length (statement_text (TriesFinally q x r u) rest)) (sequence_of q scope (t.Catch ∷ t.Variable x ∷ t.Then ∷ sequence_text r (t.Finally ∷ sequence_text u (t.End ∷ rest))))
      (sequence_of r (scope ++ x ∷ []) (t.Finally ∷ sequence_text u (t.End ∷ rest)))) sugar.no_statements)
      (sequence_of u scope (t.End ∷ rest))
  statement_of (Finally q u) scope rest =
      sugar.Finally (length (statement_text (Finally q u) rest)) (sequence_of q scope (t.Finally ∷ sequence_text u (t.End ∷ rest))) (sequence_of u scope (t.End ∷ rest))

  pub clauses_of : Clauses → Scope → List Symbol → sugar.Clauses
  clauses_of no_cases scope rest = sugar.no_cases
  clauses_of (case_and p q cs) scope rest = sugar.case_and (pattern_of p) (sequence_of q (scope ++ pattern_names p) (clauses_text cs rest)) (clauses_of cs scope rest)

  pub sequence_of : Sequence → Scope → List Symbol → sugar.Statements
  sequence_of (One s) scope rest = sugar.statement_and (statement_of s scope rest) sugar.no_statements
  sequence_of (Then s q) scope rest = sugar.statement_and (statement_of s scope (sequence_text q rest)) (sequence_of q scope rest)

-- the tree of a program
abbrev pub program_of : Sequence → sugar.Statements
program_of q = sequence_of q [] (t.EndOfText ∷ [])
