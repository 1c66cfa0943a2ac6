-- How symbols with sugar are read from the left: the tree and the symbols behind it, or the first fault. A reader's code follows
-- these clause by clause; that they give the tree or the first fault of the symbols is a law.
use Rattle.std.specs.Prelude.{ℕ, zero, suc, ◌+◌, ◌-◌, List, [], ◌∷◌, ◌++◌, length, Bool, true, false, if◌then◌else◌, drop, Result, Ok, Err, Option, Some, None}
use Rattle.tree_node.specs.declared.limits.TheConstants.{MOST_ITEMS}
use Rattle.tree_node.specs.declared.node.Feature.{Feature}
use Rattle.kernel_syntax.specs.declared.stmt.Pattern.{Pattern}
use Rattle.kernel_syntax.specs.declared.built_in.BuiltIn.{BuiltIn}
use Rattle.kernel_syntax.specs.BuiltIns.{arity_of}
use Rattle.kernel_syntax.specs.declared.sugar.Field.{Field}
use Rattle.kernel_syntax.specs.declared.sugar.Operation.{Operation}
use Rattle.kernel_syntax.specs.declared.sugar.Operation.TheVariants as operation
use Rattle.kernel_syntax.specs.declared.sugar.Action.TheVariants as action
use Rattle.kernel_syntax.specs.Sugar as sugar
use Rattle.kernel_syntax.specs.Sugar.{Value, Values, no_values, value_and, ValueClauses, no_clauses, clause_and, Statement, Statements, no_statements, statement_and, Clauses, no_cases, case_and, count_values, field_of}
use Rattle.oz_grammar.specs.declared.symbol.Symbol.{Symbol}
use Rattle.oz_grammar.specs.declared.symbol.Symbol.TheVariants as t
use Rattle.oz_grammar.specs.declared.symbol.Sign.TheVariants as sign
use Rattle.oz_grammar.specs.declared.fault.Fault.{Fault}
use Rattle.oz_grammar.specs.declared.fault.FaultKind.{FaultKind}
use Rattle.oz_grammar.specs.declared.fault.FaultKind.TheVariants.{Deep}
use Rattle.oz_grammar.specs.declared.fault.What.{What}
use Rattle.oz_grammar.specs.declared.fault.What.TheVariants as what
use Rattle.oz_grammar.specs.Grammar.{Identifier, AtomFeature, IntFeature}
use Rattle.oz_grammar.specs.Scoping.{Scope, declaration_of, built_in_at, feature_of, place_feature, with_field}
use Rattle.oz_grammar.specs.Faults.{or_else, number_fault, deep_fault, use_fault, room_fault, fewer, fault_here}
use Rattle.oz_grammar.specs.Points.{is_statement_start}
use Rattle.oz_grammar.specs.Table.{value_of, features_in}
use Rattle.oz_grammar.specs.Reading.{◌>>=◌, fault_expected, fault_or, sign_at, used_variable_at, selection_at, is_close_round, first_local_at, close_at, pattern_at, site_at, catch_name_at}
use Rattle.surface_grammar.specs.declared.parts.CallUse.{CallUse}
use Rattle.surface_grammar.specs.declared.parts.CallUse.TheVariants.{AsValue, AsStatement}
use Rattle.surface_grammar.specs.declared.parts.Callable.{Callable}
use Rattle.surface_grammar.specs.declared.parts.Callable.TheVariants.{OfProc, OfFun}
use Rattle.surface_grammar.specs.declared.parts.Closer.{Closer}
use Rattle.surface_grammar.specs.declared.parts.Closer.TheVariants as closer
use Rattle.surface_grammar.specs.Points.{given_fault, formal_wrong}
use Rattle.surface_grammar.specs.Trees.{with_last, with_value, record_value, pair_value, call_value, call_statement}

-- what is read, and the symbols behind it, or the first fault
abbrev pub Read : Type 0 → Type 0
Read A = Result (A × List Symbol) Fault

-- How values are read: under these declarations, where their holder has something wrong at their first symbol or nothing, and
-- this is expected where none begins.
abbrev pub ValueReader : Type 0
ValueReader = Scope → Option FaultKind → What → List Symbol → Read Value

-- how statements are read: under these declarations, where this is expected if none begins
abbrev pub StatementReader : Type 0
StatementReader = Scope → What → List Symbol → Read Statement

-- what can be read with a number of levels left: a value, the second part of an operator or a test, the tail of a list, a
-- statement
pub record Readers : Type 0 where
  pub value : ValueReader
  pub operand : Scope → List Symbol → Read Value
  pub tail : Scope → List Symbol → Read Value
  pub statement : StatementReader

-- what takes a level, of d, unless its holder has something wrong
abbrev pub on_level : {A : Type 0} → ℕ → Option FaultKind → List Symbol → Result A Fault → Result A Fault
on_level d holder symbols read = fault_or (or_else (deep_fault d) holder) symbols read

-- ---- the parts of values

-- arguments of what is built in behind others, of which so many are wanted, and the bracket that closes the call
unfoldable pub wanted_at : ValueReader → Scope → ℕ → Values → List Symbol → Read Values
wanted_at value scope zero before symbols = close_at symbols >>= λ rest. Ok (before, rest)
wanted_at value scope (suc k) before symbols = value scope None what.Value symbols >>= λ v. wanted_at value scope k (with_last before v.0) v.1

-- the bracket that closes a call stands here
abbrev pub is_close : List Symbol → Bool
is_close (t.CloseCurly ∷ rest) = true
is_close symbols = false

-- arguments of a procedure behind others, with room for so many, up to the bracket. Where there is no room, one more is a fault
unfoldable pub arguments_at : ValueReader → Scope → ℕ → Values → List Symbol → Read Values
arguments_at value scope zero before symbols =
    if is_close symbols then Ok (before, drop 1 symbols)
    else (value scope (room_fault zero) what.ValueOrClose symbols >>= λ v. Ok (before, v.1))
arguments_at value scope (suc room) before symbols =
    if is_close symbols then Ok (before, drop 1 symbols)
    else (value scope (room_fault (suc room)) what.ValueOrClose symbols >>= λ v. arguments_at value scope room (with_last before v.0) v.1)

-- how many arguments of what is built in are wanted: as a value, it lacks its last
abbrev pub wanted_of : CallUse → BuiltIn → ℕ
wanted_of AsValue b = arity_of b - 1
wanted_of AsStatement b = arity_of b

-- how many arguments of a procedure there may be
abbrev pub most_of_call : CallUse → ℕ
most_of_call AsValue = 63
most_of_call AsStatement = MOST_ITEMS

-- what is called, by its name: what is built in, or the identifier; and the arguments
abbrev pub Called : Type 0
Called = (Option BuiltIn) × ℕ × Values

-- a call of a procedure, at its name
abbrev pub procedure_call_at : ValueReader → CallUse → Scope → List Symbol → Read Called
procedure_call_at value u scope symbols =
    used_variable_at what.Variable scope symbols >>= λ p. arguments_at value scope (most_of_call u) no_values p.1 >>= λ vs. Ok ((None, p.0, vs.0), vs.1)

-- a call of what is built in, or of a procedure, behind its name
abbrev pub called_at : ValueReader → CallUse → Scope → Option BuiltIn → Identifier → List Symbol → Read Called
called_at value u scope (Some b) p rest = wanted_at value scope (wanted_of u b) no_values rest >>= λ vs. Ok ((Some b, declaration_of scope p, vs.0), vs.1)
called_at value u scope None p rest = procedure_call_at value u scope (t.Variable p ∷ rest)

-- a call behind its opening bracket
abbrev pub call_at : ValueReader → CallUse → Scope → List Symbol → Read Called
call_at value u scope (t.Variable p ∷ rest) = called_at value u scope (built_in_at scope p) p rest
call_at value u scope symbols = fault_expected what.Variable symbols

-- a call as a value
abbrev pub call_value_at : ValueReader → Scope → ℕ → List Symbol → Read Value
call_value_at value scope left symbols = call_at value AsValue scope symbols >>= λ c. Ok (call_value c.0.0 left c.0.1 c.0.2, c.1)

-- .. and as a statement
abbrev pub call_statement_at : ValueReader → Scope → ℕ → List Symbol → Read Statement
call_statement_at value scope left symbols = call_at value AsStatement scope symbols >>= λ c. Ok (call_statement c.0.0 left c.0.1 c.0.2, c.1)

-- the fields so far, the values among them that are no variables, and the feature of the next without one
abbrev pub FieldsSoFar : Type 0
FieldsSoFar = List (Feature × Field) × Values × ℕ

-- one field more, of this feature
abbrev pub with_one : Feature → Value → ℕ → FieldsSoFar → FieldsSoFar
with_one f v nth before = (with_field f (field_of v (count_values before.1)) before.0, with_value before.1 v, nth)

-- a field of this feature, with room for so many, behind whose colon these symbols stand
abbrev pub named_at : ValueReader → Scope → ℕ → FieldsSoFar → Feature → List Symbol → List Symbol → Read FieldsSoFar
named_at value scope room before f symbols rest =
    fault_or (given_fault room (features_in before.0) f) symbols (value scope None what.Value rest >>= λ v. Ok (with_one f v.0 before.2 before, v.1))

-- a field without a feature
abbrev pub placed_at : ValueReader → Scope → ℕ → FieldsSoFar → List Symbol → Read FieldsSoFar
placed_at value scope room before symbols =
    value scope (given_fault room (features_in before.0) (place_feature before.2)) what.FieldOrBracket symbols >>= λ v.
    Ok (with_one (place_feature before.2) v.0 (before.2 + 1) before, v.1)

-- a field behind others: an atom or an integer is its feature where a colon stands behind it
abbrev pub field_at : ValueReader → Scope → ℕ → FieldsSoFar → List Symbol → Read FieldsSoFar
field_at value scope room before (t.Atom a ∷ t.Colon ∷ rest) = named_at value scope room before (feature_of (AtomFeature a)) (t.Atom a ∷ t.Colon ∷ rest) rest
field_at value scope room before (t.Integer n ∷ t.Colon ∷ rest) =
    fault_or (number_fault n) (t.Integer n ∷ t.Colon ∷ rest) (named_at value scope room before (feature_of (IntFeature n)) (t.Integer n ∷ t.Colon ∷ rest) rest)
field_at value scope room before symbols = placed_at value scope room before symbols

-- fields up to the closing bracket. Where there is no room for one more, field_at is a fault
unfoldable pub fields_at : ValueReader → Scope → ℕ → FieldsSoFar → List Symbol → Read FieldsSoFar
fields_at value scope zero before symbols =
    if is_close_round symbols then Ok (before, drop 1 symbols)
    else (field_at value scope zero before symbols >>= λ m. Ok (m.0, m.1))
fields_at value scope (suc room) before symbols =
    if is_close_round symbols then Ok (before, drop 1 symbols)
    else (field_at value scope (suc room) before symbols >>= λ m. fields_at value scope room m.0 m.1)

-- behind an atom: the fields of a record, if a bracket opens them
abbrev pub atom_at : ValueReader → Scope → ℕ → List ℕ → List Symbol → Read Value
atom_at value scope left a (t.OpenRound ∷ rest) = fields_at value scope MOST_ITEMS ([], no_values, 1) rest >>= λ m. Ok (record_value left a m.0.0 m.0.1, m.1)
atom_at value scope left a symbols = Ok (sugar.Atom left a, symbols)

-- a value in round brackets, behind the first
abbrev pub brackets_at : ValueReader → Scope → ℕ → List Symbol → Read Value
brackets_at value scope left symbols = value scope None what.Value symbols >>= λ v. sign_at sign.CloseRound v.1 >>= λ rest. Ok (sugar.Brackets left v.0, rest)

-- formals behind others, up to the bracket
abbrev pub formals_at : Callable → List Identifier → List Symbol → Read (List Identifier)
formals_at c before (t.CloseCurly ∷ rest) = Ok (before, rest)
formals_at c before (t.Variable x ∷ rest) = fault_or (formal_wrong c before x) (t.Variable x ∷ rest) (formals_at c (before ++ x ∷ []) rest)
formals_at c before symbols = fault_expected what.VariableOrClose symbols

-- ---- sequences of statements

-- the sequence is closed by this symbol
abbrev pub is_closer : Closer → Symbol → Bool
is_closer closer.End t.End = true
is_closer closer.Else t.Else = true
is_closer closer.OfClause t.Clause = true
is_closer closer.OfClause t.Else = true
is_closer closer.OfTry t.Catch = true
is_closer closer.OfTry t.Finally = true
is_closer closer.OfHandler t.Finally = true
is_closer closer.OfHandler t.End = true
is_closer closer.EndOfText t.EndOfText = true
is_closer c symbol = false

-- .. which stands here
abbrev pub is_end_of : Closer → List Symbol → Bool
is_end_of c [] = false
is_end_of c (symbol ∷ rest) = is_closer c symbol

-- behind a statement: another, or what closes the sequence
abbrev pub expected_behind : Closer → What
expected_behind closer.End = what.StatementOrEnd
expected_behind closer.Else = what.StatementOrElse
expected_behind closer.OfClause = what.StatementOrClause
expected_behind closer.OfTry = what.StatementOrHandler
expected_behind closer.OfHandler = what.StatementOrFinally
expected_behind closer.EndOfText = what.StatementOrEndOfText

-- one statement more
abbrev pub with_statement : Statements → Statement → Statements
with_statement no_statements s = statement_and s no_statements
with_statement (statement_and r q) s = statement_and r (with_statement q s)

-- the statements behind others, at most n of them, up to what closes the sequence, which is left
unfoldable pub others_at : StatementReader → Closer → Scope → ℕ → Statements → List Symbol → Read Statements
others_at statement c scope zero before symbols = fault_expected (expected_behind c) symbols
others_at statement c scope (suc n) before symbols =
    if is_end_of c symbols then Ok (before, symbols)
    else (statement scope (expected_behind c) symbols >>= λ s. others_at statement c scope n (with_statement before s.0) s.1)

-- a sequence up to what closes it; w is what is expected where its first statement begins
abbrev pub sequence_at : StatementReader → Closer → Scope → What → List Symbol → Read Statements
sequence_at statement c scope w symbols =
    statement scope w symbols >>= λ s. others_at statement c scope (length s.1 + 1) (statement_and s.0 no_statements) s.1

-- .. and behind the one symbol that closes it
abbrev pub closed_at : StatementReader → Closer → Scope → What → List Symbol → Read Statements
closed_at statement c scope w symbols = sequence_at statement c scope w symbols >>= λ q. Ok (q.0, drop 1 q.1)

-- a body up to `end`
abbrev pub body_at : StatementReader → Scope → List Symbol → Read Statements
body_at statement scope symbols = closed_at statement closer.End scope what.Statement symbols

-- ---- procedures and functions

-- the body of a procedure, statements, or of a function, a value, under so many formals
abbrev pub callable_body_at : Readers → Callable → Scope → ℕ → ℕ → List Symbol → Read Value
callable_body_at inner OfProc scope left count symbols = body_at inner.statement scope symbols >>= λ q. Ok (sugar.Proc left count q.0, q.1)
callable_body_at inner OfFun scope left count symbols =
    inner.value scope None what.Value symbols >>= λ v. sign_at sign.End v.1 >>= λ rest. Ok (sugar.Fun left count v.0, rest)

-- the formals and the body of one of both, behind `$` or its name
abbrev pub callable_at : Readers → Callable → Scope → ℕ → List Symbol → Read Value
callable_at inner c scope left symbols = formals_at c [] symbols >>= λ m. callable_body_at inner c (scope ++ m.0) left (length m.0) m.1

-- one as a value, behind its word
abbrev pub callable_value_at : Readers → Callable → Scope → ℕ → List Symbol → Read Value
callable_value_at inner c scope left symbols = sign_at sign.OpenCurly symbols >>= λ a. sign_at sign.Dollar a >>= λ b. callable_at inner c scope left b

-- one as a statement, behind its word: it is told to its name
abbrev pub callable_statement_at : Readers → Callable → Scope → ℕ → List Symbol → Read Statement
callable_statement_at inner c scope left symbols =
    sign_at sign.OpenCurly symbols >>= λ a. used_variable_at what.Variable scope a >>= λ x. callable_at inner c scope left x.1 >>= λ v. Ok (sugar.Tell left x.0 v.0, v.1)

-- ---- values

-- a primary of several symbols, and the bare atom
abbrev pub compound_at : Readers → Scope → List Symbol → Read Value
compound_at inner scope (t.Atom a ∷ rest) = atom_at inner.value scope (length (t.Atom a ∷ rest)) a rest
compound_at inner scope (t.OpenCurly ∷ rest) = call_value_at inner.value scope (length (t.OpenCurly ∷ rest)) rest
compound_at inner scope (t.Proc ∷ rest) = callable_value_at inner OfProc scope (length (t.Proc ∷ rest)) rest
compound_at inner scope (t.Fun ∷ rest) = callable_value_at inner OfFun scope (length (t.Fun ∷ rest)) rest
compound_at inner scope (t.OpenRound ∷ rest) = brackets_at inner.value scope (length (t.OpenRound ∷ rest)) rest
compound_at inner scope symbols = fault_expected what.Value symbols

-- one begins with this symbol ..
abbrev pub begins_compound : Symbol → Bool
begins_compound (t.Atom a) = true
begins_compound t.OpenCurly = true
begins_compound t.Proc = true
begins_compound t.Fun = true
begins_compound t.OpenRound = true
begins_compound symbol = false

-- a value, and how many levels it has left as a part of another
abbrev pub PartRead : Type 0
PartRead = Read (Value × ℕ)

-- .. which stands here
abbrev pub is_at_compound : List Symbol → Bool
is_at_compound [] = false
is_at_compound (symbol ∷ rest) = begins_compound symbol

-- a variable
abbrev pub variable_at : Scope → Option FaultKind → List Symbol → Read Value
variable_at scope holder (t.Variable x ∷ rest) =
    fault_or (or_else holder (use_fault scope x)) (t.Variable x ∷ rest) (Ok (sugar.Variable (length (t.Variable x ∷ rest)) (declaration_of scope x), rest))
variable_at scope holder symbols = fault_expected what.Value symbols

-- an integer with d levels
abbrev pub integer_at : ℕ → Option FaultKind → List Symbol → PartRead
integer_at d holder (t.Integer n ∷ rest) =
    fault_or (or_else (number_fault n) (or_else (deep_fault d) holder)) (t.Integer n ∷ rest) (Ok ((sugar.Integer (length (t.Integer n ∷ rest)) (value_of n), fewer d), rest))
integer_at d holder symbols = fault_expected what.Value symbols

-- a primary without what may follow it, with d levels; inner reads with one less
abbrev pub primary_at : Readers → ℕ → Scope → Option FaultKind → What → List Symbol → PartRead
primary_at inner d scope holder w (t.Variable x ∷ rest) = variable_at scope holder (t.Variable x ∷ rest) >>= λ v. Ok ((v.0, d), v.1)
primary_at inner d scope holder w (t.Integer n ∷ rest) = integer_at d holder (t.Integer n ∷ rest)
primary_at inner d scope holder w symbols =
    if is_at_compound symbols then on_level d holder symbols (compound_at inner scope symbols >>= λ v. Ok ((v.0, fewer d), v.1))
    else fault_expected w symbols

-- what is selected in a value, from which r levels are left, as often as a dot follows
abbrev pub selections_at : ℕ → Scope → ℕ → Value → List Symbol → PartRead
selections_at zero scope left v (t.Dot ∷ rest) = Err (fault_here Deep (t.Dot ∷ rest))
selections_at (suc r) scope left v (t.Dot ∷ rest) =
    selection_at scope rest >>= λ s. selections_at r scope left (sugar.Apply left (operation.Select s.0) (value_and v no_values)) s.1
selections_at r scope left v symbols = Ok ((v, r), symbols)

-- a primary with what is selected in it
abbrev pub part_at : Readers → ℕ → Scope → Option FaultKind → What → List Symbol → PartRead
part_at inner d scope holder w symbols = primary_at inner d scope holder w symbols >>= λ p. selections_at p.0.1 scope (length symbols) p.0.0 p.1

-- behind the first part of a list: a bar and the tail, if they follow
abbrev pub behind_head_at : Readers → Scope → ℕ → Value × ℕ → List Symbol → Read Value
behind_head_at inner scope left p (t.Bar ∷ rest) = on_level p.1 None (t.Bar ∷ rest) (inner.tail scope rest >>= λ u. Ok (pair_value left p.0 u.0, u.1))
behind_head_at inner scope left p symbols = Ok (p.0, symbols)

-- an operator or a test and the second part, behind the first
abbrev pub second_at : Readers → Scope → ℕ → Operation → Value × ℕ → List Symbol → Read Value
second_at inner scope left f p symbols = on_level p.1 None symbols (inner.operand scope (drop 1 symbols) >>= λ u. Ok (sugar.Apply left f (value_and p.0 (value_and u.0 no_values)), u.1))

-- behind the first part of a value: an operator or a test and a second part, or a bar and a tail, if they follow
abbrev pub behind_part_at : Readers → Scope → ℕ → Value × ℕ → List Symbol → Read Value
behind_part_at inner scope left p (t.Operator o ∷ rest) = second_at inner scope left (operation.Calc o) p (t.Operator o ∷ rest)
behind_part_at inner scope left p (t.Test o ∷ rest) = second_at inner scope left (operation.Test o) p (t.Test o ∷ rest)
behind_part_at inner scope left p symbols = behind_head_at inner scope left p symbols

-- the second part of an operator or a test
abbrev pub operand_at : Readers → ℕ → Scope → List Symbol → Read Value
operand_at inner d scope symbols = part_at inner d scope None what.Value symbols >>= λ p. Ok (p.0.0, p.1)

-- the tail of a list
abbrev pub tail_at : Readers → ℕ → Scope → List Symbol → Read Value
tail_at inner d scope symbols = part_at inner d scope None what.Value symbols >>= λ p. behind_head_at inner scope (length symbols) p.0 p.1

-- an `if` as a value, behind that word
abbrev pub if_value_at : ValueReader → Scope → ℕ → List Symbol → Read Value
if_value_at value scope left symbols =
    value scope None what.Value symbols >>= λ e. sign_at sign.Then e.1 >>= λ m. value scope None what.Value m >>= λ a. sign_at sign.Else a.1 >>= λ n.
    value scope None what.Value n >>= λ b. sign_at sign.End b.1 >>= λ rest. Ok (sugar.If left e.0 a.0 b.0, rest)

-- one clause more
abbrev pub with_value_clause : ValueClauses → Pattern → Value → ValueClauses
with_value_clause no_clauses p v = clause_and p v no_clauses
with_value_clause (clause_and q u cs) p v = clause_and q u (with_value_clause cs p v)

-- a pattern and `then`, with the declarations behind it
abbrev pub clause_head_at : Scope → List Symbol → Result (Pattern × Scope × List Symbol) Fault
clause_head_at scope symbols = pattern_at scope symbols >>= λ m. sign_at sign.Then m.2 >>= λ rest. Ok (m.0, scope ++ m.1, rest)

-- a clause of a value: its pattern and its value
abbrev pub value_clause_at : ValueReader → Scope → List Symbol → Read (Pattern × Value)
value_clause_at value scope symbols = clause_head_at scope symbols >>= λ m. value m.1 None what.Value m.2 >>= λ v. Ok ((m.0, v.0), v.1)

-- behind the value of a clause: another clause, or `else`
abbrev pub value_clause_end_at : (List Symbol → Read ValueClauses) → ValueClauses → List Symbol → Read ValueClauses
value_clause_end_at another cs (t.Clause ∷ rest) = another rest
value_clause_end_at another cs (t.Else ∷ rest) = Ok (cs, rest)
value_clause_end_at another cs symbols = fault_expected what.ClauseOrElse symbols

-- clauses of values behind others, at the pattern of the next, at most n of them, up to `else`
unfoldable pub value_clauses_at : ValueReader → Scope → ℕ → ValueClauses → List Symbol → Read ValueClauses
value_clauses_at value scope zero before symbols = fault_expected what.Pattern symbols
value_clauses_at value scope (suc n) before symbols =
    value_clause_at value scope symbols >>= λ c.
    value_clause_end_at (value_clauses_at value scope n (with_value_clause before c.0.0 c.0.1)) (with_value_clause before c.0.0 c.0.1) c.1

-- a `case` as a value, behind that word
abbrev pub case_value_at : ValueReader → Scope → ℕ → List Symbol → Read Value
case_value_at value scope left symbols =
    value scope None what.Value symbols >>= λ e. sign_at sign.Of e.1 >>= λ m. value_clauses_at value scope (length m + 1) no_clauses m >>= λ cs.
    value scope None what.Value cs.1 >>= λ b. sign_at sign.End b.1 >>= λ rest. Ok (sugar.Case left e.0 cs.0 b.0, rest)

-- a value with d levels; inner reads with one less
abbrev pub value_at : Readers → ℕ → ValueReader
value_at inner d scope holder w (t.If ∷ rest) = on_level d holder (t.If ∷ rest) (if_value_at inner.value scope (length (t.If ∷ rest)) rest)
value_at inner d scope holder w (t.Case ∷ rest) = on_level d holder (t.Case ∷ rest) (case_value_at inner.value scope (length (t.Case ∷ rest)) rest)
value_at inner d scope holder w symbols = part_at inner d scope holder w symbols >>= λ p. behind_part_at inner scope (length symbols) p.0 p.1

-- ---- statements: values have their levels, bodies one less

-- a tell: a variable, = and a value
abbrev pub tell_at : ValueReader → Scope → ℕ → List Symbol → Read Statement
tell_at value scope left symbols =
    used_variable_at what.Statement scope symbols >>= λ x. sign_at sign.Equals x.1 >>= λ a. value scope None what.Value a >>= λ v. Ok (sugar.Tell left x.0 v.0, v.1)

-- a `raise` behind that word
abbrev pub raise_at : ValueReader → Scope → ℕ → List Symbol → Read Statement
raise_at value scope left symbols =
    value scope None what.Value symbols >>= λ v. sign_at sign.End v.1 >>= λ rest. Ok (sugar.Acts left action.Raise (value_and v.0 no_values), rest)

-- a `local` behind that word
abbrev pub local_at : StatementReader → Scope → ℕ → List Symbol → Read Statement
local_at statement scope left symbols =
    first_local_at symbols >>= λ m. body_at statement (scope ++ m.0) m.1 >>= λ q. Ok (sugar.Local left (length m.0) q.0, q.1)

-- a `thread` behind that word
abbrev pub thread_at : StatementReader → Scope → ℕ → List Symbol → Read Statement
thread_at statement scope left (t.At ∷ rest) = site_at rest >>= λ n. body_at statement scope n.1 >>= λ q. Ok (sugar.Thread left (Some n.0) q.0, q.1)
thread_at statement scope left symbols = closed_at statement closer.End scope what.StatementOrAt symbols >>= λ q. Ok (sugar.Thread left None q.0, q.1)

-- an `if` behind that word
abbrev pub if_at : ValueReader → StatementReader → Scope → ℕ → List Symbol → Read Statement
if_at value statement scope left symbols =
    value scope None what.Value symbols >>= λ e. sign_at sign.Then e.1 >>= λ a. closed_at statement closer.Else scope what.Statement a >>= λ q.
    body_at statement scope q.1 >>= λ r. Ok (sugar.IfStatement left e.0 q.0 r.0, r.1)

-- one clause more
abbrev pub with_clause : Clauses → Pattern → Statements → Clauses
with_clause no_cases p q = case_and p q no_cases
with_clause (case_and o r cs) p q = case_and o r (with_clause cs p q)

-- a clause of a statement: its pattern and its statements, up to what closes them
abbrev pub clause_at : StatementReader → Scope → List Symbol → Read (Pattern × Statements)
clause_at statement scope symbols = clause_head_at scope symbols >>= λ m. sequence_at statement closer.OfClause m.1 what.Statement m.2 >>= λ q. Ok ((m.0, q.0), q.1)

-- behind the statements of a clause: another clause, or `else`
abbrev pub clause_end_at : (List Symbol → Read Clauses) → Clauses → List Symbol → Read Clauses
clause_end_at another cs (t.Clause ∷ rest) = another rest
clause_end_at another cs symbols = Ok (cs, drop 1 symbols)

-- clauses of statements behind others, at the pattern of the next, at most n of them, up to `else`
unfoldable pub clauses_at : StatementReader → Scope → ℕ → Clauses → List Symbol → Read Clauses
clauses_at statement scope zero before symbols = fault_expected what.Pattern symbols
clauses_at statement scope (suc n) before symbols =
    clause_at statement scope symbols >>= λ c.
    clause_end_at (clauses_at statement scope n (with_clause before c.0.0 c.0.1)) (with_clause before c.0.0 c.0.1) c.1

-- a `case` behind that word
abbrev pub case_at : ValueReader → StatementReader → Scope → ℕ → List Symbol → Read Statement
case_at value statement scope left symbols =
    value scope None what.Value symbols >>= λ e. sign_at sign.Of e.1 >>= λ m. clauses_at statement scope (length m + 1) no_cases m >>= λ cs.
    body_at statement scope cs.1 >>= λ r. Ok (sugar.CaseStatement left e.0 cs.0 r.0, r.1)

-- a handler under its name, behind `catch`, up to what closes it
abbrev pub handler_at : StatementReader → Scope → List Symbol → Read Statements
handler_at statement scope symbols =
    catch_name_at symbols >>= λ x. sign_at sign.Then x.1 >>= λ rest. sequence_at statement closer.OfHandler (scope ++ x.0 ∷ []) what.Statement rest

-- behind the handler of a `try` with these statements: the statements behind `finally`, or `end`
abbrev pub handler_end_at : StatementReader → Scope → ℕ → Statements → Statements → List Symbol → Read Statement
handler_end_at statement scope left q r (t.Finally ∷ rest) =
    body_at statement scope rest >>= λ u. Ok (sugar.Finally left (statement_and (sugar.Try left q r) no_statements) u.0, u.1)
handler_end_at statement scope left q r symbols = Ok (sugar.Try left q r, drop 1 symbols)

-- behind the statements of a `try`: a handler, or the statements behind `finally`
abbrev pub try_end_at : StatementReader → Scope → ℕ → Statements → List Symbol → Read Statement
try_end_at statement scope left q (t.Catch ∷ rest) = handler_at statement scope rest >>= λ r. handler_end_at statement scope left q r.0 r.1
try_end_at statement scope left q symbols = body_at statement scope (drop 1 symbols) >>= λ u. Ok (sugar.Finally left q u.0, u.1)

-- a `try` behind that word
abbrev pub try_at : StatementReader → Scope → ℕ → List Symbol → Read Statement
try_at statement scope left symbols = sequence_at statement closer.OfTry scope what.Statement symbols >>= λ q. try_end_at statement scope left q.0 q.1

-- a statement that holds no values of its own
abbrev pub block_at : Readers → Scope → ℕ → List Symbol → Read Statement
block_at inner scope left (t.Skip ∷ rest) = Ok (sugar.Skip left, rest)
block_at inner scope left (t.Local ∷ rest) = local_at inner.statement scope left rest
block_at inner scope left (t.Proc ∷ rest) = callable_statement_at inner OfProc scope left rest
block_at inner scope left (t.Fun ∷ rest) = callable_statement_at inner OfFun scope left rest
block_at inner scope left (t.Thread ∷ rest) = thread_at inner.statement scope left rest
block_at inner scope left (t.Try ∷ rest) = try_at inner.statement scope left rest
block_at inner scope left symbols = fault_expected what.Statement symbols

-- a statement whose values are read by value, and what it holds otherwise by inner
abbrev pub kind_at : ValueReader → Readers → Scope → List Symbol → Read Statement
kind_at value inner scope (t.Variable x ∷ rest) = tell_at value scope (length (t.Variable x ∷ rest)) (t.Variable x ∷ rest)
kind_at value inner scope (t.OpenCurly ∷ rest) = call_statement_at value scope (length (t.OpenCurly ∷ rest)) rest
kind_at value inner scope (t.Raise ∷ rest) = raise_at value scope (length (t.Raise ∷ rest)) rest
kind_at value inner scope (t.If ∷ rest) = if_at value inner.statement scope (length (t.If ∷ rest)) rest
kind_at value inner scope (t.Case ∷ rest) = case_at value inner.statement scope (length (t.Case ∷ rest)) rest
kind_at value inner scope symbols = block_at inner scope (length symbols) symbols

-- a statement begins here
abbrev pub is_at_statement : List Symbol → Bool
is_at_statement [] = false
is_at_statement (t.Fun ∷ rest) = true
is_at_statement (symbol ∷ rest) = is_statement_start symbol

-- a statement with d levels; inner reads with one less
abbrev pub statement_at : Readers → ℕ → StatementReader
statement_at inner d scope w symbols =
    if is_at_statement symbols then on_level d None symbols (kind_at (value_at inner d) inner scope symbols)
    else fault_expected w symbols

-- ---- levels

-- what is read with d levels, where inner reads with one less
abbrev pub readers_over : Readers → ℕ → Readers
readers_over inner d = record { value = value_at inner d; operand = operand_at inner d; tail = tail_at inner d; statement = statement_at inner d }

-- nothing is read where no level is left
abbrev pub no_readers : Readers
no_readers = record {
  value = λ scope holder w symbols. Err (fault_here Deep symbols);
  operand = λ scope symbols. Err (fault_here Deep symbols);
  tail = λ scope symbols. Err (fault_here Deep symbols);
  statement = λ scope w symbols. Err (fault_here Deep symbols);
}

-- what is read inside a value or a statement with d levels
unfoldable pub below : ℕ → Readers
below zero = no_readers
below (suc d) = readers_over (below d) d

-- a value with d levels
abbrev pub value_with : ℕ → ValueReader
value_with d = value_at (below d) d

-- a statement with d levels
abbrev pub statement_with : ℕ → StatementReader
statement_with d = statement_at (below d) d

-- the tree of the program that these symbols are, whose statements have depth 1 of 200, or their first fault
unfoldable pub program_at : List Symbol → Result Statements Fault
program_at symbols = sequence_at (statement_with 200) closer.EndOfText [] what.Statement symbols >>= λ q. Ok q.0
