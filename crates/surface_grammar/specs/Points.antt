-- The points of the grammar with sugar: what is expected at each, which symbols go on from it and to which points, and what is
-- wrong at a symbol there. A list of points, the next first, is what a program must still give behind some symbols.
use Rattle.std.specs.Prelude.{ℕ, zero, suc, ◌+◌, ◌-◌, List, [], ◌∷◌, ◌++◌, length, nat_lt, Bool, if◌then◌else◌, Option, Some, None}
use Rattle.std.specs.List.{list_any}
use Rattle.tree_node.specs.declared.limits.TheConstants.{MOST_ITEMS}
use Rattle.tree_node.specs.declared.node.Feature.{Feature}
use Rattle.tree_node.specs.Goal.{equal_feature}
use Rattle.kernel_syntax.specs.declared.built_in.BuiltIn.{BuiltIn}
use Rattle.kernel_syntax.specs.BuiltIns.{arity_of}
use Rattle.oz_grammar.specs.declared.symbol.Symbol.{Symbol}
use Rattle.oz_grammar.specs.declared.symbol.Symbol.TheVariants as t
use Rattle.oz_grammar.specs.declared.symbol.Sign.{Sign}
use Rattle.oz_grammar.specs.declared.symbol.Sign.TheVariants as sign
use Rattle.oz_grammar.specs.declared.symbol.Purpose.TheVariants as purpose
use Rattle.oz_grammar.specs.declared.fault.Fault.{Fault}
use Rattle.oz_grammar.specs.declared.fault.FaultKind.{FaultKind}
use Rattle.oz_grammar.specs.declared.fault.FaultKind.TheVariants.{Expected, Twice, Wide}
use Rattle.oz_grammar.specs.declared.fault.What.{What}
use Rattle.oz_grammar.specs.declared.fault.What.TheVariants as what
use Rattle.oz_grammar.specs.Grammar.{Identifier, FeatureToken, AtomFeature, IntFeature}
use Rattle.oz_grammar.specs.Scoping.{Scope, Fields, built_in_at, has_name, with_field, feature_of, place_feature, names_in}
use Rattle.oz_grammar.specs.Faults.{or_else, where_so, where_not, number_fault, site_fault, deep_fault, use_fault, count_fault, called_fault, room_fault, name_fault, fewer, fault_here, lexical}
use Rattle.oz_grammar.specs.Points.{Stage, First, AfterThread, Later, is_sign, expected_sign, next_selection, on_variable, on_integer, stmt_fault, value_wrong, field_wrong, by_name, by_number}
use Rattle.oz_grammar.specs.Automata.{Automaton, read, then_points, or_points, is_done}
use Rattle.surface_grammar.specs.declared.parts.CallUse.{CallUse}
use Rattle.surface_grammar.specs.declared.parts.CallUse.TheVariants.{AsValue, AsStatement}
use Rattle.surface_grammar.specs.declared.parts.Callable.{Callable}
use Rattle.surface_grammar.specs.declared.parts.Callable.TheVariants.{OfProc, OfFun}

-- how far a value may go on behind its first primary: a whole value, a part of an operator or a test, the tail of a list
pub data Extent : Type 0 where
  Whole : Extent
  Part : Extent
  Rest : Extent

-- clauses of values, or of statements
pub data Branch : Type 0 where
  OfValue : Branch
  OfStatements : Branch

-- What closes statements: `end`; `else`; `[]` or `else` in a clause; `catch` or `finally` in a `try`; `finally` or `end` in a
-- handler; the end of the text. Where something follows, it is under the declarations and has the levels that stand here.
pub data Closing : Type 0 where
  Ends : Closing
  BeforeElse : Closing
  InClause : Scope → ℕ → Closing
  InTry : Scope → ℕ → Closing
  InHandler : Scope → ℕ → Closing
  WithText : Closing

-- each under the declarations around it, and with the levels that are left there
pub data Point : Type 0 where
  -- a statement, or the end of the sequence
  At : Stage → Closing → Scope → ℕ → Point
  -- one symbol
  Here : Sign → Point
  -- the first name of a `local`, and others behind some
  LocalName : Scope → ℕ → Point
  LocalMore : Scope → List Identifier → ℕ → Point
  -- the name in a `proc` or `fun` statement, and formals behind others
  CallableName : Callable → Scope → ℕ → Point
  Formals : Callable → Scope → List Identifier → ℕ → Point
  -- a value, the second part of an operator or a test, the tail of a list
  ValueOf : Scope → ℕ → Point
  OperandOf : Scope → ℕ → Point
  TailOf : Scope → ℕ → Point
  -- behind a primary, which as a part of a value has so many levels left, and behind an atom
  Behind : Extent → Scope → ℕ → ℕ → Point
  BehindAtom : Extent → Scope → ℕ → Point
  SelectionOf : Scope → Point
  -- a field behind others of these features, with room for so many, and behind an atom or an integer that begins one
  FieldOf : Scope → ℕ → ℕ → List Feature → ℕ → Point
  FieldBegun : Scope → ℕ → ℕ → List Feature → ℕ → FeatureToken → Point
  -- the name of a call, an argument behind n others, of at most so many, and k arguments of what is built in
  CallName : CallUse → Scope → ℕ → Point
  Arguments : Scope → ℕ → ℕ → ℕ → Point
  Wanted : Scope → ℕ → ℕ → Point
  -- a pattern, what may follow its atom, the variable behind its bar, a field behind others, the variable behind a feature
  PatternOf : Branch → Scope → ℕ → Point
  BehindPattern : Branch → Scope → ℕ → Point
  PatternTail : Branch → Scope → ℕ → Identifier → Point
  PatternField : Branch → Scope → ℕ → ℕ → Fields → ℕ → Point
  PatternName : Branch → Scope → ℕ → ℕ → Fields → ℕ → FeatureToken → Point
  -- behind the value of a clause
  ClauseEnd : Scope → ℕ → Point
  -- the site of a thread, and the name in `catch`
  SiteHere : Point
  CatchName : Scope → ℕ → Point

-- ---- what is expected

-- behind a statement: another, or what closes the sequence
abbrev pub expected_after : Closing → What
expected_after Ends = what.StatementOrEnd
expected_after BeforeElse = what.StatementOrElse
expected_after (InClause scope d) = what.StatementOrClause
expected_after (InTry scope d) = what.StatementOrHandler
expected_after (InHandler scope d) = what.StatementOrFinally
expected_after WithText = what.StatementOrEndOfText

-- at the front of a statement, by where that is
abbrev pub expected_statement : Stage → Closing → What
expected_statement First c = what.Statement
expected_statement AfterThread c = what.StatementOrAt
expected_statement Later c = expected_after c

-- behind a name that is built in: an argument while some are wanted, then the closing bracket
abbrev pub expected_wanted : ℕ → What
expected_wanted zero = what.Close
expected_wanted (suc k) = what.Value

-- What a refusal names behind `expected`. Behind a primary it is what is expected behind the whole value.
abbrev pub expected : List Point → What
expected [] = what.StatementOrEndOfText
expected (At stage c scope d ∷ points) = expected_statement stage c
expected (Here s ∷ points) = expected_sign s
expected (LocalName scope d ∷ points) = what.Variable
expected (LocalMore scope xs d ∷ points) = what.VariableOrIn
expected (CallableName c scope d ∷ points) = what.Variable
expected (Formals c scope xs d ∷ points) = what.VariableOrClose
expected (ValueOf scope d ∷ points) = what.Value
expected (OperandOf scope d ∷ points) = what.Value
expected (TailOf scope d ∷ points) = what.Value
expected (Behind extent scope d r ∷ points) = expected points
expected (BehindAtom extent scope d ∷ points) = expected points
expected (SelectionOf scope ∷ points) = what.VariableOrFeature
expected (FieldOf scope d room before nth ∷ points) = what.FieldOrBracket
expected (FieldBegun scope d room before nth m ∷ points) = what.FieldOrBracket
expected (CallName u scope d ∷ points) = what.Variable
expected (Arguments scope d n most ∷ points) = what.ValueOrClose
expected (Wanted scope d k ∷ points) = expected_wanted k
expected (PatternOf b scope d ∷ points) = what.Pattern
expected (BehindPattern b scope d ∷ points) = what.Then
expected (PatternTail b scope d h ∷ points) = what.Variable
expected (PatternField b scope d room before nth ∷ points) = what.FieldOrBracket
expected (PatternName b scope d room before nth m ∷ points) = what.Variable
expected (ClauseEnd scope d ∷ points) = what.ClauseOrElse
expected (SiteHere ∷ points) = what.Integer
expected (CatchName scope d ∷ points) = what.Variable

-- ---- which symbols go on, and to which points

-- at a primary, which goes on so far
abbrev pub next_primary : Extent → Scope → ℕ → Symbol → Option (List Point)
next_primary extent scope d (t.Variable x) = Some (Behind extent scope d d ∷ [])
next_primary extent scope d (t.Integer n) = Some (Behind extent scope d (fewer d) ∷ [])
next_primary extent scope d (t.Atom a) = Some (BehindAtom extent scope d ∷ [])
next_primary extent scope d t.OpenCurly = Some (CallName AsValue scope (fewer d) ∷ Behind extent scope d (fewer d) ∷ [])
next_primary extent scope d t.Proc = Some (Here sign.OpenCurly ∷ Here sign.Dollar ∷ Formals OfProc scope [] (fewer d) ∷ Behind extent scope d (fewer d) ∷ [])
next_primary extent scope d t.Fun = Some (Here sign.OpenCurly ∷ Here sign.Dollar ∷ Formals OfFun scope [] (fewer d) ∷ Behind extent scope d (fewer d) ∷ [])
next_primary extent scope d t.OpenRound = Some (ValueOf scope (fewer d) ∷ Here sign.CloseRound ∷ Behind extent scope d (fewer d) ∷ [])
next_primary extent scope d symbol = None

-- at a value: a primary, `if` or `case`
abbrev pub next_value : Scope → ℕ → Symbol → Option (List Point)
next_value scope d t.If = Some (ValueOf scope (fewer d) ∷ Here sign.Then ∷ ValueOf scope (fewer d) ∷ Here sign.Else ∷ ValueOf scope (fewer d) ∷ Here sign.End ∷ [])
next_value scope d t.Case = Some (ValueOf scope (fewer d) ∷ Here sign.Of ∷ PatternOf OfValue scope (fewer d) ∷ [])
next_value scope d symbol = next_primary Whole scope d symbol

-- behind a primary: a dot makes it part of a selection, an operator, a test or a bar part of that value
abbrev pub next_behind : Extent → Scope → ℕ → ℕ → Symbol → Option (List Point)
next_behind extent scope d r t.Dot = Some (SelectionOf scope ∷ Behind extent scope d (fewer r) ∷ [])
next_behind Whole scope d r (t.Operator o) = Some (OperandOf scope (fewer d) ∷ [])
next_behind Whole scope d r (t.Test o) = Some (OperandOf scope (fewer d) ∷ [])
next_behind Whole scope d r t.Bar = Some (TailOf scope (fewer d) ∷ [])
next_behind Rest scope d r t.Bar = Some (TailOf scope (fewer d) ∷ [])
next_behind extent scope d r symbol = None

-- behind an atom: an opening bracket makes it a label
abbrev pub next_atom : Extent → Scope → ℕ → Symbol → Option (List Point)
next_atom extent scope d t.OpenRound = Some (FieldOf scope (fewer d) MOST_ITEMS [] 1 ∷ Behind extent scope d (fewer d) ∷ [])
next_atom extent scope d symbol = next_behind extent scope d (fewer d) symbol

-- behind a field without a feature
abbrev pub behind_placed : Scope → ℕ → ℕ → List Feature → ℕ → List Point
behind_placed scope d room before nth = FieldOf scope d (fewer room) (place_feature nth ∷ before) (nth + 1) ∷ []

-- at a field, or at the closing bracket
abbrev pub next_field : Scope → ℕ → ℕ → List Feature → ℕ → Symbol → Option (List Point)
next_field scope d room before nth t.CloseRound = Some []
next_field scope d room before nth (t.Atom a) = Some (FieldBegun scope d room before nth (AtomFeature a) ∷ [])
next_field scope d room before nth (t.Integer n) = Some (FieldBegun scope d room before nth (IntFeature n) ∷ [])
next_field scope d room before nth symbol = then_points (next_value scope d symbol) (behind_placed scope d room before nth)

-- what goes on with an atom or an integer as a value
abbrev pub next_begun_value : Scope → ℕ → FeatureToken → Symbol → Option (List Point)
next_begun_value scope d (AtomFeature a) symbol = next_atom Whole scope d symbol
next_begun_value scope d (IntFeature n) symbol = next_behind Whole scope d (fewer d) symbol

-- behind an atom or an integer that begins a field: a colon makes it a feature
abbrev pub next_begun : Scope → ℕ → ℕ → List Feature → ℕ → FeatureToken → Symbol → Option (List Point)
next_begun scope d room before nth m t.Colon = Some (ValueOf scope d ∷ FieldOf scope d (fewer room) (feature_of m ∷ before) nth ∷ [])
next_begun scope d room before nth m symbol = then_points (next_begun_value scope d m symbol) (behind_placed scope d room before nth)

-- behind the name of a call, of what is built in or of a procedure
abbrev pub next_call : CallUse → Scope → ℕ → Option BuiltIn → List Point
next_call AsValue scope d (Some b) = Wanted scope d (arity_of b - 1) ∷ []
next_call AsStatement scope d (Some b) = Wanted scope d (arity_of b) ∷ []
next_call AsValue scope d None = Arguments scope d 0 63 ∷ []
next_call AsStatement scope d None = Arguments scope d 0 MOST_ITEMS ∷ []

-- at an argument of a procedure behind n others, or at the closing bracket
abbrev pub next_argument : Scope → ℕ → ℕ → ℕ → Symbol → Option (List Point)
next_argument scope d n most t.CloseCurly = Some []
next_argument scope d n most symbol = then_points (next_value scope d symbol) (Arguments scope d (n + 1) most ∷ [])

-- at an argument of what is built in, where so many are wanted, then at the closing bracket
abbrev pub next_wanted : Scope → ℕ → ℕ → Symbol → Option (List Point)
next_wanted scope d zero t.CloseCurly = Some []
next_wanted scope d zero symbol = None
next_wanted scope d (suc k) symbol = then_points (next_value scope d symbol) (Wanted scope d k ∷ [])

-- behind a pattern and its `then`: a value or statements, under its variables
abbrev pub clause_points : Branch → Scope → Scope → ℕ → List Point
clause_points OfValue outer scope d = ValueOf scope d ∷ ClauseEnd outer d ∷ []
clause_points OfStatements outer scope d = At First (InClause outer d) scope d ∷ []

-- at a pattern: an integer, an atom, or the first variable of H|T
abbrev pub next_pattern : Branch → Scope → ℕ → Symbol → Option (List Point)
next_pattern b scope d (t.Integer n) = Some (Here sign.Then ∷ clause_points b scope scope d)
next_pattern b scope d (t.Atom a) = Some (BehindPattern b scope d ∷ [])
next_pattern b scope d (t.Variable h) = Some (Here sign.Bar ∷ PatternTail b scope d h ∷ [])
next_pattern b scope d symbol = None

-- behind the atom of a pattern: at an opening bracket, or at `then`
abbrev pub next_behind_pattern : Branch → Scope → ℕ → Symbol → Option (List Point)
next_behind_pattern b scope d t.OpenRound = Some (PatternField b scope d MOST_ITEMS [] 1 ∷ [])
next_behind_pattern b scope d t.Then = Some (clause_points b scope scope d)
next_behind_pattern b scope d symbol = None

-- at a field of a pattern behind others, with room for so many, or at the closing bracket
abbrev pub next_pattern_field : Branch → Scope → ℕ → ℕ → Fields → ℕ → Symbol → Option (List Point)
next_pattern_field b scope d room before nth t.CloseRound = Some (Here sign.Then ∷ clause_points b scope (scope ++ names_in before) d)
next_pattern_field b scope d room before nth (t.Variable x) = Some (PatternField b scope d (fewer room) (with_field (place_feature nth) x before) (nth + 1) ∷ [])
next_pattern_field b scope d room before nth (t.Atom a) = Some (Here sign.Colon ∷ PatternName b scope d room before nth (AtomFeature a) ∷ [])
next_pattern_field b scope d room before nth (t.Integer n) = Some (Here sign.Colon ∷ PatternName b scope d room before nth (IntFeature n) ∷ [])
next_pattern_field b scope d room before nth symbol = None

-- behind the value of a clause: another clause, or the last value
abbrev pub next_clause_end : Scope → ℕ → Symbol → Option (List Point)
next_clause_end scope d t.Clause = Some (PatternOf OfValue scope d ∷ [])
next_clause_end scope d t.Else = Some (ValueOf scope d ∷ Here sign.End ∷ [])
next_clause_end scope d symbol = None

-- what closes a sequence, and what follows then
abbrev pub next_closing : Closing → Symbol → Option (List Point)
next_closing Ends t.End = Some []
next_closing BeforeElse t.Else = Some []
next_closing (InClause scope d) t.Clause = Some (PatternOf OfStatements scope d ∷ [])
next_closing (InClause scope d) t.Else = Some (At First Ends scope d ∷ [])
next_closing (InTry scope d) t.Catch = Some (CatchName scope d ∷ [])
next_closing (InTry scope d) t.Finally = Some (At First Ends scope d ∷ [])
next_closing (InHandler scope d) t.End = Some []
next_closing (InHandler scope d) t.Finally = Some (At First Ends scope d ∷ [])
next_closing WithText t.EndOfText = Some []
next_closing c symbol = None

-- behind the symbol that begins a statement
abbrev pub next_first : Closing → Scope → ℕ → Symbol → Option (List Point)
next_first c scope d t.Skip = Some (At Later c scope d ∷ [])
next_first c scope d (t.Variable x) = Some (Here sign.Equals ∷ ValueOf scope d ∷ At Later c scope d ∷ [])
next_first c scope d t.OpenCurly = Some (CallName AsStatement scope d ∷ At Later c scope d ∷ [])
next_first c scope d t.Raise = Some (ValueOf scope d ∷ Here sign.End ∷ At Later c scope d ∷ [])
next_first c scope d t.Local = Some (LocalName scope (fewer d) ∷ At Later c scope d ∷ [])
next_first c scope d t.Proc = Some (Here sign.OpenCurly ∷ CallableName OfProc scope (fewer d) ∷ At Later c scope d ∷ [])
next_first c scope d t.Fun = Some (Here sign.OpenCurly ∷ CallableName OfFun scope (fewer d) ∷ At Later c scope d ∷ [])
next_first c scope d t.Thread = Some (At AfterThread Ends scope (fewer d) ∷ At Later c scope d ∷ [])
next_first c scope d t.If = Some (ValueOf scope d ∷ Here sign.Then ∷ At First BeforeElse scope (fewer d) ∷ At First Ends scope (fewer d) ∷ At Later c scope d ∷ [])
next_first c scope d t.Case = Some (ValueOf scope d ∷ Here sign.Of ∷ PatternOf OfStatements scope (fewer d) ∷ At Later c scope d ∷ [])
next_first c scope d t.Try = Some (At First (InTry scope (fewer d)) scope (fewer d) ∷ At Later c scope d ∷ [])
next_first c scope d symbol = None

-- what may stand there besides a statement: what closes the sequence, or `at`
abbrev pub beside : Stage → Closing → Scope → ℕ → Symbol → Option (List Point)
beside First c scope d symbol = None
beside AfterThread c scope d t.At = Some (SiteHere ∷ At First c scope d ∷ [])
beside AfterThread c scope d symbol = None
beside Later c scope d symbol = next_closing c symbol

-- at a statement
abbrev pub next_statement : Stage → Closing → Scope → ℕ → Symbol → Option (List Point)
next_statement stage c scope d symbol = or_points (next_first c scope d symbol) (beside stage c scope d symbol)

-- at a further name of a `local`, or at `in`
abbrev pub next_local : Scope → List Identifier → ℕ → Symbol → Option (List Point)
next_local scope xs d (t.Variable x) = Some (LocalMore scope (xs ++ x ∷ []) d ∷ [])
next_local scope xs d t.In = Some (At First Ends (scope ++ xs) d ∷ [])
next_local scope xs d symbol = None

-- the body of a procedure, or the value of a function
abbrev pub body_points : Callable → Scope → ℕ → List Point
body_points OfProc scope d = At First Ends scope d ∷ []
body_points OfFun scope d = ValueOf scope d ∷ Here sign.End ∷ []

-- at a formal behind others, or at the closing bracket
abbrev pub next_formal : Callable → Scope → List Identifier → ℕ → Symbol → Option (List Point)
next_formal c scope xs d (t.Variable x) = Some (Formals c scope (xs ++ x ∷ []) d ∷ [])
next_formal c scope xs d t.CloseCurly = Some (body_points c (scope ++ xs) d)
next_formal c scope xs d symbol = None

-- where the symbol leads from a point
abbrev pub next_of : Point → Symbol → Option (List Point)
next_of (At stage c scope d) symbol = next_statement stage c scope d symbol
next_of (Here s) symbol = if is_sign s symbol then Some [] else None
next_of (LocalName scope d) symbol = on_variable (λ x. LocalMore scope (x ∷ []) d ∷ []) symbol
next_of (LocalMore scope xs d) symbol = next_local scope xs d symbol
next_of (CallableName c scope d) symbol = on_variable (λ x. Formals c scope [] d ∷ []) symbol
next_of (Formals c scope xs d) symbol = next_formal c scope xs d symbol
next_of (ValueOf scope d) symbol = next_value scope d symbol
next_of (OperandOf scope d) symbol = next_primary Part scope d symbol
next_of (TailOf scope d) symbol = next_primary Rest scope d symbol
next_of (Behind extent scope d r) symbol = next_behind extent scope d r symbol
next_of (BehindAtom extent scope d) symbol = next_atom extent scope d symbol
next_of (SelectionOf scope) symbol = next_selection symbol
next_of (FieldOf scope d room before nth) symbol = next_field scope d room before nth symbol
next_of (FieldBegun scope d room before nth m) symbol = next_begun scope d room before nth m symbol
next_of (CallName u scope d) symbol = on_variable (λ p. next_call u scope d (built_in_at scope p)) symbol
next_of (Arguments scope d n most) symbol = next_argument scope d n most symbol
next_of (Wanted scope d k) symbol = next_wanted scope d k symbol
next_of (PatternOf b scope d) symbol = next_pattern b scope d symbol
next_of (BehindPattern b scope d) symbol = next_behind_pattern b scope d symbol
next_of (PatternTail b scope d h) symbol = on_variable (λ x. Here sign.Then ∷ clause_points b scope (scope ++ h ∷ x ∷ []) d) symbol
next_of (PatternField b scope d room before nth) symbol = next_pattern_field b scope d room before nth symbol
next_of (PatternName b scope d room before nth m) symbol = on_variable (λ x. PatternField b scope d (fewer room) (with_field (feature_of m) x before) nth ∷ []) symbol
next_of (ClauseEnd scope d) symbol = next_clause_end scope d symbol
next_of SiteHere symbol = on_integer [] symbol
next_of (CatchName scope d) symbol = on_variable (λ x. Here sign.Then ∷ At First (InHandler scope d) (scope ++ x ∷ []) d ∷ []) symbol

-- Where the symbol leads. Behind a primary the value need not go on: where it does not, the next point takes the symbol. So
-- behind an atom or an integer that begins a field, another field or the closing bracket may stand.
abbrev pub next : List Point → Symbol → Option (List Point)
next [] symbol = None
next (Behind extent scope d r ∷ points) symbol = or_points (then_points (next_behind extent scope d r symbol) points) (next points symbol)
next (BehindAtom extent scope d ∷ points) symbol = or_points (then_points (next_atom extent scope d symbol) points) (next points symbol)
next (FieldBegun scope d room before nth m ∷ points) symbol =
    or_points (then_points (next_begun scope d room before nth m symbol) points)
    (then_points (next_field scope d (fewer room) (place_feature nth ∷ before) (nth + 1) symbol) points)
next (p ∷ points) symbol = then_points (next_of p symbol) points

-- ---- what is wrong

-- at the first symbol of a value, where its holder has something wrong there, or nothing
abbrev pub value_fault : Scope → ℕ → Option FaultKind → Symbol → Option FaultKind
value_fault scope d holder (t.Variable x) = or_else holder (use_fault scope x)
value_fault scope d holder (t.Integer n) = or_else (number_fault n) (or_else (deep_fault d) holder)
value_fault scope d holder symbol = or_else (deep_fault d) holder

-- one of these features is this one
abbrev pub is_given : List Feature → Feature → Bool
is_given before f = list_any (λ (g : Feature). equal_feature g f) before

-- one more field of this feature, where there is room for so many
abbrev pub given_fault : ℕ → List Feature → Feature → Option FaultKind
given_fault room before f = or_else (room_fault room) (where_so (is_given before f) Twice)

-- a feature that a field names
abbrev pub named_fault : ℕ → List Feature → FeatureToken → Option FaultKind
named_fault room before (AtomFeature a) = given_fault room before (feature_of (AtomFeature a))
named_fault room before (IntFeature n) = or_else (number_fault n) (given_fault room before (feature_of (IntFeature n)))

-- at a field: an atom or an integer is a feature where a colon stands behind it, and else begins a value
abbrev pub field_fault : Scope → ℕ → ℕ → List Feature → ℕ → List Symbol → Option FaultKind
field_fault scope d room before nth [] = None
field_fault scope d room before nth (t.CloseRound ∷ symbols) = None
field_fault scope d room before nth (t.Atom a ∷ t.Colon ∷ symbols) = named_fault room before (AtomFeature a)
field_fault scope d room before nth (t.Integer n ∷ t.Colon ∷ symbols) = named_fault room before (IntFeature n)
field_fault scope d room before nth (symbol ∷ symbols) = value_fault scope d (given_fault room before (place_feature nth)) symbol

-- one more argument behind n others, where there are at most so many
abbrev pub argument_fault : ℕ → ℕ → Option FaultKind
argument_fault n most = where_not (nat_lt n most) Wide

-- at an argument of a procedure
abbrev pub argument_wrong : Scope → ℕ → ℕ → ℕ → Symbol → Option FaultKind
argument_wrong scope d n most t.CloseCurly = None
argument_wrong scope d n most symbol = value_fault scope d (argument_fault n most) symbol

-- at an argument of what is built in
abbrev pub wanted_wrong : Scope → ℕ → ℕ → Symbol → Option FaultKind
wanted_wrong scope d zero symbol = None
wanted_wrong scope d (suc k) symbol = value_fault scope d None symbol

-- at a statement: its depth, and the name that begins a tell
abbrev pub statement_fault : Scope → ℕ → Symbol → Option FaultKind
statement_fault scope d t.Fun = deep_fault d
statement_fault scope d symbol = stmt_fault scope d symbol

-- the most formals: the last of a function's procedure is its result
abbrev pub most_formals : Callable → ℕ
most_formals OfProc = MOST_ITEMS
most_formals OfFun = 63

-- a formal behind others
abbrev pub formal_wrong : Callable → List Identifier → Identifier → Option FaultKind
formal_wrong c before x = or_else (where_not (nat_lt (length before) (most_formals c)) Wide) (where_so (has_name before x) Twice)

-- behind an atom: it has no level left as a part; an opening bracket takes none
abbrev pub atom_wrong : ℕ → Symbol → Option FaultKind
atom_wrong d t.OpenRound = None
atom_wrong d symbol = deep_fault (fewer d)

-- behind an atom or an integer that begins a field: likewise; a colon takes none
abbrev pub begun_wrong : ℕ → Symbol → Option FaultKind
begun_wrong d t.Colon = None
begun_wrong d symbol = atom_wrong d symbol

-- what is wrong, besides the grammar, at a symbol that goes on from a point
abbrev pub wrong_of : Point → Symbol → Option FaultKind
wrong_of (At stage c scope d) symbol = statement_fault scope d symbol
wrong_of (Here s) symbol = None
wrong_of (LocalName scope d) symbol = None
wrong_of (LocalMore scope xs d) symbol = by_name (λ x. count_fault (length xs)) symbol
wrong_of (CallableName c scope d) symbol = by_name (use_fault scope) symbol
wrong_of (Formals c scope xs d) symbol = by_name (formal_wrong c xs) symbol
wrong_of (ValueOf scope d) symbol = value_fault scope d None symbol
wrong_of (OperandOf scope d) symbol = value_fault scope d None symbol
wrong_of (TailOf scope d) symbol = value_fault scope d None symbol
wrong_of (Behind extent scope d r) symbol = deep_fault r
wrong_of (BehindAtom extent scope d) symbol = atom_wrong d symbol
wrong_of (SelectionOf scope) symbol = value_wrong scope symbol
wrong_of (FieldOf scope d room before nth) symbol = None
wrong_of (FieldBegun scope d room before nth m) symbol = begun_wrong d symbol
wrong_of (CallName u scope d) symbol = by_name (λ p. called_fault (built_in_at scope p) scope p) symbol
wrong_of (Arguments scope d n most) symbol = argument_wrong scope d n most symbol
wrong_of (Wanted scope d k) symbol = wanted_wrong scope d k symbol
wrong_of (PatternOf b scope d) symbol = by_number number_fault symbol
wrong_of (BehindPattern b scope d) symbol = None
wrong_of (PatternTail b scope d h) symbol = by_name (λ x. where_so (has_name (h ∷ []) x) Twice) symbol
wrong_of (PatternField b scope d room before nth) symbol = field_wrong purpose.Declare scope room before nth symbol
wrong_of (PatternName b scope d room before nth m) symbol = by_name (name_fault purpose.Declare scope before) symbol
wrong_of (ClauseEnd scope d) symbol = None
wrong_of SiteHere symbol = by_number site_fault symbol
wrong_of (CatchName scope d) symbol = None

-- the first, where the symbol goes on, else the second
abbrev pub where_taken : Option (List Point) → Option FaultKind → Option FaultKind → Option FaultKind
where_taken (Some points) here others = here
where_taken None here others = others

-- what is wrong at the first of these symbols, at the point that takes it
abbrev pub wrong : List Point → List Symbol → Option FaultKind
wrong points [] = None
wrong [] (symbol ∷ symbols) = None
wrong (Behind extent scope d r ∷ points) (symbol ∷ symbols) = where_taken (next_behind extent scope d r symbol) (deep_fault r) (wrong points (symbol ∷ symbols))
wrong (BehindAtom extent scope d ∷ points) (symbol ∷ symbols) = where_taken (next_atom extent scope d symbol) (atom_wrong d symbol) (wrong points (symbol ∷ symbols))
wrong (FieldBegun scope d room before nth m ∷ points) (symbol ∷ symbols) =
    where_taken (next_begun scope d room before nth m symbol) (begun_wrong d symbol) (field_fault scope d (fewer room) (place_feature nth ∷ before) (nth + 1) (symbol ∷ symbols))
wrong (FieldOf scope d room before nth ∷ points) (symbol ∷ symbols) = field_fault scope d room before nth (symbol ∷ symbols)
wrong (p ∷ points) (symbol ∷ symbols) = wrong_of p symbol

-- ---- reading

-- the automaton of points
abbrev pub points_automaton : Automaton Symbol FaultKind Fault (List Point)
points_automaton = record { next = next; wrong = wrong; expected = λ points. Expected (expected points); is_done = is_done; lexical = lexical; fault = fault_here }

-- at the front of a program
abbrev pub start : List Point
start = At First WithText [] 200 ∷ []

-- the first fault of these symbols, read from these points
abbrev pub run : List Symbol → List Point → Option Fault
run symbols points = read points_automaton symbols points
