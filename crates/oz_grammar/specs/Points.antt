-- The points of the grammar: what is expected at each, which symbols go on from it and to which points, and what is wrong
-- at a symbol there. A list of points, the next first, is what a program must still give behind some symbols.
use Rattle.std.specs.Prelude.{ℕ, zero, suc, ◌+◌, List, [], ◌∷◌, ◌++◌, length, Bool, true, false, if◌then◌else◌, Option, Some, None, ℤ}
use Rattle.tree_node.specs.declared.limits.TheConstants.{MOST_ITEMS}
use Rattle.oz_grammar.specs.declared.symbol.Symbol.{Symbol}
use Rattle.oz_grammar.specs.declared.symbol.Symbol.TheVariants as t
use Rattle.oz_grammar.specs.declared.symbol.Sign.{Sign}
use Rattle.oz_grammar.specs.declared.symbol.Sign.TheVariants as sign
use Rattle.oz_grammar.specs.declared.symbol.Closer.{Closer}
use Rattle.oz_grammar.specs.declared.symbol.Closer.TheVariants as closer
use Rattle.kernel_syntax.specs.declared.built_in.BuiltIn.{BuiltIn}
use Rattle.oz_grammar.specs.declared.symbol.Purpose.{Purpose}
use Rattle.oz_grammar.specs.declared.symbol.Purpose.TheVariants as purpose
use Rattle.oz_grammar.specs.declared.fault.What.{What}
use Rattle.oz_grammar.specs.declared.fault.What.TheVariants as what
use Rattle.oz_grammar.specs.declared.fault.Fault.{Fault}
use Rattle.oz_grammar.specs.declared.fault.FaultKind.{FaultKind}
use Rattle.oz_grammar.specs.declared.fault.FaultKind.TheVariants.{Expected, Twice}
use Rattle.oz_grammar.specs.Grammar.{Identifier, FeatureToken, AtomFeature, IntFeature}
use Rattle.kernel_syntax.specs.BuiltIns.{arity_of}
use Rattle.oz_grammar.specs.Scoping.{Scope, Fields, built_in_at, has_name, with_field, feature_of, place_feature, names_in}
use Rattle.oz_grammar.specs.Faults.{or_else, where_so, number_fault, site_fault, deep_fault, use_fault, count_fault, called_fault, argument_fault, formal_fault, feature_token_fault, name_fault, placed_fault, fewer, fault_here, lexical}
use Rattle.oz_grammar.specs.Automata.{Automaton, read, then_points, or_points, is_done}

-- where a statement may begin: at the front of a sequence, at that of a thread's body, or behind a statement
pub data Stage : Type 0 where
  First : Stage
  AfterThread : Stage
  Later : Stage

-- each under the declarations around it, and with the levels that are left there
pub data Point : Type 0 where
  -- a statement, or the end of the sequence
  At : Stage → Closer → Scope → ℕ → Point
  -- one symbol
  Here : Sign → Point
  -- a variable that is used
  Used : Scope → Point
  -- the first name of a `local`, and others behind some
  LocalName : Scope → ℕ → Point
  LocalMore : Scope → List Identifier → ℕ → Point
  -- the right side of a tell, what may follow its first variable or its atom, and what follows a dot
  ValueOf : Closer → Scope → ℕ → Point
  BehindVariable : Closer → Scope → ℕ → Point
  BehindAtom : Closer → Scope → ℕ → Point
  SelectionOf : Scope → Point
  -- a field behind others, with room for so many, and the variable behind its feature
  FieldOf : Purpose → Scope → ℕ → ℕ → Fields → ℕ → Point
  FieldName : Purpose → Scope → ℕ → ℕ → Fields → ℕ → FeatureToken → Point
  -- the name of a call, an argument behind n others, and k arguments of what is built in
  CallName : Scope → Point
  Arguments : Scope → ℕ → Point
  Wanted : Scope → ℕ → Point
  -- a pattern, what may follow its atom, and the variable behind its bar
  PatternOf : Scope → ℕ → Point
  BehindPattern : Scope → ℕ → Point
  PatternTail : Scope → ℕ → Identifier → Point
  -- the name in a `proc` statement, and formals behind others
  ProcName : Scope → ℕ → Point
  Formals : Scope → List Identifier → ℕ → Point
  -- the site of a thread, and the name in `catch`
  SiteHere : Point
  CatchName : Scope → ℕ → Point

-- ---- what is expected

-- behind a statement of a sequence: a statement, or what closes the sequence
abbrev pub expected_after : Closer → What
expected_after closer.End = what.StatementOrEnd
expected_after closer.Else = what.StatementOrElse
expected_after closer.Catch = what.StatementOrCatch
expected_after closer.EndOfText = what.StatementOrEndOfText

-- at the front of a statement, by where that is
abbrev pub expected_statement : Stage → Closer → What
expected_statement First c = what.Statement
expected_statement AfterThread c = what.StatementOrAt
expected_statement Later c = expected_after c

-- where one symbol alone may stand
abbrev pub expected_sign : Sign → What
expected_sign sign.Equals = what.Equals
expected_sign sign.Then = what.Then
expected_sign sign.Of = what.Of
expected_sign sign.End = what.End
expected_sign sign.OpenCurly = what.OpenBrace
expected_sign sign.Dollar = what.Dollar
expected_sign sign.Colon = what.Colon
expected_sign sign.Bar = what.Bar
expected_sign sign.Else = what.Else
expected_sign sign.CloseRound = what.CloseRound

-- behind a name that is built in: an argument while some are wanted, then the closing bracket
abbrev pub expects_wanted : ℕ → What
expects_wanted zero = what.Close
expects_wanted (suc k) = what.Variable

-- at a point: what a refusal there names behind `expected`
abbrev pub expected_at : Point → What
expected_at (At stage c scope d) = expected_statement stage c
expected_at (Here s) = expected_sign s
expected_at (Used scope) = what.Variable
expected_at (LocalName scope d) = what.Variable
expected_at (LocalMore scope xs d) = what.VariableOrIn
expected_at (ValueOf c scope d) = what.Value
expected_at (BehindVariable c scope d) = expected_after c
expected_at (BehindAtom c scope d) = expected_after c
expected_at (SelectionOf scope) = what.VariableOrFeature
expected_at (FieldOf p scope d room before next) = what.FieldOrBracket
expected_at (FieldName p scope d room before next m) = what.Variable
expected_at (CallName scope) = what.Variable
expected_at (Arguments scope n) = what.VariableOrClose
expected_at (Wanted scope k) = expects_wanted k
expected_at (PatternOf scope d) = what.Pattern
expected_at (BehindPattern scope d) = what.Then
expected_at (PatternTail scope d h) = what.Variable
expected_at (ProcName scope d) = what.Variable
expected_at (Formals scope xs d) = what.VariableOrClose
expected_at SiteHere = what.Integer
expected_at (CatchName scope d) = what.Variable

-- ---- which symbols go on, and to which points

-- the symbol is this sign
abbrev pub is_sign : Sign → Symbol → Bool
is_sign sign.Equals t.Equals = true
is_sign sign.Then t.Then = true
is_sign sign.Of t.Of = true
is_sign sign.End t.End = true
is_sign sign.OpenCurly t.OpenCurly = true
is_sign sign.Dollar t.Dollar = true
is_sign sign.Colon t.Colon = true
is_sign sign.Bar t.Bar = true
is_sign sign.Else t.Else = true
is_sign sign.CloseRound t.CloseRound = true
is_sign s symbol = false

-- the sequence ends here
abbrev pub is_closer : Closer → Symbol → Bool
is_closer closer.End t.End = true
is_closer closer.Else t.Else = true
is_closer closer.Catch t.Catch = true
is_closer closer.EndOfText t.EndOfText = true
is_closer c symbol = false

-- behind the symbol that begins a statement
abbrev pub points_behind_first : Closer → Scope → ℕ → Symbol → Option (List Point)
points_behind_first c scope d t.Skip = Some (At Later c scope d ∷ [])
points_behind_first c scope d (t.Variable x) = Some (Here sign.Equals ∷ ValueOf c scope d ∷ [])
points_behind_first c scope d t.OpenCurly = Some (CallName scope ∷ At Later c scope d ∷ [])
points_behind_first c scope d t.Raise = Some (Used scope ∷ Here sign.End ∷ At Later c scope d ∷ [])
points_behind_first c scope d t.Local = Some (LocalName scope (fewer d) ∷ At Later c scope d ∷ [])
points_behind_first c scope d t.Proc = Some (Here sign.OpenCurly ∷ ProcName scope (fewer d) ∷ At Later c scope d ∷ [])
points_behind_first c scope d t.Thread = Some (At AfterThread closer.End scope (fewer d) ∷ At Later c scope d ∷ [])
points_behind_first c scope d t.If = Some (Used scope ∷ Here sign.Then ∷ At First closer.Else scope (fewer d) ∷ At First closer.End scope (fewer d) ∷ At Later c scope d ∷ [])
points_behind_first c scope d t.Case = Some (Used scope ∷ Here sign.Of ∷ PatternOf scope (fewer d) ∷ At First closer.End scope (fewer d) ∷ At Later c scope d ∷ [])
points_behind_first c scope d t.Try = Some (At First closer.Catch scope (fewer d) ∷ CatchName scope (fewer d) ∷ At Later c scope d ∷ [])
points_behind_first c scope d symbol = None

-- what may stand there besides a statement: the closer, or `at`
abbrev pub beside : Stage → Closer → Scope → ℕ → Symbol → Option (List Point)
beside First c scope d symbol = None
beside AfterThread c scope d t.At = Some (SiteHere ∷ At First c scope d ∷ [])
beside AfterThread c scope d symbol = None
beside Later c scope d symbol = if is_closer c symbol then Some [] else None

-- at a statement: behind the symbol that begins it, or behind what may stand there besides
abbrev pub next_stmt : Stage → Closer → Scope → ℕ → Symbol → Option (List Point)
next_stmt stage c scope d symbol = or_points (points_behind_first c scope d symbol) (beside stage c scope d symbol)

-- at the right side of a tell
abbrev pub next_value : Closer → Scope → ℕ → Symbol → Option (List Point)
next_value c scope d (t.Variable y) = Some (BehindVariable c scope d ∷ [])
next_value c scope d (t.Integer n) = Some (At Later c scope d ∷ [])
next_value c scope d (t.Atom a) = Some (BehindAtom c scope d ∷ [])
next_value c scope d t.Proc = Some (Here sign.OpenCurly ∷ Here sign.Dollar ∷ Formals scope [] (fewer d) ∷ At Later c scope d ∷ [])
next_value c scope d symbol = None

-- behind the first variable of a right side: at an operator, a test, a dot or a bar, or at what follows the tell
abbrev pub next_variable : Closer → Scope → ℕ → Symbol → Option (List Point)
next_variable c scope d (t.Operator o) = Some (Used scope ∷ At Later c scope d ∷ [])
next_variable c scope d (t.Test o) = Some (Used scope ∷ At Later c scope d ∷ [])
next_variable c scope d t.Dot = Some (SelectionOf scope ∷ At Later c scope d ∷ [])
next_variable c scope d t.Bar = Some (Used scope ∷ At Later c scope d ∷ [])
next_variable c scope d symbol = next_stmt Later c scope d symbol

-- behind the atom of a right side: at an opening bracket, or at what follows the tell
abbrev pub next_atom : Closer → Scope → ℕ → Symbol → Option (List Point)
next_atom c scope d t.OpenRound = Some (FieldOf purpose.Use scope d MOST_ITEMS [] 1 ∷ At Later c scope d ∷ [])
next_atom c scope d symbol = next_stmt Later c scope d symbol

-- behind a dot
abbrev pub next_selection : {Point : Type 0} → Symbol → Option (List Point)
next_selection (t.Variable x) = Some []
next_selection (t.Atom a) = Some []
next_selection (t.Integer n) = Some []
next_selection symbol = None

-- behind the closing bracket: nothing more of a record, the first branch of a pattern, under its variables
abbrev pub behind_fields : Purpose → Scope → ℕ → Fields → List Point
behind_fields purpose.Use scope d fields = []
behind_fields purpose.Declare scope d fields = Here sign.Then ∷ At First closer.Else (scope ++ names_in fields) d ∷ []

-- at a field behind others, with room for so many, or at the closing bracket
abbrev pub next_field : Purpose → Scope → ℕ → ℕ → Fields → ℕ → Symbol → Option (List Point)
next_field p scope d room before next t.CloseRound = Some (behind_fields p scope d before)
next_field p scope d room before next (t.Variable x) = Some (FieldOf p scope d (fewer room) (with_field (place_feature next) x before) (next + 1) ∷ [])
next_field p scope d room before next (t.Atom a) = Some (Here sign.Colon ∷ FieldName p scope d room before next (AtomFeature a) ∷ [])
next_field p scope d room before next (t.Integer n) = Some (Here sign.Colon ∷ FieldName p scope d room before next (IntFeature n) ∷ [])
next_field p scope d room before next symbol = None

-- behind the name of a call, of what is built in or of a procedure
abbrev pub next_call : Scope → Option BuiltIn → List Point
next_call scope (Some b) = Wanted scope (arity_of b) ∷ []
next_call scope None = Arguments scope 0 ∷ []

-- at an argument of what is built in, where so many are wanted, then at the closing bracket
abbrev pub next_wanted : Scope → ℕ → Symbol → Option (List Point)
next_wanted scope zero t.CloseCurly = Some []
next_wanted scope zero symbol = None
next_wanted scope (suc k) (t.Variable x) = Some (Wanted scope k ∷ [])
next_wanted scope (suc k) symbol = None

-- at an argument of a procedure behind n others, or at the closing bracket
abbrev pub next_argument : Scope → ℕ → Symbol → Option (List Point)
next_argument scope n (t.Variable x) = Some (Arguments scope (n + 1) ∷ [])
next_argument scope n t.CloseCurly = Some []
next_argument scope n symbol = None

-- at a pattern: an integer, an atom, or the first variable of H|T
abbrev pub next_pattern : Scope → ℕ → Symbol → Option (List Point)
next_pattern scope d (t.Integer n) = Some (Here sign.Then ∷ At First closer.Else scope d ∷ [])
next_pattern scope d (t.Atom a) = Some (BehindPattern scope d ∷ [])
next_pattern scope d (t.Variable h) = Some (Here sign.Bar ∷ PatternTail scope d h ∷ [])
next_pattern scope d symbol = None

-- behind the atom of a pattern: at an opening bracket, or at `then`
abbrev pub next_behind_pattern : Scope → ℕ → Symbol → Option (List Point)
next_behind_pattern scope d t.OpenRound = Some (FieldOf purpose.Declare scope d MOST_ITEMS [] 1 ∷ [])
next_behind_pattern scope d t.Then = Some (At First closer.Else scope d ∷ [])
next_behind_pattern scope d symbol = None

-- at a further name of a `local`, or at `in`
abbrev pub next_local : Scope → List Identifier → ℕ → Symbol → Option (List Point)
next_local scope xs d (t.Variable x) = Some (LocalMore scope (xs ++ x ∷ []) d ∷ [])
next_local scope xs d t.In = Some (At First closer.End (scope ++ xs) d ∷ [])
next_local scope xs d symbol = None

-- at a formal behind others, or at the closing bracket
abbrev pub next_formal : Scope → List Identifier → ℕ → Symbol → Option (List Point)
next_formal scope xs d (t.Variable x) = Some (Formals scope (xs ++ x ∷ []) d ∷ [])
next_formal scope xs d t.CloseCurly = Some (At First closer.End (scope ++ xs) d ∷ [])
next_formal scope xs d symbol = None

-- a variable, and then these points
abbrev pub on_variable : {Point : Type 0} → (Identifier → List Point) → Symbol → Option (List Point)
on_variable points (t.Variable x) = Some (points x)
on_variable points symbol = None

-- an integer, and then these points
abbrev pub on_integer : {Point : Type 0} → List Point → Symbol → Option (List Point)
on_integer points (t.Integer n) = Some points
on_integer points symbol = None

-- where the symbol leads from a point, if a program may go on with it there
abbrev pub next_of : Point → Symbol → Option (List Point)
next_of (At stage c scope d) symbol = next_stmt stage c scope d symbol
next_of (Here s) symbol = if is_sign s symbol then Some [] else None
next_of (Used scope) symbol = on_variable (λ x. []) symbol
next_of (LocalName scope d) symbol = on_variable (λ x. LocalMore scope (x ∷ []) d ∷ []) symbol
next_of (LocalMore scope xs d) symbol = next_local scope xs d symbol
next_of (ValueOf c scope d) symbol = next_value c scope d symbol
next_of (BehindVariable c scope d) symbol = next_variable c scope d symbol
next_of (BehindAtom c scope d) symbol = next_atom c scope d symbol
next_of (SelectionOf scope) symbol = next_selection symbol
next_of (FieldOf p scope d room before next) symbol = next_field p scope d room before next symbol
next_of (FieldName p scope d room before next m) symbol = on_variable (λ x. FieldOf p scope d (fewer room) (with_field (feature_of m) x before) next ∷ []) symbol
next_of (CallName scope) symbol = on_variable (λ p. next_call scope (built_in_at scope p)) symbol
next_of (Arguments scope n) symbol = next_argument scope n symbol
next_of (Wanted scope k) symbol = next_wanted scope k symbol
next_of (PatternOf scope d) symbol = next_pattern scope d symbol
next_of (BehindPattern scope d) symbol = next_behind_pattern scope d symbol
next_of (PatternTail scope d h) symbol = on_variable (λ x. Here sign.Then ∷ At First closer.Else (scope ++ h ∷ x ∷ []) d ∷ []) symbol
next_of (ProcName scope d) symbol = on_variable (λ x. Formals scope [] d ∷ []) symbol
next_of (Formals scope xs d) symbol = next_formal scope xs d symbol
next_of SiteHere symbol = on_integer [] symbol
next_of (CatchName scope d) symbol = on_variable (λ x. Here sign.Then ∷ At First closer.End (scope ++ x ∷ []) d ∷ []) symbol

-- ---- what is wrong at a symbol that goes on

-- the symbol begins a statement
abbrev pub is_statement_start : Symbol → Bool
is_statement_start t.Skip = true
is_statement_start (t.Variable x) = true
is_statement_start t.OpenCurly = true
is_statement_start t.Raise = true
is_statement_start t.Local = true
is_statement_start t.Proc = true
is_statement_start t.Thread = true
is_statement_start t.If = true
is_statement_start t.Case = true
is_statement_start t.Try = true
is_statement_start symbol = false

-- a statement's own fault: its depth, and the name that begins a tell
abbrev pub stmt_fault : Scope → ℕ → Symbol → Option FaultKind
stmt_fault scope d (t.Variable x) = or_else (deep_fault d) (use_fault scope x)
stmt_fault scope d symbol = if is_statement_start symbol then deep_fault d else None

-- a variable that is used
abbrev pub used_wrong : Scope → Symbol → Option FaultKind
used_wrong scope (t.Variable x) = use_fault scope x
used_wrong scope symbol = None

-- a variable that is used, or an integer
abbrev pub value_wrong : Scope → Symbol → Option FaultKind
value_wrong scope (t.Variable x) = use_fault scope x
value_wrong scope (t.Integer n) = number_fault n
value_wrong scope symbol = None

-- the variable or the feature of a field behind others, with room for so many
abbrev pub field_wrong : Purpose → Scope → ℕ → Fields → ℕ → Symbol → Option FaultKind
field_wrong p scope room before next (t.Variable x) = placed_fault p scope room before next x
field_wrong p scope room before next (t.Atom a) = feature_token_fault room before (AtomFeature a)
field_wrong p scope room before next (t.Integer n) = feature_token_fault room before (IntFeature n)
field_wrong p scope room before next symbol = None

-- what a variable has wrong, by its name
abbrev pub by_name : (Identifier → Option FaultKind) → Symbol → Option FaultKind
by_name wrong (t.Variable x) = wrong x
by_name wrong symbol = None

-- what an integer has wrong, by its number
abbrev pub by_number : (Option ℤ → Option FaultKind) → Symbol → Option FaultKind
by_number wrong (t.Integer n) = wrong n
by_number wrong symbol = None

-- what is wrong, besides the grammar, at a symbol that goes on from a point
abbrev pub wrong_at : Point → Symbol → Option FaultKind
wrong_at (At stage c scope d) symbol = stmt_fault scope d symbol
wrong_at (Here s) symbol = None
wrong_at (Used scope) symbol = used_wrong scope symbol
wrong_at (LocalName scope d) symbol = None
wrong_at (LocalMore scope xs d) symbol = by_name (λ x. count_fault (length xs)) symbol
wrong_at (ValueOf c scope d) symbol = value_wrong scope symbol
wrong_at (BehindVariable c scope d) symbol = stmt_fault scope d symbol
wrong_at (BehindAtom c scope d) symbol = stmt_fault scope d symbol
wrong_at (SelectionOf scope) symbol = value_wrong scope symbol
wrong_at (FieldOf p scope d room before next) symbol = field_wrong p scope room before next symbol
wrong_at (FieldName p scope d room before next m) symbol = by_name (λ x. name_fault p scope before x) symbol
wrong_at (CallName scope) symbol = by_name (λ p. called_fault (built_in_at scope p) scope p) symbol
wrong_at (Arguments scope n) symbol = by_name (λ x. argument_fault scope n x) symbol
wrong_at (Wanted scope k) symbol = used_wrong scope symbol
wrong_at (PatternOf scope d) symbol = by_number number_fault symbol
wrong_at (BehindPattern scope d) symbol = None
wrong_at (PatternTail scope d h) symbol = by_name (λ x. where_so (has_name (h ∷ []) x) Twice) symbol
wrong_at (ProcName scope d) symbol = used_wrong scope symbol
wrong_at (Formals scope xs d) symbol = by_name (λ x. formal_fault xs x) symbol
wrong_at SiteHere symbol = by_number site_fault symbol
wrong_at (CatchName scope d) symbol = None

-- where the symbol leads from these points
abbrev pub next : List Point → Symbol → Option (List Point)
next [] symbol = None
next (p ∷ points) symbol = then_points (next_of p symbol) points

-- what is wrong, besides the grammar, at the first of these symbols
abbrev pub wrong : List Point → List Symbol → Option FaultKind
wrong (p ∷ points) (symbol ∷ symbols) = wrong_at p symbol
wrong points symbols = None

-- what a refusal names behind `expected`
abbrev pub expected : List Point → What
expected [] = what.StatementOrEndOfText
expected (p ∷ points) = expected_at p

-- ---- reading

-- the automaton of points
abbrev pub points_automaton : Automaton Symbol FaultKind Fault (List Point)
points_automaton = record { next = next; wrong = wrong; expected = λ points. Expected (expected points); is_done = is_done; lexical = lexical; fault = fault_here }

-- at the front of a program
abbrev pub start : List Point
start = At First closer.EndOfText [] 200 ∷ []

-- the first fault of these symbols, read from these points
abbrev pub run : List Symbol → List Point → Option Fault
run symbols points = read points_automaton symbols points
