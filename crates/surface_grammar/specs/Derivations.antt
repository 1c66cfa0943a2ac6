-- The grammar with sugar (CTM section 2.6): derivations as trees, their symbols, and which trees are derivations.
use Rattle.std.specs.Prelude.{◌≡◌, ℕ, suc, List, [], ◌∷◌, ◌++◌, Bool, true, false, ◌&&◌, Option, Some, None, ℤ}
use Rattle.kernel_syntax.specs.declared.built_in.BuiltIn.{BuiltIn}
use Rattle.kernel_syntax.specs.BuiltIns.{arity_of}
use Rattle.kernel_syntax.specs.declared.stmt.Op.{Op}
use Rattle.kernel_syntax.specs.declared.stmt.TestOp.{TestOp}
use Rattle.oz_grammar.specs.declared.symbol.Symbol.{Symbol}
use Rattle.oz_grammar.specs.declared.symbol.Symbol.TheVariants as t
use Rattle.oz_grammar.specs.Grammar.{Identifier, FeatureToken, Selection, Pattern, feature_symbol, selection_symbol, names_text, pattern_text}
use Rattle.oz_grammar.specs.Scoping.{Scope, built_in_at, pattern_names}

-- Primaries: a variable, an integer, an atom, f(..), {P E..}, proc {$ X..} S end, fun {$ X..} E end, ( E ), a primary with a
-- selection. Tails of lists: a primary, or a primary, bar and a tail. Values: a primary, two with an operator or a test
-- between, a primary, bar and a tail, if E then E else E end, case E of p then E [] p then E .. else E end. A field is a value,
-- or a feature and a value; a clause is a pattern with a value or with statements. Statements: skip, X = E, {P E..},
-- raise E end, local X Y.. in S end, proc {F X..} S end, fun {F X..} E end, thread S end, thread at N S end,
-- if E then S else S end, case E of p then S [] p then S .. else S end, try S catch X then S end,
-- try S catch X then S finally S end, try S finally S end.
mutual
  pub data Primary : Type 0 where
    Variable : Identifier → Primary
    Integer : Option ℤ → Primary
    Atom : List ℕ → Primary
    Record : List ℕ → Fields → Primary
    Calls : Identifier → Arguments → Primary
    Procedure : List Identifier → Sequence → Primary
    Function : List Identifier → Value → Primary
    Brackets : Value → Primary
    Selects : Primary → Selection → Primary

  pub data Tail : Type 0 where
    Last : Primary → Tail
    More : Primary → Tail → Tail

  pub data Value : Type 0 where
    Alone : Primary → Value
    Calculates : Primary → Op → Primary → Value
    Tests : Primary → TestOp → Primary → Value
    Pairs : Primary → Tail → Value
    IfValue : Value → Value → Value → Value
    CaseValue : Value → Pattern → Value → ValueClauses → Value → Value

  pub data Arguments : Type 0 where
    no_arguments : Arguments
    argument_and : Value → Arguments → Arguments

  pub data Fields : Type 0 where
    no_fields : Fields
    placed_and : Value → Fields → Fields
    named_and : FeatureToken → Value → Fields → Fields

  pub data ValueClauses : Type 0 where
    no_clauses : ValueClauses
    clause_and : Pattern → Value → ValueClauses → ValueClauses

  pub data Statement : Type 0 where
    Skips : Statement
    Tells : Identifier → Value → Statement
    CallsStatement : Identifier → Arguments → Statement
    Raises : Value → Statement
    Locals : Identifier → List Identifier → Sequence → Statement
    ProcNamed : Identifier → List Identifier → Sequence → Statement
    FunNamed : Identifier → List Identifier → Value → Statement
    Threads : Sequence → Statement
    ThreadsAt : Option ℤ → Sequence → Statement
    Ifs : Value → Sequence → Sequence → Statement
    Cases : Value → Pattern → Sequence → Clauses → Sequence → Statement
    Tries : Sequence → Identifier → Sequence → Statement
    TriesFinally : Sequence → Identifier → Sequence → Sequence → Statement
    Finally : Sequence → Sequence → Statement

  pub data Clauses : Type 0 where
    no_cases : Clauses
    case_and : Pattern → Sequence → Clauses → Clauses

  pub data Sequence : Type 0 where
    One : Statement → Sequence
    Then : Statement → Sequence → Sequence

-- the symbols of each before those that follow it, rest
abbrev mutual
  pub primary_text : Primary → List Symbol → List Symbol
  primary_text (Variable x) rest = t.Variable x ∷ rest
  primary_text (Integer n) rest = t.Integer n ∷ rest
  primary_text (Atom a) rest = t.Atom a ∷ rest
  primary_text (Record a fs) rest = t.Atom a ∷ t.OpenRound ∷ fields_text fs (t.CloseRound ∷ rest)
  primary_text (Calls p vs) rest = t.OpenCurly ∷ t.Variable p ∷ arguments_text vs (t.CloseCurly ∷ rest)
  primary_text (Procedure xs q) rest = t.Proc ∷ t.OpenCurly ∷ t.Dollar ∷ names_text xs (t.CloseCurly ∷ sequence_text q (t.End ∷ rest))
  primary_text (Function xs v) rest = t.Fun ∷ t.OpenCurly ∷ t.Dollar ∷ names_text xs (t.CloseCurly ∷ value_text v (t.End ∷ rest))
  primary_text (Brackets v) rest = t.OpenRound ∷ value_text v (t.CloseRound ∷ rest)
  primary_text (Selects p s) rest = primary_text p (t.Dot ∷ selection_symbol s ∷ rest)

  pub tail_text : Tail → List Symbol → List Symbol
  tail_text (Last p) rest = primary_text p rest
  tail_text (More p l) rest = primary_text p (t.Bar ∷ tail_text l rest)

  pub value_text : Value → List Symbol → List Symbol
  value_text (Alone p) rest = primary_text p rest
  value_text (Calculates p o q) rest = primary_text p (t.Operator o ∷ primary_text q rest)
  value_text (Tests p o q) rest = primary_text p (t.Test o ∷ primary_text q rest)
  value_text (Pairs p l) rest = primary_text p (t.Bar ∷ tail_text l rest)
  value_text (IfValue e a b) rest = t.If ∷ value_text e (t.Then ∷ value_text a (t.Else ∷ value_text b (t.End ∷ rest)))
  value_text (CaseValue e p v cs b) rest =
      t.Case ∷ value_text e (t.Of ∷ pattern_text p (t.Then ∷ value_text v (value_clauses_text cs (t.Else ∷ value_text b (t.End ∷ rest)))))

  pub arguments_text : Arguments → List Symbol → List Symbol
  arguments_text no_arguments rest = rest
  arguments_text (argument_and v vs) rest = value_text v (arguments_text vs rest)

  pub fields_text : Fields → List Symbol → List Symbol
  fields_text no_fields rest = rest
  fields_text (placed_and v fs) rest = value_text v (fields_text fs rest)
  fields_text (named_and m v fs) rest = feature_symbol m ∷ t.Colon ∷ value_text v (fields_text fs rest)

  pub value_clauses_text : ValueClauses → List Symbol → List Symbol
  value_clauses_text no_clauses rest = rest
  value_clauses_text (clause_and p v cs) rest = t.Clause ∷ pattern_text p (t.Then ∷ value_text v (value_clauses_text cs rest))

  pub statement_text : Statement → List Symbol → List Symbol
  statement_text Skips rest = t.Skip ∷ rest
  statement_text (Tells x v) rest = t.Variable x ∷ t.Equals ∷ value_text v rest
  statement_text (CallsStatement p vs) rest = t.OpenCurly ∷ t.Variable p ∷ arguments_text vs (t.CloseCurly ∷ rest)
  statement_text (Raises v) rest = t.Raise ∷ value_text v (t.End ∷ rest)
  statement_text (Locals x xs q) rest = t.Local ∷ t.Variable x ∷ names_text xs (t.In ∷ sequence_text q (t.End ∷ rest))
  statement_text (ProcNamed x xs q) rest = t.Proc ∷ t.OpenCurly ∷ t.Variable x ∷ names_text xs (t.CloseCurly ∷ sequence_text q (t.End ∷ rest))
  statement_text (FunNamed x xs v) rest = t.Fun ∷ t.OpenCurly ∷ t.Variable x ∷ names_text xs (t.CloseCurly ∷ value_text v (t.End ∷ rest))
  statement_text (Threads q) rest = t.Thread ∷ sequence_text q (t.End ∷ rest)
  statement_text (ThreadsAt n q) rest = t.Thread ∷ t.At ∷ t.Integer n ∷ sequence_text q (t.End ∷ rest)
  statement_text (Ifs e q r) rest = t.If ∷ value_text e (t.Then ∷ sequence_text q (t.Else ∷ sequence_text r (t.End ∷ rest)))
  statement_text (Cases e p q cs r) rest =
      t.Case ∷ value_text e (t.Of ∷ pattern_text p (t.Then ∷ sequence_text q (clauses_text cs (t.Else ∷ sequence_text r (t.End ∷ rest)))))
  statement_text (Tries q x r) rest = t.Try ∷ sequence_text q (t.Catch ∷ t.Variable x ∷ t.Then ∷ sequence_text r (t.End ∷ rest))
  statement_text (TriesFinally q x r u) rest =
      t.Try ∷ sequence_text q (t.Catch ∷ t.Variable x ∷ t.Then ∷ sequence_text r (t.Finally ∷ sequence_text u (t.End ∷ rest)))
  statement_text (Finally q u) rest = t.Try ∷ sequence_text q (t.Finally ∷ sequence_text u (t.End ∷ rest))

  pub clauses_text : Clauses → List Symbol → List Symbol
  clauses_text no_cases rest = rest
  clauses_text (case_and p q cs) rest = t.Clause ∷ pattern_text p (t.Then ∷ sequence_text q (clauses_text cs rest))

  pub sequence_text : Sequence → List Symbol → List Symbol
  sequence_text (One s) rest = statement_text s rest
  sequence_text (Then s q) rest = statement_text s (sequence_text q rest)

-- the symbols of a program
abbrev pub program_text : Sequence → List Symbol
program_text q = sequence_text q (t.EndOfText ∷ [])

-- ---- which trees are derivations

-- a bare atom
abbrev pub is_atom : Primary → Bool
is_atom (Atom a) = true
is_atom p = false

-- the last primary of a list is a bare atom
abbrev pub tail_ends_in_atom : Tail → Bool
tail_ends_in_atom (Last p) = is_atom p
tail_ends_in_atom (More p l) = tail_ends_in_atom l

-- the last symbol of a value is a bare atom
abbrev pub ends_in_atom : Value → Bool
ends_in_atom (Alone p) = is_atom p
ends_in_atom (Calculates p o q) = is_atom q
ends_in_atom (Tests p o q) = is_atom q
ends_in_atom (Pairs p l) = tail_ends_in_atom l
ends_in_atom (IfValue e a b) = false
ends_in_atom (CaseValue e p v cs b) = false

-- an opening round bracket stands first
abbrev pub begins_round : List Symbol → Bool
begins_round (t.OpenRound ∷ rest) = true
begins_round symbols = false

-- a bare atom at the end stays one before what follows: no opening round bracket, to which it would be a label
abbrev pub StaysBare : Value → List Symbol → Type 0
StaysBare v following = (ends_in_atom v && begins_round following) ≡ false

-- how many arguments these are
abbrev pub count_arguments : Arguments → ℕ
count_arguments no_arguments = 0
count_arguments (argument_and v vs) = suc (count_arguments vs)

-- a statement that calls what is built in has all its arguments
abbrev pub HasAllArguments : Option BuiltIn → Arguments → Type 0
HasAllArguments (Some b) vs = count_arguments vs ≡ arity_of b
HasAllArguments None vs = Unit {0}

-- .. and a value that does has all but the last, which is told
abbrev pub LacksOneArgument : Option BuiltIn → Arguments → Type 0
LacksOneArgument (Some b) vs = suc (count_arguments vs) ≡ arity_of b
LacksOneArgument None vs = Unit {0}

-- Each is a derivation under these declarations, which decide what calls are built in.
abbrev mutual
  pub PrimaryDerives : Primary → Scope → Type 0
  PrimaryDerives (Variable x) scope = Unit {0}
  PrimaryDerives (Integer n) scope = Unit {0}
  PrimaryDerives (Atom a) scope = Unit {0}
  PrimaryDerives (Record a fs) scope = FieldsDerive fs scope
  PrimaryDerives (Calls p vs) scope = LacksOneArgument (built_in_at scope p) vs × ArgumentsDerive vs scope
  PrimaryDerives (Procedure xs q) scope = SequenceDerives q (scope ++ xs)
  PrimaryDerives (Function xs v) scope = ValueDerives v (scope ++ xs)
  PrimaryDerives (Brackets v) scope = ValueDerives v scope
  PrimaryDerives (Selects p s) scope = PrimaryDerives p scope

  pub TailDerives : Tail → Scope → Type 0
  TailDerives (Last p) scope = PrimaryDerives p scope
  TailDerives (More p l) scope = PrimaryDerives p scope × TailDerives l scope

  pub ValueDerives : Value → Scope → Type 0
  ValueDerives (Alone p) scope = PrimaryDerives p scope
  ValueDerives (Calculates p o q) scope = PrimaryDerives p scope × PrimaryDerives q scope
  ValueDerives (Tests p o q) scope = PrimaryDerives p scope × PrimaryDerives q scope
  ValueDerives (Pairs p l) scope = PrimaryDerives p scope × TailDerives l scope
  ValueDerives (IfValue e a b) scope = ValueDerives e scope × ValueDerives a scope × ValueDerives b scope
  ValueDerives (CaseValue e p v cs b) scope =
      ValueDerives e scope × ValueDerives v (scope ++ pattern_names p) × ValueClausesDerive cs scope × ValueDerives b scope

  pub ArgumentsDerive : Arguments → Scope → Type 0
  ArgumentsDerive no_arguments scope = Unit {0}
  ArgumentsDerive (argument_and v vs) scope = ValueDerives v scope × StaysBare v (arguments_text vs []) × ArgumentsDerive vs scope

  pub FieldsDerive : Fields → Scope → Type 0
  FieldsDerive no_fields scope = Unit {0}
  FieldsDerive (placed_and v fs) scope = ValueDerives v scope × StaysBare v (fields_text fs []) × FieldsDerive fs scope
  FieldsDerive (named_and m v fs) scope = ValueDerives v scope × StaysBare v (fields_text fs []) × FieldsDerive fs scope

  pub ValueClausesDerive : ValueClauses → Scope → Type 0
  ValueClausesDerive no_clauses scope = Unit {0}
  ValueClausesDerive (clause_and p v cs) scope = ValueDerives v (scope ++ pattern_names p) × ValueClausesDerive cs scope

  pub StatementDerives : Statement → Scope → Type 0
  StatementDerives Skips scope = Unit {0}
  StatementDerives (Tells x v) scope = ValueDerives v scope
  StatementDerives (CallsStatement p vs) scope = HasAllArguments (built_in_at scope p) vs × ArgumentsDerive vs scope
  StatementDerives (Raises v) scope = ValueDerives v scope
  StatementDerives (Locals x xs q) scope = SequenceDerives q (scope ++ x ∷ xs)
  StatementDerives (ProcNamed x xs q) scope = SequenceDerives q (scope ++ xs)
  StatementDerives (FunNamed x xs v) scope = ValueDerives v (scope ++ xs)
  StatementDerives (Threads q) scope = SequenceDerives q scope
  StatementDerives (ThreadsAt n q) scope = SequenceDerives q scope
  StatementDerives (Ifs e q r) scope = ValueDerives e scope × SequenceDerives q scope × SequenceDerives r scope
  StatementDerives (Cases e p q cs r) scope =
      ValueDerives e scope × SequenceDerives q (scope ++ pattern_names p) × ClausesDerive cs scope × SequenceDerives r scope
  StatementDerives (Tries q x r) scope = SequenceDerives q scope × SequenceDerives r (scope ++ x ∷ [])
  StatementDerives (TriesFinally q x r u) scope = SequenceDerives q scope × SequenceDerives r (scope ++ x ∷ []) × SequenceDerives u scope
  StatementDerives (Finally q u) scope = SequenceDerives q scope × SequenceDerives u scope

  pub ClausesDerive : Clauses → Scope → Type 0
  ClausesDerive no_cases scope = Unit {0}
  ClausesDerive (case_and p q cs) scope = SequenceDerives q (scope ++ pattern_names p) × ClausesDerive cs scope

  pub SequenceDerives : Sequence → Scope → Type 0
  SequenceDerives (One s) scope = StatementDerives s scope
  SequenceDerives (Then s q) scope = StatementDerives s scope × SequenceDerives q scope

-- the tree is a derivation of a program
abbrev pub IsDerivation : Sequence → Type 0
IsDerivation q = SequenceDerives q []
