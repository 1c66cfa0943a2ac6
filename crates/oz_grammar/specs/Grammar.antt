-- The grammar (CTM section 2.3): derivations as trees, and the symbols of each before those that follow it.
use Rattle.std.specs.Prelude.{ℕ, List, [], ◌∷◌, Option, ℤ}
use Rattle.kernel_syntax.specs.declared.stmt.Op.{Op}
use Rattle.kernel_syntax.specs.declared.stmt.TestOp.{TestOp}
use Rattle.oz_grammar.specs.declared.symbol.Symbol.{Symbol}
use Rattle.oz_grammar.specs.declared.symbol.Symbol.TheVariants as t
use Rattle.oz_grammar.specs.declared.symbol.Closer.{Closer}
use Rattle.oz_grammar.specs.declared.symbol.Closer.TheVariants as closer

-- a name as it is spelled
abbrev pub Identifier : Type 0
Identifier = List ℕ

-- a feature as the text names it: an atom, or an integer, which may be no good number
pub data FeatureToken : Type 0 where
  AtomFeature : List ℕ → FeatureToken
  IntFeature : Option ℤ → FeatureToken

-- what stands behind the dot of a selection
pub data Selection : Type 0 where
  ByVariable : Identifier → Selection
  ByFeature : FeatureToken → Selection

-- a field: a variable, or a feature and a variable
pub data Field : Type 0 where
  Placed : Identifier → Field
  WithFeature : FeatureToken → Identifier → Field

-- the right side of a tell: Y, Y op Z, Y == Z, Y \= Z, Y.F, H|T, an integer, an atom, f(..)
pub data Value : Type 0 where
  ToVar : Identifier → Value
  Calculates : Identifier → Op → Identifier → Value
  Tests : Identifier → TestOp → Identifier → Value
  Selects : Identifier → Selection → Value
  Pairs : Identifier → Identifier → Value
  ToInt : Option ℤ → Value
  ToAtom : List ℕ → Value
  ToRecord : List ℕ → List Field → Value

-- an integer, an atom, f(..), H|T
pub data Pattern : Type 0 where
  IntPattern : Option ℤ → Pattern
  AtomPattern : List ℕ → Pattern
  RecordPattern : List ℕ → List Field → Pattern
  PairPattern : Identifier → Identifier → Pattern

-- statements without bodies: skip, X = value, {P X..}, raise X end. Calls of what is built in are spelled as other calls
pub data Plain : Type 0 where
  Skips : Plain
  Tells : Identifier → Value → Plain
  Calls : Identifier → List Identifier → Plain
  Raises : Identifier → Plain

-- what stands before the one body of a statement, which `end` closes: local X Y.. in, X = proc {$ Y..}, proc {X Y..},
-- thread, thread at N
pub data Opening : Type 0 where
  Locals : Identifier → List Identifier → Opening
  ProcValue : Identifier → List Identifier → Opening
  ProcNamed : Identifier → List Identifier → Opening
  Threads : Opening
  ThreadsAt : Option ℤ → Opening

-- what stands before the first of two bodies with `else` between them: if X then, case X of P then
pub data Choice : Type 0 where
  Ifs : Identifier → Choice
  Cases : Identifier → Pattern → Choice

-- statements, and one statement or more. Tries: try S catch X then T end
mutual
  pub data Statement : Type 0 where
    Simple : Plain → Statement
    Block : Opening → Sequence → Statement
    Chooses : Choice → Sequence → Sequence → Statement
    Tries : Sequence → Identifier → Sequence → Statement

  pub data Sequence : Type 0 where
    One : Statement → Sequence
    Then : Statement → Sequence → Sequence

-- a feature is one symbol: an atom or an integer
abbrev pub feature_symbol : FeatureToken → Symbol
feature_symbol (AtomFeature a) = t.Atom a
feature_symbol (IntFeature n) = t.Integer n

-- so is what stands behind the dot of a selection
abbrev pub selection_symbol : Selection → Symbol
selection_symbol (ByVariable x) = t.Variable x
selection_symbol (ByFeature m) = feature_symbol m

-- the symbols of names before those that follow them, rest; so each of the others below
abbrev pub names_text : List Identifier → List Symbol → List Symbol
names_text [] rest = rest
names_text (x ∷ xs) rest = t.Variable x ∷ names_text xs rest

-- a field: its variable, or its feature, a colon and its variable
abbrev pub field_text : Field → List Symbol → List Symbol
field_text (Placed x) rest = t.Variable x ∷ rest
field_text (WithFeature m x) rest = feature_symbol m ∷ t.Colon ∷ t.Variable x ∷ rest

-- fields, up to the closing bracket
abbrev pub fields_text : List Field → List Symbol → List Symbol
fields_text [] rest = rest
fields_text (f ∷ fs) rest = field_text f (fields_text fs rest)

-- the right side of a tell
abbrev pub value_text : Value → List Symbol → List Symbol
value_text (ToVar y) rest = t.Variable y ∷ rest
value_text (Calculates y o z) rest = t.Variable y ∷ t.Operator o ∷ t.Variable z ∷ rest
value_text (Tests y o z) rest = t.Variable y ∷ t.Test o ∷ t.Variable z ∷ rest
value_text (Selects y s) rest = t.Variable y ∷ t.Dot ∷ selection_symbol s ∷ rest
value_text (Pairs h u) rest = t.Variable h ∷ t.Bar ∷ t.Variable u ∷ rest
value_text (ToInt n) rest = t.Integer n ∷ rest
value_text (ToAtom a) rest = t.Atom a ∷ rest
value_text (ToRecord a fs) rest = t.Atom a ∷ t.OpenRound ∷ fields_text fs (t.CloseRound ∷ rest)

-- a pattern, up to `then`
abbrev pub pattern_text : Pattern → List Symbol → List Symbol
pattern_text (IntPattern n) rest = t.Integer n ∷ rest
pattern_text (AtomPattern a) rest = t.Atom a ∷ rest
pattern_text (RecordPattern a fs) rest = t.Atom a ∷ t.OpenRound ∷ fields_text fs (t.CloseRound ∷ rest)
pattern_text (PairPattern h u) rest = t.Variable h ∷ t.Bar ∷ t.Variable u ∷ rest

-- a statement without bodies
abbrev pub plain_text : Plain → List Symbol → List Symbol
plain_text Skips rest = t.Skip ∷ rest
plain_text (Tells x v) rest = t.Variable x ∷ t.Equals ∷ value_text v rest
plain_text (Calls p xs) rest = t.OpenCurly ∷ t.Variable p ∷ names_text xs (t.CloseCurly ∷ rest)
plain_text (Raises x) rest = t.Raise ∷ t.Variable x ∷ t.End ∷ rest

-- a statement with one body, up to that body
abbrev pub opening_text : Opening → List Symbol → List Symbol
opening_text (Locals x xs) rest = t.Local ∷ t.Variable x ∷ names_text xs (t.In ∷ rest)
opening_text (ProcValue x xs) rest = t.Variable x ∷ t.Equals ∷ t.Proc ∷ t.OpenCurly ∷ t.Dollar ∷ names_text xs (t.CloseCurly ∷ rest)
opening_text (ProcNamed x xs) rest = t.Proc ∷ t.OpenCurly ∷ t.Variable x ∷ names_text xs (t.CloseCurly ∷ rest)
opening_text Threads rest = t.Thread ∷ rest
opening_text (ThreadsAt n) rest = t.Thread ∷ t.At ∷ t.Integer n ∷ rest

-- a statement with two bodies, up to the first
abbrev pub choice_text : Choice → List Symbol → List Symbol
choice_text (Ifs x) rest = t.If ∷ t.Variable x ∷ t.Then ∷ rest
choice_text (Cases x p) rest = t.Case ∷ t.Variable x ∷ t.Of ∷ pattern_text p (t.Then ∷ rest)

-- a statement, with the symbols of its bodies, and a sequence, whose statements follow one another
abbrev mutual
  pub stmt_text : Statement → List Symbol → List Symbol
  stmt_text (Simple s) rest = plain_text s rest
  stmt_text (Block o q) rest = opening_text o (seq_text q (t.End ∷ rest))
  stmt_text (Chooses h q r) rest = choice_text h (seq_text q (t.Else ∷ seq_text r (t.End ∷ rest)))
  stmt_text (Tries q x r) rest = t.Try ∷ seq_text q (t.Catch ∷ t.Variable x ∷ t.Then ∷ seq_text r (t.End ∷ rest))

  pub seq_text : Sequence → List Symbol → List Symbol
  seq_text (One s) rest = stmt_text s rest
  seq_text (Then s q) rest = stmt_text s (seq_text q rest)

-- the symbol that closes a sequence
abbrev pub closer_symbol : Closer → Symbol
closer_symbol closer.End = t.End
closer_symbol closer.Else = t.Else
closer_symbol closer.Catch = t.Catch
closer_symbol closer.EndOfText = t.EndOfText

-- the symbols of a program
abbrev pub program_text : Sequence → List Symbol
program_text q = seq_text q (t.EndOfText ∷ [])
