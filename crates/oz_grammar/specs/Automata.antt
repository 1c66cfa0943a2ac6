-- Reading symbols by an automaton, and the first fault of symbols under a grammar that is read so: for the symbols of any language,
-- and for faults of any kind.
use Rattle.std.specs.Prelude.{◌≡◌, ◌⊎◌, List, [], ◌∷◌, ◌++◌, Bool, true, false, if◌then◌else◌, Option, Some, None}

-- ---- reading

-- States, each for what a text must still give: where a symbol leads from one, if a text may go on with it there; what is wrong,
-- besides the grammar, at the first of these symbols; that another was expected; and that nothing more is to come. Beside them, which
-- symbols are lexical faults, and the fault of a kind at the first of these symbols.
pub record Automaton (Symbol Kind Fault State : Type 0) : Type 0 where
  pub next : State → Symbol → Option State
  pub wrong : State → List Symbol → Option Kind
  pub expected : State → Kind
  pub is_done : State → Bool
  pub lexical : Symbol → Option Kind
  pub fault : Kind → List Symbol → Fault

-- the kind of fault that a symbol has by itself, else the other
abbrev pub lexical_or : {Kind : Type 0} → Kind → Option Kind → Kind
lexical_or other (Some kind) = kind
lexical_or other None = other

-- a lexical fault stands before what is expected
abbrev pub mismatch : {Symbol : Type 0} → {Kind : Type 0} → (Symbol → Option Kind) → Kind → List Symbol → Kind
mismatch lexical expected [] = expected
mismatch lexical expected (x ∷ xs) = lexical_or expected (lexical x)

-- the fault at the first of these symbols, else the first one behind it
abbrev pub first_of : {Symbol : Type 0} → {Kind : Type 0} → {Fault : Type 0} → (Kind → List Symbol → Fault) → Option Kind → List Symbol → Option Fault → Option Fault
first_of fault (Some kind) symbols behind = Some (fault kind symbols)
first_of fault None symbols behind = behind

-- where the symbol goes on, its own fault or the first one behind it; else its lexical fault, or that another was expected
abbrev pub read_step : {Symbol : Type 0} → {Kind : Type 0} → {Fault : Type 0} → {State : Type 0} → Automaton Symbol Kind Fault State → Kind → Option Kind → List Symbol → (State → Option Fault) → Option State → Option Fault
read_step a expected wrong symbols on (Some s) = first_of a.fault wrong symbols (on s)
read_step a expected wrong symbols on None = Some (a.fault (mismatch a.lexical expected symbols) symbols)

-- the first fault of these symbols, read from this state
abbrev pub read : {Symbol : Type 0} → {Kind : Type 0} → {Fault : Type 0} → {State : Type 0} → Automaton Symbol Kind Fault State → List Symbol → State → Option Fault
read a [] s = if a.is_done s then None else Some (a.fault (a.expected s) [])
read a (x ∷ xs) s = if a.is_done s then None else read_step a (a.expected s) (a.wrong s (x ∷ xs)) (x ∷ xs) (read a xs) (a.next s x)

-- on from a state, if there is one
abbrev pub onward : {State : Type 0} → (State → Option State) → Option State → Option State
onward on (Some s) = on s
onward on None = None

-- the state behind these symbols, if a text may have them; faults are left aside
abbrev pub state_behind : {Symbol : Type 0} → {Kind : Type 0} → {Fault : Type 0} → {State : Type 0} → Automaton Symbol Kind Fault State → List Symbol → State → Option State
state_behind a [] s = Some s
state_behind a (x ∷ xs) s = onward (state_behind a xs) (a.next s x)

-- ---- states that are lists of points, the next first

-- these points, and then others
abbrev pub then_points : {Point : Type 0} → Option (List Point) → List Point → Option (List Point)
then_points (Some points) others = Some (points ++ others)
then_points None others = None

-- the points of the first, if it has some, and else those of the second
abbrev pub or_points : {Point : Type 0} → Option (List Point) → Option (List Point) → Option (List Point)
or_points (Some points) others = Some points
or_points None others = others

-- nothing more is to come
abbrev pub is_done : {Point : Type 0} → List Point → Bool
is_done [] = true
is_done (p ∷ points) = false

-- ---- first faults

-- A grammar: the symbols of a derivation, its first fault, and the automaton with the state at the front of a text; and which symbols
-- are colons, as they tell the role of the symbol before them.
pub record Grammar (Symbol Kind Fault Program : Type 0) (Derives : Program → Type 0) (State : Type 0) : Type 0 where
  pub text : Program → List Symbol
  pub check : Program → Option Fault
  pub automaton : Automaton Symbol Kind Fault State
  pub start : State
  pub is_colon : Symbol → Bool

-- what tells the role of a symbol: it alone, or also whether a colon stands behind it, as behind a feature
pub data Look : Type 0 where
  Alone : Look
  ByColon : Look

-- a colon stands behind the first symbol
abbrev pub has_colon : {Symbol : Type 0} → (Symbol → Bool) → List Symbol → Bool
has_colon is_colon (x ∷ y ∷ rest) = is_colon y
has_colon is_colon symbols = false

-- b begins with the same symbol as a, or both are empty
abbrev pub SameHead : {Symbol : Type 0} → List Symbol → List Symbol → Type 0
SameHead [] b = b ≡ []
SameHead {Symbol = Symbol} (x ∷ xs) b = (ys : List Symbol) × (b ≡ x ∷ ys)

-- b begins as a, as far as tells the role of the first symbol
abbrev pub SameRole : {Symbol : Type 0} → (Symbol → Bool) → Look → List Symbol → List Symbol → Type 0
SameRole is_colon Alone a b = SameHead a b
SameRole is_colon ByColon a b = SameHead a b × (has_colon is_colon a ≡ has_colon is_colon b)

-- a program goes on behind these symbols with more
pub record IsCompletedBy {Symbol Kind Fault Program : Type 0} {Derives : Program → Type 0} {State : Type 0} (g : Grammar Symbol Kind Fault Program Derives State) (front more : List Symbol) : Type 0 where
  pub program : Program
  pub derives : Derives program
  pub derived : front ++ more ≡ g.text program

-- some program has front, and behind it the first symbol of rest in its role
pub record IsViable {Symbol Kind Fault Program : Type 0} {Derives : Program → Type 0} {State : Type 0} (g : Grammar Symbol Kind Fault Program Derives State) (look : Look) (front rest : List Symbol) : Type 0 where
  pub more : List Symbol
  pub same : SameRole g.is_colon look rest more
  pub goes_on : IsCompletedBy g front more

module _ {Symbol Kind Fault Program : Type 0} {Derives : Program → Type 0} {State : Type 0} (g : Grammar Symbol Kind Fault Program Derives State) where
  -- no program has front, and behind it the first symbol of rest
  abbrev pub IsRefused : List Symbol → List Symbol → Type 0
  IsRefused front rest = (more : List Symbol) → SameHead rest more → IsCompletedBy g front more → ⊥

  -- a lexical fault stands at the front
  abbrev pub IsLexical : List Symbol → Kind → Type 0
  IsLexical rest kind = (x : Symbol) × (more : List Symbol) × (rest ≡ x ∷ more) × (g.automaton.lexical x ≡ Some kind)

  -- a token of the text is expected there which is another
  abbrev pub IsExpected : List Symbol → List Symbol → Kind → Type 0
  IsExpected front rest kind =
      (s : State) × (state_behind g.automaton front g.start ≡ Some s) × (kind ≡ g.automaton.expected s) × ((lex : Kind) → IsLexical rest lex → ⊥) × IsRefused front rest

  -- some program goes on with the first symbol of rest in its role, and the first thing wrong in each is this, at that symbol
  abbrev pub IsWrong : List Symbol → List Symbol → Kind → Type 0
  IsWrong front rest kind =
      (look : Look) × IsViable g look front rest × ((more : List Symbol) → SameRole g.is_colon look rest more → (on : IsCompletedBy g front more) → g.check on.program ≡ Some (g.automaton.fault kind more))

  -- this kind of fault applies at the first symbol of rest, behind front
  abbrev pub AppliesAt : List Symbol → List Symbol → Kind → Type 0
  AppliesAt front rest kind = IsLexical rest kind ⊎ (IsExpected front rest kind ⊎ IsWrong front rest kind)

-- The first fault of symbols: it applies at one of them, and none applies at an earlier one.
pub record IsFirstFault {Symbol Kind Fault Program : Type 0} {Derives : Program → Type 0} {State : Type 0} (g : Grammar Symbol Kind Fault Program Derives State) (symbols : List Symbol) (f : Fault) : Type 0 where
  pub front : List Symbol
  pub rest : List Symbol
  pub kind : Kind
  pub divided : symbols ≡ front ++ rest
  pub is : f ≡ g.automaton.fault kind rest
  pub applies : AppliesAt g front rest kind
  pub first : (a : List Symbol) (x : Symbol) (b : List Symbol) (other : Kind) → front ≡ a ++ x ∷ b → AppliesAt g a (x ∷ b ++ rest) other → ⊥
