-- A text ends as what follows it: the symbols of statements are none that end texts.
use Rattle.std.proofs.Common.{◌≡◌, List, [], ◌∷◌, ◌++◌, Bool, true, false, Some, refl, sym, ap, ◌∙◌}
use Rattle.oz_grammar.specs.declared.symbol.Symbol.{Symbol}
use Rattle.oz_grammar.specs.declared.symbol.Symbol.TheVariants as t
use Rattle.oz_grammar.specs.declared.fault.FaultKind.{FaultKind}
use Rattle.oz_grammar.specs.Symbols.{ends_once}
use Rattle.oz_grammar.specs.Faults.{lexical}
use Rattle.oz_grammar.specs.Grammar.{Identifier, FeatureToken, AtomFeature, IntFeature, Selection, ByVariable, ByFeature, Field, Placed, WithFeature, Value, ToVar, Calculates, Tests, Selects, Pairs, ToInt, ToAtom, ToRecord, Pattern, IntPattern, AtomPattern, RecordPattern, PairPattern, Plain, Skips, Tells, Calls, Raises, Opening, Locals, ProcValue, ProcNamed, Threads, ThreadsAt, Choice, Ifs, Cases, Statement, Simple, Block, Chooses, Tries, Sequence, One, Then, feature_symbol, selection_symbol, names_text, fields_text, value_text, pattern_text, plain_text, opening_text, choice_text, stmt_text, seq_text, program_text}

-- no symbol that ends a text
abbrev pub is_inner : Symbol → Bool
is_inner t.EndOfText = false
is_inner (t.Bad fault) = false
is_inner symbol = true

-- a test that passes over inner symbols
abbrev pub PassesOver : (List Symbol → Bool) → Type 0
PassesOver g = (x : Symbol) (rest : List Symbol) → is_inner x ≡ true → g (x ∷ rest) ≡ g rest

pub mark_inner : (m : FeatureToken) → is_inner (feature_symbol m) ≡ true
mark_inner (AtomFeature a) = refl
mark_inner (IntFeature n) = refl

pub selection_inner : (s : Selection) → is_inner (selection_symbol s) ≡ true
selection_inner (ByVariable x) = refl
selection_inner (ByFeature m) = mark_inner m

pub names_pass : (g : List Symbol → Bool) (over : PassesOver g) (xs : List Identifier) (rest : List Symbol) → g (names_text xs rest) ≡ g rest
names_pass g over [] rest = refl
names_pass g over (x ∷ xs) rest = over (t.Variable x) (names_text xs rest) refl ∙ names_pass g over xs rest

fields_pass : (g : List Symbol → Bool) (over : PassesOver g) (fs : List Field) (rest : List Symbol) → g (fields_text fs rest) ≡ g rest
fields_pass g over [] rest = refl
fields_pass g over (Placed x ∷ fs) rest = over (t.Variable x) (fields_text fs rest) refl ∙ fields_pass g over fs rest
fields_pass g over (WithFeature m x ∷ fs) rest = over (feature_symbol m) _ (mark_inner m) ∙ over t.Colon _ refl ∙ over (t.Variable x) (fields_text fs rest) refl ∙ fields_pass g over fs rest

value_passes : (g : List Symbol → Bool) (over : PassesOver g) (v : Value) (rest : List Symbol) → g (value_text v rest) ≡ g rest
value_passes g over (ToVar y) rest = over (t.Variable y) rest refl
value_passes g over (Calculates y o z) rest = over (t.Variable y) _ refl ∙ over (t.Operator o) _ refl ∙ over (t.Variable z) rest refl
value_passes g over (Tests y o z) rest = over (t.Variable y) _ refl ∙ over (t.Test o) _ refl ∙ over (t.Variable z) rest refl
value_passes g over (Selects y s) rest = over (t.Variable y) _ refl ∙ over t.Dot _ refl ∙ over (selection_symbol s) rest (selection_inner s)
value_passes g over (Pairs h u) rest = over (t.Variable h) _ refl ∙ over t.Bar _ refl ∙ over (t.Variable u) rest refl
value_passes g over (ToInt n) rest = over (t.Integer n) rest refl
value_passes g over (ToAtom a) rest = over (t.Atom a) rest refl
value_passes g over (ToRecord a fs) rest = over (t.Atom a) _ refl ∙ over t.OpenRound _ refl ∙ fields_pass g over fs (t.CloseRound ∷ rest) ∙ over t.CloseRound rest refl

pub pattern_passes : (g : List Symbol → Bool) (over : PassesOver g) (p : Pattern) (rest : List Symbol) → g (pattern_text p rest) ≡ g rest
pattern_passes g over (IntPattern n) rest = over (t.Integer n) rest refl
pattern_passes g over (AtomPattern a) rest = over (t.Atom a) rest refl
pattern_passes g over (RecordPattern a fs) rest = over (t.Atom a) _ refl ∙ over t.OpenRound _ refl ∙ fields_pass g over fs (t.CloseRound ∷ rest) ∙ over t.CloseRound rest refl
pattern_passes g over (PairPattern h u) rest = over (t.Variable h) _ refl ∙ over t.Bar _ refl ∙ over (t.Variable u) rest refl

plain_passes : (g : List Symbol → Bool) (over : PassesOver g) (s : Plain) (rest : List Symbol) → g (plain_text s rest) ≡ g rest
plain_passes g over Skips rest = over t.Skip rest refl
plain_passes g over (Tells x v) rest = over (t.Variable x) _ refl ∙ over t.Equals _ refl ∙ value_passes g over v rest
plain_passes g over (Calls p xs) rest = over t.OpenCurly _ refl ∙ over (t.Variable p) _ refl ∙ names_pass g over xs (t.CloseCurly ∷ rest) ∙ over t.CloseCurly rest refl
plain_passes g over (Raises x) rest = over t.Raise _ refl ∙ over (t.Variable x) _ refl ∙ over t.End rest refl

opening_passes : (g : List Symbol → Bool) (over : PassesOver g) (o : Opening) (rest : List Symbol) → g (opening_text o rest) ≡ g rest
opening_passes g over (Locals x xs) rest = over t.Local _ refl ∙ over (t.Variable x) _ refl ∙ names_pass g over xs (t.In ∷ rest) ∙ over t.In rest refl
opening_passes g over (ProcValue x xs) rest = over (t.Variable x) _ refl ∙ over t.Equals _ refl ∙ over t.Proc _ refl ∙ over t.OpenCurly _ refl ∙ over t.Dollar _ refl ∙ names_pass g over xs (t.CloseCurly ∷ rest) ∙ over t.CloseCurly rest refl
opening_passes g over (ProcNamed x xs) rest = over t.Proc _ refl ∙ over t.OpenCurly _ refl ∙ over (t.Variable x) _ refl ∙ names_pass g over xs (t.CloseCurly ∷ rest) ∙ over t.CloseCurly rest refl
opening_passes g over Threads rest = over t.Thread rest refl
opening_passes g over (ThreadsAt n) rest = over t.Thread _ refl ∙ over t.At _ refl ∙ over (t.Integer n) rest refl

choice_passes : (g : List Symbol → Bool) (over : PassesOver g) (h : Choice) (rest : List Symbol) → g (choice_text h rest) ≡ g rest
choice_passes g over (Ifs x) rest = over t.If _ refl ∙ over (t.Variable x) _ refl ∙ over t.Then rest refl
choice_passes g over (Cases x p) rest = over t.Case _ refl ∙ over (t.Variable x) _ refl ∙ over t.Of _ refl ∙ pattern_passes g over p (t.Then ∷ rest) ∙ over t.Then rest refl

mutual
  stmt_passes : (g : List Symbol → Bool) (over : PassesOver g) (s : Statement) (rest : List Symbol) → g (stmt_text s rest) ≡ g rest
  stmt_passes g over (Simple s) rest = plain_passes g over s rest
  stmt_passes g over (Block o q) rest = opening_passes g over o (seq_text q (t.End ∷ rest)) ∙ seq_passes g over q (t.End ∷ rest) ∙ over t.End rest refl
  stmt_passes g over (Chooses h q r) rest = choice_passes g over h (seq_text q (t.Else ∷ seq_text r (t.End ∷ rest))) ∙ seq_passes g over q (t.Else ∷ seq_text r (t.End ∷ rest)) ∙ over t.Else _ refl ∙ seq_passes g over r (t.End ∷ rest) ∙ over t.End rest refl
  stmt_passes g over (Tries q x r) rest = over t.Try _ refl ∙ seq_passes g over q (t.Catch ∷ t.Variable x ∷ t.Then ∷ seq_text r (t.End ∷ rest)) ∙ over t.Catch _ refl ∙ over (t.Variable x) _ refl ∙ over t.Then _ refl ∙ seq_passes g over r (t.End ∷ rest) ∙ over t.End rest refl

  pub seq_passes : (g : List Symbol → Bool) (over : PassesOver g) (q : Sequence) (rest : List Symbol) → g (seq_text q rest) ≡ g rest
  seq_passes g over (One s) rest = stmt_passes g over s rest
  seq_passes g over (Then s q) rest = stmt_passes g over s (seq_text q rest) ∙ seq_passes g over q rest

-- ---- the end of the text

pub ends_over : PassesOver ends_once
ends_over t.EndOfText rest e = absurd cc
ends_over (t.Bad fault) rest e = absurd cc
ends_over x rest e = refl

pub nothing_behind : (rest : List Symbol) → ends_once (t.EndOfText ∷ rest) ≡ true → rest ≡ []
nothing_behind [] e = refl
nothing_behind (x ∷ rest) e = absurd cc

-- nothing stands behind the end of the text
pub ends_there : (q : Sequence) (rest : List Symbol) → ends_once (seq_text q (t.EndOfText ∷ rest)) ≡ true → rest ≡ []
ends_there q rest e = nothing_behind rest (sym (seq_passes ends_once ends_over q (t.EndOfText ∷ rest)) ∙ e)

-- the symbols of a program end once
pub program_ends : (q : Sequence) → ends_once (program_text q) ≡ true
program_ends q = seq_passes ends_once ends_over q (t.EndOfText ∷ [])

-- ---- lexical faults

abbrev pub has_bad : List Symbol → Bool
has_bad [] = false
has_bad (t.Bad fault ∷ rest) = true
has_bad (symbol ∷ rest) = has_bad rest

pub bad_over : PassesOver has_bad
bad_over t.EndOfText rest e = absurd cc
bad_over (t.Bad fault) rest e = absurd cc
bad_over x rest e = refl

pub bad_behind : (front : List Symbol) (x : Symbol) (kind : FaultKind) (more : List Symbol) → lexical x ≡ Some kind → has_bad (front ++ x ∷ more) ≡ true
bad_behind [] (t.Bad fault) kind more e = refl
bad_behind [] x kind more e = absurd cc
bad_behind (t.Bad fault ∷ front) x kind more e = refl
bad_behind (y ∷ front) x kind more e = bad_behind front x kind more e

-- no lexical fault stands in a program
pub none_lexical : (q : Sequence) (front : List Symbol) (x : Symbol) (kind : FaultKind) (more : List Symbol) → lexical x ≡ Some kind → front ++ x ∷ more ≡ program_text q → ⊥
none_lexical q front x kind more lex e =
    let bad : has_bad (program_text q) ≡ true = sym (ap has_bad e) ∙ bad_behind front x kind more lex in
    let good : has_bad (program_text q) ≡ false = seq_passes has_bad bad_over q (t.EndOfText ∷ []) in cc
