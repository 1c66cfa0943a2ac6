-- A text ends as what follows it: the symbols of values and statements are none that end texts.
use Rattle.std.proofs.Common.{◌≡◌, List, [], ◌∷◌, ◌++◌, Bool, true, false, Some, refl, sym, ap, ◌∙◌}
use Rattle.oz_grammar.specs.declared.fault.FaultKind.{FaultKind}
use Rattle.oz_grammar.specs.declared.symbol.Symbol.{Symbol}
use Rattle.oz_grammar.specs.declared.symbol.Symbol.TheVariants as t
use Rattle.oz_grammar.specs.Symbols.{ends_once}
use Rattle.oz_grammar.specs.Faults.{lexical}
use Rattle.oz_grammar.specs.Grammar.{feature_symbol, selection_symbol}
use Rattle.oz_grammar.proofs.Ends.{PassesOver, mark_inner, selection_inner, names_pass, pattern_passes, ends_over, nothing_behind, has_bad, bad_over, bad_behind}
use Rattle.surface_grammar.specs.Derivations.{Primary, Variable, Integer, Atom, Record, Calls, Procedure, Function, Brackets, Selects, Tail, Last, More, Value, Alone, Calculates, Tests, Pairs, IfValue, CaseValue, Arguments, no_arguments, argument_and, no_fields, placed_and, named_and, ValueClauses, no_clauses, clause_and, Statement, Skips, Tells, CallsStatement, Raises, Locals, ProcNamed, FunNamed, Threads, ThreadsAt, Ifs, Cases, Tries, TriesFinally, Finally, Clauses, no_cases, case_and, Sequence, One, Then, primary_text, tail_text, value_text, arguments_text, fields_text, value_clauses_text, statement_text, clauses_text, sequence_text, program_text}
use Rattle.surface_grammar.specs.Derivations as tree

mutual
  primary_passes : (g : List Symbol → Bool) (over : PassesOver g) (p : Primary) (rest : List Symbol) → g (primary_text p rest) ≡ g rest
  primary_passes g over (Variable x) rest = over (t.Variable x) rest refl
  primary_passes g over (Integer n) rest = over (t.Integer n) rest refl
  primary_passes g over (Atom a) rest = over (t.Atom a) rest refl
  primary_passes g over (Record a fs) rest = over (t.Atom a) _ refl ∙ over t.OpenRound _ refl ∙ fields_pass g over fs (t.CloseRound ∷ rest) ∙ over t.CloseRound rest refl
  primary_passes g over (Calls p vs) rest = over t.OpenCurly _ refl ∙ over (t.Variable p) _ refl ∙ arguments_pass g over vs (t.CloseCurly ∷ rest) ∙ over t.CloseCurly rest refl
  primary_passes g over (Procedure xs q) rest =
      over t.Proc _ refl ∙ over t.OpenCurly _ refl ∙ over t.Dollar _ refl ∙ names_pass g over xs _ ∙ over t.CloseCurly _ refl ∙ sequence_passes g over q (t.End ∷ rest) ∙ over t.End rest refl
  primary_passes g over (Function xs v) rest =
      over t.Fun _ refl ∙ over t.OpenCurly _ refl ∙ over t.Dollar _ refl ∙ names_pass g over xs _ ∙ over t.CloseCurly _ refl ∙ value_passes g over v (t.End ∷ rest) ∙ over t.End rest refl
  primary_passes g over (Brackets v) rest = over t.OpenRound _ refl ∙ value_passes g over v (t.CloseRound ∷ rest) ∙ over t.CloseRound rest refl
  primary_passes g over (Selects p s) rest = primary_passes g over p (t.Dot ∷ selection_symbol s ∷ rest) ∙ over t.Dot _ refl ∙ over (selection_symbol s) rest (selection_inner s)

  tail_passes : (g : List Symbol → Bool) (over : PassesOver g) (l : Tail) (rest : List Symbol) → g (tail_text l rest) ≡ g rest
  tail_passes g over (Last p) rest = primary_passes g over p rest
  tail_passes g over (More p l) rest = primary_passes g over p (t.Bar ∷ tail_text l rest) ∙ over t.Bar _ refl ∙ tail_passes g over l rest

  value_passes : (g : List Symbol → Bool) (over : PassesOver g) (v : Value) (rest : List Symbol) → g (value_text v rest) ≡ g rest
  value_passes g over (Alone p) rest = primary_passes g over p rest
  value_passes g over (Calculates p o q) rest = primary_passes g over p (t.Operator o ∷ primary_text q rest) ∙ over (t.Operator o) _ refl ∙ primary_passes g over q rest
  value_passes g over (Tests p o q) rest = primary_passes g over p (t.Test o ∷ primary_text q rest) ∙ over (t.Test o) _ refl ∙ primary_passes g over q rest
  value_passes g over (Pairs p l) rest = primary_passes g over p (t.Bar ∷ tail_text l rest) ∙ over t.Bar _ refl ∙ tail_passes g over l rest
  value_passes g over (IfValue e a b) rest =
      over t.If _ refl ∙ value_passes g over e _ ∙ over t.Then _ refl ∙ value_passes g over a _ ∙ over t.Else _ refl ∙ value_passes g over b (t.End ∷ rest) ∙ over t.End rest refl
  value_passes g over (CaseValue e p v cs b) rest =
      over t.Case _ refl ∙ value_passes g over e _ ∙ over t.Of _ refl ∙ pattern_passes g over p _ ∙ over t.Then _ refl ∙ value_passes g over v _ ∙ value_clauses_pass g over cs _ ∙ over t.Else _ refl
      ∙ value_passes g over b (t.End ∷ rest) ∙ over t.End rest refl

  arguments_pass : (g : List Symbol → Bool) (over : PassesOver g) (vs : Arguments) (rest : List Symbol) → g (arguments_text vs rest) ≡ g rest
  arguments_pass g over no_arguments rest = refl
  arguments_pass g over (argument_and v vs) rest = value_passes g over v (arguments_text vs rest) ∙ arguments_pass g over vs rest

  fields_pass : (g : List Symbol → Bool) (over : PassesOver g) (fs : tree.Fields) (rest : List Symbol) → g (fields_text fs rest) ≡ g rest
  fields_pass g over no_fields rest = refl
  fields_pass g over (placed_and v fs) rest = value_passes g over v (fields_text fs rest) ∙ fields_pass g over fs rest
  fields_pass g over (named_and m v fs) rest = over (feature_symbol m) _ (mark_inner m) ∙ over t.Colon _ refl ∙ value_passes g over v (fields_text fs rest) ∙ fields_pass g over fs rest

  value_clauses_pass : (g : List Symbol → Bool) (over : PassesOver g) (cs : ValueClauses) (rest : List Symbol) → g (value_clauses_text cs rest) ≡ g rest
  value_clauses_pass g over no_clauses rest = refl
  value_clauses_pass g over (clause_and p v cs) rest =
      over t.Clause _ refl ∙ pattern_passes g over p _ ∙ over t.Then _ refl ∙ value_passes g over v (value_clauses_text cs rest) ∙ value_clauses_pass g over cs rest

  statement_passes : (g : List Symbol → Bool) (over : PassesOver g) (s : Statement) (rest : List Symbol) → g (statement_text s rest) ≡ g rest
  statement_passes g over Skips rest = over t.Skip rest refl
  statement_passes g over (Tells x v) rest = over (t.Variable x) _ refl ∙ over t.Equals _ refl ∙ value_passes g over v rest
  statement_passes g over (CallsStatement p vs) rest = over t.OpenCurly _ refl ∙ over (t.Variable p) _ refl ∙ arguments_pass g over vs (t.CloseCurly ∷ rest) ∙ over t.CloseCurly rest refl
  statement_passes g over (Raises v) rest = over t.Raise _ refl ∙ value_passes g over v (t.End ∷ rest) ∙ over t.End rest refl
  statement_passes g over (Locals x xs q) rest = over t.Local _ refl ∙ over (t.Variable x) _ refl ∙ names_pass g over xs _ ∙ over t.In _ refl ∙ sequence_passes g over q (t.End ∷ rest) ∙ over t.End rest refl
  statement_passes g over (ProcNamed x xs q) rest =
      over t.Proc _ refl ∙ over t.OpenCurly _ refl ∙ over (t.Variable x) _ refl ∙ names_pass g over xs _ ∙ over t.CloseCurly _ refl ∙ sequence_passes g over q (t.End ∷ rest) ∙ over t.End rest refl
  statement_passes g over (FunNamed x xs v) rest =
      over t.Fun _ refl ∙ over t.OpenCurly _ refl ∙ over (t.Variable x) _ refl ∙ names_pass g over xs _ ∙ over t.CloseCurly _ refl ∙ value_passes g over v (t.End ∷ rest) ∙ over t.End rest refl
  statement_passes g over (Threads q) rest = over t.Thread _ refl ∙ sequence_passes g over q (t.End ∷ rest) ∙ over t.End rest refl
  statement_passes g over (ThreadsAt n q) rest = over t.Thread _ refl ∙ over t.At _ refl ∙ over (t.Integer n) _ refl ∙ sequence_passes g over q (t.End ∷ rest) ∙ over t.End rest refl
  statement_passes g over (Ifs e q r) rest =
      over t.If _ refl ∙ value_passes g over e _ ∙ over t.Then _ refl ∙ sequence_passes g over q _ ∙ over t.Else _ refl ∙ sequence_passes g over r (t.End ∷ rest) ∙ over t.End rest refl
  statement_passes g over (Cases e p q cs r) rest =
      over t.Case _ refl ∙ value_passes g over e _ ∙ over t.Of _ refl ∙ pattern_passes g over p _ ∙ over t.Then _ refl ∙ sequence_passes g over q _ ∙ clauses_pass g over cs _ ∙ over t.Else _ refl
      ∙ sequence_passes g over r (t.End ∷ rest) ∙ over t.End rest refl
  statement_passes g over (Tries q x r) rest =
      over t.Try _ refl ∙ sequence_passes g over q _ ∙ over t.Catch _ refl ∙ over (t.Variable x) _ refl ∙ over t.Then _ refl ∙ sequence_passes g over r (t.End ∷ rest) ∙ over t.End rest refl
  statement_passes g over (TriesFinally q x r u) rest =
      over t.Try _ refl ∙ sequence_passes g over q _ ∙ over t.Catch _ refl ∙ over (t.Variable x) _ refl ∙ over t.Then _ refl ∙ sequence_passes g over r _ ∙ over t.Finally _ refl
      ∙ sequence_passes g over u (t.End ∷ rest) ∙ over t.End rest refl
  statement_passes g over (Finally q u) rest = over t.Try _ refl ∙ sequence_passes g over q _ ∙ over t.Finally _ refl ∙ sequence_passes g over u (t.End ∷ rest) ∙ over t.End rest refl

  clauses_pass : (g : List Symbol → Bool) (over : PassesOver g) (cs : Clauses) (rest : List Symbol) → g (clauses_text cs rest) ≡ g rest
  clauses_pass g over no_cases rest = refl
  clauses_pass g over (case_and p q cs) rest =
      over t.Clause _ refl ∙ pattern_passes g over p _ ∙ over t.Then _ refl ∙ sequence_passes g over q (clauses_text cs rest) ∙ clauses_pass g over cs rest

  sequence_passes : (g : List Symbol → Bool) (over : PassesOver g) (q : Sequence) (rest : List Symbol) → g (sequence_text q rest) ≡ g rest
  sequence_passes g over (One s) rest = statement_passes g over s rest
  sequence_passes g over (Then s q) rest = statement_passes g over s (sequence_text q rest) ∙ sequence_passes g over q rest

-- nothing stands behind the end of the text
pub ends_there : (q : Sequence) (rest : List Symbol) → ends_once (sequence_text q (t.EndOfText ∷ rest)) ≡ true → rest ≡ []
ends_there q rest e = nothing_behind rest (sym (sequence_passes ends_once ends_over q (t.EndOfText ∷ rest)) ∙ e)

-- the symbols of a program end once
pub program_ends : (q : Sequence) → ends_once (program_text q) ≡ true
program_ends q = sequence_passes ends_once ends_over q (t.EndOfText ∷ [])

-- no lexical fault stands in a program
pub none_lexical : (q : Sequence) (front : List Symbol) (x : Symbol) (kind : FaultKind) (more : List Symbol) → lexical x ≡ Some kind → front ++ x ∷ more ≡ program_text q → ⊥
none_lexical q front x kind more lex e =
    let bad : has_bad (program_text q) ≡ true = sym (ap has_bad e) ∙ bad_behind front x kind more lex in
    let good : has_bad (program_text q) ≡ false = sequence_passes has_bad bad_over q (t.EndOfText ∷ []) in cc
