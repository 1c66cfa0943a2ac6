-- The limits of programs with sugar, where the text declares t identifiers around a place: what is used is declared, calls have
-- their arguments, bodies a statement and statements a clause at least, and integers, atoms and features can be spelled.
use Rattle.std.specs.Prelude.{◌≡◌, ℕ, ◌+◌, ◌<◌, ◌≤◌, length, map, IsTrue}
use Rattle.tree_node.specs.declared.limits.TheConstants.{MOST_ITEMS}
use Rattle.tree_node.specs.Each.{Each}
use Rattle.tree_node.specs.declared.node.Feature.{Feature}
use Rattle.kernel_syntax.specs.declared.stmt.Selector.TheVariants as selector
use Rattle.kernel_syntax.specs.declared.stmt.Pattern.{Pattern}
use Rattle.kernel_syntax.specs.declared.sugar.Field.{Field}
use Rattle.kernel_syntax.specs.declared.sugar.Field.TheVariants as field
use Rattle.kernel_syntax.specs.declared.sugar.Operation.{Operation}
use Rattle.kernel_syntax.specs.declared.sugar.Operation.TheVariants as operation
use Rattle.kernel_syntax.specs.declared.sugar.Action.{Action}
use Rattle.kernel_syntax.specs.declared.sugar.Action.TheVariants as action
use Rattle.kernel_syntax.specs.Scopes.{features_in}
use Rattle.kernel_syntax.specs.Arithmetic.{is_integer}
use Rattle.kernel_syntax.specs.BuiltIns.{arity_of}
use Rattle.kernel_syntax.specs.Program.{AreFeatures, IsPattern, IsThreadSite}
use Rattle.kernel_syntax.specs.Texts.{IsText, IsFeature, IsSpelledPattern, IsIntegerIfSome}
use Rattle.kernel_syntax.specs.Sugar as sugar
use Rattle.kernel_syntax.specs.Sugar.{Value, Values, ValueClauses, Statement, Statements, Clauses, new_in, count_values, count_clauses}

-- a field is an identifier that is declared, or one of so many values
abbrev pub FitsField : ℕ → ℕ → Field → Type 0
FitsField t count (field.Variable k) = k < t
FitsField t count (field.Value i) = i < count

-- an operation has as many parts as it takes: a call one argument fewer, since its last is told
abbrev pub FitsOperation : Operation → ℕ → ℕ → Type 0
FitsOperation (operation.Calc o) count t = count ≡ 2
FitsOperation (operation.Test o) count t = count ≡ 2
FitsOperation (operation.Select (selector.Var k)) count t = (count ≡ 1) × (k < t)
FitsOperation (operation.Select (selector.Feature f)) count t = (count ≡ 1) × IsFeature f
FitsOperation (operation.Call p) count t = (p < t) × (count ≤ 63)
FitsOperation (operation.BuiltIn b) count t = count + 1 ≡ arity_of b

-- a call has its arguments, an exception is one value
abbrev pub FitsAction : Action → ℕ → ℕ → Type 0
FitsAction (action.Call p) count t = (p < t) × (count ≤ MOST_ITEMS)
FitsAction (action.BuiltIn b) count t = count ≡ arity_of b
FitsAction action.Raise count t = count ≡ 1

-- a pattern that a text can spell, of at most 64 fields
abbrev pub FitsPattern : Pattern → Type 0
FitsPattern p = IsPattern p × IsSpelledPattern p × (length (features_in p) ≤ MOST_ITEMS)

-- values and statements, lists of them, and clauses, whose patterns declare identifiers
abbrev mutual
  pub FitsValue : Value → ℕ → Type 0
  FitsValue (sugar.Variable left k) t = k < t
  FitsValue (sugar.Integer left i) t = IsTrue (is_integer i)
  FitsValue (sugar.Atom left a) t = IsText a
  FitsValue (sugar.Record left a slots vs) t =
      IsText a × AreFeatures (map (λ (s : Feature × Field). s.0) slots) × Each IsFeature (map (λ (s : Feature × Field). s.0) slots) × Each (λ (s : Feature × Field). FitsField t (new_in vs) s.1) slots × FitsValues vs t
  FitsValue (sugar.Apply left f vs) t = FitsOperation f (count_values vs) t × FitsValues vs t
  FitsValue (sugar.Proc left count q) t = (count ≤ MOST_ITEMS) × FitsStatements q (t + count)
  FitsValue (sugar.Fun left count v) t = (count ≤ 63) × FitsValue v (t + count)
  FitsValue (sugar.If left e a b) t = FitsValue e t × FitsValue a t × FitsValue b t
  FitsValue (sugar.Case left e cs b) t = FitsValue e t × FitsValueClauses cs t × FitsValue b t
  FitsValue (sugar.Brackets left v) t = FitsValue v t

  pub FitsValues : Values → ℕ → Type 0
  FitsValues sugar.no_values t = Unit {0}
  FitsValues (sugar.value_and v vs) t = FitsValue v t × FitsValues vs t

  pub FitsValueClauses : ValueClauses → ℕ → Type 0
  FitsValueClauses sugar.no_clauses t = Unit {0}
  FitsValueClauses (sugar.clause_and p v cs) t = FitsPattern p × FitsValue v (t + length (features_in p)) × FitsValueClauses cs t

  pub FitsStatement : Statement → ℕ → Type 0
  FitsStatement (sugar.Skip left) t = Unit {0}
  FitsStatement (sugar.Tell left x v) t = (x < t) × FitsValue v t
  FitsStatement (sugar.Acts left a vs) t = FitsAction a (count_values vs) t × FitsValues vs t
  FitsStatement (sugar.Local left count q) t = (1 ≤ count) × (count ≤ MOST_ITEMS) × FitsStatements q (t + count)
  FitsStatement (sugar.Thread left at q) t = IsThreadSite at × IsIntegerIfSome at × FitsStatements q t
  FitsStatement (sugar.IfStatement left e q r) t = FitsValue e t × FitsStatements q t × FitsStatements r t
  FitsStatement (sugar.CaseStatement left e cs r) t = FitsValue e t × FitsClauses cs t × FitsStatements r t × (1 ≤ count_clauses cs)
  FitsStatement (sugar.Try left q r) t = FitsStatements q t × FitsStatements r (t + 1)
  FitsStatement (sugar.Finally left q u) t = FitsStatements q t × FitsStatements u t

  -- one at least
  pub FitsStatements : Statements → ℕ → Type 0
  FitsStatements sugar.no_statements t = ⊥
  FitsStatements (sugar.statement_and s q) t = FitsStatement s t × FitsOthers q t

  -- those behind the first
  pub FitsOthers : Statements → ℕ → Type 0
  FitsOthers sugar.no_statements t = Unit {0}
  FitsOthers (sugar.statement_and s q) t = FitsStatement s t × FitsOthers q t

  pub FitsClauses : Clauses → ℕ → Type 0
  FitsClauses sugar.no_cases t = Unit {0}
  FitsClauses (sugar.case_and p q cs) t = FitsPattern p × FitsStatements q (t + length (features_in p)) × FitsClauses cs t
