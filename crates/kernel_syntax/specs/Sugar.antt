-- Programs with sugar (CTM section 2.6) as trees. An identifier is the number of declarations of the text that enclose its own.
use Rattle.std.specs.Prelude.{ℕ, suc, ◌+◌, List, [], ◌∷◌, Option, ℤ, pos, codes}
use Rattle.tree_node.specs.declared.node.Feature.{Feature}
use Rattle.tree_node.specs.declared.node.Feature.TheVariants as feature
use Rattle.kernel_syntax.specs.declared.stmt.Pattern.{Pattern}
use Rattle.kernel_syntax.specs.declared.sugar.Field.{Field}
use Rattle.kernel_syntax.specs.declared.sugar.Field.TheVariants as field
use Rattle.kernel_syntax.specs.declared.sugar.Operation.{Operation}
use Rattle.kernel_syntax.specs.declared.sugar.Action.{Action}

-- Values and statements, each from its place on: how many symbols are left at its first one. A record has its fields in the
-- order of features, and behind them its values that are no variables, in the order of the text; a procedure and a function
-- have the number of their formals; an operation and an action have their parts.
mutual
  pub data Value : Type 0 where
    Variable : ℕ → ℕ → Value
    Integer : ℕ → ℤ → Value
    Atom : ℕ → List ℕ → Value
    Record : ℕ → List ℕ → List (Feature × Field) → Values → Value
    Apply : ℕ → Operation → Values → Value
    Proc : ℕ → ℕ → Statements → Value
    Fun : ℕ → ℕ → Value → Value
    If : ℕ → Value → Value → Value → Value
    Case : ℕ → Value → ValueClauses → Value → Value
    Brackets : ℕ → Value → Value

  pub data Values : Type 0 where
    no_values : Values
    value_and : Value → Values → Values

  -- patterns, each with the value behind its `then`
  pub data ValueClauses : Type 0 where
    no_clauses : ValueClauses
    clause_and : Pattern → Value → ValueClauses → ValueClauses

  pub data Statement : Type 0 where
    Skip : ℕ → Statement
    Tell : ℕ → ℕ → Value → Statement
    Acts : ℕ → Action → Values → Statement
    Local : ℕ → ℕ → Statements → Statement
    Thread : ℕ → Option ℤ → Statements → Statement
    IfStatement : ℕ → Value → Statements → Statements → Statement
    CaseStatement : ℕ → Value → Clauses → Statements → Statement
    Try : ℕ → Statements → Statements → Statement
    Finally : ℕ → Statements → Statements → Statement

  pub data Statements : Type 0 where
    no_statements : Statements
    statement_and : Statement → Statements → Statements

  -- patterns, each with the statements behind its `then`
  pub data Clauses : Type 0 where
    no_cases : Clauses
    case_and : Pattern → Statements → Clauses → Clauses

-- the place of a value
abbrev pub left_of : Value → ℕ
left_of (Variable left k) = left
left_of (Integer left n) = left
left_of (Atom left a) = left
left_of (Record left a slots vs) = left
left_of (Apply left operation vs) = left
left_of (Proc left count q) = left
left_of (Fun left count v) = left
left_of (If left e a b) = left
left_of (Case left e cs b) = left
left_of (Brackets left v) = left

-- the first of a variable, the second of another value
abbrev pub by_kind : {A : Type 0} → Value → A → A → A
by_kind (Variable left k) variable other = variable
by_kind v variable other = other

-- how many new identifiers a part takes: one, unless it is a variable
abbrev pub new_of : Value → ℕ
new_of v = by_kind v 0 1

-- the field that a value is, where so many that are no variables stand before it
abbrev pub field_of : Value → ℕ → Field
field_of (Variable left k) i = field.Variable k
field_of v i = field.Value i

-- a value before others, unless it is a variable
abbrev pub part_and : Value → Values → Values
part_and v vs = by_kind v vs (value_and v vs)

-- the fields of the record H|T
abbrev pub pair_fields : Value → Value → List (Feature × Field)
pair_fields h u = (feature.Int (pos 1), field_of h 0) ∷ (feature.Int (pos 2), field_of u (new_of h)) ∷ []

-- its values that are no variables
abbrev pub pair_values : Value → Value → Values
pair_values h u = part_and h (part_and u no_values)

-- the record H|T of a head and a tail
abbrev pub pair_of : ℕ → Value × Value → Value
pair_of left hu = Record left (codes "|") (pair_fields hu.0 hu.1) (pair_values hu.0 hu.1)

-- how many parts take
abbrev pub new_in : Values → ℕ
new_in no_values = 0
new_in (value_and v vs) = new_of v + new_in vs

-- how many values these are
abbrev pub count_values : Values → ℕ
count_values no_values = 0
count_values (value_and v vs) = suc (count_values vs)

-- how many clauses of values these are
abbrev pub count_value_clauses : ValueClauses → ℕ
count_value_clauses no_clauses = 0
count_value_clauses (clause_and p v cs) = suc (count_value_clauses cs)

-- how many clauses of statements
abbrev pub count_clauses : Clauses → ℕ
count_clauses no_cases = 0
count_clauses (case_and p q cs) = suc (count_clauses cs)
