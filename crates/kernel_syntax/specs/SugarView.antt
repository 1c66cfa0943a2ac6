-- What the types of programs with sugar hold, as plain trees.
use Rattle.std.specs.Prelude.{ℕ, List, [], ◌∷◌}
use Rattle.tree_node.specs.declared.node.Feature.{Feature}
use Rattle.kernel_syntax.specs.declared.sugar.Field.{Field}
use Rattle.kernel_syntax.specs.declared.sugar.Value as values
use Rattle.kernel_syntax.specs.declared.sugar.Pair as pairs
use Rattle.kernel_syntax.specs.declared.sugar.Link as links
use Rattle.kernel_syntax.specs.declared.sugar.ValueClause as value_clauses
use Rattle.kernel_syntax.specs.declared.sugar.Statement as statements
use Rattle.kernel_syntax.specs.declared.sugar.Clause as clauses
use Rattle.kernel_syntax.specs.Sugar.{Value, Variable, Integer, Atom, Record, Apply, Proc, Fun, If, Case, Brackets, Values, no_values, value_and, ValueClauses, no_clauses, clause_and, Statement, Skip, Tell, Acts, Local, Thread, IfStatement, CaseStatement, Try, Finally, Statements, no_statements, statement_and, Clauses, no_cases, case_and, pair_fields, pair_values, pair_of}

-- values and statements, heads and tails, and the rows of vectors
abbrev mutual
  pub value_of : values.Value → Value
  value_of (values.Variable left k) = Variable left k
  value_of (values.Integer left i) = Integer left i
  value_of (values.Atom left a) = Atom left a
  value_of (values.Record' left a slots l vs) = Record left a slots (values_of vs)
  value_of (values.Pair' left p hu l ks) = pair_of left (behind (two_in hu) ks)
  value_of (values.Apply' left operation l vs) = Apply left operation (values_of vs)
  value_of (values.Proc' left count l q) = Proc left count (statements_of q)
  value_of (values.Fun' left count p v) = Fun left count (value_of v)
  value_of (values.If' left p e q a r b) = If left (value_of e) (value_of a) (value_of b)
  value_of (values.Case' left p e l cs q b) = Case left (value_of e) (value_clauses_of cs) (value_of b)
  value_of (values.Brackets' left p v) = Brackets left (value_of v)

  -- the head and the tail of a pair
  pub two_in : pairs.Pair → Value × Value
  two_in (pairs.Of h u) = (value_of h, value_of u)

  -- the first head and its tail, where these stand before a head and a tail, the last of them first
  pub behind : {m : _} → Value × Value → values.Row_of-Link m → Value × Value
  behind hu values.end_of-Link = hu
  behind hu (values.more_of-Link k ks) = behind (before k hu) ks

  pub before : links.Link → Value × Value → Value × Value
  before (links.Before left h) hu = (value_of h, pair_of left hu)

  pub values_of : {m : _} → values.Row_of-Value m → Values
  values_of values.end_of-Value = no_values
  values_of (values.more_of-Value v vs) = value_and (value_of v) (values_of vs)

  pub value_clauses_of : {m : _} → values.Row_of-ValueClause m → ValueClauses
  value_clauses_of values.end_of-ValueClause = no_clauses
  value_clauses_of (values.more_of-ValueClause c cs) = value_clause_and c (value_clauses_of cs)

  pub value_clause_and : value_clauses.ValueClause → ValueClauses → ValueClauses
  value_clause_and (value_clauses.Then p v) cs = clause_and p (value_of v) cs

  pub statement_of : statements.Statement → Statement
  statement_of (statements.Skip left) = Skip left
  statement_of (statements.Tell left x v) = Tell left x (value_of v)
  statement_of (statements.Apply' left action l vs) = Acts left action (values_of vs)
  statement_of (statements.Local' left count l q) = Local left count (statements_of q)
  statement_of (statements.Thread' left at l q) = Thread left at (statements_of q)
  statement_of (statements.If' left e l q m r) = IfStatement left (value_of e) (statements_of q) (statements_of r)
  statement_of (statements.Case' left e l cs m r) = CaseStatement left (value_of e) (clauses_of cs) (statements_of r)
  statement_of (statements.Try' left l q m r) = Try left (statements_of q) (statements_of r)
  statement_of (statements.Finally' left l q m u) = Finally left (statements_of q) (statements_of u)

  pub statements_of : {m : _} → statements.Row_of-Statement m → Statements
  statements_of statements.end_of-Statement = no_statements
  statements_of (statements.more_of-Statement s q) = statement_and (statement_of s) (statements_of q)

  pub clauses_of : {m : _} → statements.Row_of-Clause m → Clauses
  clauses_of statements.end_of-Clause = no_cases
  clauses_of (statements.more_of-Clause c cs) = case_and_of c (clauses_of cs)

  pub case_and_of : clauses.Clause → Clauses → Clauses
  case_and_of (clauses.Then' p l q) cs = case_and p (statements_of q) cs

-- the head that stands before a list, and where the list begins
abbrev pub head_in : links.Link → Value
head_in (links.Before left h) = value_of h

abbrev pub list_place : links.Link → ℕ
list_place (links.Before left h) = left

-- the fields of a pair, and its values that are no variables
abbrev pub fields_in : pairs.Pair → List (Feature × Field)
fields_in hu = pair_fields (two_in hu).0 (two_in hu).1

abbrev pub parts_in : pairs.Pair → Values
parts_in hu = pair_values (two_in hu).0 (two_in hu).1

-- the first head and its tail, where a list of heads stands before
abbrev pub behind_all : Value × Value → List links.Link → Value × Value
behind_all hu [] = hu
behind_all hu (k ∷ ks) = behind_all (before k hu) ks

-- what a list of values holds
abbrev pub values_in : List values.Value → Values
values_in [] = no_values
values_in (v ∷ vs) = value_and (value_of v) (values_in vs)

-- .. of clauses of values
abbrev pub value_clauses_in : List value_clauses.ValueClause → ValueClauses
value_clauses_in [] = no_clauses
value_clauses_in (c ∷ cs) = value_clause_and c (value_clauses_in cs)

-- .. of statements
abbrev pub statements_in : List statements.Statement → Statements
statements_in [] = no_statements
statements_in (s ∷ q) = statement_and (statement_of s) (statements_in q)

-- .. of clauses of statements
abbrev pub clauses_in : List clauses.Clause → Clauses
clauses_in [] = no_cases
clauses_in (c ∷ cs) = case_and_of c (clauses_in cs)
