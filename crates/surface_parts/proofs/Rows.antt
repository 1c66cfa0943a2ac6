-- Rows of values, statements and clauses with one more at the end.
use Rattle.std.proofs.Common.{◌≡◌, List, [], ◌∷◌, ◌++◌, refl, ap}
use Rattle.std.specs.Global.{Vec}
use Rattle.kernel_syntax.specs.declared.stmt.Pattern.{Pattern}
use Rattle.kernel_syntax.specs.declared.sugar.Value as values
use Rattle.kernel_syntax.specs.declared.sugar.ValueClause as value_clauses
use Rattle.kernel_syntax.specs.declared.sugar.Statement as statements
use Rattle.kernel_syntax.specs.declared.sugar.Clause as clauses
use Rattle.kernel_syntax.specs.Sugar.{no_cases, value_and, statement_and, clause_and, case_and}
use Rattle.kernel_syntax.specs.SugarView.{value_of, values_in, value_clauses_in, statement_of, statements_in, statements_of, clauses_in}
use Rattle.kernel_syntax.proofs.SugarItems.{branch_of}
use Rattle.surface_grammar.specs.Trees.{with_last}
use Rattle.surface_grammar.specs.Reading.{with_statement, with_value_clause, with_clause}

pub value_pushed : (vs : List values.Value) (v : values.Value) → values_in (vs ++ v ∷ []) ≡ with_last (values_in vs) (value_of v)
value_pushed [] v = refl
value_pushed (u ∷ vs) v = ap (value_and (value_of u)) (value_pushed vs v)

pub statement_pushed : (q : List statements.Statement) (s : statements.Statement) → statements_in (q ++ s ∷ []) ≡ with_statement (statements_in q) (statement_of s)
statement_pushed [] s = refl
statement_pushed (r ∷ q) s = ap (statement_and (statement_of r)) (statement_pushed q s)

pub value_clause_pushed : (cs : List value_clauses.ValueClause) (p : Pattern) (v : values.Value) → value_clauses_in (cs ++ value_clauses.Then p v ∷ []) ≡ with_value_clause (value_clauses_in cs) p (value_of v)
value_clause_pushed [] p v = refl
value_clause_pushed (value_clauses.Then q u ∷ cs) p v = ap (clause_and q (value_of u)) (value_clause_pushed cs p v)

pub clause_pushed : (cs : List clauses.Clause) (p : Pattern) (q : Vec statements.Statement) → clauses_in (cs ++ clauses.Then p q ∷ []) ≡ with_clause (clauses_in cs) p (statements_in q.items)
clause_pushed [] p q = branch_of p q no_cases
clause_pushed (clauses.Then' o l r ∷ cs) p q = ap (case_and o (statements_of r)) (clause_pushed cs p q)
