-- What trees of programs with sugar hold whose children stand in vectors.
use Rattle.std.proofs.Common.{◌≡◌, ◌∙◌, suc, ℕ, List, [], ◌∷◌, ◌++◌, Option, length, refl, ap}
use Rattle.std.specs.Prelude.{ℤ}
use Rattle.std.specs.Global.{Vec, Box}
use Rattle.tree_node.specs.declared.node.Feature.{Feature}
use Rattle.kernel_syntax.specs.declared.stmt.Pattern.{Pattern}
use Rattle.kernel_syntax.specs.declared.sugar.Action.{Action}
use Rattle.kernel_syntax.specs.declared.sugar.Field.{Field}
use Rattle.kernel_syntax.specs.declared.sugar.Operation.{Operation}
use Rattle.kernel_syntax.specs.declared.sugar.ValueClause.{ValueClause}
use Rattle.kernel_syntax.specs.declared.sugar.ValueClause as value_clause
use Rattle.kernel_syntax.specs.declared.sugar.Clause.{Clause}
use Rattle.kernel_syntax.specs.declared.sugar.Clause as clause
use Rattle.kernel_syntax.specs.declared.sugar.Pair.{Pair}
use Rattle.kernel_syntax.specs.declared.sugar.Link.{Link}
use Rattle.kernel_syntax.specs.declared.sugar.Value as values
use Rattle.kernel_syntax.specs.declared.sugar.Statement as statements
use Rattle.kernel_syntax.specs.Sugar as sugar
use Rattle.kernel_syntax.specs.Sugar.{ValueClauses, Statements, Clauses, value_and, statement_and, count_values, count_value_clauses, count_clauses}
use Rattle.kernel_syntax.specs.SugarView.{value_of, statement_of, values_of, statements_of, value_clauses_of, clauses_of, values_in, statements_in, value_clauses_in, value_clause_and, clauses_in, case_and_of, two_in, behind, before, behind_all}

-- ---- rows of children as lists

pub row_values : (m : _) (vs : values.Row_of-Value m) → values_of vs ≡ values_in (values.items-the_row-Value m vs)
row_values m values.end_of-Value = refl
row_values m (values.more_of-Value v vs) = ap (value_and (value_of v)) (row_values _ vs)

pub row_statements : (m : _) (q : statements.Row_of-Statement m) → statements_of q ≡ statements_in (statements.items-the_row-Statement m q)
row_statements m statements.end_of-Statement = refl
row_statements m (statements.more_of-Statement s q) = ap (statement_and (statement_of s)) (row_statements _ q)

pub row_value_clauses : (m : _) (cs : values.Row_of-ValueClause m) → value_clauses_of cs ≡ value_clauses_in (values.items-the_row-ValueClause m cs)
row_value_clauses m values.end_of-ValueClause = refl
row_value_clauses m (values.more_of-ValueClause c cs) = ap (value_clause_and c) (row_value_clauses _ cs)

pub row_links : (m : _) (ks : values.Row_of-Link m) (hu : sugar.Value × sugar.Value) → behind hu ks ≡ behind_all hu (values.items-the_row-Link m ks)
row_links m values.end_of-Link hu = refl
row_links m (values.more_of-Link k ks) hu = row_links _ ks (before k hu)

pub row_clauses : (m : _) (cs : statements.Row_of-Clause m) → clauses_of cs ≡ clauses_in (statements.items-the_row-Clause m cs)
row_clauses m statements.end_of-Clause = refl
row_clauses m (statements.more_of-Clause c cs) = ap (case_and_of c) (row_clauses _ cs)

-- ---- lists as long as the slices that hold them

pub value_count : (vs : List values.Value) → count_values (values_in vs) ≡ length vs
value_count [] = refl
value_count (v ∷ vs) = ap suc (value_count vs)

counts_value : (c : ValueClause) (cs : ValueClauses) → count_value_clauses (value_clause_and c cs) ≡ suc (count_value_clauses cs)
counts_value (value_clause.Then p v) cs = refl

pub value_clauses : (cs : List ValueClause) → count_value_clauses (value_clauses_in cs) ≡ length cs
value_clauses [] = refl
value_clauses (c ∷ cs) = rw (counts_value c (value_clauses_in cs)) (ap suc (value_clauses cs))

counts_clause : (c : Clause) (cs : Clauses) → count_clauses (case_and_of c cs) ≡ suc (count_clauses cs)
counts_clause (clause.Then' p l q) cs = refl

pub clauses : (cs : List Clause) → count_clauses (clauses_in cs) ≡ length cs
clauses [] = refl
clauses (c ∷ cs) = rw (counts_clause c (clauses_in cs)) (ap suc (clauses cs))

-- ---- one layer of a tree

-- one layer, with the children of vectors as lists
value_view : values.Value → sugar.Value
value_view (values.Record' left label slots m vs) = sugar.Record left label slots (values_in (values.items-the_row-Value _ vs))
value_view (values.Apply' left operation m vs) = sugar.Apply left operation (values_in (values.items-the_row-Value _ vs))
value_view (values.Proc' left count m q) = sugar.Proc left count (statements_in (statements.items-the_row-Statement _ q))
value_view (values.Case' left p e m cs r b) = sugar.Case left (value_of e) (value_clauses_in (values.items-the_row-ValueClause _ cs)) (value_of b)
value_view (values.Pair' left p hu m ks) = sugar.pair_of left (behind_all (two_in hu) (values.items-the_row-Link _ ks))
value_view v = value_of v

value_is : (v : values.Value) → value_of v ≡ value_view v
unfolding value_view
value_is (values.Record' left label slots m vs) = ap (sugar.Record left label slots) (row_values _ vs)
value_is (values.Apply' left operation m vs) = ap (sugar.Apply left operation) (row_values _ vs)
value_is (values.Proc' left count m q) = ap (sugar.Proc left count) (row_statements _ q)
value_is (values.Case' left p e m cs r b) = ap (λ (x : ValueClauses). sugar.Case left (value_of e) x (value_of b)) (row_value_clauses _ cs)
value_is (values.Pair' left p hu m ks) = ap (sugar.pair_of left) (row_links _ ks (two_in hu))
value_is v = refl

statement_view : statements.Statement → sugar.Statement
statement_view (statements.Apply' left action m vs) = sugar.Acts left action (values_in (values.items-the_row-Value _ vs))
statement_view (statements.Local' left count m q) = sugar.Local left count (statements_in (statements.items-the_row-Statement _ q))
statement_view (statements.Thread' left at m q) = sugar.Thread left at (statements_in (statements.items-the_row-Statement _ q))
statement_view (statements.If' left e m q l r) = sugar.IfStatement left (value_of e) (statements_in (statements.items-the_row-Statement _ q)) (statements_in (statements.items-the_row-Statement _ r))
statement_view (statements.Case' left e m cs l r) = sugar.CaseStatement left (value_of e) (clauses_in (statements.items-the_row-Clause _ cs)) (statements_in (statements.items-the_row-Statement _ r))
statement_view (statements.Try' left m q l r) = sugar.Try left (statements_in (statements.items-the_row-Statement _ q)) (statements_in (statements.items-the_row-Statement _ r))
statement_view (statements.Finally' left m q l r) = sugar.Finally left (statements_in (statements.items-the_row-Statement _ q)) (statements_in (statements.items-the_row-Statement _ r))
statement_view s = statement_of s

statement_is : (s : statements.Statement) → statement_of s ≡ statement_view s
unfolding statement_view
statement_is (statements.Apply' left action m vs) = ap (sugar.Acts left action) (row_values _ vs)
statement_is (statements.Local' left count m q) = ap (sugar.Local left count) (row_statements _ q)
statement_is (statements.Thread' left at m q) = ap (sugar.Thread left at) (row_statements _ q)
statement_is (statements.If' left e m q l r) = rw (row_statements _ q, row_statements _ r) refl
statement_is (statements.Case' left e m cs l r) = rw (row_clauses _ cs, row_statements _ r) refl
statement_is (statements.Try' left m q l r) = rw (row_statements _ q, row_statements _ r) refl
statement_is (statements.Finally' left m q l r) = rw (row_statements _ q, row_statements _ r) refl
statement_is s = refl

both_same : {A B C : Type 0} (f : A → B → C) {a b : A} {c d : B} → a ≡ b → c ≡ d → f a c ≡ f b d
both_same f e g = rw (e, g) refl

pub clause_view : Clause → Clauses → Clauses
clause_view (clause.Then' p m q) cs = sugar.case_and p (statements_in (statements.items-the_row-Statement _ q)) cs

pub clause_is : (c : Clause) (cs : Clauses) → case_and_of c cs ≡ clause_view c cs
unfolding clause_view
clause_is (clause.Then' p m q) cs = ap (λ (x : Statements). sugar.case_and p x cs) (row_statements _ q)

pub record_of : (left : ℕ) (label : List ℕ) (slots : List (Feature × Field)) (vs : Vec values.Value) → value_of (values.Record left label slots vs) ≡ sugar.Record left label slots (values_in vs.items)
unfolding value_view
record_of left label slots vs = value_is (values.Record left label slots vs) ∙ ap (λ (is : List values.Value). sugar.Record left label slots (values_in is)) (values.items_hidden-the_row-Value-1 vs)

pub pair_is : (left : ℕ) (p : Box Pair) (ks : Vec Link) → value_of (values.Pair left p ks) ≡ sugar.pair_of left (behind_all (two_in p.value) ks.items)
unfolding value_view
pair_is left p ks = value_is (values.Pair left p ks) ∙ ap (λ (is : List Link). sugar.pair_of left (behind_all (two_in p.value) is)) (values.items_hidden-the_row-Link-3 ks)

-- one head more before others
pub behind_more : (hu : sugar.Value × sugar.Value) (ks : List Link) (k : Link) → behind_all hu (ks ++ k ∷ []) ≡ before k (behind_all hu ks)
behind_more hu [] k = refl
behind_more hu (x ∷ ks) k = behind_more (before x hu) ks k

pub apply_of : (left : ℕ) (operation : Operation) (vs : Vec values.Value) → value_of (values.Apply left operation vs) ≡ sugar.Apply left operation (values_in vs.items)
unfolding value_view
apply_of left operation vs = value_is (values.Apply left operation vs) ∙ ap (λ (is : List values.Value). sugar.Apply left operation (values_in is)) (values.items_hidden-the_row-Value-1 vs)

pub proc_of : (left count : ℕ) (q : Vec statements.Statement) → value_of (values.Proc left count q) ≡ sugar.Proc left count (statements_in q.items)
unfolding value_view
proc_of left count q = value_is (values.Proc left count q) ∙ ap (λ (is : List statements.Statement). sugar.Proc left count (statements_in is)) (statements.items_hidden-the_row-Statement-0 q)

pub value_case_of : (left : ℕ) (e : Box values.Value) (cs : Vec ValueClause) (b : Box values.Value) → value_of (values.Case left e cs b) ≡ sugar.Case left (value_of e.value) (value_clauses_in cs.items) (value_of b.value)
unfolding value_view
value_case_of left e cs b = value_is (values.Case left e cs b) ∙ ap (λ (is : List ValueClause). sugar.Case left (value_of e.value) (value_clauses_in is) (value_of b.value)) (values.items_hidden-the_row-ValueClause-4 cs)

pub acts_of : (left : ℕ) (action : Action) (vs : Vec values.Value) → statement_of (statements.Apply left action vs) ≡ sugar.Acts left action (values_in vs.items)
unfolding statement_view
acts_of left action vs = statement_is (statements.Apply left action vs) ∙ ap (λ (is : List values.Value). sugar.Acts left action (values_in is)) (values.items_hidden-the_row-Value-1 vs)

pub local_of : (left count : ℕ) (q : Vec statements.Statement) → statement_of (statements.Local left count q) ≡ sugar.Local left count (statements_in q.items)
unfolding statement_view
local_of left count q = statement_is (statements.Local left count q) ∙ ap (λ (is : List statements.Statement). sugar.Local left count (statements_in is)) (statements.items_hidden-the_row-Statement-0 q)

pub thread_of : (left : ℕ) (at : Option ℤ) (q : Vec statements.Statement) → statement_of (statements.Thread left at q) ≡ sugar.Thread left at (statements_in q.items)
unfolding statement_view
thread_of left at q = statement_is (statements.Thread left at q) ∙ ap (λ (is : List statements.Statement). sugar.Thread left at (statements_in is)) (statements.items_hidden-the_row-Statement-0 q)

pub if_of : (left : ℕ) (e : values.Value) (q r : Vec statements.Statement) → statement_of (statements.If left e q r) ≡ sugar.IfStatement left (value_of e) (statements_in q.items) (statements_in r.items)
unfolding statement_view
if_of left e q r =
    statement_is (statements.If left e q r)
    ∙ both_same (λ (x y : List statements.Statement). sugar.IfStatement left (value_of e) (statements_in x) (statements_in y)) (statements.items_hidden-the_row-Statement-0 q) (statements.items_hidden-the_row-Statement-0 r)

pub case_of : (left : ℕ) (e : values.Value) (cs : Vec Clause) (r : Vec statements.Statement) → statement_of (statements.Case left e cs r) ≡ sugar.CaseStatement left (value_of e) (clauses_in cs.items) (statements_in r.items)
unfolding statement_view
case_of left e cs r =
    statement_is (statements.Case left e cs r)
    ∙ both_same (λ (x : List Clause) (y : List statements.Statement). sugar.CaseStatement left (value_of e) (clauses_in x) (statements_in y)) (statements.items_hidden-the_row-Clause-2 cs) (statements.items_hidden-the_row-Statement-0 r)

pub try_of : (left : ℕ) (q r : Vec statements.Statement) → statement_of (statements.Try left q r) ≡ sugar.Try left (statements_in q.items) (statements_in r.items)
unfolding statement_view
try_of left q r =
    statement_is (statements.Try left q r)
    ∙ both_same (λ (x y : List statements.Statement). sugar.Try left (statements_in x) (statements_in y)) (statements.items_hidden-the_row-Statement-0 q) (statements.items_hidden-the_row-Statement-0 r)

pub finally_of : (left : ℕ) (q r : Vec statements.Statement) → statement_of (statements.Finally left q r) ≡ sugar.Finally left (statements_in q.items) (statements_in r.items)
unfolding statement_view
finally_of left q r =
    statement_is (statements.Finally left q r)
    ∙ both_same (λ (x y : List statements.Statement). sugar.Finally left (statements_in x) (statements_in y)) (statements.items_hidden-the_row-Statement-0 q) (statements.items_hidden-the_row-Statement-0 r)

pub branch_of : (p : Pattern) (q : Vec statements.Statement) (cs : Clauses) → case_and_of (clause.Then p q) cs ≡ sugar.case_and p (statements_in q.items) cs
unfolding clause_view
branch_of p q cs = clause_is (clause.Then p q) cs ∙ ap (λ (is : List statements.Statement). sugar.case_and p (statements_in is) cs) (statements.items_hidden-the_row-Statement-0 q)
