use Rattle.std.proofs.Common.{arith, rules, ◌≡◌, ◌∙◌, ◌+◌, ap, sym, subst, ℕ, take, Some, Ok, Err}
use Rattle.kernel_syntax.specs.declared.sugar.Clause.{the_lemmas}
use Rattle.kernel_syntax.specs.Sugar as sugar
use Rattle.kernel_syntax.specs.Sugar.{Value as Tree, pair_of}
use Rattle.kernel_syntax.specs.SugarView.{value_of, two_in, behind_all, values_in, value_clauses_in, statement_of, statements_in, clauses_in, case_and_of}
use Rattle.oz_sugar.specs.Deep.{or_else, deep_value, deep_list, deep_behind, deep_statements, deep_cases}
use Rattle.kernel_syntax.proofs.SugarItems.{record_of, pair_is, apply_of, proc_of, value_case_of, value_clauses, acts_of, local_of, thread_of, if_of, case_of, try_of, finally_of, clauses, branch_of}
use Rattle.oz_sugar.proofs.Lists.{both_deep, heads_deep}
use Rattle.oz_sugar.proofs.depth.+deep.Goals as goal

pub deep_value-returns-in-Record : goal.deep_value-returns-in-Record
deep_value-returns-in-Record t c =
    let e : value_of c.args.value.now ≡ sugar.Record c.in-Record.field-0 c.in-Record.field-1 c.in-Record.field-2 (values_in c.in-Record.values.items) = ap value_of c.in-Record.is ∙ record_of _ _ _ _ in
    search (rules, e)

pub deep_value-returns-in-Apply : goal.deep_value-returns-in-Apply
deep_value-returns-in-Apply t c =
    let e : value_of c.args.value.now ≡ sugar.Apply c.in-Apply.field-0 c.in-Apply.field-1 (values_in c.in-Apply.values.items) = ap value_of c.in-Apply.is ∙ apply_of _ _ _ in
    search (rules, e)

pub deep_value-returns-in-Proc : goal.deep_value-returns-in-Proc
deep_value-returns-in-Proc t c =
    let e : value_of c.args.value.now ≡ sugar.Proc c.in-Proc.field-0 c.in-Proc.field-1 (statements_in c.in-Proc.body.items) = ap value_of c.in-Proc.is ∙ proc_of _ _ _ in
    search (rules, e)

pub deep_value-returns-then-own-saturating_sub-gt200 : goal.deep_value-returns-then-own-saturating_sub-gt200
deep_value-returns-then-own-saturating_sub-gt200 t c =
    let e : value_of c.args.value.now ≡ sugar.Case c.in-Case.field-0 (value_of c.in-Case.subject.value) (value_clauses_in c.in-Case.clauses.items) (value_of c.in-Case.no.value) = ap value_of c.in-Case.is ∙ value_case_of c.in-Case.field-0 c.in-Case.subject c.in-Case.clauses c.in-Case.no in
    search (rules, e, value_clauses c.in-Case.clauses.items)

pub deep_value-returns-else-own-saturating_sub-gt200 : goal.deep_value-returns-else-own-saturating_sub-gt200
deep_value-returns-else-own-saturating_sub-gt200 t c =
    let e : value_of c.args.value.now ≡ sugar.Case c.in-Case.field-0 (value_of c.in-Case.subject.value) (value_clauses_in c.in-Case.clauses.items) (value_of c.in-Case.no.value) = ap value_of c.in-Case.is ∙ value_case_of c.in-Case.field-0 c.in-Case.subject c.in-Case.clauses c.in-Case.no in
    search (rules, e, value_clauses c.in-Case.clauses.items)

pub deep_statement-returns-in-Apply : goal.deep_statement-returns-in-Apply
deep_statement-returns-in-Apply t c =
    let e : statement_of c.args.statement.now ≡ sugar.Acts c.in-Apply.left c.in-Apply.field-1 (values_in c.in-Apply.values.items) = ap statement_of c.in-Apply.is ∙ acts_of _ _ _ in
    search (rules, e)

pub deep_statement-returns-in-Local : goal.deep_statement-returns-in-Local
deep_statement-returns-in-Local t c =
    let e : statement_of c.args.statement.now ≡ sugar.Local c.in-Local.left c.in-Local.field-1 (statements_in c.in-Local.body.items) = ap statement_of c.in-Local.is ∙ local_of _ _ _ in
    search (rules, e)

pub deep_statement-returns-in-Thread : goal.deep_statement-returns-in-Thread
deep_statement-returns-in-Thread t c =
    let e : statement_of c.args.statement.now ≡ sugar.Thread c.in-Thread.left c.in-Thread.field-1 (statements_in c.in-Thread.body.items) = ap statement_of c.in-Thread.is ∙ thread_of _ _ _ in
    search (rules, e)

pub deep_statement-returns-else-own-gt200 : goal.deep_statement-returns-else-own-gt200
deep_statement-returns-else-own-gt200 t c =
    let e : statement_of c.args.statement.now ≡ sugar.IfStatement c.in-If.left (value_of c.in-If.subject) (statements_in c.in-If.yes.items) (statements_in c.in-If.no.items) = ap statement_of c.in-If.is ∙ if_of _ _ _ _ in
    search (rules, e)

pub deep_statement-returns-then-own-saturating_sub-gt200 : goal.deep_statement-returns-then-own-saturating_sub-gt200
deep_statement-returns-then-own-saturating_sub-gt200 t c =
    let e : statement_of c.args.statement.now ≡ sugar.CaseStatement c.in-Case.left (value_of c.in-Case.subject) (clauses_in c.in-Case.clauses.items) (statements_in c.in-Case.no.items) = ap statement_of c.in-Case.is ∙ case_of _ _ _ _ in
    search (rules, e, clauses c.in-Case.clauses.items)

pub deep_statement-returns-else-own-saturating_sub-gt200 : goal.deep_statement-returns-else-own-saturating_sub-gt200
deep_statement-returns-else-own-saturating_sub-gt200 t c =
    let e : statement_of c.args.statement.now ≡ sugar.CaseStatement c.in-Case.left (value_of c.in-Case.subject) (clauses_in c.in-Case.clauses.items) (statements_in c.in-Case.no.items) = ap statement_of c.in-Case.is ∙ case_of _ _ _ _ in
    search (rules, e, clauses c.in-Case.clauses.items)

pub deep_statement-returns-in-Try : goal.deep_statement-returns-in-Try
deep_statement-returns-in-Try t c =
    let e : statement_of c.args.statement.now ≡ sugar.Try c.in-Try.left (statements_in c.in-Try.body.items) (statements_in c.in-Try.handler.items) = ap statement_of c.in-Try.is ∙ try_of _ _ _ in
    let both = both_deep c.args.depth c.in-Try.left (deep_statements (statements_in c.in-Try.body.items) (c.args.depth + 1)) (deep_statements (statements_in c.in-Try.handler.items) (c.args.depth + 1)) in
    search (rules, e, both)

pub deep_statement-returns-in-Finally : goal.deep_statement-returns-in-Finally
deep_statement-returns-in-Finally t c =
    let e : statement_of c.args.statement.now ≡ sugar.Finally c.in-Finally.left (statements_in c.in-Finally.body.items) (statements_in c.in-Finally.last.items) = ap statement_of c.in-Finally.is ∙ finally_of _ _ _ in
    let both = both_deep (c.args.depth + 2) c.in-Finally.left (deep_statements (statements_in c.in-Finally.body.items) (c.args.depth + 2)) (deep_statements (statements_in c.in-Finally.last.items) (c.args.depth + 2)) in
    search (rules, e, both)

pub deep_clause-returns : goal.deep_clause-returns
deep_clause-returns t c = λ cs.
    let e : case_and_of c.args.clause.now cs ≡ sugar.case_and c.body-1.given.0.0 (statements_in c.body-1.given.0.1.0.items) cs = ap (λ k. case_and_of k cs) c.body-1.given.1 ∙ branch_of c.body-1.given.0.0 c.body-1.given.0.1.0 cs in
    let f : c.as_slice.result.now ≡ c.body-1.given.0.1.0.items = simp the_lemmas at (rw c.body-1.given.1 at c.as_slice.ensures.value) in
    let r : c.deep_statements.result ≡ deep_statements (statements_in c.body-1.given.0.1.0.items) c.args.depth = c.deep_statements.ensures ∙ ap (λ is. deep_statements (statements_in is) c.args.depth) f in
    ap (λ k. deep_cases k c.args.depth) e ∙ ap (λ o. or_else o (deep_cases cs (c.args.depth + 1))) (sym r)

pub deep_value-returns-in-Err : goal.deep_value-returns-in-Err
deep_value-returns-in-Err t c =
    let hu : Tree × Tree = two_in c.in-Pair.last.value in
    let e : value_of c.args.value.now ≡ pair_of c.in-Pair.field-0 (behind_all hu c.in-Pair.heads.items) = ap value_of c.in-Pair.is ∙ pair_is c.in-Pair.field-0 c.in-Pair.last c.in-Pair.heads in
    let h : deep_list (behind_all hu c.as_slice-in-Pair.result.now) c.args.left c.args.depth ≡ Some c.in-Err.first = c.deep_heads.ensures.value hu ∙ ap (λ r. deep_behind r hu) c.in-Err.is in
    sym h
    ∙ ap (λ is. deep_list (behind_all hu is) c.args.left c.args.depth) c.as_slice-in-Pair.ensures.value
    ∙ sym (ap (λ v. deep_value v c.args.left c.args.depth) e)

pub deep_value-returns-in-Ok : goal.deep_value-returns-in-Ok
deep_value-returns-in-Ok t c =
    let hu : Tree × Tree = two_in c.in-Pair.last.value in
    let e : value_of c.args.value.now ≡ pair_of c.in-Pair.field-0 (behind_all hu c.in-Pair.heads.items) = ap value_of c.in-Pair.is ∙ pair_is c.in-Pair.field-0 c.in-Pair.last c.in-Pair.heads in
    let h : deep_list (behind_all hu c.as_slice-in-Pair.result.now) c.args.left c.args.depth ≡ deep_list hu c.in-Ok.place c.in-Ok.inside = c.deep_heads.ensures.value hu ∙ ap (λ r. deep_behind r hu) c.in-Ok.is in
    let p : c.deref.result.now ≡ c.in-Pair.last.value = search (rules, c.deref.ensures) in
    c.deep_pair.ensures
    ∙ ap (λ q. deep_list (two_in q) c.in-Ok.place c.in-Ok.inside) p
    ∙ sym h
    ∙ ap (λ is. deep_list (behind_all hu is) c.args.left c.args.depth) c.as_slice-in-Pair.ensures.value
    ∙ sym (ap (λ v. deep_value v c.args.left c.args.depth) e)

pub deep_heads-returns-in-Err-clause-value : goal.deep_heads-returns-in-Err-clause-value
deep_heads-returns-in-Err-clause-value t c = λ hu.
    sym (c.loop-others.invariant.value hu)
    ∙ heads_deep c.args.heads.now c.loop-others.others c.index-heads-others.result c.loop-others.place c.loop-others.inside (Err c.in-Err.first) c.loop-others-test.true c.loop-others.invariant.few c.index-heads-others.is
    (sym c.in-Err.is ∙ c.deep_link.ensures.value) hu

pub deep_heads-loop-others-preserved : goal.deep_heads-loop-others-preserved
deep_heads-loop-others-preserved t c = record {
  value = λ hu.
      sym (heads_deep c.args.heads.now c.loop-others.others c.index-heads-others.result c.loop-others.place c.loop-others.inside (Ok c.in-Ok.behind) c.loop-others-test.true c.loop-others.invariant.few c.index-heads-others.is
      (sym c.in-Ok.is ∙ c.deep_link.ensures.value) hu)
      ∙ c.loop-others.invariant.value hu;
  few = omega (arith, c.loop-others.invariant.few);
  room = c.in-Ok.ensures.depth;
}

pub deep_heads-returns-clause-value : goal.deep_heads-returns-clause-value
deep_heads-returns-clause-value t c = λ hu.
    let none : c.loop-others.others ≡ 0 = omega (arith, c.loop-others-test.false) in
    sym (subst (λ (n : ℕ). deep_list (behind_all hu (take n c.args.heads.now)) c.loop-others.place c.loop-others.inside ≡ deep_list (behind_all hu c.args.heads.now) c.args.left c.args.depth) none (c.loop-others.invariant.value hu))
