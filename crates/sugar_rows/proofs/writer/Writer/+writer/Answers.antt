use Rattle.std.proofs.Common.{arith, rules, ◌≡◌, ◌≢◌, ◌∙◌, ◌+◌, sym, ap, subst, ℕ, List, length, take}
use Rattle.kernel_syntax.specs.declared.stmt.Stmt.{Stmt}
use Rattle.kernel_syntax.specs.declared.stmt.Stmt.TheVariants as stmt
use Rattle.kernel_syntax.specs.declared.sugar.Clause.{the_lemmas}
use Rattle.kernel_syntax.specs.Sugar as sugar
use Rattle.kernel_syntax.specs.Sugar.{Value as Tree, Clauses, pair_of, new_in}
use Rattle.sugar_rows.specs.Writing.{State, with_cases, write, write_fields}
use Rattle.kernel_syntax.specs.SugarView.{value_of, two_in, behind_all, fields_in, parts_in, values_in, value_clauses_in, statement_of, statements_in, clauses_in, case_and_of}
use Rattle.kernel_syntax.proofs.SugarItems.{record_of, pair_is, apply_of, proc_of, value_case_of, acts_of, local_of, thread_of, if_of, case_of, try_of, finally_of, branch_of}
use Rattle.oz_grammar.specs.Table.{bar_label}
use Rattle.sugar_rows.specs.Put.{slot_places}
use Rattle.sugar_rows.proofs.Lists.{write_some}
use Rattle.sugar_rows.proofs.CountLemmas.{some_cases, no_clauses}
use Rattle.sugar_rows.proofs.Declaring.{sequence_law}
use Rattle.sugar_rows.proofs.writer.Writer.+writer.Goals as goal

pub put-returns-in-Record-clause-rows : goal.put-returns-in-Record-clause-rows
put-returns-in-Record-clause-rows t c =
    let e : value_of c.args.value.now ≡ sugar.Record c.in-Record.field-0 c.in-Record.label c.in-Record.slots (values_in c.in-Record.values.items) = ap value_of c.in-Record.is ∙ record_of _ _ _ _ in
    search (rules, e)

pub put-returns-in-Apply-clause-rows : goal.put-returns-in-Apply-clause-rows
put-returns-in-Apply-clause-rows t c =
    let e : value_of c.args.value.now ≡ sugar.Apply c.in-Apply.field-0 c.in-Apply.by (values_in c.in-Apply.parts.items) = ap value_of c.in-Apply.is ∙ apply_of _ _ _ in
    search (rules, e)

pub put-returns-in-Proc-clause-rows : goal.put-returns-in-Proc-clause-rows
put-returns-in-Proc-clause-rows t c =
    let e : value_of c.args.value.now ≡ sugar.Proc c.in-Proc.field-0 c.in-Proc.count (statements_in c.in-Proc.body.items) = ap value_of c.in-Proc.is ∙ proc_of _ _ _ in
    search (rules, e)

pub put-returns-in_ok-put-in-Case-clause-rows : goal.put-returns-in_ok-put-in-Case-clause-rows
put-returns-in_ok-put-in-Case-clause-rows t c =
    let e : value_of c.args.value.now ≡ sugar.Case c.in-Case.field-0 (value_of c.in-Case.subject.value) (value_clauses_in c.in-Case.clauses.items) (value_of c.in-Case.no.value) = ap value_of c.in-Case.is ∙ value_case_of c.in-Case.field-0 c.in-Case.subject c.in-Case.clauses c.in-Case.no in
    search (rules, e)

pub statement-returns-in-Apply-clause-rows : goal.statement-returns-in-Apply-clause-rows
statement-returns-in-Apply-clause-rows t c =
    let e : statement_of c.args.statement.now ≡ sugar.Acts c.in-Apply.field-0 c.in-Apply.action (values_in c.in-Apply.parts.items) = ap statement_of c.in-Apply.is ∙ acts_of _ _ _ in
    search (rules, e)

pub statement-returns-in-Local-clause-rows : goal.statement-returns-in-Local-clause-rows
statement-returns-in-Local-clause-rows t c =
    let e : statement_of c.args.statement.now ≡ sugar.Local c.in-Local.field-0 c.in-Local.count (statements_in c.in-Local.body.items) = ap statement_of c.in-Local.is ∙ local_of _ _ _ in
    search (rules, e)

pub statement-returns-in-Thread-clause-rows : goal.statement-returns-in-Thread-clause-rows
statement-returns-in-Thread-clause-rows t c =
    let e : statement_of c.args.statement.now ≡ sugar.Thread c.in-Thread.field-0 c.in-Thread.at (statements_in c.in-Thread.body.items) = ap statement_of c.in-Thread.is ∙ thread_of _ _ _ in
    search (rules, e)

pub statement-returns-in_ok-statements-in-If-clause-rows : goal.statement-returns-in_ok-statements-in-If-clause-rows
statement-returns-in_ok-statements-in-If-clause-rows t c =
    let e : statement_of c.args.statement.now ≡ sugar.IfStatement c.in-If.field-0 (value_of c.in-If.subject) (statements_in c.in-If.yes.items) (statements_in c.in-If.no.items) = ap statement_of c.in-If.is ∙ if_of _ _ _ _ in
    search (rules, e)

pub statement-returns-in_ok-put_tried-in-Try-clause-rows : goal.statement-returns-in_ok-put_tried-in-Try-clause-rows
statement-returns-in_ok-put_tried-in-Try-clause-rows t c =
    let e : statement_of c.args.statement.now ≡ sugar.Try c.in-Try.field-0 (statements_in c.in-Try.body.items) (statements_in c.in-Try.handler.items) = ap statement_of c.in-Try.is ∙ try_of _ _ _ in
    search (rules, e)

pub statements-returns-in-len2-up-clause-rows : goal.statements-returns-in-len2-up-clause-rows
statements-returns-in-len2-up-clause-rows t c =
    let e = sequence_law c.args.statements.now c.args.self.now.places c.args.self.now.around c.args.self.now.rows c.in-len2-up.len_at_least in
    search (rules, e)

pub statement-returns-in_ok-put_tried-in-Finally-clause-rows : goal.statement-returns-in_ok-put_tried-in-Finally-clause-rows
statement-returns-in_ok-put_tried-in-Finally-clause-rows t c =
    let e : statement_of c.args.statement.now ≡ sugar.Finally c.in-Finally.field-0 (statements_in c.in-Finally.body.items) (statements_in c.in-Finally.last.items) = ap statement_of c.in-Finally.is ∙ finally_of _ _ _ in
    search (rules, e)

pub statement-returns-in_ok-statements-in-Case-clause-rows : goal.statement-returns-in_ok-statements-in-Case-clause-rows
statement-returns-in_ok-statements-in-Case-clause-rows t c =
    let e : statement_of c.args.statement.now ≡ sugar.CaseStatement c.in-Case.field-0 (value_of c.in-Case.subject) (clauses_in c.in-Case.clauses.items) (statements_in c.in-Case.no.items) = ap statement_of c.in-Case.is ∙ case_of _ _ _ _ in
    let some : length c.in-Case.clauses.items ≢ 0 = search rules in
    let w : (a b : List Stmt) → with_cases (clauses_in c.in-Case.clauses.items) a b ≡ b = λ a b. some_cases c.in-Case.clauses.items a b some in
    search (rules, e, w)

pub statement-returns-then-is_empty-clause-rows : goal.statement-returns-then-is_empty-clause-rows
statement-returns-then-is_empty-clause-rows t c =
    let e : statement_of c.args.statement.now ≡ sugar.CaseStatement c.in-Case.field-0 (value_of c.in-Case.subject) (clauses_in c.in-Case.clauses.items) (statements_in c.in-Case.no.items) = ap statement_of c.in-Case.is ∙ case_of _ _ _ _ in
    let none : length c.in-Case.clauses.items ≡ 0 = search rules in
    let w : (a b : List Stmt) → with_cases (clauses_in c.in-Case.clauses.items) a b ≡ a = λ a b. no_clauses c.in-Case.clauses.items a b none in
    search (rules, e, w)

pub put_case-returns-clause-rows : goal.put_case-returns-clause-rows
put_case-returns-clause-rows t c =
    let f : c.as_slice.result.now ≡ c.body-1.given.0.1.0.items = simp the_lemmas at (rw c.body-1.given.1 at c.as_slice.ensures.value) in
    let h = simp the_lemmas at (rw c.body-1.given.1 at c.branch-self.ensures.rows) in
    let e : (cs : Clauses) → case_and_of c.args.clause.now cs ≡ sugar.case_and c.body-1.given.0.0 (statements_in c.body-1.given.0.1.0.items) cs = λ cs. ap (λ k. case_and_of k cs) c.body-1.given.1 ∙ branch_of c.body-1.given.0.0 c.body-1.given.0.1.0 cs in
    search (rules, e, f, h)

pub put-returns-in_ok-put_pair-in-Pair-clause-rows : goal.put-returns-in_ok-put_pair-in-Pair-clause-rows
put-returns-in_ok-put_pair-in-Pair-clause-rows t c =
    let hu : Tree × Tree = two_in c.in-Pair.last.value in
    let old : State = c.args.self.now in
    let inner : State = c.put_heads.new.self in
    let e : value_of c.args.value.now ≡ pair_of c.in-Pair.field-0 (behind_all hu c.in-Pair.heads.items) = ap value_of c.in-Pair.is ∙ pair_is c.in-Pair.field-0 c.in-Pair.last c.in-Pair.heads in
    let p : c.deref.result.now ≡ c.in-Pair.last.value = search (rules, c.deref.ensures) in
    let places : inner.places ≡ old.places = c.in_ok-rest-in-Pair.ensures.same in
    let around : c.put_pair.new.self.places ≡ old.places = ap (λ (s : State). s.places) c.in_ok-put_pair-in-Pair.ensures.rows ∙ places in
    let rows : c.put_pair.new.self.rows ≡ write (value_of c.args.value.now) old.places old.around c.args.told old.rows =
    ap (λ (s : State). s.rows) c.in_ok-put_pair-in-Pair.ensures.rows
    ∙ ap (λ q. write (pair_of 0 (two_in q)) inner.places inner.around c.in_ok-rest-in-Pair.rest inner.rows) p
    ∙ ap (λ (ps : List ℕ). write (pair_of 0 hu) ps inner.around c.in_ok-rest-in-Pair.rest inner.rows) places
    ∙ sym (c.in_ok-rest-in-Pair.ensures.rows hu)
    ∙ ap (λ is. write (pair_of 0 (behind_all hu is)) old.places old.around c.args.told old.rows) c.as_slice-in-Pair.ensures.value
    ∙ sym (ap (λ v. write v old.places old.around c.args.told old.rows) e) in
    search (rules, rows, around)

pub put_heads-returns-clause-rows : goal.put_heads-returns-clause-rows
put_heads-returns-clause-rows t c = λ hu.
    let none : c.loop-others.others ≡ 0 = omega (arith, c.loop-others-test.false) in
    subst (λ (n : ℕ). write (pair_of 0 (behind_all hu c.args.heads.now)) c.args.self.now.places c.args.self.now.around c.args.told c.args.self.now.rows ≡ write (pair_of 0 (behind_all hu (take n c.args.heads.now))) c.args.self.now.places c.loop-others.self.around c.loop-others.rest c.loop-others.self.rows)
    none (c.loop-others.invariant.write hu)

pub put_pair-returns-clause-rows : goal.put_pair-returns-clause-rows
put_pair-returns-clause-rows t c =
    let some : new_in (parts_in c.args.pair.now) ≢ 0 = search rules in
    let w = write_some (new_in (parts_in c.args.pair.now)) c.args.self.now.around (stmt.TellRec c.args.told bar_label (slot_places c.args.self.now.places c.args.self.now.around (fields_in c.args.pair.now)))
    (write_fields (parts_in c.args.pair.now) c.args.self.now.places (c.args.self.now.around + new_in (parts_in c.args.pair.now)) c.args.self.now.around) c.args.self.now.rows some in
    search (rules, w)
