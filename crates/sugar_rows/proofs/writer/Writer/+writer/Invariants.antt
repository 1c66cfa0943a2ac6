use Rattle.std.proofs.Common.{◌≡◌, ◌+◌, ◌≤◌, [], List, ℕ, length, take, drop}
use Rattle.kernel_syntax.specs.declared.stmt.Stmt.{Stmt}
use Rattle.kernel_syntax.specs.declared.stmt.Stmt.TheVariants as stmt
use Rattle.kernel_syntax.specs.Sugar.{Value as Tree, new_in, pair_of}
use Rattle.kernel_syntax.specs.SugarView.{behind_all, values_in, value_clauses_in, statements_in, clauses_in}
use Rattle.sugar_rows.specs.Writing.{Numbered, add, write, write_all, write_fields, write_clauses, write_others, write_cases}
use Rattle.sugar_rows.proofs.writer.Writer.+writer.Given as goal

abbrev pub invariant-hold_all-loop-part : goal.invariant-hold_all-loop-part
invariant-hold_all-loop-part l = record {
  write : ◌≡◌ {A = List ℕ × List Stmt} (write_all (values_in (drop l.part-index l.parts)) l.self.places l.self.around l.positions.items l.self.rows) (write_all (values_in l.parts) l.fn.self.places l.fn.self.around [] l.fn.self.rows);
  around : l.self.around + new_in (values_in (drop l.part-index l.parts)) ≡ l.fn.self.around + new_in (values_in l.parts);
  places : l.self.places ≡ l.fn.self.places;
  grows : length l.fn.self.rows ≤ length l.self.rows;
}

abbrev pub invariant-put_clauses-loop-clause : goal.invariant-put_clauses-loop-clause
invariant-put_clauses-loop-clause l = record {
  write : write_clauses (value_clauses_in (drop l.clause-index l.clauses)) l.self.places l.self.around l.tested l.told l.self.rows ≡ write_clauses (value_clauses_in l.clauses) l.fn.self.places l.fn.self.around l.tested l.told l.fn.self.rows;
  around : l.self.around ≡ l.fn.self.around;
  places : l.self.places ≡ l.fn.self.places;
  grows : length l.fn.self.rows ≤ length l.self.rows;
}

abbrev pub invariant-sequence-loop-statement : goal.invariant-sequence-loop-statement
invariant-sequence-loop-statement l = record {
  write : ◌≡◌ {A = Numbered} (write_others (statements_in (drop l.statement-index l.statements)) l.self.places l.self.around l.numbers l.self.rows) (write_others (statements_in l.statements) l.fn.self.places l.fn.self.around [] (add stmt.Skip l.fn.self.rows));
  around : l.self.around ≡ l.fn.self.around;
  places : l.self.places ≡ l.fn.self.places;
  grows : length l.fn.self.rows + 1 ≤ length l.self.rows;
}

abbrev pub invariant-cases-loop-clause : goal.invariant-cases-loop-clause
invariant-cases-loop-clause l = record {
  write : write_cases (clauses_in (drop l.clause-index l.clauses)) l.self.places l.self.around l.tested l.self.rows ≡ write_cases (clauses_in l.clauses) l.fn.self.places l.fn.self.around l.tested l.fn.self.rows;
  around : l.self.around ≡ l.fn.self.around;
  places : l.self.places ≡ l.fn.self.places;
  grows : length l.fn.self.rows ≤ length l.self.rows;
}

abbrev pub invariant-put_fields-loop-value : goal.invariant-put_fields-loop-value
invariant-put_fields-loop-value l = record {
  write : ◌≡◌ {A = Numbered} (write_fields (values_in (drop l.value-index l.values)) l.self.places l.self.around l.told l.numbers l.self.rows) (write_fields (values_in l.values) l.fn.self.places l.fn.self.around l.first l.fn.numbers l.fn.self.rows);
  around : l.self.around ≡ l.fn.self.around;
  places : l.self.places ≡ l.fn.self.places;
  grows : length l.fn.self.rows ≤ length l.self.rows;
}

abbrev pub invariant-put_heads-loop-others : goal.invariant-put_heads-loop-others
invariant-put_heads-loop-others l = record {
  write : (hu : Tree × Tree) → write (pair_of 0 (behind_all hu l.heads)) l.fn.self.places l.fn.self.around l.told l.fn.self.rows ≡ write (pair_of 0 (behind_all hu (take l.others l.heads))) l.fn.self.places l.self.around l.rest l.self.rows;
  few : l.others ≤ length l.heads;
  places : l.self.places ≡ l.fn.self.places;
  grows : length l.fn.self.rows ≤ length l.self.rows;
}

abbrev pub decreases-put_heads-loop-others : goal.decreases-put_heads-loop-others
decreases-put_heads-loop-others l = l.others
