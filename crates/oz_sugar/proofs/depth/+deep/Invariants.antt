use Rattle.std.proofs.Common.{◌≡◌, ◌+◌, ◌≤◌, length, take, drop}
use Rattle.kernel_syntax.specs.Sugar.{Value as Tree, new_in}
use Rattle.kernel_syntax.specs.SugarView.{behind_all, values_in, value_clauses_in, statements_in, clauses_in}
use Rattle.oz_sugar.specs.Deep.{deep_list, deep_parts, deep_fields, deep_clauses, deep_statements, deep_cases}
use Rattle.oz_sugar.proofs.depth.+deep.Given as goal

abbrev pub invariant-deep_parts-loop-part : goal.invariant-deep_parts-loop-part
invariant-deep_parts-loop-part l = record {
  value : deep_parts (values_in (drop l.part-index l.parts)) l.inside ≡ deep_parts (values_in l.parts) l.depth;
  room : l.inside + new_in (values_in (drop l.part-index l.parts)) ≡ l.depth + new_in (values_in l.parts);
}

abbrev pub invariant-deep_fields-loop-value : goal.invariant-deep_fields-loop-value
invariant-deep_fields-loop-value l = deep_fields (values_in (drop l.value-index l.values)) l.depth ≡ deep_fields (values_in l.values) l.depth

abbrev pub invariant-deep_clauses-loop-clause : goal.invariant-deep_clauses-loop-clause
invariant-deep_clauses-loop-clause l = record {
  value : deep_clauses (value_clauses_in (drop l.clause-index l.clauses)) l.inside ≡ deep_clauses (value_clauses_in l.clauses) l.depth;
  room : l.inside ≡ l.depth + l.clause-index;
}

abbrev pub invariant-deep_cases-loop-clause : goal.invariant-deep_cases-loop-clause
invariant-deep_cases-loop-clause l = record {
  value : deep_cases (clauses_in (drop l.clause-index l.clauses)) l.inside ≡ deep_cases (clauses_in l.clauses) l.depth;
  room : l.inside ≡ l.depth + l.clause-index;
}

abbrev pub invariant-deep_statements-loop-statement : goal.invariant-deep_statements-loop-statement
invariant-deep_statements-loop-statement l = deep_statements (statements_in (drop l.statement-index l.statements)) l.depth ≡ deep_statements (statements_in l.statements) l.depth

abbrev pub invariant-deep_heads-loop-others : goal.invariant-deep_heads-loop-others
invariant-deep_heads-loop-others l = record {
  value : (hu : Tree × Tree) → deep_list (behind_all hu (take l.others l.heads)) l.place l.inside ≡ deep_list (behind_all hu l.heads) l.left l.depth;
  few : l.others ≤ length l.heads;
  room : l.inside ≤ 201;
}

abbrev pub decreases-deep_heads-loop-others : goal.decreases-deep_heads-loop-others
decreases-deep_heads-loop-others l = l.others
