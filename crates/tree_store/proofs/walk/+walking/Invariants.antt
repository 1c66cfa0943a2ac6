use Rattle.std.proofs.Common.{◌≡◌, ◌≤◌, ◌+◌, ◌*◌, length}
use Rattle.tree_node.specs.Shown.{show_var, show_fields}
use Rattle.tree_store.specs.Walk.{text_after}
use Rattle.tree_store.proofs.walk.+walking.Given as goal

abbrev pub decreases-walk : goal.decreases-walk
decreases-walk l = 8 * l.bounds.depth

abbrev pub decreases-walk_fields : goal.decreases-walk_fields
decreases-walk_fields l = 8 * l.bounds.depth + 2

abbrev pub decreases-walk_head : goal.decreases-walk_head
decreases-walk_head l = 8 * l.bounds.depth + 2

abbrev pub decreases-walk_node : goal.decreases-walk_node
decreases-walk_node l = 8 * l.bounds.depth + 4

abbrev pub decreases-walk_part : goal.decreases-walk_part
decreases-walk_part l = 8 * l.bounds.depth + 1

abbrev pub decreases-walk_record : goal.decreases-walk_record
decreases-walk_record l = 8 * l.bounds.depth + 3

abbrev pub invariant-walk-tails : goal.invariant-walk-tails
invariant-walk-tails l = record {
  depth : l.bounds.depth ≤ l.fn.bounds.depth;
  level : l.bounds.level ≡ l.fn.bounds.level;
  written : text_after l.out.items (show_var l.bounds.depth l.store.equations l.bounds.level l.bounds.left l.x)
      ≡ text_after l.fn.out.items (show_var l.fn.bounds.depth l.store.equations l.fn.bounds.level l.fn.bounds.left l.fn.x);
}

abbrev pub decreases-walk-tails : goal.decreases-walk-tails
decreases-walk-tails l = l.bounds.depth

abbrev pub invariant-walk_fields-fields : goal.invariant-walk_fields-fields
invariant-walk_fields-fields l = record {
  depth : l.bounds.depth ≡ l.fn.bounds.depth;
  level : l.bounds.level ≡ l.fn.bounds.level;
  next : l.next + length l.rest ≤ length l.fields + 1;
  written : text_after l.out.items (show_fields (show_var l.bounds.depth l.store.equations) l.bounds.level l.bounds.left l.next l.rest)
      ≡ text_after l.fn.out.items (show_fields (show_var l.fn.bounds.depth l.store.equations) l.fn.bounds.level l.fn.bounds.left 1 l.fields);
}

abbrev pub decreases-walk_fields-fields : goal.decreases-walk_fields-fields
decreases-walk_fields-fields l = length l.rest
