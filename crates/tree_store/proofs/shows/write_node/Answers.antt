use Rattle.std.proofs.Common.{◌∙◌, ap, refl, ℕ, List, ◌++◌}
use Rattle.tree_node.specs.Shown.{show_var, show_node}
use Rattle.tree_store.proofs.ShowLemmas.{added_needs, added_left}
use Rattle.tree_store.proofs.shows.write_node.Goals as goal

pub returns-in-Needs : goal.returns-in-Needs
returns-in-Needs c =
    added_needs c.args.text.now.items c.args.text.now.items c.clear.new.self.items (show_node c.args.store.now.equations (show_var c.args.bounds.depth c.args.store.now.equations) c.args.bounds.level c.args.bounds.left c.args.node.now) c.in-Needs.var c.clear.ensures.items
    (rw c.in-Needs.is at c.in_ok-found.ensures) refl

pub returns-in_ok-extend_from_slice-in-Left : goal.returns-in_ok-extend_from_slice-in-Left
returns-in_ok-extend_from_slice-in-Left c =
    added_left c.args.text.now.items c.extend_from_slice.new.self.items c.clear.new.self.items c.walk_node.new.out.items (show_node c.args.store.now.equations (show_var c.args.bounds.depth c.args.store.now.equations) c.args.bounds.level c.args.bounds.left c.args.node.now) c.in-Left.left c.clear.ensures.items
    (rw c.in-Left.is at c.in_ok-found.ensures) (c.in_ok-extend_from_slice-in-Left.ensures.items ∙ ap (λ (l : List ℕ). c.args.text.now.items ++ l) c.as_slice.ensures.value)
