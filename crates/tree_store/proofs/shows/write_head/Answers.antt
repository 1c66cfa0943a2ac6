use Rattle.std.proofs.Common.{◌∙◌, ap, refl, ℕ, List, ◌++◌}
use Rattle.tree_store.proofs.ShowLemmas.{head_shown, added_needs, added_left}
use Rattle.tree_store.proofs.shows.write_head.Goals as goal

pub returns-in-Needs : goal.returns-in-Needs
returns-in-Needs c =
    added_needs c.args.text.now.items c.args.text.now.items c.clear.new.self.items (head_shown c.args.store.now.equations c.args.bounds.depth c.args.bounds.level c.args.bounds.left c.args.head) c.in-Needs.var c.clear.ensures.items
    (rw c.in-Needs.is at c.in_ok-found.ensures) refl

pub returns-in_ok-extend_from_slice-in-Left : goal.returns-in_ok-extend_from_slice-in-Left
returns-in_ok-extend_from_slice-in-Left c =
    added_left c.args.text.now.items c.extend_from_slice.new.self.items c.clear.new.self.items c.walk_head.new.out.items (head_shown c.args.store.now.equations c.args.bounds.depth c.args.bounds.level c.args.bounds.left c.args.head) c.in-Left.left c.clear.ensures.items
    (rw c.in-Left.is at c.in_ok-found.ensures) (c.in_ok-extend_from_slice-in-Left.ensures.items ∙ ap (λ (l : List ℕ). c.args.text.now.items ++ l) c.as_slice.ensures.value)
