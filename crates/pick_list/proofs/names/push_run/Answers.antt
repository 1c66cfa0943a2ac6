use Rattle.std.proofs.Common.{◌∙◌, sym, ap, [], ◌∷◌, ◌++◌, List, append_assoc}
use Rattle.tree_node.specs.declared.names.Name.{Name}
use Rattle.pick_list.specs.Names.{row_of}
use Rattle.pick_list.proofs.NameLemmas.{row_next}
use Rattle.pick_list.proofs.names.push_run.Goals as goal

pub loop-place-preserved : goal.loop-place-preserved
loop-place-preserved c =
    let row : List Name = row_of c.args.run.first c.loop-place.place in
    c.in_ok-push.ensures.items
    ∙ (ap (λ (l : List Name). l ++ c.name_of.result ∷ []) c.loop-place.invariant
    ∙ (append_assoc c.args.names.now.items row (c.name_of.result ∷ [])
    ∙ ap (λ (l : List Name). c.args.names.now.items ++ l) (ap (λ (n : Name). row ++ n ∷ []) c.name_of.ensures ∙ sym (row_next c.args.run.first c.loop-place.place))))
