use Rattle.std.proofs.Common.{◌++◌, ◌∷◌, [], List, sym, ap, ◌∙◌, append_assoc}
use Rattle.tree_node.specs.declared.names.ThreadName.{ThreadName}
use Rattle.site_message.specs.Units.{in_a_row, thread_of}
use Rattle.site_message.proofs.UnitLemmas.{row_more}
use Rattle.site_message.proofs.units.push_stint.Goals as goal

pub loop-count-preserved : goal.loop-count-preserved
loop-count-preserved c =
    let th = thread_of c.args.stint in
    c.in_ok-push.ensures.items
    ∙ ap (λ (z : ThreadName). c.loop-count.threads.items ++ z ∷ []) c.thread-thread.ensures
    ∙ ap (λ (z : List ThreadName). z ++ th ∷ []) c.loop-count.invariant
    ∙ append_assoc c.args.threads.now.items (in_a_row c.loop-count.count th) (th ∷ [])
    ∙ ap (λ (z : List ThreadName). c.args.threads.now.items ++ z) (sym (row_more c.loop-count.count th))
