use Rattle.std.proofs.Common.{rules, ◌^◌, ◌∙◌, List, subst}
use Rattle.tree_node.specs.declared.pick.Pick.{Pick}
use Rattle.central_machine.specs.Numbers.{NumbersBelow}
use Rattle.machine_tests.proofs.stories.make_turns.Goals as goal

pub run_turns-requires : goal.run_turns-requires
run_turns-requires g c =
    let same = c.as_slice.ensures.value ∙ c.in_ok-told.ensures ∙ c.picks.ensures in
    record { numbers = (2 ^ 59, subst (λ (ks : List Pick). NumbersBelow (2 ^ 59) ks) same c.expect_all_low.ensures, search rules) }
