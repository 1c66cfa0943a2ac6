use Rattle.std.proofs.Common.{rules, ◌∙◌, sym, ◌<◌}
use Rattle.std.specs.VecDeque.{deque_len}
use Rattle.world_core.proofs.QueueLemmas.{none_behind, no_length, below_end}
use Rattle.world_core.proofs.queue.is_behind.Goals as goal

pub returns-in-None : goal.returns-in-None
returns-in-None c = λ yes. none_behind c.args.numbers.now.items c.args.number (sym c.args.numbers.now.ok.0 ∙ no_length (deque_len c.args.numbers.now) (λ some. c.in-None.ensures.variant.1 some))

pub returns-in-Some : goal.returns-in-Some
returns-in-Some c = λ yes.
    let low : c.in-Some.last.now < c.args.number = search rules in
    below_end c.args.numbers.now.items (deque_len c.args.numbers.now) c.args.number c.in-Some.last.now c.args.numbers.now.ok.0 c.requires c.in-Some.ensures.lookup low
