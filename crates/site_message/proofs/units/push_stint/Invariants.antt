use Rattle.std.proofs.Common.{◌≡◌, ◌++◌}
use Rattle.site_message.specs.Units.{in_a_row, thread_of}
use Rattle.site_message.proofs.units.push_stint.Given as goal

abbrev pub invariant-loop-count : goal.invariant-loop-count
invariant-loop-count l = l.threads.items ≡ l.initial.threads.items ++ in_a_row l.count (thread_of l.fn.stint)
