use Rattle.std.proofs.Common.{[], take}
use Rattle.large_run.specs.Text.{first_lines}
use Rattle.large_run.proofs.text.first_lines.Goals as goal

pub returns : goal.returns
returns c =
    c.in_ok-push_line-5.ensures (take 4 first_lines)
    (c.in_ok-push_line-4.ensures (take 3 first_lines)
    (c.in_ok-push_line-3.ensures (take 2 first_lines)
    (c.in_ok-push_line-2.ensures (take 1 first_lines)
    (c.in_ok-push_line.ensures [] c.new-text.ensures.bytes))))
