use Rattle.std.proofs.Common.{◌≡◌, ◌++◌, string_bytes}
use Rattle.large_run.specs.Text.{first_lines, stream_lines, text_of}
use Rattle.large_run.proofs.text.large_text.Given as goal

abbrev pub invariant-loop-k : goal.invariant-loop-k
invariant-loop-k l = string_bytes l.text ≡ text_of (first_lines ++ stream_lines l.k)
