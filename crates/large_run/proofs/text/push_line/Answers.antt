use Rattle.std.proofs.Common.{◌≡◌, ◌∙◌, ◌++◌, ◌∷◌, List, ℕ, [], ap, IfOk, Result, Ok, Err, is_ok, if◌then◌else◌}
use Rattle.std.specs.declared.alloc.AllocError.{AllocError}
use Rattle.large_run.specs.Text.{GainsLine}
use Rattle.large_run.proofs.TextLemmas.{gains_line}
use Rattle.large_run.proofs.text.push_line.Goals as goal

with_newline : (r : Result (Unit {0}) AllocError) (old line middle new : List ℕ)
    → middle ≡ old ++ line → new ≡ (if is_ok r then middle ++ 10 ∷ [] else middle) → IfOk r (λ _. GainsLine old line new)
with_newline (Ok u) old line middle new first last = gains_line old line new (last ∙ ap (λ b. b ++ 10 ∷ []) first)
with_newline (Err e) old line middle new first last = tt

pub returns : goal.returns
returns c = with_newline c.push_str-2.result _ _ _ _ c.in_ok-push_str.ensures.bytes c.push_str-2.ensures.bytes
