use Rattle.std.proofs.Common.{◌≡◌, ◌<◌, ◌≤◌, ◌+◌, ℕ, List, length, ◌++◌, Option, arith, length-append}
use Rattle.std.proofs.KnownBytes.{Consumes-trans}
use Rattle.std.proofs.lemmas.Result.{err_from_is_err_and}
use Rattle.std.specs.Io.KnownBytes.{Consumes}
use Rattle.oz_base.specs.Reading.{GivesFront}
use Rattle.oz_base.proofs.read.read_text.Goals as goal

-- the text that was read, and then a chunk of so many bytes
gave_chunk : (IsLength : ℕ → Type 0) (a b c : Option (List ℕ)) (text chunk : List ℕ) (count : ℕ)
    → Consumes a b text → Consumes b c chunk → count ≡ length chunk
    → IsLength (length text + count) → GivesFront a c IsLength
gave_chunk IsLength a b c text chunk count first second e h =
    (text ++ chunk, Consumes-trans a b c text chunk first second, rw (length-append, ← e) h)

pub returns-then-count-limit-clause-text : goal.returns-then-count-limit-clause-text
returns-then-count-limit-clause-text g c =
    let chunk = c.in-Ok.ensures in
    gave_chunk (λ n. c.args.limit < n) _ _ _ _ _ _
    c.chunks.invariant.bytes chunk.bytes.0 chunk.bound.1 (grind arith)

pub returns-in_err-extend_from_slice-clause-text : goal.returns-in_err-extend_from_slice-clause-text
returns-in_err-extend_from_slice-clause-text g c =
    let chunk = c.in-Ok.ensures in
    let returned = err_from_is_err_and c.from_residual.result c.from_residual.ensures.1 in
    rw (returned.1, returned.2)
    (gave_chunk (λ n. n ≤ c.args.limit) _ _ _ _ _ _
    c.chunks.invariant.bytes chunk.bytes.0 chunk.bound.1 (grind arith))
