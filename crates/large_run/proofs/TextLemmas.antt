-- Texts made line by line.
use Rattle.std.proofs.Common.{zero, suc, ◌≡◌, ◌∙◌, ◌≤◌, ◌+◌, ◌*◌, ℕ, List, [], ◌∷◌, ◌++◌, length, append_assoc, ap, sym, subst, refl, arith, decimal, length-append}
use Rattle.std.proofs.lemmas.List.{append-nil}
use Rattle.std.proofs.lemmas.Fmt.{length-decimal-le}
use Rattle.large_run.specs.Text.{GainsLine, first_lines, large_text, last_line, stream_line, stream_lines, text_of}

text_append : (xs ys : List (List ℕ)) → text_of (xs ++ ys) ≡ text_of xs ++ text_of ys
text_append [] ys = refl
text_append (x ∷ xs) ys = ap (λ b. (x ++ 10 ∷ []) ++ b) (text_append xs ys) ∙ sym (append_assoc (x ++ 10 ∷ []) (text_of xs) (text_of ys))

-- a line and a newline behind a text
pub gains_line : (old line new : List ℕ) → new ≡ (old ++ line) ++ 10 ∷ [] → GainsLine old line new
gains_line old line new is lines before =
    is ∙ (append_assoc old line (10 ∷ []) ∙ (ap (λ b. b ++ (line ++ 10 ∷ [])) before
    ∙ (ap (λ b. text_of lines ++ b) (sym (append-nil (line ++ 10 ∷ []))) ∙ sym (text_append lines (line ∷ [])))))

-- the streams to k and one more
pub one_more : (k : ℕ) (bytes : List ℕ) → bytes ≡ text_of ((first_lines ++ stream_lines k) ++ stream_line (k + 1) ∷ []) → bytes ≡ text_of (first_lines ++ stream_lines (k + 1))
one_more k bytes is =
    let e : k + 1 ≡ suc k = omega arith in
    subst (λ n. bytes ≡ text_of (first_lines ++ stream_lines n)) (sym e)
    (subst (λ n. bytes ≡ text_of ((first_lines ++ stream_lines k) ++ stream_line n ∷ [])) e is)

-- ---- how long a text is

short_number : (k : ℕ) → k ≤ 1001 → length (decimal k) ≤ 4
short_number k le = length-decimal-le 4 k (omega arith) (omega (arith, le)) (omega (arith, le))

short_line : (k : ℕ) → k ≤ 1000 → length (stream_line k) + 1 ≤ 100
short_line k le =
    let one = short_number k (omega (arith, le)) in
    let two = short_number (k + 1) (omega (arith, le)) in
    simp length-append (omega (arith, one, two))

short_lines : (n : ℕ) → n ≤ 1000 → length (text_of (stream_lines n)) ≤ n * 100
short_lines zero le = omega arith
short_lines (suc n) le =
    let less = short_lines n (omega (arith, le)) in
    let line = short_line (suc n) le in
    let both : length (text_of (stream_lines (suc n))) ≡ length (text_of (stream_lines n)) + (length (stream_line (suc n)) + 1) =
    ap length (text_append (stream_lines n) (stream_line (suc n) ∷ [])) ∙ (length-append (text_of (stream_lines n)) _
    ∙ ap (λ k. length (text_of (stream_lines n)) + k) (ap length (append-nil (stream_line (suc n) ++ 10 ∷ [])) ∙ length-append (stream_line (suc n)) (10 ∷ []))) in
    omega (arith, less, line, both)

-- the text of a run is no longer than a text may be
pub short_text : (n : ℕ) → n ≤ 1000 → length (large_text n) ≤ 1048576
short_text n le =
    let streams = short_lines n le in
    let tail : length (text_of (stream_lines n ++ last_line ∷ [])) ≡ length (text_of (stream_lines n)) + length (text_of (last_line ∷ [])) =
    ap length (text_append (stream_lines n) (last_line ∷ [])) ∙ length-append (text_of (stream_lines n)) _ in
    let whole : length (large_text n) ≡ length (text_of first_lines) + length (text_of (stream_lines n ++ last_line ∷ [])) =
    ap length (text_append first_lines (stream_lines n ++ last_line ∷ [])) ∙ length-append (text_of first_lines) _ in
    let head : length (text_of first_lines) ≤ 1000 = omega arith in
    let last : length (text_of (last_line ∷ [])) ≤ 1000 = omega arith in
    omega (arith, streams, tail, whole, head, last)
