-- The text of the large run of a size, whose threads meet in two cells and in streams.
use Rattle.std.specs.Prelude.{◌≡◌, ℕ, zero, suc, ◌+◌, List, [], ◌∷◌, ◌++◌, codes, decimal}

-- each line ended by a newline
abbrev pub text_of : List (List ℕ) → List ℕ
text_of [] = []
text_of (line ∷ lines) = (line ++ 10 ∷ []) ++ text_of lines

-- two cells of content 0; P puts ten numbers from K on into a stream and counts each of them in the first cell; Q adds up a
-- stream; R adds a number to the second cell when the number is known
abbrev pub first_lines : List (List ℕ)
first_lines =
    codes "local C E Z One J P Q R in Z = 0 One = 1 J = 10"
    ∷ codes "{NewCell Z C} {NewCell Z E}"
    ∷ codes "P = proc {$ K J S} local B in B = J =< Z if B then S = nil else local O M K1 J1 T in {Exchange C O M} M = O + One K1 = K + One J1 = J - One S = K|T {P K1 J1 T} end end end end"
    ∷ codes "Q = proc {$ S A D} case S of H|T then local F in F = A + H {Q T F D} end else D = A end end"
    ∷ codes "R = proc {$ D} local O M in {Exchange E O M} thread M = O + D end end end"
    ∷ []

-- a stream from k on, made at the site of k, and added up at the next one
abbrev pub stream_line : ℕ → List ℕ
stream_line k =
    codes "local K S D in K = " ++ decimal k ++ codes " thread at " ++ decimal k ++ codes " {P K J S} end thread at " ++ decimal (k + 1)
    ++ codes " {Q S Z D} end {R D} end"

-- those of 1 to n
abbrev pub stream_lines : ℕ → List (List ℕ)
stream_lines zero = []
stream_lines (suc n) = stream_lines n ++ stream_line (suc n) ∷ []

-- both cells are shown, when the numbers in them are known
abbrev pub last_line : List ℕ
last_line = codes "local T V in {Exchange E T T} {Browse T} {Exchange C V V} {Browse V} end end"

-- the text of the run of this size
abbrev pub large_text : ℕ → List ℕ
large_text size = text_of (first_lines ++ (stream_lines size ++ last_line ∷ []))

-- the text becomes one of one more line
abbrev pub GainsLine : List ℕ → List ℕ → List ℕ → Type 0
GainsLine old line new = (lines : List (List ℕ)) → old ≡ text_of lines → new ≡ text_of (lines ++ line ∷ [])
