-- Which pieces the sink was handed: what is left of a line, of one of a turn, of one of a journal, or of the end line.
use Rattle.std.proofs.Common.{zero, suc, ◌≡◌, ◌<◌, inl, inr, ℕ, List, [], ◌∷◌, length, get_or, reverse, arith, sym, subst, Option, Some, None}
use Rattle.std.proofs.lemmas.List.Elements.{Contains-get_or, Contains-append_left, Contains-append_right}
use Rattle.std.specs.Prelude.{Contains}
use Rattle.oz_base.specs.Streams.{EachPiece, HandsInOnly, IsRestOf}
use Rattle.oz_base.proofs.Pieces.{handed_joined}
use Rattle.site_message.specs.declared.turn.Turn.{Turn}
use Rattle.world_model.specs.Schedule.{lines_in}
use Rattle.oz_runner.specs.Due.{IsRestOfLine, IsRestOfOutput}
use Rattle.oz_runner.proofs.Pieces.{line_piece, lines_reverse}

abbrev pub Handed : Type 0
Handed = Option (List (List ℕ))

each_also : (P Q : List ℕ → Type 0) → ((piece : List ℕ) → P piece → Q piece) → (xs : List (List ℕ)) → EachPiece P xs → EachPiece Q xs
each_also P Q also [] each = tt
each_also P Q also (x ∷ xs) each = (also x each.0, each_also P Q also xs each.1)

pub handed_also : (P Q : List ℕ → Type 0) → ((piece : List ℕ) → P piece → Q piece) → (a b : Handed) → HandsInOnly a b P → HandsInOnly a b Q
handed_also P Q also None b h = tt
handed_also P Q also (Some old) None h = absurd h
handed_also P Q also (Some old) (Some new) (xs, is, each) = (xs, is, each_also P Q also xs each)

-- first such pieces, and then such
handed_then : (P Q : List ℕ → Type 0) → ((piece : List ℕ) → P piece → Q piece) → (a b c : Handed) → HandsInOnly a b Q → HandsInOnly b c P → HandsInOnly a c Q
handed_then P Q also a b c before last = handed_joined a b c Q before (handed_also P Q also b c last)

-- one line more
pub line_handed : (a b c : Handed) (lines : List (List ℕ)) (i : ℕ) (line : List ℕ) → i < length lines → line ≡ get_or lines i line
    → (piece : List ℕ) → piece ≡ line_piece line → HandsInOnly a b (IsRestOfLine lines) → HandsInOnly b c (IsRestOf piece) → HandsInOnly a c (IsRestOfLine lines)
line_handed a b c lines i line lt is piece spelled before last =
    let has : Contains lines line = subst (Contains lines) (sym is) (Contains-get_or lines i line lt) in
    handed_then (IsRestOf piece) (IsRestOfLine lines) (λ rest left. (line, has, subst (λ (l : List ℕ). IsRestOf l rest) spelled left)) a b c before last

-- a line of a turn is one of the journal
line_of_turn : (turns : List Turn) (i : ℕ) (d : Turn) (line : List ℕ) → i < length turns → Contains (get_or turns i d).lines line → Contains (lines_in (reverse turns)) line
line_of_turn [] i d line lt has = absurd (omega arith)
line_of_turn (e ∷ turns) zero d line lt has =
    subst (λ (ls : List (List ℕ)). Contains ls line) (sym (lines_reverse e turns)) (Contains-append_left e.lines (lines_in (reverse turns)) line has)
line_of_turn (e ∷ turns) (suc i) d line lt has =
    subst (λ (ls : List (List ℕ)). Contains ls line) (sym (lines_reverse e turns))
    (Contains-append_right e.lines (lines_in (reverse turns)) line (line_of_turn turns i d line (omega arith) has))

-- the lines of one turn more
pub turn_handed : (a b c : Handed) (turns : List Turn) (i : ℕ) (turn : Turn) → i < length turns → turn ≡ get_or turns i turn
    → (lines : List (List ℕ)) → lines ≡ turn.lines → HandsInOnly a b (IsRestOfLine (lines_in (reverse turns))) → HandsInOnly b c (IsRestOfLine lines)
    → HandsInOnly a c (IsRestOfLine (lines_in (reverse turns)))
turn_handed a b c turns i turn lt is lines same before last =
    let within : (line : List ℕ) → Contains turn.lines line → Contains (lines_in (reverse turns)) line =
    λ line has. line_of_turn turns i turn line lt (subst (λ (e : Turn). Contains e.lines line) is has) in
    handed_then (IsRestOfLine lines) (IsRestOfLine (lines_in (reverse turns)))
    (λ rest left. (left.0, within left.0 (subst (λ (ls : List (List ℕ)). Contains ls left.0) same left.1), left.2)) a b c before last

-- lines alone, and then the end line
pub lines_handed : (a b : Handed) (lines : List (List ℕ)) (end : List ℕ) → HandsInOnly a b (IsRestOfLine lines) → HandsInOnly a b (IsRestOfOutput lines end)
lines_handed a b lines end h = handed_also (IsRestOfLine lines) (IsRestOfOutput lines end) (λ rest left. inl left) a b h

pub end_handed : (a b c : Handed) (lines : List (List ℕ)) (end : List ℕ) → HandsInOnly a b (IsRestOfLine lines) → HandsInOnly b c (IsRestOf end)
    → HandsInOnly a c (IsRestOfOutput lines end)
end_handed a b c lines end before last =
    handed_then (IsRestOf end) (IsRestOfOutput lines end) (λ rest left. inr left) a b c (lines_handed a b lines end before) last
