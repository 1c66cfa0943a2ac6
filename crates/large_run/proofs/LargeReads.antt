-- The text of a large run is spelled as its program, line by line.
use Rattle.std.proofs.Common.{◌≡◌, ℕ, zero, suc, ◌+◌, ◌<◌, ◌≤◌, ◌^◌, List, [], ◌∷◌, ◌++◌, Bool, true, append_assoc, refl, sym, subst, arith}
use Rattle.std.specs.Prelude.{◌&&◌, codes, decimal}
use Rattle.std.proofs.lemmas.Bool.{and_parts}
use Rattle.tree_node.specs.Words.{reserved_words}
use Rattle.large_run.specs.Text.{text_of, first_lines, stream_line, stream_lines, last_line, large_text}
use Rattle.oz_grammar.specs.declared.symbol.Symbol.{Symbol}
use Rattle.oz_grammar.specs.declared.symbol.Symbol.TheVariants as t
use Rattle.oz_grammar.specs.Symbols.{word_symbol, sign_symbol, integer_of}
use Rattle.oz_grammar.specs.Grammar.{Sequence, One, Then, names_text, stmt_text, seq_text, program_text}
use Rattle.oz_grammar.specs.Table.{program_table}
use Rattle.oz_grammar.specs.Reads as kernel
use Rattle.oz_grammar.specs.Laws.{AreOneOfBoth}
use Rattle.oz_sugar.specs.Texts.{Reads, FaultOf, KernelTextsRead}
use Rattle.large_run.specs.LargeTexts.{LargeTextsAreRead, LargeTextsHaveNoFault}
use Rattle.large_run.proofs.Pieces.{Spells, are_pieces, symbols_in, cut, line_spells, number_spells, nothing_spells}
use Rattle.large_run.proofs.LargeProgram.{others, prepared, stream, streams_then, shown, large_program, large_derives, large_passes}

-- ---- lines without numbers

-- each line and its newline are pieces
abbrev are_lines : List (List ℕ) → Bool
are_lines [] = true
are_lines (line ∷ lines) = are_pieces (cut (line ++ 10 ∷ [])) && are_lines lines

-- their symbols before others
abbrev symbols_before : List (List ℕ) → List Symbol → List Symbol
symbols_before [] symbols = symbols
symbols_before (line ∷ lines) symbols = symbols_in (cut (line ++ 10 ∷ [])) ++ symbols_before lines symbols

lines_spell : (lines more : List (List ℕ)) (symbols : List Symbol) → are_lines lines ≡ true → Spells (text_of more) symbols → Spells (text_of (lines ++ more)) (symbols_before lines symbols)
lines_spell [] more symbols are h = h
lines_spell (line ∷ lines) more symbols are h =
    let both = and_parts (are_pieces (cut (line ++ 10 ∷ []))) (are_lines lines) are in
    line_spells (line ++ 10 ∷ []) (text_of (lines ++ more)) (symbols_before lines symbols) both.0 (lines_spell lines more symbols both.1 h)

first_are : are_lines first_lines ≡ true
unfolding reserved_words
first_are = refl

first_symbols : (q : Sequence) (rest : List Symbol) → symbols_before first_lines (seq_text q rest) ≡ t.Local ∷ t.Variable (codes "C") ∷ names_text others (t.In ∷ seq_text (prepared q) rest)
unfolding reserved_words word_symbol sign_symbol integer_of
first_symbols q rest = refl

last_are : are_lines (last_line ∷ []) ≡ true
unfolding reserved_words
last_are = refl

last_symbols : symbols_before (last_line ∷ []) (t.EndOfText ∷ []) ≡ seq_text (One shown) (t.End ∷ t.EndOfText ∷ [])
unfolding reserved_words word_symbol sign_symbol
last_symbols = refl

-- ---- lines of streams

regroup : (a n b c m d rest : List ℕ) → ((a ++ n ++ b ++ n ++ c ++ m ++ d) ++ 10 ∷ []) ++ rest ≡ a ++ (n ++ (b ++ (n ++ (c ++ (m ++ ((d ++ 10 ∷ []) ++ rest))))))
regroup a n b c m d rest = simp append_assoc

abbrev part_one : List ℕ
part_one = codes "local K S D in K = "

abbrev part_two : List ℕ
part_two = codes " thread at "

abbrev part_three : List ℕ
part_three = codes " {P K J S} end thread at "

abbrev part_four : List ℕ
part_four = codes " {Q S Z D} end {R D} end"

stream_spells : (k : ℕ) (rest : List ℕ) (symbols : List Symbol) → k + 1 < 2 ^ 127 → Spells rest symbols → Spells ((stream_line k ++ 10 ∷ []) ++ rest) (stmt_text (stream k) symbols)
unfolding reserved_words word_symbol sign_symbol
stream_spells k rest symbols fit h =
    let four = line_spells (part_four ++ 10 ∷ []) rest symbols refl h in
    let next = number_spells (k + 1) _ _ fit four in
    let three = line_spells part_three _ _ refl next in
    let site = number_spells k _ _ (omega (arith, fit)) three in
    let two = line_spells part_two _ _ refl site in
    let first = number_spells k _ _ (omega (arith, fit)) two in
    let one = line_spells part_one _ _ refl first in
    subst (λ (text : List ℕ). Spells text (stmt_text (stream k) symbols)) (sym (regroup part_one (decimal k) part_two part_three (decimal (k + 1)) part_four rest)) one

streams_spell : (n : ℕ) (lines : List (List ℕ)) (q : Sequence) (rest : List Symbol) → n ≤ 1000 → Spells (text_of lines) (seq_text q rest) → Spells (text_of (stream_lines n ++ lines)) (seq_text (streams_then n q) rest)
streams_spell zero lines q rest le h = h
streams_spell (suc n) lines q rest le h =
    subst (λ (ls : List (List ℕ)). Spells (text_of ls) (seq_text (streams_then n (Then (stream (suc n)) q)) rest)) (sym (append_assoc (stream_lines n) (stream_line (suc n) ∷ []) lines))
    (streams_spell n (stream_line (suc n) ∷ lines) (Then (stream (suc n)) q) rest (omega (arith, le)) (stream_spells (suc n) (text_of lines) (seq_text q rest) (omega (arith, le)) h))

-- ---- the text

large_spells : (size : ℕ) → size ≤ 1000 → Spells (large_text size) (program_text (large_program size))
large_spells size le =
    let last : Spells (text_of (last_line ∷ [])) (seq_text (One shown) (t.End ∷ t.EndOfText ∷ [])) =
    subst (λ (symbols : List Symbol). Spells (text_of (last_line ∷ [])) symbols) last_symbols (lines_spell (last_line ∷ []) [] (t.EndOfText ∷ []) last_are nothing_spells) in
    let streams = streams_spell size (last_line ∷ []) (One shown) (t.End ∷ t.EndOfText ∷ []) le last in
    subst (λ (symbols : List Symbol). Spells (large_text size) symbols) (first_symbols (streams_then size (One shown)) (t.End ∷ t.EndOfText ∷ []))
    (lines_spell first_lines (stream_lines size ++ last_line ∷ []) (seq_text (streams_then size (One shown)) (t.End ∷ t.EndOfText ∷ [])) first_are streams)

kernel_reads : (size : ℕ) → size ≤ 1000 → kernel.Reads (large_text size) (program_table (large_program size))
kernel_reads size le =
    let spelled = large_spells size le 0 in
    let program : kernel.ReadsSymbols (program_text (large_program size)) (program_table (large_program size)) =
    record { program = large_program size; derives = large_derives size; derived = refl; passes = large_passes size; table = refl } in
    record {
      tokens = spelled.tokens;
      divided = spelled.divided;
      reads = subst (λ (symbols : List Symbol). kernel.ReadsSymbols symbols (program_table (large_program size))) (sym spelled.are) program;
    }

pub large_texts_read : KernelTextsRead → LargeTextsAreRead
large_texts_read law size le = (program_table (large_program size), law (large_text size) (program_table (large_program size)) (kernel_reads size le))

pub large_texts_have_no_fault : KernelTextsRead → AreOneOfBoth Reads FaultOf → LargeTextsHaveNoFault
large_texts_have_no_fault law one size le f has = let read = large_texts_read law size le in one.never_both (large_text size) read.0 f read.1 has
