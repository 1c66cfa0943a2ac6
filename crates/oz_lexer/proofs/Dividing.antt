-- Every text has tokens, and only these.
use Rattle.std.proofs.Common.{◌≡◌, ℕ, zero, suc, ◌+◌, ◌-◌, ◌<◌, List, [], ◌∷◌, length, take, drop, Option, Some, None, Result, Ok, Err, refl, sym, subst, ap, ◌∙◌, arith, length-drop}
use Rattle.std.proofs.lemmas.List.{length-take}
use Rattle.oz_lexer.specs.declared.token.TokenKind.{TokenKind}
use Rattle.oz_lexer.specs.declared.token.TokenKind.TheVariants.{Variable, Atom, Quoted, Integer, Word, Sign, End}
use Rattle.oz_lexer.specs.declared.token.LexKind.{LexKind}
use Rattle.oz_lexer.specs.declared.token.LexKind.TheVariants.{OpenComment}
use Rattle.oz_lexer.specs.Spelling.{token_kind_of}
use Rattle.oz_lexer.specs.Faults.{IsLongestToken}
use Rattle.oz_lexer.specs.Tokens.{IsLexemeAt, Lexeme, IsNextLexeme, EndOrMore, TokensFrom}
use Rattle.oz_lexer.specs.Laws.{TextsDivide, TextsDivideOnce}
use Rattle.oz_lexer.specs.Scan.{behind_blank, front_of}
use Rattle.oz_lexer.proofs.Skipping.{Open, blank_found, one_end, Ends, they_end}
use Rattle.oz_lexer.proofs.Fronts.{nothing_spelled}
use Rattle.oz_lexer.proofs.FrontLemmas.{Found, front_found, front_at, Seen, seen}
use Rattle.oz_lexer.proofs.OneFront.{one_front}

-- ---- only one

pub record SameNext (l m : Lexeme) (a b : List ℕ) : Type 0 where
  pub lexeme : l ≡ m
  pub rest : a ≡ b

seen_as : Lexeme → List ℕ → Seen
seen_as l rest = record { what = l.what; start = l.start; bytes = l.bytes; rest = rest }

lexeme_as : Seen → Lexeme
lexeme_as s = record { what = s.what; start = s.start; bytes = s.bytes }

same_next : (l m : Lexeme) (a b : List ℕ) → seen_as l a ≡ seen_as m b → SameNext l m a b
unfolding seen_as lexeme_as
same_next l m a b e = record { lexeme = ap lexeme_as e; rest = ap (λ (s : Seen). s.rest) e }

same_front : (place : ℕ) (text : List ℕ) (l m : Lexeme) (a b front other : List ℕ) → front ≡ other
    → seen_as l a ≡ seen (place + (length text - length front)) front (front_at front) → seen_as m b ≡ seen (place + (length text - length other)) other (front_at other)
    → seen_as l a ≡ seen_as m b
same_front place text l m a b front other is p q = p ∙ ap (λ (xs : List ℕ). seen (place + (length text - length xs)) xs (front_at xs)) is ∙ sym q

pub one_next : (place : ℕ) (text : List ℕ) (l m : Lexeme) (a b : List ℕ) → IsNextLexeme place text l a → IsNextLexeme place text m b → SameNext l m a b
unfolding seen_as
one_next place text l m a b p q =
    let f = one_front (place + (length text - length p.front)) p.front l.what l.start l.bytes a p.begins in
    let g = one_front (place + (length text - length q.front)) q.front m.what m.start m.bytes b q.begins in
    same_next l m a b (same_front place text l m a b p.front q.front (one_end p.blanks f.stuck q.blanks g.stuck) f.same g.same)

goes_same : (what : Result TokenKind LexKind) (ls ms : List Lexeme) (A B : Type 0) → EndOrMore what (ls ≡ []) A → EndOrMore what (ms ≡ []) B → (A → B → ls ≡ ms) → ls ≡ ms
goes_same (Ok Variable) ls ms A B g h k = k g h
goes_same (Ok Atom) ls ms A B g h k = k g h
goes_same (Ok Quoted) ls ms A B g h k = k g h
goes_same (Ok Integer) ls ms A B g h k = k g h
goes_same (Ok Word) ls ms A B g h k = k g h
goes_same (Ok Sign) ls ms A B g h k = k g h
goes_same (Ok End) ls ms A B g h k = g ∙ sym h
goes_same (Err kind) ls ms A B g h k = g ∙ sym h

one_division : (place : ℕ) (text : List ℕ) (ls ms : List Lexeme) → TokensFrom place text ls → TokensFrom place text ms → ls ≡ ms
one_division place text [] ms p q = absurd p
one_division place text (l ∷ ls) [] p q = absurd q
one_division place text (l ∷ ls) (m ∷ ms) p q =
    let s = one_next place text l m p.0 q.0 p.1 q.1 in
    let back : EndOrMore l.what (ms ≡ []) (TokensFrom (l.start + length l.bytes) p.0 ms) =
    subst (λ (x : Lexeme). EndOrMore x.what (ms ≡ []) (TokensFrom (x.start + length x.bytes) p.0 ms)) (sym s.lexeme)
    (subst (λ (xs : List ℕ). EndOrMore m.what (ms ≡ []) (TokensFrom (m.start + length m.bytes) xs ms)) (sym s.rest) q.2) in
    let rest : ls ≡ ms = goes_same l.what ls ms (TokensFrom (l.start + length l.bytes) p.0 ls) (TokensFrom (l.start + length l.bytes) p.0 ms) p.2 back (λ a b. one_division (l.start + length l.bytes) p.0 ls ms a b) in
    let first = s.lexeme in
    cc

pub texts_divide_once : TextsDivideOnce
texts_divide_once text a b p q = one_division 0 text a b p q

-- ---- some

abbrev Divided : ℕ → List ℕ → Type 0
Divided place text = (ls : List Lexeme) × TokensFrom place text ls

-- behind a token
token_then : (place start : ℕ) (text front bytes rest : List ℕ) (kind : TokenKind) → IsNextLexeme place text (record { what = Ok kind; start = start; bytes = bytes }) rest → (Divided (start + length bytes) rest) → Divided place text
token_then place start text front bytes rest Variable n d = (record { what = Ok Variable; start = start; bytes = bytes } ∷ d.0, (rest, n, d.1))
token_then place start text front bytes rest Atom n d = (record { what = Ok Atom; start = start; bytes = bytes } ∷ d.0, (rest, n, d.1))
token_then place start text front bytes rest Quoted n d = (record { what = Ok Quoted; start = start; bytes = bytes } ∷ d.0, (rest, n, d.1))
token_then place start text front bytes rest Integer n d = (record { what = Ok Integer; start = start; bytes = bytes } ∷ d.0, (rest, n, d.1))
token_then place start text front bytes rest Word n d = (record { what = Ok Word; start = start; bytes = bytes } ∷ d.0, (rest, n, d.1))
token_then place start text front bytes rest Sign n d = (record { what = Ok Sign; start = start; bytes = bytes } ∷ d.0, (rest, n, d.1))
token_then place start text front bytes rest End n d = (record { what = Ok End; start = start; bytes = bytes } ∷ [], (rest, n, refl))

-- a token has bytes, so fewer are behind it; the end stands before none
some_bytes : (bytes : List ℕ) (kind : TokenKind) → token_kind_of bytes ≡ Some kind → 0 < length bytes
some_bytes [] kind e = let no = nothing_spelled in absurd cc
some_bytes (b ∷ bs) kind e = omega arith

behind_shorter : (text : List ℕ) (kind : TokenKind) (n : ℕ) → IsLongestToken text kind (take n text) (drop n text) → length (drop n text) < length text
behind_shorter text kind n l =
    let s = some_bytes (take n text) kind l.spells in
    omega (arith, length-take n text, length-drop n text)

fault_alone : (place : ℕ) (text rest : List ℕ) (l : Lexeme) (kind : LexKind) → l.what ≡ Err kind → IsNextLexeme place text l rest → Divided place text
fault_alone place text rest l kind e n = (l ∷ [], (rest, n, subst (λ (w : Result TokenKind LexKind). EndOrMore w (◌≡◌ {A = List Lexeme} [] []) (TokensFrom (l.start + length l.bytes) rest [])) (sym e) refl))

divide_front : (place : ℕ) (text : List ℕ) (e : Ends text) (r : Result (TokenKind × ℕ) (LexKind × ℕ)) → Found (place + (length text - length e.rest)) e.rest r
    → ((p : ℕ) (xs : List ℕ) → length xs < length text → Divided p xs) → Divided place text
divide_front place text e (Err f) b more = fault_alone place text e.rest (record { what = Err f.0; start = place + (length text - length e.rest) + f.1; bytes = [] }) f.0 refl (record { front = e.rest; blanks = e.skips; begins = b })
divide_front place text e (Ok t) b more = by_kind t.0 b
  where
    by_kind : (kind : TokenKind) → IsLexemeAt (place + (length text - length e.rest)) e.rest (Ok kind) (place + (length text - length e.rest)) (take t.1 e.rest) (drop t.1 e.rest) → Divided place text
    by_kind End c = (record { what = Ok End; start = place + (length text - length e.rest); bytes = take t.1 e.rest } ∷ [], (drop t.1 e.rest, record { front = e.rest; blanks = e.skips; begins = c }, refl))
    by_kind Variable c = token_then place (place + (length text - length e.rest)) text e.rest (take t.1 e.rest) (drop t.1 e.rest) Variable (record { front = e.rest; blanks = e.skips; begins = c }) (more _ (drop t.1 e.rest) (let s = behind_shorter e.rest Variable t.1 c.0 in let w = e.within in omega arith))
    by_kind Atom c = token_then place (place + (length text - length e.rest)) text e.rest (take t.1 e.rest) (drop t.1 e.rest) Atom (record { front = e.rest; blanks = e.skips; begins = c }) (more _ (drop t.1 e.rest) (let s = behind_shorter e.rest Atom t.1 c.0 in let w = e.within in omega arith))
    by_kind Quoted c = token_then place (place + (length text - length e.rest)) text e.rest (take t.1 e.rest) (drop t.1 e.rest) Quoted (record { front = e.rest; blanks = e.skips; begins = c }) (more _ (drop t.1 e.rest) (let s = behind_shorter e.rest Quoted t.1 c.0 in let w = e.within in omega arith))
    by_kind Integer c = token_then place (place + (length text - length e.rest)) text e.rest (take t.1 e.rest) (drop t.1 e.rest) Integer (record { front = e.rest; blanks = e.skips; begins = c }) (more _ (drop t.1 e.rest) (let s = behind_shorter e.rest Integer t.1 c.0 in let w = e.within in omega arith))
    by_kind Word c = token_then place (place + (length text - length e.rest)) text e.rest (take t.1 e.rest) (drop t.1 e.rest) Word (record { front = e.rest; blanks = e.skips; begins = c }) (more _ (drop t.1 e.rest) (let s = behind_shorter e.rest Word t.1 c.0 in let w = e.within in omega arith))
    by_kind Sign c = token_then place (place + (length text - length e.rest)) text e.rest (take t.1 e.rest) (drop t.1 e.rest) Sign (record { front = e.rest; blanks = e.skips; begins = c }) (more _ (drop t.1 e.rest) (let s = behind_shorter e.rest Sign t.1 c.0 in let w = e.within in omega arith))

divide_blank : (place : ℕ) (text : List ℕ) (e : Ends text) (r : Result (Option (List ℕ)) LexKind) → behind_blank e.rest ≡ r
    → ((p : ℕ) (xs : List ℕ) → length xs < length text → Divided p xs) → Divided place text
divide_blank place text e (Ok (Some rest)) is more = absurd (e.stuck rest is)
divide_blank place text e (Ok None) is more = divide_front place text e (front_of e.rest) (front_found (place + (length text - length e.rest)) e.rest is) more
divide_blank place text e (Err kind) is more =
    let o : Open e.rest kind = blank_found e.rest (Err kind) is in
    let shift : place + (length text - length e.rest) ≡ place + (length text - length e.rest) + 0 = omega arith in
    fault_alone place text e.rest (record { what = Err OpenComment; start = place + (length text - length e.rest); bytes = [] }) OpenComment refl
    (record { front = e.rest; blanks = e.skips; begins = (0, o.fault, shift, refl, refl) })

divide : (n place : ℕ) (text : List ℕ) → length text < n → Divided place text
divide zero place text lt = absurd (omega arith)
divide (suc n) place text lt =
    let e = they_end (length text) text (omega arith) in
    divide_blank place text e (behind_blank e.rest) refl (λ p xs h. divide n p xs (omega arith))

pub texts_divide : TextsDivide
texts_divide text = divide (length text + 1) 0 text (omega arith)
