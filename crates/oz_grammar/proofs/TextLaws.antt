-- Texts: their tokens end once, a fault has a place, and each text is one program or has one fault.
use Rattle.std.proofs.Common.{◌≡◌, ℕ, suc, ◌+◌, ◌<◌, ◌≤◌, List, [], ◌∷◌, ◌++◌, ◌⊎◌, inl, inr, length, map, take, Bool, true, false, cond, Result, Ok, Err, refl, sym, ap, subst, ◌∙◌, arith, length-append}
use Rattle.std.specs.Prelude.{◌&&◌, codes}
use Rattle.std.specs.Str.{bytes_eq}
use Rattle.std.proofs.lemmas.List.{length-map}
use Rattle.std.proofs.lemmas.Bool.{cases_lt, and_parts}
use Rattle.kernel_syntax.specs.declared.stmt.Op.TheVariants as op
use Rattle.kernel_syntax.specs.declared.stmt.TestOp.TheVariants as test
use Rattle.oz_lexer.specs.declared.token.TokenKind.{TokenKind}
use Rattle.oz_lexer.specs.declared.token.TokenKind.TheVariants as kind
use Rattle.oz_lexer.specs.declared.token.LexKind.{LexKind}
use Rattle.oz_lexer.specs.Tokens.{Lexeme, EndOrMore, TokensFrom, Tokens}
use Rattle.oz_lexer.specs.Place.{place_of}
use Rattle.oz_lexer.specs.Laws.{TextsDivide, TextsDivideOnce}
use Rattle.oz_grammar.specs.declared.symbol.Symbol.{Symbol}
use Rattle.oz_grammar.specs.declared.symbol.Symbol.TheVariants as t
use Rattle.oz_grammar.specs.declared.fault.Fault.{Fault}
use Rattle.oz_grammar.specs.declared.fault.FaultKind.{FaultKind}
use Rattle.oz_grammar.specs.declared.fault.TextFault.{TextFault}
use Rattle.oz_grammar.specs.Faults.{fault_here}
use Rattle.oz_grammar.specs.Symbols.{word_symbol, sign_symbol, symbol_at, symbol_of, ends_once}
use Rattle.oz_grammar.specs.Reads.{ReadsSymbols, FaultOfSymbols, kernel, ReadsIn, IsPlace, FaultIn, FaultOf}
use Rattle.oz_grammar.specs.Laws.{OneProgram, FaultRead, ReadsTexts, FaultsTexts, AreOneOfBoth, TextsArePrograms}
use Rattle.oz_grammar.proofs.Ends.{is_inner, ends_over, program_ends}
use Rattle.oz_grammar.proofs.FaultPlaces.{fault_stands}
use Rattle.oz_grammar.proofs.TextSymbols.{text_spelled}
use Rattle.oz_grammar.proofs.ReadLaws.{look, kernel_is_read, is_program, points_pass, fault_is, fault_found, symbols_have_one, never_both, one_fault, reads_are_programs}

-- ---- the symbols of a text end once

-- the symbol of the first test that holds, else another
abbrev choice_of : List (Bool × Symbol) → Symbol → Symbol
choice_of [] other = other
choice_of (c ∷ cs) other = cond c.0 c.1 (choice_of cs other)

abbrev all_inner : List (Bool × Symbol) → Bool
all_inner [] = true
all_inner (c ∷ cs) = is_inner c.1 && all_inner cs

cond_inner : (b : Bool) (x y : Symbol) → is_inner x ≡ true → is_inner y ≡ true → is_inner (cond b x y) ≡ true
cond_inner true x y p q = p
cond_inner false x y p q = q

choice_inner : (cs : List (Bool × Symbol)) (other : Symbol) → all_inner cs ≡ true → is_inner other ≡ true → is_inner (choice_of cs other) ≡ true
choice_inner [] other h e = e
choice_inner (c ∷ cs) other h e = let k = and_parts (is_inner c.1) (all_inner cs) h in cond_inner c.0 c.1 (choice_of cs other) k.0 (choice_inner cs other k.1 e)

abbrev words : List ℕ → List (Bool × Symbol)
words bytes =
    (bytes_eq bytes (codes "skip"), t.Skip) ∷ (bytes_eq bytes (codes "local"), t.Local) ∷ (bytes_eq bytes (codes "in"), t.In) ∷ (bytes_eq bytes (codes "end"), t.End)
    ∷ (bytes_eq bytes (codes "if"), t.If) ∷ (bytes_eq bytes (codes "then"), t.Then) ∷ (bytes_eq bytes (codes "else"), t.Else) ∷ (bytes_eq bytes (codes "case"), t.Case)
    ∷ (bytes_eq bytes (codes "of"), t.Of) ∷ (bytes_eq bytes (codes "thread"), t.Thread) ∷ (bytes_eq bytes (codes "at"), t.At) ∷ (bytes_eq bytes (codes "try"), t.Try)
    ∷ (bytes_eq bytes (codes "catch"), t.Catch) ∷ (bytes_eq bytes (codes "raise"), t.Raise) ∷ (bytes_eq bytes (codes "proc"), t.Proc) ∷ (bytes_eq bytes (codes "div"), t.Operator op.Div)
    ∷ (bytes_eq bytes (codes "mod"), t.Operator op.Mod) ∷ (bytes_eq bytes (codes "fun"), t.Fun) ∷ (bytes_eq bytes (codes "finally"), t.Finally) ∷ []

abbrev signs : List ℕ → List (Bool × Symbol)
signs bytes =
    (bytes_eq bytes (codes "="), t.Equals) ∷ (bytes_eq bytes (codes "("), t.OpenRound) ∷ (bytes_eq bytes (codes ")"), t.CloseRound) ∷ (bytes_eq bytes (codes "{"), t.OpenCurly)
    ∷ (bytes_eq bytes (codes "}"), t.CloseCurly) ∷ (bytes_eq bytes (codes "$"), t.Dollar) ∷ (bytes_eq bytes (codes ":"), t.Colon) ∷ (bytes_eq bytes (codes "."), t.Dot)
    ∷ (bytes_eq bytes (codes "|"), t.Bar) ∷ (bytes_eq bytes (codes "+"), t.Operator op.Add) ∷ (bytes_eq bytes (codes "-"), t.Operator op.Sub) ∷ (bytes_eq bytes (codes "*"), t.Operator op.Mul)
    ∷ (bytes_eq bytes (codes "=<"), t.Operator op.Le) ∷ (bytes_eq bytes (codes "<"), t.Operator op.Lt) ∷ (bytes_eq bytes (codes ">="), t.Operator op.Ge) ∷ (bytes_eq bytes (codes ">"), t.Operator op.Gt)
    ∷ (bytes_eq bytes (codes "=="), t.Test test.Equal) ∷ (bytes_eq bytes (codes "\\="), t.Test test.NotEqual) ∷ (bytes_eq bytes (codes "[]"), t.Clause) ∷ []

word_inner : (bytes : List ℕ) → is_inner (word_symbol bytes) ≡ true
unfolding word_symbol
word_inner bytes = choice_inner (words bytes) t.Unused refl refl

sign_inner : (bytes : List ℕ) → is_inner (sign_symbol bytes) ≡ true
unfolding sign_symbol
sign_inner bytes = choice_inner (signs bytes) t.Unused refl refl

end_last : (ls : List Lexeme) → ls ≡ [] → ends_once (t.EndOfText ∷ map symbol_of ls) ≡ true
end_last ls e = ap (λ (k : List Lexeme). ends_once (t.EndOfText ∷ map symbol_of k)) e

bad_last : (fault : LexKind) (ls : List Lexeme) → ls ≡ [] → ends_once (t.Bad fault ∷ map symbol_of ls) ≡ true
bad_last fault ls e = ap (λ (k : List Lexeme). ends_once (t.Bad fault ∷ map symbol_of k)) e

-- one token, and then those behind it
one_ends : (what : Result TokenKind LexKind) (bytes : List ℕ) (ls : List Lexeme) (More : Type 0) → (More → ends_once (map symbol_of ls) ≡ true) → EndOrMore what (ls ≡ []) More → ends_once (symbol_at what bytes ∷ map symbol_of ls) ≡ true
one_ends (Ok kind.End) bytes ls More on g = end_last ls g
one_ends (Ok kind.Variable) bytes ls More on g = ends_over (t.Variable bytes) (map symbol_of ls) refl ∙ on g
one_ends (Ok kind.Atom) bytes ls More on g = ends_over (symbol_at (Ok kind.Atom) bytes) (map symbol_of ls) refl ∙ on g
one_ends (Ok kind.Quoted) bytes ls More on g = ends_over (symbol_at (Ok kind.Quoted) bytes) (map symbol_of ls) refl ∙ on g
one_ends (Ok kind.Integer) bytes ls More on g = ends_over (symbol_at (Ok kind.Integer) bytes) (map symbol_of ls) refl ∙ on g
one_ends (Ok kind.Word) bytes ls More on g = ends_over (word_symbol bytes) (map symbol_of ls) (word_inner bytes) ∙ on g
one_ends (Ok kind.Sign) bytes ls More on g = ends_over (sign_symbol bytes) (map symbol_of ls) (sign_inner bytes) ∙ on g
one_ends (Err fault) bytes ls More on g = bad_last fault ls g

tokens_end_from : (ls : List Lexeme) (place : ℕ) (text : List ℕ) → TokensFrom place text ls → ends_once (map symbol_of ls) ≡ true
tokens_end_from [] place text h = absurd h
tokens_end_from (l ∷ ls) place text h = one_ends l.what l.bytes ls (TokensFrom (l.start + length l.bytes) h.0 ls) (λ more. tokens_end_from ls (l.start + length l.bytes) h.0 more) h.2

pub tokens_end : (text : List ℕ) (tokens : List Lexeme) → Tokens text tokens → ends_once (map symbol_of tokens) ≡ true
tokens_end text tokens h = tokens_end_from tokens 0 text h

-- ---- a fault stands at a token

pub nothing_more : (front more : List Symbol) → ends_once front ≡ true → ends_once (front ++ more) ≡ true → more ≡ []
nothing_more [] more e f = absurd cc
nothing_more (t.EndOfText ∷ []) [] e f = refl
nothing_more (t.EndOfText ∷ []) (x ∷ more) e f = absurd cc
nothing_more (t.EndOfText ∷ y ∷ front) more e f = absurd cc
nothing_more (t.Bad fault ∷ []) [] e f = refl
nothing_more (t.Bad fault ∷ []) (x ∷ more) e f = absurd cc
nothing_more (t.Bad fault ∷ y ∷ front) more e f = absurd cc
nothing_more (x ∷ front) more e f = nothing_more front more e f

-- the symbols end once
abbrev pub EndsHere : List Symbol → Type 0
EndsHere symbols = ends_once symbols ≡ true

pub none_ends : EndsHere [] → ⊥
none_ends e = cc

-- this fault stands at one of the symbols
pub stands_at : (symbols : List Symbol) (f : Fault) → ((kind : FaultKind) × (rest : List Symbol) × (f ≡ fault_here kind rest) × (0 < length rest) × (length rest ≤ length symbols)) → (0 < f.left) × (f.left ≤ length symbols)
stands_at symbols f s = let e : f.left ≡ length s.1 = ap (λ (h : Fault). h.left) s.2 in (omega (arith, e, s.3), omega (arith, e, s.4))

cases_left : (left n : ℕ) → left ≤ suc n → (left ≤ n) ⊎ (left ≡ suc n)
cases_left left n le = elim (cases_lt n left) as (λ c. (left ≤ n) ⊎ (left ≡ suc n)) [ inl h ↦ let e : left ≡ suc n = omega arith in inr e | inr h ↦ inl h ]

-- the token at which so many are left
pub record TokenAt (tokens : List Lexeme) (left : ℕ) : Type 0 where
  pub before : List Lexeme
  pub token : Lexeme
  pub behind : List Lexeme
  pub divided : tokens ≡ before ++ token ∷ behind
  pub place : left ≡ length (token ∷ behind)

pub token_at : (tokens : List Lexeme) (left : ℕ) → 0 < left → left ≤ length tokens → TokenAt tokens left
token_at [] left some le = absurd (omega arith)
token_at (l ∷ ls) left some le =
    let chosen : (left ≤ length ls) ⊎ (left ≡ suc (length ls)) → TokenAt (l ∷ ls) left = elim [
      | inl h ↦ let k = token_at ls left some h in record { before = l ∷ k.before; token = k.token; behind = k.behind; divided = ap (λ (xs : List Lexeme). l ∷ xs) k.divided; place = k.place }
      | inr h ↦ record { before = []; token = l; behind = ls; divided = refl; place = h }
    ] in chosen (cases_left left (length ls) le)

pub placed : (text : List ℕ) (tokens : List Lexeme) (left : ℕ) → 0 < left → left ≤ length tokens → (line : ℕ) × (column : ℕ) × IsPlace text tokens left line column
placed text tokens left some le =
    let k = token_at tokens left some le in
    let at : ℕ × ℕ = place_of (take k.token.start text) in
    (at.0, at.1, record { before = k.before; token = k.token; behind = k.behind; divided = k.divided; place = k.place; is = refl })

same_split : (a b c d : List Lexeme) → a ++ b ≡ c ++ d → length b ≡ length d → b ≡ d
same_split [] b [] d e l = e
same_split [] b (x ∷ c) d e l = let k : length b ≡ length (x ∷ c ++ d) = ap length e in absurd (omega (arith, length-append c d))
same_split (y ∷ a) b [] d e l = let k : length (y ∷ a ++ b) ≡ length d = ap length e in absurd (omega (arith, length-append a b))
same_split (y ∷ a) b (z ∷ c) d e l = let tails : a ++ b ≡ c ++ d = cc in same_split a b c d tails l

same_place : (text : List ℕ) (tokens : List Lexeme) (left l c m d : ℕ) → IsPlace text tokens left l c → IsPlace text tokens left m d → (l ≡ m) × (c ≡ d)
same_place text tokens left l c m d P Q =
    let rests = same_split P.before (P.token ∷ P.behind) Q.before (Q.token ∷ Q.behind) (sym P.divided ∙ Q.divided) (sym P.place ∙ Q.place) in
    let same : P.token ≡ Q.token = cc in
    let both : (l, c) ≡ (m, d) = P.is ∙ ap (λ (k : Lexeme). place_of (take k.start text)) same ∙ sym Q.is in
    (ap (λ (p : ℕ × ℕ). p.0) both, ap (λ (p : ℕ × ℕ). p.1) both)

-- ---- texts

pub reads_text : TextsDivideOnce → ReadsTexts
reads_text once text tokens divided = (
  λ e. let m = is_program (map symbol_of tokens) (tokens_end text tokens divided) e in (m.0, record { tokens = tokens; divided = divided; reads = m.1 }),
  λ m. let same = once text m.1.tokens tokens m.1.divided divided in points_pass (map symbol_of tokens) m.0 (subst (λ (ls : List Lexeme). ReadsSymbols (map symbol_of ls) m.0) same m.1.reads),
)

given_fault : (text : List ℕ) (tokens : List Lexeme) (f : TextFault) → Tokens text tokens → FaultRead text tokens f → FaultOf text f
given_fault text tokens f divided r = record { tokens = tokens; divided = divided; fault = r.fault; applies = fault_is (map symbol_of tokens) r.fault r.read; is_kind = r.is_kind; place = r.place }

read_fault : (text : List ℕ) (tokens : List Lexeme) (f : TextFault) (other : List Lexeme) → other ≡ tokens → Tokens text tokens → (g : Fault) → FaultOfSymbols (map symbol_of other) g → f.kind ≡ g.kind → IsPlace text other g.left f.line f.column → FaultRead text tokens f
read_fault text tokens f other same divided g F k place = record {
  fault = g;
  read = fault_found (map symbol_of tokens) g (tokens_end text tokens divided) (subst (λ (ls : List Lexeme). FaultOfSymbols (map symbol_of ls) g) same F);
  is_kind = k;
  place = subst (λ (ls : List Lexeme). IsPlace text ls g.left f.line f.column) same place;
}

pub faults_text : TextsDivideOnce → FaultsTexts
faults_text once text tokens f divided = (
  given_fault text tokens f divided,
  λ F. read_fault text tokens f F.tokens (once text F.tokens tokens F.divided divided) divided F.fault F.applies F.is_kind F.place,
)

-- what holds of the symbols of a language: they are one program or have one fault, never both, and it stands at one of them
pub record SymbolLaws {Program : Type 0} (are : List Symbol → Program → Type 0) (have : List Symbol → Fault → Type 0) : Type 0 where
  pub some : (symbols : List Symbol) → ends_once symbols ≡ true → ((p : Program) × are symbols p) ⊎ ((f : Fault) × have symbols f)
  pub never_both : (symbols : List Symbol) (p : Program) (f : Fault) → are symbols p → have symbols f → ⊥
  pub one_program : (symbols : List Symbol) (p q : Program) → are symbols p → are symbols q → p ≡ q
  pub one_fault : (symbols : List Symbol) (f g : Fault) → have symbols f → have symbols g → f ≡ g
  pub stands : (symbols : List Symbol) (f : Fault) → ends_once symbols ≡ true → have symbols f → (0 < f.left) × (f.left ≤ length symbols)

module _ {Program : Type 0} {are : List Symbol → Program → Type 0} {have : List Symbol → Fault → Type 0} (law : SymbolLaws are have) where
  one_by : (text : List ℕ) (tokens : List Lexeme) → Tokens text tokens → ((p : Program) × are (map symbol_of tokens) p) ⊎ ((f : Fault) × have (map symbol_of tokens) f) → ((p : Program) × ReadsIn are text p) ⊎ ((f : TextFault) × FaultIn have text f)
  one_by text tokens divided (inl r) = inl (r.0, record { tokens = tokens; divided = divided; reads = r.1 })
  one_by text tokens divided (inr r) =
      let bounds = law.stands (map symbol_of tokens) r.0 (tokens_end text tokens divided) r.1 in
      let at = placed text tokens r.0.left bounds.0 (omega (arith, bounds, length-map tokens symbol_of)) in
      inr (record { kind = r.0.kind; line = at.0; column = at.1 }, record { tokens = tokens; divided = divided; fault = r.0; applies = r.1; is_kind = refl; place = at.2 })

  never_have_both : TextsDivideOnce → (text : List ℕ) (p : Program) (f : TextFault) → ReadsIn are text p → FaultIn have text f → ⊥
  never_have_both once text p f r F =
      let same = once text F.tokens r.tokens F.divided r.divided in
      law.never_both (map symbol_of r.tokens) p F.fault r.reads (subst (λ (ls : List Lexeme). have (map symbol_of ls) F.fault) same F.applies)

  is_one_program : TextsDivideOnce → (text : List ℕ) (p q : Program) → ReadsIn are text p → ReadsIn are text q → p ≡ q
  is_one_program once text p q r s =
      let same = once text r.tokens s.tokens r.divided s.divided in
      law.one_program (map symbol_of s.tokens) p q (subst (λ (ls : List Lexeme). are (map symbol_of ls) p) same r.reads) s.reads

  has_one_fault : TextsDivideOnce → (text : List ℕ) (f g : TextFault) → FaultIn have text f → FaultIn have text g → f ≡ g
  has_one_fault once text f g F G =
      let tokens = once text F.tokens G.tokens F.divided G.divided in
      let same = law.one_fault (map symbol_of G.tokens) F.fault G.fault (subst (λ (ls : List Lexeme). have (map symbol_of ls) F.fault) tokens F.applies) G.applies in
      let kinds : f.kind ≡ g.kind = F.is_kind ∙ ap (λ (h : Fault). h.kind) same ∙ sym G.is_kind in
      let there : IsPlace text G.tokens G.fault.left f.line f.column = subst (λ (l : ℕ). IsPlace text G.tokens l f.line f.column) (ap (λ (h : Fault). h.left) same) (subst (λ (ls : List Lexeme). IsPlace text ls F.fault.left f.line f.column) tokens F.place) in
      let at = same_place text G.tokens G.fault.left f.line f.column g.line g.column there G.place in
      ap (λ (k : FaultKind). record { kind = k; line = f.line; column = f.column }) kinds
      ∙ ap (λ (l : ℕ). record { kind = g.kind; line = l; column = f.column }) at.0
      ∙ ap (λ (c : ℕ). record { kind = g.kind; line = g.line; column = c }) at.1

  -- each text is one program or has one fault
  pub are_one_of_both : TextsDivide → TextsDivideOnce → AreOneOfBoth (ReadsIn are) (FaultIn have)
  are_one_of_both some once = record {
    one = λ text. let d = some text in one_by text d.0 d.1 (law.some (map symbol_of d.0) (tokens_end text d.0 d.1));
    never_both = never_have_both once;
    program = is_one_program once;
    fault = has_one_fault once;
  }

pub texts_are_programs : TextsArePrograms
texts_are_programs text p utf8 r = reads_are_programs (map symbol_of r.tokens) p (text_spelled text r.tokens utf8 r.divided) r.reads

-- of the kernel, where its symbols are one program
pub symbol_laws : OneProgram → SymbolLaws ReadsSymbols FaultOfSymbols
symbol_laws one_program = record {
  some = symbols_have_one;
  never_both = never_both;
  one_program = one_program;
  one_fault = one_fault;
  stands = λ symbols f ends F. stands_at symbols f (fault_stands kernel look kernel_is_read EndsHere (record { some = none_ends; none_behind = nothing_more; programs = program_ends }) symbols f ends (fault_found symbols f ends F));
}
