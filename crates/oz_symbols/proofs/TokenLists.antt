-- The symbols of a text, one token after the other.
use Rattle.std.proofs.Common.{◌≡◌, ℕ, ◌+◌, ◌-◌, ◌<◌, ◌≤◌, List, [], ◌∷◌, ◌++◌, length, take, drop, map, true, false, Ok, refl, sym, subst, ap, ◌∙◌, arith, append_assoc, length-append}
use Rattle.std.proofs.lemmas.List.{map-append, length-take}
use Rattle.tree_node.specs.Each.{Each}
use Rattle.oz_lexer.specs.declared.token.Token.{Token}
use Rattle.oz_lexer.specs.declared.token.TokenKind.{TokenKind}
use Rattle.oz_lexer.specs.declared.token.TokenKind.TheVariants.{Variable, Atom, Quoted, Integer, Word, Sign, End}
use Rattle.oz_lexer.specs.declared.token.LexKind.{LexKind}
use Rattle.oz_lexer.specs.Faults.{IsLongestToken}
use Rattle.oz_lexer.specs.Tokens.{IsLexemeAt, Lexeme, IsNextLexeme, EndOrMore, Tokens, TokensFrom}
use Rattle.oz_lexer.specs.Lexer.{lexeme_of, fault_at, IsFaultNext, IsSlice}
use Rattle.oz_lexer.proofs.NextLemmas.{gives_token}
use Rattle.oz_lexer.proofs.Boundaries.{token_ends}
use Rattle.oz_grammar.specs.declared.symbol.Symbol.{Symbol}
use Rattle.oz_grammar.specs.declared.symbol.Symbol.TheVariants as t
use Rattle.oz_grammar.specs.Symbols.{symbol_of}
use Rattle.oz_symbols.specs.TextSymbols.{start_of, is_end, AreSymbols, SoFar, IsFurther}

each_more : (n : ℕ) (xs : List ℕ) (x : ℕ) → Each (λ (s : ℕ). s ≤ n) xs → x ≤ n → Each (λ (s : ℕ). s ≤ n) (xs ++ x ∷ [])
each_more n [] x h le = (le, tt)
each_more n (y ∷ ys) x h le = (h.0, each_more n ys x h.1 le)

goes_on_of : (k : TokenKind) (A B : Type 0) → is_end k ≡ false → EndOrMore (Ok k) A B → B
goes_on_of Variable A B e g = g
goes_on_of Atom A B e g = g
goes_on_of Quoted A B e g = g
goes_on_of Integer A B e g = g
goes_on_of Word A B e g = g
goes_on_of Sign A B e g = g
goes_on_of End A B e g = absurd cc

goes_last : (k : TokenKind) (A B : Type 0) → is_end k ≡ true → EndOrMore (Ok k) A B → A
goes_last Variable A B e g = absurd cc
goes_last Atom A B e g = absurd cc
goes_last Quoted A B e g = absurd cc
goes_last Integer A B e g = absurd cc
goes_last Word A B e g = absurd cc
goes_last Sign A B e g = absurd cc
goes_last End A B e g = g

longest_of : (place : ℕ) (text : List ℕ) (k : TokenKind) (start : ℕ) (bytes rest : List ℕ) → is_end k ≡ false → IsLexemeAt place text (Ok k) start bytes rest → IsLongestToken text k bytes rest
longest_of place text Variable start bytes rest e b = b.0
longest_of place text Atom start bytes rest e b = b.0
longest_of place text Quoted start bytes rest e b = b.0
longest_of place text Integer start bytes rest e b = b.0
longest_of place text Word start bytes rest e b = b.0
longest_of place text Sign start bytes rest e b = b.0
longest_of place text End start bytes rest e b = absurd cc

moves : (text : List ℕ) (at : ℕ) (t : Token) → IsNextLexeme at (drop at text) (lexeme_of t) (drop t.end text) → IsSlice text at t → is_end t.kind ≡ false → at < t.end
moves text at t n s e =
    let l = longest_of (at + (length (drop at text) - length n.front)) n.front t.kind t.start t.text.now (drop t.end text) e n.begins in
    let some = (token_ends t.text.now t.kind l.spells).some in
    let long : length t.text.now ≡ length (take (t.end - t.start) (drop t.start text)) = ap (λ (xs : List ℕ). length xs) s.slice in
    let o = s.order in
    omega (arith, length-take (t.end - t.start) (drop t.start text))

appended : (symbols : List Symbol) (done : List Lexeme) (l : Lexeme) → symbols ≡ map symbol_of done → symbols ++ symbol_of l ∷ [] ≡ map symbol_of (done ++ l ∷ [])
appended symbols done l e = ap (λ (xs : List Symbol). xs ++ symbol_of l ∷ []) e ∙ sym (map-append symbol_of done (l ∷ []))

placed : (starts : List ℕ) (done : List Lexeme) (l : Lexeme) → starts ≡ map start_of done → starts ++ start_of l ∷ [] ≡ map start_of (done ++ l ∷ [])
placed starts done l e = ap (λ (xs : List ℕ). xs ++ start_of l ∷ []) e ∙ sym (map-append start_of done (l ∷ []))

pub goes_so : (text : List ℕ) (at : ℕ) (symbols : List Symbol) (starts : List ℕ) (t : Token) (symbol : Symbol) (symbols' : List Symbol) (starts' : List ℕ) → SoFar text at symbols starts
    → IsNextLexeme at (drop at text) (lexeme_of t) (drop t.end text) → IsSlice text at t → is_end t.kind ≡ false → symbol ≡ symbol_of (lexeme_of t)
    → symbols' ≡ symbols ++ symbol ∷ [] → starts' ≡ starts ++ t.start ∷ [] → IsFurther text at symbols' starts' t.end
goes_so text at symbols starts t symbol symbols' starts' so n s e is more ends =
    let lt = moves text at t n s e in
    let g = goes_on_of t.kind _ _ e (gives_token text at t n s) in
    let c = so.count in
    let w = s.within in
    let sp = s.span in
    rw (more, ends, is) (record {
      so_far = record {
        done = so.done ++ lexeme_of t ∷ [];
        goes_on = λ ls h. subst (Tokens text) (sym (append_assoc so.done (lexeme_of t ∷ []) ls)) (so.goes_on (lexeme_of t ∷ ls) (g ls h));
        symbols_are = appended symbols so.done (lexeme_of t) so.symbols_are;
        starts_are = placed starts so.done (lexeme_of t) so.starts_are;
        within = each_more (length text) starts t.start so.within (omega arith);
        count = omega (arith, length-append symbols (symbol_of (lexeme_of t) ∷ []));
        place = s.within;
      };
      moves = lt;
    })

last_so : (text : List ℕ) (at : ℕ) (symbols : List Symbol) (starts : List ℕ) (l : Lexeme) (symbols' : List Symbol) (starts' : List ℕ) → SoFar text at symbols starts
    → TokensFrom at (drop at text) (l ∷ []) → l.start ≤ length text → symbols' ≡ symbols ++ symbol_of l ∷ [] → starts' ≡ starts ++ l.start ∷ [] → AreSymbols text symbols' starts'
last_so text at symbols starts l symbols' starts' so h le more ends =
    let c = so.count in
    let p = so.place in
    rw (more, ends) (record {
      tokens = so.done ++ l ∷ [];
      divided = so.goes_on (l ∷ []) h;
      symbols_are = appended symbols so.done l so.symbols_are;
      starts_are = placed starts so.done l so.starts_are;
      within = each_more (length text) starts l.start so.within le;
      few = omega (arith, length-append symbols (symbol_of l ∷ []));
    })

pub ends_so : (text : List ℕ) (at : ℕ) (symbols : List Symbol) (starts : List ℕ) (t : Token) (symbol : Symbol) (symbols' : List Symbol) (starts' : List ℕ) → SoFar text at symbols starts
    → IsNextLexeme at (drop at text) (lexeme_of t) (drop t.end text) → IsSlice text at t → is_end t.kind ≡ true → symbol ≡ symbol_of (lexeme_of t)
    → symbols' ≡ symbols ++ symbol ∷ [] → starts' ≡ starts ++ t.start ∷ [] → AreSymbols text symbols' starts'
ends_so text at symbols starts t symbol symbols' starts' so n s e is more ends =
    let g = goes_last t.kind _ _ e (gives_token text at t n s) in
    let w = s.within in
    let sp = s.span in
    last_so text at symbols starts (lexeme_of t) symbols' starts' so g (omega arith) (more ∙ ap (λ (x : Symbol). symbols ++ x ∷ []) is) ends

pub fault_so : (text : List ℕ) (at : ℕ) (symbols : List Symbol) (starts : List ℕ) (kind : LexKind) (place : ℕ) (symbols' : List Symbol) (starts' : List ℕ) → SoFar text at symbols starts
    → IsFaultNext at (drop at text) (fault_at kind place) → place ≤ length text
    → symbols' ≡ symbols ++ t.Bad kind ∷ [] → starts' ≡ starts ++ place ∷ [] → AreSymbols text symbols' starts'
fault_so text at symbols starts kind place symbols' starts' so n le more ends =
    last_so text at symbols starts (fault_at kind place) symbols' starts' so (n.0, n.1, refl) le more ends
