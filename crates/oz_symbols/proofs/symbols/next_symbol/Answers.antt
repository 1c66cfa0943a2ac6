use Rattle.std.proofs.Common.{◌≡◌, ◌≤◌, ◌++◌, [], ◌∷◌, true, false, drop, length, rules}
use Rattle.oz_lexer.specs.Tokens.{IsNextLexeme}
use Rattle.oz_lexer.specs.Lexer.{lexeme_of, fault_at, IsFaultNext, IsSlice}
use Rattle.oz_grammar.specs.declared.symbol.Symbol.TheVariants as t
use Rattle.oz_grammar.specs.Symbols.{symbol_of}
use Rattle.oz_symbols.specs.TextSymbols.{is_end}
use Rattle.oz_symbols.proofs.TokenLists.{goes_so, ends_so, fault_so}
use Rattle.oz_symbols.proofs.symbols.next_symbol.Goals as goal

pub returns-then-is_end : goal.returns-then-is_end
returns-then-is_end c =
    let n : IsNextLexeme c.args.at (drop c.args.at c.args.text.now) (lexeme_of c.in-Ok.token) (drop c.in-Ok.token.end c.args.text.now) = c.in-Ok.ensures.next in
    let s : IsSlice c.args.text.now c.args.at c.in-Ok.token = c.in-Ok.ensures.slice in
    let e : is_end c.in-Ok.token.kind ≡ true = search rules in
    let is : c.in_ok-symbol-in-Ok.symbol ≡ symbol_of (lexeme_of c.in-Ok.token) = search rules in
    let more : c.add.new.symbols.items ≡ c.args.symbols.now.items ++ c.in_ok-symbol-in-Ok.symbol ∷ [] = search rules in
    let starts : c.add.new.starts.items ≡ c.args.starts.now.items ++ c.in-Ok.token.start ∷ [] = search rules in
    ends_so c.args.text.now c.args.at c.args.symbols.now.items c.args.starts.now.items c.in-Ok.token c.in_ok-symbol-in-Ok.symbol c.add.new.symbols.items c.add.new.starts.items c.requires n s e is more starts

pub returns-else-is_end : goal.returns-else-is_end
returns-else-is_end c =
    let n : IsNextLexeme c.args.at (drop c.args.at c.args.text.now) (lexeme_of c.in-Ok.token) (drop c.in-Ok.token.end c.args.text.now) = c.in-Ok.ensures.next in
    let s : IsSlice c.args.text.now c.args.at c.in-Ok.token = c.in-Ok.ensures.slice in
    let e : is_end c.in-Ok.token.kind ≡ false = search rules in
    let is : c.in_ok-symbol-in-Ok.symbol ≡ symbol_of (lexeme_of c.in-Ok.token) = search rules in
    let more : c.add.new.symbols.items ≡ c.args.symbols.now.items ++ c.in_ok-symbol-in-Ok.symbol ∷ [] = search rules in
    let starts : c.add.new.starts.items ≡ c.args.starts.now.items ++ c.in-Ok.token.start ∷ [] = search rules in
    goes_so c.args.text.now c.args.at c.args.symbols.now.items c.args.starts.now.items c.in-Ok.token c.in_ok-symbol-in-Ok.symbol c.add.new.symbols.items c.add.new.starts.items c.requires n s e is more starts

pub returns-in_ok-add-in-Err : goal.returns-in_ok-add-in-Err
returns-in_ok-add-in-Err c =
    let n : IsFaultNext c.args.at (drop c.args.at c.args.text.now) (fault_at c.in-Err.kind c.in-Err.place) = search rules in
    let within : c.in-Err.place ≤ length c.args.text.now = search rules in
    let more : c.add-in-Err.new.symbols.items ≡ c.args.symbols.now.items ++ t.Bad c.in-Err.kind ∷ [] = search rules in
    let starts : c.add-in-Err.new.starts.items ≡ c.args.starts.now.items ++ c.in-Err.place ∷ [] = search rules in
    fault_so c.args.text.now c.args.at c.args.symbols.now.items c.args.starts.now.items c.in-Err.kind c.in-Err.place c.add-in-Err.new.symbols.items c.add-in-Err.new.starts.items c.requires n within more starts
