-- How refusals are worded.
use Rattle.std.specs.Prelude.{ℕ, List, ◌++◌, ◌∷◌, codes, decimal}
use Rattle.oz_lexer.specs.declared.token.LexKind.{LexKind}
use Rattle.oz_lexer.specs.declared.token.LexKind.TheVariants as lex
use Rattle.oz_grammar.specs.declared.fault.What.{What}
use Rattle.oz_grammar.specs.declared.fault.What.TheVariants as what
use Rattle.oz_grammar.specs.declared.fault.FaultKind.{FaultKind}
use Rattle.oz_grammar.specs.declared.fault.FaultKind.TheVariants.{Lex, Expected, Number, Site, Deep, Wide, Twice, Unbound}
use Rattle.oz_grammar.specs.declared.fault.TextFault.{TextFault}

-- what is wrong with a token that is none
abbrev pub lex_text : LexKind → List ℕ
lex_text lex.BadChar = codes "bad character"
lex_text lex.OpenQuote = codes "open quote"
lex_text lex.BadEscape = codes "bad escape"
lex_text lex.OpenComment = codes "open comment"
lex_text lex.LongName = codes "name too long"

-- what was expected
abbrev pub what_text : What → List ℕ
what_text what.Statement = codes "a statement"
what_text what.StatementOrAt = codes "a statement or at"
what_text what.StatementOrEnd = codes "a statement or end"
what_text what.StatementOrElse = codes "a statement or else"
what_text what.StatementOrCatch = codes "a statement or catch"
what_text what.StatementOrEndOfText = codes "a statement or the end of the text"
what_text what.Variable = codes "a variable"
what_text what.VariableOrIn = codes "a variable or in"
what_text what.Equals = codes "="
what_text what.Value = codes "a value"
what_text what.VariableOrFeature = codes "a variable or a feature"
what_text what.Then = codes "then"
what_text what.Of = codes "of"
what_text what.Pattern = codes "a pattern"
what_text what.Bar = codes "|"
what_text what.End = codes "end"
what_text what.VariableOrClose = codes "a variable or }"
what_text what.Close = codes "}"
what_text what.Integer = codes "an integer"
what_text what.OpenBrace = codes "{"
what_text what.Dollar = codes "$"
what_text what.FieldOrBracket = codes "a field or )"
what_text what.Colon = codes ":"
what_text what.ValueOrClose = codes "a value or }"
what_text what.Else = codes "else"
what_text what.CloseRound = codes ")"
what_text what.ClauseOrElse = codes "[] or else"
what_text what.StatementOrClause = codes "a statement, [] or else"
what_text what.StatementOrHandler = codes "a statement, catch or finally"
what_text what.StatementOrFinally = codes "a statement, finally or end"

-- what is wrong
abbrev pub fault_text : FaultKind → List ℕ
fault_text (Lex kind) = lex_text kind
fault_text (Expected w) = codes "expected " ++ what_text w
fault_text Number = codes "bad number"
fault_text Site = codes "site below 1"
fault_text Deep = codes "nested too deep"
fault_text Wide = codes "too many items"
fault_text Twice = codes "given twice"
fault_text Unbound = codes "undeclared"

-- refused L:C and what is wrong there
abbrev pub fault_line : TextFault → List ℕ
fault_line f = codes "refused " ++ decimal f.line ++ 58 ∷ decimal f.column ++ 32 ∷ fault_text f.kind
