-- Reserved words, those that the grammar uses and those that it keeps for later.
use Rattle.std.specs.Prelude.{ℕ, List, [], ◌∷◌, ◌++◌, Bool, ◌==◌, length, codes}
use Rattle.std.specs.Borrow.{Bor}
use Rattle.std.specs.List.{filter, list_any}
use Rattle.std.specs.Str.{bytes_eq}

-- those that the grammar uses
abbrev pub grammar_words : List (List ℕ)
grammar_words =
    codes "skip" ∷ codes "local" ∷ codes "in" ∷ codes "end" ∷ codes "if" ∷ codes "then" ∷ codes "else"
    ∷ codes "case" ∷ codes "of" ∷ codes "thread" ∷ codes "at" ∷ codes "try" ∷ codes "catch" ∷ codes "finally"
    ∷ codes "raise" ∷ codes "proc" ∷ codes "fun" ∷ codes "div" ∷ codes "mod" ∷ []

-- those that it keeps for later
abbrev pub later_words : List (List ℕ)
later_words =
    codes "andthen" ∷ codes "attr" ∷ codes "choice" ∷ codes "class" ∷ codes "cond" ∷ codes "declare"
    ∷ codes "define" ∷ codes "dis" ∷ codes "elsecase" ∷ codes "elseif" ∷ codes "export" ∷ codes "fail"
    ∷ codes "feat" ∷ codes "from" ∷ codes "functor" ∷ codes "import" ∷ codes "lock" ∷ codes "meth"
    ∷ codes "not" ∷ codes "or" ∷ codes "orelse" ∷ codes "prepare" ∷ codes "prop" ∷ codes "require"
    ∷ codes "self" ∷ codes "unit" ∷ []

-- all of them
unfoldable pub reserved_words : List (List ℕ)
reserved_words = grammar_words ++ later_words

-- those of so many letters
abbrev pub words_of_length : ℕ → List (List ℕ)
words_of_length n = filter (λ word. length word == n) reserved_words

-- the text is one of them
abbrev pub is_reserved : List ℕ → Bool
is_reserved text = list_any (λ word. bytes_eq text word) reserved_words

-- the bytes behind a reference
abbrev pub now_of : Bor (List ℕ) → List ℕ
now_of b = b.now
