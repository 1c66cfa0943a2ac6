-- The integers, atoms, labels and features that a program names, as a text can spell them (CTM appendix C, the lexical syntax
-- of Oz).
use Rattle.std.specs.Prelude.{ℕ, ◌≤◌, List, length, map, Bool, not, ◌||◌, ◌==◌, nat_le, Option, Some, None, IsTrue, ℤ}
use Rattle.std.specs.Str.{IsUtf8}
use Rattle.std.specs.List.{list_all}
use Rattle.tree_node.specs.declared.node.Feature.{Feature}
use Rattle.tree_node.specs.declared.node.Feature.TheVariants as feature
use Rattle.tree_node.specs.Each.{Each}
use Rattle.tree_node.specs.Spelling.{atom_text}
use Rattle.kernel_syntax.specs.declared.stmt.Pattern.{Pattern}
use Rattle.kernel_syntax.specs.declared.stmt.Pattern.TheVariants as pattern
use Rattle.kernel_syntax.specs.declared.stmt.Selector.{Selector}
use Rattle.kernel_syntax.specs.declared.stmt.Selector.TheVariants as selector
use Rattle.kernel_syntax.specs.declared.stmt.Stmt.{Stmt}
use Rattle.kernel_syntax.specs.declared.stmt.Stmt.TheVariants as stmt
use Rattle.kernel_syntax.specs.Arithmetic.{is_integer}

-- what may stand in an atom: a newline, and all but the control characters of ASCII
abbrev pub is_text_byte : ℕ → Bool
is_text_byte b = (b == 10) || not (nat_le b 31 || (b == 127))

-- an atom's text: UTF-8 that is spelled in at most 255 bytes, quotes and escapes included
abbrev pub IsText : List ℕ → Type 0
IsText text = IsUtf8 text × IsTrue (list_all is_text_byte text) × (length (atom_text text) ≤ 255)

-- an atom, or an integer of 128 bits
abbrev pub IsFeature : Feature → Type 0
IsFeature (feature.Int value) = IsTrue (is_integer value)
IsFeature (feature.Atom text) = IsText text

-- a text can spell the feature of a selector
abbrev pub IsSpelledSelector : Selector → Type 0
IsSpelledSelector (selector.Var by) = Unit {0}
IsSpelledSelector (selector.Feature f) = IsFeature f

-- a text can spell the integer, the atom, or the label and the features of a pattern
abbrev pub IsSpelledPattern : Pattern → Type 0
IsSpelledPattern (pattern.Int value) = IsTrue (is_integer value)
IsSpelledPattern (pattern.Atom text) = IsText text
IsSpelledPattern (pattern.Rec label features) = IsText label × Each IsFeature features

-- an integer of 128 bits, where there is one
abbrev pub IsIntegerIfSome : Option ℤ → Type 0
IsIntegerIfSome (Some value) = IsTrue (is_integer value)
IsIntegerIfSome None = Unit {0}

-- each atom, label and feature of the statement is an atom's text, and each integer one of 128 bits
abbrev pub HasTexts : Stmt → Type 0
HasTexts (stmt.TellInt left value) = IsTrue (is_integer value)
HasTexts (stmt.TellAtom left text) = IsText text
HasTexts (stmt.TellRec left label fields) = IsText label × Each IsFeature (map (λ (f : Feature × ℕ). f.0) fields)
HasTexts (stmt.Select left source by) = IsSpelledSelector by
HasTexts (stmt.Case subject pattern first chosen other) = IsSpelledPattern pattern
HasTexts (stmt.Thread at body) = IsIntegerIfSome at
HasTexts _ = Unit {0}
