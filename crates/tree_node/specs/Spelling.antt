-- How integers, atoms, features and the heads of nodes are spelled.
use Rattle.std.specs.Prelude.{ℕ, suc, List, [], ◌∷◌, ◌++◌, Bool, ◌&&◌, ◌||◌, ◌==◌, ℤ, pos, negsuc, if◌then◌else◌, codes, slice_index, not}
use Rattle.std.specs.Fmt.{decimal}
use Rattle.std.specs.Char.{is_ascii_lowercase, is_ascii_alphanumeric}
use Rattle.std.specs.List.{list_all}
use Rattle.tree_node.specs.declared.node.Feature.{Feature}
use Rattle.tree_node.specs.declared.node.Feature.TheVariants as feature
use Rattle.tree_node.specs.declared.node.Node.{Node}
use Rattle.tree_node.specs.declared.node.Node.TheVariants as node
use Rattle.tree_node.specs.Words.{is_reserved}

-- decimal, with ~ before a negative integer
abbrev pub int_text : ℤ → List ℕ
int_text (pos n) = decimal n
int_text (negsuc n) = 126 ∷ decimal (suc n)

-- a letter, a digit or _
abbrev pub is_word_byte : ℕ → Bool
is_word_byte c = is_ascii_alphanumeric c || (c == 95)

-- a lower-case letter, then letters, digits and _, and no reserved word
abbrev pub is_bare : List ℕ → Bool
is_bare t = is_ascii_lowercase (slice_index t 0) && (list_all is_word_byte t && not (is_reserved t))

-- newlines as \n, and \ before ' and \
abbrev pub escaped_text : List ℕ → List ℕ
escaped_text [] = []
escaped_text (c ∷ cs) =
    (if c == 10 then 92 ∷ 110 ∷ [] else (if (c == 39) || (c == 92) then 92 ∷ c ∷ [] else c ∷ [])) ++ escaped_text cs

-- bare where that can be read back, else in single quotes
abbrev pub atom_text : List ℕ → List ℕ
atom_text t = if is_bare t then t else 39 ∷ (escaped_text t ++ 39 ∷ [])

-- an integer or an atom
abbrev pub feature_text : Feature → List ℕ
feature_text (feature.Int z) = int_text z
feature_text (feature.Atom t) = atom_text t

-- <P/n>, where n is the number of formals
abbrev pub proc_text : ℕ → List ℕ
proc_text formals = codes "<P/" ++ (decimal formals ++ 62 ∷ [])

-- what a node prints before its fields
abbrev pub head_text : Node → List ℕ
head_text (node.Int z) = int_text z
head_text (node.Atom t) = atom_text t
head_text (node.Rec label fields) = atom_text label
head_text (node.Proc formals code name vars) = proc_text formals
head_text (node.Cell name) = codes "<Cell>"
head_text (node.Port name) = codes "<Port>"
