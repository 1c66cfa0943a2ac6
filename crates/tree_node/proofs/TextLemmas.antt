-- A node has equal text with itself.
use Rattle.std.proofs.Common.{rules, ◌≡◌, refl, ℕ, List, [], ◌∷◌, true, ◌&&◌}
use Rattle.std.specs.Prelude.{◌==◌}
use Rattle.std.specs.Str.{bytes_eq}
use Rattle.std.proofs.lemmas.Slice.Eq.{bytes_eq-Decides}
use Rattle.std.proofs.lemmas.Bool.Decides.{Decides-int_eq}
use Rattle.tree_node.specs.declared.names.VarName.{VarName}
use Rattle.tree_node.specs.declared.node.Feature.{Feature}
use Rattle.tree_node.specs.declared.node.Feature.TheVariants as feature
use Rattle.tree_node.specs.declared.node.Node.{Node}
use Rattle.tree_node.specs.declared.node.Node.TheVariants as node
use Rattle.tree_node.specs.Goal.{equal_text, equal_feature, equal_fields}
use Rattle.tree_node.proofs.ClassLemmas.{same_name_refl}

pub bytes_refl : (xs : List ℕ) → bytes_eq xs xs ≡ true
bytes_refl xs = (bytes_eq-Decides xs xs).1 refl

pub name_refl : (a b : ℕ) → ((a == a) && (b == b)) ≡ true
name_refl a b = search rules

cell_refl : (a b c : ℕ) → ((a == a) && ((b == b) && (c == c))) ≡ true
cell_refl a b c = search rules

pub feature_refl : (f : Feature) → equal_feature f f ≡ true
feature_refl (feature.Int z) = (Decides-int_eq z z).1 refl
feature_refl (feature.Atom t) = bytes_refl t

pub fields_refl : (xs : List (Feature × VarName)) → equal_fields xs xs ≡ true
fields_refl [] = refl
fields_refl ((f, x) ∷ xs) = rw (feature_refl f, same_name_refl x, fields_refl xs) refl

pub equal_text_refl : (n : Node) → equal_text n n ≡ true
equal_text_refl (node.Int z) = (Decides-int_eq z z).1 refl
equal_text_refl (node.Atom t) = bytes_refl t
equal_text_refl (node.Rec label fields) = rw (bytes_refl label, fields_refl fields) refl
equal_text_refl (node.Proc formals code name vars) = name_refl name.site name.num
equal_text_refl (node.Cell name) = cell_refl name.site name.at name.num
equal_text_refl (node.Port name) = name_refl name.site name.num
