-- Programs with sugar as their texts have them.
use Rattle.std.specs.Prelude.{ℕ, List}
use Rattle.kernel_syntax.specs.declared.sugar.Statement.{Statement}

-- the statements of the tree, the text, and the place where each symbol of the text begins
pub record SurfaceParts : Type 0 where
  pub tree : List Statement
  pub text : List ℕ
  pub starts : List ℕ

-- one of these parts
abbrev pub surface_of : List Statement → List ℕ → List ℕ → SurfaceParts
surface_of tree text starts = record { tree = tree; text = text; starts = starts }
