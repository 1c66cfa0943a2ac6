-- What a comparison answers, and what it has found of a pair.
use Rattle.std.specs.Prelude.{◌≡◌, length}
use Rattle.tree_node.specs.Compare.{Relation, Alike, Apart, Parts, Unknown, paired, Comparison, Equal, Different, Open}
use Rattle.tree_store.specs.declared.compare.Compared.{Compared}
use Rattle.tree_store.specs.declared.compare.Compared.TheVariants as answer
use Rattle.tree_store.specs.declared.compare.Finding.{Finding}
use Rattle.tree_store.specs.declared.compare.Finding.TheVariants as finding

-- the answer of the definitions
abbrev pub comparison_of : Compared → Comparison
comparison_of answer.Equal = Equal
comparison_of answer.Different = Different
comparison_of (answer.Open vars) = Open vars

-- what a pair tells
abbrev pub IsFinding : Relation → Finding → Type 0
IsFinding r finding.Alike = r ≡ Alike
IsFinding r finding.Apart = r ≡ Apart
IsFinding r (finding.Parts xs ys) = (r ≡ Parts (paired xs.now ys.now)) × (length xs.now ≡ length ys.now)
IsFinding r finding.Unknown = r ≡ Unknown
