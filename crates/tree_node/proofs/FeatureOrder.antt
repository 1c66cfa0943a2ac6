-- The order of features.
use Rattle.std.proofs.Common.{◌≡◌, refl}
use Rattle.std.specs.declared.cmp.Ordering.TheVariants.{Less}
use Rattle.std.proofs.lemmas.Cmp.{int_cmp_total, nat_list_cmp_total}
use Rattle.tree_node.specs.declared.node.Feature.{Feature}
use Rattle.tree_node.specs.declared.node.Feature.TheVariants as feature
use Rattle.tree_node.specs.Node.{feature_cmp}

pub feature_trans : (f g h : Feature) → feature_cmp f g ≡ Less → feature_cmp g h ≡ Less → feature_cmp f h ≡ Less
feature_trans (feature.Int a) (feature.Int b) (feature.Int c) p q = int_cmp_total.trans a b c p q
feature_trans (feature.Int a) (feature.Int b) (feature.Atom c) p q = refl
feature_trans (feature.Int a) (feature.Atom b) (feature.Int c) p q = cc
feature_trans (feature.Int a) (feature.Atom b) (feature.Atom c) p q = refl
feature_trans (feature.Atom a) (feature.Int b) h p q = cc
feature_trans (feature.Atom a) (feature.Atom b) (feature.Int c) p q = cc
feature_trans (feature.Atom a) (feature.Atom b) (feature.Atom c) p q = nat_list_cmp_total.trans a b c p q
