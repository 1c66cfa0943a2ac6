-- The worked examples of goals, computed.
use Rattle.std.proofs.Common.{refl, inl, inr}
use Rattle.tree_node.specs.declared.node.Term.TheVariants as term
use Rattle.tree_node.specs.Goal.{IsAllowedBind}
use Rattle.tree_node.specs.Rows.{v, three_known, PartsAreTold, EitherIsBound, RingIsMet, PairsAreCompared}

pub parts_are_told : PartsAreTold
parts_are_told = record {
  opens = refl;
  binds = refl;
  to_variable = inl ((refl, refl), refl);
  to_node = inl ((refl, refl), refl);
  not_back = not_back;
  drops = refl;
  fails = refl;
  stays = refl;
}
  where
    not_back : IsAllowedBind three_known (term.Var (v 0)) (term.Var (v 5)) (v 5, term.Var (v 0)) → ⊥
    not_back (inl h) = cc
    not_back (inr h) = cc

pub either_is_bound : EitherIsBound
either_is_bound = (inl ((refl, refl), refl), inr ((refl, refl), refl))

pub ring_is_met : RingIsMet
ring_is_met = (refl, refl)

pub pairs_are_compared : PairsAreCompared
pairs_are_compared = record { apart = refl; together = refl; crossed = refl; by_three = refl; ring = refl; nothing = refl; itself = refl; one_class = refl; one_text = refl; other_kind = refl; record_and_atom = refl; other_label = refl; one_known = refl }
