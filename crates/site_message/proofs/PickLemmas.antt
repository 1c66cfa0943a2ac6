-- Lists of picks without one.
use Rattle.std.proofs.Common.{arith, ◌≡◌, sym, refl, List, [], ◌∷◌, ◌++◌, length}
use Rattle.std.proofs.lemmas.List.{append-nil}
use Rattle.tree_node.specs.declared.pick.Pick.{Pick}

-- of no length, it is the empty list
pub no_picks : (ps : List Pick) → length ps ≡ 0 → ps ≡ []
no_picks [] e = refl
no_picks (p ∷ ps) e = absurd (omega (arith, e))

-- put behind others it changes nothing
pub none_put : (ps qs : List Pick) → length qs ≡ 0 → ps ≡ ps ++ qs
none_put ps [] e = sym (append-nil ps)
none_put ps (q ∷ qs) e = absurd (omega (arith, e))
