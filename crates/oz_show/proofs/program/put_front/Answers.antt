use Rattle.std.proofs.Common.{◌≡◌, refl, List, [], ◌∷◌}
use Rattle.tree_node.specs.declared.names.CodeId.{CodeId}
use Rattle.oz_grammar.specs.declared.symbol.Symbol.{Symbol}
use Rattle.oz_grammar.specs.Canonical.{bodies_symbols}
use Rattle.oz_show.proofs.program.put_front.Goals as goal

-- what stands there already in place of the first body
kept : (here : List Symbol) (bodies : List CodeId) → here ≡ bodies_symbols (λ c rest. here) bodies here
kept here [] = refl
kept here (body ∷ bodies) = refl

pub returns-in-Seq : goal.returns-in-Seq
returns-in-Seq c = rw c.in-Seq.is (kept _ _)
