use Rattle.std.proofs.Common.{◌≡◌, ◌++◌}
use Rattle.tree_node.specs.declared.names.VarName.{VarName}
use Rattle.tree_store.specs.Links.{entry_in, IsRepresentative, AreClasses, visited}
use Rattle.tree_store.proofs.links.Links.members.Given as goal

abbrev pub invariant-members : goal.invariant-members
invariant-members l =
    (t : VarName) × IsRepresentative (entry_in l.self) t × ((root : VarName → VarName) → AreClasses root (entry_in l.self) → root t ≡ root l.fn.var)
    × (l.members.items ++ visited (entry_in l.self) l.at l.left ≡ visited (entry_in l.self) t (entry_in l.self t).size)

abbrev pub decreases-members : goal.decreases-members
decreases-members l = l.left
