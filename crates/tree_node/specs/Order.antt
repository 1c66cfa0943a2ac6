-- The order of names: names of one kind by the site that made them, then by number.
use Rattle.std.specs.Prelude.{◌≡◌, ℕ, ◌<◌, ◌⊎◌}
use Rattle.tree_node.specs.declared.names.VarName.{VarName}
use Rattle.tree_node.specs.declared.names.Name.{Name}
use Rattle.tree_node.specs.declared.names.Name.TheVariants as name
use Rattle.tree_node.specs.declared.node.Term.{Term}
use Rattle.tree_node.specs.declared.node.Term.TheVariants as term

-- variables by site, then by number
abbrev pub IsBelow : VarName → VarName → Type 0
IsBelow v u = (v.site < u.site) ⊎ ((v.site ≡ u.site) × (v.num < u.num))

-- a variable on the right is below the one on the left
abbrev pub IsLower : Term → VarName → Type 0
IsLower (term.Var v) u = IsBelow v u
IsLower (term.Node n) u = Unit {0}

-- the site that made the name
abbrev pub site_of : Name → ℕ
site_of (name.Var x) = x.site
site_of (name.Cell x) = x.site
site_of (name.Port x) = x.site
site_of (name.Proc x) = x.site
site_of (name.Thread x) = x.site

-- the name's number, among those of its kind and site
abbrev pub num_of : Name → ℕ
num_of (name.Var x) = x.num
num_of (name.Cell x) = x.num
num_of (name.Port x) = x.num
num_of (name.Proc x) = x.num
num_of (name.Thread x) = x.num
