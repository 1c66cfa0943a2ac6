-- What of a message's fitness speaks of variables, names and sites.
use Rattle.std.specs.Prelude.{◌≡◌, ◌≤◌, Contains}
use Rattle.tree_node.specs.declared.names.Name.{Name}
use Rattle.tree_node.specs.declared.names.Name.TheVariants as name
use Rattle.tree_node.specs.declared.names.VarName.{VarName}
use Rattle.tree_node.specs.declared.node.Feature.{Feature}
use Rattle.tree_node.specs.declared.node.Term.{Term}
use Rattle.tree_node.specs.Order.{IsLower, site_of}
use Rattle.tree_node.specs.Store.{Equation}
use Rattle.site_message.specs.declared.message.Msg.{Msg}
use Rattle.site_message.specs.declared.message.Msg.TheVariants as msg
use Rattle.site_model.specs.Site.{Site, Counters}
use Rattle.site_model.specs.Fit.{CanTake, IsBelowCounter, home_of_name}
use Rattle.site_variables.specs.declared.variables.Variables.{Variables}
use Rattle.site_variables.specs.declared.names.Bounds.{Bounds}

-- the site with these variables
abbrev pub with_variables : Site → Variables → Site
with_variables s v = record s { equations = v.store.equations; records = v.binder }

-- ---- names

-- the counters of names in the bounds
abbrev pub counters_of : Bounds → Counters
counters_of b = record { vars = b.vars; cells = b.cells; procs = b.procs; threads = b.threads; ports = b.ports; sites = b.sites }

-- the number and the counters of the site are those of the bounds
abbrev pub IsBoundOf : Bounds → Site → Type 0
IsBoundOf b s = (s.records.site ≡ b.site) × (record s.counters { sites = b.sites } ≡ counters_of b)

-- the name is one of the sites', its home is one of them or none, and it was made where it is the site's own
abbrev pub IsWithin : Bounds → Name → Type 0
IsWithin b x = (1 ≤ site_of x) × (site_of x ≤ b.sites) × (home_of_name x ≤ b.sites) × (site_of x ≡ b.site → IsBelowCounter (counters_of b) x)

-- a variable within the bounds
abbrev pub IsVarWithin : Bounds → VarName → Type 0
IsVarWithin b x = IsWithin b (name.Var x)

-- a field whose variable is within the bounds
abbrev pub IsFieldWithin : Bounds → Feature × VarName → Type 0
IsFieldWithin b f = IsWithin b (name.Var f.1)

-- ---- conditions

-- the conditions of the calls on variables that the message leads to
abbrev pub CanTakeVariable : Site → Msg → Type 0
CanTakeVariable s (msg.Register x k) = CanTake s (msg.Register x k)
CanTakeVariable s (msg.BindReq x n t bundle) = CanTake s (msg.BindReq x n t bundle)
CanTakeVariable s (msg.Binding x t bundle) = CanTake s (msg.Binding x t bundle)
CanTakeVariable s _ = Unit {0}

-- the equation leads down, is the one that is known here where there is one, and tells nothing new of an own variable
pub record EquationFits (v : Variables) (e : Equation) : Type 0 where
  pub down : IsLower e.1 e.0
  pub same : (r : Term) → Contains v.store.equations (e.0, r) → e.1 ≡ r
  pub own : e.0.site ≡ v.binder.site → Contains v.store.equations (e.0, e.1)
