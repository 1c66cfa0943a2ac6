-- Which names occur in an effect.
use Rattle.std.specs.Prelude.{Option, Some, None}
use Rattle.tree_node.specs.declared.names.VarName.{VarName}
use Rattle.tree_node.specs.declared.names.Name.{Name}
use Rattle.tree_node.specs.declared.names.Name.TheVariants as name
use Rattle.tree_node.specs.Each.{Each}
use Rattle.tree_node.specs.Names.{EachOfEquation, EachOfStack}
use Rattle.oz_model.specs.Effect.{Birth, CellChange, Stays, Made, Exchanged, PortChange, Keeps, Opened, Sent, Effect}

-- P holds of each name of a new thread: its own, and its variables
abbrev pub EachOfBirth : (Name → Type 0) → Option Birth → Type 0
EachOfBirth P None = Unit {0}
EachOfBirth P (Some b) = P (name.Thread b.name) × Each (λ (x : VarName). P (name.Var x)) b.vars

-- P holds of each name of what becomes of a cell
abbrev pub EachOfChange : (Name → Type 0) → CellChange → Type 0
EachOfChange P Stays = Unit {0}
EachOfChange P (Made cell content) = P (name.Cell cell) × P (name.Var content)
EachOfChange P (Exchanged cell new told) = P (name.Cell cell) × P (name.Var new) × P (name.Var told)

-- P holds of each name of what becomes of a port
abbrev pub EachOfPortChange : (Name → Type 0) → PortChange → Type 0
EachOfPortChange P Keeps = Unit {0}
EachOfPortChange P (Opened port end) = P (name.Port port) × P (name.Var end)
EachOfPortChange P (Sent port value new) = P (name.Port port) × P (name.Var value) × P (name.Var new)

-- P holds of each name of the effect
pub record EachOfEffect (P : Name → Type 0) (e : Effect) : Type 0 where
  pub adds : Each (EachOfEquation P) e.adds
  pub stack : EachOfStack P e.stack
  pub born : EachOfBirth P e.born
  pub cell : EachOfChange P e.cell
  pub port : EachOfPortChange P e.port
