-- Units and messages that have nothing to do with a cell or a port.
use Rattle.std.specs.Prelude.{◌≡◌, ◌≢◌, List, ◌⊎◌, None}
use Rattle.tree_node.specs.declared.names.VarName.{VarName}
use Rattle.tree_node.specs.declared.names.CellName.{CellName}
use Rattle.tree_node.specs.declared.names.Name.{Name}
use Rattle.tree_node.specs.declared.names.NameKind.{NameKind}
use Rattle.tree_node.specs.State.{Stack}
use Rattle.tree_node.specs.Store.{Store}
use Rattle.kernel_syntax.specs.declared.stmt.Stmt.{Stmt}
use Rattle.site_message.specs.declared.message.Msg.{Msg}
use Rattle.site_message.specs.declared.message.Msg.TheVariants as msg
use Rattle.oz_model.specs.Need.{Takes, stack_need}
use Rattle.oz_model.specs.Effect.{Effect, CellChange, Stays, Made, Exchanged, PortChange, Keeps, Opened, Sent, stack_effect}

-- the effect is on a port, or on a stationary cell, which are kept at one site
abbrev pub IsKept : Effect → Type 0
IsKept e = by_port e.port
  where
    by_cell : CellChange → Type 0
    by_cell Stays = ⊥
    by_cell (Made c v) = c.at ≢ 0
    by_cell (Exchanged c new told) = c.at ≢ 0

    by_port : PortChange → Type 0
    by_port Keeps = by_cell e.cell
    by_port (Opened q end) = Unit {0}
    by_port (Sent q value new) = Unit {0}

-- the unit exchanges a mobile cell, here or not yet
abbrev pub IsExchangeOf : Effect → Type 0
IsExchangeOf e = (d : CellName) × (new : VarName) × (told : VarName) × (e.cell ≡ Exchanged d new told) × (d.at ≡ 0) × (e.port ≡ Keeps)

-- the unit exchanges a cell, or it is on a port or on a stationary cell, here or not yet
abbrev pub IsCellUnit : List Stmt → Store → Stack → Type 0
IsCellUnit p s st = (kinds : List NameKind) × (fresh : List Name) × (stack_need p s st ≡ Takes kinds) × (IsExchangeOf (stack_effect p s fresh None st) ⊎ IsKept (stack_effect p s fresh None st))

-- it is about a variable or a thread
abbrev pub IsPlain : Msg → Type 0
IsPlain (msg.Get c k) = ⊥
IsPlain (msg.Forward c k) = ⊥
IsPlain (msg.Put c v bundle) = ⊥
IsPlain (msg.PortSend q n k) = ⊥
IsPlain (msg.PortEnd n old new bundle) = ⊥
IsPlain (msg.CellMake c v bundle) = ⊥
IsPlain (msg.CellAsk c n k v bundle) = ⊥
IsPlain (msg.CellOld n v bundle) = ⊥
IsPlain _ = Unit {0}
