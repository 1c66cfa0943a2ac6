-- What the types of the numbers in a message hold by themselves, and its integers.
use Rattle.std.specs.Prelude.{ℕ, zero, suc, ◌<◌, ◌^◌, List, ℤ, FitsSigned}
use Rattle.std.specs.Int.{w64}
use Rattle.tree_node.specs.declared.names.VarName.{VarName}
use Rattle.tree_node.specs.declared.node.Feature.{Feature}
use Rattle.tree_node.specs.declared.node.Feature.TheVariants as features
use Rattle.tree_node.specs.declared.node.Node.TheVariants as nodes
use Rattle.tree_node.specs.declared.node.Term.{Term}
use Rattle.tree_node.specs.declared.node.Term.TheVariants as terms
use Rattle.tree_node.specs.Each.{Each}
use Rattle.tree_node.specs.Store.{Equation}
use Rattle.site_message.specs.declared.message.Msg.{Msg}
use Rattle.site_message.specs.declared.message.Msg.TheVariants as messages
use Rattle.wire_reader.specs.declared.form.Form.{Form}
use Rattle.wire_reader.specs.declared.form.Form.TheVariants as forms

-- a number that a word of 64 bits holds
abbrev pub HoldsName : ℕ → Type 0
HoldsName num = num < 2 ^ 64

-- the variable's number is such a number
abbrev pub HoldsVar : VarName → Type 0
HoldsVar x = HoldsName x.num

-- the variable of the field is held so
abbrev pub HoldsField : Feature × VarName → Type 0
HoldsField field = HoldsVar field.1

-- names in the term have 64 bits, and the number of a code has 32
abbrev pub HoldsTerm : Term → Type 0
HoldsTerm (terms.Var x) = HoldsVar x
HoldsTerm (terms.Node (nodes.Int z)) = Unit {0}
HoldsTerm (terms.Node (nodes.Atom t)) = Unit {0}
HoldsTerm (terms.Node (nodes.Rec label fields)) = Each HoldsField fields
HoldsTerm (terms.Node (nodes.Proc n c p vars)) = HoldsName p.num × (c.0 < 2 ^ 32) × Each HoldsVar vars
HoldsTerm (terms.Node (nodes.Cell c)) = HoldsName c.num
HoldsTerm (terms.Node (nodes.Port q)) = HoldsName q.num

-- both sides of an equation are held so
abbrev pub HoldsEquation : Equation → Type 0
HoldsEquation e = HoldsVar e.0 × HoldsTerm e.1

-- each equation is held so
abbrev pub HoldsBundle : List Equation → Type 0
HoldsBundle es = Each HoldsEquation es

-- the numbers of names are below 2 ^ 64, and those of codes below 2 ^ 32
abbrev pub HoldsNumbers : Msg → Type 0
HoldsNumbers (messages.Spawn t c vars es) = HoldsName t.num × (c.0 < 2 ^ 32) × Each HoldsVar vars × HoldsBundle es
HoldsNumbers (messages.Register x asking) = HoldsVar x
HoldsNumbers (messages.BindReq x t u es) = HoldsVar x × HoldsName t.num × HoldsTerm u × HoldsBundle es
HoldsNumbers (messages.Binding x u es) = HoldsVar x × HoldsTerm u × HoldsBundle es
HoldsNumbers (messages.Get c asking) = HoldsName c.num
HoldsNumbers (messages.Forward c next) = HoldsName c.num
HoldsNumbers (messages.Put c x es) = HoldsName c.num × HoldsVar x × HoldsBundle es
HoldsNumbers (messages.PortSend q t asking) = HoldsName q.num × HoldsName t.num
HoldsNumbers (messages.PortEnd t old new es) = HoldsName t.num × HoldsVar old × HoldsVar new × HoldsBundle es
HoldsNumbers (messages.CellMake c x es) = HoldsName c.num × HoldsVar x × HoldsBundle es
HoldsNumbers (messages.CellAsk c t asking new es) = HoldsName c.num × HoldsName t.num × HoldsVar new × HoldsBundle es
HoldsNumbers (messages.CellOld t x es) = HoldsName t.num × HoldsVar x × HoldsBundle es

-- the feature, if it is an integer, has the property
abbrev pub EachInFeature : (ℤ → Type 0) → Feature → Type 0
EachInFeature P (features.Int z) = P z
EachInFeature P (features.Atom t) = Unit {0}

-- so has that of the field
abbrev pub EachInField : (ℤ → Type 0) → Feature × VarName → Type 0
EachInField P field = EachInFeature P field.0

-- a cell is mobile, with its home 0, or Q holds
abbrev pub IsMobileOr : Type 0 → ℕ → Type 0
IsMobileOr Q zero = Unit {0}
IsMobileOr Q (suc k) = Q

-- each integer of the term, features included, has the property; and where it is a port or a stationary cell, Q holds
abbrev pub EachInTerm : (ℤ → Type 0) → Type 0 → Term → Type 0
EachInTerm P Q (terms.Var x) = Unit {0}
EachInTerm P Q (terms.Node (nodes.Int z)) = P z
EachInTerm P Q (terms.Node (nodes.Atom t)) = Unit {0}
EachInTerm P Q (terms.Node (nodes.Rec label fields)) = Each (EachInField P) fields
EachInTerm P Q (terms.Node (nodes.Proc n c p vars)) = Unit {0}
EachInTerm P Q (terms.Node (nodes.Cell c)) = IsMobileOr Q c.at
EachInTerm P Q (terms.Node (nodes.Port q)) = Q

-- so it is with the equation's term
abbrev pub EachInEquation : (ℤ → Type 0) → Type 0 → Equation → Type 0
EachInEquation P Q e = EachInTerm P Q e.1

-- so it is with each equation of the bundle
abbrev pub EachInBundle : (ℤ → Type 0) → Type 0 → List Equation → Type 0
EachInBundle P Q es = Each (EachInEquation P Q) es

-- each integer of the message, features included, has the property; and where it asks the owner of a port or the home of a cell, or
-- answers, or has one of those in a term, Q holds
abbrev pub EachInMessage : (ℤ → Type 0) → Type 0 → Msg → Type 0
EachInMessage P Q (messages.Spawn t c vars es) = EachInBundle P Q es
EachInMessage P Q (messages.Register x asking) = Unit {0}
EachInMessage P Q (messages.BindReq x t u es) = EachInTerm P Q u × EachInBundle P Q es
EachInMessage P Q (messages.Binding x u es) = EachInTerm P Q u × EachInBundle P Q es
EachInMessage P Q (messages.Get c asking) = Unit {0}
EachInMessage P Q (messages.Forward c next) = Unit {0}
EachInMessage P Q (messages.Put c x es) = EachInBundle P Q es
EachInMessage P Q (messages.PortSend q t asking) = Q
EachInMessage P Q (messages.PortEnd t old new es) = Q × EachInBundle P Q es
EachInMessage P Q (messages.CellMake c x es) = Q × EachInBundle P Q es
EachInMessage P Q (messages.CellAsk c t asking new es) = Q × EachInBundle P Q es
EachInMessage P Q (messages.CellOld t x es) = Q × EachInBundle P Q es

-- an integer of 64 bits
abbrev pub IsWord : ℤ → Type 0
IsWord z = FitsSigned w64 z

-- form 1 can have it: each integer of the message, features included, has 64 bits, and it has nothing of ports and stationary cells
abbrev pub FitsWords : Msg → Type 0
FitsWords m = EachInMessage IsWord ⊥ m

-- the form has room for an integer of 128 bits: form 1 where it has 64, form 2 always
abbrev pub HasRoom : Form → ℤ → Type 0
HasRoom forms.One z = IsWord z
HasRoom forms.Two z = Unit {0}
