-- Worked messages in both forms, byte by byte, and worked faults.
use Rattle.std.specs.Prelude.{◌≡◌, ℕ, List, [], ◌∷◌, ◌++◌, ℤ, pos, negsuc, codes}
use Rattle.tree_node.specs.declared.names.VarName.{VarName}
use Rattle.tree_node.specs.declared.names.CellName.{CellName}
use Rattle.tree_node.specs.declared.names.PortName.{PortName}
use Rattle.tree_node.specs.declared.names.ProcName.{ProcName}
use Rattle.tree_node.specs.declared.names.ThreadName.{ThreadName}
use Rattle.tree_node.specs.declared.node.Feature.TheVariants as features
use Rattle.tree_node.specs.declared.node.Node.TheVariants as nodes
use Rattle.tree_node.specs.declared.node.Term.TheVariants as terms
use Rattle.site_message.specs.declared.message.Msg.{Msg}
use Rattle.site_message.specs.declared.message.Msg.TheVariants as messages
use Rattle.wire_reader.specs.declared.form.Form.TheVariants as forms
use Rattle.wire_reader.specs.declared.fault.WireFault.TheVariants.{Short, Kind, Range, Order, Utf8, Rest}
use Rattle.wire_reader.specs.Format.{spelling, IsFirstFault}

-- name n of site s: of a variable, a mobile cell, a stationary one, a port, a procedure and a thread
abbrev pub var : ℕ → ℕ → VarName
var s n = record { site = s; num = n }

abbrev pub cell : ℕ → ℕ → CellName
cell s n = record { site = s; at = 0; num = n }

abbrev pub stationary : ℕ → ℕ → ℕ → CellName
stationary s n home = record { site = s; at = home; num = n }

abbrev pub port : ℕ → ℕ → PortName
port s n = record { site = s; num = n }

abbrev pub proc : ℕ → ℕ → ProcName
proc s n = record { site = s; num = n }

abbrev pub thread : ℕ → ℕ → ThreadName
thread s n = record { site = s; num = n }

-- a site below 256 and a number below 256, as nine bytes
abbrev pub name_bytes : ℕ → ℕ → List ℕ
name_bytes s n = s ∷ 0 ∷ 0 ∷ 0 ∷ 0 ∷ 0 ∷ 0 ∷ 0 ∷ n ∷ []

-- the message is spelled so in form 1, and so in form 2
abbrev pub AreSpellings : Msg → List ℕ → List ℕ → Type 0
AreSpellings m one two = (spelling forms.One m ≡ one) × (spelling forms.Two m ≡ two)

-- eight bytes of which all but the last are this one
abbrev pub eight_bytes : ℕ → ℕ → List ℕ
eight_bytes fill n = fill ∷ fill ∷ fill ∷ fill ∷ fill ∷ fill ∷ fill ∷ n ∷ []

-- sixteen such bytes
abbrev pub sixteen_bytes : ℕ → ℕ → List ℕ
sixteen_bytes fill n = eight_bytes fill fill ++ eight_bytes fill n

-- variable 2 of site 1, asked for by site 3, with this byte of kind
abbrev pub register_bytes : ℕ → List ℕ
register_bytes kind = kind ∷ name_bytes 1 2 ++ 3 ∷ []

-- the Register is spelled so
abbrev pub RegisterIsSpelled : Type 0
RegisterIsSpelled = AreSpellings (messages.Register (var 1 2) 3) (register_bytes 2) (register_bytes 18)

-- variable 2 of site 1 is an integer of these bytes
abbrev pub integer_bytes : ℕ → List ℕ → List ℕ
integer_bytes kind bytes = kind ∷ name_bytes 1 2 ++ 1 ∷ bytes ++ 0 ∷ 0 ∷ []

-- variable 2 of site 1 is this integer
abbrev pub integer_message : ℤ → Msg
integer_message z = messages.Binding (var 1 2) (terms.Node (nodes.Int z)) []

-- it is 5
abbrev pub IntegerIsSpelled : Type 0
IntegerIsSpelled = AreSpellings (integer_message (pos 5)) (integer_bytes 4 (eight_bytes 0 5)) (integer_bytes 20 (sixteen_bytes 0 5))

-- and -2, in two's complement
abbrev pub NegativeIsSpelled : Type 0
NegativeIsSpelled = AreSpellings (integer_message (negsuc 1)) (integer_bytes 4 (eight_bytes 255 254)) (integer_bytes 20 (sixteen_bytes 255 254))

-- and 2 ^ 64 + 5, which form 2 alone spells
abbrev pub WideIsSpelled : Type 0
WideIsSpelled = spelling forms.Two (integer_message (pos 18446744073709551621)) ≡ integer_bytes 20 (eight_bytes 0 1 ++ eight_bytes 0 5)

-- thread 1 of site 3 asks that variable 2 of site 1 be the atom of this one byte
abbrev pub atom_bytes : ℕ → ℕ → List ℕ
atom_bytes kind byte = kind ∷ name_bytes 1 2 ++ name_bytes 3 1 ++ 2 ∷ 1 ∷ byte ∷ 0 ∷ 0 ∷ []

-- the request for the atom a is spelled so
abbrev pub AtomIsSpelled : Type 0
AtomIsSpelled = AreSpellings (messages.BindReq (var 1 2) (thread 3 1) (terms.Node (nodes.Atom (codes "a"))) []) (atom_bytes 3 97) (atom_bytes 19 97)

-- variable 0 of site 2 is to be the record f with the fields 1 and a: the field of these bytes, with variable 4 of site 1
abbrev pub first_field : List ℕ → List ℕ
first_field bytes = 0 ∷ bytes ++ name_bytes 1 4

-- the field a, with variable 5 of site 1
abbrev pub second_field : List ℕ
second_field = 1 ∷ 1 ∷ 97 ∷ name_bytes 1 5

-- the Binding of that record, with its fields in this order
abbrev pub record_bytes : ℕ → List ℕ → List ℕ → List ℕ
record_bytes kind one other = kind ∷ name_bytes 2 0 ++ 3 ∷ 1 ∷ 102 ∷ 2 ∷ one ++ other ++ 0 ∷ 0 ∷ []

-- it is spelled with the field 1 first
abbrev pub RecordIsSpelled : Type 0
RecordIsSpelled =
    AreSpellings (messages.Binding (var 2 0) (terms.Node (nodes.Rec (codes "f") ((features.Int (pos 1), var 1 4) ∷ (features.Atom (codes "a"), var 1 5) ∷ []))) [])
    (record_bytes 4 (first_field (eight_bytes 0 1)) second_field) (record_bytes 20 (first_field (sixteen_bytes 0 1)) second_field)

-- a thread of code 258 with two variables, and with it that variable 3 of site 1 is variable 1 of site 1
abbrev pub spawn_bytes : ℕ → List ℕ
spawn_bytes kind = kind ∷ name_bytes 1 0 ++ 0 ∷ 0 ∷ 1 ∷ 2 ∷ 0 ∷ 2 ∷ name_bytes 1 7 ++ name_bytes 2 8 ++ 0 ∷ 1 ∷ name_bytes 1 3 ++ 0 ∷ name_bytes 1 1

-- the Spawn is spelled so
abbrev pub SpawnIsSpelled : Type 0
SpawnIsSpelled =
    AreSpellings (messages.Spawn (thread 1 0) (record { 0 = 258 }) (var 1 7 ∷ var 2 8 ∷ []) ((var 1 3, terms.Var (var 1 1)) ∷ [])) (spawn_bytes 1) (spawn_bytes 17)

-- a procedure of code 9 with one formal and one variable
abbrev pub procedure_bytes : ℕ → List ℕ
procedure_bytes kind = kind ∷ name_bytes 1 2 ++ 4 ∷ name_bytes 1 6 ++ 0 ∷ 0 ∷ 0 ∷ 9 ∷ 1 ∷ 0 ∷ 1 ∷ name_bytes 1 7 ++ 0 ∷ 0 ∷ []

-- the Binding of that procedure is spelled so
abbrev pub ProcedureIsSpelled : Type 0
ProcedureIsSpelled =
    AreSpellings (messages.Binding (var 1 2) (terms.Node (nodes.Proc 1 (record { 0 = 9 }) (proc 1 6) (var 1 7 ∷ []))) []) (procedure_bytes 4) (procedure_bytes 20)

-- a Get, a Forward and a Put of cell 1 of site 64
abbrev pub CellsAreSpelled : Type 0
CellsAreSpelled =
    AreSpellings (messages.Get (cell 64 1) 2) (5 ∷ name_bytes 64 1 ++ 2 ∷ []) (21 ∷ name_bytes 64 1 ++ 2 ∷ [])
    × AreSpellings (messages.Forward (cell 64 1) 2) (6 ∷ name_bytes 64 1 ++ 2 ∷ []) (22 ∷ name_bytes 64 1 ++ 2 ∷ [])
    × AreSpellings (messages.Put (cell 64 1) (var 1 2) []) (7 ∷ name_bytes 64 1 ++ name_bytes 1 2 ++ 0 ∷ 0 ∷ []) (23 ∷ name_bytes 64 1 ++ name_bytes 1 2 ++ 0 ∷ 0 ∷ [])

-- port 3 of site 1 and the stationary cell 6 of site 2, whose home is site 3, as values, in form 2 alone
abbrev pub PlacesAreSpelled : Type 0
PlacesAreSpelled =
    (spelling forms.Two (messages.Binding (var 1 2) (terms.Node (nodes.Port (port 1 3))) []) ≡ 20 ∷ name_bytes 1 2 ++ 6 ∷ name_bytes 1 3 ++ 0 ∷ 0 ∷ [])
    × (spelling forms.Two (messages.Binding (var 1 2) (terms.Node (nodes.Cell (stationary 2 6 3))) []) ≡ 20 ∷ name_bytes 1 2 ++ 7 ∷ name_bytes 2 6 ++ 3 ∷ 0 ∷ 0 ∷ [])

-- thread 2 of site 4 sends to that port; thread 1 of site 4 exchanges the content of that cell
abbrev pub RequestsAreSpelled : Type 0
RequestsAreSpelled =
    (spelling forms.Two (messages.PortSend (port 1 3) (thread 4 2) 4) ≡ 24 ∷ name_bytes 1 3 ++ name_bytes 4 2 ++ 4 ∷ [])
    × (spelling forms.Two (messages.PortEnd (thread 4 2) (var 2 5) (var 1 7) []) ≡ 25 ∷ name_bytes 4 2 ++ name_bytes 2 5 ++ name_bytes 1 7 ++ 0 ∷ 0 ∷ [])
    × (spelling forms.Two (messages.CellMake (stationary 2 6 3) (var 2 1) []) ≡ 26 ∷ name_bytes 2 6 ++ 3 ∷ name_bytes 2 1 ++ 0 ∷ 0 ∷ [])
    × (spelling forms.Two (messages.CellAsk (stationary 2 6 3) (thread 4 1) 4 (var 4 9) []) ≡ 27 ∷ name_bytes 2 6 ++ 3 ∷ name_bytes 4 1 ++ 4 ∷ name_bytes 4 9 ++ 0 ∷ 0 ∷ [])
    × (spelling forms.Two (messages.CellOld (thread 4 1) (var 2 1) []) ≡ 28 ∷ name_bytes 4 1 ++ name_bytes 2 1 ++ 0 ∷ 0 ∷ [])

-- no byte, and bytes that are kinds of neither form
abbrev pub NothingIsShort : Type 0
NothingIsShort = IsFirstFault [] (Short 0)

abbrev pub OtherKindIsNone : Type 0
OtherKindIsNone = IsFirstFault (0 ∷ []) (Kind 0) × IsFirstFault (8 ∷ []) (Kind 0) × IsFirstFault (16 ∷ []) (Kind 0) × IsFirstFault (29 ∷ []) (Kind 0)

-- a port in form 1, a stationary cell whose home is 0, and one whose home is 65
abbrev pub OtherPlaceIsNone : Type 0
OtherPlaceIsNone =
    IsFirstFault (4 ∷ name_bytes 1 2 ++ 6 ∷ name_bytes 1 3 ++ 0 ∷ 0 ∷ []) (Kind 10)
    × IsFirstFault (20 ∷ name_bytes 1 2 ++ 7 ∷ name_bytes 2 6 ++ 0 ∷ 0 ∷ 0 ∷ []) (Range 20)
    × IsFirstFault (26 ∷ name_bytes 2 6 ++ 65 ∷ name_bytes 2 1 ++ 0 ∷ 0 ∷ []) (Range 10)

-- the first message without its last byte, with another site, and with one byte more
abbrev pub CutIsShort : Type 0
CutIsShort = IsFirstFault (2 ∷ name_bytes 1 2) (Short 10) × IsFirstFault (18 ∷ name_bytes 1 2) (Short 10)

abbrev pub OtherSiteIsOut : Type 0
OtherSiteIsOut = IsFirstFault (2 ∷ name_bytes 1 2 ++ 65 ∷ []) (Range 10) × IsFirstFault (18 ∷ name_bytes 1 2 ++ 65 ∷ []) (Range 10)

abbrev pub MoreIsRest : Type 0
MoreIsRest = IsFirstFault (register_bytes 2 ++ 0 ∷ []) (Rest 11) × IsFirstFault (register_bytes 18 ++ 0 ∷ []) (Rest 11)

-- a text of a byte that no character begins with
abbrev pub OtherTextIsNone : Type 0
OtherTextIsNone = IsFirstFault (atom_bytes 3 255) (Utf8 21) × IsFirstFault (atom_bytes 19 255) (Utf8 21)

-- the record with its fields exchanged
abbrev pub ExchangedIsOutOfOrder : Type 0
ExchangedIsOutOfOrder =
    IsFirstFault (record_bytes 4 second_field (first_field (eight_bytes 0 1))) (Order 26)
    × IsFirstFault (record_bytes 20 second_field (first_field (sixteen_bytes 0 1))) (Order 26)

-- an integer of eight bytes where form 2 has sixteen, and one of sixteen where form 1 has eight
abbrev pub OtherWidthIsNone : Type 0
OtherWidthIsNone = IsFirstFault (integer_bytes 20 (eight_bytes 0 5)) (Short 21) × IsFirstFault (integer_bytes 4 (sixteen_bytes 0 5)) (Rest 21)
