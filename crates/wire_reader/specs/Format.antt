-- The wire forms: the one spelling of each message between sites in form 1, and the one in form 2, as a grammar of fields
-- that has the form as a parameter.
use Rattle.std.specs.Prelude.{◌≡◌, ℕ, zero, suc, ◌+◌, List, [], ◌∷◌, ◌⊎◌, ℤ, IsUtf8, ◌<◌}
use Rattle.std.specs.Int.{Width, w8, w16, w32, w64, w128}
use Rattle.std.specs.declared.cmp.Ordering.TheVariants.{Less}
use Rattle.tree_node.specs.declared.limits.TheConstants.{MOST_ITEMS, MOST_SITES}
use Rattle.tree_node.specs.declared.names.VarName.{VarName}
use Rattle.tree_node.specs.declared.names.CellName.{CellName}
use Rattle.tree_node.specs.declared.names.PortName.{PortName}
use Rattle.tree_node.specs.declared.names.ProcName.{ProcName}
use Rattle.tree_node.specs.declared.names.ThreadName.{ThreadName}
use Rattle.tree_node.specs.declared.names.CodeId.{CodeId}
use Rattle.tree_node.specs.declared.node.Feature.{Feature}
use Rattle.tree_node.specs.declared.node.Feature.TheVariants as features
use Rattle.tree_node.specs.declared.node.Node.TheVariants as nodes
use Rattle.tree_node.specs.declared.node.Term.{Term}
use Rattle.tree_node.specs.declared.node.Term.TheVariants as terms
use Rattle.tree_node.specs.Node.{feature_cmp}
use Rattle.tree_node.specs.Order.{IsBelow}
use Rattle.tree_node.specs.Store.{Equation}
use Rattle.site_message.specs.declared.message.Msg.{Msg}
use Rattle.site_message.specs.declared.message.Msg.TheVariants as messages
use Rattle.wire_reader.specs.declared.form.Form.{Form}
use Rattle.wire_reader.specs.declared.form.Form.TheVariants as forms
use Rattle.wire_reader.specs.declared.fault.WireFault.{WireFault}
use Rattle.wire_reader.specs.declared.fault.WireFault.TheVariants.{Short, Kind, Range, Order, Utf8, Rest}
use Rattle.byte_fields.specs.Field.{Faults, Field, ◌before◌, part_field, IsWithin, IsSpelled, IsFirstFaultOf}
use Rattle.wire_reader.specs.Field.{number, signed_number, nothing, short_bytes, restriction, list_behind, IsAbove}

-- the width of an integer: 64 bits in form 1, and 128 in form 2
abbrev pub width : Form → Width
width forms.One = w64
width forms.Two = w128

-- what is added to the number of a kind of message: nothing in form 1, and 16 in form 2
abbrev pub lead : Form → ℕ
lead forms.One = 0
lead forms.Two = 16

-- the number of the last kind of message of a form: form 2 alone has requests of threads that wait for their answer, and those answers
abbrev pub last_kind : Form → ℕ
last_kind forms.One = 7
last_kind forms.Two = 12

-- it is form 2
abbrev pub IsTwo : Form → Type 0
IsTwo forms.One = ⊥
IsTwo forms.Two = Unit {0}

-- a number from one to another; any other is out of range
abbrev pub within : ℕ → ℕ → Field WireFault ℕ → Field WireFault ℕ
within least most F = restriction (IsWithin least most) Range F

-- a site is one byte, 1 to 64
abbrev pub site : Field WireFault ℕ
site = within 1 MOST_SITES (number w8)

-- a name is a site and a number of eight bytes
abbrev pub name : Field WireFault (ℕ × ℕ)
name = site before number w64

-- the name of a variable, a mobile cell, a port, a procedure or a thread is spelled as its site and number
abbrev pub var_name : Field WireFault VarName
var_name = part_field (λ (x : VarName). (x.site, x.num)) name

abbrev pub cell_name : Field WireFault CellName
cell_name = part_field (λ (x : CellName). (x.at, (x.site, x.num))) (nothing before name)

-- that of a stationary cell as its site and number, and its home
abbrev pub stationary_name : Field WireFault CellName
stationary_name = part_field (λ (x : CellName). ((x.site, x.num), x.at)) (name before site)

abbrev pub port_name : Field WireFault PortName
port_name = part_field (λ (x : PortName). (x.site, x.num)) name

abbrev pub proc_name : Field WireFault ProcName
proc_name = part_field (λ (x : ProcName). (x.site, x.num)) name

abbrev pub thread_name : Field WireFault ThreadName
thread_name = part_field (λ (x : ThreadName). (x.site, x.num)) name

-- a code is four bytes
abbrev pub code : Field WireFault CodeId
code = part_field (λ (c : CodeId). c.0) (number w32)

-- an integer is eight bytes in form 1, and sixteen in form 2
abbrev pub integer : Form → Field WireFault ℤ
integer form = signed_number (width form)

-- a text is a byte of length and that many bytes of UTF-8. The place of what is none is that of its first byte
abbrev pub text : Field WireFault (List ℕ)
text = restriction IsUtf8 (λ at. Utf8 (at + 1)) short_bytes

-- a byte 00 and an integer, or 01 and a text
abbrev pub feature : Form → Field WireFault Feature
feature form = record { Has = feature_has; spelling = feature_spell; Ends = λ x rest. Unit {0}; Fault = feature_fault }
  where
    feature_has : Feature → Type 0
    feature_has (features.Int z) = (integer form).Has z
    feature_has (features.Atom t) = text.Has t

    feature_spell : Feature → List ℕ
    feature_spell (features.Int z) = 0 ∷ (integer form).spelling z
    feature_spell (features.Atom t) = 1 ∷ text.spelling t

    feature_fault : Faults WireFault
    feature_fault at [] f = f ≡ Short at
    feature_fault at (tag ∷ bytes) f =
        ((tag ≡ 0) × (integer form).Fault (at + 1) bytes f)
        ⊎ ((tag ≡ 1) × text.Fault (at + 1) bytes f)
        ⊎ ((1 < tag) × (f ≡ Kind at))

-- a field of a record: a feature, above the one of the field before, and a variable
abbrev pub record_field : Form → Field WireFault (Feature × VarName)
record_field form = feature form before var_name

-- the one feature is before the other in the order of features
abbrev pub IsFeatureBelow : Feature → Feature → Type 0
IsFeatureBelow a b = feature_cmp a b ≡ Less

-- a field behind these others: its feature is above that of the last one, if there is one
abbrev pub field_behind : Form → List (Feature × VarName) → Field WireFault (Feature × VarName)
field_behind form front = restriction (IsAbove (λ (x : Feature × VarName). x.0) IsFeatureBelow front) Order (feature form) before var_name

-- a byte of count, 1 to 64, and the fields, whose features ascend
abbrev pub record_fields : Form → Field WireFault (List (Feature × VarName))
record_fields form = list_behind (within 1 MOST_ITEMS (number w8)) (record_field form) (field_behind form)

-- a count of two bytes and that many names
abbrev pub variables : Field WireFault (List VarName)
variables = list_behind (number w16) var_name (λ front. var_name)

-- the number of formals is a byte, 0 to 64
abbrev pub formals : Field WireFault ℕ
formals = within 0 MOST_ITEMS (number w8)

-- a label and fields
abbrev pub tree : Form → Field WireFault (List ℕ × List (Feature × VarName))
tree form = text before record_fields form

-- a name, a code, the number of formals, and the variables at the free positions
abbrev pub procedure : Field WireFault (ProcName × (CodeId × (ℕ × List VarName)))
procedure = proc_name before code before formals before variables

-- a cell that may be spelled as a value: a mobile one, or in form 2 a stationary one
abbrev pub HasCell : Form → CellName → ℕ → Type 0
HasCell form c zero = cell_name.Has c
HasCell form c (suc k) = IsTwo form × stationary_name.Has c

-- its spelling: 05 and a mobile cell, or 07 and a stationary one
abbrev pub cell_spelling : CellName → ℕ → List ℕ
cell_spelling c zero = 5 ∷ cell_name.spelling c
cell_spelling c (suc k) = 7 ∷ stationary_name.spelling c

-- the fault behind a tag above 05: form 2 has 06 of a port, and 07 of a stationary cell
abbrev pub LaterTermFault : Form → ℕ → ℕ → List ℕ → WireFault → Type 0
LaterTermFault forms.One at tag bytes f = (5 < tag) × (f ≡ Kind at)
LaterTermFault forms.Two at tag bytes f =
    ((tag ≡ 6) × port_name.Fault (at + 1) bytes f) ⊎ ((tag ≡ 7) × stationary_name.Fault (at + 1) bytes f) ⊎ ((7 < tag) × (f ≡ Kind at))

-- a byte 00 and a name, 01 and an integer, 02 and a text, 03 and a record, 04 and a procedure, 05 and a mobile cell, or in form 2 also 06 and a
-- port, or 07 and a stationary cell
abbrev pub term : Form → Field WireFault Term
term form = record { Has = term_has; spelling = term_spell; Ends = λ x rest. Unit {0}; Fault = term_fault }
  where
    term_has : Term → Type 0
    term_has (terms.Var x) = var_name.Has x
    term_has (terms.Node (nodes.Int z)) = (integer form).Has z
    term_has (terms.Node (nodes.Atom t)) = text.Has t
    term_has (terms.Node (nodes.Rec label fields)) = (tree form).Has (label, fields)
    term_has (terms.Node (nodes.Proc n c p vars)) = procedure.Has (p, (c, (n, vars)))
    term_has (terms.Node (nodes.Cell c)) = HasCell form c c.at
    term_has (terms.Node (nodes.Port q)) = IsTwo form × port_name.Has q

    term_spell : Term → List ℕ
    term_spell (terms.Var x) = 0 ∷ var_name.spelling x
    term_spell (terms.Node (nodes.Int z)) = 1 ∷ (integer form).spelling z
    term_spell (terms.Node (nodes.Atom t)) = 2 ∷ text.spelling t
    term_spell (terms.Node (nodes.Rec label fields)) = 3 ∷ (tree form).spelling (label, fields)
    term_spell (terms.Node (nodes.Proc n c p vars)) = 4 ∷ procedure.spelling (p, (c, (n, vars)))
    term_spell (terms.Node (nodes.Cell c)) = cell_spelling c c.at
    term_spell (terms.Node (nodes.Port q)) = 6 ∷ port_name.spelling q

    term_fault : Faults WireFault
    term_fault at [] f = f ≡ Short at
    term_fault at (tag ∷ bytes) f =
        ((tag ≡ 0) × var_name.Fault (at + 1) bytes f)
        ⊎ ((tag ≡ 1) × (integer form).Fault (at + 1) bytes f)
        ⊎ ((tag ≡ 2) × text.Fault (at + 1) bytes f)
        ⊎ ((tag ≡ 3) × (tree form).Fault (at + 1) bytes f)
        ⊎ ((tag ≡ 4) × procedure.Fault (at + 1) bytes f)
        ⊎ ((tag ≡ 5) × cell_name.Fault (at + 1) bytes f)
        ⊎ LaterTermFault form at tag bytes f

-- an equation of a bundle: a name, above the one of the equation before, and a term
abbrev pub equation : Form → Field WireFault Equation
equation form = var_name before term form

-- an equation behind these others: its variable is above that of the last one, if there is one
abbrev pub equation_behind : Form → List Equation → Field WireFault Equation
equation_behind form front = restriction (IsAbove (λ (e : Equation). e.0) IsBelow front) Order var_name before term form

-- a count of two bytes, at most 256, and the equations, whose names ascend
abbrev pub bundle : Form → Field WireFault (List Equation)
bundle form = list_behind (within 0 256 (number w16)) (equation form) (equation_behind form)

-- what follows the byte of kind, for each kind of message
abbrev pub spawn : Form → Field WireFault (ThreadName × (CodeId × (List VarName × List Equation)))
spawn form = thread_name before code before variables before bundle form

abbrev pub register : Field WireFault (VarName × ℕ)
register = var_name before site

abbrev pub bind_request : Form → Field WireFault (VarName × (ThreadName × (Term × List Equation)))
bind_request form = var_name before thread_name before term form before bundle form

abbrev pub binding : Form → Field WireFault (VarName × (Term × List Equation))
binding form = var_name before term form before bundle form

abbrev pub get_or_forward : Field WireFault (CellName × ℕ)
get_or_forward = cell_name before site

abbrev pub put : Form → Field WireFault (CellName × (VarName × List Equation))
put form = cell_name before var_name before bundle form

abbrev pub port_send : Field WireFault (PortName × (ThreadName × ℕ))
port_send = port_name before thread_name before site

abbrev pub port_end : Form → Field WireFault (ThreadName × (VarName × (VarName × List Equation)))
port_end form = thread_name before var_name before var_name before bundle form

abbrev pub cell_make : Form → Field WireFault (CellName × (VarName × List Equation))
cell_make form = stationary_name before var_name before bundle form

abbrev pub cell_ask : Form → Field WireFault (CellName × (ThreadName × (ℕ × (VarName × List Equation))))
cell_ask form = stationary_name before thread_name before site before var_name before bundle form

abbrev pub cell_old : Form → Field WireFault (ThreadName × (VarName × List Equation))
cell_old form = thread_name before var_name before bundle form

-- the byte is the kind of a message in the form: 01 to 07 in form 1, and 11 to 1c, hexadecimal, in form 2
abbrev pub IsKind : Form → ℕ → Type 0
IsKind form byte = IsWithin (lead form + 1) (lead form + last_kind form) byte

-- the fault behind a kind that is none of the first seven
abbrev pub LaterFault : Form → ℕ → ℕ → List ℕ → WireFault → Type 0
LaterFault forms.One at kind bytes f = (IsKind forms.One kind → ⊥) × (f ≡ Kind at)
LaterFault forms.Two at kind bytes f =
    ((kind ≡ lead forms.Two + 8) × port_send.Fault (at + 1) bytes f)
    ⊎ ((kind ≡ lead forms.Two + 9) × (port_end forms.Two).Fault (at + 1) bytes f)
    ⊎ ((kind ≡ lead forms.Two + 10) × (cell_make forms.Two).Fault (at + 1) bytes f)
    ⊎ ((kind ≡ lead forms.Two + 11) × (cell_ask forms.Two).Fault (at + 1) bytes f)
    ⊎ ((kind ≡ lead forms.Two + 12) × (cell_old forms.Two).Fault (at + 1) bytes f)
    ⊎ ((IsKind forms.Two kind → ⊥) × (f ≡ Kind at))

-- a byte of kind, and what follows it
abbrev pub message : Form → Field WireFault Msg
message form = record { Has = message_has; spelling = message_spell; Ends = λ x rest. Unit {0}; Fault = message_fault }
  where
    message_has : Msg → Type 0
    message_has (messages.Spawn t c vars es) = (spawn form).Has (t, (c, (vars, es)))
    message_has (messages.Register x asking) = register.Has (x, asking)
    message_has (messages.BindReq x t u es) = (bind_request form).Has (x, (t, (u, es)))
    message_has (messages.Binding x u es) = (binding form).Has (x, (u, es))
    message_has (messages.Get c asking) = get_or_forward.Has (c, asking)
    message_has (messages.Forward c next) = get_or_forward.Has (c, next)
    message_has (messages.Put c x es) = (put form).Has (c, (x, es))
    message_has (messages.PortSend q t asking) = IsTwo form × port_send.Has (q, (t, asking))
    message_has (messages.PortEnd t old new es) = IsTwo form × (port_end form).Has (t, (old, (new, es)))
    message_has (messages.CellMake c x es) = IsTwo form × (cell_make form).Has (c, (x, es))
    message_has (messages.CellAsk c t asking new es) = IsTwo form × (cell_ask form).Has (c, (t, (asking, (new, es))))
    message_has (messages.CellOld t x es) = IsTwo form × (cell_old form).Has (t, (x, es))

    message_spell : Msg → List ℕ
    message_spell (messages.Spawn t c vars es) = (lead form + 1) ∷ (spawn form).spelling (t, (c, (vars, es)))
    message_spell (messages.Register x asking) = (lead form + 2) ∷ register.spelling (x, asking)
    message_spell (messages.BindReq x t u es) = (lead form + 3) ∷ (bind_request form).spelling (x, (t, (u, es)))
    message_spell (messages.Binding x u es) = (lead form + 4) ∷ (binding form).spelling (x, (u, es))
    message_spell (messages.Get c asking) = (lead form + 5) ∷ get_or_forward.spelling (c, asking)
    message_spell (messages.Forward c next) = (lead form + 6) ∷ get_or_forward.spelling (c, next)
    message_spell (messages.Put c x es) = (lead form + 7) ∷ (put form).spelling (c, (x, es))
    message_spell (messages.PortSend q t asking) = (lead form + 8) ∷ port_send.spelling (q, (t, asking))
    message_spell (messages.PortEnd t old new es) = (lead form + 9) ∷ (port_end form).spelling (t, (old, (new, es)))
    message_spell (messages.CellMake c x es) = (lead form + 10) ∷ (cell_make form).spelling (c, (x, es))
    message_spell (messages.CellAsk c t asking new es) = (lead form + 11) ∷ (cell_ask form).spelling (c, (t, (asking, (new, es))))
    message_spell (messages.CellOld t x es) = (lead form + 12) ∷ (cell_old form).spelling (t, (x, es))

    message_fault : Faults WireFault
    message_fault at [] f = f ≡ Short at
    message_fault at (kind ∷ bytes) f =
        ((kind ≡ lead form + 1) × (spawn form).Fault (at + 1) bytes f)
        ⊎ ((kind ≡ lead form + 2) × register.Fault (at + 1) bytes f)
        ⊎ ((kind ≡ lead form + 3) × (bind_request form).Fault (at + 1) bytes f)
        ⊎ ((kind ≡ lead form + 4) × (binding form).Fault (at + 1) bytes f)
        ⊎ ((kind ≡ lead form + 5) × get_or_forward.Fault (at + 1) bytes f)
        ⊎ ((kind ≡ lead form + 6) × get_or_forward.Fault (at + 1) bytes f)
        ⊎ ((kind ≡ lead form + 7) × (put form).Fault (at + 1) bytes f)
        ⊎ LaterFault form at kind bytes f

-- a message in one of the forms, which its first byte tells. A byte that is a kind of neither is no kind
abbrev pub wire : Field WireFault (Form × Msg)
wire = record { Has = λ x. (message x.0).Has x.1; spelling = λ x. (message x.0).spelling x.1; Ends = λ x rest. Unit {0}; Fault = wire_fault }
  where
    wire_fault : Faults WireFault
    wire_fault at [] f = f ≡ Short at
    wire_fault at (kind ∷ bytes) f =
        (IsKind forms.One kind × (message forms.One).Fault at (kind ∷ bytes) f)
        ⊎ (IsKind forms.Two kind × (message forms.Two).Fault at (kind ∷ bytes) f)
        ⊎ ((IsKind forms.One kind → ⊥) × (IsKind forms.Two kind → ⊥) × (f ≡ Kind at))

-- the one spelling of a message in a form
abbrev pub spelling : Form → Msg → List ℕ
spelling form m = (message form).spelling m

-- the bytes are the spelling of the message in the form, and its numbers, lengths and orders are those of the format
abbrev pub IsSpelling : Form → List ℕ → Msg → Type 0
IsSpelling form bytes m = IsSpelled (message form) m bytes

-- the first fault of bytes that spell no message in either form: that of a message's fields, or else more bytes than a message's
abbrev pub IsFirstFault : List ℕ → WireFault → Type 0
IsFirstFault bytes f = IsFirstFaultOf wire Rest bytes f
