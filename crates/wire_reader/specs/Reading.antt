-- Reading from left to right, as functions on lists: what the decoder's parts give, for the proof that they give what the
-- format says.
use Rattle.std.specs.Prelude.{◌≡◌, ℕ, zero, suc, ◌+◌, ◌⊎◌, List, [], ◌∷◌, ◌++◌, length, ℤ, Bool, true, Result, Ok, Err, nat_lt, ◌-◌, ◌==◌, if◌then◌else◌}
use Rattle.std.specs.Int.{Width, w16, w32, w64, byte_len, from_be_bytes, cast_signed}
use Rattle.std.specs.Str.{is_utf8}
use Rattle.std.specs.Ordering.{is_lt}
use Rattle.byte_fields.specs.Reading.{Left, Read, ◌>>=◌, IsReadUnless, ◌also◌, map_at, bytes_at, is_within}
use Rattle.tree_node.specs.declared.limits.TheConstants.{MOST_ITEMS, MOST_SITES}
use Rattle.tree_node.specs.declared.names.VarName.{VarName}
use Rattle.tree_node.specs.declared.names.CellName.{CellName}
use Rattle.tree_node.specs.declared.names.PortName.{PortName}
use Rattle.tree_node.specs.declared.names.ProcName.{ProcName}
use Rattle.tree_node.specs.declared.names.ThreadName.{ThreadName}
use Rattle.tree_node.specs.declared.names.CodeId.{CodeId}
use Rattle.tree_node.specs.declared.node.Feature.{Feature}
use Rattle.tree_node.specs.declared.node.Feature.TheVariants as features
use Rattle.tree_node.specs.declared.node.Node.TheVariants as nodes
use Rattle.tree_node.specs.declared.node.Term.{Term}
use Rattle.tree_node.specs.declared.node.Term.TheVariants as terms
use Rattle.tree_node.specs.Node.{feature_cmp}
use Rattle.tree_node.specs.Store.{Equation}
use Rattle.site_message.specs.declared.message.Msg.{Msg}
use Rattle.site_message.specs.declared.message.Msg.TheVariants as messages
use Rattle.wire_reader.specs.declared.form.Form.{Form}
use Rattle.wire_reader.specs.declared.form.Form.TheVariants as forms
use Rattle.wire_reader.specs.declared.fault.WireFault.{WireFault}
use Rattle.wire_reader.specs.declared.fault.WireFault.TheVariants.{Short, Kind, Range, Order, Utf8, Memory}
use Rattle.wire_reader.specs.Format.{width, lead}

-- a part of the decoder gives what reading gives, unless memory runs out
abbrev pub IsReadAs : {X : Type 0} → (Left → Read WireFault X) → Left → Left → Result X WireFault → Type 0
IsReadAs read old new result = IsReadUnless Memory read old new result

-- the next byte
abbrev pub byte_at : Left → Read WireFault ℕ
byte_at (at, []) = Err (Short at)
byte_at (at, b ∷ bytes) = Ok (b, (at + 1, bytes))

-- a value that passes a test, or else this fault at its place
abbrev pub filter_at : {X : Type 0} → (X → Bool) → (ℕ → WireFault) → (Left → Read WireFault X) → Left → Read WireFault X
filter_at test fault R l = do
  r ← R l
  if test r.0 then Ok r else Err (fault l.0)

-- a number of this width, its highest byte first; and an integer of the form's width, in two's complement
unfoldable pub number_at : Width → Left → Read WireFault ℕ
number_at w = map_at (from_be_bytes w) (bytes_at Short (byte_len w))

unfoldable pub signed_at : Width → Left → Read WireFault ℤ
signed_at w = map_at (λ bs. cast_signed w (from_be_bytes w bs)) (bytes_at Short (byte_len w))

abbrev pub integer_at : Form → Left → Read WireFault ℤ
integer_at form = signed_at (width form)

-- a number that is always 0, of which nothing is read
abbrev pub nothing_at : Left → Read WireFault ℕ
nothing_at l = Ok (0, l)

-- a byte of length and that many bytes
unfoldable pub short_bytes_at : Left → Read WireFault (List ℕ)
short_bytes_at l = do
  n ← byte_at l
  bytes_at Short n.0 n.1

-- a byte from the least to the most; any other is out of range
unfoldable pub byte_within_at : ℕ → ℕ → Left → Read WireFault ℕ
byte_within_at least most = filter_at (is_within least most) Range byte_at

-- a text: a byte of length, and that many bytes of UTF-8
unfoldable pub text_at : Left → Read WireFault (List ℕ)
text_at = filter_at is_utf8 (λ at. Utf8 (at + 1)) short_bytes_at

-- a name: a byte of site, 1 to 64, and a number of eight bytes; then the names of each kind
unfoldable pub name_at : Left → Read WireFault (ℕ × ℕ)
name_at = byte_within_at 1 MOST_SITES also number_at w64

unfoldable pub var_name_at : Left → Read WireFault VarName
var_name_at = map_at (λ p. record { site = p.0; num = p.1 }) name_at

unfoldable pub cell_name_at : Left → Read WireFault CellName
cell_name_at = map_at (λ p. record { site = p.1.0; at = p.0; num = p.1.1 }) (nothing_at also name_at)

unfoldable pub stationary_name_at : Left → Read WireFault CellName
stationary_name_at = map_at (λ p. record { site = p.0.0; at = p.1; num = p.0.1 }) (name_at also byte_within_at 1 MOST_SITES)

unfoldable pub port_name_at : Left → Read WireFault PortName
port_name_at = map_at (λ p. record { site = p.0; num = p.1 }) name_at

unfoldable pub proc_name_at : Left → Read WireFault ProcName
proc_name_at = map_at (λ p. record { site = p.0; num = p.1 }) name_at

unfoldable pub thread_name_at : Left → Read WireFault ThreadName
thread_name_at = map_at (λ p. record { site = p.0; num = p.1 }) name_at

-- a code: four bytes
unfoldable pub code_at : Left → Read WireFault CodeId
code_at = map_at (λ n. record { 0 = n }) (number_at w32)

-- what follows the tag of a feature
unfoldable pub key_at : Form → ℕ → ℕ → Left → Read WireFault Feature
key_at form start tag l =
    if tag == 0 then map_at features.Int (integer_at form) l
    else if tag == 1 then map_at features.Atom text_at l
    else Err (Kind start)

-- a feature: its tag, and what follows that
unfoldable pub feature_at : Form → Left → Read WireFault Feature
feature_at form l = do
  tag ← byte_at l
  key_at form l.0 tag.0 tag.1

-- a count of items that are read one after another, each behind those before it
unfoldable pub items_at : {X : Type 0} → (List X → Left → Read WireFault X) → ℕ → List X → Left → Read WireFault (List X)
items_at item zero front l = Ok (front, l)
items_at item (suc n) front l = do
  r ← item front l
  items_at item n (front ++ r.0 ∷ []) r.1

-- a count, and that many items
abbrev pub list_at : {X : Type 0} → (Left → Read WireFault ℕ) → (List X → Left → Read WireFault X) → Left → Read WireFault (List X)
list_at count item l = do
  n ← count l
  items_at item n.0 [] n.1

-- a key above that of the last item
abbrev pub is_above : {X A : Type 0} → (X → A) → (A → A → Bool) → List X → A → Bool
is_above key below [] a = true
is_above key below (x ∷ []) a = below (key x) a
is_above key below (x ∷ y ∷ xs) a = is_above key below (y ∷ xs) a

-- the order of features as a test
abbrev pub feature_below : Feature → Feature → Bool
feature_below a b = is_lt (feature_cmp a b)

-- the order of names as a test: by their sites, then by their numbers
abbrev pub name_below : VarName → VarName → Bool
name_below a b = if a.site == b.site then nat_lt a.num b.num else nat_lt a.site b.site

-- a field of a record behind these others; then all fields with their count
unfoldable pub field_at : Form → List (Feature × VarName) → Left → Read WireFault (Feature × VarName)
field_at form front = filter_at (is_above (λ (x : Feature × VarName). x.0) feature_below front) Order (feature_at form) also var_name_at

unfoldable pub fields_at : Form → Left → Read WireFault (List (Feature × VarName))
fields_at form = list_at (byte_within_at 1 MOST_ITEMS) (field_at form)

-- a count of two bytes, and that many variables
unfoldable pub variables_at : Left → Read WireFault (List VarName)
variables_at = list_at (number_at w16) (λ front. var_name_at)

-- what follows the tag of a record; then that of a procedure
unfoldable pub record_at : Form → Left → Read WireFault Term
record_at form = map_at (λ p. terms.Node (nodes.Rec p.0 p.1)) (text_at also fields_at form)

unfoldable pub procedure_at : Left → Read WireFault Term
procedure_at = map_at (λ p. terms.Node (nodes.Proc p.1.1.0 p.1.0 p.0 p.1.1.1)) (proc_name_at also code_at also byte_within_at 0 MOST_ITEMS also variables_at)

-- what follows a tag above 05: that of a port or of a stationary cell, which form 2 alone has
unfoldable pub later_node_at : Form → ℕ → ℕ → Left → Read WireFault Term
later_node_at forms.One start tag l = Err (Kind start)
later_node_at forms.Two start tag l =
    if tag == 6 then map_at (λ q. terms.Node (nodes.Port q)) port_name_at l
    else if tag == 7 then map_at (λ c. terms.Node (nodes.Cell c)) stationary_name_at l
    else Err (Kind start)

-- what follows the tag of a term
unfoldable pub node_at : Form → ℕ → ℕ → Left → Read WireFault Term
node_at form start tag l =
    if tag == 0 then map_at terms.Var var_name_at l
    else if tag == 1 then map_at (λ z. terms.Node (nodes.Int z)) (integer_at form) l
    else if tag == 2 then map_at (λ t. terms.Node (nodes.Atom t)) text_at l
    else if tag == 3 then record_at form l
    else if tag == 4 then procedure_at l
    else if tag == 5 then map_at (λ c. terms.Node (nodes.Cell c)) cell_name_at l
    else later_node_at form start tag l

-- a term: its tag, and what follows that
unfoldable pub term_at : Form → Left → Read WireFault Term
term_at form l = do
  tag ← byte_at l
  node_at form l.0 tag.0 tag.1

-- an equation of a bundle behind these others; then a bundle with its count
unfoldable pub equation_at : Form → List Equation → Left → Read WireFault Equation
equation_at form front = filter_at (is_above (λ (e : Equation). e.0) name_below front) Order var_name_at also term_at form

unfoldable pub bundle_at : Form → Left → Read WireFault (List Equation)
bundle_at form = list_at (filter_at (is_within 0 256) Range (number_at w16)) (equation_at form)

-- what follows the byte of kind, for each of the messages
unfoldable pub spawn_at : Form → Left → Read WireFault Msg
spawn_at form = map_at (λ p. messages.Spawn p.0 p.1.0 p.1.1.0 p.1.1.1) (thread_name_at also code_at also variables_at also bundle_at form)

unfoldable pub register_at : Left → Read WireFault Msg
register_at = map_at (λ p. messages.Register p.0 p.1) (var_name_at also byte_within_at 1 MOST_SITES)

unfoldable pub bind_request_at : Form → Left → Read WireFault Msg
bind_request_at form = map_at (λ p. messages.BindReq p.0 p.1.0 p.1.1.0 p.1.1.1) (var_name_at also thread_name_at also term_at form also bundle_at form)

unfoldable pub binding_at : Form → Left → Read WireFault Msg
binding_at form = map_at (λ p. messages.Binding p.0 p.1.0 p.1.1) (var_name_at also term_at form also bundle_at form)

unfoldable pub get_at : Left → Read WireFault Msg
get_at = map_at (λ p. messages.Get p.0 p.1) (cell_name_at also byte_within_at 1 MOST_SITES)

unfoldable pub forward_at : Left → Read WireFault Msg
forward_at = map_at (λ p. messages.Forward p.0 p.1) (cell_name_at also byte_within_at 1 MOST_SITES)

unfoldable pub put_at : Form → Left → Read WireFault Msg
put_at form = map_at (λ p. messages.Put p.0 p.1.0 p.1.1) (cell_name_at also var_name_at also bundle_at form)

unfoldable pub port_send_at : Left → Read WireFault Msg
port_send_at = map_at (λ p. messages.PortSend p.0 p.1.0 p.1.1) (port_name_at also thread_name_at also byte_within_at 1 MOST_SITES)

unfoldable pub port_end_at : Form → Left → Read WireFault Msg
port_end_at form = map_at (λ p. messages.PortEnd p.0 p.1.0 p.1.1.0 p.1.1.1) (thread_name_at also var_name_at also var_name_at also bundle_at form)

unfoldable pub cell_make_at : Form → Left → Read WireFault Msg
cell_make_at form = map_at (λ p. messages.CellMake p.0 p.1.0 p.1.1) (stationary_name_at also var_name_at also bundle_at form)

unfoldable pub cell_ask_at : Form → Left → Read WireFault Msg
cell_ask_at form = map_at (λ p. messages.CellAsk p.0 p.1.0 p.1.1.0 p.1.1.1.0 p.1.1.1.1) (stationary_name_at also thread_name_at also byte_within_at 1 MOST_SITES also var_name_at also bundle_at form)

unfoldable pub cell_old_at : Form → Left → Read WireFault Msg
cell_old_at form = map_at (λ p. messages.CellOld p.0 p.1.0 p.1.1) (thread_name_at also var_name_at also bundle_at form)

-- what follows the byte of kind, for a kind above the seventh, which form 2 alone has
unfoldable pub later_body_at : Form → ℕ → ℕ → Left → Read WireFault Msg
later_body_at forms.One start kind l = Err (Kind start)
later_body_at forms.Two start kind l =
    if kind == 8 then port_send_at l
    else if kind == 9 then port_end_at forms.Two l
    else if kind == 10 then cell_make_at forms.Two l
    else if kind == 11 then cell_ask_at forms.Two l
    else if kind == 12 then cell_old_at forms.Two l
    else Err (Kind start)

-- what follows the byte of kind, for a kind of this number
unfoldable pub body_at : Form → ℕ → ℕ → Left → Read WireFault Msg
body_at form start kind l =
    if kind == 1 then spawn_at form l
    else if kind == 2 then register_at l
    else if kind == 3 then bind_request_at form l
    else if kind == 4 then binding_at form l
    else if kind == 5 then get_at l
    else if kind == 6 then forward_at l
    else if kind == 7 then put_at form l
    else later_body_at form start kind l

-- the form that a byte of kind tells, if it is one
unfoldable pub form_of : ℕ → Form
form_of byte = if nat_lt byte 16 then forms.One else forms.Two

-- a message in either form: its first byte, and what follows that
unfoldable pub message_at : Left → Read WireFault Msg
message_at l = do
  first ← byte_at l
  body_at (form_of first.0) l.0 (first.0 - lead (form_of first.0)) first.1
