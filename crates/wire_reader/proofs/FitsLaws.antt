-- The values of the format are what can be spelled.
use Rattle.std.proofs.Common.{◌≡◌, refl, ℕ, zero, suc, ◌<◌, ◌≤◌, List, [], ◌∷◌, ◌++◌, length, get_or, arith}
use Rattle.tree_node.specs.declared.names.VarName.{VarName}
use Rattle.tree_node.specs.declared.names.CellName.{CellName}
use Rattle.tree_node.specs.declared.node.Feature.{Feature}
use Rattle.tree_node.specs.declared.node.Feature.TheVariants as features
use Rattle.tree_node.specs.declared.node.Node.TheVariants as nodes
use Rattle.tree_node.specs.declared.node.Term.{Term}
use Rattle.tree_node.specs.declared.node.Term.TheVariants as terms
use Rattle.tree_node.specs.Each.{Each}
use Rattle.tree_node.specs.Order.{IsBelow}
use Rattle.tree_node.specs.Store.{Equation}
use Rattle.site_message.specs.declared.message.Msg.{Msg}
use Rattle.site_message.specs.declared.message.Msg.TheVariants as messages
use Rattle.site_message.specs.Wire.{IsSite, FitsText, FitsFeature, FitsField, FitsFields, FitsVar, FitsVars, FitsTerm, FitsEquation, FitsBundle, FitsWire}
use Rattle.site_message.proofs.RiseLemmas.{RisesTo, fields_rise, names_rise}
use Rattle.wire_reader.specs.declared.fault.WireFault.{WireFault}
use Rattle.wire_reader.specs.declared.form.Form.{Form}
use Rattle.wire_reader.specs.declared.form.Form.TheVariants as forms
use Rattle.byte_fields.specs.Field.{Field, EachBehind}
use Rattle.wire_reader.specs.Field.{IsAbove}
use Rattle.wire_reader.specs.Format.{HasCell, var_name, text, feature, record_field, field_behind, record_fields, variables, term, equation, equation_behind, bundle, message, IsFeatureBelow}
use Rattle.tree_node.proofs.EnvLemmas.{each_more}

-- ---- items that follow one another

-- above the last of a list is above that one
last_above : {X A : Type 0} (key : X → A) (Below : A → A → Type 0) (front : List X) (p : X) (a : A) → IsAbove key Below (front ++ p ∷ []) a → Below (key p) a
last_above key Below [] p a h = h
last_above key Below (x ∷ []) p a h = h
last_above key Below (x ∷ y ∷ xs) p a h = last_above key Below (y ∷ xs) p a h

above_last : {X A : Type 0} (key : X → A) (Below : A → A → Type 0) (front : List X) (p : X) (a : A) → Below (key p) a → IsAbove key Below (front ++ p ∷ []) a
above_last key Below [] p a h = h
above_last key Below (x ∷ []) p a h = h
above_last key Below (x ∷ y ∷ xs) p a h = above_last key Below (y ∷ xs) p a h

-- what stands behind items is an item, above the last of them
pub record IsOrdered {X A : Type 0} (Item : X → Type 0) (key : X → A) (Below : A → A → Type 0) (behind : List X → Field WireFault X) : Type 0 where
  pub item : (front : List X) (x : X) → (behind front).Has x → Item x
  pub above : (front : List X) (x : X) → (behind front).Has x → IsAbove key Below front (key x)
  pub has : (front : List X) (x : X) → Item x → IsAbove key Below front (key x) → (behind front).Has x

pub each_item : {X A : Type 0} (Item : X → Type 0) (key : X → A) (Below : A → A → Type 0) (behind : List X → Field WireFault X) → IsOrdered Item key Below behind
    → (front xs : List X) → EachBehind behind front xs → Each Item xs
each_item Item key Below behind o front [] h = tt
each_item Item key Below behind o front (x ∷ xs) h = (o.item front x h.0, each_item Item key Below behind o (front ++ x ∷ []) xs h.1)

rises_behind : {X A : Type 0} (Item : X → Type 0) (key : X → A) (Below : A → A → Type 0) (behind : List X → Field WireFault X) → IsOrdered Item key Below behind
    → (p : X) (front xs : List X) → EachBehind behind (front ++ p ∷ []) xs
    → (k : ℕ) (d : X) → suc k < length (p ∷ xs) → Below (key (get_or (p ∷ xs) k d)) (key (get_or (p ∷ xs) (suc k) d))
rises_behind Item key Below behind o p front [] h k d lt = absurd (omega (arith, lt))
rises_behind Item key Below behind o p front (x ∷ xs) h zero d lt = last_above key Below front p (key x) (o.above (front ++ p ∷ []) x h.0)
rises_behind Item key Below behind o p front (x ∷ xs) h (suc k) d lt = rises_behind Item key Below behind o x (front ++ p ∷ []) xs h.1 k d (omega (arith, lt))

pub rises_of : {X A : Type 0} (Item : X → Type 0) (key : X → A) (Below : A → A → Type 0) (behind : List X → Field WireFault X) → IsOrdered Item key Below behind
    → (xs : List X) → EachBehind behind [] xs → RisesTo (λ x y. Below (key x) (key y)) xs (length xs)
rises_of Item key Below behind o [] h k d low in_range = absurd (omega (arith, in_range))
rises_of Item key Below behind o (x ∷ xs) h k d low in_range = rises_behind Item key Below behind o x [] xs h.1 k d in_range

behind_rises : {X A : Type 0} (Item : X → Type 0) (key : X → A) (Below : A → A → Type 0) (behind : List X → Field WireFault X) → IsOrdered Item key Below behind
    → (p : X) (front xs : List X) → Each Item xs
    → ((k : ℕ) (d : X) → suc k < length (p ∷ xs) → Below (key (get_or (p ∷ xs) k d)) (key (get_or (p ∷ xs) (suc k) d)))
    → EachBehind behind (front ++ p ∷ []) xs
behind_rises Item key Below behind o p front [] each rises = tt
behind_rises Item key Below behind o p front (x ∷ xs) each rises = (
  o.has (front ++ p ∷ []) x each.0 (above_last key Below front p (key x) (rises 0 p (omega arith))),
  behind_rises Item key Below behind o x (front ++ p ∷ []) xs each.1 (λ k d lt. rises (suc k) d (omega (arith, lt))),
)

pub behind_of : {X A : Type 0} (Item : X → Type 0) (key : X → A) (Below : A → A → Type 0) (behind : List X → Field WireFault X) → IsOrdered Item key Below behind
    → (xs : List X) → Each Item xs → RisesTo (λ x y. Below (key x) (key y)) xs (length xs) → EachBehind behind [] xs
behind_of Item key Below behind o [] each rises = tt
behind_of Item key Below behind o (x ∷ xs) each rises =
    (o.has [] x each.0 tt, behind_rises Item key Below behind o x [] xs each.1 (λ k d lt. rises k d (omega (arith, lt)) lt))

pub fields_ordered : (form : Form) → IsOrdered (λ x. (record_field form).Has x) (λ (x : Feature × VarName). x.0) IsFeatureBelow (field_behind form)
fields_ordered form = record { item = λ front x h. (h.0.0, h.1); above = λ front x h. h.0.1; has = λ front x h above. ((h.0, above), h.1) }

pub equations_ordered : (form : Form) → IsOrdered (λ e. (equation form).Has e) (λ (e : Equation). e.0) IsBelow (equation_behind form)
equations_ordered form = record { item = λ front x h. (h.0.0, h.1); above = λ front x h. h.0.1; has = λ front x h above. ((h.0, above), h.1) }

-- ---- what the format has can be spelled

text_fits : (t : List ℕ) → text.Has t → FitsText t
text_fits t h = (omega (arith, h.0), h.1)

feature_fits : (form : Form) (f : Feature) → (feature form).Has f → FitsFeature f
feature_fits form (features.Int z) h = tt
feature_fits form (features.Atom t) h = text_fits t h

var_fits : (x : VarName) → var_name.Has x → FitsVar x
var_fits x h = h.0.1

fields_fit : (form : Form) (fs : List (Feature × VarName)) → (record_fields form).Has fs → FitsFields fs
fields_fit form fs h =
    let items = each_item (λ x. (record_field form).Has x) (λ (x : Feature × VarName). x.0) IsFeatureBelow (field_behind form) (fields_ordered form) [] fs h.1 in
    let rises = rises_of (λ x. (record_field form).Has x) (λ (x : Feature × VarName). x.0) IsFeatureBelow (field_behind form) (fields_ordered form) fs h.1 in
    (h.0.1.0, h.0.1.1, each_more (λ x. (record_field form).Has x) FitsField fs (λ x k. (feature_fits form x.0 k.0, var_fits x.1 k.1)) items, (fields_rise fs).1 rises)

each_var : (front xs : List VarName) → EachBehind (λ f. var_name) front xs → Each FitsVar xs
each_var front [] h = tt
each_var front (x ∷ xs) h = (var_fits x h.0, each_var (front ++ x ∷ []) xs h.1)

vars_fit : (xs : List VarName) → variables.Has xs → FitsVars xs
vars_fit xs h = (omega (arith, h.0), each_var [] xs h.1)

cell_fits : (form : Form) (c : CellName) (n : ℕ) → c.at ≡ n → HasCell form c n → IsSite c.site × (c.at ≤ 64)
cell_fits form c zero e h = (h.1.0.1, omega (arith, e))
cell_fits forms.One c (suc k) e h = absurd h.0
cell_fits forms.Two c (suc k) e h = (h.1.0.0.1, h.1.1.1.1)

term_fits : (form : Form) (t : Term) → (term form).Has t → FitsTerm t
term_fits form (terms.Var x) h = var_fits x h
term_fits form (terms.Node (nodes.Int z)) h = tt
term_fits form (terms.Node (nodes.Atom t)) h = text_fits t h
term_fits form (terms.Node (nodes.Rec label fields)) h = (text_fits label h.0, fields_fit form fields h.1)
term_fits form (terms.Node (nodes.Proc n c p vars)) h = (h.0.0.1, h.1.1.0.1.1, vars_fit vars h.1.1.1)
term_fits form (terms.Node (nodes.Cell c)) h = cell_fits form c c.at refl h
term_fits form (terms.Node (nodes.Port q)) h = h.1.0.1

bundle_fits : (form : Form) (es : List Equation) → (bundle form).Has es → FitsBundle es
bundle_fits form es h =
    let items = each_item (λ e. (equation form).Has e) (λ (e : Equation). e.0) IsBelow (equation_behind form) (equations_ordered form) [] es h.1 in
    let rises = rises_of (λ e. (equation form).Has e) (λ (e : Equation). e.0) IsBelow (equation_behind form) (equations_ordered form) es h.1 in
    (h.0.1.1, each_more (λ e. (equation form).Has e) FitsEquation es (λ e k. (var_fits e.0 k.0, term_fits form e.1 k.1)) items, (names_rise es).1 rises)

pub message_fits : (form : Form) (m : Msg) → (message form).Has m → FitsWire m
message_fits form (messages.Spawn t c vars es) h = (h.0.0.1, vars_fit vars h.1.1.0, bundle_fits form es h.1.1.1)
message_fits form (messages.Register x asking) h = (var_fits x h.0, h.1.1)
message_fits form (messages.BindReq x t u es) h = (var_fits x h.0, h.1.0.0.1, term_fits form u h.1.1.0, bundle_fits form es h.1.1.1)
message_fits form (messages.Binding x u es) h = (var_fits x h.0, term_fits form u h.1.0, bundle_fits form es h.1.1)
message_fits form (messages.Get c asking) h = ((h.0.1.0.1, h.0.0), h.1.1)
message_fits form (messages.Forward c next) h = ((h.0.1.0.1, h.0.0), h.1.1)
message_fits form (messages.Put c x es) h = ((h.0.1.0.1, h.0.0), var_fits x h.1.0, bundle_fits form es h.1.1)
message_fits form (messages.PortSend q t asking) h = (h.1.0.0.1, h.1.1.0.0.1, h.1.1.1.1)
message_fits form (messages.PortEnd t old new es) h = (h.1.0.0.1, var_fits old h.1.1.0, var_fits new h.1.1.1.0, bundle_fits form es h.1.1.1.1)
message_fits form (messages.CellMake c x es) h = (h.1.0.0.0.1, h.1.0.1.1, var_fits x h.1.1.0, bundle_fits form es h.1.1.1)
message_fits form (messages.CellAsk c t asking new es) h = (h.1.0.0.0.1, h.1.0.1.1, h.1.1.0.0.1, h.1.1.1.0.1, var_fits new h.1.1.1.1.0, bundle_fits form es h.1.1.1.1.1)
message_fits form (messages.CellOld t x es) h = (h.1.0.0.1, var_fits x h.1.1.0, bundle_fits form es h.1.1.1)

-- ---- lists behind a count

pub fields_have : (form : Form) (fs : List (Feature × VarName)) → FitsFields fs → Each (λ x. (record_field form).Has x) fs → (record_fields form).Has fs
fields_have form fs fits each = (
  (omega (arith, fits.1), (fits.0, fits.1)),
  behind_of (λ x. (record_field form).Has x) (λ (x : Feature × VarName). x.0) IsFeatureBelow (field_behind form) (fields_ordered form) fs each ((fields_rise fs).0 fits.3),
)

each_var_has : (front xs : List VarName) → Each (λ x. var_name.Has x) xs → EachBehind (λ f. var_name) front xs
each_var_has front [] h = tt
each_var_has front (x ∷ xs) h = (h.0, each_var_has (front ++ x ∷ []) xs h.1)

pub variables_have : (xs : List VarName) → FitsVars xs → Each (λ x. var_name.Has x) xs → variables.Has xs
variables_have xs fits each = (omega (arith, fits.0), each_var_has [] xs each)

pub bundle_has : (form : Form) (es : List Equation) → FitsBundle es → Each (λ e. (equation form).Has e) es → (bundle form).Has es
bundle_has form es fits each = (
  (omega (arith, fits.0), (omega arith, fits.0)),
  behind_of (λ e. (equation form).Has e) (λ (e : Equation). e.0) IsBelow (equation_behind form) (equations_ordered form) es each ((names_rise es).0 fits.2),
)
