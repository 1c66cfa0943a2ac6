-- What can be spelled, with numbers in the ranges of their types and integers of the form's width, is what the format has.
use Rattle.std.proofs.Common.{◌≡◌, refl, ℤ, ℕ, zero, suc, ◌^◌, ◌<◌, ◌≤◌, List, [], ◌∷◌, ◌++◌, arith}
use Rattle.tree_node.specs.declared.names.VarName.{VarName}
use Rattle.tree_node.specs.declared.names.CellName.{CellName}
use Rattle.tree_node.specs.declared.node.Feature.{Feature}
use Rattle.tree_node.specs.declared.node.Feature.TheVariants as features
use Rattle.tree_node.specs.declared.node.Node.TheVariants as nodes
use Rattle.tree_node.specs.declared.node.Term.{Term}
use Rattle.tree_node.specs.declared.node.Term.TheVariants as terms
use Rattle.tree_node.specs.Each.{Each}
use Rattle.tree_node.specs.Order.{IsBelow}
use Rattle.tree_node.specs.Store.{Equation}
use Rattle.site_message.specs.declared.message.Msg.{Msg}
use Rattle.site_message.specs.declared.message.Msg.TheVariants as messages
use Rattle.site_message.specs.Wire.{IsSite, FitsText, FitsFeature, FitsField, FitsVar, FitsVars, FitsTerm, FitsEquation, FitsBundle, FitsWire}
use Rattle.std.specs.Prelude.{FitsSigned}
use Rattle.wire_reader.specs.declared.form.Form.{Form}
use Rattle.wire_reader.specs.declared.form.Form.TheVariants as forms
use Rattle.byte_fields.specs.Field.{EachBehind}
use Rattle.wire_reader.specs.Format.{width, IsTwo, HasCell, site, name, var_name, text, feature, record_field, field_behind, variables, term, equation, equation_behind, bundle, message, IsFeatureBelow}
use Rattle.wire_reader.specs.Numbers.{HoldsName, IsMobileOr, HoldsVar, HoldsField, HoldsTerm, HoldsEquation, HoldsBundle, HoldsNumbers, EachInFeature, EachInField, EachInTerm, EachInEquation, EachInBundle, EachInMessage}
use Rattle.wire_reader.specs.Laws.{FormatIsWhatFits, TwoSpellsAll}
use Rattle.wire_reader.proofs.IntegerLaws.{message_more, wider}
use Rattle.wire_reader.proofs.FitsLaws.{each_item, fields_ordered, equations_ordered, message_fits}
use Rattle.wire_reader.proofs.FitsLaws.{fields_have, variables_have, bundle_has}
use Rattle.tree_node.proofs.EnvLemmas.{each_more}
use Rattle.tree_node.proofs.EachLemmas.{each_two}

-- an integer of the form's width
abbrev IsOfWidth : Form → ℤ → Type 0
IsOfWidth form z = FitsSigned (width form) z

-- ---- what the format has

each_var_holds : (front xs : List VarName) → EachBehind (λ f. var_name) front xs → Each HoldsVar xs
each_var_holds front [] h = tt
each_var_holds front (x ∷ xs) h = (h.0.1, each_var_holds (front ++ x ∷ []) xs h.1)

each_field : (form : Form) (fields : List (Feature × VarName)) → EachBehind (field_behind form) [] fields → Each (λ x. (record_field form).Has x) fields
each_field form fields h =
    each_item (λ x. (record_field form).Has x) (λ (x : Feature × VarName). x.0) IsFeatureBelow (field_behind form) (fields_ordered form) [] fields h

each_equation : (form : Form) (es : List Equation) → EachBehind (equation_behind form) [] es → Each (λ e. (equation form).Has e) es
each_equation form es h = each_item (λ e. (equation form).Has e) (λ (e : Equation). e.0) IsBelow (equation_behind form) (equations_ordered form) [] es h

cell_holds : (form : Form) (c : CellName) (n : ℕ) → HasCell form c n → HoldsName c.num
cell_holds form c zero h = h.1.1
cell_holds form c (suc k) h = h.1.0.1

term_holds : (form : Form) (t : Term) → (term form).Has t → HoldsTerm t
term_holds form (terms.Var x) h = h.1
term_holds form (terms.Node (nodes.Int z)) h = tt
term_holds form (terms.Node (nodes.Atom t)) h = tt
term_holds form (terms.Node (nodes.Rec label fields)) h =
    each_more (λ x. (record_field form).Has x) HoldsField fields (λ x k. k.1.1) (each_field form fields h.1.1)
term_holds form (terms.Node (nodes.Proc n c p vars)) h = (h.0.1, h.1.0, each_var_holds [] vars h.1.1.1.1)
term_holds form (terms.Node (nodes.Cell c)) h = cell_holds form c c.at h
term_holds form (terms.Node (nodes.Port q)) h = h.1.1

bundle_holds : (form : Form) (es : List Equation) → (bundle form).Has es → HoldsBundle es
bundle_holds form es h =
    each_more (λ e. (equation form).Has e) HoldsEquation es (λ e k. (k.0.1, term_holds form e.1 k.1)) (each_equation form es h.1)

message_holds : (form : Form) (m : Msg) → (message form).Has m → HoldsNumbers m
message_holds form (messages.Spawn t c vars es) h = (h.0.1, h.1.0, each_var_holds [] vars h.1.1.0.1, bundle_holds form es h.1.1.1)
message_holds form (messages.Register x asking) h = h.0.1
message_holds form (messages.BindReq x t u es) h = (h.0.1, h.1.0.1, term_holds form u h.1.1.0, bundle_holds form es h.1.1.1)
message_holds form (messages.Binding x u es) h = (h.0.1, term_holds form u h.1.0, bundle_holds form es h.1.1)
message_holds form (messages.Get c asking) h = h.0.1.1
message_holds form (messages.Forward c next) h = h.0.1.1
message_holds form (messages.Put c x es) h = (h.0.1.1, h.1.0.1, bundle_holds form es h.1.1)
message_holds form (messages.PortSend q t asking) h = (h.1.0.1, h.1.1.0.1)
message_holds form (messages.PortEnd t old new es) h = (h.1.0.1, h.1.1.0.1, h.1.1.1.0.1, bundle_holds form es h.1.1.1.1)
message_holds form (messages.CellMake c x es) h = (h.1.0.0.1, h.1.1.0.1, bundle_holds form es h.1.1.1)
message_holds form (messages.CellAsk c t asking new es) h = (h.1.0.0.1, h.1.1.0.1, h.1.1.1.1.0.1, bundle_holds form es h.1.1.1.1.1)
message_holds form (messages.CellOld t x es) h = (h.1.0.1, h.1.1.0.1, bundle_holds form es h.1.1.1)

-- its integers have the width of the form
feature_wide : (form : Form) (f : Feature) → (feature form).Has f → EachInFeature (IsOfWidth form) f
feature_wide form (features.Int z) h = h
feature_wide form (features.Atom t) h = tt

cell_wide : (form : Form) (c : CellName) (n : ℕ) → HasCell form c n → IsMobileOr (IsTwo form) n
cell_wide form c zero h = tt
cell_wide form c (suc k) h = h.0

term_wide : (form : Form) (t : Term) → (term form).Has t → EachInTerm (IsOfWidth form) (IsTwo form) t
term_wide form (terms.Var x) h = tt
term_wide form (terms.Node (nodes.Int z)) h = h
term_wide form (terms.Node (nodes.Atom t)) h = tt
term_wide form (terms.Node (nodes.Rec label fields)) h =
    each_more (λ x. (record_field form).Has x) (EachInField (IsOfWidth form)) fields (λ x k. feature_wide form x.0 k.0) (each_field form fields h.1.1)
term_wide form (terms.Node (nodes.Proc n c p vars)) h = tt
term_wide form (terms.Node (nodes.Cell c)) h = cell_wide form c c.at h
term_wide form (terms.Node (nodes.Port q)) h = h.0

bundle_wide : (form : Form) (es : List Equation) → (bundle form).Has es → EachInBundle (IsOfWidth form) (IsTwo form) es
bundle_wide form es h =
    each_more (λ e. (equation form).Has e) (EachInEquation (IsOfWidth form) (IsTwo form)) es (λ e k. term_wide form e.1 k.1) (each_equation form es h.1)

message_wide : (form : Form) (m : Msg) → (message form).Has m → EachInMessage (IsOfWidth form) (IsTwo form) m
message_wide form (messages.Spawn t c vars es) h = bundle_wide form es h.1.1.1
message_wide form (messages.Register x asking) h = tt
message_wide form (messages.BindReq x t u es) h = (term_wide form u h.1.1.0, bundle_wide form es h.1.1.1)
message_wide form (messages.Binding x u es) h = (term_wide form u h.1.0, bundle_wide form es h.1.1)
message_wide form (messages.Get c asking) h = tt
message_wide form (messages.Forward c next) h = tt
message_wide form (messages.Put c x es) h = bundle_wide form es h.1.1
message_wide form (messages.PortSend q t asking) h = h.0
message_wide form (messages.PortEnd t old new es) h = (h.0, bundle_wide form es h.1.1.1.1)
message_wide form (messages.CellMake c x es) h = (h.0, bundle_wide form es h.1.1.1)
message_wide form (messages.CellAsk c t asking new es) h = (h.0, bundle_wide form es h.1.1.1.1.1)
message_wide form (messages.CellOld t x es) h = (h.0, bundle_wide form es h.1.1.1)

-- ---- what can be spelled

site_has : (i : ℕ) → IsSite i → site.Has i
site_has i h = (omega (arith, h.1), h)

name_has : (i num : ℕ) → IsSite i → num < 2 ^ 64 → name.Has (i, num)
name_has i num h small = (site_has i h, small)

var_has : (x : VarName) → FitsVar x → HoldsVar x → var_name.Has x
var_has x h k = name_has x.site x.num h k

text_has : (t : List ℕ) → FitsText t → text.Has t
text_has t h = (omega (arith, h.0), h.1)

feature_has : (form : Form) (f : Feature) → FitsFeature f → EachInFeature (IsOfWidth form) f → (feature form).Has f
feature_has form (features.Int z) h k = k
feature_has form (features.Atom t) h k = text_has t h

vars_have : (xs : List VarName) → FitsVars xs → Each HoldsVar xs → variables.Has xs
vars_have xs h k = variables_have xs h (each_two FitsVar HoldsVar (λ x. var_name.Has x) var_has xs h.1 k)

-- held, and of the form's width
fields_both : (form : Form) (fields : List (Feature × VarName)) → Each HoldsField fields → Each (EachInField (IsOfWidth form)) fields → Each (λ x. HoldsField x × EachInField (IsOfWidth form) x) fields
fields_both form fields k w = each_two HoldsField (EachInField (IsOfWidth form)) (λ x. HoldsField x × EachInField (IsOfWidth form) x) (λ x p q. (p, q)) fields k w

cell_has : (form : Form) (c : CellName) (n : ℕ) → c.at ≡ n → IsSite c.site × (c.at ≤ 64) → HoldsName c.num → IsMobileOr (IsTwo form) n → HasCell form c n
cell_has form c zero e h k w = (e, name_has c.site c.num h.0 k)
cell_has form c (suc m) e h k w = (w, (name_has c.site c.num h.0 k, site_has c.at (omega (arith, e), h.1)))

term_has : (form : Form) (t : Term) → FitsTerm t → HoldsTerm t → EachInTerm (IsOfWidth form) (IsTwo form) t → (term form).Has t
term_has form (terms.Var x) h k w = var_has x h k
term_has form (terms.Node (nodes.Int z)) h k w = w
term_has form (terms.Node (nodes.Atom t)) h k w = text_has t h
term_has form (terms.Node (nodes.Rec label fields)) h k w = (
  text_has label h.0,
  fields_have form fields h.1 (each_two FitsField (λ x. HoldsField x × EachInField (IsOfWidth form) x) (λ x. (record_field form).Has x) (λ x p q. (feature_has form x.0 p.0 q.1, var_has x.1 p.1 q.0)) fields h.1.2 (fields_both form fields k w)),
)
term_has form (terms.Node (nodes.Proc n c p vars)) h k w =
    (name_has p.site p.num h.0 k.0, (k.1, ((omega (arith, h.1), (omega arith, h.1)), vars_have vars h.2 k.2)))
term_has form (terms.Node (nodes.Cell c)) h k w = cell_has form c c.at refl h k w
term_has form (terms.Node (nodes.Port q)) h k w = (w, name_has q.site q.num h k)

equations_both : (form : Form) (es : List Equation) → HoldsBundle es → EachInBundle (IsOfWidth form) (IsTwo form) es → Each (λ e. HoldsEquation e × EachInEquation (IsOfWidth form) (IsTwo form) e) es
equations_both form es k w = each_two HoldsEquation (EachInEquation (IsOfWidth form) (IsTwo form)) (λ e. HoldsEquation e × EachInEquation (IsOfWidth form) (IsTwo form) e) (λ e p q. (p, q)) es k w

es_have : (form : Form) (es : List Equation) → FitsBundle es → HoldsBundle es → EachInBundle (IsOfWidth form) (IsTwo form) es → (bundle form).Has es
es_have form es h k w =
    bundle_has form es h (each_two FitsEquation (λ e. HoldsEquation e × EachInEquation (IsOfWidth form) (IsTwo form) e) (λ e. (equation form).Has e) (λ e p q. (var_has e.0 p.0 q.0.0, term_has form e.1 p.1 q.0.1 q.1)) es h.1 (equations_both form es k w))

message_has : (form : Form) (m : Msg) → FitsWire m → HoldsNumbers m → EachInMessage (IsOfWidth form) (IsTwo form) m → (message form).Has m
message_has form (messages.Spawn t c vars es) h k w = (name_has t.site t.num h.0 k.0, (k.1, (vars_have vars h.1 k.2, es_have form es h.2 k.3 w)))
message_has form (messages.Register x asking) h k w = (var_has x h.0 k, site_has asking h.1)
message_has form (messages.BindReq x t u es) h k w =
    (var_has x h.0 k.0, (name_has t.site t.num h.1 k.1, (term_has form u h.2 k.2 w.0, es_have form es h.3 k.3 w.1)))
message_has form (messages.Binding x u es) h k w = (var_has x h.0 k.0, (term_has form u h.1 k.1 w.0, es_have form es h.2 k.2 w.1))
message_has form (messages.Get c asking) h k w = ((h.0.1, name_has c.site c.num h.0.0 k), site_has asking h.1)
message_has form (messages.Forward c next) h k w = ((h.0.1, name_has c.site c.num h.0.0 k), site_has next h.1)
message_has form (messages.Put c x es) h k w = ((h.0.1, name_has c.site c.num h.0.0 k.0), (var_has x h.1 k.1, es_have form es h.2 k.2 w))
message_has form (messages.PortSend q t asking) h k w = (w, (name_has q.site q.num h.0 k.0, (name_has t.site t.num h.1 k.1, site_has asking h.2)))
message_has form (messages.PortEnd t old new es) h k w = (w.0, (name_has t.site t.num h.0 k.0, (var_has old h.1 k.1, (var_has new h.2 k.2, es_have form es h.3 k.3 w.1))))
message_has form (messages.CellMake c x es) h k w = (w.0, ((name_has c.site c.num h.0 k.0, site_has c.at h.1), (var_has x h.2 k.1, es_have form es h.3 k.2 w.1)))
message_has form (messages.CellAsk c t asking new es) h k w =
    (w.0, ((name_has c.site c.num h.0 k.0, site_has c.at h.1), (name_has t.site t.num h.2 k.1, (site_has asking h.3, (var_has new h.4 k.2, es_have form es h.5 k.3 w.1)))))
message_has form (messages.CellOld t x es) h k w = (w.0, (name_has t.site t.num h.0 k.0, (var_has x h.1 k.1, es_have form es h.2 k.2 w.1)))

pub format_is_what_fits : FormatIsWhatFits
format_is_what_fits form m = (λ h. (message_fits form m h, message_holds form m h, message_wide form m h), λ h. message_has form m h.0 h.1 h.2)

pub two_spells_all : TwoSpellsAll
two_spells_all m h =
    message_has forms.Two m (message_fits forms.One m h) (message_holds forms.One m h) (message_more (IsOfWidth forms.One) (IsOfWidth forms.Two) (IsTwo forms.One) (IsTwo forms.Two) wider (λ no. tt) m (message_wide forms.One m h))
