-- Each field of the format is read by the function of its name.
use Rattle.std.proofs.Common.{◌≡◌, ℕ, zero, suc, ◌+◌, ◌<◌, Bool, true, false, cond, eqb, ltb, List, [], ◌∷◌, ◌++◌, length, Ok, Err, refl, sym, ap, ◌∙◌, arith, subst, ◌⊎◌, inl, inr}
use Rattle.std.specs.Int.{w8, w16, w32, w64}
use Rattle.std.specs.Ordering.{is_lt}
use Rattle.std.specs.declared.cmp.Ordering.TheVariants.{Less, Equal, Greater}
use Rattle.std.proofs.lemmas.Bool.{ltb-true, eqb-true, eq-eqb, ne_eqb, lt-ltb, true≢false, false≢true}
use Rattle.tree_node.specs.declared.names.VarName.{VarName}
use Rattle.tree_node.specs.declared.names.CellName.{CellName}
use Rattle.tree_node.specs.declared.names.PortName.{PortName}
use Rattle.tree_node.specs.declared.names.ProcName.{ProcName}
use Rattle.tree_node.specs.declared.names.ThreadName.{ThreadName}
use Rattle.tree_node.specs.declared.names.CodeId.{CodeId}
use Rattle.tree_node.specs.declared.node.Feature.{Feature}
use Rattle.tree_node.specs.declared.node.Feature.TheVariants as features
use Rattle.tree_node.specs.declared.node.Node.TheVariants as nodes
use Rattle.tree_node.specs.declared.node.Term.{Term}
use Rattle.tree_node.specs.declared.node.Term.TheVariants as terms
use Rattle.tree_node.specs.Node.{feature_cmp}
use Rattle.tree_node.specs.Order.{IsBelow}
use Rattle.tree_node.specs.Store.{Equation}
use Rattle.wire_reader.specs.declared.form.Form.{Form}
use Rattle.wire_reader.specs.declared.form.Form.TheVariants as forms
use Rattle.wire_reader.specs.declared.fault.WireFault.{WireFault}
use Rattle.wire_reader.specs.declared.fault.WireFault.TheVariants.{Short, Kind, Range, Order}
use Rattle.byte_fields.specs.Field.{◌before◌}
use Rattle.wire_reader.specs.Field.{restriction, number, nothing, IsAbove}
use Rattle.wire_reader.specs.Format.{site, name, var_name, cell_name, stationary_name, port_name, HasCell, cell_spelling, LaterTermFault, IsTwo, proc_name, thread_name, code, integer, text, feature, record_field, IsFeatureBelow, field_behind, record_fields, variables, formals, tree, procedure, term, equation, equation_behind, bundle, within}
use Rattle.byte_fields.specs.Reading.{Left, ◌also◌, map_at, is_within}
use Rattle.wire_reader.specs.Reading.{nothing_at, filter_at, number_at, byte_within_at, name_at, var_name_at, cell_name_at, stationary_name_at, port_name_at, proc_name_at, thread_name_at, code_at, integer_at, text_at, key_at, feature_at, is_above, feature_below, name_below, field_at, fields_at, variables_at, record_at, procedure_at, later_node_at, node_at, term_at, equation_at, bundle_at}
use Rattle.byte_fields.specs.Laws.{Takes, IsRead}
use Rattle.byte_fields.proofs.ResultLaws.{failed, err_is, no_ok}
use Rattle.byte_fields.proofs.FieldLaws.{before_read, made_read}
use Rattle.wire_reader.proofs.FieldLaws.{IsBytes, tested_read}
use Rattle.wire_reader.proofs.BaseLaws.{IsBytes-rest, nothing_read, number_read, wide16, wide32, wide64, within_read, byte_within_read, integer_read, text_read}
use Rattle.wire_reader.proofs.ListLaws.{listed_read}
use Rattle.wire_reader.proofs.ChoiceLaws.{IsBehind, is_behind, is_behind_where, again_behind, takes_step, fails_step, passes}

-- ---- names and codes

name_read : IsRead IsBytes name name_at
unfolding name_at
name_read = before_read IsBytes site (number w64) (byte_within_at 1 64) (number_at w64) (byte_within_read 1 64) (number_read w64 wide64)

pub var_name_read : IsRead IsBytes var_name var_name_at
unfolding var_name_at
var_name_read = made_read {E = WireFault} {X = VarName} {Y = ℕ × ℕ} IsBytes name name_at (λ p. record { site = p.0; num = p.1 }) (λ x. (x.site, x.num)) (λ y h. refl) (λ x. refl) name_read

pub cell_name_read : IsRead IsBytes cell_name cell_name_at
unfolding cell_name_at
cell_name_read =
    made_read {E = WireFault} {X = CellName} {Y = ℕ × (ℕ × ℕ)} IsBytes (nothing before name) (nothing_at also name_at) (λ p. record { site = p.1.0; at = p.0; num = p.1.1 }) (λ x. (x.at, (x.site, x.num))) (λ y h. refl) (λ x. refl)
    (before_read IsBytes nothing name nothing_at name_at nothing_read name_read)

pub stationary_name_read : IsRead IsBytes stationary_name stationary_name_at
unfolding stationary_name_at
stationary_name_read =
    made_read {E = WireFault} {X = CellName} {Y = (ℕ × ℕ) × ℕ} IsBytes (name before site) (name_at also byte_within_at 1 64) (λ p. record { site = p.0.0; at = p.1; num = p.0.1 }) (λ x. ((x.site, x.num), x.at)) (λ y h. refl) (λ x. refl)
    (before_read IsBytes name site name_at (byte_within_at 1 64) name_read (byte_within_read 1 64))

pub port_name_read : IsRead IsBytes port_name port_name_at
unfolding port_name_at
port_name_read = made_read {E = WireFault} {X = PortName} {Y = ℕ × ℕ} IsBytes name name_at (λ p. record { site = p.0; num = p.1 }) (λ x. (x.site, x.num)) (λ y h. refl) (λ x. refl) name_read

pub proc_name_read : IsRead IsBytes proc_name proc_name_at
unfolding proc_name_at
proc_name_read = made_read {E = WireFault} {X = ProcName} {Y = ℕ × ℕ} IsBytes name name_at (λ p. record { site = p.0; num = p.1 }) (λ x. (x.site, x.num)) (λ y h. refl) (λ x. refl) name_read

pub thread_name_read : IsRead IsBytes thread_name thread_name_at
unfolding thread_name_at
thread_name_read = made_read {E = WireFault} {X = ThreadName} {Y = ℕ × ℕ} IsBytes name name_at (λ p. record { site = p.0; num = p.1 }) (λ x. (x.site, x.num)) (λ y h. refl) (λ x. refl) name_read

pub code_read : IsRead IsBytes code code_at
unfolding code_at
code_read = made_read {E = WireFault} {X = CodeId} {Y = ℕ} IsBytes (number w32) (number_at w32) (λ n. record { 0 = n }) (λ c. c.0) (λ y h. refl) (λ x. refl) (number_read w32 wide32)

-- ---- features

int_behind : (form : Form) → IsBehind (feature form) 0 (map_at features.Int (integer_at form)) (integer form).Fault
int_behind form = is_behind (feature form) 0 (integer form) (integer_at form) features.Int (λ y h. h) (λ y. refl) (integer_read form) (λ x rest. tt)

atom_behind : (form : Form) → IsBehind (feature form) 1 (map_at features.Atom text_at) text.Fault
atom_behind form = is_behind (feature form) 1 text text_at features.Atom (λ y h. h) (λ y. refl) text_read (λ x rest. tt)

pub feature_read : (form : Form) → IsRead IsBytes (feature form) (feature_at form)
unfolding feature_at key_at
feature_read form = record { takes = takes; again = again; fails = fails; failing = failing }
  where
    takes : (at : ℕ) (bytes : List ℕ) (x : Feature) (m : Left) → IsBytes bytes → feature_at form (at, bytes) ≡ Ok (x, m) → Takes IsBytes (feature form) at bytes x m
    takes at [] x m fits e = absurd (no_ok (x, m) (Short at) e)
    takes at (tag ∷ bytes) x m fits e =
        let small = IsBytes-rest tag bytes fits in
        takes_step (feature form) tag 0 _ _ (int_behind form) _ at bytes x m small
        (takes_step (feature form) tag 1 _ _ (atom_behind form) _ at bytes x m small (λ d. absurd (no_ok (x, m) (Kind at) d)))
        e

    again : (at : ℕ) (x : Feature) (rest : List ℕ) → (feature form).Has x → Unit {0} → feature_at form (at, (feature form).spelling x ++ rest) ≡ Ok (x, (at + length ((feature form).spelling x), rest))
    again at (features.Int z) rest has ends = again_behind (integer form) (integer_at form) features.Int 0 at z rest (integer_read form) has tt
    again at (features.Atom t) rest has ends = again_behind text text_at features.Atom 1 at t rest text_read has tt

    fails : (at : ℕ) (bytes : List ℕ) (f : WireFault) → IsBytes bytes → feature_at form (at, bytes) ≡ Err f → (feature form).Fault at bytes f
    fails at [] f fits e = sym (err_is {A = Feature × Left} (Short at) f e)
    fails at (tag ∷ bytes) f fits e =
        let small = IsBytes-rest tag bytes fits in
        fails_step (feature form) tag 0 _ _ (int_behind form) _ _ at bytes f small
        (λ n0. fails_step (feature form) tag 1 _ _ (atom_behind form) _ _ at bytes f small (λ n1 d. (omega (arith, n0, n1), sym (err_is {A = Feature × Left} (Kind at) f d))))
        e

    failing : (at : ℕ) (bytes : List ℕ) (f : WireFault) → (feature form).Fault at bytes f → feature_at form (at, bytes) ≡ Err f
    failing at [] f h = ap (λ (g : WireFault). failed g) (sym h)
    failing at (tag ∷ bytes) f (inl h) = ap (λ (t : ℕ). key_at form at t (at + 1, bytes)) h.0 ∙ (int_behind form).failing at bytes f h.1
    failing at (tag ∷ bytes) f (inr (inl h)) = ap (λ (t : ℕ). key_at form at t (at + 1, bytes)) h.0 ∙ (atom_behind form).failing at bytes f h.1
    failing at (tag ∷ bytes) f (inr (inr h)) =
        passes tag 0 _ _ _ (λ e. omega (arith, e, h.0)) (passes tag 1 _ _ _ (λ e. omega (arith, e, h.0)) (ap (λ (g : WireFault). failed g) (sym h.1)))

-- ---- what is above the last of a list

above_yes : {X A : Type 0} (key : X → A) (below : A → A → Bool) (Below : A → A → Type 0) → ((a b : A) → below a b ≡ true → Below a b)
    → (front : List X) (a : A) → is_above key below front a ≡ true → IsAbove key Below front a
above_yes key below Below holds [] a e = tt
above_yes key below Below holds (x ∷ []) a e = holds (key x) a e
above_yes key below Below holds (x ∷ y ∷ xs) a e = above_yes key below Below holds (y ∷ xs) a e

above_no : {X A : Type 0} (key : X → A) (below : A → A → Bool) (Below : A → A → Type 0) → ((a b : A) → below a b ≡ false → Below a b → ⊥)
    → (front : List X) (a : A) → is_above key below front a ≡ false → IsAbove key Below front a → ⊥
above_no key below Below misses [] a e h = true≢false e
above_no key below Below misses (x ∷ []) a e h = misses (key x) a e h
above_no key below Below misses (x ∷ y ∷ xs) a e h = above_no key below Below misses (y ∷ xs) a e h

feature_yes : (a b : Feature) → feature_below a b ≡ true → IsFeatureBelow a b
feature_yes a b e = elim (feature_cmp a b) as (λ o. is_lt o ≡ true → o ≡ Less) [ Less ↦ λ e. refl | Equal ↦ λ e. cc | Greater ↦ λ e. cc ] e

feature_no : (a b : Feature) → feature_below a b ≡ false → IsFeatureBelow a b → ⊥
feature_no a b e h = false≢true (sym e ∙ ap is_lt h)

name_yes : (a b : VarName) → name_below a b ≡ true → IsBelow a b
name_yes a b e = elim (choice (eqb a.site b.site) (ltb a.num b.num) (ltb a.site b.site) e) [
  | inl h ↦ inr (eqb-true a.site b.site h.0, ltb-true a.num b.num h.1)
  | inr h ↦ inl (ltb-true a.site b.site h.1)
]
  where
    choice : (c x y : Bool) → cond c x y ≡ true → ((c ≡ true) × (x ≡ true)) ⊎ ((c ≡ false) × (y ≡ true))
    choice true x y e = inl (refl, e)
    choice false x y e = inr (refl, e)

name_no : (a b : VarName) → name_below a b ≡ false → IsBelow a b → ⊥
name_no a b e (inl h) =
    false≢true (sym e ∙ ap (λ (c : Bool). cond c (ltb a.num b.num) (ltb a.site b.site)) (ne_eqb a.site b.site (λ s. omega (arith, s, h))) ∙ lt-ltb a.site b.site h)
name_no a b e (inr h) =
    false≢true (sym e ∙ ap (λ (c : Bool). cond c (ltb a.num b.num) (ltb a.site b.site)) (eq-eqb a.site b.site h.0) ∙ lt-ltb a.num b.num h.1)

-- ---- the fields of a record

field_read : (form : Form) → (front : List (Feature × VarName)) → IsRead IsBytes (field_behind form front) (field_at form front)
unfolding field_at
field_read form front =
    let key : Feature × VarName → Feature = λ x. x.0 in
    let holds = above_yes key feature_below IsFeatureBelow feature_yes front in
    let misses = above_no key feature_below IsFeatureBelow feature_no front in
    let first = tested_read (feature form) (feature_at form) (IsAbove key IsFeatureBelow front) (is_above key feature_below front) (λ at. Order at) holds misses (feature_read form) in
    before_read IsBytes (restriction (IsAbove key IsFeatureBelow front) (λ at. Order at) (feature form)) var_name (filter_at (is_above key feature_below front) (λ at. Order at) (feature_at form)) var_name_at first var_name_read

pub fields_read : (form : Form) → IsRead IsBytes (record_fields form) (fields_at form)
unfolding fields_at
fields_read form =
    listed_read (within 1 64 (number w8)) (byte_within_at 1 64) (record_field form) (field_behind form) (field_at form) (byte_within_read 1 64) (λ n rest. tt) (record { read = field_read form; spelling = λ front x. refl; free = λ front x rest. (tt, (tt, tt)) })

pub variables_read : IsRead IsBytes variables variables_at
unfolding variables_at
variables_read =
    listed_read (number w16) (number_at w16) var_name (λ front. var_name) (λ front. var_name_at) (number_read w16 wide16) (λ n rest. tt) (record { read = λ front. var_name_read; spelling = λ front x. refl; free = λ front x rest. (tt, tt) })

-- ---- terms

tree_read : (form : Form) → IsRead IsBytes (tree form) (text_at also fields_at form)
tree_read form = before_read IsBytes text (record_fields form) text_at (fields_at form) text_read (fields_read form)

procedure_read : IsRead IsBytes procedure (proc_name_at also code_at also byte_within_at 0 64 also variables_at)
procedure_read =
    before_read IsBytes proc_name (code before formals before variables) proc_name_at (code_at also byte_within_at 0 64 also variables_at) proc_name_read
    (before_read IsBytes code (formals before variables) code_at (byte_within_at 0 64 also variables_at) code_read
    (before_read IsBytes formals variables (byte_within_at 0 64) variables_at (byte_within_read 0 64) variables_read))

var_behind : (form : Form) → IsBehind (term form) 0 (map_at terms.Var var_name_at) var_name.Fault
var_behind form = is_behind (term form) 0 var_name var_name_at terms.Var (λ y h. h) (λ y. refl) var_name_read (λ x rest. tt)

number_behind : (form : Form) → IsBehind (term form) 1 (map_at (λ z. terms.Node (nodes.Int z)) (integer_at form)) (integer form).Fault
number_behind form = is_behind (term form) 1 (integer form) (integer_at form) (λ z. terms.Node (nodes.Int z)) (λ y h. h) (λ y. refl) (integer_read form) (λ x rest. tt)

text_behind : (form : Form) → IsBehind (term form) 2 (map_at (λ t. terms.Node (nodes.Atom t)) text_at) text.Fault
text_behind form = is_behind (term form) 2 text text_at (λ t. terms.Node (nodes.Atom t)) (λ y h. h) (λ y. refl) text_read (λ x rest. tt)

record_behind : (form : Form) → IsBehind (term form) 3 (record_at form) (tree form).Fault
unfolding record_at
record_behind form = is_behind (term form) 3 (tree form) (text_at also fields_at form) (λ p. terms.Node (nodes.Rec p.0 p.1)) (λ y h. h) (λ y. refl) (tree_read form) (λ x rest. tt)

procedure_behind : (form : Form) → IsBehind (term form) 4 procedure_at procedure.Fault
unfolding procedure_at
procedure_behind form =
    is_behind (term form) 4 procedure (proc_name_at also code_at also byte_within_at 0 64 also variables_at) (λ p. terms.Node (nodes.Proc p.1.1.0 p.1.0 p.0 p.1.1.1)) (λ y h. h) (λ y. refl) procedure_read (λ x rest. tt)

cell_behind : (form : Form) → IsBehind (term form) 5 (map_at (λ c. terms.Node (nodes.Cell c)) cell_name_at) cell_name.Fault
cell_behind form =
    is_behind_where (term form) 5 cell_name cell_name_at (λ c. terms.Node (nodes.Cell c)) (λ c h. subst (λ (n : ℕ). HasCell form c n) (sym h.0) h) (λ c h. ap (λ (n : ℕ). cell_spelling c n) h.0) cell_name_read (λ x rest. tt)

-- what form 2 has besides

port_behind : IsBehind (term forms.Two) 6 (map_at (λ q. terms.Node (nodes.Port q)) port_name_at) port_name.Fault
port_behind = is_behind (term forms.Two) 6 port_name port_name_at (λ q. terms.Node (nodes.Port q)) (λ q h. (tt, h)) (λ q. refl) port_name_read (λ x rest. tt)

stationary_has : (c : CellName) (n : ℕ) → c.at ≡ n → stationary_name.Has c → HasCell forms.Two c n
stationary_has c zero e h = let low = h.1.1.0 in absurd (omega (arith, e, low))
stationary_has c (suc k) e h = (tt, h)

stationary_spelled : (c : CellName) (n : ℕ) → c.at ≡ n → stationary_name.Has c → cell_spelling c n ≡ 7 ∷ stationary_name.spelling c
stationary_spelled c zero e h = let low = h.1.1.0 in absurd (omega (arith, e, low))
stationary_spelled c (suc k) e h = refl

stationary_behind : IsBehind (term forms.Two) 7 (map_at (λ c. terms.Node (nodes.Cell c)) stationary_name_at) stationary_name.Fault
stationary_behind =
    is_behind_where (term forms.Two) 7 stationary_name stationary_name_at (λ c. terms.Node (nodes.Cell c)) (λ c h. stationary_has c c.at refl h) (λ c h. stationary_spelled c c.at refl h) stationary_name_read (λ x rest. tt)

later_takes : (form : Form) (tag at : ℕ) (bytes : List ℕ) (x : Term) (m : Left) → IsBytes bytes → later_node_at form at tag (at + 1, bytes) ≡ Ok (x, m) → Takes IsBytes (term form) at (tag ∷ bytes) x m
unfolding later_node_at
later_takes forms.One tag at bytes x m fits e = absurd (no_ok (x, m) (Kind at) e)
later_takes forms.Two tag at bytes x m fits e =
    takes_step (term forms.Two) tag 6 _ _ port_behind _ at bytes x m fits
    (takes_step (term forms.Two) tag 7 _ _ stationary_behind _ at bytes x m fits (λ d. absurd (no_ok (x, m) (Kind at) d)))
    e

later_fails : (form : Form) (tag at : ℕ) (bytes : List ℕ) (f : WireFault) → IsBytes bytes → 5 < tag → later_node_at form at tag (at + 1, bytes) ≡ Err f → LaterTermFault form at tag bytes f
unfolding later_node_at
later_fails forms.One tag at bytes f fits high e = (high, sym (err_is {A = Term × Left} (Kind at) f e))
later_fails forms.Two tag at bytes f fits high e =
    fails_step (term forms.Two) tag 6 _ _ port_behind _ _ at bytes f fits
    (λ n6. fails_step (term forms.Two) tag 7 _ _ stationary_behind _ _ at bytes f fits (λ n7 d. (omega (arith, high, n6, n7), sym (err_is {A = Term × Left} (Kind at) f d))))
    e

later_high : (form : Form) (tag at : ℕ) (bytes : List ℕ) (f : WireFault) → LaterTermFault form at tag bytes f → 5 < tag
later_high forms.One tag at bytes f h = h.0
later_high forms.Two tag at bytes f (inl h) = omega (arith, h.0)
later_high forms.Two tag at bytes f (inr (inl h)) = omega (arith, h.0)
later_high forms.Two tag at bytes f (inr (inr h)) = omega (arith, h.0)

later_failing : (form : Form) (tag at : ℕ) (bytes : List ℕ) (f : WireFault) → LaterTermFault form at tag bytes f → later_node_at form at tag (at + 1, bytes) ≡ Err f
unfolding later_node_at
later_failing forms.One tag at bytes f h = ap (λ (g : WireFault). failed g) (sym h.1)
later_failing forms.Two tag at bytes f (inl h) = ap (λ (t : ℕ). later_node_at forms.Two at t (at + 1, bytes)) h.0 ∙ port_behind.failing at bytes f h.1
later_failing forms.Two tag at bytes f (inr (inl h)) = ap (λ (t : ℕ). later_node_at forms.Two at t (at + 1, bytes)) h.0 ∙ stationary_behind.failing at bytes f h.1
later_failing forms.Two tag at bytes f (inr (inr h)) =
    passes tag 6 _ _ _ (λ e. omega (arith, e, h.0)) (passes tag 7 _ _ _ (λ e. omega (arith, e, h.0)) (ap (λ (g : WireFault). failed g) (sym h.1)))

cell_again : (form : Form) (at : ℕ) (c : CellName) (n : ℕ) (rest : List ℕ) → HasCell form c n → term_at form (at, cell_spelling c n ++ rest) ≡ Ok (terms.Node (nodes.Cell c), (at + length (cell_spelling c n), rest))
unfolding term_at node_at later_node_at
cell_again form at c zero rest h = again_behind cell_name cell_name_at (λ c. terms.Node (nodes.Cell c)) 5 at c rest cell_name_read h (tt, (tt, tt))
cell_again forms.One at c (suc k) rest h = absurd h.0
cell_again forms.Two at c (suc k) rest h = again_behind stationary_name stationary_name_at (λ c. terms.Node (nodes.Cell c)) 7 at c rest stationary_name_read h.1 ((tt, tt), tt)

port_again : (form : Form) (at : ℕ) (q : PortName) (rest : List ℕ) → IsTwo form × port_name.Has q → term_at form (at, 6 ∷ port_name.spelling q ++ rest) ≡ Ok (terms.Node (nodes.Port q), (at + length (6 ∷ port_name.spelling q), rest))
unfolding term_at node_at later_node_at
port_again forms.One at q rest h = absurd h.0
port_again forms.Two at q rest h = again_behind port_name port_name_at (λ q. terms.Node (nodes.Port q)) 6 at q rest port_name_read h.1 (tt, tt)

pub term_read : (form : Form) → IsRead IsBytes (term form) (term_at form)
unfolding term_at node_at record_at procedure_at
term_read form = record { takes = takes; again = again; fails = fails; failing = failing }
  where
    takes : (at : ℕ) (bytes : List ℕ) (x : Term) (m : Left) → IsBytes bytes → term_at form (at, bytes) ≡ Ok (x, m) → Takes IsBytes (term form) at bytes x m
    takes at [] x m fits e = absurd (no_ok (x, m) (Short at) e)
    takes at (tag ∷ bytes) x m fits e =
        let small = IsBytes-rest tag bytes fits in
        takes_step (term form) tag 0 _ _ (var_behind form) _ at bytes x m small
        (takes_step (term form) tag 1 _ _ (number_behind form) _ at bytes x m small
        (takes_step (term form) tag 2 _ _ (text_behind form) _ at bytes x m small
        (takes_step (term form) tag 3 _ _ (record_behind form) _ at bytes x m small
        (takes_step (term form) tag 4 _ _ (procedure_behind form) _ at bytes x m small
        (takes_step (term form) tag 5 _ _ (cell_behind form) _ at bytes x m small (λ d. later_takes form tag at bytes x m small d))))))
        e

    again : (at : ℕ) (x : Term) (rest : List ℕ) → (term form).Has x → Unit {0} → term_at form (at, (term form).spelling x ++ rest) ≡ Ok (x, (at + length ((term form).spelling x), rest))
    again at (terms.Var x) rest has ends = again_behind var_name var_name_at terms.Var 0 at x rest var_name_read has (tt, tt)
    again at (terms.Node (nodes.Int z)) rest has ends = again_behind (integer form) (integer_at form) (λ z. terms.Node (nodes.Int z)) 1 at z rest (integer_read form) has tt
    again at (terms.Node (nodes.Atom t)) rest has ends = again_behind text text_at (λ t. terms.Node (nodes.Atom t)) 2 at t rest text_read has tt
    again at (terms.Node (nodes.Rec label fields)) rest has ends =
        again_behind (tree form) (text_at also fields_at form) (λ p. terms.Node (nodes.Rec p.0 p.1)) 3 at (label, fields) rest (tree_read form) has (tt, tt)
    again at (terms.Node (nodes.Proc n c p vars)) rest has ends =
        again_behind procedure (proc_name_at also code_at also byte_within_at 0 64 also variables_at) (λ p. terms.Node (nodes.Proc p.1.1.0 p.1.0 p.0 p.1.1.1)) 4 at (p, (c, (n, vars))) rest procedure_read has ((tt, tt), (tt, (tt, tt)))
    again at (terms.Node (nodes.Cell c)) rest has ends = cell_again form at c c.at rest has
    again at (terms.Node (nodes.Port q)) rest has ends = port_again form at q rest has

    fails : (at : ℕ) (bytes : List ℕ) (f : WireFault) → IsBytes bytes → term_at form (at, bytes) ≡ Err f → (term form).Fault at bytes f
    fails at [] f fits e = sym (err_is {A = Term × Left} (Short at) f e)
    fails at (tag ∷ bytes) f fits e =
        let small = IsBytes-rest tag bytes fits in
        fails_step (term form) tag 0 _ _ (var_behind form) _ _ at bytes f small
        (λ n0. fails_step (term form) tag 1 _ _ (number_behind form) _ _ at bytes f small
        (λ n1. fails_step (term form) tag 2 _ _ (text_behind form) _ _ at bytes f small
        (λ n2. fails_step (term form) tag 3 _ _ (record_behind form) _ _ at bytes f small
        (λ n3. fails_step (term form) tag 4 _ _ (procedure_behind form) _ _ at bytes f small
        (λ n4. fails_step (term form) tag 5 _ _ (cell_behind form) _ _ at bytes f small
        (λ n5 d. later_fails form tag at bytes f small (omega (arith, n0, n1, n2, n3, n4, n5)) d))))))
        e

    failing : (at : ℕ) (bytes : List ℕ) (f : WireFault) → (term form).Fault at bytes f → term_at form (at, bytes) ≡ Err f
    failing at [] f h = ap (λ (g : WireFault). failed g) (sym h)
    failing at (tag ∷ bytes) f (inl h) = ap (λ (t : ℕ). node_at form at t (at + 1, bytes)) h.0 ∙ (var_behind form).failing at bytes f h.1
    failing at (tag ∷ bytes) f (inr (inl h)) = ap (λ (t : ℕ). node_at form at t (at + 1, bytes)) h.0 ∙ (number_behind form).failing at bytes f h.1
    failing at (tag ∷ bytes) f (inr (inr (inl h))) = ap (λ (t : ℕ). node_at form at t (at + 1, bytes)) h.0 ∙ (text_behind form).failing at bytes f h.1
    failing at (tag ∷ bytes) f (inr (inr (inr (inl h)))) = ap (λ (t : ℕ). node_at form at t (at + 1, bytes)) h.0 ∙ (record_behind form).failing at bytes f h.1
    failing at (tag ∷ bytes) f (inr (inr (inr (inr (inl h))))) = ap (λ (t : ℕ). node_at form at t (at + 1, bytes)) h.0 ∙ (procedure_behind form).failing at bytes f h.1
    failing at (tag ∷ bytes) f (inr (inr (inr (inr (inr (inl h)))))) = ap (λ (t : ℕ). node_at form at t (at + 1, bytes)) h.0 ∙ (cell_behind form).failing at bytes f h.1
    failing at (tag ∷ bytes) f (inr (inr (inr (inr (inr (inr h)))))) =
        let high = later_high form tag at bytes f h in
        passes tag 0 _ _ _ (λ e. omega (arith, e, high))
        (passes tag 1 _ _ _ (λ e. omega (arith, e, high))
        (passes tag 2 _ _ _ (λ e. omega (arith, e, high))
        (passes tag 3 _ _ _ (λ e. omega (arith, e, high))
        (passes tag 4 _ _ _ (λ e. omega (arith, e, high))
        (passes tag 5 _ _ _ (λ e. omega (arith, e, high)) (later_failing form tag at bytes f h))))))

-- ---- bundles

equation_read : (form : Form) → (front : List Equation) → IsRead IsBytes (equation_behind form front) (equation_at form front)
unfolding equation_at
equation_read form front =
    let key : Equation → VarName = λ e. e.0 in
    let holds = above_yes key name_below IsBelow name_yes front in
    let misses = above_no key name_below IsBelow name_no front in
    let first = tested_read var_name var_name_at (IsAbove key IsBelow front) (is_above key name_below front) (λ at. Order at) holds misses var_name_read in
    before_read IsBytes (restriction (IsAbove key IsBelow front) (λ at. Order at) var_name) (term form) (filter_at (is_above key name_below front) (λ at. Order at) var_name_at) (term_at form) first (term_read form)

pub bundle_read : (form : Form) → IsRead IsBytes (bundle form) (bundle_at form)
unfolding bundle_at
bundle_read form =
    listed_read (within 0 256 (number w16)) (filter_at (is_within 0 256) (λ at. Range at) (number_at w16)) (equation form) (equation_behind form) (equation_at form)
    (within_read 0 256 (number w16) (number_at w16) (number_read w16 wide16))
    (λ n rest. tt) (record { read = equation_read form; spelling = λ front x. refl; free = λ front x rest. ((tt, tt), tt) })
