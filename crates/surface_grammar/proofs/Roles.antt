-- What is wrong at a symbol is told by it, and at a field also by whether a colon stands behind it; and some program goes on through
-- each symbol that the points take, in its role.
use Rattle.std.proofs.Common.{◌≡◌, ◌∙◌, ℕ, ◌+◌, List, [], ◌∷◌, Bool, cond, Some, refl, sym, ap}
use Rattle.tree_node.specs.declared.node.Feature.{Feature}
use Rattle.oz_grammar.specs.declared.symbol.Symbol.{Symbol}
use Rattle.oz_grammar.specs.declared.symbol.Symbol.TheVariants as t
use Rattle.oz_grammar.specs.Grammar.{FeatureToken, AtomFeature, IntFeature}
use Rattle.oz_grammar.specs.Scoping.{Scope, place_feature}
use Rattle.oz_grammar.specs.Faults.{deep_fault, fewer, is_colon}
use Rattle.oz_grammar.specs.Automata.{Look, Alone, ByColon, has_colon, SameRole}
use Rattle.surface_grammar.specs.Points.{Whole, Part, Rest, Point, Behind, BehindAtom, FieldOf, FieldBegun, next_behind, next_atom, next_begun, where_taken, value_fault, given_fault, named_fault, field_fault, atom_wrong, begun_wrong, next, wrong}

-- what tells the role of a symbol at a field
abbrev pub role_of : Symbol → Look
role_of (t.Atom a) = ByColon
role_of (t.Integer n) = ByColon
role_of symbol = Alone

-- .. and at points
abbrev pub look : List Point → Symbol → Look
look [] x = Alone
look (Behind extent scope d r ∷ σ) x = look σ x
look (BehindAtom extent scope d ∷ σ) x = look σ x
look (FieldOf scope d room before next ∷ σ) x = role_of x
look (FieldBegun scope d room before next m ∷ σ) x = role_of x
look (p ∷ σ) x = Alone

atom_fault_by : (scope : Scope) (d room : ℕ) (before : List Feature) (nth : ℕ) (a : List ℕ) (xs : List Symbol)
    → field_fault scope d room before nth (t.Atom a ∷ xs) ≡ cond (has_colon is_colon (t.Atom a ∷ xs)) (named_fault room before (AtomFeature a)) (value_fault scope d (given_fault room before (place_feature nth)) (t.Atom a))
atom_fault_by scope d room before nth a [] = refl
atom_fault_by scope d room before nth a (t.Colon ∷ xs) = refl
atom_fault_by scope d room before nth a (x ∷ xs) = refl

integer_fault_by : (scope : Scope) (d room : ℕ) (before : List Feature) (nth : ℕ) (n : _) (xs : List Symbol)
    → field_fault scope d room before nth (t.Integer n ∷ xs) ≡ cond (has_colon is_colon (t.Integer n ∷ xs)) (named_fault room before (IntFeature n)) (value_fault scope d (given_fault room before (place_feature nth)) (t.Integer n))
integer_fault_by scope d room before nth n [] = refl
integer_fault_by scope d room before nth n (t.Colon ∷ xs) = refl
integer_fault_by scope d room before nth n (x ∷ xs) = refl

field_roles : (scope : Scope) (d room : ℕ) (before : List Feature) (nth : ℕ) (x : Symbol) (a b : List Symbol) → SameRole is_colon (role_of x) (x ∷ a) (x ∷ b) → field_fault scope d room before nth (x ∷ a) ≡ field_fault scope d room before nth (x ∷ b)
field_roles scope d room before nth (t.Atom i) a b h =
    atom_fault_by scope d room before nth i a ∙ ap (λ (c : Bool). cond c (named_fault room before (AtomFeature i)) (value_fault scope d (given_fault room before (place_feature nth)) (t.Atom i))) h.1 ∙ sym (atom_fault_by scope d room before nth i b)
field_roles scope d room before nth (t.Integer n) a b h =
    integer_fault_by scope d room before nth n a ∙ ap (λ (c : Bool). cond c (named_fault room before (IntFeature n)) (value_fault scope d (given_fault room before (place_feature nth)) (t.Integer n))) h.1
    ∙ sym (integer_fault_by scope d room before nth n b)
field_roles scope d room before nth x a b h = refl

-- the role of a symbol decides what is wrong at it
pub roles : (σ : List Point) (x : Symbol) (a b : List Symbol) → SameRole is_colon (look σ x) (x ∷ a) (x ∷ b) → wrong σ (x ∷ a) ≡ wrong σ (x ∷ b)
roles [] x a b h = refl
roles (Behind extent scope d r ∷ σ) x a b h = ap (where_taken (next_behind extent scope d r x) (deep_fault r)) (roles σ x a b h)
roles (BehindAtom extent scope d ∷ σ) x a b h = ap (where_taken (next_atom extent scope d x) (atom_wrong d x)) (roles σ x a b h)
roles (FieldOf scope d room before nth ∷ σ) x a b h = field_roles scope d room before nth x a b h
roles (FieldBegun scope d room before nth m ∷ σ) x a b h =
    ap (where_taken (next_begun scope d room before nth m x) (begun_wrong d x)) (field_roles scope d (fewer room) (place_feature nth ∷ before) (nth + 1) x a b h)
roles (p ∷ σ) x a b h = refl

-- ---- what begins a field

-- an atom or an integer that begins a field, before these points
pub record Begun (τ : List Point) : Type 0 where
  pub scope : Scope
  pub levels : ℕ
  pub room : ℕ
  pub before : List Feature
  pub nth : ℕ
  pub token : FeatureToken
  pub behind : List Point
  pub is : τ ≡ FieldBegun scope levels room before nth token ∷ behind

begun : (scope : Scope) (d room : ℕ) (before : List Feature) (nth : ℕ) (m : FeatureToken) (σ τ : List Point) → Some (FieldBegun scope d room before nth m ∷ σ) ≡ Some τ → Begun τ
begun scope d room before nth m σ τ e = record {
  scope = scope;
  levels = d;
  room = room;
  before = before;
  nth = nth;
  token = m;
  behind = σ;
  is = let same : FieldBegun scope d room before nth m ∷ σ ≡ τ = cc in sym same;
}

atom_begun : (σ τ : List Point) (a : List ℕ) → look σ (t.Atom a) ≡ ByColon → next σ (t.Atom a) ≡ Some τ → Begun τ
atom_begun [] τ a l e = absurd cc
atom_begun (Behind Whole scope d r ∷ σ) τ a l e = atom_begun σ τ a l e
atom_begun (Behind Part scope d r ∷ σ) τ a l e = atom_begun σ τ a l e
atom_begun (Behind Rest scope d r ∷ σ) τ a l e = atom_begun σ τ a l e
atom_begun (BehindAtom Whole scope d ∷ σ) τ a l e = atom_begun σ τ a l e
atom_begun (BehindAtom Part scope d ∷ σ) τ a l e = atom_begun σ τ a l e
atom_begun (BehindAtom Rest scope d ∷ σ) τ a l e = atom_begun σ τ a l e
atom_begun (FieldOf scope d room before nth ∷ σ) τ a l e = begun scope d room before nth (AtomFeature a) σ τ e
atom_begun (FieldBegun scope d room before nth (AtomFeature b) ∷ σ) τ a l e = begun scope d (fewer room) (place_feature nth ∷ before) (nth + 1) (AtomFeature a) σ τ e
atom_begun (FieldBegun scope d room before nth (IntFeature n) ∷ σ) τ a l e = begun scope d (fewer room) (place_feature nth ∷ before) (nth + 1) (AtomFeature a) σ τ e
atom_begun (p ∷ σ) τ a l e = absurd cc

integer_begun : (σ τ : List Point) (i : _) → look σ (t.Integer i) ≡ ByColon → next σ (t.Integer i) ≡ Some τ → Begun τ
integer_begun [] τ i l e = absurd cc
integer_begun (Behind Whole scope d r ∷ σ) τ i l e = integer_begun σ τ i l e
integer_begun (Behind Part scope d r ∷ σ) τ i l e = integer_begun σ τ i l e
integer_begun (Behind Rest scope d r ∷ σ) τ i l e = integer_begun σ τ i l e
integer_begun (BehindAtom Whole scope d ∷ σ) τ i l e = integer_begun σ τ i l e
integer_begun (BehindAtom Part scope d ∷ σ) τ i l e = integer_begun σ τ i l e
integer_begun (BehindAtom Rest scope d ∷ σ) τ i l e = integer_begun σ τ i l e
integer_begun (FieldOf scope d room before nth ∷ σ) τ i l e = begun scope d room before nth (IntFeature i) σ τ e
integer_begun (FieldBegun scope d room before nth (AtomFeature b) ∷ σ) τ i l e = begun scope d (fewer room) (place_feature nth ∷ before) (nth + 1) (IntFeature i) σ τ e
integer_begun (FieldBegun scope d room before nth (IntFeature n) ∷ σ) τ i l e = begun scope d (fewer room) (place_feature nth ∷ before) (nth + 1) (IntFeature i) σ τ e
integer_begun (p ∷ σ) τ i l e = absurd cc

no_role : (σ : List Point) (x : Symbol) → role_of x ≡ Alone → look σ x ≡ Alone
no_role [] x e = refl
no_role (Behind extent scope d r ∷ σ) x e = no_role σ x e
no_role (BehindAtom extent scope d ∷ σ) x e = no_role σ x e
no_role (FieldOf scope d room before nth ∷ σ) x e = e
no_role (FieldBegun scope d room before nth m ∷ σ) x e = e
no_role (p ∷ σ) x e = refl

no_both : {l : Look} → l ≡ Alone → l ≡ ByColon → ⊥
no_both {l = l} a b = let e : Alone ≡ ByColon = sym a ∙ b in cc

-- where a colon tells the role of a symbol, it begins a field
pub role_begun : (σ τ : List Point) (x : Symbol) → look σ x ≡ ByColon → next σ x ≡ Some τ → Begun τ
role_begun σ τ (t.Atom a) l e = atom_begun σ τ a l e
role_begun σ τ (t.Integer n) l e = integer_begun σ τ n l e
role_begun σ τ x l e = absurd (no_both (no_role σ x refl) l)
