-- Declarations: which identifiers are declared where, their positions, and the names of what is built in (CTM section
-- 2.4.2: static scoping).
use Rattle.std.specs.Prelude.{◌≡◌, ℕ, ◌+◌, List, [], ◌∷◌, ◌++◌, length, map, Bool, if◌then◌else◌, Option, Some, None, is_some, unwrap_or, codes, pos}
use Rattle.std.specs.List.{list_any}
use Rattle.std.specs.Str.{bytes_eq}
use Rattle.std.specs.Ordering.{is_lt}
use Rattle.tree_node.specs.declared.node.Feature.{Feature}
use Rattle.tree_node.specs.declared.node.Feature.TheVariants as feature
use Rattle.tree_node.specs.Node.{feature_cmp}
use Rattle.tree_node.specs.Goal.{equal_feature}
use Rattle.kernel_syntax.specs.BuiltIns.{arity_of}
use Rattle.kernel_syntax.specs.declared.built_in.BuiltIn.{BuiltIn}
use Rattle.kernel_syntax.specs.declared.built_in.BuiltIn.TheVariants as built
use Rattle.oz_grammar.specs.Grammar.{Identifier, FeatureToken, AtomFeature, IntFeature, Field, Placed, WithFeature, Pattern, IntPattern, AtomPattern, RecordPattern, PairPattern, Plain, Calls, Opening, Locals, ProcValue, ProcNamed, Threads, ThreadsAt, Choice, Ifs, Cases, Statement, Simple, Block, Chooses, Tries, Sequence, One, Then}

-- the names declared around a place, from the outside inwards, hidden ones too
abbrev pub Scope : Type 0
Scope = List Identifier

-- further declarations behind this one: the innermost counts
abbrev pub declared_behind : Bool → Option ℕ → Option ℕ
declared_behind here (Some p) = Some (p + 1)
declared_behind here None = if here then Some 0 else None

-- the number of declarations around the innermost one of a name
abbrev pub position_of : Scope → Identifier → Option ℕ
position_of [] x = None
position_of (y ∷ ys) x = declared_behind (bytes_eq y x) (position_of ys x)

-- a declaration around the place has this name
abbrev pub is_declared : Scope → Identifier → Bool
is_declared scope x = is_some (position_of scope x)

-- the position of a used identifier. One that passes is declared
abbrev pub declaration_of : Scope → Identifier → ℕ
declaration_of scope x = unwrap_or (position_of scope x) 0

-- ---- what is built in

-- what is built in under this name
abbrev pub built_in_of : Identifier → Option BuiltIn
built_in_of x =
    if bytes_eq x (codes "Browse") then Some built.Browse
    else (if bytes_eq x (codes "Wait") then Some built.Wait
    else (if bytes_eq x (codes "NewCell") then Some built.NewCell
    else (if bytes_eq x (codes "Exchange") then Some built.Exchange
    else (if bytes_eq x (codes "NewPort") then Some built.NewPort
    else (if bytes_eq x (codes "Send") then Some built.Send
    else (if bytes_eq x (codes "NewCellAt") then Some built.NewCellAt
    else None))))))

-- what a call of this name calls, where it is built in: where nothing declares the name
unfoldable pub built_in_at : Scope → Identifier → Option BuiltIn
built_in_at scope p = if is_declared scope p then None else built_in_of p

-- ---- fields

-- names by features, in the order of features
abbrev pub Fields : Type 0
Fields = List (Feature × Identifier)

-- the feature that a text names. An integer that passes is a good number
abbrev pub feature_of : FeatureToken → Feature
feature_of (AtomFeature a) = feature.Atom a
feature_of (IntFeature n) = feature.Int (unwrap_or n (pos 0))

-- the feature of the k-th field that has none
abbrev pub place_feature : ℕ → Feature
place_feature k = feature.Int (pos k)

-- one of the fields has this feature
abbrev pub has_feature : {A : Type 0} → List (Feature × A) → Feature → Bool
has_feature {A = A} fields f = list_any (λ (g : Feature × A). equal_feature g.0 f) fields

-- one of the names is this one
abbrev pub has_name : List Identifier → Identifier → Bool
has_name names x = list_any (λ (y : Identifier). bytes_eq y x) names

-- one field more, before the first of a greater feature
abbrev pub with_field : {A : Type 0} → Feature → A → List (Feature × A) → List (Feature × A)
with_field f x [] = (f, x) ∷ []
with_field f x ((g, y) ∷ fields) =
    if is_lt (feature_cmp f g) then (f, x) ∷ (g, y) ∷ fields else (g, y) ∷ with_field f x fields

-- the names of fields, in the order of features
abbrev pub names_in : Fields → List Identifier
names_in fields = map (λ (f : Feature × Identifier). f.1) fields

-- those in brackets behind others, where so many stood without a feature that the next has feature next
abbrev pub fields_behind : Fields → ℕ → List Field → Fields
fields_behind before next [] = before
fields_behind before next (Placed x ∷ fs) = fields_behind (with_field (place_feature next) x before) (next + 1) fs
fields_behind before next (WithFeature m x ∷ fs) = fields_behind (with_field (feature_of m) x before) next fs

-- the fields in the brackets of a record
abbrev pub fields_of : List Field → Fields
fields_of fs = fields_behind [] 1 fs

-- ---- what is declared for a body

-- the variables of a pattern, in the order of features
abbrev pub pattern_names : Pattern → List Identifier
pattern_names (IntPattern n) = []
pattern_names (AtomPattern a) = []
pattern_names (RecordPattern a fs) = names_in (fields_of fs)
pattern_names (PairPattern h u) = h ∷ u ∷ []

-- around the body of a statement
abbrev pub opening_scope : Opening → Scope → Scope
opening_scope (Locals x xs) scope = scope ++ x ∷ xs
opening_scope (ProcValue x xs) scope = scope ++ xs
opening_scope (ProcNamed x xs) scope = scope ++ xs
opening_scope Threads scope = scope
opening_scope (ThreadsAt n) scope = scope

-- around the first of two bodies
abbrev pub choice_scope : Choice → Scope → Scope
choice_scope (Ifs x) scope = scope
choice_scope (Cases x p) scope = scope ++ pattern_names p

-- ---- which trees are derivations

-- a call of what is built in has exactly its arguments
abbrev pub HasArguments : Option BuiltIn → List Identifier → Type 0
HasArguments (Some b) xs = length xs ≡ arity_of b
HasArguments None xs = Unit {0}

-- where a statement without bodies is a call, it has its arguments
abbrev pub PlainDerives : Plain → Scope → Type 0
PlainDerives (Calls p xs) scope = HasArguments (built_in_at scope p) xs
PlainDerives _ scope = Unit {0}

-- the tree is a derivation under these declarations, which decide what calls are built in
abbrev mutual
  pub StmtDerives : Statement → Scope → Type 0
  StmtDerives (Simple s) scope = PlainDerives s scope
  StmtDerives (Block o q) scope = SeqDerives q (opening_scope o scope)
  StmtDerives (Chooses h q r) scope = SeqDerives q (choice_scope h scope) × SeqDerives r scope
  StmtDerives (Tries q x r) scope = SeqDerives q scope × SeqDerives r (scope ++ x ∷ [])

  pub SeqDerives : Sequence → Scope → Type 0
  SeqDerives (One s) scope = StmtDerives s scope
  SeqDerives (Then s q) scope = StmtDerives s scope × SeqDerives q scope

-- the tree is a derivation of a program
abbrev pub IsDerivation : Sequence → Type 0
IsDerivation q = SeqDerives q []
