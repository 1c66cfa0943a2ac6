-- What is wrong at a token besides the grammar, in the order in which it is answered: Number, Site, Deep, Wide, Twice, Unbound.
use Rattle.std.specs.Prelude.{ℕ, zero, suc, List, ◌∷◌, length, Bool, true, false, nat_lt, Option, Some, None, ℤ, pos, int_lt}
use Rattle.tree_node.specs.declared.limits.TheConstants.{MOST_ITEMS}
use Rattle.oz_grammar.specs.declared.symbol.Symbol.{Symbol}
use Rattle.oz_grammar.specs.declared.symbol.Symbol.TheVariants as t
use Rattle.oz_grammar.specs.declared.symbol.Purpose.{Purpose}
use Rattle.oz_grammar.specs.declared.symbol.Purpose.TheVariants as purpose
use Rattle.kernel_syntax.specs.declared.built_in.BuiltIn.{BuiltIn}
use Rattle.oz_grammar.specs.declared.fault.What.{What}
use Rattle.oz_grammar.specs.declared.fault.Fault.{Fault}
use Rattle.oz_grammar.specs.declared.fault.FaultKind.{FaultKind}
use Rattle.oz_grammar.specs.declared.fault.FaultKind.TheVariants.{Lex, Expected, Number, Site, Deep, Wide, Twice, Unbound}
use Rattle.tree_node.specs.declared.node.Feature.{Feature}
use Rattle.oz_grammar.specs.Grammar.{Identifier, FeatureToken, AtomFeature, IntFeature}
use Rattle.oz_grammar.specs.Automata as automata
use Rattle.oz_grammar.specs.Scoping.{Scope, Fields, is_declared, feature_of, place_feature, has_feature, has_name, names_in}

-- the first of two
abbrev pub or_else : Option FaultKind → Option FaultKind → Option FaultKind
or_else (Some kind) other = Some kind
or_else None other = other

-- this kind of fault, unless the test holds
abbrev pub where_not : Bool → FaultKind → Option FaultKind
where_not true kind = None
where_not false kind = Some kind

-- this kind of fault, if the test holds
abbrev pub where_so : Bool → FaultKind → Option FaultKind
where_so true kind = Some kind
where_so false kind = None

-- an integer that is no good number
abbrev pub number_fault : Option ℤ → Option FaultKind
number_fault (Some n) = None
number_fault None = Some Number

-- the site of a thread
abbrev pub site_fault : Option ℤ → Option FaultKind
site_fault (Some n) = where_so (int_lt n (pos 1)) Site
site_fault None = Some Number

-- a statement with no level left
abbrev pub deep_fault : ℕ → Option FaultKind
deep_fault zero = Some Deep
deep_fault (suc d) = None

-- a used identifier
abbrev pub use_fault : Scope → Identifier → Option FaultKind
use_fault scope x = where_not (is_declared scope x) Unbound

-- one more item, where there are so many
abbrev pub count_fault : ℕ → Option FaultKind
count_fault n = where_not (nat_lt n MOST_ITEMS) Wide

-- the name first in a call
abbrev pub called_fault : Option BuiltIn → Scope → Identifier → Option FaultKind
called_fault (Some b) scope p = None
called_fault None scope p = use_fault scope p

-- an argument behind n others
abbrev pub argument_fault : Scope → ℕ → Identifier → Option FaultKind
argument_fault scope n x = or_else (count_fault n) (use_fault scope x)

-- a formal behind others
abbrev pub formal_fault : List Identifier → Identifier → Option FaultKind
formal_fault before x = or_else (count_fault (length before)) (where_so (has_name before x) Twice)

-- one more field, where there is room for so many
abbrev pub room_fault : ℕ → Option FaultKind
room_fault zero = Some Wide
room_fault (suc room) = None

-- a field of this feature behind others, with room for so many: one too many, or a feature that one of them has
abbrev pub feature_fault : ℕ → Fields → Feature → Option FaultKind
feature_fault room before f = or_else (room_fault room) (where_so (has_feature before f) Twice)

-- the feature that a field names
abbrev pub feature_token_fault : ℕ → Fields → FeatureToken → Option FaultKind
feature_token_fault room before (AtomFeature a) = feature_fault room before (feature_of (AtomFeature a))
feature_token_fault room before (IntFeature n) = or_else (number_fault n) (feature_fault room before (feature_of (IntFeature n)))

-- the variable of a field: one that is used, or one that a pattern declares
abbrev pub name_fault : Purpose → Scope → Fields → Identifier → Option FaultKind
name_fault purpose.Use scope before x = use_fault scope x
name_fault purpose.Declare scope before x = where_so (has_name (names_in before) x) Twice

-- a field without a feature, the next of which has feature next
abbrev pub placed_fault : Purpose → Scope → ℕ → Fields → ℕ → Identifier → Option FaultKind
placed_fault p scope room before next x = or_else (feature_fault room before (place_feature next)) (name_fault p scope before x)

-- a feature that selects
abbrev pub selected_fault : FeatureToken → Option FaultKind
selected_fault (AtomFeature a) = None
selected_fault (IntFeature n) = number_fault n

-- one less, and 0 from 0
abbrev pub fewer : ℕ → ℕ
fewer zero = zero
fewer (suc n) = n

-- a fault at the first of these symbols
abbrev pub fault_here : FaultKind → List Symbol → Fault
fault_here kind symbols = record { kind = kind; left = length symbols }

-- a lexical fault of a symbol
abbrev pub lexical : Symbol → Option FaultKind
lexical (t.Bad kind) = Some (Lex kind)
lexical symbol = None

-- a lexical fault stands before what is expected
abbrev pub mismatch : What → List Symbol → FaultKind
mismatch w symbols = automata.mismatch lexical (Expected w) symbols

-- this symbol is a colon
abbrev pub is_colon : Symbol → Bool
is_colon t.Colon = true
is_colon symbol = false
