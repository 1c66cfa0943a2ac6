-- Fields by their features, as the private functions read them.
use Rattle.std.specs.Prelude.{ℕ, ◌+◌, List, [], ◌∷◌, if◌then◌else◌, Result, Ok, Err, Option, Some, None, ℤ}
use Rattle.std.specs.Ordering.{is_lt}
use Rattle.tree_node.specs.declared.node.Feature.{Feature}
use Rattle.tree_node.specs.declared.node.Feature.TheVariants as feature
use Rattle.oz_grammar.specs.declared.fault.FaultKind.TheVariants.{Number}
use Rattle.oz_grammar.specs.declared.symbol.Symbol.{Symbol}
use Rattle.oz_grammar.specs.declared.symbol.Symbol.TheVariants as t
use Rattle.oz_grammar.specs.declared.symbol.Sign.TheVariants as sign
use Rattle.oz_grammar.specs.declared.symbol.Purpose.{Purpose}
use Rattle.oz_grammar.specs.declared.fault.What.TheVariants as what
use Rattle.oz_grammar.specs.declared.fault.Fault.{Fault}
use Rattle.tree_node.specs.Node.{feature_cmp}
use Rattle.oz_grammar.specs.Scoping.{Scope, Fields, with_field}
use Rattle.oz_grammar.specs.Faults.{feature_fault, name_fault, fault_here}
use Rattle.oz_grammar.specs.Reading.{◌>>=◌, FieldOut, fault_expected, fault_or, sign_at}

-- the variable behind a feature
abbrev pub field_name_of : Purpose → Scope → Fields → ℕ → Feature → List Symbol → Result FieldOut Fault
field_name_of p scope before next f (t.Variable x ∷ rest) = fault_or (name_fault p scope before x) (t.Variable x ∷ rest) (Ok (with_field f x before, next, rest))
field_name_of p scope before next f symbols = fault_expected what.Variable symbols

-- a field behind its feature, which stands first of the symbols
abbrev pub field_with_feature_of : Purpose → Scope → ℕ → Fields → ℕ → Feature → List Symbol → List Symbol → Result FieldOut Fault
field_with_feature_of p scope room before next f symbols rest = fault_or (feature_fault room before f) symbols (sign_at sign.Colon rest >>= λ behind. field_name_of p scope before next f behind)

-- a field behind an integer
abbrev pub numbered_field_of : Purpose → Scope → ℕ → Fields → ℕ → Option ℤ → List Symbol → List Symbol → Result FieldOut Fault
numbered_field_of p scope room before next None symbols rest = Err (fault_here Number symbols)
numbered_field_of p scope room before next (Some v) symbols rest = field_with_feature_of p scope room before next (feature.Int v) symbols rest

-- how many fields stand before the first of a greater feature
abbrev pub insertion_point : Feature → List (Feature × List ℕ) → ℕ
insertion_point f [] = 0
insertion_point f ((g, y) ∷ fields) = if is_lt (feature_cmp f g) then 0 else insertion_point f fields + 1
