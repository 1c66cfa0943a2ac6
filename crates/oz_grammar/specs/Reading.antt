-- How the parts of statements are read from the left: the value and the symbols behind it, or the first fault. A reader's code
-- follows these clause by clause.
use Rattle.std.specs.Prelude.{ℕ, zero, suc, ◌+◌, List, [], ◌∷◌, ◌++◌, length, Bool, true, false, if◌then◌else◌, drop, Result, Ok, Err, Option, Some, None, ℤ}
use Rattle.tree_node.specs.declared.limits.TheConstants.{MOST_ITEMS}
use Rattle.kernel_syntax.specs.declared.stmt.Pattern.{Pattern}
use Rattle.kernel_syntax.specs.declared.stmt.Pattern.TheVariants as pattern
use Rattle.kernel_syntax.specs.declared.stmt.Selector.{Selector}
use Rattle.kernel_syntax.specs.declared.stmt.Selector.TheVariants as selector
use Rattle.oz_grammar.specs.declared.symbol.Symbol.{Symbol}
use Rattle.oz_grammar.specs.declared.symbol.Symbol.TheVariants as t
use Rattle.oz_grammar.specs.declared.symbol.Sign.{Sign}
use Rattle.oz_grammar.specs.declared.symbol.Sign.TheVariants as sign
use Rattle.oz_grammar.specs.declared.symbol.Closer.{Closer}
use Rattle.oz_grammar.specs.declared.symbol.Purpose.{Purpose}
use Rattle.oz_grammar.specs.declared.symbol.Purpose.TheVariants as purpose
use Rattle.oz_grammar.specs.declared.fault.What.{What}
use Rattle.oz_grammar.specs.declared.fault.What.TheVariants as what
use Rattle.oz_grammar.specs.declared.fault.Fault.{Fault}
use Rattle.oz_grammar.specs.declared.fault.FaultKind.{FaultKind}
use Rattle.oz_grammar.specs.declared.fault.FaultKind.TheVariants.{Twice}
use Rattle.oz_grammar.specs.Grammar.{Identifier, FeatureToken, AtomFeature, IntFeature}
use Rattle.oz_grammar.specs.Scoping.{Scope, Fields, declaration_of, has_name, with_field, feature_of, place_feature, names_in}
use Rattle.oz_grammar.specs.Faults.{where_so, number_fault, site_fault, use_fault, count_fault, formal_fault, feature_token_fault, name_fault, placed_fault, fault_here, mismatch}
use Rattle.oz_grammar.specs.Points.{expected_sign, is_sign, is_closer, is_statement_start}
use Rattle.oz_grammar.specs.Table.{value_of, features_in, record_pattern, bar_label, two_features}

-- what f reads behind the first, unless that has a fault
infixl 10 ◌>>=◌
abbrev pub ◌>>=◌ : {A B : Type 0} → Result A Fault → (A → Result B Fault) → Result B Fault
(Ok x) >>= f = f x
(Err e) >>= f = Err e

-- the symbol at the front is another than is expected
abbrev pub fault_expected : {A : Type 0} → What → List Symbol → Result A Fault
fault_expected w symbols = Err (fault_here (mismatch w symbols) symbols)

-- what is read unless this is wrong at the front
abbrev pub fault_or : {A : Type 0} → Option FaultKind → List Symbol → Result A Fault → Result A Fault
fault_or (Some kind) symbols read = Err (fault_here kind symbols)
fault_or None symbols read = read

-- a symbol that stands alone
abbrev pub sign_at : Sign → List Symbol → Result (List Symbol) Fault
sign_at s [] = fault_expected (expected_sign s) []
sign_at s (symbol ∷ rest) = if is_sign s symbol then Ok rest else fault_expected (expected_sign s) (symbol ∷ rest)

-- the position of the used variable at the front
abbrev pub used_variable_at : What → Scope → List Symbol → Result (ℕ × List Symbol) Fault
used_variable_at w scope (t.Variable x ∷ rest) = fault_or (use_fault scope x) (t.Variable x ∷ rest) (Ok (declaration_of scope x, rest))
used_variable_at w scope symbols = fault_expected w symbols

-- what stands behind the dot of a selection
abbrev pub selection_at : Scope → List Symbol → Result (Selector × List Symbol) Fault
selection_at scope (t.Variable x ∷ rest) = fault_or (use_fault scope x) (t.Variable x ∷ rest) (Ok (selector.Var (declaration_of scope x), rest))
selection_at scope (t.Atom a ∷ rest) = Ok (selector.Feature (feature_of (AtomFeature a)), rest)
selection_at scope (t.Integer n ∷ rest) = fault_or (number_fault n) (t.Integer n ∷ rest) (Ok (selector.Feature (feature_of (IntFeature n)), rest))
selection_at scope symbols = fault_expected what.VariableOrFeature symbols

-- the fields so far, the feature of the next without one, and what stands behind
abbrev pub FieldOut : Type 0
FieldOut = Fields × ℕ × List Symbol

-- the variable behind the feature of a field
abbrev pub field_name_at : Purpose → Scope → Fields → ℕ → FeatureToken → List Symbol → Result FieldOut Fault
field_name_at p scope before next m (t.Variable x ∷ rest) = fault_or (name_fault p scope before x) (t.Variable x ∷ rest) (Ok (with_field (feature_of m) x before, next, rest))
field_name_at p scope before next m symbols = fault_expected what.Variable symbols

-- the colon and the variable behind the feature of a field
abbrev pub named_field_at : Purpose → Scope → Fields → ℕ → FeatureToken → List Symbol → Result FieldOut Fault
named_field_at p scope before next m symbols = sign_at sign.Colon symbols >>= λ rest. field_name_at p scope before next m rest

-- a field behind others, with room for so many
abbrev pub field_at : Purpose → Scope → ℕ → Fields → ℕ → List Symbol → Result FieldOut Fault
field_at p scope room before next (t.Variable x ∷ rest) = fault_or (placed_fault p scope room before next x) (t.Variable x ∷ rest) (Ok (with_field (place_feature next) x before, next + 1, rest))
field_at p scope room before next (t.Atom a ∷ rest) = fault_or (feature_token_fault room before (AtomFeature a)) (t.Atom a ∷ rest) (named_field_at p scope before next (AtomFeature a) rest)
field_at p scope room before next (t.Integer n ∷ rest) = fault_or (feature_token_fault room before (IntFeature n)) (t.Integer n ∷ rest) (named_field_at p scope before next (IntFeature n) rest)
field_at p scope room before next symbols = fault_expected what.FieldOrBracket symbols

-- the closing bracket of fields stands here
abbrev pub is_close_round : List Symbol → Bool
is_close_round (t.CloseRound ∷ rest) = true
is_close_round symbols = false

-- fields up to the closing bracket. Where there is no room for one more, field_at is a fault
unfoldable pub fields_at : Purpose → Scope → ℕ → Fields → ℕ → List Symbol → Result (Fields × List Symbol) Fault
fields_at p scope zero before next symbols =
    if is_close_round symbols then Ok (before, drop 1 symbols)
    else (field_at p scope zero before next symbols >>= λ m. Ok (m.0, m.2))
fields_at p scope (suc room) before next symbols =
    if is_close_round symbols then Ok (before, drop 1 symbols)
    else (field_at p scope (suc room) before next symbols >>= λ m. fields_at p scope room m.0 m.1 m.2)

-- ---- lists of names, behind those before

-- the names of a `local` up to `in`
abbrev pub locals_at : List Identifier → List Symbol → Result (List Identifier × List Symbol) Fault
locals_at before (t.In ∷ rest) = Ok (before, rest)
locals_at before (t.Variable x ∷ rest) = fault_or (count_fault (length before)) (t.Variable x ∷ rest) (locals_at (before ++ x ∷ []) rest)
locals_at before symbols = fault_expected what.VariableOrIn symbols

-- all names of a `local`, at least one
abbrev pub first_local_at : List Symbol → Result (List Identifier × List Symbol) Fault
first_local_at (t.Variable x ∷ rest) = locals_at (x ∷ []) rest
first_local_at symbols = fault_expected what.Variable symbols

-- formals up to the closing bracket
abbrev pub formals_at : List Identifier → List Symbol → Result (List Identifier × List Symbol) Fault
formals_at before (t.CloseCurly ∷ rest) = Ok (before, rest)
formals_at before (t.Variable x ∷ rest) = fault_or (formal_fault before x) (t.Variable x ∷ rest) (formals_at (before ++ x ∷ []) rest)
formals_at before symbols = fault_expected what.VariableOrClose symbols

-- the bracket that closes a call
abbrev pub close_at : List Symbol → Result (List Symbol) Fault
close_at (t.CloseCurly ∷ rest) = Ok rest
close_at symbols = fault_expected what.Close symbols

-- ---- statements

-- the sequence ends here
abbrev pub is_end_of : Closer → List Symbol → Bool
is_end_of c [] = false
is_end_of c (symbol ∷ rest) = is_closer c symbol

-- a statement begins here
abbrev pub is_at_statement : List Symbol → Bool
is_at_statement [] = false
is_at_statement (symbol ∷ rest) = is_statement_start symbol

-- a pattern with the names that it declares
abbrev pub PatternOut : Type 0
PatternOut = Pattern × List Identifier × List Symbol

-- the variable behind the bar of the pattern H|T
abbrev pub pair_pattern_at : Identifier → List Symbol → Result PatternOut Fault
pair_pattern_at h (t.Variable x ∷ rest) = fault_or (where_so (has_name (h ∷ []) x) Twice) (t.Variable x ∷ rest) (Ok (pattern.Rec bar_label two_features, h ∷ x ∷ [], rest))
pair_pattern_at h symbols = fault_expected what.Variable symbols

-- what may follow the atom of a pattern
abbrev pub record_pattern_at : List ℕ → Scope → List Symbol → Result PatternOut Fault
record_pattern_at a scope (t.OpenRound ∷ rest) = fields_at purpose.Declare scope MOST_ITEMS [] 1 rest >>= λ m. Ok (record_pattern a (features_in m.0), names_in m.0, m.1)
record_pattern_at a scope rest = Ok (pattern.Atom a, [], rest)

-- a pattern of any form
abbrev pub pattern_at : Scope → List Symbol → Result PatternOut Fault
pattern_at scope (t.Integer n ∷ rest) = fault_or (number_fault n) (t.Integer n ∷ rest) (Ok (pattern.Int (value_of n), [], rest))
pattern_at scope (t.Atom a ∷ rest) = record_pattern_at a scope rest
pattern_at scope (t.Variable h ∷ rest) = sign_at sign.Bar rest >>= λ others. pair_pattern_at h others
pattern_at scope symbols = fault_expected what.Pattern symbols

-- the site behind `at`
abbrev pub site_at : List Symbol → Result (ℤ × List Symbol) Fault
site_at (t.Integer n ∷ rest) = fault_or (site_fault n) (t.Integer n ∷ rest) (Ok (value_of n, rest))
site_at symbols = fault_expected what.Integer symbols

-- the name that `catch` declares
abbrev pub catch_name_at : List Symbol → Result (Identifier × List Symbol) Fault
catch_name_at (t.Variable x ∷ rest) = Ok (x, rest)
catch_name_at symbols = fault_expected what.Variable symbols
