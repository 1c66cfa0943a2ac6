-- What is wrong besides the grammar is no lexical fault and nothing expected.
use Rattle.std.proofs.Common.{◌≡◌, ℕ, zero, suc, ◌+◌, List, [], ◌∷◌, ◌++◌, length, Bool, true, false, Option, Some, None, ℤ, subst, ap}
use Rattle.std.specs.Prelude.{IfSome}
use Rattle.tree_node.specs.declared.node.Feature.{Feature}
use Rattle.oz_grammar.specs.declared.fault.What.{What}
use Rattle.oz_grammar.specs.declared.symbol.Symbol.{Symbol}
use Rattle.oz_grammar.specs.declared.symbol.Symbol.TheVariants as t
use Rattle.kernel_syntax.specs.declared.built_in.BuiltIn.{BuiltIn}
use Rattle.oz_grammar.specs.declared.symbol.Purpose.{Purpose}
use Rattle.oz_grammar.specs.declared.symbol.Purpose.TheVariants as purpose
use Rattle.oz_grammar.specs.declared.fault.Fault.{Fault}
use Rattle.oz_grammar.specs.declared.fault.FaultKind.{FaultKind}
use Rattle.oz_grammar.specs.declared.fault.FaultKind.TheVariants.{Lex, Expected, Twice}
use Rattle.oz_grammar.specs.Grammar.{Identifier, FeatureToken, AtomFeature, IntFeature, ByVariable, ByFeature, Field, Placed, WithFeature, Value, ToVar, Calculates, Tests, Selects, Pairs, ToInt, ToAtom, ToRecord, Pattern, IntPattern, AtomPattern, RecordPattern, PairPattern, Plain, Skips, Tells, Calls, Raises, Opening, Locals, ProcValue, ProcNamed, Threads, ThreadsAt, Choice, Ifs, Cases, Statement, Simple, Block, Chooses, Tries, Sequence, One, Then, seq_text}
use Rattle.oz_grammar.specs.Scoping.{Scope, Fields, is_declared, built_in_at, has_feature, has_name, names_in, with_field, feature_of, place_feature, opening_scope, choice_scope}
use Rattle.oz_grammar.specs.Faults.{or_else, where_not, where_so, number_fault, site_fault, deep_fault, use_fault, count_fault, called_fault, argument_fault, formal_fault, room_fault, feature_fault, feature_token_fault, name_fault, placed_fault, selected_fault, fewer, fault_here}
use Rattle.oz_grammar.specs.Check.{first_fault, check_fields, check_value, check_pattern, check_locals, check_formals, check_arguments, check_uses, check_call, check_plain, check_opening, check_choice, check_stmt, check_seq, check}

-- a kind that is found besides the grammar
abbrev pub IsRow : FaultKind → Type 0
IsRow (Lex kind) = ⊥
IsRow (Expected w) = ⊥
IsRow kind = Unit {0}

abbrev pub Rows : Option FaultKind → Type 0
Rows o = IfSome o IsRow

pub not_row : (b : Bool) (kind : FaultKind) → IsRow kind → Rows (where_not b kind)
not_row true kind r = tt
not_row false kind r = r

pub so_row : (b : Bool) (kind : FaultKind) → IsRow kind → Rows (where_so b kind)
so_row true kind r = r
so_row false kind r = tt

pub or_row : (a b : Option FaultKind) → Rows a → Rows b → Rows (or_else a b)
or_row (Some kind) b p q = p
or_row None b p q = q

pub number_row : (n : Option ℤ) → Rows (number_fault n)
number_row (Some n) = tt
number_row None = tt

pub site_row : (n : Option ℤ) → Rows (site_fault n)
site_row (Some n) = so_row _ _ tt
site_row None = tt

pub deep_row : (d : ℕ) → Rows (deep_fault d)
deep_row zero = tt
deep_row (suc d) = tt

pub use_row : (scope : Scope) (x : Identifier) → Rows (use_fault scope x)
use_row scope x = not_row (is_declared scope x) _ tt

pub count_row : (n : ℕ) → Rows (count_fault n)
count_row n = not_row _ _ tt

pub called_row : (o : Option BuiltIn) (scope : Scope) (p : Identifier) → Rows (called_fault o scope p)
called_row (Some b) scope p = tt
called_row None scope p = use_row scope p

argument_row : (scope : Scope) (n : ℕ) (x : Identifier) → Rows (argument_fault scope n x)
argument_row scope n x = or_row (count_fault n) (use_fault scope x) (count_row n) (use_row scope x)

pub twice_row : (b : Bool) → Rows (where_so b Twice)
twice_row b = so_row b Twice tt

formal_row : (before : List Identifier) (x : Identifier) → Rows (formal_fault before x)
formal_row before x = or_row (count_fault (length before)) (where_so (has_name before x) Twice) (count_row (length before)) (twice_row (has_name before x))

pub room_row : (room : ℕ) → Rows (room_fault room)
room_row zero = tt
room_row (suc room) = tt

feature_row : (room : ℕ) (before : Fields) (f : Feature) → Rows (feature_fault room before f)
feature_row room before f = or_row (room_fault room) (where_so (has_feature before f) Twice) (room_row room) (twice_row (has_feature before f))

mark_row : (room : ℕ) (before : Fields) (m : FeatureToken) → Rows (feature_token_fault room before m)
mark_row room before (AtomFeature a) = feature_row room before (feature_of (AtomFeature a))
mark_row room before (IntFeature n) = or_row (number_fault n) (feature_fault room before (feature_of (IntFeature n))) (number_row n) (feature_row room before (feature_of (IntFeature n)))

name_row : (p : Purpose) (scope : Scope) (before : Fields) (x : Identifier) → Rows (name_fault p scope before x)
name_row purpose.Use scope before x = use_row scope x
name_row purpose.Declare scope before x = twice_row (has_name (names_in before) x)

placed_row : (p : Purpose) (scope : Scope) (room : ℕ) (before : Fields) (next : ℕ) (x : Identifier) → Rows (placed_fault p scope room before next x)
placed_row p scope room before next x = or_row (feature_fault room before (place_feature next)) (name_fault p scope before x) (feature_row room before (place_feature next)) (name_row p scope before x)

pub selected_row : (m : FeatureToken) → Rows (selected_fault m)
selected_row (AtomFeature a) = tt
selected_row (IntFeature n) = number_row n

-- ---- in derivations

abbrev pub Found : Option Fault → Type 0
Found o = IfSome o (λ g. IsRow g.kind)

pub stop_row : (o : Option FaultKind) (symbols : List Symbol) (behind : Option Fault) → Rows o → Found behind → Found (first_fault o symbols behind)
stop_row (Some kind) symbols behind p q = p
stop_row None symbols behind p q = q

fields_row : (p : Purpose) (scope : Scope) (room : ℕ) (before : Fields) (next : ℕ) (fs : List Field) (rest : List Symbol) (found : Option Fault) → Found found → Found (check_fields p scope room before next fs rest found)
fields_row p scope room before next [] rest found h = h
fields_row p scope room before next (Placed x ∷ fs) rest found h = stop_row (placed_fault p scope room before next x) _ _ (placed_row p scope room before next x) (fields_row p scope (fewer room) (with_field (place_feature next) x before) (next + 1) fs rest found h)
fields_row p scope room before next (WithFeature m x ∷ fs) rest found h =
    stop_row (feature_token_fault room before m) _ _ (mark_row room before m) (stop_row (name_fault p scope before x) _ _ (name_row p scope before x) (fields_row p scope (fewer room) (with_field (feature_of m) x before) next fs rest found h))

value_row : (v : Value) (scope : Scope) (rest : List Symbol) (behind : Option Fault) → Found behind → Found (check_value v scope rest behind)
value_row (ToVar y) scope rest behind h = stop_row (use_fault scope y) _ behind (use_row scope y) h
value_row (Calculates y o z) scope rest behind h = stop_row (use_fault scope y) _ _ (use_row scope y) (stop_row (use_fault scope z) _ behind (use_row scope z) h)
value_row (Tests y o z) scope rest behind h = stop_row (use_fault scope y) _ _ (use_row scope y) (stop_row (use_fault scope z) _ behind (use_row scope z) h)
value_row (Selects y (ByVariable x)) scope rest behind h = stop_row (use_fault scope y) _ _ (use_row scope y) (stop_row (use_fault scope x) _ behind (use_row scope x) h)
value_row (Selects y (ByFeature m)) scope rest behind h = stop_row (use_fault scope y) _ _ (use_row scope y) (stop_row (selected_fault m) _ behind (selected_row m) h)
value_row (Pairs u z) scope rest behind h = stop_row (use_fault scope u) _ _ (use_row scope u) (stop_row (use_fault scope z) _ behind (use_row scope z) h)
value_row (ToInt n) scope rest behind h = stop_row (number_fault n) _ behind (number_row n) h
value_row (ToAtom a) scope rest behind h = h
value_row (ToRecord a fs) scope rest behind h = fields_row purpose.Use scope 64 [] 1 fs (t.CloseRound ∷ rest) behind h

pub pattern_row : (p : Pattern) (scope : Scope) (rest : List Symbol) (behind : Option Fault) → Found behind → Found (check_pattern p scope rest behind)
pattern_row (IntPattern n) scope rest behind h = stop_row (number_fault n) _ behind (number_row n) h
pattern_row (AtomPattern a) scope rest behind h = h
pattern_row (RecordPattern a fs) scope rest behind h = fields_row purpose.Declare scope 64 [] 1 fs (t.CloseRound ∷ rest) behind h
pattern_row (PairPattern u z) scope rest behind h = stop_row (where_so (has_name (u ∷ []) z) Twice) _ behind (twice_row (has_name (u ∷ []) z)) h

pub locals_row : (before xs : List Identifier) (rest : List Symbol) (behind : Option Fault) → Found behind → Found (check_locals before xs rest behind)
locals_row before [] rest behind h = h
locals_row before (x ∷ xs) rest behind h = stop_row (count_fault (length before)) _ _ (count_row (length before)) (locals_row (before ++ x ∷ []) xs rest behind h)

formals_row : (before xs : List Identifier) (rest : List Symbol) (behind : Option Fault) → Found behind → Found (check_formals before xs rest behind)
formals_row before [] rest behind h = h
formals_row before (x ∷ xs) rest behind h = stop_row (formal_fault before x) _ _ (formal_row before x) (formals_row (before ++ x ∷ []) xs rest behind h)

arguments_row : (scope : Scope) (n : ℕ) (xs : List Identifier) (rest : List Symbol) (behind : Option Fault) → Found behind → Found (check_arguments scope n xs rest behind)
arguments_row scope n [] rest behind h = h
arguments_row scope n (x ∷ xs) rest behind h = stop_row (argument_fault scope n x) _ _ (argument_row scope n x) (arguments_row scope (n + 1) xs rest behind h)

uses_row : (scope : Scope) (xs : List Identifier) (rest : List Symbol) (behind : Option Fault) → Found behind → Found (check_uses scope xs rest behind)
uses_row scope [] rest behind h = h
uses_row scope (x ∷ xs) rest behind h = stop_row (use_fault scope x) _ _ (use_row scope x) (uses_row scope xs rest behind h)

call_row : (o : Option BuiltIn) (scope : Scope) (xs : List Identifier) (rest : List Symbol) (behind : Option Fault) → Found behind → Found (check_call o scope xs rest behind)
call_row (Some b) scope xs rest behind h = uses_row scope xs rest behind h
call_row None scope xs rest behind h = arguments_row scope 0 xs rest behind h

plain_row : (s : Plain) (scope : Scope) (rest : List Symbol) (behind : Option Fault) → Found behind → Found (check_plain s scope rest behind)
plain_row Skips scope rest behind h = h
plain_row (Tells x v) scope rest behind h = stop_row (use_fault scope x) _ _ (use_row scope x) (value_row v scope rest behind h)
plain_row (Calls p xs) scope rest behind h = stop_row (called_fault (built_in_at scope p) scope p) _ _ (called_row (built_in_at scope p) scope p) (call_row (built_in_at scope p) scope xs (t.CloseCurly ∷ rest) behind h)
plain_row (Raises x) scope rest behind h = stop_row (use_fault scope x) _ behind (use_row scope x) h

opening_row : (o : Opening) (scope : Scope) (rest : List Symbol) (behind : Option Fault) → Found behind → Found (check_opening o scope rest behind)
opening_row (Locals x xs) scope rest behind h = locals_row (x ∷ []) xs (t.In ∷ rest) behind h
opening_row (ProcValue x xs) scope rest behind h = stop_row (use_fault scope x) _ _ (use_row scope x) (formals_row [] xs (t.CloseCurly ∷ rest) behind h)
opening_row (ProcNamed x xs) scope rest behind h = stop_row (use_fault scope x) _ _ (use_row scope x) (formals_row [] xs (t.CloseCurly ∷ rest) behind h)
opening_row Threads scope rest behind h = h
opening_row (ThreadsAt n) scope rest behind h = stop_row (site_fault n) _ behind (site_row n) h

choice_row : (k : Choice) (scope : Scope) (rest : List Symbol) (behind : Option Fault) → Found behind → Found (check_choice k scope rest behind)
choice_row (Ifs x) scope rest behind h = stop_row (use_fault scope x) _ behind (use_row scope x) h
choice_row (Cases x p) scope rest behind h = stop_row (use_fault scope x) _ _ (use_row scope x) (pattern_row p scope (t.Then ∷ rest) behind h)

mutual
  check_stmt_row : (s : Statement) (d : ℕ) (scope : Scope) (rest : List Symbol) (behind : Option Fault) → Found behind → Found (check_stmt s d scope rest behind)
  check_stmt_row (Simple s) d scope rest behind h = stop_row (deep_fault d) _ _ (deep_row d) (plain_row s scope rest behind h)
  check_stmt_row (Block o q) d scope rest behind h = stop_row (deep_fault d) _ _ (deep_row d) (opening_row o scope _ _ (check_seq_row q (fewer d) (opening_scope o scope) (t.End ∷ rest) behind h))
  check_stmt_row (Chooses k q r) d scope rest behind h =
      stop_row (deep_fault d) _ _ (deep_row d) (choice_row k scope _ _ (check_seq_row q (fewer d) (choice_scope k scope) _ _ (check_seq_row r (fewer d) scope (t.End ∷ rest) behind h)))
  check_stmt_row (Tries q x r) d scope rest behind h =
      stop_row (deep_fault d) _ _ (deep_row d) (check_seq_row q (fewer d) scope _ _ (check_seq_row r (fewer d) (scope ++ x ∷ []) (t.End ∷ rest) behind h))

  check_seq_row : (q : Sequence) (d : ℕ) (scope : Scope) (rest : List Symbol) (behind : Option Fault) → Found behind → Found (check_seq q d scope rest behind)
  check_seq_row (One s) d scope rest behind h = check_stmt_row s d scope rest behind h
  check_seq_row (Then s q) d scope rest behind h = check_stmt_row s d scope (seq_text q rest) (check_seq q d scope rest behind) (check_seq_row q d scope rest behind h)

pub check_row : (q : Sequence) (g : Fault) → check q ≡ Some g → IsRow g.kind
check_row q g e = subst Found e (check_seq_row q 200 [] (t.EndOfText ∷ []) None tt)

-- .. and says of no symbol that another was expected
pub none_expected : (q : Sequence) (w : What) (rest : List Symbol) → check q ≡ Some (fault_here (Expected w) rest) → ⊥
none_expected q w rest e = check_row q (fault_here (Expected w) rest) e

-- a fault tells its kind and its place
pub faults_told : (k l : FaultKind) (a b : List Symbol) → fault_here k a ≡ fault_here l b → (k ≡ l) × (length a ≡ length b)
faults_told k l a b e = (ap (λ (f : Fault). f.kind) e, ap (λ (f : Fault). f.left) e)
