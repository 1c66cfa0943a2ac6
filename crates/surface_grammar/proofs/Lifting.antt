-- Each derivation of the kernel's grammar is one of the grammar with sugar: of the same symbols, with the same fault.
use Rattle.std.proofs.Common.{◌≡◌, ◌∙◌, ℕ, zero, suc, ◌+◌, ◌<◌, ◌≤◌, List, [], ◌∷◌, ◌++◌, length, Bool, true, Option, Some, None, refl, sym, ap, arith}
use Rattle.std.specs.Prelude.{◌||◌, nat_lt}
use Rattle.tree_node.specs.declared.node.Feature.{Feature}
use Rattle.tree_node.specs.Goal.{equal_feature}
use Rattle.kernel_syntax.specs.declared.built_in.BuiltIn.{BuiltIn}
use Rattle.kernel_syntax.specs.declared.built_in.BuiltIn.TheVariants as built
use Rattle.kernel_syntax.specs.BuiltIns.{arity_of}
use Rattle.kernel_syntax.specs.declared.stmt.Stmt.{Stmt}
use Rattle.oz_grammar.specs.declared.symbol.Symbol.{Symbol}
use Rattle.oz_grammar.specs.declared.symbol.Symbol.TheVariants as t
use Rattle.oz_grammar.specs.declared.symbol.Purpose.TheVariants as purpose
use Rattle.oz_grammar.specs.declared.fault.Fault.{Fault}
use Rattle.oz_grammar.specs.declared.fault.FaultKind.{FaultKind}
use Rattle.oz_grammar.specs.declared.fault.FaultKind.TheVariants.{Deep, Wide, Twice}
use Rattle.oz_grammar.specs.Grammar.{Identifier, Field, Placed, WithFeature, names_text, feature_symbol}
use Rattle.oz_grammar.specs.Grammar as kernel
use Rattle.oz_grammar.specs.Scoping.{Scope, Fields, built_in_at, has_feature, with_field, feature_of, place_feature, opening_scope, choice_scope, HasArguments, PlainDerives, StmtDerives, SeqDerives}
use Rattle.oz_grammar.specs.Faults.{or_else, where_so, where_not, number_fault, use_fault, called_fault, room_fault, feature_fault, feature_token_fault, placed_fault, fewer, fault_here}
use Rattle.oz_grammar.specs.Faults as faults
use Rattle.oz_grammar.specs.Check.{first_fault}
use Rattle.oz_grammar.specs.Check as checks
use Rattle.oz_grammar.specs.Reads as reads
use Rattle.oz_grammar.proofs.FieldOrder.{has_with_field}
use Rattle.surface_grammar.specs.Derivations.{Variable, Integer, Atom, Record, Procedure, Selects, Last, Value, Alone, Calculates, Tests, Pairs, Arguments, no_arguments, argument_and, no_fields, placed_and, named_and, Statement, Skips, Tells, CallsStatement, Raises, Locals, ProcNamed, Threads, ThreadsAt, Ifs, Cases, Tries, no_cases, Sequence, One, Then, value_text, arguments_text, fields_text, statement_text, sequence_text, count_arguments, HasAllArguments, ValueDerives, ArgumentsDerive, FieldsDerive, StatementDerives, SequenceDerives}
use Rattle.surface_grammar.specs.Derivations as tree
use Rattle.surface_grammar.specs.declared.parts.Callable.TheVariants.{OfProc}
use Rattle.surface_grammar.specs.Points.{is_given, given_fault, named_fault, argument_fault, formal_wrong}
use Rattle.surface_grammar.specs.Check.{most_arguments, check_formals, check_value, check_arguments, check_fields, check_statement, check_sequence}
use Rattle.surface_grammar.specs.Trees.{program_of}
use Rattle.surface_grammar.specs.Laws.{ReadsSymbols, KernelReads}

-- ---- the derivation

abbrev pub lift_arguments : List Identifier → Arguments
lift_arguments [] = no_arguments
lift_arguments (x ∷ xs) = argument_and (Alone (Variable x)) (lift_arguments xs)

abbrev pub lift_fields : List Field → tree.Fields
lift_fields [] = no_fields
lift_fields (Placed x ∷ fs) = placed_and (Alone (Variable x)) (lift_fields fs)
lift_fields (WithFeature m x ∷ fs) = named_and m (Alone (Variable x)) (lift_fields fs)

abbrev pub lift_value : kernel.Value → Value
lift_value (kernel.ToVar y) = Alone (Variable y)
lift_value (kernel.Calculates y o z) = Calculates (Variable y) o (Variable z)
lift_value (kernel.Tests y o z) = Tests (Variable y) o (Variable z)
lift_value (kernel.Selects y s) = Alone (Selects (Variable y) s)
lift_value (kernel.Pairs h u) = Pairs (Variable h) (Last (Variable u))
lift_value (kernel.ToInt n) = Alone (Integer n)
lift_value (kernel.ToAtom a) = Alone (Atom a)
lift_value (kernel.ToRecord a fs) = Alone (Record a (lift_fields fs))

abbrev pub lift_plain : kernel.Plain → Statement
lift_plain kernel.Skips = Skips
lift_plain (kernel.Tells x v) = Tells x (lift_value v)
lift_plain (kernel.Calls p xs) = CallsStatement p (lift_arguments xs)
lift_plain (kernel.Raises x) = Raises (Alone (Variable x))

abbrev pub lift_block : kernel.Opening → Sequence → Statement
lift_block (kernel.Locals x xs) q = Locals x xs q
lift_block (kernel.ProcValue x xs) q = Tells x (Alone (Procedure xs q))
lift_block (kernel.ProcNamed x xs) q = ProcNamed x xs q
lift_block kernel.Threads q = Threads q
lift_block (kernel.ThreadsAt n) q = ThreadsAt n q

abbrev pub lift_choice : kernel.Choice → Sequence → Sequence → Statement
lift_choice (kernel.Ifs x) q r = Ifs (Alone (Variable x)) q r
lift_choice (kernel.Cases x p) q r = Cases (Alone (Variable x)) p q no_cases r

abbrev mutual
  pub lift_statement : kernel.Statement → Statement
  lift_statement (kernel.Simple s) = lift_plain s
  lift_statement (kernel.Block o q) = lift_block o (lift q)
  lift_statement (kernel.Chooses h q r) = lift_choice h (lift q) (lift r)
  lift_statement (kernel.Tries q x r) = Tries (lift q) x (lift r)

  pub lift : kernel.Sequence → Sequence
  lift (kernel.One s) = One (lift_statement s)
  lift (kernel.Then s q) = Then (lift_statement s) (lift q)

-- ---- its symbols

arguments_same : (xs : List Identifier) (rest : List Symbol) → arguments_text (lift_arguments xs) rest ≡ names_text xs rest
arguments_same [] rest = refl
arguments_same (x ∷ xs) rest = ap (λ (a : List Symbol). t.Variable x ∷ a) (arguments_same xs rest)

fields_same : (fs : List Field) (rest : List Symbol) → fields_text (lift_fields fs) rest ≡ kernel.fields_text fs rest
fields_same [] rest = refl
fields_same (Placed x ∷ fs) rest = ap (λ (a : List Symbol). t.Variable x ∷ a) (fields_same fs rest)
fields_same (WithFeature m x ∷ fs) rest = ap (λ (a : List Symbol). feature_symbol m ∷ t.Colon ∷ t.Variable x ∷ a) (fields_same fs rest)

value_same : (v : kernel.Value) (rest : List Symbol) → value_text (lift_value v) rest ≡ kernel.value_text v rest
value_same (kernel.ToVar y) rest = refl
value_same (kernel.Calculates y o z) rest = refl
value_same (kernel.Tests y o z) rest = refl
value_same (kernel.Selects y s) rest = refl
value_same (kernel.Pairs h u) rest = refl
value_same (kernel.ToInt n) rest = refl
value_same (kernel.ToAtom a) rest = refl
value_same (kernel.ToRecord a fs) rest = ap (λ (b : List Symbol). t.Atom a ∷ t.OpenRound ∷ b) (fields_same fs (t.CloseRound ∷ rest))

plain_same : (s : kernel.Plain) (rest : List Symbol) → statement_text (lift_plain s) rest ≡ kernel.plain_text s rest
plain_same kernel.Skips rest = refl
plain_same (kernel.Tells x v) rest = ap (λ (a : List Symbol). t.Variable x ∷ t.Equals ∷ a) (value_same v rest)
plain_same (kernel.Calls p xs) rest = ap (λ (a : List Symbol). t.OpenCurly ∷ t.Variable p ∷ a) (arguments_same xs (t.CloseCurly ∷ rest))
plain_same (kernel.Raises x) rest = refl

block_same : (o : kernel.Opening) (q : Sequence) (rest : List Symbol) → statement_text (lift_block o q) rest ≡ kernel.opening_text o (sequence_text q (t.End ∷ rest))
block_same (kernel.Locals x xs) q rest = refl
block_same (kernel.ProcValue x xs) q rest = refl
block_same (kernel.ProcNamed x xs) q rest = refl
block_same kernel.Threads q rest = refl
block_same (kernel.ThreadsAt n) q rest = refl

choice_same : (h : kernel.Choice) (q r : Sequence) (rest : List Symbol) → statement_text (lift_choice h q r) rest ≡ kernel.choice_text h (sequence_text q (t.Else ∷ sequence_text r (t.End ∷ rest)))
choice_same (kernel.Ifs x) q r rest = refl
choice_same (kernel.Cases x p) q r rest = refl

mutual
  statement_same : (s : kernel.Statement) (rest : List Symbol) → statement_text (lift_statement s) rest ≡ kernel.stmt_text s rest
  statement_same (kernel.Simple s) rest = plain_same s rest
  statement_same (kernel.Block o q) rest = block_same o (lift q) rest ∙ ap (kernel.opening_text o) (sequence_same q (t.End ∷ rest))
  statement_same (kernel.Chooses h q r) rest =
      choice_same h (lift q) (lift r) rest ∙ ap (λ (a : List Symbol). kernel.choice_text h (sequence_text (lift q) (t.Else ∷ a))) (sequence_same r (t.End ∷ rest))
      ∙ ap (kernel.choice_text h) (sequence_same q (t.Else ∷ kernel.seq_text r (t.End ∷ rest)))
  statement_same (kernel.Tries q x r) rest =
      ap (λ (a : List Symbol). t.Try ∷ sequence_text (lift q) (t.Catch ∷ t.Variable x ∷ t.Then ∷ a)) (sequence_same r (t.End ∷ rest))
      ∙ ap (λ (a : List Symbol). t.Try ∷ a) (sequence_same q (t.Catch ∷ t.Variable x ∷ t.Then ∷ kernel.seq_text r (t.End ∷ rest)))

  pub sequence_same : (q : kernel.Sequence) (rest : List Symbol) → sequence_text (lift q) rest ≡ kernel.seq_text q rest
  sequence_same (kernel.One s) rest = statement_same s rest
  sequence_same (kernel.Then s q) rest = ap (statement_text (lift_statement s)) (sequence_same q rest) ∙ statement_same s (kernel.seq_text q rest)

-- ---- its fault

both_same : (k l : Option FaultKind) (a b : List Symbol) (f g : Option Fault) → k ≡ l → a ≡ b → f ≡ g → first_fault k a f ≡ first_fault l b g
both_same k l a b f g e h i = rw (e, h, i) refl

or_nothing : (k : Option FaultKind) → or_else k None ≡ k
or_nothing None = refl
or_nothing (Some kind) = refl

-- the same features are given
abbrev SameGiven : List Feature → Fields → Type 0
SameGiven before fields = (f : Feature) → is_given before f ≡ has_feature fields f

given_more : (before : List Feature) (fields : Fields) (f : Feature) (x : Identifier) → SameGiven before fields → SameGiven (f ∷ before) (with_field f x fields)
given_more before fields f x same g = ap (λ (b : Bool). equal_feature f g || b) (same g) ∙ sym (has_with_field f x fields g)

given_here : (room : ℕ) (before : List Feature) (fields : Fields) (f : Feature) → SameGiven before fields → given_fault room before f ≡ feature_fault room fields f
given_here room before fields f same = ap (λ (b : Bool). or_else (room_fault room) (where_so b Twice)) (same f)

named_here : (m : kernel.FeatureToken) (room : ℕ) (before : List Feature) (fields : Fields) → SameGiven before fields → named_fault room before m ≡ feature_token_fault room fields m
named_here (kernel.AtomFeature a) room before fields same = given_here room before fields (feature_of (kernel.AtomFeature a)) same
named_here (kernel.IntFeature n) room before fields same = ap (or_else (number_fault n)) (given_here room before fields (feature_of (kernel.IntFeature n)) same)

fields_checked : (fs : List Field) (scope : Scope) (d room : ℕ) (before : List Feature) (fields : Fields) (nth : ℕ) (rest : List Symbol) (behind : Option Fault) → SameGiven before fields
    → check_fields (lift_fields fs) scope d room before nth rest behind ≡ checks.check_fields purpose.Use scope room fields nth fs rest behind
fields_checked [] scope d room before fields nth rest behind same = refl
fields_checked (Placed x ∷ fs) scope d room before fields nth rest behind same =
    both_same (or_else (given_fault room before (place_feature nth)) (use_fault scope x)) (placed_fault purpose.Use scope room fields nth x) _ _ _ _
    (ap (λ (k : Option FaultKind). or_else k (use_fault scope x)) (given_here room before fields (place_feature nth) same)) (fields_same (Placed x ∷ fs) rest)
    (fields_checked fs scope d (fewer room) (place_feature nth ∷ before) (with_field (place_feature nth) x fields) (nth + 1) rest behind (given_more before fields (place_feature nth) x same))
fields_checked (WithFeature m x ∷ fs) scope d room before fields nth rest behind same =
    both_same (named_fault room before m) (feature_token_fault room fields m) _ _ _ _ (named_here m room before fields same) (fields_same (WithFeature m x ∷ fs) rest)
    (both_same (use_fault scope x) (use_fault scope x) _ _ _ _ refl (ap (λ (a : List Symbol). t.Variable x ∷ a) (fields_same fs rest))
    (fields_checked fs scope d (fewer room) (feature_of m ∷ before) (with_field (feature_of m) x fields) nth rest behind (given_more before fields (feature_of m) x same)))

value_checked : (v : kernel.Value) (scope : Scope) (d : ℕ) (rest : List Symbol) (behind : Option Fault) → check_value (lift_value v) scope (suc d) None rest behind ≡ checks.check_value v scope rest behind
value_checked (kernel.ToVar y) scope d rest behind = refl
value_checked (kernel.Calculates y o z) scope d rest behind = refl
value_checked (kernel.Tests y o z) scope d rest behind = refl
value_checked (kernel.Selects y s) scope d rest behind = refl
value_checked (kernel.Pairs h u) scope d rest behind = refl
value_checked (kernel.ToInt n) scope d rest behind = ap (λ (k : Option FaultKind). first_fault k (t.Integer n ∷ rest) behind) (or_nothing (number_fault n))
value_checked (kernel.ToAtom a) scope d rest behind = refl
value_checked (kernel.ToRecord a fs) scope d rest behind = fields_checked fs scope d 64 [] [] 1 (t.CloseRound ∷ rest) behind (λ f. refl)

arguments_checked : (xs : List Identifier) (scope : Scope) (d n : ℕ) (rest : List Symbol) (behind : Option Fault) → check_arguments (lift_arguments xs) scope d n 64 rest behind ≡ checks.check_arguments scope n xs rest behind
arguments_checked [] scope d n rest behind = refl
arguments_checked (x ∷ xs) scope d n rest behind = both_same (faults.argument_fault scope n x) (faults.argument_fault scope n x) _ _ _ _ refl (arguments_same (x ∷ xs) rest) (arguments_checked xs scope d (n + 1) rest behind)

room_there : (n : ℕ) → n < 64 → argument_fault n 64 ≡ None
room_there n lt = let low : nat_lt n 64 ≡ true = grind (arith, lt) in ap (λ (b : Bool). where_not b Wide) low

uses_checked : (xs : List Identifier) (scope : Scope) (d n : ℕ) (rest : List Symbol) (behind : Option Fault) → n + length xs ≤ 64 → check_arguments (lift_arguments xs) scope d n 64 rest behind ≡ checks.check_uses scope xs rest behind
uses_checked [] scope d n rest behind le = refl
uses_checked (x ∷ xs) scope d n rest behind le =
    both_same (or_else (argument_fault n 64) (use_fault scope x)) (use_fault scope x) _ _ _ _ (ap (λ (k : Option FaultKind). or_else k (use_fault scope x)) (room_there n (omega (arith, le)))) (arguments_same (x ∷ xs) rest)
    (uses_checked xs scope d (n + 1) rest behind (omega (arith, le)))

arity_few : (b : BuiltIn) → arity_of b ≤ 64
arity_few built.Browse = omega arith
arity_few built.Wait = omega arith
arity_few built.NewCell = omega arith
arity_few built.Exchange = omega arith
arity_few built.NewPort = omega arith
arity_few built.Send = omega arith
arity_few built.NewCellAt = omega arith

call_checked : (o : Option BuiltIn) (xs : List Identifier) (scope : Scope) (d : ℕ) (rest : List Symbol) (behind : Option Fault) → HasArguments o xs → check_arguments (lift_arguments xs) scope d 0 (most_arguments o 64) rest behind ≡ checks.check_call o scope xs rest behind
call_checked (Some b) xs scope d rest behind has = let few = arity_few b in uses_checked xs scope d 0 rest behind (omega (arith, has, few))
call_checked None xs scope d rest behind has = arguments_checked xs scope d 0 rest behind

formals_checked : (before xs : List Identifier) (rest : List Symbol) (behind : Option Fault) → check_formals OfProc before xs rest behind ≡ checks.check_formals before xs rest behind
formals_checked before [] rest behind = refl
formals_checked before (x ∷ xs) rest behind = ap (first_fault (formal_wrong OfProc before x) (names_text (x ∷ xs) rest)) (formals_checked (before ++ x ∷ []) xs rest behind)

plain_checked : (s : kernel.Plain) (scope : Scope) (d : ℕ) (rest : List Symbol) (behind : Option Fault) → PlainDerives s scope → check_statement (lift_plain s) scope (suc d) rest behind ≡ checks.check_plain s scope rest behind
plain_checked kernel.Skips scope d rest behind good = refl
plain_checked (kernel.Tells x v) scope d rest behind good = both_same (use_fault scope x) (use_fault scope x) _ _ _ _ refl (plain_same (kernel.Tells x v) rest) (value_checked v scope d rest behind)
plain_checked (kernel.Calls p xs) scope d rest behind good =
    both_same (called_fault (built_in_at scope p) scope p) (called_fault (built_in_at scope p) scope p) _ _ _ _ refl (ap (λ (a : List Symbol). t.Variable p ∷ a) (arguments_same xs (t.CloseCurly ∷ rest)))
    (call_checked (built_in_at scope p) xs scope (suc d) (t.CloseCurly ∷ rest) behind good)
plain_checked (kernel.Raises x) scope d rest behind good = refl

block_checked : (o : kernel.Opening) (q : Sequence) (scope : Scope) (d : ℕ) (rest : List Symbol) (behind : Option Fault)
    → check_statement (lift_block o q) scope (suc d) rest behind ≡ checks.check_opening o scope (sequence_text q (t.End ∷ rest)) (check_sequence q (opening_scope o scope) d (t.End ∷ rest) behind)
block_checked (kernel.Locals x xs) q scope d rest behind = refl
block_checked (kernel.ProcValue x xs) q scope d rest behind =
    ap (first_fault (use_fault scope x) (t.Variable x ∷ t.Equals ∷ t.Proc ∷ t.OpenCurly ∷ t.Dollar ∷ names_text xs (t.CloseCurly ∷ sequence_text q (t.End ∷ rest))))
    (formals_checked [] xs (t.CloseCurly ∷ sequence_text q (t.End ∷ rest)) (check_sequence q (scope ++ xs) d (t.End ∷ rest) behind))
block_checked (kernel.ProcNamed x xs) q scope d rest behind =
    ap (first_fault (use_fault scope x) (t.Variable x ∷ names_text xs (t.CloseCurly ∷ sequence_text q (t.End ∷ rest))))
    (formals_checked [] xs (t.CloseCurly ∷ sequence_text q (t.End ∷ rest)) (check_sequence q (scope ++ xs) d (t.End ∷ rest) behind))
block_checked kernel.Threads q scope d rest behind = refl
block_checked (kernel.ThreadsAt n) q scope d rest behind = refl

choice_checked : (h : kernel.Choice) (q r : Sequence) (scope : Scope) (d : ℕ) (rest : List Symbol) (behind : Option Fault)
    → check_statement (lift_choice h q r) scope (suc d) rest behind
    ≡ checks.check_choice h scope (sequence_text q (t.Else ∷ sequence_text r (t.End ∷ rest))) (check_sequence q (choice_scope h scope) d (t.Else ∷ sequence_text r (t.End ∷ rest)) (check_sequence r scope d (t.End ∷ rest) behind))
choice_checked (kernel.Ifs x) q r scope d rest behind = refl
choice_checked (kernel.Cases x p) q r scope d rest behind = refl

-- where no level is left, a statement is too deep
too_deep : (s : Statement) (scope : Scope) (rest : List Symbol) (behind : Option Fault) → check_statement s scope zero rest behind ≡ Some (fault_here Deep (statement_text s rest))
too_deep Skips scope rest behind = refl
too_deep s scope rest behind = refl

kernel_too_deep : (s : kernel.Statement) (scope : Scope) (rest : List Symbol) (behind : Option Fault) → checks.check_stmt s zero scope rest behind ≡ Some (fault_here Deep (kernel.stmt_text s rest))
kernel_too_deep (kernel.Simple s) scope rest behind = refl
kernel_too_deep (kernel.Block o q) scope rest behind = refl
kernel_too_deep (kernel.Chooses h q r) scope rest behind = refl
kernel_too_deep (kernel.Tries q x r) scope rest behind = refl

mutual
  statement_checked : (s : kernel.Statement) (scope : Scope) (d : ℕ) (rest : List Symbol) (behind : Option Fault) → StmtDerives s scope → check_statement (lift_statement s) scope d rest behind ≡ checks.check_stmt s d scope rest behind
  statement_checked s scope zero rest behind good =
      too_deep (lift_statement s) scope rest behind ∙ ap (λ (a : List Symbol). Some (fault_here Deep a)) (statement_same s rest) ∙ sym (kernel_too_deep s scope rest behind)
  statement_checked (kernel.Simple s) scope (suc d) rest behind good = plain_checked s scope d rest behind good
  statement_checked (kernel.Block o q) scope (suc d) rest behind good =
      block_checked o (lift q) scope d rest behind
      ∙ ap (λ (a : List Symbol). checks.check_opening o scope a (check_sequence (lift q) (opening_scope o scope) d (t.End ∷ rest) behind)) (sequence_same q (t.End ∷ rest))
      ∙ ap (checks.check_opening o scope (kernel.seq_text q (t.End ∷ rest))) (sequence_checked q (opening_scope o scope) d (t.End ∷ rest) behind good)
  statement_checked (kernel.Chooses h q r) scope (suc d) rest behind good =
      let inner : List Symbol = t.Else ∷ kernel.seq_text r (t.End ∷ rest) in
      choice_checked h (lift q) (lift r) scope d rest behind
      ∙ ap (λ (a : List Symbol). checks.check_choice h scope (sequence_text (lift q) (t.Else ∷ a)) (check_sequence (lift q) (choice_scope h scope) d (t.Else ∷ a) (check_sequence (lift r) scope d (t.End ∷ rest) behind))) (sequence_same r (t.End ∷ rest))
      ∙ ap (λ (a : List Symbol). checks.check_choice h scope a (check_sequence (lift q) (choice_scope h scope) d inner (check_sequence (lift r) scope d (t.End ∷ rest) behind))) (sequence_same q inner)
      ∙ ap (checks.check_choice h scope (kernel.seq_text q inner))
      (sequence_checked q (choice_scope h scope) d inner (check_sequence (lift r) scope d (t.End ∷ rest) behind) good.0 ∙ ap (checks.check_seq q d (choice_scope h scope) inner) (sequence_checked r scope d (t.End ∷ rest) behind good.1))
  statement_checked (kernel.Tries q x r) scope (suc d) rest behind good =
      let inner : List Symbol = t.Catch ∷ t.Variable x ∷ t.Then ∷ kernel.seq_text r (t.End ∷ rest) in
      ap (λ (a : List Symbol). check_sequence (lift q) scope d (t.Catch ∷ t.Variable x ∷ t.Then ∷ a) (check_sequence (lift r) (scope ++ x ∷ []) d (t.End ∷ rest) behind)) (sequence_same r (t.End ∷ rest))
      ∙ sequence_checked q scope d inner (check_sequence (lift r) (scope ++ x ∷ []) d (t.End ∷ rest) behind) good.0 ∙ ap (checks.check_seq q d scope inner) (sequence_checked r (scope ++ x ∷ []) d (t.End ∷ rest) behind good.1)

  sequence_checked : (q : kernel.Sequence) (scope : Scope) (d : ℕ) (rest : List Symbol) (behind : Option Fault) → SeqDerives q scope → check_sequence (lift q) scope d rest behind ≡ checks.check_seq q d scope rest behind
  sequence_checked (kernel.One s) scope d rest behind good = statement_checked s scope d rest behind good
  sequence_checked (kernel.Then s q) scope d rest behind good =
      ap (λ (a : List Symbol). check_statement (lift_statement s) scope d a (check_sequence (lift q) scope d rest behind)) (sequence_same q rest)
      ∙ statement_checked s scope d (kernel.seq_text q rest) (check_sequence (lift q) scope d rest behind) good.0 ∙ ap (checks.check_stmt s d scope (kernel.seq_text q rest)) (sequence_checked q scope d rest behind good.1)

-- ---- it is one

fields_derive : (fs : List Field) (scope : Scope) → FieldsDerive (lift_fields fs) scope
fields_derive [] scope = tt
fields_derive (Placed x ∷ fs) scope = (tt, refl, fields_derive fs scope)
fields_derive (WithFeature m x ∷ fs) scope = (tt, refl, fields_derive fs scope)

arguments_derive : (xs : List Identifier) (scope : Scope) → ArgumentsDerive (lift_arguments xs) scope
arguments_derive [] scope = tt
arguments_derive (x ∷ xs) scope = (tt, refl, arguments_derive xs scope)

value_derives : (v : kernel.Value) (scope : Scope) → ValueDerives (lift_value v) scope
value_derives (kernel.ToVar y) scope = tt
value_derives (kernel.Calculates y o z) scope = (tt, tt)
value_derives (kernel.Tests y o z) scope = (tt, tt)
value_derives (kernel.Selects y s) scope = tt
value_derives (kernel.Pairs h u) scope = (tt, tt)
value_derives (kernel.ToInt n) scope = tt
value_derives (kernel.ToAtom a) scope = tt
value_derives (kernel.ToRecord a fs) scope = fields_derive fs scope

count_same : (xs : List Identifier) → count_arguments (lift_arguments xs) ≡ length xs
count_same [] = refl
count_same (x ∷ xs) = ap suc (count_same xs)

has_all : (o : Option BuiltIn) (xs : List Identifier) → HasArguments o xs → HasAllArguments o (lift_arguments xs)
has_all (Some b) xs has = count_same xs ∙ has
has_all None xs has = tt

plain_derives : (s : kernel.Plain) (scope : Scope) → PlainDerives s scope → StatementDerives (lift_plain s) scope
plain_derives kernel.Skips scope good = tt
plain_derives (kernel.Tells x v) scope good = value_derives v scope
plain_derives (kernel.Calls p xs) scope good = (has_all (built_in_at scope p) xs good, arguments_derive xs scope)
plain_derives (kernel.Raises x) scope good = tt

block_derives : (o : kernel.Opening) (q : Sequence) (scope : Scope) → SequenceDerives q (opening_scope o scope) → StatementDerives (lift_block o q) scope
block_derives (kernel.Locals x xs) q scope good = good
block_derives (kernel.ProcValue x xs) q scope good = good
block_derives (kernel.ProcNamed x xs) q scope good = good
block_derives kernel.Threads q scope good = good
block_derives (kernel.ThreadsAt n) q scope good = good

choice_derives : (h : kernel.Choice) (q r : Sequence) (scope : Scope) → SequenceDerives q (choice_scope h scope) → SequenceDerives r scope → StatementDerives (lift_choice h q r) scope
choice_derives (kernel.Ifs x) q r scope good other = (tt, good, other)
choice_derives (kernel.Cases x p) q r scope good other = (tt, good, tt, other)

mutual
  statement_derives : (s : kernel.Statement) (scope : Scope) → StmtDerives s scope → StatementDerives (lift_statement s) scope
  statement_derives (kernel.Simple s) scope good = plain_derives s scope good
  statement_derives (kernel.Block o q) scope good = block_derives o (lift q) scope (sequence_derives q (opening_scope o scope) good)
  statement_derives (kernel.Chooses h q r) scope good = choice_derives h (lift q) (lift r) scope (sequence_derives q (choice_scope h scope) good.0) (sequence_derives r scope good.1)
  statement_derives (kernel.Tries q x r) scope good = (sequence_derives q scope good.0, sequence_derives r (scope ++ x ∷ []) good.1)

  sequence_derives : (q : kernel.Sequence) (scope : Scope) → SeqDerives q scope → SequenceDerives (lift q) scope
  sequence_derives (kernel.One s) scope good = statement_derives s scope good
  sequence_derives (kernel.Then s q) scope good = (statement_derives s scope good.0, sequence_derives q scope good.1)

pub lifted : (symbols : List Symbol) (p : List Stmt) (r : reads.ReadsSymbols symbols p) → ReadsSymbols symbols (program_of (lift r.program))
lifted symbols p r = record {
  program = lift r.program;
  derives = sequence_derives r.program [] r.derives;
  derived = r.derived ∙ sym (sequence_same r.program (t.EndOfText ∷ []));
  passes = sequence_checked r.program [] 200 (t.EndOfText ∷ []) None r.derives ∙ r.passes;
  tree = refl;
}

pub kernel_reads : KernelReads
kernel_reads symbols p r = (program_of (lift r.program), lifted symbols p r)
