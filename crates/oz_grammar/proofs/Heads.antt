-- What is derived is read from the points, with the faults that its check finds: parts of statements.
use Rattle.std.proofs.Common.{◌≡◌, ℕ, ◌+◌, List, [], ◌∷◌, ◌++◌, length, Bool, true, false, Option, Some, None, refl, sym, ap, subst, ◌∙◌, append_assoc}
use Rattle.std.proofs.lemmas.List.{append-nil}
use Rattle.oz_grammar.specs.declared.symbol.Symbol.{Symbol}
use Rattle.oz_grammar.specs.declared.symbol.Symbol.TheVariants as t
use Rattle.oz_grammar.specs.declared.symbol.Closer.{Closer}
use Rattle.oz_grammar.specs.declared.symbol.Closer.TheVariants as closer
use Rattle.kernel_syntax.specs.declared.built_in.BuiltIn.{BuiltIn}
use Rattle.oz_grammar.specs.declared.symbol.Purpose.{Purpose}
use Rattle.oz_grammar.specs.declared.symbol.Purpose.TheVariants as purpose
use Rattle.oz_grammar.specs.declared.fault.Fault.{Fault}
use Rattle.oz_grammar.specs.declared.fault.FaultKind.{FaultKind}
use Rattle.oz_grammar.specs.Grammar.{Identifier, AtomFeature, IntFeature, ByVariable, ByFeature, Field, Placed, WithFeature, Value, ToVar, Calculates, Tests, Selects, Pairs, ToInt, ToAtom, ToRecord, Pattern, IntPattern, AtomPattern, RecordPattern, PairPattern, Plain, Skips, Tells, Calls, Raises, Opening, Locals, ProcValue, ProcNamed, Threads, ThreadsAt, Choice, Ifs, Cases, names_text, fields_text, value_text, pattern_text, plain_text, opening_text, choice_text}
use Rattle.oz_grammar.specs.Scoping.{Scope, Fields, built_in_at, with_field, feature_of, place_feature, fields_behind, opening_scope, choice_scope, HasArguments, PlainDerives}
use Rattle.oz_grammar.specs.Faults.{or_else, use_fault, deep_fault, count_fault, formal_fault, argument_fault, placed_fault, feature_token_fault, name_fault, called_fault, fewer}
use Rattle.oz_grammar.specs.Check.{first_fault, check_fields, check_value, check_pattern, check_locals, check_formals, check_arguments, check_uses, check_call, check_plain, check_opening, check_choice}
use Rattle.oz_grammar.specs.Points.{Stage, First, AfterThread, Later, Point, At, LocalMore, ValueOf, BehindVariable, BehindAtom, FieldOf, Arguments, Wanted, PatternOf, Formals, behind_fields, next_call, run}

-- no symbol of these goes on with a value
abbrev pub ends_value : List Symbol → Bool
ends_value (t.Operator o ∷ rest) = false
ends_value (t.Test o ∷ rest) = false
ends_value (t.Dot ∷ rest) = false
ends_value (t.Bar ∷ rest) = false
ends_value (t.OpenRound ∷ rest) = false
ends_value rest = true

pub stop_both : (a b : Option FaultKind) (symbols : List Symbol) (behind : Option Fault) → first_fault (or_else a b) symbols behind ≡ first_fault a symbols (first_fault b symbols behind)
stop_both (Some kind) b symbols behind = refl
stop_both None b symbols behind = refl

pub variable_ends : (c : Closer) (scope : Scope) (d : ℕ) (rest : List Symbol) (σ : List Point) → ends_value rest ≡ true → run rest (BehindVariable c scope d ∷ σ) ≡ run rest (At Later c scope d ∷ σ)
variable_ends c scope d [] σ e = refl
variable_ends c scope d (t.Operator o ∷ rest) σ e = absurd cc
variable_ends c scope d (t.Test o ∷ rest) σ e = absurd cc
variable_ends c scope d (t.Dot ∷ rest) σ e = absurd cc
variable_ends c scope d (t.Bar ∷ rest) σ e = absurd cc
variable_ends c scope d (x ∷ rest) σ e = refl

pub atom_ends : (c : Closer) (scope : Scope) (d : ℕ) (rest : List Symbol) (σ : List Point) → ends_value rest ≡ true → run rest (BehindAtom c scope d ∷ σ) ≡ run rest (At Later c scope d ∷ σ)
atom_ends c scope d [] σ e = refl
atom_ends c scope d (t.OpenRound ∷ rest) σ e = absurd cc
atom_ends c scope d (x ∷ rest) σ e = refl

pub fields_run : (fs : List Field) (p : Purpose) (scope : Scope) (d room : ℕ) (before : Fields) (next : ℕ) (rest : List Symbol) (σ : List Point) → run (fields_text fs (t.CloseRound ∷ rest)) (FieldOf p scope d room before next ∷ σ) ≡ check_fields p scope room before next fs (t.CloseRound ∷ rest) (run rest (behind_fields p scope d (fields_behind before next fs) ++ σ))
fields_run [] p scope d room before next rest σ = refl
fields_run (Placed x ∷ fs) p scope d room before next rest σ = ap (first_fault (placed_fault p scope room before next x) (fields_text (Placed x ∷ fs) (t.CloseRound ∷ rest))) (fields_run fs p scope d (fewer room) (with_field (place_feature next) x before) (next + 1) rest σ)
fields_run (WithFeature (AtomFeature a) x ∷ fs) p scope d room before next rest σ =
    ap (λ (b : Option Fault). first_fault (feature_token_fault room before (AtomFeature a)) (fields_text (WithFeature (AtomFeature a) x ∷ fs) (t.CloseRound ∷ rest)) (first_fault (name_fault p scope before x) (t.Variable x ∷ fields_text fs (t.CloseRound ∷ rest)) b)) (fields_run fs p scope d (fewer room) (with_field (feature_of (AtomFeature a)) x before) next rest σ)
fields_run (WithFeature (IntFeature n) x ∷ fs) p scope d room before next rest σ =
    ap (λ (b : Option Fault). first_fault (feature_token_fault room before (IntFeature n)) (fields_text (WithFeature (IntFeature n) x ∷ fs) (t.CloseRound ∷ rest)) (first_fault (name_fault p scope before x) (t.Variable x ∷ fields_text fs (t.CloseRound ∷ rest)) b)) (fields_run fs p scope d (fewer room) (with_field (feature_of (IntFeature n)) x before) next rest σ)

pub value_run : (v : Value) (c : Closer) (scope : Scope) (d : ℕ) (rest : List Symbol) (σ : List Point) → ends_value rest ≡ true → run (value_text v rest) (ValueOf c scope d ∷ σ) ≡ check_value v scope rest (run rest (At Later c scope d ∷ σ))
value_run (ToVar y) c scope d rest σ e = ap (first_fault (use_fault scope y) (value_text (ToVar y) rest)) (variable_ends c scope d rest σ e)
value_run (Calculates y o z) c scope d rest σ e = refl
value_run (Tests y o z) c scope d rest σ e = refl
value_run (Selects y (ByVariable x)) c scope d rest σ e = refl
value_run (Selects y (ByFeature (AtomFeature a))) c scope d rest σ e = refl
value_run (Selects y (ByFeature (IntFeature n))) c scope d rest σ e = refl
value_run (Pairs h u) c scope d rest σ e = refl
value_run (ToInt n) c scope d rest σ e = refl
value_run (ToAtom a) c scope d rest σ e = atom_ends c scope d rest σ e
value_run (ToRecord a fs) c scope d rest σ e = fields_run fs purpose.Use scope d 64 [] 1 rest (At Later c scope d ∷ σ)

pub pattern_run : (p : Pattern) (scope : Scope) (d : ℕ) (rest : List Symbol) (σ : List Point) → run (pattern_text p (t.Then ∷ rest)) (PatternOf scope d ∷ σ) ≡ check_pattern p scope (t.Then ∷ rest) (run rest (At First closer.Else (choice_scope (Cases [] p) scope) d ∷ σ))
pattern_run (IntPattern n) scope d rest σ = ap (λ (s : Scope). first_fault _ _ (run rest (At First closer.Else s d ∷ σ))) (sym (append-nil scope))
pattern_run (AtomPattern a) scope d rest σ = ap (λ (s : Scope). run rest (At First closer.Else s d ∷ σ)) (sym (append-nil scope))
pattern_run (RecordPattern a fs) scope d rest σ = fields_run fs purpose.Declare scope d 64 [] 1 (t.Then ∷ rest) σ
pattern_run (PairPattern h u) scope d rest σ = refl

-- ---- lists of names

pub locals_run : (xs before : List Identifier) (scope : Scope) (d : ℕ) (rest : List Symbol) (σ : List Point) → run (names_text xs (t.In ∷ rest)) (LocalMore scope before d ∷ σ) ≡ check_locals before xs (t.In ∷ rest) (run rest (At First closer.End (scope ++ (before ++ xs)) d ∷ σ))
locals_run [] before scope d rest σ = ap (λ (s : List Identifier). run rest (At First closer.End (scope ++ s) d ∷ σ)) (sym (append-nil before))
locals_run (x ∷ xs) before scope d rest σ =
    ap (first_fault (count_fault (length before)) (names_text (x ∷ xs) (t.In ∷ rest))) (locals_run xs (before ++ x ∷ []) scope d rest σ
    ∙ ap (λ (s : List Identifier). check_locals (before ++ x ∷ []) xs (t.In ∷ rest) (run rest (At First closer.End (scope ++ s) d ∷ σ))) (append_assoc before (x ∷ []) xs))

pub formals_run : (xs before : List Identifier) (scope : Scope) (d : ℕ) (rest : List Symbol) (σ : List Point) → run (names_text xs (t.CloseCurly ∷ rest)) (Formals scope before d ∷ σ) ≡ check_formals before xs (t.CloseCurly ∷ rest) (run rest (At First closer.End (scope ++ (before ++ xs)) d ∷ σ))
formals_run [] before scope d rest σ = ap (λ (s : List Identifier). run rest (At First closer.End (scope ++ s) d ∷ σ)) (sym (append-nil before))
formals_run (x ∷ xs) before scope d rest σ =
    ap (first_fault (formal_fault before x) (names_text (x ∷ xs) (t.CloseCurly ∷ rest))) (formals_run xs (before ++ x ∷ []) scope d rest σ
    ∙ ap (λ (s : List Identifier). check_formals (before ++ x ∷ []) xs (t.CloseCurly ∷ rest) (run rest (At First closer.End (scope ++ s) d ∷ σ))) (append_assoc before (x ∷ []) xs))

arguments_run : (xs : List Identifier) (scope : Scope) (n : ℕ) (rest : List Symbol) (σ : List Point) → run (names_text xs (t.CloseCurly ∷ rest)) (Arguments scope n ∷ σ) ≡ check_arguments scope n xs (t.CloseCurly ∷ rest) (run rest σ)
arguments_run [] scope n rest σ = refl
arguments_run (x ∷ xs) scope n rest σ = ap (first_fault (argument_fault scope n x) (names_text (x ∷ xs) (t.CloseCurly ∷ rest))) (arguments_run xs scope (n + 1) rest σ)

uses_run : (xs : List Identifier) (scope : Scope) (rest : List Symbol) (σ : List Point) → run (names_text xs (t.CloseCurly ∷ rest)) (Wanted scope (length xs) ∷ σ) ≡ check_uses scope xs (t.CloseCurly ∷ rest) (run rest σ)
uses_run [] scope rest σ = refl
uses_run (x ∷ xs) scope rest σ = ap (first_fault (use_fault scope x) (names_text (x ∷ xs) (t.CloseCurly ∷ rest))) (uses_run xs scope rest σ)

call_run : (o : Option BuiltIn) (xs : List Identifier) (scope : Scope) (rest : List Symbol) (σ : List Point) → HasArguments o xs → run (names_text xs (t.CloseCurly ∷ rest)) (next_call scope o ++ σ) ≡ check_call o scope xs (t.CloseCurly ∷ rest) (run rest σ)
call_run (Some b) xs scope rest σ good = subst (λ (k : ℕ). run (names_text xs (t.CloseCurly ∷ rest)) (Wanted scope k ∷ σ) ≡ check_uses scope xs (t.CloseCurly ∷ rest) (run rest σ)) good (uses_run xs scope rest σ)
call_run None xs scope rest σ good = arguments_run xs scope 0 rest σ

-- ---- what begins statements

pub plain_run : (s : Plain) (stage : Stage) (c : Closer) (scope : Scope) (d : ℕ) (rest : List Symbol) (σ : List Point) → ends_value rest ≡ true → PlainDerives s scope → run (plain_text s rest) (At stage c scope d ∷ σ) ≡ first_fault (deep_fault d) (plain_text s rest) (check_plain s scope rest (run rest (At Later c scope d ∷ σ)))
plain_run Skips stage c scope d rest σ e good = refl
plain_run (Tells x v) stage c scope d rest σ e good =
    stop_both (deep_fault d) (use_fault scope x) (plain_text (Tells x v) rest) (run (value_text v rest) (ValueOf c scope d ∷ σ))
    ∙ ap (λ (b : Option Fault). first_fault (deep_fault d) (plain_text (Tells x v) rest) (first_fault (use_fault scope x) (plain_text (Tells x v) rest) b)) (value_run v c scope d rest σ e)
plain_run (Calls p xs) stage c scope d rest σ e good =
    ap (λ (b : Option Fault). first_fault (deep_fault d) (plain_text (Calls p xs) rest) (first_fault (called_fault (built_in_at scope p) scope p) (t.Variable p ∷ names_text xs (t.CloseCurly ∷ rest)) b)) (call_run (built_in_at scope p) xs scope rest (At Later c scope d ∷ σ) good)
plain_run (Raises x) stage c scope d rest σ e good = refl

-- at which stage a body begins
abbrev pub opening_stage : Opening → Stage
opening_stage Threads = AfterThread
opening_stage o = First

pub opening_run : (o : Opening) (stage : Stage) (c : Closer) (scope : Scope) (d : ℕ) (rest : List Symbol) (σ : List Point) → run (opening_text o rest) (At stage c scope d ∷ σ) ≡ first_fault (deep_fault d) (opening_text o rest) (check_opening o scope rest (run rest (At (opening_stage o) closer.End (opening_scope o scope) (fewer d) ∷ At Later c scope d ∷ σ)))
opening_run (Locals x xs) stage c scope d rest σ = ap (first_fault (deep_fault d) (opening_text (Locals x xs) rest)) (locals_run xs (x ∷ []) scope (fewer d) rest (At Later c scope d ∷ σ))
opening_run (ProcValue x xs) stage c scope d rest σ =
    stop_both (deep_fault d) (use_fault scope x) (opening_text (ProcValue x xs) rest) (run (names_text xs (t.CloseCurly ∷ rest)) (Formals scope [] (fewer d) ∷ At Later c scope d ∷ σ))
    ∙ ap (λ (b : Option Fault). first_fault (deep_fault d) (opening_text (ProcValue x xs) rest) (first_fault (use_fault scope x) (opening_text (ProcValue x xs) rest) b)) (formals_run xs [] scope (fewer d) rest (At Later c scope d ∷ σ))
opening_run (ProcNamed x xs) stage c scope d rest σ =
    ap (λ (b : Option Fault). first_fault (deep_fault d) (opening_text (ProcNamed x xs) rest) (first_fault (use_fault scope x) (t.Variable x ∷ names_text xs (t.CloseCurly ∷ rest)) b)) (formals_run xs [] scope (fewer d) rest (At Later c scope d ∷ σ))
opening_run Threads stage c scope d rest σ = refl
opening_run (ThreadsAt n) stage c scope d rest σ = refl

pub choice_run : (h : Choice) (stage : Stage) (c : Closer) (scope : Scope) (d : ℕ) (rest : List Symbol) (σ : List Point) → run (choice_text h rest) (At stage c scope d ∷ σ) ≡ first_fault (deep_fault d) (choice_text h rest) (check_choice h scope rest (run rest (At First closer.Else (choice_scope h scope) (fewer d) ∷ At First closer.End scope (fewer d) ∷ At Later c scope d ∷ σ)))
choice_run (Ifs x) stage c scope d rest σ = refl
choice_run (Cases x p) stage c scope d rest σ =
    ap (λ (b : Option Fault). first_fault (deep_fault d) (choice_text (Cases x p) rest) (first_fault (use_fault scope x) (t.Variable x ∷ t.Of ∷ pattern_text p (t.Then ∷ rest)) b)) (pattern_run p scope (fewer d) rest (At First closer.End scope (fewer d) ∷ At Later c scope d ∷ σ))
