-- The reading functions read as the points do: parts of statements.
use Rattle.std.proofs.Common.{◌≡◌, ℕ, zero, suc, ◌+◌, List, [], ◌∷◌, ◌++◌, length, drop, Bool, true, false, cond, Option, Some, None, Result, Ok, Err, ℤ, refl, sym, ap, ◌∙◌}
use Rattle.std.proofs.lemmas.List.{append-nil}
use Rattle.oz_grammar.specs.declared.symbol.Symbol.{Symbol}
use Rattle.oz_grammar.specs.declared.symbol.Symbol.TheVariants as t
use Rattle.oz_grammar.specs.declared.symbol.Sign.{Sign}
use Rattle.oz_grammar.specs.declared.symbol.Sign.TheVariants as sign
use Rattle.oz_grammar.specs.declared.symbol.Closer.TheVariants as closer
use Rattle.oz_grammar.specs.declared.symbol.Purpose.{Purpose}
use Rattle.oz_grammar.specs.declared.symbol.Purpose.TheVariants as purpose
use Rattle.oz_grammar.specs.declared.fault.Fault.{Fault}
use Rattle.oz_grammar.specs.declared.fault.FaultKind.{FaultKind}
use Rattle.oz_grammar.specs.declared.fault.FaultKind.TheVariants.{Expected}
use Rattle.oz_grammar.specs.Grammar.{Identifier, FeatureToken, AtomFeature, IntFeature}
use Rattle.oz_grammar.specs.Scoping.{Scope, Fields, with_field, feature_of, place_feature}
use Rattle.oz_grammar.specs.Faults.{use_fault, number_fault, count_fault, formal_fault, placed_fault, feature_token_fault, name_fault, fewer}
use Rattle.oz_grammar.specs.Check.{first_fault}
use Rattle.oz_grammar.specs.Points.{Point, First, At, Here, LocalName, LocalMore, SelectionOf, FieldOf, FieldName, PatternOf, BehindPattern, PatternTail, Formals, SiteHere, expected_sign, is_sign, behind_fields, run, points_automaton}
use Rattle.oz_grammar.specs.Automata.{read_step, then_points}
use Rattle.oz_grammar.specs.Table.{value_of}
use Rattle.oz_grammar.specs.Reading.{◌>>=◌, fault_expected, fault_or, sign_at, selection_at, FieldOut, field_name_at, named_field_at, field_at, is_close_round, fields_at, locals_at, first_local_at, formals_at, PatternOut, pair_pattern_at, record_pattern_at, pattern_at, site_at}

-- the fault of what is read, else what is found behind it
abbrev pub read_on : {X : Type 0} → Result X Fault → (X → Option Fault) → Option Fault
read_on (Ok x) behind = behind x
read_on (Err f) behind = Some f

pub unless_read : {X : Type 0} (wrong : Option FaultKind) (symbols : List Symbol) (r : Result X Fault) (k : X → Option Fault) → first_fault wrong symbols (read_on r k) ≡ read_on (fault_or wrong symbols r) k
unless_read None symbols r k = refl
unless_read (Some kind) symbols r k = refl

-- one is read, and then another
pub chain : {X Y : Type 0} (r : Result X Fault) (f : X → Result Y Fault) (m : X → Option Fault) (k : Y → Option Fault) → ((x : X) → m x ≡ read_on (f x) k) → read_on r m ≡ read_on (r >>= f) k
chain (Ok x) f m k h = h x
chain (Err e) f m k h = refl

pub sign_read : (s : Sign) (symbols : List Symbol) (σ : List Point) → run symbols (Here s ∷ σ) ≡ read_on (sign_at s symbols) (λ rest. run rest σ)
sign_read s [] σ = refl
sign_read s (x ∷ xs) σ = elim (is_sign s x) as (λ b. read_step points_automaton (Expected (expected_sign s)) None (x ∷ xs) (run xs) (then_points (cond b (Some []) None) σ) ≡ read_on (cond b (Ok xs) (fault_expected (expected_sign s) (x ∷ xs))) (λ rest. run rest σ)) [ true ↦ refl | false ↦ refl ]

selection_read : (scope : Scope) (symbols : List Symbol) (σ : List Point) → run symbols (SelectionOf scope ∷ σ) ≡ read_on (selection_at scope symbols) (λ s. run s.1 σ)
selection_read scope (t.Variable x ∷ xs) σ = unless_read (use_fault scope x) (t.Variable x ∷ xs) (Ok (_, xs)) (λ s. run s.1 σ)
selection_read scope (t.Atom a ∷ xs) σ = refl
selection_read scope (t.Integer n ∷ xs) σ = unless_read (number_fault n) (t.Integer n ∷ xs) (Ok (_, xs)) (λ s. run s.1 σ)
selection_read scope [] σ = refl
selection_read scope (x ∷ xs) σ = refl

-- ---- fields

field_name_read : (p : Purpose) (scope : Scope) (d room : ℕ) (before : Fields) (next : ℕ) (m : FeatureToken) (symbols : List Symbol) (σ : List Point) → run symbols (FieldName p scope d room before next m ∷ σ) ≡ read_on (field_name_at p scope before next m symbols) (λ o. run o.2 (FieldOf p scope d (fewer room) o.0 o.1 ∷ σ))
field_name_read p scope d room before next m (t.Variable x ∷ xs) σ = unless_read (name_fault p scope before x) (t.Variable x ∷ xs) (Ok (with_field (feature_of m) x before, next, xs)) (λ o. run o.2 (FieldOf p scope d (fewer room) o.0 o.1 ∷ σ))
field_name_read p scope d room before next m [] σ = refl
field_name_read p scope d room before next m (x ∷ xs) σ = refl

named_read : (p : Purpose) (scope : Scope) (d room : ℕ) (before : Fields) (next : ℕ) (m : FeatureToken) (symbols : List Symbol) (σ : List Point) → run symbols (Here sign.Colon ∷ FieldName p scope d room before next m ∷ σ) ≡ read_on (named_field_at p scope before next m symbols) (λ o. run o.2 (FieldOf p scope d (fewer room) o.0 o.1 ∷ σ))
named_read p scope d room before next m symbols σ =
    sign_read sign.Colon symbols (FieldName p scope d room before next m ∷ σ)
    ∙ chain (sign_at sign.Colon symbols) _ (λ rest. run rest (FieldName p scope d room before next m ∷ σ)) (λ o. run o.2 (FieldOf p scope d (fewer room) o.0 o.1 ∷ σ)) (λ rest. field_name_read p scope d room before next m rest σ)

field_read : (p : Purpose) (scope : Scope) (d room : ℕ) (before : Fields) (next : ℕ) (symbols : List Symbol) (σ : List Point) → is_close_round symbols ≡ false → run symbols (FieldOf p scope d room before next ∷ σ) ≡ read_on (field_at p scope room before next symbols) (λ o. run o.2 (FieldOf p scope d (fewer room) o.0 o.1 ∷ σ))
field_read p scope d room before next (t.CloseRound ∷ xs) σ e = absurd cc
field_read p scope d room before next (t.Variable x ∷ xs) σ e = unless_read (placed_fault p scope room before next x) (t.Variable x ∷ xs) (Ok (with_field (place_feature next) x before, next + 1, xs)) (λ o. run o.2 (FieldOf p scope d (fewer room) o.0 o.1 ∷ σ))
field_read p scope d room before next (t.Atom a ∷ xs) σ e =
    ap (first_fault (feature_token_fault room before (AtomFeature a)) (t.Atom a ∷ xs)) (named_read p scope d room before next (AtomFeature a) xs σ)
    ∙ unless_read (feature_token_fault room before (AtomFeature a)) (t.Atom a ∷ xs) (named_field_at p scope before next (AtomFeature a) xs) (λ o. run o.2 (FieldOf p scope d (fewer room) o.0 o.1 ∷ σ))
field_read p scope d room before next (t.Integer n ∷ xs) σ e =
    ap (first_fault (feature_token_fault room before (IntFeature n)) (t.Integer n ∷ xs)) (named_read p scope d room before next (IntFeature n) xs σ)
    ∙ unless_read (feature_token_fault room before (IntFeature n)) (t.Integer n ∷ xs) (named_field_at p scope before next (IntFeature n) xs) (λ o. run o.2 (FieldOf p scope d (fewer room) o.0 o.1 ∷ σ))
field_read p scope d room before next [] σ e = refl
field_read p scope d room before next (x ∷ xs) σ e = refl

-- where there is no room, a field is a fault
pub full : (p : Purpose) (scope : Scope) (before : Fields) (next : ℕ) (symbols : List Symbol) → is_close_round symbols ≡ false → (f : Fault) × (field_at p scope zero before next symbols ≡ Err f)
full p scope before next (t.CloseRound ∷ xs) e = absurd cc
full p scope before next (t.Variable x ∷ xs) e = (_, refl)
full p scope before next (t.Atom a ∷ xs) e = (_, refl)
full p scope before next (t.Integer None ∷ xs) e = (_, refl)
full p scope before next (t.Integer (Some n) ∷ xs) e = (_, refl)
full p scope before next [] e = (_, refl)
full p scope before next (x ∷ xs) e = (_, refl)

round_read : (p : Purpose) (scope : Scope) (d room : ℕ) (before : Fields) (next : ℕ) (symbols : List Symbol) (σ : List Point) → is_close_round symbols ≡ true → run symbols (FieldOf p scope d room before next ∷ σ) ≡ run (drop 1 symbols) (behind_fields p scope d before ++ σ)
round_read p scope d room before next (t.CloseRound ∷ xs) σ e = refl
round_read p scope d room before next symbols σ e = absurd cc

pub err_both : {X Y : Type 0} (r : Result X Fault) (f : X → Result Y Fault) (m : X → Option Fault) (k : Y → Option Fault) (e : Fault) → r ≡ Err e → read_on r m ≡ read_on (r >>= f) k
err_both r f m k e same = rw same refl

abbrev pub kept : FieldOut → Result (Fields × List Symbol) Fault
kept m = Ok (m.0, m.2)

pub fields_read : (room : ℕ) (p : Purpose) (scope : Scope) (d : ℕ) (before : Fields) (next : ℕ) (symbols : List Symbol) (σ : List Point) → run symbols (FieldOf p scope d room before next ∷ σ) ≡ read_on (fields_at p scope room before next symbols) (λ m. run m.1 (behind_fields p scope d m.0 ++ σ))
unfolding fields_at
fields_read zero p scope d before next symbols σ =
    let chosen : (b : Bool) → is_close_round symbols ≡ b → run symbols (FieldOf p scope d zero before next ∷ σ) ≡ read_on (cond b (Ok (before, drop 1 symbols)) (field_at p scope zero before next symbols >>= kept)) (λ m. run m.1 (behind_fields p scope d m.0 ++ σ)) = elim [
      | true ↦ λ e. round_read p scope d zero before next symbols σ e
      | false ↦ λ e. let f = full p scope before next symbols e in field_read p scope d zero before next symbols σ e ∙ err_both (field_at p scope zero before next symbols) _ _ _ f.0 f.1
    ] in chosen (is_close_round symbols) refl
fields_read (suc room) p scope d before next symbols σ =
    let chosen : (b : Bool) → is_close_round symbols ≡ b → run symbols (FieldOf p scope d (suc room) before next ∷ σ) ≡ read_on (cond b (Ok (before, drop 1 symbols)) (field_at p scope (suc room) before next symbols >>= λ m. fields_at p scope room m.0 m.1 m.2)) (λ m. run m.1 (behind_fields p scope d m.0 ++ σ)) = elim [
      | true ↦ λ e. round_read p scope d (suc room) before next symbols σ e
      | false ↦ λ e.
          field_read p scope d (suc room) before next symbols σ e
          ∙ chain (field_at p scope (suc room) before next symbols) (λ m. fields_at p scope room m.0 m.1 m.2) (λ o. run o.2 (FieldOf p scope d room o.0 o.1 ∷ σ)) (λ m. run m.1 (behind_fields p scope d m.0 ++ σ)) (λ o. fields_read room p scope d o.0 o.1 o.2 σ)
    ] in chosen (is_close_round symbols) refl

-- ---- patterns

pair_read : (scope : Scope) (d : ℕ) (h : Identifier) (symbols : List Symbol) (σ : List Point) → run symbols (PatternTail scope d h ∷ σ) ≡ read_on (pair_pattern_at h symbols) (λ m. run m.2 (Here sign.Then ∷ At First closer.Else (scope ++ m.1) d ∷ σ))
pair_read scope d h (t.Variable x ∷ xs) σ = unless_read {X = PatternOut} _ (t.Variable x ∷ xs) (Ok (_, h ∷ x ∷ [], xs)) (λ m. run m.2 (Here sign.Then ∷ At First closer.Else (scope ++ m.1) d ∷ σ))
pair_read scope d h [] σ = refl
pair_read scope d h (x ∷ xs) σ = refl

no_names : (scope : Scope) (d : ℕ) (xs : List Symbol) (σ : List Point) → run xs (Here sign.Then ∷ At First closer.Else scope d ∷ σ) ≡ run xs (Here sign.Then ∷ At First closer.Else (scope ++ []) d ∷ σ)
no_names scope d xs σ = ap (λ (s : Scope). run xs (Here sign.Then ∷ At First closer.Else s d ∷ σ)) (sym (append-nil scope))

behind_pattern_read : (a : List ℕ) (scope : Scope) (d : ℕ) (symbols : List Symbol) (σ : List Point) → run symbols (BehindPattern scope d ∷ σ) ≡ read_on (record_pattern_at a scope symbols) (λ m. run m.2 (Here sign.Then ∷ At First closer.Else (scope ++ m.1) d ∷ σ))
behind_pattern_read a scope d (t.OpenRound ∷ xs) σ =
    fields_read 64 purpose.Declare scope d [] 1 xs σ
    ∙ chain (fields_at purpose.Declare scope 64 [] 1 xs) _ (λ m. run m.1 (behind_fields purpose.Declare scope d m.0 ++ σ)) (λ m. run m.2 (Here sign.Then ∷ At First closer.Else (scope ++ m.1) d ∷ σ)) (λ m. refl)
behind_pattern_read a scope d [] σ = refl
behind_pattern_read a scope d (t.Then ∷ xs) σ = no_names scope d (t.Then ∷ xs) σ
behind_pattern_read a scope d (x ∷ xs) σ = refl

pub pattern_read : (scope : Scope) (d : ℕ) (symbols : List Symbol) (σ : List Point) → run symbols (PatternOf scope d ∷ σ) ≡ read_on (pattern_at scope symbols) (λ m. run m.2 (Here sign.Then ∷ At First closer.Else (scope ++ m.1) d ∷ σ))
pattern_read scope d (t.Integer n ∷ xs) σ =
    ap (first_fault (number_fault n) (t.Integer n ∷ xs)) (no_names scope d xs σ)
    ∙ unless_read (number_fault n) (t.Integer n ∷ xs) (Ok (_, [], xs)) (λ m. run m.2 (Here sign.Then ∷ At First closer.Else (scope ++ m.1) d ∷ σ))
pattern_read scope d (t.Atom a ∷ xs) σ = behind_pattern_read a scope d xs σ
pattern_read scope d (t.Variable h ∷ xs) σ =
    sign_read sign.Bar xs (PatternTail scope d h ∷ σ)
    ∙ chain (sign_at sign.Bar xs) _ (λ rest. run rest (PatternTail scope d h ∷ σ)) (λ m. run m.2 (Here sign.Then ∷ At First closer.Else (scope ++ m.1) d ∷ σ)) (λ rest. pair_read scope d h rest σ)
pattern_read scope d [] σ = refl
pattern_read scope d (x ∷ xs) σ = refl

-- ---- lists of names

locals_read : (symbols : List Symbol) (before : List Identifier) (scope : Scope) (d : ℕ) (σ : List Point) → run symbols (LocalMore scope before d ∷ σ) ≡ read_on (locals_at before symbols) (λ m. run m.1 (At First closer.End (scope ++ m.0) d ∷ σ))
locals_read (t.In ∷ xs) before scope d σ = refl
locals_read (t.Variable x ∷ xs) before scope d σ =
    ap (first_fault (count_fault (length before)) (t.Variable x ∷ xs)) (locals_read xs (before ++ x ∷ []) scope d σ)
    ∙ unless_read (count_fault (length before)) (t.Variable x ∷ xs) (locals_at (before ++ x ∷ []) xs) (λ m. run m.1 (At First closer.End (scope ++ m.0) d ∷ σ))
locals_read [] before scope d σ = refl
locals_read (x ∷ xs) before scope d σ = refl

pub first_local_read : (symbols : List Symbol) (scope : Scope) (d : ℕ) (σ : List Point) → run symbols (LocalName scope d ∷ σ) ≡ read_on (first_local_at symbols) (λ m. run m.1 (At First closer.End (scope ++ m.0) d ∷ σ))
first_local_read (t.Variable x ∷ xs) scope d σ = locals_read xs (x ∷ []) scope d σ
first_local_read [] scope d σ = refl
first_local_read (x ∷ xs) scope d σ = refl

pub formals_read : (symbols : List Symbol) (before : List Identifier) (scope : Scope) (d : ℕ) (σ : List Point) → run symbols (Formals scope before d ∷ σ) ≡ read_on (formals_at before symbols) (λ m. run m.1 (At First closer.End (scope ++ m.0) d ∷ σ))
formals_read (t.CloseCurly ∷ xs) before scope d σ = refl
formals_read (t.Variable x ∷ xs) before scope d σ =
    ap (first_fault (formal_fault before x) (t.Variable x ∷ xs)) (formals_read xs (before ++ x ∷ []) scope d σ)
    ∙ unless_read (formal_fault before x) (t.Variable x ∷ xs) (formals_at (before ++ x ∷ []) xs) (λ m. run m.1 (At First closer.End (scope ++ m.0) d ∷ σ))
formals_read [] before scope d σ = refl
formals_read (x ∷ xs) before scope d σ = refl

pub site_read : (symbols : List Symbol) (σ : List Point) → run symbols (SiteHere ∷ σ) ≡ read_on (site_at symbols) (λ n. run n.1 σ)
site_read (t.Integer n ∷ xs) σ = unless_read {X = ℤ × List Symbol} _ (t.Integer n ∷ xs) (Ok (value_of n, xs)) (λ v. run v.1 σ)
site_read [] σ = refl
site_read (x ∷ xs) σ = refl
