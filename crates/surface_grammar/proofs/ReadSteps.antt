-- The reading functions read as the points do: how steps go behind one another, names and patterns.
use Rattle.std.proofs.Common.{◌≡◌, ◌∙◌, ℕ, zero, suc, ◌+◌, ◌≤◌, List, [], ◌∷◌, ◌++◌, length, drop, Bool, true, false, cond, Option, Some, None, Result, Ok, Err, refl, sym, ap, arith}
use Rattle.std.specs.Prelude.{IfOk}
use Rattle.std.proofs.lemmas.List.{append-nil}
use Rattle.kernel_syntax.specs.declared.stmt.Pattern.{Pattern}
use Rattle.oz_grammar.specs.declared.symbol.Symbol.{Symbol}
use Rattle.oz_grammar.specs.declared.symbol.Symbol.TheVariants as t
use Rattle.oz_grammar.specs.declared.symbol.Sign.{Sign}
use Rattle.oz_grammar.specs.declared.symbol.Sign.TheVariants as sign
use Rattle.oz_grammar.specs.declared.symbol.Purpose.TheVariants as purpose
use Rattle.oz_grammar.specs.declared.fault.Fault.{Fault}
use Rattle.oz_grammar.specs.declared.fault.FaultKind.{FaultKind}
use Rattle.oz_grammar.specs.declared.fault.FaultKind.TheVariants.{Expected}
use Rattle.oz_grammar.specs.declared.fault.What.{What}
use Rattle.oz_grammar.specs.declared.fault.What.TheVariants as what
use Rattle.oz_grammar.specs.Grammar.{Identifier, FeatureToken, AtomFeature, IntFeature}
use Rattle.oz_grammar.specs.Scoping.{Scope, Fields, with_field, feature_of, place_feature, names_in}
use Rattle.oz_grammar.specs.Faults.{use_fault, number_fault, site_fault, count_fault, placed_fault, feature_token_fault, name_fault, fewer, fault_here, mismatch}
use Rattle.oz_grammar.specs.Check.{first_fault}
use Rattle.oz_grammar.specs.Points.{First, expected_sign, is_sign}
use Rattle.oz_grammar.specs.Automata.{read_step, then_points}
use Rattle.oz_grammar.specs.Reading.{◌>>=◌, fault_expected, fault_or, sign_at, used_variable_at, selection_at, field_name_at, named_field_at, field_at, is_close_round, fields_at, locals_at, first_local_at, PatternOut, pair_pattern_at, record_pattern_at, pattern_at, site_at, catch_name_at}
use Rattle.oz_grammar.proofs.Shorter.{pattern_short}
use Rattle.oz_grammar.proofs.PartReads.{read_on, unless_read, chain, full, err_both, kept}
use Rattle.surface_grammar.specs.declared.parts.Callable.{Callable}
use Rattle.surface_grammar.specs.Points.{Branch, Ends, InHandler, Point, At, Here, LocalName, LocalMore, CallableName, Formals, SelectionOf, PatternOf, BehindPattern, PatternTail, PatternField, PatternName, SiteHere, CatchName, clause_points, body_points, formal_wrong, run, points_automaton}
use Rattle.surface_grammar.specs.Reading.{Read, formals_at, clause_head_at}

-- What is read from these points has the fault that reading gives; else as many symbols are left, at most n, and they are read
-- from the points behind.
pub record IsReadFrom {X : Type 0} (n : ℕ) (symbols : List Symbol) (points : List Point) (r : Read X) (P : X × List Symbol → Type 0) (on : X → List Point) : Type 0 where
  pub reads : run symbols points ≡ read_on r (λ x. run x.1 (on x.0))
  pub good : IfOk r (λ x. (length x.1 ≤ n) × P x)

abbrev pub any : {X : Type 0} → X → Type 0
any x = Unit {0}

-- one is read, and then another
pub bind : {X Y : Type 0} (n : ℕ) (symbols : List Symbol) (points : List Point) (r : Read X) (P : X × List Symbol → Type 0) (on : X → List Point) (f : X × List Symbol → Read Y) (Q : Y × List Symbol → Type 0) (behind : Y → List Point) → IsReadFrom n symbols points r P on
    → ((x : X × List Symbol) → length x.1 ≤ n → P x → IsReadFrom n x.1 (on x.0) (f x) Q behind) → IsReadFrom n symbols points (r >>= f) Q behind
bind n symbols points (Ok x) P on f Q behind a b = let l = b x a.good.0 a.good.1 in record { reads = a.reads ∙ l.reads; good = l.good }
bind n symbols points (Err e) P on f Q behind a b = record { reads = a.reads; good = tt }

-- nothing more is read
pub done : {X : Type 0} (n : ℕ) (x : X) (rest : List Symbol) (P : X × List Symbol → Type 0) (on : X → List Point) → length rest ≤ n → P (x, rest) → IsReadFrom n rest (on x) (Ok (x, rest)) P on
done n x rest P on le p = record { reads = refl; good = (le, p) }

-- the symbol at the front has something wrong, or reading goes on behind it
pub begin : {X : Type 0} (n : ℕ) (wrong : Option FaultKind) (s : Symbol) (rest : List Symbol) (points inside : List Point) (r : Read X) (P : X × List Symbol → Type 0) (on : X → List Point) → run (s ∷ rest) points ≡ first_fault wrong (s ∷ rest) (run rest inside) → IsReadFrom n rest inside r P on
    → IsReadFrom n (s ∷ rest) points (fault_or wrong (s ∷ rest) r) P on
begin n None s rest points inside r P on e a = record { reads = e ∙ a.reads; good = a.good }
begin n (Some kind) s rest points inside r P on e a = record { reads = e; good = tt }

-- another symbol is expected
pub refused : {X : Type 0} (n : ℕ) (w : What) (symbols : List Symbol) (points : List Point) (P : X × List Symbol → Type 0) (on : X → List Point) → run symbols points ≡ Some (fault_here (mismatch w symbols) symbols) → IsReadFrom {X = X} n symbols points (fault_expected w symbols) P on
refused n w symbols points P on e = record { reads = e; good = tt }

-- .. within more symbols
pub weaken : {X : Type 0} (m n : ℕ) (symbols : List Symbol) (points : List Point) (r : Read X) (P : X × List Symbol → Type 0) (on : X → List Point) → m ≤ n → IsReadFrom m symbols points r P on → IsReadFrom n symbols points r P on
weaken m n symbols points (Ok x) P on le a = let h = a.good.0 in record { reads = a.reads; good = (omega (arith, h, le), a.good.1) }
weaken m n symbols points (Err e) P on le a = record { reads = a.reads; good = tt }

-- ---- signs and names

sign_step : {Y : Type 0} (s : Sign) (n : ℕ) (symbols : List Symbol) (σ : List Point) (f : List Symbol → Read Y) (Q : Y × List Symbol → Type 0) (behind : Y → List Point) (r : Result (List Symbol) Fault) → run symbols (Here s ∷ σ) ≡ read_on r (λ rest. run rest σ) → IfOk r (λ rest. length rest ≤ n)
    → ((rest : List Symbol) → length rest ≤ n → IsReadFrom n rest σ (f rest) Q behind) → IsReadFrom n symbols (Here s ∷ σ) (r >>= f) Q behind
sign_step s n symbols σ f Q behind (Ok rest) e le b = let l = b rest le in record { reads = e ∙ l.reads; good = l.good }
sign_step s n symbols σ f Q behind (Err g) e le b = record { reads = e; good = tt }

sign_reads : (s : Sign) (symbols : List Symbol) (σ : List Point) → run symbols (Here s ∷ σ) ≡ read_on (sign_at s symbols) (λ rest. run rest σ)
sign_reads s [] σ = refl
sign_reads s (x ∷ xs) σ = elim (is_sign s x) as (λ b. read_step points_automaton (Expected (expected_sign s)) None (x ∷ xs) (λ (k : List Point). run xs k) (then_points (cond b (Some []) None) σ) ≡ read_on (cond b (Ok xs) (fault_expected (expected_sign s) (x ∷ xs))) (λ rest. run rest σ)) [ true ↦ refl | false ↦ refl ]

sign_shorter : (s : Sign) (n : ℕ) (symbols : List Symbol) → length symbols ≤ n + 1 → IfOk (sign_at s symbols) (λ rest. length rest ≤ n)
sign_shorter s n [] le = tt
sign_shorter s n (x ∷ xs) le = elim (is_sign s x) as (λ b. IfOk {E = Fault} (cond b (Ok xs) (fault_expected (expected_sign s) (x ∷ xs))) (λ rest. length rest ≤ n)) [ true ↦ omega arith | false ↦ tt ]

-- a symbol that stands alone, and then more
pub sign_then : {Y : Type 0} (s : Sign) (n : ℕ) (symbols : List Symbol) (σ : List Point) (f : List Symbol → Read Y) (Q : Y × List Symbol → Type 0) (behind : Y → List Point) → length symbols ≤ n + 1 → ((rest : List Symbol) → length rest ≤ n → IsReadFrom n rest σ (f rest) Q behind)
    → IsReadFrom n symbols (Here s ∷ σ) (sign_at s symbols >>= f) Q behind
sign_then s n symbols σ f Q behind le b = sign_step s n symbols σ f Q behind (sign_at s symbols) (sign_reads s symbols σ) (sign_shorter s n symbols le) b

-- .. and then nothing more
pub sign_last : {Y : Type 0} (s : Sign) (n : ℕ) (symbols : List Symbol) (σ : List Point) (y : Y) → length symbols ≤ n + 1 → IsReadFrom n symbols (Here s ∷ σ) (sign_at s symbols >>= λ rest. Ok (y, rest)) any (λ x. σ)
sign_last s n symbols σ y le = sign_then s n symbols σ (λ rest. Ok (y, rest)) any (λ x. σ) le (λ rest l. done n y rest any (λ x. σ) l tt)

pub selection_read : (n : ℕ) (scope : Scope) (symbols : List Symbol) (σ : List Point) → length symbols ≤ n + 1 → IsReadFrom n symbols (SelectionOf scope ∷ σ) (selection_at scope symbols) any (λ x. σ)
selection_read n scope (t.Variable x ∷ xs) σ le = begin n (use_fault scope x) (t.Variable x) xs _ σ _ any _ refl (done n _ xs any (λ x. σ) (omega arith) tt)
selection_read n scope (t.Atom a ∷ xs) σ le = record { reads = refl; good = (omega arith, tt) }
selection_read n scope (t.Integer i ∷ xs) σ le = begin n (number_fault i) (t.Integer i) xs _ σ _ any _ refl (done n _ xs any (λ x. σ) (omega arith) tt)
selection_read n scope [] σ le = record { reads = refl; good = tt }
selection_read n scope (x ∷ xs) σ le = record { reads = refl; good = tt }

pub callable_name_read : (n : ℕ) (c : Callable) (scope : Scope) (d : ℕ) (symbols : List Symbol) (σ : List Point) → length symbols ≤ n + 1 → IsReadFrom n symbols (CallableName c scope d ∷ σ) (used_variable_at what.Variable scope symbols) any (λ x. Formals c scope [] d ∷ σ)
callable_name_read n c scope d (t.Variable x ∷ xs) σ le = begin n (use_fault scope x) (t.Variable x) xs _ (Formals c scope [] d ∷ σ) _ any _ refl (done n _ xs any (λ x. Formals c scope [] d ∷ σ) (omega arith) tt)
callable_name_read n c scope d [] σ le = record { reads = refl; good = tt }
callable_name_read n c scope d (x ∷ xs) σ le = record { reads = refl; good = tt }

locals_read : (n : ℕ) (symbols : List Symbol) (before : List Identifier) (scope : Scope) (d : ℕ) (σ : List Point) → length symbols ≤ n + 1 → IsReadFrom n symbols (LocalMore scope before d ∷ σ) (locals_at before symbols) any (λ xs. At First Ends (scope ++ xs) d ∷ σ)
locals_read n (t.In ∷ rest) before scope d σ le = record { reads = refl; good = (omega arith, tt) }
locals_read n (t.Variable x ∷ rest) before scope d σ le =
    begin n (count_fault (length before)) (t.Variable x) rest _ (LocalMore scope (before ++ x ∷ []) d ∷ σ) _ any _ refl (locals_read n rest (before ++ x ∷ []) scope d σ (omega arith))
locals_read n [] before scope d σ le = record { reads = refl; good = tt }
locals_read n (x ∷ rest) before scope d σ le = record { reads = refl; good = tt }

pub first_local_read : (n : ℕ) (symbols : List Symbol) (scope : Scope) (d : ℕ) (σ : List Point) → length symbols ≤ n + 1 → IsReadFrom n symbols (LocalName scope d ∷ σ) (first_local_at symbols) any (λ xs. At First Ends (scope ++ xs) d ∷ σ)
first_local_read n (t.Variable x ∷ rest) scope d σ le = let l = locals_read n rest (x ∷ []) scope d σ (omega arith) in record { reads = l.reads; good = l.good }
first_local_read n [] scope d σ le = record { reads = refl; good = tt }
first_local_read n (x ∷ rest) scope d σ le = record { reads = refl; good = tt }

pub formals_read : (n : ℕ) (symbols : List Symbol) (before : List Identifier) (c : Callable) (scope : Scope) (d : ℕ) (σ : List Point) → length symbols ≤ n + 1 → IsReadFrom n symbols (Formals c scope before d ∷ σ) (formals_at c before symbols) any (λ xs. body_points c (scope ++ xs) d ++ σ)
formals_read n (t.CloseCurly ∷ rest) before c scope d σ le = record { reads = refl; good = (omega arith, tt) }
formals_read n (t.Variable x ∷ rest) before c scope d σ le =
    begin n (formal_wrong c before x) (t.Variable x) rest _ (Formals c scope (before ++ x ∷ []) d ∷ σ) _ any _ refl (formals_read n rest (before ++ x ∷ []) c scope d σ (omega arith))
formals_read n [] before c scope d σ le = record { reads = refl; good = tt }
formals_read n (x ∷ rest) before c scope d σ le = record { reads = refl; good = tt }

pub site_read : (n : ℕ) (symbols : List Symbol) (σ : List Point) → length symbols ≤ n + 1 → IsReadFrom n symbols (SiteHere ∷ σ) (site_at symbols) any (λ x. σ)
site_read n (t.Integer i ∷ rest) σ le = begin n (site_fault i) (t.Integer i) rest _ σ _ any _ refl (done n _ rest any (λ x. σ) (omega arith) tt)
site_read n [] σ le = record { reads = refl; good = tt }
site_read n (x ∷ rest) σ le = record { reads = refl; good = tt }

pub catch_read : (n : ℕ) (scope : Scope) (d : ℕ) (symbols : List Symbol) (σ : List Point) → length symbols ≤ n + 1 → IsReadFrom n symbols (CatchName scope d ∷ σ) (catch_name_at symbols) any (λ x. Here sign.Then ∷ At First (InHandler scope d) (scope ++ x ∷ []) d ∷ σ)
catch_read n scope d (t.Variable x ∷ rest) σ le = record { reads = refl; good = (omega arith, tt) }
catch_read n scope d [] σ le = record { reads = refl; good = tt }
catch_read n scope d (x ∷ rest) σ le = record { reads = refl; good = tt }

-- ---- patterns

-- the points behind a pattern that declares these names
abbrev behind_names : Branch → Scope → ℕ → List Identifier → List Point → List Point
behind_names b scope d xs σ = Here sign.Then ∷ (clause_points b scope (scope ++ xs) d ++ σ)

name_read : (b : Branch) (scope : Scope) (d room : ℕ) (before : Fields) (nth : ℕ) (m : FeatureToken) (symbols : List Symbol) (σ : List Point)
    → run symbols (PatternName b scope d room before nth m ∷ σ) ≡ read_on (field_name_at purpose.Declare scope before nth m symbols) (λ o. run o.2 (PatternField b scope d (fewer room) o.0 o.1 ∷ σ))
name_read b scope d room before nth m (t.Variable x ∷ xs) σ = unless_read (name_fault purpose.Declare scope before x) (t.Variable x ∷ xs) (Ok (with_field (feature_of m) x before, nth, xs)) (λ o. run o.2 (PatternField b scope d (fewer room) o.0 o.1 ∷ σ))
name_read b scope d room before nth m [] σ = refl
name_read b scope d room before nth m (x ∷ xs) σ = refl

named_read : (b : Branch) (scope : Scope) (d room : ℕ) (before : Fields) (nth : ℕ) (m : FeatureToken) (symbols : List Symbol) (σ : List Point)
    → run symbols (Here sign.Colon ∷ PatternName b scope d room before nth m ∷ σ) ≡ read_on (named_field_at purpose.Declare scope before nth m symbols) (λ o. run o.2 (PatternField b scope d (fewer room) o.0 o.1 ∷ σ))
named_read b scope d room before nth m symbols σ =
    sign_reads sign.Colon symbols (PatternName b scope d room before nth m ∷ σ)
    ∙ chain (sign_at sign.Colon symbols) _ (λ rest. run rest (PatternName b scope d room before nth m ∷ σ)) (λ o. run o.2 (PatternField b scope d (fewer room) o.0 o.1 ∷ σ)) (λ rest. name_read b scope d room before nth m rest σ)

field_read : (b : Branch) (scope : Scope) (d room : ℕ) (before : Fields) (nth : ℕ) (symbols : List Symbol) (σ : List Point) → is_close_round symbols ≡ false
    → run symbols (PatternField b scope d room before nth ∷ σ) ≡ read_on (field_at purpose.Declare scope room before nth symbols) (λ o. run o.2 (PatternField b scope d (fewer room) o.0 o.1 ∷ σ))
field_read b scope d room before nth (t.CloseRound ∷ xs) σ e = absurd cc
field_read b scope d room before nth (t.Variable x ∷ xs) σ e =
    unless_read (placed_fault purpose.Declare scope room before nth x) (t.Variable x ∷ xs) (Ok (with_field (place_feature nth) x before, nth + 1, xs)) (λ o. run o.2 (PatternField b scope d (fewer room) o.0 o.1 ∷ σ))
field_read b scope d room before nth (t.Atom a ∷ xs) σ e =
    ap (first_fault (feature_token_fault room before (AtomFeature a)) (t.Atom a ∷ xs)) (named_read b scope d room before nth (AtomFeature a) xs σ)
    ∙ unless_read (feature_token_fault room before (AtomFeature a)) (t.Atom a ∷ xs) (named_field_at purpose.Declare scope before nth (AtomFeature a) xs) (λ o. run o.2 (PatternField b scope d (fewer room) o.0 o.1 ∷ σ))
field_read b scope d room before nth (t.Integer n ∷ xs) σ e =
    ap (first_fault (feature_token_fault room before (IntFeature n)) (t.Integer n ∷ xs)) (named_read b scope d room before nth (IntFeature n) xs σ)
    ∙ unless_read (feature_token_fault room before (IntFeature n)) (t.Integer n ∷ xs) (named_field_at purpose.Declare scope before nth (IntFeature n) xs) (λ o. run o.2 (PatternField b scope d (fewer room) o.0 o.1 ∷ σ))
field_read b scope d room before nth [] σ e = refl
field_read b scope d room before nth (x ∷ xs) σ e = refl

round_read : (b : Branch) (scope : Scope) (d room : ℕ) (before : Fields) (nth : ℕ) (symbols : List Symbol) (σ : List Point) → is_close_round symbols ≡ true
    → run symbols (PatternField b scope d room before nth ∷ σ) ≡ run (drop 1 symbols) (behind_names b scope d (names_in before) σ)
round_read b scope d room before nth (t.CloseRound ∷ xs) σ e = refl
round_read b scope d room before nth symbols σ e = absurd cc

fields_read : (room : ℕ) (b : Branch) (scope : Scope) (d : ℕ) (before : Fields) (nth : ℕ) (symbols : List Symbol) (σ : List Point)
    → run symbols (PatternField b scope d room before nth ∷ σ) ≡ read_on (fields_at purpose.Declare scope room before nth symbols) (λ m. run m.1 (behind_names b scope d (names_in m.0) σ))
unfolding fields_at
fields_read zero b scope d before nth symbols σ =
    let chosen : (c : Bool) → is_close_round symbols ≡ c → run symbols (PatternField b scope d zero before nth ∷ σ) ≡ read_on (cond c (Ok (before, drop 1 symbols)) (field_at purpose.Declare scope zero before nth symbols >>= kept)) (λ m. run m.1 (behind_names b scope d (names_in m.0) σ)) = elim [
      | true ↦ λ e. round_read b scope d zero before nth symbols σ e
      | false ↦ λ e. let f = full purpose.Declare scope before nth symbols e in field_read b scope d zero before nth symbols σ e ∙ err_both (field_at purpose.Declare scope zero before nth symbols) _ _ _ f.0 f.1
    ] in chosen (is_close_round symbols) refl
fields_read (suc room) b scope d before nth symbols σ =
    let chosen : (c : Bool) → is_close_round symbols ≡ c → run symbols (PatternField b scope d (suc room) before nth ∷ σ) ≡ read_on (cond c (Ok (before, drop 1 symbols)) (field_at purpose.Declare scope (suc room) before nth symbols >>= λ m. fields_at purpose.Declare scope room m.0 m.1 m.2)) (λ m. run m.1 (behind_names b scope d (names_in m.0) σ)) = elim [
      | true ↦ λ e. round_read b scope d (suc room) before nth symbols σ e
      | false ↦ λ e.
          field_read b scope d (suc room) before nth symbols σ e
          ∙ chain (field_at purpose.Declare scope (suc room) before nth symbols) (λ m. fields_at purpose.Declare scope room m.0 m.1 m.2) (λ o. run o.2 (PatternField b scope d room o.0 o.1 ∷ σ)) (λ m. run m.1 (behind_names b scope d (names_in m.0) σ)) (λ o. fields_read room b scope d o.0 o.1 o.2 σ)
    ] in chosen (is_close_round symbols) refl

pair_read : (b : Branch) (scope : Scope) (d : ℕ) (h : Identifier) (symbols : List Symbol) (σ : List Point) → run symbols (PatternTail b scope d h ∷ σ) ≡ read_on (pair_pattern_at h symbols) (λ m. run m.2 (behind_names b scope d m.1 σ))
pair_read b scope d h (t.Variable x ∷ xs) σ = unless_read {X = PatternOut} _ (t.Variable x ∷ xs) (Ok (_, h ∷ x ∷ [], xs)) (λ m. run m.2 (behind_names b scope d m.1 σ))
pair_read b scope d h [] σ = refl
pair_read b scope d h (x ∷ xs) σ = refl

no_names : (b : Branch) (scope : Scope) (d : ℕ) (xs : List Symbol) (σ : List Point) → run xs (Here sign.Then ∷ (clause_points b scope scope d ++ σ)) ≡ run xs (behind_names b scope d [] σ)
no_names b scope d xs σ = ap (λ (s : Scope). run xs (Here sign.Then ∷ (clause_points b scope s d ++ σ))) (sym (append-nil scope))

behind_pattern_read : (a : List ℕ) (b : Branch) (scope : Scope) (d : ℕ) (symbols : List Symbol) (σ : List Point) → run symbols (BehindPattern b scope d ∷ σ) ≡ read_on (record_pattern_at a scope symbols) (λ m. run m.2 (behind_names b scope d m.1 σ))
behind_pattern_read a b scope d (t.OpenRound ∷ xs) σ =
    fields_read 64 b scope d [] 1 xs σ
    ∙ chain (fields_at purpose.Declare scope 64 [] 1 xs) _ (λ m. run m.1 (behind_names b scope d (names_in m.0) σ)) (λ m. run m.2 (behind_names b scope d m.1 σ)) (λ m. refl)
behind_pattern_read a b scope d [] σ = refl
behind_pattern_read a b scope d (t.Then ∷ xs) σ = no_names b scope d (t.Then ∷ xs) σ
behind_pattern_read a b scope d (x ∷ xs) σ = refl

pattern_read : (b : Branch) (scope : Scope) (d : ℕ) (symbols : List Symbol) (σ : List Point) → run symbols (PatternOf b scope d ∷ σ) ≡ read_on (pattern_at scope symbols) (λ m. run m.2 (behind_names b scope d m.1 σ))
pattern_read b scope d (t.Integer n ∷ xs) σ =
    ap (first_fault (number_fault n) (t.Integer n ∷ xs)) (no_names b scope d xs σ)
    ∙ unless_read (number_fault n) (t.Integer n ∷ xs) (Ok (_, [], xs)) (λ m. run m.2 (behind_names b scope d m.1 σ))
pattern_read b scope d (t.Atom a ∷ xs) σ = behind_pattern_read a b scope d xs σ
pattern_read b scope d (t.Variable h ∷ xs) σ =
    sign_reads sign.Bar xs (PatternTail b scope d h ∷ σ)
    ∙ chain (sign_at sign.Bar xs) _ (λ rest. run rest (PatternTail b scope d h ∷ σ)) (λ m. run m.2 (behind_names b scope d m.1 σ)) (λ rest. pair_read b scope d h rest σ)
pattern_read b scope d [] σ = refl
pattern_read b scope d (x ∷ xs) σ = refl

then_step : {Y : Type 0} (n : ℕ) (symbols : List Symbol) (scope : Scope) (m : PatternOut) (σ : List Point) (f : Pattern × Scope × List Symbol → Read Y) (Q : Y × List Symbol → Type 0) (behind : Y → List Point) (r : Result (List Symbol) Fault)
    → run symbols (Here sign.Then ∷ σ) ≡ read_on r (λ rest. run rest σ) → IfOk r (λ rest. length rest ≤ n) → ((rest : List Symbol) → length rest ≤ n → IsReadFrom n rest σ (f (m.0, scope ++ m.1, rest)) Q behind)
    → IsReadFrom n symbols (Here sign.Then ∷ σ) ((r >>= λ rest. Ok (m.0, scope ++ m.1, rest)) >>= f) Q behind
then_step n symbols scope m σ f Q behind (Ok rest) e le b = let l = b rest le in record { reads = e ∙ l.reads; good = l.good }
then_step n symbols scope m σ f Q behind (Err g) e le b = record { reads = e; good = tt }

head_step : {Y : Type 0} (b : Branch) (scope : Scope) (d n : ℕ) (symbols : List Symbol) (σ : List Point) (f : Pattern × Scope × List Symbol → Read Y) (Q : Y × List Symbol → Type 0) (behind : Y → List Point) (r : Result PatternOut Fault)
    → run symbols (PatternOf b scope d ∷ σ) ≡ read_on r (λ m. run m.2 (behind_names b scope d m.1 σ)) → IfOk r (λ m. length m.2 ≤ n + 1)
    → ((m : Pattern × Scope × List Symbol) → length m.2 ≤ n → IsReadFrom n m.2 (clause_points b scope m.1 d ++ σ) (f m) Q behind)
    → IsReadFrom n symbols (PatternOf b scope d ∷ σ) ((r >>= λ m. sign_at sign.Then m.2 >>= λ rest. Ok (m.0, scope ++ m.1, rest)) >>= f) Q behind
head_step b scope d n symbols σ f Q behind (Ok m) e le on =
    let l = then_step n m.2 scope m (clause_points b scope (scope ++ m.1) d ++ σ) f Q behind (sign_at sign.Then m.2) (sign_reads sign.Then m.2 _) (sign_shorter sign.Then n m.2 le) (λ rest k. on (m.0, scope ++ m.1, rest) k) in
    record { reads = e ∙ l.reads; good = l.good }
head_step b scope d n symbols σ f Q behind (Err g) e le on = record { reads = e; good = tt }

-- a pattern and `then`, and then more
pub clause_head_then : {Y : Type 0} (b : Branch) (scope : Scope) (d n : ℕ) (symbols : List Symbol) (σ : List Point) (f : Pattern × Scope × List Symbol → Read Y) (Q : Y × List Symbol → Type 0) (behind : Y → List Point) → length symbols ≤ n + 1
    → ((m : Pattern × Scope × List Symbol) → length m.2 ≤ n → IsReadFrom n m.2 (clause_points b scope m.1 d ++ σ) (f m) Q behind) → IsReadFrom n symbols (PatternOf b scope d ∷ σ) (clause_head_at scope symbols >>= f) Q behind
clause_head_then b scope d n symbols σ f Q behind le on = head_step b scope d n symbols σ f Q behind (pattern_at scope symbols) (pattern_read b scope d symbols σ) (pattern_short scope symbols (n + 1) le) on
