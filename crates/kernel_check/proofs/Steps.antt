-- Steps along symbols from the points of the grammar.
use Rattle.std.proofs.Common.{◌≡◌, ◌∙◌, ℕ, zero, suc, ◌-◌, ◌<◌, List, [], ◌∷◌, ◌++◌, drop, true, false, Option, Some, None, Result, Ok, refl, sym, ap, arith}
use Rattle.tree_node.specs.declared.limits.TheConstants.{MOST_ITEMS}
use Rattle.kernel_syntax.specs.declared.stmt.Pattern.{Pattern}
use Rattle.oz_grammar.specs.declared.symbol.Symbol.{Symbol}
use Rattle.oz_grammar.specs.declared.symbol.Symbol.TheVariants as t
use Rattle.oz_grammar.specs.declared.symbol.Sign.{Sign}
use Rattle.oz_grammar.specs.declared.symbol.Sign.TheVariants as sign
use Rattle.oz_grammar.specs.declared.symbol.Closer.{Closer}
use Rattle.oz_grammar.specs.declared.symbol.Closer.TheVariants as closer
use Rattle.oz_grammar.specs.declared.symbol.Purpose.TheVariants as purpose
use Rattle.oz_grammar.specs.declared.fault.What.TheVariants as what
use Rattle.oz_grammar.specs.declared.fault.Fault.{Fault}
use Rattle.oz_grammar.specs.declared.fault.FaultKind.{FaultKind}
use Rattle.oz_grammar.specs.declared.fault.FaultKind.TheVariants.{Deep}
use Rattle.oz_grammar.specs.Grammar.{Identifier}
use Rattle.oz_grammar.specs.Scoping.{Scope, Fields}
use Rattle.oz_grammar.specs.Faults.{fault_here, mismatch}
use Rattle.oz_grammar.specs.Points.{Stage, First, Later, Point, At, Here, LocalName, FieldOf, Wanted, PatternOf, Formals, SiteHere, expected_after, is_statement_start, points_behind_first, stmt_fault, start, run}
use Rattle.oz_grammar.specs.Reading.{is_at_statement, is_end_of, sign_at, first_local_at, formals_at, fields_at, pattern_at, site_at}
use Rattle.oz_grammar.proofs.PartReads.{read_on, sign_read, first_local_read, formals_read, fields_read, pattern_read, site_read}
use Rattle.oz_phrases.specs.declared.stop.Stop.{Stop}
use Rattle.oz_phrases.specs.declared.stop.Stop.TheVariants as stops
use Rattle.oz_phrases.specs.ReadAnswers.{IsFailure}
use Rattle.kernel_check.specs.Runs.{IsFault, IsOn}

-- ---- parts that are read at once

-- where a part is read, reading goes on behind it; where it is refused, that is the fault
goes : {Y : Type 0} (read : Result Y Fault) (y : Y) (k : Y → Option Fault) (symbols : List Symbol) (σ : List Point) → run symbols σ ≡ read_on read k → read ≡ Ok y → run symbols σ ≡ k y
goes read y k symbols σ same e = same ∙ ap (λ (r : Result _ Fault). read_on r k) e

refused : {Y : Type 0} (read : Result Y Fault) (stop : Stop) (k : Y → Option Fault) (symbols : List Symbol) (σ : List Point) → run symbols σ ≡ read_on read k → IsFailure stop read → IsFault stop symbols σ
refused read stops.Memory k symbols σ same fails = tt
refused read (stops.Fault f) k symbols σ same fails = same ∙ ap (λ (r : Result _ Fault). read_on r k) fails

pub sign_goes : (s : Sign) (symbols rest : List Symbol) (σ : List Point) → sign_at s symbols ≡ Ok rest → run symbols (Here s ∷ σ) ≡ run rest σ
sign_goes s symbols rest σ e = goes (sign_at s symbols) rest (λ r. run r σ) symbols (Here s ∷ σ) (sign_read s symbols σ) e

pub sign_refused : (s : Sign) (stop : Stop) (symbols : List Symbol) (σ : List Point) → IsFailure stop (sign_at s symbols) → IsFault stop symbols (Here s ∷ σ)
sign_refused s stop symbols σ e = refused (sign_at s symbols) stop (λ r. run r σ) symbols (Here s ∷ σ) (sign_read s symbols σ) e

pub local_goes : (symbols rest : List Symbol) (names : List Identifier) (scope : Scope) (d : ℕ) (σ : List Point) → first_local_at symbols ≡ Ok (names, rest) → run symbols (LocalName scope d ∷ σ) ≡ run rest (At First closer.End (scope ++ names) d ∷ σ)
local_goes symbols rest names scope d σ e =
    goes (first_local_at symbols) (names, rest) (λ m. run m.1 (At First closer.End (scope ++ m.0) d ∷ σ)) symbols (LocalName scope d ∷ σ) (first_local_read symbols scope d σ) e

pub local_refused : (stop : Stop) (symbols : List Symbol) (scope : Scope) (d : ℕ) (σ : List Point) → IsFailure stop (first_local_at symbols) → IsFault stop symbols (LocalName scope d ∷ σ)
local_refused stop symbols scope d σ e =
    refused (first_local_at symbols) stop (λ m. run m.1 (At First closer.End (scope ++ m.0) d ∷ σ)) symbols (LocalName scope d ∷ σ) (first_local_read symbols scope d σ) e

pub formals_go : (symbols rest : List Symbol) (names : List Identifier) (scope : Scope) (d : ℕ) (σ : List Point) → formals_at [] symbols ≡ Ok (names, rest) → run symbols (Formals scope [] d ∷ σ) ≡ run rest (At First closer.End (scope ++ names) d ∷ σ)
formals_go symbols rest names scope d σ e =
    goes (formals_at [] symbols) (names, rest) (λ m. run m.1 (At First closer.End (scope ++ m.0) d ∷ σ)) symbols (Formals scope [] d ∷ σ) (formals_read symbols [] scope d σ) e

pub formals_refused : (stop : Stop) (symbols : List Symbol) (scope : Scope) (d : ℕ) (σ : List Point) → IsFailure stop (formals_at [] symbols) → IsFault stop symbols (Formals scope [] d ∷ σ)
formals_refused stop symbols scope d σ e =
    refused (formals_at [] symbols) stop (λ m. run m.1 (At First closer.End (scope ++ m.0) d ∷ σ)) symbols (Formals scope [] d ∷ σ) (formals_read symbols [] scope d σ) e

pub fields_go : (symbols rest : List Symbol) (fields : Fields) (scope : Scope) (d : ℕ) (σ : List Point) → fields_at purpose.Use scope MOST_ITEMS [] 1 symbols ≡ Ok (fields, rest) → run symbols (FieldOf purpose.Use scope d MOST_ITEMS [] 1 ∷ σ) ≡ run rest σ
fields_go symbols rest fields scope d σ e =
    goes (fields_at purpose.Use scope MOST_ITEMS [] 1 symbols) (fields, rest) (λ m. run m.1 σ) symbols (FieldOf purpose.Use scope d MOST_ITEMS [] 1 ∷ σ) (fields_read MOST_ITEMS purpose.Use scope d [] 1 symbols σ) e

pub fields_refused : (stop : Stop) (symbols : List Symbol) (scope : Scope) (d : ℕ) (σ : List Point) → IsFailure stop (fields_at purpose.Use scope MOST_ITEMS [] 1 symbols) → IsFault stop symbols (FieldOf purpose.Use scope d MOST_ITEMS [] 1 ∷ σ)
fields_refused stop symbols scope d σ e =
    refused (fields_at purpose.Use scope MOST_ITEMS [] 1 symbols) stop (λ m. run m.1 σ) symbols (FieldOf purpose.Use scope d MOST_ITEMS [] 1 ∷ σ) (fields_read MOST_ITEMS purpose.Use scope d [] 1 symbols σ) e

pub pattern_goes : (symbols rest : List Symbol) (p : Pattern) (names : List Identifier) (scope : Scope) (d : ℕ) (σ : List Point) → pattern_at scope symbols ≡ Ok (p, names, rest)
    → run symbols (PatternOf scope d ∷ σ) ≡ run rest (Here sign.Then ∷ At First closer.Else (scope ++ names) d ∷ σ)
pattern_goes symbols rest p names scope d σ e =
    goes (pattern_at scope symbols) (p, names, rest) (λ m. run m.2 (Here sign.Then ∷ At First closer.Else (scope ++ m.1) d ∷ σ)) symbols (PatternOf scope d ∷ σ) (pattern_read scope d symbols σ) e

pub pattern_refused : (stop : Stop) (symbols : List Symbol) (scope : Scope) (d : ℕ) (σ : List Point) → IsFailure stop (pattern_at scope symbols) → IsFault stop symbols (PatternOf scope d ∷ σ)
pattern_refused stop symbols scope d σ e =
    refused (pattern_at scope symbols) stop (λ m. run m.2 (Here sign.Then ∷ At First closer.Else (scope ++ m.1) d ∷ σ)) symbols (PatternOf scope d ∷ σ) (pattern_read scope d symbols σ) e

pub site_goes : (symbols rest : List Symbol) (n : _) (σ : List Point) → site_at symbols ≡ Ok (n, rest) → run symbols (SiteHere ∷ σ) ≡ run rest σ
site_goes symbols rest n σ e = goes (site_at symbols) (n, rest) (λ m. run m.1 σ) symbols (SiteHere ∷ σ) (site_read symbols σ) e

pub site_refused : (stop : Stop) (symbols : List Symbol) (σ : List Point) → IsFailure stop (site_at symbols) → IsFault stop symbols (SiteHere ∷ σ)
site_refused stop symbols σ e = refused (site_at symbols) stop (λ m. run m.1 σ) symbols (SiteHere ∷ σ) (site_read symbols σ) e

-- ---- statements

pub deep_here : (stage : Stage) (c : Closer) (scope : Scope) (d : ℕ) (symbols : List Symbol) (σ : List Point) → d ≡ 0 → is_at_statement symbols ≡ true → run symbols (At stage c scope d ∷ σ) ≡ Some (fault_here Deep symbols)
deep_here stage c scope (suc d) symbols σ z e = absurd cc
deep_here stage c scope zero [] σ z e = absurd cc
deep_here stage c scope zero (t.Skip ∷ xs) σ z e = refl
deep_here stage c scope zero (t.Variable x ∷ xs) σ z e = refl
deep_here stage c scope zero (t.OpenCurly ∷ xs) σ z e = refl
deep_here stage c scope zero (t.Raise ∷ xs) σ z e = refl
deep_here stage c scope zero (t.Local ∷ xs) σ z e = refl
deep_here stage c scope zero (t.Proc ∷ xs) σ z e = refl
deep_here stage c scope zero (t.Thread ∷ xs) σ z e = refl
deep_here stage c scope zero (t.If ∷ xs) σ z e = refl
deep_here stage c scope zero (t.Case ∷ xs) σ z e = refl
deep_here stage c scope zero (t.Try ∷ xs) σ z e = refl
deep_here stage c scope zero (x ∷ xs) σ z e = absurd cc

-- where levels are left, the first symbol of a statement leads on, unless its name is not declared
pub begun : (stage : Stage) (c : Closer) (scope : Scope) (d : ℕ) (x : Symbol) (xs : List Symbol) (σ τ : List Point) → 0 < d → is_statement_start x ≡ true → stmt_fault scope 1 x ≡ None → IsOn (points_behind_first c scope d x) σ τ
    → run (x ∷ xs) (At stage c scope d ∷ σ) ≡ run xs τ
begun stage c scope zero x xs σ τ lt s w h = absurd (omega arith)
begun stage c scope (suc d) t.Skip xs σ τ lt s w h = ap (run xs) (sym h)
begun stage c scope (suc d) (t.Variable x) xs σ τ lt s w h = rw w (ap (run xs) (sym h))
begun stage c scope (suc d) t.OpenCurly xs σ τ lt s w h = ap (run xs) (sym h)
begun stage c scope (suc d) t.Raise xs σ τ lt s w h = ap (run xs) (sym h)
begun stage c scope (suc d) t.Local xs σ τ lt s w h = ap (run xs) (sym h)
begun stage c scope (suc d) t.Proc xs σ τ lt s w h = ap (run xs) (sym h)
begun stage c scope (suc d) t.Thread xs σ τ lt s w h = ap (run xs) (sym h)
begun stage c scope (suc d) t.If xs σ τ lt s w h = ap (run xs) (sym h)
begun stage c scope (suc d) t.Case xs σ τ lt s w h = ap (run xs) (sym h)
begun stage c scope (suc d) t.Try xs σ τ lt s w h = ap (run xs) (sym h)
begun stage c scope (suc d) x xs σ τ lt s w h = absurd cc

pub not_begun : (stage : Stage) (c : Closer) (scope : Scope) (d : ℕ) (x : Symbol) (xs : List Symbol) (σ : List Point) (kind : FaultKind) → 0 < d → stmt_fault scope 1 x ≡ Some kind → run (x ∷ xs) (At stage c scope d ∷ σ) ≡ Some (fault_here kind (x ∷ xs))
not_begun stage c scope zero x xs σ kind lt w = absurd (omega arith)
not_begun stage c scope (suc d) (t.Variable x) xs σ kind lt w = rw w refl
not_begun stage c scope (suc d) x xs σ kind lt w = absurd cc

-- at the front of a sequence nothing else may stand
pub first_alone : (c : Closer) (scope : Scope) (d : ℕ) (symbols : List Symbol) (σ : List Point) → is_at_statement symbols ≡ false → run symbols (At First c scope d ∷ σ) ≡ Some (fault_here (mismatch what.Statement symbols) symbols)
first_alone c scope d [] σ e = refl
first_alone c scope d (t.Skip ∷ xs) σ e = absurd cc
first_alone c scope d (t.Variable x ∷ xs) σ e = absurd cc
first_alone c scope d (t.OpenCurly ∷ xs) σ e = absurd cc
first_alone c scope d (t.Raise ∷ xs) σ e = absurd cc
first_alone c scope d (t.Local ∷ xs) σ e = absurd cc
first_alone c scope d (t.Proc ∷ xs) σ e = absurd cc
first_alone c scope d (t.Thread ∷ xs) σ e = absurd cc
first_alone c scope d (t.If ∷ xs) σ e = absurd cc
first_alone c scope d (t.Case ∷ xs) σ e = absurd cc
first_alone c scope d (t.Try ∷ xs) σ e = absurd cc
first_alone c scope d (x ∷ xs) σ e = refl

-- behind a statement the closer may stand
pub closed : (c : Closer) (scope : Scope) (d : ℕ) (symbols : List Symbol) (σ : List Point) → is_end_of c symbols ≡ true → run symbols (At Later c scope d ∷ σ) ≡ run (drop 1 symbols) σ
closed c scope d [] σ e = absurd cc
closed closer.End scope d (t.End ∷ xs) σ e = refl
closed closer.End scope d (x ∷ xs) σ e = absurd cc
closed closer.Else scope d (t.Else ∷ xs) σ e = refl
closed closer.Else scope d (x ∷ xs) σ e = absurd cc
closed closer.Catch scope d (t.Catch ∷ xs) σ e = refl
closed closer.Catch scope d (x ∷ xs) σ e = absurd cc
closed closer.EndOfText scope d (t.EndOfText ∷ xs) σ e = refl
closed closer.EndOfText scope d (x ∷ xs) σ e = absurd cc

pub not_closed : (c : Closer) (scope : Scope) (d : ℕ) (symbols : List Symbol) (σ : List Point) → is_at_statement symbols ≡ false → is_end_of c symbols ≡ false → run symbols (At Later c scope d ∷ σ) ≡ Some (fault_here (mismatch (expected_after c) symbols) symbols)
not_closed c scope d [] σ e f = refl
not_closed c scope d (t.Skip ∷ xs) σ e f = absurd cc
not_closed c scope d (t.Variable x ∷ xs) σ e f = absurd cc
not_closed c scope d (t.OpenCurly ∷ xs) σ e f = absurd cc
not_closed c scope d (t.Raise ∷ xs) σ e f = absurd cc
not_closed c scope d (t.Local ∷ xs) σ e f = absurd cc
not_closed c scope d (t.Proc ∷ xs) σ e f = absurd cc
not_closed c scope d (t.Thread ∷ xs) σ e f = absurd cc
not_closed c scope d (t.If ∷ xs) σ e f = absurd cc
not_closed c scope d (t.Case ∷ xs) σ e f = absurd cc
not_closed c scope d (t.Try ∷ xs) σ e f = absurd cc
not_closed c scope d (x ∷ xs) σ e f = rw f refl

-- ---- arguments of what is built in

pub wanted_none : (k : ℕ) (scope : Scope) (symbols : List Symbol) (σ : List Point) → k ≡ 0 → run symbols (Wanted scope k ∷ σ) ≡ run symbols (Wanted scope 0 ∷ σ)
wanted_none k scope symbols σ e = ap (λ (n : ℕ). run symbols (Wanted scope n ∷ σ)) e

pub wanted_more : (k : ℕ) (scope : Scope) (symbols : List Symbol) (σ : List Point) → 0 < k → run symbols (Wanted scope k ∷ σ) ≡ run symbols (Wanted scope (suc (k - 1)) ∷ σ)
wanted_more k scope symbols σ lt = let e : k ≡ suc (k - 1) = omega arith in ap (λ (n : ℕ). run symbols (Wanted scope n ∷ σ)) e

-- ---- the end

-- where no points are left, nothing is wrong
pub finished : (symbols rest : List Symbol) (σ : List Point) → run symbols start ≡ run rest σ → σ ≡ [] → run symbols start ≡ None
finished symbols [] σ same e = same ∙ ap (run []) e
finished symbols (x ∷ xs) σ same e = same ∙ ap (run (x ∷ xs)) e
