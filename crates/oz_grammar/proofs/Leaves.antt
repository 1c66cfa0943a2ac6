-- What the points take, faults left aside, and that some symbols complete each of them.
use Rattle.std.proofs.Common.{◌≡◌, ℕ, zero, suc, List, [], ◌∷◌, ◌++◌, true, false, cond, Option, Some, None, refl, ap, ◌∙◌}
use Rattle.oz_grammar.specs.declared.symbol.Symbol.{Symbol}
use Rattle.oz_grammar.specs.declared.symbol.Symbol.TheVariants as t
use Rattle.oz_grammar.specs.declared.symbol.Sign.{Sign}
use Rattle.oz_grammar.specs.declared.symbol.Sign.TheVariants as sign
use Rattle.oz_grammar.specs.declared.symbol.Closer.{Closer}
use Rattle.oz_grammar.specs.declared.symbol.Closer.TheVariants as closer
use Rattle.kernel_syntax.specs.declared.built_in.BuiltIn.{BuiltIn}
use Rattle.oz_grammar.specs.declared.symbol.Purpose.{Purpose}
use Rattle.oz_grammar.specs.declared.symbol.Purpose.TheVariants as purpose
use Rattle.oz_grammar.specs.declared.fault.FaultKind.{FaultKind}
use Rattle.oz_grammar.specs.declared.fault.FaultKind.TheVariants.{Expected}
use Rattle.oz_grammar.specs.Grammar.{closer_symbol}
use Rattle.oz_grammar.specs.Scoping.{Scope, is_declared, built_in_at, built_in_of}
use Rattle.oz_grammar.specs.Points.{Stage, First, AfterThread, Later, Point, At, Here, Used, LocalName, LocalMore, ValueOf, BehindVariable, BehindAtom, SelectionOf, FieldOf, FieldName, CallName, Arguments, Wanted, PatternOf, BehindPattern, PatternTail, ProcName, Formals, SiteHere, CatchName, next_call, expected_at, next_of, wrong_at, points_automaton, run}
use Rattle.oz_grammar.specs.Automata.{read_step, onward, state_behind, then_points}

abbrev pub leads : Option (List Point) → (List Point → Option (List Symbol)) → List Point → Option (List Symbol)
leads (Some points) on σ = on (points ++ σ)
leads None on σ = None

-- the symbols that are left once all points are taken
abbrev pub leaves : List Symbol → List Point → Option (List Symbol)
leaves symbols [] = Some symbols
leaves [] (p ∷ σ) = None
leaves (x ∷ xs) (p ∷ σ) = leads (next_of p x) (leaves xs) σ

-- ---- what is read is taken

leads_on : (o : Option (List Point)) (front a : List Symbol) (σ τ : List Point) → ((ρ : List Point) → state_behind points_automaton front ρ ≡ Some τ → leaves (front ++ a) ρ ≡ leaves a τ) → onward (state_behind points_automaton front) (then_points o σ) ≡ Some τ
    → leads o (leaves (front ++ a)) σ ≡ leaves a τ
leads_on None front a σ τ ih e = absurd cc
leads_on (Some points) front a σ τ ih e = ih (points ++ σ) e

pub leaves_behind : (front a : List Symbol) (σ τ : List Point) → state_behind points_automaton front σ ≡ Some τ → leaves (front ++ a) σ ≡ leaves a τ
leaves_behind [] a σ τ e = let same : σ ≡ τ = cc in ap (leaves a) same
leaves_behind (x ∷ front) a [] τ e = absurd cc
leaves_behind (x ∷ front) a (p ∷ σ) τ e = leads_on (next_of p x) front a σ τ (λ ρ. leaves_behind front a ρ τ) e

leads_moved : (p : Point) (o : Option (List Point)) (w : Option FaultKind) (x : Symbol) (xs : List Symbol) (σ : List Point) → ((ρ : List Point) → run xs ρ ≡ None → (rest : List Symbol) × (leaves xs ρ ≡ Some rest))
    → read_step points_automaton (Expected (expected_at p)) w (x ∷ xs) (run xs) (then_points o σ) ≡ None → (rest : List Symbol) × (leads o (leaves xs) σ ≡ Some rest)
leads_moved p None w x xs σ ih e = absurd cc
leads_moved p (Some points) (Some kind) x xs σ ih e = absurd cc
leads_moved p (Some points) None x xs σ ih e = ih (points ++ σ) e

pub leaves_read : (symbols : List Symbol) (σ : List Point) → run symbols σ ≡ None → (rest : List Symbol) × (leaves symbols σ ≡ Some rest)
leaves_read [] [] e = ([], refl)
leaves_read [] (p ∷ σ) e = absurd cc
leaves_read (x ∷ xs) [] e = (x ∷ xs, refl)
leaves_read (x ∷ xs) (p ∷ σ) e = leads_moved p (next_of p x) (wrong_at p x) x xs σ (leaves_read xs) e

-- ---- each point can be completed

abbrev pub sign_symbol : Sign → Symbol
sign_symbol sign.Equals = t.Equals
sign_symbol sign.Then = t.Then
sign_symbol sign.Of = t.Of
sign_symbol sign.End = t.End
sign_symbol sign.OpenCurly = t.OpenCurly
sign_symbol sign.Dollar = t.Dollar
sign_symbol sign.Colon = t.Colon
sign_symbol sign.Bar = t.Bar
sign_symbol sign.Else = t.Else
sign_symbol sign.CloseRound = t.CloseRound

abbrev wanted_text : ℕ → List Symbol → List Symbol
wanted_text zero rest = t.CloseCurly ∷ rest
wanted_text (suc k) rest = t.Variable [] ∷ wanted_text k rest

abbrev fields_end : Purpose → List Symbol → List Symbol
fields_end purpose.Use rest = t.CloseRound ∷ rest
fields_end purpose.Declare rest = t.CloseRound ∷ t.Then ∷ t.Skip ∷ t.Else ∷ rest

abbrev stmt_end : Stage → Closer → List Symbol → List Symbol
stmt_end Later c rest = closer_symbol c ∷ rest
stmt_end stage c rest = t.Skip ∷ closer_symbol c ∷ rest

abbrev pub point_text : Point → List Symbol → List Symbol
point_text (At stage c scope d) rest = stmt_end stage c rest
point_text (Here s) rest = sign_symbol s ∷ rest
point_text (Used scope) rest = t.Variable [] ∷ rest
point_text (LocalName scope d) rest = t.Variable [] ∷ t.In ∷ t.Skip ∷ t.End ∷ rest
point_text (LocalMore scope xs d) rest = t.In ∷ t.Skip ∷ t.End ∷ rest
point_text (ValueOf c scope d) rest = t.Integer None ∷ closer_symbol c ∷ rest
point_text (BehindVariable c scope d) rest = closer_symbol c ∷ rest
point_text (BehindAtom c scope d) rest = closer_symbol c ∷ rest
point_text (SelectionOf scope) rest = t.Integer None ∷ rest
point_text (FieldOf p scope d room before next) rest = fields_end p rest
point_text (FieldName p scope d room before next m) rest = t.Variable [] ∷ fields_end p rest
point_text (CallName scope) rest = t.Variable [] ∷ t.CloseCurly ∷ rest
point_text (Arguments scope n) rest = t.CloseCurly ∷ rest
point_text (Wanted scope k) rest = wanted_text k rest
point_text (PatternOf scope d) rest = t.Integer None ∷ t.Then ∷ t.Skip ∷ t.Else ∷ rest
point_text (BehindPattern scope d) rest = t.Then ∷ t.Skip ∷ t.Else ∷ rest
point_text (PatternTail scope d h) rest = t.Variable [] ∷ t.Then ∷ t.Skip ∷ t.Else ∷ rest
point_text (ProcName scope d) rest = t.Variable [] ∷ t.CloseCurly ∷ t.Skip ∷ t.End ∷ rest
point_text (Formals scope xs d) rest = t.CloseCurly ∷ t.Skip ∷ t.End ∷ rest
point_text SiteHere rest = t.Integer None ∷ rest
point_text (CatchName scope d) rest = t.Variable [] ∷ t.Then ∷ t.Skip ∷ t.End ∷ rest

pub no_name : (scope : Scope) → built_in_at scope [] ≡ None
unfolding built_in_at
no_name scope = elim (is_declared scope []) as (λ b. cond b None (built_in_of []) ≡ None) [ true ↦ refl | false ↦ refl ]

closer_leaves : (c : Closer) (scope : Scope) (d : ℕ) (rest : List Symbol) (σ : List Point) → leaves (closer_symbol c ∷ rest) (At Later c scope d ∷ σ) ≡ leaves rest σ
closer_leaves closer.End scope d rest σ = refl
closer_leaves closer.Else scope d rest σ = refl
closer_leaves closer.Catch scope d rest σ = refl
closer_leaves closer.EndOfText scope d rest σ = refl

variable_leaves : (c : Closer) (scope : Scope) (d : ℕ) (rest : List Symbol) (σ : List Point) → leaves (closer_symbol c ∷ rest) (BehindVariable c scope d ∷ σ) ≡ leaves rest σ
variable_leaves closer.End scope d rest σ = refl
variable_leaves closer.Else scope d rest σ = refl
variable_leaves closer.Catch scope d rest σ = refl
variable_leaves closer.EndOfText scope d rest σ = refl

atom_leaves : (c : Closer) (scope : Scope) (d : ℕ) (rest : List Symbol) (σ : List Point) → leaves (closer_symbol c ∷ rest) (BehindAtom c scope d ∷ σ) ≡ leaves rest σ
atom_leaves closer.End scope d rest σ = refl
atom_leaves closer.Else scope d rest σ = refl
atom_leaves closer.Catch scope d rest σ = refl
atom_leaves closer.EndOfText scope d rest σ = refl

wanted_leaves : (k : ℕ) (scope : Scope) (rest : List Symbol) (σ : List Point) → leaves (wanted_text k rest) (Wanted scope k ∷ σ) ≡ leaves rest σ
wanted_leaves zero scope rest σ = refl
wanted_leaves (suc k) scope rest σ = wanted_leaves k scope rest σ

pub completes : (p : Point) (rest : List Symbol) (σ : List Point) → leaves (point_text p rest) (p ∷ σ) ≡ leaves rest σ
completes (At First c scope d) rest σ = closer_leaves c scope d rest σ
completes (At AfterThread c scope d) rest σ = closer_leaves c scope d rest σ
completes (At Later c scope d) rest σ = closer_leaves c scope d rest σ
completes (Here sign.Equals) rest σ = refl
completes (Here sign.Then) rest σ = refl
completes (Here sign.Of) rest σ = refl
completes (Here sign.End) rest σ = refl
completes (Here sign.OpenCurly) rest σ = refl
completes (Here sign.Dollar) rest σ = refl
completes (Here sign.Colon) rest σ = refl
completes (Here sign.Bar) rest σ = refl
completes (Here sign.Else) rest σ = refl
completes (Here sign.CloseRound) rest σ = refl
completes (Used scope) rest σ = refl
completes (LocalName scope d) rest σ = refl
completes (LocalMore scope xs d) rest σ = refl
completes (ValueOf c scope d) rest σ = closer_leaves c scope d rest σ
completes (BehindVariable c scope d) rest σ = variable_leaves c scope d rest σ
completes (BehindAtom c scope d) rest σ = atom_leaves c scope d rest σ
completes (SelectionOf scope) rest σ = refl
completes (FieldOf purpose.Use scope d room before next) rest σ = refl
completes (FieldOf purpose.Declare scope d room before next) rest σ = refl
completes (FieldName purpose.Use scope d room before next m) rest σ = refl
completes (FieldName purpose.Declare scope d room before next m) rest σ = refl
completes (CallName scope) rest σ = ap (λ (o : Option BuiltIn). leaves (t.CloseCurly ∷ rest) (next_call scope o ++ σ)) (no_name scope)
completes (Arguments scope n) rest σ = refl
completes (Wanted scope k) rest σ = wanted_leaves k scope rest σ
completes (PatternOf scope d) rest σ = refl
completes (BehindPattern scope d) rest σ = refl
completes (PatternTail scope d h) rest σ = refl
completes (ProcName scope d) rest σ = refl
completes (Formals scope xs d) rest σ = refl
completes SiteHere rest σ = refl
completes (CatchName scope d) rest σ = refl

-- symbols that complete all of these points
abbrev pub completion : List Point → List Symbol
completion [] = []
completion (p ∷ σ) = point_text p (completion σ)

pub all_completes : (σ : List Point) → leaves (completion σ) σ ≡ Some []
all_completes [] = refl
all_completes (p ∷ σ) = completes p (completion σ) σ ∙ all_completes σ
