-- What the points take, faults left aside, and that some symbols complete each list of them that reading comes to.
use Rattle.std.proofs.Common.{◌≡◌, ◌∙◌, ℕ, zero, suc, ◌+◌, List, [], ◌∷◌, ◌++◌, Bool, true, false, cond, Option, Some, None, refl, sym, ap, subst, append_assoc}
use Rattle.tree_node.specs.declared.node.Feature.{Feature}
use Rattle.kernel_syntax.specs.declared.built_in.BuiltIn.{BuiltIn}
use Rattle.oz_grammar.specs.declared.symbol.Symbol.{Symbol}
use Rattle.oz_grammar.specs.declared.symbol.Symbol.TheVariants as t
use Rattle.oz_grammar.specs.declared.symbol.Sign.TheVariants as sign
use Rattle.oz_grammar.specs.Grammar.{FeatureToken, AtomFeature, IntFeature}
use Rattle.oz_grammar.specs.Scoping.{Scope, built_in_at, place_feature}
use Rattle.oz_grammar.specs.Faults.{fewer}
use Rattle.oz_grammar.specs.Points.{Stage, First, AfterThread, Later, is_sign, next_selection, on_variable, on_integer}
use Rattle.oz_grammar.specs.Automata.{onward, state_behind, then_points, or_points, is_done}
use Rattle.oz_grammar.proofs.Leaves.{sign_symbol, no_name}
use Rattle.surface_grammar.specs.declared.parts.CallUse.{CallUse}
use Rattle.surface_grammar.specs.declared.parts.CallUse.TheVariants.{AsValue, AsStatement}
use Rattle.surface_grammar.specs.declared.parts.Callable.{Callable}
use Rattle.surface_grammar.specs.declared.parts.Callable.TheVariants.{OfProc, OfFun}
use Rattle.surface_grammar.specs.Points.{Extent, Whole, Part, Rest, Branch, OfValue, OfStatements, Closing, Ends, BeforeElse, InClause, InTry, InHandler, WithText, Point, At, Here, LocalName, LocalMore, CallableName, Formals, ValueOf, OperandOf, TailOf, Behind, BehindAtom, SelectionOf, FieldOf, FieldBegun, CallName, Wanted, PatternOf, BehindPattern, PatternTail, PatternField, PatternName, ClauseEnd, SiteHere, CatchName, next_call, next, points_automaton}
use Rattle.surface_grammar.specs.Points as points
use Rattle.surface_grammar.proofs.Starts.{stops}
use Rattle.surface_grammar.proofs.Runs.{closes, closes_stops}

abbrev pub leads : (List Point → Option (List Symbol)) → Option (List Point) → Option (List Symbol)
leads on (Some points) = on points
leads on None = None

-- the symbols that are left once all points are taken
abbrev pub leaves : List Symbol → List Point → Option (List Symbol)
leaves symbols [] = Some symbols
leaves [] (p ∷ σ) = None
leaves (x ∷ xs) (p ∷ σ) = leads (leaves xs) (next (p ∷ σ) x)

-- ---- what is read is taken

leads_on : (o : Option (List Point)) (front a : List Symbol) (σ : List Point) → ((τ : List Point) → state_behind points_automaton front τ ≡ Some σ → leaves (front ++ a) τ ≡ leaves a σ) → onward (state_behind points_automaton front) o ≡ Some σ
    → leads (leaves (front ++ a)) o ≡ leaves a σ
leads_on None front a σ ih e = absurd cc
leads_on (Some τ) front a σ ih e = ih τ e

pub leaves_behind : (front a : List Symbol) (τ σ : List Point) → state_behind points_automaton front τ ≡ Some σ → leaves (front ++ a) τ ≡ leaves a σ
leaves_behind [] a τ σ e = let same : τ ≡ σ = cc in ap (leaves a) same
leaves_behind (x ∷ front) a [] σ e = absurd cc
leaves_behind (x ∷ front) a (p ∷ τ) σ e = leads_on (next (p ∷ τ) x) front a σ (λ ρ. leaves_behind front a ρ σ) e

-- ---- symbols that complete a point

abbrev closing_text : Closing → List Symbol → List Symbol
closing_text Ends rest = t.End ∷ rest
closing_text BeforeElse rest = t.Else ∷ rest
closing_text (InClause scope d) rest = t.Else ∷ t.Skip ∷ t.End ∷ rest
closing_text (InTry scope d) rest = t.Finally ∷ t.Skip ∷ t.End ∷ rest
closing_text (InHandler scope d) rest = t.End ∷ rest
closing_text WithText rest = t.EndOfText ∷ rest

abbrev statement_end : Stage → Closing → List Symbol → List Symbol
statement_end Later c rest = closing_text c rest
statement_end stage c rest = t.Skip ∷ closing_text c rest

abbrev formals_end : Callable → List Symbol → List Symbol
formals_end OfProc rest = t.CloseCurly ∷ t.Skip ∷ t.End ∷ rest
formals_end OfFun rest = t.CloseCurly ∷ t.Integer None ∷ t.End ∷ rest

abbrev branch_text : Branch → List Symbol → List Symbol
branch_text OfValue rest = t.Then ∷ t.Integer None ∷ t.Else ∷ t.Integer None ∷ t.End ∷ rest
branch_text OfStatements rest = t.Then ∷ t.Skip ∷ t.Else ∷ t.Skip ∷ t.End ∷ rest

abbrev wanted_text : ℕ → List Symbol → List Symbol
wanted_text zero rest = t.CloseCurly ∷ rest
wanted_text (suc k) rest = t.Integer None ∷ wanted_text k rest

abbrev pub point_text : Point → List Symbol → List Symbol
point_text (At stage c scope d) rest = statement_end stage c rest
point_text (Here s) rest = sign_symbol s ∷ rest
point_text (LocalName scope d) rest = t.Variable [] ∷ t.In ∷ t.Skip ∷ t.End ∷ rest
point_text (LocalMore scope xs d) rest = t.In ∷ t.Skip ∷ t.End ∷ rest
point_text (CallableName c scope d) rest = t.Variable [] ∷ formals_end c rest
point_text (Formals c scope xs d) rest = formals_end c rest
point_text (ValueOf scope d) rest = t.Integer None ∷ rest
point_text (OperandOf scope d) rest = t.Integer None ∷ rest
point_text (TailOf scope d) rest = t.Integer None ∷ rest
point_text (Behind extent scope d r) rest = rest
point_text (BehindAtom extent scope d) rest = rest
point_text (SelectionOf scope) rest = t.Integer None ∷ rest
point_text (FieldOf scope d room before nth) rest = t.CloseRound ∷ rest
point_text (FieldBegun scope d room before nth m) rest = t.CloseRound ∷ rest
point_text (CallName u scope d) rest = t.Variable [] ∷ t.CloseCurly ∷ rest
point_text (points.Arguments scope d n most) rest = t.CloseCurly ∷ rest
point_text (Wanted scope d k) rest = wanted_text k rest
point_text (PatternOf b scope d) rest = t.Integer None ∷ branch_text b rest
point_text (BehindPattern b scope d) rest = branch_text b rest
point_text (PatternTail b scope d h) rest = t.Variable [] ∷ branch_text b rest
point_text (PatternField b scope d room before nth) rest = t.CloseRound ∷ branch_text b rest
point_text (PatternName b scope d room before nth m) rest = t.Variable [] ∷ t.CloseRound ∷ branch_text b rest
point_text (ClauseEnd scope d) rest = t.Else ∷ t.Integer None ∷ t.End ∷ rest
point_text SiteHere rest = t.Integer None ∷ rest
point_text (CatchName scope d) rest = t.Variable [] ∷ t.Then ∷ t.Skip ∷ t.End ∷ rest

-- symbols that complete all of these points
abbrev pub completion : List Point → List Symbol
completion [] = []
completion (p ∷ σ) = point_text p (completion σ)

-- ---- lists of points that reading comes to

-- what completes these points goes on with no value before it
abbrev pub IsClosed : List Point → Type 0
IsClosed σ = (is_done σ ≡ false) × (closes (completion σ) ≡ true)

-- a value, or what may follow its first primary, stands before such points
abbrev pub IsReady : Point → List Point → Type 0
IsReady (ValueOf scope d) σ = IsClosed σ
IsReady (OperandOf scope d) σ = IsClosed σ
IsReady (TailOf scope d) σ = IsClosed σ
IsReady (Behind extent scope d r) σ = IsClosed σ
IsReady (BehindAtom extent scope d) σ = IsClosed σ
IsReady p σ = Unit {0}

abbrev pub IsStack : List Point → Type 0
IsStack [] = Unit {0}
IsStack (p ∷ σ) = IsReady p σ × IsStack σ

-- behind a primary
behind_leaves : (extent : Extent) (scope : Scope) (d r : ℕ) (rest : List Symbol) (σ : List Point) → is_done σ ≡ false → stops rest ≡ true → leaves rest (Behind extent scope d r ∷ σ) ≡ leaves rest σ
behind_leaves extent scope d r rest [] o e = absurd cc
behind_leaves extent scope d r [] (p ∷ σ) o e = absurd cc
behind_leaves extent scope d r (t.Dot ∷ rest) (p ∷ σ) o e = absurd cc
behind_leaves extent scope d r (t.Operator x ∷ rest) (p ∷ σ) o e = absurd cc
behind_leaves extent scope d r (t.Test x ∷ rest) (p ∷ σ) o e = absurd cc
behind_leaves extent scope d r (t.Bar ∷ rest) (p ∷ σ) o e = absurd cc
behind_leaves extent scope d r (t.Colon ∷ rest) (p ∷ σ) o e = absurd cc
behind_leaves Whole scope d r (s ∷ rest) (p ∷ σ) o e = refl
behind_leaves Part scope d r (s ∷ rest) (p ∷ σ) o e = refl
behind_leaves Rest scope d r (s ∷ rest) (p ∷ σ) o e = refl

atom_leaves : (extent : Extent) (scope : Scope) (d : ℕ) (rest : List Symbol) (σ : List Point) → is_done σ ≡ false → closes rest ≡ true → leaves rest (BehindAtom extent scope d ∷ σ) ≡ leaves rest σ
atom_leaves extent scope d rest [] o e = absurd cc
atom_leaves extent scope d [] (p ∷ σ) o e = absurd cc
atom_leaves extent scope d (t.Dot ∷ rest) (p ∷ σ) o e = absurd cc
atom_leaves extent scope d (t.Operator x ∷ rest) (p ∷ σ) o e = absurd cc
atom_leaves extent scope d (t.Test x ∷ rest) (p ∷ σ) o e = absurd cc
atom_leaves extent scope d (t.Bar ∷ rest) (p ∷ σ) o e = absurd cc
atom_leaves extent scope d (t.Colon ∷ rest) (p ∷ σ) o e = absurd cc
atom_leaves extent scope d (t.OpenRound ∷ rest) (p ∷ σ) o e = absurd cc
atom_leaves Whole scope d (s ∷ rest) (p ∷ σ) o e = refl
atom_leaves Part scope d (s ∷ rest) (p ∷ σ) o e = refl
atom_leaves Rest scope d (s ∷ rest) (p ∷ σ) o e = refl

closing_leaves : (c : Closing) (scope : Scope) (d : ℕ) (rest : List Symbol) (σ : List Point) → leaves (closing_text c rest) (At Later c scope d ∷ σ) ≡ leaves rest σ
closing_leaves Ends scope d rest σ = refl
closing_leaves BeforeElse scope d rest σ = refl
closing_leaves (InClause outer e) scope d rest σ = refl
closing_leaves (InTry outer e) scope d rest σ = refl
closing_leaves (InHandler outer e) scope d rest σ = refl
closing_leaves WithText scope d rest σ = refl

wanted_stops : (k : ℕ) (rest : List Symbol) → closes (wanted_text k rest) ≡ true
wanted_stops zero rest = refl
wanted_stops (suc k) rest = refl

wanted_leaves : (k : ℕ) (scope : Scope) (d : ℕ) (rest : List Symbol) (σ : List Point) → leaves (wanted_text k rest) (Wanted scope d k ∷ σ) ≡ leaves rest σ
wanted_leaves zero scope d rest σ = refl
wanted_leaves (suc k) scope d rest σ = behind_leaves Whole scope d (fewer d) (wanted_text k rest) (Wanted scope d k ∷ σ) refl (closes_stops (wanted_text k rest) (wanted_stops k rest)) ∙ wanted_leaves k scope d rest σ

call_leaves : (u : CallUse) (scope : Scope) (d : ℕ) (rest : List Symbol) (σ : List Point) → leaves (t.CloseCurly ∷ rest) (next_call u scope d None ++ σ) ≡ leaves rest σ
call_leaves AsValue scope d rest σ = refl
call_leaves AsStatement scope d rest σ = refl

completes : (p : Point) (σ : List Point) → IsReady p σ → leaves (point_text p (completion σ)) (p ∷ σ) ≡ leaves (completion σ) σ
completes (At First c scope d) σ h = closing_leaves c scope d (completion σ) σ
completes (At AfterThread c scope d) σ h = closing_leaves c scope d (completion σ) σ
completes (At Later c scope d) σ h = closing_leaves c scope d (completion σ) σ
completes (Here sign.Equals) σ h = refl
completes (Here sign.Then) σ h = refl
completes (Here sign.Of) σ h = refl
completes (Here sign.End) σ h = refl
completes (Here sign.OpenCurly) σ h = refl
completes (Here sign.Dollar) σ h = refl
completes (Here sign.Colon) σ h = refl
completes (Here sign.Bar) σ h = refl
completes (Here sign.Else) σ h = refl
completes (Here sign.CloseRound) σ h = refl
completes (LocalName scope d) σ h = refl
completes (LocalMore scope xs d) σ h = refl
completes (CallableName OfProc scope d) σ h = refl
completes (CallableName OfFun scope d) σ h = refl
completes (Formals OfProc scope xs d) σ h = refl
completes (Formals OfFun scope xs d) σ h = refl
completes (ValueOf scope d) σ h = behind_leaves Whole scope d (fewer d) (completion σ) σ h.0 (closes_stops (completion σ) h.1)
completes (OperandOf scope d) σ h = behind_leaves Part scope d (fewer d) (completion σ) σ h.0 (closes_stops (completion σ) h.1)
completes (TailOf scope d) σ h = behind_leaves Rest scope d (fewer d) (completion σ) σ h.0 (closes_stops (completion σ) h.1)
completes (Behind extent scope d r) σ h = behind_leaves extent scope d r (completion σ) σ h.0 (closes_stops (completion σ) h.1)
completes (BehindAtom extent scope d) σ h = atom_leaves extent scope d (completion σ) σ h.0 h.1
completes (SelectionOf scope) σ h = refl
completes (FieldOf scope d room before nth) σ h = refl
completes (FieldBegun scope d room before nth (AtomFeature a)) σ h = refl
completes (FieldBegun scope d room before nth (IntFeature n)) σ h = refl
completes (CallName u scope d) σ h = ap (λ (o : Option BuiltIn). leaves (t.CloseCurly ∷ completion σ) (next_call u scope d o ++ σ)) (no_name scope) ∙ call_leaves u scope d (completion σ) σ
completes (points.Arguments scope d n most) σ h = refl
completes (Wanted scope d k) σ h = wanted_leaves k scope d (completion σ) σ
completes (PatternOf OfValue scope d) σ h = refl
completes (PatternOf OfStatements scope d) σ h = refl
completes (BehindPattern OfValue scope d) σ h = refl
completes (BehindPattern OfStatements scope d) σ h = refl
completes (PatternTail OfValue scope d x) σ h = refl
completes (PatternTail OfStatements scope d x) σ h = refl
completes (PatternField OfValue scope d room before nth) σ h = refl
completes (PatternField OfStatements scope d room before nth) σ h = refl
completes (PatternName OfValue scope d room before nth m) σ h = refl
completes (PatternName OfStatements scope d room before nth m) σ h = refl
completes (ClauseEnd scope d) σ h = refl
completes SiteHere σ h = refl
completes (CatchName scope d) σ h = refl

pub all_completes : (σ : List Point) → IsStack σ → leaves (completion σ) σ ≡ Some []
all_completes [] h = refl
all_completes (p ∷ σ) h = completes p σ h.0 ∙ all_completes σ h.1

-- ---- where symbols lead, from such points

-- these points before others, if there are some
abbrev Stacks : Option (List Point) → List Point → Type 0
Stacks None σ = Unit {0}
Stacks (Some ps) σ = IsStack (ps ++ σ)

abbrev pub OnStack : Option (List Point) → Type 0
OnStack None = Unit {0}
OnStack (Some σ) = IsStack σ

on_then : (o : Option (List Point)) (σ : List Point) → Stacks o σ → OnStack (then_points o σ)
on_then None σ h = tt
on_then (Some ps) σ h = h

on_either : (o p : Option (List Point)) → OnStack o → OnStack p → OnStack (or_points o p)
on_either None p g h = h
on_either (Some σ) p g h = g

then_stacks : (o : Option (List Point)) (others σ : List Point) → Stacks o (others ++ σ) → Stacks (then_points o others) σ
then_stacks None others σ h = tt
then_stacks (Some ps) others σ h = subst IsStack (sym (append_assoc ps others σ)) h

either_stacks : (o p : Option (List Point)) (σ : List Point) → Stacks o σ → Stacks p σ → Stacks (or_points o p) σ
either_stacks None p σ g h = h
either_stacks (Some ps) p σ g h = g

primary_stacks : (extent : Extent) (scope : Scope) (d : ℕ) (x : Symbol) (σ : List Point) → IsClosed σ → IsStack σ → Stacks (points.next_primary extent scope d x) σ
primary_stacks extent scope d (t.Variable x) σ c h = (c, h)
primary_stacks extent scope d (t.Integer n) σ c h = (c, h)
primary_stacks extent scope d (t.Atom a) σ c h = (c, h)
primary_stacks extent scope d t.OpenCurly σ c h = (tt, (c, h))
primary_stacks extent scope d t.Proc σ c h = (tt, (tt, (tt, (c, h))))
primary_stacks extent scope d t.Fun σ c h = (tt, (tt, (tt, (c, h))))
primary_stacks extent scope d t.OpenRound σ c h = ((refl, refl), (tt, (c, h)))
primary_stacks extent scope d x σ c h = tt

value_stacks : (scope : Scope) (d : ℕ) (x : Symbol) (σ : List Point) → IsClosed σ → IsStack σ → Stacks (points.next_value scope d x) σ
value_stacks scope d t.If σ c h = ((refl, refl), (tt, ((refl, refl), (tt, ((refl, refl), (tt, h))))))
value_stacks scope d t.Case σ c h = ((refl, refl), (tt, (tt, h)))
value_stacks scope d x σ c h = primary_stacks Whole scope d x σ c h

behind_stacks : (extent : Extent) (scope : Scope) (d r : ℕ) (x : Symbol) (σ : List Point) → IsClosed σ → IsStack σ → Stacks (points.next_behind extent scope d r x) σ
behind_stacks extent scope d r t.Dot σ c h = (tt, (c, h))
behind_stacks Whole scope d r (t.Operator o) σ c h = (c, h)
behind_stacks Whole scope d r (t.Test o) σ c h = (c, h)
behind_stacks Whole scope d r t.Bar σ c h = (c, h)
behind_stacks Rest scope d r t.Bar σ c h = (c, h)
behind_stacks Whole scope d r x σ c h = tt
behind_stacks Part scope d r x σ c h = tt
behind_stacks Rest scope d r x σ c h = tt

atom_stacks : (extent : Extent) (scope : Scope) (d : ℕ) (x : Symbol) (σ : List Point) → IsClosed σ → IsStack σ → Stacks (points.next_atom extent scope d x) σ
atom_stacks extent scope d t.OpenRound σ c h = (tt, (c, h))
atom_stacks extent scope d x σ c h = behind_stacks extent scope d (fewer d) x σ c h

field_stacks : (scope : Scope) (d room : ℕ) (before : List Feature) (nth : ℕ) (x : Symbol) (σ : List Point) → IsStack σ → Stacks (points.next_field scope d room before nth x) σ
field_stacks scope d room before nth t.CloseRound σ h = h
field_stacks scope d room before nth (t.Atom a) σ h = (tt, h)
field_stacks scope d room before nth (t.Integer n) σ h = (tt, h)
field_stacks scope d room before nth x σ h = then_stacks (points.next_value scope d x) (points.behind_placed scope d room before nth) σ (value_stacks scope d x (points.behind_placed scope d room before nth ++ σ) (refl, refl) (tt, h))

begun_value_stacks : (scope : Scope) (d : ℕ) (m : FeatureToken) (x : Symbol) (σ : List Point) → IsClosed σ → IsStack σ → Stacks (points.next_begun_value scope d m x) σ
begun_value_stacks scope d (AtomFeature a) x σ c h = atom_stacks Whole scope d x σ c h
begun_value_stacks scope d (IntFeature n) x σ c h = behind_stacks Whole scope d (fewer d) x σ c h

begun_stacks : (scope : Scope) (d room : ℕ) (before : List Feature) (nth : ℕ) (m : FeatureToken) (x : Symbol) (σ : List Point) → IsStack σ → Stacks (points.next_begun scope d room before nth m x) σ
begun_stacks scope d room before nth m t.Colon σ h = ((refl, refl), (tt, h))
begun_stacks scope d room before nth m x σ h =
    then_stacks (points.next_begun_value scope d m x) (points.behind_placed scope d room before nth) σ (begun_value_stacks scope d m x (points.behind_placed scope d room before nth ++ σ) (refl, refl) (tt, h))

argument_stacks : (scope : Scope) (d n most : ℕ) (x : Symbol) (σ : List Point) → IsStack σ → Stacks (points.next_argument scope d n most x) σ
argument_stacks scope d n most t.CloseCurly σ h = h
argument_stacks scope d n most x σ h =
    then_stacks (points.next_value scope d x) (points.Arguments scope d (n + 1) most ∷ []) σ (value_stacks scope d x (points.Arguments scope d (n + 1) most ∷ σ) (refl, refl) (tt, h))

wanted_stacks : (scope : Scope) (d k : ℕ) (x : Symbol) (σ : List Point) → IsStack σ → Stacks (points.next_wanted scope d k x) σ
wanted_stacks scope d zero t.CloseCurly σ h = h
wanted_stacks scope d zero x σ h = tt
wanted_stacks scope d (suc k) x σ h = then_stacks (points.next_value scope d x) (Wanted scope d k ∷ []) σ (value_stacks scope d x (Wanted scope d k ∷ σ) (refl, wanted_stops k (completion σ)) (tt, h))

call_stacks : (u : CallUse) (scope : Scope) (d : ℕ) (o : Option BuiltIn) (σ : List Point) → IsStack σ → IsStack (next_call u scope d o ++ σ)
call_stacks AsValue scope d None σ h = (tt, h)
call_stacks AsStatement scope d None σ h = (tt, h)
call_stacks AsValue scope d (Some b) σ h = (tt, h)
call_stacks AsStatement scope d (Some b) σ h = (tt, h)

clause_stack : (b : Branch) (outer scope : Scope) (d : ℕ) (σ : List Point) → IsStack σ → IsStack (points.clause_points b outer scope d ++ σ)
clause_stack OfValue outer scope d σ h = ((refl, refl), (tt, h))
clause_stack OfStatements outer scope d σ h = (tt, h)

pattern_stacks : (b : Branch) (scope : Scope) (d : ℕ) (x : Symbol) (σ : List Point) → IsStack σ → Stacks (points.next_pattern b scope d x) σ
pattern_stacks b scope d (t.Integer n) σ h = (tt, clause_stack b scope scope d σ h)
pattern_stacks b scope d (t.Atom a) σ h = (tt, h)
pattern_stacks b scope d (t.Variable y) σ h = (tt, (tt, h))
pattern_stacks b scope d x σ h = tt

behind_pattern_stacks : (b : Branch) (scope : Scope) (d : ℕ) (x : Symbol) (σ : List Point) → IsStack σ → Stacks (points.next_behind_pattern b scope d x) σ
behind_pattern_stacks b scope d t.OpenRound σ h = (tt, h)
behind_pattern_stacks b scope d t.Then σ h = clause_stack b scope scope d σ h
behind_pattern_stacks b scope d x σ h = tt

pattern_field_stacks : (b : Branch) (scope : Scope) (d room : ℕ) (before : _) (nth : ℕ) (x : Symbol) (σ : List Point) → IsStack σ → Stacks (points.next_pattern_field b scope d room before nth x) σ
pattern_field_stacks b scope d room before nth t.CloseRound σ h = (tt, clause_stack b scope _ d σ h)
pattern_field_stacks b scope d room before nth (t.Variable y) σ h = (tt, h)
pattern_field_stacks b scope d room before nth (t.Atom a) σ h = (tt, (tt, h))
pattern_field_stacks b scope d room before nth (t.Integer n) σ h = (tt, (tt, h))
pattern_field_stacks b scope d room before nth x σ h = tt

clause_end_stacks : (scope : Scope) (d : ℕ) (x : Symbol) (σ : List Point) → IsStack σ → Stacks (points.next_clause_end scope d x) σ
clause_end_stacks scope d t.Clause σ h = (tt, h)
clause_end_stacks scope d t.Else σ h = ((refl, refl), (tt, h))
clause_end_stacks scope d x σ h = tt

closing_stacks : (c : Closing) (x : Symbol) (σ : List Point) → IsStack σ → Stacks (points.next_closing c x) σ
closing_stacks Ends t.End σ h = h
closing_stacks Ends x σ h = tt
closing_stacks BeforeElse t.Else σ h = h
closing_stacks BeforeElse x σ h = tt
closing_stacks (InClause scope d) t.Clause σ h = (tt, h)
closing_stacks (InClause scope d) t.Else σ h = (tt, h)
closing_stacks (InClause scope d) x σ h = tt
closing_stacks (InTry scope d) t.Catch σ h = (tt, h)
closing_stacks (InTry scope d) t.Finally σ h = (tt, h)
closing_stacks (InTry scope d) x σ h = tt
closing_stacks (InHandler scope d) t.End σ h = h
closing_stacks (InHandler scope d) t.Finally σ h = (tt, h)
closing_stacks (InHandler scope d) x σ h = tt
closing_stacks WithText t.EndOfText σ h = h
closing_stacks WithText x σ h = tt

later_closes : (c : Closing) (rest : List Symbol) → closes (closing_text c rest) ≡ true
later_closes Ends rest = refl
later_closes BeforeElse rest = refl
later_closes (InClause scope d) rest = refl
later_closes (InTry scope d) rest = refl
later_closes (InHandler scope d) rest = refl
later_closes WithText rest = refl

first_stacks : (c : Closing) (scope : Scope) (d : ℕ) (x : Symbol) (σ : List Point) → IsStack σ → Stacks (points.next_first c scope d x) σ
first_stacks c scope d t.Skip σ h = (tt, h)
first_stacks c scope d (t.Variable x) σ h = (tt, ((refl, later_closes c (completion σ)), (tt, h)))
first_stacks c scope d t.OpenCurly σ h = (tt, (tt, h))
first_stacks c scope d t.Raise σ h = ((refl, refl), (tt, (tt, h)))
first_stacks c scope d t.Local σ h = (tt, (tt, h))
first_stacks c scope d t.Proc σ h = (tt, (tt, (tt, h)))
first_stacks c scope d t.Fun σ h = (tt, (tt, (tt, h)))
first_stacks c scope d t.Thread σ h = (tt, (tt, h))
first_stacks c scope d t.If σ h = ((refl, refl), (tt, (tt, (tt, (tt, h)))))
first_stacks c scope d t.Case σ h = ((refl, refl), (tt, (tt, (tt, h))))
first_stacks c scope d t.Try σ h = (tt, (tt, h))
first_stacks c scope d x σ h = tt

beside_stacks : (stage : Stage) (c : Closing) (scope : Scope) (d : ℕ) (x : Symbol) (σ : List Point) → IsStack σ → Stacks (points.beside stage c scope d x) σ
beside_stacks First c scope d x σ h = tt
beside_stacks AfterThread c scope d t.At σ h = (tt, (tt, h))
beside_stacks AfterThread c scope d x σ h = tt
beside_stacks Later c scope d x σ h = closing_stacks c x σ h

local_stacks : (scope : Scope) (xs : _) (d : ℕ) (x : Symbol) (σ : List Point) → IsStack σ → Stacks (points.next_local scope xs d x) σ
local_stacks scope xs d (t.Variable x) σ h = (tt, h)
local_stacks scope xs d t.In σ h = (tt, h)
local_stacks scope xs d x σ h = tt

body_stack : (c : Callable) (scope : Scope) (d : ℕ) (σ : List Point) → IsStack σ → IsStack (points.body_points c scope d ++ σ)
body_stack OfProc scope d σ h = (tt, h)
body_stack OfFun scope d σ h = ((refl, refl), (tt, h))

formal_stacks : (c : Callable) (scope : Scope) (xs : _) (d : ℕ) (x : Symbol) (σ : List Point) → IsStack σ → Stacks (points.next_formal c scope xs d x) σ
formal_stacks c scope xs d (t.Variable x) σ h = (tt, h)
formal_stacks c scope xs d t.CloseCurly σ h = body_stack c _ d σ h
formal_stacks c scope xs d x σ h = tt

variable_stacks : (on : _ → List Point) (x : Symbol) (σ : List Point) → ((y : _) → IsStack (on y ++ σ)) → Stacks (on_variable on x) σ
variable_stacks on (t.Variable y) σ h = h y
variable_stacks on x σ h = tt

integer_stacks : (on : List Point) (x : Symbol) (σ : List Point) → IsStack (on ++ σ) → Stacks (on_integer on x) σ
integer_stacks on (t.Integer n) σ h = h
integer_stacks on x σ h = tt

dot_stacks : (x : Symbol) (σ : List Point) → IsStack σ → Stacks (next_selection x) σ
dot_stacks (t.Variable y) σ h = h
dot_stacks (t.Atom a) σ h = h
dot_stacks (t.Integer n) σ h = h
dot_stacks x σ h = tt

sign_stacks : (b : Bool) (σ : List Point) → IsStack σ → Stacks (cond b (Some []) None) σ
sign_stacks true σ h = h
sign_stacks false σ h = tt

point_stacks : (p : Point) (x : Symbol) (σ : List Point) → IsReady p σ → IsStack σ → Stacks (points.next_of p x) σ
point_stacks (At stage c scope d) x σ r h = either_stacks (points.next_first c scope d x) (points.beside stage c scope d x) σ (first_stacks c scope d x σ h) (beside_stacks stage c scope d x σ h)
point_stacks (Here s) x σ r h = sign_stacks (is_sign s x) σ h
point_stacks (LocalName scope d) x σ r h = variable_stacks _ x σ (λ y. (tt, h))
point_stacks (LocalMore scope xs d) x σ r h = local_stacks scope xs d x σ h
point_stacks (CallableName c scope d) x σ r h = variable_stacks _ x σ (λ y. (tt, h))
point_stacks (Formals c scope xs d) x σ r h = formal_stacks c scope xs d x σ h
point_stacks (ValueOf scope d) x σ r h = value_stacks scope d x σ r h
point_stacks (OperandOf scope d) x σ r h = primary_stacks Part scope d x σ r h
point_stacks (TailOf scope d) x σ r h = primary_stacks Rest scope d x σ r h
point_stacks (Behind extent scope d k) x σ r h = behind_stacks extent scope d k x σ r h
point_stacks (BehindAtom extent scope d) x σ r h = atom_stacks extent scope d x σ r h
point_stacks (SelectionOf scope) x σ r h = dot_stacks x σ h
point_stacks (FieldOf scope d room before nth) x σ r h = field_stacks scope d room before nth x σ h
point_stacks (FieldBegun scope d room before nth m) x σ r h = begun_stacks scope d room before nth m x σ h
point_stacks (CallName u scope d) x σ r h = variable_stacks _ x σ (λ y. call_stacks u scope d (built_in_at scope y) σ h)
point_stacks (points.Arguments scope d n most) x σ r h = argument_stacks scope d n most x σ h
point_stacks (Wanted scope d k) x σ r h = wanted_stacks scope d k x σ h
point_stacks (PatternOf b scope d) x σ r h = pattern_stacks b scope d x σ h
point_stacks (BehindPattern b scope d) x σ r h = behind_pattern_stacks b scope d x σ h
point_stacks (PatternTail b scope d y) x σ r h = variable_stacks _ x σ (λ z. (tt, clause_stack b scope _ d σ h))
point_stacks (PatternField b scope d room before nth) x σ r h = pattern_field_stacks b scope d room before nth x σ h
point_stacks (PatternName b scope d room before nth m) x σ r h = variable_stacks _ x σ (λ y. (tt, h))
point_stacks (ClauseEnd scope d) x σ r h = clause_end_stacks scope d x σ h
point_stacks SiteHere x σ r h = integer_stacks [] x σ h
point_stacks (CatchName scope d) x σ r h = variable_stacks _ x σ (λ y. (tt, (tt, h)))

-- a symbol leads from a stack to a stack
pub next_stack : (σ : List Point) (x : Symbol) → IsStack σ → OnStack (next σ x)
next_stack [] x h = tt
next_stack (Behind extent scope d r ∷ σ) x h =
    on_either (then_points (points.next_behind extent scope d r x) σ) (next σ x) (on_then (points.next_behind extent scope d r x) σ (behind_stacks extent scope d r x σ h.0 h.1)) (next_stack σ x h.1)
next_stack (BehindAtom extent scope d ∷ σ) x h =
    on_either (then_points (points.next_atom extent scope d x) σ) (next σ x) (on_then (points.next_atom extent scope d x) σ (atom_stacks extent scope d x σ h.0 h.1)) (next_stack σ x h.1)
next_stack (FieldBegun scope d room before nth m ∷ σ) x h =
    on_either (then_points (points.next_begun scope d room before nth m x) σ) (then_points (points.next_field scope d (fewer room) (place_feature nth ∷ before) (nth + 1) x) σ)
    (on_then (points.next_begun scope d room before nth m x) σ (begun_stacks scope d room before nth m x σ h.1))
    (on_then (points.next_field scope d (fewer room) (place_feature nth ∷ before) (nth + 1) x) σ (field_stacks scope d (fewer room) (place_feature nth ∷ before) (nth + 1) x σ h.1))
next_stack (p ∷ σ) x h = on_then (points.next_of p x) σ (point_stacks p x σ h.0 h.1)

stack_on : (o : Option (List Point)) (front : List Symbol) (σ : List Point) → OnStack o → ((τ : List Point) → IsStack τ → state_behind points_automaton front τ ≡ Some σ → IsStack σ) → onward (state_behind points_automaton front) o ≡ Some σ → IsStack σ
stack_on None front σ h ih e = absurd cc
stack_on (Some τ) front σ h ih e = ih τ h e

-- reading comes to stacks
pub stack_behind : (front : List Symbol) (τ σ : List Point) → IsStack τ → state_behind points_automaton front τ ≡ Some σ → IsStack σ
stack_behind [] τ σ h e = let same : τ ≡ σ = cc in subst IsStack same h
stack_behind (x ∷ front) τ σ h e = stack_on (next τ x) front σ (next_stack τ x h) (λ ρ g. stack_behind front ρ σ g) e
