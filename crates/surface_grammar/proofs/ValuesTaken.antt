-- What the points take is derived: values, where shorter values and statements are.
use Rattle.std.proofs.Common.{◌≡◌, ◌∙◌, ℕ, ◌<◌, ◌≤◌, List, [], ◌∷◌, ◌++◌, ◌⊎◌, length, true, false, Option, Some, None, refl, sym, ap, subst, append_assoc, arith}
use Rattle.std.specs.Prelude.{◌-◌, ◌&&◌}
use Rattle.tree_node.specs.declared.node.Feature.{Feature}
use Rattle.kernel_syntax.specs.declared.built_in.BuiltIn.{BuiltIn}
use Rattle.kernel_syntax.specs.declared.built_in.BuiltIn.TheVariants as built
use Rattle.kernel_syntax.specs.BuiltIns.{arity_of}
use Rattle.oz_grammar.specs.declared.symbol.Symbol.{Symbol}
use Rattle.oz_grammar.specs.declared.symbol.Symbol.TheVariants as t
use Rattle.oz_grammar.specs.declared.symbol.Sign.{Sign}
use Rattle.oz_grammar.specs.declared.symbol.Sign.TheVariants as sign
use Rattle.oz_grammar.specs.Grammar.{AtomFeature, IntFeature, ByVariable, ByFeature, Pattern, pattern_text}
use Rattle.oz_grammar.specs.Scoping.{Scope, built_in_at, pattern_names}
use Rattle.oz_grammar.specs.Faults.{fewer}
use Rattle.oz_grammar.specs.Points.{First, Later}
use Rattle.oz_grammar.proofs.Leaves.{sign_symbol}
use Rattle.oz_grammar.proofs.Parts.{never, curly_text}
use Rattle.surface_grammar.specs.Derivations.{Primary, Variable, Integer, Atom, Record, Calls, Procedure, Function, Brackets, Selects, Tail, Value, Arguments, ValueClauses, Clauses, Sequence, primary_text, tail_text, value_text, arguments_text, fields_text, value_clauses_text, clauses_text, sequence_text, is_atom, tail_ends_in_atom, begins_round, StaysBare, count_arguments, LacksOneArgument, PrimaryDerives, TailDerives, ValueDerives, ArgumentsDerive, FieldsDerive, ValueClausesDerive, ClausesDerive, SequenceDerives}
use Rattle.surface_grammar.specs.Derivations as tree
use Rattle.oz_grammar.specs.Automata.{then_points}
use Rattle.surface_grammar.specs.declared.parts.CallUse.TheVariants.{AsValue}
use Rattle.surface_grammar.specs.declared.parts.Callable.TheVariants.{OfProc, OfFun}
use Rattle.surface_grammar.specs.Points.{Extent, Whole, Part, Rest, OfValue, OfStatements, Closing, Ends, Point, At, Here, Formals, ValueOf, OperandOf, TailOf, Behind, BehindAtom, FieldOf, CallName, Wanted, PatternOf, next_primary, next_call, next_closing}
use Rattle.surface_grammar.specs.Points as points
use Rattle.surface_grammar.proofs.Starts.{is_no_dot}
use Rattle.surface_grammar.proofs.Leaves.{leads, leaves}
use Rattle.surface_grammar.proofs.Taken.{sign_taken, formals_taken}

-- ---- what is taken

pub record ValueTaken (scope : Scope) (σ : List Point) (symbols out : List Symbol) : Type 0 where
  pub value : Value
  pub rest : List Symbol
  pub is : symbols ≡ value_text value rest
  pub derives : ValueDerives value scope
  pub bare : StaysBare value rest
  pub on : leaves rest σ ≡ Some out
  pub shorter : length rest < length symbols

pub record PrimaryTaken (scope : Scope) (σ : List Point) (symbols out : List Symbol) : Type 0 where
  pub primary : Primary
  pub rest : List Symbol
  pub is : symbols ≡ primary_text primary rest
  pub derives : PrimaryDerives primary scope
  pub bare : (is_atom primary && begins_round rest) ≡ false
  pub on : leaves rest σ ≡ Some out
  pub shorter : length rest < length symbols

pub record TailTaken (scope : Scope) (σ : List Point) (symbols out : List Symbol) : Type 0 where
  pub tail : Tail
  pub rest : List Symbol
  pub is : symbols ≡ tail_text tail rest
  pub derives : TailDerives tail scope
  pub bare : (tail_ends_in_atom tail && begins_round rest) ≡ false
  pub on : leaves rest σ ≡ Some out
  pub shorter : length rest < length symbols

pub record ArgumentsTaken (scope : Scope) (σ : List Point) (symbols out : List Symbol) : Type 0 where
  pub arguments : Arguments
  pub rest : List Symbol
  pub is : symbols ≡ arguments_text arguments (t.CloseCurly ∷ rest)
  pub derives : ArgumentsDerive arguments scope
  pub on : leaves rest σ ≡ Some out
  pub shorter : length rest < length symbols

-- k of them
pub record WantedTaken (k : ℕ) (scope : Scope) (σ : List Point) (symbols out : List Symbol) : Type 0 where
  pub taken : ArgumentsTaken scope σ symbols out
  pub all : count_arguments taken.arguments ≡ k

pub record FieldsTaken (scope : Scope) (σ : List Point) (symbols out : List Symbol) : Type 0 where
  pub fields : tree.Fields
  pub rest : List Symbol
  pub is : symbols ≡ fields_text fields (t.CloseRound ∷ rest)
  pub derives : FieldsDerive fields scope
  pub on : leaves rest σ ≡ Some out
  pub shorter : length rest < length symbols

-- clauses of values, from the first pattern on, up to the value behind `else`
pub record ValueClausesTaken (scope : Scope) (d : ℕ) (σ : List Point) (symbols out : List Symbol) : Type 0 where
  pub pattern : Pattern
  pub value : Value
  pub others : ValueClauses
  pub rest : List Symbol
  pub is : symbols ≡ pattern_text pattern (t.Then ∷ value_text value (value_clauses_text others (t.Else ∷ rest)))
  pub derives : ValueDerives value (scope ++ pattern_names pattern)
  pub others_derive : ValueClausesDerive others scope
  pub on : leaves rest (ValueOf scope d ∷ Here sign.End ∷ σ) ≡ Some out
  pub shorter : length rest < length symbols

-- clauses of statements likewise
pub record ClausesTaken (scope : Scope) (d : ℕ) (σ : List Point) (symbols out : List Symbol) : Type 0 where
  pub pattern : Pattern
  pub sequence : Sequence
  pub others : Clauses
  pub rest : List Symbol
  pub is : symbols ≡ pattern_text pattern (t.Then ∷ sequence_text sequence (clauses_text others (t.Else ∷ rest)))
  pub derives : SequenceDerives sequence (scope ++ pattern_names pattern)
  pub others_derive : ClausesDerive others scope
  pub on : leaves rest (At First Ends scope d ∷ σ) ≡ Some out
  pub shorter : length rest < length symbols

-- statements, the symbol that closes them, and the points that follow that
pub record SequenceTaken (c : Closing) (scope : Scope) (σ : List Point) (symbols out : List Symbol) : Type 0 where
  pub sequence : Sequence
  pub closer : Symbol
  pub rest : List Symbol
  pub follow : List Point
  pub closes : next_closing c closer ≡ Some follow
  pub is : symbols ≡ sequence_text sequence (closer ∷ rest)
  pub derives : SequenceDerives sequence scope
  pub on : leaves rest (follow ++ σ) ≡ Some out
  pub shorter : length rest < length symbols

-- What the points take is derived where it has fewer than n symbols.
pub record Laws (n : ℕ) : Type 0 where
  pub value : (symbols : List Symbol) (scope : Scope) (d : ℕ) (σ : List Point) (out : List Symbol) → length symbols < n → leaves symbols (ValueOf scope d ∷ σ) ≡ Some out → ValueTaken scope σ symbols out
  pub operand : (symbols : List Symbol) (scope : Scope) (d : ℕ) (σ : List Point) (out : List Symbol) → length symbols < n → leaves symbols (OperandOf scope d ∷ σ) ≡ Some out → PrimaryTaken scope σ symbols out
  pub tail : (symbols : List Symbol) (scope : Scope) (d : ℕ) (σ : List Point) (out : List Symbol) → length symbols < n → leaves symbols (TailOf scope d ∷ σ) ≡ Some out → TailTaken scope σ symbols out
  pub arguments : (symbols : List Symbol) (scope : Scope) (d k most : ℕ) (σ : List Point) (out : List Symbol) → length symbols < n → leaves symbols (points.Arguments scope d k most ∷ σ) ≡ Some out → ArgumentsTaken scope σ symbols out
  pub wanted : (symbols : List Symbol) (scope : Scope) (d k : ℕ) (σ : List Point) (out : List Symbol) → length symbols < n → leaves symbols (Wanted scope d k ∷ σ) ≡ Some out → WantedTaken k scope σ symbols out
  pub fields : (symbols : List Symbol) (scope : Scope) (d room : ℕ) (before : List Feature) (nth : ℕ) (σ : List Point) (out : List Symbol) → length symbols < n → leaves symbols (FieldOf scope d room before nth ∷ σ) ≡ Some out → FieldsTaken scope σ symbols out
  pub value_clauses : (symbols : List Symbol) (scope : Scope) (d : ℕ) (σ : List Point) (out : List Symbol) → length symbols < n → leaves symbols (PatternOf OfValue scope d ∷ σ) ≡ Some out → ValueClausesTaken scope d σ symbols out
  pub clauses : (symbols : List Symbol) (scope : Scope) (d : ℕ) (σ : List Point) (out : List Symbol) → length symbols < n → leaves symbols (PatternOf OfStatements scope d ∷ σ) ≡ Some out → ClausesTaken scope d σ symbols out
  pub sequence : (symbols : List Symbol) (c : Closing) (scope : Scope) (d : ℕ) (σ : List Point) (out : List Symbol) → length symbols < n → leaves symbols (At First c scope d ∷ σ) ≡ Some out → SequenceTaken c scope σ symbols out
  -- behind a statement: what closes the sequence, or more statements
  pub later : (symbols : List Symbol) (c : Closing) (scope : Scope) (d : ℕ) (σ : List Point) (out : List Symbol) → length symbols < n → leaves symbols (At Later c scope d ∷ σ) ≡ Some out
      → ((closer : Symbol) × (rest : List Symbol) × (follow : List Point) × (next_closing c closer ≡ Some follow) × (symbols ≡ closer ∷ rest) × (leaves rest (follow ++ σ) ≡ Some out)) ⊎ SequenceTaken c scope σ symbols out

-- ---- a value or statements, and one symbol

pub record ValueThen (s : Sign) (scope : Scope) (σ : List Point) (symbols out : List Symbol) : Type 0 where
  pub value : Value
  pub rest : List Symbol
  pub is : symbols ≡ value_text value (sign_symbol s ∷ rest)
  pub derives : ValueDerives value scope
  pub on : leaves rest σ ≡ Some out
  pub shorter : length rest < length symbols

pub value_then : (n : ℕ) → Laws n → (s : Sign) (symbols : List Symbol) (scope : Scope) (d : ℕ) (σ : List Point) (out : List Symbol) → length symbols < n → leaves symbols (ValueOf scope d ∷ Here s ∷ σ) ≡ Some out → ValueThen s scope σ symbols out
value_then n law s symbols scope d σ out lt h =
    let k = law.value symbols scope d (Here s ∷ σ) out lt h in
    let m = sign_taken s k.rest σ out k.on in
    record {
      value = k.value;
      rest = m.rest;
      is = k.is ∙ ap (value_text k.value) m.is;
      derives = k.derives;
      on = m.on;
      shorter = (let a = k.shorter in let b = m.shorter in omega (arith, a, b));
    }

pub record EndTaken (scope : Scope) (σ : List Point) (symbols out : List Symbol) : Type 0 where
  pub sequence : Sequence
  pub rest : List Symbol
  pub is : symbols ≡ sequence_text sequence (t.End ∷ rest)
  pub derives : SequenceDerives sequence scope
  pub on : leaves rest σ ≡ Some out
  pub shorter : length rest < length symbols

ends_by : (y : Symbol) (follow : List Point) → next_closing Ends y ≡ Some follow → (y ≡ t.End) × (follow ≡ [])
ends_by t.End follow e = let same : [] ≡ follow = cc in (refl, sym same)
ends_by y follow e = absurd cc

pub end_taken : (n : ℕ) → Laws n → (symbols : List Symbol) (scope : Scope) (d : ℕ) (σ : List Point) (out : List Symbol) → length symbols < n → leaves symbols (At First Ends scope d ∷ σ) ≡ Some out → EndTaken scope σ symbols out
end_taken n law symbols scope d σ out lt h =
    let k = law.sequence symbols Ends scope d σ out lt h in
    let e = ends_by k.closer k.follow k.closes in
    record {
      sequence = k.sequence;
      rest = k.rest;
      is = k.is ∙ ap (λ (y : Symbol). sequence_text k.sequence (y ∷ k.rest)) e.0;
      derives = k.derives;
      on = subst (λ (f : List Point). leaves k.rest (f ++ σ) ≡ Some out) e.1 k.on;
      shorter = k.shorter;
    }

-- ---- the first primary of a value

-- these points before others, if there are some
abbrev pub leads_to : List Symbol → List Point → Option (List Point) → Option (List Symbol)
leads_to xs σ (Some ps) = leaves xs (ps ++ σ)
leads_to xs σ None = None

pub leads_then : (xs : List Symbol) (σ : List Point) (o : Option (List Point)) → leads (leaves xs) (then_points o σ) ≡ leads_to xs σ o
leads_then xs σ None = refl
leads_then xs σ (Some ps) = refl

pub leads_then_others : (xs : List Symbol) (others σ : List Point) (o : Option (List Point)) → leads (leaves xs) (then_points (then_points o others) σ) ≡ leads_to xs (others ++ σ) o
leads_then_others xs others σ None = refl
leads_then_others xs others σ (Some ps) = ap (leaves xs) (append_assoc ps others σ)

-- a primary that is no selection, and the levels that are left for it as a part
pub record PrimaryBegun (extent : Extent) (scope : Scope) (d : ℕ) (σ : List Point) (symbols out : List Symbol) : Type 0 where
  pub primary : Primary
  pub levels : ℕ
  pub rest : List Symbol
  pub is : symbols ≡ primary_text primary rest
  pub derives : PrimaryDerives primary scope
  pub bare : (is_atom primary && begins_round rest) ≡ false
  pub on : leaves rest (Behind extent scope d levels ∷ σ) ≡ Some out
  pub shorter : length rest < length symbols

atom_on : (extent : Extent) (scope : Scope) (d : ℕ) (xs : List Symbol) (σ : List Point) → begins_round xs ≡ false → leaves xs (BehindAtom extent scope d ∷ σ) ≡ leaves xs (Behind extent scope d (fewer d) ∷ σ)
atom_on extent scope d [] σ e = refl
atom_on extent scope d (t.OpenRound ∷ xs) σ e = absurd cc
atom_on Whole scope d (x ∷ xs) σ e = refl
atom_on Part scope d (x ∷ xs) σ e = refl
atom_on Rest scope d (x ∷ xs) σ e = refl

atom_begun : (n : ℕ) → Laws n → (a : List ℕ) (xs : List Symbol) (extent : Extent) (scope : Scope) (d : ℕ) (σ : List Point) (out : List Symbol) → length xs < n → leaves xs (BehindAtom extent scope d ∷ σ) ≡ Some out → PrimaryBegun extent scope d σ (t.Atom a ∷ xs) out
atom_begun n law a [] extent scope d σ out lt h = absurd (never out h)
atom_begun n law a (t.OpenRound ∷ xs) extent scope d σ out lt h =
    let k = law.fields xs scope (fewer d) 64 [] 1 (Behind extent scope d (fewer d) ∷ σ) out (omega arith) h in
    record {
      primary = Record a k.fields;
      levels = fewer d;
      rest = k.rest;
      is = ap (λ (r : List Symbol). t.Atom a ∷ t.OpenRound ∷ r) k.is;
      derives = k.derives;
      bare = refl;
      on = k.on;
      shorter = (let l = k.shorter in omega (arith, l));
    }
atom_begun n law a (x ∷ xs) extent scope d σ out lt h =
    record { primary = Atom a; levels = fewer d; rest = x ∷ xs; is = refl; derives = tt; bare = refl; on = sym (atom_on extent scope d (x ∷ xs) σ refl) ∙ h; shorter = omega arith }

-- the arguments of a call as a value
record CallTaken (o : Option BuiltIn) (scope : Scope) (σ : List Point) (symbols out : List Symbol) : Type 0 where
  taken : ArgumentsTaken scope σ symbols out
  lacks : LacksOneArgument o taken.arguments

arity_some : (b : BuiltIn) → 1 ≤ arity_of b
arity_some built.Browse = omega arith
arity_some built.Wait = omega arith
arity_some built.NewCell = omega arith
arity_some built.Exchange = omega arith
arity_some built.NewPort = omega arith
arity_some built.Send = omega arith
arity_some built.NewCellAt = omega arith

call_taken : (n : ℕ) → Laws n → (o : Option BuiltIn) (xs : List Symbol) (scope : Scope) (d : ℕ) (σ : List Point) (out : List Symbol) → length xs < n → leaves xs (next_call AsValue scope d o ++ σ) ≡ Some out → CallTaken o scope σ xs out
call_taken n law None xs scope d σ out lt h = record { taken = law.arguments xs scope d 0 63 σ out lt h; lacks = tt }
call_taken n law (Some b) xs scope d σ out lt h =
    let k = law.wanted xs scope d (arity_of b - 1) σ out lt h in record { taken = k.taken; lacks = (let some = arity_some b in let all = k.all in omega (arith, some, all)) }

curly_begun : (n : ℕ) → Laws n → (xs : List Symbol) (extent : Extent) (scope : Scope) (d : ℕ) (σ : List Point) (out : List Symbol) → length xs < n → leaves xs (CallName AsValue scope (fewer d) ∷ Behind extent scope d (fewer d) ∷ σ) ≡ Some out
    → PrimaryBegun extent scope d σ (t.OpenCurly ∷ xs) out
curly_begun n law (t.Variable p ∷ xs) extent scope d σ out lt h =
    let k = call_taken n law (built_in_at scope p) xs scope (fewer d) (Behind extent scope d (fewer d) ∷ σ) out (omega arith) h in
    record {
      primary = Calls p k.taken.arguments;
      levels = fewer d;
      rest = k.taken.rest;
      is = ap (λ (r : List Symbol). t.OpenCurly ∷ t.Variable p ∷ r) k.taken.is;
      derives = (k.lacks, k.taken.derives);
      bare = refl;
      on = k.taken.on;
      shorter = (let l = k.taken.shorter in omega (arith, l));
    }
curly_begun n law xs extent scope d σ out lt h = absurd (never out h)

proc_begun : (n : ℕ) → Laws n → (xs : List Symbol) (extent : Extent) (scope : Scope) (d : ℕ) (σ : List Point) (out : List Symbol) → length xs < n
    → leaves xs (Here sign.OpenCurly ∷ Here sign.Dollar ∷ Formals OfProc scope [] (fewer d) ∷ Behind extent scope d (fewer d) ∷ σ) ≡ Some out → PrimaryBegun extent scope d σ (t.Proc ∷ xs) out
proc_begun n law (t.OpenCurly ∷ t.Dollar ∷ xs) extent scope d σ out lt h =
    let f = formals_taken xs OfProc scope [] (fewer d) (Behind extent scope d (fewer d) ∷ σ) out h in
    let l = f.shorter in
    let k = end_taken n law f.rest (scope ++ f.part) (fewer d) (Behind extent scope d (fewer d) ∷ σ) out (omega (arith, l)) f.on in
    record {
      primary = Procedure f.part k.sequence;
      levels = fewer d;
      rest = k.rest;
      is = ap (λ (r : List Symbol). t.Proc ∷ t.OpenCurly ∷ t.Dollar ∷ r) (f.is ∙ ap (curly_text f.part) k.is);
      derives = k.derives;
      bare = refl;
      on = k.on;
      shorter = (let m = k.shorter in omega (arith, l, m));
    }
proc_begun n law xs extent scope d σ out lt h = absurd (never out h)

fun_begun : (n : ℕ) → Laws n → (xs : List Symbol) (extent : Extent) (scope : Scope) (d : ℕ) (σ : List Point) (out : List Symbol) → length xs < n
    → leaves xs (Here sign.OpenCurly ∷ Here sign.Dollar ∷ Formals OfFun scope [] (fewer d) ∷ Behind extent scope d (fewer d) ∷ σ) ≡ Some out → PrimaryBegun extent scope d σ (t.Fun ∷ xs) out
fun_begun n law (t.OpenCurly ∷ t.Dollar ∷ xs) extent scope d σ out lt h =
    let f = formals_taken xs OfFun scope [] (fewer d) (Behind extent scope d (fewer d) ∷ σ) out h in
    let l = f.shorter in
    let k = value_then n law sign.End f.rest (scope ++ f.part) (fewer d) (Behind extent scope d (fewer d) ∷ σ) out (omega (arith, l)) f.on in
    record {
      primary = Function f.part k.value;
      levels = fewer d;
      rest = k.rest;
      is = ap (λ (r : List Symbol). t.Fun ∷ t.OpenCurly ∷ t.Dollar ∷ r) (f.is ∙ ap (curly_text f.part) k.is);
      derives = k.derives;
      bare = refl;
      on = k.on;
      shorter = (let m = k.shorter in omega (arith, l, m));
    }
fun_begun n law xs extent scope d σ out lt h = absurd (never out h)

pub primary_begun : (n : ℕ) → Laws n → (s : Symbol) (xs : List Symbol) (extent : Extent) (scope : Scope) (d : ℕ) (σ : List Point) (out : List Symbol) → length xs < n → leads_to xs σ (next_primary extent scope d s) ≡ Some out
    → PrimaryBegun extent scope d σ (s ∷ xs) out
primary_begun n law (t.Variable x) xs extent scope d σ out lt h = record { primary = Variable x; levels = d; rest = xs; is = refl; derives = tt; bare = refl; on = h; shorter = omega arith }
primary_begun n law (t.Integer i) xs extent scope d σ out lt h = record { primary = Integer i; levels = fewer d; rest = xs; is = refl; derives = tt; bare = refl; on = h; shorter = omega arith }
primary_begun n law (t.Atom a) xs extent scope d σ out lt h = atom_begun n law a xs extent scope d σ out lt h
primary_begun n law t.OpenCurly xs extent scope d σ out lt h = curly_begun n law xs extent scope d σ out lt h
primary_begun n law t.Proc xs extent scope d σ out lt h = proc_begun n law xs extent scope d σ out lt h
primary_begun n law t.Fun xs extent scope d σ out lt h = fun_begun n law xs extent scope d σ out lt h
primary_begun n law t.OpenRound xs extent scope d σ out lt h =
    let k = value_then n law sign.CloseRound xs scope (fewer d) (Behind extent scope d (fewer d) ∷ σ) out lt h in
    record {
      primary = Brackets k.value;
      levels = fewer d;
      rest = k.rest;
      is = ap (λ (r : List Symbol). t.OpenRound ∷ r) k.is;
      derives = k.derives;
      bare = refl;
      on = k.on;
      shorter = (let l = k.shorter in omega (arith, l));
    }
primary_begun n law s xs extent scope d σ out lt h = absurd (never out h)

-- ---- the selections behind it

-- a primary with all its selections
pub record PrimaryEnded (extent : Extent) (scope : Scope) (d : ℕ) (σ : List Point) (symbols out : List Symbol) : Type 0 where
  pub primary : Primary
  pub levels : ℕ
  pub rest : List Symbol
  pub is : symbols ≡ primary_text primary rest
  pub derives : PrimaryDerives primary scope
  pub bare : (is_atom primary && begins_round rest) ≡ false
  pub on : leaves rest (Behind extent scope d levels ∷ σ) ≡ Some out
  pub no_dot : is_no_dot rest ≡ true

ended : (rest : List Symbol) (p : Primary) (extent : Extent) (scope : Scope) (d r : ℕ) (σ : List Point) (out : List Symbol) → PrimaryDerives p scope → (is_atom p && begins_round rest) ≡ false → leaves rest (Behind extent scope d r ∷ σ) ≡ Some out
    → (k : PrimaryEnded extent scope d σ (primary_text p rest) out) × (length k.rest ≤ length rest)
ended (t.Dot ∷ t.Variable x ∷ xs) p extent scope d r σ out good bare h = let k = ended xs (Selects p (ByVariable x)) extent scope d (fewer r) σ out good refl h in (k.0, let l = k.1 in omega (arith, l))
ended (t.Dot ∷ t.Atom a ∷ xs) p extent scope d r σ out good bare h =
    let k = ended xs (Selects p (ByFeature (AtomFeature a))) extent scope d (fewer r) σ out good refl h in (k.0, let l = k.1 in omega (arith, l))
ended (t.Dot ∷ t.Integer n ∷ xs) p extent scope d r σ out good bare h =
    let k = ended xs (Selects p (ByFeature (IntFeature n))) extent scope d (fewer r) σ out good refl h in (k.0, let l = k.1 in omega (arith, l))
ended (t.Dot ∷ xs) p extent scope d r σ out good bare h = absurd (never out h)
ended rest p extent scope d r σ out good bare h = (record { primary = p; levels = r; rest = rest; is = refl; derives = good; bare = bare; on = h; no_dot = refl }, omega arith)

-- all of it, from its first symbol on
pub record WholePrimary (extent : Extent) (scope : Scope) (d : ℕ) (σ : List Point) (symbols out : List Symbol) : Type 0 where
  pub taken : PrimaryEnded extent scope d σ symbols out
  pub shorter : length taken.rest < length symbols

pub whole_primary : (n : ℕ) → Laws n → (s : Symbol) (xs : List Symbol) (extent : Extent) (scope : Scope) (d : ℕ) (σ : List Point) (out : List Symbol) → length xs < n → leads_to xs σ (next_primary extent scope d s) ≡ Some out
    → WholePrimary extent scope d σ (s ∷ xs) out
whole_primary n law s xs extent scope d σ out lt h =
    let b = primary_begun n law s xs extent scope d σ out lt h in
    let k = ended b.rest b.primary extent scope d b.levels σ out b.derives b.bare b.on in
    let e = k.0 in
    record {
      taken = record { primary = e.primary; levels = e.levels; rest = e.rest; is = b.is ∙ e.is; derives = e.derives; bare = e.bare; on = e.on; no_dot = e.no_dot };
      shorter = (let l = k.1 in let m = b.shorter in omega (arith, l, m));
    }
