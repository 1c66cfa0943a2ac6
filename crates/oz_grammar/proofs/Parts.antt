-- What the points take is derived: parts of statements.
use Rattle.std.proofs.Common.{◌≡◌, ℕ, zero, suc, ◌+◌, List, [], ◌∷◌, ◌++◌, length, Option, Some, None, refl, sym, ap, subst, ◌∙◌, append_assoc}
use Rattle.std.proofs.lemmas.List.{append-nil}
use Rattle.oz_grammar.specs.declared.symbol.Symbol.{Symbol}
use Rattle.oz_grammar.specs.declared.symbol.Symbol.TheVariants as t
use Rattle.oz_grammar.specs.declared.symbol.Sign.{Sign}
use Rattle.oz_grammar.specs.declared.symbol.Sign.TheVariants as sign
use Rattle.oz_grammar.specs.declared.symbol.Closer.{Closer}
use Rattle.oz_grammar.specs.declared.symbol.Closer.TheVariants as closer
use Rattle.kernel_syntax.specs.declared.built_in.BuiltIn.{BuiltIn}
use Rattle.oz_grammar.specs.declared.symbol.Purpose.{Purpose}
use Rattle.oz_grammar.specs.declared.symbol.Purpose.TheVariants as purpose
use Rattle.oz_grammar.specs.Grammar.{Identifier, FeatureToken, AtomFeature, IntFeature, ByVariable, ByFeature, Field, Placed, WithFeature, Value, ToVar, Calculates, Tests, Selects, Pairs, ToAtom, ToRecord, Pattern, IntPattern, AtomPattern, RecordPattern, PairPattern, Cases, names_text, fields_text, value_text, pattern_text, feature_symbol}
use Rattle.kernel_syntax.specs.BuiltIns.{arity_of}
use Rattle.oz_grammar.specs.Scoping.{Scope, Fields, with_field, feature_of, place_feature, fields_behind, choice_scope, HasArguments}
use Rattle.oz_grammar.specs.Faults.{fewer}
use Rattle.oz_grammar.specs.Points.{First, Later, Point, At, Here, LocalMore, BehindVariable, BehindAtom, FieldOf, Arguments, Wanted, PatternOf, Formals, behind_fields, next_call}
use Rattle.oz_grammar.proofs.Leaves.{sign_symbol, leaves}

-- a part stands at the front of these symbols, and what is behind it is taken by the points behind it
pub record Taken (Part : Type 0) (text : Part → List Symbol → List Symbol) (points : Part → List Point) (symbols out : List Symbol) : Type 0 where
  pub part : Part
  pub rest : List Symbol
  pub is : symbols ≡ text part rest
  pub on : leaves rest (points part) ≡ Some out

pub never : (out : List Symbol) → None ≡ Some out → ⊥
never out h = cc

abbrev pub SignTaken : Sign → List Point → List Symbol → List Symbol → Type 0
SignTaken s σ symbols out = (rest : List Symbol) × (symbols ≡ sign_symbol s ∷ rest) × (leaves rest σ ≡ Some out)

pub sign_taken : (s : Sign) (symbols : List Symbol) (σ : List Point) (out : List Symbol) → leaves symbols (Here s ∷ σ) ≡ Some out → SignTaken s σ symbols out
sign_taken sign.Equals (t.Equals ∷ xs) σ out h = (xs, refl, h)
sign_taken sign.Then (t.Then ∷ xs) σ out h = (xs, refl, h)
sign_taken sign.Of (t.Of ∷ xs) σ out h = (xs, refl, h)
sign_taken sign.End (t.End ∷ xs) σ out h = (xs, refl, h)
sign_taken sign.OpenCurly (t.OpenCurly ∷ xs) σ out h = (xs, refl, h)
sign_taken sign.Dollar (t.Dollar ∷ xs) σ out h = (xs, refl, h)
sign_taken sign.Colon (t.Colon ∷ xs) σ out h = (xs, refl, h)
sign_taken sign.Bar (t.Bar ∷ xs) σ out h = (xs, refl, h)
sign_taken sign.Else (t.Else ∷ xs) σ out h = (xs, refl, h)
sign_taken sign.CloseRound (t.CloseRound ∷ xs) σ out h = (xs, refl, h)
sign_taken s symbols σ out h = absurd (never out h)

-- ---- fields

abbrev pub bracket_text : List Field → List Symbol → List Symbol
bracket_text fs rest = fields_text fs (t.CloseRound ∷ rest)

abbrev pub FieldsTaken : Purpose → Scope → ℕ → Fields → ℕ → List Point → List Symbol → List Symbol → Type 0
FieldsTaken p scope d before next σ symbols out = Taken (List Field) bracket_text (λ fs. behind_fields p scope d (fields_behind before next fs) ++ σ) symbols out

placed_more : (p : Purpose) (scope : Scope) (d : ℕ) (before : Fields) (next : ℕ) (σ : List Point) (x : Identifier) (xs out : List Symbol) → FieldsTaken p scope d (with_field (place_feature next) x before) (next + 1) σ xs out → FieldsTaken p scope d before next σ (t.Variable x ∷ xs) out
placed_more p scope d before next σ x xs out k = record { part = Placed x ∷ k.part; rest = k.rest; is = ap (λ (a : List Symbol). t.Variable x ∷ a) k.is; on = k.on }

marked_more : (p : Purpose) (scope : Scope) (d : ℕ) (before : Fields) (next : ℕ) (σ : List Point) (m : FeatureToken) (x : Identifier) (xs out : List Symbol) → FieldsTaken p scope d (with_field (feature_of m) x before) next σ xs out → FieldsTaken p scope d before next σ (feature_symbol m ∷ t.Colon ∷ t.Variable x ∷ xs) out
marked_more p scope d before next σ m x xs out k = record { part = WithFeature m x ∷ k.part; rest = k.rest; is = ap (λ (a : List Symbol). feature_symbol m ∷ t.Colon ∷ t.Variable x ∷ a) k.is; on = k.on }

pub fields_taken : (symbols : List Symbol) (p : Purpose) (scope : Scope) (d room : ℕ) (before : Fields) (next : ℕ) (σ : List Point) (out : List Symbol) → leaves symbols (FieldOf p scope d room before next ∷ σ) ≡ Some out → FieldsTaken p scope d before next σ symbols out
fields_taken (t.CloseRound ∷ xs) p scope d room before next σ out h = record { part = []; rest = xs; is = refl; on = h }
fields_taken (t.Variable x ∷ xs) p scope d room before next σ out h = placed_more p scope d before next σ x xs out (fields_taken xs p scope d (fewer room) (with_field (place_feature next) x before) (next + 1) σ out h)
fields_taken (t.Atom a ∷ t.Colon ∷ t.Variable x ∷ xs) p scope d room before next σ out h = marked_more p scope d before next σ (AtomFeature a) x xs out (fields_taken xs p scope d (fewer room) (with_field (feature_of (AtomFeature a)) x before) next σ out h)
fields_taken (t.Integer n ∷ t.Colon ∷ t.Variable x ∷ xs) p scope d room before next σ out h = marked_more p scope d before next σ (IntFeature n) x xs out (fields_taken xs p scope d (fewer room) (with_field (feature_of (IntFeature n)) x before) next σ out h)
fields_taken symbols p scope d room before next σ out h = absurd (never out h)

-- ---- values, where they are no procedures

abbrev pub ValueTaken : Closer → Scope → ℕ → List Point → List Symbol → List Symbol → Type 0
ValueTaken c scope d σ symbols out = Taken Value value_text (λ v. At Later c scope d ∷ σ) symbols out

pub variable_taken : (y : Identifier) (symbols : List Symbol) (c : Closer) (scope : Scope) (d : ℕ) (σ : List Point) (out : List Symbol) → leaves symbols (BehindVariable c scope d ∷ σ) ≡ Some out → ValueTaken c scope d σ (t.Variable y ∷ symbols) out
variable_taken y (t.Operator o ∷ t.Variable z ∷ xs) c scope d σ out h = record { part = Calculates y o z; rest = xs; is = refl; on = h }
variable_taken y (t.Test o ∷ t.Variable z ∷ xs) c scope d σ out h = record { part = Tests y o z; rest = xs; is = refl; on = h }
variable_taken y (t.Operator o ∷ xs) c scope d σ out h = absurd (never out h)
variable_taken y (t.Test o ∷ xs) c scope d σ out h = absurd (never out h)
variable_taken y (t.Dot ∷ t.Variable x ∷ xs) c scope d σ out h = record { part = Selects y (ByVariable x); rest = xs; is = refl; on = h }
variable_taken y (t.Dot ∷ t.Atom a ∷ xs) c scope d σ out h = record { part = Selects y (ByFeature (AtomFeature a)); rest = xs; is = refl; on = h }
variable_taken y (t.Dot ∷ t.Integer n ∷ xs) c scope d σ out h = record { part = Selects y (ByFeature (IntFeature n)); rest = xs; is = refl; on = h }
variable_taken y (t.Dot ∷ xs) c scope d σ out h = absurd (never out h)
variable_taken y (t.Bar ∷ t.Variable u ∷ xs) c scope d σ out h = record { part = Pairs y u; rest = xs; is = refl; on = h }
variable_taken y (t.Bar ∷ xs) c scope d σ out h = absurd (never out h)
variable_taken y [] c scope d σ out h = absurd (never out h)
variable_taken y (x ∷ xs) c scope d σ out h = record { part = ToVar y; rest = x ∷ xs; is = refl; on = h }

record_taken : (a : List ℕ) (symbols : List Symbol) (c : Closer) (scope : Scope) (d : ℕ) (σ : List Point) (out : List Symbol) → FieldsTaken purpose.Use scope d [] 1 (At Later c scope d ∷ σ) symbols out → ValueTaken c scope d σ (t.Atom a ∷ t.OpenRound ∷ symbols) out
record_taken a symbols c scope d σ out k = record { part = ToRecord a k.part; rest = k.rest; is = ap (λ (b : List Symbol). t.Atom a ∷ t.OpenRound ∷ b) k.is; on = k.on }

pub atom_taken : (a : List ℕ) (symbols : List Symbol) (c : Closer) (scope : Scope) (d : ℕ) (σ : List Point) (out : List Symbol) → leaves symbols (BehindAtom c scope d ∷ σ) ≡ Some out → ValueTaken c scope d σ (t.Atom a ∷ symbols) out
atom_taken a (t.OpenRound ∷ xs) c scope d σ out h = record_taken a xs c scope d σ out (fields_taken xs purpose.Use scope d 64 [] 1 (At Later c scope d ∷ σ) out h)
atom_taken a [] c scope d σ out h = absurd (never out h)
atom_taken a (x ∷ xs) c scope d σ out h = record { part = ToAtom a; rest = x ∷ xs; is = refl; on = h }

-- ---- patterns

-- a pattern and `then`
abbrev pub then_text : Pattern → List Symbol → List Symbol
then_text p rest = pattern_text p (t.Then ∷ rest)

abbrev pub PatternTaken : Scope → ℕ → List Point → List Symbol → List Symbol → Type 0
PatternTaken scope d σ symbols out = Taken Pattern then_text (λ p. At First closer.Else (choice_scope (Cases [] p) scope) d ∷ σ) symbols out

no_names : (scope : Scope) (d : ℕ) (σ : List Point) (xs out : List Symbol) → leaves xs (At First closer.Else scope d ∷ σ) ≡ Some out → leaves xs (At First closer.Else (scope ++ []) d ∷ σ) ≡ Some out
no_names scope d σ xs out h = subst (λ (s : Scope). leaves xs (At First closer.Else s d ∷ σ) ≡ Some out) (sym (append-nil scope)) h

record_pattern_taken : (a : List ℕ) (symbols : List Symbol) (scope : Scope) (d : ℕ) (σ : List Point) (out : List Symbol) → FieldsTaken purpose.Declare scope d [] 1 σ symbols out → PatternTaken scope d σ (t.Atom a ∷ t.OpenRound ∷ symbols) out
record_pattern_taken a symbols scope d σ out k =
    let s = sign_taken sign.Then k.rest _ out k.on in
    record { part = RecordPattern a k.part; rest = s.0; is = ap (λ (b : List Symbol). t.Atom a ∷ t.OpenRound ∷ b) (k.is ∙ ap (bracket_text k.part) s.1); on = s.2 }

pub pattern_taken : (symbols : List Symbol) (scope : Scope) (d : ℕ) (σ : List Point) (out : List Symbol) → leaves symbols (PatternOf scope d ∷ σ) ≡ Some out → PatternTaken scope d σ symbols out
pattern_taken (t.Integer n ∷ t.Then ∷ xs) scope d σ out h = record { part = IntPattern n; rest = xs; is = refl; on = no_names scope d σ xs out h }
pattern_taken (t.Atom a ∷ t.Then ∷ xs) scope d σ out h = record { part = AtomPattern a; rest = xs; is = refl; on = no_names scope d σ xs out h }
pattern_taken (t.Atom a ∷ t.OpenRound ∷ xs) scope d σ out h = record_pattern_taken a xs scope d σ out (fields_taken xs purpose.Declare scope d 64 [] 1 σ out h)
pattern_taken (t.Variable x ∷ t.Bar ∷ t.Variable u ∷ t.Then ∷ xs) scope d σ out h = record { part = PairPattern x u; rest = xs; is = refl; on = h }
pattern_taken symbols scope d σ out h = absurd (never out h)

-- ---- lists of names

abbrev pub in_text : List Identifier → List Symbol → List Symbol
in_text xs rest = names_text xs (t.In ∷ rest)

abbrev pub curly_text : List Identifier → List Symbol → List Symbol
curly_text xs rest = names_text xs (t.CloseCurly ∷ rest)

abbrev pub BodyTaken : (List Identifier → List Symbol → List Symbol) → Scope → List Identifier → ℕ → List Point → List Symbol → List Symbol → Type 0
BodyTaken text scope before d σ symbols out = Taken (List Identifier) text (λ xs. At First closer.End (scope ++ (before ++ xs)) d ∷ σ) symbols out

first_body : (scope : Scope) (before : List Identifier) (d : ℕ) (σ : List Point) (xs out : List Symbol) → leaves xs (At First closer.End (scope ++ before) d ∷ σ) ≡ Some out → leaves xs (At First closer.End (scope ++ (before ++ [])) d ∷ σ) ≡ Some out
first_body scope before d σ xs out h = subst (λ (s : Scope). leaves xs (At First closer.End (scope ++ s) d ∷ σ) ≡ Some out) (sym (append-nil before)) h

more_body : (scope : Scope) (before : List Identifier) (x : Identifier) (names : List Identifier) (d : ℕ) (σ : List Point) (xs out : List Symbol) → leaves xs (At First closer.End (scope ++ ((before ++ x ∷ []) ++ names)) d ∷ σ) ≡ Some out → leaves xs (At First closer.End (scope ++ (before ++ x ∷ names)) d ∷ σ) ≡ Some out
more_body scope before x names d σ xs out h = subst (λ (s : Scope). leaves xs (At First closer.End (scope ++ s) d ∷ σ) ≡ Some out) (append_assoc before (x ∷ []) names) h

pub locals_taken : (symbols : List Symbol) (scope : Scope) (before : List Identifier) (d : ℕ) (σ : List Point) (out : List Symbol) → leaves symbols (LocalMore scope before d ∷ σ) ≡ Some out → BodyTaken in_text scope before d σ symbols out
locals_taken (t.In ∷ xs) scope before d σ out h = record { part = []; rest = xs; is = refl; on = first_body scope before d σ xs out h }
locals_taken (t.Variable x ∷ xs) scope before d σ out h =
    let k = locals_taken xs scope (before ++ x ∷ []) d σ out h in
    record { part = x ∷ k.part; rest = k.rest; is = ap (λ (a : List Symbol). t.Variable x ∷ a) k.is; on = more_body scope before x k.part d σ k.rest out k.on }
locals_taken symbols scope before d σ out h = absurd (never out h)

pub formals_taken : (symbols : List Symbol) (scope : Scope) (before : List Identifier) (d : ℕ) (σ : List Point) (out : List Symbol) → leaves symbols (Formals scope before d ∷ σ) ≡ Some out → BodyTaken curly_text scope before d σ symbols out
formals_taken (t.CloseCurly ∷ xs) scope before d σ out h = record { part = []; rest = xs; is = refl; on = first_body scope before d σ xs out h }
formals_taken (t.Variable x ∷ xs) scope before d σ out h =
    let k = formals_taken xs scope (before ++ x ∷ []) d σ out h in
    record { part = x ∷ k.part; rest = k.rest; is = ap (λ (a : List Symbol). t.Variable x ∷ a) k.is; on = more_body scope before x k.part d σ k.rest out k.on }
formals_taken symbols scope before d σ out h = absurd (never out h)

arguments_taken : (symbols : List Symbol) (scope : Scope) (n : ℕ) (σ : List Point) (out : List Symbol) → leaves symbols (Arguments scope n ∷ σ) ≡ Some out → Taken (List Identifier) curly_text (λ xs. σ) symbols out
arguments_taken (t.CloseCurly ∷ xs) scope n σ out h = record { part = []; rest = xs; is = refl; on = h }
arguments_taken (t.Variable x ∷ xs) scope n σ out h =
    let k = arguments_taken xs scope (n + 1) σ out h in record { part = x ∷ k.part; rest = k.rest; is = ap (λ (a : List Symbol). t.Variable x ∷ a) k.is; on = k.on }
arguments_taken symbols scope n σ out h = absurd (never out h)

-- the arguments of a call
pub record CallTaken (o : Option BuiltIn) (σ : List Point) (symbols out : List Symbol) : Type 0 where
  pub names : List Identifier
  pub rest : List Symbol
  pub is : symbols ≡ curly_text names rest
  pub has : HasArguments o names
  pub on : leaves rest σ ≡ Some out

pub record WantedTaken (k : ℕ) (σ : List Point) (symbols out : List Symbol) : Type 0 where
  pub names : List Identifier
  pub rest : List Symbol
  pub is : symbols ≡ curly_text names rest
  pub all : length names ≡ k
  pub on : leaves rest σ ≡ Some out

wanted_taken : (symbols : List Symbol) (scope : Scope) (k : ℕ) (σ : List Point) (out : List Symbol) → leaves symbols (Wanted scope k ∷ σ) ≡ Some out → WantedTaken k σ symbols out
wanted_taken (t.CloseCurly ∷ xs) scope zero σ out h = record { names = []; rest = xs; is = refl; all = refl; on = h }
wanted_taken (t.Variable x ∷ xs) scope (suc k) σ out h =
    let w = wanted_taken xs scope k σ out h in record { names = x ∷ w.names; rest = w.rest; is = ap (λ (a : List Symbol). t.Variable x ∷ a) w.is; all = ap suc w.all; on = w.on }
wanted_taken symbols scope zero σ out h = absurd (never out h)
wanted_taken symbols scope (suc k) σ out h = absurd (never out h)

pub call_taken : (o : Option BuiltIn) (symbols : List Symbol) (scope : Scope) (σ : List Point) (out : List Symbol) → leaves symbols (next_call scope o ++ σ) ≡ Some out → CallTaken o σ symbols out
call_taken (Some b) symbols scope σ out h = let w = wanted_taken symbols scope (arity_of b) σ out h in record { names = w.names; rest = w.rest; is = w.is; has = w.all; on = w.on }
call_taken None symbols scope σ out h = let w = arguments_taken symbols scope 0 σ out h in record { names = w.part; rest = w.rest; is = w.is; has = tt; on = w.on }
