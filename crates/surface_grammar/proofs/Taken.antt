-- What the points take is derived: signs, names and patterns.
use Rattle.std.proofs.Common.{◌≡◌, ℕ, ◌+◌, ◌<◌, List, [], ◌∷◌, ◌++◌, length, Some, refl, sym, ap, subst, append_assoc, arith}
use Rattle.std.proofs.lemmas.List.{append-nil}
use Rattle.oz_grammar.specs.declared.symbol.Symbol.{Symbol}
use Rattle.oz_grammar.specs.declared.symbol.Symbol.TheVariants as t
use Rattle.oz_grammar.specs.declared.symbol.Sign.{Sign}
use Rattle.oz_grammar.specs.declared.symbol.Sign.TheVariants as sign
use Rattle.oz_grammar.specs.Grammar.{Identifier, FeatureToken, AtomFeature, IntFeature, Field, Placed, WithFeature, Pattern, IntPattern, AtomPattern, RecordPattern, PairPattern, fields_text, feature_symbol}
use Rattle.oz_grammar.specs.Scoping.{Scope, Fields, with_field, feature_of, place_feature, fields_behind, names_in, pattern_names}
use Rattle.oz_grammar.specs.Faults.{fewer}
use Rattle.oz_grammar.specs.Points.{First}
use Rattle.oz_grammar.proofs.Leaves.{sign_symbol}
use Rattle.oz_grammar.proofs.Parts.{never, in_text, curly_text, then_text}
use Rattle.surface_grammar.specs.declared.parts.Callable.{Callable}
use Rattle.surface_grammar.specs.Points.{Branch, Ends, Point, At, Here, LocalMore, Formals, PatternOf, PatternField, clause_points, body_points}
use Rattle.surface_grammar.proofs.Leaves.{leaves}

-- A part stands at the front of these symbols, and what is behind it is taken by the points behind it.
pub record Taken (Part : Type 0) (text : Part → List Symbol → List Symbol) (points : Part → List Point) (symbols out : List Symbol) : Type 0 where
  pub part : Part
  pub rest : List Symbol
  pub is : symbols ≡ text part rest
  pub on : leaves rest (points part) ≡ Some out
  pub shorter : length rest < length symbols

-- ---- signs

pub record SignTaken (s : Sign) (σ : List Point) (symbols out : List Symbol) : Type 0 where
  pub rest : List Symbol
  pub is : symbols ≡ sign_symbol s ∷ rest
  pub on : leaves rest σ ≡ Some out
  pub shorter : length rest < length symbols

one_sign : (s : Sign) (x : Symbol) (xs : List Symbol) (σ : List Point) (out : List Symbol) → x ≡ sign_symbol s → leaves xs σ ≡ Some out → SignTaken s σ (x ∷ xs) out
one_sign s x xs σ out e h = record { rest = xs; is = ap (λ (y : Symbol). y ∷ xs) e; on = h; shorter = omega arith }

pub sign_taken : (s : Sign) (symbols : List Symbol) (σ : List Point) (out : List Symbol) → leaves symbols (Here s ∷ σ) ≡ Some out → SignTaken s σ symbols out
sign_taken sign.Equals (t.Equals ∷ xs) σ out h = one_sign sign.Equals t.Equals xs σ out refl h
sign_taken sign.Then (t.Then ∷ xs) σ out h = one_sign sign.Then t.Then xs σ out refl h
sign_taken sign.Of (t.Of ∷ xs) σ out h = one_sign sign.Of t.Of xs σ out refl h
sign_taken sign.End (t.End ∷ xs) σ out h = one_sign sign.End t.End xs σ out refl h
sign_taken sign.OpenCurly (t.OpenCurly ∷ xs) σ out h = one_sign sign.OpenCurly t.OpenCurly xs σ out refl h
sign_taken sign.Dollar (t.Dollar ∷ xs) σ out h = one_sign sign.Dollar t.Dollar xs σ out refl h
sign_taken sign.Colon (t.Colon ∷ xs) σ out h = one_sign sign.Colon t.Colon xs σ out refl h
sign_taken sign.Bar (t.Bar ∷ xs) σ out h = one_sign sign.Bar t.Bar xs σ out refl h
sign_taken sign.Else (t.Else ∷ xs) σ out h = one_sign sign.Else t.Else xs σ out refl h
sign_taken sign.CloseRound (t.CloseRound ∷ xs) σ out h = one_sign sign.CloseRound t.CloseRound xs σ out refl h
sign_taken s symbols σ out h = absurd (never out h)

-- ---- lists of names

abbrev pub LocalsTaken : Scope → List Identifier → ℕ → List Point → List Symbol → List Symbol → Type 0
LocalsTaken scope before d σ symbols out = Taken (List Identifier) in_text (λ xs. At First Ends (scope ++ (before ++ xs)) d ∷ σ) symbols out

pub locals_taken : (symbols : List Symbol) (scope : Scope) (before : List Identifier) (d : ℕ) (σ : List Point) (out : List Symbol) → leaves symbols (LocalMore scope before d ∷ σ) ≡ Some out → LocalsTaken scope before d σ symbols out
locals_taken (t.In ∷ xs) scope before d σ out h = record {
  part = [];
  rest = xs;
  is = refl;
  on = subst (λ (s : List Identifier). leaves xs (At First Ends (scope ++ s) d ∷ σ) ≡ Some out) (sym (append-nil before)) h;
  shorter = omega arith;
}
locals_taken (t.Variable x ∷ xs) scope before d σ out h =
    let k = locals_taken xs scope (before ++ x ∷ []) d σ out h in
    record {
      part = x ∷ k.part;
      rest = k.rest;
      is = ap (λ (a : List Symbol). t.Variable x ∷ a) k.is;
      on = subst (λ (s : List Identifier). leaves k.rest (At First Ends (scope ++ s) d ∷ σ) ≡ Some out) (append_assoc before (x ∷ []) k.part) k.on;
      shorter = (let l = k.shorter in omega (arith, l));
    }
locals_taken symbols scope before d σ out h = absurd (never out h)

abbrev pub FormalsTaken : Callable → Scope → List Identifier → ℕ → List Point → List Symbol → List Symbol → Type 0
FormalsTaken c scope before d σ symbols out = Taken (List Identifier) curly_text (λ xs. body_points c (scope ++ (before ++ xs)) d ++ σ) symbols out

pub formals_taken : (symbols : List Symbol) (c : Callable) (scope : Scope) (before : List Identifier) (d : ℕ) (σ : List Point) (out : List Symbol) → leaves symbols (Formals c scope before d ∷ σ) ≡ Some out → FormalsTaken c scope before d σ symbols out
formals_taken (t.CloseCurly ∷ xs) c scope before d σ out h = record {
  part = [];
  rest = xs;
  is = refl;
  on = subst (λ (s : List Identifier). leaves xs (body_points c (scope ++ s) d ++ σ) ≡ Some out) (sym (append-nil before)) h;
  shorter = omega arith;
}
formals_taken (t.Variable x ∷ xs) c scope before d σ out h =
    let k = formals_taken xs c scope (before ++ x ∷ []) d σ out h in
    record {
      part = x ∷ k.part;
      rest = k.rest;
      is = ap (λ (a : List Symbol). t.Variable x ∷ a) k.is;
      on = subst (λ (s : List Identifier). leaves k.rest (body_points c (scope ++ s) d ++ σ) ≡ Some out) (append_assoc before (x ∷ []) k.part) k.on;
      shorter = (let l = k.shorter in omega (arith, l));
    }
formals_taken symbols c scope before d σ out h = absurd (never out h)

-- ---- patterns

-- fields, the closing bracket and `then`
abbrev bracket_text : List Field → List Symbol → List Symbol
bracket_text fs rest = fields_text fs (t.CloseRound ∷ t.Then ∷ rest)

abbrev PatternFieldsTaken : Branch → Scope → ℕ → Fields → ℕ → List Point → List Symbol → List Symbol → Type 0
PatternFieldsTaken b scope d before nth σ symbols out = Taken (List Field) bracket_text (λ fs. clause_points b scope (scope ++ names_in (fields_behind before nth fs)) d ++ σ) symbols out

named_more : (b : Branch) (scope : Scope) (d : ℕ) (before : Fields) (nth : ℕ) (σ : List Point) (m : FeatureToken) (x : Identifier) (xs out : List Symbol) → PatternFieldsTaken b scope d (with_field (feature_of m) x before) nth σ xs out
    → PatternFieldsTaken b scope d before nth σ (feature_symbol m ∷ t.Colon ∷ t.Variable x ∷ xs) out
named_more b scope d before nth σ m x xs out k = record {
  part = WithFeature m x ∷ k.part;
  rest = k.rest;
  is = ap (λ (a : List Symbol). feature_symbol m ∷ t.Colon ∷ t.Variable x ∷ a) k.is;
  on = k.on;
  shorter = (let l = k.shorter in omega (arith, l));
}

pattern_fields_taken : (symbols : List Symbol) (b : Branch) (scope : Scope) (d room : ℕ) (before : Fields) (nth : ℕ) (σ : List Point) (out : List Symbol) → leaves symbols (PatternField b scope d room before nth ∷ σ) ≡ Some out
    → PatternFieldsTaken b scope d before nth σ symbols out
pattern_fields_taken (t.CloseRound ∷ t.Then ∷ xs) b scope d room before nth σ out h = record { part = []; rest = xs; is = refl; on = h; shorter = omega arith }
pattern_fields_taken (t.Variable x ∷ xs) b scope d room before nth σ out h =
    let k = pattern_fields_taken xs b scope d (fewer room) (with_field (place_feature nth) x before) (nth + 1) σ out h in
    record { part = Placed x ∷ k.part; rest = k.rest; is = ap (λ (a : List Symbol). t.Variable x ∷ a) k.is; on = k.on; shorter = (let l = k.shorter in omega (arith, l)) }
pattern_fields_taken (t.Atom a ∷ t.Colon ∷ t.Variable x ∷ xs) b scope d room before nth σ out h =
    named_more b scope d before nth σ (AtomFeature a) x xs out (pattern_fields_taken xs b scope d (fewer room) (with_field (feature_of (AtomFeature a)) x before) nth σ out h)
pattern_fields_taken (t.Integer n ∷ t.Colon ∷ t.Variable x ∷ xs) b scope d room before nth σ out h =
    named_more b scope d before nth σ (IntFeature n) x xs out (pattern_fields_taken xs b scope d (fewer room) (with_field (feature_of (IntFeature n)) x before) nth σ out h)
pattern_fields_taken symbols b scope d room before nth σ out h = absurd (never out h)

abbrev pub PatternTaken : Branch → Scope → ℕ → List Point → List Symbol → List Symbol → Type 0
PatternTaken b scope d σ symbols out = Taken Pattern then_text (λ p. clause_points b scope (scope ++ pattern_names p) d ++ σ) symbols out

no_names : (b : Branch) (scope : Scope) (d : ℕ) (σ : List Point) (xs out : List Symbol) → leaves xs (clause_points b scope scope d ++ σ) ≡ Some out → leaves xs (clause_points b scope (scope ++ []) d ++ σ) ≡ Some out
no_names b scope d σ xs out h = subst (λ (s : Scope). leaves xs (clause_points b scope s d ++ σ) ≡ Some out) (sym (append-nil scope)) h

pub pattern_taken : (symbols : List Symbol) (b : Branch) (scope : Scope) (d : ℕ) (σ : List Point) (out : List Symbol) → leaves symbols (PatternOf b scope d ∷ σ) ≡ Some out → PatternTaken b scope d σ symbols out
pattern_taken (t.Integer n ∷ t.Then ∷ xs) b scope d σ out h = record { part = IntPattern n; rest = xs; is = refl; on = no_names b scope d σ xs out h; shorter = omega arith }
pattern_taken (t.Atom a ∷ t.Then ∷ xs) b scope d σ out h = record { part = AtomPattern a; rest = xs; is = refl; on = no_names b scope d σ xs out h; shorter = omega arith }
pattern_taken (t.Atom a ∷ t.OpenRound ∷ xs) b scope d σ out h =
    let k = pattern_fields_taken xs b scope d 64 [] 1 σ out h in
    record { part = RecordPattern a k.part; rest = k.rest; is = ap (λ (r : List Symbol). t.Atom a ∷ t.OpenRound ∷ r) k.is; on = k.on; shorter = (let l = k.shorter in omega (arith, l)) }
pattern_taken (t.Variable x ∷ t.Bar ∷ t.Variable u ∷ t.Then ∷ xs) b scope d σ out h = record { part = PairPattern x u; rest = xs; is = refl; on = h; shorter = omega arith }
pattern_taken symbols b scope d σ out h = absurd (never out h)
