-- Names and patterns are read from their points, with the faults that their checks find.
use Rattle.std.proofs.Common.{◌≡◌, ◌∙◌, ℕ, ◌+◌, List, [], ◌∷◌, ◌++◌, length, Option, refl, sym, ap, append_assoc}
use Rattle.std.proofs.lemmas.List.{append-nil}
use Rattle.oz_grammar.specs.declared.symbol.Symbol.{Symbol}
use Rattle.oz_grammar.specs.declared.symbol.Symbol.TheVariants as t
use Rattle.oz_grammar.specs.declared.symbol.Purpose.TheVariants as purpose
use Rattle.oz_grammar.specs.declared.fault.Fault.{Fault}
use Rattle.oz_grammar.specs.Grammar.{Identifier, AtomFeature, IntFeature, Selection, ByVariable, ByFeature, Field, Placed, WithFeature, Pattern, IntPattern, AtomPattern, RecordPattern, PairPattern, selection_symbol, names_text, fields_text, pattern_text}
use Rattle.oz_grammar.specs.Scoping.{Scope, Fields, with_field, feature_of, place_feature, fields_behind, names_in, pattern_names}
use Rattle.oz_grammar.specs.Faults.{count_fault, feature_token_fault, name_fault, placed_fault, deep_fault, fewer}
use Rattle.oz_grammar.specs.Check.{first_fault, check_selection, check_fields, check_pattern, check_locals}
use Rattle.oz_grammar.specs.Points.{First}
use Rattle.surface_grammar.specs.declared.parts.Callable.{Callable}
use Rattle.surface_grammar.specs.Points.{Extent, Branch, Ends, Point, At, LocalMore, Formals, Behind, PatternOf, PatternField, clause_points, body_points, formal_wrong, run}
use Rattle.surface_grammar.specs.Check.{check_formals}

-- ---- lists of names

pub locals_run : (xs before : List Identifier) (scope : Scope) (d : ℕ) (rest : List Symbol) (σ : List Point)
    → run (names_text xs (t.In ∷ rest)) (LocalMore scope before d ∷ σ) ≡ check_locals before xs (t.In ∷ rest) (run rest (At First Ends (scope ++ (before ++ xs)) d ∷ σ))
locals_run [] before scope d rest σ = ap (λ (s : List Identifier). run rest (At First Ends (scope ++ s) d ∷ σ)) (sym (append-nil before))
locals_run (x ∷ xs) before scope d rest σ =
    ap (first_fault (count_fault (length before)) (names_text (x ∷ xs) (t.In ∷ rest))) (locals_run xs (before ++ x ∷ []) scope d rest σ
    ∙ ap (λ (s : List Identifier). check_locals (before ++ x ∷ []) xs (t.In ∷ rest) (run rest (At First Ends (scope ++ s) d ∷ σ))) (append_assoc before (x ∷ []) xs))

pub formals_run : (xs before : List Identifier) (c : Callable) (scope : Scope) (d : ℕ) (rest : List Symbol) (σ : List Point)
    → run (names_text xs (t.CloseCurly ∷ rest)) (Formals c scope before d ∷ σ) ≡ check_formals c before xs (t.CloseCurly ∷ rest) (run rest (body_points c (scope ++ (before ++ xs)) d ++ σ))
formals_run [] before c scope d rest σ = ap (λ (s : List Identifier). run rest (body_points c (scope ++ s) d ++ σ)) (sym (append-nil before))
formals_run (x ∷ xs) before c scope d rest σ =
    ap (first_fault (formal_wrong c before x) (names_text (x ∷ xs) (t.CloseCurly ∷ rest))) (formals_run xs (before ++ x ∷ []) c scope d rest σ
    ∙ ap (λ (s : List Identifier). check_formals c (before ++ x ∷ []) xs (t.CloseCurly ∷ rest) (run rest (body_points c (scope ++ s) d ++ σ))) (append_assoc before (x ∷ []) xs))

-- ---- selections

pub selection_run : (s : Selection) (extent : Extent) (scope : Scope) (d r : ℕ) (rest : List Symbol) (σ : List Point)
    → run (t.Dot ∷ selection_symbol s ∷ rest) (Behind extent scope d r ∷ σ)
    ≡ first_fault (deep_fault r) (t.Dot ∷ selection_symbol s ∷ rest) (check_selection s scope rest (run rest (Behind extent scope d (fewer r) ∷ σ)))
selection_run (ByVariable x) extent scope d r rest σ = refl
selection_run (ByFeature (AtomFeature a)) extent scope d r rest σ = refl
selection_run (ByFeature (IntFeature n)) extent scope d r rest σ = refl

-- ---- patterns

-- behind the fields of a pattern: its `then`, and what follows that
pattern_fields_run : (fs : List Field) (b : Branch) (scope : Scope) (d room : ℕ) (before : Fields) (nth : ℕ) (rest : List Symbol) (σ : List Point)
    → run (fields_text fs (t.CloseRound ∷ t.Then ∷ rest)) (PatternField b scope d room before nth ∷ σ)
    ≡ check_fields purpose.Declare scope room before nth fs (t.CloseRound ∷ t.Then ∷ rest) (run rest (clause_points b scope (scope ++ names_in (fields_behind before nth fs)) d ++ σ))
pattern_fields_run [] b scope d room before nth rest σ = refl
pattern_fields_run (Placed x ∷ fs) b scope d room before nth rest σ =
    ap (first_fault (placed_fault purpose.Declare scope room before nth x) (fields_text (Placed x ∷ fs) (t.CloseRound ∷ t.Then ∷ rest)))
    (pattern_fields_run fs b scope d (fewer room) (with_field (place_feature nth) x before) (nth + 1) rest σ)
pattern_fields_run (WithFeature (AtomFeature a) x ∷ fs) b scope d room before nth rest σ =
    ap (λ (f : Option Fault). first_fault (feature_token_fault room before (AtomFeature a)) (fields_text (WithFeature (AtomFeature a) x ∷ fs) (t.CloseRound ∷ t.Then ∷ rest))
    (first_fault (name_fault purpose.Declare scope before x) (t.Variable x ∷ fields_text fs (t.CloseRound ∷ t.Then ∷ rest)) f))
    (pattern_fields_run fs b scope d (fewer room) (with_field (feature_of (AtomFeature a)) x before) nth rest σ)
pattern_fields_run (WithFeature (IntFeature n) x ∷ fs) b scope d room before nth rest σ =
    ap (λ (f : Option Fault). first_fault (feature_token_fault room before (IntFeature n)) (fields_text (WithFeature (IntFeature n) x ∷ fs) (t.CloseRound ∷ t.Then ∷ rest))
    (first_fault (name_fault purpose.Declare scope before x) (t.Variable x ∷ fields_text fs (t.CloseRound ∷ t.Then ∷ rest)) f))
    (pattern_fields_run fs b scope d (fewer room) (with_field (feature_of (IntFeature n)) x before) nth rest σ)

pub pattern_run : (p : Pattern) (b : Branch) (scope : Scope) (d : ℕ) (rest : List Symbol) (σ : List Point)
    → run (pattern_text p (t.Then ∷ rest)) (PatternOf b scope d ∷ σ) ≡ check_pattern p scope (t.Then ∷ rest) (run rest (clause_points b scope (scope ++ pattern_names p) d ++ σ))
pattern_run (IntPattern n) b scope d rest σ = ap (λ (s : Scope). first_fault _ _ (run rest (clause_points b scope s d ++ σ))) (sym (append-nil scope))
pattern_run (AtomPattern a) b scope d rest σ = ap (λ (s : Scope). run rest (clause_points b scope s d ++ σ)) (sym (append-nil scope))
pattern_run (RecordPattern a fs) b scope d rest σ = pattern_fields_run fs b scope d 64 [] 1 rest σ
pattern_run (PairPattern h u) b scope d rest σ = refl
