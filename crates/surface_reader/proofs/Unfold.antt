-- One step of what is read by recursion on a number.
use Rattle.std.proofs.Common.{◌≡◌, ◌∙◌, ap, ℕ, zero, suc, ◌+◌, ◌-◌, ◌<◌, List, [], ◌∷◌, length, drop, Bool, true, false, Result, Ok, Err, None, refl, arith}
use Rattle.std.specs.Prelude.{if◌then◌else◌}
use Rattle.kernel_syntax.specs.declared.sugar.Operation.TheVariants as operation
use Rattle.kernel_syntax.specs.Sugar as sugar
use Rattle.kernel_syntax.specs.Sugar.{Value, Values, no_values, value_and, ValueClauses, Statements, Clauses}
use Rattle.oz_grammar.specs.declared.symbol.Symbol.{Symbol}
use Rattle.oz_grammar.specs.declared.symbol.Symbol.TheVariants as t
use Rattle.oz_grammar.specs.declared.fault.Fault.{Fault}
use Rattle.oz_grammar.specs.declared.fault.FaultKind.TheVariants.{Deep}
use Rattle.oz_grammar.specs.declared.fault.What.TheVariants as what
use Rattle.oz_grammar.specs.Scoping.{Scope}
use Rattle.oz_grammar.specs.Faults.{room_fault, fault_here}
use Rattle.oz_grammar.specs.Reading.{◌>>=◌, fault_expected, selection_at, is_close_round, close_at}
use Rattle.surface_grammar.specs.declared.parts.Closer.{Closer}
use Rattle.surface_grammar.specs.declared.parts.Closer.TheVariants as closer
use Rattle.surface_grammar.specs.Trees.{with_last}
use Rattle.surface_grammar.specs.Reading.{Read, ValueReader, StatementReader, FieldsSoFar, wanted_at, arguments_at, is_close, field_at, fields_at, is_end_of, expected_behind, with_statement, others_at, selections_at, with_value_clause, value_clause_at, value_clause_end_at, value_clauses_at, with_clause, clause_at, clause_end_at, clauses_at}
use Rattle.surface_parts.specs.Signs.{is_dot, is_clause}

-- two steps behind the same first one
behind_same : {A B : Type 0} (r : Result A Fault) (f g : A → Result B Fault) → ((x : A) → f x ≡ g x) → (r >>= f) ≡ (r >>= g)
behind_same (Ok x) f g h = h x
behind_same (Err e) f g h = refl

-- ---- arguments

pub wanted_none : (value : ValueReader) (scope : Scope) (k : ℕ) (before : Values) (symbols : List Symbol) → k ≡ 0 → wanted_at value scope k before symbols ≡ (close_at symbols >>= λ rest. Ok (before, rest))
unfolding wanted_at
wanted_none value scope zero before symbols e = refl
wanted_none value scope (suc k) before symbols e = absurd cc

pub wanted_some : (value : ValueReader) (scope : Scope) (k : ℕ) (before : Values) (symbols : List Symbol) → 0 < k → wanted_at value scope k before symbols ≡ (value scope None what.Value symbols >>= λ v. wanted_at value scope (k - 1) (with_last before v.0) v.1)
unfolding wanted_at
wanted_some value scope zero before symbols h = absurd (omega arith)
wanted_some value scope (suc k) before symbols h = let e : suc k - 1 ≡ k = omega arith in rw e refl

pub arguments_none : (value : ValueReader) (scope : Scope) (k : ℕ) (before : Values) (symbols : List Symbol) → k ≡ 0 → arguments_at value scope k before symbols ≡ (if is_close symbols then Ok (before, drop 1 symbols) else (value scope (room_fault zero) what.ValueOrClose symbols >>= λ v. Ok (before, v.1)))
unfolding arguments_at
arguments_none value scope zero before symbols e = refl
arguments_none value scope (suc k) before symbols e = absurd cc

pub arguments_some : (value : ValueReader) (scope : Scope) (k : ℕ) (before : Values) (symbols : List Symbol) → 0 < k → arguments_at value scope k before symbols ≡ (if is_close symbols then Ok (before, drop 1 symbols) else (value scope None what.ValueOrClose symbols >>= λ v. arguments_at value scope (k - 1) (with_last before v.0) v.1))
unfolding arguments_at
arguments_some value scope zero before symbols h = absurd (omega arith)
arguments_some value scope (suc k) before symbols h = let e : suc k - 1 ≡ k = omega arith in rw e refl

-- ---- fields

pub fields_none : (value : ValueReader) (scope : Scope) (k : ℕ) (before : FieldsSoFar) (symbols : List Symbol) → k ≡ 0 → fields_at value scope k before symbols ≡ (if is_close_round symbols then Ok (before, drop 1 symbols) else (field_at value scope k before symbols >>= λ m. Ok (m.0, m.1)))
unfolding fields_at
fields_none value scope zero before symbols e = refl
fields_none value scope (suc k) before symbols e = absurd cc

pub fields_some : (value : ValueReader) (scope : Scope) (k : ℕ) (before : FieldsSoFar) (symbols : List Symbol) → 0 < k → fields_at value scope k before symbols ≡ (if is_close_round symbols then Ok (before, drop 1 symbols) else (field_at value scope k before symbols >>= λ m. fields_at value scope (k - 1) m.0 m.1))
unfolding fields_at
fields_some value scope zero before symbols h = absurd (omega arith)
fields_some value scope (suc k) before symbols h = let e : suc k - 1 ≡ k = omega arith in rw e refl

-- ---- selections

pub selections_none : (r : ℕ) (scope : Scope) (left : ℕ) (v : Value) (symbols : List Symbol) → is_dot symbols ≡ false → selections_at r scope left v symbols ≡ Ok ((v, r), symbols)
selections_none zero scope left v [] h = refl
selections_none (suc r) scope left v [] h = refl
selections_none r scope left v (t.Dot ∷ rest) h = absurd cc
selections_none zero scope left v (symbol ∷ rest) h = refl
selections_none (suc r) scope left v (symbol ∷ rest) h = refl

pub selections_deep : (r : ℕ) (scope : Scope) (left : ℕ) (v : Value) (symbols : List Symbol) → is_dot symbols ≡ true → r ≡ 0 → selections_at r scope left v symbols ≡ Err (fault_here Deep symbols)
selections_deep zero scope left v (t.Dot ∷ rest) h e = refl
selections_deep (suc r) scope left v (t.Dot ∷ rest) h e = absurd cc
selections_deep r scope left v [] h e = absurd cc
selections_deep r scope left v (symbol ∷ rest) h e = absurd cc

pub selections_some : (r : ℕ) (scope : Scope) (left : ℕ) (v : Value) (symbols : List Symbol) → is_dot symbols ≡ true → 0 < r
    → selections_at r scope left v symbols ≡ (selection_at scope (drop 1 symbols) >>= λ s. selections_at (r - 1) scope left (sugar.Apply left (operation.Select s.0) (value_and v no_values)) s.1)
selections_some zero scope left v symbols h some = absurd (omega arith)
selections_some (suc r) scope left v (t.Dot ∷ rest) h some = let e : suc r - 1 ≡ r = omega arith in rw e refl
selections_some (suc r) scope left v [] h some = absurd cc
selections_some (suc r) scope left v (symbol ∷ rest) h some = absurd cc

-- ---- statements behind others

pub others_none : (statement : StatementReader) (c : Closer) (scope : Scope) (n : ℕ) (before : Statements) (symbols : List Symbol) → n ≡ 0 → others_at statement c scope n before symbols ≡ fault_expected (expected_behind c) symbols
unfolding others_at
others_none statement c scope zero before symbols e = refl
others_none statement c scope (suc n) before symbols e = absurd cc

pub others_some : (statement : StatementReader) (c : Closer) (scope : Scope) (n : ℕ) (before : Statements) (symbols : List Symbol) → 0 < n → others_at statement c scope n before symbols ≡ (if is_end_of c symbols then Ok (before, symbols) else (statement scope (expected_behind c) symbols >>= λ s. others_at statement c scope (n - 1) (with_statement before s.0) s.1))
unfolding others_at
others_some statement c scope zero before symbols h = absurd (omega arith)
others_some statement c scope (suc n) before symbols h = let e : suc n - 1 ≡ n = omega arith in rw e refl

pub others_end : (statement : StatementReader) (c : Closer) (scope : Scope) (before : Statements) (symbols : List Symbol) → is_end_of c symbols ≡ true → others_at statement c scope (length symbols + 1) before symbols ≡ Ok (before, symbols)
others_end statement c scope before symbols ends =
    others_some statement c scope (length symbols + 1) before symbols (omega arith)
    ∙ ap (λ (b : Bool). if b then Ok (before, symbols) else (statement scope (expected_behind c) symbols >>= λ s. others_at statement c scope (length symbols + 1 - 1) (with_statement before s.0) s.1)) ends

-- ---- clauses

pub value_clauses_none : (value : ValueReader) (scope : Scope) (n : ℕ) (before : ValueClauses) (symbols : List Symbol) → n ≡ 0 → value_clauses_at value scope n before symbols ≡ fault_expected what.Pattern symbols
unfolding value_clauses_at
value_clauses_none value scope zero before symbols e = refl
value_clauses_none value scope (suc n) before symbols e = absurd cc

value_clause_end : (another : List Symbol → Read ValueClauses) (cs : ValueClauses) (symbols : List Symbol)
    → value_clause_end_at another cs symbols ≡ (if is_end_of closer.Else symbols then Ok (cs, drop 1 symbols) else (if is_clause symbols then another (drop 1 symbols) else fault_expected what.ClauseOrElse symbols))
value_clause_end another cs [] = refl
value_clause_end another cs (t.Clause ∷ rest) = refl
value_clause_end another cs (t.Else ∷ rest) = refl
value_clause_end another cs (symbol ∷ rest) = refl

-- what is read behind the clauses with one more
abbrev pub value_clauses_behind : ValueReader → Scope → ℕ → ValueClauses → List Symbol → Read ValueClauses
value_clauses_behind value scope n cs symbols =
    if is_end_of closer.Else symbols then Ok (cs, drop 1 symbols)
    else (if is_clause symbols then value_clauses_at value scope n cs (drop 1 symbols) else fault_expected what.ClauseOrElse symbols)

pub value_clauses_some : (value : ValueReader) (scope : Scope) (n : ℕ) (before : ValueClauses) (symbols : List Symbol) → 0 < n
    → value_clauses_at value scope n before symbols ≡ (value_clause_at value scope symbols >>= λ c. value_clauses_behind value scope (n - 1) (with_value_clause before c.0.0 c.0.1) c.1)
unfolding value_clauses_at
value_clauses_some value scope zero before symbols h = absurd (omega arith)
value_clauses_some value scope (suc n) before symbols h =
    let e : suc n - 1 ≡ n = omega arith in
    rw e (behind_same (value_clause_at value scope symbols) _ _ (λ c. value_clause_end (value_clauses_at value scope n (with_value_clause before c.0.0 c.0.1)) (with_value_clause before c.0.0 c.0.1) c.1))

pub clauses_none : (statement : StatementReader) (scope : Scope) (n : ℕ) (before : Clauses) (symbols : List Symbol) → n ≡ 0 → clauses_at statement scope n before symbols ≡ fault_expected what.Pattern symbols
unfolding clauses_at
clauses_none statement scope zero before symbols e = refl
clauses_none statement scope (suc n) before symbols e = absurd cc

clause_end : (another : List Symbol → Read Clauses) (cs : Clauses) (symbols : List Symbol) → clause_end_at another cs symbols ≡ (if is_clause symbols then another (drop 1 symbols) else Ok (cs, drop 1 symbols))
clause_end another cs [] = refl
clause_end another cs (t.Clause ∷ rest) = refl
clause_end another cs (symbol ∷ rest) = refl

-- what is read behind the clauses with one more
abbrev pub clauses_behind : StatementReader → Scope → ℕ → Clauses → List Symbol → Read Clauses
clauses_behind statement scope n cs symbols = if is_clause symbols then clauses_at statement scope n cs (drop 1 symbols) else Ok (cs, drop 1 symbols)

pub clauses_some : (statement : StatementReader) (scope : Scope) (n : ℕ) (before : Clauses) (symbols : List Symbol) → 0 < n
    → clauses_at statement scope n before symbols ≡ (clause_at statement scope symbols >>= λ c. clauses_behind statement scope (n - 1) (with_clause before c.0.0 c.0.1) c.1)
unfolding clauses_at
clauses_some statement scope zero before symbols h = absurd (omega arith)
clauses_some statement scope (suc n) before symbols h =
    let e : suc n - 1 ≡ n = omega arith in
    rw e (behind_same (clause_at statement scope symbols) _ _ (λ c. clause_end (clauses_at statement scope n (with_clause before c.0.0 c.0.1)) (with_clause before c.0.0 c.0.1) c.1))
