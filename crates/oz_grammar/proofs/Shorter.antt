-- What is read leaves fewer symbols.
use Rattle.std.proofs.Common.{ℕ, zero, suc, ◌+◌, ◌≤◌, List, [], ◌∷◌, length, drop, true, false, cond, Option, Some, None, Result, Ok, Err, arith}
use Rattle.std.specs.Prelude.{IfOk}
use Rattle.oz_grammar.specs.declared.symbol.Symbol.{Symbol}
use Rattle.oz_grammar.specs.declared.symbol.Symbol.TheVariants as t
use Rattle.oz_grammar.specs.declared.symbol.Sign.{Sign}
use Rattle.oz_grammar.specs.declared.symbol.Sign.TheVariants as sign
use Rattle.oz_grammar.specs.declared.symbol.Purpose.{Purpose}
use Rattle.oz_grammar.specs.declared.symbol.Purpose.TheVariants as purpose
use Rattle.oz_grammar.specs.declared.fault.Fault.{Fault}
use Rattle.oz_grammar.specs.declared.fault.FaultKind.{FaultKind}
use Rattle.oz_grammar.specs.Grammar.{Identifier, FeatureToken, AtomFeature, IntFeature}
use Rattle.oz_grammar.specs.Scoping.{Scope, Fields}
use Rattle.oz_grammar.specs.Points.{expected_sign, is_sign}
use Rattle.oz_grammar.specs.Reading.{◌>>=◌, fault_expected, fault_or, sign_at, field_name_at, named_field_at, field_at, is_close_round, fields_at, pair_pattern_at, record_pattern_at, pattern_at}

-- what is read leaves at most n symbols
abbrev pub Leaves : {X : Type 0} → (X → List Symbol) → ℕ → Result X Fault → Type 0
Leaves rest n r = IfOk r (λ x. length (rest x) ≤ n)

pub leaves_unless : {X : Type 0} (rest : X → List Symbol) (n : ℕ) (wrong : Option FaultKind) (symbols : List Symbol) (r : Result X Fault) → Leaves rest n r → Leaves rest n (fault_or wrong symbols r)
leaves_unless rest n None symbols r h = h
leaves_unless rest n (Some kind) symbols r h = tt

pub leaves_then : {X Y : Type 0} (rest : X → List Symbol) (left : Y → List Symbol) (m n : ℕ) (r : Result X Fault) (f : X → Result Y Fault) → Leaves rest m r → ((x : X) → length (rest x) ≤ m → Leaves left n (f x)) → Leaves left n (r >>= f)
leaves_then rest left m n (Ok x) f h g = g x h
leaves_then rest left m n (Err e) f h g = tt

abbrev pub second : {A : Type 0} → A × List Symbol → List Symbol
second x = x.1

abbrev pub third : {A B : Type 0} → A × B × List Symbol → List Symbol
third x = x.2

abbrev pub itself : List Symbol → List Symbol
itself xs = xs

sign_short : (s : Sign) (symbols : List Symbol) (n : ℕ) → length symbols ≤ n → Leaves itself n (sign_at s symbols)
sign_short s [] n le = tt
sign_short s (x ∷ xs) n le = elim (is_sign s x) as (λ b. Leaves itself n (cond b (Ok xs) (fault_expected (expected_sign s) (x ∷ xs)))) [ true ↦ let h : length xs ≤ n = omega arith in h | false ↦ tt ]

field_name_short : (p : Purpose) (scope : Scope) (before : Fields) (next : ℕ) (m : FeatureToken) (symbols : List Symbol) (n : ℕ) → length symbols ≤ n → Leaves third n (field_name_at p scope before next m symbols)
field_name_short p scope before next m (t.Variable x ∷ xs) n le = leaves_unless third n _ (t.Variable x ∷ xs) (Ok (_, next, xs)) (omega arith)
field_name_short p scope before next m symbols n le = tt

named_short : (p : Purpose) (scope : Scope) (before : Fields) (next : ℕ) (m : FeatureToken) (symbols : List Symbol) (n : ℕ) → length symbols ≤ n → Leaves third n (named_field_at p scope before next m symbols)
named_short p scope before next m symbols n le = leaves_then itself third n n (sign_at sign.Colon symbols) _ (sign_short sign.Colon symbols n le) (λ rest h. field_name_short p scope before next m rest n h)

field_short : (p : Purpose) (scope : Scope) (room : ℕ) (before : Fields) (next : ℕ) (symbols : List Symbol) (n : ℕ) → length symbols ≤ n → Leaves third n (field_at p scope room before next symbols)
field_short p scope room before next (t.Variable x ∷ xs) n le = leaves_unless third n _ (t.Variable x ∷ xs) (Ok (_, next + 1, xs)) (omega arith)
field_short p scope room before next (t.Atom a ∷ xs) n le = leaves_unless third n _ (t.Atom a ∷ xs) _ (named_short p scope before next (AtomFeature a) xs n (omega arith))
field_short p scope room before next (t.Integer i ∷ xs) n le = leaves_unless third n _ (t.Integer i ∷ xs) _ (named_short p scope before next (IntFeature i) xs n (omega arith))
field_short p scope room before next symbols n le = tt

drop_short : (symbols : List Symbol) (n : ℕ) → length symbols ≤ n → length (drop 1 symbols) ≤ n
drop_short [] n le = omega arith
drop_short (x ∷ xs) n le = omega arith

fields_short : (room : ℕ) (p : Purpose) (scope : Scope) (before : Fields) (next : ℕ) (symbols : List Symbol) (n : ℕ) → length symbols ≤ n → Leaves second n (fields_at p scope room before next symbols)
unfolding fields_at
fields_short zero p scope before next symbols n le =
    elim (is_close_round symbols) as (λ b. Leaves second n (cond b (Ok (before, drop 1 symbols)) (field_at p scope zero before next symbols >>= λ m. Ok (m.0, m.2)))) [
      | true ↦ drop_short symbols n le
      | false ↦ leaves_then third second n n (field_at p scope zero before next symbols) _ (field_short p scope zero before next symbols n le) (λ m h. h)
    ]
fields_short (suc room) p scope before next symbols n le =
    elim (is_close_round symbols) as (λ b. Leaves second n (cond b (Ok (before, drop 1 symbols)) (field_at p scope (suc room) before next symbols >>= λ m. fields_at p scope room m.0 m.1 m.2))) [
      | true ↦ drop_short symbols n le
      | false ↦ leaves_then third second n n (field_at p scope (suc room) before next symbols) _ (field_short p scope (suc room) before next symbols n le) (λ m h. fields_short room p scope m.0 m.1 m.2 n h)
    ]

-- ---- statements

pair_short : (x : Identifier) (symbols : List Symbol) (n : ℕ) → length symbols ≤ n → Leaves third n (pair_pattern_at x symbols)
pair_short h (t.Variable x ∷ xs) n le = leaves_unless third n _ (t.Variable x ∷ xs) (Ok (_, h ∷ x ∷ [], xs)) (omega arith)
pair_short h symbols n le = tt

record_pattern_short : (a : List ℕ) (scope : Scope) (symbols : List Symbol) (n : ℕ) → length symbols ≤ n → Leaves third n (record_pattern_at a scope symbols)
record_pattern_short a scope (t.OpenRound ∷ xs) n le = leaves_then second third n n (fields_at purpose.Declare scope 64 [] 1 xs) _ (fields_short 64 purpose.Declare scope [] 1 xs n (omega arith)) (λ m h. h)
record_pattern_short a scope xs n le = le

pub pattern_short : (scope : Scope) (symbols : List Symbol) (n : ℕ) → length symbols ≤ n → Leaves third n (pattern_at scope symbols)
pattern_short scope (t.Integer i ∷ xs) n le = leaves_unless third n _ (t.Integer i ∷ xs) (Ok (_, [], xs)) (omega arith)
pattern_short scope (t.Atom a ∷ xs) n le = record_pattern_short a scope xs n (omega arith)
pattern_short scope (t.Variable x ∷ xs) n le = leaves_then itself third n n (sign_at sign.Bar xs) _ (sign_short sign.Bar xs n (omega arith)) (λ rest h. pair_short x rest n h)
pattern_short scope symbols n le = tt
