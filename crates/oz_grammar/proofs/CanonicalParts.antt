-- What stands before bodies in its canonical form: it passes, is the same row, and declares as many identifiers.
use Rattle.std.proofs.Common.{◌≡◌, ◌∙◌, ℕ, zero, suc, ◌+◌, ◌-◌, ◌<◌, ◌≤◌, ◌^◌, List, [], ◌∷◌, ◌++◌, length, Bool, true, Option, Some, None, refl, sym, ap, subst, arith, length-append}
use Rattle.std.specs.Prelude.{nat_lt, ℤ}
use Rattle.tree_node.specs.declared.names.CodeId.{CodeId}
use Rattle.tree_node.specs.declared.node.Feature.{Feature}
use Rattle.tree_node.specs.Node.{AreAscending}
use Rattle.kernel_syntax.specs.declared.stmt.Pattern.{Pattern}
use Rattle.kernel_syntax.specs.declared.stmt.Pattern.TheVariants as pattern
use Rattle.kernel_syntax.specs.Scopes as scopes
use Rattle.kernel_syntax.specs.Program.{IsPattern}
use Rattle.oz_grammar.specs.declared.symbol.Symbol.{Symbol}
use Rattle.oz_grammar.specs.declared.symbol.Symbol.TheVariants as t
use Rattle.oz_grammar.specs.declared.symbol.Purpose.TheVariants as purpose
use Rattle.oz_grammar.specs.declared.fault.Fault.{Fault}
use Rattle.oz_grammar.specs.declared.fault.FaultKind.TheVariants.{Wide}
use Rattle.oz_grammar.specs.Grammar.{Identifier, Opening, Locals, ProcValue, ProcNamed, Threads, ThreadsAt, Choice, Ifs, Cases, opening_text, choice_text}
use Rattle.oz_grammar.specs.Scoping.{Scope, declaration_of, pattern_names, opening_scope, choice_scope}
use Rattle.oz_grammar.specs.Table.{value_of, features_in, record_pattern, pattern_of, opening_row, choice_row}
use Rattle.oz_grammar.specs.Faults.{where_not, use_fault, count_fault, site_fault}
use Rattle.oz_grammar.specs.Check.{check_pattern, check_locals, check_formals, check_opening, check_choice}
use Rattle.oz_grammar.specs.Canonical.{name_at, names_from, pattern_tree, row_symbols}
use Rattle.oz_grammar.proofs.FieldOrder.{stopped}
use Rattle.oz_grammar.proofs.TableLimits.{locals_few, formals_few, pattern_limits}
use Rattle.oz_grammar.proofs.TableScopes.{used_within}
use Rattle.oz_grammar.proofs.CanonicalNames.{length_from, names_append, next_is_new}
use Rattle.oz_grammar.proofs.CanonicalFields.{marked_fields, marked_check, declared_pass, with_names, with_names_features, with_names_names, with_names_marked, with_names_length}
use Rattle.oz_grammar.proofs.CanonicalRows.{used, place}

-- as many identifiers as are declared
abbrev pub canonical_scope : Scope → Scope
canonical_scope scope = names_from 0 (length scope)

abbrev pub canonical_opening : Opening → Scope → Opening
canonical_opening (Locals x xs) scope = Locals (name_at (length scope)) (names_from (length scope + 1) (length xs))
canonical_opening (ProcValue x xs) scope = ProcValue (name_at (declaration_of scope x)) (names_from (length scope) (length xs))
canonical_opening (ProcNamed x xs) scope = ProcValue (name_at (declaration_of scope x)) (names_from (length scope) (length xs))
canonical_opening Threads scope = Threads
canonical_opening (ThreadsAt n) scope = ThreadsAt (Some (value_of n))

abbrev pub canonical_choice : Choice → Scope → Choice
canonical_choice (Ifs x) scope = Ifs (name_at (declaration_of scope x))
canonical_choice (Cases x p) scope = Cases (name_at (declaration_of scope x)) (pattern_tree (length scope) (pattern_of p))

-- ---- lists of names

few : (k : ℕ) → k < 64 → count_fault k ≡ None
few k lt = let yes : nat_lt k 64 ≡ true = grind arith in ap (λ (b : Bool). where_not b Wide) yes

pub locals_pass : (count first : ℕ) (before : List Identifier) (rest : List Symbol) (behind : Option Fault) → length before + count ≤ 64 → check_locals before (names_from first count) rest behind ≡ behind
locals_pass zero first before rest behind le = refl
locals_pass (suc count) first before rest behind le =
    let more = locals_pass count (first + 1) (before ++ name_at first ∷ []) rest behind (omega (arith, le, length-append before (name_at first ∷ []))) in
    rw (few (length before) (omega (arith, le))) more

formals_pass : (count first k : ℕ) (rest : List Symbol) (behind : Option Fault) → k + count ≤ 64 → first + 64 < 2 ^ 64 → check_formals (names_from first k) (names_from (first + k) count) rest behind ≡ behind
formals_pass zero first k rest behind le small = refl
formals_pass (suc count) first k rest behind le small =
    let l = length_from first k in
    let fresh = next_is_new first k (omega (arith, le, small)) in
    let e : first + k + 1 ≡ first + (k + 1) = omega arith in
    let longer : names_from first k ++ name_at (first + k) ∷ [] ≡ names_from first (k + 1) = sym (names_append first k 1) in
    let more = formals_pass count first (k + 1) rest behind (omega (arith, le)) small in
    rw (few (length (names_from first k)) (omega (arith, l, le)), fresh, longer, e) more

pub from_zero : (first count : ℕ) (rest : List Symbol) (behind : Option Fault) → count ≤ 64 → first + 64 < 2 ^ 64 → check_formals [] (names_from first count) rest behind ≡ behind
from_zero first count rest behind le small =
    let e : first + 0 ≡ first = omega arith in
    subst (λ (m : ℕ). check_formals [] (names_from m count) rest behind ≡ behind) e (formals_pass count first 0 rest behind (omega (arith, le)) small)

-- more identifiers behind those of a scope
pub scope_more : (scope : Scope) (count : ℕ) → names_from 0 (length scope) ++ names_from (length scope) count ≡ names_from 0 (length scope + count)
scope_more scope count =
    let e : 0 + length scope ≡ length scope = omega arith in
    subst (λ (m : ℕ). names_from 0 (length scope) ++ names_from m count ≡ names_from 0 (length scope + count)) e (sym (names_append 0 (length scope) count))

scope_behind : (scope : Scope) (xs : List Identifier) → names_from 0 (length scope) ++ names_from (length scope) (length xs) ≡ names_from 0 (length (scope ++ xs))
scope_behind scope xs = scope_more scope (length xs) ∙ ap (names_from 0) (sym (length-append scope xs))

-- ---- patterns

pub pattern_pass : (p : Pattern) (first : ℕ) (scope : Scope) (rest : List Symbol) (behind : Option Fault) → IsPattern p → first + 64 < 2 ^ 64 → check_pattern (pattern_tree first p) scope rest behind ≡ behind
pattern_pass (pattern.Int z) first scope rest behind is small = refl
pattern_pass (pattern.Atom a) first scope rest behind is small = refl
pattern_pass (pattern.Rec label features) first scope rest behind is small =
    let up : AreAscending (features_in (with_names first features)) = subst AreAscending (sym (with_names_features first features)) is.2 in
    let pass = marked_check (with_names first features) purpose.Declare scope (t.CloseRound ∷ rest) behind up (omega (arith, with_names_length first features, is.1)) (declared_pass features first scope (omega (arith, is.1, small))) in
    rw (with_names_marked first features) pass

record_again : (label : List ℕ) (features : List Feature) → 1 ≤ length features → record_pattern label features ≡ pattern.Rec label features
record_again label [] le = absurd (omega (arith, le))
record_again label (f ∷ fs) le = refl

pub pattern_again : (p : Pattern) (first : ℕ) → IsPattern p → pattern_of (pattern_tree first p) ≡ p
pattern_again (pattern.Int z) first is = refl
pattern_again (pattern.Atom a) first is = refl
pattern_again (pattern.Rec label features) first is =
    let up : AreAscending (features_in (with_names first features)) = subst AreAscending (sym (with_names_features first features)) is.2 in
    rw (with_names_marked first features, marked_fields (with_names first features) up, with_names_features first features) (record_again label features is.0)

pub pattern_names_again : (p : Pattern) (first : ℕ) → IsPattern p → pattern_names (pattern_tree first p) ≡ names_from first (length (scopes.features_in p))
pattern_names_again (pattern.Int z) first is = refl
pattern_names_again (pattern.Atom a) first is = refl
pattern_names_again (pattern.Rec label features) first is =
    let up : AreAscending (features_in (with_names first features)) = subst AreAscending (sym (with_names_features first features)) is.2 in
    rw (with_names_marked first features, marked_fields (with_names first features) up) (with_names_names first features)

-- ---- before one body

-- what the canonical form of an opening does
pub record OpensAgain (o : Opening) (scope : Scope) : Type 0 where
  pub passes : (rest : List Symbol) (behind : Option Fault) → check_opening (canonical_opening o scope) (canonical_scope scope) rest behind ≡ behind
  pub row : (c : CodeId) → opening_row (canonical_opening o scope) (canonical_scope scope) c ≡ opening_row o scope c
  pub declares : opening_scope (canonical_opening o scope) (canonical_scope scope) ≡ canonical_scope (opening_scope o scope)

site_pass : (n : Option ℤ) → site_fault n ≡ None → site_fault (Some (value_of n)) ≡ None
site_pass (Some z) e = e
site_pass None e = cc

proc_again : (scope : Scope) (x : Identifier) (xs : List Identifier) → length scope ≤ 12800 → declaration_of scope x < length scope → length xs ≤ 64 → OpensAgain (ProcValue x xs) scope
proc_again scope x xs le within most =
    let small : length scope ≤ 2 ^ 64 = omega (arith, le) in
    let l = length_from (length scope) (length xs) in
    let n = length_from 0 (length scope) in
    let at = place (length scope) small (declaration_of scope x) within in
    record {
      passes = λ rest behind. let pass = from_zero (length scope) (length xs) (t.CloseCurly ∷ rest) behind most (omega (arith, le)) in rw (used (length scope) small (declaration_of scope x) within) pass;
      row = λ c. rw (at, n, l) refl;
      declares = scope_behind scope xs;
    }

pub opening_again : (o : Opening) (scope : Scope) (rest : List Symbol) (behind : Option Fault) → length scope ≤ 12800 → check_opening o scope rest behind ≡ None → OpensAgain o scope
opening_again (Locals x xs) scope rest behind le e =
    let h = locals_few (x ∷ []) xs (t.In ∷ rest) behind e (omega arith) in
    let l = length_from (length scope + 1) (length xs) in
    let n = length_from 0 (length scope) in
    record {
      passes = λ r b. locals_pass (length xs) (length scope + 1) (name_at (length scope) ∷ []) (t.In ∷ r) b (omega (arith, h.1));
      row = λ c. rw (n, l) refl;
      declares = scope_behind scope (x ∷ xs);
    }
opening_again (ProcValue x xs) scope rest behind le e =
    let s = stopped (use_fault scope x) _ _ e in
    let h = formals_few [] xs (t.CloseCurly ∷ rest) behind s.1 (omega arith) in
    proc_again scope x xs le (used_within scope x s.0) (omega (arith, h.1))
opening_again (ProcNamed x xs) scope rest behind le e =
    let s = stopped (use_fault scope x) _ _ e in
    let h = formals_few [] xs (t.CloseCurly ∷ rest) behind s.1 (omega arith) in
    let again = proc_again scope x xs le (used_within scope x s.0) (omega (arith, h.1)) in
    record { passes = again.passes; row = again.row; declares = again.declares }
opening_again Threads scope rest behind le e = record { passes = λ r b. refl; row = λ c. refl; declares = refl }
opening_again (ThreadsAt n) scope rest behind le e =
    let s = stopped (site_fault n) _ behind e in
    record { passes = λ r b. rw (site_pass n s.0) refl; row = λ c. refl; declares = refl }

pub opening_symbols : (o : Opening) (scope : Scope) (c : CodeId) (body : CodeId → List Symbol → List Symbol) (rest : List Symbol)
    → row_symbols body (opening_row o scope c) rest ≡ opening_text (canonical_opening o scope) (body c (t.End ∷ rest))
opening_symbols (Locals x xs) scope c body rest = let e : suc (length xs) - 1 ≡ length xs = omega arith in rw e refl
opening_symbols (ProcValue x xs) scope c body rest = refl
opening_symbols (ProcNamed x xs) scope c body rest = refl
opening_symbols Threads scope c body rest = refl
opening_symbols (ThreadsAt n) scope c body rest = refl

-- ---- before two bodies

pub record ChoosesAgain (h : Choice) (scope : Scope) : Type 0 where
  pub passes : (rest : List Symbol) (behind : Option Fault) → check_choice (canonical_choice h scope) (canonical_scope scope) rest behind ≡ behind
  pub row : (b c : CodeId) → choice_row (canonical_choice h scope) (canonical_scope scope) b c ≡ choice_row h scope b c
  pub declares : choice_scope (canonical_choice h scope) (canonical_scope scope) ≡ canonical_scope (choice_scope h scope)

pub choice_again : (h : Choice) (scope : Scope) (rest : List Symbol) (behind : Option Fault) → length scope ≤ 12800 → check_choice h scope rest behind ≡ None → ChoosesAgain h scope
choice_again (Ifs x) scope rest behind le e =
    let small : length scope ≤ 2 ^ 64 = omega (arith, le) in
    let within = used_within scope x (stopped (use_fault scope x) _ behind e).0 in
    record {
      passes = λ r b. rw (used (length scope) small (declaration_of scope x) within) refl;
      row = λ b c. rw (place (length scope) small (declaration_of scope x) within) refl;
      declares = refl;
    }
choice_again (Cases x p) scope rest behind le e =
    let small : length scope ≤ 2 ^ 64 = omega (arith, le) in
    let s = stopped (use_fault scope x) _ _ e in
    let within = used_within scope x s.0 in
    let d = pattern_limits p scope (t.Then ∷ rest) behind s.1 in
    let n = length_from 0 (length scope) in
    let names = pattern_names_again (pattern_of p) (length scope) d.is in
    let l = length-append scope (pattern_names p) in
    record {
      passes = λ r b. let pass = pattern_pass (pattern_of p) (length scope) (names_from 0 (length scope)) (t.Then ∷ r) b d.is (omega (arith, le)) in rw (used (length scope) small (declaration_of scope x) within) pass;
      row = λ b c. rw (place (length scope) small (declaration_of scope x) within, n, pattern_again (pattern_of p) (length scope) d.is) refl;
      declares = rw (names, scope_more scope (length (scopes.features_in (pattern_of p))), l, d.each) refl;
    }

pub choice_symbols : (h : Choice) (scope : Scope) (b c : CodeId) (body : CodeId → List Symbol → List Symbol) (rest : List Symbol)
    → row_symbols body (choice_row h scope b c) rest ≡ choice_text (canonical_choice h scope) (body b (t.Else ∷ body c (t.End ∷ rest)))
choice_symbols (Ifs x) scope b c body rest = refl
choice_symbols (Cases x p) scope b c body rest = refl

-- a handler's identifier
pub handler_again : (scope : Scope) (x : Identifier) → canonical_scope scope ++ name_at (length scope) ∷ [] ≡ canonical_scope (scope ++ x ∷ [])
handler_again scope x = scope_behind scope (x ∷ [])
