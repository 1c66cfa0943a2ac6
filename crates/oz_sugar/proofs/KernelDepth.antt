-- A program of the kernel, within its 200 levels, stands for nothing deeper.
use Rattle.std.proofs.Common.{◌≡◌, ◌∙◌, ℕ, zero, suc, ◌+◌, ◌≤◌, List, [], ◌∷◌, ◌++◌, map, Bool, cond, Option, Some, None, refl, ap, arith}
use Rattle.std.proofs.lemmas.Bool.{le-ltb}
use Rattle.tree_node.specs.declared.node.Feature.{Feature}
use Rattle.kernel_syntax.specs.declared.built_in.BuiltIn.{BuiltIn}
use Rattle.kernel_syntax.specs.declared.sugar.Field.{Field}
use Rattle.kernel_syntax.specs.Sugar.{Value, Values, no_values, new_in}
use Rattle.oz_grammar.specs.declared.symbol.Symbol.{Symbol}
use Rattle.oz_grammar.specs.declared.symbol.Symbol.TheVariants as t
use Rattle.oz_grammar.specs.declared.fault.Fault.{Fault}
use Rattle.oz_grammar.specs.Grammar.{Identifier, ByVariable, ByFeature, seq_text}
use Rattle.oz_grammar.specs.Grammar as kernel
use Rattle.oz_grammar.specs.Scoping.{Scope, declaration_of, built_in_at, fields_behind, pattern_names, opening_scope, choice_scope}
use Rattle.oz_grammar.specs.Faults.{deep_fault, fewer}
use Rattle.oz_grammar.specs.Check as checks
use Rattle.oz_grammar.proofs.FieldOrder.{stopped}
use Rattle.oz_grammar.proofs.TableLimits.{plain_limits}
use Rattle.surface_grammar.specs.Derivations.{Sequence, sequence_text}
use Rattle.surface_grammar.specs.Trees.{record_value, call_statement, value_in, arguments_of, statement_of, sequence_of, program_of}
use Rattle.surface_grammar.proofs.Lifting.{lift_arguments, lift_value, lift_plain, lift_block, lift_choice, lift_statement, lift, lifted}
use Rattle.oz_sugar.specs.Laws.{KernelExpands}
use Rattle.oz_sugar.specs.Deep.{or_else, too_deep, deep_value, deep_parts, deep_statement, deep_statements, deep}
use Rattle.sugar_rows.proofs.KernelExpansions.{slot_of, fields_are, opening_behind, choice_behind, table_is}

-- at this depth nothing is too deep
within : (depth left : ℕ) (behind : Option ℕ) → depth ≤ 200 → too_deep depth left behind ≡ behind
within depth left behind le = ap (λ (b : Bool). cond b (Some left) behind) (le-ltb 200 depth le)

-- .. and where nothing behind is, either
nor_behind : (depth left : ℕ) (behind : Option ℕ) → depth ≤ 200 → behind ≡ None → too_deep depth left behind ≡ None
nor_behind depth left behind le e = within depth left behind le ∙ e

neither : (a b : Option ℕ) → a ≡ None → b ≡ None → or_else a b ≡ None
neither None b e f = f
neither (Some left) b e f = absurd cc

-- ---- statements without bodies

record_shallow : (slots : List (Feature × Field)) (left at depth : ℕ) (a : List ℕ) → depth ≤ 200 → deep_value (record_value left a slots no_values) at depth ≡ None
record_shallow [] left at depth a le = within depth at None le
record_shallow (slot ∷ slots) left at depth a le = within (depth + 0) at None (omega arith)

value_shallow : (v : kernel.Value) (scope : Scope) (symbols : List Symbol) (at depth : ℕ) → depth ≤ 200 → deep_value (value_in (lift_value v) scope symbols) at depth ≡ None
value_shallow (kernel.ToVar y) scope symbols at depth le = within depth at None le
value_shallow (kernel.Calculates y o z) scope symbols at depth le = within (depth + 0) at None (omega arith)
value_shallow (kernel.Tests y o z) scope symbols at depth le = within (depth + 0) at None (omega arith)
value_shallow (kernel.Selects y (ByVariable z)) scope symbols at depth le = within (depth + 0) at None (omega arith)
value_shallow (kernel.Selects y (ByFeature m)) scope symbols at depth le = within (depth + 0) at None (omega arith)
value_shallow (kernel.Pairs h u) scope symbols at depth le = within (depth + 0) at None (omega arith)
value_shallow (kernel.ToInt n) scope symbols at depth le = within depth at None le
value_shallow (kernel.ToAtom a) scope symbols at depth le = within depth at None le
value_shallow (kernel.ToRecord a fs) scope symbols at depth le =
    ap (λ (v : Value). deep_value v at depth) (fields_are fs scope 1 0 [] (t.CloseRound ∷ symbols) _ a) ∙ record_shallow (map (slot_of scope) (fields_behind [] 1 fs)) _ at depth a le

none_new : (xs : List Identifier) (scope : Scope) (symbols : List Symbol) → new_in (arguments_of (lift_arguments xs) scope symbols) ≡ 0
none_new [] scope symbols = refl
none_new (x ∷ xs) scope symbols = let h = none_new xs scope symbols in omega arith

parts_shallow : (xs : List Identifier) (scope : Scope) (symbols : List Symbol) (depth : ℕ) → deep_parts (arguments_of (lift_arguments xs) scope symbols) depth ≡ None
parts_shallow [] scope symbols depth = refl
parts_shallow (x ∷ xs) scope symbols depth = parts_shallow xs scope symbols (depth + 0)

call_shallow : (o : Option BuiltIn) (p left depth : ℕ) (vs : Values) → depth ≤ 200 → new_in vs ≡ 0 → deep_parts vs depth ≡ None → deep_statement (call_statement o left p vs) depth ≡ None
call_shallow (Some b) p left depth vs le new e = nor_behind (depth + new_in vs) left (deep_parts vs depth) (omega (arith, new)) e
call_shallow None p left depth vs le new e = nor_behind (depth + new_in vs) left (deep_parts vs depth) (omega (arith, new)) e

plain_shallow : (s : kernel.Plain) (scope : Scope) (symbols : List Symbol) (depth : ℕ) → depth ≤ 200 → deep_statement (statement_of (lift_plain s) scope symbols) depth ≡ None
plain_shallow kernel.Skips scope symbols depth le = within depth _ None le
plain_shallow (kernel.Tells x v) scope symbols depth le = value_shallow v scope symbols _ depth le
plain_shallow (kernel.Calls p xs) scope symbols depth le =
    call_shallow (built_in_at scope p) (declaration_of scope p) _ depth (arguments_of (lift_arguments xs) scope (t.CloseCurly ∷ symbols)) le (none_new xs scope (t.CloseCurly ∷ symbols)) (parts_shallow xs scope (t.CloseCurly ∷ symbols) depth)
plain_shallow (kernel.Raises x) scope symbols depth le = within (depth + 0) _ None (omega arith)

-- ---- statements with bodies, one level deeper

block_shallow : (o : kernel.Opening) (q : Sequence) (scope : Scope) (symbols : List Symbol) (depth : ℕ) → depth ≤ 200 → deep_statements (sequence_of q (opening_scope o scope) (t.End ∷ symbols)) (depth + 1) ≡ None
    → deep_statement (statement_of (lift_block o q) scope symbols) depth ≡ None
block_shallow (kernel.Locals x xs) q scope symbols depth le e = nor_behind depth _ _ le e
block_shallow (kernel.ProcValue x xs) q scope symbols depth le e = nor_behind depth _ _ le e
block_shallow (kernel.ProcNamed x xs) q scope symbols depth le e = nor_behind depth _ _ le e
block_shallow kernel.Threads q scope symbols depth le e = nor_behind depth _ _ le e
block_shallow (kernel.ThreadsAt n) q scope symbols depth le e = nor_behind depth _ _ le e

choice_shallow : (h : kernel.Choice) (q r : Sequence) (scope : Scope) (symbols : List Symbol) (depth : ℕ) → depth ≤ 200
    → deep_statements (sequence_of q (choice_scope h scope) (t.Else ∷ sequence_text r (t.End ∷ symbols))) (depth + 1) ≡ None → deep_statements (sequence_of r scope (t.End ∷ symbols)) (depth + 1) ≡ None
    → deep_statement (statement_of (lift_choice h q r) scope symbols) depth ≡ None
choice_shallow (kernel.Ifs x) q r scope symbols depth le e f =
    let same : depth + 0 + 1 ≡ depth + 1 = omega arith in
    nor_behind (depth + 0) _ _ (omega arith) (neither _ _ (ap (deep_statements (sequence_of q scope (t.Else ∷ sequence_text r (t.End ∷ symbols)))) same ∙ e) (ap (deep_statements (sequence_of r scope (t.End ∷ symbols))) same ∙ f))
choice_shallow (kernel.Cases x p) q r scope symbols depth le e f =
    let same : depth + 0 + 1 ≡ depth + 1 = omega arith in
    nor_behind (depth + 0 + 0) _ _ (omega arith)
    (neither _ _ (neither _ None (ap (deep_statements (sequence_of q (scope ++ pattern_names p) (t.Else ∷ sequence_text r (t.End ∷ symbols)))) same ∙ e) refl) (ap (deep_statements (sequence_of r scope (t.End ∷ symbols))) same ∙ f))

-- where a statement may stand with d levels left at this depth
record Inside (d depth : ℕ) : Type 0 where
  here : depth ≤ 200
  there : depth + 1 + fewer d ≡ 201

inside : (d depth : ℕ) → deep_fault d ≡ None → depth + d ≡ 201 → Inside d depth
inside zero depth e sum = absurd cc
inside (suc d) depth e sum = record { here = omega arith; there = omega arith }

mutual
  statement_shallow : (s : kernel.Statement) (d depth : ℕ) (scope : Scope) (rest symbols : List Symbol) (behind : Option Fault) → depth + d ≡ 201 → checks.check_stmt s d scope rest behind ≡ None
      → (behind ≡ None) × (deep_statement (statement_of (lift_statement s) scope symbols) depth ≡ None)
  statement_shallow (kernel.Simple s) d depth scope rest symbols behind sum e =
      let u = stopped (deep_fault d) _ _ e in ((plain_limits s scope rest behind u.1).0, plain_shallow s scope symbols depth (inside d depth u.0 sum).here)
  statement_shallow (kernel.Block o q) d depth scope rest symbols behind sum e =
      let u = stopped (deep_fault d) _ _ e in
      let i = inside d depth u.0 sum in
      let k = sequence_shallow q (fewer d) (depth + 1) (opening_scope o scope) (t.End ∷ rest) (t.End ∷ symbols) behind i.there (opening_behind o scope _ _ u.1) in
      (k.0, block_shallow o (lift q) scope symbols depth i.here k.1)
  statement_shallow (kernel.Chooses h q r) d depth scope rest symbols behind sum e =
      let u = stopped (deep_fault d) _ _ e in
      let i = inside d depth u.0 sum in
      let k = sequence_shallow q (fewer d) (depth + 1) (choice_scope h scope) _ (t.Else ∷ sequence_text (lift r) (t.End ∷ symbols)) _ i.there (choice_behind h scope _ _ u.1) in
      let m = sequence_shallow r (fewer d) (depth + 1) scope (t.End ∷ rest) (t.End ∷ symbols) behind i.there k.0 in
      (m.0, choice_shallow h (lift q) (lift r) scope symbols depth i.here k.1 m.1)
  statement_shallow (kernel.Tries q x r) d depth scope rest symbols behind sum e =
      let u = stopped (deep_fault d) _ _ e in
      let i = inside d depth u.0 sum in
      let k = sequence_shallow q (fewer d) (depth + 1) scope _ (t.Catch ∷ t.Variable x ∷ t.Then ∷ sequence_text (lift r) (t.End ∷ symbols)) _ i.there u.1 in
      let m = sequence_shallow r (fewer d) (depth + 1) (scope ++ x ∷ []) (t.End ∷ rest) (t.End ∷ symbols) behind i.there k.0 in
      (m.0, nor_behind depth _ _ i.here (neither _ _ k.1 m.1))

  sequence_shallow : (q : kernel.Sequence) (d depth : ℕ) (scope : Scope) (rest symbols : List Symbol) (behind : Option Fault) → depth + d ≡ 201 → checks.check_seq q d scope rest behind ≡ None
      → (behind ≡ None) × (deep_statements (sequence_of (lift q) scope symbols) depth ≡ None)
  sequence_shallow (kernel.One s) d depth scope rest symbols behind sum e = let k = statement_shallow s d depth scope rest symbols behind sum e in (k.0, neither _ None k.1 refl)
  sequence_shallow (kernel.Then s q) d depth scope rest symbols behind sum e =
      let k = statement_shallow s d depth scope (seq_text q rest) (sequence_text (lift q) symbols) _ sum e in
      let m = sequence_shallow q d depth scope rest symbols behind sum k.0 in
      (m.0, neither _ _ k.1 m.1)

-- what a program of the kernel is read as with sugar is not too deep
pub kernel_shallow : (q : kernel.Sequence) → checks.check q ≡ None → deep (program_of (lift q)) ≡ None
kernel_shallow q e = (sequence_shallow q 200 1 [] (t.EndOfText ∷ []) (t.EndOfText ∷ []) None refl e).1

pub kernel_expands : KernelExpands
kernel_expands symbols p r = (program_of (lift r.program), lifted symbols p r, kernel_shallow r.program r.passes, r.table ∙ table_is r.program r.passes)
