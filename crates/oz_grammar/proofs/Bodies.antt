-- Every program is what its canonical symbols are: its table is that of a derivation, body by body.
use Rattle.std.proofs.Common.{◌≡◌, ◌∙◌, ℕ, zero, suc, ◌+◌, ◌-◌, ◌*◌, ◌<◌, ◌≤◌, ◌^◌, List, [], ◌∷◌, ◌++◌, length, map, Bool, true, false, Option, Some, None, refl, sym, ap, subst, arith}
use Rattle.std.specs.Prelude.{ℤ, pos, int_lt, ◌≤ℤ◌}
use Rattle.std.proofs.lemmas.List.{append-nil}
use Rattle.tree_node.specs.declared.names.CodeId.{CodeId}
use Rattle.tree_node.specs.Each.{Each}
use Rattle.kernel_syntax.specs.declared.preorder.Body.{Body}
use Rattle.kernel_syntax.specs.declared.stmt.Pattern.{Pattern}
use Rattle.kernel_syntax.specs.declared.stmt.Stmt.{Stmt}
use Rattle.kernel_syntax.specs.declared.stmt.Stmt.TheVariants as stmt
use Rattle.kernel_syntax.specs.Scopes.{named_positions, features_in}
use Rattle.kernel_syntax.specs.Program.{IsStmt, IsPattern, IsThreadSite, IsProgram}
use Rattle.kernel_syntax.specs.Preorder.{sequence_body, bodies_in, IsBody, AreBodies, HasRoom, whole_program}
use Rattle.kernel_syntax.proofs.Below.{Below}
use Rattle.kernel_syntax.proofs.PreorderLemmas.{bodies_room}
use Rattle.oz_grammar.specs.declared.symbol.Symbol.{Symbol}
use Rattle.oz_grammar.specs.declared.symbol.Symbol.TheVariants as t
use Rattle.oz_grammar.specs.declared.fault.Fault.{Fault}
use Rattle.oz_grammar.specs.declared.fault.FaultKind.TheVariants.{Site}
use Rattle.oz_grammar.specs.Grammar.{Opening, ProcValue, Choice, Ifs, Cases, Statement, Simple, Block, Chooses, Tries, Sequence, One, Then, seq_text, program_text}
use Rattle.oz_grammar.specs.Scoping.{opening_scope, choice_scope, StmtDerives, SeqDerives}
use Rattle.oz_grammar.specs.Table.{code_at, opening_row, choice_row, stmt_rows, seq_rows, many_rows, seq_numbers}
use Rattle.oz_grammar.specs.Faults.{where_so, site_fault, deep_fault, fewer}
use Rattle.oz_grammar.specs.Check.{check_opening, check_choice, check_stmt, check_seq}
use Rattle.oz_grammar.specs.Canonical.{name_at, names_from, pattern_tree, local_opening, thread_opening}
use Rattle.oz_grammar.specs.Reads.{ReadsSymbols}
use Rattle.oz_grammar.specs.Laws.{ProgramsRead}
use Rattle.oz_grammar.proofs.TableOrder.{fewer_is}
use Rattle.oz_grammar.proofs.CanonicalNames.{length_from, names_append}
use Rattle.oz_grammar.proofs.CanonicalRows.{plain_tree, IsPlainRow, used, place, row_passes, row_again, row_derives}
use Rattle.oz_grammar.proofs.CanonicalParts.{locals_pass, from_zero, pattern_pass, pattern_again, pattern_names_again}
use Rattle.oz_grammar.proofs.CanonicalText.{canonical_reads}
use Rattle.tree_node.proofs.EachLemmas.{each_append}

-- ---- derivations of rows

-- a statement with d levels under n identifiers, whose rows from number k on are these
record IsStatement (s : Statement) (d n k : ℕ) (rows : List Stmt) : Type 0 where
  derives : StmtDerives s (names_from 0 n)
  passes : (rest : List Symbol) (behind : Option Fault) → check_stmt s d (names_from 0 n) rest behind ≡ behind
  rows_are : stmt_rows s (names_from 0 n) k ≡ rows

record IsSequence (q : Sequence) (d n k : ℕ) (rows : List Stmt) : Type 0 where
  derives : SeqDerives q (names_from 0 n)
  passes : (rest : List Symbol) (behind : Option Fault) → check_seq q d (names_from 0 n) rest behind ≡ behind
  rows_are : seq_rows q (names_from 0 n) k ≡ rows

-- one statement, or a sequence
abbrev Derived : Bool → ℕ → ℕ → ℕ → List Stmt → Type 0
Derived true d n k rows = (s : Statement) × IsStatement s d n k rows
Derived false d n k rows = (q : Sequence) × IsSequence q d n k rows

either : (one : Bool) (s : Statement) (d n k : ℕ) (rows : List Stmt) → IsStatement s d n k rows → Derived one d n k rows
either true s d n k rows is = (s, is)
either false s d n k rows is = (One s, record { derives = is.derives; passes = is.passes; rows_are = is.rows_are })

level_left : (d : ℕ) → 1 ≤ d → deep_fault d ≡ None
level_left zero le = absurd (omega arith)
level_left (suc d) le = refl

-- ---- rows without bodies

plain_is : (row : Stmt) (d n k : ℕ) → IsPlainRow row → IsStmt row → 1 ≤ d → n ≤ 12800 → Below n (named_positions row) → IsStatement (Simple (plain_tree row)) d n k (row ∷ [])
plain_is row d n k p limits level few below =
    let small : n ≤ 2 ^ 64 = omega (arith, few) in
    let left = level_left d level in
    record {
      derives = row_derives n small row p below;
      passes = λ rest behind. let pass = row_passes n small row rest behind p limits below in rw left pass;
      rows_are = ap (λ (r : Stmt). r ∷ []) (row_again n small row p limits below);
    }

-- ---- what stands before one body

-- it passes under n identifiers, declares up to m of them, and makes this row
record Opens (o : Opening) (n m : ℕ) (row : CodeId → Stmt) : Type 0 where
  passes : (rest : List Symbol) (behind : Option Fault) → check_opening o (names_from 0 n) rest behind ≡ behind
  scope : opening_scope o (names_from 0 n) ≡ names_from 0 m
  row_is : (c : CodeId) → opening_row o (names_from 0 n) c ≡ row c

scope_behind : (n count : ℕ) → names_from 0 n ++ names_from n count ≡ names_from 0 (n + count)
scope_behind n count =
    let z : 0 + n ≡ n = omega arith in
    subst (λ (j : ℕ). names_from 0 n ++ names_from j count ≡ names_from 0 (n + count)) z (sym (names_append 0 n count))

local_opens : (n count : ℕ) → 1 ≤ count → count ≤ 64 → Opens (local_opening n count) n (n + count) (λ c. stmt.Local n count c)
local_opens n zero some few = absurd (omega arith)
local_opens n (suc count) some few =
    let one : suc count - 1 ≡ count = omega arith in
    let l = length_from (n + 1) count in
    let z = length_from 0 n in
    record {
      passes = λ rest behind. locals_pass (suc count - 1) (n + 1) (name_at n ∷ []) (t.In ∷ rest) behind (omega arith);
      scope = rw one (scope_behind n (suc count));
      row_is = λ c. rw (one, z, l) refl;
    }

proc_opens : (left n count : ℕ) → n ≤ 12800 → left < n → count ≤ 64 → Opens (ProcValue (name_at left) (names_from n count)) n (n + count) (λ c. stmt.TellProc left n count c)
proc_opens left n count le lt few =
    let small : n ≤ 2 ^ 64 = omega (arith, le) in
    let l = length_from n count in
    let z = length_from 0 n in
    let at = place n small left lt in
    record {
      passes = λ rest behind. let pass = from_zero n count (t.CloseCurly ∷ rest) behind few (omega (arith, le)) in rw (used n small left lt) pass;
      scope = scope_behind n count;
      row_is = λ c. rw (at, z, l) refl;
    }

site_passes : (z : ℤ) → pos 1 ≤ℤ z → site_fault (Some z) ≡ None
site_passes z le = let no : int_lt z (pos 1) ≡ false = grind arith in ap (λ (b : Bool). where_so b Site) no

thread_opens : (at : Option ℤ) (n : ℕ) → IsThreadSite at → Opens (thread_opening at) n n (λ c. stmt.Thread at c)
thread_opens None n is = record { passes = λ rest behind. refl; scope = refl; row_is = λ c. refl }
thread_opens (Some z) n is = record { passes = λ rest behind. rw (site_passes z is) refl; scope = refl; row_is = λ c. refl }

block_is : (o : Opening) (q : Sequence) (d n m k : ℕ) (row : CodeId → Stmt) (c : CodeId) (rows : List Stmt) → 1 ≤ d → c ≡ code_at (k + 1) → Opens o n m row → IsSequence q (d - 1) m (k + 1) rows
    → IsStatement (Block o q) d n k (row c ∷ rows)
block_is o q d n m k row c rows level at opens is =
    let left = level_left d level in
    record {
      derives = subst (λ (sc : List (List ℕ)). SeqDerives q sc) (sym opens.scope) is.derives;
      passes = λ rest behind.
          let inner : check_seq q (fewer d) (opening_scope o (names_from 0 n)) (t.End ∷ rest) behind ≡ behind =
          subst (λ (sc : List (List ℕ)). check_seq q (fewer d) sc (t.End ∷ rest) behind ≡ behind) (sym opens.scope)
          (subst (λ (e : ℕ). check_seq q e (names_from 0 m) (t.End ∷ rest) behind ≡ behind) (fewer_is d) (is.passes (t.End ∷ rest) behind)) in
          rw left (opens.passes (seq_text q (t.End ∷ rest)) (check_seq q (fewer d) (opening_scope o (names_from 0 n)) (t.End ∷ rest) behind) ∙ inner);
      rows_are =
          let first : opening_row o (names_from 0 n) (code_at (k + 1)) ≡ row c = opens.row_is (code_at (k + 1)) ∙ ap row (sym at) in
          let others : seq_rows q (opening_scope o (names_from 0 n)) (k + 1) ≡ rows = ap (λ (sc : List (List ℕ)). seq_rows q sc (k + 1)) opens.scope ∙ is.rows_are in
          rw (first, others) refl;
    }

-- ---- what stands before two bodies

record Branches (h : Choice) (n m : ℕ) (row : CodeId → CodeId → Stmt) : Type 0 where
  passes : (rest : List Symbol) (behind : Option Fault) → check_choice h (names_from 0 n) rest behind ≡ behind
  scope : choice_scope h (names_from 0 n) ≡ names_from 0 m
  row_is : (b c : CodeId) → choice_row h (names_from 0 n) b c ≡ row b c

if_branches : (subject n : ℕ) → n ≤ 12800 → subject < n → Branches (Ifs (name_at subject)) n n (λ b c. stmt.If subject b c)
if_branches subject n le lt =
    let small : n ≤ 2 ^ 64 = omega (arith, le) in
    let free = used n small subject lt in
    let at = place n small subject lt in
    record { passes = λ rest behind. rw free refl; scope = refl; row_is = λ b c. rw at refl }

case_branches : (subject n : ℕ) (p : Pattern) → n ≤ 12800 → subject < n → IsPattern p → Branches (Cases (name_at subject) (pattern_tree n p)) n (n + length (features_in p)) (λ b c. stmt.Case subject p n b c)
case_branches subject n p le lt is =
    let small : n ≤ 2 ^ 64 = omega (arith, le) in
    let free = used n small subject lt in
    let at = place n small subject lt in
    let z = length_from 0 n in
    let again = pattern_again p n is in
    let names = pattern_names_again p n is in
    record {
      passes = λ rest behind. let pass = pattern_pass p n (names_from 0 n) (t.Then ∷ rest) behind is (omega (arith, le)) in rw free pass;
      scope = ap (λ (xs : List (List ℕ)). names_from 0 n ++ xs) names ∙ scope_behind n (length (features_in p));
      row_is = λ b c. rw (at, again, z) refl;
    }

choice_is : (h : Choice) (q r : Sequence) (d n m k : ℕ) (row : CodeId → CodeId → Stmt) (b c : CodeId) (xs ys : List Stmt) → 1 ≤ d → b ≡ code_at (k + 1) → c ≡ code_at (k + 1 + length xs) → Branches h n m row
    → IsSequence q (d - 1) m (k + 1) xs → IsSequence r (d - 1) n (k + 1 + length xs) ys → IsStatement (Chooses h q r) d n k (row b c ∷ (xs ++ ys))
choice_is h q r d n m k row b c xs ys level at there branches first second =
    let left = level_left d level in
    let chosen : seq_rows q (choice_scope h (names_from 0 n)) (k + 1) ≡ xs = ap (λ (sc : List (List ℕ)). seq_rows q sc (k + 1)) branches.scope ∙ first.rows_are in
    record {
      derives = (subst (λ (sc : List (List ℕ)). SeqDerives q sc) (sym branches.scope) first.derives, second.derives);
      passes = λ rest behind.
          let other : check_seq r (fewer d) (names_from 0 n) (t.End ∷ rest) behind ≡ behind = subst (λ (e : ℕ). check_seq r e (names_from 0 n) (t.End ∷ rest) behind ≡ behind) (fewer_is d) (second.passes (t.End ∷ rest) behind) in
          let inner : check_seq q (fewer d) (choice_scope h (names_from 0 n)) (t.Else ∷ seq_text r (t.End ∷ rest)) (check_seq r (fewer d) (names_from 0 n) (t.End ∷ rest) behind) ≡ check_seq r (fewer d) (names_from 0 n) (t.End ∷ rest) behind =
          subst (λ (sc : List (List ℕ)). check_seq q (fewer d) sc (t.Else ∷ seq_text r (t.End ∷ rest)) (check_seq r (fewer d) (names_from 0 n) (t.End ∷ rest) behind) ≡ check_seq r (fewer d) (names_from 0 n) (t.End ∷ rest) behind) (sym branches.scope)
          (subst (λ (e : ℕ). check_seq q e (names_from 0 m) (t.Else ∷ seq_text r (t.End ∷ rest)) (check_seq r (fewer d) (names_from 0 n) (t.End ∷ rest) behind) ≡ check_seq r (fewer d) (names_from 0 n) (t.End ∷ rest) behind) (fewer_is d)
          (first.passes (t.Else ∷ seq_text r (t.End ∷ rest)) (check_seq r (fewer d) (names_from 0 n) (t.End ∷ rest) behind))) in
          rw left (branches.passes _ _ ∙ inner ∙ other);
      rows_are =
          let n_at : k + 1 + length (seq_rows q (choice_scope h (names_from 0 n)) (k + 1)) ≡ k + 1 + length xs = ap (λ (zs : List Stmt). k + 1 + length zs) chosen in
          let own : choice_row h (names_from 0 n) (code_at (k + 1)) (code_at (k + 1 + length (seq_rows q (choice_scope h (names_from 0 n)) (k + 1)))) ≡ row b c =
          branches.row_is _ _ ∙ ap (λ (j : CodeId). row j (code_at (k + 1 + length (seq_rows q (choice_scope h (names_from 0 n)) (k + 1))))) (sym at) ∙ ap (λ (j : ℕ). row b (code_at j)) n_at ∙ ap (row b) (sym there) in
          let others : seq_rows r (names_from 0 n) (k + 1 + length (seq_rows q (choice_scope h (names_from 0 n)) (k + 1))) ≡ ys = ap (λ (j : ℕ). seq_rows r (names_from 0 n) j) n_at ∙ second.rows_are in
          ap (λ (st : Stmt). st ∷ (seq_rows q (choice_scope h (names_from 0 n)) (k + 1) ++ seq_rows r (names_from 0 n) (k + 1 + length (seq_rows q (choice_scope h (names_from 0 n)) (k + 1))))) own
          ∙ ap (λ (zs : List Stmt). row b c ∷ (zs ++ seq_rows r (names_from 0 n) (k + 1 + length (seq_rows q (choice_scope h (names_from 0 n)) (k + 1))))) chosen
          ∙ ap (λ (zs : List Stmt). row b c ∷ (xs ++ zs)) others;
    }

try_is : (q r : Sequence) (d n k : ℕ) (b c : CodeId) (xs ys : List Stmt) → 1 ≤ d → b ≡ code_at (k + 1) → c ≡ code_at (k + 1 + length xs)
    → IsSequence q (d - 1) n (k + 1) xs → IsSequence r (d - 1) (n + 1) (k + 1 + length xs) ys → IsStatement (Tries q (name_at n) r) d n k (stmt.Try b n c ∷ (xs ++ ys))
try_is q r d n k b c xs ys level at there first second =
    let left = level_left d level in
    let z = length_from 0 n in
    let scope : names_from 0 n ++ name_at n ∷ [] ≡ names_from 0 (n + 1) = scope_behind n 1 in
    record {
      derives = (first.derives, subst (λ (sc : List (List ℕ)). SeqDerives r sc) (sym scope) second.derives);
      passes = λ rest behind.
          let other : check_seq r (fewer d) (names_from 0 n ++ name_at n ∷ []) (t.End ∷ rest) behind ≡ behind =
          subst (λ (sc : List (List ℕ)). check_seq r (fewer d) sc (t.End ∷ rest) behind ≡ behind) (sym scope)
          (subst (λ (e : ℕ). check_seq r e (names_from 0 (n + 1)) (t.End ∷ rest) behind ≡ behind) (fewer_is d) (second.passes (t.End ∷ rest) behind)) in
          let inner : check_seq q (fewer d) (names_from 0 n) (t.Catch ∷ t.Variable (name_at n) ∷ t.Then ∷ seq_text r (t.End ∷ rest)) (check_seq r (fewer d) (names_from 0 n ++ name_at n ∷ []) (t.End ∷ rest) behind)
          ≡ check_seq r (fewer d) (names_from 0 n ++ name_at n ∷ []) (t.End ∷ rest) behind =
          subst (λ (e : ℕ). check_seq q e (names_from 0 n) (t.Catch ∷ t.Variable (name_at n) ∷ t.Then ∷ seq_text r (t.End ∷ rest)) (check_seq r (fewer d) (names_from 0 n ++ name_at n ∷ []) (t.End ∷ rest) behind)
          ≡ check_seq r (fewer d) (names_from 0 n ++ name_at n ∷ []) (t.End ∷ rest) behind) (fewer_is d) (first.passes _ _) in
          rw left (inner ∙ other);
      rows_are =
          let n_at : k + 1 + length (seq_rows q (names_from 0 n) (k + 1)) ≡ k + 1 + length xs = ap (λ (zs : List Stmt). k + 1 + length zs) first.rows_are in
          let own : ◌≡◌ {A = Stmt} (stmt.Try (code_at (k + 1)) (length (names_from 0 n)) (code_at (k + 1 + length (seq_rows q (names_from 0 n) (k + 1))))) (stmt.Try b n c) =
          ap (λ (j : CodeId). stmt.Try j (length (names_from 0 n)) (code_at (k + 1 + length (seq_rows q (names_from 0 n) (k + 1))))) (sym at)
          ∙ ap (λ (j : ℕ). stmt.Try b j (code_at (k + 1 + length (seq_rows q (names_from 0 n) (k + 1))))) z ∙ ap (λ (j : ℕ). stmt.Try b n (code_at j)) n_at ∙ ap (stmt.Try b n) (sym there) in
          let others : seq_rows r (names_from 0 n ++ name_at n ∷ []) (k + 1 + length (seq_rows q (names_from 0 n) (k + 1))) ≡ ys =
          ap (λ (sc : List (List ℕ)). seq_rows r sc (k + 1 + length (seq_rows q (names_from 0 n) (k + 1)))) scope ∙ ap (λ (j : ℕ). seq_rows r (names_from 0 (n + 1)) j) n_at ∙ second.rows_are in
          ap (λ (st : Stmt). st ∷ (seq_rows q (names_from 0 n) (k + 1) ++ seq_rows r (names_from 0 n ++ name_at n ∷ []) (k + 1 + length (seq_rows q (names_from 0 n) (k + 1))))) own
          ∙ ap (λ (zs : List Stmt). stmt.Try b n c ∷ (zs ++ seq_rows r (names_from 0 n ++ name_at n ∷ []) (k + 1 + length (seq_rows q (names_from 0 n) (k + 1))))) first.rows_are
          ∙ ap (λ (zs : List Stmt). stmt.Try b n c ∷ (xs ++ zs)) others;
    }

-- ---- bodies

-- rows from number k on are a body's own, and then those of the bodies behind it
record Stands (k : ℕ) (b : Body) (behind : ℕ → List Stmt → Type 0) (sts : List Stmt) : Type 0 where
  own : List Stmt
  others : List Stmt
  is : sts ≡ own ++ others
  number : b.code ≡ code_at k
  derived : Derived b.in_sequence b.levels b.around k own
  more : behind (k + length own) others

abbrev Bodies : ℕ → List Body → List Stmt → Type 0
Bodies k [] sts = sts ≡ []
Bodies k (b ∷ bs) sts = Stands k b (λ j others. Bodies j bs others) sts

ends_at : (m n : ℕ) (bs : List Body) (sts : List Stmt) → m ≡ n → Bodies m bs sts → Bodies n bs sts
ends_at m n bs sts e h = subst (λ (k : ℕ). Bodies k bs sts) e h

-- a statement with its bodies
stands : (b : Body) (st : Stmt) (k : ℕ) (own others sts : List Stmt) (bs : List Body) (s : Statement) → b.code.0 ≡ k → sts ≡ own ++ others → IsStatement s b.levels b.around k (st ∷ own) → Bodies (k + 1 + length own) bs others
    → Bodies k (b ∷ bs) (st ∷ sts)
stands b st k own others sts bs s at is derived more = record {
  own = st ∷ own;
  others = others;
  is = ap (λ (xs : List Stmt). st ∷ xs) is;
  number = ap code_at at;
  derived = either b.in_sequence s b.levels b.around k (st ∷ own) derived;
  more = ends_at (k + 1 + length own) (k + length (st ∷ own)) bs others (omega arith) more;
}

two_own : (xs ys zs sts others : List Stmt) → sts ≡ xs ++ others → others ≡ ys ++ zs → sts ≡ (xs ++ ys) ++ zs
two_own xs ys zs sts others e f = e ∙ ap (λ (os : List Stmt). xs ++ os) f ∙ sym (Rattle.std.proofs.Common.append_assoc xs ys zs)

-- statements one after the other, from number k on
record Many (b : Body) (k : ℕ) (cs : List CodeId) (bs : List Body) (sts : List Stmt) : Type 0 where
  sequence : Sequence
  own : List Stmt
  others : List Stmt
  is : sts ≡ own ++ others
  derives : SeqDerives sequence (names_from 0 b.around)
  passes : (rest : List Symbol) (behind : Option Fault) → check_seq sequence b.levels (names_from 0 b.around) rest behind ≡ behind
  rows_are : many_rows sequence (names_from 0 b.around) k ≡ own
  numbers : seq_numbers sequence (names_from 0 b.around) k ≡ cs
  more : Bodies (k + length own) bs others

many : (b : Body) (k : ℕ) (c : CodeId) (cs : List CodeId) (bs : List Body) (sts : List Stmt) → Bodies k (map (sequence_body b) (c ∷ cs) ++ bs) sts → Many b k (c ∷ cs) bs sts
many b k c [] bs sts f = record {
  sequence = One f.derived.0;
  own = f.own;
  others = f.others;
  is = f.is;
  derives = f.derived.1.derives;
  passes = f.derived.1.passes;
  rows_are = f.derived.1.rows_are;
  numbers = ap (λ (j : CodeId). j ∷ []) (sym f.number);
  more = f.more;
}
many b k c (c' ∷ cs) bs sts f =
    let m = many b (k + length f.own) c' cs bs f.others f.more in
    let at : k + length (stmt_rows f.derived.0 (names_from 0 b.around) k) ≡ k + length f.own = ap (λ (xs : List Stmt). k + length xs) f.derived.1.rows_are in
    record {
      sequence = Then f.derived.0 m.sequence;
      own = f.own ++ m.own;
      others = m.others;
      is = two_own f.own m.own m.others sts f.others f.is m.is;
      derives = (f.derived.1.derives, m.derives);
      passes = λ rest behind. f.derived.1.passes _ _ ∙ m.passes rest behind;
      rows_are =
          ap (λ (xs : List Stmt). xs ++ many_rows m.sequence (names_from 0 b.around) (k + length (stmt_rows f.derived.0 (names_from 0 b.around) k))) f.derived.1.rows_are
          ∙ ap (λ (j : ℕ). f.own ++ many_rows m.sequence (names_from 0 b.around) j) at ∙ ap (λ (xs : List Stmt). f.own ++ xs) m.rows_are;
      numbers = ap (λ (j : CodeId). j ∷ seq_numbers m.sequence (names_from 0 b.around) (k + length (stmt_rows f.derived.0 (names_from 0 b.around) k))) (sym f.number)
          ∙ ap (λ (j : ℕ). c ∷ seq_numbers m.sequence (names_from 0 b.around) j) at ∙ ap (λ (js : List CodeId). c ∷ js) m.numbers;
      more = ends_at (k + length f.own + length m.own) (k + length (f.own ++ m.own)) bs m.others (omega (arith, Rattle.std.proofs.Common.length-append f.own m.own)) m.more;
    }

sequence_stands : (b : Body) (cs : List CodeId) (k : ℕ) (sts : List Stmt) (bs : List Body) → b.code.0 ≡ k → b.in_sequence ≡ false → 2 ≤ length cs → Bodies (k + 1) (map (sequence_body b) cs ++ bs) sts → Bodies k (b ∷ bs) (stmt.Seq cs ∷ sts)
sequence_stands b [] k sts bs at whole_one two f = absurd (omega arith)
sequence_stands b (c ∷ []) k sts bs at whole_one two f = absurd (omega arith)
sequence_stands b (c ∷ c' ∷ cs) k sts bs at whole_one two f =
    let m = many b (k + 1 + length f.own) c' cs bs f.others f.more in
    let n_at : k + 1 + length (stmt_rows f.derived.0 (names_from 0 b.around) (k + 1)) ≡ k + 1 + length f.own = ap (λ (xs : List Stmt). k + 1 + length xs) f.derived.1.rows_are in
    let ids : ◌≡◌ {A = List CodeId} (code_at (k + 1) ∷ seq_numbers m.sequence (names_from 0 b.around) (k + 1 + length (stmt_rows f.derived.0 (names_from 0 b.around) (k + 1)))) (c ∷ c' ∷ cs) =
    ap (λ (j : CodeId). j ∷ seq_numbers m.sequence (names_from 0 b.around) (k + 1 + length (stmt_rows f.derived.0 (names_from 0 b.around) (k + 1)))) (sym f.number)
    ∙ ap (λ (j : ℕ). c ∷ seq_numbers m.sequence (names_from 0 b.around) j) n_at ∙ ap (λ (js : List CodeId). c ∷ js) m.numbers in
    let is : IsSequence (Then f.derived.0 m.sequence) b.levels b.around k (stmt.Seq (c ∷ c' ∷ cs) ∷ (f.own ++ m.own)) = record {
      derives = (f.derived.1.derives, m.derives);
      passes = λ rest behind. f.derived.1.passes _ _ ∙ m.passes rest behind;
      rows_are =
          ap (λ (js : List CodeId). stmt.Seq js ∷ (stmt_rows f.derived.0 (names_from 0 b.around) (k + 1) ++ many_rows m.sequence (names_from 0 b.around) (k + 1 + length (stmt_rows f.derived.0 (names_from 0 b.around) (k + 1))))) ids
          ∙ ap (λ (xs : List Stmt). stmt.Seq (c ∷ c' ∷ cs) ∷ (xs ++ many_rows m.sequence (names_from 0 b.around) (k + 1 + length (stmt_rows f.derived.0 (names_from 0 b.around) (k + 1))))) f.derived.1.rows_are
          ∙ ap (λ (j : ℕ). stmt.Seq (c ∷ c' ∷ cs) ∷ (f.own ++ many_rows m.sequence (names_from 0 b.around) j)) n_at ∙ ap (λ (xs : List Stmt). stmt.Seq (c ∷ c' ∷ cs) ∷ (f.own ++ xs)) m.rows_are;
    } in
    record {
      own = stmt.Seq (c ∷ c' ∷ cs) ∷ (f.own ++ m.own);
      others = m.others;
      is = ap (λ (xs : List Stmt). stmt.Seq (c ∷ c' ∷ cs) ∷ xs) (two_own f.own m.own m.others sts f.others f.is m.is);
      number = ap code_at at;
      derived = subst (λ (one : Bool). Derived one b.levels b.around k (stmt.Seq (c ∷ c' ∷ cs) ∷ (f.own ++ m.own))) (sym whole_one) (Then f.derived.0 m.sequence, is);
      more = ends_at (k + 1 + length f.own + length m.own) (k + length (stmt.Seq (c ∷ c' ∷ cs) ∷ (f.own ++ m.own))) bs m.others (omega (arith, Rattle.std.proofs.Common.length-append f.own m.own)) m.more;
    }

-- a row without bodies
plain_stands : (b : Body) (row : Stmt) (k : ℕ) (bs : List Body) (sts : List Stmt) → IsPlainRow row → IsStmt row → HasRoom b → b.code.0 ≡ k → IsBody b row → Bodies (k + 1) bs sts → Bodies k (b ∷ bs) (row ∷ sts)
plain_stands b row k bs sts p limits room at is f =
    stands b row k [] sts sts bs (Simple (plain_tree row)) at refl (plain_is row b.levels b.around k p limits is.level (omega (arith, room)) is.names) (ends_at (k + 1) (k + 1 + 0) bs sts (omega arith) f)

-- a statement stands where its bodies do
grow : (b : Body) (st : Stmt) (k : ℕ) (bs : List Body) (sts : List Stmt) → IsStmt st → HasRoom b → b.code.0 ≡ k → IsBody b st → Bodies (k + 1) (bodies_in b st ++ bs) sts → Bodies k (b ∷ bs) (st ∷ sts)
grow b (stmt.Seq cs) k bs sts limits room at is f = sequence_stands b cs k sts bs at is.sequence.0 is.sequence.1 f
grow b stmt.Skip k bs sts limits room at is f = plain_stands b stmt.Skip k bs sts tt limits room at is f
grow b (stmt.Local first count c) k bs sts limits room at is f =
    let opens = subst (λ (m : ℕ). Opens (local_opening m count) b.around (b.around + count) (λ j. stmt.Local m count j)) (sym is.declares) (local_opens b.around count limits.0 limits.1) in
    stands b (stmt.Local first count c) k f.own f.others sts bs (Block (local_opening first count) f.derived.0) at f.is
    (block_is (local_opening first count) f.derived.0 b.levels b.around (b.around + count) k (λ j. stmt.Local first count j) c f.own is.level f.number opens f.derived.1) f.more
grow b (stmt.TellVar left right) k bs sts limits room at is f = plain_stands b (stmt.TellVar left right) k bs sts tt limits room at is f
grow b (stmt.TellInt left value) k bs sts limits room at is f = plain_stands b (stmt.TellInt left value) k bs sts tt limits room at is f
grow b (stmt.TellAtom left a) k bs sts limits room at is f = plain_stands b (stmt.TellAtom left a) k bs sts tt limits room at is f
grow b (stmt.TellRec left label slots) k bs sts limits room at is f = plain_stands b (stmt.TellRec left label slots) k bs sts tt limits room at is f
grow b (stmt.TellProc left first count c) k bs sts limits room at is f =
    let opens = subst (λ (m : ℕ). Opens (ProcValue (name_at left) (names_from m count)) b.around (b.around + count) (λ j. stmt.TellProc left m count j)) (sym is.declares)
    (proc_opens left b.around count (omega (arith, room)) is.names.0 limits.0) in
    stands b (stmt.TellProc left first count c) k f.own f.others sts bs (Block (ProcValue (name_at left) (names_from first count)) f.derived.0) at f.is
    (block_is (ProcValue (name_at left) (names_from first count)) f.derived.0 b.levels b.around (b.around + count) k (λ j. stmt.TellProc left first count j) c f.own is.level f.number opens f.derived.1) f.more
grow b (stmt.Calc left op x y) k bs sts limits room at is f = plain_stands b (stmt.Calc left op x y) k bs sts tt limits room at is f
grow b (stmt.Test left op x y) k bs sts limits room at is f = plain_stands b (stmt.Test left op x y) k bs sts tt limits room at is f
grow b (stmt.Select left source by) k bs sts limits room at is f = plain_stands b (stmt.Select left source by) k bs sts tt limits room at is f
grow b (stmt.If subject chosen other) k bs sts limits room at is f =
    let g = f.more in
    stands b (stmt.If subject chosen other) k (f.own ++ g.own) g.others sts bs (Chooses (Ifs (name_at subject)) f.derived.0 g.derived.0) at (two_own f.own g.own g.others sts f.others f.is g.is)
    (choice_is (Ifs (name_at subject)) f.derived.0 g.derived.0 b.levels b.around b.around k (λ i j. stmt.If subject i j) chosen other f.own g.own is.level f.number g.number
    (if_branches subject b.around (omega (arith, room)) is.names.0) f.derived.1 g.derived.1)
    (ends_at (k + 1 + length f.own + length g.own) (k + 1 + length (f.own ++ g.own)) bs g.others (omega (arith, Rattle.std.proofs.Common.length-append f.own g.own)) g.more)
grow b (stmt.Case subject p first chosen other) k bs sts limits room at is f =
    let g = f.more in
    let branches = subst (λ (m : ℕ). Branches (Cases (name_at subject) (pattern_tree m p)) b.around (b.around + length (features_in p)) (λ i j. stmt.Case subject p m i j)) (sym is.declares)
    (case_branches subject b.around p (omega (arith, room)) is.names.0 limits.0) in
    stands b (stmt.Case subject p first chosen other) k (f.own ++ g.own) g.others sts bs (Chooses (Cases (name_at subject) (pattern_tree first p)) f.derived.0 g.derived.0) at (two_own f.own g.own g.others sts f.others f.is g.is)
    (choice_is (Cases (name_at subject) (pattern_tree first p)) f.derived.0 g.derived.0 b.levels b.around (b.around + length (features_in p)) k (λ i j. stmt.Case subject p first i j) chosen other f.own g.own is.level f.number g.number
    branches f.derived.1 g.derived.1)
    (ends_at (k + 1 + length f.own + length g.own) (k + 1 + length (f.own ++ g.own)) bs g.others (omega (arith, Rattle.std.proofs.Common.length-append f.own g.own)) g.more)
grow b (stmt.Call callee args) k bs sts limits room at is f = plain_stands b (stmt.Call callee args) k bs sts tt limits room at is f
grow b (stmt.Browse x) k bs sts limits room at is f = plain_stands b (stmt.Browse x) k bs sts tt limits room at is f
grow b (stmt.Wait x) k bs sts limits room at is f = plain_stands b (stmt.Wait x) k bs sts tt limits room at is f
grow b (stmt.NewCell content cell) k bs sts limits room at is f = plain_stands b (stmt.NewCell content cell) k bs sts tt limits room at is f
grow b (stmt.Exchange cell old new) k bs sts limits room at is f = plain_stands b (stmt.Exchange cell old new) k bs sts tt limits room at is f
grow b (stmt.NewPort stream port) k bs sts limits room at is f = plain_stands b (stmt.NewPort stream port) k bs sts tt limits room at is f
grow b (stmt.Send port value) k bs sts limits room at is f = plain_stands b (stmt.Send port value) k bs sts tt limits room at is f
grow b (stmt.NewCellAt content cell place) k bs sts limits room at is f = plain_stands b (stmt.NewCellAt content cell place) k bs sts tt limits room at is f
grow b (stmt.Thread site c) k bs sts limits room at is f =
    stands b (stmt.Thread site c) k f.own f.others sts bs (Block (thread_opening site) f.derived.0) at f.is
    (block_is (thread_opening site) f.derived.0 b.levels b.around b.around k (λ j. stmt.Thread site j) c f.own is.level f.number (thread_opens site b.around limits) f.derived.1) f.more
grow b (stmt.Try c first handler) k bs sts limits room at is f =
    let g = f.more in
    let tries = try_is f.derived.0 g.derived.0 b.levels b.around k c handler f.own g.own is.level f.number g.number f.derived.1 g.derived.1 in
    let there = subst (λ (m : ℕ). IsStatement (Tries f.derived.0 (name_at b.around) g.derived.0) b.levels b.around k (stmt.Try c m handler ∷ (f.own ++ g.own))) (sym is.declares) tries in
    stands b (stmt.Try c first handler) k (f.own ++ g.own) g.others sts bs (Tries f.derived.0 (name_at b.around) g.derived.0) at (two_own f.own g.own g.others sts f.others f.is g.is) there
    (ends_at (k + 1 + length f.own + length g.own) (k + 1 + length (f.own ++ g.own)) bs g.others (omega (arith, Rattle.std.proofs.Common.length-append f.own g.own)) g.more)
grow b (stmt.Raise x) k bs sts limits room at is f = plain_stands b (stmt.Raise x) k bs sts tt limits room at is f

all_stand : (k : ℕ) (bs : List Body) (sts : List Stmt) → Each IsStmt sts → Each HasRoom bs → AreBodies k bs sts → Bodies k bs sts
all_stand k [] [] limits room h = refl
all_stand k [] (st ∷ sts) limits room h = absurd h
all_stand k (b ∷ bs) [] limits room h = absurd h
all_stand k (b ∷ bs) (st ∷ sts) limits room h =
    grow b st k bs sts limits.0 room.0 h.0 h.1
    (all_stand (k + 1) (bodies_in b st ++ bs) sts limits.1 (each_append HasRoom (bodies_in b st) bs (bodies_room b st room.0 limits.0 h.1.level) room.1) h.2)

-- some symbols are the program
some_read : (p : List Stmt) → IsProgram p → (symbols : List Symbol) × ReadsSymbols symbols p
some_read p is =
    let f = all_stand 0 (whole_program ∷ []) p is.stmts (omega arith, tt) is.order in
    let own : p ≡ f.own = f.is ∙ ap (λ (xs : List Stmt). f.own ++ xs) f.more ∙ append-nil f.own in (
      program_text f.derived.0,
      record {
        program = f.derived.0;
        derives = f.derived.1.derives;
        derived = refl;
        passes = f.derived.1.passes (t.EndOfText ∷ []) None;
        table = own ∙ sym f.derived.1.rows_are;
      },
    )

pub programs_read : ProgramsRead
programs_read p is = let s = some_read p is in canonical_reads s.0 p s.1
