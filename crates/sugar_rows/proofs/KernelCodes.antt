-- Programs of the kernel as trees by positions: their rows are those of the program's table.
use Rattle.std.proofs.Common.{◌≡◌, ◌∙◌, ℕ, ◌+◌, List, [], ◌∷◌, ◌++◌, length, None, Some, refl, sym, ap, length-append}
use Rattle.std.proofs.lemmas.List.{length-map}
use Rattle.tree_node.specs.declared.names.CodeId.{CodeId}
use Rattle.tree_node.specs.declared.node.Feature.{Feature}
use Rattle.kernel_syntax.specs.declared.stmt.Stmt.{Stmt}
use Rattle.kernel_syntax.specs.declared.stmt.Stmt.TheVariants as stmt
use Rattle.kernel_syntax.specs.Scopes.{features_in}
use Rattle.oz_grammar.specs.Grammar.{Identifier, Pattern, IntPattern, AtomPattern, RecordPattern, PairPattern}
use Rattle.oz_grammar.specs.Grammar as kernel
use Rattle.oz_grammar.specs.Scoping.{Scope, Fields, declaration_of, names_in, fields_of, pattern_names, opening_scope, choice_scope}
use Rattle.oz_grammar.specs.Table.{code_at, value_of, pattern_of, record_pattern, plain_row, opening_row, choice_row, stmt_rows, seq_rows, many_rows, seq_numbers}
use Rattle.oz_grammar.specs.Table as table
use Rattle.sugar_rows.specs.Codes.{Code, Leaf, Local, Proc, Thread, If, Case, Try, Codes, One, Then, code_rows, codes_rows, more_rows, codes_numbers}

abbrev pub block_code : kernel.Opening → Scope → Codes → Code
block_code (kernel.Locals x xs) scope q = Local (length (x ∷ xs)) q
block_code (kernel.ProcValue x xs) scope q = Proc (declaration_of scope x) (length xs) q
block_code (kernel.ProcNamed x xs) scope q = Proc (declaration_of scope x) (length xs) q
block_code kernel.Threads scope q = Thread None q
block_code (kernel.ThreadsAt n) scope q = Thread (Some (value_of n)) q

abbrev pub choice_code : kernel.Choice → Scope → Codes → Codes → Code
choice_code (kernel.Ifs x) scope q r = If (declaration_of scope x) q r
choice_code (kernel.Cases x p) scope q r = Case (declaration_of scope x) (pattern_of p) q r

abbrev mutual
  pub code_of : kernel.Statement → Scope → Code
  code_of (kernel.Simple s) scope = Leaf (plain_row s scope)
  code_of (kernel.Block o q) scope = block_code o scope (codes_of q (opening_scope o scope))
  code_of (kernel.Chooses h q r) scope = choice_code h scope (codes_of q (choice_scope h scope)) (codes_of r scope)
  code_of (kernel.Tries q x r) scope = Try (codes_of q scope) (codes_of r (scope ++ x ∷ []))

  pub codes_of : kernel.Sequence → Scope → Codes
  codes_of (kernel.One s) scope = One (code_of s scope)
  codes_of (kernel.Then s q) scope = Then (code_of s scope) (codes_of q scope)

-- a pattern declares a name for each of its features
record_each : (a : List ℕ) (fields : Fields) → length (names_in fields) ≡ length (features_in (record_pattern a (table.features_in fields)))
record_each a [] = refl
record_each a (f ∷ fields) = length-map (f ∷ fields) (λ (g : Feature × Identifier). g.1) ∙ sym (length-map (f ∷ fields) (λ (g : Feature × Identifier). g.0))

pub pattern_each : (p : Pattern) → length (pattern_names p) ≡ length (features_in (pattern_of p))
pattern_each (IntPattern n) = refl
pattern_each (AtomPattern a) = refl
pattern_each (RecordPattern a fs) = record_each a (fields_of fs)
pattern_each (PairPattern h u) = refl

block_rows : (o : kernel.Opening) (scope : Scope) (q : Codes) (k : ℕ) → code_rows (block_code o scope q) (length scope) k ≡ opening_row o scope (code_at (k + 1)) ∷ codes_rows q (length (opening_scope o scope)) (k + 1)
block_rows (kernel.Locals x xs) scope q k = ap (λ (m : ℕ). opening_row (kernel.Locals x xs) scope (code_at (k + 1)) ∷ codes_rows q m (k + 1)) (sym (length-append scope (x ∷ xs)))
block_rows (kernel.ProcValue x xs) scope q k = ap (λ (m : ℕ). opening_row (kernel.ProcValue x xs) scope (code_at (k + 1)) ∷ codes_rows q m (k + 1)) (sym (length-append scope xs))
block_rows (kernel.ProcNamed x xs) scope q k = ap (λ (m : ℕ). opening_row (kernel.ProcNamed x xs) scope (code_at (k + 1)) ∷ codes_rows q m (k + 1)) (sym (length-append scope xs))
block_rows kernel.Threads scope q k = refl
block_rows (kernel.ThreadsAt n) scope q k = refl

-- the rows of a statement with two bodies, the first under m declarations
abbrev both_rows : (CodeId → CodeId → Stmt) → Codes → Codes → ℕ → ℕ → ℕ → List Stmt
both_rows row q r m n k = row (code_at (k + 1)) (code_at (k + 1 + length (codes_rows q m (k + 1)))) ∷ (codes_rows q m (k + 1) ++ codes_rows r n (k + 1 + length (codes_rows q m (k + 1))))

choice_rows : (h : kernel.Choice) (scope : Scope) (q r : Codes) (k : ℕ) → code_rows (choice_code h scope q r) (length scope) k ≡ both_rows (choice_row h scope) q r (length (choice_scope h scope)) (length scope) k
choice_rows (kernel.Ifs x) scope q r k = refl
choice_rows (kernel.Cases x p) scope q r k =
    ap (λ (m : ℕ). both_rows (choice_row (kernel.Cases x p) scope) q r m (length scope) k) (ap (λ (m : ℕ). length scope + m) (sym (pattern_each p)) ∙ sym (length-append scope (pattern_names p)))

-- rows, and then rows whose numbers depend on how many those are
then_rows : (row : ℕ → Stmt) (a b : List Stmt) (f g : ℕ → List Stmt) (k : ℕ) → a ≡ b → ((j : ℕ) → f j ≡ g j) → row (k + length a) ∷ (a ++ f (k + length a)) ≡ row (k + length b) ∷ (b ++ g (k + length b))
then_rows row a b f g k e h = ap (λ (c : List Stmt). row (k + length c) ∷ (c ++ f (k + length c))) e ∙ ap (λ (d : List Stmt). row (k + length b) ∷ (b ++ d)) (h (k + length b))

mutual
  statement_rows : (s : kernel.Statement) (scope : Scope) (k : ℕ) → code_rows (code_of s scope) (length scope) k ≡ stmt_rows s scope k
  statement_rows (kernel.Simple s) scope k = refl
  statement_rows (kernel.Block o q) scope k =
      block_rows o scope (codes_of q (opening_scope o scope)) k ∙ ap (λ (rows : List Stmt). opening_row o scope (code_at (k + 1)) ∷ rows) (sequence_rows q (opening_scope o scope) (k + 1))
  statement_rows (kernel.Chooses h q r) scope k =
      choice_rows h scope (codes_of q (choice_scope h scope)) (codes_of r scope) k
      ∙ then_rows (λ (j : ℕ). choice_row h scope (code_at (k + 1)) (code_at j)) (codes_rows (codes_of q (choice_scope h scope)) (length (choice_scope h scope)) (k + 1)) (seq_rows q (choice_scope h scope) (k + 1))
      (codes_rows (codes_of r scope) (length scope)) (seq_rows r scope) (k + 1) (sequence_rows q (choice_scope h scope) (k + 1)) (sequence_rows r scope)
  statement_rows (kernel.Tries q x r) scope k =
      then_rows (λ (j : ℕ). stmt.Try (code_at (k + 1)) (length scope) (code_at j)) (codes_rows (codes_of q scope) (length scope) (k + 1)) (seq_rows q scope (k + 1))
      (codes_rows (codes_of r (scope ++ x ∷ [])) (length scope + 1)) (seq_rows r (scope ++ x ∷ [])) (k + 1) (sequence_rows q scope (k + 1))
      (λ j. ap (λ (m : ℕ). codes_rows (codes_of r (scope ++ x ∷ [])) m j) (sym (length-append scope (x ∷ []))) ∙ sequence_rows r (scope ++ x ∷ []) j)

  pub sequence_rows : (q : kernel.Sequence) (scope : Scope) (k : ℕ) → codes_rows (codes_of q scope) (length scope) k ≡ seq_rows q scope k
  sequence_rows (kernel.One s) scope k = statement_rows s scope k
  sequence_rows (kernel.Then s q) scope k =
      ap (λ (rows : List Stmt). stmt.Seq (code_at (k + 1) ∷ codes_numbers (codes_of q scope) (length scope) (k + 1 + length rows)) ∷ (rows ++ more_rows (codes_of q scope) (length scope) (k + 1 + length rows))) (statement_rows s scope (k + 1))
      ∙ ap (λ (numbers : List CodeId). stmt.Seq (code_at (k + 1) ∷ numbers) ∷ (stmt_rows s scope (k + 1) ++ more_rows (codes_of q scope) (length scope) (k + 1 + length (stmt_rows s scope (k + 1))))) (numbers_same q scope (k + 1 + length (stmt_rows s scope (k + 1))))
      ∙ ap (λ (rows : List Stmt). stmt.Seq (code_at (k + 1) ∷ seq_numbers q scope (k + 1 + length (stmt_rows s scope (k + 1)))) ∷ (stmt_rows s scope (k + 1) ++ rows)) (others_rows q scope (k + 1 + length (stmt_rows s scope (k + 1))))

  others_rows : (q : kernel.Sequence) (scope : Scope) (k : ℕ) → more_rows (codes_of q scope) (length scope) k ≡ many_rows q scope k
  others_rows (kernel.One s) scope k = statement_rows s scope k
  others_rows (kernel.Then s q) scope k =
      ap (λ (rows : List Stmt). rows ++ more_rows (codes_of q scope) (length scope) (k + length rows)) (statement_rows s scope k) ∙ ap (λ (rows : List Stmt). stmt_rows s scope k ++ rows) (others_rows q scope (k + length (stmt_rows s scope k)))

  numbers_same : (q : kernel.Sequence) (scope : Scope) (k : ℕ) → codes_numbers (codes_of q scope) (length scope) k ≡ seq_numbers q scope k
  numbers_same (kernel.One s) scope k = refl
  numbers_same (kernel.Then s q) scope k =
      ap (λ (rows : List Stmt). code_at k ∷ codes_numbers (codes_of q scope) (length scope) (k + length rows)) (statement_rows s scope k) ∙ ap (λ (numbers : List CodeId). code_at k ∷ numbers) (numbers_same q scope (k + length (stmt_rows s scope k)))
