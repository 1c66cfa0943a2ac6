-- Which trees of kernel statements are programs.
use Rattle.std.specs.Prelude.{ℕ, ◌+◌, ◌-◌, ◌<◌, ◌≤◌, length}
use Rattle.tree_node.specs.declared.limits.TheConstants.{MOST_ITEMS}
use Rattle.tree_node.specs.Each.{Each}
use Rattle.kernel_syntax.specs.declared.stmt.Stmt.{Stmt}
use Rattle.kernel_syntax.specs.declared.stmt.Stmt.TheVariants as stmt
use Rattle.kernel_syntax.specs.Scopes.{named_positions, features_in}
use Rattle.kernel_syntax.specs.Program.{IsPattern, IsThreadSite, IsStmt}
use Rattle.kernel_syntax.specs.Texts.{IsSpelledPattern, IsIntegerIfSome, HasTexts}
use Rattle.sugar_rows.specs.Codes.{Code, Leaf, Local, Proc, Thread, If, Case, Try, Codes, One, Then}

-- a row without bodies
abbrev pub IsLeaf : Stmt → Type 0
IsLeaf (stmt.Seq bodies) = ⊥
IsLeaf (stmt.Local first count body) = ⊥
IsLeaf (stmt.TellProc left first count body) = ⊥
IsLeaf (stmt.If subject chosen other) = ⊥
IsLeaf (stmt.Case subject pattern first chosen other) = ⊥
IsLeaf (stmt.Thread at body) = ⊥
IsLeaf (stmt.Try body first handler) = ⊥
IsLeaf row = Unit {0}

-- a statement fits with d levels left, under n declarations: it names what is declared, and is within the limits
abbrev mutual
  pub FitsCode : Code → ℕ → ℕ → Type 0
  FitsCode (Leaf row) d n = (1 ≤ d) × IsLeaf row × IsStmt row × HasTexts row × Each (λ (j : ℕ). j < n) (named_positions row)
  FitsCode (Local count q) d n = (1 ≤ d) × (1 ≤ count) × (count ≤ MOST_ITEMS) × FitsCodes q (d - 1) (n + count)
  FitsCode (Proc left count q) d n = (1 ≤ d) × (left < n) × (count ≤ MOST_ITEMS) × FitsCodes q (d - 1) (n + count)
  FitsCode (Thread at q) d n = (1 ≤ d) × IsThreadSite at × IsIntegerIfSome at × FitsCodes q (d - 1) n
  FitsCode (If subject q r) d n = (1 ≤ d) × (subject < n) × FitsCodes q (d - 1) n × FitsCodes r (d - 1) n
  FitsCode (Case subject p q r) d n = (1 ≤ d) × (subject < n) × IsPattern p × IsSpelledPattern p × (length (features_in p) ≤ MOST_ITEMS) × FitsCodes q (d - 1) (n + length (features_in p)) × FitsCodes r (d - 1) n
  FitsCode (Try q r) d n = (1 ≤ d) × FitsCodes q (d - 1) n × FitsCodes r (d - 1) (n + 1)

  pub FitsCodes : Codes → ℕ → ℕ → Type 0
  FitsCodes (One s) d n = FitsCode s d n
  FitsCodes (Then s q) d n = FitsCode s d n × FitsCodes q d n
