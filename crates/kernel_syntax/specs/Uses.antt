-- Which positions a statement uses, as a relation.
pub use Rattle.kernel_syntax.specs.Scopes.{named_positions}
use Rattle.std.specs.Prelude.{◌≡◌, ℕ, ◌+◌, ◌<◌, ◌≤◌, List, Contains}
use Rattle.tree_node.specs.declared.names.CodeId.{CodeId}
use Rattle.kernel_syntax.specs.declared.stmt.Stmt.{Stmt}
use Rattle.kernel_syntax.specs.Scopes.{BodyScope, stmt_at, scopes_of}

-- k is one of count positions from first on
abbrev pub IsDeclared : ℕ → ℕ → ℕ → Type 0
IsDeclared first count k = (first ≤ k) × (k < first + count)

-- c is a body of the statement, which does not declare k for it
abbrev pub IsBodyOutside : Stmt → CodeId → ℕ → Type 0
IsBodyOutside st c k = (s : BodyScope) × Contains (scopes_of st) s × (s.body ≡ c) × (IsDeclared s.first s.count k → ⊥)

-- k is used in this code, outside every declaration of k within the code
pub data IsUsed (p : List Stmt) : CodeId → ℕ → Type 0 where
  itself : {code : CodeId} {k : ℕ} → Contains (named_positions (stmt_at p code)) k → IsUsed p code k
  within : {code : CodeId} {k : ℕ} (c : CodeId) → IsBodyOutside (stmt_at p code) c k → IsUsed p c k → IsUsed p code k
