-- Tables of free positions, with the last statement's first.
use Rattle.std.specs.Prelude.{◌≡◌, ℕ, suc, ◌+◌, ◌-◌, ◌<◌, ◌≤◌, List, [], length, take, slice_index_or}
use Rattle.tree_node.specs.declared.names.CodeId.{CodeId}
use Rattle.kernel_syntax.specs.declared.stmt.Stmt.{Stmt}
use Rattle.kernel_syntax.specs.declared.stmt.Stmt.TheVariants as stmt
use Rattle.kernel_syntax.specs.Scopes.{BodyScope, scopes_of}
use Rattle.kernel_syntax.specs.Free.{free_of, free}
use Rattle.kernel_syntax.specs.Program.{IsProgram}

-- the list of a statement, where there are len of them
abbrev pub free_at : ℕ → List (List ℕ) → CodeId → List ℕ
free_at len lists code = slice_index_or lists (len - suc code.0) []

-- the statement has a list: lists stand for the last ones of len statements
abbrev pub HasFree : ℕ → List (List ℕ) → CodeId → Type 0
HasFree len lists code = (code.0 < len) × (len ≤ length lists + code.0)

-- the list is the front of the one at the first place, as long as the second number says
pub record IsPrefixOf (lists : List (List ℕ)) (list : List ℕ) (p : ℕ × ℕ) : Type 0 where
  pub place : p.0 < length lists
  pub within : p.1 ≤ length (slice_index_or lists p.0 [])
  pub front : take p.1 (slice_index_or lists p.0 []) ≡ list

-- .. the free positions of a statement, from the lists of its bodies
abbrev pub IsFrontOf : ℕ → List (List ℕ) → Stmt → ℕ × ℕ → Type 0
IsFrontOf len lists st p = IsPrefixOf lists (free_of (free_at len lists) st) p

-- each list has the free positions of its statement
pub record IsFreeTable (p : List Stmt) (lists : List (List ℕ)) : Type 0 where
  pub list : (code : CodeId) → HasFree (length p) lists code → free_at (length p) lists code ≡ free p code

-- what a program keeps
pub record HasFreeTable (p : List Stmt) (lists : List (List ℕ)) : Type 0 where
  pub program : IsProgram p
  pub whole : length lists ≡ length p
  pub table : IsFreeTable p lists

-- the bodies of a statement that has two, with what it declares for each, and none of another
abbrev pub branches_of : Stmt → List BodyScope
branches_of (stmt.If subject chosen other) = scopes_of (stmt.If subject chosen other)
branches_of (stmt.Case subject pattern first chosen other) = scopes_of (stmt.Case subject pattern first chosen other)
branches_of (stmt.Try body first handler) = scopes_of (stmt.Try body first handler)
branches_of _ = []
