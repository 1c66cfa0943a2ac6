-- What the free positions of a program are, and what the operators give.
use Rattle.std.specs.Prelude.{◌≡◌, ◌≢◌, ◌↔◌, ℕ, ◌<◌, ◌≤◌, List, length, Contains, IsTrue, ℤ, pos, ◌+ℤ◌, ◌*ℤ◌, ◌≤ℤ◌, int_div, int_rem, unsigned_abs}
use Rattle.tree_node.specs.declared.names.CodeId.{CodeId}
use Rattle.tree_node.specs.Each.{Each}
use Rattle.kernel_syntax.specs.declared.stmt.Stmt.{Stmt}
use Rattle.kernel_syntax.specs.Free.{AreRising, free, free_of}
use Rattle.kernel_syntax.specs.Scopes.{stmt_at, named_positions}
use Rattle.kernel_syntax.specs.Program.{IsProgram}
use Rattle.kernel_syntax.specs.Uses.{IsBodyOutside, IsUsed}
use Rattle.kernel_syntax.specs.declared.stmt.Op.{Op}
use Rattle.kernel_syntax.specs.Arithmetic.{Number, result_of, is_integer}

-- those of a statement come from those of its bodies
abbrev pub FreeUnfolds : Type 0
FreeUnfolds = (p : List Stmt) (code : CodeId) → IsProgram p → free p code ≡ free_of (free p) (stmt_at p code)

-- they ascend, each once
abbrev pub FreeAscends : Type 0
FreeAscends = (p : List Stmt) (code : CodeId) → AreRising (free p code)

-- they are the positions that the code uses and does not declare
abbrev pub FreeIsUsed : Type 0
FreeIsUsed = (p : List Stmt) (code : CodeId) (k : ℕ) → IsProgram p → Contains (free p code) k ↔ IsUsed p code k

-- they are few, and small: 200 levels declare at most 64 identifiers each
abbrev pub FreeIsFew : Type 0
FreeIsFew = (p : List Stmt) (code : CodeId) → IsProgram p → (length (free p code) ≤ 12800) × Each (λ (k : ℕ). k < 12800) (free p code)

-- a whole program uses what it declares alone
abbrev pub ProgramsAreClosed : Type 0
ProgramsAreClosed = (p : List Stmt) (k : ℕ) → IsProgram p → IsUsed p (record { 0 = 0 }) k → ⊥

-- what is free in a body, and not declared for it, is free in its owner
abbrev pub OwnersHaveFree : Type 0
OwnersHaveFree = (p : List Stmt) (code c : CodeId) (k : ℕ) → IsProgram p → IsBodyOutside (stmt_at p code) c k → Contains (free p c) k → Contains (free p code) k

-- what a statement names is free in it
abbrev pub NamesAreFree : Type 0
NamesAreFree = (p : List Stmt) (code : CodeId) (k : ℕ) → IsProgram p → Contains (named_positions (stmt_at p code)) k → Contains (free p code) k

-- the quotient and the rest make up the dividend, and the rest is smaller than the divisor
abbrev pub DivisionIsExact : Type 0
DivisionIsExact = (a b : ℤ) → b ≢ pos 0 → (int_div a b *ℤ b +ℤ int_rem a b ≡ a) × (unsigned_abs (int_rem a b) < unsigned_abs b)

-- the rest has the sign of the dividend
abbrev pub RestHasSign : Type 0
RestHasSign = (a b : ℤ) → (pos 0 ≤ℤ a → pos 0 ≤ℤ int_rem a b) × (a ≤ℤ pos 0 → int_rem a b ≤ℤ pos 0)

-- every integer that an operator gives fits 128 bits
abbrev pub NumbersFit : Type 0
NumbersFit = (op : Op) (a b z : ℤ) → IsTrue (is_integer a) → result_of op a b ≡ Number z → IsTrue (is_integer z)
