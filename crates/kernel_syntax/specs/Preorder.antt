-- Tables in preorder: each statement before those that stand in it, and those before the next.
use Rattle.std.specs.Prelude.{◌≡◌, ℕ, ◌+◌, ◌-◌, ◌*◌, ◌<◌, ◌≤◌, List, [], ◌∷◌, ◌++◌, length, map, Bool, true, false}
use Rattle.tree_node.specs.declared.names.CodeId.{CodeId}
use Rattle.tree_node.specs.Each.{Each}
use Rattle.kernel_syntax.specs.declared.preorder.Body.{Body}
use Rattle.kernel_syntax.specs.declared.stmt.Stmt.{Stmt}
use Rattle.kernel_syntax.specs.declared.stmt.Stmt.TheVariants as stmt
use Rattle.kernel_syntax.specs.Scopes.{named_positions, features_in}

-- a body of a statement that is no sequence: a level further in, under so many declarations
abbrev pub inner_body : Body → ℕ → CodeId → Body
inner_body owner around code = record { code = code; levels = owner.levels - 1; around = around; in_sequence = false }

-- a statement of a sequence
abbrev pub sequence_body : Body → CodeId → Body
sequence_body owner code = record { code = code; levels = owner.levels; around = owner.around; in_sequence = true }

-- the bodies of a statement, in their order
abbrev pub bodies_in : Body → Stmt → List Body
bodies_in b (stmt.Seq bodies) = map (sequence_body b) bodies
bodies_in b (stmt.Local first count body) = inner_body b (b.around + count) body ∷ []
bodies_in b (stmt.TellProc left first count body) = inner_body b (b.around + count) body ∷ []
bodies_in b (stmt.If subject chosen other) = inner_body b b.around chosen ∷ inner_body b b.around other ∷ []
bodies_in b (stmt.Case subject pattern first chosen other) =
    inner_body b (b.around + length (features_in pattern)) chosen ∷ inner_body b b.around other ∷ []
bodies_in b (stmt.Thread at body) = inner_body b b.around body ∷ []
bodies_in b (stmt.Try body first handler) = inner_body b b.around body ∷ inner_body b (b.around + 1) handler ∷ []
bodies_in b _ = []

-- what a statement declares stands behind the declarations around it
abbrev pub DeclaresBehind : ℕ → Stmt → Type 0
DeclaresBehind around (stmt.Local first count body) = first ≡ around
DeclaresBehind around (stmt.TellProc left first count body) = first ≡ around
DeclaresBehind around (stmt.Case subject pattern first chosen other) = first ≡ around
DeclaresBehind around (stmt.Try body first handler) = first ≡ around
DeclaresBehind around _ = Unit {0}

-- a sequence has two statements or more, and is none of another sequence
abbrev pub IsWholeSequence : Bool → Stmt → Type 0
IsWholeSequence in_sequence (stmt.Seq bodies) = (in_sequence ≡ false) × (2 ≤ length bodies)
IsWholeSequence in_sequence _ = Unit {0}

-- the statement may be this body: a level is left for it, and it names what is declared around it
pub record IsBody (b : Body) (st : Stmt) : Type 0 where
  pub level : 1 ≤ b.levels
  pub names : Each (λ (k : ℕ). k < b.around) (named_positions st)
  pub declares : DeclaresBehind b.around st
  pub sequence : IsWholeSequence b.in_sequence st

-- the statements from number k on are these bodies with all that stands in them
abbrev pub AreBodies : ℕ → List Body → List Stmt → Type 0
AreBodies k [] [] = Unit {0}
AreBodies k (b ∷ bs) (st ∷ sts) = (b.code.0 ≡ k) × IsBody b st × AreBodies (k + 1) (bodies_in b st ++ bs) sts
AreBodies k _ _ = ⊥

-- 64 declarations a level keep positions small
abbrev pub HasRoom : Body → Type 0
HasRoom b = b.around + 64 * b.levels ≤ 12800

-- the whole program: 200 levels, and nothing is declared around it
abbrev pub whole_program : Body
whole_program = record { code = record { 0 = 0 }; levels = 200; around = 0; in_sequence = false }

-- the rows of a table are its whole program in preorder, and each may stand where it does
abbrev pub IsInPreorder : List Stmt → Type 0
IsInPreorder p = AreBodies 0 (whole_program ∷ []) p
