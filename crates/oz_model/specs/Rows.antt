-- Worked examples of runs: a program as its table, the picks of a run, and what the run ends with.
use Rattle.std.specs.Prelude.{◌≡◌, ℕ, pos, List, [], ◌∷◌, length, take, Option, Some, None, codes}
use Rattle.tree_node.specs.declared.names.CodeId.{CodeId}
use Rattle.tree_node.specs.declared.names.Name.{Name}
use Rattle.tree_node.specs.declared.names.Name.TheVariants as name
use Rattle.tree_node.specs.declared.node.Node.TheVariants as node
use Rattle.tree_node.specs.declared.node.Term.TheVariants as term
use Rattle.tree_node.specs.declared.item.Item.TheVariants.{Mark, Report}
use Rattle.tree_node.specs.declared.item.Item.TheVariants as item
use Rattle.tree_node.specs.declared.pick.Pick.{Pick}
use Rattle.tree_node.specs.Store.{Equation}
use Rattle.tree_node.specs.State.{Block, State}
use Rattle.tree_node.specs.Rows.{v, holds}
use Rattle.tree_node.specs.Unwind.{stack_after_raise}
use Rattle.kernel_syntax.specs.declared.stmt.Stmt.{Stmt}
use Rattle.kernel_syntax.specs.declared.stmt.Stmt.TheVariants.{Seq, Skip, Local, TellVar, TellInt, TellAtom, Browse}
use Rattle.oz_model.specs.Need.{Waits, stack_need}
use Rattle.oz_model.specs.Step.{IsAllowed}
use Rattle.oz_model.specs.Run.{Run, AtRest, first_thread}

-- the statement of this number
abbrev pub code : ℕ → CodeId
code n = record { 0 = n }

-- the first thread goes, with these fresh names and this bind
abbrev pub pick : List Name → Option Equation → Pick
pick fresh bind = record { thread = first_thread; fresh = fresh; bind = bind }

-- it goes with nothing to choose
abbrev pub plain : Pick
plain = pick [] None

-- variable number n of site 1 as a fresh name
abbrev pub new : ℕ → Name
new n = name.Var (v n)

-- these picks are a run to a state at rest that has these lines, and so many ended and living threads
abbrev pub RunsTo : List Stmt → List Pick → List (List ℕ) → ℕ → ℕ → Type 0
RunsTo p ks lines ended living =
    (s : State) × Run p ks s × AtRest p s × (s.lines ≡ lines) × (s.ended ≡ ended) × (length s.threads ≡ living)

-- local X in X = 5 {Browse X} end
abbrev pub prints_integer : List Stmt
prints_integer = Local 0 1 (code 1) ∷ Seq (code 2 ∷ code 3 ∷ []) ∷ TellInt 0 (pos 5) ∷ Browse 0 ∷ []

-- the declaration, the sequence, the tell with its bind up to the end of its goal block, and the print
abbrev pub integer_picks : List Pick
integer_picks =
    pick (new 0 ∷ []) None ∷ plain ∷ plain ∷ pick [] (Some (holds 0 (node.Int (pos 5)))) ∷ plain ∷ plain ∷ plain ∷ []

-- it prints 5, and its thread ends
abbrev pub IntegerIsPrinted : Type 0
IntegerIsPrinted = RunsTo prints_integer integer_picks (codes "5" ∷ []) 1 0

-- local X in X = 1 X = 2 end
abbrev pub tells_twice : List Stmt
tells_twice = Local 0 1 (code 1) ∷ Seq (code 2 ∷ code 3 ∷ []) ∷ TellInt 0 (pos 1) ∷ TellInt 0 (pos 2) ∷ []

-- the first tell binds X, the second fails and raises an exception, which is reported
abbrev pub failure_picks : List Pick
failure_picks =
    pick (new 0 ∷ []) None ∷ plain ∷ plain ∷ pick [] (Some (holds 0 (node.Int (pos 1)))) ∷ plain ∷ plain ∷ plain
    ∷ pick (new 1 ∷ new 2 ∷ []) None ∷ plain ∷ []

-- it prints the exception that nobody caught, and its thread ends
abbrev pub FailureIsReported : Type 0
FailureIsReported = RunsTo tells_twice failure_picks (codes "uncaught failure(tell)" ∷ []) 1 0

-- local X in {Browse X} end
abbrev pub prints_unbound : List Stmt
prints_unbound = Local 0 1 (code 1) ∷ Browse 0 ∷ []

-- the declaration alone
abbrev pub unbound_picks : List Pick
unbound_picks = pick (new 0 ∷ []) None ∷ []

-- the thread waits for X: nothing is printed, and it lives
abbrev pub UnboundIsAwaited : Type 0
UnboundIsAwaited = RunsTo prints_unbound unbound_picks [] 0 1

-- local X Y in X = Y Y = a {Browse X} end
abbrev pub prints_atom : List Stmt
prints_atom =
    Local 0 2 (code 1) ∷ Seq (code 2 ∷ code 3 ∷ code 4 ∷ []) ∷ TellVar 0 1 ∷ TellAtom 1 (codes "a") ∷ Browse 0 ∷ []

-- the picks where the two variables are joined by the first equation, and the atom comes by the second
abbrev pub joins : Equation → Equation → List Pick
joins join atom =
    pick (new 0 ∷ new 1 ∷ []) None ∷ plain ∷ plain ∷ pick [] (Some join) ∷ plain ∷ plain ∷ plain ∷ pick [] (Some atom)
    ∷ plain ∷ plain ∷ plain ∷ []

-- the later variable is bound to the earlier one, and that one to the atom
abbrev pub atom_picks : List Pick
atom_picks = joins (v 1, term.Var (v 0)) (holds 0 (node.Atom (codes "a")))

-- it prints a, and its thread ends
abbrev pub AtomIsPrinted : Type 0
AtomIsPrinted = RunsTo prints_atom atom_picks (codes "a" ∷ []) 1 0

-- the other way round, and the atom comes to a variable that has an equation of its own
abbrev pub upward_picks : List Pick
upward_picks = joins (v 0, term.Var (v 1)) (holds 0 (node.Atom (codes "a")))

-- it prints a, and its thread ends, also where the bind goes the other way
abbrev pub AtomIsPrintedToo : Type 0
AtomIsPrintedToo = RunsTo prints_atom upward_picks (codes "a" ∷ []) 1 0

-- after these picks this pick is not allowed
abbrev pub IsRefused : List Stmt → List Pick → Pick → Type 0
IsRefused p ks k = (s : State) × Run p ks s × (IsAllowed p s k → ⊥)

-- skip
abbrev pub skips : List Stmt
skips = Skip ∷ []

-- its only step ends the thread
abbrev pub SkipEnds : Type 0
SkipEnds = RunsTo skips (plain ∷ []) [] 1 0

-- what a pick has to be, by picks that are not so
pub record AreRefused : Type 0 where
  pub thread : IsRefused skips [] (record { thread = record { site = 9; num = 9 }; fresh = []; bind = None })
  pub spare : IsRefused skips [] (pick (new 0 ∷ []) None)  -- a fresh name that nothing takes
  pub unasked : IsRefused skips [] (pick [] (Some (holds 0 (node.Int (pos 5)))))  -- a bind that nothing needs
  pub ended : IsRefused skips (plain ∷ []) plain
  pub waiting : IsRefused prints_unbound unbound_picks plain
  pub unbound : IsRefused prints_integer (take 3 integer_picks) plain  -- no bind, where one is needed
  pub other : IsRefused prints_integer (take 3 integer_picks) (pick [] (Some (holds 0 (node.Int (pos 6)))))
  pub used : IsRefused tells_twice (take 7 failure_picks) (pick (new 0 ∷ new 1 ∷ []) None)
  pub same : IsRefused tells_twice (take 7 failure_picks) (pick (new 1 ∷ new 1 ∷ []) None)

-- an exception goes to the nearest mark, whose identifier is 3, and leaves what is below it; without a mark it is
-- reported, and a report waits for its variable
pub record MarksCatch : Type 0 where
  pub caught : stack_after_raise {B = Block} (item.Run (code 5) [] ∷ Mark (code 1) 3 ((1, v 1) ∷ []) ∷ Mark (code 2) 3 [] ∷ []) (v 9)
      ≡ item.Run (code 1) ((1, v 1) ∷ (3, v 9) ∷ []) ∷ Mark (code 2) 3 [] ∷ []
  pub reported : stack_after_raise {B = Block} (item.Run (code 5) [] ∷ item.Run (code 6) [] ∷ []) (v 9) ≡ Report (v 9) ∷ []
  pub waits : stack_need [] [] (Report (v 9) ∷ []) ≡ Waits (v 9)
