-- Laws of the exceptions of a run.
use Rattle.std.specs.Prelude.{◌≡◌, ◌⊎◌, ◌<◌, List, [], ◌∷◌, ◌++◌, Contains, IsSome}
use Rattle.tree_node.specs.declared.names.VarName.{VarName}
use Rattle.tree_node.specs.declared.names.ThreadName.{ThreadName}
use Rattle.tree_node.specs.declared.item.Item.TheVariants.{Report}
use Rattle.tree_node.specs.declared.pick.Pick.{Pick}
use Rattle.tree_node.specs.Assoc.{value_of}
use Rattle.tree_node.specs.Each.{Each}
use Rattle.tree_node.specs.State.{Stack, State, equal_thread}
use Rattle.kernel_syntax.specs.declared.stmt.Stmt.{Stmt}
use Rattle.oz_model.specs.Run.{Run, first_thread}
use Rattle.oz_model.specs.Step.{stack_of}
use Rattle.run_trace.specs.declared.findings.Birth.{Birth}
use Rattle.run_trace.specs.declared.findings.Raise.{Raise}
use Rattle.run_trace.specs.Births.{births}
use Rattle.run_trace.specs.Raised.{raises, uncaught, IsRaisedAt}

-- each exception that nothing caught is that of a step of the run, which leaves its thread with the report
abbrev pub UncaughtAreRaised : Type 0
UncaughtAreRaised = (p : List Stmt) (ks : List Pick) (s : State) → Run p ks s → Each (IsRaisedAt p ks) (uncaught (raises p ks))

-- a thread that comes to stand at a report in a run, which it prints or waits with, has its exception among them
abbrev pub UncaughtAreAll : Type 0
UncaughtAreAll =
    (p : List Stmt) (front behind : List Pick) (s : State) (n : ThreadName) (x : VarName) (rest : Stack) → Run p front s
    → stack_of s n ≡ Report x ∷ rest
    → (r : Raise) × Contains (uncaught (raises p (front ++ behind))) r × (r.begun.thread ≡ n) × (r.raised ≡ x)

-- the places in the schedule rise
abbrev pub PlacesRise : List Raise → Type 0
PlacesRise [] = Unit {0}
PlacesRise (r ∷ rs) = Each (λ (q : Raise). r.before < q.before) rs × PlacesRise rs

-- no step raises two exceptions
abbrev pub RaisesAreOnce : Type 0
RaisesAreOnce = (p : List Stmt) (ks : List Pick) → PlacesRise (raises p ks)

-- each thread that comes to live in a run is the first of the program, or was made by a step of the run
abbrev pub BirthsAreAll : Type 0
BirthsAreAll =
    (p : List Stmt) (front behind : List Pick) (s : State) (n : ThreadName) → Run p front s → IsSome (value_of equal_thread s.threads n)
    → (n ≡ first_thread) ⊎ ((b : Birth) × Contains (births p (front ++ behind)) b × (b.thread ≡ n))
