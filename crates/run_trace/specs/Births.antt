-- The threads that a run makes, and how many steps each of them goes.
use Rattle.std.specs.Prelude.{List, [], ◌∷◌, ◌++◌, Option, Some, None, option_to_list}
use Rattle.tree_node.specs.declared.names.ThreadName.{ThreadName}
use Rattle.tree_node.specs.declared.pick.Pick.{Pick}
use Rattle.tree_node.specs.State.{State}
use Rattle.kernel_syntax.specs.declared.stmt.Stmt.{Stmt}
use Rattle.oz_model.specs.Effect as model
use Rattle.oz_model.specs.Run.{start}
use Rattle.oz_model.specs.Step.{effect_of, next}
use Rattle.run_trace.specs.declared.findings.Begun.{Begun}
use Rattle.run_trace.specs.declared.findings.Birth.{Birth}
use Rattle.run_trace.specs.Begun.{begun_with, last_begun}

-- the thread that an effect makes
abbrev pub name_born : Option model.Birth → Option ThreadName
name_born None = None
name_born (Some b) = Some b.name

-- a thread that a step makes, and the statement that its maker began last
abbrev pub birth_of : Option Begun → Option ThreadName → Option Birth
birth_of (Some b) (Some n) = Some (record { thread = n; maker = b.thread; code = b.code })
birth_of _ _ = None

-- that of the step of a pick, where these statements were begun up to it
abbrev pub birth_in : List Stmt → List Begun → State → Pick → Option Birth
birth_in p began s k = birth_of (last_begun began k.thread) (name_born (effect_of p s k).born)

-- those of the steps from a state on, in order
abbrev pub births_from : List Stmt → List Begun → State → List Pick → List Birth
births_from p before s [] = []
births_from p before s (k ∷ ks) =
    option_to_list (birth_in p (begun_with s k.thread before) s k) ++ births_from p (begun_with s k.thread before) (next p s k) ks

-- the threads that a run makes, in order; its first is not among them
abbrev pub births : List Stmt → List Pick → List Birth
births p ks = births_from p [] (start p) ks
