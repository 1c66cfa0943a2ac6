-- What was made of a saved run, as a run.
use Rattle.std.specs.Prelude.{◌≡◌, List, Some}
use Rattle.tree_node.specs.State.{State}
use Rattle.kernel_syntax.specs.declared.stmt.Stmt.{Stmt}
use Rattle.run_file.specs.Saved.{SavedRun}
use Rattle.oz_words.specs.declared.options.Action.TheVariants.{Check}
use Rattle.oz_words.specs.declared.options.Options.{Options}
use Rattle.oz_runner.specs.Cause.{options_with}
use Rattle.oz_runner.specs.OzCall.{RunOutput}
use Rattle.oz_runner.specs.Run.{IsRun}

-- whatever the words with `check`, what was made is a run of the program with the numbers of the saved run
abbrev pub IsRunOfFile : List Stmt → SavedRun → RunOutput → Type 0
IsRunOfFile p file made =
    (words : Options) → words.action ≡ Check → (s : State) × IsRun p (options_with (Some file) words) made s
