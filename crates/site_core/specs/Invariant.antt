-- What holds of a site between its turns.
use Rattle.std.specs.Prelude.{◌≡◌, List, Bool, false}
use Rattle.kernel_syntax.specs.declared.stmt.Stmt.{Stmt}
use Rattle.site_units.specs.declared.data.Core.{Core}
use Rattle.site_units.specs.declared.data.Output.{Output}
use Rattle.site_units.specs.Invariant.{IsConsistent}
use Rattle.site_units.specs.Outputs.{IsEmpty}

-- the data of a site that is not spent are consistent, and nothing of the last turn is left in its output
abbrev pub IsConsistentUnlessSpent : List Stmt → Core → Output → Bool → Type 0
IsConsistentUnlessSpent p c o spent = spent ≡ false → IsConsistent p c × IsEmpty o
