-- What meeting names does to a site's variables.
use Rattle.std.specs.Prelude.{◌≡◌, List, ◌++◌, Contains}
use Rattle.tree_node.specs.declared.names.VarName.{VarName}
use Rattle.tree_node.specs.Each.{Each}
use Rattle.site_message.specs.declared.message.Sent.{Sent}
use Rattle.bind_protocol.specs.Rows.{after_meets, meets_send}
use Rattle.site_variables.specs.declared.variables.Variables.{Variables}
use Rattle.site_variables.specs.Variables.{IsLinked, IsGrown}

-- These names were met: the records and the messages sent are those of the rows, and the store knows the names. The store
-- is linked, its equations and the own variables are as before, and no name is forgotten
pub record AreMet (xs : List VarName) (v : Variables) (before : List Sent) (w : Variables) (after : List Sent) : Type 0 where
  pub records : w.binder ≡ after_meets v.binder xs
  pub sent : after ≡ before ++ meets_send v.binder xs
  pub linked : IsLinked w
  pub known : Each (Contains w.store.known) xs
  pub equations : w.store.equations ≡ v.store.equations
  pub grows : IsGrown v.store.known w.store.known
  pub owners : w.binder.owners ≡ v.binder.owners
  pub site : w.binder.site ≡ v.binder.site
