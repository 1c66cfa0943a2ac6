-- What holds of every bundle, and that bundles can be put in when a row or a unit is done.
use Rattle.std.specs.Prelude.{◌≡◌, ℕ, ◌≤◌, List, length, map}
use Rattle.tree_node.specs.declared.names.VarName.{VarName}
use Rattle.tree_node.specs.declared.names.ThreadName.{ThreadName}
use Rattle.tree_node.specs.Store.{Store, Equation}
use Rattle.kernel_syntax.specs.declared.stmt.Stmt.{Stmt}
use Rattle.site_message.specs.declared.message.Msg.{Msg}
use Rattle.site_message.specs.Wire.{NamesAscend}
use Rattle.site_model.specs.Bundle.{with_own_bundles, bundle_from}
use Rattle.site_model.specs.Site.{Site}
use Rattle.site_model.specs.Transition.{Transition}
use Rattle.site_model.specs.Messages.{message_row}
use Rattle.site_model.specs.Unit.{IsUnit}

-- the names on the left of equations
abbrev pub left_names : List Equation → List VarName
left_names es = map (λ (e : Equation). e.0) es

-- a bundle has at most as many equations as the limit, each name once, in ascending order
abbrev pub BundlesAreOrdered : Type 0
BundlesAreOrdered = (limit : ℕ) (s : Store) (xs : List VarName) → (length (bundle_from limit s xs) ≤ limit) × NamesAscend (bundle_from limit s xs)

-- the same transition, each message with its bundle of the equations that the site knows at the end
abbrev pub with_bundles : ℕ → Transition → Transition
with_bundles limit d = record d { sent = with_own_bundles limit d.site.equations d.sent }

-- the row of a message is the one without bundles, whose messages get theirs at its end
abbrev pub RowsFillLast : Type 0
RowsFillLast = (p : List Stmt) (limit : ℕ) (m : Msg) (s : Site) → message_row p limit m s ≡ with_bundles limit (message_row p 0 m s)

-- and so is a unit
abbrev pub UnitsFillLast : Type 0
UnitsFillLast =
    (p : List Stmt) (n limit : ℕ) (th : ThreadName) (s : Site) (d : Transition) → IsUnit p n 0 th s d → IsUnit p n limit th s (with_bundles limit d)
