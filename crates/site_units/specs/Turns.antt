-- Rows of messages and loops of units, over a site's data.
use Rattle.std.specs.Prelude.{◌≡◌, ℕ, ◌<◌, ◌≤◌, List, [], ◌∷◌, ◌++◌, length, true}
use Rattle.tree_node.specs.declared.names.ThreadName.{ThreadName}
use Rattle.kernel_syntax.specs.declared.stmt.Stmt.{Stmt}
use Rattle.thread_roster.specs.Threads.{IsOrderOf}
use Rattle.site_model.specs.Site.{Site, is_idle}
use Rattle.site_model.specs.Bundle.{bundle_limit}
use Rattle.site_model.specs.Transition.{Transition, without_output, sequence}
use Rattle.site_model.specs.Unit.{IsUnit}
use Rattle.site_units.specs.declared.data.Core.{Core}
use Rattle.site_units.specs.declared.data.Output.{Output}
use Rattle.site_units.specs.Core.{site_of}
use Rattle.site_units.specs.Order.{IsUnitOfFirst, last_of, passed_on}
use Rattle.site_units.specs.Units.{IsTransitionMade}
use Rattle.site_units.specs.Stretches.{AreQuietUnits, AreUnitsBy}

-- the data and the output came by this row of the site
abbrev pub IsRowMade : List Stmt → (Site → Transition) → Core → Output → Core → Output → Type 0
IsRowMade p f c0 o0 c1 o1 = IsTransitionMade p (f (site_of c0)) c0 o0 c1 o1

-- what a unit of this thread comes to: this transition, and no other
abbrev pub IsTheUnit : List Stmt → ℕ → ThreadName → Site → Transition → Type 0
IsTheUnit p n th s d = IsUnit p n bundle_limit th s d × ((e : Transition) → IsUnit p n bundle_limit th s e → e ≡ d)

-- units of these threads, one after another, from one order of turns to another: before each, and behind the last, exactly those
-- threads stand in the order that can go on, each once; and each is of the first
abbrev pub AreUnitsInOrder : List Stmt → ℕ → List ThreadName → Site → List ThreadName → Transition → List ThreadName → Type 0
AreUnitsInOrder p n [] s old d new = (d ≡ without_output s) × (new ≡ old) × IsOrderOf s.threads old
AreUnitsInOrder p n (th ∷ ths) s old d new =
    (one rest : Transition) × (now : List ThreadName) × IsOrderOf s.threads old × IsTheUnit p n th s one × IsUnitOfFirst th old now
    × AreUnitsInOrder p n ths one.site now rest new × (d ≡ sequence one rest)

-- so many quiet units of one thread were made
abbrev pub AreQuietUnitsOf : List Stmt → ℕ → ThreadName → Core → Output → Core → Output → Type 0
AreQuietUnitsOf p count th c0 o0 c1 o1 = (d : Transition) × AreQuietUnits p c0.sites 0 count th (site_of c0) d × IsTransitionMade p d c0 o0 c1 o1

-- so many units of it, of which all but one are quiet, and whose messages are bare
abbrev pub AreUnitsOf : List Stmt → ℕ → ThreadName → Core → Output → Core → Output → Type 0
AreUnitsOf p count th c0 o0 c1 o1 = (d : Transition) × AreUnitsBy p c0.sites 0 count th (site_of c0) d × IsTransitionMade p d c0 o0 c1 o1

-- and whose messages got their bundles
abbrev pub ArePackedUnitsOf : List Stmt → ℕ → ThreadName → Core → Output → Core → Output → Type 0
ArePackedUnitsOf p count th c0 o0 c1 o1 = (d : Transition) × AreUnitsBy p c0.sites bundle_limit count th (site_of c0) d × IsTransitionMade p d c0 o0 c1 o1

-- units of these threads were made, as many as the quantum, fewer only where the site is then idle, each of the first of those that can
-- go on; and the thread of the last one then went behind the others, where it can go on
abbrev pub AreUnitsMade : List Stmt → ℕ → List ThreadName → Core → Output → Core → Output → Type 0
AreUnitsMade p quantum ths c0 o0 c1 o1 =
    (d : Transition) × (now : List ThreadName) × AreUnitsInOrder p c0.sites ths (site_of c0) c0.threads.order d now × IsTransitionMade p d c0 o0 c1 o1
    × (length ths ≤ quantum) × (length ths < quantum → is_idle d.site ≡ true) × (c1.threads.order ≡ passed_on (last_of ths) now)

-- so were the units of the threads that were told behind others
abbrev pub AreToldUnitsMade : List Stmt → ℕ → List ThreadName → List ThreadName → Core → Output → Core → Output → Type 0
AreToldUnitsMade p quantum t0 t1 c0 o0 c1 o1 = (ths : List ThreadName) × (t1 ≡ t0 ++ ths) × AreUnitsMade p quantum ths c0 o0 c1 o1
