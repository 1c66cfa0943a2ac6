-- Units of given threads, made again.
use Rattle.std.specs.Prelude.{◌≡◌, ℕ, List, ◌∷◌, ◌++◌, length, Some}
use Rattle.tree_node.specs.declared.names.ThreadName.{ThreadName}
use Rattle.tree_node.specs.State.{Stack}
use Rattle.kernel_syntax.specs.declared.stmt.Stmt.{Stmt}
use Rattle.thread_roster.specs.declared.mode.Mode.TheVariants.{Runs}
use Rattle.site_model.specs.Bundle.{bundle_limit}
use Rattle.site_model.specs.Site.{Site, thread_state}
use Rattle.site_model.specs.Transition.{Transition}
use Rattle.site_model.specs.Turn.{AreUnits}
use Rattle.site_units.specs.declared.data.Core.{Core}
use Rattle.site_units.specs.declared.data.Output.{Output}
use Rattle.site_units.specs.Core.{site_of}
use Rattle.site_units.specs.Units.{IsTransitionMade}

-- what units of these threads come to from here: this transition, and no other
abbrev pub ComesTo : List Stmt → ℕ → List ThreadName → Site → Transition → Type 0
ComesTo p n ths s d = AreUnits p n bundle_limit ths s d × ((e : Transition) → AreUnits p n bundle_limit ths s e → e ≡ d)

-- the data and the output came by the one transition of units of these threads
abbrev pub AreTheseMade : List Stmt → List ThreadName → Core → Output → Core → Output → Type 0
AreTheseMade p ths c0 o0 c1 o1 = (d : Transition) × ComesTo p c0.sites ths (site_of c0) d × IsTransitionMade p d c0 o0 c1 o1

-- the thread can go on at the site
abbrev pub CanGoOn : Site → ThreadName → Type 0
CanGoOn s th = (st : Stack) × (thread_state s th ≡ Some (st, Runs))

-- the thread at this place is the first that cannot go on when its unit comes
pub record IsStuckAt (p : List Stmt) (n : ℕ) (ths : List ThreadName) (s : Site) (at : ℕ) : Type 0 where
  pub front : List ThreadName
  pub thread : ThreadName
  pub behind : List ThreadName
  pub parts : ths ≡ front ++ thread ∷ behind
  pub place : at ≡ length front
  pub d : Transition
  pub comes : ComesTo p n front s d
  pub stuck : CanGoOn d.site thread → ⊥
