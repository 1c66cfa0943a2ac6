-- Turns of a site: at most one message, then units.
use Rattle.std.specs.Prelude.{◌≡◌, ℕ, ◌<◌, ◌≤◌, List, [], ◌∷◌, ◌⊎◌, length, true, Option, Some, None}
use Rattle.tree_node.specs.declared.limits.TheConstants.{MOST_UNITS}
use Rattle.tree_node.specs.declared.names.ThreadName.{ThreadName}
use Rattle.kernel_syntax.specs.declared.stmt.Stmt.{Stmt}
use Rattle.site_message.specs.declared.message.Msg.{Msg}
use Rattle.site_model.specs.Site.{Site, is_idle}
use Rattle.site_model.specs.Transition.{Transition, without_output, sequence}
use Rattle.site_model.specs.Messages.{reception}
use Rattle.site_model.specs.Unit.{IsUnit}
use Rattle.site_model.specs.Fit.{IsFit}

-- what comes of the delivered message: its row, or nothing where it is unfit
abbrev pub IsReception : List Stmt → ℕ → ℕ → Option Msg → Site → Transition → Type 0
IsReception p n limit None s d = d ≡ without_output s
IsReception p n limit (Some m) s d =
    (IsFit p n s m × (d ≡ reception p limit m s)) ⊎ ((IsFit p n s m → ⊥) × (d ≡ without_output s))

-- units of these threads, one after another
abbrev pub AreUnits : List Stmt → ℕ → ℕ → List ThreadName → Site → Transition → Type 0
AreUnits p n limit [] s d = d ≡ without_output s
AreUnits p n limit (th ∷ ths) s d =
    (one rest : Transition) × IsUnit p n limit th s one × AreUnits p n limit ths one.site rest × (d ≡ sequence one rest)

-- a turn of these units, on a program's site of n, with bundles of at most so many equations
abbrev pub IsTurnOf : List Stmt → ℕ → ℕ → List ThreadName → Site → Option Msg → Transition → Type 0
IsTurnOf p n limit ths s m d =
    (heard rest : Transition) × IsReception p n limit m s heard × AreUnits p n limit ths heard.site rest × (d ≡ sequence heard rest)

-- of these units, which are at most 64
abbrev pub SiteTurnOf : List Stmt → ℕ → ℕ → List ThreadName → Site → Option Msg → Transition → Type 0
SiteTurnOf p n limit ths s m d = (length ths ≤ MOST_UNITS) × IsTurnOf p n limit ths s m d

-- of some at most 64 units
abbrev pub SiteTurn : List Stmt → ℕ → ℕ → Site → Option Msg → Transition → Type 0
SiteTurn p n limit s m d = (ths : List ThreadName) × (length ths ≤ MOST_UNITS) × IsTurnOf p n limit ths s m d

-- a turn of these units, which are as many as the quantum, fewer only where the site is then idle
abbrev pub IsFullTurnOf : List Stmt → ℕ → ℕ → ℕ → List ThreadName → Site → Option Msg → Transition → Type 0
IsFullTurnOf p n limit quantum ths s m d =
    IsTurnOf p n limit ths s m d × (length ths ≤ quantum) × (length ths < quantum → is_idle d.site ≡ true)

-- the same of some units
abbrev pub IsFullTurn : List Stmt → ℕ → ℕ → ℕ → Site → Option Msg → Transition → Type 0
IsFullTurn p n limit quantum s m d =
    (ths : List ThreadName) × IsTurnOf p n limit ths s m d × (length ths ≤ quantum) × (length ths < quantum → is_idle d.site ≡ true)
