-- Which names occur at a site, and that each was made.
use Rattle.std.specs.Prelude.{◌≡◌, ◌↔◌, ℕ, List, ◌⊎◌, Some}
use Rattle.tree_node.specs.declared.names.VarName.{VarName}
use Rattle.tree_node.specs.declared.names.CellName.{CellName}
use Rattle.tree_node.specs.declared.names.ThreadName.{ThreadName}
use Rattle.tree_node.specs.declared.names.Name.{Name}
use Rattle.tree_node.specs.declared.names.Name.TheVariants as name
use Rattle.tree_node.specs.Each.{Each}
use Rattle.tree_node.specs.Names.{EachName, EachOfEquation, EachOfStack}
use Rattle.tree_node.specs.Order.{site_of}
use Rattle.tree_node.specs.State.{State, equal_thread}
use Rattle.tree_node.specs.Store.{Store, IsFree}
use Rattle.site_message.specs.declared.message.Msg.{Msg}
use Rattle.tree_node.specs.Assoc.{value_of}
use Rattle.bind_protocol.specs.Records.{Records, IsKnown}
use Rattle.token_chain.specs.declared.token.Token.TheVariants.{Here}
use Rattle.site_model.specs.Site.{ThreadState, Threads, CellRecord, Counters, cell_record_in}
use Rattle.site_model.specs.Fit.{EachOfMsg, IsBelowCounter}
use Rattle.world_model.specs.World.{Mail, IsOnItsWay}

-- the variable is nobody's, or known to the site: its own and made, or met
abbrev pub IsHere : Records → VarName → Type 0
IsHere b x = (x.site ≡ 0) ⊎ IsKnown b x

-- a variable is nobody's or known to the site; of names of other kinds nothing is asked
abbrev pub IsHereName : Records → Name → Type 0
IsHereName b (name.Var x) = IsHere b x
IsHereName b _ = Unit {0}

-- the name was made by its site, whose counter is above it. Names of site 0 are nobody's
abbrev pub IsMade : (ℕ → Counters) → Name → Type 0
IsMade made x = (site_of x ≡ 0) ⊎ IsBelowCounter (made (site_of x)) x

-- P holds of each name in the equations and stacks of a site
pub record IsHome (P : Name → Type 0) (s : Store) (ts : Threads) : Type 0 where
  pub equations : Each (EachOfEquation P) s
  pub stacks : (n : ThreadName) (v : ThreadState) → value_of equal_thread ts n ≡ Some v → EachOfStack P v.0

-- and so are the contents of the tokens
abbrev pub AreContentsHome : Records → List (CellName × CellRecord) → Type 0
AreContentsHome b qs = (c : CellName) (v : VarName) → (cell_record_in qs c).held.token ≡ Here v → IsHere b v

-- each name at a site is here
abbrev pub AreHome : (ℕ → Name → Type 0) → (ℕ → Store) → (ℕ → Threads) → Type 0
AreHome here eqs threads = (i : ℕ) → IsHome (here i) (eqs i) (threads i)

-- what is here at site i, by its records. Site 0 is no site: threads that wait for an answer count as there, and everything is
abbrev pub here_at : (ℕ → Records) → ℕ → Name → Type 0
here_at records i x = IsHereName (records i) x ⊎ (i ≡ 0)

-- at each site the contents of its tokens are here: nobody's, or known to the site
abbrev pub ContentsHome : (ℕ → Records) → (ℕ → List (CellName × CellRecord)) → Type 0
ContentsHome records cell_records = (i : ℕ) → AreContentsHome (records i) (cell_records i)

-- what occurs at the centre was made, and what is nobody's has no equation
pub record IsCentreMade (made : ℕ → Counters) (c : State) : Type 0 where
  pub all : EachName (IsMade made) c
  pub nobody : (x : VarName) → x.site ≡ 0 → IsFree c.equations x

-- a site knows of its own variables those that it made, and of others only what was made
pub record KnownAreMade (records : ℕ → Records) (made : ℕ → Counters) : Type 0 where
  pub own : (i : ℕ) (x : VarName) → x.site ≡ i → IsBelowCounter (made i) (name.Var x) ↔ IsKnown (records i) x
  pub met : (i : ℕ) (x : VarName) → IsKnown (records i) x → IsMade made (name.Var x)

-- what occurs in messages was made
abbrev pub AreMailNamesMade : (ℕ → Counters) → Mail → Type 0
AreMailNamesMade made mail = (k to : ℕ) (m : Msg) → IsOnItsWay mail k to m → EachOfMsg (IsMade made) m
