-- New sites, and what a book shows before its first entry.
use Rattle.std.specs.Prelude.{◌≡◌, ℕ, ◌+◌, ◌≤◌, List, [], ◌∷◌, false}
use Rattle.tree_node.specs.declared.limits.TheConstants.{MOST_STEPS}
use Rattle.kernel_syntax.specs.declared.stmt.Stmt.{Stmt}
use Rattle.site_message.specs.declared.story.NoSeat.{NoSeat}
use Rattle.site_message.specs.declared.story.Sight.{Sight}
use Rattle.site_message.specs.Story.{hand}
use Rattle.site_model.specs.Site.{initial_site}
use Rattle.site_core.specs.Site.{SiteState}
use Rattle.site_worker.specs.Inside.{book_sites, book_steps}

-- the site k of the program p, of n, at its start
pub record IsNewSite (p : List Stmt) (n k : ℕ) (s : SiteState NoSeat) : Type 0 where
  pub program : s.program ≡ p
  pub sites : s.sites ≡ n
  pub state : s.state ≡ initial_site p n k
  pub live : s.spent ≡ false

-- the sites from k on
abbrev pub AreNewSites : List Stmt → ℕ → ℕ → List (SiteState NoSeat) → Type 0
AreNewSites p n k [] = Unit {0}
AreNewSites p n k (s ∷ ss) = IsNewSite p n k s × AreNewSites p n (k + 1) ss

-- what a book of n sites without entries shows, whose limit of own steps is in its range
pub record IsFresh (n : ℕ) (x : Sight) : Type 0 where
  pub sites : book_sites x ≡ n
  pub entries : x.entries ≡ []
  pub hands : (k : ℕ) → hand k x.hands ≡ []
  pub limit : book_steps x ≤ MOST_STEPS
