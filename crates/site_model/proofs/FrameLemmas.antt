-- What parts of a turn leave as it was at a site.
use Rattle.std.proofs.Common.{arith, ◌≡◌, ◌∙◌, refl, ℕ, ◌≤◌, List, [], ◌∷◌, Bool, true, false, cond, Some, None}
use Rattle.std.specs.Prelude.{Option, ◌==◌}
use Rattle.tree_node.specs.declared.names.VarName.{VarName}
use Rattle.tree_node.specs.declared.names.CellName.{CellName}
use Rattle.tree_node.specs.declared.names.ThreadName.{ThreadName}
use Rattle.tree_node.specs.declared.node.Term.{Term}
use Rattle.tree_node.specs.Store.{Equation}
use Rattle.kernel_syntax.specs.declared.stmt.Stmt.{Stmt}
use Rattle.site_message.specs.declared.message.Msg.{Msg}
use Rattle.proxy_table.specs.Proxies as proxies
use Rattle.bind_protocol.specs.Records.{Records, is_own, knowledge}
use Rattle.bind_protocol.specs.Rows.{after_make, after_meet, after_meets}
use Rattle.token_chain.specs.declared.token.Token.{Token}
use Rattle.token_chain.specs.declared.token.Token.TheVariants.{Away, Asked, Here}
use Rattle.oz_model.specs.Effect.{CellChange, Stays, Made, Exchanged}
use Rattle.site_model.specs.Site.{Site}
use Rattle.site_model.specs.Cells.{with_own_request, with_last_asker}
use Rattle.site_model.specs.Transition.{Transition}
use Rattle.site_model.specs.Turn.{IsFullTurnOf, SiteTurnOf}
use Rattle.site_model.specs.Unit.{after_cell}
use Rattle.site_model.specs.Variables.{after_makes, with_known_equation, with_known_equation_as, with_known_equations, own_binds}

-- what is told makes no names
pub told_counters : (s : Site) (x : VarName) (t : Term) → (with_known_equation s x t).counters ≡ s.counters
told_counters s x t = go (is_own s.records x) (knowledge s.records x)
  where
    go : (b : Bool) (o : Option (Option Term)) → (with_known_equation_as b o s x t).counters ≡ s.counters
    go true o = refl
    go false (Some (Some r)) = refl
    go false (Some None) = refl
    go false None = refl

pub told_all_counters : (es : List Equation) (s : Site) → (with_known_equations s es).counters ≡ s.counters
told_all_counters [] s = refl
told_all_counters (e ∷ es) s = told_all_counters es (with_known_equation s e.0 e.1) ∙ told_counters s e.0 e.1

-- nor does what is bound
pub binds_counters : (limit : ℕ) (es : List Equation) (s : Site) → (own_binds limit es s).site.counters ≡ s.counters
binds_counters limit [] s = refl
binds_counters limit (e ∷ es) s = binds_counters limit es s

-- a cell's change is none of the records of variables
pub cell_keeps_records : (c : CellChange) (s : Site) → (after_cell c s).records ≡ s.records
cell_keeps_records Stays s = refl
cell_keeps_records (Made c v) s = refl
cell_keeps_records (Exchanged c new told) s = refl

-- a request for a token changes no cell's record
pub request_records : (c : CellName) (t : Token) (s : Site) → (with_own_request c t s).cell_records ≡ s.cell_records
request_records c Away s = go (c.site == s.records.site)
  where
    go : (b : Bool) → (cond b (with_last_asker c s.records.site s) s).cell_records ≡ s.cell_records
    go true = refl
    go false = refl
request_records c Asked s = refl
request_records c (Here v) s = refl

-- ---- the number of the site

pub meet_site : (b : Records) (x : VarName) → (after_meet b x).site ≡ b.site
meet_site b x = go (is_own b x)
  where
    go : (o : Bool) → (cond o b (record b { proxies = proxies.after_meet b.proxies x })).site ≡ b.site
    go true = refl
    go false = refl

pub meets_site : (b : Records) (xs : List VarName) → (after_meets b xs).site ≡ b.site
meets_site b [] = refl
meets_site b (x ∷ xs) = meets_site (after_meet b x) xs ∙ meet_site b x

pub makes_site : (b : Records) (xs : List VarName) → (after_makes b xs).site ≡ b.site
makes_site b [] = refl
makes_site b (x ∷ xs) = makes_site (after_make b x) xs

-- ---- turns

-- a turn of as many units as a quantum has, or until nothing is left to do, is a turn
pub few_units : (p : List Stmt) (n limit quantum : ℕ) (ths : List ThreadName) (s : Site) (m : Option Msg) (d : Transition) → quantum ≤ 64 → IsFullTurnOf p n limit quantum ths s m d → SiteTurnOf p n limit ths s m d
few_units p n limit quantum ths s m d few (turn, most, idle) = (omega (arith, few, most), turn)
