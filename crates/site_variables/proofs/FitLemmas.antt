-- Which messages fit.
use Rattle.std.proofs.Common.{rules, true, false, ◌≡◌, ◌≢◌, ◌∙◌, sym, refl, subst, ℕ, ◌≤◌, List, Bool}
use mathlib.Core.Path.{fun_ext}
use Rattle.std.specs.Prelude.{Contains, ◌↔◌, IsTrue, not}
use Rattle.tree_node.specs.declared.names.VarName.{VarName}
use Rattle.tree_node.specs.declared.names.Name.{Name}
use Rattle.tree_node.specs.declared.names.Name.TheVariants as name
use Rattle.tree_node.specs.declared.node.Term.{Term}
use Rattle.tree_node.specs.Each.{Each}
use Rattle.tree_node.specs.Order.{IsLower, site_of}
use Rattle.tree_node.specs.Store.{Equation, IsFree}
use Rattle.tree_store.specs.Forest.{IsForest}
use Rattle.site_message.specs.declared.message.Msg.{Msg}
use Rattle.bind_protocol.specs.Records.{Records, is_own}
use Rattle.site_model.specs.Site.{Site, Counters}
use Rattle.site_model.specs.Fit.{BundleFits, EachOfMsg, IsKnownName, IsBelowCounter, home_of_name}
use Rattle.site_variables.specs.declared.variables.Variables.{Variables}
use Rattle.site_variables.specs.declared.names.Bounds.{Bounds}
use Rattle.site_variables.specs.Fit.{with_variables, counters_of, IsBoundOf, IsWithin, EquationFits}
use Rattle.tree_node.proofs.OrderLemmas.{Each-member}
use Rattle.tree_node.proofs.EachLemmas.{each_in}

-- ---- names

-- of the counters none but that of a name's kind is read
below_same : (c : Counters) (n : ℕ) → ◌≡◌ {A = Name → Type 0} (λ x. IsBelowCounter (record c { sites = n }) x) (λ x. IsBelowCounter c x)
below_same c n = fun_ext one
  where
    one : (x : Name) → IsBelowCounter (record c { sites = n }) x ≡ IsBelowCounter c x
    one (name.Var x) = refl
    one (name.Cell x) = refl
    one (name.Proc x) = refl
    one (name.Thread x) = refl
    one (name.Port x) = refl

-- a name of one of so many sites, with such a home, and with this where it is the own site's
abbrev IsSuch : ℕ → ℕ → (Name → Type 0) → Name → Type 0
IsSuch n i B x = (1 ≤ site_of x) × (site_of x ≤ n) × (home_of_name x ≤ n) × (site_of x ≡ i → B x)

pub within_known : (b : Bounds) (s : Site) (m : Msg) (o : Bool) → IsBoundOf b s → (IsTrue o ↔ EachOfMsg (IsWithin b) m) → IsTrue o ↔ EachOfMsg (IsKnownName b.sites s) m
within_known b s m o h same =
    let first : IsTrue o ↔ EachOfMsg (IsSuch b.sites s.records.site (λ x. IsBelowCounter (counters_of b) x)) m =
    subst (λ (i : ℕ). IsTrue o ↔ EachOfMsg (IsSuch b.sites i (λ x. IsBelowCounter (counters_of b) x)) m) (sym h.0) same in
    let second : IsTrue o ↔ EachOfMsg (IsSuch b.sites s.records.site (λ x. IsBelowCounter (record s.counters { sites = b.sites }) x)) m =
    subst (λ (c : Counters). IsTrue o ↔ EachOfMsg (IsSuch b.sites s.records.site (λ x. IsBelowCounter c x)) m) (sym h.1) first in
    subst (λ (B : Name → Type 0). IsTrue o ↔ EachOfMsg (IsSuch b.sites s.records.site B) m) (below_same s.counters b.sites) second

-- ---- equations

pub equation_known : (v : Variables) (x : VarName) (t r : Term) (o : Bool) → IsForest v.store.equations → IsLower t x → Contains v.store.equations (x, r) → (IsTrue o ↔ (t ≡ r)) → IsTrue o ↔ EquationFits v (x, t)
equation_known v x t r o forest lower there same = (to, fro)
  where
    to : IsTrue o → EquationFits v (x, t)
    to k =
        let is : t ≡ r = same.0 k in
        record {
          down = lower;
          same = λ z at. is ∙ forest.one x r z there at;
          own = λ q. subst (λ (z : Term). Contains v.store.equations (x, z)) (sym is) there;
        }

    fro : EquationFits v (x, t) → IsTrue o
    fro h = same.1 (h.same r there)

pub equation_new : (v : Variables) (x : VarName) (t : Term) (o : Bool) → IsLower t x → IsFree v.store.equations x → (IsTrue o ↔ (x.site ≢ v.binder.site)) → IsTrue o ↔ EquationFits v (x, t)
equation_new v x t o lower free same = (to, fro)
  where
    to : IsTrue o → EquationFits v (x, t)
    to k = record { down = lower; same = λ z at. absurd (free z at); own = λ q. absurd (same.0 k q) }

    fro : EquationFits v (x, t) → IsTrue o
    fro h = same.1 (λ q. free t (h.own q))

pub bundle_is : (s : Site) (v : Variables) (es : List Equation) (o : Bool) → (IsTrue o ↔ Each (EquationFits v) es) → IsTrue o ↔ BundleFits (with_variables s v) es
bundle_is s v es o same = (to, fro)
  where
    to : IsTrue o → BundleFits (with_variables s v) es
    to k =
        let all : Each (EquationFits v) es = same.0 k in
        record {
          down = each_in (λ (e : Equation). IsLower e.1 e.0) es (λ e at. (Each-member (EquationFits v) es e all at).down);
          same = λ x t r at known. (Each-member (EquationFits v) es (x, t) all at).same r known;
          own = λ x t at q. (Each-member (EquationFits v) es (x, t) all at).own q;
        }

    fro : BundleFits (with_variables s v) es → IsTrue o
    fro h = same.1 (each_in (EquationFits v) es (λ e at. record {
      down = Each-member (λ (d : Equation). IsLower d.1 d.0) es e h.down at;
      same = λ r known. h.same e.0 e.1 r at known;
      own = λ q. h.own e.0 e.1 at q;
    }))

pub not_own : (b : Records) (x : VarName) (o : Bool) → o ≡ is_own b x → IsTrue (not o) ↔ (x.site ≢ b.site)
not_own b x true e =
    let own : is_own b x ≡ true = sym e in
    let same : x.site ≡ b.site = search rules in
    (λ k. cc, λ h. absurd (h same))
not_own b x false e = (λ k q. let own : is_own b x ≡ true = search rules in cc, λ h. refl)
