-- A message whose variables and other names are known names, and the rest of it fit, is fit.
use Rattle.std.proofs.Common.{ℕ, List, [], ◌∷◌}
use Rattle.std.specs.Prelude.{Contains}
use Rattle.std.proofs.lemmas.List.Elements.{Contains-append_left, Contains-append_right}
use Rattle.tree_node.specs.declared.names.VarName.{VarName}
use Rattle.tree_node.specs.declared.names.Name.{Name}
use Rattle.tree_node.specs.declared.names.Name.TheVariants as name
use Rattle.tree_node.specs.declared.node.Feature.{Feature}
use Rattle.tree_node.specs.declared.node.Node.TheVariants as node
use Rattle.tree_node.specs.declared.node.Term.{Term}
use Rattle.tree_node.specs.declared.node.Term.TheVariants as term
use Rattle.tree_node.specs.Each.{Each}
use Rattle.tree_node.specs.Names.{EachOfTerm, EachOfEquation}
use Rattle.tree_node.specs.Store.{Equation}
use Rattle.tree_node.proofs.ClassLemmas.{Contains-head, Contains-tail}
use Rattle.site_message.specs.declared.message.Msg.{Msg}
use Rattle.site_message.specs.declared.message.Msg.TheVariants as msg
use Rattle.site_message.specs.Vars.{vars_of, field_vars}
use Rattle.site_model.specs.Site.{Site}
use Rattle.site_model.specs.Bundle.{message_vars, body_vars, vars_of_equations, message_bundle}
use Rattle.site_model.specs.Fit.{EachOfMsg, SitesOfMsg, IsOtherSite, IsKnownName, CanTake, BundleFits}
use Rattle.world_messages.specs.Unfit.{TakesVars, SitesVars, TakesCells, SitesCells, OnOthers, TellsFit, PartsAreFit}

module _ (P : Name → Type 0) where
  list_of : (xs : List VarName) → ((x : VarName) → Contains xs x → P (name.Var x)) → Each (λ (x : VarName). P (name.Var x)) xs
  list_of [] f = tt
  list_of (x ∷ xs) f = (f x (Contains-head x xs), list_of xs (λ y c. f y (Contains-tail x y xs c)))

  fields_of : (fs : List (Feature × VarName)) → ((x : VarName) → Contains (field_vars fs) x → P (name.Var x)) → Each (λ (q : Feature × VarName). P (name.Var q.1)) fs
  fields_of [] f = tt
  fields_of (q ∷ fs) f = (f q.1 (Contains-head q.1 (field_vars fs)), fields_of fs (λ x c. f x (Contains-tail q.1 x (field_vars fs) c)))

  term_of : (t : Term) → ((x : VarName) → Contains (vars_of t) x → P (name.Var x)) → EachOfTerm (OnOthers P) t → EachOfTerm P t
  term_of (term.Var x) f g = f x (Contains-head x [])
  term_of (term.Node (node.Rec l fs)) f g = fields_of fs f
  term_of (term.Node (node.Proc formals code q vars)) f g = (g.0, list_of vars f)
  term_of (term.Node (node.Cell c)) f g = g
  term_of (term.Node (node.Port c)) f g = g
  term_of (term.Node (node.Int i)) f g = tt
  term_of (term.Node (node.Atom t)) f g = tt

  rows_of : (es : List Equation) → ((x : VarName) → Contains (vars_of_equations es) x → P (name.Var x)) → Each (EachOfEquation (OnOthers P)) es → Each (EachOfEquation P) es
  rows_of [] f g = tt
  rows_of (e ∷ es) f g = (
    (
      f e.0 (Contains-append_left (e.0 ∷ vars_of e.1) (vars_of_equations es) e.0 (Contains-head e.0 (vars_of e.1))),
      term_of e.1 (λ x c. f x (Contains-append_left (e.0 ∷ vars_of e.1) (vars_of_equations es) x (Contains-tail e.0 x (vars_of e.1) c))) g.0.1,
    ),
    rows_of es (λ x c. f x (Contains-append_right (e.0 ∷ vars_of e.1) (vars_of_equations es) x c)) g.1,
  )

  pub both_of : (m : Msg) → ((x : VarName) → Contains (message_vars m) x → P (name.Var x)) → EachOfMsg (OnOthers P) m → EachOfMsg P m
  both_of m f g = go m (λ x c. f x (Contains-append_left (body_vars m) (vars_of_equations (message_bundle m)) x c)) (λ x c. f x (Contains-append_right (body_vars m) (vars_of_equations (message_bundle m)) x c)) g
    where
      go : (m : Msg) → ((x : VarName) → Contains (body_vars m) x → P (name.Var x)) → ((x : VarName) → Contains (vars_of_equations (message_bundle m)) x → P (name.Var x)) → EachOfMsg (OnOthers P) m → EachOfMsg P m
      go (msg.Spawn th code vars es) f b g = (g.0, list_of vars f, rows_of es b g.2)
      go (msg.Register x k) f b g = f x (Contains-head x [])
      go (msg.BindReq x th t es) f b g = (f x (Contains-head x (vars_of t)), g.1, term_of t (λ y c. f y (Contains-tail x y (vars_of t) c)) g.2, rows_of es b g.3)
      go (msg.Binding x t es) f b g = (f x (Contains-head x (vars_of t)), term_of t (λ y c. f y (Contains-tail x y (vars_of t) c)) g.1, rows_of es b g.2)
      go (msg.Get c k) f b g = g
      go (msg.Forward c k) f b g = g
      go (msg.Put c v es) f b g = (g.0, f v (Contains-head v []), rows_of es b g.2)
      go (msg.PortSend q n k) f b g = g
      go (msg.PortEnd n old new es) f b g = (g.0, f old (Contains-head old (new ∷ [])), f new (Contains-tail old new (new ∷ []) (Contains-head new [])), rows_of es b g.3)
      go (msg.CellMake c v es) f b g = (g.0, f v (Contains-head v []), rows_of es b g.2)
      go (msg.CellAsk c n k v es) f b g = (g.0, g.1, f v (Contains-head v []), rows_of es b g.3)
      go (msg.CellOld n v es) f b g = (g.0, f v (Contains-head v []), rows_of es b g.2)

takes_all : (s : Site) (m : Msg) → TakesVars s m → TakesCells s m → TellsFit s m → CanTake s m
takes_all s (msg.Spawn a b c d) h g k = k.brings
takes_all s (msg.Register x i) h g k = h
takes_all s (msg.BindReq a b c d) h g k = (k.asks, h)
takes_all s (msg.Binding x t bundle) h g k = (h.0, k.down.0, h.1)
takes_all s (msg.Get c i) h g k = g
takes_all s (msg.Forward c i) h g k = g
takes_all s (msg.Put a b c) h g k = g
takes_all s (msg.PortSend a b c) h g k = g
takes_all s (msg.PortEnd a b c d) h g k = g
takes_all s (msg.CellMake a b c) h g k = g
takes_all s (msg.CellAsk a b c d e) h g k = g
takes_all s (msg.CellOld a b c) h g k = g

-- the bundle is what a message tells, of a Binding all but its own equation
bundle_of : (s : Site) (m : Msg) → TellsFit s m → BundleFits s (message_bundle m)
bundle_of s (msg.Spawn a b c d) k = record { down = k.down; same = k.same; own = k.own }
bundle_of s (msg.Register x i) k = record { down = k.down; same = k.same; own = k.own }
bundle_of s (msg.BindReq a b c d) k = record { down = k.down; same = k.same; own = k.own }
bundle_of s (msg.Binding x t bundle) k = record {
  down = k.down.1;
  same = λ y r u h. k.same y r u (Contains-tail (x, t) (y, r) bundle h);
  own = λ y r h. k.own y r (Contains-tail (x, t) (y, r) bundle h);
}
bundle_of s (msg.Get c i) k = record { down = k.down; same = k.same; own = k.own }
bundle_of s (msg.Forward c i) k = record { down = k.down; same = k.same; own = k.own }
bundle_of s (msg.Put a b c) k = record { down = k.down; same = k.same; own = k.own }
bundle_of s (msg.PortSend a b c) k = record { down = k.down; same = k.same; own = k.own }
bundle_of s (msg.PortEnd a b c d) k = record { down = k.down; same = k.same; own = k.own }
bundle_of s (msg.CellMake a b c) k = record { down = k.down; same = k.same; own = k.own }
bundle_of s (msg.CellAsk a b c d e) k = record { down = k.down; same = k.same; own = k.own }
bundle_of s (msg.CellOld a b c) k = record { down = k.down; same = k.same; own = k.own }

pub sites_both : (n : ℕ) (s : Site) (m : Msg) → SitesVars n s m → SitesCells n s m → SitesOfMsg (IsOtherSite n s) m
sites_both n s (msg.Spawn a b c d) h g = tt
sites_both n s (msg.Register x k) h g = h
sites_both n s (msg.BindReq a b c d) h g = tt
sites_both n s (msg.Binding a b c) h g = tt
sites_both n s (msg.Get c k) h g = g
sites_both n s (msg.Forward c k) h g = g
sites_both n s (msg.Put a b c) h g = tt
sites_both n s (msg.PortSend q o k) h g = g
sites_both n s (msg.PortEnd a b c d) h g = tt
sites_both n s (msg.CellMake a b c) h g = tt
sites_both n s (msg.CellAsk c o k v bundle) h g = g
sites_both n s (msg.CellOld a b c) h g = tt

pub parts_are_fit : PartsAreFit
parts_are_fit p n s m v o k = record {
  wire = o.wire;
  takes = takes_all s m v.takes o.takes k;
  sites = sites_both n s m v.sites o.sites;
  names = both_of (IsKnownName n s) m v.vars o.names;
  codes = v.codes;
  bundle = bundle_of s m k;
}
