-- A message whose variables are known is of known names.
use Rattle.std.proofs.Common.{List, [], ◌∷◌}
use Rattle.std.specs.Prelude.{Contains}
use Rattle.std.proofs.lemmas.List.Elements.{Contains-append_left, Contains-append_right}
use Rattle.tree_node.specs.declared.names.VarName.{VarName}
use Rattle.tree_node.specs.declared.node.Feature.{Feature}
use Rattle.tree_node.specs.declared.node.Node.TheVariants as node
use Rattle.tree_node.specs.declared.node.Term.{Term}
use Rattle.tree_node.specs.declared.node.Term.TheVariants as term
use Rattle.tree_node.specs.Each.{Each}
use Rattle.tree_node.specs.Names.{EachOfTerm, EachOfEquation}
use Rattle.tree_node.specs.Store.{Equation}
use Rattle.tree_node.proofs.ClassLemmas.{Contains-head, Contains-tail}
use Rattle.site_message.specs.declared.message.Msg.{Msg}
use Rattle.site_message.specs.declared.message.Msg.TheVariants as msg
use Rattle.thread_machine.specs.Fits as fits
use Rattle.site_message.specs.Vars.{vars_of, field_vars}
use Rattle.site_model.specs.Bundle.{message_bundle, message_vars, body_vars, vars_of_equations}
use Rattle.site_model.specs.Fit.{EachOfMsg}

list_known : (known xs : List VarName) → ((x : VarName) → Contains xs x → Contains known x) → Each (λ (x : VarName). Contains known x) xs
list_known known [] f = tt
list_known known (x ∷ xs) f = (f x (Contains-head x xs), list_known known xs (λ y c. f y (Contains-tail x y xs c)))

term_known : (known : List VarName) (t : Term) → ((x : VarName) → Contains (vars_of t) x → Contains known x) → EachOfTerm (fits.IsKnown known) t
term_known known (term.Var x) f = f x (Contains-head x [])
term_known known (term.Node (node.Rec l fs)) f = fields fs f
  where
    fields : (fs : List (Feature × VarName)) → ((x : VarName) → Contains (field_vars fs) x → Contains known x) → Each (λ (q : Feature × VarName). Contains known q.1) fs
    fields [] f = tt
    fields (q ∷ fs) f = (f q.1 (Contains-head q.1 (field_vars fs)), fields fs (λ x c. f x (Contains-tail q.1 x (field_vars fs) c)))
term_known known (term.Node (node.Proc formals code q vars)) f = (tt, list_known known vars f)
term_known known (term.Node (node.Int i)) f = tt
term_known known (term.Node (node.Atom t)) f = tt
term_known known (term.Node (node.Cell c)) f = tt
term_known known (term.Node (node.Port c)) f = tt

rows_known : (known : List VarName) (es : List Equation) → ((x : VarName) → Contains (vars_of_equations es) x → Contains known x) → Each (EachOfEquation (fits.IsKnown known)) es
rows_known known [] f = tt
rows_known known (e ∷ es) f = (
  (f e.0 (Contains-append_left (e.0 ∷ vars_of e.1) (vars_of_equations es) e.0 (Contains-head e.0 (vars_of e.1))), term_known known e.1 (λ x c. f x (Contains-append_left (e.0 ∷ vars_of e.1) (vars_of_equations es) x (Contains-tail e.0 x (vars_of e.1) c)))),
  rows_known known es (λ x c. f x (Contains-append_right (e.0 ∷ vars_of e.1) (vars_of_equations es) x c)),
)

pub said_known : (known : List VarName) (m : Msg) → ((x : VarName) → Contains (message_vars m) x → Contains known x) → EachOfMsg (fits.IsKnown known) m
said_known known m f = go m (λ x c. f x (Contains-append_left (body_vars m) (vars_of_equations (message_bundle m)) x c)) (rows_known known (message_bundle m) (λ x c. f x (Contains-append_right (body_vars m) (vars_of_equations (message_bundle m)) x c)))
  where
    go : (m : Msg) → ((x : VarName) → Contains (body_vars m) x → Contains known x) → Each (EachOfEquation (fits.IsKnown known)) (message_bundle m) → EachOfMsg (fits.IsKnown known) m
    go (msg.Spawn th code vars es) f g = (tt, list_known known vars f, g)
    go (msg.Register x k) f g = f x (Contains-head x [])
    go (msg.BindReq x th t es) f g = (f x (Contains-head x (vars_of t)), tt, term_known known t (λ y c. f y (Contains-tail x y (vars_of t) c)), g)
    go (msg.Binding x t es) f g = (f x (Contains-head x (vars_of t)), term_known known t (λ y c. f y (Contains-tail x y (vars_of t) c)), g)
    go (msg.Get d k) f g = tt
    go (msg.Forward d k) f g = tt
    go (msg.Put d v es) f g = (tt, f v (Contains-head v []), g)
    go (msg.PortSend q th k) f g = (tt, tt)
    go (msg.PortEnd th old new es) f g = (tt, f old (Contains-head old (new ∷ [])), f new (Contains-tail old new (new ∷ []) (Contains-head new [])), g)
    go (msg.CellMake d v es) f g = (tt, f v (Contains-head v []), g)
    go (msg.CellAsk d th k v es) f g = (tt, tt, f v (Contains-head v []), g)
    go (msg.CellOld th v es) f g = (tt, f v (Contains-head v []), g)
