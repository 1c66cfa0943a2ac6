-- The names in a message.
use Rattle.std.proofs.Common.{List, [], ◌∷◌}
use Rattle.std.specs.Prelude.{Contains}
use Rattle.tree_node.specs.declared.names.VarName.{VarName}
use Rattle.tree_node.specs.declared.names.Name.{Name}
use Rattle.tree_node.specs.declared.names.Name.TheVariants as name
use Rattle.tree_node.specs.declared.node.Feature.{Feature}
use Rattle.tree_node.specs.declared.node.Node.TheVariants as node
use Rattle.tree_node.specs.declared.node.Term.{Term}
use Rattle.tree_node.specs.declared.node.Term.TheVariants as term
use Rattle.tree_node.specs.Each.{Each}
use Rattle.tree_node.specs.Names.{EachOfTerm, EachOfEquation}
use Rattle.tree_node.specs.Store.{Equation}
use Rattle.tree_node.proofs.EachLemmas.{each_append}
use Rattle.site_message.specs.declared.message.Msg.{Msg}
use Rattle.site_message.specs.declared.message.Msg.TheVariants as msg
use Rattle.site_message.specs.Vars.{vars_of, field_vars}
use Rattle.thread_machine.specs.Fits.{IsKnown}
use Rattle.site_model.specs.Bundle.{vars_of_equations, message_vars}
use Rattle.site_model.specs.Fit.{EachOfMsg}

-- ---- the first part of a list

-- ---- from names to variables

module _ (P : Name → Type 0) where
  fields_each : (fs : List (Feature × VarName)) → Each (λ (f : Feature × VarName). P (name.Var f.1)) fs → Each (λ (x : VarName). P (name.Var x)) (field_vars fs)
  fields_each [] h = tt
  fields_each (f ∷ fs) h = (h.0, fields_each fs h.1)

  term_each : (t : Term) → EachOfTerm P t → Each (λ (x : VarName). P (name.Var x)) (vars_of t)
  term_each (term.Var x) h = (h, tt)
  term_each (term.Node (node.Int i)) h = tt
  term_each (term.Node (node.Atom t)) h = tt
  term_each (term.Node (node.Rec l fs)) h = fields_each fs h
  term_each (term.Node (node.Proc formals code q vars)) h = h.1
  term_each (term.Node (node.Cell c)) h = tt
  term_each (term.Node (node.Port c)) h = tt

  equations_each : (es : List Equation) → Each (EachOfEquation P) es → Each (λ (x : VarName). P (name.Var x)) (vars_of_equations es)
  equations_each [] h = tt
  equations_each (e ∷ es) h = each_append (λ (x : VarName). P (name.Var x)) (e.0 ∷ vars_of e.1) (vars_of_equations es) (h.0.0, term_each e.1 h.0.1) (equations_each es h.1)

  -- what holds of each name of a message holds of its variables
  pub message_each : (m : Msg) → EachOfMsg P m → Each (λ (x : VarName). P (name.Var x)) (message_vars m)
  message_each (msg.Spawn n code vars es) h = each_append (λ (x : VarName). P (name.Var x)) vars (vars_of_equations es) h.1 (equations_each es h.2)
  message_each (msg.Register x k) h = (h, tt)
  message_each (msg.BindReq x n t es) h = each_append (λ (x : VarName). P (name.Var x)) (x ∷ vars_of t) (vars_of_equations es) (h.0, term_each t h.2) (equations_each es h.3)
  message_each (msg.Binding x t es) h = each_append (λ (x : VarName). P (name.Var x)) (x ∷ vars_of t) (vars_of_equations es) (h.0, term_each t h.1) (equations_each es h.2)
  message_each (msg.Get c k) h = tt
  message_each (msg.Forward c k) h = tt
  message_each (msg.Put c v es) h = (h.1, equations_each es h.2)
  message_each (msg.PortSend q n k) h = tt
  message_each (msg.PortEnd n old new es) h = (h.1, (h.2, equations_each es h.3))
  message_each (msg.CellMake c v es) h = (h.1, equations_each es h.2)
  message_each (msg.CellAsk c n k v es) h = (h.2, equations_each es h.3)
  message_each (msg.CellOld n v es) h = (h.1, equations_each es h.2)

-- ---- from variables to names

module _ (known : List VarName) where
  fields_known : (fs : List (Feature × VarName)) → Each (Contains known) (field_vars fs) → Each (λ (f : Feature × VarName). Contains known f.1) fs
  fields_known [] h = tt
  fields_known (f ∷ fs) h = (h.0, fields_known fs h.1)

  -- a term of known variables
  pub term_known : (t : Term) → Each (Contains known) (vars_of t) → EachOfTerm (IsKnown known) t
  term_known (term.Var x) h = h.0
  term_known (term.Node (node.Int i)) h = tt
  term_known (term.Node (node.Atom t)) h = tt
  term_known (term.Node (node.Rec l fs)) h = fields_known fs h
  term_known (term.Node (node.Proc formals code q vars)) h = (tt, h)
  term_known (term.Node (node.Cell c)) h = tt
  term_known (term.Node (node.Port c)) h = tt
