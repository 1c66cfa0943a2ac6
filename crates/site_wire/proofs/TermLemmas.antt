-- Terms that fit can be spelled, and terms of a message that can be spelled fit.
use Rattle.std.proofs.Common.{subst, ℕ, ◌≤◌, List, [], ◌∷◌}
use Rattle.tree_node.specs.declared.names.VarName.{VarName}
use Rattle.tree_node.specs.declared.names.Name.TheVariants as name
use Rattle.tree_node.specs.declared.node.Feature.{Feature}
use Rattle.tree_node.specs.declared.node.Node.TheVariants as node
use Rattle.tree_node.specs.declared.node.Term.{Term}
use Rattle.tree_node.specs.declared.node.Term.TheVariants as term
use Rattle.tree_node.specs.Each.{Each}
use Rattle.tree_node.specs.Store.{Store, Equation}
use Rattle.kernel_syntax.specs.declared.stmt.Stmt.{Stmt}
use Rattle.kernel_syntax.specs.declared.stmt.Stmt.TheVariants as stmt
use Rattle.kernel_syntax.specs.Free.{stmt_at}
use Rattle.kernel_syntax.specs.Program.{IsProgram, IsStmt}
use Rattle.oz_model.specs.WellFormed.{IsMadeBy, IsNode, IsNodeOf}
use Rattle.site_message.specs.Wire.{FitsFeature, FitsField, FitsVar, FitsTerm, FitsEquation}
use Rattle.site_wire.specs.Sending.{IsOfSites, TermFits, EquationsFit}
use Rattle.oz_model.proofs.NodesWell.{fits}

few_formals : (p : List Stmt) (formals : ℕ) (vars : List VarName) (st : Stmt) → IsStmt st → IsMadeBy p formals vars st → formals ≤ 64
few_formals p formals vars (stmt.TellProc left first count body) h m = subst (λ (k : ℕ). k ≤ 64) m.0 h.0
few_formals p formals vars _ h m = absurd m

fields_fit : (fs : List (Feature × VarName)) → Each (λ (f : Feature × VarName). IsOfSites (name.Var f.1)) fs → Each (λ (f : Feature × VarName). FitsFeature f.0) fs → Each FitsField fs
fields_fit [] h g = tt
fields_fit (f ∷ fs) h g = ((g.0, h.0), fields_fit fs h.1 g.1)

field_vars_fit : (fs : List (Feature × VarName)) → Each FitsField fs → Each (λ (f : Feature × VarName). IsOfSites (name.Var f.1)) fs
field_vars_fit [] h = tt
field_vars_fit (f ∷ fs) h = (h.0.1, field_vars_fit fs h.1)

features_fit : (fs : List (Feature × VarName)) → Each FitsField fs → Each (λ (f : Feature × VarName). FitsFeature f.0) fs
features_fit [] h = tt
features_fit (f ∷ fs) h = (h.0.0, features_fit fs h.1)

module _ (p : List Stmt) (is : IsProgram p) where
  pub term_spelled : (t : Term) → TermFits p t → FitsTerm t
  term_spelled (term.Var x) h = h.0
  term_spelled (term.Node (node.Int i)) h = tt
  term_spelled (term.Node (node.Atom t)) h = h.1.1
  term_spelled (term.Node (node.Rec l fs)) h = (h.1.1.0, (h.1.0.0, h.1.0.1, fields_fit fs h.0 h.1.1.1, h.1.0.2))
  term_spelled (term.Node (node.Proc formals code q vars)) h = (h.0.0, few_formals p formals vars (stmt_at p code) (fits p code is.stmts) h.1.0, (h.1.1, h.0.1))
  term_spelled (term.Node (node.Cell c)) h = h.0
  term_spelled (term.Node (node.Port c)) h = h.0

  pub equation_spelled : (e : Equation) → FitsVar e.0 → TermFits p e.1 → FitsEquation e
  equation_spelled e x h = (x, term_spelled e.1 h)

-- a term of a message
pub term_heard : (p : List Stmt) (t : Term) → FitsTerm t → IsNodeOf (IsNode p) t → TermFits p t
term_heard p (term.Var x) h g = (h, tt)
term_heard p (term.Node (node.Int i)) h g = (tt, (g, tt))
term_heard p (term.Node (node.Atom t)) h g = (tt, (g, h))
term_heard p (term.Node (node.Rec l fs)) h g = (field_vars_fit fs h.1.2, (g, (h.0, features_fit fs h.1.2)))
term_heard p (term.Node (node.Proc formals code q vars)) h g = ((h.0, h.2.1), (g, h.2.0))
term_heard p (term.Node (node.Cell c)) h g = (h, (g, tt))
term_heard p (term.Node (node.Port c)) h g = (h, (g, tt))

pub equations_heard : (p : List Stmt) (es : List Equation) → Each FitsEquation es → Each (λ (e : Equation). IsNodeOf (IsNode p) e.1) es → EquationsFit p es
equations_heard p [] h g = record { names = tt; nodes = tt }
equations_heard p (e ∷ es) h g =
    let rest : EquationsFit p es = equations_heard p es h.1 g.1 in
    let here : TermFits p e.1 = term_heard p e.1 h.0.1 g.0 in
    record { names = ((h.0.0, here.0), rest.names); nodes = (here.1, rest.nodes) }

-- one more
pub more_fits : (p : List Stmt) (s : Store) (x : VarName) (t : Term) → FitsVar x → TermFits p t → EquationsFit p s → EquationsFit p ((x, t) ∷ s)
more_fits p s x t fx ft h = record { names = ((fx, ft.0), h.names); nodes = (ft.1, h.nodes) }
