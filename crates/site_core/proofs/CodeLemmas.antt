-- Which codes fit: what the code tests is what the definitions of a site say, where a message can be spelled.
use Rattle.std.proofs.Common.{◌≡◌, sym, refl, ℕ, ◌<◌, List, [], ◌∷◌, length, Some, None}
use Rattle.std.specs.Prelude.{Option, ◌↔◌, slice_get, unwrap_or}
use Rattle.std.proofs.lemmas.Option.{slice_get_within}
use Rattle.tree_node.specs.declared.names.VarName.{VarName}
use Rattle.tree_node.specs.declared.names.CodeId.{CodeId}
use Rattle.tree_node.specs.declared.node.Node.{Node}
use Rattle.tree_node.specs.declared.node.Node.TheVariants as node
use Rattle.tree_node.specs.declared.node.Term.{Term}
use Rattle.tree_node.specs.declared.node.Term.TheVariants as term
use Rattle.tree_node.specs.Each.{Each}
use Rattle.tree_node.specs.Store.{Equation}
use Rattle.kernel_syntax.specs.declared.stmt.Stmt.{Stmt}
use Rattle.kernel_syntax.specs.declared.stmt.Stmt.TheVariants as stmt
use Rattle.kernel_syntax.specs.Scopes.{bodies_of, stmt_at}
use Rattle.kernel_syntax.specs.Program.{IsProgram}
use Rattle.site_message.specs.declared.message.Msg.{Msg}
use Rattle.site_message.specs.declared.message.Msg.TheVariants as msg
use Rattle.site_message.specs.Wire.{FitsNode, FitsTerm, FitsEquation, FitsWire}
use Rattle.oz_model.specs.WellFormed.{IsMadeBy, IsNode, IsNodeOf}
use Rattle.thread_machine.specs.Fits.{IsTellOf, NodeFits, TermFits}
use Rattle.site_model.specs.Bundle.{message_bundle}
use Rattle.site_model.specs.Fit.{CodesFit}
use Rattle.site_core.specs.Fitting.{IsEquationFit, PartsFit}
use Rattle.site_model.proofs.BundleLemmas.{bundle_wire}

-- ---- a procedure

-- a tell that made the procedure
tell_made : (p : List Stmt) (formals : ℕ) (vars : List VarName) (st : Stmt) → IsTellOf p st formals (length vars) → IsMadeBy p formals vars st
tell_made p formals vars (stmt.TellProc left first count body) h = (h.0, sym h.1)
tell_made p formals vars _ h = absurd h

made_tell : (p : List Stmt) (code : CodeId) (formals : ℕ) (vars : List VarName) (st : Stmt) → IsMadeBy p formals vars st → Each (λ (c : CodeId). (code.0 < c.0) × (c.0 < length p)) (bodies_of st) → IsTellOf p st formals (length vars)
made_tell p code formals vars (stmt.TellProc left first count body) h b = (h.0, sym h.1, b.0.1)
made_tell p code formals vars _ h b = absurd h

-- the program has the code of a procedure that its tell made
made_fits : (p : List Stmt) → IsProgram p → (code : CodeId) (formals : ℕ) (vars : List VarName) → IsMadeBy p formals vars (stmt_at p code) → (code.0 < length p) × IsTellOf p (stmt_at p code) formals (length vars)
made_fits p is code formals vars h = go (slice_get p code.0) (λ st e. (slice_get_within p code.0 st e, is.bodies code.0 st e)) h
  where
    go : (o : Option Stmt) → ((st : Stmt) → o ≡ Some st → (code.0 < length p) × Each (λ (c : CodeId). (code.0 < c.0) × (c.0 < length p)) (bodies_of st)) → IsMadeBy p formals vars (unwrap_or o stmt.Skip) →
        (code.0 < length p) × IsTellOf p (unwrap_or o stmt.Skip) formals (length vars)
    go None there k = absurd k
    go (Some st) there k = let here = there st refl in (here.0, made_tell p code formals vars st k here.1)

-- ---- terms

node_same : (p : List Stmt) → IsProgram p → (n : Node) → FitsNode n → NodeFits p n ↔ IsNode p n
node_same p is (node.Int i) w = (λ h. tt, λ h. tt)
node_same p is (node.Atom t) w = (λ h. tt, λ h. tt)
node_same p is (node.Rec l fs) w = (λ h. (w.1.0, w.1.1, w.1.3), λ h. tt)
node_same p is (node.Cell c) w = (λ h. tt, λ h. tt)
node_same p is (node.Port c) w = (λ h. tt, λ h. tt)
node_same p is (node.Proc formals code q vars) w = (λ h. tell_made p formals vars (stmt_at p code) h.1, λ h. made_fits p is code formals vars h)

pub term_same : (p : List Stmt) → IsProgram p → (t : Term) → FitsTerm t → TermFits p t ↔ IsNodeOf (IsNode p) t
term_same p is (term.Var x) w = (λ h. tt, λ h. tt)
term_same p is (term.Node n) w = node_same p is n w

equations_same : (p : List Stmt) → IsProgram p → (es : List Equation) → Each FitsEquation es → Each (IsEquationFit p) es ↔ Each (λ (e : Equation). IsNodeOf (IsNode p) e.1) es
equations_same p is [] w = (λ h. tt, λ h. tt)
equations_same p is (e ∷ es) w =
    let one = term_same p is e.1 w.0.1 in
    let rest = equations_same p is es w.1 in
    (λ h. (one.0 h.0, rest.0 h.1), λ h. (one.1 h.0, rest.1 h.1))

-- ---- messages

pub codes_same : (p : List Stmt) → IsProgram p → (m : Msg) → FitsWire m → PartsFit p m ↔ CodesFit p m
codes_same p is (msg.Spawn n code vars es) w =
    let rest = equations_same p is es w.2.1 in
    (λ h. (h.0, (tt, rest.0 h.1)), λ h. (h.0, rest.1 h.1.1))
codes_same p is (msg.Register x k) w = (λ h. (tt, (tt, tt)), λ h. tt)
codes_same p is (msg.BindReq x n t es) w =
    let one = term_same p is t w.2 in
    let rest = equations_same p is es w.3.1 in
    (λ h. (tt, (one.0 h.0, rest.0 h.1)), λ h. (one.1 h.1.0, rest.1 h.1.1))
codes_same p is (msg.Binding x t es) w =
    let one = term_same p is t w.1 in
    let rest = equations_same p is es w.2.1 in
    (λ h. (tt, (one.0 h.0, rest.0 h.1)), λ h. (one.1 h.1.0, rest.1 h.1.1))
codes_same p is (msg.Get c k) w = (λ h. (tt, (tt, tt)), λ h. tt)
codes_same p is (msg.Forward c k) w = (λ h. (tt, (tt, tt)), λ h. tt)
codes_same p is (msg.Put c v es) w =
    let rest = equations_same p is es w.2.1 in
    (λ h. (tt, (tt, rest.0 h)), λ h. rest.1 h.1.1)
codes_same p is (msg.PortSend q n k) w = (λ h. (tt, (tt, tt)), λ h. tt)
codes_same p is (msg.PortEnd n old new es) w =
    let rest = equations_same p is es w.3.1 in
    (λ h. (tt, (tt, rest.0 h)), λ h. rest.1 h.1.1)
codes_same p is (msg.CellMake c v es) w =
    let rest = equations_same p is es w.3.1 in
    (λ h. (tt, (tt, rest.0 h)), λ h. rest.1 h.1.1)
codes_same p is (msg.CellAsk c n k v es) w =
    let rest = equations_same p is es w.5.1 in
    (λ h. (tt, (tt, rest.0 h)), λ h. rest.1 h.1.1)
codes_same p is (msg.CellOld n v es) w =
    let rest = equations_same p is es w.2.1 in
    (λ h. (tt, (tt, rest.0 h)), λ h. rest.1 h.1.1)

pub bundle_terms : (p : List Stmt) → IsProgram p → (m : Msg) → FitsWire m → CodesFit p m → Each (IsEquationFit p) (message_bundle m)
bundle_terms p is m w codes = (equations_same p is (message_bundle m) (bundle_wire m w)).1 codes.1.1
