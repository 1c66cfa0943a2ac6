-- A bundle of a site that fits can be spelled.
use Rattle.std.proofs.Common.{arith, ◌≤◌, ℕ, List}
use Rattle.std.specs.Prelude.{Contains}
use Rattle.tree_node.specs.Each.{Each}
use Rattle.tree_node.specs.Store.{Store, Equation}
use Rattle.tree_node.proofs.OrderLemmas.{Each-member}
use Rattle.kernel_syntax.specs.declared.stmt.Stmt.{Stmt}
use Rattle.kernel_syntax.specs.Program.{IsProgram}
use Rattle.oz_model.proofs.NameLemmas.{Each-weaker}
use Rattle.site_message.specs.declared.message.Msg.{Msg}
use Rattle.site_message.specs.declared.message.Msg.TheVariants as msg
use Rattle.site_message.specs.Wire.{FitsEquation, FitsBundle, FitsWire}
use Rattle.site_model.specs.Bundle.{bundle_roots, bundle_of, with_bundle}
use Rattle.site_model.proofs.AscendingLemmas.{bundles_are_ordered}
use Rattle.site_model.proofs.BundleLemmas.{bundle_known}
use Rattle.site_wire.specs.Sending.{EquationsFit}
use Rattle.site_wire.proofs.TermLemmas.{equation_spelled}

bundle_spelled : (p : List Stmt) → IsProgram p → (limit : ℕ) → limit ≤ 256 → (s : Store) (m : Msg) → EquationsFit p s → FitsBundle (bundle_of limit s m)
bundle_spelled p is limit high s m h =
    let ordered = bundles_are_ordered limit s (bundle_roots m) in
    let few = ordered.0 in
    let each : Each FitsEquation (bundle_of limit s m) = Each-weaker _ _ (λ (e : Equation) (k : Contains s e). equation_spelled p is e (Each-member _ s e h.names k).0 ((Each-member _ s e h.names k).1, Each-member _ s e h.nodes k)) (bundle_of limit s m) (bundle_known limit s m) in
    (omega (arith, few, high), each, ordered.1)

-- a message goes with its bundle
pub carried : (p : List Stmt) → IsProgram p → (limit : ℕ) → limit ≤ 256 → (s : Store) (m : Msg) → EquationsFit p s → FitsWire m → FitsWire (with_bundle (bundle_of limit s m) m)
carried p is limit high s (msg.Spawn th code vars es) h k = (k.0, k.1, bundle_spelled p is limit high s (msg.Spawn th code vars es) h)
carried p is limit high s (msg.Register x i) h k = k
carried p is limit high s (msg.BindReq x th t es) h k = (k.0, k.1, k.2, bundle_spelled p is limit high s (msg.BindReq x th t es) h)
carried p is limit high s (msg.Binding x t es) h k = (k.0, k.1, bundle_spelled p is limit high s (msg.Binding x t es) h)
carried p is limit high s (msg.Get c i) h k = k
carried p is limit high s (msg.Forward c i) h k = k
carried p is limit high s (msg.Put c v es) h k = (k.0, k.1, bundle_spelled p is limit high s (msg.Put c v es) h)
carried p is limit high s (msg.PortSend q th i) h k = k
carried p is limit high s (msg.PortEnd th old new es) h k = (k.0, k.1, k.2, bundle_spelled p is limit high s (msg.PortEnd th old new es) h)
carried p is limit high s (msg.CellMake c v es) h k = (k.0, k.1, k.2, bundle_spelled p is limit high s (msg.CellMake c v es) h)
carried p is limit high s (msg.CellAsk c th i new es) h k = (k.0, k.1, k.2, k.3, k.4, bundle_spelled p is limit high s (msg.CellAsk c th i new es) h)
carried p is limit high s (msg.CellOld th v es) h k = (k.0, k.1, bundle_spelled p is limit high s (msg.CellOld th v es) h)
