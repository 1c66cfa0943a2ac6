-- What a travelling message tells and brings agrees with the site that it goes to, where the simulation holds.
use Rattle.std.proofs.Common.{◌∙◌, subst, ℕ, List, [], ◌∷◌}
use Rattle.std.specs.Prelude.{Contains}
use Rattle.tree_node.specs.Each.{Each}
use Rattle.tree_node.specs.Order.{IsLower}
use Rattle.tree_node.specs.State.{State}
use Rattle.tree_node.specs.Store.{Equation}
use Rattle.kernel_syntax.specs.declared.stmt.Stmt.{Stmt}
use Rattle.site_message.specs.declared.message.Msg.{Msg}
use Rattle.site_message.specs.declared.message.Msg.TheVariants as msg
use Rattle.site_message.specs.declared.message.Sent.{Sent}
use Rattle.site_message.specs.declared.turn.Turn.{Turn}
use Rattle.site_message.specs.Journal.{IsTravelling, travelling}
use Rattle.site_message.proofs.JournalLemmas.{travelling_tells}
use Rattle.site_model.specs.Site.{Threads}
use Rattle.world_model.specs.World.{Sites, IsOnItsWay, eqs, records, threads, counters}
use Rattle.world_model.specs.Names.{here_at}
use Rattle.world_model.specs.Matches.{equations_in, PartsMatch}
use Rattle.world_model.specs.Shown.{shown}
use Rattle.world_messages.specs.Unfit.{AsksDown, BringsNew, TellsFit}
use Rattle.tree_node.proofs.OrderLemmas.{Each-member}

each_of : (P Q : Equation → Type 0) → ((e : Equation) → P e → Q e) → (es : List Equation) → Each P es → Each Q es
each_of P Q f [] h = tt
each_of P Q f (e ∷ es) h = (f e h.0, each_of P Q f es h.1)

pub tells_fit : (p : List Stmt) (j : List Turn) (f : Sites) → (waiting : Threads) (s : State) (parts : PartsMatch p (here_at (records f)) (eqs f) (records f) (threads (shown f waiting)) (counters f) (travelling j) s) (brings : (k : ℕ) (m : Sent) → IsTravelling j k m → BringsNew (f m.to) m.msg) (k : ℕ) (m : Sent) → IsTravelling j k m → TellsFit (f m.to) m.msg
tells_fit p j f waiting s parts brings k m at = record {
  asks = asks m.msg travels;
  brings = brings k m at;
  down = each_of (Contains s.equations) (λ (e : Equation). IsLower e.1 e.0) (λ e c. parts.knowledge.down e.0 e.1 c) (equations_in m.msg) told;
  same = λ x t u c d. parts.knowledge.one x t u (Each-member (Contains s.equations) (equations_in m.msg) (x, t) told c) (parts.knowledge.known m.to (x, u) d);
  own = λ x t c e. (let owned : Contains (eqs f x.site) (x, t) = parts.knowledge.owned x t (Each-member (Contains s.equations) (equations_in m.msg) (x, t) told c) in subst (λ (i : ℕ). Contains (eqs f i) (x, t)) (e ∙ (parts.kept m.to).site) owned);
}
  where
    travels : IsOnItsWay (travelling j) k m.to m.msg
    travels = (travelling_tells j k m).1 at

    told : Each (Contains s.equations) (equations_in m.msg)
    told = parts.knowledge.told k m.to m.msg travels

    asks : (o : Msg) → IsOnItsWay (travelling j) k m.to o → AsksDown o
    asks (msg.BindReq x th t bundle) q = (parts.addressed k m.to (msg.BindReq x th t bundle) q).2
    asks (msg.Register x i) q = tt
    asks (msg.Binding x t bundle) q = tt
    asks (msg.Spawn a b c d) q = tt
    asks (msg.Get a b) q = tt
    asks (msg.Forward a b) q = tt
    asks (msg.Put a b c) q = tt
    asks (msg.PortSend a b c) q = tt
    asks (msg.PortEnd a b c d) q = tt
    asks (msg.CellMake a b c) q = tt
    asks (msg.CellAsk a b c d e) q = tt
    asks (msg.CellOld a b c) q = tt
