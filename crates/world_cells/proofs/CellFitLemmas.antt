-- A message of a cell can always be taken; and where nothing travels nobody waits for a cell.
use Rattle.std.proofs.Common.{arith, ◌≡◌, ◌∙◌, sym, ap, refl, ℕ, List, [], ◌∷◌, length, Some, None}
use Rattle.std.specs.Prelude.{Option, Contains}
use Rattle.tree_node.specs.declared.names.VarName.{VarName}
use Rattle.tree_node.specs.declared.names.CellName.{CellName}
use Rattle.tree_node.specs.declared.names.ThreadName.{ThreadName}
use Rattle.tree_node.specs.Assoc.{value_of}
use Rattle.tree_node.specs.Goal.{equal_cell}
use Rattle.tree_node.specs.State.{Stack, State, equal_thread}
use Rattle.token_chain.specs.Holding.{Holding}
use Rattle.token_chain.specs.Mail as token
use Rattle.token_chain.proofs.QuietLemmas.{quiet_serves_all}
use Rattle.site_model.specs.Site.{cell_record}
use Rattle.thread_roster.specs.declared.mode.Awaited.TheVariants.{Cell}
use Rattle.thread_roster.specs.declared.mode.Mode.TheVariants.{WaitsFor}
use Rattle.world_model.specs.World.{World, Mail, threads}
use Rattle.world_model.specs.Matches.{CellsMatch}
use Rattle.world_model.proofs.MailLemmas.{nothing}
use Rattle.world_cells.proofs.ChainLemmas.{held, tally}
use Rattle.world_model.specs.Chain.{mobile_cells}

-- ---- where nothing travels

none_of : {X : Type 0} (xs : List X) → length xs ≡ 0 → (x : X) → Contains xs x → ⊥
none_of [] e x h = nothing x h
none_of (y ∷ xs) e x h = omega arith

pub nobody_waits : (w : World) (z : State) → CellsMatch w z → w.mail ≡ [] → (i : ℕ) (n : ThreadName) (st : Stack) (d : CellName) → value_of equal_thread (threads w.sites i) n ≡ Some (st, WaitsFor (Cell d)) → ⊥
nobody_waits w z x quiet i n st d h = none_of (cell_record (w.sites i) d).queue (sym (x.queues i d).long ∙ waiting) n ((x.queues i d).listed n st h)
  where
    none : (m : token.Mail) → tally d w.mail m ≡ 0
    none m = ap (λ (l : Mail). tally d l m) quiet

    waiting : (cell_record (w.sites i) d).held.waiting ≡ 0
    waiting = go (value_of equal_cell (mobile_cells z.cells) d) refl
      where
        go : (o : Option VarName) → value_of equal_cell (mobile_cells z.cells) d ≡ o → (cell_record (w.sites i) d).held.waiting ≡ 0
        go None e = ap (λ (y : Holding). y.waiting) ((x.cells.others d e).away i)
        go (Some v) e = let c = x.cells.chains d v e in (quiet_serves_all c.0 (held w.sites d) (tally d w.mail) v c.2 none i).1
