-- Rows that have to do with no mobile cell: what mobile cells have sent stays paid.
use Rattle.std.proofs.Common.{arith, ◌≡◌, ◌∙◌, sym, ap, refl, subst, ℕ, List, [], ◌∷◌, ◌++◌, length}
use Rattle.std.specs.Map.{lookup}
use Rattle.tree_node.specs.declared.names.VarName.{VarName}
use Rattle.tree_node.specs.declared.names.CellName.{CellName}
use Rattle.tree_node.specs.declared.pick.Pick.{Pick}
use Rattle.tree_node.specs.Goal.{equal_cell}
use Rattle.tree_node.specs.State.{State}
use Rattle.kernel_syntax.specs.declared.stmt.Stmt.{Stmt}
use Rattle.site_message.specs.declared.message.Sent.{Sent}
use Rattle.oz_model.specs.Run.{IsRun, start, Run as ModelRun, exchanges, exchanges_from, exchange_in}
use Rattle.oz_model.specs.Step.{Step, effect_of, next}
use Rattle.oz_model.proofs.RunLemmas.{at_most_one_end}
use Rattle.site_model.specs.Site.{Site, Threads, CellRecord, cell_record_in}
use Rattle.site_model.specs.Transition.{Transition, sequence}
use Rattle.world_model.specs.Chain.{mobile_cells}
use Rattle.world_model.specs.Shown.{shown}
use Rattle.world_model.specs.World.{World, Sites, Mail, after_transition}
use Rattle.world_model.proofs.MobileLemmas.{mobile_has}
use Rattle.world_variables.proofs.RunsLemmas.{runs_append}
use Rattle.world_cells.specs.CellCounts.{IsTallied}
use Rattle.world_cells.proofs.CellTallyLemmas.{CellsTallied, tallied_still}
use Rattle.world_cells.proofs.ChainLemmas.{others_stay}
use Rattle.world_cells.proofs.FrameLemmas.{NoCells, silent_list, weightless, none_then}
use Rattle.world_cells.proofs.UnitTallyLemmas.{Tally, more_picks}
use Rattle.world_answers.specs.Joined.{Joined}

-- the world was reached by these picks, whose exchanges pay for the messages of mobile cells among those sent
pub record Paid (p : List Stmt) (n : ℕ) (w : World) (ks : List Pick) (out : List Sent) : Type 0 where
  pub joined : Joined p w ks
  pub tally : Tally p n w joined.reached.centre ks out

-- ---- picks

-- these picks lead the machine from s to t, make no mobile cell and exchange the content of none
abbrev pub Left : List Stmt → State → List Pick → State → Type 0
Left p s [] t = t ≡ s
Left p s (k ∷ ks) t = (m : State) × Step p s k m × (mobile_cells m.cells ≡ mobile_cells s.cells) × ((b : CellName) → b.at ≡ 0 → exchange_in s b (effect_of p s k).cell ≡ []) × Left p m ks t

pub left_run : (p : List Stmt) (ks : List Pick) (s t : State) → Left p s ks t → IsRun p s ks t
left_run p [] s t h = h
left_run p (k ∷ ks) s t (m, step, cells, none, rest) = (m, step, left_run p ks m t rest)

left_cells : (p : List Stmt) (ks : List Pick) (s t : State) → Left p s ks t → mobile_cells t.cells ≡ mobile_cells s.cells
left_cells p [] s t h = ap (λ (x : State). mobile_cells x.cells) h
left_cells p (k ∷ ks) s t (m, step, cells, none, rest) = left_cells p ks m t rest ∙ cells

left_none : (p : List Stmt) (ks : List Pick) (s t : State) (b : CellName) → b.at ≡ 0 → Left p s ks t → exchanges_from p b s ks ≡ []
left_none p [] s t b zero h = refl
left_none p (k ∷ ks) s t b zero (m, step, cells, none, rest) =
    ap (λ (es : List (VarName × VarName)). es ++ exchanges_from p b (next p s k) ks) (none b zero)
    ∙ ap (λ (x : State). exchanges_from p b x ks) (sym step.1) ∙ left_none p ks m t b zero rest

left_append : (p : List Stmt) (ks ls : List Pick) (s t u : State) → Left p s ks t → Left p t ls u → Left p s (ks ++ ls) u
left_append p [] ls s t u h k = subst (λ (x : State). Left p x ls u) h k
left_append p (l ∷ ks) ls s t u (m, step, cells, none, rest) k = (m, step, cells, none, left_append p ks ls m t u rest k)

-- ---- rows

-- the row has to do with no mobile cell, and its picks lead the machine from c to z
pub record Leaves (p : List Stmt) (s : Site) (c : State) (d : Transition) (z : State) : Type 0 where
  pub still : NoCells s d
  pub left : Left p c d.picks z

-- no pick
pub leaves_none : (p : List Stmt) (s : Site) (c : State) (d : Transition) → NoCells s d → d.picks ≡ [] → Leaves p s c d c
leaves_none p s c d still none = record { still = still; left = subst (λ (ls : List Pick). Left p c ls c) (sym none) refl }

pub leaves_then : (p : List Stmt) (s : Site) (c m z : State) (d e : Transition) → Leaves p s c d m → Leaves p d.site m e z → Leaves p s c (sequence d e) z
leaves_then p s c m z d e a b = record { still = none_then s d e a.still b.still; left = left_append p d.picks e.picks c m z a.left b.left }

-- ---- the tally

-- exchanges of mobile cells count alone
recount_mobile : (n : ℕ) (f : Sites) (mail : Mail) (cells : List (CellName × VarName)) (out : List Sent) (x y : CellName → ℕ) → ((b : CellName) → b.at ≡ 0 → y b ≡ x b) → CellsTallied n f mail (mobile_cells cells) out x → CellsTallied n f mail (mobile_cells cells) out y
recount_mobile n f mail cells out x y same t = record {
  tallied = λ c v e. subst (λ (k : ℕ). IsTallied n f mail out c k) (sym (same c (mobile_has cells c v e).0)) (t.tallied c v e);
  unmade = t.unmade;
  still = λ c z e. same c z ∙ t.still c z e;
}

-- who waits for an answer counts for nothing
pub tally_real : (n : ℕ) (f : Sites) (u : Threads) (mail : Mail) (cells : List (CellName × VarName)) (out : List Sent) (x : CellName → ℕ) → CellsTallied n (shown f u) mail cells out x → CellsTallied n f mail cells out x
tally_real n f u mail cells out x t = record { tallied = t.tallied; unmade = t.unmade; still = t.still }

pub tally_shown : (n : ℕ) (f : Sites) (u : Threads) (mail : Mail) (cells : List (CellName × VarName)) (out : List Sent) (x : CellName → ℕ) → CellsTallied n f mail cells out x → CellsTallied n (shown f u) mail cells out x
tally_shown n f u mail cells out x t = record { tallied = t.tallied; unmade = t.unmade; still = t.still }

pub leaves_tally : (p : List Stmt) (n : ℕ) (w : World) (ks : List Pick) (c : State) → ModelRun p ks c → (out : List Sent) → Tally p n w c ks out → (i : ℕ) (d : Transition) (z : State) → Leaves p (w.sites i) c d z →
    (c2 : State) → ModelRun p (ks ++ d.picks) c2 → Tally p n (after_transition w i d) c2 (ks ++ d.picks) (out ++ d.sent)
leaves_tally p n w ks c run out t i d z l c2 run2 =
    recount_mobile n v.sites v.mail c2.cells (out ++ d.sent) (λ b. length (exchanges p ks b)) (λ b. length (exchanges p (ks ++ d.picks) b)) counted
    (subst (λ (cells : List (CellName × VarName)). CellsTallied n v.sites v.mail cells (out ++ d.sent) (λ b. length (exchanges p ks b))) (sym cells_are)
    (tallied_still n w.sites v.sites w.mail v.mail (mobile_cells c.cells) out d.sent (λ b. length (exchanges p ks b))
    (λ b. others_stay w i d b w.mail (ap (λ (qs : List (CellName × CellRecord)). cell_record_in qs b) l.still.cell_records) (ap (lookup (equal_cell b)) l.still.managers) (λ m. silent_list b d.sent l.still.silent m) (λ m. refl))
    (λ b g k u. weightless b g k u d.sent l.still.silent) t))
  where
    v : World
    v = after_transition w i d

    cells_are : mobile_cells c2.cells ≡ mobile_cells c.cells
    cells_are = ap (λ (y : State). mobile_cells y.cells) (at_most_one_end p (start p) (ks ++ d.picks) c2 z run2 (runs_append p ks d.picks (start p) c z run (left_run p d.picks c z l.left))) ∙ left_cells p d.picks c z l.left

    counted : (b : CellName) → b.at ≡ 0 → length (exchanges p (ks ++ d.picks) b) ≡ length (exchanges p ks b)
    counted b zero =
        let all = more_picks p b ks d.picks c run in
        let none : length (exchanges_from p b c d.picks) ≡ 0 = ap length (left_none p d.picks c z b zero l.left) in omega arith
