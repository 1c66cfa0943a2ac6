-- What the simulation says of the sites and the travelling messages alone.
use Rattle.std.proofs.Common.{◌≡◌, ◌≢◌, ◌∙◌, ap, refl, subst, ℕ, List, [], ◌∷◌, ◌⊎◌, inl, inr, Bool, true, false, Some, None}
use Rattle.std.specs.Prelude.{Option, Contains}
use Rattle.tree_node.specs.declared.names.VarName.{VarName}
use Rattle.tree_node.specs.declared.names.CellName.{CellName}
use Rattle.tree_node.specs.Assoc.{value_of}
use Rattle.tree_node.specs.Each.{Each}
use Rattle.tree_node.specs.Goal.{equal_cell}
use Rattle.tree_node.specs.declared.names.ThreadName.{ThreadName}
use Rattle.tree_node.specs.Names.{EachOfEquation, EachOfStack}
use Rattle.tree_node.specs.State.{State, equal_thread}
use Rattle.tree_node.specs.Store.{Store, Equation}
use Rattle.kernel_syntax.specs.declared.stmt.Stmt.{Stmt}
use Rattle.site_message.specs.declared.message.Msg.TheVariants as msg
use Rattle.site_message.specs.declared.turn.Turn.{Turn}
use Rattle.site_message.specs.Journal.{travelling}
use Rattle.site_message.proofs.JournalLemmas.{travelling_tells}
use Rattle.thread_roster.specs.declared.mode.Mode.{Mode}
use Rattle.site_model.specs.Site.{Site, Threads, ThreadState}
use Rattle.world_model.specs.World.{counters, managers, cell_records}
use Rattle.world_model.specs.Names.{IsMade, IsHome, IsHereName}
use Rattle.world_model.specs.Chain.{HasChain, IsNowhere, mobile_cells}
use Rattle.world_model.specs.Shown.{is_asking}
use Rattle.world_model.specs.Simulated.{IsSimulated}
use Rattle.world_variables.proofs.FollowLemmas.{value_each, all_in}
use Rattle.world_variables.proofs.TellLemmas.{each_of}
use Rattle.world_answers.proofs.ShownLemmas.{stands_to, shown_threads_real}
use Rattle.world_answers.proofs.StandLemmas.{asks_for}
use Rattle.world_messages.specs.Unfit.{MessagesAreFit}
use Rattle.world_messages.specs.Fitting.{WorldFits, IsFitting}
use Rattle.world_messages.proofs.SpelledLemmas.{NamedIn, named_in}
use Rattle.thread_machine.specs.Fits as fits
use Rattle.oz_model.proofs.NameLemmas.{Each-weaker, EachOfEquation-weaker, EachOfItem-weaker}
use Rattle.tree_node.specs.declared.names.Name.{Name}
use Rattle.tree_node.specs.declared.names.Name.TheVariants as name
use Rattle.world_simulation.specs.Protocols.{IsKnownHere, ProtocolsHold, ProtocolsAlwaysHold}
use Rattle.world_simulation.proofs.LetterLemmas.{lives_real}
use Rattle.world_simulation.proofs.SimulationLemmas.{every_run_is_simulated, joined_in}

owners : (P : Equation → Type 0) (c : Store) → ((e : Equation) → Contains c e → P e) → (es : List Equation) → Each (Contains c) es → Each P es
owners P c f [] h = tt
owners P c f (e ∷ es) h = (f e h.0, owners P c f es h.1)

-- the variables of a site that fits are known to it
known_here : (p : List Stmt) (n i : ℕ) (w : ℕ → Site) → IsFitting p n w i (w i) → IsHome (IsKnownHere n (w i).records) (w i).equations (w i).threads
known_here p n i w (known, site, made) = record {
  equations = Each-weaker _ _ (EachOfEquation-weaker (fits.IsKnown known) (IsKnownHere n (w i).records) weaker) (w i).equations site.terms.equations.names;
  stacks = λ m v e. Each-weaker _ _ (EachOfItem-weaker (fits.IsKnown known) (IsKnownHere n (w i).records) weaker) v.0 (site.terms.stacks m v e).stack.names;
}
  where
    weaker : (x : Name) → fits.IsKnown known x → IsKnownHere n (w i).records x
    weaker (name.Var x) c = ((made x c).0, (made x c).1, site.names.here x c)
    weaker (name.Cell x) c = tt
    weaker (name.Proc x) c = tt
    weaker (name.Port x) c = tt
    weaker (name.Thread x) c = tt

-- what is known to a site is here
known_is_here : (n : ℕ) (s : Site) → IsHome (IsKnownHere n s.records) s.equations s.threads → IsHome (IsHereName s.records) s.equations s.threads
known_is_here n s h = record {
  equations = Each-weaker _ _ (EachOfEquation-weaker (IsKnownHere n s.records) (IsHereName s.records) weaker) s.equations h.equations;
  stacks = λ m v e. Each-weaker _ _ (EachOfItem-weaker (IsKnownHere n s.records) (IsHereName s.records) weaker) v.0 (h.stacks m v e);
}
  where
    weaker : (x : Name) → IsKnownHere n s.records x → IsHereName s.records x
    weaker (name.Var x) c = inr c.2
    weaker (name.Cell x) c = tt
    weaker (name.Proc x) c = tt
    weaker (name.Port x) c = tt
    weaker (name.Thread x) c = tt

protocols_hold : (p : List Stmt) (n : ℕ) (j : List Turn) (w : ℕ → Site) (s : State) → IsSimulated p n j w s → ((i : ℕ) (o : ThreadName) (v : ThreadState) → value_of equal_thread (w i).threads o ≡ Some v → i ≢ 0) → MessagesAreFit p n j w → WorldFits p n j w → NamedIn j w → ProtocolsHold p n j w
protocols_hold p n j w s h real fit fitting named = record {
  known = λ i e c. owned e (h.matches.parts.knowledge.known i e c);
  told = λ k m at. owners (λ (e : Equation). Contains (w e.0.site).equations e) s.equations owned _ (h.matches.parts.knowledge.told k m.to m.msg ((travelling_tells j k m).1 at));
  one = λ i x t r c d. h.matches.parts.knowledge.one x t r (h.matches.parts.knowledge.known i (x, t) c) (h.matches.parts.knowledge.known i (x, r) d);
  down = λ i x t c. h.matches.parts.knowledge.down x t (h.matches.parts.knowledge.known i (x, t) c);
  asks = λ k to x th t bundle at. (h.matches.parts.addressed k to (msg.BindReq x th t bundle) ((travelling_tells j k (record { to = to; msg = msg.BindReq x th t bundle })).1 at)).2;
  here = λ i. known_is_here n (w i) (known_here p n i w (fitting.sites i));
  vars = λ i. known_here p n i w (fitting.sites i);
  others = λ i. record { equations = (named.0 i).equations; stacks = λ m v e. ((named.0 i).stacks m v e).1 };
  registered = h.matches.parts.told;
  made = λ i. record {
    equations = each_of (EachOfEquation (IsMade (counters w))) s.equations h.matches.parts.centred.all.0 (w i).equations (all_in (w i).equations s.equations (h.matches.parts.knowledge.known i));
    stacks = λ n v e. stack_made i n v e (is_asking v.1) refl;
  };
  met = h.matches.parts.makers;
  said = h.matches.parts.said;
  chains = λ c. chains c (value_of equal_cell (mobile_cells s.cells) c) refl;
  gets = h.cells.gets;
  fit = fit;
}
  where
    stack_made : (i : ℕ) (n : ThreadName) (v : ThreadState) → value_of equal_thread (w i).threads n ≡ Some v → (b : Bool) → is_asking v.1 ≡ b → EachOfStack (IsMade (counters w)) v.0
    stack_made i n v e false q = (value_each (IsMade (counters w)) s.threads n v.0 h.matches.parts.centred.all.3 (h.matches.parts.placed.up i n v.0 (v.1, ap (λ (ts : Threads). value_of equal_thread ts n) (shown_threads_real w h.transit i (real i n v e)) ∙ stands_to (w i).threads n v e q))).1
    stack_made i n v e true q =
        let a = asks_for v.1 q in
        h.answers.made i n a.0 v.0 (e ∙ ap (λ (x : Mode). Some (v.0, x)) a.1, subst (λ (x : Mode). is_asking x ≡ true) a.1 q)

    owned : (e : Equation) → Contains s.equations e → Contains (w e.0.site).equations e
    owned e c = h.matches.parts.knowledge.owned e.0 e.1 c

    chains : (c : CellName) (o : Option VarName) → value_of equal_cell (mobile_cells s.cells) c ≡ o → ((v : VarName) × HasChain (managers w) (cell_records w) (travelling j) c v) ⊎ IsNowhere (managers w) (cell_records w) (travelling j) c
    chains c None e = inr (h.cells.cells.others c e)
    chains c (Some v) e = inl (v, h.cells.cells.chains c v e)

pub protocols_always_hold : ProtocolsAlwaysHold
protocols_always_hold p n limit j w is low high short run =
    let r = every_run_is_simulated p n limit j w is low high short run in
    let k = joined_in p n limit is low high short j w run in
    protocols_hold p n j w r.0 r.1 (lives_real p n limit j w low run) r.2 k.fits (named_in p is n limit high short j w run)
