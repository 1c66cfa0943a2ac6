-- Names of procedures, cells and threads in messages are known names.
use Rattle.std.proofs.Common.{rules, arith, ◌≡◌, ◌∙◌, refl, subst, ℕ, ◌<◌, ◌≤◌, List, [], ◌∷◌, inl, inr, Bool, true, false, cond}
use Rattle.std.specs.Prelude.{◌==◌}
use Rattle.tree_node.specs.declared.names.VarName.{VarName}
use Rattle.tree_node.specs.declared.names.Name.{Name}
use Rattle.tree_node.specs.declared.names.Name.TheVariants as name
use Rattle.tree_node.specs.declared.node.Feature.{Feature}
use Rattle.tree_node.specs.declared.node.Node.TheVariants as node
use Rattle.tree_node.specs.declared.node.Term.{Term}
use Rattle.tree_node.specs.declared.node.Term.TheVariants as term
use Rattle.tree_node.specs.Each.{Each}
use Rattle.tree_node.specs.Names.{EachOfTerm, EachOfEquation}
use Rattle.tree_node.specs.Order.{site_of}
use Rattle.tree_node.specs.State.{State}
use Rattle.tree_node.specs.Store.{Equation}
use Rattle.kernel_syntax.specs.declared.stmt.Stmt.{Stmt}
use Rattle.kernel_syntax.specs.Program.{IsProgram}
use Rattle.site_message.specs.declared.message.Msg.{Msg}
use Rattle.site_message.specs.declared.message.Msg.TheVariants as msg
use Rattle.site_message.specs.declared.message.Sent.{Sent}
use Rattle.site_message.specs.declared.turn.Turn.{Turn}
use Rattle.site_message.specs.Wire.{FitsWire}
use Rattle.site_message.specs.Journal.{IsTravelling, sent_of, travelling}
use Rattle.site_message.proofs.JournalLemmas.{travelling_tells}
use Rattle.bind_protocol.proofs.ListLemmas.{each_at}
use Rattle.site_model.specs.Site.{Site, Threads, initial_site}
use Rattle.site_model.specs.Fit.{EachOfMsg, IsBelowCounter, IsKnownName, IsFit}
use Rattle.site_model.specs.Run.{WorldRun}
use Rattle.world_model.specs.World.{Sites, eqs, records, threads, counters, world_of}
use Rattle.world_model.specs.Names.{IsMade, here_at}
use Rattle.world_model.specs.Matches.{PartsMatch, CellsMatch}
use Rattle.world_model.specs.Shown.{shown, shown_world}
use Rattle.world_model.proofs.PutLemmas.{nat_decides}
use Rattle.world_messages.specs.Fitting.{HasHomeIn, MessageHomes, IsFittingMsg, WorldFits}
use Rattle.world_messages.specs.Unfit.{IsLetter, BringsNew, VarsFit, TakesCells, SitesCells, OnOthers}
use Rattle.world_messages.proofs.SpelledLemmas.{IsOfSite, spelled, named_in}
use Rattle.world_messages.proofs.SiteFitLemmas.{EachOfMsg-weaker}
use Rattle.world_messages.proofs.UnfitLemmas.{outside, own_number, fit_now}
use Rattle.world_messages.proofs.CellFitLemmas.{cells_fit}
use Rattle.world_messages.proofs.PartLemmas.{parts_are_fit}
use Rattle.world_messages.proofs.TellsLemmas.{tells_fit}

-- ---- two properties of all names

module _ (P Q : Name → Type 0) where
  abbrev Both : Name → Type 0
  Both x = P x × Q x

  both_vars : (xs : List VarName) → Each (λ (x : VarName). P (name.Var x)) xs → Each (λ (x : VarName). Q (name.Var x)) xs → Each (λ (x : VarName). P (name.Var x) × Q (name.Var x)) xs
  both_vars [] h g = tt
  both_vars (x ∷ xs) h g = ((h.0, g.0), both_vars xs h.1 g.1)

  both_term : (t : Term) → EachOfTerm P t → EachOfTerm Q t → EachOfTerm Both t
  both_term (term.Var x) h g = (h, g)
  both_term (term.Node (node.Rec l fs)) h g = fields fs h g
    where
      fields : (fs : List (Feature × VarName)) → Each (λ (q : Feature × VarName). P (name.Var q.1)) fs → Each (λ (q : Feature × VarName). Q (name.Var q.1)) fs → Each (λ (q : Feature × VarName). P (name.Var q.1) × Q (name.Var q.1)) fs
      fields [] h g = tt
      fields (q ∷ fs) h g = ((h.0, g.0), fields fs h.1 g.1)
  both_term (term.Node (node.Proc formals code q vars)) h g = ((h.0, g.0), both_vars vars h.1 g.1)
  both_term (term.Node (node.Cell c)) h g = (h, g)
  both_term (term.Node (node.Port c)) h g = (h, g)
  both_term (term.Node (node.Int i)) h g = tt
  both_term (term.Node (node.Atom t)) h g = tt

  both_rows : (es : List Equation) → Each (EachOfEquation P) es → Each (EachOfEquation Q) es → Each (EachOfEquation Both) es
  both_rows [] h g = tt
  both_rows (e ∷ es) h g = (((h.0.0, g.0.0), both_term e.1 h.0.1 g.0.1), both_rows es h.1 g.1)

  both_msg : (m : Msg) → EachOfMsg P m → EachOfMsg Q m → EachOfMsg Both m
  both_msg (msg.Spawn th code vars es) h g = ((h.0, g.0), both_vars vars h.1 g.1, both_rows es h.2 g.2)
  both_msg (msg.Register x k) h g = (h, g)
  both_msg (msg.BindReq x th t es) h g = ((h.0, g.0), (h.1, g.1), both_term t h.2 g.2, both_rows es h.3 g.3)
  both_msg (msg.Binding x t es) h g = ((h.0, g.0), both_term t h.1 g.1, both_rows es h.2 g.2)
  both_msg (msg.Get c k) h g = (h, g)
  both_msg (msg.Forward c k) h g = (h, g)
  both_msg (msg.Put c v es) h g = ((h.0, g.0), (h.1, g.1), both_rows es h.2 g.2)
  both_msg (msg.PortSend q n k) h g = ((h.0, g.0), (h.1, g.1))
  both_msg (msg.PortEnd n old new es) h g = ((h.0, g.0), (h.1, g.1), (h.2, g.2), both_rows es h.3 g.3)
  both_msg (msg.CellMake c v es) h g = ((h.0, g.0), (h.1, g.1), both_rows es h.2 g.2)
  both_msg (msg.CellAsk c n k v es) h g = ((h.0, g.0), (h.1, g.1), (h.2, g.2), both_rows es h.3 g.3)
  both_msg (msg.CellOld n v es) h g = ((h.0, g.0), (h.1, g.1), both_rows es h.2 g.2)

-- ---- their homes are among n sites

module _ (n : ℕ) where
  homes_vars : (xs : List VarName) → Each (λ (x : VarName). HasHomeIn n (name.Var x)) xs
  homes_vars [] = tt
  homes_vars (x ∷ xs) = (omega arith, homes_vars xs)

  -- what the message tells of stationary cells; a mobile cell has no home, and no other name has one
  msg_homes : (m : Msg) → FitsWire m → MessageHomes n m → EachOfMsg (HasHomeIn n) m
  msg_homes (msg.Spawn th code vars es) h g = (omega arith, homes_vars vars, g.1)
  msg_homes (msg.Register x k) h g = omega arith
  msg_homes (msg.BindReq x th t es) h g = (omega arith, omega arith, g.0, g.1)
  msg_homes (msg.Binding x t es) h g = (omega arith, g.0, g.1)
  msg_homes (msg.Get c k) h g = omega (arith, h.0.1)
  msg_homes (msg.Forward c k) h g = omega (arith, h.0.1)
  msg_homes (msg.Put c v es) h g = (omega (arith, h.0.1), omega arith, g.1)
  msg_homes (msg.PortSend q th k) h g = (omega arith, omega arith)
  msg_homes (msg.PortEnd th old new es) h g = (omega arith, omega arith, omega arith, g.1)
  msg_homes (msg.CellMake c v es) h g = (g.0, omega arith, g.1)
  msg_homes (msg.CellAsk c th k v es) h g = (g.0, omega arith, omega arith, g.1)
  msg_homes (msg.CellOld th v es) h g = (omega arith, omega arith, g.1)

-- ---- they are known names

module _ (p : List Stmt) (is : IsProgram p) (n limit : ℕ) (some : 1 ≤ n) (j : List Turn) (f : Sites) (run : WorldRun p n limit j f) where
  -- what a site counts it made, and sites beyond n made nothing
  inside : (x : Name) → 1 ≤ site_of x → IsBelowCounter (f (site_of x)).counters x → site_of x ≤ n
  inside x low counted = search (rules, arith, out)
    where
      none : (x : Name) → (i : ℕ) → 2 ≤ i → IsBelowCounter (initial_site p n i).counters x → ⊥
      none (name.Var y) i two c = absurd (omega (arith, c))
      none (name.Cell y) i two c = absurd (omega (arith, c))
      none (name.Proc y) i two c = absurd (omega (arith, c))
      none (name.Port y) i two c = absurd (omega (arith, c))
      none (name.Thread y) i two c = go (i == 1) refl c
        where
          go : (b : Bool) → (i == 1) ≡ b → y.num < cond b 1 0 → ⊥
          go true q h = let e : i ≡ 1 = (nat_decides i 1).0 q in absurd (omega (arith, e, two))
          go false q h = absurd (omega (arith, h))

      out : (site_of x ≤ n → ⊥) → ⊥
      out h = none x (site_of x) (search (arith, some, h)) (subst (λ (s : Site). IsBelowCounter s.counters x) (outside p n limit j f run (site_of x) (λ k. h k.1)) counted)

  own_made : (to : ℕ) (x : Name) → IsBelowCounter (f (site_of x)).counters x → site_of x ≡ (f to).records.site → IsBelowCounter (f to).counters x
  own_made to x c e = subst (λ (i : ℕ). IsBelowCounter (f i).counters x) (e ∙ own_number p n limit j f run to) c

  known : (to : ℕ) (x : Name) → 1 ≤ site_of x → IsMade (counters f) x → HasHomeIn n x → IsKnownName n (f to) x
  known to x low (inl zero) home = absurd (omega (arith, low, zero))
  known to x low (inr c) home = (low, inside x low c, home, own_made to x c)

  known_name : (to : ℕ) (x : Name) → (IsOfSite x × IsMade (counters f) x) × HasHomeIn n x → OnOthers (IsKnownName n (f to)) x
  known_name to (name.Var y) h = tt
  known_name to (name.Cell y) h = known to (name.Cell y) h.0.0 h.0.1 h.1
  known_name to (name.Proc y) h = known to (name.Proc y) h.0.0 h.0.1 h.1
  known_name to (name.Port y) h = known to (name.Port y) h.0.0 h.0.1 h.1
  known_name to (name.Thread y) h = known to (name.Thread y) h.0.0 h.0.1 h.1

-- ---- a delivered message is fit

-- where this holds beside the simulation at the same journal
pub fit_at : (p : List Stmt) (n limit : ℕ) (j : List Turn) (f : Sites) → IsProgram p → 1 ≤ n → n ≤ 64 → limit ≤ 256 → WorldRun p n limit j f → WorldFits p n j f → (waiting : Threads) (s : State) → PartsMatch p (here_at (records f)) (eqs f) (records f) (threads (shown f waiting)) (counters f) (travelling j) s → CellsMatch (shown_world (world_of j f) waiting) s →
    ((k : ℕ) (m : Sent) → IsTravelling j k m → BringsNew (f m.to) m.msg) → ((k : ℕ) (m : Sent) → IsTravelling j k m → IsLetter m.msg → TakesCells (f m.to) m.msg × SitesCells n (f m.to) m.msg) → (k : ℕ) (m : Sent) → IsTravelling j k m →
    IsFit p n (f m.to) m.msg
fit_at p n limit j f is some high few run fits waiting s parts cells brings letters k m at = parts_are_fit p n (f m.to) m.msg vars (record {
  wire = spelt;
  takes = of_cells.0;
  sites = of_cells.1;
  names = others;
}) (tells_fit p j f waiting s parts brings k m at)
  where
    vars : VarsFit p n (f m.to) m.msg
    vars = fit_now p n limit j f fits run k m at

    spelt : FitsWire m.msg
    spelt = each_at (λ (o : Sent). FitsWire o.msg) (sent_of j) k m (spelled p is n limit high few j f run) at.0

    of_cells : TakesCells (f m.to) m.msg × SitesCells n (f m.to) m.msg
    of_cells = cells_fit p n limit j f run waiting s cells letters k m at

    made : EachOfMsg (IsMade (counters f)) m.msg
    made = parts.said k m.to m.msg ((travelling_tells j k m).1 at)

    of_site : EachOfMsg IsOfSite m.msg
    of_site = each_at (λ (o : Sent). EachOfMsg IsOfSite o.msg) (sent_of j) k m (named_in p is n limit high few j f run).1 at.0

    named : EachOfMsg (Both IsOfSite (IsMade (counters f))) m.msg
    named = both_msg IsOfSite (IsMade (counters f)) m.msg of_site made

    homes : EachOfMsg (HasHomeIn n) m.msg
    homes = msg_homes n m.msg spelt (each_at (IsFittingMsg p n f) (sent_of j) k m fits.messages at.0).2

    others : EachOfMsg (OnOthers (IsKnownName n (f m.to))) m.msg
    others = EachOfMsg-weaker (Both (Both IsOfSite (IsMade (counters f))) (HasHomeIn n)) (OnOthers (IsKnownName n (f m.to))) (known_name p is n limit some j f run m.to) m.msg
        (both_msg (Both IsOfSite (IsMade (counters f))) (HasHomeIn n) m.msg named homes)
