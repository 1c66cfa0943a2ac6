-- Messages of cells are fit, by the chains.
use Rattle.std.proofs.Common.{rules, arith, ◌≡◌, ◌≢◌, ◌∙◌, sym, ap, refl, subst, ℕ, ◌≤◌, List, true}
use Rattle.std.specs.Prelude.{Option, Some, None, ◌==◌, ◌&&◌}
use Rattle.std.specs.Map.{lookup}
use Rattle.tree_node.specs.declared.names.VarName.{VarName}
use Rattle.tree_node.specs.declared.names.CellName.{CellName}
use Rattle.tree_node.specs.Assoc.{value_of}
use Rattle.tree_node.specs.Goal.{equal_cell}
use Rattle.tree_node.specs.State.{State}
use Rattle.tree_node.specs.Store.{Equation, equal_var}
use Rattle.tree_node.proofs.ClassLemmas.{same_name_refl}
use Rattle.kernel_syntax.specs.declared.stmt.Stmt.{Stmt}
use Rattle.site_message.specs.declared.message.Msg.{Msg}
use Rattle.site_message.specs.declared.message.Msg.TheVariants as msg
use Rattle.site_message.specs.declared.message.Sent.{Sent}
use Rattle.site_message.specs.declared.turn.Turn.{Turn}
use Rattle.site_message.specs.Journal.{IsTravelling, travelling}
use Rattle.site_message.proofs.JournalLemmas.{travelling_tells}
use Rattle.token_chain.specs.declared.token.Token.TheVariants.{Away, Asked}
use Rattle.token_chain.specs.Holding.{Holding, CanFollow}
use Rattle.token_chain.specs.Mail.{is_mail, sent_count as on_way}
use Rattle.token_chain.specs.Mail as token
use Rattle.token_chain.specs.Chain.{IsChain, IsDue}
use Rattle.token_chain.proofs.ChangeLemmas.{on_used, due_at}
use Rattle.token_chain.proofs.ListLemmas.{last_on, next_on, before_on, next_differs}
use Rattle.site_model.specs.Site.{Site, Threads, cell_record_in, cell_record, last_asker}
use Rattle.site_model.specs.Fit.{CanRequest}
use Rattle.site_model.specs.Run.{WorldRun}
use Rattle.world_model.specs.World.{Sites, cell_records, managers, world_of}
use Rattle.world_model.specs.Chain.{held_in, messages, mobile_cells, HasChain}
use Rattle.world_model.specs.Matches.{CellsMatch}
use Rattle.world_model.specs.Shown.{shown_world}
use Rattle.world_model.proofs.PutLemmas.{nat_decides}
use Rattle.world_messages.specs.Unfit.{IsLetter, TakesCells, SitesCells}
use Rattle.oz_model.proofs.KindLemmas.{cell_same}
use Rattle.world_messages.proofs.UnfitLemmas.{travels_counted, outside, goes_home, own_number}
use Rattle.token_chain.proofs.FitLemmas.{used_of}

not_zero : (k : ℕ) → 1 ≤ k → k ≢ 0
not_zero k h e = omega (arith, h, e)

asked_not : Asked ≡ Away → ⊥
asked_not e = cc

module _ (p : List Stmt) (n limit : ℕ) (j : List Turn) (f : Sites) (run : WorldRun p n limit j f) (waiting : Threads) (s : State) (cells : CellsMatch (shown_world (world_of j f) waiting) s)
    (letters : (k : ℕ) (m : Sent) → IsTravelling j k m → IsLetter m.msg → TakesCells (f m.to) m.msg × SitesCells n (f m.to) m.msg) where
  at_of : CellName → ℕ → Holding
  at_of c i = held_in (cell_records f) c i

  under_way : CellName → token.Mail → ℕ
  under_way c m = on_way c (messages (travelling j)) m

  -- its cell has a chain
  abbrev Chained : CellName → token.Mail → Type 0
  Chained c m = (v : VarName) × (last : ℕ) × (hs : List ℕ) × (lookup (equal_cell c) (f c.site).managers ≡ Some last) × IsChain last (held_in (cell_records f) c) (on_way c (messages (travelling j))) hs v × IsDue (held_in (cell_records f) c) hs v m

  chained : (c : CellName) (m : token.Mail) → 1 ≤ on_way c (messages (travelling j)) m → Chained c m
  chained c m some = go (value_of equal_cell (mobile_cells s.cells) c) refl
    where
      go : (o : Option VarName) → value_of equal_cell (mobile_cells s.cells) c ≡ o → Chained c m
      go None q = absurd (not_zero _ some ((cells.cells.others c q).quiet m))
      go (Some v) q = by (cells.cells.chains c v q)
        where
          by : HasChain (managers f) (cell_records f) (travelling j) c v → Chained c m
          by (last, at, (hs, chain)) = (v, last, hs, at, chain, due_at last (held_in (cell_records f) c) (on_way c (messages (travelling j))) hs v chain m (not_zero _ some))

  -- a site that asked for the token, or has it, is one of n
  inside : (c : CellName) (i : ℕ) → (held_in (cell_records f) c i).token ≢ Away → (1 ≤ i) × (i ≤ n)
  inside c i used = search (rules, arith, out)
    where
      out : ((1 ≤ i) × (i ≤ n) → ⊥) → ⊥
      out h = used (ap (λ (t : Site). (cell_record_in t.cell_records c).held.token) (outside p n limit j f run i h))

  counted : (k to : ℕ) (o : Msg) (c : CellName) (m : token.Mail) → IsTravelling j k (record { to = to; msg = o }) → is_mail c m to o ≡ true → 1 ≤ on_way c (messages (travelling j)) m
  counted k to o c m at e = travels_counted (λ (q : Sent). is_mail c m q.to q.msg) (travelling j) (k, record { to = to; msg = o }) ((travelling_tells j k (record { to = to; msg = o })).1 at) e

  same_self : (c : CellName) → equal_cell c c ≡ true
  same_self c = cell_same c

  ready : (c : CellName) (i : ℕ) → (held_in (cell_records f) c i).token ≢ Away → (held_in (cell_records f) c i).next ≡ None → CanFollow (cell_record (f i) c).held
  ready c i used free = (free, used_of (cell_record (f i) c).held.token used)

  get_fits : (k to i : ℕ) (c : CellName) → IsTravelling j k (record { to = to; msg = msg.Get c i }) → TakesCells (f to) (msg.Get c i) × SitesCells n (f to) (msg.Get c i)
  get_fits k to i c at = go (chained c (token.Get i) (counted k to (msg.Get c i) c (token.Get i) at this))
    where
      home : (to ≡ c.site) × (c.site ≢ i)
      home = goes_home p n limit j f run k (record { to = to; msg = msg.Get c i }) at

      own : (f to).records.site ≡ to
      own = own_number p n limit j f run to

      this : (equal_cell c c && ((c.site == to) && (i == i))) ≡ true
      this = rw (same_self c, (nat_decides c.site to).1 (sym home.0), (nat_decides i i).1 refl) refl

      go : Chained c (token.Get i) → TakesCells (f to) (msg.Get c i) × SitesCells n (f to) (msg.Get c i)
      go (v, last, hs, at_manager, chain, due) = ((sym home.0 ∙ sym own, subst (CanRequest (f to) c) (sym asker) request), (range.0, range.1, λ (e : i ≡ (f to).records.site). home.1 (sym (e ∙ own ∙ home.0))))
        where
          asker : last_asker (f to) c ≡ Some last
          asker = subst (λ (q : ℕ). lookup (equal_cell c) (f q).managers ≡ Some last) (sym home.0) at_manager

          used : (held_in (cell_records f) c last).token ≢ Away
          used = on_used last (held_in (cell_records f) c) (on_way c (messages (travelling j))) hs v chain last (last_on hs last chain.end)

          request : last ≡ (f to).records.site → CanFollow (cell_record (f to) c).held
          request e = subst (λ (q : ℕ). CanFollow (cell_record (f q) c).held) (e ∙ own) (ready c last used chain.free)

          range : (1 ≤ i) × (i ≤ n)
          range = inside c i (λ (e : (held_in (cell_records f) c i).token ≡ Away). asked_not (sym due.0 ∙ e))

  forward_fits : (k to b : ℕ) (c : CellName) → IsTravelling j k (record { to = to; msg = msg.Forward c b }) → TakesCells (f to) (msg.Forward c b) × SitesCells n (f to) (msg.Forward c b)
  forward_fits k to b c at = go (chained c (token.Forward to b) (counted k to (msg.Forward c b) c (token.Forward to b) at this))
    where
      own : (f to).records.site ≡ to
      own = own_number p n limit j f run to

      this : (equal_cell c c && ((to == to) && (b == b))) ≡ true
      this = rw (same_self c, (nat_decides to to).1 refl, (nat_decides b b).1 refl) refl

      go : Chained c (token.Forward to b) → TakesCells (f to) (msg.Forward c b) × SitesCells n (f to) (msg.Forward c b)
      go (v, last, hs, at_manager, chain, due) = (ready c to used due.1, (range.0, range.1, λ (e : b ≡ (f to).records.site). next_differs hs to b chain.distinct due.0 (sym (e ∙ own))))
        where
          used : (held_in (cell_records f) c to).token ≢ Away
          used = on_used last (held_in (cell_records f) c) (on_way c (messages (travelling j))) hs v chain to (before_on hs to b due.0)

          range : (1 ≤ b) × (b ≤ n)
          range = inside c b (on_used last (held_in (cell_records f) c) (on_way c (messages (travelling j))) hs v chain b (next_on hs to b due.0))

  put_fits : (k to : ℕ) (c : CellName) (v : VarName) (bundle : List Equation) → IsTravelling j k (record { to = to; msg = msg.Put c v bundle }) → TakesCells (f to) (msg.Put c v bundle)
  put_fits k to c v bundle at = (chained c (token.Put to v) (counted k to (msg.Put c v bundle) c (token.Put to v) at this)).5.1
    where
      this : (equal_cell c c && ((to == to) && equal_var v v)) ≡ true
      this = rw (same_self c, (nat_decides to to).1 refl, same_name_refl v) refl

  -- the part on cells
  pub cells_fit : (k : ℕ) (m : Sent) → IsTravelling j k m → TakesCells (f m.to) m.msg × SitesCells n (f m.to) m.msg
  cells_fit k m at = go m.msg at
    where
      go : (o : Msg) → IsTravelling j k (record { to = m.to; msg = o }) → TakesCells (f m.to) o × SitesCells n (f m.to) o
      go (msg.Get c i) at = get_fits k m.to i c at
      go (msg.Forward c b) at = forward_fits k m.to b c at
      go (msg.Put c v bundle) at = (put_fits k m.to c v bundle at, tt)
      go (msg.Spawn a b c d) at = (tt, tt)
      go (msg.Register a b) at = (tt, tt)
      go (msg.BindReq a b c d) at = (tt, tt)
      go (msg.Binding a b c) at = (tt, tt)
      go (msg.PortSend q o a) at = letters k (record { to = m.to; msg = msg.PortSend q o a }) at tt
      go (msg.PortEnd o old new bundle) at = letters k (record { to = m.to; msg = msg.PortEnd o old new bundle }) at tt
      go (msg.CellMake c v bundle) at = letters k (record { to = m.to; msg = msg.CellMake c v bundle }) at tt
      go (msg.CellAsk c o a v bundle) at = letters k (record { to = m.to; msg = msg.CellAsk c o a v bundle }) at tt
      go (msg.CellOld o v bundle) at = letters k (record { to = m.to; msg = msg.CellOld o v bundle }) at tt
