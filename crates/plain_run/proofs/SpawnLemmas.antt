-- A new thread goes to one of the sites.
use Rattle.site_model.specs.Requests.{OldContent, after_answer, with_home_content, serve_request, serve_early, cell_ask_row}
use Rattle.std.proofs.Common.{arith, ◌≡◌, sym, refl, subst, ℕ, zero, suc, ◌≤◌, List, [], ◌∷◌, ◌++◌, map, inl, inr, Bool, true, false, cond, Some, None}
use Rattle.std.specs.Prelude.{Option, ◌==◌, is_some, ℤ, pos, negsuc}
use Rattle.tree_node.specs.declared.names.VarName.{VarName}
use Rattle.tree_node.specs.declared.names.CellName.{CellName}
use Rattle.tree_node.specs.declared.names.ThreadName.{ThreadName}
use Rattle.tree_node.specs.declared.names.NameKind.{NameKind}
use Rattle.tree_node.specs.declared.node.Term.{Term}
use Rattle.tree_node.specs.declared.pick.Pick.{Pick}
use Rattle.tree_node.specs.Each.{Each}
use Rattle.tree_node.specs.State.{Stack}
use Rattle.tree_node.specs.Store.{Store, Equation}
use Rattle.tree_node.proofs.EachLemmas.{each_append}
use Rattle.kernel_syntax.specs.declared.stmt.Stmt.{Stmt}
use Rattle.site_message.specs.declared.message.Msg.{Msg}
use Rattle.site_message.specs.declared.message.Msg.TheVariants as msg
use Rattle.site_message.specs.declared.message.Sent.{Sent}
use Rattle.site_message.specs.declared.turn.Turn.{Turn}
use Rattle.site_message.specs.Journal.{sent_of}
use Rattle.proxy_table.specs.Proxies.{entry_of}
use Rattle.variable_owner.specs.declared.owners.Owner.{Owner}
use Rattle.variable_owner.specs.declared.owners.Owner.TheVariants.{Open, Bound}
use Rattle.variable_owner.specs.Owners.{owner_of, sites_of}
use Rattle.oz_model.specs.Need.{Need, Waits, WaitsAny, Binds, Takes, stack_need}
use Rattle.oz_model.specs.Effect.{Birth, CellChange, Stays, Made, Exchanged, Effect, PortChange, Keeps, Opened, Sent as SentTo}
use Rattle.bind_protocol.specs.Records.{Records, is_own, knowledge}
use Rattle.bind_protocol.specs.Rows.{sent_message, binding, register, register_answer, after_meet, meet_sends, meets_send}
use Rattle.token_chain.specs.Rows.{Reply, leave_reply, forward_reply, get_reply, exchange_reply}
use Rattle.token_chain.specs.Mail.{sent_as}
use Rattle.token_chain.specs.Mail as token
use Rattle.site_model.specs.Bundle.{with_own_bundle, with_own_bundles, message_bundle, message_vars}
use Rattle.site_model.specs.Site.{Site, cell_record, EarlyRequest, home_record}
use Rattle.site_model.specs.Transition.{Transition, without_output, with_messages, with_pick, and_then}
use Rattle.site_model.specs.Variables.{with_known_equations, own_bind, own_binds, opening}
use Rattle.site_model.specs.Cells.{serving, after_exchange, content_after_exchange, cell_reply, last_before, leave_row, request_row}
use Rattle.site_model.specs.Messages.{with_thread, bind_request_as, bind_request_row, message_row}
use Rattle.site_model.specs.Run.{WorldRun, delivered_message}
use Rattle.site_model.specs.Turn.{IsReception, AreUnits, SiteTurn}
use Rattle.site_model.specs.Unit.{IsUnitFor, IsStepOrRequest, placement, birth_row, step_row, after_effect, with_fresh_names, thread_step, step_pick, effect_here, fresh_names, bind_attempt, IsCellUnit, kept_step, kept_step_row, kept_stack, with_stack, after_port, after_home_cell, telling_row}
use Rattle.world_model.proofs.PutLemmas.{nat_decides}
use Rattle.world_messages.proofs.RunLemmas.{Entry, every_run}

stays : (i : ℕ) → (i == i) ≡ false → ⊥
stays i q = let same : (i == i) ≡ true = (nat_decides i i).1 refl in cc

-- a Spawn goes to a site 1 to n
abbrev pub SpawnsWithin : ℕ → Sent → Type 0
SpawnsWithin n m = within m.msg
  where
    within : Msg → Type 0
    within (msg.Spawn th code vars bundle) = (1 ≤ m.to) × (m.to ≤ n)
    within _ = Unit {0}

module _ (p : List Stmt) (n limit : ℕ) (some : 1 ≤ n) where
  abbrev Q : Sent → Type 0
  Q = SpawnsWithin n

  abbrev All : Transition → Type 0
  All d = Each Q d.sent

  told_each : (s : Store) (x : VarName) (t : Term) (ks : List ℕ) → Each Q (with_own_bundles limit s (map (λ (k : ℕ). binding x t k) ks))
  told_each s x t [] = tt
  told_each s x t (k ∷ ks) = (tt, told_each s x t ks)

  answered : (s : Store) (x : VarName) (k : ℕ) (o : Option Owner) → Each Q (with_own_bundles limit s (register_answer o x k))
  answered s x k None = tt
  answered s x k (Some (Open ks)) = tt
  answered s x k (Some (Bound t)) = (tt, tt)

  meet_all : (b : Records) (x : VarName) → Each Q (meet_sends b x)
  meet_all b x = go (is_own b x) (is_some (entry_of b.proxies x))
    where
      go : (c d : Bool) → Each Q (cond c [] (cond d [] (register x b.site ∷ [])))
      go true d = tt
      go false true = tt
      go false false = (tt, tt)

  meets_all : (xs : List VarName) (b : Records) → Each Q (meets_send b xs)
  meets_all [] b = tt
  meets_all (x ∷ xs) b = each_append Q (meet_sends b x) (meets_send (after_meet b x) xs) (meet_all b x) (meets_all xs (after_meet b x))

  binds_all : (es : List Equation) (s : Site) → All (own_binds limit es s)
  binds_all [] s = tt
  binds_all (e ∷ es) s =
      let b = own_binds limit es s in
      each_append Q b.sent (own_bind limit e.0 e.1 b.site).sent (binds_all es s) (told_each ((e.0, e.1) ∷ b.site.equations) e.0 e.1 (sites_of (owner_of b.site.records.owners e.0)))

  cell_each : (c : CellName) (s : Store) (ms : List token.Mail) → Each Q (with_own_bundles limit s (map (sent_as c) ms))
  cell_each c s [] = tt
  cell_each c s (m ∷ ms) = (one m, cell_each c s ms)
    where
      one : (m : token.Mail) → Q (with_own_bundle limit s (sent_as c m))
      one (token.Get k) = tt
      one (token.Forward a b) = tt
      one (token.Put h v) = tt

  reply_all : (c : CellName) (queue : List ThreadName) (r : Reply) (s : Site) → All (cell_reply limit c queue r s)
  reply_all c queue r s = cell_each c s.equations r.sent

  serves_all : (c : CellName) (ns : List ThreadName) (v : VarName) (s : Site) → All (serving p c ns v s)
  serves_all c [] v s = tt
  serves_all c (m ∷ ns) v s = serves_all c ns (content_after_exchange p m v s) (after_exchange p m v s)

  -- the place of a thread that goes away
  placed : (at : Option ℤ) (i : ℕ) → (placement n i at == i) ≡ false → (1 ≤ placement n i at) × (placement n i at ≤ n)
  placed (Some (pos (suc k))) i q = (omega arith, omega arith)
  placed (Some (pos zero)) i q = absurd (stays i q)
  placed (Some (negsuc k)) i q = absurd (stays i q)
  placed None i q = absurd (stays i q)

  bears_all : (b : Option Birth) (s : Site) → All (birth_row p n limit b s)
  bears_all None s = tt
  bears_all (Some b) s = go (placement n s.records.site b.at == s.records.site) refl
    where
      go : (c : Bool) → (placement n s.records.site b.at == s.records.site) ≡ c → All (cond c (without_output (with_thread p (Some b) s)) (with_messages s (with_own_bundle limit s.equations (sent_message (placement n s.records.site b.at) (msg.Spawn b.name b.code b.vars [])) ∷ [])))
      go true q = tt
      go false q = (placed b.at s.records.site q, tt)

  steps_all : (k : Pick) (kinds : List NameKind) (e : Effect) (s : Site) → All (step_row p n limit k kinds e s)
  steps_all k kinds e s =
      let b = own_binds limit e.adds (with_fresh_names kinds s) in
      each_append Q (b.sent ++ []) (birth_row p n limit e.born (after_effect k.thread e b.site)).sent (each_append Q b.sent [] (binds_all e.adds (with_fresh_names kinds s)) tt) (bears_all e.born (after_effect k.thread e b.site))

  bind_all : (th : ThreadName) (st : Stack) (u : VarName) (t : Term) (b : Bool) (s : Site) → All (bind_attempt p n limit th st u t b s)
  bind_all th st u t true s = steps_all (step_pick th [] (Some (u, t))) [] (effect_here p s [] (Some (u, t)) st) s
  bind_all th st u t false s = (tt, tt)

  -- a step on a port or on a stationary cell
  kept_all : (k : Pick) (kinds : List NameKind) (e : Effect) (s : Site) → All (kept_step_row limit k kinds e s)
  kept_all k kinds e s = told e.cell (with_stack k.thread (kept_stack s e) (after_port e.port (after_home_cell e.cell (with_fresh_names kinds s))))
    where
      told : (c : CellChange) (t : Site) → All (telling_row limit c t)
      told Stays t = tt
      told (Exchanged c new old) t = tt
      told (Made c v) t = by (c.at == t.records.site)
        where
          by : (b : Bool) → All (cond b (without_output t) (with_messages t (with_own_bundle limit t.equations (sent_message c.at (msg.CellMake c v [])) ∷ [])))
          by true = tt
          by false = (tt, tt)

  unit_all : (th : ThreadName) (st : Stack) (s : Site) (step kept : Transition) (c : CellChange) (d : Transition) → All step → All kept → IsCellUnit limit th st s step kept c d → All d
  unit_all th st s step kept Stays d k l h = subst All (sym h) k
  unit_all th st s step kept (Made c v) d k l (inl h) = subst All (sym h.1) k
  unit_all th st s step kept (Made c v) d k l (inr h) = subst All (sym h.1) l
  unit_all th st s step kept (Exchanged c new told) d k l (inl (mobile, inl h)) = subst All (sym h.1) k
  unit_all th st s step kept (Exchanged c new told) d k l (inl (mobile, inr h)) = subst All (sym h.1) (cell_each c (request_row limit c new th st s).site.equations (exchange_reply c.site (last_before s c) s.records.site new (cell_record s c).held).sent)
  unit_all th st s step kept (Exchanged c new told) d k l (inr (far, inl h)) = subst All (sym h.1) l
  unit_all th st s step kept (Exchanged c new told) d k l (inr (far, inr (inl h))) = subst All (sym h.1) (tt, tt)
  unit_all th st s step kept (Exchanged c new told) d k l (inr (far, inr (inr h))) = subst All (sym h.2) tt

  either_all : (th : ThreadName) (st : Stack) (s : Site) (step kept : Transition) (e : Effect) (d : Transition) → All step → All kept → IsStepOrRequest limit th st s step kept e d → All d
  either_all th st s step kept e d k l h = by_port e.port h
    where
      by_port : (r : PortChange) → IsStepOrRequest limit th st s step kept (record e { port = r }) d → All d
      by_port Keeps h = unit_all th st s step kept e.cell d k l h
      by_port (Opened q end) h = subst All (sym h) l
      by_port (SentTo q value new) (inl h) = subst All (sym h.3) l
      by_port (SentTo q value new) (inr (inl h)) = subst All (sym h.1) (tt, tt)
      by_port (SentTo q value new) (inr (inr h)) = subst All (sym h.2) tt

  need_all : (s : Site) (th : ThreadName) (st : Stack) (need : Need) (d : Transition) → IsUnitFor p n limit s th st need d → All d
  need_all s th st (Waits x) d h = subst All (sym h.2) tt
  need_all s th st (WaitsAny q) d h = subst All (sym h.2) tt
  need_all s th st (Binds a b) d h = subst All (sym h.3) (bind_all th st h.0 h.1 (h.0.site == s.records.site) s)
  need_all s th st (Takes kinds) d h =
      either_all th st s (thread_step p n limit th st kinds (fresh_names s kinds) None s) (kept_step p limit th st kinds (fresh_names s kinds) s) (effect_here p s (fresh_names s kinds) None st) d
      (steps_all (step_pick th (fresh_names s kinds) None) kinds (effect_here p s (fresh_names s kinds) None st) s) (kept_all (step_pick th (fresh_names s kinds) None) kinds (effect_here p s (fresh_names s kinds) None st) s) h

  units_all : (ths : List ThreadName) (s : Site) (d : Transition) → AreUnits p n limit ths s d → All d
  units_all [] s d h = subst All (sym h) tt
  units_all (th ∷ ths) s d (one, rest, unit, units, is) =
      subst All (sym is) (each_append Q one.sent rest.sent (need_all s th unit.0 (stack_need p s.equations unit.0) one unit.2) (units_all ths one.site rest units))

  asked_all : (x : VarName) (t : Term) (th : ThreadName) (s : Site) → All (bind_request_row limit x t th s)
  asked_all x t th s = go (knowledge s.records x)
    where
      go : (o : Option (Option Term)) → All (bind_request_as o limit x t th s)
      go None = tt
      go (Some None) = told_each ((x, t) ∷ s.equations) x t (sites_of (owner_of s.records.owners x))
      go (Some (Some r)) = tt

  serve_all : (c : CellName) (r : EarlyRequest) (v : VarName) (s : Site) → All (serve_request p limit c r v s)
  serve_all c r v s = by (r.asking == s.records.site)
    where
      by : (b : Bool) → All (cond b (with_pick (after_answer p r.thread (OldContent v) (with_home_content c r.new s)) (step_pick r.thread [] None))
          (and_then (with_pick (with_home_content c r.new s) (step_pick r.thread [] None)) (λ t. with_messages t (with_own_bundle limit t.equations (sent_message r.asking (msg.CellOld r.thread v [])) ∷ []))))
      by true = tt
      by false = (tt, tt)

  early_all : (c : CellName) (v : VarName) (rs : List EarlyRequest) (s : Site) → All (serve_early p limit c v rs s)
  early_all c v [] s = tt
  early_all c v (r ∷ rs) s =
      let first = serve_request p limit c r v s in
      each_append Q first.sent (serve_early p limit c r.new rs first.site).sent (serve_all c r v s) (early_all c r.new rs first.site)

  ask_all : (c : CellName) (r : EarlyRequest) (s : Site) → All (cell_ask_row p limit c r s)
  ask_all c r s = by (home_record s c).content refl
    where
      by : (o : Option VarName) → (home_record s c).content ≡ o → All (cell_ask_row p limit c r s)
      by (Some v) e = rw e (serve_all c r v s)
      by None e = rw e tt

  takes_all : (m : Msg) (s : Site) → All (message_row p limit m s)
  takes_all (msg.Spawn a b c d) s = tt
  takes_all (msg.Register x k) s = answered s.equations x k (owner_of s.records.owners x)
  takes_all (msg.BindReq x th t bundle) s = asked_all x t th s
  takes_all (msg.Binding x t bundle) s = tt
  takes_all (msg.Get c k) s = cell_each c s.equations (get_reply s.records.site (last_before s c) k (cell_record s c).held).sent
  takes_all (msg.Forward c k) s = cell_each c s.equations (forward_reply (cell_record s c).held k).sent
  takes_all (msg.Put c v bundle) s =
      let served = serving p c (cell_record s c).queue v s in
      each_append Q served.sent (leave_row limit c served.site).sent (serves_all c (cell_record s c).queue v s) (cell_each c served.site.equations (leave_reply (cell_record served.site c).held).sent)
  takes_all (msg.PortSend q o k) s = (tt, tt)
  takes_all (msg.PortEnd o old new bundle) s = tt
  takes_all (msg.CellMake c v bundle) s = early_all c v (home_record s c).early s
  takes_all (msg.CellAsk c o k v bundle) s = ask_all c (record { thread = o; asking = k; new = v }) s
  takes_all (msg.CellOld o v bundle) s = tt

  heard_all : (m : Option Msg) (s : Site) (d : Transition) → IsReception p n limit m s d → All d
  heard_all None s d h = subst All (sym h) tt
  heard_all (Some m) s d (inl h) = subst All (sym h.1) (each_append Q (opening m s).sent (message_row p limit m (opening m s).site).sent (meets_all (message_vars m) (with_known_equations s (message_bundle m)).records) (takes_all m (opening m s).site))
  heard_all (Some m) s d (inr h) = subst All (sym h.1) tt

  turn_all : (m : Option Msg) (s : Site) (d : Transition) → SiteTurn p n limit s m d → Each Q d.sent
  turn_all m s d (ths, few, (heard, rest, first, units, is)) =
      subst All (sym is) (each_append Q heard.sent rest.sent (heard_all m s heard first) (units_all ths heard.site rest units))

  -- in every run
  pub spawns_within : (j : List Turn) (w : ℕ → Site) → WorldRun p n limit j w → Each Q (sent_of j)
  spawns_within j w run = every_run p n limit (λ l f. Each Q (sent_of l)) tt goes j w run
    where
      goes : (l : List Turn) (e : Turn) (f : ℕ → Site) (d : Transition) → Entry p n limit l e f d → Each Q (sent_of l) → Each Q (sent_of (e ∷ l))
      goes l e f d entry h = each_append Q (sent_of l) e.sent h (subst (Each Q) (sym entry.tells.sent) (turn_all (delivered_message l e.delivered) (f e.site) d entry.turn))
