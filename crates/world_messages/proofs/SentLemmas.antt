-- What holds of each message that a site sends: of those that carry what is known, and of a Register, a Get and a Forward.
use Rattle.std.proofs.Common.{◌≡◌, ◌≢◌, sym, refl, subst, ℕ, List, [], ◌∷◌, ◌++◌, map, inl, inr, Bool, true, false, cond, Some, None}
use Rattle.std.specs.Prelude.{Option, ◌==◌, is_some}
use Rattle.tree_node.specs.declared.names.VarName.{VarName}
use Rattle.tree_node.specs.declared.names.CellName.{CellName}
use Rattle.tree_node.specs.declared.names.PortName.{PortName}
use Rattle.tree_node.specs.declared.names.ThreadName.{ThreadName}
use Rattle.tree_node.specs.declared.names.NameKind.{NameKind}
use Rattle.tree_node.specs.declared.node.Term.{Term}
use Rattle.tree_node.specs.declared.pick.Pick.{Pick}
use Rattle.tree_node.specs.Each.{Each}
use Rattle.tree_node.specs.State.{Stack}
use Rattle.tree_node.specs.Store.{Store, Equation}
use Rattle.kernel_syntax.specs.declared.stmt.Stmt.{Stmt}
use Rattle.site_message.specs.declared.message.Msg.{Msg}
use Rattle.site_message.specs.declared.message.Msg.TheVariants as msg
use Rattle.site_message.specs.declared.message.Sent.{Sent}
use Rattle.proxy_table.specs.Proxies.{entry_of}
use Rattle.oz_model.specs.Need.{Need, Waits, WaitsAny, Binds, Takes, stack_need}
use Rattle.oz_model.specs.Effect.{Birth, Effect}
use Rattle.bind_protocol.specs.Records.{Records, is_own, knowledge}
use Rattle.tree_node.specs.declared.names.CodeId.{CodeId}
use Rattle.variable_owner.specs.declared.owners.Owner.{Owner}
use Rattle.variable_owner.specs.declared.owners.Owner.TheVariants.{Open, Bound}
use Rattle.variable_owner.specs.Owners.{owner_of, sites_of}
use Rattle.bind_protocol.specs.Rows.{sent_message, request, register, binding, register_answer, meet_sends, after_meet, meets_send}
use Rattle.site_model.specs.Requests.{next_var, old_end, cell_ask_row}
use Rattle.site_model.specs.Site.{Site, cell_record, home_record}
use Rattle.site_model.specs.Bundle.{with_own_bundle, with_own_bundles, message_bundle, message_vars}
use Rattle.site_model.specs.Transition.{Transition, without_output, with_messages}
use Rattle.site_model.specs.Variables.{with_known_equations, own_binds, opening}
use Rattle.site_model.specs.Cells.{leave_row, forward_row, last_before, get_row, serving, request_row, after_exchange, content_after_exchange}
use Rattle.world_model.proofs.CellLemmas.{leave_each, get_each, request_each}
use Rattle.site_model.specs.Messages.{with_thread, bind_request_row, message_row}
use Rattle.site_model.specs.Unit.{with_fresh_names, birth_row, placement, step_row, after_effect, thread_step, kept_step, kept_step_row, kept_stack, with_stack, fresh_names, effect_here, step_pick, bind_attempt, IsUnitFor}
use Rattle.world_model.proofs.PutLemmas.{nat_decides}
use Rattle.site_model.specs.Turn.{IsReception, AreUnits, SiteTurn}
use Rattle.tree_node.proofs.EachLemmas.{each_append}
use Rattle.world_messages.proofs.HomeRowLemmas.{kept_before, tell_each, serve_each, early_each}
use Rattle.world_messages.proofs.WayLemmas.{Way, Steps, Opens, Sends, Makes, Exchanges, AsksToken, AsksPort, AsksHome, WaitsEarly, WaitsPort, way_of}

module _ (p : List Stmt) (n limit : ℕ) (Q : Sent → Type 0)
    (spawns : (s : Store) (to : ℕ) (th : ThreadName) (code : CodeId) (vars : List VarName) → Q (with_own_bundle limit s (sent_message to (msg.Spawn th code vars [])))) (requests : (s : Store) (x : VarName) (t : Term) (th : ThreadName) → Q (with_own_bundle limit s (request x t th)))
    (tells : (s : Store) (x : VarName) (t : Term) (k : ℕ) → Q (with_own_bundle limit s (binding x t k))) (puts : (s : Store) (k : ℕ) (c : CellName) (v : VarName) → Q (with_own_bundle limit s (sent_message k (msg.Put c v [])))) (asks_once : (x : VarName) (i : ℕ) → Q (register x i))
    (gets : (c : CellName) (k : ℕ) → c.site ≢ k → Q (sent_message c.site (msg.Get c k))) (forwards : (to : ℕ) (c : CellName) (k : ℕ) → Q (sent_message to (msg.Forward c k)))
    (to_port : (q : PortName) (th : ThreadName) (k : ℕ) → q.site ≢ k → Q (sent_message q.site (msg.PortSend q th k))) (ends : (s : Store) (to : ℕ) (th : ThreadName) (old new : VarName) → Q (with_own_bundle limit s (sent_message to (msg.PortEnd th old new []))))
    (home_told : (s : Store) (c : CellName) (v : VarName) → Q (with_own_bundle limit s (sent_message c.at (msg.CellMake c v [])))) (to_home : (s : Store) (c : CellName) (th : ThreadName) (k : ℕ) (v : VarName) → c.at ≢ k → Q (with_own_bundle limit s (sent_message c.at (msg.CellAsk c th k v []))))
    (olds : (s : Store) (to : ℕ) (th : ThreadName) (v : VarName) → Q (with_own_bundle limit s (sent_message to (msg.CellOld th v [])))) where
  abbrev All : Transition → Type 0
  All d = Each Q d.sent

  told_each : (s : Store) (x : VarName) (t : Term) (ks : List ℕ) → Each Q (with_own_bundles limit s (map (λ (k : ℕ). binding x t k) ks))
  told_each s x t [] = tt
  told_each s x t (k ∷ ks) = (tells s x t k, told_each s x t ks)

  answered : (s : Store) (x : VarName) (k : ℕ) (o : Option Owner) → Each Q (with_own_bundles limit s (register_answer o x k))
  answered s x k None = tt
  answered s x k (Some (Open ks)) = tt
  answered s x k (Some (Bound t)) = (tells s x t k, tt)

  meet_all : (b : Records) (x : VarName) → Each Q (meet_sends b x)
  meet_all b x = go (is_own b x) (is_some (entry_of b.proxies x))
    where
      go : (c d : Bool) → Each Q (cond c [] (cond d [] (register x b.site ∷ [])))
      go true d = tt
      go false true = tt
      go false false = (asks_once x b.site, tt)

  meets_all : (xs : List VarName) (b : Records) → Each Q (meets_send b xs)
  meets_all [] b = tt
  meets_all (x ∷ xs) b = each_append Q (meet_sends b x) (meets_send (after_meet b x) xs) (meet_all b x) (meets_all xs (after_meet b x))

  binds_each_all : (es : List Equation) (s : Site) → All (own_binds limit es s)
  binds_each_all [] s = tt
  binds_each_all (e ∷ es) s = each_append Q (own_binds limit es s).sent _ (binds_each_all es s) (told_each ((e.0, e.1) ∷ (own_binds limit es s).site.equations) e.0 e.1 (sites_of (owner_of (own_binds limit es s).site.records.owners e.0)))

  leave_all : (c : CellName) (s : Site) → All (leave_row limit c s)
  leave_all c s = leave_each Q limit c s.equations (cell_record s c).held (λ k u e. puts s.equations k c u)

  forward_all : (c : CellName) (k : ℕ) (s : Site) → All (forward_row limit c k s)
  forward_all c k s = leave_each Q limit c s.equations (record (cell_record s c).held { next = Some k }) (λ j u e. puts s.equations j c u)

  get_all : (c : CellName) (k : ℕ) (s : Site) → All (get_row limit c k s)
  get_all c k s = get_each Q limit c s.equations s.records.site (last_before s c) k (cell_record s c).held (λ j u e. puts s.equations j c u) (forwards (last_before s c) c k)

  serves_all : (c : CellName) (ns : List ThreadName) (v : VarName) (s : Site) → All (serving p c ns v s)
  serves_all c [] v s = tt
  serves_all c (m ∷ ns) v s = serves_all c ns (content_after_exchange p m v s) (after_exchange p m v s)

  asks_all : (c : CellName) (new : VarName) (th : ThreadName) (st : Stack) (s : Site) → All (request_row limit c new th st s)
  asks_all c new th st s =
      request_each Q limit c (request_row limit c new th st s).site.equations c.site (last_before s c) s.records.site new (cell_record s c).held (forwards (last_before s c) c s.records.site)
      (λ q. gets c s.records.site (λ (e : c.site ≡ s.records.site). let yes : (s.records.site == c.site) ≡ true = (nat_decides s.records.site c.site).1 (sym e) in cc))

  bears_all : (b : Option Birth) (s : Site) → All (birth_row p n limit b s)
  bears_all None s = tt
  bears_all (Some b) s = go (placement n s.records.site b.at == s.records.site)
    where
      go : (c : Bool) → All (cond c (without_output (with_thread p (Some b) s)) (with_messages s (with_own_bundle limit s.equations (sent_message (placement n s.records.site b.at) (msg.Spawn b.name b.code b.vars [])) ∷ [])))
      go true = tt
      go false = (spawns s.equations (placement n s.records.site b.at) b.name b.code b.vars, tt)

  steps_all : (k : Pick) (kinds : List NameKind) (e : Effect) (s : Site) → All (step_row p n limit k kinds e s)
  steps_all k kinds e s =
      each_append Q (bound_all.sent ++ []) _ (each_append Q bound_all.sent [] (binds_each_all e.adds (with_fresh_names kinds s)) tt) (bears_all e.born (after_effect k.thread e bound_all.site))
    where
      bound_all : Transition
      bound_all = own_binds limit e.adds (with_fresh_names kinds s)

  bind_all : (th : ThreadName) (st : Stack) (u : VarName) (t : Term) (b : Bool) (s : Site) → All (bind_attempt p n limit th st u t b s)
  bind_all th st u t true s = steps_all (step_pick th [] (Some (u, t))) [] (effect_here p s [] (Some (u, t)) st) s
  bind_all th st u t false s = (requests s.equations u t th, tt)

  kept_all : (k : Pick) (kinds : List NameKind) (e : Effect) (s : Site) → All (kept_step_row limit k kinds e s)
  kept_all k kinds e s = tell_each Q limit e.cell (with_stack k.thread (kept_stack s e) (kept_before kinds e s)) (λ b v is other. home_told (with_stack k.thread (kept_stack s e) (kept_before kinds e s)).equations b v)

  way_all : (th : ThreadName) (st : Stack) (s : Site) (step kept : Transition) (e : Effect) (d : Transition) → All step → All kept → Way limit th st s step kept e d → All d
  way_all th st s step kept e d k g (Steps finds same) = subst All (sym same) k
  way_all th st s step kept e d k g (Opens q end is same) = subst All (sym same) g
  way_all th st s step kept e d k g (Sends q value new end is has same) = subst All (sym same) g
  way_all th st s step kept e d k g (Makes c v keeps is same) = subst All (sym same) g
  way_all th st s step kept e d k g (Exchanges c new told v keeps is has same) = subst All (sym same) g
  way_all th st s step kept e d k g (AsksToken c new none same) = subst All (sym same) (asks_all c new th st s)
  way_all th st s step kept e d k g (AsksPort q other same) = subst All (sym same) (to_port q th s.records.site other, tt)
  way_all th st s step kept e d k g (AsksHome c new told is other same) = subst All (sym same) (to_home s.equations c th s.records.site new other, tt)
  way_all th st s step kept e d k g (WaitsEarly c new told is same) = subst All (sym same) tt
  way_all th st s step kept e d k g (WaitsPort q same) = subst All (sym same) tt

  need_all : (s : Site) (th : ThreadName) (st : Stack) (need : Need) (d : Transition) → IsUnitFor p n limit s th st need d → All d
  need_all s th st (Waits x) d h = subst All (sym h.2) tt
  need_all s th st (WaitsAny q) d h = subst All (sym h.2) tt
  need_all s th st (Binds a b) d h = subst All (sym h.3) (bind_all th st h.0 h.1 (h.0.site == s.records.site) s)
  need_all s th st (Takes kinds) d h =
      way_all th st s (thread_step p n limit th st kinds (fresh_names s kinds) None s) (kept_step p limit th st kinds (fresh_names s kinds) s) (effect_here p s (fresh_names s kinds) None st) d
      (steps_all (step_pick th (fresh_names s kinds) None) kinds (effect_here p s (fresh_names s kinds) None st) s) (kept_all (step_pick th (fresh_names s kinds) None) kinds (effect_here p s (fresh_names s kinds) None st) s)
      (way_of limit th st s (thread_step p n limit th st kinds (fresh_names s kinds) None s) (kept_step p limit th st kinds (fresh_names s kinds) s) (effect_here p s (fresh_names s kinds) None st) d h)

  units_all : (ths : List ThreadName) (s : Site) (d : Transition) → AreUnits p n limit ths s d → All d
  units_all [] s d h = subst All (sym h) tt
  units_all (th ∷ ths) s d (one, rest, unit, units, is) =
      subst All (sym is) (each_append Q one.sent rest.sent (need_all s th unit.0 (stack_need p s.equations unit.0) one unit.2) (units_all ths one.site rest units))

  asked_all : (x : VarName) (t : Term) (th : ThreadName) (s : Site) → All (bind_request_row limit x t th s)
  asked_all x t th s = go (knowledge s.records x) refl
    where
      go : (o : Option (Option Term)) → knowledge s.records x ≡ o → All (bind_request_row limit x t th s)
      go None q = rw q tt
      go (Some None) q = rw q (told_each ((x, t) ∷ s.equations) x t (sites_of (owner_of s.records.owners x)))
      go (Some (Some r)) q = rw q tt

  takes_all : (m : Msg) (s : Site) → All (message_row p limit m s)
  takes_all (msg.Spawn a b c d) s = tt
  takes_all (msg.Register x k) s = answered s.equations x k (owner_of s.records.owners x)
  takes_all (msg.BindReq x th t bundle) s = asked_all x t th s
  takes_all (msg.Binding x t bundle) s = tt
  takes_all (msg.Get c k) s = get_all c k s
  takes_all (msg.Forward c k) s = forward_all c k s
  takes_all (msg.Put c v bundle) s = each_append Q (serving p c (cell_record s c).queue v s).sent _ (serves_all c (cell_record s c).queue v s) (leave_all c (serving p c (cell_record s c).queue v s).site)
  takes_all (msg.PortSend q th k) s = (ends s.equations k th (old_end s q) (next_var s), tt)
  takes_all (msg.PortEnd th old new bundle) s = tt
  takes_all (msg.CellMake c v bundle) s = early_each p limit c Q (home_record s c).early v s olds
  takes_all (msg.CellAsk c th k v bundle) s = go (home_record s c).content refl
    where
      go : (o : Option VarName) → (home_record s c).content ≡ o → All (cell_ask_row p limit c (record { thread = th; asking = k; new = v }) s)
      go None q = rw q tt
      go (Some u) q = rw q (serve_each p limit c Q (record { thread = th; asking = k; new = v }) u s olds)
  takes_all (msg.CellOld th v bundle) s = tt

  heard_all : (m : Option Msg) (s : Site) (d : Transition) → IsReception p n limit m s d → All d
  heard_all None s d h = subst All (sym h) tt
  heard_all (Some m) s d (inl h) = subst All (sym h.1) (each_append Q (opening m s).sent _ (meets_all (message_vars m) (with_known_equations s (message_bundle m)).records) (takes_all m (opening m s).site))
  heard_all (Some m) s d (inr h) = subst All (sym h.1) tt

  pub turn_all : (m : Option Msg) (s : Site) (d : Transition) → SiteTurn p n limit s m d → Each Q d.sent
  turn_all m s d (ths, few, (heard, rest, first, units, is)) =
      subst All (sym is) (each_append Q heard.sent rest.sent (heard_all m s heard first) (units_all ths heard.site rest units))

-- ---- bundles

-- a Register and a BindReq go to the owner, a Get to the manager, which is another site than the one that asks
abbrev pub GoesHome : Sent → Type 0
GoesHome m = to_home m.msg
  where
    to_home : Msg → Type 0
    to_home (msg.Register x k) = m.to ≡ x.site
    to_home (msg.BindReq x th t bundle) = m.to ≡ x.site
    to_home (msg.Get c k) = (m.to ≡ c.site) × (c.site ≢ k)
    to_home _ = Unit {0}

pub turn_home : (p : List Stmt) (n limit : ℕ) (m : Option Msg) (s : Site) (d : Transition) → SiteTurn p n limit s m d → Each GoesHome d.sent
turn_home p n limit m s d turn = turn_all p n limit GoesHome (λ t to th code vars. tt) (λ t x r th. refl) (λ t x r k. tt) (λ t k c v. tt) (λ x i. refl) (λ c k other. (refl, other)) (λ to c k. tt)
    (λ q th k other. tt) (λ t to th old new. tt) (λ t c v. tt) (λ t c th k v other. tt) (λ t to th v. tt) m s d turn
