-- Rows that have nothing to do with ports and stationary cells: what is kept of these stays, no request or answer is sent, and what the site
-- knows stays known.
use Rattle.std.proofs.Common.{◌≡◌, ◌∙◌, refl, ℕ, List, [], ◌∷◌, ◌++◌, map, Bool, true, false, cond, Some, None}
use Rattle.std.specs.Prelude.{Option, ◌==◌, option_to_list, is_some}
use Rattle.tree_node.specs.declared.names.VarName.{VarName}
use Rattle.tree_node.specs.declared.names.CellName.{CellName}
use Rattle.tree_node.specs.declared.names.ThreadName.{ThreadName}
use Rattle.tree_node.specs.declared.names.NameKind.{NameKind}
use Rattle.tree_node.specs.declared.node.Term.{Term}
use Rattle.tree_node.specs.declared.pick.Pick.{Pick}
use Rattle.tree_node.specs.Each.{Each}
use Rattle.tree_node.specs.State.{Stack}
use Rattle.tree_node.specs.Store.{Store, Equation}
use Rattle.kernel_syntax.specs.declared.stmt.Stmt.{Stmt}
use Rattle.site_message.specs.declared.message.Msg.{Msg}
use Rattle.site_message.specs.declared.message.Msg.TheVariants as msg
use Rattle.site_message.specs.declared.message.Sent.{Sent}
use Rattle.oz_model.specs.Effect.{Effect, Birth, CellChange, Stays, Made, Exchanged}
use Rattle.bind_protocol.specs.Records.{Records, is_own, knowledge}
use Rattle.bind_protocol.specs.Rows.{register, binding, after_meet, meet_sends, meets_send, ask_sends, register_answer, sent_message}
use Rattle.proxy_table.specs.Proxies.{entry_of}
use Rattle.variable_owner.specs.Owners.{owner_of, sites_of}
use Rattle.variable_owner.specs.declared.owners.Owner.{Owner}
use Rattle.variable_owner.specs.declared.owners.Owner.TheVariants.{Open, Bound}
use Rattle.token_chain.specs.declared.token.Token.{Token}
use Rattle.token_chain.specs.declared.token.Token.TheVariants.{Away, Asked, Here}
use Rattle.token_chain.specs.Mail as token
use Rattle.token_chain.specs.Mail.{sent_as}
use Rattle.token_chain.specs.Rows.{Reply, exchange_reply, get_reply}
use Rattle.site_model.specs.Bundle.{message_bundle, message_vars, with_own_bundle, with_own_bundles}
use Rattle.site_model.specs.Cells.{cell_reply, after_exchange, after_exchange_as, content_after_exchange, serving, leave_row, with_own_request, with_last_asker, with_exchange_waiting, request_row, last_before}
use Rattle.site_model.specs.Messages.{with_thread, bind_pick, bind_request_as, bind_request_row, register_row, message_row, reception}
use Rattle.site_model.specs.Site.{Site, ThreadState, thread_state, cell_record}
use Rattle.site_model.specs.Transition.{Transition, without_output, with_messages, with_pick, with_lines, sequence, and_then}
use Rattle.site_model.specs.Unit.{after_cell, after_effect, birth_row, placement, step_row, with_fresh_names}
use Rattle.site_model.specs.Variables.{with_new_equation, with_known_equation, with_known_equation_as, with_known_equations, own_bind, own_binds, opening}
use Rattle.world_cells.specs.Standing.{IsStanding}

-- ---- what is sent

abbrev pub AreStanding : List Sent → Type 0
AreStanding ms = Each (λ (m : Sent). IsStanding m.msg) ms

pub standing_append : (ms os : List Sent) → AreStanding ms → AreStanding os → AreStanding (ms ++ os)
standing_append [] os h k = k
standing_append (m ∷ ms) os h k = (h.0, standing_append ms os h.1 k)

-- bundles change no kind
filled_standing : (limit : ℕ) (s : Store) (to : ℕ) (x : Msg) → IsStanding x → IsStanding (with_own_bundle limit s (record { to = to; msg = x })).msg
filled_standing limit s to (msg.Spawn n code vars bundle) h = tt
filled_standing limit s to (msg.Register x k) h = tt
filled_standing limit s to (msg.BindReq x n t bundle) h = tt
filled_standing limit s to (msg.Binding x t bundle) h = tt
filled_standing limit s to (msg.Get c k) h = tt
filled_standing limit s to (msg.Forward c k) h = tt
filled_standing limit s to (msg.Put c v bundle) h = tt
filled_standing limit s to (msg.PortSend q n k) h = h
filled_standing limit s to (msg.PortEnd n old new bundle) h = h
filled_standing limit s to (msg.CellMake c v bundle) h = h
filled_standing limit s to (msg.CellAsk c n k v bundle) h = h
filled_standing limit s to (msg.CellOld n v bundle) h = h

pub all_filled : (limit : ℕ) (s : Store) (ms : List Sent) → AreStanding ms → AreStanding (with_own_bundles limit s ms)
all_filled limit s [] h = tt
all_filled limit s (m ∷ ms) h = (filled_standing limit s m.to m.msg h.0, all_filled limit s ms h.1)

meet_standing : (b : Records) (x : VarName) → AreStanding (meet_sends b x)
meet_standing b x = go (is_own b x) (is_some (entry_of b.proxies x))
  where
    go : (o k : Bool) → AreStanding (cond o [] (cond k [] (register x b.site ∷ [])))
    go true k = tt
    go false true = tt
    go false false = (tt, tt)

meets_standing : (b : Records) (xs : List VarName) → AreStanding (meets_send b xs)
meets_standing b [] = tt
meets_standing b (x ∷ xs) = standing_append _ _ (meet_standing b x) (meets_standing (after_meet b x) xs)

bindings_standing : (x : VarName) (t : Term) (ks : List ℕ) → AreStanding (map (λ (k : ℕ). binding x t k) ks)
bindings_standing x t [] = tt
bindings_standing x t (k ∷ ks) = (tt, bindings_standing x t ks)

cells_standing : (c : CellName) (ms : List token.Mail) → AreStanding (map (sent_as c) ms)
cells_standing c [] = tt
cells_standing c (token.Get k ∷ ms) = (tt, cells_standing c ms)
cells_standing c (token.Forward a b ∷ ms) = (tt, cells_standing c ms)
cells_standing c (token.Put a v ∷ ms) = (tt, cells_standing c ms)

-- ---- rows

-- what the site keeps of ports and stationary cells stays, and nothing is sent of them
pub record Beside (s : Site) (d : Transition) : Type 0 where
  pub homes : d.site.homes ≡ s.homes
  pub ports : d.site.ports ≡ s.ports
  pub silent : AreStanding d.sent

pub beside_still : (s t : Site) → t.homes ≡ s.homes → t.ports ≡ s.ports → Beside s (without_output t)
beside_still s t h q = record { homes = h; ports = q; silent = tt }

pub beside_then : (s : Site) (d e : Transition) → Beside s d → Beside d.site e → Beside s (sequence d e)
beside_then s d e a b = record { homes = b.homes ∙ a.homes; ports = b.ports ∙ a.ports; silent = standing_append d.sent e.sent a.silent b.silent }

told_beside : (s : Site) (x : VarName) (t : Term) → Beside s (without_output (with_known_equation s x t))
told_beside s x t = go (is_own s.records x) (knowledge s.records x)
  where
    go : (o : Bool) (k : Option (Option Term)) → Beside s (without_output (with_known_equation_as o k s x t))
    go true k = beside_still s s refl refl
    go false None = beside_still s (with_new_equation s x t) refl refl
    go false (Some None) = beside_still s (with_new_equation s x t) refl refl
    go false (Some (Some r)) = beside_still s s refl refl

told_all_beside : (es : List Equation) (s : Site) → Beside s (without_output (with_known_equations s es))
told_all_beside [] s = beside_still s s refl refl
told_all_beside (e ∷ es) s =
    let one = told_beside s e.0 e.1 in
    let rest = told_all_beside es (with_known_equation s e.0 e.1) in
    beside_still s (with_known_equations (with_known_equation s e.0 e.1) es) (rest.homes ∙ one.homes) (rest.ports ∙ one.ports)

-- a message is opened
pub opens_beside : (m : Msg) (s : Site) → Beside s (opening m s)
opens_beside m s =
    let told = told_all_beside (message_bundle m) s in
    record { homes = told.homes; ports = told.ports; silent = meets_standing (with_known_equations s (message_bundle m)).records (message_vars m) }

bind_beside : (limit : ℕ) (x : VarName) (t : Term) (s : Site) → Beside s (own_bind limit x t s)
bind_beside limit x t s = record { homes = refl; ports = refl; silent = all_filled limit ((x, t) ∷ s.equations) (ask_sends s.records x t) (bindings_standing x t (sites_of (owner_of s.records.owners x))) }

binds_beside : (limit : ℕ) (es : List Equation) (s : Site) → Beside s (own_binds limit es s)
binds_beside limit [] s = beside_still s s refl refl
binds_beside limit (e ∷ es) s = beside_then s (own_binds limit es s) (own_bind limit e.0 e.1 (own_binds limit es s).site) (binds_beside limit es s) (bind_beside limit e.0 e.1 (own_binds limit es s).site)

registers_beside : (limit : ℕ) (x : VarName) (k : ℕ) (s : Site) → Beside s (register_row limit x k s)
registers_beside limit x k s = record { homes = refl; ports = refl; silent = all_filled limit s.equations (register_answer (owner_of s.records.owners x) x k) (go (owner_of s.records.owners x)) }
  where
    go : (o : Option Owner) → AreStanding (register_answer o x k)
    go None = tt
    go (Some (Open ks)) = tt
    go (Some (Bound t)) = (tt, tt)

asked_beside : (limit : ℕ) (x : VarName) (t : Term) (n : ThreadName) (s : Site) → Beside s (bind_request_row limit x t n s)
asked_beside limit x t n s = go (knowledge s.records x)
  where
    go : (k : Option (Option Term)) → Beside s (bind_request_as k limit x t n s)
    go None = beside_still s s refl refl
    go (Some None) = beside_then s (with_pick s (bind_pick n x t)) (own_bind limit x t s) (record { homes = refl; ports = refl; silent = tt }) (bind_beside limit x t s)
    go (Some (Some r)) = beside_still s s refl refl

-- ---- cells

reply_beside : (limit : ℕ) (c : CellName) (queue : List ThreadName) (r : Reply) (s : Site) → Beside s (cell_reply limit c queue r s)
reply_beside limit c queue r s = record { homes = refl; ports = refl; silent = all_filled limit s.equations (map (sent_as c) r.sent) (cells_standing c r.sent) }

pub request_beside : (limit : ℕ) (c : CellName) (new : VarName) (n : ThreadName) (st : Stack) (s : Site) → Beside s (request_row limit c new n st s)
request_beside limit c new n st s =
    let r = reply_beside limit c ((cell_record s c).queue ++ n ∷ []) (exchange_reply c.site (last_before s c) s.records.site new (cell_record s c).held) (with_own_request c (cell_record s c).held.token (with_exchange_waiting c n st s)) in
    let own = go (cell_record s c).held.token in
    record { homes = r.homes ∙ own.homes; ports = r.ports ∙ own.ports; silent = r.silent }
  where
    go : (t : Token) → Beside s (without_output (with_own_request c t (with_exchange_waiting c n st s)))
    go Away = one (c.site == s.records.site)
      where
        one : (b : Bool) → Beside s (without_output (cond b (with_last_asker c s.records.site (with_exchange_waiting c n st s)) (with_exchange_waiting c n st s)))
        one true = beside_still s _ refl refl
        one false = beside_still s _ refl refl
    go Asked = beside_still s _ refl refl
    go (Here v) = beside_still s _ refl refl

exchange_beside : (p : List Stmt) (n : ThreadName) (v : VarName) (s : Site) → Beside s (without_output (after_exchange p n v s))
exchange_beside p n v s = go (thread_state s n)
  where
    go : (o : Option ThreadState) → Beside s (without_output (after_exchange_as p n v s o))
    go None = beside_still s s refl refl
    go (Some st) = beside_still s _ refl refl

pub serving_beside : (p : List Stmt) (c : CellName) (ns : List ThreadName) (v : VarName) (s : Site) → Beside s (serving p c ns v s)
serving_beside p c [] v s = beside_still s _ refl refl
serving_beside p c (n ∷ ns) v s =
    let one = exchange_beside p n v s in
    let rest = serving_beside p c ns (content_after_exchange p n v s) (after_exchange p n v s) in
    record { homes = rest.homes ∙ one.homes; ports = rest.ports ∙ one.ports; silent = rest.silent }

-- every message that is no request and no answer
row_beside : (p : List Stmt) (limit : ℕ) (m : Msg) (s : Site) → IsStanding m → Beside s (message_row p limit m s)
row_beside p limit (msg.Spawn n code vars bundle) s h = beside_still s _ refl refl
row_beside p limit (msg.Register x k) s h = registers_beside limit x k s
row_beside p limit (msg.BindReq x n t bundle) s h = asked_beside limit x t n s
row_beside p limit (msg.Binding x t bundle) s h = told_beside s x t
row_beside p limit (msg.Get c k) s h = let r = reply_beside limit c (cell_record s c).queue (get_reply s.records.site (last_before s c) k (cell_record s c).held) (with_last_asker c k s) in record { homes = r.homes; ports = r.ports; silent = r.silent }
row_beside p limit (msg.Forward c k) s h = reply_beside limit c _ _ s
row_beside p limit (msg.Put c v bundle) s h = beside_then s (serving p c (cell_record s c).queue v s) (leave_row limit c (serving p c (cell_record s c).queue v s).site) (serving_beside p c (cell_record s c).queue v s) (reply_beside limit c _ _ (serving p c (cell_record s c).queue v s).site)
row_beside p limit (msg.PortSend q n k) s h = absurd h
row_beside p limit (msg.PortEnd n old new bundle) s h = absurd h
row_beside p limit (msg.CellMake c v bundle) s h = absurd h
row_beside p limit (msg.CellAsk c n k v bundle) s h = absurd h
row_beside p limit (msg.CellOld n v bundle) s h = absurd h

pub reception_beside : (p : List Stmt) (limit : ℕ) (m : Msg) (s : Site) → IsStanding m → Beside s (reception p limit m s)
reception_beside p limit m s h = beside_then s (opening m s) (message_row p limit m (opening m s).site) (opens_beside m s) (row_beside p limit m (opening m s).site h)

-- ---- steps

birth_beside : (p : List Stmt) (n limit : ℕ) (b : Option Birth) (s : Site) → Beside s (birth_row p n limit b s)
birth_beside p n limit None s = beside_still s s refl refl
birth_beside p n limit (Some b) s = go (placement n s.records.site b.at == s.records.site)
  where
    go : (here : Bool) → Beside s (cond here (without_output (with_thread p (Some b) s)) (with_messages s (with_own_bundle limit s.equations (sent_message (placement n s.records.site b.at) (msg.Spawn b.name b.code b.vars [])) ∷ [])))
    go true = beside_still s _ refl refl
    go false = record { homes = refl; ports = refl; silent = (tt, tt) }

cell_beside : (k : Pick) (e : Effect) (s : Site) → Beside s (without_output (after_effect k.thread e s))
cell_beside k e s = go e.cell
  where
    go : (ch : CellChange) → Beside s (without_output (record (after_effect k.thread e s) { homes = (after_cell ch s).homes; ports = (after_cell ch s).ports }))
    go Stays = beside_still s _ refl refl
    go (Made c v) = beside_still s _ refl refl
    go (Exchanged c new told) = beside_still s _ refl refl

pub step_beside : (p : List Stmt) (n limit : ℕ) (k : Pick) (kinds : List NameKind) (e : Effect) (s : Site) → Beside s (step_row p n limit k kinds e s)
step_beside p n limit k kinds e s =
    beside_then s before_birth _ (beside_then s begun _ (beside_then s (with_pick (with_fresh_names kinds s) k) _ (record { homes = refl; ports = refl; silent = tt }) (binds_beside limit e.adds (with_fresh_names kinds s)))
    (let c = cell_beside k e begun.site in record { homes = c.homes; ports = c.ports; silent = tt })) (birth_beside p n limit e.born before_birth.site)
  where
    begun : Transition
    begun = and_then (with_pick (with_fresh_names kinds s) k) (own_binds limit e.adds)

    before_birth : Transition
    before_birth = and_then begun (λ t. with_lines (option_to_list e.line) (after_effect k.thread e t))
