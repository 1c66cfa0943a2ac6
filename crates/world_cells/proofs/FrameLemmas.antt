-- Rows that have nothing to do with cells: what the site keeps of them stays, and no message of a cell is sent.
use Rattle.std.proofs.Common.{arith, ◌≡◌, ◌∙◌, refl, ℕ, List, [], ◌∷◌, ◌++◌, Bool, true, false, cond, Some, None, map}
use Rattle.std.specs.Prelude.{Option, ◌==◌, is_some}
use Rattle.tree_node.specs.declared.names.VarName.{VarName}
use Rattle.tree_node.specs.declared.names.CellName.{CellName}
use Rattle.tree_node.specs.declared.names.ThreadName.{ThreadName}
use Rattle.tree_node.specs.declared.names.NameKind.{NameKind}
use Rattle.tree_node.specs.declared.node.Term.{Term}
use Rattle.tree_node.specs.declared.pick.Pick.{Pick}
use Rattle.tree_node.specs.Each.{Each}
use Rattle.tree_node.specs.Store.{Store, Equation}
use Rattle.kernel_syntax.specs.declared.stmt.Stmt.{Stmt}
use Rattle.site_message.specs.declared.message.Msg.{Msg}
use Rattle.site_message.specs.declared.message.Msg.TheVariants as msg
use Rattle.site_message.specs.declared.message.Sent.{Sent}
use Rattle.oz_model.specs.Effect.{Birth, vars_among}
use Rattle.variable_owner.specs.declared.owners.Owner.{Owner}
use Rattle.variable_owner.specs.declared.owners.Owner.TheVariants.{Open, Bound}
use Rattle.variable_owner.specs.Owners.{owner_of, sites_of}
use Rattle.proxy_table.specs.Proxies.{entry_of}
use Rattle.bind_protocol.specs.Records.{Records, is_own, knowledge}
use Rattle.bind_protocol.specs.Rows.{after_meet, meet_sends, register, register_answer, binding, meets_send}
use Rattle.token_chain.specs.Mail.{sent_count}
use Rattle.token_chain.specs.Mail as token
use Rattle.site_model.specs.Site.{Site}
use Rattle.site_model.specs.Bundle.{with_own_bundle, with_own_bundles, message_vars, message_bundle}
use Rattle.site_model.specs.Transition.{Transition, without_output, with_messages, with_pick, sequence, and_then}
use Rattle.site_model.specs.Variables.{meeting, with_new_equation, with_known_equation, with_known_equations, own_bind, own_binds, opening}
use Rattle.site_model.specs.Messages.{with_thread, register_row, bind_request_row, bind_pick}
use Rattle.site_model.specs.Unit.{next_names, with_fresh_names, placement, birth_row}
use Rattle.world_cells.specs.CellCounts.{cell_weight, cell_weights}
use Rattle.world_cells.proofs.TallyLemmas.{IsOfNone, none_says, silent_counts, travels_more, travels_none}
use Rattle.site_model.proofs.FrameLemmas.{meets_site, makes_site}

abbrev pub AreOfNone : List Sent → Type 0
AreOfNone ms = Each (λ (m : Sent). IsOfNone m.msg) ms

pub silent_list : (c : CellName) (ms : List Sent) → AreOfNone ms → (m : token.Mail) → sent_count c ms m ≡ 0
silent_list c [] h m = travels_none c m
silent_list c (x ∷ ms) h m =
    let more = travels_more c x ms m in
    let one = silent_counts c x.to x.msg (none_says c x.to x.msg h.0) m in
    let rest = silent_list c ms h.1 m in
    omega arith

-- and they weigh nothing
pub weightless : (c : CellName) (g f u : ℕ) (ms : List Sent) → AreOfNone ms → cell_weights c g f u ms ≡ 0
weightless c g f u [] h = refl
weightless c g f u (m ∷ ms) h =
    let one = nothing_said m.msg h.0 in
    let rest = weightless c g f u ms h.1 in omega arith
  where
    nothing_said : (x : Msg) → IsOfNone x → cell_weight c g f u x ≡ 0
    nothing_said (msg.Spawn n code vars bundle) h = refl
    nothing_said (msg.Register x k) h = refl
    nothing_said (msg.BindReq x n t bundle) h = refl
    nothing_said (msg.Binding x t bundle) h = refl
    nothing_said (msg.Get d k) h = absurd h
    nothing_said (msg.Forward d k) h = absurd h
    nothing_said (msg.Put d v bundle) h = absurd h
    nothing_said (msg.PortSend q n k) h = refl
    nothing_said (msg.PortEnd n old new bundle) h = refl
    nothing_said (msg.CellMake c v bundle) h = refl
    nothing_said (msg.CellAsk c n k v bundle) h = refl
    nothing_said (msg.CellOld n v bundle) h = refl

pub none_append : (ms os : List Sent) → AreOfNone ms → AreOfNone os → AreOfNone (ms ++ os)
none_append [] os h k = k
none_append (m ∷ ms) os h k = (h.0, none_append ms os h.1 k)

-- what the site keeps of cells stays, and it sends nothing of them
pub record NoCells (s : Site) (d : Transition) : Type 0 where
  pub cell_records : d.site.cell_records ≡ s.cell_records
  pub managers : d.site.managers ≡ s.managers
  pub site : d.site.records.site ≡ s.records.site
  pub silent : AreOfNone d.sent

pub stays_still : (s : Site) → NoCells s (without_output s)
stays_still s = record { cell_records = refl; managers = refl; site = refl; silent = tt }

pub none_then : (s : Site) (d e : Transition) → NoCells s d → NoCells d.site e → NoCells s (sequence d e)
none_then s d e a b = record {
  cell_records = b.cell_records ∙ a.cell_records;
  managers = b.managers ∙ a.managers;
  site = b.site ∙ a.site;
  silent = none_append d.sent e.sent a.silent b.silent;
}

-- ---- bundles change no kind

filled_none : (limit : ℕ) (s : Store) (m : Sent) → IsOfNone m.msg → IsOfNone (with_own_bundle limit s m).msg
filled_none limit s m h = go m.msg h
  where
    go : (x : Msg) → IsOfNone x → IsOfNone (with_own_bundle limit s (record { to = m.to; msg = x })).msg
    go (msg.Spawn n code vars bundle) h = tt
    go (msg.Register x k) h = tt
    go (msg.BindReq x n t bundle) h = tt
    go (msg.Binding x t bundle) h = tt
    go (msg.Get c k) h = h
    go (msg.Forward c k) h = h
    go (msg.Put c v bundle) h = h
    go (msg.PortSend q n k) h = tt
    go (msg.PortEnd n old new bundle) h = tt
    go (msg.CellMake c v bundle) h = tt
    go (msg.CellAsk c n k v bundle) h = tt
    go (msg.CellOld n v bundle) h = tt

all_filled_none : (limit : ℕ) (s : Store) (ms : List Sent) → AreOfNone ms → AreOfNone (with_own_bundles limit s ms)
all_filled_none limit s [] h = tt
all_filled_none limit s (m ∷ ms) h = (filled_none limit s m h.0, all_filled_none limit s ms h.1)

-- ---- names are met

meet_none : (b : Records) (x : VarName) → AreOfNone (meet_sends b x)
meet_none b x = go (is_own b x) (is_some (entry_of b.proxies x))
  where
    go : (o k : Bool) → AreOfNone (cond o [] (cond k [] (register x b.site ∷ [])))
    go true k = tt
    go false true = tt
    go false false = (tt, tt)

meets_none : (b : Records) (xs : List VarName) → AreOfNone (meets_send b xs)
meets_none b [] = tt
meets_none b (x ∷ xs) = none_append _ _ (meet_none b x) (meets_none (after_meet b x) xs)

pub meets_nothing : (xs : List VarName) (s : Site) → NoCells s (meeting xs s)
meets_nothing xs s = record { cell_records = refl; managers = refl; site = meets_site s.records xs; silent = meets_none s.records xs }

-- ---- equations are told

pub record KeepsCells (s t : Site) : Type 0 where
  pub cell_records : t.cell_records ≡ s.cell_records
  pub managers : t.managers ≡ s.managers
  pub site : t.records.site ≡ s.records.site

told_keeps : (s : Site) (x : VarName) (t : Term) → KeepsCells s (with_known_equation s x t)
told_keeps s x t = go (is_own s.records x) (entry_of s.records.proxies x) refl refl
  where
    same : KeepsCells s s
    same = record { cell_records = refl; managers = refl; site = refl }

    new : KeepsCells s (with_new_equation s x t)
    new = record { cell_records = refl; managers = refl; site = refl }

    go : (o : Bool) (k : Option (Option Term)) → is_own s.records x ≡ o → entry_of s.records.proxies x ≡ k → KeepsCells s (with_known_equation s x t)
    go true k e f = rw e same
    go false None e f = rw (e, f) new
    go false (Some None) e f = rw (e, f) new
    go false (Some (Some r)) e f = rw (e, f) same

pub told_all_keeps : (s : Site) (es : List Equation) → KeepsCells s (with_known_equations s es)
told_all_keeps s [] = record { cell_records = refl; managers = refl; site = refl }
told_all_keeps s (e ∷ es) =
    let one = told_keeps s e.0 e.1 in
    let rest = told_all_keeps (with_known_equation s e.0 e.1) es in
    record { cell_records = rest.cell_records ∙ one.cell_records; managers = rest.managers ∙ one.managers; site = rest.site ∙ one.site }

pub told_nothing : (s : Site) (x : VarName) (t : Term) → NoCells s (without_output (with_known_equation s x t))
told_nothing s x t = let k = told_keeps s x t in record { cell_records = k.cell_records; managers = k.managers; site = k.site; silent = tt }

-- the first part of each message
pub opens_nothing : (m : Msg) (s : Site) → NoCells s (opening m s)
opens_nothing m s =
    let k = told_all_keeps s (message_bundle m) in
    let o = meets_nothing (message_vars m) (with_known_equations s (message_bundle m)) in
    record { cell_records = o.cell_records ∙ k.cell_records; managers = o.managers ∙ k.managers; site = o.site ∙ k.site; silent = o.silent }

-- ---- variables are bound

bindings_none : (x : VarName) (t : Term) (ks : List ℕ) → AreOfNone (map (λ (k : ℕ). binding x t k) ks)
bindings_none x t [] = tt
bindings_none x t (k ∷ ks) = (tt, bindings_none x t ks)

pub binds_nothing : (limit : ℕ) (x : VarName) (t : Term) (s : Site) → NoCells s (own_bind limit x t s)
binds_nothing limit x t s = record {
  cell_records = refl;
  managers = refl;
  site = refl;
  silent = all_filled_none limit ((x, t) ∷ s.equations) _ (bindings_none x t (sites_of (owner_of s.records.owners x)));
}

pub binds_each_nothing : (limit : ℕ) (es : List Equation) (s : Site) → NoCells s (own_binds limit es s)
binds_each_nothing limit [] s = stays_still s
binds_each_nothing limit (e ∷ es) s = none_then s _ _ (binds_each_nothing limit es s) (binds_nothing limit e.0 e.1 (own_binds limit es s).site)

pub registers_nothing : (limit : ℕ) (x : VarName) (k : ℕ) (s : Site) → NoCells s (register_row limit x k s)
registers_nothing limit x k s = record { cell_records = refl; managers = refl; site = refl; silent = all_filled_none limit s.equations _ (go (owner_of s.records.owners x)) }
  where
    go : (o : Option Owner) → AreOfNone (register_answer o x k)
    go None = tt
    go (Some (Open ks)) = tt
    go (Some (Bound t)) = (tt, tt)

pub asked_for_nothing : (limit : ℕ) (x : VarName) (t : Term) (n : ThreadName) (s : Site) → NoCells s (bind_request_row limit x t n s)
asked_for_nothing limit x t n s = go (knowledge s.records x) refl
  where
    taken : NoCells s (and_then (with_pick s (bind_pick n x t)) (own_bind limit x t))
    taken = none_then s (with_pick s (bind_pick n x t)) _ (record { cell_records = refl; managers = refl; site = refl; silent = tt }) (binds_nothing limit x t s)

    go : (k : Option (Option Term)) → knowledge s.records x ≡ k → NoCells s (bind_request_row limit x t n s)
    go None e = rw e (stays_still s)
    go (Some None) e = rw e taken
    go (Some (Some r)) e = rw e (stays_still s)

-- ---- steps

pub bears_nothing : (p : List Stmt) (n limit : ℕ) (b : Option Birth) (s : Site) → NoCells s (birth_row p n limit b s)
bears_nothing p n limit None s = stays_still s
bears_nothing p n limit (Some b) s = go (placement n s.records.site b.at == s.records.site)
  where
    go : (here : Bool) → NoCells s (cond here (without_output (with_thread p (Some b) s)) (with_messages s (with_own_bundle limit s.equations (record { to = placement n s.records.site b.at; msg = msg.Spawn b.name b.code b.vars [] }) ∷ [])))
    go true = record { cell_records = refl; managers = refl; site = refl; silent = tt }
    go false = record { cell_records = refl; managers = refl; site = refl; silent = (tt, tt) }

-- the first half of a step: names are made and variables bound
pub begins_nothing : (limit : ℕ) (k : Pick) (kinds : List NameKind) (adds : List Equation) (s : Site) → NoCells s (and_then (with_pick (with_fresh_names kinds s) k) (own_binds limit adds))
begins_nothing limit k kinds adds s = none_then s (with_pick (with_fresh_names kinds s) k) _ (makes_keeps kinds s k) (binds_each_nothing limit adds (with_fresh_names kinds s))
  where
    makes_keeps : (kinds : List NameKind) (s : Site) (k : Pick) → NoCells s (with_pick (with_fresh_names kinds s) k)
    makes_keeps kinds s k = record { cell_records = refl; managers = refl; site = makes_site s.records (vars_among (next_names s.records.site s.counters kinds)); silent = tt }
