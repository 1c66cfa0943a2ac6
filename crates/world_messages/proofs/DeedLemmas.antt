-- What each row of a turn does to the counts of messages on variables.
use Rattle.std.proofs.Common.{◌≡◌, ◌∙◌, sym, ap, refl, subst, ℕ, List, [], ◌∷◌, ◌++◌, inl, inr, Bool, true, false, cond, Some, None}
use Rattle.std.specs.Prelude.{Option, ◌==◌, ◌&&◌, option_to_list}
use Rattle.tree_node.specs.declared.names.VarName.{VarName}
use Rattle.tree_node.specs.declared.names.CellName.{CellName}
use Rattle.tree_node.specs.declared.names.PortName.{PortName}
use Rattle.tree_node.specs.declared.names.ThreadName.{ThreadName}
use Rattle.tree_node.specs.declared.names.CodeId.{CodeId}
use Rattle.tree_node.specs.declared.names.Name.{Name}
use Rattle.tree_node.specs.declared.names.NameKind.{NameKind}
use Rattle.tree_node.specs.declared.node.Term.{Term}
use Rattle.tree_node.specs.declared.pick.Pick.{Pick}
use Rattle.tree_node.specs.Each.{Each}
use Rattle.tree_node.specs.State.{Stack}
use Rattle.tree_node.specs.Store.{Store, Equation}
use Rattle.tree_node.proofs.ClassLemmas.{same_name_refl}
use Rattle.kernel_syntax.specs.declared.stmt.Stmt.{Stmt}
use Rattle.site_message.specs.declared.message.Msg.{Msg}
use Rattle.site_message.specs.declared.message.Msg.TheVariants as msg
use Rattle.site_message.specs.declared.message.Sent.{Sent}
use Rattle.oz_model.specs.Need.{Need, Waits, WaitsAny, Binds, Takes, stack_need}
use Rattle.oz_model.specs.Effect.{Birth, Effect, vars_among}
use Rattle.bind_protocol.specs.Records.{Records, is_own, knowledge}
use Rattle.bind_protocol.specs.Rows.{sent_message, request, after_make, after_meet, meet_sends, after_ask, ask_sends, after_meets, meets_send}
use Rattle.bind_protocol.proofs.ListLemmas.{one}
use Rattle.site_model.specs.Requests.{Answer, NewEnd, OldContent, answer_row, next_var, port_send_row, cell_ask_row, serve_request, serve_early}
use Rattle.site_model.specs.Site.{Site, ThreadState, EarlyRequest, thread_state, cell_record, home_record}
use Rattle.site_model.specs.Bundle.{with_own_bundle, message_bundle, message_vars}
use Rattle.site_model.specs.Transition.{Transition, without_output, with_messages}
use Rattle.site_model.specs.Variables.{after_makes, with_new_equation, with_known_equation, with_known_equations, own_bind, own_binds, opening}
use Rattle.site_model.specs.Cells.{leave_row, forward_row, get_row, serving, put_row, request_row, after_exchange, content_after_exchange}
use Rattle.token_chain.specs.Mail as token
use Rattle.world_model.proofs.CellLemmas.{letters, request_only}
use Rattle.site_model.specs.Messages.{with_thread, bind_request_row, message_row, reception}
use Rattle.site_model.specs.Unit.{next_names, with_fresh_names, birth_row, placement, step_row, after_effect, thread_step, kept_step, kept_step_row, kept_stack, with_stack, fresh_names, effect_here, step_pick, bind_attempt, IsUnitFor, IsUnit}
use Rattle.site_model.specs.Fit.{IsFit}
use Rattle.site_model.specs.Turn.{IsReception, AreUnits, SiteTurn}
use Rattle.world_model.proofs.PutLemmas.{nat_decides}
use Rattle.bind_protocol.specs.Count.{IsNeither, KeepsCounts}
use Rattle.bind_protocol.proofs.RowCountLemmas.{others_count, unused_counts, make_counts, ask_counts, register_counts, meet_counts, binding_counts}
use Rattle.bind_protocol.proofs.GoOnLemmas.{counts_join}
use Rattle.world_messages.proofs.BundleCounts.{counts_filled}
use Rattle.world_messages.proofs.AddsLemmas.{effect_lefts, fresh_own}
use Rattle.world_messages.proofs.HomeRowLemmas.{Rest, kept_before, kept_apart, kept_site, tell_each, answer_rest, serve_rest, serve_each, early_rest, early_each}
use Rattle.world_messages.proofs.WayLemmas.{Way, Steps, Opens, Sends, Makes, Exchanges, AsksToken, AsksPort, AsksHome, WaitsEarly, WaitsPort, way_of}
use Rattle.site_model.proofs.FrameLemmas.{cell_keeps_records}

-- the counts go on
pub record Tallies (b c : Records) (hand out : List Sent) : Type 0 where
  pub counts : KeepsCounts b c hand out

pub tallies_on : (b c d : Records) (h g o u : List Sent) → Tallies b c h o → Tallies c d g u → Tallies b d (h ++ g) (o ++ u)
tallies_on b c d h g o u k l = record {
  counts = counts_join.counts b c d h g o u k.counts l.counts;
}

no_more : (ms : List Sent) → ms ++ [] ≡ ms
no_more [] = refl
no_more (m ∷ ms) = ap (λ (ns : List Sent). m ∷ ns) (no_more ms)

-- and then something with nothing in hand
pub tallies_then : (b c d : Records) (h o u : List Sent) → Tallies b c h o → Tallies c d [] u → Tallies b d h (o ++ u)
tallies_then b c d h o u k l = subst (λ (ms : List Sent). Tallies b d ms (o ++ u)) (no_more h) (tallies_on b c d h [] o u k l)

pub quiet : (b : Records) (out : List Sent) → Each IsNeither out → Tallies b b [] out
quiet b out h = record { counts = others_count b out h }

pub unused : (b c : Records) (m : Sent) (o : List Sent) → Tallies b c [] o → Tallies b c (m ∷ []) o
unused b c m o k = record { counts = unused_counts b c [] (m ∷ []) o k.counts }

-- the deed counts
abbrev pub Counts : Site → List Sent → Transition → Type 0
Counts s hand d = Tallies s.records d.site.records hand d.sent

-- ---- names and equations

pub meets_tally : (xs : List VarName) (b : Records) → Tallies b (after_meets b xs) [] (meets_send b xs)
meets_tally [] b = quiet b [] tt
meets_tally (x ∷ xs) b = tallies_on b (after_meet b x) (after_meets (after_meet b x) xs) [] [] (meet_sends b x) (meets_send (after_meet b x) xs)
    (record { counts = meet_counts b x }) (meets_tally xs (after_meet b x))

makes_tally : (xs : List VarName) (b : Records) → Tallies b (after_makes b xs) [] []
makes_tally [] b = quiet b [] tt
makes_tally (x ∷ xs) b = tallies_on b (after_make b x) (after_makes (after_make b x) xs) [] [] [] []
    (record { counts = make_counts b x }) (makes_tally xs (after_make b x))

-- a site is told of a variable, by what is in hand or by a bundle
told_counts : (s : Site) (x : VarName) (t : Term) → KeepsCounts s.records (with_known_equation s x t).records [] []
told_counts s x t = go (is_own s.records x) refl (knowledge s.records x) refl
  where
    other : is_own s.records x ≡ false → KeepsCounts s.records (with_new_equation s x t).records [] []
    other q = binding_counts s.records x t (λ (e : x.site ≡ s.records.site). let yes : is_own s.records x ≡ true = (nat_decides x.site s.records.site).1 e in cc)

    go : (c : Bool) → is_own s.records x ≡ c → (o : Option (Option Term)) → knowledge s.records x ≡ o → KeepsCounts s.records (with_known_equation s x t).records [] []
    go true q o k = rw q (others_count s.records [] tt)
    go false q None k = rw (k, q) (other q)
    go false q (Some None) k = rw (k, q) (other q)
    go false q (Some (Some r)) k = rw (k, q) (others_count s.records [] tt)

told_all_counts : (es : List Equation) (s : Site) → KeepsCounts s.records (with_known_equations s es).records [] []
told_all_counts [] s = others_count s.records [] tt
told_all_counts (e ∷ es) s = counts_join.counts s.records (with_known_equation s e.0 e.1).records (with_known_equations (with_known_equation s e.0 e.1) es).records [] [] [] [] (told_counts s e.0 e.1) (told_all_counts es (with_known_equation s e.0 e.1))

-- a message is opened while it is still in hand
pub opens_counts : (m : Msg) (s : Site) → KeepsCounts s.records (opening m s).site.records [] (opening m s).sent
opens_counts m s = counts_join.counts s.records (with_known_equations s (message_bundle m)).records _ [] [] [] _ (told_all_counts (message_bundle m) s) (meets_tally (message_vars m) (with_known_equations s (message_bundle m)).records).counts

-- ---- binds

binds_tally : (limit : ℕ) (x : VarName) (t : Term) (s : Site) → x.site ≡ s.records.site → Counts s [] (own_bind limit x t s)
binds_tally limit x t s own = record {
  counts = counts_filled limit ((x, t) ∷ s.equations) s.records (after_ask s.records x t) [] (ask_sends s.records x t) (ask_counts s.records x t own);
}

binds_each_tally : (limit : ℕ) (es : List Equation) (s : Site) (i : ℕ) → s.records.site ≡ i → Each (λ (e : Equation). e.0.site ≡ i) es → Counts s [] (own_binds limit es s)
binds_each_tally limit [] s i e h = quiet s.records [] tt
binds_each_tally limit (q ∷ es) s i e h =
    let ih : Counts s [] (own_binds limit es s) = binds_each_tally limit es s i e h.1 in
    let here : (own_binds limit es s).site.records.site ≡ s.records.site = ih.counts.site in
    tallies_on s.records (own_binds limit es s).site.records _ [] [] (own_binds limit es s).sent _ ih (binds_tally limit q.0 q.1 (own_binds limit es s).site (h.0 ∙ sym e ∙ sym here))

-- ---- messages of other kinds

pub spawn_neither : (limit : ℕ) (s : Store) (to : ℕ) (n : ThreadName) (code : CodeId) (vars : List VarName) (es : List Equation) → IsNeither (with_own_bundle limit s (sent_message to (msg.Spawn n code vars es)))
spawn_neither limit s to n code vars es i x = (refl, refl)

pub request_neither : (limit : ℕ) (s : Store) (x : VarName) (t : Term) (n : ThreadName) → IsNeither (with_own_bundle limit s (request x t n))
request_neither limit s x t n i y = (refl, refl)

pub get_neither : (to : ℕ) (c : CellName) (k : ℕ) → IsNeither (sent_message to (msg.Get c k))
get_neither to c k i x = (refl, refl)

pub forward_neither : (to : ℕ) (c : CellName) (k : ℕ) → IsNeither (sent_message to (msg.Forward c k))
forward_neither to c k i x = (refl, refl)

pub put_neither : (limit : ℕ) (s : Store) (to : ℕ) (c : CellName) (v : VarName) (es : List Equation) → IsNeither (with_own_bundle limit s (sent_message to (msg.Put c v es)))
put_neither limit s to c v es i x = (refl, refl)

-- ---- cells

letters_neither : (limit : ℕ) (c : CellName) (s : Store) (ms : List token.Mail) → Each IsNeither (letters limit c s ms)
letters_neither limit c s [] = tt
letters_neither limit c s (token.Get k ∷ ms) = (get_neither c.site c k, letters_neither limit c s ms)
letters_neither limit c s (token.Forward to k ∷ ms) = (forward_neither to c k, letters_neither limit c s ms)
letters_neither limit c s (token.Put to v ∷ ms) = (put_neither limit s to c v [], letters_neither limit c s ms)

leave_tally : (limit : ℕ) (c : CellName) (s : Site) → Counts s [] (leave_row limit c s)
leave_tally limit c s = quiet s.records _ (letters_neither limit c s.equations _)

forward_tally : (limit : ℕ) (c : CellName) (k : ℕ) (s : Site) → Counts s [] (forward_row limit c k s)
forward_tally limit c k s = quiet s.records _ (letters_neither limit c s.equations _)

get_tally : (limit : ℕ) (c : CellName) (k : ℕ) (s : Site) → Counts s [] (get_row limit c k s)
get_tally limit c k s = quiet s.records _ (letters_neither limit c s.equations _)

exchanges_records : (p : List Stmt) (c : CellName) (n : ThreadName) (v : VarName) (s : Site) → (after_exchange p n v s).records ≡ s.records
exchanges_records p c n v s = go (thread_state s n) refl
  where
    go : (o : Option ThreadState) → thread_state s n ≡ o → (after_exchange p n v s).records ≡ s.records
    go None q = rw q refl
    go (Some st) q = rw q refl

serves_tally : (p : List Stmt) (c : CellName) (ns : List ThreadName) (v : VarName) (s : Site) → Counts s [] (serving p c ns v s)
serves_tally p c [] v s = quiet s.records [] tt
serves_tally p c (n ∷ ns) v s =
    subst (λ (b : Records). Tallies b (serving p c (n ∷ ns) v s).site.records [] (serving p c (n ∷ ns) v s).sent) (exchanges_records p c n v s)
    (serves_tally p c ns (content_after_exchange p n v s) (after_exchange p n v s))

put_tally : (p : List Stmt) (limit : ℕ) (c : CellName) (v : VarName) (s : Site) → Counts s [] (put_row p limit c v s)
put_tally p limit c v s = tallies_on s.records _ _ [] [] _ _ (serves_tally p c (cell_record s c).queue v s) (leave_tally limit c (serving p c (cell_record s c).queue v s).site)

asks_tally : (limit : ℕ) (c : CellName) (new : VarName) (th : ThreadName) (st : Stack) (s : Site) → Counts s [] (request_row limit c new th st s)
asks_tally limit c new th st s =
    subst (λ (b : Records). Tallies s.records b [] (request_row limit c new th st s).sent) (sym (request_only limit c new th st s).records)
    (quiet s.records _ (letters_neither limit c (request_row limit c new th st s).site.equations _))

-- ---- units

bears_tally : (p : List Stmt) (n limit : ℕ) (b : Option Birth) (s : Site) → Counts s [] (birth_row p n limit b s)
bears_tally p n limit None s = quiet s.records [] tt
bears_tally p n limit (Some b) s = go (placement n s.records.site b.at == s.records.site)
  where
    go : (c : Bool) → Counts s [] (cond c (without_output (with_thread p (Some b) s)) (with_messages s (with_own_bundle limit s.equations (sent_message (placement n s.records.site b.at) (msg.Spawn b.name b.code b.vars [])) ∷ [])))
    go true = quiet s.records [] tt
    go false = quiet s.records _ (spawn_neither limit s.equations (placement n s.records.site b.at) b.name b.code b.vars [], tt)

steps_tally : (p : List Stmt) (n limit : ℕ) (k : Pick) (kinds : List NameKind) (e : Effect) (s : Site) → Each (λ (q : Equation). q.0.site ≡ s.records.site) e.adds → Counts s [] (step_row p n limit k kinds e s)
steps_tally p n limit k kinds e s own =
    tallies_on s.records on.records _ [] [] _ _ (subst (λ (b : Records). Tallies s.records b [] ((bound_all.sent ++ []))) (sym (cell_keeps_records e.cell bound_all.site)) three) (bears_tally p n limit e.born on)
  where
    made : Tallies s.records (with_fresh_names kinds s).records [] []
    made = makes_tally (vars_among (next_names s.records.site s.counters kinds)) s.records

    bound_all : Transition
    bound_all = own_binds limit e.adds (with_fresh_names kinds s)

    on : Site
    on = after_effect k.thread e bound_all.site

    two : Tallies s.records bound_all.site.records [] bound_all.sent
    two = tallies_on s.records (with_fresh_names kinds s).records _ [] [] [] bound_all.sent made (binds_each_tally limit e.adds (with_fresh_names kinds s) s.records.site made.counts.site own)

    three : Tallies s.records bound_all.site.records [] (bound_all.sent ++ [])
    three = subst (λ (ms : List Sent). Tallies s.records bound_all.site.records [] ms) (sym (no_more bound_all.sent)) two

step_with_tally : (p : List Stmt) (n limit : ℕ) (th : ThreadName) (st : Stack) (kinds : List NameKind) (fresh : List Name) (bind : Option Equation) (s : Site) →
    Each (λ (x : VarName). x.site ≡ s.records.site) (vars_among fresh) → Each (λ (q : Equation). q.0.site ≡ s.records.site) (option_to_list bind) → Counts s [] (thread_step p n limit th st kinds fresh bind s)
step_with_tally p n limit th st kinds fresh bind s new own =
    steps_tally p n limit (step_pick th fresh bind) kinds (effect_here p s fresh bind st) s (effect_lefts (λ (x : VarName). x.site ≡ s.records.site) p s.equations fresh bind st new own)

bind_tally : (p : List Stmt) (n limit : ℕ) (th : ThreadName) (st : Stack) (u : VarName) (t : Term) (s : Site) → Counts s [] (bind_attempt p n limit th st u t (u.site == s.records.site) s)
bind_tally p n limit th st u t s = go (u.site == s.records.site) refl
  where
    go : (b : Bool) → (u.site == s.records.site) ≡ b → Counts s [] (bind_attempt p n limit th st u t b s)
    go true q = step_with_tally p n limit th st [] [] (Some (u, t)) s tt ((nat_decides u.site s.records.site).0 q, tt)
    go false q = quiet s.records _ (request_neither limit s.equations u t th, tt)

-- what a step on a port or on a stationary cell makes is counted, and it sends nothing on variables
kept_tally : (limit : ℕ) (k : Pick) (kinds : List NameKind) (e : Effect) (s : Site) → Counts s [] (kept_step_row limit k kinds e s)
kept_tally limit k kinds e s =
    subst (λ (b : Records). Tallies s.records b [] (kept_step_row limit k kinds e s).sent) (sym (ap (λ (t : Site). t.records) (kept_site limit k kinds e s) ∙ (kept_apart kinds e s).rest.records))
    (tallies_on s.records (with_fresh_names kinds s).records (with_fresh_names kinds s).records [] [] [] _ (makes_tally (vars_among (next_names s.records.site s.counters kinds)) s.records)
    (quiet (with_fresh_names kinds s).records _ (tell_each IsNeither limit e.cell (with_stack k.thread (kept_stack s e) (kept_before kinds e s)) (λ b v is other i x. (refl, refl)))))

way_tally : (limit : ℕ) (th : ThreadName) (st : Stack) (s : Site) (step kept : Transition) (e : Effect) (d : Transition) → Counts s [] step → Counts s [] kept → Way limit th st s step kept e d → Counts s [] d
way_tally limit th st s step kept e d k g (Steps finds same) = subst (λ (t : Transition). Counts s [] t) (sym same) k
way_tally limit th st s step kept e d k g (Opens q end is same) = subst (λ (t : Transition). Counts s [] t) (sym same) g
way_tally limit th st s step kept e d k g (Sends q value new end is has same) = subst (λ (t : Transition). Counts s [] t) (sym same) g
way_tally limit th st s step kept e d k g (Makes c v keeps is same) = subst (λ (t : Transition). Counts s [] t) (sym same) g
way_tally limit th st s step kept e d k g (Exchanges c new told v keeps is has same) = subst (λ (t : Transition). Counts s [] t) (sym same) g
way_tally limit th st s step kept e d k g (AsksToken c new none same) = subst (λ (t : Transition). Counts s [] t) (sym same) (asks_tally limit c new th st s)
way_tally limit th st s step kept e d k g (AsksPort q other same) = subst (λ (t : Transition). Counts s [] t) (sym same) (quiet s.records _ (λ i x. (refl, refl), tt))
way_tally limit th st s step kept e d k g (AsksHome c new told is other same) = subst (λ (t : Transition). Counts s [] t) (sym same) (quiet s.records _ (λ i x. (refl, refl), tt))
way_tally limit th st s step kept e d k g (WaitsEarly c new told is same) = subst (λ (t : Transition). Counts s [] t) (sym same) (quiet s.records [] tt)
way_tally limit th st s step kept e d k g (WaitsPort q same) = subst (λ (t : Transition). Counts s [] t) (sym same) (quiet s.records [] tt)

need_tally : (p : List Stmt) (n limit : ℕ) (s : Site) (th : ThreadName) (st : Stack) (need : Need) (d : Transition) → IsUnitFor p n limit s th st need d → Counts s [] d
need_tally p n limit s th st (Waits x) d h = subst (λ (e : Transition). Counts s [] e) (sym h.2) (quiet s.records [] tt)
need_tally p n limit s th st (WaitsAny q) d h = subst (λ (e : Transition). Counts s [] e) (sym h.2) (quiet s.records [] tt)
need_tally p n limit s th st (Binds a b) d h = subst (λ (e : Transition). Counts s [] e) (sym h.3) (bind_tally p n limit th st h.0 h.1 s)
need_tally p n limit s th st (Takes kinds) d h =
    way_tally limit th st s (thread_step p n limit th st kinds (fresh_names s kinds) None s) (kept_step p limit th st kinds (fresh_names s kinds) s) (effect_here p s (fresh_names s kinds) None st) d
    (step_with_tally p n limit th st kinds (fresh_names s kinds) None s (fresh_own s.records.site s.counters kinds) tt)
    (kept_tally limit (step_pick th (fresh_names s kinds) None) kinds (effect_here p s (fresh_names s kinds) None st) s)
    (way_of limit th st s (thread_step p n limit th st kinds (fresh_names s kinds) None s) (kept_step p limit th st kinds (fresh_names s kinds) s) (effect_here p s (fresh_names s kinds) None st) d h)

pub unit_tally : (p : List Stmt) (n limit : ℕ) (th : ThreadName) (s : Site) (d : Transition) → IsUnit p n limit th s d → Counts s [] d
unit_tally p n limit th s d h = need_tally p n limit s th h.0 (stack_need p s.equations h.0) d h.2

pub units_tally : (p : List Stmt) (n limit : ℕ) (ths : List ThreadName) (s : Site) (d : Transition) → AreUnits p n limit ths s d → Counts s [] d
units_tally p n limit [] s d h = subst (λ (e : Transition). Counts s [] e) (sym h) (quiet s.records [] tt)
units_tally p n limit (th ∷ ths) s d (one, rest, unit, units, is) =
    subst (λ (e : Transition). Counts s [] e) (sym is)
    (tallies_on s.records one.site.records rest.site.records [] [] one.sent rest.sent (unit_tally p n limit th s one unit) (units_tally p n limit ths one.site rest units))

-- ---- messages

asked_tally : (limit : ℕ) (x : VarName) (t : Term) (n : ThreadName) (s : Site) → x.site ≡ s.records.site → Counts s [] (bind_request_row limit x t n s)
asked_tally limit x t n s own = go (knowledge s.records x) refl
  where
    go : (o : Option (Option Term)) → knowledge s.records x ≡ o → Counts s [] (bind_request_row limit x t n s)
    go None q = rw q (quiet s.records [] tt)
    go (Some None) q = rw q (binds_tally limit x t s own)
    go (Some (Some r)) q = rw q (quiet s.records [] tt)

rest_tally : (s : Site) (d : Transition) → Rest s d.site → Each IsNeither d.sent → Counts s [] d
rest_tally s d h g = subst (λ (b : Records). Tallies s.records b [] d.sent) (sym h.records) (quiet s.records d.sent g)

sent_tally : (limit : ℕ) (q : PortName) (th : ThreadName) (k : ℕ) (s : Site) → Counts s [] (port_send_row limit q th k s)
sent_tally limit q th k s = tallies_on s.records (after_makes s.records (next_var s ∷ [])) (after_makes s.records (next_var s ∷ [])) [] [] [] _ (makes_tally (next_var s ∷ []) s.records) (quiet (after_makes s.records (next_var s ∷ [])) _ (λ i x. (refl, refl), tt))

answer_tally : (p : List Stmt) (th : ThreadName) (a : Answer) (s : Site) → Counts s [] (answer_row p th a s)
answer_tally p th a s = rest_tally s (answer_row p th a s) (answer_rest p th a s) tt

early_tally : (p : List Stmt) (limit : ℕ) (c : CellName) (rs : List EarlyRequest) (v : VarName) (s : Site) → Counts s [] (serve_early p limit c v rs s)
early_tally p limit c rs v s = rest_tally s (serve_early p limit c v rs s) (early_rest p limit c rs v s) (early_each p limit c IsNeither rs v s (λ e to n u i x. (refl, refl)))

ask_tally : (p : List Stmt) (limit : ℕ) (c : CellName) (r : EarlyRequest) (s : Site) → Counts s [] (cell_ask_row p limit c r s)
ask_tally p limit c r s = go (home_record s c).content refl
  where
    go : (o : Option VarName) → (home_record s c).content ≡ o → Counts s [] (cell_ask_row p limit c r s)
    go None q = rw q (quiet s.records [] tt)
    go (Some v) q = rw q (rest_tally s (serve_request p limit c r v s) (serve_rest p limit c r v s) (serve_each p limit c IsNeither r v s (λ e to n u i x. (refl, refl))))

-- what is in hand, at the site
abbrev pub in_hand : Site → Msg → Sent
in_hand s m = sent_message s.records.site m

-- the variables of the message are owned where they have to be
abbrev IsPlaced : Site → Msg → Type 0
IsPlaced s (msg.Register x k) = x.site ≡ s.records.site
IsPlaced s (msg.BindReq x n t bundle) = x.site ≡ s.records.site
IsPlaced s m = Unit {0}

takes_tally : (p : List Stmt) (limit : ℕ) (m : Msg) (s : Site) → IsPlaced s m → Counts s (in_hand s m ∷ []) (message_row p limit m s)
takes_tally p limit (msg.Spawn n code vars bundle) s h = unused s.records s.records _ [] (quiet s.records [] tt)
takes_tally p limit (msg.Register x k) s h = record {
  counts = counts_filled limit s.equations s.records _ _ _ (register_counts s.records x k (in_hand s (msg.Register x k)) h (λ i. ap (λ (c : Bool). c && (i == k)) (same_name_refl x)));
}
takes_tally p limit (msg.BindReq x n t bundle) s h = unused s.records _ _ _ (asked_tally limit x t n s h)
takes_tally p limit (msg.Binding x t bundle) s h = record {
  counts = unused_counts s.records _ [] _ [] (told_counts s x t);
}
takes_tally p limit (msg.Get c k) s h = unused s.records _ _ _ (get_tally limit c k s)
takes_tally p limit (msg.Forward c k) s h = unused s.records _ _ _ (forward_tally limit c k s)
takes_tally p limit (msg.Put c v bundle) s h = unused s.records _ _ _ (put_tally p limit c v s)
takes_tally p limit (msg.PortSend q th k) s h = unused s.records _ _ _ (sent_tally limit q th k s)
takes_tally p limit (msg.PortEnd th old new bundle) s h = unused s.records _ _ _ (answer_tally p th (NewEnd old new) s)
takes_tally p limit (msg.CellMake c v bundle) s h = unused s.records _ _ _ (early_tally p limit c (home_record s c).early v s)
takes_tally p limit (msg.CellAsk c th k v bundle) s h = unused s.records _ _ _ (ask_tally p limit c (record { thread = th; asking = k; new = v }) s)
takes_tally p limit (msg.CellOld th v bundle) s h = unused s.records _ _ _ (answer_tally p th (OldContent v) s)

placed : (p : List Stmt) (n : ℕ) (s t : Site) (m : Msg) → t.records.site ≡ s.records.site → IsFit p n s m → IsPlaced t m
placed p n s t (msg.Register x k) e fit = fit.takes.0 ∙ sym e
placed p n s t (msg.BindReq x th r bundle) e fit = fit.takes.1.0 ∙ sym e
placed p n s t (msg.Spawn a b c d) e fit = tt
placed p n s t (msg.Binding a b c) e fit = tt
placed p n s t (msg.Get a b) e fit = tt
placed p n s t (msg.Forward a b) e fit = tt
placed p n s t (msg.Put a b c) e fit = tt
placed p n s t (msg.PortSend a b c) e fit = tt
placed p n s t (msg.PortEnd a b c d) e fit = tt
placed p n s t (msg.CellMake a b c) e fit = tt
placed p n s t (msg.CellAsk a b c d f) e fit = tt
placed p n s t (msg.CellOld a b c) e fit = tt

pub receives_tally : (p : List Stmt) (n limit : ℕ) (m : Msg) (s : Site) → IsFit p n s m → Counts s (in_hand s m ∷ []) (reception p limit m s)
receives_tally p n limit m s fit = record {
  counts = counts_join.counts s.records begun.site.records _ [] (in_hand s m ∷ []) begun.sent _ (opens_counts m s) next.counts;
}
  where
    begun : Transition
    begun = opening m s

    site : begun.site.records.site ≡ s.records.site
    site = (opens_counts m s).site

    next : Tallies begun.site.records (message_row p limit m begun.site).site.records (in_hand s m ∷ []) (message_row p limit m begun.site).sent
    next = subst (λ (i : ℕ). Tallies begun.site.records (message_row p limit m begun.site).site.records (sent_message i m ∷ []) (message_row p limit m begun.site).sent) site
        (takes_tally p limit m begun.site (placed p n s begun.site m site fit))

-- ---- turns

abbrev pub heard_in : Site → Option Msg → List Sent
heard_in s None = []
heard_in s (Some m) = in_hand s m ∷ []

heard_tally : (p : List Stmt) (n limit : ℕ) (m : Option Msg) (s : Site) (d : Transition) → IsReception p n limit m s d → Counts s (heard_in s m) d
heard_tally p n limit None s d h = subst (λ (e : Transition). Counts s [] e) (sym h) (quiet s.records [] tt)
heard_tally p n limit (Some m) s d (inl h) = subst (λ (e : Transition). Counts s (in_hand s m ∷ []) e) (sym h.1) (receives_tally p n limit m s h.0)
heard_tally p n limit (Some m) s d (inr h) = subst (λ (e : Transition). Counts s (in_hand s m ∷ []) e) (sym h.1) (unused s.records s.records _ [] (quiet s.records [] tt))

pub turn_tally : (p : List Stmt) (n limit : ℕ) (m : Option Msg) (s : Site) (d : Transition) → SiteTurn p n limit s m d → Counts s (heard_in s m) d
turn_tally p n limit m s d (ths, few, (heard, rest, first, units, is)) =
    subst (λ (e : Transition). Counts s (heard_in s m) e) (sym is)
    (tallies_then s.records heard.site.records rest.site.records (heard_in s m) heard.sent rest.sent (heard_tally p n limit m s heard first) (units_tally p n limit ths heard.site rest units))
