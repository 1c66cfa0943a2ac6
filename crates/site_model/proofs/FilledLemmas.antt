-- The messages of a row and of a unit get their bundles at its end: what the site knows then is what it knew as it sent them.
use Rattle.std.proofs.Common.{arith, zero, suc, ◌≡◌, ◌∙◌, sym, ap, refl, subst, ℕ, List, [], ◌∷◌, ◌++◌, map, inl, inr, Bool, true, false, Some, None}
use Rattle.std.proofs.lemmas.List.{append-nil, map-append}
use Rattle.std.specs.Prelude.{Option, ◌==◌, ◌≢◌, ℤ, pos, negsuc, option_to_list}
use Rattle.tree_node.specs.declared.names.VarName.{VarName}
use Rattle.tree_node.specs.declared.names.CellName.{CellName}
use Rattle.tree_node.specs.declared.names.ThreadName.{ThreadName}
use Rattle.tree_node.specs.declared.names.Name.{Name}
use Rattle.tree_node.specs.declared.names.NameKind.{NameKind}
use Rattle.tree_node.specs.declared.names.NameKind.TheVariants as kind
use Rattle.tree_node.specs.declared.node.Term.{Term}
use Rattle.tree_node.specs.declared.pick.Pick.{Pick}
use Rattle.tree_node.specs.Each.{Each}
use Rattle.tree_node.specs.State.{Stack}
use Rattle.tree_node.specs.Store.{Store, Equation, equal_var}
use Rattle.tree_node.proofs.ClassLemmas.{same_name_decides}
use Rattle.kernel_syntax.specs.declared.stmt.Stmt.{Stmt}
use Rattle.site_message.specs.declared.message.Msg.{Msg}
use Rattle.site_message.specs.declared.message.Msg.TheVariants as msg
use Rattle.site_message.specs.declared.message.Sent.{Sent}
use Rattle.oz_model.specs.Need.{Need, Waits, WaitsAny, Binds, Takes, stack_need}
use Rattle.oz_model.specs.Effect as effect
use Rattle.oz_model.specs.Effect.{PortChange, Keeps, Opened, Birth, CellChange, Stays, Made, Exchanged, Effect, vars_among}
use Rattle.oz_model.specs.Step.{AreOfKinds}
use Rattle.variable_owner.specs.declared.owners.Owner.{Owner}
use Rattle.variable_owner.specs.declared.owners.Owner.TheVariants.{Open, Bound}
use Rattle.variable_owner.specs.Owners.{Owned, owner_of, sites_of, with_owner, after_bind}
use Rattle.variable_owner.specs.Owners as owners
use Rattle.bind_protocol.specs.Records.{Records, knowledge}
use Rattle.bind_protocol.specs.Rows.{after_make, register_sends, after_ask, ask_sends, binding}
use Rattle.bind_protocol.proofs.LookLemmas.{in_here, in_other}
use Rattle.token_chain.specs.Rows.{Reply}
use Rattle.site_model.specs.Bundle.{bundle_of, with_bundle, with_own_bundle, with_own_bundles}
use Rattle.site_model.specs.Site.{Site, ThreadState, Counters, EarlyRequest, cell_record, home_record, thread_state}
use Rattle.site_model.specs.Requests.{Answer, OldContent, after_answer, with_home_content, serve_request, cell_ask_row, serve_early}
use Rattle.site_model.specs.Transition.{Transition, without_output, with_pick, with_lines, sequence, and_then}
use Rattle.site_model.specs.Variables.{after_makes, with_site_equation, own_bind, own_binds}
use Rattle.site_model.specs.Cells.{cell_reply, serving, leave_row, put_row, request_row}
use Rattle.site_model.specs.Messages.{bind_request_as, message_row}
use Rattle.site_model.specs.Unit.{next_names, counter_after, fresh_names, with_fresh_names, birth_row, placement, after_effect, step_row, step_pick, effect_here, thread_step, with_stack, after_home_cell, after_port, kept_stack, telling_row, kept_step_row, kept_step, home_among, IsCellUnit, IsStepOrRequest, bind_attempt, IsUnitFor}
use Rattle.site_model.specs.Laws.{with_bundles, RowsFillLast, UnitsFillLast}
use Rattle.site_model.proofs.EffectLemmas.{AddsFresh, IsBindEffect, stack_adds, bind_effect}

-- ---- a bundle in the place of another

message_again : (limit : ℕ) (s : Store) (es : List Equation) (m : Msg) → with_bundle (bundle_of limit s (with_bundle es m)) (with_bundle es m) ≡ with_bundle (bundle_of limit s m) m
message_again limit s es (msg.Spawn th code vars bundle) = refl
message_again limit s es (msg.Register x k) = refl
message_again limit s es (msg.BindReq x th t bundle) = refl
message_again limit s es (msg.Binding x t bundle) = refl
message_again limit s es (msg.Get c k) = refl
message_again limit s es (msg.Forward c k) = refl
message_again limit s es (msg.Put c v bundle) = refl
message_again limit s es (msg.PortSend q n k) = refl
message_again limit s es (msg.PortEnd n old new bundle) = refl
message_again limit s es (msg.CellMake c v bundle) = refl
message_again limit s es (msg.CellAsk c n k v bundle) = refl
message_again limit s es (msg.CellOld n v bundle) = refl

bundled_again : (limit k : ℕ) (s t : Store) (ms : List Sent) → with_own_bundles limit s (with_own_bundles k t ms) ≡ with_own_bundles limit s ms
bundled_again limit k s t [] = refl
bundled_again limit k s t (m ∷ ms) =
    ap (λ (g : Msg). record m { msg = g } ∷ with_own_bundles limit s (with_own_bundles k t ms)) (message_again limit s (bundle_of k t m.msg) m.msg)
    ∙ ap (λ (l : List Sent). with_own_bundle limit s m ∷ l) (bundled_again limit k s t ms)

-- ---- parts that send nothing come first

quiet_first : (limit : ℕ) (q d : Transition) → q.sent ≡ [] → sequence q (with_bundles limit d) ≡ with_bundles limit (sequence q d)
quiet_first limit q d none =
    ap (λ (l : List Sent). record (sequence q d) { sent = l })
    (subst (λ (l : List Sent). l ++ with_own_bundles limit d.site.equations d.sent ≡ with_own_bundles limit d.site.equations (l ++ d.sent)) (sym none) refl)

-- ---- cells

reply_filled : (limit : ℕ) (c : CellName) (queue : List ThreadName) (r : Reply) (s : Site) → cell_reply limit c queue r s ≡ with_bundles limit (cell_reply 0 c queue r s)
reply_filled limit c queue r s = ap (λ (l : List Sent). record (cell_reply limit c queue r s) { sent = l }) (sym (bundled_again limit 0 s.equations s.equations _))

serving_quiet : (p : List Stmt) (c : CellName) (ns : List ThreadName) (v : VarName) (s : Site) → (serving p c ns v s).sent ≡ []
serving_quiet p c [] v s = refl
serving_quiet p c (n ∷ ns) v s = serving_quiet p c ns _ _

put_filled : (p : List Stmt) (limit : ℕ) (c : CellName) (v : VarName) (s : Site) → put_row p limit c v s ≡ with_bundles limit (put_row p 0 c v s)
put_filled p limit c v s =
    ap (λ (d : Transition). sequence served d) (reply_filled limit c _ _ served.site)
    ∙ quiet_first limit served (leave_row 0 c served.site) (serving_quiet p c (cell_record s c).queue v s)
  where
    served : Transition
    served = serving p c (cell_record s c).queue v s

-- ---- variables for which no site is registered

abbrev IsUnasked : List Owned → VarName → Type 0
IsUnasked es x = sites_of (owner_of es x) ≡ []

put_unasked : (es : List Owned) (y x : VarName) (o : Owner) → sites_of (Some o) ≡ [] → IsUnasked es x → IsUnasked (with_owner es y o) x
put_unasked es y x o none h = go (equal_var x y) refl
  where
    go : (b : Bool) → equal_var x y ≡ b → IsUnasked (with_owner es y o) x
    go true q = subst (λ (z : VarName). IsUnasked (with_owner es y o) z) (sym ((same_name_decides x y).0 q)) (ap sites_of (in_here es y o) ∙ none)
    go false q = ap sites_of (in_other es y x o (λ same. (let yes : equal_var x y ≡ true = (same_name_decides x y).1 same in cc))) ∙ h

bound_unasked : (o : Owner) (t : Term) → sites_of (Some (after_bind o t)) ≡ []
bound_unasked (Open sites) t = refl
bound_unasked (Bound r) t = refl

ask_unasked : (es : List Owned) (y x : VarName) (t : Term) → IsUnasked es x → IsUnasked (owners.after_ask es y t) x
ask_unasked es y x t h = go (owner_of es y) refl
  where
    go : (o : Option Owner) → owner_of es y ≡ o → IsUnasked (owners.after_ask es y t) x
    go None q = rw q h
    go (Some o) q = rw q (put_unasked es y x (after_bind o t) (bound_unasked o t) h)

makes_unasked : (b : Records) (ys : List VarName) (x : VarName) → IsUnasked b.owners x → IsUnasked (after_makes b ys).owners x
makes_unasked b [] x h = h
makes_unasked b (y ∷ ys) x h = makes_unasked (after_make b y) ys x (put_unasked b.owners y x (Open []) refl h)

made_unasked : (b : Records) (xs : List VarName) → Each (IsUnasked (after_makes b xs).owners) xs
made_unasked b [] = tt
made_unasked b (x ∷ xs) = (makes_unasked (after_make b x) xs x (ap sites_of (in_here b.owners x (Open []))), made_unasked (after_make b x) xs)

adds_unasked : (es : List Owned) (fresh : List Name) (adds : List Equation) → Each (IsUnasked es) (vars_among fresh) → AddsFresh fresh adds → Each (λ (q : Equation). IsUnasked es q.0) adds
adds_unasked es fresh adds h (inl none) = subst (λ (l : List Equation). Each (λ (q : Equation). IsUnasked es q.0) l) (sym none) tt
adds_unasked es fresh adds h (inr (a, x, n, m, of, is)) =
    let both : Each (IsUnasked es) (a ∷ x ∷ []) = subst (λ (ns : List Name). Each (IsUnasked es) (vars_among ns)) of h in
    subst (λ (l : List Equation). Each (λ (q : Equation). IsUnasked es q.0) l) (sym is) (both.1.0, (both.0, tt))

-- their binds send nothing
binds_unasked : (es : List Equation) (s : Site) (x : VarName) → IsUnasked s.records.owners x → IsUnasked (own_binds 0 es s).site.records.owners x
binds_unasked [] s x h = h
binds_unasked (e ∷ es) s x h = ask_unasked (own_binds 0 es s).site.records.owners e.0 x e.1 (binds_unasked es s x h)

binds_quiet : (limit : ℕ) (es : List Equation) (s : Site) → Each (λ (q : Equation). IsUnasked s.records.owners q.0) es → own_binds limit es s ≡ without_output (own_binds 0 es s).site
binds_quiet limit [] s h = refl
binds_quiet limit (e ∷ es) s h =
    ap (λ (d : Transition). and_then d (own_bind limit e.0 e.1)) (binds_quiet limit es s h.1)
    ∙ ap (λ (ks : List ℕ). record (without_output (with_site_equation before e.0 e.1 (after_ask before.records e.0 e.1))) { sent = with_own_bundles limit ((e.0, e.1) ∷ before.equations) (map (λ k. binding e.0 e.1 k) ks) })
    (binds_unasked es s e.0 h.0)
  where
    before : Site
    before = (own_binds 0 es s).site

-- ---- steps

birth_filled : (p : List Stmt) (n limit : ℕ) (b : Option Birth) (s : Site) → birth_row p n limit b s ≡ with_bundles limit (birth_row p n 0 b s)
birth_filled p n limit None s = refl
birth_filled p n limit (Some b) s = go (placement n s.records.site b.at == s.records.site) refl
  where
    go : (c : Bool) → (placement n s.records.site b.at == s.records.site) ≡ c → birth_row p n limit (Some b) s ≡ with_bundles limit (birth_row p n 0 (Some b) s)
    go true q = rw q refl
    go false q = rw q refl

-- a step whose binds send nothing
quiet_step : (p : List Stmt) (n limit : ℕ) (k : Pick) (kinds : List NameKind) (e : Effect) (s : Site) → Each (λ (q : Equation). IsUnasked (with_fresh_names kinds s).records.owners q.0) e.adds →
    step_row p n limit k kinds e s ≡ with_bundles limit (step_row p n 0 k kinds e s)
quiet_step p n limit k kinds e s h = row limit ∙ (ap (λ (d : Transition). sequence bound d) (birth_filled p n limit e.born bound.site) ∙ (quiet_first limit bound (birth_row p n 0 e.born bound.site) refl ∙ ap (with_bundles limit) (sym (row 0))))
  where
    named : Transition
    named = with_pick (with_fresh_names kinds s) k

    onward : Transition → Transition
    onward d = and_then (sequence named d) (λ (t : Site). with_lines (option_to_list e.line) (after_effect k.thread e t))

    bound : Transition
    bound = onward (without_output (own_binds 0 e.adds named.site).site)

    row : (l : ℕ) → step_row p n l k kinds e s ≡ and_then bound (birth_row p n l e.born)
    row l = ap (λ (d : Transition). and_then (onward d) (birth_row p n l e.born)) (binds_quiet l e.adds named.site h)

no_more : {X : Type 0} (xs : List X) → (xs ++ []) ++ [] ≡ xs
no_more xs = append-nil (xs ++ []) ∙ append-nil xs

-- a step that binds
bind_step : (p : List Stmt) (n limit : ℕ) (k : Pick) (e : Effect) (u : VarName) (t : Term) (st : Stack) (s : Site) → IsBindEffect e (u, t) st → step_row p n limit k [] e s ≡ with_bundles limit (step_row p n 0 k [] e s)
bind_step p n limit k e u t st s is = subst (λ (f : Effect). step_row p n limit k [] f s ≡ with_bundles limit (step_row p n 0 k [] f s)) (sym is) row
  where
    bind : Effect
    bind = record { adds = (u, t) ∷ []; stack = st; line = None; born = None; cell = Stays; port = Keeps }

    after : Store
    after = (u, t) ∷ s.equations

    asked : List Sent
    asked = ask_sends (with_fresh_names [] s).records u t

    sent : (with_own_bundles limit after asked ++ []) ++ [] ≡ with_own_bundles limit after ((with_own_bundles 0 after asked ++ []) ++ [])
    sent = no_more (with_own_bundles limit after asked) ∙ (sym (bundled_again limit 0 after after asked) ∙ ap (with_own_bundles limit after) (sym (no_more (with_own_bundles 0 after asked))))

    row : step_row p n limit k [] bind s ≡ with_bundles limit (step_row p n 0 k [] bind s)
    row = ap (λ (l : List Sent). record (step_row p n 0 k [] bind s) { sent = l }) sent

-- ---- units

-- a home is one of the sites
home_some : (n : ℕ) (k : ℤ) → home_among n k ≢ 0
home_some zero (pos zero) e = absurd (omega (arith, e))
home_some zero (pos (suc k)) e = absurd (omega (arith, e))
home_some zero (negsuc k) e = absurd (omega (arith, e))
home_some (suc n) (pos zero) e = absurd (omega (arith, e))
home_some (suc n) (pos (suc k)) e = absurd (omega (arith, e))
home_some (suc n) (negsuc k) e = absurd (omega (arith, e))

pub next_kinds : (i : ℕ) (c : Counters) (kinds : List NameKind) → AreOfKinds (next_names i c kinds) kinds
next_kinds i c [] = tt
next_kinds i c (kind.Var ∷ ks) = (tt, next_kinds i (counter_after c kind.Var) ks)
next_kinds i c (kind.Cell ∷ ks) = (refl, next_kinds i (counter_after c kind.Cell) ks)
next_kinds i c ((kind.CellAt k) ∷ ks) = (home_some c.sites k, next_kinds i (counter_after c (kind.CellAt k)) ks)
next_kinds i c (kind.Proc ∷ ks) = (tt, next_kinds i (counter_after c kind.Proc) ks)
next_kinds i c (kind.Port ∷ ks) = (tt, next_kinds i (counter_after c kind.Port) ks)
next_kinds i c (kind.Thread ∷ ks) = (tt, next_kinds i (counter_after c kind.Thread) ks)

module _ (p : List Stmt) (n limit : ℕ) (th : ThreadName) (s : Site) (st : Stack) where
  step_filled : (kinds : List NameKind) → stack_need p s.equations st ≡ Takes kinds →
      thread_step p n limit th st kinds (fresh_names s kinds) None s ≡ with_bundles limit (thread_step p n 0 th st kinds (fresh_names s kinds) None s)
  step_filled kinds need = quiet_step p n limit (step_pick th (fresh_names s kinds) None) kinds (effect_here p s (fresh_names s kinds) None st) s
      (adds_unasked (with_fresh_names kinds s).records.owners (fresh_names s kinds) (effect_here p s (fresh_names s kinds) None st).adds
      (made_unasked s.records (vars_among (fresh_names s kinds))) (stack_adds p s.equations (fresh_names s kinds) st kinds need (next_kinds s.records.site s.counters kinds)))

  request_filled : (c : CellName) (new : VarName) → request_row limit c new th st s ≡ with_bundles limit (request_row 0 c new th st s)
  request_filled c new = reply_filled limit c _ _ _

  telling_filled : (c : CellChange) (t : Site) → telling_row limit c t ≡ with_bundles limit (telling_row 0 c t)
  telling_filled Stays t = refl
  telling_filled (Exchanged c new told) t = refl
  telling_filled (Made c v) t = go (c.at == t.records.site) refl
    where
      go : (b : Bool) → (c.at == t.records.site) ≡ b → telling_row limit (Made c v) t ≡ with_bundles limit (telling_row 0 (Made c v) t)
      go true q = rw q refl
      go false q = rw q refl

  kept_filled : (k : Pick) (kinds : List NameKind) (e : Effect) → kept_step_row limit k kinds e s ≡ with_bundles limit (kept_step_row 0 k kinds e s)
  kept_filled k kinds e = ap (λ (d : Transition). sequence (with_pick there k) d) (telling_filled e.cell there)
    where
      there : Site
      there = with_stack k.thread (kept_stack s e) (after_port e.port (after_home_cell e.cell (with_fresh_names kinds s)))

  cell_filled : (few many few_kept many_kept : Transition) (change : CellChange) (d : Transition) → many ≡ with_bundles limit few → many_kept ≡ with_bundles limit few_kept →
      IsCellUnit 0 th st s few few_kept change d → IsCellUnit limit th st s many many_kept change (with_bundles limit d)
  cell_filled few many few_kept many_kept Stays d row kept h = ap (with_bundles limit) h ∙ sym row
  cell_filled few many few_kept many_kept (Made c v) d row kept (inl h) = inl (h.0, ap (with_bundles limit) h.1 ∙ sym row)
  cell_filled few many few_kept many_kept (Made c v) d row kept (inr h) = inr (h.0, ap (with_bundles limit) h.1 ∙ sym kept)
  cell_filled few many few_kept many_kept (Exchanged c new told) d row kept (inl (mobile, inl h)) = inl (mobile, inl (h.0, ap (with_bundles limit) h.1 ∙ sym row))
  cell_filled few many few_kept many_kept (Exchanged c new told) d row kept (inl (mobile, inr h)) = inl (mobile, inr (h.0, ap (with_bundles limit) h.1 ∙ sym (request_filled c new)))
  cell_filled few many few_kept many_kept (Exchanged c new told) d row kept (inr (far, inl h)) = inr (far, inl (h.0, ap (with_bundles limit) h.1 ∙ sym kept))
  cell_filled few many few_kept many_kept (Exchanged c new told) d row kept (inr (far, inr (inl h))) = inr (far, inr (inl (h.0, ap (with_bundles limit) h.1)))
  cell_filled few many few_kept many_kept (Exchanged c new told) d row kept (inr (far, inr (inr h))) = inr (far, inr (inr (h.0, h.1, ap (with_bundles limit) h.2)))

  named_filled : (few many few_kept many_kept : Transition) (e : Effect) (d : Transition) → many ≡ with_bundles limit few → many_kept ≡ with_bundles limit few_kept →
      IsStepOrRequest 0 th st s few few_kept e d → IsStepOrRequest limit th st s many many_kept e (with_bundles limit d)
  named_filled few many few_kept many_kept e d row kept h = go e.port h
    where
      go : (q : PortChange) → IsStepOrRequest 0 th st s few few_kept (record e { port = q }) d → IsStepOrRequest limit th st s many many_kept (record e { port = q }) (with_bundles limit d)
      go Keeps h = cell_filled few many few_kept many_kept e.cell d row kept h
      go (Opened q end) h = ap (with_bundles limit) h ∙ sym kept
      go (effect.Sent q value new) (inl h) = inl (h.0, h.1, h.2, ap (with_bundles limit) h.3 ∙ sym kept)
      go (effect.Sent q value new) (inr (inl h)) = inr (inl (h.0, ap (with_bundles limit) h.1))
      go (effect.Sent q value new) (inr (inr h)) = inr (inr (h.0, h.1, ap (with_bundles limit) h.2))

  attempt_filled : (a b : Term) (u : VarName) (t : Term) (own : Bool) → stack_need p s.equations st ≡ Binds a b → bind_attempt p n limit th st u t own s ≡ with_bundles limit (bind_attempt p n 0 th st u t own s)
  attempt_filled a b u t true need = bind_step p n limit (step_pick th [] (Some (u, t))) (effect_here p s [] (Some (u, t)) st) u t st s (bind_effect p s.equations st a b (u, t) need)
  attempt_filled a b u t false need = refl

  unit_filled : (need : Need) (d : Transition) → stack_need p s.equations st ≡ need → IsUnitFor p n 0 s th st need d → IsUnitFor p n limit s th st need (with_bundles limit d)
  unit_filled (Waits x) d is (z, class, e) = (z, class, ap (with_bundles limit) e)
  unit_filled (WaitsAny q) d is (xs, open_on, e) = (xs, open_on, ap (with_bundles limit) e)
  unit_filled (Binds a b) d is (u, t, root, e) = (u, t, root, ap (with_bundles limit) e ∙ sym (attempt_filled a b u t (u.site == s.records.site) is))
  unit_filled (Takes kinds) d is h =
      named_filled (thread_step p n 0 th st kinds (fresh_names s kinds) None s) (thread_step p n limit th st kinds (fresh_names s kinds) None s)
      (kept_step p 0 th st kinds (fresh_names s kinds) s) (kept_step p limit th st kinds (fresh_names s kinds) s)
      (effect_here p s (fresh_names s kinds) None st) d (step_filled kinds is) (kept_filled (step_pick th (fresh_names s kinds) None) kinds (effect_here p s (fresh_names s kinds) None st)) h

pub units_fill_last : UnitsFillLast
units_fill_last p n limit th s d (st, runs, h) = (st, runs, unit_filled p n limit th s st (stack_need p s.equations st) d refl h)

-- ---- rows of messages

-- an answer brings no equation
answer_equations : (p : List Stmt) (n : ThreadName) (a : Answer) (s : Site) → (after_answer p n a s).equations ≡ s.equations
answer_equations p n a s = go (thread_state s n) refl
  where
    go : (o : Option ThreadState) → thread_state s n ≡ o → (after_answer p n a s).equations ≡ s.equations
    go None q = rw q refl
    go (Some w) q = rw q refl

served_equations : (p : List Stmt) (limit : ℕ) (c : CellName) (r : EarlyRequest) (v : VarName) (s : Site) → (serve_request p limit c r v s).site.equations ≡ s.equations
served_equations p limit c r v s = go (r.asking == s.records.site) refl
  where
    go : (b : Bool) → (r.asking == s.records.site) ≡ b → (serve_request p limit c r v s).site.equations ≡ s.equations
    go true q = rw q (answer_equations p r.thread (OldContent v) (with_home_content c r.new s))
    go false q = rw q refl

-- what is sent has the bundles of the equations that stand
served_filled : (p : List Stmt) (limit : ℕ) (c : CellName) (r : EarlyRequest) (v : VarName) (s : Site) →
    serve_request p limit c r v s ≡ record (serve_request p 0 c r v s) { sent = with_own_bundles limit s.equations (serve_request p 0 c r v s).sent }
served_filled p limit c r v s = go (r.asking == s.records.site) refl
  where
    go : (b : Bool) → (r.asking == s.records.site) ≡ b →
        serve_request p limit c r v s ≡ record (serve_request p 0 c r v s) { sent = with_own_bundles limit s.equations (serve_request p 0 c r v s).sent }
    go true q = rw q refl
    go false q = rw q refl

ask_filled : (p : List Stmt) (limit : ℕ) (c : CellName) (r : EarlyRequest) (s : Site) → cell_ask_row p limit c r s ≡ with_bundles limit (cell_ask_row p 0 c r s)
ask_filled p limit c r s = go (home_record s c).content refl
  where
    served : (v : VarName) → serve_request p limit c r v s ≡ with_bundles limit (serve_request p 0 c r v s)
    served v =
        served_filled p limit c r v s
        ∙ ap (λ (e : Store). record (serve_request p 0 c r v s) { sent = with_own_bundles limit e (serve_request p 0 c r v s).sent }) (sym (served_equations p 0 c r v s))

    go : (o : Option VarName) → (home_record s c).content ≡ o → cell_ask_row p limit c r s ≡ with_bundles limit (cell_ask_row p 0 c r s)
    go None q = rw q refl
    go (Some v) q = rw q (served v)

early_equations : (p : List Stmt) (limit : ℕ) (c : CellName) (rs : List EarlyRequest) (v : VarName) (s : Site) → (serve_early p limit c v rs s).site.equations ≡ s.equations
early_equations p limit c [] v s = refl
early_equations p limit c (r ∷ rs) v s = early_equations p limit c rs r.new (serve_request p limit c r v s).site ∙ served_equations p limit c r v s

early_filled : (p : List Stmt) (limit : ℕ) (c : CellName) (rs : List EarlyRequest) (v : VarName) (s : Site) → serve_early p limit c v rs s ≡ with_bundles limit (serve_early p 0 c v rs s)
early_filled p limit c [] v s = refl
early_filled p limit c (r ∷ rs) v s =
    ap (λ (d : Transition). and_then d (serve_early p limit c r.new rs)) (served_filled p limit c r v s)
    ∙ (ap (λ (e : Transition). sequence (record one { sent = with_own_bundles limit s.equations one.sent }) e) (early_filled p limit c rs r.new one.site)
    ∙ (ap (λ (e : Store). sequence (record one { sent = with_own_bundles limit e one.sent }) (with_bundles limit rest)) (sym (early_equations p 0 c (r ∷ rs) v s))
    ∙ ap (λ (l : List Sent). record (serve_early p 0 c v (r ∷ rs) s) { sent = l }) (sym (map-append (with_own_bundle limit (serve_early p 0 c v (r ∷ rs) s).site.equations) one.sent rest.sent))))
  where
    one : Transition
    one = serve_request p 0 c r v s

    rest : Transition
    rest = serve_early p 0 c r.new rs one.site

request_as_filled : (known : Option (Option Term)) (limit : ℕ) (x : VarName) (t : Term) (n : ThreadName) (s : Site) → bind_request_as known limit x t n s ≡ with_bundles limit (bind_request_as known 0 x t n s)
request_as_filled None limit x t n s = refl
request_as_filled (Some (Some r)) limit x t n s = refl
request_as_filled (Some None) limit x t n s =
    ap (λ (l : List Sent). record (bind_request_as (Some None) 0 x t n s) { sent = l }) (sym (bundled_again limit 0 ((x, t) ∷ s.equations) ((x, t) ∷ s.equations) (ask_sends s.records x t)))

pub rows_fill_last : RowsFillLast
rows_fill_last p limit (msg.Spawn n code vars bundle) s = refl
rows_fill_last p limit (msg.Register x k) s = ap (λ (l : List Sent). record (message_row p 0 (msg.Register x k) s) { sent = l }) (sym (bundled_again limit 0 s.equations s.equations (register_sends s.records x k)))
rows_fill_last p limit (msg.BindReq x n t bundle) s = request_as_filled (knowledge s.records x) limit x t n s
rows_fill_last p limit (msg.Binding x t bundle) s = refl
rows_fill_last p limit (msg.Get c k) s = reply_filled limit c _ _ _
rows_fill_last p limit (msg.Forward c k) s = reply_filled limit c _ _ _
rows_fill_last p limit (msg.Put c v bundle) s = put_filled p limit c v s
rows_fill_last p limit (msg.PortSend q n k) s = refl
rows_fill_last p limit (msg.PortEnd n old new bundle) s = refl
rows_fill_last p limit (msg.CellMake c v bundle) s = early_filled p limit c (home_record s c).early v s
rows_fill_last p limit (msg.CellAsk c n k v bundle) s = ask_filled p limit c (record { thread = n; asking = k; new = v }) s
rows_fill_last p limit (msg.CellOld n v bundle) s = refl
