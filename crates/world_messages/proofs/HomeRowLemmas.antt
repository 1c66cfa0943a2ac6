-- What rows on ports and on stationary cells leave of a site, and which messages they send.
use Rattle.std.proofs.Common.{◌≡◌, ◌≢◌, ◌∙◌, sym, ap, refl, ℕ, List, [], ◌∷◌, ◌⊎◌, inl, inr, Bool, true, false, cond, Some, None}
use Rattle.std.specs.Prelude.{Option, ◌==◌}
use Rattle.tree_node.specs.declared.names.VarName.{VarName}
use Rattle.tree_node.specs.declared.names.CellName.{CellName}
use Rattle.tree_node.specs.declared.names.ThreadName.{ThreadName}
use Rattle.tree_node.specs.declared.names.NameKind.{NameKind}
use Rattle.tree_node.specs.declared.pick.Pick.{Pick}
use Rattle.tree_node.specs.Each.{Each}
use Rattle.tree_node.specs.Assoc.{value_of}
use Rattle.tree_node.specs.State.{Stack, equal_thread}
use Rattle.tree_node.specs.declared.node.Term.{Term}
use Rattle.tree_node.specs.Store.{Store, Equation}
use Rattle.tree_node.proofs.EachLemmas.{each_append}
use Rattle.tree_node.proofs.NameLemmas.{same_thread_decides}
use Rattle.thread_roster.specs.declared.mode.Mode.TheVariants.{Runs}
use Rattle.kernel_syntax.specs.declared.stmt.Stmt.{Stmt}
use Rattle.site_message.specs.declared.message.Msg.TheVariants as msg
use Rattle.site_message.specs.declared.message.Sent.{Sent}
use Rattle.oz_model.specs.Effect.{CellChange, Stays, Made, Exchanged, PortChange, Keeps, Opened, Effect}
use Rattle.oz_model.specs.Effect as change
use Rattle.bind_protocol.specs.Records.{is_own, knowledge}
use Rattle.bind_protocol.specs.Rows.{sent_message}
use Rattle.site_model.specs.Bundle.{with_own_bundle}
use Rattle.site_model.specs.Cells.{step_pick}
use Rattle.site_model.specs.Requests.{Answer, OldContent, answered_stack, after_answer, with_home_content, serve_request, serve_early}
use Rattle.site_model.specs.Site.{Site, ThreadState, EarlyRequest, thread_state, with_home_record}
use Rattle.site_model.specs.Transition.{without_output, with_messages, with_pick, and_then}
use Rattle.site_model.specs.Unit.{with_fresh_names, after_home_cell, after_port, kept_stack, telling_row, kept_step_row, with_stack}
use Rattle.site_model.specs.Variables.{with_new_equation, with_known_equation, with_known_equations}
use Rattle.world_model.proofs.KeyLemmas.{goes_cases}
use Rattle.world_model.proofs.PutLemmas.{nat_decides}

-- ---- what stays

-- the site knows and counts as it did, and keeps the same of mobile cells
pub record Rest (s t : Site) : Type 0 where
  pub records : t.records ≡ s.records
  pub equations : t.equations ≡ s.equations
  pub counters : t.counters ≡ s.counters
  pub places : t.cell_records ≡ s.cell_records

pub rest_same : (s : Site) → Rest s s
rest_same s = record { records = refl; equations = refl; counters = refl; places = refl }

pub rest_then : (s t u : Site) → Rest s t → Rest t u → Rest s u
rest_then s t u h g = record { records = g.records ∙ h.records; equations = g.equations ∙ h.equations; counters = g.counters ∙ h.counters; places = g.places ∙ h.places }

-- and its threads stand as they did
pub record Apart (s t : Site) : Type 0 where
  pub rest : Rest s t
  pub threads : t.threads ≡ s.threads

apart_same : (s : Site) → Apart s s
apart_same s = record { rest = rest_same s; threads = refl }

home_apart : (c : CellChange) (s : Site) → Apart s (after_home_cell c s)
home_apart Stays s = apart_same s
home_apart (Made c v) s = go (c.at == s.records.site)
  where
    go : (b : Bool) → Apart s (cond b (with_home_record s c (record { content = Some v; early = [] })) s)
    go true = record { rest = record { records = refl; equations = refl; counters = refl; places = refl }; threads = refl }
    go false = apart_same s
home_apart (Exchanged c new told) s = record { rest = record { records = refl; equations = refl; counters = refl; places = refl }; threads = refl }

port_apart : (r : PortChange) (s : Site) → Apart s (after_port r s)
port_apart Keeps s = apart_same s
port_apart (Opened q end) s = record { rest = record { records = refl; equations = refl; counters = refl; places = refl }; threads = refl }
port_apart (change.Sent q value new) s = record { rest = record { records = refl; equations = refl; counters = refl; places = refl }; threads = refl }

-- what a step on a port or on a stationary cell changes but for its thread
abbrev pub kept_before : List NameKind → Effect → Site → Site
kept_before kinds e s = after_port e.port (after_home_cell e.cell (with_fresh_names kinds s))

pub kept_apart : (kinds : List NameKind) (e : Effect) (s : Site) → Apart (with_fresh_names kinds s) (kept_before kinds e s)
kept_apart kinds e s =
    let h = home_apart e.cell (with_fresh_names kinds s) in
    let g = port_apart e.port (after_home_cell e.cell (with_fresh_names kinds s)) in
    record { rest = rest_then (with_fresh_names kinds s) (after_home_cell e.cell (with_fresh_names kinds s)) (kept_before kinds e s) h.rest g.rest; threads = g.threads ∙ h.threads }

-- ---- what is told of variables

-- what a known equation does not change
module _ {X : Type 0} (g : Site → X) (same : (s : Site) (x : VarName) (t : Term) → g (with_new_equation s x t) ≡ g s) where
  told_same : (s : Site) (x : VarName) (t : Term) → g (with_known_equation s x t) ≡ g s
  told_same s x t = go (is_own s.records x) refl (knowledge s.records x) refl
    where
      go : (b : Bool) → is_own s.records x ≡ b → (o : Option (Option Term)) → knowledge s.records x ≡ o → g (with_known_equation s x t) ≡ g s
      go true q o k = rw (k, q) refl
      go false q None k = rw (k, q) (same s x t)
      go false q (Some None) k = rw (k, q) (same s x t)
      go false q (Some (Some r)) k = rw (k, q) refl

  pub told_all_same : (es : List Equation) (s : Site) → g (with_known_equations s es) ≡ g s
  told_all_same [] s = refl
  told_all_same (e ∷ es) s = told_all_same es (with_known_equation s e.0 e.1) ∙ told_same s e.0 e.1

-- ---- the home of a new cell is told

pub tell_site : (limit : ℕ) (c : CellChange) (s : Site) → (telling_row limit c s).site ≡ s
tell_site limit Stays s = refl
tell_site limit (Exchanged c new told) s = refl
tell_site limit (Made c v) s = go (c.at == s.records.site)
  where
    go : (b : Bool) → (cond b (without_output s) (with_messages s (with_own_bundle limit s.equations (sent_message c.at (msg.CellMake c v [])) ∷ []))).site ≡ s
    go true = refl
    go false = refl

pub tell_picks : (limit : ℕ) (c : CellChange) (s : Site) → (telling_row limit c s).picks ≡ []
tell_picks limit Stays s = refl
tell_picks limit (Exchanged c new told) s = refl
tell_picks limit (Made c v) s = go (c.at == s.records.site)
  where
    go : (b : Bool) → (cond b (without_output s) (with_messages s (with_own_bundle limit s.equations (sent_message c.at (msg.CellMake c v [])) ∷ []))).picks ≡ []
    go true = refl
    go false = refl

pub tell_each : (Q : Sent → Type 0) (limit : ℕ) (c : CellChange) (s : Site) → ((b : CellName) (v : VarName) → c ≡ Made b v → b.at ≢ s.records.site → Q (with_own_bundle limit s.equations (sent_message b.at (msg.CellMake b v [])))) →
    Each Q (telling_row limit c s).sent
tell_each Q limit Stays s h = tt
tell_each Q limit (Exchanged c new told) s h = tt
tell_each Q limit (Made c v) s h = go (c.at == s.records.site) refl
  where
    go : (b : Bool) → (c.at == s.records.site) ≡ b → Each Q (cond b (without_output s) (with_messages s (with_own_bundle limit s.equations (sent_message c.at (msg.CellMake c v [])) ∷ []))).sent
    go true q = tt
    go false q = (h c v refl (λ (e : c.at ≡ s.records.site). let yes : (c.at == s.records.site) ≡ true = (nat_decides c.at s.records.site).1 e in cc), tt)

-- the site after the whole step
pub kept_site : (limit : ℕ) (k : Pick) (kinds : List NameKind) (e : Effect) (s : Site) → (kept_step_row limit k kinds e s).site ≡ with_stack k.thread (kept_stack s e) (kept_before kinds e s)
kept_site limit k kinds e s = tell_site limit e.cell (with_stack k.thread (kept_stack s e) (kept_before kinds e s))

pub kept_picks : (limit : ℕ) (k : Pick) (kinds : List NameKind) (e : Effect) (s : Site) → (kept_step_row limit k kinds e s).picks ≡ k ∷ []
kept_picks limit k kinds e s = ap (λ (ks : List Pick). k ∷ ks) (tell_picks limit e.cell (with_stack k.thread (kept_stack s e) (kept_before kinds e s)))

-- ---- answers and requests

pub answer_rest : (p : List Stmt) (n : ThreadName) (a : Answer) (s : Site) → Rest s (after_answer p n a s)
answer_rest p n a s = go (thread_state s n) refl
  where
    go : (o : Option ThreadState) → thread_state s n ≡ o → Rest s (after_answer p n a s)
    go None q = rw q (rest_same s)
    go (Some w) q = rw q (record { records = refl; equations = refl; counters = refl; places = refl })

-- a thread of the site then can go on, or stands as it did
pub answer_cases : (p : List Stmt) (n : ThreadName) (a : Answer) (s : Site) (m : ThreadName) (w : ThreadState) → thread_state (after_answer p n a s) m ≡ Some w → ((n ≡ m) × (w.1 ≡ Runs)) ⊎ (thread_state s m ≡ Some w)
answer_cases p n a s m w at = go (thread_state s n) refl at
  where
    runs : (st : Stack) → ◌≡◌ {A = Option ThreadState} (Some (st, Runs)) (Some w) → w.1 ≡ Runs
    runs st e = let same : ◌≡◌ {A = ThreadState} (st, Runs) w = cc in ap (λ (z : ThreadState). z.1) (sym same)

    by : (st : Stack) → ((m ≡ n) × (Some (st, Runs) ≡ Some w)) ⊎ ((n ≢ m) × (value_of equal_thread s.threads m ≡ Some w)) → ((n ≡ m) × (w.1 ≡ Runs)) ⊎ (thread_state s m ≡ Some w)
    by st (inl k) = inl (sym k.0, runs st k.1)
    by st (inr k) = inr k.1

    go : (o : Option ThreadState) → thread_state s n ≡ o → thread_state (after_answer p n a s) m ≡ Some w → ((n ≡ m) × (w.1 ≡ Runs)) ⊎ (thread_state s m ≡ Some w)
    go None q = rw q (λ e. inr e)
    go (Some u) q = rw q (λ e. by (answered_stack p s a u.0) (goes_cases equal_thread same_thread_decides s.threads n m (Some (answered_stack p s a u.0, Runs)) u w q e))

module _ (p : List Stmt) (limit : ℕ) (c : CellName) where
  content_rest : (v : VarName) (s : Site) → Rest s (with_home_content c v s)
  content_rest v s = record { records = refl; equations = refl; counters = refl; places = refl }

  pub serve_rest : (r : EarlyRequest) (v : VarName) (s : Site) → Rest s (serve_request p limit c r v s).site
  serve_rest r v s = go (r.asking == s.records.site)
    where
      go : (b : Bool) → Rest s (cond b (with_pick (after_answer p r.thread (OldContent v) (with_home_content c r.new s)) (step_pick r.thread [] None))
          (and_then (with_pick (with_home_content c r.new s) (step_pick r.thread [] None)) (λ t. with_messages t (with_own_bundle limit t.equations (sent_message r.asking (msg.CellOld r.thread v [])) ∷ [])))).site
      go true = rest_then s (with_home_content c r.new s) (after_answer p r.thread (OldContent v) (with_home_content c r.new s)) (content_rest r.new s) (answer_rest p r.thread (OldContent v) (with_home_content c r.new s))
      go false = content_rest r.new s

  pub serve_each : (Q : Sent → Type 0) (r : EarlyRequest) (v : VarName) (s : Site) → ((e : Store) (to : ℕ) (n : ThreadName) (u : VarName) → Q (with_own_bundle limit e (sent_message to (msg.CellOld n u [])))) → Each Q (serve_request p limit c r v s).sent
  serve_each Q r v s h = go (r.asking == s.records.site)
    where
      go : (b : Bool) → Each Q (cond b (with_pick (after_answer p r.thread (OldContent v) (with_home_content c r.new s)) (step_pick r.thread [] None))
          (and_then (with_pick (with_home_content c r.new s) (step_pick r.thread [] None)) (λ t. with_messages t (with_own_bundle limit t.equations (sent_message r.asking (msg.CellOld r.thread v [])) ∷ [])))).sent
      go true = tt
      go false = (h s.equations r.asking r.thread v, tt)

  pub early_rest : (rs : List EarlyRequest) (v : VarName) (s : Site) → Rest s (serve_early p limit c v rs s).site
  early_rest [] v s = record { records = refl; equations = refl; counters = refl; places = refl }
  early_rest (r ∷ rs) v s = rest_then s (serve_request p limit c r v s).site (serve_early p limit c r.new rs (serve_request p limit c r v s).site).site (serve_rest r v s) (early_rest rs r.new (serve_request p limit c r v s).site)

  pub early_each : (Q : Sent → Type 0) (rs : List EarlyRequest) (v : VarName) (s : Site) → ((e : Store) (to : ℕ) (n : ThreadName) (u : VarName) → Q (with_own_bundle limit e (sent_message to (msg.CellOld n u [])))) → Each Q (serve_early p limit c v rs s).sent
  early_each Q [] v s h = tt
  early_each Q (r ∷ rs) v s h = each_append Q (serve_request p limit c r v s).sent (serve_early p limit c r.new rs (serve_request p limit c r v s).site).sent (serve_each Q r v s h) (early_each Q rs r.new (serve_request p limit c r v s).site h)
