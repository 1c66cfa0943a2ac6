-- A site does something on ports or on stationary cells, and other threads wait for answers: from the parts to the whole of what was reached.
use Rattle.std.proofs.Common.{rules, ◌≡◌, ◌∙◌, sym, ap, refl, subst, ℕ, List, [], ◌++◌, ◌⊎◌, inl, inr, Bool, true, false, cond, Some}
use Rattle.std.specs.Prelude.{◌≢◌, ◌==◌}
use Rattle.tree_node.specs.declared.names.VarName.{VarName}
use Rattle.tree_node.specs.declared.names.CellName.{CellName}
use Rattle.tree_node.specs.declared.names.Name.{Name}
use Rattle.tree_node.specs.declared.node.Term.{Term}
use Rattle.tree_node.specs.declared.pick.Pick.{Pick}
use Rattle.tree_node.specs.Each.{AreDistinct}
use Rattle.tree_node.specs.State.{State}
use Rattle.tree_node.specs.Store.{Store, Equation}
use Rattle.kernel_syntax.specs.declared.stmt.Stmt.{Stmt}
use Rattle.site_message.specs.declared.message.Msg.{Msg}
use Rattle.site_message.specs.declared.message.Msg.TheVariants as msg
use Rattle.oz_model.specs.Run.{IsRun, start, Run as ModelRun}
use Rattle.bind_protocol.specs.Records.{Records}
use Rattle.thread_roster.specs.declared.mode.Awaited.{Awaited}
use Rattle.thread_roster.specs.declared.mode.Awaited.TheVariants.{Cell}
use Rattle.site_model.specs.Site.{Site, Threads, Counters, cell_record_in}
use Rattle.site_model.specs.Transition.{Transition}
use Rattle.world_model.specs.Chain.{Cells, mobile_cells}
use Rattle.world_model.specs.Matches.{PartsMatch, CellsMatch, IsQueue, IsNumbered}
use Rattle.world_model.specs.Names.{IsHere, here_at}
use Rattle.world_model.specs.Shown.{standing, standing_site, shown, shown_world}
use Rattle.world_model.specs.World.{World, Sites, Mail, IsOnItsWay, at_put, put, eqs, records, threads, counters, cell_records, managers, after_transition, after_receipt, without_number}
use Rattle.world_model.proofs.MailLemmas.{gone}
use Rattle.world_model.proofs.PutLemmas.{nat_decides, field_put, field_kept}
use Rattle.world_variables.specs.Laws.{PartsIn}
use Rattle.world_variables.specs.Sums.{names, Sums}
use Rattle.world_variables.proofs.ReceiveLemmas.{numbered_acts}
use Rattle.world_variables.proofs.RegisterLemmas.{MayGo, parts_gone}
use Rattle.world_variables.proofs.RunsLemmas.{runs_append}
use Rattle.world_variables.proofs.SumLemmas.{Summed, sums_row, quiet_summed}
use Rattle.world_cells.specs.Reached.{Reached}
use Rattle.world_cells.specs.Standing.{IsStanding}
use Rattle.world_cells.proofs.FrameLemmas.{NoCells}
use Rattle.world_cells.proofs.QueueLemmas.{SameWaiters, queue_same}
use Rattle.world_cells.proofs.TallyLemmas.{IsOfNone}
use Rattle.world_cells.proofs.UnitCellRowLemmas.{nothing_match, gone_match}
use Rattle.world_answers.proofs.JoinLemmas.{shown_acts}
use Rattle.world_answers.proofs.ShownLemmas.{shown_real, shown_threads_real}
use Rattle.world_answers.proofs.ViewLemmas.{standing_deed}

-- ---- tables of threads

-- these are the threads as they are shown after site i changed and others wait
shown_by : (f : Sites) (u : Threads) (i : ℕ) (s : Site) (g : ℕ → Threads) → i ≢ 0 → g 0 ≡ u → g i ≡ standing s.threads → ((k : ℕ) → k ≢ 0 → k ≢ i → g k ≡ standing (f k).threads) → (k : ℕ) → g k ≡ (shown (put f i s) u k).threads
shown_by f u i s g real zero own far k = go (k == 0) refl (k == i) refl
  where
    go : (a : Bool) → (k == 0) ≡ a → (b : Bool) → (k == i) ≡ b → g k ≡ cond a u (standing (cond b s (f k)).threads)
    go true e b q = ap g ((nat_decides k 0).0 e) ∙ zero
    go false e true q = ap g ((nat_decides k i).0 q) ∙ own
    go false e false q = far k (λ h. let yes : (k == 0) ≡ true = (nat_decides k 0).1 h in cc) (λ h. let yes : (k == i) ≡ true = (nat_decides k i).1 h in cc)

pub shown_is : (f : Sites) (u : Threads) (i : ℕ) (s : Site) (g : ℕ → Threads) → i ≢ 0 → g 0 ≡ u → g i ≡ standing s.threads → ((k : ℕ) → k ≢ 0 → k ≢ i → g k ≡ standing (f k).threads) → ◌≡◌ {A = ℕ → Threads} g (threads (shown (put f i s) u))
shown_is f u i s g real zero own far = search (rules, shown_by f u i s g real zero own far)

-- the parts, in the form that is wanted
pub to_shown : (p : List Stmt) (here : ℕ → Name → Type 0) (f : Sites) (i : ℕ) (s : Site) (u : Threads) (g : ℕ → Threads) (mail : Mail) (z : State) → ◌≡◌ {A = ℕ → Threads} g (threads (shown (put f i s) u)) →
    PartsMatch p here (at_put (eqs f) i s.equations) (at_put (records f) i s.records) g (at_put (counters f) i s.counters) mail z → PartsMatch p here (eqs (put f i s)) (records (put f i s)) (threads (shown (put f i s) u)) (counters (put f i s)) mail z
to_shown p here f i s u g mail z same h =
    subst (λ (e : ℕ → Store). PartsMatch p here e (records (put f i s)) (threads (shown (put f i s) u)) (counters (put f i s)) mail z) (sym (field_put (λ (t : Site). t.equations) f i s))
    (subst (λ (r : ℕ → Records). PartsMatch p here (at_put (eqs f) i s.equations) r (threads (shown (put f i s) u)) (counters (put f i s)) mail z) (sym (field_put (λ (t : Site). t.records) f i s))
    (subst (λ (m : ℕ → Counters). PartsMatch p here (at_put (eqs f) i s.equations) (at_put (records f) i s.records) (threads (shown (put f i s) u)) m mail z) (sym (field_put (λ (t : Site). t.counters) f i s))
    (subst (λ (ts : ℕ → Threads). PartsMatch p here (at_put (eqs f) i s.equations) (at_put (records f) i s.records) ts (at_put (counters f) i s.counters) mail z) same h)))

-- a site did nothing that changes what it knows
pub same_parts : (p : List Stmt) (w : World) (i : ℕ) (d : Transition) (u : Threads) (z : State) → d.site.equations ≡ (w.sites i).equations → d.site.records ≡ (w.sites i).records → d.site.counters ≡ (w.sites i).counters →
    PartsMatch p (here_at (records w.sites)) (eqs w.sites) (records w.sites) (threads (shown (after_transition w i d).sites u)) (counters w.sites) (after_transition w i d).mail z →
    PartsMatch p (here_at (records (after_transition w i d).sites)) (eqs (after_transition w i d).sites) (records (after_transition w i d).sites) (threads (shown (after_transition w i d).sites u)) (counters (after_transition w i d).sites) (after_transition w i d).mail z
same_parts p w i d u z equations records_are counters_are h =
    subst (λ (r : ℕ → Records). PartsMatch p (here_at r) (eqs v.sites) r (threads (shown v.sites u)) (counters v.sites) v.mail z) (sym (field_kept (λ (s : Site). s.records) w.sites i d.site records_are))
    (subst (λ (e : ℕ → Store). PartsMatch p (here_at (records w.sites)) e (records w.sites) (threads (shown v.sites u)) (counters v.sites) v.mail z) (sym (field_kept (λ (s : Site). s.equations) w.sites i d.site equations))
    (subst (λ (m : ℕ → Counters). PartsMatch p (here_at (records w.sites)) (eqs w.sites) (records w.sites) (threads (shown v.sites u)) m v.mail z) (sym (field_kept (λ (s : Site). s.counters) w.sites i d.site counters_are)) h))
  where
    v : World
    v = after_transition w i d

-- ---- other threads wait

transit_match : (w : World) (t u : Threads) (c : State) → ((b : Awaited) → SameWaiters t u b) → CellsMatch (shown_world w t) c → CellsMatch (shown_world w u) c
transit_match w t u c same x = record { queues = λ k b. queues k b (k == 0) refl; cells = x.cells; gets = x.gets; contents = x.contents }
  where
    queues : (k : ℕ) (b : CellName) (q : Bool) → (k == 0) ≡ q → IsQueue (cell_record_in (cell_records w.sites k) b) (shown w.sites u k).threads b
    queues k b true e =
        let at : k ≡ 0 = (nat_decides k 0).0 e in
        subst (λ (j : ℕ). IsQueue (cell_record_in (cell_records w.sites j) b) (shown w.sites u j).threads b) (sym at) (queue_same _ _ t u b refl refl (same (Cell b)) (x.queues 0 b))
    queues k b false e =
        let far : k ≢ 0 = (λ h. let yes : (k == 0) ≡ true = (nat_decides k 0).1 h in cc) in
        subst (λ (ts : Threads). IsQueue (cell_record_in (cell_records w.sites k) b) ts b) (shown_threads_real w.sites t k far ∙ sym (shown_threads_real w.sites u k far)) (x.queues k b)

transit_sums : (w : World) (t u : Threads) (lines : List (List ℕ)) (c : State) → AreDistinct (names u) → Sums (shown w.sites t) lines c → Sums (shown w.sites u) lines c
transit_sums w t u lines c once h = record { printed = h.printed; all_ended = h.all_ended; once = λ k. go k (k == 0) refl }
  where
    go : (k : ℕ) (q : Bool) → (k == 0) ≡ q → AreDistinct (names (shown w.sites u k).threads)
    go k true e = subst (λ (j : ℕ). AreDistinct (names (shown w.sites u j).threads)) (sym ((nat_decides k 0).0 e)) once
    go k false e =
        let far : k ≢ 0 = (λ z. let yes : (k == 0) ≡ true = (nat_decides k 0).1 z in cc) in
        subst (λ (ts : Threads). AreDistinct (names ts)) (shown_threads_real w.sites t k far ∙ sym (shown_threads_real w.sites u k far)) (h.once k)

-- ---- the whole

-- these picks are a run of the machine to this state, which the world matches
pub record ReachedAt (p : List Stmt) (w : World) (ks : List Pick) (centre : State) : Type 0 where
  pub run : ModelRun p ks centre
  pub parts : PartsIn p (here_at (records w.sites)) w centre
  pub numbers : IsNumbered w.sent w.mail
  pub cells : CellsMatch w centre
  pub sums : Sums w.sites w.lines centre

abbrev pub whole : {p : List Stmt} {w : World} {ks : List Pick} {z : State} → ReachedAt p w ks z → Reached p w ks
whole {z = z} h = record { centre = z; run = h.run; parts = h.parts; numbers = h.numbers; cells = h.cells; sums = h.sums }

-- what site i did, which says nothing of mobile cells; u are those that wait for answers then, and z is the machine's state
pub record Packs (p : List Stmt) (w : World) (c : State) (t : Threads) (i : ℕ) (d : Transition) (u : Threads) (z : State) : Type 0 where
  pub run : IsRun p c d.picks z
  pub parts : PartsMatch p (here_at (records (after_transition w i d).sites)) (eqs (after_transition w i d).sites) (records (after_transition w i d).sites) (threads (shown (after_transition w i d).sites u)) (counters (after_transition w i d).sites) (after_transition w i d).mail z
  pub still : NoCells (w.sites i) d
  pub cells : mobile_cells z.cells ≡ mobile_cells c.cells
  pub here : (b : Awaited) → SameWaiters (standing (w.sites i).threads) (standing d.site.threads) b
  pub away : (b : Awaited) → SameWaiters t u b
  pub wider : (y : VarName) → IsHere (w.sites i).records y → IsHere d.site.records y
  pub lines : (z.lines ≡ c.lines) × (d.lines ≡ [])
  pub ended : (z.ended ≡ c.ended) × (d.site.ended ≡ (w.sites i).ended)
  pub once : AreDistinct (names (standing d.site.threads)) × AreDistinct (names u)

pub packed : (p : List Stmt) (w : World) (ks : List Pick) (t : Threads) (r : Reached p (shown_world w t) ks) (i : ℕ) (d : Transition) (u : Threads) (z : State) → i ≢ 0 → Packs p w r.centre t i d u z → ReachedAt p (shown_world (after_transition w i d) u) (ks ++ d.picks) z
packed p w ks t r i d u z real k = record {
  run = runs_append p ks d.picks (start p) r.centre z r.run k.run;
  parts = k.parts;
  numbers = numbered_acts (shown_world w t) i (standing_deed d) r.numbers;
  cells = transit_match (after_transition w i d) t u z k.away (subst (λ (v : World). CellsMatch v z) (shown_acts w t i d real) one);
  sums = transit_sums (after_transition w i d) t u (after_transition w i d).lines z k.once.1
      (subst (λ (v : World). Sums v.sites v.lines z) (shown_acts w t i d real) (sums_row (shown_world w t) i (standing_deed d) r.centre z summed r.sums));
}
  where
    at : shown w.sites t i ≡ standing_site (w.sites i)
    at = shown_real w.sites t i real

    summed : Summed (shown w.sites t i) (standing_deed d) r.centre z
    summed = quiet_summed (shown w.sites t i) (standing_deed d) r.centre z k.lines.1 k.ended.1 k.lines.0 k.ended.0 (λ h. k.once.0)

    same : CellsMatch (shown_world w t) z
    same = record { queues = r.cells.queues; cells = subst (λ (cs : List (CellName × VarName)). Cells (managers (shown w.sites t)) (cell_records (shown w.sites t)) w.mail cs) (sym k.cells) r.cells.cells; gets = r.cells.gets; contents = r.cells.contents }

    one : CellsMatch (after_transition (shown_world w t) i (standing_deed d)) z
    one = nothing_match (shown_world w t) z i (standing_deed d) same (record { cell_records = k.still.cell_records; managers = k.still.managers; site = k.still.site; silent = k.still.silent })
        (λ b. subst (λ (x : Site). SameWaiters x.threads (standing d.site.threads) b) (sym at) (k.here b)) k.wider

-- ---- a request or an answer has come

-- it may go: it is about no variable and brings no thread
abbrev pub IsOfKeepers : Msg → Type 0
IsOfKeepers m = IsStanding m → ⊥

pub of_none : (m : Msg) → IsOfKeepers m → IsOfNone m
of_none (msg.PortSend q n k) h = tt
of_none (msg.PortEnd n old new bundle) h = tt
of_none (msg.CellMake c v bundle) h = tt
of_none (msg.CellAsk c n k v bundle) h = tt
of_none (msg.CellOld n v bundle) h = tt
of_none (msg.Spawn n code vars bundle) h = absurd (h tt)
of_none (msg.Register x k) h = absurd (h tt)
of_none (msg.BindReq x n t bundle) h = absurd (h tt)
of_none (msg.Binding x t bundle) h = absurd (h tt)
of_none (msg.Get c k) h = absurd (h tt)
of_none (msg.Forward c k) h = absurd (h tt)
of_none (msg.Put c v bundle) h = absurd (h tt)

pub came : (p : List Stmt) (w : World) (ks : List Pick) (t : Threads) (r : Reached p (shown_world w t) ks) (k i : ℕ) (m : Msg) → IsOfKeepers m → IsOnItsWay w.mail k i m → ReachedAt p (shown_world (after_receipt (Some k) w) t) ks r.centre
came p w ks t r k i m keepers at = record {
  run = r.run;
  parts = parts_gone p (here_at (records w.sites)) (eqs w.sites) (records w.sites) (threads (shown w.sites t)) (counters w.sites) w.mail r.centre r.parts k may;
  numbers = record { below = λ l a o q. r.numbers.below l a o ((gone k w.mail).old l a o q).0; once = λ l a b o x q y. r.numbers.once l a b o x ((gone k w.mail).old l a o q).0 ((gone k w.mail).old l b x y).0 };
  cells = gone_match (shown_world w t) r.centre k i m at (λ o q. let e = r.numbers.once k o.to i o.msg m q at in rw (e.0, e.1) refl) (of_none m keepers) r.cells;
  sums = r.sums;
}
  where
    is_it : (to : ℕ) (o : Msg) → IsOnItsWay w.mail k to o → o ≡ m
    is_it to o q = (r.numbers.once k to i o m q at).1

    may : MayGo (records w.sites) r.centre.equations k w.mail (without_number k w.mail)
    may = record {
      told = λ to o q l x unbound far why. absurd (told to o q l x why);
      bound = λ to x t n b q. absurd (keepers (subst IsStanding (is_it to (msg.BindReq x n t b) q) tt));
      none = λ to n code vars b q. keepers (subst IsStanding (is_it to (msg.Spawn n code vars b) q) tt);
    }
      where
        told : (to : ℕ) (o : Msg) → IsOnItsWay w.mail k to o → (l : ℕ) (x : VarName) → ((o ≡ msg.Register x l) ⊎ ((to ≡ l) × ((t : Term) × (b : List Equation) × (o ≡ msg.Binding x t b)))) → ⊥
        told to o q l x (inl e) = keepers (subst IsStanding (is_it to o q) (subst IsStanding (sym e) tt))
        told to o q l x (inr (f, (t, b, e))) = keepers (subst IsStanding (is_it to o q) (subst IsStanding (sym e) tt))
