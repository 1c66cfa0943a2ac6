-- Lines, ended threads and names of threads, part by part of a turn.
use Rattle.std.proofs.Common.{rules, arith, ◌≡◌, ◌≢◌, ◌∙◌, sym, ap, refl, subst, ℕ, zero, suc, ◌+◌, ◌≤◌, List, [], ◌∷◌, ◌++◌, append-nil, ◌⊎◌, inl, inr, Bool, true, false, cond, Some, None}
use Rattle.std.specs.Prelude.{Option, ◌==◌, option_to_list}
use Rattle.tree_node.specs.declared.names.VarName.{VarName}
use Rattle.tree_node.specs.declared.names.CellName.{CellName}
use Rattle.tree_node.specs.declared.names.ThreadName.{ThreadName}
use Rattle.tree_node.specs.declared.names.NameKind.{NameKind}
use Rattle.tree_node.specs.declared.node.Term.{Term}
use Rattle.tree_node.specs.declared.pick.Pick.{Pick}
use Rattle.tree_node.specs.Assoc.{value_of, with_value, without_key, with_optional_value}
use Rattle.tree_node.specs.Each.{Each, AreDistinct}
use Rattle.tree_node.specs.State.{Stack, State, equal_thread}
use Rattle.tree_node.specs.Store.{Equation}
use Rattle.kernel_syntax.specs.declared.stmt.Stmt.{Stmt}
use Rattle.site_message.specs.declared.message.Msg.{Msg}
use Rattle.site_message.specs.declared.message.Msg.TheVariants as msg
use Rattle.oz_model.specs.Effect.{Effect, Birth, CellChange, Stays, Made, Exchanged, PortChange, Keeps}
use Rattle.oz_model.specs.Step.{stack_with_content, stack_with_end, stack_left, end_count, living_stack, effect_of, next}
use Rattle.bind_protocol.specs.Records.{is_own, knowledge}
use Rattle.bind_protocol.specs.Rows as Rows
use Rattle.site_model.specs.Site.{Site, Threads, ThreadState, thread_state}
use Rattle.thread_roster.specs.declared.mode.Mode.{Mode}
use Rattle.thread_roster.specs.Binds.{goes_on}
use Rattle.thread_roster.specs.Threads.{wake_where}
use Rattle.site_model.specs.Bundle.{message_bundle}
use Rattle.site_model.specs.Bundle as Bundle
use Rattle.site_model.specs.Transition.{Transition, without_output, with_messages, with_pick, and_then}
use Rattle.site_model.specs.Variables.{with_known_equation, with_known_equation_as, with_known_equations, own_binds, opening}
use Rattle.site_model.specs.Cells.{exchange_stack, after_exchange, after_exchange_as, content_after_exchange, serving}
use Rattle.site_model.specs.Messages.{with_thread}
use Rattle.site_model.specs.Unit.{with_fresh_names, birth_row, placement, content_here, after_cell, runnable_state, after_effect, step_row}
use Rattle.world_model.specs.World.{World, Sites, put, after_transition}
use Rattle.world_model.specs.Matches.{ended}
use Rattle.world_model.specs.Schedule.{sum_to}
use Rattle.world_model.proofs.PutLemmas.{nat_decides, at_all, at_here, at_other}
use Rattle.tree_node.proofs.NameLemmas.{same_thread_decides}
pub use Rattle.world_variables.specs.Sums.{names, Sums}

-- ---- names of threads

pub with_names : {V : Type 0} (ts : List (ThreadName × V)) (n : ThreadName) (v : V) → names (with_value equal_thread ts n v) ≡ names ts
with_names [] n v = refl
with_names {V} ((m, u) ∷ ts) n v = go (equal_thread m n) refl (with_names ts n v)
  where
    go : (b : Bool) → equal_thread m n ≡ b → names (with_value equal_thread ts n v) ≡ names ts → names (cond b ((n, v) ∷ ts) ((m, u) ∷ with_value equal_thread ts n v)) ≡ m ∷ names ts
    go true q ih = ap (λ (x : ThreadName). x ∷ names ts) (sym ((same_thread_decides m n).0 q))
    go false q ih = ap (λ (xs : List ThreadName). m ∷ xs) ih

without_each : {V : Type 0} (P : ThreadName → Type 0) (ts : List (ThreadName × V)) (n : ThreadName) → Each P (names ts) → Each P (names (without_key equal_thread ts n))
without_each P [] n h = tt
without_each {V} P ((m, u) ∷ ts) n h = go (equal_thread m n) (without_each P ts n h.1)
  where
    go : (b : Bool) → Each P (names (without_key equal_thread ts n)) → Each P (names (cond b (without_key equal_thread ts n) ((m, u) ∷ without_key equal_thread ts n)))
    go true r = r
    go false r = (h.0, r)

without_once : {V : Type 0} (ts : List (ThreadName × V)) (n : ThreadName) → AreDistinct (names ts) → AreDistinct (names (without_key equal_thread ts n))
without_once [] n h = tt
without_once {V} ((m, u) ∷ ts) n h = go (equal_thread m n) (without_once ts n h.1)
  where
    go : (b : Bool) → AreDistinct (names (without_key equal_thread ts n)) → AreDistinct (names (cond b (without_key equal_thread ts n) ((m, u) ∷ without_key equal_thread ts n)))
    go true r = r
    go false r = (without_each (λ y. m ≢ y) ts n h.0, r)

pub goes_each : {V : Type 0} (P : ThreadName → Type 0) (ts : List (ThreadName × V)) (n : ThreadName) (o : Option V) → Each P (names ts) → Each P (names (with_optional_value equal_thread ts n o))
goes_each P ts n None h = without_each P ts n h
goes_each P ts n (Some v) h = subst (λ (xs : List ThreadName). Each P xs) (sym (with_names ts n v)) h

pub goes_once : {V : Type 0} (ts : List (ThreadName × V)) (n : ThreadName) (o : Option V) → AreDistinct (names ts) → AreDistinct (names (with_optional_value equal_thread ts n o))
goes_once ts n None h = without_once ts n h
goes_once ts n (Some v) h = subst (λ (xs : List ThreadName). AreDistinct xs) (sym (with_names ts n v)) h

pub woken_names : (f : Mode → Bool) (ts : Threads) → names (wake_where f ts) ≡ names ts
woken_names f [] = refl
woken_names f (t ∷ ts) = ap (λ (xs : List ThreadName). t.0 ∷ xs) (woken_names f ts)

pub none_named : {V : Type 0} (ts : List (ThreadName × V)) (n : ThreadName) → value_of equal_thread ts n ≡ None → Each (λ m. n ≢ m) (names ts)
none_named [] n h = tt
none_named {V} ((m, u) ∷ ts) n h = go (equal_thread m n) refl h (λ k. none_named ts n k)
  where
    go : (b : Bool) → equal_thread m n ≡ b → cond b (Some u) (value_of equal_thread ts n) ≡ None → (value_of equal_thread ts n ≡ None → Each (λ m. n ≢ m) (names ts)) → Each (λ m. n ≢ m) (m ∷ names ts)
    go true q k ih = cc
    go false q k ih = ((λ (e : n ≡ m). let yes : equal_thread m n ≡ true = (same_thread_decides m n).1 (sym e) in cc), ih k)

-- ---- what a site keeps

pub record SameSums (s t : Site) : Type 0 where
  pub ended : t.ended ≡ s.ended
  pub names : names t.threads ≡ names s.threads

sums_same : (s : Site) → SameSums s s
sums_same s = record { ended = refl; names = refl }

sums_then : (s t u : Site) → SameSums s t → SameSums t u → SameSums s u
sums_then s t u a b = record { ended = b.ended ∙ a.ended; names = b.names ∙ a.names }

pub told_sums : (s : Site) (x : VarName) (t : Term) → SameSums s (with_known_equation s x t)
told_sums s x t = go (is_own s.records x) (knowledge s.records x)
  where
    go : (o : Bool) (k : Option (Option Term)) → SameSums s (with_known_equation_as o k s x t)
    go true k = sums_same s
    go false None = record { ended = refl; names = woken_names (goes_on ((x, t) ∷ s.equations) x) s.threads }
    go false (Some None) = record { ended = refl; names = woken_names (goes_on ((x, t) ∷ s.equations) x) s.threads }
    go false (Some (Some r)) = sums_same s

pub told_all_sums : (s : Site) (es : List Equation) → SameSums s (with_known_equations s es)
told_all_sums s [] = sums_same s
told_all_sums s (e ∷ es) = sums_then s (with_known_equation s e.0 e.1) (with_known_equations s (e ∷ es)) (told_sums s e.0 e.1) (told_all_sums (with_known_equation s e.0 e.1) es)

binds_each_sums : (limit : ℕ) (es : List Equation) (s : Site) → SameSums s (own_binds limit es s).site
binds_each_sums limit [] s = sums_same s
binds_each_sums limit (e ∷ es) s =
    let ih = binds_each_sums limit es s in
    record { ended = ih.ended; names = woken_names (goes_on (e ∷ (own_binds limit es s).site.equations) e.0) (own_binds limit es s).site.threads ∙ ih.names }

binds_each_lines : (limit : ℕ) (es : List Equation) (s : Site) → (own_binds limit es s).lines ≡ []
binds_each_lines limit [] s = refl
binds_each_lines limit (e ∷ es) s = rw (binds_each_lines limit es s) refl

-- ---- the world and the centre

-- a part of a turn of a site, and what the centre does with it
pub record Summed (s : Site) (d : Transition) (c t : State) : Type 0 where
  pub printed : t.lines ≡ c.lines ++ d.lines
  pub more : ℕ
  pub here : d.site.ended ≡ s.ended + more
  pub there : t.ended ≡ c.ended + more
  pub once : AreDistinct (names s.threads) → AreDistinct (names d.site.threads)

nat_or : (i j : ℕ) → (i ≡ j) ⊎ (i ≢ j)
nat_or i j = go (i == j) refl
  where
    go : (b : Bool) → (i == j) ≡ b → (i ≡ j) ⊎ (i ≢ j)
    go true e = inl ((nat_decides i j).0 e)
    go false e = inr (λ (k : i ≡ j). let yes : (i == j) ≡ true = (nat_decides i j).1 k in cc)

sum_out : (f : Sites) (i : ℕ) (s : Site) (n : ℕ) → ((1 ≤ i) × (i ≤ n) → ⊥) → sum_to n (ended (put f i s)) ≡ sum_to n (ended f)
sum_out f i s zero out = refl
sum_out f i s (suc n) out =
    let rest : sum_to n (ended (put f i s)) ≡ sum_to n (ended f) = sum_out f i s n (λ h. out (h.0, omega (arith, h.1))) in
    let last : (put f i s (suc n)).ended ≡ (f (suc n)).ended = ap (λ (y : Site). y.ended) (at_other f i s (suc n) (λ (e : suc n ≡ i). out (omega (arith, e), omega (arith, e)))) in
    omega (arith, rest, last)

sum_in : (f : Sites) (i : ℕ) (s : Site) (more : ℕ) → s.ended ≡ (f i).ended + more → (n : ℕ) → 1 ≤ i → i ≤ n → sum_to n (ended (put f i s)) ≡ sum_to n (ended f) + more
sum_in f i s more e zero low high = absurd (omega (arith, low, high))
sum_in f i s more e (suc n) low high = go (nat_or i (suc n)) (λ below. sum_in f i s more e n low below)
  where
    go : (i ≡ suc n) ⊎ (i ≢ suc n) → (i ≤ n → sum_to n (ended (put f i s)) ≡ sum_to n (ended f) + more) → sum_to n (ended (put f i s)) + (put f i s (suc n)).ended ≡ sum_to n (ended f) + (f (suc n)).ended + more
    go (inl q) ih =
        let rest : sum_to n (ended (put f i s)) ≡ sum_to n (ended f) = sum_out f i s n (λ h. absurd (omega (arith, h.1, q))) in
        let last : (put f i s (suc n)).ended ≡ s.ended = ap (λ (y : Site). y.ended) (ap (put f i s) (sym q) ∙ at_here f i s) in
        let old : (f (suc n)).ended ≡ (f i).ended = ap (λ (k : ℕ). (f k).ended) (sym q) in
        omega (arith, rest, last, old, e)
    go (inr d) ih =
        let below : i ≤ n = omega (arith, high, d) in
        let rest : sum_to n (ended (put f i s)) ≡ sum_to n (ended f) + more = ih below in
        let last : (put f i s (suc n)).ended ≡ (f (suc n)).ended = ap (λ (y : Site). y.ended) (at_other f i s (suc n) (λ (k : suc n ≡ i). d (sym k))) in
        omega (arith, rest, last)

pub in_or : (i n : ℕ) → ((1 ≤ i) × (i ≤ n)) ⊎ (((1 ≤ i) × (i ≤ n)) → ⊥)
in_or i n = search (rules, arith)

pub sums_row : (w : World) (i : ℕ) (d : Transition) (c t : State) → Summed (w.sites i) d c t → Sums w.sites w.lines c → Sums (after_transition w i d).sites (after_transition w i d).lines t
sums_row w i d c t r h = record {
  printed = r.printed ∙ ap (λ (l : List (List ℕ)). l ++ d.lines) h.printed;
  all_ended = all;
  once = at_all w.sites i d.site (λ (j : ℕ) (s : Site). AreDistinct (names s.threads)) (r.once (h.once i)) (λ j other. h.once j);
}
  where
    all : (n : ℕ) → ((j : ℕ) → ((1 ≤ j) × (j ≤ n) → ⊥) → (put w.sites i d.site j).ended ≡ 0) → t.ended ≡ sum_to n (ended (put w.sites i d.site))
    all n none = go (in_or i n)
      where
        before : (j : ℕ) → ((1 ≤ j) × (j ≤ n) → ⊥) → (w.sites j).ended ≡ 0
        before j out = two (nat_or j i)
          where
            two : (j ≡ i) ⊎ (j ≢ i) → (w.sites j).ended ≡ 0
            two (inl e) =
                let now : (put w.sites i d.site j).ended ≡ d.site.ended = ap (λ (y : Site). y.ended) (ap (put w.sites i d.site) e ∙ at_here w.sites i d.site) in
                let zero_now = none j out in
                let same : (w.sites j).ended ≡ (w.sites i).ended = ap (λ (k : ℕ). (w.sites k).ended) e in
                let step = r.here in
                omega (arith, now, zero_now, same, step)
            two (inr q) = ap (λ (y : Site). y.ended) (sym (at_other w.sites i d.site j q)) ∙ none j out

        was : c.ended ≡ sum_to n (ended w.sites)
        was = h.all_ended n before

        go : ((1 ≤ i) × (i ≤ n)) ⊎ (((1 ≤ i) × (i ≤ n)) → ⊥) → t.ended ≡ sum_to n (ended (put w.sites i d.site))
        go (inl q) = let more = sum_in w.sites i d.site r.more r.here n q.0 q.1 in let on = r.there in let old = was in omega (arith, more, on, old)
        go (inr out) =
            let same = sum_out w.sites i d.site n out in
            let now : (put w.sites i d.site i).ended ≡ d.site.ended = ap (λ (y : Site). y.ended) (at_here w.sites i d.site) in
            let zero_now = none i out in
            let step = r.here in
            let on = r.there in
            let old = was in
            omega (arith, same, now, zero_now, step, on, old)

-- ---- parts that print nothing and end no thread

pub quiet_summed : (s : Site) (d : Transition) (c t : State) → d.lines ≡ [] → d.site.ended ≡ s.ended → t.lines ≡ c.lines → t.ended ≡ c.ended → (AreDistinct (names s.threads) → AreDistinct (names d.site.threads)) → Summed s d c t
quiet_summed s d c t silent same lines ended once = record {
  printed = lines ∙ sym (append-nil c.lines) ∙ ap (λ (l : List (List ℕ)). c.lines ++ l) (sym silent);
  more = 0;
  here = same ∙ omega arith;
  there = ended ∙ omega arith;
  once = once;
}

pub same_summed : (s : Site) (d : Transition) (c t : State) → d.lines ≡ [] → SameSums s d.site → t.lines ≡ c.lines → t.ended ≡ c.ended → Summed s d c t
same_summed s d c t silent same lines ended = quiet_summed s d c t silent same.ended lines ended (λ h. subst (λ (xs : List ThreadName). AreDistinct xs) (sym same.names) h)

pub opens_summed : (m : Msg) (s : Site) (c : State) → Summed s (opening m s) c c
opens_summed m s c = same_summed s (opening m s) c c refl (record { ended = (told_all_sums s (message_bundle m)).ended; names = (told_all_sums s (message_bundle m)).names }) refl refl

-- ---- steps

pub cell_threads : (ch : CellChange) (s : Site) → (after_cell ch s).threads ≡ s.threads
cell_threads Stays s = refl
cell_threads (Made c v) s = refl
cell_threads (Exchanged c new told) s = refl

cell_ended : (ch : CellChange) (s : Site) → (after_cell ch s).ended ≡ s.ended
cell_ended Stays s = refl
cell_ended (Made c v) s = refl
cell_ended (Exchanged c new told) s = refl

ends_same : (v : VarName) (cells : List (CellName × VarName)) (ch : CellChange) (st : Stack) → end_count (exchange_stack v ch st) ≡ end_count (stack_with_content cells ch st)
ends_same v cells Stays st = refl
ends_same v cells (Made c u) st = refl
ends_same v cells (Exchanged c new told) st = refl

-- the thread that is born is not at the site
abbrev pub IsUnborn : Site → Option Birth → Type 0
IsUnborn s None = Unit {0}
IsUnborn s (Some b) = value_of equal_thread s.threads b.name ≡ None

abbrev pub NotNamed : List ThreadName → Option Birth → Type 0
NotNamed ns None = Unit {0}
NotNamed ns (Some b) = Each (λ m. b.name ≢ m) ns

bears_lines : (p : List Stmt) (n limit : ℕ) (o : Option Birth) (s : Site) → (birth_row p n limit o s).lines ≡ []
bears_lines p n limit None s = refl
bears_lines p n limit (Some b) s = go (placement n s.records.site b.at == s.records.site)
  where
    go : (q : Bool) → (cond q (without_output (with_thread p (Some b) s)) (with_messages s (Bundle.with_own_bundle limit s.equations (Rows.sent_message (placement n s.records.site b.at) (msg.Spawn b.name b.code b.vars [])) ∷ []))).lines ≡ []
    go true = refl
    go false = refl

bears_ended : (p : List Stmt) (n limit : ℕ) (o : Option Birth) (s : Site) → (birth_row p n limit o s).site.ended ≡ s.ended
bears_ended p n limit None s = refl
bears_ended p n limit (Some b) s = go (placement n s.records.site b.at == s.records.site)
  where
    go : (q : Bool) → (cond q (without_output (with_thread p (Some b) s)) (with_messages s (Bundle.with_own_bundle limit s.equations (Rows.sent_message (placement n s.records.site b.at) (msg.Spawn b.name b.code b.vars [])) ∷ []))).site.ended ≡ s.ended
    go true = refl
    go false = refl

bears_once : (p : List Stmt) (n limit : ℕ) (o : Option Birth) (s : Site) → NotNamed (names s.threads) o → AreDistinct (names s.threads) → AreDistinct (names (birth_row p n limit o s).site.threads)
bears_once p n limit None s new h = h
bears_once p n limit (Some b) s new h = go (placement n s.records.site b.at == s.records.site)
  where
    go : (q : Bool) → AreDistinct (names (cond q (without_output (with_thread p (Some b) s)) (with_messages s (Bundle.with_own_bundle limit s.equations (Rows.sent_message (placement n s.records.site b.at) (msg.Spawn b.name b.code b.vars [])) ∷ []))).site.threads)
    go true = (new, h)
    go false = h

module _ (p : List Stmt) (n limit : ℕ) (k : Pick) (kinds : List NameKind) (e : Effect) (s : Site) where
  abbrev begun : Transition
  begun = and_then (with_pick (with_fresh_names kinds s) k) (own_binds limit e.adds)

  abbrev stepped : Site
  stepped = after_effect k.thread e begun.site

  abbrev left : Stack
  left = exchange_stack (content_here begun.site e.cell) e.cell e.stack

  begun_sums : SameSums s begun.site
  begun_sums = let h = binds_each_sums limit e.adds (with_fresh_names kinds s) in record { ended = h.ended; names = h.names }

  names_before : names (after_cell e.cell begun.site).threads ≡ names s.threads
  names_before = ap (λ (ts : Threads). names ts) (cell_threads e.cell begun.site) ∙ begun_sums.names

  stepped_once : AreDistinct (names s.threads) → AreDistinct (names stepped.threads)
  stepped_once h = goes_once (after_cell e.cell begun.site).threads k.thread (runnable_state (living_stack left)) (subst (λ (xs : List ThreadName). AreDistinct xs) (sym names_before) h)

  stepped_new : (o : Option Birth) → IsUnborn s o → NotNamed (names stepped.threads) o
  stepped_new None h = tt
  stepped_new (Some b) h = goes_each (λ m. b.name ≢ m) (after_cell e.cell begun.site).threads k.thread (runnable_state (living_stack left)) (subst (λ (xs : List ThreadName). Each (λ m. b.name ≢ m) xs) (sym names_before) (none_named s.threads b.name h))

  pub steps_once : IsUnborn s e.born → AreDistinct (names s.threads) → AreDistinct (names (step_row p n limit k kinds e s).site.threads)
  steps_once new h = bears_once p n limit e.born stepped (stepped_new e.born new) (stepped_once h)

  pub steps_summed : (c : State) → effect_of p c k ≡ e → e.port ≡ Keeps → IsUnborn s e.born → Summed s (step_row p n limit k kinds e s) c (next p c k)
  steps_summed c is keeps new = record {
    printed = ap (λ (y : Effect). c.lines ++ option_to_list y.line) is ∙ ap (λ (l : List (List ℕ)). c.lines ++ l) (sym lines);
    more = end_count left;
    here = bears_ended p n limit e.born stepped ∙ ap (λ (x : ℕ). x + end_count left) (cell_ended e.cell begun.site ∙ begun_sums.ended);
    there = ap (λ (y : Effect). c.ended + end_count (stack_left c y)) is ∙ ap (λ (q : PortChange). c.ended + end_count (stack_with_end c.ports q (stack_with_content c.cells e.cell e.stack))) keeps ∙ ap (λ (x : ℕ). c.ended + x) (sym (ends_same (content_here begun.site e.cell) c.cells e.cell e.stack));
    once = steps_once new;
  }
    where
      lines : (step_row p n limit k kinds e s).lines ≡ option_to_list e.line
      lines = rw (bears_lines p n limit e.born stepped, binds_each_lines limit e.adds (with_fresh_names kinds s)) (append-nil (option_to_list e.line))

-- ---- those that wait for a token are served

pub serves_names : (p : List Stmt) (c : CellName) (ns : List ThreadName) (v : VarName) (s : Site) → names (serving p c ns v s).site.threads ≡ names s.threads
serves_names p c [] v s = refl
serves_names p c (n ∷ ns) v s = serves_names p c ns (content_after_exchange p n v s) (after_exchange p n v s) ∙ one (thread_state s n)
  where
    one : (o : Option ThreadState) → names (after_exchange_as p n v s o).threads ≡ names s.threads
    one None = refl
    one (Some st) = with_names s.threads n _
