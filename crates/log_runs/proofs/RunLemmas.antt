-- What a log tells is a run.
use Rattle.std.proofs.Common.{◌≡◌, ◌∙◌, ℕ, List, [], ◌∷◌, ◌++◌, Bool, true, false, cond, eqb, eqb-true, eq-eqb, ne_eqb, Option, Some, None, refl, sym, ap, subst, ⊎_elim, append_assoc}
use Rattle.std.specs.Prelude.{◌≢◌, ◌&&◌, ◌||◌, ◌==◌, slice_get, length, is_none}
use Rattle.std.proofs.lemmas.Bool.{or_cases, false_from_ne_true}
use Rattle.kernel_syntax.specs.declared.stmt.Stmt.{Stmt}
use Rattle.tree_node.specs.Each.{Each}
use Rattle.site_message.specs.declared.limits.Limits.{Limits}
use Rattle.site_message.specs.declared.message.Msg.{Msg}
use Rattle.site_message.specs.declared.message.Sent.{Sent}
use Rattle.site_message.specs.declared.reason.Reason.{Reason}
use Rattle.site_message.specs.declared.turn.Turn.{Turn}
use Rattle.site_message.specs.EarlierEnd.{HasNoEarlierEnd}
use Rattle.site_message.specs.Journal.{sent_of, is_number, was_delivered, DeliversOnce, Wired, end_of}
use Rattle.site_message.specs.Story.{own}
use Rattle.site_message.proofs.JournalLemmas.{own_this, sent_more, this_number}
use Rattle.site_model.specs.Bundle.{bundle_limit}
use Rattle.site_model.specs.Site.{Site}
use Rattle.site_model.specs.Turn.{SiteTurnOf}
use Rattle.site_model.specs.Run.{SiteRun, IsEntry, IsSiteIn, delivered_message, message_of}
use Rattle.site_model.proofs.RunLemmas.{run_skip, run_entry}
use Rattle.log_runs.specs.Log.{told, LogEntry, counts, run_of, Made, turns_of, state_after, AreMadeBy, IsNextMade, IsOneMore, IsLogOf, IsOwnMore, IsSiteLog}
use Rattle.log_runs.specs.Laws.{LogsAreRuns, FrontsAreLogs, SitesJoin}
use Rattle.log_runs.proofs.LogLemmas.{told_all, sent_told, end_told, run_true, run_false, same_in_log}

some_same : {X : Type 0} (x y : X) → Some x ≡ Some y → x ≡ y
some_same x y e = cc

-- ---- own turns

own_other : (i : ℕ) (e : Turn) (j : List Turn) → eqb e.site i ≡ false → own i (e ∷ j) ≡ own i j
own_other i e j is = ap (λ (b : Bool). cond b (e ∷ own i j) (own i j)) is

or_true : (b : Bool) → (b || true) ≡ true
or_true true = refl
or_true false = refl

own_delivered : (i k : ℕ) (e : Turn) (j : List Turn) (b : Bool) → eqb e.site i ≡ b → was_delivered (own i j) k ≡ true → was_delivered (own i (e ∷ j)) k ≡ true
own_delivered i k e j true is h = rw is (rw h (or_true (is_number e.delivered k)))
own_delivered i k e j false is h = rw is h

-- in a lawful journal a message is delivered by turns of the site that it was sent to alone
before_own : (j : List Turn) (i k : ℕ) → Wired j → ((m : Sent) → slice_get (sent_of j) k ≡ Some m → m.to ≡ i) → was_delivered j k ≡ true → was_delivered (own i j) k ≡ true
before_own [] i k wired to d = d
before_own (e ∷ j) i k wired to d =
    ⊎_elim
    (λ (h : is_number e.delivered k ≡ true).
    (let t = wired.1 k (this_number e.delivered k h) in
    let more : slice_get (sent_of j ++ e.sent) k ≡ Some t.0 = sent_more (sent_of j) e.sent k t.0 t.1.0 in
    let here : e.site ≡ i = sym t.2 ∙ to t.0 more in
    subst (λ (l : List Turn). was_delivered l k ≡ true) (sym (own_this i e j here)) (rw h refl)))
    (λ (h : was_delivered j k ≡ true).
    own_delivered i k e j (eqb e.site i) refl (before_own j i k wired.0 (λ m at. to m (sent_more (sent_of j) e.sent k m at)) h))
    (or_cases (is_number e.delivered k) (was_delivered j k) d)

delivered_own : (j : List Turn) (i k : ℕ) (m : Sent) → Wired j → slice_get (sent_of j) k ≡ Some m → m.to ≡ i → was_delivered j k ≡ true → was_delivered (own i j) k ≡ true
delivered_own j i k m wired at to d =
    before_own j i k wired (λ x there. (let same : x ≡ m = some_same x m (sym there ∙ at) in ap (λ (z : Sent). z.to) same ∙ to)) d

-- ---- the end

goes_on : (o : Option Reason) → is_none o ≡ true → o ≡ None
goes_on None h = refl
goes_on (Some r) h = absurd (cc)

and_first : (a b : Bool) → (a && b) ≡ true → a ≡ true
and_first true b h = refl
and_first false b h = h

-- ---- fewer turns

-- what was made holds of fewer turns
fewer : (p : List Stmt) (l : Limits) (i : ℕ) (b : Bool) (es : List LogEntry) (e : LogEntry) (old j : List Turn) (u v : ℕ → List Made) → IsOneMore b es e old j u v → AreMadeBy p l i (v i) → AreMadeBy p l i (u i)
fewer p l i false es e old j u v more made = subst (λ (ms : List Made). AreMadeBy p l i ms) (more.1 i) made
fewer p l i true es e old j u v more made = go (eqb i e.turn.site) refl
  where
    go : (b : Bool) → eqb i e.turn.site ≡ b → AreMadeBy p l i (u i)
    go true is =
        let here : i ≡ e.turn.site = eqb-true i e.turn.site is in
        let long : v i ≡ more.made ∷ u i = subst (λ (k : ℕ). v k ≡ more.made ∷ u k) (sym here) more.own_turns in
        (subst (λ (ms : List Made). AreMadeBy p l i ms) long made).0
    go false is =
        let apart : i ≢ e.turn.site = λ same. (let t = eq-eqb i e.turn.site same in let contrary : true ≡ false = sym t ∙ is in cc) in
        subst (λ (ms : List Made). AreMadeBy p l i ms) (more.others i apart) made

-- ---- the law

-- the turns of the journal are a run, the log tells them, and those of each site are the ones that it made
record HasRuns (p : List Stmt) (l : Limits) (log : List LogEntry) (j : List Turn) (v : ℕ → List Made) : Type 0 where
  tells : run_of l log ≡ told_all j
  wired : Wired j
  sites : Each (IsSiteIn l.sites) j
  went : HasNoEarlierEnd l j
  runs : (i : ℕ) → SiteRun p l.sites bundle_limit i j (state_after p l.sites i (v i))
  owned : (i : ℕ) → own i j ≡ turns_of (v i)

-- a message in the part that was read is one of the journal, with its number
same_sent : (p : List Stmt) (l : Limits) (es : List LogEntry) (j : List Turn) (u : ℕ → List Made) → HasRuns p l es j u → (read later : List LogEntry) → es ≡ later ++ read
    → (k : ℕ) (m : Sent) → slice_get (sent_of (run_of l read)) k ≡ Some m → slice_get (sent_of j) k ≡ Some m
same_sent p l es j u before read later is k m e =
    ap (λ (ms : List Sent). slice_get ms k) (sym (ap sent_of before.tells ∙ sent_told j)) ∙ same_in_log l es read later is k m e

same_message : (p : List Stmt) (l : Limits) (es : List LogEntry) (j : List Turn) (u : ℕ → List Made) → HasRuns p l es j u → (read later : List LogEntry) → es ≡ later ++ read → (o : Option ℕ)
    → ((k : ℕ) → o ≡ Some k → (x : Sent) × (slice_get (sent_of (run_of l read)) k ≡ Some x)) → delivered_message (run_of l read) o ≡ delivered_message j o
same_message p l es j u before read later is None at = refl
same_message p l es j u before read later is (Some k) at =
    let t = at k refl in
    ap message_of (t.1 ∙ sym (same_sent p l es j u before read later is k t.0 t.1))

-- one turn more
step : (p : List Stmt) (l : Limits) (es : List LogEntry) (e : LogEntry) (j new : List Turn) (u v : ℕ → List Made) → HasRuns p l es j u → counts l (run_of l es) e ≡ true → IsNextMade es e j new u v
    → ((i : ℕ) → AreMadeBy p l i (v i)) → HasRuns p l (e ∷ es) new v
step p l es e j new u v before is next made =
    let i = e.turn.site in
    let m = next.made in
    let same_site : m.turn.site ≡ i = sym (ap (λ (z : Turn). z.site) next.tells) in
    let behind = (subst (λ (ms : List Made). AreMadeBy p l i ms) next.own_turns (made i)).1 in
    let once : DeliversOnce j m.turn =
    λ k delivers.
    (let t = behind.anew k delivers in
    let at = same_sent p l es j u before m.read next.later next.behind k t.0 t.1 in
    let new_here : was_delivered j k ≡ false =
    false_from_ne_true (was_delivered j k) (λ h.
    (let d = delivered_own j i k t.0 before.wired at t.2 h in
    let contrary : true ≡ false = sym d ∙ (ap (λ (ts : List Turn). was_delivered ts k) (before.owned i) ∙ t.3) in
    cc)) in
    (t.0, (at, new_here), t.2 ∙ sym same_site)) in
    let message : delivered_message (run_of l m.read) m.turn.delivered ≡ delivered_message j m.turn.delivered =
    same_message p l es j u before m.read next.later next.behind m.turn.delivered (λ k delivers. (let t = behind.anew k delivers in (t.0, t.1))) in
    let entry : IsEntry p l.sites bundle_limit j m.turn (state_after p l.sites i (u i)) m.after = (
      behind.entry.0,
      subst (λ (o : Option Msg). SiteTurnOf p l.sites bundle_limit m.turn.units (state_after p l.sites i (u i)) o behind.entry.0) message behind.entry.1,
      behind.entry.2,
      behind.entry.3,
    ) in
    let ends : end_of l j ≡ None = sym (ap (end_of l) before.tells ∙ end_told l j) ∙ goes_on (end_of l (run_of l es)) (and_first (is_none (end_of l (run_of l es))) (e.place == length (own i (run_of l es))) is) in
    let whole : HasRuns p l (e ∷ es) (m.turn ∷ j) v = record {
      tells = run_true l e es is ∙ (ap (λ (t : Turn). t ∷ run_of l es) next.tells ∙ ap (λ (ts : List Turn). told m.turn ∷ ts) before.tells);
      wired = (before.wired, once);
      sites = (behind.within, before.sites);
      went = (before.went, ends);
      runs = λ k. runs k (eqb m.turn.site k) refl same_site entry;
      owned = λ k. owns k (eqb m.turn.site k) refl same_site;
    } in
    subst (λ (ts : List Turn). HasRuns p l (e ∷ es) ts v) (sym next.journal) whole
  where
    others : (k : ℕ) → eqb next.made.turn.site k ≡ false → next.made.turn.site ≡ e.turn.site → v k ≡ u k
    others k apart same =
        next.others k (λ here. (let t = eq-eqb next.made.turn.site k (same ∙ sym here) in let contrary : true ≡ false = sym t ∙ apart in cc))

    runs : (k : ℕ) (b : Bool) → eqb next.made.turn.site k ≡ b → next.made.turn.site ≡ e.turn.site
        → IsEntry p l.sites bundle_limit j next.made.turn (state_after p l.sites e.turn.site (u e.turn.site)) next.made.after
        → SiteRun p l.sites bundle_limit k (next.made.turn ∷ j) (state_after p l.sites k (v k))
    runs k true at same entry =
        let here : e.turn.site ≡ k = sym same ∙ eqb-true next.made.turn.site k at in
        let long : state_after p l.sites e.turn.site (v e.turn.site) ≡ next.made.after = ap (λ (ms : List Made). state_after p l.sites e.turn.site ms) next.own_turns in
        let mine = run_entry p l.sites bundle_limit e.turn.site next.made.turn j (state_after p l.sites e.turn.site (u e.turn.site)) next.made.after same (before.runs e.turn.site) entry in
        subst (λ (i : ℕ). SiteRun p l.sites bundle_limit i (next.made.turn ∷ j) (state_after p l.sites i (v i))) here
        (subst (λ (s : Site). SiteRun p l.sites bundle_limit e.turn.site (next.made.turn ∷ j) s) (sym long) mine)
    runs k false at same entry =
        run_skip p l.sites bundle_limit k next.made.turn j (state_after p l.sites k (v k)) at
        (subst (λ (ms : List Made). SiteRun p l.sites bundle_limit k j (state_after p l.sites k ms)) (sym (others k at same)) (before.runs k))

    owns : (k : ℕ) (b : Bool) → eqb next.made.turn.site k ≡ b → next.made.turn.site ≡ e.turn.site → own k (next.made.turn ∷ j) ≡ turns_of (v k)
    owns k true at same =
        let here : e.turn.site ≡ k = sym same ∙ eqb-true next.made.turn.site k at in
        let mine : own e.turn.site (next.made.turn ∷ j) ≡ turns_of (v e.turn.site) =
        own_this e.turn.site next.made.turn j same ∙ (ap (λ (ts : List Turn). next.made.turn ∷ ts) (before.owned e.turn.site) ∙ sym (ap turns_of next.own_turns)) in
        subst (λ (i : ℕ). own i (next.made.turn ∷ j) ≡ turns_of (v i)) here mine
    owns k false at same = own_other k next.made.turn j at ∙ (before.owned k ∙ sym (ap turns_of (others k at same)))

one_more : (p : List Stmt) (l : Limits) (es : List LogEntry) (e : LogEntry) (j new : List Turn) (u v : ℕ → List Made) (b : Bool) → counts l (run_of l es) e ≡ b → HasRuns p l es j u → IsOneMore b es e j new u v
    → ((i : ℕ) → AreMadeBy p l i (v i)) → HasRuns p l (e ∷ es) new v
one_more p l es e j new u v true is before next made = step p l es e j new u v before is next made
one_more p l es e j new u v false is before same made =
    let still : HasRuns p l (e ∷ es) j v = record {
      tells = run_false l e es is ∙ before.tells;
      wired = before.wired;
      sites = before.sites;
      went = before.went;
      runs = λ i. subst (λ (ms : List Made). SiteRun p l.sites bundle_limit i j (state_after p l.sites i ms)) (sym (same.1 i)) (before.runs i);
      owned = λ i. before.owned i ∙ sym (ap turns_of (same.1 i));
    } in
    subst (λ (ts : List Turn). HasRuns p l (e ∷ es) ts v) (sym same.0) still

none_made : (p : List Stmt) (l : Limits) (v : ℕ → List Made) → ((i : ℕ) → v i ≡ []) → HasRuns p l [] [] v
none_made p l v none = record {
  tells = refl;
  wired = tt;
  sites = tt;
  went = tt;
  runs = λ i. ap (λ (ms : List Made). state_after p l.sites i ms) (none i);
  owned = λ i. sym (ap turns_of (none i));
}

has_runs : (p : List Stmt) (l : Limits) (log : List LogEntry) (j : List Turn) (v : ℕ → List Made) → IsLogOf l log j v → ((i : ℕ) → AreMadeBy p l i (v i)) → HasRuns p l log j v
has_runs p l [] j v is made = subst (λ (ts : List Turn). HasRuns p l [] ts v) (sym is.0) (none_made p l v is.1)
has_runs p l (e ∷ es) j v is made =
    let old = is.0 in
    let u = is.1 in
    let b = counts l (run_of l es) e in
    let before = has_runs p l es old u is.2 (λ i. fewer p l i b es e old j u v is.3 (made i)) in
    one_more p l es e old j u v b refl before is.3 made

pub logs_are_runs : LogsAreRuns
logs_are_runs p l log j v is made =
    let t = has_runs p l log j v is made in
    (record { wired = t.wired; sites = t.sites; runs = t.runs }, t.went, t.tells)

-- ---- fronts

-- an entry adds a turn to the journal, or none
adds : (b : Bool) (es : List LogEntry) (e : LogEntry) (old j : List Turn) (u v : ℕ → List Made) → IsOneMore b es e old j u v → (more : List Turn) × (j ≡ more ++ old)
adds true es e old j u v next = (next.made.turn ∷ [], next.journal)
adds false es e old j u v same = ([], same.0)

pub fronts_are_logs : FrontsAreLogs
fronts_are_logs p l [] es j v is made = ([], j, v, refl, is, made)
fronts_are_logs p l (e ∷ later) es j v is made =
    let old = is.0 in
    let u = is.1 in
    let b = counts l (run_of l (later ++ es)) e in
    let t = fronts_are_logs p l later es old u is.2 (λ i. fewer p l i b (later ++ es) e old j u v is.3 (made i)) in
    let a = adds b (later ++ es) e old j u v is.3 in
    (a.0 ++ t.0, t.1, t.2, a.1 ∙ (ap (λ (ts : List Turn). a.0 ++ ts) t.3 ∙ sym (append_assoc a.0 t.0 t.1)), t.4, t.5)

-- ---- each site for itself

-- one site's turns before its last one, and those of the others as they are
abbrev without_last : ℕ → List Made → (ℕ → List Made) → ℕ → List Made
without_last i before v k = cond (eqb k i) before (v k)

joined : (l : Limits) (e : LogEntry) (es : List LogEntry) (v : ℕ → List Made) (b : Bool) → counts l (run_of l es) e ≡ b → ((i : ℕ) → IsSiteLog l i (e ∷ es) (v i))
    → ((u : ℕ → List Made) → ((i : ℕ) → IsSiteLog l i es (u i)) → (j : List Turn) × IsLogOf l es j u) → (j : List Turn) × IsLogOf l (e ∷ es) j v
joined l e es v false is each before =
    let none : (i : ℕ) → IsSiteLog l i es (v i) = λ i. subst (λ (b : Bool). IsOwnMore (b && (e.turn.site == i)) es e (IsSiteLog l i es) (v i)) is (each i) in
    let old = before v none in
    let same : IsOneMore false es e old.0 old.0 v v = (refl, λ i. refl) in
    (old.0, (old.0, v, old.1, subst (λ (b : Bool). IsOneMore b es e old.0 old.0 v v) (sym is) same))
joined l e es v true is each before =
    let i = e.turn.site in
    let counted : (k : ℕ) → IsOwnMore (eqb i k) es e (IsSiteLog l k es) (v k) = λ k. subst (λ (b : Bool). IsOwnMore (b && (e.turn.site == k)) es e (IsSiteLog l k es) (v k)) is (each k) in
    let mine : IsOwnMore true es e (IsSiteLog l i es) (v i) = subst (λ (b : Bool). IsOwnMore b es e (IsSiteLog l i es) (v i)) (eq-eqb i i refl) (counted i) in
    let u : ℕ → List Made = without_last i mine.1 v in
    let still : (k : ℕ) → IsSiteLog l k es (u k) = λ k. own_or_other k (eqb k i) refl mine.1 mine.5 (counted k) in
    let old = before u still in
    let next : IsNextMade es e old.0 (mine.0.turn ∷ old.0) u v = record {
      made = mine.0;
      tells = mine.3;
      later = mine.4.0;
      behind = mine.4.1;
      journal = refl;
      own_turns = mine.2 ∙ ap (λ (b : Bool). mine.0 ∷ cond b mine.1 (v i)) (sym (eq-eqb i i refl));
      others = λ k apart. sym (ap (λ (b : Bool). cond b mine.1 (v k)) (ne_eqb k i apart));
    } in
    (mine.0.turn ∷ old.0, (old.0, u, old.1, subst (λ (b : Bool). IsOneMore b es e old.0 (mine.0.turn ∷ old.0) u v) (sym is) next))
  where
    own_or_other : (k : ℕ) (b : Bool) → eqb k e.turn.site ≡ b → (less : List Made) → IsSiteLog l e.turn.site es less → IsOwnMore (eqb e.turn.site k) es e (IsSiteLog l k es) (v k)
        → IsSiteLog l k es (without_last e.turn.site less v k)
    own_or_other k true same less mine other =
        subst (λ (b : Bool). IsSiteLog l k es (cond b less (v k))) (sym same)
        (subst (λ (n : ℕ). IsSiteLog l n es less) (sym (eqb-true k e.turn.site same)) mine)
    own_or_other k false apart less mine other =
        let no : e.turn.site ≢ k = λ here. (let t = eq-eqb k e.turn.site (sym here) in let contrary : true ≡ false = sym t ∙ apart in cc) in
        subst (λ (b : Bool). IsSiteLog l k es (cond b less (v k))) (sym apart)
        (subst (λ (b : Bool). IsOwnMore b es e (IsSiteLog l k es) (v k)) (ne_eqb e.turn.site k no) other)

pub sites_join : SitesJoin
sites_join l [] v each = ([], (refl, each))
sites_join l (e ∷ es) v each = joined l e es v (counts l (run_of l es) e) refl each (λ u before. sites_join l es u before)
