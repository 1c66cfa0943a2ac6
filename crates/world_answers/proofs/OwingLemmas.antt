-- How requests and answers are owed in a world: by the machine's steps and by the threads that wait.
use Rattle.std.proofs.Common.{arith, ◌≡◌, ◌∙◌, sym, refl, subst, ℕ, ◌+◌, ◌≤◌, ◌<◌, List, ◌∷◌, ◌++◌, ◌⊎◌, inl, inr, true, Some, length}
use Rattle.std.specs.Prelude.{◌≢◌, Contains}
use Rattle.std.specs.List.{count_by}
use Rattle.tree_node.specs.declared.names.ThreadName.{ThreadName}
use Rattle.tree_node.specs.declared.pick.Pick.{Pick}
use Rattle.tree_node.specs.Assoc.{value_of}
use Rattle.tree_node.specs.Each.{AreDistinct}
use Rattle.tree_node.specs.State.{Stack, State, equal_thread}
use Rattle.tree_node.specs.Store.{Equation}
use Rattle.tree_node.proofs.ClassLemmas.{Contains-cons_cases}
use Rattle.kernel_syntax.specs.declared.stmt.Stmt.{Stmt}
use Rattle.site_message.specs.declared.message.Sent.{Sent}
use Rattle.oz_model.specs.Effect.{Effect}
use Rattle.oz_model.specs.Run.{start, Run as ModelRun}
use Rattle.thread_roster.specs.declared.mode.Awaited.{Awaited}
use Rattle.thread_roster.specs.declared.mode.Mode.TheVariants as mode
use Rattle.site_model.specs.Requests.{Answer}
use Rattle.site_model.specs.Site.{Site}
use Rattle.site_model.specs.Transition.{Transition}
use Rattle.world_model.specs.Claims.{IsAsking, answer, keeper_of}
use Rattle.world_model.specs.Shown.{is_asking}
use Rattle.world_model.specs.World.{World, Sites, IsOnItsWay, threads, after_transition, after_receipt}
use Rattle.world_model.proofs.MailLemmas.{sent_to, from_number, gone}
use Rattle.world_model.proofs.PutLemmas.{at_all}
use Rattle.world_answers.specs.AnswerCounts.{asks_end, tells_end, tells_home, asks_content, tells_content, sends_made, send_one, exchange_one, cell_one, placed_exchanges, placed_cells}
use Rattle.world_answers.specs.Joined.{Joined}
use Rattle.world_answers.proofs.OwedLemmas.{AsksOne, Owes, count_append, counted_append, has_each, left_over, over_distinct, over_from, over_long, over_not}

-- ---- the world

-- the thread waits at its site for an answer of another one
abbrev pub IsAway : Sites → ThreadName → Type 0
IsAway f n = (i : ℕ) × (a : Awaited) × (st : Stack) × IsAsking (threads f) i n a st × (keeper_of a ≢ i)

-- these picks pay for what was told; and as many threads wait, without an answer on its way, as more was asked than answered
pub record Owing (p : List Stmt) (w : World) (ks : List Pick) (out : List Sent) : Type 0 where
  pub ends : count_by tells_end out ≤ sends_made p (start p) ks
  pub olds : count_by tells_content out ≤ placed_exchanges p (start p) ks
  pub homes : count_by tells_home out ≤ placed_cells p (start p) ks
  pub asking : List ThreadName
  pub distinct : AreDistinct asking
  pub waits : (n : ThreadName) → Contains asking n → IsAway w.sites n
  pub unanswered : (n : ThreadName) → Contains asking n → (k to : ℕ) (x : Answer) (bundle : List Equation) → IsOnItsWay w.mail k to (answer n x bundle) → ⊥
  pub few : count_by asks_end out + count_by asks_content out ≤ count_by tells_end out + count_by tells_content out + length asking

-- ---- the whole

-- the world was reached by these picks, and so much is owed
pub record Owed (p : List Stmt) (w : World) (ks : List Pick) (out : List Sent) : Type 0 where
  pub joined : Joined p w ks
  pub owing : Owing p w ks out

abbrev pub owing_received : (p : List Stmt) (w : World) (ks : List Pick) (out : List Sent) (k : ℕ) → Owing p w ks out → Owing p (after_receipt (Some k) w) ks out
owing_received p w ks out k o = record {
  ends = o.ends;
  olds = o.olds;
  homes = o.homes;
  asking = o.asking;
  distinct = o.distinct;
  waits = o.waits;
  unanswered = λ n h l to x bundle q. o.unanswered n h l to x bundle ((gone k w.mail).old l to (answer n x bundle) q).0;
  few = o.few;
}

module _ (p : List Stmt) (w : World) (ks : List Pick) (out : List Sent) (c : State) (run : ModelRun p ks c) (o : Owing p w ks out) (i : ℕ) (d : Transition) (number : (w.sites i).records.site ≡ i) where
  abbrev v : World
  v = after_transition w i d

  pub owing_served : (served : List ThreadName) (back : ThreadName → Type 0) → ((n : ThreadName) → back n → Contains o.asking n → ⊥) → Owes p (w.sites i) c d served back → Owing p v (ks ++ d.picks) (out ++ d.sent)
  owing_served served back apart q = record {
    ends = (let l = count_append tells_end out d.sent in let r = counted_append (λ (x : Effect). send_one x.port) p ks d.picks (start p) c run in let x = o.ends in let y = q.ends in omega (arith, l, r, x, y));
    olds = (let l = count_append tells_content out d.sent in let r = counted_append (λ (x : Effect). exchange_one x.cell) p ks d.picks (start p) c run in let x = o.olds in let y = q.olds in omega (arith, l, r, x, y));
    homes = (let l = count_append tells_home out d.sent in let r = counted_append (λ (x : Effect). cell_one x.cell) p ks d.picks (start p) c run in let x = o.homes in let y = q.homes in omega (arith, l, r, x, y));
    asking = left_over served o.asking;
    distinct = over_distinct served o.asking o.distinct;
    waits = λ n h. waits n (over_from served o.asking n h);
    unanswered = λ n h k to x bundle r. unanswered n h k to x bundle (from_number w.mail w.sent d.sent k to (answer n x bundle) r);
    few = (
        let a = count_append asks_end out d.sent in
        let b = count_append asks_content out d.sent in
        let e = count_append tells_end out d.sent in
        let f = count_append tells_content out d.sent in
        let long = over_long served o.asking in
        let before = o.few in
        let none = q.asks in
        let some = q.answers in omega (arith, a, b, e, f, long, before, none, some)
        );
  }
    where
      waits : (n : ThreadName) → Contains o.asking n → IsAway v.sites n
      waits n h = go (o.waits n h)
        where
          go : IsAway w.sites n → IsAway v.sites n
          go (l, a, st, at, far) = (
            l,
            a,
            st,
            at_all w.sites i d.site (λ l (t : Site). IsAsking (threads w.sites) l n a st → keeper_of a ≢ l → (value_of equal_thread t.threads n ≡ Some (st, mode.WaitsFor a)) × (is_asking (mode.WaitsFor a) ≡ true))
                (λ g own. (q.waits a g.1 (λ z. own (z ∙ number)) n (λ b. apart n b h) st g.0, g.1)) (λ l other g own. g) l at far,
            far,
          )

      unanswered : (n : ThreadName) → Contains (left_over served o.asking) n → (k to : ℕ) (x : Answer) (bundle : List Equation) → IsOnItsWay w.mail k to (answer n x bundle) ⊎ (Contains d.sent (sent_to to (answer n x bundle)) × (w.sent ≤ k) × (k < w.sent + length d.sent)) → ⊥
      unanswered n h k to x bundle (inl r) = o.unanswered n (over_from served o.asking n h) k to x bundle r
      unanswered n h k to x bundle (inr r) = over_not served o.asking n o.distinct h (q.only to n x bundle r.0)

  pub owing_asked : (n : ThreadName) → ((k : ℕ) (a : Awaited) (st : Stack) → IsAsking (threads w.sites) k n a st → ⊥) → ((k to : ℕ) (x : Answer) (bundle : List Equation) → IsOnItsWay w.mail k to (answer n x bundle) → ⊥) → AsksOne (w.sites i) d n →
      Owing p v (ks ++ d.picks) (out ++ d.sent)
  owing_asked n nowhere quiet q = record {
    ends = (let l = count_append tells_end out d.sent in let r = counted_append (λ (x : Effect). send_one x.port) p ks d.picks (start p) c run in let x = o.ends in let y = q.tells.0 in omega (arith, l, r, x, y));
    olds = (let l = count_append tells_content out d.sent in let r = counted_append (λ (x : Effect). exchange_one x.cell) p ks d.picks (start p) c run in let x = o.olds in let y = q.tells.1 in omega (arith, l, r, x, y));
    homes = (let l = count_append tells_home out d.sent in let r = counted_append (λ (x : Effect). cell_one x.cell) p ks d.picks (start p) c run in let x = o.homes in let y = q.tells.2 in omega (arith, l, r, x, y));
    asking = n ∷ o.asking;
    distinct = (has_each (λ y. n ≢ y) o.asking (λ m h same. new m h same), o.distinct);
    waits = λ m h. waits m (Contains-cons_cases n m o.asking h);
    unanswered = λ m h k to x bundle r. unanswered m (Contains-cons_cases n m o.asking h) k to x bundle (from_number w.mail w.sent d.sent k to (answer m x bundle) r);
    few = (
        let a = count_append asks_end out d.sent in
        let b = count_append asks_content out d.sent in
        let e = count_append tells_end out d.sent in
        let f = count_append tells_content out d.sent in
        let before = o.few in
        let some = q.one in omega (arith, a, b, e, f, before, some)
        );
  }
    where
      new : (m : ThreadName) → Contains o.asking m → n ≢ m
      new m h same = let g = o.waits m h in nowhere g.0 g.1 g.2 (subst (λ (x : ThreadName). IsAsking (threads w.sites) g.0 x g.1 g.2) (sym same) g.3)

      waits : (m : ThreadName) → (n ≡ m) ⊎ Contains o.asking m → IsAway v.sites m
      waits m (inl same) = subst (IsAway v.sites) same (
        i,
        q.now.0,
        q.now.1,
        at_all w.sites i d.site (λ l (t : Site). l ≡ i → (value_of equal_thread t.threads n ≡ Some (q.now.1, mode.WaitsFor q.now.0)) × (is_asking (mode.WaitsFor q.now.0) ≡ true)) (λ e. (q.now.2, q.now.3)) (λ l other e. absurd (other e)) i refl,
        λ e. q.now.4 (e ∙ sym number),
      )
      waits m (inr h) = go (o.waits m h)
        where
          go : IsAway w.sites m → IsAway v.sites m
          go (l, a, st, at, far) = (
            l,
            a,
            st,
            at_all w.sites i d.site (λ l (t : Site). IsAsking (threads w.sites) l m a st → (value_of equal_thread t.threads m ≡ Some (st, mode.WaitsFor a)) × (is_asking (mode.WaitsFor a) ≡ true)) (λ g. (q.waits a m st g.0, g.1)) (λ l other g. g) l at,
            far,
          )

      unanswered : (m : ThreadName) → (n ≡ m) ⊎ Contains o.asking m → (k to : ℕ) (x : Answer) (bundle : List Equation) → IsOnItsWay w.mail k to (answer m x bundle) ⊎ (Contains d.sent (sent_to to (answer m x bundle)) × (w.sent ≤ k) × (k < w.sent + length d.sent)) → ⊥
      unanswered m h k to x bundle (inr r) = q.none to m x bundle r.0
      unanswered m (inl same) k to x bundle (inl r) = quiet k to x bundle (subst (λ (y : ThreadName). IsOnItsWay w.mail k to (answer y x bundle)) (sym same) r)
      unanswered m (inr h) k to x bundle (inl r) = o.unanswered m h k to x bundle r
