-- A world in which a thread of a site was passed by.
use Rattle.std.proofs.Common.{arith, ◌≡◌, ◌≢◌, ◌∙◌, sym, ap, refl, subst, ℕ, zero, suc, ◌+◌, ◌-◌, ◌<◌, ◌≤◌, List, [], ◌∷◌, length, length-set, map, get_or, Bool}
use Rattle.std.specs.Prelude.{Option, Some, None, slice_get, slice_set}
use Rattle.std.proofs.lemmas.Option.{slice_get_read}
use Rattle.tree_node.specs.declared.names.ThreadName.{ThreadName}
use Rattle.kernel_syntax.specs.declared.stmt.Stmt.{Stmt}
use Rattle.site_message.specs.declared.story.NoSeat.{NoSeat}
use Rattle.site_message.specs.declared.turn.Turn.{Turn}
use Rattle.site_model.specs.Bundle.{bundle_limit}
use Rattle.site_model.specs.Site.{Site}
use Rattle.site_model.specs.Run.{WorldRun}
use Rattle.site_core.specs.Site.{SiteState}
use Rattle.site_core.specs.Start.{first_order}
use Rattle.thread_roster.specs.Order.{rotated}
use Rattle.world_core.specs.Mail.{MailState}
use Rattle.world_core.specs.World.{IsConsistent, IsLive, IsSiteOf, state_in, states_by, order_in, orders_by}
use Rattle.world_core.proofs.PlaceLemmas.{set_all, read_there, read_same}
use Rattle.bind_protocol.proofs.ListLemmas.{set_here, set_other}

-- where one item is changed, and of it nothing that is told
told_same : {X Y : Type 0} (f : X → Y) (xs : List X) (k : ℕ) (x y : X) → slice_get xs k ≡ Some x → f y ≡ f x → map f (slice_set xs k y) ≡ map f xs
told_same f [] k x y at e = cc
told_same f (z ∷ zs) zero x y at e = let same : z ≡ x = cc in ap (λ v. v ∷ map f zs) (e ∙ ap f (sym same))
told_same f (z ∷ zs) (suc k) x y at e = ap (λ vs. f z ∷ vs) (told_same f zs k x y at e)

-- what it leaves, where the state of the site stands at the place x
pub record Passed (p : List Stmt) (j : List Turn) (ss : List (SiteState NoSeat)) (mail : MailState) (sent : ℕ) (spent : Bool) (site x : ℕ) (t : SiteState NoSeat) : Type 0 where
  pub consistent : IsConsistent p j (slice_set ss x t) mail sent spent
  pub states : map state_in (slice_set ss x t) ≡ map state_in ss
  pub here : orders_by (map order_in (slice_set ss x t)) site ≡ rotated (orders_by (map order_in ss) site)
  pub others : (i : ℕ) → i ≢ site → orders_by (map order_in (slice_set ss x t)) i ≡ orders_by (map order_in ss) i

-- of the site behind the place i, whose threads were turned
module _ (p : List Stmt) (j : List Turn) (ss : List (SiteState NoSeat)) (mail : MailState) (sent : ℕ) (spent : Bool) (k : IsConsistent p j ss mail sent spent)
    (i : ℕ) (inside : i < length ss) (s t : SiteState NoSeat) (at : slice_get ss i ≡ Some s) (turned : t ≡ record s { order = rotated s.order }) where
  long : length (slice_set ss i t) ≡ length ss
  long = length-set ss i t

  states_same : map state_in (slice_set ss i t) ≡ map state_in ss
  states_same = told_same state_in ss i s t at (ap state_in turned)

  live_same : IsLive p (length ss) j ss mail sent → IsLive p (length (slice_set ss i t)) j (slice_set ss i t) mail sent
  live_same h = record {
    run = subst (λ (z : ℕ × List Site). WorldRun p z.0 bundle_limit j (states_by p z.0 z.1)) (λ r. (sym long r, sym states_same r)) h.run;
    each = set_all (IsSiteOf p (length (slice_set ss i t))) ss i t (λ x y is. subst (λ (m : ℕ). IsSiteOf p m y) (sym long) (h.each x y is))
        (subst (λ (u : SiteState NoSeat). IsSiteOf p (length (slice_set ss i t)) u) (sym turned)
        (subst (λ (m : ℕ). IsSiteOf p m s) (sym long) (h.each i s at)));
    count = h.count;
    queues = h.queues ∙ ap (λ (m : ℕ). m + 1) (sym long);
    travels = h.travels;
  }

  passed : Passed p j ss mail sent spent (suc i) i t
  passed = record {
    consistent = record {
      program = k.program;
      range = (let r = k.range.0 in omega (arith, long, r), let r = k.range.1 in omega (arith, long, r));
      run = subst (λ (n : ℕ). (w : ℕ → Site) × WorldRun p n bundle_limit j w) (sym long) k.run;
      live = λ e. live_same (k.live e);
    };
    states = states_same;
    here = read_there order_in (slice_set ss i t) i t (first_order (suc i)) (set_here ss i t inside) ∙ ap order_in turned ∙ ap rotated (sym (read_there order_in ss i s (first_order (suc i)) at));
    others = λ x other. elsewhere x other;
  }
    where
      elsewhere : (x : ℕ) → x ≢ suc i → orders_by (map order_in (slice_set ss i t)) x ≡ orders_by (map order_in ss) x
      elsewhere zero other = refl
      elsewhere (suc x) other = read_same order_in (slice_set ss i t) ss x (first_order (suc x)) (set_other ss i x t (λ e. other (ap suc e)))

pub passed_by : (p : List Stmt) (j : List Turn) (ss : List (SiteState NoSeat)) (mail : MailState) (sent : ℕ) (spent : Bool) → IsConsistent p j ss mail sent spent → (site : ℕ) → 1 ≤ site → site ≤ length ss →
    (s t : SiteState NoSeat) → s ≡ get_or ss (site - 1) s → t ≡ record s { order = rotated s.order } → Passed p j ss mail sent spent site (site - 1) t
passed_by p j ss mail sent spent k zero low high s t at turned = absurd (omega arith)
passed_by p j ss mail sent spent k (suc i) low high s t at turned =
    let before : suc i - 1 ≡ i = omega arith in
    let same : s ≡ get_or ss i s = subst (λ (x : ℕ). s ≡ get_or ss x s) before at in
    let found : slice_get ss i ≡ Some s = slice_get_read ss (length ss) i s refl (omega arith) same in
    let inside : i < length ss = omega arith in
    subst (λ (x : ℕ). Passed p j ss mail sent spent (suc i) x t) (sym before) (passed p j ss mail sent spent k i inside s t found turned)
