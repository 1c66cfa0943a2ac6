-- The threads of a site go on to fit, and those that wait for a token stay in line.
use Rattle.std.proofs.Common.{arith, ◌≡◌, ◌≢◌, ◌∙◌, sym, ap, refl, subst, ℕ, ◌≤◌, ◌<◌, List, [], ◌∷◌, ◌++◌, ◌⊎◌, inl, inr, Bool, true, false, cond, Some, None}
use Rattle.std.specs.Prelude.{Option}
use Rattle.tree_node.specs.declared.names.VarName.{VarName}
use Rattle.tree_node.specs.declared.names.CellName.{CellName}
use Rattle.tree_node.specs.declared.names.PortName.{PortName}
use Rattle.tree_node.specs.declared.names.ThreadName.{ThreadName}
use Rattle.tree_node.specs.Assoc.{value_of, with_value, with_optional_value}
use Rattle.tree_node.specs.Each.{Each, AreDistinct}
use Rattle.tree_node.specs.Goal.{equal_cell}
use Rattle.tree_node.specs.State.{Stack, equal_thread}
use Rattle.tree_node.specs.Store.{Store}
use Rattle.tree_node.proofs.EachLemmas.{each_append}
use Rattle.tree_node.proofs.NameLemmas.{same_thread_decides}
use Rattle.kernel_syntax.specs.declared.stmt.Stmt.{Stmt}
use Rattle.oz_model.proofs.KindLemmas.{equal_cell_decides}
use Rattle.oz_model.proofs.NameLemmas.{Each-weaker}
use Rattle.thread_roster.specs.declared.mode.Awaited.{Awaited}
use Rattle.thread_roster.specs.declared.mode.Awaited.TheVariants.{Cell, Port}
use Rattle.thread_roster.specs.declared.mode.Mode.{Mode}
use Rattle.thread_roster.specs.declared.mode.Mode.TheVariants.{Runs, WaitsFor}
use Rattle.thread_roster.specs.Binds.{goes_on}
use Rattle.thread_roster.specs.Threads.{wake_where}
use Rattle.thread_roster.proofs.ThreadLemmas.{woken_by}
use Rattle.site_model.specs.Site.{ThreadState, Threads}
use Rattle.world_model.proofs.KeyLemmas.{with_here, with_there, goes_cases, goes_there, woken_new, woken_old, wake_cell}
use Rattle.site_message.specs.Wire.{IsSite}
use Rattle.site_wire.specs.Sending.{StackFits, ThreadFits, IsInLine, QueueFits, ThreadsFit}

-- how a living thread stands is told once
one_state : (ts : Threads) (n : ThreadName) (u v : ThreadState) → value_of equal_thread ts n ≡ Some u → value_of equal_thread ts n ≡ Some v → u ≡ v
one_state ts n u v e f = let whole : ◌≡◌ {A = Option ThreadState} (Some u) (Some v) = sym e ∙ f in cc

one_cell : (ts : Threads) (c d : CellName) (n : ThreadName) → IsInLine ts c n → IsInLine ts d n → c ≡ d
one_cell ts c d n h g =
    let same : ◌≡◌ {A = ThreadState} (h.0, WaitsFor (Cell c)) (g.0, WaitsFor (Cell d)) = one_state ts n (h.0, WaitsFor (Cell c)) (g.0, WaitsFor (Cell d)) h.1 g.1 in
    let modes : WaitsFor (Cell c) ≡ WaitsFor (Cell d) = ap (λ (u : ThreadState). u.1) same in cc

-- a thread that can go on is in no line
not_in_line : (ts : Threads) (c : CellName) (th n : ThreadName) (st : Stack) → value_of equal_thread ts th ≡ Some (st, Runs) → IsInLine ts c n → th ≢ n
not_in_line ts c th n st now h same =
    let there : value_of equal_thread ts n ≡ Some (st, Runs) = subst (λ (z : ThreadName). value_of equal_thread ts z ≡ Some (st, Runs)) same now in
    let one : ◌≡◌ {A = ThreadState} (st, Runs) (h.0, WaitsFor (Cell c)) = one_state ts n (st, Runs) (h.0, WaitsFor (Cell c)) there h.1 in
    let modes : Runs ≡ WaitsFor (Cell c) = ap (λ (u : ThreadState). u.1) one in cc

pub running_fits : (p : List Stmt) (n : ThreadName) (st : Stack) (m : Mode) → ((a : Awaited) → m ≡ WaitsFor a → ⊥) → (w : ThreadState) → ThreadFits p n w → StackFits p st → (v : ThreadState) → ◌≡◌ {A = Option ThreadState} (Some (st, m)) (Some v) → ThreadFits p n v
running_fits p n st m calm w h g v e =
    let same : ◌≡◌ {A = ThreadState} (st, m) v = cc in
    subst (ThreadFits p n) same (record { name = h.name; stack = g; calm = λ c q. absurd (calm (Cell c) q); sends = λ r q. absurd (calm (Port r) q) })

-- the lines of the other cells
abbrev pub besides : CellName → (CellName → List ThreadName) → CellName → List ThreadName
besides c q d = cond (equal_cell d c) [] (q d)

module _ (p : List Stmt) (i : ℕ) where
  -- ---- some go on by a bind

  pub woken_fit : (made : ℕ) (ts : Threads) (q : CellName → List ThreadName) (s : Store) (x : VarName) → ThreadsFit p i made ts q → ThreadsFit p i made (wake_where (goes_on s x) ts) q
  woken_fit made ts q s x h = record {
    each = λ n v at. fits n v (woken_old (goes_on s x) ts n v.0 v.1 at);
    own = λ n v at mine. (let o = woken_old (goes_on s x) ts n v.0 v.1 at in h.own n (v.0, o.0) o.1 mine);
    queues = λ c. record {
      once = (h.queues c).once;
      inside = Each-weaker (IsInLine ts c) (IsInLine (wake_where (goes_on s x) ts) c) (λ (n : ThreadName) (w : IsInLine ts c n). (w.0, woken_new (goes_on s x) ts n w.0 (WaitsFor (Cell c)) w.1)) (q c) (h.queues c).inside;
    };
  }
    where
      fits : (n : ThreadName) (v : ThreadState) → (m : Mode) × (value_of equal_thread ts n ≡ Some (v.0, m)) × (woken_by (goes_on s x) m ≡ v.1) → ThreadFits p n v
      fits n v o = let was : ThreadFits p n (v.0, o.0) = h.each n (v.0, o.0) o.1 in record { name = was.name; stack = was.stack; calm = λ c e. was.calm c (wake_cell s x (Cell c) o.0 (o.2 ∙ e)); sends = λ q e. was.sends q (wake_cell s x (Port q) o.0 (o.2 ∙ e)) }

  -- ---- a thread goes on

  -- one that is in no line
  moves_fit : (made : ℕ) (ts : Threads) (q : CellName → List ThreadName) (th : ThreadName) (w : ThreadState) (r : Option ThreadState) → value_of equal_thread ts th ≡ Some w → ((c : CellName) → Each (λ (n : ThreadName). th ≢ n) (q c))
      → ((v : ThreadState) → r ≡ Some v → ThreadFits p th v) → ThreadsFit p i made ts q → ThreadsFit p i made (with_optional_value equal_thread ts th r) q
  moves_fit made ts q th w r now apart f h = record {
    each = λ n v at. fits n v (goes_cases equal_thread same_thread_decides ts th n r w v now at);
    own = λ n v at mine. below n v mine (goes_cases equal_thread same_thread_decides ts th n r w v now at);
    queues = λ c. record { once = (h.queues c).once; inside = stay c (q c) (apart c) (h.queues c).inside };
  }
    where
      fits : (n : ThreadName) (v : ThreadState) → ((n ≡ th) × (r ≡ Some v)) ⊎ ((th ≢ n) × (value_of equal_thread ts n ≡ Some v)) → ThreadFits p n v
      fits n v (inl k) = subst (λ (z : ThreadName). ThreadFits p z v) (sym k.0) (f v k.1)
      fits n v (inr k) = h.each n v k.1

      below : (n : ThreadName) (v : ThreadState) → n.site ≡ i → ((n ≡ th) × (r ≡ Some v)) ⊎ ((th ≢ n) × (value_of equal_thread ts n ≡ Some v)) → n.num < made
      below n v mine (inl k) = subst (λ (z : ThreadName). z.site ≡ i → z.num < made) (sym k.0) (h.own th w now) mine
      below n v mine (inr k) = h.own n v k.1 mine

      stay : (c : CellName) (ns : List ThreadName) → Each (λ (n : ThreadName). th ≢ n) ns → Each (IsInLine ts c) ns → Each (IsInLine (with_optional_value equal_thread ts th r) c) ns
      stay c [] a g = tt
      stay c (n ∷ ns) a g = ((g.0.0, goes_there equal_thread same_thread_decides ts th n r a.0 ∙ g.0.1), stay c ns a.1 g.1)

  pub goes_fit : (made : ℕ) (ts : Threads) (q : CellName → List ThreadName) (th : ThreadName) (st : Stack) (r : Option ThreadState) → value_of equal_thread ts th ≡ Some (st, Runs)
      → ((v : ThreadState) → r ≡ Some v → ThreadFits p th v) → ThreadsFit p i made ts q → ThreadsFit p i made (with_optional_value equal_thread ts th r) q
  goes_fit made ts q th st r now f h = moves_fit made ts q th (st, Runs) r now (λ c. Each-weaker (IsInLine ts c) (λ (n : ThreadName). th ≢ n) (λ (n : ThreadName) (w : IsInLine ts c n). not_in_line ts c th n st now w) (q c) (h.queues c).inside) f h

  -- ---- a thread begins

  pub starts_fit : (made : ℕ) (ts : Threads) (q : CellName → List ThreadName) (th : ThreadName) (st : Stack) → value_of equal_thread ts th ≡ None → IsSite th.site → StackFits p st → (th.site ≡ i → th.num < made)
      → ThreadsFit p i made ts q → ThreadsFit p i made ((th, (st, Runs)) ∷ ts) q
  starts_fit made ts q th st none site fits low h = record {
    each = λ n v at. fit n v (equal_thread th n) refl at;
    own = λ n v at mine. below n v mine (equal_thread th n) refl at;
    queues = λ c. record { once = (h.queues c).once; inside = Each-weaker (IsInLine ts c) (IsInLine ((th, (st, Runs)) ∷ ts) c) (λ (n : ThreadName) (w : IsInLine ts c n). stay c n w (equal_thread th n) refl) (q c) (h.queues c).inside };
  }
    where
      fit : (n : ThreadName) (v : ThreadState) (b : Bool) → equal_thread th n ≡ b → cond {A = Option ThreadState} b (Some (st, Runs)) (value_of equal_thread ts n) ≡ Some v → ThreadFits p n v
      fit n v true e k =
          let same : ◌≡◌ {A = ThreadState} (st, Runs) v = cc in
          subst (λ (z : ThreadName). ThreadFits p z v) ((same_thread_decides th n).0 e) (subst (ThreadFits p th) same (record { name = site; stack = fits; calm = λ (c : CellName) (q : Runs ≡ WaitsFor (Cell c)). cc; sends = λ (r : PortName) (q : Runs ≡ WaitsFor (Port r)). cc }))
      fit n v false e k = h.each n v k

      below : (n : ThreadName) (v : ThreadState) → n.site ≡ i → (b : Bool) → equal_thread th n ≡ b → cond {A = Option ThreadState} b (Some (st, Runs)) (value_of equal_thread ts n) ≡ Some v → n.num < made
      below n v mine true e k = subst (λ (z : ThreadName). z.site ≡ i → z.num < made) ((same_thread_decides th n).0 e) low mine
      below n v mine false e k = h.own n v k mine

      stay : (c : CellName) (n : ThreadName) → IsInLine ts c n → (b : Bool) → equal_thread th n ≡ b → IsInLine ((th, (st, Runs)) ∷ ts) c n
      stay c n w true e =
          let gone : value_of equal_thread ts n ≡ None = subst (λ (z : ThreadName). value_of equal_thread ts z ≡ None) ((same_thread_decides th n).0 e) none in
          let contrary : ◌≡◌ {A = Option ThreadState} None (Some (w.0, WaitsFor (Cell c))) = sym gone ∙ w.1 in cc
      stay c n w false e = (w.0, rw e w.1)

  pub made_more : (made more : ℕ) (ts : Threads) (q : CellName → List ThreadName) → made ≤ more → ThreadsFit p i made ts q → ThreadsFit p i more ts q
  made_more made more ts q h g = record { each = g.each; own = λ n v at mine. omega (arith, h, g.own n v at mine); queues = g.queues }

  -- ---- queues

  -- the same queues
  pub queues_same : (made : ℕ) (ts : Threads) (q r : CellName → List ThreadName) → ((c : CellName) → r c ≡ q c) → ThreadsFit p i made ts q → ThreadsFit p i made ts r
  queues_same made ts q r same h = record { each = h.each; own = h.own; queues = λ c. subst (QueueFits ts c) (sym (same c)) (h.queues c) }

  distinct_push : (xs : List ThreadName) (x : ThreadName) → AreDistinct xs → Each (λ (y : ThreadName). x ≢ y) xs → AreDistinct (xs ++ x ∷ [])
  distinct_push [] x h g = (tt, tt)
  distinct_push (y ∷ ys) x h g = (each_append (λ (z : ThreadName). y ≢ z) ys (x ∷ []) h.0 ((λ (e : y ≡ x). g.0 (sym e)), tt), distinct_push ys x h.1 g.1)

  -- a thread stands behind the others
  pub lines_up : (made : ℕ) (ts : Threads) (q : CellName → List ThreadName) (th : ThreadName) (c : CellName) (st : Stack) → value_of equal_thread ts th ≡ Some (st, Runs)
      → ThreadsFit p i made ts q → ThreadsFit p i made (with_value equal_thread ts th (st, WaitsFor (Cell c))) q → QueueFits (with_value equal_thread ts th (st, WaitsFor (Cell c))) c (q c ++ th ∷ [])
  lines_up made ts q th c st now h after = record {
    once = distinct_push (q c) th (h.queues c).once (Each-weaker (IsInLine ts c) (λ (n : ThreadName). th ≢ n) (λ (n : ThreadName) (w : IsInLine ts c n). not_in_line ts c th n st now w) (q c) (h.queues c).inside);
    inside = each_append (IsInLine (with_value equal_thread ts th (st, WaitsFor (Cell c))) c) (q c) (th ∷ []) (after.queues c).inside ((st, with_here equal_thread same_thread_decides ts th (st, WaitsFor (Cell c)) (st, Runs) now), tt);
  }

  -- ---- the first of a line goes on

  pub besides_fit : (made : ℕ) (ts : Threads) (q : CellName → List ThreadName) (c : CellName) → ThreadsFit p i made ts q → ThreadsFit p i made ts (besides c q)
  besides_fit made ts q c h = record { each = h.each; own = h.own; queues = λ d. go d (equal_cell d c) }
    where
      go : (d : CellName) (b : Bool) → QueueFits ts d (cond b [] (q d))
      go d true = record { once = tt; inside = tt }
      go d false = h.queues d

  pub served_fit : (made : ℕ) (ts : Threads) (q : CellName → List ThreadName) (c : CellName) (th : ThreadName) (st left : Stack) → value_of equal_thread ts th ≡ Some (st, WaitsFor (Cell c)) → StackFits p left
      → ThreadsFit p i made ts (besides c q) → ThreadsFit p i made (with_value equal_thread ts th (left, Runs)) (besides c q)
  served_fit made ts q c th st left now fits h = moves_fit made ts (besides c q) th (st, WaitsFor (Cell c)) (Some (left, Runs)) now (λ d. apart d (equal_cell d c) refl (h.queues d).inside)
      (λ v e. running_fits p th left Runs (λ (a : Awaited) (k : Runs ≡ WaitsFor a). cc) (st, WaitsFor (Cell c)) (h.each th (st, WaitsFor (Cell c)) now) fits v e) h
    where
      apart : (d : CellName) (b : Bool) → equal_cell d c ≡ b → Each (IsInLine ts d) (cond b [] (q d)) → Each (λ (n : ThreadName). th ≢ n) (cond b [] (q d))
      apart d true e k = tt
      apart d false e k = Each-weaker (IsInLine ts d) (λ (n : ThreadName). th ≢ n)
          (λ (n : ThreadName) (w : IsInLine ts d n) (same : th ≡ n).
          let here : IsInLine ts c n = (st, subst (λ (z : ThreadName). value_of equal_thread ts z ≡ Some (st, WaitsFor (Cell c))) same now) in
          let one : d ≡ c = one_cell ts d c n w here in
          let yes : equal_cell d c ≡ true = (equal_cell_decides d c).1 one in cc)
          (q d) k

  -- a thread that waits for what no line here is for goes on
  pub answered_fit : (made : ℕ) (ts : Threads) (q : CellName → List ThreadName) (a : Awaited) (th : ThreadName) (st left : Stack) → ((c : CellName) → a ≡ Cell c → q c ≡ []) → value_of equal_thread ts th ≡ Some (st, WaitsFor a) → StackFits p left
      → ThreadsFit p i made ts q → ThreadsFit p i made (with_value equal_thread ts th (left, Runs)) q
  answered_fit made ts q a th st left none now fits h = moves_fit made ts q th (st, WaitsFor a) (Some (left, Runs)) now (λ d. apart d (q d) refl (h.queues d).inside)
      (λ v e. running_fits p th left Runs (λ (b : Awaited) (k : Runs ≡ WaitsFor b). cc) (st, WaitsFor a) (h.each th (st, WaitsFor a) now) fits v e) h
    where
      apart : (d : CellName) (ns : List ThreadName) → q d ≡ ns → Each (IsInLine ts d) ns → Each (λ (n : ThreadName). th ≢ n) ns
      apart d [] e k = tt
      apart d (m ∷ ns) e k = Each-weaker (IsInLine ts d) (λ (n : ThreadName). th ≢ n)
          (λ (n : ThreadName) (w : IsInLine ts d n) (same : th ≡ n).
          let there : value_of equal_thread ts n ≡ Some (st, WaitsFor a) = subst (λ (z : ThreadName). value_of equal_thread ts z ≡ Some (st, WaitsFor a)) same now in
          let one : ◌≡◌ {A = ThreadState} (st, WaitsFor a) (w.0, WaitsFor (Cell d)) = one_state ts n (st, WaitsFor a) (w.0, WaitsFor (Cell d)) there w.1 in
          let modes : WaitsFor a ≡ WaitsFor (Cell d) = ap (λ (u : ThreadState). u.1) one in
          let what : a ≡ Cell d = cc in
          let contrary : ◌≡◌ {A = List ThreadName} [] (m ∷ ns) = sym (none d what) ∙ e in cc)
          (m ∷ ns) k

  -- the others of its line stay in it
  pub line_stays : (ts : Threads) (c : CellName) (th : ThreadName) (v : ThreadState) (ns : List ThreadName) → Each (λ (n : ThreadName). th ≢ n) ns → Each (IsInLine ts c) ns → Each (IsInLine (with_value equal_thread ts th v) c) ns
  line_stays ts c th v [] a g = tt
  line_stays ts c th v (n ∷ ns) a g = ((g.0.0, with_there equal_thread same_thread_decides ts th n v a.0 ∙ g.0.1), line_stays ts c th v ns a.1 g.1)
