-- What the parts keep as messages are sent and come, and as sites know more names.
use Rattle.std.proofs.Common.{rules, ◌≡◌, ◌∙◌, refl, subst, ℕ, List, ◌⊎◌, inl, inr, Some, None}
use Rattle.std.specs.Prelude.{Contains, ◌≢◌}
use Rattle.tree_node.specs.declared.names.VarName.{VarName}
use Rattle.tree_node.specs.declared.names.CodeId.{CodeId}
use Rattle.tree_node.specs.declared.names.ThreadName.{ThreadName}
use Rattle.tree_node.specs.declared.names.Name.{Name}
use Rattle.tree_node.specs.declared.node.Term.{Term}
use Rattle.tree_node.specs.Assoc.{value_of}
use Rattle.tree_node.specs.Each.{Each}
use Rattle.tree_node.specs.State.{Stack, State, equal_thread}
use Rattle.tree_node.specs.Store.{Store, Equation}
use Rattle.kernel_syntax.specs.declared.stmt.Stmt.{Stmt}
use Rattle.site_message.specs.declared.message.Msg.{Msg}
use Rattle.site_message.specs.declared.message.Msg.TheVariants as msg
use Rattle.site_message.specs.declared.message.Sent.{Sent}
use Rattle.oz_model.proofs.NameLemmas.{Each-weaker, EachOfEquation-weaker, EachOfItem-weaker}
use Rattle.bind_protocol.specs.Records.{Records, knowledge, IsKnown, sites_in}
use Rattle.site_model.specs.Site.{Threads, Counters}
use Rattle.site_model.specs.Fit.{EachOfMsg}
use Rattle.world_model.specs.World.{Mail, IsOnItsWay}
use Rattle.world_model.specs.Names.{IsHere, AreHome, IsMade, AreMailNamesMade}
use Rattle.world_model.specs.Matches.{equations_in, EquationsMatch, AllRecordsMatch, ThreadsMatch, IsTold, AreTold, IsAddressed, AreAddressed, IsBound, IsAsked, IsAwaited, WaitersMatch, PartsMatch}
use Rattle.world_model.proofs.MailLemmas.{sent_to, Posts, Gone}
use Rattle.world_variables.proofs.LearnLemmas.{placed_alike}

-- ---- messages are sent

module _ (mail more : Mail) (out : List Sent) (posts : Posts mail more out) where
  pub knowledge_posts : (eqs : ℕ → Store) (c : Store) → ((to : ℕ) (m : Msg) → Contains out (sent_to to m) → Each (Contains c) (equations_in m)) → EquationsMatch eqs mail c → EquationsMatch eqs more c
  knowledge_posts eqs c new k = record { one = k.one; down = k.down; owned = k.owned; known = k.known; told = λ i to m h. go i to m (posts.from i to m h) }
    where
      go : (i to : ℕ) (m : Msg) → IsOnItsWay mail i to m ⊎ Contains out (sent_to to m) → Each (Contains c) (equations_in m)
      go i to m (inl h) = k.told i to m h
      go i to m (inr h) = new to m h

  pub told_posts : (records : ℕ → Records) (i : ℕ) (x : VarName) → IsTold records mail i x → IsTold records more i x
  told_posts records i x (inl h) = inl h
  told_posts records i x (inr (inl h)) = inr (inl (h.0, posts.old h.0 _ _ h.1))
  told_posts records i x (inr (inr h)) = inr (inr (h.0, h.1, h.2, posts.old h.0 _ _ h.3))

  pub addressed_posts : (records : ℕ → Records) → ((to : ℕ) (m : Msg) → Contains out (sent_to to m) → IsAddressed records to m) → AreAddressed records mail → AreAddressed records more
  addressed_posts records new k i to m h = go (posts.from i to m h)
    where
      go : IsOnItsWay mail i to m ⊎ Contains out (sent_to to m) → IsAddressed records to m
      go (inl q) = k i to m q
      go (inr q) = new to m q

  pub said_posts : (made : ℕ → Counters) → ((to : ℕ) (m : Msg) → Contains out (sent_to to m) → EachOfMsg (IsMade made) m) → AreMailNamesMade made mail → AreMailNamesMade made more
  said_posts made new k i to m h = go (posts.from i to m h)
    where
      go : IsOnItsWay mail i to m ⊎ Contains out (sent_to to m) → EachOfMsg (IsMade made) m
      go (inl q) = k i to m q
      go (inr q) = new to m q

  pub asked_posts : (c : Store) (n : ThreadName) (x : VarName) → IsAsked mail c n x → IsAsked more c n x
  asked_posts c n x (inl h) = inl (h.0, h.1, h.2, posts.old h.0 _ _ h.3)
  asked_posts c n x (inr h) = inr h

  -- where each request among them is awaited
  pub waiting_posts : (p : List Stmt) (eqs : ℕ → Store) (records : ℕ → Records) (threads : ℕ → Threads) (c : Store) →
      ((to : ℕ) (x : VarName) (t : Term) (n : ThreadName) (bundle : List Equation) → Contains out (sent_to to (msg.BindReq x n t bundle)) → IsAwaited p eqs threads c x t n) →
      WaitersMatch p eqs records threads mail c → WaitersMatch p eqs records threads more c
  waiting_posts p eqs records threads c new k = record {
    asks = λ i to x t n bundle h. go to x t n bundle i (posts.from i to _ h);
    waits = λ i n st x h. let o = k.waits i n st x h in (o.0, o.1, asked_posts c n x o.2);
    needs = k.needs;
    compares = k.compares;
    exchanges = k.exchanges;
  }
    where
      go : (to : ℕ) (x : VarName) (t : Term) (n : ThreadName) (bundle : List Equation) (i : ℕ) → IsOnItsWay mail i to (msg.BindReq x n t bundle) ⊎ Contains out (sent_to to (msg.BindReq x n t bundle)) → IsAwaited p eqs threads c x t n
      go to x t n bundle i (inl h) = k.asks i to x t n bundle h
      go to x t n bundle i (inr h) = new to x t n bundle h

  pub placed_posts : (p : List Stmt) (threads : ℕ → Threads) (ts : List (ThreadName × Stack)) →
      ((to : ℕ) (n : ThreadName) (code : CodeId) (vars : List VarName) (bundle : List Equation) → Contains out (sent_to to (msg.Spawn n code vars bundle)) → ⊥) →
      ThreadsMatch p threads mail ts → ThreadsMatch p threads more ts
  placed_posts p threads ts none k = placed_alike _ _ _ _ (value_of equal_thread ts) (λ i n st h. h) (λ i n st h. h)
      (λ i n st h. (h.0, h.1, h.2, h.3, posts.old i h.0 _ h.4, h.5)) (λ i n st h. (h.0, h.1, h.2, h.3, back i h.0 n h.1 h.2 h.3 h.4, h.5)) k
    where
      back : (i to : ℕ) (n : ThreadName) (code : CodeId) (vars : List VarName) (bundle : List Equation) → IsOnItsWay more i to (msg.Spawn n code vars bundle) → IsOnItsWay mail i to (msg.Spawn n code vars bundle)
      back i to n code vars bundle h = go (posts.from i to _ h)
        where
          go : IsOnItsWay mail i to (msg.Spawn n code vars bundle) ⊎ Contains out (sent_to to (msg.Spawn n code vars bundle)) → IsOnItsWay mail i to (msg.Spawn n code vars bundle)
          go (inl q) = q
          go (inr q) = absurd (none to n code vars bundle q)

-- ---- a message is gone

module _ (k : ℕ) (mail less : Mail) (gone : Gone k mail less) where
  pub knowledge_gone : (eqs : ℕ → Store) (c : Store) → EquationsMatch eqs mail c → EquationsMatch eqs less c
  knowledge_gone eqs c o = record { one = o.one; down = o.down; owned = o.owned; known = o.known; told = λ i to m h. o.told i to m (gone.old i to m h).0 }

  pub addressed_gone : (records : ℕ → Records) → AreAddressed records mail → AreAddressed records less
  addressed_gone records o i to m h = o i to m (gone.old i to m h).0

  pub said_gone : (made : ℕ → Counters) → AreMailNamesMade made mail → AreMailNamesMade made less
  said_gone made o i to m h = o i to m (gone.old i to m h).0

  -- who was told by it is told otherwise
  pub told_gone : (records : ℕ → Records) → ((to : ℕ) (m : Msg) → IsOnItsWay mail k to m → (i : ℕ) (x : VarName) → knowledge (records i) x ≡ Some None → x.site ≢ i →
      ((m ≡ msg.Register x i) ⊎ ((to ≡ i) × ((t : Term) × (bundle : List Equation) × (m ≡ msg.Binding x t bundle)))) → IsTold records less i x) →
      AreTold records mail → AreTold records less
  told_gone records other o i x unbound elsewhere = go (o i x unbound elsewhere)
    where
      number : (l : ℕ) → (l ≡ k) ⊎ (l ≢ k)
      number l = search rules

      go : IsTold records mail i x → IsTold records less i x
      go (inl h) = inl h
      go (inr (inl (l, h))) = reg (number l)
        where
          reg : (l ≡ k) ⊎ (l ≢ k) → IsTold records less i x
          reg (inl e) = other x.site (msg.Register x i) (subst (λ (q : ℕ). IsOnItsWay mail q x.site (msg.Register x i)) e h) i x unbound elsewhere (inl refl)
          reg (inr e) = inr (inl (l, gone.kept l _ _ h e))
      go (inr (inr (l, t, bundle, h))) = bnd (number l)
        where
          bnd : (l ≡ k) ⊎ (l ≢ k) → IsTold records less i x
          bnd (inl e) = other i (msg.Binding x t bundle) (subst (λ (q : ℕ). IsOnItsWay mail q i (msg.Binding x t bundle)) e h) i x unbound elsewhere (inr (refl, (t, bundle, refl)))
          bnd (inr e) = inr (inr (l, t, bundle, gone.kept l _ _ h e))

  -- who asked by it sees the variable bound
  pub waiting_gone : (p : List Stmt) (eqs : ℕ → Store) (records : ℕ → Records) (threads : ℕ → Threads) (c : Store) →
      ((to : ℕ) (x : VarName) (t : Term) (n : ThreadName) (bundle : List Equation) → IsOnItsWay mail k to (msg.BindReq x n t bundle) → IsBound c x) →
      WaitersMatch p eqs records threads mail c → WaitersMatch p eqs records threads less c
  waiting_gone p eqs records threads c bound o = record {
    asks = λ i to x t n bundle h. o.asks i to x t n bundle (gone.old i to _ h).0;
    waits = λ i n st x h. let q = o.waits i n st x h in (q.0, q.1, still n x q.2);
    needs = o.needs;
    compares = o.compares;
    exchanges = o.exchanges;
  }
    where
      number : (l : ℕ) → (l ≡ k) ⊎ (l ≢ k)
      number l = search rules

      still : (n : ThreadName) (x : VarName) → IsAsked mail c n x → IsAsked less c n x
      still n x (inr h) = inr h
      still n x (inl (l, t, bundle, h)) = go (number l)
        where
          go : (l ≡ k) ⊎ (l ≢ k) → IsAsked less c n x
          go (inl e) = inr (bound x.site x t n bundle (subst (λ (q : ℕ). IsOnItsWay mail q x.site (msg.BindReq x n t bundle)) e h))
          go (inr e) = inl (l, t, bundle, gone.kept l _ _ h e)

  -- a Spawn apart, threads are where they were
  pub placed_gone : (p : List Stmt) (threads : ℕ → Threads) (ts : List (ThreadName × Stack)) →
      ((to : ℕ) (n : ThreadName) (code : CodeId) (vars : List VarName) (bundle : List Equation) → IsOnItsWay mail k to (msg.Spawn n code vars bundle) → ⊥) →
      ThreadsMatch p threads mail ts → ThreadsMatch p threads less ts
  placed_gone p threads ts none o = placed_alike _ _ _ _ (value_of equal_thread ts) (λ i n st h. h) (λ i n st h. h)
      (λ i n st h. (h.0, h.1, h.2, h.3, gone.kept i h.0 _ h.4 (not_it i h.0 n h.1 h.2 h.3 h.4), h.5)) (λ i n st h. (h.0, h.1, h.2, h.3, (gone.old i h.0 _ h.4).0, h.5)) o
    where
      not_it : (i to : ℕ) (n : ThreadName) (code : CodeId) (vars : List VarName) (bundle : List Equation) → IsOnItsWay mail i to (msg.Spawn n code vars bundle) → i ≢ k
      not_it i to n code vars bundle h e = none to n code vars bundle (subst (λ (q : ℕ). IsOnItsWay mail q to (msg.Spawn n code vars bundle)) e h)

-- ---- sites know more names, and bind none

pub record Wider (old new : ℕ → Records) : Type 0 where
  pub site : (i : ℕ) → (new i).site ≡ (old i).site
  pub known : (i : ℕ) (x : VarName) → IsKnown (old i) x → IsKnown (new i) x
  pub bound : (i : ℕ) (x : VarName) (t : Term) → knowledge (new i) x ≡ Some (Some t) → knowledge (old i) x ≡ Some (Some t)
  pub held : (i : ℕ) (x : VarName) (t : Term) → knowledge (old i) x ≡ Some (Some t) → knowledge (new i) x ≡ Some (Some t)
  pub listed : (i : ℕ) (x : VarName) (k : ℕ) → Contains (sites_in (old i) x) k → Contains (sites_in (new i) x) k

module _ (records more : ℕ → Records) (wide : Wider records more) where
  pub kept_wider : (eqs : ℕ → Store) → AllRecordsMatch records eqs → AllRecordsMatch more eqs
  kept_wider eqs k i = record {
    site = wide.site i ∙ (k i).site;
    bound = λ x t h. (k i).bound x t (wide.bound i x t h);
    held = λ x t h. wide.held i x t ((k i).held x t h);
    sound = (k i).sound;
  }

  pub here_wider : (i : ℕ) (x : VarName) → IsHere (records i) x → IsHere (more i) x
  here_wider i x (inl h) = inl h
  here_wider i x (inr h) = inr (wide.known i x h)

  pub addressed_wider : (mail : Mail) → AreAddressed records mail → AreAddressed more mail
  addressed_wider mail k i to m h = still m (k i to m h)
    where
      still : (m : Msg) → IsAddressed records to m → IsAddressed more to m
      still (msg.Register y o) q = (q.0, here_wider y.site y q.1)
      still (msg.BindReq y n r bundle) q = (q.0, here_wider y.site y q.1, q.2)
      still (msg.Spawn n code vars bundle) q = tt
      still (msg.Binding y r bundle) q = tt
      still (msg.Get e o) q = tt
      still (msg.Forward e o) q = tt
      still (msg.Put e o bundle) q = tt
      still (msg.PortSend q n o) z = tt
      still (msg.PortEnd n old new bundle) z = tt
      still (msg.CellMake e v bundle) z = tt
      still (msg.CellAsk e n o v bundle) z = tt
      still (msg.CellOld n v bundle) z = tt

  pub told_wider : (mail : Mail) (i : ℕ) (x : VarName) → IsTold records mail i x → IsTold more mail i x
  told_wider mail i x (inl h) = inl (wide.listed x.site x i h)
  told_wider mail i x (inr h) = inr h

  pub waiting_wider : (p : List Stmt) (eqs : ℕ → Store) (threads : ℕ → Threads) (mail : Mail) (c : Store) → WaitersMatch p eqs records threads mail c → WaitersMatch p eqs more threads mail c
  waiting_wider p eqs threads mail c k = record {
    asks = k.asks;
    waits = λ i n st x h. let o = k.waits i n st x h in (o.0, here_wider i x o.1, o.2);
    needs = k.needs;
    compares = λ i n st xs h. let o = k.compares i n st xs h in (o.0, λ x m. let q = o.1 x m in (q.0, here_wider i x q.1));
    exchanges = k.exchanges;
  }

pub homes_weaker : (here more : ℕ → Name → Type 0) → ((i : ℕ) (x : Name) → here i x → more i x) → (eqs : ℕ → Store) (threads : ℕ → Threads) → AreHome here eqs threads → AreHome more eqs threads
homes_weaker here more up eqs threads k i = record {
  equations = Each-weaker _ _ (EachOfEquation-weaker (here i) (more i) (up i)) (eqs i) (k i).equations;
  stacks = λ n v h. Each-weaker _ _ (EachOfItem-weaker (here i) (more i) (up i)) v.0 ((k i).stacks n v h);
}

pub parts_weaker : (p : List Stmt) (here more : ℕ → Name → Type 0) (eqs : ℕ → Store) (records : ℕ → Records) (threads : ℕ → Threads) (made : ℕ → Counters) (mail : Mail) (s : State) →
    ((i : ℕ) (x : Name) → here i x → more i x) → PartsMatch p here eqs records threads made mail s → PartsMatch p more eqs records threads made mail s
parts_weaker p here more eqs records threads made mail s up k = record {
  knowledge = k.knowledge;
  kept = k.kept;
  placed = k.placed;
  told = k.told;
  addressed = k.addressed;
  waiting = k.waiting;
  homes = homes_weaker here more up eqs threads k.homes;
  centred = k.centred;
  makers = k.makers;
  said = k.said;
}
