-- A thread goes on, and a thread is born: the parts.
use Rattle.std.proofs.Common.{arith, ◌≡◌, ◌∙◌, sym, ap, subst, ℕ, ◌+◌, ◌<◌, ◌≤◌, List, [], ◌∷◌, ◌++◌, ◌⊎◌, inl, inr, Some, None}
use Rattle.std.specs.Prelude.{Option, Contains}
use Rattle.tree_node.specs.declared.names.VarName.{VarName}
use Rattle.tree_node.specs.declared.names.ThreadName.{ThreadName}
use Rattle.tree_node.specs.declared.names.CodeId.{CodeId}
use Rattle.tree_node.specs.declared.names.Name.{Name}
use Rattle.tree_node.specs.declared.node.Term.{Term}
use Rattle.tree_node.specs.Assoc.{value_of, with_optional_value}
use Rattle.tree_node.specs.Each.{Each}
use Rattle.tree_node.specs.Names.{EachOfStack}
use Rattle.tree_node.specs.State.{Stack, State, equal_thread}
use Rattle.tree_node.specs.Store.{Store, Equation}
use Rattle.kernel_syntax.specs.declared.stmt.Stmt.{Stmt}
use Rattle.site_message.specs.declared.message.Msg.{Msg}
use Rattle.site_message.specs.declared.message.Msg.TheVariants as msg
use Rattle.site_message.specs.declared.message.Sent.{Sent}
use Rattle.oz_model.specs.Step.{threads_born}
use Rattle.bind_protocol.specs.Records.{Records}
use Rattle.site_model.specs.Site.{Threads, Counters}
use Rattle.thread_roster.specs.declared.mode.Mode.TheVariants.{Runs}
use Rattle.site_model.specs.Messages.{birth}
use Rattle.site_model.specs.Fit as Fit
use Rattle.world_model.specs.World.{Mail, IsOnItsWay, mail_from}
use Rattle.world_model.specs.World as World
use Rattle.world_model.specs.Names.{IsMade, IsCentreMade}
use Rattle.world_model.specs.Matches.{PartsMatch, ThreadsMatch, IsInSpawn, WaitersMatch, EquationsMatch}
use Rattle.world_model.proofs.MailLemmas.{nothing, sent_to, Posts, posts, from_number, new_number, Gone, gone}
use Rattle.world_variables.proofs.AlikeLemmas.{knowledge_posts, told_posts, addressed_posts, said_posts, waiting_posts, knowledge_gone, addressed_gone, said_gone, told_gone, waiting_gone}
use Rattle.world_variables.proofs.PlaceLemmas.{fronted, gone_on, waiting_fronted, homes_fronted, none_at, placed_birth, lands_none, placed_lands, IsSent, placed_leaves, waiting_goes, homes_goes, placed_goes}
use Rattle.tree_node.proofs.ClassLemmas.{Contains-cons_cases, Contains-head}

module _ (p : List Stmt) (here : ℕ → Name → Type 0) (eqs : ℕ → Store) (records : ℕ → Records) (threads : ℕ → Threads) (made : ℕ → Counters) (mail : Mail) (s : State) (parts : PartsMatch p here eqs records threads made mail s) where
  -- the centre has other threads
  knows : (c : State) → c.equations ≡ s.equations → EquationsMatch eqs mail c.equations
  knows c e = subst (λ (q : Store). EquationsMatch eqs mail q) (sym e) parts.knowledge

  -- a thread goes on, or ends
  pub goes_parts : (i : ℕ) (n : ThreadName) (st : Stack) (r : Option Stack) (c : State) → value_of equal_thread (threads i) n ≡ Some (st, Runs) → ((su : Stack) → r ≡ Some su → EachOfStack (here i) su) →
      c.equations ≡ s.equations → c.threads ≡ with_optional_value equal_thread s.threads n r → IsCentreMade made c → PartsMatch p here eqs records (gone_on threads i n r) made mail c
  goes_parts i n st r c at names e t centred = record {
    knowledge = knows c e;
    kept = parts.kept;
    placed = subst (λ (ts : List (ThreadName × Stack)). ThreadsMatch p (gone_on threads i n r) mail ts) (sym t) (placed_goes threads i n st r at p mail s.threads parts.placed);
    told = parts.told;
    addressed = parts.addressed;
    waiting = subst (λ (q : Store). WaitersMatch p eqs records (gone_on threads i n r) mail q) (sym e) (waiting_goes threads i n st r at p eqs records mail s.equations parts.waiting);
    homes = homes_goes threads i n st r at here eqs names parts.homes;
    centred = centred;
    makers = parts.makers;
    said = parts.said;
  }

  -- a centre with the same equations and threads
  pub same_parts : (c : State) → c.equations ≡ s.equations → c.threads ≡ s.threads → IsCentreMade made c → PartsMatch p here eqs records threads made mail c
  same_parts c e t centred = record {
    knowledge = knows c e;
    kept = parts.kept;
    placed = subst (λ (ts : List (ThreadName × Stack)). ThreadsMatch p threads mail ts) (sym t) parts.placed;
    told = parts.told;
    addressed = parts.addressed;
    waiting = subst (λ (q : Store). WaitersMatch p eqs records threads mail q) (sym e) parts.waiting;
    homes = parts.homes;
    centred = centred;
    makers = parts.makers;
    said = parts.said;
  }

  -- a thread is born at the site
  pub birth_parts : (i : ℕ) (n : ThreadName) (st : Stack) (c : State) → value_of equal_thread s.threads n ≡ None → EachOfStack (here i) st → c.equations ≡ s.equations → c.threads ≡ (n, st) ∷ s.threads → IsCentreMade made c →
      PartsMatch p here eqs records (fronted threads i n st) made mail c
  birth_parts i n st c none names e t centred = record {
    knowledge = knows c e;
    kept = parts.kept;
    placed = subst (λ (ts : List (ThreadName × Stack)). ThreadsMatch p (fronted threads i n st) mail ts) (sym t) (placed_birth p threads mail s.threads i n st none parts.placed);
    told = parts.told;
    addressed = parts.addressed;
    waiting = subst (λ (q : Store). WaitersMatch p eqs records (fronted threads i n st) mail q) (sym e) (waiting_fronted threads i n st (none_at p threads mail s.threads n parts.placed none) p eqs records mail s.equations parts.waiting);
    homes = homes_fronted threads i n st (none_at p threads mail s.threads n parts.placed none) here eqs names parts.homes;
    centred = centred;
    makers = parts.makers;
    said = parts.said;
  }

  -- a thread leaves by a Spawn
  pub leave_parts : (k to : ℕ) (n : ThreadName) (code : CodeId) (vars : List VarName) (bundle : List Equation) (st : Stack) (c : State) → ((l a : ℕ) (m : Msg) → IsOnItsWay mail l a m → l < k) → threads_born p (Some (birth n code vars)) ≡ (n, st) ∷ [] →
      value_of equal_thread s.threads n ≡ None → Each (Contains s.equations) bundle → Fit.EachOfMsg (IsMade made) (msg.Spawn n code vars bundle) → c.equations ≡ s.equations → c.threads ≡ (n, st) ∷ s.threads → IsCentreMade made c →
      PartsMatch p here eqs records threads made (mail ++ mail_from k (sent_to to (msg.Spawn n code vars bundle) ∷ [])) c
  leave_parts k to n code vars bundle st c below born none carried said e t centred = record {
    knowledge = subst (λ (q : Store). EquationsMatch eqs more q) (sym e) (knowledge_posts mail more out sent eqs s.equations (λ a m h. rw (only a m h).1 carried) parts.knowledge);
    kept = parts.kept;
    placed = subst (λ (ts : List (ThreadName × Stack)). ThreadsMatch p threads more ts) (sym t) (placed_leaves p threads mail more s.threads k n st is_sent none parts.placed);
    told = λ i x unbound far. told_posts mail more out sent records i x (parts.told i x unbound far);
    addressed = addressed_posts mail more out sent records (λ a m h. rw (only a m h).1 tt) parts.addressed;
    waiting = subst (λ (q : Store). WaitersMatch p eqs records threads more q) (sym e) (waiting_posts mail more out sent p eqs records threads s.equations (λ a x u o bs h. let no = (only a _ h).1 in cc) parts.waiting);
    homes = parts.homes;
    centred = centred;
    makers = parts.makers;
    said = said_posts mail more out sent made (λ a m h. rw (only a m h).1 said) parts.said;
  }
    where
      spawn : Msg
      spawn = msg.Spawn n code vars bundle

      out : List Sent
      out = sent_to to spawn ∷ []

      more : Mail
      more = mail ++ mail_from k out

      sent : Posts mail more out
      sent = posts mail k out

      only : (a : ℕ) (m : Msg) → Contains out (sent_to a m) → (a ≡ to) × (m ≡ msg.Spawn n code vars bundle)
      only a m h = go (Contains-cons_cases _ _ [] h)
        where
          go : (sent_to to spawn ≡ sent_to a m) ⊎ Contains [] (sent_to a m) → (a ≡ to) × (m ≡ msg.Spawn n code vars bundle)
          go (inl q) = (sym (ap (λ (o : Sent). o.to) q), sym (ap (λ (o : Sent). o.msg) q))
          go (inr q) = absurd (nothing _ q)

      here_now : IsOnItsWay more k to spawn
      here_now =
          let new = new_number mail k out to spawn (Contains-head _ []) in
          subst (λ (l : ℕ). IsOnItsWay more l to spawn) (is_k new.0 (from_number mail k out new.0 to spawn new.1) new.2) new.1
        where
          is_k : (l : ℕ) → IsOnItsWay mail l to spawn ⊎ (Contains out (sent_to to spawn) × (k ≤ l) × (l < k + 1)) → k ≤ l → l ≡ k
          is_k l (inl h) high = absurd (omega (arith, below l to spawn h, high))
          is_k l (inr h) high = omega (arith, high, h.2)

      is_sent : IsSent p mail more k n st
      is_sent = record {
        new = (to, code, vars, bundle, here_now, born);
        unused = λ o su h. absurd (omega (arith, below k h.0 _ h.4));
        kept = λ m o su h. (h.0, h.1, h.2, h.3, sent.old m h.0 _ h.4, h.5);
        from = λ m o su h. from m o su h.0 h.1 h.2 h.3 h.5 (from_number mail k out m h.0 _ h.4);
      }
        where
          from : (m : ℕ) (o : ThreadName) (su : Stack) (a : ℕ) (code2 : CodeId) (vars2 : List VarName) (bundle2 : List Equation) → threads_born p (Some (birth o code2 vars2)) ≡ (o, su) ∷ [] →
              IsOnItsWay mail m a (msg.Spawn o code2 vars2 bundle2) ⊎ (Contains out (sent_to a (msg.Spawn o code2 vars2 bundle2)) × (k ≤ m) × (m < k + 1)) → IsInSpawn p mail m o su ⊎ ((m ≡ k) × (o ≡ n) × (su ≡ st))
          from m o su a code2 vars2 bundle2 b (inl h) = inl (a, code2, vars2, bundle2, h, b)
          from m o su a code2 vars2 bundle2 b (inr h) =
              let is : msg.Spawn o code2 vars2 bundle2 ≡ msg.Spawn n code vars bundle = (only a _ h.0).1 in
              let named : o ≡ n = cc in
              let codes : code2 ≡ code = cc in
              let lists : vars2 ≡ vars = cc in
              let both : ◌≡◌ {A = List (ThreadName × Stack)} ((o, su) ∷ []) ((n, st) ∷ []) = sym b ∙ subst (λ (x : ThreadName). threads_born p (Some (birth x code2 vars2)) ≡ (n, st) ∷ []) (sym named) (subst (λ (x : CodeId). threads_born p (Some (birth n x vars2)) ≡ (n, st) ∷ []) (sym codes) (subst (λ (x : List VarName). threads_born p (Some (birth n code x)) ≡ (n, st) ∷ []) (sym lists) born)) in
              let pair : ◌≡◌ {A = ThreadName × Stack} (o, su) (n, st) = cc in
              inr (omega (arith, h.1, h.2), named, ap (λ (q : ThreadName × Stack). q.1) pair)

  -- a thread lands
  pub land_parts : (l i : ℕ) (n : ThreadName) (code : CodeId) (vars : List VarName) (bundle : List Equation) (st : Stack) → IsOnItsWay mail l i (msg.Spawn n code vars bundle) → ((a b : ℕ) (m o : Msg) → IsOnItsWay mail l a m → IsOnItsWay mail l b o → (a ≡ b) × (m ≡ o)) →
      threads_born p (Some (birth n code vars)) ≡ (n, st) ∷ [] → EachOfStack (here i) st → PartsMatch p here eqs records (fronted threads i n st) made (World.without_number l mail) s
  land_parts l i n code vars bundle st at once born names = record {
    knowledge = knowledge_gone l mail less went eqs s.equations parts.knowledge;
    kept = parts.kept;
    placed = placed_lands p threads mail less s.threads i l n st went brings parts.placed;
    told = told_gone l mail less went records (λ to m h j x unbound far why. absurd (other to m h j x why)) parts.told;
    addressed = addressed_gone l mail less went records parts.addressed;
    waiting = waiting_fronted threads i n st nowhere p eqs records less s.equations (waiting_gone l mail less went p eqs records threads s.equations (λ to x t o bs h. let no = (is_it to _ h).1 in cc) parts.waiting);
    homes = homes_fronted threads i n st nowhere here eqs names parts.homes;
    centred = parts.centred;
    makers = parts.makers;
    said = said_gone l mail less went made parts.said;
  }
    where
      less : Mail
      less = World.without_number l mail

      went : Gone l mail less
      went = gone l mail

      brings : IsInSpawn p mail l n st
      brings = (i, code, vars, bundle, at, born)

      nowhere : (j : ℕ) → value_of equal_thread (threads j) n ≡ None
      nowhere = lands_none p threads mail s.threads l n st parts.placed brings

      is_it : (to : ℕ) (m : Msg) → IsOnItsWay mail l to m → (to ≡ i) × (m ≡ msg.Spawn n code vars bundle)
      is_it to m h = once to i m (msg.Spawn n code vars bundle) h at

      other : (to : ℕ) (m : Msg) → IsOnItsWay mail l to m → (j : ℕ) (x : VarName) → ((m ≡ msg.Register x j) ⊎ ((to ≡ j) × ((t : Term) × (bs : List Equation) × (m ≡ msg.Binding x t bs)))) → ⊥
      other to m h j x (inl e) = let both : msg.Spawn n code vars bundle ≡ msg.Register x j = sym (is_it to m h).1 ∙ e in cc
      other to m h j x (inr (e, (t, bs, q))) = let both : msg.Spawn n code vars bundle ≡ msg.Binding x t bs = sym (is_it to m h).1 ∙ q in cc
