-- In every run all sites and messages fit the program, and their variables were made.
use Rattle.std.proofs.Common.{arith, ◌≡◌, ◌≢◌, ◌∙◌, sym, ap, refl, subst, ℕ, ◌≤◌, List, [], ◌∷◌, ◌⊎◌, inl, inr, Bool, true, false, cond, Some, None}
use Rattle.std.specs.Prelude.{Option, Contains, ◌==◌, is_some, slice_get}
use Rattle.tree_node.specs.declared.names.VarName.{VarName}
use Rattle.tree_node.specs.declared.names.ThreadName.{ThreadName}
use Rattle.tree_node.specs.declared.item.Item.TheVariants as item
use Rattle.tree_node.specs.declared.node.Term.{Term}
use Rattle.tree_node.specs.Assoc.{value_of}
use Rattle.tree_node.specs.Each.{Each}
use Rattle.tree_node.specs.Env.{restriction}
use Rattle.tree_node.specs.State.{equal_thread}
use Rattle.kernel_syntax.specs.declared.stmt.Stmt.{Stmt}
use Rattle.kernel_syntax.specs.Program.{IsProgram}
use Rattle.site_message.specs.declared.message.Msg.{Msg}
use Rattle.site_message.specs.declared.message.Sent.{Sent}
use Rattle.site_message.specs.declared.turn.Turn.{Turn}
use Rattle.site_message.specs.Journal.{IsTravelling, sent_of}
use Rattle.oz_model.specs.Effect.{body_item}
use Rattle.oz_model.specs.Run.{first_thread, start}
use Rattle.oz_model.proofs.NameLemmas.{Each-weaker}
use Rattle.thread_machine.specs.Fits as fits
use Rattle.bind_protocol.specs.Records.{IsKnown}
use Rattle.bind_protocol.proofs.ListLemmas.{each_at}
use Rattle.token_chain.specs.declared.token.Token.TheVariants.{Away, Here}
use Rattle.site_model.specs.Site.{Site, ThreadState, initial_site, runnable_threads}
use Rattle.site_model.specs.Bundle.{message_vars}
use Rattle.site_model.specs.Transition.{Transition}
use Rattle.site_model.specs.Run.{WorldRun, delivered_message, message_of}
use Rattle.world_model.specs.World.{Sites, put}
use Rattle.world_model.proofs.PutLemmas.{nat_decides, at_all, at_here, at_other}
use Rattle.world_model.proofs.MailLemmas.{nothing}
use Rattle.world_model.proofs.KeyLemmas.{running_old}
use Rattle.world_messages.specs.Fitting.{ThreadFits, SiteFits, MsgFits, IsMadeVar, IsFitting, IsFittingMsg, WorldFits, HeardWaits, TokensServe}
use Rattle.world_messages.proofs.SiteFitLemmas.{FitsOn}
use Rattle.world_messages.proofs.UnitFitLemmas.{msg_vars}
use Rattle.world_messages.proofs.MessageFitLemmas.{turn_fits, MeetsAs}
use Rattle.world_messages.proofs.RunLemmas.{Entry, every_run}
use Rattle.tree_node.proofs.EachLemmas.{each_append}

-- ---- the start

module _ (p : List Stmt) (is : IsProgram p) where
  first_fits : (n : ℕ) → ThreadFits p n [] (body_item p (record { 0 = 0 }) [] ∷ [])
  first_fits n = rw is.closed (record { some = λ (q : item.Run (record { 0 = 0 }) (restriction [] []) ∷ [] ≡ []). cc; stack = record { names = (tt, tt); items = ((is.some, rw is.closed tt), tt) }; nodes = (tt, tt); homes = (tt, tt) })

  first_stack : (m : ℕ) (n : ThreadName) (v : ThreadState) (b : Bool) → value_of equal_thread (cond b (runnable_threads (start p).threads) []) n ≡ Some v → ThreadFits p m [] v.0
  first_stack m n v true e = let o = running_old (start p).threads n v e in only (equal_thread first_thread n) o.0
    where
      only : (c : Bool) → cond c (Some (body_item p (record { 0 = 0 }) [] ∷ [])) None ≡ Some v.0 → ThreadFits p m [] v.0
      only true k = let same : body_item p (record { 0 = 0 }) [] ∷ [] ≡ v.0 = cc in subst (ThreadFits p m []) same (first_fits m)
      only false k = cc
  first_stack m n v false e = cc

  knows_none : (b : Bool) (o : Option (Option Term)) → o ≡ None → is_some (cond b None o) ≡ true → ⊥
  knows_none true o e k = cc
  knows_none false o e k = cc

  bound_none : (b : Bool) (t : Term) → cond {A = Option (Option Term)} b None None ≡ Some (Some t) → ⊥
  bound_none true t e = cc
  bound_none false t e = cc

  never_here : (v : VarName) → Away ≡ Here v → ⊥
  never_here v e = cc

  none_some : (v : VarName) → ◌≡◌ {A = Option VarName} None (Some v) → ⊥
  none_some v e = cc

  start_fits : (n i : ℕ) → SiteFits p n i [] (initial_site p n i)
  start_fits n i = record {
    names = record {
      site = refl;
      here = λ x c. absurd (nothing x c);
      within = λ x k. absurd (knows_none (x.site == i) None refl k);
      own = λ x mine low. absurd (omega (arith, low));
      counted = λ x mine c. absurd (nothing x c);
      bound = λ x t e. absurd (bound_none (x.site == i) t e);
    };
    terms = record {
      equations = record { names = tt; terms = tt };
      nodes = tt;
      homes = tt;
      stacks = λ th v e. first_stack n th v (i == 1) e;
      contents = λ c v e. absurd (never_here v e);
    };
    keeps = record {
      ends = λ q x e. absurd (none_some x e);
      contents = λ c v e. absurd (none_some v e);
      early = λ c r at. absurd (nothing r at);
    };
    sites = refl;
  }

  -- ---- an entry

  module _ (n limit : ℕ) where
    abbrev InMsg : Option Msg → VarName → Type 0
    InMsg None x = ⊥
    InMsg (Some m) x = Contains (message_vars m) x

    abbrev IsNewFor : ℕ → Option Msg → VarName → Type 0
    IsNewFor a m x = (x.site ≡ a) ⊎ InMsg m x

    meets_as : (some : 1 ≤ n) (a : ℕ) (m : Option Msg) → MeetsAs p is n limit some a (IsNewFor a m) (λ x e. inl e) m
    meets_as some a None = tt
    meets_as some a (Some m) = λ x c. inr c

    msg_made : (f : Sites) (j : List Turn) (o : Option ℕ) → Each (IsFittingMsg p n f) (sent_of j) → (x : VarName) → InMsg (delivered_message j o) x → IsMadeVar n f x
    msg_made f j None h x c = absurd c
    msg_made f j (Some k) h x c = go (slice_get (sent_of j) k) refl c
      where
        go : (q : Option Sent) → slice_get (sent_of j) k ≡ q → InMsg (message_of q) x → IsMadeVar n f x
        go None e c = absurd c
        go (Some m) e c = (each_at (IsFittingMsg p n f) (sent_of j) k m h e).1 x c

    pub fits_entry : (j : List Turn) (e : Turn) (f : Sites) (d : Transition) → Entry p n limit j e f d → HeardWaits p (delivered_message j e.delivered) (f e.site) →
        WorldFits p n j f → WorldFits p n (e ∷ j) (put f e.site d.site)
    fits_entry j e f d entry waits h = go (h.sites e.site)
      where
        some : 1 ≤ n
        some = let low = entry.site.0 in let high = entry.site.1 in omega (arith, low, high)

        go : IsFitting p n f e.site (f e.site) → WorldFits p n (e ∷ j) (put f e.site d.site)
        go (known, site, made) = after (turn_fits p is n limit some e.site (IsNewFor e.site (delivered_message j e.delivered)) (λ x q. inl q) known (delivered_message j e.delivered) (f e.site) d (meets_as some e.site (delivered_message j e.delivered)) waits site entry.turn)
          where
            after : FitsOn p n e.site (IsNewFor e.site (delivered_message j e.delivered)) known d → WorldFits p n (e ∷ j) (put f e.site d.site)
            after o = record {
              sites = at_all f e.site d.site (λ (i : ℕ) (s : Site). IsFitting p n (put f e.site d.site) i s) (o.more, o.site, λ x c. new x c (o.new x c)) others;
              messages = each_append (IsFittingMsg p n (put f e.site d.site)) (sent_of j) e.sent (Each-weaker _ _ old (sent_of j) h.messages) (subst (Each (IsFittingMsg p n (put f e.site d.site))) (sym entry.tells.sent) (Each-weaker _ _ sent d.sent o.sent));
            }
              where
                stays : (x : VarName) → IsMadeVar n f x → IsMadeVar n (put f e.site d.site) x
                stays x (low, high, k) = (low, high, by (x.site == e.site) refl)
                  where
                    by : (b : Bool) → (x.site == e.site) ≡ b → IsKnown (put f e.site d.site x.site).records x
                    by true q =
                        let at : x.site ≡ e.site = (nat_decides x.site e.site).0 q in
                        let here : IsKnown (f e.site).records x = subst (λ (i : ℕ). IsKnown (f i).records x) at k in
                        let now : IsKnown d.site.records x = o.site.names.here x (o.grows x (site.names.within x here)) in
                        subst (λ (s : Site). IsKnown s.records x) (sym (ap (put f e.site d.site) at ∙ at_here f e.site d.site)) now
                    by false q =
                        let other : x.site ≢ e.site = λ (z : x.site ≡ e.site). let yes : (x.site == e.site) ≡ true = (nat_decides x.site e.site).1 z in cc in
                        subst (λ (s : Site). IsKnown s.records x) (sym (at_other f e.site d.site x.site other)) k

                own : (x : VarName) → x.site ≡ e.site → Contains o.more x → IsMadeVar n (put f e.site d.site) x
                own x at c = (
                  subst (λ (i : ℕ). 1 ≤ i) (sym at) entry.site.0,
                  subst (λ (i : ℕ). i ≤ n) (sym at) entry.site.1,
                  subst (λ (s : Site). IsKnown s.records x) (sym (ap (put f e.site d.site) at ∙ at_here f e.site d.site)) (o.site.names.here x c),
                )

                new : (x : VarName) → Contains o.more x → Contains known x ⊎ IsNewFor e.site (delivered_message j e.delivered) x → IsMadeVar n (put f e.site d.site) x
                new x c (inl k) = stays x (made x k)
                new x c (inr (inl at)) = own x at c
                new x c (inr (inr k)) = stays x (msg_made f j e.delivered h.messages x k)

                others : (i : ℕ) → i ≢ e.site → IsFitting p n (put f e.site d.site) i (f i)
                others i other = let s = h.sites i in (s.0, s.1, λ x c. stays x (s.2 x c))

                old : (m : Sent) → IsFittingMsg p n f m → IsFittingMsg p n (put f e.site d.site) m
                old m (codes, vars, placed) = (codes, λ x c. stays x (vars x c), placed)

                sent : (m : Sent) → MsgFits p n o.more m.msg → IsFittingMsg p n (put f e.site d.site) m
                sent m (names, codes, placed) = (codes, λ x c. let at = msg_vars p is n limit some e.site (IsNewFor e.site (delivered_message j e.delivered)) (λ y q. inl q) (fits.IsKnown o.more) m.msg names x c in new x at (o.new x at), placed)

    pub start_world_fits : WorldFits p n [] (initial_site p n)
    start_world_fits = record { sites = λ i. ([], start_fits n i, λ x c. absurd (nothing x c)); messages = tt }

  -- where those that wait for a token can be served whenever it comes, all fits in every run
  pub run_fits : (n limit : ℕ) → TokensServe p n limit → (j : List Turn) (f : Sites) → WorldRun p n limit j f → WorldFits p n j f
  run_fits n limit tokens j f run = every_run p n limit (WorldFits p n) (start_world_fits n limit) (λ j e f d entry h. fits_entry n limit j e f d entry (waits j e f d entry e.delivered refl) h) j f run
    where
      waits : (j : List Turn) (e : Turn) (f : Sites) (d : Transition) → Entry p n limit j e f d → (o : Option ℕ) → e.delivered ≡ o → HeardWaits p (delivered_message j e.delivered) (f e.site)
      waits j e f d entry None q = subst (λ (o : Option ℕ). HeardWaits p (delivered_message j o) (f e.site)) (sym q) tt
      waits j e f d entry (Some k) q = go (entry.wired k q)
        where
          go : (m : Sent) × IsTravelling j k m × (m.to ≡ e.site) → HeardWaits p (delivered_message j e.delivered) (f e.site)
          go (m, at, to) =
              let t : HeardWaits p (Some m.msg) (f e.site) = subst (λ (i : ℕ). HeardWaits p (Some m.msg) (f i)) to (tokens j f entry.run k m at) in
              let same : delivered_message j e.delivered ≡ Some m.msg = ap (delivered_message j) q ∙ ap message_of at.0 in
              subst (λ (o : Option Msg). HeardWaits p o (f e.site)) (sym same) t
