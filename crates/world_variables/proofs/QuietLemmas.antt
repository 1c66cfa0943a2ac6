-- Where nothing travels and every thread waits, the centralised machine rests.
use Rattle.std.proofs.Common.{rules, ◌≡◌, ◌∙◌, sym, refl, subst, ℕ, List, ◌⊎◌, inl, inr, Bool, Some, None}
use Rattle.std.specs.Prelude.{Option, Contains, ◌≢◌, is_some, IsTrue}
use Rattle.tree_node.specs.declared.names.VarName.{VarName}
use Rattle.tree_node.specs.declared.names.ThreadName.{ThreadName}
use Rattle.tree_node.specs.declared.names.Name.TheVariants as name
use Rattle.tree_node.specs.declared.node.Term.{Term}
use Rattle.tree_node.specs.Assoc.{value_of}
use Rattle.tree_node.specs.State.{State, equal_thread}
use Rattle.tree_node.specs.Store.{Store, IsClassName, IsFree, IsSound, root_of}
use Rattle.kernel_syntax.specs.declared.stmt.Stmt.{Stmt}
use Rattle.oz_model.specs.Need.{Need, IsWaiting, stack_need}
use Rattle.oz_model.specs.Run.{AtRest}
use Rattle.oz_model.proofs.EffectNames.{stack_need_has}
use Rattle.oz_model.proofs.WaitLemmas.{stack_waits}
use Rattle.tree_node.proofs.SoundLemmas.{class_names, root_names_class}
use Rattle.bind_protocol.specs.Records.{Records, knowledge, IsKnown}
use Rattle.site_model.specs.Site.{ThreadState, Threads, Counters}
use Rattle.thread_roster.specs.declared.mode.Mode.{Mode}
use Rattle.thread_roster.specs.declared.mode.Mode.TheVariants.{Runs, WaitsFor}
use Rattle.thread_roster.specs.declared.mode.Mode.TheVariants as site
use Rattle.world_model.specs.World.{Mail}
use Rattle.world_model.specs.Names.{IsHere, here_at}
use Rattle.world_model.specs.Matches.{IsThreadAt, IsInSpawn, NeedsFirst, IsAsked, IsOpenOn, IsTold, PartsMatch}
use Rattle.world_variables.proofs.LearnLemmas.{free_none, needs_more, open_more}
use Rattle.world_variables.proofs.RecordLemmas.{registered_open}
use Rattle.thread_roster.specs.Threads.{is_waiting}
use Rattle.world_variables.specs.Laws.{IsStill}

abbrev pub waits : ThreadName × ThreadState → Bool
waits t = is_waiting t.1.1

module _ (p : List Stmt) (eqs : ℕ → Store) (records : ℕ → Records) (threads : ℕ → Threads) (made : ℕ → Counters) (mail : Mail) (s : State) (parts : PartsMatch p (here_at records) eqs records threads made mail s) (still : IsStill threads mail) where
  -- what a site sees as free, and has here, is free at the centre
  free_there : (i : ℕ) (x : VarName) → IsFree (eqs i) x → IsHere (records i) x → IsFree s.equations x
  free_there i x free (inl zero) t h = parts.centred.nobody x zero t h
  free_there i x free (inr known) t h = go (knowledge (records i) x) refl known
    where
      owned : knowledge (records x.site) x ≡ Some (Some t)
      owned = (parts.kept x.site).held x t (parts.knowledge.owned x t h)

      site_or : (a b : ℕ) → (a ≡ b) ⊎ (a ≢ b)
      site_or a b = search rules

      missing : (o : Option (Option Term)) → o ≡ None → IsTrue (is_some o) → ⊥
      missing None e q = cc
      missing (Some o) e q = cc

      told : IsTold records mail i x → ⊥
      told (inl r) =
          let open_now : knowledge (records x.site) x ≡ Some None = registered_open (records x.site) x i (sym (parts.kept x.site).site) r in
          let both : Some None ≡ Some (Some t) = sym open_now ∙ owned in cc
      told (inr (inl (k, q))) = still.none k _ _ q
      told (inr (inr (k, r, bundle, q))) = still.none k _ _ q

      go : (o : Option (Option Term)) → knowledge (records i) x ≡ o → IsKnown (records i) x → ⊥
      go None e k = missing (knowledge (records i) x) e k
      go (Some (Some r)) e k = free r ((parts.kept i).bound x r e)
      go (Some None) e k = at (site_or x.site i)
        where
          at : (x.site ≡ i) ⊎ (x.site ≢ i) → ⊥
          at (inl own) = free t (subst (λ (j : ℕ). Contains (eqs j) (x, t)) own (parts.knowledge.owned x t h))
          at (inr far) = told (parts.told i x e far)

  pub quiet_rests : IsSound s.equations → AtRest p s
  quiet_rests sound n st h = go (parts.placed.down n st h)
    where
      waiting : (i : ℕ) (m : Mode) → value_of equal_thread (threads i) n ≡ Some (st, m) → IsWaiting (stack_need p s.equations st)
      waiting i Runs at = absurd (still.waits i n st at)
      waiting i (WaitsFor a) at = absurd (still.cells i n st a at)
      waiting i (site.WaitsAny xs) at = open_vars (parts.waiting.compares i n st xs at)
        where
          open_vars : IsOpenOn p (eqs i) st xs × ((x : VarName) → Contains xs x → IsFree (eqs i) x × IsHere (records i) x) → IsWaiting (stack_need p s.equations st)
          open_vars (open_on, each) =
              let c = open_more p (eqs i) s.equations st xs sound parts.knowledge.one parts.knowledge.down (parts.knowledge.known i) (λ x k. free_there i x (each x k).0 (each x k).1) open_on in
              subst (λ (d : Need). IsWaiting d) (sym c.1) tt
      waiting i (site.Waits x) at = why (parts.waiting.waits i n st x at)
        where
          why : IsFree (eqs i) x × IsHere (records i) x × IsAsked mail s.equations n x → IsWaiting (stack_need p s.equations st)
          why (free, is, inl (k, t, bundle, q)) = absurd (still.none k _ _ q)
          why (free, is, inr (t, q)) = absurd (free_there i x free is t q)
      waiting i (site.Needs x) at = why (parts.waiting.needs i n st x at)
        where
          why : (i ≢ 0) × NeedsFirst p (eqs i) st x → IsWaiting (stack_need p s.equations st)
          why (real, (z, need, same)) = subst (λ (d : Need). IsWaiting d) (sym kept.1) tt
            where
              -- the end of the class is free, and here
              end : IsClassName (eqs i) z (root_of (eqs i) z)
              end = root_names_class (eqs i) z (parts.kept i).sound (stack_waits p (eqs i) st z need)

              end_here : here_at records i (name.Var (root_of (eqs i) z)) → IsHere (records i) (root_of (eqs i) z)
              end_here (inl h) = h
              end_here (inr zero) = absurd (real zero)

              named : IsHere (records i) (root_of (eqs i) z)
              named = end_here (class_names (here_at records i) (eqs i) z (root_of (eqs i) z) (parts.homes i).equations end.0
                  (stack_need_has (here_at records i) p (eqs i) st z (inl (inl (inl refl))) (parts.homes i).equations ((parts.homes i).stacks n (st, site.Needs x) at) need))

              kept : NeedsFirst p s.equations st (root_of (eqs i) z)
              kept = needs_more p (eqs i) s.equations st (root_of (eqs i) z) sound (parts.knowledge.known i)
                  (free_none s.equations (root_of (eqs i) z) parts.knowledge.one parts.knowledge.down (free_there i (root_of (eqs i) z) end.1 named)) (z, need, end.0)

      go : ((i : ℕ) × IsThreadAt threads i n st) ⊎ ((k : ℕ) × IsInSpawn p mail k n st) → IsWaiting (stack_need p s.equations st)
      go (inl (i, (m, at))) = waiting i m at
      go (inr (k, b)) = absurd (still.none k b.0 _ b.4)
