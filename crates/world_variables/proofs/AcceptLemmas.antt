-- A request that comes before any bind of its variable is a step of the thread that asked; a later one changes nothing.
use Rattle.std.proofs.Common.{arith, ◌≡◌, ◌∙◌, sym, ap, refl, subst, ℕ, ◌+◌, List, [], ◌∷◌, inl, inr, Bool, true, false, cond, Some, None, append-nil}
use Rattle.tree_node.specs.declared.names.VarName.{VarName}
use Rattle.tree_node.specs.declared.names.ThreadName.{ThreadName}
use Rattle.tree_node.specs.declared.names.Name.{Name}
use Rattle.tree_node.specs.declared.node.Term.{Term}
use Rattle.tree_node.specs.Assoc.{value_of, with_value, with_optional_value}
use Rattle.tree_node.specs.State.{Stack, State, equal_thread}
use Rattle.tree_node.specs.Store.{Store, Equation, IsSound, IsFree}
use Rattle.kernel_syntax.specs.declared.stmt.Stmt.{Stmt}
use Rattle.site_message.specs.declared.message.Msg.TheVariants as msg
use Rattle.oz_model.specs.Need.{Need, Binds, stack_need, IsReady, kinds_of}
use Rattle.oz_model.specs.Effect.{Keeps, Effect, Stays}
use Rattle.oz_model.specs.Step.{AreOfKinds, IsAllowed, IsBindFor, effect_of, next, Step, living_stack, state_after, need_of}
use Rattle.oz_model.specs.Step as Step
use Rattle.oz_model.specs.Answers.{IsPartOf}
use Rattle.oz_model.proofs.DownLemmas.{lower_binds}
use Rattle.oz_model.proofs.WithinLemmas.{more_is_within}
use Rattle.oz_model.proofs.KeepLemmas.{binds_stay}
use Rattle.bind_protocol.specs.Records.{Records, knowledge}
use Rattle.site_model.specs.Site.{Threads, Counters}
use Rattle.site_model.specs.Messages.{bind_pick}
use Rattle.world_model.specs.World.{Mail, IsOnItsWay}
use Rattle.world_model.specs.Matches.{IsAwaited, PartsMatch}
use Rattle.world_variables.proofs.TellLemmas.{with_equation}
use Rattle.site_model.proofs.EffectLemmas.{bind_effect}
use Rattle.tree_node.proofs.NameLemmas.{same_thread_decides}

with_same : {V : Type 0} (ts : List (ThreadName × V)) (n : ThreadName) (v : V) → value_of equal_thread ts n ≡ Some v → with_value equal_thread ts n v ≡ ts
with_same [] n v e = refl
with_same {V} ((m, u) ∷ ts) n v e = go (equal_thread m n) refl (λ k. with_same ts n v k) e
  where
    go : (b : Bool) → equal_thread m n ≡ b → (value_of equal_thread ts n ≡ Some v → with_value equal_thread ts n v ≡ ts) → cond b (Some u) (value_of equal_thread ts n) ≡ Some v → cond b ((n, v) ∷ ts) ((m, u) ∷ with_value equal_thread ts n v) ≡ (m, u) ∷ ts
    go true q ih k =
        let value : u ≡ v = cc in
        let named : m ≡ n = (same_thread_decides m n).0 q in
        rw (value, named) refl
    go false q ih k = ap (λ (us : List (ThreadName × V)). (m, u) ∷ us) (ih k)

-- a stack whose top needs a bind has a top
binds_alive : (p : List Stmt) (s : Store) (st : Stack) (a b : Term) → stack_need p s st ≡ Binds a b → living_stack st ≡ Some st
binds_alive p s [] a b e = cc
binds_alive p s (x ∷ xs) a b e = refl

-- a bind that is allowed, of a variable that is free at the centre, by a thread that waits somewhere
pub bind_allowed : (p : List Stmt) (c : State) (s : Store) (n : ThreadName) (st : Stack) (x : VarName) (t : Term) (a b : Term) → IsSound c.equations → IsPartOf s c.equations → value_of equal_thread c.threads n ≡ Some st →
    stack_need p c.equations st ≡ Binds a b → IsBindFor c.equations (Binds a b) (Some (x, t)) → IsAllowed p c (bind_pick n x t)
bind_allowed p c s n st x t a b sound more at need allows = record {
  lives = rw at refl;
  ready = subst (λ (d : Need). IsReady d) (sym need_at) tt;
  fresh = record { of_kinds = subst (λ (d : Need). AreOfKinds [] (kinds_of d)) (sym need_at) tt; distinct = tt; unused = tt };
  bind = subst (λ (d : Need). IsBindFor c.equations d (Some (x, t))) (sym need_at) allows;
}
  where
    need_at : need_of p c n ≡ Binds a b
    need_at = rw at need

-- the state after it
pub bind_next : (p : List Stmt) (c : State) (n : ThreadName) (st : Stack) (x : VarName) (t : Term) (a b : Term) → value_of equal_thread c.threads n ≡ Some st → stack_need p c.equations st ≡ Binds a b → next p c (bind_pick n x t) ≡ with_equation c x t
bind_next p c n st x t a b at need = subst (λ (e : Effect). state_after p c n e ≡ with_equation c x t) (sym is) whole
  where
    plain : Effect
    plain = record { adds = (x, t) ∷ []; stack = st; line = None; born = None; cell = Stays; port = Keeps }

    is : effect_of p c (bind_pick n x t) ≡ plain
    is = rw at (bind_effect p c.equations st a b (x, t) need)

    threads : with_optional_value equal_thread c.threads n (living_stack st) ≡ c.threads
    threads = rw (binds_alive p c.equations st a b need) (with_same c.threads n st at)

    ended : c.ended + Step.end_count st ≡ c.ended
    ended = go st (binds_alive p c.equations st a b need)
      where
        go : (st : Stack) → living_stack st ≡ Some st → c.ended + Step.end_count st ≡ c.ended
        go [] e = cc
        go (y ∷ ys) e = omega arith

    whole : state_after p c n plain ≡ with_equation c x t
    whole = rw (threads, ended, append-nil c.lines) refl

module _ (p : List Stmt) (here : ℕ → Name → Type 0) (eqs : ℕ → Store) (records : ℕ → Records) (threads : ℕ → Threads) (made : ℕ → Counters) (mail : Mail) (s : State) (parts : PartsMatch p here eqs records threads made mail s) where
  -- the owner has no equation of the variable
  pub asked_is_step : (k to : ℕ) (x : VarName) (t : Term) (n : ThreadName) (bundle : List Equation) → IsSound s.equations → IsOnItsWay mail k to (msg.BindReq x n t bundle) → knowledge (records x.site) x ≡ Some None → Step p s (bind_pick n x t) (with_equation s x t)
  asked_is_step k to x t n bundle sound at unbound = go (parts.waiting.asks k to x t n bundle at)
    where
      free : IsFree s.equations x
      free r h =
          let known : knowledge (records x.site) x ≡ Some (Some r) = (parts.kept x.site).held x r (parts.knowledge.owned x r h) in
          let both : Some None ≡ Some (Some r) = sym unbound ∙ known in cc

      go : IsAwaited p eqs threads s.equations x t n → Step p s (bind_pick n x t) (with_equation s x t)
      go (inl (r, h)) = absurd (free r h)
      go (inr (i, st, wait, (a, b, need, allows, low))) =
          let lower = lower_binds s.equations x t parts.knowledge.one parts.knowledge.down free low in
          let kept = binds_stay p (eqs i) s.equations st a b x t sound (more_is_within (eqs i) s.equations (parts.knowledge.known i)) need allows lower.0 lower.1 in
          let central : value_of equal_thread s.threads n ≡ Some st = parts.placed.up i n st (_, wait) in
          (bind_allowed p s (eqs i) n st x t a b sound (parts.knowledge.known i) central kept.0 kept.1, sym (bind_next p s n st x t a b central kept.0))
