-- At rest each living thread waits, and has begun what it goes on with.
use Rattle.std.proofs.Common.{◌≡◌, ◌≢◌, ◌∙◌, sym, ap, refl, subst, List, [], ◌∷◌, ◌++◌, map, Bool, true, false, cond, Some, None}
use Rattle.std.specs.Prelude.{Option, IsSome, unwrap_or}
use Rattle.tree_node.specs.declared.names.ThreadName.{ThreadName}
use Rattle.tree_node.specs.declared.pick.Pick.{Pick}
use Rattle.tree_node.specs.Assoc.{value_of}
use Rattle.tree_node.specs.Each.{Each}
use Rattle.tree_node.specs.State.{Stack, State, equal_thread}
use Rattle.tree_node.proofs.EachLemmas.{each_reverse}
use Rattle.tree_node.proofs.EnvLemmas.{each_more}
use Rattle.tree_node.proofs.NameLemmas.{same_thread_decides}
use Rattle.kernel_syntax.specs.declared.stmt.Stmt.{Stmt}
use Rattle.oz_model.specs.Need.{Need, Waits, WaitsAny, Binds, Takes, IsReady, IsWaiting, stack_need}
use Rattle.oz_model.specs.Run.{AtRest}
use Rattle.oz_model.specs.Step.{need_of}
use Rattle.central_machine.specs.declared.turns.Awaited.{Awaited}
use Rattle.central_machine.specs.declared.turns.Awaited.TheVariants as awaited
use Rattle.central_machine.specs.Getters.{IsAwaitedBy, names_of}
use Rattle.run_trace.specs.declared.findings.Begun.{Begun}
use Rattle.run_trace.specs.Begun.{begun, begun_with, last_begun}
use Rattle.run_trace.specs.Waits.{IsWaitingAt}
use Rattle.run_trace.proofs.BegunLemmas.{last_thread}

-- ---- the names of the living threads

-- the thread lives
abbrev pub Lives : List (ThreadName × Stack) → ThreadName → Type 0
Lives ts n = IsSome (value_of equal_thread ts n)

keys_live : (ts : List (ThreadName × Stack)) → Each (Lives ts) (map (λ (t : ThreadName × Stack). t.0) ts)
keys_live [] = tt
keys_live (t ∷ ts) = (here, each_more (Lives ts) (Lives (t ∷ ts)) (map (λ (u : ThreadName × Stack). u.0) ts) (λ n h. there n h) (keys_live ts))
  where
    here : Lives (t ∷ ts) t.0
    here = rw ((same_thread_decides t.0 t.0).1 refl) refl

    there : (n : ThreadName) → Lives ts n → Lives (t ∷ ts) n
    there n h = go (equal_thread t.0 n)
      where
        go : (b : Bool) → IsSome (cond b (Some t.1) (value_of equal_thread ts n))
        go true = refl
        go false = h

pub names_live : (ts : List (ThreadName × Stack)) → Each (Lives ts) (names_of ts)
names_live ts = each_reverse (Lives ts) (map (λ (t : ThreadName × Stack). t.0) ts) (keys_live ts)

-- ---- what they wait for

never_both : (need : Need) → IsWaiting need → IsReady need → ⊥
never_both (Waits x) w r = r
never_both (WaitsAny q) w r = r
never_both (Binds a b) w r = w
never_both (Takes kinds) w r = w

-- a living thread at rest needs what is not there
pub rest_waits : (p : List Stmt) (s : State) (n : ThreadName) (a : Awaited) → AtRest p s → Lives s.threads n → IsAwaitedBy s.equations (need_of p s n) a → a ≢ awaited.None
rest_waits p s n a rest lives needs none =
    go (value_of equal_thread s.threads n) refl lives
  where
    ready : IsReady (need_of p s n)
    ready = subst (λ (o : Awaited). IsAwaitedBy s.equations (need_of p s n) o) none needs

    go : (o : Option Stack) → value_of equal_thread s.threads n ≡ o → IsSome o → ⊥
    go None e h = absurd (cc)
    go (Some st) e h =
        never_both (need_of p s n)
        (subst (λ (w : Stack). IsWaiting (stack_need p s.equations w)) (ap (λ (o : Option Stack). unwrap_or o []) (sym e)) (rest n st e))
        ready

-- what is told of a living thread at rest
pub waits_at : (p : List Stmt) (ks : List Pick) (s : State) (n : ThreadName) (b : Begun) (a : Awaited) → AtRest p s → Lives s.threads n → last_begun (begun_with s n (begun p ks)) n ≡ Some b →
    IsAwaitedBy s.equations (need_of p s n) a → IsWaitingAt p ks s (record { begun = b; awaited = a })
waits_at p ks s n b a rest lives is needs =
    let mine : n ≡ b.thread = sym (last_thread (begun_with s n (begun p ks)) n b is) in
    record {
      statement = subst (λ (m : ThreadName). last_begun (begun_with s m (begun p ks)) m ≡ Some b) mine is;
      needs = subst (λ (m : ThreadName). IsAwaitedBy s.equations (need_of p s m) a) mine needs;
      waits = rest_waits p s n a rest lives needs;
    }
