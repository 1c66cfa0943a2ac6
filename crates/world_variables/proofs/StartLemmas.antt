-- The start of a world.
use Rattle.std.proofs.Common.{arith, ◌≡◌, ◌∙◌, sym, refl, subst, ℕ, List, [], ◌∷◌, inl, inr, Bool, true, false, cond, Some, None}
use Rattle.std.specs.Prelude.{Option, ◌==◌, is_some, IsTrue}
use Rattle.tree_node.specs.declared.names.VarName.{VarName}
use Rattle.tree_node.specs.declared.names.ThreadName.{ThreadName}
use Rattle.tree_node.specs.declared.names.Name.{Name}
use Rattle.tree_node.specs.declared.names.Name.TheVariants as name
use Rattle.tree_node.specs.Assoc.{value_of}
use Rattle.tree_node.specs.Names.{EachOfStack}
use Rattle.tree_node.specs.State.{Stack, equal_thread}
use Rattle.kernel_syntax.specs.declared.stmt.Stmt.{Stmt}
use Rattle.oz_model.specs.Run.{start, first_thread}
use Rattle.oz_model.specs.Effect as Effect
use Rattle.tree_node.specs.declared.node.Term.{Term}
use Rattle.oz_model.specs.Laws.{nobody}
use Rattle.kernel_syntax.specs.Free.{free}
use Rattle.oz_model.proofs.ClosureLemmas.{at_names, limited_names}
use Rattle.bind_protocol.specs.Records.{knowledge, IsKnown}
use Rattle.site_model.specs.Site.{ThreadState, initial_site, runnable_threads}
use Rattle.thread_roster.specs.declared.mode.Awaited.TheVariants.{Cell}
use Rattle.thread_roster.specs.declared.mode.Mode.TheVariants.{Runs, WaitsFor}
use Rattle.thread_roster.specs.declared.mode.Mode.TheVariants as site
use Rattle.world_model.specs.World.{start_world, records, counters}
use Rattle.world_model.specs.Names.{IsMade, here_at}
use Rattle.world_model.proofs.PutLemmas.{nat_decides}
use Rattle.world_model.proofs.MailLemmas.{nothing}
use Rattle.world_model.proofs.KeyLemmas.{running_new, running_old}
use Rattle.world_variables.specs.Laws.{PartsIn}

unknown : (i : ℕ) (x : VarName) → knowledge (record { site = i; owners = []; proxies = [] }) x ≡ None
unknown i x = go (x.site == i)
  where
    go : (b : Bool) → ◌≡◌ {A = Option (Option Term)} (cond {A = Option (Option Term)} b None None) None
    go true = refl
    go false = refl

not_known : (i : ℕ) (x : VarName) → IsKnown (record { site = i; owners = []; proxies = [] }) x → ⊥
not_known i x h = bad (knowledge (record { site = i; owners = []; proxies = [] }) x) (unknown i x) h
  where
    bad : (o : Option (Option Term)) → o ≡ None → IsTrue (is_some o) → ⊥
    bad None e q = cc
    bad (Some o) e q = cc

-- a thread of the start
pub start_thread : (p : List Stmt) (count i : ℕ) (n : ThreadName) (v : ThreadState) → value_of equal_thread (initial_site p count i).threads n ≡ Some v → (i ≡ 1) × (value_of equal_thread (start p).threads n ≡ Some v.0) × (v.1 ≡ Runs)
start_thread p count i n v h = go (i == 1) refl h
  where
    go : (b : Bool) → (i == 1) ≡ b → value_of equal_thread (cond b (runnable_threads (start p).threads) []) n ≡ Some v → (i ≡ 1) × (value_of equal_thread (start p).threads n ≡ Some v.0) × (v.1 ≡ Runs)
    go true q k = let r = running_old (start p).threads n v k in ((nat_decides i 1).0 q, r.0, r.1)
    go false q k = cc

start_stack : (p : List Stmt) (P : Name → Type 0) → P (name.Var nobody) → (n : ThreadName) (st : Stack) → value_of equal_thread (start p).threads n ≡ Some st → EachOfStack P st
start_stack p P anon n st h = go (equal_thread first_thread n) h
  where
    go : (b : Bool) → cond b (Some (Effect.body_item p (record { 0 = 0 }) [] ∷ [])) None ≡ Some st → EachOfStack P st
    go true k = let same : Effect.body_item p (record { 0 = 0 }) [] ∷ [] ≡ st = cc in subst (EachOfStack P) same (limited_names P (free p (record { 0 = 0 })) [] (λ k c. at_names P [] k tt (inl anon)), tt)
    go false k = cc

pub start_parts : (p : List Stmt) (count : ℕ) → PartsIn p (here_at (records (initial_site p count))) (start_world p count) (start p)
start_parts p count = record {
  knowledge = record { one = λ x t r h g. absurd (nothing _ h); down = λ x t h. absurd (nothing _ h); owned = λ x t h. absurd (nothing _ h); known = λ i e h. absurd (nothing _ h); told = λ k to m h. absurd (nothing _ h) };
  kept = λ i. record { site = refl; bound = λ x t h. let both : None ≡ Some (Some t) = sym (unknown i x) ∙ h in cc; held = λ x t h. absurd (nothing _ h); sound = tt };
  placed = record {
    up = λ i n st h. (start_thread p count i n (st, h.0) h.1).1;
    flies = λ k n st h. absurd (nothing _ h.4);
    down = λ n st h. inl (1, (Runs, running_new (start p).threads n st h));
    home = λ i j n v u h g. (start_thread p count i n (v, h.0) h.1).0 ∙ sym (start_thread p count j n (u, g.0) g.1).0;
    apart = λ i k n v u h g. nothing _ g.4;
    once = λ k l n v u h g. absurd (nothing _ h.4);
    sole = λ k n o v u h g. absurd (nothing _ h.4);
  };
  told = λ i x h far. let both : None ≡ Some None = sym (unknown i x) ∙ h in cc;
  addressed = λ k to m h. absurd (nothing _ h);
  waiting = record {
    asks = λ k to x t n bundle h. absurd (nothing _ h);
    waits = λ i n st x h. let m = (start_thread p count i n (st, site.Waits x) h).2 in cc;
    needs = λ i n st x h. let m = (start_thread p count i n (st, site.Needs x) h).2 in cc;
    compares = λ i n st xs h. let m = (start_thread p count i n (st, site.WaitsAny xs) h).2 in cc;
    exchanges = λ i n st d h. let m = (start_thread p count i n (st, WaitsFor (Cell d)) h).2 in cc;
  };
  homes = λ i. record { equations = tt; stacks = λ n v h. start_stack p (here_at (records (initial_site p count)) i) (inl (inl refl)) n v.0 (start_thread p count i n v h).1 };
  centred = record { all = (tt, tt, tt, ((inr (omega arith), start_stack p (IsMade (counters (initial_site p count))) (inl refl) first_thread _ refl), tt)); nobody = λ x zero t h. absurd (nothing _ h) };
  makers = record {
    own = λ i x own. ((λ h. absurd (omega (arith, h))), (λ h. absurd (not_known i x h)));
    met = λ i x h. absurd (not_known i x h);
  };
  said = λ k to m h. absurd (nothing _ h);
}
