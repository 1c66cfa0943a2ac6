-- A thread moves from one site to another, as it is: the parts.
use Rattle.std.proofs.Common.{rules, ◌≡◌, ◌∙◌, sym, refl, subst, ℕ, List, ◌∷◌, inl, inr, Bool, true, false, cond, Some, None}
use Rattle.std.specs.Prelude.{Option}
use Rattle.tree_node.specs.declared.names.VarName.{VarName}
use Rattle.tree_node.specs.declared.names.ThreadName.{ThreadName}
use Rattle.tree_node.specs.declared.names.Name.{Name}
use Rattle.tree_node.specs.declared.node.Term.{Term}
use Rattle.tree_node.specs.Assoc.{value_of, without_key}
use Rattle.tree_node.specs.Names.{EachOfThread, EachOfStack}
use Rattle.tree_node.specs.State.{Stack, State, equal_thread}
use Rattle.tree_node.specs.Store.{Store}
use Rattle.tree_node.proofs.AssocLemmas.{Each-without_key, value_of-without_key, value_of-without_key-other}
use Rattle.tree_node.proofs.NameLemmas.{same_thread_decides}
use Rattle.kernel_syntax.specs.declared.stmt.Stmt.{Stmt}
use Rattle.bind_protocol.specs.Records.{Records}
use Rattle.thread_roster.specs.declared.mode.Mode.{Mode}
use Rattle.thread_roster.specs.declared.mode.Mode.TheVariants.{Runs}
use Rattle.site_model.specs.Site.{Threads, ThreadState, Counters}
use Rattle.world_model.specs.World.{Mail}
use Rattle.world_model.specs.Names.{IsMade, IsCentreMade}
use Rattle.world_model.specs.Placed.{IsPlaced}
use Rattle.world_model.specs.Matches.{IsThreadAt, IsInSpawn, IsAwaited, PartsMatch, EquationsMatch, WaitersMatch}
use Rattle.world_variables.proofs.PlaceLemmas.{fronted, gone_on}
use Rattle.world_variables.proofs.StepLemmas.{goes_parts, birth_parts}
use Rattle.world_variables.proofs.FollowLemmas.{value_each}

-- a thread taken out and put in front is found as before
found_alike : {V : Type 0} (ts : List (ThreadName × V)) (n : ThreadName) (v : V) → value_of equal_thread ts n ≡ Some v → (o : ThreadName) → value_of equal_thread ((n, v) ∷ without_key equal_thread ts n) o ≡ value_of equal_thread ts o
found_alike {V} ts n v at o = go (equal_thread n o) refl
  where
    go : (b : Bool) → equal_thread n o ≡ b → cond b (Some v) (value_of equal_thread (without_key equal_thread ts n) o) ≡ value_of equal_thread ts o
    go true q = rw (← (same_thread_decides n o).0 q) (sym at)
    go false q = value_of-without_key-other equal_thread same_thread_decides ts n o (λ (e : n ≡ o). let yes : equal_thread n o ≡ true = (same_thread_decides n o).1 e in cc)

pub found_same : {V : Type 0} (ts : List (ThreadName × V)) (n : ThreadName) (v : V) → value_of equal_thread ts n ≡ Some v → ◌≡◌ {A = ThreadName → Option V} (value_of equal_thread ((n, v) ∷ without_key equal_thread ts n)) (value_of equal_thread ts)
found_same ts n v at = search (rules, found_alike ts n v at)

module _ (p : List Stmt) (here : ℕ → Name → Type 0) (eqs : ℕ → Store) (records : ℕ → Records) (threads : ℕ → Threads) (made : ℕ → Counters) (mail : Mail) (s : State) (parts : PartsMatch p here eqs records threads made mail s) where
  -- a centre in which each thread is found as before
  pub found_parts : (c : State) → c.equations ≡ s.equations → ◌≡◌ {A = ThreadName → Option Stack} (value_of equal_thread s.threads) (value_of equal_thread c.threads) → IsCentreMade made c → PartsMatch p here eqs records threads made mail c
  found_parts c e t centred = record {
    knowledge = subst (λ (q : Store). EquationsMatch eqs mail q) (sym e) parts.knowledge;
    kept = parts.kept;
    placed = subst (λ (f : ThreadName → Option Stack). IsPlaced (IsThreadAt threads) (IsInSpawn p mail) f) t parts.placed;
    told = parts.told;
    addressed = parts.addressed;
    waiting = subst (λ (q : Store). WaitersMatch p eqs records threads mail q) (sym e) parts.waiting;
    homes = parts.homes;
    centred = centred;
    makers = parts.makers;
    said = parts.said;
  }

module _ (p : List Stmt) (here : ℕ → Name → Type 0) (eqs : ℕ → Store) (records : ℕ → Records) (threads : ℕ → Threads) (made : ℕ → Counters) (mail : Mail) (s : State) (parts : PartsMatch p here eqs records threads made mail s) where
  -- a thread that can go on is at site b in place of site a
  pub moves_parts : (a b : ℕ) (n : ThreadName) (st : Stack) → value_of equal_thread (threads a) n ≡ Some (st, Runs) → EachOfStack (here b) st → PartsMatch p here eqs records (fronted (gone_on threads a n None) b n st) made mail s
  moves_parts a b n st at names = found_parts p here eqs records (fronted (gone_on threads a n None) b n st) made mail there born s refl (found_same s.threads n st central) parts.centred
    where
      central : value_of equal_thread s.threads n ≡ Some st
      central = parts.placed.up a n st (Runs, at)

      without : State
      without = record s { threads = without_key equal_thread s.threads n }

      gone : PartsMatch p here eqs records (gone_on threads a n None) made mail without
      gone = goes_parts p here eqs records threads made mail s parts a n st None without at (λ su e. cc) refl refl
          (record { all = (parts.centred.all.0, parts.centred.all.1, parts.centred.all.2, Each-without_key equal_thread (EachOfThread (IsMade made)) s.threads n parts.centred.all.3); nobody = parts.centred.nobody })

      there : State
      there = record s { threads = (n, st) ∷ without_key equal_thread s.threads n }

      born : PartsMatch p here eqs records (fronted (gone_on threads a n None) b n st) made mail there
      born = birth_parts p here eqs records (gone_on threads a n None) made mail without gone b n st there (value_of-without_key equal_thread same_thread_decides s.threads n) names refl refl
          (record { all = (parts.centred.all.0, parts.centred.all.1, parts.centred.all.2, (value_each (IsMade made) s.threads n st parts.centred.all.3 central, Each-without_key equal_thread (EachOfThread (IsMade made)) s.threads n parts.centred.all.3)); nobody = parts.centred.nobody })

-- ---- tables in which threads are found as before

abbrev Table : Type 0
Table = ℕ → ThreadName → Option ThreadState

module _ (p : List Stmt) (here : ℕ → Name → Type 0) (eqs : ℕ → Store) (records : ℕ → Records) (ts us : ℕ → Threads) (made : ℕ → Counters) (mail : Mail) (s : State) (parts : PartsMatch p here eqs records ts made mail s)
    (same : (k : ℕ) (o : ThreadName) → value_of equal_thread (us k) o ≡ value_of equal_thread (ts k) o) where
  rows_same : (k : ℕ) → ◌≡◌ {A = ThreadName → Option ThreadState} (value_of equal_thread (us k)) (value_of equal_thread (ts k))
  rows_same k = search (rules, same k)

  tables_same : ◌≡◌ {A = Table} (λ k. value_of equal_thread (us k)) (λ k. value_of equal_thread (ts k))
  tables_same = search (rules, rows_same)

  awaited_alike : (x : VarName) (t : Term) (n : ThreadName) → IsAwaited p eqs ts s.equations x t n → IsAwaited p eqs us s.equations x t n
  awaited_alike x t n (inl h) = inl h
  awaited_alike x t n (inr (i, st, at, may)) = inr (i, st, same i n ∙ at, may)

  pub alike_parts : PartsMatch p here eqs records us made mail s
  alike_parts = record {
    knowledge = parts.knowledge;
    kept = parts.kept;
    placed = subst (λ (g : Table). IsPlaced (λ (k : ℕ) (o : ThreadName) (st : Stack). (m : Mode) × (g k o ≡ Some (st, m))) (IsInSpawn p mail) (value_of equal_thread s.threads)) (sym tables_same) parts.placed;
    told = parts.told;
    addressed = parts.addressed;
    waiting = record {
      asks = λ k to x t n bundle h. awaited_alike x t n (parts.waiting.asks k to x t n bundle h);
      waits = λ i n st x h. parts.waiting.waits i n st x (sym (same i n) ∙ h);
      needs = λ i n st x h. parts.waiting.needs i n st x (sym (same i n) ∙ h);
      compares = λ i n st xs h. parts.waiting.compares i n st xs (sym (same i n) ∙ h);
      exchanges = λ i n st d h. parts.waiting.exchanges i n st d (sym (same i n) ∙ h);
    };
    homes = λ i. record { equations = (parts.homes i).equations; stacks = λ n v h. (parts.homes i).stacks n v (sym (same i n) ∙ h) };
    centred = parts.centred;
    makers = parts.makers;
    said = parts.said;
  }
