-- Statements that were begun last.
use Rattle.std.proofs.Common.{◌≡◌, ◌≢◌, ◌∙◌, sym, ap, refl, subst, List, [], ◌∷◌, ◌++◌, ◌⊎◌, Bool, true, false, cond, Some, None}
use Rattle.std.specs.Prelude.{option_to_list}
use Rattle.std.proofs.lemmas.List.{append_assoc}
use Rattle.tree_node.specs.declared.names.ThreadName.{ThreadName}
use Rattle.tree_node.specs.declared.names.CodeId.{CodeId}
use Rattle.tree_node.specs.declared.item.Item.TheVariants.{Run, Goals, Mark, Report}
use Rattle.tree_node.specs.declared.pick.Pick.{Pick}
use Rattle.tree_node.specs.Env.{Env}
use Rattle.tree_node.specs.State.{Stack, State, equal_thread}
use Rattle.tree_node.proofs.NameLemmas.{same_thread_decides}
use Rattle.kernel_syntax.specs.declared.stmt.Stmt.{Stmt}
use Rattle.oz_model.specs.Run as run
use Rattle.oz_model.specs.Run.{IsRun}
use Rattle.oz_model.specs.Step.{IsAllowed, next, stack_of}
use Rattle.oz_model.proofs.RunLemmas.{runs_more}
use Rattle.run_trace.specs.declared.findings.Begun.{Begun}
use Rattle.run_trace.specs.Begun.{begun_on, begun_with, last_begun}
use Rattle.run_trace.specs.Raised.{BeginsNone, IsBegunLast}

-- a statement in its environment, of a thread
abbrev pub begun_as : ThreadName → CodeId → Env → Begun
begun_as n code env = record { thread = n; code = code; env = env }

-- ---- the last one

-- it is the thread's
pub last_thread : (bs : List Begun) (n : ThreadName) (b : Begun) → last_begun bs n ≡ Some b → b.thread ≡ n
last_thread [] n b h = cc
last_thread (c ∷ bs) n b h = go (equal_thread c.thread n) refl h (λ k. last_thread bs n b k)
  where
    go : (r : Bool) → equal_thread c.thread n ≡ r → cond r (Some c) (last_begun bs n) ≡ Some b → (last_begun bs n ≡ Some b → b.thread ≡ n) → b.thread ≡ n
    go true is k later = let same : c ≡ b = cc in ap (λ (d : Begun). d.thread) (sym same) ∙ (same_thread_decides c.thread n).0 is
    go false is k later = later k

-- what another thread begins does not count
pub last_other : (m n : ThreadName) (stack : Stack) (before : List Begun) → m ≢ n → last_begun (option_to_list (begun_on m stack) ++ before) n ≡ last_begun before n
last_other m n [] before other = refl
last_other m n (Run code env ∷ rest) before other = go (equal_thread m n) refl
  where
    go : (r : Bool) → equal_thread m n ≡ r → cond r (Some (begun_as m code env)) (last_begun before n) ≡ last_begun before n
    go true is = absurd (other ((same_thread_decides m n).0 is))
    go false is = refl
last_other m n (Goals b ∷ rest) before other = refl
last_other m n (Mark code at env ∷ rest) before other = refl
last_other m n (Report x ∷ rest) before other = refl

-- a statement on top is the last
pub last_here : (n : ThreadName) (code : CodeId) (env : Env) (rest : Stack) (before : List Begun) → last_begun (option_to_list (begun_on n (Run code env ∷ rest)) ++ before) n ≡ Some (begun_as n code env)
last_here n code env rest before = rw ((same_thread_decides n n).1 refl) refl

-- one that has begun something has begun something also behind its next step
pub last_more : (n : ThreadName) (stack : Stack) (before : List Begun) (b : Begun) → last_begun before n ≡ Some b → (c : Begun) × (last_begun (option_to_list (begun_on n stack) ++ before) n ≡ Some c)
last_more n [] before b h = (b, h)
last_more n (Run code env ∷ rest) before b h = (begun_as n code env, last_here n code env rest before)
last_more n (Goals g ∷ rest) before b h = (b, h)
last_more n (Mark code at env ∷ rest) before b h = (b, h)
last_more n (Report x ∷ rest) before b h = (b, h)

-- ---- where it was begun

none_more : (p : List Stmt) (n : ThreadName) (ks : List Pick) (k : Pick) (s t : State) → IsRun p s ks t → BeginsNone p n s ks → (k.thread ≡ n → begun_on n (stack_of t n) ≡ None) → BeginsNone p n s (ks ++ k ∷ [])
none_more p n [] k s t run none last = (λ (e : k.thread ≡ n). subst (λ (x : State). begun_on n (stack_of x n) ≡ None) run (last e), tt)
none_more p n (j ∷ ks) k s t (m, step, run) none last =
    (none.0, none_more p n ks k (next p s j) t (subst (λ (x : State). IsRun p x ks t) step.1 run) none.1 last)

-- the statement was begun in the run, which leads from there to the state, and none behind it
pub record Began (p : List Stmt) (done : List Pick) (s : State) (b : Begun) : Type 0 where
  pub front : List Pick
  pub k : Pick
  pub behind : List Pick
  pub split : done ≡ front ++ k ∷ behind
  pub thread : k.thread ≡ b.thread
  pub u : State
  pub run : run.Run p front u
  pub rest : Stack
  pub top : stack_of u b.thread ≡ Run b.code b.env ∷ rest
  pub none : BeginsNone p b.thread (next p u k) behind
  pub on : IsRun p (next p u k) behind s

pub begun_last : (p : List Stmt) (done : List Pick) (s : State) (b : Begun) → Began p done s b → IsBegunLast p done b
begun_last p done s b h = record {
  front = h.front;
  k = h.k;
  behind = h.behind;
  split = h.split;
  thread = h.thread;
  s = h.u;
  run = h.run;
  rest = h.rest;
  top = h.top;
  none = h.none;
}

-- these statements are those that threads began in the run
abbrev pub Describes : List Stmt → List Pick → State → List Begun → Type 0
Describes p done s before = (n : ThreadName) (b : Begun) → last_begun before n ≡ Some b → Began p done s b

module _ (p : List Stmt) (done : List Pick) (s : State) (k : Pick) (before : List Begun) (runs : run.Run p done s) (allowed : IsAllowed p s k) (told : Describes p done s before) where
  -- one that was begun before, behind one more step
  kept : (n : ThreadName) (b : Begun) → last_begun before n ≡ Some b → (k.thread ≡ n → begun_on n (stack_of s n) ≡ None) → Began p (done ++ k ∷ []) (next p s k) b
  kept n b h none =
      let was = told n b h in
      let mine : b.thread ≡ n = last_thread before n b h in
      record {
        front = was.front;
        k = was.k;
        behind = was.behind ++ k ∷ [];
        split = ap (λ (l : List Pick). l ++ k ∷ []) was.split ∙ append_assoc was.front (was.k ∷ was.behind) (k ∷ []);
        thread = was.thread;
        u = was.u;
        run = was.run;
        rest = was.rest;
        top = was.top;
        none = none_more p b.thread was.behind k (next p was.u was.k) s was.on was.none
            (λ (e : k.thread ≡ b.thread). subst (λ (x : ThreadName). begun_on x (stack_of s x) ≡ None) (sym mine) (none (e ∙ mine)));
        on = runs_more p (next p was.u was.k) was.behind s (next p s k) k was.on (allowed, refl);
      }

  here : (code : CodeId) (env : Env) (rest : Stack) → stack_of s k.thread ≡ Run code env ∷ rest → Began p (done ++ k ∷ []) (next p s k) (begun_as k.thread code env)
  here code env rest is = record {
    front = done;
    k = k;
    behind = [];
    split = refl;
    thread = refl;
    u = s;
    run = runs;
    rest = rest;
    top = is;
    none = tt;
    on = refl;
  }

  pub describes_more : Describes p (done ++ k ∷ []) (next p s k) (begun_with s k.thread before)
  describes_more n b h = go (stack_of s k.thread) refl h
    where
      same : (e : k.thread ≡ n) (stack : Stack) → stack_of s k.thread ≡ stack → begun_on n stack ≡ None → begun_on n (stack_of s n) ≡ None
      same e stack is none = subst (λ (x : ThreadName). begun_on n (stack_of s x) ≡ None) e (subst (λ (st : Stack). begun_on n st ≡ None) (sym is) none)

      go : (stack : Stack) → stack_of s k.thread ≡ stack → last_begun (option_to_list (begun_on k.thread stack) ++ before) n ≡ Some b → Began p (done ++ k ∷ []) (next p s k) b
      go [] is q = kept n b q (λ e. same e [] is refl)
      go (Goals g ∷ rest) is q = kept n b q (λ e. same e (Goals g ∷ rest) is refl)
      go (Mark code at env ∷ rest) is q = kept n b q (λ e. same e (Mark code at env ∷ rest) is refl)
      go (Report x ∷ rest) is q = kept n b q (λ e. same e (Report x ∷ rest) is refl)
      go (Run code env ∷ rest) is q = by (equal_thread k.thread n) refl q
        where
          by : (r : Bool) → equal_thread k.thread n ≡ r → cond r (Some (begun_as k.thread code env)) (last_begun before n) ≡ Some b → Began p (done ++ k ∷ []) (next p s k) b
          by true e f = let it : begun_as k.thread code env ≡ b = cc in subst (λ (x : Begun). Began p (done ++ k ∷ []) (next p s k) x) it (here code env rest is)
          by false e f = kept n b f (λ (g : k.thread ≡ n). let yes : equal_thread k.thread n ≡ true = (same_thread_decides k.thread n).1 g in cc)
