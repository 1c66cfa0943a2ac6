-- What is kept of a run goes on to be that of its picks.
use Rattle.std.proofs.Common.{◌≡◌, ◌≢◌, ◌∙◌, sym, ap, refl, subst, ℕ, length, List, [], ◌∷◌, ◌++◌, ◌⊎◌, inl, inr, Bool, false, Some, None}
use Rattle.std.specs.Prelude.{Option, IsSome, option_to_list, unwrap_or}
use Rattle.tree_node.specs.declared.names.ThreadName.{ThreadName}
use Rattle.tree_node.specs.declared.names.VarName.{VarName}
use Rattle.tree_node.specs.declared.pick.Pick.{Pick}
use Rattle.tree_node.specs.Assoc.{value_of}
use Rattle.tree_node.specs.State.{Stack, State, equal_thread}
use Rattle.tree_node.proofs.AssocLemmas.{Each-value_of}
use Rattle.kernel_syntax.specs.declared.stmt.Stmt.{Stmt}
use Rattle.oz_model.specs.Run.{IsRun, Run, start}
use Rattle.oz_model.specs.Step.{IsAllowed, effect_of, next, stack_left, stack_of}
use Rattle.oz_model.proofs.OnceLemmas.{runs_are_once}
use Rattle.central_machine.specs.Centre.{Centre, IsPicked}
use Rattle.central_machine.specs.Getters.{env_on, top_of}
use Rattle.run_trace.specs.declared.findings.Begun.{Begun}
use Rattle.run_trace.specs.declared.findings.Raise.{Raise}
use Rattle.run_trace.specs.declared.findings.Birth.{Birth}
use Rattle.run_trace.specs.Births.{birth_of, birth_in, births}
use Rattle.run_trace.specs.Begun.{begun_on, begun_with, begun_from, begun, last_begun}
use Rattle.run_trace.specs.Kept.{entry_of, AreLast, IsTraced, raised_at, thread_name}
use Rattle.run_trace.specs.Raised.{is_caught, raise_of, raise_in, raises, raised_on}
use Rattle.run_trace.proofs.BirthLemmas.{births_go_on, pick_names}
use Rattle.run_trace.proofs.ReportLemmas.{IsBehind, IsGood, good_more, stack_behind, start_good}
use Rattle.run_trace.proofs.SnocLemmas.{begun_goes_on, raises_go_on}
use Rattle.run_trace.proofs.TellLemmas.{pick_tells}

-- ---- what threads began

-- and where it begins nothing, nothing is
pub none_kept : (es : List (ThreadName × Begun)) (given : List Begun) (n : ThreadName) (stack : Stack) → begun_on n stack ≡ None → AreLast es given → AreLast es (option_to_list (begun_on n stack) ++ given)
none_kept es given n stack none kept m = kept m ∙ ap (λ (o : Option Begun). last_begun (option_to_list o ++ given) m) (sym none)

good_from : (p : List Stmt) (ks : List Pick) (before : List Begun) (s t : State) → IsRun p s ks t → IsGood s before → IsGood t (begun_from p s ks before)
good_from p [] before s t run good = subst (λ (x : State). IsGood x before) (sym run) good
good_from p (k ∷ ks) before s t (m, step, run) good =
    good_from p ks (begun_with s k.thread before) (next p s k) t (subst (λ (x : State). IsRun p x ks t) step.1 run) (good_more p s k before step.0 good)

pub good_run : (p : List Stmt) (ks : List Pick) (s : State) → Run p ks s → IsGood s (begun p ks)
good_run p ks s run = good_from p ks [] (start p) s run (start_good p)

-- a living thread has a stack
lives_on : (p : List Stmt) (ks : List Pick) (s : State) (n : ThreadName) → Run p ks s → IsSome (value_of equal_thread s.threads n) → stack_of s n ≢ []
lives_on p ks s n run lives = go (value_of equal_thread s.threads n) refl lives
  where
    go : (o : Option Stack) → value_of equal_thread s.threads n ≡ o → IsSome o → unwrap_or o [] ≢ []
    go None e h = absurd (cc)
    go (Some w) e h = Each-value_of equal_thread (λ (st : Stack). st ≢ []) s.threads n w (runs_are_once p ks s run).stacks e

-- it has begun a statement, or one is on top
pub has_begun : (p : List Stmt) (ks : List Pick) (s : State) (n : ThreadName) → Run p ks s → IsSome (value_of equal_thread s.threads n) → (b : Begun) × (last_begun (begun_with s n (begun p ks)) n ≡ Some b)
has_begun p ks s n run lives = go ((good_run p ks s run).began n)
  where
    go : (stack_of s n ≡ []) ⊎ ((b : Begun) × (last_begun (begun_with s n (begun p ks)) n ≡ Some b)) → (b : Begun) × (last_begun (begun_with s n (begun p ks)) n ≡ Some b)
    go (inl e) = absurd (lives_on p ks s n run lives e)
    go (inr h) = h

-- where none is on top it is the one kept
pub kept_is_last : (n : ThreadName) (stack : Stack) (es : List (ThreadName × Begun)) (before : List Begun) (o : Option Begun) → begun_on n stack ≡ None → AreLast es before → o ≡ entry_of es n →
    last_begun (option_to_list (begun_on n stack) ++ before) n ≡ o
kept_is_last n stack es before o none kept is =
    ap (λ (t : Option Begun). last_begun (option_to_list t ++ before) n) none ∙ (sym (kept n) ∙ sym is)

-- so a living thread without a statement on top has one that is kept
pub begun_there : (c : Centre) (es : List (ThreadName × Begun)) (rs : List Raise) (bs : List Birth) (n : ThreadName) (top kept : Option Begun) → IsTraced c es rs bs →
    (c.spent ≡ false → Run c.program c.picks c.state) → IsSome (value_of equal_thread c.state.threads n) → top ≡ begun_on n (stack_of c.state n) → ((b : Begun) → top ≡ Some b → ⊥) →
    kept ≡ None → kept ≡ entry_of es n → ⊥
begun_there c es rs bs n top kept traced runs lives is none empty held = go top refl
  where
    last : (b : Begun) × (last_begun (begun_with c.state n (begun c.program c.picks)) n ≡ Some b)
    last = has_begun c.program c.picks c.state n (runs traced.goes_on) lives

    go : (o : Option Begun) → top ≡ o → ⊥
    go (Some b) e = none b e
    go None e =
        let found : last_begun (begun_with c.state n (begun c.program c.picks)) n ≡ kept =
        kept_is_last n (stack_of c.state n) es (begun c.program c.picks) kept (sym is ∙ e) traced.last held in
        let no : ◌≡◌ {A = Option Begun} (Some last.0) None = sym last.1 ∙ (found ∙ empty) in
        absurd (cc)

-- ---- a step

own_behind : (p : List Stmt) (s : State) (k : Pick) → IsAllowed p s k → stack_of (next p s k) k.thread ≡ stack_left s (effect_of p s k)
own_behind p s k allowed = go (stack_behind p s k allowed k.thread)
  where
    go : IsBehind s k.thread k.thread (stack_left s (effect_of p s k)) (stack_of (next p s k) k.thread) → stack_of (next p s k) k.thread ≡ stack_left s (effect_of p s k)
    go (inl h) = h.1
    go (inr h) = absurd (h.0 refl)

module _ (c d : Centre) (k : Pick) (es fs : List (ThreadName × Begun)) (rs qs : List Raise) (bs cs : List Birth) (raised : Option VarName) (made : Option ThreadName)
    (traced : IsTraced c es rs bs) (run : Run c.program c.picks c.state) (picked : IsPicked c k d) (last : AreLast fs (begun_with c.state k.thread (begun c.program c.picks)))
    (tells : raised ≡ raised_at c.program k.fresh (env_on (stack_of c.state k.thread)) (top_of (stack_of c.state k.thread)))
    (names : made ≡ thread_name k.fresh)
    (put : qs ≡ rs ++ option_to_list (raise_of (length c.picks) (entry_of fs k.thread) raised (is_caught (stack_of d.state k.thread))))
    (puts : cs ≡ bs ++ option_to_list (birth_of (entry_of fs k.thread) made)) where
  begun_behind : begun d.program d.picks ≡ begun_with c.state k.thread (begun c.program c.picks)
  begun_behind =
      ap (λ (p : List Stmt). begun p d.picks) picked.program
      ∙ (ap (λ (ks : List Pick). begun c.program ks) picked.picks ∙ begun_goes_on c.program c.picks k c.state run)

  raises_behind : raises d.program d.picks ≡ raises c.program c.picks ++ option_to_list (raise_in c.program (length c.picks) (begun_with c.state k.thread (begun c.program c.picks)) c.state k)
  raises_behind =
      ap (λ (p : List Stmt). raises p d.picks) picked.program
      ∙ (ap (λ (ks : List Pick). raises c.program ks) picked.picks ∙ raises_go_on c.program c.picks k c.state run)

  births_behind : births d.program d.picks ≡ births c.program c.picks ++ option_to_list (birth_in c.program (begun_with c.state k.thread (begun c.program c.picks)) c.state k)
  births_behind =
      ap (λ (p : List Stmt). births p d.picks) picked.program
      ∙ (ap (λ (ks : List Pick). births c.program ks) picked.picks ∙ births_go_on c.program c.picks k c.state run)

  catches_left : is_caught (stack_of d.state k.thread) ≡ is_caught (stack_left c.state (effect_of c.program c.state k))
  catches_left =
      ap (λ (s : State). is_caught (stack_of s k.thread)) picked.step.1
      ∙ ap (λ (st : Stack). is_caught st) (own_behind c.program c.state k picked.step.0)

  raise_is : raise_of (length c.picks) (entry_of fs k.thread) raised (is_caught (stack_of d.state k.thread)) ≡ raise_in c.program (length c.picks) (begun_with c.state k.thread (begun c.program c.picks)) c.state k
  raise_is =
      ap (λ (b : Option Begun). raise_of (length c.picks) b raised (is_caught (stack_of d.state k.thread))) (last k.thread)
      ∙ (ap (λ (v : Option VarName). raise_of (length c.picks) (last_begun (begun_with c.state k.thread (begun c.program c.picks)) k.thread) v (is_caught (stack_of d.state k.thread))) (tells ∙ pick_tells c.program c.state k picked.step.0)
      ∙ ap (λ (t : Bool). raise_of (length c.picks) (last_begun (begun_with c.state k.thread (begun c.program c.picks)) k.thread) (raised_on c.program c.state.equations k.fresh (stack_of c.state k.thread)) t) catches_left)

  birth_is : birth_of (entry_of fs k.thread) made ≡ birth_in c.program (begun_with c.state k.thread (begun c.program c.picks)) c.state k
  birth_is =
      ap (λ (b : Option Begun). birth_of b made) (last k.thread)
      ∙ ap (λ (n : Option ThreadName). birth_of (last_begun (begun_with c.state k.thread (begun c.program c.picks)) k.thread) n) (names ∙ pick_names c.program c.state k picked.step.0)

  pub step_traced : IsTraced d fs qs cs
  step_traced = record {
    goes_on = picked.goes_on;
    last = λ n. last n ∙ ap (λ (l : List Begun). last_begun l n) (sym begun_behind);
    raises = put ∙ (ap (λ (v : Option Raise). rs ++ option_to_list v) raise_is
        ∙ (ap (λ (l : List Raise). l ++ option_to_list (raise_in c.program (length c.picks) (begun_with c.state k.thread (begun c.program c.picks)) c.state k)) traced.raises ∙ sym raises_behind));
    births = puts ∙ (ap (λ (v : Option Birth). bs ++ option_to_list v) birth_is
        ∙ (ap (λ (l : List Birth). l ++ option_to_list (birth_in c.program (begun_with c.state k.thread (begun c.program c.picks)) c.state k)) traced.births ∙ sym births_behind));
  }

-- the same of what the pick told before the step, where the program is that of the trace
pub step_noted : (c d : Centre) (p : List Stmt) (k : Pick) (es fs : List (ThreadName × Begun)) (rs qs : List Raise) (bs cs : List Birth) (before : ℕ) (thread : ThreadName) (raised : Option VarName) (made : Option ThreadName) →
    c.program ≡ p → IsTraced c es rs bs → (c.spent ≡ false → Run c.program c.picks c.state) → IsPicked c k d → AreLast fs (begun_with c.state k.thread (begun c.program c.picks)) →
    before ≡ length c.picks → thread ≡ k.thread → raised ≡ raised_at p k.fresh (env_on (stack_of c.state k.thread)) (top_of (stack_of c.state k.thread)) → made ≡ thread_name k.fresh →
    qs ≡ rs ++ option_to_list (raise_of before (entry_of fs thread) raised (is_caught (stack_of d.state thread))) → cs ≡ bs ++ option_to_list (birth_of (entry_of fs thread) made) →
    (d.program ≡ p) × (false ≡ false → IsTraced d fs qs cs)
step_noted c d p k es fs rs qs bs cs before thread raised made same traced runs picked last at who tells names put puts = (
  picked.program ∙ same,
  λ e. step_traced c d k es fs rs qs bs cs raised made traced (runs traced.goes_on) picked last
      (tells ∙ ap (λ (q : List Stmt). raised_at q k.fresh (env_on (stack_of c.state k.thread)) (top_of (stack_of c.state k.thread))) (sym same)) names
      (put ∙ (ap (λ (i : ℕ). rs ++ option_to_list (raise_of i (entry_of fs thread) raised (is_caught (stack_of d.state thread)))) at
      ∙ ap (λ (n : ThreadName). rs ++ option_to_list (raise_of (length c.picks) (entry_of fs n) raised (is_caught (stack_of d.state n)))) who))
      (puts ∙ ap (λ (n : ThreadName). bs ++ option_to_list (birth_of (entry_of fs n) made)) who),
)

-- ---- the run at its start

-- nothing was begun, raised or made
pub new_traced : (p : List Stmt) (c : Centre) (es : List (ThreadName × Begun)) (rs : List Raise) (bs : List Birth) → c.program ≡ p → c.picks ≡ [] → c.spent ≡ false → es ≡ [] → rs ≡ [] → bs ≡ [] →
    (c.program ≡ p) × (false ≡ false → IsTraced c es rs bs)
new_traced p c es rs bs program picks spent no_entries no_raises no_births =
    (program, λ same. record { goes_on = spent; last = λ n. ap (λ l. entry_of l n) no_entries ∙ sym (ap (λ ks. last_begun (begun c.program ks) n) picks); raises = no_raises ∙ sym (ap (λ ks. raises c.program ks) picks); births = no_births ∙ sym (ap (λ ks. births c.program ks) picks) })
