-- Exceptions that nothing caught are those of steps that leave the report.
use Rattle.std.proofs.Common.{◌≡◌, ◌∙◌, sym, refl, subst, ℕ, suc, length, List, [], ◌∷◌, ◌++◌, Bool, true, false, not, Some, None, add-one}
use Rattle.std.specs.Prelude.{Option, filter, option_to_list}
use Rattle.std.proofs.lemmas.List.{append_assoc, length-append}
use Rattle.std.proofs.lemmas.List.Elements.{filter-append}
use Rattle.tree_node.specs.declared.names.VarName.{VarName}
use Rattle.tree_node.specs.declared.pick.Pick.{Pick}
use Rattle.tree_node.specs.Each.{Each}
use Rattle.tree_node.specs.State.{Stack, State}
use Rattle.tree_node.proofs.EachLemmas.{each_append}
use Rattle.kernel_syntax.specs.declared.stmt.Stmt.{Stmt}
use Rattle.oz_model.specs.Run.{IsRun, Run, start}
use Rattle.oz_model.specs.Step.{IsAllowed, effect_of, next, stack_left, stack_of}
use Rattle.oz_model.proofs.RunLemmas.{runs_more}
use Rattle.run_trace.specs.declared.findings.Begun.{Begun}
use Rattle.run_trace.specs.declared.findings.Raise.{Raise}
use Rattle.run_trace.specs.Begun.{begun_with, last_begun}
use Rattle.run_trace.specs.Raised.{raised_on, is_caught, raise_of, raise_in, raises_from, uncaught, IsRaisedAt}
use Rattle.run_trace.specs.Laws.{UncaughtAreRaised}
use Rattle.run_trace.proofs.BegunLemmas.{Describes, begun_last, describes_more, last_thread}
use Rattle.run_trace.proofs.RaiseLemmas.{stack_raised, raised_alone}

pub uncaught_append : (rs qs : List Raise) → uncaught (rs ++ qs) ≡ uncaught rs ++ uncaught qs
uncaught_append rs qs = filter-append (λ (r : Raise). not r.caught) rs qs

module _ (p : List Stmt) (done ks : List Pick) (s : State) (k : Pick) (began : List Begun) (runs : Run p done s) (allowed : IsAllowed p s k) (told : Describes p (done ++ k ∷ []) (next p s k) began) where
  here : (b : Begun) (x : VarName) → last_begun began k.thread ≡ Some b → raised_on p s.equations k.fresh (stack_of s k.thread) ≡ Some x → is_caught (stack_left s (effect_of p s k)) ≡ false →
      IsRaisedAt p (done ++ k ∷ ks) (record { before = length done; begun = b; raised = x; caught = false })
  here b x is raises free =
      let leaves = stack_raised p s k.fresh k.bind (stack_of s k.thread) x raises in
      record {
        front = done;
        k = k;
        behind = ks;
        split = refl;
        place = refl;
        thread = sym (last_thread began k.thread b is);
        s = s;
        run = runs;
        allowed = allowed;
        left = leaves.1 ∙ raised_alone leaves.0 x (subst (λ (st : Stack). is_caught st ≡ false) leaves.1 free);
        begun = begun_last p (done ++ k ∷ []) (next p s k) b (told k.thread b is);
      }

  pub raised_here : Each (IsRaisedAt p (done ++ k ∷ ks)) (uncaught (option_to_list (raise_in p (length done) began s k)))
  raised_here = go (last_begun began k.thread) refl (raised_on p s.equations k.fresh (stack_of s k.thread)) refl
    where
      go : (o : Option Begun) → last_begun began k.thread ≡ o → (v : Option VarName) → raised_on p s.equations k.fresh (stack_of s k.thread) ≡ v →
          Each (IsRaisedAt p (done ++ k ∷ ks)) (uncaught (option_to_list (raise_of (length done) o v (is_caught (stack_left s (effect_of p s k))))))
      go None e v f = tt
      go (Some b) e None f = tt
      go (Some b) e (Some x) f = by (is_caught (stack_left s (effect_of p s k))) refl
        where
          by : (c : Bool) → is_caught (stack_left s (effect_of p s k)) ≡ c → Each (IsRaisedAt p (done ++ k ∷ ks)) (uncaught (record { before = length done; begun = b; raised = x; caught = c } ∷ []))
          by true g = tt
          by false g = (here b x e f g, tt)

raised_from : (p : List Stmt) (ks done : List Pick) (s t : State) (before : List Begun) → Run p done s → Describes p done s before → IsRun p s ks t →
    Each (IsRaisedAt p (done ++ ks)) (uncaught (raises_from p (length done) before s ks))
raised_from p [] done s t before runs told run = tt
raised_from p (k ∷ ks) done s t before runs told (m, step, run) =
    let began = begun_with s k.thread before in
    let more : Describes p (done ++ k ∷ []) (next p s k) began = describes_more p done s k before runs step.0 told in
    let there : Run p (done ++ k ∷ []) (next p s k) = runs_more p (start p) done s (next p s k) k runs (step.0, refl) in
    let later : Each (IsRaisedAt p ((done ++ k ∷ []) ++ ks)) (uncaught (raises_from p (length (done ++ k ∷ [])) began (next p s k) ks)) =
    raised_from p ks (done ++ k ∷ []) (next p s k) t began there more (subst (λ (x : State). IsRun p x ks t) step.1 run) in
    let one_more : length (done ++ k ∷ []) ≡ suc (length done) = length-append done (k ∷ []) ∙ add-one (length done) in
    let same : (done ++ k ∷ []) ++ ks ≡ done ++ k ∷ ks = append_assoc done (k ∷ []) ks in
    subst (λ (rs : List Raise). Each (IsRaisedAt p (done ++ k ∷ ks)) rs)
    (sym (uncaught_append (option_to_list (raise_in p (length done) began s k)) (raises_from p (suc (length done)) began (next p s k) ks)))
    (each_append (IsRaisedAt p (done ++ k ∷ ks)) (uncaught (option_to_list (raise_in p (length done) began s k))) (uncaught (raises_from p (suc (length done)) began (next p s k) ks))
    (raised_here p done ks s k began runs step.0 more)
    (subst (λ (i : ℕ). Each (IsRaisedAt p (done ++ k ∷ ks)) (uncaught (raises_from p i began (next p s k) ks))) one_more
    (subst (λ (l : List Pick). Each (IsRaisedAt p l) (uncaught (raises_from p (length (done ++ k ∷ [])) began (next p s k) ks))) same later)))

pub uncaught_are_raised : UncaughtAreRaised
uncaught_are_raised p ks s run = raised_from p ks [] (start p) s [] refl (λ n b h. cc) run
