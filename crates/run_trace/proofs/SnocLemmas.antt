-- A run and one more step: what was begun, and which exceptions rose.
use Rattle.std.proofs.Common.{arith, ◌≡◌, ◌∙◌, sym, ap, subst, ℕ, suc, ◌+◌, length, List, [], ◌∷◌, ◌++◌}
use Rattle.std.specs.Prelude.{option_to_list}
use Rattle.std.proofs.lemmas.List.{append_assoc, append-nil}
use Rattle.tree_node.specs.declared.pick.Pick.{Pick}
use Rattle.tree_node.specs.State.{State}
use Rattle.kernel_syntax.specs.declared.stmt.Stmt.{Stmt}
use Rattle.oz_model.specs.Run.{IsRun, Run, start}
use Rattle.oz_model.specs.Step.{next}
use Rattle.run_trace.specs.declared.findings.Begun.{Begun}
use Rattle.run_trace.specs.declared.findings.Raise.{Raise}
use Rattle.run_trace.specs.Begun.{begun_with, begun_from, begun}
use Rattle.run_trace.specs.Raised.{raise_in, raises_from, raises}

on_from : (p : List Stmt) (s m t : State) (k : Pick) (ks : List Pick) → m ≡ next p s k → IsRun p m ks t → IsRun p (next p s k) ks t
on_from p s m t k ks same run = subst (λ (x : State). IsRun p x ks t) same run

begun_snoc : (p : List Stmt) (ks : List Pick) (k : Pick) (s t : State) (before : List Begun) → IsRun p s ks t → begun_from p s (ks ++ k ∷ []) before ≡ begun_with t k.thread (begun_from p s ks before)
begun_snoc p [] k s t before run = ap (λ (x : State). begun_with x k.thread before) (sym run)
begun_snoc p (j ∷ ks) k s t before (m, step, run) = begun_snoc p ks k (next p s j) t (begun_with s j.thread before) (on_from p s m t j ks step.1 run)

pub begun_goes_on : (p : List Stmt) (ks : List Pick) (k : Pick) (t : State) → Run p ks t → begun p (ks ++ k ∷ []) ≡ begun_with t k.thread (begun p ks)
begun_goes_on p ks k t run = begun_snoc p ks k (start p) t [] run

raises_snoc : (p : List Stmt) (ks : List Pick) (k : Pick) (s t : State) (i : ℕ) (before : List Begun) → IsRun p s ks t →
    raises_from p i before s (ks ++ k ∷ []) ≡ raises_from p i before s ks ++ option_to_list (raise_in p (i + length ks) (begun_with t k.thread (begun_from p s ks before)) t k)
raises_snoc p [] k s t i before run =
    let zero_more : i ≡ i + 0 = omega arith in
    append-nil (option_to_list (raise_in p i (begun_with s k.thread before) s k))
    ∙ (ap (λ (x : State). option_to_list (raise_in p i (begun_with x k.thread before) x k)) (sym run)
    ∙ ap (λ (n : ℕ). option_to_list (raise_in p n (begun_with t k.thread before) t k)) zero_more)
raises_snoc p (j ∷ ks) k s t i before (m, step, run) =
    let here : List Raise = option_to_list (raise_in p i (begun_with s j.thread before) s j) in
    let count : suc i + length ks ≡ i + suc (length ks) = omega arith in
    let last : ℕ → List Raise = λ n. option_to_list (raise_in p n (begun_with t k.thread (begun_from p (next p s j) ks (begun_with s j.thread before))) t k) in
    ap (λ (rs : List Raise). here ++ rs) (raises_snoc p ks k (next p s j) t (suc i) (begun_with s j.thread before) (on_from p s m t j ks step.1 run))
    ∙ (ap (λ (n : ℕ). here ++ (raises_from p (suc i) (begun_with s j.thread before) (next p s j) ks ++ last n)) count
    ∙ sym (append_assoc here (raises_from p (suc i) (begun_with s j.thread before) (next p s j) ks) (last (i + suc (length ks)))))

pub raises_go_on : (p : List Stmt) (ks : List Pick) (k : Pick) (t : State) → Run p ks t →
    raises p (ks ++ k ∷ []) ≡ raises p ks ++ option_to_list (raise_in p (length ks) (begun_with t k.thread (begun p ks)) t k)
raises_go_on p ks k t run =
    let none : 0 + length ks ≡ length ks = omega arith in
    raises_snoc p ks k (start p) t 0 [] run
    ∙ ap (λ (n : ℕ). raises p ks ++ option_to_list (raise_in p n (begun_with t k.thread (begun p ks)) t k)) none
