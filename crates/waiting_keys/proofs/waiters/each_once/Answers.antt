use Rattle.std.proofs.Common.{arith, ◌≡◌, ◌≢◌, ◌∙◌, sym, subst, ℕ, ◌+◌, List, true, false, true≢false, nat_eq, take, ◌⊎◌, inl, inr}
use Rattle.std.specs.Prelude.{Contains, ◌↔◌}
use Rattle.std.specs.Global.{Vec}
use Rattle.std.proofs.lemmas.Bool.Decides.{eqb_tells}
use Rattle.std.proofs.lemmas.List.{take_all}
use Rattle.std.proofs.lemmas.Result.{IfOk-weaker}
use Rattle.waiting_keys.proofs.AgainLemmas.{HaveSame, once_next}
use Rattle.waiting_keys.proofs.waiters.each_once.Goals as goal

same : (x y : ℕ) → nat_eq x y ≡ true → x ≡ y
same x y h = go (eqb_tells x y)
  where
    go : ((nat_eq x y ≡ true) × (x ≡ y)) ⊎ ((nat_eq x y ≡ false) × (x ≢ y)) → x ≡ y
    go (inl p) = p.1
    go (inr p) = absurd (true≢false (sym h ∙ p.0))

pub keys-preserved : goal.keys-preserved
keys-preserved c =
    subst (λ (l : List ℕ). HaveSame l (take (c.keys.key-index + 1) c.args.keys.now)) (sym c.in_ok-insert.ensures.keys)
    (once_next nat_eq same c.keys.once.keys c.args.keys.now c.keys.key-index _ c.keys.invariant (omega (arith, c.keys-test.true)))

pub returns : goal.returns
returns c =
    let whole : HaveSame c.keys.once.keys c.args.keys.now =
    subst (λ (l : List ℕ). HaveSame c.keys.once.keys l) (take_all c.keys.key-index c.args.keys.now (omega (arith, c.keys-test.false))) c.keys.invariant in
    IfOk-weaker c.from_slice.result (λ (v : Vec ℕ). v.items ≡ c.as_slice.result.now) (λ (v : Vec ℕ). (j : ℕ) → Contains v.items j ↔ Contains c.args.keys.now j)
    (λ v e j. subst (λ (l : List ℕ). Contains l j ↔ Contains c.args.keys.now j) (sym (e ∙ c.as_slice.ensures.keys)) (whole j)) c.from_slice.ensures.items
