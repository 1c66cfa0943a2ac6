use Rattle.std.proofs.Common.{arith, ◌≡◌, ◌∙◌, ◌+◌, ◌<◌, ◌≤◌, ap, subst, ℕ, List, [], ◌∷◌, ◌++◌, drop, get_or}
use Rattle.std.specs.Prelude.{OnOk}
use Rattle.kernel_syntax.specs.Free.{with_positions}
use Rattle.kernel_syntax.proofs.MergeLemmas.{some_written, other_written, both_written, end_of_some, end_of_others}
use Rattle.kernel_syntax.proofs.merge.merge.Goals.{then-loop-i-test+else-j-more, else-loop-i-test}
use Rattle.kernel_syntax.proofs.merge.merge.Goals as goal

pub loop-i-preserved-then-x-y : goal.loop-i-preserved-then-x-y
loop-i-preserved-then-x-y c = record {
  some = omega (arith, c.loop-i-test.true);
  others = c.loop-i.invariant.others;
  rest = ap (λ (xs : List ℕ). xs ++ with_positions (drop (c.loop-i.i + 1) c.args.some.now) (drop c.loop-i.j c.args.more.now)) c.in_ok-push.ensures.items
      ∙ some_written c.loop-i.positions.items c.args.some.now c.args.more.now c.loop-i.i c.loop-i.j c.requires.more c.loop-i-test.true c.if-j-more.true c.if-x-y.true
      ∙ c.loop-i.invariant.rest;
}

pub loop-i-preserved-then-x-y-2 : goal.loop-i-preserved-then-x-y-2
loop-i-preserved-then-x-y-2 c = record {
  some = omega (arith, c.loop-i-test.true);
  others = omega (arith, c.if-j-more.true);
  rest = ap (λ (xs : List ℕ). xs ++ with_positions (drop (c.loop-i.i + 1) c.args.some.now) (drop (c.loop-i.j + 1) c.args.more.now)) c.in_ok-push-2.ensures.items
      ∙ both_written c.loop-i.positions.items c.args.some.now c.args.more.now c.loop-i.i c.loop-i.j c.requires.more c.loop-i-test.true c.if-j-more.true c.if-x-y-2.true
      ∙ c.loop-i.invariant.rest;
}

pub loop-i-preserved : goal.loop-i-preserved
loop-i-preserved c =
    let low : get_or c.args.more.now c.loop-i.j 0 < get_or c.args.some.now c.loop-i.i 0 = omega (arith, c.if-x-y.false, c.if-x-y-2.false) in
    record {
      some = c.loop-i.invariant.some;
      others = omega (arith, c.if-j-more.true);
      rest = ap (λ (xs : List ℕ). xs ++ with_positions (drop c.loop-i.i c.args.some.now) (drop (c.loop-i.j + 1) c.args.more.now)) c.in_ok-push-2.ensures.items
          ∙ other_written c.loop-i.positions.items c.args.some.now c.args.more.now c.loop-i.i c.loop-i.j c.requires.more c.loop-i-test.true c.if-j-more.true low
          ∙ c.loop-i.invariant.rest;
    }

pub returns : goal.returns
returns c =
    let end : (c.loop-i.positions.items ++ drop c.loop-i.i c.args.some.now) ++ drop c.loop-i.j c.args.more.now ≡ c.loop-i.positions.items ++ with_positions (drop c.loop-i.i c.args.some.now) (drop c.loop-i.j c.args.more.now) =
    elim c.loop-i-test.branch [
      | then-loop-i-test+else-j-more w ↦ end_of_others c.loop-i.positions.items c.args.some.now c.args.more.now c.loop-i.i c.loop-i.j (omega (arith, w.if-j-more.false))
      | else-loop-i-test w ↦ end_of_some c.loop-i.positions.items c.args.some.now c.args.more.now c.loop-i.i c.loop-i.j c.requires.more (omega (arith, w.loop-i-test.false))
    ] in
    subst (λ (xs : List ℕ). OnOk c.append_from-2.result (c.append_from-2.new.positions.items ≡ xs))
    (ap (λ (xs : List ℕ). xs ++ drop c.loop-i.j c.args.more.now) c.in_ok-append_from.ensures ∙ end ∙ c.loop-i.invariant.rest)
    c.append_from-2.ensures
