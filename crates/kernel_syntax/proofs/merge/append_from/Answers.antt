use Rattle.std.proofs.Common.{arith, ◌≡◌, ◌∙◌, ◌+◌, ◌<◌, ap, sym, ℕ, List, [], ◌∷◌, ◌++◌, drop}
use Rattle.std.proofs.lemmas.List.{append-nil, drop_all}
use Rattle.kernel_syntax.proofs.MergeLemmas.{next_written}
use Rattle.kernel_syntax.proofs.merge.append_from.Goals as goal

pub loop-at-preserved : goal.loop-at-preserved
loop-at-preserved c = record {
  within = omega (arith, c.loop-at-test.true);
  rest = ap (λ (xs : List ℕ). xs ++ drop (c.loop-at.at + 1) c.args.list.now) c.in_ok-push.ensures.items
      ∙ next_written c.loop-at.positions.items c.args.list.now c.loop-at.at c.loop-at-test.true
      ∙ c.loop-at.invariant.rest;
}

pub returns : goal.returns
returns c =
    sym (append-nil c.loop-at.positions.items)
    ∙ ap (λ (xs : List ℕ). c.loop-at.positions.items ++ xs) (sym (drop_all c.loop-at.at c.args.list.now (omega (arith, c.loop-at-test.false))))
    ∙ c.loop-at.invariant.rest
