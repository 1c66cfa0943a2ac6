use Rattle.std.proofs.Common.{rules, ◌≡◌, sym, subst, List, ℕ}
use Rattle.kernel_syntax.specs.Free.{AreRising, free}
use Rattle.kernel_syntax.proofs.FreeLemmas.{free_ascends}
use Rattle.kernel_syntax.proofs.program.Program.free.Goals as goal

pub returns-clause-value : goal.returns-clause-value
returns-clause-value c = search rules

pub returns-clause-order : goal.returns-clause-order
returns-clause-order c =
    let value : c.free_at.result.now ≡ free c.args.self.now c.args.code = returns-clause-value c in
    subst (λ (ks : List ℕ). AreRising ks) (sym value) (free_ascends c.args.self.now c.args.code)
