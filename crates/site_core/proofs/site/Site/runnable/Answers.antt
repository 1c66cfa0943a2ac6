use Rattle.std.proofs.Common.{arith, ◌≡◌, ◌∙◌, ap, ap₂, sym, ℕ, ◌-◌, length}
use Rattle.thread_machine.specs.Running.{Running}
use Rattle.thread_roster.specs.declared.mode.Mode.{Mode}
use Rattle.thread_roster.specs.Threads.{waiting_of}
use Rattle.thread_roster.proofs.ThreadLemmas.{seen_length}
use Rattle.thread_roster.proofs.WakeLemmas.{waiting_at_most}
use Rattle.site_units.specs.Core.{stack_in}
use Rattle.site_core.proofs.IdleLemmas.{waiting_stacks}
use Rattle.site_core.proofs.site.Site.runnable.Goals as goal

pub returns : goal.returns
returns g c =
    let living = c.self.inside.core.threads.living in
    ap₂ (λ (a b : ℕ). a - b) (c.len.ensures ∙ sym (seen_length (λ (e : Running × Mode). (stack_in e.0, e.1)) living)) (c.waiting.ensures ∙ waiting_stacks living)
    ∙ ap (λ s. length s.state.threads - waiting_of s.state.threads) c.self.view_is

pub overflow_sub-result : goal.overflow_sub-result
overflow_sub-result g c =
    let most = waiting_at_most c.self.inside.core.threads.living in
    omega (arith, c.len.ensures, c.waiting.ensures, most)
