use Rattle.std.proofs.Common.{◌∙◌, ◌≤◌, ap, sym, subst, length, List, ℕ}
use Rattle.oz_runner.specs.Cause.{IsGiven, byte_limit}
use Rattle.oz_runner.proofs.WorkLemmas.{other_ready, text_read}
use Rattle.oz_runner.proofs.work.work_on_bytes.Goals as goal

pub returns-in-Check : goal.returns-in-Check
returns-in-Check g c = record {
  cause = λ seen says gave. c.check.ensures.cause seen c.args.options says c.requires.range c.in-Check.is
      (subst (λ limit. IsGiven limit seen.source c.args.bytes.items) (ap byte_limit c.in-Check.is) gave);
  due = λ seen says gave. other_ready seen c.args.options c.check.result says (λ save. cc (sym c.in-Check.is ∙ save)) c.check.ensures.plain;
  line = c.check.ensures.line;
}

pub work_on_text-requires-clause-source : goal.work_on_text-requires-clause-source
work_on_text-requires-clause-source g c = λ lifetimes live. (text_read c.args.options.action c.requires.source c.in_default.not-Check).0

pub work_on_text-requires-clause-short : goal.work_on_text-requires-clause-short
work_on_text-requires-clause-short g c = λ lifetimes live.
    subst (λ (bytes : List ℕ). length bytes ≤ 1048576) (sym c.deref.ensures.value)
    (subst (λ (limit : ℕ). length c.args.bytes.items ≤ limit) (text_read c.args.options.action c.requires.source c.in_default.not-Check).1 c.requires.short)

pub returns-in_default : goal.returns-in_default
returns-in_default g c =
    let text = (text_read c.args.options.action c.requires.source c.in_default.not-Check).1 in
    record {
      cause = λ seen says gave. c.work_on_text.ensures.cause seen says
          (subst (λ (z : ℕ × List ℕ). IsGiven z.0 seen.source z.1) (λ i. (text i, sym c.deref.ensures.value i)) gave);
      due = λ seen says gave. c.work_on_text.ensures.due seen says
          (subst (λ (z : ℕ × List ℕ). IsGiven z.0 seen.source z.1) (λ i. (text i, sym c.deref.ensures.value i)) gave);
      line = c.work_on_text.ensures.line;
    }
