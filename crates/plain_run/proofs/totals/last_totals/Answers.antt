use Rattle.std.proofs.Common.{arith, ◌≤◌, ◌^◌, ap, refl, ℕ, get_or}
use Rattle.world_model.specs.Simulated.{last_ended, last_waiting}
use Rattle.plain_run.proofs.TotalsLemmas.{IsTable, zeros, table_whole, sum_next, sum_fits}
use Rattle.plain_run.proofs.totals.last_totals.Goals as goal

pub loop-turn-init : goal.loop-turn-init
loop-turn-init c = record { length = refl; told = λ i low. zeros 65 i }

pub overflow_add-ended : goal.overflow_add-ended
overflow_add-ended c =
    let table : IsTable c.loop-turn.told c.args.journal.now = table_whole c.loop-turn.told c.oldest_first-turn-items.result.now c.loop-turn.turn-index c.args.journal.now c.loop-turn-test.false c.oldest_first-turn-items.ensures c.loop-turn.invariant.told in
    let test = c.loop-site-test.true in
    let most = c.requires.most in
    let high : c.loop-site.site ≤ c.args.sites = omega arith in
    let inside : c.loop-site.site ≤ 64 = omega arith in
    let sum = sum_fits c.loop-site.site c.args.sites c.loop-site.ended (get_or c.loop-turn.told c.loop-site.site (0, 0)).0 (2 ^ 64) (last_ended c.args.journal.now) c.loop-site.auto.site high c.loop-site.invariant.ended (ap (λ (p : ℕ × ℕ). p.0) (table c.loop-site.site inside)) c.requires.ended in
    omega (arith, sum)

pub overflow_add-waiting : goal.overflow_add-waiting
overflow_add-waiting c =
    let table : IsTable c.loop-turn.told c.args.journal.now = table_whole c.loop-turn.told c.oldest_first-turn-items.result.now c.loop-turn.turn-index c.args.journal.now c.loop-turn-test.false c.oldest_first-turn-items.ensures c.loop-turn.invariant.told in
    let test = c.loop-site-test.true in
    let most = c.requires.most in
    let high : c.loop-site.site ≤ c.args.sites = omega arith in
    let inside : c.loop-site.site ≤ 64 = omega arith in
    let sum = sum_fits c.loop-site.site c.args.sites c.loop-site.waiting (get_or c.loop-turn.told c.loop-site.site (0, 0)).1 (2 ^ 64) (last_waiting c.args.journal.now) c.loop-site.auto.site high c.loop-site.invariant.waiting (ap (λ (p : ℕ × ℕ). p.1) (table c.loop-site.site inside)) c.requires.waiting in
    omega (arith, sum)

pub loop-site-preserved : goal.loop-site-preserved
loop-site-preserved c =
    let table : IsTable c.loop-turn.told c.args.journal.now = table_whole c.loop-turn.told c.oldest_first-turn-items.result.now c.loop-turn.turn-index c.args.journal.now c.loop-turn-test.false c.oldest_first-turn-items.ensures c.loop-turn.invariant.told in
    let low = c.loop-site.auto.site in
    let high = c.loop-site-test.true in
    let most = c.requires.most in
    let inside : c.loop-site.site ≤ 64 = omega arith in
    record {
      ended = λ k at. sum_next c.loop-site.site k c.loop-site.ended _ (last_ended c.args.journal.now) low at c.loop-site.invariant.ended (ap (λ (p : ℕ × ℕ). p.0) (table c.loop-site.site inside));
      waiting = λ k at. sum_next c.loop-site.site k c.loop-site.waiting _ (last_waiting c.args.journal.now) low at c.loop-site.invariant.waiting (ap (λ (p : ℕ × ℕ). p.1) (table c.loop-site.site inside));
    }
