use Rattle.std.proofs.Common.{arith}
use Rattle.thread_roster.proofs.ParkingLemmas.{more_on, at_next}
use Rattle.thread_roster.proofs.roster.park.Goals as goal

pub returns-in_err-park_at-clause-stay : goal.returns-in_err-park_at-clause-stay
returns-in_err-park_at-clause-stay c = more_on c.args.waiters.now c.vars.waiters c.park_at.new.waiters c.args.slot c.vars.invariant.more c.park_at.ensures.stay

pub vars-preserved : goal.vars-preserved
vars-preserved c = record {
  more = more_on c.args.waiters.now c.vars.waiters c.park_at.new.waiters c.args.slot c.vars.invariant.more c.park_at.ensures.stay;
  there = at_next c.vars.waiters c.park_at.new.waiters c.args.slot c.args.vars.now c.vars.var-index _ c.park_at.ensures.stay c.vars.invariant.there (omega (arith, c.vars-test.true)) c.in_ok-park_at.ensures.there;
}
