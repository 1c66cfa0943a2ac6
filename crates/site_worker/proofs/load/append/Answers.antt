use Rattle.std.proofs.Common.{◌≡◌, ◌+◌, ◌∷◌, [], length, length-append, arith, ap, ◌∙◌, eqb, cond}
use Rattle.std.proofs.lemmas.List.Elements.{All-push, All-pop}
use Rattle.book_lock.specs.Seats.{lock_id}
use Rattle.site_worker.specs.Host.{IsHost, IsHostOf}
use Rattle.site_worker.specs.Hosts.{times, number_of}
use Rattle.site_worker.proofs.Times.{times_push}
use Rattle.site_worker.proofs.load.append.Goals as goal

pub loop-host-preserved : goal.loop-host-preserved
loop-host-preserved c =
    let i = c.loop-host.invariant in
    let h = c.in-Some.host in
    let popped = All-pop (IsHost (lock_id c.args.lock.now)) c.loop-host.more.items c.pop.new.self.items c.pop.result c.pop.ensures.items i.left in
    record {
      times = λ k.
          let a : times k c.push_reserved.new.self.items ≡ times k c.loop-host.all.items + cond (eqb (number_of h) k) 1 0 = ap (times k) c.push_reserved.ensures.items ∙ times_push k c.loop-host.all.items h in
          let b : times k c.loop-host.more.items ≡ times k c.pop.new.self.items + cond (eqb (number_of h) k) 1 0 = ap (times k) c.in-Some.ensures.items ∙ times_push k c.pop.new.self.items h in
          let t = i.times k in
          omega arith;
      here = rw c.push_reserved.ensures.items (All-push (IsHost (lock_id c.args.lock.now)) c.loop-host.all.items h i.here (rw c.in-Some.is at popped.1));
      left = popped.0;
      run = λ p x of more.
          let old = i.run p x of more in
          let rest = All-pop (IsHostOf p x) c.loop-host.more.items c.pop.new.self.items c.pop.result c.pop.ensures.items old.1 in
          (rw c.push_reserved.ensures.items (All-push (IsHostOf p x) c.loop-host.all.items h old.0 (rw c.in-Some.is at rest.1)), rest.0);
      capacity = c.push_reserved.ensures.capacity ∙ i.capacity;
      count =
          let a = ap length c.push_reserved.ensures.items ∙ length-append c.loop-host.all.items (h ∷ []) in
          let b = ap length c.in-Some.ensures.items ∙ length-append c.pop.new.self.items (h ∷ []) in
          let t = i.count in
          omega arith;
    }
