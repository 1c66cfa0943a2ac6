use Rattle.std.proofs.Common.{◌≡◌, ◌<◌, ◌+◌, ◌%◌, ◌++◌, ◌∷◌, [], ℕ, length, length-set, length-append, refl, sym, ap, ◌∙◌, subst, arith, rules, vec_capacity, get_or}
use Rattle.std.proofs.lemmas.List.Elements.{All-pop}
use Rattle.book_lock.specs.Seats.{lock_id}
use Rattle.site_worker.specs.declared.load.Group.{Group}
use Rattle.site_worker.specs.Host.{IsHost, IsHostOf}
use Rattle.site_worker.specs.Waking.{worker_of}
use Rattle.site_worker.specs.Hosts.{HaveRoom, times}
use Rattle.site_worker.proofs.Times.{times_push}
use Rattle.site_worker.proofs.Groups.{empty_times, empty_hosts, empty_room, empty_all, times_set, hosts_set, room_set, all_set, empty_home, home_set}
use Rattle.site_worker.proofs.load.deal.Goals as goal

pub loop-host-init : goal.loop-host-init
loop-host-init c =
    let e = c.requires.groups.1 in
    let n = length c.args.hosts.items in record {
      some = c.requires.groups.0;
      room = empty_room n c.args.groups.items e;
      times = λ k. let z = empty_times k n c.args.groups.items e in omega arith;
      dealt = empty_all (IsHost (lock_id c.args.lock.now)) n c.args.groups.items e;
      left = c.requires.hosts;
      run = λ p x of. (empty_all (IsHostOf p x) n c.args.groups.items e, of);
      homes = empty_home n c.args.groups.items e;
      count = (let z = empty_hosts n c.args.groups.items e in omega arith, refl);
    }

pub loop-host-preserved : goal.loop-host-preserved
loop-host-preserved c =
    let v = c.loop-host.invariant in
    let gs = c.loop-host.groups.items in
    let h = c.in-Some.host in
    let hs = c.pop.new.self.items in
    let i : ℕ = c.worker_of-worker.result in
    let long_groups : c.len.result ≡ length gs = search rules in
    let here : worker_of h.number (length gs) ≡ i = ap (worker_of h.number) (sym long_groups) ∙ sym c.worker_of-worker.ensures.value in
    let d = c.index_mut.result.now in
    let x = get_or gs i d in
    let w : Group = record d { hosts = c.push_reserved.new.self } in
    let some = v.some in
    let inside : i < length gs = search rules in
    let same : d ≡ x = c.index_mut.ensures.value in
    let items : w.hosts.items ≡ x.hosts.items ++ h ∷ [] = c.push_reserved.ensures.items ∙ ap (λ (z : Group). z.hosts.items ++ h ∷ []) same in
    let cap : vec_capacity w.hosts ≡ vec_capacity x.hosts = c.push_reserved.ensures.capacity ∙ ap (λ (z : Group). vec_capacity z.hosts) same in
    let popped : c.loop-host.hosts.items ≡ hs ++ h ∷ [] = c.in-Some.ensures.items in
    let long : length c.loop-host.hosts.items ≡ length hs + 1 = ap length popped ∙ length-append hs (h ∷ []) in
    let left = All-pop (IsHost (lock_id c.args.lock.now)) c.loop-host.hosts.items hs c.pop.result c.pop.ensures.items v.left in
    record {
      some = let l = length-set gs i w in omega arith;
      room = room_set (length hs) i gs d w h inside items cap (subst (λ n. HaveRoom n gs) long v.room);
      times = λ k. let t = times_set k i gs d w h inside items in let u = ap (times k) popped ∙ times_push k hs h in let old = v.times k in omega arith;
      dealt = all_set (IsHost (lock_id c.args.lock.now)) i gs d w h inside items (rw c.in-Some.is at left.1) v.dealt;
      left = left.0;
      run = λ p x of.
          let old = v.run p x of in
          let rest = All-pop (IsHostOf p x) c.loop-host.hosts.items hs c.pop.result c.pop.ensures.items old.1 in
          (all_set (IsHostOf p x) i gs d w h inside items (rw c.in-Some.is at rest.1) old.0, rest.0);
      homes = home_set i gs d w h inside items here v.homes;
      count = (let t = hosts_set i gs d w h inside items in let old = v.count.0 in omega arith, length-set gs i w ∙ v.count.1);
    }

pub returns-clause-run : goal.returns-clause-run
returns-clause-run c p x of = (c.loop-host.invariant.run p x of).0
