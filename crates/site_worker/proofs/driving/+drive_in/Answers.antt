use Rattle.std.proofs.Common.{◌≡◌, ℕ, ◌+◌, ◌<◌, List, [], length, vec_len, sym, ap, ◌∙◌, subst, arith, rules}
use Rattle.std.proofs.lemmas.List.Elements.{All-pop}
use Rattle.atomic_table.specs.Seated.{TableId}
use Rattle.book_lock.specs.Seats.{lock_id}
use Rattle.site_worker.specs.declared.host.Host.{Host}
use Rattle.site_worker.specs.declared.load.Group.{Group}
use Rattle.site_worker.proofs.Ending.{none_popped}
use Rattle.site_worker.specs.Hosts.{AreHosts, AreHostsOf, AreSame, times, all_times, all_hosts}
use Rattle.site_worker.proofs.Times.{times_same, length_same, all_times_push, all_hosts_push}
use Rattle.site_worker.proofs.driving.+drive_in.Goals as goal

pub drive_in-all-requires-clause-room : goal.drive_in-all-requires-clause-room
drive_in-all-requires-clause-room g t c =
    let e : all_hosts c.args.load.groups.items ≡ all_hosts c.pop.new.self.items + length c.in-Some.group.hosts.items = ap all_hosts c.in-Some.ensures.items ∙ all_hosts_push c.pop.new.self.items c.in-Some.group in
    let r = c.requires.room in omega arith

pub append-requires-clause-room : goal.append-requires-clause-room
append-requires-clause-room g t c =
    let e : all_hosts c.args.load.groups.items ≡ all_hosts c.pop.new.self.items + length c.in-Some.group.hosts.items = ap all_hosts c.in-Some.ensures.items ∙ all_hosts_push c.pop.new.self.items c.in-Some.group in
    let r = c.requires.room in
    let p : c.in-Ok.child.promise.given.value.hosts.items ≡ c.in-Some.group.hosts.items = search rules in
    let l : length c.join.result.items ≡ length c.in-Some.group.hosts.items = length_same c.join.result.items c.in-Ok.child.promise.given.value.hosts.items c.join.ensures.0 ∙ ap length p in
    let d = c.drive_in-all.ensures.room in omega arith

pub append-requires-in-Err-clause-room : goal.append-requires-in-Err-clause-room
append-requires-in-Err-clause-room g t c =
    let e : all_hosts c.args.load.groups.items ≡ all_hosts c.pop.new.self.items + length c.in-Some.group.hosts.items = ap all_hosts c.in-Some.ensures.items ∙ all_hosts_push c.pop.new.self.items c.in-Some.group in
    let p : c.in-Err.refused.value.5.hosts.items ≡ c.in-Some.group.hosts.items = search rules in
    let l : length c.spawn_with.result.items ≡ length c.in-Some.group.hosts.items = length_same c.spawn_with.result.items c.in-Err.refused.value.5.hosts.items c.spawn_with.ensures.0 ∙ ap length p in
    let r = c.requires.room in omega arith

pub drive_in-requires-clause-room : goal.drive_in-requires-clause-room
drive_in-requires-clause-room g t c =
    let e : all_hosts c.args.load.groups.items ≡ all_hosts c.pop.new.self.items + length c.in-Some.group.hosts.items = ap all_hosts c.in-Some.ensures.items ∙ all_hosts_push c.pop.new.self.items c.in-Some.group in
    let p : c.in-Err.refused.value.5.hosts.items ≡ c.in-Some.group.hosts.items = search rules in
    let l : length c.spawn_with.result.items ≡ length c.in-Some.group.hosts.items = length_same c.spawn_with.result.items c.in-Err.refused.value.5.hosts.items c.spawn_with.ensures.0 ∙ ap length p in
    let r = c.requires.room in
    let a = c.append-in-Err.ensures.room in λ κs o. omega arith

pub returns-in-Ok-clause-times : goal.returns-in-Ok-clause-times
returns-in-Ok-clause-times g t c k =
    let e : all_times k c.args.load.groups.items ≡ all_times k c.pop.new.self.items + times k c.in-Some.group.hosts.items = ap (all_times k) c.in-Some.ensures.items ∙ all_times_push k c.pop.new.self.items c.in-Some.group in
    let p : c.in-Ok.child.promise.given.value.hosts.items ≡ c.in-Some.group.hosts.items = search rules in
    let l : times k c.join.result.items ≡ times k c.in-Some.group.hosts.items = times_same k c.join.result.items c.in-Ok.child.promise.given.value.hosts.items c.join.ensures.0 ∙ ap (times k) p in
    let d = c.drive_in-all.ensures.times k in
    let a = c.append.ensures.times k in omega arith

pub returns-in-Ok-clause-room : goal.returns-in-Ok-clause-room
returns-in-Ok-clause-room g t c =
    let e : all_hosts c.args.load.groups.items ≡ all_hosts c.pop.new.self.items + length c.in-Some.group.hosts.items = ap all_hosts c.in-Some.ensures.items ∙ all_hosts_push c.pop.new.self.items c.in-Some.group in
    let p : c.in-Ok.child.promise.given.value.hosts.items ≡ c.in-Some.group.hosts.items = search rules in
    let l : length c.join.result.items ≡ length c.in-Some.group.hosts.items = length_same c.join.result.items c.in-Ok.child.promise.given.value.hosts.items c.join.ensures.0 ∙ ap length p in
    let d = c.drive_in-all.ensures.room in
    let a = c.append.ensures.room in (a.0 ∙ d.0, omega arith)

pub returns-in-Err-clause-times : goal.returns-in-Err-clause-times
returns-in-Err-clause-times g t c k =
    let e : all_times k c.args.load.groups.items ≡ all_times k c.pop.new.self.items + times k c.in-Some.group.hosts.items = ap (all_times k) c.in-Some.ensures.items ∙ all_times_push k c.pop.new.self.items c.in-Some.group in
    let p : c.in-Err.refused.value.5.hosts.items ≡ c.in-Some.group.hosts.items = search rules in
    let l : times k c.spawn_with.result.items ≡ times k c.in-Some.group.hosts.items = times_same k c.spawn_with.result.items c.in-Err.refused.value.5.hosts.items c.spawn_with.ensures.0 ∙ ap (times k) p in
    let a = c.append-in-Err.ensures.times k in
    let d = c.drive_in.ensures.times k in omega arith

pub returns-in-Err-clause-room : goal.returns-in-Err-clause-room
returns-in-Err-clause-room g t c =
    let e : all_hosts c.args.load.groups.items ≡ all_hosts c.pop.new.self.items + length c.in-Some.group.hosts.items = ap all_hosts c.in-Some.ensures.items ∙ all_hosts_push c.pop.new.self.items c.in-Some.group in
    let p : c.in-Err.refused.value.5.hosts.items ≡ c.in-Some.group.hosts.items = search rules in
    let l : length c.spawn_with.result.items ≡ length c.in-Some.group.hosts.items = length_same c.spawn_with.result.items c.in-Err.refused.value.5.hosts.items c.spawn_with.ensures.0 ∙ ap length p in
    let a = c.append-in-Err.ensures.room in
    let d = c.drive_in.ensures.room in (d.0 ∙ a.0, omega arith)

pub returns-in_default-clause-room : goal.returns-in_default-clause-room
returns-in_default-clause-room g t c =
    let none : c.args.load.groups.items ≡ [] = none_popped c.args.load.groups.items _ c.pop.result (search rules) c.pop.ensures.variant c.in_default.not-Some in
    let z = ap all_hosts none in
    let l = length_same c.work.result.items c.args.load.here.hosts.items c.work.ensures.same.0 in
    (c.work.ensures.capacity, omega arith)

pub spawn_with-spawned-requires-clause-runs : goal.spawn_with-spawned-requires-clause-runs
spawn_with-spawned-requires-clause-runs g t c κs within =
    let parts = All-pop (λ (g : Group). AreHosts (lock_id c.args.lock.now) g.hosts.items) c.args.load.groups.items c.pop.new.self.items c.pop.result c.pop.ensures.items c.requires.hosts.0 in
    let many : vec_len c.args.load.groups ≡ length c.args.load.groups.items = search rules in
    let flags = c.requires.flags in
    let one = c.in-Some.ensures.len in
    let worker = c.len-worker.ensures in
    (rw c.in-Some.is at parts.1, omega arith)

pub drive_in-all-requires-clause-hosts : goal.drive_in-all-requires-clause-hosts
drive_in-all-requires-clause-hosts g t c κs within =
    let parts = All-pop (λ (g : Group). AreHosts (lock_id c.args.lock.now) g.hosts.items) c.args.load.groups.items c.pop.new.self.items c.pop.result c.pop.ensures.items c.requires.hosts.0 in
    (parts.0, c.requires.hosts.1)

pub spawn_with-requires : goal.spawn_with-requires
spawn_with-requires g t c κs within =
    let parts = All-pop (λ (g : Group). AreHosts (lock_id c.args.lock.now) g.hosts.items) c.args.load.groups.items c.pop.new.self.items c.pop.result c.pop.ensures.items c.requires.hosts.0 in
    let many : vec_len c.args.load.groups ≡ length c.args.load.groups.items = search rules in
    let flags = c.requires.flags in
    let one = c.in-Some.ensures.len in
    let worker = c.len-worker.ensures in
    let below : c.len-worker.result < length c.args.shared.now.left_to_caller.items = omega arith in
    let back = sym c.in-Err.ensures.err in
    let given : AreHosts (lock_id c.in-Err.refused.value.1.now) c.in-Err.refused.value.5.hosts.items =
    subst (λ (z : TableId × List Host). AreHosts z.0 z.1) (λ i. (lock_id (back i).1.now, (back i).5.hosts.items)) (rw c.in-Some.is at parts.1) in
    (within.0, (within.1, (given, subst (λ (z : ℕ × ℕ). z.0 < z.1) (λ i. ((back i).4, length (back i).3.now.left_to_caller.items)) below)))

pub drive_in-requires-clause-hosts : goal.drive_in-requires-clause-hosts
drive_in-requires-clause-hosts g t c κs within =
    let parts = All-pop (λ (g : Group). AreHosts (lock_id c.args.lock.now) g.hosts.items) c.args.load.groups.items c.pop.new.self.items c.pop.result c.pop.ensures.items c.requires.hosts.0 in
    (parts.0, c.append-in-Err.ensures.hosts)

pub returns-in-Ok-clause-run : goal.returns-in-Ok-clause-run
returns-in-Ok-clause-run g t c p x groups here =
    let parts = All-pop (λ (g : Group). AreHostsOf p x g.hosts.items) c.args.load.groups.items c.pop.new.self.items c.pop.result c.pop.ensures.items groups in
    let given : c.in-Ok.child.promise.given.value.hosts.items ≡ c.in-Some.group.hosts.items = search rules in
    c.append.ensures.run p x (c.drive_in-all.ensures.run p x parts.0 here) (c.join.ensures.2 p x (subst (AreHostsOf p x) (sym given) (rw c.in-Some.is at parts.1)))

pub returns-in-Err-clause-run : goal.returns-in-Err-clause-run
returns-in-Err-clause-run g t c p x groups here =
    let parts = All-pop (λ (g : Group). AreHostsOf p x g.hosts.items) c.args.load.groups.items c.pop.new.self.items c.pop.result c.pop.ensures.items groups in
    let given : c.in-Err.refused.value.5.hosts.items ≡ c.in-Some.group.hosts.items = search rules in
    c.drive_in.ensures.run p x parts.0 (c.append-in-Err.ensures.run p x here (c.spawn_with.ensures.2 p x (subst (AreHostsOf p x) (sym given) (rw c.in-Some.is at parts.1))))

pub returns-in_default-clause-run : goal.returns-in_default-clause-run
returns-in_default-clause-run g t c p x groups here = c.work.ensures.same.2 p x here

pub spawn_with-spawned-requires-clause-keeps : goal.spawn_with-spawned-requires-clause-keeps
spawn_with-spawned-requires-clause-keeps g t c κs within r same =
    subst (λ (z : TableId × List Host). AreSame z.0 z.1 r.items) (λ i. (lock_id (sym c.of-2.ensures i), (sym c.of.ensures i).hosts.items)) same
