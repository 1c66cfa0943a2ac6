use Rattle.std.proofs.Common.{◌≡◌, ◌≤◌, ◌+◌, ◌++◌, ◌∷◌, [], length, length-append, sym, ap, ◌∙◌, subst, arith}
use Rattle.std.proofs.lemmas.List.Elements.{All-push}
use Rattle.kernel_syntax.specs.Program.{IsProgram}
use Rattle.site_message.specs.declared.story.Sight.{Sight}
use Rattle.site_model.specs.Site.{initial_site}
use Rattle.book_lock.specs.Seats.{lock_id, AreNewSeats}
use Rattle.site_worker.specs.Host.{IsHost, IsHostOf, IsNewSeat}
use Rattle.site_worker.specs.Sites.{AreNewSites}
use Rattle.site_worker.proofs.NewSites.{next_host, last_saw, times_above}
use Rattle.site_worker.proofs.sites.seat_all.Goals as goal

pub new-requires-clause-site : goal.new-requires-clause-site
new-requires-clause-site c =
    let t = lock_id c.args.lock.now in
    let p = c.args.program.now in
    let n = c.args.count in
    let old = c.loop-seat.invariant in
    let x = c.requires.seats.1.0 in
    let fresh = c.requires.seats.1.1 in
    let sites : c.loop-seat.sites.items ≡ c.pop-in-Some.new.self.items ++ c.unwrap-site.result ∷ [] = rw c.unwrap-site.ensures at c.pop-in-Some.ensures.items in
    let seats : c.loop-seat.seats.items ≡ c.pop.new.self.items ++ c.in-Some.seat ∷ [] = c.in-Some.ensures.items in
    let many_sites : length c.loop-seat.sites.items ≡ length c.pop-in-Some.new.self.items + 1 = ap length sites ∙ length-append c.pop-in-Some.new.self.items (c.unwrap-site.result ∷ []) in
    let many_seats : length c.loop-seat.seats.items ≡ length c.pop.new.self.items + 1 = ap length seats ∙ length-append c.pop.new.self.items (c.in-Some.seat ∷ []) in
    let same = old.sites.0 in
    let count = old.count in
    let new_seats = (old.of x c.requires.seats.1.2).0 in
    let next = next_host t p n x c.pop-in-Some.new.self.items c.pop.new.self.items c.unwrap-site.result c.in-Some.seat fresh (omega arith) (omega arith) (subst (AreNewSites p n 1) sites old.sites.1) (subst (AreNewSeats t 1 x) seats new_seats) in
    next.0.state ∙ (λ i. initial_site (sym next.0.program i) (sym next.0.sites i) c.in-Some.seat.site)

pub new-requires-clause-program : goal.new-requires-clause-program
new-requires-clause-program c =
    let t = lock_id c.args.lock.now in
    let p = c.args.program.now in
    let n = c.args.count in
    let old = c.loop-seat.invariant in
    let x = c.requires.seats.1.0 in
    let fresh = c.requires.seats.1.1 in
    let sites : c.loop-seat.sites.items ≡ c.pop-in-Some.new.self.items ++ c.unwrap-site.result ∷ [] = rw c.unwrap-site.ensures at c.pop-in-Some.ensures.items in
    let seats : c.loop-seat.seats.items ≡ c.pop.new.self.items ++ c.in-Some.seat ∷ [] = c.in-Some.ensures.items in
    let many_sites : length c.loop-seat.sites.items ≡ length c.pop-in-Some.new.self.items + 1 = ap length sites ∙ length-append c.pop-in-Some.new.self.items (c.unwrap-site.result ∷ []) in
    let many_seats : length c.loop-seat.seats.items ≡ length c.pop.new.self.items + 1 = ap length seats ∙ length-append c.pop.new.self.items (c.in-Some.seat ∷ []) in
    let same = old.sites.0 in
    let count = old.count in
    let new_seats = (old.of x c.requires.seats.1.2).0 in
    let next = next_host t p n x c.pop-in-Some.new.self.items c.pop.new.self.items c.unwrap-site.result c.in-Some.seat fresh (omega arith) (omega arith) (subst (AreNewSites p n 1) sites old.sites.1) (subst (AreNewSeats t 1 x) seats new_seats) in
    subst IsProgram (sym next.0.program) c.is_program.ensures

pub new-requires-clause-most : goal.new-requires-clause-most
new-requires-clause-most c =
    let t = lock_id c.args.lock.now in
    let p = c.args.program.now in
    let n = c.args.count in
    let old = c.loop-seat.invariant in
    let x = c.requires.seats.1.0 in
    let fresh = c.requires.seats.1.1 in
    let sites : c.loop-seat.sites.items ≡ c.pop-in-Some.new.self.items ++ c.unwrap-site.result ∷ [] = rw c.unwrap-site.ensures at c.pop-in-Some.ensures.items in
    let seats : c.loop-seat.seats.items ≡ c.pop.new.self.items ++ c.in-Some.seat ∷ [] = c.in-Some.ensures.items in
    let many_sites : length c.loop-seat.sites.items ≡ length c.pop-in-Some.new.self.items + 1 = ap length sites ∙ length-append c.pop-in-Some.new.self.items (c.unwrap-site.result ∷ []) in
    let many_seats : length c.loop-seat.seats.items ≡ length c.pop.new.self.items + 1 = ap length seats ∙ length-append c.pop.new.self.items (c.in-Some.seat ∷ []) in
    let same = old.sites.0 in
    let count = old.count in
    let new_seats = (old.of x c.requires.seats.1.2).0 in
    let next = next_host t p n x c.pop-in-Some.new.self.items c.pop.new.self.items c.unwrap-site.result c.in-Some.seat fresh (omega arith) (omega arith) (subst (AreNewSites p n 1) sites old.sites.1) (subst (AreNewSeats t 1 x) seats new_seats) in
    subst (λ m. m ≤ 64) (sym next.0.sites) c.requires.count

pub new-requires-clause-live : goal.new-requires-clause-live
new-requires-clause-live c =
    let t = lock_id c.args.lock.now in
    let p = c.args.program.now in
    let n = c.args.count in
    let old = c.loop-seat.invariant in
    let x = c.requires.seats.1.0 in
    let fresh = c.requires.seats.1.1 in
    let sites : c.loop-seat.sites.items ≡ c.pop-in-Some.new.self.items ++ c.unwrap-site.result ∷ [] = rw c.unwrap-site.ensures at c.pop-in-Some.ensures.items in
    let seats : c.loop-seat.seats.items ≡ c.pop.new.self.items ++ c.in-Some.seat ∷ [] = c.in-Some.ensures.items in
    let many_sites : length c.loop-seat.sites.items ≡ length c.pop-in-Some.new.self.items + 1 = ap length sites ∙ length-append c.pop-in-Some.new.self.items (c.unwrap-site.result ∷ []) in
    let many_seats : length c.loop-seat.seats.items ≡ length c.pop.new.self.items + 1 = ap length seats ∙ length-append c.pop.new.self.items (c.in-Some.seat ∷ []) in
    let same = old.sites.0 in
    let count = old.count in
    let new_seats = (old.of x c.requires.seats.1.2).0 in
    let next = next_host t p n x c.pop-in-Some.new.self.items c.pop.new.self.items c.unwrap-site.result c.in-Some.seat fresh (omega arith) (omega arith) (subst (AreNewSites p n 1) sites old.sites.1) (subst (AreNewSeats t 1 x) seats new_seats) in
    next.0.live

pub new-requires-clause-seat : goal.new-requires-clause-seat
new-requires-clause-seat c =
    let t = lock_id c.args.lock.now in
    let p = c.args.program.now in
    let n = c.args.count in
    let old = c.loop-seat.invariant in
    let x = c.requires.seats.1.0 in
    let fresh = c.requires.seats.1.1 in
    let sites : c.loop-seat.sites.items ≡ c.pop-in-Some.new.self.items ++ c.unwrap-site.result ∷ [] = rw c.unwrap-site.ensures at c.pop-in-Some.ensures.items in
    let seats : c.loop-seat.seats.items ≡ c.pop.new.self.items ++ c.in-Some.seat ∷ [] = c.in-Some.ensures.items in
    let many_sites : length c.loop-seat.sites.items ≡ length c.pop-in-Some.new.self.items + 1 = ap length sites ∙ length-append c.pop-in-Some.new.self.items (c.unwrap-site.result ∷ []) in
    let many_seats : length c.loop-seat.seats.items ≡ length c.pop.new.self.items + 1 = ap length seats ∙ length-append c.pop.new.self.items (c.in-Some.seat ∷ []) in
    let same = old.sites.0 in
    let count = old.count in
    let new_seats = (old.of x c.requires.seats.1.2).0 in
    let next = next_host t p n x c.pop-in-Some.new.self.items c.pop.new.self.items c.unwrap-site.result c.in-Some.seat fresh (omega arith) (omega arith) (subst (AreNewSites p n 1) sites old.sites.1) (subst (AreNewSeats t 1 x) seats new_seats) in
    (t, subst (λ m. IsNewSeat t m c.in-Some.seat) (sym next.0.sites) next.1)

pub loop-seat-preserved : goal.loop-seat-preserved
loop-seat-preserved c =
    let t = lock_id c.args.lock.now in
    let p = c.args.program.now in
    let n = c.args.count in
    let old = c.loop-seat.invariant in
    let x = c.requires.seats.1.0 in
    let fresh = c.requires.seats.1.1 in
    let sites : c.loop-seat.sites.items ≡ c.pop-in-Some.new.self.items ++ c.unwrap-site.result ∷ [] = rw c.unwrap-site.ensures at c.pop-in-Some.ensures.items in
    let seats : c.loop-seat.seats.items ≡ c.pop.new.self.items ++ c.in-Some.seat ∷ [] = c.in-Some.ensures.items in
    let many_sites : length c.loop-seat.sites.items ≡ length c.pop-in-Some.new.self.items + 1 = ap length sites ∙ length-append c.pop-in-Some.new.self.items (c.unwrap-site.result ∷ []) in
    let many_seats : length c.loop-seat.seats.items ≡ length c.pop.new.self.items + 1 = ap length seats ∙ length-append c.pop.new.self.items (c.in-Some.seat ∷ []) in
    let same = old.sites.0 in
    let count = old.count in
    let new_seats = (old.of x c.requires.seats.1.2).0 in
    let next = next_host t p n x c.pop-in-Some.new.self.items c.pop.new.self.items c.unwrap-site.result c.in-Some.seat fresh (omega arith) (omega arith) (subst (AreNewSites p n 1) sites old.sites.1) (subst (AreNewSeats t 1 x) seats new_seats) in
    let h = c.new.result in
    let hosts : c.push_reserved.new.self.items ≡ c.loop-seat.hosts.items ++ h ∷ [] = c.push_reserved.ensures.items in
    let many_hosts : length c.push_reserved.new.self.items ≡ length c.loop-seat.hosts.items + 1 = ap length hosts ∙ length-append c.loop-seat.hosts.items (h ∷ []) in
    let here = c.new.ensures.host t (subst (λ m. IsNewSeat t m c.in-Some.seat) (sym next.0.sites) next.1) in
    let number : h.number ≡ 1 + length c.pop.new.self.items = c.new.ensures.number ∙ next.3 in
    let capacity = c.push_reserved.ensures.capacity in
    let room = old.room in
    record {
      room = omega arith;
      count = omega arith;
      sites = (omega arith, next.2);
      of = λ y new.
          let before = old.of y new in
          let saw = last_saw t y c.pop.new.self.items c.in-Some.seat (subst (AreNewSeats t 1 y) seats before.0) in
          let mine : IsHostOf p y.fixed h = (c.new.ensures.of.0 ∙ next.0.program, c.new.ensures.of.1 ∙ ap (λ (z : Sight). z.fixed) saw.1) in
          (saw.0, rw hosts (All-push (IsHostOf p y.fixed) c.loop-seat.hosts.items h before.1 mine));
      hosts = rw hosts (All-push (IsHost t) c.loop-seat.hosts.items h old.hosts here);
      high = λ k above below.
          rw hosts (times_above k (length c.pop.new.self.items) n c.loop-seat.hosts.items h number (λ far most. old.high k (omega arith) most) above below);
    }
