use Rattle.std.proofs.Common.{◌≡◌, ◌≤◌, ◌+◌, ◌++◌, ◌∷◌, [], length, length-append, sym, ap, ◌∙◌, subst, arith}
use Rattle.kernel_syntax.specs.Program.{IsProgram}
use Rattle.site_model.specs.Site.{initial_site}
use Rattle.book_lock.specs.Seats.{lock_id, AreNewSeats}
use Rattle.site_worker.specs.Host.{IsNewSeat}
use Rattle.site_worker.specs.Sites.{IsNewSite}
use Rattle.site_worker.proofs.NewSites.{next_host}
use Rattle.machine_tests.proofs.visits.seated.Goals as goal

pub new-requires : goal.new-requires
new-requires c =
    let t = lock_id c.args.lock.now in
    let p = c.args.program.now in
    let seat = c.unwrap-seat.result in
    let x = c.requires.seat.0 in
    let seats : c.args.seats.items ≡ c.pop.new.self.items ++ seat ∷ [] = rw c.unwrap-seat.ensures at c.pop.ensures.items in
    let many : length c.args.seats.items ≡ length c.pop.new.self.items + 1 = ap length seats ∙ length-append c.pop.new.self.items (seat ∷ []) in
    let one = c.requires.one in
    let new : IsNewSite p 1 1 c.args.site = record { program = c.requires.program; sites = c.requires.sites; state = c.requires.state; live = c.requires.live } in
    let next = next_host t p 1 x [] c.pop.new.self.items c.args.site seat c.requires.seat.1 (omega arith) (omega arith) (new, tt) (subst (AreNewSeats t 1 x) seats c.requires.seat.2) in
    record {
      program = subst IsProgram (sym c.requires.program) c.is_program.ensures;
      most = subst (λ m. m ≤ 64) (sym c.requires.sites) (omega arith);
      site = next.0.state ∙ (ap (λ q. initial_site q 1 seat.site) (sym next.0.program) ∙ ap (λ m. initial_site c.args.site.program m seat.site) (sym next.0.sites));
      live = c.requires.live;
      seat = (t, subst (λ m. IsNewSeat t m seat) (sym next.0.sites) next.1);
    }

pub returns : goal.returns
returns c =
    let t = lock_id c.args.lock.now in
    let p = c.args.program.now in
    let seat = c.unwrap-seat.result in
    let x = c.requires.seat.0 in
    let seats : c.args.seats.items ≡ c.pop.new.self.items ++ seat ∷ [] = rw c.unwrap-seat.ensures at c.pop.ensures.items in
    let many : length c.args.seats.items ≡ length c.pop.new.self.items + 1 = ap length seats ∙ length-append c.pop.new.self.items (seat ∷ []) in
    let one = c.requires.one in
    let new : IsNewSite p 1 1 c.args.site = record { program = c.requires.program; sites = c.requires.sites; state = c.requires.state; live = c.requires.live } in
    let next = next_host t p 1 x [] c.pop.new.self.items c.args.site seat c.requires.seat.1 (omega arith) (omega arith) (new, tt) (subst (AreNewSeats t 1 x) seats c.requires.seat.2) in
    record { host = c.new.ensures.host t (subst (λ m. IsNewSeat t m seat) (sym next.0.sites) next.1) }
