use Rattle.std.proofs.Common.{◌≡◌, ◌<◌, sym, ap, ◌∙◌, subst}
use Rattle.site_message.specs.declared.limits.Limits.{Limits}
use Rattle.site_message.specs.Journal.{AreWithin}
use Rattle.message_book.specs.Book.{IsSiteOf, sight_of}
use Rattle.site_worker.specs.Hosts.{AreHostsOf, IsComplete, IsWorldRun, fixed_part}
use Rattle.site_worker.proofs.sites.run_sites.Goals as goal

pub returns-in-Ok-clause-run : goal.returns-in-Ok-clause-run
returns-in-Ok-clause-run g c =
    let p = c.args.program.now in
    let book = c.in_ok-book.book in
    let sites : book.limits.sites ≡ c.args.limits.sites = ap (λ (l : Limits). l.sites) c.in_ok-book.ensures.limits in
    let of : AreHostsOf p (fixed_part book.limits) c.drive_with-hosts.result.items = c.drive_with-hosts.ensures.run p (fixed_part book.limits) (c.seat_all-hosts.ensures.of (sight_of book) c.in-Ok.ensures.new) in
    let complete : IsComplete book.limits.sites c.drive_with-hosts.result.items =
    (λ k is. subst (λ n. 0 < n) (sym (c.drive_with-hosts.ensures.each k)) (c.seat_all-hosts.ensures.complete k (subst (λ n. IsSiteOf n k) sites is))) in
    subst (λ n. IsWorldRun p n c.finish.result.journal) sites (c.finish.ensures.run p book.limits of complete)

pub returns-in-Ok-clause-limits : goal.returns-in-Ok-clause-limits
returns-in-Ok-clause-limits g c =
    let p = c.args.program.now in
    let book = c.in_ok-book.book in
    let of : AreHostsOf p (fixed_part book.limits) c.drive_with-hosts.result.items = c.drive_with-hosts.ensures.run p (fixed_part book.limits) (c.seat_all-hosts.ensures.of (sight_of book) c.in-Ok.ensures.new) in
    c.finish.ensures.limits p book.limits of ∙ c.in_ok-book.ensures.limits

pub returns-in-Ok-clause-within : goal.returns-in-Ok-clause-within
returns-in-Ok-clause-within g c =
    let p = c.args.program.now in
    let book = c.in_ok-book.book in
    let sites : book.limits.sites ≡ c.args.limits.sites = ap (λ (l : Limits). l.sites) c.in_ok-book.ensures.limits in
    let of : AreHostsOf p (fixed_part book.limits) c.drive_with-hosts.result.items = c.drive_with-hosts.ensures.run p (fixed_part book.limits) (c.seat_all-hosts.ensures.of (sight_of book) c.in-Ok.ensures.new) in
    let complete : IsComplete book.limits.sites c.drive_with-hosts.result.items =
    (λ k is. subst (λ n. 0 < n) (sym (c.drive_with-hosts.ensures.each k)) (c.seat_all-hosts.ensures.complete k (subst (λ n. IsSiteOf n k) sites is))) in
    subst (λ l. AreWithin l c.finish.result.journal) (sym (c.finish.ensures.limits p book.limits of)) (c.finish.ensures.within p book.limits of complete)
