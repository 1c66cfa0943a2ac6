use Rattle.std.proofs.Common.{◌≡◌, ◌∷◌, ◌++◌, [], List, length, sym, ap, ◌∙◌, subst, arith}
use Rattle.std.proofs.lemmas.List.Elements.{All-nil, All-cons}
use Rattle.book_lock.specs.Seats.{lock_id}
use Rattle.site_worker.specs.declared.host.Host.{Host}
use Rattle.site_worker.specs.Host.{IsHost}
use Rattle.site_worker.specs.Hosts.{AreHosts}
use Rattle.machine_tests.proofs.visits.a_drive_comes_to_rest.Goals as goal

pub drive-requires-clause-hosts : goal.drive-requires-clause-hosts
drive-requires-clause-hosts g c κs =
    let t = lock_id c.in-Ok-begin.begun.0 in
    let h = c.seated.result in
    let hosts : c.push_reserved.new.self.items ≡ h ∷ [] = c.push_reserved.ensures.items ∙ ap (λ (l : List Host). l ++ h ∷ []) c.in-Ok.ensures.items in
    subst (AreHosts t) (sym hosts) (All-cons (IsHost t) h [] c.seated.ensures.host (All-nil (IsHost t)))

pub finish-book-requires-clause-room : goal.finish-book-requires-clause-room
finish-book-requires-clause-room g c =
    let hosts : c.push_reserved.new.self.items ≡ c.seated.result ∷ [] = c.push_reserved.ensures.items ∙ ap (λ (l : List Host). l ++ c.seated.result ∷ []) c.in-Ok.ensures.items in
    let one : length c.in-Ok-drive.hosts.items ≡ 1 = c.in-Ok-drive.ensures.count ∙ ap length hosts in
    let room = c.in-Ok-with_capacity.ensures.capacity in
    (c.in-Ok-with_capacity.ensures.items, omega arith)

pub finish-book-requires-clause-all : goal.finish-book-requires-clause-all
finish-book-requires-clause-all g c =
    let hosts : c.push_reserved.new.self.items ≡ c.seated.result ∷ [] = c.push_reserved.ensures.items ∙ ap (λ (l : List Host). l ++ c.seated.result ∷ []) c.in-Ok.ensures.items in
    let one : length c.in-Ok-drive.hosts.items ≡ 1 = c.in-Ok-drive.ensures.count ∙ ap length hosts in
    (one ∙ sym c.in-Ok-begin.ensures.count.1, omega arith)
