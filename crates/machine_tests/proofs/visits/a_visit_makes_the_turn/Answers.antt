use Rattle.std.proofs.Common.{◌≡◌, ◌∷◌, ◌++◌, [], List, sym, ap, ◌∙◌, subst}
use Rattle.std.proofs.lemmas.List.Elements.{All-nil, All-cons}
use Rattle.book_lock.specs.Seats.{lock_id}
use Rattle.site_worker.specs.declared.host.Host.{Host}
use Rattle.site_worker.specs.Host.{IsHost}
use Rattle.site_worker.specs.Hosts.{AreHosts}
use Rattle.machine_tests.proofs.visits.a_visit_makes_the_turn.Goals as goal

pub finish-book-requires-clause-hosts : goal.finish-book-requires-clause-hosts
finish-book-requires-clause-hosts g c =
    let t = lock_id c.in-Ok-begin.begun.0 in
    let h = c.visit-visited.new.host in
    let hosts : c.push_reserved.new.self.items ≡ h ∷ [] = c.push_reserved.ensures.items ∙ ap (λ (l : List Host). l ++ h ∷ []) c.in-Ok.ensures.items in
    subst (AreHosts t) (sym hosts) (All-cons (IsHost t) h [] c.visit-visited.ensures.host.0 (All-nil (IsHost t)))
