use Rattle.std.proofs.Common.{◌≡◌, ◌<◌, [], ◌∷◌, ◌++◌, List, length, ap, ◌∙◌, append_assoc, rules, refl, sym, subst, arith}
use Rattle.book_lock.specs.declared.lock.SiteSeat.{SiteSeat}
use Rattle.book_lock.specs.Rule.{AreInAgreement, Each}
use Rattle.book_lock.specs.Seats.{last_seen, lock_id, IsOutsideOf}
use Rattle.message_book.specs.Book.{sight_of}
use Rattle.site_worker.specs.declared.host.Host.{Host}
use Rattle.site_worker.specs.Hosts.{AreHosts, AreHostsOf, IsComplete, IsSomeOver, fixed_part}
use Rattle.site_worker.proofs.Ending.{none_popped, back_seats, back_length, back_outside, world_run, world_within, limits_same, over_stays}
use Rattle.site_worker.proofs.run.finish.Goals as goal

pub loop-host-preserved : goal.loop-host-preserved
loop-host-preserved c =
    let gone = c.loop-host.invariant.gone in record {
      gone = (
        c.in-Some.host ∷ gone.0,
        gone.1 ∙ (ap (λ l. l ++ gone.0) c.in-Some.ensures.items ∙ append_assoc c.pop.new.self.items (c.in-Some.host ∷ []) gone.0),
        c.push_reserved.ensures.items ∙ (λ i. gone.2 i ++ c.into_seat.ensures i ∷ []),
      );
      room = search rules;
    }

pub finish-book-requires-clause-all : goal.finish-book-requires-clause-all
finish-book-requires-clause-all c =
    let gone = c.loop-host.invariant.gone in
    let none : c.loop-host.hosts.items ≡ [] = none_popped c.loop-host.hosts.items _ c.pop.result (search rules) c.pop.ensures.variant c.in_default.not-Some in
    let all : c.args.hosts.items ≡ gone.0 = gone.1 ∙ ap (λ l. l ++ gone.0) none in
    let long : length c.loop-host.seats.items ≡ length c.args.hosts.items = ap length gone.2 ∙ (back_length gone.0 ∙ ap length (sym all)) in
    let r = c.requires.all in
    (long ∙ r.0, omega arith)

pub finish-book-requires-clause-outside : goal.finish-book-requires-clause-outside
finish-book-requires-clause-outside c =
    let gone = c.loop-host.invariant.gone in
    let none : c.loop-host.hosts.items ≡ [] = none_popped c.loop-host.hosts.items _ c.pop.result (search rules) c.pop.ensures.variant c.in_default.not-Some in
    let all : c.args.hosts.items ≡ gone.0 = gone.1 ∙ ap (λ l. l ++ gone.0) none in
    let table = lock_id c.args.lock in
    subst (Each (IsOutsideOf table)) (sym gone.2) (back_outside table gone.0 (subst (AreHosts table) all c.requires.hosts))

pub returns-clause-run : goal.returns-clause-run
returns-clause-run c p l of complete =
    let gone = c.loop-host.invariant.gone in
    let none : c.loop-host.hosts.items ≡ [] = none_popped c.loop-host.hosts.items _ c.pop.result (search rules) c.pop.ensures.variant c.in_default.not-Some in
    let all : c.args.hosts.items ≡ gone.0 = gone.1 ∙ ap (λ l. l ++ gone.0) none in
    let table = lock_id c.args.lock in
    let x = sight_of c.finish-book.result in
    let each : Each (λ (s : SiteSeat). AreInAgreement s.site x (last_seen s)) (back_seats gone.0) = subst (Each (λ (s : SiteSeat). AreInAgreement s.site x (last_seen s))) gone.2 c.finish-book.ensures in
    world_run table p l x gone.0 (subst (λ (hs : List Host). 0 < length hs) all c.requires.all.1) (subst (AreHosts table) all c.requires.hosts) (subst (AreHostsOf p (fixed_part l)) all of) (subst (IsComplete l.sites) all complete) each c.journal.ensures.wired c.journal.ensures.sites

pub returns-clause-within : goal.returns-clause-within
returns-clause-within c p l of complete =
    let gone = c.loop-host.invariant.gone in
    let none : c.loop-host.hosts.items ≡ [] = none_popped c.loop-host.hosts.items _ c.pop.result (search rules) c.pop.ensures.variant c.in_default.not-Some in
    let all : c.args.hosts.items ≡ gone.0 = gone.1 ∙ ap (λ l. l ++ gone.0) none in
    let table = lock_id c.args.lock in
    let x = sight_of c.finish-book.result in
    let each : Each (λ (s : SiteSeat). AreInAgreement s.site x (last_seen s)) (back_seats gone.0) = subst (Each (λ (s : SiteSeat). AreInAgreement s.site x (last_seen s))) gone.2 c.finish-book.ensures in
    world_within table p l x gone.0 (subst (λ (hs : List Host). 0 < length hs) all c.requires.all.1) (subst (AreHosts table) all c.requires.hosts) (subst (AreHostsOf p (fixed_part l)) all of) (subst (IsComplete l.sites) all complete) each c.journal.ensures.sites

pub returns-clause-limits : goal.returns-clause-limits
returns-clause-limits c p l of =
    let gone = c.loop-host.invariant.gone in
    let none : c.loop-host.hosts.items ≡ [] = none_popped c.loop-host.hosts.items _ c.pop.result (search rules) c.pop.ensures.variant c.in_default.not-Some in
    let all : c.args.hosts.items ≡ gone.0 = gone.1 ∙ ap (λ l. l ++ gone.0) none in
    let x = sight_of c.finish-book.result in
    let each : Each (λ (s : SiteSeat). AreInAgreement s.site x (last_seen s)) (back_seats gone.0) = subst (Each (λ (s : SiteSeat). AreInAgreement s.site x (last_seen s))) gone.2 c.finish-book.ensures in
    limits_same p c.finish-book.result.limits l x gone.0 refl (subst (λ (hs : List Host). 0 < length hs) all c.requires.all.1) (subst (AreHostsOf p (fixed_part l)) all of) each

pub returns-clause-over : goal.returns-clause-over
returns-clause-over c some =
    let gone = c.loop-host.invariant.gone in
    let none : c.loop-host.hosts.items ≡ [] = none_popped c.loop-host.hosts.items _ c.pop.result (search rules) c.pop.ensures.variant c.in_default.not-Some in
    let all : c.args.hosts.items ≡ gone.0 = gone.1 ∙ ap (λ l. l ++ gone.0) none in
    let x = sight_of c.finish-book.result in
    let each : Each (λ (s : SiteSeat). AreInAgreement s.site x (last_seen s)) (back_seats gone.0) = subst (Each (λ (s : SiteSeat). AreInAgreement s.site x (last_seen s))) gone.2 c.finish-book.ensures in
    over_stays x gone.0 each (subst IsSomeOver all some)
