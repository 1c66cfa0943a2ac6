use Rattle.std.proofs.Common.{◌≡◌, sym, refl, subst}
use Rattle.site_units.proofs.ThreadLemmas.{Living, WaitsStay}
use Rattle.site_units.proofs.LearnLemmas.{waits_each}
use Rattle.site_units.proofs.OpenLemmas.{made_if_own, open_made, which_woken, still_new}
use Rattle.site_units.proofs.rows.open_message.Goals as goal

pub open-requires-clause-linked : goal.open-requires-clause-linked
open-requires-clause-linked c = c.requires.consistent.1.linked

pub open-requires-clause-made : goal.open-requires-clause-made
open-requires-clause-made c = made_if_own c.requires.consistent.0 c.args.core.now _ c.requires.consistent.1 c.requires.made

pub returns-clause-row : goal.returns-clause-row
returns-clause-row c p h terms =
    let e = c.in_ok-open.ensures in
    open_made p c.args.core.now c.open.new.self c.open.new.threads c.args.output.now _ c.args.msg.now e.done h terms e.ended e.linked e.grows e.known e.owners e.site c.forest.ensures.sound refl refl

pub returns-clause-lives : goal.returns-clause-lives
returns-clause-lives c n none =
    let e = c.in_ok-open.ensures in
    let woken = which_woken c.requires.consistent.0 c.args.core.now c.open.new.self c.open.new.threads c.args.output.now (record c.args.output.now { sent = c.open.new.outbox }) c.args.msg.now e.done in
    still_new woken.0 c.args.core.now.threads.living c.open.new.threads.living n woken.1 none

pub returns-clause-waits : goal.returns-clause-waits
returns-clause-waits c =
    let e = c.in_ok-open.ensures in
    let woken = which_woken c.requires.consistent.0 c.args.core.now c.open.new.self c.open.new.threads c.args.output.now (record c.args.output.now { sent = c.open.new.outbox }) c.args.msg.now e.done in
    subst (λ (l : Living). WaitsStay c.args.core.now.threads.living l) (sym woken.1) (waits_each woken.0 c.args.core.now.threads.living)
