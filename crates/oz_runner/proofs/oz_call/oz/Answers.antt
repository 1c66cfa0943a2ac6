use Rattle.std.proofs.Common.{refl}
use Rattle.oz_runner.specs.Ends.{output_of_work}
use Rattle.oz_runner.specs.OzCall.{stream_of}
use Rattle.oz_runner.proofs.CauseLemmas.{headline}
use Rattle.oz_runner.proofs.CompleteLemmas.{complete}
use Rattle.oz_runner.proofs.BesideLemmas.{accounted, chained, sent}
use Rattle.oz_runner.proofs.oz_call.oz.Goals as goal

pub returns-clause-pieces : goal.returns-clause-pieces
returns-clause-pieces g c =
    let work = c.do_work-work in
    let told = c.report.ensures in
    let sink = stream_of g.K.Sink.taken g.K.Sink.faults c.args.sink.now c.report.new.sink in
    headline _ (output_of_work work.result) work.result.printed _ _ _ _ _ _ _ told.journal told.schedule refl (work.ensures.cause sink) (work.ensures.due sink) work.ensures.line told.written.1 told.written.2
    told.written.3

pub returns-clause-headline : goal.returns-clause-headline
returns-clause-headline g c =
    let whole = returns-clause-pieces g c in
    (whole.0, whole.1)

pub returns-clause-complete : goal.returns-clause-complete
returns-clause-complete g c =
    let whole = returns-clause-headline g c in
    complete _ _ _ c.texts_have_one_of_both.ensures.one_of_both c.bytes_save_or_fail.ensures.run c.bytes_save_or_fail.ensures.apart whole.1.answered

pub returns-clause-homes : goal.returns-clause-homes
returns-clause-homes g c =
    let whole = returns-clause-headline g c in
    (accounted _ _ _ c.runs_take_rows.ensures.rows c.threads_stay_home.ensures.home c.messages_are_few.ensures.all
    c.requests_are_served.ensures.served c.homes_are_asked.ensures.asked c.texts_have_one_of_both.ensures.programs c.exchanges_are_a_chain.ensures.chains c.sends_are_a_chain.ensures.chains whole.1).homes

pub returns-clause-few : goal.returns-clause-few
returns-clause-few g c =
    let whole = returns-clause-headline g c in
    (accounted _ _ _ c.runs_take_rows.ensures.rows c.threads_stay_home.ensures.home c.messages_are_few.ensures.all
    c.requests_are_served.ensures.served c.homes_are_asked.ensures.asked c.texts_have_one_of_both.ensures.programs c.exchanges_are_a_chain.ensures.chains c.sends_are_a_chain.ensures.chains whole.1).few

pub returns-clause-served : goal.returns-clause-served
returns-clause-served g c =
    let whole = returns-clause-headline g c in
    (accounted _ _ _ c.runs_take_rows.ensures.rows c.threads_stay_home.ensures.home c.messages_are_few.ensures.all
    c.requests_are_served.ensures.served c.homes_are_asked.ensures.asked c.texts_have_one_of_both.ensures.programs c.exchanges_are_a_chain.ensures.chains c.sends_are_a_chain.ensures.chains whole.1).served

pub returns-clause-asked : goal.returns-clause-asked
returns-clause-asked g c =
    let whole = returns-clause-headline g c in
    (accounted _ _ _ c.runs_take_rows.ensures.rows c.threads_stay_home.ensures.home c.messages_are_few.ensures.all
    c.requests_are_served.ensures.served c.homes_are_asked.ensures.asked c.texts_have_one_of_both.ensures.programs c.exchanges_are_a_chain.ensures.chains c.sends_are_a_chain.ensures.chains whole.1).asked

pub returns-clause-chains : goal.returns-clause-chains
returns-clause-chains g c = chained c.exchanges_are_a_chain.ensures.chains c.report.result.schedule

pub returns-clause-sends : goal.returns-clause-sends
returns-clause-sends g c = sent c.sends_are_a_chain.ensures.chains c.report.result.schedule
