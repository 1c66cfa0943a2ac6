use Rattle.bind_protocol.proofs.CodeLemmas.{holds_of, sent_there, travels_to, travels_made, delivers_parts}
use Rattle.bind_protocol.proofs.laws.BindWorld.deliver.Goals as goal

pub returns-then-place-len-clause-holds : goal.returns-then-place-len-clause-holds
returns-then-place-len-clause-holds c = holds_of _ c.args.self.now c.self.view_is c.self.invariant

pub returns-in_err-sent-clause-holds : goal.returns-in_err-sent-clause-holds
returns-in_err-sent-clause-holds c = holds_of _ c.args.self.now c.self.view_is c.self.invariant

pub meet_first-requires-clause-site : goal.meet_first-requires-clause-site
meet_first-requires-clause-site c =
    travels_to _ c.args.self.now c.args.place c.in_ok-sent.sent c.self.view_is c.self.invariant
    (sent_there _ c.args.self.now c.as_slice.result.now c.args.place c.len.result c.index-as_slice-place.result c.in_ok-sent.sent c.self.view_is c.as_slice.ensures c.len.ensures c.if-place-len.false c.index-as_slice-place.is c.in_ok-sent.ensures)

pub meet_first-requires-clause-made : goal.meet_first-requires-clause-made
meet_first-requires-clause-made c =
    travels_made _ c.args.self.now c.args.place c.in_ok-sent.sent c.self.view_is c.self.invariant
    (sent_there _ c.args.self.now c.as_slice.result.now c.args.place c.len.result c.index-as_slice-place.result c.in_ok-sent.sent c.self.view_is c.as_slice.ensures c.len.ensures c.if-place-len.false c.index-as_slice-place.is c.in_ok-sent.ensures)

pub take-requires : goal.take-requires
take-requires c =
    c.meet_first.ensures.front c.args.place c.in_ok-sent.sent
    (sent_there _ c.args.self.now c.as_slice.result.now c.args.place c.len.result c.index-as_slice-place.result c.in_ok-sent.sent c.self.view_is c.as_slice.ensures c.len.ensures c.if-place-len.false c.index-as_slice-place.is c.in_ok-sent.ensures)

pub returns-clause-ok : goal.returns-clause-ok
returns-clause-ok c =
    delivers_parts c.args.self.now c.meet_first.new.self c.take.new.self c.args.place c.in_ok-sent.sent
    (sent_there _ c.args.self.now c.as_slice.result.now c.args.place c.len.result c.index-as_slice-place.result c.in_ok-sent.sent c.self.view_is c.as_slice.ensures c.len.ensures c.if-place-len.false c.index-as_slice-place.is c.in_ok-sent.ensures)
    c.in_ok-meet_first.ensures.ok c.in_ok-take.ensures.ok
