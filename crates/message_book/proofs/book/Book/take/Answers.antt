use Rattle.std.proofs.Common.{◌≡◌, ◌≤◌, ◌<◌, length, ap, sym, ◌∙◌, subst, arith}
use Rattle.site_message.specs.Story.{hand}
use Rattle.message_book.specs.Inbox.{InboxState}
use Rattle.message_book.specs.Book.{BookState, IsSiteOf, IsReason}
use Rattle.message_book.specs.Inboxes.{inbox_at}
use Rattle.message_book.proofs.Inboxes.{inbox_get}
use Rattle.message_book.proofs.Posts.{IsTaken, take_kept, take_tells, hand_other}
use Rattle.std.specs.Prelude.{None}
use Rattle.message_book.proofs.Turns.{few_sent}
use Rattle.message_book.proofs.book.Book.take.Goals as goal

here : goal.invariant_of-self
here c =
    let bs = c.self.inside.inboxes.items in
    let inside : c.args.site < length bs = let m = c.self.invariant.places in let s = c.requires in let e = ap (λ (v : BookState). v.limits.sites) c.self.view_is in omega arith in
    let t : IsTaken (inbox_at bs c.args.site) c.take.new.self c.take.result = subst (λ (b : InboxState). IsTaken b c.take.new.self c.take.result) (c.index_mut.ensures.value ∙ inbox_get bs c.args.site _ inside) c.take.ensures.taken in
    let below : c.args.site ≤ c.self.inside.limits.sites = let s = c.requires in let e = ap (λ (v : BookState). v.limits.sites) c.self.view_is in omega arith in
    take_kept _ _ _ bs _ c.args.site c.take.new.self c.take.result c.self.invariant below t

pub invariant_of-self : goal.invariant_of-self
invariant_of-self c = here c

pub returns-clause-taken : goal.returns-clause-taken
returns-clause-taken c =
    let bs = c.self.inside.inboxes.items in
    let inside : c.args.site < length bs = let m = c.self.invariant.places in let s = c.requires in let e = ap (λ (v : BookState). v.limits.sites) c.self.view_is in omega arith in
    let t : IsTaken (inbox_at bs c.args.site) c.take.new.self c.take.result = subst (λ (b : InboxState). IsTaken b c.take.new.self c.take.result) (c.index_mut.ensures.value ∙ inbox_get bs c.args.site _ inside) c.take.ensures.taken in
    take_tells _ _ _ bs _ c.args.self.now c.self.invariant c.args.site (subst (λ (v : BookState). IsSiteOf v.limits.sites c.args.site) (sym c.self.view_is) c.requires) c.take.new.self c.take.result t c.self.view_is

pub returns-clause-others : goal.returns-clause-others
returns-clause-others c i other = hand_other c.self.inside.inboxes.items c.args.site i c.take.new.self other ∙ ap (λ (v : BookState). hand i v.hands) c.self.view_is

pub returns-clause-few : goal.returns-clause-few
returns-clause-few c none =
    let k = c.self.invariant in
    let r : c.self.inside.reason ≡ None = ap (λ (v : BookState). v.reason) c.self.view_is ∙ none in
    let f = few_sent _ c.self.inside.journal (subst (IsReason _ c.self.inside.journal) r k.reason) in
    let m = k.ranges.most_messages in
    rw (sym (ap (λ (v : BookState). v.journal) c.self.view_is)) (omega arith)
