use Rattle.std.proofs.Common.{ℕ, List, refl, sym, subst}
use Rattle.std.specs.Prelude.{slice_index_or}
use Rattle.message_book.specs.Book.{IsSiteOf, sight_of}
use Rattle.book_lock.specs.Rule.{IsLawfulChange}
use Rattle.site_worker.proofs.NextVisits.{both_lawful}
use Rattle.site_worker.proofs.inside.post_and_fetch.Goals as goal

pub fetch-requires : goal.fetch-requires
fetch-requires c = subst (λ (l : List ℕ). IsSiteOf (slice_index_or l 0 0) c.args.site) (sym c.post.ensures.lawful.fixed) c.requires.site.0

pub returns-in-Posted-clause-lawful : goal.returns-in-Posted-clause-lawful
returns-in-Posted-clause-lawful c =
    let old = sight_of c.args.book.now in
    let between = sight_of c.post.new.book in
    both_lawful c.args.site old between (sight_of c.fetch.new.book) (subst (λ k. IsLawfulChange k old between) c.requires.site.1 c.post.ensures.lawful) c.fetch.ensures.lawful

pub returns-in-Posted-clause-delivered : goal.returns-in-Posted-clause-delivered
returns-in-Posted-clause-delivered c =
    let posted = c.in-Posted.ensures.delivered in
    (sight_of c.post.new.book, (posted.0, posted.1, refl), c.fetch.ensures.fetched, c.post.ensures.lawful.fixed)
