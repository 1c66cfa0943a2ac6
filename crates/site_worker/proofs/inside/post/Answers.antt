use Rattle.std.proofs.Common.{◌∙◌, sym}
use Rattle.site_worker.proofs.Moving.{posts}
use Rattle.site_worker.proofs.inside.post.Goals as goal

pub returns-in-Ok-clause-lawful : goal.returns-in-Ok-clause-lawful
returns-in-Ok-clause-lawful c = posts c.args.turn c.args.book.now c.post.new.self c.in-Ok.ensures.posted c.post.ensures.other_hands c.post.ensures.limits
    (λ r is. let e = (c.post.ensures.closed r).1 is in let f = sym c.in-Ok.is ∙ e in cc)
