use Rattle.std.proofs.Common.{[], ◌∷◌, ◌++◌}
use Rattle.site_model.specs.Site.{HomeRecord}
use Rattle.site_cells.proofs.HomeLemmas.{home_written, home_left}
use Rattle.site_cells.proofs.homes.keep.Goals as goal
use Rattle.std.proofs.lemmas.Result.{on_ok_weaker, on_err_weaker}

pub returns-in-Some-clause-ok : goal.returns-in-Some-clause-ok
returns-in-Some-clause-ok c =
    on_ok_weaker c.keep.result
    (λ is. home_written c.args.records.now.entries _ c.args.cell (λ (h : HomeRecord). record h { early = h.early ++ c.args.request ∷ [] }) c.in-Some.home.now c.keep.new.self c.in-Some.ensures.value (c.get_mut.follows.holds c.keep.new.self).0 is)
    c.keep.ensures.ok

pub returns-in-Some-clause-err : goal.returns-in-Some-clause-err
returns-in-Some-clause-err c =
    on_err_weaker c.keep.result
    (λ is. home_left c.args.records.now.entries _ c.args.cell c.in-Some.home.now c.keep.new.self c.in-Some.ensures.value (c.get_mut.follows.holds c.keep.new.self).0 is)
    c.keep.ensures.err
