use Rattle.std.proofs.Common.{◌≡◌, []}
use Rattle.site_variables.specs.Variables.{vars_between}
use Rattle.site_variables.proofs.MakeLemmas.{made_recorded}
use Rattle.site_variables.proofs.CountedLemmas.{none_before, none_behind, none_between, none_made, row_union, counted_at, ok_with}
use Rattle.site_variables.proofs.variables.Variables.make_between.Goals as goal

pub returns-in_default-clause-recorded : goal.returns-in_default-clause-recorded
returns-in_default-clause-recorded c es old new union h =
    let none : vars_between c.args.first c.args.behind ≡ [] = rw c.in_default.is-1 (none_behind c.args.first) in
    made_recorded (vars_between c.args.first c.args.behind) c.args.self.now.binder c.args.self.now.binder es old new (none_made c.args.self.now.binder _ none) c.requires.new c.requires.distinct union h

pub returns-in_default-2-clause-recorded : goal.returns-in_default-2-clause-recorded
returns-in_default-2-clause-recorded c es old new union h =
    let none : vars_between c.args.first c.args.behind ≡ [] = rw c.in_default.is-0 (none_before c.args.behind) in
    made_recorded (vars_between c.args.first c.args.behind) c.args.self.now.binder c.args.self.now.binder es old new (none_made c.args.self.now.binder _ none) c.requires.new c.requires.distinct union h

pub returns-then-behind-first-clause-recorded : goal.returns-then-behind-first-clause-recorded
returns-then-behind-first-clause-recorded c es old new union h =
    let none : vars_between c.args.first c.args.behind ≡ [] = rw (c.in-Some-Some.is-0, c.in-Some-Some.is-1) (none_between c.in-Some-Some.first c.in-Some-Some.behind c.if-behind-first.true) in
    made_recorded (vars_between c.args.first c.args.behind) c.args.self.now.binder c.args.self.now.binder es old new (none_made c.args.self.now.binder _ none) c.requires.new c.requires.distinct union h

pub count_between-requires-clause-from : goal.count_between-requires-clause-from
count_between-requires-clause-from c = (counted_at c.args.first c.args.behind c.in-Some-Some.first c.in-Some-Some.behind c.in-Some-Some.is-0 c.in-Some-Some.is-1 c.requires.row).0

pub count_between-requires-clause-few : goal.count_between-requires-clause-few
count_between-requires-clause-few c = (counted_at c.args.first c.args.behind c.in-Some-Some.first c.in-Some-Some.behind c.in-Some-Some.is-0 c.in-Some-Some.is-1 c.requires.row).1

pub returns-clause-recorded : goal.returns-clause-recorded
returns-clause-recorded c =
    ok_with c.make_row.result c.make_row.ensures.recorded
    (λ f es old new union h. f es old new (row_union c.args.first c.args.behind c.in-Some-Some.first c.in-Some-Some.behind c.count_between.result old new c.in-Some-Some.is-0 c.in-Some-Some.is-1 c.count_between.ensures union) h)
