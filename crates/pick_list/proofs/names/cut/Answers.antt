use Rattle.std.proofs.Common.{arith, ◌≡◌, ◌≤◌, ◌+◌, ◌-◌, List}
use Rattle.std.specs.Prelude.{reverse}
use Rattle.tree_node.specs.declared.names.Name.{Name}
use Rattle.pick_list.specs.declared.names.NameRun.{NameRun}
use Rattle.pick_list.specs.Names.{names_in}
use Rattle.pick_list.proofs.NameLemmas.{names_put, runs_taken, cut_run, cut_part}
use Rattle.pick_list.proofs.names.cut.Goals as goal

pub returns-then-last-left-clause-names : goal.returns-then-last-left-clause-names
returns-then-last-left-clause-names c =
    let last = c.in-Some.last in
    let part : NameRun = record { first = last.first; count = last.count - c.runs.left } in
    let old : List Name = names_in (reverse c.args.runs.now.items) in
    let mid : List Name = names_in (reverse c.runs.runs.items) in
    let rest : List Name = names_in (reverse c.pop.new.self.items) in
    let new : List Name = names_in (reverse c.push_reserved.new.self.items) in
    let less : last.count - c.runs.left ≤ last.count = omega arith in
    let sum : last.count - (last.count - c.runs.left) + (c.args.over - c.runs.left) ≡ c.args.over = (let within = c.runs.invariant.within in let more = c.if-last-left.true in omega arith) in
    cut_part old mid rest new last.first last.count (last.count - c.runs.left) (c.args.over - c.runs.left) c.args.over c.runs.invariant.cut
    (names_put c.pop.new.self.items c.runs.runs.items last c.in-Some.ensures.items) less (names_put c.pop.new.self.items c.push_reserved.new.self.items part c.push_reserved.ensures.items) sum

pub runs-preserved : goal.runs-preserved
runs-preserved c =
    let last = c.in-Some.last in
    let old : List Name = names_in (reverse c.args.runs.now.items) in
    let mid : List Name = names_in (reverse c.runs.runs.items) in
    let new : List Name = names_in (reverse c.pop.new.self.items) in
    let within = c.runs.invariant.within in
    let fewer = c.if-last-left.false in
    let sum : last.count + (c.args.over - c.runs.left) ≡ c.args.over - (c.runs.left - last.count) = omega arith in
    record {
      cut = cut_run old mid new last.first last.count (c.args.over - c.runs.left) (c.args.over - (c.runs.left - last.count)) c.runs.invariant.cut
          (names_put c.pop.new.self.items c.runs.runs.items last c.in-Some.ensures.items) sum;
      within = omega arith;
      runs = (runs_taken c.pop.new.self.items c.runs.runs.items last c.in-Some.ensures.items c.runs.invariant.runs).1;
    }
