use Rattle.std.proofs.Common.{◌≡◌, ◌∙◌, ◌<◌, ◌≤◌, ◌∷◌, [], sym, subst, refl, List, length, get_or, arith}
use Rattle.tree_node.specs.declared.names.Name.{Name}
use Rattle.tree_node.specs.declared.names.Name.TheVariants as name
use Rattle.oz_model.specs.Effect.{vars_among}
use Rattle.pick_list.specs.Names.{row_of}
use Rattle.pick_list.proofs.NameLemmas.{row_at, row_length}
use Rattle.site_model.specs.Variables.{after_makes}
use Rattle.site_variables.proofs.MakeLemmas.{all_left, next_left, name_new, none_left, made_recorded}
use Rattle.site_variables.proofs.variables.Variables.make_row.Goals as goal

pub loop-place-init : goal.loop-place-init
loop-place-init c = record { left = all_left (row_of (name.Var c.args.first) c.args.count) c.args.self.now.binder c.requires.new c.requires.distinct; store = refl }

pub loop-place-preserved : goal.loop-place-preserved
loop-place-preserved c =
    let names : List Name = row_of (name.Var c.args.first) c.args.count in
    let first : Name = name.Var c.args.first in
    let within = c.loop-place-test.true in
    let below : c.loop-place.place < length names = (let size = row_length first c.args.count in omega arith) in
    let at : c.row_name.result ≡ get_or names c.loop-place.place first = c.row_name.ensures ∙ sym (row_at first c.args.count c.loop-place.place first within) in
    record {
      left = next_left names c.loop-place.place first c.args.self.now.binder c.loop-place.self.binder c.make_name.new.self.binder below c.loop-place.invariant.left
          (subst (λ (n : Name). c.make_name.new.self.binder ≡ after_makes c.loop-place.self.binder (vars_among (n ∷ []))) at c.in_ok-make_name.ensures.records);
      store = c.make_name.ensures.store ∙ c.loop-place.invariant.store;
    }

pub make_name-requires : goal.make_name-requires
make_name-requires c =
    let names : List Name = row_of (name.Var c.args.first) c.args.count in
    let first : Name = name.Var c.args.first in
    let within = c.loop-place-test.true in
    let below : c.loop-place.place < length names = (let size = row_length first c.args.count in omega arith) in
    let at : c.row_name.result ≡ get_or names c.loop-place.place first = c.row_name.ensures ∙ sym (row_at first c.args.count c.loop-place.place first within) in
    rw at (name_new names c.loop-place.place first c.args.self.now.binder c.loop-place.self.binder below c.loop-place.invariant.left)

pub returns-clause-records : goal.returns-clause-records
returns-clause-records c =
    let names : List Name = row_of (name.Var c.args.first) c.args.count in
    let past : length names ≤ c.loop-place.place = (let size = row_length (name.Var c.args.first) c.args.count in let over = c.loop-place-test.false in omega arith) in
    none_left names c.loop-place.place c.args.self.now.binder c.loop-place.self.binder past c.loop-place.invariant.left

pub returns-clause-recorded : goal.returns-clause-recorded
returns-clause-recorded c =
    let names : List Name = row_of (name.Var c.args.first) c.args.count in
    let past : length names ≤ c.loop-place.place = (let size = row_length (name.Var c.args.first) c.args.count in let over = c.loop-place-test.false in omega arith) in
    λ es old new union h. made_recorded (vars_among names) c.args.self.now.binder c.loop-place.self.binder es old new
    (none_left names c.loop-place.place c.args.self.now.binder c.loop-place.self.binder past c.loop-place.invariant.left) c.requires.new c.requires.distinct union h
