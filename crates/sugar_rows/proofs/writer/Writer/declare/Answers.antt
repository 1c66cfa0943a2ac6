use Rattle.std.proofs.Common.{◌≡◌, ◌∙◌, ◌++◌, ◌∷◌, [], ap, sym, arith, rules, append_assoc}
use Rattle.std.proofs.lemmas.Grind.{common_steps}
use Rattle.sugar_rows.specs.Put.{positions_from}
use Rattle.sugar_rows.proofs.Declaring.{one_position}
use Rattle.sugar_rows.proofs.writer.Writer.declare.Goals as goal

pub loop-preserved : goal.loop-preserved
loop-preserved c =
    let pushed : c.push.new.self.items ≡ c.loop.self.places ++ c.loop.self.around ∷ [] = grind (arith, common_steps, c.in_ok-push.ensures.items) in
    let same : c.self.inside.around ≡ c.loop.self.around = search rules in
    record {
      rows = search rules;
      places =
          pushed
          ∙ ap (λ xs. xs ++ c.loop.self.around ∷ []) c.loop.invariant.places
          ∙ append_assoc c.args.self.now.places (positions_from c.args.self.now.around c.loop.counter) (c.loop.self.around ∷ [])
          ∙ ap (λ n. c.args.self.now.places ++ (positions_from c.args.self.now.around c.loop.counter ++ n ∷ [])) c.loop.invariant.around
          ∙ ap (λ xs. c.args.self.now.places ++ xs) (sym (one_position c.args.self.now.around c.loop.counter));
      around = (let i = c.loop.invariant.around in omega (arith, same, i));
    }
