use Rattle.std.proofs.Common.{◌≡◌, ◌∙◌, ◌<◌, ◌+◌, ap, sym, subst, ℕ, List, [], ◌∷◌, ◌++◌, drop, length, take, get_or}
use Rattle.std.specs.Prelude.{None}
use Rattle.std.proofs.lemmas.List.{take-append-drop, take_more}
use Rattle.site_message.specs.declared.turn.Turn.{Turn}
use Rattle.site_message.specs.EarlierEnd.{HasNoEarlierEnd}
use Rattle.world_core.specs.World.{states_of}
use Rattle.run_file.specs.declared.entry.Entry.{Entry}
use Rattle.run_check.specs.Again.{AreMadeAgain, IsWrong, IsWrongAt}
use Rattle.run_check.specs.World.{limits_of}
use Rattle.run_check.proofs.WorldLemmas.{made_went, made_next, wrong_next, ended_wrong, some_reason, no_reason, not_all, stops_wrong}
use Rattle.run_check.proofs.again.replay_all.Goals as goal

abbrev no_entry : Entry
no_entry = record { site = 0; delivered = None; units = []; lines = [] }

pub returns-then-is_some-clause-went : goal.returns-then-is_some-clause-went
returns-then-is_some-clause-went c =
    made_went c.args.world.now.program (limits_of c.args.run.now) c.loop-at.world.journal (take c.loop-at.at c.args.run.now.entries) (states_of c.loop-at.world) c.loop-at.invariant.again

pub returns-then-is_some-clause-wrong : goal.returns-then-is_some-clause-wrong
returns-then-is_some-clause-wrong c at q =
    let w = c.loop-at.world in
    let l = limits_of c.args.run.now in
    let es = c.args.run.now.entries in
    let same : c.loop-at.at ≡ at = cc in
    let inside : c.loop-at.at < length es = subst (λ (xs : List Entry). c.loop-at.at < length xs) c.entries-entries.ensures c.loop-at-test.true in
    let reason = some_reason c.end_after.result (sym c.is_some.ensures ∙ c.if-is_some.true) in
    subst (λ (k : ℕ). IsWrongAt c.args.world.now.program l es k w.journal) same
    (wrong_next c.args.world.now.program l es c.loop-at.at no_entry w inside c.loop-at.invariant
    (ended_wrong w.program l w.journal (states_of w) _ reason.0 (sym c.end_after.ensures ∙ reason.1)))

pub returns-in-Err : goal.returns-in-Err
returns-in-Err c =
    let w = c.loop-at.world in
    let p = c.args.world.now.program in
    let l = limits_of c.args.run.now in
    let es = c.args.run.now.entries in
    let e = c.index-entries-at.result in
    let inv = c.loop-at.invariant in
    let journal : c.replay.new.world.journal ≡ w.journal = c.in-Err.ensures.err in
    record {
      same = (c.in-Err.ensures.same.0 ∙ inv.program, c.in-Err.ensures.same.1 ∙ inv.sites ∙ sym c.requires.sites);
      went = subst (λ (j : List Turn). HasNoEarlierEnd l j) (sym journal) (made_went p l w.journal (take c.loop-at.at es) (states_of w) inv.again);
      all = λ reason q. absurd (not_all c.in-Err.refusal c.loop-at.at c.stopped.result c.stopped.ensures reason q);
      end = λ reason q. absurd (not_all c.in-Err.refusal c.loop-at.at c.stopped.result c.stopped.ensures reason q);
      memory = λ q. (take c.loop-at.at es, drop c.loop-at.at es, states_of w, sym (take-append-drop c.loop-at.at es), subst (λ (j : List Turn). AreMadeAgain p l j (take c.loop-at.at es) (states_of w)) (sym journal) inv.again);
      wrong = λ at q. (
          let r = stops_wrong c.in-Err.refusal c.loop-at.at c.stopped.result c.stopped.ensures at q in
          let h = subst (λ (x : Entry). IsWrong w.program l w.journal (states_of w) x) (subst (λ (xs : List Entry). e ≡ get_or xs c.loop-at.at e) c.entries-entries.ensures c.index-entries-at.is) (c.in-Err.ensures.wrong l (sym inv.sites) r.0) in
          let low : c.loop-at.at < length es = subst (λ (xs : List Entry). c.loop-at.at < length xs) c.entries-entries.ensures c.loop-at-test.true in
          subst (λ (z : ℕ × List Turn). IsWrongAt p l es z.0 z.1) (λ i. (r.1 i, sym journal i)) (wrong_next p l es c.loop-at.at e w low inv h));
    }

pub loop-at-preserved : goal.loop-at-preserved
loop-at-preserved c =
    let w = c.loop-at.world in
    let l = limits_of c.args.run.now in
    let es = c.args.run.now.entries in
    let at = c.loop-at.at in
    let e = c.index-entries-at.result in
    let inv = c.loop-at.invariant in
    let goes_on = sym c.end_after.ensures ∙ no_reason c.end_after.result (sym c.is_some.ensures ∙ c.if-is_some.false) in
    let is : e ≡ get_or es at e = subst (λ (xs : List Entry). e ≡ get_or xs at e) c.entries-entries.ensures c.index-entries-at.is in
    let low : at < length es = subst (λ (xs : List Entry). at < length xs) c.entries-entries.ensures c.loop-at-test.true in
    made_next c.args.world.now.program l (take at es) (take (at + 1) es) e w c.replay.new.world inv (c.in-Ok.ensures.next l (sym inv.sites) goes_on) c.in-Ok.ensures.same.0 c.in-Ok.ensures.same.1 c.in-Ok.ensures.live
    (take_more es at e low ∙ ap (λ (x : Entry). take at es ++ x ∷ []) (sym is))

pub returns-clause-went : goal.returns-clause-went
returns-clause-went c =
    made_went c.args.world.now.program (limits_of c.args.run.now) c.loop-at.world.journal (take c.loop-at.at c.args.run.now.entries) (states_of c.loop-at.world) c.loop-at.invariant.again
