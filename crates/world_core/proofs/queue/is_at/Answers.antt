use Rattle.std.proofs.Common.{rules, ◌≡◌, ◌≤◌, ◌<◌, ◌∙◌, sym, ap, subst, ℕ, get_or, length, nat_lt, false}
use Rattle.std.specs.Prelude.{◌==◌}
use Rattle.std.proofs.lemmas.Bool.Decides.{Decides-eqb}
use Rattle.world_core.proofs.QueueLemmas.{place_behind, place_holds}
use Rattle.world_core.proofs.queue.is_at.Goals as goal

pub returns-then-place-len-clause-queued : goal.returns-then-place-len-clause-queued
returns-then-place-len-clause-queued c =
    let inside : c.args.place < length c.args.numbers.now.items = search rules in
    sym (place_holds c.args.numbers.now.items c.args.number c.args.place c.index.result.now c.requires.ascending c.requires.among inside
    ∙ ap (λ (k : ℕ). k == c.args.number) (sym c.index.ensures))

pub returns-then-place-len-clause-inside : goal.returns-then-place-len-clause-inside
returns-then-place-len-clause-inside c at = search rules

pub returns-then-place-len-clause-there : goal.returns-then-place-len-clause-there
returns-then-place-len-clause-there c at =
    let same : c.index.result.now ≡ c.args.number = (Decides-eqb c.index.result.now c.args.number).0 at in
    sym (subst (λ (n : ℕ). n ≡ get_or c.args.numbers.now.items c.args.place n) same c.index.ensures)

pub returns-else-place-len-clause-queued : goal.returns-else-place-len-clause-queued
returns-else-place-len-clause-queued c =
    let behind : length c.args.numbers.now.items ≤ c.args.place = search rules in
    let no : nat_lt c.args.place c.len.result ≡ false = search rules in
    no ∙ sym (place_behind c.args.numbers.now.items c.args.number c.args.place c.requires.among behind)

pub returns-else-place-len-clause-inside : goal.returns-else-place-len-clause-inside
returns-else-place-len-clause-inside c at = let no : nat_lt c.args.place c.len.result ≡ false = search rules in cc

pub returns-else-place-len-clause-there : goal.returns-else-place-len-clause-there
returns-else-place-len-clause-there c at = let no : nat_lt c.args.place c.len.result ≡ false = search rules in cc
