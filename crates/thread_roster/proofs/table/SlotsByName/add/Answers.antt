use Rattle.std.proofs.Common.{arith, ◌≡◌, ◌-◌, ◌+◌, ◌∙◌, ap, ℕ, List, ◌++◌, length, true, Some}
use Rattle.std.proofs.lemmas.Result.{on_ok_weaker}
use Rattle.tree_node.specs.declared.names.ThreadName.{ThreadName}
use Rattle.thread_roster.specs.Slots.{slot_in, with_slot}
use Rattle.thread_roster.specs.Row.{in_row}
use Rattle.thread_roster.proofs.TableLemmas.{row_more, other_more}
use Rattle.thread_roster.proofs.table.SlotsByName.add.Goals as goal

pub returns-then-is_next-clause-ok : goal.returns-then-is_next-clause-ok
returns-then-is_next-clause-ok c =
    let count : c.len.result ≡ length c.self.inside.row.items = omega (arith, c.len.ensures, c.self.inside.row.ok.0) in
    let same : in_row c.self.inside.site c.self.inside.first 0 c.self.inside.row.items ++ c.self.inside.others.entries ≡ c.args.self.now = c.self.view_is ∙ c.begin.ensures in
    let name : c.args.name ≡ record { site = c.self.inside.site; num = c.self.inside.first + length c.self.inside.row.items } = c.is_next.ensures.name c.if-is_next.true ∙ ap (λ (n : ℕ). record { site = c.self.inside.site; num = c.self.inside.first + n }) count in
    on_ok_weaker c.lengthen.result
    (λ is x. row_more c.self.inside.site c.self.inside.first c.self.inside.row.items _ c.self.inside.others.entries c.args.name c.args.slot name (c.is_next.ensures.slot c.if-is_next.true ∙ count) is x
    ∙ ap (λ (l : List (ThreadName × ℕ)). with_slot (slot_in l) c.args.name (Some c.args.slot) x) same)
    c.lengthen.ensures.ok

pub returns-else-is_next-clause-ok : goal.returns-else-is_next-clause-ok
returns-else-is_next-clause-ok c =
    let count : c.len.result ≡ length c.self.inside.row.items = omega (arith, c.len.ensures, c.self.inside.row.ok.0) in
    let same : in_row c.self.inside.site c.self.inside.first 0 c.self.inside.row.items ++ c.self.inside.others.entries ≡ c.args.self.now = c.self.view_is ∙ c.begin.ensures in
    on_ok_weaker c.put.result
    (λ is x. other_more c.self.inside.site c.self.inside.first c.self.inside.row.items c.self.inside.others.entries _ c.args.name c.args.slot (ap (λ (l : List (ThreadName × ℕ)). slot_in l c.args.name) same ∙ c.requires) is x
    ∙ ap (λ (l : List (ThreadName × ℕ)). with_slot (slot_in l) c.args.name (Some c.args.slot) x) same)
    c.put.ensures.ok
