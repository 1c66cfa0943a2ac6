use Rattle.std.proofs.Common.{arith, ◌≡◌, ◌-◌, ◌∙◌, ap, sym, ℕ, List, length, true, false}
use Rattle.tree_node.specs.declared.names.ThreadName.{ThreadName}
use Rattle.thread_roster.specs.Slots.{slot_in}
use Rattle.thread_roster.specs.Row.{is_in_row}
use Rattle.thread_roster.proofs.TableLemmas.{within, row_there, row_gone, row_beside}
use Rattle.thread_roster.proofs.table.SlotsByName.get.Goals as goal

pub returns-then-not-is_within : goal.returns-then-not-is_within
returns-then-not-is_within c =
    let count : c.len.result ≡ length c.self.inside.row.items = omega (arith, c.len.ensures, c.self.inside.row.ok.0) in
    let test : is_in_row c.self.inside.site c.self.inside.first (length c.self.inside.row.items) c.args.name ≡ false = ap (λ (n : ℕ). is_in_row c.self.inside.site c.self.inside.first n c.args.name) (sym count) ∙ sym c.is_within.ensures ∙ c.if-not-is_within.true in
    c.by_map.ensures ∙ sym (row_beside c.self.inside.site c.self.inside.first c.self.inside.row.items c.self.inside.others.entries c.args.name test) ∙ ap (λ (l : List (ThreadName × ℕ)). slot_in l c.args.name) c.self.view_is

pub index-requires : goal.index-requires
index-requires c =
    let count : c.len.result ≡ length c.self.inside.row.items = omega (arith, c.len.ensures, c.self.inside.row.ok.0) in
    let test : is_in_row c.self.inside.site c.self.inside.first (length c.self.inside.row.items) c.args.name ≡ true = ap (λ (n : ℕ). is_in_row c.self.inside.site c.self.inside.first n c.args.name) (sym count) ∙ sym c.is_within.ensures ∙ c.if-not-is_within.false in
    let w = within c.self.inside.site c.self.inside.first (length c.self.inside.row.items) c.args.name test in
    let below = w.below in
    omega (arith, below, c.self.inside.row.ok.0)

pub returns-then-index : goal.returns-then-index
returns-then-index c =
    let count : c.len.result ≡ length c.self.inside.row.items = omega (arith, c.len.ensures, c.self.inside.row.ok.0) in
    let test : is_in_row c.self.inside.site c.self.inside.first (length c.self.inside.row.items) c.args.name ≡ true = ap (λ (n : ℕ). is_in_row c.self.inside.site c.self.inside.first n c.args.name) (sym count) ∙ sym c.is_within.ensures ∙ c.if-not-is_within.false in
    sym (row_there c.self.inside.site c.self.inside.first c.self.inside.row.items c.self.inside.others.entries c.args.name _ test c.index.ensures c.if-index.true) ∙ ap (λ (l : List (ThreadName × ℕ)). slot_in l c.args.name) c.self.view_is

pub returns-else-index : goal.returns-else-index
returns-else-index c =
    let count : c.len.result ≡ length c.self.inside.row.items = omega (arith, c.len.ensures, c.self.inside.row.ok.0) in
    let test : is_in_row c.self.inside.site c.self.inside.first (length c.self.inside.row.items) c.args.name ≡ true = ap (λ (n : ℕ). is_in_row c.self.inside.site c.self.inside.first n c.args.name) (sym count) ∙ sym c.is_within.ensures ∙ c.if-not-is_within.false in
    c.by_map-else-index.ensures ∙ sym (row_gone c.self.inside.site c.self.inside.first c.self.inside.row.items c.self.inside.others.entries c.args.name _ test c.index.ensures c.if-index.false) ∙ ap (λ (l : List (ThreadName × ℕ)). slot_in l c.args.name) c.self.view_is
