use Rattle.std.proofs.Common.{arith, ◌≡◌, ◌-◌, ◌∙◌, ap, sym, refl, ℕ, List, length, true, false, None}
use Rattle.tree_node.specs.declared.names.ThreadName.{ThreadName}
use Rattle.thread_roster.specs.Slots.{slot_in, with_slot}
use Rattle.thread_roster.specs.Row.{is_in_row}
use Rattle.thread_roster.proofs.TableLemmas.{within, row_left, other_left}
use Rattle.thread_roster.proofs.table.SlotsByName.forget.Goals as goal

pub returns-then-not-is_within : goal.returns-then-not-is_within
returns-then-not-is_within c =
    let count : c.len.result ≡ length c.self.inside.row.items = omega (arith, c.len.ensures, c.self.inside.row.ok.0) in
    let test : is_in_row c.self.inside.site c.self.inside.first (length c.self.inside.row.items) c.args.name ≡ false = ap (λ (n : ℕ). is_in_row c.self.inside.site c.self.inside.first n c.args.name) (sym count) ∙ sym c.is_within.ensures ∙ c.if-not-is_within.true in
    λ x. other_left c.self.inside.site c.self.inside.first c.self.inside.row.items c.self.inside.others.entries _ c.args.name test c.take.ensures x ∙ ap (λ (l : List (ThreadName × ℕ)). with_slot (slot_in l) c.args.name None x) c.self.view_is

pub index_mut-requires : goal.index_mut-requires
index_mut-requires c =
    let count : c.len.result ≡ length c.self.inside.row.items = omega (arith, c.len.ensures, c.self.inside.row.ok.0) in
    let test : is_in_row c.self.inside.site c.self.inside.first (length c.self.inside.row.items) c.args.name ≡ true = ap (λ (n : ℕ). is_in_row c.self.inside.site c.self.inside.first n c.args.name) (sym count) ∙ sym c.is_within.ensures ∙ c.if-not-is_within.false in
    let w = within c.self.inside.site c.self.inside.first (length c.self.inside.row.items) c.args.name test in
    let below = w.below in
    omega (arith, below, c.self.inside.row.ok.0)

pub returns : goal.returns
returns c =
    let count : c.len.result ≡ length c.self.inside.row.items = omega (arith, c.len.ensures, c.self.inside.row.ok.0) in
    let test : is_in_row c.self.inside.site c.self.inside.first (length c.self.inside.row.items) c.args.name ≡ true = ap (λ (n : ℕ). is_in_row c.self.inside.site c.self.inside.first n c.args.name) (sym count) ∙ sym c.is_within.ensures ∙ c.if-not-is_within.false in
    λ x. row_left c.self.inside.site c.self.inside.first c.self.inside.row.items _ c.self.inside.others.entries _ c.args.name test refl c.take-2.ensures x ∙ ap (λ (l : List (ThreadName × ℕ)). with_slot (slot_in l) c.args.name None x) c.self.view_is
