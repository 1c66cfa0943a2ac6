use Rattle.std.proofs.Common.{arith, ◌≡◌, ◌∙◌, ap}
use Rattle.tree_store.specs.declared.links.ClassEntry.{ClassEntry}
use Rattle.tree_store.specs.Links.{ClassEntries, entry_in}
use Rattle.tree_store.proofs.LinkLemmas.{members_told, visited_first, visited_on, visited_last}
use Rattle.tree_store.proofs.links.Links.members.Goals as goal

pub members-init : goal.members-init
members-init c = (
  c.top-first.result.parent,
  c.top-first.ensures.top,
  λ root h. c.top-first.ensures.class root h,
  visited_first (entry_in c.args.self.now) _ c.top-first.result.parent c.top-first.result c.new-members.ensures.items c.top-first.ensures.entry,
)

pub members-preserved : goal.members-preserved
members-preserved c =
    let i = c.members.invariant in
    let next = ap (λ (p : ClassEntry). p.next) (c.entry_of-entry.ensures ∙ ap (λ (es : ClassEntries). entry_in es c.members.at) c.self.view_is) in (
      i.0,
      i.1,
      i.2,
      visited_on (entry_in c.args.self.now) c.members.members.items _ _ c.members.at _ c.members.left c.members-test.true c.in_ok-push.ensures.items next i.3,
    )

pub returns : goal.returns
returns c = λ root h.
    let i = c.members.invariant in
    let none : c.members.left ≡ 0 = omega (arith, c.members-test.false) in
    members_told root (entry_in c.args.self.now) c.members.members.items i.0 c.args.var h i.1 (i.2 root h) (visited_last (entry_in c.args.self.now) c.members.members.items _ c.members.at c.members.left none i.3)
