-- The messages of a unit or a row get their bundles at its end.
use Rattle.std.proofs.Common.{arith, ◌≡◌, ◌∙◌, sym, ap, subst, ℕ, List, [], ◌∷◌, ◌++◌, length, take, drop}
use Rattle.std.specs.Prelude.{◌+◌, ◌≤◌, reverse}
use Rattle.std.proofs.lemmas.List.{append-nil, take_at, drop_at, length_push}
use Rattle.tree_node.specs.Store.{Store}
use Rattle.kernel_syntax.specs.declared.stmt.Stmt.{Stmt}
use Rattle.site_message.specs.declared.message.Msg.{Msg}
use Rattle.site_message.specs.declared.message.Sent.{Sent}
use Rattle.site_model.specs.Bundle.{bundle_limit, with_own_bundle, with_own_bundles}
use Rattle.site_model.specs.Laws.{with_bundles, RowsFillLast}
use Rattle.site_model.specs.Messages.{message_row}
use Rattle.site_model.specs.Site.{Site}
use Rattle.site_model.specs.Transition.{Transition}
use Rattle.site_units.specs.declared.data.Core.{Core}
use Rattle.site_units.specs.declared.data.Output.{Output}
use Rattle.site_units.specs.Core.{site_of}
use Rattle.site_units.specs.Turns.{IsRowMade}
use Rattle.site_units.specs.Units.{IsTransitionMade}

-- ---- the last messages are taken out, the last one first

-- what was taken out stood behind the rest, and was packed in the other order
pub record PackedSoFar (s : Store) (old now packed : List Sent) (taken : ℕ) : Type 0 where
  pub rest : List Sent
  pub split : old ≡ now ++ rest
  pub reversed : reverse packed ≡ with_own_bundles bundle_limit s rest
  pub left : length now + taken ≡ length old

pub none_packed : (s : Store) (old packed : List Sent) → packed ≡ [] → PackedSoFar s old old packed 0
none_packed s old packed is = record { rest = []; split = sym (append-nil old); reversed = ap (λ (l : List Sent). reverse l) is; left = omega arith }

-- there is one
pub one_behind : (s : Store) (old less : List Sent) (m : Sent) (from : ℕ) → old ≡ less ++ m ∷ [] → from + 1 ≡ length old →
    less ++ with_own_bundle bundle_limit s m ∷ [] ≡ take from old ++ with_own_bundles bundle_limit s (drop from old)
one_behind s old less m from is one = sym (ap (λ (l : List Sent). l ++ with_own_bundles bundle_limit s (drop from old)) before ∙ ap (λ (l : List Sent). less ++ with_own_bundles bundle_limit s l) behind)
  where
    as_many : length less ≡ from
    as_many = let e : length old ≡ length less + 1 = ap length is ∙ length_push less m in omega (arith, one)

    before : take from old ≡ less
    before = ap (take from) is ∙ take_at less (m ∷ []) from as_many

    behind : drop from old ≡ m ∷ []
    behind = ap (drop from) is ∙ drop_at less (m ∷ []) from as_many

-- ---- a unit, a row

-- the messages that came by the transition got their bundles
pub packed_reached : (p : List Stmt) (d : Transition) (c0 c1 : Core) (o0 o1 o2 : Output) (from : ℕ) → IsTransitionMade p d c0 o0 c1 o1 → length o0.sent ≡ from →
    o2.sent ≡ take from o1.sent ++ with_own_bundles bundle_limit c1.variables.store.equations (drop from o1.sent) → o2.picks ≡ o1.picks → o2.lines ≡ o1.lines → IsTransitionMade p (with_bundles bundle_limit d) c0 o0 c1 o2
packed_reached p d c0 c1 o0 o1 o2 from h at sent picks lines = record {
  site = h.site;
  picks = picks ∙ h.picks;
  sent = sent ∙ (ap (λ (l : List Sent). l ++ with_own_bundles bundle_limit c1.variables.store.equations (drop from o1.sent)) before ∙ ap (λ (l : List Sent). o0.sent ++ l) same);
  lines = (λ i. (lines i).items) ∙ h.lines;
  consistent = h.consistent;
  sites = h.sites;
}
  where
    before : take from o1.sent ≡ o0.sent
    before = ap (take from) h.sent ∙ take_at o0.sent d.sent from at

    behind : drop from o1.sent ≡ d.sent
    behind = ap (drop from) h.sent ∙ drop_at o0.sent d.sent from at

    same : with_own_bundles bundle_limit c1.variables.store.equations (drop from o1.sent) ≡ with_own_bundles bundle_limit d.site.equations d.sent
    same = ap (λ (s : Site). with_own_bundles bundle_limit s.equations (drop from o1.sent)) h.site ∙ ap (with_own_bundles bundle_limit d.site.equations) behind

pub row_packed : RowsFillLast → (p : List Stmt) (m : Msg) (c0 c1 : Core) (o0 o1 o2 : Output) (from : ℕ) → IsRowMade p (message_row p 0 m) c0 o0 c1 o1 → length o0.sent ≡ from →
    o2.sent ≡ take from o1.sent ++ with_own_bundles bundle_limit c1.variables.store.equations (drop from o1.sent) → o2.picks ≡ o1.picks → o2.lines ≡ o1.lines → IsRowMade p (message_row p bundle_limit m) c0 o0 c1 o2
row_packed law p m c0 c1 o0 o1 o2 from row at sent picks lines =
    subst (λ (d : Transition). IsTransitionMade p d c0 o0 c1 o2) (sym (law p bundle_limit m (site_of c0))) (packed_reached p (message_row p 0 m (site_of c0)) c0 c1 o0 o1 o2 from row at sent picks lines)
