use Rattle.std.proofs.Common.{◌≡◌, ◌∙◌, ap, ℕ, List, [], ◌∷◌, ◌++◌, length}
use Rattle.kernel_syntax.specs.PositionLists.{lists_of}
use Rattle.kernel_syntax.proofs.PositionListLemmas.{lists_more}
use Rattle.kernel_syntax.proofs.position_lists.PositionLists.push.Goals as goal

pub returns : goal.returns
returns c =
    let xs : List ℕ = c.self.inside.positions.items in
    let ys : List ℕ = c.args.list.now in
    let start : c.len-start.result ≡ length xs = c.len-start.ensures ∙ c.self.inside.positions.ok.0 in
    let end : c.len.result ≡ length (xs ++ ys) = c.len.ensures ∙ c.extend_from_slice.new.self.ok.0 ∙ ap length c.in_ok-extend_from_slice.ensures.items in
    ap (λ (zs : List ℕ). lists_of zs c.push.new.self.items) c.in_ok-extend_from_slice.ensures.items
    ∙ ap (lists_of (xs ++ ys)) c.in_ok-push.ensures.items
    ∙ ap (λ (n : ℕ). lists_of (xs ++ ys) (c.self.inside.spans.items ++ (n, c.len.result) ∷ [])) start
    ∙ ap (λ (n : ℕ). lists_of (xs ++ ys) (c.self.inside.spans.items ++ (length xs, n) ∷ [])) end
    ∙ lists_more xs ys c.self.inside.spans.items c.self.invariant
    ∙ ap (λ (lists : List (List ℕ)). lists ++ ys ∷ []) c.self.view_is
