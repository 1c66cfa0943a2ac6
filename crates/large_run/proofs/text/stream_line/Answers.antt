use Rattle.std.proofs.Common.{◌≡◌, ◌∙◌, ◌++◌, ◌+◌, List, ℕ, ap, ap₂, codes, decimal}
use Rattle.large_run.proofs.text.stream_line.Goals as goal

behind : (text line : List ℕ) (piece : List ℕ) → text ≡ line → text ++ piece ≡ line ++ piece
behind text line piece is = ap (λ b. b ++ piece) is

both : (text line piece number : List ℕ) → text ≡ line → piece ≡ number → text ++ piece ≡ line ++ number
both text line piece number is same = ap₂ (λ b n. b ++ n) is same

pub returns : goal.returns
returns c =
    let k : c.deref.result.now ≡ decimal c.args.k = c.deref.ensures ∙ c.in_ok-number.ensures.ok in
    let again : c.deref-2.result.now ≡ decimal c.args.k = c.deref-2.ensures ∙ c.in_ok-number.ensures.ok in
    let next : c.deref-3.result.now ≡ decimal (c.args.k + 1) = c.deref-3.ensures ∙ c.in_ok-next.ensures.ok in
    let first = c.in_ok-push_str.ensures.bytes ∙ both _ _ _ _ c.in_ok-line.ensures.ok k in
    let second = c.in_ok-push_str-2.ensures.bytes ∙ behind _ _ (codes " thread at ") first in
    let third = c.in_ok-push_str-3.ensures.bytes ∙ both _ _ _ _ second again in
    let fourth = c.in_ok-push_str-4.ensures.bytes ∙ behind _ _ (codes " {P K J S} end thread at ") third in
    let fifth = c.in_ok-push_str-5.ensures.bytes ∙ both _ _ _ _ fourth next in
    c.in_ok-push_str-6.ensures.bytes ∙ behind _ _ (codes " {Q S Z D} end {R D} end") fifth
