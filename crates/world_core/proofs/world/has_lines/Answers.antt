use Rattle.std.proofs.Common.{◌≡◌, ◌∙◌, ◌<◌, ◌+◌, ℕ, List, [], ◌∷◌, ◌++◌, length, take, get_or, ap, sym, subst, arith, Bool}
use Rattle.std.specs.Bool.{IsTrue}
use Rattle.std.proofs.lemmas.List.{take_more, take_all, get_or_default}
use Rattle.world_core.proofs.world.has_lines.Goals as goal

-- the lines up to a place, and the same one more
next_line : (ts ls : List (List ℕ)) (at : ℕ) (x y : List ℕ) → at < length ts → at < length ls → take at ts ≡ take at ls → x ≡ get_or ts at x → y ≡ get_or ls at y → x ≡ y → take (at + 1) ts ≡ take (at + 1) ls
next_line ts ls at x y low high so_far a b same =
    take_more ts at x low ∙ ap (λ (z : List (List ℕ)). z ++ get_or ts at x ∷ []) so_far
    ∙ ap (λ (z : List ℕ). take at ls ++ z ∷ []) (sym a ∙ same ∙ b) ∙ sym (take_more ls at y high)

pub loop-at-preserved : goal.loop-at-preserved
loop-at-preserved c =
    let ts : List (List ℕ) = c.args.turn.now.lines in
    let g : c.as_slice-told.result.now ≡ ts = c.as_slice-told.ensures in
    let x = c.index-told-at.result in
    let long : length ts ≡ length c.args.lines.now = sym (ap (λ (z : List (List ℕ)). length z) g) ∙ c.if-told-lines.false in
    next_line ts c.args.lines.now c.loop-at.at x c.index-lines-at.result (omega (arith, c.loop-at-test.true, long)) c.loop-at-test.true c.loop-at.invariant
    (subst (λ (z : List (List ℕ)). x ≡ get_or z c.loop-at.at x) g c.index-told-at.is) c.index-lines-at.is (c.is_same.ensures.0 c.if-not-is_same.false)

-- what equal lists have at a place
same_line : (ts ls told : List (List ℕ)) (at : ℕ) (x y : List ℕ) → told ≡ ts → ts ≡ ls → at < length ls → x ≡ get_or told at x → y ≡ get_or ls at y → x ≡ y
same_line ts ls told at x y g e low a b = a ∙ ap (λ (z : List (List ℕ)). get_or z at x) (g ∙ e) ∙ get_or_default ls at x y low ∙ sym b

pub returns-then-told-lines-clause-all : goal.returns-then-told-lines-clause-all
returns-then-told-lines-clause-all c e = absurd (c.if-told-lines.true (ap (λ (z : List (List ℕ)). length z) (c.as_slice-told.ensures ∙ e)))

pub returns-then-not-is_same-clause-all : goal.returns-then-not-is_same-clause-all
returns-then-not-is_same-clause-all c e =
    let same = same_line c.args.turn.now.lines c.args.lines.now c.as_slice-told.result.now c.loop-at.at c.index-told-at.result c.index-lines-at.result c.as_slice-told.ensures e c.loop-at-test.true c.index-told-at.is c.index-lines-at.is in
    subst (λ (b : Bool). IsTrue b) c.if-not-is_same.true (c.is_same.ensures.1 same)

pub returns-clause-same : goal.returns-clause-same
returns-clause-same c holds =
    let ts : List (List ℕ) = c.args.turn.now.lines in
    let long : length ts ≡ length c.args.lines.now = sym (ap (λ (z : List (List ℕ)). length z) c.as_slice-told.ensures) ∙ c.if-told-lines.false in
    sym (take_all c.loop-at.at ts (omega (arith, c.loop-at-test.false, long))) ∙ c.loop-at.invariant ∙ take_all c.loop-at.at c.args.lines.now c.loop-at-test.false
