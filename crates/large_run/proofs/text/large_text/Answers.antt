use Rattle.std.proofs.Common.{◌≡◌, ◌∙◌, ◌++◌, ◌∷◌, [], ap, arith, subst, sym, ◌≤◌, length}
use Rattle.large_run.specs.Text.{first_lines, last_line, stream_lines, text_of}
use Rattle.large_run.proofs.TextLemmas.{one_more, short_text}
use Rattle.large_run.proofs.text.large_text.Goals as goal

pub loop-k-preserved : goal.loop-k-preserved
loop-k-preserved c =
    one_more c.loop-k.k _ (c.in_ok-push_line.ensures (first_lines ++ stream_lines c.loop-k.k) c.loop-k.invariant
    ∙ ap (λ line. text_of ((first_lines ++ stream_lines c.loop-k.k) ++ line ∷ [])) (c.deref.ensures ∙ c.in_ok-line.ensures))

pub returns-clause-text : goal.returns-clause-text
returns-clause-text c =
    let all : c.loop-k.k ≡ c.args.size = omega (arith, c.loop-k-test.false, c.loop-k.auto.k-end) in
    c.in_ok-push_line-2.ensures (first_lines ++ stream_lines c.loop-k.k) c.loop-k.invariant
    ∙ ap (λ n. text_of (first_lines ++ (stream_lines n ++ last_line ∷ []))) all

pub returns-clause-short : goal.returns-clause-short
returns-clause-short c = subst (λ bytes. length bytes ≤ 1048576) (sym (returns-clause-text c)) (short_text c.args.size c.requires)
