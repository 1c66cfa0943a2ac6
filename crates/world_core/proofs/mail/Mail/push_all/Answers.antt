use Rattle.std.proofs.Common.{arith, ◌≡◌, ◌<◌, ◌+◌, ◌++◌, ◌∷◌, [], ◌∙◌, ap, sym, ℕ, List, length, take, get_or, subst, append_assoc}
use Rattle.std.specs.Prelude.{None, Some}
use Rattle.std.specs.List.{enumerate_from}
use Rattle.site_message.specs.declared.message.Sent.{Sent}
use Rattle.world_core.specs.Mail.{message_at}
use Rattle.world_core.proofs.MailLemmas.{enumerate_more, none_after}
use Rattle.world_core.proofs.mail.Mail.push_all.Goals as goal

more : (xs : List Sent) (i number first : ℕ) (x y : Sent) → number ≡ first + i → y ≡ x → i < length xs → x ≡ get_or xs i x →
    enumerate_from first (take (i + 1) xs) ≡ enumerate_from first (take i xs) ++ (number, y) ∷ []
more xs i number first x y at same inside is =
    enumerate_more first xs i x inside is ∙ (λ k. enumerate_from first (take i xs) ++ (sym at k, sym same k) ∷ [])

pub loop-one-preserved : goal.loop-one-preserved
loop-one-preserved c =
    let old = c.loop-one.invariant in
    let next : c.in_ok-number.number ≡ c.loop-one.number + 1 = (let some : c.checked_add.result ≡ Some c.in_ok-number.number = c.in_ok-number.ensures.ok_part in let h = c.checked_add.ensures in grind arith) in
    let sent : c.in_ok-copy_sent.field-0 ≡ c.one-item.result = c.in_ok-copy_sent.ensures in
    let grown : c.push.new.self.messages ≡ c.loop-one.self.messages ++ (c.loop-one.number, c.in_ok-copy_sent.field-0) ∷ [] = c.in_ok-push.ensures.ok in
    let test = c.loop-one-test.true in
    record {
      queues = c.in_ok-push.ensures.queues ∙ old.queues;
      number = next ∙ (let e = old.number in omega arith);
      messages = grown ∙ ap (λ (l : List (ℕ × Sent)). l ++ (c.loop-one.number, c.in_ok-copy_sent.field-0) ∷ []) old.messages
          ∙ append_assoc c.args.self.now.messages (enumerate_from c.args.first (take c.loop-one.one-index c.args.sent.now)) ((c.loop-one.number, c.in_ok-copy_sent.field-0) ∷ [])
          ∙ ap (λ (l : List (ℕ × Sent)). c.args.self.now.messages ++ l) (sym (more c.args.sent.now c.loop-one.one-index c.loop-one.number c.args.first c.one-item.result c.in_ok-copy_sent.field-0 old.number sent test c.one-item.is));
      below = λ k high. subst (λ (es : List (ℕ × Sent)). message_at es k ≡ None) (sym grown) (none_after c.loop-one.self.messages k c.loop-one.number c.in_ok-copy_sent.field-0 (omega arith) (old.below k (omega arith)));
    }
