-- What is done inside the lock is lawful.
use Rattle.std.proofs.Common.{◌≡◌, ◌≢◌, ℕ, List, [], ◌∷◌, ◌++◌, cond, Option, Some, None, sym, ap, ne_eqb}
use Rattle.std.specs.Prelude.{MatchOption}
use Rattle.site_message.specs.declared.message.Msg.{Msg}
use Rattle.site_message.specs.declared.turn.Turn.{Turn}
use Rattle.site_message.specs.declared.reason.Reason.{Reason}
use Rattle.site_message.specs.Story.{hand}
use Rattle.site_message.specs.declared.limits.Limits.{Limits}
use Rattle.message_book.specs.Book.{BookState, IsUntaken, IsUntakenSpelling, sight_of}
use Rattle.book_lock.specs.Rule.{IsLawfulChange}
use Rattle.site_worker.specs.Inside.{HasTaken}

pub posts : (e : Turn) (old new : BookState) → new.journal ≡ e ∷ old.journal → ((i : ℕ) → i ≢ e.site → hand i new.hands ≡ hand i old.hands) → new.limits ≡ old.limits → ((r : Reason) → old.reason ≡ Some r → ⊥)
    → IsLawfulChange e.site (sight_of old) (sight_of new)
posts e old new journal hands limits none = record {
  appended = (e ∷ [], journal, λ j ne. ap (λ b. cond b (e ∷ []) []) (ne_eqb e.site j (λ same. ne (sym same))));
  other_hands = hands;
  reason = λ r is. absurd (none r is);
  fixed = ap (λ (l : Limits). l.sites ∷ l.steps ∷ l.messages ∷ []) limits;
}

pub taken : (k : ℕ) (old new : BookState) (o : Option (ℕ × List ℕ))
    → MatchOption o ((new ≡ old) × ((n : ℕ) (m : Msg) → IsUntaken old k n m → ⊥)) (λ x. IsUntakenSpelling old k x.0 x.1 × (hand k new.hands ≡ hand k old.hands ++ x.0 ∷ []))
    → HasTaken k (sight_of old) (sight_of new) o
taken k old new None t = (ap sight_of t.0, t.1)
taken k old new (Some x) t = ((t.0.0, t.0.1.0.0, t.0.2), t.1)
