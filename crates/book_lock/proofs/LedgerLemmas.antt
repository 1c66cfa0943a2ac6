-- What the ledger of the tests does is lawful.
use Rattle.std.proofs.Common.{◌≡◌, List, [], ◌∷◌, cond, ne_eqb, Result, Ok, Err, OnOk, OnErr, refl, sym, ap}
use Rattle.site_message.specs.declared.turn.Turn.{Turn}
use Rattle.book_lock.specs.Rule.{IsLawfulChange}
use Rattle.book_lock.specs.Ledger.{turns_alone}

-- a turn is added, or nothing is
pub turn_added : {X E : Type 0} (r : Result X E) (e : Turn) (old new : List Turn) → OnOk r (new ≡ e ∷ old) → OnErr r (new ≡ old)
    → IsLawfulChange e.site (turns_alone old) (turns_alone new)
turn_added (Ok x) e old new ok err = record {
  appended = (e ∷ [], ok, λ j ne. ap (λ b. cond b (e ∷ []) []) (ne_eqb e.site j (λ same. ne (sym same))));
  other_hands = λ j ne. refl;
  reason = λ r is. is;
  fixed = refl;
}
turn_added (Err x) e old new ok err = record { appended = ([], err, λ j ne. refl); other_hands = λ j ne. refl; reason = λ r is. is; fixed = refl }
