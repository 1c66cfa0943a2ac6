-- What is due of the lines of a run and its end line.
use Rattle.std.proofs.Common.{◌≡◌, ap, sym, subst, refl, inr, List, ℕ, [], ◌++◌}
use Rattle.oz_base.specs.Streams.{HandsInOnly, IsRestOf}
use Rattle.oz_model.specs.Output.{pieces_of}
use Rattle.site_message.specs.declared.turn.Turn.{Turn}
use Rattle.oz_show.specs.declared.status.Status.{Status}
use Rattle.oz_show.specs.declared.status.Status.TheVariants.{Wrong}
use Rattle.oz_runner.specs.declared.work.RunLines.{RunLines}
use Rattle.oz_runner.specs.declared.work.RunLines.TheVariants as printed
use Rattle.oz_runner.specs.Due.{IsRestOfOutput, lines_before}
use Rattle.oz_runner.specs.Ends.{lines_of}
use Rattle.oz_runner.specs.Saving.{IsPlain, IsRestOfWork, bytes_due}
use Rattle.oz_runner.proofs.HandedLemmas.{Handed, handed_also}

abbrev HasNoFile : RunLines → Type 0
HasNoFile ls = (journal : List Turn) (file : List ℕ) → ls ≡ printed.Saved journal file → ⊥

pub plain_of : (ls : RunLines) → HasNoFile ls → IsPlain ls
plain_of (printed.Sites journal) none = tt
plain_of (printed.Machine lines) none = tt
plain_of (printed.Saved journal file) none = none journal file refl

abbrev IsNotWrong : Status → Type 0
IsNotWrong status = (at : ℕ) → status ≡ Wrong at → ⊥

-- the saved run is one piece
pub file_handed : (ls : RunLines) (status : Status) (end : List ℕ) (journal : List Turn) (file piece : List ℕ) (a b : Handed) → ls ≡ printed.Saved journal file → piece ≡ file
    → HandsInOnly a b (IsRestOf piece) → HandsInOnly a b (IsRestOfWork ls status end)
file_handed ls status end journal file piece a b is same h =
    subst (λ (l : RunLines). HandsInOnly a b (IsRestOfWork l status end)) (sym is) (subst (λ (bytes : List ℕ). HandsInOnly a b (IsRestOf bytes)) same h)

-- the lines stand before each end line but that of a wrong entry
lines_stay : (status : Status) (lines : List (List ℕ)) → IsNotWrong status → lines_before status lines ≡ lines
lines_stay (Wrong at) lines other = absurd (other at refl)
lines_stay _ lines other = refl

pub all_due : (ls : RunLines) (status : Status) (end : List ℕ) → HasNoFile ls → IsNotWrong status → bytes_due ls status end ≡ pieces_of (lines_of ls) ++ end
all_due (printed.Sites journal) status end none other = ap (λ ls. pieces_of ls ++ end) (lines_stay status (lines_of (printed.Sites journal)) other)
all_due (printed.Machine lines) status end none other = ap (λ ls. pieces_of ls ++ end) (lines_stay status lines.items other)
all_due (printed.Saved journal file) status end none other = absurd (none journal file refl)

pub all_handed : (ls : RunLines) (status : Status) (end : List ℕ) (a b : Handed) → HasNoFile ls → IsNotWrong status → HandsInOnly a b (IsRestOfOutput (lines_of ls) end)
    → HandsInOnly a b (IsRestOfWork ls status end)
all_handed (printed.Sites journal) status end a b none other h =
    subst (λ (ls : List (List ℕ)). HandsInOnly a b (IsRestOfOutput ls end)) (sym (lines_stay status (lines_of (printed.Sites journal)) other)) h
all_handed (printed.Machine lines) status end a b none other h =
    subst (λ (ls : List (List ℕ)). HandsInOnly a b (IsRestOfOutput ls end)) (sym (lines_stay status lines.items other)) h
all_handed (printed.Saved journal file) status end a b none other h = absurd (none journal file refl)

-- where an entry is wrong, the end line stands alone
end_due_of : (ls : RunLines) (at : ℕ) (end : List ℕ) → HasNoFile ls → bytes_due ls (Wrong at) end ≡ end
end_due_of (printed.Sites journal) at end none = refl
end_due_of (printed.Machine lines) at end none = refl
end_due_of (printed.Saved journal file) at end none = absurd (none journal file refl)

pub end_due : (ls : RunLines) (status : Status) (at : ℕ) (end : List ℕ) → HasNoFile ls → status ≡ Wrong at → bytes_due ls status end ≡ end
end_due ls status at end none is = subst (λ (w : Status). bytes_due ls w end ≡ end) (sym is) (end_due_of ls at end none)

end_handed_of : (ls : RunLines) (at : ℕ) (end : List ℕ) (a b : Handed) → HasNoFile ls → HandsInOnly a b (IsRestOf end) → HandsInOnly a b (IsRestOfWork ls (Wrong at) end)
end_handed_of (printed.Sites journal) at end a b none h = handed_also (IsRestOf end) (IsRestOfOutput [] end) (λ rest left. inr left) a b h
end_handed_of (printed.Machine lines) at end a b none h = handed_also (IsRestOf end) (IsRestOfOutput [] end) (λ rest left. inr left) a b h
end_handed_of (printed.Saved journal file) at end a b none h = absurd (none journal file refl)

pub end_alone : (ls : RunLines) (status : Status) (at : ℕ) (end : List ℕ) (a b : Handed) → HasNoFile ls → status ≡ Wrong at → HandsInOnly a b (IsRestOf end)
    → HandsInOnly a b (IsRestOfWork ls status end)
end_alone ls status at end a b none is h = subst (λ (w : Status). HandsInOnly a b (IsRestOfWork ls w end)) (sym is) (end_handed_of ls at end a b none h)
