-- What threads ask of homes, by where the threads were placed.
use Rattle.std.proofs.Common.{◌≡◌, ◌≢◌, ℕ, ◌+◌, ◌⊎◌, inl, inr}
use Rattle.std.specs.List.{count_by}
use Rattle.tree_node.specs.declared.names.CellName.{CellName}
use Rattle.tree_node.specs.declared.names.ThreadName.{ThreadName}
use Rattle.site_message.specs.Journal.{sent_of}
use Rattle.oz_model.specs.Run.{start}
use Rattle.world_model.specs.Schedule.{schedule}
use Rattle.world_answers.specs.Balance.{asks_content_for, answers_to, outstanding_for, one_exchange, away_exchange, exchanges_by, GoesAt, RequestsBalance}
use Rattle.world_simulation.proofs.TotalLemmas.{requests_always_balance}
use Rattle.world_journals.specs.Homes.{HomesAreAsked}
use Rattle.world_journals.specs.Places.{IsPlacedAt}
use Rattle.world_journals.proofs.PlaceLemmas.{PlacedIn, placed_in}

pub homes_are_asked : HomesAreAsked
homes_are_asked p n limit j w is low high short run = record {
  away = λ c th real far. away c th far (b.asked c th real);
  home = λ c th at. home c th at (b.far c th);
  answered = λ i th at. answered i th at (b.answered i th);
}
  where
    placed : PlacedIn n j w
    placed = placed_in p n limit j w run

    b : RequestsBalance p j w
    b = requests_always_balance p n limit j w is low high short run

    away : (c : CellName) (th : ThreadName) → (IsPlacedAt j th c.at → ⊥) → GoesAt j c.at th ⊎ (count_by (asks_content_for c th) (sent_of j) ≡ exchanges_by (one_exchange c th) p (start p) (schedule j) + outstanding_for c th j w) →
        count_by (asks_content_for c th) (sent_of j) ≡ exchanges_by (one_exchange c th) p (start p) (schedule j) + outstanding_for c th j w
    away c th far (inl goes) = absurd (far (placed.goes c.at th goes))
    away c th far (inr same) = same

    home : (c : CellName) (th : ThreadName) → IsPlacedAt j th c.at → (count_by (asks_content_for c th) (sent_of j) ≡ 0) ⊎ ((i : ℕ) × (c.at ≢ i) × GoesAt j i th) → count_by (asks_content_for c th) (sent_of j) ≡ 0
    home c th at (inl none) = none
    home c th at (inr (i, other, goes)) = absurd (other (placed.home.once th c.at i at (placed.goes i th goes)))

    answered : (i : ℕ) (th : ThreadName) → IsPlacedAt j th i → (count_by (answers_to th) (sent_of j) ≡ exchanges_by (away_exchange i th) p (start p) (schedule j)) ⊎ ((k : ℕ) × (k ≢ i) × GoesAt j k th) →
        count_by (answers_to th) (sent_of j) ≡ exchanges_by (away_exchange i th) p (start p) (schedule j)
    answered i th at (inl same) = same
    answered i th at (inr (k, other, goes)) = absurd (other (placed.home.once th k i (placed.goes k th goes) at))
