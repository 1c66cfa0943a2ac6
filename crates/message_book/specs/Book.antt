-- What a book shows.
use Rattle.std.specs.Prelude.{◌≡◌, ◌⊎◌, ℕ, ◌≤◌, List, [], ◌∷◌, not, Option, Some, None, Contains}
use Rattle.std.specs.List.{filter}
use Rattle.site_message.specs.declared.message.Msg.{Msg}
use Rattle.site_message.specs.declared.turn.Turn.{Turn}
use Rattle.site_message.specs.declared.story.Sight.{Sight}
use Rattle.site_message.specs.declared.reason.Reason.{Reason}
use Rattle.site_message.specs.declared.reason.Reason.TheVariants.{Memory}
use Rattle.site_message.specs.declared.limits.Limits.{Limits}
use Rattle.site_message.specs.Journal.{IsTravelling, is_number, end_of}
use Rattle.site_message.specs.Story.{hand}
use Rattle.wire_reader.specs.declared.form.Form.TheVariants as forms
use Rattle.wire_reader.specs.Format.{IsSpelling}

-- the limits, the turns posted, the newest first, the numbers in hand of the site k at the place k, and the reason
pub record BookState : Type 0 where
  pub limits : Limits
  pub journal : List Turn
  pub hands : List (List ℕ)
  pub reason : Option Reason

-- what a seat of the book's lock sees
abbrev pub sight_of : BookState → Sight
sight_of b = record {
  entries = b.journal;
  hands = b.hands;
  reason = b.reason;
  fixed = b.limits.sites ∷ b.limits.steps ∷ b.limits.messages ∷ [];
}

-- 1 to n
abbrev pub IsSiteOf : ℕ → ℕ → Type 0
IsSiteOf n i = (1 ≤ i) × (i ≤ n)

-- each turn is of a site 1 to n
abbrev pub AreSites : ℕ → List Turn → Type 0
AreSites n [] = Unit {0}
AreSites n (e ∷ j) = IsSiteOf n e.site × AreSites n j

-- without the number that a turn delivered
abbrev pub without_delivered : Option ℕ → List ℕ → List ℕ
without_delivered o ks = filter (λ (k : ℕ). not (is_number o k)) ks

-- a message for the site i that no site has taken and no turn has delivered
abbrev pub IsUntaken : BookState → ℕ → ℕ → Msg → Type 0
IsUntaken b i k m = IsTravelling b.journal k (record { to = i; msg = m }) × (Contains (hand i b.hands) k → ⊥)

-- bytes that spell such a message in form 2
abbrev pub IsUntakenSpelling : BookState → ℕ → ℕ → List ℕ → Type 0
IsUntakenSpelling b i k bytes = (m : Msg) × IsUntaken b i k m × IsSpelling forms.Two bytes m

-- the reason is how the journal ends; or memory ran out where it goes on
abbrev pub IsReason : Limits → List Turn → Option Reason → Type 0
IsReason l j r = (r ≡ end_of l j) ⊎ ((r ≡ Some Memory) × (end_of l j ≡ None))

-- the first reason stays
abbrev pub first_reason : Option Reason → Reason → Option Reason
first_reason None r = Some r
first_reason (Some q) r = Some q
