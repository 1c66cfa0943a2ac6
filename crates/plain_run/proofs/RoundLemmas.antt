-- The next turn in the fixed order.
use Rattle.std.proofs.Common.{arith, ◌≡◌, ◌∙◌, sym, ap, refl, subst, ℕ, ◌<◌, ◌≤◌, List, [], true, false, ◌⊎◌, inl, inr, Some, None}
use Rattle.std.specs.Prelude.{Option, MatchOption}
use Rattle.std.proofs.lemmas.Bool.{cases_lt, cases_eq}
use Rattle.site_message.specs.declared.message.Msg.{Msg}
use Rattle.site_message.specs.declared.turn.Turn.{Turn}
use Rattle.site_message.specs.Journal as journal
use Rattle.site_message.specs.Journal.{IsTravelling}
use Rattle.site_model.specs.Bundle.{bundle_limit}
use Rattle.site_model.specs.Site.{is_idle}
use Rattle.site_model.specs.Run.{WorldRun}
use Rattle.world_core.specs.declared.travel.Travel.{Travel}
use Rattle.world_core.specs.Travels.{IsAt, IsNoneFor, IsFirstFor, AreTravels, IsNothingFor, IsNumberAt}
use Rattle.world_core.specs.World.{WorldState, states_of}
use Rattle.world_core.proofs.QuietLemmas.{idle_as_told, at_contains}
use Rattle.plain_run.specs.Rounds.{HasNothingToDo, IsLowestFor, ComesBefore, AreTurnsDetermined, last_site}
use Rattle.plain_run.specs.Progress.{IsAtEase, IsBusy}

-- ---- messages

none_for : (j : List Turn) (ts : List Travel) (i : ℕ) → AreTravels j ts → IsNothingFor j i → IsNoneFor ts i
none_for j ts i h none t c e = let at = (h.exact t.number t.to).0 c in none t.number (record { to = t.to; msg = at.0 }) at.1 e

nothing_for : (j : List Turn) (ts : List Travel) (i : ℕ) → AreTravels j ts → IsNoneFor ts i → IsNothingFor j i
nothing_for j ts i h none k m at e = none (record { number = k; to = m.to }) ((h.exact k m.to).1 (m.msg, at)) e

same_number : (ts : List Travel) (i place a b : ℕ) → IsAt ts i place a → IsAt ts i place b → b ≡ a
same_number ts i place a b at there =
    let both : Some (record { number = b; to = i }) ≡ Some (record { number = a; to = i }) = sym there ∙ at in
    ap number_of both
  where
    number_of : Option Travel → ℕ
    number_of None = 0
    number_of (Some t) = t.number

-- the message that was looked for is the lowest one
pub lowest_is : (j : List Turn) (ts : List Travel) (i : ℕ) (place d : Option ℕ) → AreTravels j ts → MatchOption place (IsNoneFor ts i) (λ q. IsFirstFor ts i q) → IsNumberAt ts i place d → IsLowestFor j i d
lowest_is j ts i None d h none e = subst (IsLowestFor j i) (sym e) (nothing_for j ts i h none)
lowest_is j ts i (Some q) d h (number, at, least) (k, there, e) = subst (IsLowestFor j i) (sym (e ∙ ap (λ (n : ℕ). Some n) (same_number ts i q number k at there))) (
  record { to = i; msg = it.0 },
  it.1,
  refl,
  λ n o travels is. least (record { number = n; to = o.to }) ((h.exact n o.to).1 (o.msg, travels)) is,
)
  where
    it : (m : Msg) × IsTravelling j number (record { to = i; msg = m })
    it = (h.exact number i).0 (at_contains ts (record { number = number; to = i }) q at)

-- ---- sites

module _ (w : WorldState) (run : WorldRun w.program w.sites bundle_limit w.journal (states_of w)) where
  -- idle by the journal as by its state
  told : (i : ℕ) → journal.is_idle w.journal i ≡ is_idle (states_of w i)
  told i = idle_as_told w.program w.sites bundle_limit i w.journal (states_of w i) (run.runs i)

  pub nothing_to_do : (i : ℕ) → IsAtEase w i → HasNothingToDo w.journal i
  nothing_to_do i e = (told i ∙ e.0, e.1)

  pub something_to_do : (i : ℕ) → AreTravels w.journal w.travels → IsBusy w i → HasNothingToDo w.journal i → ⊥
  something_to_do i h (inl busy) e = let both : true ≡ false = sym e.0 ∙ (told i ∙ busy) in cc
  something_to_do i h (inr some) e = some (none_for w.journal w.travels i h e.1)

-- ---- the circle

-- ---- one turn alone may be the next

-- of two sites one comes before the other
one_before : (last a b : ℕ) → (a ≡ b → ⊥) → ComesBefore last a b ⊎ ComesBefore last b a
one_before last a b differ = by (cases_lt last a) (cases_lt last b) (cases_lt a b)
  where
    by : (last < a) ⊎ (a ≤ last) → (last < b) ⊎ (b ≤ last) → (a < b) ⊎ (b ≤ a) → ComesBefore last a b ⊎ ComesBefore last b a
    by (inl far) (inl behind) (inl less) = inl (inl (far, inl less))
    by (inl far) (inl behind) (inr more) = inr (inl (behind, inl (omega (arith, more, differ))))
    by (inl far) (inr near) c = inl (inl (far, inr near))
    by (inr near) (inl behind) c = inr (inl (behind, inr near))
    by (inr near) (inr low) (inl less) = inl (inr (near, low, less))
    by (inr near) (inr low) (inr more) = inr (inr (low, near, omega (arith, more, differ)))

one_lowest : (j : List Turn) (i : ℕ) (c d : Option ℕ) → IsLowestFor j i c → IsLowestFor j i d → c ≡ d
one_lowest j i None None h g = refl
one_lowest j i None (Some k) h (m, at, to, least) = absurd (h k m at to)
one_lowest j i (Some k) None (m, at, to, least) g = absurd (g k m at to)
one_lowest j i (Some k) (Some n) (m, at, to, least) (o, there, is, lowest) =
    let below = least n o there is in
    let above = lowest k m at to in
    let same : k ≡ n = omega (arith, below, above) in
    ap (λ (x : ℕ). Some x) same

pub turns_determined : AreTurnsDetermined
turns_determined p l j old new past now e f h g = (site, one_lowest j f.site e.delivered f.delivered (subst (λ (i : ℕ). IsLowestFor j i e.delivered) site h.lowest) g.lowest)
  where
    by : (e.site ≡ f.site) ⊎ (e.site ≡ f.site → ⊥) → e.site ≡ f.site
    by (inl same) = same
    by (inr differ) = absurd (go (one_before (last_site l.sites j) e.site f.site differ))
      where
        go : ComesBefore (last_site l.sites j) e.site f.site ⊎ ComesBefore (last_site l.sites j) f.site e.site → ⊥
        go (inl first) = h.busy (g.first e.site h.some h.among first)
        go (inr first) = g.busy (h.first f.site g.some g.among first)

    site : e.site ≡ f.site
    site = by (cases_eq e.site f.site)
