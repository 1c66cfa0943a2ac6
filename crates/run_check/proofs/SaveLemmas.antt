-- The entries of a run have a text.
use Rattle.std.proofs.Common.{rules, arith, ◌≡◌, refl, ℕ, ◌<◌, ◌≤◌, List, [], ◌∷◌, length, map, reverse, Bool, true, false}
use Rattle.std.specs.Prelude.{Option, Some, None, ◌&&◌, not, nat_lt, nat_le}
use Rattle.std.proofs.lemmas.Option.{slice_get_within}
use Rattle.tree_node.specs.declared.limits.TheConstants.{MOST_MESSAGES}
use Rattle.tree_node.specs.declared.names.ThreadName.{ThreadName}
use Rattle.tree_node.specs.Each.{Each}
use Rattle.tree_node.proofs.EachLemmas.{each_reverse}
use Rattle.kernel_syntax.specs.declared.stmt.Stmt.{Stmt}
use Rattle.site_message.specs.declared.reason.Reason.{Reason}
use Rattle.site_message.specs.declared.reason.Reason.TheVariants.{Messages}
use Rattle.site_message.specs.declared.turn.Turn.{Turn}
use Rattle.site_message.specs.declared.limits.Limits.{Limits}
use Rattle.site_message.specs.Journal.{end_of, end_by, is_quiet, sent_of, DeliversOnce}
use Rattle.site_message.specs.EarlierEnd.{HasNoEarlierEnd}
use Rattle.site_model.specs.Bundle.{bundle_limit}
use Rattle.site_model.specs.Run.{WorldRun}
use Rattle.site_model.specs.Site.{Site}
use Rattle.world_journals.specs.Places.{IsNamedBy, UnitsAreNamed}
use Rattle.world_journals.proofs.PlaceLemmas.{units_are_always_named}
use Rattle.byte_fields.specs.Text.{IsLine}
use Rattle.run_file.specs.Fits.{IsThreadOf, IsNumber, IsEntryOf}
use Rattle.run_file.specs.Saved.{greatest}
use Rattle.run_file.specs.Writing.{AreNumbered, entry_of}
use Rattle.run_check.specs.Laws.{RunsMayBeSaved}
use Rattle.run_check.proofs.AgainLemmas.{run_before}
use Rattle.run_check.proofs.PrintLemmas.{printed_law}

-- ---- lists

each_mapped : {X Y : Type 0} (P : Y → Type 0) (f : X → Y) (xs : List X) → Each (λ (x : X). P (f x)) xs → Each P (map f xs)
each_mapped P f [] h = tt
each_mapped P f (x ∷ xs) h = (h.0, each_mapped P f xs h.1)

-- ---- one entry

-- where a run goes on no more messages were sent than its limit
few_sent : (l : Limits) (j : List Turn) → end_of l j ≡ None → length (sent_of j) ≤ l.messages
few_sent l [] e = omega arith
few_sent l (t ∷ j) e = by (nat_lt l.messages (length (sent_of (t ∷ j)))) refl e
  where
    by : (b : Bool) → nat_lt l.messages (length (sent_of (t ∷ j))) ≡ b → end_by b (nat_le l.steps t.steps && not t.idle) t.site (is_quiet l.sites (t ∷ j)) ≡ None → length (sent_of (t ∷ j)) ≤ l.messages
    by true q h = let no : ◌≡◌ {A = Option Reason} (Some Messages) None = h in cc
    by false q h = below l.messages (length (sent_of (t ∷ j))) q
      where
        below : (a b : ℕ) → nat_lt a b ≡ false → b ≤ a
        below a b e = search rules

numbered : (l : Limits) (j : List Turn) (t : Turn) → l.messages ≤ MOST_MESSAGES → end_of l j ≡ None → DeliversOnce j t → IsNumber t.delivered
numbered l j t most goes_on once = by t.delivered refl
  where
    by : (o : Option ℕ) → t.delivered ≡ o → IsNumber o
    by None q = tt
    by (Some k) q =
        let m = once k q in
        let low : k < length (sent_of j) = slice_get_within (sent_of j) k m.0 m.1.0 in
        let few = few_sent l j goes_on in
        (omega arith, omega (arith, low, few, most))

threads_of : (n : ℕ) (ths : List ThreadName) → Each (IsNamedBy n) ths → Each (λ (th : ThreadName). th.num ≤ greatest) ths → Each (IsThreadOf n) ths
threads_of n [] named low = tt
threads_of n (th ∷ ths) named low = ((named.0, (omega arith, low.0)), threads_of n ths named.1 low.1)

-- ---- a run

module _ (p : List Stmt) (l : Limits) (most : l.messages ≤ MOST_MESSAGES) where
  entries_fit : (j : List Turn) (w : ℕ → Site) → WorldRun p l.sites bundle_limit j w → HasNoEarlierEnd l j → UnitsAreNamed l.sites j → Each (λ (e : Turn). Each IsLine e.lines) j → AreNumbered j → Each (λ (e : Turn). IsEntryOf l.sites (entry_of e)) j
  entries_fit [] w run early named lines low = tt
  entries_fit (t ∷ j) w run early named lines low =
      let r = run_before p l t j w run in (
        record {
          site = run.sites.0;
          delivered = numbered l j t most early.1 r.3;
          few = r.8;
          units = threads_of l.sites t.units named.0 low.0;
          lines = lines.0;
        },
        entries_fit j r.0 r.2 early.0 named.1 lines.1 low.1,
      )

pub save_law : RunsMayBeSaved
save_law p l j w is low high most run early numbers =
    each_mapped (IsEntryOf l.sites) entry_of (reverse j) (each_reverse (λ (e : Turn). IsEntryOf l.sites (entry_of e)) j
    (entries_fit p l most j w run early (units_are_always_named p l.sites bundle_limit j w run) (printed_law p l.sites j w is low high run) numbers))
