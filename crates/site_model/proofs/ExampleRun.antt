-- The worked run.
use Rattle.std.proofs.Common.{rules, arith, ◌≡◌, ◌≢◌, ◌∙◌, sym, subst, refl, ℕ, ◌≤◌, ◌<◌, zero, suc, [], inr, Bool, true, false, Some, None}
use Rattle.std.specs.Prelude.{Option, pos, length, nat_le, nat_lt, ◌==◌}
use Rattle.tree_node.specs.Each.{Each}
use Rattle.kernel_syntax.specs.Free.{free}
use Rattle.tree_node.specs.Shown.{shown_within}
use Rattle.std.specs.Fmt.{digits}
use Rattle.tree_node.specs.Words.{reserved_words}
use Rattle.tree_node.specs.declared.node.Node.TheVariants as node
use Rattle.tree_node.specs.declared.node.Term.TheVariants as term
use Rattle.site_message.specs.declared.message.Msg.{Msg}
use Rattle.site_message.specs.declared.message.Msg.TheVariants as msg
use Rattle.site_message.specs.declared.message.Sent.{Sent}
use Rattle.site_message.specs.declared.turn.Turn.{Turn}
use Rattle.site_message.specs.Journal.{is_quiet, IsTravelling, Wired, DeliversOnce}
use Rattle.site_model.specs.Site.{Site, initial_site}
use Rattle.site_model.specs.Fit.{BundleFits}
use Rattle.site_model.specs.Choice.{can_all_go, reception_of, next_turn}
use Rattle.site_model.specs.Run.{delivered_message, SiteRun, IsSiteIn}
use Rattle.site_model.specs.Run as run
use Rattle.site_model.proofs.ChoiceLemmas.{turn_is, CanHear}
use Rattle.site_model.specs.Example.{BundleTravels, Story, program, times, first_turn, second_turn, first_story, sites_of, TokenReturns}
use Rattle.site_model.specs.Example as example
use Rattle.tree_node.proofs.OrderLemmas.{none as nothing}
use Rattle.std.proofs.lemmas.Bool.{ne_eqb as off}

le : (m n : ℕ) → nat_le m n ≡ true → m ≤ n
le m n e = search rules

lt : (m n : ℕ) → nat_lt m n ≡ true → m < n
lt m n e = search rules

other : (m n : ℕ) → (m == n) ≡ false → m ≢ n
other m n e h = absurd (search rules)

-- a name of another site
far : {X : Type 0} (m n : ℕ) → (m == n) ≡ false → m ≡ n → X
far m n e h = absurd (other m n e h)

no_bundle_fits : {s : Site} → BundleFits s []
no_bundle_fits = record { down = tt; same = λ x t r h. absurd (nothing _ h); own = λ x t h. absurd (nothing _ h) }

hear_2 : CanHear program 2 (delivered_message example.turn_1.journal (Some 0)) example.turn_1.second
unfolding free
hear_2 = record {
  wire = ((le _ _ refl, le _ _ refl), (le _ _ refl, ((le _ _ refl, le _ _ refl), ((le _ _ refl, le _ _ refl), ((le _ _ refl, le _ _ refl), tt)))), (le _ _ refl, tt, tt));
  takes = refl;
  sites = tt;
  names = ((le _ _ refl, le _ _ refl, le _ _ refl, λ e. far _ _ refl e), ((le _ _ refl, le _ _ refl, le _ _ refl, λ e. far _ _ refl e), ((le _ _ refl, le _ _ refl, le _ _ refl, λ e. far _ _ refl e), ((le _ _ refl, le _ _ refl, le _ _ refl, λ e. far _ _ refl e), tt))), tt);
  codes = ((lt _ _ refl, refl), (tt, tt));
  bundle = no_bundle_fits;
}

hear_3 : CanHear program 2 (delivered_message example.turn_2.journal (Some 2)) example.turn_2.first
unfolding free
hear_3 = record {
  wire = ((le _ _ refl, le _ _ refl), (le _ _ refl, le _ _ refl));
  takes = (refl, refl, λ k. nothing _ k);
  sites = (le _ _ refl, le _ _ refl, other _ _ refl);
  names = (le _ _ refl, le _ _ refl, le _ _ refl, λ e. lt _ _ refl);
  codes = (tt, (tt, tt));
  bundle = no_bundle_fits;
}

hear_4 : CanHear program 2 (delivered_message example.turn_3.journal (Some 4)) example.turn_3.second
unfolding free
hear_4 = record {
  wire = ((le _ _ refl, le _ _ refl), ((le _ _ refl, le _ _ refl), le _ _ refl), (le _ _ refl, tt, tt));
  takes = (other _ _ refl, tt, refl);
  sites = tt;
  names = ((le _ _ refl, le _ _ refl, le _ _ refl, λ e. far _ _ refl e), (le _ _ refl, le _ _ refl, le _ _ refl, λ e. far _ _ refl e), tt);
  codes = (tt, (tt, tt));
  bundle = no_bundle_fits;
}

hear_5 : CanHear program 2 (delivered_message example.turn_4.journal (Some 5)) example.turn_4.first
unfolding free
hear_5 = record {
  wire = (((le _ _ refl, le _ _ refl), refl), (le _ _ refl, le _ _ refl));
  takes = (refl, λ e. (refl, tt));
  sites = (le _ _ refl, le _ _ refl, other _ _ refl);
  names = (le _ _ refl, le _ _ refl, le _ _ refl, λ e. lt _ _ refl);
  codes = (tt, (tt, tt));
  bundle = no_bundle_fits;
}

hear_6 : CanHear program 2 (delivered_message example.turn_5.journal (Some 6)) example.turn_5.second
unfolding free
hear_6 = record {
  wire = (((le _ _ refl, le _ _ refl), refl), (le _ _ refl, le _ _ refl), (le _ _ refl, tt, tt));
  takes = refl;
  sites = tt;
  names = ((le _ _ refl, le _ _ refl, le _ _ refl, λ e. far _ _ refl e), (le _ _ refl, le _ _ refl, le _ _ refl, λ e. far _ _ refl e), tt);
  codes = (tt, (tt, tt));
  bundle = no_bundle_fits;
}

message_7 : delivered_message example.turn_6.journal (Some 7) ≡ Some (msg.BindReq (record { site = 1; num = 2 }) (record { site = 1; num = 1 }) (term.Var (record { site = 1; num = 0 })) [])
unfolding free
message_7 = refl

takes_7 : CanHear program 2 (Some (msg.BindReq (record { site = 1; num = 2 }) (record { site = 1; num = 1 }) (term.Var (record { site = 1; num = 0 })) [])) example.turn_6.first
unfolding free
takes_7 = record {
  wire = ((le _ _ refl, le _ _ refl), (le _ _ refl, le _ _ refl), (le _ _ refl, le _ _ refl), (le _ _ refl, tt, tt));
  takes = (inr (refl, lt _ _ refl), (refl, refl));
  sites = tt;
  names = ((le _ _ refl, le _ _ refl, le _ _ refl, λ e. lt _ _ refl), (le _ _ refl, le _ _ refl, le _ _ refl, λ e. lt _ _ refl), (le _ _ refl, le _ _ refl, le _ _ refl, λ e. lt _ _ refl), tt);
  codes = (tt, (tt, tt));
  bundle = no_bundle_fits;
}

hear_7 : CanHear program 2 (delivered_message example.turn_6.journal (Some 7)) example.turn_6.first
hear_7 = subst (λ (m : Option Msg). CanHear program 2 m example.turn_6.first) (sym message_7) takes_7

hear_8 : CanHear program 2 (delivered_message example.turn_7.journal (Some 3)) example.turn_7.first
unfolding free
hear_8 = record {
  wire = ((le _ _ refl, le _ _ refl), (le _ _ refl, le _ _ refl));
  takes = (refl, refl, λ k. nothing _ k);
  sites = (le _ _ refl, le _ _ refl, other _ _ refl);
  names = (le _ _ refl, le _ _ refl, le _ _ refl, λ e. lt _ _ refl);
  codes = (tt, (tt, tt));
  bundle = no_bundle_fits;
}

hear_9 : CanHear program 2 (delivered_message example.turn_8.journal (Some 8)) example.turn_8.second
unfolding free
hear_9 = record {
  wire = ((le _ _ refl, le _ _ refl), (le _ _ refl, le _ _ refl), (le _ _ refl, tt, tt));
  takes = (other _ _ refl, inr (refl, lt _ _ refl), refl);
  sites = tt;
  names = ((le _ _ refl, le _ _ refl, le _ _ refl, λ e. far _ _ refl e), (le _ _ refl, le _ _ refl, le _ _ refl, λ e. far _ _ refl e), tt);
  codes = (tt, (tt, tt));
  bundle = no_bundle_fits;
}

hear_10 : CanHear program 2 (delivered_message example.turn_9.journal (Some 1)) example.turn_9.first
unfolding free
hear_10 = record {
  wire = ((le _ _ refl, le _ _ refl), (le _ _ refl, le _ _ refl));
  takes = (refl, refl, λ k. nothing _ k);
  sites = (le _ _ refl, le _ _ refl, other _ _ refl);
  names = (le _ _ refl, le _ _ refl, le _ _ refl, λ e. lt _ _ refl);
  codes = (tt, (tt, tt));
  bundle = no_bundle_fits;
}

message_11 : delivered_message example.turn_10.journal (Some 9) ≡ Some (msg.BindReq (record { site = 1; num = 0 }) (record { site = 1; num = 1 }) (term.Node (node.Int (pos 5))) [])
unfolding free
message_11 = refl

takes_11 : CanHear program 2 (Some (msg.BindReq (record { site = 1; num = 0 }) (record { site = 1; num = 1 }) (term.Node (node.Int (pos 5))) [])) example.turn_10.first
unfolding free
takes_11 = record {
  wire = ((le _ _ refl, le _ _ refl), (le _ _ refl, le _ _ refl), tt, (le _ _ refl, tt, tt));
  takes = (tt, (refl, refl));
  sites = tt;
  names = ((le _ _ refl, le _ _ refl, le _ _ refl, λ e. lt _ _ refl), (le _ _ refl, le _ _ refl, le _ _ refl, λ e. lt _ _ refl), tt, tt);
  codes = (tt, (tt, tt));
  bundle = no_bundle_fits;
}

hear_11 : CanHear program 2 (delivered_message example.turn_10.journal (Some 9)) example.turn_10.first
hear_11 = subst (λ (m : Option Msg). CanHear program 2 m example.turn_10.first) (sym message_11) takes_11

hear_12 : CanHear program 2 (delivered_message example.turn_11.journal (Some 10)) example.turn_11.second
unfolding free
hear_12 = record {
  wire = ((le _ _ refl, le _ _ refl), tt, (le _ _ refl, tt, tt));
  takes = (other _ _ refl, tt, refl);
  sites = tt;
  names = ((le _ _ refl, le _ _ refl, le _ _ refl, λ e. far _ _ refl e), tt, tt);
  codes = (tt, (tt, tt));
  bundle = no_bundle_fits;
}

hear_13 : CanHear program 2 (delivered_message example.turn_12.journal (Some 11)) example.turn_12.second
unfolding free
hear_13 = record {
  wire = (((le _ _ refl, le _ _ refl), refl), (le _ _ refl, le _ _ refl));
  takes = (refl, tt);
  sites = (le _ _ refl, le _ _ refl, other _ _ refl);
  names = (le _ _ refl, le _ _ refl, le _ _ refl, λ e. far _ _ refl e);
  codes = (tt, (tt, tt));
  bundle = no_bundle_fits;
}

hear_14 : CanHear program 2 (delivered_message example.turn_13.journal (Some 12)) example.turn_13.first
unfolding free
hear_14 = record {
  wire = (((le _ _ refl, le _ _ refl), refl), (le _ _ refl, le _ _ refl), (le _ _ refl, tt, tt));
  takes = refl;
  sites = tt;
  names = ((le _ _ refl, le _ _ refl, le _ _ refl, λ e. lt _ _ refl), (le _ _ refl, le _ _ refl, le _ _ refl, λ e. lt _ _ refl), tt);
  codes = (tt, (tt, tt));
  bundle = no_bundle_fits;
}

passes : (b : Bool) (before : Site → Type 0) (entry : Site → Site → Type 0) (s : Site) → b ≡ false → before s → run.IsReachedBy b before entry s
passes true before entry s e h = cc
passes false before entry s e h = h

-- what is so of a story
record Goes (w : Story) : Type 0 where
  wired : Wired w.journal
  inside : Each (IsSiteIn 2) w.journal
  one : SiteRun program 2 0 1 w.journal w.first
  two : SiteRun program 2 0 2 w.journal w.second
  none : SiteRun program 2 0 0 w.journal (initial_site program 2 0)
  beyond : (i : ℕ) → SiteRun program 2 0 (suc (suc (suc i))) w.journal (initial_site program 2 (suc (suc (suc i))))

-- a turn delivers nothing, or a message to this site
abbrev IsMail : Story → ℕ → Option ℕ → Type 0
IsMail w i None = Unit {0}
IsMail w i (Some k) = (m : Sent) × IsTravelling w.journal k m × (m.to ≡ i)

mail_once : (w : Story) (i : ℕ) (k : Option ℕ) (e : Turn) → e.delivered ≡ k → e.site ≡ i → IsMail w i k → DeliversOnce w.journal e
mail_once w i None e d s m l q = cc
mail_once w i (Some k) e d s (m, t, to) l q =
    let same : k ≡ l = cc in
    (m, subst (λ (j : ℕ). IsTravelling w.journal j m) same t, to ∙ sym s)

first_goes : (w : Story) (k : Option ℕ) (u : ℕ) → length (times u example.first) ≤ 64 → IsMail w 1 k → CanHear program 2 (delivered_message w.journal k) w.first →
    can_all_go program 2 0 (times u example.first) (reception_of program 0 (delivered_message w.journal k) w.first).site ≡ true → Goes w → Goes (first_turn w k u)
first_goes w k u few mail hear can g = record {
  wired = (g.wired, mail_once w 1 k (example.entry 1 k (times u example.first) (next_turn program 2 0 (times u example.first) (delivered_message w.journal k) w.first)) refl refl mail);
  inside = ((le _ _ refl, le _ _ refl), g.inside);
  one = (
    w.first,
    g.one,
    (
      next_turn program 2 0 (times u example.first) (delivered_message w.journal k) w.first,
      turn_is program 2 0 _ _ _ few hear can,
      record { picks = refl; sent = refl; lines = refl; idle = refl; ended = refl; waiting = refl; steps = refl },
      refl,
    ),
  );
  two = g.two;
  none = g.none;
  beyond = λ i. passes _ _ _ _ (off 1 (suc (suc (suc i))) (λ e. absurd (omega arith))) (g.beyond i);
}

second_goes : (w : Story) (k : Option ℕ) (u : ℕ) → length (times u example.second) ≤ 64 → IsMail w 2 k → CanHear program 2 (delivered_message w.journal k) w.second →
    can_all_go program 2 0 (times u example.second) (reception_of program 0 (delivered_message w.journal k) w.second).site ≡ true → Goes w → Goes (second_turn w k u)
second_goes w k u few mail hear can g = record {
  wired = (g.wired, mail_once w 2 k (example.entry 2 k (times u example.second) (next_turn program 2 0 (times u example.second) (delivered_message w.journal k) w.second)) refl refl mail);
  inside = ((le _ _ refl, le _ _ refl), g.inside);
  one = g.one;
  two = (
    w.second,
    g.two,
    (
      next_turn program 2 0 (times u example.second) (delivered_message w.journal k) w.second,
      turn_is program 2 0 _ _ _ few hear can,
      record { picks = refl; sent = refl; lines = refl; idle = refl; ended = refl; waiting = refl; steps = refl },
      refl,
    ),
  );
  none = g.none;
  beyond = λ i. passes _ _ _ _ (off 2 (suc (suc (suc i))) (λ e. absurd (omega arith))) (g.beyond i);
}

goes_0 : Goes first_story
goes_0 = record { wired = tt; inside = tt; one = refl; two = refl; none = refl; beyond = λ i. refl }

goes_1 : Goes example.turn_1
unfolding free
goes_1 = first_goes first_story None 8 (le _ _ refl) tt tt refl goes_0

goes_2 : Goes example.turn_2
unfolding free
goes_2 = second_goes example.turn_1 (Some 0) 2 (le _ _ refl) (_, (refl, refl), refl) hear_2 refl goes_1

goes_3 : Goes example.turn_3
unfolding free
goes_3 = first_goes example.turn_2 (Some 2) 0 (le _ _ refl) (_, (refl, refl), refl) hear_3 refl goes_2

goes_4 : Goes example.turn_4
unfolding free
goes_4 = second_goes example.turn_3 (Some 4) 1 (le _ _ refl) (_, (refl, refl), refl) hear_4 refl goes_3

goes_5 : Goes example.turn_5
unfolding free
goes_5 = first_goes example.turn_4 (Some 5) 0 (le _ _ refl) (_, (refl, refl), refl) hear_5 refl goes_4

goes_6 : Goes example.turn_6
unfolding free
goes_6 = second_goes example.turn_5 (Some 6) 1 (le _ _ refl) (_, (refl, refl), refl) hear_6 refl goes_5

goes_7 : Goes example.turn_7
unfolding free
goes_7 = first_goes example.turn_6 (Some 7) 0 (le _ _ refl) (_, (refl, refl), refl) hear_7 refl goes_6

goes_8 : Goes example.turn_8
unfolding free
goes_8 = first_goes example.turn_7 (Some 3) 0 (le _ _ refl) (_, (refl, refl), refl) hear_8 refl goes_7

goes_9 : Goes example.turn_9
unfolding free
goes_9 = second_goes example.turn_8 (Some 8) 4 (le _ _ refl) (_, (refl, refl), refl) hear_9 refl goes_8

goes_10 : Goes example.turn_10
unfolding free
goes_10 = first_goes example.turn_9 (Some 1) 0 (le _ _ refl) (_, (refl, refl), refl) hear_10 refl goes_9

goes_11 : Goes example.turn_11
unfolding free
goes_11 = first_goes example.turn_10 (Some 9) 2 (le _ _ refl) (_, (refl, refl), refl) hear_11 refl goes_10

goes_12 : Goes example.turn_12
unfolding free
goes_12 = second_goes example.turn_11 (Some 10) 2 (le _ _ refl) (_, (refl, refl), refl) hear_12 refl goes_11

goes_13 : Goes example.turn_13
unfolding free
goes_13 = second_goes example.turn_12 (Some 11) 0 (le _ _ refl) (_, (refl, refl), refl) hear_13 refl goes_12

goes_14 : Goes example.turn_14
unfolding free
goes_14 = first_goes example.turn_13 (Some 12) 2 (le _ _ refl) (_, (refl, refl), refl) hear_14 refl goes_13

quiet : is_quiet 2 example.turn_14.journal ≡ true
unfolding free
quiet = refl

pub token_returns : TokenReturns
token_returns = (record { wired = goes_14.wired; sites = goes_14.inside; runs = runs }, quiet)
  where
    runs : (i : ℕ) → SiteRun program 2 0 i example.turn_14.journal (sites_of example.turn_14 i)
    runs zero = goes_14.none
    runs (suc zero) = goes_14.one
    runs (suc (suc zero)) = goes_14.two
    runs (suc (suc (suc i))) = goes_14.beyond i

pub bundle_travels : BundleTravels
unfolding free shown_within digits reserved_words
bundle_travels = record { sent = refl; asked = refl; line = refl }
