-- The worked examples of the other statements, computed.
use Rattle.std.proofs.Common.{◌≡◌, ◌≢◌, refl, List, [], ◌∷◌, Bool, true, false, ◌||◌, inl}
use Rattle.std.specs.Prelude.{codes}
use Rattle.std.specs.List.{list_any}
use Rattle.std.specs.Fmt.{digits}
use Rattle.tree_node.specs.declared.names.NameKind.{NameKind}
use Rattle.tree_node.specs.declared.names.Name.{Name}
use Rattle.tree_node.specs.Each.{Each, AreDistinct}
use Rattle.tree_node.specs.Names.{IsNew}
use Rattle.tree_node.specs.Shown.{shown_within}
use Rattle.tree_node.specs.State.{State}
use Rattle.tree_node.specs.Words.{reserved_words}
use Rattle.kernel_syntax.specs.Free.{free}
use Rattle.oz_model.specs.Occurs.{equal_name, occurs}
use Rattle.oz_model.specs.Step.{AreOfKinds, AreFresh}
use Rattle.oz_model.specs.Examples.{ProcedureIsCalled, FieldIsMatched, HandlerHasException, ContentIsExchanged, PairIsSent, ThreadIsMade, OverflowIsRaised, IntegerIsNoTruth, SameIsEqual, ComparisonIsAwaited}
use Rattle.oz_model.specs.Examples as examples
use Rattle.oz_model.specs.Rows.{RunsTo}
use Rattle.oz_model.proofs.OccursLemmas.{test_tells_new, name_decides}
use Rattle.oz_model.proofs.RowsRun.{ends, waits}
use Rattle.std.proofs.lemmas.Bool.{or_parts}

-- ---- fresh names by tests

differ : (x y : Name) → equal_name x y ≡ false → x ≢ y
differ x y e same = let yes : equal_name x y ≡ true = (name_decides x y).1 same in cc

all_differ : (x : Name) (names : List Name) → list_any (equal_name x) names ≡ false → Each (λ y. x ≢ y) names
all_differ x [] e = tt
all_differ x (y ∷ names) e = let parts = or_parts (equal_name x y) (list_any (equal_name x) names) e in (differ x y parts.0, all_differ x names parts.1)

-- two of these names are the same
abbrev repeats : List Name → Bool
repeats [] = false
repeats (x ∷ names) = list_any (equal_name x) names || repeats names

distinct : (names : List Name) → repeats names ≡ false → AreDistinct names
distinct [] e = tt
distinct (x ∷ names) e = let parts = or_parts (list_any (equal_name x) names) (repeats names) e in (all_differ x names parts.0, distinct names parts.1)

all_new : (s : State) (names : List Name) → list_any (occurs s) names ≡ false → Each (IsNew s) names
all_new s [] e = tt
all_new s (x ∷ names) e = let parts = or_parts (occurs s x) (list_any (occurs s) names) e in ((test_tells_new s x).0 parts.0, all_new s names parts.1)

fresh : (s : State) (kinds : List NameKind) (names : List Name) → AreOfKinds names kinds → repeats names ≡ false → list_any (occurs s) names ≡ false → AreFresh s kinds names
fresh s kinds names k d n = record { of_kinds = k; distinct = distinct names d; unused = all_new s names n }

-- ---- the examples

pub procedure_is_called : ProcedureIsCalled
unfolding free shown_within digits
procedure_is_called =
    ends examples.calls examples.call_picks _ 1 refl
    (fresh _ _ _ (tt, (tt, (tt, tt))) refl refl, (fresh _ _ _ (tt, tt) refl refl, (inl ((refl, refl), refl), (inl ((refl, refl), refl), (inl ((refl, refl), refl), tt))))) refl refl refl

pub field_is_matched : FieldIsMatched
unfolding free shown_within digits
field_is_matched =
    ends examples.matches examples.case_picks _ 1 refl
    (fresh _ _ _ (tt, (tt, tt)) refl refl, (inl ((refl, refl), refl), (inl ((refl, refl), refl), tt))) refl refl refl

pub handler_has_exception : HandlerHasException
unfolding free shown_within digits
handler_has_exception =
    ends examples.catches examples.catch_picks _ 1 refl
    (fresh _ _ _ (tt, tt) refl refl, (inl ((refl, refl), refl), tt)) refl refl refl

content_runs : RunsTo examples.exchanges_once examples.exchange_picks (codes "1" ∷ []) 1 0
unfolding free shown_within digits
content_runs =
    ends examples.exchanges_once examples.exchange_picks _ 1 refl
    (fresh _ _ _ (tt, (tt, (tt, (tt, tt)))) refl refl, (inl ((refl, refl), refl), (fresh _ _ _ (refl, tt) refl refl, (inl ((refl, refl), refl), (inl ((refl, refl), refl), tt))))) refl refl refl

pub content_is_exchanged : ContentIsExchanged
unfolding free shown_within
content_is_exchanged = record { runs = content_runs; given = refl; pairs = refl }

send_runs : RunsTo examples.sends_once examples.send_picks (codes "1" ∷ []) 1 0
unfolding free shown_within digits
send_runs =
    ends examples.sends_once examples.send_picks _ 1 refl
    (fresh _ _ _ (tt, (tt, (tt, tt))) refl refl, (inl ((refl, refl), refl), (fresh _ _ _ (tt, tt) refl refl, (inl ((refl, refl), refl), (fresh _ _ _ (tt, tt) refl refl, (inl ((refl, refl), refl), tt)))))) refl refl refl

pub pair_is_sent : PairIsSent
unfolding free shown_within
pair_is_sent = record { runs = send_runs; given = refl; ends = refl }

pub thread_is_made : ThreadIsMade
unfolding free shown_within digits
thread_is_made =
    ends examples.spawns examples.thread_picks _ 2 refl
    (fresh _ _ _ (tt, tt) refl refl, (fresh _ _ _ (tt, tt) refl refl, (inl ((refl, refl), refl), tt))) refl refl refl

pub overflow_is_raised : OverflowIsRaised
unfolding free shown_within reserved_words
overflow_is_raised =
    ends examples.adds examples.overflow_picks _ 1 refl
    (fresh _ _ _ (tt, (tt, (tt, tt))) refl refl, (inl ((refl, refl), refl), (inl ((refl, refl), refl), (fresh _ _ _ (tt, (tt, tt)) refl refl, tt)))) refl refl refl

pub integer_is_no_truth : IntegerIsNoTruth
unfolding free shown_within reserved_words
integer_is_no_truth =
    ends examples.tests_integer examples.integer_test_picks _ 1 refl
    (fresh _ _ _ (tt, tt) refl refl, (inl ((refl, refl), refl), (fresh _ _ _ (tt, (tt, tt)) refl refl, tt))) refl refl refl

pub same_is_equal : SameIsEqual
unfolding free shown_within reserved_words
same_is_equal =
    ends examples.compares examples.equal_picks _ 1 refl
    (fresh _ _ _ (tt, (tt, tt)) refl refl, (inl ((refl, refl), refl), tt)) refl refl refl

pub comparison_is_awaited : ComparisonIsAwaited
unfolding free shown_within
comparison_is_awaited = waits examples.compares_unbound examples.open_picks _ 0 _ refl (fresh _ _ _ (tt, (tt, (tt, tt))) refl refl, tt) refl tt refl refl
