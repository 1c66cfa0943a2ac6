-- Journals of turns whose picks are not told, and the run of a log as it grows.
use Rattle.std.proofs.Common.{◌≡◌, ◌∙◌, ℕ, zero, suc, ◌+◌, List, [], ◌∷◌, ◌++◌, length, map, Bool, true, false, cond, eqb, Some, refl, sym, ap, append_assoc}
use Rattle.std.specs.Prelude.{not, ◌&&◌, ◌||◌, slice_get, nat_lt, nat_le}
use Rattle.std.specs.List.{filter, enumerate_from}
use Rattle.site_message.specs.declared.limits.Limits.{Limits}
use Rattle.site_message.specs.declared.message.Sent.{Sent}
use Rattle.site_message.specs.declared.turn.Turn.{Turn}
use Rattle.site_message.specs.Journal.{sent_of, is_number, was_delivered, travelling, is_idle, are_idle, is_empty, is_quiet, end_by, end_of}
use Rattle.site_message.proofs.JournalLemmas.{sent_later, sent_more}
use Rattle.log_runs.specs.Log.{told, LogEntry, counts, run_of}

-- ---- what is told of a journal

abbrev pub told_all : List Turn → List Turn
told_all j = map told j

pub sent_told : (j : List Turn) → sent_of (told_all j) ≡ sent_of j
sent_told [] = refl
sent_told (e ∷ j) = ap (λ (ms : List Sent). ms ++ e.sent) (sent_told j)

pub delivered_told : (j : List Turn) (k : ℕ) → was_delivered (told_all j) k ≡ was_delivered j k
delivered_told [] k = refl
delivered_told (e ∷ j) k = ap (λ (b : Bool). is_number e.delivered k || b) (delivered_told j k)

filter_same : {X : Type 0} (p q : X → Bool) → ((x : X) → p x ≡ q x) → (xs : List X) → filter p xs ≡ filter q xs
filter_same p q same [] = refl
filter_same p q same (x ∷ xs) =
    ap (λ (b : Bool). cond b (x ∷ filter p xs) (filter p xs)) (same x) ∙ ap (λ (ys : List _). cond (q x) (x ∷ ys) ys) (filter_same p q same xs)

travelling_told : (j : List Turn) → travelling (told_all j) ≡ travelling j
travelling_told j =
    filter_same (λ (x : ℕ × Sent). not (was_delivered (told_all j) x.0)) (λ (x : ℕ × Sent). not (was_delivered j x.0)) (λ x. ap not (delivered_told j x.0)) (enumerate_from 0 (sent_of (told_all j)))
    ∙ ap (λ (ms : List Sent). filter (λ (x : ℕ × Sent). not (was_delivered j x.0)) (enumerate_from 0 ms)) (sent_told j)

idle_told : (j : List Turn) (i : ℕ) → is_idle (told_all j) i ≡ is_idle j i
idle_told [] i = refl
idle_told (e ∷ j) i = ap (λ (b : Bool). cond (eqb e.site i) e.idle b) (idle_told j i)

all_idle_told : (n : ℕ) (j : List Turn) → are_idle n (told_all j) ≡ are_idle n j
all_idle_told zero j = refl
all_idle_told (suc n) j = ap (λ (b : Bool). b && are_idle n (told_all j)) (idle_told j (suc n)) ∙ ap (λ (b : Bool). is_idle j (suc n) && b) (all_idle_told n j)

quiet_told : (n : ℕ) (j : List Turn) → is_quiet n (told_all j) ≡ is_quiet n j
quiet_told n j =
    ap (λ (ms : List (ℕ × Sent)). is_empty ms && are_idle n (told_all j)) (travelling_told j) ∙ ap (λ (b : Bool). is_empty (travelling j) && b) (all_idle_told n j)

pub end_told : (l : Limits) (j : List Turn) → end_of l (told_all j) ≡ end_of l j
end_told l [] = refl
end_told l (e ∷ j) =
    ap (λ (ms : List Sent). end_by (nat_lt l.messages (length ms)) (nat_le l.steps e.steps && not e.idle) e.site (is_quiet l.sites (told_all (e ∷ j)))) (sent_told (e ∷ j))
    ∙ ap (λ (b : Bool). end_by (nat_lt l.messages (length (sent_of (e ∷ j)))) (nat_le l.steps e.steps && not e.idle) e.site b) (quiet_told l.sites (e ∷ j))

-- ---- the run of a log that grows

pub run_true : (l : Limits) (e : LogEntry) (es : List LogEntry) → counts l (run_of l es) e ≡ true → run_of l (e ∷ es) ≡ e.turn ∷ run_of l es
run_true l e es is = ap (λ (b : Bool). cond b (e.turn ∷ run_of l es) (run_of l es)) is

pub run_false : (l : Limits) (e : LogEntry) (es : List LogEntry) → counts l (run_of l es) e ≡ false → run_of l (e ∷ es) ≡ run_of l es
run_false l e es is = ap (λ (b : Bool). cond b (e.turn ∷ run_of l es) (run_of l es)) is

run_step : (l : Limits) (e : LogEntry) (es : List LogEntry) (b : Bool) → counts l (run_of l es) e ≡ b → (more : List Turn) × (run_of l (e ∷ es) ≡ more ++ run_of l es)
run_step l e es true is = (e.turn ∷ [], run_true l e es is)
run_step l e es false is = ([], run_false l e es is)

-- the run that a longer log tells goes on from that of a shorter one
run_later : (l : Limits) (later es : List LogEntry) → (more : List Turn) × (run_of l (later ++ es) ≡ more ++ run_of l es)
run_later l [] es = ([], refl)
run_later l (e ∷ later) es =
    let rest = run_later l later es in
    let first = run_step l e (later ++ es) (counts l (run_of l (later ++ es)) e) refl in
    (first.0 ++ rest.0, first.1 ∙ (ap (λ (j : List Turn). first.0 ++ j) rest.1 ∙ sym (append_assoc first.0 rest.0 (run_of l es))))

-- a message in a part of a log is in the log, with its number
pub same_in_log : (l : Limits) (es read later : List LogEntry) → es ≡ later ++ read → (k : ℕ) (m : Sent) → slice_get (sent_of (run_of l read)) k ≡ Some m → slice_get (sent_of (run_of l es)) k ≡ Some m
same_in_log l es read later is k m e =
    let t = run_later l later read in
    let s = sent_later t.0 (run_of l read) in
    ap (λ (z : List LogEntry). slice_get (sent_of (run_of l z)) k) is
    ∙ (ap (λ (j : List Turn). slice_get (sent_of j) k) t.1 ∙ (ap (λ (ms : List Sent). slice_get ms k) s.1 ∙ sent_more (sent_of (run_of l read)) s.0 k m e))
