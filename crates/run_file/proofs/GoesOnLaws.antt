-- No text of a saved run goes on with what stands at the place of the first fault.
use Rattle.std.proofs.Common.{◌≡◌, ℕ, ◌+◌, ◌<◌, Bool, true, false, ltb, List, [], ◌∷◌, ◌++◌, length, take, drop, Option, Some, None, refl, sym, ap, subst, ◌∙◌, append_assoc, arith, inl, inr}
use Rattle.std.specs.Prelude.{codes}
use Rattle.std.proofs.lemmas.List.{length-append, length-take, take-append-drop}
use Rattle.tree_node.specs.declared.limits.TheConstants.{MOST_MESSAGES, MOST_SITES, MOST_STEPS, MOST_UNITS}
use Rattle.tree_node.specs.declared.names.ThreadName.{ThreadName}
use Rattle.run_file.specs.declared.entry.Entry.{Entry}
use Rattle.byte_fields.specs.declared.fault.FileFault.{FileFault}
use Rattle.byte_fields.specs.declared.fault.FileFault.TheVariants.{Bad}
use Rattle.byte_fields.specs.Text.{◌after◌, number, line, BeginsWith}
use Rattle.byte_fields.specs.Field.{◌then◌}
use Rattle.run_file.specs.Saved.{SavedRun, greatest, most_bytes, thread, unit, no_unit, unit_where, unit_behind, units, delivered, printed, printed_lines, entry, entries, counted_text, header, end_line, turns, saved_run, IsFirstFault}
use Rattle.byte_fields.specs.Laws.{IsWrongPart, IsSteady, Stays}
use Rattle.run_file.specs.Laws.{BeginsNoText, NoTextGoesOn}
use Rattle.byte_fields.proofs.StayLaws.{bad_is, regrouped, begins_same, stops_same, some_front, after_steady, then_steady, part_steady, line_steady, bytes_steady, number_steady, many_steady}
use Rattle.run_file.proofs.WholeLaws.{not_both}

-- ---- threads and units

thread_steady : (sites : ℕ) → IsSteady (thread sites)
thread_steady sites =
    part_steady (λ (t : ThreadName). (t.site, t.num)) (number 1 sites then λ site. codes "." after number 0 greatest)
    (then_steady (number 1 sites) (λ site. codes "." after number 0 greatest) (number_steady 1 sites (omega arith)) (λ site. after_steady (codes ".") (number 0 greatest) (number_steady 0 greatest (omega arith))))

unit_steady : (sites : ℕ) → IsSteady (unit sites)
unit_steady sites = after_steady (codes " ") (thread sites) (thread_steady sites)

no_unit_stays : (sites at : ℕ) (front tail : List ℕ) (f : FileFault) → f ≡ Bad at → f ≡ Bad (at + length front) → 0 < length tail → Stays (no_unit sites) at front tail f
no_unit_stays sites at [] [] f h e some = absurd (omega (arith, some))
no_unit_stays sites at [] (b ∷ tail) f h e some = (b ∷ [], tail, refl, omega arith, inl refl, λ other. h)
no_unit_stays sites at (y ∷ ys) tail f h e some = let same = bad_is at (at + length (y ∷ ys)) (sym h ∙ e) in absurd (omega (arith, same))

unit_where_steady : (sites : ℕ) (b : Bool) → IsSteady (unit_where sites b)
unit_where_steady sites true = unit_steady sites
unit_where_steady sites false = record {
  low = λ at bytes f k h e. (let same = bad_is at k (sym h ∙ e) in omega (arith, same));
  ends = (unit_steady sites).ends;
  stays = λ at bytes front tail f h e parts some. no_unit_stays sites at front tail f h e some;
}

units_steady : (sites : ℕ) → IsSteady (units sites)
units_steady sites = many_steady 32 (unit sites) (unit_behind sites) (unit_steady sites) (λ front. unit_where_steady sites (ltb (length front) MOST_UNITS))

-- ---- the number of a message, or none

some_steady : IsSteady (number 0 greatest)
some_steady = number_steady 0 greatest (omega arith)

delivered_steady : IsSteady delivered
delivered_steady = record { low = λ at bytes f k h e. some_steady.low at bytes f k h.1 e; ends = ends; stays = stays }
  where
    ends : (x : Option ℕ) (c u v : List ℕ) → 0 < length c → delivered.Ends x (c ++ u) → delivered.Ends x (c ++ v)
    ends None c u v some h = tt
    ends (Some n) c u v some h = stops_same c u v some h

    stays : (at : ℕ) (bytes front tail : List ℕ) (f : FileFault) → delivered.Fault at bytes f → f ≡ Bad (at + length front) → bytes ≡ front ++ tail → 0 < length tail → Stays delivered at front tail f
    stays at bytes front tail f h e parts some =
        let q = some_steady.stays at bytes front tail f h.1 e parts some in
        let whole = regrouped bytes front tail q.0 q.1 parts q.2 in
        let no_dash : (other : List ℕ) → BeginsWith 45 (front ++ (q.0 ++ other)) → ⊥ =
        λ other k. h.0 (subst (λ (z : List ℕ). BeginsWith 45 z) (sym whole)
        (begins_same 45 (front ++ q.0) other q.1 (some_front front q.0 q.3) (subst (λ (z : List ℕ). BeginsWith 45 z) (sym (append_assoc front q.0 other)) k))) in
        (q.0, q.1, q.2, q.3, q.4, λ other. (no_dash other, q.5 other))

-- ---- entries

printed_steady : IsSteady printed
printed_steady = after_steady (codes "line ") line line_steady

lines_steady : IsSteady printed_lines
lines_steady = many_steady 108 printed (λ front. printed) printed_steady (λ front. printed_steady)

entry_steady : (sites : ℕ) → IsSteady (entry sites)
entry_steady sites =
    part_steady (λ (e : Entry). (e.site, (e.delivered, (e.units, e.lines)))) _
    (after_steady (codes "turn ") _ (then_steady _ _ (number_steady 1 sites (omega arith))
    (λ site. after_steady (codes " ") _ (then_steady _ _ delivered_steady (λ k. then_steady _ _ (units_steady sites) (λ threads. after_steady (codes "\n") _ lines_steady))))))

entries_steady : (sites : ℕ) → IsSteady (entries sites)
entries_steady sites = many_steady 116 (entry sites) (λ front. entry sites) (entry_steady sites) (λ front. entry_steady sites)

-- ---- the whole

counted_text_steady : IsSteady counted_text
counted_text_steady =
    part_steady (λ (text : List ℕ). (length text, text)) _
    (then_steady _ _ (number_steady 0 most_bytes (omega arith)) (λ count. after_steady (codes "\n") _ (bytes_steady count)))

header_steady : IsSteady header
header_steady =
    after_steady (codes "ozrun 1 ") _ (then_steady _ _ (number_steady 1 MOST_SITES (omega arith)) (λ sites. after_steady (codes " ") _
    (then_steady _ _ (number_steady 1 MOST_STEPS (omega arith)) (λ steps. after_steady (codes " ") _
    (then_steady _ _ (number_steady 0 MOST_MESSAGES (omega arith)) (λ messages. after_steady (codes " ") _ counted_text_steady))))))

turns_steady : (sites : ℕ) → IsSteady (turns sites)
turns_steady sites = after_steady (codes "\n") _ (then_steady (entries sites) (λ journal. end_line) (entries_steady sites) (λ journal. after_steady (codes "end ") line line_steady))

run_steady : IsSteady saved_run
run_steady =
    part_steady (λ (r : SavedRun). ((r.sites, (r.steps, (r.messages, r.text))), (r.entries, r.end))) _
    (then_steady header (λ h. turns h.0) header_steady (λ h. turns_steady h.0))

-- ---- all of the bytes

-- where the fault comes whatever stands behind, no text begins so
no_text : (front : List ℕ) (f : FileFault) → ((other : List ℕ) → IsFirstFault (front ++ other) f) → BeginsNoText front
no_text front f h r rest has same = not_both (front ++ rest) r f (has, sym same) (h rest)

-- bytes behind a whole text
behind_text : (r : SavedRun) (rest : List ℕ) → saved_run.Has r → 0 < length rest
    → (part : List ℕ) × (more : List ℕ) × (rest ≡ part ++ more) × IsWrongPart part more × BeginsNoText (saved_run.spelling r ++ part)
behind_text r [] has some = absurd (omega (arith, some))
behind_text r (b ∷ rest) has some =
    let text = saved_run.spelling r in
    (b ∷ [], rest, refl, inl refl, no_text (text ++ b ∷ []) (Bad (length text)) (λ other. inr (r, b ∷ other, has, append_assoc text (b ∷ []) other, λ k. omega (arith, k), refl)))

pub no_text_goes_on : NoTextGoesOn
no_text_goes_on bytes at (inl h) low =
    let front = take at bytes in
    let tail = drop at bytes in
    let parts = sym (take-append-drop at bytes) in
    let len : length front ≡ at = omega (arith, length-take at bytes, low) in
    let some : 0 < length tail = omega (arith, len, low, ap (λ (z : List ℕ). length z) parts, length-append front tail) in
    let place : at ≡ 0 + length front = omega (arith, len) in
    let q = run_steady.stays 0 bytes front tail (Bad at) h (ap (λ (n : ℕ). Bad n) place) parts some in (
      front,
      q.0,
      q.1,
      parts ∙ ap (λ (z : List ℕ). front ++ z) q.2,
      len,
      q.4,
      no_text (front ++ q.0) (Bad at) (λ other. inl (subst (λ (z : List ℕ). saved_run.Fault 0 z (Bad at)) (sym (append_assoc front q.0 other)) (q.5 other))),
    )
no_text_goes_on bytes at (inr h) low =
    let text = saved_run.spelling h.0 in
    let same = bad_is at (length text) h.5 in
    let q = behind_text h.0 h.1 h.2 (omega (arith, low, same, ap (λ (z : List ℕ). length z) h.3, length-append text h.1)) in
    (text, q.0, q.1, h.3 ∙ ap (λ (z : List ℕ). text ++ z) q.2, sym same, q.3, q.4)
