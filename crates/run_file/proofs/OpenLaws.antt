-- The bytes before the place of a first fault are the front of a text.
use Rattle.std.proofs.Common.{◌≡◌, ℕ, ◌+◌, ◌-◌, ◌≤◌, Bool, true, false, ltb, List, [], length, Option, Some, None, refl, sym, ap, arith, ◌⊎◌, inl, inr}
use Rattle.std.specs.Prelude.{codes}
use Rattle.std.proofs.lemmas.List.{append-nil}
use Rattle.tree_node.specs.declared.limits.TheConstants.{MOST_MESSAGES, MOST_SITES, MOST_STEPS, MOST_UNITS}
use Rattle.tree_node.specs.declared.names.ThreadName.{ThreadName}
use Rattle.run_file.specs.declared.entry.Entry.{Entry}
use Rattle.byte_fields.specs.declared.fault.FileFault.{FileFault}
use Rattle.byte_fields.specs.declared.fault.FileFault.TheVariants.{Bad}
use Rattle.byte_fields.specs.Field.{◌then◌}
use Rattle.byte_fields.specs.Text.{◌after◌, number, line}
use Rattle.run_file.specs.Saved.{SavedRun, greatest, most_bytes, thread, unit, unit_where, unit_behind, units, delivered, printed, printed_lines, entry, entries, counted_text, header, end_line, turns, saved_run}
use Rattle.run_file.specs.Laws.{SomeTextBegins}
use Rattle.run_file.proofs.RunLaws.{same_spelling}
use Rattle.byte_fields.proofs.StayLaws.{bad_is}
use Rattle.byte_fields.specs.Laws.{Begins, IsOpen, Opens}
use Rattle.byte_fields.proofs.OpenLaws.{begun, at_begin, after_open, then_open, made_open, number_open, line_open, bytes_open, many_open}

-- ---- the parts of a saved run

thread_open : (sites : ℕ) → 1 ≤ sites → IsOpen (thread sites)
thread_open sites some =
    made_open (λ (p : ℕ × ℕ). record { site = p.0; num = p.1 }) (λ (t : ThreadName). (t.site, t.num)) (number 1 sites then λ site. codes "." after number 0 greatest) (λ y h. refl)
    (then_open _ _ (number_open 1 sites some) (λ site h. after_open (codes ".") _ (number_open 0 greatest (omega arith))))

unit_open : (sites : ℕ) → 1 ≤ sites → IsOpen (unit sites)
unit_open sites some = after_open (codes " ") (thread sites) (thread_open sites some)

unit_where_opens : (sites : ℕ) → 1 ≤ sites → (b : Bool) (at : ℕ) (bytes : List ℕ) (f : FileFault) → (unit_where sites b).Fault at bytes f → Opens (unit_where sites b) at bytes f
unit_where_opens sites some true at bytes f h = (unit_open sites some).opens at bytes f h
unit_where_opens sites some false at bytes f h = at_begin (unit_where sites false) at bytes f h

units_open : (sites : ℕ) → 1 ≤ sites → IsOpen (units sites)
units_open sites some =
    many_open 32 (unit sites) (unit_behind sites)
    (record { spelling = λ front x. same_spelling sites (ltb (length front) MOST_UNITS) x; opens = λ front. unit_where_opens sites some (ltb (length front) MOST_UNITS) })

delivered_open : IsOpen delivered
delivered_open = record { value = None; has = tt; opens = opens }
  where
    some : (front : List ℕ) → (front ≡ []) ⊎ Begins (number 0 greatest) front → (front ≡ []) ⊎ Begins delivered front
    some front (inl h) = inl h
    some front (inr h) = inr (Some h.0, h.1, h.2, h.3)

    opens : (at : ℕ) (bytes : List ℕ) (f : FileFault) → delivered.Fault at bytes f → Opens delivered at bytes f
    opens at bytes f h =
        let t = (number_open 0 greatest (omega arith)).opens at bytes f h.1 in
        (t.0, t.1, t.2, t.3, some t.0 t.4)

lines_open : IsOpen printed_lines
lines_open = many_open 108 printed (λ front. printed) (record { spelling = λ front x. refl; opens = λ front. (after_open (codes "line ") line line_open).opens })

entry_open : (sites : ℕ) → 1 ≤ sites → IsOpen (entry sites)
entry_open sites some =
    made_open (λ (p : ℕ × (Option ℕ × (List ThreadName × List (List ℕ)))). record { site = p.0; delivered = p.1.0; units = p.1.1.0; lines = p.1.1.1 })
    (λ (e : Entry). (e.site, (e.delivered, (e.units, e.lines)))) _ (λ y h. refl)
    (after_open (codes "turn ") _ (then_open _ _ (number_open 1 sites some)
    (λ site h. after_open (codes " ") _ (then_open _ _ delivered_open (λ k h. then_open _ _ (units_open sites some) (λ threads h. after_open (codes "\n") _ lines_open))))))

entries_open : (sites : ℕ) → 1 ≤ sites → IsOpen (entries sites)
entries_open sites some = many_open 116 (entry sites) (λ front. entry sites) (record { spelling = λ front x. refl; opens = λ front. (entry_open sites some).opens })

counted_text_open : IsOpen counted_text
counted_text_open =
    made_open (λ (p : ℕ × List ℕ). p.1) (λ (text : List ℕ). (length text, text)) _ (λ y h. ap (λ (n : ℕ). (n, y.1)) h.1)
    (then_open _ _ (number_open 0 most_bytes (omega arith)) (λ count h. after_open (codes "\n") _ (bytes_open count)))

header_open : IsOpen header
header_open =
    after_open (codes "ozrun 1 ") _ (then_open _ _ (number_open 1 MOST_SITES (omega arith)) (λ sites h. after_open (codes " ") _
    (then_open _ _ (number_open 1 MOST_STEPS (omega arith)) (λ steps h. after_open (codes " ") _
    (then_open _ _ (number_open 0 MOST_MESSAGES (omega arith)) (λ messages h. after_open (codes " ") _ counted_text_open))))))

turns_open : (sites : ℕ) → 1 ≤ sites → IsOpen (turns sites)
turns_open sites some = after_open (codes "\n") _ (then_open (entries sites) (λ journal. end_line) (entries_open sites some) (λ journal h. after_open (codes "end ") line line_open))

run_open : IsOpen saved_run
run_open =
    made_open (λ (p : (ℕ × (ℕ × (ℕ × List ℕ))) × (List Entry × List ℕ)). record { sites = p.0.0; steps = p.0.1.0; messages = p.0.1.1.0; text = p.0.1.1.1; entries = p.1.0; end = p.1.1 })
    (λ (r : SavedRun). ((r.sites, (r.steps, (r.messages, r.text))), (r.entries, r.end))) _ (λ y h. refl)
    (then_open header (λ h. turns h.0) header_open (λ h has. turns_open h.0 has.0.0))

-- ---- all of the bytes

pub some_text_begins : SomeTextBegins
some_text_begins bytes at (inl h) =
    let t = run_open.opens 0 bytes (Bad at) h in
    let place = bad_is at (0 + length t.0) t.3 in
    (t.0, t.1, t.2, omega (arith, place), begun saved_run run_open t.0 t.4)
some_text_begins bytes at (inr h) =
    let text = saved_run.spelling h.0 in
    (text, h.1, h.3, sym (bad_is at (length text) h.5), (h.0, [], h.2, sym (append-nil text)))
