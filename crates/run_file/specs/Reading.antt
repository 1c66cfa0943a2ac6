-- Reading from left to right, as functions on lists: what the reader's parts give, for the proof that they give what the format
-- says.
use Rattle.std.specs.Prelude.{ℕ, ◌+◌, List, length, drop, Option, Some, None, Ok, Err, nat_lt, ◌==◌, if◌then◌else◌, codes}
use Rattle.tree_node.specs.declared.limits.TheConstants.{MOST_MESSAGES, MOST_SITES, MOST_STEPS, MOST_UNITS}
use Rattle.tree_node.specs.declared.names.ThreadName.{ThreadName}
use Rattle.byte_fields.specs.declared.fault.FileFault.{FileFault}
use Rattle.byte_fields.specs.declared.fault.FileFault.TheVariants.{Bad}
use Rattle.byte_fields.specs.Reading.{Left, Read, ◌>>=◌, ◌and◌, map_at, bytes_at}
use Rattle.byte_fields.specs.TextReading.{◌behind◌, number_at, line_at, begins_with, many_at}
use Rattle.run_file.specs.declared.entry.Entry.{Entry}
use Rattle.run_file.specs.Saved.{SavedRun, greatest, most_bytes}

-- a thread
unfoldable pub thread_at : ℕ → Left → Read FileFault ThreadName
thread_at sites = map_at (λ p. record { site = p.0; num = p.1 }) (number_at 1 sites and λ site. codes "." behind number_at 0 greatest)

-- a unit, behind these; then the units of a turn
unfoldable pub unit_at : ℕ → List ThreadName → Left → Read FileFault ThreadName
unit_at sites front l = if nat_lt (length front) MOST_UNITS then (codes " " behind thread_at sites) l else Err (Bad l.0)

unfoldable pub units_at : ℕ → Left → Read FileFault (List ThreadName)
units_at sites = many_at 32 (unit_at sites)

-- the number of a message, or -
unfoldable pub delivered_at : Left → Read FileFault (Option ℕ)
delivered_at l = if begins_with 45 l.1 then Ok (None, (l.0 + 1, drop 1 l.1)) else map_at Some (number_at 0 greatest) l

-- a line; then the lines of a turn
unfoldable pub printed_at : Left → Read FileFault (List ℕ)
printed_at = codes "line " behind line_at

unfoldable pub lines_at : Left → Read FileFault (List (List ℕ))
lines_at = many_at 108 (λ front. printed_at)

-- an entry; then the entries
unfoldable pub entry_at : ℕ → Left → Read FileFault Entry
entry_at sites =
    map_at (λ p. record { site = p.0; delivered = p.1.0; units = p.1.1.0; lines = p.1.1.1 })
    (codes "turn " behind (number_at 1 sites and λ site. codes " " behind (delivered_at and λ number. units_at sites and λ threads. codes "\n" behind lines_at)))

unfoldable pub entries_at : ℕ → Left → Read FileFault (List Entry)
entries_at sites = many_at 116 (λ front. entry_at sites)

-- a text with its length before it
unfoldable pub counted_text_at : Left → Read FileFault (List ℕ)
counted_text_at = map_at (λ p. p.1) (number_at 0 most_bytes and λ count. codes "\n" behind bytes_at Bad count)

-- the first line and the text
unfoldable pub header_at : Left → Read FileFault (ℕ × (ℕ × (ℕ × List ℕ)))
header_at =
    codes "ozrun 1 " behind (number_at 1 MOST_SITES and λ sites. codes " " behind (number_at 1 MOST_STEPS and λ steps. codes " " behind
    (number_at 0 MOST_MESSAGES and λ messages. codes " " behind counted_text_at)))

-- the end line
unfoldable pub end_at : Left → Read FileFault (List ℕ)
end_at = codes "end " behind line_at

-- what follows the header
unfoldable pub turns_at : ℕ → Left → Read FileFault (List Entry × List ℕ)
turns_at sites = codes "\n" behind (entries_at sites and λ journal. end_at)

-- a saved run, behind which bytes may stand
unfoldable pub run_at : Left → Read FileFault SavedRun
run_at =
    map_at (λ p. record { sites = p.0.0; steps = p.0.1.0; messages = p.0.1.1.0; text = p.0.1.1.1; entries = p.1.0; end = p.1.1 })
    (header_at and λ h. turns_at h.0)
