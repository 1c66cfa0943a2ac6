-- A saved run, and its text: a line with the numbers, the program's text, the entries of the journal, and the end line.
use Rattle.std.specs.Prelude.{◌≡◌, ℕ, List, length, Option, Some, None, codes, Bool, true, false, nat_lt, decimal}
use Rattle.tree_node.specs.declared.limits.TheConstants.{MOST_MESSAGES, MOST_SITES, MOST_STEPS, MOST_UNITS}
use Rattle.tree_node.specs.declared.names.ThreadName.{ThreadName}
use Rattle.run_file.specs.declared.entry.Entry.{Entry}
use Rattle.byte_fields.specs.declared.fault.FileFault.{FileFault}
use Rattle.byte_fields.specs.declared.fault.FileFault.TheVariants.{Bad}
use Rattle.byte_fields.specs.Field.{Faults, Field, ◌then◌, part_field, IsSpelled, IsFirstFaultOf}
use Rattle.byte_fields.specs.Text.{◌after◌, number, line, bytes_of, BeginsWith, many}

-- the program's text, the limits, the entries in the order of the journal, and the end line
pub record SavedRun : Type 0 where
  pub text : List ℕ
  pub sites : ℕ
  pub steps : ℕ
  pub messages : ℕ
  pub entries : List Entry
  pub end : List ℕ

-- the greatest number of 64 bits
abbrev pub greatest : ℕ
greatest = 18446744073709551615

-- how many bytes a program's text may have at most
abbrev pub most_bytes : ℕ
most_bytes = 1048576

-- a thread of one of the sites: its site, a point and its number
abbrev pub thread : ℕ → Field FileFault ThreadName
thread sites = part_field (λ (t : ThreadName). (t.site, t.num)) (number 1 sites then λ site. codes "." after number 0 greatest)

-- a unit: a blank and its thread
abbrev pub unit : ℕ → Field FileFault ThreadName
unit sites = codes " " after thread sites

-- no unit, where there are so many
abbrev pub no_unit : ℕ → Field FileFault ThreadName
no_unit sites = record (unit sites) { Has = λ t. ⊥; Fault = λ at bytes f. f ≡ Bad at }

-- a unit where one more may stand
abbrev pub unit_where : ℕ → Bool → Field FileFault ThreadName
unit_where sites true = unit sites
unit_where sites false = no_unit sites

-- the unit behind these, of which there are 64 at most
abbrev pub unit_behind : ℕ → List ThreadName → Field FileFault ThreadName
unit_behind sites front = unit_where sites (nat_lt (length front) MOST_UNITS)

-- the units of a turn
abbrev pub units : ℕ → Field FileFault (List ThreadName)
units sites = many 32 (unit sites) (unit_behind sites)

-- the number of the message that was delivered, or - where there was none
abbrev pub delivered : Field FileFault (Option ℕ)
delivered = record { Has = delivered_has; spelling = delivered_spelling; Ends = delivered_ends; Fault = delivered_fault }
  where
    delivered_has : Option ℕ → Type 0
    delivered_has None = Unit {0}
    delivered_has (Some n) = (number 0 greatest).Has n

    delivered_spelling : Option ℕ → List ℕ
    delivered_spelling None = codes "-"
    delivered_spelling (Some n) = decimal n

    delivered_ends : Option ℕ → List ℕ → Type 0
    delivered_ends None rest = Unit {0}
    delivered_ends (Some n) rest = (number 0 greatest).Ends n rest

    delivered_fault : Faults FileFault
    delivered_fault at bytes f = (BeginsWith 45 bytes → ⊥) × (number 0 greatest).Fault at bytes f

-- a printed line
abbrev pub printed : Field FileFault (List ℕ)
printed = codes "line " after line

-- the lines of a turn
abbrev pub printed_lines : Field FileFault (List (List ℕ))
printed_lines = many 108 printed (λ front. printed)

-- an entry of the journal: its site, what it delivered, its units, and its lines
abbrev pub entry : ℕ → Field FileFault Entry
entry sites =
    part_field (λ (e : Entry). (e.site, (e.delivered, (e.units, e.lines))))
    (codes "turn " after (number 1 sites then λ site. codes " " after (delivered then λ number. units sites then λ threads. codes "\n" after printed_lines)))

-- the entries of the journal
abbrev pub entries : ℕ → Field FileFault (List Entry)
entries sites = many 116 (entry sites) (λ front. entry sites)

-- a text with its length in the line before it
abbrev pub counted_text : Field FileFault (List ℕ)
counted_text = part_field (λ (text : List ℕ). (length text, text)) (number 0 most_bytes then λ count. codes "\n" after bytes_of count)

-- the sites, the own steps of a site, the messages, and the text
abbrev pub header : Field FileFault (ℕ × (ℕ × (ℕ × List ℕ)))
header =
    codes "ozrun 1 " after (number 1 MOST_SITES then λ sites. codes " " after (number 1 MOST_STEPS then λ steps. codes " " after
    (number 0 MOST_MESSAGES then λ messages. codes " " after counted_text)))

-- the end line
abbrev pub end_line : Field FileFault (List ℕ)
end_line = codes "end " after line

-- what follows the header
abbrev pub turns : ℕ → Field FileFault (List Entry × List ℕ)
turns sites = codes "\n" after (entries sites then λ journal. end_line)

-- the whole
abbrev pub saved_run : Field FileFault SavedRun
saved_run =
    part_field (λ (r : SavedRun). ((r.sites, (r.steps, (r.messages, r.text))), (r.entries, r.end)))
    (header then λ h. turns h.0)

-- the bytes are the text of this saved run
abbrev pub Saved : SavedRun → List ℕ → Type 0
Saved r bytes = IsSpelled saved_run r bytes

-- the first fault of bytes that are the text of no saved run: that of a field, or else more bytes than a text's
abbrev pub IsFirstFault : List ℕ → FileFault → Type 0
IsFirstFault bytes f = IsFirstFaultOf saved_run Bad bytes f
