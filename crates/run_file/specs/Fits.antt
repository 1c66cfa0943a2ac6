-- Which runs have a text: the ranges of their numbers, and lines without newlines.
use Rattle.std.specs.Prelude.{◌↔◌, ℕ, ◌≤◌, length, Option, Some, None}
use Rattle.tree_node.specs.declared.limits.TheConstants.{MOST_MESSAGES, MOST_SITES, MOST_STEPS, MOST_UNITS}
use Rattle.tree_node.specs.declared.names.ThreadName.{ThreadName}
use Rattle.tree_node.specs.Each.{Each}
use Rattle.run_file.specs.declared.entry.Entry.{Entry}
use Rattle.byte_fields.specs.Field.{IsWithin}
use Rattle.byte_fields.specs.Text.{IsLine}
use Rattle.run_file.specs.Saved.{SavedRun, greatest, most_bytes, saved_run}

-- a thread of one of the sites, with a number of 64 bits
abbrev pub IsThreadOf : ℕ → ThreadName → Type 0
IsThreadOf sites t = IsWithin 1 sites t.site × IsWithin 0 greatest t.num

-- a number of 64 bits, or none
abbrev pub IsNumber : Option ℕ → Type 0
IsNumber None = Unit {0}
IsNumber (Some n) = IsWithin 0 greatest n

-- an entry of one of the sites, with at most 64 units
pub record IsEntryOf (sites : ℕ) (e : Entry) : Type 0 where
  pub site : IsWithin 1 sites e.site
  pub delivered : IsNumber e.delivered
  pub few : length e.units ≤ MOST_UNITS
  pub units : Each (IsThreadOf sites) e.units
  pub lines : Each IsLine e.lines

-- the text has at most 1,048,576 bytes, the limits are in their ranges, and each entry is one of the sites
pub record MayBeSaved (r : SavedRun) : Type 0 where
  pub text : length r.text ≤ most_bytes
  pub sites : IsWithin 1 MOST_SITES r.sites
  pub steps : IsWithin 1 MOST_STEPS r.steps
  pub messages : IsWithin 0 MOST_MESSAGES r.messages
  pub entries : Each (IsEntryOf r.sites) r.entries
  pub end : IsLine r.end

-- these runs have a text, and no others
abbrev pub TheseAreSaved : Type 0
TheseAreSaved = (r : SavedRun) → MayBeSaved r ↔ saved_run.Has r
