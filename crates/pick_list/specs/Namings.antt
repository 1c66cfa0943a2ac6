-- The namings of picks, kept in less memory.
use Rattle.std.specs.Prelude.{◌<◌, List, ◌++◌, map, vec_len, vec_capacity}
use Rattle.pick_list.specs.declared.columns.Naming.{Naming}
use Rattle.pick_list.specs.declared.namings.ShortNaming.{ShortNaming}
use Rattle.pick_list.specs.declared.namings.NamingColumn.{NamingColumn}

-- a naming whose numbers have 32 bits
abbrev pub widened : ShortNaming → Naming
widened t = record { pick = t.pick; first = t.first }

-- the namings of a column, in order
abbrev pub namings_in : NamingColumn → List Naming
namings_in c = map widened c.short.items ++ c.long.items

-- there is room for one more, whatever its numbers
pub record HasRoom (c : NamingColumn) : Type 0 where
  pub short : vec_len c.short < vec_capacity c.short
  pub long : vec_len c.long < vec_capacity c.long
