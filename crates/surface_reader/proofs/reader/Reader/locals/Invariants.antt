use Rattle.std.proofs.Common.{◌≡◌, ◌≤◌, length, take, drop}
use Rattle.oz_grammar.specs.Reading.{locals_at}
use Rattle.surface_reader.proofs.reader.Reader.locals.Given as goal

abbrev pub invariant-names : goal.invariant-names
invariant-names l = record {
  read : locals_at (drop l.outer l.self.scope) l.self.rest ≡ locals_at (drop l.outer l.fn.self.scope) l.fn.self.rest;
  declared : take l.outer l.self.scope ≡ take l.outer l.fn.self.scope;
  within : l.outer ≤ length l.self.scope;
  shorter : length l.self.rest ≤ length l.fn.self.rest;
}

abbrev pub decreases-names : goal.decreases-names
decreases-names l = length l.self.rest
