use Rattle.std.proofs.Common.{◌≡◌, ◌≤◌, ◌+◌, [], length, take, drop}
use Rattle.surface_grammar.specs.Points.{most_formals}
use Rattle.surface_grammar.specs.Reading.{formals_at}
use Rattle.surface_reader.proofs.reader.Reader.formals.Given as goal

abbrev pub invariant-names : goal.invariant-names
invariant-names l = record {
  read : formals_at l.callable (drop l.outer l.self.scope) l.self.rest ≡ formals_at l.callable [] l.fn.self.rest;
  declared : take l.outer l.self.scope ≡ l.fn.self.scope;
  within : l.outer ≤ length l.self.scope;
  count : length l.self.scope ≤ l.outer + most_formals l.callable;
  shorter : length l.self.rest ≤ length l.fn.self.rest;
}

abbrev pub decreases-names : goal.decreases-names
decreases-names l = length l.self.rest
