use Rattle.std.proofs.Common.{◌≡◌, ◌+◌, ◌*◌, ◌≤◌, [], length}
use Rattle.kernel_syntax.specs.Sugar.{no_values, no_clauses, no_statements, statement_and, no_cases}
use Rattle.kernel_syntax.specs.SugarView.{values_in, value_clauses_in, statement_of, statements_in, clauses_in}
use Rattle.surface_grammar.specs.Reading.{wanted_at, arguments_at, fields_at, others_at, value_clauses_at, clauses_at}
use Rattle.surface_reader.specs.Levels.{read_value, read_statement}
use Rattle.surface_parts.specs.Slots.{so_far}
use Rattle.surface_reader.proofs.reader.Reader.+reader.Given as goal

abbrev pub decreases-primary : goal.decreases-primary
decreases-primary l = 32 * l.depth

abbrev pub decreases-part : goal.decreases-part
decreases-part l = 32 * l.depth + 1

abbrev pub decreases-behind_head : goal.decreases-behind_head
decreases-behind_head l = 32 * l.depth + 1

abbrev pub decreases-second : goal.decreases-second
decreases-second l = 32 * l.depth + 1

abbrev pub decreases-operand : goal.decreases-operand
decreases-operand l = 32 * l.depth + 2

abbrev pub decreases-tail : goal.decreases-tail
decreases-tail l = 32 * l.depth + 2

abbrev pub decreases-behind_part : goal.decreases-behind_part
decreases-behind_part l = 32 * l.depth + 2

abbrev pub decreases-value : goal.decreases-value
decreases-value l = 32 * l.depth + 3

abbrev pub decreases-tell : goal.decreases-tell
decreases-tell l = 32 * l.depth + 4

abbrev pub decreases-raise : goal.decreases-raise
decreases-raise l = 32 * l.depth + 4

abbrev pub decreases-arguments : goal.decreases-arguments
decreases-arguments l = 32 * l.depth + 4

abbrev pub decreases-wanted : goal.decreases-wanted
decreases-wanted l = 32 * l.depth + 4

abbrev pub decreases-procedure_call : goal.decreases-procedure_call
decreases-procedure_call l = 32 * l.depth + 5

abbrev pub decreases-call : goal.decreases-call
decreases-call l = 32 * l.depth + 6

abbrev pub decreases-call_value : goal.decreases-call_value
decreases-call_value l = 32 * l.depth + 7

abbrev pub decreases-call_statement : goal.decreases-call_statement
decreases-call_statement l = 32 * l.depth + 7

abbrev pub decreases-kind : goal.decreases-kind
decreases-kind l = 32 * l.inner + 40

abbrev pub decreases-if_statement : goal.decreases-if_statement
decreases-if_statement l = 32 * l.inner + 36

abbrev pub decreases-case_statement : goal.decreases-case_statement
decreases-case_statement l = 32 * l.inner + 36

abbrev pub decreases-statement : goal.decreases-statement
decreases-statement l = 32 * l.depth + 9

abbrev pub decreases-others : goal.decreases-others
decreases-others l = 32 * l.depth + 10

abbrev pub decreases-sequence : goal.decreases-sequence
decreases-sequence l = 32 * l.depth + 11

abbrev pub decreases-closed : goal.decreases-closed
decreases-closed l = 32 * l.depth + 12

abbrev pub decreases-body : goal.decreases-body
decreases-body l = 32 * l.depth + 13

abbrev pub decreases-callable_body : goal.decreases-callable_body
decreases-callable_body l = 32 * l.depth + 14

abbrev pub decreases-callable : goal.decreases-callable
decreases-callable l = 32 * l.depth + 15

abbrev pub decreases-callable_value : goal.decreases-callable_value
decreases-callable_value l = 32 * l.depth + 16

abbrev pub decreases-callable_statement : goal.decreases-callable_statement
decreases-callable_statement l = 32 * l.depth + 16

abbrev pub decreases-local : goal.decreases-local
decreases-local l = 32 * l.depth + 14

abbrev pub decreases-thread : goal.decreases-thread
decreases-thread l = 32 * l.depth + 14

abbrev pub decreases-handler : goal.decreases-handler
decreases-handler l = 32 * l.depth + 12

abbrev pub decreases-behind_handler : goal.decreases-behind_handler
decreases-behind_handler l = 32 * l.depth + 14

abbrev pub decreases-try_statement : goal.decreases-try_statement
decreases-try_statement l = 32 * l.depth + 15

abbrev pub decreases-block : goal.decreases-block
decreases-block l = 32 * l.inner + 17

abbrev pub decreases-clause : goal.decreases-clause
decreases-clause l = 32 * l.depth + 12

abbrev pub decreases-clauses : goal.decreases-clauses
decreases-clauses l = 32 * l.depth + 13

abbrev pub decreases-named : goal.decreases-named
decreases-named l = 32 * l.depth + 4

abbrev pub decreases-placed : goal.decreases-placed
decreases-placed l = 32 * l.depth + 4

abbrev pub decreases-field : goal.decreases-field
decreases-field l = 32 * l.depth + 5

abbrev pub decreases-fields : goal.decreases-fields
decreases-fields l = 32 * l.depth + 6

abbrev pub decreases-atom : goal.decreases-atom
decreases-atom l = 32 * l.depth + 7

abbrev pub decreases-brackets : goal.decreases-brackets
decreases-brackets l = 32 * l.depth + 4

abbrev pub decreases-compound : goal.decreases-compound
decreases-compound l = 32 * l.depth + 17

abbrev pub decreases-value_clause : goal.decreases-value_clause
decreases-value_clause l = 32 * l.depth + 4

abbrev pub decreases-value_clauses : goal.decreases-value_clauses
decreases-value_clauses l = 32 * l.depth + 5

abbrev pub decreases-if_value : goal.decreases-if_value
decreases-if_value l = 32 * l.depth + 6

abbrev pub decreases-case_value : goal.decreases-case_value
decreases-case_value l = 32 * l.depth + 6

abbrev pub invariant-fields-loop-self : goal.invariant-fields-loop-self
invariant-fields-loop-self l = record {
  read : fields_at (read_value l.depth) l.self.scope l.room (so_far l.fields.slots.items l.fields.values.items l.fields.next) l.self.rest ≡ fields_at (read_value l.depth) l.fn.self.scope 64 ([], no_values, 1) l.fn.self.rest;
  scope : l.self.scope ≡ l.fn.self.scope;
  shorter : length l.self.rest ≤ length l.fn.self.rest;
  few : l.fields.next + l.room ≤ 65;
}

abbrev pub invariant-wanted-loop-missing : goal.invariant-wanted-loop-missing
invariant-wanted-loop-missing l = record {
  read : wanted_at (read_value l.depth) l.self.scope l.missing (values_in l.arguments.items) l.self.rest ≡ wanted_at (read_value l.depth) l.fn.self.scope l.count no_values l.fn.self.rest;
  scope : l.self.scope ≡ l.fn.self.scope;
  shorter : length l.self.rest ≤ length l.fn.self.rest;
}

abbrev pub invariant-arguments-loop-self : goal.invariant-arguments-loop-self
invariant-arguments-loop-self l = record {
  read : arguments_at (read_value l.depth) l.self.scope l.room (values_in l.arguments.items) l.self.rest ≡ arguments_at (read_value l.depth) l.fn.self.scope l.most no_values l.fn.self.rest;
  scope : l.self.scope ≡ l.fn.self.scope;
  shorter : length l.self.rest ≤ length l.fn.self.rest;
}

abbrev pub invariant-others-loop-room : goal.invariant-others-loop-room
invariant-others-loop-room l = record {
  read : others_at (read_statement l.depth) l.closer l.self.scope l.room (statements_in l.statements.items) l.self.rest ≡ others_at (read_statement l.depth) l.closer l.fn.self.scope (length l.fn.self.rest + 1) (statement_and (statement_of l.fn.first) no_statements) l.fn.self.rest;
  scope : l.self.scope ≡ l.fn.self.scope;
  shorter : length l.self.rest ≤ length l.fn.self.rest;
}

abbrev pub invariant-value_clauses-loop-room : goal.invariant-value_clauses-loop-room
invariant-value_clauses-loop-room l = record {
  read : value_clauses_at (read_value l.depth) l.self.scope l.room (value_clauses_in l.clauses.items) l.self.rest ≡ value_clauses_at (read_value l.depth) l.fn.self.scope (length l.fn.self.rest + 1) no_clauses l.fn.self.rest;
  scope : l.self.scope ≡ l.fn.self.scope;
  shorter : length l.self.rest ≤ length l.fn.self.rest;
}

abbrev pub invariant-clauses-loop-room : goal.invariant-clauses-loop-room
invariant-clauses-loop-room l = record {
  read : clauses_at (read_statement l.depth) l.self.scope l.room (clauses_in l.clauses.items) l.self.rest ≡ clauses_at (read_statement l.depth) l.fn.self.scope (length l.fn.self.rest + 1) no_cases l.fn.self.rest;
  scope : l.self.scope ≡ l.fn.self.scope;
  shorter : length l.self.rest ≤ length l.fn.self.rest;
}

abbrev pub decreases-others-loop-room : goal.decreases-others-loop-room
decreases-others-loop-room l = l.room

abbrev pub decreases-value_clauses-loop-room : goal.decreases-value_clauses-loop-room
decreases-value_clauses-loop-room l = l.room

abbrev pub decreases-clauses-loop-room : goal.decreases-clauses-loop-room
decreases-clauses-loop-room l = l.room

abbrev pub decreases-fields-loop-self : goal.decreases-fields-loop-self
decreases-fields-loop-self l = l.room

abbrev pub decreases-wanted-loop-missing : goal.decreases-wanted-loop-missing
decreases-wanted-loop-missing l = l.missing

abbrev pub decreases-arguments-loop-self : goal.decreases-arguments-loop-self
decreases-arguments-loop-self l = l.room
