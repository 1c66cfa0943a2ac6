-- The worked examples are computed.
use Rattle.std.proofs.Common.{refl}
use Rattle.sugar_rows.specs.Rows.{PartsAreNamed, TestsAreNamed, VariablesStay, BracketsAreNamed, FieldsAreNamed, ResultIsFormal, BranchesTell, ClausesNest, FinallyRuns}

pub parts_are_named : PartsAreNamed
parts_are_named = refl

pub tests_are_named : TestsAreNamed
tests_are_named = refl

pub variables_stay : VariablesStay
variables_stay = refl

pub brackets_are_named : BracketsAreNamed
brackets_are_named = refl

pub fields_are_named : FieldsAreNamed
fields_are_named = refl

pub result_is_formal : ResultIsFormal
result_is_formal = refl

pub branches_tell : BranchesTell
branches_tell = refl

pub clauses_nest : ClausesNest
clauses_nest = refl

pub finally_runs : FinallyRuns
finally_runs = refl
