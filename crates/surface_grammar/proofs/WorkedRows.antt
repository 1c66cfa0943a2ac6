-- The worked examples are computed.
use Rattle.std.proofs.Common.{refl}
use Rattle.oz_grammar.specs.Scoping.{built_in_at}
use Rattle.surface_grammar.specs.Rows.{FunNeedsBrace, BrowseNeedsValue, TryNeedsHandler, OperatorsNeedBrackets, TestsNeedBrackets, TestNeedsValue, IfNeedsElse, CallNeedsClose, CaseNeedsElse, FactorialPasses, ClausesPass, FinallyPasses, TestsPass, LabelsPass, IntegerIsValue, TwiceByPosition, TwiceByFeature, TwiceBeforeRefusal, UnboundPrimary, VariablesTakeNoLevel, PartsTakeLevel, TestsTakeLevel, DotsTakeLevels, ThreeLevels, TwoLevels, ListsTakeLevels, TailIsTooDeep}

pub fun_needs_brace : FunNeedsBrace
unfolding built_in_at
fun_needs_brace = refl

pub browse_needs_value : BrowseNeedsValue
unfolding built_in_at
browse_needs_value = refl

pub try_needs_handler : TryNeedsHandler
unfolding built_in_at
try_needs_handler = refl

pub operators_need_brackets : OperatorsNeedBrackets
unfolding built_in_at
operators_need_brackets = refl

pub tests_need_brackets : TestsNeedBrackets
unfolding built_in_at
tests_need_brackets = refl

pub test_needs_value : TestNeedsValue
unfolding built_in_at
test_needs_value = refl

pub if_needs_else : IfNeedsElse
unfolding built_in_at
if_needs_else = refl

pub call_needs_close : CallNeedsClose
unfolding built_in_at
call_needs_close = refl

pub case_needs_else : CaseNeedsElse
unfolding built_in_at
case_needs_else = refl

pub factorial_passes : FactorialPasses
unfolding built_in_at
factorial_passes = refl

pub clauses_pass : ClausesPass
unfolding built_in_at
clauses_pass = refl

pub finally_passes : FinallyPasses
unfolding built_in_at
finally_passes = refl

pub tests_pass : TestsPass
unfolding built_in_at
tests_pass = refl

pub labels_pass : LabelsPass
unfolding built_in_at
labels_pass = refl

pub integer_is_value : IntegerIsValue
unfolding built_in_at
integer_is_value = refl

pub twice_by_position : TwiceByPosition
unfolding built_in_at
twice_by_position = refl

pub twice_by_feature : TwiceByFeature
unfolding built_in_at
twice_by_feature = refl

pub twice_before_refusal : TwiceBeforeRefusal
unfolding built_in_at
twice_before_refusal = refl

pub unbound_primary : UnboundPrimary
unfolding built_in_at
unbound_primary = refl

pub variables_take_no_level : VariablesTakeNoLevel
unfolding built_in_at
variables_take_no_level = refl

pub parts_take_level : PartsTakeLevel
unfolding built_in_at
parts_take_level = refl

pub tests_take_level : TestsTakeLevel
unfolding built_in_at
tests_take_level = refl

pub dots_take_levels : DotsTakeLevels
unfolding built_in_at
dots_take_levels = refl

pub three_levels : ThreeLevels
unfolding built_in_at
three_levels = refl

pub two_levels : TwoLevels
unfolding built_in_at
two_levels = refl

pub lists_take_levels : ListsTakeLevels
unfolding built_in_at
lists_take_levels = refl

pub tail_is_too_deep : TailIsTooDeep
unfolding built_in_at
tail_is_too_deep = refl
