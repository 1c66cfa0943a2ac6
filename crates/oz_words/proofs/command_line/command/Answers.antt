use Rattle.std.proofs.Common.{◌≡◌, ◌∙◌, ap, ap₂, rules, false, codes, List, Result, Ok, Err, IfOk}
use Rattle.std.specs.Borrow.{Bor}
use Rattle.std.specs.declared.alloc.AllocError.{AllocError}
use Rattle.clap.specs.Words.{AddsArg, App, Rule, Text, app_of, rule_of, with_rule}
use Rattle.clap.specs.declared.builder.Arg.{Arg}
use Rattle.clap.specs.declared.builder.Command.{Command}
use Rattle.clap.specs.declared.builder.ValueParser.{ValueParser}
use Rattle.oz_words.specs.Command.{AreActions, bare_app, NumberOption, number_rule, numbers_of, option_rule, oz_app, seed_rule, seeds, bare_option_rule, size_rule, sizes, sites_option, workers_option, steps_option, messages_option}
use Rattle.oz_words.specs.Matches.{TakesWordsOfOz}
use Rattle.oz_words.proofs.PlaceLemmas.{takes_words_of_oz}
use Rattle.oz_words.proofs.command_line.command.Goals as goal

takes_words : (r : Result Command AllocError) (names : Bor (List (Bor Text))) → AreActions names.now
    → IfOk r (λ c. app_of c ≡ oz_app names) → IfOk r (λ c. TakesWordsOfOz (app_of c))
takes_words (Ok c) names are is = takes_words_of_oz (app_of c) names are is
takes_words (Err e) names are is = tt

-- the rule of an option that takes the option's numbers
with_numbers : (a : Arg) (o : NumberOption) (parser : ValueParser)
    → rule_of a ≡ option_rule o.name parser o.default → parser ≡ numbers_of o → rule_of a ≡ number_rule o
with_numbers a o parser rule takes = rule ∙ ap (λ p. option_rule o.name p o.default) takes

-- one more argument
added : (old new : Command) (a : Arg) (app : App) (r : Rule)
    → AddsArg old a new → a.global ≡ false → rule_of a ≡ r → app_of old ≡ app → app_of new ≡ with_rule app r
added old new a app r adds local rule is = adds.shape local ∙ ap₂ with_rule is rule

last_added : (old : Command) (made : Result Command AllocError) (a : Arg) (app : App) (r : Rule)
    → IfOk made (λ new. AddsArg old a new) → a.global ≡ false → rule_of a ≡ r → app_of old ≡ app
    → IfOk made (λ new. app_of new ≡ with_rule app r)
last_added old (Ok new) a app r adds local rule is = added old new a app r adds local rule is
last_added old (Err e) a app r adds local rule is = tt

-- the rule of the seed, which takes all numbers
with_seeds : (a : Arg) (parser : ValueParser) → rule_of a ≡ bare_option_rule (codes "seed") parser → parser ≡ seeds → rule_of a ≡ seed_rule
with_seeds a parser rule takes = rule ∙ ap (bare_option_rule (codes "seed")) takes

-- the rule of the number, which takes the sizes
with_sizes : (a : Arg) (parser : ValueParser) → rule_of a ≡ size_rule parser → parser ≡ sizes → rule_of a ≡ size_rule sizes
with_sizes a parser rule takes = rule ∙ ap size_rule takes

is_command : (c : goal.After-arg-7) → IfOk c.arg-7.result (λ made. app_of made ≡ oz_app c.action_names-names.result)
is_command c =
    let sites = with_numbers c.option_of.result sites_option c.numbers.result c.option_of.ensures.rule c.numbers.ensures in
    let workers = with_numbers c.option_of-2.result workers_option c.numbers-2.result c.option_of-2.ensures.rule c.numbers-2.ensures in
    let steps = with_numbers c.option_of-3.result steps_option c.numbers-3.result c.option_of-3.ensures.rule c.numbers-3.ensures in
    let messages = with_numbers c.option_of-4.result messages_option c.numbers-4.result c.option_of-4.ensures.rule c.numbers-4.ensures in
    let first = added _ c.in_ok-arg.field-0 _ bare_app _ c.in_ok-arg.ensures c.option_of.ensures.local sites c.bare_command.ensures in
    let second = added _ c.in_ok-arg-2.field-0 _ _ _ c.in_ok-arg-2.ensures c.option_of-2.ensures.local workers first in
    let third = added _ c.in_ok-arg-3.field-0 _ _ _ c.in_ok-arg-3.ensures c.option_of-3.ensures.local steps second in
    let fourth = added _ c.in_ok-arg-4.field-0 _ _ _ c.in_ok-arg-4.ensures c.option_of-4.ensures.local messages third in
    let seed = with_seeds c.bare_option_of.result c.seeds.result c.bare_option_of.ensures.rule c.seeds.ensures in
    let fifth = added _ c.in_ok-arg-5.field-0 _ _ _ c.in_ok-arg-5.ensures c.bare_option_of.ensures.local seed fourth in
    let sixth = added _ c.in_ok-arg-6.field-0 _ _ _ c.in_ok-arg-6.ensures c.action_of.ensures.local c.action_of.ensures.rule fifth in
    let size = with_sizes c.size_of.result c.numbers-5.result c.size_of.ensures.rule c.numbers-5.ensures in
    last_added _ c.arg-7.result _ _ _ c.arg-7.ensures c.size_of.ensures.local size sixth

pub returns-clause-app : goal.returns-clause-app
returns-clause-app c = (c.action_names-names.result, c.action_names-names.ensures, is_command c)

pub returns-in_err-arg-2-clause-app : goal.returns-in_err-arg-2-clause-app
returns-in_err-arg-2-clause-app c = (c.action_names-names.result, c.action_names-names.ensures, search rules)

pub returns-in_err-arg-3-clause-app : goal.returns-in_err-arg-3-clause-app
returns-in_err-arg-3-clause-app c = (c.action_names-names.result, c.action_names-names.ensures, search rules)

pub returns-in_err-arg-4-clause-app : goal.returns-in_err-arg-4-clause-app
returns-in_err-arg-4-clause-app c = (c.action_names-names.result, c.action_names-names.ensures, search rules)

pub returns-in_err-arg-5-clause-app : goal.returns-in_err-arg-5-clause-app
returns-in_err-arg-5-clause-app c = (c.action_names-names.result, c.action_names-names.ensures, search rules)

pub returns-in_err-arg-6-clause-app : goal.returns-in_err-arg-6-clause-app
returns-in_err-arg-6-clause-app c = (c.action_names-names.result, c.action_names-names.ensures, search rules)

pub returns-clause-words : goal.returns-clause-words
returns-clause-words c = takes_words c.arg-7.result c.action_names-names.result c.action_names-names.ensures (is_command c)
