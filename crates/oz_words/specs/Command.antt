-- The command that reads the words, in the terms of the crate that reads them.
use Rattle.std.specs.Prelude.{◌≡◌, ◌≤◌, ℕ, List, [], ◌∷◌, Some, codes, map, true}
use Rattle.std.specs.Borrow.{Bor}
use Rattle.clap.specs.Words.{App, Rule, Text, new_app, new_rule, with_rule}
use Rattle.clap.specs.declared.builder.ArgAction.TheVariants.{Set}
use Rattle.clap.specs.declared.builder.ValueParser.{ValueParser}
use Rattle.clap.specs.declared.builder.ValueParser.TheVariants as vp
use Rattle.oz_words.specs.Places.{placeless_names}

-- an option that takes a number: its name, the least and the most number, and the text of its default
pub record NumberOption : Type 0 where
  pub name : Text
  pub least : ℕ
  pub most : ℕ
  pub default : Text

-- from 1 to 64
abbrev pub sites_option : NumberOption
sites_option = record { name = codes "sites"; least = 1; most = 64; default = codes "4" }

-- from 0 to 64
abbrev pub workers_option : NumberOption
workers_option = record { name = codes "workers"; least = 0; most = 64; default = codes "4" }

-- from 1 to 1,000,000,000
abbrev pub steps_option : NumberOption
steps_option = record { name = codes "steps"; least = 1; most = 1000000000; default = codes "1000000" }

-- from 0 to 4,000,000,000
abbrev pub messages_option : NumberOption
messages_option = record { name = codes "messages"; least = 0; most = 4000000000; default = codes "1000000" }

-- the number is one that the option takes
abbrev pub IsWithin : NumberOption → ℕ → Type 0
IsWithin o n = (o.least ≤ n) × (n ≤ o.most)

-- the numbers from the least to the most
abbrev pub numbers_from : ℕ → ℕ → ValueParser
numbers_from least most = vp.Unsigned least most

-- the numbers that the option takes
abbrev pub numbers_of : NumberOption → ValueParser
numbers_of o = numbers_from o.least o.most

-- `--name N`, given at most once
abbrev pub bare_option_rule : Text → ValueParser → Rule
bare_option_rule name parser = record (new_rule name) {
  long = Some name;
  action = Some Set;
  parser = Some parser;
}

-- the same with a default
abbrev pub option_rule : Text → ValueParser → Text → Rule
option_rule name parser default = record (bare_option_rule name parser) { defaults = default ∷ [] }

-- `--name N` for a number of the option
abbrev pub number_rule : NumberOption → Rule
number_rule o = option_rule o.name (numbers_of o) o.default

-- from 0 to 2^64 - 1
abbrev pub seeds : ValueParser
seeds = numbers_from 0 18446744073709551615

-- `--seed N`, which may be left out
abbrev pub seed_rule : Rule
seed_rule = bare_option_rule (codes "seed") seeds

-- one of these names
abbrev pub action_values : Bor (List (Bor Text)) → ValueParser
action_values names = vp.Names names

-- the word that is one of these names
abbrev pub action_rule : Bor (List (Bor Text)) → Rule
action_rule names = record (new_rule (codes "action")) {
  action = Some Set;
  parser = Some (action_values names);
  defaults = codes "run" ∷ [];
}

-- the sizes of a large text
abbrev pub IsSize : ℕ → Type 0
IsSize n = (1 ≤ n) × (n ≤ 1000)

-- the numbers that are sizes
abbrev pub sizes : ValueParser
sizes = numbers_from 1 1000

-- a number of these, which may be left out
abbrev pub size_rule : ValueParser → Rule
size_rule parser = record (new_rule (codes "number")) {
  action = Some Set;
  parser = Some parser;
}

-- the command without its arguments, which has neither `--help` nor `--version`
abbrev pub bare_app : App
bare_app = record (new_app (codes "oz")) {
  top = record (new_app (codes "oz")).top {
    disable_help_flag = true;
    disable_version_flag = true;
  };
}

-- the options, and the two words after them
abbrev pub rules_of_oz : Bor (List (Bor Text)) → App
rules_of_oz names =
    with_rule (with_rule (with_rule (with_rule (with_rule (with_rule (with_rule (new_app (codes "oz"))
    (number_rule sites_option)) (number_rule workers_option)) (number_rule steps_option)) (number_rule messages_option)) seed_rule)
    (action_rule names)) (size_rule sizes)

-- `oz [--sites N] [--workers N] [--steps N] [--messages N] [--seed N] [run|central|gen|save|check] [NUMBER]`
abbrev pub oz_app : Bor (List (Bor Text)) → App
oz_app names = record (rules_of_oz names) {
  top = record (rules_of_oz names).top {
    disable_help_flag = true;
    disable_version_flag = true;
  };
}

-- the names of the actions
abbrev pub action_names : List Text
action_names = codes "run" ∷ codes "central" ∷ codes "gen" ∷ codes "save" ∷ codes "check" ∷ []

-- these are the names of the actions, wherever they lie
abbrev pub AreActions : List (Bor Text) → Type 0
AreActions names = map (λ name. name.now) names ≡ action_names

-- the command, whose names of actions lie at no place
abbrev pub oz_command : App
oz_command = oz_app (placeless_names action_names)
