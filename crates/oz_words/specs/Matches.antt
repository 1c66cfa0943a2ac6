-- What the command makes of the words.
use Rattle.std.specs.Prelude.{◌≡◌, ◌≢◌, ◌⊎◌, List, [], Some, None, false, codes, Result, Ok, Err}
use Rattle.clap.specs.Words.{Accepts, App, Text, found_of, matches_of, one_text, rows_of, fault_of, Row, Kinds}
use Rattle.clap.specs.Values.{read_as, reading_of}
use Rattle.clap.specs.declared.builder.ValueParser.{ValueParser}
use Rattle.clap.specs.declared.parser.ArgMatches.{ArgMatches}
use Rattle.oz_words.specs.Places.{placeless_names}
use Rattle.oz_words.specs.Command.{NumberOption, sites_option, workers_option, steps_option, messages_option, numbers_of, seeds, sizes, action_names, action_values, oz_command}
use Rattle.oz_words.specs.declared.options.WordsError.{WordsError}
use Rattle.oz_words.specs.declared.options.WordsError.TheVariants.{Usage, Memory}

-- why the command refuses the words, or nothing
unfoldable pub words_fault : List Text → Kinds
words_fault words = fault_of oz_command words

-- its matches of the words
unfoldable pub words_rows : List Text → List Row
words_rows words = matches_of oz_command words

-- a command that refuses and matches all words as `oz` does
abbrev pub TakesWordsOfOz : App → Type 0
TakesWordsOfOz a = (words : List Text) → (fault_of a words ≡ words_fault words) × (matches_of a words ≡ words_rows words)

-- an argument has a value that its parser took
abbrev pub HasValue : ArgMatches → Text → ValueParser → Type 0
HasValue m id q = (t : Text) × (one_text (found_of m) id ≡ Some (read_as (reading_of q) t)) × Accepts false q t

-- the option has a value that is one of its numbers
abbrev pub HasNumber : ArgMatches → NumberOption → Type 0
HasNumber m o = HasValue m o.name (numbers_of o)

-- an argument is left out, or has a value that its parser took
abbrev pub MayHaveValue : ArgMatches → Text → ValueParser → Type 0
MayHaveValue m id q = (one_text (found_of m) id ≡ None) ⊎ HasValue m id q

-- the number behind the action's name is left out, or is one of the sizes
abbrev pub MayHaveSize : ArgMatches → Type 0
MayHaveSize m = MayHaveValue m (codes "number") sizes

-- the seed is left out, or is a number of 64 bits
abbrev pub MayHaveSeed : ArgMatches → Type 0
MayHaveSeed m = MayHaveValue m (codes "seed") seeds

-- the matches of words that the command takes, with a value for each argument but the seed and the last, which may be left out
pub record AreMatchesOf (words : List Text) (m : ArgMatches) : Type 0 where
  pub no_fault : words_fault words ≡ []
  pub rows : rows_of (found_of m) ≡ words_rows words
  pub sites : HasNumber m sites_option
  pub workers : HasNumber m workers_option
  pub steps : HasNumber m steps_option
  pub messages : HasNumber m messages_option
  pub seed : MayHaveSeed m
  pub action : HasValue m (codes "action") (action_values (placeless_names action_names))
  pub size : MayHaveSize m

-- what parsing the words answers: their matches, or that the command refuses them; want of memory says nothing
abbrev pub IsParse : List Text → Result ArgMatches WordsError → Type 0
IsParse words (Ok m) = AreMatchesOf words m
IsParse words (Err Usage) = words_fault words ≢ []
IsParse words (Err Memory) = Unit {0}
