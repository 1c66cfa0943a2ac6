-- What the words mean.
use Rattle.std.specs.Prelude.{◌≡◌, ◌≢◌, ℕ, Bool, false, List, [], Option, Some, None, codes, is_some, Result, Ok, Err}
use Rattle.std.specs.Option.{option_map_or}
use Rattle.std.specs.Str.{bytes_eq}
use Rattle.std.specs.Str.Parse.{digits_value, without_leading_plus}
use Rattle.clap.specs.Words.{Row, Text, one_of}
use Rattle.oz_words.specs.Command.{IsSize, IsWithin, sites_option, workers_option, steps_option, messages_option}
use Rattle.oz_words.specs.Matches.{words_fault, words_rows}
use Rattle.oz_words.specs.declared.options.Action.{Action}
use Rattle.oz_words.specs.declared.options.Action.TheVariants.{Run, Central, Gen, Save, Check}
use Rattle.oz_words.specs.declared.options.ActionName.{ActionName}
use Rattle.oz_words.specs.declared.options.ActionName.TheVariants as name
use Rattle.oz_words.specs.declared.options.Options.{Options}
use Rattle.oz_words.specs.declared.options.UnknownAction.{UnknownAction}
use Rattle.oz_words.specs.declared.options.WordsError.{WordsError}
use Rattle.oz_words.specs.declared.options.WordsError.TheVariants.{Usage, Memory}

-- the number that a text says
abbrev pub IsNumberText : Option Text → ℕ → Type 0
IsNumberText None n = ⊥
IsNumberText (Some text) n = n ≡ digits_value 10 (without_leading_plus text)

-- the number that a text says, where there is one
abbrev pub MayBeNumberText : Option Text → Option ℕ → Type 0
MayBeNumberText None n = n ≡ None
MayBeNumberText (Some text) None = ⊥
MayBeNumberText (Some text) (Some n) = IsNumberText (Some text) n

-- the word that names an action
abbrev pub action_name : ActionName → Text
action_name name.Run = codes "run"
action_name name.Central = codes "central"
action_name name.Gen = codes "gen"
action_name name.Save = codes "save"
action_name name.Check = codes "check"

-- what reading an action's name gives
abbrev pub NamesAction : Text → Result ActionName UnknownAction → Type 0
NamesAction text (Ok action) = text ≡ action_name action
NamesAction text (Err unknown) =
    (text ≢ codes "run") × (text ≢ codes "central") × (text ≢ codes "gen") × (text ≢ codes "save") × (text ≢ codes "check")

-- the action, by its name and the number behind it
abbrev pub IsActionText : Option Text → Option Text → Action → Type 0
IsActionText named number Run = named ≡ Some (codes "run")
IsActionText named number Central = named ≡ Some (codes "central")
IsActionText named number (Gen size) = (named ≡ Some (codes "gen")) × IsNumberText number size
IsActionText named number Save = named ≡ Some (codes "save")
IsActionText named number Check = named ≡ Some (codes "check")

-- the action's word is `gen`
abbrev pub is_gen : Option Text → Bool
is_gen named = option_map_or (λ text. bytes_eq text (codes "gen")) named false

-- a number stands behind `gen`, and behind nothing else
abbrev pub GoTogether : Option Text → Option Text → Type 0
GoTogether named number = is_some number ≡ is_gen named

-- the action, where its name and the number go together
abbrev pub ReadsAction : Option Text → Option Text → Result Action WordsError → Type 0
ReadsAction named number (Ok action) = GoTogether named number × IsActionText named number action
ReadsAction named number (Err Usage) = GoTogether named number → ⊥
ReadsAction named number (Err Memory) = ⊥

-- the command takes the words, and the number goes with the action
abbrev pub AreTaken : List Text → Type 0
AreTaken words =
    (words_fault words ≡ [])
    × GoTogether (one_of (codes "action") (words_rows words)) (one_of (codes "number") (words_rows words))

-- the options are the matches
pub record AreOptionsOf (rows : List Row) (options : Options) : Type 0 where
  pub sites : IsNumberText (one_of sites_option.name rows) options.sites
  pub workers : IsNumberText (one_of workers_option.name rows) options.workers
  pub steps : IsNumberText (one_of steps_option.name rows) options.steps
  pub messages : IsNumberText (one_of messages_option.name rows) options.messages
  pub seed : MayBeNumberText (one_of (codes "seed") rows) options.seed
  pub action : IsActionText (one_of (codes "action") rows) (one_of (codes "number") rows) options.action

-- a large text is of a size that there is
abbrev pub IsActionInRange : Action → Type 0
IsActionInRange (Gen size) = IsSize size
IsActionInRange action = Unit {0}

-- the numbers are in their ranges. A seed is any number of 64 bits
pub record InRange (options : Options) : Type 0 where
  pub sites : IsWithin sites_option options.sites
  pub workers : IsWithin workers_option options.workers
  pub steps : IsWithin steps_option options.steps
  pub messages : IsWithin messages_option options.messages
  pub action : IsActionInRange options.action

-- `Usage` comes exactly where the words are not taken, and else the options are the command's matches of them.
-- Want of memory says nothing.
abbrev pub ReadsWords : List Text → Result Options WordsError → Type 0
ReadsWords words (Ok options) = AreTaken words × AreOptionsOf (words_rows words) options
ReadsWords words (Err Usage) = AreTaken words → ⊥
ReadsWords words (Err Memory) = Unit {0}
