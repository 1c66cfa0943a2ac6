-- What the command makes of the words does not depend on where the names of its actions lie.
use Rattle.std.proofs.Common.{◌≡◌, ◌∙◌, List, ap, sym}
use Rattle.std.specs.Borrow.{Bor}
use Rattle.clap.specs.Words.{App, Text, fault_of, matches_of}
use Rattle.clap.specs.Simple.{argument_words, built, names_of}
use Rattle.clap.specs.Walk.{nothing_held}
use Rattle.oz_words.specs.Places.{placeless_names}
use Rattle.oz_words.specs.Command.{AreActions, oz_app}
use Rattle.oz_words.specs.Matches.{TakesWordsOfOz, words_fault, words_rows}
use Rattle.oz_words.proofs.WalkPlaces.{rows_same}
use Rattle.oz_words.proofs.FaultPlaces.{built_same}

faults_are : (names : Bor (List (Bor Text))) → AreActions names.now → (words : List Text) → fault_of (oz_app names) words ≡ words_fault words
unfolding words_fault
faults_are names are words =
    sym (built_same (built (oz_app names)) nothing_held (argument_words (oz_app names) words))
    ∙ ap (λ ts. fault_of (oz_app (placeless_names ts)) words) are

rows_are : (names : Bor (List (Bor Text))) → AreActions names.now → (words : List Text) → matches_of (oz_app names) words ≡ words_rows words
unfolding words_rows
rows_are names are words =
    sym (rows_same (built (oz_app names)).top.rules (names_of (built (oz_app names))) (argument_words (oz_app names) words))
    ∙ ap (λ ts. matches_of (oz_app (placeless_names ts)) words) are

pub takes_words_of_oz : (a : App) (names : Bor (List (Bor Text))) → AreActions names.now → a ≡ oz_app names → TakesWordsOfOz a
takes_words_of_oz a names are is words = (
  ap (λ (b : App). fault_of b words) is ∙ faults_are names are words,
  ap (λ (b : App). matches_of b words) is ∙ rows_are names are words,
)
