-- Where nothing stands in the way, the run is done.
use Rattle.std.proofs.Common.{◌≡◌, ◌∙◌, ◌≤◌, ◌++◌, ℕ, List, length, Option, Some, None, ap, sym, subst, arith, length-append}
use Rattle.std.proofs.lemmas.List.{append-nil}
use Rattle.std.specs.Io.KnownBytes.{Consumes, IsAtEnd}
use Rattle.std.specs.Str.{IsUtf8}
use Rattle.oz_grammar.specs.Laws.{AreOneOfBoth}
use Rattle.oz_sugar.specs.Texts.{Reads, FaultOf}
use Rattle.run_file.specs.Laws.{NotBoth, SavesOne}
use Rattle.run_file.specs.Saved.{Saved, SavedRun}
use Rattle.byte_fields.specs.declared.fault.FileFault.TheVariants.{Bad}
use Rattle.oz_show.specs.declared.status.Status.{Status}
use Rattle.oz_show.specs.declared.status.Status.TheVariants.{Quiescent, Usage, Refused, NotUtf8, TooLong, StepLimit, MessageLimit, ReadFault, WriteFault, Memory, Checked, Wrong, BadFile}
use Rattle.oz_words.specs.declared.options.Action.{Action}
use Rattle.oz_words.specs.declared.options.Action.TheVariants as action
use Rattle.oz_words.specs.declared.options.Options.{Options}
use Rattle.oz_runner.specs.OzCall.{OzCall, Stream, RunOutput}
use Rattle.oz_runner.specs.Cause.{Cause, IsGiven, IsTextOf, ReadsSource, HasOptions, byte_limit, file_limit, text_limit}
use Rattle.oz_runner.specs.Complete.{HasText, IsDone, IsGood}
use Rattle.oz_runner.proofs.ActionLemmas.{options_same}

-- a source gives no more than it has
no_more : (text bytes : List ℕ) (new : Option (List ℕ)) → Consumes (Some text) new bytes → length bytes ≤ length text
no_more text bytes None h = absurd h
no_more text bytes (Some ys) h = let e : length text ≡ length (bytes ++ ys) = ap length h in omega (arith, simp length-append at e)

-- and all of it where it is at its end
all_of_it : (text bytes : List ℕ) (new : Option (List ℕ)) → Consumes (Some text) new bytes → IsAtEnd new → text ≡ bytes
all_of_it text bytes None h end = absurd h
all_of_it text bytes (Some ys) h end = h ∙ (ap (λ l. bytes ++ l) end ∙ append-nil bytes)

-- ---- the text is the one that was told

-- with these words the source has these bytes, and they are no more than may be
source_told : (a : Action) (source : Stream) (text : List ℕ) → ReadsSource a → HasText a source text
    → (bytes : List ℕ) × (source.bytes_before ≡ Some bytes) × (length bytes ≤ byte_limit a)
source_told action.Run source text reads told = (text, told.0, told.1)
source_told action.Central source text reads told = (text, told.0, told.1)
source_told action.Save source text reads told = (text, told.0, told.1)
source_told action.Check source text reads told = (told.0, told.1, told.2)
source_told (action.Gen size) source text reads told = absurd reads

-- what was read to the end are the bytes that the source had
read_told : (limit : ℕ) (source : Stream) (told bytes : List ℕ) → source.bytes_before ≡ Some told → IsGiven limit source bytes → told ≡ bytes
read_told limit source told bytes before gave =
    all_of_it told bytes source.bytes_after (subst (λ (o : Option (List ℕ)). Consumes o source.bytes_after bytes) before gave.0) gave.1

run_told : SavesOne → (a : Action) (file : Option SavedRun) (source : Stream) (told text : List ℕ) → HasText a source told → IsTextOf a file source text → told ≡ text
run_told saves action.Run None source told text before gave = read_told text_limit source told text before.0 gave
run_told saves action.Central None source told text before gave = read_told text_limit source told text before.0 gave
run_told saves action.Save None source told text before gave = read_told text_limit source told text before.0 gave
run_told saves (action.Gen size) None source told text before gave = before ∙ sym gave.0
run_told saves action.Check (Some file) source told text (bytes, has, short, (run, spells, is)) gave =
    let same : bytes ≡ gave.0.0 = read_told file_limit source bytes gave.0.0 has gave.0.1 in
    let one : run ≡ file = saves gave.0.0 run file (subst (Saved run) same spells) gave.0.2 in
    is ∙ (ap (λ (r : SavedRun). r.text) one ∙ sym gave.1)
run_told saves action.Run (Some file) source told text before gave = absurd gave
run_told saves action.Central (Some file) source told text before gave = absurd gave
run_told saves action.Save (Some file) source told text before gave = absurd gave
run_told saves (action.Gen size) (Some file) source told text before gave = absurd gave
run_told saves action.Check None source told text before gave = absurd gave

-- the options are those of the good call
as_good : (seen : OzCall) (good : IsGood seen) (words : Options) → HasOptions seen words → good.options ≡ words
as_good seen good words says = options_same seen good.options words good.says says

-- the text that was run is the one that was told
equal_text : SavesOne → (seen : OzCall) (good : IsGood seen) (words : Options) (file : Option SavedRun) (text : List ℕ) → HasOptions seen words → IsTextOf words.action file seen.source text → good.text ≡ text
equal_text saves seen good words file text says is_text =
    run_told saves good.options.action file seen.source good.text text good.told
    (subst (λ (o : Options). IsTextOf o.action file seen.source text) (sym (as_good seen good words says)) is_text)

-- the source of a good call has bytes, and no more than may be
good_bytes : (seen : OzCall) (good : IsGood seen) (words : Options) → HasOptions seen words → ReadsSource words.action
    → (bytes : List ℕ) × (seen.source.bytes_before ≡ Some bytes) × (length bytes ≤ byte_limit words.action)
good_bytes seen good words says reads =
    subst (λ (o : Options). (bytes : List ℕ) × (seen.source.bytes_before ≡ Some bytes) × (length bytes ≤ byte_limit o.action)) (as_good seen good words says)
    (source_told good.options.action seen.source good.text (subst (λ (o : Options). ReadsSource o.action) (sym (as_good seen good words says)) reads) good.told)

-- with `check` they are the text of a saved run
good_file : (a : Action) (source : Stream) (text : List ℕ) → a ≡ action.Check → HasText a source text → (bytes : List ℕ) × (source.bytes_before ≡ Some bytes) × ((file : SavedRun) × Saved file bytes)
good_file a source text is told =
    let at = subst (λ (b : Action). HasText b source text) is told in
    (at.0, at.1, (at.3.0, at.3.1))

pub complete : (seen : OzCall) (made : RunOutput) (status : Status) → AreOneOfBoth Reads FaultOf → SavesOne → NotBoth → Cause seen made status → IsGood seen → IsDone status
complete seen made (Quiescent ended waiting) texts saves apart cause good = tt
complete seen made (StepLimit site) texts saves apart cause good = tt
complete seen made MessageLimit texts saves apart cause good = tt
complete seen made Memory texts saves apart cause good = tt
complete seen made (Checked entries picks) texts saves apart cause good = tt
complete seen made (Wrong at) texts saves apart cause good = tt
complete seen made Usage texts saves apart (refused, unread, nothing) good = refused good.says.0
complete seen made WriteFault texts saves apart failed good = good.wrote failed
complete seen made ReadFault texts saves apart ((words, says, reads, (failed, gave)), nothing) good = good.read failed
complete seen made TooLong texts saves apart ((words, says, reads, (steady, (bytes, given, past))), nothing) good =
    let told = good_bytes seen good words says reads in
    let whole : Consumes (Some told.0) seen.source.bytes_after bytes =
    subst (λ (o : Option (List ℕ)). Consumes o seen.source.bytes_after bytes) told.1 given in
    let most = no_more told.0 bytes seen.source.bytes_after whole in
    let fits = told.2 in
    absurd (omega (arith, most, fits, past))
complete seen made (BadFile at) texts saves apart ((words, says, is, (bytes, gave, first)), nothing) good =
    let file = good_file good.options.action seen.source good.text (ap (λ (o : Options). o.action) (as_good seen good words says) ∙ is) good.told in
    let same : file.0 ≡ bytes = read_told file_limit seen.source file.0 bytes file.1 gave in
    absurd (apart bytes file.2.0 (Bad at) (subst (Saved file.2.0) same file.2.1) first)
complete seen made (NotUtf8 at) texts saves apart ((words, says, (file, text, is_text, (reads, bad, up_to))), nothing) good =
    absurd (bad (subst IsUtf8 (equal_text saves seen good words file text says is_text) good.utf8))
complete seen made (Refused fault) texts saves apart ((words, says, (file, text, is_text, (utf8, applies))), nothing) good =
    absurd (texts.never_both text good.program fault (subst (λ (t : List ℕ). Reads t good.program) (equal_text saves seen good words file text says is_text) good.reads) applies)
