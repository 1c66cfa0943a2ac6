-- A call has the cause of one status at most, those of failed writes and of want of memory left out.
use Rattle.std.proofs.Common.{arith, ◌≡◌, ◌∙◌, sym, ap, subst, refl, ◌⊎◌, inl, inr, ℕ, ◌<◌, ◌≤◌, List, length, Option, Some, None}
use Rattle.std.proofs.lemmas.Bool.Decides.{leb_tells}
use Rattle.std.specs.Prelude.{unwrap_or, leb, true, false}
use Rattle.std.specs.Io.KnownBytes.{Consumes}
use Rattle.std.specs.Str.{IsUtf8, IsValidUpTo}
use Rattle.tree_node.specs.State.{State}
use Rattle.kernel_syntax.specs.declared.stmt.Stmt.{Stmt}
use Rattle.oz_model.specs.Laws.{RunsAreDetermined}
use Rattle.oz_model.specs.Run.{start}
use Rattle.oz_grammar.specs.Laws.{AreOneOfBoth}
use Rattle.oz_grammar.specs.declared.fault.TextFault.{TextFault}
use Rattle.oz_sugar.specs.Texts.{Reads, FaultOf}
use Rattle.oz_words.specs.Words.{AreTaken}
use Rattle.oz_words.specs.declared.options.Action.{Action}
use Rattle.oz_words.specs.declared.options.Action.TheVariants.{Run, Central, Gen, Save, Check}
use Rattle.oz_words.specs.declared.options.Options.{Options}
use Rattle.oz_show.specs.declared.status.Status.{Status}
use Rattle.oz_show.specs.declared.status.Status.TheVariants.{Quiescent, Usage, Refused, NotUtf8, TooLong, StepLimit, MessageLimit, ReadFault, WriteFault, Memory, Checked, Wrong, BadFile}
use Rattle.site_message.specs.Journal.{end_of}
use Rattle.site_message.specs.declared.reason.Reason.{Reason}
use Rattle.site_message.specs.declared.reason.Reason.TheVariants.{Quiet, Steps, Messages}
use Rattle.site_message.specs.declared.reason.Reason.TheVariants as reason
use Rattle.run_file.specs.Laws as file_laws
use Rattle.run_file.specs.Laws.{HasOneFault, SavesOne}
use Rattle.run_file.specs.Saved.{IsFirstFault, SavedRun}
use Rattle.byte_fields.specs.declared.fault.FileFault.{FileFault}
use Rattle.byte_fields.specs.declared.fault.FileFault.TheVariants.{Bad}
use Rattle.run_check.specs.Laws.{NotBoth, WrongIsOne}
use Rattle.run_check.specs.World.{limits_of as numbers_of}
use Rattle.oz_runner.specs.OzCall.{Stream, OzCall, RunOutput}
use Rattle.oz_runner.specs.Cause.{Cause, HasFault, HasNoFault, HasProgram, HasRunStatus, HasOptions, IsGiven, IsTextOf, ReadsSource, byte_limit, file_limit, options_with}
use Rattle.oz_runner.specs.Checking.{IsRight, IsWrongRun}
use Rattle.oz_runner.specs.Run.{IsNew, OfSitesOrMachine, StopsFor, HasEnded, IsStatusOfRun, limits_of}
use Rattle.oz_runner.specs.Laws.{IsTold, IsOfWork, CausesExclude}
use Rattle.oz_runner.proofs.ActionLemmas.{options_same}
use Rattle.oz_runner.proofs.TextLemmas.{bytes_of_text, given_same, text_same}

-- ---- the source

-- the source gave a front of its bytes, and the front's length is as the fact says
abbrev Gives : Stream → (ℕ → Type 0) → Type 0
Gives s IsLength = (front : List ℕ) × Consumes s.bytes_before s.bytes_after front × IsLength (length front)

no_fault : (s : Stream) → IsTold s → HasNoFault s → HasFault s → ⊥
no_fault s told none (inl rose) = omega (arith, none, rose)
no_fault s told none (inr last) = let least = told.1 in let is = last.0 in omega (arith, least, is)

-- ---- a run

states_same : RunsAreDetermined → (p : List Stmt) (options : Options) (made : RunOutput) (q r : Reason) (s t : State)
    → HasEnded p options made q s → HasEnded p options made r t → s ≡ t
states_same determined p options made q r s t h g = determined p (start p) made.schedule s t h.run.run g.run.run

stops_same : (p : List Stmt) (options : Options) (made : RunOutput) (s : State) (q r : Reason) → StopsFor p options made s q → StopsFor p options made s r → q ≡ r
stops_same p options made s Quiet Quiet h g = refl
stops_same p options made s Quiet (Steps site) h g = absurd (g.2 h)
stops_same p options made s (Steps site) Quiet h g = absurd (h.2 g)
stops_same p options made s (Steps site) (Steps other) h g = ap Steps (h.0 ∙ sym g.0)
stops_same p options made s Messages r h g = absurd h
stops_same p options made s reason.Memory r h g = absurd h
stops_same p options made s Quiet Messages h g = absurd g
stops_same p options made s Quiet reason.Memory h g = absurd g
stops_same p options made s (Steps site) Messages h g = absurd g
stops_same p options made s (Steps site) reason.Memory h g = absurd g

some_same : (o : Option Reason) (q r : Reason) → o ≡ Some q → o ≡ Some r → q ≡ r
some_same o q r h g = ap (λ (p : Option Reason). unwrap_or p Quiet) (sym h ∙ g)

ends_same : (a : Action) (o : Option Reason) (p : List Stmt) (options : Options) (made : RunOutput) (s : State) (q r : Reason)
    → OfSitesOrMachine a (o ≡ Some q) (StopsFor p options made s q) → OfSitesOrMachine a (o ≡ Some r) (StopsFor p options made s r) → q ≡ r
ends_same Run o p options made s q r h g = some_same o q r h g
ends_same Save o p options made s q r h g = some_same o q r h g
ends_same Check o p options made s q r h g = some_same o q r h g
ends_same (Gen size) o p options made s q r h g = some_same o q r h g
ends_same Central o p options made s q r h g = stops_same p options made s q r h g

reasons_same : RunsAreDetermined → (p : List Stmt) (options : Options) (made : RunOutput) (q r : Reason) (s t : State)
    → HasEnded p options made q s → HasEnded p options made r t → q ≡ r
reasons_same determined p options made q r s t h g =
    ends_same options.action (end_of (limits_of options) made.journal) p options made s q r h.ends
    (subst (λ (u : State). OfSitesOrMachine options.action (end_of (limits_of options) made.journal ≡ Some r) (StopsFor p options made u r)) (sym (states_same determined p options made q r s t h g)) g.ends)

-- the status of a run that ended so
abbrev told : Reason → State → Status
told Quiet s = Quiescent s.ended (length s.threads)
told (Steps site) s = StepLimit site
told Messages s = MessageLimit
told reason.Memory s = Memory

-- the run ended, and the status tells how
record Ended (p : List Stmt) (options : Options) (made : RunOutput) (status : Status) : Type 0 where
  pub why : Reason
  pub state : State
  pub ended : HasEnded p options made why state
  pub tells : status ≡ told why state

ended_as : (p : List Stmt) (options : Options) (made : RunOutput) (status : Status) → IsOfWork status → IsStatusOfRun p options made status → Ended p options made status
ended_as p options made (Quiescent ended waiting) work (s, end, quiet) =
    record { why = Quiet; state = s; ended = end; tells = λ i. Quiescent (quiet.ended i) (quiet.waiting i) }
ended_as p options made (StepLimit site) work (s, end) = record { why = Steps site; state = s; ended = end; tells = refl }
ended_as p options made MessageLimit work (s, end) = record { why = Messages; state = s; ended = end; tells = refl }
ended_as p options made Memory work came = absurd work
ended_as p options made WriteFault work came = absurd work
ended_as p options made Usage work came = absurd came
ended_as p options made (Refused fault) work came = absurd came
ended_as p options made (NotUtf8 at) work came = absurd came
ended_as p options made TooLong work came = absurd came
ended_as p options made ReadFault work came = absurd came
ended_as p options made (Checked entries picks) work came = absurd came
ended_as p options made (Wrong at) work came = absurd came
ended_as p options made (BadFile at) work came = absurd came

runs_same : RunsAreDetermined → (p : List Stmt) (options : Options) (made : RunOutput) (a b : Status) → Ended p options made a → Ended p options made b → a ≡ b
runs_same determined p options made a b h g =
    let states = states_same determined p options made h.why g.why h.state g.state h.ended g.ended in
    let reasons = reasons_same determined p options made h.why g.why h.state g.state h.ended g.ended in
    let both : told h.why h.state ≡ told g.why g.state = λ i. told (reasons i) (states i) in
    h.tells ∙ (both ∙ sym g.tells)

-- ---- a saved run

-- the saved run was found right, or wrong at a place
abbrev Found : List Stmt → SavedRun → RunOutput → Status → Type 0
Found p file made status =
    ((entries picks : ℕ) × (status ≡ Checked entries picks) × IsRight p file made entries picks)
    ⊎ ((at : ℕ) × (status ≡ Wrong at) × IsWrongRun p file made.journal at)

module _ (apart : NotBoth) (first : WrongIsOne) where
  -- a saved run that is right is not wrong
  not_wrong : (p : List Stmt) (file : SavedRun) (made : RunOutput) (entries picks at : ℕ) → IsRight p file made entries picks → IsWrongRun p file made.journal at → ⊥
  not_wrong p file made entries picks at right (inl wrong) = apart p (numbers_of file) made.journal made.journal file.entries right.0.0 at right.0.1 wrong
  not_wrong p file made entries picks at right (inr wrong) = wrong.2 right.1

  -- it is wrong at one place
  wrong_same : (p : List Stmt) (file : SavedRun) (made : RunOutput) (i k : ℕ) → IsWrongRun p file made.journal i → IsWrongRun p file made.journal k → i ≡ k
  wrong_same p file made i k (inl h) (inl g) = (first p (numbers_of file) file.entries i k made.journal made.journal h g).0
  wrong_same p file made i k (inl h) (inr g) = absurd (apart p (numbers_of file) made.journal made.journal file.entries g.0.0 i g.0.1 h)
  wrong_same p file made i k (inr h) (inl g) = absurd (apart p (numbers_of file) made.journal made.journal file.entries h.0.0 k h.0.1 g)
  wrong_same p file made i k (inr h) (inr g) = h.1 ∙ sym g.1

  found_same : (p : List Stmt) (file : SavedRun) (made : RunOutput) (a b : Status) → Found p file made a → Found p file made b → a ≡ b
  found_same p file made a b (inl h) (inl g) = h.2 ∙ ((λ i. Checked ((h.3.2 ∙ sym g.3.2) i) ((h.3.3 ∙ sym g.3.3) i)) ∙ sym g.2)
  found_same p file made a b (inl h) (inr g) = absurd (not_wrong p file made h.0 h.1 g.0 h.3 g.2)
  found_same p file made a b (inr h) (inl g) = absurd (not_wrong p file made g.0 g.1 h.0 g.3 h.2)
  found_same p file made a b (inr h) (inr g) = h.1 ∙ (ap Wrong (wrong_same p file made h.0 g.0 h.2 g.2) ∙ sym g.1)

-- ---- a text

valid_same : (text : List ℕ) (n m : ℕ) → IsValidUpTo text n → IsValidUpTo text m → n ≡ m
valid_same text n m h g = go (leb_tells n m) (leb_tells m n)
  where
    go : ((leb n m ≡ true) × (n ≤ m)) ⊎ ((leb n m ≡ false) × (m < n)) → ((leb m n ≡ true) × (m ≤ n)) ⊎ ((leb m n ≡ false) × (n < m)) → n ≡ m
    go (inl x) (inl y) = omega (arith, x, y)
    go (inr x) y = absurd (g.longest n x.1 h.front)
    go x (inr y) = absurd (h.longest m y.1 g.front)

-- a new run of the program ended, or the saved run was found right or wrong
abbrev ProgramEnds : Options → Option SavedRun → RunOutput → List Stmt → Status → Type 0
ProgramEnds words file made p status =
    (IsNew words.action × Ended p (options_with file words) made status)
    ⊎ ((words.action ≡ Check) × ((run : SavedRun) × (file ≡ Some run) × Found p run made status))

-- a text that is not UTF-8, one with a fault, or one that reads a program
abbrev TextEnds : Options → Option SavedRun → RunOutput → List ℕ → Status → Type 0
TextEnds words file made text status =
    ((at : ℕ) × (status ≡ NotUtf8 at) × (IsUtf8 text → ⊥) × IsValidUpTo text at)
    ⊎ (((f : TextFault) × (status ≡ Refused f) × IsUtf8 text × FaultOf text f)
    ⊎ ((p : List Stmt) × IsUtf8 text × Reads text p × ProgramEnds words file made p status))

new_or_check : (a : Action) → IsNew a → a ≡ Check → ⊥
new_or_check a is_new is = subst IsNew is is_new

module _ (texts : AreOneOfBoth Reads FaultOf) (determined : RunsAreDetermined) (saves : SavesOne) (one_fault : HasOneFault) (saved_or_bad : file_laws.NotBoth) (apart : NotBoth) (first : WrongIsOne) where
  found_one : (p : List Stmt) (made : RunOutput) (file : Option SavedRun) (a b : Status) → (run : SavedRun) × (file ≡ Some run) × Found p run made a
      → (run : SavedRun) × (file ≡ Some run) × Found p run made b → a ≡ b
  found_one p made file a b (r, is, h) (q, also, g) =
      let same : q ≡ r = ap (λ (o : Option SavedRun). unwrap_or o r) (sym also ∙ is) in
      found_same apart first p r made a b h (subst (λ (f : SavedRun). Found p f made b) same g)

  programs_same : (words : Options) (file : Option SavedRun) (made : RunOutput) (p : List Stmt) (a b : Status) → ProgramEnds words file made p a → ProgramEnds words file made p b → a ≡ b
  programs_same words file made p a b (inl h) (inl g) = runs_same determined p (options_with file words) made a b h.1 g.1
  programs_same words file made p a b (inl h) (inr g) = absurd (new_or_check words.action h.0 g.0)
  programs_same words file made p a b (inr h) (inl g) = absurd (new_or_check words.action g.0 h.0)
  programs_same words file made p a b (inr h) (inr g) = found_one p made file a b h.1 g.1

  texts_same : (words : Options) (file : Option SavedRun) (made : RunOutput) (text : List ℕ) (a b : Status) → TextEnds words file made text a → TextEnds words file made text b → a ≡ b
  texts_same words file made text a b (inl h) (inl g) = h.1 ∙ (ap NotUtf8 (valid_same text h.0 g.0 h.3 g.3) ∙ sym g.1)
  texts_same words file made text a b (inl h) (inr (inl g)) = absurd (h.2 g.2)
  texts_same words file made text a b (inl h) (inr (inr g)) = absurd (h.2 g.1)
  texts_same words file made text a b (inr (inl h)) (inl g) = absurd (g.2 h.2)
  texts_same words file made text a b (inr (inr h)) (inl g) = absurd (g.2 h.1)
  texts_same words file made text a b (inr (inl h)) (inr (inl g)) = h.1 ∙ (ap Refused (texts.fault text h.0 g.0 h.3 g.3) ∙ sym g.1)
  texts_same words file made text a b (inr (inl h)) (inr (inr g)) = absurd (texts.never_both text g.0 h.0 g.2 h.3)
  texts_same words file made text a b (inr (inr h)) (inr (inl g)) = absurd (texts.never_both text h.0 g.0 h.2 g.3)
  texts_same words file made text a b (inr (inr h)) (inr (inr g)) =
      programs_same words file made h.0 a b h.3
      (subst (λ (p : List Stmt). ProgramEnds words file made p b) (texts.program text g.0 h.0 g.2 h.2) g.3)

  -- ---- a call

  -- the source failed, gave too much, or what is no saved run, or nothing of that, and a text is run
  abbrev WordsEnd : OzCall → RunOutput → Options → Status → Type 0
  WordsEnd seen made words status =
      ((status ≡ ReadFault) × ReadsSource words.action × HasFault seen.source)
      ⊎ (((status ≡ TooLong) × ReadsSource words.action × HasNoFault seen.source × Gives seen.source (λ n. byte_limit words.action < n))
      ⊎ (((at : ℕ) × (status ≡ BadFile at) × (words.action ≡ Check) × (bytes : List ℕ) × IsGiven file_limit seen.source bytes × IsFirstFault bytes (Bad at))
      ⊎ ((file : Option SavedRun) × (text : List ℕ) × IsTextOf words.action file seen.source text × TextEnds words file made text status)))

  -- the words are refused, or they are taken
  abbrev Fate : OzCall → RunOutput → Status → Type 0
  Fate seen made status =
      ((status ≡ Usage) × (AreTaken seen.words → ⊥)) ⊎ ((words : Options) × HasOptions seen words × WordsEnd seen made words status)

  -- ---- of a cause

  check_of_file : (a : Action) (run : SavedRun) (s : Stream) (text : List ℕ) → IsTextOf a (Some run) s text → a ≡ Check
  check_of_file Check run s text h = refl
  check_of_file Run run s text h = absurd h
  check_of_file Central run s text h = absurd h
  check_of_file (Gen size) run s text h = absurd h
  check_of_file Save run s text h = absurd h

  is_new_of : (file : Option SavedRun) (words options : Options) → options ≡ options_with file words → IsNew options.action → IsNew words.action
  is_new_of None words options is h = subst (λ (o : Options). IsNew o.action) is h
  is_new_of (Some run) words options is h = subst (λ (o : Options). IsNew o.action) is h

  is_new_end : (p : List Stmt) (options : Options) (made : RunOutput) (status : Status) → Ended p options made status → IsNew options.action
  is_new_end p options made status h = h.ended.is_new

  -- a new run of a program
  of_run : (seen : OzCall) (made : RunOutput) (status : Status) → IsOfWork status → HasRunStatus seen made status → Fate seen made status
  of_run seen made status work (given, came) =
      let ended = ended_as given.program given.options made status work came in
      let anew : IsNew given.words.action = is_new_of given.file given.words given.options given.with_file (is_new_end given.program given.options made status ended) in
      inr (
        given.words,
        given.says,
        inr (inr (inr (
          given.file,
          given.text,
          given.is_text,
          inr (inr (
            given.program,
            given.utf8,
            given.reads,
            inl (anew, subst (λ (o : Options). Ended given.program o made status) given.with_file ended),
          )),
        ))),
      )

  -- a saved run that was made again
  of_file : (seen : OzCall) (made : RunOutput) (status : Status) → (given : HasProgram seen) → (run : SavedRun) → given.file ≡ Some run → Found given.program run made status → Fate seen made status
  of_file seen made status given run is found =
      let check : given.words.action ≡ Check = check_of_file given.words.action run seen.source given.text (subst (λ (f : Option SavedRun). IsTextOf given.words.action f seen.source given.text) is given.is_text) in
      inr (
        given.words,
        given.says,
        inr (inr (inr (given.file, given.text, given.is_text, inr (inr (given.program, given.utf8, given.reads, inr (check, (run, is, found))))))),
      )

  fate_of : (seen : OzCall) (made : RunOutput) (status : Status) → IsOfWork status → Cause seen made status → Fate seen made status
  fate_of seen made Usage work cause = inl (refl, cause.0)
  fate_of seen made ReadFault work ((words, says, reads, (failed, gave)), nothing) = inr (words, says, inl (refl, reads, failed))
  fate_of seen made TooLong work ((words, says, reads, (steady, gave)), nothing) = inr (words, says, inr (inl (refl, reads, steady, gave)))
  fate_of seen made (BadFile at) work ((words, says, is, (bytes, gave, wrong)), nothing) =
      inr (words, says, inr (inr (inl (at, refl, is, bytes, gave, wrong))))
  fate_of seen made (NotUtf8 at) work ((words, says, (file, text, is_text, (reads, bad, up_to))), nothing) =
      inr (words, says, inr (inr (inr (file, text, is_text, inl (at, refl, bad, up_to)))))
  fate_of seen made (Refused fault) work ((words, says, (file, text, is_text, (utf8, has))), nothing) =
      inr (words, says, inr (inr (inr (file, text, is_text, inr (inl (fault, refl, utf8, has))))))
  fate_of seen made (Quiescent ended waiting) work cause = of_run seen made (Quiescent ended waiting) work cause
  fate_of seen made (StepLimit site) work cause = of_run seen made (StepLimit site) work cause
  fate_of seen made MessageLimit work cause = of_run seen made MessageLimit work cause
  fate_of seen made (Checked entries picks) work (given, run, is, ran, right) = of_file seen made (Checked entries picks) given run is (inl (entries, picks, refl, right))
  fate_of seen made (Wrong at) work (given, run, is, ran, wrong) = of_file seen made (Wrong at) given run is (inr (at, refl, wrong))
  fate_of seen made WriteFault work cause = absurd work
  fate_of seen made Memory work cause = absurd work

  -- ---- of the same words

  module _ (seen : OzCall) (made : RunOutput) (words : Options) (is_told : IsTold seen.source) where
    abbrev s : Stream
    s = seen.source

    -- the source gave no more than may be, and its count stood still, where a text is run
    steady_text : (file : Option SavedRun) (text : List ℕ) → ReadsSource words.action → IsTextOf words.action file s text → HasFault s → ⊥
    steady_text file text reads is fault = no_fault s is_told (bytes_of_text words.action file s text reads is).1.3 fault

    short_text : (file : Option SavedRun) (text : List ℕ) → ReadsSource words.action → IsTextOf words.action file s text → Gives s (λ n. byte_limit words.action < n) → ⊥
    short_text file text reads is (front, gave, long) =
        let whole = bytes_of_text words.action file s text reads is in
        let same : length front ≡ length whole.0 = ap length (given_same s is_told.0.0 whole.0 front (byte_limit words.action) is_told.0.1 whole.1 gave) in
        let short = whole.1.2 in
        omega (arith, same, short, long)

    short_file : words.action ≡ Check → (bytes : List ℕ) → IsGiven file_limit s bytes → Gives s (λ n. byte_limit words.action < n) → ⊥
    short_file is bytes gave (front, given, long) =
        let same : length front ≡ length bytes = ap length (given_same s is_told.0.0 bytes front file_limit is_told.0.1 gave given) in
        let limit : byte_limit words.action ≡ file_limit = ap byte_limit is in
        let short = gave.2 in
        omega (arith, same, short, long, limit)

    -- bytes that are no saved run are not the text of one
    bad_or_text : (at : ℕ) (bytes : List ℕ) (file : Option SavedRun) (text : List ℕ) → words.action ≡ Check → IsGiven file_limit s bytes → IsFirstFault bytes (Bad at) → IsTextOf words.action file s text → ⊥
    bad_or_text at bytes file text is gave wrong is_text = go file (subst (λ (a : Action). IsTextOf a file s text) is is_text)
      where
        go : (f : Option SavedRun) → IsTextOf Check f s text → ⊥
        go None h = h
        go (Some run) h =
            let same : bytes ≡ h.0.0 = given_same s is_told.0.0 h.0.0 bytes file_limit is_told.0.1 h.0.1 gave.0 in
            saved_or_bad h.0.0 run (Bad at) h.0.2 (subst (λ (b : List ℕ). IsFirstFault b (Bad at)) same wrong)

    bad_same : (i k : ℕ) (a b : List ℕ) → IsGiven file_limit s a → IsGiven file_limit s b → IsFirstFault a (Bad i) → IsFirstFault b (Bad k) → i ≡ k
    bad_same i k a b gave given h g =
        let same : b ≡ a = given_same s is_told.0.0 a b file_limit is_told.0.1 gave given.0 in
        let one : Bad i ≡ Bad k = one_fault a (Bad i) (Bad k) h (subst (λ (c : List ℕ). IsFirstFault c (Bad k)) same g) in
        place one
      where
        place_of : FileFault → ℕ
        place_of (Bad at) = at
        place_of _ = 0

        place : Bad i ≡ Bad k → i ≡ k
        place e = ap place_of e

    -- of two ends one is told
    words_same : (a b : Status) → WordsEnd seen made words a → WordsEnd seen made words b → a ≡ b
    words_same a b (inl h) (inl g) = h.0 ∙ sym g.0
    words_same a b (inl h) (inr (inl g)) = absurd (no_fault s is_told g.2 h.2)
    words_same a b (inl h) (inr (inr (inl g))) = absurd (no_fault s is_told g.4.3 h.2)
    words_same a b (inl h) (inr (inr (inr g))) = absurd (steady_text g.0 g.1 h.1 g.2 h.2)
    words_same a b (inr (inl h)) (inl g) = absurd (no_fault s is_told h.2 g.2)
    words_same a b (inr (inl h)) (inr (inl g)) = h.0 ∙ sym g.0
    words_same a b (inr (inl h)) (inr (inr (inl g))) = absurd (short_file g.2 g.3 g.4 h.3)
    words_same a b (inr (inl h)) (inr (inr (inr g))) = absurd (short_text g.0 g.1 h.1 g.2 h.3)
    words_same a b (inr (inr (inl h))) (inl g) = absurd (no_fault s is_told h.4.3 g.2)
    words_same a b (inr (inr (inl h))) (inr (inl g)) = absurd (short_file h.2 h.3 h.4 g.3)
    words_same a b (inr (inr (inl h))) (inr (inr (inl g))) = h.1 ∙ (ap BadFile (bad_same h.0 g.0 h.3 g.3 h.4 g.4 h.5 g.5) ∙ sym g.1)
    words_same a b (inr (inr (inl h))) (inr (inr (inr g))) = absurd (bad_or_text h.0 h.3 g.0 g.1 h.2 h.4 h.5 g.2)
    words_same a b (inr (inr (inr h))) (inl g) = absurd (steady_text h.0 h.1 g.1 h.2 g.2)
    words_same a b (inr (inr (inr h))) (inr (inl g)) = absurd (short_text h.0 h.1 g.1 h.2 g.3)
    words_same a b (inr (inr (inr h))) (inr (inr (inl g))) = absurd (bad_or_text g.0 g.3 h.0 h.1 g.2 g.4 g.5 h.2)
    words_same a b (inr (inr (inr h))) (inr (inr (inr g))) =
        let same = text_same saves words.action h.0 g.0 s h.1 g.1 is_told.0 h.2 g.2 in
        texts_same words h.0 made h.1 a b h.3
        (subst (λ (z : Option SavedRun × List ℕ). TextEnds words z.0 made z.1 b) (λ i. (sym same.0 i, sym same.1 i)) g.3)

  fates_same : (seen : OzCall) (made : RunOutput) (a b : Status) → IsTold seen.source → Fate seen made a → Fate seen made b → a ≡ b
  fates_same seen made a b is_told (inl h) (inl g) = h.0 ∙ sym g.0
  fates_same seen made a b is_told (inl h) (inr g) = absurd (h.1 g.1.0)
  fates_same seen made a b is_told (inr h) (inl g) = absurd (g.1 h.1.0)
  fates_same seen made a b is_told (inr h) (inr g) =
      words_same seen made h.0 is_told a b h.2
      (subst (λ (o : Options). WordsEnd seen made o b) (options_same seen g.0 h.0 g.1 h.1) g.2)

  pub causes_exclude : CausesExclude
  causes_exclude seen made a b is_told of_a of_b cause_a cause_b = fates_same seen made a b is_told (fate_of seen made a of_a cause_a) (fate_of seen made b of_b cause_b)
