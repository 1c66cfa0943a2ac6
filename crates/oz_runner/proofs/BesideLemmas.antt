-- What is said of the journal of a call besides, by the cause of its status and by laws over all runs.
use Rattle.std.proofs.Common.{◌≡◌, ◌∙◌, ◌≤◌, ◌⊎◌, arith, sym, subst, List, [], length, inl, inr}
use Rattle.tree_node.specs.declared.pick.Pick.{Pick}
use Rattle.tree_node.specs.State.{State}
use Rattle.kernel_syntax.specs.Program.{IsProgram}
use Rattle.oz_sugar.specs.Texts.{TextsArePrograms}
use Rattle.oz_model.specs.Laws.{CellsAreChains, PortsAreChains}
use Rattle.oz_model.specs.Run.{Run}
use Rattle.oz_words.specs.declared.options.Action.{Action}
use Rattle.oz_words.specs.declared.options.Action.TheVariants as action
use Rattle.oz_show.specs.Status.{HasLine}
use Rattle.oz_show.specs.declared.status.Status.{Status}
use Rattle.oz_show.specs.declared.status.Status.TheVariants.{Quiescent, Usage, Refused, NotUtf8, TooLong, StepLimit, MessageLimit, ReadFault, WriteFault, Memory, Checked, Wrong, BadFile}
use Rattle.site_message.specs.Journal.{sent_of}
use Rattle.site_message.specs.declared.turn.Turn.{Turn}
use Rattle.site_model.specs.Bundle.{bundle_limit}
use Rattle.site_model.specs.Run.{WorldRun}
use Rattle.world_model.specs.Schedule.{schedule}
use Rattle.world_journals.specs.Homes.{HomesAreAsked}
use Rattle.world_journals.specs.Places.{ThreadsStayHome, ThreadsAlwaysStayHome}
use Rattle.world_journals.specs.Requests.{RequestsAreServed}
use Rattle.world_simulation.specs.Distributed.{RunsTakeRows}
use Rattle.world_simulation.specs.Messages.{AllMessagesAreFew}
use Rattle.oz_runner.specs.Besides.{AreMessagesBounded, AreTokensServed, AreExchangesAsked, IsAccounted}
use Rattle.oz_runner.specs.Cause.{Cause, HasProgram}
use Rattle.oz_runner.specs.Cells.{AreExchangesChained, AreSendsChained}
use Rattle.oz_runner.specs.Headline.{Headline}
use Rattle.oz_runner.specs.Messages.{most_messages}
use Rattle.oz_runner.specs.OzCall.{OzCall, RunOutput}
use Rattle.oz_runner.specs.Run.{IsMadeByMachine, IsMadeBySites, IsRun, OfSitesOrMachine}

-- the sites made it, of the program that the text reads
record Ran (seen : OzCall) (made : RunOutput) : Type 0 where
  pub given : HasProgram seen
  pub s : State
  pub by_sites : IsMadeBySites given.program given.options made s
  pub run : Run given.program made.schedule s

pub by_action : (a : Action) (OfSites OfMachine : Type 0) → OfSitesOrMachine a OfSites OfMachine → OfMachine ⊎ OfSites
by_action action.Run OfSites OfMachine holds = inr holds
by_action (action.Gen size) OfSites OfMachine holds = inr holds
by_action action.Save OfSites OfMachine holds = inr holds
by_action action.Check OfSites OfMachine holds = inr holds
by_action action.Central OfSites OfMachine holds = inl holds

of_action : (seen : OzCall) (made : RunOutput) (given : HasProgram seen) (s : State) → Run given.program made.schedule s
    → IsMadeByMachine given.options made ⊎ IsMadeBySites given.program given.options made s → (made.journal ≡ []) ⊎ Ran seen made
of_action seen made given s run (inl alone) = inl alone.0
of_action seen made given s run (inr sites) = inr (record { given = given; s = s; by_sites = sites; run = run })

of_run : (seen : OzCall) (made : RunOutput) (given : HasProgram seen) (s : State) → IsRun given.program given.options made s → (made.journal ≡ []) ⊎ Ran seen made
of_run seen made given s is =
    of_action seen made given s is.run
    (by_action given.options.action (IsMadeBySites given.program given.options made s) (IsMadeByMachine given.options made) is.made_by)

-- by each cause of a status that has a line: nothing ran at the sites, or they made it
by_cause : (seen : OzCall) (made : RunOutput) (worked : Status) → HasLine worked → Cause seen made worked → (made.journal ≡ []) ⊎ Ran seen made
by_cause seen made Usage has cause = inl cause.2.0
by_cause seen made ReadFault has cause = inl cause.1.0
by_cause seen made TooLong has cause = inl cause.1.0
by_cause seen made (BadFile at) has cause = inl cause.1.0
by_cause seen made (NotUtf8 at) has cause = inl cause.1.0
by_cause seen made (Refused fault) has cause = inl cause.1.0
by_cause seen made (Quiescent ended waiting) has (given, (s, end, quiet)) = of_run seen made given s end.run
by_cause seen made (StepLimit site) has (given, (s, end)) = of_run seen made given s end.run
by_cause seen made (Checked entries picks) has (given, file, is, (s, run), found) = of_run seen made given s run
by_cause seen made (Wrong at) has (given, file, is, (s, run), found) = of_run seen made given s run
by_cause seen made MessageLimit has (given, (s, end)) = of_run seen made given s end.run
by_cause seen made WriteFault has cause = absurd has
by_cause seen made Memory has (inl early) = inl early.1.0
by_cause seen made Memory has (inr (given, (s, run), front)) = of_run seen made given s run

-- the laws over all runs
pub record RunLaws : Type 0 where
  pub rows : RunsTakeRows
  pub homes : ThreadsAlwaysStayHome
  pub few : AllMessagesAreFew
  pub served : RequestsAreServed
  pub asked : HomesAreAsked
  pub programs : TextsArePrograms
  pub cells : CellsAreChains
  pub ports : PortsAreChains

-- no journal is of threads that stay
none_moves : (j : List Turn) → j ≡ [] → ThreadsStayHome j
none_moves j is = subst ThreadsStayHome (sym is) (record { steps = tt; once = λ th i k here there. here.1 ∙ sym there.1 })

module _ (seen : OzCall) (made : RunOutput) (laws : RunLaws) (ran : Ran seen made) where
  abbrev given : HasProgram seen
  given = ran.given

  program : IsProgram given.program
  program = laws.programs given.text given.program given.utf8 given.reads

  world : WorldRun given.program given.options.sites bundle_limit made.journal ran.by_sites.states
  world = (laws.rows given.program given.options.sites bundle_limit made.journal ran.by_sites.states program given.range.sites.0 given.range.sites.1 (omega arith)).1 ran.by_sites.run

  stays : ThreadsStayHome made.journal
  stays = laws.homes given.program given.options.sites bundle_limit made.journal ran.by_sites.states world

  bounded : AreMessagesBounded seen made.journal made.schedule
  bounded =
      let all = laws.few given.program given.options.sites bundle_limit made.journal ran.by_sites.states program given.range.sites.0 given.range.sites.1 (omega arith) world in
      let by_picks = sym ran.by_sites.picks in
      inr (
        given,
        all.0,
        subst (λ (picks : List Pick). Run given.program picks all.0) by_picks all.1,
        subst (λ (picks : List Pick). length (sent_of made.journal) ≤ most_messages given.program given.options.sites picks all.0) by_picks all.2,
      )

  served : AreTokensServed seen made.journal
  served = inr (
    given,
    ran.by_sites.states,
    ran.by_sites.run,
    laws.served given.program given.options.sites bundle_limit made.journal ran.by_sites.states program given.range.sites.0 given.range.sites.1 (omega arith) world,
  )

  asked : AreExchangesAsked seen made.journal
  asked = inr (
    given,
    ran.by_sites.states,
    ran.by_sites.run,
    laws.asked given.program given.options.sites bundle_limit made.journal ran.by_sites.states program given.range.sites.0 given.range.sites.1 (omega arith) world,
  )

-- whatever the run, the exchanges of its cells are chains
pub chained : CellsAreChains → (picks : List Pick) → AreExchangesChained picks
chained cells picks = record { chain = λ p s c run. cells p picks s c run }

-- and so are the sends to its ports
pub sent : PortsAreChains → (picks : List Pick) → AreSendsChained picks
sent ports picks = record { chain = λ p s q run. ports p picks s q run }

accounted_by : (seen : OzCall) (made : RunOutput) → RunLaws → (made.journal ≡ []) ⊎ Ran seen made → IsAccounted seen made.journal made.schedule
accounted_by seen made laws (inl none) = record { homes = none_moves made.journal none; few = inl none; served = inl none; asked = inl none; chains = chained laws.cells made.schedule; sends = sent laws.ports made.schedule }
accounted_by seen made laws (inr ran) = record { homes = stays seen made laws ran; few = bounded seen made laws ran; served = served seen made laws ran; asked = asked seen made laws ran; chains = chained laws.cells made.schedule; sends = sent laws.ports made.schedule }

-- what a call promises of its status accounts for its journal
pub accounted : (seen : OzCall) (made : RunOutput) (status : Status) → RunsTakeRows → ThreadsAlwaysStayHome → AllMessagesAreFew → RequestsAreServed → HomesAreAsked → TextsArePrograms
    → CellsAreChains → PortsAreChains → Headline seen made status → IsAccounted seen made.journal made.schedule
accounted seen made status rows homes few served asked programs cells ports whole =
    accounted_by seen made (record { rows = rows; homes = homes; few = few; served = served; asked = asked; programs = programs; cells = cells; ports = ports }) (by_cause seen made whole.worked whole.has_line whole.cause)
