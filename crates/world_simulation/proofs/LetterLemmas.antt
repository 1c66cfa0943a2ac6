-- Requests and answers are fit for the sites that they go to, and a thread that comes does not live there, where the world is joined with the machine.
use Rattle.std.proofs.Common.{rules, arith, ◌≡◌, ◌≢◌, ◌∙◌, sym, ap, refl, subst, ℕ, ◌≤◌, List, [], ◌∷◌, Bool, true, false, Some, None}
use Rattle.std.specs.Prelude.{Option, not}
use Rattle.std.specs.Map.{lookup}
use Rattle.tree_node.specs.declared.names.VarName.{VarName}
use Rattle.tree_node.specs.declared.names.CellName.{CellName}
use Rattle.tree_node.specs.declared.names.ThreadName.{ThreadName}
use Rattle.tree_node.specs.Assoc.{value_of}
use Rattle.tree_node.specs.Goal.{equal_port}
use Rattle.tree_node.specs.State.{Stack, equal_thread}
use Rattle.tree_node.specs.Store.{Equation}
use Rattle.kernel_syntax.specs.declared.stmt.Stmt.{Stmt}
use Rattle.site_message.specs.declared.message.Msg.{Msg}
use Rattle.site_message.specs.declared.message.Msg.TheVariants as msg
use Rattle.site_message.specs.declared.message.Sent.{Sent}
use Rattle.site_message.specs.declared.turn.Turn.{Turn}
use Rattle.site_message.specs.Journal.{IsTravelling, travelling}
use Rattle.site_message.proofs.JournalLemmas.{travelling_tells}
use Rattle.oz_model.specs.Step.{threads_born}
use Rattle.thread_roster.specs.declared.mode.Awaited.TheVariants.{Cell}
use Rattle.thread_roster.specs.declared.mode.Mode.{Mode}
use Rattle.thread_roster.specs.declared.mode.Mode.TheVariants as mode
use Rattle.site_model.specs.Fit.{CanTake, IsOtherSite}
use Rattle.site_model.specs.Messages.{birth}
use Rattle.site_model.specs.Requests.{NewEnd, OldContent}
use Rattle.site_model.specs.Run.{WorldRun}
use Rattle.site_model.specs.Site.{Site, Threads, ThreadState, initial_site, thread_state}
use Rattle.world_model.specs.Claims.{Asking, EndOf, ContentOf, awaited, request, Asked, Answered}
use Rattle.world_model.specs.Schedule.{schedule}
use Rattle.world_model.specs.Shown.{is_asking}
use Rattle.world_model.specs.World.{Sites, IsOnItsWay, world_of}
use Rattle.world_model.proofs.PutLemmas.{nat_decides}
use Rattle.world_variables.proofs.StartLemmas.{start_thread}
use Rattle.world_cells.specs.Standing.{IsStanding}
use Rattle.world_answers.specs.Joined.{Joined}
use Rattle.world_answers.proofs.LetterLemmas.{asked_port, letters_taken}
use Rattle.world_answers.proofs.ShownLemmas.{stands_to, shown_threads_real}
use Rattle.world_answers.proofs.StandLemmas.{asks_for}
use Rattle.world_messages.specs.Unfit.{IsLetter, BringsNew, TakesCells, SitesCells}
use Rattle.world_messages.proofs.UnfitLemmas.{outside, own_number}

-- a thread stands at one of the n sites
pub lives_in : (p : List Stmt) (n limit : ℕ) (j : List Turn) (f : Sites) → 1 ≤ n → WorldRun p n limit j f → (i : ℕ) (o : ThreadName) (v : ThreadState) → value_of equal_thread (f i).threads o ≡ Some v → (1 ≤ i) × (i ≤ n)
lives_in p n limit j f some run i o v h = search (rules, arith, out)
  where
    out : ((1 ≤ i) × (i ≤ n) → ⊥) → ⊥
    out g =
        let one : i ≡ 1 = (start_thread p n i o v (ap (λ (t : Site). value_of equal_thread t.threads o) (sym (outside p n limit j f run i g)) ∙ h)).0 in
        g (omega (arith, one), omega (arith, one, some))

pub lives_real : (p : List Stmt) (n limit : ℕ) (j : List Turn) (f : Sites) → 1 ≤ n → WorldRun p n limit j f → (i : ℕ) (o : ThreadName) (v : ThreadState) → value_of equal_thread (f i).threads o ≡ Some v → i ≢ 0
lives_real p n limit j f some run i o v h none = let range = lives_in p n limit j f some run i o v h in absurd (omega (arith, range.0, none))

module _ (p : List Stmt) (n limit : ℕ) (j : List Turn) (f : Sites) (some : 1 ≤ n) (run : WorldRun p n limit j f) (r : Joined p (world_of j f) (schedule j)) where
  -- ---- requests and answers

  stationary : (c : CellName) → is_asking (mode.WaitsFor (Cell c)) ≡ true → c.at ≢ 0
  stationary c asks none =
      let no_answer : is_asking (mode.WaitsFor (Cell c)) ≡ false = ap not ((nat_decides c.at 0).1 none) in
      let both : true ≡ false = sym asks ∙ no_answer in cc

  -- where a letter goes to, its keeper is or its thread waits, so it is a site
  pub goes_to : (k to : ℕ) (o : Msg) → IsTravelling j k (record { to = to; msg = o }) → (IsStanding o → ⊥) → to ≢ 0
  goes_to k to o at keepers none = go o ((travelling_tells j k (record { to = to; msg = o })).1 at) keepers
    where
      go : (o : Msg) → IsOnItsWay (travelling j) k to o → (IsStanding o → ⊥) → ⊥
      go (msg.PortSend q a b) h g =
          let home : q.site ≡ 0 = sym (r.answers.asking.grounded (Asked k to (EndOf q) a b) ([], h)).0 ∙ none in
          let end = asked_port p (world_of j f) (schedule j) r k to q a b h in
          let empty : f 0 ≡ initial_site p n 0 = outside p n limit j f run 0 (λ x. (let low : 1 ≤ 0 = x.0 in absurd (omega (arith, low)))) in
          let there : lookup (equal_port q) (f 0).ports ≡ Some end.0 = subst (λ (l : ℕ). lookup (equal_port q) (f l).ports ≡ Some end.0) home end.1 in
          let both : ◌≡◌ {A = Option VarName} None (Some end.0) = ap (λ (t : Site). lookup (equal_port q) t.ports) (sym empty) ∙ there in cc
      go (msg.PortEnd a old new bundle) h g = let x = r.answers.asking.grounded (Answered k to a (NewEnd old new)) (bundle, h) in (r.answers.named to a x.0 x.1 x.2).0 none
      go (msg.CellMake c v bundle) h g = let x = r.answers.contents.makes k to c v (bundle, h) in x.1 (sym x.0 ∙ none)
      go (msg.CellAsk c a b v bundle) h g = let x = r.answers.asking.grounded (Asked k to (ContentOf c v) a b) (bundle, h) in stationary c x.3.1 (sym x.0 ∙ none)
      go (msg.CellOld a v bundle) h g = let x = r.answers.asking.grounded (Answered k to a (OldContent v)) (bundle, h) in (r.answers.named to a x.0 x.1 x.2).0 none
      go (msg.Spawn a b c d) h g = g tt
      go (msg.Register a b) h g = g tt
      go (msg.BindReq a b c d) h g = g tt
      go (msg.Binding a b c) h g = g tt
      go (msg.Get a b) h g = g tt
      go (msg.Forward a b) h g = g tt
      go (msg.Put a b c) h g = g tt

  letter : (k to : ℕ) (o : Msg) → IsTravelling j k (record { to = to; msg = o }) → (IsStanding o → ⊥) → CanTake (f to) o
  letter k to o at keepers = letters_taken p (world_of j f) (schedule j) k to o (goes_to k to o at keepers) r ((travelling_tells j k (record { to = to; msg = o })).1 at) keepers

  pub asking_site : (k to : ℕ) (a : Asking) (o : ThreadName) (b : ℕ) (bundle : List Equation) → IsTravelling j k (record { to = to; msg = request a o b bundle }) → IsOtherSite n (f to) b
  asking_site k to a o b bundle at =
      let x = r.answers.asking.grounded (Asked k to a o b) (bundle, (travelling_tells j k (record { to = to; msg = request a o b bundle })).1 at) in
      let range = lives_in p n limit j f some run b o (x.2, mode.WaitsFor (awaited a)) x.3.0 in
      (range.0, range.1, λ e. x.1 (e ∙ own_number p n limit j f run to))

  -- each of them is fit in these two
  pub letters : (k : ℕ) (m : Sent) → IsTravelling j k m → IsLetter m.msg → TakesCells (f m.to) m.msg × SitesCells n (f m.to) m.msg
  letters k m at is = go m.msg at is
    where
      go : (o : Msg) → IsTravelling j k (record { to = m.to; msg = o }) → IsLetter o → TakesCells (f m.to) o × SitesCells n (f m.to) o
      go (msg.PortSend q o a) at is = (letter k m.to (msg.PortSend q o a) at (λ h. h), asking_site k m.to (EndOf q) o a [] at)
      go (msg.PortEnd o old new bundle) at is = (letter k m.to (msg.PortEnd o old new bundle) at (λ h. h), tt)
      go (msg.CellMake c v bundle) at is = (letter k m.to (msg.CellMake c v bundle) at (λ h. h), tt)
      go (msg.CellAsk c o a v bundle) at is = (letter k m.to (msg.CellAsk c o a v bundle) at (λ h. h), asking_site k m.to (ContentOf c v) o a bundle at)
      go (msg.CellOld o v bundle) at is = (letter k m.to (msg.CellOld o v bundle) at (λ h. h), tt)
      go (msg.Spawn a b c d) at is = absurd is
      go (msg.Register a b) at is = absurd is
      go (msg.BindReq a b c d) at is = absurd is
      go (msg.Binding a b c) at is = absurd is
      go (msg.Get a b) at is = absurd is
      go (msg.Forward a b) at is = absurd is
      go (msg.Put a b c) at is = absurd is

  -- ---- threads that come

  pub comes_new : (k : ℕ) (m : Sent) → IsTravelling j k m → BringsNew (f m.to) m.msg
  comes_new k m at = brings m.msg ((travelling_tells j k m).1 at)
    where
      brings : (o : Msg) → IsOnItsWay (travelling j) k m.to o → BringsNew (f m.to) o
      brings (msg.Spawn th code vars bundle) q = go (thread_state (f m.to) th) refl
        where
          born : (st : Stack) × (threads_born p (Some (birth th code vars)) ≡ (th, st) ∷ [])
          born = (_, refl)

          go : (o : Option ThreadState) → thread_state (f m.to) th ≡ o → thread_state (f m.to) th ≡ None
          go None e = e
          go (Some v) e = one (is_asking v.1) refl
            where
              one : (b : Bool) → is_asking v.1 ≡ b → thread_state (f m.to) th ≡ None
              one false g = absurd (r.reached.parts.placed.apart m.to k th v.0 born.0 (v.1, ap (λ (ts : Threads). value_of equal_thread ts th) (shown_threads_real f r.transit m.to (lives_real p n limit j f some run m.to th v e)) ∙ stands_to (f m.to).threads th v e g) (m.to, code, vars, bundle, q, born.1))
              one true g =
                  let a = asks_for v.1 g in
                  let away = r.answers.asking.stands m.to th a.0 v.0 (e ∙ ap (λ (x : Mode). Some (v.0, x)) a.1, subst (λ (x : Mode). is_asking x ≡ true) a.1 g) in
                  absurd (r.reached.parts.placed.apart 0 k th away.0 born.0 (mode.Runs, away.1) (m.to, code, vars, bundle, q, born.1))
      brings (msg.Register x i) q = tt
      brings (msg.BindReq a b c d) q = tt
      brings (msg.Binding x t bundle) q = tt
      brings (msg.Get a b) q = tt
      brings (msg.Forward a b) q = tt
      brings (msg.Put a b c) q = tt
      brings (msg.PortSend a b c) q = tt
      brings (msg.PortEnd a b c d) q = tt
      brings (msg.CellMake a b c) q = tt
      brings (msg.CellAsk a b c d e) q = tt
      brings (msg.CellOld a b c) q = tt
