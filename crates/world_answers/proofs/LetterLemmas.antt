-- Each request, each answer and what tells a home can be taken where it comes.
use Rattle.std.proofs.Common.{◌≡◌, ◌∙◌, sym, ap, refl, subst, ℕ, List, [], ◌∷◌, Bool, true, false, Some, None}
use Rattle.std.specs.Prelude.{Option, Contains, IsSome, ◌≢◌, not}
use Rattle.std.specs.Map.{lookup}
use Rattle.tree_node.specs.declared.names.VarName.{VarName}
use Rattle.tree_node.specs.declared.names.CellName.{CellName}
use Rattle.tree_node.specs.declared.names.PortName.{PortName}
use Rattle.tree_node.specs.declared.names.ThreadName.{ThreadName}
use Rattle.tree_node.specs.declared.names.Name.TheVariants as name
use Rattle.tree_node.specs.declared.pick.Pick.{Pick}
use Rattle.tree_node.specs.Each.{Each}
use Rattle.tree_node.specs.Goal.{equal_port}
use Rattle.tree_node.specs.Names.{IsNew, EachOfEquation, EachOfStack}
use Rattle.tree_node.specs.Assoc.{value_of}
use Rattle.tree_node.specs.State.{Stack, State, equal_thread}
use Rattle.tree_node.specs.Store.{Equation}
use Rattle.tree_node.proofs.ClassLemmas.{Contains-head, Contains-tail}
use Rattle.kernel_syntax.specs.declared.stmt.Stmt.{Stmt}
use Rattle.site_message.specs.declared.message.Msg.TheVariants as msg
use Rattle.oz_model.proofs.PortLemmas.{ports_have_ends}
use Rattle.thread_roster.specs.declared.mode.Awaited.{Awaited}
use Rattle.thread_roster.specs.declared.mode.Awaited.TheVariants.{Cell, Port}
use Rattle.thread_roster.specs.declared.mode.Mode.TheVariants as mode
use Rattle.site_model.specs.Fit.{CanTake}
use Rattle.site_model.specs.Requests.{Answer, NewEnd, OldContent}
use Rattle.site_model.specs.Site.{home_record}
use Rattle.world_model.specs.Claims.{Asking, EndOf, ContentOf, awaited, Asks, IsAnswerTo, answer, Asked, Answered, IsClaim, IsAsking, FitsClaim, keeper_of}
use Rattle.world_model.specs.Keepers.{homes, ports, early_at}
use Rattle.world_model.specs.Shown.{is_asking}
use Rattle.world_model.specs.World.{World, IsOnItsWay, eqs, threads}
use Rattle.world_model.proofs.PutLemmas.{nat_decides}
use Rattle.world_variables.proofs.FollowLemmas.{value_each}
use Rattle.world_cells.proofs.SendLemmas.{each_part}
use Rattle.world_answers.specs.Joined.{Joined}
use Rattle.world_answers.specs.Laws.{LettersAreTaken}
use Rattle.world_answers.proofs.AnswerLemmas.{asking_one}
use Rattle.world_answers.proofs.ClaimLemmas.{own_found}
use Rattle.world_answers.proofs.SayLemmas.{request_names}
use Rattle.world_answers.proofs.SendJoinLemmas.{send_takes}

module _ (p : List Stmt) (i : ℕ) (real : i ≢ 0) (w : World) (ks : List Pick) (j : Joined p w ks) where
  number : (w.sites i).records.site ≡ i
  number = (j.reached.parts.kept i).site

  -- an answer finds its thread, which waits for such an answer
  awaits : (k : ℕ) (n : ThreadName) (x : Answer) (bundle : List Equation) → IsOnItsWay w.mail k i (answer n x bundle) → (b : Asking) × (st : Stack) × IsAsking (threads w.sites) i n (awaited b) st × IsAnswerTo b x × (keeper_of (awaited b) ≢ i)
  awaits k n x bundle at = (found.1, ground.1, subst (λ (a : Awaited). IsAsking (threads w.sites) i n a ground.1) (sym found.2) ground.2, found.4, λ e. ground.3 (ap keeper_of (sym found.2) ∙ e))
    where
      ground : (a : Awaited) × (st : Stack) × IsAsking (threads w.sites) i n a st × (keeper_of a ≢ i)
      ground = j.answers.asking.grounded (Answered k i n x) (bundle, at)

      fits : (z : Stack) × FitsClaim p (eqs w.sites i) i ground.0 ground.1 z (Answered k i n x)
      fits = (all.0, all.2)
        where
          all : (z : Stack) × (value_of equal_thread j.transit n ≡ Some (z, mode.Runs)) × FitsClaim p (eqs w.sites i) i ground.0 ground.1 z (Answered k i n x)
          all = own_found p (eqs w.sites) (IsAsking (threads w.sites)) (IsClaim w.mail (early_at (homes w.sites))) j.transit j.answers.asking i n ground.0 ground.1 (Answered k i n x) (λ b su h. asking_one (threads w.sites) i n ground.0 ground.1 ground.2 b su h) ground.2 (bundle, at) refl

      found : FitsClaim p (eqs w.sites i) i ground.0 ground.1 fits.0 (Answered k i n x)
      found = fits.1

  end_taken : (k : ℕ) (n : ThreadName) (old new : VarName) (bundle : List Equation) → IsOnItsWay w.mail k i (msg.PortEnd n old new bundle) → CanTake (w.sites i) (msg.PortEnd n old new bundle)
  end_taken k n old new bundle at = go (awaits k n (NewEnd old new) bundle at)
    where
      go : (b : Asking) × (st : Stack) × IsAsking (threads w.sites) i n (awaited b) st × IsAnswerTo b (NewEnd old new) × (keeper_of (awaited b) ≢ i) → CanTake (w.sites i) (msg.PortEnd n old new bundle)
      go (EndOf q, st, waits, fits, far) = (st, q, (λ e. far (e ∙ number)), waits.0)
      go (ContentOf c v, st, waits, fits, far) = absurd fits

  old_taken : (k : ℕ) (n : ThreadName) (v : VarName) (bundle : List Equation) → IsOnItsWay w.mail k i (msg.CellOld n v bundle) → CanTake (w.sites i) (msg.CellOld n v bundle)
  old_taken k n v bundle at = go (awaits k n (OldContent v) bundle at)
    where
      stationary : (c : CellName) → is_asking (mode.WaitsFor (Cell c)) ≡ true → c.at ≢ 0
      stationary c asks none =
          let no_answer : is_asking (mode.WaitsFor (Cell c)) ≡ false = ap not ((nat_decides c.at 0).1 none) in
          let both : true ≡ false = sym asks ∙ no_answer in cc

      go : (b : Asking) × (st : Stack) × IsAsking (threads w.sites) i n (awaited b) st × IsAnswerTo b (OldContent v) × (keeper_of (awaited b) ≢ i) → CanTake (w.sites i) (msg.CellOld n v bundle)
      go (ContentOf c x, st, waits, fits, far) = (st, c, stationary c waits.1, (λ e. far (e ∙ number)), waits.0)
      go (EndOf q, st, waits, fits, far) = absurd fits

  make_taken : (k : ℕ) (c : CellName) (v : VarName) (bundle : List Equation) → IsOnItsWay w.mail k i (msg.CellMake c v bundle) → CanTake (w.sites i) (msg.CellMake c v bundle)
  make_taken k c v bundle at =
      let told = j.answers.contents.makes k i c v (bundle, at) in
      (sym told.0 ∙ sym number, subst (λ (l : ℕ). (home_record (w.sites l) c).content ≡ None) (sym told.0) told.2)

  ask_taken : (k : ℕ) (c : CellName) (n : ThreadName) (o : ℕ) (v : VarName) (bundle : List Equation) → IsOnItsWay w.mail k i (msg.CellAsk c n o v bundle) → CanTake (w.sites i) (msg.CellAsk c n o v bundle)
  ask_taken k c n o v bundle at = sym (j.answers.asking.grounded (Asked k i (ContentOf c v) n o) (bundle, at)).0 ∙ sym number

-- a port that is asked for is kept by its owner
pub asked_port : (p : List Stmt) (w : World) (ks : List Pick) (j : Joined p w ks) (k to : ℕ) (q : PortName) (n : ThreadName) (o : ℕ) → IsOnItsWay w.mail k to (msg.PortSend q n o) → (e : VarName) × (lookup (equal_port q) (ports w.sites q.site) ≡ Some e)
asked_port p w ks j k to q n o at = go (value_of equal_port c.ports q) refl
  where
    c : State
    c = j.reached.centre

    ground : (to ≡ q.site) × (o ≢ to) × (st : Stack) × IsAsking (threads w.sites) o n (Port q) st × Asks p (eqs w.sites o) st (EndOf q)
    ground = j.answers.asking.grounded (Asked k to (EndOf q) n o) ([], at)

    found : (z : Stack) × (value_of equal_thread j.transit n ≡ Some (z, mode.Runs)) × FitsClaim p (eqs w.sites o) o (Port q) ground.2 z (Asked k to (EndOf q) n o)
    found = own_found p (eqs w.sites) (IsAsking (threads w.sites)) (IsClaim w.mail (early_at (homes w.sites))) j.transit j.answers.asking o n (Port q) ground.2 (Asked k to (EndOf q) n o) (λ b su h. asking_one (threads w.sites) o n (Port q) ground.2 ground.3 b su h) ground.3 ([], at) refl

    all : (xs : List Equation) → ((e : Equation) → Contains xs e → Contains c.equations e) → Each (Contains c.equations) xs
    all [] f = tt
    all (x ∷ xs) f = (f x (Contains-head x xs), all xs (λ e h. f e (Contains-tail x e xs h)))

    occurs : IsNew c (name.Port q) → ⊥
    occurs new = (request_names (λ y. y ≢ name.Port q) (λ e. cc) p (eqs w.sites o) ground.2 (each_part (EachOfEquation (λ y. y ≢ name.Port q)) c.equations new.0 (eqs w.sites o) (all (eqs w.sites o) (λ e h. j.reached.parts.knowledge.known o e h)))
        (subst (EachOfStack (λ y. y ≢ name.Port q)) found.2.2 (value_each (λ y. y ≢ name.Port q) c.threads n found.0 new.3 (j.reached.parts.placed.up 0 n found.0 (mode.Runs, found.1))).1) (EndOf q) n 0 [] ground.4 (λ e. cc) tt).0 refl

    go : (x : Option VarName) → value_of equal_port c.ports q ≡ x → (e : VarName) × (lookup (equal_port q) (ports w.sites q.site) ≡ Some e)
    go (Some e) h = (e, j.answers.ends.ends q ∙ h)
    go None h = let both : ◌≡◌ {A = Bool} false true = subst (λ (x : Option VarName). IsSome x) h (ports_have_ends p ks c q j.reached.run occurs) in cc

pub letters_taken : LettersAreTaken
letters_taken p w ks k i (msg.PortSend q n o) real j at letter = send_takes p 0 i real w ks j k q n o at
letters_taken p w ks k i (msg.PortEnd n old new bundle) real j at letter = end_taken p i real w ks j k n old new bundle at
letters_taken p w ks k i (msg.CellMake c v bundle) real j at letter = make_taken p i real w ks j k c v bundle at
letters_taken p w ks k i (msg.CellAsk c n o v bundle) real j at letter = ask_taken p i real w ks j k c n o v bundle at
letters_taken p w ks k i (msg.CellOld n v bundle) real j at letter = old_taken p i real w ks j k n v bundle at
letters_taken p w ks k i (msg.Spawn n code vars bundle) real j at letter = absurd (letter tt)
letters_taken p w ks k i (msg.Register x a) real j at letter = absurd (letter tt)
letters_taken p w ks k i (msg.BindReq x n t bundle) real j at letter = absurd (letter tt)
letters_taken p w ks k i (msg.Binding x t bundle) real j at letter = absurd (letter tt)
letters_taken p w ks k i (msg.Get c a) real j at letter = absurd (letter tt)
letters_taken p w ks k i (msg.Forward c a) real j at letter = absurd (letter tt)
letters_taken p w ks k i (msg.Put c v bundle) real j at letter = absurd (letter tt)
