-- Each message that comes keeps a world joined with the machine.
use Rattle.tree_node.specs.declared.names.CellName.{CellName}
use Rattle.std.proofs.Common.{◌≡◌, ◌∙◌, sym, ap, subst, ℕ, ◌≤◌, length, List, [], ◌++◌, ◌⊎◌, append-nil, append_assoc, inl, inr, refl, Some, ◌∷◌}
use Rattle.std.specs.Prelude.{Contains, ◌≢◌, ◌<◌}
use Rattle.tree_node.specs.declared.names.VarName.{VarName}
use Rattle.tree_node.specs.declared.names.Name.TheVariants as name
use Rattle.tree_node.specs.declared.pick.Pick.{Pick}
use Rattle.tree_node.specs.Each.{Each}
use Rattle.kernel_syntax.specs.declared.stmt.Stmt.{Stmt}
use Rattle.site_message.specs.declared.message.Msg.{Msg}
use Rattle.site_message.specs.declared.message.Msg.TheVariants as msg
use Rattle.site_message.specs.declared.message.Sent.{Sent}
use Rattle.oz_model.specs.Run.{exchanges}
use Rattle.tree_node.specs.State.{State}
use Rattle.world_model.specs.Chain.{mobile_cells}
use Rattle.site_model.specs.Bundle.{message_bundle, message_vars}
use Rattle.site_model.specs.Fit.{CanTake}
use Rattle.site_model.specs.Messages.{message_row, reception}
use Rattle.site_model.specs.Requests.{Answer, NewEnd, OldContent}
use Rattle.site_model.specs.Site.{Site}
use Rattle.site_model.specs.Transition.{Transition}
use Rattle.site_model.specs.Variables.{opening}
use Rattle.world_model.specs.Matches.{equations_in}
use Rattle.world_model.specs.Names.{IsHere, here_at}
use Rattle.world_model.specs.World.{World, IsOnItsWay, put, records, mail_from, without_number, after_transition, after_receipt}
use Rattle.world_model.specs.Matches.{IsNumbered}
use Rattle.world_model.specs.Keepers.{homes, early_at}
use Rattle.world_variables.proofs.ReceiveLemmas.{numbered_acts}
use Rattle.world_cells.proofs.TallyLemmas.{OneOfNumber}
use Rattle.site_model.specs.Site.{HomeRecord}
use Rattle.std.proofs.lemmas.List.Elements.{Contains-append_left}
use Rattle.world_model.proofs.MailLemmas.{acts_after, sent_to, gone}
use Rattle.world_model.proofs.PutLemmas.{at_here, field_kept}
use Rattle.world_variables.specs.Laws.{IsForeignBinding}
use Rattle.world_variables.proofs.JournalLemmas.{came_acts}
use Rattle.bind_protocol.specs.Records.{Records}
use Rattle.world_cells.specs.Standing.{IsStanding}
use Rattle.world_cells.proofs.FrameLemmas.{opens_nothing}
use Rattle.world_cells.proofs.MessageTallyLemmas.{AsksFrom, gone_tally}
use Rattle.world_cells.proofs.PutRowLemmas.{one_number}
use Rattle.world_cells.proofs.UnitTallyLemmas.{Tally}
use Rattle.world_model.specs.Claims.{answer}
use Rattle.tree_node.specs.declared.names.ThreadName.{ThreadName}
use Rattle.tree_node.specs.Store.{Equation}
use Rattle.world_cells.proofs.UnitQueueLemmas.{told_all_waiters}
use Rattle.world_answers.specs.Joined.{Joined}
use Rattle.world_answers.proofs.AnswerLemmas.{answer_joined, answer_leaves, answer_owes, answer_balances}
use Rattle.world_answers.proofs.BesideLemmas.{opens_beside}
use Rattle.world_answers.proofs.HomeJoinLemmas.{make_joined, make_leaves, make_owes, ask_joined, ask_leaves, ask_owes, make_balances, ask_balances}
use Rattle.world_answers.proofs.JoinLemmas.{message_joined, heard_tally, heard_owes, heard_balances}
use Rattle.world_answers.proofs.LeaveLemmas.{Paid, Leaves, leaves_none, leaves_tally}
use Rattle.world_answers.proofs.OpenLemmas.{open_world, open_vars, open_joined, open_at}
use Rattle.world_answers.proofs.OwedLemmas.{Owes, Nobody, owes_none, standing_none}
use Rattle.world_answers.proofs.OwingLemmas.{Owing, Owed, owing_served, owing_received}
use Rattle.world_answers.proofs.BalanceLemmas.{Balanced, Balances, Settled, GoesAsAsked, none_came, came_of, balanced_row, balanced_came, balanced_without}
use Rattle.world_answers.proofs.BalanceRowLemmas.{still_balances}
use Rattle.world_answers.proofs.PackLemmas.{IsOfKeepers, of_none}
use Rattle.world_answers.proofs.SendJoinLemmas.{send_joined, send_leaves, send_owes, send_balances}

module _ (p : List Stmt) (limit i : ℕ) (real : i ≢ 0) (w : World) (ks : List Pick) (j : Joined p w ks) (k : ℕ) (m : Msg) (at : IsOnItsWay w.mail k i m) where
  abbrev Goal : Type 0
  Goal = Joined p (after_receipt (Some k) (after_transition w i (reception p limit m (w.sites i)))) (ks ++ (reception p limit m (w.sites i)).picks)

  -- the bundle is known
  told_bundle : IsOfKeepers m → Each (Contains j.reached.centre.equations) (message_bundle m)
  told_bundle keepers = go m keepers (j.reached.parts.knowledge.told k i m at)
    where
      go : (y : Msg) → IsOfKeepers y → Each (Contains j.reached.centre.equations) (equations_in y) → Each (Contains j.reached.centre.equations) (message_bundle y)
      go (msg.PortSend q n a) h b = b
      go (msg.PortEnd n old new bundle) h b = b
      go (msg.CellMake c v bundle) h b = b
      go (msg.CellAsk c n a v bundle) h b = b
      go (msg.CellOld n v bundle) h b = b
      go (msg.Spawn n code vars bundle) h b = absurd (h tt)
      go (msg.Register y a) h b = absurd (h tt)
      go (msg.BindReq y n t bundle) h b = absurd (h tt)
      go (msg.Binding y t bundle) h b = absurd (h tt)
      go (msg.Get c a) h b = absurd (h tt)
      go (msg.Forward c a) h b = absurd (h tt)
      go (msg.Put c v bundle) h b = absurd (h tt)

  module _ (told : Each (Contains j.reached.centre.equations) (message_bundle m)) where
    abbrev v : World
    v = open_world p i real w ks j k m at told

    abbrev first : Transition
    first = opening m (w.sites i)

    opened : Joined p v (ks ++ [])
    opened = open_joined p i real w ks j k m at told

    there : IsOnItsWay v.mail k i m
    there = open_at p i real w ks j k m at told

    low : k < v.sent
    low = opened.reached.numbers.below k i m there

    site_is : v.sites i ≡ first.site
    site_is = at_here w.sites i first.site

    -- from the row on the opened world to the whole
    whole : Joined p (after_transition (after_receipt (Some k) v) i (message_row p limit m (v.sites i))) ((ks ++ []) ++ (message_row p limit m (v.sites i)).picks) → Goal
    whole h = subst (λ (u : World). Joined p u (ks ++ (message_row p limit m first.site).picks)) (sym (ap (after_receipt (Some k)) (acts_after w i first (message_row p limit m first.site)) ∙ came_acts v i (message_row p limit m first.site) k low))
        (subst (λ (y : Site). Joined p (after_transition (after_receipt (Some k) v) i (message_row p limit m y)) (ks ++ (message_row p limit m y).picks)) site_is
        (subst (λ (ls : List Pick). Joined p (after_transition (after_receipt (Some k) v) i (message_row p limit m (v.sites i))) (ls ++ (message_row p limit m (v.sites i)).picks)) (append-nil ks) h))

    -- and for whatever is said of what was sent
    whole_sent : (Q : World → List Pick → List Sent → Type 0) (out : List Sent) → Q (after_transition (after_receipt (Some k) v) i (message_row p limit m (v.sites i))) ((ks ++ []) ++ (message_row p limit m (v.sites i)).picks) ((out ++ first.sent) ++ (message_row p limit m (v.sites i)).sent) →
        Q (after_receipt (Some k) (after_transition w i (reception p limit m (w.sites i)))) (ks ++ (reception p limit m (w.sites i)).picks) (out ++ (reception p limit m (w.sites i)).sent)
    whole_sent Q out h = subst (λ (u : World). Q u (ks ++ (message_row p limit m first.site).picks) (out ++ (first.sent ++ (message_row p limit m first.site).sent))) (sym (ap (after_receipt (Some k)) (acts_after w i first (message_row p limit m first.site)) ∙ came_acts v i (message_row p limit m first.site) k low))
        (subst (λ (ms : List Sent). Q (after_transition (after_receipt (Some k) v) i (message_row p limit m first.site)) (ks ++ (message_row p limit m first.site).picks) ms) (append_assoc out first.sent (message_row p limit m first.site).sent)
        (subst (λ (y : Site). Q (after_transition (after_receipt (Some k) v) i (message_row p limit m y)) (ks ++ (message_row p limit m y).picks) ((out ++ first.sent) ++ (message_row p limit m y).sent)) site_is
        (subst (λ (ls : List Pick). Q (after_transition (after_receipt (Some k) v) i (message_row p limit m (v.sites i))) (ls ++ (message_row p limit m (v.sites i)).picks) ((out ++ first.sent) ++ (message_row p limit m (v.sites i)).sent)) (append-nil ks) h)))

    -- the row keeps the opened world joined, and has to do with no mobile cell
    record Hears : Type 1 where
      joined : Joined p (after_transition (after_receipt (Some k) v) i (message_row p limit m (v.sites i))) ((ks ++ []) ++ (message_row p limit m (v.sites i)).picks)
      end : State
      leaves : Leaves p (v.sites i) opened.reached.centre (message_row p limit m (v.sites i)) end
      served : List ThreadName
      back : ThreadName → Type 0
      owes : Owes p (v.sites i) opened.reached.centre (message_row p limit m (v.sites i)) served back
      balances : (R : ℕ → ThreadName → Type 0) → GoesAsAsked R v → Balances p R (came_of (sent_to i m)) v.sites (put v.sites i (message_row p limit m (v.sites i)).site) opened.reached.centre (message_row p limit m (v.sites i))
      answered : (n : ThreadName) → back n → (x : Answer) × (bundle : List Equation) × IsOnItsWay v.mail k i (answer n x bundle)

    hears_paid : (n : ℕ) (out : List Sent) → IsOfKeepers m → Tally p n w j.reached.centre ks out → Hears →
        Paid p n (after_transition (after_receipt (Some k) v) i (message_row p limit m (v.sites i))) ((ks ++ []) ++ (message_row p limit m (v.sites i)).picks) ((out ++ first.sent) ++ (message_row p limit m (v.sites i)).sent)
    hears_paid n out keepers t h = record {
      joined = h.joined;
      tally = leaves_tally p n (after_receipt (Some k) v) (ks ++ []) opened.reached.centre opened.reached.run (out ++ first.sent) less i (message_row p limit m (v.sites i)) h.end h.leaves h.joined.reached.centre h.joined.reached.run;
    }
      where
        less : Tally p n (after_receipt (Some k) v) opened.reached.centre (ks ++ []) (out ++ first.sent)
        less = gone_tally n v (mobile_cells opened.reached.centre.cells) (out ++ first.sent) (λ b. length (exchanges p (ks ++ []) b)) k i m (one_number v k i m there (λ a b x y. opened.reached.numbers.once k a b x y)) (of_none m keepers)
            (leaves_tally p n w ks j.reached.centre j.reached.run out t i first j.reached.centre (leaves_none p (w.sites i) j.reached.centre first (opens_nothing m (w.sites i)) refl) opened.reached.centre opened.reached.run)

    number : (v.sites i).records.site ≡ i
    number = (opened.reached.parts.kept i).site

    hears_owed : (out : List Sent) → Owing p w ks out → Hears → Owing p (after_transition (after_receipt (Some k) v) i (message_row p limit m (v.sites i))) ((ks ++ []) ++ (message_row p limit m (v.sites i)).picks) ((out ++ first.sent) ++ (message_row p limit m (v.sites i)).sent)
    hears_owed out o h = owing_served p (after_receipt (Some k) v) (ks ++ []) (out ++ first.sent) opened.reached.centre opened.reached.run (owing_received p v (ks ++ []) (out ++ first.sent) k now) i (message_row p limit m (v.sites i)) number h.served h.back
        (λ n b q. let g = h.answered n b in now.unanswered n q k i g.0 g.1 g.2) h.owes
      where
        told_none : Owes p (w.sites i) j.reached.centre first [] Nobody
        told_none = owes_none p (w.sites i) j.reached.centre first Nobody (opens_beside m (w.sites i)).silent (λ a asks far n back st g. (told_all_waiters (w.sites i) (message_bundle m) a).new n st g)

        now : Owing p v (ks ++ []) (out ++ first.sent)
        now = owing_served p w ks out j.reached.centre j.reached.run o i first (j.reached.parts.kept i).site [] Nobody (λ n b q. absurd b) told_none

    -- and what the thread asked for balances
    hears_balanced : (R : ℕ → ThreadName → Type 0) (out : List Sent) → Balanced p R none_came w ks out → Hears → Balanced p R none_came (after_transition (after_receipt (Some k) v) i (message_row p limit m (v.sites i))) ((ks ++ []) ++ (message_row p limit m (v.sites i)).picks) ((out ++ first.sent) ++ (message_row p limit m (v.sites i)).sent)
    hears_balanced R out b h = balanced_row p R (after_receipt (Some k) v) (ks ++ []) (out ++ first.sent) (came_of (sent_to i m)) opened.reached.centre opened.reached.run below i (message_row p limit m (v.sites i))
        (balanced_came p R v (ks ++ []) (out ++ first.sent) k i m there one now) (h.balances R (now.early, now.letters))
      where
        first_row : Balances p R none_came w.sites (put w.sites i first.site) j.reached.centre first
        first_row = still_balances p R w.sites (put w.sites i first.site) j.reached.centre first none_came (λ c th. refl) (λ c. ap (λ (hs : ℕ → List (CellName × HomeRecord)). early_at hs c) (field_kept (λ (s : Site). s.homes) w.sites i first.site (opens_beside m (w.sites i)).homes))
            (λ f vanishes. refl) (standing_none first.sent (opens_beside m (w.sites i)).silent).contents_asked (standing_none first.sent (opens_beside m (w.sites i)).silent).contents_told

        now : Balanced p R none_came v (ks ++ []) (out ++ first.sent)
        now = balanced_row p R w ks out none_came j.reached.centre j.reached.run (λ l o h. j.reached.numbers.below l o.to o.msg h) i first b first_row

        one : OneOfNumber v.mail k (sent_to i m)
        one = one_number v k i m there (λ a b x y. opened.reached.numbers.once k a b x y)

        below : (l : ℕ) (o : Sent) → Contains (without_number k v.mail) (l, o) → l < v.sent
        below l o h = opened.reached.numbers.below l o.to o.msg ((gone k v.mail).old l o.to o.msg h).0

    vars : Each (λ (x : VarName). here_at (records v.sites) i (name.Var x)) (message_vars m)
    vars = open_vars p i real w ks j k m at told

  known : (rs : ℕ → Records) (x : VarName) → here_at rs i (name.Var x) → IsHere (rs i) x
  known rs x (inl h) = h
  known rs x (inr h) = absurd (real h)

-- a request, an answer, or what tells a home of a cell comes to the opened world
keepers_hear : (p : List Stmt) (limit i : ℕ) (real : i ≢ 0) (w : World) (ks : List Pick) (j : Joined p w ks) (k : ℕ) (m : Msg) (at : IsOnItsWay w.mail k i m) (keepers : IsOfKeepers m) → Hears p limit i real w ks j k m at (told_bundle p limit i real w ks j k m at keepers)
keepers_hear p limit i real w ks j k (msg.PortSend q n o) at keepers =
    let told = told_bundle p limit i real w ks j k (msg.PortSend q n o) at keepers in
    record {
      joined = send_joined p limit i real (open_world p i real w ks j k (msg.PortSend q n o) at told) (ks ++ []) (opened p limit i real w ks j k (msg.PortSend q n o) at told) k q n o (there p limit i real w ks j k (msg.PortSend q n o) at told);
      end = _;
      leaves = send_leaves p limit i real (open_world p i real w ks j k (msg.PortSend q n o) at told) (ks ++ []) (opened p limit i real w ks j k (msg.PortSend q n o) at told) k q n o (there p limit i real w ks j k (msg.PortSend q n o) at told);
      served = n ∷ [];
      back = Nobody;
      owes = send_owes p limit i real (open_world p i real w ks j k (msg.PortSend q n o) at told) (ks ++ []) (opened p limit i real w ks j k (msg.PortSend q n o) at told) k q n o (there p limit i real w ks j k (msg.PortSend q n o) at told);
      balances = λ R goes. send_balances p limit i real (open_world p i real w ks j k (msg.PortSend q n o) at told) (ks ++ []) (opened p limit i real w ks j k (msg.PortSend q n o) at told) k q n o (there p limit i real w ks j k (msg.PortSend q n o) at told) R;
      answered = λ o back. absurd back;
    }
keepers_hear p limit i real w ks j k (msg.PortEnd n old new bundle) at keepers =
    let told = told_bundle p limit i real w ks j k (msg.PortEnd n old new bundle) at keepers in
    record {
      joined = answer_joined p i real (open_world p i real w ks j k (msg.PortEnd n old new bundle) at told) (ks ++ []) (opened p limit i real w ks j k (msg.PortEnd n old new bundle) at told) k n (NewEnd old new) bundle (there p limit i real w ks j k (msg.PortEnd n old new bundle) at told) ((vars p limit i real w ks j k (msg.PortEnd n old new bundle) at told).0, (vars p limit i real w ks j k (msg.PortEnd n old new bundle) at told).1.0);
      end = _;
      leaves = answer_leaves p i real (open_world p i real w ks j k (msg.PortEnd n old new bundle) at told) (ks ++ []) (opened p limit i real w ks j k (msg.PortEnd n old new bundle) at told) k n (NewEnd old new) bundle (there p limit i real w ks j k (msg.PortEnd n old new bundle) at told) ((vars p limit i real w ks j k (msg.PortEnd n old new bundle) at told).0, (vars p limit i real w ks j k (msg.PortEnd n old new bundle) at told).1.0);
      served = [];
      back = λ o. o ≡ n;
      owes = answer_owes p i real (open_world p i real w ks j k (msg.PortEnd n old new bundle) at told) (ks ++ []) (opened p limit i real w ks j k (msg.PortEnd n old new bundle) at told) k n (NewEnd old new) bundle (there p limit i real w ks j k (msg.PortEnd n old new bundle) at told) ((vars p limit i real w ks j k (msg.PortEnd n old new bundle) at told).0, (vars p limit i real w ks j k (msg.PortEnd n old new bundle) at told).1.0);
      balances = λ R goes. answer_balances p i real (open_world p i real w ks j k (msg.PortEnd n old new bundle) at told) (ks ++ []) (opened p limit i real w ks j k (msg.PortEnd n old new bundle) at told) k n (NewEnd old new) bundle (there p limit i real w ks j k (msg.PortEnd n old new bundle) at told) ((vars p limit i real w ks j k (msg.PortEnd n old new bundle) at told).0, (vars p limit i real w ks j k (msg.PortEnd n old new bundle) at told).1.0) R;
      answered = λ o same. (NewEnd old new, bundle, subst (λ (y : ThreadName). IsOnItsWay (open_world p i real w ks j k (msg.PortEnd n old new bundle) at told).mail k i (answer y (NewEnd old new) bundle)) (sym same) (there p limit i real w ks j k (msg.PortEnd n old new bundle) at told));
    }
keepers_hear p limit i real w ks j k (msg.CellMake c v bundle) at keepers =
    let told = told_bundle p limit i real w ks j k (msg.CellMake c v bundle) at keepers in
    record {
      joined = make_joined p limit i real (open_world p i real w ks j k (msg.CellMake c v bundle) at told) (ks ++ []) (opened p limit i real w ks j k (msg.CellMake c v bundle) at told) k c v bundle (there p limit i real w ks j k (msg.CellMake c v bundle) at told) (known p limit i real w ks j k (msg.CellMake c v bundle) at (records (open_world p i real w ks j k (msg.CellMake c v bundle) at told).sites) v (vars p limit i real w ks j k (msg.CellMake c v bundle) at told).0);
      end = _;
      leaves = make_leaves p limit i real (open_world p i real w ks j k (msg.CellMake c v bundle) at told) (ks ++ []) (opened p limit i real w ks j k (msg.CellMake c v bundle) at told) k c v bundle (there p limit i real w ks j k (msg.CellMake c v bundle) at told) (known p limit i real w ks j k (msg.CellMake c v bundle) at (records (open_world p i real w ks j k (msg.CellMake c v bundle) at told).sites) v (vars p limit i real w ks j k (msg.CellMake c v bundle) at told).0);
      served = _;
      back = Nobody;
      owes = make_owes p limit i real (open_world p i real w ks j k (msg.CellMake c v bundle) at told) (ks ++ []) (opened p limit i real w ks j k (msg.CellMake c v bundle) at told) k c v bundle (there p limit i real w ks j k (msg.CellMake c v bundle) at told) (known p limit i real w ks j k (msg.CellMake c v bundle) at (records (open_world p i real w ks j k (msg.CellMake c v bundle) at told).sites) v (vars p limit i real w ks j k (msg.CellMake c v bundle) at told).0);
      balances = λ R goes. make_balances p limit i real (open_world p i real w ks j k (msg.CellMake c v bundle) at told) (ks ++ []) (opened p limit i real w ks j k (msg.CellMake c v bundle) at told) k c v bundle (there p limit i real w ks j k (msg.CellMake c v bundle) at told) (known p limit i real w ks j k (msg.CellMake c v bundle) at (records (open_world p i real w ks j k (msg.CellMake c v bundle) at told).sites) v (vars p limit i real w ks j k (msg.CellMake c v bundle) at told).0) R (λ r h. goes.0 c r h);
      answered = λ o back. absurd back;
    }
keepers_hear p limit i real w ks j k (msg.CellAsk c n o v bundle) at keepers =
    let told = told_bundle p limit i real w ks j k (msg.CellAsk c n o v bundle) at keepers in
    record {
      joined = ask_joined p limit i real (open_world p i real w ks j k (msg.CellAsk c n o v bundle) at told) (ks ++ []) (opened p limit i real w ks j k (msg.CellAsk c n o v bundle) at told) k c n o v bundle (there p limit i real w ks j k (msg.CellAsk c n o v bundle) at told) (known p limit i real w ks j k (msg.CellAsk c n o v bundle) at (records (open_world p i real w ks j k (msg.CellAsk c n o v bundle) at told).sites) v (vars p limit i real w ks j k (msg.CellAsk c n o v bundle) at told).0);
      end = (ask_leaves p limit i real (open_world p i real w ks j k (msg.CellAsk c n o v bundle) at told) (ks ++ []) (opened p limit i real w ks j k (msg.CellAsk c n o v bundle) at told) k c n o v bundle (there p limit i real w ks j k (msg.CellAsk c n o v bundle) at told) (known p limit i real w ks j k (msg.CellAsk c n o v bundle) at (records (open_world p i real w ks j k (msg.CellAsk c n o v bundle) at told).sites) v (vars p limit i real w ks j k (msg.CellAsk c n o v bundle) at told).0)).0;
      leaves = (ask_leaves p limit i real (open_world p i real w ks j k (msg.CellAsk c n o v bundle) at told) (ks ++ []) (opened p limit i real w ks j k (msg.CellAsk c n o v bundle) at told) k c n o v bundle (there p limit i real w ks j k (msg.CellAsk c n o v bundle) at told) (known p limit i real w ks j k (msg.CellAsk c n o v bundle) at (records (open_world p i real w ks j k (msg.CellAsk c n o v bundle) at told).sites) v (vars p limit i real w ks j k (msg.CellAsk c n o v bundle) at told).0)).1;
      served = (ask_owes p limit i real (open_world p i real w ks j k (msg.CellAsk c n o v bundle) at told) (ks ++ []) (opened p limit i real w ks j k (msg.CellAsk c n o v bundle) at told) k c n o v bundle (there p limit i real w ks j k (msg.CellAsk c n o v bundle) at told) (known p limit i real w ks j k (msg.CellAsk c n o v bundle) at (records (open_world p i real w ks j k (msg.CellAsk c n o v bundle) at told).sites) v (vars p limit i real w ks j k (msg.CellAsk c n o v bundle) at told).0)).0;
      back = Nobody;
      owes = (ask_owes p limit i real (open_world p i real w ks j k (msg.CellAsk c n o v bundle) at told) (ks ++ []) (opened p limit i real w ks j k (msg.CellAsk c n o v bundle) at told) k c n o v bundle (there p limit i real w ks j k (msg.CellAsk c n o v bundle) at told) (known p limit i real w ks j k (msg.CellAsk c n o v bundle) at (records (open_world p i real w ks j k (msg.CellAsk c n o v bundle) at told).sites) v (vars p limit i real w ks j k (msg.CellAsk c n o v bundle) at told).0)).1;
      balances = λ R goes. ask_balances p limit i real (open_world p i real w ks j k (msg.CellAsk c n o v bundle) at told) (ks ++ []) (opened p limit i real w ks j k (msg.CellAsk c n o v bundle) at told) k c n o v bundle (there p limit i real w ks j k (msg.CellAsk c n o v bundle) at told) (known p limit i real w ks j k (msg.CellAsk c n o v bundle) at (records (open_world p i real w ks j k (msg.CellAsk c n o v bundle) at told).sites) v (vars p limit i real w ks j k (msg.CellAsk c n o v bundle) at told).0) R (goes.1 k i c n o v bundle (there p limit i real w ks j k (msg.CellAsk c n o v bundle) at told));
      answered = λ o back. absurd back;
    }
keepers_hear p limit i real w ks j k (msg.CellOld n v bundle) at keepers =
    let told = told_bundle p limit i real w ks j k (msg.CellOld n v bundle) at keepers in
    record {
      joined = answer_joined p i real (open_world p i real w ks j k (msg.CellOld n v bundle) at told) (ks ++ []) (opened p limit i real w ks j k (msg.CellOld n v bundle) at told) k n (OldContent v) bundle (there p limit i real w ks j k (msg.CellOld n v bundle) at told) (vars p limit i real w ks j k (msg.CellOld n v bundle) at told).0;
      end = _;
      leaves = answer_leaves p i real (open_world p i real w ks j k (msg.CellOld n v bundle) at told) (ks ++ []) (opened p limit i real w ks j k (msg.CellOld n v bundle) at told) k n (OldContent v) bundle (there p limit i real w ks j k (msg.CellOld n v bundle) at told) (vars p limit i real w ks j k (msg.CellOld n v bundle) at told).0;
      served = [];
      back = λ o. o ≡ n;
      owes = answer_owes p i real (open_world p i real w ks j k (msg.CellOld n v bundle) at told) (ks ++ []) (opened p limit i real w ks j k (msg.CellOld n v bundle) at told) k n (OldContent v) bundle (there p limit i real w ks j k (msg.CellOld n v bundle) at told) (vars p limit i real w ks j k (msg.CellOld n v bundle) at told).0;
      balances = λ R goes. answer_balances p i real (open_world p i real w ks j k (msg.CellOld n v bundle) at told) (ks ++ []) (opened p limit i real w ks j k (msg.CellOld n v bundle) at told) k n (OldContent v) bundle (there p limit i real w ks j k (msg.CellOld n v bundle) at told) (vars p limit i real w ks j k (msg.CellOld n v bundle) at told).0 R;
      answered = λ o same. (OldContent v, bundle, subst (λ (y : ThreadName). IsOnItsWay (open_world p i real w ks j k (msg.CellOld n v bundle) at told).mail k i (answer y (OldContent v) bundle)) (sym same) (there p limit i real w ks j k (msg.CellOld n v bundle) at told));
    }
keepers_hear p limit i real w ks j k (msg.Spawn n code vs bundle) at keepers = absurd (keepers tt)
keepers_hear p limit i real w ks j k (msg.Register x a) at keepers = absurd (keepers tt)
keepers_hear p limit i real w ks j k (msg.BindReq x n t bundle) at keepers = absurd (keepers tt)
keepers_hear p limit i real w ks j k (msg.Binding x t bundle) at keepers = absurd (keepers tt)
keepers_hear p limit i real w ks j k (msg.Get c a) at keepers = absurd (keepers tt)
keepers_hear p limit i real w ks j k (msg.Forward c a) at keepers = absurd (keepers tt)
keepers_hear p limit i real w ks j k (msg.Put c v bundle) at keepers = absurd (keepers tt)

standing_or_not : (m : Msg) → IsStanding m ⊎ IsOfKeepers m
standing_or_not (msg.PortSend q n o) = inr (λ h. h)
standing_or_not (msg.PortEnd n old new bundle) = inr (λ h. h)
standing_or_not (msg.CellMake c v bundle) = inr (λ h. h)
standing_or_not (msg.CellAsk c n o v bundle) = inr (λ h. h)
standing_or_not (msg.CellOld n v bundle) = inr (λ h. h)
standing_or_not (msg.Spawn n code vs bundle) = inl tt
standing_or_not (msg.Register x a) = inl tt
standing_or_not (msg.BindReq x n t bundle) = inl tt
standing_or_not (msg.Binding x t bundle) = inl tt
standing_or_not (msg.Get c a) = inl tt
standing_or_not (msg.Forward c a) = inl tt
standing_or_not (msg.Put c v bundle) = inl tt

pub message_comes : (p : List Stmt) (limit i : ℕ) (real : i ≢ 0) (w : World) (ks : List Pick) (j : Joined p w ks) (k : ℕ) (m : Msg) (at : IsOnItsWay w.mail k i m) → IsForeignBinding i m → CanTake (w.sites i) m →
    Joined p (after_receipt (Some k) (after_transition w i (reception p limit m (w.sites i)))) (ks ++ (reception p limit m (w.sites i)).picks)
message_comes p limit i real w ks j k m at far takes = go (standing_or_not m)
  where
    go : IsStanding m ⊎ IsOfKeepers m → Joined p (after_receipt (Some k) (after_transition w i (reception p limit m (w.sites i)))) (ks ++ (reception p limit m (w.sites i)).picks)
    go (inl stands) = message_joined p limit i real w ks j k m stands far at takes
    go (inr keepers) = whole p limit i real w ks j k m at (told_bundle p limit i real w ks j k m at keepers) (keepers_hear p limit i real w ks j k m at keepers).joined

-- and its exchanges pay for the messages of mobile cells
pub message_paid : (p : List Stmt) (n limit i : ℕ) (real : i ≢ 0) (w : World) (ks : List Pick) (out : List Sent) (r : Paid p n w ks out) (k : ℕ) (m : Msg) (at : IsOnItsWay w.mail k i m) → 1 ≤ i → i ≤ n → IsForeignBinding i m → CanTake (w.sites i) m → AsksFrom n m →
    Paid p n (after_receipt (Some k) (after_transition w i (reception p limit m (w.sites i)))) (ks ++ (reception p limit m (w.sites i)).picks) (out ++ (reception p limit m (w.sites i)).sent)
message_paid p n limit i real w ks out r k m at low high far takes asks = go (standing_or_not m)
  where
    go : IsStanding m ⊎ IsOfKeepers m → Paid p n (after_receipt (Some k) (after_transition w i (reception p limit m (w.sites i)))) (ks ++ (reception p limit m (w.sites i)).picks) (out ++ (reception p limit m (w.sites i)).sent)
    go (inl stands) =
        let now = message_joined p limit i real w ks r.joined k m stands far at takes in
        record { joined = now; tally = heard_tally p limit i real w ks r.joined k m stands far at takes n low high out r.tally asks now.reached.centre now.reached.run }
    go (inr keepers) =
        let told = told_bundle p limit i real w ks r.joined k m at keepers in
        whole_sent p limit i real w ks r.joined k m at told (Paid p n) out (hears_paid p limit i real w ks r.joined k m at told n out keepers r.tally (keepers_hear p limit i real w ks r.joined k m at keepers))

-- and what it asks and answers is owed
pub message_owed : (p : List Stmt) (limit i : ℕ) (real : i ≢ 0) (w : World) (ks : List Pick) (out : List Sent) (r : Owed p w ks out) (k : ℕ) (m : Msg) (at : IsOnItsWay w.mail k i m) → IsForeignBinding i m → CanTake (w.sites i) m →
    Owed p (after_receipt (Some k) (after_transition w i (reception p limit m (w.sites i)))) (ks ++ (reception p limit m (w.sites i)).picks) (out ++ (reception p limit m (w.sites i)).sent)
message_owed p limit i real w ks out r k m at far takes = record { joined = message_comes p limit i real w ks r.joined k m at far takes; owing = go (standing_or_not m) }
  where
    go : IsStanding m ⊎ IsOfKeepers m → Owing p (after_receipt (Some k) (after_transition w i (reception p limit m (w.sites i)))) (ks ++ (reception p limit m (w.sites i)).picks) (out ++ (reception p limit m (w.sites i)).sent)
    go (inl stands) = owing_received p (after_transition w i (reception p limit m (w.sites i))) (ks ++ (reception p limit m (w.sites i)).picks) (out ++ (reception p limit m (w.sites i)).sent) k
        (owing_served p w ks out r.joined.reached.centre r.joined.reached.run r.owing i (reception p limit m (w.sites i)) (r.joined.reached.parts.kept i).site [] Nobody (λ n b q. absurd b) (heard_owes p limit i real w ks r.joined k m stands far at takes))
    go (inr keepers) =
        let told = told_bundle p limit i real w ks r.joined k m at keepers in
        whole_sent p limit i real w ks r.joined k m at told (Owing p) out (hears_owed p limit i real w ks r.joined k m at told out r.owing (keepers_hear p limit i real w ks r.joined k m at keepers))

-- and balances
pub message_settled : (p : List Stmt) (R : ℕ → ThreadName → Type 0) (limit i : ℕ) (real : i ≢ 0) (w : World) (ks : List Pick) (out : List Sent) (r : Settled p R w ks out) (k : ℕ) (m : Msg) (at : IsOnItsWay w.mail k i m) → IsForeignBinding i m → CanTake (w.sites i) m →
    Settled p R (after_receipt (Some k) (after_transition w i (reception p limit m (w.sites i)))) (ks ++ (reception p limit m (w.sites i)).picks) (out ++ (reception p limit m (w.sites i)).sent)
message_settled p R limit i real w ks out r k m at far takes = record { joined = message_comes p limit i real w ks r.joined k m at far takes; balanced = go (standing_or_not m) }
  where
    d : Transition
    d = reception p limit m (w.sites i)

    -- a message that is no request leaves those that travel
    standing_came : (m : Msg) → IsStanding m → (c : CellName) (th : ThreadName) → came_of (sent_to i m) c th ≡ 0
    standing_came (msg.Spawn n code vars bundle) h c th = refl
    standing_came (msg.Register x o) h c th = refl
    standing_came (msg.BindReq x n t bundle) h c th = refl
    standing_came (msg.Binding x t bundle) h c th = refl
    standing_came (msg.Get b o) h c th = refl
    standing_came (msg.Forward b o) h c th = refl
    standing_came (msg.Put b v bundle) h c th = refl
    standing_came (msg.PortSend q n o) h c th = absurd h
    standing_came (msg.PortEnd n old new bundle) h c th = absurd h
    standing_came (msg.CellMake b v bundle) h c th = absurd h
    standing_came (msg.CellAsk b n o v bundle) h c th = absurd h
    standing_came (msg.CellOld n v bundle) h c th = absurd h

    go : IsStanding m ⊎ IsOfKeepers m → Balanced p R none_came (after_receipt (Some k) (after_transition w i d)) (ks ++ d.picks) (out ++ d.sent)
    go (inl stands) = balanced_without p R (after_transition w i d) (ks ++ d.picks) (out ++ d.sent) (came_of (sent_to i m)) (standing_came m stands)
        (balanced_came p R (after_transition w i d) (ks ++ d.picks) (out ++ d.sent) k i m (Contains-append_left w.mail (mail_from w.sent d.sent) _ at) (one_number (after_transition w i d) k i m (Contains-append_left w.mail (mail_from w.sent d.sent) _ at) (λ a b x y. numbers.once k a b x y))
        (balanced_row p R w ks out none_came r.joined.reached.centre r.joined.reached.run (λ l o h. r.joined.reached.numbers.below l o.to o.msg h) i d r.balanced (heard_balances p limit i real w ks r.joined k m stands far at takes R)))
      where
        numbers : IsNumbered (after_transition w i d).sent (after_transition w i d).mail
        numbers = numbered_acts w i d r.joined.reached.numbers
    go (inr keepers) =
        let told = told_bundle p limit i real w ks r.joined k m at keepers in
        whole_sent p limit i real w ks r.joined k m at told (Balanced p R none_came) out (hears_balanced p limit i real w ks r.joined k m at told R out r.balanced (keepers_hear p limit i real w ks r.joined k m at keepers))
