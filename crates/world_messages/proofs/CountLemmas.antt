-- The counts of messages on variables in every run.
use Rattle.std.proofs.Common.{arith, ◌≡◌, ◌≢◌, ◌∙◌, sym, ap, refl, subst, ℕ, ◌≤◌, List, [], ◌∷◌, ◌++◌, Bool, true, false, cond, Some, None}
use Rattle.std.specs.Prelude.{Option, ◌==◌, slice_get}
use Rattle.tree_node.specs.declared.names.VarName.{VarName}
use Rattle.kernel_syntax.specs.declared.stmt.Stmt.{Stmt}
use Rattle.site_message.specs.declared.message.Msg.{Msg}
use Rattle.site_message.specs.declared.message.Sent.{Sent}
use Rattle.site_message.specs.declared.turn.Turn.{Turn}
use Rattle.site_message.specs.Journal.{DeliversOnce, IsTravelling, sent_of, travelling}
use Rattle.bind_protocol.specs.Records.{Records}
use Rattle.bind_protocol.specs.World.{is_register}
use Rattle.bind_protocol.specs.Lawful.{register_count}
use Rattle.site_model.specs.Site.{Site, initial_site}
use Rattle.site_model.specs.Transition.{Transition}
use Rattle.site_model.specs.Run.{WorldRun, delivered_message, message_of}
use Rattle.world_model.specs.World.{Sites, records, at_put, put}
use Rattle.world_model.specs.Chain.{messages}
use Rattle.world_model.proofs.PutLemmas.{nat_decides, at_all, field_put}
use Rattle.bind_protocol.specs.Count.{AreCounted, KeepsCounts, GoesOn}
use Rattle.bind_protocol.proofs.GoOnLemmas.{counts_go_on, counted_once}
use Rattle.world_messages.specs.RegisterCounts.{OncePerSite, NoneOfOwn}
use Rattle.world_messages.proofs.DeedLemmas.{Tallies, heard_in, turn_tally}
use Rattle.world_messages.proofs.RunLemmas.{Entry, every_run}
use Rattle.world_messages.proofs.WireLemmas.{left_over, travel_after, travel_less, travel_one}

-- ---- fewer travel

pub counted_fewer : (r : ℕ → Records) (ms ns sent : List Sent) → ((i : ℕ) (x : VarName) → register_count x i ns ≤ register_count x i ms) → AreCounted r ms sent → AreCounted r ns sent
counted_fewer r ms ns sent less h = counts_go_on.fewer_counted r ms ns sent less h

-- ---- what an entry delivers

-- the message in hand, and those left over
pub record InHand (j : List Turn) (e : Turn) (s : Site) : Type 0 where
  pub registers : (i : ℕ) (x : VarName) → register_count x i (heard_in s (delivered_message j e.delivered) ++ messages (left_over e j)) ≤ register_count x i (messages (travelling j))

abbrev only : Msg → ℕ → List Sent
only m i = record { to = i; msg = m } ∷ []

hand_is : (j : List Turn) (e : Turn) (s : Site) (k : ℕ) (m : Sent) → IsTravelling j k m → m.to ≡ e.site → s.records.site ≡ e.site → heard_in s (message_of (slice_get (sent_of j) k)) ≡ m ∷ []
hand_is j e s k m at to own =
    let same : s.records.site ≡ m.to = own ∙ sym to in
    ap (λ (o : Option Sent). heard_in s (message_of o)) at.0 ∙ ap (only m.msg) same

pub in_hands : (j : List Turn) (e : Turn) (s : Site) → DeliversOnce j e → s.records.site ≡ e.site → InHand j e s
in_hands j e s wired own = go e.delivered refl
  where
    go : (d : Option ℕ) → e.delivered ≡ d → InHand j e s
    go None q = record {
      registers = λ i x. subst (λ (o : Option ℕ). register_count x i (heard_in s (delivered_message j o) ++ messages (left_over e j)) ≤ register_count x i (messages (travelling j))) (sym q) (travel_less (is_register x i) j e);
    }
    go (Some k) q = with_message (wired k q)
      where
        with_message : (m : Sent) × IsTravelling j k m × (m.to ≡ e.site) → InHand j e s
        with_message (m, at, to) =
            let same : heard_in s (delivered_message j e.delivered) ≡ m ∷ [] = ap (λ (o : Option ℕ). heard_in s (delivered_message j o)) q ∙ hand_is j e s k m at to own in
            record {
              registers = λ i x. subst (λ (hand : List Sent). register_count x i (hand ++ messages (left_over e j)) ≤ register_count x i (messages (travelling j))) (sym same) (travel_one (is_register x i) j e k m q at);
            }

-- ---- every run

abbrev pub Numbers : (ℕ → Records) → Type 0
Numbers r = (i : ℕ) → (r i).site ≡ i

abbrev CountedIn : List Turn → Sites → Type 0
CountedIn j f = Numbers (records f) × AreCounted (records f) (messages (travelling j)) (sent_of j)

counted_start : (p : List Stmt) (n : ℕ) → CountedIn [] (initial_site p n)
counted_start p n = (λ i. refl, record { once = λ i x. omega arith; way = λ i x. omega arith })

module _ (p : List Stmt) (n limit : ℕ) where
  records_after : (f : Sites) (i : ℕ) (s : Site) → ◌≡◌ {A = ℕ → Records} (records (put f i s)) (at_put (records f) i s.records)
  records_after f i s = field_put (λ (t : Site). t.records) f i s

  turn_of : (j : List Turn) (e : Turn) (f : Sites) (d : Transition) → Entry p n limit j e f d → Tallies (f e.site).records d.site.records (heard_in (f e.site) (delivered_message j e.delivered)) d.sent
  turn_of j e f d entry = turn_tally p n limit (delivered_message j e.delivered) (f e.site) d entry.turn

  -- the site of the entry goes on, and the others keep what they had
  put_here : (j : List Turn) (e : Turn) (f : Sites) (d : Transition) → at_put (records f) e.site d.site.records e.site ≡ d.site.records
  put_here j e f d = ap (λ (b : Bool). cond b d.site.records (f e.site).records) ((nat_decides e.site e.site).1 refl)

  goes_on : (j : List Turn) (e : Turn) (f : Sites) (d : Transition) → Numbers (records f) → GoesOn e.site (records f) (at_put (records f) e.site d.site.records)
  goes_on j e f d own = record { own = own e.site; others = λ i other. stays i other (i == e.site) refl }
    where
      stays : (i : ℕ) → i ≢ e.site → (b : Bool) → (i == e.site) ≡ b → cond b d.site.records (f i).records ≡ (f i).records
      stays i other true q = absurd (other ((nat_decides i e.site).0 q))
      stays i other false q = refl

  keeps : (j : List Turn) (e : Turn) (f : Sites) (d : Transition) → KeepsCounts (f e.site).records d.site.records (heard_in (f e.site) (delivered_message j e.delivered)) d.sent →
      KeepsCounts (f e.site).records (at_put (records f) e.site d.site.records e.site) (heard_in (f e.site) (delivered_message j e.delivered)) d.sent
  keeps j e f d h = subst (λ (r : Records). KeepsCounts (f e.site).records r (heard_in (f e.site) (delivered_message j e.delivered)) d.sent) (sym (put_here j e f d)) h

  counted_entry : (j : List Turn) (e : Turn) (f : Sites) (d : Transition) → Entry p n limit j e f d → CountedIn j f → CountedIn (e ∷ j) (put f e.site d.site)
  counted_entry j e f d entry (own, h) = (
    subst Numbers (sym (records_after f e.site d.site)) (at_all (records f) e.site d.site.records (λ (i : ℕ) (r : Records). r.site ≡ i) (t.counts.site ∙ own e.site) (λ i other. own i)),
    subst (λ (r : ℕ → Records). AreCounted r (messages (travelling (e ∷ j))) (sent_of (e ∷ j))) (sym (records_after f e.site d.site)) now,
  )
    where
      t : Tallies (f e.site).records d.site.records (heard_in (f e.site) (delivered_message j e.delivered)) d.sent
      t = turn_of j e f d entry

      hands : InHand j e (f e.site)
      hands = in_hands j e (f e.site) entry.wired (own e.site)

      goes : AreCounted (at_put (records f) e.site d.site.records) (messages (left_over e j) ++ d.sent) (sent_of j ++ d.sent)
      goes = counts_go_on.counted e.site (records f) (at_put (records f) e.site d.site.records) (heard_in (f e.site) (delivered_message j e.delivered)) (messages (left_over e j)) d.sent (sent_of j) (goes_on j e f d own) (keeps j e f d t.counts)
          (counted_fewer (records f) (messages (travelling j)) _ (sent_of j) hands.registers h)

      said : AreCounted (at_put (records f) e.site d.site.records) (messages (left_over e j) ++ e.sent) (sent_of j ++ e.sent)
      said = subst (λ (ms : List Sent). AreCounted (at_put (records f) e.site d.site.records) (messages (left_over e j) ++ ms) (sent_of j ++ ms)) (sym entry.tells.sent) goes

      now : AreCounted (at_put (records f) e.site d.site.records) (messages (travelling (e ∷ j))) (sent_of (e ∷ j))
      now = counted_fewer (at_put (records f) e.site d.site.records) (messages (left_over e j) ++ e.sent) (messages (travelling (e ∷ j))) (sent_of (e ∷ j)) (λ i x. travel_after (is_register x i) j e) said

  pub counted_in : (j : List Turn) (f : Sites) → WorldRun p n limit j f → CountedIn j f
  counted_in j f run = every_run p n limit CountedIn (counted_start p n) counted_entry j f run

-- ---- what follows

-- each site sends one Register for a variable of another site at most, and gets one Binding at most; of its own none
pub once_each : OncePerSite
once_each p n limit j f run i x = let c = counted_once (records f) (messages (travelling j)) (sent_of j) (counted_in p n limit j f run).1 i x in (c.0, omega (arith, c.1))

pub none_own : NoneOfOwn
none_own p n limit j f run i x own = (counted_once (records f) (messages (travelling j)) (sent_of j) (counted_in p n limit j f run).1 i x).2 own
