-- That who waits for a name will be told, in any world: what each site keeps is a function of its number. Other messages
-- may travel beside, and a name may become known without a Binding.
use Rattle.std.specs.Prelude.{◌≡◌, ◌≢◌, ℕ, ◌+◌, ◌≤◌, List, [], ◌∷◌, ◌++◌, ◌⊎◌, Bool, true, false, ◌==◌, Option, Some, None, Contains}
use Rattle.tree_node.specs.declared.names.VarName.{VarName}
use Rattle.tree_node.specs.declared.names.ThreadName.{ThreadName}
use Rattle.tree_node.specs.declared.node.Term.{Term}
use Rattle.tree_node.specs.Each.{Each}
use Rattle.tree_node.specs.Store.{Equation}
use Rattle.site_message.specs.declared.message.Sent.{Sent}
use Rattle.site_message.specs.declared.message.Msg.TheVariants as msg
use Rattle.bind_protocol.specs.Records.{Records, knowledge, IsKnown, sites_in}
use Rattle.bind_protocol.specs.Rows.{sent_message, after_make, after_meet, meet_sends, after_meets, meets_send, after_register, register_sends, after_ask, ask_sends, after_binding, after_want, want_sends}
use Rattle.bind_protocol.specs.World.{empty_records}
use Rattle.bind_protocol.specs.Lawful.{known_count, register_count, binding_count, site_count}
use Rattle.bind_protocol.specs.Count.{IsNeither, SameCounts, GoesOn}

-- 1 where a site met a name that is not its own, and does not know it bound
abbrev pub open_count : Bool → Option (Option Term) → ℕ
open_count true o = 0
open_count false (Some None) = 1
open_count false _ = 0

-- a site that met a name owned elsewhere and does not know it bound: its Register travels, or it is registered, or a
-- Binding to it travels
abbrev pub AreTold : (ℕ → Records) → List Sent → Type 0
AreTold records travelling =
    (i : ℕ) (x : VarName) →
    open_count (i == x.site) (knowledge (records i) x) ≤ register_count x i travelling + site_count i (sites_in (records x.site) x) + binding_count x i travelling

-- what a site does with its records b, which are c then, and the messages that it sends, where it takes those in hand: it
-- sends a Register for each name that it met and does not know bound, keeps what it knows bound, keeps or answers each
-- Register in hand, sends a Binding to each site that is no more registered, and knows what the Bindings in hand tell
pub record KeepsTold (b c : Records) (hand out : List Sent) : Type 0 where
  pub site : c.site ≡ b.site
  pub unbound : (x : VarName) → open_count (b.site == x.site) (knowledge c x) ≤ open_count (b.site == x.site) (knowledge b x) + register_count x b.site out
  pub bound : (x : VarName) → known_count (b.site == x.site) (knowledge b x) ≤ known_count (b.site == x.site) (knowledge c x)
  pub listed : (i : ℕ) (x : VarName) → x.site ≡ b.site → site_count i (sites_in b x) + register_count x i hand ≤ site_count i (sites_in c x) + binding_count x i out
  pub heard : (x : VarName) → x.site ≢ b.site → 1 ≤ binding_count x b.site hand → 1 ≤ known_count (b.site == x.site) (knowledge c x)

-- each row of the protocol does so. A name may become known by a message of any kind, and a Binding may come late
pub record RowsTell : Type 0 where
  pub make : (b : Records) (x : VarName) → x.site ≡ b.site → knowledge b x ≡ None → KeepsTold b (after_make b x) [] []
  pub meet : (b : Records) (x : VarName) → KeepsTold b (after_meet b x) [] (meet_sends b x)
  pub meets : (b : Records) (xs : List VarName) → KeepsTold b (after_meets b xs) [] (meets_send b xs)
  pub register : (b : Records) (x : VarName) (k to : ℕ) → x.site ≡ b.site → IsKnown b x →
      KeepsTold b (after_register b x k) (sent_message to (msg.Register x k) ∷ []) (register_sends b x k)
  pub ask : (b : Records) (x : VarName) (t : Term) → x.site ≡ b.site → KeepsTold b (after_ask b x t) [] (ask_sends b x t)
  pub binding : (b : Records) (x : VarName) (t : Term) (to : ℕ) (bundle : List Equation) → x.site ≢ b.site →
      KeepsTold b (after_binding b x t) (sent_message to (msg.Binding x t bundle) ∷ []) []
  pub late : (b : Records) (x : VarName) (t r : Term) (to : ℕ) (bundle : List Equation) → knowledge b x ≡ Some (Some r) →
      KeepsTold b b (sent_message to (msg.Binding x t bundle) ∷ []) []
  pub known : (b : Records) (x : VarName) (t : Term) → x.site ≢ b.site → KeepsTold b (after_binding b x t) [] []
  pub want : (b : Records) (x : VarName) (t : Term) (thread : ThreadName) → KeepsTold b (after_want b x t) [] (want_sends b x t thread)
  pub others : (b : Records) (hand out : List Sent) → Each IsNeither hand → KeepsTold b b hand out

-- what a site does may be taken together, and bundles do not count
pub record TellingJoins : Type 0 where
  pub together : (b c d : Records) (h g o u : List Sent) → KeepsTold b c h o → KeepsTold c d g u → KeepsTold b d (h ++ g) (o ++ u)
  pub alike : (b c : Records) (h o u : List Sent) → SameCounts o u → KeepsTold b c h o → KeepsTold b c h u

-- no Register of another's variable and no Binding for another site is in hand
pub record IsForSite (a : ℕ) (hand : List Sent) : Type 0 where
  pub registers : (i : ℕ) (x : VarName) → x.site ≢ a → register_count x i hand ≡ 0
  pub bindings : (i : ℕ) (x : VarName) → i ≢ a → binding_count x i hand ≡ 0

-- a world of which one site goes on so still tells each site, and a world in which more messages travel does
pub record TellingGoesOn : Type 0 where
  pub start : AreTold empty_records []
  pub told : (a : ℕ) (old new : ℕ → Records) (hand rest out : List Sent) → GoesOn a old new → IsForSite a hand →
      KeepsTold (old a) (new a) hand out → AreTold old (hand ++ rest) → AreTold new (rest ++ out)
  pub more : (records : ℕ → Records) (ms ns : List Sent) → ((i : ℕ) (x : VarName) → register_count x i ms ≤ register_count x i ns) →
      ((i : ℕ) (x : VarName) → binding_count x i ms ≤ binding_count x i ns) → AreTold records ms → AreTold records ns

-- so a site that waits for a name's binding is registered, or its Register or a Binding to it travels
abbrev pub WaitersAreTold : Type 0
WaitersAreTold =
    (records : ℕ → Records) (travelling : List Sent) → AreTold records travelling → (i : ℕ) (x : VarName) → i ≢ x.site → knowledge (records i) x ≡ Some None →
    Contains (sites_in (records x.site) x) i ⊎ ((1 ≤ register_count x i travelling) ⊎ (1 ≤ binding_count x i travelling))
