-- How many Registers and Bindings there are, in any world: what each site keeps is a function of its number. Other
-- messages may travel beside, messages may be dropped, and a name may become known without a Binding.
use Rattle.std.specs.Prelude.{◌≡◌, ◌≢◌, ℕ, ◌+◌, ◌≤◌, List, [], ◌∷◌, ◌++◌, ◌==◌, false, Some, None, is_some, IsTrue, Contains}
use Rattle.tree_node.specs.declared.names.VarName.{VarName}
use Rattle.tree_node.specs.declared.names.ThreadName.{ThreadName}
use Rattle.tree_node.specs.declared.node.Term.{Term}
use Rattle.tree_node.specs.Each.{Each}
use Rattle.site_message.specs.declared.message.Sent.{Sent}
use Rattle.site_message.specs.declared.message.Msg.TheVariants as msg
use Rattle.bind_protocol.specs.Records.{Records, knowledge, sites_in}
use Rattle.bind_protocol.specs.Rows.{sent_message, after_make, after_meet, meet_sends, after_meets, meets_send, after_register, register_sends, after_ask, ask_sends, after_binding, after_want, want_sends}
use Rattle.bind_protocol.specs.World.{is_register, is_binding, empty_records}
use Rattle.bind_protocol.specs.Lawful.{met_count, known_count, register_count, binding_count, site_count}

-- a site that sent a Register met the variable, once. It is in at most one place on its way to the binding: its Register
-- travels, or it is registered, or a Binding was sent to it
pub record AreCounted (records : ℕ → Records) (travelling all : List Sent) : Type 0 where
  pub once : (i : ℕ) (x : VarName) → register_count x i all ≤ met_count (i == x.site) (knowledge (records i) x)
  pub way : (i : ℕ) (x : VarName) → register_count x i travelling + site_count i (sites_in (records x.site) x) + binding_count x i all ≤ register_count x i all

-- a site knows a variable owned elsewhere bound by a Binding that came, and each Binding came once
abbrev pub AreHeard : (ℕ → Records) → List Sent → List Sent → Type 0
AreHeard records travelling all =
    (i : ℕ) (x : VarName) → binding_count x i travelling + known_count (i == x.site) (knowledge (records i) x) ≤ binding_count x i all

-- what a site does with its records b, which are c then, and the messages that it sends, where it takes those in hand: a
-- Register for each name met, and none for another site; for its own variables a Binding for each site that is no more
-- registered, or for the Register in hand
pub record KeepsCounts (b c : Records) (hand out : List Sent) : Type 0 where
  pub site : c.site ≡ b.site
  pub mine : (x : VarName) → met_count (b.site == x.site) (knowledge b x) + register_count x b.site out ≤ met_count (b.site == x.site) (knowledge c x)
  pub others : (i : ℕ) (x : VarName) → i ≢ b.site → register_count x i out ≡ 0
  pub listed : (i : ℕ) (x : VarName) → x.site ≡ b.site → site_count i (sites_in c x) + binding_count x i out ≤ site_count i (sites_in b x) + register_count x i hand
  pub elsewhere : (i : ℕ) (x : VarName) → x.site ≢ b.site → binding_count x i out ≡ 0

-- and it knows others' variables bound by the Bindings in hand alone
abbrev pub KeepsHeard : Records → Records → List Sent → Type 0
KeepsHeard b c hand =
    (x : VarName) → known_count (b.site == x.site) (knowledge c x) ≤ known_count (b.site == x.site) (knowledge b x) + binding_count x b.site hand

-- neither a Register nor a Binding
abbrev pub IsNeither : Sent → Type 0
IsNeither m = (i : ℕ) (x : VarName) → (is_register x i m ≡ false) × (is_binding x i m ≡ false)

-- each row of the protocol keeps the counts, whatever bundles the messages bring
pub record RowsCount : Type 0 where
  pub make : (b : Records) (x : VarName) → KeepsCounts b (after_make b x) [] []
  pub meet : (b : Records) (x : VarName) → KeepsCounts b (after_meet b x) [] (meet_sends b x)
  pub meets : (b : Records) (xs : List VarName) → KeepsCounts b (after_meets b xs) [] (meets_send b xs)
  pub register : (b : Records) (x : VarName) (k to : ℕ) → x.site ≡ b.site →
      KeepsCounts b (after_register b x k) (sent_message to (msg.Register x k) ∷ []) (register_sends b x k)
  pub ask : (b : Records) (x : VarName) (t : Term) → x.site ≡ b.site → KeepsCounts b (after_ask b x t) [] (ask_sends b x t)
  pub binding : (b : Records) (x : VarName) (t : Term) → x.site ≢ b.site → KeepsCounts b (after_binding b x t) [] []
  pub want : (b : Records) (x : VarName) (t : Term) (thread : ThreadName) → KeepsCounts b (after_want b x t) [] (want_sends b x t thread)
  pub others : (b : Records) (out : List Sent) → Each IsNeither out → KeepsCounts b b [] out

-- and what is heard
pub record RowsHear : Type 0 where
  pub make : (b : Records) (x : VarName) → KeepsHeard b (after_make b x) []
  pub meet : (b : Records) (x : VarName) → KeepsHeard b (after_meet b x) []
  pub meets : (b : Records) (xs : List VarName) → KeepsHeard b (after_meets b xs) []
  pub register : (b : Records) (x : VarName) (k : ℕ) → KeepsHeard b (after_register b x k) []
  pub ask : (b : Records) (x : VarName) (t : Term) → KeepsHeard b (after_ask b x t) []
  pub binding : (b : Records) (x : VarName) (t : Term) (hand : List Sent) → x.site ≢ b.site → 1 ≤ binding_count x b.site hand →
      KeepsHeard b (after_binding b x t) hand
  pub want : (b : Records) (x : VarName) (t : Term) → KeepsHeard b (after_want b x t) []
  pub same : (b : Records) → KeepsHeard b b []

-- messages that are counted alike, whatever bundles they bring
pub record SameCounts (old new : List Sent) : Type 0 where
  pub registers : (i : ℕ) (x : VarName) → register_count x i new ≡ register_count x i old
  pub bindings : (i : ℕ) (x : VarName) → binding_count x i new ≡ binding_count x i old

-- what a site does may be taken together, a message in hand may be left unused, and bundles do not count
pub record CountsJoin : Type 0 where
  pub counts : (b c d : Records) (h g o u : List Sent) → KeepsCounts b c h o → KeepsCounts c d g u → KeepsCounts b d (h ++ g) (o ++ u)
  pub heard : (b c d : Records) (h g : List Sent) → c.site ≡ b.site → KeepsHeard b c h → KeepsHeard c d g → KeepsHeard b d (h ++ g)
  pub unused : (b c : Records) (h g o : List Sent) → KeepsCounts b c h o → KeepsCounts b c (h ++ g) o
  pub unheard : (b c : Records) (h g : List Sent) → KeepsHeard b c h → KeepsHeard b c (h ++ g)
  pub alike : (b c : Records) (h o u : List Sent) → SameCounts o u → KeepsCounts b c h o → KeepsCounts b c h u

-- site a goes on, and the others keep what they had
pub record GoesOn (a : ℕ) (old new : ℕ → Records) : Type 0 where
  pub own : (old a).site ≡ a
  pub others : (i : ℕ) → i ≢ a → new i ≡ old i

-- a world of which one site goes on keeps its counts, and they hold of a world with fewer messages under way
pub record CountsGoOn : Type 0 where
  pub start : AreCounted empty_records [] [] × AreHeard empty_records [] []
  pub counted : (a : ℕ) (old new : ℕ → Records) (hand rest out all : List Sent) → GoesOn a old new →
      KeepsCounts (old a) (new a) hand out → AreCounted old (hand ++ rest) all → AreCounted new (rest ++ out) (all ++ out)
  pub heard : (a : ℕ) (old new : ℕ → Records) (hand rest out all : List Sent) → GoesOn a old new →
      ((i : ℕ) (x : VarName) → i ≢ a → binding_count x i hand ≡ 0) → KeepsHeard (old a) (new a) hand →
      AreHeard old (hand ++ rest) all → AreHeard new (rest ++ out) (all ++ out)
  pub fewer_counted : (records : ℕ → Records) (ms ns all : List Sent) →
      ((i : ℕ) (x : VarName) → register_count x i ns ≤ register_count x i ms) → AreCounted records ms all → AreCounted records ns all
  pub fewer_heard : (records : ℕ → Records) (ms ns all : List Sent) →
      ((i : ℕ) (x : VarName) → binding_count x i ns ≤ binding_count x i ms) → AreHeard records ms all → AreHeard records ns all

-- so each site sends at most one Register for a name, and at most one place on its way to the binding is taken: its
-- Register travels, or it is registered, or a Binding was sent to it. For its own names there is nothing
abbrev pub CountedOnce : Type 0
CountedOnce =
    (records : ℕ → Records) (travelling all : List Sent) → AreCounted records travelling all → (i : ℕ) (x : VarName) →
    (register_count x i all ≤ 1)
    × (register_count x i travelling + site_count i (sites_in (records x.site) x) + binding_count x i all ≤ 1)
    × (i ≡ x.site → (register_count x i all ≡ 0) × (binding_count x i all ≡ 0))

-- a message under way finds its site ready: a Register is of a site that is not registered; a Binding is for a name
-- that its site met, and does not know bound where Bindings alone tell it
pub record MessagesFindSites (records : ℕ → Records) (travelling all : List Sent) : Type 0 where
  pub register : (i : ℕ) (x : VarName) → 1 ≤ register_count x i travelling → (i ≢ x.site) × (Contains (sites_in (records x.site) x) i → ⊥)
  pub met : (i : ℕ) (x : VarName) → 1 ≤ binding_count x i travelling → (i ≢ x.site) × IsTrue (is_some (knowledge (records i) x))
  pub unbound : AreHeard records travelling all → (i : ℕ) (x : VarName) → 1 ≤ binding_count x i travelling → knowledge (records i) x ≡ Some None

-- where the counts hold and each message under way was sent, it finds its site ready
abbrev pub MessagesComeReady : Type 0
MessagesComeReady =
    (records : ℕ → Records) (travelling all : List Sent) → AreCounted records travelling all →
    ((i : ℕ) (x : VarName) → register_count x i travelling ≤ register_count x i all) → ((i : ℕ) (x : VarName) → binding_count x i travelling ≤ binding_count x i all) →
    MessagesFindSites records travelling all
