-- That what sites know is what owners know, and that links lead down, in any world: what each site keeps is a function of
-- its number. Other messages may travel beside, and bundles bring equations too.
use Rattle.std.specs.Prelude.{◌≡◌, ◌≢◌, ◌⊎◌, ℕ, List, [], ◌∷◌, ◌++◌, Some, None, Contains}
use Rattle.tree_node.specs.declared.names.VarName.{VarName}
use Rattle.tree_node.specs.declared.names.ThreadName.{ThreadName}
use Rattle.tree_node.specs.declared.node.Term.{Term}
use Rattle.tree_node.specs.Order.{IsLower}
use Rattle.tree_node.specs.Store.{Equation}
use Rattle.site_message.specs.declared.message.Sent.{Sent}
use Rattle.site_message.specs.declared.message.Msg.{Msg}
use Rattle.site_message.specs.declared.message.Msg.TheVariants as msg
use Rattle.bind_protocol.specs.Records.{Records, knowledge}
use Rattle.bind_protocol.specs.Rows.{after_make, after_meet, meet_sends, after_meets, meets_send, after_register, register_sends, after_ask, ask_sends, after_binding, after_want, want_sends}
use Rattle.bind_protocol.specs.World.{IsDownward, empty_records}
use Rattle.bind_protocol.specs.Count.{GoesOn}

-- the equations that a message tells
abbrev pub equations_in : Msg → List Equation
equations_in (msg.Binding x t bundle) = (x, t) ∷ bundle
equations_in (msg.BindReq x thread t bundle) = bundle
equations_in (msg.Spawn thread code vars bundle) = bundle
equations_in _ = []

-- one of the messages tells that x is bound to t
abbrev pub IsMessageEquation : List Sent → VarName → Term → Type 0
IsMessageEquation ms x t = (m : Sent) × Contains ms m × Contains (equations_in m.msg) (x, t)

-- the site knows x bound to t
abbrev pub IsBound : Records → VarName → Term → Type 0
IsBound b x t = knowledge b x ≡ Some (Some t)

-- what a site knows and what a message tells is the owner's equation, and equations and requests lead down
pub record EquationsAreOwned (records : ℕ → Records) (travelling : List Sent) : Type 0 where
  pub known : (i : ℕ) (x : VarName) (t : Term) → IsBound (records i) x t → IsBound (records x.site) x t
  pub told : (x : VarName) (t : Term) → IsMessageEquation travelling x t → IsBound (records x.site) x t
  pub down : (x : VarName) (t : Term) → IsBound (records x.site) x t → IsLower t x
  pub asked : (m : Sent) → Contains travelling m → IsDownward m

-- what a site does with its records b, which are c then, and the messages that it sends, where it takes those in hand: it
-- forgets no equation, learns one of an own variable that leads down or one that is told, tells what it knows, and asks
-- for binds that lead down
pub record KeepsEquations (b c : Records) (hand out : List Sent) : Type 0 where
  pub site : c.site ≡ b.site
  pub stays : (x : VarName) (t : Term) → IsBound b x t → IsBound c x t
  pub new : (x : VarName) (t : Term) → IsBound c x t → IsBound b x t ⊎ (((x.site ≡ b.site) × IsLower t x) ⊎ IsMessageEquation hand x t)
  pub told : (x : VarName) (t : Term) → IsMessageEquation out x t → IsBound c x t
  pub asked : (m : Sent) → Contains out m → IsDownward m

-- each row of the protocol does so
pub record RowsKeepEquations : Type 0 where
  pub make : (b : Records) (x : VarName) → x.site ≡ b.site → knowledge b x ≡ None → KeepsEquations b (after_make b x) [] []
  pub meet : (b : Records) (x : VarName) → KeepsEquations b (after_meet b x) [] (meet_sends b x)
  pub meets : (b : Records) (xs : List VarName) → KeepsEquations b (after_meets b xs) [] (meets_send b xs)
  pub register : (b : Records) (x : VarName) (k : ℕ) → x.site ≡ b.site → KeepsEquations b (after_register b x k) [] (register_sends b x k)
  pub ask : (b : Records) (x : VarName) (t : Term) → x.site ≡ b.site → IsLower t x → KeepsEquations b (after_ask b x t) [] (ask_sends b x t)
  pub binding : (b : Records) (x : VarName) (t : Term) (hand : List Sent) → x.site ≢ b.site → IsMessageEquation hand x t →
      ((r : Term) → IsBound b x r → r ≡ t) → KeepsEquations b (after_binding b x t) hand []
  pub want : (b : Records) (x : VarName) (t : Term) (thread : ThreadName) → IsLower t x → KeepsEquations b (after_want b x t) [] (want_sends b x t thread)
  pub others : (b : Records) (hand out : List Sent) → ((x : VarName) (t : Term) → IsMessageEquation out x t → IsBound b x t) →
      ((m : Sent) → Contains out m → IsDownward m) → KeepsEquations b b hand out

-- what a site does may be taken together, a message in hand may be left unused, and what is sent may be exchanged for
-- other messages that tell what is known, with bundles
pub record EquationsJoin : Type 0 where
  pub together : (b c d : Records) (h g o u : List Sent) → KeepsEquations b c h o → KeepsEquations c d g u → KeepsEquations b d (h ++ g) (o ++ u)
  pub unused : (b c : Records) (h g o : List Sent) → KeepsEquations b c h o → KeepsEquations b c (h ++ g) o
  pub sent : (b c : Records) (h o u : List Sent) → ((x : VarName) (t : Term) → IsMessageEquation u x t → IsBound c x t) → ((m : Sent) → Contains u m → IsDownward m) →
      KeepsEquations b c h o → KeepsEquations b c h u

-- a world of which one site goes on so keeps them, an equation at an owner stays, and messages may be dropped
pub record EquationsGoOn : Type 0 where
  pub start : EquationsAreOwned empty_records []
  pub world : (a : ℕ) (old new : ℕ → Records) (hand rest out : List Sent) → GoesOn a old new → KeepsEquations (old a) (new a) hand out →
      EquationsAreOwned old (hand ++ rest) → EquationsAreOwned new (rest ++ out)
  pub stays : (a : ℕ) (old new : ℕ → Records) (hand out : List Sent) → GoesOn a old new → KeepsEquations (old a) (new a) hand out →
      (i : ℕ) (x : VarName) (t : Term) → IsBound (old i) x t → IsBound (new i) x t
  pub fewer : (records : ℕ → Records) (ms ns : List Sent) → ((m : Sent) → Contains ns m → Contains ms m) → EquationsAreOwned records ms → EquationsAreOwned records ns
