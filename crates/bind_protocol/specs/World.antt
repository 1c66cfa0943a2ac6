-- Sites whose messages travel in any order, what each call does to them, and what holds of them at all times.
use Rattle.std.specs.Prelude.{◌≡◌, ◌≢◌, ℕ, zero, suc, ◌-◌, ◌≤◌, List, [], ◌∷◌, ◌++◌, ◌⊎◌, length, remove, Bool, false, ◌&&◌, ◌==◌, Option, Some, None, is_some, unwrap_or, IsTrue, Contains, slice_get, slice_set}
use Rattle.std.specs.List.{count_by}
use Rattle.tree_node.specs.declared.names.VarName.{VarName}
use Rattle.tree_node.specs.declared.names.ThreadName.{ThreadName}
use Rattle.tree_node.specs.declared.node.Term.{Term}
use Rattle.tree_node.specs.Each.{Each}
use Rattle.tree_node.specs.Store.{equal_var}
use Rattle.site_message.specs.declared.message.Sent.{Sent}
use Rattle.site_message.specs.declared.message.Msg.{Msg}
use Rattle.site_message.specs.declared.message.Msg.TheVariants as msg
pub use Rattle.site_message.specs.Vars.{field_vars, vars_of}
use Rattle.tree_node.specs.Order.{IsLower}
use Rattle.variable_owner.specs.Owners.{owner_of, sites_of}
use Rattle.bind_protocol.specs.Records.{Records, knowledge}
use Rattle.bind_protocol.specs.Rows.{register, binding, after_make, after_meet, meet_sends, after_want, want_sends, after_message, message_sends}

-- the records of the sites 1, 2 and so on, the messages that travel, and those that came
pub record World : Type 0 where
  pub binders : List Records
  pub travelling : List Sent
  pub delivered : List Sent

-- what site i keeps before it made or met a variable
abbrev pub empty_records : ℕ → Records
empty_records i = record { site = i; owners = []; proxies = [] }

-- the records of n new sites
abbrev pub new_records : ℕ → List Records
new_records zero = []
new_records (suc n) = new_records n ++ empty_records (suc n) ∷ []

-- n new sites, and no message
abbrev pub new_world : ℕ → World
new_world n = record { binders = new_records n; travelling = []; delivered = [] }

-- the records of site i, if there is such a site
abbrev pub records_at : List Records → ℕ → Option Records
records_at bs zero = None
records_at bs (suc k) = slice_get bs k

-- the records of site i; those of a site that there is not are empty
abbrev pub records_of : World → ℕ → Records
records_of w i = unwrap_or (records_at w.binders i) (empty_records i)

-- the world has a site of this number
abbrev pub IsSiteOf : World → ℕ → Type 0
IsSiteOf w i = (1 ≤ i) × (i ≤ length w.binders)

-- what a site knows of a variable
abbrev pub knowledge_at : Option Records → VarName → Option (Option Term)
knowledge_at None x = None
knowledge_at (Some b) x = knowledge b x

-- what site i of the world knows of x
abbrev pub known_at : World → ℕ → VarName → Option (Option Term)
known_at w i x = knowledge_at (records_at w.binders i) x

-- the sites that are registered at the owner
abbrev pub registered_sites : Option Records → VarName → List ℕ
registered_sites None x = []
registered_sites (Some b) x = sites_of (owner_of b.owners x)

-- the sites that are registered for x at its owner
abbrev pub registered_at : World → VarName → List ℕ
registered_at w x = registered_sites (records_at w.binders x.site) x

-- the owner of x made it
abbrev pub IsMadeIn : World → VarName → Type 0
IsMadeIn w x = IsTrue (is_some (known_at w x.site x))

-- the equation of x at its owner
abbrev pub IsEquation : World → VarName → Term → Type 0
IsEquation w x t = known_at w x.site x ≡ Some (Some t)

-- the site has these records from now on
abbrev pub with_records : World → ℕ → Records → World
with_records w i b = record w { binders = slice_set w.binders (i - 1) b }

-- these messages travel too, behind the others
abbrev pub with_sent : World → List Sent → World
with_sent w ms = record w { travelling = w.travelling ++ ms }

-- site i makes x
abbrev pub after_make_at : World → ℕ → VarName → World
after_make_at w i x = with_records w i (after_make (records_of w i) x)

-- site i meets x
abbrev pub after_meet_at : World → ℕ → VarName → World
after_meet_at w i x = with_sent (with_records w i (after_meet (records_of w i) x)) (meet_sends (records_of w i) x)

-- site i meets these in order
abbrev pub after_meeting : World → ℕ → List VarName → World
after_meeting w i [] = w
after_meeting w i (x ∷ xs) = after_meeting (after_meet_at w i x) i xs

-- a thread of site i wants to bind x to t
abbrev pub after_want_at : World → ℕ → VarName → Term → ThreadName → World
after_want_at w i x t thread =
    with_sent (with_records w i (after_want (records_of w i) x t)) (want_sends (records_of w i) x t thread)

-- site i takes a message
abbrev pub takes_message : World → ℕ → Msg → World
takes_message w i m = with_sent (with_records w i (after_message (records_of w i) m)) (message_sends (records_of w i) m)

-- the variables that the site of a message meets first
abbrev pub met_first : Msg → List VarName
met_first (msg.BindReq x thread t bundle) = vars_of t
met_first (msg.Binding x t bundle) = vars_of t
met_first _ = []

-- the message of the place has come
abbrev pub after_arrival : World → ℕ → Sent → World
after_arrival w place m = record w {
  travelling = remove w.travelling place;
  delivered = w.delivered ++ m ∷ [];
}

-- the message of the place is delivered
abbrev pub after_delivery : World → ℕ → World
after_delivery w place = delivered (slice_get w.travelling place)
  where
    delivered : Option Sent → World
    delivered None = w
    delivered (Some m) = after_arrival (takes_message (after_meeting w m.to (met_first m.msg)) m.to m.msg) place m

-- a Register of x by site i, and a Binding of x to site i
abbrev pub is_register : VarName → ℕ → Sent → Bool
is_register x i s = asks s.msg
  where
    asks : Msg → Bool
    asks (msg.Register y k) = equal_var x y && (i == k)
    asks _ = false

abbrev pub is_binding : VarName → ℕ → Sent → Bool
is_binding x i s = tells s.msg
  where
    tells : Msg → Bool
    tells (msg.Binding y t bundle) = equal_var x y && (i == s.to)
    tells _ = false

-- an equation at an owner stays
abbrev pub EquationsStay : World → World → Type 0
EquationsStay old new = (x : VarName) (t : Term) → IsEquation old x t → IsEquation new x t

-- nobody forgets: sites stay, known names stay known, and known bindings stay
pub record HasGrown (old new : World) : Type 0 where
  pub sites : length new.binders ≡ length old.binders
  pub known : (i : ℕ) (x : VarName) → IsTrue (is_some (known_at old i x)) → IsTrue (is_some (known_at new i x))
  pub bound : (i : ℕ) (x : VarName) (t : Term) → known_at old i x ≡ Some (Some t) → known_at new i x ≡ Some (Some t)

-- the messages stay in their places, and others may come behind them
abbrev pub IsFront : List Sent → List Sent → Type 0
IsFront ms ns = (place : ℕ) (m : Sent) → slice_get ms place ≡ Some m → slice_get ns place ≡ Some m

-- what a site knows is an owner's equation
abbrev pub KnowledgeIsOwned : World → Type 0
KnowledgeIsOwned w = (i : ℕ) (x : VarName) (t : Term) → known_at w i x ≡ Some (Some t) → IsEquation w x t

-- a site that met a name owned elsewhere and does not know it bound is registered, or its Register or a Binding to
-- it travels
abbrev pub EachIsTold : World → Type 0
EachIsTold w =
    (i : ℕ) (x : VarName) → known_at w i x ≡ Some None → i ≢ x.site →
    Contains (registered_at w x) i
    ⊎ (Contains w.travelling (register x i) ⊎ ((t : Term) × Contains w.travelling (binding x t i)))

-- each Register and each Binding was sent at most once for each name and site
abbrev pub SentOnce : World → Type 0
SentOnce w =
    (i : ℕ) (x : VarName) →
    (count_by (is_register x i) (w.delivered ++ w.travelling) ≤ 1)
    × (count_by (is_binding x i) (w.delivered ++ w.travelling) ≤ 1)

-- no message goes to its own sender: a Register is the asking site's, a Binding the owner's
abbrev pub IsElsewhere : Sent → Type 0
IsElsewhere s = to_other s.msg
  where
    to_other : Msg → Type 0
    to_other (msg.Register x k) = s.to ≢ k
    to_other (msg.Binding x t bundle) = s.to ≢ x.site
    to_other _ = Unit {0}

-- a variable that is asked to be bound to a variable is above it
abbrev pub IsDownward : Sent → Type 0
IsDownward s = down s.msg
  where
    down : Msg → Type 0
    down (msg.BindReq x thread t bundle) = IsLower t x
    down _ = Unit {0}

-- an equation with a variable leads down
abbrev pub LinksGoDown : World → Type 0
LinksGoDown w = (x : VarName) (t : Term) → IsEquation w x t → IsLower t x

-- what holds of a world at all times
pub record HasInvariant (w : World) : Type 0 where
  pub owned : KnowledgeIsOwned w
  pub told : EachIsTold w
  pub once : SentOnce w
  pub elsewhere : Each IsElsewhere w.travelling
  pub down : Each IsDownward w.travelling
  pub links : LinksGoDown w
