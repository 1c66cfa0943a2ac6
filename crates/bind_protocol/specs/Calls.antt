-- Lists of calls on a world.
use Rattle.std.specs.Prelude.{◌≡◌, ℕ, ◌<◌, List, [], ◌∷◌, length, Some, None, is_some, IsTrue}
use Rattle.tree_node.specs.declared.names.VarName.{VarName}
use Rattle.tree_node.specs.declared.names.ThreadName.{ThreadName}
use Rattle.tree_node.specs.declared.node.Term.{Term}
use Rattle.tree_node.specs.Each.{Each}
use Rattle.tree_node.specs.Order.{IsLower}
use Rattle.bind_protocol.specs.World.{World, HasInvariant, IsSiteOf, IsMadeIn, EquationsStay, known_at, vars_of, new_world, after_make_at, after_meet_at, after_want_at, after_delivery}

-- a site makes a variable of its own that it has not made
pub record CanMake (w : World) (i : ℕ) (x : VarName) : Type 0 where
  pub site : IsSiteOf w i
  pub own : x.site ≡ i
  pub new : known_at w i x ≡ None

-- a site meets a variable that was made
pub record CanMeet (w : World) (i : ℕ) (x : VarName) : Type 0 where
  pub site : IsSiteOf w i
  pub made : IsMadeIn w x

-- a thread wants to bind a variable that its site knows and does not know bound, to a term whose variables the site
-- knows, and which is below it where it is a variable
pub record CanWant (w : World) (i : ℕ) (x : VarName) (t : Term) : Type 0 where
  pub site : IsSiteOf w i
  pub unbound : known_at w i x ≡ Some None
  pub known : Each (λ y. IsTrue (is_some (known_at w i y))) (vars_of t)
  pub lower : IsLower t x

-- a call
pub data Call : Type 0 where
  Make : (i : ℕ) (x : VarName) → Call
  Meet : (i : ℕ) (x : VarName) → Call
  Want : (i : ℕ) (x : VarName) (t : Term) (thread : ThreadName) → Call
  Deliver : (place : ℕ) → Call

-- the conditions of the call hold; a delivery is of a place where a message travels
abbrev pub IsAllowed : World → Call → Type 0
IsAllowed w (Make i x) = CanMake w i x
IsAllowed w (Meet i x) = CanMeet w i x
IsAllowed w (Want i x t thread) = CanWant w i x t
IsAllowed w (Deliver place) = place < length w.travelling

-- the world after the call
abbrev pub after_call : World → Call → World
after_call w (Make i x) = after_make_at w i x
after_call w (Meet i x) = after_meet_at w i x
after_call w (Want i x t thread) = after_want_at w i x t thread
after_call w (Deliver place) = after_delivery w place

-- the world after these calls, one after another
abbrev pub IsAfter : World → List Call → World → Type 0
IsAfter w [] v = v ≡ w
IsAfter w (c ∷ cs) v = IsAllowed w c × IsAfter (after_call w c) cs v

-- whatever the calls and the order of deliveries: what holds at all times holds at the end, and equations that stood
-- in between stand there
abbrev pub CallsKeep : Type 0
CallsKeep =
    (n : ℕ) (before after : List Call) (w v : World) → IsAfter (new_world n) before w → IsAfter w after v →
    HasInvariant v × EquationsStay w v
