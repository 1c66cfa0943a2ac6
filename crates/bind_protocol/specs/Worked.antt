-- A worked bind of one variable by the rows: two sites ask, and the Register of the first comes after its request.
use Rattle.std.specs.Prelude.{◌≡◌, [], ◌∷◌, Some, None, pos}
use Rattle.tree_node.specs.declared.names.VarName.{VarName}
use Rattle.tree_node.specs.declared.names.ThreadName.{ThreadName}
use Rattle.tree_node.specs.declared.node.Node.TheVariants as node
use Rattle.tree_node.specs.declared.node.Term.{Term}
use Rattle.tree_node.specs.declared.node.Term.TheVariants as term
use Rattle.bind_protocol.specs.Records.{Records, knowledge}
use Rattle.bind_protocol.specs.Rows.{register, request, binding, after_make, after_meet, meet_sends, after_ask, ask_sends, register_sends, after_register, after_binding, after_want, want_sends}
use Rattle.bind_protocol.specs.World.{empty_records}

-- the variable, which site 1 owns
abbrev pub x : VarName
x = record { site = 1; num = 0 }

-- a thread of site 2, which asks
abbrev pub thread : ThreadName
thread = record { site = 2; num = 0 }

-- the terms that x is asked to be: 5 first, and then 6
abbrev pub five : Term
five = term.Node (node.Int (pos 5))

abbrev pub six : Term
six = term.Node (node.Int (pos 6))

-- the owner, which made x; site 2, which met it; the owner with x bound
abbrev pub owner : Records
owner = after_make (empty_records 1) x

abbrev pub asker : Records
asker = after_meet (empty_records 2) x

abbrev pub bound_owner : Records
bound_owner = after_ask owner x five

-- site 2 meets x with one Register and asks for 5; the owner takes 5, answers the late Register of site 2 with it, and 6 changes nothing
pub record WorkedBind : Type 0 where
  pub meets : meet_sends (empty_records 2) x ≡ register x 2 ∷ []
  pub known : meet_sends asker x ≡ []
  pub wants : want_sends asker x five thread ≡ request x five thread ∷ []
  pub waits : knowledge (after_want asker x five) x ≡ Some None
  pub taken : knowledge bound_owner x ≡ Some (Some five)
  pub untold : ask_sends owner x five ≡ []
  pub answered : register_sends bound_owner x 2 ≡ binding x five 2 ∷ []
  pub learnt : knowledge (after_binding asker x five) x ≡ Some (Some five)
  pub late : after_ask bound_owner x six ≡ bound_owner
  pub unsent : ask_sends bound_owner x six ≡ []
  pub third : register_sends bound_owner x 3 ≡ binding x five 3 ∷ []
  -- who registers before the bind is told by it
  pub told : ask_sends (after_register owner x 3) x five ≡ binding x five 3 ∷ []
