-- What every call on a world keeps: who knows what, what travels, and that each site's way to a name goes on by one
-- message at a time.
use Rattle.std.specs.Prelude.{◌≡◌, ℕ, ◌+◌, List, [], Bool, true, false, ◌==◌, Option, Some, None, is_some, IsTrue}
use Rattle.std.specs.List.{count_by}
use Rattle.tree_node.specs.declared.names.VarName.{VarName}
use Rattle.tree_node.specs.declared.node.Term.{Term}
use Rattle.tree_node.specs.Each.{Each}
use Rattle.site_message.specs.declared.message.Sent.{Sent}
use Rattle.site_message.specs.declared.message.Msg.{Msg}
use Rattle.site_message.specs.declared.message.Msg.TheVariants as msg
use Rattle.tree_node.specs.Order.{IsLower}
use Rattle.bind_protocol.specs.Records.{Records}
use Rattle.bind_protocol.specs.World.{World, records_at, known_at, registered_at, vars_of, is_register, is_binding}

-- what each site knows of each variable
abbrev pub Knowing : Type 0
Knowing = ℕ → VarName → Option (Option Term)

-- the owner of x knows the name, so it was made
abbrev pub IsKnownToOwner : Knowing → VarName → Type 0
IsKnownToOwner know x = IsTrue (is_some (know x.site x))

-- the term's variables were made, and a variable is below x
abbrev pub IsGood : Knowing → VarName → Term → Type 0
IsGood know x t = Each (IsKnownToOwner know) (vars_of t) × IsLower t x

-- names that sites know were made, what they know is their owners' knowledge, and owners hold good terms
pub record Truth (know : Knowing) : Type 0 where
  pub made : (i : ℕ) (x : VarName) (o : Option Term) → know i x ≡ Some o → IsKnownToOwner know x
  pub owned : (i : ℕ) (x : VarName) (t : Term) → know i x ≡ Some (Some t) → know x.site x ≡ Some (Some t)
  pub good : (x : VarName) (t : Term) → know x.site x ≡ Some (Some t) → IsGood know x t

-- messages say what is so, and go where they belong
abbrev pub IsTrueMessage : Knowing → Sent → Type 0
IsTrueMessage know s = fits s.msg
  where
    fits : Msg → Type 0
    fits (msg.Register x k) = (s.to ≡ x.site) × IsKnownToOwner know x
    fits (msg.BindReq x thread t bundle) = (s.to ≡ x.site) × IsKnownToOwner know x × IsGood know x t
    fits (msg.Binding x t bundle) = (bundle ≡ []) × (know x.site x ≡ Some (Some t))
    fits _ = ⊥

-- 1 where a site met a name that is not its own
abbrev pub met_count : Bool → Option (Option Term) → ℕ
met_count true o = 0
met_count false None = 0
met_count false (Some o) = 1

-- 1 where it knows that name bound
abbrev pub known_count : Bool → Option (Option Term) → ℕ
known_count true o = 0
known_count false (Some (Some t)) = 1
known_count false _ = 0

-- how many of these messages are a Register of x by site i
abbrev pub register_count : VarName → ℕ → List Sent → ℕ
register_count x i ms = count_by (is_register x i) ms

-- how many of these messages are a Binding of x to site i
abbrev pub binding_count : VarName → ℕ → List Sent → ℕ
binding_count x i ms = count_by (is_binding x i) ms

-- how often site i is in the list
abbrev pub site_count : ℕ → List ℕ → ℕ
site_count i ks = count_by (λ k. i == k) ks

-- a site that met a name owned elsewhere is in exactly one place on its way to the binding: its Register travels, or
-- it is registered, or a Binding to it travels, or it knows the binding. What came before came once
pub record AreCountedExactly (know : Knowing) (list : VarName → List ℕ) (travelling delivered : List Sent) : Type 0 where
  pub one_place : (i : ℕ) (x : VarName) →
      register_count x i travelling + site_count i (list x) + binding_count x i travelling + known_count (i == x.site) (know i x)
      ≡ met_count (i == x.site) (know i x)
  pub heard : (i : ℕ) (x : VarName) → binding_count x i delivered ≡ known_count (i == x.site) (know i x)
  pub asked : (i : ℕ) (x : VarName) → register_count x i delivered + register_count x i travelling ≡ met_count (i == x.site) (know i x)

-- a world as the calls leave it: each site has its number, what sites know and messages tell is so, and the counts hold exactly
pub record IsLawful (w : World) : Type 0 where
  pub numbered : (i : ℕ) (b : Records) → records_at w.binders i ≡ Some b → b.site ≡ i
  pub truth : Truth (known_at w)
  pub letters : Each (IsTrueMessage (known_at w)) w.travelling
  pub counts : AreCountedExactly (known_at w) (registered_at w) w.travelling w.delivered
