-- What one site keeps of variables: of its own as their owner, of the others as proxies.
use Rattle.std.specs.Prelude.{◌≡◌, ℕ, List, Bool, ◌==◌, Option, Some, None, is_some, IsTrue, Contains, if◌then◌else◌}
use Rattle.tree_node.specs.declared.names.VarName.{VarName}
use Rattle.tree_node.specs.declared.node.Term.{Term}
use Rattle.site_message.specs.declared.message.Msg.{Msg}
use Rattle.site_message.specs.declared.message.Msg.TheVariants as msg
use Rattle.bind_protocol.specs.declared.binder.Knowledge.{Knowledge}
use Rattle.bind_protocol.specs.declared.binder.Knowledge.TheVariants.{Nothing, Unbound, Bound as Known}
use Rattle.proxy_table.specs.Proxies.{Proxy, IsMet, entry_of}
use Rattle.variable_owner.specs.declared.owners.Owner.{Owner}
use Rattle.variable_owner.specs.declared.owners.Owner.TheVariants.{Open, Bound}
use Rattle.variable_owner.specs.Owners.{Owned, owner_of, sites_of, IsMade}

-- what one site keeps of variables: its number, what it knows of those that it owns, and of those owned elsewhere
pub record Records : Type 0 where
  pub site : ℕ
  pub owners : List Owned
  pub proxies : List Proxy

-- the owner of a variable is the site in its name
abbrev pub is_own : Records → VarName → Bool
is_own b x = x.site == b.site

-- what an owner knows of a variable: nothing where it was not made
abbrev pub owner_knows : Option Owner → Option (Option Term)
owner_knows None = None
owner_knows (Some (Open sites)) = Some None
owner_knows (Some (Bound t)) = Some (Some t)

-- what the site knows of a variable: nothing, that it is unbound as far as the site knows, or its term
abbrev pub knowledge : Records → VarName → Option (Option Term)
knowledge b x = if is_own b x then owner_knows (owner_of b.owners x) else entry_of b.proxies x

-- the sites that are registered here for a variable
abbrev pub sites_in : Records → VarName → List ℕ
sites_in b x = sites_of (owner_of b.owners x)

-- a variable of the site's own that it made, or one owned elsewhere that it met
abbrev pub IsKnown : Records → VarName → Type 0
IsKnown b x = IsTrue (is_some (knowledge b x))

-- the site can take the message: a registration for a variable of its own that it made, of a site that is not
-- registered; a request for such a variable; a binding of a name that it met
abbrev pub IsReceivable : Records → Msg → Type 0
IsReceivable b (msg.Register x k) = (x.site ≡ b.site) × IsMade b.owners x × (Contains (sites_of (owner_of b.owners x)) k → ⊥)
IsReceivable b (msg.BindReq x thread t bundle) = (x.site ≡ b.site) × IsMade b.owners x
IsReceivable b (msg.Binding x t bundle) = IsMet b.proxies x
IsReceivable b _ = Unit {0}

-- and a binding tells what it did not know: so it is where no message has a bundle
abbrev pub IsReceivableNews : Records → Msg → Type 0
IsReceivableNews b (msg.Binding x t bundle) = entry_of b.proxies x ≡ Some None
IsReceivableNews b m = IsReceivable b m

-- an answer that tells this knowledge
abbrev pub IsKnowledge : Option (Option Term) → Knowledge → Type 0
IsKnowledge k Nothing = k ≡ None
IsKnowledge k Unbound = k ≡ Some None
IsKnowledge k (Known t) = k ≡ Some (Some t.now)
