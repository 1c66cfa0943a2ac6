-- What calls on a site's variables do, in the rows of the site's definition.
use Rattle.std.specs.Prelude.{◌≡◌, ◌↔◌, ◌⊎◌, ◌+◌, ◌-◌, ◌^◌, ◌<◌, ◌≤◌, List, [], ◌∷◌, ◌++◌, Option, Some, None, Contains}
use Rattle.tree_node.specs.declared.names.VarName.{VarName}
use Rattle.tree_node.specs.declared.names.Name.TheVariants as name
use Rattle.pick_list.specs.Names.{row_of}
use Rattle.oz_model.specs.Effect.{vars_among}
use Rattle.tree_node.specs.declared.names.ThreadName.{ThreadName}
use Rattle.tree_node.specs.declared.node.Term.{Term}
use Rattle.tree_node.specs.declared.pick.Pick.{Pick}
use Rattle.tree_node.specs.Each.{Each}
use Rattle.tree_node.specs.State.{Stack}
use Rattle.tree_node.specs.Store.{Equation, Store}
use Rattle.bind_protocol.specs.Rows.{after_ask}
use Rattle.site_message.specs.declared.message.Sent.{Sent}
use Rattle.variable_owner.specs.declared.owners.Asked.{Asked}
use Rattle.variable_owner.specs.declared.owners.Asked.TheVariants.{Taken, Late}
use Rattle.variable_owner.specs.Owners.{IsMade, owner_of, sites_of}
use Rattle.bind_protocol.specs.Records.{Records, IsKnown, knowledge}
use Rattle.thread_roster.specs.declared.mode.Mode.{Mode}
use Rattle.thread_roster.specs.Threads.{Entry, map_entries}
use Rattle.site_model.specs.Site.{Site, Threads}
use Rattle.site_model.specs.Transition.{Transition}
use Rattle.site_model.specs.Messages.{bind_pick}
use Rattle.site_variables.specs.declared.variables.Variables.{Variables}

-- ---- store and records

-- equations and known names are those of the records: an equation is known of each variable that is known to be bound, and
-- the names are those that were made or met
pub record IsRecorded (equations : Store) (known : List VarName) (b : Records) : Type 0 where
  pub bound : (x : VarName) (t : Term) → knowledge b x ≡ Some (Some t) ↔ Contains equations (x, t)
  pub names : (x : VarName) → IsKnown b x ↔ Contains known x

-- the store has what the records tell
abbrev pub IsLinked : Variables → Type 0
IsLinked v = IsRecorded v.store.equations v.store.known v.binder

-- each name that was known is
abbrev pub IsGrown : List VarName → List VarName → Type 0
IsGrown old new = (x : VarName) → Contains old x → Contains new x

-- the names afterwards are those before and these
abbrev pub IsUnion : List VarName → List VarName → List VarName → Type 0
IsUnion old more new = (x : VarName) → Contains new x ↔ (Contains old x ⊎ Contains more x)

-- a variable of the site's own was made
abbrev pub IsMadeIfOwn : Records → VarName → Type 0
IsMadeIfOwn b x = x.site ≡ b.site → IsMade b.owners x

-- a variable of the site's own, which was not made
abbrev pub IsNewOwn : Records → VarName → Type 0
IsNewOwn b x = (x.site ≡ b.site) × (knowledge b x ≡ None)

-- ---- parts of a site

-- the parts of a site that rows of variables change, and the messages that were sent so far
pub record Parts : Type 0 where
  pub equations : Store
  pub records : Records
  pub threads : Threads
  pub sent : List Sent

-- those of these variables, threads and messages
abbrev pub parts_of : Variables → Threads → List Sent → Parts
parts_of v threads sent = record { equations = v.store.equations; records = v.binder; threads = threads; sent = sent }

-- threads with the stacks that g tells of their values
abbrev pub stacks_of : {V : Type 0} → (V → Stack) → List (Entry V) → Threads
stacks_of {V} g ts = map_entries (λ (e : V × Mode). (g e.0, e.1)) ts

-- the site with these parts
abbrev pub with_parts : Site → Parts → Site
with_parts s p = record s { equations = p.equations; records = p.records; threads = p.threads }

-- The row leads from the one parts to the others, with these picks and the messages that were sent between, whatever the
-- other parts of the site are
pub record IsVariableRow (row : Site → Transition) (picks : List Pick) (p q : Parts) : Type 0 where
  pub more : List Sent
  pub sent : q.sent ≡ p.sent ++ more
  pub done : (s : Site) → row (with_parts s p) ≡ record { site = with_parts s q; picks = picks; sent = more; lines = [] }

-- ---- requests

-- the picks that come of a request: where it is taken, the thread that asked has bound the variable
abbrev pub request_picks : Asked → ThreadName → VarName → Term → List Pick
request_picks Taken n x t = bind_pick n x t ∷ []
request_picks Late n x t = []

-- ---- variables in a row

-- the variables that a counter gave from the first of these on up to the second
abbrev pub vars_between : Option VarName → Option VarName → List VarName
vars_between (Some a) (Some b) = vars_among (row_of (name.Var a) (b.num - a.num))
vars_between _ _ = []

-- a counter gave both, the second no earlier, and few between them
abbrev pub AreCounted : Option VarName → Option VarName → Type 0
AreCounted (Some a) (Some b) = (a.site ≡ b.site) × (a.num ≤ b.num) × (b.num < a.num + 2 ^ 32)
AreCounted _ _ = Unit {0}

-- ---- binds in a row

-- the records after binds of own variables
abbrev pub after_own_binds : Records → List Equation → Records
after_own_binds b [] = b
after_own_binds b (e ∷ es) = after_own_binds (after_ask b e.0 e.1) es

-- each is of an own variable that is unbound then
abbrev pub AreOwnBinds : Records → List Equation → Type 0
AreOwnBinds b [] = Unit {0}
AreOwnBinds b (e ∷ es) = (e.0.site ≡ b.site) × (knowledge b e.0 ≡ Some None) × AreOwnBinds (after_ask b e.0 e.1) es

-- and no site is registered for it
abbrev pub AreAloneBinds : Records → List Equation → Type 0
AreAloneBinds b es = Each (λ (e : Equation). sites_of (owner_of b.owners e.0) ≡ []) es
