-- The rows of the protocol: what an event does to the records of a site, and what the site sends.
use Rattle.std.specs.Prelude.{ℕ, List, [], ◌∷◌, ◌++◌, map, Option, Some, is_some, if◌then◌else◌}
use Rattle.tree_node.specs.declared.names.VarName.{VarName}
use Rattle.tree_node.specs.declared.names.ThreadName.{ThreadName}
use Rattle.tree_node.specs.declared.node.Term.{Term}
use Rattle.site_message.specs.declared.message.Sent.{Sent}
use Rattle.site_message.specs.declared.message.Msg.{Msg}
use Rattle.site_message.specs.declared.message.Msg.TheVariants as msg
use Rattle.proxy_table.specs.Proxies.{entry_of}
use Rattle.proxy_table.specs.Proxies as proxies
use Rattle.variable_owner.specs.declared.owners.Owner.{Owner}
use Rattle.variable_owner.specs.declared.owners.Owner.TheVariants.{Open, Bound}
use Rattle.variable_owner.specs.Owners.{owner_of, sites_of, with_owner}
use Rattle.variable_owner.specs.Owners as owners
use Rattle.bind_protocol.specs.Records.{Records, is_own}

-- this message to this site
abbrev pub sent_message : ℕ → Msg → Sent
sent_message to message = record { to = to; msg = message }

-- the Register of x by the asking site, to the owner of x
abbrev pub register : VarName → ℕ → Sent
register x asking = sent_message x.site (msg.Register x asking)

-- the BindReq of a thread that wants x bound to t, to the owner of x
abbrev pub request : VarName → Term → ThreadName → Sent
request x t thread = sent_message x.site (msg.BindReq x thread t [])

-- the Binding of x to t, to this site
abbrev pub binding : VarName → Term → ℕ → Sent
binding x t to = sent_message to (msg.Binding x t [])

-- A variable of the site's own is made, unbound
abbrev pub after_make : Records → VarName → Records
after_make b x = record b { owners = with_owner b.owners x (Open []) }

-- A name is met: one owned elsewhere that is new is kept, and a Register goes to its owner
abbrev pub after_meet : Records → VarName → Records
after_meet b x = if is_own b x then b else record b { proxies = proxies.after_meet b.proxies x }

-- what the site sends when it meets x: a Register, where x is owned elsewhere and was not met before
abbrev pub meet_sends : Records → VarName → List Sent
meet_sends b x = if is_own b x then [] else if is_some (entry_of b.proxies x) then [] else register x b.site ∷ []

-- Names are met one after another
abbrev pub after_meets : Records → List VarName → Records
after_meets b [] = b
after_meets b (x ∷ xs) = after_meets (after_meet b x) xs

-- what it sends when it meets these in order
abbrev pub meets_send : Records → List VarName → List Sent
meets_send b [] = []
meets_send b (x ∷ xs) = meet_sends b x ++ meets_send (after_meet b x) xs

-- Register(x, k): k joins the sites of an unbound x; a bound x is answered by a Binding to k
abbrev pub after_register : Records → VarName → ℕ → Records
after_register b x k = record b { owners = owners.after_register b.owners x k }

-- the owner's answer to a Register of x by site k: a Binding where x is bound, else none
abbrev pub register_answer : Option Owner → VarName → ℕ → List Sent
register_answer (Some (Bound t)) x k = binding x t k ∷ []
register_answer _ x k = []

-- what the site sends when a Register of x by site k comes
abbrev pub register_sends : Records → VarName → ℕ → List Sent
register_sends b x k = register_answer (owner_of b.owners x) x k

-- BindReq(x, t), and the owner's own bind: an unbound x is bound to t, and a Binding goes to each of its sites. A
-- bound x stays as it is, and nothing is sent
abbrev pub after_ask : Records → VarName → Term → Records
after_ask b x t = record b { owners = owners.after_ask b.owners x t }

-- what the owner sends when it is asked to bind x to t: a Binding to each registered site, of which a bound x has none
abbrev pub ask_sends : Records → VarName → Term → List Sent
ask_sends b x t = map (λ k. binding x t k) (sites_of (owner_of b.owners x))

-- Binding(x, t): x is known to be bound to t
abbrev pub after_binding : Records → VarName → Term → Records
after_binding b x t = record b { proxies = proxies.after_bound b.proxies x t }

-- A name is met together with its term, which a bundle tells: nothing is sent for it
abbrev pub after_meet_bound : Records → VarName → Term → Records
after_meet_bound b x t = if is_own b x then b else after_binding b x t

-- A bind that a thread of the site wants: of an own variable it is made, else a BindReq goes to the owner, and the
-- site knows no more than before
abbrev pub after_want : Records → VarName → Term → Records
after_want b x t = if is_own b x then after_ask b x t else b

-- what the site sends when its thread wants x bound to t: Bindings where it owns x, else a BindReq to the owner
abbrev pub want_sends : Records → VarName → Term → ThreadName → List Sent
want_sends b x t thread = if is_own b x then ask_sends b x t else request x t thread ∷ []

-- A message comes
abbrev pub after_message : Records → Msg → Records
after_message b (msg.Register x k) = after_register b x k
after_message b (msg.BindReq x thread t bundle) = after_ask b x t
after_message b (msg.Binding x t bundle) = after_binding b x t
after_message b _ = b

-- what the site sends when the message comes: a Register and a BindReq may be answered by Bindings, others by nothing
abbrev pub message_sends : Records → Msg → List Sent
message_sends b (msg.Register x k) = register_sends b x k
message_sends b (msg.BindReq x thread t bundle) = ask_sends b x t
message_sends b _ = []
