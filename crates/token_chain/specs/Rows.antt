-- The rows of the protocol at one site: what the site keeps of a cell after an event, and what it sends
-- (TOPLAS 19(5), 1997).
use Rattle.std.specs.Prelude.{ℕ, List, [], ◌∷◌, ◌==◌, Option, Some, None, if◌then◌else◌}
use Rattle.tree_node.specs.declared.names.VarName.{VarName}
use Rattle.token_chain.specs.declared.token.Token.{Token}
use Rattle.token_chain.specs.declared.token.Token.TheVariants.{Away, Asked, Here}
use Rattle.token_chain.specs.Holding.{Holding, nothing_held, with_waiter, departure_of}
use Rattle.token_chain.specs.Mail.{Mail, Get, Forward, Put}

-- what a site keeps of the cell after an event, and what it sends
pub record Reply : Type 0 where
  pub held : Holding
  pub sent : List Mail

-- the site keeps this and sends nothing
abbrev pub reply_without_mail : Holding → Reply
reply_without_mail h = record { held = h; sent = [] }

-- with a receiver the token goes there by a Put and nothing is kept, without one it stays
abbrev pub leave_with : Holding → Option (ℕ × VarName) → Reply
leave_with h None = reply_without_mail h
leave_with h (Some (k, v)) = record { held = nothing_held; sent = Put k v ∷ [] }

-- the token leaves where it may, to the successor and with the content
abbrev pub leave_reply : Holding → Reply
leave_reply h = leave_with h (departure_of h)

-- Forward(c, k): k is the successor, and a token that is here and that nobody waits for goes to it
abbrev pub forward_reply : Holding → ℕ → Reply
forward_reply h k = leave_reply (record h { next = Some k })

-- Put(c, v): all that wait exchange in order, and leave the content w. Then the token goes to a known successor
abbrev pub put_reply : Holding → VarName → Reply
put_reply h w = leave_reply (record h { token = Here w; waiting = 0 })

-- Get(c, k) at the manager's site: the site that asked last is told that k comes next, by a message unless it is the
-- manager's own. Then k is the one that asked last
abbrev pub get_reply : (manager last k : ℕ) → Holding → Reply
get_reply manager last k h = if last == manager then forward_reply h k else record { held = h; sent = Forward last k ∷ [] }

-- a first request of a site goes to the manager, by a message unless it is at the same site
abbrev pub first_request : (manager last s : ℕ) → Holding → Reply
first_request manager last s h = if s == manager then get_reply manager last s h else record { held = h; sent = Get s ∷ [] }

-- a thread of site s exchanges the content for w: at once where the token is here. Else it waits, and the first that
-- waits asks for the token
abbrev pub exchange_reply : (manager last s : ℕ) → VarName → Holding → Reply
exchange_reply manager last s w h = by_token h.token
  where
    by_token : Token → Reply
    by_token (Here v) = reply_without_mail (record h { token = Here w })
    by_token Asked = reply_without_mail (with_waiter h)
    by_token Away = first_request manager last s (with_waiter h)

-- the site that asked last after that
abbrev pub last_after : (manager last s : ℕ) → Token → ℕ
last_after manager last s Away = if s == manager then s else last
last_after manager last s _ = last

-- the content after that, where it was v
abbrev pub content_then : VarName → VarName → Token → VarName
content_then v w (Here u) = w
content_then v w _ = v
