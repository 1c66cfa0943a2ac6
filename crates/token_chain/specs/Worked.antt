-- Worked requests for one cell of three sites, by the rows of one site.
use Rattle.std.specs.Prelude.{◌≡◌, ℕ, [], ◌∷◌, None, Some}
use Rattle.tree_node.specs.declared.names.VarName.{VarName}
use Rattle.token_chain.specs.declared.token.Token.TheVariants.{Asked}
use Rattle.token_chain.specs.Holding.{Holding, nothing_held, here_with}
use Rattle.token_chain.specs.Mail.{Get, Forward, Put}
use Rattle.token_chain.specs.Rows.{reply_without_mail, forward_reply, put_reply, get_reply, exchange_reply}

-- variable k of site 1
abbrev pub variable : ℕ → VarName
variable k = record { site = 1; num = k }

-- so many threads wait for the token, which was asked for
abbrev pub waiting_for : ℕ → Holding
waiting_for k = record { token = Asked; next = None; waiting = k }

-- site 1 made the cell with variable 0 and manages it. Site 3 asks and gets the token; site 2 asks while it is on its
-- way, and the Forward comes before the Put; then two threads of site 3 ask, with one Get, and are served in order
pub record WorkedRequests : Type 0 where
  pub asks : exchange_reply 1 1 3 (variable 1) nothing_held ≡ record { held = waiting_for 1; sent = Get 3 ∷ [] }
  pub leaves : get_reply 1 1 3 (here_with (variable 0)) ≡ record { held = nothing_held; sent = Put 3 (variable 0) ∷ [] }
  pub tells : get_reply 1 3 2 nothing_held ≡ record { held = nothing_held; sent = Forward 3 2 ∷ [] }
  pub early : forward_reply (waiting_for 1) 2 ≡ reply_without_mail (record (waiting_for 1) { next = Some 2 })
  pub passes : put_reply (record (waiting_for 1) { next = Some 2 }) (variable 1) ≡ record { held = nothing_held; sent = Put 2 (variable 1) ∷ [] }
  pub stays : put_reply (waiting_for 1) (variable 2) ≡ reply_without_mail (here_with (variable 2))
  pub again : exchange_reply 1 2 3 (variable 4) (waiting_for 1) ≡ reply_without_mail (waiting_for 2)
  pub hands : forward_reply (here_with (variable 2)) 3 ≡ record { held = nothing_held; sent = Put 3 (variable 2) ∷ [] }
  pub serves : put_reply (waiting_for 2) (variable 4) ≡ reply_without_mail (here_with (variable 4))
  -- the manager's own site asks without a Get, and an exchange where the token is sends nothing
  pub own : exchange_reply 1 3 1 (variable 5) nothing_held ≡ record { held = waiting_for 1; sent = Forward 3 1 ∷ [] }
  pub here : exchange_reply 1 3 3 (variable 5) (here_with (variable 4)) ≡ reply_without_mail (here_with (variable 5))
