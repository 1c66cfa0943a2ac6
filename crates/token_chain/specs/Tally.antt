-- How many messages a cell's requests take, whatever else travels: functions of sites and messages, as in Moves.
use Rattle.std.specs.Prelude.{◌≡◌, ℕ, zero, suc, ◌+◌, ◌*◌, ◌≤◌, List, [], ◌∷◌}
use Rattle.tree_node.specs.declared.names.VarName.{VarName}
use Rattle.token_chain.specs.declared.token.Token.{Token}
use Rattle.token_chain.specs.declared.token.Token.TheVariants.{Away, Asked, Here}
use Rattle.token_chain.specs.Holding.{Holding, nothing_held, here_with, with_waiter}
use Rattle.token_chain.specs.Mail.{Mail, Get, Forward, Put, mail_count}
use Rattle.token_chain.specs.Moves.{HasReplied}
use Rattle.token_chain.specs.Rows.{Reply, reply_without_mail, forward_reply, put_reply, get_reply}

-- f 1 + .. + f n
abbrev pub total : ℕ → (ℕ → ℕ) → ℕ
total zero f = 0
total (suc n) f = total n f + f (suc n)

-- 1 where a request is outstanding
abbrev pub outstanding : Token → ℕ
outstanding Asked = 1
outstanding _ = 0

-- 1 where the token is here
abbrev pub held_here : Token → ℕ
held_here (Here v) = 1
held_here _ = 0

-- what messages weigh by their kinds
abbrev pub weight : (g f u : ℕ) → Mail → ℕ
weight g f u (Get s) = g
weight g f u (Forward a b) = f
weight g f u (Put s v) = u

-- their sum over a list of messages
abbrev pub weights : (g f u : ℕ) → List Mail → ℕ
weights g f u [] = 0
weights g f u (m ∷ ms) = weight g f u m + weights g f u ms

-- so many Gets, Forwards and Puts were sent, with so many exchanges: over all sites no more Gets, and no more Forwards, than
-- exchanges and outstanding requests, and no more Puts than exchanges and one, which took the token from the site that made
-- the cell. An outstanding request has a thread that waits
pub record Tally (n : ℕ) (at : ℕ → Holding) (travels : Mail → ℕ) (gets forwards puts exchanges : ℕ) : Type 0 where
  pub wanted : (s : ℕ) → (at s).token ≡ Asked → 1 ≤ (at s).waiting
  pub few_gets : gets ≤ exchanges + total n (λ s. outstanding (at s).token)
  pub few_forwards : forwards + total n (λ s. travels (Get s)) ≤ exchanges + total n (λ s. outstanding (at s).token)
  pub few_puts : puts + total n (λ s. held_here (at s).token) ≤ exchanges + 1

-- so all messages of a cell are at most three for each exchange and each site
abbrev pub TalliesBound : Type 0
TalliesBound =
    (n : ℕ) (at : ℕ → Holding) (travels : Mail → ℕ) (gets forwards puts exchanges : ℕ) → 1 ≤ n → Tally n at travels gets forwards puts exchanges →
    gets + forwards + puts ≤ 3 * (exchanges + n)

-- and at most one Get and one Forward for each exchange and each site, and one Put more than there are exchanges
abbrev pub KindsBound : Type 0
KindsBound =
    (n : ℕ) (at : ℕ → Holding) (travels : Mail → ℕ) (gets forwards puts exchanges : ℕ) → Tally n at travels gets forwards puts exchanges →
    (gets ≤ exchanges + n) × (forwards ≤ exchanges + n) × (puts ≤ exchanges + 1)

-- a reply with so many exchanges pays for its messages
pub record IsPaid (h : Holding) (r : Reply) (came : ℕ) (exchanges : ℕ) : Type 0 where
  pub wanted : r.held.token ≡ Asked → 1 ≤ r.held.waiting
  pub gets : weights 1 0 0 r.sent + outstanding h.token ≤ exchanges + outstanding r.held.token
  pub forwards : weights 0 1 0 r.sent + weights 1 0 0 r.sent + outstanding h.token ≤ exchanges + outstanding r.held.token + came
  pub puts : weights 0 0 1 r.sent + held_here r.held.token ≤ exchanges + held_here h.token

-- an outstanding request has a thread that waits
abbrev pub HasWaiter : Holding → Type 0
HasWaiter h = h.token ≡ Asked → 1 ≤ h.waiting

-- each row pays
pub record RowsPay : Type 0 where
  pub asking : (h : Holding) (s : ℕ) → h.token ≡ Away → IsPaid h (record { held = with_waiter h; sent = Get s ∷ [] }) 0 0
  pub own_asking : (h : Holding) (last o : ℕ) → h.token ≡ Away → IsPaid h (record { held = with_waiter h; sent = Forward last o ∷ [] }) 0 0
  pub waiting : (h : Holding) → h.token ≡ Asked → IsPaid h (reply_without_mail (with_waiter h)) 0 0
  pub get : (manager last k : ℕ) (h : Holding) → HasWaiter h → IsPaid h (get_reply manager last k h) 1 0
  pub forward : (h : Holding) (k : ℕ) → HasWaiter h → IsPaid h (forward_reply h k) 0 0
  pub put : (h : Holding) (w : VarName) (served : ℕ) → h.token ≡ Asked → 1 ≤ served → IsPaid h (put_reply h w) 0 served
  pub exchange : (h : Holding) (u w : VarName) → h.token ≡ Here u → IsPaid h (reply_without_mail (record h { token = Here w })) 0 1

-- so the tally is kept by each reply of one of n sites, where the Gets that came were of such sites
abbrev pub RepliesPay : Type 0
RepliesPay =
    (n : ℕ) (at to : ℕ → Holding) (before after : Mail → ℕ) (s : ℕ) (r : Reply) (gone : List Mail) (gets forwards puts exchanges more : ℕ) → 1 ≤ s → s ≤ n →
    HasReplied s r gone at to before after → IsPaid (at s) r (total n (λ k. mail_count gone (Get k))) more → Tally n at before gets forwards puts exchanges →
    Tally n to after (gets + weights 1 0 0 r.sent) (forwards + weights 0 1 0 r.sent) (puts + weights 0 0 1 r.sent) (exchanges + more)

-- a cell begins with its token where it is made
abbrev pub MakingTallies : Type 0
MakingTallies =
    (n : ℕ) (at to : ℕ → Holding) (before after : Mail → ℕ) (o : ℕ) (v : VarName) → 1 ≤ o → o ≤ n → ((s : ℕ) → at s ≡ nothing_held) → ((m : Mail) → before m ≡ 0) →
    HasReplied o (reply_without_mail (here_with v)) [] at to before after → Tally n to after 0 0 0 0
