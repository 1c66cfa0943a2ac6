-- What each event makes of one cell, whatever else travels between the sites: what the sites keep of the cell, and how
-- many of each of its messages are under way, are functions (TOPLAS 19(5), 1997).
use Rattle.std.specs.Prelude.{◌≡◌, ◌≢◌, ℕ, ◌+◌, List, [], ◌∷◌, Some}
use Rattle.tree_node.specs.declared.names.VarName.{VarName}
use Rattle.token_chain.specs.declared.token.Token.TheVariants.{Away, Asked, Here}
use Rattle.token_chain.specs.Holding.{Holding, nothing_held, here_with, with_waiter, CanFollow}
use Rattle.token_chain.specs.Mail.{Mail, Get, Forward, Put, mail_count}
use Rattle.token_chain.specs.Rows.{Reply, reply_without_mail, forward_reply, put_reply, get_reply, exchange_reply, last_after, content_then}
use Rattle.token_chain.specs.Chain.{ChainOf}

-- site s replied, the others keep what they had, and the messages in `gone` have come
pub record HasReplied (s : ℕ) (r : Reply) (gone : List Mail) (at to : ℕ → Holding) (before after : Mail → ℕ) : Type 0 where
  pub here : to s ≡ r.held
  pub others : (k : ℕ) → k ≢ s → to k ≡ at k
  pub mail : (m : Mail) → after m + mail_count gone m ≡ before m + mail_count r.sent m

-- ---- laws

-- a cell that was nowhere is made at site o
abbrev pub MakingStarts : Type 0
MakingStarts =
    (at to : ℕ → Holding) (n m : Mail → ℕ) (o : ℕ) (v : VarName) → ((s : ℕ) → at s ≡ nothing_held) → ((k : Mail) → n k ≡ 0) →
    HasReplied o (reply_without_mail (here_with v)) [] at to n m → ChainOf o to m v

-- a first thread of a site wants the token, and a Get goes to the manager
abbrev pub AskingKeeps : Type 0
AskingKeeps =
    (last : ℕ) (at to : ℕ → Holding) (n m : Mail → ℕ) (v : VarName) (s : ℕ) → ChainOf last at n v → (at s).token ≡ Away →
    HasReplied s (record { held = with_waiter (at s); sent = Get s ∷ [] }) [] at to n m → ChainOf last to m v

-- a further thread waits
abbrev pub WaitingKeeps : Type 0
WaitingKeeps =
    (last : ℕ) (at to : ℕ → Holding) (n m : Mail → ℕ) (v : VarName) (s : ℕ) → ChainOf last at n v → (at s).token ≡ Asked →
    HasReplied s (reply_without_mail (with_waiter (at s))) [] at to n m → ChainOf last to m v

-- a first thread of the manager's own site wants the token: a Forward goes to another site, which asked last
abbrev pub OwnAskingKeeps : Type 0
OwnAskingKeeps =
    (last : ℕ) (at to : ℕ → Holding) (n m : Mail → ℕ) (v : VarName) (o : ℕ) → ChainOf last at n v → (at o).token ≡ Away →
    (last ≢ o) × (HasReplied o (record { held = with_waiter (at o); sent = Forward last o ∷ [] }) [] at to n m → ChainOf o to m v)

-- a Get comes to the manager
abbrev pub GetKeeps : Type 0
GetKeeps =
    (last : ℕ) (at to : ℕ → Holding) (n m : Mail → ℕ) (v : VarName) (manager k : ℕ) → ChainOf last at n v → n (Get k) ≢ 0 →
    HasReplied manager (get_reply manager last k (at manager)) (Get k ∷ []) at to n m → ChainOf k to m v

-- a Forward comes
abbrev pub ForwardKeeps : Type 0
ForwardKeeps =
    (last : ℕ) (at to : ℕ → Holding) (n m : Mail → ℕ) (v : VarName) (a b : ℕ) → ChainOf last at n v → n (Forward a b) ≢ 0 →
    HasReplied a (forward_reply (at a) b) (Forward a b ∷ []) at to n m → ChainOf last to m v

-- a Put comes, and those that wait leave the content w
abbrev pub PutKeeps : Type 0
PutKeeps =
    (last : ℕ) (at to : ℕ → Holding) (n m : Mail → ℕ) (v u w : VarName) (s : ℕ) → ChainOf last at n v → n (Put s u) ≢ 0 →
    HasReplied s (put_reply (at s) w) (Put s u ∷ []) at to n m → ChainOf last to m w

-- a thread exchanges where the token is
abbrev pub ExchangeKeeps : Type 0
ExchangeKeeps =
    (last : ℕ) (at to : ℕ → Holding) (n m : Mail → ℕ) (v u w : VarName) (s : ℕ) → ChainOf last at n v → (at s).token ≡ Here u →
    HasReplied s (reply_without_mail (record (at s) { token = Here w })) [] at to n m → ChainOf last to m w

-- a thread of any site exchanges, or waits to
abbrev pub UnitKeeps : Type 0
UnitKeeps =
    (last : ℕ) (at to : ℕ → Holding) (n m : Mail → ℕ) (v w : VarName) (manager s : ℕ) → ChainOf last at n v →
    HasReplied s (exchange_reply manager last s w (at s)) [] at to n m →
    ChainOf (last_after manager last s (at s).token) to m (content_then v w (at s).token)

-- nothing happens
abbrev pub NothingKeeps : Type 0
NothingKeeps =
    (last : ℕ) (at to : ℕ → Holding) (n m : Mail → ℕ) (v : VarName) → ChainOf last at n v → ((s : ℕ) → to s ≡ at s) →
    ((k : Mail) → m k ≡ n k) → ChainOf last to m v

-- ---- what a chain says of a message that is under way, and of the token where it is

-- it can be taken, and what it names is another site
abbrev pub CanCome : ℕ → (ℕ → Holding) → VarName → Mail → Type 0
CanCome last at v (Get k) = ((at k).token ≡ Asked) × (k ≢ last) × CanFollow (at last)
CanCome last at v (Forward a b) = CanFollow (at a) × ((at b).token ≡ Asked) × (a ≢ b)
CanCome last at v (Put s u) = ((at s).token ≡ Asked) × (u ≡ v)

-- each message under way is there once, and can be taken
abbrev pub MessagesCanCome : Type 0
MessagesCanCome = (last : ℕ) (at : ℕ → Holding) (n : Mail → ℕ) (v : VarName) → ChainOf last at n v → (m : Mail) → n m ≢ 0 → (n m ≡ 1) × CanCome last at v m

-- a token that is here has the chain's content; its site has no successor, and nobody waits there
abbrev pub TokensHaveContents : Type 0
TokensHaveContents =
    (last : ℕ) (at : ℕ → Holding) (n : Mail → ℕ) (v u : VarName) (s : ℕ) → ChainOf last at n v → (at s).token ≡ Here u →
    (u ≡ v) × (at s ≡ here_with u)

-- a stored successor is another site, which asked
abbrev pub SuccessorsAsked : Type 0
SuccessorsAsked =
    (last : ℕ) (at : ℕ → Holding) (n : Mail → ℕ) (v : VarName) (s b : ℕ) → ChainOf last at n v → (at s).next ≡ Some b →
    (s ≢ b) × ((at b).token ≡ Asked)

-- a site that has nothing to do with the token keeps nothing
abbrev pub AwayKeepsNothing : Type 0
AwayKeepsNothing =
    (last : ℕ) (at : ℕ → Holding) (n : Mail → ℕ) (v : VarName) (s : ℕ) → ChainOf last at n v → (at s).token ≡ Away → at s ≡ nothing_held

-- the site that asked last has the token or asked for it
abbrev pub LastIsUsed : Type 0
LastIsUsed = (last : ℕ) (at : ℕ → Holding) (n : Mail → ℕ) (v : VarName) → ChainOf last at n v → (at last).token ≢ Away

-- the reply sends no Get of the manager's own site
abbrev pub SendsNoGet : ℕ → Reply → Type 0
SendsNoGet manager r = mail_count r.sent (Get manager) ≡ 0

-- no row sends a Get of the manager's own site: where none was under way none comes to be, and each Get is another site's
pub record GetsAreOfOthers : Type 0 where
  pub unit : (manager last s : ℕ) (w : VarName) (h : Holding) → SendsNoGet manager (exchange_reply manager last s w h)
  pub get : (manager last k : ℕ) (h : Holding) → SendsNoGet manager (get_reply manager last k h)
  pub forward : (manager b : ℕ) (h : Holding) → SendsNoGet manager (forward_reply h b)
  pub put : (manager : ℕ) (w : VarName) (h : Holding) → SendsNoGet manager (put_reply h w)
  pub making : (manager : ℕ) (h : Holding) → SendsNoGet manager (reply_without_mail h)
  pub replies : (manager s : ℕ) (r : Reply) (gone : List Mail) (at to : ℕ → Holding) (n m : Mail → ℕ) → SendsNoGet manager r →
      HasReplied s r gone at to n m → n (Get manager) ≡ 0 → m (Get manager) ≡ 0
  pub another : (manager k : ℕ) (n : Mail → ℕ) → n (Get manager) ≡ 0 → n (Get k) ≢ 0 → k ≢ manager
