-- What rows on cells leave of a site, and which messages they send.
use Rattle.std.proofs.Common.{◌≡◌, ap, refl, subst, ℕ, List, [], ◌∷◌, ◌⊎◌, inl, inr, map, Bool, true, false, cond, Some, None}
use Rattle.std.specs.Prelude.{Option, Contains, ◌==◌, ◌+◌}
use Rattle.tree_node.specs.declared.names.VarName.{VarName}
use Rattle.tree_node.specs.declared.names.CellName.{CellName}
use Rattle.tree_node.specs.declared.names.ThreadName.{ThreadName}
use Rattle.tree_node.specs.Each.{Each}
use Rattle.tree_node.specs.State.{Stack}
use Rattle.tree_node.specs.Store.{Store}
use Rattle.tree_node.proofs.ClassLemmas.{Contains-cons_cases}
use Rattle.site_message.specs.declared.message.Msg.{Msg}
use Rattle.site_message.specs.declared.message.Sent.{Sent}
use Rattle.token_chain.specs.declared.token.Token.{Token}
use Rattle.token_chain.specs.declared.token.Token.TheVariants.{Away, Asked, Here}
use Rattle.token_chain.specs.Holding.{Holding, departure, departure_of}
use Rattle.token_chain.specs.Mail.{Get, Forward, Put, sent_as}
use Rattle.token_chain.specs.Mail as token
use Rattle.token_chain.specs.Rows.{Reply, leave_with, leave_reply, forward_reply, get_reply, exchange_reply}
use Rattle.site_model.specs.Site.{Site, cell_record}
use Rattle.site_model.specs.Bundle.{with_own_bundle, with_own_bundles}
use Rattle.site_model.specs.Transition.{Transition, without_output}
use Rattle.site_model.specs.Cells.{cell_reply, leave_row, forward_row, with_last_asker, get_row, with_own_request, with_exchange_waiting, request_row}
use Rattle.world_model.proofs.MailLemmas.{nothing, sent_to}

-- ---- what stays

-- all else stays as it was
pub record OnlyCells (s : Site) (d : Transition) : Type 0 where
  pub equations : d.site.equations ≡ s.equations
  pub records : d.site.records ≡ s.records
  pub threads : d.site.threads ≡ s.threads
  pub counters : d.site.counters ≡ s.counters
  pub ended : d.site.ended ≡ s.ended
  pub steps : d.site.steps ≡ s.steps
  pub picks : d.picks ≡ []
  pub lines : d.lines ≡ []

pub reply_only : (limit : ℕ) (c : CellName) (queue : List ThreadName) (r : Reply) (s : Site) → OnlyCells s (cell_reply limit c queue r s)
reply_only limit c queue r s = record { equations = refl; records = refl; threads = refl; counters = refl; ended = refl; steps = refl; picks = refl; lines = refl }

pub leave_only : (limit : ℕ) (c : CellName) (s : Site) → OnlyCells s (leave_row limit c s)
leave_only limit c s = reply_only limit c _ _ s

pub forward_only : (limit : ℕ) (c : CellName) (k : ℕ) (s : Site) → OnlyCells s (forward_row limit c k s)
forward_only limit c k s = reply_only limit c _ _ s

pub get_only : (limit : ℕ) (c : CellName) (k : ℕ) (s : Site) → OnlyCells s (get_row limit c k s)
get_only limit c k s = record { equations = refl; records = refl; threads = refl; counters = refl; ended = refl; steps = refl; picks = refl; lines = refl }

own_only : (c : CellName) (t : Token) (u : Site) → OnlyCells u (without_output (with_own_request c t u))
own_only c Away u = go (c.site == u.records.site)
  where
    go : (b : Bool) → OnlyCells u (without_output (cond b (with_last_asker c u.records.site u) u))
    go true = record { equations = refl; records = refl; threads = refl; counters = refl; ended = refl; steps = refl; picks = refl; lines = refl }
    go false = record { equations = refl; records = refl; threads = refl; counters = refl; ended = refl; steps = refl; picks = refl; lines = refl }
own_only c Asked u = record { equations = refl; records = refl; threads = refl; counters = refl; ended = refl; steps = refl; picks = refl; lines = refl }
own_only c (Here v) u = record { equations = refl; records = refl; threads = refl; counters = refl; ended = refl; steps = refl; picks = refl; lines = refl }

pub request_only : (limit : ℕ) (c : CellName) (new : VarName) (n : ThreadName) (st : Stack) (s : Site) → OnlyCells (with_exchange_waiting c n st s) (request_row limit c new n st s)
request_only limit c new n st s =
    let o = own_only c (cell_record s c).held.token (with_exchange_waiting c n st s) in
    record { equations = o.equations; records = o.records; threads = o.threads; counters = o.counters; ended = o.ended; steps = o.steps; picks = refl; lines = refl }

-- ---- messages

-- as it goes, with its bundle
abbrev pub letter : ℕ → CellName → Store → token.Mail → Sent
letter limit c s a = with_own_bundle limit s (sent_as c a)

abbrev pub letters : ℕ → CellName → Store → List token.Mail → List Sent
letters limit c s ms = with_own_bundles limit s (map (sent_as c) ms)

-- ---- which messages a reply has

pub leaves_here : (t : Token) (o : Option ℕ) (m : ℕ) (k : ℕ) (u : VarName) → departure t o m ≡ Some (k, u) → t ≡ Here u
leaves_here Away o m k u f = cc
leaves_here Asked o m k u f = cc
leaves_here (Here w) None m k u f = cc
leaves_here (Here w) (Some j) m k u f = go (m == 0) f
  where
    second : Option (ℕ × VarName) → VarName
    second None = w
    second (Some q) = q.1

    go : (b : Bool) → cond {A = Option (ℕ × VarName)} b (Some (j, w)) None ≡ Some (k, u) → Here w ≡ Here u
    go true q = ap Here (ap second q)
    go false q = cc

never_away : (v : VarName) → Away ≡ Here v → ⊥
never_away v e = cc

never_asked : (v : VarName) → Asked ≡ Here v → ⊥
never_asked v e = cc

-- P holds of each message of a reply where it holds of the content that is here when it leaves, of a Forward, and of a Get
module _ (P : Sent → Type 0) (limit : ℕ) (c : CellName) (s : Store) where
  pub leave_each : (h : Holding) → ((k : ℕ) (u : VarName) → h.token ≡ Here u → P (letter limit c s (Put k u))) → Each P (letters limit c s (leave_reply h).sent)
  leave_each h put = go (departure_of h) refl
    where
      go : (o : Option (ℕ × VarName)) → departure_of h ≡ o → Each P (letters limit c s (leave_with h o).sent)
      go None e = tt
      go (Some (k, u)) e = (put k u (leaves_here h.token h.next h.waiting k u e), tt)

  pub get_each : (manager last k : ℕ) (h : Holding) → ((j : ℕ) (u : VarName) → h.token ≡ Here u → P (letter limit c s (Put j u))) → P (letter limit c s (Forward last k)) →
      Each P (letters limit c s (get_reply manager last k h).sent)
  get_each manager last k h put forward = go (last == manager)
    where
      go : (b : Bool) → Each P (letters limit c s (cond b (forward_reply h k) (record { held = h; sent = Forward last k ∷ [] })).sent)
      go true = leave_each (record h { next = Some k }) put
      go false = (forward, tt)

  pub request_each : (manager last i : ℕ) (new : VarName) (h : Holding) → P (letter limit c s (Forward last i)) → ((i == manager) ≡ false → P (letter limit c s (Get i))) →
      Each P (letters limit c s (exchange_reply manager last i new h).sent)
  request_each manager last i new h forward get = go h.token refl
    where
      first : (b : Bool) → (i == manager) ≡ b → Each P (letters limit c s (cond b (get_reply manager last i (record { token = Asked; next = h.next; waiting = h.waiting + 1 })) (record { held = record { token = Asked; next = h.next; waiting = h.waiting + 1 }; sent = Get i ∷ [] })).sent)
      first true q = get_each manager last i (record { token = Asked; next = h.next; waiting = h.waiting + 1 }) (λ j u f. absurd (never_asked u f)) forward
      first false q = (get q, tt)

      go : (t : Token) → h.token ≡ t → Each P (letters limit c s (exchange_reply manager last i new h).sent)
      go Away e = rw e (first (i == manager) refl)
      go Asked e = rw e tt
      go (Here u) e = rw e tt

-- ---- a token that is here afterwards was here before

pub leave_keeps : (h : Holding) (v : VarName) → (leave_reply h).held.token ≡ Here v → h.token ≡ Here v
leave_keeps h v e = go (departure_of h) e
  where
    go : (o : Option (ℕ × VarName)) → (leave_with h o).held.token ≡ Here v → h.token ≡ Here v
    go None q = q
    go (Some k) q = absurd (never_away v q)

pub get_keeps : (manager last k : ℕ) (h : Holding) (v : VarName) → (get_reply manager last k h).held.token ≡ Here v → h.token ≡ Here v
get_keeps manager last k h v e = go (last == manager) e
  where
    go : (b : Bool) → (cond b (forward_reply h k) (record { held = h; sent = Forward last k ∷ [] })).held.token ≡ Here v → h.token ≡ Here v
    go true q = leave_keeps (record h { next = Some k }) v q
    go false q = q

-- a request of a token that is not here brings none
pub request_keeps : (manager last i : ℕ) (new : VarName) (h : Holding) (v : VarName) → ((u : VarName) → h.token ≡ Here u → ⊥) → (exchange_reply manager last i new h).held.token ≡ Here v → ⊥
request_keeps manager last i new h v none = go h.token refl
  where
    first : (b : Bool) → (cond b (get_reply manager last i (record { token = Asked; next = h.next; waiting = h.waiting + 1 })) (record { held = record { token = Asked; next = h.next; waiting = h.waiting + 1 }; sent = Get i ∷ [] })).held.token ≡ Here v → ⊥
    first true q = never_asked v (get_keeps manager last i (record { token = Asked; next = h.next; waiting = h.waiting + 1 }) v q)
    first false q = never_asked v q

    go : (t : Token) → h.token ≡ t → (exchange_reply manager last i new h).held.token ≡ Here v → ⊥
    go Away e = rw e (first (i == manager))
    go Asked e = rw e (never_asked v)
    go (Here u) e = absurd (none u e)

-- what holds of each of a list
pub from_each : (Q : ℕ → Msg → Type 0) (ms : List Sent) → Each (λ (o : Sent). Q o.to o.msg) ms → (to : ℕ) (m : Msg) → Contains ms (sent_to to m) → Q to m
from_each Q [] h to m q = absurd (nothing _ q)
from_each Q (o ∷ ms) h to m q = go (Contains-cons_cases _ _ ms q) (λ k. from_each Q ms h.1 to m k)
  where
    go : (o ≡ sent_to to m) ⊎ Contains ms (sent_to to m) → (Contains ms (sent_to to m) → Q to m) → Q to m
    go (inl e) ih = subst (λ (x : Sent). Q x.to x.msg) e h.0
    go (inr k) ih = ih k
