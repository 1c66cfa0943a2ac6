-- No row sends a Get of the manager's own site.
use Rattle.std.proofs.Common.{arith, ◌≡◌, ◌≢◌, ◌∙◌, ap, refl, ℕ, ◌+◌, List, [], ◌∷◌, Bool, true, false, cond, Some, None}
use Rattle.std.specs.Prelude.{Option, ◌==◌}
use Rattle.tree_node.specs.declared.names.VarName.{VarName}
use Rattle.token_chain.specs.declared.token.Token.{Token}
use Rattle.token_chain.specs.declared.token.Token.TheVariants.{Away, Asked, Here}
use Rattle.token_chain.specs.Holding.{Holding, with_waiter, departure_of}
use Rattle.token_chain.specs.Mail.{Mail, Get, Forward}
use Rattle.token_chain.specs.Rows.{Reply, leave_with, forward_reply, get_reply, first_request, exchange_reply}
use Rattle.token_chain.specs.Moves.{HasReplied, SendsNoGet, GetsAreOfOthers}

leave_sends : (manager : ℕ) (h : Holding) (o : Option (ℕ × VarName)) → SendsNoGet manager (leave_with h o)
leave_sends manager h None = refl
leave_sends manager h (Some (k, v)) = refl

forward_sends : (manager b : ℕ) (h : Holding) → SendsNoGet manager (forward_reply h b)
forward_sends manager b h = leave_sends manager (record h { next = Some b }) (departure_of (record h { next = Some b }))

get_sends : (manager last k : ℕ) (h : Holding) → SendsNoGet manager (get_reply manager last k h)
get_sends manager last k h = go (last == manager)
  where
    go : (b : Bool) → SendsNoGet manager (cond b (forward_reply h k) (record { held = h; sent = Forward last k ∷ [] }))
    go true = forward_sends manager k h
    go false = refl

first_sends : (manager last s : ℕ) (h : Holding) → SendsNoGet manager (first_request manager last s h)
first_sends manager last s h = go (s == manager) refl
  where
    go : (b : Bool) → (s == manager) ≡ b → SendsNoGet manager (cond b (get_reply manager last s h) (record { held = h; sent = Get s ∷ [] }))
    go true q = get_sends manager last s h
    go false q = rw q refl

unit_sends : (manager last s : ℕ) (w : VarName) (h : Holding) → SendsNoGet manager (exchange_reply manager last s w h)
unit_sends manager last s w h = go h.token
  where
    go : (t : Token) → SendsNoGet manager (exchange_reply manager last s w (record h { token = t }))
    go (Here v) = refl
    go Asked = refl
    go Away = first_sends manager last s (with_waiter (record h { token = Away }))

replies_send : (manager s : ℕ) (r : Reply) (gone : List Mail) (at to : ℕ → Holding) (n m : Mail → ℕ) → SendsNoGet manager r → HasReplied s r gone at to n m → n (Get manager) ≡ 0 → m (Get manager) ≡ 0
replies_send manager s r gone at to n m none p before = omega (arith, p.mail (Get manager), none, before)

pub gets_are_of_others : GetsAreOfOthers
gets_are_of_others = record {
  unit = unit_sends;
  get = get_sends;
  forward = forward_sends;
  put = λ manager w h. leave_sends manager (record h { token = Here w; waiting = 0 }) (departure_of (record h { token = Here w; waiting = 0 }));
  making = λ manager h. refl;
  replies = replies_send;
  another = λ manager k n none some e. some (ap (λ (i : ℕ). n (Get i)) e ∙ none);
}
