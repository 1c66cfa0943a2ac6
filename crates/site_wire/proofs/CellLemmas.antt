-- What a site keeps of a cell, and what it sends of it.
use Rattle.std.proofs.Common.{arith, ◌≡◌, ◌≢◌, sym, ap, refl, subst, eq-eqb, eqb-true, ne_eqb, ℕ, ◌+◌, ◌≤◌, List, [], ◌∷◌, ◌⊎◌, inl, inr, Bool, true, false, cond, Some, None}
use Rattle.std.specs.Prelude.{Option, ◌==◌, unwrap_or}
use Rattle.std.specs.Map.{lookup}
use Rattle.indexmap.specs.IndexMap.{insert_entry}
use Rattle.tree_node.specs.declared.names.VarName.{VarName}
use Rattle.tree_node.specs.declared.names.CellName.{CellName}
use Rattle.tree_node.specs.declared.names.PortName.{PortName}
use Rattle.tree_node.specs.Each.{Each}
use Rattle.tree_node.specs.Goal.{equal_cell, equal_port}
use Rattle.tree_node.specs.Store.{Store}
use Rattle.kernel_syntax.specs.declared.stmt.Stmt.{Stmt}
use Rattle.kernel_syntax.specs.Program.{IsProgram}
use Rattle.oz_model.proofs.KindLemmas.{cell_cases}
use Rattle.site_message.specs.declared.message.Msg.TheVariants as msg
use Rattle.site_message.specs.Wire.{IsSite, FitsVar, FitsCell}
use Rattle.token_chain.specs.declared.token.Token.{Token}
use Rattle.token_chain.specs.declared.token.Token.TheVariants.{Away, Asked, Here}
use Rattle.token_chain.specs.Holding.{Holding, departure_of}
use Rattle.token_chain.specs.Mail.{Mail, Get, Forward, Put}
use Rattle.token_chain.specs.Rows.{Reply, leave_with, leave_reply, forward_reply, get_reply, exchange_reply}
use Rattle.site_model.specs.Site.{CellRecord, HomeRecord, Threads, cell_record_in, unheard_cell}
use Rattle.world_model.proofs.CellLemmas.{leaves_here, letters}
use Rattle.site_wire.specs.Sending.{CanBeSpelled, EquationsFit, ContentFits, QueueFits, ThreadsFit, HomeFits, EndsFit, home_in, own_threads, line_in}
use Rattle.site_wire.proofs.BundleLemmas.{carried}
use Rattle.site_model.proofs.CellKeyLemmas.{entry_here, entry_other, place_here, place_other}

-- ---- replies

abbrev pub MailFits : Mail → Type 0
MailFits (Get k) = IsSite k
MailFits (Forward to k) = IsSite k
MailFits (Put to v) = FitsVar v

pub record ReplyFits (r : Reply) : Type 0 where
  pub content : ContentFits r.held.token
  pub sent : Each MailFits r.sent

pub leave_fits : (h : Holding) → ContentFits h.token → ReplyFits (leave_reply h)
leave_fits h f = go (departure_of h) refl
  where
    go : (o : Option (ℕ × VarName)) → departure_of h ≡ o → ReplyFits (leave_with h o)
    go None e = record { content = f; sent = tt }
    go (Some (k, v)) e = record { content = tt; sent = (subst ContentFits (leaves_here h.token h.next h.waiting k v e) f, tt) }

pub get_fits : (manager last k : ℕ) (h : Holding) → IsSite k → ContentFits h.token → ReplyFits (get_reply manager last k h)
get_fits manager last k h site f = go (last == manager)
  where
    go : (b : Bool) → ReplyFits (cond b (forward_reply h k) (record { held = h; sent = Forward last k ∷ [] }))
    go true = leave_fits (record h { next = Some k }) f
    go false = record { content = f; sent = (site, tt) }

pub request_fits : (manager last i : ℕ) (new : VarName) (h : Holding) → IsSite i → FitsVar new → ReplyFits (exchange_reply manager last i new h)
request_fits manager last i new h site v = go h.token refl
  where
    silent : ReplyFits (record { held = record { token = Asked; next = h.next; waiting = h.waiting + 1 }; sent = [] })
    silent = record { content = tt; sent = tt }

    here : ReplyFits (record { held = record h { token = Here new }; sent = [] })
    here = record { content = v; sent = tt }

    first : (b : Bool) → ReplyFits (cond b (get_reply manager last i (record { token = Asked; next = h.next; waiting = h.waiting + 1 })) (record { held = record { token = Asked; next = h.next; waiting = h.waiting + 1 }; sent = Get i ∷ [] }))
    first true = get_fits manager last i (record { token = Asked; next = h.next; waiting = h.waiting + 1 }) site tt
    first false = record { content = tt; sent = (site, tt) }

    go : (t : Token) → h.token ≡ t → ReplyFits (exchange_reply manager last i new h)
    go Away e = rw e (first (i == manager))
    go Asked e = rw e silent
    go (Here u) e = rw e here

pub mails_spelled : (p : List Stmt) → IsProgram p → (limit : ℕ) → limit ≤ 256 → (c : CellName) (s : Store) → FitsCell c → EquationsFit p s → (ms : List Mail) → Each MailFits ms → CanBeSpelled (letters limit c s ms)
mails_spelled p is limit high c s pc h [] f = tt
mails_spelled p is limit high c s pc h (Get k ∷ ms) f = ((pc, f.0), mails_spelled p is limit high c s pc h ms f.1)
mails_spelled p is limit high c s pc h (Forward to k ∷ ms) f = ((pc, f.0), mails_spelled p is limit high c s pc h ms f.1)
mails_spelled p is limit high c s pc h (Put to v ∷ ms) f = (carried p is limit high s (msg.Put c v []) h (pc, f.0, (omega arith, tt, tt)), mails_spelled p is limit high c s pc h ms f.1)

-- ---- records

pub home_here : (hs : List (CellName × HomeRecord)) (c : CellName) (r : HomeRecord) → home_in (insert_entry equal_cell hs c r) c ≡ r
home_here hs c r = ap (λ (o : Option HomeRecord). unwrap_or o unheard_cell) (entry_here hs c r)

pub home_other : (hs : List (CellName × HomeRecord)) (c d : CellName) (r : HomeRecord) → d ≢ c → home_in (insert_entry equal_cell hs c r) d ≡ home_in hs d
home_other hs c d r h = ap (λ (o : Option HomeRecord). unwrap_or o unheard_cell) (entry_other hs c d r h)

-- another record of a cell
pub contents_put : (qs : List (CellName × CellRecord)) (c : CellName) (r : CellRecord) → ContentFits r.held.token → ((d : CellName) → ContentFits (cell_record_in qs d).held.token) → (d : CellName) → ContentFits (cell_record_in (insert_entry equal_cell qs c r) d).held.token
contents_put qs c r f h d = go (cell_cases d c)
  where
    go : (d ≡ c) ⊎ (d ≢ c) → ContentFits (cell_record_in (insert_entry equal_cell qs c r) d).held.token
    go (inl e) = subst (λ (z : CellName). ContentFits (cell_record_in (insert_entry equal_cell qs c r) z).held.token) (sym e) (subst (λ (q : CellRecord). ContentFits q.held.token) (sym (place_here qs c r)) f)
    go (inr e) = subst (λ (q : CellRecord). ContentFits q.held.token) (sym (place_other qs c d r e)) (h d)

pub homes_put : (hs : List (CellName × HomeRecord)) (c : CellName) (r : HomeRecord) → HomeFits r → ((d : CellName) → HomeFits (home_in hs d)) → (d : CellName) → HomeFits (home_in (insert_entry equal_cell hs c r) d)
homes_put hs c r f h d = go (cell_cases d c)
  where
    go : (d ≡ c) ⊎ (d ≢ c) → HomeFits (home_in (insert_entry equal_cell hs c r) d)
    go (inl e) = subst (λ (z : CellName). HomeFits (home_in (insert_entry equal_cell hs c r) z)) (sym e) (subst HomeFits (sym (home_here hs c r)) f)
    go (inr e) = subst HomeFits (sym (home_other hs c d r e)) (h d)

-- ---- lines

module _ (p : List Stmt) (i made : ℕ) (ts : Threads) (qs : List (CellName × CellRecord)) (hs : List (CellName × HomeRecord)) (c : CellName) where
  -- another record of a mobile cell
  pub queues_put : (r : CellRecord) → (c.at ≡ 0 → QueueFits ts c r.queue) → ThreadsFit p i made ts (line_in i qs hs) → ThreadsFit p i made ts (line_in i (insert_entry equal_cell qs c r) hs)
  queues_put r f h = record { each = h.each; own = h.own; queues = λ d. go d (cell_cases d c) }
    where
      here : (b : Bool) → (c.at == 0) ≡ b → QueueFits ts c (cond b (cell_record_in qs c).queue (cond (c.at == i) (own_threads i (home_in hs c).early) [])) → QueueFits ts c (cond b r.queue (cond (c.at == i) (own_threads i (home_in hs c).early) []))
      here true e k = f (eqb-true c.at 0 e)
      here false e k = k

      go : (d : CellName) → (d ≡ c) ⊎ (d ≢ c) → QueueFits ts d (line_in i (insert_entry equal_cell qs c r) hs d)
      go d (inl e) = subst (λ (z : CellName). QueueFits ts z (line_in i (insert_entry equal_cell qs c r) hs z)) (sym e)
          (subst (λ (q : CellRecord). QueueFits ts c (cond (c.at == 0) q.queue (cond (c.at == i) (own_threads i (home_in hs c).early) []))) (sym (place_here qs c r)) (here (c.at == 0) refl (h.queues c)))
      go d (inr e) = subst (λ (q : CellRecord). QueueFits ts d (cond (d.at == 0) q.queue (cond (d.at == i) (own_threads i (home_in hs d).early) []))) (sym (place_other qs c d r e)) (h.queues d)

  -- another record of a cell that is at home here
  pub earlies_put : (r : HomeRecord) → (c.at ≡ i → QueueFits ts c (own_threads i r.early)) → ThreadsFit p i made ts (line_in i qs hs) → ThreadsFit p i made ts (line_in i qs (insert_entry equal_cell hs c r))
  earlies_put r f h = record { each = h.each; own = h.own; queues = λ d. go d (cell_cases d c) }
    where
      here : (a b : Bool) → (c.at == i) ≡ b → QueueFits ts c (cond a (cell_record_in qs c).queue (cond b (own_threads i (home_in hs c).early) [])) → QueueFits ts c (cond a (cell_record_in qs c).queue (cond b (own_threads i r.early) []))
      here true b e k = k
      here false true e k = f (eqb-true c.at i e)
      here false false e k = k

      go : (d : CellName) → (d ≡ c) ⊎ (d ≢ c) → QueueFits ts d (line_in i qs (insert_entry equal_cell hs c r) d)
      go d (inl e) = subst (λ (z : CellName). QueueFits ts z (line_in i qs (insert_entry equal_cell hs c r) z)) (sym e)
          (subst (λ (q : HomeRecord). QueueFits ts c (cond (c.at == 0) (cell_record_in qs c).queue (cond (c.at == i) (own_threads i q.early) []))) (sym (home_here hs c r)) (here (c.at == 0) (c.at == i) refl (h.queues c)))
      go d (inr e) = subst (λ (q : HomeRecord). QueueFits ts d (cond (d.at == 0) (cell_record_in qs d).queue (cond (d.at == i) (own_threads i q.early) []))) (sym (home_other hs c d r e)) (h.queues d)

-- the line of a mobile cell is its queue, that of a stationary one at home here its own early threads, and another cell has none
pub line_mobile : (i : ℕ) (qs : List (CellName × CellRecord)) (hs : List (CellName × HomeRecord)) (c : CellName) → c.at ≡ 0 → line_in i qs hs c ≡ (cell_record_in qs c).queue
line_mobile i qs hs c e = rw (eq-eqb c.at 0 e) refl

pub line_home : (i : ℕ) (qs : List (CellName × CellRecord)) (hs : List (CellName × HomeRecord)) (c : CellName) → 1 ≤ i → c.at ≡ i → line_in i qs hs c ≡ own_threads i (home_in hs c).early
line_home i qs hs c low e = rw (not_zero, eq-eqb c.at i e) refl
  where
    not_zero : (c.at == 0) ≡ false
    not_zero = ne_eqb c.at 0 (λ k. omega (arith, k, low, e))

pub line_elsewhere : (i : ℕ) (qs : List (CellName × CellRecord)) (hs : List (CellName × HomeRecord)) (c : CellName) → c.at ≢ 0 → c.at ≢ i → line_in i qs hs c ≡ []
line_elsewhere i qs hs c zero other = rw (ne_eqb c.at 0 zero, ne_eqb c.at i other) refl

-- ---- ends of ports

pub ends_put : (ports : List (PortName × VarName)) (q : PortName) (x : VarName) → FitsVar x → EndsFit ports → EndsFit (insert_entry equal_port ports q x)
ends_put [] q x f h = (f, tt)
ends_put ((r, y) ∷ ports) q x f h = go (equal_port q r) (ends_put ports q x f h.1)
  where
    go : (b : Bool) → EndsFit (insert_entry equal_port ports q x) → EndsFit (cond b ((r, x) ∷ ports) ((r, y) ∷ insert_entry equal_port ports q x))
    go true ih = (f, h.1)
    go false ih = (h.0, ih)

pub end_fits : (ports : List (PortName × VarName)) (q : PortName) (x : VarName) → EndsFit ports → lookup (equal_port q) ports ≡ Some x → FitsVar x
end_fits [] q x h e = cc
end_fits ((r, y) ∷ ports) q x h e = go (equal_port q r) e (λ k. end_fits ports q x h.1 k)
  where
    go : (b : Bool) → cond b (Some y) (lookup (equal_port q) ports) ≡ Some x → (lookup (equal_port q) ports ≡ Some x → FitsVar x) → FitsVar x
    go true k ih = let same : y ≡ x = cc in subst FitsVar same h.0
    go false k ih = ih k
