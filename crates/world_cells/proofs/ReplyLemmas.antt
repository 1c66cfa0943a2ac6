-- What each row on cells makes of a site: what it keeps of the cell, and the messages of the cell that it sends.
use Rattle.std.proofs.Common.{arith, ◌≡◌, ◌∙◌, sym, ap, refl, subst, ℕ, List, [], ◌∷◌, ◌++◌, Bool, true, false, cond, Some}
use Rattle.std.specs.Prelude.{Option, ◌≢◌, ◌==◌, unwrap_or}
use Rattle.std.proofs.lemmas.Bool.{cond-true, cond-false}
use Rattle.tree_node.specs.Goal.{equal_cell}
use Rattle.tree_node.specs.declared.names.VarName.{VarName}
use Rattle.tree_node.specs.declared.names.CellName.{CellName}
use Rattle.tree_node.specs.declared.names.ThreadName.{ThreadName}
use Rattle.tree_node.specs.State.{Stack}
use Rattle.tree_node.specs.Store.{Store}
use Rattle.site_message.specs.declared.message.Msg.TheVariants as msg
use Rattle.site_message.specs.declared.message.Sent.{Sent}
use Rattle.token_chain.specs.declared.token.Token.{Token}
use Rattle.token_chain.specs.declared.token.Token.TheVariants.{Away, Asked, Here}
use Rattle.token_chain.specs.Holding.{Holding}
use Rattle.token_chain.specs.Mail.{Get, Forward, Put, sent_count, mail_count}
use Rattle.token_chain.specs.Tally.{weight, weights}
use Rattle.token_chain.specs.Mail as token
use Rattle.token_chain.specs.Rows.{Reply, leave_reply, forward_reply, get_reply, exchange_reply, last_after}
use Rattle.site_model.specs.Site.{Site, CellRecord, cell_record_in, cell_record, last_asker}
use Rattle.site_model.specs.Bundle.{bundle_of}
use Rattle.site_model.specs.Transition.{Transition}
use Rattle.site_model.specs.Cells.{cell_reply, leave_row, forward_row, last_before, with_last_asker, get_row, with_own_request, with_exchange_waiting, request_row}
use Rattle.world_model.proofs.PutLemmas.{nat_decides}
use Rattle.world_model.proofs.CellLemmas.{letter, letters}
use Rattle.world_cells.specs.CellCounts.{cell_weight, cell_weights}
use Rattle.site_model.proofs.CellKeyLemmas.{entry_here, entry_other, place_here, place_other}
use Rattle.world_cells.proofs.TallyLemmas.{Says, IsSilent, says_get, says_forward, says_put, silent_get, silent_forward, silent_put, silent_counts, travels_more, travels_none, travels_append}
use Rattle.oz_model.proofs.KindLemmas.{cell_same, cells_differ}
use Rattle.site_model.proofs.FrameLemmas.{request_records}

-- the site keeps this of the cell and sends these of its messages, and does nothing with other cells
pub record Answers (c : CellName) (r : Reply) (s : Site) (d : Transition) : Type 0 where
  pub held : (cell_record d.site c).held ≡ r.held
  pub others : (b : CellName) → b ≢ c → cell_record d.site b ≡ cell_record s b
  pub sent : (m : token.Mail) → sent_count c d.sent m ≡ mail_count r.sent m
  pub silent : (b : CellName) → b ≢ c → (m : token.Mail) → sent_count b d.sent m ≡ 0
  pub kinds : (g f u : ℕ) → cell_weights c g f u d.sent ≡ weights g f u r.sent
  pub no_kinds : (b : CellName) → b ≢ c → (g f u : ℕ) → cell_weights b g f u d.sent ≡ 0

-- the last asker of the cell is this one, and those of others stay
pub record Manages (c : CellName) (o : Option ℕ) (s : Site) (d : Transition) : Type 0 where
  pub here : last_asker d.site c ≡ o
  pub others : (b : CellName) → b ≢ c → last_asker d.site b ≡ last_asker s b

-- ---- one message

one_says : (c : CellName) (a : token.Mail) (x : Sent) → Says c a x.to x.msg → (m : token.Mail) → sent_count c (x ∷ []) m ≡ mail_count (a ∷ []) m
one_says c a x h m =
    let more = travels_more c x [] m in
    let says = h m in
    let none = travels_none c m in
    omega arith

one_silent : (b : CellName) (x : Sent) → IsSilent b x.to x.msg → (m : token.Mail) → sent_count b (x ∷ []) m ≡ 0
one_silent b x h m =
    let more = travels_more b x [] m in
    let none = travels_none b m in
    let silent = silent_counts b x.to x.msg h m in
    omega arith

letter_says : (limit : ℕ) (c : CellName) (s : Store) (a : token.Mail) → Says c a (letter limit c s a).to (letter limit c s a).msg
letter_says limit c s (Get k) = says_get c k
letter_says limit c s (Forward to k) = says_forward c to k
letter_says limit c s (Put to v) = says_put c to v (bundle_of limit s (msg.Put c v []))

letter_silent : (limit : ℕ) (b c : CellName) (s : Store) (a : token.Mail) → b ≢ c → IsSilent b (letter limit c s a).to (letter limit c s a).msg
letter_silent limit b c s (Get k) h = silent_get b c c.site k h
letter_silent limit b c s (Forward to k) h = silent_forward b c to k h
letter_silent limit b c s (Put to v) h = silent_put b c to v (bundle_of limit s (msg.Put c v [])) h

letter_kind : (limit : ℕ) (c : CellName) (s : Store) (a : token.Mail) (g f u : ℕ) → cell_weight c g f u (letter limit c s a).msg ≡ weight g f u a
letter_kind limit c s (Get k) g f u = cond-true (equal_cell c c) g 0 (cell_same c)
letter_kind limit c s (Forward to k) g f u = cond-true (equal_cell c c) f 0 (cell_same c)
letter_kind limit c s (Put to v) g f u = cond-true (equal_cell c c) u 0 (cell_same c)

letter_no_kind : (limit : ℕ) (b c : CellName) (s : Store) (a : token.Mail) → b ≢ c → (g f u : ℕ) → cell_weight b g f u (letter limit c s a).msg ≡ 0
letter_no_kind limit b c s (Get k) h g f u = cond-false (equal_cell b c) g 0 (cells_differ b c h)
letter_no_kind limit b c s (Forward to k) h g f u = cond-false (equal_cell b c) f 0 (cells_differ b c h)
letter_no_kind limit b c s (Put to v) h g f u = cond-false (equal_cell b c) u 0 (cells_differ b c h)

-- ---- those of a reply

letters_say : (limit : ℕ) (c : CellName) (s : Store) (ms : List token.Mail) (m : token.Mail) → sent_count c (letters limit c s ms) m ≡ mail_count ms m
letters_say limit c s [] m = travels_none c m
letters_say limit c s (a ∷ ms) m =
    let both = travels_append c (letter limit c s a ∷ []) (letters limit c s ms) m in
    let one = one_says c a (letter limit c s a) (letter_says limit c s a) m in
    let rest = letters_say limit c s ms m in
    omega arith

letters_silent : (limit : ℕ) (b c : CellName) (s : Store) (ms : List token.Mail) → b ≢ c → (m : token.Mail) → sent_count b (letters limit c s ms) m ≡ 0
letters_silent limit b c s [] h m = travels_none b m
letters_silent limit b c s (a ∷ ms) h m =
    let both = travels_append b (letter limit c s a ∷ []) (letters limit c s ms) m in
    let one = one_silent b (letter limit c s a) (letter_silent limit b c s a h) m in
    let rest = letters_silent limit b c s ms h m in
    omega arith

letters_kinds : (limit : ℕ) (c : CellName) (s : Store) (ms : List token.Mail) (g f u : ℕ) → cell_weights c g f u (letters limit c s ms) ≡ weights g f u ms
letters_kinds limit c s [] g f u = refl
letters_kinds limit c s (a ∷ ms) g f u =
    let one = letter_kind limit c s a g f u in
    let rest = letters_kinds limit c s ms g f u in
    omega arith

letters_no_kinds : (limit : ℕ) (b c : CellName) (s : Store) (ms : List token.Mail) → b ≢ c → (g f u : ℕ) → cell_weights b g f u (letters limit c s ms) ≡ 0
letters_no_kinds limit b c s [] h g f u = refl
letters_no_kinds limit b c s (a ∷ ms) h g f u =
    let one = letter_no_kind limit b c s a h g f u in
    let rest = letters_no_kinds limit b c s ms h g f u in
    omega arith

-- a reply from a site t that keeps of cells what s keeps
pub reply_answers : (limit : ℕ) (c : CellName) (queue : List ThreadName) (r : Reply) (s t : Site) → t.cell_records ≡ s.cell_records → Answers c r s (cell_reply limit c queue r t)
reply_answers limit c queue r s t e = record {
  held = ap (λ (q : CellRecord). q.held) (place_here t.cell_records c _);
  others = λ b h. place_other t.cell_records c b _ h ∙ ap (λ (qs : List (CellName × CellRecord)). cell_record_in qs b) e;
  sent = λ m. letters_say limit c t.equations r.sent m;
  silent = λ b h m. letters_silent limit b c t.equations r.sent h m;
  kinds = λ g f u. letters_kinds limit c t.equations r.sent g f u;
  no_kinds = λ b h g f u. letters_no_kinds limit b c t.equations r.sent h g f u;
}

pub reply_queue : (limit : ℕ) (c : CellName) (queue : List ThreadName) (r : Reply) (t : Site) → (cell_record (cell_reply limit c queue r t).site c).queue ≡ queue
reply_queue limit c queue r t = ap (λ (q : CellRecord). q.queue) (place_here t.cell_records c _)

-- ---- steps in a row

pub from_held : (c : CellName) (r q : Reply) (s t : Site) (d : Transition) → q ≡ r → ((b : CellName) → b ≢ c → cell_record t b ≡ cell_record s b) → Answers c q t d → Answers c r s d
from_held c r q s t d e same a = record {
  held = a.held ∙ ap (λ (x : Reply). x.held) e;
  others = λ b h. a.others b h ∙ same b h;
  sent = λ m. a.sent m ∙ ap (λ (x : Reply). mail_count x.sent m) e;
  silent = a.silent;
  kinds = λ g f u. a.kinds g f u ∙ ap (λ (x : Reply). weights g f u x.sent) e;
  no_kinds = a.no_kinds;
}

-- ---- the token leaves, and a Forward

pub leave_answers : (limit : ℕ) (c : CellName) (s : Site) → Answers c (leave_reply (cell_record s c).held) s (leave_row limit c s)
leave_answers limit c s = reply_answers limit c _ _ s s refl

pub forward_answers : (limit : ℕ) (c : CellName) (k : ℕ) (s : Site) → Answers c (forward_reply (cell_record s c).held k) s (forward_row limit c k s)
forward_answers limit c k s = reply_answers limit c _ _ s s refl

-- ---- a Get

pub get_answers : (limit : ℕ) (c : CellName) (k : ℕ) (s : Site) (last i : ℕ) → s.records.site ≡ i → last_asker s c ≡ Some last → Answers c (get_reply i last k (cell_record s c).held) s (get_row limit c k s)
get_answers limit c k s last i number e =
    subst (λ (x : ℕ). Answers c (get_reply x last k (cell_record s c).held) s (get_row limit c k s)) number
    (subst (λ (x : ℕ). Answers c (get_reply s.records.site x k (cell_record s c).held) s (get_row limit c k s)) (ap (λ (o : Option ℕ). unwrap_or o c.site) e)
    (reply_answers limit c _ _ s (with_last_asker c k s) refl))

pub get_manages : (limit : ℕ) (c : CellName) (k : ℕ) (s : Site) → Manages c (Some k) s (get_row limit c k s)
get_manages limit c k s = record { here = entry_here s.managers c k; others = λ b h. entry_other s.managers c b k h }

-- ---- a thread asks

-- the last asker, where the site manages the cell
own_last : (c : CellName) (t : Token) (u : Site) (last : ℕ) → c.site ≡ u.records.site → last_asker u c ≡ Some last → last_asker (with_own_request c t u) c ≡ Some (last_after c.site last u.records.site t)
own_last c Away u last own e =
    let here : (c.site == u.records.site) ≡ true = (nat_decides c.site u.records.site).1 own in
    let back : (u.records.site == c.site) ≡ true = (nat_decides u.records.site c.site).1 (sym own) in
    rw (here, back) (entry_here u.managers c u.records.site)
own_last c Asked u last own e = e
own_last c (Here v) u last own e = e

own_elsewhere : (c : CellName) (t : Token) (u : Site) → c.site ≢ u.records.site → (with_own_request c t u).managers ≡ u.managers
own_elsewhere c Away u far = go (c.site == u.records.site) refl
  where
    go : (b : Bool) → (c.site == u.records.site) ≡ b → (cond b (with_last_asker c u.records.site u) u).managers ≡ u.managers
    go true q = absurd (far ((nat_decides c.site u.records.site).0 q))
    go false q = refl
own_elsewhere c Asked u far = refl
own_elsewhere c (Here v) u far = refl

own_others : (c : CellName) (t : Token) (u : Site) (b : CellName) → b ≢ c → last_asker (with_own_request c t u) b ≡ last_asker u b
own_others c Away u b h = go (c.site == u.records.site)
  where
    go : (x : Bool) → last_asker (cond x (with_last_asker c u.records.site u) u) b ≡ last_asker u b
    go true = entry_other u.managers c b u.records.site h
    go false = refl
own_others c Asked u b h = refl
own_others c (Here v) u b h = refl

module _ (limit : ℕ) (c : CellName) (new : VarName) (n : ThreadName) (st : Stack) (s : Site) where
  abbrev token_here : Token
  token_here = (cell_record s c).held.token

  pub request_answers : Answers c (exchange_reply c.site (last_before s c) s.records.site new (cell_record s c).held) s (request_row limit c new n st s)
  request_answers = reply_answers limit c _ _ s (with_own_request c token_here (with_exchange_waiting c n st s)) (request_records c token_here (with_exchange_waiting c n st s))

  pub request_queue : (cell_record (request_row limit c new n st s).site c).queue ≡ (cell_record s c).queue ++ n ∷ []
  request_queue = reply_queue limit c _ (exchange_reply c.site (last_before s c) s.records.site new (cell_record s c).held) (with_own_request c token_here (with_exchange_waiting c n st s))

  pub request_last : (last : ℕ) → c.site ≡ s.records.site → last_asker s c ≡ Some last → last_asker (request_row limit c new n st s).site c ≡ Some (last_after c.site last s.records.site token_here)
  request_last last own e = own_last c token_here (with_exchange_waiting c n st s) last own e

  pub request_elsewhere : c.site ≢ s.records.site → (request_row limit c new n st s).site.managers ≡ s.managers
  request_elsewhere far = own_elsewhere c token_here (with_exchange_waiting c n st s) far

  pub request_others : (b : CellName) → b ≢ c → last_asker (request_row limit c new n st s).site b ≡ last_asker s b
  request_others b h = own_others c token_here (with_exchange_waiting c n st s) b h

-- a request at another site than the manager's is the same whoever asked last
pub request_same : (manager last l s : ℕ) (new : VarName) (h : Holding) → manager ≢ s → exchange_reply manager last s new h ≡ exchange_reply manager l s new h
request_same manager last l s new h far = go h.token refl
  where
    away : (s == manager) ≡ false
    away = flag (s == manager) refl
      where
        flag : (b : Bool) → (s == manager) ≡ b → (s == manager) ≡ false
        flag true q = absurd (far (sym ((nat_decides s manager).0 q)))
        flag false q = q

    go : (t : Token) → h.token ≡ t → exchange_reply manager last s new h ≡ exchange_reply manager l s new h
    go Away e = rw (e, away) refl
    go Asked e = rw e refl
    go (Here v) e = rw e refl
