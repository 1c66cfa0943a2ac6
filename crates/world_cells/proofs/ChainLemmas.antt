-- Each cell's sites stay one chain, whatever a site does with a cell.
use Rattle.std.proofs.Common.{arith, ◌≡◌, ◌∙◌, sym, ap, refl, subst, ℕ, ◌+◌, List, [], ◌∷◌, ◌++◌, ◌⊎◌, inl, inr, Bool, true, false, cond, Some, None}
use Rattle.std.specs.Prelude.{Option, Contains, ◌≢◌, ◌==◌, unwrap_or}
use Rattle.std.specs.Map.{lookup}
use Rattle.tree_node.specs.declared.names.VarName.{VarName}
use Rattle.tree_node.specs.declared.names.CellName.{CellName}
use Rattle.tree_node.specs.declared.names.ThreadName.{ThreadName}
use Rattle.tree_node.specs.Assoc.{value_of}
use Rattle.tree_node.specs.Goal.{equal_cell}
use Rattle.tree_node.specs.State.{Stack}
use Rattle.tree_node.specs.Store.{Equation}
use Rattle.site_message.specs.declared.message.Msg.{Msg}
use Rattle.site_message.specs.declared.message.Msg.TheVariants as msg
use Rattle.site_message.specs.declared.message.Sent.{Sent}
use Rattle.token_chain.specs.declared.token.Token.{Token}
use Rattle.token_chain.specs.declared.token.Token.TheVariants.{Away, Asked, Here}
use Rattle.token_chain.specs.Holding.{Holding}
use Rattle.token_chain.specs.Mail.{Get, Forward, Put, sent_count, mail_count}
use Rattle.token_chain.specs.Mail as token
use Rattle.token_chain.specs.Moves.{HasReplied}
use Rattle.token_chain.specs.Rows.{Reply, exchange_reply, last_after, content_then}
use Rattle.token_chain.specs.Chain.{ChainOf}
use Rattle.token_chain.proofs.MoveLemmas.{unit_keeps, get_keeps, forward_keeps, nothing_keeps, messages_can_come}
use Rattle.site_model.specs.Site.{Site, CellRecord, cell_record, last_asker}
use Rattle.site_model.specs.Transition.{Transition}
use Rattle.site_model.specs.Cells.{last_before, forward_row, get_row, request_row}
use Rattle.world_model.specs.World.{Sites, Mail, World, IsOnItsWay, cell_records, managers, put, after_transition, after_receipt, without_number, mail_from}
use Rattle.world_model.specs.Chain.{held_in, messages, HasChain, IsNowhere, Cells, AreGetsAddressed}
use Rattle.world_model.proofs.PutLemmas.{nat_decides, at_here, at_other}
use Rattle.world_model.proofs.MailLemmas.{sent_to, posts, gone}
use Rattle.world_cells.proofs.TallyLemmas.{Says, IsSilent, OneOfNumber, says_get, says_forward, says_put, silent_get, silent_forward, silent_put, tally_sent, tally_came, tally_other, tally_there}
use Rattle.world_cells.proofs.ReplyLemmas.{Answers, get_answers, get_manages, forward_answers, request_answers, request_last, request_elsewhere, request_others, request_same}
use Rattle.oz_model.proofs.KindLemmas.{cell_cases}

abbrev pub held : Sites → CellName → ℕ → Holding
held f c = held_in (cell_records f) c

abbrev pub tally : CellName → Mail → token.Mail → ℕ
tally c mail = sent_count c (messages mail)

abbrev pub last_of : Sites → CellName → Option ℕ
last_of f c = lookup (equal_cell c) (managers f c.site)

-- ---- nothing happens to a cell

pub record Untouched (f g : Sites) (mail more : Mail) (c : CellName) : Type 0 where
  pub last : last_of g c ≡ last_of f c
  pub holds : (i : ℕ) → held g c i ≡ held f c i
  pub counts : (m : token.Mail) → tally c more m ≡ tally c mail m

abbrev pub ChainAt : Sites → Mail → CellName → VarName → Type 0
ChainAt f mail c v = HasChain (managers f) (cell_records f) mail c v

abbrev pub NowhereAt : Sites → Mail → CellName → Type 0
NowhereAt f mail c = IsNowhere (managers f) (cell_records f) mail c

abbrev pub CellsAt : Sites → Mail → List (CellName × VarName) → Type 0
CellsAt f mail cells = Cells (managers f) (cell_records f) mail cells

pub chain_stays : (f g : Sites) (mail more : Mail) (c : CellName) (v : VarName) → Untouched f g mail more c → ChainAt f mail c v → ChainAt g more c v
chain_stays f g mail more c v u (last, e, chain) = (last, u.last ∙ e, nothing_keeps last _ _ _ _ v chain u.holds u.counts)

pub nowhere_stays : (f g : Sites) (mail more : Mail) (c : CellName) → Untouched f g mail more c → NowhereAt f mail c → NowhereAt g more c
nowhere_stays f g mail more c u n = record {
  manager = u.last ∙ n.manager;
  away = λ i. u.holds i ∙ n.away i;
  quiet = λ m. u.counts m ∙ n.quiet m;
}

-- ---- something happens to one cell

pub record OneCell (f g : Sites) (mail more : Mail) (cells to : List (CellName × VarName)) (c : CellName) : Type 0 where
  pub others : (b : CellName) → b ≢ c → Untouched f g mail more b
  pub values : (b : CellName) → b ≢ c → value_of equal_cell to b ≡ value_of equal_cell cells b
  pub chain : (v : VarName) → value_of equal_cell to c ≡ Some v → ChainAt g more c v
  pub none : value_of equal_cell to c ≡ None → NowhereAt g more c

pub one_cell : (f g : Sites) (mail more : Mail) (cells to : List (CellName × VarName)) (c : CellName) → CellsAt f mail cells → OneCell f g mail more cells to c → CellsAt g more to
one_cell f g mail more cells to c all o = record {
  chains = λ b v e. chains b v e (cell_cases b c);
  others = λ b e. others b e (cell_cases b c);
}
  where
    chains : (b : CellName) (v : VarName) → value_of equal_cell to b ≡ Some v → (b ≡ c) ⊎ (b ≢ c) → ChainAt g more b v
    chains b v e (inl h) = subst (λ (x : CellName). ChainAt g more x v) (sym h) (o.chain v (ap (value_of equal_cell to) (sym h) ∙ e))
    chains b v e (inr h) = chain_stays f g mail more b v (o.others b h) (all.chains b v (sym (o.values b h) ∙ e))

    others : (b : CellName) → value_of equal_cell to b ≡ None → (b ≡ c) ⊎ (b ≢ c) → NowhereAt g more b
    others b e (inl h) = subst (λ (x : CellName). NowhereAt g more x) (sym h) (o.none (ap (value_of equal_cell to) (sym h) ∙ e))
    others b e (inr h) = nowhere_stays f g mail more b (o.others b h) (all.others b (sym (o.values b h) ∙ e))

-- ---- what a site does, in the world

held_put : (f : Sites) (i : ℕ) (s : Site) (c : CellName) → held (put f i s) c i ≡ (cell_record s c).held
held_put f i s c = ap (λ (x : Site). (cell_record x c).held) (at_here f i s)

held_there : (f : Sites) (i : ℕ) (s : Site) (c : CellName) (j : ℕ) → j ≢ i → held (put f i s) c j ≡ held f c j
held_there f i s c j d = ap (λ (x : Site). (cell_record x c).held) (at_other f i s j d)

pub number_or : (a b : ℕ) → (a ≡ b) ⊎ (a ≢ b)
number_or a b = go (a == b) refl
  where
    go : (x : Bool) → (a == b) ≡ x → (a ≡ b) ⊎ (a ≢ b)
    go true e = inl ((nat_decides a b).0 e)
    go false e = inr (λ p. let yes : (a == b) ≡ true = (nat_decides a b).1 p in cc)

held_same : (f : Sites) (i : ℕ) (s : Site) (c : CellName) → (cell_record s c).held ≡ held f c i → (j : ℕ) → held (put f i s) c j ≡ held f c j
held_same f i s c e j = go (number_or j i)
  where
    go : (j ≡ i) ⊎ (j ≢ i) → held (put f i s) c j ≡ held f c j
    go (inl h) = subst (λ (x : ℕ). held (put f i s) c x ≡ held f c x) (sym h) (held_put f i s c ∙ e)
    go (inr d) = held_there f i s c j d

pub last_same : (f : Sites) (i : ℕ) (s : Site) (c : CellName) → last_asker s c ≡ last_asker (f i) c → last_of (put f i s) c ≡ last_of f c
last_same f i s c e = go (number_or c.site i)
  where
    go : (c.site ≡ i) ⊎ (c.site ≢ i) → last_of (put f i s) c ≡ last_of f c
    go (inl h) = subst (λ (x : ℕ). last_asker (put f i s x) c ≡ last_asker (f x) c) (sym h) (ap (λ (x : Site). last_asker x c) (at_here f i s) ∙ e)
    go (inr d) = ap (λ (x : Site). last_asker x c) (at_other f i s c.site d)

pub last_put : (f : Sites) (i : ℕ) (s : Site) (c : CellName) → i ≡ c.site → last_of (put f i s) c ≡ last_asker s c
last_put f i s c e = subst (λ (x : ℕ). last_asker (put f i s x) c ≡ last_asker s c) e (ap (λ (x : Site). last_asker x c) (at_here f i s))

-- the mail before, of which these have come
abbrev pub Came : CellName → List token.Mail → Mail → Mail → Type 0
Came c gone mail less = (m : token.Mail) → tally c less m + mail_count gone m ≡ tally c mail m

pub none_came : (c : CellName) (mail : Mail) → Came c [] mail mail
none_came c mail m = omega arith

pub lifts : (w : World) (i : ℕ) (d : Transition) (c : CellName) (r : Reply) (gone : List token.Mail) (mail : Mail) → Answers c r (w.sites i) d → Came c gone mail w.mail →
    HasReplied i r gone (held w.sites c) (held (after_transition w i d).sites c) (tally c mail) (tally c (after_transition w i d).mail)
lifts w i d c r gone mail a arrives = record {
  here = held_put w.sites i d.site c ∙ a.held;
  others = λ k h. held_there w.sites i d.site c k h;
  mail = λ m. let sum = tally_sent c w.mail w.sent d.sent m in let out = a.sent m in let less = arrives m in omega arith;
}

pub others_stay : (w : World) (i : ℕ) (d : Transition) (b : CellName) (mail : Mail) → cell_record d.site b ≡ cell_record (w.sites i) b → last_asker d.site b ≡ last_asker (w.sites i) b →
    ((m : token.Mail) → sent_count b d.sent m ≡ 0) → ((m : token.Mail) → tally b w.mail m ≡ tally b mail m) → Untouched w.sites (after_transition w i d).sites mail (after_transition w i d).mail b
others_stay w i d b mail p l silent arrives = record {
  last = last_same w.sites i d.site b l;
  holds = held_same w.sites i d.site b (ap (λ (q : CellRecord). q.held) p);
  counts = λ m. let sum = tally_sent b w.mail w.sent d.sent m in let none = silent m in let same = arrives m in omega arith;
}

-- a row that leaves a site's cells as they are, and sends nothing of them
pub cells_stay : (w : World) (i : ℕ) (d : Transition) (mail : Mail) (cells : List (CellName × VarName)) → ((b : CellName) → cell_record d.site b ≡ cell_record (w.sites i) b) →
    ((b : CellName) → last_asker d.site b ≡ last_asker (w.sites i) b) → ((b : CellName) (m : token.Mail) → sent_count b d.sent m ≡ 0) → ((b : CellName) (m : token.Mail) → tally b w.mail m ≡ tally b mail m) →
    CellsAt w.sites mail cells → CellsAt (after_transition w i d).sites (after_transition w i d).mail cells
cells_stay w i d mail cells p l silent arrives all = record {
  chains = λ b v e. chain_stays w.sites _ mail _ b v (others_stay w i d b mail (p b) (l b) (silent b) (arrives b)) (all.chains b v e);
  others = λ b e. nowhere_stays w.sites _ mail _ b (others_stay w i d b mail (p b) (l b) (silent b) (arrives b)) (all.others b e);
}

-- ---- requests

pub gets_posts : (mail : Mail) (n : ℕ) (out : List Sent) → AreGetsAddressed mail → ((to : ℕ) (c : CellName) (a : ℕ) → Contains out (sent_to to (msg.Get c a)) → (to ≡ c.site) × (a ≢ c.site)) → AreGetsAddressed (mail ++ mail_from n out)
gets_posts mail n out all new k to c a h = go ((posts mail n out).from k to (msg.Get c a) h)
  where
    go : IsOnItsWay mail k to (msg.Get c a) ⊎ Contains out (sent_to to (msg.Get c a)) → (to ≡ c.site) × (a ≢ c.site)
    go (inl q) = all k to c a q
    go (inr q) = new to c a q

pub gets_gone : (k : ℕ) (mail : Mail) → AreGetsAddressed mail → AreGetsAddressed (without_number k mail)
gets_gone k mail all l to c a h = all l to c a ((gone k mail).old l to (msg.Get c a) h).0

-- ---- a message comes

-- there is a cell of which a message travels
pub cell_there : (f : Sites) (mail : Mail) (cells : List (CellName × VarName)) (c : CellName) (a : token.Mail) → CellsAt f mail cells → tally c mail a ≢ 0 →
    (v : VarName) × (value_of equal_cell cells c ≡ Some v) × ChainAt f mail c v
cell_there f mail cells c a all there = go (value_of equal_cell cells c) refl
  where
    go : (o : Option VarName) → value_of equal_cell cells c ≡ o → (v : VarName) × (value_of equal_cell cells c ≡ Some v) × ChainAt f mail c v
    go None e = absurd (there ((all.others c e).quiet a))
    go (Some v) e = (v, e, all.chains c v e)

-- site i does this with a cell, behind messages that have come
module _ (w : World) (mail : Mail) (i : ℕ) (c : CellName) (gone : List token.Mail) (cells to : List (CellName × VarName)) (d : Transition) (r : Reply)
    (all : CellsAt w.sites mail cells) (came_here : Came c gone mail w.mail) (came_other : (b : CellName) → b ≢ c → (m : token.Mail) → tally b w.mail m ≡ tally b mail m)
    (answers : Answers c r (w.sites i) d) (lasts : (b : CellName) → b ≢ c → last_asker d.site b ≡ last_asker (w.sites i) b)
    (values : (b : CellName) → b ≢ c → value_of equal_cell to b ≡ value_of equal_cell cells b) where
  -- whatever the chain of the cell is then, all are chains
  pub row_cells : (u : VarName) → value_of equal_cell to c ≡ Some u →
      (HasReplied i r gone (held w.sites c) (held (after_transition w i d).sites c) (tally c mail) (tally c (after_transition w i d).mail) → ChainAt (after_transition w i d).sites (after_transition w i d).mail c u) →
      CellsAt (after_transition w i d).sites (after_transition w i d).mail to
  row_cells u e chain = one_cell w.sites (after_transition w i d).sites mail (after_transition w i d).mail cells to c all (record {
    others = λ b q. others_stay w i d b mail (answers.others b q) (lasts b q) (answers.silent b q) (came_other b q);
    values = values;
    chain = λ y g. subst (λ (z : VarName). ChainAt (after_transition w i d).sites (after_transition w i d).mail c z) (let same : u ≡ y = cc in same) (chain (lifts w i d c r gone mail answers came_here));
    none = λ g. absurd (cc);
  })

-- message k of the cell comes to site i
pub record Arrives (w : World) (k i : ℕ) (x : Msg) (c : CellName) (a : token.Mail) : Type 0 where
  pub travels_now : IsOnItsWay w.mail k i x
  pub one : OneOfNumber w.mail k (sent_to i x)
  pub says : Says c a i x
  pub silent : (b : CellName) → b ≢ c → IsSilent b i x

pub arrives_there : (w : World) (k i : ℕ) (x : Msg) (c : CellName) (a : token.Mail) → Arrives w k i x c a → tally c w.mail a ≢ 0
arrives_there w k i x c a h = tally_there c a w.mail k i x h.travels_now h.says

pub arrives_here : (w : World) (k i : ℕ) (x : Msg) (c : CellName) (a : token.Mail) (v : VarName) → Arrives w k i x c a → ChainAt w.sites w.mail c v →
    Came c (a ∷ []) w.mail (after_receipt (Some k) w).mail
arrives_here w k i x c a v h chain =
    tally_came c a w.mail k i x h.travels_now h.one h.says (messages_can_come chain.0 _ _ v chain.2 a (arrives_there w k i x c a h)).0

pub arrives_other : (w : World) (k i : ℕ) (x : Msg) (c : CellName) (a : token.Mail) → Arrives w k i x c a → (b : CellName) → b ≢ c → (m : token.Mail) → tally b (after_receipt (Some k) w).mail m ≡ tally b w.mail m
arrives_other w k i x c a h b d = tally_other b w.mail k i x h.one (h.silent b d)

pub get_arrives : (w : World) (k i : ℕ) (c : CellName) (asker : ℕ) → IsOnItsWay w.mail k i (msg.Get c asker) → OneOfNumber w.mail k (sent_to i (msg.Get c asker)) → i ≡ c.site → Arrives w k i (msg.Get c asker) c (Get asker)
get_arrives w k i c asker h one at = record {
  travels_now = h;
  one = one;
  says = subst (λ (x : ℕ). Says c (Get asker) x (msg.Get c asker)) (sym at) (says_get c asker);
  silent = λ b d. silent_get b c i asker d;
}

pub forward_arrives : (w : World) (k i : ℕ) (c : CellName) (next : ℕ) → IsOnItsWay w.mail k i (msg.Forward c next) → OneOfNumber w.mail k (sent_to i (msg.Forward c next)) → Arrives w k i (msg.Forward c next) c (Forward i next)
forward_arrives w k i c next h one = record { travels_now = h; one = one; says = says_forward c i next; silent = λ b d. silent_forward b c i next d }

pub put_arrives : (w : World) (k i : ℕ) (c : CellName) (v : VarName) (bundle : List Equation) → IsOnItsWay w.mail k i (msg.Put c v bundle) → OneOfNumber w.mail k (sent_to i (msg.Put c v bundle)) → Arrives w k i (msg.Put c v bundle) c (Put i v)
put_arrives w k i c v bundle h one = record { travels_now = h; one = one; says = says_put c i v bundle; silent = λ b d. silent_put b c i v bundle d }

-- a Get comes to the manager
pub get_cells : (limit : ℕ) (w : World) (i k : ℕ) (c : CellName) (asker : ℕ) (cells : List (CellName × VarName)) → CellsAt w.sites w.mail cells →
    IsOnItsWay w.mail k i (msg.Get c asker) → OneOfNumber w.mail k (sent_to i (msg.Get c asker)) → i ≡ c.site → (w.sites i).records.site ≡ i →
    CellsAt (after_transition (after_receipt (Some k) w) i (get_row limit c asker (w.sites i))).sites (after_transition (after_receipt (Some k) w) i (get_row limit c asker (w.sites i))).mail cells
get_cells limit w i k c asker cells all h one at number =
    let x = get_arrives w k i c asker h one at in
    let there = arrives_there w k i _ c (Get asker) x in
    let f = cell_there w.sites w.mail cells c (Get asker) all there in
    let last = f.2.0 in
    let answers = get_answers limit c asker (w.sites i) last i number (subst (λ (x : ℕ). last_asker (w.sites x) c ≡ Some last) (sym at) f.2.1) in
    let manages = get_manages limit c asker (w.sites i) in
    row_cells (after_receipt (Some k) w) w.mail i c (Get asker ∷ []) cells cells _ _ all (arrives_here w k i _ c (Get asker) f.0 x f.2) (arrives_other w k i _ c (Get asker) x) answers manages.others (λ b e. refl) f.0 f.1
    (λ replies. (
      asker,
      last_put w.sites i _ c at ∙ manages.here,
      get_keeps last _ _ _ _ f.0 i asker f.2.2 there replies,
    ))

-- a Forward comes
pub forward_cells : (limit : ℕ) (w : World) (i k : ℕ) (c : CellName) (next : ℕ) (cells : List (CellName × VarName)) → CellsAt w.sites w.mail cells →
    IsOnItsWay w.mail k i (msg.Forward c next) → OneOfNumber w.mail k (sent_to i (msg.Forward c next)) →
    CellsAt (after_transition (after_receipt (Some k) w) i (forward_row limit c next (w.sites i))).sites (after_transition (after_receipt (Some k) w) i (forward_row limit c next (w.sites i))).mail cells
forward_cells limit w i k c next cells all h one =
    let x = forward_arrives w k i c next h one in
    let there = arrives_there w k i _ c (Forward i next) x in
    let f = cell_there w.sites w.mail cells c (Forward i next) all there in
    row_cells (after_receipt (Some k) w) w.mail i c (Forward i next ∷ []) cells cells _ _ all (arrives_here w k i _ c (Forward i next) f.0 x f.2) (arrives_other w k i _ c (Forward i next) x) (forward_answers limit c next (w.sites i))
    (λ b e. refl) (λ b e. refl) f.0 f.1
    (λ replies. (
      f.2.0,
      last_same w.sites i _ c refl ∙ f.2.1,
      forward_keeps f.2.0 _ _ _ _ f.0 i next f.2.2 there replies,
    ))

-- ---- a thread asks

-- of a cell whose token is not here
pub request_cells : (limit : ℕ) (w : World) (i : ℕ) (c : CellName) (new : VarName) (n : ThreadName) (st : Stack) (cells : List (CellName × VarName)) (v : VarName) → CellsAt w.sites w.mail cells →
    value_of equal_cell cells c ≡ Some v → (w.sites i).records.site ≡ i → ((u : VarName) → (cell_record (w.sites i) c).held.token ≢ Here u) →
    CellsAt (after_transition w i (request_row limit c new n st (w.sites i))).sites (after_transition w i (request_row limit c new n st (w.sites i))).mail cells
request_cells limit w i c new n st cells v all value number elsewhere =
    row_cells w w.mail i c [] cells cells _ _ all (none_came c w.mail) (λ b d m. refl) answers (request_others limit c new n st (w.sites i)) (λ b d. refl) v value
    (λ replies. (
      last_after c.site chain.0 i token,
      last_now (number_or c.site i),
      subst (λ (x : VarName). ChainOf (last_after c.site chain.0 i token) (held after.sites c) (tally c after.mail) x) (content_same token refl) (unit_keeps chain.0 _ _ _ _ v new c.site i chain.2 replies),
    ))
  where
    chain : ChainAt w.sites w.mail c v
    chain = all.chains c v value

    token : Token
    token = (cell_record (w.sites i) c).held.token

    after : World
    after = after_transition w i (request_row limit c new n st (w.sites i))

    content_same : (t : Token) → token ≡ t → content_then v new token ≡ v
    content_same Away e = rw e refl
    content_same Asked e = rw e refl
    content_same (Here u) e = absurd (elsewhere u e)

    -- as far as the site knows, or whoever it was
    same_reply : (c.site ≡ i) ⊎ (c.site ≢ i) → exchange_reply c.site (last_before (w.sites i) c) (w.sites i).records.site new (cell_record (w.sites i) c).held ≡ exchange_reply c.site chain.0 i new (cell_record (w.sites i) c).held
    same_reply (inl at) =
        let e : last_asker (w.sites i) c ≡ Some chain.0 = subst (λ (x : ℕ). last_asker (w.sites x) c ≡ Some chain.0) at chain.1 in
        ap (λ (x : ℕ). exchange_reply c.site x (w.sites i).records.site new (cell_record (w.sites i) c).held) (ap (λ (o : Option ℕ). unwrap_or o c.site) e)
        ∙ ap (λ (x : ℕ). exchange_reply c.site chain.0 x new (cell_record (w.sites i) c).held) number
    same_reply (inr far) =
        ap (λ (x : ℕ). exchange_reply c.site (last_before (w.sites i) c) x new (cell_record (w.sites i) c).held) number
        ∙ request_same c.site (last_before (w.sites i) c) chain.0 i new (cell_record (w.sites i) c).held far

    answers : Answers c (exchange_reply c.site chain.0 i new (cell_record (w.sites i) c).held) (w.sites i) (request_row limit c new n st (w.sites i))
    answers = subst (λ (r : Reply). Answers c r (w.sites i) (request_row limit c new n st (w.sites i))) (same_reply (number_or c.site i)) (request_answers limit c new n st (w.sites i))

    last_now : (c.site ≡ i) ⊎ (c.site ≢ i) → last_of after.sites c ≡ Some (last_after c.site chain.0 i token)
    last_now (inl at) =
        last_put w.sites i _ c (sym at)
        ∙ request_last limit c new n st (w.sites i) chain.0 (at ∙ sym number) (subst (λ (x : ℕ). last_asker (w.sites x) c ≡ Some chain.0) at chain.1)
        ∙ ap (λ (x : ℕ). Some (last_after c.site chain.0 x token)) number
    last_now (inr far) =
        last_same w.sites i _ c (ap (lookup (equal_cell c)) (request_elsewhere limit c new n st (w.sites i) (λ e. far (e ∙ number))))
        ∙ chain.1 ∙ ap Some (sym (last_far token))
      where
        last_far : (t : Token) → last_after c.site chain.0 i t ≡ chain.0
        last_far Away = go (i == c.site) refl
          where
            go : (b : Bool) → (i == c.site) ≡ b → cond b i chain.0 ≡ chain.0
            go true q = absurd (far (sym ((nat_decides i c.site).0 q)))
            go false q = refl
        last_far Asked = refl
        last_far (Here u) = refl
