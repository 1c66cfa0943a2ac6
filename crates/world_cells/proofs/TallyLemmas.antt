-- How many of each message of a cell travel, as messages of all kinds are sent and come.
use Rattle.std.proofs.Common.{arith, ◌≡◌, ◌∙◌, sym, ap, refl, subst, ℕ, ◌+◌, ◌≤◌, List, [], ◌∷◌, ◌++◌, ◌⊎◌, inl, inr, Bool, true, false, cond}
use Rattle.std.specs.Prelude.{◌≢◌, ◌==◌, not, Contains}
use Rattle.std.specs.Bool.{Decides}
use Rattle.std.proofs.lemmas.List.Sums.{sum_by-append, sum_by-cons}
use Rattle.tree_node.specs.Goal.{equal_cell}
use Rattle.tree_node.specs.declared.names.VarName.{VarName}
use Rattle.tree_node.specs.declared.names.CellName.{CellName}
use Rattle.tree_node.specs.Store.{Equation}
use Rattle.tree_node.proofs.ClassLemmas.{Contains-cons_cases, Contains-head, Contains-tail}
use Rattle.site_message.specs.declared.message.Msg.{Msg}
use Rattle.site_message.specs.declared.message.Msg.TheVariants as msg
use Rattle.site_message.specs.declared.message.Sent.{Sent}
use Rattle.token_chain.specs.Mail.{Get, Forward, Put, sent_as, is_mail, sent_count, equal_mail, mail_count}
use Rattle.token_chain.specs.Mail as token
use Rattle.token_chain.proofs.ChangeLemmas.{same_mail_decides, mail_or}
use Rattle.token_chain.proofs.MailLemmas.{tells_decides}
use Rattle.world_model.specs.World.{Mail, IsOnItsWay, mail_from, without_number}
use Rattle.world_model.specs.Chain.{messages}
use Rattle.world_model.proofs.PutLemmas.{nat_decides}
use Rattle.world_model.proofs.MailLemmas.{nothing, sent_to}
use Rattle.oz_model.proofs.KindLemmas.{cells_differ}

-- how often a message counts as this one of the cell
abbrev pub counts : CellName → token.Mail → Sent → ℕ
counts c m s = cond (is_mail c m s.to s.msg) 1 0

-- it is this message of the cell
abbrev pub Says : CellName → token.Mail → ℕ → Msg → Type 0
Says c a to x = (m : token.Mail) → counts c m (sent_to to x) ≡ mail_count (a ∷ []) m

-- it is none of the cell's
abbrev pub IsSilent : CellName → ℕ → Msg → Type 0
IsSilent c to x = (m : token.Mail) → is_mail c m to x ≡ false

tells_once : (c : CellName) (a m : token.Mail) → cond (is_mail c m (sent_as c a).to (sent_as c a).msg) 1 0 ≡ mail_count (a ∷ []) m
tells_once c a m = go _ _ (tells_decides c m a) (same_mail_decides a m)
  where
    go : (b d : Bool) → Decides b (m ≡ a) → Decides d (a ≡ m) → cond b 1 0 ≡ cond d 1 0 + 0
    go true true e f = refl
    go false false e f = refl
    go true false e f = let no : false ≡ true = f.1 (sym (e.0 refl)) in absurd (cc)
    go false true e f = let no : false ≡ true = e.1 (sym (f.0 refl)) in absurd (cc)

pub says_get : (c : CellName) (k : ℕ) → Says c (Get k) c.site (msg.Get c k)
says_get c k m = tells_once c (Get k) m

pub says_forward : (c : CellName) (to k : ℕ) → Says c (Forward to k) to (msg.Forward c k)
says_forward c to k m = tells_once c (Forward to k) m

pub says_put : (c : CellName) (to : ℕ) (v : VarName) (bundle : List Equation) → Says c (Put to v) to (msg.Put c v bundle)
says_put c to v bundle m = any m ∙ tells_once c (Put to v) m
  where
    any : (m : token.Mail) → counts c m (sent_to to (msg.Put c v bundle)) ≡ cond (is_mail c m to (msg.Put c v [])) 1 0
    any (Get s) = refl
    any (Forward a b) = refl
    any (Put h u) = refl

other_get : (b c : CellName) (to k : ℕ) → equal_cell b c ≡ false → IsSilent b to (msg.Get c k)
other_get b c to k e (Get s) = rw e refl
other_get b c to k e (Forward x y) = refl
other_get b c to k e (Put h v) = refl

other_forward : (b c : CellName) (to k : ℕ) → equal_cell b c ≡ false → IsSilent b to (msg.Forward c k)
other_forward b c to k e (Get s) = refl
other_forward b c to k e (Forward x y) = rw e refl
other_forward b c to k e (Put h v) = refl

other_put : (b c : CellName) (to : ℕ) (v : VarName) (bundle : List Equation) → equal_cell b c ≡ false → IsSilent b to (msg.Put c v bundle)
other_put b c to v bundle e (Get s) = refl
other_put b c to v bundle e (Forward x y) = refl
other_put b c to v bundle e (Put h u) = rw e refl

-- what is said of a cell is said of no other
pub silent_get : (b c : CellName) (to k : ℕ) → b ≢ c → IsSilent b to (msg.Get c k)
silent_get b c to k d = other_get b c to k (cells_differ b c d)

pub silent_forward : (b c : CellName) (to k : ℕ) → b ≢ c → IsSilent b to (msg.Forward c k)
silent_forward b c to k d = other_forward b c to k (cells_differ b c d)

pub silent_put : (b c : CellName) (to : ℕ) (v : VarName) (bundle : List Equation) → b ≢ c → IsSilent b to (msg.Put c v bundle)
silent_put b c to v bundle d = other_put b c to v bundle (cells_differ b c d)

-- messages on threads and variables say nothing of cells
abbrev pub IsOfNone : Msg → Type 0
IsOfNone (msg.Get c k) = ⊥
IsOfNone (msg.Forward c k) = ⊥
IsOfNone (msg.Put c v bundle) = ⊥
IsOfNone m = Unit {0}

pub none_says : (c : CellName) (to : ℕ) (x : Msg) → IsOfNone x → IsSilent c to x
none_says c to (msg.Get d k) h m = absurd h
none_says c to (msg.Forward d k) h m = absurd h
none_says c to (msg.Put d v bundle) h m = absurd h
none_says c to (msg.Spawn n code vars bundle) h (Get s) = refl
none_says c to (msg.Spawn n code vars bundle) h (Forward x y) = refl
none_says c to (msg.Spawn n code vars bundle) h (Put a v) = refl
none_says c to (msg.Register x k) h (Get s) = refl
none_says c to (msg.Register x k) h (Forward a y) = refl
none_says c to (msg.Register x k) h (Put a v) = refl
none_says c to (msg.BindReq x n t bundle) h (Get s) = refl
none_says c to (msg.BindReq x n t bundle) h (Forward a y) = refl
none_says c to (msg.BindReq x n t bundle) h (Put a v) = refl
none_says c to (msg.Binding x t bundle) h (Get s) = refl
none_says c to (msg.Binding x t bundle) h (Forward a y) = refl
none_says c to (msg.Binding x t bundle) h (Put a v) = refl
none_says c to (msg.PortSend q n k) h (Get s) = refl
none_says c to (msg.PortSend q n k) h (Forward a y) = refl
none_says c to (msg.PortSend q n k) h (Put a u) = refl
none_says c to (msg.PortEnd n old new bundle) h (Get s) = refl
none_says c to (msg.PortEnd n old new bundle) h (Forward a y) = refl
none_says c to (msg.PortEnd n old new bundle) h (Put a u) = refl
none_says c to (msg.CellMake d v bundle) h (Get s) = refl
none_says c to (msg.CellMake d v bundle) h (Forward a y) = refl
none_says c to (msg.CellMake d v bundle) h (Put a u) = refl
none_says c to (msg.CellAsk d n k v bundle) h (Get s) = refl
none_says c to (msg.CellAsk d n k v bundle) h (Forward a y) = refl
none_says c to (msg.CellAsk d n k v bundle) h (Put a u) = refl
none_says c to (msg.CellOld n v bundle) h (Get s) = refl
none_says c to (msg.CellOld n v bundle) h (Forward a y) = refl
none_says c to (msg.CellOld n v bundle) h (Put a u) = refl

pub silent_counts : (c : CellName) (to : ℕ) (x : Msg) → IsSilent c to x → (m : token.Mail) → counts c m (sent_to to x) ≡ 0
silent_counts c to x h m = ap (λ (b : Bool). cond b 1 0) (h m)

-- ---- messages are sent

pub travels_none : (c : CellName) (m : token.Mail) → sent_count c [] m ≡ 0
travels_none c m = refl

pub travels_more : (c : CellName) (s : Sent) (ms : List Sent) (m : token.Mail) → sent_count c (s ∷ ms) m ≡ counts c m s + sent_count c ms m
travels_more c s ms m = sum_by-cons (counts c m) s ms

pub travels_append : (c : CellName) (ms os : List Sent) (m : token.Mail) → sent_count c (ms ++ os) m ≡ sent_count c ms m + sent_count c os m
travels_append c ms os m = sum_by-append (counts c m) ms os

messages_append : (ms os : Mail) → messages (ms ++ os) ≡ messages ms ++ messages os
messages_append [] os = refl
messages_append (x ∷ ms) os = ap (λ (l : List Sent). x.1 ∷ l) (messages_append ms os)

messages_numbered : (k : ℕ) (os : List Sent) → messages (mail_from k os) ≡ os
messages_numbered k [] = refl
messages_numbered k (s ∷ os) = ap (λ (l : List Sent). s ∷ l) (messages_numbered (k + 1) os)

pub tally_sent : (c : CellName) (mail : Mail) (k : ℕ) (os : List Sent) (m : token.Mail) → sent_count c (messages (mail ++ mail_from k os)) m ≡ sent_count c (messages mail) m + sent_count c os m
tally_sent c mail k os m =
    ap (λ (l : List Sent). sent_count c l m) (messages_append mail (mail_from k os) ∙ ap (λ (l : List Sent). messages mail ++ l) (messages_numbered k os))
    ∙ travels_append c (messages mail) os m

-- ---- a message comes

-- how many of number k count
abbrev taken : CellName → token.Mail → ℕ → Mail → ℕ
taken c m k [] = 0
taken c m k (x ∷ xs) = cond (k == x.0) (counts c m x.1) 0 + taken c m k xs

taken_rest : (c : CellName) (m : token.Mail) (k : ℕ) (mail : Mail) → sent_count c (messages (without_number k mail)) m + taken c m k mail ≡ sent_count c (messages mail) m
taken_rest c m k [] = refl
taken_rest c m k (x ∷ xs) = go (k == x.0) (taken_rest c m k xs) ∙ sym (travels_more c x.1 (messages xs) m)
  where
    go : (b : Bool) → sent_count c (messages (without_number k xs)) m + taken c m k xs ≡ sent_count c (messages xs) m →
        sent_count c (messages (cond (not b) (x ∷ without_number k xs) (without_number k xs))) m + (cond b (counts c m x.1) 0 + taken c m k xs) ≡ counts c m x.1 + sent_count c (messages xs) m
    go true ih = omega arith
    go false ih = let more = travels_more c x.1 (messages (without_number k xs)) m in omega arith

-- all of the number are this one
abbrev pub OneOfNumber : Mail → ℕ → Sent → Type 0
OneOfNumber mail k s = (o : Sent) → Contains mail (k, o) → o ≡ s

taken_none : (c : CellName) (m : token.Mail) (k : ℕ) (s : Sent) (mail : Mail) → OneOfNumber mail k s → counts c m s ≡ 0 → taken c m k mail ≡ 0
taken_none c m k s [] one z = refl
taken_none c m k s ((l, o) ∷ xs) one z = go (k == l) refl (taken_none c m k s xs (λ o h. one o (Contains-tail _ _ xs h)) z)
  where
    go : (b : Bool) → (k == l) ≡ b → taken c m k xs ≡ 0 → cond b (counts c m o) 0 + taken c m k xs ≡ 0
    go true e ih =
        let number : k ≡ l = (nat_decides k l).0 e in
        let is : o ≡ s = one o (subst (λ (z : ℕ). Contains ((l, o) ∷ xs) (z, o)) (sym number) (Contains-head _ xs)) in
        let none : counts c m o ≡ 0 = ap (counts c m) is ∙ z in omega arith
    go false e ih = omega arith

taken_some : (c : CellName) (m : token.Mail) (k : ℕ) (s : Sent) (mail : Mail) → Contains mail (k, s) → counts c m s ≤ taken c m k mail
taken_some c m k s [] h = absurd (nothing _ h)
taken_some c m k s (x ∷ xs) h = go (Contains-cons_cases _ _ xs h) (λ r. taken_some c m k s xs r)
  where
    go : (◌≡◌ {A = ℕ × Sent} x (k, s)) ⊎ Contains xs (k, s) → (Contains xs (k, s) → counts c m s ≤ taken c m k xs) → counts c m s ≤ cond (k == x.0) (counts c m x.1) 0 + taken c m k xs
    go (inl e) ih =
        let yes : (k == x.0) ≡ true = (nat_decides k x.0).1 (sym (ap (λ (p : ℕ × Sent). p.0) e)) in
        let is : counts c m x.1 ≡ counts c m s = ap (λ (p : ℕ × Sent). counts c m p.1) e in
        rw (yes, is) (omega arith)
    go (inr r) ih = let more = ih r in omega (arith, more)

-- a message of the cell has come, of which one travelled
pub tally_came : (c : CellName) (a : token.Mail) (mail : Mail) (k to : ℕ) (x : Msg) → IsOnItsWay mail k to x → OneOfNumber mail k (sent_to to x) → Says c a to x →
    sent_count c (messages mail) a ≡ 1 → (m : token.Mail) → sent_count c (messages (without_number k mail)) m + mail_count (a ∷ []) m ≡ sent_count c (messages mail) m
tally_came c a mail k to x h one says before m = go (mail_or m a)
  where
    go : (m ≡ a) ⊎ (m ≢ a) → sent_count c (messages (without_number k mail)) m + mail_count (a ∷ []) m ≡ sent_count c (messages mail) m
    go (inl e) =
        let rest = taken_rest c m k mail in
        let some = taken_some c m k (sent_to to x) mail h in
        let is = says m in
        let self : mail_count (a ∷ []) m ≡ 1 = once m e in
        let was : sent_count c (messages mail) m ≡ 1 = ap (sent_count c (messages mail)) e ∙ before in
        omega (arith, some)
      where
        once : (m : token.Mail) → m ≡ a → mail_count (a ∷ []) m ≡ 1
        once m e = rw ((same_mail_decides a m).1 (sym e)) refl
    go (inr d) =
        let rest = taken_rest c m k mail in
        let none : mail_count (a ∷ []) m ≡ 0 = never m d in
        let z = taken_none c m k (sent_to to x) mail one (says m ∙ none) in omega arith
      where
        never : (m : token.Mail) → m ≢ a → mail_count (a ∷ []) m ≡ 0
        never m d = no (equal_mail a m) refl
          where
            no : (b : Bool) → equal_mail a m ≡ b → cond b 1 0 + 0 ≡ 0
            no true e = absurd (d (sym ((same_mail_decides a m).0 e)))
            no false e = refl

-- a message of another cell, or of none
pub tally_other : (c : CellName) (mail : Mail) (k to : ℕ) (x : Msg) → OneOfNumber mail k (sent_to to x) → IsSilent c to x →
    (m : token.Mail) → sent_count c (messages (without_number k mail)) m ≡ sent_count c (messages mail) m
tally_other c mail k to x one silent m =
    let rest = taken_rest c m k mail in
    let z = taken_none c m k (sent_to to x) mail one (silent_counts c to x silent m) in omega arith

-- a message that travels is counted
pub tally_there : (c : CellName) (a : token.Mail) (mail : Mail) (k to : ℕ) (x : Msg) → IsOnItsWay mail k to x → Says c a to x → sent_count c (messages mail) a ≢ 0
tally_there c a mail k to x h says none =
    let rest = taken_rest c a k mail in
    let some = taken_some c a k (sent_to to x) mail h in
    let is = says a in
    let self : mail_count (a ∷ []) a ≡ 1 = once in
    zero (omega (arith, some))
  where
    once : mail_count (a ∷ []) a ≡ 1
    once = rw ((same_mail_decides a a).1 refl) refl

    zero : 1 ≤ 0 → ⊥
    zero h = omega arith
