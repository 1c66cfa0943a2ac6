-- What each event makes of one cell, whatever else travels.
use Rattle.std.proofs.Common.{arith, rules, ◌≡◌, ◌≢◌, ◌∙◌, sym, ap, refl, subst, ℕ, ◌+◌, ◌-◌, ◌≤◌, List, [], ◌∷◌, ◌++◌, ◌⊎◌, inl, inr, Bool, true, false, cond, Some, None}
use Rattle.std.specs.Prelude.{Option, ◌==◌}
use Rattle.std.specs.Bool.{Decides}
use Rattle.tree_node.specs.declared.names.VarName.{VarName}
use Rattle.token_chain.specs.declared.token.Token.{Token}
use Rattle.token_chain.specs.declared.token.Token.TheVariants.{Away, Asked, Here}
use Rattle.token_chain.specs.Holding.{Holding, nothing_held, here_with, with_waiter, IsUsed}
use Rattle.token_chain.specs.Mail.{Mail, Get, Forward, Put, equal_mail, mail_count}
use Rattle.token_chain.specs.Chain.{IsOn, IsFirst, IsNext, HasToken, HasSuccessor, IsDue, IsChain, ChainOf}
use Rattle.token_chain.specs.Rows.{Reply, reply_without_mail, leave_with, leave_reply, forward_reply, put_reply, get_reply, first_request, exchange_reply, last_after, content_then}
use Rattle.token_chain.specs.Moves.{HasReplied, MakingStarts, AskingKeeps, WaitingKeeps, OwnAskingKeeps, GetKeeps, ForwardKeeps, PutKeeps, ExchangeKeeps, UnitKeeps, NothingKeeps, CanCome, MessagesCanCome, TokensHaveContents, SuccessorsAsked, AwayKeepsNothing}
use Rattle.token_chain.proofs.ListLemmas.{first_on, last_on, before_on, last_no_next, next_differs, next_not_first}
use Rattle.token_chain.proofs.ChangeLemmas.{Moves, Goes, Comes, IsPut, mail_or, number_or, same_mail_decides, token_of, next_of, on_used, not_due, due_at}
use Rattle.token_chain.proofs.EventLemmas as event
use Rattle.token_chain.proofs.TokenLemmas as token
use Rattle.token_chain.proofs.WorldLemmas.{leaves_any, leaving_asked, leaving_last, party_cases, stored_next}
use Rattle.std.proofs.lemmas.Bool.Decides.{Decides-eqb}

-- ---- numbers of messages

once_same : (a k : Mail) → k ≡ a → mail_count (a ∷ []) k ≡ 1
once_same a k e = go (equal_mail a k) ((same_mail_decides a k).1 (sym e))
  where
    go : (b : Bool) → b ≡ true → cond b 1 0 + 0 ≡ 1
    go true q = refl
    go false q = cc

once_other : (a k : Mail) → k ≢ a → mail_count (a ∷ []) k ≡ 0
once_other a k d = go (equal_mail a k) (same_mail_decides a k)
  where
    go : (b : Bool) → Decides b (a ≡ k) → cond b 1 0 + 0 ≡ 0
    go true q = absurd (d (sym (q.0 refl)))
    go false q = refl

abbrev Counts : List Mail → List Mail → (Mail → ℕ) → (Mail → ℕ) → Type 0
Counts gone sent n m = (k : Mail) → m k + mail_count gone k ≡ n k + mail_count sent k

comes : (b : Mail) (n m : Mail → ℕ) → n b ≡ 0 → Counts [] (b ∷ []) n m → Comes b n m
comes b n m none q = record {
  sent = let e = q b in let o = once_same b b refl in omega arith;
  others = λ k d. let e = q k in let o = once_other b k d in omega arith;
}

goes : (a : Mail) (n m : Mail → ℕ) → n a ≡ 1 → Counts (a ∷ []) [] n m → Goes a n m
goes a n m one q = record {
  gone = let e = q a in let o = once_same a a refl in omega arith;
  others = λ k d. let e = q k in let o = once_other a k d in omega arith;
}

both : (a b : Mail) (n m : Mail → ℕ) → n a ≡ 1 → n b ≡ 0 → a ≢ b → Counts (a ∷ []) (b ∷ []) n m → Moves a b n m
both a b n m one none d q = record {
  gone = let e = q a in let o = once_same a a refl in let p = once_other b a d in omega arith;
  sent = let e = q b in let o = once_same b b refl in let p = once_other a b (λ f. d (sym f)) in omega arith;
  others = λ k x y. let e = q k in let o = once_other a k x in let p = once_other b k y in omega arith;
}

same_counts : (n m : Mail → ℕ) → Counts [] [] n m → (k : Mail) → m k ≡ n k
same_counts n m q k = let e = q k in omega arith

-- it is under way once
one_of : (last : ℕ) (at : ℕ → Holding) (n : Mail → ℕ) (hs : List ℕ) (v : VarName) → IsChain last at n hs v → (k : Mail) → n k ≢ 0 → n k ≡ 1
one_of last at n hs v c k d = go (c.due k)
  where
    go : (n k ≡ 0) ⊎ ((n k ≡ 1) × IsDue at hs v k) → n k ≡ 1
    go (inl e) = absurd (d e)
    go (inr e) = e.0

put_of : (s : ℕ) (r : Reply) (gone : List Mail) (at to : ℕ → Holding) (n m : Mail → ℕ) → HasReplied s r gone at to n m → IsPut s r.held at to
put_of s r gone at to n m q = record { here = q.here; others = q.others }

-- the reply is this one
as_reply : (s : ℕ) (r q : Reply) (gone : List Mail) (at to : ℕ → Holding) (n m : Mail → ℕ) → r ≡ q → HasReplied s r gone at to n m → HasReplied s q gone at to n m
as_reply s r q gone at to n m e h = subst (λ (x : Reply). HasReplied s x gone at to n m) e h

-- ---- nothing

pub nothing_keeps : NothingKeeps
nothing_keeps last at to n m v (hs, c) p q = (
  hs,
  record {
    distinct = c.distinct;
    end = c.end;
    free = next_of _ _ (p last) ∙ c.free;
    first = λ h f. first h (c.first h f);
    told = λ a b k. told a b (c.told a b k);
    behind = λ a b k. token_of _ _ (p b) ∙ c.behind a b k;
    here = λ s w e. c.here s w (sym (token_of _ _ (p s)) ∙ e);
    asked = λ s e. asked s (c.asked s (sym (token_of _ _ (p s)) ∙ e));
    idle = λ s e. p s ∙ c.idle s (sym (token_of _ _ (p s)) ∙ e);
    due = λ k. due k (c.due k);
  },
)
  where
    first : (h : ℕ) → HasToken at n v h → HasToken to m v h
    first h (inl e) = inl (p h ∙ e)
    first h (inr e) = inr (token_of _ _ (p h) ∙ e.0, q (Put h v) ∙ e.1)

    told : (a b : ℕ) → HasSuccessor at n a b → HasSuccessor to m a b
    told a b (inl e) = inl (next_of _ _ (p a) ∙ e)
    told a b (inr e) = inr (next_of _ _ (p a) ∙ e.0, q (Forward a b) ∙ e.1)

    asked : (s : ℕ) → IsOn hs s ⊎ (n (Get s) ≡ 1) → IsOn hs s ⊎ (m (Get s) ≡ 1)
    asked s (inl on) = inl on
    asked s (inr e) = inr (q (Get s) ∙ e)

    reason : (k : Mail) → IsDue at hs v k → IsDue to hs v k
    reason (Get s) d = (token_of _ _ (p s) ∙ d.0, next_of _ _ (p s) ∙ d.1, d.2)
    reason (Forward a b) d = (d.0, next_of _ _ (p a) ∙ d.1)
    reason (Put h w) d = (d.0, token_of _ _ (p h) ∙ d.1, d.2)

    due : (k : Mail) → (n k ≡ 0) ⊎ ((n k ≡ 1) × IsDue at hs v k) → (m k ≡ 0) ⊎ ((m k ≡ 1) × IsDue to hs v k)
    due k (inl e) = inl (q k ∙ e)
    due k (inr e) = inr (q k ∙ e.0, reason k e.1)

-- ---- a cell is made

pub making_starts : MakingStarts
making_starts at to n m o v nobody none p = (
  o ∷ [],
  record {
    distinct = (tt, tt);
    end = refl;
    free = next_of _ _ p.here;
    first = λ h f. subst (λ (x : ℕ). HasToken to m v x) f (inl p.here);
    told = λ a b k. absurd k;
    behind = λ a b k. absurd k;
    here = λ s w e. here s w e (which s);
    asked = λ s e. absurd (asked s e (which s));
    idle = λ s e. idle s e (which s);
    due = λ k. inl (quiet k);
  },
)
  where
    quiet : (k : Mail) → m k ≡ 0
    quiet k = same_counts n m p.mail k ∙ none k

    which : (s : ℕ) → (s ≡ o) ⊎ (to s ≡ nothing_held)
    which s = go (number s)
      where
        number : (s : ℕ) → (s ≡ o) ⊎ (s ≢ o)
        number s = search rules

        go : (s ≡ o) ⊎ (s ≢ o) → (s ≡ o) ⊎ (to s ≡ nothing_held)
        go (inl e) = inl e
        go (inr d) = inr (p.others s d ∙ nobody s)

    made_token : (s : ℕ) → s ≡ o → (to s).token ≡ Here v
    made_token s e = ap (λ (x : ℕ). (to x).token) e ∙ token_of _ _ p.here

    here : (s : ℕ) (w : VarName) → (to s).token ≡ Here w → (s ≡ o) ⊎ (to s ≡ nothing_held) → o ≡ s
    here s w e (inl f) = sym f
    here s w e (inr f) = let g : (to s).token ≡ Away = token_of _ _ f in absurd (cc)

    asked : (s : ℕ) → (to s).token ≡ Asked → (s ≡ o) ⊎ (to s ≡ nothing_held) → ⊥
    asked s e (inl f) = let g = made_token s f in cc
    asked s e (inr f) = let g : (to s).token ≡ Away = token_of _ _ f in cc

    idle : (s : ℕ) → (to s).token ≡ Away → (s ≡ o) ⊎ (to s ≡ nothing_held) → to s ≡ nothing_held
    idle s e (inl f) = let g = made_token s f in absurd (cc)
    idle s e (inr f) = f

-- ---- threads that want the token

pub asking_keeps : AskingKeeps
asking_keeps last at to n m v s (hs, c) was p =
    let keeps_away : at s ≡ nothing_held = c.idle s was in
    let none : n (Get s) ≡ 0 = not_due last at n hs v c (Get s) (λ d. let e : (at s).token ≡ Asked = d.0 in cc) in
    let q : with_waiter (at s) ≡ record { token = Asked; next = None; waiting = 1 } = ap with_waiter keeps_away in
    (hs, event.asks last at to n m hs v s (with_waiter (at s)) c was (token_of _ _ q) (next_of _ _ q) (put_of _ _ _ _ _ _ _ p) (comes (Get s) n m none p.mail))

pub waiting_keeps : WaitingKeeps
waiting_keeps last at to n m v s (hs, c) was p = nothing_keeps last to to n m v
    (hs, event.waits last at to n hs v s (with_waiter (at s)) c was (asked (at s).token was) refl (put_of _ _ _ _ _ _ _ p))
    (λ r. refl) (same_counts n m p.mail)
  where
    asked : (t : Token) → t ≡ Asked → (with_waiter (record { token = t; next = (at s).next; waiting = (at s).waiting })).token ≡ Asked
    asked Asked e = refl
    asked Away e = refl
    asked (Here u) e = cc

-- one more of a message
abbrev more : Mail → (Mail → ℕ) → Mail → ℕ
more a n k = n k + mail_count (a ∷ []) k

more_counts : (a : Mail) (n : Mail → ℕ) → Counts [] (a ∷ []) n (more a n)
more_counts a n k = omega arith

pub last_is_used : (last : ℕ) (at : ℕ → Holding) (n : Mail → ℕ) (v : VarName) → ChainOf last at n v → (at last).token ≢ Away
last_is_used last at n v (hs, c) = on_used last at n hs v c last (last_on hs last c.end)

pub own_asking_keeps : OwnAskingKeeps
own_asking_keeps last at to n m v o (hs, c) was = (apart, keeps_chain)
  where
    apart : last ≢ o
    apart e = last_is_used last at n v (hs, c) (ap (λ (x : ℕ). (at x).token) e ∙ was)

    keeps_chain : HasReplied o (record { held = with_waiter (at o); sent = Forward last o ∷ [] }) [] at to n m → ChainOf o to m v
    keeps_chain p =
        let none : n (Get o) ≡ 0 = not_due last at n hs v c (Get o) (λ d. let e : (at o).token ≡ Asked = d.0 in cc) in
        let nof : n (Forward last o) ≡ 0 = not_due last at n hs v c (Forward last o) (λ d. last_no_next hs last o c.distinct c.end d.0) in
        let q : with_waiter (at o) ≡ record { token = Asked; next = None; waiting = 1 } = ap with_waiter (c.idle o was) in
        let asked : IsChain last to (more (Get o) n) hs v
        = event.asks last at to n (more (Get o) n) hs v o (with_waiter (at o)) c was (token_of _ _ q) (next_of _ _ q) (put_of _ _ _ _ _ _ _ p) (comes (Get o) n (more (Get o) n) none (more_counts (Get o) n)) in
        let one : more (Get o) n (Get o) ≡ 1 = let a = once_same (Get o) (Get o) refl in omega arith in
        let zero : more (Get o) n (Forward last o) ≡ 0 = let a = once_other (Get o) (Forward last o) (λ e. cc) in omega arith in
        let due : IsDue to hs v (Get o) = due_at last to (more (Get o) n) hs v asked (Get o) (λ e. cc) in (
          hs ++ o ∷ [],
          event.joins last to (more (Get o) n) m hs v o asked due
              (both (Get o) (Forward last o) (more (Get o) n) m one zero (λ e. cc) (λ k. let e = p.mail k in omega arith)),
        )

-- ---- messages come

forward_comes : (last : ℕ) (at to : ℕ → Holding) (n m : Mail → ℕ) (hs : List ℕ) (v : VarName) (a b : ℕ) → IsChain last at n hs v → n (Forward a b) ≢ 0 →
    HasReplied a (forward_reply (at a) b) (Forward a b ∷ []) at to n m → ChainOf last to m v
forward_comes last at to n m hs v a b c there p = go (party_cases last at n hs v c a (before_on hs a b due.0))
  where
    due : IsDue at hs v (Forward a b)
    due = due_at last at n hs v c (Forward a b) there

    one : n (Forward a b) ≡ 1
    one = one_of last at n hs v c (Forward a b) there

    go : (IsFirst hs a × (at a ≡ here_with v)) ⊎ ((at a).token ≡ Asked) → ChainOf last to m v
    go (inl e) =
        let q : HasReplied a (record { held = nothing_held; sent = Put b v ∷ [] }) (Forward a b ∷ []) at to n m
        = as_reply a _ _ _ at to n m (ap (λ (h : Holding). forward_reply h b) e.1) p in
        let none : n (Put b v) ≡ 0 = not_due last at n hs v c (Put b v) (λ f. next_not_first hs a b c.distinct due.0 f.0) in
        leaves_any last at to n m hs a b v v (Forward a b) c e.0 due.0 (put_of _ _ _ _ _ _ _ q)
        (both (Forward a b) (Put b v) n m one none (λ f. cc) q.mail) (inl (refl, e.1))
    go (inr e) =
        let stays : forward_reply (at a) b ≡ reply_without_mail (record (at a) { next = Some b })
        = ap (λ (o : Option (ℕ × VarName)). leave_with (record (at a) { next = Some b }) o) (leaving_asked (record (at a) { next = Some b }) e) in
        let q : HasReplied a (reply_without_mail (record (at a) { next = Some b })) (Forward a b ∷ []) at to n m
        = as_reply a _ _ _ at to n m stays p in
        (hs, event.stores last at to n m hs v a b (record (at a) { next = Some b }) c due e e refl (put_of _ _ _ _ _ _ _ q) (goes (Forward a b) n m one q.mail))

pub forward_keeps : ForwardKeeps
forward_keeps last at to n m v a b (hs, c) there p = forward_comes last at to n m hs v a b c there p

pub get_keeps : GetKeeps
get_keeps last at to n m v o k (hs, c) there p = go (last == o) (Decides-eqb last o) p
  where
    due : IsDue at hs v (Get k)
    due = due_at last at n hs v c (Get k) there

    one : n (Get k) ≡ 1
    one = one_of last at n hs v c (Get k) there

    none : n (Forward last k) ≡ 0
    none = not_due last at n hs v c (Forward last k) (λ f. last_no_next hs last k c.distinct c.end f.0)

    -- as if the Forward had been sent
    middle : Mail → ℕ
    middle x = n x + mail_count (Forward last k ∷ []) x - mail_count (Get k ∷ []) x

    enough : (x : Mail) → mail_count (Get k ∷ []) x ≤ n x
    enough x = at_most x (mail_or x (Get k))
      where
        at_most : (x : Mail) → (x ≡ Get k) ⊎ (x ≢ Get k) → mail_count (Get k ∷ []) x ≤ n x
        at_most x (inl e) = let a = once_same (Get k) x e in let b : n x ≡ 1 = ap n e ∙ one in omega arith
        at_most x (inr d) = let a = once_other (Get k) x d in omega arith

    counted : (x : Mail) → middle x + mail_count (Get k ∷ []) x ≡ n x + mail_count (Forward last k ∷ []) x
    counted x = let a = enough x in omega arith

    joined : IsChain k at middle (hs ++ k ∷ []) v
    joined = event.joins last at n middle hs v k c due (both (Get k) (Forward last k) n middle one none (λ e. cc) counted)

    sent : middle (Forward last k) ≡ 1
    sent = let z = none in let a = counted (Forward last k) in let b = once_same (Forward last k) (Forward last k) refl in let d = once_other (Get k) (Forward last k) (λ e. cc) in omega arith

    go : (b : Bool) → Decides b (last ≡ o) → HasReplied o (cond b (forward_reply (at o) k) (record { held = at o; sent = Forward last k ∷ [] })) (Get k ∷ []) at to n m → ChainOf k to m v
    go true d q =
        let same : last ≡ o = d.0 refl in
        let mail : (x : Mail) → m x + mail_count (Forward last k ∷ []) x ≡ middle x + mail_count (forward_reply (at o) k).sent x
        = λ x. let a = q.mail x in let b = counted x in omega arith in
        let to_last : HasReplied last (forward_reply (at last) k) (Forward last k ∷ []) at to middle m
        = subst (λ (x : ℕ). HasReplied x (forward_reply (at x) k) (Forward last k ∷ []) at to middle m) (sym same) (record { here = q.here; others = q.others; mail = mail }) in
        forward_comes k at to middle m (hs ++ k ∷ []) v last k joined (λ z. let s = sent in cc) to_last
    go false d q =
        nothing_keeps k at to middle m v (hs ++ k ∷ [], joined) (λ s. stays s (number_or s o) q.here q.others)
        (λ x. let a = q.mail x in let b = counted x in omega arith)
      where
        stays : (s : ℕ) → (s ≡ o) ⊎ (s ≢ o) → to o ≡ at o → ((j : ℕ) → j ≢ o → to j ≡ at j) → to s ≡ at s
        stays s (inl e) h g = subst (λ (x : ℕ). to x ≡ at x) (sym e) h
        stays s (inr d) h g = g s d

-- the token came, and was exchanged
abbrev came_with : VarName → Option ℕ → Holding
came_with w o = record { token = Here w; next = o; waiting = 0 }

put_comes : (last : ℕ) (at to : ℕ → Holding) (n m : Mail → ℕ) (hs : List ℕ) (v w : VarName) (s : ℕ) → IsChain last at n hs v → n (Put s v) ≢ 0 →
    HasReplied s (put_reply (at s) w) (Put s v ∷ []) at to n m → ChainOf last to m w
put_comes last at to n m hs v w s c there p = go (at s).next refl
  where
    due : IsDue at hs v (Put s v)
    due = due_at last at n hs v c (Put s v) there

    one : n (Put s v) ≡ 1
    one = one_of last at n hs v c (Put s v) there

    reply : (o : Option ℕ) → (at s).next ≡ o → HasReplied s (leave_reply (came_with w o)) (Put s v ∷ []) at to n m
    reply o e = as_reply s _ _ _ at to n m (ap (λ (x : Option ℕ). leave_reply (came_with w x)) e) p

    go : (o : Option ℕ) → (at s).next ≡ o → ChainOf last to m w
    go None e =
        let q : HasReplied s (reply_without_mail (came_with w None)) (Put s v ∷ []) at to n m
        = as_reply s _ _ _ at to n m (ap (λ (x : Option (ℕ × VarName)). leave_with (came_with w None) x) (leaving_last (came_with w None) refl)) (reply None e) in
        let g = goes (Put s v) n m one q.mail in
        (hs, token.settles last at to n m hs v w s c due.0 e (put_of _ _ _ _ _ _ _ q) (λ u. others u (mail_or (Put s u) (Put s v)) g) (λ k d. g.others k (d v)))
      where
        others : (u : VarName) → (Put s u ≡ Put s v) ⊎ (Put s u ≢ Put s v) → Goes (Put s v) n m → m (Put s u) ≡ 0
        others u (inl e) g = ap m e ∙ g.gone
        others u (inr d) g = g.others (Put s u) d ∙ not_due last at n hs v c (Put s u) (λ f. d (ap (λ x. Put s x) f.2))
    go (Some b) e =
        let next : IsNext hs s b = stored_next last at n hs v c s b (first_on hs s due.0) e in
        let q : HasReplied s (record { held = nothing_held; sent = Put b w ∷ [] }) (Put s v ∷ []) at to n m = reply (Some b) e in
        let apart : Put s v ≢ Put b w = λ f. next_differs hs s b c.distinct next (cc) in
        let none : n (Put b w) ≡ 0 = not_due last at n hs v c (Put b w) (λ f. next_not_first hs s b c.distinct next f.0) in
        leaves_any last at to n m hs s b v w (Put s v) c due.0 next (put_of _ _ _ _ _ _ _ q)
        (both (Put s v) (Put b w) n m one none apart q.mail) (inr (refl, due.1, e))

pub put_keeps : PutKeeps
put_keeps last at to n m v u w s (hs, c) there p =
    let due : IsDue at hs v (Put s u) = due_at last at n hs v c (Put s u) there in
    put_comes last at to n m hs u w s (subst (λ (x : VarName). IsChain last at n hs x) (sym due.2) c) there p

-- ---- an exchange where the token is

first_made : (last : ℕ) (at : ℕ → Holding) (n : Mail → ℕ) (hs : List ℕ) (v : VarName) → IsChain last at n hs v → (s : ℕ) (u : VarName) → (at s).token ≡ Here u → IsFirst hs s × (at s ≡ here_with v)
first_made last at n hs v c s u e = go (c.here s u e) (c.first s (c.here s u e))
  where
    go : IsFirst hs s → HasToken at n v s → IsFirst hs s × (at s ≡ here_with v)
    go f (inl g) = (f, g)
    go f (inr g) = let h : (at s).token ≡ Asked = g.0 in absurd (cc)

pub exchange_keeps : ExchangeKeeps
exchange_keeps last at to n m v u w s (hs, c) e p =
    let f = first_made last at n hs v c s u e in
    let is : record (at s) { token = Here w } ≡ here_with w = ap (λ (h : Holding). record h { token = Here w }) f.1 in
    let q : HasReplied s (reply_without_mail (here_with w)) [] at to n m = as_reply s _ _ _ at to n m (ap reply_without_mail is) p in
    let same = same_counts n m q.mail in (
      hs,
      token.settles last at to n m hs v w s c f.0 (next_of _ _ f.1) (put_of _ _ _ _ _ _ _ q)
          (λ x. same (Put s x) ∙ not_due last at n hs v c (Put s x) (λ d. let a : (at s).token ≡ Asked = d.1 in cc)) (λ k d. same k),
    )

-- ---- a thread of any site

pub unit_keeps : UnitKeeps
unit_keeps last at to n m v w manager s h p = go (at s).token refl
  where
    reply : (t : Token) → (at s).token ≡ t → HasReplied s (exchange_reply manager last s w (record (at s) { token = t })) [] at to n m
    reply t e = subst (λ (x : Token). HasReplied s (exchange_reply manager last s w (record (at s) { token = x })) [] at to n m) e p

    waits : (at s).token ≡ Away → with_waiter (record (at s) { token = Away }) ≡ with_waiter (at s)
    waits e = ap (λ (x : Token). with_waiter (record (at s) { token = x })) (sym e)

    first : (at s).token ≡ Away → (b : Bool) → Decides b (s ≡ manager) →
        HasReplied s (cond b (get_reply manager last s (with_waiter (at s))) (record { held = with_waiter (at s); sent = Get s ∷ [] })) [] at to n m → ChainOf (cond b s last) to m v
    first e false d q = asking_keeps last at to n m v s h e q
    first e true d q = (own_asking_keeps last at to n m v s h e).1 (own (last == manager) (Decides-eqb last manager) q)
      where
        apart : last ≢ manager
        apart f = (own_asking_keeps last at to n m v s h e).0 (f ∙ sym (d.0 refl))

        own : (b : Bool) → Decides b (last ≡ manager) → HasReplied s (cond b (forward_reply (with_waiter (at s)) s) (record { held = with_waiter (at s); sent = Forward last s ∷ [] })) [] at to n m →
            HasReplied s (record { held = with_waiter (at s); sent = Forward last s ∷ [] }) [] at to n m
        own true k q = absurd (apart (k.0 refl))
        own false k q = q

    go : (t : Token) → (at s).token ≡ t → ChainOf (last_after manager last s (at s).token) to m (content_then v w (at s).token)
    go (Here u) e = rw e (exchange_keeps last at to n m v u w s h e (reply (Here u) e))
    go Asked e = rw e (waiting_keeps last at to n m v s h e (subst (λ (x : Holding). HasReplied s (reply_without_mail x) [] at to n m) (ap (λ (x : Token). with_waiter (record (at s) { token = x })) (sym e)) (reply Asked e)))
    go Away e = rw e (first e (s == manager) (Decides-eqb s manager) (subst (λ (x : Holding). HasReplied s (first_request manager last s x) [] at to n m) (waits e) (reply Away e)))

-- ---- what a chain says

used_on : (last : ℕ) (at : ℕ → Holding) (n : Mail → ℕ) (hs : List ℕ) (v : VarName) → IsChain last at n hs v → (s : ℕ) → IsOn hs s → IsUsed (at s).token
used_on last at n hs v c s on = go (at s).token refl
  where
    go : (t : Token) → (at s).token ≡ t → IsUsed t
    go Away e = absurd (on_used last at n hs v c s on e)
    go Asked e = tt
    go (Here u) e = tt

pub messages_can_come : MessagesCanCome
messages_can_come last at n v (hs, c) k there = (one_of last at n hs v c k there, go k (due_at last at n hs v c k there))
  where
    go : (k : Mail) → IsDue at hs v k → CanCome last at v k
    go (Get s) d = (d.0, (λ e. d.2 (subst (λ (x : ℕ). IsOn hs x) (sym e) (last_on hs last c.end))), (c.free, used_on last at n hs v c last (last_on hs last c.end)))
    go (Forward a b) d = ((d.1, used_on last at n hs v c a (before_on hs a b d.0)), c.behind a b d.0, next_differs hs a b c.distinct d.0)
    go (Put s u) d = (d.1, d.2)

pub tokens_have_contents : TokensHaveContents
tokens_have_contents last at n v u s (hs, c) e =
    let f = first_made last at n hs v c s u e in
    let same : u ≡ v = let g : (at s).token ≡ Here v = token_of _ _ f.1 in cc in
    (same, subst (λ (x : VarName). at s ≡ here_with x) (sym same) f.1)

pub away_keeps_nothing : AwayKeepsNothing
away_keeps_nothing last at n v s (hs, c) e = c.idle s e

pub successors_asked : SuccessorsAsked
successors_asked last at n v s b (hs, c) e = go (at s).token refl
  where
    along : IsOn hs s → (s ≢ b) × ((at b).token ≡ Asked)
    along on = let next = stored_next last at n hs v c s b on e in (next_differs hs s b c.distinct next, c.behind s b next)

    asked : IsOn hs s ⊎ (n (Get s) ≡ 1) → (s ≢ b) × ((at b).token ≡ Asked)
    asked (inl on) = along on
    asked (inr g) =
        let d = due_at last at n hs v c (Get s) (λ z. cc) in
        let none : (at s).next ≡ None = d.1 in absurd (cc)

    go : (t : Token) → (at s).token ≡ t → (s ≢ b) × ((at b).token ≡ Asked)
    go Away f = let g : (at s).next ≡ None = next_of _ _ (c.idle s f) in absurd (cc)
    go Asked f = asked (c.asked s f)
    go (Here u) f = along (first_on hs s (c.here s u f))
