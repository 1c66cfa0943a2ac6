-- Each event pays for its messages.
use Rattle.std.proofs.Common.{arith, ◌≡◌, ◌≢◌, ◌∙◌, sym, ap, refl, subst, ℕ, zero, suc, ◌+◌, ◌≤◌, List, [], ◌∷◌, ◌⊎◌, inl, inr, Bool, true, false, cond, Some, None}
use Rattle.std.specs.Prelude.{Option, ◌==◌}
use Rattle.std.specs.Bool.{Decides}
use Rattle.tree_node.specs.declared.names.VarName.{VarName}
use Rattle.token_chain.specs.declared.token.Token.{Token}
use Rattle.token_chain.specs.declared.token.Token.TheVariants.{Away, Asked, Here}
use Rattle.token_chain.specs.Holding.{Holding, after_want, with_waiter, departure, departure_of}
use Rattle.token_chain.specs.Mail.{Mail, Get, Forward, Put, equal_mail, mail_count}
use Rattle.token_chain.specs.Rows.{Reply, reply_without_mail, leave_with, leave_reply, forward_reply, put_reply, get_reply}
use Rattle.token_chain.specs.Tally.{total, outstanding, held_here, weights, Tally, TalliesBound, KindsBound, IsPaid, HasWaiter, RowsPay, RepliesPay, MakingTallies}
use Rattle.token_chain.proofs.ChangeLemmas.{number_or}
use Rattle.std.proofs.lemmas.Bool.Decides.{Decides-eqb}

-- ---- sums

pub total_same : (n : ℕ) (f g : ℕ → ℕ) → ((k : ℕ) → 1 ≤ k → k ≤ n → g k ≡ f k) → total n g ≡ total n f
total_same zero f g h = refl
total_same (suc n) f g h =
    let rest = total_same n f g (λ k low high. h k low (omega (arith, high))) in
    let last = h (suc n) (omega arith) (omega arith) in omega arith

-- one term changes
pub total_change : (n s : ℕ) (f g : ℕ → ℕ) (a b : ℕ) → 1 ≤ s → s ≤ n → g s + a ≡ f s + b → ((k : ℕ) → k ≢ s → g k ≡ f k) → total n g + a ≡ total n f + b
total_change zero s f g a b low high e h = absurd (omega (arith, low, high))
total_change (suc n) s f g a b low high e h = go (number_or s (suc n)) (λ under. total_change n s f g a b low under e h)
  where
    go : (s ≡ suc n) ⊎ (s ≢ suc n) → (s ≤ n → total n g + a ≡ total n f + b) → total n g + g (suc n) + a ≡ total n f + f (suc n) + b
    go (inl q) ih =
        let rest = total_same n f g (λ k l u. h k (λ r. below k (r ∙ q) u)) in
        let last : g (suc n) + a ≡ f (suc n) + b = subst (λ (x : ℕ). g x + a ≡ f x + b) q e in omega arith
      where
        below : (k : ℕ) → k ≡ suc n → k ≤ n → ⊥
        below k r u = omega (arith, u)
    go (inr d) ih =
        let rest = ih (under d high) in
        let last = h (suc n) (λ r. d (sym r)) in omega arith
      where
        under : s ≢ suc n → s ≤ suc n → s ≤ n
        under d u = grind arith

-- terms that change by so much each
total_sum : (n : ℕ) (f g a b : ℕ → ℕ) → ((k : ℕ) → g k + a k ≡ f k + b k) → total n g + total n a ≡ total n f + total n b
total_sum zero f g a b h = refl
total_sum (suc n) f g a b h = let rest = total_sum n f g a b h in let last = h (suc n) in omega arith

total_most : (n : ℕ) (f : ℕ → ℕ) → ((k : ℕ) → f k ≤ 1) → total n f ≤ n
total_most zero f h = omega arith
total_most (suc n) f h = let rest = total_most n f h in let last = h (suc n) in omega (arith, rest, last)

asked_one : (t : Token) → outstanding t ≤ 1
asked_one Away = omega arith
asked_one Asked = omega arith
asked_one (Here v) = omega arith

pub tallies_bound : TalliesBound
tallies_bound n at travels gets forwards puts exchanges some t =
    let a = total_most n (λ s. outstanding (at s).token) (λ k. asked_one (at k).token) in
    let g = t.few_gets in
    let f = t.few_forwards in
    let u = t.few_puts in omega (arith, a, g, f, u, some)

pub kinds_bound : KindsBound
kinds_bound n at travels gets forwards puts exchanges t =
    let a = total_most n (λ s. outstanding (at s).token) (λ k. asked_one (at k).token) in
    let g = t.few_gets in
    let f = t.few_forwards in
    let u = t.few_puts in (omega (arith, a, g), omega (arith, a, f), omega (arith, u))

-- ---- a reply

-- a number is at most one of 1 to n
never : (n s : ℕ) → suc n ≤ s → total n (λ k. cond (s == k) 1 0) ≡ 0
never zero s h = refl
never (suc n) s h = go (s == suc n) (Decides-eqb s (suc n)) (never n s (omega (arith, h)))
  where
    go : (b : Bool) → Decides b (s ≡ suc n) → total n (λ k. cond (s == k) 1 0) ≡ 0 → total n (λ k. cond (s == k) 1 0) + cond b 1 0 ≡ 0
    go true d ih = let e = d.0 refl in absurd (omega (arith, h))
    go false d ih = omega arith

once : (n s : ℕ) → total n (λ k. cond (s == k) 1 0) ≤ 1
once zero s = omega arith
once (suc n) s = go (s == suc n) (Decides-eqb s (suc n)) (once n s)
  where
    go : (b : Bool) → Decides b (s ≡ suc n) → total n (λ k. cond (s == k) 1 0) ≤ 1 → total n (λ k. cond (s == k) 1 0) + cond b 1 0 ≤ 1
    go true d ih = let e = d.0 refl in let none = never n s (omega arith) in omega arith
    go false d ih = omega (arith, ih)

once_in : (n s : ℕ) → 1 ≤ s → s ≤ n → total n (λ k. cond (s == k) 1 0) ≡ 1
once_in zero s low high = absurd (omega (arith, low, high))
once_in (suc n) s low high = go (s == suc n) (Decides-eqb s (suc n)) (λ h. once_in n s low h)
  where
    go : (b : Bool) → Decides b (s ≡ suc n) → (s ≤ n → total n (λ k. cond (s == k) 1 0) ≡ 1) → total n (λ k. cond (s == k) 1 0) + cond b 1 0 ≡ 1
    go true d ih = let e = d.0 refl in let none = never n s (omega arith) in omega arith
    go false d ih = let rest = ih (under (λ e. let no : false ≡ true = d.1 e in cc)) in omega arith
      where
        under : s ≢ suc n → s ≤ n
        under q = grind arith

zeros : (n : ℕ) → total n (λ k. 0) ≡ 0
zeros zero = refl
zeros (suc n) = let rest = zeros n in omega arith

-- how many Gets of n sites are among these, at most
gets_most : (n : ℕ) (ms : List Mail) → total n (λ k. mail_count ms (Get k)) ≤ weights 1 0 0 ms
gets_most n [] = let z = zeros n in omega arith
gets_most n (m ∷ ms) =
    let sum = total_sum n (λ k. mail_count ms (Get k)) (λ k. mail_count (m ∷ ms) (Get k)) (λ k. 0) (λ k. cond (equal_mail m (Get k)) 1 0) (λ k. omega arith) in
    let rest = gets_most n ms in
    let one = heads m in
    let none = zeros n in omega (arith, rest, one)
  where
    heads : (m : Mail) → total n (λ k. cond (equal_mail m (Get k)) 1 0) ≤ weights 1 0 0 (m ∷ [])
    heads (Get s) = let o = once n s in omega (arith, o)
    heads (Forward a b) = let z = zeros n in omega arith
    heads (Put a v) = let z = zeros n in omega arith

-- a Get of one of n sites is one of theirs
pub one_came : (n k : ℕ) → 1 ≤ k → k ≤ n → total n (λ s. mail_count (Get k ∷ []) (Get s)) ≡ 1
one_came n k low high =
    let sum = total_sum n (λ s. cond (k == s) 1 0) (λ s. mail_count (Get k ∷ []) (Get s)) (λ s. 0) (λ s. 0) (λ s. omega arith) in
    let one = once_in n k low high in omega arith

pub replies_pay : RepliesPay
replies_pay n at to before after s r gone gets forwards puts exchanges more low high q pays t =
    let asks = total_change n s (λ k. outstanding (at k).token) (λ k. outstanding (to k).token) (outstanding (at s).token) (outstanding r.held.token) low high (swap (outstanding (to s).token) (outstanding r.held.token) (outstanding (at s).token) (ap (λ (h : Holding). outstanding h.token) q.here)) (λ k d. ap (λ (h : Holding). outstanding h.token) (q.others k d)) in
    let heres = total_change n s (λ k. held_here (at k).token) (λ k. held_here (to k).token) (held_here (at s).token) (held_here r.held.token) low high (swap (held_here (to s).token) (held_here r.held.token) (held_here (at s).token) (ap (λ (h : Holding). held_here h.token) q.here)) (λ k d. ap (λ (h : Holding). held_here h.token) (q.others k d)) in
    let fly = total_sum n (λ k. before (Get k)) (λ k. after (Get k)) (λ k. mail_count gone (Get k)) (λ k. mail_count r.sent (Get k)) (λ k. q.mail (Get k)) in
    let most = gets_most n r.sent in
    let g = t.few_gets in
    let f = t.few_forwards in
    let u = t.few_puts in
    let pg = pays.gets in
    let pf = pays.forwards in
    let pu = pays.puts in
    record {
      wanted = λ k e. want k e (number_or k s);
      few_gets = omega (arith, g, pg);
      few_forwards = omega (arith, f, pf, most);
      few_puts = omega (arith, u, pu);
    }
  where
    swap : (a b c : ℕ) → a ≡ b → a + c ≡ c + b
    swap a b c e = omega arith

    want : (k : ℕ) → (to k).token ≡ Asked → (k ≡ s) ⊎ (k ≢ s) → 1 ≤ (to k).waiting
    want k e (inl h) =
        let is : to k ≡ r.held = ap to h ∙ q.here in
        subst (λ (x : Holding). 1 ≤ x.waiting) (sym is) (pays.wanted (sym (ap (λ (x : Holding). x.token) is) ∙ e))
    want k e (inr d) = subst (λ (x : Holding). 1 ≤ x.waiting) (sym (q.others k d)) (t.wanted k (sym (ap (λ (x : Holding). x.token) (q.others k d)) ∙ e))

-- ---- the replies

none_leaves : (h : Holding) (o : Option (ℕ × VarName)) → departure_of h ≡ o → (weights 0 0 1 (leave_with h o).sent + held_here (leave_with h o).held.token ≡ held_here h.token) × (outstanding (leave_with h o).held.token ≡ outstanding h.token)
none_leaves h None e = (omega arith, refl)
none_leaves h (Some (k, v)) e = let t = is_here h.token h.next h.waiting e in let a = ap held_here t in let b = ap outstanding t in (omega arith, omega arith)
  where
    is_here : (t : Token) (o : Option ℕ) (m : ℕ) → departure t o m ≡ Some (k, v) → t ≡ Here v
    is_here Away o m f = cc
    is_here Asked o m f = cc
    is_here (Here w) None m f = cc
    is_here (Here w) (Some j) m f = go (m == 0) f
      where
        second : Option (ℕ × VarName) → VarName
        second None = w
        second (Some q) = q.1

        go : (b : Bool) → cond {A = Option (ℕ × VarName)} b (Some (j, w)) None ≡ Some (k, v) → Here w ≡ Here v
        go true q = ap Here (ap second q)
        go false q = cc

leave_kinds : (h : Holding) (o : Option (ℕ × VarName)) → (weights 1 0 0 (leave_with h o).sent ≡ 0) × (weights 0 1 0 (leave_with h o).sent ≡ 0)
leave_kinds h None = (refl, refl)
leave_kinds h (Some q) = (refl, refl)

leave_wanted : (h : Holding) (o : Option (ℕ × VarName)) → (h.token ≡ Asked → 1 ≤ h.waiting) → (leave_with h o).held.token ≡ Asked → 1 ≤ (leave_with h o).held.waiting
leave_wanted h None w e = w e
leave_wanted h (Some q) w e = absurd (cc)

-- the token leaves, where it may
leave_pays : (h : Holding) (came : ℕ) → (h.token ≡ Asked → 1 ≤ h.waiting) → IsPaid h (leave_reply h) came 0
leave_pays h came w =
    let l = none_leaves h (departure_of h) refl in
    let k = leave_kinds h (departure_of h) in
    record {
      wanted = leave_wanted h (departure_of h) w;
      gets = let a = k.0 in let b = l.1 in omega arith;
      forwards = let a = k.0 in let b = k.1 in let c = l.1 in omega arith;
      puts = let a = l.0 in omega arith;
    }

pub forward_pays : (h : Holding) (b came : ℕ) → (h.token ≡ Asked → 1 ≤ h.waiting) → IsPaid h (forward_reply h b) came 0
forward_pays h b came w =
    let q = leave_pays (record h { next = Some b }) came w in
    record { wanted = q.wanted; gets = q.gets; forwards = q.forwards; puts = q.puts }

get_pays : (manager last k : ℕ) (h : Holding) → HasWaiter h → IsPaid h (get_reply manager last k h) 1 0
get_pays manager last k h w = go (last == manager)
  where
    go : (b : Bool) → IsPaid h (cond b (forward_reply h k) (record { held = h; sent = Forward last k ∷ [] })) 1 0
    go true = forward_pays h k 1 w
    go false = record { wanted = w; gets = omega arith; forwards = omega arith; puts = omega arith }

-- a request is made
pub asking_pays : (h : Holding) (s : ℕ) → h.token ≡ Away → IsPaid h (record { held = with_waiter h; sent = Get s ∷ [] }) 0 0
asking_pays h s e = record {
  wanted = λ q. omega arith;
  gets = let a = ap outstanding e in let b = ap (λ (t : Token). outstanding (after_want t)) e in omega arith;
  forwards = let a = ap outstanding e in let b = ap (λ (t : Token). outstanding (after_want t)) e in omega arith;
  puts = let a = ap held_here e in let b = ap (λ (t : Token). held_here (after_want t)) e in omega arith;
}

pub own_asking_pays : (h : Holding) (last o : ℕ) → h.token ≡ Away → IsPaid h (record { held = with_waiter h; sent = Forward last o ∷ [] }) 0 0
own_asking_pays h last o e = record {
  wanted = λ q. omega arith;
  gets = let a = ap outstanding e in let b = ap (λ (t : Token). outstanding (after_want t)) e in omega arith;
  forwards = let a = ap outstanding e in let b = ap (λ (t : Token). outstanding (after_want t)) e in omega arith;
  puts = let a = ap held_here e in let b = ap (λ (t : Token). held_here (after_want t)) e in omega arith;
}

pub waiting_pays : (h : Holding) → h.token ≡ Asked → IsPaid h (reply_without_mail (with_waiter h)) 0 0
waiting_pays h e = record {
  wanted = λ q. omega arith;
  gets = let a = ap outstanding e in let b = ap (λ (t : Token). outstanding (after_want t)) e in omega arith;
  forwards = let a = ap outstanding e in let b = ap (λ (t : Token). outstanding (after_want t)) e in omega arith;
  puts = let a = ap held_here e in let b = ap (λ (t : Token). held_here (after_want t)) e in omega arith;
}

-- a request ends with an exchange or more
pub put_pays : (h : Holding) (v : VarName) (served : ℕ) → h.token ≡ Asked → 1 ≤ served → IsPaid h (put_reply h v) 0 served
put_pays h v served e some =
    let l = none_leaves (record h { token = Here v; waiting = 0 }) (departure_of (record h { token = Here v; waiting = 0 })) refl in
    let k = leave_kinds (record h { token = Here v; waiting = 0 }) (departure_of (record h { token = Here v; waiting = 0 })) in
    let a = ap outstanding e in
    record {
      wanted = leave_wanted (record h { token = Here v; waiting = 0 }) (departure_of (record h { token = Here v; waiting = 0 })) (λ q. absurd (cc));
      gets = let x = k.0 in omega (arith, some);
      forwards = let x = k.0 in let y = k.1 in omega (arith, some);
      puts = let x = l.0 in omega (arith, some);
    }

pub exchange_pays : (h : Holding) (u w : VarName) → h.token ≡ Here u → IsPaid h (reply_without_mail (record h { token = Here w })) 0 1
exchange_pays h u w e = record {
  wanted = λ q. absurd (cc);
  gets = let a = ap outstanding e in omega arith;
  forwards = let a = ap outstanding e in omega arith;
  puts = let a = ap held_here e in omega arith;
}

pub rows_pay : RowsPay
rows_pay = record {
  asking = asking_pays;
  own_asking = own_asking_pays;
  waiting = waiting_pays;
  get = get_pays;
  forward = λ h k w. forward_pays h k 0 w;
  put = put_pays;
  exchange = exchange_pays;
}

pub making_tallies : MakingTallies
making_tallies n at to before after o v low high nobody none q =
    let asks = total_same n (λ k. 0) (λ k. outstanding (to k).token) (λ k l u. token_is k (number_or k o)) in
    let gets = total_same n (λ k. 0) (λ k. after (Get k)) (λ k l u. quiet (Get k)) in
    let nothing = zeros n in
    let heres = total_change n o (λ k. 0) (λ k. held_here (to k).token) 0 1 low high (one (held_here (to o).token) (ap (λ (h : Holding). held_here h.token) q.here)) (λ k d. ap (λ (h : Holding). held_here h.token) (q.others k d ∙ nobody k)) in
    record {
      wanted = λ s e. want s e (number_or s o);
      few_gets = omega arith;
      few_forwards = omega arith;
      few_puts = omega arith;
    }
  where
    one : (a : ℕ) → a ≡ 1 → a + 0 ≡ 0 + 1
    one a e = omega arith

    quiet : (m : Mail) → after m ≡ 0
    quiet m = let a = q.mail m in let b = none m in omega arith

    token_is : (k : ℕ) → (k ≡ o) ⊎ (k ≢ o) → outstanding (to k).token ≡ 0
    token_is k (inl e) = ap (λ (x : ℕ). outstanding (to x).token) e ∙ ap (λ (h : Holding). outstanding h.token) q.here
    token_is k (inr d) = ap (λ (h : Holding). outstanding h.token) (q.others k d ∙ nobody k)

    want : (s : ℕ) → (to s).token ≡ Asked → (s ≡ o) ⊎ (s ≢ o) → 1 ≤ (to s).waiting
    want s e (inl h) = let is : (to s).token ≡ Here v = ap (λ (x : ℕ). (to x).token) h ∙ ap (λ (x : Holding). x.token) q.here in absurd (cc)
    want s e (inr d) = let is : (to s).token ≡ Away = ap (λ (x : Holding). x.token) (q.others s d ∙ nobody s) in absurd (cc)

-- nothing happens to the cell
pub same_tallies : (n : ℕ) (at to : ℕ → Holding) (before after : Mail → ℕ) (gets forwards puts exchanges : ℕ) → ((s : ℕ) → to s ≡ at s) → ((m : Mail) → after m ≡ before m) → Tally n at before gets forwards puts exchanges →
    Tally n to after gets forwards puts exchanges
same_tallies n at to before after gets forwards puts exchanges p q t =
    let asks = total_same n (λ k. outstanding (at k).token) (λ k. outstanding (to k).token) (λ k l u. ap (λ (h : Holding). outstanding h.token) (p k)) in
    let heres = total_same n (λ k. held_here (at k).token) (λ k. held_here (to k).token) (λ k l u. ap (λ (h : Holding). held_here h.token) (p k)) in
    let fly = total_same n (λ k. before (Get k)) (λ k. after (Get k)) (λ k l u. q (Get k)) in
    let g = t.few_gets in
    let f = t.few_forwards in
    let u = t.few_puts in
    record {
      wanted = λ s e. subst (λ (h : Holding). 1 ≤ h.waiting) (sym (p s)) (t.wanted s (sym (ap (λ (h : Holding). h.token) (p s)) ∙ e));
      few_gets = omega (arith, g);
      few_forwards = omega (arith, f);
      few_puts = omega (arith, u);
    }

-- whatever came
pub pays_came : (h : Holding) (r : Reply) (came exchanges : ℕ) → IsPaid h r 0 exchanges → IsPaid h r came exchanges
pays_came h r came exchanges p = record {
  wanted = p.wanted;
  gets = p.gets;
  forwards = let f = p.forwards in omega (arith, f);
  puts = p.puts;
}
