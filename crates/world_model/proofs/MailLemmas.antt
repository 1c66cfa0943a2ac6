-- Messages that travel, as some are sent and one comes.
use Rattle.std.proofs.Common.{arith, ◌≡◌, ◌∙◌, sym, ap, refl, subst, ℕ, suc, ◌+◌, ◌<◌, ◌≤◌, List, [], ◌∷◌, ◌++◌, ◌⊎◌, inl, inr, Bool, true, false, append_assoc, length, length-append}
use Rattle.std.specs.Prelude.{Contains, ◌≢◌, ◌==◌, not}
use Rattle.std.specs.List.{enumerate_from}
use Rattle.std.proofs.lemmas.List.Elements.{Contains-append_left, Contains-append_right, Contains-append_cases}
pub use Rattle.tree_node.proofs.OrderLemmas.{none as nothing}
use Rattle.tree_node.proofs.ClassLemmas.{Contains-cons_cases, Contains-head, Contains-tail}
use Rattle.site_message.specs.declared.message.Msg.{Msg}
use Rattle.site_message.specs.declared.message.Sent.{Sent}
pub use Rattle.site_message.proofs.TravelLemmas.{enumerate-append as numbered_append}
use Rattle.site_model.specs.Transition.{Transition, sequence}
use Rattle.site_model.specs.Site.{Site}
use Rattle.world_model.specs.World.{World, Mail, IsOnItsWay, mail_from, without_number, after_transition}
use Rattle.world_model.proofs.PutLemmas.{nat_decides, at_twice}
use Rattle.site_message.proofs.JournalLemmas.{kept as filter_kept}
use Rattle.tree_node.proofs.CompareLemmas.{filter_from}

abbrev pub sent_to : ℕ → Msg → Sent
sent_to to m = record { to = to; msg = m }

-- these messages were sent
pub record Posts (mail more : Mail) (out : List Sent) : Type 0 where
  pub old : (k to : ℕ) (m : Msg) → IsOnItsWay mail k to m → IsOnItsWay more k to m
  pub from : (k to : ℕ) (m : Msg) → IsOnItsWay more k to m → IsOnItsWay mail k to m ⊎ Contains out (sent_to to m)
  pub new : (to : ℕ) (m : Msg) → Contains out (sent_to to m) → (k : ℕ) × IsOnItsWay more k to m

-- message k is gone
pub record Gone (k : ℕ) (mail less : Mail) : Type 0 where
  pub old : (l to : ℕ) (m : Msg) → IsOnItsWay less l to m → IsOnItsWay mail l to m × (l ≢ k)
  pub kept : (l to : ℕ) (m : Msg) → IsOnItsWay mail l to m → l ≢ k → IsOnItsWay less l to m

pub number_of : {X : Type 0} (n : ℕ) (xs : List X) (k : ℕ) (x : X) → Contains (enumerate_from n xs) (k, x) → Contains xs x × (n ≤ k) × (k < n + length xs)
number_of n [] k x h = absurd (nothing _ h)
number_of {X} n (y ∷ ys) k x h = go (Contains-cons_cases _ _ (enumerate_from (n + 1) ys) h) (λ q. number_of (n + 1) ys k x q)
  where
    go : (◌≡◌ {A = ℕ × X} (n, y) (k, x)) ⊎ Contains (enumerate_from (n + 1) ys) (k, x) → (Contains (enumerate_from (n + 1) ys) (k, x) → Contains ys x × (n + 1 ≤ k) × (k < n + 1 + length ys)) →
        Contains (y ∷ ys) x × (n ≤ k) × (k < n + suc (length ys))
    go (inl e) ih =
        let place : n ≡ k = ap (λ (p : ℕ × X). p.0) e in
        (subst (λ (z : X). Contains (y ∷ ys) z) (ap (λ (p : ℕ × X). p.1) e) (Contains-head y ys), omega arith, omega arith)
    go (inr q) ih = let r = ih q in (Contains-tail _ _ ys r.0, omega (arith, r.1), omega (arith, r.2))

numbers_new : {X : Type 0} (n : ℕ) (xs : List X) (x : X) → Contains xs x → (k : ℕ) × Contains (enumerate_from n xs) (k, x)
numbers_new n [] x h = absurd (nothing _ h)
numbers_new {X} n (y ∷ ys) x h = go (Contains-cons_cases _ _ ys h) (λ q. numbers_new (n + 1) ys x q)
  where
    go : (y ≡ x) ⊎ Contains ys x → (Contains ys x → (k : ℕ) × Contains (enumerate_from (n + 1) ys) (k, x)) → (k : ℕ) × Contains (enumerate_from n (y ∷ ys)) (k, x)
    go (inl e) ih = (n, subst (λ (z : X). Contains (enumerate_from n (y ∷ ys)) (n, z)) e (Contains-head _ (enumerate_from (n + 1) ys)))
    go (inr q) ih = let r = ih q in (r.0, Contains-tail _ _ (enumerate_from (n + 1) ys) r.1)

pub posts : (mail : Mail) (n : ℕ) (out : List Sent) → Posts mail (mail ++ mail_from n out) out
posts mail n out = record {
  old = λ k to m h. Contains-append_left mail (mail_from n out) _ h;
  from = λ k to m h. from k to m (Contains-append_cases mail (mail_from n out) _ h);
  new = λ to m h. let r = numbers_new n out (sent_to to m) h in (r.0, Contains-append_right mail (mail_from n out) _ r.1);
}
  where
    from : (k to : ℕ) (m : Msg) → IsOnItsWay mail k to m ⊎ Contains (mail_from n out) (k, sent_to to m) → IsOnItsWay mail k to m ⊎ Contains out (sent_to to m)
    from k to m (inl h) = inl h
    from k to m (inr h) = inr (number_of n out k (sent_to to m) h).0

-- a number is one element's
pub number_once : {X : Type 0} (n : ℕ) (xs : List X) (k : ℕ) (x y : X) → Contains (enumerate_from n xs) (k, x) → Contains (enumerate_from n xs) (k, y) → x ≡ y
number_once n [] k x y h g = absurd (nothing _ h)
number_once {X} n (z ∷ zs) k x y h g = go (Contains-cons_cases _ _ (enumerate_from (n + 1) zs) h) (Contains-cons_cases _ _ (enumerate_from (n + 1) zs) g) (λ a b. number_once (n + 1) zs k x y a b)
  where
    go : (◌≡◌ {A = ℕ × X} (n, z) (k, x)) ⊎ Contains (enumerate_from (n + 1) zs) (k, x) → (◌≡◌ {A = ℕ × X} (n, z) (k, y)) ⊎ Contains (enumerate_from (n + 1) zs) (k, y) →
        (Contains (enumerate_from (n + 1) zs) (k, x) → Contains (enumerate_from (n + 1) zs) (k, y) → x ≡ y) → x ≡ y
    go (inl e) (inl f) ih = sym (ap (λ (p : ℕ × X). p.1) e) ∙ ap (λ (p : ℕ × X). p.1) f
    go (inr q) (inr r) ih = ih q r
    go (inl e) (inr r) ih = let place : n ≡ k = ap (λ (p : ℕ × X). p.0) e in let up = (number_of (n + 1) zs k y r).1 in absurd (omega (arith, place, up))
    go (inr q) (inl f) ih = let place : n ≡ k = ap (λ (p : ℕ × X). p.0) f in let up = (number_of (n + 1) zs k x q).1 in absurd (omega (arith, place, up))

pub new_number : (mail : Mail) (n : ℕ) (out : List Sent) (to : ℕ) (m : Msg) → Contains out (sent_to to m) → (k : ℕ) × IsOnItsWay (mail ++ mail_from n out) k to m × (n ≤ k)
new_number mail n out to m h =
    let r = numbers_new n out (sent_to to m) h in
    (r.0, Contains-append_right mail (mail_from n out) _ r.1, (number_of n out r.0 (sent_to to m) r.1).1)

-- with the numbers of the new ones
pub from_number : (mail : Mail) (n : ℕ) (out : List Sent) (k to : ℕ) (m : Msg) → IsOnItsWay (mail ++ mail_from n out) k to m →
    IsOnItsWay mail k to m ⊎ (Contains out (sent_to to m) × (n ≤ k) × (k < n + length out))
from_number mail n out k to m h = go (Contains-append_cases mail (mail_from n out) _ h)
  where
    go : IsOnItsWay mail k to m ⊎ Contains (mail_from n out) (k, sent_to to m) → IsOnItsWay mail k to m ⊎ (Contains out (sent_to to m) × (n ≤ k) × (k < n + length out))
    go (inl q) = inl q
    go (inr q) = inr (number_of n out k (sent_to to m) q)

pub gone : (k : ℕ) (mail : Mail) → Gone k mail (without_number k mail)
gone k mail = record {
  old = λ l to m h. let d = filter_from (λ (q : ℕ × Sent). not (k == q.0)) mail (l, sent_to to m) h in (d.0, λ e. not_same l e d.1);
  kept = λ l to m h other. filter_kept (λ (q : ℕ × Sent). not (k == q.0)) mail (l, sent_to to m) h (same_not l other);
}
  where
    not_same : (l : ℕ) → l ≡ k → not (k == l) ≡ true → ⊥
    not_same l e q = let yes : (k == l) ≡ true = (nat_decides k l).1 (sym e) in let no : not true ≡ true = subst (λ (b : Bool). not b ≡ true) yes q in cc

    same_not : (l : ℕ) → l ≢ k → not (k == l) ≡ true
    same_not l other = go (k == l) refl
      where
        go : (b : Bool) → (k == l) ≡ b → not b ≡ true
        go true e = absurd (other (sym ((nat_decides k l).0 e)))
        go false e = refl

-- ---- deeds one after another

pub same_world : (f g : ℕ → Site) (a b : ℕ) (m o : Mail) (x y : List (List ℕ)) → f ≡ g → a ≡ b → m ≡ o → x ≡ y →
    ◌≡◌ {A = World} (record { sites = f; sent = a; mail = m; lines = x }) (record { sites = g; sent = b; mail = o; lines = y })
same_world f g a b m o x y p q r s = rw (p, q, r, s) refl

pub acts_after : (w : World) (i : ℕ) (d e : Transition) → after_transition w i (sequence d e) ≡ after_transition (after_transition w i d) i e
acts_after w i d e = same_world _ _ _ _ _ _ _ _ (sym (at_twice w.sites i d.site e.site)) sums mails (sym (append_assoc w.lines d.lines e.lines))
  where
    sums : w.sent + length (d.sent ++ e.sent) ≡ w.sent + length d.sent + length e.sent
    sums = let l : length (d.sent ++ e.sent) ≡ length d.sent + length e.sent = length-append d.sent e.sent in omega arith

    mails : w.mail ++ mail_from w.sent (d.sent ++ e.sent) ≡ (w.mail ++ mail_from w.sent d.sent) ++ mail_from (w.sent + length d.sent) e.sent
    mails = ap (λ (ms : Mail). w.mail ++ ms) (numbered_append w.sent d.sent e.sent) ∙ sym (append_assoc w.mail (mail_from w.sent d.sent) (mail_from (w.sent + length d.sent) e.sent))
