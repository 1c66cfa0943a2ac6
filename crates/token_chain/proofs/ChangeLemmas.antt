-- How messages and holdings change, and what of a chain stays where they do not.
use Rattle.std.proofs.Common.{rules, ◌≡◌, ◌≢◌, ◌∙◌, sym, ap, refl, subst, ℕ, List, ◌⊎◌, inl, inr}
use Rattle.std.specs.Prelude.{Bool, true, false, ◌==◌}
use Rattle.std.specs.Bool.{Decides}
use Rattle.tree_node.specs.declared.names.VarName.{VarName}
use Rattle.token_chain.specs.declared.token.Token.TheVariants.{Away, Asked, Here}
use Rattle.token_chain.specs.Holding.{Holding}
use Rattle.token_chain.specs.Mail.{Mail, Get, Forward, Put, equal_mail}
use Rattle.token_chain.specs.Chain.{IsOn, IsFirst, IsNext, HasToken, HasSuccessor, IsDue, IsChain}
use Rattle.token_chain.proofs.ListLemmas.{on_cases}
use Rattle.std.proofs.lemmas.Bool.Decides.{Decides-eqb}

-- the only one of a message is gone, and this one is under way once
pub record Moves (a b : Mail) (before after : Mail → ℕ) : Type 0 where
  pub gone : after a ≡ 0
  pub sent : after b ≡ 1
  pub others : (k : Mail) → k ≢ a → k ≢ b → after k ≡ before k

-- the only one of a message is gone
pub record Goes (a : Mail) (before after : Mail → ℕ) : Type 0 where
  pub gone : after a ≡ 0
  pub others : (k : Mail) → k ≢ a → after k ≡ before k

-- a message is under way once that was not
pub record Comes (b : Mail) (before after : Mail → ℕ) : Type 0 where
  pub sent : after b ≡ 1
  pub others : (k : Mail) → k ≢ b → after k ≡ before k

-- what the other sites keep stays
pub record IsPut (s : ℕ) (h : Holding) (at to : ℕ → Holding) : Type 0 where
  pub here : to s ≡ h
  pub others : (r : ℕ) → r ≢ s → to r ≡ at r

-- ---- cases

pub same_mail_decides : (a b : Mail) → Decides (equal_mail a b) (a ≡ b)
same_mail_decides a b = search rules

decided : {P : Type 0} (b : Bool) → Decides b P → P ⊎ (P → ⊥)
decided true d = inl (d.0 refl)
decided {P} false d = inr (λ p. let e : false ≡ true = d.1 p in absurd (cc))

pub mail_or : (a b : Mail) → (a ≡ b) ⊎ (a ≢ b)
mail_or a b = decided (equal_mail a b) (same_mail_decides a b)

pub number_or : (a b : ℕ) → (a ≡ b) ⊎ (a ≢ b)
number_or a b = decided (a == b) (Decides-eqb a b)

-- a fact about every site: at the one that changed, and at the others
pub every : (P : ℕ → Type 0) (s : ℕ) → P s → ((r : ℕ) → r ≢ s → P r) → (r : ℕ) → P r
every P s here others r = go (number_or r s)
  where
    go : (r ≡ s) ⊎ (r ≢ s) → P r
    go (inl e) = subst P (sym e) here
    go (inr d) = others r d

-- ---- what stays where a site keeps what it had

pub token_of : (a b : Holding) → a ≡ b → a.token ≡ b.token
token_of a b e = ap (λ (h : Holding). h.token) e

pub next_of : (a b : Holding) → a ≡ b → a.next ≡ b.next
next_of a b e = ap (λ (h : Holding). h.next) e

pub token_kept : (at to : ℕ → Holding) (v : VarName) (n m : Mail → ℕ) (h : ℕ) → to h ≡ at h → m (Put h v) ≡ n (Put h v) → HasToken at n v h → HasToken to m v h
token_kept at to v n m h e p (inl k) = inl (e ∙ k)
token_kept at to v n m h e p (inr k) = inr (token_of _ _ e ∙ k.0, p ∙ k.1)

pub told_kept : (at to : ℕ → Holding) (n m : Mail → ℕ) (a b : ℕ) → to a ≡ at a → m (Forward a b) ≡ n (Forward a b) → HasSuccessor at n a b → HasSuccessor to m a b
told_kept at to n m a b e p (inl k) = inl (next_of _ _ e ∙ k)
told_kept at to n m a b e p (inr k) = inr (next_of _ _ e ∙ k.0, p ∙ k.1)

-- the site that a message comes from or goes to
abbrev pub party : Mail → ℕ
party (Get s) = s
party (Forward a b) = a
party (Put h v) = h

pub due_kept : (at to : ℕ → Holding) (hs : List ℕ) (v : VarName) (k : Mail) → to (party k) ≡ at (party k) → IsDue at hs v k → IsDue to hs v k
due_kept at to hs v (Get s) e d = (token_of _ _ e ∙ d.0, next_of _ _ e ∙ d.1, d.2)
due_kept at to hs v (Forward a b) e d = (d.0, next_of _ _ e ∙ d.1)
due_kept at to hs v (Put h w) e d = (d.0, token_of _ _ e ∙ d.1, d.2)

-- ---- what a chain says

pub first_used : (at : ℕ → Holding) (n : Mail → ℕ) (v : VarName) (h : ℕ) → HasToken at n v h → (at h).token ≢ Away
first_used at n v h (inl e) d = let f : (at h).token ≡ Here v = token_of _ _ e in cc
first_used at n v h (inr e) d = cc

-- a site in the chain has the token or asked for it
pub on_used : (last : ℕ) (at : ℕ → Holding) (n : Mail → ℕ) (hs : List ℕ) (v : VarName) → IsChain last at n hs v → (s : ℕ) → IsOn hs s → (at s).token ≢ Away
on_used last at n hs v c s on d = go (on_cases hs s on)
  where
    go : IsFirst hs s ⊎ ((a : ℕ) × IsNext hs a s) → ⊥
    go (inl f) = first_used at n v s (c.first s f) d
    go (inr k) = let e : (at s).token ≡ Asked = c.behind k.0 s k.1 in cc

-- a message that is under way has its reason
pub due_at : (last : ℕ) (at : ℕ → Holding) (n : Mail → ℕ) (hs : List ℕ) (v : VarName) → IsChain last at n hs v → (k : Mail) → n k ≢ 0 → IsDue at hs v k
due_at last at n hs v c k d = go (c.due k)
  where
    go : (n k ≡ 0) ⊎ ((n k ≡ 1) × IsDue at hs v k) → IsDue at hs v k
    go (inl e) = absurd (d e)
    go (inr e) = e.1

pub not_due : (last : ℕ) (at : ℕ → Holding) (n : Mail → ℕ) (hs : List ℕ) (v : VarName) → IsChain last at n hs v → (k : Mail) → (IsDue at hs v k → ⊥) → n k ≡ 0
not_due last at n hs v c k d = go (c.due k)
  where
    go : (n k ≡ 0) ⊎ ((n k ≡ 1) × IsDue at hs v k) → n k ≡ 0
    go (inl e) = e
    go (inr e) = absurd (d e.1)
