-- What the messages of a reply may say of variables, threads and equations.
use Rattle.std.proofs.Common.{◌≡◌, sym, ap, refl, subst, ℕ, List, [], ◌∷◌, ◌⊎◌, inl, inr, Bool, true, false, cond, Some}
use Rattle.std.specs.Prelude.{Contains}
use Rattle.tree_node.specs.declared.names.VarName.{VarName}
use Rattle.tree_node.specs.declared.names.CellName.{CellName}
use Rattle.tree_node.specs.declared.names.Name.{Name}
use Rattle.tree_node.specs.declared.names.Name.TheVariants as name
use Rattle.tree_node.specs.Assoc.{value_of}
use Rattle.tree_node.specs.Each.{Each}
use Rattle.tree_node.specs.Goal.{equal_cell}
use Rattle.tree_node.specs.Names.{EachOfCell, EachOfEquation}
use Rattle.tree_node.specs.State.{State}
use Rattle.tree_node.specs.Store.{Store, Equation}
use Rattle.tree_node.proofs.ClassLemmas.{Contains-cons_cases, Contains-head}
use Rattle.kernel_syntax.specs.declared.stmt.Stmt.{Stmt}
use Rattle.site_message.specs.declared.message.Msg.{Msg}
use Rattle.site_message.specs.declared.message.Msg.TheVariants as msg
use Rattle.site_message.specs.declared.message.Sent.{Sent}
use Rattle.oz_model.proofs.KindLemmas.{equal_cell_decides}
use Rattle.bind_protocol.specs.Records.{Records}
use Rattle.token_chain.specs.declared.token.Token.TheVariants.{Here}
use Rattle.token_chain.specs.Holding.{Holding}
use Rattle.token_chain.specs.Mail.{Put}
use Rattle.token_chain.specs.Rows.{leave_reply, get_reply, exchange_reply}
use Rattle.site_model.specs.Site.{Threads, Counters}
use Rattle.site_model.specs.Bundle.{bundle_of}
use Rattle.site_model.specs.Fit as Fit
use Rattle.site_model.proofs.BundleLemmas.{bundle_known}
use Rattle.world_model.specs.World.{Mail}
use Rattle.world_model.specs.Names.{IsMade}
use Rattle.world_model.specs.Matches.{PartsMatch, equations_in, IsAddressed}
use Rattle.world_model.proofs.MailLemmas.{nothing, sent_to}
use Rattle.world_variables.proofs.RegisterLemmas.{MaySend}
use Rattle.world_model.proofs.CellLemmas.{letter, letters, leave_each, get_each, request_each}

-- ---- lists

pub cell_named : (P : Name → Type 0) (cells : List (CellName × VarName)) (c : CellName) (v : VarName) → Each (EachOfCell P) cells → value_of equal_cell cells c ≡ Some v → P (name.Cell c) × P (name.Var v)
cell_named P [] c v h e = cc
cell_named P ((d, u) ∷ cells) c v h e = go (equal_cell d c) refl e (λ k. cell_named P cells c v h.1 k)
  where
    go : (b : Bool) → equal_cell d c ≡ b → cond b (Some u) (value_of equal_cell cells c) ≡ Some v → (value_of equal_cell cells c ≡ Some v → P (name.Cell c) × P (name.Var v)) → P (name.Cell c) × P (name.Var v)
    go true q k ih =
        let same : u ≡ v = cc in
        (subst (λ (x : CellName). P (name.Cell x)) ((equal_cell_decides d c).0 q) h.0.0, subst (λ (x : VarName). P (name.Var x)) same h.0.1)
    go false q k ih = ih k

each_has : {X : Type 0} (P : X → Type 0) (xs : List X) → Each P xs → (x : X) → Contains xs x → P x
each_has P [] h x k = absurd (nothing x k)
each_has {X} P (y ∷ xs) h x k = go (Contains-cons_cases _ _ xs k) (λ q. each_has P xs h.1 x q)
  where
    go : (y ≡ x) ⊎ Contains xs x → (Contains xs x → P x) → P x
    go (inl e) ih = subst P e h.0
    go (inr q) ih = ih q

pub each_part : {X : Type 0} (P : X → Type 0) (s : List X) → Each P s → (xs : List X) → Each (Contains s) xs → Each P xs
each_part P s h [] k = tt
each_part P s h (x ∷ xs) k = (each_has P s h x k.0, each_part P s h xs k.1)

pub each_more : (s c : Store) → ((e : Equation) → Contains s e → Contains c e) → (xs : List Equation) → Each (Contains s) xs → Each (Contains c) xs
each_more s c more [] h = tt
each_more s c more (x ∷ xs) h = (more x h.0, each_more s c more xs h.1)

-- ---- what they may say

module _ (p : List Stmt) (es : ℕ → Store) (rs : ℕ → Records) (ts : ℕ → Threads) (ms : ℕ → Counters) (z : State) where
  abbrev Says : Sent → Type 0
  Says o = MaySend p es rs ts ms z.equations (o ∷ [])

  only_one : (to a : ℕ) (x m : Msg) → Contains (sent_to to x ∷ []) (sent_to a m) → m ≡ x
  only_one to a x m h = go (Contains-cons_cases _ _ [] h)
    where
      go : (sent_to to x ≡ sent_to a m) ⊎ Contains [] (sent_to a m) → m ≡ x
      go (inl q) = sym (ap (λ (o : Sent). o.msg) q)
      go (inr q) = absurd (nothing _ q)

  forward_may : (to : ℕ) (c : CellName) (k : ℕ) → IsMade ms (name.Cell c) → Says (sent_to to (msg.Forward c k))
  forward_may to c k was = record {
    told = λ a m h. subst (λ (x : Msg). Each (Contains z.equations) (equations_in x)) (sym (only_one to a (msg.Forward c k) m h)) tt;
    addressed = λ a m h. subst (λ (x : Msg). IsAddressed rs a x) (sym (only_one to a (msg.Forward c k) m h)) tt;
    said = λ a m h. subst (λ (x : Msg). Fit.EachOfMsg (IsMade ms) x) (sym (only_one to a (msg.Forward c k) m h)) was;
    awaited = λ a x t n bundle h. let no = only_one to a (msg.Forward c k) _ h in absurd (cc);
    none = λ a n code vars bundle h. let no = only_one to a (msg.Forward c k) _ h in cc;
  }

  get_may : (to : ℕ) (c : CellName) (k : ℕ) → IsMade ms (name.Cell c) → Says (sent_to to (msg.Get c k))
  get_may to c k was = record {
    told = λ a m h. subst (λ (x : Msg). Each (Contains z.equations) (equations_in x)) (sym (only_one to a (msg.Get c k) m h)) tt;
    addressed = λ a m h. subst (λ (x : Msg). IsAddressed rs a x) (sym (only_one to a (msg.Get c k) m h)) tt;
    said = λ a m h. subst (λ (x : Msg). Fit.EachOfMsg (IsMade ms) x) (sym (only_one to a (msg.Get c k) m h)) was;
    awaited = λ a x t n bundle h. let no = only_one to a (msg.Get c k) _ h in absurd (cc);
    none = λ a n code vars bundle h. let no = only_one to a (msg.Get c k) _ h in cc;
  }

  -- each message of a list may be sent, so the list may
  each_may : (os : List Sent) → Each Says os → MaySend p es rs ts ms z.equations os
  each_may [] h = record {
    told = λ to m q. absurd (nothing _ q);
    addressed = λ to m q. absurd (nothing _ q);
    said = λ to m q. absurd (nothing _ q);
    awaited = λ to x t n bundle q. absurd (nothing _ q);
    none = λ to n code vars bundle q. absurd (nothing _ q);
  }
  each_may (o ∷ os) h = let rest = each_may os h.1 in record {
    told = λ to m q. both (λ k. h.0.told to m k) (λ k. rest.told to m k) (Contains-cons_cases _ _ os q);
    addressed = λ to m q. both (λ k. h.0.addressed to m k) (λ k. rest.addressed to m k) (Contains-cons_cases _ _ os q);
    said = λ to m q. both (λ k. h.0.said to m k) (λ k. rest.said to m k) (Contains-cons_cases _ _ os q);
    awaited = λ to y t a bundle q. both (λ k. h.0.awaited to y t a bundle k) (λ k. rest.awaited to y t a bundle k) (Contains-cons_cases _ _ os q);
    none = λ to a code vars bundle q. both (λ k. h.0.none to a code vars bundle k) (λ k. rest.none to a code vars bundle k) (Contains-cons_cases _ _ os q);
  }
    where
      both : {P : Type 0} {s : Sent} → (Contains (o ∷ []) s → P) → (Contains os s → P) → (o ≡ s) ⊎ Contains os s → P
      both {P} {s} f g (inl e) = f (subst (λ (y : Sent). Contains (o ∷ []) y) e (Contains-head o []))
      both f g (inr k) = g k

-- from a site with equations that are known there, of a cell with this content
module _ (p : List Stmt) (here : ℕ → Name → Type 0) (es : ℕ → Store) (rs : ℕ → Records) (ts : ℕ → Threads) (ms : ℕ → Counters) (mail : Mail) (z : State) (parts : PartsMatch p here es rs ts ms mail z) (limit i : ℕ) (c : CellName) (s : Store) (v : VarName)
    (known : s ≡ es i) (value : value_of equal_cell z.cells c ≡ Some v) where
  abbrev carried : List Equation
  carried = bundle_of limit s (msg.Put c v [])

  named : IsMade ms (name.Cell c) × IsMade ms (name.Var v)
  named = cell_named (IsMade ms) z.cells c v parts.centred.all.1 value

  central : Each (Contains z.equations) carried
  central = each_more s z.equations (λ e h. parts.knowledge.known i e (subst (λ (q : Store). Contains q e) known h)) carried (bundle_known limit s (msg.Put c v []))

  put_may : (to : ℕ) → Says p es rs ts ms z (letter limit c s (Put to v))
  put_may to = record {
    told = λ a m h. subst (λ (x : Msg). Each (Contains z.equations) (equations_in x)) (sym (only a m h)) central;
    addressed = λ a m h. subst (λ (x : Msg). IsAddressed rs a x) (sym (only a m h)) tt;
    said = λ a m h. subst (λ (x : Msg). Fit.EachOfMsg (IsMade ms) x) (sym (only a m h)) (named.0, named.1, each_part (EachOfEquation (IsMade ms)) z.equations parts.centred.all.0 carried central);
    awaited = λ a x t n bundle h. let no = only a _ h in absurd (cc);
    none = λ a n code vars bundle h. let no = only a _ h in cc;
  }
    where
      only : (a : ℕ) (m : Msg) → Contains (letter limit c s (Put to v) ∷ []) (sent_to a m) → m ≡ msg.Put c v carried
      only a m h = only_one p es rs ts ms z to a (msg.Put c v carried) m h

  -- the token that is here has the content
  abbrev HasContent : Holding → Type 0
  HasContent h = (u : VarName) → h.token ≡ Here u → u ≡ v

  puts : (h : Holding) → HasContent h → (k : ℕ) (u : VarName) → h.token ≡ Here u → Says p es rs ts ms z (letter limit c s (Put k u))
  puts h has k u e = subst (λ (x : VarName). Says p es rs ts ms z (letter limit c s (Put k x))) (sym (has u e)) (put_may k)

  pub leave_may : (h : Holding) → HasContent h → MaySend p es rs ts ms z.equations (letters limit c s (leave_reply h).sent)
  leave_may h has = each_may p es rs ts ms z _ (leave_each (Says p es rs ts ms z) limit c s h (puts h has))

  pub reply_may : (manager last k : ℕ) (h : Holding) → HasContent h → MaySend p es rs ts ms z.equations (letters limit c s (get_reply manager last k h).sent)
  reply_may manager last k h has = each_may p es rs ts ms z _ (get_each (Says p es rs ts ms z) limit c s manager last k h (puts h has) (forward_may p es rs ts ms z last c k named.0))

  pub request_may : (manager last k : ℕ) (new : VarName) (h : Holding) → MaySend p es rs ts ms z.equations (letters limit c s (exchange_reply manager last k new h).sent)
  request_may manager last k new h = each_may p es rs ts ms z _ (request_each (Says p es rs ts ms z) limit c s manager last k new h (forward_may p es rs ts ms z last c k named.0) (λ e. get_may p es rs ts ms z c.site c k named.0))
