-- What requests, answers and the news of a cell may say.
use Rattle.std.proofs.Common.{◌≡◌, sym, ap, refl, subst, ℕ, List, [], ◌∷◌, ◌⊎◌, inl, inr, None}
use Rattle.std.specs.Prelude.{Contains}
use Rattle.tree_node.specs.declared.names.VarName.{VarName}
use Rattle.tree_node.specs.declared.names.CellName.{CellName}
use Rattle.tree_node.specs.declared.names.ThreadName.{ThreadName}
use Rattle.tree_node.specs.declared.names.Name.{Name}
use Rattle.tree_node.specs.declared.names.Name.TheVariants as name
use Rattle.tree_node.specs.Each.{Each}
use Rattle.tree_node.specs.Names.{EachOfEquation, EachOfStack}
use Rattle.tree_node.specs.State.{Stack}
use Rattle.tree_node.specs.Store.{Store, Equation}
use Rattle.tree_node.proofs.ClassLemmas.{Contains-cons_cases}
use Rattle.kernel_syntax.specs.declared.stmt.Stmt.{Stmt}
use Rattle.site_message.specs.declared.message.Msg.{Msg}
use Rattle.site_message.specs.declared.message.Msg.TheVariants as msg
use Rattle.site_message.specs.declared.message.Sent.{Sent}
use Rattle.oz_model.specs.EffectNames.{EachOfChange, EachOfPortChange}
use Rattle.oz_model.specs.Laws.{nobody}
use Rattle.oz_model.specs.Need.{Need, kinds_of}
use Rattle.oz_model.specs.Step.{AreOfKinds, IsBindFor}
use Rattle.oz_model.proofs.EffectNames.{stack_effect_names}
use Rattle.bind_protocol.specs.Records.{Records}
use Rattle.site_model.specs.Bundle.{bundle_of, message_bundle, with_own_bundle}
use Rattle.site_model.specs.Fit as Fit
use Rattle.site_model.specs.Requests.{Answer, NewEnd, OldContent}
use Rattle.site_model.specs.Site.{Threads, Counters}
use Rattle.world_model.specs.Claims.{Asking, EndOf, ContentOf, Asks, request, answer}
use Rattle.world_model.specs.Matches.{equations_in, IsAddressed}
use Rattle.world_model.specs.Names.{IsMade}
use Rattle.world_model.proofs.MailLemmas.{nothing, sent_to}
use Rattle.world_variables.proofs.RegisterLemmas.{MaySend}
use Rattle.world_cells.specs.Standing.{IsStanding}
use Rattle.world_answers.proofs.PackLemmas.{IsOfKeepers}

-- ---- bundles

pub request_filled : (limit : ℕ) (s : Store) (to : ℕ) (a : Asking) (n : ThreadName) (k : ℕ) → with_own_bundle limit s (sent_to to (request a n k [])) ≡ sent_to to (request a n k (bundle_of limit s (request a n k [])))
request_filled limit s to (EndOf q) n k = refl
request_filled limit s to (ContentOf c new) n k = refl

pub answer_filled : (limit : ℕ) (s : Store) (to : ℕ) (n : ThreadName) (x : Answer) → with_own_bundle limit s (sent_to to (answer n x [])) ≡ sent_to to (answer n x (bundle_of limit s (answer n x [])))
answer_filled limit s to n (NewEnd old new) = refl
answer_filled limit s to n (OldContent v) = refl

pub request_bundle : (P : Equation → Type 0) (a : Asking) (n : ThreadName) (k : ℕ) (bundle : List Equation) → Each P bundle → Each P (message_bundle (request a n k bundle))
request_bundle P (EndOf q) n k bundle h = tt
request_bundle P (ContentOf c new) n k bundle h = h

pub answer_bundle : (P : Equation → Type 0) (n : ThreadName) (x : Answer) (bundle : List Equation) → Each P bundle → Each P (message_bundle (answer n x bundle))
answer_bundle P n (NewEnd old new) bundle h = h
answer_bundle P n (OldContent v) bundle h = h

-- ---- what may be sent

module _ (p : List Stmt) (es : ℕ → Store) (rs : ℕ → Records) (ts : ℕ → Threads) (ms : ℕ → Counters) (c : Store) where
  pub keepers_may : (to : ℕ) (x : Msg) → IsOfKeepers x → Each (Contains c) (message_bundle x) → Fit.EachOfMsg (IsMade ms) x → MaySend p es rs ts ms c (sent_to to x ∷ [])
  keepers_may to x keepers told said = record {
    told = λ a m h. subst (λ (y : Msg). Each (Contains c) (equations_in y)) (sym (only a m h)) (equations x keepers told);
    addressed = λ a m h. subst (λ (y : Msg). IsAddressed rs a y) (sym (only a m h)) (address a x keepers);
    said = λ a m h. subst (λ (y : Msg). Fit.EachOfMsg (IsMade ms) y) (sym (only a m h)) said;
    awaited = λ a y t n b h. absurd (keepers (subst IsStanding (only a (msg.BindReq y n t b) h) tt));
    none = λ a n code vars b h. keepers (subst IsStanding (only a (msg.Spawn n code vars b) h) tt);
  }
    where
      only : (a : ℕ) (m : Msg) → Contains (sent_to to x ∷ []) (sent_to a m) → m ≡ x
      only a m h = go (Contains-cons_cases _ _ [] h)
        where
          go : (sent_to to x ≡ sent_to a m) ⊎ Contains [] (sent_to a m) → m ≡ x
          go (inl q) = sym (ap (λ (o : Sent). o.msg) q)
          go (inr q) = absurd (nothing _ q)

      equations : (y : Msg) → IsOfKeepers y → Each (Contains c) (message_bundle y) → Each (Contains c) (equations_in y)
      equations (msg.PortSend q n k) h b = b
      equations (msg.PortEnd n old new bundle) h b = b
      equations (msg.CellMake d v bundle) h b = b
      equations (msg.CellAsk d n k v bundle) h b = b
      equations (msg.CellOld n v bundle) h b = b
      equations (msg.Spawn n code vars bundle) h b = absurd (h tt)
      equations (msg.Register y k) h b = absurd (h tt)
      equations (msg.BindReq y n t bundle) h b = absurd (h tt)
      equations (msg.Binding y t bundle) h b = absurd (h tt)
      equations (msg.Get d k) h b = absurd (h tt)
      equations (msg.Forward d k) h b = absurd (h tt)
      equations (msg.Put d v bundle) h b = absurd (h tt)

      address : (a : ℕ) (y : Msg) → IsOfKeepers y → IsAddressed rs a y
      address a (msg.PortSend q n k) h = tt
      address a (msg.PortEnd n old new bundle) h = tt
      address a (msg.CellMake d v bundle) h = tt
      address a (msg.CellAsk d n k v bundle) h = tt
      address a (msg.CellOld n v bundle) h = tt
      address a (msg.Spawn n code vars bundle) h = absurd (h tt)
      address a (msg.Register y k) h = absurd (h tt)
      address a (msg.BindReq y n t bundle) h = absurd (h tt)
      address a (msg.Binding y t bundle) h = absurd (h tt)
      address a (msg.Get d k) h = absurd (h tt)
      address a (msg.Forward d k) h = absurd (h tt)
      address a (msg.Put d v bundle) h = absurd (h tt)

pub none_sent : (p : List Stmt) (es : ℕ → Store) (rs : ℕ → Records) (ts : ℕ → Threads) (ms : ℕ → Counters) (c : Store) → MaySend p es rs ts ms c []
none_sent p es rs ts ms c = record {
  told = λ to m q. absurd (nothing _ q);
  addressed = λ to m q. absurd (nothing _ q);
  said = λ to m q. absurd (nothing _ q);
  awaited = λ to y t a bundle q. absurd (nothing _ q);
  none = λ to a code vars bundle q. absurd (nothing _ q);
}

-- ---- the names of a request

module _ (P : Name → Type 0) (anon : P (name.Var nobody)) (p : List Stmt) (s : Store) (st : Stack) (all : Each (EachOfEquation P) s) (names : EachOfStack P st) where
  pub content_names : (c : CellName) (new : VarName) → Asks p s st (ContentOf c new) → P (name.Cell c) × P (name.Var new)
  content_names c new (need, told, is) =
      let e = stack_effect_names P anon p s [] None st all names tt (subst (λ (d : Need). AreOfKinds [] (kinds_of d)) (sym need) tt) (subst (λ (d : Need). IsBindFor s d None) (sym need) tt) in
      let f = subst (EachOfChange P) is e.cell in (f.0, f.1)

  pub request_names : (a : Asking) (n : ThreadName) (k : ℕ) (bundle : List Equation) → Asks p s st a → P (name.Thread n) → Each (EachOfEquation P) bundle → Fit.EachOfMsg P (request a n k bundle)
  request_names (EndOf q) n k bundle (need, (value, sends)) h g =
      let e = stack_effect_names P anon p s (name.Var nobody ∷ []) None st all names (anon, tt) (subst (λ (d : Need). AreOfKinds (name.Var nobody ∷ []) (kinds_of d)) (sym need) (tt, tt)) (subst (λ (d : Need). IsBindFor s d None) (sym need) tt) in
      let f = subst (EachOfPortChange P) (sends nobody) e.port in (f.0, h)
  request_names (ContentOf c new) n k bundle asks h g = let f = content_names c new asks in (f.0, h, f.1, g)
