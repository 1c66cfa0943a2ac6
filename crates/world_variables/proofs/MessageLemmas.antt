-- The rows of delivered messages on variables and threads: the parts.
use Rattle.std.proofs.Common.{arith, ◌≡◌, ◌∙◌, sym, refl, subst, ℕ, ◌+◌, ◌<◌, ◌≤◌, List, ◌++◌, ◌⊎◌, inl, inr, Bool, true, false, Some, None, append-nil, length}
use Rattle.std.specs.Prelude.{Option, Contains, ◌≢◌, is_some, IsTrue}
use Rattle.tree_node.specs.declared.names.VarName.{VarName}
use Rattle.tree_node.specs.declared.names.ThreadName.{ThreadName}
use Rattle.tree_node.specs.declared.names.CodeId.{CodeId}
use Rattle.tree_node.specs.declared.names.Name.{Name}
use Rattle.tree_node.specs.declared.names.Name.TheVariants as name
use Rattle.tree_node.specs.declared.node.Term.{Term}
use Rattle.tree_node.specs.Each.{Each}
use Rattle.tree_node.specs.Names.{EachOfEquation}
use Rattle.tree_node.specs.Order.{IsLower}
use Rattle.tree_node.specs.State.{State}
use Rattle.tree_node.specs.Store.{Store, Equation, IsSound}
use Rattle.tree_node.proofs.ClassLemmas.{Contains-head}
use Rattle.kernel_syntax.specs.declared.stmt.Stmt.{Stmt}
use Rattle.kernel_syntax.specs.Free.{free}
use Rattle.site_message.specs.declared.message.Msg.{Msg}
use Rattle.site_message.specs.declared.message.Msg.TheVariants as msg
use Rattle.oz_model.specs.Run.{IsRun}
use Rattle.oz_model.specs.Laws.{nobody}
use Rattle.oz_model.proofs.ClosureLemmas.{for_names}
use Rattle.bind_protocol.specs.Records.{knowledge, IsKnown, is_own}
use Rattle.site_model.specs.Site.{Site}
use Rattle.site_model.specs.Transition.{Transition, without_output, with_pick, and_then}
use Rattle.site_model.specs.Variables.{with_new_equation, with_known_equation, own_bind}
use Rattle.site_model.specs.Messages.{with_thread, birth, register_row, bind_pick, bind_request_row}
use Rattle.site_model.specs.Fit as Fit
use Rattle.world_model.specs.World.{World, Sites, Mail, IsOnItsWay, put, after_transition, after_receipt, mail_from, without_number, eqs, records, threads, counters}
use Rattle.world_model.specs.Names.{IsHere, IsMade}
use Rattle.world_model.specs.Matches.{IsBound, IsNumbered, PartsMatch}
use Rattle.world_model.proofs.PutLemmas.{at_here, at_own, nat_decides}
use Rattle.world_model.proofs.MailLemmas.{sent_to, from_number}
use Rattle.world_variables.proofs.TellLemmas.{with_equation, learnt_parts}
use Rattle.world_variables.proofs.RegisterLemmas.{MayGo, parts_gone, register_parts}
use Rattle.world_variables.proofs.StepLemmas.{land_parts}
use Rattle.world_variables.proofs.RowLemmas.{to_put, bind_row}
use Rattle.world_variables.proofs.AcceptLemmas.{asked_is_step}
use Rattle.world_variables.specs.Laws.{PartsIn}
use Rattle.bind_protocol.proofs.LearnLemmas.{binding_learns}

-- a site is told an equation of another site's variable
pub told_parts : (p : List Stmt) (here : ℕ → Name → Type 0) (w : World) (c : State) (i : ℕ) (x : VarName) (t : Term) → PartsIn p here w c → x.site ≢ i → Contains c.equations (x, t) → EachOfEquation (here i) (x, t) → IsMade (counters w.sites) (name.Var x) →
    PartsIn p here (record w { sites = put w.sites i (with_known_equation (w.sites i) x t) }) c × (knowledge (records (put w.sites i (with_known_equation (w.sites i) x t)) i) x ≡ Some None → ⊥)
told_parts p here w c i x t h far has names real = go (knowledge (w.sites i).records x) refl
  where
    other : is_own (w.sites i).records x ≡ false
    other = flag (is_own (w.sites i).records x) refl
      where
        flag : (b : Bool) → is_own (w.sites i).records x ≡ b → is_own (w.sites i).records x ≡ false
        flag true q = absurd (far ((nat_decides x.site (w.sites i).records.site).0 q ∙ (h.kept i).site))
        flag false q = q

    Goal : Type 0
    Goal = PartsIn p here (record w { sites = put w.sites i (with_known_equation (w.sites i) x t) }) c × (knowledge (records (put w.sites i (with_known_equation (w.sites i) x t)) i) x ≡ Some None → ⊥)

    learns : ((r : Term) → knowledge (w.sites i).records x ≢ Some (Some r)) → with_known_equation (w.sites i) x t ≡ with_new_equation (w.sites i) x t → Goal
    learns unknown is = rw is (
      to_put p here w.sites i (with_new_equation (w.sites i) x t) w.mail c (rw (at_own (counters w.sites) i) (learnt_parts p here (eqs w.sites) (records w.sites) (threads w.sites) (counters w.sites) w.mail c h i x t far unknown has names real)),
      (λ q. bad (subst (λ (s : Site). knowledge s.records x ≡ Some None) (at_here w.sites i (with_new_equation (w.sites i) x t)) q)),
    )
      where
        bad : knowledge (with_new_equation (w.sites i) x t).records x ≡ Some None → ⊥
        bad q =
            let l = binding_learns (w.sites i).records x t (λ e. far (e ∙ (h.kept i).site)) in
            let both : Some (Some t) ≡ Some None = sym l.here ∙ q in cc

    go : (o : Option (Option Term)) → knowledge (w.sites i).records x ≡ o → Goal
    go None e = learns (λ r q. let both : None ≡ Some (Some r) = sym e ∙ q in cc) (rw (e, other) refl)
    go (Some None) e = learns (λ r q. let both : Some None ≡ Some (Some r) = sym e ∙ q in cc) (rw (e, other) refl)
    go (Some (Some r)) e =
        let is : with_known_equation (w.sites i) x t ≡ w.sites i = rw (e, other) refl in
        rw is (
          to_put p here w.sites i (w.sites i) w.mail c (rw (at_own (eqs w.sites) i, at_own (records w.sites) i, at_own (threads w.sites) i, at_own (counters w.sites) i) h),
          (λ q. let now = subst (λ (s : Site). knowledge s.records x ≡ Some None) (at_here w.sites i (w.sites i)) q in let both : Some (Some r) ≡ Some None = sym e ∙ now in cc),
        )

-- the parts of the world without message k
pub gone_row : (p : List Stmt) (here : ℕ → Name → Type 0) (w : World) (c : State) (k : ℕ) → MayGo (records w.sites) c.equations k w.mail (without_number k w.mail) → PartsIn p here w c → PartsIn p here (after_receipt (Some k) w) c
gone_row p here w c k may h = parts_gone p here (eqs w.sites) (records w.sites) (threads w.sites) (counters w.sites) w.mail c h k may

-- what a message does, and that it has come
abbrev pub Taken : List Stmt → (ℕ → Name → Type 0) → World → State → ℕ → ℕ → Transition → Type 0
Taken p here w c k i d = (c2 : State) × IsRun p c d.picks c2 × PartsIn p here (after_receipt (Some k) (after_transition w i d)) c2

module _ (p : List Stmt) (here : ℕ → Name → Type 0) (w : World) (c : State) (k i : ℕ) (h : PartsIn p here w c) (numbers : IsNumbered w.sent w.mail) (real : i ≢ 0) where
  -- Spawn
  pub spawn_row : (n : ThreadName) (code : CodeId) (vars : List VarName) (bundle : List Equation) → IsOnItsWay w.mail k i (msg.Spawn n code vars bundle) → here i (name.Var nobody) → Each (λ (x : VarName). here i (name.Var x)) vars →
      Taken p here w c k i (without_output (with_thread p (Some (birth n code vars)) (w.sites i)))
  spawn_row n code vars bundle at nob names = (
    c,
    refl,
    subst (λ (m : Mail). PartsMatch p here (eqs g) (records g) (threads g) (counters g) (without_number k m) c) (sym (append-nil w.mail))
        (to_put p here w.sites i (with_thread p (Some (birth n code vars)) (w.sites i)) (without_number k w.mail) c
        (rw (at_own (eqs w.sites) i, at_own (records w.sites) i, at_own (counters w.sites) i)
        (land_parts p here (eqs w.sites) (records w.sites) (threads w.sites) (counters w.sites) w.mail c h k i n code vars bundle _ at (λ a b m o q r. numbers.once k a b m o q r) refl (for_names (here i) (free p code) vars names, tt)))),
  )
    where
      g : Sites
      g = put w.sites i (with_thread p (Some (birth n code vars)) (w.sites i))

  -- Register
  pub register_kept : (limit : ℕ) (x : VarName) (o : ℕ) → IsOnItsWay w.mail k i (msg.Register x o) → Taken p here w c k i (register_row limit x o (w.sites i))
  register_kept limit x o at = (
    c,
    refl,
    to_put p here w.sites i (register_row limit x o (w.sites i)).site (without_number k (w.mail ++ mail_from w.sent (register_row limit x o (w.sites i)).sent)) c
        (rw (at_own (eqs w.sites) i, at_own (threads w.sites) i, at_own (counters w.sites) i)
        (register_parts p here (eqs w.sites) (records w.sites) (threads w.sites) (counters w.sites) w.mail c h limit w.sent k i x o real at (λ a b m r q s. numbers.once k a b m r q s) (numbers.below k i _ at))),
  )

  -- nothing changes, and the message may go
  stays_row : MayGo (records w.sites) c.equations k w.mail (without_number k w.mail) → Taken p here w c k i (without_output (w.sites i))
  stays_row may = (
    c,
    refl,
    subst (λ (m : Mail). PartsMatch p here (eqs g) (records g) (threads g) (counters g) (without_number k m) c) (sym (append-nil w.mail))
        (to_put p here w.sites i (w.sites i) (without_number k w.mail) c (rw (at_own (eqs w.sites) i, at_own (records w.sites) i, at_own (threads w.sites) i, at_own (counters w.sites) i) (gone_row p here w c k may h))),
  )
    where
      g : Sites
      g = put w.sites i (w.sites i)

  -- BindReq
  pub request_kept : (limit : ℕ) (x : VarName) (t : Term) (n : ThreadName) (bundle : List Equation) → IsSound c.equations → IsOnItsWay w.mail k i (msg.BindReq x n t bundle) → EachOfEquation (here i) (x, t) →
      Taken p here w c k i (bind_request_row limit x t n (w.sites i))
  request_kept limit x t n bundle sound at names = go (knowledge (w.sites i).records x) refl
    where
      own : x.site ≡ i
      own = sym (h.addressed k i _ at).0

      said : Fit.EachOfMsg (IsMade (counters w.sites)) (msg.BindReq x n t bundle)
      said = h.said k i _ at

      is_it : (m : Mail) (to : ℕ) (o : Msg) → (IsOnItsWay m k to o → IsOnItsWay w.mail k to o) → IsOnItsWay m k to o → o ≡ msg.BindReq x n t bundle
      is_it m to o back q = (numbers.once k to i o _ (back q) at).1

      known : IsKnown (records w.sites i) x
      known = go (h.addressed k i _ at).1
        where
          go : IsHere (records w.sites x.site) x → IsKnown (records w.sites i) x
          go (inl zero) = absurd (real (sym own ∙ zero))
          go (inr q) = subst (λ (j : ℕ). IsKnown (records w.sites j) x) own q

      may : (g : Sites) (m : Mail) (e : Store) → IsBound e x → ((to : ℕ) (o : Msg) → IsOnItsWay m k to o → IsOnItsWay w.mail k to o) → MayGo (records g) e k m (without_number k m)
      may g m e bound back = record {
        told = λ to o q j y unbound far why. absurd (other o (is_it m to o (back to o) q) j y why);
        bound = λ to y u o bs q. let is = is_it m to _ (back to _) q in let var : y ≡ x = cc in subst (λ (z : VarName). IsBound e z) (sym var) bound;
        none = λ to o code vars bs q. let is = is_it m to _ (back to _) q in cc;
      }
        where
          other : {to : ℕ} (m : Msg) → m ≡ msg.BindReq x n t bundle → (j : ℕ) (y : VarName) → ((m ≡ msg.Register y j) ⊎ ((to ≡ j) × ((u : Term) × (bs : List Equation) × (m ≡ msg.Binding y u bs)))) → ⊥
          other m e j y (inl q) = let both : msg.BindReq x n t bundle ≡ msg.Register y j = sym e ∙ q in cc
          other m e j y (inr (s, (u, bs, q))) = let both : msg.BindReq x n t bundle ≡ msg.Binding y u bs = sym e ∙ q in cc

      go : (o : Option (Option Term)) → knowledge (w.sites i).records x ≡ o → Taken p here w c k i (bind_request_row limit x t n (w.sites i))
      go None e = absurd (missing (knowledge (w.sites i).records x) e known)
        where
          missing : (o : Option (Option Term)) → o ≡ None → IsTrue (is_some o) → ⊥
          missing None e q = cc
          missing (Some o) e q = cc
      go (Some (Some r)) e = rw e (stays_row (may w.sites w.mail c.equations (r, h.knowledge.known i (x, r) ((h.kept i).bound x r e)) (λ to o q. q)))
      go (Some None) e = rw e (accept)
        where
          unbound : knowledge (records w.sites x.site) x ≡ Some None
          unbound = subst (λ (j : ℕ). knowledge (records w.sites j) x ≡ Some None) (sym own) e

          low : IsLower t x
          low = (h.addressed k i _ at).2

          v : World
          v = after_transition w i (own_bind limit x t (w.sites i))

          bound : PartsIn p here v (with_equation c x t)
          bound = bind_row p here w c limit i x t own (λ zero. real (sym own ∙ zero)) e low names (said.0, said.2) h

          old : (to : ℕ) (o : Msg) → IsOnItsWay v.mail k to o → IsOnItsWay w.mail k to o
          old to o q = split (from_number w.mail w.sent (own_bind limit x t (w.sites i)).sent k to o q)
            where
              split : IsOnItsWay w.mail k to o ⊎ (Contains (own_bind limit x t (w.sites i)).sent (sent_to to o) × (w.sent ≤ k) × (k < w.sent + length (own_bind limit x t (w.sites i)).sent)) → IsOnItsWay w.mail k to o
              split (inl r) = r
              split (inr r) = absurd (omega (arith, r.1, numbers.below k i _ at))

          accept : Taken p here w c k i (and_then (with_pick (w.sites i) (bind_pick n x t)) (own_bind limit x t))
          accept = (
            with_equation c x t,
            (with_equation c x t, asked_is_step p here (eqs w.sites) (records w.sites) (threads w.sites) (counters w.sites) w.mail c h k i x t n bundle sound at unbound, refl),
            gone_row p here v (with_equation c x t) k (may v.sites v.mail (with_equation c x t).equations (t, Contains-head _ c.equations) old) bound,
          )

  -- Binding
  pub binding_row : (x : VarName) (t : Term) (bundle : List Equation) → x.site ≢ i → IsOnItsWay w.mail k i (msg.Binding x t bundle) → EachOfEquation (here i) (x, t) → Taken p here w c k i (without_output (with_known_equation (w.sites i) x t))
  binding_row x t bundle far at names = (c, refl, subst (λ (m : Mail). PartsMatch p here (eqs g) (records g) (threads g) (counters g) (without_number k m) c) (sym (append-nil w.mail)) new)
    where
      g : Sites
      g = put w.sites i (with_known_equation (w.sites i) x t)

      v : World
      v = record { sites = g; sent = w.sent; mail = w.mail; lines = w.lines }

      has : Contains c.equations (x, t)
      has = (h.knowledge.told k i _ at).0

      -- the site knows it bound afterwards
      after : PartsIn p here v c × ((q : knowledge (records g i) x ≡ Some None) → ⊥)
      after = told_parts p here w c i x t h far has names (h.said k i _ at).0

      new : PartsIn p here (after_receipt (Some k) v) c
      new = gone_row p here v c k (record {
        told = λ to m q j y unbound other why. absurd (bad to m ((numbers.once k to i m _ q at).1) (numbers.once k to i m _ q at).0 j y unbound why);
        bound = λ to y u o bs q. let e = (numbers.once k to i _ _ q at).1 in cc;
        none = λ to o code vars bs q. let e = (numbers.once k to i _ _ q at).1 in cc;
      }) after.0
        where
          bad : (to : ℕ) (m : Msg) → m ≡ msg.Binding x t bundle → to ≡ i → (j : ℕ) (y : VarName) → knowledge (records g j) y ≡ Some None → ((m ≡ msg.Register y j) ⊎ ((to ≡ j) × ((u : Term) × (bs : List Equation) × (m ≡ msg.Binding y u bs)))) → ⊥
          bad to m e site j y unbound (inl q) = let both : msg.Binding x t bundle ≡ msg.Register y j = sym e ∙ q in cc
          bad to m e site j y unbound (inr (s, (u, bs, q))) =
              let both : msg.Binding x t bundle ≡ msg.Binding y u bs = sym e ∙ q in
              let var : x ≡ y = cc in
              let place : i ≡ j = sym site ∙ s in
              after.1 (subst (λ (o : ℕ). knowledge (records g o) x ≡ Some None) (sym place) (subst (λ (z : VarName). knowledge (records g j) z ≡ Some None) (sym var) unbound))
