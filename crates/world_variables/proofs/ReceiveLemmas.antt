-- The whole row of a delivered message on variables or threads.
use Rattle.std.proofs.Common.{arith, ◌≡◌, ◌∙◌, sym, ap, refl, subst, ℕ, List, ◌∷◌, ◌⊎◌, inl, inr, Some, None}
use Rattle.std.specs.Prelude.{Option, Contains, ◌≢◌}
use Rattle.tree_node.specs.declared.names.VarName.{VarName}
use Rattle.tree_node.specs.declared.names.Name.{Name}
use Rattle.tree_node.specs.declared.names.Name.TheVariants as name
use Rattle.tree_node.specs.declared.node.Term.{Term}
use Rattle.tree_node.specs.Each.{Each}
use Rattle.tree_node.specs.Names.{EachOfEquation}
use Rattle.tree_node.specs.State.{State}
use Rattle.tree_node.specs.Store.{IsSound}
use Rattle.kernel_syntax.specs.declared.stmt.Stmt.{Stmt}
use Rattle.site_message.specs.declared.message.Msg.{Msg}
use Rattle.site_message.specs.declared.message.Msg.TheVariants as msg
use Rattle.oz_model.specs.Run.{IsRun}
use Rattle.bind_protocol.specs.Records.{knowledge, IsKnown}
use Rattle.site_model.specs.Site.{Site}
use Rattle.site_model.specs.Bundle.{message_vars, message_bundle}
use Rattle.site_model.specs.Transition.{Transition}
use Rattle.site_model.specs.Variables.{opening}
use Rattle.site_model.specs.Messages.{message_row, reception}
use Rattle.site_model.specs.Messages as Receive
use Rattle.world_model.specs.World.{World, IsOnItsWay, after_transition, after_receipt, mail_from, eqs, records, threads, counters}
use Rattle.world_variables.specs.Plain.{IsPlain}
use Rattle.world_model.specs.Names.{IsHere, IsHereName, here_at}
use Rattle.world_model.specs.Matches.{IsNumbered, IsAddressed}
use Rattle.world_model.proofs.PutLemmas.{at_all, at_here}
use Rattle.world_model.proofs.MailLemmas.{acts_after, sent_to, number_once, number_of}
use Rattle.std.proofs.lemmas.List.Elements.{Contains-append_left, Contains-append_cases}
use Rattle.oz_model.specs.Laws.{nobody}
use Rattle.oz_model.proofs.NameLemmas.{Each-weaker, EachOfTerm-weaker}
use Rattle.site_message.specs.Vars.{vars_of}
use Rattle.site_message.specs.declared.message.Sent.{Sent}
use Rattle.world_variables.proofs.AlikeLemmas.{parts_weaker}
use Rattle.world_variables.proofs.MessageLemmas.{Taken, spawn_row, register_kept, request_kept, binding_row}
use Rattle.world_variables.proofs.OpenLemmas.{told_known, opened_here, Opened, opens_row, term_here}
use Rattle.world_variables.proofs.OwnLemmas.{below_acts}
use Rattle.world_variables.specs.Laws.{IsForeignBinding, PartsIn}
use Rattle.kernel_syntax.proofs.PreorderLemmas.{each_left}
use Rattle.bind_protocol.proofs.LearnLemmas.{registers_is, ask_known}

-- a Register is for the site's own variable
abbrev pub IsAtOwner : ℕ → Msg → Type 0
IsAtOwner i (msg.Register x k) = i ≡ x.site
IsAtOwner i _ = Unit {0}

-- what is known stays known
pub takes_known : (p : List Stmt) (limit i : ℕ) (m : Msg) (s : Site) → IsPlain m → s.records.site ≡ i → IsAtOwner i m → (y : VarName) → IsKnown s.records y → IsKnown (message_row p limit m s).site.records y
takes_known p limit i (msg.Spawn n code vars bundle) s plain own at y h = h
takes_known p limit i (msg.Register x k) s plain own at y h = rw ((registers_is s.records x k (sym at ∙ sym own)).same y) h
takes_known p limit i (msg.Binding x t bundle) s plain own at y h = told_known s x t y h
takes_known p limit i (msg.BindReq x n t bundle) s plain own at y h = go (knowledge s.records x)
  where
    go : (o : Option (Option Term)) → IsKnown (Receive.bind_request_as o limit x t n s).site.records y
    go None = h
    go (Some None) = ask_known s.records x t y h
    go (Some (Some r)) = h
takes_known p limit i (msg.Get c k) s plain own at y h = absurd plain
takes_known p limit i (msg.Forward c k) s plain own at y h = absurd plain
takes_known p limit i (msg.Put c v bundle) s plain own at y h = absurd plain
takes_known p limit i (msg.PortSend q n k) s plain own at y h = absurd plain
takes_known p limit i (msg.PortEnd n old new bundle) s plain own at y h = absurd plain
takes_known p limit i (msg.CellMake c v bundle) s plain own at y h = absurd plain
takes_known p limit i (msg.CellAsk c n k v bundle) s plain own at y h = absurd plain
takes_known p limit i (msg.CellOld n v bundle) s plain own at y h = absurd plain

-- numbers stay numbers of one message
pub numbered_acts : (w : World) (i : ℕ) (d : Transition) → IsNumbered w.sent w.mail → IsNumbered (after_transition w i d).sent (after_transition w i d).mail
numbered_acts w i d h = record {
  below = below_acts w i d h.below;
  once = λ k a b m o q r. go k a b m o (Contains-append_cases w.mail (mail_from w.sent d.sent) _ q) (Contains-append_cases w.mail (mail_from w.sent d.sent) _ r);
}
  where
    go : (k a b : ℕ) (m o : Msg) → IsOnItsWay w.mail k a m ⊎ IsOnItsWay (mail_from w.sent d.sent) k a m → IsOnItsWay w.mail k b o ⊎ IsOnItsWay (mail_from w.sent d.sent) k b o → (a ≡ b) × (m ≡ o)
    go k a b m o (inl q) (inl r) = h.once k a b m o q r
    go k a b m o (inr q) (inr r) = let e = number_once w.sent d.sent k (sent_to a m) (sent_to b o) q r in (ap (λ (x : Sent). x.to) e, ap (λ (x : Sent). x.msg) e)
    go k a b m o (inl q) (inr r) = absurd (omega (arith, h.below k a m q, (number_of w.sent d.sent k (sent_to b o) r).1))
    go k a b m o (inr q) (inl r) = absurd (omega (arith, h.below k b o r, (number_of w.sent d.sent k (sent_to a m) q).1))

-- what the message tells is here once it is opened
pub takes_row : (p : List Stmt) (here : ℕ → Name → Type 0) (w : World) (c : State) (limit k i : ℕ) (m : Msg) → PartsIn p here w c → IsNumbered w.sent w.mail → i ≢ 0 → IsSound c.equations → IsPlain m → IsForeignBinding i m → IsOnItsWay w.mail k i m →
    here i (name.Var nobody) → Each (λ (x : VarName). here i (name.Var x)) (message_vars m) → ((x : VarName) (t : Term) → Each (λ (y : VarName). here i (name.Var y)) (x ∷ vars_of t) → EachOfEquation (here i) (x, t)) → Taken p here w c k i (message_row p limit m (w.sites i))
takes_row p here w c limit k i (msg.Spawn n code vars bundle) h numbers real sound plain far at nob names term = spawn_row p here w c k i h numbers real n code vars bundle at nob (each_left _ vars _ names)
takes_row p here w c limit k i (msg.Register x o) h numbers real sound plain far at nob names term = register_kept p here w c k i h numbers real limit x o at
takes_row p here w c limit k i (msg.BindReq x n t bundle) h numbers real sound plain far at nob names term = request_kept p here w c k i h numbers real limit x t n bundle sound at (term x t (each_left _ (x ∷ vars_of t) _ names))
takes_row p here w c limit k i (msg.Binding x t bundle) h numbers real sound plain far at nob names term = binding_row p here w c k i h numbers real x t bundle far at (term x t (each_left _ (x ∷ vars_of t) _ names))
takes_row p here w c limit k i (msg.Get d o) h numbers real sound plain far at nob names term = absurd plain
takes_row p here w c limit k i (msg.Forward d o) h numbers real sound plain far at nob names term = absurd plain
takes_row p here w c limit k i (msg.Put d v bundle) h numbers real sound plain far at nob names term = absurd plain
takes_row p here w c limit k i (msg.PortSend q n a) h numbers real sound plain far at nob names term = absurd plain
takes_row p here w c limit k i (msg.PortEnd n old new bundle) h numbers real sound plain far at nob names term = absurd plain
takes_row p here w c limit k i (msg.CellMake d v bundle) h numbers real sound plain far at nob names term = absurd plain
takes_row p here w c limit k i (msg.CellAsk d n a v bundle) h numbers real sound plain far at nob names term = absurd plain
takes_row p here w c limit k i (msg.CellOld n v bundle) h numbers real sound plain far at nob names term = absurd plain

-- the world after the whole row
abbrev pub received : List Stmt → ℕ → World → ℕ → ℕ → Msg → World
received p limit w k i m = after_receipt (Some k) (after_transition w i (reception p limit m (w.sites i)))

pub record Received (p : List Stmt) (limit : ℕ) (w : World) (c : State) (k i : ℕ) (m : Msg) : Type 0 where
  pub centre : State
  pub run : IsRun p c (reception p limit m (w.sites i)).picks centre
  pub parts : PartsIn p (here_at (records (received p limit w k i m).sites)) (received p limit w k i m) centre

pub receive_row : (p : List Stmt) (limit : ℕ) (w : World) (c : State) (k i : ℕ) (m : Msg) → PartsIn p (here_at (records w.sites)) w c → IsNumbered w.sent w.mail → i ≢ 0 → IsSound c.equations → IsPlain m → IsForeignBinding i m → IsOnItsWay w.mail k i m →
    Each (Contains c.equations) (message_bundle m) → Received p limit w c k i m
receive_row p limit w c k i m h numbers real sound plain far at has = record { centre = taken.0; run = taken.1; parts = whole }
  where
    s : Site
    s = w.sites i

    d : Transition
    d = opening m s

    v : World
    v = after_transition w i d

    o : Opened p w c i m
    o = opens_row p w c k i m h at has

    site_v : v.sites i ≡ d.site
    site_v = at_here w.sites i d.site

    e : Transition
    e = message_row p limit m d.site

    final : World
    final = after_transition v i e

    here : ℕ → Name → Type 0
    here = here_at (records final.sites)

    at_v : IsOnItsWay v.mail k i m
    at_v = Contains-append_left w.mail (mail_from w.sent d.sent) _ at

    known : (y : VarName) → IsKnown d.site.records y → IsKnown e.site.records y
    known y q = takes_known p limit i m d.site plain (subst (λ (t : Site). t.records.site ≡ i) site_v (o.parts.kept i).site) (is_at m (o.parts.addressed k i m at_v)) y q
      where
        is_at : (m : Msg) → IsAddressed (records v.sites) i m → IsAtOwner i m
        is_at (msg.Register x r) q = q.0
        is_at (msg.BindReq x n t bundle) q = tt
        is_at (msg.Spawn n code vars bundle) q = tt
        is_at (msg.Binding x t bundle) q = tt
        is_at (msg.Get f r) q = tt
        is_at (msg.Forward f r) q = tt
        is_at (msg.Put f r bundle) q = tt
        is_at (msg.PortSend q n k) o = tt
        is_at (msg.PortEnd n old new bundle) o = tt
        is_at (msg.CellMake c v bundle) o = tt
        is_at (msg.CellAsk c n k v bundle) o = tt
        is_at (msg.CellOld n v bundle) o = tt

    up : (j : ℕ) (x : Name) → opened_here w i m j x → here j x
    up = at_all v.sites i e.site (λ j (t : Site). (x : Name) → opened_here w i m j x → IsHereName t.records x ⊎ (j ≡ 0)) (λ x q. either x q) (λ j other x q. q)
      where
        one : (x : Name) → IsHereName (records v.sites i) x → IsHereName e.site.records x
        one (name.Var x) q = two (subst (λ (t : Site). IsHere t.records x) site_v q)
          where
            two : IsHere d.site.records x → IsHere e.site.records x
            two (inl zero) = inl zero
            two (inr r) = inr (known x r)
        one (name.Cell x) q = tt
        one (name.Proc x) q = tt
        one (name.Port x) q = tt
        one (name.Thread x) q = tt

        either : (x : Name) → opened_here w i m i x → IsHereName e.site.records x ⊎ (i ≡ 0)
        either x (inl q) = inl (one x q)
        either x (inr q) = inr q

    parts_v : PartsIn p here v c
    parts_v = parts_weaker p (opened_here w i m) here (eqs v.sites) (records v.sites) (threads v.sites) (counters v.sites) v.mail c up o.parts

    at_site : (y : VarName) → here i (name.Var y) → IsHere (records final.sites i) y
    at_site y (inl q) = q
    at_site y (inr zero) = absurd (real zero)

    taken : Taken p here v c k i e
    taken = subst (λ (t : Site). Taken p here v c k i (message_row p limit m t)) site_v
        (takes_row p here v c limit k i m parts_v (numbered_acts w i d numbers) real sound plain far at_v (inl (inl refl))
        (Each-weaker _ _ (λ x q. up i (name.Var x) q) (message_vars m) o.vars) (λ x t q. (q.0, EachOfTerm-weaker (IsHereName (records final.sites i)) (here i) (λ y r. inl r) t (term_here (records final.sites i) t (Each-weaker _ _ (λ y r. at_site y r) (vars_of t) q.1)))))

    whole : PartsIn p (here_at (records (received p limit w k i m).sites)) (received p limit w k i m) taken.0
    whole = subst (λ (u : World). PartsIn p (here_at (records u.sites)) (after_receipt (Some k) u) taken.0) (sym (acts_after w i d e)) taken.2
