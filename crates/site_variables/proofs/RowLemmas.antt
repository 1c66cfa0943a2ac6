-- The rows of variables on a site with these parts.
use Rattle.std.proofs.Common.{◌+◌, ◌<◌, length, take, get_or, append_assoc, add-one, ◌≡◌, ◌≢◌, ◌∙◌, sym, ap, refl, subst, ℕ, List, [], ◌∷◌, ◌++◌, map, ◌⊎◌, Bool, true, false}
use Rattle.std.specs.Prelude.{Option, Some, None}
use Rattle.std.proofs.lemmas.List.{append-nil}
use Rattle.std.proofs.Math.Seq.{take-suc}
use Rattle.tree_node.specs.declared.names.VarName.{VarName}
use Rattle.tree_node.specs.declared.names.ThreadName.{ThreadName}
use Rattle.tree_node.specs.declared.node.Term.{Term}
use Rattle.tree_node.specs.Each.{Each}
use Rattle.tree_node.specs.Order.{IsLower}
use Rattle.tree_node.specs.State.{Stack}
use Rattle.tree_node.specs.Store.{Store, Equation}
use Rattle.site_message.specs.declared.message.Msg.{Msg}
use Rattle.site_message.specs.declared.message.Sent.{Sent}
use Rattle.variable_owner.specs.declared.owners.Owner.{Owner}
use Rattle.variable_owner.specs.declared.owners.Owner.TheVariants.{Open, Bound}
use Rattle.variable_owner.specs.Owners.{AreAlone, owner_of, sites_of}
use Rattle.bind_protocol.specs.Records.{Records, is_own, knowledge}
use Rattle.bind_protocol.specs.Rows.{binding, after_binding, after_ask, ask_sends, after_register, register_sends, register_answer, meets_send}
use Rattle.thread_roster.specs.declared.mode.Mode.{Mode}
use Rattle.thread_roster.specs.Threads.{Entry, wake_where}
use Rattle.thread_roster.specs.Binds.{by_node, goes_on}
use Rattle.thread_roster.proofs.ThreadLemmas.{woken_by}
use Rattle.thread_roster.proofs.NodeLemmas.{where_alike, goes_alike}
use Rattle.site_model.specs.Site.{Site, Threads}
use Rattle.site_model.specs.Bundle.{with_own_bundles, message_vars, message_bundle}
use Rattle.site_model.specs.Transition.{Transition, without_output, with_pick, and_then}
use Rattle.site_model.specs.Variables.{with_known_equation_as, with_known_equation, with_known_equations, with_new_equation, own_bind, meeting, opening}
use Rattle.site_model.specs.Messages.{register_row, bind_request_as, bind_request_row, bind_pick}
use Rattle.site_variables.specs.declared.variables.Variables.{Variables}
use Rattle.site_variables.specs.Variables.{Parts, IsVariableRow, parts_of, stacks_of, with_parts}
use Rattle.site_variables.specs.Meeting.{AreMet}

-- ---- threads

pub stacks_woken : {V : Type 0} (g : V → Stack) (f : Mode → Bool) (ts : List (Entry V)) → stacks_of g (wake_where f ts) ≡ wake_where f (stacks_of g ts)
stacks_woken g f [] = refl
stacks_woken {V} g f (t ∷ ts) = ap (λ (l : Threads). (t.0, (g t.1.0, woken_by f t.1.1)) ∷ l) (stacks_woken g f ts)

-- x was bound: who goes on by these equations goes on by others that give a node to the same
pub stacks_bound : {V : Type 0} (g : V → Stack) (s r : Store) (x : VarName) (old new : List (Entry V)) → ((y : VarName) → by_node r x y ≡ by_node s x y) → new ≡ wake_where (goes_on s x) old → stacks_of g new ≡ wake_where (goes_on r x) (stacks_of g old)
stacks_bound {V} g s r x old new alike e =
    ap (λ (ts : List (Entry V)). stacks_of g ts) e
    ∙ (stacks_woken g (goes_on s x) old ∙ where_alike (goes_on s x) (goes_on r x) (goes_alike s r x (λ y. sym (alike y))) (stacks_of g old))

-- ---- an equation that is told

new_as : (o : Bool) (k : Option (Option Term)) (s : Site) (x : VarName) (t : Term) → o ≡ false → ((r : Term) → k ≡ Some (Some r) → ⊥) → with_known_equation_as o k s x t ≡ with_new_equation s x t
new_as true k s x t e h = cc
new_as false None s x t e h = refl
new_as false (Some None) s x t e h = refl
new_as false (Some (Some r)) s x t e h = absurd (h r refl)

-- it is known from now on
pub done_learnt : (p q : Parts) (x : VarName) (t : Term) → is_own p.records x ≡ false → ((r : Term) → knowledge p.records x ≡ Some (Some r) → ⊥) →
    q.equations ≡ (x, t) ∷ p.equations → q.records ≡ after_binding p.records x t → q.threads ≡ wake_where (goes_on ((x, t) ∷ p.equations) x) p.threads → q.sent ≡ p.sent → IsVariableRow (λ s. without_output (with_known_equation s x t)) [] p q
done_learnt p q x t own free a b c d = record {
  more = [];
  sent = d ∙ sym (append-nil p.sent);
  done = λ s. ap without_output (new_as (is_own p.records x) (knowledge p.records x) (with_parts s p) x t own free) ∙ rw (a, b, c) refl;
}

-- ---- messages without bundles

unbundled : (s : Store) (x : VarName) (t : Term) (ks : List ℕ) → with_own_bundles 0 s (map (λ k. binding x t k) ks) ≡ map (λ k. binding x t k) ks
unbundled s x t [] = refl
unbundled s x t (k ∷ ks) = ap (λ (ms : List Sent). binding x t k ∷ ms) (unbundled s x t ks)

answer_unbundled : (s : Store) (o : Option Owner) (x : VarName) (k : ℕ) → with_own_bundles 0 s (register_answer o x k) ≡ register_answer o x k
answer_unbundled s None x k = refl
answer_unbundled s (Some (Open ks)) x k = refl
answer_unbundled s (Some (Bound t)) x k = refl

-- ---- an own bind, a registration, a request

pub done_bound : (p q : Parts) (x : VarName) (t : Term) → q.equations ≡ (x, t) ∷ p.equations → q.records ≡ after_ask p.records x t → q.threads ≡ wake_where (goes_on ((x, t) ∷ p.equations) x) p.threads → q.sent ≡ p.sent ++ ask_sends p.records x t → IsVariableRow (own_bind 0 x t) [] p q
done_bound p q x t a b c d = record {
  more = ask_sends p.records x t;
  sent = d;
  done = λ s. rw (a, b, c, unbundled ((x, t) ∷ p.equations) x t (sites_of (owner_of p.records.owners x))) refl;
}

pub done_registered : (p q : Parts) (x : VarName) (k : ℕ) → q.equations ≡ p.equations → q.records ≡ after_register p.records x k → q.threads ≡ p.threads → q.sent ≡ p.sent ++ register_sends p.records x k → IsVariableRow (register_row 0 x k) [] p q
done_registered p q x k a b c d = record {
  more = register_sends p.records x k;
  sent = d;
  done = λ s. rw (a, b, c, answer_unbundled p.equations (owner_of p.records.owners x) x k) refl;
}

taken_as : (k : Option (Option Term)) (x : VarName) (t : Term) (n : ThreadName) (s : Site) → k ≡ Some None → bind_request_as k 0 x t n s ≡ and_then (with_pick s (bind_pick n x t)) (own_bind 0 x t)
taken_as None x t n s e = cc
taken_as (Some None) x t n s e = refl
taken_as (Some (Some r)) x t n s e = cc

pub done_taken : (p q : Parts) (x : VarName) (t : Term) (n : ThreadName) → knowledge p.records x ≡ Some None → IsVariableRow (own_bind 0 x t) [] p q → IsVariableRow (bind_request_row 0 x t n) (bind_pick n x t ∷ []) p q
done_taken p q x t n e done = record {
  more = done.more;
  sent = done.sent;
  done = λ s. taken_as (knowledge p.records x) x t n (with_parts s p) e ∙ ap (λ (d : Transition). record { site = d.site; picks = bind_pick n x t ∷ d.picks; sent = d.sent; lines = d.lines }) (done.done s);
}

-- ---- one row after another

-- equations that are told, one after another
pub told_append : (s : Site) (es fs : List Equation) → with_known_equations s (es ++ fs) ≡ with_known_equations (with_known_equations s es) fs
told_append s [] fs = refl
told_append s (e ∷ es) fs = told_append (with_known_equation s e.0 e.1) es fs

pub told_none : (p : Parts) → IsVariableRow (λ s. without_output (with_known_equations s [])) [] p p
told_none p = record { more = []; sent = sym (append-nil p.sent); done = λ s. refl }

pub told_more : (es : List Equation) (k : ℕ) (d : Equation) (p q r : Parts) → k < length es → d ≡ get_or es k d → IsVariableRow (λ s. without_output (with_known_equations s (take k es))) [] p q → IsVariableRow (λ s. without_output (with_known_equation s d.0 d.1)) [] q r →
    IsVariableRow (λ s. without_output (with_known_equations s (take (k + 1) es))) [] p r
told_more es k d p q r below at h g = record {
  more = h.more ++ g.more;
  sent = g.sent ∙ (ap (λ (ms : List Sent). ms ++ g.more) h.sent ∙ append_assoc p.sent h.more g.more);
  done = go;
}
  where
    taken : (s : Site) → with_known_equations s (take (k + 1) es) ≡ with_known_equation (with_known_equations s (take k es)) d.0 d.1
    taken s = rw (add-one, take-suc es k d below, ← at) (told_append s (take k es) (d ∷ []))

    go : (s : Site) → without_output (with_known_equations (with_parts s p) (take (k + 1) es)) ≡ record { site = with_parts s r; picks = []; sent = h.more ++ g.more; lines = [] }
    go s =
        let first : with_known_equations (with_parts s p) (take k es) ≡ with_parts s q = ap (λ (t : Transition). t.site) (h.done s) in
        let second : with_known_equation (with_parts s q) d.0 d.1 ≡ with_parts s r = ap (λ (t : Transition). t.site) (g.done s) in
        let before : [] ≡ h.more = ap (λ (t : Transition). t.sent) (h.done s) in
        let after : [] ≡ g.more = ap (λ (t : Transition). t.sent) (g.done s) in
        rw (taken (with_parts s p), first, second, ← before, ← after) refl

-- names that were met
pub done_met : (xs : List VarName) (v w : Variables) (ts : Threads) (o p : List Sent) → AreMet xs v o w p → IsVariableRow (meeting xs) [] (parts_of v ts o) (parts_of w ts p)
done_met xs v w ts o p h = record {
  more = meets_send v.binder xs;
  sent = h.sent;
  done = λ s. rw (h.records, h.equations) refl;
}

-- a message that was opened
pub done_opened : (m : Msg) (es : List Equation) (u v w : Variables) (ts rs : Threads) (o p : List Sent) → es ≡ message_bundle m → IsVariableRow (λ s. without_output (with_known_equations s es)) [] (parts_of u ts []) (parts_of v rs []) → AreMet (message_vars m) v o w p →
    IsVariableRow (opening m) [] (parts_of u ts o) (parts_of w rs p)
done_opened m es u v w ts rs o p is h met = record {
  more = meets_send v.binder (message_vars m);
  sent = met.sent;
  done = go;
}
  where
    go : (s : Site) → opening m (with_parts s (parts_of u ts o)) ≡ record { site = with_parts s (parts_of w rs p); picks = []; sent = meets_send v.binder (message_vars m); lines = [] }
    go s =
        let told : with_known_equations (with_parts s (parts_of u ts o)) es ≡ with_parts s (parts_of v rs []) = ap (λ (t : Transition). t.site) (h.done s) in
        let all : with_known_equations (with_parts s (parts_of u ts o)) (message_bundle m) ≡ with_parts s (parts_of v rs []) = ap (λ (fs : List Equation). with_known_equations (with_parts s (parts_of u ts o)) fs) (sym is) ∙ told in
        ap (λ (z : Site). meeting (message_vars m) z) all ∙ rw (met.records, met.equations) refl

pub bundle_lower : (m : Msg) (es : List Equation) → es ≡ message_bundle m → Each (λ (e : Equation). IsLower e.1 e.0) (message_bundle m) → Each (λ (e : Equation). IsLower e.1 e.0) es
bundle_lower m es is h = subst (λ (fs : List Equation). Each (λ (e : Equation). IsLower e.1 e.0) fs) (sym is) h

-- ---- nobody is registered

-- where no site is registered for a variable nobody is told of its bind
pub nothing_sent : (b : Records) (x : VarName) (t : Term) (out : List Sent) → AreAlone b.owners → out ≡ out ++ ask_sends b x t
nothing_sent b x t out h = sym (append-nil out) ∙ ap (λ (ks : List ℕ). out ++ map (λ (k : ℕ). binding x t k) ks) (sym (h x))
