-- What a site knows of variables: names that it meets, and equations (TOPLAS 21(3), 1999).
use Rattle.std.specs.Prelude.{ℕ, List, [], ◌∷◌, Bool, true, false, Option, Some}
use Rattle.tree_node.specs.declared.names.VarName.{VarName}
use Rattle.tree_node.specs.declared.node.Term.{Term}
use Rattle.tree_node.specs.Store.{Equation}
use Rattle.site_message.specs.declared.message.Msg.{Msg}
use Rattle.bind_protocol.specs.Records.{Records, is_own, knowledge}
use Rattle.bind_protocol.specs.Rows.{after_make, after_meets, meets_send, after_ask, ask_sends, after_binding}
use Rattle.thread_roster.specs.Binds.{goes_on}
use Rattle.thread_roster.specs.Threads.{wake_where}
use Rattle.site_model.specs.Site.{Site}
use Rattle.site_model.specs.Bundle.{with_own_bundles, message_vars, message_bundle}
use Rattle.site_model.specs.Transition.{Transition, without_output, with_messages, and_then}

-- ---- names

-- names are met: each that is owned elsewhere and new is kept, and a Register goes to its owner
abbrev pub meeting : List VarName → Site → Transition
meeting xs s = with_messages (record s { records = after_meets s.records xs }) (meets_send s.records xs)

-- own variables are made, unbound
abbrev pub after_makes : Records → List VarName → Records
after_makes b [] = b
after_makes b (x ∷ xs) = after_makes (after_make b x) xs

-- ---- equations

-- x is known to be t from now on, with these records of variables; the threads that wait until x is bound can go on, and, where its class
-- has a node by that, those that need it
abbrev pub with_site_equation : Site → VarName → Term → Records → Site
with_site_equation s x t b = record s {
  equations = (x, t) ∷ s.equations;
  records = b;
  threads = wake_where (goes_on ((x, t) ∷ s.equations) x) s.threads;
}

-- so it is of x owned elsewhere by a Binding or a bundle
abbrev pub with_new_equation : Site → VarName → Term → Site
with_new_equation s x t = with_site_equation s x t (after_binding s.records x t)

-- by whether x is the site's own, and what is known of it
abbrev pub with_known_equation_as : Bool → Option (Option Term) → Site → VarName → Term → Site
with_known_equation_as true known s x t = s
with_known_equation_as false (Some (Some r)) s x t = s
with_known_equation_as false _ s x t = with_new_equation s x t

-- x = t is known: nothing changes where x is the site's own or was known to be bound
abbrev pub with_known_equation : Site → VarName → Term → Site
with_known_equation s x t = with_known_equation_as (is_own s.records x) (knowledge s.records x) s x t

-- the site knows these equations, one after another
abbrev pub with_known_equations : Site → List Equation → Site
with_known_equations s [] = s
with_known_equations s (e ∷ es) = with_known_equations (with_known_equation s e.0 e.1) es

-- x, the site's own, is bound to t, and a Binding goes to each site that is registered for it
abbrev pub own_bind : ℕ → VarName → Term → Site → Transition
own_bind limit x t s =
    with_messages (with_site_equation s x t (after_ask s.records x t)) (with_own_bundles limit ((x, t) ∷ s.equations) (ask_sends s.records x t))

-- binds of own variables, the newest first, as they stand among the equations
abbrev pub own_binds : ℕ → List Equation → Site → Transition
own_binds limit [] s = without_output s
own_binds limit (e ∷ es) s = and_then (own_binds limit es s) (own_bind limit e.0 e.1)

-- a message is opened: first the equations of its bundle are known, then its names are met
abbrev pub opening : Msg → Site → Transition
opening m s = meeting (message_vars m) (with_known_equations s (message_bundle m))
