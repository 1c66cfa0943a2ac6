-- A thread that is not at a site is not there once equations are known or threads wake.
use Rattle.std.proofs.Common.{◌≡◌, ◌∙◌, sym, refl, List, [], ◌∷◌, Bool, true, false, Some, None}
use Rattle.std.specs.Prelude.{Option}
use Rattle.tree_node.specs.declared.names.VarName.{VarName}
use Rattle.tree_node.specs.declared.names.ThreadName.{ThreadName}
use Rattle.tree_node.specs.declared.node.Term.{Term}
use Rattle.tree_node.specs.Assoc.{value_of}
use Rattle.tree_node.specs.State.{equal_thread}
use Rattle.tree_node.specs.Store.{Equation}
use Rattle.bind_protocol.specs.Records.{is_own, knowledge}
use Rattle.thread_roster.specs.declared.mode.Mode.{Mode}
use Rattle.thread_roster.specs.Binds.{goes_on}
use Rattle.thread_roster.specs.Threads.{wake_where}
use Rattle.site_model.specs.Site.{Site, Threads, ThreadState, thread_state}
use Rattle.site_model.specs.Variables.{with_known_equation, with_known_equation_as, with_known_equations}
use Rattle.world_model.proofs.KeyLemmas.{woken_old}

pub woken_none : (f : Mode → Bool) (ts : Threads) (n : ThreadName) → value_of equal_thread ts n ≡ None → value_of equal_thread (wake_where f ts) n ≡ None
woken_none f ts n e = go (value_of equal_thread (wake_where f ts) n) refl
  where
    go : (o : Option ThreadState) → value_of equal_thread (wake_where f ts) n ≡ o → value_of equal_thread (wake_where f ts) n ≡ None
    go None q = q
    go (Some v) q =
        let old = woken_old f ts n v.0 v.1 q in
        let both : ◌≡◌ {A = Option ThreadState} None (Some (v.0, old.0)) = sym e ∙ old.1 in cc

pub told_none : (s : Site) (x : VarName) (t : Term) (n : ThreadName) → thread_state s n ≡ None → thread_state (with_known_equation s x t) n ≡ None
told_none s x t n e = go (is_own s.records x) (knowledge s.records x)
  where
    go : (b : Bool) (o : Option (Option Term)) → thread_state (with_known_equation_as b o s x t) n ≡ None
    go true o = e
    go false None = woken_none (goes_on ((x, t) ∷ s.equations) x) s.threads n e
    go false (Some None) = woken_none (goes_on ((x, t) ∷ s.equations) x) s.threads n e
    go false (Some (Some r)) = e

pub told_all_none : (es : List Equation) (s : Site) (n : ThreadName) → thread_state s n ≡ None → thread_state (with_known_equations s es) n ≡ None
told_all_none [] s n e = e
told_all_none (q ∷ es) s n e = told_all_none es (with_known_equation s q.0 q.1) n (told_none s q.0 q.1 n e)
