-- The tests of what is fit.
use Rattle.std.proofs.Common.{◌≡◌, ◌∙◌, sym, ap, subst, Bool, true, false, Some, None}
use Rattle.std.specs.Prelude.{Option, ◌↔◌, IsTrue, unwrap_or}
use Rattle.tree_node.specs.declared.names.ThreadName.{ThreadName}
use Rattle.tree_node.specs.Assoc.{value_of}
use Rattle.tree_node.specs.State.{Stack, equal_thread}
use Rattle.site_message.specs.declared.message.Msg.{Msg}
use Rattle.thread_machine.specs.Running.{Running}
use Rattle.thread_roster.specs.declared.mode.Awaited.TheVariants.{Cell, Port}
use Rattle.thread_roster.specs.declared.mode.Mode.{Mode}
use Rattle.thread_roster.specs.declared.mode.Mode.TheVariants as mode
use Rattle.thread_roster.proofs.ThreadLemmas.{seen_none}
use Rattle.site_model.specs.Site.{Site, ThreadState, thread_state}
use Rattle.site_model.specs.Fit.{CanTake}
use Rattle.site_variables.specs.Fit.{CanTakeVariable}
use Rattle.site_units.specs.declared.data.Core.{Core}
use Rattle.site_units.specs.Core.{site_of, stack_in}
use Rattle.site_units.proofs.ThreadLemmas.{thread_found}
use Rattle.site_core.specs.Fitting.{IsForEnd, IsForContent, WaitsForEnd, WaitsForContent}

-- what lacks a part does not hold
pub ruled_out : (b : Bool) (P Q : Type 0) → (IsTrue b ↔ P) → b ≡ false → (Q → P) → IsTrue false ↔ Q
ruled_out b P Q same fails part = (λ k. cc, λ q. let both : true ≡ false = sym (same.1 (part q)) ∙ fails in cc)

-- a message of variables, for which both conditions are the same
pub variable_taken : (s : Site) (m n : Msg) (b : Bool) → m ≡ n → ((IsTrue b ↔ CanTakeVariable s n) → IsTrue b ↔ CanTake s n) → (IsTrue b ↔ CanTakeVariable s m) → IsTrue b ↔ CanTake s m
variable_taken s m n b e same h = subst (λ (k : Msg). IsTrue b ↔ CanTake s k) (sym e) (same (subst (λ (k : Msg). IsTrue b ↔ CanTakeVariable s k) e h))

-- ---- threads that wait for an answer

-- what is found is there
pub none_found : (v : ThreadState) → None ≡ Some v → ⊥
none_found v e = cc

-- of no thread there is no stack
nowhere : (c : Core) (n : ThreadName) (st : Stack) (k : Mode) → value_of equal_thread c.threads.living n ≡ None → thread_state (site_of c) n ≡ Some (st, k) → ⊥
nowhere c n st k none h = none_found (st, k) (sym (seen_none (λ (e : Running × Mode). (stack_in e.0, e.1)) c.threads.living n none) ∙ h)

pub same_mode : (s t : Stack) (m k : Mode) → ◌≡◌ {A = Option ThreadState} (Some (s, m)) (Some (t, k)) → m ≡ k
same_mode s t m k e = ap (λ (o : Option ThreadState). (unwrap_or o (s, m)).1) e

pub end_waits : (c : Core) (n : ThreadName) (m : Mode) (b : Bool) → ((v : Running) × (value_of equal_thread c.threads.living n ≡ Some (v, m))) → (IsTrue b ↔ IsForEnd c.variables.binder.site m) → IsTrue b ↔ WaitsForEnd c n
end_waits c n m b (v, there) same = (
  λ k. to m found (same.0 k),
  λ w. let is : m ≡ mode.WaitsFor (Port w.1) = same_mode v.stack w.0 m (mode.WaitsFor (Port w.1)) (sym found ∙ w.3) in same.1 (subst (IsForEnd c.variables.binder.site) (sym is) w.2),
)
  where
    found : thread_state (site_of c) n ≡ Some (v.stack, m)
    found = thread_found c.threads.living n v m there

    to : (m : Mode) → thread_state (site_of c) n ≡ Some (v.stack, m) → IsForEnd c.variables.binder.site m → WaitsForEnd c n
    to (mode.WaitsFor (Port q)) e k = (v.stack, q, k, e)
    to (mode.WaitsFor (Cell d)) e k = absurd k
    to mode.Runs e k = absurd k
    to (mode.Waits x) e k = absurd k
    to (mode.Needs x) e k = absurd k
    to (mode.WaitsAny xs) e k = absurd k

pub no_end_waits : (c : Core) (n : ThreadName) → value_of equal_thread c.threads.living n ≡ None → IsTrue false ↔ WaitsForEnd c n
no_end_waits c n none = (λ k. cc, λ w. absurd (nowhere c n w.0 (mode.WaitsFor (Port w.1)) none w.3))

pub content_waits : (c : Core) (n : ThreadName) (m : Mode) (b : Bool) → ((v : Running) × (value_of equal_thread c.threads.living n ≡ Some (v, m))) → (IsTrue b ↔ IsForContent c.variables.binder.site m) → IsTrue b ↔ WaitsForContent c n
content_waits c n m b (v, there) same = (
  λ k. to m found (same.0 k),
  λ w. let is : m ≡ mode.WaitsFor (Cell w.1) = same_mode v.stack w.0 m (mode.WaitsFor (Cell w.1)) (sym found ∙ w.4) in same.1 (subst (IsForContent c.variables.binder.site) (sym is) (w.2, w.3)),
)
  where
    found : thread_state (site_of c) n ≡ Some (v.stack, m)
    found = thread_found c.threads.living n v m there

    to : (m : Mode) → thread_state (site_of c) n ≡ Some (v.stack, m) → IsForContent c.variables.binder.site m → WaitsForContent c n
    to (mode.WaitsFor (Cell d)) e k = (v.stack, d, k.0, k.1, e)
    to (mode.WaitsFor (Port q)) e k = absurd k
    to mode.Runs e k = absurd k
    to (mode.Waits x) e k = absurd k
    to (mode.Needs x) e k = absurd k
    to (mode.WaitsAny xs) e k = absurd k

pub no_content_waits : (c : Core) (n : ThreadName) → value_of equal_thread c.threads.living n ≡ None → IsTrue false ↔ WaitsForContent c n
no_content_waits c n none = (λ k. cc, λ w. absurd (nowhere c n w.0 (mode.WaitsFor (Cell w.1)) none w.4))
