-- Which totals a site has.
use Rattle.std.proofs.Common.{arith, ◌≡◌, sym, ap, refl, ℕ, suc, length, filter, [], ◌∷◌, Bool, true, false, cond}
use Rattle.std.specs.Prelude.{◌↔◌, IsTrue, ◌==◌}
use Rattle.std.proofs.lemmas.Bool.Decides.{nat_tests}
use Rattle.thread_machine.specs.Running.{Running}
use Rattle.thread_roster.specs.Threads.{Entry, AllWait, waiting_of, is_waiting}
use Rattle.thread_roster.proofs.WakeLemmas.{all_wait}
use Rattle.site_model.specs.Site.{is_idle}
use Rattle.site_variables.specs.Variables.{stacks_of}
use Rattle.site_units.specs.declared.data.Core.{Core}
use Rattle.site_units.specs.Core.{site_of, stack_in}
use Rattle.site_units.proofs.ThreadLemmas.{Living}
use Rattle.site_units.proofs.TurnLemmas.{all_idle}

-- as many threads wait as stacks do
pub waiting_stacks : (ts : Living) → waiting_of ts ≡ waiting_of (stacks_of stack_in ts)
waiting_stacks [] = refl
waiting_stacks (t ∷ ts) = go (is_waiting t.1.1) (waiting_stacks ts)
  where
    go : (b : Bool) → waiting_of ts ≡ waiting_of (stacks_of stack_in ts) →
        length (cond b (t ∷ filter (λ (s : Entry Running). is_waiting s.1.1) ts) (filter (λ (s : Entry Running). is_waiting s.1.1) ts))
        ≡ length (cond b ((t.0, (t.1.0.stack, t.1.1)) ∷ filter (λ s. is_waiting s.1.1) (stacks_of stack_in ts)) (filter (λ s. is_waiting s.1.1) (stacks_of stack_in ts)))
    go true ih = ap suc ih
    go false ih = ih

-- where all stacks wait all threads do
all_threads_wait : (ts : Living) → AllWait (stacks_of stack_in ts) → AllWait ts
all_threads_wait [] h = tt
all_threads_wait (t ∷ ts) h = (h.0, all_threads_wait ts h.1)

same_numbers : (a b : ℕ) → (a == b) ≡ true → a ≡ b
same_numbers a b h = grind (arith, nat_tests)

-- who tells whether all threads wait tells whether the site is idle
pub idle_is : (c : Core) (b : Bool) → (IsTrue b ↔ AllWait c.threads.living) → b ≡ is_idle (site_of c)
idle_is c true same = sym (all_idle c (same.0 refl))
idle_is c false same = go (is_idle (site_of c)) refl
  where
    go : (d : Bool) → is_idle (site_of c) ≡ d → false ≡ d
    go false e = refl
    go true e =
        let wait : AllWait (stacks_of stack_in c.threads.living) =
        all_wait (stacks_of stack_in c.threads.living) (same_numbers (waiting_of (stacks_of stack_in c.threads.living)) (length (stacks_of stack_in c.threads.living)) e) in
        same.1 (all_threads_wait c.threads.living wait)
