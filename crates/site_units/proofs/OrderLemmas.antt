-- The order of turns over the units of a turn.
use Rattle.std.proofs.Common.{◌≡◌, ◌∙◌, sym, ap, refl, subst, List, [], ◌∷◌, ◌++◌, Bool, true, false, cond, Some, None}
use Rattle.std.specs.Prelude.{Option, Contains}
use Rattle.tree_node.specs.declared.names.ThreadName.{ThreadName}
use Rattle.tree_node.specs.Assoc.{value_of}
use Rattle.tree_node.specs.State.{Stack, equal_thread}
use Rattle.tree_node.proofs.NameLemmas.{same_thread_decides}
use Rattle.thread_machine.specs.Running.{Running}
use Rattle.thread_roster.specs.declared.mode.Mode.{Mode}
use Rattle.thread_roster.specs.declared.mode.Mode.TheVariants.{Runs}
use Rattle.thread_roster.specs.Order.{without_name, MayHaveLeft}
use Rattle.thread_roster.specs.Threads.{Entry, IsRunnable, IsOrderOf}
use Rattle.thread_roster.proofs.NameLemmas.{is_same}
use Rattle.thread_roster.proofs.BehindLemmas.{is_not_left}
use Rattle.thread_roster.proofs.ThreadLemmas.{seen_none}
use Rattle.site_variables.specs.Variables.{stacks_of}
use Rattle.site_units.specs.Core.{stack_in}
use Rattle.site_units.specs.Order.{IsUnitOfFirst, last_of, passed_on}
use Rattle.site_units.proofs.ThreadLemmas.{thread_found}

-- ---- one unit

-- the thread was the first, and its step did not change the order
pub turn_of : (n : ThreadName) (old now new : List ThreadName) → (rest : List ThreadName) × (old ≡ n ∷ rest) × (without_name n rest ≡ rest) → now ≡ old → MayHaveLeft n now new → IsUnitOfFirst n old new
turn_of n old now new (rest, e, once) same left =
    (rest, e, (λ c. is_not_left n rest (subst (λ (l : List ThreadName). Contains l n) (sym once) c)), subst (λ (l : List ThreadName). MayHaveLeft n l new) same left)

-- ---- who stands in the order

-- exactly those stand in it that can go on, as the site tells its threads
pub order_seen : (ts : List (Entry Running)) (order : List ThreadName) → IsOrderOf ts order → IsOrderOf (stacks_of stack_in ts) order
order_seen ts order (all, once) = (λ n. (λ c. there n ((all n).0 c), λ r. (all n).1 (back n r.0 (value_of equal_thread ts n) refl r.1)), once)
  where
    there : (n : ThreadName) → IsRunnable ts n → IsRunnable (stacks_of stack_in ts) n
    there n (r, is) = (r.stack, thread_found ts n r Runs is)

    back : (n : ThreadName) (st : Stack) (o : Option (Running × Mode)) → value_of equal_thread ts n ≡ o → value_of equal_thread (stacks_of stack_in ts) n ≡ Some (st, Runs) → IsRunnable ts n
    back n st None e is =
        let none : value_of equal_thread (stacks_of stack_in ts) n ≡ None = seen_none (λ (v : Running × Mode). (stack_in v.0, v.1)) ts n e in
        let both : ◌≡◌ {A = Option (Stack × Mode)} None (Some (st, Runs)) = sym none ∙ is in cc
    back n st (Some (r, m)) e is =
        let both : ◌≡◌ {A = Option (Stack × Mode)} (Some (r.stack, m)) (Some (st, Runs)) = sym (thread_found ts n r m e) ∙ is in
        let stands : ◌≡◌ {A = Stack × Mode} (r.stack, m) (st, Runs) = cc in
        let runs : m ≡ Runs = ap (λ (e : Stack × Mode). e.1) stands in
        (r, e ∙ ap (λ (k : Mode). Some (r, k)) runs)

-- ---- the last of several

pub last_end : (ns : List ThreadName) (n : ThreadName) → last_of (ns ++ n ∷ []) ≡ Some n
last_end [] n = refl
last_end (m ∷ []) n = refl
last_end (m ∷ k ∷ ns) n = last_end (k ∷ ns) n

-- ---- the end of a turn

pub turn_passed : (last : Option ThreadName) (old new : List ThreadName) → ((n : ThreadName) (rest : List ThreadName) → last ≡ Some n → old ≡ n ∷ rest → new ≡ rest ++ n ∷ []) →
    (((n : ThreadName) (rest : List ThreadName) → last ≡ Some n → old ≡ n ∷ rest → ⊥) → new ≡ old) → new ≡ passed_on last old
turn_passed None old new turned same = same (λ n rest e f. cc)
turn_passed (Some n) [] new turned same = same (λ m rest e f. cc)
turn_passed (Some n) (m ∷ others) new turned same = go (equal_thread m n) refl
  where
    go : (b : Bool) → equal_thread m n ≡ b → new ≡ cond b (others ++ m ∷ []) (m ∷ others)
    go true e = let is : m ≡ n = (same_thread_decides m n).0 e in turned m others (ap (λ (k : ThreadName). Some k) (sym is)) refl
    go false e = same (λ k rest f g. (let is : m ≡ n = cc in let yes : equal_thread m n ≡ true = is_same m n is in let both : true ≡ false = sym yes ∙ e in cc))

-- no thread can go on any more
pub none_passed : (last : Option ThreadName) (order : List ThreadName) → order ≡ [] → order ≡ passed_on last order
none_passed None order e = refl
none_passed (Some n) order e = e ∙ sym (ap (passed_on (Some n)) e)
