-- What threads wait for is known, and stays so.
use Rattle.std.proofs.Common.{◌≡◌, inl, inr, refl, List, [], ◌∷◌, Bool, true, false, cond}
use Rattle.tree_node.specs.declared.names.VarName.{VarName}
use Rattle.tree_node.specs.declared.names.Name.{Name}
use Rattle.tree_node.specs.declared.names.Name.TheVariants as name
use Rattle.tree_node.specs.declared.names.ThreadName.{ThreadName}
use Rattle.tree_node.specs.Compare.{Pair, Open, compared}
use Rattle.tree_node.specs.Each.{Each}
use Rattle.tree_node.specs.Names.{EachOfEquation, EachOfStack}
use Rattle.tree_node.specs.State.{Stack, equal_thread}
use Rattle.tree_node.specs.Store.{IsClassName, Store, root_of}
use Rattle.tree_node.proofs.ClassLemmas.{to_root}
use Rattle.tree_node.proofs.SoundLemmas.{class_names}
use Rattle.tree_node.proofs.EachLemmas.{each_in}
use Rattle.kernel_syntax.specs.declared.stmt.Stmt.{Stmt}
use Rattle.oz_model.specs.Need.{Waits, WaitsAny, stack_need}
use Rattle.oz_model.proofs.EffectNames.{stack_need_names, stack_several_has}
use Rattle.oz_model.proofs.NameLemmas.{Each-weaker, EachOfEquation-weaker, EachOfItem-weaker}
use Rattle.oz_model.proofs.OpenLemmas.{open_has}
use Rattle.thread_machine.specs.Fits.{IsKnown}
use Rattle.thread_machine.specs.Running.{Running}
use Rattle.thread_roster.specs.declared.mode.Mode.{Mode}
use Rattle.thread_roster.specs.declared.mode.Mode.TheVariants as mode
use Rattle.thread_roster.specs.Threads.{Entry, set_mode, set_value, wake_where}
use Rattle.site_variables.specs.Variables.{IsGrown}
use Rattle.site_units.specs.Invariant.{AwaitKnown, AwaitsKnown, IsAwaited}
use Rattle.site_units.specs.Units.{without_ended}
use Rattle.site_units.proofs.ThreadLemmas.{Living, settled_keeps}

-- ---- more names are known

awaited_grows : (known more : List VarName) → IsGrown known more → (y : VarName) → IsAwaited known y → IsAwaited more y
awaited_grows known more grows y (inl e) = inl e
awaited_grows known more grows y (inr k) = inr (grows y k)

mode_grows : (known more : List VarName) → IsGrown known more → (k : Mode) → AwaitsKnown known k → AwaitsKnown more k
mode_grows known more grows mode.Runs h = tt
mode_grows known more grows (mode.Waits y) h = awaited_grows known more grows y h
mode_grows known more grows (mode.Needs y) h = awaited_grows known more grows y h
mode_grows known more grows (mode.WaitsAny ys) h = Each-weaker (IsAwaited known) (IsAwaited more) (awaited_grows known more grows) ys h
mode_grows known more grows (mode.WaitsFor a) h = tt

pub await_grows : (known more : List VarName) (ts : Living) → IsGrown known more → AwaitKnown known ts → AwaitKnown more ts
await_grows known more ts grows h = Each-weaker (λ (t : Entry Running). AwaitsKnown known t.1.1) (λ (t : Entry Running). AwaitsKnown more t.1.1) (λ t k. mode_grows known more grows t.1.1 k) ts h

-- ---- a thread changes, and some go on

pub await_set : (known : List VarName) (ts : Living) (n : ThreadName) (q : Running) → AwaitKnown known ts → AwaitKnown known (set_value ts n q)
await_set known [] n q h = tt
await_set known (t ∷ ts) n q h = go (equal_thread t.0 n) (await_set known ts n q h.1)
  where
    go : (b : Bool) → AwaitKnown known (set_value ts n q) → AwaitKnown known (cond b ((n, (q, t.1.1)) ∷ ts) (t ∷ set_value ts n q))
    go true ih = h
    go false ih = (h.0, ih)

pub await_mode : (known : List VarName) (ts : Living) (n : ThreadName) (k : Mode) → AwaitsKnown known k → AwaitKnown known ts → AwaitKnown known (set_mode ts n k)
await_mode known [] n k at h = tt
await_mode known (t ∷ ts) n k at h = go (equal_thread t.0 n) (await_mode known ts n k at h.1)
  where
    go : (b : Bool) → AwaitKnown known (set_mode ts n k) → AwaitKnown known (cond b ((n, (t.1.0, k)) ∷ ts) (t ∷ set_mode ts n k))
    go true ih = (at, h.1)
    go false ih = (h.0, ih)

pub await_where : (known : List VarName) (f : Mode → Bool) (ts : Living) → AwaitKnown known ts → AwaitKnown known (wake_where f ts)
await_where known f [] h = tt
await_where known f (t ∷ ts) h = (go (f t.1.1), await_where known f ts h.1)
  where
    go : (b : Bool) → AwaitsKnown known (cond b mode.Runs t.1.1)
    go true = tt
    go false = h.0

-- a thread made its step where it stands, and goes on or has ended
pub await_settled : (known : List VarName) (ts : Living) (n : ThreadName) (st : Stack) → AwaitKnown known ts → AwaitKnown known (without_ended ts n st)
await_settled known ts n st h = settled_keeps (λ (t : Entry Running). AwaitsKnown known t.1.1) ts n st h

pub await_step : (known more : List VarName) (ts : Living) (n : ThreadName) (q : Running) (st : Stack) → IsGrown known more → AwaitKnown known ts → AwaitKnown more (without_ended (set_value ts n q) n st)
await_step known more ts n q st grows h = await_settled more (set_value ts n q) n st (await_set more ts n q (await_grows known more ts grows h))

-- ---- a thread begins to wait

-- such a variable; nothing is said of other names
abbrev IsAwaitedName : List VarName → Name → Type 0
IsAwaitedName known (name.Var y) = IsAwaited known y
IsAwaitedName known m = Unit {0}

known_awaited : (known : List VarName) (m : Name) → IsKnown known m → IsAwaitedName known m
known_awaited known (name.Var y) h = inr h
known_awaited known (name.Cell y) h = tt
known_awaited known (name.Proc y) h = tt
known_awaited known (name.Thread y) h = tt
known_awaited known (name.Port y) h = tt

equation_names : (known : List VarName) (s : Store) → Each (EachOfEquation (IsKnown known)) s → Each (EachOfEquation (IsAwaitedName known)) s
equation_names known s equations = Each-weaker _ _ (EachOfEquation-weaker (IsKnown known) (IsAwaitedName known) (known_awaited known)) s equations

-- so is the root of such a variable's class
pub root_known : (known : List VarName) (s : Store) → Each (EachOfEquation (IsKnown known)) s → (y : VarName) → IsAwaited known y → IsAwaited known (root_of s y)
root_known known s equations y h = class_names (IsAwaitedName known) s y (root_of s y) (equation_names known s equations) (to_root s y) h

module _ (p : List Stmt) (known : List VarName) (s : Store) (stack : Stack) (equations : Each (EachOfEquation (IsKnown known)) s) (names : EachOfStack (IsKnown known) stack) where
  stack_names : EachOfStack (IsAwaitedName known) stack
  stack_names = Each-weaker _ _ (EachOfItem-weaker (IsKnown known) (IsAwaitedName known) (known_awaited known)) stack names

  -- for the node of a class
  pub needs_known : (z x : VarName) → stack_need p s stack ≡ Waits z → IsClassName s z x → IsAwaited known x
  needs_known z x need class =
      class_names (IsAwaitedName known) s z x (equation_names known s equations) class.0 (stack_need_names (IsAwaitedName known) (inl refl) p s stack z (equation_names known s equations) stack_names need)

  -- for one of several
  pub several_known : (q : Pair) (xs : List VarName) → stack_need p s stack ≡ WaitsAny q → compared s q ≡ Open xs → Each (λ (y : VarName). IsAwaited known y) xs
  several_known q xs need open_on =
      each_in (λ (y : VarName). IsAwaited known y) xs
      (λ y k. open_has (IsAwaitedName known) s (equation_names known s equations) q xs y (stack_several_has (IsAwaitedName known) p s stack q (inl (inl refl)) (equation_names known s equations) stack_names need) open_on k)
