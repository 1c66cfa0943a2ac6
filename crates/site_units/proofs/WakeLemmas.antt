-- Threads that were woken: what holds of their stacks, however these are told from the threads, holds of the threads.
use Rattle.std.proofs.Common.{◌≡◌, ◌∙◌, sym, ap, refl, List, [], ◌∷◌, Bool, Some, None}
use Rattle.std.specs.Prelude.{Option}
use Rattle.tree_node.specs.declared.names.VarName.{VarName}
use Rattle.tree_node.specs.declared.item.Item.{Item}
use Rattle.tree_node.specs.declared.item.Item.TheVariants as item
use Rattle.tree_node.specs.State.{Block, Stack}
use Rattle.tree_node.specs.Store.{Store}
use Rattle.thread_machine.specs.Running.{Running}
use Rattle.thread_roster.specs.declared.mode.Mode.{Mode}
use Rattle.thread_roster.specs.Threads.{Entry, wake_where}
use Rattle.thread_roster.specs.Binds.{goes_on}
use Rattle.thread_roster.proofs.ThreadLemmas.{woken_by}
use Rattle.site_model.specs.Site.{Threads}
use Rattle.site_variables.specs.Variables.{stacks_of}
use Rattle.site_units.proofs.ThreadLemmas.{Living}

abbrev told_item : Option VarName → Item Block
told_item None = item.Run (record { 0 = 0 }) []
told_item (Some x) = item.Report x

abbrev told_in : Item Block → Option VarName
told_in (item.Report x) = Some x
told_in _ = None

-- a thread told by a stack
abbrev pub encode : Running → Stack
encode r = item.Report (record { site = r.name.site; num = r.name.num }) ∷ told_item r.told ∷ r.stack

abbrev decode : Stack → Running
decode (item.Report v ∷ i ∷ st) = record { name = record { site = v.site; num = v.num }; stack = st; told = told_in i }
decode _ = record { name = record { site = 0; num = 0 }; stack = []; told = None }

decoded : (r : Running) → decode (encode r) ≡ r
decoded r = go r.told
  where
    go : (o : Option VarName) → ◌≡◌ {A = Running} (record { name = r.name; stack = r.stack; told = told_in (told_item o) }) (record { name = r.name; stack = r.stack; told = o })
    go None = refl
    go (Some x) = refl

abbrev living_of : Threads → Living
living_of [] = []
living_of (t ∷ ts) = (t.0, (decode t.1.0, t.1.1)) ∷ living_of ts

recovered : (ts : Living) → living_of (stacks_of encode ts) ≡ ts
recovered [] = refl
recovered (t ∷ ts) = ap (λ (r : Running). (t.0, (r, t.1.1)) ∷ living_of (stacks_of encode ts)) (decoded t.1.0) ∙ ap (λ (l : Living). t ∷ l) (recovered ts)

woken_seen : (f : Mode → Bool) (ts : Threads) → living_of (wake_where f ts) ≡ wake_where f (living_of ts)
woken_seen f [] = refl
woken_seen f (t ∷ ts) = ap (λ (l : Living). (t.0, (decode t.1.0, woken_by f t.1.1)) ∷ l) (woken_seen f ts)

pub woken_living : (f : Mode → Bool) (old new : Living) → stacks_of encode new ≡ wake_where f (stacks_of encode old) → new ≡ wake_where f old
woken_living f old new h =
    sym (recovered new) ∙ (ap living_of h ∙ (woken_seen f (stacks_of encode old) ∙ ap (wake_where f) (recovered old)))

-- a variable that was bound, and the equations by then
abbrev pub Bind : Type 0
Bind = Store × VarName

-- those go on that go on by one bind after another
abbrev pub woken_each : {V : Type 0} → List Bind → List (Entry V) → List (Entry V)
woken_each [] ts = ts
woken_each (b ∷ bs) ts = woken_each bs (wake_where (goes_on b.0 b.1) ts)

woken_each_seen : (bs : List Bind) (ts : Threads) → living_of (woken_each bs ts) ≡ woken_each bs (living_of ts)
woken_each_seen [] ts = refl
woken_each_seen (b ∷ bs) ts = woken_each_seen bs (wake_where (goes_on b.0 b.1) ts) ∙ ap (woken_each bs) (woken_seen (goes_on b.0 b.1) ts)

pub woken_back : (bs : List Bind) (old new : Living) → stacks_of encode new ≡ woken_each bs (stacks_of encode old) → new ≡ woken_each bs old
woken_back bs old new h = sym (recovered new) ∙ (ap living_of h ∙ (woken_each_seen bs (stacks_of encode old) ∙ ap (woken_each bs) (recovered old)))

-- nothing changed
pub recovered_all : (old new : Living) → stacks_of encode new ≡ stacks_of encode old → new ≡ old
recovered_all old new h = sym (recovered new) ∙ (ap living_of h ∙ recovered old)
