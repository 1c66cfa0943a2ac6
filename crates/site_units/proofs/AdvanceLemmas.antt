-- A step of a thread where it stands.
use Rattle.std.proofs.Common.{arith, ◌≡◌, ◌≢◌, subst, ℕ, List, [], Some}
use Rattle.std.specs.Prelude.{◌+◌, ◌*◌, ◌<◌, ◌^◌}
use Rattle.tree_node.specs.declared.names.VarName.{VarName}
use Rattle.tree_node.specs.declared.names.ThreadName.{ThreadName}
use Rattle.tree_node.specs.declared.names.Name.{Name}
use Rattle.tree_node.specs.declared.names.Name.TheVariants as name
use Rattle.tree_node.specs.declared.names.NameKind.{NameKind}
use Rattle.tree_node.specs.Assoc.{value_of}
use Rattle.tree_node.specs.Each.{Each}
use Rattle.tree_node.specs.State.{equal_thread}
use Rattle.tree_store.specs.Contents.{Contents}
use Rattle.kernel_syntax.specs.declared.stmt.Stmt.{Stmt}
use Rattle.thread_machine.specs.declared.answer.StepOut.{StepOut}
use Rattle.name_supply.specs.declared.fresh.Fresh.{Fresh}
use Rattle.name_supply.specs.declared.fresh.Fresh.TheVariants as fresh
use Rattle.thread_machine.specs.Running.{Running}
use Rattle.thread_machine.specs.Step.{IsStep, Fits, OutFits, HasThreadSite, fresh_of}
use Rattle.name_supply.specs.Supply.{CanName, IsCounted, site_in, IsMade, HasMade, AreBelow}
use Rattle.name_supply.proofs.MadeLemmas.{counted_in}
use Rattle.thread_roster.specs.declared.mode.Mode.{Mode}
use Rattle.thread_roster.specs.declared.mode.Mode.TheVariants as mode
use Rattle.thread_roster.specs.Threads.{set_value}
use Rattle.thread_roster.proofs.ThreadLemmas.{each_found}
use Rattle.site_units.specs.declared.data.Core.{Core}
use Rattle.site_units.specs.Invariant.{ThreadFits, IsConsistent}
use Rattle.site_units.specs.Units.{IsRunning, IsStepping}
use Rattle.site_units.proofs.ThreadLemmas.{found_same}

pub lent_running : (c : Core) (th : ThreadName) (r v : Running) (m : Mode) → IsRunning c th r → value_of equal_thread c.threads.living th ≡ Some (v, m) → v ≡ r
lent_running c th r v m runs e = found_same c.threads.living th v r m mode.Runs e runs

fits_there : (p : List Stmt) (c : Core) (th : ThreadName) (v : Running) (m : Mode) → IsConsistent p c → value_of equal_thread c.threads.living th ≡ Some (v, m) → ThreadFits p c.variables.store.known (th, (v, m))
fits_there p c th v m h e = each_found (ThreadFits p c.variables.store.known) c.threads.living th (v, m) e h.threads

pub goes_on : (p : List Stmt) (c : Core) (th : ThreadName) (v : Running) (m : Mode) → IsConsistent p c → value_of equal_thread c.threads.living th ≡ Some (v, m) → v.stack ≢ []
goes_on p c th v m h e = (fits_there p c th v m h e).goes

pub fits_now : (p : List Stmt) (c : Core) (th : ThreadName) (v : Running) (m : Mode) → IsConsistent p c → value_of equal_thread c.threads.living th ≡ Some (v, m) → Fits p v c.variables.store
fits_now p c th v m h e = record { stack = (fits_there p c th v m h e).fits; equations = h.equations }

names_for_steps : (s : Contents) (kinds : List NameKind) (f : Fresh) (i n : ℕ) → site_in f ≡ Some i → n < 2 ^ 50 → AreBelow (64 * n + 2 ^ 56) f → Each (λ (x : VarName). IsMade f (name.Var x)) s.known → CanName s kinds f
names_for_steps s kinds (fresh.Counted site sites vars cells procs threads ports) i n e small below made = (omega (arith, below.0), omega (arith, below.1), omega (arith, below.2), omega (arith, below.3), omega (arith, below.4), made)
names_for_steps s kinds (fresh.Given names) i n e small below made = cc

pub can_name : (p : List Stmt) (c : Core) (kinds : List NameKind) → IsConsistent p c → c.steps < 2 ^ 50 → CanName c.variables.store kinds c.fresh
can_name p c kinds h small = names_for_steps c.variables.store kinds c.fresh c.variables.binder.site c.steps h.site small h.below h.known_made

pub stepped : (p : List Stmt) (c0 c1 : Core) (th : ThreadName) (r v q : Running) (o : StepOut) → IsConsistent p c0 → IsRunning c0 th r → v ≡ r → c0.steps < 2 ^ 50 → IsStep p v c0.variables.store c0.fresh o q c1.variables.store c1.fresh →
    Fits p q c1.variables.store → OutFits p c1.variables.store.known o → HasThreadSite o → (IsCounted c0.fresh → Each (λ (x : Name). IsMade c0.fresh x → ⊥) (fresh_of o)) → (IsCounted c0.fresh → Each (HasMade c1.fresh) (fresh_of o)) →
    ((x : Name) → IsMade c0.fresh x → IsMade c1.fresh x) → site_in c1.fresh ≡ site_in c0.fresh → ((n : ℕ) → AreBelow n c0.fresh → AreBelow (n + 64) c1.fresh) → c1.threads.living ≡ set_value c0.threads.living th q →
    c1.threads.ended ≡ c0.threads.ended → c1.variables.binder ≡ c0.variables.binder → c1.cells ≡ c0.cells → c1.ports ≡ c0.ports → c1.homes ≡ c0.homes → c1.sites ≡ c0.sites → c1.steps ≡ c0.steps → IsStepping p c0 c1 th r q o
stepped p c0 c1 th r v q o h runs same room step fits handed place unmade made stays site few living ended records cells ports homes sites steps =
    let counted : IsCounted c0.fresh = counted_in c0.fresh c0.variables.binder.site h.site in
    record {
      consistent = h;
      running = runs;
      room = room;
      step = subst (λ (x : Running). IsStep p x c0.variables.store c0.fresh o q c1.variables.store c1.fresh) same step;
      fits = fits;
      handed = handed;
      place = place;
      unmade = unmade counted;
      made = made counted;
      stays = stays;
      site = site;
      few = few;
      living = living;
      ended = ended;
      records = records;
      cells = cells;
      ports = ports;
      homes = homes;
      sites = sites;
      steps = steps;
    }
