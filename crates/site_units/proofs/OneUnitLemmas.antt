-- A unit of a thread is one: the site and the thread tell what it does.
use Rattle.site_model.specs.Cells.{effect_here}
use Rattle.std.specs.Prelude.{◌==◌}
use Rattle.std.proofs.Common.{◌≡◌, ◌∙◌, sym, ap, subst, ℕ, List, [], Option, Some, None, inl, inr}
use Rattle.tree_node.specs.declared.names.VarName.{VarName}
use Rattle.tree_node.specs.declared.names.CellName.{CellName}
use Rattle.tree_node.specs.declared.names.PortName.{PortName}
use Rattle.tree_node.specs.declared.names.ThreadName.{ThreadName}
use Rattle.tree_node.specs.declared.node.Node.{Node}
use Rattle.tree_node.specs.declared.node.Term.{Term}
use Rattle.tree_node.specs.declared.node.Term.TheVariants as term
use Rattle.tree_node.specs.Compare.{Open}
use Rattle.tree_node.specs.Goal.{IsOfSide, IsOpenAt}
use Rattle.tree_node.specs.Order.{IsBelow}
use Rattle.tree_node.specs.State.{Stack}
use Rattle.tree_node.specs.Store.{Store, IsFree, root_of}
use Rattle.tree_store.specs.Forest.{IsForest}
use Rattle.tree_store.proofs.ForestLemmas.{one_free, free_none}
use Rattle.kernel_syntax.specs.declared.stmt.Stmt.{Stmt}
use Rattle.oz_model.specs.Need.{Need, Waits, WaitsAny, Binds, Takes, stack_need}
use Rattle.oz_model.specs.Effect.{CellChange, Stays, Made, Exchanged, PortChange, Keeps, Opened, Sent, Effect}
use Rattle.thread_roster.specs.declared.mode.Mode.TheVariants.{Runs}
use Rattle.thread_roster.specs.declared.mode.Mode.TheVariants as mode
use Rattle.site_model.specs.Site.{Site, ThreadState}
use Rattle.site_model.specs.Transition.{Transition, without_output}
use Rattle.site_model.specs.Unit.{IsRootBind, IsExchangeUnit, IsHomeUnit, IsCellUnit, IsSendUnit, IsStepOrRequest, IsUnitFor, IsUnit, bind_attempt, with_mode, thread_step, kept_step, fresh_names}
use Rattle.tree_node.proofs.NameLemmas.{below_not, below_trans}
use Rattle.tree_node.proofs.ClassLemmas.{roots_tell_classes}

-- ---- which bind

no_node : (n : Node) → None ≡ Some n → ⊥
no_node n e = cc

same_node : (m n : Node) → Some m ≡ Some n → m ≡ n
same_node m n e = cc

-- an open side has one root
open_one : (s : Store) (a : Term) (u v : VarName) → IsForest s → IsOpenAt s a u → IsOpenAt s a v → IsFree s u → IsFree s v → u ≡ v
open_one s (term.Var x) u v f h k fu fv = one_free s u v f fu fv (h.0 ∙ sym k.0)
open_one s (term.Node n) u v f h k fu fv = absurd h

-- an open side has no node
open_bare : (s : Store) (a : Term) (u : VarName) (n : Node) → IsOpenAt s a u → IsOfSide s a (term.Node n) → ⊥
open_bare s (term.Var x) u n h k = no_node n (sym h.1 ∙ k)
open_bare s (term.Node m) u n h k = h

-- an open side's root is the root that it lends
open_root : (s : Store) (a : Term) (u v : VarName) → IsForest s → IsOpenAt s a u → IsOfSide s a (term.Var v) → IsFree s u → IsFree s v → u ≡ v
open_root s (term.Var x) u v f h k fu fv = one_free s u v f fu fv (h.0 ∙ sym k)
open_root s (term.Node m) u v f h k fu fv = absurd h

-- a side has one node, or one root, and not both
side_one : (s : Store) (b : Term) (m n : Node) → IsOfSide s b (term.Node m) → IsOfSide s b (term.Node n) → m ≡ n
side_one s (term.Var y) m n h k = same_node m n (sym h ∙ k)
side_one s (term.Node l) m n h k = same_node m n (sym h ∙ k)

side_root : (s : Store) (b : Term) (u v : VarName) → IsForest s → IsOfSide s b (term.Var u) → IsOfSide s b (term.Var v) → IsFree s u → IsFree s v → u ≡ v
side_root s (term.Var y) u v f h k fu fv = one_free s u v f fu fv (h ∙ sym k)
side_root s (term.Node l) u v f h k fu fv = absurd h

side_mixed : (s : Store) (b : Term) (n : Node) (v : VarName) → IsForest s → IsOfSide s b (term.Node n) → IsOfSide s b (term.Var v) → IsFree s v → ⊥
side_mixed s (term.Var y) n v f h k fv = no_node n (sym (free_none s y v f fv k) ∙ h)
side_mixed s (term.Node l) n v f h k fv = k

-- the two sides cannot both be bound to each other
not_both : (u v : VarName) → IsBelow v u → IsBelow u v → ⊥
not_both u v low up = below_not u (below_trans u v u up low)

pub bind_is_one : (s : Store) (a b : Term) (u v : VarName) (t r : Term) → IsForest s → IsRootBind s a b u t → IsRootBind s a b v r → (u ≡ v) × (t ≡ r)
bind_is_one s a b u v (term.Node m) (term.Node n) f (inl h, fu, low, root) (inl k, fv, low2, root2) = (open_one s a u v f h.0 k.0 fu fv, ap (λ (x : Node). term.Node x) (side_one s b m n h.1 k.1))
bind_is_one s a b u v (term.Node m) (term.Node n) f (inl h, fu, low, root) (inr k, fv, low2, root2) = absurd (open_bare s b v m k.0 h.1)
bind_is_one s a b u v (term.Node m) (term.Node n) f (inr h, fu, low, root) (inl k, fv, low2, root2) = absurd (open_bare s a v m k.0 h.1)
bind_is_one s a b u v (term.Node m) (term.Node n) f (inr h, fu, low, root) (inr k, fv, low2, root2) = (open_one s b u v f h.0 k.0 fu fv, ap (λ (x : Node). term.Node x) (side_one s a m n h.1 k.1))
bind_is_one s a b u v (term.Node m) (term.Var y) f (inl h, fu, low, root) (inl k, fv, low2, root2) = absurd (side_mixed s b m y f h.1 k.1 root2)
bind_is_one s a b u v (term.Node m) (term.Var y) f (inl h, fu, low, root) (inr k, fv, low2, root2) = absurd (open_bare s b v m k.0 h.1)
bind_is_one s a b u v (term.Node m) (term.Var y) f (inr h, fu, low, root) (inl k, fv, low2, root2) = absurd (open_bare s a v m k.0 h.1)
bind_is_one s a b u v (term.Node m) (term.Var y) f (inr h, fu, low, root) (inr k, fv, low2, root2) = absurd (side_mixed s a m y f h.1 k.1 root2)
bind_is_one s a b u v (term.Var x) (term.Node n) f (inl h, fu, low, root) (inl k, fv, low2, root2) = absurd (side_mixed s b n x f k.1 h.1 root)
bind_is_one s a b u v (term.Var x) (term.Node n) f (inl h, fu, low, root) (inr k, fv, low2, root2) = absurd (open_bare s a u n h.0 k.1)
bind_is_one s a b u v (term.Var x) (term.Node n) f (inr h, fu, low, root) (inl k, fv, low2, root2) = absurd (open_bare s b u n h.0 k.1)
bind_is_one s a b u v (term.Var x) (term.Node n) f (inr h, fu, low, root) (inr k, fv, low2, root2) = absurd (side_mixed s a n x f k.1 h.1 root)
bind_is_one s a b u v (term.Var x) (term.Var y) f (inl h, fu, low, root) (inl k, fv, low2, root2) = (open_one s a u v f h.0 k.0 fu fv, ap (λ (z : VarName). term.Var z) (side_root s b x y f h.1 k.1 root root2))
bind_is_one s a b u v (term.Var x) (term.Var y) f (inl h, fu, low, root) (inr k, fv, low2, root2) =
    let uy : u ≡ y = open_root s a u y f h.0 k.1 fu root2 in
    let vx : v ≡ x = open_root s b v x f k.0 h.1 fv root in
    absurd (not_both u v (subst (λ (z : VarName). IsBelow z u) (sym vx) low) (subst (λ (z : VarName). IsBelow z v) (sym uy) low2))
bind_is_one s a b u v (term.Var x) (term.Var y) f (inr h, fu, low, root) (inl k, fv, low2, root2) =
    let uy : u ≡ y = open_root s b u y f h.0 k.1 fu root2 in
    let vx : v ≡ x = open_root s a v x f k.0 h.1 fv root in
    absurd (not_both u v (subst (λ (z : VarName). IsBelow z u) (sym vx) low) (subst (λ (z : VarName). IsBelow z v) (sym uy) low2))
bind_is_one s a b u v (term.Var x) (term.Var y) f (inr h, fu, low, root) (inr k, fv, low2, root2) = (open_one s b u v f h.0 k.0 fu fv, ap (λ (z : VarName). term.Var z) (side_root s a x y f h.1 k.1 root root2))

-- ---- which unit

none_some : (v : VarName) → None ≡ Some v → ⊥
none_some v e = cc

exchange_is_one : (limit : ℕ) (th : ThreadName) (st : Stack) (s : Site) (step : Transition) (c : CellName) (new : VarName) (d e : Transition)
    → IsExchangeUnit limit th st s step c new d → IsExchangeUnit limit th st s step c new e → d ≡ e
exchange_is_one limit th st s step c new d e (inl h) (inl k) = h.1 ∙ sym k.1
exchange_is_one limit th st s step c new d e (inl h) (inr k) = absurd (k.0 h.0)
exchange_is_one limit th st s step c new d e (inr h) (inl k) = absurd (h.0 k.0)
exchange_is_one limit th st s step c new d e (inr h) (inr k) = h.1 ∙ sym k.1

home_is_one : (limit : ℕ) (th : ThreadName) (st : Stack) (s : Site) (kept : Transition) (c : CellName) (new : VarName) (d e : Transition)
    → IsHomeUnit limit th st s kept c new d → IsHomeUnit limit th st s kept c new e → d ≡ e
home_is_one limit th st s kept c new d e (inl h) (inl k) = h.1 ∙ sym k.1
home_is_one limit th st s kept c new d e (inl h) (inr (inl k)) = absurd (k.0 h.0.0)
home_is_one limit th st s kept c new d e (inl h) (inr (inr k)) = absurd (none_some h.0.1 (sym k.1 ∙ h.0.2))
home_is_one limit th st s kept c new d e (inr (inl h)) (inl k) = absurd (h.0 k.0.0)
home_is_one limit th st s kept c new d e (inr (inl h)) (inr (inl k)) = h.1 ∙ sym k.1
home_is_one limit th st s kept c new d e (inr (inl h)) (inr (inr k)) = absurd (h.0 k.0)
home_is_one limit th st s kept c new d e (inr (inr h)) (inl k) = absurd (none_some k.0.1 (sym h.1 ∙ k.0.2))
home_is_one limit th st s kept c new d e (inr (inr h)) (inr (inl k)) = absurd (k.0 h.0)
home_is_one limit th st s kept c new d e (inr (inr h)) (inr (inr k)) = h.2 ∙ sym k.2

cell_is_one : (limit : ℕ) (th : ThreadName) (st : Stack) (s : Site) (step kept : Transition) (c : CellChange) (d e : Transition)
    → IsCellUnit limit th st s step kept c d → IsCellUnit limit th st s step kept c e → d ≡ e
cell_is_one limit th st s step kept Stays d e h k = h ∙ sym k
cell_is_one limit th st s step kept (Made c v) d e (inl h) (inl k) = h.1 ∙ sym k.1
cell_is_one limit th st s step kept (Made c v) d e (inl h) (inr k) = absurd (k.0 h.0)
cell_is_one limit th st s step kept (Made c v) d e (inr h) (inl k) = absurd (h.0 k.0)
cell_is_one limit th st s step kept (Made c v) d e (inr h) (inr k) = h.1 ∙ sym k.1
cell_is_one limit th st s step kept (Exchanged c new told) d e (inl h) (inl k) = exchange_is_one limit th st s step c new d e h.1 k.1
cell_is_one limit th st s step kept (Exchanged c new told) d e (inl h) (inr k) = absurd (k.0 h.0)
cell_is_one limit th st s step kept (Exchanged c new told) d e (inr h) (inl k) = absurd (h.0 k.0)
cell_is_one limit th st s step kept (Exchanged c new told) d e (inr h) (inr k) = home_is_one limit th st s kept c new d e h.1 k.1

send_is_one : (limit : ℕ) (th : ThreadName) (st : Stack) (s : Site) (kept : Transition) (q : PortName) (d e : Transition)
    → IsSendUnit limit th st s kept q d → IsSendUnit limit th st s kept q e → d ≡ e
send_is_one limit th st s kept q d e (inl h) (inl k) = h.3 ∙ sym k.3
send_is_one limit th st s kept q d e (inl h) (inr (inl k)) = absurd (k.0 h.0)
send_is_one limit th st s kept q d e (inl h) (inr (inr k)) = absurd (none_some h.1 (sym k.1 ∙ h.2))
send_is_one limit th st s kept q d e (inr (inl h)) (inl k) = absurd (h.0 k.0)
send_is_one limit th st s kept q d e (inr (inl h)) (inr (inl k)) = h.1 ∙ sym k.1
send_is_one limit th st s kept q d e (inr (inl h)) (inr (inr k)) = absurd (h.0 k.0)
send_is_one limit th st s kept q d e (inr (inr h)) (inl k) = absurd (none_some k.1 (sym h.1 ∙ k.2))
send_is_one limit th st s kept q d e (inr (inr h)) (inr (inl k)) = absurd (k.0 h.0)
send_is_one limit th st s kept q d e (inr (inr h)) (inr (inr k)) = h.2 ∙ sym k.2

step_is_one : (limit : ℕ) (th : ThreadName) (st : Stack) (s : Site) (step kept : Transition) (f : Effect) (d e : Transition)
    → IsStepOrRequest limit th st s step kept f d → IsStepOrRequest limit th st s step kept f e → d ≡ e
step_is_one limit th st s step kept f d e h k = go f.port h k
  where
    go : (q : PortChange) → IsStepOrRequest limit th st s step kept (record f { port = q }) d → IsStepOrRequest limit th st s step kept (record f { port = q }) e → d ≡ e
    go Keeps h k = cell_is_one limit th st s step kept f.cell d e h k
    go (Opened q end) h k = h ∙ sym k
    go (Sent q value new) h k = send_is_one limit th st s kept q d e h k

open_same : (xs ys : List VarName) → Open xs ≡ Open ys → xs ≡ ys
open_same xs ys e = cc

unit_for_is_one : (p : List Stmt) (n limit : ℕ) (s : Site) (th : ThreadName) (st : Stack) (need : Need) (d e : Transition) → IsForest s.equations
    → IsUnitFor p n limit s th st need d → IsUnitFor p n limit s th st need e → d ≡ e
unit_for_is_one p n limit s th st (Waits x) d e f h k =
    let roots : root_of s.equations h.0 ≡ root_of s.equations k.0 = sym ((roots_tell_classes s.equations x h.0).0 h.1.0) ∙ (roots_tell_classes s.equations x k.0).0 k.1.0 in
    let same = one_free s.equations h.0 k.0 f h.1.1 k.1.1 roots in
    h.2 ∙ ap (λ (z : VarName). without_output (with_mode th st (mode.Needs z) s)) same ∙ sym k.2
unit_for_is_one p n limit s th st (WaitsAny q) d e f h k =
    h.2 ∙ ap (λ (xs : List VarName). without_output (with_mode th st (mode.WaitsAny xs) s)) (open_same h.0 k.0 (sym h.1 ∙ k.1)) ∙ sym k.2
unit_for_is_one p n limit s th st (Binds a b) d e f h k =
    let same = bind_is_one s.equations a b h.0 k.0 h.1 k.1 f h.2 k.2 in
    h.3 ∙ ap (λ (u : VarName). bind_attempt p n limit th st u h.1 (u.site == s.records.site) s) same.0
    ∙ ap (λ (t : Term). bind_attempt p n limit th st k.0 t (k.0.site == s.records.site) s) same.1 ∙ sym k.3
unit_for_is_one p n limit s th st (Takes kinds) d e f h k =
    step_is_one limit th st s (thread_step p n limit th st kinds (fresh_names s kinds) None s) (kept_step p limit th st kinds (fresh_names s kinds) s) (effect_here p s (fresh_names s kinds) None st) d e h k

abbrev running_as : Stack → Option ThreadState
running_as st = Some (st, Runs)

abbrev stack_at : Option ThreadState → Stack
stack_at None = []
stack_at (Some v) = v.0

same_stack : (st sk : Stack) → running_as st ≡ running_as sk → st ≡ sk
same_stack st sk e = ap stack_at e

pub unit_is_one : (p : List Stmt) (n limit : ℕ) (th : ThreadName) (s : Site) (d e : Transition) → IsForest s.equations → IsUnit p n limit th s d → IsUnit p n limit th s e → d ≡ e
unit_is_one p n limit th s d e f h k =
    let same : k.0 ≡ h.0 = same_stack k.0 h.0 (sym k.1 ∙ h.1) in
    let moved : IsUnitFor p n limit s th h.0 (stack_need p s.equations h.0) e = subst (λ (st : Stack). IsUnitFor p n limit s th st (stack_need p s.equations st) e) same k.2 in
    unit_for_is_one p n limit s th h.0 (stack_need p s.equations h.0) d e f h.2 moved
