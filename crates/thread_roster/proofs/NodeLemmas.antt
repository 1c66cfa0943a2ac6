-- Who goes on by a bind, and which classes have no node after it.
use Rattle.std.proofs.Common.{◌≡◌, ◌∙◌, sym, ap, refl, List, [], ◌∷◌, ◌||◌, ◌&&◌, Bool, true, false, cond, Option, Some, None}
use Rattle.std.specs.Prelude.{is_some}
use Rattle.tree_node.specs.declared.names.VarName.{VarName}
use Rattle.tree_node.specs.declared.node.Node.{Node}
use Rattle.tree_node.specs.declared.node.Term.{Term}
use Rattle.tree_node.specs.declared.node.Term.TheVariants as term
use Rattle.tree_node.specs.Store.{Store, equal_var, root_of, node_of}
use Rattle.tree_node.proofs.CaseLemmas.{among_same}
use Rattle.tree_node.proofs.ClassLemmas.{same_name_decides}
use Rattle.tree_node.proofs.GrownLemmas.{new_node}
use Rattle.thread_roster.specs.declared.mode.Mode.{Mode}
use Rattle.thread_roster.specs.declared.mode.Mode.TheVariants as mode
use Rattle.thread_roster.specs.Threads.{Entry, wake_all, wake_where, determine_all}
use Rattle.thread_roster.specs.Binds.{is_of_class, by_node, goes_on}
use Rattle.thread_roster.proofs.ThreadLemmas.{woken_by, goes_by, bind_where}

-- ---- who goes on

pub where_alike : {V : Type 0} (f g : Mode → Bool) → ((m : Mode) → f m ≡ g m) → (ts : List (Entry V)) → wake_where f ts ≡ wake_where g ts
where_alike f g h [] = refl
where_alike {V} f g h (t ∷ ts) = ap (λ (b : Bool). (t.0, (t.1.0, cond b mode.Runs t.1.1)) ∷ wake_where f ts) (h t.1.1) ∙ ap (λ (l : List (Entry V)). (t.0, (t.1.0, woken_by g t.1.1)) ∷ l) (where_alike f g h ts)

-- first those that wait for x, then those that need a node that comes
pub binds_where : {V : Type 0} (s : Store) (x : VarName) (ts : List (Entry V)) → determine_all (by_node s x) (wake_all x ts) ≡ wake_where (goes_on s x) ts
binds_where s x ts = bind_where x (by_node s x) ts ∙ where_alike (goes_by x (by_node s x)) (goes_on s x) one ts
  where
    or_none : (a : Bool) → (a || false) ≡ a
    or_none true = refl
    or_none false = refl

    one : (m : Mode) → goes_by x (by_node s x) m ≡ goes_on s x m
    one mode.Runs = refl
    one (mode.Waits y) = or_none (goes_on s x (mode.Waits y))
    one (mode.Needs y) = refl
    one (mode.WaitsAny ys) = or_none (goes_on s x (mode.WaitsAny ys))
    one (mode.WaitsFor c) = refl

-- two stores that give the node to the same
pub goes_alike : (s r : Store) (x : VarName) → ((y : VarName) → by_node s x y ≡ by_node r x y) → (m : Mode) → goes_on s x m ≡ goes_on r x m
goes_alike s r x h mode.Runs = refl
goes_alike s r x h (mode.Waits y) = refl
goes_alike s r x h (mode.Needs y) = h y
goes_alike s r x h (mode.WaitsAny ys) = refl
goes_alike s r x h (mode.WaitsFor c) = refl

-- ---- nodes

-- a class that does not go on by the bind has no node
pub left_none : (s : Store) (w x : VarName) (t : Term) → node_of s x ≡ None → by_node ((w, t) ∷ s) w x ≡ false → node_of ((w, t) ∷ s) x ≡ None
left_none s w x t none left = go (node_of ((w, t) ∷ s) x) refl
  where
    go : (o : Option Node) → node_of ((w, t) ∷ s) x ≡ o → node_of ((w, t) ∷ s) x ≡ None
    go None e = e
    go (Some n) e =
        let roots : root_of ((w, t) ∷ s) x ≡ root_of ((w, t) ∷ s) w = new_node s w x t n none e in
        let node : node_of ((w, t) ∷ s) w ≡ Some n = among_same (root_of ((w, t) ∷ s)) ((w, t) ∷ s) w x (sym roots) ∙ e in
        let yes : by_node ((w, t) ∷ s) w x ≡ true = ap (λ (o : Option Node). is_some o && is_of_class ((w, t) ∷ s) w x) node ∙ (same_name_decides (root_of ((w, t) ∷ s) x) (root_of ((w, t) ∷ s) w)).1 roots in
        let both : true ≡ false = sym yes ∙ left in cc

-- what has a node by its bind gives it to the same where another variable is bound to one besides
pub node_over : (s : Store) (x y : VarName) (n k : Node) (z : VarName) → by_node ((x, term.Node n) ∷ s) x z ≡ by_node ((y, term.Node k) ∷ (x, term.Node n) ∷ s) x z
node_over s x y n k z = ap (λ (b : Bool). b && is_of_class s x z) (own ∙ sym (over (equal_var (root_of s y) (root_of s x))))
  where
    own : is_some (node_of ((x, term.Node n) ∷ s) x) ≡ true
    own = ap (λ (b : Bool). is_some (cond b (Some n) (node_of s x))) ((same_name_decides (root_of s x) (root_of s x)).1 refl)

    over : (b : Bool) → is_some (cond b (Some k) (node_of ((x, term.Node n) ∷ s) x)) ≡ true
    over true = refl
    over false = own
