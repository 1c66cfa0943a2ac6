-- Worked examples: values as they are shown, by a store, a variable and its line, and what pairs of goals lead to.
use Rattle.std.specs.Prelude.{◌≡◌, ℕ, List, [], ◌∷◌, pos, negsuc, Some, codes}
use Rattle.tree_node.specs.declared.names.VarName.{VarName}
use Rattle.tree_node.specs.declared.node.Feature.TheVariants as feature
use Rattle.tree_node.specs.declared.node.Node.{Node}
use Rattle.tree_node.specs.declared.node.Node.TheVariants as node
use Rattle.tree_node.specs.declared.node.Term.TheVariants as term
use Rattle.tree_node.specs.Store.{Store, Equation, node_of}
use Rattle.tree_node.specs.Goal.{Dropped, Binds, Opened, Failed, IsAllowedBind, case_of}
use Rattle.tree_node.specs.Compare.{compared, Equal, Different, Open}
use Rattle.tree_node.specs.Shown.{Shown, Text, IsNeeded, shown, shown_within}

-- variable number n of site 1
abbrev pub v : ℕ → VarName
v n = record { site = 1; num = n }

-- variable number n equals this node
abbrev pub holds : ℕ → Node → Equation
holds n m = (v n, term.Node m)

-- the list with head x and tail y
abbrev pub list_pair : ℕ → ℕ → Node
list_pair x y = node.Rec (codes "|") ((feature.Int (pos 1), v x) ∷ (feature.Int (pos 2), v y) ∷ [])

-- v0 = f(v1) and v1 = f(v0)
abbrev pub ring : Store
ring =
    holds 0 (node.Rec (codes "f") ((feature.Int (pos 1), v 1) ∷ []))
    ∷ holds 1 (node.Rec (codes "f") ((feature.Int (pos 1), v 0) ∷ [])) ∷ []

-- a ring is shown to level 20
abbrev pub RingIsCut : Type 0
RingIsCut = Shown ring (v 0) (codes "f(f(f(f(f(f(f(f(f(f(f(f(f(f(f(f(f(f(f(f(,,,))))))))))))))))))))")

-- v0 = f(v1 a:v2 b:v1), v1 = ~3 and v2 = 'two words'
abbrev pub quoted : Store
quoted =
    holds 0 (node.Rec (codes "f") ((feature.Int (pos 1), v 1) ∷ (feature.Atom (codes "a"), v 2) ∷ (feature.Atom (codes "b"), v 1) ∷ []))
    ∷ holds 1 (node.Int (negsuc 2)) ∷ holds 2 (node.Atom (codes "two words")) ∷ []

-- a record with a first field, and two by name
abbrev pub FieldsByName : Type 0
FieldsByName = Shown quoted (v 0) (codes "f(~3 a:'two words' b:~3)")

-- v0 = f(~1:v1 0:v1 1:v1 3:v1 b:v1) and v1 = x
abbrev pub places : Store
places =
    holds 0 (node.Rec (codes "f")
    ((feature.Int (negsuc 0), v 1) ∷ (feature.Int (pos 0), v 1) ∷ (feature.Int (pos 1), v 1) ∷ (feature.Int (pos 3), v 1) ∷ (feature.Atom (codes "b"), v 1) ∷ []))
    ∷ holds 1 (node.Atom (codes "x")) ∷ []

-- features ~1, 0, 1, 3 and b: 1 alone goes without its name
abbrev pub FieldsByPlace : Type 0
FieldsByPlace = Shown places (v 0) (codes "f(~1:x 0:x x 3:x b:x)")

-- v0 = '|'(1:v1 3:v1) and v1 = x
abbrev pub bar : Store
bar =
    holds 0 (node.Rec (codes "|") ((feature.Int (pos 1), v 1) ∷ (feature.Int (pos 3), v 1) ∷ []))
    ∷ holds 1 (node.Atom (codes "x")) ∷ []

-- the label of lists with other features than 1 and 2
abbrev pub OtherBar : Type 0
OtherBar = Shown bar (v 0) (codes "'|'(x 3:x)")

-- v0 = v1|v2, v1 = v3|v2, v2 = nil and v3 = a
abbrev pub nested : Store
nested =
    holds 0 (list_pair 1 2) ∷ holds 1 (list_pair 3 2) ∷ holds 2 (node.Atom (codes "nil")) ∷ holds 3 (node.Atom (codes "a")) ∷ []

-- a list in a list
abbrev pub ListInList : Type 0
ListInList = Shown nested (v 0) (codes "(a|nil)|nil")

-- v0 = v1|v2, v1 = v2|v2 and v2 = x
abbrev pub deep : Store
deep = holds 0 (list_pair 1 2) ∷ holds 1 (list_pair 2 2) ∷ holds 2 (node.Atom (codes "x")) ∷ []

-- with at most three nodes
abbrev pub ThreeNodes : Type 0
ThreeNodes = shown_within 3 deep (v 0) ≡ Text (codes "(x|,,,)|,,,") 0

-- with at most one, where the head is cut and stands without brackets
abbrev pub OneNode : Type 0
OneNode = shown_within 1 deep (v 0) ≡ Text (codes ",,,|,,,") 0

-- v0 = f(v1), where v1 has no node
abbrev pub open_field : Store
open_field = holds 0 (node.Rec (codes "f") ((feature.Int (pos 1), v 1) ∷ [])) ∷ []

-- a variable without a node is needed where it is shown
abbrev pub FieldIsNeeded : Type 0
FieldIsNeeded = IsNeeded (shown open_field (v 0)) (v 1)

-- and it is not needed where it is cut
abbrev pub CutIsNotNeeded : Type 0
CutIsNotNeeded = shown_within 1 open_field (v 0) ≡ Text (codes "f(,,,)") 0

-- a node alone shows as this line
abbrev pub ShowsAs : Node → List ℕ → Type 0
ShowsAs n line = Shown (holds 0 n ∷ []) (v 0) line

-- a procedure shows the number of its formals
abbrev pub ProcShows : Type 0
ProcShows = ShowsAs (node.Proc 1 (record { 0 = 3 }) (record { site = 1; num = 0 }) (v 5 ∷ [])) (codes "<P/1>")

-- a cell shows nothing of its name or content
abbrev pub CellShows : Type 0
CellShows = ShowsAs (node.Cell (record { site = 2; at = 0; num = 7 })) (codes "<Cell>")

-- a port prints as <Port>
abbrev pub PortShows : Type 0
PortShows = ShowsAs (node.Port (record { site = 2; num = 7 })) (codes "<Port>")

-- the least integer of 128 bits
abbrev pub LeastShows : Type 0
LeastShows = ShowsAs (node.Int (negsuc 170141183460469231731687303715884105727)) (codes "~170141183460469231731687303715884105728")

-- an atom that is a reserved word stands in quotes
abbrev pub ReservedShows : Type 0
ReservedShows = ShowsAs (node.Atom (codes "if")) (codes "'if'")

-- the empty atom stands in quotes
abbrev pub EmptyShows : Type 0
EmptyShows = ShowsAs (node.Atom []) (codes "''")

-- p(x y)
abbrev pub p_of : ℕ → ℕ → Node
p_of x y = node.Rec (codes "p") ((feature.Int (pos 1), v x) ∷ (feature.Int (pos 2), v y) ∷ [])

-- v1 = 1, v2 = 2 and v5 = 5
abbrev pub three_known : Store
three_known = holds 1 (node.Int (pos 1)) ∷ holds 2 (node.Int (pos 2)) ∷ holds 5 (node.Int (pos 5)) ∷ []

-- v0 = v5, v1 = 1, v2 = 2 and v5 = 5
abbrev pub first_bound : Store
first_bound = (v 0, term.Var (v 5)) ∷ three_known

-- p(v0 v1) and p(v5 v2), where v1 is 1, v2 is 2 and v5 is 5: the records are opened, v0 is bound to v5 and has its node,
-- and 1 and 2 fail
pub record PartsAreTold : Type 0 where
  pub opens : case_of three_known [] (term.Node (p_of 0 1)) (term.Node (p_of 5 2))
      ≡ Opened (p_of 0 1) (p_of 5 2) ((term.Var (v 0), term.Var (v 5)) ∷ (term.Var (v 1), term.Var (v 2)) ∷ [])
  pub binds : case_of three_known ((p_of 0 1, p_of 5 2) ∷ []) (term.Var (v 0)) (term.Var (v 5)) ≡ Binds
  pub to_variable : IsAllowedBind three_known (term.Var (v 0)) (term.Var (v 5)) (v 0, term.Var (v 5))
  pub to_node : IsAllowedBind three_known (term.Var (v 0)) (term.Var (v 5)) (v 0, term.Node (node.Int (pos 5)))
  pub not_back : IsAllowedBind three_known (term.Var (v 0)) (term.Var (v 5)) (v 5, term.Var (v 0)) → ⊥
  pub drops : case_of first_bound ((p_of 0 1, p_of 5 2) ∷ []) (term.Var (v 0)) (term.Var (v 5)) ≡ Dropped
  pub fails : case_of first_bound ((p_of 0 1, p_of 5 2) ∷ []) (term.Var (v 1)) (term.Var (v 2)) ≡ Failed
  pub stays : node_of first_bound (v 0) ≡ Some (node.Int (pos 5))

-- two variables without nodes: either is bound to the other
abbrev pub EitherIsBound : Type 0
EitherIsBound = IsAllowedBind [] (term.Var (v 0)) (term.Var (v 1)) (v 0, term.Var (v 1)) × IsAllowedBind [] (term.Var (v 0)) (term.Var (v 1)) (v 1, term.Var (v 0))

-- f(x)
abbrev pub f_of : ℕ → Node
f_of x = node.Rec (codes "f") ((feature.Int (pos 1), v x) ∷ [])

-- v0 = f(v1) and v1 = f(v0): v0 and v1 are opened, and their fields are the pair that was met, the other way round
abbrev pub RingIsMet : Type 0
RingIsMet =
    (case_of ring [] (term.Var (v 0)) (term.Var (v 1)) ≡ Opened (f_of 1) (f_of 0) ((term.Var (v 1), term.Var (v 0)) ∷ []))
    × (case_of ring ((f_of 1, f_of 0) ∷ []) (term.Var (v 1)) (term.Var (v 0)) ≡ Dropped)

-- v0 = p(v1 v2) and v3 = p(v4 v5), where v2 is 1 and v5 is 2: different, though v1 and v4 have no node
abbrev pub parts_apart : Store
parts_apart = holds 0 (p_of 1 2) ∷ holds 3 (p_of 4 5) ∷ holds 2 (node.Int (pos 1)) ∷ holds 5 (node.Int (pos 2)) ∷ []

-- v0 = p(v1 v1) and v3 = p(v4 v5), where v4 is 1 and v5 is 2: v1 cannot be both, but no pair tells that by itself
abbrev pub parts_together : Store
parts_together = holds 0 (p_of 1 1) ∷ holds 3 (p_of 4 5) ∷ holds 4 (node.Int (pos 1)) ∷ holds 5 (node.Int (pos 2)) ∷ []

-- v0 = p(v1 v2) and v3 = p(v2 v1): each is asked for once
abbrev pub parts_crossed : Store
parts_crossed = holds 0 (p_of 1 2) ∷ holds 3 (p_of 2 1) ∷ []

-- q(x y z)
abbrev pub q_of : ℕ → ℕ → ℕ → Node
q_of x y z = node.Rec (codes "q") ((feature.Int (pos 1), v x) ∷ (feature.Int (pos 2), v y) ∷ (feature.Int (pos 3), v z) ∷ [])

-- v0 = q(v1 v2 v1) and v3 = q(v2 v4 v4), with v1 = f(f(v6)), v2 = f(v7) and v4 = f(f(v9)): v1 and v4 are a pair of their own, which
-- asks for v6 and v9, though both are compared with v2 already
abbrev pub parts_by_three : Store
parts_by_three =
    holds 0 (q_of 1 2 1) ∷ holds 3 (q_of 2 4 4) ∷ holds 1 (f_of 5) ∷ holds 5 (f_of 6) ∷ holds 2 (f_of 7) ∷ holds 4 (f_of 8)
    ∷ holds 8 (f_of 9) ∷ []

-- v1 = v0 and v3 = v2, with v0 = f(v4), v2 = f(v4), v4 = 1 and v5 = a
abbrev pub named_twice : Store
named_twice =
    (v 1, term.Var (v 0)) ∷ (v 3, term.Var (v 2)) ∷ holds 0 (f_of 4) ∷ holds 2 (f_of 4) ∷ holds 4 (node.Int (pos 1))
    ∷ holds 5 (node.Atom (codes "a")) ∷ []

-- what comparisons in these stores answer
pub record PairsAreCompared : Type 0 where
  pub apart : compared parts_apart (v 0, v 3) ≡ Different
  pub together : compared parts_together (v 0, v 3) ≡ Open (v 1 ∷ [])
  pub crossed : compared parts_crossed (v 0, v 3) ≡ Open (v 1 ∷ v 2 ∷ [])
  pub by_three : compared parts_by_three (v 0, v 3) ≡ Open (v 7 ∷ v 6 ∷ v 9 ∷ [])
  pub ring : compared ring (v 0, v 1) ≡ Equal
  pub nothing : compared [] (v 0, v 1) ≡ Open (v 0 ∷ v 1 ∷ [])
  pub itself : compared [] (v 0, v 0) ≡ Equal
  pub one_class : compared ((v 1, term.Var (v 0)) ∷ []) (v 0, v 1) ≡ Equal
  pub one_text : compared named_twice (v 1, v 3) ≡ Equal
  pub other_kind : compared named_twice (v 4, v 5) ≡ Different
  pub record_and_atom : compared named_twice (v 3, v 5) ≡ Different
  pub other_label : compared parts_by_three (v 0, v 1) ≡ Different
  pub one_known : compared named_twice (v 6, v 3) ≡ Open (v 6 ∷ [])
