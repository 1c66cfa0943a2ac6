-- The points of the grammar that a stack stands for.
use Rattle.std.specs.Prelude.{ℕ, ◌≤◌, List, [], ◌∷◌, ◌++◌, map, take, length}
use Rattle.oz_grammar.specs.declared.symbol.Purpose.TheVariants as purpose
use Rattle.tree_node.specs.declared.limits.TheConstants.{MOST_ITEMS}
use Rattle.oz_grammar.specs.Scoping.{Scope}
use Rattle.oz_grammar.specs.Points as points
use Rattle.kernel_check.specs.declared.points.Stage.{Stage}
use Rattle.kernel_check.specs.declared.points.Stage.TheVariants as stages
use Rattle.kernel_check.specs.declared.points.Kind.{Kind}
use Rattle.kernel_check.specs.declared.points.Kind.TheVariants as kinds
use Rattle.kernel_check.specs.declared.points.Point.{Point}
use Rattle.kernel_check.specs.declared.points.Points.{Points}

-- where a statement may begin
abbrev pub stage_of : Stage → points.Stage
stage_of stages.First = points.First
stage_of stages.AfterThread = points.AfterThread
stage_of stages.Later = points.Later

-- a point of this kind, under these declarations, with so many levels left
abbrev pub point_of : Kind → Scope → ℕ → points.Point
point_of (kinds.At stage c) scope d = points.At (stage_of stage) c scope d
point_of (kinds.Here s) scope d = points.Here s
point_of kinds.Used scope d = points.Used scope
point_of kinds.LocalName scope d = points.LocalName scope d
point_of (kinds.ValueOf c) scope d = points.ValueOf c scope d
point_of (kinds.BehindVariable c) scope d = points.BehindVariable c scope d
point_of (kinds.BehindAtom c) scope d = points.BehindAtom c scope d
point_of kinds.SelectionOf scope d = points.SelectionOf scope
point_of kinds.Fields scope d = points.FieldOf purpose.Use scope d MOST_ITEMS [] 1
point_of kinds.CallName scope d = points.CallName scope
point_of (kinds.Arguments n) scope d = points.Arguments scope n
point_of (kinds.Wanted k) scope d = points.Wanted scope k
point_of kinds.PatternOf scope d = points.PatternOf scope d
point_of kinds.ProcName scope d = points.ProcName scope d
point_of kinds.Formals scope d = points.Formals scope [] d
point_of kinds.SiteHere scope d = points.SiteHere
point_of kinds.CatchName scope d = points.CatchName scope d

-- a point of the stack, where these names are declared
abbrev pub seen : Scope → Point → points.Point
seen scope p = point_of p.kind (take p.around scope ++ p.names.items) p.depth

-- all points of the stack
abbrev pub points_of : Points → List points.Point
points_of m = map (seen m.scope) m.stack

-- each point stands within the declarations around those above it, and the first within so many
abbrev pub IsNested : ℕ → List Point → Type 0
IsNested n [] = Unit {0}
IsNested n (p ∷ ps) = (p.around ≤ n) × IsNested p.around ps

-- .. and all of them within those that there are
abbrev pub IsWithin : Points → Type 0
IsWithin m = IsNested (length m.scope) m.stack
