-- Names that count up, and columns of names in runs.
use Rattle.std.specs.Prelude.{◌≡◌, ℕ, zero, suc, ◌+◌, ◌<◌, ◌≤◌, ◌^◌, ◌⊎◌, List, [], ◌∷◌, ◌++◌, length}
use Rattle.tree_node.specs.declared.names.VarName.{VarName}
use Rattle.tree_node.specs.declared.names.Name.{Name}
use Rattle.tree_node.specs.declared.names.Name.TheVariants as name
use Rattle.pick_list.specs.declared.names.NameRun.{NameRun}

-- the variable of the number so many behind; another name has none behind it
abbrev pub name_after : Name → ℕ → Name
name_after (name.Var x) k = name.Var (record { site = x.site; num = x.num + k })
name_after n k = n

-- so many names from one on, whose numbers count up
abbrev pub row_of : Name → ℕ → List Name
row_of x zero = []
row_of x (suc n) = row_of x n ++ name_after x n ∷ []

-- the names of runs, of which the newest stands first, in order
abbrev pub names_in : List NameRun → List Name
names_in [] = []
names_in (r ∷ rs) = names_in rs ++ row_of r.first r.count

-- one name, or variables whose numbers have 64 bits
abbrev pub IsRow : Name → ℕ → Type 0
IsRow (name.Var x) n = (n ≤ 1) ⊎ (x.num + n ≤ 2 ^ 64)
IsRow x n = n ≤ 1

-- the names of a run are such a row
abbrev pub IsRun : NameRun → Type 0
IsRun r = IsRow r.first r.count

-- a variable, whose number has 64 bits, is the one so many behind another one
abbrev pub IsVarAfter : VarName → ℕ → VarName → Type 0
IsVarAfter x n y = (y.site ≡ x.site) × (y.num ≡ x.num + n) × (y.num < 2 ^ 64)

-- the same of names
abbrev pub IsNameAfter : Name → ℕ → Name → Type 0
IsNameAfter (name.Var x) n (name.Var y) = IsVarAfter x n y
IsNameAfter x n y = ⊥

-- a name follows those of the newest of runs
abbrev pub Follows : List NameRun → Name → Type 0
Follows [] y = ⊥
Follows (r ∷ rs) y = IsNameAfter r.first r.count y

-- so many names less, the last ones
pub record IsCutTo (old new : List Name) (n : ℕ) : Type 0 where
  pub tail : List Name
  pub names : old ≡ new ++ tail
  pub size : length tail ≡ n
