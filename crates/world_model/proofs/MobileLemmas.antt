-- The mobile cells among all: which values they have, and what a step does to them.
use Rattle.std.proofs.Common.{◌≡◌, ◌∙◌, sym, ap, refl, List, [], ◌∷◌, Bool, true, false, cond, Some, None}
use Rattle.std.specs.Prelude.{◌≢◌, ◌==◌}
use Rattle.tree_node.specs.declared.names.VarName.{VarName}
use Rattle.tree_node.specs.declared.names.CellName.{CellName}
use Rattle.tree_node.specs.Assoc.{value_of, with_value}
use Rattle.tree_node.specs.Goal.{equal_cell}
use Rattle.oz_model.specs.Effect.{CellChange, Stays, Made, Exchanged}
use Rattle.oz_model.specs.Laws.{FindsCell}
use Rattle.oz_model.specs.Step.{cells_after}
use Rattle.oz_model.proofs.KindLemmas.{equal_cell_decides}
use Rattle.world_model.specs.Chain.{mobile_cells}
use Rattle.world_model.proofs.PutLemmas.{nat_decides}

abbrev pub Cells : Type 0
Cells = List (CellName × VarName)

-- a name that is no other's has no other home
same_home : (d c : CellName) → equal_cell d c ≡ true → c.at ≡ 0 → (d.at == 0) ≡ true
same_home d c e zero = (nat_decides d.at 0).1 (ap (λ (x : CellName). x.at) ((equal_cell_decides d c).0 e) ∙ zero)

far_home : (d c : CellName) → equal_cell d c ≡ true → c.at ≢ 0 → (d.at == 0) ≡ true → ⊥
far_home d c e far q = far (sym (ap (λ (x : CellName). x.at) ((equal_cell_decides d c).0 e)) ∙ (nat_decides d.at 0).0 q)

-- a mobile cell has the content that it has among all
pub mobile_at : (cells : Cells) (c : CellName) → c.at ≡ 0 → value_of equal_cell (mobile_cells cells) c ≡ value_of equal_cell cells c
mobile_at [] c zero = refl
mobile_at ((d, u) ∷ cells) c zero = go (d.at == 0) refl (equal_cell d c) refl (mobile_at cells c zero)
  where
    go : (b : Bool) → (d.at == 0) ≡ b → (q : Bool) → equal_cell d c ≡ q → value_of equal_cell (mobile_cells cells) c ≡ value_of equal_cell cells c →
        value_of equal_cell (cond b ((d, u) ∷ mobile_cells cells) (mobile_cells cells)) c ≡ cond q (Some u) (value_of equal_cell cells c)
    go true f true g ih = rw g refl
    go true f false g ih = rw g ih
    go false f true g ih = let yes = same_home d c g zero in cc
    go false f false g ih = ih

-- a stationary one is none of them
pub mobile_far : (cells : Cells) (c : CellName) → c.at ≢ 0 → value_of equal_cell (mobile_cells cells) c ≡ None
mobile_far [] c far = refl
mobile_far ((d, u) ∷ cells) c far = go (d.at == 0) refl (equal_cell d c) refl (mobile_far cells c far)
  where
    go : (b : Bool) → (d.at == 0) ≡ b → (q : Bool) → equal_cell d c ≡ q → value_of equal_cell (mobile_cells cells) c ≡ None → value_of equal_cell (cond b ((d, u) ∷ mobile_cells cells) (mobile_cells cells)) c ≡ None
    go true f true g ih = absurd (far_home d c g far f)
    go true f false g ih = rw g ih
    go false f q g ih = ih

-- each is mobile, and has its content among all
pub mobile_has : (cells : Cells) (c : CellName) (v : VarName) → value_of equal_cell (mobile_cells cells) c ≡ Some v → (c.at ≡ 0) × (value_of equal_cell cells c ≡ Some v)
mobile_has cells c v e = go (c.at == 0) refl
  where
    go : (b : Bool) → (c.at == 0) ≡ b → (c.at ≡ 0) × (value_of equal_cell cells c ≡ Some v)
    go true q = let zero : c.at ≡ 0 = (nat_decides c.at 0).0 q in (zero, sym (mobile_at cells c zero) ∙ e)
    go false q =
        let none : value_of equal_cell (mobile_cells cells) c ≡ None = mobile_far cells c (λ zero. let yes : (c.at == 0) ≡ true = (nat_decides c.at 0).1 zero in cc) in
        cc

-- what is not there is none of them
pub mobile_none : (cells : Cells) (c : CellName) → value_of equal_cell cells c ≡ None → value_of equal_cell (mobile_cells cells) c ≡ None
mobile_none cells c e = go (c.at == 0) refl
  where
    go : (b : Bool) → (c.at == 0) ≡ b → value_of equal_cell (mobile_cells cells) c ≡ None
    go true q = mobile_at cells c ((nat_decides c.at 0).0 q) ∙ e
    go false q = mobile_far cells c (λ zero. let yes : (c.at == 0) ≡ true = (nat_decides c.at 0).1 zero in cc)

-- two tables that agree on every cell but one have the same mobile ones but that
pub mobile_others : (cells to : Cells) (b : CellName) → value_of equal_cell to b ≡ value_of equal_cell cells b → value_of equal_cell (mobile_cells to) b ≡ value_of equal_cell (mobile_cells cells) b
mobile_others cells to b e = go (b.at == 0) refl
  where
    go : (q : Bool) → (b.at == 0) ≡ q → value_of equal_cell (mobile_cells to) b ≡ value_of equal_cell (mobile_cells cells) b
    go true q = let zero = (nat_decides b.at 0).0 q in mobile_at to b zero ∙ e ∙ sym (mobile_at cells b zero)
    go false q = let far : b.at ≢ 0 = (λ zero. let yes : (b.at == 0) ≡ true = (nat_decides b.at 0).1 zero in cc) in mobile_far to b far ∙ sym (mobile_far cells b far)

-- ---- steps

-- the change is of a mobile cell, or of none
abbrev pub IsMobile : CellChange → Type 0
IsMobile Stays = Unit {0}
IsMobile (Made c v) = c.at ≡ 0
IsMobile (Exchanged c new told) = c.at ≡ 0

exchanged : (cells : Cells) (c : CellName) (new : VarName) → c.at ≡ 0 → mobile_cells (with_value equal_cell cells c new) ≡ with_value equal_cell (mobile_cells cells) c new
exchanged [] c new zero = refl
exchanged ((d, u) ∷ cells) c new zero = go (d.at == 0) refl (equal_cell d c) refl (exchanged cells c new zero)
  where
    go : (b : Bool) → (d.at == 0) ≡ b → (q : Bool) → equal_cell d c ≡ q → mobile_cells (with_value equal_cell cells c new) ≡ with_value equal_cell (mobile_cells cells) c new →
        mobile_cells (cond q ((c, new) ∷ cells) ((d, u) ∷ with_value equal_cell cells c new)) ≡ with_value equal_cell (cond b ((d, u) ∷ mobile_cells cells) (mobile_cells cells)) c new
    go true f true g ih = rw (g, (nat_decides c.at 0).1 zero) refl
    go true f false g ih = rw (g, f) (ap (λ (l : Cells). (d, u) ∷ l) ih)
    go false f true g ih = let yes = same_home d c g zero in cc
    go false f false g ih = rw f ih

-- the mobile cells after a change of one of them
pub mobile_after : (cells : Cells) (ch : CellChange) → IsMobile ch → mobile_cells (cells_after cells ch) ≡ cells_after (mobile_cells cells) ch
mobile_after cells Stays h = refl
mobile_after cells (Made c v) h = rw ((nat_decides c.at 0).1 h) refl
mobile_after cells (Exchanged c new told) h = exchanged cells c new h

-- and after one of a stationary cell
pub mobile_stay : (cells : Cells) (c : CellName) (new : VarName) → c.at ≢ 0 → mobile_cells (with_value equal_cell cells c new) ≡ mobile_cells cells
mobile_stay [] c new far = refl
mobile_stay ((d, u) ∷ cells) c new far = go (equal_cell d c) refl (mobile_stay cells c new far)
  where
    go : (q : Bool) → equal_cell d c ≡ q → mobile_cells (with_value equal_cell cells c new) ≡ mobile_cells cells → mobile_cells (cond q ((c, new) ∷ cells) ((d, u) ∷ with_value equal_cell cells c new)) ≡ mobile_cells ((d, u) ∷ cells)
    go true g ih = let same : d ≡ c = (equal_cell_decides d c).0 g in rw same (no c new u far)
      where
        no : (c : CellName) (new u : VarName) → c.at ≢ 0 → mobile_cells ((c, new) ∷ cells) ≡ mobile_cells ((c, u) ∷ cells)
        no c new u far = one (c.at == 0) refl
          where
            one : (b : Bool) → (c.at == 0) ≡ b → cond b ((c, new) ∷ mobile_cells cells) (mobile_cells cells) ≡ cond b ((c, u) ∷ mobile_cells cells) (mobile_cells cells)
            one true q = absurd (far ((nat_decides c.at 0).0 q))
            one false q = refl
    go false g ih = ap (λ (l : Cells). cond (d.at == 0) ((d, u) ∷ l) l) ih

pub mobile_unmade : (cells : Cells) (c : CellName) (v : VarName) → c.at ≢ 0 → mobile_cells ((c, v) ∷ cells) ≡ mobile_cells cells
mobile_unmade cells c v far = go (c.at == 0) refl
  where
    go : (b : Bool) → (c.at == 0) ≡ b → cond b ((c, v) ∷ mobile_cells cells) (mobile_cells cells) ≡ mobile_cells cells
    go true q = absurd (far ((nat_decides c.at 0).0 q))
    go false q = refl

-- a change finds its mobile cell among the mobile ones
pub finds_mobile : (cells : Cells) (ch : CellChange) → IsMobile ch → FindsCell cells ch → FindsCell (mobile_cells cells) ch
finds_mobile cells Stays h f = tt
finds_mobile cells (Made c v) h f = mobile_none cells c f
finds_mobile cells (Exchanged c new told) h f = (f.0, mobile_at cells c h ∙ f.1)
