-- The ends of ports, and what homes keep of cells and of requests, go on being of known variables.
use Rattle.std.proofs.Common.{◌≡◌, ◌≢◌, ◌∙◌, sym, ap, subst, List, [], ◌∷◌, ◌⊎◌, inl, inr, Bool, true, false, cond, Some, None}
use Rattle.std.specs.Prelude.{Option, Contains, unwrap_or}
use Rattle.std.specs.Map.{lookup}
use Rattle.indexmap.specs.IndexMap.{insert_entry}
use Rattle.tree_node.specs.declared.names.VarName.{VarName}
use Rattle.tree_node.specs.declared.names.CellName.{CellName}
use Rattle.tree_node.specs.declared.names.PortName.{PortName}
use Rattle.tree_node.specs.Goal.{equal_cell, equal_port}
use Rattle.oz_model.proofs.KindLemmas.{cell_cases}
use Rattle.site_model.specs.Site.{HomeRecord, EarlyRequest, unheard_cell}
use Rattle.site_model.proofs.CellKeyLemmas.{entry_here, entry_other}
use Rattle.world_model.specs.Claims.{home_in}
use Rattle.world_messages.specs.Fitting.{KeepsFit}
use Rattle.world_messages.proofs.TermLemmas.{IsMore}

pub keeps_grow : (known more : List VarName) (ps : List (PortName × VarName)) (hs : List (CellName × HomeRecord)) → IsMore known more → KeepsFit known ps hs → KeepsFit more ps hs
keeps_grow known more ps hs w h = record { ends = λ q x e. w x (h.ends q x e); contents = λ c v e. w v (h.contents c v e); early = λ c r at. w r.new (h.early c r at) }

-- ---- ports

-- an end that is kept is the new one, or was kept before
end_cases : (ps : List (PortName × VarName)) (q r : PortName) (v x : VarName) → lookup (equal_port r) (insert_entry equal_port ps q v) ≡ Some x → (v ≡ x) ⊎ (lookup (equal_port r) ps ≡ Some x)
end_cases [] q r v x e = go (equal_port r q) e
  where
    go : (b : Bool) → cond b (Some v) None ≡ Some x → (v ≡ x) ⊎ (◌≡◌ {A = Option VarName} None (Some x))
    go true k = inl (some k)
      where
        some : ◌≡◌ {A = Option VarName} (Some v) (Some x) → v ≡ x
        some k = cc
    go false k = inr k
end_cases ((d, u) ∷ ps) q r v x e = go (equal_port q d) e (λ k. end_cases ps q r v x k)
  where
    some : ◌≡◌ {A = Option VarName} (Some v) (Some x) → v ≡ x
    some k = cc

    new : (b : Bool) → cond b (Some v) (lookup (equal_port r) ps) ≡ Some x → (v ≡ x) ⊎ (cond b (Some u) (lookup (equal_port r) ps) ≡ Some x)
    new true k = inl (some k)
    new false k = inr k

    old : (b : Bool) → cond b (Some u) (lookup (equal_port r) (insert_entry equal_port ps q v)) ≡ Some x → (lookup (equal_port r) (insert_entry equal_port ps q v) ≡ Some x → (v ≡ x) ⊎ (lookup (equal_port r) ps ≡ Some x)) →
        (v ≡ x) ⊎ (cond b (Some u) (lookup (equal_port r) ps) ≡ Some x)
    old true k ih = inr k
    old false k ih = ih k

    go : (b : Bool) → lookup (equal_port r) (cond b ((d, v) ∷ ps) ((d, u) ∷ insert_entry equal_port ps q v)) ≡ Some x → (lookup (equal_port r) (insert_entry equal_port ps q v) ≡ Some x → (v ≡ x) ⊎ (lookup (equal_port r) ps ≡ Some x)) →
        (v ≡ x) ⊎ (lookup (equal_port r) ((d, u) ∷ ps) ≡ Some x)
    go true k ih = new (equal_port r d) k
    go false k ih = old (equal_port r d) k ih

pub keeps_end : (known : List VarName) (ps : List (PortName × VarName)) (hs : List (CellName × HomeRecord)) (q : PortName) (v : VarName) → Contains known v → KeepsFit known ps hs → KeepsFit known (insert_entry equal_port ps q v) hs
keeps_end known ps hs q v k h = record { ends = λ r x e. by r x (end_cases ps q r v x e); contents = h.contents; early = h.early }
  where
    by : (r : PortName) (x : VarName) → (v ≡ x) ⊎ (lookup (equal_port r) ps ≡ Some x) → Contains known x
    by r x (inl e) = subst (Contains known) e k
    by r x (inr e) = h.ends r x e

-- ---- homes

pub keeps_home : (known : List VarName) (ps : List (PortName × VarName)) (hs : List (CellName × HomeRecord)) (c : CellName) (q : HomeRecord) → ((v : VarName) → q.content ≡ Some v → Contains known v) → ((r : EarlyRequest) → Contains q.early r → Contains known r.new) →
    KeepsFit known ps hs → KeepsFit known ps (insert_entry equal_cell hs c q)
keeps_home known ps hs c q f g h = record { ends = h.ends; contents = λ d v e. content d v e (cell_cases d c); early = λ d r at. request d r at (cell_cases d c) }
  where
    here : home_in (insert_entry equal_cell hs c q) c ≡ q
    here = ap (λ (o : Option HomeRecord). unwrap_or o unheard_cell) (entry_here hs c q)

    there : (d : CellName) → d ≢ c → home_in (insert_entry equal_cell hs c q) d ≡ home_in hs d
    there d other = ap (λ (o : Option HomeRecord). unwrap_or o unheard_cell) (entry_other hs c d q other)

    content : (d : CellName) (v : VarName) → (home_in (insert_entry equal_cell hs c q) d).content ≡ Some v → (d ≡ c) ⊎ (d ≢ c) → Contains known v
    content d v e (inl k) = f v (ap (λ (r : HomeRecord). r.content) (sym here) ∙ subst (λ (z : CellName). (home_in (insert_entry equal_cell hs c q) z).content ≡ Some v) k e)
    content d v e (inr k) = h.contents d v (ap (λ (r : HomeRecord). r.content) (sym (there d k)) ∙ e)

    request : (d : CellName) (r : EarlyRequest) → Contains (home_in (insert_entry equal_cell hs c q) d).early r → (d ≡ c) ⊎ (d ≢ c) → Contains known r.new
    request d r at (inl k) = g r (subst (λ (x : HomeRecord). Contains x.early r) here (subst (λ (z : CellName). Contains (home_in (insert_entry equal_cell hs c q) z).early r) k at))
    request d r at (inr k) = h.early d r (subst (λ (x : HomeRecord). Contains x.early r) (there d k) at)
