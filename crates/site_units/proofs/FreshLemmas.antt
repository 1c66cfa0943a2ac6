-- Names by a site's counters.
use Rattle.std.proofs.Common.{arith, ◌≡◌, ◌∙◌, sym, ap, refl, ℕ, zero, suc, ℤ, pos, negsuc, List, [], ◌∷◌, ◌⊎◌, inl, inr, Some, None}
use Rattle.std.specs.Prelude.{Option, Contains, ◌<◌, ◌≤◌}
use Rattle.std.proofs.Math.Numerals.{suc-eq-add-one}
use Rattle.std.proofs.lemmas.Bool.{cases_lt}
use Rattle.tree_node.specs.declared.names.VarName.{VarName}
use Rattle.tree_node.specs.declared.names.Name.{Name}
use Rattle.tree_node.specs.declared.names.Name.TheVariants as name
use Rattle.tree_node.specs.declared.names.NameKind.{NameKind}
use Rattle.tree_node.specs.declared.names.NameKind.TheVariants as kind
use Rattle.tree_node.specs.declared.node.Term.{Term}
use Rattle.tree_node.specs.Each.{Each}
use Rattle.tree_node.proofs.ClassLemmas.{Contains-head, Contains-tail}
use Rattle.oz_model.specs.Effect.{vars_among}
use Rattle.bind_protocol.specs.Records.{Records, IsKnown, knowledge}
use Rattle.name_supply.specs.declared.fresh.Fresh.{Fresh}
use Rattle.name_supply.specs.declared.fresh.Fresh.TheVariants as fresh
use Rattle.name_supply.specs.Supply.{next_name, after_name, names_for, after_names, home_among, known_after, IsCounted, site_in, HasMade}
use Rattle.name_supply.proofs.SupplyLemmas.{kept_after, named_after, each_known}
use Rattle.name_supply.proofs.MadeLemmas.{counted_in, counted_after, site_after}
use Rattle.site_model.specs.Site.{Counters}
use Rattle.site_model.specs.Unit.{counter_after, counters_after, next_names}
use Rattle.site_model.specs.Unit as unit
use Rattle.site_variables.specs.Variables.{IsUnion}
use Rattle.site_units.specs.Core.{counters_of}
use Rattle.tree_node.proofs.OrderLemmas.{Each-member}
use Rattle.tree_node.proofs.EachLemmas.{each_in}
pub use Rattle.site_model.proofs.FrameLemmas.{makes_site}

-- ---- the names that come next

counter_next : (f : Fresh) (k : NameKind) → IsCounted f → counters_of (after_name f k) ≡ counter_after (counters_of f) k
counter_next (fresh.Counted site sites vars cells procs threads ports) k h = go k
  where
    counted : ℕ → ℕ → ℕ → ℕ → ℕ → Counters
    counted v c q t o = record { vars = v; cells = c; procs = q; threads = t; ports = o; sites = sites }

    go : (k : NameKind) → counters_of (after_name (fresh.Counted site sites vars cells procs threads ports) k) ≡ counter_after (counted vars cells procs threads ports) k
    go kind.Var = ap (λ (v : ℕ). counted v cells procs threads ports) (suc-eq-add-one vars)
    go kind.Cell = ap (λ (v : ℕ). counted vars v procs threads ports) (suc-eq-add-one cells)
    go (kind.CellAt home) = ap (λ (v : ℕ). counted vars v procs threads ports) (suc-eq-add-one cells)
    go kind.Proc = ap (λ (v : ℕ). counted vars cells v threads ports) (suc-eq-add-one procs)
    go kind.Thread = ap (λ (v : ℕ). counted vars cells procs v ports) (suc-eq-add-one threads)
    go kind.Port = ap (λ (v : ℕ). counted vars cells procs threads v) (suc-eq-add-one ports)
counter_next (fresh.Given names) k h = absurd h

pub counters_next : (f : Fresh) (ks : List NameKind) → IsCounted f → counters_of (after_names f ks) ≡ counters_after (counters_of f) ks
counters_next f [] h = refl
counters_next f (k ∷ ks) h = counters_next (after_name f k) ks (counted_after f k h) ∙ ap (λ (c : Counters). counters_after c ks) (counter_next f k h)

-- both say the same of a cell's home
home_same : (n : ℕ) (k : ℤ) → home_among n k ≡ unit.home_among n k
home_same zero k = refl
home_same (suc n) (pos zero) = refl
home_same (suc n) (pos (suc k)) = refl
home_same (suc n) (negsuc k) = refl

name_next : (f : Fresh) (i : ℕ) (k : NameKind) → site_in f ≡ Some i → next_name f k ≡ unit.next_name i (counters_of f) k
name_next (fresh.Counted site sites vars cells procs threads ports) i k e = go k (cc)
  where
    go : (k : NameKind) → site ≡ i → next_name (fresh.Counted site sites vars cells procs threads ports) k ≡ unit.next_name i (record { vars = vars; cells = cells; procs = procs; threads = threads; ports = ports; sites = sites }) k
    go kind.Var same = rw same refl
    go kind.Cell same = rw same refl
    go (kind.CellAt home) same = rw (same, home_same sites home) refl
    go kind.Proc same = rw same refl
    go kind.Port same = rw same refl
    go kind.Thread same = rw same refl
name_next (fresh.Given names) i k e = cc

pub names_next : (f : Fresh) (i : ℕ) (ks : List NameKind) → site_in f ≡ Some i → names_for f ks ≡ next_names i (counters_of f) ks
names_next f i [] e = refl
names_next f i (k ∷ ks) e =
    let one : next_name f k ≡ unit.next_name i (counters_of f) k = name_next f i k e in
    let rest : names_for (after_name f k) ks ≡ next_names i (counters_of (after_name f k)) ks = names_next (after_name f k) i ks (site_after f k ∙ e) in
    let then : counters_of (after_name f k) ≡ counter_after (counters_of f) k = counter_next f k (counted_in f i e) in
    rw (one, rest, then) refl

-- ---- which variables were made

step_made : (f : Fresh) (k : NameKind) (x : VarName) → IsCounted f → HasMade (after_name f k) (name.Var x) → HasMade f (name.Var x) ⊎ ((k ≡ kind.Var) × (next_name f k ≡ name.Var x))
step_made (fresh.Counted site sites vars cells procs threads ports) kind.Var x h (at, below) = go (cases_lt x.num vars)
  where
    same : x.site ≡ site
    same = cc

    go : (x.num < vars) ⊎ (vars ≤ x.num) → HasMade (fresh.Counted site sites vars cells procs threads ports) (name.Var x) ⊎ ((kind.Var ≡ kind.Var) × (name.Var (record { site = site; num = vars }) ≡ name.Var x))
    go (inl less) = inl (at, λ e. less)
    go (inr more) =
        let num : x.num ≡ vars = omega (arith, below same) in
        inr (refl, rw (sym same, sym num) refl)
step_made (fresh.Counted site sites vars cells procs threads ports) kind.Cell x h m = inl m
step_made (fresh.Counted site sites vars cells procs threads ports) (kind.CellAt at_home) x h m = inl m
step_made (fresh.Counted site sites vars cells procs threads ports) kind.Proc x h m = inl m
step_made (fresh.Counted site sites vars cells procs threads ports) kind.Port x h m = inl m
step_made (fresh.Counted site sites vars cells procs threads ports) kind.Thread x h m = inl m
step_made (fresh.Given names) k x h m = absurd h

made_head : (n : Name) (ns : List Name) (x : VarName) → n ≡ name.Var x → Contains (vars_among (n ∷ ns)) x
made_head n ns x e = rw e (Contains-head x (vars_among ns))

made_tail : (n : Name) (ns : List Name) (x : VarName) → Contains (vars_among ns) x → Contains (vars_among (n ∷ ns)) x
made_tail (name.Var y) ns x h = Contains-tail y x (vars_among ns) h
made_tail (name.Cell y) ns x h = h
made_tail (name.Proc y) ns x h = h
made_tail (name.Port y) ns x h = h
made_tail (name.Thread y) ns x h = h

-- a variable that was made afterwards was made before, or is one of the names
pub made_split : (f : Fresh) (ks : List NameKind) (x : VarName) → IsCounted f → HasMade (after_names f ks) (name.Var x) → HasMade f (name.Var x) ⊎ Contains (vars_among (names_for f ks)) x
made_split f [] x h m = inl m
made_split f (k ∷ ks) x h m = go (made_split (after_name f k) ks x (counted_after f k h) m)
  where
    here : HasMade f (name.Var x) ⊎ ((k ≡ kind.Var) × (next_name f k ≡ name.Var x)) → HasMade f (name.Var x) ⊎ Contains (vars_among (next_name f k ∷ names_for (after_name f k) ks)) x
    here (inl made) = inl made
    here (inr new) = inr (made_head (next_name f k) (names_for (after_name f k) ks) x new.1)

    go : HasMade (after_name f k) (name.Var x) ⊎ Contains (vars_among (names_for (after_name f k) ks)) x → HasMade f (name.Var x) ⊎ Contains (vars_among (next_name f k ∷ names_for (after_name f k) ks)) x
    go (inl made) = here (step_made f k x h made)
    go (inr new) = inr (made_tail (next_name f k) (names_for (after_name f k) ks) x new)

-- what holds of each variable among names
pub each_var : (P : VarName → Type 0) (A B : Name → Type 0) (ns : List Name) → ((x : VarName) → A (name.Var x) → B (name.Var x) → P x) → Each A ns → Each B ns → Each P (vars_among ns)
each_var P A B [] h a b = tt
each_var P A B (name.Var x ∷ ns) h a b = (h x a.0 b.0, each_var P A B ns h a.1 b.1)
each_var P A B (name.Cell x ∷ ns) h a b = each_var P A B ns h a.1 b.1
each_var P A B (name.Proc x ∷ ns) h a b = each_var P A B ns h a.1 b.1
each_var P A B (name.Port x ∷ ns) h a b = each_var P A B ns h a.1 b.1
each_var P A B (name.Thread x ∷ ns) h a b = each_var P A B ns h a.1 b.1

-- ---- known names

pub unknown_here : (b : Records) (x : VarName) → (IsKnown b x → ⊥) → knowledge b x ≡ None
unknown_here b x h = go (knowledge b x) refl
  where
    go : (k : Option (Option Term)) → knowledge b x ≡ k → knowledge b x ≡ None
    go None e = e
    go (Some t) e = absurd (h (rw e refl))

pub union_after : (known xs : List VarName) → IsUnion known xs (known_after known xs)
union_after known xs x = (parts, whole)
  where
    parts : Contains (known_after known xs) x → Contains known x ⊎ Contains xs x
    parts h =
        Each-member (λ (y : VarName). Contains known y ⊎ Contains xs y) (known_after known xs) x
        (each_known (λ (y : VarName). Contains known y ⊎ Contains xs y) xs known (each_in _ known (λ y m. inl m)) (each_in _ xs (λ y m. inr m))) h

    whole : Contains known x ⊎ Contains xs x → Contains (known_after known xs) x
    whole (inl h) = kept_after known xs x h
    whole (inr h) = Each-member (λ (y : VarName). Contains (known_after known xs) y) xs x (named_after known xs) h
