-- What homes keep of their cells, as requests are kept and served, as a cell is made, and as its home hears of it.
use Rattle.std.proofs.Common.{◌≡◌, ◌∙◌, sym, ap, refl, subst, ℕ, List, [], ◌∷◌, ◌++◌, ◌⊎◌, inl, inr, Bool, true, false, Some, None}
use Rattle.std.specs.Prelude.{Option, Contains, unwrap_or, ◌≢◌, ◌==◌}
use Rattle.indexmap.specs.IndexMap.{insert_entry}
use Rattle.tree_node.specs.declared.names.VarName.{VarName}
use Rattle.tree_node.specs.declared.names.CellName.{CellName}
use Rattle.tree_node.specs.Assoc.{value_of, with_value}
use Rattle.tree_node.specs.Each.{Each, AreDistinct}
use Rattle.tree_node.specs.Goal.{equal_cell}
use Rattle.tree_node.proofs.ClassLemmas.{Contains-head, Contains-tail}
use Rattle.oz_model.proofs.ExchangeLemmas.{put_here, put_there}
use Rattle.oz_model.proofs.KindLemmas.{cell_cases, cell_same, cells_differ}
use Rattle.bind_protocol.specs.Records.{Records}
use Rattle.site_model.specs.Site.{Site, EarlyRequest, HomeRecord, unheard_cell}
use Rattle.site_model.proofs.CellKeyLemmas.{entry_here, entry_other}
use Rattle.world_model.specs.Claims.{home_in}
use Rattle.world_model.specs.Keepers.{HomesMatch, IsTold, homes, content_at, early_at}
use Rattle.world_model.specs.Names.{IsHere}
use Rattle.world_model.specs.World.{Sites, Mail, put}
use Rattle.world_model.proofs.PutLemmas.{nat_decides, at_all, at_here}
use Rattle.world_model.proofs.MobileLemmas.{Cells}

abbrev pub Homes : Type 0
Homes = ℕ → List (CellName × HomeRecord)

-- ---- tables

pub home_here : (hs : List (CellName × HomeRecord)) (c : CellName) (h : HomeRecord) → home_in (insert_entry equal_cell hs c h) c ≡ h
home_here hs c h = ap (λ (o : Option HomeRecord). unwrap_or o unheard_cell) (entry_here hs c h)

pub home_there : (hs : List (CellName × HomeRecord)) (c d : CellName) (h : HomeRecord) → c ≢ d → home_in (insert_entry equal_cell hs c h) d ≡ home_in hs d
home_there hs c d h other = ap (λ (o : Option HomeRecord). unwrap_or o unheard_cell) (entry_other hs c d h (λ e. other (sym e)))

-- one home keeps this of its cell, and all else stays
pub record Rehomed (hs gs : Homes) (c : CellName) (h : HomeRecord) : Type 0 where
  pub own : home_in (gs c.at) c ≡ h
  pub others : (i : ℕ) (d : CellName) → (i ≡ c.at → c ≢ d) → home_in (gs i) d ≡ home_in (hs i) d

pub rehomed : (f : Sites) (i : ℕ) (s : Site) (c : CellName) (h : HomeRecord) → c.at ≡ i → s.homes ≡ insert_entry equal_cell (f i).homes c h → Rehomed (homes f) (homes (put f i s)) c h
rehomed f i s c h home is = record {
  own = ap (λ (k : ℕ). home_in (homes (put f i s) k) c) home ∙ ap (λ (x : Site). home_in x.homes c) (at_here f i s) ∙ ap (λ (hs : List (CellName × HomeRecord)). home_in hs c) is ∙ home_here (f i).homes c h;
  others = at_all f i s (λ k (x : Site). (d : CellName) → (k ≡ c.at → c ≢ d) → home_in x.homes d ≡ home_in (homes f k) d)
      (λ d other. ap (λ (hs : List (CellName × HomeRecord)). home_in hs d) is ∙ home_there (f i).homes c d h (other (sym home))) (λ k far d other. refl);
}

pub content_own : (hs gs : Homes) (c : CellName) (h : HomeRecord) → Rehomed hs gs c h → content_at gs c ≡ h.content
content_own hs gs c h r = ap (λ (x : HomeRecord). x.content) r.own

pub early_own : (hs gs : Homes) (c : CellName) (h : HomeRecord) → Rehomed hs gs c h → early_at gs c ≡ h.early
early_own hs gs c h r = ap (λ (x : HomeRecord). x.early) r.own

pub content_other : (hs gs : Homes) (c : CellName) (h : HomeRecord) → Rehomed hs gs c h → (d : CellName) → c ≢ d → content_at gs d ≡ content_at hs d
content_other hs gs c h r d other = ap (λ (x : HomeRecord). x.content) (r.others d.at d (λ e. other))

pub early_other : (hs gs : Homes) (c : CellName) (h : HomeRecord) → Rehomed hs gs c h → (d : CellName) → c ≢ d → early_at gs d ≡ early_at hs d
early_other hs gs c h r d other = ap (λ (x : HomeRecord). x.early) (r.others d.at d (λ e. other))

-- nothing changed
pub same_homes : (hs gs : Homes) (records more : ℕ → Records) (mail now : Mail) (cells : Cells) → ◌≡◌ {A = Homes} gs hs → ((i : ℕ) (y : VarName) → IsHere (records i) y → IsHere (more i) y) →
    ((k to : ℕ) (c : CellName) (v : VarName) → IsTold now k to c v → IsTold mail k to c v) → ((k to : ℕ) (c : CellName) (v : VarName) → IsTold mail k to c v → IsTold now k to c v) →
    HomesMatch hs records mail cells → HomesMatch gs more now cells
same_homes hs gs records more mail now cells same wider from old k = subst (λ (f : Homes). HomesMatch f more now cells) (sym same) (record {
  kept = λ d v real at. go d v (k.kept d v real at);
  back = λ i d v at. (let r = k.back i d v at in (r.0, r.1, r.2, wider i v r.3));
  makes = λ j to d v h. k.makes j to d v (from j to d v h);
  once = λ j l a b d v u h g. k.once j l a b d v u (from j a d v h) (from l b d u g);
  lists = k.lists;
})
  where
    go : (d : CellName) (v : VarName) → (content_at hs d ≡ Some v) ⊎ ((content_at hs d ≡ None) × (j : ℕ) × IsTold mail j d.at d v) → (content_at hs d ≡ Some v) ⊎ ((content_at hs d ≡ None) × (j : ℕ) × IsTold now j d.at d v)
    go d v (inl h) = inl h
    go d v (inr (e, j, h)) = inr (e, j, old j d.at d v h)

-- ---- one cell changes

module _ (hs gs : Homes) (records more : ℕ → Records) (mail now : Mail) (cells to_cells : Cells) (c : CellName) (h : HomeRecord) (k : HomesMatch hs records mail cells) (r : Rehomed hs gs c h)
    (wider : (i : ℕ) (y : VarName) → IsHere (records i) y → IsHere (more i) y) (found : (d : CellName) → c ≢ d → value_of equal_cell to_cells d ≡ value_of equal_cell cells d)
    (from : (j to : ℕ) (d : CellName) (v : VarName) → c ≢ d → IsTold now j to d v → IsTold mail j to d v) (old : (j to : ℕ) (d : CellName) (v : VarName) → c ≢ d → IsTold mail j to d v → IsTold now j to d v) where
  pub kept_at : ((v : VarName) → c.at ≢ 0 → value_of equal_cell to_cells c ≡ Some v → (h.content ≡ Some v) ⊎ ((h.content ≡ None) × (j : ℕ) × IsTold now j c.at c v)) →
      ((v : VarName) → h.content ≡ Some v → (c.at ≢ 0) × (value_of equal_cell to_cells c ≡ Some v) × IsHere (more c.at) v) →
      ((j to : ℕ) (v : VarName) → IsTold now j to c v → (to ≡ c.at) × (c.at ≢ 0) × (h.content ≡ None) × (value_of equal_cell to_cells c ≡ Some v)) →
      ((j l a b : ℕ) (v u : VarName) → IsTold now j a c v → IsTold now l b c u → j ≡ l) → AreDistinct h.early → HomesMatch gs more now to_cells
  kept_at keeps backs made single list = record {
    kept = λ d v real at. kept d v real at (cell_cases c d);
    back = λ i d v at. back i d v at (cell_cases c d);
    makes = λ j to d v q. makes j to d v q (cell_cases c d);
    once = λ j l a b d v u q g. once j l a b d v u q g (cell_cases c d);
    lists = λ d. lists d (cell_cases c d);
  }
    where
      own : content_at gs c ≡ h.content
      own = content_own hs gs c h r

      same : (d : CellName) → c ≢ d → content_at gs d ≡ content_at hs d
      same = content_other hs gs c h r

      kept : (d : CellName) (v : VarName) → d.at ≢ 0 → value_of equal_cell to_cells d ≡ Some v → (c ≡ d) ⊎ (c ≢ d) → (content_at gs d ≡ Some v) ⊎ ((content_at gs d ≡ None) × (j : ℕ) × IsTold now j d.at d v)
      kept d v real at (inl e) = subst (λ (y : CellName). (content_at gs y ≡ Some v) ⊎ ((content_at gs y ≡ None) × (j : ℕ) × IsTold now j y.at y v)) e
          (go (keeps v (subst (λ (y : CellName). y.at ≢ 0) (sym e) real) (subst (λ (y : CellName). value_of equal_cell to_cells y ≡ Some v) (sym e) at)))
        where
          go : (h.content ≡ Some v) ⊎ ((h.content ≡ None) × (j : ℕ) × IsTold now j c.at c v) → (content_at gs c ≡ Some v) ⊎ ((content_at gs c ≡ None) × (j : ℕ) × IsTold now j c.at c v)
          go (inl q) = inl (own ∙ q)
          go (inr (q, j, t)) = inr (own ∙ q, j, t)
      kept d v real at (inr other) = go (k.kept d v real (sym (found d other) ∙ at))
        where
          go : (content_at hs d ≡ Some v) ⊎ ((content_at hs d ≡ None) × (j : ℕ) × IsTold mail j d.at d v) → (content_at gs d ≡ Some v) ⊎ ((content_at gs d ≡ None) × (j : ℕ) × IsTold now j d.at d v)
          go (inl q) = inl (same d other ∙ q)
          go (inr (e, j, q)) = inr (same d other ∙ e, j, old j d.at d v other q)

      back : (i : ℕ) (d : CellName) (v : VarName) → (home_in (gs i) d).content ≡ Some v → (c ≡ d) ⊎ (c ≢ d) → (d.at ≡ i) × (i ≢ 0) × (value_of equal_cell to_cells d ≡ Some v) × IsHere (more i) v
      back i d v at (inr other) =
          let q = k.back i d v (ap (λ (x : HomeRecord). x.content) (sym (r.others i d (λ e. other))) ∙ at) in
          (q.0, q.1, found d other ∙ q.2, wider i v q.3)
      back i d v at (inl e) = subst (λ (y : CellName). (y.at ≡ i) × (i ≢ 0) × (value_of equal_cell to_cells y ≡ Some v) × IsHere (more i) v) e (go (i == c.at) refl)
        where
          here : (home_in (gs i) c).content ≡ Some v
          here = subst (λ (y : CellName). (home_in (gs i) y).content ≡ Some v) (sym e) at

          go : (b : Bool) → (i == c.at) ≡ b → (c.at ≡ i) × (i ≢ 0) × (value_of equal_cell to_cells c ≡ Some v) × IsHere (more i) v
          go true q =
              let place : i ≡ c.at = (nat_decides i c.at).0 q in
              let g = backs v (sym own ∙ subst (λ (n : ℕ). (home_in (gs n) c).content ≡ Some v) place here) in
              (sym place, subst (λ (n : ℕ). n ≢ 0) (sym place) g.0, g.1, subst (λ (n : ℕ). IsHere (more n) v) (sym place) g.2)
          go false q =
              let far : i ≢ c.at = (λ z. let yes : (i == c.at) ≡ true = (nat_decides i c.at).1 z in cc) in
              let g = k.back i c v (ap (λ (x : HomeRecord). x.content) (sym (r.others i c (λ z. absurd (far z)))) ∙ here) in absurd (far (sym g.0))

      makes : (j to : ℕ) (d : CellName) (v : VarName) → IsTold now j to d v → (c ≡ d) ⊎ (c ≢ d) → (to ≡ d.at) × (d.at ≢ 0) × (content_at gs d ≡ None) × (value_of equal_cell to_cells d ≡ Some v)
      makes j to d v q (inl e) = subst (λ (y : CellName). (to ≡ y.at) × (y.at ≢ 0) × (content_at gs y ≡ None) × (value_of equal_cell to_cells y ≡ Some v)) e
          (let g = made j to v (subst (λ (y : CellName). IsTold now j to y v) (sym e) q) in (g.0, g.1, own ∙ g.2, g.3))
      makes j to d v q (inr other) = let g = k.makes j to d v (from j to d v other q) in (g.0, g.1, same d other ∙ g.2, found d other ∙ g.3)

      once : (j l a b : ℕ) (d : CellName) (v u : VarName) → IsTold now j a d v → IsTold now l b d u → (c ≡ d) ⊎ (c ≢ d) → j ≡ l
      once j l a b d v u q g (inl e) = single j l a b v u (subst (λ (y : CellName). IsTold now j a y v) (sym e) q) (subst (λ (y : CellName). IsTold now l b y u) (sym e) g)
      once j l a b d v u q g (inr other) = k.once j l a b d v u (from j a d v other q) (from l b d u other g)

      lists : (d : CellName) → (c ≡ d) ⊎ (c ≢ d) → AreDistinct (early_at gs d)
      lists d (inl e) = subst (λ (y : CellName). AreDistinct (early_at gs y)) e (subst AreDistinct (sym (early_own hs gs c h r)) list)
      lists d (inr other) = subst AreDistinct (sym (early_other hs gs c h r d other)) (k.lists d)

-- ---- other requests wait

pub kept_early : (hs gs : Homes) (records more : ℕ → Records) (mail now : Mail) (cells : Cells) (c : CellName) (early : List EarlyRequest) → HomesMatch hs records mail cells → Rehomed hs gs c (record { content = content_at hs c; early = early }) →
    ((i : ℕ) (y : VarName) → IsHere (records i) y → IsHere (more i) y) → ((j to : ℕ) (d : CellName) (v : VarName) → IsTold now j to d v → IsTold mail j to d v) → ((j to : ℕ) (d : CellName) (v : VarName) → IsTold mail j to d v → IsTold now j to d v) →
    AreDistinct early → HomesMatch gs more now cells
kept_early hs gs records more mail now cells c early k r wider from old distinct =
    kept_at hs gs records more mail now cells cells c (record { content = content_at hs c; early = early }) k r wider (λ d other. refl) (λ j to d v other q. from j to d v q) (λ j to d v other q. old j to d v q)
    (λ v real at. keeps v (k.kept c v real at))
    (λ v at. let q = k.back c.at c v at in (q.1, q.2, wider c.at v q.3))
    (λ j to v q. k.makes j to c v (from j to c v q))
    (λ j l a b v u q g. k.once j l a b c v u (from j a c v q) (from l b c u g)) distinct
  where
    keeps : (v : VarName) → (content_at hs c ≡ Some v) ⊎ ((content_at hs c ≡ None) × (j : ℕ) × IsTold mail j c.at c v) → (content_at hs c ≡ Some v) ⊎ ((content_at hs c ≡ None) × (j : ℕ) × IsTold now j c.at c v)
    keeps v (inl q) = inl q
    keeps v (inr (e, j, q)) = inr (e, j, old j c.at c v q)

-- ---- an exchange at the home

pub kept_exchange : (hs gs : Homes) (records more : ℕ → Records) (mail now : Mail) (cells : Cells) (c : CellName) (new v : VarName) (early : List EarlyRequest) → HomesMatch hs records mail cells → Rehomed hs gs c (record { content = Some new; early = early }) →
    ((i : ℕ) (y : VarName) → IsHere (records i) y → IsHere (more i) y) → ((j to : ℕ) (d : CellName) (u : VarName) → IsTold now j to d u → IsTold mail j to d u) → ((j to : ℕ) (d : CellName) (u : VarName) → IsTold mail j to d u → IsTold now j to d u) →
    content_at hs c ≡ Some v → IsHere (more c.at) new → AreDistinct early → HomesMatch gs more now (with_value equal_cell cells c new)
kept_exchange hs gs records more mail now cells c new v early k r wider from old was known distinct =
    kept_at hs gs records more mail now cells (with_value equal_cell cells c new) c (record { content = Some new; early = early }) k r wider (λ d other. put_there cells c d new (cells_differ c d other)) (λ j to d u other q. from j to d u q) (λ j to d u other q. old j to d u q)
    (λ u real at. inl (sym cell ∙ at))
    (λ u at. let same : new ≡ u = some_same at in (subst (λ (n : ℕ). n ≢ 0) (sym here.0) here.1, cell ∙ ap Some same, subst (λ (y : VarName). IsHere (more c.at) y) same known))
    (λ j to u q. absurd (none j to u (from j to c u q)))
    (λ j l a b u w q g. absurd (none j a u (from j a c u q))) distinct
  where
    here : (c.at ≡ c.at) × (c.at ≢ 0) × (value_of equal_cell cells c ≡ Some v) × IsHere (records c.at) v
    here = k.back c.at c v was

    cell : value_of equal_cell (with_value equal_cell cells c new) c ≡ Some new
    cell = put_here cells c v new here.2

    some_same : {u : VarName} → Some new ≡ Some u → new ≡ u
    some_same {u} e = cc

    none : (j to : ℕ) (u : VarName) → IsTold mail j to c u → ⊥
    none j to u q = let both : ◌≡◌ {A = Option VarName} None (Some v) = sym (k.makes j to c u q).2 ∙ was in absurd (cc)

-- ---- the home hears of the cell

-- ---- a cell is made

module _ (hs : Homes) (records : ℕ → Records) (mail : Mail) (cells : Cells) (c : CellName) (v : VarName) (k : HomesMatch hs records mail cells) (new : value_of equal_cell cells c ≡ None) where
  own_front : value_of equal_cell ((c, v) ∷ cells) c ≡ Some v
  own_front = rw (cell_same c) refl

  other_front : (d : CellName) → c ≢ d → value_of equal_cell ((c, v) ∷ cells) d ≡ value_of equal_cell cells d
  other_front d other = rw (cells_differ c d other) refl

  some_is : {a b : VarName} → Some a ≡ Some b → a ≡ b
  some_is {a} {b} e = cc

  not_both : {u : VarName} → value_of equal_cell cells c ≡ Some u → ⊥
  not_both {u} e = let both : ◌≡◌ {A = Option VarName} None (Some u) = sym new ∙ e in cc

  -- nothing is known of it
  pub nothing_yet : content_at hs c ≡ None
  nothing_yet = go (content_at hs c) refl
    where
      go : (o : Option VarName) → content_at hs c ≡ o → content_at hs c ≡ None
      go None e = e
      go (Some u) e = absurd (not_both (k.back c.at c u e).2)

  none_told : (j a : ℕ) (u : VarName) → IsTold mail j a c u → ⊥
  none_told j a u q = not_both (k.makes j a c u q).3

  -- its home is another site, which is told by message n
  pub kept_told : (more : ℕ → Records) (now : Mail) (n : ℕ) → c.at ≢ 0 → ((i : ℕ) (y : VarName) → IsHere (records i) y → IsHere (more i) y) →
      ((j a : ℕ) (d : CellName) (u : VarName) → IsTold now j a d u → IsTold mail j a d u ⊎ ((j ≡ n) × (a ≡ c.at) × (d ≡ c) × (u ≡ v))) → ((j a : ℕ) (d : CellName) (u : VarName) → IsTold mail j a d u → IsTold now j a d u) → IsTold now n c.at c v →
      HomesMatch hs more now ((c, v) ∷ cells)
  kept_told more now n real wider from old there =
      kept_at hs hs records more mail now cells ((c, v) ∷ cells) c (home_in (hs c.at) c) k (record { own = refl; others = λ i d other. refl }) wider other_front
      (λ j a d u other q. old_one j a d u other (from j a d u q)) (λ j a d u other q. old j a d u q)
      (λ u far at. let same : v ≡ u = some_is (sym own_front ∙ at) in inr (nothing_yet, n, subst (λ (y : VarName). IsTold now n c.at c y) same there))
      (λ u at. let both : ◌≡◌ {A = Option VarName} None (Some u) = sym nothing_yet ∙ at in absurd (cc))
      (λ j a u q. made j a u (from j a c u q))
      (λ j l a b u y q g. single j l a b u y (from j a c u q) (from l b c y g)) (k.lists c)
    where
      old_one : (j a : ℕ) (d : CellName) (u : VarName) → c ≢ d → IsTold mail j a d u ⊎ ((j ≡ n) × (a ≡ c.at) × (d ≡ c) × (u ≡ v)) → IsTold mail j a d u
      old_one j a d u other (inl q) = q
      old_one j a d u other (inr (e, f, g, h)) = absurd (other (sym g))

      made : (j a : ℕ) (u : VarName) → IsTold mail j a c u ⊎ ((j ≡ n) × (a ≡ c.at) × (c ≡ c) × (u ≡ v)) → (a ≡ c.at) × (c.at ≢ 0) × (content_at hs c ≡ None) × (value_of equal_cell ((c, v) ∷ cells) c ≡ Some u)
      made j a u (inl q) = absurd (none_told j a u q)
      made j a u (inr (e, f, g, h)) = (f, real, nothing_yet, own_front ∙ ap Some (sym h))

      single : (j l a b : ℕ) (u y : VarName) → IsTold mail j a c u ⊎ ((j ≡ n) × (a ≡ c.at) × (c ≡ c) × (u ≡ v)) → IsTold mail l b c y ⊎ ((l ≡ n) × (b ≡ c.at) × (c ≡ c) × (y ≡ v)) → j ≡ l
      single j l a b u y (inr e) (inr f) = e.0 ∙ sym f.0
      single j l a b u y (inl q) g = absurd (none_told j a u q)
      single j l a b u y (inr e) (inl g) = absurd (none_told l b y g)

  -- its home is the site that makes it
  pub kept_made : (gs : Homes) (more : ℕ → Records) (now : Mail) → c.at ≢ 0 → Rehomed hs gs c (record { content = Some v; early = [] }) → ((i : ℕ) (y : VarName) → IsHere (records i) y → IsHere (more i) y) →
      ((j a : ℕ) (d : CellName) (u : VarName) → IsTold now j a d u → IsTold mail j a d u) → ((j a : ℕ) (d : CellName) (u : VarName) → IsTold mail j a d u → IsTold now j a d u) → IsHere (more c.at) v → HomesMatch gs more now ((c, v) ∷ cells)
  kept_made gs more now real r wider from old known =
      kept_at hs gs records more mail now cells ((c, v) ∷ cells) c (record { content = Some v; early = [] }) k r wider other_front (λ j a d u other q. from j a d u q) (λ j a d u other q. old j a d u q)
      (λ u far at. inl (sym own_front ∙ at))
      (λ u at. let same : v ≡ u = some_is at in (real, own_front ∙ ap Some same, subst (λ (y : VarName). IsHere (more c.at) y) same known))
      (λ j a u q. absurd (none_told j a u (from j a c u q))) (λ j l a b u y q g. absurd (none_told j a u (from j a c u q))) tt

-- ---- lists

pub distinct_end : {X : Type 0} (xs : List X) (y : X) → AreDistinct xs → ((z : X) → Contains xs z → z ≢ y) → AreDistinct (xs ++ y ∷ [])
distinct_end [] y h f = (tt, tt)
distinct_end {X} (x ∷ xs) y h f = (each xs h.0, distinct_end xs y h.1 (λ z q. f z (Contains-tail x z xs q)))
  where
    each : (zs : List X) → Each (λ z. x ≢ z) zs → Each (λ z. x ≢ z) (zs ++ y ∷ [])
    each [] q = (f x (Contains-head x xs), tt)
    each (z ∷ zs) q = (q.0, each zs q.1)
