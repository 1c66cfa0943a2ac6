-- Picks that take no names behind the others, and those of a tell, in the columns.
use Rattle.std.proofs.Common.{arith, ◌≡◌, ◌∙◌, sym, ap, refl, subst, ℕ, zero, suc, ◌+◌, ◌<◌, ◌≤◌, length, List, [], ◌∷◌, ◌++◌, append_assoc, append-nil, Bool, cond, Some, None, ◌⊎◌, inl, inr}
use Rattle.std.specs.Prelude.{reverse}
use Rattle.std.proofs.lemmas.Bool.{le-ltb, cases_eq}
use Rattle.tree_node.specs.declared.names.Name.{Name}
use Rattle.tree_node.specs.declared.names.ThreadName.{ThreadName}
use Rattle.tree_node.specs.declared.pick.Pick.{Pick}
use Rattle.pick_list.specs.declared.columns.Stretch.{Stretch}
use Rattle.pick_list.specs.declared.columns.Naming.{Naming}
use Rattle.pick_list.specs.declared.columns.Bind.{Bind}
use Rattle.pick_list.specs.Columns.{columns_of, thread_at, fresh_at, bind_at, pick_at, picks_below, AreStretches, AreNamings, AreBinds, AreColumns, IsStretchOn, IsNamingOn}
use Rattle.pick_list.specs.Tells.{plain, in_a_row, tell_picks}
use Rattle.pick_list.proofs.ColumnLemmas.{bind_here, bind_other, binds_more, no_bind, no_naming, namings_more, picks_same, same_pick}

-- the newest stretch is that of all picks behind its first
later_thread : (n m : ℕ) (t : ThreadName) (rs : List Stretch) → AreStretches (n + 1) rs → thread_at rs n ≡ t → n ≤ m → thread_at rs m ≡ t
later_thread n m t [] h is p = absurd (omega (arith, h))
later_thread n m t (r ∷ rs) h is p =
    ap (λ (b : Bool). cond b (thread_at rs m) r.thread) (le-ltb m r.first (let below = h.0 in omega arith))
    ∙ (sym (ap (λ (b : Bool). cond b (thread_at rs n) r.thread) (le-ltb n r.first (let below = h.0 in omega arith))) ∙ is)

later_stretches : (n m : ℕ) (rs : List Stretch) → n < m → AreStretches (n + 1) rs → AreStretches m rs
later_stretches n m [] p h = absurd (omega (arith, h))
later_stretches n m (r ∷ rs) p h = (let below = h.0 in omega arith, h.1)

-- one pick was put behind n others, of a thread and without names; the picks behind it are the thread's too
module _ (n : ℕ) (t : ThreadName) (so sn : List Stretch) (no nn : List Naming) (eo en : List Name) (bo bn : List Bind) (held : AreColumns n (columns_of so no eo bo)) (stretch : IsStretchOn n t (reverse so) (reverse sn))
    (naming : IsNamingOn n [] eo (reverse no) (reverse nn)) (names : en ≡ eo ++ []) where
  namings : AreNamings (n + 1) (length en) (reverse nn)
  namings = subst (λ (l : List Name). AreNamings (n + 1) (length l) (reverse nn)) (sym names) naming.namings

  more_columns : (m : ℕ) → n < m → AreBinds m (reverse bn) → AreColumns m (columns_of sn nn en bn)
  more_columns m p binds = record {
    stretches = later_stretches n m (reverse sn) p stretch.stretches;
    namings = namings_more (n + 1) m (length en) (length en) (reverse nn) (omega arith) (omega arith) namings;
    binds = binds;
  }

  thread_is : (m : ℕ) → n ≤ m → thread_at (reverse sn) m ≡ t
  thread_is m p = later_thread n m t (reverse sn) stretch.stretches stretch.last p

  none_named : (m : ℕ) → n ≤ m → fresh_at (reverse nn) en m ≡ []
  none_named m p = go (cases_eq n m)
    where
      go : (n ≡ m) ⊎ (n ≡ m → ⊥) → fresh_at (reverse nn) en m ≡ []
      go (inl is) = subst (λ (k : ℕ). fresh_at (reverse nn) en k ≡ []) is (ap (λ (l : List Name). fresh_at (reverse nn) l n) names ∙ naming.last)
      go (inr other) = no_naming (n + 1) (length en) (reverse nn) en m namings (omega (arith, other))

  plain_at : (m : ℕ) → n ≤ m → bind_at (reverse bn) m ≡ None → pick_at (columns_of sn nn en bn) m ≡ plain t
  plain_at m p none = same_pick (thread_at (reverse sn) m) t (fresh_at (reverse nn) en m) [] (bind_at (reverse bn) m) None (thread_is m p) (none_named m p) none

  front : ((k : ℕ) → k < n → bind_at (reverse bn) k ≡ bind_at (reverse bo) k) → picks_below (columns_of sn nn en bn) n ≡ picks_below (columns_of so no eo bo) n
  front binds =
      picks_same (columns_of sn nn en bn) (columns_of so no eo bo) n stretch.before
      (λ k below. ap (λ (l : List Name). fresh_at (reverse nn) l k) names ∙ naming.others k below) binds

  plains_on : (m j : ℕ) → n ≤ m → ((k : ℕ) → m ≤ k → bind_at (reverse bn) k ≡ None) → picks_below (columns_of sn nn en bn) (m + j) ≡ picks_below (columns_of sn nn en bn) m ++ in_a_row j (plain t)
  plains_on m zero p none = let e : m + 0 ≡ m = omega arith in ap (picks_below (columns_of sn nn en bn)) e ∙ sym (append-nil (picks_below (columns_of sn nn en bn) m))
  plains_on m (suc j) p none =
      let e : m + suc j ≡ suc m + j = omega arith in
      ap (picks_below (columns_of sn nn en bn)) e
      ∙ (plains_on (suc m) j (omega arith) (λ k q. none k (omega arith))
      ∙ (append_assoc (picks_below (columns_of sn nn en bn) m) (pick_at (columns_of sn nn en bn) m ∷ []) (in_a_row j (plain t))
      ∙ ap (λ (k : Pick). picks_below (columns_of sn nn en bn) m ++ k ∷ in_a_row j (plain t)) (plain_at m p (none m (omega arith)))))

-- so many plain picks
module _ (n count : ℕ) (t : ThreadName) (so sn : List Stretch) (no nn : List Naming) (eo en : List Name) (bs : List Bind) (held : AreColumns n (columns_of so no eo bs)) (stretch : IsStretchOn n t (reverse so) (reverse sn))
    (naming : IsNamingOn n [] eo (reverse no) (reverse nn)) (names : en ≡ eo ++ []) (some : 0 < count) where
  pub plain_columns : AreColumns (n + count) (columns_of sn nn en bs)
  plain_columns =
      more_columns n t so sn no nn eo en bs bs held stretch naming names (n + count) (omega arith) (binds_more n (n + count) (reverse bs) (omega arith) held.binds)

  pub plain_picks : picks_below (columns_of sn nn en bs) (n + count) ≡ picks_below (columns_of so no eo bs) n ++ in_a_row count (plain t)
  plain_picks =
      plains_on n t so sn no nn eo en bs bs held stretch naming names n count (omega arith) (λ k p. no_bind n (reverse bs) k held.binds p)
      ∙ ap (λ (ks : List Pick). ks ++ in_a_row count (plain t)) (front n t so sn no nn eo en bs bs held stretch naming names (λ k below. refl))

-- the three picks of a tell
module _ (n : ℕ) (t : ThreadName) (so sn : List Stretch) (no nn : List Naming) (eo en : List Name) (bo bn : List Bind) (b : Bind) (held : AreColumns n (columns_of so no eo bo)) (stretch : IsStretchOn n t (reverse so) (reverse sn))
    (naming : IsNamingOn n [] eo (reverse no) (reverse nn)) (names : en ≡ eo ++ []) (binds : reverse bn ≡ b ∷ reverse bo) (at : b.pick ≡ n) where
  bind_is : (m : ℕ) → bind_at (reverse bn) m ≡ bind_at (b ∷ reverse bo) m
  bind_is m = ap (λ (l : List Bind). bind_at l m) binds

  bound : AreBinds (n + 3) (b ∷ reverse bo)
  bound = (omega (arith, at), subst (λ (k : ℕ). AreBinds k (reverse bo)) (sym at) held.binds)

  pub told_columns : AreColumns (n + 3) (columns_of sn nn en bn)
  told_columns =
      more_columns n t so sn no nn eo en bo bn held stretch naming names (n + 3) (omega arith) (subst (λ (bs : List Bind). AreBinds (n + 3) bs) (sym binds) bound)

  first_bind : bind_at (reverse bn) n ≡ Some (b.var, b.term)
  first_bind = bind_is n ∙ bind_here b (reverse bo) n at

  later_bind : (k : ℕ) → suc n ≤ k → bind_at (reverse bn) k ≡ None
  later_bind k p = bind_is k ∙ (bind_other b (reverse bo) k (λ is. absurd (omega (arith, at, is, p))) ∙ no_bind n (reverse bo) k held.binds (omega (arith, p)))

  bind_first : pick_at (columns_of sn nn en bn) n ≡ record { thread = t; fresh = []; bind = Some (b.var, b.term) }
  bind_first =
      same_pick (thread_at (reverse sn) n) t (fresh_at (reverse nn) en n) [] (bind_at (reverse bn) n) (Some (b.var, b.term)) (thread_is n t so sn no nn eo en bo bn held stretch naming names n (omega arith))
      (none_named n t so sn no nn eo en bo bn held stretch naming names n (omega arith)) first_bind

  pub told_picks : picks_below (columns_of sn nn en bn) (n + 3) ≡ picks_below (columns_of so no eo bo) n ++ tell_picks t b.var b.term
  told_picks =
      let e : n + 3 ≡ suc n + 2 = omega arith in
      ap (picks_below (columns_of sn nn en bn)) e
      ∙ (plains_on n t so sn no nn eo en bo bn held stretch naming names (suc n) (suc (suc zero)) (omega arith) later_bind
      ∙ (append_assoc (picks_below (columns_of sn nn en bn) n) (pick_at (columns_of sn nn en bn) n ∷ []) (plain t ∷ plain t ∷ [])
      ∙ (ap (λ (k : Pick). picks_below (columns_of sn nn en bn) n ++ k ∷ plain t ∷ plain t ∷ []) bind_first
      ∙ ap (λ (ks : List Pick). ks ++ tell_picks t b.var b.term) (front n t so sn no nn eo en bo bn held stretch naming names (λ k below. bind_is k ∙ bind_other b (reverse bo) k (λ is. absurd (omega (arith, at, is, below))))))))
