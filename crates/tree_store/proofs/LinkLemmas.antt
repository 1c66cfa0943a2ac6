-- Trees of classes: how an entry is written, and what putting one tree below another does.
use Rattle.std.proofs.Common.{arith, ◌^◌, ◌≡◌, ◌∙◌, sym, ap, refl, subst, ℕ, ◌+◌, ◌*◌, ◌<◌, ◌≤◌, suc, List, [], ◌∷◌, ◌++◌, append_assoc, append-nil, length, length-append, ◌⊎◌, inl, inr, Bool, true, false, cond, Some, None}
use Rattle.std.specs.Prelude.{◌≢◌, ◌↔◌, ◌-◌, ◌==◌, Contains, Option, Result, Ok, Err, OnErr, IsSome, IsTrue, unwrap_or}
use Rattle.std.proofs.lemmas.Bool.Decides.{Decides-eqb as nat_decides}
use Rattle.std.specs.Map.{lookup, set_value}
use Rattle.tree_node.specs.declared.names.VarName.{VarName}
use Rattle.tree_node.specs.Store.{equal_var, joined_root}
use Rattle.std.proofs.lemmas.List.Elements.{Contains-append_cases, Contains-append_left, Contains-append_right}
use Rattle.tree_node.specs.Each.{Each}
use Rattle.tree_node.proofs.ClassLemmas.{same_name_decides, same_name_refl, joined_when, joined_same, Contains-cons_cases, Contains-head, Contains-tail}
use Rattle.tree_node.proofs.EachLemmas.{each_append, each_in}
use Rattle.tree_node.proofs.OrderLemmas.{Each-member}
use Rattle.tree_store.specs.declared.links.ClassEntry.{ClassEntry}
use Rattle.tree_store.specs.Links.{ClassEntries, singleton, entry_in, IsRepresentative, weight, total, IsTree, AreClasses, entry_after_union, IsPath, IsRing, visited}

same_true : (x y : VarName) → x ≡ y → equal_var x y ≡ true
same_true x y e = (same_name_decides x y).1 e

same_back : (x y : VarName) → equal_var x y ≡ true → x ≡ y
same_back x y e = (same_name_decides x y).0 e

pub apart_false : (x y : VarName) → (x ≡ y → ⊥) → equal_var x y ≡ false
apart_false x y h = go (equal_var x y) refl
  where
    go : (b : Bool) → equal_var x y ≡ b → b ≡ false
    go true e = absurd (h (same_back x y e))
    go false e = refl

both_ways : true ≡ false → ⊥
both_ways e = cc

-- ---- entries in lists

pub put_lookup : {V : Type 0} (es : List (VarName × V)) (x y : VarName) (p : V) → IsSome (lookup (equal_var x) es) →
    lookup (equal_var y) (set_value (equal_var x) es p) ≡ cond (equal_var x y) (Some p) (lookup (equal_var y) es)
put_lookup [] x y p h = cc
put_lookup ((z, q) ∷ es) x y p h = go (equal_var x z) (equal_var y z) refl refl h (λ k. put_lookup es x y p k)
  where
    go : (b d : Bool) → equal_var x z ≡ b → equal_var y z ≡ d → IsSome (cond b (Some q) (lookup (equal_var x) es)) →
        (IsSome (lookup (equal_var x) es) → lookup (equal_var y) (set_value (equal_var x) es p) ≡ cond (equal_var x y) (Some p) (lookup (equal_var y) es)) →
        lookup (equal_var y) (cond b ((z, p) ∷ es) ((z, q) ∷ set_value (equal_var x) es p)) ≡ cond (equal_var x y) (Some p) (cond d (Some q) (lookup (equal_var y) es))
    go true true e f h ih = rw (f, same_true x y (same_back x z e ∙ sym (same_back y z f))) refl
    go true false e f h ih =
        let differ : equal_var x y ≡ false = apart_false x y (λ k. absurd (both_ways (sym (same_true y z (sym k ∙ same_back x z e)) ∙ f))) in
        rw (f, differ) refl
    go false true e f h ih =
        let differ : equal_var x y ≡ false = apart_false x y (λ k. absurd (both_ways (sym (same_true x z (k ∙ same_back y z f)) ∙ e))) in
        rw (f, differ) refl
    go false false e f h ih = rw f (ih h)

-- an entry that is put where one was
pub entry_put : (es : ClassEntries) (x y : VarName) (p : ClassEntry) → IsSome (lookup (equal_var x) es) → entry_in (set_value (equal_var x) es p) y ≡ cond (equal_var x y) p (entry_in es y)
entry_put es x y p some = ap (λ (o : Option ClassEntry). unwrap_or o (singleton y)) (put_lookup es x y p some) ∙ go (equal_var x y)
  where
    go : (b : Bool) → unwrap_or (cond b (Some p) (lookup (equal_var y) es)) (singleton y) ≡ cond b p (entry_in es y)
    go true = refl
    go false = refl

pub put_stays : (es : ClassEntries) (x y : VarName) (p : ClassEntry) → IsSome (lookup (equal_var y) es) → IsSome (lookup (equal_var y) (set_value (equal_var x) es p))
put_stays [] x y p h = h
put_stays ((z, q) ∷ es) x y p h = go (equal_var x z) (equal_var y z) refl h (λ k. put_stays es x y p k)
  where
    go : (b d : Bool) → equal_var y z ≡ d → IsSome (cond d (Some q) (lookup (equal_var y) es)) → (IsSome (lookup (equal_var y) es) → IsSome (lookup (equal_var y) (set_value (equal_var x) es p))) →
        IsSome (lookup (equal_var y) (cond b ((z, p) ∷ es) ((z, q) ∷ set_value (equal_var x) es p)))
    go true true e h ih = rw e refl
    go true false e h ih = rw e h
    go false true e h ih = rw e refl
    go false false e h ih = rw e (ih h)

put_length : (es : ClassEntries) (x : VarName) (p : ClassEntry) → length (set_value (equal_var x) es p) ≡ length es
put_length [] x p = refl
put_length ((z, q) ∷ es) x p = go (equal_var x z) (put_length es x p)
  where
    go : (b : Bool) → length (set_value (equal_var x) es p) ≡ length es → length (cond b ((z, p) ∷ es) ((z, q) ∷ set_value (equal_var x) es p)) ≡ length ((z, q) ∷ es)
    go true e = refl
    go false e = omega arith

-- what an entry that is put adds to the sizes
put_total : (es : ClassEntries) (x : VarName) (p : ClassEntry) → IsSome (lookup (equal_var x) es) → total (set_value (equal_var x) es p) + weight x (entry_in es x) ≡ total es + weight x p
put_total [] x p h = cc
put_total ((z, q) ∷ es) x p h = go (equal_var x z) refl h (λ k. put_total es x p k)
  where
    go : (b : Bool) → equal_var x z ≡ b → IsSome (cond b (Some q) (lookup (equal_var x) es)) →
        (IsSome (lookup (equal_var x) es) → total (set_value (equal_var x) es p) + weight x (entry_in es x) ≡ total es + weight x p) →
        total (cond b ((z, p) ∷ es) ((z, q) ∷ set_value (equal_var x) es p)) + weight x (unwrap_or (cond b (Some q) (lookup (equal_var x) es)) (singleton x)) ≡ weight z q + total es + weight x p
    go true e h ih = let at : x ≡ z = same_back x z e in subst (λ (y : VarName). weight y p + total es + weight x q ≡ weight y q + total es + weight x p) at (omega arith)
    go false e h ih = let rest = ih h in omega arith

-- a top's size is at most all sizes
top_total : (es : ClassEntries) (x : VarName) → IsSome (lookup (equal_var x) es) → weight x (entry_in es x) ≤ total es
top_total [] x h = cc
top_total ((z, q) ∷ es) x h = go (equal_var x z) refl h (λ k. top_total es x k)
  where
    go : (b : Bool) → equal_var x z ≡ b → IsSome (cond b (Some q) (lookup (equal_var x) es)) → (IsSome (lookup (equal_var x) es) → weight x (entry_in es x) ≤ total es) →
        weight x (unwrap_or (cond b (Some q) (lookup (equal_var x) es)) (singleton x)) ≤ weight z q + total es
    go true e h ih = let at : x ≡ z = same_back x z e in subst (λ (y : VarName). weight x q ≤ weight y q + total es) at (omega arith)
    go false e h ih = let rest = ih h in omega arith

top_weight : (entry : VarName → ClassEntry) (x : VarName) → IsRepresentative entry x → weight x (entry x) ≡ (entry x).size
top_weight entry x t = rw (same_true (entry x).parent x t) refl

-- ---- a variable that is written down

pub alone_total : (es : ClassEntries) (x : VarName) → total (es ++ (x, singleton x) ∷ []) ≡ total es + 1
alone_total [] x = rw (same_name_refl x) refl
alone_total ((z, q) ∷ es) x = let rest = alone_total es x in omega arith

alone_length : (es : ClassEntries) (x : VarName) → length (es ++ (x, singleton x) ∷ []) ≡ length es + 1
alone_length [] x = refl
alone_length ((z, q) ∷ es) x = let rest = alone_length es x in omega arith

pub alone_lookup : (es : ClassEntries) (x y : VarName) → lookup (equal_var x) es ≡ None → entry_in (es ++ (x, singleton x) ∷ []) y ≡ entry_in es y
alone_lookup [] x y h = go (equal_var y x) refl
  where
    go : (b : Bool) → equal_var y x ≡ b → unwrap_or (cond b (Some (singleton x)) None) (singleton y) ≡ singleton y
    go true e = ap singleton (sym (same_back y x e))
    go false e = refl
alone_lookup ((z, q) ∷ es) x y h = go (equal_var x z) (equal_var y z) refl h (λ k. alone_lookup es x y k)
  where
    go : (b d : Bool) → equal_var x z ≡ b → cond b (Some q) (lookup (equal_var x) es) ≡ None → (lookup (equal_var x) es ≡ None → entry_in (es ++ (x, singleton x) ∷ []) y ≡ entry_in es y) →
        unwrap_or (cond d (Some q) (lookup (equal_var y) (es ++ (x, singleton x) ∷ []))) (singleton y) ≡ unwrap_or (cond d (Some q) (lookup (equal_var y) es)) (singleton y)
    go true d e h ih = cc
    go false true e h ih = refl
    go false false e h ih = ih h

pub alone_stays : (es : ClassEntries) (x y : VarName) → IsSome (lookup (equal_var y) es) → IsSome (lookup (equal_var y) (es ++ (x, singleton x) ∷ []))
alone_stays [] x y h = cc
alone_stays ((z, q) ∷ es) x y h = go (equal_var y z) h (λ k. alone_stays es x y k)
  where
    go : (b : Bool) → IsSome (cond b (Some q) (lookup (equal_var y) es)) → (IsSome (lookup (equal_var y) es) → IsSome (lookup (equal_var y) (es ++ (x, singleton x) ∷ []))) →
        IsSome (cond b (Some q) (lookup (equal_var y) (es ++ (x, singleton x) ∷ [])))
    go true h ih = h
    go false h ih = ih h

-- trees of the same entries
same_rises : (es fs : ClassEntries) → ((y : VarName) → entry_in fs y ≡ entry_in es y) → (x : VarName) → IsRepresentative (entry_in es) x ⊎ (2 * (entry_in es x).size ≤ (entry_in es (entry_in es x).parent).size) →
    IsRepresentative (entry_in fs) x ⊎ (2 * (entry_in fs x).size ≤ (entry_in fs (entry_in fs x).parent).size)
same_rises es fs h x r = rw (h x, h (entry_in es x).parent) r

pub tree_alone : (es fs : ClassEntries) (x : VarName) → fs ≡ es ++ (x, singleton x) ∷ [] → lookup (equal_var x) es ≡ None → IsTree es → IsTree fs
tree_alone es fs x e none t =
    let same : (y : VarName) → entry_in fs y ≡ entry_in es y = λ y. ap (λ (gs : ClassEntries). entry_in gs y) e ∙ alone_lookup es x y none in
    record {
      rises = λ y. same_rises es fs same y (t.rises y);
      positive = λ y. rw (same y) (t.positive y);
      counts = rw e (alone_total es x ∙ ap (λ (n : ℕ). n + 1) t.counts ∙ sym (alone_length es x));
    }

-- ---- rings

-- the same way, from x that has the next variable of z
path_moved : (entry other : VarName → ClassEntry) (x z : VarName) (ys : List VarName) (end : VarName) → (other x).next ≡ (entry z).next → Each (λ (y : VarName). (other y).next ≡ (entry y).next) ys → IsPath entry z ys end → IsPath other x ys end
path_moved entry other x z [] end e same h = e ∙ h
path_moved entry other x z (y ∷ ys) end e same h = (e ∙ h.0, path_moved entry other y y ys end same.0 same.1 h.1)

path_on : (entry : VarName → ClassEntry) (x y z : VarName) (xs ys : List VarName) → IsPath entry x xs y → IsPath entry y ys z → IsPath entry x (xs ++ y ∷ ys) z
path_on entry x y z [] ys h g = (h, g)
path_on entry x y z (w ∷ xs) ys h g = (h.0, path_on entry w y z xs ys h.1 g)

each_all : {P : VarName → Type 0} → ((y : VarName) → P y) → (ys : List VarName) → Each P ys
each_all f [] = tt
each_all f (y ∷ ys) = (f y, each_all f ys)

-- a variable without an entry is a ring of its own
pub alone_ring : (x : VarName) → IsRing (λ (y : VarName). y) singleton x []
alone_ring x = record { path = refl; first = tt; all = λ y. (λ k. only y (Contains-cons_cases x y [] k), λ e. subst (Contains (x ∷ [])) (sym e) (Contains-head x [])); long = refl }
  where
    only : (y : VarName) → (x ≡ y) ⊎ Contains [] y → y ≡ x
    only y (inl e) = sym e
    only y (inr (k, below, is)) = absurd (omega arith)

ring_same : (root : VarName → VarName) (entry other : VarName → ClassEntry) (x : VarName) (ys : List VarName) → ((y : VarName) → other y ≡ entry y) → IsRing root entry x ys → IsRing root other x ys
ring_same root entry other x ys h r = record {
  path = path_moved entry other x x ys x (next x) (each_all next ys) r.path;
  first = r.first;
  all = r.all;
  long = r.long ∙ ap (λ (p : ClassEntry). p.size) (sym (h x));
}
  where
    next : (y : VarName) → (other y).next ≡ (entry y).next
    next y = ap (λ (p : ClassEntry). p.next) (h y)

-- what a ring visits
pub visits : (entry : VarName → ClassEntry) (x z : VarName) (ys : List VarName) → IsPath entry x ys z → visited entry x (suc (length ys)) ≡ x ∷ ys
visits entry x z [] h = refl
visits entry x z (y ∷ ys) h = ap (λ (l : List VarName). x ∷ l) (ap (λ (v : VarName). visited entry v (suc (length ys))) h.0 ∙ visits entry y z ys h.1)

-- what is visited from the top is the class
pub members_told : (root : VarName → VarName) (entry : VarName → ClassEntry) (items : List VarName) (t x : VarName) → AreClasses root entry → IsRepresentative entry t → root t ≡ root x → items ≡ visited entry t (entry t).size →
    (y : VarName) → Contains items y ↔ (root y ≡ root x)
members_told root entry items t x h top same e y =
    let r = h.ring t top in
    let list : items ≡ t ∷ r.0 = e ∙ ap (visited entry t) (sym r.1.long) ∙ visits entry t t r.0 r.1.path in
    (λ k. (r.1.all y).0 (subst (λ (l : List VarName). Contains l y) list k) ∙ same, λ k. subst (λ (l : List VarName). Contains l y) (sym list) ((r.1.all y).1 (k ∙ sym same)))

-- the next one is visited
pub visited_next : (entry : VarName → ClassEntry) (items all : List VarName) (at : VarName) (n : ℕ) → items ++ visited entry at (suc n) ≡ all → (items ++ at ∷ []) ++ visited entry (entry at).next n ≡ all
visited_next entry items all at n e = append_assoc items (at ∷ []) (visited entry (entry at).next n) ∙ e

pub visited_on : (entry : VarName → ClassEntry) (items new all : List VarName) (at next : VarName) (left : ℕ) → 0 < left → new ≡ items ++ at ∷ [] → next ≡ (entry at).next → items ++ visited entry at left ≡ all → new ++ visited entry next (left - 1) ≡ all
visited_on entry items new all at next left some pushed e h =
    let one : left ≡ suc (left - 1) = omega (arith, some) in
    ap (λ (l : List VarName). l ++ visited entry next (left - 1)) pushed
    ∙ (ap (λ (v : VarName). (items ++ at ∷ []) ++ visited entry v (left - 1)) e
    ∙ visited_next entry items all at (left - 1) (ap (λ (n : ℕ). items ++ visited entry at n) (sym one) ∙ h))

pub visited_first : (entry : VarName → ClassEntry) (items : List VarName) (t : VarName) (p : ClassEntry) → items ≡ [] → p ≡ entry t → items ++ visited entry t p.size ≡ visited entry t (entry t).size
visited_first entry items t p none is = ap (λ (l : List VarName). l ++ visited entry t p.size) none ∙ ap (λ (q : ClassEntry). visited entry t q.size) is

pub visited_last : (entry : VarName → ClassEntry) (items all : List VarName) (at : VarName) (left : ℕ) → left ≡ 0 → items ++ visited entry at left ≡ all → items ≡ all
visited_last entry items all at left none h = sym (append-nil items) ∙ (ap (λ (n : ℕ). items ++ visited entry at n) (sym none) ∙ h)

-- a class of one
pub alone_told : (root : VarName → VarName) (entry : VarName → ClassEntry) (t x : VarName) → AreClasses root entry → IsRepresentative entry t → root t ≡ root x → (entry t).size ≡ 1 ↔ ((y : VarName) → root y ≡ root x → y ≡ x)
alone_told root entry t x h top same = (λ e. one (r.0) r.1 e, λ f. size r.0 r.1 f)
  where
    r : (ys : List VarName) × IsRing root entry t ys
    r = h.ring t top

    one : (ys : List VarName) → IsRing root entry t ys → (entry t).size ≡ 1 → (y : VarName) → root y ≡ root x → y ≡ x
    one [] q e y k = sym (it y ((q.all y).1 (k ∙ sym same))) ∙ it x ((q.all x).1 (sym same))
      where
        it : (z : VarName) → Contains (t ∷ []) z → t ≡ z
        it z c = go (Contains-cons_cases t z [] c)
          where
            go : (t ≡ z) ⊎ Contains [] z → t ≡ z
            go (inl p) = p
            go (inr (k, below, is)) = absurd (omega arith)
    one (z ∷ zs) q e y k = let long = q.long in absurd (omega (arith, long, e))

    size : (ys : List VarName) → IsRing root entry t ys → ((y : VarName) → root y ≡ root x → y ≡ x) → (entry t).size ≡ 1
    size [] q f = sym q.long
    size (z ∷ zs) q f =
        let own : root z ≡ root t = (q.all z).0 (Contains-tail t z (z ∷ zs) (Contains-head z zs)) in
        absurd (q.first.0 (f t same ∙ sym (f z (own ∙ same))))

pub alone_is : (root : VarName → VarName) (entry : VarName → ClassEntry) (p : ClassEntry) (t x : VarName) → AreClasses root entry → IsRepresentative entry t → root t ≡ root x → p ≡ entry t → IsTrue (p.size == 1) ↔ ((y : VarName) → root y ≡ root x → y ≡ x)
alone_is root entry p t x h top same is =
    let size : p.size ≡ (entry t).size = ap (λ (q : ClassEntry). q.size) is in
    let told = alone_told root entry t x h top same in
    (λ yes. told.0 (sym size ∙ (nat_decides p.size 1).0 yes), λ f. (nat_decides p.size 1).1 (size ∙ told.1 f))

pub tells_same : (root : VarName → VarName) (entry other : VarName → ClassEntry) → ((y : VarName) → other y ≡ entry y) → AreClasses root entry → AreClasses root other
tells_same root entry other h t = record {
  parent = λ x. rw (h x) (t.parent x);
  end = λ x top. rw (h x) (t.end x (rw (h x) at top));
  one = λ x y p q e. t.one x y (rw (h x) at p) (rw (h y) at q) e;
  ring = λ x top. let r = t.ring x (rw (h x) at top) in (r.0, ring_same root entry other x r.0 h r.1);
}

-- ---- one tree below the top of another

abbrev pub below_entry : (VarName → ClassEntry) → VarName → VarName → ClassEntry
below_entry entry c w = record { parent = w; size = (entry c).size; end = (entry c).end; next = (entry w).next }

abbrev pub above_entry : (VarName → ClassEntry) → VarName → VarName → VarName → ClassEntry
above_entry entry c w e = record { parent = w; size = (entry c).size + (entry w).size; end = e; next = (entry c).next }

abbrev pub forest_after : ClassEntries → VarName → VarName → VarName → ClassEntries
forest_after es c w e = set_value (equal_var w) (set_value (equal_var c) es (below_entry (entry_in es) c w)) (above_entry (entry_in es) c w e)

-- the same, made of the entries of both tops
pub attached_as : (es : ClassEntries) (c w e : VarName) (child top : ClassEntry) → child ≡ entry_in es c → top ≡ entry_in es w →
    set_value (equal_var w) (set_value (equal_var c) es (record { parent = w; size = child.size; end = child.end; next = top.next })) (record { parent = w; size = child.size + top.size; end = e; next = child.next }) ≡ forest_after es c w e
attached_as es c w e child top p q = rw (p, q) refl

pub entries_after_union : (es : ClassEntries) (c w e y : VarName) → IsSome (lookup (equal_var c) es) → IsSome (lookup (equal_var w) es) → entry_in (forest_after es c w e) y ≡ entry_after_union (entry_in es) c w e y
entries_after_union es c w e y hc hw =
    entry_put (set_value (equal_var c) es (below_entry (entry_in es) c w)) w y (above_entry (entry_in es) c w e) (put_stays es c w (below_entry (entry_in es) c w) hw)
    ∙ ap (λ (p : ClassEntry). cond (equal_var w y) (above_entry (entry_in es) c w e) p) (entry_put es c y (below_entry (entry_in es) c w) hc)

size_after_union : (entry : VarName → ClassEntry) (c w e x : VarName) → (entry x).size ≤ (entry_after_union entry c w e x).size
size_after_union entry c w e x = go (equal_var w x) (equal_var c x) refl refl
  where
    go : (b d : Bool) → equal_var w x ≡ b → equal_var c x ≡ d → (entry x).size ≤ (cond b (above_entry entry c w e) (cond d (below_entry entry c w) (entry x))).size
    go true d p q = subst (λ (z : VarName). (entry z).size ≤ (entry c).size + (entry w).size) (same_back w x p) (omega arith)
    go false true p q = subst (λ (z : VarName). (entry z).size ≤ (entry c).size) (same_back c x q) (omega arith)
    go false false p q = omega arith

above_there : (entry : VarName → ClassEntry) (c w e : VarName) → entry_after_union entry c w e w ≡ above_entry entry c w e
above_there entry c w e = rw (same_name_refl w) refl

rises_after_union : (entry : VarName → ClassEntry) (c w e y : VarName) → (entry c).size ≤ (entry w).size → IsRepresentative entry y ⊎ (2 * (entry y).size ≤ (entry (entry y).parent).size) →
    IsRepresentative (entry_after_union entry c w e) y ⊎ (2 * (entry_after_union entry c w e y).size ≤ (entry_after_union entry c w e (entry_after_union entry c w e y).parent).size)
rises_after_union entry c w e y smaller rises = go (equal_var w y) (equal_var c y) refl refl
  where
    Rises : ClassEntry → Type 0
    Rises p = (p.parent ≡ y) ⊎ (2 * p.size ≤ (entry_after_union entry c w e p.parent).size)

    old : IsRepresentative entry y ⊎ (2 * (entry y).size ≤ (entry (entry y).parent).size) → Rises (entry y)
    old (inl t) = inl t
    old (inr r) = let more = size_after_union entry c w e (entry y).parent in inr (omega arith)

    go : (b d : Bool) → equal_var w y ≡ b → equal_var c y ≡ d → Rises (cond b (above_entry entry c w e) (cond d (below_entry entry c w) (entry y)))
    go true d p q = inl (same_back w y p)
    go false true p q =
        let sum : (entry_after_union entry c w e w).size ≡ (entry c).size + (entry w).size = ap (λ (r : ClassEntry). r.size) (above_there entry c w e) in
        inr (omega arith)
    go false false p q = old rises

moved_rises : (entry other : VarName → ClassEntry) (y : VarName) → ((x : VarName) → other x ≡ entry x) → IsRepresentative entry y ⊎ (2 * (entry y).size ≤ (entry (entry y).parent).size) →
    IsRepresentative other y ⊎ (2 * (other y).size ≤ (other (other y).parent).size)
moved_rises entry other y h r = rw (h y, h (entry y).parent) r

top_there : (es : ClassEntries) (c w : VarName) → (c ≡ w → ⊥) → IsSome (lookup (equal_var c) es) → entry_in (set_value (equal_var c) es (below_entry (entry_in es) c w)) w ≡ entry_in es w
top_there es c w differ hc = entry_put es c w (below_entry (entry_in es) c w) hc ∙ rw (apart_false c w differ) refl

below_total : (es : ClassEntries) (c w : VarName) → (c ≡ w → ⊥) → IsRepresentative (entry_in es) c → IsSome (lookup (equal_var c) es) →
    total (set_value (equal_var c) es (below_entry (entry_in es) c w)) + (entry_in es c).size ≡ total es
below_total es c w differ tc hc =
    let put = put_total es c (below_entry (entry_in es) c w) hc in
    let own : weight c (entry_in es c) ≡ (entry_in es c).size = top_weight (entry_in es) c tc in
    let none : weight c (below_entry (entry_in es) c w) ≡ 0 = rw (apart_false w c (λ e. differ (sym e))) refl in
    omega arith

pub sizes_fit : (es : ClassEntries) (c w : VarName) → IsTree es → (c ≡ w → ⊥) → IsRepresentative (entry_in es) c → IsRepresentative (entry_in es) w → IsSome (lookup (equal_var c) es) → IsSome (lookup (equal_var w) es) →
    (entry_in es c).size + (entry_in es w).size ≤ length es
sizes_fit es c w t differ tc tw hc hw =
    let first = below_total es c w differ tc hc in
    let there = top_there es c w differ hc in
    let part = top_total (set_value (equal_var c) es (below_entry (entry_in es) c w)) w (put_stays es c w (below_entry (entry_in es) c w) hw) in
    let own : weight w (entry_in (set_value (equal_var c) es (below_entry (entry_in es) c w)) w) ≡ (entry_in es w).size = ap (weight w) there ∙ top_weight (entry_in es) w tw in
    let all = t.counts in
    omega arith

pub tree_after_union : (es : ClassEntries) (c w e : VarName) → IsTree es → (c ≡ w → ⊥) → IsRepresentative (entry_in es) c → IsRepresentative (entry_in es) w → IsSome (lookup (equal_var c) es) → IsSome (lookup (equal_var w) es) →
    (entry_in es c).size ≤ (entry_in es w).size → IsTree (forest_after es c w e)
tree_after_union es c w e t differ tc tw hc hw smaller = record {
  rises = λ y. moved_rises (entry_after_union (entry_in es) c w e) (entry_in (forest_after es c w e)) y at (rises_after_union (entry_in es) c w e y smaller (t.rises y));
  positive = λ y. let some = t.positive y in let more = size_after_union (entry_in es) c w e y in rw (at y) (omega arith);
  counts = sums;
}
  where
    at : (x : VarName) → entry_in (forest_after es c w e) x ≡ entry_after_union (entry_in es) c w e x
    at x = entries_after_union es c w e x hc hw

    sums : total (forest_after es c w e) ≡ length (forest_after es c w e)
    sums =
        let first = below_total es c w differ tc hc in
        let there = top_there es c w differ hc in
        let fs : ClassEntries = set_value (equal_var c) es (below_entry (entry_in es) c w) in
        let second = put_total fs w (above_entry (entry_in es) c w e) (put_stays es c w (below_entry (entry_in es) c w) hw) in
        let own : weight w (entry_in fs w) ≡ (entry_in es w).size = ap (weight w) there ∙ top_weight (entry_in es) w tw in
        let new : weight w (above_entry (entry_in es) c w e) ≡ (entry_in es c).size + (entry_in es w).size = rw (same_name_refl w) refl in
        let long : length (forest_after es c w e) ≡ length es = put_length fs w (above_entry (entry_in es) c w e) ∙ put_length es c (below_entry (entry_in es) c w) in
        let all = t.counts in
        omega arith

-- ---- classes that are joined

-- the tops of the two classes, in either order
abbrev pub AreRepresentatives : (VarName → VarName) → VarName → VarName → VarName → VarName → Type 0
AreRepresentatives root x y c w = ((root c ≡ root x) × (root w ≡ root y)) ⊎ ((root c ≡ root y) × (root w ≡ root x))

joined_right : (root : VarName → VarName) (x y z : VarName) → root z ≡ root y → joined_root root x y z ≡ root y
joined_right root x y z e = go (equal_var (root z) (root x))
  where
    go : (b : Bool) → cond b (root y) (root z) ≡ root y
    go true = refl
    go false = e

joined_other : (root : VarName → VarName) (x y z : VarName) → (root z ≡ root x → ⊥) → joined_root root x y z ≡ root z
joined_other root x y z h = rw (apart_false (root z) (root x) h) refl

joined_apart : (root : VarName → VarName) (x y z : VarName) → equal_var (root z) (root x) ≡ false → joined_root root x y z ≡ root z
joined_apart root x y z e = ap (λ (b : Bool). cond b (root y) (root z)) e

child_joined : (root : VarName → VarName) (x y c w : VarName) → AreRepresentatives root x y c w → joined_root root x y c ≡ root y
child_joined root x y c w (inl h) = joined_when root x y c h.0
child_joined root x y c w (inr h) = joined_right root x y c h.0

top_joined : (root : VarName → VarName) (x y c w : VarName) → AreRepresentatives root x y c w → joined_root root x y w ≡ root y
top_joined root x y c w (inl h) = joined_right root x y w h.1
top_joined root x y c w (inr h) = joined_when root x y w h.1

-- another top is of neither class
not_left : (root : VarName → VarName) (entry : VarName → ClassEntry) (x y c w z : VarName) → AreClasses root entry → IsRepresentative entry c → IsRepresentative entry w → AreRepresentatives root x y c w → IsRepresentative entry z →
    (c ≡ z → ⊥) → (w ≡ z → ⊥) → root z ≡ root x → ⊥
not_left root entry x y c w z t tc tw (inl h) tz nc nw e = nc (t.one c z tc tz (h.0 ∙ sym e))
not_left root entry x y c w z t tc tw (inr h) tz nc nw e = nw (t.one w z tw tz (h.1 ∙ sym e))

not_right : (root : VarName → VarName) (entry : VarName → ClassEntry) (x y c w z : VarName) → AreClasses root entry → IsRepresentative entry c → IsRepresentative entry w → AreRepresentatives root x y c w → IsRepresentative entry z →
    (c ≡ z → ⊥) → (w ≡ z → ⊥) → root z ≡ root y → ⊥
not_right root entry x y c w z t tc tw (inl h) tz nc nw e = nw (t.one w z tw tz (h.1 ∙ sym e))
not_right root entry x y c w z t tc tw (inr h) tz nc nw e = nc (t.one c z tc tz (h.0 ∙ sym e))

-- a top after the joining is the top w, or one of another class
data IsKept (entry : VarName → ClassEntry) (c w z : VarName) : Type 0 where
  joint : w ≡ z → IsKept entry c w z
  other : IsRepresentative entry z → (c ≡ z → ⊥) → (w ≡ z → ⊥) → IsKept entry c w z

kept : (entry : VarName → ClassEntry) (c w e z : VarName) → (c ≡ w → ⊥) → IsRepresentative (entry_after_union entry c w e) z → IsKept entry c w z
kept entry c w e z differ t = go (equal_var w z) (equal_var c z) refl refl t
  where
    go : (b d : Bool) → equal_var w z ≡ b → equal_var c z ≡ d → (cond b (above_entry entry c w e) (cond d (below_entry entry c w) (entry z))).parent ≡ z → IsKept entry c w z
    go true d p q h = joint (same_back w z p)
    go false true p q h = absurd (differ (same_back c z q ∙ sym h))
    go false false p q h = other h (λ k. both_ways (sym (same_true c z k) ∙ q)) (λ k. both_ways (sym (same_true w z k) ∙ p))

pub classes_after_union : (root : VarName → VarName) (entry : VarName → ClassEntry) (x y c w e : VarName) → AreClasses root entry → IsRepresentative entry c → IsRepresentative entry w → (c ≡ w → ⊥) → (root x ≡ root y → ⊥) →
    AreRepresentatives root x y c w → e ≡ root y → AreClasses (joined_root root x y) (entry_after_union entry c w e)
classes_after_union root entry x y c w e t tc tw differ apart representatives ends = record { parent = parent; end = end; one = one; ring = ring }
  where
    parent : (z : VarName) → joined_root root x y (entry_after_union entry c w e z).parent ≡ joined_root root x y z
    parent z = go (equal_var w z) (equal_var c z) refl refl
      where
        go : (b d : Bool) → equal_var w z ≡ b → equal_var c z ≡ d → joined_root root x y (cond b (above_entry entry c w e) (cond d (below_entry entry c w) (entry z))).parent ≡ joined_root root x y z
        go true d p q = ap (joined_root root x y) (same_back w z p)
        go false true p q = top_joined root x y c w representatives ∙ sym (child_joined root x y c w representatives) ∙ ap (joined_root root x y) (same_back c z q)
        go false false p q = joined_same root x y (entry z).parent z (t.parent z)

    -- the root of another top is its own
    alone_root : (z : VarName) → IsRepresentative entry z → (c ≡ z → ⊥) → (w ≡ z → ⊥) → joined_root root x y z ≡ root z
    alone_root z tz nc nw = joined_other root x y z (not_left root entry x y c w z t tc tw representatives tz nc nw)

    end : (z : VarName) → IsRepresentative (entry_after_union entry c w e) z → joined_root root x y z ≡ (entry_after_union entry c w e z).end
    end z tz = go (kept entry c w e z differ tz)
      where
        go : IsKept entry c w z → joined_root root x y z ≡ (entry_after_union entry c w e z).end
        go (joint p) = subst (λ (v : VarName). joined_root root x y v ≡ (entry_after_union entry c w e v).end) p (top_joined root x y c w representatives ∙ sym ends ∙ ap (λ (r : ClassEntry). r.end) (sym (above_there entry c w e)))
        go (other p nc nw) = alone_root z p nc nw ∙ t.end z p ∙ sym (rw (apart_false w z nw, apart_false c z nc) refl)

    one : (a b : VarName) → IsRepresentative (entry_after_union entry c w e) a → IsRepresentative (entry_after_union entry c w e) b → joined_root root x y a ≡ joined_root root x y b → a ≡ b
    one a b ta tb same = go (kept entry c w e a differ ta) (kept entry c w e b differ tb)
      where
        go : IsKept entry c w a → IsKept entry c w b → a ≡ b
        go (joint p) (joint q) = sym p ∙ q
        go (joint p) (other q nc nw) =
            absurd (not_right root entry x y c w b t tc tw representatives q nc nw (sym (alone_root b q nc nw) ∙ sym same ∙ ap (joined_root root x y) (sym p) ∙ top_joined root x y c w representatives))
        go (other p nc nw) (joint q) =
            absurd (not_right root entry x y c w a t tc tw representatives p nc nw (sym (alone_root a p nc nw) ∙ same ∙ ap (joined_root root x y) (sym q) ∙ top_joined root x y c w representatives))
        go (other p nc nw) (other q mc mw) = t.one a b p q (sym (alone_root a p nc nw) ∙ same ∙ alone_root b q mc mw)

    -- the next variables after the joining
    next_else : (z : VarName) → (c ≡ z → ⊥) → (w ≡ z → ⊥) → (entry_after_union entry c w e z).next ≡ (entry z).next
    next_else z nc nw = rw (apart_false w z nw, apart_false c z nc) refl

    next_top : (entry_after_union entry c w e w).next ≡ (entry c).next
    next_top = ap (λ (r : ClassEntry). r.next) (above_there entry c w e)

    next_child : (entry_after_union entry c w e c).next ≡ (entry w).next
    next_child = rw (apart_false w c (λ k. differ (sym k)), same_name_refl c) refl

    -- the two classes are apart
    split : (root c ≡ root w → ⊥)
    split k = differ (t.one c w tc tw k)

    -- of a ring that neither top is in but as its first
    others : (x : VarName) (ys : List VarName) → ((y : VarName) → Contains ys y → (c ≡ y → ⊥) × (w ≡ y → ⊥)) → Each (λ (y : VarName). (entry_after_union entry c w e y).next ≡ (entry y).next) ys
    others x [] f = tt
    others x (y ∷ ys) f = let apart = f y (Contains-head y ys) in (next_else y apart.0 apart.1, others x ys (λ z k. f z (Contains-tail y z ys k)))

    ring : (z : VarName) → IsRepresentative (entry_after_union entry c w e) z → (ys : List VarName) × IsRing (joined_root root x y) (entry_after_union entry c w e) z ys
    ring z tz = go (kept entry c w e z differ tz)
      where
        cs : List VarName
        cs = (t.ring c tc).0

        ws : List VarName
        ws = (t.ring w tw).0

        rc : IsRing root entry c cs
        rc = (t.ring c tc).1

        rtop : IsRing root entry w ws
        rtop = (t.ring w tw).1

        of_child : (v : VarName) → Contains cs v → root v ≡ root c
        of_child v k = (rc.all v).0 (Contains-tail c v cs k)

        of_top : (v : VarName) → Contains ws v → root v ≡ root w
        of_top v k = (rtop.all v).0 (Contains-tail w v ws k)

        apart_child : (v : VarName) → Contains cs v → (c ≡ v → ⊥) × (w ≡ v → ⊥)
        apart_child v k = (Each-member (λ (u : VarName). c ≢ u) cs v rc.first k, λ q. split (sym (of_child v k) ∙ ap root (sym q)))

        apart_top : (v : VarName) → Contains ws v → (c ≡ v → ⊥) × (w ≡ v → ⊥)
        apart_top v k = (λ q. split (ap root q ∙ of_top v k), Each-member (λ (u : VarName). w ≢ u) ws v rtop.first k)

        go : IsKept entry c w z → (ys : List VarName) × IsRing (joined_root root x y) (entry_after_union entry c w e) z ys
        go (joint p) = subst (λ (v : VarName). (ys : List VarName) × IsRing (joined_root root x y) (entry_after_union entry c w e) v ys) p (
          cs ++ c ∷ ws,
          record {
            path = path_on (entry_after_union entry c w e) w c w cs ws
                (path_moved entry (entry_after_union entry c w e) w c cs c next_top (others c cs apart_child) rc.path)
                (path_moved entry (entry_after_union entry c w e) c w ws w next_child (others w ws apart_top) rtop.path);
            first = each_append (λ (v : VarName). w ≢ v) cs (c ∷ ws) (each_in (λ (v : VarName). w ≢ v) cs (λ v k. (apart_child v k).1)) ((λ q. differ (sym q)), rtop.first);
            all = λ v. (into v, from v);
            long = let a = rc.long in let b = rtop.long in let more = length-append cs (c ∷ ws) in
                let sum : (entry_after_union entry c w e w).size ≡ (entry c).size + (entry w).size = ap (λ (r : ClassEntry). r.size) (above_there entry c w e) in omega (arith, a, b, more, sum);
          },
        )
          where
            into : (v : VarName) → Contains (w ∷ (cs ++ c ∷ ws)) v → joined_root root x y v ≡ joined_root root x y w
            into v k = which (Contains-cons_cases w v (cs ++ c ∷ ws) k)
              where
                tail : Contains cs v ⊎ Contains (c ∷ ws) v → joined_root root x y v ≡ joined_root root x y w
                tail (inl q) = joined_same root x y v c (of_child v q) ∙ child_joined root x y c w representatives ∙ sym (top_joined root x y c w representatives)
                tail (inr q) = last (Contains-cons_cases c v ws q)
                  where
                    last : (c ≡ v) ⊎ Contains ws v → joined_root root x y v ≡ joined_root root x y w
                    last (inl r) = ap (joined_root root x y) (sym r) ∙ child_joined root x y c w representatives ∙ sym (top_joined root x y c w representatives)
                    last (inr r) = joined_same root x y v w (of_top v r)

                which : (w ≡ v) ⊎ Contains (cs ++ c ∷ ws) v → joined_root root x y v ≡ joined_root root x y w
                which (inl q) = ap (joined_root root x y) (sym q)
                which (inr q) = tail (Contains-append_cases cs (c ∷ ws) v q)

            -- what is of the joined class was of one of the two
            was : (v : VarName) → joined_root root x y v ≡ root y → (root v ≡ root c) ⊎ (root v ≡ root w)
            was v k = by representatives (equal_var (root v) (root x)) refl
              where
                by : AreRepresentatives root x y c w → (b : Bool) → equal_var (root v) (root x) ≡ b → (root v ≡ root c) ⊎ (root v ≡ root w)
                by (inl h) true q = inl (same_back (root v) (root x) q ∙ sym h.0)
                by (inr h) true q = inr (same_back (root v) (root x) q ∙ sym h.1)
                by (inl h) false q = inr (sym (joined_apart root x y v q) ∙ k ∙ sym h.1)
                by (inr h) false q = inl (sym (joined_apart root x y v q) ∙ k ∙ sym h.0)

            from : (v : VarName) → joined_root root x y v ≡ joined_root root x y w → Contains (w ∷ (cs ++ c ∷ ws)) v
            from v k = side (was v (k ∙ top_joined root x y c w representatives))
              where
                side : (root v ≡ root c) ⊎ (root v ≡ root w) → Contains (w ∷ (cs ++ c ∷ ws)) v
                side (inl q) = Contains-tail w v (cs ++ c ∷ ws) (child (Contains-cons_cases c v cs ((rc.all v).1 q)))
                  where
                    child : (c ≡ v) ⊎ Contains cs v → Contains (cs ++ c ∷ ws) v
                    child (inl r) = Contains-append_right cs (c ∷ ws) v (subst (Contains (c ∷ ws)) r (Contains-head c ws))
                    child (inr r) = Contains-append_left cs (c ∷ ws) v r
                side (inr q) = top (Contains-cons_cases w v ws ((rtop.all v).1 q))
                  where
                    top : (w ≡ v) ⊎ Contains ws v → Contains (w ∷ (cs ++ c ∷ ws)) v
                    top (inl r) = subst (Contains (w ∷ (cs ++ c ∷ ws))) r (Contains-head w (cs ++ c ∷ ws))
                    top (inr r) = Contains-tail w v (cs ++ c ∷ ws) (Contains-append_right cs (c ∷ ws) v (Contains-tail c v ws r))
        go (other p nc nw) = (
          zs,
          record {
            path = path_moved entry (entry_after_union entry c w e) z z zs z (next_else z nc nw) (others z zs far) rz.path;
            first = rz.first;
            all = λ v. (λ k. joined_same root x y v z ((rz.all v).0 k), λ k. (rz.all v).1 (back v k));
            long = rz.long ∙ sym (rw (apart_false w z nw, apart_false c z nc) refl);
          },
        )
          where
            zs : List VarName
            zs = (t.ring z p).0

            rz : IsRing root entry z zs
            rz = (t.ring z p).1

            far : (v : VarName) → Contains zs v → (c ≡ v → ⊥) × (w ≡ v → ⊥)
            far v k = let own = (rz.all v).0 (Contains-tail z v zs k) in (λ q. nc (t.one c z tc p (ap root q ∙ own)), λ q. nw (t.one w z tw p (ap root q ∙ own)))

            back : (v : VarName) → joined_root root x y v ≡ joined_root root x y z → root v ≡ root z
            back v k = by (equal_var (root v) (root x)) refl
              where
                by : (b : Bool) → equal_var (root v) (root x) ≡ b → root v ≡ root z
                by true q = absurd (not_right root entry x y c w z t tc tw representatives p nc nw (sym (sym (joined_when root x y v (same_back (root v) (root x) q)) ∙ k ∙ alone_root z p nc nw)))
                by false q = sym (joined_apart root x y v q) ∙ k ∙ alone_root z p nc nw

-- the same where the entries were written down in between
pub join_tells : (root : VarName → VarName) (entry settled new : VarName → ClassEntry) (x y c w e : VarName) → AreClasses root entry → ((z : VarName) → settled z ≡ entry z) →
    IsRepresentative entry c → IsRepresentative entry w → (c ≡ w → ⊥) → (root x ≡ root y → ⊥) → AreRepresentatives root x y c w → e ≡ root y → ((z : VarName) → new z ≡ entry_after_union settled c w e z) →
    AreClasses (joined_root root x y) new
join_tells root entry settled new x y c w e t same tc tw differ apart representatives ends at =
    tells_same (joined_root root x y) (entry_after_union settled c w e) new at
    (classes_after_union root settled x y c w e (tells_same root entry settled same t) (rw (same c) tc) (rw (same w) tw) differ apart representatives ends)

pub end_told : (root : VarName → VarName) (entry settled : VarName → ClassEntry) (top x : VarName) (p : ClassEntry) → AreClasses root entry → ((z : VarName) → settled z ≡ entry z) → IsRepresentative entry top →
    root top ≡ root x → p ≡ settled top → p.end ≡ root x
end_told root entry settled top x p t same h e at = ap (λ (r : ClassEntry). r.end) (at ∙ same top) ∙ sym (t.end top h) ∙ e

pub on_err : {A B : Type 0} {P : Type 0} (r : Result A B) → P → OnErr r P
on_err (Ok x) p = tt
on_err (Err e) p = p

-- ---- the way to the top

-- after so many steps from a variable
pub record IsOnTheWay (forest : ClassEntries) (x : VarName) (steps : ℕ) (at : VarName) (entry : ClassEntry) : Type 0 where
  pub here : entry ≡ entry_in forest at
  pub doubled : 2 ^ steps ≤ entry.size
  pub class : (root : VarName → VarName) → AreClasses root (entry_in forest) → root at ≡ root x

-- 64 steps are too many
pub way_ends : (forest : ClassEntries) (x : VarName) (steps : ℕ) (at : VarName) (entry : ClassEntry) → IsOnTheWay forest x steps at entry → entry.size < 2 ^ 64 → 64 ≤ steps → steps ≤ 64 → ⊥
way_ends forest x steps at entry way fits least most =
    let full : steps ≡ 64 = omega (arith, least, most) in
    let doubled = subst (λ (n : ℕ). 2 ^ n ≤ entry.size) full way.doubled in
    omega (arith, doubled, fits)
