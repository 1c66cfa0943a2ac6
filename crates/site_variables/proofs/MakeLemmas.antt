-- Own variables are made, one after another.
use Rattle.std.proofs.Common.{rules, arith, true, ◌≡◌, ◌≢◌, ◌∙◌, sym, ap, refl, subst, ℕ, ◌+◌, ◌<◌, ◌≤◌, List, [], ◌∷◌, ◌++◌, length, drop, get_or, drop-cons, add-one, ◌⊎◌, inl, inr}
use Rattle.std.proofs.Math.ListN.{drop_of_length-le}
use Rattle.std.proofs.lemmas.List.Elements.{Contains-append_left, Contains-append_right, Contains-append_cases}
use Rattle.std.specs.Prelude.{Option, Some, None, Contains, ◌↔◌}
use Rattle.tree_node.specs.declared.names.VarName.{VarName}
use Rattle.tree_node.specs.declared.names.Name.{Name}
use Rattle.tree_node.specs.declared.names.Name.TheVariants as name
use Rattle.tree_node.specs.declared.node.Term.{Term}
use Rattle.tree_node.specs.Each.{Each, AreDistinct}
use Rattle.tree_node.specs.Store.{Store}
use Rattle.tree_node.proofs.ClassLemmas.{Contains-cons_cases, Contains-head, Contains-tail}
use Rattle.oz_model.specs.Effect.{vars_among}
use Rattle.variable_owner.specs.declared.owners.Owner.{Owner}
use Rattle.variable_owner.specs.declared.owners.Owner.TheVariants.{Open, Bound}
use Rattle.variable_owner.specs.Owners.{owner_of}
use Rattle.bind_protocol.specs.Records.{Records, is_own, knowledge, owner_knows}
use Rattle.bind_protocol.specs.Rows.{after_make}
use Rattle.bind_protocol.specs.Learn.{HasLearned}
use Rattle.bind_protocol.proofs.LearnLemmas.{rows_teach}
use Rattle.site_model.specs.Variables.{after_makes}
use Rattle.site_variables.specs.Variables.{IsRecorded, IsUnion, IsNewOwn}
use Rattle.site_variables.proofs.LinkLemmas.{same_recorded, named_recorded}

-- those that are left are new
pub new_left : (b c : Records) (x : VarName) (o : Option (Option Term)) (xs : List VarName) → HasLearned b c x o → Each (λ y. x ≢ y) xs → Each (IsNewOwn b) xs → Each (IsNewOwn c) xs
new_left b c x o [] learns differ h = tt
new_left b c x o (y ∷ ys) learns differ h =
    ((h.0.0 ∙ sym learns.site, learns.others y (λ q. differ.0 (sym q)) ∙ h.0.1), new_left b c x o ys learns differ.1 h.1)

-- one more of them was made
union_left : (old more new : List VarName) (x : VarName) → IsUnion old (x ∷ more) new → IsUnion (old ++ x ∷ []) more new
union_left old more new x h y = (λ k. to ((h y).0 k), fro)
  where
    to : Contains old y ⊎ Contains (x ∷ more) y → Contains (old ++ x ∷ []) y ⊎ Contains more y
    to (inl k) = inl (Contains-append_left old (x ∷ []) y k)
    to (inr k) = go (Contains-cons_cases x y more k)
      where
        go : (x ≡ y) ⊎ Contains more y → Contains (old ++ x ∷ []) y ⊎ Contains more y
        go (inl q) = inl (Contains-append_right old (x ∷ []) y (subst (λ (z : VarName). Contains (x ∷ []) z) q (Contains-head x [])))
        go (inr there) = inr there

    fro : Contains (old ++ x ∷ []) y ⊎ Contains more y → Contains new y
    fro (inl k) = go (Contains-append_cases old (x ∷ []) y k)
      where
        one : (x ≡ y) ⊎ Contains [] y → Contains new y
        one (inl q) = (h y).1 (inr (subst (λ (z : VarName). Contains (x ∷ more) z) q (Contains-head x more)))
        one (inr (i, below, is)) = absurd (omega arith)

        go : Contains old y ⊎ Contains (x ∷ []) y → Contains new y
        go (inl there) = (h y).1 (inl there)
        go (inr there) = one (Contains-cons_cases x y [] there)
    fro (inr k) = (h y).1 (inr (Contains-tail x y more k))

last_union : (old : List VarName) (x y : VarName) → Contains (old ++ x ∷ []) y ↔ (Contains old y ⊎ (y ≡ x))
last_union old x y = (λ k. to (Contains-append_cases old (x ∷ []) y k), fro)
  where
    one : (x ≡ y) ⊎ Contains [] y → Contains old y ⊎ (y ≡ x)
    one (inl q) = inr (sym q)
    one (inr (i, below, is)) = absurd (omega arith)

    to : Contains old y ⊎ Contains (x ∷ []) y → Contains old y ⊎ (y ≡ x)
    to (inl k) = inl k
    to (inr k) = one (Contains-cons_cases x y [] k)

    fro : Contains old y ⊎ (y ≡ x) → Contains (old ++ x ∷ []) y
    fro (inl k) = Contains-append_left old (x ∷ []) y k
    fro (inr q) = rw q (Contains-append_right old (x ∷ []) x (Contains-head x []))

none_union : (old new : List VarName) → IsUnion old [] new → (y : VarName) → Contains new y ↔ Contains old y
none_union old new h y = (λ k. go ((h y).0 k), λ k. (h y).1 (inl k))
  where
    go : Contains old y ⊎ Contains [] y → Contains old y
    go (inl k) = k
    go (inr (i, below, is)) = absurd (omega arith)

makes_recorded : (xs : List VarName) (b : Records) (es : Store) (old new : List VarName) → Each (IsNewOwn b) xs → AreDistinct xs → IsUnion old xs new → IsRecorded es old b → IsRecorded es new (after_makes b xs)
makes_recorded [] b es old new h distinct union r = same_recorded es old new b b r (λ y. refl) (none_union old new union)
makes_recorded (x ∷ xs) b es old new h distinct union r =
    let learns : HasLearned b (after_make b x) x (Some None) = rows_teach.make b x h.0.0 in
    makes_recorded xs (after_make b x) es (old ++ x ∷ []) new (new_left b (after_make b x) x (Some None) xs learns distinct.0 h.1) distinct.1 (union_left old xs new x union)
    (named_recorded es old (old ++ x ∷ []) b (after_make b x) x r h.0.1 learns (last_union old x))

pub made_recorded : (xs : List VarName) (b c : Records) (es : Store) (old new : List VarName) → c ≡ after_makes b xs → Each (IsNewOwn b) xs → AreDistinct xs → IsUnion old xs new → IsRecorded es old b → IsRecorded es new c
made_recorded xs b c es old new is h distinct union r = rw is (makes_recorded xs b es old new h distinct union r)

-- ---- one name of several

pub none_owned : (b : Records) (x : VarName) → x.site ≡ b.site → knowledge b x ≡ None → owner_of b.owners x ≡ None
none_owned b x q e =
    let own : is_own b x ≡ true = search rules in
    go (owner_of b.owners x) refl (rw own at e)
  where
    go : (o : Option Owner) → owner_of b.owners x ≡ o → owner_knows o ≡ None → owner_of b.owners x ≡ None
    go None is k = is
    go (Some (Open ks)) is k = cc
    go (Some (Bound t)) is k = cc

-- the names from k on are new own ones, and make of the records what all names make of the first
pub record AreLeft (names : List Name) (k : ℕ) (b c : Records) : Type 0 where
  pub new : Each (IsNewOwn c) (vars_among (drop k names))
  pub distinct : AreDistinct (vars_among (drop k names))
  pub rest : after_makes c (vars_among (drop k names)) ≡ after_makes b (vars_among names)

pub first_new : (P : VarName → Type 0) (n : Name) (names : List Name) → Each P (vars_among (n ∷ names)) → Each P (vars_among (n ∷ []))
first_new P (name.Var x) names h = (h.0, tt)
first_new P (name.Cell x) names h = tt
first_new P (name.Proc x) names h = tt
first_new P (name.Port x) names h = tt
first_new P (name.Thread x) names h = tt

pub all_left : (names : List Name) (b : Records) → Each (IsNewOwn b) (vars_among names) → AreDistinct (vars_among names) → AreLeft names 0 b b
all_left names b h distinct = record { new = h; distinct = distinct; rest = refl }

left_new : (n : Name) (names : List Name) (b : Records) → Each (IsNewOwn b) (vars_among (n ∷ names)) → AreDistinct (vars_among (n ∷ names)) → Each (IsNewOwn (after_makes b (vars_among (n ∷ [])))) (vars_among names)
left_new (name.Var x) names b h distinct = new_left b (after_make b x) x (Some None) (vars_among names) (rows_teach.make b x h.0.0) distinct.0 h.1
left_new (name.Cell x) names b h distinct = h
left_new (name.Proc x) names b h distinct = h
left_new (name.Port x) names b h distinct = h
left_new (name.Thread x) names b h distinct = h

left_distinct : (n : Name) (names : List Name) → AreDistinct (vars_among (n ∷ names)) → AreDistinct (vars_among names)
left_distinct (name.Var x) names h = h.1
left_distinct (name.Cell x) names h = h
left_distinct (name.Proc x) names h = h
left_distinct (name.Port x) names h = h
left_distinct (name.Thread x) names h = h

left_rest : (n : Name) (names : List Name) (b : Records) → after_makes (after_makes b (vars_among (n ∷ []))) (vars_among names) ≡ after_makes b (vars_among (n ∷ names))
left_rest (name.Var x) names b = refl
left_rest (name.Cell x) names b = refl
left_rest (name.Proc x) names b = refl
left_rest (name.Port x) names b = refl
left_rest (name.Thread x) names b = refl

pub next_left : (names : List Name) (k : ℕ) (d : Name) (b c e : Records) → k < length names → AreLeft names k b c → e ≡ after_makes c (vars_among (get_or names k d ∷ [])) → AreLeft names (k + 1) b e
next_left names k d b c e below h is =
    let split : drop k names ≡ get_or names k d ∷ drop (k + 1) names = rw add-one (drop-cons names k d below) in
    let new : Each (IsNewOwn c) (vars_among (get_or names k d ∷ drop (k + 1) names)) = subst (λ (l : List Name). Each (IsNewOwn c) (vars_among l)) split h.new in
    let distinct : AreDistinct (vars_among (get_or names k d ∷ drop (k + 1) names)) = subst (λ (l : List Name). AreDistinct (vars_among l)) split h.distinct in
    record {
      new = rw is (left_new (get_or names k d) (drop (k + 1) names) c new distinct);
      distinct = left_distinct (get_or names k d) (drop (k + 1) names) distinct;
      rest = ap (λ (r : Records). after_makes r (vars_among (drop (k + 1) names))) is ∙ (left_rest (get_or names k d) (drop (k + 1) names) c
          ∙ (ap (λ (l : List Name). after_makes c (vars_among l)) (sym split) ∙ h.rest));
    }

pub name_new : (names : List Name) (k : ℕ) (d : Name) (b c : Records) → k < length names → AreLeft names k b c → Each (IsNewOwn c) (vars_among (get_or names k d ∷ []))
name_new names k d b c below h =
    let split : drop k names ≡ get_or names k d ∷ drop (k + 1) names = rw add-one (drop-cons names k d below) in
    first_new (IsNewOwn c) (get_or names k d) (drop (k + 1) names) (subst (λ (l : List Name). Each (IsNewOwn c) (vars_among l)) split h.new)

pub none_left : (names : List Name) (k : ℕ) (b c : Records) → length names ≤ k → AreLeft names k b c → c ≡ after_makes b (vars_among names)
none_left names k b c end h = subst (λ (l : List Name). after_makes c (vars_among l) ≡ after_makes b (vars_among names)) (drop_of_length-le names end) h.rest

pub var_is_new : (b : Records) (n : Name) (x : VarName) → n ≡ name.Var x → Each (IsNewOwn b) (vars_among (n ∷ [])) → IsNewOwn b x
var_is_new b n x is h =
    let new : Each (IsNewOwn b) (vars_among (name.Var x ∷ [])) = subst (λ (z : Name). Each (IsNewOwn b) (vars_among (z ∷ []))) is h in
    new.0
