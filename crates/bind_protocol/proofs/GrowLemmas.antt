-- One site learns something of one variable.
use Rattle.std.proofs.Common.{rules, ◌≡◌, ◌∙◌, ℕ, List, refl, sym, ap, subst, ◌⊎◌, inl, inr, Bool, true, false}
use Rattle.std.specs.Prelude.{Option, Some, is_some, IsTrue, ◌&&◌, ◌==◌}
use Rattle.tree_node.specs.declared.names.VarName.{VarName}
use Rattle.tree_node.specs.declared.node.Term.{Term}
use Rattle.tree_node.specs.Each.{Each}
use Rattle.tree_node.specs.Store.{equal_var}
use Rattle.tree_node.proofs.ClassLemmas.{same_name_decides}
use Rattle.site_message.specs.declared.message.Sent.{Sent}
use Rattle.site_message.specs.declared.message.Msg.{Msg}
use Rattle.site_message.specs.declared.message.Msg.TheVariants as msg
use Rattle.bind_protocol.specs.World.{vars_of}
use Rattle.bind_protocol.specs.Lawful.{Knowing, IsKnownToOwner, IsGood, Truth, IsTrueMessage}
use Rattle.std.proofs.lemmas.Bool.{eqb-true}
use Rattle.tree_node.proofs.EnvLemmas.{each_more}

-- site k knows v of y from now on, and nothing else is other than before
pub record Changes (know more : Knowing) (k : ℕ) (y : VarName) (v : Option Term) : Type 0 where
  pub here : more k y ≡ Some v
  pub others : (i : ℕ) (x : VarName) → (i ≡ k → x ≡ y → ⊥) → more i x ≡ know i x

abbrev pub this_place : ℕ → VarName → ℕ → VarName → Bool
this_place k y i x = equal_var x y && (i == k)

nat_same : (k : ℕ) → (k == k) ≡ true
nat_same k = search rules

pub place_is : (k : ℕ) (y : VarName) (i : ℕ) (x : VarName) → this_place k y i x ≡ true → (i ≡ k) × (x ≡ y)
place_is k y i x h = go (equal_var x y) refl h
  where
    go : (b : Bool) → equal_var x y ≡ b → (b && (i == k)) ≡ true → (i ≡ k) × (x ≡ y)
    go true q e = (eqb-true i k e, (same_name_decides x y).0 q)
    go false q e = cc

pub place_is_not : (k : ℕ) (y : VarName) (i : ℕ) (x : VarName) → this_place k y i x ≡ false → i ≡ k → x ≡ y → ⊥
place_is_not k y i x h e f =
    let first : equal_var x y ≡ true = (same_name_decides x y).1 f in
    let second : (i == k) ≡ true = subst (λ (j : ℕ). (i == j) ≡ true) e (nat_same i) in
    let both : this_place k y i x ≡ true = rw (first, second) refl in
    let contrary : true ≡ false = sym both ∙ h in cc

abbrev Either : (k : ℕ) (y : VarName) (i : ℕ) (x : VarName) → Type 0
Either k y i x = ((i ≡ k) × (x ≡ y)) ⊎ (i ≡ k → x ≡ y → ⊥)

pub either : (k : ℕ) (y : VarName) (i : ℕ) (x : VarName) → Either k y i x
either k y i x = go (this_place k y i x) refl
  where
    go : (b : Bool) → this_place k y i x ≡ b → Either k y i x
    go true q = inl (place_is k y i x q)
    go false q = inr (place_is_not k y i x q)

-- who knows more keeps what was made and bound
pub record Grows (know more : Knowing) : Type 0 where
  pub some : (i : ℕ) (x : VarName) → IsTrue (is_some (know i x)) → IsTrue (is_some (more i x))
  pub bound : (i : ℕ) (x : VarName) (t : Term) → know i x ≡ Some (Some t) → more i x ≡ Some (Some t)

pub change_grows : (know more : Knowing) (k : ℕ) (y : VarName) (v : Option Term) → Changes know more k y v → ((t : Term) → know k y ≡ Some (Some t) → ⊥) → Grows know more
change_grows know more k y v ch unbound = record {
  some = λ i x h. some_by i x (either k y i x) h;
  bound = λ i x t h. bound_by i x t (either k y i x) h;
}
  where
    some_by : (i : ℕ) (x : VarName) → Either k y i x → IsTrue (is_some (know i x)) → IsTrue (is_some (more i x))
    some_by i x (inl (e, f)) h = rw (e, f, ch.here) refl
    some_by i x (inr n) h = rw (ch.others i x n) h

    bound_by : (i : ℕ) (x : VarName) (t : Term) → Either k y i x → know i x ≡ Some (Some t) → more i x ≡ Some (Some t)
    bound_by i x t (inl (e, f)) h = absurd (unbound t (rw (e, f) at h))
    bound_by i x t (inr n) h = ch.others i x n ∙ h

pub good_stays : (know more : Knowing) → Grows know more → (x : VarName) (t : Term) → IsGood know x t → IsGood more x t
good_stays know more g x t h = (each_more (IsKnownToOwner know) (IsKnownToOwner more) (vars_of t) (λ z m. g.some z.site z m) h.0, h.1)

abbrev Fits : Knowing → ℕ → Msg → Type 0
Fits know to m = IsTrueMessage know (record { to = to; msg = m })

letter_stays : (know more : Knowing) → Grows know more → (s : Sent) → IsTrueMessage know s → IsTrueMessage more s
letter_stays know more g s h = go s.msg h
  where
    go : (m : Msg) → Fits know s.to m → Fits more s.to m
    go (msg.Register x k) h = (h.0, g.some x.site x h.1)
    go (msg.BindReq x thread t bundle) h = (h.0, g.some x.site x h.1, good_stays know more g x t h.2)
    go (msg.Binding x t bundle) h = (h.0, g.bound x.site x t h.1)
    go (msg.Spawn a b c d) h = h
    go (msg.Get a b) h = h
    go (msg.Forward a b) h = h
    go (msg.Put a b c) h = h
    go (msg.PortSend a b c) h = h
    go (msg.PortEnd a b c d) h = h
    go (msg.CellMake a b c) h = h
    go (msg.CellAsk a b c d g) h = h
    go (msg.CellOld a b c) h = h

pub letters_stay : (know more : Knowing) → Grows know more → (ms : List Sent) → Each (IsTrueMessage know) ms → Each (IsTrueMessage more) ms
letters_stay know more g ms h = each_more (IsTrueMessage know) (IsTrueMessage more) ms (λ s l. letter_stays know more g s l) h

-- what is learnt is true: an owner's own bind to a good term, or what the owner holds
abbrev pub IsTrueTo : Knowing → ℕ → VarName → Option Term → Type 0
IsTrueTo know k y v = (t : Term) → v ≡ Some t → ((k ≡ y.site) × IsGood know y t) ⊎ (know y.site y ≡ Some (Some t))

pub truth_stays : (know more : Knowing) (k : ℕ) (y : VarName) (v : Option Term) → Changes know more k y v → Grows know more → (k ≡ y.site) ⊎ IsKnownToOwner know y → IsTrueTo know k y v → Truth know → Truth more
truth_stays know more k y v ch g made true_to old = record {
  made = λ i x o h. made_by i x o (either k y i x) h;
  owned = λ i x t h. owned_by i x t (either k y i x) h;
  good = λ x t h. good_by x t (either k y x.site x) h;
}
  where
    y_made : (k ≡ y.site) ⊎ IsKnownToOwner know y → IsKnownToOwner more y
    y_made (inl e) = subst (λ (j : ℕ). IsTrue (is_some (more j y))) e (ap is_some ch.here)
    y_made (inr m) = g.some y.site y m

    made_by : (i : ℕ) (x : VarName) (o : Option Term) → Either k y i x → more i x ≡ Some o → IsKnownToOwner more x
    made_by i x o (inl (e, f)) h = rw f (y_made made)
    made_by i x o (inr n) h = g.some x.site x (old.made i x o (sym (ch.others i x n) ∙ h))

    y_owned : (t : Term) → ((k ≡ y.site) × IsGood know y t) ⊎ (know y.site y ≡ Some (Some t)) → v ≡ Some t → more y.site y ≡ Some (Some t)
    y_owned t (inl (e, good)) h = subst (λ (j : ℕ). more j y ≡ Some (Some t)) e (ch.here ∙ ap Some h)
    y_owned t (inr holds) h = g.bound y.site y t holds

    learnt : (t : Term) → more k y ≡ Some (Some t) → v ≡ Some t
    learnt t h = let both : Some v ≡ Some (Some t) = sym ch.here ∙ h in cc

    owned_by : (i : ℕ) (x : VarName) (t : Term) → Either k y i x → more i x ≡ Some (Some t) → more x.site x ≡ Some (Some t)
    owned_by i x t (inl (e, f)) h =
        let is : v ≡ Some t = learnt t (rw (e, f) at h) in
        rw f (y_owned t (true_to t is) is)
    owned_by i x t (inr n) h = g.bound x.site x t (old.owned i x t (sym (ch.others i x n) ∙ h))

    y_good : (t : Term) → ((k ≡ y.site) × IsGood know y t) ⊎ (know y.site y ≡ Some (Some t)) → IsGood more y t
    y_good t (inl (e, good)) = good_stays know more g y t good
    y_good t (inr holds) = good_stays know more g y t (old.good y t holds)

    good_by : (x : VarName) (t : Term) → Either k y x.site x → more x.site x ≡ Some (Some t) → IsGood more x t
    good_by x t (inl (e, f)) h =
        let there : more k y ≡ Some (Some t) = subst (λ (z : VarName). more k z ≡ Some (Some t)) f (subst (λ (j : ℕ). more j x ≡ Some (Some t)) e h) in
        subst (λ (z : VarName). IsGood more z t) (sym f) (y_good t (true_to t (learnt t there)))
    good_by x t (inr n) h = good_stays know more g x t (old.good x t (sym (ch.others x.site x n) ∙ h))
