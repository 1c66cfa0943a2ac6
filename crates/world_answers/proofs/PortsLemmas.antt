-- The ends of ports, as a port is made and as one is sent to.
use Rattle.std.proofs.Common.{◌≡◌, ◌∙◌, sym, ap, refl, subst, ℕ, List, [], ◌∷◌, ◌++◌, ◌⊎◌, inl, inr, Bool, true, false, cond, Some, None}
use Rattle.std.proofs.lemmas.Bool.{false_from_ne_true}
use Rattle.std.specs.Prelude.{Option, ◌≢◌, ◌==◌}
use Rattle.std.specs.Map.{lookup}
use Rattle.indexmap.specs.IndexMap.{insert_entry}
use Rattle.tree_node.specs.declared.names.VarName.{VarName}
use Rattle.tree_node.specs.declared.names.PortName.{PortName}
use Rattle.tree_node.specs.Assoc.{value_of, with_value}
use Rattle.tree_node.specs.Goal.{equal_port}
use Rattle.tree_node.proofs.AssocLemmas.{value_of-with_value, value_of-with_value-other, value_of-append, value_of-append-other}
use Rattle.tree_node.proofs.NameLemmas.{same_port_decides}
use Rattle.bind_protocol.specs.Records.{Records}
use Rattle.site_model.specs.Site.{Site}
use Rattle.world_model.specs.Keepers.{PortsMatch, ports, end_at}
use Rattle.world_model.specs.Names.{IsHere}
use Rattle.world_model.specs.World.{Sites, put}
use Rattle.world_model.proofs.PutLemmas.{nat_decides, at_all, at_here}

abbrev pub Ports : Type 0
Ports = ℕ → List (PortName × VarName)

-- ---- tables

port_same : (q : PortName) → equal_port q q ≡ true
port_same q = (same_port_decides q q).1 refl

ports_differ : (q r : PortName) → q ≢ r → equal_port q r ≡ false
ports_differ q r h = false_from_ne_true (equal_port q r) (λ e. h ((same_port_decides q r).0 e))

pub port_cases : (q r : PortName) → (q ≡ r) ⊎ (q ≢ r)
port_cases q r = go (equal_port q r) refl
  where
    go : (b : Bool) → equal_port q r ≡ b → (q ≡ r) ⊎ (q ≢ r)
    go true e = inl ((same_port_decides q r).0 e)
    go false e = inr (λ same. let yes : equal_port q r ≡ true = (same_port_decides q r).1 same in cc)

pub end_here : (es : List (PortName × VarName)) (q : PortName) (v : VarName) → lookup (equal_port q) (insert_entry equal_port es q v) ≡ Some v
end_here [] q v = rw (port_same q) refl
end_here ((d, u) ∷ es) q v = go (equal_port q d) refl (end_here es q v)
  where
    go : (b : Bool) → equal_port q d ≡ b → lookup (equal_port q) (insert_entry equal_port es q v) ≡ Some v → lookup (equal_port q) (cond (equal_port q d) ((d, v) ∷ es) ((d, u) ∷ insert_entry equal_port es q v)) ≡ Some v
    go true e ih = rw (e, e) refl
    go false e ih = rw (e, e) ih

pub end_other : (es : List (PortName × VarName)) (q r : PortName) (v : VarName) → r ≢ q → lookup (equal_port r) (insert_entry equal_port es q v) ≡ lookup (equal_port r) es
end_other [] q r v h = rw (ports_differ r q h) refl
end_other ((d, u) ∷ es) q r v h = go (equal_port q d) refl (end_other es q r v h)
  where
    go : (x : Bool) → equal_port q d ≡ x → lookup (equal_port r) (insert_entry equal_port es q v) ≡ lookup (equal_port r) es →
        lookup (equal_port r) (cond (equal_port q d) ((d, v) ∷ es) ((d, u) ∷ insert_entry equal_port es q v)) ≡ lookup (equal_port r) ((d, u) ∷ es)
    go true e ih =
        let same : q ≡ d = (same_port_decides q d).0 e in
        let differs : equal_port r d ≡ false = ports_differ r d (λ f. h (f ∙ sym same)) in
        rw (e, differs) refl
    go false e ih = rw e (ap (λ (o : Option VarName). cond (equal_port r d) (Some u) o) ih)

-- ---- one port changes

-- its owner keeps this end of it, and all else stays
pub record Ended (ps qs : Ports) (q : PortName) (e : VarName) : Type 0 where
  pub own : lookup (equal_port q) (qs q.site) ≡ Some e
  pub others : (i : ℕ) (r : PortName) → (i ≡ q.site → q ≢ r) → lookup (equal_port r) (qs i) ≡ lookup (equal_port r) (ps i)

pub ended_at : (f : Sites) (i : ℕ) (s : Site) (q : PortName) (e : VarName) → q.site ≡ i → s.ports ≡ insert_entry equal_port (f i).ports q e → Ended (ports f) (ports (put f i s)) q e
ended_at f i s q e home is = record {
  own = ap (λ (k : ℕ). lookup (equal_port q) (ports (put f i s) k)) home ∙ ap (λ (x : Site). lookup (equal_port q) x.ports) (at_here f i s) ∙ ap (λ (es : List (PortName × VarName)). lookup (equal_port q) es) is ∙ end_here (f i).ports q e;
  others = at_all f i s (λ k (x : Site). (r : PortName) → (k ≡ q.site → q ≢ r) → lookup (equal_port r) x.ports ≡ lookup (equal_port r) (ports f k))
      (λ r other. ap (λ (es : List (PortName × VarName)). lookup (equal_port r) es) is ∙ end_other (f i).ports q r e (λ same. other (sym home) (sym same))) (λ k far r other. refl);
}

pub port_kept : (ps qs : Ports) (rs more : ℕ → Records) (central to : List (PortName × VarName)) (q : PortName) (e : VarName) → PortsMatch ps rs central → Ended ps qs q e → ((i : ℕ) (y : VarName) → IsHere (rs i) y → IsHere (more i) y) →
    value_of equal_port to q ≡ Some e → ((r : PortName) → q ≢ r → value_of equal_port to r ≡ value_of equal_port central r) → IsHere (more q.site) e → PortsMatch qs more to
port_kept ps qs rs more central to q e m change wider there far known = record {
  ends = λ r. ends r (port_cases q r);
  alone = λ i r x h. alone i r x h (port_cases q r);
}
  where
    ends : (r : PortName) → (q ≡ r) ⊎ (q ≢ r) → end_at qs r ≡ value_of equal_port to r
    ends r (inl same) = subst (λ (y : PortName). end_at qs y ≡ value_of equal_port to y) same (change.own ∙ sym there)
    ends r (inr other) = change.others r.site r (λ z. other) ∙ m.ends r ∙ sym (far r other)

    alone : (i : ℕ) (r : PortName) (x : VarName) → lookup (equal_port r) (qs i) ≡ Some x → (q ≡ r) ⊎ (q ≢ r) → (r.site ≡ i) × IsHere (more i) x
    alone i r x h (inr other) = let g = m.alone i r x (sym (change.others i r (λ z. other)) ∙ h) in (g.0, wider i x g.1)
    alone i r x h (inl same) = subst (λ (y : PortName). (y.site ≡ i) × IsHere (more i) x) same (go (i == q.site) refl)
      where
        here : lookup (equal_port q) (qs i) ≡ Some x
        here = subst (λ (y : PortName). lookup (equal_port y) (qs i) ≡ Some x) (sym same) h

        go : (b : Bool) → (i == q.site) ≡ b → (q.site ≡ i) × IsHere (more i) x
        go true z =
            let place : i ≡ q.site = (nat_decides i q.site).0 z in
            let both : ◌≡◌ {A = Option VarName} (Some e) (Some x) = sym change.own ∙ subst (λ (k : ℕ). lookup (equal_port q) (qs k) ≡ Some x) place here in
            let one : e ≡ x = cc in
            (sym place, subst (λ (k : ℕ). IsHere (more k) x) (sym place) (subst (λ (y : VarName). IsHere (more q.site) y) one known))
        go false z =
            let elsewhere : i ≢ q.site = (λ f. let yes : (i == q.site) ≡ true = (nat_decides i q.site).1 f in cc) in
            let g = m.alone i q x (sym (change.others i q (λ f. absurd (elsewhere f))) ∙ here) in
            absurd (elsewhere (sym g.0))

-- ---- the machine's ports

pub opened_here : (central : List (PortName × VarName)) (q : PortName) (e : VarName) → value_of equal_port central q ≡ None → value_of equal_port (central ++ (q, e) ∷ []) q ≡ Some e
opened_here central q e none = value_of-append-other equal_port same_port_decides central ((q, e) ∷ []) q none ∙ rw (port_same q) refl

pub opened_there : (central : List (PortName × VarName)) (q r : PortName) (e : VarName) → q ≢ r → value_of equal_port (central ++ (q, e) ∷ []) r ≡ value_of equal_port central r
opened_there central q r e other = go (value_of equal_port central r) refl
  where
    go : (o : Option VarName) → value_of equal_port central r ≡ o → value_of equal_port (central ++ (q, e) ∷ []) r ≡ value_of equal_port central r
    go None h = value_of-append-other equal_port same_port_decides central ((q, e) ∷ []) r h ∙ rw (ports_differ q r other, h) refl
    go (Some v) h = value_of-append equal_port same_port_decides central ((q, e) ∷ []) r v h ∙ sym h

pub moved_here : (central : List (PortName × VarName)) (q : PortName) (old e : VarName) → value_of equal_port central q ≡ Some old → value_of equal_port (with_value equal_port central q e) q ≡ Some e
moved_here central q old e at = value_of-with_value equal_port same_port_decides central q e old at

pub moved_there : (central : List (PortName × VarName)) (q r : PortName) (e : VarName) → q ≢ r → value_of equal_port (with_value equal_port central q e) r ≡ value_of equal_port central r
moved_there central q r e other = value_of-with_value-other equal_port same_port_decides central q r e other
