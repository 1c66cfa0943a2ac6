-- A bundle has known equations alone.
use Rattle.std.proofs.Common.{◌≡◌, ◌∙◌, sym, ap, refl, subst, ℕ, ◌<◌, List, [], ◌∷◌, ◌++◌, map, length, get_or, append_assoc, Bool, true, false, cond, Some, None}
use Rattle.std.specs.Prelude.{Option, Contains, option_to_list}
use Rattle.tree_node.specs.declared.names.VarName.{VarName}
use Rattle.tree_node.specs.declared.node.Term.{Term}
use Rattle.tree_node.specs.Assoc.{value_of}
use Rattle.tree_node.specs.Each.{Each}
use Rattle.tree_node.specs.Order.{IsLower}
use Rattle.tree_node.specs.Store.{Store, Equation, equal_var}
use Rattle.tree_node.proofs.ClassLemmas.{same_name_decides, Contains-head, Contains-tail}
use Rattle.kernel_syntax.proofs.OrderLemmas.{Each-at}
use Rattle.site_message.specs.declared.message.Msg.{Msg}
use Rattle.site_message.specs.declared.message.Msg.TheVariants as msg
use Rattle.site_message.specs.Vars.{vars_of}
use Rattle.site_message.specs.Wire.{FitsEquation, FitsWire}
use Rattle.site_model.specs.Bundle.{known_equations, reachable_equations, is_below, insert_ascending, ascending, bundle_roots, bundle_of, vars_of_equations, message_bundle}
use Rattle.tree_node.proofs.EachLemmas.{each_append, each_take}

pub value_there : (s : Store) (x : VarName) (t : Term) → value_of equal_var s x ≡ Some t → Contains s (x, t)
value_there [] x t e = cc
value_there ((y, r) ∷ s) x t e = go (equal_var y x) refl e (λ k. value_there s x t k)
  where
    go : (b : Bool) → equal_var y x ≡ b → cond b (Some r) (value_of equal_var s x) ≡ Some t → (value_of equal_var s x ≡ Some t → Contains s (x, t)) → Contains ((y, r) ∷ s) (x, t)
    go true q k ih =
        let same : y ≡ x = (same_name_decides y x).0 q in
        let term : r ≡ t = cc in
        rw (same, term) (Contains-head _ s)
    go false q k ih = Contains-tail _ _ s (ih k)

own_known : (s : Store) (xs : List VarName) → Each (Contains s) (known_equations s xs)
own_known s [] = tt
own_known s (x ∷ xs) = each_append (Contains s) _ (known_equations s xs) (go (value_of equal_var s x) refl) (own_known s xs)
  where
    go : (o : Option Term) → value_of equal_var s x ≡ o → Each (Contains s) (map (λ (t : Term). (x, t)) (option_to_list o))
    go None e = tt
    go (Some t) e = (value_there s x t e, tt)

put_each : (P : Equation → Type 0) (e : Equation) (ds : List Equation) → P e → Each P ds → Each P (insert_ascending e ds)
put_each P e [] h g = (h, tt)
put_each P e (d ∷ ds) h g = go (is_below d.0 e.0) (put_each P e ds h g.1)
  where
    go : (b : Bool) → Each P (insert_ascending e ds) → Each P (cond b (d ∷ insert_ascending e ds) (e ∷ d ∷ ds))
    go true rest = (g.0, rest)
    go false rest = (h, g)

order_each : (P : Equation → Type 0) (es : List Equation) → Each P es → Each P (ascending es)
order_each P [] h = tt
order_each P (e ∷ es) h = put_each P e (ascending es) h.0 (order_each P es h.1)

pub bundle_known : (limit : ℕ) (s : Store) (m : Msg) → Each (Contains s) (bundle_of limit s m)
bundle_known limit s m = order_each (Contains s) _ (each_take (Contains s) limit (reachable_equations s (bundle_roots m)) (own_known s _))

-- ---- lists of equations

pub equations_append : (es fs : List Equation) → vars_of_equations (es ++ fs) ≡ vars_of_equations es ++ vars_of_equations fs
equations_append [] fs = refl
equations_append (e ∷ es) fs = ap (λ (l : List VarName). (e.0 ∷ vars_of e.1) ++ l) (equations_append es fs) ∙ sym (append_assoc (e.0 ∷ vars_of e.1) (vars_of_equations es) (vars_of_equations fs))

pub lower_at : (es : List Equation) (k : ℕ) (d : Equation) → Each (λ (e : Equation). IsLower e.1 e.0) es → k < length es → d ≡ get_or es k d → IsLower d.1 d.0
lower_at es k d h below at =
    let there : IsLower (get_or es k d).1 (get_or es k d).0 = Each-at (λ (e : Equation). IsLower e.1 e.0) es k d h below in
    subst (λ (e : Equation). IsLower e.1 e.0) (sym at) there

-- the equations of a message that can be spelled can be
pub bundle_wire : (m : Msg) → FitsWire m → Each FitsEquation (message_bundle m)
bundle_wire (msg.Spawn n code vars es) w = w.2.1
bundle_wire (msg.Register x k) w = tt
bundle_wire (msg.BindReq x n t es) w = w.3.1
bundle_wire (msg.Binding x t es) w = w.2.1
bundle_wire (msg.Get c k) w = tt
bundle_wire (msg.Forward c k) w = tt
bundle_wire (msg.Put c v es) w = w.2.1
bundle_wire (msg.PortSend q n k) w = tt
bundle_wire (msg.PortEnd n old new es) w = w.3.1
bundle_wire (msg.CellMake c v es) w = w.3.1
bundle_wire (msg.CellAsk c n k v es) w = w.5.1
bundle_wire (msg.CellOld n v es) w = w.2.1
