-- The equations of a bundle are reached.
use Rattle.std.proofs.Common.{◌≡◌, refl, ℕ, zero, suc, List, [], ◌∷◌, ◌++◌, length, map, take, Bool, true, false, cond, None, Some}
use Rattle.std.specs.Prelude.{Option, option_to_list}
use Rattle.std.specs.List.{list_any}
use Rattle.tree_node.specs.declared.names.VarName.{VarName}
use Rattle.tree_node.specs.declared.node.Term.{Term}
use Rattle.tree_node.specs.Assoc.{value_of}
use Rattle.tree_node.specs.Each.{Each}
use Rattle.tree_node.specs.Store.{Store, Equation, equal_var}
use Rattle.tree_node.proofs.EachLemmas.{each_append, each_in}
use Rattle.site_message.specs.Vars.{vars_of}
use Rattle.site_model.specs.Bundle.{vars_of_terms, known_terms, reachable_vars, distinct_vars, known_equations, reachable_equations, is_below, insert_ascending, ascending, bundle_from}
use Rattle.marshal.specs.Marshal.{IsReached, first, onward, IsReachedEquation}
use Rattle.site_model.proofs.BundleLemmas.{value_there}

-- what holds of all that are reached, for the variables in their terms
module _ (s : Store) (xs : List VarName) where
  next_reached : (ys : List VarName) → Each (IsReached s xs) ys → Each (IsReached s xs) (vars_of_terms (known_terms s ys))
  next_reached [] h = tt
  next_reached (y ∷ ys) h = go (value_of equal_var s y) refl (next_reached ys h.1)
    where
      go : (o : Option Term) → value_of equal_var s y ≡ o → Each (IsReached s xs) (vars_of_terms (known_terms s ys)) → Each (IsReached s xs) (vars_of_terms (option_to_list o ++ known_terms s ys))
      go None e rest = rest
      go (Some t) e rest = each_append (IsReached s xs) (vars_of t) (vars_of_terms (known_terms s ys)) (each_in (IsReached s xs) (vars_of t) (λ z k. onward h.0 (value_there s y t e) k)) rest

  levels_reached : (d : ℕ) (ys : List VarName) → Each (IsReached s xs) ys → Each (IsReached s xs) (reachable_vars d s ys)
  levels_reached zero ys h = h
  levels_reached (suc d) ys h = each_append (IsReached s xs) ys (reachable_vars d s (vars_of_terms (known_terms s ys))) h (levels_reached d (vars_of_terms (known_terms s ys)) (next_reached ys h))

  once_reached : (ys seen : List VarName) → Each (IsReached s xs) ys → Each (IsReached s xs) (distinct_vars seen ys)
  once_reached [] seen h = tt
  once_reached (y ∷ ys) seen h = go (list_any (equal_var y) seen) (once_reached ys seen h.1) (once_reached ys (y ∷ seen) h.1)
    where
      go : (b : Bool) → Each (IsReached s xs) (distinct_vars seen ys) → Each (IsReached s xs) (distinct_vars (y ∷ seen) ys) → Each (IsReached s xs) (cond b (distinct_vars seen ys) (y ∷ distinct_vars (y ∷ seen) ys))
      go true f g = f
      go false f g = (h.0, g)

  equations_reached : (ys : List VarName) → Each (IsReached s xs) ys → Each (IsReachedEquation s xs) (known_equations s ys)
  equations_reached [] h = tt
  equations_reached (y ∷ ys) h = go (value_of equal_var s y) refl (equations_reached ys h.1)
    where
      go : (o : Option Term) → value_of equal_var s y ≡ o → Each (IsReachedEquation s xs) (known_equations s ys) → Each (IsReachedEquation s xs) (map (λ (t : Term). (y, t)) (option_to_list o) ++ known_equations s ys)
      go None e rest = rest
      go (Some t) e rest = ((value_there s y t e, h.0), rest)

  take_reached : (n : ℕ) (es : List Equation) → Each (IsReachedEquation s xs) es → Each (IsReachedEquation s xs) (take n es)
  take_reached zero es h = tt
  take_reached (suc n) [] h = tt
  take_reached (suc n) (e ∷ es) h = (h.0, take_reached n es h.1)

  put_reached : (e : Equation) (ds : List Equation) → IsReachedEquation s xs e → Each (IsReachedEquation s xs) ds → Each (IsReachedEquation s xs) (insert_ascending e ds)
  put_reached e [] h g = (h, tt)
  put_reached e (d ∷ ds) h g = go (is_below d.0 e.0) (put_reached e ds h g.1)
    where
      go : (b : Bool) → Each (IsReachedEquation s xs) (insert_ascending e ds) → Each (IsReachedEquation s xs) (cond b (d ∷ insert_ascending e ds) (e ∷ d ∷ ds))
      go true rest = (g.0, rest)
      go false rest = (h, g)

  order_reached : (es : List Equation) → Each (IsReachedEquation s xs) es → Each (IsReachedEquation s xs) (ascending es)
  order_reached [] h = tt
  order_reached (e ∷ es) h = put_reached e (ascending es) h.0 (order_reached es h.1)

  pub bundle_reached : (limit : ℕ) → Each (IsReachedEquation s xs) (bundle_from limit s xs)
  bundle_reached limit =
      order_reached (take limit (reachable_equations s xs)) (take_reached limit (reachable_equations s xs)
      (equations_reached (distinct_vars [] (reachable_vars (length s) s xs)) (once_reached (reachable_vars (length s) s xs) [] (levels_reached (length s) xs (each_in (IsReached s xs) xs (λ x k. first k))))))
