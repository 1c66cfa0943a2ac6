-- The effects of steps of fitting threads fit.
use Rattle.std.proofs.Common.{arith, ◌≡◌, sym, refl, subst, ℕ, zero, suc, List, [], ◌∷◌, ◌++◌, map, length, Bool, true, false, cond, Some, None}
use Rattle.std.specs.Prelude.{Option, Contains, take, option_to_list}
use Rattle.tree_node.specs.declared.names.VarName.{VarName}
use Rattle.tree_node.specs.declared.names.Name.{Name}
use Rattle.tree_node.specs.declared.names.NameKind.{NameKind}
use Rattle.tree_node.specs.declared.node.Term.{Term}
use Rattle.tree_node.specs.Assoc.{value_of}
use Rattle.tree_node.specs.Each.{Each}
use Rattle.tree_node.specs.Goal.{IsAllowedBind}
use Rattle.tree_node.specs.Names.{EachOfEquation}
use Rattle.tree_node.specs.State.{Stack}
use Rattle.tree_node.specs.Store.{Store, Equation, equal_var}
use Rattle.tree_node.proofs.ClassLemmas.{same_name_decides, Contains-head, Contains-tail}
use Rattle.kernel_syntax.specs.declared.stmt.Stmt.{Stmt}
use Rattle.kernel_syntax.specs.Program.{IsProgram}
use Rattle.oz_model.specs.Need.{Need, Binds, Takes, stack_need, kinds_of}
use Rattle.oz_model.specs.Effect.{Effect, with_equations, stack_effect, vars_among}
use Rattle.oz_model.specs.Step.{AreOfKinds, IsBindFor}
use Rattle.oz_model.specs.WellFormed.{IsNode, IsNodeOf, AreNodesOf, EffectHas}
use Rattle.oz_model.specs.EffectNames.{EachOfEffect}
use Rattle.oz_model.proofs.EffectNames.{stack_effect_names}
use Rattle.oz_model.proofs.ThreadLemmas.{effects_have_nodes}
use Rattle.thread_machine.specs.Fits.{EquationsFit}
use Rattle.thread_machine.specs.Effects.{EffectFits}
use Rattle.thread_machine.proofs.KeepLemmas.{stack_effect_fits, stack_bound}
use Rattle.site_model.proofs.EffectLemmas.{bind_effect as effect_of_bind}
use Rattle.site_model.specs.Bundle.{known_equations, distinct_vars, reachable_vars, reachable_equations, insert_ascending, ascending, bundle_from, is_below}
use Rattle.world_messages.specs.Fitting.{HasHomeIn, ThreadFits}
use Rattle.world_messages.proofs.TermLemmas.{IsFitFor}
use Rattle.tree_node.proofs.OrderLemmas.{Each-member}

-- ---- effects

pub record EffectIsFit (p : List Stmt) (n : ℕ) (known : List VarName) (e : Effect) : Type 0 where
  pub fits : EffectFits p known e
  pub nodes : Each (λ (q : Equation). IsNodeOf (IsNode p) q.1) e.adds × Each (AreNodesOf (IsNode p)) e.stack
  pub homes : EachOfEffect (HasHomeIn n) e

-- a step that takes names, which are known then
pub step_is_fit : (p : List Stmt) (n : ℕ) (known : List VarName) (s : Store) (st : Stack) (kinds : List NameKind) (fresh : List Name) → IsProgram p → ThreadFits p n known st → EquationsFit p known s → Each (λ (e : Equation). IsNodeOf (IsNode p) e.1) s → Each (EachOfEquation (HasHomeIn n)) s →
    stack_need p s st ≡ Takes kinds → AreOfKinds fresh kinds → Each (λ (x : VarName). Contains known x) (vars_among fresh) → Each (HasHomeIn n) fresh → EffectIsFit p n known (stack_effect p s fresh None st)
step_is_fit p n known s st kinds fresh is h eqs nodes homes need of_kinds named placed = record {
  fits = stack_effect_fits p known s st fresh None (record { names = tt; terms = tt }) is h.some h.stack eqs named (subst (λ (d : Need). AreOfKinds fresh (kinds_of d)) (sym need) of_kinds);
  nodes = (has.adds, has.stack);
  homes = stack_effect_names (HasHomeIn n) (omega arith) p s fresh None st homes h.homes placed (subst (λ (d : Need). AreOfKinds fresh (kinds_of d)) (sym need) of_kinds) (subst (λ (d : Need). IsBindFor s d None) (sym need) tt);
}
  where
    has : EffectHas (IsNode p) (stack_effect p s fresh None st)
    has = effects_have_nodes p s st fresh None is.stmts nodes h.nodes (subst (λ (d : Need). IsBindFor s d None) (sym need) tt)

-- ---- binds

abbrev bind_of : VarName → Term → Stack → Effect
bind_of u t st = with_equations ((u, t) ∷ []) st

-- a bind adds its equation, and the thread stays as it is
pub bind_effect : (p : List Stmt) (s : Store) (st : Stack) (a b : Term) (u : VarName) (t : Term) → stack_need p s st ≡ Binds a b → stack_effect p s [] (Some (u, t)) st ≡ bind_of u t st
bind_effect p s st a b u t need = effect_of_bind p s st a b (u, t) need

pub bind_is_fit : (p : List Stmt) (n : ℕ) (known : List VarName) (s : Store) (st : Stack) (a b : Term) (u : VarName) (t : Term) → IsProgram p → ThreadFits p n known st → EquationsFit p known s → Each (λ (e : Equation). IsNodeOf (IsNode p) e.1) s → Each (EachOfEquation (HasHomeIn n)) s →
    stack_need p s st ≡ Binds a b → IsAllowedBind s a b (u, t) → IsFitFor p n known u t
bind_is_fit p n known s st a b u t is h eqs nodes homes need allows =
    let f = stack_bound p known s st a b u t h.stack eqs need allows in
    (f.0, f.1, f.2, (subst (λ (e : Effect). Each (λ (q : Equation). IsNodeOf (IsNode p) q.1) e.adds) (bind_effect p s st a b u t need) has.adds).0, (subst (EachOfEffect (HasHomeIn n)) (bind_effect p s st a b u t need) placed).adds.0.1)
  where
    has : EffectHas (IsNode p) (stack_effect p s [] (Some (u, t)) st)
    has = effects_have_nodes p s st [] (Some (u, t)) is.stmts nodes h.nodes (subst (λ (d : Need). IsBindFor s d (Some (u, t))) (sym need) allows)

    placed : EachOfEffect (HasHomeIn n) (stack_effect p s [] (Some (u, t)) st)
    placed = stack_effect_names (HasHomeIn n) (omega arith) p s [] (Some (u, t)) st homes h.homes tt (subst (λ (d : Need). AreOfKinds [] (kinds_of d)) (sym need) tt) (subst (λ (d : Need). IsBindFor s d (Some (u, t))) (sym need) allows)

pub bound_is_fit : (p : List Stmt) (n : ℕ) (known : List VarName) (u : VarName) (t : Term) (st : Stack) → ThreadFits p n known st → IsFitFor p n known u t → EffectIsFit p n known (bind_of u t st)
bound_is_fit p n known u t st h f = record {
  fits = record { adds = record { names = ((f.0, f.1), tt); terms = (f.2, tt) }; stack = h.stack; born = tt; cell = tt; port = tt };
  nodes = ((f.3, tt), h.nodes);
  homes = record { adds = ((omega arith, f.4), tt); stack = h.homes; born = tt; cell = tt; port = tt };
}

-- ---- bundles

-- what holds of each equation of a store holds of each that goes with a message
module _ (R : Equation → Type 0) where
  pub value_in : (s : Store) (x : VarName) (t : Term) → value_of equal_var s x ≡ Some t → Contains s (x, t)
  value_in [] x t e = cc
  value_in ((y, r) ∷ s) x t e = go (equal_var y x) refl e (λ k. value_in s x t k)
    where
      go : (b : Bool) → equal_var y x ≡ b → cond b (Some r) (value_of equal_var s x) ≡ Some t → (value_of equal_var s x ≡ Some t → Contains s (x, t)) → Contains ((y, r) ∷ s) (x, t)
      go true q k ih =
          let same : y ≡ x = (same_name_decides y x).0 q in
          let term : r ≡ t = cc in
          subst (λ (z : VarName). Contains ((y, r) ∷ s) (z, t)) same (subst (λ (w : Term). Contains ((y, r) ∷ s) (y, w)) term (Contains-head (y, r) s))
      go false q k ih = Contains-tail (y, r) (x, t) s (ih k)

  each_append : (xs ys : List Equation) → Each R xs → Each R ys → Each R (xs ++ ys)
  each_append [] ys h k = k
  each_append (x ∷ xs) ys h k = (h.0, each_append xs ys h.1 k)

  owns : (s : Store) → Each R s → (xs : List VarName) → Each R (known_equations s xs)
  owns s h [] = tt
  owns s h (x ∷ xs) = each_append _ (known_equations s xs) (first (value_of equal_var s x) refl) (owns s h xs)
    where
      first : (o : Option Term) → value_of equal_var s x ≡ o → Each R (map (λ (t : Term). (x, t)) (option_to_list o))
      first None e = tt
      first (Some t) e = (Each-member R s (x, t) h (value_in s x t e), tt)

  takes : (n : ℕ) (es : List Equation) → Each R es → Each R (take n es)
  takes zero es h = tt
  takes (suc n) [] h = tt
  takes (suc n) (e ∷ es) h = (h.0, takes n es h.1)

  puts : (e : Equation) (es : List Equation) → R e → Each R es → Each R (insert_ascending e es)
  puts e [] h k = (h, tt)
  puts e (d ∷ ds) h k = go (is_below d.0 e.0) (puts e ds h k.1)
    where
      go : (b : Bool) → Each R (insert_ascending e ds) → Each R (cond b (d ∷ insert_ascending e ds) (e ∷ d ∷ ds))
      go true ih = (k.0, ih)
      go false ih = (h, k)

  orders : (es : List Equation) → Each R es → Each R (ascending es)
  orders [] h = tt
  orders (e ∷ es) h = puts e (ascending es) h.0 (orders es h.1)

  pub bundles : (limit : ℕ) (s : Store) (xs : List VarName) → Each R s → Each R (bundle_from limit s xs)
  bundles limit s xs h = orders (take limit (reachable_equations s xs)) (takes limit (reachable_equations s xs) (owns s h (distinct_vars [] (reachable_vars (length s) s xs))))
