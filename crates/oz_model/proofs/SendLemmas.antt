-- The sends of a thread to a port stand among all in the order of the thread's steps.
use Rattle.std.proofs.Common.{◌≡◌, ◌∙◌, ap, refl, List, [], ◌∷◌, ◌++◌, map, Bool, true, false, cond}
use Rattle.std.specs.Prelude.{if◌then◌else◌}
use Rattle.tree_node.specs.declared.names.VarName.{VarName}
use Rattle.tree_node.specs.declared.names.PortName.{PortName}
use Rattle.tree_node.specs.declared.names.ThreadName.{ThreadName}
use Rattle.tree_node.specs.declared.pick.Pick.{Pick}
use Rattle.tree_node.specs.Goal.{equal_port}
use Rattle.tree_node.specs.State.{State, equal_thread}
use Rattle.kernel_syntax.specs.declared.stmt.Stmt.{Stmt}
use Rattle.oz_model.specs.Effect.{PortChange, Keeps, Opened, Sent}
use Rattle.oz_model.specs.Step.{end_of, effect_of, next}
use Rattle.oz_model.specs.Run.{Send, start, send_in, sends_from}
use Rattle.oz_model.specs.Laws.{sends_of, new_end_in, own_ends_from, SendsAreInOrder}

-- the new ends of a thread's sends
abbrev ends_of : ThreadName → List Send → List VarName
ends_of n ss = map (λ (s : Send). s.new) (sends_of n ss)

ends_append : (n : ThreadName) (ss ts : List Send) → ends_of n (ss ++ ts) ≡ ends_of n ss ++ ends_of n ts
ends_append n [] ts = refl
ends_append n (s ∷ ss) ts = go (equal_thread s.thread n) (ends_append n ss ts)
  where
    go : (b : Bool) → ends_of n (ss ++ ts) ≡ ends_of n ss ++ ends_of n ts →
        map (λ (s : Send). s.new) (cond b (s ∷ sends_of n (ss ++ ts)) (sends_of n (ss ++ ts))) ≡ map (λ (s : Send). s.new) (cond b (s ∷ sends_of n ss) (sends_of n ss)) ++ ends_of n ts
    go true e = ap (λ (xs : List VarName). s.new ∷ xs) e
    go false e = e

none : (b : Bool) → ◌≡◌ {A = List VarName} [] (cond b [] [])
none true = refl
none false = refl

-- the send of a step, where it is the thread's own
own_end : (s : State) (q : PortName) (m n : ThreadName) (change : PortChange) → ends_of n (send_in s q m change) ≡ (if equal_thread m n then new_end_in q change else [])
own_end s q m n Keeps = none (equal_thread m n)
own_end s q m n (Opened port end) = none (equal_thread m n)
own_end s q m n (Sent port value new) = go (equal_port port q) (equal_thread m n) refl
  where
    go : (b c : Bool) → equal_thread m n ≡ c → ends_of n (cond b (record { thread = m; old = end_of s.ports port; new = new } ∷ []) []) ≡ cond c (cond b (new ∷ []) []) []
    go true true e = rw e refl
    go true false e = rw e refl
    go false true e = refl
    go false false e = refl

in_order : (p : List Stmt) (s : State) (ks : List Pick) (q : PortName) (n : ThreadName) → ends_of n (sends_from p q s ks) ≡ own_ends_from p q n s ks
in_order p s [] q n = refl
in_order p s (k ∷ ks) q n =
    ends_append n (send_in s q k.thread (effect_of p s k).port) (sends_from p q (next p s k) ks)
    ∙ ap (λ (xs : List VarName). xs ++ ends_of n (sends_from p q (next p s k) ks)) (own_end s q k.thread n (effect_of p s k).port)
    ∙ ap (λ (xs : List VarName). (if equal_thread k.thread n then new_end_in q (effect_of p s k).port else []) ++ xs) (in_order p (next p s k) ks q n)

pub sends_are_in_order : SendsAreInOrder
sends_are_in_order p ks q n = in_order p (start p) ks q n
