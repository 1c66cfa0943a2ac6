-- What the plain program does is a unit.
use Rattle.std.proofs.Common.{arith, ◌≡◌, ◌∙◌, sym, ap, refl, subst, ℕ, List, [], ◌∷◌, ◌⊎◌, inl, inr, Bool, true, false, cond, Some, None}
use Rattle.std.specs.Prelude.{Option, Contains, ◌≤◌, ◌≢◌, ◌==◌, length}
use Rattle.std.proofs.lemmas.Bool.Decides.{Decides-eqb}
use Rattle.tree_node.specs.declared.names.VarName.{VarName}
use Rattle.tree_node.specs.declared.names.PortName.{PortName}
use Rattle.tree_node.specs.declared.names.ThreadName.{ThreadName}
use Rattle.tree_node.specs.declared.node.Node.{Node}
use Rattle.tree_node.specs.declared.node.Term.{Term}
use Rattle.tree_node.specs.declared.node.Term.TheVariants as term
use Rattle.tree_node.specs.Assoc.{value_of}
use Rattle.tree_node.specs.Goal.{side_node}
use Rattle.tree_node.specs.Order.{IsBelow}
use Rattle.tree_node.specs.State.{Stack}
use Rattle.tree_node.specs.Compare.{Pair, Comparison, Open, compared}
use Rattle.oz_model.proofs.TestLemmas.{at_test}
use Rattle.tree_node.specs.Store.{Store, Equation, IsFree, root_of, node_of, equal_var}
use Rattle.tree_node.proofs.ClassLemmas.{same_name_refl, Contains-cons_cases, to_root}
use Rattle.kernel_syntax.specs.declared.stmt.Stmt.{Stmt}
use Rattle.oz_model.specs.Need.{Need, Waits, WaitsAny, Binds, Takes, stack_need}
use Rattle.oz_model.specs.Effect.{CellChange, Stays, Made, Exchanged, PortChange, Keeps, Opened, Sent, Effect}
use Rattle.token_chain.specs.declared.token.Token.{Token}
use Rattle.token_chain.specs.declared.token.Token.TheVariants.{Away, Asked, Here}
use Rattle.site_model.specs.Site.{Site, ThreadState, thread_state, cell_record, port_end, home_record}
use Rattle.site_model.specs.Requests.{send_request_row, home_request_row}
use Rattle.thread_roster.specs.declared.mode.Mode.TheVariants.{Runs}
use Rattle.thread_roster.specs.declared.mode.Mode.TheVariants as mode
use Rattle.site_model.specs.Bundle.{is_below}
use Rattle.site_model.specs.Transition.{Transition, without_output}
use Rattle.site_model.specs.Cells.{request_row}
use Rattle.site_model.specs.Unit.{thread_step, kept_step, fresh_names, effect_here, IsTokenHere, IsCellUnit, IsSendUnit, IsStepOrRequest, IsRootBind, IsBindUnit, IsUnitFor, IsUnit, with_mode}
use Rattle.site_message.specs.declared.message.Msg.{Msg}
use Rattle.site_model.specs.Fit.{IsFit}
use Rattle.site_model.specs.Turn.{AreUnits, IsReception, SiteTurnOf}
use Rattle.site_model.specs.Choice.{reception_of, next_turn, open_list, nobody, is_missing, to_lesser, bind_between, root_bind, is_free, leads_down, is_here, step_or_wait, send_or_wait, cell_unit, step_or_request, unit_for, unit_from, next_unit, next_units, is_possible, can_go_from, can_go, can_all_go}
use Rattle.tree_node.proofs.SoundLemmas.{root_root}
use Rattle.std.proofs.lemmas.Bool.{and_parts}
use Rattle.site_model.proofs.AscendingLemmas.{below_yes}

free_tells : (s : Store) (x : VarName) → is_free s x ≡ true → IsFree s x
free_tells [] x e t (k, below, is) = absurd (omega arith)
free_tells ((y, r) ∷ s) x e t h = go (equal_var y x) refl e (λ k. free_tells s x k) (Contains-cons_cases _ _ s h)
  where
    go : (b : Bool) → equal_var y x ≡ b → is_missing (cond b (Some r) (value_of equal_var s x)) ≡ true → (is_free s x ≡ true → IsFree s x) → (◌≡◌ {A = Equation} (y, r) (x, t)) ⊎ Contains s (x, t) → ⊥
    go true q k ih h = cc
    go false q k ih (inl e) =
        let same : y ≡ x = ap (λ (p : Equation). p.0) e in
        let yes : equal_var y x ≡ true = subst (λ (z : VarName). equal_var y z ≡ true) same (same_name_refl y) in cc
    go false q k ih (inr h) = ih k t h

down_tells : (s : Store) (u : VarName) (v : VarName) → leads_down s (u, term.Var v) ≡ true → IsFree s u × IsFree s v × IsBelow v u
down_tells s u v e =
    let one = and_parts (is_free s u) _ e in
    let two = and_parts (is_free s v) _ one.1 in
    (free_tells s u one.0, free_tells s v two.0, below_yes v u two.1)

-- the bind of two classes without a node, whichever root is the to_lesser
lesser_bind : (s : Store) (x y : VarName) → node_of s x ≡ None → node_of s y ≡ None → leads_down s (to_lesser (root_of s x) (root_of s y)) ≡ true →
    IsRootBind s (term.Var x) (term.Var y) (to_lesser (root_of s x) (root_of s y)).0 (to_lesser (root_of s x) (root_of s y)).1
lesser_bind s x y m n e = go (root_of s x) (root_of s y) (root_root s x) (root_root s y) (is_below (root_of s y) (root_of s x)) e
  where
    pick : Bool → VarName → VarName → Equation
    pick c a b = cond c (a, term.Var b) (b, term.Var a)

    go : (a b : VarName) → root_of s a ≡ root_of s x → root_of s b ≡ root_of s y → (c : Bool) → leads_down s (pick c a b) ≡ true →
        IsRootBind s (term.Var x) (term.Var y) (pick c a b).0 (pick c a b).1
    go a b ra rb true k = let d = down_tells s a b k in (inl ((ra, m), rb), d.0, d.2, d.1)
    go a b ra rb false k = let d = down_tells s b a k in (inr ((rb, n), ra), d.0, d.2, d.1)

nobody_below : (s : Store) → leads_down s (nobody, term.Var nobody) ≡ true → ⊥
nobody_below s k = let d = down_tells s nobody nobody k in not_below d.2
  where
    not_below : IsBelow nobody nobody → ⊥
    not_below (inl h) = absurd (omega (arith, h))
    not_below (inr h) = absurd (omega (arith, h.1))

root_bind_is : (s : Store) (a b : Term) → leads_down s (root_bind s a b) ≡ true → IsRootBind s a b (root_bind s a b).0 (root_bind s a b).1
root_bind_is s a b e = go a b (side_node s a) refl (side_node s b) refl e
  where
    go : (a b : Term) (m : Option Node) → side_node s a ≡ m → (n : Option Node) → side_node s b ≡ n → leads_down s (bind_between s a b m n) ≡ true →
        IsRootBind s a b (bind_between s a b m n).0 (bind_between s a b m n).1
    go (term.Var x) (term.Var y) None h None g k = lesser_bind s x y h g k
    go (term.Var x) (term.Var y) None h (Some n) g k = (inl ((root_root s x, h), g), free_tells s (root_of s x) k, tt, tt)
    go (term.Var x) (term.Node o) None h (Some n) g k = (inl ((root_root s x, h), g), free_tells s (root_of s x) k, tt, tt)
    go (term.Var x) (term.Node o) None h None g k = cc
    go (term.Var x) (term.Var y) (Some n) h None g k = (inr ((root_root s y, g), h), free_tells s (root_of s y) k, tt, tt)
    go (term.Node o) (term.Var y) (Some n) h None g k = (inr ((root_root s y, g), h), free_tells s (root_of s y) k, tt, tt)
    go (term.Node o) (term.Var y) None h None g k = cc
    go (term.Node o) (term.Var y) None h (Some n) g k = cc
    go (term.Node o) (term.Node q) None h n g k = cc
    go (term.Node o) (term.Node q) (Some m) h None g k = cc
    go (term.Node o) (term.Node q) (Some m) h (Some n) g k = absurd (nobody_below s k)
    go (term.Node o) (term.Var y) (Some m) h (Some n) g k = absurd (nobody_below s k)
    go (term.Var x) (term.Node q) (Some m) h None g k = cc
    go (term.Var x) (term.Node q) (Some m) h (Some n) g k = absurd (nobody_below s k)
    go (term.Var x) (term.Var y) (Some m) h (Some n) g k = absurd (nobody_below s k)

cell_unit_is : (limit : ℕ) (th : ThreadName) (st : Stack) (s : Site) (step kept : Transition) (c : CellChange) → IsCellUnit limit th st s step kept c (cell_unit limit th st s step kept c)
cell_unit_is limit th st s step kept Stays = refl
cell_unit_is limit th st s step kept (Made c v) = go (c.at == 0) refl
  where
    go : (b : Bool) → (c.at == 0) ≡ b → IsCellUnit limit th st s step kept (Made c v) (cond b step kept)
    go true e = inl ((Decides-eqb c.at 0).0 e, refl)
    go false e = inr ((λ q. let yes : (c.at == 0) ≡ true = (Decides-eqb c.at 0).1 q in cc), refl)
cell_unit_is limit th st s step kept (Exchanged c new told) = go (c.at == 0) refl
  where
    mobile : (t : Token) → (cell_record s c).held.token ≡ t → c.at ≡ 0 → IsCellUnit limit th st s step kept (Exchanged c new told) (cond (is_here t) step (request_row limit c new th st s))
    mobile (Here v) e q = inl (q, inl ((v, e), refl))
    mobile Away e q = inl (q, inr (λ (k : IsTokenHere s c). let both : Away ≡ Here k.0 = sym e ∙ k.1 in cc, refl))
    mobile Asked e q = inl (q, inr (λ (k : IsTokenHere s c). let both : Asked ≡ Here k.0 = sym e ∙ k.1 in cc, refl))

    known : (o : Option VarName) → (home_record s c).content ≡ o → c.at ≢ 0 → c.at ≡ s.records.site → IsCellUnit limit th st s step kept (Exchanged c new told) (step_or_wait th st s kept c new o)
    known (Some v) e far own = inr (far, inl ((own, v, e), refl))
    known None e far own = inr (far, inr (inr (own, e, refl)))

    stationary : (b : Bool) → (c.at == s.records.site) ≡ b → c.at ≢ 0 →
        IsCellUnit limit th st s step kept (Exchanged c new told) (cond b (step_or_wait th st s kept c new (home_record s c).content) (home_request_row limit c new th st s))
    stationary true e far = known (home_record s c).content refl far ((Decides-eqb c.at s.records.site).0 e)
    stationary false e far = inr (far, inr (inl ((λ q. let yes : (c.at == s.records.site) ≡ true = (Decides-eqb c.at s.records.site).1 q in cc), refl)))

    go : (b : Bool) → (c.at == 0) ≡ b → IsCellUnit limit th st s step kept (Exchanged c new told)
        (cond b (cond (is_here (cell_record s c).held.token) step (request_row limit c new th st s)) (cond (c.at == s.records.site) (step_or_wait th st s kept c new (home_record s c).content) (home_request_row limit c new th st s)))
    go true e = mobile (cell_record s c).held.token refl ((Decides-eqb c.at 0).0 e)
    go false e = stationary (c.at == s.records.site) refl (λ q. let yes : (c.at == 0) ≡ true = (Decides-eqb c.at 0).1 q in cc)

step_is : (limit : ℕ) (th : ThreadName) (st : Stack) (s : Site) (step kept : Transition) (e : Effect) → IsStepOrRequest limit th st s step kept e (step_or_request limit th st s step kept e)
step_is limit th st s step kept e = go e.port
  where
    made : (q : PortName) (o : Option VarName) → port_end s q ≡ o → q.site ≡ s.records.site → IsSendUnit limit th st s kept q (send_or_wait th st s kept q o)
    made q (Some end) h own = inl (own, end, h, refl)
    made q None h own = inr (inr (own, h, refl))

    sent : (q : PortName) (b : Bool) → (q.site == s.records.site) ≡ b → IsSendUnit limit th st s kept q (cond b (send_or_wait th st s kept q (port_end s q)) (send_request_row limit q th st s))
    sent q true h = made q (port_end s q) refl ((Decides-eqb q.site s.records.site).0 h)
    sent q false h = inr (inl ((λ own. let yes : (q.site == s.records.site) ≡ true = (Decides-eqb q.site s.records.site).1 own in cc), refl))

    go : (q : PortChange) → IsStepOrRequest limit th st s step kept (record e { port = q }) (step_or_request limit th st s step kept (record e { port = q }))
    go Keeps = cell_unit_is limit th st s step kept e.cell
    go (Opened q end) = refl
    go (Sent q value new) = sent q (q.site == s.records.site) refl

bind_is : (p : List Stmt) (n limit : ℕ) (s : Site) (th : ThreadName) (st : Stack) (a b : Term) → leads_down s.equations (root_bind s.equations a b) ≡ true →
    IsBindUnit p n limit s th st a b (unit_for p n limit th st s (Binds a b))
bind_is p n limit s th st a b e =
    ((root_bind s.equations a b).0, (root_bind s.equations a b).1, root_bind_is s.equations a b e, refl)

-- in a comparison that is waited for something is open
abbrev IsOpenFor : Site → Need → Type 0
IsOpenFor s d = (q : Pair) → d ≡ WaitsAny q → (xs : List VarName) × (compared s.equations q ≡ Open xs)

need_is : (p : List Stmt) (n limit : ℕ) (s : Site) (th : ThreadName) (st : Stack) (d : Need) → is_possible s.equations d ≡ true → IsOpenFor s d → IsUnitFor p n limit s th st d (unit_for p n limit th st s d)
need_is p n limit s th st (Waits x) e open_on = (root_of s.equations x, (to_root s.equations x, free_tells s.equations (root_of s.equations x) e), refl)
need_is p n limit s th st (WaitsAny q) e open_on = let xs = open_on q refl in (xs.0, xs.1, ap (λ (c : Comparison). without_output (with_mode th st (mode.WaitsAny (open_list c)) s)) xs.1)
need_is p n limit s th st (Binds a b) e open_on = bind_is p n limit s th st a b e
need_is p n limit s th st (Takes kinds) e open_on =
    step_is limit th st s (thread_step p n limit th st kinds (fresh_names s kinds) None s) (kept_step p limit th st kinds (fresh_names s kinds) s) (effect_here p s (fresh_names s kinds) None st)

pub unit_is : (p : List Stmt) (n limit : ℕ) (s : Site) (th : ThreadName) → can_go p s th ≡ true → IsUnit p n limit th s (next_unit p n limit th s)
unit_is p n limit s th e = go (thread_state s th) refl e
  where
    go : (o : Option ThreadState) → thread_state s th ≡ o → can_go_from p s o ≡ true → IsUnit p n limit th s (unit_from p n limit th s o)
    go None q k = cc
    go (Some (st, mode.Runs)) q k = (st, q, need_is p n limit s th st (stack_need p s.equations st) k (λ r d. (at_test p s.equations st r d).1))
    go (Some (st, mode.Waits x)) q k = cc
    go (Some (st, mode.Needs x)) q k = cc
    go (Some (st, mode.WaitsAny xs)) q k = cc
    go (Some (st, mode.WaitsFor c)) q k = cc

pub units_are : (p : List Stmt) (n limit : ℕ) (ths : List ThreadName) (s : Site) → can_all_go p n limit ths s ≡ true → AreUnits p n limit ths s (next_units p n limit ths s)
units_are p n limit [] s e = refl
units_are p n limit (th ∷ ths) s e =
    let b = and_parts (can_go p s th) _ e in
    (next_unit p n limit th s, next_units p n limit ths (next_unit p n limit th s).site, unit_is p n limit s th b.0, units_are p n limit ths (next_unit p n limit th s).site b.1, refl)

-- the delivered message is one that the site can take
abbrev pub CanHear : List Stmt → ℕ → Option Msg → Site → Type 0
CanHear p n None s = Unit {0}
CanHear p n (Some m) s = IsFit p n s m

heard_is : (p : List Stmt) (n limit : ℕ) (m : Option Msg) (s : Site) → CanHear p n m s → IsReception p n limit m s (reception_of p limit m s)
heard_is p n limit None s h = refl
heard_is p n limit (Some m) s h = inl (h, refl)

pub turn_is : (p : List Stmt) (n limit : ℕ) (ths : List ThreadName) (m : Option Msg) (s : Site) → length ths ≤ 64 → CanHear p n m s →
    can_all_go p n limit ths (reception_of p limit m s).site ≡ true → SiteTurnOf p n limit ths s m (next_turn p n limit ths m s)
turn_is p n limit ths m s few fit can =
    (few, (reception_of p limit m s, next_units p n limit ths (reception_of p limit m s).site, heard_is p n limit m s fit, units_are p n limit ths (reception_of p limit m s).site can, refl))
