-- As many messages of a cell as exchanges and outstanding requests pay for: the most that could have been sent before a turn.
use Rattle.std.proofs.Common.{arith, ◌≡◌, ◌∙◌, sym, ap, refl, subst, ℕ, zero, suc, ◌+◌, ◌-◌, ◌≤◌, List, [], ◌∷◌, ◌++◌, ◌⊎◌, inl, inr, Bool, true, false, cond, Some, None, length}
use Rattle.std.specs.Prelude.{◌≢◌}
use Rattle.std.proofs.lemmas.Bool.{cond-true, cond-false}
use Rattle.tree_node.specs.declared.names.VarName.{VarName}
use Rattle.tree_node.specs.declared.names.CellName.{CellName}
use Rattle.tree_node.specs.declared.pick.Pick.{Pick}
use Rattle.tree_node.specs.Assoc.{value_of}
use Rattle.tree_node.specs.Goal.{equal_cell}
use Rattle.kernel_syntax.specs.declared.stmt.Stmt.{Stmt}
use Rattle.site_message.specs.declared.message.Sent.{Sent}
use Rattle.oz_model.specs.Run.{exchanges}
use Rattle.oz_model.proofs.KindLemmas.{cell_same, cells_differ, cell_cases}
use Rattle.token_chain.specs.Mail.{Get, Forward, Put, sent_as}
use Rattle.token_chain.specs.Mail as token
use Rattle.token_chain.specs.Tally.{total, outstanding, weight}
use Rattle.token_chain.specs.Holding.{Holding}
use Rattle.world_model.specs.World.{World}
use Rattle.world_cells.specs.CellCounts.{cell_weight, cell_weights, IsTallied}
use Rattle.world_cells.proofs.CellTallyLemmas.{weighs_append}
use Rattle.world_cells.proofs.ChainLemmas.{held, tally}
use Rattle.world_model.specs.Chain.{mobile_cells}
use Rattle.world_answers.proofs.LeaveLemmas.{Paid}

-- ---- sums

pub all_zero : (n : ℕ) (f : ℕ → ℕ) → ((k : ℕ) → f k ≡ 0) → total n f ≡ 0
all_zero zero f h = refl
all_zero (suc n) f h = let rest = all_zero n f h in let last = h (suc n) in omega arith

pub all_less : (n : ℕ) (f g a : ℕ → ℕ) → ((k : ℕ) → f k ≤ g k + a k) → total n f ≤ total n g + total n a
all_less zero f g a h = omega arith
all_less (suc n) f g a h = let rest = all_less n f g a h in let last = h (suc n) in omega (arith, rest, last)

-- ---- copies of a message

abbrev pub copies : CellName → token.Mail → ℕ → List Sent
copies c a zero = []
copies c a (suc k) = sent_as c a ∷ copies c a k

pub lost_any : (b : Bool) → ◌≡◌ {A = ℕ} (cond b 0 0) 0
lost_any true = refl
lost_any false = refl

one_weighs : (c : CellName) (a : token.Mail) (g f u : ℕ) → cell_weight c g f u (sent_as c a).msg ≡ weight g f u a
one_weighs c (Get s) g f u = cond-true (equal_cell c c) g 0 (cell_same c)
one_weighs c (Forward s k) g f u = cond-true (equal_cell c c) f 0 (cell_same c)
one_weighs c (Put s v) g f u = cond-true (equal_cell c c) u 0 (cell_same c)

one_other : (b c : CellName) (a : token.Mail) (g f u : ℕ) → b ≢ c → cell_weight b g f u (sent_as c a).msg ≡ 0
one_other b c (Get s) g f u d = cond-false (equal_cell b c) g 0 (cells_differ b c d)
one_other b c (Forward s k) g f u d = cond-false (equal_cell b c) f 0 (cells_differ b c d)
one_other b c (Put s v) g f u d = cond-false (equal_cell b c) u 0 (cells_differ b c d)

copies_weigh_all : (c : CellName) (a : token.Mail) (g f u k : ℕ) → weight g f u a ≡ 1 → cell_weights c g f u (copies c a k) ≡ k
copies_weigh_all c a g f u zero e = refl
copies_weigh_all c a g f u (suc k) e = let rest = copies_weigh_all c a g f u k e in let one = one_weighs c a g f u in omega arith

copies_weigh_none : (c : CellName) (a : token.Mail) (g f u k : ℕ) → weight g f u a ≡ 0 → cell_weights c g f u (copies c a k) ≡ 0
copies_weigh_none c a g f u zero e = refl
copies_weigh_none c a g f u (suc k) e = let rest = copies_weigh_none c a g f u k e in let one = one_weighs c a g f u in omega arith

copies_other : (b c : CellName) (a : token.Mail) (g f u k : ℕ) → b ≢ c → cell_weights b g f u (copies c a k) ≡ 0
copies_other b c a g f u zero d = refl
copies_other b c a g f u (suc k) d = let rest = copies_other b c a g f u k d in let one = one_other b c a g f u d in omega arith

-- so many Gets and so many Forwards
abbrev pub both : CellName → ℕ → ℕ → List Sent
both c k l = copies c (Get 1) k ++ copies c (Forward 1 1) l

pub both_gets : (c : CellName) (k l : ℕ) → cell_weights c 1 0 0 (both c k l) ≡ k
both_gets c k l =
    let sum = weighs_append c 1 0 0 (copies c (Get 1) k) (copies c (Forward 1 1) l) in
    let a = copies_weigh_all c (Get 1) 1 0 0 k refl in
    let b = copies_weigh_none c (Forward 1 1) 1 0 0 l refl in omega arith

pub both_forwards : (c : CellName) (k l : ℕ) → cell_weights c 0 1 0 (both c k l) ≡ l
both_forwards c k l =
    let sum = weighs_append c 0 1 0 (copies c (Get 1) k) (copies c (Forward 1 1) l) in
    let a = copies_weigh_none c (Get 1) 0 1 0 k refl in
    let b = copies_weigh_all c (Forward 1 1) 0 1 0 l refl in omega arith

pub both_puts : (c : CellName) (k l : ℕ) → cell_weights c 0 0 1 (both c k l) ≡ 0
both_puts c k l =
    let sum = weighs_append c 0 0 1 (copies c (Get 1) k) (copies c (Forward 1 1) l) in
    let a = copies_weigh_none c (Get 1) 0 0 1 k refl in
    let b = copies_weigh_none c (Forward 1 1) 0 0 1 l refl in omega arith

both_other : (b c : CellName) (k l g f u : ℕ) → b ≢ c → cell_weights b g f u (both c k l) ≡ 0
both_other b c k l g f u d =
    let sum = weighs_append b g f u (copies c (Get 1) k) (copies c (Forward 1 1) l) in
    let a = copies_other b c (Get 1) g f u k d in
    let o = copies_other b c (Forward 1 1) g f u l d in omega arith

-- ---- the most

module _ (p : List Stmt) (n : ℕ) (w : World) (ks : List Pick) (out : List Sent) (r : Paid p n w ks out) (c : CellName) (mobile : c.at ≡ 0) where
  -- exchanges, outstanding requests and travelling Gets
  abbrev pub made : ℕ
  made = length (exchanges p ks c)

  abbrev pub waiting : ℕ
  waiting = total n (λ s. outstanding (held w.sites c s).token)

  abbrev pub going : ℕ
  going = total n (λ s. tally c w.mail (Get s))

  abbrev pub most : List Sent
  most = both c (made + waiting) (made + waiting - going)

  all_at_most : (k l : ℕ) → k ≡ 0 → l ≡ 0 → both c k l ≡ []
  all_at_most zero zero a b = refl
  all_at_most (suc k) l a b = cc
  all_at_most zero (suc l) a b = cc

  -- of a cell that was not made there are none
  pub nowhere : value_of equal_cell (mobile_cells r.joined.reached.centre.cells) c ≡ None → (made ≡ 0) × (waiting ≡ 0) × (going ≡ 0)
  nowhere e =
      let none = r.joined.reached.cells.cells.others c e in
      (r.tally.still c mobile e, all_zero n _ (λ s. ap (λ (h : Holding). outstanding h.token) (none.away s)), all_zero n _ (λ s. none.quiet (Get s)))

  pub most_none : value_of equal_cell (mobile_cells r.joined.reached.centre.cells) c ≡ None → most ≡ []
  most_none e =
      let z = nowhere e in
      let a : made + waiting ≡ 0 = (let x = z.0 in let y = z.1 in omega arith) in
      all_at_most (made + waiting) (made + waiting - going) a (omega arith)

  most_here : (v : VarName) → value_of equal_cell (mobile_cells r.joined.reached.centre.cells) c ≡ Some v → IsTallied n w.sites w.mail most c made
  most_here v e =
      let t = r.tally.tallied c v e in
      let g = both_gets c (made + waiting) (made + waiting - going) in
      let f = both_forwards c (made + waiting) (made + waiting - going) in
      let u = both_puts c (made + waiting) (made + waiting - going) in
      record {
        wanted = t.wanted;
        few_gets = omega (arith, g);
        few_forwards = omega (arith, f, t.few_forwards);
        few_puts = omega (arith, u, t.few_puts);
      }

  -- whatever was sent of another cell, none was
  none_sent : (b : CellName) → b ≢ c → (v : VarName) → value_of equal_cell (mobile_cells r.joined.reached.centre.cells) b ≡ Some v → IsTallied n w.sites w.mail most b (length (exchanges p ks b))
  none_sent b d v e =
      let t = r.tally.tallied b v e in
      let g = both_other b c (made + waiting) (made + waiting - going) 1 0 0 d in
      let f = both_other b c (made + waiting) (made + waiting - going) 0 1 0 d in
      let u = both_other b c (made + waiting) (made + waiting - going) 0 0 1 d in
      record {
        wanted = t.wanted;
        few_gets = omega (arith, g, t.few_gets);
        few_forwards = omega (arith, f, t.few_forwards);
        few_puts = omega (arith, u, t.few_puts);
      }

  pub most_paid : Paid p n w ks most
  most_paid = record {
    joined = r.joined;
    tally = record { tallied = λ b v e. tallied b v e (cell_cases b c); unmade = λ b e g f u. unmade b e g f u (cell_cases b c); still = r.tally.still };
  }
    where
      tallied : (b : CellName) (v : VarName) → value_of equal_cell (mobile_cells r.joined.reached.centre.cells) b ≡ Some v → (b ≡ c) ⊎ (b ≢ c) → IsTallied n w.sites w.mail most b (length (exchanges p ks b))
      tallied b v e (inl q) = subst (λ (x : CellName). IsTallied n w.sites w.mail most x (length (exchanges p ks x))) (sym q) (most_here v (ap (value_of equal_cell (mobile_cells r.joined.reached.centre.cells)) (sym q) ∙ e))
      tallied b v e (inr d) = none_sent b d v e

      unmade : (b : CellName) → value_of equal_cell (mobile_cells r.joined.reached.centre.cells) b ≡ None → (g f u : ℕ) → (b ≡ c) ⊎ (b ≢ c) → cell_weights b g f u most ≡ 0
      unmade b e g f u (inl q) = ap (cell_weights b g f u) (most_none (ap (value_of equal_cell (mobile_cells r.joined.reached.centre.cells)) (sym q) ∙ e))
      unmade b e g f u (inr d) = both_other b c (made + waiting) (made + waiting - going) g f u d
