-- The exchanges of each cell pay for its messages, row by row.
use Rattle.std.proofs.Common.{arith, ◌≡◌, ◌∙◌, sym, ap, refl, subst, ℕ, ◌+◌, ◌*◌, ◌≤◌, List, [], ◌∷◌, ◌++◌, ◌⊎◌, inl, inr, Bool, true, false, cond, Some, None}
use Rattle.std.specs.Prelude.{Option, ◌≢◌}
use Rattle.tree_node.specs.declared.names.VarName.{VarName}
use Rattle.tree_node.specs.declared.names.CellName.{CellName}
use Rattle.tree_node.specs.Assoc.{value_of}
use Rattle.tree_node.specs.Goal.{equal_cell}
use Rattle.site_message.specs.declared.message.Msg.{Msg}
use Rattle.site_message.specs.declared.message.Msg.TheVariants as msg
use Rattle.site_message.specs.declared.message.Sent.{Sent}
use Rattle.token_chain.specs.Mail.{Get, Forward, Put, mail_count}
use Rattle.token_chain.specs.Mail as token
use Rattle.token_chain.specs.Rows.{Reply}
use Rattle.token_chain.specs.Tally.{total, weights, Tally, IsPaid}
use Rattle.token_chain.proofs.TallyLemmas.{replies_pay, same_tallies, tallies_bound}
use Rattle.site_model.specs.Site.{last_asker}
use Rattle.site_model.specs.Transition.{Transition}
use Rattle.world_model.specs.World.{World, Sites, Mail, after_transition}
use Rattle.world_cells.specs.CellCounts.{cell_weight, cell_weights, IsTallied}
use Rattle.world_cells.proofs.UnitQueueLemmas.{not_both}
use Rattle.world_cells.proofs.ReplyLemmas.{Answers}
use Rattle.world_cells.proofs.ChainLemmas.{held, tally, Came, Untouched, others_stay, lifts}
use Rattle.oz_model.proofs.KindLemmas.{cell_cases}

pub weighs_append : (c : CellName) (g f u : ℕ) (ms os : List Sent) → cell_weights c g f u (ms ++ os) ≡ cell_weights c g f u ms + cell_weights c g f u os
weighs_append c g f u [] os = omega arith
weighs_append c g f u (m ∷ ms) os = let rest = weighs_append c g f u ms os in omega arith

weighs_sum : (c : CellName) (ms : List Sent) → cell_weights c 1 1 1 ms ≡ cell_weights c 1 0 0 ms + cell_weights c 0 1 0 ms + cell_weights c 0 0 1 ms
weighs_sum c [] = refl
weighs_sum c (m ∷ ms) = let rest = weighs_sum c ms in let one = kinds m.msg in omega arith
  where
    some : (b : Bool) → cond b 1 0 ≡ cond b 1 0 + cond b 0 0 + cond b 0 0
    some true = refl
    some false = refl

    second : (b : Bool) → cond b 1 0 ≡ cond b 0 0 + cond b 1 0 + cond b 0 0
    second true = refl
    second false = refl

    third : (b : Bool) → cond b 1 0 ≡ cond b 0 0 + cond b 0 0 + cond b 1 0
    third true = refl
    third false = refl

    kinds : (x : Msg) → cell_weight c 1 1 1 x ≡ cell_weight c 1 0 0 x + cell_weight c 0 1 0 x + cell_weight c 0 0 1 x
    kinds (msg.Get d k) = some (equal_cell c d)
    kinds (msg.Forward d k) = second (equal_cell c d)
    kinds (msg.Put d v bundle) = third (equal_cell c d)
    kinds (msg.Spawn n code vars bundle) = refl
    kinds (msg.Register x k) = refl
    kinds (msg.BindReq x n t bundle) = refl
    kinds (msg.Binding x t bundle) = refl
    kinds (msg.PortSend q n k) = refl
    kinds (msg.PortEnd n old new bundle) = refl
    kinds (msg.CellMake c v bundle) = refl
    kinds (msg.CellAsk c n k v bundle) = refl
    kinds (msg.CellOld n v bundle) = refl

-- the cell of a row
pub tallied_here : (n : ℕ) (w : World) (i : ℕ) (d : Transition) (c : CellName) (r : Reply) (gone : List token.Mail) (mail : Mail) (out : List Sent) (x more : ℕ) → 1 ≤ i → i ≤ n → Answers c r (w.sites i) d → Came c gone mail w.mail →
    IsPaid (held w.sites c i) r (total n (λ k. mail_count gone (Get k))) more → IsTallied n w.sites mail out c x → IsTallied n (after_transition w i d).sites (after_transition w i d).mail (out ++ d.sent) c (x + more)
tallied_here n w i d c r gone mail out x more low high a arrives pays t =
    subst (λ (g : ℕ). Tally n (held (after_transition w i d).sites c) (tally c (after_transition w i d).mail) g (cell_weights c 0 1 0 (out ++ d.sent)) (cell_weights c 0 0 1 (out ++ d.sent)) (x + more)) (sym (kind 1 0 0))
    (subst (λ (f : ℕ). Tally n (held (after_transition w i d).sites c) (tally c (after_transition w i d).mail) (cell_weights c 1 0 0 out + weights 1 0 0 r.sent) f (cell_weights c 0 0 1 (out ++ d.sent)) (x + more)) (sym (kind 0 1 0))
    (subst (λ (u : ℕ). Tally n (held (after_transition w i d).sites c) (tally c (after_transition w i d).mail) (cell_weights c 1 0 0 out + weights 1 0 0 r.sent) (cell_weights c 0 1 0 out + weights 0 1 0 r.sent) u (x + more)) (sym (kind 0 0 1))
    (replies_pay n (held w.sites c) (held (after_transition w i d).sites c) (tally c mail) (tally c (after_transition w i d).mail) i r gone _ _ _ x more low high (lifts w i d c r gone mail a arrives) pays t)))
  where
    kind : (g f u : ℕ) → cell_weights c g f u (out ++ d.sent) ≡ cell_weights c g f u out + weights g f u r.sent
    kind g f u = let sum = weighs_append c g f u out d.sent in let new = a.kinds g f u in omega arith

-- the other cells
pub tallied_other : (n : ℕ) (f g : Sites) (mail more : Mail) (out sent : List Sent) (b : CellName) (x : ℕ) → Untouched f g mail more b → ((k l u : ℕ) → cell_weights b k l u sent ≡ 0) → IsTallied n f mail out b x → IsTallied n g more (out ++ sent) b x
tallied_other n f g mail more out sent b x u none t =
    subst (λ (k : ℕ). Tally n (held g b) (tally b more) k (cell_weights b 0 1 0 (out ++ sent)) (cell_weights b 0 0 1 (out ++ sent)) x) (sym (kind 1 0 0))
    (subst (λ (k : ℕ). Tally n (held g b) (tally b more) (cell_weights b 1 0 0 out) k (cell_weights b 0 0 1 (out ++ sent)) x) (sym (kind 0 1 0))
    (subst (λ (k : ℕ). Tally n (held g b) (tally b more) (cell_weights b 1 0 0 out) (cell_weights b 0 1 0 out) k x) (sym (kind 0 0 1))
    (same_tallies n (held f b) (held g b) (tally b mail) (tally b more) _ _ _ x u.holds u.counts t)))
  where
    kind : (k l v : ℕ) → cell_weights b k l v (out ++ sent) ≡ cell_weights b k l v out
    kind k l v = let sum = weighs_append b k l v out sent in let z = none k l v in omega arith

-- ---- all cells

-- these exchanges of each cell pay for its messages among those sent
pub record CellsTallied (n : ℕ) (f : Sites) (mail : Mail) (cells : List (CellName × VarName)) (out : List Sent) (exchanged : CellName → ℕ) : Type 0 where
  pub tallied : (c : CellName) (v : VarName) → value_of equal_cell cells c ≡ Some v → IsTallied n f mail out c (exchanged c)
  pub unmade : (c : CellName) → value_of equal_cell cells c ≡ None → (g k u : ℕ) → cell_weights c g k u out ≡ 0
  pub still : (c : CellName) → c.at ≡ 0 → value_of equal_cell cells c ≡ None → exchanged c ≡ 0

pub few_messages : (n : ℕ) (f : Sites) (mail : Mail) (cells : List (CellName × VarName)) (out : List Sent) (exchanged : CellName → ℕ) → 1 ≤ n → CellsTallied n f mail cells out exchanged → (c : CellName) → cell_weights c 1 1 1 out ≤ 3 * (exchanged c + n)
few_messages n f mail cells out exchanged some t c = go (value_of equal_cell cells c) refl
  where
    go : (o : Option VarName) → value_of equal_cell cells c ≡ o → cell_weights c 1 1 1 out ≤ 3 * (exchanged c + n)
    go None e = let z = t.unmade c e 1 1 1 in omega arith
    go (Some v) e = let sum = weighs_sum c out in let b = tallies_bound n (held f c) (tally c mail) _ _ _ (exchanged c) some (t.tallied c v e) in omega (arith, b)

-- a row that has to do with one cell
pub tallied_row : (n : ℕ) (f g : Sites) (mail more : Mail) (cells to : List (CellName × VarName)) (out sent : List Sent) (x y : CellName → ℕ) (c : CellName) → ((b : CellName) → b ≢ c → Untouched f g mail more b) →
    ((b : CellName) → b ≢ c → value_of equal_cell to b ≡ value_of equal_cell cells b) → ((b : CellName) → b ≢ c → (k l u : ℕ) → cell_weights b k l u sent ≡ 0) → ((b : CellName) → b ≢ c → y b ≡ x b) →
    (v : VarName) → value_of equal_cell to c ≡ Some v → IsTallied n g more (out ++ sent) c (y c) → CellsTallied n f mail cells out x → CellsTallied n g more to (out ++ sent) y
tallied_row n f g mail more cells to out sent x y c others values silent counts v value here t = record {
  tallied = λ b u e. made b u e (cell_cases b c);
  unmade = λ b e k l u. unmade b e k l u (cell_cases b c);
  still = λ b z e. still b z e (cell_cases b c);
}
  where
    made : (b : CellName) (u : VarName) → value_of equal_cell to b ≡ Some u → (b ≡ c) ⊎ (b ≢ c) → IsTallied n g more (out ++ sent) b (y b)
    made b u e (inl h) = subst (λ (z : CellName). IsTallied n g more (out ++ sent) z (y z)) (sym h) here
    made b u e (inr h) = subst (λ (z : ℕ). IsTallied n g more (out ++ sent) b z) (sym (counts b h)) (tallied_other n f g mail more out sent b (x b) (others b h) (silent b h) (t.tallied b u (sym (values b h) ∙ e)))

    unmade : (b : CellName) → value_of equal_cell to b ≡ None → (k l u : ℕ) → (b ≡ c) ⊎ (b ≢ c) → cell_weights b k l u (out ++ sent) ≡ 0
    unmade b e k l u (inl h) = absurd (not_both (value_of equal_cell to c) v value (ap (value_of equal_cell to) (sym h) ∙ e))
    unmade b e k l u (inr h) =
        let sum = weighs_append b k l u out sent in
        let old = t.unmade b (sym (values b h) ∙ e) k l u in
        let new = silent b h k l u in omega arith

    still : (b : CellName) → b.at ≡ 0 → value_of equal_cell to b ≡ None → (b ≡ c) ⊎ (b ≢ c) → y b ≡ 0
    still b z e (inl h) = absurd (not_both (value_of equal_cell to c) v value (ap (value_of equal_cell to) (sym h) ∙ e))
    still b z e (inr h) = counts b h ∙ t.still b z (sym (values b h) ∙ e)

-- a row that has to do with none
pub tallied_still : (n : ℕ) (f g : Sites) (mail more : Mail) (cells : List (CellName × VarName)) (out sent : List Sent) (x : CellName → ℕ) → ((b : CellName) → Untouched f g mail more b) → ((b : CellName) (k l u : ℕ) → cell_weights b k l u sent ≡ 0) →
    CellsTallied n f mail cells out x → CellsTallied n g more cells (out ++ sent) x
tallied_still n f g mail more cells out sent x same silent t = record {
  tallied = λ b u e. tallied_other n f g mail more out sent b (x b) (same b) (silent b) (t.tallied b u e);
  unmade = λ b e k l u. let sum = weighs_append b k l u out sent in let old = t.unmade b e k l u in let new = silent b k l u in omega arith;
  still = t.still;
}

-- what a site does with a cell, behind messages that have come
pub row_tally : (n : ℕ) (w : World) (mail : Mail) (i : ℕ) (d : Transition) (c : CellName) (r : Reply) (gone : List token.Mail) (cells to : List (CellName × VarName)) (out : List Sent) (x y : CellName → ℕ) (more : ℕ) → 1 ≤ i → i ≤ n → Answers c r (w.sites i) d →
    ((b : CellName) → b ≢ c → last_asker d.site b ≡ last_asker (w.sites i) b) → Came c gone mail w.mail → ((b : CellName) → b ≢ c → (m : token.Mail) → tally b w.mail m ≡ tally b mail m) →
    ((b : CellName) → b ≢ c → value_of equal_cell to b ≡ value_of equal_cell cells b) → ((b : CellName) → b ≢ c → y b ≡ x b) → y c ≡ x c + more → IsPaid (held w.sites c i) r (total n (λ k. mail_count gone (Get k))) more →
    (v : VarName) → value_of equal_cell to c ≡ Some v → IsTallied n w.sites mail out c (x c) → CellsTallied n w.sites mail cells out x → CellsTallied n (after_transition w i d).sites (after_transition w i d).mail to (out ++ d.sent) y
row_tally n w mail i d c r gone cells to out x y more low high a l arrives other values counts count pays v value here t =
    tallied_row n w.sites (after_transition w i d).sites mail (after_transition w i d).mail cells to out d.sent x y c
    (λ b h. others_stay w i d b mail (a.others b h) (l b h) (a.silent b h) (other b h)) values a.no_kinds counts v value
    (subst (λ (k : ℕ). IsTallied n (after_transition w i d).sites (after_transition w i d).mail (out ++ d.sent) c k) (sym count) (tallied_here n w i d c r gone mail out (x c) more low high a arrives pays here)) t
