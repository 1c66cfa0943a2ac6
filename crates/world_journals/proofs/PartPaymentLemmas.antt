-- What a part of a turn pays for, whatever was sent before it.
use Rattle.std.proofs.Common.{arith, ◌≡◌, ◌∙◌, sym, ap, refl, subst, ℕ, ◌+◌, ◌-◌, ◌≤◌, List, ◌++◌, ◌⊎◌, inl, inr, Some, None, length}
use Rattle.std.specs.Prelude.{Option, ◌≢◌}
use Rattle.tree_node.specs.declared.names.VarName.{VarName}
use Rattle.tree_node.specs.declared.names.CellName.{CellName}
use Rattle.tree_node.specs.declared.pick.Pick.{Pick}
use Rattle.tree_node.specs.Assoc.{value_of}
use Rattle.tree_node.specs.Goal.{equal_cell}
use Rattle.kernel_syntax.specs.declared.stmt.Stmt.{Stmt}
use Rattle.site_message.specs.declared.message.Sent.{Sent}
use Rattle.oz_model.specs.Run.{exchanges}
use Rattle.token_chain.specs.declared.token.Token.{Token}
use Rattle.token_chain.specs.Mail.{Get}
use Rattle.token_chain.specs.Tally.{total, outstanding}
use Rattle.token_chain.proofs.TallyLemmas.{total_change}
use Rattle.site_model.specs.Site.{Site, cell_record}
use Rattle.world_model.specs.World.{World, Sites, Mail, put}
use Rattle.world_model.proofs.PutLemmas.{at_here, at_other}
use Rattle.world_cells.specs.CellCounts.{cell_weights}
use Rattle.world_cells.proofs.CellTallyLemmas.{weighs_append}
use Rattle.world_cells.proofs.ChainLemmas.{held, tally, number_or}
use Rattle.world_model.specs.Chain.{mobile_cells}
use Rattle.world_model.proofs.MobileLemmas.{mobile_far}
use Rattle.token_chain.specs.Holding.{Holding}
use Rattle.world_answers.proofs.LeaveLemmas.{Paid}
use Rattle.world_cells.proofs.UnitTallyLemmas.{more_picks}
use Rattle.world_journals.proofs.CopyLemmas.{most, most_paid, nowhere, all_zero, both_gets, both_forwards}

-- the Gets of the cell that travel
abbrev pub going_in : ℕ → CellName → Mail → ℕ
going_in n c mail = total n (λ s. tally c mail (Get s))

-- exchanges of the cell by these picks, behind others
abbrev pub exchanges_by : List Stmt → CellName → List Pick → List Pick → ℕ
exchanges_by p c ks ls = length (exchanges p (ks ++ ls) c) - length (exchanges p ks c)

-- the messages that were sent, and those that travel before and after
pub record PartPays (p : List Stmt) (n : ℕ) (c : CellName) (ks ls : List Pick) (sent : List Sent) (before after : Mail) (old new : Token) : Type 0 where
  pub gets : cell_weights c 1 0 0 sent + outstanding old ≤ exchanges_by p c ks ls + outstanding new
  pub forwards : cell_weights c 0 1 0 sent + outstanding old + going_in n c after ≤ exchanges_by p c ks ls + outstanding new + going_in n c before
  pub grown : length (exchanges p ks c) + exchanges_by p c ks ls ≡ length (exchanges p (ks ++ ls) c)

grows : (x a y : ℕ) → y ≡ x + a → x + (y - x) ≡ y
grows x a y e = omega (arith, e)

sent_gets : (x o g a b y q m : ℕ) → x + o + g ≤ y + q → q + a ≡ o + b → x + m ≡ y → g + a ≤ m + b
sent_gets x o g a b y q m h change grown = omega (arith, h, change, grown)

sent_forwards : (x o g a b y q m t u : ℕ) → x + o + g + u ≤ y + q + t → q + a ≡ o + b → x + m ≡ y → g + a + u ≤ m + b + t
sent_forwards x o g a b y q m t u h change grown = omega (arith, h, change, grown)

module _ (p : List Stmt) (n : ℕ) (w v : World) (ks ls : List Pick) (sent out : List Sent) (i : ℕ) (t : Site) (low : 1 ≤ i) (high : i ≤ n) (sites : v.sites ≡ put w.sites i t)
    (old : Paid p n w ks out) (keeps : (o : List Sent) → Paid p n w ks o → Paid p n v (ks ++ ls) (o ++ sent)) (c : CellName) where
  abbrev x : ℕ
  x = length (exchanges p ks c)

  abbrev y : ℕ
  y = length (exchanges p (ks ++ ls) c)

  abbrev asked_before : ℕ
  asked_before = total n (λ s. outstanding (held w.sites c s).token)

  abbrev asked_after : ℕ
  asked_after = total n (λ s. outstanding (held v.sites c s).token)

  abbrev old_token : Token
  old_token = (cell_record (w.sites i) c).held.token

  abbrev new_token : Token
  new_token = (cell_record t c).held.token

  -- no other site's request changes
  changes : asked_after + outstanding old_token ≡ asked_before + outstanding new_token
  changes = subst (λ (f : Sites). total n (λ s. outstanding (held f c s).token) + outstanding old_token ≡ asked_before + outstanding new_token) (sym sites)
      (total_change n i (λ s. outstanding (held w.sites c s).token) (λ s. outstanding (held (put w.sites i t) c s).token) (outstanding old_token) (outstanding new_token) low high
      (let here = ap (λ (s : Site). outstanding (cell_record s c).held.token) (at_here w.sites i t) in omega (arith, here))
      (λ k other. ap (λ (s : Site). outstanding (cell_record s c).held.token) (at_other w.sites i t k other)))

  grown : x + exchanges_by p c ks ls ≡ y
  grown = grows x _ y (more_picks p c ks ls old.joined.reached.centre old.joined.reached.run)

  -- ---- a mobile cell

  module _ (mobile : c.at ≡ 0) where
    abbrev before_out : List Sent
    before_out = most p n w ks out old c mobile

    new : Paid p n v (ks ++ ls) (before_out ++ sent)
    new = keeps before_out (most_paid p n w ks out old c mobile)

    -- before it no more Gets travelled
    few_going : going_in n c w.mail ≤ x + asked_before
    few_going = by (value_of equal_cell (mobile_cells old.joined.reached.centre.cells) c) refl
      where
        by : (o : Option VarName) → value_of equal_cell (mobile_cells old.joined.reached.centre.cells) c ≡ o → going_in n c w.mail ≤ x + asked_before
        by None z = let none = nowhere p n w ks out old c mobile z in let q = none.2 in omega (arith, q)
        by (Some u) z = let t = old.tally.tallied c u z in omega (arith, t.few_forwards)

    all_gets : x + asked_before + cell_weights c 1 0 0 sent ≤ y + asked_after
    all_gets = by (value_of equal_cell (mobile_cells new.joined.reached.centre.cells) c) refl
      where
        are : cell_weights c 1 0 0 (before_out ++ sent) ≡ x + asked_before + cell_weights c 1 0 0 sent
        are = weighs_append c 1 0 0 before_out sent ∙ ap (λ (k : ℕ). k + cell_weights c 1 0 0 sent) (both_gets c (x + asked_before) (x + asked_before - going_in n c w.mail))

        by : (o : Option VarName) → value_of equal_cell (mobile_cells new.joined.reached.centre.cells) c ≡ o → x + asked_before + cell_weights c 1 0 0 sent ≤ y + asked_after
        by None z = let none = new.tally.unmade c z 1 0 0 in omega (arith, none, are)
        by (Some u) z = let t = new.tally.tallied c u z in omega (arith, t.few_gets, are)

    all_forwards : x + asked_before + cell_weights c 0 1 0 sent + going_in n c v.mail ≤ y + asked_after + going_in n c w.mail
    all_forwards = by (value_of equal_cell (mobile_cells new.joined.reached.centre.cells) c) refl
      where
        are : cell_weights c 0 1 0 (before_out ++ sent) ≡ (x + asked_before - going_in n c w.mail) + cell_weights c 0 1 0 sent
        are = weighs_append c 0 1 0 before_out sent ∙ ap (λ (k : ℕ). k + cell_weights c 0 1 0 sent) (both_forwards c (x + asked_before) (x + asked_before - going_in n c w.mail))

        by : (o : Option VarName) → value_of equal_cell (mobile_cells new.joined.reached.centre.cells) c ≡ o → x + asked_before + cell_weights c 0 1 0 sent + going_in n c v.mail ≤ y + asked_after + going_in n c w.mail
        by None z =
            let none = new.tally.unmade c z 0 1 0 in
            let quiet : going_in n c v.mail ≡ 0 = all_zero n _ (λ s. (new.joined.reached.cells.cells.others c z).quiet (Get s)) in
            omega (arith, none, are, quiet, few_going)
        by (Some u) z = let t = new.tally.tallied c u z in omega (arith, t.few_forwards, are, few_going)

    mobile_pays : PartPays p n c ks ls sent w.mail v.mail old_token new_token
    mobile_pays = record {
      gets = sent_gets x asked_before (cell_weights c 1 0 0 sent) (outstanding old_token) (outstanding new_token) y asked_after (exchanges_by p c ks ls) all_gets changes grown;
      forwards = sent_forwards x asked_before (cell_weights c 0 1 0 sent) (outstanding old_token) (outstanding new_token) y asked_after (exchanges_by p c ks ls) (going_in n c w.mail) (going_in n c v.mail) all_forwards changes grown;
      grown = grown;
    }

  -- ---- a stationary cell, of which there are no messages on tokens

  module _ (far : c.at ≢ 0) where
    kept : Paid p n v (ks ++ ls) (out ++ sent)
    kept = keeps out old

    none_sent : (g f u : ℕ) → cell_weights c g f u sent ≡ 0
    none_sent g f u = let all = kept.tally.unmade c (mobile_far kept.joined.reached.centre.cells c far) g f u in let sum = weighs_append c g f u out sent in omega arith

    none_asked : outstanding old_token ≡ 0
    none_asked = ap (λ (h : Holding). outstanding h.token) ((old.joined.reached.cells.cells.others c (mobile_far old.joined.reached.centre.cells c far)).away i)

    none_going : going_in n c v.mail ≡ 0
    none_going = all_zero n _ (λ s. (kept.joined.reached.cells.cells.others c (mobile_far kept.joined.reached.centre.cells c far)).quiet (Get s))

    placed_pays : PartPays p n c ks ls sent w.mail v.mail old_token new_token
    placed_pays = record {
      gets = (let z = none_sent 1 0 0 in let y = none_asked in omega (arith, z, y));
      forwards = (let z = none_sent 0 1 0 in let y = none_asked in let q = none_going in omega (arith, z, y, q));
      grown = grown;
    }

  pub part_pays : PartPays p n c ks ls sent w.mail v.mail old_token new_token
  part_pays = go (number_or c.at 0)
    where
      go : (c.at ≡ 0) ⊎ (c.at ≢ 0) → PartPays p n c ks ls sent w.mail v.mail old_token new_token
      go (inl mobile) = mobile_pays mobile
      go (inr far) = placed_pays far
