-- A Put that travels goes to a site whose request is outstanding, and it is the only one.
use Rattle.std.proofs.Common.{arith, ◌≡◌, ◌≢◌, ◌∙◌, sym, ap, refl, subst, ℕ, zero, suc, ◌≤◌, List, [], ◌∷◌, Bool, true, false, Some}
use Rattle.std.specs.Prelude.{Option, Contains, ◌==◌, ◌&&◌}
use Rattle.std.specs.List.{count_by}
use Rattle.std.proofs.lemmas.Bool.{and_parts, and_from}
use Rattle.tree_node.specs.declared.names.VarName.{VarName}
use Rattle.tree_node.specs.declared.names.CellName.{CellName}
use Rattle.tree_node.specs.declared.pick.Pick.{Pick}
use Rattle.tree_node.specs.Assoc.{value_of}
use Rattle.tree_node.specs.Goal.{equal_cell}
use Rattle.tree_node.specs.Store.{equal_var}
use Rattle.tree_node.proofs.ClassLemmas.{Contains-head, Contains-tail, same_name_decides}
use Rattle.kernel_syntax.specs.declared.stmt.Stmt.{Stmt}
use Rattle.site_message.specs.declared.message.Msg.{Msg}
use Rattle.site_message.specs.declared.message.Msg.TheVariants as msg
use Rattle.site_message.specs.declared.message.Sent.{Sent}
use Rattle.bind_protocol.proofs.ListLemmas.{one, count_cons, counted_there, there_counted}
use Rattle.token_chain.specs.declared.token.Token.TheVariants.{Asked}
use Rattle.token_chain.specs.Mail.{Put, is_mail, sent_count}
use Rattle.token_chain.specs.Tally.{outstanding}
use Rattle.token_chain.proofs.MoveLemmas.{messages_can_come}
use Rattle.world_model.specs.World.{World}
use Rattle.world_model.proofs.PutLemmas.{nat_decides}
use Rattle.world_cells.proofs.ChainLemmas.{held, cell_there}
use Rattle.world_model.specs.Chain.{messages, mobile_cells}
use Rattle.world_cells.specs.Reached.{Reached}
use Rattle.world_journals.specs.Requests.{is_put, puts_to}

-- what passes P among these passes Q too
fewer : (P Q : Sent → Bool) (ms : List Sent) → ((m : Sent) → Contains ms m → P m ≡ true → Q m ≡ true) → count_by P ms ≤ count_by Q ms
fewer P Q [] h = omega arith
fewer P Q (m ∷ ms) h = go (P m) refl (Q m) refl (fewer P Q ms (λ x c q. h x (Contains-tail m x ms c) q))
  where
    go : (a : Bool) → P m ≡ a → (b : Bool) → Q m ≡ b → count_by P ms ≤ count_by Q ms → count_by P (m ∷ ms) ≤ count_by Q (m ∷ ms)
    go true p true q ih = let x : one (P m) ≡ 1 = ap one p in let y : one (Q m) ≡ 1 = ap one q in omega (arith, ih, x, y, count_cons P m ms, count_cons Q m ms)
    go true p false q ih = let yes = h m (Contains-head m ms) p in cc
    go false p b q ih = let x : one (P m) ≡ 0 = ap one p in omega (arith, ih, x, count_cons P m ms, count_cons Q m ms)

-- such a message is this Put, of some content
is_it : (c : CellName) (s to : ℕ) (m : Msg) → (is_put c m && (to == s)) ≡ true → (u : VarName) × (is_mail c (Put s u) to m ≡ true)
is_it c s to (msg.Put d u bundle) q =
    let parts = and_parts (equal_cell c d) (to == s) q in
    let here : (s == to) ≡ true = (nat_decides s to).1 (sym ((nat_decides to s).0 parts.1)) in
    (u, and_from (equal_cell c d) ((s == to) && equal_var u u) parts.0 (and_from (s == to) (equal_var u u) here ((same_name_decides u u).1 refl)))
is_it c s to (msg.Get d k) q = cc
is_it c s to (msg.Forward d k) q = cc
is_it c s to (msg.Spawn n code vars bundle) q = cc
is_it c s to (msg.Register x k) q = cc
is_it c s to (msg.BindReq x n t bundle) q = cc
is_it c s to (msg.Binding x t bundle) q = cc
is_it c s to (msg.PortSend q1 m k) q = cc
is_it c s to (msg.PortEnd o was now bundle) q = cc
is_it c s to (msg.CellMake b v bundle) q = cc
is_it c s to (msg.CellAsk b o a v bundle) q = cc
is_it c s to (msg.CellOld o v bundle) q = cc

module _ (p : List Stmt) (w : World) (ks : List Pick) (r : Reached p w ks) (c : CellName) (s : ℕ) where
  abbrev sent : List Sent
  sent = messages w.mail

  -- a Put that travels has the cell's content
  travelling_put : (m : Sent) → Contains sent m → (is_put c m.msg && (m.to == s)) ≡ true →
      (v : VarName) × (is_mail c (Put s v) m.to m.msg ≡ true) × (value_of equal_cell (mobile_cells r.centre.cells) c ≡ Some v) × (sent_count c sent (Put s v) ≡ 1) × ((held w.sites c s).token ≡ Asked)
  travelling_put m at q =
      let is = is_it c s m.to m.msg q in
      let least = there_counted (λ (x : Sent). is_mail c (Put s is.0) x.to x.msg) sent m at is.1 in
      let there : sent_count c sent (Put s is.0) ≢ 0 = (λ none. absurd (omega (arith, least, none))) in
      let found = cell_there w.sites w.mail (mobile_cells r.centre.cells) c (Put s is.0) r.cells.cells there in
      let can = messages_can_come found.2.0 _ _ found.0 found.2.2 (Put s is.0) there in
      (is.0, is.1, found.1 ∙ ap Some (sym can.1.1), can.0, can.1.0)

  pub few_puts : puts_to c s sent ≤ outstanding (held w.sites c s).token
  few_puts = by (puts_to c s sent) refl
    where
      by : (k : ℕ) → puts_to c s sent ≡ k → puts_to c s sent ≤ outstanding (held w.sites c s).token
      by zero q = omega (arith, q)
      by (suc k) q = go (counted_there (λ (m : Sent). is_put c m.msg && (m.to == s)) sent (omega (arith, q)))
        where
          go : (m : Sent) × Contains sent m × ((is_put c m.msg && (m.to == s)) ≡ true) → puts_to c s sent ≤ outstanding (held w.sites c s).token
          go (m, at, is) =
              let first = travelling_put m at is in
              let all = fewer (λ (x : Sent). is_put c x.msg && (x.to == s)) (λ (x : Sent). is_mail c (Put s first.0) x.to x.msg) sent (λ x there z. same x there z first.0 first.2) in
              let asked : outstanding (held w.sites c s).token ≡ 1 = ap outstanding first.4 in
              omega (arith, all, first.3, asked)
            where
              same : (x : Sent) → Contains sent x → (is_put c x.msg && (x.to == s)) ≡ true → (v : VarName) → value_of equal_cell (mobile_cells r.centre.cells) c ≡ Some v → is_mail c (Put s v) x.to x.msg ≡ true
              same x there z v value =
                  let other = travelling_put x there z in
                  let both : ◌≡◌ {A = Option VarName} (Some other.0) (Some v) = sym other.2 ∙ value in
                  let content : other.0 ≡ v = cc in
                  subst (λ (u : VarName). is_mail c (Put s u) x.to x.msg ≡ true) content other.1
