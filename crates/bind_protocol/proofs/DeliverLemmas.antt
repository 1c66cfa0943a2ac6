-- A delivery keeps a world lawful, and is one that its site can take.
use Rattle.std.proofs.Common.{arith, rules, ◌≡◌, ◌≢◌, ◌∙◌, ℕ, zero, suc, ◌+◌, ◌≤◌, List, [], ◌∷◌, ◌++◌, refl, sym, ap, subst, Bool, true, false}
use Rattle.std.specs.Prelude.{Option, Some, None, is_some, IsTrue, Contains, slice_get, ◌==◌}
use Rattle.tree_node.specs.declared.names.VarName.{VarName}
use Rattle.tree_node.specs.declared.names.ThreadName.{ThreadName}
use Rattle.tree_node.specs.declared.node.Term.{Term}
use Rattle.tree_node.specs.Each.{Each}
use Rattle.tree_node.specs.Store.{Equation}
use Rattle.tree_node.proofs.ClassLemmas.{same_name_refl, Contains-head, Contains-tail}
use Rattle.site_message.specs.declared.message.Sent.{Sent}
use Rattle.site_message.specs.declared.message.Msg.{Msg}
use Rattle.site_message.specs.declared.message.Msg.TheVariants as msg
use Rattle.proxy_table.specs.Proxies.{after_bound}
use Rattle.variable_owner.specs.declared.owners.Owner.{Owner}
use Rattle.variable_owner.specs.declared.owners.Owner.TheVariants.{Open, Bound}
use Rattle.variable_owner.specs.Owners.{owner_of, IsMade, with_owner}
use Rattle.variable_owner.proofs.OwnerLemmas.{written_back}
use Rattle.bind_protocol.specs.Records.{Records, IsReceivable, IsReceivableNews, owner_knows}
use Rattle.bind_protocol.specs.Rows.{register, binding, after_register, register_sends, after_binding}
use Rattle.bind_protocol.specs.World.{World, IsSiteOf, records_of, known_at, registered_at, with_records, with_sent, after_meeting, takes_message, met_first, after_arrival, after_delivery, is_register, is_binding}
use Rattle.bind_protocol.specs.Lawful.{IsKnownToOwner, IsGood, IsTrueMessage, IsLawful, met_count, known_count, register_count, binding_count, site_count}
use Rattle.bind_protocol.proofs.ListLemmas.{each_at, there_counted}
use Rattle.bind_protocol.proofs.LookLemmas.{in_here, in_other}
use Rattle.bind_protocol.proofs.PlaceLemmas.{append_nil, puts_same, known_records, listed_records}
use Rattle.bind_protocol.proofs.RowLemmas.{Kept, own_here, own_knows, proxy_knows, not_own_here, site_of, uncounted_row, keep_row, answer_row, binding_row}
use Rattle.bind_protocol.proofs.CallLemmas.{Met, asked, asked_open, asked_late, sends_none, kept_on, kept_same, in_range, meets_all_kept}
use Rattle.std.proofs.lemmas.Bool.{eqb-false}
use Rattle.site_message.proofs.JournalLemmas.{sent_more}

pub get_contains : {X : Type 0} (xs : List X) (k : ℕ) (m : X) → slice_get xs k ≡ Some m → Contains xs m
get_contains [] k m e = cc
get_contains {X} (x ∷ xs) zero m e = let same : x ≡ m = cc in subst (λ (z : X). Contains (x ∷ xs) z) same (Contains-head x xs)
get_contains (x ∷ xs) (suc k) m e = Contains-tail x m xs (get_contains xs k m e)

-- a name that was met and is not known bound
pub not_yet : (b : Bool) (o : Option (Option Term)) (n : ℕ) → n + known_count b o ≡ met_count b o → 1 ≤ n → (b ≡ false) × (o ≡ Some None)
not_yet true o n e h = absurd (omega arith)
not_yet false None n e h = absurd (omega arith)
not_yet false (Some None) n e h = (refl, refl)
not_yet false (Some (Some t)) n e h = absurd (omega arith)

same_number : (i : ℕ) → (i == i) ≡ true
same_number i = search rules

-- where a Binding travels to a site, the site met the name and does not know it bound
pub binding_awaited : (w : World) (i : ℕ) (y : VarName) (t : Term) → IsLawful w → Contains w.travelling (binding y t i) → (i ≢ y.site) × (known_at w i y ≡ Some None)
binding_awaited w i y t l at =
    let this : is_binding y i (binding y t i) ≡ true = rw (same_name_refl y, same_number i) refl in
    let some : 1 ≤ binding_count y i w.travelling = there_counted (is_binding y i) w.travelling (binding y t i) at this in
    let way : register_count y i w.travelling + site_count i (registered_at w y) + binding_count y i w.travelling + known_count (i == y.site) (known_at w i y) ≡ met_count (i == y.site) (known_at w i y) = l.counts.one_place i y in
    let end = not_yet (i == y.site) (known_at w i y) (register_count y i w.travelling + site_count i (registered_at w y) + binding_count y i w.travelling) way (omega arith) in
    (eqb-false i y.site end.0, end.1)

-- where a Register travels, its site is another one, and not registered
pub register_awaited : (w : World) (k : ℕ) (y : VarName) → IsLawful w → Contains w.travelling (register y k) → (k ≢ y.site) × (Contains (registered_at w y) k → ⊥)
register_awaited w k y l at =
    let this : is_register y k (register y k) ≡ true = rw (same_name_refl y, same_number k) refl in
    let some : 1 ≤ register_count y k w.travelling = there_counted (is_register y k) w.travelling (register y k) at this in
    let way : register_count y k w.travelling + site_count k (registered_at w y) + binding_count y k w.travelling + known_count (k == y.site) (known_at w k y) ≡ met_count (k == y.site) (known_at w k y) = l.counts.one_place k y in
    let end = not_yet (k == y.site) (known_at w k y) (register_count y k w.travelling + site_count k (registered_at w y) + binding_count y k w.travelling) way (omega arith) in
    let most : met_count (k == y.site) (known_at w k y) ≤ 1 = at_most (k == y.site) (known_at w k y) in
    (eqb-false k y.site end.0, λ there. let more : 1 ≤ site_count k (registered_at w y) = there_counted (λ j. k == j) (registered_at w y) k there (same_number k) in absurd (omega arith))
  where
    at_most : (b : Bool) (o : Option (Option Term)) → met_count b o ≤ 1
    at_most true o = omega arith
    at_most false None = omega arith
    at_most false (Some o) = omega arith

module _ (w : World) (place : ℕ) (l : IsLawful w) where
  -- a Register
  pub register_comes : (y : VarName) (k : ℕ) → slice_get w.travelling place ≡ Some (register y k) → IsKnownToOwner (known_at w) y → Kept w (after_arrival (takes_message w y.site (msg.Register y k)) place (register y k))
  register_comes y k at made = go (owner_of (records_of w y.site).owners y) refl
    where
      h : IsSiteOf w y.site
      h = in_range w y.site y made

      b : Records
      b = records_of w y.site

      is : known_at w y.site y ≡ owner_knows (owner_of (records_of w y.site).owners y)
      is = known_records w y.site y h ∙ own_knows (records_of w y.site) y (own_here w y l h)

      go : (o : Option Owner) → owner_of (records_of w y.site).owners y ≡ o → Kept w (after_arrival (takes_message w y.site (msg.Register y k)) place (register y k))
      go None q = let contrary : false ≡ true = ap is_some (sym (is ∙ ap owner_knows q)) ∙ made in cc
      go (Some (Open ks)) q =
          let same : takes_message w y.site (msg.Register y k) ≡ with_records w y.site (record (records_of w y.site) { owners = with_owner (records_of w y.site).owners y (Open (ks ++ k ∷ [])) }) =
          rw q (ap (λ ms. record (with_records w y.site (record (records_of w y.site) { owners = with_owner (records_of w y.site).owners y (Open (ks ++ k ∷ [])) })) { travelling = ms }) (append_nil w.travelling)) in
          subst (λ (v : World). Kept w (after_arrival v place (register y k))) (sym same) (keep_row w y k ks place l h q at)
      go (Some (Bound t)) q =
          let back : with_owner (records_of w y.site).owners y (Bound t) ≡ (records_of w y.site).owners = written_back (records_of w y.site).owners y (Bound t) q in
          let records : after_register (records_of w y.site) y k ≡ records_of w y.site = rw q (ap (λ es. record (records_of w y.site) { owners = es }) back) in
          let told_to : register_sends (records_of w y.site) y k ≡ binding y t k ∷ [] = rw q refl in
          let same : takes_message w y.site (msg.Register y k) ≡ with_sent w (binding y t k ∷ []) = rw (records, told_to) (ap (λ v. with_sent v (binding y t k ∷ [])) (puts_same w y.site h)) in
          subst (λ (v : World). Kept w (after_arrival v place (register y k))) (sym same)
          (answer_row w y k t place l (is ∙ ap owner_knows q) at (sent_more w.travelling (binding y t k ∷ []) place (register y k) at))

  -- a request
  pub request_comes : (y : VarName) (thread : ThreadName) (t : Term) (bundle : List Equation) → slice_get w.travelling place ≡ Some (record { to = y.site; msg = msg.BindReq y thread t bundle }) → IsKnownToOwner (known_at w) y → IsGood (known_at w) y t →
      Kept w (after_arrival (takes_message w y.site (msg.BindReq y thread t bundle)) place (record { to = y.site; msg = msg.BindReq y thread t bundle }))
  request_comes y thread t bundle at made good = go (known_at w y.site y) refl
    where
      go : (o : Option (Option Term)) → known_at w y.site y ≡ o → Kept w (after_arrival (takes_message w y.site (msg.BindReq y thread t bundle)) place (record { to = y.site; msg = msg.BindReq y thread t bundle }))
      go None q = let contrary : false ≡ true = ap is_some (sym q) ∙ made in cc
      go (Some None) q =
          let k : Kept w (asked w y.site y t) = asked_open w y t l q good in
          kept_on w (asked w y.site y t) _ k
          (uncounted_row (asked w y.site y t) place _ k.lawful (sent_more w.travelling _ place _ at) (λ i x. refl) (λ i x. refl))
      go (Some (Some r)) q =
          subst (λ (v : World). Kept w (after_arrival v place (record { to = y.site; msg = msg.BindReq y thread t bundle }))) (sym (asked_late w y t r l q))
          (uncounted_row w place _ l at (λ i x. refl) (λ i x. refl))

  -- a Binding
  pub binding_comes : (i : ℕ) (y : VarName) (t : Term) → slice_get w.travelling place ≡ Some (binding y t i) → known_at w y.site y ≡ Some (Some t) → Kept w (after_arrival (takes_message w i (msg.Binding y t [])) place (binding y t i))
  binding_comes i y t at bound =
      let awaited = binding_awaited w i y t l (get_contains w.travelling place (binding y t i) at) in
      let h : IsSiteOf w i = in_range w i y (ap is_some awaited.1) in
      subst (λ (v : World). Kept w (after_arrival v place (binding y t i))) (sym (sends_none (with_records w i (after_binding (records_of w i) y t))))
      (binding_row w i y t place l h awaited.0 awaited.1 bound at (after_bound (records_of w i).proxies y t) (in_here (records_of w i).proxies y (Some t))
      (λ x n. in_other (records_of w i).proxies y x (Some t) n))

  -- any message
  pub message_comes : (to : ℕ) (m : Msg) → slice_get w.travelling place ≡ Some (record { to = to; msg = m }) → IsTrueMessage (known_at w) (record { to = to; msg = m }) → Kept w (after_arrival (takes_message w to m) place (record { to = to; msg = m }))
  message_comes to (msg.Register y k) at fits =
      subst (λ (j : ℕ). Kept w (after_arrival (takes_message w j (msg.Register y k)) place (record { to = j; msg = msg.Register y k }))) (sym fits.0)
      (register_comes y k (subst (λ (j : ℕ). slice_get w.travelling place ≡ Some (record { to = j; msg = msg.Register y k })) fits.0 at) fits.1)
  message_comes to (msg.BindReq y thread t bundle) at fits =
      subst (λ (j : ℕ). Kept w (after_arrival (takes_message w j (msg.BindReq y thread t bundle)) place (record { to = j; msg = msg.BindReq y thread t bundle }))) (sym fits.0)
      (request_comes y thread t bundle (subst (λ (j : ℕ). slice_get w.travelling place ≡ Some (record { to = j; msg = msg.BindReq y thread t bundle })) fits.0 at) fits.1 fits.2)
  message_comes to (msg.Binding y t bundle) at fits =
      subst (λ (es : List Equation). Kept w (after_arrival (takes_message w to (msg.Binding y t es)) place (record { to = to; msg = msg.Binding y t es }))) (sym fits.0)
      (binding_comes to y t (subst (λ (es : List Equation). slice_get w.travelling place ≡ Some (record { to = to; msg = msg.Binding y t es })) fits.0 at) fits.1)
  message_comes to (msg.Spawn a b c d) at fits = absurd fits
  message_comes to (msg.Get a b) at fits = absurd fits
  message_comes to (msg.Forward a b) at fits = absurd fits
  message_comes to (msg.Put a b c) at fits = absurd fits
  message_comes to (msg.PortSend a b c) at fits = absurd fits
  message_comes to (msg.PortEnd a b c d) at fits = absurd fits
  message_comes to (msg.CellMake a b c) at fits = absurd fits
  message_comes to (msg.CellAsk a b c d g) at fits = absurd fits
  message_comes to (msg.CellOld a b c) at fits = absurd fits

  pub letter_of : (m : Sent) → slice_get w.travelling place ≡ Some m → IsTrueMessage (known_at w) m
  letter_of m at = each_at (IsTrueMessage (known_at w)) w.travelling place m l.letters at

-- the names that a site meets before it takes a message were made, and the site is there
pub met_first_made : (w : World) (to : ℕ) (m : Msg) → IsLawful w → IsTrueMessage (known_at w) (record { to = to; msg = m }) → Each (IsKnownToOwner (known_at w)) (met_first m)
met_first_made w to (msg.Register y k) l fits = tt
met_first_made w to (msg.BindReq y thread t bundle) l fits = fits.2.0
met_first_made w to (msg.Binding y t bundle) l fits = (l.truth.good y t fits.1).0
met_first_made w to (msg.Spawn a b c d) l fits = tt
met_first_made w to (msg.Get a b) l fits = tt
met_first_made w to (msg.Forward a b) l fits = tt
met_first_made w to (msg.Put a b c) l fits = tt
met_first_made w to (msg.PortSend a b c) l fits = tt
met_first_made w to (msg.PortEnd a b c d) l fits = tt
met_first_made w to (msg.CellMake a b c) l fits = tt
met_first_made w to (msg.CellAsk a b c d g) l fits = tt
met_first_made w to (msg.CellOld a b c) l fits = tt

pub goes_to_site : (w : World) (to : ℕ) (m : Msg) → IsLawful w → Contains w.travelling (record { to = to; msg = m }) → IsTrueMessage (known_at w) (record { to = to; msg = m }) → IsSiteOf w to
goes_to_site w to (msg.Register y k) l at fits = subst (IsSiteOf w) (sym fits.0) (in_range w y.site y fits.1)
goes_to_site w to (msg.BindReq y thread t bundle) l at fits = subst (IsSiteOf w) (sym fits.0) (in_range w y.site y fits.1)
goes_to_site w to (msg.Binding y t bundle) l at fits =
    let plain : Contains w.travelling (binding y t to) = subst (λ (es : List Equation). Contains w.travelling (record { to = to; msg = msg.Binding y t es })) fits.0 at in
    in_range w to y (ap is_some (binding_awaited w to y t l plain).1)
goes_to_site w to (msg.Spawn a b c d) l at fits = absurd fits
goes_to_site w to (msg.Get a b) l at fits = absurd fits
goes_to_site w to (msg.Forward a b) l at fits = absurd fits
goes_to_site w to (msg.Put a b c) l at fits = absurd fits
goes_to_site w to (msg.PortSend a b c) l at fits = absurd fits
goes_to_site w to (msg.PortEnd a b c d) l at fits = absurd fits
goes_to_site w to (msg.CellMake a b c) l at fits = absurd fits
goes_to_site w to (msg.CellAsk a b c d g) l at fits = absurd fits
goes_to_site w to (msg.CellOld a b c) l at fits = absurd fits

-- the world in which the names of a message are met
pub first_met : (w : World) (place : ℕ) (m : Sent) → IsLawful w → slice_get w.travelling place ≡ Some m → Met w (after_meeting w m.to (met_first m.msg))
first_met w place m l at =
    let fits : IsTrueMessage (known_at w) m = letter_of w place l m at in
    meets_all_kept w m.to (met_first m.msg) l (goes_to_site w m.to m.msg l (get_contains w.travelling place m at) fits) (met_first_made w m.to m.msg l fits)

pub delivers_kept : (w : World) (place : ℕ) → IsLawful w → Kept w (after_delivery w place)
delivers_kept w place l = go (slice_get w.travelling place) refl
  where
    go : (o : Option Sent) → slice_get w.travelling place ≡ o → Kept w (after_delivery w place)
    go None q = rw q (kept_same w l)
    go (Some m) q =
        let f : Met w (after_meeting w m.to (met_first m.msg)) = first_met w place m l q in
        let there : slice_get (after_meeting w m.to (met_first m.msg)).travelling place ≡ Some m = f.front place m q in
        let k : Kept (after_meeting w m.to (met_first m.msg)) (after_arrival (takes_message (after_meeting w m.to (met_first m.msg)) m.to m.msg) place m) =
        message_comes (after_meeting w m.to (met_first m.msg)) place f.kept.lawful m.to m.msg there (letter_of (after_meeting w m.to (met_first m.msg)) place f.kept.lawful m there) in
        rw q (kept_on w (after_meeting w m.to (met_first m.msg)) _ f.kept k)

made_owner : (o : Option Owner) → is_some (owner_knows o) ≡ true → IsTrue (is_some o)
made_owner None e = cc
made_owner (Some (Open ks)) e = refl
made_owner (Some (Bound t)) e = refl

-- the site of a message that travels can take it
pub site_takes : (w : World) (to : ℕ) (m : Msg) → IsLawful w → Contains w.travelling (record { to = to; msg = m }) → IsTrueMessage (known_at w) (record { to = to; msg = m }) → IsReceivableNews (records_of w to) m
site_takes w to (msg.Register y k) l at fits = subst (λ (j : ℕ). IsReceivable (records_of w j) (msg.Register y k)) (sym fits.0) (
  sym (site_of w y.site l h),
  made_here,
  λ c. (register_awaited w k y l own).1 (subst (λ (ks : List ℕ). Contains ks k) (sym (listed_records w y.site y h refl)) c),
)
  where
    h : IsSiteOf w y.site
    h = in_range w y.site y fits.1

    own : Contains w.travelling (register y k)
    own = subst (λ (j : ℕ). Contains w.travelling (record { to = j; msg = msg.Register y k })) fits.0 at

    made_here : IsMade (records_of w y.site).owners y
    made_here = made_owner (owner_of (records_of w y.site).owners y) (sym (ap is_some (known_records w y.site y h ∙ own_knows (records_of w y.site) y (own_here w y l h))) ∙ fits.1)
site_takes w to (msg.BindReq y thread t bundle) l at fits = subst (λ (j : ℕ). IsReceivable (records_of w j) (msg.BindReq y thread t bundle)) (sym fits.0) (
  sym (site_of w y.site l h),
  made_owner (owner_of (records_of w y.site).owners y) (sym (ap is_some (known_records w y.site y h ∙ own_knows (records_of w y.site) y (own_here w y l h))) ∙ fits.1),
)
  where
    h : IsSiteOf w y.site
    h = in_range w y.site y fits.1
site_takes w to (msg.Binding y t bundle) l at fits =
    let plain : Contains w.travelling (binding y t to) = subst (λ (es : List Equation). Contains w.travelling (record { to = to; msg = msg.Binding y t es })) fits.0 at in
    let awaited = binding_awaited w to y t l plain in
    let h : IsSiteOf w to = in_range w to y (ap is_some awaited.1) in
    sym (proxy_knows (records_of w to) y (not_own_here w to y l h awaited.0)) ∙ sym (known_records w to y h) ∙ awaited.1
site_takes w to (msg.Spawn a b c d) l at fits = tt
site_takes w to (msg.Get a b) l at fits = tt
site_takes w to (msg.Forward a b) l at fits = tt
site_takes w to (msg.Put a b c) l at fits = tt
site_takes w to (msg.PortSend a b c) l at fits = tt
site_takes w to (msg.PortEnd a b c d) l at fits = tt
site_takes w to (msg.CellMake a b c) l at fits = tt
site_takes w to (msg.CellAsk a b c d g) l at fits = tt
site_takes w to (msg.CellOld a b c) l at fits = tt
