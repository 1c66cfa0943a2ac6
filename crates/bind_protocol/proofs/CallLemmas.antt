-- Each call keeps a world lawful.
use Rattle.std.proofs.Common.{arith, ◌≡◌, ◌≢◌, ◌∙◌, ℕ, zero, suc, ◌-◌, ◌<◌, List, [], ◌∷◌, ◌++◌, length, refl, sym, ap, subst, Bool, true, false, map}
use Rattle.std.specs.Prelude.{Option, Some, None, is_some, IsTrue, slice_get, ◌==◌}
use Rattle.std.proofs.lemmas.Option.{slice_get_within}
use Rattle.std.proofs.lemmas.List.{length-set}
use Rattle.tree_node.specs.declared.names.VarName.{VarName}
use Rattle.tree_node.specs.declared.names.ThreadName.{ThreadName}
use Rattle.tree_node.specs.declared.node.Term.{Term}
use Rattle.tree_node.specs.Each.{Each}
use Rattle.proxy_table.specs.Proxies.{entry_of}
use Rattle.variable_owner.specs.declared.owners.Owner.{Owner}
use Rattle.variable_owner.specs.declared.owners.Owner.TheVariants.{Open, Bound}
use Rattle.variable_owner.specs.Owners.{owner_of, sites_of, with_owner}
use Rattle.variable_owner.proofs.OwnerLemmas.{written_back}
use Rattle.bind_protocol.specs.Records.{Records, is_own, owner_knows}
use Rattle.bind_protocol.specs.Rows.{register, request, binding, after_meet, after_ask, ask_sends}
use Rattle.bind_protocol.specs.World.{World, IsSiteOf, IsFront, records_of, knowledge_at, known_at, registered_at, vars_of, with_records, with_sent, after_make_at, after_meet_at, after_meeting, after_want_at}
use Rattle.bind_protocol.specs.Lawful.{IsKnownToOwner, IsGood, IsLawful}
use Rattle.bind_protocol.specs.Calls.{CanMake, CanWant}
use Rattle.bind_protocol.proofs.PlaceLemmas.{append_nil, puts_same, known_records, listed_records}
use Rattle.bind_protocol.proofs.RowLemmas.{Kept, grows_same, grows_on, site_of, own_knows, proxy_knows, own_here, make_row, meet_row, bind_row, request_row}
use Rattle.std.proofs.lemmas.Bool.{eqb-true, eqb-false}
use Rattle.tree_node.proofs.EnvLemmas.{each_more}
use Rattle.site_message.proofs.JournalLemmas.{sent_more}

pub kept_same : (w : World) → IsLawful w → Kept w w
kept_same w l = record { lawful = l; grows = grows_same (known_at w) }

pub kept_on : (w v u : World) → Kept w v → Kept v u → Kept w u
kept_on w v u k h = record { lawful = h.lawful; grows = grows_on (known_at w) (known_at v) (known_at u) k.grows h.grows }

is_there : {X : Type 0} (o : Option X) → IsTrue (is_some o) → (x : X) × (o ≡ Some x)
is_there None h = cc
is_there (Some x) h = (x, refl)

pub in_range : (w : World) (i : ℕ) (x : VarName) → IsTrue (is_some (known_at w i x)) → IsSiteOf w i
in_range w zero x h = cc
in_range w (suc k) x h = go (slice_get w.binders k) refl h
  where
    go : (o : Option Records) → slice_get w.binders k ≡ o → IsTrue (is_some (knowledge_at o x)) → IsSiteOf w (suc k)
    go None e h = cc
    go (Some b) e h = let below : k < length w.binders = slice_get_within w.binders k b e in (omega arith, omega arith)

pub sends_none : (w : World) → with_sent w [] ≡ w
sends_none w = ap (λ ms. record w { travelling = ms }) (append_nil w.travelling)

nothing_done : (w : World) (i : ℕ) → IsSiteOf w i → with_sent (with_records w i (records_of w i)) [] ≡ w
nothing_done w i h = sends_none (with_records w i (records_of w i)) ∙ puts_same w i h

pub makes_kept : (w : World) (i : ℕ) (x : VarName) → IsLawful w → CanMake w i x → Kept w (after_make_at w i x)
makes_kept w i x l c =
    subst (λ (j : ℕ). Kept w (after_make_at w j x)) c.own
    (make_row w x l (subst (IsSiteOf w) (sym c.own) c.site) (subst (λ (j : ℕ). known_at w j x ≡ None) (sym c.own) c.new))

-- what meeting a name comes to
meets_cases : (w : World) (i : ℕ) (x : VarName) → IsLawful w → IsSiteOf w i → IsKnownToOwner (known_at w) x → Kept w (after_meet_at w i x) × IsFront w.travelling (after_meet_at w i x).travelling
meets_cases w i x l h made = go (is_own (records_of w i) x) refl (is_some (entry_of (records_of w i).proxies x)) refl
  where
    known_now : after_meet_at w i x ≡ w → Kept w (after_meet_at w i x) × IsFront w.travelling (after_meet_at w i x).travelling
    known_now e = subst (λ (v : World). Kept w v × IsFront w.travelling v.travelling) (sym e) (kept_same w l, λ place m at. at)

    go : (b : Bool) → is_own (records_of w i) x ≡ b → (c : Bool) → is_some (entry_of (records_of w i).proxies x) ≡ c → Kept w (after_meet_at w i x) × IsFront w.travelling (after_meet_at w i x).travelling
    go true q c p = known_now (rw q (nothing_done w i h))
    go false q true p = known_now (rw (q, p) (nothing_done w i h))
    go false q false p =
        let site : (records_of w i).site ≡ i = site_of w i l h in
        let apart : x.site ≢ (records_of w i).site = eqb-false _ _ q in
        let other : i ≢ x.site = λ e. apart (sym e ∙ sym site) in
        let none : entry_of (records_of w i).proxies x ≡ None = not_there (entry_of (records_of w i).proxies x) p in
        let new : known_at w i x ≡ None = known_records w i x h ∙ proxy_knows (records_of w i) x q ∙ none in
        let same : after_meet_at w i x ≡ with_sent (with_records w i (record (records_of w i) { proxies = (records_of w i).proxies ++ (x, None) ∷ [] })) (register x i ∷ []) = rw (q, p) (ap (λ k. with_sent (with_records w i (record (records_of w i) { proxies = (records_of w i).proxies ++ (x, None) ∷ [] })) (register x k ∷ [])) site) in
        subst (λ (v : World). Kept w v × IsFront w.travelling v.travelling) (sym same) (meet_row w i x l h other new made, λ place m at. sent_more w.travelling (register x i ∷ []) place m at)
      where
        not_there : {X : Type 0} (o : Option X) → is_some o ≡ false → o ≡ None
        not_there None e = refl
        not_there (Some y) e = cc

pub meets_kept : (w : World) (i : ℕ) (x : VarName) → IsLawful w → IsSiteOf w i → IsKnownToOwner (known_at w) x → Kept w (after_meet_at w i x)
meets_kept w i x l h made = (meets_cases w i x l h made).0

pub meets_front : (w : World) (i : ℕ) (x : VarName) → IsLawful w → IsSiteOf w i → IsKnownToOwner (known_at w) x → IsFront w.travelling (after_meet_at w i x).travelling
meets_front w i x l h made = (meets_cases w i x l h made).1

pub puts_sites : (w : World) (i : ℕ) (b : Records) → length (with_records w i b).binders ≡ length w.binders
puts_sites w i b = length-set w.binders (i - 1) b

still_site : (w v : World) (i : ℕ) → length v.binders ≡ length w.binders → IsSiteOf w i → IsSiteOf v i
still_site w v i e h = (h.0, omega (arith, h.1))

-- the world after a list of names is met
pub record Met (w v : World) : Type 0 where
  pub kept : Kept w v
  pub front : IsFront w.travelling v.travelling
  pub sites : length v.binders ≡ length w.binders

pub meets_all_kept : (w : World) (i : ℕ) (xs : List VarName) → IsLawful w → IsSiteOf w i → Each (IsKnownToOwner (known_at w)) xs → Met w (after_meeting w i xs)
meets_all_kept w i [] l h made = record { kept = kept_same w l; front = λ place m at. at; sites = refl }
meets_all_kept w i (x ∷ xs) l h made =
    let k : Kept w (after_meet_at w i x) = meets_kept w i x l h made.0 in
    let n : length (after_meet_at w i x).binders ≡ length w.binders = puts_sites w i (after_meet (records_of w i) x) in
    let rest : Met (after_meet_at w i x) (after_meeting (after_meet_at w i x) i xs) = meets_all_kept (after_meet_at w i x) i xs k.lawful (still_site w (after_meet_at w i x) i n h) (each_more _ _ xs (λ y m. k.grows.some y.site y m) made.1) in
    record {
      kept = kept_on w (after_meet_at w i x) _ k rest.kept;
      front = λ place m at. rest.front place m (meets_front w i x l h made.0 place m at);
      sites = rest.sites ∙ n;
    }

open_owner : (o : Option Owner) → owner_knows o ≡ Some None → (ks : List ℕ) × (o ≡ Some (Open ks))
open_owner None e = cc
open_owner (Some (Open ks)) e = (ks, refl)
open_owner (Some (Bound t)) e = cc

bound_owner : (o : Option Owner) (t : Term) → owner_knows o ≡ Some (Some t) → o ≡ Some (Bound t)
bound_owner None t e = cc
bound_owner (Some (Open ks)) t e = cc
bound_owner (Some (Bound r)) t e = let same : r ≡ t = cc in ap (λ (z : Term). Some (Bound z)) same

-- an own variable is asked for
abbrev pub asked : World → ℕ → VarName → Term → World
asked w i x t = with_sent (with_records w i (after_ask (records_of w i) x t)) (ask_sends (records_of w i) x t)

owner_is : (w : World) (y : VarName) → IsLawful w → IsSiteOf w y.site → known_at w y.site y ≡ owner_knows (owner_of (records_of w y.site).owners y)
owner_is w y l h = known_records w y.site y h ∙ own_knows (records_of w y.site) y (own_here w y l h)

pub asked_open : (w : World) (y : VarName) (t : Term) → IsLawful w → known_at w y.site y ≡ Some None → IsGood (known_at w) y t → Kept w (asked w y.site y t)
asked_open w y t l unbound good =
    let h : IsSiteOf w y.site = in_range w y.site y (ap is_some unbound) in
    let o = open_owner (owner_of (records_of w y.site).owners y) (sym (owner_is w y l h) ∙ unbound) in
    let list : registered_at w y ≡ sites_of (owner_of (records_of w y.site).owners y) = listed_records w y.site y h refl in
    let same : asked w y.site y t ≡ with_sent (with_records w y.site (record (records_of w y.site) { owners = with_owner (records_of w y.site).owners y (Bound t) })) (map (λ k. binding y t k) (registered_at w y)) =
    rw (list, o.1) refl in
    subst (Kept w) (sym same) (bind_row w y t l h unbound good)

-- a late request does nothing
pub asked_late : (w : World) (y : VarName) (t r : Term) → IsLawful w → known_at w y.site y ≡ Some (Some r) → asked w y.site y t ≡ w
asked_late w y t r l bound =
    let h : IsSiteOf w y.site = in_range w y.site y (ap is_some bound) in
    let o : owner_of (records_of w y.site).owners y ≡ Some (Bound r) = bound_owner (owner_of (records_of w y.site).owners y) r (sym (owner_is w y l h) ∙ bound) in
    let back : with_owner (records_of w y.site).owners y (Bound r) ≡ (records_of w y.site).owners = written_back (records_of w y.site).owners y (Bound r) o in
    let records : after_ask (records_of w y.site) y t ≡ records_of w y.site = rw o (ap (λ es. record (records_of w y.site) { owners = es }) back) in
    let none : ask_sends (records_of w y.site) y t ≡ [] = rw o refl in
    rw (records, none) (nothing_done w y.site h)

pub want_good : (w : World) (i : ℕ) (x : VarName) (t : Term) → IsLawful w → CanWant w i x t → IsGood (known_at w) x t
want_good w i x t l c =
    (each_more _ (IsKnownToOwner (known_at w)) (vars_of t) (λ y known. let k = is_there (known_at w i y) known in l.truth.made i y k.0 k.1) c.known, c.lower)

pub wants_kept : (w : World) (i : ℕ) (x : VarName) (t : Term) (thread : ThreadName) → IsLawful w → CanWant w i x t → Kept w (after_want_at w i x t thread)
wants_kept w i x t thread l c = go (is_own (records_of w i) x) refl
  where
    good : IsGood (known_at w) x t
    good = want_good w i x t l c

    go : (b : Bool) → is_own (records_of w i) x ≡ b → Kept w (after_want_at w i x t thread)
    go true q =
        let mine : x.site ≡ i = eqb-true _ _ q ∙ site_of w i l c.site in
        let k : Kept w (asked w x.site x t) = asked_open w x t l (subst (λ (j : ℕ). known_at w j x ≡ Some None) (sym mine) c.unbound) good in
        let same : after_want_at w i x t thread ≡ asked w i x t = rw q refl in
        subst (Kept w) (sym same) (subst (λ (j : ℕ). Kept w (asked w j x t)) mine k)
    go false q =
        let same : after_want_at w i x t thread ≡ with_sent w (request x t thread ∷ []) = rw q (ap (λ v. with_sent v (request x t thread ∷ [])) (puts_same w i c.site)) in
        subst (Kept w) (sym same) (request_row w x t thread l (l.truth.made i x None c.unbound) good)
