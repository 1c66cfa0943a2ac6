-- From the fields of a world to the world, and from what a call did at one site to what it did to the world.
use Rattle.std.proofs.Common.{arith, rules, ◌≡◌, ◌∙◌, ℕ, zero, suc, ◌+◌, ◌-◌, ◌<◌, ◌≤◌, List, [], ◌∷◌, ◌++◌, length, refl, sym, ap, subst, get_or, drop, drop-cons, add-one}
use Rattle.std.specs.Prelude.{Option, Some, None, is_some, IsTrue, Result, Ok, Err, OnOk, OnErr, remove, slice_get, slice_set, slice_index_or}
use Rattle.std.proofs.lemmas.Option.{slice_get-get_or}
use Rattle.tree_node.specs.declared.names.VarName.{VarName}
use Rattle.tree_node.specs.declared.names.ThreadName.{ThreadName}
use Rattle.tree_node.specs.declared.node.Feature.{Feature}
use Rattle.tree_node.specs.declared.node.Term.{Term}
use Rattle.tree_node.specs.Each.{Each}
use Rattle.site_message.specs.declared.message.Sent.{Sent}
use Rattle.site_message.specs.declared.message.Msg.{Msg}
use Rattle.variable_owner.specs.Owners.{owner_of, IsMade}
use Rattle.variable_owner.specs.declared.owners.Owner.{Owner}
use Rattle.variable_owner.specs.declared.owners.Owner.TheVariants.{Open, Bound}
use Rattle.bind_protocol.specs.Records.{Records, IsReceivableNews, knowledge, owner_knows}
use Rattle.bind_protocol.specs.Rows.{after_make, after_meet, meet_sends, after_want, want_sends, after_message, message_sends}
use Rattle.bind_protocol.specs.World.{World, HasInvariant, HasGrown, IsFront, IsSiteOf, IsMadeIn, records_of, known_at, with_records, with_sent, after_make_at, after_meet_at, after_meeting, after_want_at, takes_message, met_first, after_arrival, after_delivery, field_vars}
use Rattle.bind_protocol.specs.Lawful.{IsLawful}
use Rattle.bind_protocol.specs.Calls.{CanMake, CanMeet, CanWant}
use Rattle.bind_protocol.proofs.PlaceLemmas.{puts_same, known_records}
use Rattle.bind_protocol.proofs.RowLemmas.{Kept, site_of, own_knows}
use Rattle.bind_protocol.proofs.CallLemmas.{makes_kept, meets_kept, meets_front, wants_kept, puts_sites}
use Rattle.bind_protocol.proofs.DeliverLemmas.{letter_of, get_contains, goes_to_site, met_first_made, message_comes, site_takes}
use Rattle.bind_protocol.proofs.HoldLemmas.{lawful_holds}

pub grown : (w v : World) → Kept w v → length v.binders ≡ length w.binders → HasGrown w v
grown w v k e = record { sites = e; known = k.grows.some; bound = k.grows.bound }

pub grown_same : (w : World) → HasGrown w w
grown_same w = record { sites = refl; known = λ i x h. h; bound = λ i x t h. h }

pub grown_on : (w v u : World) → HasGrown w v → HasGrown v u → HasGrown w u
grown_on w v u g h = record {
  sites = h.sites ∙ g.sites;
  known = λ i x k. h.known i x (g.known i x k);
  bound = λ i x t k. h.bound i x t (g.bound i x t k);
}

-- the records lent at a place are the site's
pub lent_records : (w : World) (i : ℕ) (b : Records) → IsSiteOf w i → b ≡ slice_index_or w.binders (i - 1) b → b ≡ records_of w i
lent_records w zero b h e = let low : 1 ≤ 0 = h.0 in absurd (omega arith)
lent_records w (suc k) b h e =
    let low : suc k ≤ length w.binders = h.1 in
    let p : suc k - 1 ≡ k = omega arith in
    let there : slice_get w.binders k ≡ Some (slice_index_or w.binders k b) = slice_get-get_or w.binders k b (omega arith) in
    let is : b ≡ slice_index_or w.binders k b = e ∙ ap (λ n. slice_index_or w.binders n b) p in
    is ∙ sym (rw there refl)

-- either a call came to u, or it changed nothing
pub record Outcome {A E : Type 0} (w v u : World) (r : Result A E) : Type 0 where
  pub ok : OnOk r (v ≡ u)
  pub err : OnErr r (v ≡ w)

pub outcome_lawful : {A E : Type 0} (w v u : World) (r : Result A E) → Outcome w v u r → IsLawful w → Kept w u → IsLawful v
outcome_lawful w v u (Ok a) o l k = rw o.ok k.lawful
outcome_lawful w v u (Err e) o l k = rw o.err l

pub outcome_grows : {A E : Type 0} (w v u : World) (r : Result A E) → Outcome w v u r → HasGrown w u → HasGrown w v
outcome_grows w v u (Ok a) o g = rw o.ok g
outcome_grows w v u (Err e) o g = rw o.err (grown_same w)

put_back : (w : World) (i : ℕ) (b : Records) → IsSiteOf w i → b ≡ records_of w i → with_records w i b ≡ w
put_back w i b h e = rw e (puts_same w i h)

-- one site's part was changed
pub site_outcome : {A E : Type 0} (w0 w : World) (i : ℕ) (f : Records → Records) (b more : Records) (r : Result A E) → w0 ≡ w → IsSiteOf w i → b ≡ slice_index_or w0.binders (i - 1) b →
    OnOk r (more ≡ f b) → OnErr r (more ≡ b) → Outcome w (with_records w0 i more) (with_records w i (f (records_of w i))) r
site_outcome {A} {E} w0 w i f b more r e h at ok err = go r ok err
  where
    is : b ≡ records_of w i
    is = lent_records w i b h (at ∙ ap (λ v. slice_index_or v.binders (i - 1) b) e)

    go : (r : Result A E) → OnOk r (more ≡ f b) → OnErr r (more ≡ b) → Outcome w (with_records w0 i more) (with_records w i (f (records_of w i))) r
    go (Ok a) ok err = record { ok = ap (λ v. with_records v i more) e ∙ ap (with_records w i) (ok ∙ ap f is); err = tt }
    go (Err x) ok err = record { ok = tt; err = ap (λ v. with_records v i more) e ∙ put_back w i more h (err ∙ is) }

-- and it sent messages
pub sending_outcome : {A E : Type 0} (w0 w : World) (i : ℕ) (f : Records → Records) (g : Records → List Sent) (b more : Records) (ms : List Sent) (r : Result A E) → w0 ≡ w → IsSiteOf w i → b ≡ slice_index_or w0.binders (i - 1) b →
    OnOk r (more ≡ f b) → OnOk r (ms ≡ w0.travelling ++ g b) → OnErr r (more ≡ b) → OnErr r (ms ≡ w0.travelling) →
    Outcome w (record (with_records w0 i more) { travelling = ms }) (with_sent (with_records w i (f (records_of w i))) (g (records_of w i))) r
sending_outcome {A} {E} w0 w i f g b more ms r e h at ok sent same unsent = go r ok sent same unsent
  where
    is : b ≡ records_of w i
    is = lent_records w i b h (at ∙ ap (λ v. slice_index_or v.binders (i - 1) b) e)

    go : (r : Result A E) → OnOk r (more ≡ f b) → OnOk r (ms ≡ w0.travelling ++ g b) → OnErr r (more ≡ b) → OnErr r (ms ≡ w0.travelling) →
        Outcome w (record (with_records w0 i more) { travelling = ms }) (with_sent (with_records w i (f (records_of w i))) (g (records_of w i))) r
    go (Ok a) ok sent same unsent = record {
      ok = ap (λ v. record (with_records v i more) { travelling = ms }) e
          ∙ ap (λ c. record (with_records w i c) { travelling = ms }) (ok ∙ ap f is)
          ∙ ap (λ ns. record (with_records w i (f (records_of w i))) { travelling = ns }) (sent ∙ ap (λ v. v.travelling ++ g b) e ∙ ap (λ c. w.travelling ++ g c) is);
      err = tt;
    }
    go (Err x) ok sent same unsent = record {
      ok = tt;
      err = ap (λ v. record (with_records v i more) { travelling = ms }) e
          ∙ ap (λ ns. record (with_records w i more) { travelling = ns }) (unsent ∙ ap (λ v. v.travelling) e)
          ∙ put_back w i more h (same ∙ is);
    }

lawful_of : (w0 w : World) → w0 ≡ w → IsLawful w0 → IsLawful w
lawful_of w0 w e l = subst IsLawful e l

-- what a call on the site's part requires
module _ (w0 w : World) (i : ℕ) (b : Records) (e : w0 ≡ w) (l0 : IsLawful w0) (h : IsSiteOf w i) (at : b ≡ slice_index_or w0.binders (i - 1) b) where
  lent_is : b ≡ records_of w i
  lent_is = lent_records w i b h (at ∙ ap (λ v. slice_index_or v.binders (i - 1) b) e)

  pub lent_site : b.site ≡ i
  lent_site = ap (λ (c : Records). c.site) lent_is ∙ site_of w i (lawful_of w0 w e l0) h

  pub lent_knows : (x : VarName) → knowledge b x ≡ known_at w i x
  lent_knows x = ap (λ (c : Records). knowledge c x) lent_is ∙ sym (known_records w i x h)

  pub lent_takes : (m : Msg) → IsReceivableNews (records_of w i) m → IsReceivableNews b m
  lent_takes m t = subst (λ (c : Records). IsReceivableNews c m) (sym lent_is) t

  owner_none : (o : Option Owner) → owner_knows o ≡ None → o ≡ None
  owner_none None q = refl
  owner_none (Some (Open ks)) q = cc
  owner_none (Some (Bound t)) q = cc

  owner_some : (o : Option Owner) → IsTrue (is_some (owner_knows o)) → IsTrue (is_some o)
  owner_some None q = q
  owner_some (Some (Open ks)) q = refl
  owner_some (Some (Bound t)) q = refl

  own_is : (x : VarName) → x.site ≡ b.site → knowledge b x ≡ owner_knows (owner_of b.owners x)
  own_is x mine = own_knows b x (rw mine (search rules))

  pub lent_new : (x : VarName) → x.site ≡ i → known_at w i x ≡ None → owner_of b.owners x ≡ None
  lent_new x mine none = owner_none (owner_of b.owners x) (sym (own_is x (mine ∙ sym lent_site)) ∙ lent_knows x ∙ none)

  pub lent_made : (x : VarName) → IsMadeIn w x → x.site ≡ b.site → IsMade b.owners x
  lent_made x made mine =
      let there : IsTrue (is_some (known_at w i x)) = subst (λ (j : ℕ). IsTrue (is_some (known_at w j x))) (mine ∙ lent_site) made in
      owner_some (owner_of b.owners x) (subst (λ (o : Option (Option Term)). IsTrue (is_some o)) (sym (lent_knows x) ∙ own_is x mine) there)

-- the calls
pub grows_makes : (w : World) (i : ℕ) (x : VarName) → IsLawful w → CanMake w i x → HasGrown w (after_make_at w i x)
grows_makes w i x l c = grown w (after_make_at w i x) (makes_kept w i x l c) (puts_sites w i _)

pub grows_meets : (w : World) (i : ℕ) (x : VarName) → IsLawful w → CanMeet w i x → HasGrown w (after_meet_at w i x)
grows_meets w i x l c = grown w (after_meet_at w i x) (meets_kept w i x l c.site c.made) (puts_sites w i _)

pub grows_wants : (w : World) (i : ℕ) (x : VarName) (t : Term) (thread : ThreadName) → IsLawful w → CanWant w i x t → HasGrown w (after_want_at w i x t thread)
grows_wants w i x t thread l c = grown w (after_want_at w i x t thread) (wants_kept w i x t thread l c) (puts_sites w i _)

-- what a call is shown to do: it comes to u or changes nothing, keeps the world lawful, and nobody forgets
pub record Done {A E : Type 0} (w v u : World) (r : Result A E) : Type 0 where
  pub outcome : Outcome w v u r
  pub lawful : IsLawful v
  pub holds : HasInvariant v
  pub grows : HasGrown w v

done : {A E : Type 0} (w v u : World) (r : Result A E) → Outcome w v u r → IsLawful w → Kept w u → HasGrown w u → Done w v u r
done w v u r o l k g =
    let lawful : IsLawful v = outcome_lawful w v u r o l k in
    record { outcome = o; lawful = lawful; holds = lawful_holds v lawful; grows = outcome_grows w v u r o g }

pub make_done : {A E : Type 0} (w0 w : World) (i : ℕ) (x : VarName) (b more : Records) (r : Result A E) → w0 ≡ w → IsLawful w0 → CanMake w i x → b ≡ slice_index_or w0.binders (i - 1) b →
    OnOk r (more ≡ after_make b x) → OnErr r (more ≡ b) → Done w (with_records w0 i more) (after_make_at w i x) r
make_done w0 w i x b more r e l0 c at ok err =
    let l : IsLawful w = lawful_of w0 w e l0 in
    done w (with_records w0 i more) (after_make_at w i x) r (site_outcome w0 w i (λ d. after_make d x) b more r e c.site at ok err) l (makes_kept w i x l c) (grows_makes w i x l c)

pub meet_done : {A E : Type 0} (w0 w : World) (i : ℕ) (x : VarName) (b more : Records) (ms : List Sent) (r : Result A E) → w0 ≡ w → IsLawful w0 → CanMeet w i x → b ≡ slice_index_or w0.binders (i - 1) b →
    OnOk r (more ≡ after_meet b x) → OnOk r (ms ≡ w0.travelling ++ meet_sends b x) → OnErr r (more ≡ b) → OnErr r (ms ≡ w0.travelling) → Done w (record (with_records w0 i more) { travelling = ms }) (after_meet_at w i x) r
meet_done w0 w i x b more ms r e l0 c at ok sent same unsent =
    let l : IsLawful w = lawful_of w0 w e l0 in
    done w (record (with_records w0 i more) { travelling = ms }) (after_meet_at w i x) r
    (sending_outcome w0 w i (λ d. after_meet d x) (λ d. meet_sends d x) b more ms r e c.site at ok sent same unsent) l (meets_kept w i x l c.site c.made) (grows_meets w i x l c)

pub outcome_front : {A E : Type 0} (w v u : World) (r : Result A E) → Outcome w v u r → IsFront w.travelling u.travelling → IsFront w.travelling v.travelling
outcome_front w v u (Ok a) o f = rw o.ok f
outcome_front w v u (Err x) o f = rw o.err (λ place m at. at)

pub meet_front : (w0 w : World) (i : ℕ) (x : VarName) → w0 ≡ w → IsLawful w0 → CanMeet w i x → IsFront w.travelling (after_meet_at w i x).travelling
meet_front w0 w i x e l0 c = meets_front w i x (lawful_of w0 w e l0) c.site c.made

pub want_done : {A E : Type 0} (w0 w : World) (i : ℕ) (x : VarName) (t : Term) (thread : ThreadName) (b more : Records) (ms : List Sent) (r : Result A E) → w0 ≡ w → IsLawful w0 → CanWant w i x t → b ≡ slice_index_or w0.binders (i - 1) b →
    OnOk r (more ≡ after_want b x t) → OnOk r (ms ≡ w0.travelling ++ want_sends b x t thread) → OnErr r (more ≡ b) → OnErr r (ms ≡ w0.travelling) → Done w (record (with_records w0 i more) { travelling = ms }) (after_want_at w i x t thread) r
want_done w0 w i x t thread b more ms r e l0 c at ok sent same unsent =
    let l : IsLawful w = lawful_of w0 w e l0 in
    done w (record (with_records w0 i more) { travelling = ms }) (after_want_at w i x t thread) r
    (sending_outcome w0 w i (λ d. after_want d x t) (λ d. want_sends d x t thread) b more ms r e c.site at ok sent same unsent) l (wants_kept w i x t thread l c) (grows_wants w i x t thread l c)

-- a message that travels is taken by its site
pub take_outcome : {A E : Type 0} (w0 w : World) (place : ℕ) (m : Sent) (b more : Records) (ms ds : List Sent) (r : Result A E) → w0 ≡ w → IsSiteOf w m.to → b ≡ slice_index_or w0.binders (m.to - 1) b →
    OnOk r (more ≡ after_message b m.msg) → OnOk r (ms ≡ remove (w0.travelling ++ message_sends b m.msg) place) → OnOk r (ds ≡ w0.delivered ++ m ∷ []) →
    OnErr r (more ≡ b) → OnErr r (ms ≡ w0.travelling) → OnErr r (ds ≡ w0.delivered) →
    Outcome w (record { binders = slice_set w0.binders (m.to - 1) more; travelling = ms; delivered = ds }) (after_arrival (takes_message w m.to m.msg) place m) r
take_outcome {A} {E} w0 w place m b more ms ds r e h at ok sent came same unsent undelivered = go r ok sent came same unsent undelivered
  where
    is : b ≡ records_of w m.to
    is = lent_records w m.to b h (at ∙ ap (λ v. slice_index_or v.binders (m.to - 1) b) e)

    go : (r : Result A E) → OnOk r (more ≡ after_message b m.msg) → OnOk r (ms ≡ remove (w0.travelling ++ message_sends b m.msg) place) → OnOk r (ds ≡ w0.delivered ++ m ∷ []) →
        OnErr r (more ≡ b) → OnErr r (ms ≡ w0.travelling) → OnErr r (ds ≡ w0.delivered) →
        Outcome w (record { binders = slice_set w0.binders (m.to - 1) more; travelling = ms; delivered = ds }) (after_arrival (takes_message w m.to m.msg) place m) r
    go (Ok a) ok sent came same unsent undelivered = record {
      ok = ap (λ v. record { binders = slice_set v.binders (m.to - 1) more; travelling = ms; delivered = ds }) e
          ∙ ap (λ c. record { binders = slice_set w.binders (m.to - 1) c; travelling = ms; delivered = ds }) (ok ∙ ap (λ c. after_message c m.msg) is)
          ∙ ap (λ ns. record { binders = slice_set w.binders (m.to - 1) (after_message (records_of w m.to) m.msg); travelling = ns; delivered = ds }) (sent ∙ ap (λ v. remove (v.travelling ++ message_sends b m.msg) place) e ∙ ap (λ c. remove (w.travelling ++ message_sends c m.msg) place) is)
          ∙ ap (λ ns. record { binders = slice_set w.binders (m.to - 1) (after_message (records_of w m.to) m.msg); travelling = remove (w.travelling ++ message_sends (records_of w m.to) m.msg) place; delivered = ns }) (came ∙ ap (λ v. v.delivered ++ m ∷ []) e);
      err = tt;
    }
    go (Err x) ok sent came same unsent undelivered = record {
      ok = tt;
      err = ap (λ v. record { binders = slice_set v.binders (m.to - 1) more; travelling = ms; delivered = ds }) e
          ∙ ap (λ ns. record { binders = slice_set w.binders (m.to - 1) more; travelling = ns; delivered = ds }) (unsent ∙ ap (λ v. v.travelling) e)
          ∙ ap (λ ns. record { binders = slice_set w.binders (m.to - 1) more; travelling = w.travelling; delivered = ns }) (undelivered ∙ ap (λ v. v.delivered) e)
          ∙ put_back w m.to more h (same ∙ is);
    }

-- the site of a message that travels
pub travels_to : (w0 w : World) (place : ℕ) (m : Sent) → w0 ≡ w → IsLawful w0 → slice_get w.travelling place ≡ Some m → IsSiteOf w m.to
travels_to w0 w place m e l0 at =
    let l : IsLawful w = lawful_of w0 w e l0 in
    goes_to_site w m.to m.msg l (get_contains w.travelling place m at) (letter_of w place l m at)

pub travels_taken : (w0 w : World) (place : ℕ) (m : Sent) (b : Records) → w0 ≡ w → IsLawful w0 → slice_get w.travelling place ≡ Some m → b ≡ slice_index_or w0.binders (m.to - 1) b → IsReceivableNews b m.msg
travels_taken w0 w place m b e l0 at lent =
    let l : IsLawful w = lawful_of w0 w e l0 in
    lent_takes w0 w m.to b e l0 (travels_to w0 w place m e l0 at) lent m.msg (site_takes w m.to m.msg l (get_contains w.travelling place m at) (letter_of w place l m at))

pub take_done : {A E : Type 0} (w0 w : World) (place : ℕ) (m : Sent) (b more : Records) (ms ds : List Sent) (r : Result A E) → w0 ≡ w → IsLawful w0 → slice_get w.travelling place ≡ Some m → b ≡ slice_index_or w0.binders (m.to - 1) b →
    OnOk r (more ≡ after_message b m.msg) → OnOk r (ms ≡ remove (w0.travelling ++ message_sends b m.msg) place) → OnOk r (ds ≡ w0.delivered ++ m ∷ []) →
    OnErr r (more ≡ b) → OnErr r (ms ≡ w0.travelling) → OnErr r (ds ≡ w0.delivered) →
    Done w (record { binders = slice_set w0.binders (m.to - 1) more; travelling = ms; delivered = ds }) (after_arrival (takes_message w m.to m.msg) place m) r
take_done w0 w place m b more ms ds r e l0 at lent ok sent came same unsent undelivered =
    let l : IsLawful w = lawful_of w0 w e l0 in
    let k : Kept w (after_arrival (takes_message w m.to m.msg) place m) = message_comes w place l m.to m.msg at (letter_of w place l m at) in
    done w (record { binders = slice_set w0.binders (m.to - 1) more; travelling = ms; delivered = ds }) (after_arrival (takes_message w m.to m.msg) place m) r
    (take_outcome w0 w place m b more ms ds r e (travels_to w0 w place m e l0 at) lent ok sent came same unsent undelivered) l k (grown w _ k (puts_sites w m.to (after_message (records_of w m.to) m.msg)))

pub travels_range : (w0 w : World) (place : ℕ) (m : Sent) → w0 ≡ w → IsLawful w0 → slice_get w.travelling place ≡ Some m → m.to - 1 < length w0.binders
travels_range w0 w place m e l0 at =
    let h : IsSiteOf w m.to = travels_to w0 w place m e l0 at in
    let low : 1 ≤ m.to = h.0 in
    let high : m.to ≤ length w.binders = h.1 in
    let same : length w0.binders ≡ length w.binders = ap (λ v. length v.binders) e in
    omega arith

pub front_on : (ms ns os : List Sent) → IsFront ms ns → IsFront ns os → IsFront ms os
front_on ms ns os f g = λ place m at. g place m (f place m at)

-- one more name of a list is met
pub met_next : (w v : World) (i : ℕ) (xs : List VarName) (k : ℕ) (d : VarName) → k < length xs → v ≡ after_meet_at w i (get_or xs k d) → after_meeting v i (drop (k + 1) xs) ≡ after_meeting w i (drop k xs)
met_next w v i xs k d h e = rw (e, add-one) (sym (ap (after_meeting w i) (drop-cons xs k d h)))

pub met_next_field : (w v : World) (i : ℕ) (xs : List (Feature × VarName)) (k : ℕ) (f : Feature × VarName) (x : VarName) → k < length xs → f ≡ get_or xs k f → x ≡ f.1 → v ≡ after_meet_at w i x → after_meeting v i (field_vars (drop (k + 1) xs)) ≡ after_meeting w i (field_vars (drop k xs))
met_next_field w v i xs k f x h is x_is e =
    let var : x ≡ (get_or xs k f).1 = x_is ∙ ap (λ (g : Feature × VarName). g.1) is in
    rw (e, var, add-one) (sym (ap (λ fs. after_meeting w i (field_vars fs)) (drop-cons xs k f h)))

pub each_var_of : (P : VarName → Type 0) (xs : List (Feature × VarName)) (k : ℕ) (d : Feature × VarName) → Each P (field_vars xs) → k < length xs → P (get_or xs k d).1
each_var_of P [] k d h below = absurd (omega arith)
each_var_of P (x ∷ xs) zero d h below = h.0
each_var_of P (x ∷ xs) (suc k) d h below = each_var_of P xs k d h.1 (omega arith)

pub can_meet_field : (w0 w : World) (i : ℕ) (xs : List (Feature × VarName)) (k : ℕ) (f : Feature × VarName) (x : VarName) → HasGrown w0 w → IsSiteOf w0 i → Each (IsMadeIn w0) (field_vars xs) → k < length xs → f ≡ get_or xs k f → x ≡ f.1 → CanMeet w i x
can_meet_field w0 w i xs k f x g h made below is x_is =
    let var : x ≡ (get_or xs k f).1 = x_is ∙ ap (λ (y : Feature × VarName). y.1) is in
    let there : IsMadeIn w0 x = subst (IsMadeIn w0) (sym var) (each_var_of (IsMadeIn w0) xs k f made below) in
    let sites : length w.binders ≡ length w0.binders = g.sites in
    let high : i ≤ length w0.binders = h.1 in
    record { site = (h.0, omega arith); made = g.known x.site x there }

-- a delivery by its two parts
pub delivers_parts : (w v u : World) (place : ℕ) (m : Sent) → slice_get w.travelling place ≡ Some m → v ≡ after_meeting w m.to (met_first m.msg) → u ≡ after_arrival (takes_message v m.to m.msg) place m → u ≡ after_delivery w place
delivers_parts w v u place m at first last =
    last ∙ ap (λ x. after_arrival (takes_message x m.to m.msg) place m) first ∙ sym (rw at refl)

-- what the site of a message meets was made
pub travels_made : (w0 w : World) (place : ℕ) (m : Sent) → w0 ≡ w → IsLawful w0 → slice_get w.travelling place ≡ Some m → Each (IsMadeIn w) (met_first m.msg)
travels_made w0 w place m e l0 at =
    let l : IsLawful w = lawful_of w0 w e l0 in
    met_first_made w m.to m.msg l (letter_of w place l m at)

pub holds_of : (w0 w : World) → w0 ≡ w → IsLawful w0 → HasInvariant w
holds_of w0 w e l0 = lawful_holds w (lawful_of w0 w e l0)

-- the message that was copied travels at its place
pub sent_there : (w0 w : World) (xs : List Sent) (place n : ℕ) (s m : Sent) → w0 ≡ w → xs ≡ w0.travelling → n ≡ length w0.travelling → place < n → s ≡ get_or xs place s → m ≡ s → slice_get w.travelling place ≡ Some m
sent_there w0 w xs place n s m e x size below at same =
    let short : n ≡ length xs = size ∙ ap length (sym x) in
    let there : slice_get xs place ≡ Some (get_or xs place s) = slice_get-get_or xs place s (omega arith) in
    let is : slice_get xs place ≡ Some m = there ∙ ap Some (sym at ∙ sym same) in
    subst (λ (ms : List Sent). slice_get ms place ≡ Some m) (x ∙ ap (λ v. v.travelling) e) is
