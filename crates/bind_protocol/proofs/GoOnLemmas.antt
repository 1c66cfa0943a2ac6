-- The counts of Registers and Bindings of several rows, and of a world of which one site goes on.
use Rattle.std.proofs.Common.{arith, ◌≡◌, ◌≢◌, ◌∙◌, sym, ap, refl, subst, ℕ, ◌+◌, ◌≤◌, List, [], ◌∷◌, ◌++◌, Bool, true, false, cond, Some, None}
use Rattle.std.specs.Prelude.{Option, ◌==◌, is_some, IsTrue, Contains}
use Rattle.std.specs.Bool.{Decides}
use Rattle.tree_node.specs.declared.names.VarName.{VarName}
use Rattle.tree_node.specs.declared.node.Term.{Term}
use Rattle.site_message.specs.declared.message.Sent.{Sent}
use Rattle.bind_protocol.specs.Records.{Records, knowledge, sites_in}
use Rattle.site_message.specs.declared.message.Msg.TheVariants as msg
use Rattle.variable_owner.specs.Owners.{with_owner}
use Rattle.variable_owner.specs.declared.owners.Owner.TheVariants.{Open}
use Rattle.bind_protocol.specs.Rows.{sent_message, after_meet, meet_sends, after_meets, meets_send}
use Rattle.bind_protocol.specs.World.{is_register, is_binding}
use Rattle.bind_protocol.specs.Lawful.{met_count, known_count, register_count, binding_count, site_count}
use Rattle.bind_protocol.specs.Count.{RowsCount, RowsHear, AreCounted, AreHeard, KeepsCounts, KeepsHeard, SameCounts, CountsJoin, GoesOn, CountsGoOn, CountedOnce, MessagesComeReady}
use Rattle.bind_protocol.proofs.ListLemmas.{count_append, there_counted}
use Rattle.bind_protocol.proofs.RowCountLemmas.{unused_counts, make_counts, meet_counts, register_counts, register_of, ask_counts, binding_counts, want_counts, others_count, owners_hears, meet_hears, register_hears, ask_hears, binding_hears, want_hears, same_hear, at_most_one}
use Rattle.std.proofs.lemmas.Bool.Decides.{Decides-eqb}

-- ---- one after another

counts_on : (b c d : Records) (h g o u : List Sent) → KeepsCounts b c h o → KeepsCounts c d g u → KeepsCounts b d (h ++ g) (o ++ u)
counts_on b c d h g o u k l = record {
  site = l.site ∙ k.site;
  mine = λ x.
      let e : register_count x b.site (o ++ u) ≡ register_count x b.site o + register_count x b.site u = count_append (is_register x b.site) o u in
      let n : met_count (b.site == x.site) (knowledge c x) + register_count x b.site u ≤ met_count (b.site == x.site) (knowledge d x) =
      subst (λ (i : ℕ). met_count (i == x.site) (knowledge c x) + register_count x i u ≤ met_count (i == x.site) (knowledge d x)) k.site (l.mine x) in
      omega (arith, k.mine x);
  others = λ i x other.
      let e : register_count x i (o ++ u) ≡ register_count x i o + register_count x i u = count_append (is_register x i) o u in
      omega (arith, k.others i x other, l.others i x (λ f. other (f ∙ k.site)));
  listed = λ i x own.
      let e : binding_count x i (o ++ u) ≡ binding_count x i o + binding_count x i u = count_append (is_binding x i) o u in
      let f : register_count x i (h ++ g) ≡ register_count x i h + register_count x i g = count_append (is_register x i) h g in
      omega (arith, k.listed i x own, l.listed i x (own ∙ sym k.site));
  elsewhere = λ i x other.
      let e : binding_count x i (o ++ u) ≡ binding_count x i o + binding_count x i u = count_append (is_binding x i) o u in
      omega (arith, k.elsewhere i x other, l.elsewhere i x (λ f. other (f ∙ k.site)));
}

hears_on : (b c d : Records) (h g : List Sent) → c.site ≡ b.site → KeepsHeard b c h → KeepsHeard c d g → KeepsHeard b d (h ++ g)
hears_on b c d h g same k l x =
    let e : binding_count x b.site (h ++ g) ≡ binding_count x b.site h + binding_count x b.site g = count_append (is_binding x b.site) h g in
    let n : known_count (b.site == x.site) (knowledge d x) ≤ known_count (b.site == x.site) (knowledge c x) + binding_count x b.site g =
    subst (λ (i : ℕ). known_count (i == x.site) (knowledge d x) ≤ known_count (i == x.site) (knowledge c x) + binding_count x i g) same (l x) in
    omega (arith, k x)

unused_heard : (b c : Records) (h g : List Sent) → KeepsHeard b c h → KeepsHeard b c (h ++ g)
unused_heard b c h g k x =
    let e : binding_count x b.site (h ++ g) ≡ binding_count x b.site h + binding_count x b.site g = count_append (is_binding x b.site) h g in
    omega (arith, k x)

alike : (b c : Records) (h o u : List Sent) → SameCounts o u → KeepsCounts b c h o → KeepsCounts b c h u
alike b c h o u same k = record {
  site = k.site;
  mine = λ x. omega (arith, k.mine x, same.registers b.site x);
  others = λ i x other. same.registers i x ∙ k.others i x other;
  listed = λ i x own. omega (arith, k.listed i x own, same.bindings i x);
  elsewhere = λ i x other. same.bindings i x ∙ k.elsewhere i x other;
}

pub counts_join : CountsJoin
counts_join = record { counts = counts_on; heard = hears_on; unused = unused_counts; unheard = unused_heard; alike = alike }

-- ---- the rows

meets_count : (b : Records) (xs : List VarName) → KeepsCounts b (after_meets b xs) [] (meets_send b xs)
meets_count b [] = others_count b [] tt
meets_count b (x ∷ xs) = counts_on b (after_meet b x) (after_meets (after_meet b x) xs) [] [] (meet_sends b x) (meets_send (after_meet b x) xs) (meet_counts b x) (meets_count (after_meet b x) xs)

meets_hear : (b : Records) (xs : List VarName) → KeepsHeard b (after_meets b xs) []
meets_hear b [] = same_hear b
meets_hear b (x ∷ xs) = hears_on b (after_meet b x) (after_meets (after_meet b x) xs) [] [] (meet_counts b x).site (meet_hears b x) (meets_hear (after_meet b x) xs)

pub rows_count : RowsCount
rows_count = record {
  make = make_counts;
  meet = meet_counts;
  meets = meets_count;
  register = λ b x k to own. register_counts b x k (sent_message to (msg.Register x k)) own (register_of x k to);
  ask = ask_counts;
  binding = binding_counts;
  want = want_counts;
  others = others_count;
}

pub rows_hear : RowsHear
rows_hear = record {
  make = λ b x. owners_hears b (with_owner b.owners x (Open []));
  meet = meet_hears;
  meets = meets_hear;
  register = register_hears;
  ask = ask_hears;
  binding = binding_hears;
  want = want_hears;
  same = same_hear;
}

-- ---- a world of which one site goes on

module _ (a : ℕ) (old new : ℕ → Records) (hand rest out all : List Sent) (g : GoesOn a old new) where
  counted_goes : KeepsCounts (old a) (new a) hand out → AreCounted old (hand ++ rest) all → AreCounted new (rest ++ out) (all ++ out)
  counted_goes k h = record {
    once = λ i x. once i x (i == a) (Decides-eqb i a);
    way = λ i x. way i x (x.site == a) (Decides-eqb x.site a);
  }
    where
      once : (i : ℕ) (x : VarName) (b : Bool) → Decides b (i ≡ a) → register_count x i (all ++ out) ≤ met_count (i == x.site) (knowledge (new i) x)
      once i x true d =
          let e : register_count x i (all ++ out) ≡ register_count x i all + register_count x i out = count_append (is_register x i) all out in
          let mine : met_count (i == x.site) (knowledge (old i) x) + register_count x i out ≤ met_count (i == x.site) (knowledge (new i) x) =
          subst (λ (j : ℕ). met_count (j == x.site) (knowledge (old j) x) + register_count x j out ≤ met_count (j == x.site) (knowledge (new j) x)) (sym (d.0 refl))
          (subst (λ (j : ℕ). met_count (j == x.site) (knowledge (old a) x) + register_count x j out ≤ met_count (j == x.site) (knowledge (new a) x)) g.own (k.mine x)) in
          omega (arith, h.once i x)
      once i x false d =
          let e : register_count x i (all ++ out) ≡ register_count x i all + register_count x i out = count_append (is_register x i) all out in
          let other : i ≢ a = λ (q : i ≡ a). let yes : false ≡ true = d.1 q in cc in
          let same : met_count (i == x.site) (knowledge (new i) x) ≡ met_count (i == x.site) (knowledge (old i) x) = ap (λ (r : Records). met_count (i == x.site) (knowledge r x)) (g.others i other) in
          omega (arith, h.once i x, k.others i x (λ q. other (q ∙ g.own)))

      way : (i : ℕ) (x : VarName) (b : Bool) → Decides b (x.site ≡ a) → register_count x i (rest ++ out) + site_count i (sites_in (new x.site) x) + binding_count x i (all ++ out) ≤ register_count x i (all ++ out)
      way i x true d =
          let e : register_count x i (all ++ out) ≡ register_count x i all + register_count x i out = count_append (is_register x i) all out in
          let f : binding_count x i (all ++ out) ≡ binding_count x i all + binding_count x i out = count_append (is_binding x i) all out in
          let r : register_count x i (rest ++ out) ≡ register_count x i rest + register_count x i out = count_append (is_register x i) rest out in
          let l : register_count x i (hand ++ rest) ≡ register_count x i hand + register_count x i rest = count_append (is_register x i) hand rest in
          let site : x.site ≡ a = d.0 refl in
          let now : site_count i (sites_in (new x.site) x) ≡ site_count i (sites_in (new a) x) = ap (λ (j : ℕ). site_count i (sites_in (new j) x)) site in
          let was : site_count i (sites_in (old x.site) x) ≡ site_count i (sites_in (old a) x) = ap (λ (j : ℕ). site_count i (sites_in (old j) x)) site in
          omega (arith, h.way i x, k.listed i x (site ∙ sym g.own))
      way i x false d =
          let e : register_count x i (all ++ out) ≡ register_count x i all + register_count x i out = count_append (is_register x i) all out in
          let f : binding_count x i (all ++ out) ≡ binding_count x i all + binding_count x i out = count_append (is_binding x i) all out in
          let r : register_count x i (rest ++ out) ≡ register_count x i rest + register_count x i out = count_append (is_register x i) rest out in
          let l : register_count x i (hand ++ rest) ≡ register_count x i hand + register_count x i rest = count_append (is_register x i) hand rest in
          let other : x.site ≢ a = λ (q : x.site ≡ a). let yes : false ≡ true = d.1 q in cc in
          let now : site_count i (sites_in (new x.site) x) ≡ site_count i (sites_in (old x.site) x) = ap (λ (s : Records). site_count i (sites_in s x)) (g.others x.site other) in
          omega (arith, h.way i x, k.elsewhere i x (λ q. other (q ∙ g.own)))

  heard_goes : ((i : ℕ) (x : VarName) → i ≢ a → binding_count x i hand ≡ 0) → KeepsHeard (old a) (new a) hand → AreHeard old (hand ++ rest) all → AreHeard new (rest ++ out) (all ++ out)
  heard_goes to k h i x = go (i == a) (Decides-eqb i a)
    where
      go : (b : Bool) → Decides b (i ≡ a) → binding_count x i (rest ++ out) + known_count (i == x.site) (knowledge (new i) x) ≤ binding_count x i (all ++ out)
      go true d =
          let e : binding_count x i (all ++ out) ≡ binding_count x i all + binding_count x i out = count_append (is_binding x i) all out in
          let f : binding_count x i (rest ++ out) ≡ binding_count x i rest + binding_count x i out = count_append (is_binding x i) rest out in
          let l : binding_count x i (hand ++ rest) ≡ binding_count x i hand + binding_count x i rest = count_append (is_binding x i) hand rest in
          let mine : known_count (i == x.site) (knowledge (new i) x) ≤ known_count (i == x.site) (knowledge (old i) x) + binding_count x i hand =
          subst (λ (j : ℕ). known_count (j == x.site) (knowledge (new j) x) ≤ known_count (j == x.site) (knowledge (old j) x) + binding_count x j hand) (sym (d.0 refl))
          (subst (λ (j : ℕ). known_count (j == x.site) (knowledge (new a) x) ≤ known_count (j == x.site) (knowledge (old a) x) + binding_count x j hand) g.own (k x)) in
          omega (arith, h i x)
      go false d =
          let e : binding_count x i (all ++ out) ≡ binding_count x i all + binding_count x i out = count_append (is_binding x i) all out in
          let f : binding_count x i (rest ++ out) ≡ binding_count x i rest + binding_count x i out = count_append (is_binding x i) rest out in
          let l : binding_count x i (hand ++ rest) ≡ binding_count x i hand + binding_count x i rest = count_append (is_binding x i) hand rest in
          let other : i ≢ a = λ (q : i ≡ a). let yes : false ≡ true = d.1 q in cc in
          let same : known_count (i == x.site) (knowledge (new i) x) ≡ known_count (i == x.site) (knowledge (old i) x) = ap (λ (r : Records). known_count (i == x.site) (knowledge r x)) (g.others i other) in
          omega (arith, h i x, to i x other)

none_told : (b c : Bool) → 0 + known_count b (cond {A = Option (Option Term)} c None None) ≤ 0
none_told true c = omega arith
none_told false true = omega arith
none_told false false = omega arith

pub counts_go_on : CountsGoOn
counts_go_on = record {
  start = (record { once = λ i x. omega arith; way = λ i x. omega arith }, λ i x. none_told (i == x.site) (x.site == i));
  counted = λ a old new hand rest out all g. counted_goes a old new hand rest out all g;
  heard = λ a old new hand rest out all g. heard_goes a old new hand rest out all g;
  fewer_counted = λ records ms ns all less h. record { once = h.once; way = λ i x. omega (arith, less i x, h.way i x) };
  fewer_heard = λ records ms ns all less h i x. omega (arith, less i x, h i x);
}

-- ---- what follows

own_is_not_met : (i : ℕ) (x : VarName) (o : Option (Option Term)) → i ≡ x.site → met_count (i == x.site) o ≡ 0
own_is_not_met i x o e = ap (λ (b : Bool). met_count b o) ((Decides-eqb i x.site).1 e)

pub counted_once : CountedOnce
counted_once records travelling all c i x =
    let few = at_most_one (i == x.site) (knowledge (records i) x) in (
      omega (arith, c.once i x),
      omega (arith, c.once i x, c.way i x),
      (λ own. let none = own_is_not_met i x (knowledge (records i) x) own in (omega (arith, c.once i x), omega (arith, c.once i x, c.way i x))),
    )

met_known : (i : ℕ) (x : VarName) (b : Bool) (o : Option (Option Term)) → Decides b (i ≡ x.site) → 1 ≤ met_count b o → (i ≢ x.site) × IsTrue (is_some o)
met_known i x true o d some = absurd (omega (arith, some))
met_known i x false None d some = absurd (omega (arith, some))
met_known i x false (Some o) d some = ((λ (q : i ≡ x.site). let yes : false ≡ true = d.1 q in cc), refl)

still_unbound : (i : ℕ) (x : VarName) (b : Bool) (o : Option (Option Term)) → Decides b (i ≡ x.site) → 1 ≤ met_count b o → known_count b o ≡ 0 → o ≡ Some None
still_unbound i x true o d some none = absurd (omega (arith, some))
still_unbound i x false None d some none = absurd (omega (arith, some))
still_unbound i x false (Some None) d some none = refl
still_unbound i x false (Some (Some t)) d some none = cc

pub messages_come_ready : MessagesComeReady
messages_come_ready records travelling all c fewer_registers fewer_bindings = record {
  register = λ i x there. register i x there;
  met = λ i x there. met_known i x (i == x.site) (knowledge (records i) x) (Decides-eqb i x.site) (some_met i x there);
  unbound = λ heard i x there. still_unbound i x (i == x.site) (knowledge (records i) x) (Decides-eqb i x.site) (some_met i x there) (untold heard i x there);
}
  where
    some_met : (i : ℕ) (x : VarName) → 1 ≤ binding_count x i travelling → 1 ≤ met_count (i == x.site) (knowledge (records i) x)
    some_met i x there = omega (arith, there, fewer_bindings i x, c.way i x, c.once i x)

    register : (i : ℕ) (x : VarName) → 1 ≤ register_count x i travelling → (i ≢ x.site) × (Contains (sites_in (records x.site) x) i → ⊥)
    register i x there =
        let few = at_most_one (i == x.site) (knowledge (records i) x) in
        let known = met_known i x (i == x.site) (knowledge (records i) x) (Decides-eqb i x.site) (omega (arith, there, fewer_registers i x, c.once i x)) in
        let none : site_count i (sites_in (records x.site) x) ≡ 0 = omega (arith, there, c.way i x, c.once i x) in
        (known.0, λ at. let one = there_counted (λ k. i == k) (sites_in (records x.site) x) i at ((Decides-eqb i i).1 refl) in omega arith)

    untold : AreHeard records travelling all → (i : ℕ) (x : VarName) → 1 ≤ binding_count x i travelling → known_count (i == x.site) (knowledge (records i) x) ≡ 0
    untold heard i x there =
        let few = at_most_one (i == x.site) (knowledge (records i) x) in
        omega (arith, there, heard i x, c.way i x, c.once i x)
