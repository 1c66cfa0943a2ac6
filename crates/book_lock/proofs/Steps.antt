-- Each step keeps the rule.
use Rattle.std.proofs.Common.{◌≡◌, ◌≢◌, ℕ, zero, suc, ◌+◌, ◌%◌, ◌^◌, ◌<◌, ◌≤◌, List, [], ◌∷◌, ◌++◌, length, set, get_or, Bool, true, false, true≢false, cond, eqb, eq-eqb, ne_eqb, Option, Some, refl, sym, ap, ◌∙◌, subst, ⊎_elim, arith, length-set, length-append, get_or-set_same, get_or-set_other}
use Rattle.std.proofs.Math.Nat.{mod-add-mod}
use mathlib.Core.Logic.{dite}
use mathlib.Core.Option.{some, none, some-ne-none, some-injective}
use mathlib.Core.Option as maybe
use native.Mathlib.Decide.{ℕ_discrete}
use lib.ListN.{get_elem?}
use Rattle.atomic_table.specs.Table.{State, Me, step, keeps, takes, gives, Allows, Splits, Joins, opening, Final, Seen}
use Rattle.atomic_table.proofs.Lists.{at_set, set_here, set_else, set_again, at_longer, one_turn}
use Rattle.site_message.specs.declared.story.Sight.{Sight}
use Rattle.book_lock.specs.declared.view.Part.{Part}
use Rattle.book_lock.specs.declared.view.View.{View}
use Rattle.book_lock.specs.Rule.{AreInAgreement, IsLawfulChange, part, view, outside, parts_from, total, ticket_count, share, Each, head_of, ticket_of, SeatRule, ValueIsPlaced, LockRule, DrawStep, LookStep, PassStep}
use Rattle.book_lock.specs.Seats.{HasTicket, my_part}
use Rattle.book_lock.proofs.Parts.{set_word, same_at, at_inside, at_end, each_map, each_append, all_set, total_set, total_push, total_le, total_two, waits_le, length_parts, each_part_from, agrees_refl, moved}

off : false ≡ true → ⊥
off e = true≢false (sym e)

-- the word after one more
one_more : (a w : ℕ) → w ≡ a % 2 ^ 64 → (w + 1) % 2 ^ 64 ≡ (a + 1) % 2 ^ 64
one_more a w e = ap (λ x. (x + 1) % 2 ^ 64) e ∙ mod-add-mod a (2 ^ 64) 1

module _ {B : Type 0} (sight : B → Sight) where
  abbrev S : Type 0
  S = State (Option B) View

  -- a seat that has not reached its turn may change its view
  placed_set : (o : Bool) (homes : List (maybe.Option (Option B))) (views : List View) (now : Sight) (id : ℕ) (v w : View) → get_elem? views id ≡ some v → v.reached ≡ false
      → ValueIsPlaced sight o homes views now → ValueIsPlaced sight o homes (set views id w) now
  placed_set false homes views now id v w at idle p = p
  placed_set true homes views now id v w at idle p = let j = p.0 in let u = p.1 in let e = p.2 in let is = p.3 in
      (j, u, set_else views id j w (λ same. off (sym idle ∙ (ap (λ (z : View). z.reached) (sym (same_at views j id u v e at same)) ∙ is))) ∙ e, is)

  placed_push : (o : Bool) (homes : List (maybe.Option (Option B))) (views : List View) (now : Sight) (w : View) → ValueIsPlaced sight o homes views now → ValueIsPlaced sight o homes (views ++ w ∷ []) now
  placed_push false homes views now w p = p
  placed_push true homes views now w p = (p.0, p.1, at_longer views (w ∷ []) p.0 p.1 p.2, p.3)

  pub draws : (slots n id : ℕ) (p : Part) → Allows (LockRule sight n) slots id (outside (p ∷ []), []) 0 (λ x. (x + 1) % 2 ^ 64) (DrawStep {B = B} (step slots 0 1 0 none) (outside (p ∷ []), []))
  draws slots n id p s r wide at small =
      let v = outside (p ∷ []) in
      let w = view (p ∷ []) (Some r.drawn) false in
      let holder' : ℕ → ℕ = λ t. cond (eqb t r.drawn) id (r.holder t) in
      let long = r.two_words in
      let queue = r.queue in
      let new : ℕ = (get_or s.words 0 0 + 1) % 2 ^ 64 in
      let mine = r.each_seat id v at in (
        w,
        keeps,
        tt,
        record {
          drawn = r.drawn + 1;
          served = r.served;
          out = r.out;
          now = r.now;
          owner = r.owner;
          holder = holder';
          two_words = length-set s.words 0 new ∙ long;
          ticket_word = get_or-set_same s.words 0 new 0 (omega arith) ∙ one_more r.drawn _ r.ticket_word;
          serving_word = get_or-set_other s.words 0 1 new 0 (λ e. omega arith) ∙ r.serving_word;
          few = r.few;
          shared = let h = total_set share s.views id v w at in let k = r.shared in omega arith;
          queue = let h = total_set ticket_count s.views id v w at in omega arith;
          each_seat = all_set (SeatRule (r.drawn + 1) r.served r.out r.now r.owner holder') s.views id w
              record {
                each_part = mine.each_part;
                queued = λ t e. let same : r.drawn ≡ t = cc in (omega arith, omega arith, ap (λ b. cond b id (r.holder t)) (eq-eqb t r.drawn (sym same)), omega arith);
                turn = λ e. absurd (off e);
              }
              (λ j u other e. let f = r.each_seat j u e in record {
                each_part = f.each_part;
                queued = λ t is. let q = f.queued t is in let below = q.1 in (q.0, omega arith, ap (λ b. cond b id (r.holder t)) (ne_eqb t r.drawn (λ same. omega arith)) ∙ q.2, q.3);
                turn = f.turn;
              });
          placed = placed_set r.out s.homes s.views r.now id v w at refl r.placed;
        },
        (r.drawn, r.ticket_word, refl),
      )

  pub draws_as : (slots n id : ℕ) (m : Me (Option B) View) (p : Part) → m ≡ (outside (p ∷ []), []) → Allows (LockRule sight n) slots id m 0 (λ x. (x + 1) % 2 ^ 64) (DrawStep (step slots 0 1 0 none) m)
  draws_as slots n id m p e = subst (λ (x : Me (Option B) View). Allows (LockRule sight n) slots id x 0 (λ x. (x + 1) % 2 ^ 64) (DrawStep (step slots 0 1 0 none) x)) (sym e) (draws slots n id p)

  -- the number of those that wait is small
  few_wait : (n : ℕ) (s : S) (r : LockRule sight n s) → total ticket_count s.views ≤ n
  few_wait n s r =
      let k = r.shared in
      let h = total_le ticket_count share s.views (λ i v e. waits_le v.ticket (length v.parts) (λ t is. let q = (r.each_seat i v e).queued t is in q.3)) in
      omega arith

  -- at home, where nobody has reached its turn
  home : (o : Bool) (homes : List (maybe.Option (Option B))) (views : List View) (now : Sight) → ValueIsPlaced sight o homes views now → ((j : ℕ) (u : View) → get_elem? views j ≡ some u → u.reached ≡ true → ⊥) → ValueIsPlaced sight false homes views now
  home false homes views now p none_there = p
  home true homes views now p none_there = absurd (none_there p.0 p.1 p.2 p.3)

  -- who has reached its turn holds the ticket that is served
  turn_holder : (n : ℕ) (s : S) (r : LockRule sight n s) (j : ℕ) (u : View) → get_elem? s.views j ≡ some u → u.reached ≡ true → r.holder r.served ≡ j
  turn_holder n s r j u e is = let f = r.each_seat j u e in ((f.queued r.served (f.turn is).0)).2

  state_unchanged : (n : ℕ) (s : S) (r : LockRule sight n s) (i id : ℕ) (v : View) → i < length s.words → get_elem? s.views id ≡ some v
      → LockRule sight n record { words = set s.words i (get_or s.words i 0); homes = s.homes; views = set s.views id v }
  state_unchanged n s r i id v inside at =
      let ws = set_word s.words i inside in
      let vs = set_again s.views id v at in
      let path : s ≡ record { words = set s.words i (get_or s.words i 0); homes = s.homes; views = set s.views id v } = λ k. record { words = sym ws k; homes = s.homes; views = sym vs k } in
      subst (LockRule sight n) path r

  pub looks : (slots n id k : ℕ) (x : Sight) (t : ℕ)
      → Allows (LockRule sight n) slots id (view (part k x ∷ []) (Some t) false, []) 1 (λ y. y) (LookStep sight (step slots 1 0 0 none) (view (part k x ∷ []) (Some t) false, []))
  looks slots n id k x t s r wide at small =
      let v = view (part k x ∷ []) (Some t) false in
      let mine = r.each_seat id v at in
      let q = mine.queued t refl in
      let long = r.two_words in
      let word : ℕ = get_or s.words 1 0 in
      dite (ℕ_discrete t r.served)
      (λ hit.
      let nobody : (j : ℕ) (u : View) → get_elem? s.views j ≡ some u → u.reached ≡ true → ⊥ = λ j u e is.
      off (ap (λ (z : View). z.reached) (same_at s.views id j v u at e (sym q.2 ∙ (ap r.holder hit ∙ turn_holder n s r j u e is))) ∙ is) in
      let h = home r.out s.homes s.views r.now r.placed nobody in
      let b : B = h.0 in
      let w = view (part k (sight b) ∷ []) (Some t) true in
      let a : AreInAgreement k r.now x = (mine.each_part).0.1 in (
        w,
        takes 0 (Some b),
        h.1,
        record {
          drawn = r.drawn;
          served = r.served;
          out = true;
          now = r.now;
          owner = r.owner;
          holder = r.holder;
          two_words = length-set s.words 1 word ∙ long;
          ticket_word = get_or-set_other s.words 1 0 word 0 (λ e. omega arith) ∙ r.ticket_word;
          serving_word = get_or-set_same s.words 1 word 0 (omega arith) ∙ r.serving_word;
          few = r.few;
          shared = let i = total_set share s.views id v w at in let j = r.shared in omega arith;
          queue = let i = total_set ticket_count s.views id v w at in let j = r.queue in omega arith;
          each_seat = all_set (SeatRule r.drawn r.served true r.now r.owner r.holder) s.views id w
              record {
                each_part = (((mine.each_part).0.0, subst (λ (z : Sight). AreInAgreement k r.now z) (sym h.2) (agrees_refl k r.now)), tt);
                queued = mine.queued;
                turn = λ _. (ap (λ (y : ℕ). Some y) hit, refl, (k, ap (λ (z : Sight). part k z ∷ []) h.2));
              }
              (λ j u other e. let f = r.each_seat j u e in record {
                each_part = f.each_part;
                queued = f.queued;
                turn = λ is. absurd (nobody j u e is);
              });
          placed = (id, w, set_here s.views id w (at_inside s.views id v at), refl);
        },
        (
          (λ _. (b, subst (λ (z : Sight). AreInAgreement k z x) (sym h.2) a, refl)),
          (λ ne. absurd (ne (r.serving_word ∙ ap (λ y. y % 2 ^ 64) (sym hit)))),
        ),
      ))
      (λ miss. (
        v,
        keeps,
        tt,
        state_unchanged n s r 1 id v (omega arith) at,
        (
          (λ e. absurd (miss (sym (one_turn r.served t (2 ^ 64) q.0 (let f = few_wait n s r in let l = q.1 in let m = r.queue in let o = r.few in omega arith) (sym r.serving_word ∙ e))))),
          (λ _. refl),
        ),
      ))

  pub looks_as : (slots n id : ℕ) (m : Me (Option B) View) (p : Part) (t : ℕ) → m ≡ (view (p ∷ []) (Some t) false, []) → Allows (LockRule sight n) slots id m 1 (λ y. y) (LookStep sight (step slots 1 0 0 none) m)
  looks_as slots n id m p t e = subst (λ (x : Me (Option B) View). Allows (LockRule sight n) slots id x 1 (λ y. y) (LookStep sight (step slots 1 0 0 none) x)) (sym e) (looks slots n id p.site p.seen t)

  pub passes : (n id k : ℕ) (x : Sight) (t : ℕ) (b : B) → IsLawfulChange k x (sight b)
      → Allows (LockRule sight n) 1 id (view (part k x ∷ []) (Some t) true, (0, Some b) ∷ []) 1 (λ y. (y + 1) % 2 ^ 64) (PassStep sight (step 1 1 1 0 none) (view (part k x ∷ []) (Some t) true, (0, Some b) ∷ []))
  passes n id k x t b moves s r wide at small =
      let v = view (part k x ∷ []) (Some t) true in
      let w = outside (part k (sight b) ∷ []) in
      let mine = r.each_seat id v at in
      let q = mine.queued t refl in
      let turn = mine.turn refl in
      let served : t ≡ r.served = ap ticket_of turn.0 in
      let seen : x ≡ r.now = ap (λ (ps : List Part). (head_of ps).seen) turn.2.1 in
      let owns : r.owner k ≡ id = (mine.each_part).0.0 in
      let holds : r.holder r.served ≡ id = ap r.holder (sym served) ∙ q.2 in
      let after = subst (λ (z : Sight). IsLawfulChange k z (sight b)) seen moves in
      let long = r.two_words in
      let below = q.1 in
      let new : ℕ = (get_or s.words 1 0 + 1) % 2 ^ 64 in (
        w,
        gives,
        tt,
        record {
          drawn = r.drawn;
          served = r.served + 1;
          out = false;
          now = sight b;
          owner = r.owner;
          holder = r.holder;
          two_words = length-set s.words 1 new ∙ long;
          ticket_word = get_or-set_other s.words 1 0 new 0 (λ e. omega arith) ∙ r.ticket_word;
          serving_word = get_or-set_same s.words 1 new 0 (omega arith) ∙ one_more r.served _ r.serving_word;
          few = r.few;
          shared = let i = total_set share s.views id v w at in let j = r.shared in omega arith;
          queue = let i = total_set ticket_count s.views id v w at in let j = r.queue in omega arith;
          each_seat = all_set (SeatRule r.drawn (r.served + 1) false (sight b) r.owner r.holder) s.views id w
              record {
                each_part = ((owns, agrees_refl k (sight b)), tt);
                queued = λ t' e. absurd (cc);
                turn = λ e. absurd (off e);
              }
              (λ j u other e. let f = r.each_seat j u e in record {
                each_part = each_map (λ (p : Part). (r.owner p.site ≡ j) × AreInAgreement p.site r.now p.seen) (λ (p : Part). (r.owner p.site ≡ j) × AreInAgreement p.site (sight b) p.seen)
                    (λ (p : Part) a. (a.0, moved p.site k p.seen r.now (sight b) (λ same. other (sym a.0 ∙ (ap r.owner same ∙ owns))) after a.1)) u.parts f.each_part;
                queued = λ t' is. let z = f.queued t' is in let low = z.0 in let high = z.1 in
                    let ne : t' ≢ r.served = λ same. other (sym z.2 ∙ (ap r.holder same ∙ holds)) in (omega arith, high, z.2, z.3);
                turn = λ is. absurd (other (sym (turn_holder n s r j u e is) ∙ holds));
              });
          placed = (b, set_here s.homes 0 (some (Some b)) (omega arith), refl);
        },
        refl,
      )

  -- a part goes to a new seat
  pub deals : (n id k : ℕ) (x : Sight) (ps : List Part) → Each (λ p. p.site ≢ k) ps → Splits (LockRule sight n) id (outside (part k x ∷ ps)) (outside ps) (outside (part k x ∷ []))
  deals n id k x ps apart s r at =
      let v = outside (part k x ∷ ps) in
      let left = outside ps in
      let right = outside (part k x ∷ []) in
      let vs : List View = set s.views id left in
      let seat : ℕ = length vs in
      let owner' : ℕ → ℕ = λ j. cond (eqb j k) seat (r.owner j) in
      let mine = r.each_seat id v at in
      let F : ℕ → View → Type 0 = SeatRule r.drawn r.served r.out r.now owner' r.holder in
      let idle : ℕ → ℕ → Type 0 = λ i j. i ≡ j in record {
        drawn = r.drawn;
        served = r.served;
        out = r.out;
        now = r.now;
        owner = owner';
        holder = r.holder;
        two_words = r.two_words;
        ticket_word = r.ticket_word;
        serving_word = r.serving_word;
        few = r.few;
        shared = let i = total_set share s.views id v left at in let j = total_push share vs right in let l = r.shared in omega arith;
        queue = let i = total_set ticket_count s.views id v left at in let j = total_push ticket_count vs right in let l = r.queue in omega arith;
        each_seat = λ j u e. ⊎_elim
            (λ (old : get_elem? vs j ≡ some u). all_set F s.views id left
            record {
              each_part = each_both ps id apart mine.each_part.1;
              queued = λ t' is. absurd (cc);
              turn = λ is. absurd (off is);
            }
            (λ i w other at'. let f = r.each_seat i w at' in record {
              each_part = each_map (λ (p : Part). (r.owner p.site ≡ i) × AreInAgreement p.site r.now p.seen) (λ (p : Part). (owner' p.site ≡ i) × AreInAgreement p.site r.now p.seen)
                  (λ (p : Part) a. (ap (λ c. cond c seat (r.owner p.site)) (ne_eqb p.site k (λ same. other (sym a.0 ∙ (ap r.owner same ∙ mine.each_part.0.0)))) ∙ a.0, a.1)) w.parts f.each_part;
              queued = f.queued;
              turn = f.turn;
            }) j u old)
            (λ (last : (j ≡ length vs) × (right ≡ u)). subst (λ (y : ℕ × View). F y.0 y.1) (λ i. (sym last.0 i, last.1 i)) record {
              each_part = ((ap (λ c. cond c seat (r.owner k)) (eq-eqb k k refl), mine.each_part.0.1), tt);
              queued = λ t' is. absurd (cc);
              turn = λ is. absurd (off is);
            })
            (at_end vs right u j e);
        placed = placed_push r.out s.homes vs r.now right (placed_set r.out s.homes s.views r.now id v left at refl r.placed);
      }
    where
      each_both : (qs : List Part) (i : ℕ) → Each (λ p. p.site ≢ k) qs → Each (λ p. (r.owner p.site ≡ i) × AreInAgreement p.site r.now p.seen) qs
          → Each (λ p. (cond (eqb p.site k) (length (set s.views id (outside ps))) (r.owner p.site) ≡ i) × AreInAgreement p.site r.now p.seen) qs
      each_both [] i a h = tt
      each_both (q ∷ qs) i a h = ((ap (λ c. cond c (length (set s.views id (outside ps))) (r.owner q.site)) (ne_eqb q.site k a.0) ∙ h.0.0, h.0.1), each_both qs i a.1 h.1)

  -- a seat takes in the parts of another
  pub gathers : (n id other : ℕ) (ps qs : List Part) → Joins (LockRule sight n) id (outside ps) other (outside qs) (outside (qs ++ ps)) (outside [])
  gathers n id other ps qs s r at apart at' =
      let v = outside ps in
      let w = outside qs in
      let both = outside (qs ++ ps) in
      let vs : List View = set s.views id both in
      let mine = r.each_seat id v at in
      let theirs_at : get_elem? s.views other ≡ some w = sym (set_else s.views id other both apart) ∙ at' in
      let theirs = r.each_seat other w theirs_at in
      let owner' : ℕ → ℕ = λ j. cond (eqb (r.owner j) other) id (r.owner j) in
      let F : ℕ → View → Type 0 = SeatRule r.drawn r.served r.out r.now owner' r.holder in
      let G : ℕ → Part → Type 0 = λ i p. (r.owner p.site ≡ i) × AreInAgreement p.site r.now p.seen in
      let G' : ℕ → Part → Type 0 = λ i p. (owner' p.site ≡ i) × AreInAgreement p.site r.now p.seen in
      let keep : (i : ℕ) → i ≢ other → (p : Part) → G i p → G' i p = λ i ne p a. (ap (λ c. cond c id (r.owner p.site)) (ne_eqb (r.owner p.site) other (λ same. ne (sym a.0 ∙ same))) ∙ a.0, a.1) in
      let change : (p : Part) → G other p → G' id p = λ p a. (ap (λ c. cond c id (r.owner p.site)) (eq-eqb (r.owner p.site) other a.0), a.1) in record {
        drawn = r.drawn;
        served = r.served;
        out = r.out;
        now = r.now;
        owner = owner';
        holder = r.holder;
        two_words = r.two_words;
        ticket_word = r.ticket_word;
        serving_word = r.serving_word;
        few = r.few;
        shared = let i = total_set share s.views id v both at in let j = total_set share vs other w (outside []) at' in let l = r.shared in let m = length-append qs ps in omega arith;
        queue = let i = total_set ticket_count s.views id v both at in let j = total_set ticket_count vs other w (outside []) at' in let l = r.queue in omega arith;
        each_seat = all_set F vs other (outside [])
            record { each_part = tt; queued = λ t' is. absurd (cc); turn = λ is. absurd (off is) }
            (λ j u far e. ⊎_elim
            (λ (x : (j ≡ id) × (both ≡ u)). subst (λ (y : ℕ × View). F y.0 y.1) (λ i. (sym x.0 i, x.1 i)) record {
              each_part = each_append (G' id) qs ps (each_map (G other) (G' id) change qs theirs.each_part) (each_map (G id) (G' id) (keep id (λ same. apart (sym same))) ps mine.each_part);
              queued = λ t' is. absurd (cc);
              turn = λ is. absurd (off is);
            })
            (λ (x : (j ≢ id) × (get_elem? s.views j ≡ some u)). let f = r.each_seat j u x.1 in record { each_part = each_map (G j) (G' j) (keep j far) u.parts f.each_part; queued = f.queued; turn = f.turn })
            (at_set s.views id j both u e));
        placed = placed_set r.out s.homes vs r.now other w (outside []) at' refl (placed_set r.out s.homes s.views r.now id v both at refl r.placed);
      }

  -- a new table keeps the rule
  pub opens : (n : ℕ) (b : B) → n < 2 ^ 32 → LockRule sight n (opening (0 ∷ 0 ∷ []) (Some b ∷ []) (outside (parts_from n 1 (sight b))))
  opens n b few = record {
    drawn = 0;
    served = 0;
    out = false;
    now = sight b;
    owner = λ _. 0;
    holder = λ _. 0;
    two_words = refl;
    ticket_word = refl;
    serving_word = refl;
    few = few;
    shared = let h = length_parts n 1 (sight b) in omega arith;
    queue = omega arith;
    each_seat = one;
    placed = (b, refl, refl);
  }
    where
      one : (j : ℕ) (v : View) → get_elem? (outside (parts_from n 1 (sight b)) ∷ []) j ≡ some v → SeatRule 0 0 false (sight b) (λ _. 0) (λ _. 0) j v
      one zero v e = subst (SeatRule 0 0 false (sight b) (λ _. 0) (λ _. 0) 0) (some-injective _ _ e) record {
        each_part = each_part_from (λ p. (0 ≡ 0) × AreInAgreement p.site (sight b) p.seen) n 1 (sight b) (λ j l. (refl, agrees_refl j (sight b)));
        queued = λ t is. absurd (cc);
        turn = λ is. absurd (off is);
      }
      one (suc j) v e = absurd (some-ne-none v (sym e))

  -- the seat that has all parts, at the end
  pub ends : (n id : ℕ) (ps : List Part) (ws : List ℕ) (xs : List (Option B)) → length ps ≡ n → Final (Seen (LockRule sight n) id (outside ps)) ws xs
      → (b : B) × (get_elem? xs 0 ≡ some (Some b)) × Each (λ p. AreInAgreement p.site (sight b) p.seen) ps
  ends n id ps ws xs all f =
      let s : S = f.0 in
      let r : LockRule sight n s = f.1.0 in
      let at = f.1.1 in
      let v = outside ps in
      let mine = r.each_seat id v at in
      let nobody : (j : ℕ) (u : View) → get_elem? s.views j ≡ some u → u.reached ≡ true → ⊥ = λ j u e is. dite (ℕ_discrete id j)
      (λ same. off (ap (λ (z : View). z.reached) (same_at s.views id j v u at e same) ∙ is))
      (λ ne.
      let g = r.each_seat j u e in
      let q = g.queued r.served (g.turn is).0 in
      let more = q.3 in
      let two = total_two share s.views id j v u ne at e in
      let sum = r.shared in
      absurd (omega arith)) in
      let h = home r.out s.homes s.views r.now r.placed nobody in
      (h.0, f.4 0 (Some h.0) h.1, each_map (λ (p : Part). (r.owner p.site ≡ id) × AreInAgreement p.site r.now p.seen) (λ (p : Part). AreInAgreement p.site (sight h.0) p.seen) (λ (p : Part) a. subst (λ (z : Sight). AreInAgreement p.site z p.seen) (sym h.2) a.1) ps mine.each_part)

  pub passes_as : (slots n id : ℕ) (m : Me (Option B) View) (p : Part) (t : ℕ) (b : B) → slots ≡ 1 → IsLawfulChange p.site p.seen (sight b) → m ≡ (view (p ∷ []) (Some t) true, (0, Some b) ∷ [])
      → Allows (LockRule sight n) slots id m 1 (λ y. (y + 1) % 2 ^ 64) (PassStep sight (step slots 1 1 0 none) m)
  passes_as slots n id m p t b one moves e = subst (λ (k : ℕ). Allows (LockRule sight n) k id m 1 (λ y. (y + 1) % 2 ^ 64) (PassStep sight (step k 1 1 0 none) m)) (sym one)
      (subst (λ (x : Me (Option B) View). Allows (LockRule sight n) 1 id x 1 (λ y. (y + 1) % 2 ^ 64) (PassStep sight (step 1 1 1 0 none) x)) (sym e) (passes n id p.site p.seen t b moves))

  -- what a look tells a seat that waits
  pub took : (m m' : Me (Option B) View) (n ticket : ℕ) (w : HasTicket ticket m) → n ≡ ticket → LookStep sight (step 1 1 0 0 none) m n m'
      → (b : B) × AreInAgreement (my_part m).site (sight b) (my_part m).seen × (m' ≡ (view (part (my_part m).site (sight b) ∷ []) (Some w.0) true, (0, Some b) ∷ []))
  took m m' n ticket w same l =
      let has : m.0.ticket ≡ Some w.0 = ap (λ (x : Me (Option B) View). x.0.ticket) w.2 in
      let free : m.1 ≡ [] = ap (λ (x : Me (Option B) View). x.1) w.2 in
      let h = l.0 (same ∙ (w.1 ∙ ap (λ o. ticket_of o % 2 ^ 64) (sym has))) in
      (h.0, h.1, h.2 ∙ (λ i. (view (part (my_part m).site (sight h.0) ∷ []) (has i) true, (0, Some h.0) ∷ free i)))

  pub missed : (m m' : Me (Option B) View) (n ticket : ℕ) (w : HasTicket ticket m) → n ≢ ticket → LookStep sight (step 1 1 0 0 none) m n m' → m' ≡ m
  missed m m' n ticket w other l =
      let has : m.0.ticket ≡ Some w.0 = ap (λ (x : Me (Option B) View). x.0.ticket) w.2 in
      l.1 (λ e. other (e ∙ (ap (λ o. ticket_of o % 2 ^ 64) has ∙ sym w.1)))
