-- Units of one thread in a stretch are units in order, and get their bundles at its end.
use Rattle.std.proofs.Common.{arith, ◌≡◌, ◌≢◌, ◌∙◌, ◌⊎◌, sym, ap, refl, subst, ℕ, zero, suc, length, List, [], ◌∷◌, ◌++◌, inl, inr, Bool, true, false, cond, Some}
use Rattle.std.specs.Prelude.{Option, ◌↔◌, ◌+◌, ◌≤◌, Contains, not}
use Rattle.tree_node.specs.declared.names.ThreadName.{ThreadName}
use Rattle.tree_node.specs.Each.{Each}
use Rattle.tree_store.specs.Forest.{IsForest}
use Rattle.kernel_syntax.specs.declared.stmt.Stmt.{Stmt}
use Rattle.site_message.specs.declared.message.Sent.{Sent}
use Rattle.site_message.specs.Units.{in_a_row}
use Rattle.thread_roster.specs.Threads.{IsRunnable, IsOrderOf}
use Rattle.thread_roster.specs.Order.{without_name, MayHaveLeft}
use Rattle.thread_roster.proofs.BehindLemmas.{behind_same, has_left}
use Rattle.site_model.specs.Site.{Site}
use Rattle.site_model.specs.Bundle.{bundle_limit, with_own_bundles}
use Rattle.site_model.specs.Transition.{Transition, without_output, sequence}
use Rattle.site_model.specs.Unit.{IsUnit}
use Rattle.site_model.specs.Laws.{UnitsFillLast, with_bundles}
use Rattle.site_units.specs.declared.data.Core.{Core}
use Rattle.site_units.specs.declared.data.Output.{Output}
use Rattle.site_units.specs.declared.turn.LastUnits.{LastUnits}
use Rattle.site_units.specs.Core.{site_of}
use Rattle.site_units.specs.LastUnits.{thread_in, threads_of}
use Rattle.site_units.specs.Order.{IsUnitOfFirst, last_of}
use Rattle.site_units.specs.Stretches.{IsQuietUnit, AreQuietUnits, AreUnitsBy}
use Rattle.site_units.specs.Units.{IsUnitPacked}
use Rattle.site_units.specs.Turns.{AreUnitsInOrder, ArePackedUnitsOf}
use Rattle.site_units.proofs.SiteLemmas.{nil_right, joined}
use Rattle.site_units.proofs.OrderLemmas.{order_seen, last_end}
use Rattle.site_units.proofs.TurnLemmas.{UnitsSoFar, ToldSoFar, sequence_joined, sequence_nothing, row_joined, reached_more}
use Rattle.site_units.proofs.OneUnitLemmas.{unit_is_one}
use Rattle.tree_node.specs.State.{equal_thread}
use Rattle.tree_node.proofs.NameLemmas.{same_thread_decides}
use Rattle.tree_node.proofs.ClassLemmas.{Contains-cons_cases, Contains-head, Contains-tail}
use Rattle.thread_roster.proofs.NameLemmas.{is_same, name_cases}

-- ---- rows of names

not_in : (xs : List ThreadName) (x : ThreadName) → Each (λ (y : ThreadName). x ≡ y → ⊥) xs → Contains xs x → ⊥
not_in [] x h (i, below, is) = absurd (omega (arith, below))
not_in (y ∷ ys) x h c = go (Contains-cons_cases y x ys c) (not_in ys x h.1)
  where
    go : (y ≡ x) ⊎ Contains ys x → (Contains ys x → ⊥) → ⊥
    go (inl e) later = h.0 (sym e)
    go (inr there) later = later there

all_apart : (xs : List ThreadName) (x : ThreadName) → (Contains xs x → ⊥) → Each (λ (y : ThreadName). x ≡ y → ⊥) xs
all_apart [] x h = tt
all_apart (y ∷ ys) x h = (λ e. h (subst (λ (z : ThreadName). Contains (y ∷ ys) z) (sym e) (Contains-head y ys)), all_apart ys x (λ c. h (Contains-tail y x ys c)))

name_gone : (n : ThreadName) (xs : List ThreadName) → (Contains xs n → ⊥) → without_name n xs ≡ xs
name_gone n [] h = refl
name_gone n (x ∷ xs) h = go (equal_thread x n) refl (name_gone n xs (λ c. h (Contains-tail x n xs c)))
  where
    go : (b : Bool) → equal_thread x n ≡ b → without_name n xs ≡ xs → cond (not b) (x ∷ without_name n xs) (without_name n xs) ≡ x ∷ xs
    go true e ih = absurd (h (subst (λ (y : ThreadName). Contains (x ∷ xs) y) ((same_thread_decides x n).0 e) (Contains-head x xs)))
    go false e ih = ap (λ (l : List ThreadName). x ∷ l) ih

first_gone : (n : ThreadName) (xs : List ThreadName) → (Contains xs n → ⊥) → without_name n (n ∷ xs) ≡ xs
first_gone n xs h = ap (λ (b : Bool). cond (not b) (n ∷ without_name n xs) (without_name n xs)) (is_same n n refl) ∙ name_gone n xs h

-- ---- who can go on

-- the same threads but this one can go on
abbrev OthersStay : ThreadName → Site → Site → Type 0
OthersStay th s t = (m : ThreadName) → m ≢ th → IsRunnable t.threads m ↔ IsRunnable s.threads m

others_then : (th : ThreadName) (s t u : Site) → OthersStay th s t → OthersStay th t u → OthersStay th s u
others_then th s t u a b m apart = (λ k. (a m apart).0 ((b m apart).0 k), λ k. (b m apart).1 ((a m apart).1 k))

others_back : (th : ThreadName) (s t : Site) → OthersStay th s t → OthersStay th t s
others_back th s t a m apart = ((a m apart).1, (a m apart).0)

quiet_others : (p : List Stmt) (n limit m : ℕ) (th : ThreadName) (s : Site) (d : Transition) → AreQuietUnits p n limit m th s d → OthersStay th s d.site
quiet_others p n limit zero th s d is = subst (λ (z : Transition). OthersStay th s z.site) (sym is) (λ m apart. (λ k. k, λ k. k))
quiet_others p n limit (suc m) th s d (one, rest, quiet, then, is) =
    subst (λ (z : Transition). OthersStay th s z.site) (sym is) (others_then th s one.site rest.site quiet.runs (quiet_others p n limit m th one.site rest then))

quiet_runs : (p : List Stmt) (n limit m : ℕ) (th : ThreadName) (s : Site) (d : Transition) → AreQuietUnits p n limit m th s d → IsRunnable d.site.threads th → IsRunnable s.threads th
quiet_runs p n limit zero th s d is h = subst (λ (z : Transition). IsRunnable z.site.threads th) is h
quiet_runs p n limit (suc m) th s d (one, rest, quiet, then, is) h = (quiet.unit.0, quiet.unit.1)

-- the first can go on there as well, and the same others
order_like : (th : ThreadName) (s t : Site) (rest : List ThreadName) → OthersStay th s t → IsRunnable t.threads th → IsOrderOf s.threads (th ∷ rest) → IsOrderOf t.threads (th ∷ rest)
order_like th s t rest stay runs (all, once) = (λ m. (to m, back m), once)
  where
    to : (m : ThreadName) → Contains (th ∷ rest) m → IsRunnable t.threads m
    to m c = go (name_cases m th)
      where
        go : (m ≡ th) ⊎ (m ≢ th) → IsRunnable t.threads m
        go (inl e) = subst (λ (k : ThreadName). IsRunnable t.threads k) (sym e) runs
        go (inr apart) = (stay m apart).1 ((all m).0 c)

    back : (m : ThreadName) → IsRunnable t.threads m → Contains (th ∷ rest) m
    back m k = go (name_cases m th)
      where
        go : (m ≡ th) ⊎ (m ≢ th) → Contains (th ∷ rest) m
        go (inl e) = subst (λ (j : ThreadName). Contains (th ∷ rest) j) (sym e) (Contains-head th rest)
        go (inr apart) = (all m).1 ((stay m apart).0 k)

-- the first left then
order_before : (th : ThreadName) (s t : Site) (new : List ThreadName) → OthersStay th s t → IsRunnable s.threads th → (Contains new th → ⊥) → IsOrderOf t.threads new → IsOrderOf s.threads (th ∷ new)
order_before th s t new stay runs gone (all, once) = (λ m. (to m, back m), (all_apart new th gone, once))
  where
    to : (m : ThreadName) → Contains (th ∷ new) m → IsRunnable s.threads m
    to m c = go (Contains-cons_cases th m new c)
      where
        other : Contains new m → (m ≡ th) ⊎ (m ≢ th) → IsRunnable s.threads m
        other there (inl e) = subst (λ (k : ThreadName). IsRunnable s.threads k) (sym e) runs
        other there (inr apart) = (stay m apart).0 ((all m).0 there)

        go : (th ≡ m) ⊎ Contains new m → IsRunnable s.threads m
        go (inl e) = subst (λ (k : ThreadName). IsRunnable s.threads k) e runs
        go (inr there) = other there (name_cases m th)

    back : (m : ThreadName) → IsRunnable s.threads m → Contains (th ∷ new) m
    back m k = go (name_cases m th)
      where
        go : (m ≡ th) ⊎ (m ≢ th) → Contains (th ∷ new) m
        go (inl e) = subst (λ (j : ThreadName). Contains (th ∷ new) j) (sym e) (Contains-head th new)
        go (inr apart) = Contains-tail th m new ((all m).1 ((stay m apart).1 k))

-- ---- in order

quiet_in_order : (p : List Stmt) (n m : ℕ) (th : ThreadName) (s : Site) (rest : List ThreadName) (d : Transition) → (Contains rest th → ⊥) → IsOrderOf s.threads (th ∷ rest) → IsRunnable d.site.threads th → AreQuietUnits p n bundle_limit m th s d →
    AreUnitsInOrder p n (in_a_row m th) s (th ∷ rest) d (th ∷ rest)
quiet_in_order p n zero th s rest d once stands runs is = (is, refl, stands)
quiet_in_order p n (suc m) th s rest d once stands runs (one, more, quiet, then, is) =
    let later : IsRunnable more.site.threads th = subst (λ (z : Transition). IsRunnable z.site.threads th) is runs in (
      one,
      more,
      th ∷ rest,
      stands,
      (quiet.unit, λ f u. unit_is_one p n bundle_limit th s f one quiet.forest u quiet.unit),
      (rest, refl, once, inl (behind_same (th ∷ rest) (th ∷ rest) refl)),
      quiet_in_order p n m th one.site rest more once (order_like th s one.site rest quiet.runs (quiet_runs p n bundle_limit m th one.site more then later) stands) later then,
      is,
    )

-- the thread leaves with the last of them
leaving_in_order : (p : List Stmt) (n m : ℕ) (th : ThreadName) (s : Site) (new : List ThreadName) (d : Transition) → (Contains new th → ⊥) → IsOrderOf s.threads (th ∷ new) → IsOrderOf d.site.threads new → AreQuietUnits p n bundle_limit (suc m) th s d →
    AreUnitsInOrder p n (in_a_row (suc m) th) s (th ∷ new) d new
leaving_in_order p n zero th s new d gone stands ready (one, more, quiet, then, is) =
    let last : IsOrderOf more.site.threads new = subst (λ (z : Transition). IsOrderOf z.site.threads new) is ready in (
      one,
      more,
      new,
      stands,
      (quiet.unit, λ f u. unit_is_one p n bundle_limit th s f one quiet.forest u quiet.unit),
      (new, refl, gone, has_left th (th ∷ new) new (sym (first_gone th new gone))),
      (then, refl, subst (λ (z : Transition). IsOrderOf z.site.threads new) then last),
      is,
    )
leaving_in_order p n (suc m) th s new d gone stands ready (one, more, quiet, then, is) =
    let last : IsOrderOf more.site.threads new = subst (λ (z : Transition). IsOrderOf z.site.threads new) is ready in
    let next : IsRunnable one.site.threads th = (then.2.unit.0, then.2.unit.1) in (
      one,
      more,
      th ∷ new,
      stands,
      (quiet.unit, λ f u. unit_is_one p n bundle_limit th s f one quiet.forest u quiet.unit),
      (new, refl, gone, inl (behind_same (th ∷ new) (th ∷ new) refl)),
      leaving_in_order p n m th one.site new more gone (order_like th s one.site new quiet.runs next stands) last then,
      is,
    )

in_order_joined : (p : List Stmt) (n : ℕ) (ths us : List ThreadName) (s : Site) (old mid new : List ThreadName) (d e : Transition) → AreUnitsInOrder p n ths s old d mid → AreUnitsInOrder p n us d.site mid e new → AreUnitsInOrder p n (ths ++ us) s old (sequence d e) new
in_order_joined p n [] us s old mid new d e (is, same, stands) h =
    subst (λ (z : Transition). AreUnitsInOrder p n us s old z new) (sym (ap (λ (z : Transition). sequence z e) is))
    (subst (λ (o : List ThreadName). AreUnitsInOrder p n us s o e new) same (subst (λ (z : Transition). AreUnitsInOrder p n us z.site mid e new) is h))
in_order_joined p n (th ∷ ths) us s old mid new d e (one, rest, now, stands, unit, first, then, is) h = (
  one,
  sequence rest e,
  now,
  stands,
  unit,
  first,
  in_order_joined p n ths us one.site now mid new rest e then (subst (λ (z : Transition). AreUnitsInOrder p n us z.site mid e new) is h),
  ap (λ (z : Transition). sequence z e) is ∙ sequence_joined one rest e,
)

module _ (p : List Stmt) (n count : ℕ) (th : ThreadName) (s : Site) (rest new : List ThreadName) (d : Transition) (h : AreUnitsBy p n bundle_limit count th s d) (stands : IsOrderOf s.threads (th ∷ rest)) (once : Contains rest th → ⊥) (ready : IsOrderOf d.site.threads new) where
  goes : IsRunnable h.before.site.threads th
  goes = (h.unit.0, h.unit.1)

  stands_there : IsOrderOf h.before.site.threads (th ∷ rest)
  stands_there = order_like th s h.before.site rest (quiet_others p n bundle_limit h.front th s h.before h.quiet) goes stands

  last_order : IsOrderOf h.after.site.threads new
  last_order = subst (λ (z : Transition). IsOrderOf z.site.threads new) h.is ready

  one_only : (f : Transition) → IsUnit p n bundle_limit th h.before.site f → f ≡ h.one
  one_only f u = unit_is_one p n bundle_limit th h.before.site f h.one h.forest u h.unit

  -- from the one on that may change the order
  loud : (back : ℕ) → AreQuietUnits p n bundle_limit back th h.one.site h.after → MayHaveLeft th (th ∷ rest) new → AreUnitsInOrder p n (th ∷ in_a_row back th) h.before.site (th ∷ rest) (sequence h.one h.after) new
  loud back still (inl (behind, came)) =
      let stays : IsOrderOf h.after.site.threads (th ∷ (rest ++ behind)) = subst (IsOrderOf h.after.site.threads) came last_order in
      let runs : IsRunnable h.after.site.threads th = (stays.0 th).0 (Contains-head th (rest ++ behind)) in
      let first : IsOrderOf h.one.site.threads (th ∷ (rest ++ behind)) =
      order_like th h.after.site h.one.site (rest ++ behind) (others_back th h.one.site h.after.site (quiet_others p n bundle_limit back th h.one.site h.after still)) (quiet_runs p n bundle_limit back th h.one.site h.after still runs) stays in
      subst (λ (l : List ThreadName). AreUnitsInOrder p n (th ∷ in_a_row back th) h.before.site (th ∷ rest) (sequence h.one h.after) l) (sym came) (
        h.one,
        h.after,
        th ∷ (rest ++ behind),
        stands_there,
        (h.unit, one_only),
        (rest, refl, once, inl (behind, refl)),
        quiet_in_order p n back th h.one.site (rest ++ behind) h.after (not_in (rest ++ behind) th stays.1.0) first runs still,
        refl,
      )
  loud zero still (inr (came, gone)) =
      (h.one, h.after, new, stands_there, (h.unit, one_only), (rest, refl, once, inr (came, gone)), (still, refl, subst (λ (z : Transition). IsOrderOf z.site.threads new) still last_order), refl)
  loud (suc back) still (inr ((behind, came), gone)) =
      let more : new ≡ rest ++ behind = came ∙ ap (λ (l : List ThreadName). l ++ behind) (first_gone th rest once) in
      let first : IsOrderOf h.one.site.threads (th ∷ new) =
      order_before th h.one.site h.after.site new (quiet_others p n bundle_limit (suc back) th h.one.site h.after still) (still.2.unit.0, still.2.unit.1) gone last_order in (
        h.one,
        h.after,
        th ∷ new,
        stands_there,
        (h.unit, one_only),
        (rest, refl, once, inl (behind, ap (λ (l : List ThreadName). th ∷ l) more)),
        leaving_in_order p n back th h.one.site new h.after gone first last_order still,
        refl,
      )

  by_first : MayHaveLeft th (th ∷ rest) new → AreUnitsInOrder p n (in_a_row count th) s (th ∷ rest) d new
  by_first left =
      subst (λ (z : Transition). AreUnitsInOrder p n (in_a_row count th) s (th ∷ rest) z new) (sym h.is)
      (subst (λ (ths : List ThreadName). AreUnitsInOrder p n ths s (th ∷ rest) (sequence h.before (sequence h.one h.after)) new) (sym (ap (λ (k : ℕ). in_a_row k th) h.many ∙ row_joined h.front (suc h.back) th))
      (in_order_joined p n (in_a_row h.front th) (th ∷ in_a_row h.back th) s (th ∷ rest) (th ∷ rest) new h.before (sequence h.one h.after) (quiet_in_order p n h.front th s rest h.before once stands goes h.quiet) (loud h.back h.still left)))

pub units_in_order : (p : List Stmt) (n count : ℕ) (th : ThreadName) (s : Site) (old new : List ThreadName) (d : Transition) → AreUnitsBy p n bundle_limit count th s d → IsOrderOf s.threads old → IsUnitOfFirst th old new → IsOrderOf d.site.threads new →
    AreUnitsInOrder p n (in_a_row count th) s old d new
units_in_order p n count th s old new d h stands (rest, e, once, left) ready =
    subst (λ (l : List ThreadName). AreUnitsInOrder p n (in_a_row count th) s l d new) (sym e)
    (by_first p n count th s rest new d h (subst (IsOrderOf s.threads) e stands) once ready (subst (λ (l : List ThreadName). MayHaveLeft th l new) e left))

-- ---- bundles

filled_nothing : (limit : ℕ) (d : Transition) → d.sent ≡ [] → with_bundles limit d ≡ d
filled_nothing limit d e = ap (λ (ms : List Sent). record d { sent = ms }) (ap (with_own_bundles limit d.site.equations) e ∙ sym e)

quiet_silent : (p : List Stmt) (n limit m : ℕ) (th : ThreadName) (s : Site) (d : Transition) → AreQuietUnits p n limit m th s d → d.sent ≡ []
quiet_silent p n limit zero th s d is = ap (λ (z : Transition). z.sent) is
quiet_silent p n limit (suc m) th s d (one, rest, quiet, then, is) =
    ap (λ (z : Transition). z.sent) is ∙ (ap (λ (ms : List Sent). ms ++ rest.sent) quiet.silent ∙ quiet_silent p n limit m th one.site rest then)

quiet_filled : UnitsFillLast → (p : List Stmt) (n limit m : ℕ) (th : ThreadName) (s : Site) (d : Transition) → AreQuietUnits p n 0 m th s d → AreQuietUnits p n limit m th s d
quiet_filled law p n limit zero th s d is = is
quiet_filled law p n limit (suc m) th s d (one, rest, quiet, then, is) = (
  one,
  rest,
  record { forest = quiet.forest; unit = subst (λ (z : Transition). IsUnit p n limit th s z) (filled_nothing limit one quiet.silent) (law p n limit th s one quiet.unit); silent = quiet.silent; runs = quiet.runs },
  quiet_filled law p n limit m th one.site rest then,
  is,
)

pub units_filled : UnitsFillLast → (p : List Stmt) (n limit count : ℕ) (th : ThreadName) (s : Site) (d : Transition) → AreUnitsBy p n 0 count th s d → AreUnitsBy p n limit count th s (with_bundles limit d)
units_filled law p n limit count th s d h = record {
  front = h.front;
  back = h.back;
  before = h.before;
  one = with_bundles limit h.one;
  after = h.after;
  many = h.many;
  quiet = quiet_filled law p n limit h.front th s h.before h.quiet;
  forest = h.forest;
  unit = law p n limit th h.before.site h.one h.unit;
  still = quiet_filled law p n limit h.back th h.one.site h.after h.still;
  same = h.same;
  is = ap (with_bundles limit) h.is ∙ ap (λ (ms : List Sent). record (sequence h.before (sequence h.one h.after)) { sent = ms }) sents;
}
  where
    sents : with_own_bundles limit h.after.site.equations (h.before.sent ++ (h.one.sent ++ h.after.sent)) ≡ h.before.sent ++ (with_own_bundles limit h.one.site.equations h.one.sent ++ h.after.sent)
    sents = rw (quiet_silent p n 0 h.front th s h.before h.quiet, quiet_silent p n 0 h.back th h.one.site h.after h.still, h.same, nil_right h.one.sent, nil_right (with_own_bundles limit h.one.site.equations h.one.sent)) refl

-- ---- one part after another

pub quiet_joined : (p : List Stmt) (n limit k m : ℕ) (th : ThreadName) (s : Site) (a b : Transition) → AreQuietUnits p n limit k th s a → AreQuietUnits p n limit m th a.site b → AreQuietUnits p n limit (k + m) th s (sequence a b)
quiet_joined p n limit zero m th s a b is h =
    let none : zero + m ≡ m = omega arith in
    subst (λ (j : ℕ). AreQuietUnits p n limit j th s (sequence a b)) (sym none)
    (subst (λ (z : Transition). AreQuietUnits p n limit m th s z) (sym (ap (λ (z : Transition). sequence z b) is)) (subst (λ (z : Transition). AreQuietUnits p n limit m th z.site b) is h))
quiet_joined p n limit (suc k) m th s a b (one, rest, quiet, then, is) h =
    let more : suc k + m ≡ suc (k + m) = omega arith in
    subst (λ (j : ℕ). AreQuietUnits p n limit j th s (sequence a b)) (sym more)
    (one, sequence rest b, quiet, quiet_joined p n limit k m th one.site rest b then (subst (λ (z : Transition). AreQuietUnits p n limit m th z.site b) is h), ap (λ (z : Transition). sequence z b) is ∙ sequence_joined one rest b)

-- quiet ones come before others
pub quiet_then : (p : List Stmt) (n limit k count : ℕ) (th : ThreadName) (s : Site) (a b : Transition) → AreQuietUnits p n limit k th s a → AreUnitsBy p n limit count th a.site b → AreUnitsBy p n limit (k + count) th s (sequence a b)
quiet_then p n limit k count th s a b quiet h = record {
  front = k + h.front;
  back = h.back;
  before = sequence a h.before;
  one = h.one;
  after = h.after;
  many = let e : count ≡ h.front + suc h.back = h.many in omega arith;
  quiet = quiet_joined p n limit k h.front th s a h.before quiet h.quiet;
  forest = h.forest;
  unit = h.unit;
  still = h.still;
  same = h.same;
  is = ap (sequence a) h.is ∙ sym (sequence_joined a h.before (sequence h.one h.after));
}

pub quiet_one : (p : List Stmt) (n limit : ℕ) (th : ThreadName) (s : Site) (one : Transition) → IsQuietUnit p n limit th s one → AreQuietUnits p n limit 1 th s one
quiet_one p n limit th s one h = (one, without_output one.site, h, refl, sequence_nothing one)

-- the last of them may be any
pub quiet_are : (p : List Stmt) (n limit m : ℕ) (th : ThreadName) (s : Site) (d : Transition) → AreQuietUnits p n limit (suc m) th s d → AreUnitsBy p n limit (suc m) th s d
quiet_are p n limit zero th s d (one, rest, quiet, then, is) = record {
  front = 0;
  back = 0;
  before = without_output s;
  one = one;
  after = rest;
  many = refl;
  quiet = refl;
  forest = quiet.forest;
  unit = quiet.unit;
  still = then;
  same = ap (λ (z : Transition). z.site.equations) then;
  is = is;
}
quiet_are p n limit (suc m) th s d (one, rest, quiet, then, is) =
    let count : 1 + suc m ≡ suc (suc m) = omega arith in
    subst (λ (z : Transition). AreUnitsBy p n limit (suc (suc m)) th s z) (sym is)
    (subst (λ (k : ℕ). AreUnitsBy p n limit k th s (sequence one rest)) count (quiet_then p n limit 1 (suc m) th s one rest (quiet_one p n limit th s one quiet) (quiet_are p n limit m th one.site rest then)))

-- a unit alone
pub unit_are : (p : List Stmt) (n limit : ℕ) (th : ThreadName) (s : Site) (d : Transition) → IsForest s.equations → IsUnit p n limit th s d → AreUnitsBy p n limit 1 th s d
unit_are p n limit th s d forest unit = record {
  front = 0;
  back = 0;
  before = without_output s;
  one = d;
  after = without_output d.site;
  many = refl;
  quiet = refl;
  forest = forest;
  unit = unit;
  still = refl;
  same = refl;
  is = sequence_nothing d;
}

-- ---- so many units more of a turn

-- whoever can go on stands in the order behind the last of them
order_at_end : (p : List Stmt) (n : ℕ) (ths : List ThreadName) (s : Site) (old new : List ThreadName) (d : Transition) → AreUnitsInOrder p n ths s old d new → IsOrderOf d.site.threads new
order_at_end p n [] s old new d (is, same, stands) = subst (λ (z : Transition). IsOrderOf z.site.threads new) (sym is) (subst (IsOrderOf s.threads) (sym same) stands)
order_at_end p n (th ∷ ths) s old new d (one, rest, now, stands, unit, first, then, is) = subst (λ (z : Transition). IsOrderOf z.site.threads new) (sym is) (order_at_end p n ths one.site now new rest then)

length_row : (ns : List ThreadName) (k : ℕ) (th : ThreadName) → length (ns ++ in_a_row k th) ≡ length ns + k
length_row [] zero th = refl
length_row [] (suc k) th = let e : length ([] ++ in_a_row k th) ≡ length {A = ThreadName} [] + k = length_row [] k th in omega arith
length_row (n ∷ ns) k th = let e : length (ns ++ in_a_row k th) ≡ length ns + k = length_row ns k th in omega arith

last_row : (ns : List ThreadName) (k : ℕ) (th : ThreadName) → last_of (ns ++ in_a_row (suc k) th) ≡ Some th
last_row ns zero th = last_end ns th
last_row ns (suc k) th = ap last_of (sym (joined ns (th ∷ []) (in_a_row (suc k) th))) ∙ last_row (ns ++ th ∷ []) k th

last_of_some : (ns : List ThreadName) (count front back : ℕ) (th : ThreadName) → count ≡ front + suc back → last_of (ns ++ in_a_row count th) ≡ Some th
last_of_some ns count front back th e = let f : count ≡ suc (front + back) = omega arith in ap (λ (k : ℕ). last_of (ns ++ in_a_row k th)) f ∙ last_row ns (front + back) th

many_more : (p : List Stmt) (count k : ℕ) (last next : Option ThreadName) (c0 c1 c2 : Core) (o0 o1 o2 : Output) (th : ThreadName) → UnitsSoFar p count last c0 o0 c1 o1 → ArePackedUnitsOf p k th c1 o1 c2 o2 → IsUnitOfFirst th c1.threads.order c2.threads.order →
    IsOrderOf c2.threads.living c2.threads.order → c2.steps ≤ c1.steps + k → next ≡ Some th → UnitsSoFar p (count + k) next c0 o0 c2 o2
many_more p count k last next c0 c1 c2 o0 o1 o2 th h (some, units, reached) first ready more is = record {
  ths = h.ths ++ in_a_row k th;
  d = sequence h.d some;
  units = in_order_joined p c0.sites h.ths (in_a_row k th) (site_of c0) c0.threads.order c1.threads.order c2.threads.order h.d some h.units (units_in_order p c0.sites k th h.d.site c1.threads.order c2.threads.order some here stands first then);
  reached = reached_more p h.d some c0 c1 c2 o0 o1 o2 h.reached reached;
  as_many = let e : length (h.ths ++ in_a_row k th) ≡ length h.ths + k = length_row h.ths k th in let f : length h.ths ≡ count = h.as_many in omega arith;
  ends = last_of_some h.ths k units.front units.back th units.many ∙ sym is;
  steps = let f : c1.steps ≤ c0.steps + count = h.steps in omega arith;
}
  where
    here : AreUnitsBy p c0.sites bundle_limit k th h.d.site some
    here = subst (λ (s : Site). AreUnitsBy p c0.sites bundle_limit k th s some) h.reached.site (subst (λ (n : ℕ). AreUnitsBy p n bundle_limit k th (site_of c1) some) h.reached.sites units)

    stands : IsOrderOf h.d.site.threads c1.threads.order
    stands = order_at_end p c0.sites h.ths (site_of c0) c0.threads.order c1.threads.order h.d h.units

    then : IsOrderOf some.site.threads c2.threads.order
    then = subst (λ (s : Site). IsOrderOf s.threads c2.threads.order) reached.site (order_seen c2.threads.living c2.threads.order ready)

-- and their threads are told
pub many_told : (p : List Stmt) (count k : ℕ) (last next : LastUnits) (t0 t1 t2 : List ThreadName) (c0 c1 c2 : Core) (o0 o1 o2 : Output) (th : ThreadName) → ToldSoFar p count last t0 t1 c0 o0 c1 o1 → ArePackedUnitsOf p k th c1 o1 c2 o2 → IsUnitOfFirst th c1.threads.order c2.threads.order →
    IsOrderOf c2.threads.living c2.threads.order → c2.steps ≤ c1.steps + k → thread_in next ≡ Some th → next.count ≤ last.count + k → t2 ++ threads_of next ≡ (t1 ++ threads_of last) ++ in_a_row k th → ToldSoFar p (count + k) next t0 t2 c0 o0 c2 o2
unfolding many_more
many_told p count k last next t0 t1 t2 c0 c1 c2 o0 o1 o2 th h units first ready more is most told = record {
  made = many_more p count k (thread_in last) (thread_in next) c0 c1 c2 o0 o1 o2 th h.made units first ready more is;
  told = told ∙ (ap (λ (ths : List ThreadName). ths ++ in_a_row k th) h.told ∙ joined t0 h.made.ths (in_a_row k th));
  few = let f : last.count ≤ count = h.few in omega arith;
}

-- ---- one unit

single : (p : List Stmt) (n limit front back : ℕ) (th : ThreadName) (s : Site) (before one after d : Transition) → front + suc back ≡ 1 → AreQuietUnits p n limit front th s before → IsUnit p n limit th before.site one → AreQuietUnits p n limit back th one.site after →
    d ≡ sequence before (sequence one after) → IsUnit p n limit th s d
single p n limit zero zero th s before one after d e quiet unit still is =
    subst (IsUnit p n limit th s) (sym (is ∙ (ap (λ (z : Transition). sequence z (sequence one after)) quiet ∙ (ap (λ (z : Transition). sequence one z) still ∙ sym (sequence_nothing one)))))
    (subst (λ (z : Transition). IsUnit p n limit th z.site one) quiet unit)
single p n limit zero (suc back) th s before one after d e quiet unit still is = absurd (omega arith)
single p n limit (suc front) back th s before one after d e quiet unit still is = absurd (omega arith)

pub one_packed_unit : (p : List Stmt) (count : ℕ) (th : ThreadName) (c0 c1 : Core) (o0 o1 : Output) → count ≡ 1 → ArePackedUnitsOf p count th c0 o0 c1 o1 → IsUnitPacked p th c0 o0 c1 o1
one_packed_unit p count th c0 c1 o0 o1 e (d, units, reached) =
    (d, single p c0.sites bundle_limit units.front units.back th (site_of c0) units.before units.one units.after d (sym units.many ∙ e) units.quiet units.unit units.still units.is, reached)
