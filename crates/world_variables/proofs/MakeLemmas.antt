-- Names that a site makes.
use Rattle.std.proofs.Common.{rules, arith, ◌≡◌, ◌∙◌, sym, ap, refl, subst, ℕ, ◌≤◌, List, [], ◌∷◌, ◌⊎◌, inl, inr, Some, None}
use Rattle.std.specs.Prelude.{Option, Contains, ◌≢◌, ◌↔◌, is_some, IsTrue}
use Rattle.tree_node.specs.declared.names.VarName.{VarName}
use Rattle.tree_node.specs.declared.names.Name.{Name}
use Rattle.tree_node.specs.declared.names.Name.TheVariants as name
use Rattle.tree_node.specs.declared.names.NameKind.{NameKind}
use Rattle.tree_node.specs.declared.names.NameKind.TheVariants as kind
use Rattle.tree_node.specs.declared.node.Term.{Term}
use Rattle.tree_node.specs.Each.{Each, AreDistinct}
use Rattle.tree_node.specs.Order.{site_of}
use Rattle.tree_node.specs.State.{State}
use Rattle.tree_node.specs.Store.{Store}
use Rattle.kernel_syntax.specs.declared.stmt.Stmt.{Stmt}
use Rattle.site_message.specs.declared.message.Msg.{Msg}
use Rattle.site_message.specs.declared.message.Msg.TheVariants as msg
use Rattle.oz_model.specs.Effect.{vars_among}
use Rattle.oz_model.specs.Step.{AreFresh}
use Rattle.oz_model.proofs.NameLemmas.{Each-weaker, EachName-weaker, EachOfTerm-weaker, EachOfEquation-weaker}
use Rattle.variable_owner.specs.declared.owners.Owner.{Owner}
use Rattle.variable_owner.specs.declared.owners.Owner.TheVariants.{Open}
use Rattle.variable_owner.specs.Owners.{sites_of}
use Rattle.bind_protocol.specs.Records.{Records, knowledge, IsKnown, sites_in}
use Rattle.bind_protocol.specs.Rows.{after_make}
use Rattle.bind_protocol.proofs.LookLemmas.{in_other}
use Rattle.site_model.specs.Site.{Threads, Counters}
use Rattle.site_model.specs.Variables.{after_makes}
use Rattle.site_model.specs.Fit.{IsBelowCounter, EachOfMsg}
use Rattle.site_model.specs.Unit.{next_name, counter_after, next_names, counters_after}
use Rattle.world_model.specs.World.{Mail, at_put}
use Rattle.world_model.specs.Names.{IsMade, IsCentreMade}
use Rattle.world_model.specs.Matches.{PartsMatch}
use Rattle.world_model.proofs.PutLemmas.{at_all, at_here, at_own, at_twice, two_all}
use Rattle.world_variables.proofs.RecordLemmas.{registered_open}
use Rattle.world_variables.proofs.AlikeLemmas.{Wider, kept_wider, addressed_wider, told_wider, waiting_wider}
use Rattle.world_variables.proofs.MeetLemmas.{learns_wider}
use Rattle.bind_protocol.proofs.RowCountLemmas.{name_cases}
use Rattle.bind_protocol.proofs.LearnLemmas.{make_learns}
use Rattle.bind_protocol.specs.Learn.{HasLearned}
use Rattle.site_model.proofs.FilledLemmas.{next_kinds}

var_is : (y : VarName) (a b : ℕ) → y.site ≡ a → y.num ≡ b → y ≡ record { site = a; num = b }
var_is y a b p q = rw (← p, ← q) refl

-- ---- counters

-- the counter for the kind is not above the name
abbrev pub IsUncounted : Counters → Name → Type 0
IsUncounted c (name.Var x) = c.vars ≤ x.num
IsUncounted c (name.Cell x) = c.cells ≤ x.num
IsUncounted c (name.Proc x) = c.procs ≤ x.num
IsUncounted c (name.Port x) = c.ports ≤ x.num
IsUncounted c (name.Thread x) = c.threads ≤ x.num

pub counted_more : (c : Counters) (k : NameKind) (x : Name) → IsBelowCounter c x → IsBelowCounter (counter_after c k) x
counted_more c kind.Var (name.Var x) h = omega (arith, h)
counted_more c kind.Var (name.Cell x) h = h
counted_more c kind.Var (name.Proc x) h = h
counted_more c kind.Var (name.Port x) h = h
counted_more c kind.Var (name.Thread x) h = h
counted_more c kind.Cell (name.Var x) h = h
counted_more c (kind.CellAt at_home) (name.Var x) h = h
counted_more c kind.Cell (name.Cell x) h = omega (arith, h)
counted_more c (kind.CellAt at_home) (name.Cell x) h = omega (arith, h)
counted_more c kind.Cell (name.Proc x) h = h
counted_more c (kind.CellAt at_home) (name.Proc x) h = h
counted_more c kind.Cell (name.Port x) h = h
counted_more c (kind.CellAt at_home) (name.Port x) h = h
counted_more c kind.Cell (name.Thread x) h = h
counted_more c (kind.CellAt at_home) (name.Thread x) h = h
counted_more c kind.Proc (name.Var x) h = h
counted_more c kind.Port (name.Var x) h = h
counted_more c kind.Proc (name.Cell x) h = h
counted_more c kind.Port (name.Cell x) h = h
counted_more c kind.Proc (name.Proc x) h = omega (arith, h)
counted_more c kind.Port (name.Proc x) h = h
counted_more c kind.Proc (name.Port x) h = h
counted_more c kind.Port (name.Port x) h = omega (arith, h)
counted_more c kind.Proc (name.Thread x) h = h
counted_more c kind.Port (name.Thread x) h = h
counted_more c kind.Thread (name.Var x) h = h
counted_more c kind.Thread (name.Cell x) h = h
counted_more c kind.Thread (name.Proc x) h = h
counted_more c kind.Thread (name.Port x) h = h
counted_more c kind.Thread (name.Thread x) h = omega (arith, h)

uncounted_less : (c : Counters) (k : NameKind) (x : Name) → IsUncounted (counter_after c k) x → IsUncounted c x
uncounted_less c kind.Var (name.Var x) h = omega (arith, h)
uncounted_less c kind.Var (name.Cell x) h = h
uncounted_less c kind.Var (name.Proc x) h = h
uncounted_less c kind.Var (name.Port x) h = h
uncounted_less c kind.Var (name.Thread x) h = h
uncounted_less c kind.Cell (name.Var x) h = h
uncounted_less c (kind.CellAt at_home) (name.Var x) h = h
uncounted_less c kind.Cell (name.Cell x) h = omega (arith, h)
uncounted_less c (kind.CellAt at_home) (name.Cell x) h = omega (arith, h)
uncounted_less c kind.Cell (name.Proc x) h = h
uncounted_less c (kind.CellAt at_home) (name.Proc x) h = h
uncounted_less c kind.Cell (name.Port x) h = h
uncounted_less c (kind.CellAt at_home) (name.Port x) h = h
uncounted_less c kind.Cell (name.Thread x) h = h
uncounted_less c (kind.CellAt at_home) (name.Thread x) h = h
uncounted_less c kind.Proc (name.Var x) h = h
uncounted_less c kind.Port (name.Var x) h = h
uncounted_less c kind.Proc (name.Cell x) h = h
uncounted_less c kind.Port (name.Cell x) h = h
uncounted_less c kind.Proc (name.Proc x) h = omega (arith, h)
uncounted_less c kind.Port (name.Proc x) h = h
uncounted_less c kind.Proc (name.Port x) h = h
uncounted_less c kind.Port (name.Port x) h = omega (arith, h)
uncounted_less c kind.Proc (name.Thread x) h = h
uncounted_less c kind.Port (name.Thread x) h = h
uncounted_less c kind.Thread (name.Var x) h = h
uncounted_less c kind.Thread (name.Cell x) h = h
uncounted_less c kind.Thread (name.Proc x) h = h
uncounted_less c kind.Thread (name.Port x) h = h
uncounted_less c kind.Thread (name.Thread x) h = omega (arith, h)

not_both : (c : Counters) (x : Name) → IsBelowCounter c x → IsUncounted c x → ⊥
not_both c (name.Var x) h g = absurd (omega (arith, h, g))
not_both c (name.Cell x) h g = absurd (omega (arith, h, g))
not_both c (name.Proc x) h g = absurd (omega (arith, h, g))
not_both c (name.Port x) h g = absurd (omega (arith, h, g))
not_both c (name.Thread x) h g = absurd (omega (arith, h, g))

pub all_more : (c : Counters) (ks : List NameKind) (x : Name) → IsBelowCounter c x → IsBelowCounter (counters_after c ks) x
all_more c [] x h = h
all_more c (k ∷ ks) x h = all_more (counter_after c k) ks x (counted_more c k x h)

next_site : (i : ℕ) (c : Counters) (k : NameKind) → site_of (next_name i c k) ≡ i
next_site i c kind.Var = refl
next_site i c kind.Cell = refl
next_site i c (kind.CellAt at_home) = refl
next_site i c kind.Proc = refl
next_site i c kind.Port = refl
next_site i c kind.Thread = refl

next_uncounted : (i : ℕ) (c : Counters) (k : NameKind) → IsUncounted c (next_name i c k)
next_uncounted i c kind.Var = omega arith
next_uncounted i c kind.Cell = omega arith
next_uncounted i c (kind.CellAt at_home) = omega arith
next_uncounted i c kind.Proc = omega arith
next_uncounted i c kind.Port = omega arith
next_uncounted i c kind.Thread = omega arith

next_counted : (i : ℕ) (c : Counters) (k : NameKind) → IsBelowCounter (counter_after c k) (next_name i c k)
next_counted i c kind.Var = omega arith
next_counted i c kind.Cell = omega arith
next_counted i c (kind.CellAt at_home) = omega arith
next_counted i c kind.Proc = omega arith
next_counted i c kind.Port = omega arith
next_counted i c kind.Thread = omega arith

-- ---- fresh names

abbrev pub IsNextOf : ℕ → Counters → Counters → Name → Type 0
IsNextOf i c d x = (site_of x ≡ i) × IsUncounted c x × IsBelowCounter d x

pub next_are : (i : ℕ) (c : Counters) (ks : List NameKind) → Each (IsNextOf i c (counters_after c ks)) (next_names i c ks)
next_are i c [] = tt
next_are i c (k ∷ ks) = (
  (next_site i c k, next_uncounted i c k, all_more (counter_after c k) ks _ (next_counted i c k)),
  Each-weaker _ _ (λ x h. (h.0, uncounted_less c k x h.1, h.2)) (next_names i (counter_after c k) ks) (next_are i (counter_after c k) ks),
)

next_distinct : (i : ℕ) (c : Counters) (ks : List NameKind) → AreDistinct (next_names i c ks)
next_distinct i c [] = tt
next_distinct i c (k ∷ ks) = (
  Each-weaker _ _ (λ x h e. not_both (counter_after c k) x (subst (λ (y : Name). IsBelowCounter (counter_after c k) y) e (next_counted i c k)) h.1) (next_names i (counter_after c k) ks) (next_are i (counter_after c k) ks),
  next_distinct i (counter_after c k) ks,
)

-- a site's next names are new at the centre
pub next_fresh : (made : ℕ → Counters) (s : State) (i : ℕ) (ks : List NameKind) → i ≢ 0 → IsCentreMade made s → AreFresh s ks (next_names i (made i) ks)
next_fresh made s i ks real centred = record {
  of_kinds = next_kinds i (made i) ks;
  distinct = next_distinct i (made i) ks;
  unused = Each-weaker _ _ (λ x h. EachName-weaker (IsMade made) (λ y. y ≢ x) (λ y m e. unmade x h (subst (λ (z : Name). IsMade made z) e m)) s centred.all) (next_names i (made i) ks) (next_are i (made i) ks);
}
  where
    unmade : (x : Name) → IsNextOf i (made i) (counters_after (made i) ks) x → IsMade made x → ⊥
    unmade x h (inl zero) = real (sym h.0 ∙ zero)
    unmade x h (inr low) = not_both (made i) x (subst (λ (j : ℕ). IsBelowCounter (made j) x) h.0 low) h.1

-- ---- the change

pub made_more : (made : ℕ → Counters) (i : ℕ) (k : NameKind) (x : Name) → IsMade made x → IsMade (at_put made i (counter_after (made i) k)) x
made_more made i k x (inl zero) = inl zero
made_more made i k x (inr h) = inr (at_all made i (counter_after (made i) k) (λ j (c : Counters). IsBelowCounter (made j) x → IsBelowCounter c x) (counted_more (made i) k x) (λ j other h. h) (site_of x) h)

msg_weaker : (P Q : Name → Type 0) → ((x : Name) → P x → Q x) → (m : Msg) → EachOfMsg P m → EachOfMsg Q m
msg_weaker P Q f (msg.Spawn n code vars bundle) h = (f _ h.0, Each-weaker _ _ (λ x g. f (name.Var x) g) vars h.1, Each-weaker _ _ (EachOfEquation-weaker P Q f) bundle h.2)
msg_weaker P Q f (msg.Register x k) h = f _ h
msg_weaker P Q f (msg.BindReq x n t bundle) h = (f _ h.0, f _ h.1, EachOfTerm-weaker P Q f t h.2, Each-weaker _ _ (EachOfEquation-weaker P Q f) bundle h.3)
msg_weaker P Q f (msg.Binding x t bundle) h = (f _ h.0, EachOfTerm-weaker P Q f t h.1, Each-weaker _ _ (EachOfEquation-weaker P Q f) bundle h.2)
msg_weaker P Q f (msg.Get c k) h = f _ h
msg_weaker P Q f (msg.Forward c k) h = f _ h
msg_weaker P Q f (msg.Put c v bundle) h = (f _ h.0, f _ h.1, Each-weaker _ _ (EachOfEquation-weaker P Q f) bundle h.2)
msg_weaker P Q f (msg.PortSend q n k) h = (f _ h.0, f _ h.1)
msg_weaker P Q f (msg.PortEnd n old new bundle) h = (f _ h.0, f _ h.1, f _ h.2, Each-weaker _ _ (EachOfEquation-weaker P Q f) bundle h.3)
msg_weaker P Q f (msg.CellMake c v bundle) h = (f _ h.0, f _ h.1, Each-weaker _ _ (EachOfEquation-weaker P Q f) bundle h.2)
msg_weaker P Q f (msg.CellAsk c n k v bundle) h = (f _ h.0, f _ h.1, f _ h.2, Each-weaker _ _ (EachOfEquation-weaker P Q f) bundle h.3)
msg_weaker P Q f (msg.CellOld n v bundle) h = (f _ h.0, f _ h.1, Each-weaker _ _ (EachOfEquation-weaker P Q f) bundle h.2)

-- the records after a name of this kind was made
abbrev pub after_name : Records → Name → Records
after_name b (name.Var x) = after_make b x
after_name b _ = b

module _ (p : List Stmt) (here : ℕ → Name → Type 0) (eqs : ℕ → Store) (records : ℕ → Records) (threads : ℕ → Threads) (made : ℕ → Counters) (mail : Mail) (s : State) (parts : PartsMatch p here eqs records threads made mail s) where
  -- the counter of a kind rises, and the records know the name where it is a variable
  count_parts : (i : ℕ) (k : NameKind) (b : Records) → Wider records (at_put records i b) →
      ((x : VarName) → x.site ≡ i → IsBelowCounter (counter_after (made i) k) (name.Var x) ↔ IsKnown b x) → ((x : VarName) → IsKnown b x → IsKnown (records i) x ⊎ (x.site ≡ i)) → ((x : VarName) → x.site ≢ i → knowledge b x ≡ knowledge (records i) x) →
      PartsMatch p here eqs (at_put records i b) threads (at_put made i (counter_after (made i) k)) mail s
  count_parts i k b wide own met same = record {
    knowledge = parts.knowledge;
    kept = kept_wider records (at_put records i b) wide eqs parts.kept;
    placed = parts.placed;
    told = λ j y unbound other. told_wider records (at_put records i b) wide mail j y (parts.told j y (old j y unbound other) other);
    addressed = addressed_wider records (at_put records i b) wide mail parts.addressed;
    waiting = waiting_wider records (at_put records i b) wide p eqs threads mail s.equations parts.waiting;
    homes = parts.homes;
    centred = record { all = EachName-weaker (IsMade made) (IsMade made2) up s parts.centred.all; nobody = parts.centred.nobody };
    makers = record {
      own = two_all records made i b (counter_after (made i) k) (λ j (o : Records) (c : Counters). (y : VarName) → y.site ≡ j → IsBelowCounter c (name.Var y) ↔ IsKnown o y) own (λ j other. parts.makers.own j);
      met = at_all records i b (λ j (o : Records). (y : VarName) → IsKnown o y → IsMade made2 (name.Var y)) (λ y h. new y h (met y h)) (λ j other y h. up (name.Var y) (parts.makers.met j y h));
    };
    said = λ l to m h. msg_weaker (IsMade made) (IsMade made2) up m (parts.said l to m h);
  }
    where
      made2 : ℕ → Counters
      made2 = at_put made i (counter_after (made i) k)

      up : (x : Name) → IsMade made x → IsMade made2 x
      up = made_more made i k

      old : (j : ℕ) (y : VarName) → knowledge (at_put records i b j) y ≡ Some None → y.site ≢ j → knowledge (records j) y ≡ Some None
      old = at_all records i b (λ j (o : Records). (y : VarName) → knowledge o y ≡ Some None → y.site ≢ j → knowledge (records j) y ≡ Some None)
          (λ y h other. sym (same y other) ∙ h) (λ j other y h far. h)

      new : (y : VarName) → IsKnown b y → IsKnown (records i) y ⊎ (y.site ≡ i) → IsMade made2 (name.Var y)
      new y h (inl g) = up (name.Var y) (parts.makers.met i y g)
      new y h (inr at) = inr (subst (λ (j : ℕ). IsBelowCounter (made2 j) (name.Var y)) (sym at) (subst (λ (c : Counters). IsBelowCounter c (name.Var y)) (sym (at_here made i (counter_after (made i) k))) ((own y at).1 h)))

  -- another kind than variables
  other_parts : (i : ℕ) (k : NameKind) → ((x : VarName) → IsBelowCounter (counter_after (made i) k) (name.Var x) ↔ IsBelowCounter (made i) (name.Var x)) → PartsMatch p here eqs records threads (at_put made i (counter_after (made i) k)) mail s
  other_parts i k same =
      subst (λ (r : ℕ → Records). PartsMatch p here eqs r threads (at_put made i (counter_after (made i) k)) mail s) (at_own records i)
      (count_parts i k (records i) (subst (λ (r : ℕ → Records). Wider records r) (sym (at_own records i)) wide_same)
      (λ x at. ((λ h. (parts.makers.own i x at).0 ((same x).0 h)), (λ h. (same x).1 ((parts.makers.own i x at).1 h)))) (λ x h. inl h) (λ x far. refl))
    where
      wide_same : Wider records records
      wide_same = record { site = λ j. refl; known = λ j x h. h; bound = λ j x t h. h; held = λ j x t h. h; listed = λ j x o h. h }

  var_parts : (i : ℕ) → PartsMatch p here eqs (at_put records i (after_make (records i) (record { site = i; num = (made i).vars }))) threads (at_put made i (counter_after (made i) kind.Var)) mail s
  var_parts i = count_parts i kind.Var b (learns_wider records i b x l none (λ y o h. listed y o (name_cases y x) h)) (λ y at. own y at (name_cases y x)) (λ y h. met y h (name_cases y x)) (λ y far. l.others y (λ e. far (ap (λ (z : VarName). z.site) e)))
    where
      x : VarName
      x = record { site = i; num = (made i).vars }

      b : Records
      b = after_make (records i) x

      l : HasLearned (records i) b x (Some None)
      l = make_learns (records i) x (sym (parts.kept i).site)

      unknown : IsKnown (records i) x → ⊥
      unknown h = let low : IsBelowCounter (made i) (name.Var x) = (parts.makers.own i x refl).1 h in absurd (omega (arith, low))

      none : knowledge (records i) x ≡ None
      none = go (knowledge (records i) x) refl
        where
          go : (o : Option (Option Term)) → knowledge (records i) x ≡ o → knowledge (records i) x ≡ None
          go None e = e
          go (Some o) e = absurd (unknown (rw e refl))

      listed : (y : VarName) (o : ℕ) → (y ≡ x) ⊎ (y ≢ x) → Contains (sites_in (records i) y) o → Contains (sites_in b y) o
      listed y o (inr other) h = subst (λ (q : Option Owner). Contains (sites_of q) o) (sym (in_other (records i).owners x y (Open []) other)) h
      listed y o (inl e) h =
          let unbound : knowledge (records i) x ≡ Some None = registered_open (records i) x o (sym (parts.kept i).site) (subst (λ (z : VarName). Contains (sites_in (records i) z) o) e h) in
          let both : None ≡ Some None = sym none ∙ unbound in cc

      own : (y : VarName) → y.site ≡ i → (y ≡ x) ⊎ (y ≢ x) → IsBelowCounter (counter_after (made i) kind.Var) (name.Var y) ↔ IsKnown b y
      own y at (inl e) = (
        (λ h. subst (λ (z : VarName). IsKnown b z) (sym e) (rw l.here refl)),
        (λ h. let num : y.num ≡ (made i).vars = ap (λ (z : VarName). z.num) e in omega (arith, num)),
      )
      own y at (inr other) = rw (l.others y other) (
        (λ h. (parts.makers.own i y at).0 (less h)),
        (λ h. counted_more (made i) kind.Var (name.Var y) ((parts.makers.own i y at).1 h)),
      )
        where
          less : IsBelowCounter (counter_after (made i) kind.Var) (name.Var y) → IsBelowCounter (made i) (name.Var y)
          less h = go (num_decide y.num (made i).vars)
            where
              num_decide : (a c : ℕ) → (a ≡ c) ⊎ (a ≢ c)
              num_decide a c = search rules

              go : (y.num ≡ (made i).vars) ⊎ (y.num ≢ (made i).vars) → IsBelowCounter (made i) (name.Var y)
              go (inl e) = absurd (other (var_is y i (made i).vars at e))
              go (inr ne) = omega (arith, h, ne)

      met : (y : VarName) → IsKnown b y → (y ≡ x) ⊎ (y ≢ x) → IsKnown (records i) y ⊎ (y.site ≡ i)
      met y h (inl e) = inr (ap (λ (z : VarName). z.site) e)
      met y h (inr other) = inl (subst (λ (o : Option (Option Term)). IsTrue (is_some o)) (l.others y other) h)

  pub make_parts : (i : ℕ) (k : NameKind) → PartsMatch p here eqs (at_put records i (after_name (records i) (next_name i (made i) k))) threads (at_put made i (counter_after (made i) k)) mail s
  make_parts i kind.Var = var_parts i
  make_parts i kind.Cell = subst (λ (r : ℕ → Records). PartsMatch p here eqs r threads (at_put made i (counter_after (made i) kind.Cell)) mail s) (sym (at_own records i)) (other_parts i kind.Cell (λ x. ((λ h. h), (λ h. h))))
  make_parts i (kind.CellAt at_home) = subst (λ (r : ℕ → Records). PartsMatch p here eqs r threads (at_put made i (counter_after (made i) (kind.CellAt at_home))) mail s) (sym (at_own records i)) (other_parts i (kind.CellAt at_home) (λ x. ((λ h. h), (λ h. h))))
  make_parts i kind.Proc = subst (λ (r : ℕ → Records). PartsMatch p here eqs r threads (at_put made i (counter_after (made i) kind.Proc)) mail s) (sym (at_own records i)) (other_parts i kind.Proc (λ x. ((λ h. h), (λ h. h))))
  make_parts i kind.Port = subst (λ (r : ℕ → Records). PartsMatch p here eqs r threads (at_put made i (counter_after (made i) kind.Port)) mail s) (sym (at_own records i)) (other_parts i kind.Port (λ x. ((λ h. h), (λ h. h))))
  make_parts i kind.Thread = subst (λ (r : ℕ → Records). PartsMatch p here eqs r threads (at_put made i (counter_after (made i) kind.Thread)) mail s) (sym (at_own records i)) (other_parts i kind.Thread (λ x. ((λ h. h), (λ h. h))))

after_first : (b : Records) (x : Name) (xs : List Name) → after_makes b (vars_among (x ∷ xs)) ≡ after_makes (after_name b x) (vars_among xs)
after_first b (name.Var x) xs = refl
after_first b (name.Cell x) xs = refl
after_first b (name.Proc x) xs = refl
after_first b (name.Port x) xs = refl
after_first b (name.Thread x) xs = refl

-- names of all these kinds
pub makes_parts : (p : List Stmt) (here : ℕ → Name → Type 0) (eqs : ℕ → Store) (threads : ℕ → Threads) (mail : Mail) (s : State) (i : ℕ) (ks : List NameKind) (records : ℕ → Records) (made : ℕ → Counters) → PartsMatch p here eqs records threads made mail s →
    PartsMatch p here eqs (at_put records i (after_makes (records i) (vars_among (next_names i (made i) ks)))) threads (at_put made i (counters_after (made i) ks)) mail s
makes_parts p here eqs threads mail s i [] records made parts = rw (at_own records i, at_own made i) parts
makes_parts p here eqs threads mail s i (k ∷ ks) records made parts =
    let b = after_name (records i) (next_name i (made i) k) in
    let c = counter_after (made i) k in
    let rest = makes_parts p here eqs threads mail s i ks (at_put records i b) (at_put made i c) (make_parts p here eqs records threads made mail s parts i k) in
    let there = subst (λ (d : Counters). PartsMatch p here eqs (at_put (at_put records i b) i (after_makes (at_put records i b i) (vars_among (next_names i d ks)))) threads (at_put (at_put made i c) i (counters_after d ks)) mail s) (at_here made i c) rest in
    let here2 = subst (λ (e : Records). PartsMatch p here eqs (at_put (at_put records i b) i (after_makes e (vars_among (next_names i c ks)))) threads (at_put (at_put made i c) i (counters_after c ks)) mail s) (at_here records i b) there in
    let once = subst (λ (r : ℕ → Records). PartsMatch p here eqs r threads (at_put (at_put made i c) i (counters_after c ks)) mail s) (at_twice records i b (after_makes b (vars_among (next_names i c ks)))) here2 in
    let twice = subst (λ (m : ℕ → Counters). PartsMatch p here eqs (at_put records i (after_makes b (vars_among (next_names i c ks)))) threads m mail s) (at_twice made i c (counters_after c ks)) once in
    subst (λ (e : Records). PartsMatch p here eqs (at_put records i e) threads (at_put made i (counters_after c ks)) mail s) (sym (after_first (records i) (next_name i (made i) k) (next_names i c ks))) twice
