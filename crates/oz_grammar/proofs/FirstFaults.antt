-- Where an automaton faults, the fault is the first one of the symbols; and symbols have one first fault at most.
use Rattle.std.proofs.Common.{◌≡◌, ℕ, ◌<◌, ◌≤◌, List, [], ◌∷◌, ◌++◌, inl, inr, length, Bool, true, false, cond, Option, Some, None, refl, sym, ap, subst, ◌∙◌, arith, append_assoc, length-append}
use Rattle.oz_grammar.specs.Automata.{Automaton, mismatch, read_step, read, state_behind, Grammar, Look, Alone, ByColon, has_colon, SameHead, SameRole, IsCompletedBy, IsViable, IsRefused, IsLexical, IsWrong, AppliesAt, IsFirstFault}

-- ---- reading without a fault

module _ {Symbol Kind Fault State : Type 0} (a : Automaton Symbol Kind Fault State) where
  -- no symbol of front has a fault, read from s before rest, and behind front the state is t
  abbrev pub IsClean : List Symbol → List Symbol → State → State → Type 0
  IsClean [] rest s u = s ≡ u
  IsClean (x ∷ front) rest s u = (r : State) × (a.is_done s ≡ false) × (a.next s x ≡ Some r) × (a.wrong s (x ∷ front ++ rest) ≡ None) × IsClean front rest r u

  pub read_behind : (front rest : List Symbol) (s u : State) → IsClean front rest s u → read a (front ++ rest) s ≡ read a rest u
  read_behind [] rest s u c = ap (read a rest) c
  read_behind (x ∷ front) rest s u c = rw (c.1, c.2, c.3) (read_behind front rest c.0 u c.4)

  pub behind_clean : (front rest : List Symbol) (s u : State) → IsClean front rest s u → state_behind a front s ≡ Some u
  behind_clean [] rest s u c = ap Some c
  behind_clean (x ∷ front) rest s u c = rw c.2 (behind_clean front rest c.0 u c.4)

  -- ---- where reading stops

  abbrev pub kind_by : Kind → Option Kind → List Symbol → Option State → Option Kind
  kind_by expected wrong symbols (Some s) = wrong
  kind_by expected wrong symbols None = Some (mismatch a.lexical expected symbols)

  -- what is wrong at the first of these symbols, read from s
  abbrev pub kind_at : State → List Symbol → Option Kind
  kind_at s [] = Some (a.expected s)
  kind_at s (x ∷ xs) = kind_by (a.expected s) (a.wrong s (x ∷ xs)) (x ∷ xs) (a.next s x)

  pub record Stopped (symbols : List Symbol) (s : State) (f : Fault) : Type 0 where
    pub front : List Symbol
    pub rest : List Symbol
    pub state : State
    pub kind : Kind
    pub divided : symbols ≡ front ++ rest
    pub clean : IsClean front rest s state
    pub goes : a.is_done state ≡ false
    pub is_kind : kind_at state rest ≡ Some kind
    pub is : f ≡ a.fault kind rest

  stopped_here : (symbols : List Symbol) (s : State) (f : Fault) (kind : Kind) → a.is_done s ≡ false → kind_at s symbols ≡ Some kind → a.fault kind symbols ≡ f → Stopped symbols s f
  stopped_here symbols s f kind d k e = record {
    front = [];
    rest = symbols;
    state = s;
    kind = kind;
    divided = refl;
    clean = refl;
    goes = d;
    is_kind = k;
    is = sym e;
  }

  stopped_end : (s : State) (f : Fault) (b : Bool) → a.is_done s ≡ b → cond b None (Some (a.fault (a.expected s) [])) ≡ Some f → Stopped [] s f
  stopped_end s f true d e = absurd cc
  stopped_end s f false d e = let same : a.fault (a.expected s) [] ≡ f = cc in stopped_here [] s f (a.expected s) d refl same

  stopped_by : (s : State) (x : Symbol) (xs : List Symbol) (f : Fault) (b : Bool) (w : Option Kind) (o : Option State) → a.is_done s ≡ b → a.wrong s (x ∷ xs) ≡ w → a.next s x ≡ o
      → ((r : State) → read a xs r ≡ Some f → Stopped xs r f) → cond b None (read_step a (a.expected s) w (x ∷ xs) (read a xs) o) ≡ Some f → Stopped (x ∷ xs) s f
  stopped_by s x xs f true w o d e n ih h = absurd cc
  stopped_by s x xs f false w None d e n ih h =
      let kind : Kind = mismatch a.lexical (a.expected s) (x ∷ xs) in
      let same : a.fault kind (x ∷ xs) ≡ f = cc in
      stopped_here (x ∷ xs) s f kind d (ap (kind_by (a.expected s) (a.wrong s (x ∷ xs)) (x ∷ xs)) n) same
  stopped_by s x xs f false (Some kind) (Some r) d e n ih h =
      let same : a.fault kind (x ∷ xs) ≡ f = cc in stopped_here (x ∷ xs) s f kind d (ap (kind_by (a.expected s) (a.wrong s (x ∷ xs)) (x ∷ xs)) n ∙ e) same
  stopped_by s x xs f false None (Some r) d e n ih h =
      let k = ih r h in
      let none : a.wrong s (x ∷ k.front ++ k.rest) ≡ None = ap (λ (ys : List Symbol). a.wrong s (x ∷ ys)) (sym k.divided) ∙ e in
      record {
        front = x ∷ k.front;
        rest = k.rest;
        state = k.state;
        kind = k.kind;
        divided = ap (λ (ys : List Symbol). x ∷ ys) k.divided;
        clean = (r, d, n, none, k.clean);
        goes = k.goes;
        is_kind = k.is_kind;
        is = k.is;
      }

  pub stopped : (symbols : List Symbol) (s : State) (f : Fault) → read a symbols s ≡ Some f → Stopped symbols s f
  stopped [] s f e = stopped_end s f (a.is_done s) refl e
  stopped (x ∷ xs) s f e = stopped_by s x xs f (a.is_done s) (a.wrong s (x ∷ xs)) (a.next s x) refl refl refl (λ r. stopped xs r f) e

-- ---- roles

module _ {Symbol : Type 0} where
  same_self : (rest : List Symbol) → SameHead rest rest
  same_self [] = refl
  same_self (x ∷ xs) = (xs, refl)

module _ {Symbol : Type 0} (is_colon : Symbol → Bool) where
  pub same_head : (look : Look) (a b : List Symbol) → SameRole is_colon look a b → SameHead a b
  same_head Alone a b h = h
  same_head ByColon a b h = h.0

  role_self : (look : Look) (rest : List Symbol) → SameRole is_colon look rest rest
  role_self Alone rest = same_self rest
  role_self ByColon rest = (same_self rest, refl)

  -- what is the same also by a colon is the same
  coarser : (look : Look) (a b : List Symbol) → SameRole is_colon ByColon a b → SameRole is_colon look a b
  coarser Alone a b h = h.0
  coarser ByColon a b h = h

  colon_moved : (x : Symbol) (front rest more : List Symbol) → SameHead rest more → has_colon is_colon (x ∷ front ++ rest) ≡ has_colon is_colon (x ∷ front ++ more)
  colon_moved x [] [] more h = ap (λ (m : List Symbol). has_colon is_colon (x ∷ m)) (sym h)
  colon_moved x [] (y ∷ rest) more h = ap (λ (m : List Symbol). has_colon is_colon (x ∷ m)) (sym h.1)
  colon_moved x (y ∷ front) rest more h = refl

  -- symbols before others have the same role where those begin the same
  role_moved : (look : Look) (x : Symbol) (front rest more : List Symbol) → SameHead rest more → SameRole is_colon look (x ∷ front ++ rest) (x ∷ front ++ more)
  role_moved Alone x front rest more h = (front ++ more, refl)
  role_moved ByColon x front rest more h = ((front ++ more, refl), colon_moved x front rest more h)

-- ---- what has to be known of a grammar

-- Derivations are read with the faults that their check finds, none of which says that another symbol was expected; a fault tells its
-- kind and place; the role of a symbol decides what is wrong at it; through each symbol that the automaton takes some program goes on;
-- and no lexical fault stands in one.
pub record IsRead {Symbol Kind Fault Program : Type 0} {Derives : Program → Type 0} {State : Type 0} (g : Grammar Symbol Kind Fault Program Derives State) (look : State → Symbol → Look) : Type 0 where
  pub reads : (q : Program) → Derives q → read g.automaton (g.text q) g.start ≡ g.check q
  pub none_expected : (q : Program) (s : State) (rest : List Symbol) → g.check q ≡ Some (g.automaton.fault (g.automaton.expected s) rest) → ⊥
  pub told : (k l : Kind) (a b : List Symbol) → g.automaton.fault k a ≡ g.automaton.fault l b → (k ≡ l) × (length a ≡ length b)
  pub roles : (s : State) (x : Symbol) (a b : List Symbol) → SameRole g.is_colon (look s x) (x ∷ a) (x ∷ b) → g.automaton.wrong s (x ∷ a) ≡ g.automaton.wrong s (x ∷ b)
  pub through : (front : List Symbol) (s r : State) (x : Symbol) (xs : List Symbol) → state_behind g.automaton front g.start ≡ Some s → g.automaton.next s x ≡ Some r → IsViable g (look s x) front (x ∷ xs)
  pub none_lexical : (q : Program) (front : List Symbol) (x : Symbol) (kind : Kind) (more : List Symbol) → g.automaton.lexical x ≡ Some kind → front ++ x ∷ more ≡ g.text q → ⊥

module _ {Symbol Kind Fault Program : Type 0} {Derives : Program → Type 0} {State : Type 0} (g : Grammar Symbol Kind Fault Program Derives State) (look : State → Symbol → Look) (law : IsRead g look) where
  clean_moved : (front rest more : List Symbol) (s u : State) → IsClean g.automaton front rest s u → SameHead rest more → IsClean g.automaton front more s u
  clean_moved [] rest more s u c h = c
  clean_moved (x ∷ front) rest more s u c h =
      let none : g.automaton.wrong s (x ∷ front ++ more) ≡ None = sym (law.roles s x (front ++ rest) (front ++ more) (role_moved g.is_colon (look s x) x front rest more h)) ∙ c.3 in (c.0, c.1, c.2, none, clean_moved front rest more c.0 u c.4 h)

  -- a program that goes on is checked where the states stand
  checked_behind : (front rest more : List Symbol) (s : State) → IsClean g.automaton front rest g.start s → SameHead rest more → (on : IsCompletedBy g front more) → g.check on.program ≡ read g.automaton more s
  checked_behind front rest more s c h on =
      sym (law.reads on.program on.derives) ∙ ap (λ (a : List Symbol). read g.automaton a g.start) (sym on.derived) ∙ read_behind g.automaton front more g.start s (clean_moved front rest more g.start s c h)

  -- no program goes on with a lexical fault
  viable_lexical : (front rest : List Symbol) (kind : Kind) (l : Look) → IsLexical g rest kind → IsViable g l front rest → ⊥
  viable_lexical front rest kind l lex v =
      let h = same_head g.is_colon l (lex.0 ∷ lex.1) v.more (subst (λ (r : List Symbol). SameRole g.is_colon l r v.more) lex.2 v.same) in
      law.none_lexical v.goes_on.program front lex.0 kind h.0 lex.3 (ap (λ (m : List Symbol). front ++ m) (sym h.1) ∙ v.goes_on.derived)

  -- ---- what reading says is the first fault

  -- the role of the first symbol decides what is wrong at it
  stops_by : (s : State) (x : Symbol) (xs ys : List Symbol) (kind : Kind) (o : Option State) → g.automaton.is_done s ≡ false → g.automaton.next s x ≡ o → SameRole g.is_colon (look s x) (x ∷ xs) (x ∷ ys)
      → kind_by g.automaton (g.automaton.expected s) (g.automaton.wrong s (x ∷ xs)) (x ∷ xs) o ≡ Some kind → read g.automaton (x ∷ ys) s ≡ Some (g.automaton.fault kind (x ∷ ys))
  stops_by s x xs ys kind None d n same k =
      let e : mismatch g.automaton.lexical (g.automaton.expected s) (x ∷ xs) ≡ kind = cc in
      rw (d, n) (ap (λ (j : Kind). Some (g.automaton.fault j (x ∷ ys))) e)
  stops_by s x xs ys kind (Some r) d n same k =
      let e : g.automaton.wrong s (x ∷ ys) ≡ Some kind = sym (law.roles s x xs ys same) ∙ k in rw (d, n, e) refl

  stops_at : (s : State) (x : Symbol) (xs more : List Symbol) (kind : Kind) → g.automaton.is_done s ≡ false → SameRole g.is_colon (look s x) (x ∷ xs) more → kind_at g.automaton s (x ∷ xs) ≡ Some kind
      → read g.automaton more s ≡ Some (g.automaton.fault kind more)
  stops_at s x xs more kind d same k =
      let h = same_head g.is_colon (look s x) (x ∷ xs) more same in
      let role : SameRole g.is_colon (look s x) (x ∷ xs) (x ∷ h.0) = subst (SameRole g.is_colon (look s x) (x ∷ xs)) h.1 same in
      subst (λ (m : List Symbol). read g.automaton m s ≡ Some (g.automaton.fault kind m)) (sym h.1) (stops_by s x xs h.0 kind (g.automaton.next s x) d refl role k)

  end_applies : (front : List Symbol) (s : State) → IsClean g.automaton front [] g.start s → g.automaton.is_done s ≡ false → AppliesAt g front [] (g.automaton.expected s)
  end_applies front s c d = inr (inl (
    s,
    behind_clean g.automaton front [] g.start s c,
    refl,
    λ kind lex. let e : [] ≡ lex.0 ∷ lex.1 = lex.2 in absurd cc,
    λ more h on. law.none_expected on.program s more (checked_behind front [] more s c h on ∙ subst (λ (m : List Symbol). read g.automaton m s ≡ Some (g.automaton.fault (g.automaton.expected s) m)) (sym h) (rw d refl)),
  ))

  refused : (front : List Symbol) (x : Symbol) (xs : List Symbol) (s : State) → IsClean g.automaton front (x ∷ xs) g.start s → g.automaton.is_done s ≡ false → g.automaton.next s x ≡ None → g.automaton.lexical x ≡ None → IsRefused g front (x ∷ xs)
  refused front x xs s c d n good more h on =
      let r : read g.automaton (x ∷ h.0) s ≡ Some (g.automaton.fault (g.automaton.expected s) (x ∷ h.0)) = rw (d, n, good) refl in
      law.none_expected on.program s more (checked_behind front (x ∷ xs) more s c h on ∙ subst (λ (l : List Symbol). read g.automaton l s ≡ Some (g.automaton.fault (g.automaton.expected s) l)) (sym h.1) r)

  not_lexical : (x : Symbol) (xs : List Symbol) → g.automaton.lexical x ≡ None → (kind : Kind) → IsLexical g (x ∷ xs) kind → ⊥
  not_lexical x xs good kind lex =
      let same : x ∷ xs ≡ lex.0 ∷ lex.1 = lex.2 in
      let is : g.automaton.lexical lex.0 ≡ Some kind = lex.3 in cc

  -- at a symbol that no program has there
  refused_applies : (front : List Symbol) (x : Symbol) (xs : List Symbol) (s : State) (o : Option Kind) → g.automaton.lexical x ≡ o → IsClean g.automaton front (x ∷ xs) g.start s → g.automaton.is_done s ≡ false → g.automaton.next s x ≡ None
      → AppliesAt g front (x ∷ xs) (mismatch g.automaton.lexical (g.automaton.expected s) (x ∷ xs))
  refused_applies front x xs s (Some kind) bad c d n = rw bad (inl (x, xs, refl, bad))
  refused_applies front x xs s None good c d n = rw good (inr (inl (s, behind_clean g.automaton front (x ∷ xs) g.start s c, refl, not_lexical x xs good, refused front x xs s c d n good)))

  -- at a symbol with which some program goes on
  wrong_applies : (front : List Symbol) (x : Symbol) (xs : List Symbol) (s r : State) (kind : Kind) → IsClean g.automaton front (x ∷ xs) g.start s → g.automaton.is_done s ≡ false → g.automaton.next s x ≡ Some r → kind_at g.automaton s (x ∷ xs) ≡ Some kind
      → AppliesAt g front (x ∷ xs) kind
  wrong_applies front x xs s r kind c d n k = inr (inr (
    look s x,
    law.through front s r x xs (behind_clean g.automaton front (x ∷ xs) g.start s c) n,
    λ more same on. checked_behind front (x ∷ xs) more s c (same_head g.is_colon (look s x) (x ∷ xs) more same) on ∙ stops_at s x xs more kind d same k,
  ))

  applies_by : (front : List Symbol) (x : Symbol) (xs : List Symbol) (s : State) (kind : Kind) (o : Option State) → g.automaton.next s x ≡ o → IsClean g.automaton front (x ∷ xs) g.start s → g.automaton.is_done s ≡ false → kind_at g.automaton s (x ∷ xs) ≡ Some kind
      → AppliesAt g front (x ∷ xs) kind
  applies_by front x xs s kind None n c d k =
      let e : kind_at g.automaton s (x ∷ xs) ≡ Some (mismatch g.automaton.lexical (g.automaton.expected s) (x ∷ xs)) = ap (kind_by g.automaton (g.automaton.expected s) (g.automaton.wrong s (x ∷ xs)) (x ∷ xs)) n in
      let both : Some (mismatch g.automaton.lexical (g.automaton.expected s) (x ∷ xs)) ≡ Some kind = sym e ∙ k in
      let same : mismatch g.automaton.lexical (g.automaton.expected s) (x ∷ xs) ≡ kind = cc in subst (AppliesAt g front (x ∷ xs)) same (refused_applies front x xs s (g.automaton.lexical x) refl c d n)
  applies_by front x xs s kind (Some r) n c d k = wrong_applies front x xs s r kind c d n k

  pub stop_applies : (front rest : List Symbol) (s : State) (kind : Kind) → IsClean g.automaton front rest g.start s → g.automaton.is_done s ≡ false → kind_at g.automaton s rest ≡ Some kind → AppliesAt g front rest kind
  stop_applies front [] s kind c d k = let same : g.automaton.expected s ≡ kind = cc in subst (AppliesAt g front []) same (end_applies front s c d)
  stop_applies front (x ∷ xs) s kind c d k = applies_by front x xs s kind (g.automaton.next s x) refl c d k

  -- ---- none applies before it

  -- one of the symbols that are read without a fault
  clean_at : (a : List Symbol) (x : Symbol) (b rest : List Symbol) (s u : State) → IsClean g.automaton (a ++ x ∷ b) rest s u
      → (r : State) × (v : State) × IsClean g.automaton a (x ∷ b ++ rest) s r × (g.automaton.is_done r ≡ false) × (g.automaton.next r x ≡ Some v) × (g.automaton.wrong r (x ∷ b ++ rest) ≡ None)
  clean_at [] x b rest s u c = (s, c.0, refl, c.1, c.2, c.3)
  clean_at (y ∷ a) x b rest s u c =
      let k = clean_at a x b rest c.0 u c.4 in
      let none : g.automaton.wrong s (y ∷ a ++ (x ∷ b ++ rest)) ≡ None = ap (λ (m : List Symbol). g.automaton.wrong s (y ∷ m)) (sym (append_assoc a (x ∷ b) rest)) ∙ c.3 in
      (k.0, k.1, (c.0, c.1, c.2, none, k.2), k.3, k.4, k.5)

  -- what is found in a program that goes on through a clean symbol stands behind it
  late : (a : List Symbol) (x : Symbol) (ys zs : List Symbol) (s r : State) (kind : Kind) → IsClean g.automaton a (x ∷ ys) g.start s → g.automaton.is_done s ≡ false → g.automaton.next s x ≡ Some r → g.automaton.wrong s (x ∷ ys) ≡ None
      → SameRole g.is_colon (look s x) (x ∷ ys) (x ∷ zs) → (on : IsCompletedBy g a (x ∷ zs)) → g.check on.program ≡ Some (g.automaton.fault kind (x ∷ zs)) → ⊥
  late a x ys zs s r kind c d n w same on e =
      let none : g.automaton.wrong s (x ∷ zs) ≡ None = sym (law.roles s x ys zs same) ∙ w in
      let moved : read g.automaton (x ∷ zs) s ≡ read g.automaton zs r = rw (d, n, none) refl in
      let k = stopped g.automaton zs r (g.automaton.fault kind (x ∷ zs)) (sym moved ∙ sym (checked_behind a (x ∷ ys) (x ∷ zs) s c (zs, refl) on) ∙ e) in
      let l = (law.told kind k.kind (x ∷ zs) k.rest k.is).1 in
      let m : length zs ≡ length (k.front ++ k.rest) = ap length k.divided in omega (arith, l, m, length-append k.front k.rest)

  not_wrong : (a : List Symbol) (x : Symbol) (ys : List Symbol) (s r : State) (kind : Kind) → IsClean g.automaton a (x ∷ ys) g.start s → g.automaton.is_done s ≡ false → g.automaton.next s x ≡ Some r → g.automaton.wrong s (x ∷ ys) ≡ None
      → (v : IsViable g (look s x) a (x ∷ ys)) → g.check v.goes_on.program ≡ Some (g.automaton.fault kind v.more) → ⊥
  not_wrong a x ys s r kind c d n w v e =
      let h = same_head g.is_colon (look s x) (x ∷ ys) v.more v.same in
      let role : SameRole g.is_colon (look s x) (x ∷ ys) (x ∷ h.0) = subst (SameRole g.is_colon (look s x) (x ∷ ys)) h.1 v.same in
      let on : IsCompletedBy g a (x ∷ h.0) = record { program = v.goes_on.program; derives = v.goes_on.derives; derived = ap (λ (m : List Symbol). a ++ m) (sym h.1) ∙ v.goes_on.derived } in
      late a x ys h.0 s r kind c d n w role on (e ∙ ap (λ (m : List Symbol). Some (g.automaton.fault kind m)) h.1)

  excluded : (a : List Symbol) (x : Symbol) (ys : List Symbol) (s r : State) (kind : Kind) → IsClean g.automaton a (x ∷ ys) g.start s → g.automaton.is_done s ≡ false → g.automaton.next s x ≡ Some r → g.automaton.wrong s (x ∷ ys) ≡ None
      → AppliesAt g a (x ∷ ys) kind → ⊥
  excluded a x ys s r kind c d n w (inl lex) = viable_lexical a (x ∷ ys) kind (look s x) lex (law.through a s r x ys (behind_clean g.automaton a (x ∷ ys) g.start s c) n)
  excluded a x ys s r kind c d n w (inr (inl other)) =
      let v = law.through a s r x ys (behind_clean g.automaton a (x ∷ ys) g.start s c) n in other.4 v.more (same_head g.is_colon (look s x) (x ∷ ys) v.more v.same) v.goes_on
  excluded a x ys s r kind c d n w (inr (inr (Alone, seen, all))) =
      let v = law.through a s r x ys (behind_clean g.automaton a (x ∷ ys) g.start s c) n in not_wrong a x ys s r kind c d n w v (all v.more (same_head g.is_colon (look s x) (x ∷ ys) v.more v.same) v.goes_on)
  excluded a x ys s r kind c d n w (inr (inr (ByColon, seen, all))) =
      let v : IsViable g (look s x) a (x ∷ ys) = record { more = seen.more; same = coarser g.is_colon (look s x) (x ∷ ys) seen.more seen.same; goes_on = seen.goes_on } in not_wrong a x ys s r kind c d n w v (all seen.more seen.same seen.goes_on)

  pub none_before : (front rest : List Symbol) (u : State) → IsClean g.automaton front rest g.start u → (a : List Symbol) (x : Symbol) (b : List Symbol) (kind : Kind) → front ≡ a ++ x ∷ b → AppliesAt g a (x ∷ b ++ rest) kind → ⊥
  none_before front rest u c a x b kind e h =
      let k = clean_at a x b rest g.start u (subst (λ (f : List Symbol). IsClean g.automaton f rest g.start u) e c) in excluded a x (b ++ rest) k.0 k.1 kind k.2 k.3 k.4 k.5 h

  -- where reading faults, it is at the first fault
  pub read_is_first : (symbols : List Symbol) (f : Fault) → read g.automaton symbols g.start ≡ Some f → IsFirstFault g symbols f
  read_is_first symbols f e =
      let s = stopped g.automaton symbols g.start f e in
      record {
        front = s.front;
        rest = s.rest;
        kind = s.kind;
        divided = s.divided;
        is = s.is;
        applies = stop_applies s.front s.rest s.state s.kind s.clean s.goes s.is_kind;
        first = none_before s.front s.rest s.state s.clean;
      }

-- ---- there is one

equal_numbers : (m n : ℕ) → (n < m → ⊥) → (m < n → ⊥) → m ≡ n
equal_numbers m n a b = grind arith

module _ {Symbol : Type 0} where
  longer_itself : (b d : List Symbol) → b ≡ d → length d < length b → ⊥
  longer_itself b d e lt = let l : length b ≡ length d = ap length e in omega arith

  longer_more : (y : Symbol) (a b d : List Symbol) → y ∷ a ++ b ≡ d → length d ≤ length b → ⊥
  longer_more y a b d e le = let l : length (y ∷ a ++ b) ≡ length d = ap length e in omega (arith, length-append a b)

  -- one front of a list is longer than another
  pub record IsFurther (a c b d : List Symbol) : Type 0 where
    pub first : Symbol
    pub middle : List Symbol
    pub front : c ≡ a ++ first ∷ middle
    pub rest : b ≡ first ∷ middle ++ d

  pub further : (a b c d : List Symbol) → a ++ b ≡ c ++ d → length d < length b → IsFurther a c b d
  further [] b [] d e lt = absurd (longer_itself b d e lt)
  further [] b (x ∷ c) d e lt = record { first = x; middle = c; front = refl; rest = e }
  further (y ∷ a) b [] d e lt = absurd (longer_more y a b d e (omega arith))
  further (y ∷ a) b (z ∷ c) d e lt =
      let heads : y ≡ z = cc in
      let tails : a ++ b ≡ c ++ d = cc in
      let k = further a b c d tails lt in
      record { first = k.first; middle = k.middle; front = ap (λ (u : Symbol). u ∷ c) (sym heads) ∙ ap (λ (u : List Symbol). y ∷ u) k.front; rest = k.rest }

  pub same_front : (a b c d : List Symbol) → a ++ b ≡ c ++ d → length b ≡ length d → (a ≡ c) × (b ≡ d)
  same_front [] b [] d e l = (refl, e)
  same_front [] b (x ∷ c) d e l = absurd (longer_more x c d b (sym e) (omega arith))
  same_front (y ∷ a) b [] d e l = absurd (longer_more y a b d e (omega arith))
  same_front (y ∷ a) b (z ∷ c) d e l =
      let heads : y ≡ z = cc in
      let tails : a ++ b ≡ c ++ d = cc in
      let k = same_front a b c d tails l in
      (ap (λ (u : Symbol). u ∷ a) heads ∙ ap (λ (u : List Symbol). z ∷ u) k.0, k.1)

module _ {Symbol Kind Fault Program : Type 0} {Derives : Program → Type 0} {State : Type 0} (g : Grammar Symbol Kind Fault Program Derives State) (look : State → Symbol → Look) (law : IsRead g look) where
  not_before : (symbols : List Symbol) (f h : Fault) (F : IsFirstFault g symbols f) (H : IsFirstFault g symbols h) → length H.rest < length F.rest → ⊥
  not_before symbols f h F H lt =
      let far = further F.front F.rest H.front H.rest (sym F.divided ∙ H.divided) lt in
      H.first F.front far.first far.middle F.kind far.front (subst (λ (r : List Symbol). AppliesAt g F.front r F.kind) far.rest F.applies)

  both_found : (front more : List Symbol) (k l : Kind) (on : IsCompletedBy g front more) → g.check on.program ≡ Some (g.automaton.fault k more) → g.check on.program ≡ Some (g.automaton.fault l more) → k ≡ l
  both_found front more k l on a b =
      let e : Some (g.automaton.fault k more) ≡ Some (g.automaton.fault l more) = sym a ∙ b in
      let f : g.automaton.fault k more ≡ g.automaton.fault l more = cc in (law.told k l more more f).0

  both_wrong : (front rest : List Symbol) (k l : Kind) → IsWrong g front rest k → IsWrong g front rest l → k ≡ l
  both_wrong front rest k l (ByColon, v, all) (m, w, other) = both_found front v.more k l v.goes_on (all v.more v.same v.goes_on) (other v.more (coarser g.is_colon m rest v.more v.same) v.goes_on)
  both_wrong front rest k l (Alone, v, all) (m, w, other) = both_found front w.more k l w.goes_on (all w.more (same_head g.is_colon m rest w.more w.same) w.goes_on) (other w.more w.same w.goes_on)

  pub same_kind : (front rest : List Symbol) (k l : Kind) → AppliesAt g front rest k → AppliesAt g front rest l → k ≡ l
  same_kind front rest k l (inl a) (inl b) =
      let e : a.0 ∷ a.1 ≡ b.0 ∷ b.1 = sym a.2 ∙ b.2 in
      let same : a.0 ≡ b.0 = cc in
      let kinds : Some k ≡ Some l = sym a.3 ∙ ap g.automaton.lexical same ∙ b.3 in cc
  same_kind front rest k l (inl a) (inr (inl b)) = absurd (b.3 k a)
  same_kind front rest k l (inl a) (inr (inr b)) = absurd (viable_lexical g look law front rest k b.0 a b.1)
  same_kind front rest k l (inr (inl a)) (inl b) = absurd (a.3 l b)
  same_kind front rest k l (inr (inl a)) (inr (inl b)) =
      let e : Some a.0 ≡ Some b.0 = sym a.1 ∙ b.1 in
      let same : a.0 ≡ b.0 = cc in a.2 ∙ ap g.automaton.expected same ∙ sym b.2
  same_kind front rest k l (inr (inl a)) (inr (inr b)) = absurd (a.4 b.1.more (same_head g.is_colon b.0 rest b.1.more b.1.same) b.1.goes_on)
  same_kind front rest k l (inr (inr a)) (inl b) = absurd (viable_lexical g look law front rest l a.0 b a.1)
  same_kind front rest k l (inr (inr a)) (inr (inl b)) = absurd (b.4 a.1.more (same_head g.is_colon a.0 rest a.1.more a.1.same) a.1.goes_on)
  same_kind front rest k l (inr (inr a)) (inr (inr b)) = both_wrong front rest k l a b

  -- symbols have one first fault at most
  pub one_first_fault : (symbols : List Symbol) (f h : Fault) → IsFirstFault g symbols f → IsFirstFault g symbols h → f ≡ h
  one_first_fault symbols f h F H =
      let same = same_front F.front F.rest H.front H.rest (sym F.divided ∙ H.divided) (equal_numbers (length F.rest) (length H.rest) (not_before symbols f h F H) (not_before symbols h f H F)) in
      let moved : AppliesAt g F.front F.rest H.kind = rw (same.0, same.1) H.applies in
      let kinds : F.kind ≡ H.kind = same_kind F.front F.rest F.kind H.kind F.applies moved in
      F.is ∙ ap (λ (k : Kind). g.automaton.fault k F.rest) kinds ∙ ap (λ (r : List Symbol). g.automaton.fault H.kind r) same.1 ∙ sym H.is

  applies_whole : (front rest : List Symbol) (k : Kind) (on : IsCompletedBy g front rest) → AppliesAt g front rest k → g.check on.program ≡ None → ⊥
  applies_whole front rest k on (inl a) e = law.none_lexical on.program front a.0 k a.1 a.3 (ap (λ (r : List Symbol). front ++ r) (sym a.2) ∙ on.derived)
  applies_whole front rest k on (inr (inl a)) e = a.4 rest (same_self rest) on
  applies_whole front rest k on (inr (inr a)) e = let bad : None ≡ Some (g.automaton.fault k rest) = sym e ∙ a.2 rest (role_self g.is_colon a.0 rest) on in absurd cc

  -- where a program is derived in which nothing is wrong, there is no fault
  pub passes_without : (q : Program) (symbols : List Symbol) (f : Fault) → Derives q → symbols ≡ g.text q → g.check q ≡ None → IsFirstFault g symbols f → ⊥
  passes_without q symbols f good is e F = applies_whole F.front F.rest F.kind (record { program = q; derives = good; derived = sym F.divided ∙ is }) F.applies e
