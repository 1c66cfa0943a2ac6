-- The worked examples of runs, computed.
use Rattle.std.proofs.Common.{arith, ◌≡◌, ◌≢◌, ◌∙◌, sym, ap, refl, subst, ℕ, ◌<◌, List, [], ◌∷◌, inl, inr, Some, None}
use Rattle.std.specs.Prelude.{Option, Bool, true, false, cond, take, IsSome, is_some, length, ◌&&◌, pos}
use Rattle.std.specs.Fmt.{digits}
use Rattle.tree_node.specs.declared.names.NameKind.TheVariants as kind
use Rattle.tree_node.specs.declared.names.Name.{Name}
use Rattle.tree_node.specs.declared.names.Name.TheVariants as name
use Rattle.tree_node.specs.declared.names.ThreadName.{ThreadName}
use Rattle.tree_node.specs.declared.node.Node.{Node}
use Rattle.tree_node.specs.declared.node.Node.TheVariants as node
use Rattle.tree_node.specs.declared.node.Term.TheVariants as term
use Rattle.tree_node.specs.declared.pick.Pick.{Pick}
use Rattle.tree_node.specs.Assoc.{value_of}
use Rattle.tree_node.specs.Goal.{IsAllowedBind}
use Rattle.tree_node.specs.Names.{IsNew}
use Rattle.tree_node.specs.Rows.{v}
use Rattle.tree_node.specs.Shown.{shown_within}
use Rattle.tree_node.specs.State.{Stack, State, equal_thread}
use Rattle.tree_node.specs.Store.{Equation}
use Rattle.tree_node.specs.Words.{reserved_words}
use Rattle.kernel_syntax.specs.declared.stmt.Stmt.{Stmt}
use Rattle.kernel_syntax.specs.Free.{free}
use Rattle.oz_model.specs.Need.{Need, Waits, WaitsAny, Binds, Takes, IsReady, IsWaiting, kinds_of, stack_need}
use Rattle.oz_model.specs.Step.{IsAllowed, AreFresh, IsBindFor, need_of, next}
use Rattle.oz_model.specs.Run.{AtRest, IsRun, first_thread, start}
use Rattle.oz_model.specs.Rows.{IntegerIsPrinted, FailureIsReported, UnboundIsAwaited, AtomIsPrinted, AtomIsPrintedToo, SkipEnds, AreRefused, IsRefused, RunsTo, MarksCatch}
use Rattle.oz_model.specs.Rows as rows
use Rattle.std.proofs.lemmas.Bool.{and_parts}

-- the pick has names where the need takes some, and a bind where it binds
abbrev fits : Need → List Name → Option Equation → Bool
fits (Takes []) [] None = true
fits (Takes (k ∷ ks)) (x ∷ xs) None = true
fits (Binds a b) [] (Some e) = true
fits _ _ _ = false

-- the threads of the picks live, and the picks fit what they need
abbrev all_fit : List Stmt → State → List Pick → Bool
all_fit p s [] = true
all_fit p s (k ∷ ks) =
    is_some (value_of equal_thread s.threads k.thread) && (fits (need_of p s k.thread) k.fresh k.bind && all_fit p (next p s k) ks)

-- what is left to be shown of a pick: that its names are fresh, and that its bind is lawful
abbrev Choice : State → Need → List Name → Option Equation → Type 0 → Type 0
Choice s need names (Some e) More = IsBindFor s.equations need (Some e) × More
Choice s need [] None More = More
Choice s need (x ∷ xs) None More = AreFresh s (kinds_of need) (x ∷ xs) × More

abbrev Choices : List Stmt → State → List Pick → Type 0
Choices p s [] = Unit {0}
Choices p s (k ∷ ks) = Choice s (need_of p s k.thread) k.fresh k.bind (Choices p (next p s k) ks)

abbrev end : List Stmt → State → List Pick → State
end p s [] = s
end p s (k ∷ ks) = end p (next p s k) ks

none_fresh : (s : State) → AreFresh s [] []
none_fresh s = record { of_kinds = tt; distinct = tt; unused = tt }

-- a pick that fits is allowed
allowed : (p : List Stmt) (s : State) (n : ThreadName) (names : List Name) (bind : Option Equation) (More : Type 0) →
    IsSome (value_of equal_thread s.threads n) → fits (need_of p s n) names bind ≡ true → Choice s (need_of p s n) names bind More →
    IsAllowed p s (record { thread = n; fresh = names; bind = bind }) × More
allowed p s n names bind More lives fit choice =
    let parts = go (need_of p s n) names bind fit choice in
    (record { lives = lives; ready = parts.0; fresh = parts.1; bind = parts.2 }, parts.3)
  where
    go : (need : Need) (names : List Name) (bind : Option Equation) → fits need names bind ≡ true → Choice s need names bind More →
        IsReady need × AreFresh s (kinds_of need) names × IsBindFor s.equations need bind × More
    go (Takes []) [] None e more = (tt, none_fresh s, tt, more)
    go (Takes (k ∷ ks)) (x ∷ xs) None e c = (tt, c.0, tt, c.1)
    go (Binds a b) [] (Some q) e c = (tt, none_fresh s, c.0, c.1)
    go (Takes []) [] (Some q) e c = cc
    go (Takes []) (x ∷ xs) bind e c = cc
    go (Takes (k ∷ ks)) [] bind e c = cc
    go (Takes (k ∷ ks)) (x ∷ xs) (Some q) e c = cc
    go (Binds a b) [] None e c = cc
    go (Binds a b) (x ∷ xs) bind e c = cc
    go (Waits x) names bind e c = cc
    go (WaitsAny q) names bind e c = cc

runs : (p : List Stmt) (s : State) (ks : List Pick) → all_fit p s ks ≡ true → Choices p s ks → IsRun p s ks (end p s ks)
runs p s [] e c = refl
runs p s (k ∷ ks) e c =
    let lives = and_parts (is_some (value_of equal_thread s.threads k.thread)) (fits (need_of p s k.thread) k.fresh k.bind && all_fit p (next p s k) ks) e in
    let fit = and_parts (fits (need_of p s k.thread) k.fresh k.bind) (all_fit p (next p s k) ks) lives.1 in
    let a = allowed p s k.thread k.fresh k.bind (Choices p (next p s k) ks) lives.0 fit.0 c in
    (next p s k, (a.0, refl), runs p (next p s k) ks fit.1 a.1)

-- a variable differs from later ones, and the thread's name from every variable
abbrev number : Name → ℕ
number (name.Var x) = x.num
number _ = 0

earlier : (m n : ℕ) → m < n → rows.new m ≢ rows.new n
earlier m n h e = let same : m ≡ n = ap number e in absurd (omega arith)

other_kind : (n : ℕ) → name.Thread first_thread ≢ rows.new n
other_kind n e = cc

-- a state is at rest without threads, and where its only thread waits
none_rests : (p : List Stmt) (s : State) → s.threads ≡ [] → AtRest p s
none_rests p s e n stack at =
    let none : ◌≡◌ {A = Option Stack} None (Some stack) = sym (ap (λ ts. value_of equal_thread ts n) e) ∙ at in
    absurd (cc)

one_rests : (p : List Stmt) (s : State) (st : Stack) → s.threads ≡ (first_thread, st) ∷ [] → IsWaiting (stack_need p s.equations st) → AtRest p s
one_rests p s st e waits n stack at = go (equal_thread first_thread n) (sym (ap (λ ts. value_of equal_thread ts n) e) ∙ at)
  where
    go : (b : Bool) → cond b (Some st) None ≡ Some stack → IsWaiting (stack_need p s.equations stack)
    go true same = let is : st ≡ stack = cc in subst (λ (x : Stack). IsWaiting (stack_need p s.equations x)) is waits
    go false same = absurd (cc)

-- the first name of a run
first_fresh : (p : List Stmt) → free p (rows.code 0) ≡ [] → AreFresh (start p) (kind.Var ∷ []) (rows.new 0 ∷ [])
first_fresh p e = record { of_kinds = (tt, tt); distinct = (tt, tt); unused = ((tt, tt, tt, ((other_kind 0, (rw e tt, tt)), tt)), tt) }

-- a state without threads in which a run has ended
pub ends : (p : List Stmt) (ks : List Pick) (lines : List (List ℕ)) (ended : ℕ) → all_fit p (start p) ks ≡ true → Choices p (start p) ks →
    (end p (start p) ks).threads ≡ [] → (end p (start p) ks).lines ≡ lines → (end p (start p) ks).ended ≡ ended → RunsTo p ks lines ended 0
ends p ks lines ended fit c none l n = (end p (start p) ks, runs p (start p) ks fit c, none_rests p (end p (start p) ks) none, l, n, ap length none)

-- a state whose only thread waits, in which a run has ended
pub waits : (p : List Stmt) (ks : List Pick) (lines : List (List ℕ)) (ended : ℕ) (st : Stack) → all_fit p (start p) ks ≡ true → Choices p (start p) ks →
    (end p (start p) ks).threads ≡ (first_thread, st) ∷ [] → IsWaiting (stack_need p (end p (start p) ks).equations st) → (end p (start p) ks).lines ≡ lines → (end p (start p) ks).ended ≡ ended → RunsTo p ks lines ended 1
waits p ks lines ended st fit c one waiting l n = (end p (start p) ks, runs p (start p) ks fit c, one_rests p (end p (start p) ks) st one waiting, l, n, ap length one)

pub integer_is_printed : IntegerIsPrinted
unfolding free shown_within digits
integer_is_printed =
    ends rows.prints_integer rows.integer_picks _ 1 refl (first_fresh rows.prints_integer refl, (inl ((refl, refl), refl), tt)) refl refl refl

-- before the failure the only variable is number 0
failure_new : (n : ℕ) → 0 < n → IsNew (end rows.tells_twice (start rows.tells_twice) (take 7 rows.failure_picks)) (rows.new n)
unfolding free
failure_new n h = (((earlier 0 n h, tt), tt), tt, tt, ((other_kind n, ((((earlier 0 n h, tt), tt), tt), tt)), tt))

failure_fresh : AreFresh (end rows.tells_twice (start rows.tells_twice) (take 7 rows.failure_picks)) (kind.Var ∷ kind.Var ∷ []) (rows.new 1 ∷ rows.new 2 ∷ [])
failure_fresh = record {
  of_kinds = (tt, (tt, tt));
  distinct = ((earlier 1 2 (omega arith), tt), (tt, tt));
  unused = (failure_new 1 (omega arith), (failure_new 2 (omega arith), tt));
}

pub failure_is_reported : FailureIsReported
unfolding free shown_within reserved_words
failure_is_reported =
    ends rows.tells_twice rows.failure_picks _ 1 refl
    (first_fresh rows.tells_twice refl, (inl ((refl, refl), refl), (failure_fresh, tt))) refl refl refl

pub unbound_is_awaited : UnboundIsAwaited
unfolding free shown_within
unbound_is_awaited =
    let p = rows.prints_unbound in
    let s = end p (start p) rows.unbound_picks in
    (s, runs p (start p) rows.unbound_picks refl (first_fresh p refl, tt), one_rests p s _ refl tt, refl, refl, refl)

atom_fresh : AreFresh (start rows.prints_atom) (kind.Var ∷ kind.Var ∷ []) (rows.new 0 ∷ rows.new 1 ∷ [])
unfolding free
atom_fresh = record {
  of_kinds = (tt, (tt, tt));
  distinct = ((earlier 0 1 (omega arith), tt), (tt, tt));
  unused = ((tt, tt, tt, ((other_kind 0, (tt, tt)), tt)), ((tt, tt, tt, ((other_kind 1, (tt, tt)), tt)), tt));
}

pub atom_is_printed : AtomIsPrinted
unfolding free shown_within reserved_words
atom_is_printed =
    ends rows.prints_atom rows.atom_picks _ 1 refl
    (atom_fresh, (inr ((refl, refl), refl), (inl ((refl, refl), refl), tt))) refl refl refl

pub atom_is_printed_too : AtomIsPrintedToo
unfolding free shown_within reserved_words
atom_is_printed_too =
    ends rows.prints_atom rows.upward_picks _ 1 refl
    (atom_fresh, (inl ((refl, refl), refl), (inl ((refl, refl), refl), tt))) refl refl refl

pub skip_ends : SkipEnds
unfolding free
skip_ends = ends rows.skips (rows.plain ∷ []) _ 1 refl tt refl refl refl

-- the state after picks that fit refuses what it does not allow
refused : (p : List Stmt) (ks : List Pick) (k : Pick) → all_fit p (start p) ks ≡ true → Choices p (start p) ks →
    (IsAllowed p (end p (start p) ks) k → ⊥) → IsRefused p ks k
refused p ks k fit c never = (end p (start p) ks, runs p (start p) ks fit c, never)

pub are_refused : AreRefused
unfolding free shown_within
are_refused = record {
  thread = refused rows.skips [] _ refl tt (λ a. let none : false ≡ true = a.lives in absurd (cc));
  spare = refused rows.skips [] _ refl tt (λ a. a.fresh.of_kinds);
  unasked = refused rows.skips [] _ refl tt (λ a. a.bind);
  ended = refused rows.skips (rows.plain ∷ []) _ refl tt (λ a. let none : false ≡ true = a.lives in absurd (cc));
  waiting = refused rows.prints_unbound rows.unbound_picks _ refl (first_fresh rows.prints_unbound refl, tt) (λ a. a.ready);
  unbound = refused rows.prints_integer (take 3 rows.integer_picks) _ refl (first_fresh rows.prints_integer refl, tt) (λ a. a.bind);
  other = refused rows.prints_integer (take 3 rows.integer_picks) _ refl (first_fresh rows.prints_integer refl, tt) (λ a. other_value a.bind);
  used = refused rows.tells_twice (take 7 rows.failure_picks) _ refl (first_fresh rows.tells_twice refl, (inl ((refl, refl), refl), tt)) (λ a. a.fresh.unused.0.0.0.0 refl);
  same = refused rows.tells_twice (take 7 rows.failure_picks) _ refl (first_fresh rows.tells_twice refl, (inl ((refl, refl), refl), tt)) (λ a. a.fresh.distinct.0.0 refl);
}
  where
    -- 5 allows no bind to 6
    other_value : IsAllowedBind [] (term.Var (v 0)) (term.Node (node.Int (pos 5))) (v 0, term.Node (node.Int (pos 6))) → ⊥
    other_value (inl h) = let same : ◌≡◌ {A = Option Node} (Some (node.Int (pos 5))) (Some (node.Int (pos 6))) = h.1 in absurd (cc)
    other_value (inr h) = h.0

pub marks_catch : MarksCatch
unfolding shown_within
marks_catch = record { caught = refl; reported = refl; waits = refl }
