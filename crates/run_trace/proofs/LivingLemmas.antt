-- Each living thread was made by a step of the run, but for the first.
use Rattle.std.proofs.Common.{◌≡◌, ◌≢◌, ◌∙◌, arith, sym, ap, refl, subst, List, [], ◌∷◌, ◌++◌, ◌⊎◌, inl, inr, Bool, true, false, cond, Some, None}
use Rattle.std.specs.Prelude.{Option, IsSome, Contains, option_to_list}
use Rattle.std.proofs.lemmas.List.{append_assoc, append-nil}
use Rattle.std.proofs.lemmas.List.Elements.{Contains-append_left, Contains-append_right}
use Rattle.tree_node.specs.declared.names.ThreadName.{ThreadName}
use Rattle.tree_node.specs.declared.item.Item.TheVariants.{Run as Runs}
use Rattle.tree_node.specs.declared.pick.Pick.{Pick}
use Rattle.tree_node.specs.Assoc.{value_of, with_optional_value}
use Rattle.tree_node.specs.Env.{env_for}
use Rattle.tree_node.specs.State.{Stack, State, equal_thread}
use Rattle.tree_node.proofs.AssocLemmas.{value_of-goes_on-other}
use Rattle.tree_node.proofs.NameLemmas.{same_thread_decides}
use Rattle.kernel_syntax.specs.declared.stmt.Stmt.{Stmt}
use Rattle.kernel_syntax.specs.Free.{free}
use Rattle.oz_model.specs.Effect as model
use Rattle.oz_model.specs.Run.{IsRun, start, first_thread}
use Rattle.oz_model.specs.Step.{IsAllowed, effect_of, living_stack, next, stack_left, stack_of, threads_born}
use Rattle.run_trace.specs.declared.findings.Begun.{Begun}
use Rattle.run_trace.specs.declared.findings.Birth.{Birth}
use Rattle.run_trace.specs.Begun.{begun_with, last_begun}
use Rattle.run_trace.specs.Births.{name_born, birth_of, birth_in, births_from, births}
use Rattle.run_trace.specs.Laws.{BirthsAreAll}
use Rattle.run_trace.proofs.ReportLemmas.{IsGood, good_more, start_good}
use Rattle.run_trace.proofs.WaitLemmas.{Lives}

-- it is the first, or among these that were made
abbrev IsMade : List Birth → ThreadName → Type 0
IsMade bs n = (n ≡ first_thread) ⊎ ((b : Birth) × Contains bs b × (b.thread ≡ n))

made_more : (bs cs : List Birth) (n : ThreadName) → IsMade bs n → IsMade (bs ++ cs) n
made_more bs cs n (inl h) = inl h
made_more bs cs n (inr (b, h, e)) = inr (b, Contains-append_left bs cs b h, e)

-- each living thread is
abbrev pub AreMade : State → List Birth → Type 0
AreMade s bs = (n : ThreadName) → IsSome (value_of equal_thread s.threads n) → IsMade bs n

module _ (p : List Stmt) (s : State) (k : Pick) (before : List Begun) (allowed : IsAllowed p s k) (good : IsGood s before) (bs : List Birth) (all : AreMade s bs) where
  -- one that lived before
  old_made : (n : ThreadName) → Lives (with_optional_value equal_thread s.threads k.thread (living_stack (stack_left s (effect_of p s k)))) n → IsMade bs n
  old_made n lives = go (equal_thread k.thread n) refl
    where
      go : (b : Bool) → equal_thread k.thread n ≡ b → IsMade bs n
      go true e = subst (λ (m : ThreadName). IsMade bs m) ((same_thread_decides k.thread n).0 e) (all k.thread allowed.lives)
      go false e =
          let other : k.thread ≢ n = λ (f : k.thread ≡ n). let same : equal_thread k.thread n ≡ true = (same_thread_decides k.thread n).1 f in cc in
          all n (subst (λ (o : Option Stack). IsSome o) (value_of-goes_on-other equal_thread same_thread_decides s.threads k.thread n (living_stack (stack_left s (effect_of p s k))) other) lives)

  -- one that is made now
  new_made : (e : model.Birth) → (effect_of p s k).born ≡ Some e → (b : Birth) × (birth_in p (begun_with s k.thread before) s k ≡ Some b) × (b.thread ≡ e.name)
  new_made e is = go (good.began k.thread)
    where
      go : (stack_of s k.thread ≡ []) ⊎ ((b : Begun) × (last_begun (begun_with s k.thread before) k.thread ≡ Some b)) → (b : Birth) × (birth_in p (begun_with s k.thread before) s k ≡ Some b) × (b.thread ≡ e.name)
      go (inl none) =
          let nobody : (effect_of p s k).born ≡ None = ap (λ (st : Stack). (model.stack_effect p s.equations k.fresh k.bind st).born) none in
          absurd (cc)
      go (inr (b, last)) = (
        record { thread = e.name; maker = b.thread; code = b.code },
        ap (λ (o : Option Begun). birth_of o (name_born (effect_of p s k).born)) last ∙ ap (λ (o : Option model.Birth). birth_of (Some b) (name_born o)) is,
        refl,
      )

  pub born_more : AreMade (next p s k) (bs ++ option_to_list (birth_in p (begun_with s k.thread before) s k))
  born_more n = go (effect_of p s k).born refl
    where
      old : Lives (with_optional_value equal_thread s.threads k.thread (living_stack (stack_left s (effect_of p s k)))) n → IsMade (bs ++ option_to_list (birth_in p (begun_with s k.thread before) s k)) n
      old lives = made_more bs (option_to_list (birth_in p (begun_with s k.thread before) s k)) n (old_made n lives)

      here : (e : model.Birth) → (effect_of p s k).born ≡ Some e → e.name ≡ n → IsMade (bs ++ option_to_list (birth_in p (begun_with s k.thread before) s k)) n
      here e is same =
          let made = new_made e is in
          inr (
            made.0,
            Contains-append_right bs (option_to_list (birth_in p (begun_with s k.thread before) s k)) made.0
                (subst (λ (o : Option Birth). Contains (option_to_list o) made.0) (sym made.1) (0, omega arith, refl)),
            made.2 ∙ same,
          )

      go : (o : Option model.Birth) → (effect_of p s k).born ≡ o → Lives (threads_born p o ++ with_optional_value equal_thread s.threads k.thread (living_stack (stack_left s (effect_of p s k)))) n →
          IsMade (bs ++ option_to_list (birth_in p (begun_with s k.thread before) s k)) n
      go None e lives = old lives
      go (Some b) e lives = by (equal_thread b.name n) refl lives
        where
          by : (c : Bool) → equal_thread b.name n ≡ c → IsSome (cond c (Some (Runs b.code (env_for (free p b.code) b.vars) ∷ [])) (value_of equal_thread (with_optional_value equal_thread s.threads k.thread (living_stack (stack_left s (effect_of p s k)))) n)) →
              IsMade (bs ++ option_to_list (birth_in p (begun_with s k.thread before) s k)) n
          by true f h = here b e ((same_thread_decides b.name n).0 f)
          by false f h = old h

made_from : (p : List Stmt) (ks : List Pick) (before : List Begun) (s t : State) (bs : List Birth) → IsRun p s ks t → IsGood s before → AreMade s bs → AreMade t (bs ++ births_from p before s ks)
made_from p [] before s t bs run good all = subst (λ (cs : List Birth). AreMade t cs) (sym (append-nil bs)) (subst (λ (x : State). AreMade x bs) (sym run) all)
made_from p (k ∷ ks) before s t bs (m, step, run) good all =
    subst (λ (cs : List Birth). AreMade t cs) (append_assoc bs (option_to_list (birth_in p (begun_with s k.thread before) s k)) (births_from p (begun_with s k.thread before) (next p s k) ks))
    (made_from p ks (begun_with s k.thread before) (next p s k) t (bs ++ option_to_list (birth_in p (begun_with s k.thread before) s k)) (subst (λ (x : State). IsRun p x ks t) step.1 run)
    (good_more p s k before step.0 good) (born_more p s k before step.0 good bs all))

births_front : (p : List Stmt) (ks js : List Pick) (before : List Begun) (s : State) → (more : List Birth) × (births_from p before s (ks ++ js) ≡ births_from p before s ks ++ more)
births_front p [] js before s = (births_from p before s js, refl)
births_front p (k ∷ ks) js before s =
    let later = births_front p ks js (begun_with s k.thread before) (next p s k) in
    let here : List Birth = option_to_list (birth_in p (begun_with s k.thread before) s k) in
    (later.0, ap (λ (bs : List Birth). here ++ bs) later.1 ∙ sym (append_assoc here (births_from p (begun_with s k.thread before) (next p s k) ks) later.0))

start_made : (p : List Stmt) → AreMade (start p) []
start_made p n = go (equal_thread first_thread n) refl
  where
    go : (b : Bool) → equal_thread first_thread n ≡ b → IsSome (cond b (Some (model.body_item p (record { 0 = 0 }) [] ∷ [])) None) → IsMade [] n
    go true e h = inl (sym ((same_thread_decides first_thread n).0 e))
    go false e h = absurd (cc)

pub births_are_all : BirthsAreAll
births_are_all p front behind s n runs lives =
    let on = births_front p front behind [] (start p) in
    subst (λ (bs : List Birth). (n ≡ first_thread) ⊎ ((b : Birth) × Contains bs b × (b.thread ≡ n))) (sym on.1)
    (made_more (births p front) on.0 n (made_from p front [] (start p) s [] runs (start_good p) (start_made p) n lives))
