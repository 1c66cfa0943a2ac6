-- A fault stands at one of the symbols, where texts of the language end once.
use Rattle.std.proofs.Common.{◌≡◌, ◌<◌, ◌≤◌, List, [], ◌∷◌, ◌++◌, length, Option, Some, None, refl, sym, ap, subst, ◌∙◌, arith, append_assoc, length-append}
use Rattle.std.proofs.lemmas.List.{append-nil}
use Rattle.oz_grammar.specs.Automata.{Automaton, read, onward, state_behind, Grammar, Look}
use Rattle.oz_grammar.proofs.FirstFaults.{IsRead, behind_clean, stopped, kind_at, same_head}

module _ {Symbol Kind Fault State : Type 0} (a : Automaton Symbol Kind Fault State) where
  -- the last of these symbols, and the state before it
  record LastStep (front : List Symbol) (s u : State) : Type 0 where
    before : List Symbol
    symbol : Symbol
    state : State
    divided : front ≡ before ++ symbol ∷ []
    behind : state_behind a before s ≡ Some state
    leads : a.next state symbol ≡ Some u

  further : (x : Symbol) (front : List Symbol) (s r u : State) → a.next s x ≡ Some r → LastStep front r u → LastStep (x ∷ front) s u
  further x front s r u n l = record {
    before = x ∷ l.before;
    symbol = l.symbol;
    state = l.state;
    divided = ap (λ (xs : List Symbol). x ∷ xs) l.divided;
    behind = ap (onward (state_behind a l.before)) n ∙ l.behind;
    leads = l.leads;
  }

  last_step : (x : Symbol) (front : List Symbol) (s u : State) (o : Option State) → a.next s x ≡ o → onward (state_behind a front) o ≡ Some u → LastStep (x ∷ front) s u
  last_step x front s u None n e = absurd cc
  last_step x [] s u (Some r) n e = record { before = []; symbol = x; state = s; divided = refl; behind = refl; leads = n ∙ e }
  last_step x (y ∷ front) s u (Some r) n e = further x (y ∷ front) s r u n (last_step y front r u (a.next r y) refl e)

-- Symbols that end a text are followed by none, and those of each program end one.
pub record EndsOnce {Symbol Kind Fault Program : Type 0} {Derives : Program → Type 0} {State : Type 0} (g : Grammar Symbol Kind Fault Program Derives State) (Ends : List Symbol → Type 0) : Type 0 where
  pub some : Ends [] → ⊥
  pub none_behind : (front more : List Symbol) → Ends front → Ends (front ++ more) → more ≡ []
  pub programs : (q : Program) → Ends (g.text q)

module _ {Symbol Kind Fault Program : Type 0} {Derives : Program → Type 0} {State : Type 0} (g : Grammar Symbol Kind Fault Program Derives State) (look : State → Symbol → Look) (law : IsRead g look) (Ends : List Symbol → Type 0) (ends : EndsOnce g Ends) where
  -- a program does not end before more is to come
  not_at_end : (front : List Symbol) (s : State) → Ends front → read g.automaton front g.start ≡ Some (g.automaton.fault (g.automaton.expected s) []) → LastStep g.automaton front g.start s → ⊥
  not_at_end front s once found l =
      let v = law.through l.before l.state s l.symbol [] l.behind l.leads in
      let more = same_head g.is_colon (look l.state l.symbol) (l.symbol ∷ []) v.more v.same in
      let is : front ++ more.0 ≡ g.text v.goes_on.program = ap (λ (xs : List Symbol). xs ++ more.0) l.divided ∙ append_assoc l.before (l.symbol ∷ []) more.0 ∙ ap (λ (xs : List Symbol). l.before ++ xs) (sym more.1) ∙ v.goes_on.derived in
      let none : more.0 ≡ [] = ends.none_behind front more.0 once (subst Ends (sym is) (ends.programs v.goes_on.program)) in
      let whole : front ≡ g.text v.goes_on.program = sym (append-nil front) ∙ ap (λ (xs : List Symbol). front ++ xs) (sym none) ∙ is in
      law.none_expected v.goes_on.program s [] (sym (law.reads v.goes_on.program v.goes_on.derives) ∙ ap (λ (xs : List Symbol). read g.automaton xs g.start) (sym whole) ∙ found)

  -- reading does not stop behind all symbols of a text
  some_left : (front rest : List Symbol) (s : State) (kind : Kind) → Ends (front ++ rest) → read g.automaton (front ++ rest) g.start ≡ Some (g.automaton.fault kind rest) → state_behind g.automaton front g.start ≡ Some s → kind_at g.automaton s rest ≡ Some kind → 0 < length rest
  some_left front (x ∷ rest) s kind once found e k = omega arith
  some_left [] [] s kind once found e k = absurd (ends.some once)
  some_left (y ∷ front) [] s kind once found e k =
      let same : g.automaton.expected s ≡ kind = cc in
      let at_end : read g.automaton (y ∷ front) g.start ≡ Some (g.automaton.fault kind []) = ap (λ (xs : List Symbol). read g.automaton xs g.start) (sym (append-nil (y ∷ front))) ∙ found in
      absurd (not_at_end (y ∷ front) s (subst Ends (append-nil (y ∷ front)) once) (at_end ∙ ap (λ (l : Kind). Some (g.automaton.fault l [])) (sym same)) (last_step g.automaton y front g.start s (g.automaton.next g.start y) refl e))

  -- a fault stands at one of the symbols
  pub fault_stands : (symbols : List Symbol) (f : Fault) → Ends symbols → read g.automaton symbols g.start ≡ Some f → (kind : Kind) × (rest : List Symbol) × (f ≡ g.automaton.fault kind rest) × (0 < length rest) × (length rest ≤ length symbols)
  fault_stands symbols f once found =
      let s = stopped g.automaton symbols g.start f found in
      let whole : read g.automaton (s.front ++ s.rest) g.start ≡ Some (g.automaton.fault s.kind s.rest) = ap (λ (xs : List Symbol). read g.automaton xs g.start) (sym s.divided) ∙ found ∙ ap Some s.is in
      let some = some_left s.front s.rest s.state s.kind (subst Ends s.divided once) whole (behind_clean g.automaton s.front s.rest g.start s.state s.clean) s.is_kind in
      let lengths : length symbols ≡ length (s.front ++ s.rest) = ap length s.divided in
      (s.kind, s.rest, s.is, some, omega (arith, lengths, length-append s.front s.rest))
