-- A derivation is read from the points, with the faults that its check finds.
use Rattle.std.proofs.Common.{◌≡◌, ◌∙◌, ℕ, zero, suc, ◌+◌, ◌<◌, ◌≤◌, List, [], ◌∷◌, ◌++◌, Bool, true, false, Option, Some, None, refl, sym, ap, arith}
use Rattle.std.proofs.lemmas.Bool.{lt-ltb}
use Rattle.std.specs.Prelude.{◌-◌, ◌&&◌, nat_lt}
use Rattle.tree_node.specs.declared.node.Feature.{Feature}
use Rattle.kernel_syntax.specs.declared.built_in.BuiltIn.{BuiltIn}
use Rattle.kernel_syntax.specs.declared.built_in.BuiltIn.TheVariants as built
use Rattle.kernel_syntax.specs.BuiltIns.{arity_of}
use Rattle.oz_grammar.specs.declared.symbol.Symbol.{Symbol}
use Rattle.oz_grammar.specs.declared.symbol.Symbol.TheVariants as t
use Rattle.oz_grammar.specs.declared.symbol.Sign.TheVariants as sign
use Rattle.oz_grammar.specs.declared.fault.Fault.{Fault}
use Rattle.oz_grammar.specs.declared.fault.FaultKind.{FaultKind}
use Rattle.oz_grammar.specs.Grammar.{AtomFeature, IntFeature, selection_symbol, names_text, pattern_text}
use Rattle.oz_grammar.specs.Scoping.{Scope, built_in_at, place_feature, feature_of, pattern_names}
use Rattle.oz_grammar.specs.declared.fault.FaultKind.TheVariants.{Wide}
use Rattle.oz_grammar.specs.Faults.{where_not, fewer, deep_fault, use_fault, called_fault, site_fault}
use Rattle.oz_grammar.specs.Check.{first_fault, check_locals, check_pattern}
use Rattle.oz_grammar.specs.Points.{Stage, First, AfterThread, Later}
use Rattle.surface_grammar.specs.Derivations.{Primary, Variable, Integer, Atom, Record, Calls, Procedure, Function, Brackets, Selects, Tail, Last, More, Value, Alone, Calculates, Tests, Pairs, IfValue, CaseValue, Arguments, no_arguments, argument_and, no_fields, placed_and, named_and, ValueClauses, no_clauses, clause_and, Statement, Skips, Tells, CallsStatement, Raises, Locals, ProcNamed, FunNamed, Threads, ThreadsAt, Ifs, Cases, Tries, TriesFinally, Finally, Clauses, no_cases, case_and, Sequence, One, Then, primary_text, tail_text, value_text, arguments_text, fields_text, value_clauses_text, statement_text, clauses_text, sequence_text, program_text, is_atom, tail_ends_in_atom, ends_in_atom, begins_round, StaysBare, count_arguments, HasAllArguments, LacksOneArgument, PrimaryDerives, TailDerives, ValueDerives, ArgumentsDerive, FieldsDerive, ValueClausesDerive, StatementDerives, ClausesDerive, SequenceDerives, IsDerivation}
use Rattle.surface_grammar.specs.Derivations as tree
use Rattle.oz_grammar.specs.Automata.{is_done}
use Rattle.surface_grammar.specs.declared.parts.CallUse.TheVariants.{AsValue, AsStatement}
use Rattle.surface_grammar.specs.declared.parts.Callable.TheVariants.{OfProc, OfFun}
use Rattle.surface_grammar.specs.Points.{Extent, Whole, Part, Rest, OfValue, OfStatements, Closing, Ends, BeforeElse, InClause, InTry, InHandler, WithText, Point, At, Here, Formals, ValueOf, OperandOf, TailOf, Behind, BehindAtom, FieldOf, CallName, Wanted, ClauseEnd, value_fault, given_fault, named_fault, argument_fault, next_call, behind_placed, run, start}
use Rattle.surface_grammar.specs.Points as points
use Rattle.surface_grammar.specs.Check.{levels_behind, most_arguments, check_formals, check_primary, check_tail, check_value, check_arguments, check_fields, check_value_clauses, check_statement, check_clauses, check_sequence, check}
use Rattle.surface_grammar.proofs.Starts.{stops, is_no_colon, stops_no_colon, primary_behind, atom_behind, IsStart, IsValueStart, value_start, operand_start, tail_start, argument_start, wanted_start, field_start}
use Rattle.surface_grammar.proofs.PartRuns.{locals_run, formals_run, selection_run, pattern_run}

-- ---- what follows values

pub and_false : (b : Bool) → (b && false) ≡ false
and_false true = refl
and_false false = refl

primary_stops : (p : Primary) (rest : List Symbol) → stops (primary_text p rest) ≡ true
primary_stops (Variable x) rest = refl
primary_stops (Integer n) rest = refl
primary_stops (Atom a) rest = refl
primary_stops (Record a fs) rest = refl
primary_stops (Calls p vs) rest = refl
primary_stops (Procedure xs q) rest = refl
primary_stops (Function xs v) rest = refl
primary_stops (Brackets v) rest = refl
primary_stops (Selects p s) rest = primary_stops p (t.Dot ∷ selection_symbol s ∷ rest)

value_stops : (v : Value) (rest : List Symbol) → stops (value_text v rest) ≡ true
value_stops (Alone p) rest = primary_stops p rest
value_stops (Calculates p o q) rest = primary_stops p _
value_stops (Tests p o q) rest = primary_stops p _
value_stops (Pairs p l) rest = primary_stops p _
value_stops (IfValue e a b) rest = refl
value_stops (CaseValue e p v cs b) rest = refl

primary_round : (p : Primary) (a b : List Symbol) → begins_round (primary_text p a) ≡ begins_round (primary_text p b)
primary_round (Variable x) a b = refl
primary_round (Integer n) a b = refl
primary_round (Atom x) a b = refl
primary_round (Record x fs) a b = refl
primary_round (Calls p vs) a b = refl
primary_round (Procedure xs q) a b = refl
primary_round (Function xs v) a b = refl
primary_round (Brackets v) a b = refl
primary_round (Selects p s) a b = primary_round p (t.Dot ∷ selection_symbol s ∷ a) (t.Dot ∷ selection_symbol s ∷ b)

value_round : (v : Value) (a b : List Symbol) → begins_round (value_text v a) ≡ begins_round (value_text v b)
value_round (Alone p) a b = primary_round p a b
value_round (Calculates p o q) a b = primary_round p _ _
value_round (Tests p o q) a b = primary_round p _ _
value_round (Pairs p l) a b = primary_round p _ _
value_round (IfValue e x y) a b = refl
value_round (CaseValue e p v cs x) a b = refl

pub arguments_round : (vs : Arguments) (rest : List Symbol) → begins_round (arguments_text vs (t.CloseCurly ∷ rest)) ≡ begins_round (arguments_text vs [])
arguments_round no_arguments rest = refl
arguments_round (argument_and v vs) rest = value_round v _ _

pub arguments_stop : (vs : Arguments) (rest : List Symbol) → stops (arguments_text vs (t.CloseCurly ∷ rest)) ≡ true
arguments_stop no_arguments rest = refl
arguments_stop (argument_and v vs) rest = value_stops v _

pub fields_round : (fs : tree.Fields) (rest : List Symbol) → begins_round (fields_text fs (t.CloseRound ∷ rest)) ≡ begins_round (fields_text fs [])
fields_round no_fields rest = refl
fields_round (placed_and v fs) rest = value_round v _ _
fields_round (named_and (AtomFeature a) v fs) rest = refl
fields_round (named_and (IntFeature n) v fs) rest = refl

pub fields_stop : (fs : tree.Fields) (rest : List Symbol) → stops (fields_text fs (t.CloseRound ∷ rest)) ≡ true
fields_stop no_fields rest = refl
fields_stop (placed_and v fs) rest = value_stops v _
fields_stop (named_and (AtomFeature a) v fs) rest = refl
fields_stop (named_and (IntFeature n) v fs) rest = refl

-- the first symbol goes on with no value before it, and makes no atom a label
abbrev pub closes : List Symbol → Bool
closes [] = false
closes (t.Dot ∷ rest) = false
closes (t.Operator o ∷ rest) = false
closes (t.Test o ∷ rest) = false
closes (t.Bar ∷ rest) = false
closes (t.Colon ∷ rest) = false
closes (t.OpenRound ∷ rest) = false
closes (symbol ∷ rest) = true

pub closes_stops : (rest : List Symbol) → closes rest ≡ true → stops rest ≡ true
closes_stops [] e = absurd cc
closes_stops (t.Dot ∷ rest) e = absurd cc
closes_stops (t.Operator o ∷ rest) e = absurd cc
closes_stops (t.Test o ∷ rest) e = absurd cc
closes_stops (t.Bar ∷ rest) e = absurd cc
closes_stops (t.Colon ∷ rest) e = absurd cc
closes_stops (t.OpenRound ∷ rest) e = absurd cc
closes_stops (s ∷ rest) e = refl

pub closes_bare : (v : Value) (rest : List Symbol) → closes rest ≡ true → StaysBare v rest
closes_bare v [] e = absurd cc
closes_bare v (t.OpenRound ∷ rest) e = absurd cc
closes_bare v (s ∷ rest) e = and_false (ends_in_atom v)

statement_closes : (s : Statement) (rest : List Symbol) → closes (statement_text s rest) ≡ true
statement_closes Skips rest = refl
statement_closes (Tells x v) rest = refl
statement_closes (CallsStatement p vs) rest = refl
statement_closes (Raises v) rest = refl
statement_closes (Locals x xs q) rest = refl
statement_closes (ProcNamed x xs q) rest = refl
statement_closes (FunNamed x xs v) rest = refl
statement_closes (Threads q) rest = refl
statement_closes (ThreadsAt n q) rest = refl
statement_closes (Ifs e q r) rest = refl
statement_closes (Cases e p q cs r) rest = refl
statement_closes (Tries q x r) rest = refl
statement_closes (TriesFinally q x r u) rest = refl
statement_closes (Finally q u) rest = refl

pub sequence_closes : (q : Sequence) (rest : List Symbol) → closes (sequence_text q rest) ≡ true
sequence_closes (One s) rest = statement_closes s rest
sequence_closes (Then s q) rest = statement_closes s _

pub value_clauses_close : (cs : ValueClauses) (rest : List Symbol) → closes (value_clauses_text cs (t.Else ∷ rest)) ≡ true
value_clauses_close no_clauses rest = refl
value_clauses_close (clause_and p v cs) rest = refl

pub clauses_close : (cs : Clauses) (rest : List Symbol) → closes (clauses_text cs (t.Else ∷ rest)) ≡ true
clauses_close no_cases rest = refl
clauses_close (case_and p q cs) rest = refl

pub moved_bare : (v : Value) (a b : List Symbol) → begins_round a ≡ begins_round b → StaysBare v b → StaysBare v a
moved_bare v a b e h = ap (λ (x : Bool). ends_in_atom v && x) e ∙ h

-- ---- calls

arity_few : (b : BuiltIn) → arity_of b ≤ 3
arity_few built.Browse = omega arith
arity_few built.Wait = omega arith
arity_few built.NewCell = omega arith
arity_few built.Exchange = omega arith
arity_few built.NewPort = omega arith
arity_few built.Send = omega arith
arity_few built.NewCellAt = omega arith

few_fault : (b : Bool) → b ≡ true → where_not b Wide ≡ None
few_fault true e = refl
few_fault false e = absurd cc

-- one of so few arguments is none too many
no_fault : (n most : ℕ) → n < most → argument_fault n most ≡ None
no_fault n most lt = few_fault (nat_lt n most) (lt-ltb n most lt)

abbrev ArgumentsLaw : Arguments → Scope → List Symbol → List Point → Type 0
ArgumentsLaw vs scope rest σ = (d n most : ℕ) → run (arguments_text vs (t.CloseCurly ∷ rest)) (points.Arguments scope d n most ∷ σ) ≡ check_arguments vs scope d n most (t.CloseCurly ∷ rest) (run rest σ)

abbrev WantedLaw : Arguments → Scope → List Symbol → List Point → Type 0
WantedLaw vs scope rest σ =
    (d k n : ℕ) → count_arguments vs ≡ k → n + k ≤ 64 → run (arguments_text vs (t.CloseCurly ∷ rest)) (Wanted scope d k ∷ σ) ≡ check_arguments vs scope d n 64 (t.CloseCurly ∷ rest) (run rest σ)

value_call : (o : Option BuiltIn) (vs : Arguments) (scope : Scope) (d : ℕ) (rest : List Symbol) (σ : List Point) → LacksOneArgument o vs → ArgumentsLaw vs scope rest σ → WantedLaw vs scope rest σ
    → run (arguments_text vs (t.CloseCurly ∷ rest)) (next_call AsValue scope d o ++ σ) ≡ check_arguments vs scope d 0 (most_arguments o 63) (t.CloseCurly ∷ rest) (run rest σ)
value_call None vs scope d rest σ good all wanted = all d 0 63
value_call (Some b) vs scope d rest σ good all wanted = let few = arity_few b in wanted d (arity_of b - 1) 0 (omega (arith, good)) (omega (arith, few))

statement_call : (o : Option BuiltIn) (vs : Arguments) (scope : Scope) (d : ℕ) (rest : List Symbol) (σ : List Point) → HasAllArguments o vs → ArgumentsLaw vs scope rest σ → WantedLaw vs scope rest σ
    → run (arguments_text vs (t.CloseCurly ∷ rest)) (next_call AsStatement scope d o ++ σ) ≡ check_arguments vs scope d 0 (most_arguments o 64) (t.CloseCurly ∷ rest) (run rest σ)
statement_call None vs scope d rest σ good all wanted = all d 0 64
statement_call (Some b) vs scope d rest σ good all wanted = let few = arity_few b in wanted d (arity_of b) 0 good (omega (arith, few))

-- ---- values and statements

mutual
  pub primary_run : (p : Primary) (q : Point) (extent : Extent) (scope : Scope) (d : ℕ) (holder : Option FaultKind) (others : List Point) (rest : List Symbol) (σ : List Point) → IsStart q extent scope d holder others → PrimaryDerives p scope → is_no_colon rest ≡ true
      → (is_atom p && begins_round rest) ≡ false → run (primary_text p rest) (q ∷ σ) ≡ check_primary p scope d holder rest (run rest (Behind extent scope d (levels_behind p d) ∷ (others ++ σ)))
  primary_run (Variable x) q extent scope d holder others rest σ start good colon bare = start.begins (t.Variable x) rest σ (Behind extent scope d d ∷ []) refl colon refl
  primary_run (Integer n) q extent scope d holder others rest σ start good colon bare = start.begins (t.Integer n) rest σ (Behind extent scope d (fewer d) ∷ []) refl colon refl
  primary_run (Atom a) q extent scope d holder others rest σ start good colon bare =
      start.begins (t.Atom a) rest σ (BehindAtom extent scope d ∷ []) refl colon refl ∙ ap (first_fault (value_fault scope d holder (t.Atom a)) (t.Atom a ∷ rest)) (atom_behind extent scope d rest (others ++ σ) bare)
  primary_run (Record a fs) q extent scope d holder others rest σ start good colon bare =
      start.begins (t.Atom a) (t.OpenRound ∷ fields_text fs (t.CloseRound ∷ rest)) σ (BehindAtom extent scope d ∷ []) refl refl refl
      ∙ ap (first_fault (value_fault scope d holder (t.Atom a)) _) (fields_run fs scope (fewer d) 64 [] 1 rest (Behind extent scope d (fewer d) ∷ (others ++ σ)) good)
  primary_run (Calls p vs) q extent scope d holder others rest σ start good colon bare =
      start.begins t.OpenCurly (t.Variable p ∷ arguments_text vs (t.CloseCurly ∷ rest)) σ (CallName AsValue scope (fewer d) ∷ Behind extent scope d (fewer d) ∷ []) refl refl refl
      ∙ ap (λ (f : Option Fault). first_fault (value_fault scope d holder t.OpenCurly) (primary_text (Calls p vs) rest) (first_fault (called_fault (built_in_at scope p) scope p) (t.Variable p ∷ arguments_text vs (t.CloseCurly ∷ rest)) f))
      (value_call (built_in_at scope p) vs scope (fewer d) rest (Behind extent scope d (fewer d) ∷ (others ++ σ)) good.0
      (λ e n most. arguments_run vs scope e n most rest (Behind extent scope d (fewer d) ∷ (others ++ σ)) good.1) (λ e k n all few. wanted_run vs scope e k n rest (Behind extent scope d (fewer d) ∷ (others ++ σ)) good.1 all few))
  primary_run (Procedure xs b) q extent scope d holder others rest σ start good colon bare =
      start.begins t.Proc (t.OpenCurly ∷ t.Dollar ∷ names_text xs (t.CloseCurly ∷ sequence_text b (t.End ∷ rest))) σ (Here sign.OpenCurly ∷ Here sign.Dollar ∷ Formals OfProc scope [] (fewer d) ∷ Behind extent scope d (fewer d) ∷ []) refl refl refl
      ∙ ap (first_fault (value_fault scope d holder t.Proc) _)
      (formals_run xs [] OfProc scope (fewer d) (sequence_text b (t.End ∷ rest)) (Behind extent scope d (fewer d) ∷ (others ++ σ))
      ∙ ap (check_formals OfProc [] xs (t.CloseCurly ∷ sequence_text b (t.End ∷ rest))) (sequence_run b First Ends (scope ++ xs) (fewer d) (t.End ∷ rest) (Behind extent scope d (fewer d) ∷ (others ++ σ)) refl good))
  primary_run (Function xs v) q extent scope d holder others rest σ start good colon bare =
      start.begins t.Fun (t.OpenCurly ∷ t.Dollar ∷ names_text xs (t.CloseCurly ∷ value_text v (t.End ∷ rest))) σ (Here sign.OpenCurly ∷ Here sign.Dollar ∷ Formals OfFun scope [] (fewer d) ∷ Behind extent scope d (fewer d) ∷ []) refl refl refl
      ∙ ap (first_fault (value_fault scope d holder t.Fun) _)
      (formals_run xs [] OfFun scope (fewer d) (value_text v (t.End ∷ rest)) (Behind extent scope d (fewer d) ∷ (others ++ σ))
      ∙ ap (check_formals OfFun [] xs (t.CloseCurly ∷ value_text v (t.End ∷ rest)))
      (value_run v (ValueOf (scope ++ xs) (fewer d)) (scope ++ xs) (fewer d) None [] (t.End ∷ rest) (Here sign.End ∷ Behind extent scope d (fewer d) ∷ (others ++ σ)) (value_start (scope ++ xs) (fewer d)) good refl (and_false (ends_in_atom v)) refl))
  primary_run (Brackets v) q extent scope d holder others rest σ start good colon bare =
      start.begins t.OpenRound (value_text v (t.CloseRound ∷ rest)) σ (ValueOf scope (fewer d) ∷ Here sign.CloseRound ∷ Behind extent scope d (fewer d) ∷ []) refl (stops_no_colon _ (value_stops v (t.CloseRound ∷ rest))) refl
      ∙ ap (first_fault (value_fault scope d holder t.OpenRound) _)
      (value_run v (ValueOf scope (fewer d)) scope (fewer d) None [] (t.CloseRound ∷ rest) (Here sign.CloseRound ∷ Behind extent scope d (fewer d) ∷ (others ++ σ)) (value_start scope (fewer d)) good refl (and_false (ends_in_atom v)) refl)
  primary_run (Selects p s) q extent scope d holder others rest σ start good colon bare =
      primary_run p q extent scope d holder others (t.Dot ∷ selection_symbol s ∷ rest) σ start good refl (and_false (is_atom p))
      ∙ ap (check_primary p scope d holder (t.Dot ∷ selection_symbol s ∷ rest)) (selection_run s extent scope d (levels_behind p d) rest (others ++ σ))

  pub tail_run : (l : Tail) (scope : Scope) (d : ℕ) (rest : List Symbol) (σ : List Point) → TailDerives l scope → is_done σ ≡ false → stops rest ≡ true → (tail_ends_in_atom l && begins_round rest) ≡ false
      → run (tail_text l rest) (TailOf scope d ∷ σ) ≡ check_tail l scope d rest (run rest σ)
  tail_run (Last p) scope d rest σ good goes ends bare =
      primary_run p (TailOf scope d) Rest scope d None [] rest σ (tail_start scope d) good (stops_no_colon rest ends) bare
      ∙ ap (check_primary p scope d None rest) (primary_behind Rest scope d (levels_behind p d) rest σ goes ends)
  tail_run (More p l) scope d rest σ good goes ends bare =
      primary_run p (TailOf scope d) Rest scope d None [] (t.Bar ∷ tail_text l rest) σ (tail_start scope d) good.0 refl (and_false (is_atom p))
      ∙ ap (λ (f : Option Fault). check_primary p scope d None (t.Bar ∷ tail_text l rest) (first_fault (deep_fault (levels_behind p d)) (t.Bar ∷ tail_text l rest) f)) (tail_run l scope (fewer d) rest σ good.1 goes ends bare)

  pub value_run : (v : Value) (q : Point) (scope : Scope) (d : ℕ) (holder : Option FaultKind) (others : List Point) (rest : List Symbol) (σ : List Point) → IsValueStart q scope d holder others → ValueDerives v scope → stops rest ≡ true → StaysBare v rest
      → is_done (others ++ σ) ≡ false → run (value_text v rest) (q ∷ σ) ≡ check_value v scope d holder rest (run rest (others ++ σ))
  value_run (Alone p) q scope d holder others rest σ start good ends bare goes =
      primary_run p q Whole scope d holder others rest σ start.start good (stops_no_colon rest ends) bare
      ∙ ap (check_primary p scope d holder rest) (primary_behind Whole scope d (levels_behind p d) rest (others ++ σ) goes ends)
  value_run (Calculates p o r) q scope d holder others rest σ start good ends bare goes =
      primary_run p q Whole scope d holder others (t.Operator o ∷ primary_text r rest) σ start.start good.0 refl (and_false (is_atom p))
      ∙ ap (λ (f : Option Fault). check_primary p scope d holder (t.Operator o ∷ primary_text r rest) (first_fault (deep_fault (levels_behind p d)) (t.Operator o ∷ primary_text r rest) f))
      (primary_run r (OperandOf scope (fewer d)) Part scope (fewer d) None [] rest (others ++ σ) (operand_start scope (fewer d)) good.1 (stops_no_colon rest ends) bare
      ∙ ap (check_primary r scope (fewer d) None rest) (primary_behind Part scope (fewer d) (levels_behind r (fewer d)) rest (others ++ σ) goes ends))
  value_run (Tests p o r) q scope d holder others rest σ start good ends bare goes =
      primary_run p q Whole scope d holder others (t.Test o ∷ primary_text r rest) σ start.start good.0 refl (and_false (is_atom p))
      ∙ ap (λ (f : Option Fault). check_primary p scope d holder (t.Test o ∷ primary_text r rest) (first_fault (deep_fault (levels_behind p d)) (t.Test o ∷ primary_text r rest) f))
      (primary_run r (OperandOf scope (fewer d)) Part scope (fewer d) None [] rest (others ++ σ) (operand_start scope (fewer d)) good.1 (stops_no_colon rest ends) bare
      ∙ ap (check_primary r scope (fewer d) None rest) (primary_behind Part scope (fewer d) (levels_behind r (fewer d)) rest (others ++ σ) goes ends))
  value_run (Pairs p l) q scope d holder others rest σ start good ends bare goes =
      primary_run p q Whole scope d holder others (t.Bar ∷ tail_text l rest) σ start.start good.0 refl (and_false (is_atom p))
      ∙ ap (λ (f : Option Fault). check_primary p scope d holder (t.Bar ∷ tail_text l rest) (first_fault (deep_fault (levels_behind p d)) (t.Bar ∷ tail_text l rest) f)) (tail_run l scope (fewer d) rest (others ++ σ) good.1 goes ends bare)
  value_run (IfValue e a b) q scope d holder others rest σ start good ends bare goes =
      start.ifs _ σ
      ∙ ap (first_fault (value_fault scope d holder t.If) (value_text (IfValue e a b) rest))
      (value_run e (ValueOf scope (fewer d)) scope (fewer d) None [] (t.Then ∷ value_text a (t.Else ∷ value_text b (t.End ∷ rest))) _ (value_start scope (fewer d)) good.0 refl (and_false (ends_in_atom e)) refl
      ∙ ap (check_value e scope (fewer d) None (t.Then ∷ value_text a (t.Else ∷ value_text b (t.End ∷ rest))))
      (value_run a (ValueOf scope (fewer d)) scope (fewer d) None [] (t.Else ∷ value_text b (t.End ∷ rest)) _ (value_start scope (fewer d)) good.1 refl (and_false (ends_in_atom a)) refl
      ∙ ap (check_value a scope (fewer d) None (t.Else ∷ value_text b (t.End ∷ rest)))
      (value_run b (ValueOf scope (fewer d)) scope (fewer d) None [] (t.End ∷ rest) _ (value_start scope (fewer d)) good.2 refl (and_false (ends_in_atom b)) refl)))
  value_run (CaseValue e p v cs b) q scope d holder others rest σ start good ends bare goes =
      start.cases _ σ
      ∙ ap (first_fault (value_fault scope d holder t.Case) (value_text (CaseValue e p v cs b) rest))
      (value_run e (ValueOf scope (fewer d)) scope (fewer d) None [] (t.Of ∷ pattern_text p (t.Then ∷ value_text v (value_clauses_text cs (t.Else ∷ value_text b (t.End ∷ rest))))) _ (value_start scope (fewer d)) good.0 refl (and_false (ends_in_atom e)) refl
      ∙ ap (check_value e scope (fewer d) None (t.Of ∷ pattern_text p (t.Then ∷ value_text v (value_clauses_text cs (t.Else ∷ value_text b (t.End ∷ rest))))))
      (pattern_run p OfValue scope (fewer d) (value_text v (value_clauses_text cs (t.Else ∷ value_text b (t.End ∷ rest)))) (others ++ σ)
      ∙ ap (check_pattern p scope (t.Then ∷ value_text v (value_clauses_text cs (t.Else ∷ value_text b (t.End ∷ rest)))))
      (value_run v (ValueOf (scope ++ pattern_names p) (fewer d)) (scope ++ pattern_names p) (fewer d) None [] (value_clauses_text cs (t.Else ∷ value_text b (t.End ∷ rest))) (ClauseEnd scope (fewer d) ∷ (others ++ σ)) (value_start (scope ++ pattern_names p) (fewer d)) good.1
      (closes_stops _ (value_clauses_close cs _)) (closes_bare v _ (value_clauses_close cs _)) refl
      ∙ ap (check_value v (scope ++ pattern_names p) (fewer d) None (value_clauses_text cs (t.Else ∷ value_text b (t.End ∷ rest))))
      (value_clauses_run cs scope (fewer d) (value_text b (t.End ∷ rest)) (others ++ σ) good.2
      ∙ ap (check_value_clauses cs scope (fewer d) (t.Else ∷ value_text b (t.End ∷ rest)))
      (value_run b (ValueOf scope (fewer d)) scope (fewer d) None [] (t.End ∷ rest) (Here sign.End ∷ (others ++ σ)) (value_start scope (fewer d)) good.3 refl (and_false (ends_in_atom b)) refl)))))

  arguments_run : (vs : Arguments) (scope : Scope) (d n most : ℕ) (rest : List Symbol) (σ : List Point) → ArgumentsDerive vs scope
      → run (arguments_text vs (t.CloseCurly ∷ rest)) (points.Arguments scope d n most ∷ σ) ≡ check_arguments vs scope d n most (t.CloseCurly ∷ rest) (run rest σ)
  arguments_run no_arguments scope d n most rest σ good = refl
  arguments_run (argument_and v vs) scope d n most rest σ good =
      value_run v (points.Arguments scope d n most) scope d (argument_fault n most) (points.Arguments scope d (n + 1) most ∷ []) (arguments_text vs (t.CloseCurly ∷ rest)) σ (argument_start scope d n most) good.0 (arguments_stop vs rest)
      (moved_bare v _ _ (arguments_round vs rest) good.1) refl
      ∙ ap (check_value v scope d (argument_fault n most) (arguments_text vs (t.CloseCurly ∷ rest))) (arguments_run vs scope d (n + 1) most rest σ good.2)

  wanted_run : (vs : Arguments) (scope : Scope) (d k n : ℕ) (rest : List Symbol) (σ : List Point) → ArgumentsDerive vs scope → count_arguments vs ≡ k → n + k ≤ 64
      → run (arguments_text vs (t.CloseCurly ∷ rest)) (Wanted scope d k ∷ σ) ≡ check_arguments vs scope d n 64 (t.CloseCurly ∷ rest) (run rest σ)
  wanted_run no_arguments scope d zero n rest σ good all few = refl
  wanted_run no_arguments scope d (suc k) n rest σ good all few = absurd (omega (arith, all))
  wanted_run (argument_and v vs) scope d zero n rest σ good all few = absurd (omega (arith, all))
  wanted_run (argument_and v vs) scope d (suc k) n rest σ good all few =
      value_run v (Wanted scope d (suc k)) scope d None (Wanted scope d k ∷ []) (arguments_text vs (t.CloseCurly ∷ rest)) σ (wanted_start scope d k) good.0 (arguments_stop vs rest) (moved_bare v _ _ (arguments_round vs rest) good.1) refl
      ∙ ap (λ (h : Option FaultKind). check_value v scope d h (arguments_text vs (t.CloseCurly ∷ rest)) (run (arguments_text vs (t.CloseCurly ∷ rest)) (Wanted scope d k ∷ σ))) (sym (no_fault n 64 (omega (arith, few))))
      ∙ ap (check_value v scope d (argument_fault n 64) (arguments_text vs (t.CloseCurly ∷ rest))) (wanted_run vs scope d k (n + 1) rest σ good.2 (omega (arith, all)) (omega (arith, few)))

  fields_run : (fs : tree.Fields) (scope : Scope) (d room : ℕ) (before : List Feature) (nth : ℕ) (rest : List Symbol) (σ : List Point) → FieldsDerive fs scope
      → run (fields_text fs (t.CloseRound ∷ rest)) (FieldOf scope d room before nth ∷ σ) ≡ check_fields fs scope d room before nth (t.CloseRound ∷ rest) (run rest σ)
  fields_run no_fields scope d room before nth rest σ good = refl
  fields_run (placed_and v fs) scope d room before nth rest σ good =
      value_run v (FieldOf scope d room before nth) scope d (given_fault room before (place_feature nth)) (behind_placed scope d room before nth) (fields_text fs (t.CloseRound ∷ rest)) σ (field_start scope d room before nth) good.0 (fields_stop fs rest)
      (moved_bare v _ _ (fields_round fs rest) good.1) refl
      ∙ ap (check_value v scope d (given_fault room before (place_feature nth)) (fields_text fs (t.CloseRound ∷ rest))) (fields_run fs scope d (fewer room) (place_feature nth ∷ before) (nth + 1) rest σ good.2)
  fields_run (named_and (AtomFeature a) v fs) scope d room before nth rest σ good =
      ap (first_fault (named_fault room before (AtomFeature a)) _)
      (value_run v (ValueOf scope d) scope d None [] (fields_text fs (t.CloseRound ∷ rest)) (FieldOf scope d (fewer room) (feature_of (AtomFeature a) ∷ before) nth ∷ σ) (value_start scope d) good.0 (fields_stop fs rest) (moved_bare v _ _ (fields_round fs rest) good.1) refl
      ∙ ap (check_value v scope d None (fields_text fs (t.CloseRound ∷ rest))) (fields_run fs scope d (fewer room) (feature_of (AtomFeature a) ∷ before) nth rest σ good.2))
  fields_run (named_and (IntFeature i) v fs) scope d room before nth rest σ good =
      ap (first_fault (named_fault room before (IntFeature i)) _)
      (value_run v (ValueOf scope d) scope d None [] (fields_text fs (t.CloseRound ∷ rest)) (FieldOf scope d (fewer room) (feature_of (IntFeature i) ∷ before) nth ∷ σ) (value_start scope d) good.0 (fields_stop fs rest) (moved_bare v _ _ (fields_round fs rest) good.1) refl
      ∙ ap (check_value v scope d None (fields_text fs (t.CloseRound ∷ rest))) (fields_run fs scope d (fewer room) (feature_of (IntFeature i) ∷ before) nth rest σ good.2))

  -- clauses of values, up to the last value
  value_clauses_run : (cs : ValueClauses) (scope : Scope) (d : ℕ) (rest : List Symbol) (σ : List Point) → ValueClausesDerive cs scope
      → run (value_clauses_text cs (t.Else ∷ rest)) (ClauseEnd scope d ∷ σ) ≡ check_value_clauses cs scope d (t.Else ∷ rest) (run rest (ValueOf scope d ∷ Here sign.End ∷ σ))
  value_clauses_run no_clauses scope d rest σ good = refl
  value_clauses_run (clause_and p v cs) scope d rest σ good =
      pattern_run p OfValue scope d (value_text v (value_clauses_text cs (t.Else ∷ rest))) σ
      ∙ ap (check_pattern p scope (t.Then ∷ value_text v (value_clauses_text cs (t.Else ∷ rest))))
      (value_run v (ValueOf (scope ++ pattern_names p) d) (scope ++ pattern_names p) d None [] (value_clauses_text cs (t.Else ∷ rest)) (ClauseEnd scope d ∷ σ) (value_start (scope ++ pattern_names p) d) good.0
      (closes_stops _ (value_clauses_close cs rest)) (closes_bare v _ (value_clauses_close cs rest)) refl
      ∙ ap (check_value v (scope ++ pattern_names p) d None (value_clauses_text cs (t.Else ∷ rest))) (value_clauses_run cs scope d rest σ good.1))

  pub statement_run : (s : Statement) (stage : Stage) (c : Closing) (scope : Scope) (d : ℕ) (rest : List Symbol) (σ : List Point) → closes rest ≡ true → StatementDerives s scope
      → run (statement_text s rest) (At stage c scope d ∷ σ) ≡ check_statement s scope d rest (run rest (At Later c scope d ∷ σ))
  statement_run Skips stage c scope d rest σ ends good = refl
  statement_run (Tells x v) stage c scope d rest σ ends good =
      ap (first_fault _ (statement_text (Tells x v) rest))
      (value_run v (ValueOf scope d) scope d None [] rest (At Later c scope d ∷ σ) (value_start scope d) good (closes_stops rest ends) (closes_bare v rest ends) refl)
  statement_run (CallsStatement p vs) stage c scope d rest σ ends good =
      ap (λ (f : Option Fault). first_fault (deep_fault d) (statement_text (CallsStatement p vs) rest) (first_fault (called_fault (built_in_at scope p) scope p) (t.Variable p ∷ arguments_text vs (t.CloseCurly ∷ rest)) f))
      (statement_call (built_in_at scope p) vs scope d rest (At Later c scope d ∷ σ) good.0 (λ e n most. arguments_run vs scope e n most rest (At Later c scope d ∷ σ) good.1)
      (λ e k n all few. wanted_run vs scope e k n rest (At Later c scope d ∷ σ) good.1 all few))
  statement_run (Raises v) stage c scope d rest σ ends good =
      ap (first_fault (deep_fault d) (statement_text (Raises v) rest))
      (value_run v (ValueOf scope d) scope d None [] (t.End ∷ rest) (Here sign.End ∷ At Later c scope d ∷ σ) (value_start scope d) good refl (and_false (ends_in_atom v)) refl)
  statement_run (Locals x xs q) stage c scope d rest σ ends good =
      ap (first_fault (deep_fault d) (statement_text (Locals x xs q) rest))
      (locals_run xs (x ∷ []) scope (fewer d) (sequence_text q (t.End ∷ rest)) (At Later c scope d ∷ σ)
      ∙ ap (check_locals (x ∷ []) xs (t.In ∷ sequence_text q (t.End ∷ rest))) (sequence_run q First Ends (scope ++ x ∷ xs) (fewer d) (t.End ∷ rest) (At Later c scope d ∷ σ) refl good))
  statement_run (ProcNamed x xs q) stage c scope d rest σ ends good =
      ap (λ (f : Option Fault). first_fault (deep_fault d) (statement_text (ProcNamed x xs q) rest) (first_fault (use_fault scope x) (t.Variable x ∷ names_text xs (t.CloseCurly ∷ sequence_text q (t.End ∷ rest))) f))
      (formals_run xs [] OfProc scope (fewer d) (sequence_text q (t.End ∷ rest)) (At Later c scope d ∷ σ)
      ∙ ap (check_formals OfProc [] xs (t.CloseCurly ∷ sequence_text q (t.End ∷ rest))) (sequence_run q First Ends (scope ++ xs) (fewer d) (t.End ∷ rest) (At Later c scope d ∷ σ) refl good))
  statement_run (FunNamed x xs v) stage c scope d rest σ ends good =
      ap (λ (f : Option Fault). first_fault (deep_fault d) (statement_text (FunNamed x xs v) rest) (first_fault (use_fault scope x) (t.Variable x ∷ names_text xs (t.CloseCurly ∷ value_text v (t.End ∷ rest))) f))
      (formals_run xs [] OfFun scope (fewer d) (value_text v (t.End ∷ rest)) (At Later c scope d ∷ σ)
      ∙ ap (check_formals OfFun [] xs (t.CloseCurly ∷ value_text v (t.End ∷ rest)))
      (value_run v (ValueOf (scope ++ xs) (fewer d)) (scope ++ xs) (fewer d) None [] (t.End ∷ rest) (Here sign.End ∷ At Later c scope d ∷ σ) (value_start (scope ++ xs) (fewer d)) good refl (and_false (ends_in_atom v)) refl))
  statement_run (Threads q) stage c scope d rest σ ends good =
      ap (first_fault (deep_fault d) (statement_text (Threads q) rest)) (sequence_run q AfterThread Ends scope (fewer d) (t.End ∷ rest) (At Later c scope d ∷ σ) refl good)
  statement_run (ThreadsAt n q) stage c scope d rest σ ends good =
      ap (λ (f : Option Fault). first_fault (deep_fault d) (statement_text (ThreadsAt n q) rest) (first_fault (site_fault n) (t.Integer n ∷ sequence_text q (t.End ∷ rest)) f))
      (sequence_run q First Ends scope (fewer d) (t.End ∷ rest) (At Later c scope d ∷ σ) refl good)
  statement_run (Ifs e q r) stage c scope d rest σ ends good =
      ap (first_fault (deep_fault d) (statement_text (Ifs e q r) rest))
      (value_run e (ValueOf scope d) scope d None [] (t.Then ∷ sequence_text q (t.Else ∷ sequence_text r (t.End ∷ rest))) _ (value_start scope d) good.0 refl (and_false (ends_in_atom e)) refl
      ∙ ap (check_value e scope d None (t.Then ∷ sequence_text q (t.Else ∷ sequence_text r (t.End ∷ rest))))
      (sequence_run q First BeforeElse scope (fewer d) (t.Else ∷ sequence_text r (t.End ∷ rest)) (At First Ends scope (fewer d) ∷ At Later c scope d ∷ σ) refl good.1
      ∙ ap (check_sequence q scope (fewer d) (t.Else ∷ sequence_text r (t.End ∷ rest))) (sequence_run r First Ends scope (fewer d) (t.End ∷ rest) (At Later c scope d ∷ σ) refl good.2)))
  statement_run (Cases e p q cs r) stage c scope d rest σ ends good =
      ap (first_fault (deep_fault d) (statement_text (Cases e p q cs r) rest))
      (value_run e (ValueOf scope d) scope d None [] (t.Of ∷ pattern_text p (t.Then ∷ sequence_text q (clauses_text cs (t.Else ∷ sequence_text r (t.End ∷ rest))))) _ (value_start scope d) good.0 refl (and_false (ends_in_atom e)) refl
      ∙ ap (check_value e scope d None (t.Of ∷ pattern_text p (t.Then ∷ sequence_text q (clauses_text cs (t.Else ∷ sequence_text r (t.End ∷ rest))))))
      (pattern_run p OfStatements scope (fewer d) (sequence_text q (clauses_text cs (t.Else ∷ sequence_text r (t.End ∷ rest)))) (At Later c scope d ∷ σ)
      ∙ ap (check_pattern p scope (t.Then ∷ sequence_text q (clauses_text cs (t.Else ∷ sequence_text r (t.End ∷ rest)))))
      (sequence_run q First (InClause scope (fewer d)) (scope ++ pattern_names p) (fewer d) (clauses_text cs (t.Else ∷ sequence_text r (t.End ∷ rest))) (At Later c scope d ∷ σ) (clauses_close cs _) good.1
      ∙ ap (check_sequence q (scope ++ pattern_names p) (fewer d) (clauses_text cs (t.Else ∷ sequence_text r (t.End ∷ rest))))
      (clauses_run cs (scope ++ pattern_names p) scope (fewer d) (sequence_text r (t.End ∷ rest)) (At Later c scope d ∷ σ) good.2
      ∙ ap (check_clauses cs scope (fewer d) (t.Else ∷ sequence_text r (t.End ∷ rest))) (sequence_run r First Ends scope (fewer d) (t.End ∷ rest) (At Later c scope d ∷ σ) refl good.3)))))
  statement_run (Tries q x r) stage c scope d rest σ ends good =
      ap (first_fault (deep_fault d) (statement_text (Tries q x r) rest))
      (sequence_run q First (InTry scope (fewer d)) scope (fewer d) (t.Catch ∷ t.Variable x ∷ t.Then ∷ sequence_text r (t.End ∷ rest)) (At Later c scope d ∷ σ) refl good.0
      ∙ ap (check_sequence q scope (fewer d) (t.Catch ∷ t.Variable x ∷ t.Then ∷ sequence_text r (t.End ∷ rest))) (sequence_run r First (InHandler scope (fewer d)) (scope ++ x ∷ []) (fewer d) (t.End ∷ rest) (At Later c scope d ∷ σ) refl good.1))
  statement_run (TriesFinally q x r u) stage c scope d rest σ ends good =
      ap (first_fault (deep_fault d) (statement_text (TriesFinally q x r u) rest))
      (sequence_run q First (InTry scope (fewer d)) scope (fewer d) (t.Catch ∷ t.Variable x ∷ t.Then ∷ sequence_text r (t.Finally ∷ sequence_text u (t.End ∷ rest))) (At Later c scope d ∷ σ) refl good.0
      ∙ ap (check_sequence q scope (fewer d) (t.Catch ∷ t.Variable x ∷ t.Then ∷ sequence_text r (t.Finally ∷ sequence_text u (t.End ∷ rest))))
      (sequence_run r First (InHandler scope (fewer d)) (scope ++ x ∷ []) (fewer d) (t.Finally ∷ sequence_text u (t.End ∷ rest)) (At Later c scope d ∷ σ) refl good.1
      ∙ ap (check_sequence r (scope ++ x ∷ []) (fewer d) (t.Finally ∷ sequence_text u (t.End ∷ rest))) (sequence_run u First Ends scope (fewer d) (t.End ∷ rest) (At Later c scope d ∷ σ) refl good.2)))
  statement_run (Finally q u) stage c scope d rest σ ends good =
      ap (first_fault (deep_fault d) (statement_text (Finally q u) rest))
      (sequence_run q First (InTry scope (fewer d)) scope (fewer d) (t.Finally ∷ sequence_text u (t.End ∷ rest)) (At Later c scope d ∷ σ) refl good.0
      ∙ ap (check_sequence q scope (fewer d) (t.Finally ∷ sequence_text u (t.End ∷ rest))) (sequence_run u First Ends scope (fewer d) (t.End ∷ rest) (At Later c scope d ∷ σ) refl good.1))

  -- clauses of statements, behind the statements of one, up to the last statements
  clauses_run : (cs : Clauses) (inner scope : Scope) (d : ℕ) (rest : List Symbol) (σ : List Point) → ClausesDerive cs scope
      → run (clauses_text cs (t.Else ∷ rest)) (At Later (InClause scope d) inner d ∷ σ) ≡ check_clauses cs scope d (t.Else ∷ rest) (run rest (At First Ends scope d ∷ σ))
  clauses_run no_cases inner scope d rest σ good = refl
  clauses_run (case_and p q cs) inner scope d rest σ good =
      pattern_run p OfStatements scope d (sequence_text q (clauses_text cs (t.Else ∷ rest))) σ
      ∙ ap (check_pattern p scope (t.Then ∷ sequence_text q (clauses_text cs (t.Else ∷ rest))))
      (sequence_run q First (InClause scope d) (scope ++ pattern_names p) d (clauses_text cs (t.Else ∷ rest)) σ (clauses_close cs rest) good.0
      ∙ ap (check_sequence q (scope ++ pattern_names p) d (clauses_text cs (t.Else ∷ rest))) (clauses_run cs (scope ++ pattern_names p) scope d rest σ good.1))

  pub sequence_run : (q : Sequence) (stage : Stage) (c : Closing) (scope : Scope) (d : ℕ) (rest : List Symbol) (σ : List Point) → closes rest ≡ true → SequenceDerives q scope
      → run (sequence_text q rest) (At stage c scope d ∷ σ) ≡ check_sequence q scope d rest (run rest (At Later c scope d ∷ σ))
  sequence_run (One s) stage c scope d rest σ ends good = statement_run s stage c scope d rest σ ends good
  sequence_run (Then s q) stage c scope d rest σ ends good =
      statement_run s stage c scope d (sequence_text q rest) σ (sequence_closes q rest) good.0 ∙ ap (check_statement s scope d (sequence_text q rest)) (sequence_run q Later c scope d rest σ ends good.1)

-- a derivation of a program has the faults that its check finds
pub program_run : (q : Sequence) → IsDerivation q → run (program_text q) start ≡ check q
program_run q good = sequence_run q First WithText [] 200 (t.EndOfText ∷ []) [] refl good
