-- The tree of a derivation in which nothing is wrong is within the limits.
use Rattle.std.proofs.Common.{◌≡◌, ◌∙◌, ℕ, suc, ◌+◌, ◌<◌, ◌≤◌, List, [], ◌∷◌, ◌++◌, length, true, Option, Some, None, refl, sym, ap, subst, arith, length-append}
use Rattle.std.specs.Prelude.{nat_lt}
use Rattle.tree_node.specs.declared.node.Feature.{Feature}
use Rattle.tree_node.specs.Each.{Each}
use Rattle.kernel_syntax.specs.declared.built_in.BuiltIn.{BuiltIn}
use Rattle.kernel_syntax.specs.BuiltIns.{arity_of}
use Rattle.kernel_syntax.specs.declared.sugar.Field.{Field}
use Rattle.kernel_syntax.specs.declared.sugar.Operation.TheVariants as operation
use Rattle.kernel_syntax.specs.Scopes.{features_in}
use Rattle.kernel_syntax.specs.Texts.{IsText, IsFeature}
use Rattle.kernel_syntax.specs.Sugar as sugar
use Rattle.kernel_syntax.specs.Sugar.{no_values, count_values}
use Rattle.kernel_syntax.specs.SugarLimits.{FitsOperation, FitsPattern, FitsValue, FitsValues, FitsValueClauses, FitsStatement, FitsStatements, FitsOthers, FitsClauses}
use Rattle.oz_grammar.specs.declared.symbol.Symbol.{Symbol}
use Rattle.oz_grammar.specs.declared.symbol.Symbol.TheVariants as t
use Rattle.oz_grammar.specs.declared.fault.Fault.{Fault}
use Rattle.oz_grammar.specs.declared.fault.FaultKind.{FaultKind}
use Rattle.oz_grammar.specs.declared.fault.FaultKind.TheVariants.{Wide, Twice}
use Rattle.oz_grammar.specs.Symbols.{IsSpelled}
use Rattle.oz_grammar.specs.Grammar.{Identifier, FeatureToken, AtomFeature, IntFeature, Selection, ByVariable, ByFeature, Pattern, feature_symbol, selection_symbol, pattern_text}
use Rattle.oz_grammar.specs.Scoping.{Scope, declaration_of, built_in_at, has_name, feature_of, place_feature, pattern_names}
use Rattle.oz_grammar.specs.Faults.{or_else, where_so, where_not, number_fault, site_fault, deep_fault, use_fault, called_fault, selected_fault, room_fault, fewer}
use Rattle.oz_grammar.specs.Check.{check_pattern, check_selection}
use Rattle.oz_grammar.specs.Table.{pattern_of, selector_of}
use Rattle.oz_grammar.proofs.FieldOrder.{stopped, or_neither, is_so}
use Rattle.oz_grammar.proofs.PartsChecked.{room_of}
use Rattle.oz_grammar.proofs.TableLimits.{locals_few, site_limits, pattern_limits}
use Rattle.oz_grammar.proofs.TableScopes.{used_within}
use Rattle.oz_grammar.proofs.TableTexts.{is_small, number_good, selected_good, names_rest, pattern_good, site_good}
use Rattle.surface_grammar.specs.Derivations.{Primary, Variable, Integer, Atom, Record, Calls, Procedure, Function, Brackets, Selects, Tail, Last, More, Value, Alone, Calculates, Tests, Pairs, IfValue, CaseValue, Arguments, no_arguments, argument_and, no_fields, placed_and, named_and, ValueClauses, no_clauses, clause_and, Statement, Skips, Tells, CallsStatement, Raises, Locals, ProcNamed, FunNamed, Threads, ThreadsAt, Ifs, Cases, Tries, TriesFinally, Finally, Clauses, no_cases, case_and, Sequence, One, Then, primary_text, tail_text, value_text, arguments_text, fields_text, value_clauses_text, statement_text, clauses_text, sequence_text, program_text, count_arguments, HasAllArguments, LacksOneArgument, PrimaryDerives, TailDerives, ValueDerives, ArgumentsDerive, FieldsDerive, ValueClausesDerive, StatementDerives, ClausesDerive, SequenceDerives, IsDerivation}
use Rattle.surface_grammar.specs.Derivations as tree
use Rattle.surface_grammar.specs.declared.parts.Callable.{Callable}
use Rattle.surface_grammar.specs.declared.parts.Callable.TheVariants.{OfProc, OfFun}
use Rattle.surface_grammar.specs.Points.{most_formals, formal_wrong, value_fault, given_fault, named_fault, argument_fault}
use Rattle.surface_grammar.specs.Check.{levels_behind, most_arguments, check_formals, check_primary, check_tail, check_value, check_arguments, check_fields, check_value_clauses, check_statement, check_clauses, check_sequence, check}
use Rattle.surface_grammar.specs.Trees.{call_value, call_statement, primary_of, tail_of, value_in, arguments_of, fields_in, value_clauses_of, statement_of, clauses_of, sequence_of, program_of}
use Rattle.surface_grammar.specs.Laws.{ReadsFit}
use Rattle.surface_grammar.proofs.ReadTrees.{value_holder}
use Rattle.surface_grammar.proofs.FieldLimits.{pair_fits, Collected, none_collected, collected, record_fits}

-- ---- what stands behind is reached and spelled, and this holds of the tree

record Within (P : Type 0) (rest : List Symbol) (behind : Option Fault) : Type 0 where
  reached : behind ≡ None
  spelled : Each IsSpelled rest
  fits : P

-- limits under more declarations
more_declared : (P : ℕ → Type 0) (scope xs : Scope) → P (length (scope ++ xs)) → P (length scope + length xs)
more_declared P scope xs h = subst P (length-append scope xs) h

formals_few : (c : Callable) (before xs : List Identifier) (rest : List Symbol) (behind : Option Fault) → check_formals c before xs rest behind ≡ None → length before ≤ most_formals c → (behind ≡ None) × (length before + length xs ≤ most_formals c)
formals_few c before [] rest behind e le = (e, omega (arith, le))
formals_few c before (x ∷ xs) rest behind e le =
    let s = stopped (formal_wrong c before x) _ _ e in
    let room : nat_lt (length before) (most_formals c) ≡ true = is_so (nat_lt (length before) (most_formals c)) Wide (or_neither (where_not (nat_lt (length before) (most_formals c)) Wide) (where_so (has_name before x) Twice) s.0).0 in
    let lt : length before < most_formals c = grind (arith, room) in
    let l = length-append before (x ∷ []) in
    let h = formals_few c (before ++ x ∷ []) xs rest behind s.1 (omega (arith, lt, l)) in
    (h.0, omega (arith, h.1, l))

selection_fits : (s : Selection) (scope : Scope) (rest : List Symbol) (behind : Option Fault) → check_selection s scope rest behind ≡ None → Each IsSpelled (selection_symbol s ∷ rest) → Within (FitsOperation (operation.Select (selector_of s scope)) 1 (length scope)) rest behind
selection_fits (ByVariable x) scope rest behind e g = let s = stopped (use_fault scope x) _ _ e in record { reached = s.1; spelled = g.1; fits = (refl, used_within scope x s.0) }
selection_fits (ByFeature m) scope rest behind e g = let s = stopped (selected_fault m) _ _ e in record { reached = s.1; spelled = g.1; fits = (refl, selected_good m s.0 g.0) }

pattern_fits : (p : Pattern) (scope : Scope) (rest : List Symbol) (behind : Option Fault) → check_pattern p scope (t.Then ∷ rest) behind ≡ None → Each IsSpelled (pattern_text p (t.Then ∷ rest)) → Within (FitsPattern (pattern_of p)) rest behind
pattern_fits p scope rest behind e g =
    let d = pattern_limits p scope (t.Then ∷ rest) behind e in
    let s = pattern_good p scope (t.Then ∷ rest) (t.Then ∷ rest) behind e g in record { reached = d.reached; spelled = s.1.1; fits = (d.is, s.0, d.few) }

-- limits under the declarations of a pattern
declared_by : (P : ℕ → Type 0) (p : Pattern) (scope : Scope) (rest : List Symbol) (behind : Option Fault) → check_pattern p scope (t.Then ∷ rest) behind ≡ None → P (length (scope ++ pattern_names p)) → P (length scope + length (features_in (pattern_of p)))
declared_by P p scope rest behind e h =
    let d = pattern_limits p scope (t.Then ∷ rest) behind e in subst (λ (n : ℕ). P (length scope + n)) d.each (more_declared P scope (pattern_names p) h)

-- a feature that a field names
named_good : (m : FeatureToken) (room : ℕ) (before : List Feature) → named_fault room before m ≡ None → IsSpelled (feature_symbol m) → IsFeature (feature_of m) × (given_fault room before (feature_of m) ≡ None)
named_good (AtomFeature a) room before e g = (g, e)
named_good (IntFeature n) room before e g =
    let two = or_neither (number_fault n) (given_fault room before (feature_of (IntFeature n))) e in (selected_good (IntFeature n) two.0 g, two.1)

called_within : (p : Identifier) (scope : Scope) → called_fault None scope p ≡ None → declaration_of scope p < length scope
called_within p scope e = used_within scope p e

call_fits : (o : Option BuiltIn) (left : ℕ) (p : Identifier) (scope : Scope) (vs : sugar.Values) (n : ℕ) → called_fault o scope p ≡ None → count_values vs ≡ n → n ≤ most_arguments o 63 → ((b : BuiltIn) → o ≡ Some b → suc n ≡ arity_of b) → FitsValues vs (length scope)
    → FitsValue (call_value o left (declaration_of scope p) vs) (length scope)
call_fits (Some b) left p scope vs n c e le lacks fs = let a = lacks b refl in (omega (arith, e, a), fs)
call_fits None left p scope vs n c e le lacks fs = ((called_within p scope c, omega (arith, e, le)), fs)

statement_call_fits : (o : Option BuiltIn) (left : ℕ) (p : Identifier) (scope : Scope) (vs : sugar.Values) (n : ℕ) → called_fault o scope p ≡ None → count_values vs ≡ n → n ≤ most_arguments o 64 → ((b : BuiltIn) → o ≡ Some b → n ≡ arity_of b) → FitsValues vs (length scope)
    → FitsStatement (call_statement o left (declaration_of scope p) vs) (length scope)
statement_call_fits (Some b) left p scope vs n c e le all fs = let a = all b refl in (e ∙ a, fs)
statement_call_fits None left p scope vs n c e le all fs = ((called_within p scope c, omega (arith, e, le)), fs)

lacks_one : (o : Option BuiltIn) (vs : Arguments) → LacksOneArgument o vs → (b : BuiltIn) → o ≡ Some b → suc (count_arguments vs) ≡ arity_of b
lacks_one (Some c) vs h b e = let same : c ≡ b = cc in h ∙ ap arity_of same
lacks_one None vs h b e = absurd cc

has_all : (o : Option BuiltIn) (vs : Arguments) → HasAllArguments o vs → (b : BuiltIn) → o ≡ Some b → count_arguments vs ≡ arity_of b
has_all (Some c) vs h b e = let same : c ≡ b = cc in h ∙ ap arity_of same
has_all None vs h b e = absurd cc

-- the values of arguments, as many as these, behind n others
abbrev ArgumentsFit : sugar.Values → ℕ → ℕ → ℕ → ℕ → Type 0
ArgumentsFit vs count n most t = FitsValues vs t × (count_values vs ≡ count) × (n + count ≤ most)

others_fit : (q : sugar.Statements) (t : ℕ) → FitsStatements q t → FitsOthers q t
others_fit sugar.no_statements t h = absurd h
others_fit (sugar.statement_and s q) t h = h

-- ---- trees

mutual
  primary_fits : (p : Primary) (scope : Scope) (d : ℕ) (holder : Option FaultKind) (rest : List Symbol) (behind : Option Fault) → PrimaryDerives p scope → check_primary p scope d holder rest behind ≡ None → Each IsSpelled (primary_text p rest)
      → Within (FitsValue (primary_of p scope rest) (length scope)) rest behind
  primary_fits (Variable x) scope d holder rest behind good e g =
      let s = stopped (value_fault scope d holder (t.Variable x)) _ _ e in record { reached = s.1; spelled = g.1; fits = used_within scope x (or_neither holder (use_fault scope x) s.0).1 }
  primary_fits (Integer n) scope d holder rest behind good e g =
      let s = stopped (value_fault scope d holder (t.Integer n)) _ _ e in record { reached = s.1; spelled = g.1; fits = number_good n (or_neither (number_fault n) (or_else (deep_fault d) holder) s.0).0 g.0 }
  primary_fits (Atom a) scope d holder rest behind good e g = let s = stopped (value_fault scope d holder (t.Atom a)) _ _ e in record { reached = s.1; spelled = g.1; fits = g.0 }
  primary_fits (Record a fs) scope d holder rest behind good e g =
      let s = stopped (value_fault scope d holder (t.Atom a)) _ _ e in
      let k = fields_fit fs scope (fewer d) 64 [] 1 0 [] no_values (t.CloseRound ∷ rest) behind (length (primary_text (Record a fs) rest)) a good s.1 g.1.1 (none_collected (length scope)) g.0 in
      record { reached = k.reached; spelled = k.spelled.1; fits = k.fits }
  primary_fits (Calls p vs) scope d holder rest behind good e g =
      let s = stopped (value_fault scope d holder t.OpenCurly) _ _ e in
      let c = stopped (called_fault (built_in_at scope p) scope p) _ _ s.1 in
      let k = arguments_fit vs scope (fewer d) 0 (most_arguments (built_in_at scope p) 63) (t.CloseCurly ∷ rest) behind good.1 c.1 g.1.1 (omega arith) in
      record {
        reached = k.reached;
        spelled = k.spelled.1;
        fits = call_fits (built_in_at scope p) (length (primary_text (Calls p vs) rest)) p scope (arguments_of vs scope (t.CloseCurly ∷ rest)) (count_arguments vs) c.0 k.fits.1 (let le = k.fits.2 in omega (arith, le)) (lacks_one (built_in_at scope p) vs good.0) k.fits.0;
      }
  primary_fits (Procedure xs q) scope d holder rest behind good e g =
      let s = stopped (value_fault scope d holder t.Proc) _ _ e in
      let f = formals_few OfProc [] xs _ _ s.1 (omega arith) in
      let k = sequence_fits q (scope ++ xs) (fewer d) (t.End ∷ rest) behind good f.0 (names_rest xs _ g.1.1.1).1 in
      record { reached = k.reached; spelled = k.spelled.1; fits = (omega (arith, f.1), more_declared (FitsStatements (sequence_of q (scope ++ xs) (t.End ∷ rest))) scope xs k.fits) }
  primary_fits (Function xs v) scope d holder rest behind good e g =
      let s = stopped (value_fault scope d holder t.Fun) _ _ e in
      let f = formals_few OfFun [] xs _ _ s.1 (omega arith) in
      let k = value_fits v (scope ++ xs) (fewer d) None (t.End ∷ rest) behind good f.0 (names_rest xs _ g.1.1.1).1 in
      record { reached = k.reached; spelled = k.spelled.1; fits = (omega (arith, f.1), more_declared (FitsValue (value_in v (scope ++ xs) (t.End ∷ rest))) scope xs k.fits) }
  primary_fits (Brackets v) scope d holder rest behind good e g =
      let s = stopped (value_fault scope d holder t.OpenRound) _ _ e in
      let k = value_fits v scope (fewer d) None (t.CloseRound ∷ rest) behind good s.1 g.1 in record { reached = k.reached; spelled = k.spelled.1; fits = k.fits }
  primary_fits (Selects p s) scope d holder rest behind good e g =
      let k = primary_fits p scope d holder (t.Dot ∷ selection_symbol s ∷ rest) _ good e g in
      let u = stopped (deep_fault (levels_behind p d)) _ _ k.reached in
      let m = selection_fits s scope rest behind u.1 k.spelled.1 in record { reached = m.reached; spelled = m.spelled; fits = (m.fits, (k.fits, tt)) }

  tail_fits : (l : Tail) (scope : Scope) (d : ℕ) (rest : List Symbol) (behind : Option Fault) → TailDerives l scope → check_tail l scope d rest behind ≡ None → Each IsSpelled (tail_text l rest) → Within (FitsValue (tail_of l scope rest) (length scope)) rest behind
  tail_fits (Last p) scope d rest behind good e g = primary_fits p scope d None rest behind good e g
  tail_fits (More p l) scope d rest behind good e g =
      let k = primary_fits p scope d None (t.Bar ∷ tail_text l rest) _ good.0 e g in
      let u = stopped (deep_fault (levels_behind p d)) _ _ k.reached in
      let m = tail_fits l scope (fewer d) rest behind good.1 u.1 k.spelled.1 in
      record { reached = m.reached; spelled = m.spelled; fits = pair_fits (length (tail_text (More p l) rest)) (length scope) (primary_of p scope (t.Bar ∷ tail_text l rest)) (tail_of l scope rest) k.fits m.fits }

  value_fits : (v : Value) (scope : Scope) (d : ℕ) (holder : Option FaultKind) (rest : List Symbol) (behind : Option Fault) → ValueDerives v scope → check_value v scope d holder rest behind ≡ None → Each IsSpelled (value_text v rest)
      → Within (FitsValue (value_in v scope rest) (length scope)) rest behind
  value_fits (Alone p) scope d holder rest behind good e g = primary_fits p scope d holder rest behind good e g
  value_fits (Calculates p o q) scope d holder rest behind good e g =
      let k = primary_fits p scope d holder (t.Operator o ∷ primary_text q rest) _ good.0 e g in
      let u = stopped (deep_fault (levels_behind p d)) _ _ k.reached in
      let m = primary_fits q scope (fewer d) None rest behind good.1 u.1 k.spelled.1 in record { reached = m.reached; spelled = m.spelled; fits = (refl, (k.fits, (m.fits, tt))) }
  value_fits (Tests p o q) scope d holder rest behind good e g =
      let k = primary_fits p scope d holder (t.Test o ∷ primary_text q rest) _ good.0 e g in
      let u = stopped (deep_fault (levels_behind p d)) _ _ k.reached in
      let m = primary_fits q scope (fewer d) None rest behind good.1 u.1 k.spelled.1 in record { reached = m.reached; spelled = m.spelled; fits = (refl, (k.fits, (m.fits, tt))) }
  value_fits (Pairs p l) scope d holder rest behind good e g =
      let k = primary_fits p scope d holder (t.Bar ∷ tail_text l rest) _ good.0 e g in
      let u = stopped (deep_fault (levels_behind p d)) _ _ k.reached in
      let m = tail_fits l scope (fewer d) rest behind good.1 u.1 k.spelled.1 in
      record { reached = m.reached; spelled = m.spelled; fits = pair_fits (length (value_text (Pairs p l) rest)) (length scope) (primary_of p scope (t.Bar ∷ tail_text l rest)) (tail_of l scope rest) k.fits m.fits }
  value_fits (IfValue c a b) scope d holder rest behind good e g =
      let s = stopped (value_fault scope d holder t.If) _ _ e in
      let k = value_fits c scope (fewer d) None (t.Then ∷ value_text a (t.Else ∷ value_text b (t.End ∷ rest))) _ good.0 s.1 g.1 in
      let m = value_fits a scope (fewer d) None (t.Else ∷ value_text b (t.End ∷ rest)) _ good.1 k.reached k.spelled.1 in
      let n = value_fits b scope (fewer d) None (t.End ∷ rest) behind good.2 m.reached m.spelled.1 in record { reached = n.reached; spelled = n.spelled.1; fits = (k.fits, m.fits, n.fits) }
  value_fits (CaseValue c p v cs b) scope d holder rest behind good e g =
      let last : List Symbol = t.Else ∷ value_text b (t.End ∷ rest) in
      let s = stopped (value_fault scope d holder t.Case) _ _ e in
      let k = value_fits c scope (fewer d) None (t.Of ∷ pattern_text p (t.Then ∷ value_text v (value_clauses_text cs last))) _ good.0 s.1 g.1 in
      let q = pattern_fits p scope (value_text v (value_clauses_text cs last)) _ k.reached k.spelled.1 in
      let m = value_fits v (scope ++ pattern_names p) (fewer d) None (value_clauses_text cs last) _ good.1 q.reached q.spelled in
      let n = value_clauses_fit cs scope (fewer d) last _ good.2 m.reached m.spelled in
      let r = value_fits b scope (fewer d) None (t.End ∷ rest) behind good.3 n.reached n.spelled.1 in
      let first = declared_by (FitsValue (value_in v (scope ++ pattern_names p) (value_clauses_text cs last))) p scope (value_text v (value_clauses_text cs last)) _ k.reached m.fits in
      record { reached = r.reached; spelled = r.spelled.1; fits = (k.fits, (q.fits, first, n.fits), r.fits) }

  arguments_fit : (vs : Arguments) (scope : Scope) (d n most : ℕ) (rest : List Symbol) (behind : Option Fault) → ArgumentsDerive vs scope → check_arguments vs scope d n most rest behind ≡ None → Each IsSpelled (arguments_text vs rest) → n ≤ most
      → Within (ArgumentsFit (arguments_of vs scope rest) (count_arguments vs) n most (length scope)) rest behind
  arguments_fit no_arguments scope d n most rest behind good e g le = record { reached = e; spelled = g; fits = (tt, refl, omega (arith, le)) }
  arguments_fit (argument_and v vs) scope d n most rest behind good e g le =
      let free = value_holder v scope d (argument_fault n most) _ _ e in
      let room : nat_lt n most ≡ true = is_so (nat_lt n most) Wide free in
      let lt : n < most = grind (arith, room) in
      let k = value_fits v scope d (argument_fault n most) (arguments_text vs rest) _ good.0 e g in
      let m = arguments_fit vs scope d (n + 1) most rest behind good.2 k.reached k.spelled (omega (arith, lt)) in
      record { reached = m.reached; spelled = m.spelled; fits = ((k.fits, m.fits.0), ap suc m.fits.1, (let l = m.fits.2 in omega (arith, l))) }

  fields_fit : (fs : tree.Fields) (scope : Scope) (d room : ℕ) (before : List Feature) (nth i : ℕ) (slots : List (Feature × Field)) (vs : sugar.Values) (rest : List Symbol) (behind : Option Fault) (left : ℕ) (a : List ℕ) → FieldsDerive fs scope
      → check_fields fs scope d room before nth rest behind ≡ None → Each IsSpelled (fields_text fs rest) → Collected (length scope) room nth i before slots vs → IsText a → Within (FitsValue (fields_in fs scope nth i slots vs rest left a) (length scope)) rest behind
  fields_fit no_fields scope d room before nth i slots vs rest behind left a good e g c is = record { reached = e; spelled = g; fits = record_fits (length scope) room nth i left before slots vs a c is }
  fields_fit (placed_and v fs) scope d room before nth i slots vs rest behind left a good e g c is =
      let free = value_holder v scope d (given_fault room before (place_feature nth)) _ _ e in
      let k = value_fits v scope d (given_fault room before (place_feature nth)) (fields_text fs rest) _ good.0 e g in
      let r = room_of room (or_neither (room_fault room) _ free).0 in
      let limit = c.numbered in
      let more = collected (length scope) room nth (nth + 1) i before slots vs (place_feature nth) (value_in v scope (fields_text fs rest)) c (is_small nth (omega (arith, limit))) free k.fits (omega (arith, limit, r)) in
      fields_fit fs scope d (fewer room) (place_feature nth ∷ before) (nth + 1) _ _ _ rest behind left a good.2 k.reached k.spelled more is
  fields_fit (named_and m v fs) scope d room before nth i slots vs rest behind left a good e g c is =
      let s = stopped (named_fault room before m) _ _ e in
      let named = named_good m room before s.0 g.0 in
      let k = value_fits v scope d None (fields_text fs rest) _ good.0 s.1 g.1.1 in
      let r = room_of room (or_neither (room_fault room) _ named.1).0 in
      let limit = c.numbered in
      let more = collected (length scope) room nth nth i before slots vs (feature_of m) (value_in v scope (fields_text fs rest)) c named.0 named.1 k.fits (omega (arith, limit, r)) in
      fields_fit fs scope d (fewer room) (feature_of m ∷ before) nth _ _ _ rest behind left a good.2 k.reached k.spelled more is

  value_clauses_fit : (cs : ValueClauses) (scope : Scope) (d : ℕ) (rest : List Symbol) (behind : Option Fault) → ValueClausesDerive cs scope → check_value_clauses cs scope d rest behind ≡ None → Each IsSpelled (value_clauses_text cs rest)
      → Within (FitsValueClauses (value_clauses_of cs scope rest) (length scope)) rest behind
  value_clauses_fit no_clauses scope d rest behind good e g = record { reached = e; spelled = g; fits = tt }
  value_clauses_fit (clause_and p v cs) scope d rest behind good e g =
      let q = pattern_fits p scope (value_text v (value_clauses_text cs rest)) _ e g.1 in
      let m = value_fits v (scope ++ pattern_names p) d None (value_clauses_text cs rest) _ good.0 q.reached q.spelled in
      let n = value_clauses_fit cs scope d rest behind good.1 m.reached m.spelled in
      let first = declared_by (FitsValue (value_in v (scope ++ pattern_names p) (value_clauses_text cs rest))) p scope (value_text v (value_clauses_text cs rest)) _ e m.fits in
      record { reached = n.reached; spelled = n.spelled; fits = (q.fits, first, n.fits) }

  statement_fits : (s : Statement) (scope : Scope) (d : ℕ) (rest : List Symbol) (behind : Option Fault) → StatementDerives s scope → check_statement s scope d rest behind ≡ None → Each IsSpelled (statement_text s rest)
      → Within (FitsStatement (statement_of s scope rest) (length scope)) rest behind
  statement_fits Skips scope d rest behind good e g = record { reached = (stopped (deep_fault d) _ _ e).1; spelled = g.1; fits = tt }
  statement_fits (Tells x v) scope d rest behind good e g =
      let s = stopped (or_else (deep_fault d) (use_fault scope x)) _ _ e in
      let k = value_fits v scope d None rest behind good s.1 g.1.1 in record { reached = k.reached; spelled = k.spelled; fits = (used_within scope x (or_neither (deep_fault d) (use_fault scope x) s.0).1, k.fits) }
  statement_fits (CallsStatement p vs) scope d rest behind good e g =
      let s = stopped (deep_fault d) _ _ e in
      let c = stopped (called_fault (built_in_at scope p) scope p) _ _ s.1 in
      let k = arguments_fit vs scope d 0 (most_arguments (built_in_at scope p) 64) (t.CloseCurly ∷ rest) behind good.1 c.1 g.1.1 (omega arith) in
      record {
        reached = k.reached;
        spelled = k.spelled.1;
        fits = statement_call_fits (built_in_at scope p) (length (statement_text (CallsStatement p vs) rest)) p scope (arguments_of vs scope (t.CloseCurly ∷ rest)) (count_arguments vs) c.0 k.fits.1 (let le = k.fits.2 in omega (arith, le)) (has_all (built_in_at scope p) vs good.0) k.fits.0;
      }
  statement_fits (Raises v) scope d rest behind good e g =
      let k = value_fits v scope d None (t.End ∷ rest) behind good (stopped (deep_fault d) _ _ e).1 g.1 in record { reached = k.reached; spelled = k.spelled.1; fits = (refl, (k.fits, tt)) }
  statement_fits (Locals x xs q) scope d rest behind good e g =
      let f = locals_few (x ∷ []) xs _ _ (stopped (deep_fault d) _ _ e).1 (omega arith) in
      let k = sequence_fits q (scope ++ x ∷ xs) (fewer d) (t.End ∷ rest) behind good f.0 (names_rest xs _ g.1.1).1 in
      record { reached = k.reached; spelled = k.spelled.1; fits = (omega arith, omega (arith, f.1), more_declared (FitsStatements (sequence_of q (scope ++ x ∷ xs) (t.End ∷ rest))) scope (x ∷ xs) k.fits) }
  statement_fits (ProcNamed x xs q) scope d rest behind good e g =
      let u = stopped (use_fault scope x) _ _ (stopped (deep_fault d) _ _ e).1 in
      let f = formals_few OfProc [] xs _ _ u.1 (omega arith) in
      let k = sequence_fits q (scope ++ xs) (fewer d) (t.End ∷ rest) behind good f.0 (names_rest xs _ g.1.1.1).1 in
      record { reached = k.reached; spelled = k.spelled.1; fits = (used_within scope x u.0, (omega (arith, f.1), more_declared (FitsStatements (sequence_of q (scope ++ xs) (t.End ∷ rest))) scope xs k.fits)) }
  statement_fits (FunNamed x xs v) scope d rest behind good e g =
      let u = stopped (use_fault scope x) _ _ (stopped (deep_fault d) _ _ e).1 in
      let f = formals_few OfFun [] xs _ _ u.1 (omega arith) in
      let k = value_fits v (scope ++ xs) (fewer d) None (t.End ∷ rest) behind good f.0 (names_rest xs _ g.1.1.1).1 in
      record { reached = k.reached; spelled = k.spelled.1; fits = (used_within scope x u.0, (omega (arith, f.1), more_declared (FitsValue (value_in v (scope ++ xs) (t.End ∷ rest))) scope xs k.fits)) }
  statement_fits (Threads q) scope d rest behind good e g =
      let k = sequence_fits q scope (fewer d) (t.End ∷ rest) behind good (stopped (deep_fault d) _ _ e).1 g.1 in record { reached = k.reached; spelled = k.spelled.1; fits = (tt, tt, k.fits) }
  statement_fits (ThreadsAt n q) scope d rest behind good e g =
      let u = stopped (site_fault n) _ _ (stopped (deep_fault d) _ _ e).1 in
      let k = sequence_fits q scope (fewer d) (t.End ∷ rest) behind good u.1 g.1.1.1 in record { reached = k.reached; spelled = k.spelled.1; fits = (site_limits n u.0, site_good n u.0 g.1.1.0, k.fits) }
  statement_fits (Ifs c q r) scope d rest behind good e g =
      let k = value_fits c scope d None (t.Then ∷ sequence_text q (t.Else ∷ sequence_text r (t.End ∷ rest))) _ good.0 (stopped (deep_fault d) _ _ e).1 g.1 in
      let m = sequence_fits q scope (fewer d) (t.Else ∷ sequence_text r (t.End ∷ rest)) _ good.1 k.reached k.spelled.1 in
      let n = sequence_fits r scope (fewer d) (t.End ∷ rest) behind good.2 m.reached m.spelled.1 in record { reached = n.reached; spelled = n.spelled.1; fits = (k.fits, m.fits, n.fits) }
  statement_fits (Cases c p q cs r) scope d rest behind good e g =
      let last : List Symbol = t.Else ∷ sequence_text r (t.End ∷ rest) in
      let k = value_fits c scope d None (t.Of ∷ pattern_text p (t.Then ∷ sequence_text q (clauses_text cs last))) _ good.0 (stopped (deep_fault d) _ _ e).1 g.1 in
      let u = pattern_fits p scope (sequence_text q (clauses_text cs last)) _ k.reached k.spelled.1 in
      let m = sequence_fits q (scope ++ pattern_names p) (fewer d) (clauses_text cs last) _ good.1 u.reached u.spelled in
      let n = clauses_fit cs scope (fewer d) last _ good.2 m.reached m.spelled in
      let o = sequence_fits r scope (fewer d) (t.End ∷ rest) behind good.3 n.reached n.spelled.1 in
      let first = declared_by (FitsStatements (sequence_of q (scope ++ pattern_names p) (clauses_text cs last))) p scope (sequence_text q (clauses_text cs last)) _ k.reached m.fits in
      record { reached = o.reached; spelled = o.spelled.1; fits = (k.fits, (u.fits, first, n.fits), o.fits, omega arith) }
  statement_fits (Tries q x r) scope d rest behind good e g =
      let k = sequence_fits q scope (fewer d) (t.Catch ∷ t.Variable x ∷ t.Then ∷ sequence_text r (t.End ∷ rest)) _ good.0 (stopped (deep_fault d) _ _ e).1 g.1 in
      let m = sequence_fits r (scope ++ x ∷ []) (fewer d) (t.End ∷ rest) behind good.1 k.reached k.spelled.1.1.1 in
      record { reached = m.reached; spelled = m.spelled.1; fits = (k.fits, more_declared (FitsStatements (sequence_of r (scope ++ x ∷ []) (t.End ∷ rest))) scope (x ∷ []) m.fits) }
  statement_fits (TriesFinally q x r u) scope d rest behind good e g =
      let last : List Symbol = t.Finally ∷ sequence_text u (t.End ∷ rest) in
      let k = sequence_fits q scope (fewer d) (t.Catch ∷ t.Variable x ∷ t.Then ∷ sequence_text r last) _ good.0 (stopped (deep_fault d) _ _ e).1 g.1 in
      let m = sequence_fits r (scope ++ x ∷ []) (fewer d) last _ good.1 k.reached k.spelled.1.1.1 in
      let n = sequence_fits u scope (fewer d) (t.End ∷ rest) behind good.2 m.reached m.spelled.1 in
      record { reached = n.reached; spelled = n.spelled.1; fits = (((k.fits, more_declared (FitsStatements (sequence_of r (scope ++ x ∷ []) last)) scope (x ∷ []) m.fits), tt), n.fits) }
  statement_fits (Finally q u) scope d rest behind good e g =
      let k = sequence_fits q scope (fewer d) (t.Finally ∷ sequence_text u (t.End ∷ rest)) _ good.0 (stopped (deep_fault d) _ _ e).1 g.1 in
      let m = sequence_fits u scope (fewer d) (t.End ∷ rest) behind good.1 k.reached k.spelled.1 in record { reached = m.reached; spelled = m.spelled.1; fits = (k.fits, m.fits) }

  clauses_fit : (cs : Clauses) (scope : Scope) (d : ℕ) (rest : List Symbol) (behind : Option Fault) → ClausesDerive cs scope → check_clauses cs scope d rest behind ≡ None → Each IsSpelled (clauses_text cs rest) → Within (FitsClauses (clauses_of cs scope rest) (length scope)) rest behind
  clauses_fit no_cases scope d rest behind good e g = record { reached = e; spelled = g; fits = tt }
  clauses_fit (case_and p q cs) scope d rest behind good e g =
      let u = pattern_fits p scope (sequence_text q (clauses_text cs rest)) _ e g.1 in
      let m = sequence_fits q (scope ++ pattern_names p) d (clauses_text cs rest) _ good.0 u.reached u.spelled in
      let n = clauses_fit cs scope d rest behind good.1 m.reached m.spelled in
      let first = declared_by (FitsStatements (sequence_of q (scope ++ pattern_names p) (clauses_text cs rest))) p scope (sequence_text q (clauses_text cs rest)) _ e m.fits in
      record { reached = n.reached; spelled = n.spelled; fits = (u.fits, first, n.fits) }

  sequence_fits : (q : Sequence) (scope : Scope) (d : ℕ) (rest : List Symbol) (behind : Option Fault) → SequenceDerives q scope → check_sequence q scope d rest behind ≡ None → Each IsSpelled (sequence_text q rest)
      → Within (FitsStatements (sequence_of q scope rest) (length scope)) rest behind
  sequence_fits (One s) scope d rest behind good e g = let k = statement_fits s scope d rest behind good e g in record { reached = k.reached; spelled = k.spelled; fits = (k.fits, tt) }
  sequence_fits (Then s q) scope d rest behind good e g =
      let k = statement_fits s scope d (sequence_text q rest) _ good.0 e g in
      let m = sequence_fits q scope d rest behind good.1 k.reached k.spelled in
      record { reached = m.reached; spelled = m.spelled; fits = (k.fits, others_fit (sequence_of q scope rest) (length scope) m.fits) }

program_fits : (q : Sequence) → IsDerivation q → check q ≡ None → Each IsSpelled (program_text q) → FitsStatements (program_of q) 0
program_fits q good e g = let k = sequence_fits q [] 200 (t.EndOfText ∷ []) None good e g in k.fits

pub reads_fit : ReadsFit
reads_fit symbols s spelled r = subst (λ (tree : sugar.Statements). FitsStatements tree 0) (sym r.tree) (program_fits r.program r.derives r.passes (subst (Each IsSpelled) r.derived spelled))
