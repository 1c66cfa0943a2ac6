-- What a text stands for has at most three rows for each of its symbols.
use Rattle.std.proofs.Common.{◌≡◌, ◌∙◌, ℕ, zero, suc, ◌+◌, ◌-◌, ◌*◌, ◌≤◌, List, [], ◌∷◌, ◌++◌, length, map, Option, Some, None, refl, sym, ap, subst, arith, length-append}
use Rattle.std.proofs.lemmas.List.{length-map}
use Rattle.tree_node.specs.declared.node.Feature.{Feature}
use Rattle.kernel_syntax.specs.declared.built_in.BuiltIn.{BuiltIn}
use Rattle.kernel_syntax.specs.declared.stmt.Stmt.{Stmt}
use Rattle.kernel_syntax.specs.declared.stmt.Stmt.TheVariants as stmt
use Rattle.kernel_syntax.specs.declared.sugar.Action.TheVariants as action
use Rattle.kernel_syntax.specs.declared.sugar.Operation.TheVariants as operation
use Rattle.kernel_syntax.specs.declared.sugar.Field.{Field}
use Rattle.kernel_syntax.specs.Scopes.{features_in}
use Rattle.kernel_syntax.specs.Sugar as sugar
use Rattle.kernel_syntax.specs.Sugar.{by_kind, new_of, new_in, part_and, pair_fields, pair_values}
use Rattle.oz_grammar.specs.declared.symbol.Symbol.{Symbol}
use Rattle.oz_grammar.specs.declared.symbol.Symbol.TheVariants as t
use Rattle.oz_grammar.specs.Grammar.{Identifier, pattern_text, names_text, selection_symbol}
use Rattle.oz_grammar.specs.Scoping.{Scope, declaration_of, built_in_at, with_field, feature_of, place_feature, pattern_names}
use Rattle.oz_grammar.specs.Symbols.{symbol_of}
use Rattle.oz_grammar.specs.Table.{bar_label, pattern_of, selector_of}
use Rattle.oz_grammar.proofs.Longer.{names_longer, pattern_longer}
use Rattle.surface_grammar.specs.Derivations.{Primary, Variable, Integer, Atom, Record, Calls, Procedure, Function, Brackets, Selects, Tail, Last, More, Value, Alone, Calculates, Tests, Pairs, IfValue, CaseValue, Arguments, no_arguments, argument_and, Fields, no_fields, placed_and, named_and, ValueClauses, no_clauses, clause_and, Statement, Skips, Tells, CallsStatement, Raises, Locals, ProcNamed, FunNamed, Threads, ThreadsAt, Ifs, Cases, Tries, TriesFinally, Finally, Clauses, no_cases, case_and, Sequence, One, Then, primary_text, tail_text, value_text, arguments_text, fields_text, value_clauses_text, statement_text, clauses_text, sequence_text, program_text}
use Rattle.surface_grammar.specs.Trees.{with_last, with_value, record_value, pair_value, call_value, call_statement, primary_of, tail_of, value_in, arguments_of, fields_in, value_clauses_of, statement_of, clauses_of, sequence_of, program_of}
use Rattle.surface_grammar.specs.Laws as surface
use Rattle.sugar_rows.specs.Codes.{Code, Leaf, Codes, code_rows, codes_rows, more_rows, follow}
use Rattle.sugar_rows.specs.Codes as code
use Rattle.sugar_rows.specs.Put.{Places, place, declare, slot_places, operation_row, action_row, held, under, record_code, finally_code, put, put_all, put_fields, put_clauses, put_statement, put_statements, put_others, put_cases, put_branch, expanded_rows}
use Rattle.oz_sugar.specs.Texts.{RowsAreFew}

-- ---- how many rows a statement has

abbrev mutual
  code_count : Code → ℕ
  code_count (Leaf row) = 1
  code_count (code.Local count q) = suc (codes_count q)
  code_count (code.Proc left count q) = suc (codes_count q)
  code_count (code.Thread at q) = suc (codes_count q)
  code_count (code.If subject q r) = suc (codes_count q + codes_count r)
  code_count (code.Case subject p q r) = suc (codes_count q + codes_count r)
  code_count (code.Try q r) = suc (codes_count q + codes_count r)

  codes_count : Codes → ℕ
  codes_count (code.One s) = code_count s
  codes_count (code.Then s q) = suc (code_count s + more_count q)

  more_count : Codes → ℕ
  more_count (code.One s) = code_count s
  more_count (code.Then s q) = code_count s + more_count q

mutual
  code_counted : (c : Code) (n k : ℕ) → length (code_rows c n k) ≡ code_count c
  code_counted (Leaf row) n k = refl
  code_counted (code.Local count q) n k = ap suc (codes_counted q (n + count) (k + 1))
  code_counted (code.Proc left count q) n k = ap suc (codes_counted q (n + count) (k + 1))
  code_counted (code.Thread at q) n k = ap suc (codes_counted q n (k + 1))
  code_counted (code.If subject q r) n k =
      let at : ℕ = k + 1 + length (codes_rows q n (k + 1)) in
      let a = codes_counted q n (k + 1) in
      let b = codes_counted r n at in
      let c = length-append (codes_rows q n (k + 1)) (codes_rows r n at) in
      omega (arith, a, b, c)
  code_counted (code.Case subject p q r) n k =
      let at : ℕ = k + 1 + length (codes_rows q (n + length (features_in p)) (k + 1)) in
      let a = codes_counted q (n + length (features_in p)) (k + 1) in
      let b = codes_counted r n at in
      let c = length-append (codes_rows q (n + length (features_in p)) (k + 1)) (codes_rows r n at) in
      omega (arith, a, b, c)
  code_counted (code.Try q r) n k =
      let at : ℕ = k + 1 + length (codes_rows q n (k + 1)) in
      let a = codes_counted q n (k + 1) in
      let b = codes_counted r (n + 1) at in
      let c = length-append (codes_rows q n (k + 1)) (codes_rows r (n + 1) at) in
      omega (arith, a, b, c)

  codes_counted : (q : Codes) (n k : ℕ) → length (codes_rows q n k) ≡ codes_count q
  codes_counted (code.One s) n k = code_counted s n k
  codes_counted (code.Then s q) n k =
      let a = code_counted s n (k + 1) in
      let b = more_counted q n (k + 1 + length (code_rows s n (k + 1))) in
      let c = length-append (code_rows s n (k + 1)) (more_rows q n (k + 1 + length (code_rows s n (k + 1)))) in
      omega (arith, a, b, c)

  more_counted : (q : Codes) (n k : ℕ) → length (more_rows q n k) ≡ more_count q
  more_counted (code.One s) n k = code_counted s n k
  more_counted (code.Then s q) n k =
      let a = code_counted s n k in
      let b = more_counted q n (k + length (code_rows s n k)) in
      let c = length-append (code_rows s n k) (more_rows q n (k + length (code_rows s n k))) in
      omega (arith, a, b, c)

abbrev list_count : List Code → ℕ
list_count [] = 0
list_count (c ∷ cs) = code_count c + list_count cs

followed : (c : Code) (cs : List Code) → more_count (follow c cs) ≡ code_count c + list_count cs
followed c [] = omega arith
followed c (r ∷ rs) = let i = followed r rs in omega (arith, i)

follow_few : (c : Code) (cs : List Code) → codes_count (follow c cs) ≤ 1 + (code_count c + list_count cs)
follow_few c [] = omega arith
follow_few c (r ∷ rs) = let i = followed r rs in omega (arith, i)

under_count : (count : ℕ) (q : Codes) → codes_count (under count q) ≡ count + codes_count q
under_count zero q = omega arith
under_count (suc count) q = let i = under_count count q in omega (arith, i)

record_few : (count : ℕ) (row : Stmt) (cs : List Code) → code_count (record_code count (Leaf row) cs) ≤ count + (2 + list_count cs)
record_few zero row cs = omega arith
record_few (suc count) row cs =
    let a = under_count count (follow (Leaf row) cs) in
    let b = follow_few (Leaf row) cs in
    omega (arith, a, b)

-- ---- parts. Where r is three for each symbol behind something, and b three for each from it on, it has at most b - r rows, and
-- most have two fewer

-- a value, wherever it is put, has so few rows that two more, and r, are at most b
abbrev FewValue : sugar.Value → ℕ → ℕ → Type 0
FewValue v r b = (places : Places) (n x : ℕ) → code_count (put v places n x) + (2 + r) ≤ b

-- a part, and what goes on with its position
held_few : (v : sugar.Value) (places : Places) (f g : ℕ → ℕ → Code) (n r b s c : ℕ)
    → ((m y : ℕ) → code_count (f m y) + (2 + r) ≤ b) → ((m y : ℕ) → code_count (g m y) + s ≤ c) → code_count (held v places f n g) + (r + s) ≤ b + c
held_few (sugar.Variable left k) places f g n r b s c first other =
    let h = first n n in let o = other n (place places k) in omega (arith, h, o)
held_few v places f g n r b s c first other = let h = first (n + 1) n in let o = other (n + 1) n in omega (arith, h, o)

-- ---- fields

-- values told beside one another have so few rows, with that of a `local` for each
abbrev FewFields : sugar.Values → ℕ → Type 0
FewFields vs b = (places : Places) (n i : ℕ) → list_count (put_fields vs places n i) + new_in vs ≤ b

none_few : FewFields sugar.no_values 0
none_few places n i = omega arith

part_few : (v : sugar.Value) (vs : sugar.Values) (r b c : ℕ) → FewValue v r b → FewFields vs c → FewFields (part_and v vs) (c + (b - r - 1))
part_few (sugar.Variable left k) vs r b c f h places n i = let e = h places n i in omega (arith, e)
part_few v vs r b c f h places n i = let e = h places n (i + 1) in let d = f places n i in omega (arith, e, d)

-- the rows of one value more
last_fields : (vs : sugar.Values) (v : sugar.Value) (places : Places) (n i : ℕ)
    → list_count (put_fields (with_last vs v) places n i) ≡ list_count (put_fields vs places n i) + list_count (put_fields (sugar.value_and v sugar.no_values) places n (i + new_in vs))
last_fields sugar.no_values v places n i =
    let same : i ≡ i + 0 = omega arith in
    let e = ap (λ (j : ℕ). list_count (put_fields (sugar.value_and v sugar.no_values) places n j)) same in omega (arith, e)
last_fields (sugar.value_and (sugar.Variable left k) vs) v places n i =
    let same : i + new_in vs ≡ i + (0 + new_in vs) = omega arith in
    let e = last_fields vs v places n i in
    let d = ap (λ (j : ℕ). list_count (put_fields (sugar.value_and v sugar.no_values) places n j)) same in
    omega (arith, e, d)
last_fields (sugar.value_and u vs) v places n i =
    let same : i + 1 + new_in vs ≡ i + (1 + new_in vs) = omega arith in
    let e = last_fields vs v places n (i + 1) in
    let d = ap (λ (j : ℕ). list_count (put_fields (sugar.value_and v sugar.no_values) places n j)) same in
    omega (arith, e, d)

last_new : (vs : sugar.Values) (v : sugar.Value) → new_in (with_last vs v) ≡ new_in vs + new_of v
last_new sugar.no_values v = omega arith
last_new (sugar.value_and u vs) v = let i = last_new vs v in omega (arith, i)

last_few : (v : sugar.Value) (vs : sugar.Values) (r b c : ℕ) → FewValue v r b → FewFields vs c → FewFields (with_value vs v) (c + (b - r - 1))
last_few (sugar.Variable left k) vs r b c f h places n i = let e = h places n i in omega (arith, e)
last_few v vs r b c f h places n i =
    let e = h places n i in
    let d = f places n (i + new_in vs) in
    let l = last_fields vs v places n i in
    let k = last_new vs v in
    omega (arith, e, d, l, k)

-- a record of these values
record_value_few : (left : ℕ) (a : List ℕ) (slots : List (Feature × Field)) (vs : sugar.Values) (b : ℕ) → FewFields vs b → (places : Places) (n x : ℕ) → code_count (put (record_value left a slots vs) places n x) ≤ 2 + b
record_value_few left a [] vs b h places n x = omega arith
record_value_few left a (slot ∷ slots) vs b h places n x =
    let e = h places (n + new_in vs) n in
    let d = record_few (new_in vs) (stmt.TellRec x a (slot_places places n (slot ∷ slots))) (put_fields vs places (n + new_in vs) n) in
    omega (arith, e, d)

-- H|T
pair_few : (left : ℕ) (v u : sugar.Value) (r b c : ℕ) → FewValue v (3 + b) c → FewValue u r b → FewValue (pair_value left v u) r c
pair_few left v u r b c first other places n x =
    let two = part_few v (part_and u sugar.no_values) (3 + b) c (0 + (b - r - 1)) first (part_few u sugar.no_values r b 0 other none_few) in
    let e = two places (n + new_in (pair_values v u)) n in
    let d = record_few (new_in (pair_values v u)) (stmt.TellRec x bar_label (slot_places places n (pair_fields v u))) (put_fields (pair_values v u) places (n + new_in (pair_values v u)) n) in
    let f = first places n x in
    let g = other places n x in
    omega (arith, e, d, f, g)

-- ---- calls

-- parts, and what goes on with their positions
abbrev FewParts : sugar.Values → ℕ → ℕ → Type 0
FewParts vs r b = (places : Places) (n : ℕ) (ys : List ℕ) (go_on : ℕ → List ℕ → Code) (s c : ℕ) → ((m : ℕ) (zs : List ℕ) → code_count (go_on m zs) + s ≤ c) → code_count (put_all vs places n ys go_on) + (r + s) ≤ b + c

no_parts_few : (r : ℕ) → FewParts sugar.no_values r r
no_parts_few r places n ys go_on s c h = let e = h n ys in omega (arith, e)

parts_few : (v : sugar.Value) (vs : sugar.Values) (r b c : ℕ) → FewValue v b c → FewParts vs r b → FewParts (sugar.value_and v vs) r c
parts_few v vs r b c first other places n ys go_on s d h =
    let e = held_few v places (put v places) (λ (m y : ℕ). put_all vs places m (ys ++ y ∷ []) go_on) n b c (r + s) (b + d) (λ (m y : ℕ). first places m y) (λ (m y : ℕ). other places m (ys ++ y ∷ []) go_on s d h) in
    omega (arith, e)

-- a row with parts
applied_few : (vs : sugar.Values) (r b : ℕ) → FewParts vs r b → (places : Places) (n : ℕ) (row : List ℕ → Stmt) → code_count (put_all vs places n [] (λ (m : ℕ) (ys : List ℕ). Leaf (row ys))) + r ≤ 1 + b
applied_few vs r b few places n row =
    let e = few places n [] (λ (m : ℕ) (ys : List ℕ). Leaf (row ys)) 0 1 (λ (m : ℕ) (ys : List ℕ). omega arith) in omega (arith, e)

-- .. with two
two_few : (v w : sugar.Value) (r b c : ℕ) → FewValue v (3 + b) c → FewValue w r b → (places : Places) (n : ℕ) (row : List ℕ → Stmt)
    → code_count (put_all (sugar.value_and v (sugar.value_and w sugar.no_values)) places n [] (λ (m : ℕ) (ys : List ℕ). Leaf (row ys))) + (2 + r) ≤ c
two_few v w r b c first other places n row =
    let one = parts_few w sugar.no_values (3 + r) (3 + r) (3 + b) (λ (ps : Places) (m y : ℕ). let k = other ps m y in omega (arith, k)) (no_parts_few (3 + r)) in
    let both = parts_few v (sugar.value_and w sugar.no_values) (3 + r) (3 + b) c first one in
    let e = applied_few (sugar.value_and v (sugar.value_and w sugar.no_values)) (3 + r) c both places n row in
    omega (arith, e)

call_value_few : (o : Option BuiltIn) (left p : ℕ) (vs : sugar.Values) (r b : ℕ) → FewParts vs r b → (places : Places) (n x : ℕ) → code_count (put (call_value o left p vs) places n x) + r ≤ 1 + b
call_value_few (Some built) left p vs r b few places n x = applied_few vs r b few places n (λ (ys : List ℕ). operation_row places (operation.BuiltIn built) ys x)
call_value_few None left p vs r b few places n x = applied_few vs r b few places n (λ (ys : List ℕ). operation_row places (operation.Call p) ys x)

call_statement_few : (o : Option BuiltIn) (left p : ℕ) (vs : sugar.Values) (r b : ℕ) → FewParts vs r b → (places : Places) (n : ℕ) → code_count (put_statement (call_statement o left p vs) places n) + r ≤ 1 + b
call_statement_few (Some built) left p vs r b few places n = applied_few vs r b few places n (λ (ys : List ℕ). action_row places (action.BuiltIn built) ys)
call_statement_few None left p vs r b few places n = applied_few vs r b few places n (λ (ys : List ℕ). action_row places (action.Call p) ys)

-- ---- statements

abbrev FewStatement : sugar.Statement → ℕ → ℕ → Type 0
FewStatement s r b = (places : Places) (n : ℕ) → code_count (put_statement s places n) + (2 + r) ≤ b

abbrev FewStatements : sugar.Statements → ℕ → ℕ → Type 0
FewStatements q r b = (places : Places) (n : ℕ) → codes_count (put_statements q places n) + (2 + r) ≤ b

abbrev FewOthers : sugar.Statements → ℕ → ℕ → Type 0
FewOthers q r b = (places : Places) (n : ℕ) → list_count (put_others q places n) + (2 + r) ≤ b

-- ---- derivations: three rows a symbol at most

-- three times as many as these symbols
abbrev thrice : List Symbol → ℕ
thrice symbols = 3 * length symbols

mutual
  primary_few : (p : Primary) (scope : Scope) (rest : List Symbol) → FewValue (primary_of p scope rest) (thrice rest) (thrice (primary_text p rest))
  primary_few (Variable y) scope rest places n x = omega arith
  primary_few (Integer i) scope rest places n x = omega arith
  primary_few (Atom a) scope rest places n x = omega arith
  primary_few (Record a fs) scope rest places n x =
      let e = fields_few fs scope 1 0 [] sugar.no_values (t.CloseRound ∷ rest) (length (primary_text (Record a fs) rest)) a 0 none_few places n x in omega (arith, e)
  primary_few (Calls p vs) scope rest places n x =
      let e = call_value_few (built_in_at scope p) (length (primary_text (Calls p vs) rest)) (declaration_of scope p) (arguments_of vs scope (t.CloseCurly ∷ rest)) (thrice (t.CloseCurly ∷ rest)) (thrice (arguments_text vs (t.CloseCurly ∷ rest))) (arguments_few vs scope (t.CloseCurly ∷ rest)) places n x in omega (arith, e)
  primary_few (Procedure xs q) scope rest places n x =
      let e = sequence_few q (scope ++ xs) (t.End ∷ rest) (declare places n (length xs)) (n + length xs) in
      let l = names_longer xs (t.CloseCurly ∷ sequence_text q (t.End ∷ rest)) in
      omega (arith, e, l)
  primary_few (Function xs v) scope rest places n x =
      let e = value_few v (scope ++ xs) (t.End ∷ rest) (declare places n (length xs)) (n + length xs + 1) (n + length xs) in
      let l = names_longer xs (t.CloseCurly ∷ value_text v (t.End ∷ rest)) in
      omega (arith, e, l)
  primary_few (Brackets v) scope rest places n x = let e = value_few v scope (t.CloseRound ∷ rest) places n x in omega (arith, e)
  primary_few (Selects p s) scope rest places n x =
      let behind : List Symbol = t.Dot ∷ selection_symbol s ∷ rest in
      let w : sugar.Value = primary_of p scope behind in
      let one = parts_few w sugar.no_values (thrice behind) (thrice behind) (thrice (primary_text p behind)) (primary_few p scope behind) (no_parts_few (thrice behind)) in
      let e = applied_few (sugar.value_and w sugar.no_values) (thrice behind) (thrice (primary_text p behind)) one places n (λ (ys : List ℕ). operation_row places (operation.Select (selector_of s scope)) ys x) in omega (arith, e)

  tail_few : (l : Tail) (scope : Scope) (rest : List Symbol) → FewValue (tail_of l scope rest) (thrice rest) (thrice (tail_text l rest))
  tail_few (Last p) scope rest places n x = primary_few p scope rest places n x
  tail_few (More p l) scope rest places n x =
      let first = primary_few p scope (t.Bar ∷ tail_text l rest) in
      pair_few (length (tail_text (More p l) rest)) (primary_of p scope (t.Bar ∷ tail_text l rest)) (tail_of l scope rest) (thrice rest) (thrice (tail_text l rest)) (thrice (tail_text (More p l) rest)) (λ (ps : Places) (m y : ℕ). let e = first ps m y in omega (arith, e)) (tail_few l scope rest) places n x

  value_few : (v : Value) (scope : Scope) (rest : List Symbol) → FewValue (value_in v scope rest) (thrice rest) (thrice (value_text v rest))
  value_few (Alone p) scope rest places n x = primary_few p scope rest places n x
  value_few (Calculates p o q) scope rest places n x =
      let first = primary_few p scope (t.Operator o ∷ primary_text q rest) in
      let e = two_few (primary_of p scope (t.Operator o ∷ primary_text q rest)) (primary_of q scope rest) (thrice rest) (thrice (primary_text q rest)) (thrice (primary_text p (t.Operator o ∷ primary_text q rest)))
      (λ (ps : Places) (m y : ℕ). let k = first ps m y in omega (arith, k)) (primary_few q scope rest) places n (λ (ys : List ℕ). operation_row places (operation.Calc o) ys x) in
      omega (arith, e)
  value_few (Tests p o q) scope rest places n x =
      let first = primary_few p scope (t.Test o ∷ primary_text q rest) in
      let e = two_few (primary_of p scope (t.Test o ∷ primary_text q rest)) (primary_of q scope rest) (thrice rest) (thrice (primary_text q rest)) (thrice (primary_text p (t.Test o ∷ primary_text q rest)))
      (λ (ps : Places) (m y : ℕ). let k = first ps m y in omega (arith, k)) (primary_few q scope rest) places n (λ (ys : List ℕ). operation_row places (operation.Test o) ys x) in
      omega (arith, e)
  value_few (Pairs p l) scope rest places n x =
      let first = primary_few p scope (t.Bar ∷ tail_text l rest) in
      pair_few (length (value_text (Pairs p l) rest)) (primary_of p scope (t.Bar ∷ tail_text l rest)) (tail_of l scope rest) (thrice rest) (thrice (tail_text l rest)) (thrice (value_text (Pairs p l) rest)) (λ (ps : Places) (m y : ℕ). let e = first ps m y in omega (arith, e)) (tail_few l scope rest) places n x
  value_few (IfValue e a b) scope rest places n x =
      let last : List Symbol = value_text b (t.End ∷ rest) in
      let chosen : List Symbol = value_text a (t.Else ∷ last) in
      let f = value_few e scope (t.Then ∷ chosen) in
      let g = value_few a scope (t.Else ∷ last) in
      let h = value_few b scope (t.End ∷ rest) in
      let d = held_few (value_in e scope (t.Then ∷ chosen)) places (put (value_in e scope (t.Then ∷ chosen)) places) (λ (m y : ℕ). code.If y (code.One (put (value_in a scope (t.Else ∷ last)) places m x)) (code.One (put (value_in b scope (t.End ∷ rest)) places m x))) n (thrice (t.Then ∷ chosen)) (thrice (value_text e (t.Then ∷ chosen))) (9 + thrice rest) (thrice chosen) (λ (m y : ℕ). f places m y)
      (λ (m y : ℕ). let k = g places m x in let j = h places m x in omega (arith, k, j)) in
      omega (arith, d)
  value_few (CaseValue e p v cs b) scope rest places n x =
      let last : List Symbol = value_text b (t.End ∷ rest) in
      let others : List Symbol = value_clauses_text cs (t.Else ∷ last) in
      let chosen : List Symbol = value_text v others in
      let all : List Symbol = pattern_text p (t.Then ∷ chosen) in
      let l = pattern_longer p (t.Then ∷ chosen) in
      let f = value_few e scope (t.Of ∷ all) in
      let g = value_few v (scope ++ pattern_names p) others in
      let h = value_few b scope (t.End ∷ rest) in
      let d = held_few (value_in e scope (t.Of ∷ all)) places (put (value_in e scope (t.Of ∷ all)) places) (λ (m y : ℕ). put_clauses (sugar.clause_and (pattern_of p) (value_in v (scope ++ pattern_names p) others) (value_clauses_of cs scope (t.Else ∷ last))) places m y x (put (value_in b scope (t.End ∷ rest)) places m x)) n (thrice (t.Of ∷ all)) (thrice (value_text e (t.Of ∷ all))) (9 + thrice rest) (thrice chosen) (λ (m y : ℕ). f places m y)
      (λ (m y : ℕ).
      let k = g (declare places m (length (features_in (pattern_of p)))) (m + length (features_in (pattern_of p))) x in
      let i = value_clauses_few cs scope (t.Else ∷ last) places m y x (put (value_in b scope (t.End ∷ rest)) places m x) in
      let j = h places m x in
      omega (arith, k, i, j)) in
      omega (arith, d, l)

  arguments_few : (vs : Arguments) (scope : Scope) (rest : List Symbol) → FewParts (arguments_of vs scope rest) (thrice rest) (thrice (arguments_text vs rest))
  arguments_few no_arguments scope rest = no_parts_few (thrice rest)
  arguments_few (argument_and v vs) scope rest =
      parts_few (value_in v scope (arguments_text vs rest)) (arguments_of vs scope rest) (thrice rest) (thrice (arguments_text vs rest)) (thrice (value_text v (arguments_text vs rest))) (value_few v scope (arguments_text vs rest)) (arguments_few vs scope rest)

  fields_few : (fs : Fields) (scope : Scope) (nth i : ℕ) (slots : List (Feature × Field)) (vs : sugar.Values) (rest : List Symbol) (left : ℕ) (a : List ℕ) (b : ℕ) → FewFields vs b
      → (places : Places) (n x : ℕ) → code_count (put (fields_in fs scope nth i slots vs rest left a) places n x) + thrice rest ≤ 2 + b + thrice (fields_text fs rest)
  fields_few no_fields scope nth i slots vs rest left a b h places n x = let e = record_value_few left a slots vs b h places n x in omega (arith, e)
  fields_few (placed_and v fs) scope nth i slots vs rest left a b h places n x =
      let w : sugar.Value = value_in v scope (fields_text fs rest) in
      let f = value_few v scope (fields_text fs rest) in
      let e = fields_few fs scope (nth + 1) (i + new_of w) (with_field (place_feature nth) (sugar.field_of w i) slots) (with_value vs w) rest left a (b + (thrice (value_text v (fields_text fs rest)) - thrice (fields_text fs rest) - 1)) (last_few w vs (thrice (fields_text fs rest)) (thrice (value_text v (fields_text fs rest))) b f h) places n x in
      let d = f places n x in
      omega (arith, e, d)
  fields_few (named_and m v fs) scope nth i slots vs rest left a b h places n x =
      let w : sugar.Value = value_in v scope (fields_text fs rest) in
      let f = value_few v scope (fields_text fs rest) in
      let e = fields_few fs scope nth (i + new_of w) (with_field (feature_of m) (sugar.field_of w i) slots) (with_value vs w) rest left a (b + (thrice (value_text v (fields_text fs rest)) - thrice (fields_text fs rest) - 1)) (last_few w vs (thrice (fields_text fs rest)) (thrice (value_text v (fields_text fs rest))) b f h) places n x in
      let d = f places n x in
      omega (arith, e, d)

  value_clauses_few : (cs : ValueClauses) (scope : Scope) (rest : List Symbol) (places : Places) (n y x : ℕ) (other : Code)
      → code_count (put_clauses (value_clauses_of cs scope rest) places n y x other) + thrice rest ≤ code_count other + thrice (value_clauses_text cs rest)
  value_clauses_few no_clauses scope rest places n y x other = omega arith
  value_clauses_few (clause_and p v cs) scope rest places n y x other =
      let others : List Symbol = value_clauses_text cs rest in
      let e = value_few v (scope ++ pattern_names p) others (declare places n (length (features_in (pattern_of p)))) (n + length (features_in (pattern_of p))) x in
      let d = value_clauses_few cs scope rest places n y x other in
      let l = pattern_longer p (t.Then ∷ value_text v others) in
      omega (arith, e, d, l)

  statement_few : (s : Statement) (scope : Scope) (rest : List Symbol) → FewStatement (statement_of s scope rest) (thrice rest) (thrice (statement_text s rest))
  statement_few Skips scope rest places n = omega arith
  statement_few (Tells x v) scope rest places n = let e = value_few v scope rest places n (place places (declaration_of scope x)) in omega (arith, e)
  statement_few (CallsStatement p vs) scope rest places n =
      let e = call_statement_few (built_in_at scope p) (length (statement_text (CallsStatement p vs) rest)) (declaration_of scope p) (arguments_of vs scope (t.CloseCurly ∷ rest)) (thrice (t.CloseCurly ∷ rest)) (thrice (arguments_text vs (t.CloseCurly ∷ rest))) (arguments_few vs scope (t.CloseCurly ∷ rest)) places n in omega (arith, e)
  statement_few (Raises v) scope rest places n =
      let w : sugar.Value = value_in v scope (t.End ∷ rest) in
      let one = parts_few w sugar.no_values (thrice (t.End ∷ rest)) (thrice (t.End ∷ rest)) (thrice (value_text v (t.End ∷ rest))) (value_few v scope (t.End ∷ rest)) (no_parts_few (thrice (t.End ∷ rest))) in
      let e = applied_few (sugar.value_and w sugar.no_values) (thrice (t.End ∷ rest)) (thrice (value_text v (t.End ∷ rest))) one places n (λ (ys : List ℕ). action_row places action.Raise ys) in omega (arith, e)
  statement_few (Locals x xs q) scope rest places n =
      let e = sequence_few q (scope ++ x ∷ xs) (t.End ∷ rest) (declare places n (length (x ∷ xs))) (n + length (x ∷ xs)) in
      let l = names_longer xs (t.In ∷ sequence_text q (t.End ∷ rest)) in
      omega (arith, e, l)
  statement_few (ProcNamed x xs q) scope rest places n =
      let e = sequence_few q (scope ++ xs) (t.End ∷ rest) (declare places n (length xs)) (n + length xs) in
      let l = names_longer xs (t.CloseCurly ∷ sequence_text q (t.End ∷ rest)) in
      omega (arith, e, l)
  statement_few (FunNamed x xs v) scope rest places n =
      let e = value_few v (scope ++ xs) (t.End ∷ rest) (declare places n (length xs)) (n + length xs + 1) (n + length xs) in
      let l = names_longer xs (t.CloseCurly ∷ value_text v (t.End ∷ rest)) in
      omega (arith, e, l)
  statement_few (Threads q) scope rest places n = let e = sequence_few q scope (t.End ∷ rest) places n in omega (arith, e)
  statement_few (ThreadsAt i q) scope rest places n = let e = sequence_few q scope (t.End ∷ rest) places n in omega (arith, e)
  statement_few (Ifs e q r) scope rest places n =
      let last : List Symbol = sequence_text r (t.End ∷ rest) in
      let chosen : List Symbol = sequence_text q (t.Else ∷ last) in
      let f = value_few e scope (t.Then ∷ chosen) in
      let d = held_few (value_in e scope (t.Then ∷ chosen)) places (put (value_in e scope (t.Then ∷ chosen)) places) (λ (m y : ℕ). code.If y (put_statements (sequence_of q scope (t.Else ∷ last)) places m) (put_statements (sequence_of r scope (t.End ∷ rest)) places m)) n (thrice (t.Then ∷ chosen)) (thrice (value_text e (t.Then ∷ chosen))) (9 + thrice rest) (thrice chosen) (λ (m y : ℕ). f places m y)
      (λ (m y : ℕ). let k = sequence_few q scope (t.Else ∷ last) places m in let j = sequence_few r scope (t.End ∷ rest) places m in omega (arith, k, j)) in
      omega (arith, d)
  statement_few (Cases e p q cs r) scope rest places n =
      let last : List Symbol = sequence_text r (t.End ∷ rest) in
      let others : List Symbol = clauses_text cs (t.Else ∷ last) in
      let chosen : List Symbol = sequence_text q others in
      let all : List Symbol = pattern_text p (t.Then ∷ chosen) in
      let l = pattern_longer p (t.Then ∷ chosen) in
      let f = value_few e scope (t.Of ∷ all) in
      let d = held_few (value_in e scope (t.Of ∷ all)) places (put (value_in e scope (t.Of ∷ all)) places) (λ (m y : ℕ). put_cases (sugar.case_and (pattern_of p) (sequence_of q (scope ++ pattern_names p) others) (clauses_of cs scope (t.Else ∷ last))) places m y (put_statements (sequence_of r scope (t.End ∷ rest)) places m)) n (thrice (t.Of ∷ all)) (thrice (value_text e (t.Of ∷ all))) (9 + thrice rest) (thrice chosen) (λ (m y : ℕ). f places m y)
      (λ (m y : ℕ).
      let k = sequence_few q (scope ++ pattern_names p) others (declare places m (length (features_in (pattern_of p)))) (m + length (features_in (pattern_of p))) in
      let i = branch_few cs scope (t.Else ∷ last) places m y (put_statements (sequence_of r scope (t.End ∷ rest)) places m) in
      let j = sequence_few r scope (t.End ∷ rest) places m in
      omega (arith, k, i, j)) in
      omega (arith, d, l)
  statement_few (Tries q x r) scope rest places n =
      let mid : List Symbol = sequence_text r (t.End ∷ rest) in
      let e = sequence_few q scope (t.Catch ∷ t.Variable x ∷ t.Then ∷ mid) places n in
      let d = sequence_few r (scope ++ x ∷ []) (t.End ∷ rest) (declare places n 1) (n + 1) in
      omega (arith, e, d)
  statement_few (TriesFinally q x r u) scope rest places n =
      let last : List Symbol = sequence_text u (t.End ∷ rest) in
      let mid : List Symbol = sequence_text r (t.Finally ∷ last) in
      let e = sequence_few q scope (t.Catch ∷ t.Variable x ∷ t.Then ∷ mid) places (n + 1) in
      let d = sequence_few r (scope ++ x ∷ []) (t.Finally ∷ last) (declare places (n + 1) 1) (n + 1 + 1) in
      let c = sequence_few u scope (t.End ∷ rest) places (n + 1) in
      omega (arith, e, d, c)
  statement_few (Finally q u) scope rest places n =
      let last : List Symbol = sequence_text u (t.End ∷ rest) in
      let e = sequence_few q scope (t.Finally ∷ last) places (n + 1) in
      let c = sequence_few u scope (t.End ∷ rest) places (n + 1) in
      omega (arith, e, c)

  branch_few : (cs : Clauses) (scope : Scope) (rest : List Symbol) (places : Places) (n y : ℕ) (other : Codes)
      → codes_count (put_branch (clauses_of cs scope rest) places n y other) + thrice rest ≤ codes_count other + thrice (clauses_text cs rest)
  branch_few no_cases scope rest places n y other = omega arith
  branch_few (case_and p q cs) scope rest places n y other =
      let others : List Symbol = clauses_text cs rest in
      let e = sequence_few q (scope ++ pattern_names p) others (declare places n (length (features_in (pattern_of p)))) (n + length (features_in (pattern_of p))) in
      let d = branch_few cs scope rest places n y other in
      let l = pattern_longer p (t.Then ∷ sequence_text q others) in
      omega (arith, e, d, l)

  sequence_few : (q : Sequence) (scope : Scope) (rest : List Symbol) → FewStatements (sequence_of q scope rest) (thrice rest) (thrice (sequence_text q rest))
  sequence_few (One s) scope rest places n = statement_few s scope rest places n
  sequence_few (Then s q) scope rest places n =
      let e = statement_few s scope (sequence_text q rest) places n in
      let d = others_few q scope rest places n in
      let f = follow_few (put_statement (statement_of s scope (sequence_text q rest)) places n) (put_others (sequence_of q scope rest) places n) in
      omega (arith, e, d, f)

  others_few : (q : Sequence) (scope : Scope) (rest : List Symbol) → FewOthers (sequence_of q scope rest) (thrice rest) (thrice (sequence_text q rest))
  others_few (One s) scope rest places n = let e = statement_few s scope rest places n in omega (arith, e)
  others_few (Then s q) scope rest places n =
      let e = statement_few s scope (sequence_text q rest) places n in
      let d = others_few q scope rest places n in
      omega (arith, e, d)

program_few : (q : Sequence) → length (expanded_rows (program_of q)) ≤ 3 * length (program_text q)
program_few q =
    let e = sequence_few q [] (t.EndOfText ∷ []) [] 0 in
    let d = codes_counted (put_statements (program_of q) [] 0) 0 0 in
    omega (arith, e, d)

pub rows_are_few : RowsAreFew
rows_are_few text p r =
    let g = r.reads.reads in
    let e = program_few g.program in
    let rows : length p ≡ length (expanded_rows (program_of g.program)) = ap length (r.expands ∙ ap expanded_rows g.tree) in
    let symbols : length (map symbol_of r.reads.tokens) ≡ length (program_text g.program) = ap length g.derived in
    let tokens = length-map r.reads.tokens symbol_of in
    omega (arith, e, rows, symbols, tokens)
