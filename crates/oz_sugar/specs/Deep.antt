-- Where an expansion is too deep: at the first statement or value, in the order of the text, that stands for kernel
-- statements of which one of its own, apart from those of its parts, has depth 201.
use Rattle.std.specs.Prelude.{◌≡◌, ℕ, ◌+◌, ◌-◌, nat_lt, if◌then◌else◌, Option, Some, None, Result, Ok, Err, length, take, slice_index}
use Rattle.kernel_syntax.specs.Surfaces.{SurfaceParts}
use Rattle.kernel_syntax.specs.SugarView.{statements_in}
use Rattle.oz_lexer.specs.Place.{place_of}
use Rattle.oz_grammar.specs.declared.fault.TextFault.{TextFault}
use Rattle.oz_grammar.specs.declared.fault.FaultKind.TheVariants as faults
use Rattle.kernel_syntax.specs.Sugar.{Value, Variable, Integer, Atom, Record, Apply, Proc, Fun, If, Case, Brackets, Values, no_values, value_and, ValueClauses, no_clauses, clause_and, Statement, Skip, Tell, Acts, Local, Thread, IfStatement, CaseStatement, Try, Finally, Statements, no_statements, statement_and, Clauses, no_cases, case_and, left_of, by_kind, new_of, new_in, pair_of, count_value_clauses, count_clauses}

-- the first of two places
abbrev pub or_else : Option ℕ → Option ℕ → Option ℕ
or_else (Some left) other = Some left
or_else None other = other

-- here, where the depth is above 200, else behind
abbrev pub too_deep : ℕ → ℕ → Option ℕ → Option ℕ
too_deep depth left behind = if nat_lt 200 depth then Some left else behind

-- Each gives how many symbols are left at the first place. A value counts as one with so many symbols left, and its first
-- kernel statement has this depth.
abbrev mutual
  pub deep_value : Value → ℕ → ℕ → Option ℕ
  deep_value (Variable left k) at d = too_deep d at None
  deep_value (Integer left i) at d = too_deep d at None
  deep_value (Atom left a) at d = too_deep d at None
  deep_value (Record left a slots vs) at d = too_deep (d + new_in vs) at (deep_fields vs (d + new_in vs))
  deep_value (Apply left operation vs) at d = too_deep (d + new_in vs) at (deep_parts vs d)
  deep_value (Proc left count q) at d = too_deep d at (deep_statements q (d + 1))
  deep_value (Fun left count v) at d = too_deep d at (deep_value v (left_of v) (d + 1))
  deep_value (If left e a b) at d =
      too_deep (d + new_of e) at
      (or_else (by_kind e None (deep_value e (left_of e) (d + 1)))
      (or_else (deep_value a (left_of a) (d + new_of e + 1)) (deep_value b (left_of b) (d + new_of e + 1))))
  deep_value (Case left e cs b) at d =
      too_deep (d + new_of e + (count_value_clauses cs - 1)) at
      (or_else (by_kind e None (deep_value e (left_of e) (d + 1)))
      (or_else (deep_clauses cs (d + new_of e + 1)) (deep_value b (left_of b) (d + new_of e + count_value_clauses cs))))
  deep_value (Brackets left v) at d = deep_value v at d

  -- parts, each in the `local` of the one before
  pub deep_parts : Values → ℕ → Option ℕ
  deep_parts no_values d = None
  deep_parts (value_and v vs) d = or_else (by_kind v None (deep_value v (left_of v) (d + 1))) (deep_parts vs (d + new_of v))

  -- fields that are no variables, beside one another
  pub deep_fields : Values → ℕ → Option ℕ
  deep_fields no_values d = None
  deep_fields (value_and v vs) d = or_else (by_kind v None (deep_value v (left_of v) d)) (deep_fields vs d)

  -- clauses, each in the `else` branch of the one before
  pub deep_clauses : ValueClauses → ℕ → Option ℕ
  deep_clauses no_clauses d = None
  deep_clauses (clause_and p v cs) d = or_else (deep_value v (left_of v) d) (deep_clauses cs (d + 1))

  pub deep_statement : Statement → ℕ → Option ℕ
  deep_statement (Skip left) d = too_deep d left None
  deep_statement (Tell left x v) d = deep_value v left d
  deep_statement (Acts left action vs) d = too_deep (d + new_in vs) left (deep_parts vs d)
  deep_statement (Local left count q) d = too_deep d left (deep_statements q (d + 1))
  deep_statement (Thread left at q) d = too_deep d left (deep_statements q (d + 1))
  deep_statement (IfStatement left e q r) d =
      too_deep (d + new_of e) left
      (or_else (by_kind e None (deep_value e (left_of e) (d + 1)))
      (or_else (deep_statements q (d + new_of e + 1)) (deep_statements r (d + new_of e + 1))))
  deep_statement (CaseStatement left e cs r) d =
      too_deep (d + new_of e + (count_clauses cs - 1)) left
      (or_else (by_kind e None (deep_value e (left_of e) (d + 1)))
      (or_else (deep_cases cs (d + new_of e + 1)) (deep_statements r (d + new_of e + count_clauses cs))))
  deep_statement (Try left q r) d = too_deep d left (or_else (deep_statements q (d + 1)) (deep_statements r (d + 1)))
  deep_statement (Finally left q u) d = too_deep (d + 2) left (or_else (deep_statements q (d + 2)) (deep_statements u (d + 2)))

  pub deep_statements : Statements → ℕ → Option ℕ
  deep_statements no_statements d = None
  deep_statements (statement_and s q) d = or_else (deep_statement s d) (deep_statements q d)

  pub deep_cases : Clauses → ℕ → Option ℕ
  deep_cases no_cases d = None
  deep_cases (case_and p q cs) d = or_else (deep_statements q d) (deep_cases cs (d + 1))

-- in the record of a head and a tail
abbrev pub deep_list : Value × Value → ℕ → ℕ → Option ℕ
deep_list hu at d = deep_value (pair_of 0 hu) at d

-- a place that was found, or else where a list begins and a depth
abbrev pub or_behind : Option ℕ → ℕ × ℕ → Result (ℕ × ℕ) ℕ
or_behind (Some left) p = Err left
or_behind None p = Ok p

-- what is found in a head, or else what the list behind it, which begins at this place, counts as, and the depth of its first statement
abbrev pub deep_head : Value → ℕ → ℕ → ℕ → Result (ℕ × ℕ) ℕ
deep_head h left at d = or_behind (too_deep (d + new_of h + 1) at (by_kind h None (deep_value h (left_of h) (d + new_of h + 1)))) (left, d + new_of h + 1)

-- what is found before a head and a tail, or in these as is told
abbrev pub deep_behind : Result (ℕ × ℕ) ℕ → Value × Value → Option ℕ
deep_behind (Ok p) hu = deep_list hu p.0 p.1
deep_behind (Err left) hu = Some left

-- the first place in a program, whose statements have depth 1
abbrev pub deep : Statements → Option ℕ
deep q = deep_statements q 1

-- .. with its line and column
pub record IsTooDeep (s : SurfaceParts) (f : TextFault) : Type 0 where
  pub left : ℕ
  pub first : deep (statements_in s.tree) ≡ Some left
  pub kind : f.kind ≡ faults.Deep
  pub place : (f.line, f.column) ≡ place_of (take (slice_index s.starts (length s.starts - left)) s.text)
