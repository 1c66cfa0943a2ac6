-- Whether a list of clauses is empty, by the slice that holds it.
use Rattle.std.proofs.Common.{◌≡◌, ◌≢◌, List, [], ◌∷◌, length, refl}
use Rattle.kernel_syntax.specs.declared.sugar.Clause.{Clause}
use Rattle.kernel_syntax.specs.declared.sugar.Clause as clause
use Rattle.kernel_syntax.specs.Sugar.{Clauses}
use Rattle.kernel_syntax.specs.SugarView.{case_and_of, clauses_in}
use Rattle.sugar_rows.specs.Writing.{with_cases}

one_case : {A : Type 0} (c : Clause) (cs : Clauses) (a b : A) → with_cases (case_and_of c cs) a b ≡ b
one_case (clause.Then' p m q) cs a b = refl

pub some_cases : {A : Type 0} (cs : List Clause) (a b : A) → length cs ≢ 0 → with_cases (clauses_in cs) a b ≡ b
some_cases [] a b some = absurd (some refl)
some_cases (c ∷ cs) a b some = one_case c (clauses_in cs) a b

pub no_clauses : {A : Type 0} (cs : List Clause) (a b : A) → length cs ≡ 0 → with_cases (clauses_in cs) a b ≡ a
no_clauses [] a b none = refl
no_clauses (c ∷ cs) a b none = absurd cc
