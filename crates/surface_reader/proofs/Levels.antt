-- What has levels has one less inside it.
use Rattle.std.proofs.Common.{◌≡◌, ℕ, zero, suc, ◌+◌, refl, arith}
use Rattle.oz_grammar.specs.Faults.{fewer}
use Rattle.surface_grammar.specs.Reading.{below}
use Rattle.surface_reader.specs.Levels.{read_value, read_operand, read_tail, read_statement, readers}

below_more : (d : ℕ) → below (suc d) ≡ readers d
unfolding below read_value read_operand read_tail read_statement
below_more d = refl

pub below_is : (d n : ℕ) → d ≡ n + 1 → below d ≡ readers n
below_is zero n e = absurd (omega arith)
below_is (suc d) n e = let same : d ≡ n = omega arith in rw same (below_more n)

pub fewer_is : (d n : ℕ) → d ≡ n + 1 → fewer d ≡ n
fewer_is zero n e = absurd (omega arith)
fewer_is (suc d) n e = omega arith
