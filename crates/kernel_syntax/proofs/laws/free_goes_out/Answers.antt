use Rattle.kernel_syntax.proofs.FreeLemmas.{owners_have_free, names_are_free}
use Rattle.kernel_syntax.proofs.laws.free_goes_out.Goals as goal

pub returns : goal.returns
returns c = record { names = names_are_free; bodies = owners_have_free }
