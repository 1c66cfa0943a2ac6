-- What is built in.
use Rattle.std.specs.Prelude.{ℕ}
use Rattle.kernel_syntax.specs.declared.built_in.BuiltIn.{BuiltIn}
use Rattle.kernel_syntax.specs.declared.built_in.BuiltIn.TheVariants as built

-- the number of the arguments of a built-in call
abbrev pub arity_of : BuiltIn → ℕ
arity_of built.Browse = 1
arity_of built.Wait = 1
arity_of built.NewCell = 2
arity_of built.Exchange = 3
arity_of built.NewPort = 2
arity_of built.Send = 2
arity_of built.NewCellAt = 3
