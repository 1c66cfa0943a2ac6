-- A site's seat is lent: at the end of the loan the site has the seat as it was left.
use Rattle.std.specs.Prelude.{[]}
use Rattle.std.specs.Borrow.{Lends, MutBor, Fml}
use denote.RattleType.{RattleType}
use mir.Syntax.{named}
use Rattle.site_core.specs.declared.site.Site.{Site}
use Rattle.site_core.specs.contracts.site.Site.{the_row}

-- s ends with the last value behind r as its seat
abbrev pub LendsSeat : (O : RattleType) → MutBor (Site O.Denot) → MutBor O.Denot → Fml
LendsSeat O s r = Lends (the_row (record { mir = named 0; lft = [] }) O) O s r (λ w. record s.now { seat = w })
