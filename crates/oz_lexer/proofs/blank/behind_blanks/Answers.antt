use Rattle.std.proofs.Common.{◌≡◌, Some, Ok, rules}
use Rattle.oz_lexer.specs.Blanks.{here}
use Rattle.oz_lexer.specs.Scan.{behind_blank}
use Rattle.oz_lexer.proofs.Skipping.{blank_found, both_skip}
use Rattle.oz_lexer.proofs.blank.behind_blanks.Goals as goal

pub loop-behind-init : goal.loop-behind-init
loop-behind-init c = here

pub loop-behind-smaller : goal.loop-behind-smaller
loop-behind-smaller c =
    let found : behind_blank c.loop-behind.rest.now ≡ Ok (Some c.in-Ok-Some.behind.now) = search rules in
    (blank_found c.loop-behind.rest.now (Ok (Some c.in-Ok-Some.behind.now)) found).shorter

pub loop-behind-preserved : goal.loop-behind-preserved
loop-behind-preserved c =
    let found : behind_blank c.loop-behind.rest.now ≡ Ok (Some c.in-Ok-Some.behind.now) = search rules in
    both_skip c.loop-behind.invariant ((blank_found c.loop-behind.rest.now (Ok (Some c.in-Ok-Some.behind.now)) found).skips here)
