use Rattle.std.proofs.Common.{arith}
use Rattle.tree_node.proofs.WordLemmas.{no_words}
use Rattle.tree_node.proofs.words.words_of_length.Goals as goal

pub returns-else-length-eq8 : goal.returns-else-length-eq8
returns-else-length-eq8 c =
    no_words c.args.length
    (λ least most. omega (arith, least, most, c.if-length-eq2.false, c.if-length-eq3.false, c.if-length-eq4.false, c.if-length-eq5.false, c.if-length-eq6.false, c.if-length-eq7.false, c.if-length-eq8.false))
