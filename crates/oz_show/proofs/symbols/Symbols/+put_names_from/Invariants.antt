use Rattle.oz_show.proofs.symbols.Symbols.+put_names_from.Given as goal

abbrev pub decreases-put_names_from : goal.decreases-put_names_from
decreases-put_names_from l = l.count
