use Rattle.oz_sugar.proofs.TextLaws.{are_one_of_both, texts_are_programs, kernel_texts_read}
use Rattle.oz_sugar.proofs.laws.texts_have_one_of_both.Goals as goal

pub returns : goal.returns
returns c =
    let surface = c.texts_have_one_of_both.ensures in
    record { one_of_both = are_one_of_both surface.one_of_both c.texts_divide.ensures.once; programs = texts_are_programs surface.fit; kernel = kernel_texts_read c.kernel_expands.ensures }
