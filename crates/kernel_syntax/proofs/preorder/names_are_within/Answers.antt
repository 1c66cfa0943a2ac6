use Rattle.kernel_syntax.proofs.preorder.names_are_within.Goals as goal

pub returns-then-left-around-2 : goal.returns-then-left-around-2
returns-then-left-around-2 c = rw (c.in-TellRec.is, ← c.as_slice.ensures) (λ e. (c.if-left-around-2.true, c.fields_are_within.ensures.0 e), λ h. c.fields_are_within.ensures.1 h.1)
