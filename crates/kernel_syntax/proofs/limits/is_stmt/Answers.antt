use Rattle.kernel_syntax.proofs.limits.is_stmt.Goals as goal

pub returns-in-TellRec : goal.returns-in-TellRec
returns-in-TellRec c = rw (c.in-TellRec.is, ← c.as_slice.ensures) c.are_fields.ensures
