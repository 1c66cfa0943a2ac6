use Rattle.kernel_syntax.proofs.texts.has_texts.Goals as goal

pub returns-in_ok-are_fields-in-TellRec : goal.returns-in_ok-are_fields-in-TellRec
returns-in_ok-are_fields-in-TellRec c =
    rw (c.in-TellRec.is, ← c.as_slice.ensures)
    (λ e. (c.in_ok-is_text-in-TellRec.ensures.0 c.if-branch.true, c.in_ok-are_fields-in-TellRec.ensures.0 e), λ h. c.in_ok-are_fields-in-TellRec.ensures.1 h.1)
