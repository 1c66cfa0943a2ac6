use Rattle.wire_form.proofs.writing.put_message.Goals as goal

pub returns-in-Binding : goal.returns-in-Binding
returns-in-Binding c = rw c.in-Binding.is c.put_binding.ensures

pub returns-in-Put : goal.returns-in-Put
returns-in-Put c = rw c.in-Put.is c.put_token.ensures
