use Rattle.world_messages.proofs.FewMessages.{registers_are_few, requests_are_few, messages_are_few}
use Rattle.world_messages.proofs.laws.messages_are_few.Goals as goal

pub returns : goal.returns
returns c = record { registers = registers_are_few; requests = requests_are_few; messages = messages_are_few }
