use Rattle.std.proofs.Common.{◌∙◌}
use Rattle.wire_reader.proofs.TextLaws.{same_test}
use Rattle.wire_reader.proofs.names.is_text.Goals as goal

pub returns : goal.returns
returns c = c.is_ok.ensures.value ∙ same_test _ _ c.from_utf8.result c.args.bytes.now c.from_utf8.ensures.cases
