use Rattle.std.proofs.Common.{◌∙◌, ap}
use Rattle.site_message.specs.Journal.{end_by}
use Rattle.message_book.proofs.Quiet.{quiet_is}
use Rattle.message_book.proofs.book.find_reason.Goals as goal

pub returns : goal.returns
returns c n j places inboxes =
    c.end_after.ensures ∙ ap (end_by c.args.over_limit c.args.at_limit c.args.site) (quiet_is n j c.args.inboxes.now places inboxes c.are_quiet.result c.are_quiet.ensures)
