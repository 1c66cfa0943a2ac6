use Rattle.site_variables.proofs.MeetLemmas.{met_one}
use Rattle.site_variables.proofs.meeting.meet_var.Goals as goal

pub returns : goal.returns
returns c = met_one _ _ _ _ c.args.var c.requires.linked c.requires.made c.in_ok-meet.ensures.records c.in_ok-know.ensures.known c.in_ok-know.ensures.equations c.in_ok-meet.ensures.sent
