use Rattle.site_message.proofs.TravelLemmas.{messages_add_up, few_are_delivered}
use Rattle.site_message.proofs.laws.deliveries_add_up.Goals as goal

pub returns : goal.returns
returns c = record { all = messages_add_up; site = few_are_delivered }
