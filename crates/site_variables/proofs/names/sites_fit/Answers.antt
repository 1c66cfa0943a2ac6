use Rattle.std.proofs.Common.{subst, sym}
use Rattle.std.specs.Prelude.{◌↔◌, IsTrue}
use Rattle.site_message.specs.declared.message.Msg.{Msg}
use Rattle.site_model.specs.Fit.{SitesOfMsg, IsOtherSite}
use Rattle.site_variables.proofs.names.sites_fit.Goals as goal

pub returns-in-Register : goal.returns-in-Register
returns-in-Register c = λ s h. subst (λ (m : Msg). IsTrue c.is_other.result ↔ SitesOfMsg (IsOtherSite c.args.sites s) m) (sym c.in-Register.is) (c.is_other.ensures s h)

pub returns-in-Get : goal.returns-in-Get
returns-in-Get c = λ s h. subst (λ (m : Msg). IsTrue c.is_other-in-Get.result ↔ SitesOfMsg (IsOtherSite c.args.sites s) m) (sym c.in-Get.is) (c.is_other-in-Get.ensures s h)

pub returns-in-Forward : goal.returns-in-Forward
returns-in-Forward c = λ s h. subst (λ (m : Msg). IsTrue c.is_other-in-Forward.result ↔ SitesOfMsg (IsOtherSite c.args.sites s) m) (sym c.in-Forward.is) (c.is_other-in-Forward.ensures s h)

pub returns-in-PortSend : goal.returns-in-PortSend
returns-in-PortSend c = λ s h. subst (λ (m : Msg). IsTrue c.is_other-in-PortSend.result ↔ SitesOfMsg (IsOtherSite c.args.sites s) m) (sym c.in-PortSend.is) (c.is_other-in-PortSend.ensures s h)

pub returns-in-CellAsk : goal.returns-in-CellAsk
returns-in-CellAsk c = λ s h. subst (λ (m : Msg). IsTrue c.is_other-in-CellAsk.result ↔ SitesOfMsg (IsOtherSite c.args.sites s) m) (sym c.in-CellAsk.is) (c.is_other-in-CellAsk.ensures s h)
