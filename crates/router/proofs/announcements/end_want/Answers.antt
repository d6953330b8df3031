use Rattle.router.proofs.Making.{then_does}
use Rattle.router.proofs.announcements.end_want.Goals as goal

pub returns : goal.returns
returns c = then_does c.flush.result c.in_ok-unannounce.ensures.makes c.flush.ensures
