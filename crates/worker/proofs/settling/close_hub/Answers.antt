use Rattle.worker.proofs.SeatsOf.{of_the_same}
use Rattle.worker.proofs.settling.close_hub.Goals as goal

pub returns-clause-seated : goal.returns-clause-seated
returns-clause-seated g c =
    of_the_same g.L.Site.words c.into_parts-book.result.1 c.in_ok-share.field-0.seats.items
    c.into_parts-book.ensures c.in_ok-share.ensures.seats.1
