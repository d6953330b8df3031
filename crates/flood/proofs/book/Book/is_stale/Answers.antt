use Rattle.std.proofs.Common.{subst}
use Rattle.std.specs.Prelude.{◌↔◌, IfOk, IsTrue}
use Rattle.flood.specs.Offers.{IsStaleNow}
use Rattle.flood.specs.Replay.{BookView}
use Rattle.flood.proofs.book.Book.is_stale.Goals as goal

pub returns-clause-stale : goal.returns-clause-stale
returns-clause-stale g c =
    subst (λ (v : BookView). IfOk c.stale.result (λ b. IsTrue b ↔ IsStaleNow v.current))
    c.self.view_is c.stale.ensures.stale
