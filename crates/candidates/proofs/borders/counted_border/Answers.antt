use Rattle.std.proofs.Common.{◌≢◌, ℕ, ◌<◌, List, Option, Some, None, arith, rules}
use Rattle.lsa.specs.declared.body.SummaryLsa.{SummaryLsa}
use Rattle.candidates.specs.declared.flagged.Flagged.{Flagged}
use Rattle.routes.specs.declared.graph.Way.{Way}
use Rattle.routes.specs.declared.root.Root.{Root}
use Rattle.candidates.specs.Borders.{IsCounted, IsListed}
use Rattle.candidates.specs.Gathering.{IsOnly}
use Rattle.candidates.proofs.borders.counted_border.Goals as goal

counted : (root : Root) (routers : List Flagged) (originator : ℕ) (lsa : SummaryLsa)
    (found : Option Way) → lsa.metric < 16777215 → originator ≢ root.router
    → IsOnly (IsListed routers originator 1) found
    → IsOnly (IsCounted root routers originator lsa) found
counted root routers originator lsa None reachable another none = λ way k. none way k.reaches
counted root routers originator lsa (Some it) reachable another just =
    λ way. (
      (λ k. (just way).0 k.reaches),
      (λ e. record {
        reachable = reachable;
        of_another = another;
        reaches = (just way).1 e;
      }),
    )

pub returns-clause-only : goal.returns-clause-only
returns-clause-only c = counted _ _ _ _ _ (omega (arith, c.if-lsa-ge-LS_INFINITY.false))
    (search rules) c.flagged_way.ensures.only
