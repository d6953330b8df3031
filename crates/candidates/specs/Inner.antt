-- The results from the LSAs of types 1 to 4 (RFC 2328, sections 16.1 and 16.2), on which external
-- destinations depend (section 16.4).
use Rattle.std.specs.Prelude.{◌↔◌}
use Rattle.std.specs.List.{Contains}
use Rattle.candidates.specs.declared.inner.InnerRoutes.{InnerRoutes}
use Rattle.candidates.specs.Bodies.{OfContents}
use Rattle.candidates.specs.Borders.{RouteCostsFit, FlaggedDistancesFit, AreFlagged, Ascend}
use Rattle.candidates.specs.Borders.{AscendByRouter}
use Rattle.candidates.specs.Borders.{HasLengths, Tells}
use Rattle.candidates.specs.Ways.{Ways}
use Rattle.routes.specs.Routes.{AreRoutesAmong}
use Rattle.routes.specs.Contents.{Contents}
use Rattle.routes.specs.Summaries.{OffersInside}
use Rattle.routes.specs.declared.offer.Offer.{Offer}
use Rattle.routes.specs.declared.root.Root.{Root}

-- each list is sorted, and no cost plus a metric exceeds 32 bits
pub record AreSearchable (inner : InnerRoutes) : Type 0 where
  pub flagged : AscendByRouter inner.flagged.items × FlaggedDistancesFit inner.flagged.items
  pub advertised : Ascend inner.boundary_routes.items × RouteCostsFit inner.boundary_routes.items
  pub networks : Ascend inner.networks.items × RouteCostsFit inner.networks.items
  pub lengths : HasLengths inner.networks.items inner.lengths

-- the results from what the LSAs say, given the ways by their links
pub record AreInner (contents : Contents) (root : Root) (ways : Ways) (inner : InnerRoutes) : Type
    0 where
  pub flagged : AreFlagged contents ways inner.flagged.items
  pub advertised : AreRoutesAmong (OfContents (Tells root inner.flagged.items) contents)
      inner.boundary_routes.items
  pub networks : AreRoutesAmong (OffersInside contents root) inner.networks.items
  pub offers : (o : Offer) → Contains inner.offers.items o ↔ OffersInside contents root o
