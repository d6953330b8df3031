-- The way to an external destination, from what was found about its originator and its forwarding
-- address.
use Rattle.std.proofs.Common.{◌≡◌, ◌≢◌, ℕ, List, Some, None, refl, sym, ◌∙◌, ap}
use Rattle.words.specs.declared.route.Route.{Route}
use Rattle.routes.specs.declared.graph.Way.{Way}
use Rattle.candidates.specs.Borders.{IsBoundary, IsLongest, IsOutwardBy, inner_way}
use Rattle.candidates.specs.Gathering.{IsOnly}
use Rattle.candidates.specs.declared.flagged.Flagged.{Flagged}

module _ (routers : List Flagged) (advertised inner : List Route) (originator forwarding : ℕ) where
  pub no_originator : IsOnly (IsBoundary routers advertised originator) None
      → IsOnly (IsOutwardBy routers advertised inner originator forwarding) None
  no_originator none = λ w k. none k.boundary k.reaches

  pub by_originator : (boundary : Way)
      → IsOnly (IsBoundary routers advertised originator) (Some boundary) → forwarding ≡ 0
      → IsOnly (IsOutwardBy routers advertised inner originator forwarding) (Some boundary)
  by_originator boundary just zero = λ w. (
    λ k. k.direct zero ∙ (just k.boundary).0 k.reaches,
    λ e. record {
      boundary = boundary;
      reaches = (just boundary).1 refl;
      direct = λ _. e;
      forwarded = λ other. absurd (other zero);
    },
  )

  pub no_forwarding : forwarding ≢ 0 → IsOnly (IsLongest inner forwarding) None
      → IsOnly (IsOutwardBy routers advertised inner originator forwarding) None
  no_forwarding other none = λ w k. let f = k.forwarded other in none f.0 f.1

  pub by_forwarding : (boundary made : Way) (route : Route)
      → IsOnly (IsBoundary routers advertised originator) (Some boundary) → forwarding ≢ 0
      → IsOnly (IsLongest inner forwarding) (Some route) → made ≡ inner_way route
      → IsOnly (IsOutwardBy routers advertised inner originator forwarding) (Some made)
  by_forwarding boundary made route just other longest is = λ w. (
    λ k. let f = k.forwarded other in f.2 ∙ ap inner_way ((longest f.0).0 f.1) ∙ sym is,
    λ e. record {
      boundary = boundary;
      reaches = (just boundary).1 refl;
      direct = λ zero. absurd (other zero);
      forwarded = λ _. (route, (longest route).1 refl, e ∙ is);
    },
  )
