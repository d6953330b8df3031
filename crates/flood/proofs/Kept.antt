-- What is kept for routes is valid for the router if it is valid for its parts.
use Rattle.std.proofs.Common.{◌≡◌, ℕ, false, Option, None, Some, refl, subst, ◌∙◌}
use Rattle.area_routes.specs.Kept.{AreKept, AreRoutesOf, KeptRoutes, KeepsWalkUnlessChanged}
use Rattle.area_routes.specs.Offers.{root_by}
use Rattle.area_routes.specs.declared.matching.Matching.TheVariants.{Unknown}
use Rattle.area_routes.proofs.AfterExternals.{unanswered, unmatched}
use Rattle.event_rules.specs.declared.model.CoreError.{CoreError}
use Rattle.event_rules.specs.Refusals.{MayLackMemory}
use Rattle.event_rules.specs.Routers.{Router}
use Rattle.received.specs.Links.{Area}
use Rattle.routes.specs.Contents.{contents_at}
use Rattle.routes.specs.Tables.{RouteWords}
use Rattle.flood.specs.Offers.{AreKeptNow}

pub are_kept : (r : Router) (id : ℕ) (area : Area) (moment : ℕ) (answers : RouteWords)
    (kept : KeptRoutes) → id ≡ r.id → area ≡ r.area → moment ≡ r.moment → answers ≡ r.answers
    → AreKept id area moment answers kept → AreKeptNow r kept
are_kept r id area moment answers kept a b c d is =
    subst (λ x. AreKept x r.area r.moment r.answers kept) a
    (subst (λ x. AreKept id x r.moment r.answers kept) b
    (subst (λ x. AreKept id area x r.answers kept) c
    (subst (λ x. AreKept id area moment x kept) d is)))

-- a property of the walk for the parts is one for the router
pub walks_then : (before : ℕ) (r : Router) (committed : Area) (id moment : ℕ) (old new : Area)
    (kept next last : KeptRoutes) → id ≡ r.id → old ≡ committed → new ≡ r.area → moment ≡ r.moment
    → last.walk ≡ next.walk → last.behind ≡ next.behind
    → KeepsWalkUnlessChanged before moment id old new kept next
    → KeepsWalkUnlessChanged before r.moment r.id committed r.area kept last
walks_then before r committed id moment old new kept next last a b c d e f is =
    let then : KeepsWalkUnlessChanged before moment id old new kept last =
    record {
      walk = e ∙ is.walk;
      serves = λ on stayed. f ∙ is.serves on stayed;
      falls = λ not. f ∙ is.falls not;
      lags = λ on. f ∙ is.lags on;
    } in
    subst (λ x. KeepsWalkUnlessChanged before x r.id committed r.area kept last) d
    (subst (λ x. KeepsWalkUnlessChanged before moment x committed r.area kept last) a
    (subst (λ x. KeepsWalkUnlessChanged before moment id x r.area kept last) b
    (subst (λ x. KeepsWalkUnlessChanged before moment id old x kept last) c then)))

-- the first walk is kept
pub begun : (r : Router) (id : ℕ) (area : Area) (moment : ℕ) (kept : KeptRoutes) → id ≡ r.id
    → area ≡ r.area → moment ≡ r.moment → AreRoutesOf id area moment kept → kept.answered ≡ false
    → kept.matching ≡ Unknown → AreKeptNow r kept
begun r id area moment kept a b c routes is unknown =
    are_kept r id area moment r.answers kept a b c refl (record {
      routes = routes;
      answered = unanswered (contents_at moment area.database) (root_by id area.links)
          r.answers kept
          is;
      matching = unmatched r.answers kept unknown;
    })

-- if no reason of refusal applies, an allocation may be refused
pub memory_may_lack : (r : Option CoreError) → r ≡ None → MayLackMemory r
memory_may_lack None is = (λ p. absurd cc, λ p. absurd cc)
memory_may_lack (Some x) is = absurd cc
