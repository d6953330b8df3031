-- Properties of a router's parts are those of the router, and conversely.
use Rattle.std.proofs.Common.{◌≡◌, ℕ, subst, sym}
use Rattle.event_rules.specs.Routers.{Router}
use Rattle.received.specs.Links.{Area}
use Rattle.routes.specs.Tables.{RouteWords}

module _ (P : ℕ → Area → ℕ → RouteWords → Type 0) (r : Router) (id : ℕ) (area : Area) (moment : ℕ)
    (answers : RouteWords) (a : id ≡ r.id) (b : area ≡ r.area) (c : moment ≡ r.moment)
    (d : answers ≡ r.answers) where
  pub of_router : P id area moment answers → P r.id r.area r.moment r.answers
  of_router p =
      subst (λ x. P x r.area r.moment r.answers) a
      (subst (λ x. P id x r.moment r.answers) b
      (subst (λ x. P id area x r.answers) c (subst (λ x. P id area moment x) d p)))

  pub of_parts : P r.id r.area r.moment r.answers → P id area moment answers
  of_parts p =
      subst (λ x. P x area moment answers) (sym a)
      (subst (λ x. P r.id x moment answers) (sym b)
      (subst (λ x. P r.id r.area x answers) (sym c)
      (subst (λ x. P r.id r.area r.moment x) (sym d) p)))
