use Rattle.std.proofs.Common.{◌≡◌, rules}
use Rattle.std.proofs.lemmas.Fn.{always_returns_same}
use Rattle.std.specs.Ordering.{nat_cmp}
use Rattle.candidates.specs.declared.flagged.Flagged.{Flagged}
use Rattle.candidates.proofs.Flags.{just_router, router_found, router_not_found, searchable_by}
use Rattle.candidates.proofs.flagged.find_router.Goals as goal

pub returns-in-Some : goal.returns-in-Some
returns-in-Some c = just_router c.args.routers.now c.args.router c.requires c.in-Some.listed
    c.in-Some.ensures

pub returns-in-Ok : goal.returns-in-Ok
returns-in-Ok c =
    let at = c.in-Ok.ensures.position (λ (y : Flagged). nat_cmp y.router c.args.router)
    (always_returns_same _ (λ a r. r ≡ nat_cmp a.0.now.router c.args.router) _
    (λ a r q k. search rules)) in
    router_found c.args.routers.now c.args.router c.requires c.in-Ok.at c.index-routers-at.result
    c.in-Ok.ensures.bound at c.index-routers-at.is

pub returns-in-Err : goal.returns-in-Err
returns-in-Err c =
    let at = c.in-Err.ensures.position (λ (y : Flagged). nat_cmp y.router c.args.router)
    (always_returns_same _ (λ a r. r ≡ nat_cmp a.0.now.router c.args.router) _
    (λ a r q k. search rules)) in
    router_not_found c.args.routers.now c.args.router c.in-Err.field-0
    (at (searchable_by c.args.routers.now c.args.router c.requires))
