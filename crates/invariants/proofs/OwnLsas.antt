-- The wanted LSAs have the LS types of a router in one area.
use Rattle.std.proofs.Common.{◌≡◌, Bool, true, false, cond, Option, None, Some, refl, ap}
use Rattle.std.specs.FinMap as finite
use Rattle.words.specs.declared.key.Key.{Key}
use Rattle.words.specs.declared.route.External.{External}
use Rattle.lsa.specs.declared.body.LsaBody.{LsaBody}
use Rattle.lsdb.specs.Keys.{same_key}
use Rattle.event_rules.specs.Originations.{announced_body, router_body, router_key, wanted_body}
use Rattle.event_rules.specs.Routers.{Router}
use Rattle.invariants.specs.LimitLaws.{AnnouncesExternals}
use Rattle.invariants.specs.OwnLsas.{OnlyRouterAndExternalLsasAreWanted, is_router_or_external}
use Rattle.invariants.proofs.Limits.{others_stay_within_limits, tied_key, wanted_type}

-- for the key of the router-LSA, and for each announced one
wanted_kind : (r : Router) (key : Key) (says : LsaBody) → AnnouncesExternals r
    → wanted_body r key ≡ Some says → is_router_or_external key.ls_type ≡ true
wanted_kind r key says externals wants = by_key (same_key key (router_key r.id)) refl wants
  where
    of_announced : (o : Option External) → finite.get r.announced key ≡ o
        → announced_body o ≡ Some says → is_router_or_external key.ls_type ≡ true
    of_announced None there found = absurd cc
    of_announced (Some e) there found = ap is_router_or_external (externals key e there)

    by_key : (b : Bool) → same_key key (router_key r.id) ≡ b
        → cond b (Some (router_body r.area.links)) (announced_body (finite.get r.announced key))
        ≡ Some says → is_router_or_external key.ls_type ≡ true
    by_key true same is = ap (λ (q : Key). is_router_or_external q.ls_type)
        (tied_key key (router_key r.id) same)
    by_key false same is = of_announced (finite.get r.announced key) refl is

pub only_router_and_external_lsas : OnlyRouterAndExternalLsasAreWanted
only_router_and_external_lsas c steps new run key says wants =
    let externals : AnnouncesExternals new = others_stay_within_limits.run c steps new run in
    (wanted_kind new key says externals wants, wanted_type new key says externals wants)
