use Rattle.std.proofs.Common.{List, [], arith}
use Rattle.std.specs.List.{Contains}
use Rattle.words.specs.declared.route.Route.{Route}
use Rattle.routes.specs.Routes.{AreRoutesAmong}
use Rattle.routes.specs.declared.offer.Offer.{Offer}
use Rattle.routes.proofs.Listed.{routes_among}
use Rattle.candidates.specs.Borders.{Tells}
use Rattle.candidates.specs.Gathering.{Adds, OfEach}
use Rattle.candidates.proofs.Boundaries.{told_below}
use Rattle.candidates.proofs.Gathered.{adds_just, all_of_them, all_such, of_one, one_more, such}
use Rattle.candidates.proofs.passes.boundary_routes.Goals as goal

pub loop-one-preserved : goal.loop-one-preserved
loop-one-preserved c =
    let Q = Tells c.args.root.now c.args.routers.now in
    one_more Q [] c.loop-one.offers.items c.push_offer.new.offers.items c.args.bodies.now
    c.loop-one.one-index c.one-item.result c.one-item.is c.loop-one-test.true
    c.loop-one.invariant
    (of_one Q c.loop-one.offers.items c.push_offer.new.offers.items c.one-item.result
    c.key.result.now c.body.result.now c.key.ensures c.body.ensures
    (adds_just c.loop-one.offers.items c.push_offer.new.offers.items
    (Q (c.key.result.now, c.body.result.now)) c.boundary_offer.result c.boundary_offer.ensures
    c.in_ok-push_offer.ensures))

routes_of_these : (P : Offer → Type 0) (offers : List Offer) (routes : List Route)
    → Adds [] offers P → AreRoutesAmong (λ o. Contains offers o) routes → AreRoutesAmong P routes
routes_of_these P offers routes a all =
    routes_among (λ o. Contains offers o) P routes (such offers P a) (all_such offers P a) all

pub returns-clause-routes : goal.returns-clause-routes
returns-clause-routes c =
    let Q = Tells c.args.root.now c.args.routers.now in
    routes_of_these (OfEach Q c.args.bodies.now) c.loop-one.offers.items c.in_ok-routes.routes.items
    (all_of_them Q [] c.loop-one.offers.items c.args.bodies.now c.loop-one.one-index
    (omega (arith, c.loop-one-test.false)) c.loop-one.invariant) c.in_ok-routes.ensures.routes

pub returns-clause-few : goal.returns-clause-few
returns-clause-few c =
    let Q = Tells c.args.root.now c.args.routers.now in
    told_below c.args.root.now c.args.routers.now c.args.bodies.now c.in_ok-routes.routes.items
    c.requires.close
    (routes_of_these (OfEach Q c.args.bodies.now) c.loop-one.offers.items
    c.in_ok-routes.routes.items
    (all_of_them Q [] c.loop-one.offers.items c.args.bodies.now c.loop-one.one-index
    (omega (arith, c.loop-one-test.false)) c.loop-one.invariant) c.in_ok-routes.ensures.routes)
