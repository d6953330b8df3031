use Rattle.std.proofs.Common.{length, refl, ap, arith}
use Rattle.adjacency.specs.Contents.{no_sends}
use Rattle.adjacency.specs.Neighbors.{Neighbor}
use Rattle.adjacency.specs.Retransmissions.{after_acknowledgment}
use Rattle.lsdb.specs.Copies.{Database}
use Rattle.received.specs.Links.{Area}
use Rattle.event_rules.specs.Packets.{receive_acknowledgment}
use Rattle.router.proofs.Answered.{area_does}
use Rattle.router.proofs.Conversed.{appends_acknowledgment, keeps_acknowledgment}
use Rattle.router.proofs.OneLink.{steps}
use Rattle.router.proofs.state.Router.receive_acknowledgment.Goals as goal

pub returns : goal.returns
returns c =
    let m = c.args.moment in
    let n = c.args.interface in
    let hs = c.args.headers.now in
    let a : Area = c.self.inside.area.present in
    area_does (receive_acknowledgment m n hs) (keeps_acknowledgment m n hs)
    (appends_acknowledgment m n hs)
    _ c.args.self.now c.self.inside.area c.step_link.new.self c.step_link.result c.self.view_is refl
    c.step_link.ensures
    (steps m n a c.requires.first
    (omega (arith, ap (λ k. length k.present.area.links) c.self.view_is, c.requires.last))
    (λ (db : Database) (nb : Neighbor). no_sends (after_acknowledgment m hs nb)))
