use Rattle.std.proofs.Common.{ℕ, length, refl, ap, arith}
use Rattle.adjacency.specs.Descriptions.{after_description}
use Rattle.lsdb.specs.Copies.{Database}
use Rattle.received.specs.Links.{Area}
use Rattle.event_rules.specs.EventState.{on_area}
use Rattle.event_rules.specs.Packets.{receive_description}
use Rattle.router.specs.Kept.{KeptRouter}
use Rattle.router.proofs.Answered.{area_does}
use Rattle.router.proofs.Conversed.{appends_description, keeps_description}
use Rattle.router.proofs.Making.{does_same}
use Rattle.router.proofs.OneLink.{steps}
use Rattle.router.proofs.state.Router.receive_description.Goals as goal

pub returns : goal.returns
returns c =
    let id = c.self.inside.id in
    let m = c.args.moment in
    let n = c.args.interface in
    let d = c.args.description.now in
    let a : Area = c.self.inside.area.present in
    does_same c.step_link.result
    (λ p is. ap (λ (own : ℕ). on_area (receive_description own m n d) p)
    (ap (λ (r : KeptRouter). r.present.id) c.self.view_is))
    (area_does (receive_description id m n d) (keeps_description id m n d)
    (appends_description id m n d) _
    c.args.self.now c.self.inside.area c.step_link.new.self c.step_link.result c.self.view_is refl
    c.step_link.ensures
    (steps m n a c.requires.first
    (omega (arith, ap (λ k. length k.present.area.links) c.self.view_is, c.requires.last))
    (λ (db : Database). after_description id m db d)))
