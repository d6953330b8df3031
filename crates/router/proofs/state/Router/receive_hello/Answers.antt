use Rattle.std.proofs.Common.{ℕ, length, refl, ap, arith}
use Rattle.received.specs.Links.{Area}
use Rattle.event_rules.specs.EventState.{on_area}
use Rattle.event_rules.specs.Packets.{receive_hello}
use Rattle.router.specs.Kept.{KeptRouter}
use Rattle.router.proofs.Answered.{area_does}
use Rattle.router.proofs.Conversed.{appends_hello, keeps_hello}
use Rattle.router.proofs.ReceivedHellos.{hears}
use Rattle.router.proofs.Making.{does_same}
use Rattle.router.proofs.state.Router.receive_hello.Goals as goal

pub returns : goal.returns
returns c =
    let id = c.self.inside.id in
    let m = c.args.moment in
    let n = c.args.interface in
    let from = c.args.from in
    let h = c.args.hello.now in
    let a : Area = c.self.inside.area.present in
    does_same c.step_link.result
    (λ p is. ap (λ (own : ℕ). on_area (receive_hello own m n from h) p)
    (ap (λ (r : KeptRouter). r.present.id) c.self.view_is))
    (area_does (receive_hello id m n from h) (keeps_hello id m n from h)
    (appends_hello id m n from h) _ c.args.self.now c.self.inside.area c.step_link.new.self
    c.step_link.result c.self.view_is refl c.step_link.ensures
    (hears id m n from h a c.requires.first
    (omega (arith, ap (λ k. length k.present.area.links) c.self.view_is, c.requires.last))))
