use Rattle.std.proofs.Common.{◌≤◌, length, refl, ap, ◌∙◌, arith}
use Rattle.adjacency.specs.Steps.{after_request}
use Rattle.lsdb.specs.Copies.{Database}
use Rattle.received.specs.Links.{Area, neighbor_at}
use Rattle.event_rules.specs.Packets.{neighbor_is_exchange_or_later, receive_request}
use Rattle.router.proofs.Answered.{area_does}
use Rattle.router.proofs.Conversed.{appends_request, keeps_request}
use Rattle.router.proofs.OneLink.{steps}
use Rattle.router.proofs.Replies.{answers}
use Rattle.router.proofs.state.Router.receive_request.Goals as goal

pub returns : goal.returns
returns c =
    let m = c.args.moment in
    let n = c.args.interface in
    let ks = c.args.keys.now in
    let a : Area = c.self.inside.area.present in
    let last : n ≤ length a.links = omega
    (arith, ap (λ k. length k.present.area.links) c.self.view_is, c.requires.last) in
    let exchange = ap (λ k. neighbor_is_exchange_or_later (neighbor_at n k.present.area.links))
    c.self.view_is
    ∙ c.requires.exchange in
    area_does (receive_request m n ks) (keeps_request m n ks) (appends_request m n ks) _
    c.args.self.now c.self.inside.area c.step_link.new.self c.step_link.result c.self.view_is refl
    c.step_link.ensures
    (steps m n a c.requires.first last (λ (db : Database). after_request m db ks)
    ∙ answers m n a ks c.requires.first last exchange)
