use Rattle.std.proofs.Common.{◌≡◌, length, map, refl, ap, ◌∙◌, arith}
use Rattle.std.proofs.lemmas.List.{length-map}
use Rattle.area.specs.Links.{present}
use Rattle.received.specs.Links.{change_link}
use Rattle.received.specs.AreaStates.{on_links}
use Rattle.area.proofs.OneLink.{changed_after, changed_before}
use Rattle.event_rules.specs.Commands.{after_link_down, taken_down}
use Rattle.event_rules.specs.Routers.{Router}
use Rattle.router.proofs.Answered.{makes_alone}
use Rattle.router.proofs.Leaves.{appends_down, keeps_down, stays_up}
use Rattle.router.proofs.Making.{makes_nothing, makes_same}
use Rattle.router.proofs.state.Router.take_down.Goals as goal

pub returns-then-interface-eq0 : goal.returns-then-interface-eq0
returns-then-interface-eq0 c =
    let n = c.args.interface in
    makes_same {f = λ p. p} {g = after_link_down n} (λ p is. stays_up n p
    (changed_before present taken_down 1 n p.router.area.links
    (omega (arith, c.if-interface-eq0.true)))) (makes_nothing c.args.self.now)

pub returns-then-links-interface : goal.returns-then-links-interface
returns-then-links-interface c =
    let n = c.args.interface in
    let shown : length (map present c.links-links.result.now)
    ≡ length c.args.self.now.present.area.links =
    ap length c.links-links.ensures.present
    ∙ ap (λ v. length v.present.area.links) c.self.view_is in
    makes_same {f = λ p. p} {g = after_link_down n} (λ p is. stays_up n p
    (changed_after present taken_down 1 n p.router.area.links
    (omega (
      arith,
      c.if-links-interface.true,
      length-map c.links-links.result.now present,
      shown,
      ap (λ (r : Router). length r.area.links) is,
    )))) (makes_nothing c.args.self.now)

pub take_down-requires-clause-last : goal.take_down-requires-clause-last
take_down-requires-clause-last c =
    omega (
      arith,
      c.if-links-interface.false,
      length-map c.links-links.result.now present,
      ap length c.links-links.ensures.present,
    )

pub returns : goal.returns
returns c =
    let n = c.args.interface in
    makes_alone (on_links (change_link n taken_down)) (keeps_down n) (appends_down n) _
    c.args.self.now c.self.inside.area c.take_down.new.self c.self.view_is refl
    c.take_down.ensures refl
