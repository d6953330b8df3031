use Rattle.std.proofs.Common.{refl, ◌∙◌}
use Rattle.lsdb.specs.Copies.{Database}
use Rattle.adjacency.specs.Retransmissions.{send_again}
use Rattle.received.specs.Links.{Area, Link}
use Rattle.event_rules.specs.Ticks.{send_acknowledgments, send_all_again, send_hellos}
use Rattle.router.proofs.Answered.{area_does, area_stays, area_then}
use Rattle.router.proofs.Leaves.{appends_acknowledgments, appends_again, appends_hellos}
use Rattle.router.proofs.Leaves.{keeps_acknowledgments, keeps_again, keeps_hellos}
use Rattle.router.proofs.Making.{refused}
use Rattle.router.proofs.Stepped.{all_are}
use Rattle.router.proofs.state.Router.send_what_is_due.Goals as goal

pub returns-in_err-step_links : goal.returns-in_err-step_links
returns-in_err-step_links c =
    refused c.from_residual.result c.from_residual.ensures.0
    (area_stays _ c.args.self.now c.self.inside.area c.step_links.new.self c.self.view_is refl
    c.in_err-step_links.ensures.committed)

pub returns-in_err-step_links-2 : goal.returns-in_err-step_links-2
returns-in_err-step_links-2 c =
    refused c.from_residual-in_err-step_links-2.result
    c.from_residual-in_err-step_links-2.ensures.0
    (area_stays _ c.args.self.now c.self.inside.area c.step_links-2.new.self c.self.view_is refl
    (c.in_err-step_links-2.ensures.committed ∙ c.in_ok-step_links.ensures.committed))

pub returns : goal.returns
returns c =
    let m = c.args.moment in
    let a : Area = c.self.inside.area.present in
    area_then (send_hellos m) (keeps_hellos m) (appends_hellos m) _ c.args.self.now
    c.step_links-2.new.self c.step_links-3.new.self c.step_links-3.result c.self.view_is
    (area_then (send_acknowledgments m) (keeps_acknowledgments m) (appends_acknowledgments m) _
    c.args.self.now c.step_links.new.self c.step_links-2.new.self _ c.self.view_is
    (area_does (send_all_again m) (keeps_again m) (appends_again m) _ c.args.self.now
    c.self.inside.area c.step_links.new.self _ c.self.view_is refl c.in_ok-step_links.ensures
    (all_are m (λ (d : Database) (l : Link). send_again m l.interface.retransmit_interval d)
    a)).makes
    c.in_ok-step_links-2.ensures refl).makes
    c.step_links-3.ensures refl
