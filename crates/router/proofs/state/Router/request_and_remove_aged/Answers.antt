use Rattle.std.proofs.Common.{refl, ◌∙◌}
use Rattle.lsdb.specs.Copies.{Database}
use Rattle.adjacency.specs.Requests.{request_next}
use Rattle.adjacency.specs.Views.{keys_of}
use Rattle.received.specs.Links.{Area, Link}
use Rattle.event_rules.specs.Endings.{remove_aged, request_all}
use Rattle.event_rules.specs.EventState.{on_area, on_router}
use Rattle.router.specs.Kept.{KeptRouter}
use Rattle.router.specs.Parts.{at_moment}
use Rattle.router.proofs.Answered.{area_does, area_stays, area_then}
use Rattle.router.proofs.Edited.{edit_makes}
use Rattle.router.proofs.Leaves.{appends_removal, appends_requests, keeps_removal}
use Rattle.router.proofs.Leaves.{keeps_requests}
use Rattle.router.proofs.Making.{done, makes_then, refused}
use Rattle.router.proofs.Stepped.{all_are}
use Rattle.router.proofs.state.Router.request_and_remove_aged.Goals as goal

pub returns-in_err-step_links : goal.returns-in_err-step_links
returns-in_err-step_links c =
    refused c.from_residual.result c.from_residual.ensures.0
    (area_stays _ c.args.self.now c.self.inside.area c.step_links.new.self c.self.view_is refl
    c.in_err-step_links.ensures.committed)

pub returns-in_err-remove_aged : goal.returns-in_err-remove_aged
returns-in_err-remove_aged c =
    refused c.from_residual-in_err-remove_aged.result c.from_residual-in_err-remove_aged.ensures.0
    (area_stays _ c.args.self.now c.self.inside.area c.remove_aged.new.area c.self.view_is refl
    (c.in_err-remove_aged.ensures.committed ∙ c.in_ok-step_links.ensures.committed))

pub returns : goal.returns
returns c =
    let m = c.args.moment in
    let inside = c.self.inside in
    let a : Area = inside.area.present in
    let left : KeptRouter = record {
      present = record {
        id = inside.id;
        area = c.remove_aged.new.area.present;
        announced = inside.announced.present;
        waiting = keys_of inside.waiting.present;
        originated = inside.originated.present;
        answers = inside.answers.present;
        moment = inside.moment.present;
      };
      committed = record {
        id = inside.id;
        area = c.remove_aged.new.area.committed;
        announced = inside.announced.committed;
        waiting = keys_of inside.waiting.committed;
        originated = inside.originated.committed;
        answers = inside.answers.committed;
        moment = inside.moment.committed;
      };
      drafted = c.remove_aged.new.area.drafted;
    } in
    let set = c.set.ensures in
    done _ (makes_then {f = λ p. on_area (remove_aged m) (on_area (request_all m) p)}
    {g = on_router (at_moment m)} {middle = left}
    (area_then (remove_aged m) (keeps_removal m) (appends_removal m) _ c.args.self.now
    c.step_links.new.self c.remove_aged.new.area _ c.self.view_is
    (area_does (request_all m) (keeps_requests m) (appends_requests m) _ c.args.self.now
    c.self.inside.area c.step_links.new.self _ c.self.view_is refl c.in_ok-step_links.ensures
    (all_are m (λ (d : Database) (l : Link). request_next m) a)).makes
    c.in_ok-remove_aged.ensures refl).makes
    (edit_makes (at_moment m) (λ x. refl) left left _ refl
    (λ i. record left.committed { moment = (set i).committed })
    (λ i. record left.present { moment = (set i).present }) refl))
