use Rattle.std.proofs.Common.{refl, ap, ◌∙◌}
use Rattle.adjacency.specs.Views.{keys_of}
use Rattle.event_rules.specs.EventState.{on_area, on_router}
use Rattle.event_rules.specs.Originations.{as_originated, install_and_flood}
use Rattle.event_rules.specs.Routers.{Router}
use Rattle.router.specs.Kept.{KeptRouter}
use Rattle.adjacency.proofs.Neighbors.{keys_remove}
use Rattle.router.proofs.Answered.{area_does, area_stays}
use Rattle.router.proofs.Edited.{notes}
use Rattle.router.proofs.Leaves.{appends_install, keeps_install}
use Rattle.router.proofs.Making.{refused, then_does}
use Rattle.router.proofs.state.Router.originate.Goals as goal

pub returns-in_err-install_and_flood_own : goal.returns-in_err-install_and_flood_own
returns-in_err-install_and_flood_own c =
    refused c.from_residual.result c.from_residual.ensures.0
    (area_stays _ c.args.self.now c.self.inside.area c.install_and_flood_own.new.self c.self.view_is
    refl
    c.in_err-install_and_flood_own.ensures.committed)

pub returns-in_err-remove : goal.returns-in_err-remove
returns-in_err-remove c =
    let inside = c.self.inside in
    let flooded : Router = record {
      id = inside.id;
      area = c.install_and_flood_own.new.self.committed;
      announced = inside.announced.committed;
      waiting = keys_of inside.waiting.committed;
      originated = inside.originated.committed;
      answers = inside.answers.committed;
      moment = inside.moment.committed;
    } in
    refused c.from_residual-in_err-remove.result c.from_residual-in_err-remove.ensures.0
    ((λ i. record flooded { waiting = keys_of (c.in_err-remove.ensures.committed i) })
    ∙ area_stays _ c.args.self.now inside.area c.install_and_flood_own.new.self c.self.view_is refl
    c.in_ok-install_and_flood_own.ensures.committed)

pub returns : goal.returns
returns c =
    let m = c.args.moment in
    let k = c.args.key.now in
    let lsa = c.args.lsa in
    let inside = c.self.inside in
    let flooded : KeptRouter = record {
      present = record {
        id = inside.id;
        area = c.install_and_flood_own.new.self.present;
        announced = inside.announced.present;
        waiting = keys_of inside.waiting.present;
        originated = inside.originated.present;
        answers = inside.answers.present;
        moment = inside.moment.present;
      };
      committed = record {
        id = inside.id;
        area = c.install_and_flood_own.new.self.committed;
        announced = inside.announced.committed;
        waiting = keys_of inside.waiting.committed;
        originated = inside.originated.committed;
        answers = inside.answers.committed;
        moment = inside.moment.committed;
      };
      drafted = c.install_and_flood_own.new.self.drafted;
    } in
    then_does {f = on_area (install_and_flood m lsa)} {g = on_router (as_originated m k)}
    {middle = flooded} c.insert.result
    (area_does (install_and_flood m lsa) (keeps_install m lsa) (appends_install m lsa) _
    c.args.self.now c.self.inside.area c.install_and_flood_own.new.self _ c.self.view_is refl
    c.in_ok-install_and_flood_own.ensures refl).makes
    (notes flooded flooded c.insert.result refl (keys_of c.remove.new.self.present)
    (keys_of c.remove.new.self.committed) (ap keys_of c.in_ok-remove.ensures.committed) k m
    c.insert.new.self.present c.insert.new.self.committed c.insert.ensures.committed
    (ap keys_of c.in_ok-remove.ensures.ok ∙ keys_remove inside.waiting.present k)
    c.insert.ensures.ok)
