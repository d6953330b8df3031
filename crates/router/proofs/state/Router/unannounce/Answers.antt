use Rattle.std.proofs.Common.{sym, ap, subst, ◌∙◌}
use Rattle.keyed_map.proofs.Helds.{on_ok}
use Rattle.adjacency.specs.Views.{keys_of}
use Rattle.event_rules.specs.Routers.{Router}
use Rattle.router.specs.Kept.{KeptRouter}
use Rattle.router.specs.Owned.{AreOwn}
use Rattle.adjacency.proofs.Neighbors.{keys_remove}
use Rattle.router.proofs.Announced.{remove_own}
use Rattle.router.proofs.Edited.{withdraws}
use Rattle.router.proofs.Making.{refused}
use Rattle.router.proofs.state.Router.unannounce.Goals as goal

pub invariant_of-self-2 : goal.invariant_of-self-2
invariant_of-self-2 c =
    let id = c.self.inside.id in (
      c.self.invariant.0,
      c.self.invariant.1,
      subst (AreOwn id) (sym c.in_ok-remove.ensures.ok)
          (remove_own id c.self.inside.announced.present c.args.key.now c.self.invariant.2),
      subst (AreOwn id) (sym c.in_ok-remove.ensures.committed) c.self.invariant.3,
    )

pub returns-in_err-remove : goal.returns-in_err-remove
returns-in_err-remove c =
    let inside = c.self.inside in
    let shown : Router = record {
      id = inside.id;
      area = inside.area.committed;
      announced = inside.announced.committed;
      waiting = keys_of inside.waiting.committed;
      originated = inside.originated.committed;
      answers = inside.answers.committed;
      moment = inside.moment.committed;
    } in
    refused c.from_residual.result c.from_residual.ensures.0
    ((λ i. record shown { announced = c.in_err-remove.ensures.committed i })
    ∙ ap (λ (r : KeptRouter). r.committed) c.self.view_is)

pub returns : goal.returns
returns c =
    let k = c.args.key.now in
    withdraws _ c.args.self.now c.remove-2.result c.self.view_is c.remove.new.self.present
    c.remove.new.self.committed c.in_ok-remove.ensures.committed k
    (keys_of c.remove-2.new.self.present)
    (keys_of c.remove-2.new.self.committed) (ap keys_of c.remove-2.ensures.committed)
    c.in_ok-remove.ensures.ok
    (on_ok c.remove-2.result (λ is. ap keys_of is ∙ keys_remove c.self.inside.waiting.present k)
    c.remove-2.ensures.ok)
