use Rattle.std.proofs.Common.{ℕ, List, sym, subst, arith}
use Rattle.std.specs.List.{Contains}
use Rattle.area_routes.specs.GraphChanges.{IsAmong}
use Rattle.area_routes.proofs.Fronts.{front_all, front_more}
use Rattle.routes.specs.declared.node.Node.TheVariants.{ARouter}
use Rattle.area_routes.proofs.graph_changes.note_listed.Goals as goal

pub loop-router-preserved : goal.loop-router-preserved
loop-router-preserved c =
    let nodes = c.args.at.now.nodes.now in
    let new = c.note_node.new.places.items in
    record {
      kept = λ place among. c.in_ok-note_node.ensures.kept place
          (c.loop-router.invariant.kept place among);
      noted = front_more (λ (r : ℕ). IsAmong nodes new (ARouter r))
          c.as_slice-router-items.result.now c.loop-router.router-index c.router-item.result
          c.loop-router-test.true c.router-item.is
          (λ r among at here. c.in_ok-note_node.ensures.kept at
          (c.loop-router.invariant.noted r among at here))
          c.in_ok-note_node.ensures.noted;
    }

pub returns-clause-noted : goal.returns-clause-noted
returns-clause-noted c router among =
    let N : ℕ → Type 0 = λ r. IsAmong c.args.at.now.nodes.now c.loop-router.places.items (ARouter r)
    in
    front_all N c.as_slice-router-items.result.now c.loop-router.router-index
    (omega (arith, c.loop-router-test.false)) c.loop-router.invariant.noted router
    (subst (λ (ls : List ℕ). Contains ls router) (sym c.as_slice-router-items.ensures) among)
