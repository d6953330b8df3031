use Rattle.std.proofs.Common.{List, sym, subst, arith}
use Rattle.std.specs.List.{Contains}
use Rattle.lsa.specs.declared.body.RouterLink.{RouterLink}
use Rattle.area_routes.specs.GraphChanges.{IsEndAmong}
use Rattle.area_routes.proofs.Fronts.{front_all, front_more}
use Rattle.area_routes.proofs.Stay.{end_more}
use Rattle.area_routes.proofs.graph_changes.note_ends.Goals as goal

pub loop-link-preserved : goal.loop-link-preserved
loop-link-preserved c =
    let nodes = c.args.at.now.nodes.now in
    let new = c.note_end.new.places.items in
    record {
      kept = λ place among. c.in_ok-note_end.ensures.kept place
          (c.loop-link.invariant.kept place among);
      noted = front_more (λ (l : RouterLink). IsEndAmong nodes new l)
          c.as_slice-link-items.result.now
          c.loop-link.link-index c.link-item.result c.loop-link-test.true c.link-item.is
          (λ l among. end_more nodes c.loop-link.places.items new
          c.in_ok-note_end.ensures.kept l (c.loop-link.invariant.noted l among))
          c.in_ok-note_end.ensures.noted;
    }

pub returns-clause-noted : goal.returns-clause-noted
returns-clause-noted c t link among =
    let N : RouterLink → Type 0 = λ l. IsEndAmong c.args.at.now.nodes.now c.loop-link.places.items l
    in
    front_all N c.as_slice-link-items.result.now c.loop-link.link-index
    (omega (arith, c.loop-link-test.false)) c.loop-link.invariant.noted link
    (subst (λ (ls : List RouterLink). Contains ls link) (sym c.as_slice-link-items.ensures) among)
