use Rattle.area_routes.proofs.Stay.{ends_more}
use Rattle.area_routes.proofs.graph_changes.note_router.Goals as goal

pub returns-clause-noted : goal.returns-clause-noted
returns-clause-noted c t =
    let nodes = c.args.at.now.nodes.now in
    let middle = c.note_ends.new.places.items in
    let new = c.note_ends-2.new.places.items in
    record {
      was = c.in-Some.was.now;
      is = c.in-Some-router_of.is'.now;
      before = c.in-Some.ensures;
      now = c.in-Some-router_of.ensures;
      own = λ at here. c.in_ok-note_ends-2.ensures.kept at
          (c.in_ok-note_ends.ensures.kept at (c.in_ok-note_node.ensures.noted at here));
      ends_before = ends_more nodes middle new c.in_ok-note_ends-2.ensures.kept c.in-Some.was.now
          (c.in_ok-note_ends.ensures.noted cc);
      ends = c.in_ok-note_ends-2.ensures.noted cc;
    }
