use Rattle.std.proofs.Common.{ℕ, subst}
use Rattle.candidates.proofs.Steps.{on_ok}
use Rattle.area_routes.specs.GraphChanges.{AreNetworksAmong, IsAmong, IsEndAmong}
use Rattle.area_routes.proofs.Neighbors.{is_no_point, is_no_transit}
use Rattle.routes.specs.declared.node.Node.TheVariants.{ARouter}
use Rattle.area_routes.proofs.graph_changes.note_end.Goals as goal

pub returns-in-PointToPoint-clause-noted : goal.returns-in-PointToPoint-clause-noted
returns-in-PointToPoint-clause-noted c =
    let nodes = c.args.at.now.nodes.now in
    let new = c.note_node.new.places.items in
    let link = c.args.link.now in
    let R : ℕ → Type 0 = λ router. IsAmong nodes new (ARouter router) in
    on_ok c.note_node.result (R c.new.result) (IsEndAmong nodes new link)
    (λ noted. record {
      router = λ is. subst R c.new.ensures noted;
      networks = λ is. absurd (is_no_transit link c.in-PointToPoint.is is);
    }) c.note_node.ensures.noted

pub returns-in-Transit-clause-noted : goal.returns-in-Transit-clause-noted
returns-in-Transit-clause-noted c =
    let nodes = c.args.at.now.nodes.now in
    let new = c.note_networks.new.places.items in
    let link = c.args.link.now in
    let N : ℕ → Type 0 = λ id. AreNetworksAmong nodes new id in
    on_ok c.note_networks.result (N c.new-in-Transit.result) (IsEndAmong nodes new link)
    (λ noted. record {
      router = λ is. absurd (is_no_point link c.in-Transit.is is);
      networks = λ is. subst N c.new-in-Transit.ensures noted;
    }) c.note_networks.ensures.noted

pub returns-in-Stub-clause-noted : goal.returns-in-Stub-clause-noted
returns-in-Stub-clause-noted c = record {
  router = λ is. absurd cc;
  networks = λ is. absurd cc;
}

pub returns-in-Virtual-clause-noted : goal.returns-in-Virtual-clause-noted
returns-in-Virtual-clause-noted c = record {
  router = λ is. absurd cc;
  networks = λ is. absurd cc;
}
