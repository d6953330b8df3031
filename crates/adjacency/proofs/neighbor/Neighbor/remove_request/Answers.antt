use Rattle.std.proofs.Common.{ap, ◌∙◌, rules}
use Rattle.std.specs.FinMap as finite
use Rattle.lsdb.specs.Headers.{key_of}
use Rattle.adjacency.specs.Requests.{without_request}
use Rattle.keyed_map.proofs.Helds.{on_ok}
use Rattle.adjacency.specs.Views.{neighbor_of}
use Rattle.adjacency.proofs.Neighbors.{request_removed}
use Rattle.adjacency.proofs.neighbor.Neighbor.remove_request.Goals as goal

pub returns : goal.returns
returns c =
    let s = c.self.inside.standing in
    let des = c.self.inside.described.present in
    let sum = c.self.inside.summary.present in
    let req = c.self.inside.requests.present in
    let out = c.self.inside.outstanding.present in
    let retr = c.self.inside.retransmissions.present in
    record {
      ok = on_ok c.remove-2.result (λ is.
          ap (λ r. neighbor_of s des sum r c.remove-2.new.self.present retr)
          (c.in_ok-remove.ensures.ok ∙ ap (finite.remove req) c.key.ensures)
          ∙ ap (λ o. neighbor_of s des sum (finite.remove req (key_of c.args.header.now)) o retr)
          (is ∙ ap (finite.remove out) c.key-2.ensures)
          ∙ request_removed s des sum req out retr (key_of c.args.header.now)
          ∙ ap (λ h. without_request (key_of c.args.header.now) h.present) c.self.view_is)
          c.remove-2.ensures.ok;
      committed = search rules;
    }
