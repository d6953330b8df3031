use Rattle.std.proofs.Common.{ap, ◌∙◌, rules}
use Rattle.std.specs.FinMap as finite
use Rattle.lsdb.specs.Headers.{key_of}
use Rattle.adjacency.specs.Retransmissions.{remove_retransmission}
use Rattle.keyed_map.proofs.Helds.{on_ok}
use Rattle.adjacency.specs.Views.{neighbor_of}
use Rattle.adjacency.proofs.Neighbors.{releases}
use Rattle.adjacency.proofs.neighbor.Neighbor.remove_retransmission.Goals as goal

pub returns : goal.returns
returns c =
    let s = c.self.inside.standing in
    let des = c.self.inside.described.present in
    let sum = c.self.inside.summary.present in
    let req = c.self.inside.requests.present in
    let out = c.self.inside.outstanding.present in
    let retr = c.self.inside.retransmissions.present in
    record {
      ok = on_ok c.remove.result (λ is.
          ap (neighbor_of s des sum req out) (is ∙ ap (finite.remove retr) c.key.ensures)
          ∙ releases s des sum req out retr (key_of c.args.header.now)
          ∙ ap (λ h. remove_retransmission (key_of c.args.header.now) h.present) c.self.view_is)
          c.remove.ensures.ok;
      committed = search rules;
    }
