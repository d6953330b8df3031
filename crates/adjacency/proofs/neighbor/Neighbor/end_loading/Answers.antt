use Rattle.std.proofs.Common.{ap, ◌∙◌}
use Rattle.adjacency.specs.Adjacencies.{loading_done}
use Rattle.adjacency.specs.Timers.{full_where}
use Rattle.adjacency.specs.Views.{neighbor_of}
use Rattle.adjacency.proofs.Neighbors.{kept_is}
use Rattle.adjacency.proofs.Timers.{ends_loading}
use Rattle.adjacency.proofs.neighbor.Neighbor.end_loading.Goals as goal

pub returns : goal.returns
returns c =
    let s = c.self.inside.standing in
    let des = c.self.inside.described.present in
    let sum = c.self.inside.summary.present in
    let req = c.self.inside.requests.present in
    let out = c.self.inside.outstanding.present in
    let retr = c.self.inside.retransmissions.present in
    kept_is (ap (λ t. neighbor_of (record s {
      state = t;
    }) des sum req out retr) (c.full_where-self-inside.ensures
    ∙ ap (full_where s.state) c.is_empty-requests_nothing.ensures)
    ∙ ends_loading s des sum req out retr ∙ ap (λ h. loading_done h.present) c.self.view_is)
    (ap (λ h. h.committed) c.self.view_is)
