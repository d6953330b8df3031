use Rattle.std.proofs.Common.{[], ◌∷◌, ap, ◌∙◌}
use Rattle.keyed_map.proofs.Helds.{on_ok}
use Rattle.adjacency.specs.Contents.{Requests}
use Rattle.adjacency.specs.Drafts.{drafting}
use Rattle.adjacency.proofs.Timers.{requests_at}
use Rattle.adjacency.proofs.neighbor.Neighbor.request_outstanding.Goals as goal

pub returns : goal.returns
returns c =
    record {
      ok = on_ok c.add_request.result (λ sent.
          requests_at c.self.inside.standing c.self.inside.described.present
          c.self.inside.summary.present c.self.inside.requests.present
          c.self.inside.outstanding.present
          c.self.inside.retransmissions.present c.args.moment
          ∙ ap (λ h. record h.present { requested_at = c.args.moment }) c.self.view_is)
          c.add_request.ensures;
      draft = on_ok c.add_request.result (λ sent delay. sent delay
          ∙ ap (λ ks. drafting delay (Requests ks ∷ []) c.args.draft.now)
          (c.from_vec.ensures ∙ c.in_ok-keys.ensures)) c.add_request.ensures;
      committed = ap (λ h. h.committed) c.self.view_is;
    }
