use Rattle.std.proofs.Common.{map, ap, ◌∙◌}
use Rattle.keyed_map.proofs.Helds.{on_ok}
use Rattle.std.specs.FinMap as finite
use Rattle.adjacency.specs.Contents.{Updates}
use Rattle.adjacency.specs.Drafts.{drafting}
use Rattle.adjacency.specs.Retransmissions.{that_fit}
use Rattle.adjacency.specs.Steps.{lsas_of}
use Rattle.adjacency.proofs.Timers.{retransmissions_now, retransmits_at}
use Rattle.adjacency.proofs.neighbor.Neighbor.retransmit.Goals as goal

pub returns : goal.returns
returns c =
    record {
      ok = on_ok c.draft_that_fit.result (λ sent.
          retransmits_at c.self.inside.standing c.self.inside.described.present
          c.self.inside.summary.present c.self.inside.requests.present
          c.self.inside.outstanding.present c.self.inside.retransmissions.present c.args.moment
          ∙ ap (λ h. record h.present { retransmitted_at = c.args.moment }) c.self.view_is)
          c.draft_that_fit.ensures;
      draft = on_ok c.draft_that_fit.result (λ sent.
          sent ∙ ap (λ m. drafting c.args.delay
          (map Updates (that_fit 28 (lsas_of c.args.moment c.args.database.now.present
          (finite.keys m)))) c.args.draft.now)
          (retransmissions_now c.self.inside.standing c.self.inside.described.present
          c.self.inside.summary.present c.self.inside.requests.present
          c.self.inside.outstanding.present c.self.inside.retransmissions.present
          ∙ ap (λ h. h.present.retransmissions) c.self.view_is)) c.draft_that_fit.ensures;
      committed = ap (λ h. h.committed) c.self.view_is;
    }
