use Rattle.std.proofs.Common.{ap, ◌∙◌}
use Rattle.keyed_map.proofs.Helds.{on_ok}
use Rattle.adjacency.specs.Drafts.{drafting}
use Rattle.adjacency.specs.Retransmissions.{describe_again, request_again, update_again}
use Rattle.adjacency.proofs.Timers.{drafting-three}
use Rattle.adjacency.proofs.neighbor.Neighbor.send_again.Goals as goal

pub returns : goal.returns
returns c =
    let moment = c.args.moment in
    let interval = c.args.interval in
    let db = c.args.database.now.present in
    let delay = c.args.delay in
    let d = c.args.draft.now in
    let s = describe_again moment interval c.args.self.now.present in
    let first = c.in_ok-describe_again.ensures in
    let second = c.in_ok-request_again.ensures in
    let asked = second.ok ∙ ap (λ n. (request_again moment interval n).neighbor) first.ok in
    record {
      ok = on_ok c.update_again.result (λ made. made
          ∙ ap (λ n. (update_again moment interval db n).neighbor) asked) c.update_again.ensures.ok;
      draft = on_ok c.update_again.result (λ sent.
          sent
          ∙ ap (λ n. drafting delay (update_again moment interval db n).sends
          c.request_again.new.draft) asked
          ∙ ap (drafting delay (update_again moment interval db
          (request_again moment interval s.neighbor).neighbor).sends)
          (second.draft delay ∙ ap (λ n. drafting delay (request_again moment interval n).sends
          c.describe_again.new.draft) first.ok
          ∙ ap (drafting delay (request_again moment interval s.neighbor).sends)
          (first.draft delay))
          ∙ drafting-three delay s (request_again moment interval)
          (update_again moment interval db) d) c.update_again.ensures.draft;
      committed = c.update_again.ensures.committed ∙ c.request_again.ensures.committed
          ∙ c.describe_again.ensures.committed;
    }
