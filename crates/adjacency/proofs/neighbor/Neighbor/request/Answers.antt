use Rattle.std.proofs.Common.{[], ◌∷◌, cond, refl, sym, ap, ◌∙◌}
use Rattle.std.specs.FinSet as set
use Rattle.adjacency.specs.Contents.{Requests, Step, no_sends}
use Rattle.adjacency.specs.Requests.{next_request}
use Rattle.adjacency.proofs.Sets.{waits_for_nothing}
use Rattle.adjacency.proofs.Doing.{sends_after, sends_nothing}
use Rattle.adjacency.proofs.neighbor.Neighbor.request.Goals as goal

pub request_first-requires : goal.request_first-requires
request_first-requires c = waits_for_nothing c.args.self.now.present
    (sym c.is_to_request-may.ensures ∙ c.if-may.true)

pub returns-then-may : goal.returns-then-may
returns-then-may c =
    let n = c.args.self.now.present in
    let A : Step = record {
      neighbor = record n {
        outstanding = set.from_list (next_request n);
        requested_at = c.args.moment;
      };
      sends = Requests (next_request n) ∷ [];
    } in
    sends_after c.request_first.result refl (ap (λ b. cond b A (no_sends n))
    (sym c.if-may.true ∙ c.is_to_request-may.ensures)) c.request_first.ensures

pub returns : goal.returns
returns c =
    let n = c.args.self.now.present in
    let A : Step = record {
      neighbor = record n {
        outstanding = set.from_list (next_request n);
        requested_at = c.args.moment;
      };
      sends = Requests (next_request n) ∷ [];
    } in
    sends_nothing _ refl (ap (λ b. cond b A (no_sends n))
    (sym c.if-may.false ∙ c.is_to_request-may.ensures))
