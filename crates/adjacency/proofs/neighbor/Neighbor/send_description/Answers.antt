use Rattle.std.proofs.Common.{[], ◌∷◌, Some, drop, take, ap, ◌∙◌, rules}
use Rattle.std.specs.FinMap as finite
use Rattle.std.specs.List.{fold}
use Rattle.keyed_map.proofs.Helds.{on_ok}
use Rattle.adjacency.specs.Contents.{Describes}
use Rattle.adjacency.specs.Descriptions.{left_to_describe, next_description}
use Rattle.adjacency.specs.Drafts.{drafting}
use Rattle.adjacency.specs.Neighbors.{Neighbor}
use Rattle.adjacency.specs.Views.{neighbor_of}
use Rattle.adjacency.proofs.Lists.{left_without}
use Rattle.adjacency.proofs.Exchanges.{keeps, shortens, summary_now}
use Rattle.adjacency.proofs.neighbor.Neighbor.send_description.Goals as goal

pub next_description-requires : goal.next_description-requires
next_description-requires c =
    c.deref.ensures.value ∙ c.in_ok-keys.ensures
    ∙ ap (λ m. take 408 (finite.keys m))
    (summary_now c.self.inside.standing c.self.inside.described.present
    c.self.inside.summary.present c.self.inside.requests.present
    c.self.inside.outstanding.present c.self.inside.retransmissions.present
    ∙ ap (λ h. h.present.summary) c.self.view_is)

pub returns : goal.returns
returns c =
    let s = c.self.inside.standing in
    let des = c.self.inside.described.present in
    let sum = c.self.inside.summary.present in
    let req = c.self.inside.requests.present in
    let out = c.self.inside.outstanding.present in
    let retr = c.self.inside.retransmissions.present in
    let moment = c.args.moment in
    let next = next_description moment c.args.self.now.present in
    let left = c.in_ok-remove_keys.ensures.ok
    ∙ ap (fold finite.remove sum) (c.deref-2.ensures.value ∙ c.in_ok-keys.ensures)
    ∙ left_without 408 sum in
    let kept = ap (λ k. k.present) c.set.ensures
    ∙ ap (λ d. Some d) (c.in_ok-kept.ensures ∙ c.in_ok-next.ensures) in
    record {
      ok = on_ok c.add_description.result (λ sent.
          (λ i. neighbor_of (record s { described_at = moment }) (kept i) (left i) req out retr)
          ∙ keeps s des (finite.from_entries (drop 408 (finite.entries sum))) req out retr moment
          next
          ∙ ap (λ (n : Neighbor). record n { described = Some next; described_at = moment })
          (shortens s des sum req out retr
          ∙ ap (λ h. record h.present { summary = left_to_describe h.present }) c.self.view_is))
          c.add_description.ensures;
      draft = on_ok c.add_description.result (λ sent delay. sent delay
          ∙ ap (λ d. drafting delay (Describes d ∷ []) c.args.draft.now) c.in_ok-next.ensures)
          c.add_description.ensures;
      committed = search rules;
    }
