use Rattle.std.proofs.Common.{false, nat_lt, take, ap, sym, ◌∙◌}
use Rattle.std.specs.FinMap as finite
use Rattle.std.specs.List.{filter_map}
use Rattle.words.specs.declared.key.Key.{Key}
use Rattle.adjacency.specs.Descriptions.{next_description}
use Rattle.adjacency.specs.Exchanges.{entry_header}
use Rattle.adjacency.proofs.Exchanges.{described_next, summary_now}
use Rattle.adjacency.proofs.Lists.{headers_first}
use Rattle.adjacency.proofs.neighbor.Neighbor.next_description.Goals as goal

pub returns : goal.returns
returns c =
    let sum = c.self.inside.summary.present in
    let keys = c.requires ∙ ap (λ m. take 408 (finite.keys m))
    (sym (summary_now c.self.inside.standing c.self.inside.described.present
    c.self.inside.summary.present c.self.inside.requests.present
    c.self.inside.outstanding.present c.self.inside.retransmissions.present
    ∙ ap (λ h. h.present.summary) c.self.view_is)) in
    let headers = c.from_vec-headers.ensures ∙ c.in_ok-headers.ensures
    ∙ ap (filter_map (λ (key : Key). entry_header c.args.moment (finite.get sum key))) keys
    ∙ headers_first c.args.moment sum 408 in
    (λ i. record {
      mtu = 8192;
      options = 2;
      init = false;
      more = nat_lt 408 (c.len-count.ensures i);
      master = c.self.inside.standing.is_master;
      sequence = c.self.inside.standing.sequence;
      headers = c.from_vec-headers.result;
    })
    ∙ described_next c.self.inside.standing c.self.inside.described.present sum
    c.self.inside.requests.present c.self.inside.outstanding.present
    c.self.inside.retransmissions.present c.args.moment c.from_vec-headers.result headers
    ∙ ap (λ h. next_description c.args.moment h.present) c.self.view_is
