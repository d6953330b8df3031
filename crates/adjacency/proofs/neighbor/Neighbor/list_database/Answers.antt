use Rattle.std.proofs.Common.{ap, ◌∙◌, rules}
use Rattle.adjacency.specs.Descriptions.{max_age_copies, young_copies}
use Rattle.adjacency.specs.Views.{neighbor_of}
use Rattle.adjacency.proofs.Exchanges.{both_ok, lists_database}
use Rattle.adjacency.proofs.neighbor.Neighbor.list_database.Goals as goal

pub returns : goal.returns
returns c =
    let young = young_copies c.args.moment c.args.database.now.present in
    let aged = max_age_copies c.args.moment c.args.database.now.present in
    record {
      ok = both_ok c.list_copies.result (λ is_young is_aged.
          (λ i. neighbor_of c.self.inside.standing c.self.inside.described.present (is_young i)
          c.self.inside.requests.present c.self.inside.outstanding.present (is_aged i))
          ∙ lists_database c.self.inside.standing c.self.inside.described.present
          c.self.inside.summary.present c.self.inside.requests.present
          c.self.inside.outstanding.present c.self.inside.retransmissions.present young aged
          ∙ ap (λ h. record h.present { summary = young; retransmissions = aged }) c.self.view_is)
          c.list_copies.ensures.young.ok c.list_copies.ensures.aged.ok;
      committed = search rules;
    }
