use Rattle.std.proofs.Common.{ap, ◌∙◌}
use Rattle.keyed_map.proofs.Helds.{on_ok}
use Rattle.adjacency.specs.Descriptions.{max_age_copies, young_copies}
use Rattle.adjacency.proofs.neighbor.Neighbor.negotiate.Goals as goal

pub returns : goal.returns
returns c =
    record {
      ok = on_ok c.list_database.result (λ is.
          is ∙ ap (λ h. record h.present {
            summary =
                young_copies c.args.moment c.args.database.now.present;
            retransmissions =
                max_age_copies c.args.moment c.args.database.now.present;
          }) c.enter_exchange.ensures)
          c.list_database.ensures.ok;
      committed = c.list_database.ensures.committed
          ∙ ap (λ h. h.committed) c.enter_exchange.ensures;
    }
