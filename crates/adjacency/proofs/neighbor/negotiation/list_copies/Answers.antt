use Rattle.std.proofs.Common.{ap, sym, ◌∙◌}
use Rattle.std.specs.List.{fold}
use Rattle.lsdb.specs.Copies.{is_aged_out}
use Rattle.adjacency.specs.Exchanges.{is_young, with_key}
use Rattle.adjacency.proofs.Lists.{filled_where}
use Rattle.adjacency.proofs.neighbor.negotiation.list_copies.Goals as goal

pub returns-clause-young : goal.returns-clause-young
returns-clause-young c =
    let db = c.args.database.now.present in
    record {
      ok =
          ap (fold (with_key (is_young c.args.moment) c.args.moment db) c.loop-key.young.present)
          (sym c.in-None.ensures.steps.0)
          ∙ c.loop-key.invariant.young ∙ filled_where (is_young c.args.moment) c.args.moment db;
      committed = c.loop-key.invariant.young_committed;
    }

pub returns-clause-aged : goal.returns-clause-aged
returns-clause-aged c =
    let db = c.args.database.now.present in
    record {
      ok =
          ap (fold (with_key (is_aged_out c.args.moment) c.args.moment db) c.loop-key.aged.present)
          (sym c.in-None.ensures.steps.0)
          ∙ c.loop-key.invariant.aged ∙ filled_where (is_aged_out c.args.moment) c.args.moment db;
      committed = c.loop-key.invariant.aged_committed;
    }
