use Rattle.std.proofs.Common.{◌≡◌}
use Rattle.std.specs.FinMap as finite
use Rattle.std.specs.List.{fold}
use Rattle.lsdb.specs.Copies.{is_aged_out}
use Rattle.adjacency.specs.Exchanges.{is_young, with_key}
use Rattle.adjacency.proofs.neighbor.negotiation.list_copies.Given as goal

-- the result of continuing to the end
abbrev pub invariant-loop-key : goal.invariant-loop-key
invariant-loop-key l = record {
  young : fold (with_key (is_young l.moment) l.moment l.database.present) l.young.present
      l.key-iterator ≡ fold (with_key (is_young l.moment) l.moment l.database.present) finite.empty
      (finite.keys l.database.present);
  aged : fold (with_key (is_aged_out l.moment) l.moment l.database.present) l.aged.present
      l.key-iterator ≡ fold (with_key (is_aged_out l.moment) l.moment l.database.present)
      finite.empty (finite.keys l.database.present);
  young_committed : l.young.committed ≡ l.fn.young.committed;
  aged_committed : l.aged.committed ≡ l.fn.aged.committed;
}
