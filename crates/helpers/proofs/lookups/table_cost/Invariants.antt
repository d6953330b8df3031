use Rattle.std.proofs.Common.{◌≡◌, drop}
use Rattle.machine.specs.Helpers.{table_cost}
use Rattle.helpers.proofs.lookups.table_cost.Given as goal

-- no row before this one matches
abbrev pub invariant-loop-row : goal.invariant-loop-row
invariant-loop-row l = table_cost l.input.rows.now l.prefix l.length
    ≡ table_cost (drop l.row-index l.row-items) l.prefix l.length
