use Rattle.std.specs.Prelude.{◌≡◌, vec_len}
use Rattle.hooks.specs.Known.{known_to}
use Rattle.operator.specs.Shown.{after_reads}
use Rattle.operator.proofs.lists.counters.Given as goal

abbrev pub invariant-loop-index : goal.invariant-loop-index
invariant-loop-index g l = record {
  count : vec_len l.sums ≡ l.index;
  read : l.port.seat ≡ after_reads l.initial.port.seat 0 l.sums.items;
  share : l.port.share ≡ l.initial.port.share;
  known : known_to l.port.asker ≡ known_to l.initial.port.asker;
}
