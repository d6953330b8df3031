use Rattle.std.proofs.Common.{◌≡◌, drop}
use Rattle.hooks.proofs.numbered.Numbered.append_to.Given as goal

abbrev pub invariant-loop : goal.invariant-loop
invariant-loop g l = record {
  desk : l.writer.desk ≡ l.initial.writer.desk;
  pending : drop l.writer.behind l.writer.log.items
      ≡ drop l.initial.writer.behind l.initial.writer.log.items;
  same : l.entry ≡ l.fn.self.entry;
}
