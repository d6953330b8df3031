use Rattle.std.proofs.Common.{◌<◌, length, arith}
use Rattle.kinds.proofs.Overwriting.{filled_after, known_after, long_after, rest_after}
use Rattle.kinds.proofs.stack.overwrite.Goals as goal

pub loop-at-preserved : goal.loop-at-preserved
loop-at-preserved g c =
    let inv = c.loop-at.invariant in
    let first = c.args.entries.now.items in
    let now = c.loop-at.entries.items in
    let within : c.loop-at.at < length c.loop-at.entries.items =
    omega (arith, c.loop-at-test.true, c.len-at-end.ensures, inv.0) in (
      long_after g.D.Domain.contains first now c.args.start c.args.end c.loop-at.at c.args.inside
          c.index.result.now c.entry_after.result within inv.1 c.index.ensures inv.0,
      rest_after g.D.Domain.contains first now c.args.start c.args.end c.loop-at.at c.args.inside
          c.index.result.now c.entry_after.result within inv.1 c.index.ensures,
      known_after g.D.Domain.contains first now c.args.start c.args.end c.loop-at.at c.args.inside
          c.index.result.now c.entry_after.result within inv.1 c.index.ensures
          c.entry_after.ensures.holds inv.2,
      filled_after g.D.Domain.contains first now c.args.start c.args.end c.loop-at.at c.args.inside
          c.index.result.now c.entry_after.result within inv.1 c.index.ensures
          c.entry_after.ensures.filled inv.3,
    )
