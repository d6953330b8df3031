use Rattle.std.proofs.Common.{◌+◌, List, length, subst, sym}
use Rattle.hooktool_trials.specs.Captures.{AreRecords}
use Rattle.hooktool_trials.specs.declared.captures.file.Record.{Record}
use Rattle.hooktool_trials.proofs.Behind.{ends_inside, one_more}
use Rattle.hooktool_trials.proofs.captures.file.records_of.Goals as goal

pub loop-at-preserved : goal.loop-at-preserved
loop-at-preserved c =
    let order = c.args.order in
    let bytes = c.args.bytes.now in
    let at = c.loop-at.at in
    let it = c.in-Some.record in
    let more = one_more order bytes 24 at c.loop-at.records.items it c.loop-at.invariant.1
    c.in-Some.ensures in (
      ends_inside order bytes at it c.in-Some.ensures,
      subst (λ (xs : List Record). AreRecords order bytes 24 xs (at + 16 + length it.frame.now))
          (sym c.in_ok-push.ensures.items) more,
    )
