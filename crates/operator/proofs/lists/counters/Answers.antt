use Rattle.std.proofs.Common.{arith, rules, sym, ◌∙◌}
use Rattle.operator.proofs.Read.{if_refused, read_more, read_one_more, read_some}
use Rattle.operator.proofs.lists.counters.Goals as goal

pub loop-index-preserved : goal.loop-index-preserved
loop-index-preserved g c = record {
  count = search rules;
  read =
      read_more c.args.port.now.seat c.loop-index.port.seat c.counter.new.port.seat
      c.loop-index.sums.items c.push.new.self.items
      c.loop-index.index c.counter.result c.loop-index.invariant.read
      (sym c.loop-index.invariant.count ∙ c.loop-index.sums.ok.0)
      c.in_ok-push.ensures.items c.counter.ensures.read;
  share = search rules;
  known = search rules;
}

pub returns-in_err-push-clause-some : goal.returns-in_err-push-clause-some
returns-in_err-push-clause-some g c =
    if_refused _
    (read_one_more c.args.port.now.seat c.loop-index.port.seat c.counter.new.port.seat
    c.loop-index.sums.items c.loop-index.index c.counter.result c.loop-index.invariant.read
    (sym c.loop-index.invariant.count ∙ c.loop-index.sums.ok.0) c.loop-index-test.true
    c.counter.ensures.read)

pub returns-in_err-text-clause-some : goal.returns-in_err-text-clause-some
returns-in_err-text-clause-some g c =
    if_refused _
    (read_some c.args.port.now.seat c.loop-index.port.seat c.loop-index.sums.items
    c.loop-index.index c.loop-index.invariant.read
    (sym c.loop-index.invariant.count ∙ c.loop-index.sums.ok.0) (omega arith))
