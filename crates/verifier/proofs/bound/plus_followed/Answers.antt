use Rattle.kinds.specs.Meaning.{number_in}
use Rattle.verifier.proofs.Gaps.{line_followed}
use Rattle.verifier.proofs.bound.plus_followed.Goals as goal

pub returns : goal.returns
returns c = record {
  holds = λ start value number bound same.
      let steep = c.in_ok-steep.ensures in
      let moved = line_followed value c.args.line.down c.args.line.constant _ c.args.coefficient
      number (number_in start c.args.fact.origin) c.args.fact.up c.args.fact.down bound.bounded
      same in
      record {
        bounded = rw (
          c.in_ok-constant.ensures.1,
          c.in_ok-less.ensures.1,
          c.in_ok-up.ensures.1,
          c.in_ok-down.ensures.1,
          steep.constant,
          steep.down,
          steep.more (number_in start),
        ) moved;
      };
}
