use Rattle.std.proofs.Common.{◌<◌, length, arith}
use Rattle.verifier.proofs.Dots.{dot_set}
use Rattle.verifier.proofs.bound.raise.Goals as goal

pub returns : goal.returns
returns c = record {
  more = λ x.
      let within : c.args.register < length c.args.coefficients.now =
      omega (arith, c.if-register-coefficients.false) in
      rw (c.in_ok-sum.ensures.1) (dot_set 10 c.args.coefficients.now x c.args.register c.args.by
      (omega (arith, c.requires)) within);
}
