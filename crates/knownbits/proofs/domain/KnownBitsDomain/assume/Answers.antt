use Rattle.std.proofs.Common.{⊎_elim, arith, sym, subst}
use Rattle.knownbits.specs.Known.{KnowsBoth, KnowsOne}
use Rattle.knownbits.proofs.Widths.{width_most, shared_one}
use Rattle.knownbits.proofs.domain.KnownBitsDomain.assume.Goals as goal

pub returns-in_ok-joined_right-in-Equal-clause-gives :
    goal.returns-in_ok-joined_right-in-Equal-clause-gives
returns-in_ok-joined_right-in-Equal-clause-gives c = rw c.in-Equal.is ((
  (
    subst (λ s. KnowsBoth c.args.left s c.in_ok-joined_left-in-Equal.joined_left)
        c.shared.ensures.is c.in_ok-joined_left-in-Equal.ensures.precise,
    subst (λ s. KnowsBoth c.args.right s c.in_ok-joined_right-in-Equal.joined_right)
        c.shared-in-Equal.ensures.is c.in_ok-joined_right-in-Equal.ensures.precise,
  ),
  ⊎_elim
      (λ clash. absurd (cc (c.in_ok-joined_left-in-Equal.ensures.contradiction clash.0
      (omega (arith, clash.1, width_most c.args.width)) clash.2
      (subst (λ s. KnowsOne s clash.0) (sym c.shared.ensures.is)
      (shared_one c.args.width c.args.right clash.0 clash.1 clash.3)))))
      (λ clash. absurd (cc (c.in_ok-joined_right-in-Equal.ensures.contradiction clash.0
      (omega (arith, clash.1, width_most c.args.width)) clash.2
      (subst (λ s. KnowsOne s clash.0) (sym c.shared-in-Equal.ensures.is)
      (shared_one c.args.width c.args.left clash.0 clash.1 clash.3))))),
))
