use Rattle.std.proofs.Common.{refl, pos, arith}
use Rattle.std.specs.FinMap as finite
use Rattle.route_laws.specs.WorkedCopies.{copy, key}
use Rattle.route_laws.proofs.Left.{before, came, none_some, not_said, nowhere, some_none, some_some}
use Rattle.route_laws.proofs.kept.worked_types.Goals as goal

pub returns : goal.returns
returns c = record {
  before = λ b h. none_some b (h (key 1) (omega arith));
  last = λ b h. none_some b (h (key 2) (omega arith));
  behind = λ b k low. not_said 3 b k (λ is. omega (arith, low, is));
  every = λ b h. none_some b (h (key 5) tt);
  other = λ b d differ h. differ (some_some b d (h (key 2) (omega arith)));
  leaves = λ b h. some_none b (h (key 2) (omega arith));
  same = λ b k low. refl;
  comes_before = λ b was is comes h.
      came (finite.get was (key 1)) (finite.get is (key 1)) (copy b (pos 4) 10 105)
      (comes.before (key 1)) comes.here
      (h (key 1) (omega arith));
  comes_last = λ b was is comes h.
      came (finite.get was (key 2)) (finite.get is (key 2)) (copy b (pos 4) 10 105)
      (comes.before (key 2)) comes.here
      (h (key 2) (omega arith));
  comes_behind = λ b was is comes k low.
      nowhere (finite.get was k) (finite.get is k) (comes.before k)
      (comes.elsewhere k (before 3 2 k low (omega arith)));
  comes_anywhere = λ b was is comes h.
      came (finite.get was (key 5)) (finite.get is (key 5)) (copy b (pos 4) 10 105)
      (comes.before (key 5)) comes.here
      (h (key 5) tt);
}
