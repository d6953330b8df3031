-- The numbers of an interval.
use Rattle.std.specs.Prelude.{ℕ}
use Rattle.interval.specs.declared.value.Interval.{Interval}
use Rattle.interval.specs.Bounds.{IsIn}
use Rattle.interval.specs.Signs.{biased_number}

pub record IsMember (interval : Interval) (n : ℕ) : Type 0 where
  pub unsigned : IsIn interval.unsigned n
  pub signed : IsIn interval.signed (biased_number n)
