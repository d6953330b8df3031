-- Spans of numbers below 2^64, and their two bounds.
use Rattle.std.specs.Prelude.{◌≡◌, ℕ, ◌-◌, ◌/◌, ◌%◌, ◌<◌, ◌≤◌, ◌^◌, ◌==◌, if◌then◌else◌}
use Rattle.isa.specs.declared.instruction.Width.{Width}
use Rattle.isa.specs.Arithmetic.{bits}
use Rattle.interval.specs.declared.span.Span.{Span}

-- a number of the span
pub record IsIn (span : Span) (n : ℕ) : Type 0 where
  pub low : span.low ≤ n
  pub high : n ≤ span.high
  pub small : n < 2 ^ 64

pub record Bounds : Type 0 where
  pub low : ℕ
  pub high : ℕ

abbrev pub bounds_of : Span → Bounds
bounds_of span = record { low = span.low; high = span.high }

-- bounds that lie within others
pub record IsInside (inner outer : Bounds) : Type 0 where
  pub low : outer.low ≤ inner.low
  pub high : inner.high ≤ outer.high

abbrev pub every_of : Width → Bounds
every_of w = record { low = 0; high = 2 ^ bits w - 1 }

-- The numbers cut to the width: if all have the same bits above it, the low bits of the bounds,
-- else every number of the width. So numbers below the width's power of two are unchanged, and a
-- single number gives its low bits.
abbrev pub cut_bounds : Width → Bounds → Bounds
cut_bounds w b =
    if b.low / 2 ^ bits w == b.high / 2 ^ bits w
    then record { low = b.low % 2 ^ bits w; high = b.high % 2 ^ bits w } else every_of w

pub record IsBetween (b : Bounds) (n : ℕ) : Type 0 where
  pub above : b.low ≤ n
  pub below : n ≤ b.high

abbrev pub IsSingle : Bounds → Type 0
IsSingle b = b.low ≡ b.high
