-- A number of which a range and some bits are stated, and a register times a number.
use Rattle.std.specs.Prelude.{◌≡◌, ℕ, ◌≤◌, ◌<◌, ◌^◌, bit_and}

-- From `low` to `high`, and the bits under `mask` are those of `value`.
pub record Numbers : Type 0 where
  pub low : ℕ
  pub high : ℕ
  pub mask : ℕ
  pub value : ℕ

-- The range is ordered, and `value` has no bit outside `mask`.
pub record IsNumbers (n : Numbers) : Type 0 where
  pub high : n.high < 2 ^ 64
  pub mask : n.mask < 2 ^ 64
  pub value : n.value < 2 ^ 64
  pub ordered : n.low ≤ n.high
  pub masked : bit_and n.value n.mask ≡ n.value

-- The number is one of those.
pub record IsOneOf (n : Numbers) (number : ℕ) : Type 0 where
  pub least : n.low ≤ number
  pub most : number ≤ n.high
  pub known : bit_and number n.mask ≡ n.value

-- A register's number times a coefficient.
pub record Term : Type 0 where
  pub register : ℕ
  pub coefficient : ℕ

pub record IsTerm (t : Term) : Type 0 where
  pub register : t.register ≤ 9
  pub some : 1 ≤ t.coefficient
  pub coefficient : t.coefficient < 2 ^ 32
