-- The numbers that a seed gives.
use Rattle.std.specs.Prelude.{ℕ}
use Rattle.rand_pcg.specs.Lcg.{Lcg, increment_of, started}
use Rattle.rand_pcg.specs.Pcg.{multiplier_64, pcg32}

-- the generator of a seed, on the stream of PCG's own example
abbrev pub numbers_of : ℕ → Lcg
numbers_of seed = started 64 multiplier_64 seed (increment_of 64 54)

-- the next word, below 2^32
abbrev pub word_of : Lcg → ℕ
word_of numbers = (pcg32 numbers).0

-- what is left behind it
abbrev pub behind : Lcg → Lcg
behind numbers = (pcg32 numbers).1
