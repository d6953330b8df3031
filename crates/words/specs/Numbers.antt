-- Names for what a number counts, for use in definitions.
use Rattle.std.specs.Prelude.{ℕ}

-- a moment of the clock, in whole seconds
abbrev pub Moment : Type 0
Moment = ℕ

-- a duration or an age
abbrev pub Seconds : Type 0
Seconds = ℕ

-- a Router ID as a number of 32 bits
abbrev pub RouterNumber : Type 0
RouterNumber = ℕ

-- the number of an interface, from 1 up
abbrev pub InterfaceNumber : Type 0
InterfaceNumber = ℕ
