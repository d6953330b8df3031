use Rattle.std.proofs.Common.{◌≡◌, ◌+◌, length, take}
use Rattle.keyed_map.specs.Places.{joined}
use Rattle.keyed_map.proofs.places.place_of.Given as goal

abbrev pub invariant-loop-index : goal.invariant-loop-index
invariant-loop-index g l = l.at ≡ length (joined (take l.index l.pages)) + l.left
