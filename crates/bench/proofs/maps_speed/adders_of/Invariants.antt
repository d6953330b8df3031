use Rattle.std.proofs.Common.{vec_len}
use Rattle.std.specs.List.{All}
use Rattle.maps.specs.Words.{IsSeatOf}
use Rattle.bench.proofs.maps_speed.adders_of.Given as goal

-- the remaining seats are of the table
abbrev pub invariant-loop-seat : goal.invariant-loop-seat
invariant-loop-seat l = All (λ s. IsSeatOf l.shared s) l.seats.items

abbrev pub decreases-loop-seat : goal.decreases-loop-seat
decreases-loop-seat l = vec_len l.seats
