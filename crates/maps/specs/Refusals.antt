-- The numbers of the errors.
use Rattle.std.specs.Prelude.{ℕ}
use Rattle.maps.specs.declared.error.MapsError.{MapsError}
use Rattle.maps.specs.declared.error.MapsError.TheVariants.{Seats, Memory}

abbrev pub number_of : MapsError → ℕ
number_of Seats = 1
number_of Memory = 2
