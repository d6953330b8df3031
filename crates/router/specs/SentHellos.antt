-- The routers that a Hello lists.
use Rattle.std.specs.Prelude.{List, [], ◌∷◌, Option, None, Some}
use Rattle.words.specs.Numbers.{RouterNumber}
use Rattle.adjacency.specs.declared.state.NeighborState.{NeighborState}

abbrev pub routers_of : Option (RouterNumber × NeighborState) → List RouterNumber
routers_of None = []
routers_of (Some e) = e.0 ∷ []
