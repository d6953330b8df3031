-- The rows of a routing table, as programs see them.
use Rattle.std.specs.Prelude.{List, map}
use Rattle.words.specs.declared.route.Route.{Route}
use Rattle.words.specs.declared.route.TableRow.{TableRow}

-- the prefix and the total cost; for an external route of type 2 the external metric alone
abbrev pub row_of : Route → TableRow
row_of r = record { prefix = r.prefix; cost = r.cost }

-- one for each route, in their order
abbrev pub rows_of : List Route → List TableRow
rows_of table = map row_of table
