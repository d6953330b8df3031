-- The next hops of all routers' routes to one prefix, over the existing links.
use Rattle.std.specs.Prelude.{ℕ, Bool, not, ◌&&◌, if◌then◌else◌, nat_lt, List, [], ◌∷◌, ◌++◌}
use Rattle.std.specs.Prelude.{length}
use Rattle.std.specs.Prelude.{slice_index_or}
use Rattle.std.specs.List.{flat_map}
use Rattle.words.specs.Interfaces.{has_interface}
use Rattle.routes.specs.Loops.{Place}
use Rattle.routes.specs.declared.hop.Hop.{Hop}
use Rattle.routes.specs.declared.tables.LinkEnds.{LinkEnds}
use Rattle.routes.specs.declared.tables.PrefixRoute.{PrefixRoute}

-- packets are sent out of the interface, unless they end at the router itself
abbrev pub leaves_by : PrefixRoute → ℕ → Bool
leaves_by way interface =
    nat_lt interface 64 && (not (has_interface way.hops 0) && has_interface way.hops interface)

-- a router that doesn't exist has a route without an interface
abbrev pub way_at : List PrefixRoute → Place → PrefixRoute
way_at ways place = slice_index_or ways place (record { hops = 0; cost = 0 })

-- the next hop of the first router to the second by the interface, if its route has that
abbrev pub hop_by : List PrefixRoute → Place → ℕ → Place → List Hop
hop_by ways from interface to =
    if (nat_lt from (length ways) && nat_lt to (length ways))
    && leaves_by (way_at ways from) interface
    then record { from = from; to = to } ∷ [] else []

-- the next hops over a link, of both routers
abbrev pub hops_over : List PrefixRoute → LinkEnds → List Hop
hops_over ways link = hop_by ways link.one link.one_interface link.other
    ++ hop_by ways link.other link.other_interface link.one

abbrev pub next_hops : List PrefixRoute → List LinkEnds → List Hop
next_hops ways links = flat_map (hops_over ways) links
