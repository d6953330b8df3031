-- The console's answers: lines, each ended by a line feed (10).
use Rattle.std.specs.Prelude.{ℕ, ◌+◌, List, [], ◌∷◌, ◌++◌, Option, None, Some, codes, decimal}
use Rattle.std.specs.Prelude.{filter, map, if◌then◌else◌, nat_lt}
use Rattle.std.specs.List.{join_with_byte, range_with_len}
use Rattle.words.specs.Interfaces.{has_interface}
use Rattle.words.specs.Numbers.{InterfaceNumber, RouterNumber}
use Rattle.words.specs.Text.{dotted_address, prefix_text}
use Rattle.words.specs.declared.route.Route.{Route}
use Rattle.words.specs.declared.route.RouteKind.{RouteKind}
use Rattle.words.specs.declared.route.RouteKind.TheVariants.{Intra, Inter, External1, External2}
use Rattle.adjacency.specs.declared.state.NeighborState.{NeighborState}
use Rattle.adjacency.specs.declared.state.NeighborState.TheVariants.{Init, ExStart, Exchange}
use Rattle.adjacency.specs.declared.state.NeighborState.TheVariants.{Loading, Full}

-- ---- the routing table

abbrev pub kind_name : RouteKind → List ℕ
kind_name Intra = codes "intra"
kind_name Inter = codes "inter"
kind_name External1 = codes "ext1"
kind_name External2 = codes "ext2"

-- the interfaces of a set that are below this number, in ascending order
abbrev pub interfaces_below : (end : ℕ) (hops : ℕ) → List ℕ
interfaces_below end hops = filter (has_interface hops) (range_with_len 0 end)

-- numbers in decimal, separated by commas (44)
abbrev pub numbers_text : List ℕ → List ℕ
numbers_text numbers = join_with_byte 44 (map decimal numbers)

-- the interfaces of a set, which are below 64
unfoldable pub hops_text : ℕ → List ℕ
hops_text hops = numbers_text (interfaces_below 64 hops)

-- one route: its destination, its kind, its cost and its outgoing interfaces
abbrev pub route_text : Route → List ℕ
route_text r =
    prefix_text r.prefix ++ (codes " " ++ (kind_name r.kind ++ (codes " " ++ (decimal r.cost
    ++ codes " via "))))

abbrev pub route_line : Route → List ℕ
route_line r = route_text r ++ (hops_text r.hops ++ 10 ∷ [])

abbrev pub route_lines : List Route → List ℕ
route_lines [] = []
route_lines (route ∷ routes) = route_line route ++ route_lines routes

abbrev pub table_text : List Route → List ℕ
table_text routes = route_lines routes ++ codes "end\n"

-- ---- the neighbors

abbrev pub state_name : NeighborState → List ℕ
state_name Init = codes "Init"
state_name ExStart = codes "ExStart"
state_name Exchange = codes "Exchange"
state_name Loading = codes "Loading"
state_name Full = codes "Full"

-- the neighbor of this interface, by its Router ID and its state; there is no line if it is Down
abbrev pub neighbor_line : InterfaceNumber → Option (RouterNumber × NeighborState) → List ℕ
neighbor_line interface None = []
neighbor_line interface (Some (router, state)) =
    codes "neighbor " ++ (decimal interface ++ (codes " " ++ (dotted_address router ++ (codes " "
    ++ (state_name state ++ 10 ∷ [])))))

abbrev pub neighbor_lines : InterfaceNumber → List (Option (RouterNumber × NeighborState)) → List ℕ
neighbor_lines interface [] = []
neighbor_lines interface (neighbor ∷ neighbors) =
    neighbor_line interface neighbor ++ neighbor_lines (interface + 1) neighbors

-- the neighbors of all interfaces, numbered from 1
abbrev pub neighbors_text : List (Option (RouterNumber × NeighborState)) → List ℕ
neighbors_text neighbors = neighbor_lines 1 neighbors ++ codes "end\n"

-- ---- the counters

-- a counter that is above 0
abbrev pub counter_line : (index : ℕ) (sum : ℕ) → List ℕ
counter_line index sum =
    if nat_lt 0 sum
    then codes "counter " ++ (decimal index ++ (codes " " ++ (decimal sum ++ 10 ∷ [])))
    else []

abbrev pub counter_lines : (index : ℕ) → List ℕ → List ℕ
counter_lines index [] = []
counter_lines index (sum ∷ sums) = counter_line index sum ++ counter_lines (index + 1) sums

abbrev pub counters_text : List ℕ → List ℕ
counters_text sums = counter_lines 0 sums ++ codes "end\n"
