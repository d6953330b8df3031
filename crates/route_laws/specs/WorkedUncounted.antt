-- A worked database with links that don't count (RFC 2328, section 16.1): each leads to a router
-- with a stub network, which has no candidate.
use Rattle.std.specs.Prelude.{ℕ, List, [], ◌∷◌}
use Rattle.words.specs.declared.route.Route.{Route}
use Rattle.words.specs.declared.route.RouteKind.TheVariants.{Intra}
use Rattle.lsa.specs.declared.body.RouterLink.{RouterLink}
use Rattle.lsa.specs.declared.body.LinkKind.TheVariants.{Virtual}
use Rattle.routes.specs.Candidates.{AreCandidates}
use Rattle.route_laws.specs.Worked.{Entries, database, ipv4, mask_24, near_router, network_24}
use Rattle.route_laws.specs.Worked.{of_router, point_to_point, stub}
use Rattle.routes.specs.Contents.{contents_at}

abbrev pub virtual : ℕ → ℕ → ℕ → RouterLink
virtual neighbor address cost =
    record { link_id = neighbor; link_data = address; kind = Virtual; metric = cost; tos = [] }

-- to the neighbor; and to 3.3.3.3 by an address of none of this router's interfaces
abbrev pub counting_links : List RouterLink
counting_links =
    point_to_point (ipv4 2 2 2 2) (ipv4 10 0 1 1) 10
    ∷ point_to_point (ipv4 3 3 3 3) (ipv4 10 0 9 1) 1 ∷ []

-- to 4.4.4.4 at metric 0, to 5.5.5.5 by a virtual link, and to 6.6.6.6, which has no link back
abbrev pub neighbor_links : List RouterLink
neighbor_links =
    point_to_point (ipv4 1 1 1 1) (ipv4 10 0 1 2) 10
    ∷ point_to_point (ipv4 4 4 4 4) (ipv4 10 0 4 1) 0
    ∷ virtual (ipv4 5 5 5 5) (ipv4 10 0 5 1) 1
    ∷ point_to_point (ipv4 6 6 6 6) (ipv4 10 0 6 1) 1
    ∷ stub (ipv4 192 0 2 0) mask_24 1
    ∷ []

abbrev pub uncounted_entries : Entries
uncounted_entries =
    of_router (ipv4 1 1 1 1) counting_links
    ∷ of_router (ipv4 2 2 2 2) neighbor_links
    ∷ of_router (ipv4 3 3 3 3)
    (point_to_point (ipv4 1 1 1 1) (ipv4 10 0 9 2) 1 ∷ stub (ipv4 198 51 100 0) mask_24 1
    ∷ [])
    ∷ of_router (ipv4 4 4 4 4)
    (point_to_point (ipv4 2 2 2 2) (ipv4 10 0 4 2) 5 ∷ stub (ipv4 203 0 113 0) mask_24 1
    ∷ [])
    ∷ of_router (ipv4 5 5 5 5)
    (virtual (ipv4 2 2 2 2) (ipv4 10 0 5 2) 1 ∷ stub (ipv4 203 0 114 0) mask_24 1 ∷ [])
    ∷ of_router (ipv4 6 6 6 6) (stub (ipv4 203 0 115 0) mask_24 1 ∷ [])
    ∷ []

abbrev pub neighbor_route : Route
neighbor_route =
    record { prefix = network_24 192 0 2; kind = Intra; cost = 11; distance = 0; hops = 2; tag = 0 }

abbrev pub WorkedUncounted : Type 0
WorkedUncounted =
    AreCandidates (contents_at 0 (database uncounted_entries)) near_router (neighbor_route ∷ [])
