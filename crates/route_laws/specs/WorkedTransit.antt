-- A worked database with a transit network, external destinations of two advertising routers, and
-- routers that don't count (RFC 2328, sections 16.1 and 16.4).
use Rattle.std.specs.Prelude.{ℕ, List, [], ◌∷◌}
use Rattle.words.specs.Prefixes.{Network}
use Rattle.words.specs.declared.key.Key.{Key}
use Rattle.words.specs.declared.route.ExternalType.TheVariants.{Type1}
use Rattle.words.specs.declared.route.Route.{Route}
use Rattle.words.specs.declared.route.RouteKind.TheVariants.{External1, Intra}
use Rattle.lsa.specs.declared.body.LsaBody.TheVariants as body
use Rattle.lsa.specs.declared.body.RouterLink.{RouterLink}
use Rattle.lsa.specs.declared.body.LinkKind.TheVariants.{Transit}
use Rattle.lsa.specs.declared.body.NetworkLsa.{NetworkLsa}
use Rattle.lsa.specs.declared.body.RouterLsa.{RouterLsa}
use Rattle.lsdb.specs.Copies.{DatabaseCopy}
use Rattle.routes.specs.Candidates.{AreCandidates}
use Rattle.route_laws.specs.Worked.{Entries, copy_of, database, ipv4, key, mask_24, network_24}
use Rattle.route_laws.specs.Worked.{of_external, of_router, point_to_point, stub}
use Rattle.route_laws.specs.WorkedExternals.{external}
use Rattle.routes.specs.declared.root.Root.{Root}
use Rattle.routes.specs.Contents.{contents_at}

-- a router's link to a transit network: the address of its Designated Router, and the router's own
-- there
abbrev pub transit : ℕ → ℕ → ℕ → RouterLink
transit designated address cost =
    record { link_id = designated; link_data = address; kind = Transit; metric = cost; tos = [] }

abbrev pub of_network : ℕ → ℕ → NetworkLsa → Key × DatabaseCopy
of_network id router lsa = (key 2 id router, copy_of (key 2 id router) (body.Network lsa))

-- ---- the routers: this one, two neighbors on one network, and two more that the network lists

abbrev pub transit_root : Root
transit_root =
    record { router = ipv4 1 1 1 1; addresses = ipv4 10 0 1 1 ∷ ipv4 10 0 2 1 ∷ [] }

abbrev pub root_links : List RouterLink
root_links =
    point_to_point (ipv4 2 2 2 2) (ipv4 10 0 1 1) 10
    ∷ point_to_point (ipv4 3 3 3 3) (ipv4 10 0 2 1) 15 ∷ []

-- the Designated Router; its stub network contains the transit network, and is nearer
abbrev pub designated_links : List RouterLink
designated_links =
    point_to_point (ipv4 1 1 1 1) (ipv4 10 0 1 2) 10
    ∷ transit (ipv4 10 1 0 2) (ipv4 10 1 0 2) 5 ∷ stub (ipv4 10 0 0 0) (ipv4 255 0 0 0) 1
    ∷ []

-- at the same cost over the network and by its own link
abbrev pub other_links : List RouterLink
other_links =
    point_to_point (ipv4 1 1 1 1) (ipv4 10 0 2 2) 15
    ∷ transit (ipv4 10 1 0 2) (ipv4 10 1 0 3) 1 ∷ stub (ipv4 192 0 2 0) mask_24 10 ∷ []

-- listed by the network, but without a link to it
abbrev pub unlinked_links : List RouterLink
unlinked_links = stub (ipv4 198 51 100 0) mask_24 1 ∷ []

-- on the network, and no AS boundary router
abbrev pub inner_lsa : RouterLsa
inner_lsa = record { flags = 0; links = transit (ipv4 10 1 0 2) (ipv4 10 1 0 5) 1 ∷ [] }

abbrev pub network_lsa : NetworkLsa
network_lsa = record {
  mask = mask_24;
  attached = ipv4 2 2 2 2 ∷ ipv4 3 3 3 3 ∷ ipv4 4 4 4 4 ∷ ipv4 5 5 5 5 ∷ [];
}

-- 203.0.113.0/24 is advertised by two routers, at the same total cost; 203.0.114.0/24 with a
-- forwarding address on the transit network; the last two by the router that is no boundary router
-- and by the one that isn't reached
abbrev pub transit_entries : Entries
transit_entries =
    of_router (ipv4 1 1 1 1) root_links
    ∷ of_router (ipv4 2 2 2 2) designated_links
    ∷ of_router (ipv4 3 3 3 3) other_links
    ∷ of_router (ipv4 4 4 4 4) unlinked_links
    ∷ (
      key 1 (ipv4 5 5 5 5) (ipv4 5 5 5 5),
      copy_of (key 1 (ipv4 5 5 5 5) (ipv4 5 5 5 5))
          (body.Router inner_lsa),
    )
    ∷ of_network (ipv4 10 1 0 2) (ipv4 2 2 2 2) network_lsa
    ∷ of_external (ipv4 203 0 113 0) (ipv4 2 2 2 2) (external Type1 25 0 9)
    ∷ of_external (ipv4 203 0 113 0) (ipv4 3 3 3 3) (external Type1 20 0 1)
    ∷ of_external (ipv4 203 0 114 0) (ipv4 2 2 2 2) (external Type1 20 (ipv4 10 1 0 9) 0)
    ∷ of_external (ipv4 203 0 115 0) (ipv4 5 5 5 5) (external Type1 20 0 0)
    ∷ of_external (ipv4 203 0 116 0) (ipv4 4 4 4 4) (external Type1 20 0 0)
    ∷ []

-- ---- the candidates

abbrev pub network_8 : ℕ → Network
network_8 a = record { address = ipv4 a 0 0 0; length = 8 }

abbrev pub wide_route : Route
wide_route =
    record { prefix = network_8 10; kind = Intra; cost = 11; distance = 0; hops = 2; tag = 0 }

-- the transit network, by interface 1
abbrev pub transit_route : Route
transit_route =
    record { prefix = network_24 10 1 0; kind = Intra; cost = 15; distance = 0; hops = 2; tag = 0 }

-- beyond the other router, by interfaces 1 and 2
abbrev pub behind_route : Route
behind_route =
    record { prefix = network_24 192 0 2; kind = Intra; cost = 25; distance = 0; hops = 6; tag = 0 }

-- by both advertising routers, with the lesser tag
abbrev pub shared_route : Route
shared_route = record {
  prefix = network_24 203 0 113;
  kind = External1;
  cost = 35;
  distance = 0;
  hops = 6;
  tag = 9;
}

-- the forwarding address is in the transit network and in the nearer one that contains it; the
-- longest match counts
abbrev pub longest_route : Route
longest_route = record {
  prefix = network_24 203 0 114;
  kind = External1;
  cost = 35;
  distance = 0;
  hops = 2;
  tag = 0;
}

abbrev pub WorkedTransit : Type 0
WorkedTransit =
    AreCandidates (contents_at 0 (database transit_entries)) transit_root
    (wide_route ∷ transit_route ∷ behind_route ∷ shared_route ∷ longest_route ∷ [])
