-- The links of an interface in the router-LSA, by its neighbor's Router ID, if that is Full.
use Rattle.std.specs.Prelude.{if◌then◌else◌, List, [], ◌∷◌, ◌++◌, map, Option, None, Some}
use Rattle.words.specs.Numbers.{RouterNumber}
use Rattle.lsa.specs.declared.body.LsaBody.{LsaBody}
use Rattle.lsa.specs.declared.body.LsaBody.TheVariants as body
use Rattle.lsa.specs.declared.body.RouterLink.{RouterLink}
use Rattle.lsa.specs.declared.body.LinkKind.TheVariants.{PointToPoint}
use Rattle.adjacency.specs.Neighbors.{Neighbor, is_full}
use Rattle.adjacency.specs.declared.interface.Interface.{Interface}
use Rattle.adjacency.specs.declared.state.NeighborState.{NeighborState}
use Rattle.received.specs.Links.{Link}
use Rattle.event_rules.specs.Originations.{stub}

abbrev pub full_router : Option (RouterNumber × NeighborState) → Option RouterNumber
full_router None = None
full_router (Some p) = if is_full p.1 then Some p.0 else None

abbrev pub interface_links : Interface → Option RouterNumber → List RouterLink
interface_links i None = stub i ∷ []
interface_links i (Some router) = record {
  link_id = router;
  link_data = i.address;
  kind = PointToPoint;
  metric = i.cost;
  tos = [];
} ∷ stub i ∷ []

-- ---- all interfaces: the router-LSA depends on the configuration and on which neighbors are Full

abbrev pub interfaces : List Link → List Interface
interfaces links = map (λ (link : Link). link.interface) links

abbrev pub full_router_on : Option Neighbor → Option RouterNumber
full_router_on None = None
full_router_on (Some n) = if is_full n.state then Some n.router else None

-- interface n at index n - 1
abbrev pub full_routers : List Link → List (Option RouterNumber)
full_routers links = map (λ (link : Link). full_router_on link.neighbor) links

-- the links for these interfaces, with these neighbors Full
abbrev pub described_links : List Interface → List (Option RouterNumber) → List RouterLink
described_links [] fs = []
described_links (i ∷ is) [] = []
described_links (i ∷ is) (f ∷ fs) = interface_links i f ++ described_links is fs

abbrev pub described_body : List Interface → List (Option RouterNumber) → LsaBody
described_body is fs = body.Router (record { flags = 2; links = described_links is fs })
