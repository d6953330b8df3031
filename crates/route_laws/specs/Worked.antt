-- Worked databases with their candidates. The rules of routes depend only on the bodies of the LSAs
-- and their ages, so the headers have no checksum or length.
use Rattle.std.specs.Prelude.{ℕ, ◌+◌, ◌*◌, negsuc, List, [], ◌∷◌, None, Some}
use Rattle.std.specs.FinMap as finite
use Rattle.words.specs.Prefixes.{Network}
use Rattle.words.specs.declared.key.Key.{Key}
use Rattle.words.specs.declared.route.ExternalType.{ExternalType}
use Rattle.words.specs.declared.route.ExternalType.TheVariants.{Type1, Type2}
use Rattle.words.specs.declared.route.Route.{Route}
use Rattle.words.specs.declared.route.RouteKind.TheVariants.{External1, External2, Intra}
use Rattle.lsa.specs.declared.body.LsaBody.{LsaBody}
use Rattle.lsa.specs.declared.body.LsaBody.TheVariants as body
use Rattle.lsa.specs.declared.body.ExternalLsa.{ExternalLsa}
use Rattle.lsa.specs.declared.body.RouterLink.{RouterLink}
use Rattle.lsa.specs.declared.body.LinkKind.TheVariants.{PointToPoint, Stub}
use Rattle.lsa.specs.declared.body.RouterLsa.{RouterLsa}
use Rattle.lsdb.specs.Copies.{Database, DatabaseCopy}
use Rattle.lsdb.specs.Keys.{key_cmp}
use Rattle.routes.specs.Candidates.{AreCandidates}
use Rattle.routes.specs.Tables.{IsTable}
use Rattle.routes.specs.declared.root.Root.{Root}
use Rattle.routes.specs.Contents.{contents_at}

-- ---- shorthand for the examples

abbrev pub ipv4 : ℕ → ℕ → ℕ → ℕ → ℕ
ipv4 a b c d = ((a * 256 + b) * 256 + c) * 256 + d

abbrev pub Entries : Type 0
Entries = List (Key × DatabaseCopy)

abbrev pub database : Entries → Database
database es = finite.from_entries {R = key_cmp} es

abbrev pub key : ℕ → ℕ → ℕ → Key
key ls_type id router =
    record { ls_type = ls_type; link_state_id = id; advertising_router = router }

-- an LSA with age 0 that was stored at moment 0
abbrev pub copy_of : Key → LsaBody → DatabaseCopy
copy_of k contents = record {
  lsa = record {
    header = record {
      age = 0;
      options = 2;
      ls_type = k.ls_type;
      link_state_id = k.link_state_id;
      advertising_router = k.advertising_router;
      sequence = negsuc 2147483646;
      checksum = 0;
      length = 0;
    };
    body = contents;
  };
  stored = 0;
  received = Some 0;
  sent = None;
}

abbrev pub router_lsa : List RouterLink → RouterLsa
router_lsa links = record { flags = 2; links = links }

-- the router-LSA of an AS boundary router with these links
abbrev pub of_router : ℕ → List RouterLink → Key × DatabaseCopy
of_router router links =
    (key 1 router router, copy_of (key 1 router router) (body.Router (router_lsa links)))

abbrev pub of_external : ℕ → ℕ → ExternalLsa → Key × DatabaseCopy
of_external id router lsa = (key 5 id router, copy_of (key 5 id router) (body.External lsa))

abbrev pub point_to_point : ℕ → ℕ → ℕ → RouterLink
point_to_point neighbor address cost =
    record { link_id = neighbor; link_data = address; kind = PointToPoint; metric = cost; tos = [] }

abbrev pub stub : ℕ → ℕ → ℕ → RouterLink
stub network mask cost =
    record { link_id = network; link_data = mask; kind = Stub; metric = cost; tos = [] }

abbrev pub mask_24 : ℕ
mask_24 = ipv4 255 255 255 0

abbrev pub network_24 : ℕ → ℕ → ℕ → Network
network_24 a b c = record { address = ipv4 a b c 0; length = 24 }

-- ---- a square: from the root by either of two neighbors at the same cost

abbrev pub square_root : Root
square_root = record { router = ipv4 1 1 1 1; addresses = ipv4 10 0 1 1 ∷ ipv4 10 0 2 1 ∷ [] }

abbrev pub square_corner : List RouterLink
square_corner =
    point_to_point (ipv4 2 2 2 2) (ipv4 10 0 1 1) 5
    ∷ point_to_point (ipv4 3 3 3 3) (ipv4 10 0 2 1) 5 ∷ []

abbrev pub square_left : List RouterLink
square_left =
    point_to_point (ipv4 1 1 1 1) (ipv4 10 0 1 2) 5
    ∷ point_to_point (ipv4 4 4 4 4) (ipv4 10 0 3 1) 5 ∷ []

abbrev pub square_right : List RouterLink
square_right =
    point_to_point (ipv4 1 1 1 1) (ipv4 10 0 2 2) 5
    ∷ point_to_point (ipv4 4 4 4 4) (ipv4 10 0 4 1) 5 ∷ []

abbrev pub square_far : List RouterLink
square_far =
    point_to_point (ipv4 2 2 2 2) (ipv4 10 0 3 2) 5
    ∷ point_to_point (ipv4 3 3 3 3) (ipv4 10 0 4 2) 5 ∷ stub (ipv4 192 0 2 0) mask_24 10 ∷ []

abbrev pub square : Entries
square =
    of_router (ipv4 1 1 1 1) square_corner ∷ of_router (ipv4 2 2 2 2) square_left
    ∷ of_router (ipv4 3 3 3 3) square_right ∷ of_router (ipv4 4 4 4 4) square_far ∷ []

-- 192.0.2.0/24 with cost 20 by interfaces 1 and 2
abbrev pub across : Route
across =
    record { prefix = network_24 192 0 2; kind = Intra; cost = 20; distance = 0; hops = 6; tag = 0 }

pub record WorkedSquare : Type 0 where
  pub candidates : AreCandidates (contents_at 0 (database square)) square_root (across ∷ [])
  pub let_in : IsTable (contents_at 0 (database square)) square_root ((across, 0) ∷ [])
      (across ∷ [])
  pub vetoed : IsTable (contents_at 0 (database square)) square_root ((across, 1) ∷ []) []

-- ---- two routers on one link; the other one has a further network and an external destination

abbrev pub near_router : Root
near_router = record { router = ipv4 1 1 1 1; addresses = ipv4 10 0 1 1 ∷ [] }

abbrev pub near_links : List RouterLink
near_links =
    point_to_point (ipv4 2 2 2 2) (ipv4 10 0 1 1) 10 ∷ stub (ipv4 10 0 1 0) mask_24 10 ∷ []

abbrev pub far_links : List RouterLink
far_links =
    point_to_point (ipv4 1 1 1 1) (ipv4 10 0 1 2) 10 ∷ stub (ipv4 10 0 1 0) mask_24 10
    ∷ stub (ipv4 10 0 2 0) mask_24 5 ∷ []

abbrev pub two_routers : Entries → Entries
two_routers others =
    of_router (ipv4 1 1 1 1) near_links ∷ of_router (ipv4 2 2 2 2) far_links ∷ others

abbrev pub abroad_lsa : ExternalType → ExternalLsa
abroad_lsa kind =
    record { mask = mask_24; kind = kind; metric = 20; forwarding = 0; tag = 0; tos = [] }

-- 203.0.113.0/24 with metric 20, advertised by the other router
abbrev pub abroad : ExternalType → Entries
abroad kind = of_external (ipv4 203 0 113 0) (ipv4 2 2 2 2) (abroad_lsa kind) ∷ []

abbrev pub own_network : Route
own_network =
    record { prefix = network_24 10 0 1; kind = Intra; cost = 10; distance = 0; hops = 1; tag = 0 }

abbrev pub next_network : Route
next_network =
    record { prefix = network_24 10 0 2; kind = Intra; cost = 15; distance = 0; hops = 2; tag = 0 }

abbrev pub abroad_1 : Route
abroad_1 = record {
  prefix = network_24 203 0 113;
  kind = External1;
  cost = 30;
  distance = 0;
  hops = 2;
  tag = 0;
}

abbrev pub abroad_2 : Route
abroad_2 = record {
  prefix = network_24 203 0 113;
  kind = External2;
  cost = 20;
  distance = 10;
  hops = 2;
  tag = 0;
}

pub record WorkedTwoRouters : Type 0 where
  pub within : AreCandidates (contents_at 0 (database (two_routers []))) near_router
      (own_network ∷ next_network ∷ [])
  pub type_1 : AreCandidates (contents_at 0 (database (two_routers (abroad Type1)))) near_router
      (own_network ∷ next_network ∷ abroad_1 ∷ [])
  pub type_2 : AreCandidates (contents_at 0 (database (two_routers (abroad Type2)))) near_router
      (own_network ∷ next_network ∷ abroad_2 ∷ [])
