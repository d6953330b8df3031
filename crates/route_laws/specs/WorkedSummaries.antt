-- A worked database with destinations in other areas (RFC 2328, sections 16.2 and 16.4): a network,
-- and AS boundary routers, as an area border router advertises them.
use Rattle.std.specs.Prelude.{ℕ, List, [], ◌∷◌}
use Rattle.words.specs.declared.key.Key.{Key}
use Rattle.words.specs.declared.route.ExternalType.TheVariants.{Type1, Type2}
use Rattle.words.specs.declared.route.Route.{Route}
use Rattle.words.specs.declared.route.RouteKind.TheVariants.{External1, External2, Inter}
use Rattle.lsa.specs.declared.body.LsaBody.TheVariants as body
use Rattle.lsa.specs.declared.body.RouterLink.{RouterLink}
use Rattle.lsa.specs.declared.body.SummaryLsa.{SummaryLsa}
use Rattle.lsdb.specs.Copies.{DatabaseCopy}
use Rattle.routes.specs.Candidates.{AreCandidates}
use Rattle.routes.specs.Contents.{contents_at}
use Rattle.routes.specs.declared.root.Root.{Root}
use Rattle.route_laws.specs.Worked.{Entries, copy_of, database, ipv4, key, mask_24, network_24}
use Rattle.route_laws.specs.Worked.{of_external, of_router, point_to_point}
use Rattle.route_laws.specs.WorkedExternals.{external}

abbrev pub summary : ℕ → SummaryLsa
summary metric = record { mask = mask_24; metric = metric; tos = [] }

-- advertised by the neighbor 2.2.2.2
abbrev pub of_network_summary : ℕ → ℕ → Key × DatabaseCopy
of_network_summary id metric = (
  key 3 id (ipv4 2 2 2 2),
  copy_of (key 3 id (ipv4 2 2 2 2)) (body.NetworkSummary (summary metric)),
)

-- advertised by this router
abbrev pub of_router_summary : ℕ → ℕ → ℕ → Key × DatabaseCopy
of_router_summary router id metric =
    (key 4 id router, copy_of (key 4 id router) (body.RouterSummary (summary metric)))

abbrev pub of_flagged : ℕ → ℕ → List RouterLink → Key × DatabaseCopy
of_flagged flags router links = (
  key 1 router router,
  copy_of (key 1 router router) (body.Router (record { flags = flags; links = links })),
)

-- ---- one router, and two neighbors

abbrev pub summaries_root : Root
summaries_root =
    record { router = ipv4 1 1 1 1; addresses = ipv4 10 0 1 1 ∷ ipv4 10 0 2 1 ∷ [] }

abbrev pub summaries_links : List RouterLink
summaries_links =
    point_to_point (ipv4 2 2 2 2) (ipv4 10 0 1 1) 10
    ∷ point_to_point (ipv4 3 3 3 3) (ipv4 10 0 2 1) 100 ∷ []

abbrev pub border_links : List RouterLink
border_links = point_to_point (ipv4 1 1 1 1) (ipv4 10 0 1 2) 10 ∷ []

abbrev pub distant_links : List RouterLink
distant_links = point_to_point (ipv4 1 1 1 1) (ipv4 10 0 2 2) 100 ∷ []

-- 2.2.2.2 and 3.3.3.3 have these flags. The first advertises a network at 5, one that is
-- unreachable, the AS boundary router 9.9.9.9 at 7, and 3.3.3.3 at 7, which has a greater cost
-- within the area; the second advertises 9.9.9.9 at 1, but is itself farther away.
abbrev pub told_entries : (flags : ℕ) → (distant_flags : ℕ) → Entries
told_entries flags distant_flags =
    of_router (ipv4 1 1 1 1) summaries_links
    ∷ of_flagged flags (ipv4 2 2 2 2) border_links
    ∷ of_flagged distant_flags (ipv4 3 3 3 3) distant_links
    ∷ of_network_summary (ipv4 198 51 100 0) 5
    ∷ of_network_summary (ipv4 198 18 0 0) 16777215
    ∷ of_router_summary (ipv4 2 2 2 2) (ipv4 3 3 3 3) 7
    ∷ of_router_summary (ipv4 2 2 2 2) (ipv4 9 9 9 9) 7
    ∷ of_router_summary (ipv4 3 3 3 3) (ipv4 9 9 9 9) 1
    ∷ of_external (ipv4 203 0 113 0) (ipv4 9 9 9 9) (external Type1 20 0 0)
    ∷ of_external (ipv4 203 0 114 0) (ipv4 9 9 9 9) (external Type2 20 0 0)
    ∷ of_external (ipv4 203 0 115 0) (ipv4 3 3 3 3) (external Type1 20 0 0)
    ∷ []

-- ---- the candidates

abbrev pub between_route : Route
between_route = record {
  prefix = network_24 198 51 100;
  kind = Inter;
  cost = 15;
  distance = 0;
  hops = 2;
  tag = 0;
}

-- the way to the boundary router costs 17 by the first neighbor, and 101 by the second
abbrev pub beyond_1 : Route
beyond_1 = record {
  prefix = network_24 203 0 113;
  kind = External1;
  cost = 37;
  distance = 0;
  hops = 2;
  tag = 0;
}

abbrev pub beyond_2 : Route
beyond_2 = record {
  prefix = network_24 203 0 114;
  kind = External2;
  cost = 20;
  distance = 17;
  hops = 2;
  tag = 0;
}

-- by the way within the area, at 100
abbrev pub distant_route : Route
distant_route = record {
  prefix = network_24 203 0 115;
  kind = External1;
  cost = 120;
  distance = 0;
  hops = 4;
  tag = 0;
}

pub record WorkedSummaries : Type 0 where
  -- both neighbors are area border routers, and the second one is an AS boundary router
  pub with_b : AreCandidates (contents_at 0 (database (told_entries 1 3))) summaries_root
      (between_route ∷ beyond_1 ∷ beyond_2 ∷ distant_route ∷ [])
  -- neither is an area border router
  pub without_b : AreCandidates (contents_at 0 (database (told_entries 0 2))) summaries_root
      (distant_route ∷ [])
