-- The orders of keys, networks and route kinds.
use Rattle.std.specs.Prelude.{ℕ}
use Rattle.std.specs.declared.cmp.Ordering.{Ordering}
use Rattle.std.specs.Ordering.{nat_cmp, ordering_then}
use Rattle.words.specs.declared.key.Key.{Key}
use Rattle.words.specs.declared.route.RouteKind.{RouteKind}
use Rattle.words.specs.declared.route.RouteKind.TheVariants.{Intra, Inter, External1, External2}
use Rattle.words.specs.Prefixes.{Network}

-- by type, then Link State ID, then Advertising Router
abbrev pub key_cmp : Key → Key → Ordering
key_cmp a b =
    ordering_then (nat_cmp a.ls_type b.ls_type)
    (ordering_then (nat_cmp a.link_state_id b.link_state_id) (nat_cmp a.advertising_router
    b.advertising_router))

-- by address, then length
abbrev pub network_cmp : Network → Network → Ordering
network_cmp a b = ordering_then (nat_cmp a.address b.address) (nat_cmp a.length b.length)

-- the rank of a kind, the preferred one first (RFC 2328, section 11)
abbrev pub rank : RouteKind → ℕ
rank Intra = 0
rank Inter = 1
rank External1 = 2
rank External2 = 3

abbrev pub kind_cmp : RouteKind → RouteKind → Ordering
kind_cmp a b = nat_cmp (rank a) (rank b)
