-- What LSAs advertise about each router, as a sorted list that can be searched.
use Rattle.std.specs.Prelude.{◌≡◌, ℕ, ◌<◌, ◌≤◌, ◌↔◌, List, Option, None, Some}
use Rattle.std.specs.List.{Contains}
use Rattle.std.specs.List.Sorted.{IsSorted}
use Rattle.std.specs.Ordering.{nat_cmp, ordering_then}
use Rattle.std.specs.declared.cmp.Ordering.{Ordering}
use Rattle.lsa.specs.declared.body.LsaBody.{LsaBody}
use Rattle.lsa.specs.declared.body.RouterLink.{RouterLink}
use Rattle.lsa.specs.declared.body.LinkKind.{LinkKind}
use Rattle.lsa.specs.declared.body.LinkKind.TheVariants as kinds
use Rattle.lsdb.specs.Bodies.{AreBodies}
use Rattle.routes.specs.Links.{HasLink, ListsRouter}
use Rattle.routes.specs.Contents.{Contents}
use Rattle.routes.specs.declared.node.Node.{Node}
use Rattle.routes.specs.declared.node.Node.TheVariants.{ANetwork, ARouter}
use Rattle.words.specs.declared.key.Key.{Key}
use Rattle.candidates.specs.Graphs.{StandsAt}
use Rattle.candidates.specs.Nodes.{AreNodes, Ascend}
use Rattle.candidates.specs.declared.entry.AdvertisedLink.{AdvertisedLink}
use Rattle.candidates.specs.declared.entry.EntryKind.{EntryKind}
use Rattle.candidates.specs.declared.entry.EntryKind.TheVariants.{Attached, PointToPoint, Transit}

-- ---- the order

-- the kinds of links first
abbrev pub rank : EntryKind → ℕ
rank PointToPoint = 0
rank Transit = 1
rank Attached = 2

-- by router, kind, ID, metric and place
abbrev pub entry_cmp : AdvertisedLink → AdvertisedLink → Ordering
entry_cmp a b =
    ordering_then (nat_cmp a.router b.router)
    (ordering_then (nat_cmp (rank a.kind) (rank b.kind))
    (ordering_then (nat_cmp a.id b.id)
    (ordering_then (nat_cmp a.metric b.metric) (nat_cmp a.place b.place))))

-- ---- what an entry says

abbrev pub with_kind : (router : ℕ) → EntryKind → RouterLink → AdvertisedLink
with_kind router kind link =
    record {
      router = router;
      kind = kind;
      id = link.link_id;
      metric = link.metric;
      place = 0;
    }

-- the entry of a link of the router's; links of the other kinds have none
abbrev pub link_entry : LinkKind → (router : ℕ) → RouterLink → Option AdvertisedLink
link_entry kinds.PointToPoint router link = Some (with_kind router PointToPoint link)
link_entry kinds.Transit router link = Some (with_kind router Transit link)
link_entry kinds.Stub router link = None
link_entry kinds.Virtual router link = None

abbrev pub entry_of : (router : ℕ) → RouterLink → Option AdvertisedLink
entry_of router link = link_entry link.kind router link

-- the entry of a router that the network at this index lists
abbrev pub attached_entry : (id place router : ℕ) → AdvertisedLink
attached_entry id place router =
    record { router = router; kind = Attached; id = id; metric = 0; place = place }

-- the entry is from the LSA of the node at this index
abbrev pub TellsOf : Contents → Node → (place : ℕ) → AdvertisedLink → Type 0
TellsOf contents (ARouter router) place entry =
    (link : RouterLink) × HasLink contents router link × (entry_of router link ≡ Some entry)
TellsOf contents (ANetwork id by) place entry =
    ListsRouter contents id by entry.router × (entry ≡ attached_entry id place entry.router)

-- the router's LSA has a link of this kind to this ID with this metric
abbrev pub HasLinkOf : Contents → (router : ℕ) → LinkKind → (id metric : ℕ) → Type 0
HasLinkOf contents router kind id metric =
    (link : RouterLink) × HasLink contents router link × (link.kind ≡ kind) × (link.link_id ≡ id)
    × (link.metric ≡ metric)

-- the network with this Link State ID, at this index, lists the router
abbrev pub IsListedAt : Contents → List Node → (router id place : ℕ) → Type 0
IsListedAt contents nodes router id place =
    (by : ℕ) × StandsAt nodes (ANetwork id by) place × ListsRouter contents id by router

abbrev pub IsAdvertisedAs : Contents → List Node → EntryKind → AdvertisedLink → Type 0
IsAdvertisedAs contents nodes PointToPoint entry =
    HasLinkOf contents entry.router kinds.PointToPoint entry.id entry.metric × (entry.place ≡ 0)
IsAdvertisedAs contents nodes Transit entry =
    HasLinkOf contents entry.router kinds.Transit entry.id entry.metric × (entry.place ≡ 0)
IsAdvertisedAs contents nodes Attached entry =
    IsListedAt contents nodes entry.router entry.id entry.place × (entry.metric ≡ 0)

-- exactly what LSAs advertise, sorted
pub record AreEntries (contents : Contents) (nodes : List Node) (entries : List AdvertisedLink)
    : Type 0
  where
    pub each : (entry : AdvertisedLink)
        → Contains entries entry ↔ IsAdvertisedAs contents nodes entry.kind entry
    pub sorted : IsSorted entry_cmp entries

-- what is known of an area: the bodies of its LSAs, its nodes, and what LSAs advertise about them
pub record IsArea (contents : Contents) (bodies : List (Key × LsaBody)) (nodes : List Node)
    (entries : List AdvertisedLink) : Type 0 where
  pub are_bodies : AreBodies (Some 2) contents bodies
  pub are_nodes : AreNodes contents nodes
  pub are_entries : AreEntries contents nodes entries

-- nodes and entries are sorted, and each router that has an entry for a link is a node
pub record AreOrdered (nodes : List Node) (entries : List AdvertisedLink) : Type 0 where
  pub ascend : Ascend nodes
  pub sorted : IsSorted entry_cmp entries
  pub routers : (entry : AdvertisedLink) → Contains entries entry → rank entry.kind < 2
      → Contains nodes (ARouter entry.router)

-- ---- looking up

-- both are about one router, from the same kind of link or list with the same ID
pub record IsBeside (entry other : AdvertisedLink) : Type 0 where
  pub router : entry.router ≡ other.router
  pub kind : entry.kind ≡ other.kind
  pub id : entry.id ≡ other.id

-- an entry of the router, of this kind and ID, with this metric
abbrev pub HasMetric : List AdvertisedLink → (router : ℕ) → EntryKind → (id metric : ℕ) → Type 0
HasMetric entries router kind id metric =
    (place : ℕ)
    × Contains entries
    (record { router = router; kind = kind; id = id; metric = metric; place = place })

abbrev pub HasEntry : List AdvertisedLink → (router : ℕ) → EntryKind → (id : ℕ) → Type 0
HasEntry entries router kind id = (metric : ℕ) × HasMetric entries router kind id metric

-- the least metric, at least `from`, of the entries with this router, kind and ID
abbrev pub IsLeastMetric : List AdvertisedLink → (router : ℕ) → EntryKind → (id : ℕ) → (from : ℕ)
    → Option ℕ → Type 0
IsLeastMetric entries router kind id from None =
    (metric : ℕ) → from ≤ metric → HasMetric entries router kind id metric → ⊥
IsLeastMetric entries router kind id from (Some least) =
    (from ≤ least) × HasMetric entries router kind id least
    × ((metric : ℕ) → from ≤ metric → HasMetric entries router kind id metric → least ≤ metric)
