-- The links of a database that count (RFC 2328, section 16.1): routers and transit networks, each
-- link with one back.
use Rattle.std.specs.Prelude.{◌≡◌, ℕ, ◌+◌, ◌<◌, Some, slice_get}
use Rattle.std.specs.List.{Contains}
pub use Rattle.words.specs.Keys.{router_key}
use Rattle.words.specs.declared.key.Key.{Key}
use Rattle.lsa.specs.declared.body.LsaBody.TheVariants as body
use Rattle.lsa.specs.declared.body.RouterLink.{RouterLink}
use Rattle.lsa.specs.declared.body.LinkKind.{LinkKind}
use Rattle.lsa.specs.declared.body.LinkKind.TheVariants.{PointToPoint, Transit}
use Rattle.lsa.specs.declared.body.NetworkLsa.{NetworkLsa}
use Rattle.lsa.specs.declared.body.RouterLsa.{RouterLsa}
use Rattle.lsa.specs.declared.body.LsaBody.{LsaBody}
use Rattle.routes.specs.Paths.{Step}
use Rattle.routes.specs.declared.node.Node.{Node}
use Rattle.routes.specs.declared.node.Node.TheVariants.{ANetwork, ARouter}
use Rattle.routes.specs.declared.root.Root.{Root}
use Rattle.routes.specs.Contents.{Contents}

-- the LSA of this key says this
abbrev pub Says : Contents → Key → LsaBody → Type 0
Says contents key body = contents key ≡ Some body

abbrev pub network_key : ℕ → ℕ → Key
network_key id by = record { ls_type = 2; link_state_id = id; advertising_router = by }

abbrev pub IsRouterLsa : Contents → ℕ → RouterLsa → Type 0
IsRouterLsa contents router r = Says contents (router_key router) (body.Router r)

abbrev pub IsNetworkLsa : Contents → ℕ → ℕ → NetworkLsa → Type 0
IsNetworkLsa contents id by n = Says contents (network_key id by) (body.Network n)

-- a link of the router's LSA
pub record HasLink (contents : Contents) (router : ℕ) (link : RouterLink) : Type 0 where
  pub lsa : RouterLsa
  pub its : IsRouterLsa contents router lsa
  pub among : Contains lsa.links link

-- the network-LSA lists the router
pub record ListsRouter (contents : Contents) (id by router : ℕ) : Type 0 where
  pub lsa : NetworkLsa
  pub its : IsNetworkLsa contents id by lsa
  pub among : Contains lsa.attached router

-- A link of this kind and cost to this Link ID that may count: its metric isn't 0, and at the root
-- its data is the address of an own interface, by which the root sends; for other routers the exit
-- is 0.
pub record Counts (contents : Contents) (root : Root) (router : ℕ) (kind : LinkKind)
    (id cost exit : ℕ) : Type 0 where
  pub link : RouterLink
  pub its : HasLink contents router link
  pub is_kind : link.kind ≡ kind
  pub is_id : link.link_id ≡ id
  pub costs : link.metric ≡ cost
  pub not_free : 0 < cost
  pub by_interface : router ≡ root.router
      → (n : ℕ) × (exit ≡ n + 1) × (slice_get root.addresses n ≡ Some link.link_data)
  pub elsewhere : ¬ (router ≡ root.router) → exit ≡ 0

-- some link of this kind back to this Link ID
abbrev pub LinksBack : Contents → ℕ → LinkKind → ℕ → Type 0
LinksBack contents router kind id =
    (link : RouterLink) × HasLink contents router link × (link.kind ≡ kind) × (link.link_id ≡ id)

-- a link counts only if the other end links back; a network leads to each router that it lists at
-- cost 0
abbrev pub LeadsTo : Contents → Root → Node → Node → ℕ → ℕ → Type 0
LeadsTo contents root (ARouter a) (ARouter b) cost exit =
    Counts contents root a PointToPoint b cost exit × LinksBack contents b PointToPoint a
LeadsTo contents root (ARouter a) (ANetwork id by) cost exit =
    Counts contents root a Transit id cost exit × ListsRouter contents id by a
LeadsTo contents root (ANetwork id by) (ARouter b) cost exit =
    ListsRouter contents id by b × LinksBack contents b Transit id × (cost ≡ 0) × (exit ≡ 0)
LeadsTo contents root (ANetwork id by) (ANetwork other its) cost exit = ⊥

abbrev pub Leads : Contents → Root → Node → Step Node → Type 0
Leads contents root from step = LeadsTo contents root from step.target step.cost step.exit
