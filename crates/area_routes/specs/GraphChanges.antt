-- LSAs of routers and networks that change, and the nodes whose links this may change (RFC 2328,
-- section 16.1): their own, and those that they name or named.
use Rattle.std.specs.Prelude.{◌≡◌, ◌≤◌, ◌⊎◌, ℕ, List, Option, Some}
use Rattle.std.specs.List.{Contains}
use Rattle.lsa.specs.declared.body.LsaBody.{LsaBody}
use Rattle.lsa.specs.declared.body.LsaBody.TheVariants as body
use Rattle.lsa.specs.declared.body.RouterLink.{RouterLink}
use Rattle.lsa.specs.declared.body.LinkKind.TheVariants.{PointToPoint, Transit}
use Rattle.lsa.specs.declared.body.NetworkLsa.{NetworkLsa}
use Rattle.lsa.specs.declared.body.RouterLsa.{RouterLsa}
use Rattle.candidates.specs.Graphs.{StandsAt}
use Rattle.routes.specs.Links.{network_key, router_key}
use Rattle.routes.specs.Contents.{Contents}
use Rattle.routes.specs.declared.node.Node.{Node}
use Rattle.routes.specs.declared.node.Node.TheVariants.{ANetwork, ARouter}
use Rattle.words.specs.Numbers.{RouterNumber}
use Rattle.words.specs.declared.key.Key.{Key}

-- the node's index, if it has one, is among these
abbrev pub IsAmong : List Node → (places : List ℕ) → Node → Type 0
IsAmong nodes places node = (at : ℕ) → StandsAt nodes node at → Contains places at

-- so are those of all networks with this Link State ID
abbrev pub AreNetworksAmong : List Node → (places : List ℕ) → (id : ℕ) → Type 0
AreNetworksAmong nodes places id = (by : RouterNumber) → IsAmong nodes places (ANetwork id by)

-- so are those of the nodes that the link may lead to: the router that a point-to-point link names,
-- the networks that have a transit link's Link ID as Link State ID
pub record IsEndAmong (nodes : List Node) (places : List ℕ) (link : RouterLink) : Type 0 where
  pub router : link.kind ≡ PointToPoint → IsAmong nodes places (ARouter link.link_id)
  pub networks : link.kind ≡ Transit → AreNetworksAmong nodes places link.link_id

-- and of all links of the LSA
abbrev pub AreEndsAmong : List Node → (places : List ℕ) → RouterLsa → Type 0
AreEndsAmong nodes places lsa =
    (link : RouterLink) → Contains lsa.links link → IsEndAmong nodes places link

-- so are those of the routers that the LSA lists
abbrev pub AreListedAmong : List Node → (places : List ℕ) → NetworkLsa → Type 0
AreListedAmong nodes places lsa =
    (router : RouterNumber) → Contains lsa.attached router
    → IsAmong nodes places (ARouter router)

-- a router's LSA has contents before and after, and the router is recorded, with all that its
-- links led to or lead to
pub record IsRouterNoted (old_contents : Option LsaBody) (new_contents : Option LsaBody)
    (nodes : List Node) (places : List ℕ) (router : RouterNumber) : Type 0 where
  pub was : RouterLsa
  pub is : RouterLsa
  pub before : old_contents ≡ Some (body.Router was)
  pub now : new_contents ≡ Some (body.Router is)
  pub own : IsAmong nodes places (ARouter router)
  pub ends_before : AreEndsAmong nodes places was
  pub ends : AreEndsAmong nodes places is

-- a network's LSA has contents before and after, and the network is recorded, with all routers
-- that were or are listed
pub record IsNetworkNoted (old_contents : Option LsaBody) (new_contents : Option LsaBody)
    (nodes : List Node) (places : List ℕ) (network : Node) : Type 0 where
  pub was : NetworkLsa
  pub is : NetworkLsa
  pub before : old_contents ≡ Some (body.Network was)
  pub now : new_contents ≡ Some (body.Network is)
  pub own : IsAmong nodes places network
  pub listed_before : AreListedAmong nodes places was
  pub listed : AreListedAmong nodes places is

-- the key is that of a router-LSA or a network-LSA that was recorded
abbrev pub IsNoted : (old : Contents) → (new : Contents) → List Node → (places : List ℕ) → Key
    → Type 0
IsNoted old new nodes places key =
    ((router : RouterNumber) × (key ≡ router_key router)
    × IsRouterNoted (old key) (new key) nodes places router)
    ⊎ ((id : ℕ) × (by : RouterNumber) × (key ≡ network_key id by)
    × IsNetworkNoted (old key) (new key) nodes places (ANetwork id by))

-- the LSA says what it said, or was recorded
abbrev pub IsCovered : (old : Contents) → (new : Contents) → List Node → (places : List ℕ) → Key
    → Type 0
IsCovered old new nodes places key = (old key ≡ new key) ⊎ IsNoted old new nodes places key

-- the same for each of these keys that is of a router-LSA or network-LSA
abbrev pub AreCovered : (old : Contents) → (new : Contents) → List Node → (places : List ℕ)
    → List Key
    → Type 0
AreCovered old new nodes places keys =
    (key : Key) → Contains keys key → key.ls_type ≤ 2 → IsCovered old new nodes places key
