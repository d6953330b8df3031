-- The nodes of an area's graph: the routers and transit networks whose LSAs are in the database
-- (RFC 2328, section 16.1).
use Rattle.std.specs.Prelude.{◌≡◌, ◌==◌, ◌&&◌, ℕ, ◌↔◌, List, Option, None, Some, if◌then◌else◌}
use Rattle.std.specs.List.{AllPairs, Contains}
use Rattle.std.specs.Ordering.{nat_cmp, ordering_then}
use Rattle.std.specs.declared.cmp.Ordering.{Ordering}
use Rattle.std.specs.declared.cmp.Ordering.TheVariants.{Greater, Less}
use Rattle.words.specs.declared.key.Key.{Key}
use Rattle.lsa.specs.declared.body.LsaBody.{LsaBody}
use Rattle.lsa.specs.declared.body.LsaBody.TheVariants as body
use Rattle.lsa.specs.declared.body.NetworkLsa.{NetworkLsa}
use Rattle.lsa.specs.declared.body.RouterLsa.{RouterLsa}
use Rattle.routes.specs.Links.{IsNetworkLsa, IsRouterLsa, network_key, router_key}
use Rattle.routes.specs.Contents.{Contents}
use Rattle.routes.specs.declared.node.Node.{Node}
use Rattle.routes.specs.declared.node.Node.TheVariants.{ANetwork, ARouter}

-- the node's LSA says something: it is in the database, and not at MaxAge
abbrev pub HasLsa : Contents → Node → Type 0
HasLsa contents (ARouter router) = (lsa : RouterLsa) × IsRouterLsa contents router lsa
HasLsa contents (ANetwork id by) = (lsa : NetworkLsa) × IsNetworkLsa contents id by lsa

-- routers by Router ID, then networks by Link State ID and Advertising Router: the order of the
-- keys of their LSAs
abbrev pub node_cmp : Node → Node → Ordering
node_cmp (ARouter a) (ARouter b) = nat_cmp a b
node_cmp (ARouter a) (ANetwork id by) = Less
node_cmp (ANetwork id by) (ARouter b) = Greater
node_cmp (ANetwork id by) (ANetwork other its) = ordering_then (nat_cmp id other) (nat_cmp by its)

abbrev pub Ascend : List Node → Type 0
Ascend nodes = AllPairs (λ (a : Node) (b : Node). node_cmp a b ≡ Less) nodes

-- exactly the nodes with an LSA, each once, sorted
pub record AreNodes (contents : Contents) (nodes : List Node) : Type 0 where
  pub each : (node : Node) → Contains nodes node ↔ HasLsa contents node
  pub ascend : Ascend nodes

-- ---- what is read from a database

abbrev pub router_in : Option LsaBody → Option RouterLsa
router_in None = None
router_in (Some (body.Router lsa)) = Some lsa
router_in (Some (body.Network lsa)) = None
router_in (Some (body.NetworkSummary lsa)) = None
router_in (Some (body.RouterSummary lsa)) = None
router_in (Some (body.External lsa)) = None

abbrev pub network_in : Option LsaBody → Option NetworkLsa
network_in None = None
network_in (Some (body.Router lsa)) = None
network_in (Some (body.Network lsa)) = Some lsa
network_in (Some (body.NetworkSummary lsa)) = None
network_in (Some (body.RouterSummary lsa)) = None
network_in (Some (body.External lsa)) = None

abbrev pub router_lsa : Contents → ℕ → Option RouterLsa
router_lsa contents router = router_in (contents (router_key router))

abbrev pub network_lsa : Contents → ℕ → ℕ → Option NetworkLsa
network_lsa contents id by = network_in (contents (network_key id by))

abbrev pub if_router : ℕ → Option RouterLsa → Option Node
if_router router None = None
if_router router (Some lsa) = Some (ARouter router)

abbrev pub if_network : ℕ → ℕ → Option NetworkLsa → Option Node
if_network id by None = None
if_network id by (Some lsa) = Some (ANetwork id by)

-- the node of the LSA with this key and body, if there is one
abbrev pub node_of : Key × LsaBody → Option Node
node_of one =
    if (one.0.ls_type == 1) && (one.0.link_state_id == one.0.advertising_router)
    then if_router one.0.advertising_router (router_in (Some one.1))
    else (if one.0.ls_type == 2
    then if_network one.0.link_state_id one.0.advertising_router (network_in (Some one.1))
    else None)
