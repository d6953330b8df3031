-- The routes that the reachable routers and networks offer (RFC 2328, sections 16.1 and 16.4).
use Rattle.std.specs.Prelude.{◌≡◌, ℕ, ◌+◌, ◌≤◌, bit_and}
use Rattle.words.specs.declared.route.RouteKind.TheVariants.{Intra}
use Rattle.words.specs.Prefixes.{Network, mask_of, network_address}
use Rattle.lsa.specs.declared.body.RouterLink.{RouterLink}
use Rattle.lsa.specs.declared.body.LinkKind.TheVariants.{Stub}
use Rattle.lsa.specs.declared.body.NetworkLsa.{NetworkLsa}
use Rattle.lsa.specs.declared.body.RouterLsa.{RouterLsa}
use Rattle.routes.specs.Links.{HasLink, IsNetworkLsa, IsRouterLsa, Leads}
use Rattle.routes.specs.declared.node.Node.{Node}
use Rattle.routes.specs.declared.node.Node.TheVariants.{ANetwork, ARouter}
use Rattle.routes.specs.Paths.{IsWay, Way}
use Rattle.routes.specs.declared.offer.Offer.{Offer}
use Rattle.routes.specs.declared.root.Root.{Root}
use Rattle.routes.specs.Contents.{Contents}

-- the network of the address under a contiguous mask
abbrev pub IsPrefix : ℕ → ℕ → Network → Type 0
IsPrefix address mask prefix =
    (prefix.length ≤ 32) × (mask ≡ mask_of prefix.length)
    × (prefix.address ≡ network_address prefix.length address)

abbrev pub intra : Network → ℕ → ℕ → Offer
intra prefix cost hops =
    record {
      prefix = prefix;
      kind = Intra;
      cost = cost;
      distance = 0;
      hops = hops;
      tag = 0;
      originator = 0;
    }

-- ---- within the area (section 16.1)

-- the network is the node's own, or a stub link of the router leads to it, at this cost in addition
-- to the way to the node
abbrev pub Attaches : Contents → Node → Network → ℕ → Type 0
Attaches contents (ANetwork id by) prefix more =
    (lsa : NetworkLsa) × IsNetworkLsa contents id by lsa × IsPrefix id lsa.mask prefix × (more ≡ 0)
Attaches contents (ARouter router) prefix more =
    (link : RouterLink) × HasLink contents router link × (link.kind ≡ Stub)
    × IsPrefix link.link_id link.link_data prefix × (more ≡ link.metric)

-- a reachable node offers what it attaches, with the next hops of the way to it; the root's own
-- networks have only hop 0
pub record OffersWithin (contents : Contents) (root : Root) (o : Offer) : Type 0 where
  pub node : Node
  pub prefix : Network
  pub more : ℕ
  pub attached : Attaches contents node prefix more
  pub way : Way
  pub reached : IsWay (Leads contents root) (ARouter root.router) node way
  pub hops : ℕ
  pub by_root : node ≡ ARouter root.router → hops ≡ 1
  pub by_others : ¬ (node ≡ ARouter root.router) → hops ≡ way.hops
  pub is : o ≡ intra prefix (way.distance + more) hops

-- ---- external destinations (section 16.4)

-- the originator is reachable, and its flags have bit E
pub record ReachesBoundaryRouter (contents : Contents) (root : Root) (originator : ℕ)
    (way : Way) : Type 0 where
  pub lsa : RouterLsa
  pub its : IsRouterLsa contents originator lsa
  pub has_e : bit_and lsa.flags 2 ≡ 2
  pub reached : IsWay (Leads contents root) (ARouter root.router) (ARouter originator) way
