-- The links of the router-LSA.
use Rattle.std.proofs.Common.{◌≡◌, ◌≤◌, ◌*◌, Bool, true, false, cond, List, [], ◌∷◌, ◌++◌, map}
use Rattle.std.proofs.Common.{length, Option, None, Some, sym, arith, length-append, subst}
use Rattle.std.specs.List.{AllByRecursion, flat_map}
use Rattle.std.proofs.lemmas.List.{length-map}
use Rattle.lsa.specs.Ranges.{BodyFits, LinkFits}
use Rattle.lsa.specs.Text.{body_text}
use Rattle.lsa.specs.declared.body.LsaBody.{LsaBody}
use Rattle.lsa.specs.declared.body.LinkKind.TheVariants.{PointToPoint}
use Rattle.area.specs.Kept.{KeptLink}
use Rattle.adjacency.specs.Neighbors.{Neighbor, is_full}
use Rattle.received.specs.Links.{Link}
use Rattle.event_rules.specs.Originations.{links_of, point_to_point, router_body, stub}
use Rattle.event_rules.proofs.Fitting.{router_few}
use Rattle.event_rules.proofs.Rooms.{both}
use Rattle.area.specs.Links.{present}

-- ---- the links fit

few_links : (link : Link) → length (links_of link) ≤ 2
few_links link = by_neighbor link.neighbor
  where
    by_neighbor : (o : Option Neighbor)
        → length (point_to_point link.interface o ++ stub link.interface ∷ []) ≤ 2
    by_neighbor None = omega arith
    by_neighbor (Some n) = by_state (is_full n.state)
      where
        by_state : (b : Bool) → length (cond b (record {
          link_id = n.router;
          link_data = link.interface.address;
          kind = PointToPoint;
          metric = link.interface.cost;
          tos = [];
        } ∷ []) [] ++ stub link.interface ∷ []) ≤ 2
        by_state true = omega arith
        by_state false = omega arith

links_fit : (link : Link) → AllByRecursion LinkFits (links_of link)
links_fit link = by_neighbor link.neighbor
  where
    by_neighbor : (o : Option Neighbor)
        → AllByRecursion LinkFits (point_to_point link.interface o ++ stub link.interface ∷ [])
    by_neighbor None = (omega arith, tt)
    by_neighbor (Some n) = by_state (is_full n.state)
      where
        by_state : (b : Bool) → AllByRecursion LinkFits (cond b (record {
          link_id = n.router;
          link_data = link.interface.address;
          kind = PointToPoint;
          metric = link.interface.cost;
          tos = [];
        } ∷ []) [] ++ stub link.interface ∷ [])
        by_state true = (omega arith, (omega arith, tt))
        by_state false = (omega arith, tt)

all_fit : (links : List Link) → AllByRecursion LinkFits (flat_map links_of links)
all_fit [] = tt
all_fit (l ∷ ls) = both LinkFits (links_of l) (flat_map links_of ls) (links_fit l) (all_fit ls)

all_few : (links : List Link) → length (flat_map links_of links) ≤ 2 * length links
all_few [] = omega arith
all_few (l ∷ ls) = omega (
  arith,
  length-append (links_of l) (flat_map links_of ls),
  few_links l,
  all_few ls,
)

-- for at most 63 interfaces
pub router_fits : (links : List KeptLink) (says : LsaBody)
    → says ≡ router_body (map present links) → length links ≤ 63 → BodyFits says
router_fits links says is few =
    let own : List Link = map present links in
    let fits : BodyFits (router_body own) = record {
      count = omega (arith, all_few own, length-map links present, few);
      links = all_fit own;
    } in
    subst BodyFits (sym is) fits

pub router_size : (links : List KeptLink) (says : LsaBody)
    → says ≡ router_body (map present links) → length links ≤ 63 → length (body_text says) ≤ 65515
router_size links says is few =
    let own : List Link = map present links in
    let fewer : length own ≤ 63 = omega (arith, length-map links present, few) in
    let size : length (body_text (router_body own)) ≤ 65515 = omega (arith, router_few own fewer) in
    subst (λ (b : LsaBody). length (body_text b) ≤ 65515) (sym is) size
