-- A forwarding address has only one way, and so has an AS boundary router.
use Rattle.std.proofs.Common.{◌≡◌, ℕ, ◌≤◌, arith, sym, ◌∙◌, ap, subst}
use Rattle.words.specs.Prefixes.{network_address}
use Rattle.words.specs.declared.route.Route.{Route}
use Rattle.routes.specs.Paths.{Way}
use Rattle.routes.specs.Routes.{IsForwarded}
use Rattle.routes.specs.declared.offer.Offer.{Offer}
use Rattle.routes.proofs.Determined.{one_route, one_way, same_hops}
use Rattle.route_laws.specs.Laws.{BoundaryWaysAreDetermined, ForwardingIsDetermined}
use Rattle.routes.specs.Summaries.{IsAdvertised, IsWayBetween, OffersInside}
use Rattle.routes.specs.Summaries.IsBoundaryWay.{Inside, Outside}
use Rattle.routes.specs.Links.{Leads}
use Rattle.routes.specs.declared.node.Node.TheVariants.{ARouter}
use Rattle.routes.specs.Contents.{Contents}
use Rattle.routes.specs.declared.root.Root.{Root}

-- whatever is offered
pub one_forward : (IsOffered : Offer → Type 0) (address : ℕ) (a b : Way)
    → IsForwarded IsOffered address a → IsForwarded IsOffered address b → a ≡ b
one_forward IsOffered address a b p q =
    let longer : p.by.prefix.length ≤ q.by.prefix.length = q.longest p.by p.is_route p.under in
    let shorter : q.by.prefix.length ≤ p.by.prefix.length = p.longest q.by q.is_route q.under in
    let length : p.by.prefix.length ≡ q.by.prefix.length = omega (arith, longer, shorter) in
    let at : p.by.prefix.address ≡ q.by.prefix.address = sym p.under
    ∙ ap (λ n. network_address n address) length ∙ q.under in
    let prefix : p.by.prefix ≡ q.by.prefix = λ i. record { address = at i; length = length i } in
    let same : p.by ≡ q.by = one_route IsOffered p.by q.by p.is_route q.is_route prefix in
    let way_of : Route → Way = λ r. record { distance = r.cost; hops = r.hops } in
    p.is ∙ ap way_of same ∙ sym q.is

pub forwarding : ForwardingIsDetermined
forwarding contents root = one_forward (OffersInside contents root)

-- ---- AS boundary routers

one_between : (contents : Contents) (root : Root) (router : ℕ) (a b : Way)
    → IsWayBetween contents root router a
    → IsWayBetween contents root router b → a ≡ b
one_between contents root router a b p q =
    let there : a.distance ≤ b.distance = p.least b.distance q.border q.advertised in
    let here : b.distance ≤ a.distance = q.least a.distance p.border p.advertised in
    let distance : a.distance ≡ b.distance = omega (arith, there, here) in
    let hops : a.hops ≡ b.hops = same_hops a.hops b.hops
    (λ i t. let h = (p.hops i).0 t in
    (q.hops i).1 (h.0, subst (λ d. IsAdvertised contents root router d h.0) distance h.1, h.2))
    (λ i t. let h = (q.hops i).0 t in
    (p.hops i).1 (
      h.0,
      subst (λ d. IsAdvertised contents root router d h.0) (sym distance) h.1,
      h.2,
    )) in
    λ i. record { distance = distance i; hops = hops i }

pub boundary : BoundaryWaysAreDetermined
boundary contents root router a b (Inside p) (Inside q) =
    one_way (Leads contents root) (ARouter root.router) (ARouter router) a b p.reached q.reached
boundary contents root router a b (Inside p) (Outside none q) = absurd (none a p)
boundary contents root router a b (Outside none p) (Inside q) = absurd (none b q)
boundary contents root router a b (Outside none p) (Outside none_too q) =
    one_between contents root router a b p q
