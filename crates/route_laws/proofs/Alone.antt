-- Candidates if each prefix has one best offer, and the offers of a database that is given as a
-- list of copies.
use Rattle.std.proofs.Common.{◌≡◌, ℕ, ◌+◌, ◌<◌, ◌≤◌, ◌⊎◌, inl, inr, Bool, true, false, IsTrue, List}
use Rattle.std.proofs.Common.{filter, arith, refl, sym, ◌∙◌, ap, subst}
use Rattle.std.specs.List.{AllPairs, Contains, list_all}
use Rattle.std.proofs.lemmas.Bool.{cases_eq}
use Rattle.words.specs.Interfaces.{has_interface}
use Rattle.words.specs.Prefixes.{Network, mask_of, network_address}
use Rattle.words.specs.declared.route.Route.{Route}
use Rattle.lsa.specs.declared.body.LsaBody.TheVariants as body
use Rattle.lsa.specs.declared.body.RouterLink.{RouterLink}
use Rattle.lsa.specs.declared.body.LinkKind.{LinkKind}
use Rattle.lsa.specs.declared.body.LinkKind.TheVariants.{PointToPoint, Stub, Transit, Virtual}
use Rattle.routes.specs.Candidates.{AreCandidates, IsCandidate, Offers}
use Rattle.routes.specs.Routes.IsNoLater.{ByTag}
use Rattle.routes.specs.Links.{Leads}
use Rattle.routes.specs.declared.node.Node.{Node}
use Rattle.routes.specs.declared.node.Node.TheVariants.{ANetwork, ARouter}
use Rattle.routes.specs.Offers.{Attaches, OffersWithin, intra}
use Rattle.routes.specs.declared.offer.Offer.{Offer}
use Rattle.routes.specs.Routes.IsNoWorse.{ByCost, ByDistance, ByKind}
use Rattle.routes.specs.Paths.{IsWay, Way}
use Rattle.route_laws.specs.Worked.{Entries, database}
use Rattle.routes.specs.declared.root.Root.{Root}
use Rattle.routes.proofs.Determined.{one_candidate, one_way}
use Rattle.routes.proofs.Prefixes.{one_prefix}
use Rattle.route_laws.proofs.Entries.{all_pass, has_link, is_no_network, is_said, kept, links_of}
use Rattle.route_laws.proofs.Entries.{sayings}
pub use Rattle.routes.proofs.OneMore.{no_worse_itself}
pub use Rattle.routes.specs.Best.{route_of}
use Rattle.routes.specs.Contents.{Contents, contents_at}
use Rattle.routes.specs.Routes.{IsBefore, IsBestAmong, IsNoLater, IsNoWorse, IsRouteAmong, rank}

-- ---- candidates

-- of the same kind, a costs less than b
pub dearer : (a b : Offer) → rank a.kind ≡ rank b.kind → a.cost < b.cost → IsNoWorse b a → ⊥
dearer a b e less (ByKind p) = omega (arith, p, e)
dearer a b e less (ByCost p q) = omega (arith, q, less)
dearer a b e less (ByDistance p q r) = omega (arith, q, less)

-- another offer for its prefix is the same one, or is worse
abbrev pub IsAloneAmong : (Offer → Type 0) → Offer → Type 0
IsAloneAmong IsOffered o = (other : Offer) → IsOffered other → other.prefix ≡ o.prefix → (other ≡ o)
    ⊎ (IsNoWorse o other × (IsNoWorse other o → ⊥))

abbrev pub IsAlone : Contents → Root → Offer → Type 0
IsAlone contents root = IsAloneAmong (Offers contents root)

pub alone_among : (IsOffered : Offer → Type 0) (o : Offer) → IsOffered o → IsAloneAmong IsOffered o
    → IsRouteAmong IsOffered (route_of o)
alone_among IsOffered o offered only =
    let best : IsBestAmong IsOffered o.prefix o = record {
      offered = offered;
      is_for = refl;
      best = λ other offers for.
          elim (only other offers for) [
            | inl e ↦ let P : Offer → Type 0 = λ x. IsNoWorse o x in
                subst P (sym e) (no_worse_itself o)
            | inr worse ↦ worse.0
          ];
    } in
    let no_other : (other : Offer) → IsBestAmong IsOffered o.prefix other → other ≡ o = λ other is.
    elim (only other is.offered is.is_for) [
      | inl e ↦ e
      | inr worse ↦ absurd (worse.1 (is.best o offered refl))
    ] in
    record {
      first = o;
      is_best = best;
      earliest = λ other is. let P : Offer → Type 0 = λ x. IsNoLater o x in
          let itself : IsNoLater o o = ByTag refl (omega arith) in
          subst P (sym (no_other other is)) itself;
      kind = refl;
      cost = refl;
      distance = refl;
      tag = refl;
      hops = λ i. (
        (λ t. (o, best, t)),
        (λ h. let P : Offer → Type 0 = λ x. IsTrue (has_interface x.hops i) in
            subst P (no_other h.0 h.1) h.2),
      );
    }

pub alone : (contents : Contents) (root : Root) (o : Offer) → Offers contents root o
    → IsAlone contents root o
    → IsCandidate contents root (route_of o)
alone contents root o offered only = alone_among (Offers contents root) o offered only

-- routes that are candidates, one for each prefix that is offered
pub all_candidates : (contents : Contents) (root : Root) (routes : List Route)
    → ((r : Route) → Contains routes r → IsCandidate contents root r)
    → ((o : Offer) → Offers contents root o → (s : Route) × Contains routes s
    × (s.prefix ≡ o.prefix)) → AllPairs
    (λ (a : Route) (b : Route). IsBefore a.prefix b.prefix) routes
    → AreCandidates contents root routes
all_candidates contents root routes sound offered ascending = record {
  each = λ r. (
    sound r,
    (λ k.
        let s = offered k.first k.is_best.offered in
        let same : s.0 ≡ r = one_candidate contents root s.0 r (sound s.0 s.1) k
        (s.2 ∙ k.is_best.is_for) in
        let P : Route → Type 0 = λ x. Contains routes x in
        subst P same s.1),
  );
  ascending = ascending;
}

-- ---- the offers within the area

abbrev pub kind_is_stub : LinkKind → Bool
kind_is_stub Stub = true
kind_is_stub PointToPoint = false
kind_is_stub Transit = false
kind_is_stub Virtual = false

abbrev pub is_stub : ℕ × RouterLink → Bool
is_stub x = kind_is_stub x.1.kind

-- a stub link of a router whose way is known
pub record StubOffer (contents : Contents) (root : Root) (router : ℕ) (l : RouterLink) (length : ℕ)
    (o : Offer) :
    Type 0 where
  pub way : Way
  pub reached : IsWay (Leads contents root) (ARouter root.router) (ARouter router) way
  pub within : length ≤ 32
  pub mask : l.link_data ≡ mask_of length
  pub hops : ℕ
  pub by_root : router ≡ root.router → hops ≡ 1
  pub by_others : (router ≡ root.router → ⊥) → hops ≡ way.hops
  pub is : intra (record {
    address = network_address length l.link_id;
    length = length;
  }) (way.distance + l.metric) hops
      ≡ o

module _ (moment : ℕ) (es : Entries) (root : Root) (P : Offer → Type 0) where
  -- if each stub link has an offer with the property P, all offers within the area have it
  abbrev pub Known : ℕ → RouterLink → Type 0
  Known router l = (length : ℕ) × (o : Offer)
      × StubOffer (contents_at moment (database es)) root router l length o × P o

  -- an offer that comes of a stub link whose offer is known
  pub by_stub : (router : ℕ) (prefix : Network) (more : ℕ)
      (a : Attaches (contents_at moment (database es)) (ARouter router) prefix more)
      → Known router a.0 → (way : Way)
      → IsWay (Leads (contents_at moment (database es)) root) (ARouter root.router)
      (ARouter router) way
      → (hops : ℕ) → (ARouter router ≡ ARouter root.router → hops ≡ 1)
      → ((ARouter router ≡ ARouter root.router → ⊥) → hops ≡ way.hops)
      → P (intra prefix (way.distance + more) hops)
  by_stub router prefix more a k way reached hops by_root by_others =
      let l : RouterLink = a.0 in
      let p : record {
        address = network_address k.0 l.link_id;
        length = k.0;
      } ≡ prefix =
      one_prefix l.link_id l.link_data k.0 prefix k.2.within k.2.mask a.3 in
      let w : k.2.way ≡ way = one_way (Leads (contents_at moment (database es)) root)
      (ARouter root.router) (ARouter router) k.2.way way k.2.reached reached in
      let m : l.metric ≡ more = sym a.4 in
      let h : k.2.hops ≡ hops =
      elim (cases_eq router root.router) [
        | inl e ↦ k.2.by_root e ∙ sym (by_root (ap (λ n. ARouter n) e))
        | inr other ↦ k.2.by_others other ∙ ap (λ (x : Way). x.hops) w
            ∙ sym (by_others (λ e. let same : router ≡ root.router = cc in other same))
      ] in
      let same : k.1 ≡ intra prefix (way.distance + more) hops = sym k.2.is
      ∙ (λ i. intra (p i) ((w i).distance + m i) (h i)) in
      subst P same k.3

  by_node : list_all is_no_network (sayings es) ≡ true
      → ((router : ℕ) (l : RouterLink)
      → Contains (filter is_stub (links_of (sayings es))) (router, l) → Known router l)
      → (node : Node) (prefix : Network) (more : ℕ)
      → Attaches (contents_at moment (database es)) node prefix more → (way : Way)
      → IsWay (Leads (contents_at moment (database es)) root) (ARouter root.router) node
      way → (hops : ℕ) → (node ≡ ARouter root.router → hops ≡ 1)
      → ((node ≡ ARouter root.router → ⊥) → hops ≡ way.hops)
      → P (intra prefix (way.distance + more) hops)
  by_node routers known (ANetwork id by) prefix more a way reached hops by_root by_others =
      absurd (let e : false ≡ true = all_pass is_no_network (sayings es) routers (
        record {
          ls_type = 2;
          link_state_id = id;
          advertising_router = by;
        },
        body.Network a.0,
      )
      (is_said moment es _ (body.Network a.0) a.1) in cc)
  by_node routers known (ARouter router) prefix more a way reached hops by_root by_others =
      by_stub router prefix more a (known router a.0 (kept is_stub (links_of (sayings es))
      (router, a.0) (has_link moment es router a.0 a.1) (ap kind_is_stub a.2))) way reached hops
      by_root by_others

  pub each_within : list_all is_no_network (sayings es) ≡ true
      → ((router : ℕ) (l : RouterLink)
      → Contains (filter is_stub (links_of (sayings es))) (router, l) → Known router l)
      → (o : Offer) → OffersWithin (contents_at moment (database es)) root o → P o
  each_within routers known o x =
      subst P (sym x.is) (by_node routers known x.node x.prefix x.more x.attached x.way x.reached
      x.hops x.by_root x.by_others)
