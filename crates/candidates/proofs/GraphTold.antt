-- The entries of all nodes are exactly what their LSAs advertise.
use Rattle.std.proofs.Common.{◌≡◌, ℕ, ◌+◌, ◌<◌, ◌≤◌, inl, inr, List, [], length, ◌↔◌, Some}
use Rattle.std.proofs.Common.{slice_get, refl, sym, ◌∙◌, ap, subst, arith}
use Rattle.std.proofs.lemmas.Bool.{cases_lt}
use Rattle.std.proofs.lemmas.Option.{none-some, same_Some, slice_get_within}
use Rattle.std.specs.List.{Contains}
use Rattle.std.specs.List.Sorted.{IsSorted}
use Rattle.lsa.specs.declared.body.RouterLink.{RouterLink}
use Rattle.lsa.specs.declared.body.LinkKind.{LinkKind}
use Rattle.lsa.specs.declared.body.LinkKind.TheVariants as kinds
use Rattle.lsa.specs.declared.body.NetworkLsa.{NetworkLsa}
use Rattle.lsa.specs.declared.body.RouterLsa.{RouterLsa}
use Rattle.routes.specs.Links.{HasLink, IsNetworkLsa, IsRouterLsa, LinksBack}
use Rattle.routes.specs.Contents.{Contents}
use Rattle.routes.specs.declared.node.Node.{Node}
use Rattle.routes.specs.declared.node.Node.TheVariants.{ANetwork, ARouter}
use Rattle.routes.proofs.Lists.{of_empty}
use Rattle.candidates.specs.Entries.{AreEntries, AreOrdered, HasEntry, HasLinkOf, HasMetric}
use Rattle.candidates.specs.Entries.{IsAdvertisedAs, TellsOf, attached_entry, entry_cmp, entry_of}
use Rattle.candidates.specs.Entries.{link_entry, rank, with_kind}
use Rattle.candidates.specs.Graphs.{Adds, OfEach, StandsAt}
use Rattle.candidates.specs.Nodes.{AreNodes, network_in, network_lsa, router_in, router_lsa}
use Rattle.candidates.specs.declared.entry.AdvertisedLink.{AdvertisedLink}
use Rattle.candidates.specs.declared.entry.EntryKind.{EntryKind}
use Rattle.candidates.specs.declared.entry.EntryKind.TheVariants.{Attached, PointToPoint, Transit}
use Rattle.candidates.proofs.KeyNodes.{network_said, router_said}
use Rattle.candidates.proofs.Lists.{adds_both, adds_none, adds_same}
use Rattle.candidates.proofs.GraphWhole.{placed}

-- ---- what one LSA advertises

module _ (contents : Contents) (place : ℕ) where
  pub router_tells : (router : ℕ) (lsa : RouterLsa) (xs ys : List AdvertisedLink)
      → router_lsa contents router ≡ Some lsa
      → Adds (OfEach (λ (link : RouterLink) (entry : AdvertisedLink). entry_of router link
      ≡ Some entry)
      lsa.links) xs ys → Adds (TellsOf contents (ARouter router) place) xs ys
  router_tells router lsa xs ys is a =
      let its : IsRouterLsa contents router lsa = router_said _ lsa is in
      adds_same (OfEach (λ (link : RouterLink) (entry : AdvertisedLink). entry_of router link
      ≡ Some entry)
      lsa.links) (TellsOf contents (ARouter router) place) xs ys (λ x o. (
        o.0,
        record {
          lsa = lsa;
          its = its;
          among = o.1;
        },
        o.2,
      ))
      (λ x t.
      let L : RouterLsa → Type 0 = λ l. Contains l.links t.0 in
      let same : t.1.lsa ≡ lsa = same_Some t.1.lsa lsa (sym (ap router_in t.1.its) ∙ is) in
      (t.0, subst L same t.1.among, t.2)) a

  pub network_tells : (id by : ℕ) (lsa : NetworkLsa) (xs ys : List AdvertisedLink)
      → network_lsa contents id by ≡ Some lsa
      → Adds (OfEach (λ (router : ℕ) (entry : AdvertisedLink). entry
      ≡ attached_entry id place router)
      lsa.attached) xs ys → Adds (TellsOf contents (ANetwork id by) place) xs ys
  network_tells id by lsa xs ys is a =
      let its : IsNetworkLsa contents id by lsa = network_said _ lsa is in
      adds_same (OfEach (λ (router : ℕ) (entry : AdvertisedLink). entry
      ≡ attached_entry id place router)
      lsa.attached) (TellsOf contents (ANetwork id by) place) xs ys
      (λ x o.
      let same : o.0 ≡ x.router = sym (ap (λ (e : AdvertisedLink). e.router) o.2) in
      let P : ℕ → Type 0 = λ r. Contains lsa.attached r in (
        record {
          lsa = lsa;
          its = its;
          among = subst P same o.1;
        },
        o.2 ∙ ap (λ (r : ℕ). attached_entry id place r) same,
      ))
      (λ x t.
      let L : NetworkLsa → Type 0 = λ l. Contains l.attached x.router in
      let same : t.0.lsa ≡ lsa = same_Some t.0.lsa lsa (sym (ap network_in t.0.its) ∙ is) in
      (x.router, subst L same t.0.among, t.1)) a

-- ---- what the LSAs of the first nodes advertise

module _ (contents : Contents) (nodes : List Node) where
  abbrev pub FromBelow : ℕ → AdvertisedLink → Type 0
  FromBelow n entry = (place : ℕ) × (node : Node) × StandsAt nodes node place × (place < n)
      × TellsOf contents node place entry

  pub below_none : (xs : List AdvertisedLink) → Adds (FromBelow 0) xs xs
  below_none xs = adds_none (FromBelow 0) xs (λ x o. omega (arith, o.3))

  pub below_more : (i : ℕ) (node : Node) (xs ys zs : List AdvertisedLink) → StandsAt nodes node i
      → Adds (FromBelow i) xs ys → Adds (TellsOf contents node i) ys zs → Adds (FromBelow (i + 1))
      xs zs
  below_more i node xs ys zs here a b =
      adds_both (FromBelow i) (TellsOf contents node i) (FromBelow (i + 1)) xs ys zs a b
      (λ x o. elim (cases_lt o.0 i) [
        | inl lt ↦ inl (o.0, o.1, o.2, lt, o.4)
        | inr past ↦
            let at : o.0 ≡ i = omega (arith, o.3, past) in
            let P : ℕ → Type 0 = λ k. slice_get nodes k ≡ Some o.1 in
            let same : o.1 ≡ node = same_Some o.1 node (sym (subst P at o.2) ∙ here) in
            let K : ℕ → Type 0 = λ k. TellsOf contents o.1 k x in
            let N : Node → Type 0 = λ n. TellsOf contents n i x in
            inr (subst N same (subst K at o.4))
      ])
      (λ x o. (o.0, o.1, o.2, omega (arith, o.3), o.4))
      (λ x t. (i, node, here, omega arith, t))

  -- ---- and what entries say on their own

  told_link : (router : ℕ) (link : RouterLink) → HasLink contents router link → (kind : LinkKind)
      → link.kind ≡ kind → (entry : AdvertisedLink) → link_entry kind router link ≡ Some entry
      → IsAdvertisedAs contents nodes entry.kind entry
  told_link router link has kinds.PointToPoint is entry e =
      let P : AdvertisedLink → Type 0 = λ x. IsAdvertisedAs contents nodes x.kind x in
      subst P (same_Some (with_kind router PointToPoint link) entry e)
      ((link, has, is, refl, refl), refl)
  told_link router link has kinds.Transit is entry e =
      let P : AdvertisedLink → Type 0 = λ x. IsAdvertisedAs contents nodes x.kind x in
      subst P (same_Some (with_kind router Transit link) entry e)
      ((link, has, is, refl, refl), refl)
  told_link router link has kinds.Stub is entry e = absurd (none-some entry e)
  told_link router link has kinds.Virtual is entry e = absurd (none-some entry e)

  told_of : (place : ℕ) (node : Node) (entry : AdvertisedLink) → StandsAt nodes node place
      → TellsOf contents node place entry → IsAdvertisedAs contents nodes entry.kind entry
  told_of place (ARouter router) entry stands t = told_link router t.0 t.1 t.0.kind refl entry t.2
  told_of place (ANetwork id by) entry stands t =
      let P : AdvertisedLink → Type 0 = λ x. IsAdvertisedAs contents nodes x.kind x in
      subst P (sym t.1) ((by, stands, t.0), refl)

  module _ (are : AreNodes contents nodes) where
    abbrev Source : AdvertisedLink → Type 0
    Source entry = (place : ℕ) × (node : Node) × StandsAt nodes node place
        × TellsOf contents node place entry

    source : (entry : AdvertisedLink) (kind : EntryKind) → entry.kind ≡ kind
        → IsAdvertisedAs contents nodes kind entry → Source entry
    source entry PointToPoint is t =
        let h = t.0 in
        let at = placed nodes (ARouter entry.router)
        ((are.each (ARouter entry.router)).1 (h.1.lsa, h.1.its)) in
        let k : PointToPoint ≡ entry.kind = sym is in
        let p : 0 ≡ entry.place = sym t.1 in
        let n = h.3 in
        let m = h.4 in
        let same : with_kind entry.router PointToPoint h.0 ≡ entry = λ i. record {
          router = entry.router;
          kind = k i;
          id = n i;
          metric = m i;
          place = p i;
        } in (
          at.0,
          ARouter entry.router,
          at.1,
          (
            h.0,
            h.1,
            ap (λ (l : LinkKind). link_entry l entry.router h.0) h.2
                ∙ ap (λ (x : AdvertisedLink). Some x) same,
          ),
        )
    source entry Transit is t =
        let h = t.0 in
        let at = placed nodes (ARouter entry.router)
        ((are.each (ARouter entry.router)).1 (h.1.lsa, h.1.its)) in
        let k : Transit ≡ entry.kind = sym is in
        let p : 0 ≡ entry.place = sym t.1 in
        let n = h.3 in
        let m = h.4 in
        let same : with_kind entry.router Transit h.0 ≡ entry = λ i. record {
          router = entry.router;
          kind = k i;
          id = n i;
          metric = m i;
          place = p i;
        } in (
          at.0,
          ARouter entry.router,
          at.1,
          (
            h.0,
            h.1,
            ap (λ (l : LinkKind). link_entry l entry.router h.0) h.2
                ∙ ap (λ (x : AdvertisedLink). Some x) same,
          ),
        )
    source entry Attached is t =
        let l = t.0 in
        let m = t.1 in
        let same : entry ≡ attached_entry entry.id entry.place entry.router = λ i. record {
          router = entry.router;
          kind = is i;
          id = entry.id;
          metric = m i;
          place = entry.place;
        } in
        (entry.place, ANetwork entry.id l.0, l.1, (l.2, same))

    pub are_entries : (n : ℕ) (raw entries : List AdvertisedLink) → length nodes ≤ n
        → Adds (FromBelow n) [] raw → ((entry : AdvertisedLink)
        → Contains entries entry ↔ Contains raw entry) → IsSorted entry_cmp entries
        → AreEntries contents nodes entries
    are_entries n raw entries done a same sorted = record {
      each = λ entry. (
        (λ among. elim ((a entry).0 ((same entry).0 among)) [
          | inl none ↦ absurd (of_empty entry none)
          | inr o ↦ told_of o.0 o.1 entry o.2 o.4
        ]),
        (λ t.
            let s = source entry entry.kind refl t in
            (same entry).1 ((a entry).1 (inr
            (s.0, s.1, s.2, omega (arith, done, slice_get_within nodes s.0 s.1 s.2), s.3)))),
      );
      sorted = sorted;
    }

-- ---- what entries say of links back

module _ (contents : Contents) (nodes : List Node) (entries : List AdvertisedLink)
    (advertised : AreEntries contents nodes entries) where
  pub transit_of : (router id metric : ℕ) → HasMetric entries router Transit id metric
      → HasLinkOf contents router kinds.Transit id metric
  transit_of router id metric has = ((advertised.each (record {
    router = router;
    kind = Transit;
    id = id;
    metric = metric;
    place = has.0;
  })).0 has.1).0

  pub of_transit : (router id metric : ℕ) → HasLinkOf contents router kinds.Transit id metric
      → HasMetric entries router Transit id metric
  of_transit router id metric has = (
    0,
    (advertised.each (record {
      router = router;
      kind = Transit;
      id = id;
      metric = metric;
      place = 0;
    })).1 (has, refl),
  )

  pub transit_back : (router id : ℕ) → HasEntry entries router Transit id
      → LinksBack contents router kinds.Transit id
  transit_back router id has = let h = transit_of router id has.0 has.1 in (h.0, h.1, h.2, h.3)

  pub back_transit : (router id : ℕ) → LinksBack contents router kinds.Transit id
      → HasEntry entries router Transit id
  back_transit router id b = (
    b.0.metric,
    of_transit router id b.0.metric (b.0, b.1, b.2, b.3, refl),
  )

  pub point_back : (router id : ℕ) → HasEntry entries router PointToPoint id
      → LinksBack contents router kinds.PointToPoint id
  point_back router id has =
      let h = ((advertised.each (record {
        router = router;
        kind = PointToPoint;
        id = id;
        metric = has.0;
        place = has.1.0;
      })).0 has.1.1).0 in
      (h.0, h.1, h.2, h.3)

  pub back_point : (router id : ℕ) → LinksBack contents router kinds.PointToPoint id
      → HasEntry entries router PointToPoint id
  back_point router id b = (
    b.0.metric,
    (
      0,
      (advertised.each (record {
        router = router;
        kind = PointToPoint;
        id = id;
        metric = b.0.metric;
        place = 0;
      })).1 ((b.0, b.1, b.2, b.3, refl), refl),
    ),
  )

  has_lsa : (entry : AdvertisedLink) (kind : EntryKind) → AreNodes contents nodes
      → IsAdvertisedAs contents nodes kind entry → rank kind < 2 → Contains nodes
      (ARouter entry.router)
  has_lsa entry PointToPoint are t low = (are.each (ARouter entry.router)).1 (t.0.1.lsa, t.0.1.its)
  has_lsa entry Transit are t low = (are.each (ARouter entry.router)).1 (t.0.1.lsa, t.0.1.its)
  has_lsa entry Attached are t low = absurd (omega (arith, low))

  pub ordered : AreNodes contents nodes → AreOrdered nodes entries
  ordered are = record {
    ascend = are.ascend;
    sorted = advertised.sorted;
    routers = λ entry among low. has_lsa entry entry.kind are ((advertised.each entry).0 among) low;
  }
