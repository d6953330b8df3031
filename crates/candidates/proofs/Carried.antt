-- What the LSAs offer one by one is what the database offers within and between areas, given the
-- ways by its links.
use Rattle.std.proofs.Common.{◌≡◌, ℕ, ◌+◌, inl, inr, cond, nat_eq, List, Option, Some, None}
use Rattle.std.proofs.Common.{arith, refl, sym, ◌∙◌, ap, subst}
use Rattle.words.specs.Prefixes.{Network}
use Rattle.words.specs.declared.key.Key.{Key}
use Rattle.lsa.specs.declared.body.LsaBody.{LsaBody}
use Rattle.lsa.specs.declared.body.LsaBody.TheVariants as body
use Rattle.lsa.specs.declared.body.SummaryLsa.{SummaryLsa}
use Rattle.routes.specs.Answers.{IsNodeAnswer}
use Rattle.routes.specs.Links.{Leads, network_key, router_key}
use Rattle.routes.specs.Offers.{Attaches, OffersWithin, ReachesBoundaryRouter, intra}
use Rattle.routes.specs.Paths.{IsWay}
use Rattle.routes.specs.Paths.{Way as WalkWay}
use Rattle.routes.specs.Contents.{Contents}
use Rattle.routes.specs.Summaries.{CountsAsSummary, OffersBetween, OffersInside, inter, summary_key}
use Rattle.routes.specs.declared.graph.Way.{Way}
use Rattle.routes.specs.declared.node.Node.{Node}
use Rattle.routes.specs.declared.node.Node.TheVariants.{ANetwork, ARouter}
use Rattle.routes.specs.declared.offer.Offer.{Offer}
use Rattle.routes.specs.declared.root.Root.{Root}
use Rattle.routes.proofs.Determined.{one_way}
use Rattle.std.proofs.Common.{true, false, eqb-true, eq-eqb}
use Rattle.std.proofs.lemmas.Bool.{cases_eq, cases_Bool}
use Rattle.candidates.specs.Borders.{AreFlagged, IsCounted, IsFlagged, IsListed}
use Rattle.candidates.specs.Bodies.{OfContents}
use Rattle.candidates.specs.Sources.{IsInner, OfNetwork, OfRouter, OfSummary, leaving}
use Rattle.candidates.specs.Sources.IsInner.{ByNetwork, ByRouter, BySummary}
use Rattle.candidates.specs.Ways.{AreWays, Ways}
use Rattle.candidates.specs.declared.flagged.Flagged.{Flagged}

abbrev pub as_way : Way → WalkWay
as_way w = record { distance = w.distance; hops = w.hops }

abbrev pub as_found : WalkWay → Way
as_found w = record { distance = w.distance; hops = w.hops }

-- ---- the way by which a router's own networks are offered

own_hops : (root : Root) (router : ℕ) (way : Way) → router ≡ root.router
    → (leaving root router way).hops ≡ 1
own_hops root router way e = ap (λ b. (cond b (record way {
  hops = 1;
}) way).hops) (eq-eqb router root.router e)

other_hops : (root : Root) (router : ℕ) (way : Way) → (router ≡ root.router → ⊥)
    → (leaving root router way).hops ≡ way.hops
other_hops root router way other =
    elim (cases_Bool (nat_eq router root.router)) [
      | inl on ↦ absurd (other (eqb-true router root.router on))
      | inr off ↦ ap (λ b. (cond b (record way { hops = 1 }) way).hops) off
    ]

same_distance : (root : Root) (router : ℕ) (way : Way)
    → (leaving root router way).distance ≡ way.distance
same_distance root router way =
    elim (nat_eq router root.router) as (λ b. (cond b (record way {
      hops = 1;
    }) way).distance ≡ way.distance) [
      | true ↦ refl
      | false ↦ refl
    ]

module _ (contents : Contents) (root : Root) (ways : Ways) (are : AreWays contents root ways)
    (routers : List Flagged) (flagged : AreFlagged contents ways routers) where
  abbrev IsReached : Node → WalkWay → Type 0
  IsReached node way = IsWay (Leads contents root) (ARouter root.router) node way

  reached : (node : Node) (w : Way) → ways node ≡ Some w → IsReached node (as_way w)
  reached node w e = let Is : Option Way → Type 0 = λ a. IsNodeAnswer contents root node a in
      subst Is e (are node)

  by_answer : (node : Node) (answer : Option Way) → IsNodeAnswer contents root node answer
      → (way : WalkWay) → IsReached node way → (w : Way) × (answer ≡ Some w) × (as_way w ≡ way)
  by_answer node None none way is = absurd (none is.distance.0 is.distance.1.is_walk)
  by_answer node (Some w) answer way is =
      (w, refl, one_way (Leads contents root) (ARouter root.router) node (as_way w) way answer is)

  found : (node : Node) (way : WalkWay) → IsReached node way
      → (w : Way) × (ways node ≡ Some w) × (as_way w ≡ way)
  found node way is = by_answer node (ways node) (are node) way is

  -- ---- routers with flags

  pub boundary_forth : (router : ℕ) (w : Way) → IsListed routers router 2 w
      → ReachesBoundaryRouter contents root router (as_way w)
  boundary_forth router w is =
      let k : IsFlagged contents ways router 2 w = (flagged router 2 w (inr refl)).1 is in
      record {
        lsa = k.lsa;
        its = k.its;
        has_e = k.has_flag;
        reached = reached (ARouter router) w k.reached;
      }

  pub boundary_back : (router : ℕ) (way : WalkWay) → ReachesBoundaryRouter contents root router way
      → (w : Way) × IsListed routers router 2 w × (as_way w ≡ way)
  boundary_back router way k =
      let f = found (ARouter router) way k.reached in (
        f.0,
        (flagged router 2 f.0 (inr refl)).0 (record {
          lsa = k.lsa;
          its = k.its;
          has_flag = k.has_e;
          reached = f.1;
        }),
        f.2,
      )

  pub counted_forth : (originator : ℕ) (lsa : SummaryLsa) (border : Way)
      → IsCounted root routers originator lsa border
      → CountsAsSummary contents root originator lsa (as_way border)
  counted_forth originator lsa border k =
      let its : IsFlagged contents ways originator 1 border =
      (flagged originator 1 border (inl refl)).1 k.reaches in
      record {
        reachable = k.reachable;
        of_another = k.of_another;
        reaches = record {
          lsa = its.lsa;
          its = its.its;
          has_b = its.has_flag;
          reached = reached (ARouter originator) border its.reached;
        };
      }

  pub counted_back : (originator : ℕ) (lsa : SummaryLsa) (border : WalkWay)
      → CountsAsSummary contents root originator lsa border
      → (w : Way) × IsCounted root routers originator lsa w × (as_way w ≡ border)
  counted_back originator lsa border k =
      let f = found (ARouter originator) border k.reaches.reached in (
        f.0,
        record {
          reachable = k.reachable;
          of_another = k.of_another;
          reaches = (flagged originator 1 f.0 (inl refl)).0 (record {
            lsa = k.reaches.lsa;
            its = k.reaches.its;
            has_flag = k.reaches.has_b;
            reached = f.1;
          });
        },
        f.2,
      )

  -- ---- within and between areas

  by_router : (key : Key) (says : LsaBody) → contents key ≡ Some says → (o : Offer)
      → OfRouter root ways (key, says) o → OffersWithin contents root o
  by_router key says is o k =
      let router = key.advertising_router in
      let here : key ≡ router_key router = λ i. record {
        ls_type = k.is_type i;
        link_state_id = k.own i;
        advertising_router = router;
      } in
      let its : contents (router_key router) ≡ Some (body.Router k.lsa) =
      ap contents (sym here) ∙ is ∙ ap (λ (b : LsaBody). Some b) k.its in
      let stub = k.offered.2 in
      record {
        node = ARouter router;
        prefix = stub.prefix;
        more = k.offered.0.metric;
        attached = (
          k.offered.0,
          record {
            lsa = k.lsa;
            its = its;
            among = k.offered.1;
          },
          stub.is_stub,
          stub.is_prefix,
          refl,
        );
        way = as_way k.way;
        reached = reached (ARouter router) k.way k.reached;
        hops = (leaving root router k.way).hops;
        by_root = λ e. own_hops root router k.way (cc);
        by_others = λ other. other_hops root router k.way (λ e. other (ap (λ n. ARouter n) e));
        is = stub.is ∙ ap (λ d. intra stub.prefix (d + k.offered.0.metric)
            (leaving root router k.way).hops) (same_distance root router k.way);
      }

  by_network : (key : Key) (says : LsaBody) → contents key ≡ Some says → (o : Offer)
      → OfNetwork ways (key, says) o → OffersWithin contents root o
  by_network key says is o k =
      let id = key.link_state_id in
      let by = key.advertising_router in
      let here : key ≡ network_key id by = λ i. record {
        ls_type = k.is_type i;
        link_state_id = id;
        advertising_router = by;
      } in
      let its : contents (network_key id by) ≡ Some (body.Network k.lsa) =
      ap contents (sym here) ∙ is ∙ ap (λ (b : LsaBody). Some b) k.its in
      let none : k.way.distance ≡ k.way.distance + 0 = omega arith in
      record {
        node = ANetwork id by;
        prefix = k.prefix;
        more = 0;
        attached = (k.lsa, its, k.is_prefix, refl);
        way = as_way k.way;
        reached = reached (ANetwork id by) k.way k.reached;
        hops = k.way.hops;
        by_root = λ e. absurd (cc);
        by_others = λ other. refl;
        is = k.is ∙ ap (λ d. intra k.prefix d k.way.hops) none;
      }

  by_summary : (key : Key) (says : LsaBody) → contents key ≡ Some says → (o : Offer)
      → OfSummary root routers (key, says) o → OffersBetween contents root o
  by_summary key says is o k =
      let id = key.link_state_id in
      let by = key.advertising_router in
      let here : key ≡ summary_key 3 id by = λ i. record {
        ls_type = k.is_type i;
        link_state_id = id;
        advertising_router = by;
      } in
      record {
        id = id;
        originator = by;
        lsa = k.lsa;
        its = ap contents (sym here) ∙ is ∙ ap (λ (b : LsaBody). Some b) k.its;
        border = as_way k.border;
        counts = counted_forth by k.lsa k.border k.counts;
        prefix = k.prefix;
        is_prefix = k.is_prefix;
        is = k.is;
      }

  pub inner_forth : (o : Offer) → OfContents (IsInner root ways routers) contents o
      → OffersInside contents root o
  inner_forth o ((key, says), is, ByRouter k) = inl (by_router key says is o k)
  inner_forth o ((key, says), is, ByNetwork k) = inl (by_network key says is o k)
  inner_forth o ((key, says), is, BySummary k) = inr (by_summary key says is o k)

  of_within : (node : Node) (prefix : Network) (more : ℕ) → Attaches contents node prefix more
      → (way : WalkWay) → IsReached node way → (hops : ℕ) → (node ≡ ARouter root.router → hops ≡ 1)
      → ((node ≡ ARouter root.router → ⊥) → hops ≡ way.hops)
      → OfContents (IsInner root ways routers) contents (intra prefix (way.distance + more) hops)
  of_within (ANetwork id by) prefix more a way is hops by_root by_others =
      let f = found (ANetwork id by) way is in
      let key = network_key id by in
      let more_is : more ≡ 0 = a.3 in
      let cost : way.distance + more ≡ f.0.distance =
      omega (arith, more_is, ap (λ (w : WalkWay). w.distance) f.2) in
      let leaves : hops ≡ f.0.hops = by_others (λ e. absurd (cc))
      ∙ sym (ap (λ (w : WalkWay). w.hops) f.2) in (
        (key, body.Network a.0),
        a.1,
        ByNetwork (record {
          is_type = refl;
          lsa = a.0;
          its = refl;
          way = f.0;
          reached = f.1;
          prefix = prefix;
          is_prefix = a.2;
          is = λ i. intra prefix (cost i) (leaves i);
        }),
      )
  of_within (ARouter router) prefix more a way is hops by_root by_others =
      let f = found (ARouter router) way is in
      let key = router_key router in
      let link = a.0 in
      let cost : way.distance + more ≡ (leaving root router f.0).distance + link.metric =
      omega (arith, a.4, ap (λ (w : WalkWay). w.distance) f.2, same_distance root router f.0) in
      let leaves : hops ≡ (leaving root router f.0).hops =
      elim (cases_eq router root.router) [
        | inl e ↦ by_root (ap (λ n. ARouter n) e) ∙ sym (own_hops root router f.0 e)
        | inr other ↦ by_others (λ e. let same : router ≡ root.router = cc in other same)
            ∙ sym (ap (λ (w : WalkWay). w.hops) f.2) ∙ sym (other_hops root router f.0 other)
      ] in (
        (key, body.Router a.1.lsa),
        a.1.its,
        ByRouter (record {
          is_type = refl;
          own = refl;
          lsa = a.1.lsa;
          its = refl;
          way = f.0;
          reached = f.1;
          offered = (
            link,
            a.1.among,
            record {
              is_stub = a.2;
              prefix = prefix;
              is_prefix = a.3;
              is = λ i. intra prefix (cost i) (leaves i);
            },
          );
        }),
      )

  pub inner_back : (o : Offer) → OffersInside contents root o
      → OfContents (IsInner root ways routers) contents o
  inner_back o (inl k) =
      let P : Offer → Type 0 = λ x. OfContents (IsInner root ways routers) contents x in
      subst P (sym k.is) (of_within k.node k.prefix k.more k.attached k.way k.reached k.hops
      k.by_root k.by_others)
  inner_back o (inr k) =
      let c = counted_back k.originator k.lsa k.border k.counts in
      let key = summary_key 3 k.id k.originator in (
        (key, body.NetworkSummary k.lsa),
        k.its,
        BySummary (record {
          is_type = refl;
          lsa = k.lsa;
          its = refl;
          border = c.0;
          counts = c.1;
          prefix = k.prefix;
          is_prefix = k.is_prefix;
          is = k.is ∙ ap (λ (w : WalkWay). inter k.prefix (w.distance + k.lsa.metric) w.hops)
              (sym c.2);
        }),
      )
