-- The links that are looked up for a node are those of the graph from it.
use Rattle.std.proofs.Common.{◌≡◌, ◌<◌, ◌≤◌, ◌+◌, ◌++◌, ◌∷◌, ℕ, inl, inr, List, [], None}
use Rattle.std.proofs.Common.{Some, refl, sym, subst, ◌∙◌, ap, arith}
use Rattle.std.proofs.lemmas.Bool.{cases_lt}
use Rattle.std.proofs.lemmas.Option.{none-some, same_Some}
use Rattle.std.specs.List.{Contains}
use Rattle.lsa.specs.declared.body.RouterLink.{RouterLink}
use Rattle.lsa.specs.declared.body.LinkKind.{LinkKind}
use Rattle.lsa.specs.declared.body.LinkKind.TheVariants.{PointToPoint, Transit}
use Rattle.lsa.specs.declared.body.NetworkLsa.{NetworkLsa}
use Rattle.lsa.specs.declared.body.RouterLsa.{RouterLsa}
use Rattle.candidates.proofs.KeyNodes.{network_said, router_said}
use Rattle.candidates.proofs.Lists.{adds_both, adds_none, adds_one, adds_same}
use Rattle.candidates.proofs.GraphWhole.{one_place}
use Rattle.candidates.specs.Entries.{IsListedAt}
use Rattle.candidates.specs.Graphs.{Adds, AreLinksFrom, IsLinkFrom, OfEach, StandsAt}
use Rattle.candidates.specs.Links.{IsExitTo}
use Rattle.candidates.specs.Nodes.{Ascend, network_in, network_lsa, router_in, router_lsa}
use Rattle.area_routes.specs.GraphLinks.{HasLinkTo, IsAttached, IsNeighbor, IsToEnd, IsToNeighbor}
use Rattle.area_routes.specs.GraphLinks.{IsToNetwork, IsToNetworkAt}
use Rattle.routes.proofs.Lists.{of_empty}
use Rattle.routes.specs.Links.{Counts, IsRouterLsa, LeadsTo, LinksBack, ListsRouter}
use Rattle.routes.specs.Contents.{Contents}
use Rattle.routes.specs.declared.graph.VertexLink.{VertexLink}
use Rattle.routes.specs.declared.node.Node.{Node}
use Rattle.routes.specs.declared.node.Node.TheVariants.{ANetwork, ARouter}
use Rattle.routes.specs.declared.root.Root.{Root}

module _ (contents : Contents) (router : ℕ) (lsa : RouterLsa)
    (is : router_lsa contents router ≡ Some lsa) where
  pub its : IsRouterLsa contents router lsa
  its = router_said _ lsa is

  -- it is the one LSA of the router
  pub the_lsa : (other : RouterLsa) → IsRouterLsa contents router other → other ≡ lsa
  the_lsa other says = same_Some other lsa (sym (ap router_in says) ∙ is)

-- ---- links back

module _ (contents : Contents) (router : ℕ) (kind : LinkKind) (id : ℕ) where
  pub back_is : (lsa : RouterLsa) → router_lsa contents router ≡ Some lsa → HasLinkTo lsa kind id
      → LinksBack contents router kind id
  back_is lsa is n = (
    n.0,
    record {
      lsa = lsa;
      its = its contents router lsa is;
      among = n.1;
    },
    n.2,
    n.3,
  )

  pub back_names : (lsa : RouterLsa) → router_lsa contents router ≡ Some lsa
      → LinksBack contents router kind id → HasLinkTo lsa kind id
  back_names lsa is b = (
    b.0,
    subst (λ (l : RouterLsa). Contains l.links b.0)
        (the_lsa contents router lsa is b.1.lsa b.1.its) b.1.among,
    b.2,
    b.3,
  )

-- ---- lists of networks

module _ (contents : Contents) (id by router : ℕ) where
  pub never_lists : network_lsa contents id by ≡ None → ListsRouter contents id by router → ⊥
  never_lists is l = none-some l.lsa (sym is ∙ ap network_in l.its)

  pub lists_is : (lsa : NetworkLsa) → network_lsa contents id by ≡ Some lsa
      → Contains lsa.attached router → ListsRouter contents id by router
  lists_is lsa is among = record { lsa = lsa; its = network_said _ lsa is; among = among }

  pub is_listed : (lsa : NetworkLsa) → network_lsa contents id by ≡ Some lsa
      → ListsRouter contents id by router → Contains lsa.attached router
  is_listed lsa is l =
      subst (λ (n : NetworkLsa). Contains n.attached router)
      (same_Some l.lsa lsa (sym (ap network_in l.its) ∙ is)) l.among

-- one network stands at an index
pub one_network : (nodes : List Node) (id by other place : ℕ)
    → StandsAt nodes (ANetwork id by) place → StandsAt nodes (ANetwork id other) place → by ≡ other
one_network nodes id by other place p q =
    let same : ANetwork id by ≡ ANetwork id other =
    same_Some (ANetwork id by) (ANetwork id other) (sym p ∙ q) in cc

pub is_no_transit : (advertised : RouterLink) → advertised.kind ≡ PointToPoint
    → advertised.kind ≡ Transit → ⊥
is_no_transit advertised p q = let same : PointToPoint ≡ Transit = sym p ∙ q in cc

pub is_no_point : (advertised : RouterLink) → advertised.kind ≡ Transit
    → advertised.kind ≡ PointToPoint → ⊥
is_no_point advertised p q = is_no_transit advertised q p

-- ---- one link to a router

module _ (contents : Contents) (root : Root) (nodes : List Node) (router : ℕ)
    (advertised : RouterLink)
  where
    pub no_neighbor : (xs : List VertexLink)
        → IsNeighbor contents nodes advertised.link_id PointToPoint router None
        → Adds (IsToNeighbor contents root nodes router advertised) xs xs
    no_neighbor xs none = adds_none (IsToNeighbor contents root nodes router advertised) xs
        (λ x t. none t.back)

    pub to_neighbor : (to : ℕ) (xs ys : List VertexLink) → Ascend nodes
        → advertised.kind ≡ PointToPoint → 0 < advertised.metric
        → IsNeighbor contents nodes advertised.link_id PointToPoint router (Some to)
        → Adds (IsExitTo root router to advertised.metric advertised.link_data) xs ys
        → Adds (IsToNeighbor contents root nodes router advertised) xs ys
    to_neighbor to xs ys ascend kind counts at a =
        adds_same (IsExitTo root router to advertised.metric advertised.link_data)
        (IsToNeighbor contents root nodes router advertised) xs ys
        (λ x e.
        let P : ℕ → Type 0 = λ k. StandsAt nodes (ARouter advertised.link_id) k in
        record {
          is_kind = kind;
          counts = counts;
          stands = subst P (sym e.0) at.0;
          back = at.1;
          leads = (refl, e.1, e.2);
        })
        (λ x t. (
          one_place nodes ascend (ARouter advertised.link_id) x.to to t.stands at.0,
          t.leads.1,
          t.leads.2,
        )) a

    -- ---- or to networks

    module _ (place : ℕ) where
      pub no_network : (xs : List VertexLink)
          → (IsListedAt contents nodes router advertised.link_id place → ⊥)
          → Adds (IsToNetworkAt contents root nodes router advertised place) xs xs
      no_network xs none =
          adds_none (IsToNetworkAt contents root nodes router advertised place) xs
          (λ x t. none (subst (IsListedAt contents nodes router advertised.link_id) t.0 t.1.listed))

      pub to_network : (xs ys : List VertexLink) → advertised.kind ≡ Transit → 0 < advertised.metric
          → IsListedAt contents nodes router advertised.link_id place
          → Adds (IsExitTo root router place advertised.metric advertised.link_data) xs ys
          → Adds (IsToNetworkAt contents root nodes router advertised place) xs ys
      to_network xs ys kind counts listed a =
          adds_same (IsExitTo root router place advertised.metric advertised.link_data)
          (IsToNetworkAt contents root nodes router advertised place) xs ys
          (λ x e. (
            e.0,
            record {
              is_kind = kind;
              counts = counts;
              listed = subst (IsListedAt contents nodes router advertised.link_id) (sym e.0) listed;
              leads = (refl, e.1, e.2);
            },
          ))
          (λ x t. (t.0, t.1.leads.1, t.1.leads.2)) a

    -- to a network below this index
    abbrev pub IsToNetworkBelow : ℕ → VertexLink → Type 0
    IsToNetworkBelow place link = (link.to < place)
        × IsToNetwork contents root nodes router advertised link

    pub none_below : (first : ℕ) (xs : List VertexLink) → ((by place : ℕ)
        → StandsAt nodes (ANetwork advertised.link_id by) place → first ≤ place)
        → Adds (IsToNetworkBelow first) xs xs
    none_below first xs earliest =
        adds_none (IsToNetworkBelow first) xs
        (λ x t. omega (arith, t.0, earliest t.1.listed.0 x.to t.1.listed.1))

    pub one_more : (place : ℕ) (xs ys zs : List VertexLink) → Adds (IsToNetworkBelow place) xs ys
        → Adds (IsToNetworkAt contents root nodes router advertised place) ys zs
        → Adds (IsToNetworkBelow (place + 1)) xs zs
    one_more place xs ys zs a b =
        adds_both (IsToNetworkBelow place)
        (IsToNetworkAt contents root nodes router advertised place)
        (IsToNetworkBelow (place + 1)) xs ys zs a b
        (λ x t. elim (cases_lt x.to place) [
          | inl lt ↦ inl (lt, t.1)
          | inr past ↦ inr (omega (arith, t.0, past), t.1)
        ])
        (λ x t. (omega (arith, t.0), t.1))
        (λ x t. (omega (arith, t.0), t.1))

    pub all_below : (place end : ℕ) (xs ys : List VertexLink)
        → ((by place : ℕ) → StandsAt nodes (ANetwork advertised.link_id by) place → place < end)
        → end ≤ place → Adds (IsToNetworkBelow place) xs ys
        → Adds (IsToNetwork contents root nodes router advertised) xs ys
    all_below place end xs ys last done a =
        adds_same (IsToNetworkBelow place) (IsToNetwork contents root nodes router advertised) xs ys
        (λ x t. t.1)
        (λ x t. (omega (arith, last t.listed.0 x.to t.listed.1, done), t)) a

    -- ---- what the link leads to

    pub no_end : (xs : List VertexLink) → (0 < advertised.metric → ⊥)
        → Adds (IsToEnd contents root nodes router advertised) xs xs
    no_end xs never =
        adds_none (IsToEnd contents root nodes router advertised) xs
        (λ x t. elim t [ inl n ↦ never n.counts | inr n ↦ never n.counts ])

    pub other_end : (xs : List VertexLink) → (advertised.kind ≡ PointToPoint → ⊥)
        → (advertised.kind ≡ Transit → ⊥) → Adds (IsToEnd contents root nodes router advertised) xs
        xs
    other_end xs point transit =
        adds_none (IsToEnd contents root nodes router advertised) xs
        (λ x t. elim t [ inl n ↦ point n.is_kind | inr n ↦ transit n.is_kind ])

    pub router_end : (xs ys : List VertexLink) → (advertised.kind ≡ Transit → ⊥)
        → Adds (IsToNeighbor contents root nodes router advertised) xs ys
        → Adds (IsToEnd contents root nodes router advertised) xs ys
    router_end xs ys other a =
        adds_same (IsToNeighbor contents root nodes router advertised)
        (IsToEnd contents root nodes router advertised) xs
        ys (λ x n. inl n) (λ x t. elim t [ inl n ↦ n | inr n ↦ absurd (other n.is_kind) ]) a

    pub network_end : (xs ys : List VertexLink) → (advertised.kind ≡ PointToPoint → ⊥)
        → Adds (IsToNetwork contents root nodes router advertised) xs ys
        → Adds (IsToEnd contents root nodes router advertised) xs ys
    network_end xs ys other a =
        adds_same (IsToNetwork contents root nodes router advertised)
        (IsToEnd contents root nodes router advertised) xs
        ys (λ x n. inr n) (λ x t. elim t [ inl n ↦ absurd (other n.is_kind) | inr n ↦ n ]) a

-- ---- all links of a router

module _ (contents : Contents) (root : Root) (nodes : List Node) (router : ℕ) (lsa : RouterLsa)
    (is : router_lsa contents router ≡ Some lsa) where
  counted : (advertised : RouterLink) → Contains lsa.links advertised → (kind : LinkKind)
      → advertised.kind ≡ kind → 0 < advertised.metric → (x : VertexLink)
      → IsExitTo root router x.to advertised.metric advertised.link_data x
      → Counts contents root router kind advertised.link_id x.cost x.interface
  counted advertised among kind is_kind counts x leads = record {
    link = advertised;
    its = record { lsa = lsa; its = its contents router lsa is; among = among };
    is_kind = is_kind;
    is_id = refl;
    costs = sym leads.1;
    not_free = omega (arith, leads.1, counts);
    by_interface = leads.2.by_interface;
    elsewhere = leads.2.elsewhere;
  }

  to_link : (x : VertexLink) → OfEach (IsToEnd contents root nodes router) lsa.links x
      → IsLinkFrom contents root nodes (ARouter router) x
  to_link x o =
      elim o.2 [
        | inl t ↦ record {
          target = ARouter o.0.link_id;
          stands = t.stands;
          leads = (counted o.0 o.1 PointToPoint t.is_kind t.counts x t.leads, t.back);
        }
        | inr t ↦ record {
          target = ANetwork o.0.link_id t.listed.0;
          stands = t.listed.1;
          leads = (counted o.0 o.1 Transit t.is_kind t.counts x t.leads, t.listed.2);
        }
      ]

  among_its : (link : RouterLink) (other : RouterLsa) → IsRouterLsa contents router other
      → Contains other.links link → Contains lsa.links link
  among_its link other says among =
      subst (λ (l : RouterLsa). Contains l.links link) (the_lsa contents router lsa is other says)
      among

  exit_of : (kind : LinkKind) (id : ℕ) (x : VertexLink)
      → (c : Counts contents root router kind id x.cost x.interface)
      → IsExitTo root router x.to c.link.metric c.link.link_data x
  exit_of kind id x c = (
    refl,
    sym c.costs,
    record {
      by_interface = c.by_interface;
      elsewhere = c.elsewhere;
    },
  )

  of_link : (x : VertexLink) (to : Node) → StandsAt nodes to x.to
      → LeadsTo contents root (ARouter router) to x.cost x.interface
      → OfEach (IsToEnd contents root nodes router) lsa.links x
  of_link x (ARouter b) stands l =
      let advertised = l.0.link in
      let S : ℕ → Type 0 = λ r. StandsAt nodes (ARouter r) x.to in
      let B : ℕ → Type 0 = λ r. LinksBack contents r PointToPoint router in (
        advertised,
        among_its advertised l.0.its.lsa l.0.its.its l.0.its.among,
        inl (record {
          is_kind = l.0.is_kind;
          counts = omega (arith, l.0.costs, l.0.not_free);
          stands = subst S (sym l.0.is_id) stands;
          back = subst B (sym l.0.is_id) l.1;
          leads = exit_of PointToPoint b x l.0;
        }),
      )
  of_link x (ANetwork id by) stands l =
      let advertised = l.0.link in
      let L : ℕ → Type 0 = λ n. IsListedAt contents nodes router n x.to in (
        advertised,
        among_its advertised l.0.its.lsa l.0.its.its l.0.its.among,
        inr (record {
          is_kind = l.0.is_kind;
          counts = omega (arith, l.0.costs, l.0.not_free);
          listed = subst L (sym l.0.is_id) (by, stands, l.1);
          leads = exit_of Transit id x l.0;
        }),
      )

  pub router_links : (links : List VertexLink)
      → Adds (OfEach (IsToEnd contents root nodes router) lsa.links) [] links
      → AreLinksFrom contents root nodes (ARouter router) links
  router_links links adds = record {
    only = λ x among. elim ((adds x).0 among)
        [ inl none ↦ absurd (of_empty x none) | inr o ↦ to_link x o ];
    each = λ x f. (
      x,
      (adds x).1 (inr (of_link x f.target f.stands f.leads)),
      record {
        same_end = refl;
        same_exit = refl;
        costs = omega arith;
      },
    );
  }

-- ---- from a network

module _ (contents : Contents) (nodes : List Node) (id router : ℕ) where
  pub not_attached : (xs : List VertexLink) → IsNeighbor contents nodes router Transit id None
      → Adds (IsAttached contents nodes id router) xs xs
  not_attached xs none = adds_none (IsAttached contents nodes id router) xs (λ x t. none t.back)

  pub to_attached : (to : ℕ) (xs : List VertexLink) → Ascend nodes
      → IsNeighbor contents nodes router Transit id (Some to)
      → Adds (IsAttached contents nodes id router) xs (xs ++ record {
        to = to;
        cost = 0;
        interface = 0;
      } ∷ [])
  to_attached to xs ascend at =
      let link : VertexLink = record { to = to; cost = 0; interface = 0 } in
      adds_one (IsAttached contents nodes id router) xs link (record {
        stands = at.0;
        back = at.1;
        free = refl;
        exit = refl;
      })
      (λ x t.
      let same = one_place nodes ascend (ARouter router) x.to to t.stands at.0 in
      let free = t.free in
      let exit = t.exit in
      λ j. record { to = same j; cost = free j; interface = exit j })

module _ (contents : Contents) (root : Root) (nodes : List Node) (id by : ℕ) (lsa : NetworkLsa)
    (is : network_lsa contents id by ≡ Some lsa) where
  to_router : (x : VertexLink) → OfEach (IsAttached contents nodes id) lsa.attached x
      → IsLinkFrom contents root nodes (ANetwork id by) x
  to_router x o = record {
    target = ARouter o.0;
    stands = o.2.stands;
    leads = (lists_is contents id by o.0 lsa is o.1, o.2.back, o.2.free, o.2.exit);
  }

  from_network : (x : VertexLink) (to : Node) → StandsAt nodes to x.to
      → LeadsTo contents root (ANetwork id by) to x.cost x.interface
      → OfEach (IsAttached contents nodes id) lsa.attached x
  from_network x (ARouter b) stands l = (
    b,
    is_listed contents id by b lsa is l.0,
    record {
      stands = stands;
      back = l.1;
      free = l.2;
      exit = l.3;
    },
  )
  from_network x (ANetwork other from) stands l = absurd l

  pub network_links : (links : List VertexLink)
      → Adds (OfEach (IsAttached contents nodes id) lsa.attached) [] links
      → AreLinksFrom contents root nodes (ANetwork id by) links
  network_links links adds = record {
    only = λ x among. elim ((adds x).0 among)
        [ inl none ↦ absurd (of_empty x none) | inr o ↦ to_router x o ];
    each = λ x f. (
      x,
      (adds x).1 (inr (from_network x f.target f.stands f.leads)),
      record {
        same_end = refl;
        same_exit = refl;
        costs = omega arith;
      },
    );
  }
