-- Nodes are unchanged if only recorded LSAs of routers and networks change, and so is each vertex
-- whose index wasn't recorded.
use Rattle.std.proofs.Common.{◌≡◌, ◌≤◌, ◌⊎◌, ℕ, inl, inr, List, [], ◌∷◌, ◌++◌, Option, Some}
use Rattle.std.proofs.Common.{length, slice_get, sym, subst, ◌∙◌, ap, arith}
use Rattle.std.proofs.lemmas.Bool.{cases_eq}
use Rattle.std.proofs.lemmas.List.Elements.{Contains-push_cases}
use Rattle.std.specs.List.{Contains}
use Rattle.lsa.specs.declared.body.LsaBody.{LsaBody}
use Rattle.lsa.specs.declared.body.LsaBody.TheVariants as body
use Rattle.lsa.specs.declared.body.RouterLink.{RouterLink}
use Rattle.lsa.specs.declared.body.LinkKind.{LinkKind}
use Rattle.lsa.specs.declared.body.LinkKind.TheVariants.{PointToPoint, Transit}
use Rattle.lsa.specs.declared.body.NetworkLsa.{NetworkLsa}
use Rattle.lsa.specs.declared.body.RouterLsa.{RouterLsa}
use Rattle.candidates.specs.Graphs.{AreVertices, IsVertexOf, StandsAt}
use Rattle.candidates.specs.Nodes.{AreNodes, HasLsa}
use Rattle.area_routes.specs.GraphChanges.{AreCovered, AreEndsAmong, AreListedAmong, IsCovered}
use Rattle.area_routes.specs.GraphChanges.{IsEndAmong, IsNetworkNoted, IsRouterNoted}
use Rattle.area_routes.specs.Vertices.{IsRenewed, StayUnlessAmong}
use Rattle.area_routes.proofs.Keys.{among_or_not}
use Rattle.kept_routes.specs.Sameness.{HaveSameContents}
use Rattle.routes.proofs.Lists.{of_empty}
use Rattle.routes.specs.Graphs.{Graph}
use Rattle.routes.specs.Links.{Counts, HasLink, LeadsTo, LinksBack, ListsRouter, network_key}
use Rattle.routes.specs.Links.{router_key}
use Rattle.routes.specs.Contents.{Contents}
use Rattle.routes.specs.declared.graph.Vertex.{Vertex}
use Rattle.routes.specs.declared.node.Node.{Node}
use Rattle.routes.specs.declared.node.Node.TheVariants.{ANetwork, ARouter}
use Rattle.routes.specs.declared.root.Root.{Root}
use Rattle.words.specs.declared.key.Key.{Key}

same_router : (a b : RouterLsa) → ◌≡◌ {A = Option LsaBody} (Some (body.Router a))
    (Some (body.Router b))
    → a ≡ b
same_router a b e = cc

same_network : (a b : NetworkLsa)
    → ◌≡◌ {A = Option LsaBody} (Some (body.Network a)) (Some (body.Network b)) → a ≡ b
same_network a b e = cc

-- each vertex is one of what LSAs say now, or, if its index isn't among these, of what they said
pub record AreEither (old : Contents) (new : Contents) (root : Root) (nodes : List Node)
    (places : List ℕ) (graph : Graph) : Type 0 where
  pub count : length graph ≡ length nodes
  pub each : (at : ℕ) (node : Node) (vertex : Vertex) → StandsAt nodes node at
      → slice_get graph at ≡ Some vertex
      → IsVertexOf new root nodes node vertex
      ⊎ (IsVertexOf old root nodes node vertex × (Contains places at → ⊥))

-- all LSAs of routers and networks are covered
abbrev pub AllCovered : Contents → Contents → List Node → List ℕ → Type 0
AllCovered old new nodes places = (key : Key) → key.ls_type ≤ 2 → IsCovered old new nodes places key

-- what is recorded is so in both directions
router_back : (contents says : Option LsaBody) (nodes : List Node) (places : List ℕ) (router : ℕ)
    → IsRouterNoted contents says nodes places router → IsRouterNoted says contents nodes places
    router
router_back contents says nodes places router n = record {
  was = n.is;
  is = n.was;
  before = n.now;
  now = n.before;
  own = n.own;
  ends_before = n.ends;
  ends = n.ends_before;
}

network_back : (contents says : Option LsaBody) (nodes : List Node) (places : List ℕ)
    (network : Node)
    → IsNetworkNoted contents says nodes places network → IsNetworkNoted says contents nodes places
    network
network_back contents says nodes places network n = record {
  was = n.is;
  is = n.was;
  before = n.now;
  now = n.before;
  own = n.own;
  listed_before = n.listed;
  listed = n.listed_before;
}

pub covered_back : (old new : Contents) (nodes : List Node) (places : List ℕ)
    → AllCovered old new nodes places → AllCovered new old nodes places
covered_back old new nodes places covered key few =
    elim (covered key few) [
      | inl same ↦ inl (sym same)
      | inr n ↦
          elim n [
            | inl r ↦ inr (inl
                (r.0, r.1, router_back (old key) (new key) nodes places r.0 r.2))
            | inr r ↦
                inr (inr (
                  r.0,
                  r.1,
                  r.2,
                  network_back (old key) (new key) nodes places (ANetwork r.0 r.1) r.3,
                ))
          ]
    ]

module _ (old new : Contents) (nodes : List Node) (places : List ℕ)
    (covered : AllCovered old new nodes places) where
  abbrev RouterNoted : (router : ℕ) → Type 0
  RouterNoted router =
      IsRouterNoted (old (router_key router)) (new (router_key router)) nodes places router

  abbrev NetworkNoted : (id by : ℕ) → Type 0
  NetworkNoted id by =
      IsNetworkNoted (old (network_key id by)) (new (network_key id by)) nodes places
      (ANetwork id by)

  -- a router-LSA says what it said, or was recorded
  of_router : (router : ℕ) → (old (router_key router) ≡ new (router_key router))
      ⊎ RouterNoted router
  of_router router =
      elim (covered (router_key router) (omega arith)) [
        | inl same ↦ inl same
        | inr n ↦
            elim n [
              | inl r ↦
                  let is : router ≡ r.0 = ap (λ (k : Key). k.link_state_id) r.1 in
                  let P : ℕ → Type 0 = λ x. IsRouterNoted (old (router_key router))
                  (new (router_key router)) nodes places x in
                  inr (subst P (sym is) r.2)
              | inr r ↦ absurd (omega (arith, ap (λ (k : Key). k.ls_type) r.2))
            ]
      ]

  -- and so is a network-LSA
  of_network : (id by : ℕ) → (old (network_key id by) ≡ new (network_key id by))
      ⊎ NetworkNoted id by
  of_network id by =
      elim (covered (network_key id by) (omega arith)) [
        | inl same ↦ inl same
        | inr n ↦
            elim n [
              | inl r ↦ absurd (omega (arith, ap (λ (k : Key). k.ls_type) r.1))
              | inr r ↦
                  let of_id : id ≡ r.0 = ap (λ (k : Key). k.link_state_id) r.2 in
                  let of_by : by ≡ r.1 = ap (λ (k : Key). k.advertising_router) r.2 in
                  let P : ℕ → Type 0 = λ x. IsNetworkNoted (old (network_key id by))
                  (new (network_key id by)) nodes places (ANetwork x r.1) in
                  let Q : ℕ → Type 0 = λ x. IsNetworkNoted (old (network_key id by))
                  (new (network_key id by)) nodes places (ANetwork id x) in
                  inr (subst Q (sym of_by) (subst P (sym of_id) r.3))
            ]
      ]

  has_lsa : (node : Node) → HasLsa old node → HasLsa new node
  has_lsa (ARouter router) has =
      elim (of_router router) [
        | inl same ↦ (has.0, sym same ∙ has.1)
        | inr n ↦ (n.is, n.now)
      ]
  has_lsa (ANetwork id by) has =
      elim (of_network id by) [
        | inl same ↦ (has.0, sym same ∙ has.1)
        | inr n ↦ (n.is, n.now)
      ]

  -- ---- links

  has_link : (router : ℕ) (link : RouterLink) → old (router_key router) ≡ new (router_key router)
      → HasLink old router link → HasLink new router link
  has_link router link same has = record {
    lsa = has.lsa;
    its = sym same ∙ has.its;
    among = has.among;
  }

  counts : (root : Root) (router : ℕ) (kind : LinkKind) (id price exit : ℕ)
      → old (router_key router) ≡ new (router_key router)
      → Counts old root router kind id price exit → Counts new root router kind id price exit
  counts root router kind id price exit same c = record {
    link = c.link;
    its = has_link router c.link same c.its;
    is_kind = c.is_kind;
    is_id = c.is_id;
    costs = c.costs;
    not_free = c.not_free;
    by_interface = c.by_interface;
    elsewhere = c.elsewhere;
  }

  lists : (id by router : ℕ) → old (network_key id by) ≡ new (network_key id by)
      → ListsRouter old id by router → ListsRouter new id by router
  lists id by router same l = record {
    lsa = l.lsa;
    its = sym same ∙ l.its;
    among = l.among;
  }

  -- a link of the LSA that was recorded is one of what it said
  of_was : (router : ℕ) (n : RouterNoted router) (link : RouterLink)
      → HasLink old router link → Contains n.was.links link
  of_was router n link has = subst (λ (l : RouterLsa). Contains l.links link)
      (same_router has.lsa n.was (sym has.its ∙ n.before)) has.among

  was_listed : (id by : ℕ) (n : NetworkNoted id by) (router : ℕ)
      → ListsRouter old id by router → Contains n.was.attached router
  was_listed id by n router l = subst (λ (x : NetworkLsa). Contains x.attached router)
      (same_network l.lsa n.was (sym l.its ∙ n.before)) l.among

  -- the LSA of a node whose index isn't recorded says what it said, and no LSA that is recorded
  -- named it
  module _ (at : ℕ) (none : Contains places at → ⊥) where
    unnoted : (router : ℕ) → StandsAt nodes (ARouter router) at
        → old (router_key router) ≡ new (router_key router)
    unnoted router here =
        elim (of_router router) [
          | inl same ↦ same
          | inr n ↦ absurd (none (n.own at here))
        ]

    back_to_router : (router far : ℕ) → StandsAt nodes (ARouter router) at
        → LinksBack old far PointToPoint router → LinksBack new far PointToPoint router
    back_to_router router far here b =
        elim (of_router far) [
          | inl same ↦ (b.0, has_link far b.0 same b.1, b.2, b.3)
          | inr n ↦
              let end = n.ends_before b.0 (of_was far n b.0 b.1) in
              absurd (none (end.router b.2 at
              (subst (λ r. StandsAt nodes (ARouter r) at) (sym b.3) here)))
        ]

    back_to_network : (id by far : ℕ) → StandsAt nodes (ANetwork id by) at
        → LinksBack old far Transit id → LinksBack new far Transit id
    back_to_network id by far here b =
        elim (of_router far) [
          | inl same ↦ (b.0, has_link far b.0 same b.1, b.2, b.3)
          | inr n ↦
              let end = n.ends_before b.0 (of_was far n b.0 b.1) in
              absurd (none (end.networks b.2 by at
              (subst (λ i. StandsAt nodes (ANetwork i by) at) (sym b.3) here)))
        ]

    lists_router : (id by router : ℕ) → StandsAt nodes (ARouter router) at
        → ListsRouter old id by router → ListsRouter new id by router
    lists_router id by router here l =
        elim (of_network id by) [
          | inl same ↦ lists id by router same l
          | inr n ↦ absurd (none (n.listed_before router (was_listed id by n router l) at here))
        ]

    lists_still : (id by router : ℕ) → StandsAt nodes (ANetwork id by) at
        → ListsRouter old id by router → ListsRouter new id by router
    lists_still id by router here l =
        elim (of_network id by) [
          | inl same ↦ lists id by router same l
          | inr n ↦ absurd (none (n.own at here))
        ]

    pub leads : (root : Root) (from to : Node) (price exit : ℕ) → StandsAt nodes from at
        → LeadsTo old root from to price exit → LeadsTo new root from to price exit
    leads root (ARouter a) (ARouter b) price exit here l =
        (counts root a PointToPoint b price exit (unnoted a here) l.0, back_to_router a b here l.1)
    leads root (ARouter a) (ANetwork id by) price exit here l =
        (counts root a Transit id price exit (unnoted a here) l.0, lists_router id by a here l.1)
    leads root (ANetwork id by) (ARouter b) price exit here l =
        (lists_still id by b here l.0, back_to_network id by b here l.1, l.2, l.3)
    leads root (ANetwork id by) (ANetwork other its) price exit here l = absurd l

module _ (old new : Contents) (nodes : List Node) (places : List ℕ)
    (covered : AllCovered old new nodes places) where
  backwards : AllCovered new old nodes places
  backwards = covered_back old new nodes places covered

  pub nodes_stay : AreNodes old nodes → AreNodes new nodes
  nodes_stay are = record {
    each = λ node. (
      (λ among. has_lsa old new nodes places covered node ((are.each node).0 among)),
      (λ has. (are.each node).1 (has_lsa new old nodes places backwards node has)),
    );
    ascend = are.ascend;
  }

  pub vertices_stay : (root : Root) → StayUnlessAmong old new root nodes places
  vertices_stay root at node vertex here none is = record {
    kind = is.kind;
    links = record {
      only = λ link among.
          let f = is.links.only link among in
          record {
            target = f.target;
            stands = f.stands;
            leads = leads old new nodes places covered at none root node f.target link.cost
                link.interface here f.leads;
          };
      each = λ link f.
          is.links.each link (record {
            target = f.target;
            stands = f.stands;
            leads = leads new old nodes places backwards at none root node f.target link.cost
                link.interface here f.leads;
          });
    };
    fits = is.fits;
  }

-- if all say what they said, the graph is still that of the area
pub same_covered : (old new : Contents) (nodes : List Node) → HaveSameContents (Some 2) old new
    → AllCovered old new nodes []
same_covered old new nodes same key few = inl (same key few)

pub all_stay : (old new : Contents) (root : Root) (nodes : List Node) (graph : Graph)
    → HaveSameContents (Some 2) old new → AreVertices old root nodes graph
    → AreVertices new root nodes graph
all_stay old new root nodes graph same are = record {
  count = are.count;
  each = λ at node vertex here got. vertices_stay old new nodes [] (same_covered old new nodes same)
      root at node vertex here (of_empty at) (are.each at node vertex here got);
}

-- all others say what they said
pub all_covered : (old new : Contents) (nodes : List Node) (places : List ℕ) (keys : List Key)
    → ((key : Key) → (Contains keys key → ⊥) → old key ≡ new key)
    → AreCovered old new nodes places keys → AllCovered old new nodes places
all_covered old new nodes places keys others covered key few =
    elim (among_or_not keys key) [
      | inl among ↦ covered key among few
      | inr none ↦ inl (others key none)
    ]

-- what is recorded is still so with more indices
module _ (nodes : List Node) (few more : List ℕ)
    (kept : (place : ℕ) → Contains few place → Contains more place) where
  pub end_more : (link : RouterLink) → IsEndAmong nodes few link → IsEndAmong nodes more link
  end_more link end = record {
    router = λ is at here. kept at (end.router is at here);
    networks = λ is by at here. kept at (end.networks is by at here);
  }

  pub ends_more : (lsa : RouterLsa) → AreEndsAmong nodes few lsa → AreEndsAmong nodes more lsa
  ends_more lsa ends link among = end_more link (ends link among)

  pub listed_more : (lsa : NetworkLsa) → AreListedAmong nodes few lsa
      → AreListedAmong nodes more lsa
  listed_more lsa listed router among at here = kept at (listed router among at here)

  pub covered_more : (old new : Contents) (key : Key) → IsCovered old new nodes few key
      → IsCovered old new nodes more key
  covered_more old new key covered =
      elim covered [
        | inl same ↦ inl same
        | inr n ↦
            elim n [
              | inl r ↦
                  inr (inl (
                    r.0,
                    r.1,
                    record {
                      was = r.2.was;
                      is = r.2.is;
                      before = r.2.before;
                      now = r.2.now;
                      own = λ at here. kept at (r.2.own at here);
                      ends_before = ends_more r.2.was r.2.ends_before;
                      ends = ends_more r.2.is r.2.ends;
                    },
                  ))
              | inr r ↦
                  inr (inr (
                    r.0,
                    r.1,
                    r.2,
                    record {
                      was = r.3.was;
                      is = r.3.is;
                      before = r.3.before;
                      now = r.3.now;
                      own = λ at here. kept at (r.3.own at here);
                      listed_before = listed_more r.3.was r.3.listed_before;
                      listed = listed_more r.3.is r.3.listed;
                    },
                  ))
            ]
      ]

-- ---- recalculated vertices

module _ (old new : Contents) (root : Root) (nodes : List Node) where
  pub none_renewed : (graph : Graph) → AreVertices old root nodes graph
      → AreEither old new root nodes [] graph
  none_renewed graph are = record {
    count = are.count;
    each = λ at node vertex here got. inr (are.each at node vertex here got, of_empty at);
  }

  pub one_renewed : (places : List ℕ) (place : ℕ) (graph next : Graph)
      → AreEither old new root nodes places graph → IsRenewed new root nodes place graph next
      → AreEither old new root nodes (places ++ place ∷ []) next
  one_renewed places place graph next are renewed = record {
    count = renewed.count ∙ are.count;
    each = λ at node vertex here got.
        elim (cases_eq at place) [
          | inl same ↦ inl (renewed.own node vertex
              (subst (λ (p : ℕ). StandsAt nodes node p) same here)
              (subst (λ (p : ℕ). slice_get next p ≡ Some vertex) same got))
          | inr other ↦
              elim (are.each at node vertex here (sym (renewed.others at other) ∙ got)) [
                | inl is ↦ inl is
                | inr was ↦
                    inr (
                      was.0,
                      λ among.
                          elim (Contains-push_cases places place at among) [
                            | inl before ↦ was.1 before
                            | inr it ↦ other (sym it)
                          ],
                    )
              ]
        ];
  }

  pub all_renewed : (places : List ℕ) (graph : Graph) → AreEither old new root nodes places graph
      → StayUnlessAmong old new root nodes places → AreVertices new root nodes graph
  all_renewed places graph are stay = record {
    count = are.count;
    each = λ at node vertex here got.
        elim (are.each at node vertex here got) [
          | inl is ↦ is
          | inr was ↦ stay at node vertex here was.1 was.0
        ];
  }
