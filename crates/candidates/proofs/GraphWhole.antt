-- The vertices of all nodes are a graph of the database's links, and meet the requirements of the
-- search.
use Rattle.std.proofs.Common.{◌≡◌, ℕ, zero, suc, ◌+◌, ◌<◌, ◌≤◌, ◌⊎◌, inl, inr, List, [], ◌∷◌, ◌++◌}
use Rattle.std.proofs.Common.{length, get_or, Some, slice_get, refl, sym, ◌∙◌, ap, subst, arith}
use Rattle.std.proofs.lemmas.Bool.{cases_eq, cases_lt}
use Rattle.std.proofs.lemmas.List.Elements.{All-contains}
use Rattle.std.proofs.lemmas.Option.{get_or_from_slice_get, none-some, same_Some, slice_get-get_or}
use Rattle.std.proofs.lemmas.Option.{slice_get_within}
use Rattle.std.specs.List.{Contains}
use Rattle.std.specs.declared.cmp.Ordering.TheVariants.{Equal, Less}
use Rattle.std.specs.Cmp.{nat_cmp_total, tied_itself}
use Rattle.std.specs.Ordering.{nat_cmp, ordering_then}
use Rattle.routes.specs.Graphs.{Graph, HasLink, IsGraph, IsGraphOf, IsNoDearer, IsSameStep}
use Rattle.routes.specs.Links.{Leads, LeadsTo}
use Rattle.routes.specs.Paths.{Step}
use Rattle.routes.specs.Contents.{Contents}
use Rattle.routes.specs.declared.graph.VertexKind.TheVariants.{Network, Router}
use Rattle.routes.specs.declared.graph.VertexLink.{VertexLink}
use Rattle.routes.specs.declared.graph.Vertex.{Vertex}
use Rattle.routes.specs.declared.node.Node.{Node}
use Rattle.routes.specs.declared.node.Node.TheVariants.{ANetwork, ARouter}
use Rattle.routes.specs.declared.root.Root.{Root}
use Rattle.candidates.specs.Graphs.{AreVertices, CostFits, IsVertexOf, StandsAt, kind_of}
use Rattle.candidates.specs.Nodes.{AreNodes, Ascend, node_cmp}
use Rattle.candidates.proofs.KeyNodes.{in_places}
use Rattle.candidates.proofs.Leads.{far_end}

-- ---- places

pub placed : {X : Type 0} (xs : List X) (x : X) → Contains xs x
    → (k : ℕ) × (slice_get xs k ≡ Some x)
placed xs x (k, within, is) = (k, slice_get-get_or xs k x within ∙ ap (λ y. Some y) is)

pub contained : {X : Type 0} (xs : List X) (k : ℕ) (x : X) → slice_get xs k ≡ Some x → Contains xs x
contained xs k x here = (k, slice_get_within xs k x here, get_or_from_slice_get xs k x x here)

pub element : {X : Type 0} (xs : List X) (k : ℕ) → k < length xs
    → (x : X) × (slice_get xs k ≡ Some x)
element [] k lt = absurd (omega (arith, lt))
element (x ∷ xs) zero lt = (x, refl)
element (x ∷ xs) (suc k) lt = element xs k (omega (arith, lt))

itself : (n : ℕ) → nat_cmp n n ≡ Equal
itself n = tied_itself nat_cmp_total n

pub never_before : (a : Node) → node_cmp a a ≡ Less → ⊥
never_before (ARouter a) e = let f : Equal ≡ Less = sym (itself a) ∙ e in cc
never_before (ANetwork id by) e =
    let f : Equal ≡ Less = sym (ap (λ r. ordering_then r (nat_cmp by by)) (itself id) ∙ itself by)
    ∙ e in cc

at_two : (nodes : List Node) → Ascend nodes → (node : Node) (i j : ℕ) → StandsAt nodes node i
    → StandsAt nodes node j → i < j → ⊥
at_two nodes ascend node i j p q before =
    let P : Node → Type 0 = λ x. node_cmp x (get_or nodes j node) ≡ Less in
    let Q : Node → Type 0 = λ x. node_cmp node x ≡ Less in
    never_before node (subst Q (get_or_from_slice_get nodes j node node q)
    (subst P (get_or_from_slice_get nodes i node node p)
    (ascend i j node before (slice_get_within nodes j node q))))

pub one_place : (nodes : List Node) → Ascend nodes → (node : Node) (i j : ℕ) → StandsAt nodes node i
    → StandsAt nodes node j → i ≡ j
one_place nodes ascend node i j p q =
    elim (cases_eq i j) [
      | inl e ↦ e
      | inr apart ↦
          elim (cases_lt i j) [
            | inl before ↦ absurd (at_two nodes ascend node i j p q before)
            | inr not_before ↦ absurd (at_two nodes ascend node j i q p
                (omega (arith, apart, not_before)))
          ]
    ]

-- the index of the first node that is no less than one of the list is the index of that one
pub at_its_place : (nodes : List Node) → Ascend nodes → (node : Node) (at : ℕ) → Contains nodes node
    → ((k : ℕ) (other : Node) → slice_get nodes k ≡ Some other → k < at
    → node_cmp other node ≡ Less) →
    ((k : ℕ) (other : Node) → slice_get nodes k ≡ Some other → at ≤ k
    → node_cmp other node ≡ Less → ⊥) → StandsAt nodes node at
at_its_place nodes ascend node at among before beyond =
    let stands = placed nodes node among in
    let P : ℕ → Type 0 = λ k. StandsAt nodes node k in
    elim (cases_lt stands.0 at) [
      | inl lt ↦ absurd (never_before node (before stands.0 node stands.1 lt))
      | inr past ↦
          elim (cases_lt at stands.0) [
            | inl lt ↦
                let other = element nodes at (omega
                (arith, lt, slice_get_within nodes stands.0 node stands.1)) in
                absurd (beyond at other.0 other.1 (omega arith)
                (in_places nodes ascend at stands.0 other.0 node other.1 stands.1 lt))
            | inr not_before ↦ let same : stands.0 ≡ at = omega (arith, past, not_before) in
                subst P same stands.1
          ]
    ]

-- ---- the vertices of the nodes

pub pushed : {X : Type 0} (xs : List X) (y : X) (k : ℕ) (z : X)
    → slice_get (xs ++ y ∷ []) k ≡ Some z → (slice_get xs k ≡ Some z) ⊎ ((k ≡ length xs) × (y ≡ z))
pushed [] y zero z e = inr (refl, same_Some y z e)
pushed [] y (suc k) z e = absurd (none-some z e)
pushed (x ∷ xs) y zero z e = inl e
pushed (x ∷ xs) y (suc k) z e = elim (pushed xs y k z e)
    [ inl p ↦ inl p | inr q ↦ inr (omega (arith, q.0), q.1) ]

abbrev pub EachVertex : Contents → Root → List Node → Graph → Type 0
EachVertex contents root nodes g = (at : ℕ) (node : Node) (vertex : Vertex) → StandsAt nodes node at
    → slice_get g at ≡ Some vertex → IsVertexOf contents root nodes node vertex

pub one_more : (contents : Contents) (root : Root) (nodes : List Node) (g : Graph) (i : ℕ)
    (node : Node)
    (vertex : Vertex) → length g ≡ i → StandsAt nodes node i → EachVertex contents root nodes g
    → IsVertexOf contents root nodes node vertex → EachVertex contents root nodes (g ++ vertex ∷ [])
one_more contents root nodes g i node vertex count here each is at other its stands got =
    elim (pushed g vertex at its got) [
      | inl old ↦ each at other its stands old
      | inr new ↦
          let e : at ≡ i = omega (arith, new.0, count) in
          let P : ℕ → Type 0 = λ k. slice_get nodes k ≡ Some other in
          let N : Node → Type 0 = λ n. IsVertexOf contents root nodes n its in
          let V : Vertex → Type 0 = λ v. IsVertexOf contents root nodes node v in
          subst N (same_Some node other (sym here ∙ subst P e stands)) (subst V new.1 is)
    ]

-- whatever interface the root sends by, it is one of its own
counted_exit : (root : Root) (router address exit : ℕ) → length root.addresses ≤ 63
    → (router ≡ root.router → (n : ℕ) × (exit ≡ n + 1)
    × (slice_get root.addresses n ≡ Some address)) → (¬ (router ≡ root.router) → exit ≡ 0)
    → exit < 64
counted_exit root router address exit few own elsewhere =
    elim (cases_eq router root.router) [
      | inl e ↦ let o = own e in omega
          (arith, o.1, slice_get_within root.addresses o.0 address o.2, few)
      | inr off ↦ omega (arith, elsewhere off)
    ]

module _ (contents : Contents) (root : Root) (nodes : List Node) (g : Graph)
    (are : AreNodes contents nodes)
    (s : AreVertices contents root nodes g) where
  forth : (v : Node) (at : ℕ) (step : Step Node) → StandsAt nodes v at → Leads contents root v step
      → (link : VertexLink) × HasLink g at link × IsNoDearer (StandsAt nodes) step link
  forth v at step here l =
      let to = placed nodes step.target
      ((are.each step.target).1 (far_end contents root v step.target step.cost step.exit l)) in
      let link : VertexLink = record { to = to.0; cost = step.cost; interface = step.exit } in
      let vertex = element g at (omega (arith, s.count, slice_get_within nodes at v here)) in
      let is = s.each at v vertex.0 here vertex.1 in
      let found = is.links.each link (record { target = step.target; stands = to.1; leads = l }) in
      let among = placed vertex.0.links.items found.0 found.1 in
      let P : ℕ → Type 0 = λ k. StandsAt nodes step.target k in (
        found.0,
        record {
          vertex = vertex.0;
          here = vertex.1;
          place = among.0;
          among = among.1;
        },
        record {
          target = subst P (sym found.2.same_end) to.1;
          cost = found.2.costs;
          exit = sym found.2.same_exit;
        },
      )

  back : (v : Node) (at : ℕ) (link : VertexLink) → StandsAt nodes v at → HasLink g at link
      → (step : Step Node) × Leads contents root v step × IsSameStep (StandsAt nodes) step link
  back v at link here has =
      let is = s.each at v has.vertex here has.here in
      let from = is.links.only link (contained has.vertex.links.items has.place link has.among) in
      let step : Step Node = record {
        target = from.target;
        cost = link.cost;
        exit = link.interface;
      } in
      (step, from.leads, record { target = from.stands; cost = refl; exit = refl })

  pub is_graph_of : IsGraphOf (Leads contents root) (StandsAt nodes) g
  is_graph_of = record {
    forth = forth;
    back = back;
    one_vertex = λ v w at p q. same_Some v w (sym p ∙ q);
    one_place = λ v i j p q. one_place nodes are.ascend v i j p q;
  }

  -- ---- the requirements of the search

  below_64 : (v target : Node) (price exit : ℕ) → length root.addresses ≤ 63
      → LeadsTo contents root v target price exit → exit < 64
  below_64 (ARouter r) (ARouter b) price exit few l =
      counted_exit root r l.0.link.link_data exit few l.0.by_interface l.0.elsewhere
  below_64 (ARouter r) (ANetwork id by) price exit few l =
      counted_exit root r l.0.link.link_data exit few l.0.by_interface l.0.elsewhere
  below_64 (ANetwork id by) (ARouter b) price exit few l = omega (arith, l.3)
  below_64 (ANetwork id by) (ANetwork other its) price exit few l = absurd l

  free : (v target : Node) (vertex : Vertex) (link : VertexLink) → vertex.kind ≡ kind_of v
      → StandsAt nodes target link.to → LeadsTo contents root v target link.cost link.interface
      → link.cost ≡ 0 → (vertex.kind ≡ Network)
      × ((to : Vertex) → slice_get g link.to ≡ Some to → to.kind ≡ Router)
  free (ARouter r) (ARouter b) vertex link kind stands l costs =
      absurd (omega (arith, l.0.not_free, costs))
  free (ARouter r) (ANetwork id by) vertex link kind stands l costs =
      absurd (omega (arith, l.0.not_free, costs))
  free (ANetwork id by) (ARouter b) vertex link kind stands l costs =
      (kind, (λ to here. (s.each link.to (ARouter b) to stands here).kind))
  free (ANetwork id by) (ANetwork other its) vertex link kind stands l costs = absurd l

  node_of : (at : ℕ) → at < length g → (node : Node) × StandsAt nodes node at
  node_of at lt = element nodes at (omega (arith, s.count, lt))

  pub is_graph : length root.addresses ≤ 63 → IsGraph g
  is_graph few at vertex place link here among =
      let node = node_of at (slice_get_within g at vertex here) in
      let is = s.each at node.0 vertex node.1 here in
      let member = contained vertex.links.items place link among in
      let from = is.links.only link member in
      record {
        inside = omega (arith, s.count, slice_get_within nodes link.to from.target from.stands);
        interface = below_64 node.0 from.target link.cost link.interface few from.leads;
        fits = All-contains CostFits vertex.links.items link is.fits member;
        free = free node.0 from.target vertex link is.kind from.stands from.leads;
      }
