-- The steps by which links are added.
use Rattle.std.proofs.Common.{◌≡◌, ℕ, ◌+◌, ◌<◌, ◌≤◌, inl, inr, List, [], ◌∷◌, ◌++◌, length, None}
use Rattle.std.proofs.Common.{Some, Ok, Err, Option, Result, slice_get, refl, sym, ◌∙◌, ap, subst}
use Rattle.std.proofs.Common.{arith}
use Rattle.std.proofs.lemmas.Bool.{cases_lt}
use Rattle.std.proofs.lemmas.Option.{same_Some, slice_get_within}
use Rattle.std.specs.List.{All, Contains}
use Rattle.std.specs.List.Sorted.{IsSorted}
use Rattle.std.specs.Result.{OnOk}
use Rattle.std.specs.declared.cmp.Ordering.TheVariants.{Less}
use Rattle.lsa.specs.declared.body.RouterLink.{RouterLink}
use Rattle.lsa.specs.declared.body.LinkKind.TheVariants as kinds
use Rattle.routes.specs.declared.graph.VertexLink.{VertexLink}
use Rattle.routes.specs.declared.node.Node.{Node}
use Rattle.routes.specs.declared.node.Node.TheVariants.{ARouter}
use Rattle.routes.specs.declared.root.Root.{Root}
use Rattle.candidates.specs.Entries.{HasEntry, IsLeastMetric, attached_entry, entry_cmp}
use Rattle.candidates.specs.Graphs.{Adds, CostFits, OfEach, StandsAt}
use Rattle.candidates.specs.Links.{IsCheapest, IsExitTo, IsNeighborAt, IsOwnTo, IsOwnTransit}
use Rattle.candidates.specs.Links.{IsToListed, IsToNetwork, IsToRouter, IsToSomeNetwork}
use Rattle.candidates.specs.Nodes.{Ascend, node_cmp}
use Rattle.candidates.specs.declared.entry.AdvertisedLink.{AdvertisedLink}
use Rattle.candidates.specs.declared.entry.EntryKind.{EntryKind}
use Rattle.candidates.specs.declared.entry.EntryKind.TheVariants.{Attached, PointToPoint, Transit}
use Rattle.candidates.proofs.Lists.{adds_all, adds_both, adds_more, adds_none, adds_one, adds_same}
use Rattle.candidates.proofs.EntryOrder.{in_order, not_before, of_kind}
use Rattle.candidates.proofs.GraphWhole.{at_its_place, contained, one_place, placed}

pub on_ok : {T E : Type 0} (r : Result T E) (P Q : Type 0) → (P → Q) → OnOk r P → OnOk r Q
on_ok (Ok x) P Q f p = f p
on_ok (Err e) P Q f p = p

pub pushed_fits : (xs : List VertexLink) (link : VertexLink) → link.cost < 65536 → All CostFits xs
    → All CostFits (xs ++ link ∷ [])
pushed_fits xs link fits = adds_all (λ (x : VertexLink). x ≡ link) CostFits xs (xs ++ link ∷ [])
    (adds_one (λ (x : VertexLink). x ≡ link) xs link refl (λ x e. e))
    (λ x e. omega (arith, ap (λ (y : VertexLink). y.cost) e, fits))

-- ---- a link by each own interface with the address

module _ (root : Root) (to cost address : ℕ) where
  abbrev pub OwnBelow : ℕ → VertexLink → Type 0
  OwnBelow i link = (link.to ≡ to) × (link.cost ≡ cost)
      × ((n : ℕ) × (link.interface ≡ n + 1) × (slice_get root.addresses n ≡ Some address) × (n < i))

  pub own_none : (xs : List VertexLink) → Adds (OwnBelow 0) xs xs
  own_none xs = adds_none (OwnBelow 0) xs (λ x o. omega (arith, o.2.3))

  wider : (i : ℕ) (x : VertexLink) → OwnBelow i x → OwnBelow (i + 1) x
  wider i x o = (o.0, o.1, (o.2.0, o.2.1, o.2.2, omega (arith, o.2.3)))

  pub own_more : (i : ℕ) (xs ys : List VertexLink) → slice_get root.addresses i ≡ Some address
      → Adds (OwnBelow i) xs ys → Adds (OwnBelow (i + 1)) xs (ys ++ record {
        to = to;
        cost = cost;
        interface = i + 1;
      } ∷ [])
  own_more i xs ys here a =
      let link : VertexLink = record { to = to; cost = cost; interface = i + 1 } in
      adds_more (OwnBelow i) (OwnBelow (i + 1)) xs ys link a
      (refl, refl, (i, refl, here, omega arith))
      (λ x o. elim (cases_lt o.2.0 i) [
        | inl lt ↦ inl (o.0, o.1, (o.2.0, o.2.1, o.2.2, lt))
        | inr past ↦ let at : x.interface ≡ i + 1 = omega (arith, o.2.1, o.2.3, past) in
            inr (λ j. record { to = o.0 j; cost = o.1 j; interface = at j })
      ])
      (wider i)

  pub own_skip : (i : ℕ) (xs ys : List VertexLink) → (slice_get root.addresses i ≡ Some address → ⊥)
      → Adds (OwnBelow i) xs ys → Adds (OwnBelow (i + 1)) xs ys
  own_skip i xs ys never a =
      adds_same (OwnBelow i) (OwnBelow (i + 1)) xs ys (wider i)
      (λ x o. elim (cases_lt o.2.0 i) [
        | inl lt ↦ (o.0, o.1, (o.2.0, o.2.1, o.2.2, lt))
        | inr past ↦
            let P : ℕ → Type 0 = λ n. slice_get root.addresses n ≡ Some address in
            let same : o.2.0 ≡ i = omega (arith, o.2.3, past) in
            absurd (never (subst P same o.2.2))
      ]) a

  pub own_all : (i : ℕ) (xs ys : List VertexLink) → length root.addresses ≤ i
      → Adds (OwnBelow i) xs ys → Adds (IsOwnTo root to cost address) xs ys
  own_all i xs ys done a =
      adds_same (OwnBelow i) (IsOwnTo root to cost address) xs ys
      (λ x o. (o.0, o.1, (o.2.0, o.2.1, o.2.2)))
      (λ x o. (
        o.0,
        o.1,
        (
          o.2.0,
          o.2.1,
          o.2.2,
          omega (arith, done, slice_get_within root.addresses o.2.0 address o.2.2),
        ),
      )) a

  pub own_fits : cost < 65536 → (xs ys : List VertexLink)
      → Adds (IsOwnTo root to cost address) xs ys → All CostFits xs → All CostFits ys
  own_fits fits xs ys a = adds_all (IsOwnTo root to cost address) CostFits xs ys a
      (λ x o. omega (arith, o.1, fits))

  -- ---- of the root, or of any other router

  module _ (router : ℕ) where
    pub exits_at_root : (xs ys : List VertexLink) → router ≡ root.router
        → Adds (IsOwnTo root to cost address) xs ys
        → Adds (IsExitTo root router to cost address) xs ys
    exits_at_root xs ys own a =
        adds_same (IsOwnTo root to cost address) (IsExitTo root router to cost address) xs ys
        (λ x o. (
          o.0,
          o.1,
          record {
            by_interface = λ _. o.2;
            elsewhere = λ off. absurd (off own);
          },
        ))
        (λ x e. (e.0, e.1, e.2.by_interface own)) a

    pub exit_elsewhere : (xs : List VertexLink) → (router ≡ root.router → ⊥)
        → Adds (IsExitTo root router to cost address) xs (xs ++ record {
          to = to;
          cost = cost;
          interface = 0;
        } ∷ [])
    exit_elsewhere xs off =
        let link : VertexLink = record { to = to; cost = cost; interface = 0 } in
        adds_one (IsExitTo root router to cost address) xs link (
          refl,
          refl,
          record {
            by_interface = λ own. absurd (off own);
            elsewhere = λ _. refl;
          },
        )
        (λ x e. let at : x.interface ≡ 0 = e.2.elsewhere off in let to_end = e.0 in let costs =
        e.1 in λ j. record { to = to_end j; cost = costs j; interface = at j })

    pub exits_fit : cost < 65536 → (xs ys : List VertexLink)
        → Adds (IsExitTo root router to cost address) xs ys → All CostFits xs → All CostFits ys
    exits_fit fits xs ys a = adds_all (IsExitTo root router to cost address) CostFits xs ys a
        (λ x e. omega (arith, e.1, fits))

-- ---- to the router at the far end

pub neighbor_is : (nodes : List Node) (entries : List AdvertisedLink) (router : ℕ)
    (kind : EntryKind) (id at : ℕ) → Ascend nodes → Contains nodes (ARouter router)
    → HasEntry entries router kind id
    → ((k : ℕ) (other : Node) → slice_get nodes k ≡ Some other → k < at
    → node_cmp other (ARouter router) ≡ Less)
    → ((k : ℕ) (other : Node) → slice_get nodes k ≡ Some other → at ≤ k
    → node_cmp other (ARouter router) ≡ Less → ⊥)
    → IsNeighborAt nodes entries router kind id (Some at)
neighbor_is nodes entries router kind id at ascend among has before beyond =
    (at_its_place nodes ascend (ARouter router) at among before beyond, has)

pub same_neighbor : (nodes : List Node) (entries : List AdvertisedLink) (kind : EntryKind)
    (router other id its : ℕ) (at to : Option ℕ) → router ≡ other → id ≡ its → at ≡ to
    → IsNeighborAt nodes entries router kind id at
    → IsNeighborAt nodes entries other kind its to
same_neighbor nodes entries kind router other id its at to e f g is =
    let P : ℕ → Type 0 = λ r. IsNeighborAt nodes entries r kind id at in
    let Q : ℕ → Type 0 = λ n. IsNeighborAt nodes entries other kind n at in
    let R : Option ℕ → Type 0 = λ o. IsNeighborAt nodes entries other kind its o in
    subst R g (subst Q f (subst P e is))

module _ (root : Root) (nodes : List Node) (entries : List AdvertisedLink) (router : ℕ)
    (advertised : RouterLink) where
  pub no_neighbor : (xs : List VertexLink)
      → IsNeighborAt nodes entries advertised.link_id PointToPoint router None
      → Adds (IsToRouter root nodes entries router advertised) xs xs
  no_neighbor xs none = adds_none (IsToRouter root nodes entries router advertised) xs
      (λ x t. none t.back)

  -- it has one index
  pub to_neighbor : (to : ℕ) (xs ys : List VertexLink) → Ascend nodes
      → advertised.kind ≡ kinds.PointToPoint → 0 < advertised.metric
      → IsNeighborAt nodes entries advertised.link_id PointToPoint router (Some to)
      → Adds (IsExitTo root router to advertised.metric advertised.link_data) xs ys
      → Adds (IsToRouter root nodes entries router advertised) xs ys
  to_neighbor to xs ys ascend kind counts at a =
      adds_same (IsExitTo root router to advertised.metric advertised.link_data)
      (IsToRouter root nodes entries router advertised) xs ys
      (λ x e.
      let P : ℕ → Type 0 = λ k. StandsAt nodes (ARouter advertised.link_id) k in
      record {
        is_kind = kind;
        counts = counts;
        stands = subst P (sym e.0) at.0;
        back = at.1;
        leads = (refl, e.1, e.2);
      })
      (λ x t. (
        one_place nodes ascend (ARouter advertised.link_id) x.to to t.stands at.0,
        t.leads.1,
        t.leads.2,
      )) a

-- ---- to the network of one entry

module _ (root : Root) (entries : List AdvertisedLink) (router : ℕ) (told_links : List RouterLink)
    (entry : AdvertisedLink)
  where
    pub network_at_root : (xs ys : List VertexLink) → router ≡ root.router
        → Adds (OfEach (IsOwnTransit root entry.id entry.place) told_links) xs ys
        → Adds (IsToNetwork root entries router told_links entry) xs ys
    network_at_root xs ys own a =
        adds_same (OfEach (IsOwnTransit root entry.id entry.place) told_links)
        (IsToNetwork root entries router told_links entry) xs ys (λ x o. record {
          own = λ _. o;
          other = λ off. absurd (off own);
        }) (λ x t. t.own own) a

    pub network_elsewhere : (xs ys : List VertexLink) → (router ≡ root.router → ⊥)
        → Adds (IsCheapest entries router entry) xs ys
        → Adds (IsToNetwork root entries router told_links entry) xs ys
    network_elsewhere xs ys off a =
        adds_same (IsCheapest entries router entry)
        (IsToNetwork root entries router told_links entry)
        xs ys (λ x c. record {
          own = λ own. absurd (off own);
          other = λ _. c;
        }) (λ x t. t.other off) a

module _ (entries : List AdvertisedLink) (router : ℕ) (entry : AdvertisedLink) where
  pub none_cheapest : (xs : List VertexLink) → IsLeastMetric entries router Transit entry.id 1 None
      → Adds (IsCheapest entries router entry) xs xs
  none_cheapest xs none = adds_none (IsCheapest entries router entry) xs
      (λ x c. none x.cost c.least.0 c.least.1)

  pub one_cheapest : (cost : ℕ) (xs : List VertexLink)
      → IsLeastMetric entries router Transit entry.id 1 (Some cost)
      → Adds (IsCheapest entries router entry) xs (xs ++ record {
        to = entry.place;
        cost = cost;
        interface = 0;
      } ∷ [])
  one_cheapest cost xs least =
      let link : VertexLink = record { to = entry.place; cost = cost; interface = 0 } in
      adds_one (IsCheapest entries router entry) xs link (record {
        same_end = refl;
        least = least;
        exit = refl;
      })
      (λ x c.
      let to = c.same_end in
      let exit = c.exit in
      let costs : x.cost ≡ cost = omega
      (arith, c.least.2 cost least.0 least.1, least.2 x.cost c.least.0 c.least.1) in
      λ j. record { to = to j; cost = costs j; interface = exit j })

-- ---- to the networks of all entries that list the router

module _ (root : Root) (entries : List AdvertisedLink) (router : ℕ) (told_links : List RouterLink)
  where
    abbrev To : AdvertisedLink → VertexLink → Type 0
    To = IsToNetwork root entries router told_links

    abbrev ToSome : VertexLink → Type 0
    ToSome = IsToSomeNetwork root entries router told_links

    abbrev pub WalkedTo : ℕ → VertexLink → Type 0
    WalkedTo at link = (k : ℕ) × (entry : AdvertisedLink) × (slice_get entries k ≡ Some entry)
        × (entry.router ≡ router) × (entry.kind ≡ Attached) × (k < at) × To entry link

    pub walk_none : (first : ℕ) (xs : List VertexLink)
        → ((k : ℕ) (other : AdvertisedLink) → slice_get entries k ≡ Some other → k < first
        → entry_cmp other (attached_entry 0 0 router) ≡ Less) → Adds (WalkedTo first) xs xs
    walk_none first xs before =
        adds_none (WalkedTo first) xs
        (λ x o. not_before (attached_entry 0 0 router) o.1 o.3 o.4 (omega arith) (omega arith)
        (omega arith) (before o.0 o.1 o.2 o.5))

    pub walk_more : (at : ℕ) (entry : AdvertisedLink) (xs ys zs : List VertexLink)
        → slice_get entries at ≡ Some entry → entry.router ≡ router → entry.kind ≡ Attached
        → Adds (WalkedTo at) xs ys → Adds (To entry) ys zs → Adds (WalkedTo (at + 1)) xs zs
    walk_more at entry xs ys zs here is_router is_kind a b =
        adds_both (WalkedTo at) (To entry) (WalkedTo (at + 1)) xs ys zs a b
        (λ x o. elim (cases_lt o.0 at) [
          | inl lt ↦ inl (o.0, o.1, o.2, o.3, o.4, lt, o.6)
          | inr past ↦
              let same : o.0 ≡ at = omega (arith, o.5, past) in
              let P : ℕ → Type 0 = λ k. slice_get entries k ≡ Some o.1 in
              let Q : AdvertisedLink → Type 0 = λ e. To e x in
              inr (subst Q (same_Some o.1 entry (sym (subst P same o.2) ∙ here)) o.6)
        ])
        (λ x o. (o.0, o.1, o.2, o.3, o.4, omega (arith, o.5), o.6))
        (λ x t. (at, entry, here, is_router, is_kind, omega arith, t))

    walked : (at : ℕ) (x : VertexLink) → WalkedTo at x → ToSome x
    walked at x o = record {
      entry = o.1;
      among = contained entries o.0 o.1 o.2;
      is_router = o.3;
      is_kind = o.4;
      leads = o.6;
    }

    pub walk_end : (at : ℕ) (xs ys : List VertexLink) → length entries ≤ at
        → Adds (WalkedTo at) xs ys → Adds ToSome xs ys
    walk_end at xs ys done a =
        adds_same (WalkedTo at) ToSome xs ys (walked at)
        (λ x s. let stands = placed entries s.entry s.among in (
          stands.0,
          s.entry,
          stands.1,
          s.is_router,
          s.is_kind,
          omega (arith, done, slice_get_within entries stands.0 s.entry stands.1),
          s.leads,
        )) a

    pub walk_stop : (first at : ℕ) (entry : AdvertisedLink) (xs ys : List VertexLink)
        → IsSorted entry_cmp entries → ((k : ℕ) (other : AdvertisedLink)
        → slice_get entries k ≡ Some other → first ≤ k
        → entry_cmp other (attached_entry 0 0 router) ≡ Less → ⊥) → first ≤ at
        → slice_get entries at ≡ Some entry
        → (entry.router ≡ router → entry.kind ≡ Attached → ⊥)
        → Adds (WalkedTo at) xs ys → Adds ToSome xs ys
    walk_stop first at entry xs ys sorted beyond low here never a =
        adds_same (WalkedTo at) ToSome xs ys (walked at)
        (λ x s.
        let stands = placed entries s.entry s.among in
        elim (cases_lt stands.0 at) [
          | inl lt ↦ (stands.0, s.entry, stands.1, s.is_router, s.is_kind, lt, s.leads)
          | inr past ↦
              let o = of_kind (attached_entry 0 0 router) entry s.entry s.is_router s.is_kind
              (beyond at entry here low) (in_order entries sorted at stands.0 entry s.entry here
              stands.1 past) in
              absurd (never o.router o.kind)
        ]) a

-- ---- from a network

module _ (nodes : List Node) (entries : List AdvertisedLink) (id router : ℕ) where
  pub not_listed : (xs : List VertexLink) → IsNeighborAt nodes entries router Transit id None
      → Adds (IsToListed nodes entries id router) xs xs
  not_listed xs none = adds_none (IsToListed nodes entries id router) xs (λ x t. none t.back)

  pub to_listed : (to : ℕ) (xs : List VertexLink) → Ascend nodes
      → IsNeighborAt nodes entries router Transit id (Some to)
      → Adds (IsToListed nodes entries id router) xs (xs ++ record {
        to = to;
        cost = 0;
        interface = 0;
      } ∷ [])
  to_listed to xs ascend at =
      let link : VertexLink = record { to = to; cost = 0; interface = 0 } in
      adds_one (IsToListed nodes entries id router) xs link (record {
        stands = at.0;
        back = at.1;
        free = refl;
        exit = refl;
      })
      (λ x t.
      let same = one_place nodes ascend (ARouter router) x.to to t.stands at.0 in
      let free = t.free in
      let exit = t.exit in
      λ j. record { to = same j; cost = free j; interface = exit j })
