-- Labels over routers and transit networks, checked link by link, and the offers within the area of
-- a database that is given as a list of copies and may have network-LSAs.
use Rattle.std.proofs.Common.{◌≡◌, ℕ, ◌+◌, ◌≤◌, ◌⊎◌, inl, inr, Bool, true, false, ◌&&◌, ◌||◌, not}
use Rattle.std.proofs.Common.{IsTrue, nat_eq, nat_lt, ltb-true, eqb-true, eq-eqb, List, [], ◌∷◌}
use Rattle.std.proofs.Common.{◌++◌, map, filter, bit_or, arith, refl, sym, ◌∙◌, ap, subst}
use Rattle.std.specs.List.{Contains, list_all}
use Rattle.std.proofs.lemmas.List.Elements.{Contains-append_left, Contains-append_right}
use Rattle.words.specs.Interfaces.{has_interface}
use Rattle.words.specs.Prefixes.{Network, mask_of, network_address}
use Rattle.words.specs.declared.key.Key.{Key}
use Rattle.lsa.specs.declared.body.LsaBody.{LsaBody}
use Rattle.lsa.specs.declared.body.LsaBody.TheVariants as body
use Rattle.lsa.specs.declared.body.RouterLink.{RouterLink}
use Rattle.lsa.specs.declared.body.LinkKind.{LinkKind}
use Rattle.lsa.specs.declared.body.LinkKind.TheVariants.{PointToPoint, Stub, Transit, Virtual}
use Rattle.lsa.specs.declared.body.NetworkLsa.{NetworkLsa}
use Rattle.routes.specs.Links.{Counts, Leads, LeadsTo, ListsRouter}
use Rattle.routes.specs.declared.node.Node.{Node}
use Rattle.routes.specs.declared.node.Node.TheVariants.{ANetwork, ARouter}
use Rattle.routes.specs.Offers.{Attaches, OffersWithin, intra}
use Rattle.routes.specs.declared.offer.Offer.{Offer}
use Rattle.routes.specs.Paths.{IsWalk, IsWay, Step, Way}
use Rattle.route_laws.specs.Worked.{Entries, database}
use Rattle.routes.specs.declared.root.Root.{Root}
use Rattle.route_laws.proofs.Alone.{Known, by_stub, is_stub, kind_is_stub}
use Rattle.routes.proofs.Prefixes.{one_prefix}
use Rattle.routes.proofs.Determined.{one_way}
use Rattle.route_laws.proofs.Entries.{Sayings, all_pass, both_true, has_link, kept, links_of}
use Rattle.route_laws.proofs.Entries.{mapped, is_said, sayings}
use Rattle.route_laws.proofs.Labels.{AreLabels, either_true, exit_of, exits_in, is_point, not_both}
use Rattle.route_laws.proofs.Labels.{subset}
use Rattle.routes.proofs.Lists.{of_cons, of_empty}
use Rattle.routes.specs.Contents.{Contents, contents_at}

-- ---- the routers that the network-LSAs list, by network

abbrev pub Member : Type 0
Member = (ℕ × ℕ) × ℕ

abbrev pub listed_by : Key → LsaBody → List Member
listed_by k (body.Router r) = []
listed_by k (body.Network n) = map
    (λ (router : ℕ). ((k.link_state_id, k.advertising_router), router)) n.attached
listed_by k (body.NetworkSummary s) = []
listed_by k (body.RouterSummary s) = []
listed_by k (body.External e) = []

abbrev pub members_of : Sayings → List Member
members_of [] = []
members_of (s ∷ ss) = listed_by s.0 s.1 ++ members_of ss

member : (ss : Sayings) (k : Key) (n : NetworkLsa) (router : ℕ) → Contains ss (k, body.Network n)
    → Contains n.attached router → Contains (members_of ss)
    ((k.link_state_id, k.advertising_router), router)
member [] k n router t among = absurd (of_empty (k, body.Network n) t)
member (s ∷ ss) k n router t among =
    let m : Member = ((k.link_state_id, k.advertising_router), router) in
    elim (of_cons s ss (k, body.Network n) t) [
      | inl e ↦
          let P : Key × LsaBody → Type 0 = λ x. Contains (listed_by x.0 x.1 ++ members_of ss) m in
          subst P (sym e) (Contains-append_left (listed_by k (body.Network n)) (members_of ss) m
          (mapped (λ (x : ℕ). ((k.link_state_id, k.advertising_router), x)) n.attached router
          among))
      | inr later ↦ Contains-append_right (listed_by s.0 s.1) (members_of ss) m
          (member ss k n router later among)
    ]

pub has_member : (moment : ℕ) (es : Entries) (id by router : ℕ)
    → ListsRouter (contents_at moment (database es)) id by router
    → Contains (members_of (sayings es)) ((id, by), router)
has_member moment es id by router l = member (sayings es) (record {
  ls_type = 2;
  link_state_id = id;
  advertising_router = by;
}) l.lsa router
    (is_said moment es _ (body.Network l.lsa) l.its) l.among

-- ---- labels

abbrev pub at : (ℕ → ℕ) → (ℕ → ℕ → ℕ) → Node → ℕ
at f g (ARouter router) = f router
at f g (ANetwork id by) = g id by

abbrev pub is_transit : LinkKind → Bool
is_transit Transit = true
is_transit PointToPoint = false
is_transit Stub = false
is_transit Virtual = false

-- a link leads to more than its end's distance, or to exactly that with the next hops
abbrev pub rises : ℕ → ℕ → ℕ → ℕ → ℕ → Bool → Bool
rises dv hv price dw hw exits = nat_lt dw (dv + price) ||
    (nat_eq dw (dv + price) && (nat_eq (bit_or hv hw) hw && exits))

abbrev pub leaves_by : Root → ℕ → RouterLink → ℕ → Bool
leaves_by root router l hops = not (nat_eq router root.router) || exits_in root.addresses
    l.link_data 0 hops

abbrev pub point_rises : Root → (ℕ → ℕ) → (ℕ → ℕ) → ℕ × RouterLink → Bool
point_rises root dr hr x = not (is_point x.1.kind) || rises (dr x.0) (hr x.0) x.1.metric
    (dr x.1.link_id) (hr x.1.link_id) (leaves_by root x.0 x.1 (hr x.1.link_id))

-- the link is between this router and this network
abbrev pub between : Member → ℕ × RouterLink → Bool → Bool
between m x says = not (is_transit x.1.kind) ||
    (not (nat_eq x.0 m.1) || (not (nat_eq x.1.link_id m.0.0) || says))

abbrev pub enter_rises : Root → (ℕ → ℕ) → (ℕ → ℕ) → (ℕ → ℕ → ℕ) → (ℕ → ℕ → ℕ) → Member
    → ℕ × RouterLink → Bool
enter_rises root dr hr dn hn m x =
    between m x (rises (dr x.0) (hr x.0) x.1.metric (dn m.0.0 m.0.1) (hn m.0.0 m.0.1)
    (leaves_by root x.0 x.1 (hn m.0.0 m.0.1)))

abbrev pub leave_rises : (ℕ → ℕ) → (ℕ → ℕ) → (ℕ → ℕ → ℕ) → (ℕ → ℕ → ℕ) → Member → ℕ × RouterLink
    → Bool
leave_rises dr hr dn hn m x = between m x
    (rises (dn m.0.0 m.0.1) (hn m.0.0 m.0.1) 0 (dr m.1) (hr m.1) true)

pub record AreRising (root : Root) (ss : Sayings) (dr hr : ℕ → ℕ) (dn hn : ℕ → ℕ → ℕ) : Type 0 where
  pub start : dr root.router ≡ 0
  pub points : list_all (point_rises root dr hr) (links_of ss) ≡ true
  pub enters : list_all (λ m. list_all (enter_rises root dr hr dn hn m) (links_of ss))
      (members_of ss) ≡ true
  pub leaves : list_all (λ m. list_all (leave_rises dr hr dn hn m) (links_of ss)) (members_of ss)
      ≡ true

pub pass : (a b : Bool) → (not a || b) ≡ true → a ≡ true → b ≡ true
pass true b e t = e
pass false b e t = absurd (cc)

record Rise (dv hv price dw hw : ℕ) (exits : Bool) : Type 0 where
  low : dw ≤ dv + price
  along : dw ≡ dv + price → bit_or hv hw ≡ hw
  leave : dw ≡ dv + price → exits ≡ true

rise : (dv hv price dw hw : ℕ) (exits : Bool) → rises dv hv price dw hw exits ≡ true
    → Rise dv hv price dw hw exits
rise dv hv price dw hw exits e =
    elim (either_true (nat_lt dw (dv + price))
    (nat_eq dw (dv + price) && (nat_eq (bit_or hv hw) hw && exits)) e) [
      | inl less ↦
          let lt = ltb-true dw (dv + price) less in
          record {
            low = omega (arith, lt);
            along = λ same. absurd (omega (arith, lt, same));
            leave = λ same. absurd (omega (arith, lt, same));
          }
      | inr tight ↦
          let parts = both_true (nat_eq dw (dv + price)) (nat_eq (bit_or hv hw) hw && exits) tight
          in
          let rest = both_true (nat_eq (bit_or hv hw) hw) exits parts.1 in
          let equal : dw ≡ dv + price = eqb-true dw (dv + price) parts.0 in
          record {
            low = omega (arith, equal);
            along = λ _. eqb-true (bit_or hv hw) hw rest.0;
            leave = λ _. rest.1;
          }
    ]

record Edge (dv hv price dw hw : ℕ) (AtRoot : Type 0) (exit : ℕ) : Type 0 where
  low : dw ≤ dv + price
  along : dw ≡ dv + price → bit_or hv hw ≡ hw
  exits : AtRoot → dw ≡ dv + price → IsTrue (has_interface hw exit)

module _ (root : Root) (moment : ℕ) (es : Entries) (dr hr : ℕ → ℕ) (dn hn : ℕ → ℕ → ℕ)
    (are : AreRising root (sayings es) dr hr dn hn) where
  by_link : (router price exit dw hw : ℕ) (kind : LinkKind) (id : ℕ)
      (k : Counts (contents_at moment (database es)) root router kind id price exit)
      → rises (dr router) (hr router) k.link.metric dw hw (leaves_by root router k.link hw)
      ≡ true → Edge (dr router) (hr router) price dw hw
      (ARouter router ≡ ARouter root.router) exit
  by_link router price exit dw hw kind id k e =
      let r = rise (dr router) (hr router) k.link.metric dw hw (leaves_by root router k.link hw) e
      in
      let P : ℕ → Type 0 = λ p. Edge (dr router) (hr router) p dw hw
      (ARouter router ≡ ARouter root.router) exit in
      subst P k.costs (record {
        low = r.low;
        along = r.along;
        exits = λ at_root same.
            let here : router ≡ root.router = cc in
            elim (either_true (not (nat_eq router root.router))
            (exits_in root.addresses k.link.link_data 0 hw) (r.leave same)) [
              | inl other ↦ absurd (not_both (nat_eq router root.router) other
                  (eq-eqb router root.router here))
              | inr all ↦
                  let by = k.by_interface here in
                  let Q : ℕ → Type 0 = λ n. IsTrue (has_interface hw n) in
                  let number : 0 + by.0 + 1 ≡ exit = omega (arith, by.1) in
                  subst Q number (exit_of root.addresses k.link.link_data 0 hw by.0 all by.2)
            ];
      })

  is_between : (m : Member) (x : ℕ × RouterLink) (says : Bool) → between m x says ≡ true
      → is_transit x.1.kind ≡ true → x.0 ≡ m.1 → x.1.link_id ≡ m.0.0 → says ≡ true
  is_between m x says e kind router id =
      let first = pass (is_transit x.1.kind)
      (not (nat_eq x.0 m.1) || (not (nat_eq x.1.link_id m.0.0) || says)) e kind in
      let second = pass (nat_eq x.0 m.1) (not (nat_eq x.1.link_id m.0.0) || says) first
      (eq-eqb x.0 m.1 router) in
      pass (nat_eq x.1.link_id m.0.0) says second (eq-eqb x.1.link_id m.0.0 id)

  edge : (v w : Node) (price exit : ℕ) → LeadsTo (contents_at moment (database es)) root v w price
      exit
      → Edge (at dr dn v) (at hr hn v) price (at dr dn w) (at hr hn w) (v ≡ ARouter root.router)
      exit
  edge (ARouter a) (ARouter b) price exit l =
      let k = l.0 in
      let checked_it : point_rises root dr hr (a, k.link) ≡ true =
      all_pass (point_rises root dr hr) (links_of (sayings es)) are.points (a, k.link)
      (has_link moment es a k.link k.its) in
      let e = pass (is_point k.link.kind)
      (rises (dr a) (hr a) k.link.metric (dr k.link.link_id) (hr k.link.link_id)
      (leaves_by root a k.link (hr k.link.link_id))) checked_it (ap is_point k.is_kind) in
      let P : ℕ → Type 0 = λ id. Edge (dr a) (hr a) price (dr id) (hr id)
      (ARouter a ≡ ARouter root.router) exit in
      subst P k.is_id (by_link a price exit (dr k.link.link_id) (hr k.link.link_id) PointToPoint b k
      e)
  edge (ARouter a) (ANetwork id by) price exit l =
      let k = l.0 in
      let m : Member = ((id, by), a) in
      let row = all_pass (λ (x : Member). list_all (enter_rises root dr hr dn hn x)
      (links_of (sayings es))) (members_of (sayings es)) are.enters m
      (has_member moment es id by a l.1) in
      let checked_it = all_pass (enter_rises root dr hr dn hn m) (links_of (sayings es)) row
      (a, k.link) (has_link moment es a k.link k.its) in
      let e = is_between m (a, k.link)
      (rises (dr a) (hr a) k.link.metric (dn id by) (hn id by)
      (leaves_by root a k.link (hn id by))) checked_it (ap is_transit k.is_kind) refl
      k.is_id in
      by_link a price exit (dn id by) (hn id by) Transit id k e
  edge (ANetwork id by) (ARouter b) price exit l =
      let m : Member = ((id, by), b) in
      let back : RouterLink = l.1.0 in
      let row = all_pass (λ (x : Member). list_all (leave_rises dr hr dn hn x)
      (links_of (sayings es))) (members_of (sayings es)) are.leaves m
      (has_member moment es id by b l.0) in
      let checked_it = all_pass (leave_rises dr hr dn hn m) (links_of (sayings es)) row (b, back)
      (has_link moment es b back l.1.1) in
      let e = is_between m (b, back) (rises (dn id by) (hn id by) 0 (dr b) (hr b) true) checked_it
      (ap is_transit l.1.2) refl l.1.3 in
      let r = rise (dn id by) (hn id by) 0 (dr b) (hr b) true e in
      let P : ℕ → Type 0 = λ p. Edge (dn id by) (hn id by) p (dr b) (hr b)
      (ANetwork id by ≡ ARouter root.router) exit in
      subst P (sym l.2) (record { low = r.low; along = r.along; exits = λ at_root. absurd (cc) })
  edge (ANetwork id by) (ANetwork other its) price exit l = absurd l

  pub rising : AreLabels (Leads (contents_at moment (database es)) root) (ARouter root.router)
      (at dr dn) (at hr hn)
  rising = record {
    start = are.start;
    low = λ v s l. (edge v s.target s.cost s.exit l).low;
    along = λ v s l same i t. subset (at hr hn v) (at hr hn s.target) i
        ((edge v s.target s.cost s.exit l).along same) t;
    exits = λ s l same. (edge (ARouter root.router) s.target s.cost s.exit l).exits refl same;
  }

-- ---- routers to which no link leads

arrives : {V : Type 0} (leads : V → Step V → Type 0) (from : V) (walk : List (Step V)) (to : V)
    → IsWalk leads from walk to → (from ≡ to)
    ⊎ ((v : V) × (s : Step V) × leads v s × (s.target ≡ to))
arrives leads from [] to p = inl p
arrives leads from (s ∷ rest) to p =
    elim (arrives leads s.target rest to p.1) [
      | inl e ↦ inr (from, s, p.0, e)
      | inr k ↦ inr k
    ]

abbrev pub has_stubs_alone : ℕ → ℕ × RouterLink → Bool
has_stubs_alone router x = not (nat_eq x.0 router) || kind_is_stub x.1.kind

module _ (root : Root) (moment : ℕ) (es : Entries) (router : ℕ)
    (stubs : list_all (has_stubs_alone router) (links_of (sayings es)) ≡ true) where
  no_link : (v : Node) (price exit : ℕ)
      → LeadsTo (contents_at moment (database es)) root v (ARouter router) price exit → ⊥
  no_link (ARouter a) price exit l =
      let e = pass (nat_eq router router) (kind_is_stub l.1.0.kind)
      (all_pass (has_stubs_alone router) (links_of (sayings es)) stubs (router, l.1.0)
      (has_link moment es router l.1.0 l.1.1)) (eq-eqb router router refl) in
      let f : false ≡ true = sym (ap kind_is_stub l.1.2) ∙ e in
      cc
  no_link (ANetwork id by) price exit l =
      let e = pass (nat_eq router router) (kind_is_stub l.1.0.kind)
      (all_pass (has_stubs_alone router) (links_of (sayings es)) stubs (router, l.1.0)
      (has_link moment es router l.1.0 l.1.1)) (eq-eqb router router refl) in
      let f : false ≡ true = sym (ap kind_is_stub l.1.2) ∙ e in
      cc

  pub unreached : (root.router ≡ router → ⊥) → (way : Way)
      → IsWay (Leads (contents_at moment (database es)) root) (ARouter root.router)
      (ARouter router) way
      → ⊥
  unreached other way is =
      elim (arrives (Leads (contents_at moment (database es)) root) (ARouter root.router)
      is.distance.0
      (ARouter router) is.distance.1.is_walk) [
        | inl e ↦ let same : root.router ≡ router = cc in other same
        | inr k ↦
            let P : Node → Type 0 = λ w. LeadsTo (contents_at moment (database es)) root k.0 w
            k.1.cost
            k.1.exit in
            no_link k.0 k.1.cost k.1.exit (subst P k.3 k.2)
      ]

-- ---- the offers within the area

-- a network whose way is known
pub record NetworkOffer (contents : Contents) (root : Root) (id by : ℕ) (lsa : NetworkLsa)
    (length : ℕ)
    (o : Offer) : Type 0 where
  pub way : Way
  pub reached : IsWay (Leads contents root) (ARouter root.router) (ANetwork id by) way
  pub within : length ≤ 32
  pub mask : lsa.mask ≡ mask_of length
  pub is : intra (record {
    address = network_address length id;
    length = length;
  }) (way.distance + 0) way.hops ≡ o

module _ (moment : ℕ) (es : Entries) (root : Root) (P : Offer → Type 0) where
  -- the router of a stub link isn't reached, or its offer has the property P
  abbrev pub IsStubKnown : ℕ → RouterLink → Type 0
  IsStubKnown router l =
      ((way : Way) → IsWay (Leads (contents_at moment (database es)) root) (ARouter root.router)
      (ARouter router) way → ⊥)
      ⊎ Known moment es root P router l

  abbrev pub IsNetworkKnown : ℕ → ℕ → NetworkLsa → Type 0
  IsNetworkKnown id by lsa = (length : ℕ) × (o : Offer)
      × NetworkOffer (contents_at moment (database es)) root id by lsa length o × P o

  module _ (stubs : (router : ℕ) (l : RouterLink)
      → Contains (filter is_stub (links_of (sayings es))) (router, l) → IsStubKnown router l)
      (networks : (id by : ℕ) (lsa : NetworkLsa) → Contains (sayings es) (
        record {
          ls_type = 2;
          link_state_id = id;
          advertising_router = by;
        },
        body.Network lsa,
      )
      → IsNetworkKnown id by lsa) where
    by_node : (node : Node) (prefix : Network) (more : ℕ)
        → Attaches (contents_at moment (database es)) node prefix more → (way : Way)
        → IsWay (Leads (contents_at moment (database es)) root) (ARouter root.router) node way
        → (hops : ℕ) → (node ≡ ARouter root.router → hops ≡ 1)
        → ((node ≡ ARouter root.router → ⊥) → hops ≡ way.hops)
        → P (intra prefix (way.distance + more) hops)
    by_node (ANetwork id by) prefix more a way reached hops by_root by_others =
        let k = networks id by a.0 (is_said moment es _ (body.Network a.0) a.1) in
        let p : record {
          address = network_address k.0 id;
          length = k.0;
        } ≡ prefix =
        one_prefix id a.0.mask k.0 prefix k.2.within k.2.mask a.2 in
        let w : k.2.way ≡ way = one_way (Leads (contents_at moment (database es)) root)
        (ARouter root.router) (ANetwork id by) k.2.way way k.2.reached reached in
        let m : 0 ≡ more = sym a.3 in
        let h : k.2.way.hops ≡ hops = ap (λ (x : Way). x.hops) w ∙ sym (by_others (λ e. cc)) in
        let same : k.1 ≡ intra prefix (way.distance + more) hops = sym k.2.is
        ∙ (λ i. intra (p i) ((w i).distance + m i) (h i)) in
        subst P same k.3
    by_node (ARouter router) prefix more a way reached hops by_root by_others =
        let l : RouterLink = a.0 in
        elim (stubs router l (kept is_stub (links_of (sayings es)) (router, l)
        (has_link moment es router l a.1) (ap kind_is_stub a.2))) [
          | inl never ↦ absurd (never way reached)
          | inr k ↦
              by_stub moment es root P router prefix more a k way reached hops by_root by_others
        ]

    pub each_offer : (o : Offer) → OffersWithin (contents_at moment (database es)) root o → P o
    each_offer o x = subst P (sym x.is)
        (by_node x.node x.prefix x.more x.attached x.way x.reached x.hops x.by_root x.by_others)
