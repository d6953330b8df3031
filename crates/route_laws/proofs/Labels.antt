-- Labels of the vertices by which a way is checked: a distance and next hops that no link improves,
-- and walks that have them.
use Rattle.std.proofs.Common.{◌≡◌, ℕ, zero, suc, ◌+◌, ◌<◌, ◌≤◌, ◌⊎◌, inl, inr, Bool, true, false}
use Rattle.std.proofs.Common.{◌&&◌, ◌||◌, not, IsTrue, nat_eq, nat_lt, ltb-true, eqb-true, eq-eqb}
use Rattle.std.proofs.Common.{List, [], ◌∷◌, Some, slice_get, bit_or, max, arith, refl, sym, ◌∙◌}
use Rattle.std.proofs.Common.{ap, subst}
use Rattle.std.specs.Int.{bit_at}
use Rattle.std.specs.List.{list_all}
use Rattle.std.proofs.lemmas.Nat.Bits.{bit_at-lt, bit_at_or}
use Rattle.words.specs.Interfaces.{has_interface}
use Rattle.lsa.specs.declared.body.LsaBody.TheVariants as body
use Rattle.lsa.specs.declared.body.RouterLink.{RouterLink}
use Rattle.lsa.specs.declared.body.LinkKind.{LinkKind}
use Rattle.lsa.specs.declared.body.LinkKind.TheVariants.{PointToPoint, Stub, Transit, Virtual}
use Rattle.routes.specs.Links.{Counts, Leads, LeadsTo, ListsRouter}
use Rattle.routes.specs.declared.node.Node.{Node}
use Rattle.routes.specs.declared.node.Node.TheVariants.{ANetwork, ARouter}
use Rattle.routes.specs.Paths.{IsLeastWalk, IsWalk, IsWay, Step, cost_of}
use Rattle.route_laws.specs.Worked.{Entries, database}
use Rattle.routes.specs.declared.root.Root.{Root}
use Rattle.routes.proofs.Determined.{bit_of_member, is_member}
use Rattle.route_laws.proofs.Entries.{Sayings, all_pass, both_true, has_link, is_no_network}
use Rattle.route_laws.proofs.Entries.{links_of, is_said, sayings}
use Rattle.routes.specs.Contents.{contents_at}

-- ---- labels over any links

-- no link leads to less than its end's distance, and one that leads to exactly that passes the next
-- hops on
pub record AreLabels {V : Type 0} (leads : V → Step V → Type 0) (from : V) (distance hops : V → ℕ) :
    Type 0 where
  pub start : distance from ≡ 0
  pub low : (v : V) (s : Step V) → leads v s → distance s.target ≤ distance v + s.cost
  pub along : (v : V) (s : Step V) → leads v s → distance s.target ≡ distance v + s.cost → (i : ℕ)
      → IsTrue (has_interface (hops v) i) → IsTrue (has_interface (hops s.target) i)
  pub exits : (s : Step V) → leads from s → distance s.target ≡ distance from + s.cost
      → IsTrue (has_interface (hops s.target) s.exit)

module _ {V : Type 0} (leads : V → Step V → Type 0) (from : V) (distance hops : V → ℕ)
    (are : AreLabels leads from distance hops) where
  costs : (v : V) (walk : List (Step V)) (w : V) → IsWalk leads v walk w → distance w
      ≤ distance v + cost_of walk
  costs v [] w p = let e : distance v ≡ distance w = ap distance p in omega (arith, e)
  costs v (s ∷ walk) w p = omega (arith, are.low v s p.0, costs s.target walk w p.1)

  carries : (v : V) (walk : List (Step V)) (w : V) → IsWalk leads v walk w → distance w
      ≡ distance v + cost_of walk → (i : ℕ) → IsTrue (has_interface (hops v) i)
      → IsTrue (has_interface (hops w) i)
  carries v [] w p e i t = let P : V → Type 0 = λ x. IsTrue (has_interface (hops x) i) in
      subst P p t
  carries v (s ∷ walk) w p e i t =
      let low : distance s.target ≤ distance v + s.cost = are.low v s p.0 in
      let rest : distance w ≤ distance s.target + cost_of walk = costs s.target walk w p.1 in
      carries s.target walk w p.1 (omega (arith, low, rest, e)) i
      (are.along v s p.0 (omega (arith, low, rest, e)) i t)

  leaves : (s : Step V) (walk : List (Step V)) (w : V) → IsWalk leads from (s ∷ walk) w → distance w
      ≡ cost_of (s ∷ walk) → IsTrue (has_interface (hops w) s.exit)
  leaves s walk w p e =
      let low : distance s.target ≤ distance from + s.cost = are.low from s p.0 in
      let rest : distance w ≤ distance s.target + cost_of walk = costs s.target walk w p.1 in
      carries s.target walk w p.1 (omega (arith, low, rest, e, are.start)) s.exit
      (are.exits s p.0 (omega (arith, low, rest, e, are.start)))

  least : (walk : List (Step V)) (w : V) → IsWalk leads from walk w → cost_of walk ≡ distance w
      → IsLeastWalk leads from walk w
  least walk w p e = record {
    is_walk = p;
    least = λ other q. omega (arith, e, are.start, costs from other w q);
  }

  -- a walk with exactly the distance, and one for each next hop, make the labels the way
  pub way_by : (w : V) (walk : List (Step V)) → IsWalk leads from walk w → cost_of walk
      ≡ distance w → ((i : ℕ) → IsTrue (has_interface (hops w) i) → (first : Step V)
      × (rest : List (Step V)) × IsWalk leads from (first ∷ rest) w
      × (cost_of (first ∷ rest) ≡ distance w) × (first.exit ≡ i))
      → IsWay leads from w (record { distance = distance w; hops = hops w })
  way_by w walk p e each = record {
    distance = (walk, least walk w p e, e);
    hops = λ i. (
      (λ t. let k = each i t in (k.0, k.1, least (k.0 ∷ k.1) w k.2 k.3, k.4)),
      (λ k.
          let same : distance w ≡ cost_of (k.0 ∷ k.1) =
          omega (arith, e, k.2.least walk p, costs from (k.0 ∷ k.1) w k.2.is_walk, are.start) in
          let P : ℕ → Type 0 = λ n. IsTrue (has_interface (hops w) n) in
          subst P k.3 (leaves k.0 k.1 w k.2.is_walk same)),
    );
  }

-- ---- labels over routers on point-to-point links, checked link by link

abbrev pub is_point : LinkKind → Bool
is_point PointToPoint = true
is_point Transit = false
is_point Stub = false
is_point Virtual = false

-- each index of the Link Data among the root's addresses is a next hop
abbrev pub exits_in : List ℕ → ℕ → ℕ → ℕ → Bool
exits_in [] address n hops = true
exits_in (a ∷ addresses) address n hops =
    (not (nat_eq a address) || has_interface hops (n + 1)) && exits_in addresses address (n + 1)
    hops

pub either_true : (a b : Bool) → (a || b) ≡ true → (a ≡ true) ⊎ (b ≡ true)
either_true true b e = inl refl
either_true false b e = inr e

pub or_left : (a b : Bool) → a ≡ true → (a || b) ≡ true
or_left true b e = refl
or_left false b e = absurd (cc)

pub or_right : (a b : Bool) → b ≡ true → (a || b) ≡ true
or_right true b e = refl
or_right false b e = e

pub not_both : (b : Bool) → not b ≡ true → b ≡ true → ⊥
not_both true e f = cc
not_both false e f = cc

pub exit_of : (addresses : List ℕ) (address n hops k : ℕ) → exits_in addresses address n hops ≡ true
    → slice_get addresses k ≡ Some address → IsTrue (has_interface hops (n + k + 1))
exit_of [] address n hops k e p = absurd (cc)
exit_of (a ∷ addresses) address n hops zero e p =
    let same : a ≡ address = cc in
    elim (either_true (not (nat_eq a address)) (has_interface hops (n + 1))
    (both_true _ (exits_in addresses address (n + 1) hops) e).0) [
      | inl other ↦ absurd (not_both (nat_eq a address) other (eq-eqb a address same))
      | inr t ↦ let P : ℕ → Type 0 = λ x. IsTrue (has_interface hops x) in let same : n + 1
          ≡ n + zero + 1 = omega arith in subst P same t
    ]
exit_of (a ∷ addresses) address n hops (suc k) e p =
    let rest = exit_of addresses address (n + 1) hops k
    (both_true (not (nat_eq a address) || has_interface hops (n + 1))
    (exits_in addresses address (n + 1) hops) e).1 p in
    let P : ℕ → Type 0 = λ x. IsTrue (has_interface hops x) in
    let same : n + 1 + k + 1 ≡ n + suc k + 1 = omega arith in
    subst P same rest

-- a point-to-point link leads to more than its end's distance, or to exactly that with the next
-- hops
abbrev pub carries_on : Root → (ℕ → ℕ) → ℕ → RouterLink → Bool
carries_on root hops router l = nat_eq (bit_or (hops router) (hops l.link_id)) (hops l.link_id) &&
    (not (nat_eq router root.router) || exits_in root.addresses l.link_data 0 (hops l.link_id))

abbrev pub fits_link : Root → (ℕ → ℕ) → (ℕ → ℕ) → ℕ → RouterLink → Bool
fits_link root distance hops router l =
    nat_lt (distance l.link_id) (distance router + l.metric) ||
    (nat_eq (distance l.link_id) (distance router + l.metric) && carries_on root hops router l)

abbrev pub fits : Root → (ℕ → ℕ) → (ℕ → ℕ) → ℕ × RouterLink → Bool
fits root distance hops x = not (is_point x.1.kind) || fits_link root distance hops x.0 x.1

pub record AreChecked (root : Root) (ss : Sayings) (distance hops : ℕ → ℕ) : Type 0 where
  pub start : distance root.router ≡ 0
  pub routers : list_all is_no_network ss ≡ true
  pub links : list_all (fits root distance hops) (links_of ss) ≡ true

-- the label of a router; there are no networks
abbrev pub at_node : (ℕ → ℕ) → Node → ℕ
at_node f (ARouter router) = f router
at_node f (ANetwork id by) = 0

pub subset : (a b i : ℕ) → bit_or a b ≡ b → IsTrue (has_interface a i) → IsTrue (has_interface b i)
subset a b i e t =
    let bit : bit_at b i ≡ max (bit_at a i) (bit_at b i) = ap (λ n. bit_at n i) (sym e)
    ∙ bit_at_or a b i in
    is_member b i (let one : bit_at a i ≡ 1 = bit_of_member a i t in let two : bit_at b i < 2 =
    bit_at-lt b i in omega (arith, bit, one, two))

record Facts (root : Root) (distance hops : ℕ → ℕ) (v w : Node) (price exit : ℕ) : Type 0 where
  low : at_node distance w ≤ at_node distance v + price
  along : at_node distance w ≡ at_node distance v + price → bit_or (at_node hops v) (at_node hops w)
      ≡ at_node hops w
  exits : v ≡ ARouter root.router → at_node distance w ≡ at_node distance v + price
      → IsTrue (has_interface (at_node hops w) exit)

module _ (root : Root) (moment : ℕ) (es : Entries) (distance hops : ℕ → ℕ)
    (are : AreChecked root (sayings es) distance hops) where
  no_network : (id by router : ℕ) → ListsRouter (contents_at moment (database es)) id by router → ⊥
  no_network id by router l =
      let e : false ≡ true = all_pass is_no_network (sayings es) are.routers (
        record {
          ls_type = 2;
          link_state_id = id;
          advertising_router = by;
        },
        body.Network l.lsa,
      )
      (is_said moment es _ (body.Network l.lsa) l.its) in
      cc

  fits_it : (router : ℕ) (c : ℕ) (price exit : ℕ)
      (k : Counts (contents_at moment (database es)) root router PointToPoint c price exit)
      → fits_link root distance hops router k.link ≡ true
  fits_it router c price exit k =
      let e : fits root distance hops (router, k.link) ≡ true =
      all_pass (fits root distance hops) (links_of (sayings es)) are.links (router, k.link)
      (has_link moment es router k.link k.its) in
      elim (either_true (not (is_point k.link.kind)) (fits_link root distance hops router k.link)
      e) [
        | inl other ↦ absurd (not_both (is_point k.link.kind) other (ap is_point k.is_kind))
        | inr f ↦ f
      ]

  link_facts : (router c price exit : ℕ)
      (k : Counts (contents_at moment (database es)) root router PointToPoint c price exit)
      → fits_link root distance hops router k.link ≡ true
      → Facts root distance hops (ARouter router) (ARouter k.link.link_id) k.link.metric
      exit
  link_facts router c price exit k e =
      let l : RouterLink = k.link in
      elim (either_true (nat_lt (distance l.link_id) (distance router + l.metric))
      (nat_eq (distance l.link_id) (distance router + l.metric) && carries_on root hops router
      l) e) [
        | inl less ↦
            let lt : distance k.link.link_id < distance router + k.link.metric =
            ltb-true (distance k.link.link_id) (distance router + k.link.metric) less in
            record {
              low = omega (arith, lt);
              along = λ same. absurd (omega (arith, lt, same));
              exits = λ _ same. absurd (omega (arith, lt, same));
            }
        | inr tight ↦
            let parts = both_true (nat_eq (distance l.link_id) (distance router + l.metric))
            (carries_on root hops router l) tight in
            let on = both_true (nat_eq (bit_or (hops router) (hops l.link_id)) (hops l.link_id))
            (not (nat_eq router root.router) || exits_in root.addresses l.link_data 0
            (hops l.link_id)) parts.1 in
            let equal : distance k.link.link_id ≡ distance router + k.link.metric =
            eqb-true (distance k.link.link_id) (distance router + k.link.metric) parts.0 in
            record {
              low = omega (arith, equal);
              along = λ _. eqb-true _ _ on.0;
              exits = λ at same.
                  let here : router ≡ root.router = cc in
                  elim (either_true (not (nat_eq router root.router))
                  (exits_in root.addresses k.link.link_data 0 (hops k.link.link_id)) on.1) [
                    | inl other ↦ absurd (not_both (nat_eq router root.router) other
                        (eq-eqb router root.router here))
                    | inr all ↦
                        let by = k.by_interface here in
                        let P : ℕ → Type 0 = λ n. IsTrue (has_interface (hops k.link.link_id) n) in
                        let number : 0 + by.0 + 1 ≡ exit = omega (arith, by.1) in
                        subst P number (exit_of root.addresses k.link.link_data 0
                        (hops k.link.link_id) by.0 all by.2)
                  ];
            }
      ]

  facts : (v w : Node) (price exit : ℕ) → LeadsTo (contents_at moment (database es)) root v w price
      exit
      → Facts root distance hops v w price exit
  facts (ARouter a) (ARouter b) price exit l =
      let k = l.0 in
      let P : ℕ → Type 0 = λ id. Facts root distance hops (ARouter a) (ARouter id) price exit in
      let Q : ℕ → Type 0 = λ p. Facts root distance hops (ARouter a) (ARouter k.link.link_id) p exit
      in
      subst P k.is_id (subst Q k.costs (link_facts a b price exit k (fits_it a b price exit k)))
  facts (ARouter a) (ANetwork id by) price exit l = absurd (no_network id by a l.1)
  facts (ANetwork id by) (ARouter b) price exit l = absurd (no_network id by b l.0)
  facts (ANetwork id by) (ANetwork other its) price exit l = absurd l

  pub checked : AreLabels (Leads (contents_at moment (database es)) root) (ARouter root.router)
      (at_node distance) (at_node hops)
  checked = record {
    start = are.start;
    low = λ v s l. (facts v s.target s.cost s.exit l).low;
    along = λ v s l same i t. subset (at_node hops v) (at_node hops s.target) i
        ((facts v s.target s.cost s.exit l).along same) t;
    exits = λ s l same. (facts (ARouter root.router) s.target s.cost s.exit l).exits refl same;
  }
