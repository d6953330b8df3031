-- If the root alone is reached, its own router-LSA tells all that the LSAs of types 1 to 4 tell.
use Rattle.std.proofs.Common.{◌≡◌, ℕ, inl, inr, cond, List, [], Option, None, Some, arith, refl}
use Rattle.std.proofs.Common.{sym, ◌∙◌, ap, subst}
use Rattle.std.specs.Prelude.{◌↔◌, bit_and}
use Rattle.std.specs.List.{Contains}
use Rattle.std.specs.Ordering.{is_eq, nat_cmp}
use Rattle.std.specs.declared.cmp.Ordering.TheVariants.{Equal, Greater, Less}
use Rattle.std.proofs.lemmas.Map.Lookups.{exact_unsigned}
use Rattle.words.specs.declared.key.Key.{Key}
use Rattle.words.specs.declared.route.Route.{Route}
use Rattle.lsa.specs.declared.body.LsaBody.{LsaBody}
use Rattle.lsa.specs.declared.body.LsaBody.TheVariants as body
use Rattle.lsa.specs.declared.body.SummaryLsa.{SummaryLsa}
use Rattle.routes.proofs.Listed.{routes_among}
use Rattle.routes.proofs.Lists.{of_cons, of_empty}
use Rattle.routes.specs.Links.{router_key}
use Rattle.routes.specs.Routes.{AreRoutesAmong}
use Rattle.routes.specs.Contents.{Contents}
use Rattle.routes.specs.Summaries.{OffersInside}
use Rattle.routes.specs.declared.graph.Way.{Way}
use Rattle.routes.specs.declared.node.Node.{Node}
use Rattle.routes.specs.declared.node.Node.TheVariants.{ANetwork, ARouter}
use Rattle.routes.specs.declared.offer.Offer.{Offer}
use Rattle.routes.specs.declared.root.Root.{Root}
use Rattle.candidates.specs.Alone.{OfOne, list_of}
use Rattle.candidates.specs.Bodies.{OfContents}
use Rattle.candidates.specs.Borders.{FlaggedDistancesFit, AreFlagged, AscendByRouter, IsCounted}
use Rattle.candidates.specs.Borders.{Tells}
use Rattle.candidates.specs.Borders.{TellsFlags}
use Rattle.candidates.specs.Gathering.{Adds, IsOnly}
use Rattle.candidates.specs.Reached.{alone, way_in}
use Rattle.candidates.specs.Sources.{IsInner}
use Rattle.candidates.specs.Sources.IsInner.{ByNetwork, ByRouter, BySummary}
use Rattle.candidates.specs.Ways.{DistancesFit, AreWays, Ways}
use Rattle.candidates.specs.declared.flagged.Flagged.{Flagged}
use Rattle.candidates.proofs.Carried.{inner_back, inner_forth}
use Rattle.candidates.proofs.Flags.{has_one}
use Rattle.candidates.proofs.Gathered.{such, all_such}

-- ---- the list of one router

of_list : {R : Type 0} (o : Option R) (r : R) → Contains (list_of o) r → o ≡ Some r
of_list None r among = absurd (of_empty r among)
of_list (Some it) r among =
    elim (of_cons it [] r among) [
      | inl same ↦ ap (λ x. Some x) same
      | inr later ↦ absurd (of_empty r later)
    ]

in_list : {R : Type 0} (o : Option R) (r : R) → o ≡ Some r → Contains (list_of o) r
in_list None r is = absurd (cc)
in_list (Some it) r is = let same : it ≡ r = cc in (0, omega arith, same)

pub one_ascends : (o : Option Flagged) → AscendByRouter (list_of o)
one_ascends None = λ i j d before within. absurd (omega (arith, before, within))
one_ascends (Some it) = λ i j d before within. absurd (omega (arith, before, within))

-- ---- what one LSA tells

module _ {R : Type 0} (Q : Key × LsaBody → R → Type 0) (key : Key) (says : LsaBody)
    (advertised : Option LsaBody)
    (is : advertised ≡ Some says) where
  pub of_it : (r : R) → Q (key, says) r → OfOne Q key advertised r
  of_it r q = (says, is, q)

  pub by_it : (r : R) → OfOne Q key advertised r → Q (key, says) r
  by_it r p =
      let both : Some p.0 ≡ Some says = sym p.1 ∙ is in
      let same : p.0 ≡ says = cc in
      subst (λ (b : LsaBody). Q (key, b) r) same p.2

  pub just_of_it : (o : Option R) → IsOnly (Q (key, says)) o → IsOnly (OfOne Q key advertised) o
  just_of_it None none = λ r p. none r (by_it r p)
  just_of_it (Some it) just = λ r. (λ p. (just r).0 (by_it r p), λ e. of_it r ((just r).1 e))

-- ---- if the root alone is reached

module _ (root : Root) (ways : Ways)
    (are_alone : (node : Node) → ways node ≡ way_in (alone root) node) where
  is_root : (router : ℕ) (way : Way) → ways (ARouter router) ≡ Some way → root.router ≡ router
  is_root router way is =
      elim (nat_cmp root.router router) as (λ r. nat_cmp root.router router ≡ r
      → root.router ≡ router) [
        | Less ↦ λ e. absurd (none e)
        | Equal ↦ λ e. exact_unsigned root.router router e
        | Greater ↦ λ e. absurd (no e)
      ] refl
    where
      there : cond (is_eq (nat_cmp root.router router)) (Some (record { distance = 0; hops = 0 }))
          None ≡ Some way
      there = sym (are_alone (ARouter router)) ∙ is

      none : nat_cmp root.router router ≡ Less → ⊥
      none e = let it : None ≡ Some way = subst (λ r. cond (is_eq r) (Some (record {
        distance = 0;
        hops = 0;
      })) None ≡ Some way) e there in cc

      no : nat_cmp root.router router ≡ Greater → ⊥
      no e = let it : None ≡ Some way = subst (λ r. cond (is_eq r) (Some (record {
        distance = 0;
        hops = 0;
      })) None ≡ Some way) e there in cc

  no_network : (id by : ℕ) (way : Way) → ways (ANetwork id by) ≡ Some way → ⊥
  no_network id by way is =
      let it : None ≡ Some way = sym (are_alone (ANetwork id by)) ∙ is in cc

  pub one_close : (key : Key) (advertised : Option LsaBody) (o : Option Flagged) → DistancesFit ways
      → IsOnly (OfOne (TellsFlags ways) key advertised) o → FlaggedDistancesFit (list_of o)
  one_close key advertised o near just r among =
      let tells = its o just (of_list o r among) in
      near (ARouter key.advertising_router) r.way tells.2.reached
    where
      its : (p : Option Flagged) → IsOnly (OfOne (TellsFlags ways) key advertised) p → p ≡ Some r
          → OfOne (TellsFlags ways) key advertised r
      its None j is = absurd (cc)
      its (Some it) j is = let same : r ≡ it = cc in (j r).1 same

  module _ (contents : Contents) (advertised : Option LsaBody)
      (own : advertised ≡ contents (router_key root.router)) where
    abbrev its_key : Key
    its_key = router_key root.router

    abbrev Told : Flagged → Type 0
    Told = OfOne (TellsFlags ways) its_key advertised

    just_some : (o : Option Flagged) → IsOnly Told o → (r : Flagged) → o ≡ Some r → Told r
    just_some None j r is = absurd (cc)
    just_some (Some it) j r is = let same : r ≡ it = cc in (j r).1 same

    just_all : (o : Option Flagged) → IsOnly Told o → (r : Flagged) → Told r → o ≡ Some r
    just_all None j r t = absurd (j r t)
    just_all (Some it) j r t = ap (λ x. Some x) (sym ((j r).0 t))

    pub one_flagged : (o : Option Flagged) → IsOnly Told o → AreFlagged contents ways (list_of o)
    one_flagged o just router flag way is_flag = (
      (λ k.
          let same : root.router ≡ router = is_root router way k.reached in
          let r : Flagged = record { router = router; flags = k.lsa.flags; way = way } in
          let tells : TellsFlags ways (its_key, body.Router k.lsa) r = record {
            is_type = refl;
            own = refl;
            lsa = k.lsa;
            its = refl;
            has_flag = has_one ways k.lsa.flags flag is_flag k.has_flag;
            reached = ap (λ n. ways (ARouter n)) same ∙ k.reached;
            its_router = sym same;
            its_flags = refl;
          } in
          let is : advertised ≡ Some (body.Router k.lsa) =
          own ∙ ap (λ n. contents (router_key n)) same ∙ k.its in
          record {
            listed = r;
            among = in_list o r (just_all o just r (body.Router k.lsa, is, tells));
            its_router = refl;
            has_flag = k.has_flag;
            its_way = refl;
          }),
      (λ k.
          let t = just_some o just k.listed (of_list o k.listed k.among) in
          let tells = t.2 in
          let same : root.router ≡ router = sym tells.its_router ∙ k.its_router in
          record {
            lsa = tells.lsa;
            its = ap (λ n. contents (router_key n)) (sym same) ∙ sym own ∙ t.1
                ∙ ap (λ (b : LsaBody). Some b) tells.its;
            has_flag = subst (λ f. bit_and f flag ≡ flag) tells.its_flags k.has_flag;
            reached = ap (λ n. ways (ARouter n)) (sym same) ∙ tells.reached
                ∙ ap (λ (w : Way). Some w) (sym k.its_way);
          }),
    )

    module _ (are : AreWays contents root ways) (routers : List Flagged)
        (flagged : AreFlagged contents ways routers) where
      not_counted : (originator : ℕ) (lsa : SummaryLsa) (border : Way)
          → IsCounted root routers originator lsa border → ⊥
      not_counted originator lsa border counts =
          counts.of_another (sym (is_root originator border
          ((flagged originator 1 border (inl refl)).1 counts.reaches).reached))

      only_own : (o : Offer) → OfContents (IsInner root ways routers) contents o
          → OfOne (IsInner root ways routers) its_key advertised o
      only_own o ((key, says), is, ByRouter k) =
          let by : root.router ≡ key.advertising_router =
          is_root key.advertising_router k.way k.reached in
          let at : key ≡ its_key = λ i. record {
            ls_type = k.is_type i;
            link_state_id = (k.own ∙ sym by) i;
            advertising_router = sym by i;
          } in (
            says,
            own ∙ ap contents (sym at) ∙ is,
            subst (λ (q : Key). IsInner root ways routers (q, says) o) at (ByRouter k),
          )
      only_own o ((key, says), is, ByNetwork k) =
          absurd (no_network key.link_state_id key.advertising_router k.way k.reached)
      only_own o ((key, says), is, BySummary k) =
          absurd (not_counted key.advertising_router k.lsa k.border k.counts)

      pub own_inside : (offers : List Offer)
          → Adds [] offers (OfOne (IsInner root ways routers) its_key advertised)
          → (o : Offer) → Contains offers o ↔ OffersInside contents root o
      own_inside offers adds o =
          let P = OfOne (IsInner root ways routers) its_key advertised in (
            (λ t.
                let p = such offers P adds o t in
                inner_forth contents root ways are routers flagged o
                ((its_key, p.0), sym own ∙ p.1, p.2)),
            (λ k. all_such offers P adds o
                (only_own o (inner_back contents root ways are routers flagged o k))),
          )

      pub none_told : (routes : List Route) → AreRoutesAmong (λ o. Contains [] o) routes
          → AreRoutesAmong (OfContents (Tells root routers) contents) routes
      none_told routes all =
          routes_among (λ o. Contains [] o) (OfContents (Tells root routers) contents) routes
          (λ o t. absurd (of_empty o t))
          (λ o k. absurd (not_counted k.0.0.advertising_router k.2.lsa k.2.border k.2.counts)) all

      pub own_networks : (offers : List Offer) (networks : List Route)
          → Adds [] offers (OfOne (IsInner root ways routers) its_key advertised)
          → AreRoutesAmong (λ o. Contains offers o) networks
          → AreRoutesAmong (OffersInside contents root) networks
      own_networks offers networks adds all =
          routes_among (λ o. Contains offers o) (OffersInside contents root) networks
          (λ o t. (own_inside offers adds o).0 t) (λ o k. (own_inside offers adds o).1 k) all
