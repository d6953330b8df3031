-- What the LSA with a key offers, from what was found about it.
use Rattle.std.proofs.Common.{◌≡◌, ◌+◌, ◌⊎◌, inl, inr, List, Some, None, refl, sym, ◌∙◌, subst}
use Rattle.words.specs.Prefixes.{Network}
use Rattle.words.specs.declared.key.Key.{Key}
use Rattle.lsa.specs.declared.body.LsaBody.{LsaBody}
use Rattle.lsa.specs.declared.body.LsaBody.TheVariants as body
use Rattle.lsa.specs.declared.body.RouterLink.{RouterLink}
use Rattle.lsa.specs.declared.body.RouterLsa.{RouterLsa}
use Rattle.lsa.specs.declared.body.SummaryLsa.{SummaryLsa}
use Rattle.routes.specs.Offers.{IsPrefix}
use Rattle.routes.specs.Summaries.{inter}
use Rattle.routes.specs.declared.graph.Way.{Way}
use Rattle.routes.specs.declared.node.Node.TheVariants.{ARouter}
use Rattle.routes.specs.declared.offer.Offer.{Offer}
use Rattle.routes.specs.declared.root.Root.{Root}
use Rattle.candidates.specs.Borders.{IsCounted, Tells, host}
use Rattle.candidates.specs.Gathering.{Adds, IsOnly, OfEach}
use Rattle.candidates.specs.Sources.{IsInner, IsStub, OfNetwork, OfRouter, OfSummary, leaving}
use Rattle.candidates.specs.Sources.IsInner.{ByNetwork, ByRouter, BySummary}
use Rattle.candidates.specs.Ways.{Ways}
use Rattle.candidates.specs.declared.flagged.Flagged.{Flagged}
use Rattle.candidates.proofs.Gathered.{adds_both, adds_same}

module _ (root : Root) (ways : Ways) (routers : List Flagged) (one : Key × LsaBody) where
  -- ---- a router

  pub of_router : (lsa : RouterLsa) (way leaves : Way) (links : List RouterLink) → one.0.ls_type ≡ 1
      → one.0.link_state_id ≡ one.0.advertising_router → one.1 ≡ body.Router lsa
      → ways (ARouter one.0.advertising_router) ≡ Some way
      → leaves ≡ leaving root one.0.advertising_router way → links ≡ lsa.links
      → (xs ys : List Offer) → Adds xs ys (OfEach (IsStub leaves) links)
      → Adds xs ys (OfRouter root ways one)
  of_router lsa way leaves links is_type own its reached left items xs ys a =
      let Here : Way → List RouterLink → Offer → Type 0 = λ w ls. OfEach (IsStub w) ls in
      adds_same xs ys (Here leaves links) (OfRouter root ways one)
      (λ o t. record {
        is_type = is_type;
        own = own;
        lsa = lsa;
        its = its;
        way = way;
        reached = reached;
        offered = subst (λ w. Here w lsa.links o) left (subst (λ ls. Here leaves ls o) items t);
      })
      (λ o k.
      let bodies : body.Router k.lsa ≡ body.Router lsa = sym k.its ∙ its in
      let same : k.lsa ≡ lsa = cc in
      let ends : Some k.way ≡ Some way = sym k.reached ∙ reached in
      let alike : k.way ≡ way = cc in
      subst (λ ls. Here leaves ls o) (sym items)
      (subst (λ w. Here w lsa.links o) (sym left)
      (subst (λ (l : RouterLsa). Here (leaving root one.0.advertising_router way) l.links o) same
      (subst (λ (w : Way). Here (leaving root one.0.advertising_router w) k.lsa.links o) alike
      k.offered))))
      a

  -- ---- a summary

  pub no_summary : (lsa : SummaryLsa) → one.1 ≡ body.NetworkSummary lsa
      → IsOnly (IsCounted root routers one.0.advertising_router lsa) None
      → IsOnly (OfSummary root routers one) None
  no_summary lsa its none = λ o k.
      let bodies : body.NetworkSummary k.lsa ≡ body.NetworkSummary lsa = sym k.its ∙ its in
      let same : k.lsa ≡ lsa = cc in
      none k.border (subst (λ l. IsCounted root routers one.0.advertising_router l k.border) same
      k.counts)

  pub of_summary : (lsa : SummaryLsa) (border : Way) (prefix : Network) (made : Offer)
      → one.0.ls_type ≡ 3 → one.1 ≡ body.NetworkSummary lsa
      → IsOnly (IsCounted root routers one.0.advertising_router lsa) (Some border)
      → IsOnly (IsPrefix one.0.link_state_id lsa.mask) (Some prefix)
      → made ≡ inter prefix (border.distance + lsa.metric) border.hops
      → IsOnly (OfSummary root routers one) (Some made)
  of_summary lsa border prefix made is_type its counted under is = λ o. (
    λ k.
        let bodies : body.NetworkSummary k.lsa ≡ body.NetworkSummary lsa = sym k.its ∙ its in
        let same : k.lsa ≡ lsa = cc in
        let b : k.border ≡ border = (counted k.border).0
        (subst (λ l. IsCounted root routers one.0.advertising_router l k.border) same k.counts)
        in
        let p : k.prefix ≡ prefix = (under k.prefix).0
        (subst (λ (l : SummaryLsa). IsPrefix one.0.link_state_id l.mask k.prefix) same
        k.is_prefix) in
        k.is ∙ (λ i. inter (p i) ((b i).distance + (same i).metric) (b i).hops) ∙ sym is,
    λ e. record {
      is_type = is_type;
      lsa = lsa;
      its = its;
      border = border;
      counts = (counted border).1 refl;
      prefix = prefix;
      is_prefix = (under prefix).1 refl;
      is = e ∙ is;
    },
  )

  -- ---- a summary of an AS boundary router

  pub none_told : (lsa : SummaryLsa) → one.1 ≡ body.RouterSummary lsa
      → IsOnly (IsCounted root routers one.0.advertising_router lsa) None
      → IsOnly (Tells root routers one) None
  none_told lsa its none = λ o k.
      let bodies : body.RouterSummary k.lsa ≡ body.RouterSummary lsa = sym k.its ∙ its in
      let same : k.lsa ≡ lsa = cc in
      none k.border (subst (λ l. IsCounted root routers one.0.advertising_router l k.border) same
      k.counts)

  pub of_told : (lsa : SummaryLsa) (border : Way) (made : Offer) → one.0.ls_type ≡ 4
      → one.1 ≡ body.RouterSummary lsa
      → IsOnly (IsCounted root routers one.0.advertising_router lsa) (Some border)
      → made ≡ inter (host one.0.link_state_id) (border.distance + lsa.metric) border.hops
      → IsOnly (Tells root routers one) (Some made)
  of_told lsa border made is_type its counted is = λ o. (
    λ k.
        let bodies : body.RouterSummary k.lsa ≡ body.RouterSummary lsa = sym k.its ∙ its in
        let same : k.lsa ≡ lsa = cc in
        let b : k.border ≡ border = (counted k.border).0
        (subst (λ l. IsCounted root routers one.0.advertising_router l k.border) same k.counts)
        in
        k.is ∙ (λ i. inter (host one.0.link_state_id) ((b i).distance + (same i).metric) (b i).hops)
        ∙ sym is,
    λ e. record {
      is_type = is_type;
      lsa = lsa;
      its = its;
      border = border;
      counts = (counted border).1 refl;
      is = e ∙ is;
    },
  )

  pub of_inner : (xs ys zs ws : List Offer) → Adds xs ys (OfRouter root ways one)
      → Adds ys zs (OfNetwork ways one) → Adds zs ws (OfSummary root routers one)
      → Adds xs ws (IsInner root ways routers one)
  of_inner xs ys zs ws a b c =
      adds_same xs ws (λ o. (OfRouter root ways one o ⊎ OfNetwork ways one o)
      ⊎ OfSummary root routers one o) (IsInner root ways routers one)
      (λ o w.
      elim w [
        | inl v ↦
            elim v [
              | inl r ↦ ByRouter r
              | inr n ↦ ByNetwork n
            ]
        | inr s ↦ BySummary s
      ])
      (λ o k.
      elim k [
        | ByRouter r ↦ inl (inl r)
        | ByNetwork n ↦ inl (inr n)
        | BySummary s ↦ inr s
      ])
      (adds_both xs zs ws (λ o. OfRouter root ways one o ⊎ OfNetwork ways one o)
      (OfSummary root routers one) (adds_both xs ys zs (OfRouter root ways one)
      (OfNetwork ways one) a b) c)
