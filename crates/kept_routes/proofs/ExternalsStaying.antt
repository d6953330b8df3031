-- What is unchanged while only AS-external-LSAs change.
use Rattle.std.proofs.Common.{◌≡◌, ℕ, inl, inr, List, refl, arith, sym, ap, subst, ◌∙◌}
use Rattle.lsa.specs.declared.body.ExternalLsa.{ExternalLsa}
use Rattle.words.specs.Prefixes.{Network}
use Rattle.words.specs.declared.key.Key.{Key}
use Rattle.words.specs.declared.route.ExternalType.{ExternalType}
use Rattle.words.specs.declared.route.ExternalType.TheVariants.{Type1, Type2}
use Rattle.routes.specs.Candidates.{Offers, OffersExternal, external_offer}
use Rattle.routes.specs.Candidates.Offers.{Between, External, Within}
use Rattle.routes.specs.Links.{router_key}
use Rattle.routes.specs.Offers.{IsPrefix}
use Rattle.routes.specs.Paths.{Way as WalkWay}
use Rattle.routes.specs.Contents.{Contents}
use Rattle.routes.specs.Summaries.{OffersInside}
use Rattle.routes.specs.declared.graph.Way.{Way}
use Rattle.routes.specs.declared.offer.Offer.{Offer}
use Rattle.routes.specs.declared.root.Root.{Root}
use Rattle.routes.proofs.Listed.{routes_among}
use Rattle.routes.proofs.OneMore.{same_offers}
use Rattle.candidates.specs.Bodies.{OfContents}
use Rattle.candidates.specs.Borders.{IsFlagged, Tells}
use Rattle.candidates.specs.Ways.{Ways}
use Rattle.candidates.specs.declared.flagged.Flagged.{Flagged}
use Rattle.kept_routes.proofs.Inner.{AgreeInside, external_way, inside, turned}
use Rattle.kept_routes.specs.Changes.{IsUntouched, TellsOf}
use Rattle.kept_routes.specs.ExternalLaws.{InnerRoutesAreKept, UntouchedCandidatesAreKept}

-- ---- the results from the LSAs of types 1 to 4

module _ (old new : Contents) (same : AgreeInside old new) where
  flagged : (ways : Ways) (router flag : ℕ) (way : Way) → IsFlagged old ways router flag way
      → IsFlagged new ways router flag way
  flagged ways router flag way k = record {
    lsa = k.lsa;
    its = sym (same (router_key router) (omega arith)) ∙ k.its;
    has_flag = k.has_flag;
    reached = k.reached;
  }

  advertised : (root : Root) (routers : List Flagged) (o : Offer)
      → OfContents (Tells root routers) old o → OfContents (Tells root routers) new o
  advertised root routers o (one, says, k) =
      (one, sym (same one.0 (omega (arith, k.is_type))) ∙ says, k)

pub inner_kept : InnerRoutesAreKept
inner_kept old new root ways inner same are =
    let back : AgreeInside new old = turned old new same in
    let routers = inner.flagged.items in
    record {
      flagged = λ router flag way is. (
        (λ k. (are.flagged router flag way is).0 (flagged new old back ways router flag way k)),
        (λ k. flagged old new same ways router flag way ((are.flagged router flag way is).1 k)),
      );
      advertised = routes_among (OfContents (Tells root routers) old)
          (OfContents (Tells root routers) new)
          inner.boundary_routes.items (advertised old new same root routers)
          (advertised new old back root routers)
          are.advertised;
      networks = routes_among (OffersInside old root) (OffersInside new root) inner.networks.items
          (inside old new same root) (inside new old back root) are.networks;
      offers = λ o. (
        (λ t. inside old new same root o ((are.offers o).0 t)),
        (λ k. (are.offers o).1 (inside new old back root o k)),
      );
    }

-- ---- a destination that the same AS-external-LSAs advertise

pub its_prefix : (kind : ExternalType) (prefix : Network) (lsa : ExternalLsa) (originator : ℕ)
    (way : WalkWay) → (external_offer kind prefix lsa originator way).prefix ≡ prefix
its_prefix Type1 prefix lsa originator way = refl
its_prefix Type2 prefix lsa originator way = refl

swapped : (old new : Contents) (key : Key) (prefix : Network) → TellsOf new old key prefix
    → TellsOf old new key prefix
swapped old new key prefix t = record {
  lsa = t.lsa;
  says =
      elim t.says [
        | inl now ↦ inr now
        | inr before ↦ inl before
      ];
  is_prefix = t.is_prefix;
}

untouched_back : (old new : Contents) (prefix : Network) → IsUntouched old new prefix
    → IsUntouched new old prefix
untouched_back old new prefix stays key t = sym (stays key (swapped old new key prefix t))

module _ (old new : Contents) (same : AgreeInside old new) (prefix : Network)
    (stays : IsUntouched old new prefix) (root : Root) where
  external : (o : Offer) → o.prefix ≡ prefix → OffersExternal old root o → OffersExternal new root o
  external o e k =
      let key : Key = record {
        ls_type = 5;
        link_state_id = k.id;
        advertising_router = k.originator;
      } in
      let here : k.prefix ≡ prefix = sym (its_prefix k.lsa.kind k.prefix k.lsa k.originator k.way)
      ∙ sym (ap (λ (x : Offer). x.prefix) k.is) ∙ e in
      let tells : TellsOf old new key prefix = record {
        lsa = k.lsa;
        says = inl k.its;
        is_prefix = subst (IsPrefix k.id k.lsa.mask) here k.is_prefix;
      } in
      record {
        id = k.id;
        originator = k.originator;
        lsa = k.lsa;
        its = sym (stays key tells) ∙ k.its;
        reachable = k.reachable;
        of_another = k.of_another;
        prefix = k.prefix;
        is_prefix = k.is_prefix;
        way = k.way;
        is_way = external_way old new same root k.originator k.lsa k.way k.is_way;
        is = k.is;
      }

  offers : (o : Offer) → o.prefix ≡ prefix → Offers old root o → Offers new root o
  offers o e (Within k) =
      elim (inside old new same root o (inl k)) [
        | inl it ↦ Within it
        | inr it ↦ Between it
      ]
  offers o e (Between k) =
      elim (inside old new same root o (inr k)) [
        | inl it ↦ Within it
        | inr it ↦ Between it
      ]
  offers o e (External k) = External (external o e k)

pub untouched_kept : UntouchedCandidatesAreKept
untouched_kept old new root r same stays =
    let back : AgreeInside new old = turned old new same in
    let forth_offers = offers old new same r.prefix stays root in
    let back_offers = offers new old back r.prefix (untouched_back old new r.prefix stays) root in (
      same_offers (Offers old root) (Offers new root) r forth_offers back_offers,
      same_offers (Offers new root) (Offers old root) r back_offers forth_offers,
    )
