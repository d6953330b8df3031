-- What an AS-external-LSA offers, and the AS-external-LSAs of a database that is given as a list of
-- copies.
use Rattle.std.proofs.Common.{◌≡◌, ◌≢◌, ℕ, ◌<◌, ◌≤◌, Some, arith, refl, sym, ◌∙◌}
use Rattle.std.specs.FinMap as finite
use Rattle.std.specs.List.{AllByRecursion}
use Rattle.words.specs.Prefixes.{Network, mask_of, network_address}
use Rattle.words.specs.declared.key.Key.{Key}
use Rattle.lsa.specs.declared.body.LsaBody.{LsaBody}
use Rattle.lsa.specs.declared.body.LsaBody.TheVariants as body
use Rattle.lsa.specs.declared.body.ExternalLsa.{ExternalLsa}
use Rattle.lsdb.specs.Keys.{key_cmp}
use Rattle.routes.proofs.Prefixes.{one_prefix}
use Rattle.routes.specs.Candidates.{IsExternalWay, OffersExternal, external_offer}
use Rattle.routes.specs.Links.{Says}
use Rattle.routes.specs.Offers.{IsPrefix}
use Rattle.routes.specs.Paths.{Way}
use Rattle.routes.specs.Routes.{IsForwarded}
use Rattle.routes.specs.Contents.{Contents, contents_at}
use Rattle.routes.specs.Summaries.{IsBoundaryWay, OffersInside}
use Rattle.routes.specs.declared.offer.Offer.{Offer}
use Rattle.routes.specs.declared.root.Root.{Root}
use Rattle.route_laws.specs.Worked.{Entries, copy_of, database, key, mask_24}
use Rattle.route_laws.proofs.Entries.{is_said, sayings}
use Rattle.route_laws.proofs.Made.{says}
use Rattle.route_laws.proofs.OneWay.{boundary, one_forward}
use Rattle.route_laws.proofs.Parts.{one_of}

-- ---- one AS-external-LSA

-- the network of a Link State ID
abbrev pub net_of : ℕ → ℕ → Network
net_of length id = record { address = network_address length id; length = length }

-- an AS-external-LSA below MaxAge that counts for this router, with a mask of this length
pub record CountsAsExternal (contents : Contents) (root : Root) (id originator : ℕ)
    (lsa : ExternalLsa)
    (length : ℕ) : Type 0 where
  pub its : Says contents (key 5 id originator) (body.External lsa)
  pub reachable : lsa.metric < 16777215
  pub of_another : originator ≢ root.router
  pub within : length ≤ 32
  pub mask : lsa.mask ≡ mask_of length

-- what an AS-external-LSA offers, besides being in the database
pub record IsOfferOf (contents : Contents) (root : Root) (id originator : ℕ) (lsa : ExternalLsa)
    (o : Offer) : Type 0 where
  pub reachable : lsa.metric < 16777215
  pub of_another : originator ≢ root.router
  pub prefix : Network
  pub is_prefix : IsPrefix id lsa.mask prefix
  pub way : Way
  pub is_way : IsExternalWay contents root originator lsa way
  pub is : o ≡ external_offer lsa.kind prefix lsa originator way

module _ (contents : Contents) (root : Root) where
  pub is_offer_of : (o : Offer) (x : OffersExternal contents root o)
      → IsOfferOf contents root x.id x.originator x.lsa o
  is_offer_of o x = record {
    reachable = x.reachable;
    of_another = x.of_another;
    prefix = x.prefix;
    is_prefix = x.is_prefix;
    way = x.way;
    is_way = x.is_way;
    is = x.is;
  }

  module _ (id originator : ℕ) (lsa : ExternalLsa) (length : ℕ)
      (counts : CountsAsExternal contents root id originator lsa length) where
    abbrev its_offer : Way → Offer
    its_offer way = external_offer lsa.kind (net_of length id) lsa originator way

    by_way : (way : Way) (o : Offer) (g : IsOfferOf contents root id originator lsa o) → way ≡ g.way
        → its_offer way ≡ o
    by_way way o g w =
        let p : net_of length id ≡ g.prefix =
        one_prefix id lsa.mask length g.prefix counts.within counts.mask g.is_prefix in
        (λ i. external_offer lsa.kind (p i) lsa originator (w i)) ∙ sym g.is

    -- what it offers by a way
    abbrev offered_by : (way : Way) → IsExternalWay contents root originator lsa way
        → OffersExternal contents root (its_offer way)
    offered_by way is_way = record {
      id = id;
      originator = originator;
      lsa = lsa;
      its = counts.its;
      reachable = counts.reachable;
      of_another = counts.of_another;
      prefix = net_of length id;
      is_prefix = (counts.within, counts.mask, refl);
      way = way;
      is_way = is_way;
      is = refl;
    }

    -- it offers just this, by the way to its originator
    module _ (none : lsa.forwarding ≡ 0) (way : Way)
        (reaches : IsBoundaryWay contents root originator way) where
      unfoldable pub offered_directly : OffersExternal contents root (its_offer way)
      offered_directly = offered_by way (record {
        boundary = way;
        reaches = reaches;
        direct = λ _. refl;
        forwarded = λ some. absurd (some none);
      })

      pub only_directly : (o : Offer) → IsOfferOf contents root id originator lsa o
          → its_offer way ≡ o
      only_directly o g = by_way way o g
          (boundary contents root originator way g.is_way.boundary reaches g.is_way.reaches
          ∙ sym (g.is_way.direct none))

    -- it offers just this, by the way to its forwarding address
    module _ (some : lsa.forwarding ≢ 0) (way : Way)
        (forwards : IsForwarded (OffersInside contents root) lsa.forwarding way) where
      pub offered_by_address : (border : Way) → IsBoundaryWay contents root originator border
          → OffersExternal contents root (its_offer way)
      offered_by_address border reaches = offered_by way (record {
        boundary = border;
        reaches = reaches;
        direct = λ none. absurd (some none);
        forwarded = λ _. forwards;
      })

      pub only_by_address : (o : Offer) → IsOfferOf contents root id originator lsa o
          → its_offer way ≡ o
      only_by_address o g = by_way way o g
          (one_forward (OffersInside contents root) lsa.forwarding way g.way forwards
          (g.is_way.forwarded some))

-- one with a mask of 24 bits, among these copies
pub counts_24 : (es : Entries) (root : Root) (id originator : ℕ) (lsa : ExternalLsa)
    → finite.find key_cmp (key 5 id originator) es
    ≡ Some (copy_of (key 5 id originator) (body.External lsa)) → lsa.metric < 16777215
    → originator ≢ root.router → lsa.mask ≡ mask_24
    → CountsAsExternal (contents_at 0 (database es)) root id originator lsa 24
counts_24 es root id originator lsa stands reachable of_another mask = record {
  its = says es (key 5 id originator) (body.External lsa) stands;
  reachable = reachable;
  of_another = of_another;
  within = omega arith;
  mask = mask;
}

-- ---- those of a database

abbrev pub IfExternal : (Key → ExternalLsa → Type 0) → Key → LsaBody → Type 0
IfExternal P k (body.Router r) = Unit {0}
IfExternal P k (body.Network n) = Unit {0}
IfExternal P k (body.NetworkSummary s) = Unit {0}
IfExternal P k (body.RouterSummary s) = Unit {0}
IfExternal P k (body.External lsa) = P k lsa

-- P holds of each AS-external-LSA among the copies
abbrev pub EachExternal : (Key → ExternalLsa → Type 0) → Entries → Type 0
EachExternal P es = AllByRecursion (λ (s : Key × LsaBody). IfExternal P s.0 s.1) (sayings es)

pub each_external : (P : Key → ExternalLsa → Type 0) (es : Entries) → EachExternal P es → (k : Key)
    (lsa : ExternalLsa) → Says (contents_at 0 (database es)) k (body.External lsa) → P k lsa
each_external P es all k lsa its =
    one_of (λ (s : Key × LsaBody). IfExternal P s.0 s.1) (sayings es) all (k, body.External lsa)
    (is_said 0 es k (body.External lsa) its)
