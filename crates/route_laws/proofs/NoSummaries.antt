-- A database without summary-LSAs, given as a list of copies: only what is within the area counts.
use Rattle.std.proofs.Common.{◌≡◌, ℕ, inl, inr, Bool, true, false}
use Rattle.std.specs.List.{list_all}
use Rattle.words.specs.declared.key.Key.{Key}
use Rattle.lsa.specs.declared.body.LsaBody.{LsaBody}
use Rattle.lsa.specs.declared.body.LsaBody.TheVariants as body
use Rattle.routes.specs.Offers.{OffersWithin, ReachesBoundaryRouter}
use Rattle.routes.specs.Paths.{Way}
use Rattle.routes.specs.Contents.{contents_at}
use Rattle.routes.specs.Summaries.{IsBoundaryWay, OffersBetween, OffersInside, summary_key}
use Rattle.routes.specs.Summaries.IsBoundaryWay.{Inside, Outside}
use Rattle.routes.specs.declared.offer.Offer.{Offer}
use Rattle.routes.specs.declared.root.Root.{Root}
use Rattle.route_laws.specs.Worked.{Entries, database}
use Rattle.route_laws.proofs.Entries.{all_pass, is_said, sayings}

abbrev pub is_no_summary : Key × LsaBody → Bool
is_no_summary (k, body.Router r) = true
is_no_summary (k, body.Network n) = true
is_no_summary (k, body.NetworkSummary s) = false
is_no_summary (k, body.RouterSummary s) = false
is_no_summary (k, body.External e) = true

module _ (moment : ℕ) (es : Entries) (none : list_all is_no_summary (sayings es) ≡ true)
    (root : Root) where
  pub nothing_between : (o : Offer) → OffersBetween (contents_at moment (database es)) root o → ⊥
  nothing_between o x =
      let e : false ≡ true = all_pass is_no_summary (sayings es) none
      (summary_key 3 x.id x.originator, body.NetworkSummary x.lsa)
      (is_said moment es (summary_key 3 x.id x.originator) (body.NetworkSummary x.lsa)
      x.its) in
      cc

  pub is_within : (o : Offer) → OffersInside (contents_at moment (database es)) root o
      → OffersWithin (contents_at moment (database es)) root o
  is_within o (inl x) = x
  is_within o (inr x) = absurd (nothing_between o x)

  pub is_inside : (router : ℕ) (way : Way)
      → IsBoundaryWay (contents_at moment (database es)) root router way
      → ReachesBoundaryRouter (contents_at moment (database es)) root router way
  is_inside router way (Inside x) = x
  is_inside router way (Outside no_way x) =
      let t = x.advertised in
      absurd (
      let e : false ≡ true =
      all_pass is_no_summary (sayings es) none
      (summary_key 4 router t.originator, body.RouterSummary t.lsa)
      (is_said moment es (summary_key 4 router t.originator) (body.RouterSummary t.lsa)
      t.its) in
      cc)
