-- Candidates are unchanged if only AS-external-LSAs that offer nothing change.
use Rattle.std.proofs.Common.{◌≡◌, ◌≢◌, ℕ, ◌≤◌, inl, inr, Some, None, true, refl, arith, sym, ◌∙◌}
use Rattle.std.specs.Prelude.{List, Option, is_some}
use Rattle.std.specs.FinMap as finite
use Rattle.lsa.specs.declared.body.LsaBody.{LsaBody}
use Rattle.words.specs.declared.key.Key.{Key}
use Rattle.words.specs.declared.route.Route.{Route}
use Rattle.lsdb.specs.Copies.{Database, DatabaseCopy, max_age_keys, contents_of}
use Rattle.routes.specs.Candidates.{AreCandidates, Offers, OffersExternal}
use Rattle.routes.specs.Candidates.Offers.{Between, External, Within}
use Rattle.routes.specs.Paths.{Way}
use Rattle.routes.specs.Contents.{Contents, contents_at}
use Rattle.routes.specs.Summaries.{IsBoundaryWay, summary_key}
use Rattle.routes.specs.Summaries.IsBoundaryWay.{Inside, Outside}
use Rattle.routes.specs.Tables.{RouteWords, IsStale}
use Rattle.routes.specs.declared.offer.Offer.{Offer}
use Rattle.routes.specs.declared.root.Root.{Root}
use Rattle.routes.proofs.Listed.{routes_among}
use Rattle.routes.proofs.OneMore.{same_offers}
use Rattle.routes.specs.Answers.{IsNodeAnswer}
use Rattle.routes.specs.Offers.{ReachesBoundaryRouter}
use Rattle.routes.specs.declared.graph.Way.{Way as WayTo}
use Rattle.routes.specs.declared.node.Node.TheVariants.{ARouter}
use Rattle.candidates.specs.Borders.{IsFlagged}
use Rattle.candidates.specs.Ways.{AreWays, Ways}
use Rattle.candidates.specs.Reached.{way_in}
use Rattle.lsdb.specs.Changes.{ContentsAgree}
use Rattle.lsdb.specs.Unchanged.{IsUnchangedApartFromAging}
use Rattle.kept_routes.specs.Externals.{AreOldOrLeftOut, IsUnreached, AreOfferingLsasUnchanged}
use Rattle.kept_routes.specs.Externals.{OfferTheSame}
use Rattle.kept_routes.specs.Externals.{OffersNothing}
use Rattle.kept_routes.specs.Laws.{CandidatesAreKept}
use Rattle.kept_routes.specs.Kept.{IsWalkOf, KeptWalk}
use Rattle.kept_routes.proofs.Aging.{all_old_within, among_aged, says_same}
use Rattle.kept_routes.proofs.KeptLaws.{walks_kept}
use Rattle.kept_routes.proofs.Inner.{boundary, external_way, inside}

-- the same in the other direction
pub turned_offers : (old new : Contents) (root : Root) → OfferTheSame old new root
    → OfferTheSame new old root
turned_offers old new root same = record {
  inner = λ key low. sym (same.inner key low);
  outer = λ key way other is. sym (same.outer key way other
      (boundary old new same.inner root key.advertising_router way is));
}

module _ (old new : Contents) (root : Root) (same : OfferTheSame old new root) where
  external : (o : Offer) → OffersExternal old root o → OffersExternal new root o
  external o k =
      let way = boundary old new same.inner root k.originator k.is_way.boundary k.is_way.reaches in
      let key : Key = record {
        ls_type = 5;
        link_state_id = k.id;
        advertising_router = k.originator;
      } in
      record {
        id = k.id;
        originator = k.originator;
        lsa = k.lsa;
        its = sym (same.outer key k.is_way.boundary k.of_another way) ∙ k.its;
        reachable = k.reachable;
        of_another = k.of_another;
        prefix = k.prefix;
        is_prefix = k.is_prefix;
        way = k.way;
        is_way = external_way old new same.inner root k.originator k.lsa k.way k.is_way;
        is = k.is;
      }

  pub offers : (o : Offer) → Offers old root o → Offers new root o
  offers o (Within k) =
      elim (inside old new same.inner root o (inl k)) [
        | inl it ↦ Within it
        | inr it ↦ Between it
      ]
  offers o (Between k) =
      elim (inside old new same.inner root o (inr k)) [
        | inl it ↦ Within it
        | inr it ↦ Between it
      ]
  offers o (External k) = External (external o k)

module _ (old new : Contents) (root : Root) (same : OfferTheSame old new root) where
  forth : (o : Offer) → Offers old root o → Offers new root o
  forth = offers old new root same

  back : (o : Offer) → Offers new root o → Offers old root o
  back = offers new old root (turned_offers old new root same)

  pub candidates_stay : (routes : List Route) → AreCandidates old root routes
      → AreCandidates new root routes
  candidates_stay routes are = routes_among (Offers old root) (Offers new root) routes forth back
      are

  pub nothing_comes_stale : (answers : RouteWords) → IsStale new root answers
      → IsStale old root answers
  nothing_comes_stale answers stale = (
    stale.0,
    same_offers (Offers new root) (Offers old root) stale.0 (λ o _. back o)
        (λ o _. forth o) stale.1,
    stale.2,
  )

-- the ways lead to each AS boundary router that is reached
flagged : (contents : Contents) (root : Root) (ways : Ways) → AreWays contents root ways
    → (router : ℕ) (way : Way) → ReachesBoundaryRouter contents root router way
    → (w : WayTo) × IsFlagged contents ways router 2 w
flagged contents root ways are router way k = by (ways (ARouter router)) refl (are (ARouter router))
  where
    by : (answer : Option WayTo) → ways (ARouter router) ≡ answer
        → IsNodeAnswer contents root (ARouter router) answer
        → (w : WayTo) × IsFlagged contents ways router 2 w
    by None here none = absurd (none k.reached.distance.0 k.reached.distance.1.is_walk)
    by (Some w) here is = (
      w,
      record {
        lsa = k.lsa;
        its = k.its;
        has_flag = k.has_e;
        reached = here;
      },
    )

-- ---- what is unchanged

module _ (before moment : ℕ) (old new : Database) (walk : KeptWalk) where
  abbrev was : Contents
  was = contents_at before old

  abbrev is : Contents
  is = contents_at moment new

  abbrev Counts : Key → Type 0
  Counts key = OffersNothing moment new walk key → ⊥

  module _ (order : before ≤ moment)
      (says : (key : Key) → Counts key
      → IsUnchangedApartFromAging before moment (finite.get old key) (finite.get new key))
      (aged : AreOldOrLeftOut before moment new walk (max_age_keys moment new)) where
    counted : (key : Key) → Counts key → was key ≡ is key
    counted key counts =
        elim (says key counts) [
          | inl same ↦ says_same before moment order (finite.get old key) (finite.get new key) same
              (λ copy here old_now.
              aged key (among_aged moment key copy old_now (finite.entries new)
              (sym (finite.get-entries new key) ∙ here)) counts copy tt here old_now)
          | inr silent ↦ silent.was ∙ sym silent.is
        ]

    inner : (key : Key) → key.ls_type ≤ 4 → was key ≡ is key
    inner key low = counted key (λ it. omega (arith, low, it.external))

    module _ (walked : IsWalkOf was walk) where
      walks : IsWalkOf is walk
      walks = walks_kept was is walk (λ key low. inner key (omega (arith, low))) walked

      unreached : (router : ℕ) (way : Way) → IsBoundaryWay is walk.root router way
          → IsUnreached moment new walk router → ⊥
      unreached router way (Inside k) un =
          let f = flagged is walk.root (way_in walk.reached) walks.ways router way k in
          un.inside f.0 f.1
      unreached router way (Outside none k) un =
          let key = summary_key 4 router k.advertised.originator in
          un.outside (key, there (finite.get new key) _ k.advertised.its, (refl, refl))
        where
          there : (o : Option DatabaseCopy) (b : LsaBody) → contents_of moment o ≡ Some b
              → is_some o ≡ true
          there None b it = absurd cc
          there (Some copy) b it = refl

      outer : (key : Key) (way : Way) → key.advertising_router ≢ walk.root.router
          → IsBoundaryWay is walk.root key.advertising_router way → was key ≡ is key
      outer key way other reaches =
          counted key (λ it.
          elim it.of_no_account [
            | inl own ↦ other own
            | inr un ↦ unreached key.advertising_router way reaches un
          ])

      pub offer_the_same : OfferTheSame was is walk.root
      offer_the_same = record { inner = inner; outer = outer }

  -- ---- what the code looks at

  pub within_one_moment : (keys : List Key) → before ≡ moment
      → AreOldOrLeftOut before moment new walk keys
  within_one_moment keys same key among counts =
      all_old_within None before moment new keys same key among

  pub others_keep : AreOfferingLsasUnchanged before moment old new walk → (key : Key) → Counts key
      → ContentsAgree moment (finite.get old key) (finite.get new key)
  others_keep left key counts = (left key counts).same

  pub others_are_old : (keys : List Key) → AreOfferingLsasUnchanged before moment old new walk
      → AreOldOrLeftOut before moment new walk keys
  others_are_old keys left key among counts copy of here = (left key counts).not_just_aged copy here

pub candidates_kept : CandidatesAreKept
candidates_kept = record {
  candidates = λ old new root routes same. candidates_stay old new root same routes;
  stale = λ old new root answers same. (
    nothing_comes_stale new old root (turned_offers old new root same) answers,
    nothing_comes_stale old new root same answers,
  );
}
