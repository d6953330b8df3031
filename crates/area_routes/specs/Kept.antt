-- The routes of a router as they are kept from one event to the next (RFC 2328, section 16).
use Rattle.std.specs.Prelude.{◌≡◌, ◌≢◌, ℕ, Bool, true, false, IfSome, List, MatchOption, Option}
use Rattle.std.specs.Prelude.{Some}
use Rattle.std.specs.List.{Contains}
use Rattle.std.specs.Global.{Vec}
use Rattle.words.specs.Numbers.{Moment, RouterNumber}
use Rattle.words.specs.declared.key.Key.{Key}
use Rattle.words.specs.declared.route.Route.{Route}
use Rattle.received.specs.Links.{Area}
use Rattle.area_routes.specs.Offers.{root_by}
use Rattle.area_routes.specs.declared.matching.Matching.{Matching}
use Rattle.area_routes.specs.declared.matching.Matching.TheVariants.{Lacking, OnlyCandidates}
use Rattle.area_routes.specs.declared.matching.Matching.TheVariants.{Unknown}
use Rattle.candidates.specs.Inner.{AreInner, AreSearchable}
use Rattle.candidates.specs.declared.inner.InnerRoutes.{InnerRoutes}
use Rattle.kept_routes.specs.Placing.{AreAllAmong, HasAnother}
use Rattle.kept_routes.specs.Externals.{AreOfferingLsasUnchanged}
use Rattle.kept_routes.specs.Kept.{IsWalkOf, KeptWalk}
use Rattle.kept_routes.specs.Sameness.{AreLsasUnchanged}
use Rattle.candidates.specs.Externals.{AreExternals}
use Rattle.candidates.specs.declared.externals.ExternalAdvertisement.{ExternalAdvertisement}
use Rattle.routes.specs.Candidates.{AreCandidates}
use Rattle.routes.specs.Contents.{Contents, contents_at}
use Rattle.routes.specs.Tables.{RouteWords, IsStale}
use Rattle.routes.specs.declared.root.Root.{Root}
use Rattle.routes.specs.Parts.{AreAnswersAmong, LacksAnswers}
use Rattle.candidates.specs.AreaGraphs.{IsAreaGraph}
use Rattle.candidates.specs.Reached.{way_in}
use Rattle.candidates.specs.declared.graph.AreaGraph.{AreaGraph}

pub record KeptRoutes : Type 0 where
  -- the walk
  pub walk : KeptWalk
  -- whether the walk may be that of an earlier event; if so, it is made again before it is used
  pub behind : Bool
  -- the graph of the area, if one was built and has followed each event since
  pub graph : Option AreaGraph
  -- the candidates, if they are known: calculated since an LSA of types 1 to 4 changed, and
  -- followed over each change of AS-external-LSAs since
  pub candidates : Option (List Route)
  -- the results from the LSAs of types 1 to 4, if candidates were calculated since one of those
  -- changed
  pub inner : Option InnerRoutes
  -- what AS-external-LSAs advertise, if read since one of them changed
  pub externals : Option (Vec ExternalAdvertisement)
  -- whether each candidate is known to be among the answers
  pub answered : Bool
  -- what else is known of the answers and of the candidates that are kept
  pub matching : Matching

-- unless it is behind, the walk is that of what the LSAs say, from this root
pub record KnowsWalk (contents : Contents) (start : Root) (kept : KeptRoutes) : Type 0 where
  pub walk : kept.behind ≡ false → IsWalkOf contents kept.walk
  pub root : kept.behind ≡ false → kept.walk.root ≡ start

-- it is the graph of what the LSAs say, from this root
pub record IsGraphFrom (contents : Contents) (start : Root) (graph : AreaGraph) : Type 0 where
  pub is : IsAreaGraph contents graph
  pub starts : graph.root ≡ start

-- the graph that is kept, if any, is that of what the LSAs say, even while the walk is behind
abbrev pub KnowsGraph : Contents → Root → KeptRoutes → Type 0
KnowsGraph contents start kept = IfSome kept.graph (IsGraphFrom contents start)

-- the candidates that are kept, if any, are those of what the LSAs say
abbrev pub KnowsCandidates : Contents → Root → KeptRoutes → Type 0
KnowsCandidates contents root kept =
    IfSome kept.candidates (AreCandidates contents root)

-- it is the result from the LSAs of types 1 to 4 by this walk, and can be searched
pub record AreInnerBy (contents : Contents) (root : Root) (walk : KeptWalk) (inner : InnerRoutes)
    : Type 0
  where
    pub are_inner : AreInner contents root (way_in walk.reached) inner
    pub searchable : AreSearchable inner

-- what is kept of it, if anything, is that of what the LSAs say
abbrev pub KnowsInner : Contents → Root → KeptRoutes → Type 0
KnowsInner contents root kept = IfSome kept.inner (AreInnerBy contents root kept.walk)

-- what is kept of it, if anything, is that of what the LSAs say
abbrev pub KnowsExternals : Contents → KeptRoutes → Type 0
KnowsExternals contents kept = IfSome kept.externals
    (λ advertised. AreExternals contents advertised.items)

-- AS-external-LSAs say the same
abbrev pub ExternalsHaveSameContents : (old : Contents) → (new : Contents) → Type 0
ExternalsHaveSameContents old new = (key : Key) → key.ls_type ≡ 5 → old key ≡ new key

-- none of the keys is that of an AS-external-LSA
abbrev pub AreNotExternal : List Key → Type 0
AreNotExternal keys = (key : Key) → Contains keys key → key.ls_type ≢ 5

-- if each candidate is known to be among the answers, each is
abbrev pub KnowsAnswered : Contents → Root → RouteWords → KeptRoutes → Type 0
KnowsAnswered contents root answers kept = kept.answered ≡ true → IsStale contents root answers → ⊥

-- what is known of the answers and of the candidates that are kept, if any: with `OnlyCandidates`
-- each answered route is one of these, with `Lacking` some of these has no answer
abbrev pub KnowsMatching : RouteWords → (kept : Option (List Route)) → Matching → Type 0
KnowsMatching answers kept Unknown = Unit {0}
KnowsMatching answers kept OnlyCandidates = MatchOption kept ⊥ (AreAnswersAmong answers)
KnowsMatching answers kept Lacking = MatchOption kept ⊥ (LacksAnswers answers)

-- from what the LSAs said to what they say, no candidate appears that may lack an answer
abbrev pub StayAnswered : (old : Contents) → (new : Contents) → Root → Type 0
StayAnswered old new root =
    (answers : RouteWords) → IsStale new root answers → IsStale old root answers

-- if candidates were kept, one of these wasn't among them
abbrev pub HaveAnother : (kept : Option (List Route)) → (now : List Route) → Type 0
HaveAnother kept now = IfSome kept (λ before. HasAnother before now)

-- if candidates were kept, each of these was among them
abbrev pub AreAmongKept : (kept : Option (List Route)) → (now : List Route) → Type 0
AreAmongKept kept now = IfSome kept (λ before. AreAllAmong before now)

-- candidates are kept before an event and after it, and each was one before
pub record BringsNoneNew (old : KeptRoutes) (new : KeptRoutes) : Type 0 where
  pub before : List Route
  pub now : List Route
  pub were : old.candidates ≡ Some before
  pub are : new.candidates ≡ Some now
  pub among : AreAllAmong before now

-- candidates are kept before an event and after it, and one wasn't one before
pub record BringsAnother (old : KeptRoutes) (new : KeptRoutes) : Type 0 where
  pub before : List Route
  pub now : List Route
  pub were : old.candidates ≡ Some before
  pub are : new.candidates ≡ Some now
  pub another : HasAnother before now

-- All that a walk depends on is unchanged since the moment `before`: it has the same root, and of
-- the LSAs of the types up to this one, or of all types if there is none, none was added or
-- removed, reached MaxAge or changed its contents (section 13.2).
pub record AreWalkInputsUnchanged (last_type : Option ℕ) (before : Moment) (moment : Moment)
    (router : RouterNumber) (old : Area) (new : Area) (walk : KeptWalk) : Type 0 where
  pub root : walk.root ≡ root_by router new.links
  pub lsas : AreLsasUnchanged last_type before moment old.database new.database

-- All that the candidates depend on is unchanged since the moment `before`: the walk has the same
-- root, and the only LSAs that were added or removed, reached MaxAge or changed their contents are
-- AS-external-LSAs that offer nothing, whatever they say (section 16.4).
pub record AreCandidateInputsUnchanged (before : Moment) (moment : Moment) (router : RouterNumber)
    (old : Area) (new : Area) (walk : KeptWalk) : Type 0 where
  pub root : walk.root ≡ root_by router new.links
  pub lsas : AreOfferingLsasUnchanged before moment old.database new.database walk

-- no walk is made over an event, and a walk remains valid if and only if all that it depends on is
-- unchanged
pub record KeepsWalkUnlessChanged (before : Moment) (moment : Moment) (router : RouterNumber)
    (old : Area) (new : Area) (kept : KeptRoutes) (next : KeptRoutes) : Type 0 where
  pub walk : next.walk ≡ kept.walk
  pub serves : kept.behind ≡ false → AreWalkInputsUnchanged (Some 2) before moment router old new
      kept.walk
      → next.behind ≡ false
  pub falls : (AreWalkInputsUnchanged (Some 2) before moment router old new kept.walk → ⊥)
      → next.behind ≡ true
  pub lags : kept.behind ≡ true → next.behind ≡ true

-- walk, candidates and the results from the LSAs of types 1 to 4 are the router's at the moment
pub record AreWalkAndCandidatesOf (router : RouterNumber) (area : Area) (moment : Moment)
    (kept : KeptRoutes) : Type 0 where
  pub walk : KnowsWalk (contents_at moment area.database) (root_by router area.links) kept
  pub candidates : KnowsCandidates (contents_at moment area.database) (root_by router area.links)
      kept
  pub inner : KnowsInner (contents_at moment area.database) (root_by router area.links) kept

-- walk, graph, candidates and what these depend on are
pub record AreRoutesOf (router : RouterNumber) (area : Area) (moment : Moment)
    (kept : KeptRoutes) : Type 0 where
  pub walk : KnowsWalk (contents_at moment area.database) (root_by router area.links) kept
  pub candidates : KnowsCandidates (contents_at moment area.database) (root_by router area.links)
      kept
  pub inner : KnowsInner (contents_at moment area.database) (root_by router area.links) kept
  pub externals : KnowsExternals (contents_at moment area.database) kept
  pub graph : KnowsGraph (contents_at moment area.database) (root_by router area.links) kept

-- and so is what is known of the answers
pub record AreKept (router : RouterNumber) (area : Area) (moment : Moment) (answers : RouteWords)
    (kept : KeptRoutes) : Type 0 where
  pub routes : AreRoutesOf router area moment kept
  pub answered : KnowsAnswered (contents_at moment area.database) (root_by router area.links)
      answers
      kept
  pub matching : KnowsMatching answers kept.candidates kept.matching
