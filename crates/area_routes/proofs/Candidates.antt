-- Candidates that are kept.
use Rattle.std.proofs.Common.{◌≡◌, Bool, true, false, ◌&&◌, List, Option, None, Some, refl}
use Rattle.std.specs.Prelude.{IfSome}
use Rattle.words.specs.declared.route.Route.{Route}
use Rattle.area_routes.specs.Kept.{AreInnerBy, StayAnswered}
use Rattle.candidates.specs.declared.inner.InnerRoutes.{InnerRoutes}
use Rattle.kept_routes.specs.Kept.{KeptWalk}
use Rattle.kept_routes.specs.Sameness.{HaveSameContents}
use Rattle.kept_routes.specs.ExternalLaws.{InnerRoutesAreKept}
use Rattle.kept_routes.specs.Placing.{AreAllAmong, HasAnother}
use Rattle.routes.specs.Candidates.{AreCandidates}
use Rattle.routes.specs.Contents.{Contents}
use Rattle.routes.specs.declared.root.Root.{Root}
use Rattle.candidates.specs.Reached.{way_in}

-- what holds of routes that are kept still holds
pub carried : (P Q : List Route → Type 0) → ((routes : List Route) → P routes → Q routes)
    → (kept : Option (List Route)) → IfSome kept P → IfSome kept Q
carried P Q goes_on None is = is
carried P Q goes_on (Some routes) is = goes_on routes is

-- and so does what holds of the results from the LSAs of types 1 to 4
pub inner_carried : InnerRoutesAreKept → (old new : Contents) (root : Root) (walk : KeptWalk)
    → HaveSameContents (Some 4) old new → (kept : Option InnerRoutes)
    → IfSome kept (AreInnerBy old root walk) → IfSome kept (AreInnerBy new root walk)
inner_carried law old new root walk same None is = is
inner_carried law old new root walk same (Some inner) is =
    record {
      are_inner = law old new root (way_in walk.reached) inner same is.are_inner;
      searchable = is.searchable;
    }

-- if each candidate was one before, none lacks an answer that it had
pub stay_answered : (old new : Contents) (root : Root) (before after : List Route)
    → AreCandidates old root before → AreCandidates new root after → AreAllAmong before after
    → StayAnswered old new root
stay_answered old new root before after were are among answers (r, is, none) =
    (r, (were.each r).0 (among r ((are.each r).1 is)), none)

-- if `none_new` is false only with a new route, it is true if there is none
pub none_another : (none_new : Bool) (before after : List Route)
    → (none_new ≡ false → HasAnother before after) → AreAllAmong before after → none_new ≡ true
none_another true before after another among = refl
none_another false before after another among = let it = another refl in
    absurd (it.2 (among it.0 it.1))

pub and_true : (a b : Bool) → b ≡ true → (a && b) ≡ a
and_true true b is = is
and_true false b is = refl
