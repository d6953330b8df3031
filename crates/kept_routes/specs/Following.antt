-- The outcome for candidates that were to follow an event (RFC 2328, section 16.6).
use Rattle.std.specs.Prelude.{List}
use Rattle.kept_routes.specs.Placing.{AreAllAmong, HasAnother}
use Rattle.kept_routes.specs.declared.follow.Followed.{Followed}
use Rattle.kept_routes.specs.declared.follow.Followed.TheVariants as followed
use Rattle.routes.specs.Candidates.{AreCandidates}
use Rattle.routes.specs.Contents.{Contents}
use Rattle.routes.specs.declared.root.Root.{Root}
use Rattle.words.specs.declared.route.Route.{Route}

-- unless they were too many, the new ones are the candidates: with `NoneNew` each is one of the old
-- ones, with `SomeNew` at least one is not
abbrev pub HaveFollowed : Contents → Root → (old : List Route) → (new : List Route) → Followed
    → Type 0
HaveFollowed contents root old new followed.TooMany = Unit {0}
HaveFollowed contents root old new followed.NoneNew =
    AreCandidates contents root new × AreAllAmong old new
HaveFollowed contents root old new followed.SomeNew =
    AreCandidates contents root new × HasAnother old new
