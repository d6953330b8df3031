-- What a router offers to programs at the moment of its last event: its candidates, and the rows of
-- its routing table.
use Rattle.std.specs.Prelude.{List}
use Rattle.words.specs.declared.route.Route.{Route}
use Rattle.words.specs.declared.route.TableRow.{TableRow}
use Rattle.event_rules.specs.Routers.{Router}
use Rattle.area_routes.specs.Kept.{AreKept, KeptRoutes, KeepsWalkUnlessChanged}
use Rattle.area_routes.specs.Offers.{AreCandidatesOf, AreOffered, IsStaleOf, IsTableOf}

-- its candidates at the moment of its last event
abbrev pub AreCandidatesNow : Router → List Route → Type 0
AreCandidatesNow r candidates = AreCandidatesOf r.id r.area r.moment candidates

-- its routing table
abbrev pub IsTableNow : Router → List Route → Type 0
IsTableNow r table = IsTableOf r.id r.area r.moment r.answers table

-- its candidates, and the rows of its table
abbrev pub IsOffered : Router → List Route → List TableRow → Type 0
IsOffered r candidates rows = AreOffered r.id r.area r.moment r.answers candidates rows

-- some candidate is in none of the answers of the last `Install`
abbrev pub IsStaleNow : Router → Type 0
IsStaleNow r = IsStaleOf r.id r.area r.moment r.answers

-- From one router to the next no walk is made (here: one calculation of all shortest paths), and
-- the one that is kept stays valid, unless an LSA of type 1 or 2 was added or removed, has reached
-- MaxAge, has another body or took the place of a copy at MaxAge, or the addresses of the router's
-- interfaces differ.
abbrev pub WalkStaysUnlessChanged : (old : Router) → (new : Router) → KeptRoutes → KeptRoutes
    → Type 0
WalkStaysUnlessChanged old new kept next =
    KeepsWalkUnlessChanged old.moment new.moment new.id old.area new.area kept next

-- what is kept for its routes is valid at the moment of its last event
abbrev pub AreKeptNow : Router → KeptRoutes → Type 0
AreKeptNow r kept = AreKept r.id r.area r.moment r.answers kept
