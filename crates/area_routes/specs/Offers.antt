-- What the links and the database of a router offer at a moment: candidates, and the rows of its
-- table.
use Rattle.std.specs.Prelude.{◌≡◌, List, map}
use Rattle.words.specs.Numbers.{Moment, RouterNumber}
use Rattle.words.specs.declared.route.Route.{Route}
use Rattle.words.specs.declared.route.TableRow.{TableRow}
use Rattle.received.specs.Links.{Area, Link}
use Rattle.routes.specs.Candidates.{AreCandidates}
use Rattle.routes.specs.Contents.{Contents, contents_at}
use Rattle.routes.specs.Tables.{RouteWords, IsStale, IsTable}
use Rattle.routes.specs.declared.root.Root.{Root}
use Rattle.routes.specs.Rows.{rows_of}

-- the root of the router's walks
abbrev pub root_by : RouterNumber → List Link → Root
root_by router links = record {
  router = router;
  addresses = map (λ (link : Link). link.interface.address) links;
}

-- its candidates
abbrev pub AreCandidatesOf : RouterNumber → Area → Moment → List Route → Type 0
AreCandidatesOf router area moment candidates =
    AreCandidates (contents_at moment area.database) (root_by router area.links) candidates

-- its table, given these answers
abbrev pub IsTableOf : RouterNumber → Area → Moment → RouteWords → List Route → Type 0
IsTableOf router area moment answers table =
    IsTable (contents_at moment area.database) (root_by router area.links) answers table

-- candidates, and with them the rows of the table
pub record AreOfferedBy (contents : Contents) (root : Root) (answers : RouteWords)
    (candidates : List Route) (rows : List TableRow) : Type 0 where
  pub are_candidates : AreCandidates contents root candidates
  pub table : List Route
  pub is_table : IsTable contents root answers table
  pub are_rows : rows ≡ rows_of table

-- its candidates, and with them the rows of its table
abbrev pub AreOffered : RouterNumber → Area → Moment → RouteWords → List Route → List TableRow
    → Type 0
AreOffered router area moment answers candidates rows =
    AreOfferedBy (contents_at moment area.database) (root_by router area.links) answers candidates
    rows

-- some candidate isn't among the answers
abbrev pub IsStaleOf : RouterNumber → Area → Moment → RouteWords → Type 0
IsStaleOf router area moment answers =
    IsStale (contents_at moment area.database) (root_by router area.links) answers
