-- What the console shows of a router.
use Rattle.std.specs.Prelude.{◌≡◌, ◌≤◌, ℕ, suc, List, [], ◌∷◌, Option, length}
use Rattle.std.specs.List.{Contains}
use Rattle.words.specs.Numbers.{RouterNumber}
use Rattle.words.specs.declared.route.Route.{Route}
use Rattle.words.specs.declared.route.TableRow.{TableRow}
use Rattle.maps.specs.Words.{SeatView, seat_after}
use Rattle.maps.specs.declared.access.Access.TheVariants.{Read}
use Rattle.adjacency.specs.declared.state.NeighborState.{NeighborState}
use Rattle.routes.specs.Parts.{Ascend}
use Rattle.routes.specs.Rows.{rows_of}
use Rattle.event_rules.specs.Routers.{Router}
use Rattle.flood.specs.Offers.{IsTableNow}
use Rattle.flood.specs.Replay.{IsAfterEvents}
use Rattle.turns.specs.Turns.{IsOfferedBySome, Offers}
use Rattle.console.specs.Answers.{counters_text, neighbors_text, table_text}

-- routes that all stand in a list, both in the order of their prefixes
pub record IsPartOf (routes part : List Route) : Type 0 where
  pub all : Ascend routes
  pub each : (r : Route) → Contains part r → Contains routes r
  pub ascending : Ascend part

-- the text of the routing table, at the moment of its last event, of a router to which events lead
-- from this one
abbrev pub IsTableText : (origin : Router) → List ℕ → Type 0
IsTableText origin text =
    (taken : ℕ) × (r : Router) × (table : List Route)
    × IsAfterEvents origin taken r × IsTableNow r table × (text ≡ table_text table)

-- The text of a table that was offered: of candidates, and beside them the rows of those that are
-- in the table, it is the text of just these.
abbrev pub ShowsTable : Offers → List ℕ → Type 0
ShowsTable offers text =
    (candidates : List Route) × (rows : List TableRow) × offers candidates rows
    × ((table : List Route) → IsPartOf candidates table → rows ≡ rows_of table
    → text ≡ table_text table)

-- what is shown as the table of a book that began with a router is the text of such a table
abbrev pub ABookShowsItsTable : Type 0
ABookShowsItsTable =
    (origin : Router) (text : List ℕ) → ShowsTable (IsOfferedBySome origin) text
    → IsTableText origin text

-- the text of neighbors, of which this is said
abbrev pub ShowsNeighbors : (IsList : List (Option (RouterNumber × NeighborState)) → Type 0)
    → List ℕ → Type 0
ShowsNeighbors IsList text =
    (neighbors : List (Option (RouterNumber × NeighborState))) × IsList neighbors
    × (text ≡ neighbors_text neighbors)

-- a seat after it has read the counters from this number on, and found these in them
abbrev pub after_reads : SeatView → (first : ℕ) → (sums : List ℕ) → SeatView
after_reads seat first [] = seat
after_reads seat first (sum ∷ sums) =
    after_reads (seat_after seat (Read first sum)) (suc first) sums

-- the seat has read some of the 256 counters, from number 0 on, each once, and done nothing else
abbrev pub HasReadSome : (before after : SeatView) → Type 0
HasReadSome before after =
    (sums : List ℕ) × (length sums ≤ 256) × (after ≡ after_reads before 0 sums)

-- the text of the 256 counters, each as the seat read it, once, in their order
abbrev pub IsCountersText : (before after : SeatView) → List ℕ → Type 0
IsCountersText before after text =
    (sums : List ℕ) × (length sums ≡ 256) × (after ≡ after_reads before 0 sums)
    × (text ≡ counters_text sums)
