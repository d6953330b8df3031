-- The entries of retransmission lists (RFC 2328, sections 10 and 13.3): the instances of the
-- database.
use Rattle.std.specs.Prelude.{◌≡◌, ◌≤◌, List, Some}
use Rattle.std.specs.FinMap as finite
use Rattle.words.specs.Numbers.{Moment}
use Rattle.words.specs.declared.key.Key.{Key}
use Rattle.lsdb.specs.Copies.{Database, DatabaseCopy, copy_header}
use Rattle.lsdb.specs.Headers.{lsa_key}
use Rattle.lsdb.specs.Instances.{ListEntry, listed_header_now}
use Rattle.adjacency.specs.Lists.{HasSoundLists}
use Rattle.adjacency.specs.Neighbors.{Neighbor}
use Rattle.event_rules.specs.declared.model.Config.{Config}
use Rattle.event_rules.specs.declared.model.Out.{Out}
use Rattle.event_rules.specs.Events.{Happens, Run, Step, initial}
use Rattle.event_rules.specs.Routers.{Occurrence, Router}
use Rattle.event_rules.specs.RoomLaws.{OfEachNeighbor}

-- the database has a copy of the key, and at each moment since the entry was made, the entry's
-- header is the copy's
abbrev pub IsOfCopy : Database → Key → ListEntry → Type 0
IsOfCopy db key entry =
    (copy : DatabaseCopy) × (finite.get db key ≡ Some copy)
    × ((moment : Moment) → entry.at ≤ moment
    → listed_header_now moment entry ≡ copy_header moment copy)

-- the same for each entry of the neighbor's retransmission list
abbrev pub AreOfTheDatabase : Database → Neighbor → Type 0
AreOfTheDatabase db n =
    (key : Key) (entry : ListEntry) → finite.get n.retransmissions key ≡ Some entry
    → IsOfCopy db key entry

pub record HasItsRetransmissions (r : Router) : Type 0 where
  -- each copy has its own key
  pub keys : (key : Key) (copy : DatabaseCopy) → finite.get r.area.database key ≡ Some copy
      → lsa_key copy.lsa ≡ key
  pub lists : OfEachNeighbor HasSoundLists r
  pub entries : OfEachNeighbor (AreOfTheDatabase r.area.database) r

pub record RetransmissionsAreOfTheDatabase : Type 0 where
  -- at the start
  pub first : (c : Config) → HasItsRetransmissions (initial c)
  -- after each event, if it held before
  pub event : (old : Router) (moment : Moment) (event : Occurrence) (outs : List Out)
      (new : Router) → Happens old moment event outs new → HasItsRetransmissions old
      → HasItsRetransmissions new
  -- so after every run from the start
  pub run : (c : Config) (steps : List Step) (new : Router) → Run (initial c) steps new
      → HasItsRetransmissions new
