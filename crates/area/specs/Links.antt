-- Links and their committed state, and flooding of database copies.
use Rattle.std.specs.Prelude.{if◌then◌else◌, List, [], map, Option, None, Some}
use Rattle.std.specs.FinMap as finite
use Rattle.words.specs.Numbers.{InterfaceNumber, Moment}
use Rattle.words.specs.declared.key.Key.{Key}
use Rattle.words.specs.Constants.{max_age}
use Rattle.lsdb.specs.Copies.{Database, DatabaseCopy, age_prematurely, has_just_aged_out}
use Rattle.lsdb.specs.Copies.{install_originated, lsa_now}
use Rattle.lsdb.specs.Headers.{Lsa, lsa_with_age}
use Rattle.adjacency.specs.Contents.{Content, Step, sent_on, step_on}
use Rattle.adjacency.specs.Drafts.{Drafted}
use Rattle.adjacency.specs.Neighbors.{Neighbor}
use Rattle.received.specs.Flooding.{flood}
use Rattle.received.specs.Links.{Area, Link, any_has_retransmission}
use Rattle.received.specs.AreaStates.{AreaState, on_database}
use Rattle.area.specs.Kept.{KeptLink}

abbrev pub present : KeptLink → Link
present l = l.present

abbrev pub committed_link : KeptLink → Link
committed_link l = l.committed

abbrev pub draft_of : KeptLink → Drafted
draft_of l = l.drafted

abbrev pub with_neighbor : Option Neighbor → Link → Link
with_neighbor n link = record link { neighbor = n }

-- the neighbor on the link, if there is one, takes a step
abbrev pub neighbor_step : (Neighbor → Step) → Link → Link
neighbor_step f link = with_neighbor (step_on f link.neighbor) link

-- what that step sends
abbrev pub neighbor_sends : (Neighbor → Step) → Link → List Content
neighbor_sends f link = sent_on f link.neighbor

abbrev pub area_of : List KeptLink → Database → Area
area_of links db = record { links = map present links; database = db }

-- nothing was sent so far
abbrev pub with_no_sends : Area → AreaState
with_no_sends a = record { area = a; sends = [] }

-- flooding the copy, if there is one
abbrev pub flooded_copy : Moment → Option InterfaceNumber → Option DatabaseCopy → AreaState
    → AreaState
flooded_copy moment incoming None o = o
flooded_copy moment incoming (Some c) o = flood moment incoming (lsa_now moment c) o

-- flooding the copy of this key, if there is one
abbrev pub flooded_key : Moment → Option InterfaceNumber → Key → Area → AreaState
flooded_key moment incoming key a = flooded_copy moment incoming (finite.get a.database key)
    (with_no_sends a)

-- this router originated the LSA: it is installed and flooded to every neighbor, as in
-- `event_rules`, `install_and_flood`, in the form that contracts of this crate use
abbrev pub originate_outcome : Moment → Lsa → Area → AreaState
originate_outcome moment lsa a =
    flood moment None lsa (on_database (install_originated moment lsa) (with_no_sends a))

-- a copy, if there is one, is set to MaxAge and flooded to every neighbor
abbrev pub age_copy : Moment → Key → Option DatabaseCopy → AreaState → AreaState
age_copy moment key None o = o
age_copy moment key (Some c) o =
    flood moment None (lsa_with_age max_age c.lsa) (on_database (age_prematurely moment key) o)

abbrev pub age_outcome : Moment → Key → Area → AreaState
age_outcome moment key a = age_copy moment key (finite.get a.database key) (with_no_sends a)

-- a copy that has reached MaxAge since the moment `before` is flooded to every neighbor (section
-- 14)
abbrev pub flood_new_max_age_copy : (before : Moment) → (moment : Moment) → Option DatabaseCopy
    → AreaState → AreaState
flood_new_max_age_copy before moment None o = o
flood_new_max_age_copy before moment (Some c) o =
    if has_just_aged_out before moment c then flood moment None (lsa_now moment c) o else o

abbrev pub flood_new_max_age : (before : Moment) → (moment : Moment) → Key → Area → AreaState
flood_new_max_age before moment key a =
    flood_new_max_age_copy before moment (finite.get a.database key) (with_no_sends a)

-- the copy of this key is removed unless the key is on some retransmission list (section 14)
abbrev pub without_acknowledged : List Link → Database → Key → Database
without_acknowledged links db key =
    if any_has_retransmission key links then db else finite.remove db key
