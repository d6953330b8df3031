-- What programs at `tag` and `price` can do: decide about the one destination that they are asked
-- about. If two routers differ only in these answers, all else stays the same.
use Rattle.std.specs.Prelude.{◌≡◌, ℕ, Bool, true, false, not, List, map, Option, None, Some}
use Rattle.std.specs.List.{filter, list_any}
use Rattle.std.specs.FinMap as finite
use Rattle.std.specs.FinSet as set
use Rattle.words.specs.Numbers.{Moment}
use Rattle.words.specs.declared.key.Key.{Key}
use Rattle.words.specs.declared.route.External.{External}
use Rattle.lsdb.specs.Copies.{Database, DatabaseCopy}
use Rattle.lsdb.specs.Headers.{lsa_key}
use Rattle.lsdb.specs.Keys.{same_key}
use Rattle.adjacency.specs.Asked.{is_on_request_list}
use Rattle.adjacency.specs.Contents.{Content}
use Rattle.adjacency.specs.Neighbors.{Neighbor}
use Rattle.received.specs.Links.{Link}
use Rattle.received.specs.AreaStates.{Send}
use Rattle.event_rules.specs.Endings.{end_event}
use Rattle.event_rules.specs.Events.{Happens}
use Rattle.event_rules.specs.Originations.{external_key, router_key}
use Rattle.event_rules.specs.Routers.{Occurrence, Router}
use Rattle.event_rules.specs.declared.model.Out.{Out}

-- ---- all that doesn't depend on a key

-- a neighbor without the key's entry of its retransmission list, and without the moment of the last
-- retransmission
abbrev pub neighbor_without : Key → Neighbor → Neighbor
neighbor_without key n = record n {
  retransmissions = finite.remove n.retransmissions key;
  retransmitted_at = 0;
}

abbrev pub neighbor_on_without : Key → Option Neighbor → Option Neighbor
neighbor_on_without key None = None
neighbor_on_without key (Some n) = Some (neighbor_without key n)

abbrev pub link_without : Key → Link → Link
link_without key link = record link { neighbor = neighbor_on_without key link.neighbor }

-- a router without what it has for the key: the copy in its database, the destination, whether an
-- instance waits, when one was originated, and entries of retransmission lists
abbrev pub router_without : Key → Router → Router
router_without key r = record r {
  area = record {
    links = map (link_without key) r.area.links;
    database = finite.remove r.area.database key;
  };
  announced = finite.remove r.announced key;
  waiting = set.remove r.waiting key;
  originated = finite.remove r.originated key;
}

-- a Link State Update of the LSA of the key
abbrev pub updates : Key → Content → Bool
updates key (Content.SendsHello hello) = false
updates key (Content.Describes description) = false
updates key (Content.Requests keys) = false
updates key (Content.Updates lsa) = same_key (lsa_key lsa) key
updates key (Content.Acknowledges header) = false

-- what is sent at each interface, in order, without those
abbrev pub sends_without : Key → List Send → List Send
sends_without key sends = filter (λ s. not (updates key s.content)) sends

-- ---- two answers

-- the key is on some neighbor's request list
abbrev pub is_requested : Key → List Link → Bool
is_requested key links = list_any (λ link. is_on_request_list key link.neighbor) links

-- the copy has the key of its LSA, as all do in any run
abbrev pub IsUnderItsKey : Key → Database → Type 0
IsUnderItsKey key database =
    (c : DatabaseCopy) → finite.get database key ≡ Some c → lsa_key c.lsa ≡ key

-- Two `Redistribute`s of one destination at one moment, with any answers: what is sent is the same
-- except for Link State Updates of the destination's LSA, and so is the router afterwards except
-- for what it has for that LSA's key. This requires that the LSA is on no neighbor's request list,
-- since flooding it may end that neighbor's Loading; and that the router-LSA is in the database, so
-- that the AS-external-LSA can't take its room.
abbrev pub AnswersReachOneDestination : Type 0
AnswersReachOneDestination =
    (old : Router) (moment : Moment) (destination : External)
    (tagged others : External) (tag price another_tag another_price : ℕ)
    (outs these : List Out) (new next : Router)
    → is_requested (external_key old.id destination.prefix) old.area.links ≡ false
    → finite.contains_key old.area.database (router_key old.id) ≡ true
    → IsUnderItsKey (external_key old.id destination.prefix) old.area.database
    → (one : Happens old moment (Occurrence.Redistribute tagged tag destination price) outs new)
    → (other : Happens old moment
    (Occurrence.Redistribute others another_tag destination another_price) these next)
    → (router_without (external_key old.id destination.prefix) new
    ≡ router_without (external_key old.id destination.prefix) next)
    × (sends_without (external_key old.id destination.prefix) (end_event old moment one.after).sends
    ≡ sends_without (external_key old.id destination.prefix)
    (end_event old moment other.after).sends)
