-- Flooding in the words of section 13.3.
use Rattle.std.proofs.Common.{◌≡◌, ℕ, Bool, true, false, [], Option, Some, refl}
use Rattle.lsdb.specs.Headers.{Lsa, lsa_key}
use Rattle.adjacency.specs.Neighbors.{Neighbor}
use Rattle.received.specs.Flooding.{flood_to}
use Rattle.received.specs.Laws.{DropsRequest, FloodingExaminesEachNeighbor, Requests}
use Rattle.received.specs.Links.{Link}
use Rattle.adjacency.specs.Requests.{requested_entry}
use Rattle.received.proofs.Flooded.{removed}

stays : (moment : ℕ) (sender : Option ℕ) (lsa : Lsa) (number : ℕ) (link : Link) (n : Neighbor)
    (b : Bool) → (r : Requests moment sender lsa number n b false true)
    → (requested_entry (flood_to moment sender lsa number link n).neighbor (lsa_key lsa)
    ≡ Some r.entry) × ((flood_to moment sender lsa number link n).sends ≡ [])
stays moment sender lsa number link n true r = (
  rw (r.is_later, r.is_incoming, r.is_synchronizing, r.is_requested, r.is_older) r.is_requested,
  rw (r.is_later, r.is_incoming) refl,
)
stays moment sender lsa number link n false r = (
  rw (r.is_later, r.is_incoming, r.is_synchronizing, r.is_requested, r.is_newer, r.is_older)
      r.is_requested,
  rw (r.is_later, r.is_incoming, r.is_synchronizing, r.is_requested, r.is_newer) refl,
)

goes : (moment : ℕ) (sender : Option ℕ) (lsa : Lsa) (number : ℕ) (link : Link) (n : Neighbor)
    (b : Bool) → Requests moment sender lsa number n b false false
    → DropsRequest (flood_to moment sender lsa number link n) lsa
    × ((flood_to moment sender lsa number link n).sends ≡ [])
goes moment sender lsa number link n true r = (
  rw (r.is_later, r.is_incoming, r.is_synchronizing, r.is_requested, r.is_older)
      (removed n.requests (lsa_key lsa)),
  rw (r.is_later, r.is_incoming) refl,
)
goes moment sender lsa number link n false r = (
  rw (r.is_later, r.is_incoming, r.is_synchronizing, r.is_requested, r.is_newer, r.is_older)
      (removed n.requests (lsa_key lsa)),
  rw (r.is_later, r.is_incoming, r.is_synchronizing, r.is_requested, r.is_newer) refl,
)

drops : (moment : ℕ) (sender : Option ℕ) (lsa : Lsa) (number : ℕ) (link : Link) (n : Neighbor)
    (b : Bool) → Requests moment sender lsa number n b true false
    → DropsRequest (flood_to moment sender lsa number link n) lsa
drops moment sender lsa number link n true r =
    rw (r.is_later, r.is_incoming, r.is_synchronizing, r.is_requested, r.is_older)
    (removed n.requests (lsa_key lsa))
drops moment sender lsa number link n false r =
    rw (r.is_later, r.is_incoming, r.is_synchronizing, r.is_requested, r.is_newer, r.is_older)
    (removed n.requests (lsa_key lsa))

pub examined : FloodingExaminesEachNeighbor
examined = record {
  less_recent = stays;
  the_same = goes;
  more_recent = drops;
  sent = λ moment sender lsa number link n r.
      rw (r.is_later, r.is_incoming, r.is_synchronizing, r.is_requested, r.is_newer) refl;
  not_requested = λ moment sender lsa number link n later none from. rw (later, from, none) refl;
  back = λ moment sender lsa number link n later from. rw (later, from) refl;
  before_exchange = λ moment sender lsa number link n earlier. rw earlier refl;
}
