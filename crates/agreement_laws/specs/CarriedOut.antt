-- How an LSA of a Link State Update is processed in each of the ten cases, and whether the LSAs
-- after it are processed (RFC 2328, section 13). In the first seven the interface is any one; in
-- the last three it is the router's only one.
use Rattle.std.specs.Prelude.{◌≡◌, ℕ, ◌==◌, false, List, [], ◌∷◌, ◌++◌, None, Some}
use Rattle.std.specs.FinMap as finite
use Rattle.words.specs.Numbers.{InterfaceNumber}
use Rattle.words.specs.declared.key.Key.{Key}
use Rattle.lsa.specs.Reading.{lsa_in}
use Rattle.lsdb.specs.Copies.{DatabaseCopy, install_flooded, lsa_now, mark_sent}
use Rattle.lsdb.specs.Headers.{Lsa, lsa_key}
use Rattle.adjacency.specs.Adjacencies.{enter_exstart, initial_description}
use Rattle.adjacency.specs.Adjacencies.{next_dd_sequence_start}
use Rattle.adjacency.specs.Contents.{Content}
use Rattle.adjacency.specs.Neighbors.{Neighbor}
use Rattle.received.specs.Cases.{Case}
use Rattle.received.specs.Links.{Link}
use Rattle.received.specs.AreaStates.{Send}
use Rattle.received.specs.Updates.{case_at}
use Rattle.event_rules.specs.EventState.{EventState}
use Rattle.event_rules.specs.Packets.{after_lsas}
use Rattle.event_rules.specs.Routers.{Router}
use Rattle.agreement_laws.specs.WorkedFlush.{full}
use Rattle.agreement_laws.specs.WorkedOwn.{beside, loading}

-- ---- terms

-- the bytes encode this LSA, and this is its case
pub record IsInCase (moment interface : ℕ) (bytes : List ℕ) (lsa : Lsa) (p : EventState)
    (case : Case) : Type 0 where
  pub is_read : lsa_in bytes ≡ Some lsa
  pub is_case : case_at moment interface lsa p.router.area ≡ case

-- in addition this is sent at the interface with this number
abbrev pub sending_too : InterfaceNumber → Content → EventState → EventState
sending_too interface content p =
    record p { sends = p.sends ++ (record { interface = interface; content = content } ∷ []) }

-- the copy of this key is marked as sent at this moment
abbrev pub counting_as_sent : ℕ → Key → EventState → EventState
counting_as_sent moment key p = record p {
  router = record p.router {
    area = record p.router.area { database = mark_sent moment key p.router.area.database };
  };
}

-- the router's only interface has this neighbor, and this was sent so far in the event
abbrev pub having_sent : List Send → Router → Link → Neighbor → EventState
having_sent sends r link n = record { router = beside r link n; sends = sends }

-- nothing changes, and the LSAs after it are processed
abbrev pub IsSkipped : Case → Type 0
IsSkipped case =
    (moment interface : ℕ) (bytes : List ℕ) (rest : List (List ℕ)) (lsa : Lsa) (p : EventState)
    → IsInCase moment interface bytes lsa p case
    → after_lsas moment interface (bytes ∷ rest) p ≡ after_lsas moment interface rest p

-- a Link State Acknowledgment with its header as received is sent to the sender, and nothing else
-- changes
abbrev pub IsAcknowledgedAtOnce : Case → Type 0
IsAcknowledgedAtOnce case =
    (moment interface : ℕ) (bytes : List ℕ) (rest : List (List ℕ)) (lsa : Lsa) (p : EventState)
    → IsInCase moment interface bytes lsa p case
    → after_lsas moment interface (bytes ∷ rest) p
    ≡ after_lsas moment interface rest (sending_too interface (Content.Acknowledges lsa.header) p)

-- ---- the ten cases

pub record EachCaseIsCarriedOut : Type 0 where
  pub unreadable : (moment interface : ℕ) (bytes : List ℕ) (rest : List (List ℕ)) (p : EventState)
      → lsa_in bytes ≡ None
      → after_lsas moment interface (bytes ∷ rest) p ≡ after_lsas moment interface rest p
  pub nothing_to_flush : IsAcknowledgedAtOnce Case.NothingToFlush
  pub too_soon : IsSkipped Case.TooSoon
  pub duplicate : IsAcknowledgedAtOnce Case.Duplicate
  pub sequence_wraps : IsSkipped Case.SequenceWraps
  pub sent_just_now : IsSkipped Case.SentJustNow
  -- the copy is sent to the sender with its present age, and marked as sent, without being put on
  -- the retransmission list
  pub older : (moment interface : ℕ) (bytes : List ℕ) (rest : List (List ℕ)) (lsa : Lsa)
      (p : EventState) (c : DatabaseCopy)
      → IsInCase moment interface bytes lsa p Case.Older
      → finite.get p.router.area.database (lsa_key lsa) ≡ Some c
      → after_lsas moment interface (bytes ∷ rest) p ≡ after_lsas moment interface rest
      (counting_as_sent moment (lsa_key c.lsa)
      (sending_too interface (Content.Updates (lsa_now moment c)) p))
  -- an LSA of another router from a Full neighbor: it is installed, its acknowledgment is delayed,
  -- the old instance is removed from the sender's retransmission list, and nothing is sent to the
  -- sender
  pub newer : (moment : ℕ) (bytes : List ℕ) (rest : List (List ℕ)) (lsa : Lsa) (r : Router)
      (link : Link) (n : Neighbor) (sends : List Send)
      → IsInCase moment 1 bytes lsa (having_sent sends r link (full n)) Case.Newer
      → (lsa.header.advertising_router == r.id) ≡ false
      → after_lsas moment 1 (bytes ∷ rest) (having_sent sends r link (full n))
      ≡ after_lsas moment 1 rest (having_sent sends
      (record r {
        area = record r.area { database = install_flooded moment lsa r.area.database };
      })
      (record link {
        acknowledgments = finite.insert link.acknowledgments (lsa_key lsa) lsa.header;
      })
      (record (full n) { retransmissions = finite.remove n.retransmissions (lsa_key lsa) }))
  -- the entry is removed from the sender's retransmission list, and nothing is sent
  pub implied_acknowledgment : (moment : ℕ) (bytes : List ℕ) (rest : List (List ℕ)) (lsa : Lsa)
      (r : Router) (link : Link) (n : Neighbor) (sends : List Send)
      → IsInCase moment 1 bytes lsa (having_sent sends r link n) Case.ImpliedAcknowledgment
      → after_lsas moment 1 (bytes ∷ rest) (having_sent sends r link n)
      ≡ after_lsas moment 1 rest (having_sent sends r link
      (record n { retransmissions = finite.remove n.retransmissions (lsa_key lsa) }))
  -- from a neighbor in Loading: the exchange starts over with an initial Database Description with
  -- the next sequence number, and the LSAs after it are dropped
  pub bad_request : (moment : ℕ) (bytes : List ℕ) (rest : List (List ℕ)) (lsa : Lsa) (r : Router)
      (link : Link) (n : Neighbor) (sends : List Send)
      → IsInCase moment 1 bytes lsa (having_sent sends r link (loading n)) Case.BadRequest
      → after_lsas moment 1 (bytes ∷ rest) (having_sent sends r link (loading n))
      ≡ sending_too 1
      (Content.Describes (initial_description (next_dd_sequence_start moment n.dd_sequence_start)))
      (having_sent sends r link (enter_exstart moment (loading n)).neighbor)
