-- A property of all that is held and sent still holds after sending, steps of the neighbors,
-- flooding and a received LSA: of the copies of the database, the retransmission lists, the delayed
-- acknowledgments, and what is sent.
use Rattle.std.proofs.Common.{◌≡◌, ℕ, zero, suc, ◌+◌, ◌==◌, cond, List, [], ◌∷◌, map, length}
use Rattle.std.proofs.Common.{Option, None, Some, ◌∙◌}
use Rattle.std.specs.Prelude.{slice_get}
use Rattle.std.specs.FinMap as finite
use Rattle.std.specs.List.{AllByRecursion, enumerate_from, flat_map, fold}
use Rattle.words.specs.declared.key.Key.{Key}
use Rattle.lsdb.specs.Copies.{Database, DatabaseCopy, install_flooded, lsa_now}
use Rattle.lsdb.specs.Headers.{Header, Lsa, key_of, lsa_key}
use Rattle.adjacency.specs.Adjacencies.{mismatch_step}
use Rattle.adjacency.specs.Contents.{Acknowledges, Content, Step, Updates, no_sends}
use Rattle.adjacency.specs.Neighbors.{Neighbor, is_exchange_or_later}
use Rattle.adjacency.specs.Requests.{without_request}
use Rattle.adjacency.specs.Retransmissions.{add_retransmission, remove_retransmission}
use Rattle.adjacency.proofs.Kept.{chosen}
use Rattle.adjacency.proofs.Maps.{AllIn, IfThere, inserted_in}
use Rattle.adjacency.proofs.Told.{OfContent, OfCopies, OfCopy, OfOwed, OfOwedIfAny, OfStep, Telling}
use Rattle.adjacency.proofs.Told.{lsa_now_told, mismatched_told, owed_told, quiet_told}
use Rattle.adjacency.proofs.Told.{released_told}
use Rattle.received.specs.Cases.{Case}
use Rattle.received.specs.Flooding.{flood, flood_to, is_to_be_sent, satisfies_request, request_of}
use Rattle.received.specs.Flooding.{without_satisfied_request}
use Rattle.received.specs.Links.{Area, Link, change_link, delay_acknowledgment, link_at}
use Rattle.received.specs.Links.{neighbor_on}
use Rattle.received.specs.AreaStates.{AreaState, Send, Stepping, each_neighbor, marked_database}
use Rattle.received.specs.AreaStates.{sends_at, on_database, on_links, one_neighbor, only_at}
use Rattle.received.specs.AreaStates.{sending}
use Rattle.received.specs.AreaStates.{sent_on, step_on, stepped_links}
use Rattle.received.specs.Updates.{acknowledge_directly, after_case, database_copy}
use Rattle.received.specs.Updates.{flood_and_install}
use Rattle.received.specs.Updates.{send_copy}
use Rattle.received.proofs.Marks.{changed_by}
use Rattle.received.proofs.Roomy.{joined, same_number}

-- ---- what is held and sent

abbrev pub OfSend : Telling → Send → Type 0
OfSend t s = OfContent t s.content

abbrev pub OfWaiting : Telling → Key → Header → Type 0
OfWaiting t key h = t.of_header h

-- the neighbor's retransmission list and the delayed acknowledgments have the property
pub record OfLink (t : Telling) (link : Link) : Type 0 where
  pub neighbor : OfOwedIfAny t link.neighbor
  pub acknowledgments : AllIn (OfWaiting t) link.acknowledgments

abbrev pub OfLinks : Telling → List Link → Type 0
OfLinks t links = AllByRecursion (OfLink t) links

pub record OfArea (t : Telling) (a : Area) (sends : List Send) : Type 0 where
  pub copies : OfCopies t a.database
  pub links : OfLinks t a.links
  pub few : length a.links ≡ t.count
  pub sent : AllByRecursion (OfSend t) sends

abbrev pub OfOutcome : Telling → AreaState → Type 0
OfOutcome t o = OfArea t o.area o.sends

module _ (t : Telling) where
  -- ---- databases

  -- a change of a copy
  pub changed_told : (key : Key) (change : DatabaseCopy → DatabaseCopy)
      → ((c : DatabaseCopy) → t.of_lsa c.lsa → t.of_lsa (change c).lsa) → (db : Database)
      → OfCopies t db → OfCopies t (changed_by key change db (finite.get db key))
  changed_told key change keeps db all = by_copy (finite.get db key) (all key)
    where
      by_copy : (o : Option DatabaseCopy) → IfThere (OfCopy t) key o
          → OfCopies t (changed_by key change db o)
      by_copy None so = all
      by_copy (Some c) so = inserted_in (OfCopy t) db key (change c) all (keeps c so)

  marked_told : (moment : ℕ) (says : Content) (db : Database) → OfCopies t db
      → OfCopies t (marked_database moment db says)
  marked_told moment (Content.SendsHello h) db all = all
  marked_told moment (Content.Describes d) db all = all
  marked_told moment (Content.Requests keys) db all = all
  marked_told moment (Content.Updates lsa) db all = changed_told (lsa_key lsa) (λ c. record c {
    sent = Some moment;
  }) (λ c so. so) db all
  marked_told moment (Content.Acknowledges h) db all = all

  all_marked : (moment : ℕ) (more : List Send) (db : Database) → OfCopies t db
      → OfCopies t (fold (λ (d : Database) (s : Send). marked_database moment d s.content) db more)
  all_marked moment [] db all = all
  all_marked moment (s ∷ more) db all =
      all_marked moment more (marked_database moment db s.content)
      (marked_told moment s.content db all)

  -- ---- what is sent

  pub numbered_told : (number : ℕ) (cs : List Content) → AllByRecursion (OfContent t) cs
      → AllByRecursion (OfSend t) (sends_at number cs)
  numbered_told number [] h = tt
  numbered_told number (c ∷ cs) h = (h.0, numbered_told number cs h.1)

  pub sending_told : (moment : ℕ) (more : List Send) (o : AreaState)
      → AllByRecursion (OfSend t) more → OfOutcome t o → OfOutcome t (sending moment more o)
  sending_told moment more o so h = record {
    copies = all_marked moment more o.area.database h.copies;
    links = h.links;
    few = h.few;
    sent = joined (OfSend t) o.sends more h.sent so;
  }

  -- ---- links and the database

  pub on_links_told : (f : List Link → List Link) (o : AreaState) → OfLinks t (f o.area.links)
      → length (f o.area.links) ≡ length o.area.links → OfOutcome t o → OfOutcome t (on_links f o)
  on_links_told f o links same h = record {
    copies = h.copies;
    links = links;
    few = same ∙ h.few;
    sent = h.sent;
  }

  pub on_database_told : (f : Database → Database) (o : AreaState) → OfCopies t (f o.area.database)
      → OfOutcome t o → OfOutcome t (on_database f o)
  on_database_told f o copies h = record {
    copies = copies;
    links = h.links;
    few = h.few;
    sent = h.sent;
  }

  -- a change of every link, by its number
  links_told : (g : (ℕ × Link) → Link)
      → ((number : ℕ) (link : Link) → OfLink t link → OfLink t (g (number, link)))
      → (k : ℕ) (xs : List Link) → OfLinks t xs → OfLinks t (map g (enumerate_from k xs))
  links_told g keeps k [] h = tt
  links_told g keeps k (x ∷ xs) h = (keeps k x h.0, links_told g keeps (k + 1) xs h.1)

  pub each_link_told : (g : Link → Link) → ((link : Link) → OfLink t link → OfLink t (g link))
      → (xs : List Link) → OfLinks t xs → OfLinks t (map g xs)
  each_link_told g keeps [] h = tt
  each_link_told g keeps (x ∷ xs) h = (keeps x h.0, each_link_told g keeps xs h.1)

  pub change_told : (number : ℕ) (change : Link → Link)
      → ((link : Link) → OfLink t link → OfLink t (change link)) → (o : AreaState) → OfOutcome t o
      → OfOutcome t (on_links (change_link number change) o)
  change_told number change keeps o h =
      on_links_told (change_link number change) o
      (links_told (λ (e : ℕ × Link). cond (e.0 == number) (change e.1) e.1)
      (λ k link at. chosen (OfLink t) (k == number) (change link) link (λ is. keeps link at)
      (λ is. at)) 1 o.area.links h.links)
      (same_number (λ (e : ℕ × Link). cond (e.0 == number) (change e.1) e.1) o.area.links) h

  place_told : (xs : List Link) (i : ℕ) → OfLinks t xs
      → OfOwedIfAny t (neighbor_on (slice_get xs i))
  place_told [] i h = tt
  place_told (x ∷ xs) zero h = h.0.neighbor
  place_told (x ∷ xs) (suc i) h = place_told xs i h.1

  -- the neighbor at one interface has the property
  pub one_told : (number : ℕ) (xs : List Link) → OfLinks t xs
      → OfOwedIfAny t (neighbor_on (link_at number xs))
  one_told zero xs h = tt
  one_told (suc i) xs h = place_told xs i h

  -- ---- steps of the neighbors

  step_told : (f : Neighbor → Step) → ((n : Neighbor) → OfOwed t n → OfStep t (f n))
      → (o : Option Neighbor) → OfOwedIfAny t o → OfOwedIfAny t (step_on f o)
  step_told f keeps None h = tt
  step_told f keeps (Some n) h = (keeps n h).neighbor

  sent_on_told : (f : Neighbor → Step) → ((n : Neighbor) → OfOwed t n → OfStep t (f n))
      → (o : Option Neighbor) → OfOwedIfAny t o → AllByRecursion (OfContent t) (sent_on f o)
  sent_on_told f keeps None h = tt
  sent_on_told f keeps (Some n) h = (keeps n h).sends

  steps_told : (f : Stepping) → ((number : ℕ) (link : Link) (n : Neighbor) → OfOwed t n
      → OfStep t (f number link n)) → (k : ℕ) (xs : List Link) → OfLinks t xs
      → AllByRecursion (OfSend t) (flat_map
      (λ (e : ℕ × Link). sends_at e.0 (sent_on (f e.0 e.1) e.1.neighbor))
      (enumerate_from k xs))
  steps_told f keeps k [] h = tt
  steps_told f keeps k (x ∷ xs) h =
      joined (OfSend t) (sends_at k (sent_on (f k x) x.neighbor))
      (flat_map (λ (e : ℕ × Link). sends_at e.0 (sent_on (f e.0 e.1) e.1.neighbor))
      (enumerate_from (k + 1) xs))
      (numbered_told k (sent_on (f k x) x.neighbor)
      (sent_on_told (f k x) (keeps k x) x.neighbor h.0.neighbor))
      (steps_told f keeps (k + 1) xs h.1)

  pub each_told : (moment : ℕ) (f : Stepping)
      → ((number : ℕ) (link : Link) (n : Neighbor) → OfOwed t n → OfStep t (f number link n))
      → (o : AreaState) → OfOutcome t o → OfOutcome t (each_neighbor moment f o)
  each_told moment f keeps o h =
      sending_told moment _ (on_links (stepped_links f) o)
      (steps_told f keeps 1 o.area.links h.links)
      (on_links_told (stepped_links f) o
      (links_told (λ (e : ℕ × Link). record e.1 { neighbor = step_on (f e.0 e.1) e.1.neighbor })
      (λ k link at. record {
        neighbor = step_told (f k link) (keeps k link) link.neighbor at.neighbor;
        acknowledgments = at.acknowledgments;
      }) 1 o.area.links h.links)
      (same_number (λ (e : ℕ × Link). record e.1 { neighbor = step_on (f e.0 e.1) e.1.neighbor })
      o.area.links) h)

  pub one_neighbor_told : (moment number : ℕ) (f : Neighbor → Step)
      → ((n : Neighbor) → OfOwed t n → OfStep t (f n)) → (o : AreaState) → OfOutcome t o
      → OfOutcome t (one_neighbor moment number f o)
  one_neighbor_told moment number f keeps o h =
      each_told moment (only_at number f)
      (λ place link n at. chosen (OfStep t) (place == number) (f n) (record {
        neighbor = n;
        sends = [];
      }) (λ is. keeps n at) (λ is. quiet_told t n at)) o h

  -- ---- flooding

  flood_to_told : (moment : ℕ) (sender : Option ℕ) (lsa : Lsa) → t.of_lsa lsa
      → (number : ℕ) (link : Link) (n : Neighbor) → OfOwed t n
      → OfStep t (flood_to moment sender lsa number link n)
  flood_to_told moment sender lsa so number link n h =
      let m : Neighbor = without_satisfied_request moment lsa n in
      let got : Step = record {
        neighbor = add_retransmission moment lsa.header m;
        sends = Updates lsa ∷ [];
      } in
      let not_got : Step = no_sends (remove_retransmission (lsa_key lsa) m) in
      let met : OfOwed t m = chosen (OfOwed t) (satisfies_request moment lsa (request_of n lsa))
      (without_request (lsa_key lsa) n) n (λ is. h) (λ is. h) in
      chosen (OfStep t) (is_exchange_or_later n.state)
      (cond (is_to_be_sent moment sender number lsa n) got not_got) (no_sends n)
      (λ part.
      chosen (OfStep t) (is_to_be_sent moment sender number lsa n) got not_got
      (λ is. record {
        neighbor = owed_told t moment lsa.header m (t.header lsa so) met;
        sends = (so, tt);
      })
      (λ is. quiet_told t (remove_retransmission (lsa_key lsa) m)
      (released_told t (lsa_key lsa) m met)))
      (λ part. quiet_told t n h)

  pub flood_told : (moment : ℕ) (sender : Option ℕ) (lsa : Lsa) (o : AreaState) → t.of_lsa lsa
      → OfOutcome t o → OfOutcome t (flood moment sender lsa o)
  flood_told moment sender lsa o so h =
      each_told moment (flood_to moment sender lsa) (flood_to_told moment sender lsa so) o h

  -- ---- a received LSA

  at_once_told : (moment number : ℕ) (lsa : Lsa) (o : AreaState) → t.of_lsa lsa → OfOutcome t o
      → OfOutcome t (acknowledge_directly moment number lsa.header o)
  at_once_told moment number lsa o so h =
      sending_told moment (sends_at number (Acknowledges lsa.header ∷ [])) o (t.header lsa so, tt) h

  install_told : (moment number : ℕ) (lsa : Lsa) (o : AreaState) → t.of_lsa lsa → OfOutcome t o
      → OfOutcome t (flood_and_install moment number lsa o)
  install_told moment number lsa o so h =
      let p : AreaState = on_database (install_flooded moment lsa) o in
      let put : OfOutcome t p =
      on_database_told (install_flooded moment lsa) o
      (inserted_in (OfCopy t) o.area.database (lsa_key lsa) (record {
        lsa = lsa;
        stored = moment;
        received = Some moment;
        sent = None;
      }) h.copies so) h in
      change_told number (delay_acknowledgment lsa.header)
      (λ link at. record {
        neighbor = at.neighbor;
        acknowledgments = inserted_in (OfWaiting t) link.acknowledgments (key_of lsa.header)
            lsa.header at.acknowledgments (t.header lsa so);
      })
      (flood moment (Some number) lsa p) (flood_told moment (Some number) lsa p so put)

  copy_told : (moment number : ℕ) (key : Key) (c : Option DatabaseCopy) (o : AreaState)
      → IfThere (OfCopy t) key c → OfOutcome t o → OfOutcome t (send_copy moment number c o)
  copy_told moment number key None o so h = h
  copy_told moment number key (Some c) o so h =
      sending_told moment (sends_at number (Updates (lsa_now moment c) ∷ [])) o
      (lsa_now_told t moment c so, tt) h

  pub case_told : (case : Case) (moment number : ℕ) (lsa : Lsa) (o : AreaState) → t.of_lsa lsa
      → OfOutcome t o → OfOutcome t (after_case case moment number lsa o)
  case_told Case.Unreadable moment number lsa o so h = h
  case_told Case.NothingToFlush moment number lsa o so h = at_once_told moment number lsa o so h
  case_told Case.TooSoon moment number lsa o so h = h
  case_told Case.Newer moment number lsa o so h = install_told moment number lsa o so h
  case_told Case.BadRequest moment number lsa o so h =
      one_neighbor_told moment number (mismatch_step moment) (mismatched_told t moment) o h
  case_told Case.ImpliedAcknowledgment moment number lsa o so h =
      one_neighbor_told moment number (λ n. no_sends (remove_retransmission (lsa_key lsa) n))
      (λ n at. quiet_told t (remove_retransmission (lsa_key lsa) n)
      (released_told t (lsa_key lsa) n at)) o h
  case_told Case.Duplicate moment number lsa o so h = at_once_told moment number lsa o so h
  case_told Case.SequenceWraps moment number lsa o so h = h
  case_told Case.SentJustNow moment number lsa o so h = h
  case_told Case.Older moment number lsa o so h =
      copy_told moment number (lsa_key lsa) (database_copy lsa o.area) o (h.copies (lsa_key lsa)) h
