-- Sizes of packets after sending, steps of the neighbors, flooding and a received LSA: the copies
-- of the database fit into packets, and so do the lists of each neighbor and all that is sent.
use Rattle.std.proofs.Common.{◌≡◌, ◌≤◌, ℕ, ◌+◌, ◌==◌, cond, List, [], ◌∷◌, ◌++◌, map, length}
use Rattle.std.proofs.Common.{Option, None, Some, refl, sym, subst, ◌∙◌}
use Rattle.std.specs.FinMap as finite
use Rattle.std.specs.List.{AllByRecursion, enumerate_from, flat_map, fold}
use Rattle.std.specs.Ordering.{eq_by_cmp}
use Rattle.std.proofs.lemmas.List.{length-map}
use Rattle.std.proofs.lemmas.List.FromFn.{length-enumerate_from}
use Rattle.words.specs.declared.key.Key.{Key}
use Rattle.lsdb.specs.Copies.{Database, DatabaseCopy, install_flooded, lsa_now}
use Rattle.lsdb.specs.Headers.{Lsa, lsa_key}
use Rattle.lsdb.specs.Keys.{key_cmp}
use Rattle.lsdb.proofs.Keys.{keys_total}
use Rattle.adjacency.specs.Adjacencies.{mismatch_step}
use Rattle.adjacency.specs.Contents.{Acknowledges, Content, Step, Updates, no_sends}
use Rattle.adjacency.specs.Neighbors.{Neighbor, is_exchange_or_later}
use Rattle.adjacency.specs.Requests.{without_request}
use Rattle.adjacency.specs.Retransmissions.{add_retransmission, remove_retransmission}
use Rattle.adjacency.specs.Rooms.{AllFit, Fits, HasRoom, HasRoomyLists, IsRoomyStep}
use Rattle.adjacency.proofs.Kept.{chosen}
use Rattle.adjacency.proofs.Roomy.{met_roomy, mismatched_roomy, now_fits, owed_roomy, quiet_roomy}
use Rattle.adjacency.proofs.Roomy.{released_roomy}
use Rattle.received.specs.Cases.{Case}
use Rattle.received.specs.Flooding.{flood, flood_to, is_to_be_sent, satisfies_request, request_of}
use Rattle.received.specs.Flooding.{without_satisfied_request}
use Rattle.received.specs.Holds.{Holds, HoldsOfEach}
use Rattle.received.specs.Links.{Area, Link, change_link, delay_acknowledgment}
use Rattle.received.specs.AreaStates.{AreaState, Send, Stepping, each_neighbor, marked_database}
use Rattle.received.specs.AreaStates.{sends_at, on_database, on_links, one_neighbor, only_at}
use Rattle.received.specs.AreaStates.{sending}
use Rattle.received.specs.AreaStates.{sent_on, step_on, stepped_links}
use Rattle.received.specs.Updates.{acknowledge_directly, after_case, database_copy}
use Rattle.received.specs.Updates.{flood_and_install}
use Rattle.received.specs.Updates.{send_copy}
use Rattle.received.proofs.Holding.{changed_keeps, each_keeps}
use Rattle.received.proofs.Marks.{changed_by}

-- ---- what fits

abbrev pub SendHasRoom : Send → Type 0
SendHasRoom s = HasRoom s.content

-- the copies fit, there are few enough links, the lists of their neighbors fit, and so does all
-- that was sent
pub record HasRoomFor (a : Area) (sends : List Send) : Type 0 where
  pub fit : AllFit a.database
  pub lists : HoldsOfEach HasRoomyLists a.links
  pub few : length a.links ≤ 63
  pub sent : AllByRecursion SendHasRoom sends

abbrev pub IsRoomyOutcome : AreaState → Type 0
IsRoomyOutcome o = HasRoomFor o.area o.sends

-- ---- databases

abbrev pub FitsIfThere : Option DatabaseCopy → Type 0
FitsIfThere None = Unit {0}
FitsIfThere (Some c) = Fits c.lsa

pub fits_at : (db : Database) → AllFit db → (key : Key) → FitsIfThere (finite.get db key)
fits_at db all key = found (finite.get db key) (all key)
  where
    found : (o : Option DatabaseCopy) → ((c : DatabaseCopy) → o ≡ Some c → Fits c.lsa)
        → FitsIfThere o
    found None fits = tt
    found (Some c) fits = fits c refl

pub all_fit : (db : Database) → ((key : Key) → FitsIfThere (finite.get db key)) → AllFit db
all_fit db fits key c is = subst FitsIfThere is (fits key)

pub inserted_fit : (db : Database) (key : Key) (c : DatabaseCopy) → AllFit db → Fits c.lsa
    → AllFit (finite.insert db key c)
inserted_fit db key c all fits =
    all_fit (finite.insert db key c) (λ q.
    subst FitsIfThere (sym (finite.get-insert keys_total db key c q))
    (chosen FitsIfThere (eq_by_cmp key_cmp q key) (Some c) (finite.get db q) (λ is. fits)
    (λ is. fits_at db all q)))

-- a change of a copy that keeps its LSA's length
pub changed_fit : (key : Key) (change : DatabaseCopy → DatabaseCopy)
    → ((c : DatabaseCopy) → Fits c.lsa → Fits (change c).lsa) → (db : Database) → AllFit db
    → AllFit (changed_by key change db (finite.get db key))
changed_fit key change keeps db all = by_copy (finite.get db key) (fits_at db all key)
  where
    by_copy : (o : Option DatabaseCopy) → FitsIfThere o → AllFit (changed_by key change db o)
    by_copy None fits = all
    by_copy (Some c) fits = inserted_fit db key (change c) all (keeps c fits)

marked_fit : (moment : ℕ) (says : Content) (db : Database) → AllFit db
    → AllFit (marked_database moment db says)
marked_fit moment (Content.SendsHello h) db all = all
marked_fit moment (Content.Describes d) db all = all
marked_fit moment (Content.Requests keys) db all = all
marked_fit moment (Content.Updates lsa) db all = changed_fit (lsa_key lsa) (λ c. record c {
  sent = Some moment;
}) (λ c fits. fits) db all
marked_fit moment (Content.Acknowledges h) db all = all

all_marked_fit : (moment : ℕ) (more : List Send) (db : Database) → AllFit db
    → AllFit (fold (λ (d : Database) (s : Send). marked_database moment d s.content) db more)
all_marked_fit moment [] db all = all
all_marked_fit moment (s ∷ more) db all =
    all_marked_fit moment more (marked_database moment db s.content)
    (marked_fit moment s.content db all)

-- ---- what is sent

pub joined : {X : Type 0} (P : X → Type 0) (xs ys : List X) → AllByRecursion P xs
    → AllByRecursion P ys → AllByRecursion P (xs ++ ys)
joined P [] ys p q = q
joined P (x ∷ xs) ys p q = (p.0, joined P xs ys p.1 q)

pub numbered_roomy : (number : ℕ) (cs : List Content) → AllByRecursion HasRoom cs
    → AllByRecursion SendHasRoom (sends_at number cs)
numbered_roomy number [] room = tt
numbered_roomy number (c ∷ cs) room = (room.0, numbered_roomy number cs room.1)

pub sending_roomy : (moment : ℕ) (more : List Send) (o : AreaState)
    → AllByRecursion SendHasRoom more → IsRoomyOutcome o → IsRoomyOutcome (sending moment more o)
sending_roomy moment more o room h = record {
  fit = all_marked_fit moment more o.area.database h.fit;
  lists = h.lists;
  few = h.few;
  sent = joined SendHasRoom o.sends more h.sent room;
}

-- ---- links and the database

pub on_links_roomy : (f : List Link → List Link) (o : AreaState)
    → HoldsOfEach HasRoomyLists (f o.area.links) → length (f o.area.links) ≡ length o.area.links
    → IsRoomyOutcome o → IsRoomyOutcome (on_links f o)
on_links_roomy f o lists same h = record {
  fit = h.fit;
  lists = lists;
  few = subst (λ n. n ≤ 63) (sym same) h.few;
  sent = h.sent;
}

pub on_database_roomy : (f : Database → Database) (o : AreaState) → AllFit (f o.area.database)
    → IsRoomyOutcome o → IsRoomyOutcome (on_database f o)
on_database_roomy f o fit h = record { fit = fit; lists = h.lists; few = h.few; sent = h.sent }

-- each link, by its number
pub same_number : (g : (ℕ × Link) → Link) (xs : List Link)
    → length (map g (enumerate_from 1 xs)) ≡ length xs
same_number g xs = length-map (enumerate_from 1 xs) g ∙ length-enumerate_from 1 xs

pub changed_roomy : (number : ℕ) (change : Link → Link)
    → ((link : Link) → Holds HasRoomyLists link.neighbor
    → Holds HasRoomyLists (change link).neighbor) → (o : AreaState) → IsRoomyOutcome o
    → IsRoomyOutcome (on_links (change_link number change) o)
changed_roomy number change keeps o h =
    on_links_roomy (change_link number change) o
    (changed_keeps HasRoomyLists number change keeps o.area.links h.lists)
    (same_number (λ (e : ℕ × Link). cond (e.0 == number) (change e.1) e.1) o.area.links) h

-- ---- steps of the neighbors

sent_on_roomy : (f : Neighbor → Step) → ((n : Neighbor) → HasRoomyLists n → IsRoomyStep (f n))
    → (o : Option Neighbor) → Holds HasRoomyLists o → AllByRecursion HasRoom (sent_on f o)
sent_on_roomy f keeps None h = tt
sent_on_roomy f keeps (Some n) h = (keeps n h).sends

steps_roomy : (f : Stepping) → ((number : ℕ) (link : Link) (n : Neighbor) → HasRoomyLists n
    → IsRoomyStep (f number link n)) → (k : ℕ) (xs : List Link) → HoldsOfEach HasRoomyLists xs
    → AllByRecursion SendHasRoom (flat_map
    (λ (e : ℕ × Link). sends_at e.0 (sent_on (f e.0 e.1) e.1.neighbor))
    (enumerate_from k xs))
steps_roomy f keeps k [] h = tt
steps_roomy f keeps k (x ∷ xs) h =
    joined SendHasRoom (sends_at k (sent_on (f k x) x.neighbor))
    (flat_map (λ (e : ℕ × Link). sends_at e.0 (sent_on (f e.0 e.1) e.1.neighbor))
    (enumerate_from (k + 1) xs))
    (numbered_roomy k (sent_on (f k x) x.neighbor)
    (sent_on_roomy (f k x) (keeps k x) x.neighbor h.0))
    (steps_roomy f keeps (k + 1) xs h.1)

pub each_roomy : (moment : ℕ) (f : Stepping)
    → ((number : ℕ) (link : Link) (n : Neighbor) → HasRoomyLists n → IsRoomyStep (f number link n))
    → (o : AreaState) → IsRoomyOutcome o → IsRoomyOutcome (each_neighbor moment f o)
each_roomy moment f keeps o h =
    sending_roomy moment _ (on_links (stepped_links f) o)
    (steps_roomy f keeps 1 o.area.links h.lists)
    (on_links_roomy (stepped_links f) o
    (each_keeps HasRoomyLists moment f (λ number link n at. (keeps number link n at).neighbor) o
    h.lists)
    (same_number (λ (e : ℕ × Link). record e.1 { neighbor = step_on (f e.0 e.1) e.1.neighbor })
    o.area.links) h)

pub one_roomy : (moment number : ℕ) (f : Neighbor → Step)
    → ((n : Neighbor) → HasRoomyLists n → IsRoomyStep (f n)) → (o : AreaState) → IsRoomyOutcome o
    → IsRoomyOutcome (one_neighbor moment number f o)
one_roomy moment number f keeps o h =
    each_roomy moment (only_at number f)
    (λ place link n at. chosen IsRoomyStep (place == number) (f n) (record {
      neighbor = n;
      sends = [];
    }) (λ is. keeps n at) (λ is. quiet_roomy n at)) o h

-- ---- flooding

flood_to_roomy : (moment : ℕ) (sender : Option ℕ) (lsa : Lsa) → Fits lsa
    → (number : ℕ) (link : Link) (n : Neighbor) → HasRoomyLists n
    → IsRoomyStep (flood_to moment sender lsa number link n)
flood_to_roomy moment sender lsa fits number link n h =
    let m : Neighbor = without_satisfied_request moment lsa n in
    let got : Step = record {
      neighbor = add_retransmission moment lsa.header m;
      sends = Updates lsa ∷ [];
    } in
    let not_got : Step = no_sends (remove_retransmission (lsa_key lsa) m) in
    let met : HasRoomyLists m = chosen HasRoomyLists
    (satisfies_request moment lsa (request_of n lsa))
    (without_request (lsa_key lsa) n) n (λ is. met_roomy (lsa_key lsa) n h) (λ is. h) in
    chosen IsRoomyStep (is_exchange_or_later n.state)
    (cond (is_to_be_sent moment sender number lsa n) got not_got) (no_sends n)
    (λ part.
    chosen IsRoomyStep (is_to_be_sent moment sender number lsa n) got not_got
    (λ is. record {
      neighbor = owed_roomy moment lsa.header m met;
      sends = (fits, tt);
    }) (λ is. quiet_roomy (remove_retransmission (lsa_key lsa) m)
    (released_roomy (lsa_key lsa) m met)))
    (λ part. quiet_roomy n h)

pub flood_roomy : (moment : ℕ) (sender : Option ℕ) (lsa : Lsa) (o : AreaState) → Fits lsa
    → IsRoomyOutcome o → IsRoomyOutcome (flood moment sender lsa o)
flood_roomy moment sender lsa o fits h =
    each_roomy moment (flood_to moment sender lsa) (flood_to_roomy moment sender lsa fits) o h

-- ---- a received LSA

at_once_roomy : (moment number : ℕ) (lsa : Lsa) (o : AreaState) → IsRoomyOutcome o
    → IsRoomyOutcome (acknowledge_directly moment number lsa.header o)
at_once_roomy moment number lsa o h =
    sending_roomy moment (sends_at number (Acknowledges lsa.header ∷ [])) o (tt, tt) h

install_roomy : (moment number : ℕ) (lsa : Lsa) (o : AreaState) → Fits lsa → IsRoomyOutcome o
    → IsRoomyOutcome (flood_and_install moment number lsa o)
install_roomy moment number lsa o fits h =
    let p : AreaState = on_database (install_flooded moment lsa) o in
    let put : IsRoomyOutcome p =
    on_database_roomy (install_flooded moment lsa) o
    (inserted_fit o.area.database (lsa_key lsa) (record {
      lsa = lsa;
      stored = moment;
      received = Some moment;
      sent = None;
    }) h.fit fits) h in
    changed_roomy number (delay_acknowledgment lsa.header) (λ link at. at)
    (flood moment (Some number) lsa p) (flood_roomy moment (Some number) lsa p fits put)

copy_roomy : (moment number : ℕ) (c : Option DatabaseCopy) (o : AreaState) → FitsIfThere c
    → IsRoomyOutcome o → IsRoomyOutcome (send_copy moment number c o)
copy_roomy moment number None o fits h = h
copy_roomy moment number (Some c) o fits h =
    sending_roomy moment (sends_at number (Updates (lsa_now moment c) ∷ [])) o
    (now_fits moment c fits, tt) h

pub case_roomy : (case : Case) (moment number : ℕ) (lsa : Lsa) (o : AreaState) → Fits lsa
    → IsRoomyOutcome o → IsRoomyOutcome (after_case case moment number lsa o)
case_roomy Case.Unreadable moment number lsa o fits h = h
case_roomy Case.NothingToFlush moment number lsa o fits h = at_once_roomy moment number lsa o h
case_roomy Case.TooSoon moment number lsa o fits h = h
case_roomy Case.Newer moment number lsa o fits h = install_roomy moment number lsa o fits h
case_roomy Case.BadRequest moment number lsa o fits h =
    one_roomy moment number (mismatch_step moment) (mismatched_roomy moment) o h
case_roomy Case.ImpliedAcknowledgment moment number lsa o fits h =
    one_roomy moment number (λ n. no_sends (remove_retransmission (lsa_key lsa) n))
    (λ n at. quiet_roomy (remove_retransmission (lsa_key lsa) n)
    (released_roomy (lsa_key lsa) n at)) o h
case_roomy Case.Duplicate moment number lsa o fits h = at_once_roomy moment number lsa o h
case_roomy Case.SequenceWraps moment number lsa o fits h = h
case_roomy Case.SentJustNow moment number lsa o fits h = h
case_roomy Case.Older moment number lsa o fits h =
    copy_roomy moment number (database_copy lsa o.area) o
    (fits_at o.area.database h.fit (lsa_key lsa)) h
