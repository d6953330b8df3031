-- A property of the database alone in the parts of an event: what is sent only marks copies, so the
-- property stays if marks keep it, and what the router originates, flushes and installs.
use Rattle.std.proofs.Common.{◌≡◌, ℕ, true, List, [], ◌∷◌, map, Option, None, Some, ap}
use Rattle.std.specs.FinMap as finite
use Rattle.std.specs.List.{Contains, fold}
use Rattle.words.specs.declared.key.Key.{Key}
use Rattle.lsa.specs.declared.body.LsaBody.{LsaBody}
use Rattle.lsdb.specs.Copies.{Database, DatabaseCopy, age_prematurely, has_just_aged_out}
use Rattle.lsdb.specs.Copies.{install_flooded}
use Rattle.lsdb.specs.Copies.{install_originated, lsa_now, newer_than_copy}
use Rattle.lsdb.specs.Headers.{Lsa, lsa_with_age, lsa_key}
use Rattle.packet.specs.declared.model.Hello.{Hello}
use Rattle.packet.specs.declared.model.Packet.{Packet}
use Rattle.adjacency.specs.Adjacencies as adjacencies
use Rattle.adjacency.specs.Contents.{Content, Step, Updates, no_sends}
use Rattle.adjacency.specs.Descriptions.{after_description}
use Rattle.adjacency.specs.Requests.{request_next}
use Rattle.adjacency.specs.Retransmissions.{after_acknowledgment, remove_retransmission}
use Rattle.adjacency.proofs.Kept.{chosen}
use Rattle.received.specs.Cases.{Case}
use Rattle.received.specs.Flooding.{flood_to}
use Rattle.received.specs.Links.{Link, link_at}
use Rattle.received.specs.AreaStates.{AreaState, Send, Stepping, each_neighbor, marked_database}
use Rattle.received.specs.AreaStates.{on_database, only_at, sends_at, stepping_sends, sends_of}
use Rattle.received.specs.Updates.{after_case, case_at, database_copy, send_copy}
use Rattle.received.proofs.Marks.{changed_by}
use Rattle.event_rules.specs.Endings.{flood_if_aged, start_event}
use Rattle.event_rules.specs.EventState.{EventState, flood_from_nobody}
use Rattle.event_rules.specs.Hellos.{accepts, names}
use Rattle.event_rules.specs.Originations.{install_and_flood, new_instance, wanted_body}
use Rattle.event_rules.specs.Packets.{accept_hello, receive_hello_on, requested_lsas}
use Rattle.event_rules.specs.Routers.{Occurrence, Router}
use Rattle.event_rules.specs.Ticks.{acknowledgments_on, again, hello_sent_on}
use Rattle.event_rules.proofs.Walk.{OfEvent, outcome}
use Rattle.invariants.specs.NewInstances.{lsas_brought}
use Rattle.invariants.proofs.Acknowledged.{in_order}
use Rattle.invariants.proofs.EventWalk.{IsHeard, IsKeptToo}
use Rattle.invariants.proofs.Limits.{new_key, wanted_type}
pub use Rattle.invariants.proofs.Leaving.{flushed_copy}
use Rattle.agreement_laws.proofs.Cases.{is_newer_case}

-- ---- copies that are stored at the moment

abbrev pub originated_copy : ℕ → Lsa → DatabaseCopy
originated_copy moment lsa = record { lsa = lsa; stored = moment; received = None; sent = None }

abbrev pub installed_copy : ℕ → Lsa → DatabaseCopy
installed_copy moment lsa =
    record { lsa = lsa; stored = moment; received = Some moment; sent = None }

pub aged_out : (moment : ℕ) (k : Key) (c : DatabaseCopy) (db : Database) → finite.get db k ≡ Some c
    → age_prematurely moment k db ≡ finite.insert db k (flushed_copy moment c)
aged_out moment k c db at = ap (changed_by k (flushed_copy moment) db) at

-- ---- the property

pub record IsKept (own moment : ℕ) (P : Database → Type 0) : Type 0 where
  pub marks : (more : List Send) (db : Database) → P db
      → P (fold (λ (d : Database) (s : Send). marked_database moment d s.content) db more)
  pub flushes : (k : Key) (c : DatabaseCopy) (db : Database) → finite.get db k ≡ Some c → P db
      → P (age_prematurely moment k db)
  pub originates : (k : Key) (says : LsaBody) (db : Database) → k.advertising_router ≡ own
      → lsa_key (new_instance k (finite.get db k) says) ≡ k → P db
      → P (install_originated moment (new_instance k (finite.get db k) says) db)

module _ (own moment : ℕ) (P : Database → Type 0) (kept : IsKept own moment P) where
  pub each : (f : Stepping) (o : AreaState) → P o.area.database
      → P (each_neighbor moment f o).area.database
  each f o h = kept.marks (stepping_sends f o.area.links) o.area.database h

  pub flushed : (k : Key) (c : DatabaseCopy) (o : AreaState) → finite.get o.area.database k ≡ Some c
      → P o.area.database
      → P (flood_from_nobody moment (lsa_with_age 3600 c.lsa)
      (on_database (age_prematurely moment k) o)).area.database
  flushed k c o at h =
      each (flood_to moment None (lsa_with_age 3600 c.lsa))
      (on_database (age_prematurely moment k) o)
      (kept.flushes k c o.area.database at h)

  pub originated : (k : Key) (says : LsaBody) (p : EventState) → k.advertising_router ≡ own
      → wanted_body p.router k ≡ Some says → OfEvent (in_order own) p → P p.router.area.database
      → P (install_and_flood moment (new_instance k (finite.get p.router.area.database k) says)
      (outcome p)).area.database
  originated k says p its wants so h =
      let lsa : Lsa = new_instance k (finite.get p.router.area.database k) says in
      each (flood_to moment None lsa) (on_database (install_originated moment lsa) (outcome p))
      (kept.originates k says p.router.area.database its
      (new_key k (finite.get p.router.area.database k) says
      (wanted_type p.router k says so.announced.1 wants)) h)

  pub ages : (before : ℕ) (es : List (Key × DatabaseCopy)) (o : AreaState) → P o.area.database
      → P (fold (flood_if_aged before moment) o es).area.database
  ages before [] o h = h
  ages before (e ∷ es) o h =
      ages before es (flood_if_aged before moment o e)
      (chosen (λ (p : AreaState). P p.area.database) (has_just_aged_out before moment e.1)
      (flood_from_nobody moment (lsa_now moment e.1) o) o
      (λ is. each (flood_to moment None (lsa_now moment e.1)) o h) (λ is. h))

  -- ---- packets

  copy_sent : (place : ℕ) (c : Option DatabaseCopy) (o : AreaState) → P o.area.database
      → P (send_copy moment place c o).area.database
  copy_sent place None o h = h
  copy_sent place (Some c) o h =
      kept.marks (sends_at place (Updates (lsa_now moment c) ∷ [])) o.area.database h

  cases : (case : Case) (place : ℕ) (lsa : Lsa) (o : AreaState)
      → (newer_than_copy moment lsa.header (database_copy lsa o.area) ≡ true
      → P (install_flooded moment lsa o.area.database))
      → case_at moment place lsa o.area ≡ case → P o.area.database
      → P (after_case case moment place lsa o).area.database
  cases Case.Unreadable place lsa o installs is h = h
  cases Case.NothingToFlush place lsa o installs is h =
      kept.marks (sends_at place (Content.Acknowledges lsa.header ∷ [])) o.area.database h
  cases Case.TooSoon place lsa o installs is h = h
  cases Case.Newer place lsa o installs is h =
      each (flood_to moment (Some place) lsa) (on_database (install_flooded moment lsa) o)
      (installs (is_newer_case moment place lsa o.area is))
  cases Case.BadRequest place lsa o installs is h =
      each (only_at place (adjacencies.mismatch_step moment)) o h
  cases Case.ImpliedAcknowledgment place lsa o installs is h =
      each (only_at place (λ n. no_sends (remove_retransmission (lsa_key lsa) n))) o h
  cases Case.Duplicate place lsa o installs is h =
      kept.marks (sends_at place (Content.Acknowledges lsa.header ∷ [])) o.area.database h
  cases Case.SequenceWraps place lsa o installs is h = h
  cases Case.SentJustNow place lsa o installs is h = h
  cases Case.Older place lsa o installs is h = copy_sent place (database_copy lsa o.area) o h

  hellos : (own place from : ℕ) (hello : Hello) (link : Option Link) (o : AreaState)
      → P o.area.database → P (receive_hello_on own moment place from hello link o).area.database
  hellos own place from hello None o h = h
  hellos own place from hello (Some link) o h =
      let s : Step = adjacencies.after_hello moment from (names own hello) link.neighbor in
      chosen (λ (p : AreaState). P p.area.database) (accepts own from hello link)
      (accept_hello moment place s o) o (λ e. kept.marks (sends_at place s.sends) o.area.database h)
      (λ e. h)

module _ (old : Router) (moment : ℕ) (event : Occurrence) (P : Database → Type 0)
    (kept : IsKept old.id moment P) where
  abbrev start : EventState
  start = start_event moment old

  -- after the ages, if each LSA of the event's packet may be installed
  pub kept_too : ((place : ℕ) (packet : Packet) → IsHeard start event place packet
      → (lsa : Lsa) → Contains (lsas_brought packet.body) lsa → (db : Database)
      → newer_than_copy moment lsa.header (finite.get db (lsa_key lsa)) ≡ true → P db
      → P (install_flooded moment lsa db))
      → IsKeptToo (in_order old.id) (λ o t. P o.area.database) (λ o t. Unit {0}) start moment event
  kept_too installs = record {
    flushes = λ k c o t at young area h. flushed old.id moment P kept k c o at h;
    originates = λ k says p of_key goes may wants so h.
        originated old.id moment P kept k says p of_key wants so h;
    case = λ place packet heard case lsa o t among other is area h.
        cases old.id moment P kept case place lsa o
        (λ newer. installs place packet heard lsa among o.area.database newer h) is h;
    hello = λ place packet hello heard is so h.
        hellos old.id moment P kept start.router.id place packet.router hello
        (link_at place start.router.area.links) (outcome start) h;
    description = λ place packet d heard is so h.
        each old.id moment P kept (only_at place
        (after_description start.router.id moment start.router.area.database d)) (outcome start) h;
    acknowledgment = λ place packet headers heard is so h.
        each old.id moment P kept
        (only_at place (λ n. no_sends (after_acknowledgment moment headers n))) (outcome start) h;
    requested = λ place keys o t area h.
        kept.marks
        (sends_at place (map Content.Updates (requested_lsas moment o.area.database keys)))
        o.area.database h;
    mismatch = λ place o t area h.
        each old.id moment P kept (only_at place (adjacencies.mismatch_step moment)) o h;
    forgets = λ r o area h. h;
    inactive = λ o t area h. h;
    again = λ o t area h. each old.id moment P kept (again moment o) o h;
    acknowledges = λ o t area h.
        kept.marks (sends_of acknowledgments_on o.area.links) o.area.database h;
    hellos = λ o t area h.
        kept.marks (sends_of (hello_sent_on moment) o.area.links) o.area.database h;
    link_down = λ place o t area h. h;
    loaded = λ o t area h. h;
    requests = λ o t area h.
        each old.id moment P kept (λ place link n. request_next moment n) o h;
    removes = λ o t area h. tt;
    stays = λ o t area h. tt;
  }
