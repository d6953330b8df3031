-- What each part of an event makes of a request: it stays on the neighbor's list, or an instance
-- that is as new is held, or the conversation is over.
use Rattle.std.proofs.Common.{◌≡◌, ℕ, true, ◌⊎◌, inl, inr, List, [], ◌∷◌, map, Option, None}
use Rattle.std.proofs.Common.{Some, refl, sym, subst, ◌∙◌}
use Rattle.std.specs.FinMap as finite
use Rattle.std.specs.List.{AllByRecursion, fold}
use Rattle.words.specs.declared.key.Key.{Key}
use Rattle.lsa.specs.declared.body.LsaBody.{LsaBody}
use Rattle.lsdb.specs.Copies.{Database, DatabaseCopy, age_prematurely, copy_now, has_just_aged_out}
use Rattle.lsdb.specs.Copies.{install_flooded, install_originated, lsa_now, newer_than_copy}
use Rattle.lsdb.specs.Headers.{Header, Lsa, lsa_with_age, lsa_key}
use Rattle.lsdb.specs.Instances.{ListEntry, instance_of, listed_now}
use Rattle.lsdb.specs.Keys.{same_key}
use Rattle.lsdb.specs.declared.order.Instance.{Instance}
use Rattle.packet.specs.declared.model.Hello.{Hello}
use Rattle.adjacency.specs.Adjacencies as adjacencies
use Rattle.adjacency.specs.Contents.{Content, Step, Updates, no_sends}
use Rattle.adjacency.specs.Neighbors.{Neighbor}
use Rattle.adjacency.specs.Requests.{request_next}
use Rattle.adjacency.specs.Retransmissions.{after_acknowledgment, remove_retransmission}
use Rattle.adjacency.proofs.Kept.{chosen}
use Rattle.adjacency.proofs.Maps.{OfEntry}
use Rattle.received.specs.Cases.{Case}
use Rattle.received.specs.Flooding.{flood, flood_to, is_incoming}
use Rattle.received.specs.Holds.{Holds}
use Rattle.received.specs.Links.{Link, change_link, delay_acknowledgment, link_at, neighbor_at}
use Rattle.received.specs.AreaStates.{AreaState, Send, Stepping, each_neighbor, on_database}
use Rattle.received.specs.AreaStates.{on_links}
use Rattle.received.specs.AreaStates.{one_neighbor, only_at, sending, sends_at, step_on, sends_of}
use Rattle.received.specs.AreaStates.{stepped_links, stepping_sends}
use Rattle.received.specs.Updates.{after_case, case_at, database_copy, flood_and_install}
use Rattle.received.specs.Updates.{send_copy}
use Rattle.received.proofs.Marks.{IsStill, mark_all, There}
use Rattle.event_rules.specs.Commands.{taken_down}
use Rattle.event_rules.specs.Endings.{flood_if_aged, link_loading_done, stays}
use Rattle.event_rules.specs.EventState.{flood_from_nobody}
use Rattle.event_rules.specs.Hellos.{accepts, names}
use Rattle.event_rules.specs.Originations.{install_and_flood, new_instance}
use Rattle.event_rules.specs.Packets.{accept_hello, receive_acknowledgment, receive_hello}
use Rattle.event_rules.specs.Packets.{receive_hello_on, with_neighbor}
use Rattle.event_rules.specs.Ticks.{acknowledgments_on, again, expire_timers, hello_sent_on}
use Rattle.event_rules.specs.Ticks.{send_acknowledgments}
use Rattle.event_rules.specs.Ticks.{send_hellos, with_hello_sent, without_acknowledgments}
use Rattle.invariants.proofs.Leaving.{each_kept_at, stepped_kept}
use Rattle.invariants.proofs.Limits.{tied_key}
use Rattle.invariants.proofs.Owing.{put_same}
use Rattle.invariants.proofs.Retransmitted.{OwnKeys, own_at}
use Rattle.agreement_laws.specs.Exchanged.{Conversation}
use Rattle.agreement_laws.specs.Ranks.{RanksFollowTheComparison, is_at_least}
use Rattle.agreement_laws.proofs.Holding.{HasEnded, IsHeldAsNew, held_flushed, held_installed}
use Rattle.agreement_laws.proofs.Holding.{held_originated, held_removed, held_sent, stored_at_least}
use Rattle.agreement_laws.proofs.Asking.{Asking, IsMet, flooded}
use Rattle.agreement_laws.proofs.Asking as asking
use Rattle.agreement_laws.proofs.Cases.{is_newer_case}
use Rattle.agreement_laws.proofs.Databases.{aged_out, flushed_copy, installed_copy, originated_copy}
use Rattle.agreement_laws.proofs.Ranks.{at_least_on}
use Rattle.agreement_laws.proofs.AtInterface as interface

module _ (ranks : RanksFollowTheComparison) (key : Key) (moment : ℕ) (first : Instance)
    (entry : ListEntry) (low : is_at_least (listed_now moment entry) first ≡ true)
    (with_it : Conversation) (May : Type 0) (Told : Type 0) (number : ℕ) where
  abbrev Asks : Neighbor → Type 0
  Asks m = Asking ranks key moment first entry low with_it May m

  -- if nobody is there, the conversation may be over
  abbrev pub AsksThere : Option Neighbor → Type 0
  AsksThere None = May
  AsksThere (Some m) = Asks m

  abbrev pub Has : Database → Type 0
  Has db = IsHeldAsNew ranks key moment first db

  -- it was told again, or is met, or stands on the list
  abbrev pub Stands : AreaState → Type 0
  Stands o = Told ⊎ Has o.area.database ⊎ AsksThere (neighbor_at number o.area.links)

  -- so at the end of the event
  abbrev pub Ends : (Instance → Type 0) → AreaState → Type 0
  Ends Had o = Told ⊎ HasEnded ranks key moment first Had o.area
      ⊎ AsksThere (neighbor_at number o.area.links)

  -- ---- the database and the links

  pub on_db : (f : Database → Database) (o : AreaState)
      → (Has o.area.database → Has (f o.area.database)) → Stands o → Stands (on_database f o)
  on_db f o so (inl told) = inl told
  on_db f o so (inr (inl h)) = inr (inl (so h))
  on_db f o so (inr (inr k)) = inr (inr k)

  on_all : (f : List Link → List Link) (o : AreaState)
      → (AsksThere (neighbor_at number o.area.links)
      → AsksThere (neighbor_at number (f o.area.links))) → Stands o → Stands (on_links f o)
  on_all f o so (inl told) = inl told
  on_all f o so (inr (inl h)) = inr (inl h)
  on_all f o so (inr (inr k)) = inr (inr (so k))

  pub sent : (more : List Send) (o : AreaState) → Stands o → Stands (sending moment more o)
  sent more o (inl told) = inl told
  sent more o (inr (inl h)) = inr (inl (held_sent ranks key moment first more o.area.database h))
  sent more o (inr (inr k)) = inr (inr k)

  each_link : (g : Link → Link) (o : AreaState)
      → ((link : Link) → AsksThere link.neighbor → AsksThere (g link).neighbor) → Stands o
      → Stands (on_links (map g) o)
  each_link g o keeps h = on_all (map g) o
      (λ k. each_kept_at AsksThere AsksThere (λ n. n) g number keeps o.area.links k) h

  change_at : (place : ℕ) (change : Link → Link) (o : AreaState)
      → ((link : Link) → AsksThere link.neighbor → AsksThere (change link).neighbor) → Stands o
      → Stands (on_links (change_link place change) o)
  change_at place change o keeps h =
      on_all (change_link place change) o
      (λ k. interface.changed AsksThere number place change o.area.links keeps k) h

  pub each_step : (f : Stepping) (o : AreaState)
      → ((link : Link) (m : Neighbor) → Asks m → Asks (f number link m).neighbor) → Stands o
      → Stands (each_neighbor moment f o)
  each_step f o keeps h =
      sent (stepping_sends f o.area.links) (on_links (stepped_links f) o)
      (on_all (stepped_links f) o (λ k. interface.stepped AsksThere number f o.area.links keeps k)
      h)

  pub one_step : (place : ℕ) (f : Neighbor → Step) (o : AreaState)
      → ((m : Neighbor) → Asks m → Asks (f m).neighbor) → Stands o
      → Stands (one_neighbor moment place f o)
  one_step place f o keeps h =
      each_step (only_at place f) o
      (λ link m at. interface.stepped_at AsksThere number place f link m (λ e k. keeps m k) at) h

  -- ---- flooding

  -- an LSA that meets the request is held as new
  abbrev Holding : Lsa → Database → Type 0
  Holding lsa db = IsMet ranks key moment first entry low with_it May lsa → Has db

  pub floods : (sender : Option ℕ) (lsa : Lsa) (o : AreaState) → Holding lsa o.area.database
      → Stands o → Stands (flood moment sender lsa o)
  floods sender lsa o holds h = sent (stepping_sends f o.area.links) (on_links (stepped_links f) o)
      (by_state h)
    where
      f : Stepping
      f = flood_to moment sender lsa

      Met : Option Neighbor → Type 0
      Met n = AsksThere n ⊎ IsMet ranks key moment first entry low with_it May lsa

      one : (link : Link) (n : Option Neighbor) → AsksThere n → Met (step_on (f number link) n)
      one link None k = inl k
      one link (Some m) k = flooded ranks key moment first entry low with_it May
          (is_incoming sender number) lsa m k

      by_result : Met (neighbor_at number (stepped_links f o.area.links))
          → Stands (on_links (stepped_links f) o)
      by_result (inl k) = inr (inr k)
      by_result (inr met) = inr (inl (holds met))

      by_state : Stands o → Stands (on_links (stepped_links f) o)
      by_state (inl told) = inl told
      by_state (inr (inl h)) = inr (inl h)
      by_state (inr (inr k)) = by_result
          (stepped_kept AsksThere Met (λ n. inl n) f number (λ link at. one link link.neighbor at)
          o.area.links k)

  -- a copy that is as new as the LSA
  held_by : (c : DatabaseCopy) (lsa : Lsa) (db : Database)
      → (same_key key (lsa_key lsa) ≡ true → finite.get db key ≡ Some c)
      → is_at_least (copy_now moment c) (instance_of lsa.header) ≡ true → Holding lsa db
  held_by c lsa db at new met = (
    c,
    at met.0,
    at_least_on ranks.total (copy_now moment c) (instance_of lsa.header) first new met.1,
  )

  -- one that is put there
  held_put : (lsa : Lsa) (c : DatabaseCopy) (db : Database) → c.lsa ≡ lsa
      → Holding lsa (finite.insert db (lsa_key lsa) c)
  held_put lsa c db is = held_by c lsa (finite.insert db (lsa_key lsa) c)
      (λ same. put_same db (lsa_key lsa) key c same)
      (stored_at_least ranks key moment first lsa c is)

  -- ---- ages

  module _ (db : Database) (keys : OwnKeys db) where
    -- the copy of the key is there, whenever it was sent
    abbrev Still : Database → Type 0
    Still x = (c : DatabaseCopy) → finite.get db key ≡ Some c → IsStill x key c

    aged_one : (e : Key × DatabaseCopy) → There db e.0 e.1 → (o : AreaState) → Still o.area.database
        → Stands o → Stands (flood_from_nobody moment (lsa_now moment e.1) o)
        × Still (flood_from_nobody moment (lsa_now moment e.1) o).area.database
    aged_one e at o still h = (
      floods None (lsa_now moment e.1) o (λ met. by_copy met (still e.1 (there met.0))) h,
      marked,
    )
      where
        there : same_key key (lsa_key e.1.lsa) ≡ true → finite.get db key ≡ Some e.1
        there same = subst (λ (k : Key). finite.get db k ≡ Some e.1)
            (sym (tied_key key (lsa_key e.1.lsa) same ∙ own_at db e.0 e.1 keys at)) at

        by_copy : IsMet ranks key moment first entry low with_it May (lsa_now moment e.1)
            → IsStill o.area.database key e.1 → Has o.area.database
        by_copy met s = (record e.1 { sent = s.0 }, s.1, met.1)

        marked : Still (flood_from_nobody moment (lsa_now moment e.1) o).area.database
        marked c is =
            let s = still c is in
            mark_all moment (stepping_sends (flood_to moment None (lsa_now moment e.1))
            o.area.links) key (record c { sent = s.0 }) o.area.database s.1

    pub ages : (before : ℕ) (es : List (Key × DatabaseCopy))
        → AllByRecursion (OfEntry (There db)) es → (o : AreaState) → Still o.area.database
        → Stands o → Stands (fold (flood_if_aged before moment) o es)
    ages before [] all o still h = h
    ages before (e ∷ es) all o still h =
        let one = chosen (λ (p : AreaState). Stands p × Still p.area.database)
        (has_just_aged_out before moment e.1) (flood_from_nobody moment (lsa_now moment e.1) o)
        o
        (λ just. aged_one e all.0 o still h) (λ young. (h, still)) in
        ages before es all.1 (flood_if_aged before moment o e) one.1 one.0

  -- ---- the router's own LSAs

  pub flushes : (k : Key) (c : DatabaseCopy) (o : AreaState) → finite.get o.area.database k ≡ Some c
      → lsa_key c.lsa ≡ k → Stands o → Stands
      (flood_from_nobody moment (lsa_with_age 3600 c.lsa)
      (on_database (age_prematurely moment k) o))
  flushes k c o at own h =
      floods None (lsa_with_age 3600 c.lsa) (on_database (age_prematurely moment k) o)
      (held_by (flushed_copy moment c) (lsa_with_age 3600 c.lsa)
      (age_prematurely moment k o.area.database)
      there
      (stored_at_least ranks key moment first (lsa_with_age 3600 c.lsa) (flushed_copy moment c)
      refl))
      (on_db (age_prematurely moment k) o
      (λ x. held_flushed ranks key moment first k c o.area.database at
      x) h)
    where
      there : same_key key (lsa_key c.lsa) ≡ true
          → finite.get (age_prematurely moment k o.area.database) key ≡ Some (flushed_copy moment c)
      there same =
          subst (λ (db : Database). finite.get db key ≡ Some (flushed_copy moment c))
          (sym (aged_out moment k c o.area.database at))
          (put_same o.area.database k key (flushed_copy moment c)
          (subst (λ (q : Key). same_key key q ≡ true) own same))

  pub originates : (k : Key) (says : LsaBody) (o : AreaState)
      → lsa_key (new_instance k (finite.get o.area.database k) says) ≡ k → Stands o
      → Stands (install_and_flood moment (new_instance k (finite.get o.area.database k) says) o)
  originates k says o its h =
      let lsa : Lsa = new_instance k (finite.get o.area.database k) says in
      floods None lsa (on_database (install_originated moment lsa) o)
      (held_put lsa (originated_copy moment lsa) o.area.database refl)
      (on_db (install_originated moment lsa) o
      (λ x. held_originated ranks key moment first k says o.area.database its x) h)

  -- ---- received LSAs

  installs : (place : ℕ) (lsa : Lsa) (o : AreaState)
      → newer_than_copy moment lsa.header (database_copy lsa o.area) ≡ true → Stands o
      → Stands (flood_and_install moment place lsa o)
  installs place lsa o is h =
      change_at place (delay_acknowledgment lsa.header)
      (flood moment (Some place) lsa (on_database (install_flooded moment lsa) o))
      (λ link at. at)
      (floods (Some place) lsa (on_database (install_flooded moment lsa) o)
      (held_put lsa (installed_copy moment lsa) o.area.database refl)
      (on_db (install_flooded moment lsa) o
      (λ x. held_installed ranks key moment first lsa o.area.database is x) h))

  copy_sent : (place : ℕ) (c : Option DatabaseCopy) (o : AreaState) → Stands o
      → Stands (send_copy moment place c o)
  copy_sent place None o h = h
  copy_sent place (Some c) o h = sent (sends_at place (Updates (lsa_now moment c) ∷ [])) o h

  pub mismatches : May → (place : ℕ) (o : AreaState) → Stands o
      → Stands (one_neighbor moment place (adjacencies.mismatch_step moment) o)
  mismatches may place o h = one_step place (adjacencies.mismatch_step moment) o
      (asking.mismatched ranks key moment first entry low with_it May may) h

  pub cases : May → (case : Case) (place : ℕ) (lsa : Lsa) (o : AreaState)
      → case_at moment place lsa o.area ≡ case → Stands o
      → Stands (after_case case moment place lsa o)
  cases may Case.Unreadable place lsa o is h = h
  cases may Case.NothingToFlush place lsa o is h =
      sent (sends_at place (Content.Acknowledges lsa.header ∷ [])) o h
  cases may Case.TooSoon place lsa o is h = h
  cases may Case.Newer place lsa o is h =
      installs place lsa o (is_newer_case moment place lsa o.area is) h
  cases may Case.BadRequest place lsa o is h = mismatches may place o h
  cases may Case.ImpliedAcknowledgment place lsa o is h =
      one_step place (λ n. no_sends (remove_retransmission (lsa_key lsa) n)) o (λ m at. at) h
  cases may Case.Duplicate place lsa o is h =
      sent (sends_at place (Content.Acknowledges lsa.header ∷ [])) o h
  cases may Case.SequenceWraps place lsa o is h = h
  cases may Case.SentJustNow place lsa o is h = h
  cases may Case.Older place lsa o is h = copy_sent place (database_copy lsa o.area) o h

  -- ---- other packets

  pub hellos : May → (own place from : ℕ) (hello : Hello) (o : AreaState) → Stands o
      → Stands (receive_hello own moment place from hello o)
  hellos may own place from hello o h = by_link (link_at place o.area.links) refl
    where
      by_link : (link : Option Link) → link_at place o.area.links ≡ link
          → Stands (receive_hello_on own moment place from hello link o)
      by_link None is = h
      by_link (Some link) is =
          let s : Step = adjacencies.after_hello moment from (names own hello) link.neighbor in
          chosen Stands (accepts own from hello link) (accept_hello moment place s o) o
          (λ e. sent (sends_at place s.sends)
          (on_links (change_link place (with_neighbor s.neighbor)) o)
          (on_all (change_link place (with_neighbor s.neighbor)) o
          (λ k. interface.heard AsksThere number place s.neighbor link o.area.links is
          (λ at. asking.helloed ranks key moment first entry low with_it May may from
          (names own hello) link.neighbor (heard_of link.neighbor at)) k) h)) (λ e. h)
        where
          heard_of : (n : Option Neighbor) → AsksThere n → Holds Asks n
          heard_of None k = tt
          heard_of (Some m) k = k

  pub acknowledgments : (place : ℕ) (headers : List Header) (o : AreaState) → Stands o
      → Stands (receive_acknowledgment moment place headers o)
  acknowledgments place headers o h =
      one_step place (λ n. no_sends (after_acknowledgment moment headers n)) o
      (asking.acknowledged ranks key moment first entry low with_it May headers) h

  -- ---- a Tick, a command, and the end

  pub inactive : May → (o : AreaState) → Stands o → Stands (on_links (map (expire_timers moment)) o)
  inactive may o h = each_link (expire_timers moment) o
      (λ link at. interface.inactive AsksThere may moment link.interface.dead_interval
      (λ m k. asking.old_description ranks key moment first entry low with_it May
      link.interface.dead_interval m k) link.neighbor at) h

  pub agains : (o : AreaState) → Stands o → Stands (each_neighbor moment (again moment o) o)
  agains o h =
      each_step (again moment o) o (λ link m at. asking.again ranks key moment first entry low
      with_it May link.interface.retransmit_interval o.area.database m at) h

  pub acknowledges : (o : AreaState) → Stands o → Stands (send_acknowledgments moment o)
  acknowledges o h =
      sent (sends_of acknowledgments_on o.area.links) (on_links (map without_acknowledgments) o)
      (each_link without_acknowledgments o (λ link at. at) h)

  pub hellos_sent : (o : AreaState) → Stands o → Stands (send_hellos moment o)
  hellos_sent o h =
      sent (sends_of (hello_sent_on moment) o.area.links)
      (on_links (map (with_hello_sent moment)) o)
      (each_link (with_hello_sent moment) o (λ link at. at) h)

  pub down : May → (place : ℕ) (o : AreaState) → Stands o
      → Stands (on_links (change_link place taken_down) o)
  down may place o h = change_at place taken_down o (λ link at. may) h

  pub loaded : (o : AreaState) → Stands o → Stands (on_links (map link_loading_done) o)
  loaded o h = each_link link_loading_done o
      (λ link at. interface.loaded AsksThere
      (asking.filled ranks key moment first entry low with_it May) link.neighbor at) h

  pub requests : (o : AreaState) → Stands o
      → Stands (each_neighbor moment (λ place link m. request_next moment m) o)
  requests o h = each_step (λ place link m. request_next moment m) o
      (λ link m at. asking.asked ranks key moment first entry low with_it May m at) h

  pub removes : (Had : Instance → Type 0) (o : AreaState)
      → ((c : DatabaseCopy) → finite.get o.area.database key ≡ Some c → Had (copy_now moment c))
      → Stands o → Ends Had (on_database (λ db. finite.retain_keys db (stays moment o.area)) o)
  removes Had o why (inl told) = inl told
  removes Had o why (inr (inl h)) = inr (inl (held_removed ranks key moment first Had o.area why h))
  removes Had o why (inr (inr k)) = inr (inr k)

  pub remain : (Had : Instance → Type 0) (o : AreaState) → Stands o → Ends Had o
  remain Had o (inl told) = inl told
  remain Had o (inr (inl h)) = inr (inl (inl h))
  remain Had o (inr (inr k)) = inr (inr k)
