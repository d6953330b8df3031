-- Each instance that a router holds and sends after an event was held before, was received in the
-- event's Link State Update, or is a new instance: one with the sequence number after that of the
-- last copy, of an LSA that the router has noted to have originated in this event.
use Rattle.std.proofs.Common.{◌≡◌, ℕ, ℤ, pos, ◌+ℤ◌, Bool, true, false, cond, List, [], ◌∷◌, ◌++◌}
use Rattle.std.proofs.Common.{map, length, Option, None, Some, refl, sym, ap, subst, ◌∙◌}
use Rattle.std.specs.FinMap as finite
use Rattle.std.specs.List.{AllByRecursion, Contains, filter_map, fold}
use Rattle.words.specs.declared.key.Key.{Key}
use Rattle.lsa.specs.Origination.{sealed_lsa}
use Rattle.lsa.specs.Reading.{lsa_in}
use Rattle.lsa.specs.declared.body.LsaBody.{LsaBody}
use Rattle.lsdb.specs.Copies.{Database, DatabaseCopy, age_prematurely, has_just_aged_out}
use Rattle.lsdb.specs.Copies.{install_flooded}
use Rattle.lsdb.specs.Copies.{install_originated, lsa_now}
use Rattle.lsdb.specs.Headers.{Lsa, lsa_with_age, lsa_key}
use Rattle.lsdb.specs.Keys.{ByKey, same_key}
use Rattle.lsdb.proofs.Keys.{keys_total}
use Rattle.packet.specs.declared.model.PacketBody.{PacketBody}
use Rattle.packet.specs.declared.model.PacketBody.TheVariants as body
use Rattle.packet.specs.declared.model.Hello.{Hello}
use Rattle.packet.specs.declared.model.Packet.{Packet}
use Rattle.adjacency.specs.Adjacencies as adjacencies
use Rattle.adjacency.specs.Contents.{Content, Updates, no_sends}
use Rattle.adjacency.specs.Descriptions.{after_description}
use Rattle.adjacency.specs.Neighbors.{Neighbor}
use Rattle.adjacency.specs.Requests.{request_next}
use Rattle.adjacency.specs.Retransmissions.{after_acknowledgment, remove_retransmission}
use Rattle.adjacency.proofs.Kept.{chosen}
use Rattle.adjacency.proofs.Maps.{entries_in, inserted_in, none_in, retained_in}
use Rattle.adjacency.proofs.Told.{OfContent, OfCopy, OfListed, OfOwedIfAny, Telling}
use Rattle.adjacency.proofs.Told.{acknowledgment_told, again_told, copies_told, description_told}
use Rattle.adjacency.proofs.Told.{mismatched_told, quiet_told, request_told, still_heard_told}
use Rattle.adjacency.proofs.Told.{updates_told}
use Rattle.received.specs.Cases.{Case}
use Rattle.received.specs.Flooding.{flood_to}
use Rattle.received.specs.Links.{Area, Link, link_at}
use Rattle.received.specs.AreaStates.{AreaState, Send, marked_database, sends_at, on_database}
use Rattle.received.specs.AreaStates.{on_links}
use Rattle.received.specs.AreaStates.{only_at, stepping_sends, sends_of}
use Rattle.received.specs.Updates.{after_case, database_copy, flood_and_install, send_copy}
use Rattle.received.proofs.Told.{OfArea, OfLink, OfSend, OfWaiting, case_told, change_told}
use Rattle.received.proofs.Told.{each_told, flood_told, numbered_told, on_database_told}
use Rattle.received.proofs.Told.{one_neighbor_told, one_told, sending_told}
use Rattle.received.proofs.Marks.{changed_by}
use Rattle.event_rules.specs.declared.model.Out.{Out}
use Rattle.event_rules.specs.Commands.{taken_down}
use Rattle.event_rules.specs.Endings.{end_event, flood_if_aged, link_loading_done, start_event}
use Rattle.event_rules.specs.Endings.{stays}
use Rattle.event_rules.specs.Events.{Happens}
use Rattle.event_rules.specs.EventState.{EventState, flood_from_nobody}
use Rattle.event_rules.specs.Hellos.{accepts, names}
use Rattle.event_rules.specs.InstanceIdentities.{InstanceIdentity, identity_of_lsa}
use Rattle.event_rules.specs.InstanceIdentities.{instances_received}
use Rattle.event_rules.specs.Originations.{forget_originations, install_and_flood, interval_is_over}
use Rattle.event_rules.specs.Originations.{new_instance, next_sequence}
use Rattle.event_rules.specs.Packets.{accept_hello, receive_hello_on, requested_lsas}
use Rattle.event_rules.specs.Routers.{Occurrence, Router}
use Rattle.event_rules.specs.Ticks.{acknowledgments_on, again, expire_timers, hello_sent_on}
use Rattle.event_rules.specs.Ticks.{with_hello_sent, without_acknowledgments}
use Rattle.event_rules.proofs.Walk.{outcome}
use Rattle.invariants.specs.InOrder.{IsConsistent}
use Rattle.invariants.specs.Known.{instances_in_sends}
use Rattle.invariants.specs.NewInstances.{BringsLsa, IsLastCopy, IsNewInstance, installed_copy}
use Rattle.invariants.specs.NewInstances.{lsas_brought}
use Rattle.invariants.specs.Worlds.{instances_stored}
use Rattle.invariants.proofs.Acknowledged.{in_order, order_begun, order_brings, order_kept}
use Rattle.invariants.proofs.EventWalk.{IsHeard, IsKeptToo, came, event_kept_too}
use Rattle.invariants.proofs.Known.{IsExplained, each_all, held_named, named_by, named_held}
use Rattle.invariants.proofs.Known.{of_members}
use Rattle.invariants.proofs.Leaving.{itself, kept_time, no_time}
use Rattle.invariants.proofs.Limits.{new_key, tied_key, wanted_type}
use Rattle.invariants.proofs.Lists.{of_empty}
use Rattle.invariants.proofs.Owing.{put_other, put_same}
use Rattle.invariants.proofs.Retransmitted.{if_so}
use Rattle.invariants.proofs.Told.{acknowledgments_told, ages_told, each_link, exchange_settled}
use Rattle.invariants.proofs.Told.{filled_on_told, flushed_told, hello_heard, hello_told_on}
use Rattle.invariants.proofs.Told.{sends_told}
use Rattle.invariants.proofs.Worlds.{mapped}

-- ---- the sequence number of a new instance

number_changed : (key : Key) (change : DatabaseCopy → DatabaseCopy)
    → ((c : DatabaseCopy) → (change c).lsa.header.sequence ≡ c.lsa.header.sequence)
    → (db : Database) (k : Key) → next_sequence
    (finite.get (changed_by key change db (finite.get db key)) k)
    ≡ next_sequence (finite.get db k)
number_changed key change same db k = by_copy (finite.get db key) refl
  where
    by_copy : (o : Option DatabaseCopy) → finite.get db key ≡ o
        → next_sequence (finite.get (changed_by key change db o) k)
        ≡ next_sequence (finite.get db k)
    by_copy None at = refl
    by_copy (Some c) at = ap next_sequence (finite.get-insert keys_total db key (change c) k)
        ∙ by_key (same_key k key) refl
      where
        by_key : (b : Bool) → same_key k key ≡ b
            → next_sequence (cond b (Some (change c)) (finite.get db k))
            ≡ next_sequence (finite.get db k)
        by_key true is =
            ap (λ s. s +ℤ pos 1) (same c) ∙ ap next_sequence
            (sym (subst (λ (q : Key). finite.get db q ≡ Some c) (sym (tied_key k key is)) at))
        by_key false is = refl

number_marked : (moment : ℕ) (says : Content) (db : Database) (k : Key)
    → next_sequence (finite.get (marked_database moment db says) k)
    ≡ next_sequence (finite.get db k)
number_marked moment (Content.SendsHello h) db k = refl
number_marked moment (Content.Describes d) db k = refl
number_marked moment (Content.Requests keys) db k = refl
number_marked moment (Content.Updates lsa) db k = number_changed (lsa_key lsa) (λ c. record c {
  sent = Some moment;
}) (λ c. refl) db k
number_marked moment (Content.Acknowledges h) db k = refl

numbers_marked : (moment : ℕ) (more : List Send) (db : Database) (k : Key)
    → next_sequence (finite.get (fold
    (λ (d : Database) (s : Send). marked_database moment d s.content) db more) k)
    ≡ next_sequence (finite.get db k)
numbers_marked moment [] db k = refl
numbers_marked moment (s ∷ more) db k =
    numbers_marked moment more (marked_database moment db s.content) k
    ∙ number_marked moment s.content db k

module _ (old : Router) (moment : ℕ) (event : Occurrence) where
  -- ---- why an instance is known, given the moments of the router's originations

  pub record IsNew (t : ByKey ℕ) (name : InstanceIdentity) : Type 0 where
    own : name.key.advertising_router ≡ old.id
    now : finite.get t name.key ≡ Some moment
    not_before : finite.get old.originated name.key ≡ Some moment → ⊥
    copy : Option DatabaseCopy
    last : IsLastCopy old moment event name.key copy
    says : LsaBody
    is : identity_of_lsa (new_instance name.key copy says) ≡ name

  abbrev Why : ByKey ℕ → InstanceIdentity → Type 0
  Why t name = IsExplained old event (IsNew t) name

  abbrev T : ByKey ℕ → Telling
  T t = named_by (Why t) (λ key. Unit {0}) (λ name k. tt) (length old.area.links)

  abbrev Follows : ByKey ℕ → ByKey ℕ → Type 0
  Follows t u = (k : Key) → finite.get t k ≡ Some moment → finite.get u k ≡ Some moment

  why_more : (t u : ByKey ℕ) → Follows t u → (name : InstanceIdentity) → Why t name → Why u name
  why_more t u so name (IsExplained.Held c) = IsExplained.Held c
  why_more t u so name (IsExplained.Brought number bytes packet is text c) =
      IsExplained.Brought number bytes packet is text c
  why_more t u so name (IsExplained.New n) =
      IsExplained.New (record {
        own = n.own;
        now = so name.key n.now;
        not_before = n.not_before;
        copy = n.copy;
        last = n.last;
        says = n.says;
        is = n.is;
      })

  module _ (t u : ByKey ℕ) (so : Follows t u) where
    owed_more : (o : Option Neighbor) → OfOwedIfAny (T t) o → OfOwedIfAny (T u) o
    owed_more None h = tt
    owed_more (Some n) h = λ key. if_so (OfListed (T t)) (OfListed (T u)) key
        (finite.get n.retransmissions key) (λ l k. why_more t u so _ k) (h key)

    content_more : (c : Content) → OfContent (T t) c → OfContent (T u) c
    content_more (Content.SendsHello hello) h = tt
    content_more (Content.Describes d) h = tt
    content_more (Content.Requests keys) h = tt
    content_more (Content.Updates lsa) h = why_more t u so _ h
    content_more (Content.Acknowledges header) h = why_more t u so _ h

    area_more : (a : Area) (sends : List Send) → OfArea (T t) a sends → OfArea (T u) a sends
    area_more a sends h = record {
      copies = λ key. if_so (OfCopy (T t)) (OfCopy (T u)) key (finite.get a.database key)
          (λ c k. why_more t u so _ k) (h.copies key);
      links = each_all (OfLink (T t)) (OfLink (T u))
          (λ link k. record {
            neighbor = owed_more link.neighbor k.neighbor;
            acknowledgments = λ key.
                if_so (OfWaiting (T t)) (OfWaiting (T u)) key (finite.get link.acknowledgments key)
                (λ x m. why_more t u so _ m) (k.acknowledgments key);
          }) a.links h.links;
      few = h.few;
      sent = each_all (OfSend (T t)) (OfSend (T u)) (λ s k. content_more s.content k) sends h.sent;
    }

  -- ---- the last copies

  data Last (t : ByKey ℕ) (k : Key) (next : ℤ) : Type 0 where
    Done : finite.get t k ≡ Some moment → Last t k next
    Had : next ≡ next_sequence (finite.get old.area.database k) → Last t k next
    Came : (lsa : Lsa) → BringsLsa event lsa → lsa_key lsa ≡ k
        → next ≡ next_sequence (Some (installed_copy moment lsa)) → Last t k next

  abbrev AllLast : ByKey ℕ → Database → Type 0
  AllLast t db = (k : Key) → Last t k (next_sequence (finite.get db k))

  last_follows : (t u : ByKey ℕ) → Follows t u → (k : Key) (next : ℤ) → Last t k next
      → Last u k next
  last_follows t u so k next (Done at) = Done (so k at)
  last_follows t u so k next (Had is) = Had is
  last_follows t u so k next (Came lsa brings its_key is) = Came lsa brings its_key is

  all_marked : (t : ByKey ℕ) (more : List Send) (db : Database) → AllLast t db
      → AllLast t (fold (λ (d : Database) (s : Send). marked_database moment d s.content) db more)
  all_marked t more db h k = subst (Last t k) (sym (numbers_marked moment more db k)) (h k)

  pub record Numbers (o : AreaState) (t : ByKey ℕ) : Type 0 where
    area : OfArea (T t) o.area o.sends
    last : AllLast t o.area.database
    remembers : Follows old.originated t

  pub record Told (o : AreaState) (t : ByKey ℕ) : Type 0 where
    pub whole : OfArea (T t) o.area o.sends

  -- ---- self-originated LSAs

  aged_last : (t : ByKey ℕ) (key : Key) (db : Database) → AllLast t db
      → AllLast t (age_prematurely moment key db)
  aged_last t key db h k = subst (Last t k) (sym (number_changed key (λ c. record c {
    lsa = lsa_with_age 3600 c.lsa;
    stored = moment;
  }) (λ c. refl) db k)) (h k)

  numbered_as : (q k : Key) (says : LsaBody) → q ≡ k → (other copy : Option DatabaseCopy)
      → next_sequence other ≡ next_sequence copy
      → identity_of_lsa (new_instance q other says) ≡ identity_of_lsa (new_instance k copy says)
  numbered_as q k says is other copy e = λ i.
      identity_of_lsa (sealed_lsa (record {
        header = record {
          age = 0;
          options = 2;
          ls_type = (is i).ls_type;
          link_state_id = (is i).link_state_id;
          advertising_router = (is i).advertising_router;
          sequence = e i;
          checksum = 0;
          length = 0;
        };
        body = says;
      }))

  -- a new instance that follows the last copy
  new_one : (k : Key) (copy : Option DatabaseCopy) (says : LsaBody) (t u : ByKey ℕ)
      → lsa_key (new_instance k copy says) ≡ k → k.advertising_router ≡ old.id
      → finite.get u k ≡ Some moment → (finite.get old.originated k ≡ Some moment → ⊥)
      → (finite.get t k ≡ Some moment → ⊥) → Last t k (next_sequence copy)
      → IsNew u (identity_of_lsa (new_instance k copy says))
  new_one k copy says t u its_key own now not_before not_yet last = record {
    own = subst (λ (q : Key). q.advertising_router ≡ old.id) (sym its_key) own;
    now = subst (λ (q : Key). finite.get u q ≡ Some moment) (sym its_key) now;
    not_before = subst (λ (q : Key). finite.get old.originated q ≡ Some moment → ⊥) (sym its_key)
        not_before;
    copy = (of_last last).0;
    last = (of_last last).1;
    says = says;
    is = (of_last last).2;
  }
    where
      of_last : Last t k (next_sequence copy)
          → (c : Option DatabaseCopy) × IsLastCopy old moment event
          (lsa_key (new_instance k copy says)) c
          × (identity_of_lsa (new_instance (lsa_key (new_instance k copy says)) c says)
          ≡ identity_of_lsa (new_instance k copy says))
      of_last (Done at) = absurd (not_yet at)
      of_last (Had is) = (
        finite.get old.area.database (lsa_key (new_instance k copy says)),
        IsLastCopy.Had refl,
        numbered_as (lsa_key (new_instance k copy says)) k says its_key
            (finite.get old.area.database (lsa_key (new_instance k copy says))) copy
            (ap (λ (q : Key). next_sequence (finite.get old.area.database q)) its_key ∙ sym is),
      )
      of_last (Came lsa brings of_key is) = (
        Some (installed_copy moment lsa),
        IsLastCopy.Brought lsa brings (of_key ∙ sym its_key) refl,
        numbered_as (lsa_key (new_instance k copy says)) k says its_key
            (Some (installed_copy moment lsa)) copy (sym is),
      )

  too_early : (t : ByKey ℕ) (k : Key) → interval_is_over moment (finite.get t k) ≡ true
      → finite.get t k ≡ Some moment → ⊥
  too_early t k over at = let no_such : true ≡ false =
      sym over ∙ ap (λ (x : Option ℕ). interval_is_over moment x) at ∙ no_time moment in absurd cc

  insert_follows : (t : ByKey ℕ) (k : Key) → Follows t (finite.insert t k moment)
  insert_follows t k q at = by_key (same_key q k) refl
    where
      by_key : (b : Bool) → same_key q k ≡ b → finite.get (finite.insert t k moment) q ≡ Some moment
      by_key true same = put_same t k q moment same
      by_key false other = put_other t k q moment other ∙ at

  originate_numbers : (k : Key) (copy : Option DatabaseCopy) (says : LsaBody) (o : AreaState)
      (t : ByKey ℕ) → finite.get o.area.database k ≡ copy → lsa_key (new_instance k copy says) ≡ k
      → k.advertising_router ≡ old.id → interval_is_over moment (finite.get t k) ≡ true
      → Numbers o t → Numbers (install_and_flood moment (new_instance k copy says) o)
      (finite.insert t k moment)
  originate_numbers k copy says o t at its_key own over h =
      let lsa : Lsa = new_instance k copy says in
      let u : ByKey ℕ = finite.insert t k moment in
      let c : DatabaseCopy = record { lsa = lsa; stored = moment; received = None; sent = None } in
      let p : AreaState = on_database (install_originated moment lsa) o in
      let now : finite.get u k ≡ Some moment = put_same t k k moment (itself k) in
      let so : Why u (identity_of_lsa lsa) =
      IsExplained.New (new_one k copy says t u its_key own now
      (λ before. too_early t k over (h.remembers k before)) (too_early t k over)
      (subst (λ (x : Option DatabaseCopy). Last t k (next_sequence x)) at (h.last k))) in
      let more : OfArea (T u) o.area o.sends =
      area_more t u (insert_follows t k) o.area o.sends h.area in
      record {
        area = flood_told (T u) moment None lsa p so
            (on_database_told (T u) (install_originated moment lsa) o
            (inserted_in (OfCopy (T u)) o.area.database (lsa_key lsa) c more.copies so) more);
        last = all_marked u (stepping_sends (flood_to moment None lsa) p.area.links) p.area.database
            (λ q. by_key now q (same_key q (lsa_key lsa)) refl);
        remembers = λ q before. insert_follows t k q (h.remembers q before);
      }
    where
      by_key : finite.get (finite.insert t k moment) k ≡ Some moment → (q : Key) (b : Bool)
          → same_key q (lsa_key (new_instance k copy says)) ≡ b
          → Last (finite.insert t k moment) q
          (next_sequence (finite.get (install_originated moment (new_instance k copy says)
          o.area.database) q))
      by_key now q true same = Done (subst
          (λ (x : Key). finite.get (finite.insert t k moment) x ≡ Some moment)
          (sym (tied_key q (lsa_key (new_instance k copy says)) same ∙ its_key)) now)
      by_key now q false other =
          subst (λ (x : Option DatabaseCopy). Last (finite.insert t k moment) q (next_sequence x))
          (sym (put_other o.area.database (lsa_key (new_instance k copy says)) q (record {
            lsa = new_instance k copy says;
            stored = moment;
            received = None;
            sent = None;
          }) other))
          (last_follows t (finite.insert t k moment) (insert_follows t k) q
          (next_sequence (finite.get o.area.database q)) (h.last q))

  forget_follows : (r : Router) → Follows r.originated (forget_originations moment r).originated
  forget_follows r q at = kept_time moment r.originated q at

  forget_numbers : (r : Router) (o : AreaState) → Numbers o r.originated
      → Numbers o (forget_originations moment r).originated
  forget_numbers r o h = record {
    area = area_more r.originated (forget_originations moment r).originated (forget_follows r)
        o.area o.sends h.area;
    last = λ k. last_follows r.originated (forget_originations moment r).originated
        (forget_follows r) k (next_sequence (finite.get o.area.database k)) (h.last k);
    remembers = λ q before. forget_follows r q (h.remembers q before);
  }

  -- ---- received LSAs

  module _ (start : EventState) (place : ℕ) (packet : Packet)
      (heard : IsHeard start event place packet) where
    received : (b : PacketBody) (lsa : Lsa) → Contains (lsas_brought b) lsa
        → Contains (instances_received b) (identity_of_lsa lsa)
    received (body.Hello h) lsa c = absurd (of_empty lsa c)
    received (body.Description d) lsa c = absurd (of_empty lsa c)
    received (body.Request keys) lsa c = absurd (of_empty lsa c)
    received (body.Update lsas) lsa c = mapped identity_of_lsa (filter_map lsa_in lsas) lsa c
    received (body.Acknowledgment headers) lsa c = absurd (of_empty lsa c)

    install_last : (lsa : Lsa) (o : AreaState) (t : ByKey ℕ)
        → Contains (lsas_brought packet.body) lsa → AllLast t o.area.database
        → AllLast t (flood_and_install moment place lsa o).area.database
    install_last lsa o t among h =
        all_marked t (stepping_sends (flood_to moment (Some place) lsa) o.area.links)
        (install_flooded moment lsa o.area.database)
        (λ q. by_key q (same_key q (lsa_key lsa)) refl)
      where
        by_key : (q : Key) (b : Bool) → same_key q (lsa_key lsa) ≡ b
            → Last t q (next_sequence (finite.get (install_flooded moment lsa o.area.database) q))
        by_key q true same = Came lsa (came heard lsa among) (sym (tied_key q (lsa_key lsa) same))
            (ap next_sequence (put_same o.area.database (lsa_key lsa) q (installed_copy moment lsa)
            same))
        by_key q false other =
            subst (λ (x : Option DatabaseCopy). Last t q (next_sequence x))
            (sym (put_other o.area.database (lsa_key lsa) q (installed_copy moment lsa) other))
            (h q)

    copy_last : (c : Option DatabaseCopy) (o : AreaState) (t : ByKey ℕ) → AllLast t o.area.database
        → AllLast t (send_copy moment place c o).area.database
    copy_last None o t h = h
    copy_last (Some c) o t h = all_marked t (sends_at place (Updates (lsa_now moment c) ∷ []))
        o.area.database h

    case_last : (case : Case) (lsa : Lsa) (o : AreaState) (t : ByKey ℕ)
        → Contains (lsas_brought packet.body) lsa → AllLast t o.area.database
        → AllLast t (after_case case moment place lsa o).area.database
    case_last Case.Unreadable lsa o t among h = h
    case_last Case.NothingToFlush lsa o t among h =
        all_marked t (sends_at place (Content.Acknowledges lsa.header ∷ [])) o.area.database h
    case_last Case.TooSoon lsa o t among h = h
    case_last Case.Newer lsa o t among h = install_last lsa o t among h
    case_last Case.BadRequest lsa o t among h =
        all_marked t (stepping_sends (only_at place (adjacencies.mismatch_step moment))
        o.area.links) o.area.database h
    case_last Case.ImpliedAcknowledgment lsa o t among h =
        all_marked t (stepping_sends (only_at place
        (λ n. no_sends (remove_retransmission (lsa_key lsa) n))) o.area.links) o.area.database h
    case_last Case.Duplicate lsa o t among h =
        all_marked t (sends_at place (Content.Acknowledges lsa.header ∷ [])) o.area.database h
    case_last Case.SequenceWraps lsa o t among h = h
    case_last Case.SentJustNow lsa o t among h = h
    case_last Case.Older lsa o t among h = copy_last (database_copy lsa o.area) o t h

    case_numbers : (case : Case) (lsa : Lsa) (o : AreaState) (t : ByKey ℕ)
        → Contains (lsas_brought packet.body) lsa → Numbers o t
        → Numbers (after_case case moment place lsa o) t
    case_numbers case lsa o t among h = record {
      area = case_told (T t) case moment place lsa o
          (IsExplained.Brought place heard.bytes packet heard.is heard.text
          (received packet.body lsa among)) h.area;
      last = case_last case lsa o t among h.last;
      remembers = h.remembers;
    }

  hello_last : (own place from : ℕ) (h : Hello) (link : Option Link) (o : AreaState) (t : ByKey ℕ)
      → AllLast t o.area.database → AllLast t
      (receive_hello_on own moment place from h link o).area.database
  hello_last own place from h None o t last = last
  hello_last own place from h (Some link) o t last =
      let s = adjacencies.after_hello moment from (names own h) link.neighbor in
      chosen (λ (q : AreaState). AllLast t q.area.database) (accepts own from h link)
      (accept_hello moment place s o) o (λ e. all_marked t (sends_at place s.sends) o.area.database
      last) (λ e. last)

  -- ---- the induction

  abbrev start : EventState
  start = start_event moment old

  module _ (order : IsConsistent old) where
    pub each_part : IsKeptToo (in_order old.id) Numbers Told start moment event
    each_part = record {
      flushes = λ k c o t at young its h. record {
        area = flushed_told (T t) moment k c o at h.area;
        last = all_marked t (stepping_sends (flood_to moment None (lsa_with_age 3600 c.lsa))
            o.area.links) (age_prematurely moment k o.area.database)
            (aged_last t k o.area.database h.last);
        remembers = h.remembers;
      };
      originates = λ k says p of_key goes may wants so h.
          originate_numbers k (finite.get p.router.area.database k) says (outcome p)
          p.router.originated refl
          (new_key k (finite.get p.router.area.database k) says
          (wanted_type p.router k says so.announced.1 wants)) of_key may h;
      case = λ place packet heard case lsa o t among other is its h. case_numbers start place packet
          heard case lsa o t among h;
      hello = λ place packet hello heard is so h. record {
        area = hello_heard (T start.router.originated) start.router.id moment place packet.router
            hello (link_at place start.router.area.links) (outcome start)
            (one_told (T start.router.originated) place start.router.area.links h.area.links)
            h.area;
        last = hello_last start.router.id place packet.router hello
            (link_at place start.router.area.links) (outcome start) start.router.originated h.last;
        remembers = h.remembers;
      };
      description = λ place packet d heard is so h. record {
        area = one_neighbor_told (T start.router.originated) moment place
            (after_description start.router.id moment start.router.area.database d)
            (description_told (T start.router.originated) start.router.id moment
            start.router.area.database d h.area.copies) (outcome start) h.area;
        last = all_marked start.router.originated
            (stepping_sends (only_at place
            (after_description start.router.id moment start.router.area.database d))
            start.router.area.links) start.router.area.database h.last;
        remembers = h.remembers;
      };
      acknowledgment = λ place packet headers heard is so h. record {
        area = one_neighbor_told (T start.router.originated) moment place
            (λ n. no_sends (after_acknowledgment moment headers n))
            (λ n at. quiet_told (T start.router.originated) (after_acknowledgment moment headers n)
            (acknowledgment_told (T start.router.originated) moment headers n at))
            (outcome start) h.area;
        last = all_marked start.router.originated
            (stepping_sends (only_at place (λ n. no_sends (after_acknowledgment moment headers n)))
            start.router.area.links) start.router.area.database h.last;
        remembers = h.remembers;
      };
      requested = λ place keys o t its h.
          let lsas : List Lsa = requested_lsas moment o.area.database keys in
          record {
            area = sending_told (T t) moment (sends_at place (map Content.Updates lsas)) o
                (numbered_told (T t) place (map Content.Updates lsas)
                (updates_told (T t) lsas (copies_told (T t) moment o.area.database h.area.copies
                keys))) h.area;
            last = all_marked t (sends_at place (map Content.Updates lsas)) o.area.database h.last;
            remembers = h.remembers;
          };
      mismatch = λ place o t its h. record {
        area = one_neighbor_told (T t) moment place (adjacencies.mismatch_step moment)
            (mismatched_told (T t) moment) o h.area;
        last = all_marked t (stepping_sends (only_at place (adjacencies.mismatch_step moment))
            o.area.links) o.area.database h.last;
        remembers = h.remembers;
      };
      forgets = λ r o its h. forget_numbers r o h;
      inactive = λ o t its h. record {
        area = each_link (T t) (expire_timers moment)
            (λ link at. record {
              neighbor = exchange_settled (T t) moment link.interface.dead_interval
                  (adjacencies.after_inactivity_timer moment link.interface.dead_interval
                  link.neighbor)
                  (still_heard_told (T t) moment link.interface.dead_interval link.neighbor
                  at.neighbor);
              acknowledgments = at.acknowledgments;
            }) o h.area;
        last = h.last;
        remembers = h.remembers;
      };
      again = λ o t its h. record {
        area = each_told (T t) moment (again moment o)
            (λ number link n at. again_told (T t) moment link.interface.retransmit_interval
            o.area.database n h.area.copies at) o h.area;
        last = all_marked t (stepping_sends (again moment o) o.area.links) o.area.database h.last;
        remembers = h.remembers;
      };
      acknowledges = λ o t its h. record {
        area = sending_told (T t) moment (sends_of acknowledgments_on o.area.links)
            (on_links (map without_acknowledgments) o)
            (sends_told (T t) acknowledgments_on
            (λ link at. acknowledgments_told (T t) (finite.entries link.acknowledgments)
            (entries_in (OfWaiting (T t)) link.acknowledgments at.acknowledgments)) 1
            o.area.links h.area.links)
            (each_link (T t) without_acknowledgments (λ link at. record {
              neighbor = at.neighbor;
              acknowledgments = none_in (OfWaiting (T t));
            }) o h.area);
        last = all_marked t (sends_of acknowledgments_on o.area.links) o.area.database h.last;
        remembers = h.remembers;
      };
      hellos = λ o t its h. record {
        area = sending_told (T t) moment (sends_of (hello_sent_on moment) o.area.links)
            (on_links (map (with_hello_sent moment)) o)
            (sends_told (T t) (hello_sent_on moment) (λ link at. hello_told_on (T t) moment link) 1
            o.area.links h.area.links)
            (each_link (T t) (with_hello_sent moment) (λ link at. record {
              neighbor = at.neighbor;
              acknowledgments = at.acknowledgments;
            }) o h.area);
        last = all_marked t (sends_of (hello_sent_on moment) o.area.links) o.area.database h.last;
        remembers = h.remembers;
      };
      link_down = λ place o t its h. record {
        area = change_told (T t) place taken_down (λ link at. record {
          neighbor = tt;
          acknowledgments = at.acknowledgments;
        }) o h.area;
        last = h.last;
        remembers = h.remembers;
      };
      loaded = λ o t its h. record {
        area = each_link (T t) link_loading_done (λ link at. record {
          neighbor = filled_on_told (T t) link.neighbor at.neighbor;
          acknowledgments = at.acknowledgments;
        }) o h.area;
        last = h.last;
        remembers = h.remembers;
      };
      requests = λ o t its h. record {
        area = each_told (T t) moment (λ number link n. request_next moment n)
            (λ number link n at. request_told (T t) moment n at) o h.area;
        last = all_marked t (stepping_sends (λ number link n. request_next moment n) o.area.links)
            o.area.database h.last;
        remembers = h.remembers;
      };
      removes = λ o t its h.
          record {
            whole = on_database_told (T t) (λ db. finite.retain_keys db (stays moment o.area)) o
                (retained_in (OfCopy (T t)) o.area.database (stays moment o.area) h.area.copies)
                h.area;
          };
      stays = λ o t its h. record { whole = h.area };
    }

    ages_last : (t : ByKey ℕ) (es : List (Key × DatabaseCopy)) (o : AreaState)
        → AllLast t o.area.database → AllLast t
        (fold (flood_if_aged old.moment moment) o es).area.database
    ages_last t [] o h = h
    ages_last t (e ∷ es) o h =
        ages_last t es (flood_if_aged old.moment moment o e)
        (chosen (λ (q : AreaState). AllLast t q.area.database)
        (has_just_aged_out old.moment moment e.1)
        (flood_from_nobody moment (lsa_now moment e.1) o) o
        (λ just. all_marked t (stepping_sends (flood_to moment None (lsa_now moment e.1))
        o.area.links) o.area.database h) (λ is. h))

    pub begins : Numbers (record { area = start.router.area; sends = start.sends }) old.originated
    begins =
        let t : ByKey ℕ = old.originated in
        let o : AreaState = record { area = old.area; sends = [] } in
        let held : OfArea (T t) old.area [] =
        named_held (Why t) (λ key. Unit {0}) (λ name k. tt) (length old.area.links) old refl
        (of_members (Why t) (instances_stored old) (λ name c. IsExplained.Held c)) in
        record {
          area = ages_told (T t) old.moment moment (finite.entries old.area.database) o
              (entries_in (OfCopy (T t)) old.area.database held.copies) held;
          last = ages_last t (finite.entries old.area.database) o (λ k. Had refl);
          remembers = λ k before. before;
        }

pub all_explained : (old : Router) (moment : ℕ) (event : Occurrence) (outs : List Out)
    (new : Router) (happens : Happens old moment event outs new) → IsConsistent old
    → AllByRecursion (IsExplained old event (λ name. IsNewInstance old moment event new name))
    (instances_stored (end_event old moment happens.after).router
    ++ instances_in_sends (end_event old moment happens.after).sends)
all_explained old moment event outs new happens order =
    let p : EventState = end_event old moment happens.after in
    let t : ByKey ℕ = p.router.originated in
    let ends : Told old moment event (record { area = p.router.area; sends = p.sends }) t =
    event_kept_too (in_order old.id) (order_kept old.id) (Numbers old moment event)
    (Told old moment event) old moment event (each_part old moment event order)
    happens.after (order_brings old event) happens.own (order_begun old moment order)
    (begins old moment event order) in
    each_all (IsExplained old event (IsNew old moment event t))
    (IsExplained old event (λ name. IsNewInstance old moment event new name)) explained
    (instances_stored p.router ++ instances_in_sends p.sends)
    (held_named (IsExplained old event (IsNew old moment event t)) (λ key. Unit {0}) (λ name k. tt)
    (length old.area.links) p.router p.sends ends.whole)
  where
    explained : (name : InstanceIdentity) → IsExplained old event
        (IsNew old moment event (end_event old moment happens.after).router.originated) name
        → IsExplained old event (λ name. IsNewInstance old moment event new name) name
    explained name (IsExplained.Held c) = IsExplained.Held c
    explained name (IsExplained.Brought number bytes packet is text c) =
        IsExplained.Brought number bytes packet is text c
    explained name (IsExplained.New n) =
        IsExplained.New (record {
          originates = record {
            own = n.own;
            now = subst (λ (r : Router). finite.get r.originated name.key ≡ Some moment)
                (sym happens.router) n.now;
            not_before = n.not_before;
          };
          copy = n.copy;
          last = n.last;
          says = n.says;
          is = n.is;
        })
