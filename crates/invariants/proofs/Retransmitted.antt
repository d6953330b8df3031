-- Entries of retransmission lists are the database's instances, at each point of an event.
use Rattle.std.proofs.Common.{◌≡◌, ℕ, ◌+◌, ◌==◌, ◌≤◌, Bool, true, false, cond, not, ◌&&◌, ◌||◌}
use Rattle.std.proofs.Common.{List, [], ◌∷◌, map, Option, None, Some, refl, sym, ap, subst, ◌∙◌}
use Rattle.std.proofs.Common.{arith, is_some}
use Rattle.std.specs.List.{AllByRecursion, enumerate_from, filter, fold}
use Rattle.std.specs.FinMap as finite
use Rattle.std.specs.Ordering.{eq_by_cmp, is_eq}
use Rattle.std.specs.Cmp.{tied_itself}
use Rattle.std.specs.declared.cmp.Ordering.{Ordering}
use Rattle.std.proofs.lemmas.Bool.{eqb-true, or_right}
use Rattle.words.specs.declared.key.Key.{Key}
use Rattle.lsdb.specs.Copies.{Database, DatabaseCopy, age_prematurely, has_just_aged_out}
use Rattle.lsdb.specs.Copies.{install_flooded}
use Rattle.lsdb.specs.Copies.{is_aged_out, list_entry_of, lsa_now}
use Rattle.lsdb.specs.Headers.{Lsa, header_with_age, lsa_with_age, lsa_key}
use Rattle.lsdb.specs.Instances.{ListEntry}
use Rattle.lsdb.specs.Keys.{ByKey, key_cmp}
use Rattle.lsdb.specs.Order.{age_at}
use Rattle.lsdb.proofs.Keys.{keys_exact, keys_total}
use Rattle.packet.specs.declared.model.Hello.{Hello}
use Rattle.adjacency.specs.Adjacencies as adjacencies
use Rattle.adjacency.specs.Contents.{Content, Step, Updates, no_sends}
use Rattle.adjacency.specs.Descriptions.{after_description, max_age_copies}
use Rattle.adjacency.specs.Lists.{HasSoundLists}
use Rattle.adjacency.specs.Neighbors.{Neighbor, is_exchange_or_later}
use Rattle.adjacency.specs.declared.interface.Interface.{Interface}
use Rattle.adjacency.specs.Requests.{request_next, without_request}
use Rattle.adjacency.specs.Retransmissions.{add_retransmission, after_acknowledgment}
use Rattle.adjacency.specs.Retransmissions.{remove_retransmission}
use Rattle.adjacency.proofs.Facts.{Sound, sound_kept, sound_lists, sound_of}
use Rattle.adjacency.proofs.Kept.{Fact, IsKeptWith, Of, acknowledgment_kept, again_kept, chosen}
use Rattle.adjacency.proofs.Kept.{description_kept, hello_kept, mismatched_kept, released_kept}
use Rattle.adjacency.proofs.Kept.{request_kept}
use Rattle.adjacency.proofs.Maps.{AllIn, IfThere, OfEntry, inserted_in, made_in}
use Rattle.adjacency.proofs.Maps.{none_in, removed_in, retained_in}
use Rattle.received.specs.Cases.{Case}
use Rattle.received.specs.Flooding.{flood, flood_to, is_to_be_sent, satisfies_request, request_of}
use Rattle.received.specs.Flooding.{without_satisfied_request}
use Rattle.received.specs.Holds.{Holds, HoldsOfEach}
use Rattle.received.specs.Links.{Area, Link, any_has_retransmission, change_link}
use Rattle.received.specs.Links.{delay_acknowledgment}
use Rattle.received.specs.Links.{has_retransmission, link_at, neighbor_on}
use Rattle.received.specs.AreaStates.{AreaState, Send, Stepping, each_neighbor, marked_database}
use Rattle.received.specs.AreaStates.{sends_at, on_database, on_links, one_neighbor, only_at}
use Rattle.received.specs.AreaStates.{sending}
use Rattle.received.specs.AreaStates.{step_on, stepped_links, stepping_sends, sends_of}
use Rattle.received.specs.Updates.{after_case, database_copy, flood_and_install, send_copy}
use Rattle.received.proofs.Holding.{changed_keeps, each_link_keeps, flood_to_kept, one_holds}
use Rattle.received.proofs.Marks.{IsStill, StillThere, There, all_there, changed_by, mark_all}
use Rattle.received.proofs.Marks.{still_all, still_marked}
use Rattle.event_rules.specs.declared.model.Config.{Config}
use Rattle.event_rules.specs.declared.model.Out.{Out}
use Rattle.event_rules.specs.Commands.{taken_down}
use Rattle.event_rules.specs.Endings.{flood_if_aged, link_loading_done, stays, stays_as}
use Rattle.event_rules.specs.Events.{Happens, Run, Step as EventStep, initial}
use Rattle.event_rules.specs.EventState.{flood_from_nobody}
use Rattle.event_rules.specs.Hellos.{accepts, names}
use Rattle.event_rules.specs.Originations.{due_keys, new_instance, router_key}
use Rattle.event_rules.specs.Packets.{accept_hello, receive_hello_on, requested_lsas, with_neighbor}
use Rattle.event_rules.specs.Routers.{Occurrence, Router, fresh_link, unannounced_router}
use Rattle.event_rules.specs.Ticks.{acknowledgments_on, again, expire_timers, hello_sent_on}
use Rattle.event_rules.specs.Ticks.{with_hello_sent, without_acknowledgments}
use Rattle.event_rules.proofs.Walk.{Brings, Invariant, IsKeptByParts, originate_or_wait_kept}
use Rattle.event_rules.proofs.Walk as walk
use Rattle.invariants.specs.Retransmissions.{AreOfTheDatabase, HasItsRetransmissions, IsOfCopy}
use Rattle.invariants.specs.Retransmissions.{RetransmissionsAreOfTheDatabase}
use Rattle.invariants.proofs.Always.{each_so}
use Rattle.invariants.proofs.Invariants.{exchange_settled, filled_on_kept, still_heard_kept}
use Rattle.invariants.proofs.Lists.{none_asked}
use Rattle.invariants.proofs.Unasked.{brought_any}

pub if_so : {X : Type 0} (P R : Key → X → Type 0) (key : Key) (o : Option X)
    → ((x : X) → P key x → R key x) → IfThere P key o → IfThere R key o
if_so P R key None so h = tt
if_so P R key (Some x) so h = so x h

-- ---- the property of a neighbor: its lists satisfy their invariants, and its
-- retransmissions are the database's

abbrev pub OfIt : Database → Fact
OfIt db state s r t o = Sound state s r t o × AllIn (IsOfCopy db) t

abbrev Begins : Database → ByKey ListEntry → Type 0
Begins db t = AllIn (IsOfCopy db) t

-- except for flooding, which adds the instance of a changed database to the lists
its_kept : (db : Database) → IsKeptWith (Begins db) (λ key x. ⊥) (OfIt db)
its_kept db = record {
  begins = (sound_kept.begins, none_in (IsOfCopy db));
  restarts = (sound_kept.restarts, none_in (IsOfCopy db));
  negotiates = λ s r t s' t' o begun h. (sound_kept.negotiates s r t s' t' o tt h.0, begun);
  wants = λ s r t o key x h. (sound_kept.wants s r t o key x h.0, h.1);
  describes = λ s r t s' o h. (sound_kept.describes s r t s' o h.0, h.1);
  loads = λ s r t o h. (sound_kept.loads s r t o h.0, h.1);
  ends = λ s r t o h e. (sound_kept.ends s r t o h.0 e, h.1);
  fills = λ s r t o h e. (sound_kept.fills s r t o h.0 e, h.1);
  asks = λ state s r t o busy h. (sound_kept.asks state s r t o busy h.0, h.1);
  meets = λ state s r t o key h. (sound_kept.meets state s r t o key h.0, h.1);
  releases = λ state s r t o key h.
      (sound_kept.releases state s r t o key h.0, removed_in (IsOfCopy db) t key h.1);
  has_retransmission = λ state s r t o key x adds part h. absurd adds;
}

-- ---- entries made of copies

-- an entry that is made from the copy as it was stored
at_once : (db : Database) (key : Key) (c : DatabaseCopy) → finite.get db key ≡ Some c
    → IsOfCopy db key (record { header = c.lsa.header; at = c.stored })
at_once db key c there = (c, there, λ moment later. refl)

-- an age stays at MaxAge
stays_aged : (age stored at now : ℕ) → age_at age stored at ≡ 3600 → at ≤ now
    → age_at (age_at age stored at) at now ≡ age_at age stored now
stays_aged age stored at now is later = omega (arith, is, later)

-- an entry that is made from a copy at MaxAge
of_aged : (db : Database) (key : Key) (moment : ℕ) (c : DatabaseCopy) → finite.get db key ≡ Some c
    → is_aged_out moment c ≡ true → IsOfCopy db key (list_entry_of moment c)
of_aged db key moment c there aged = (
  c,
  there,
  λ now later. ap (λ age. header_with_age age c.lsa.header)
      (stays_aged c.lsa.header.age c.stored moment now
      (eqb-true (age_at c.lsa.header.age c.stored moment) 3600 aged) later),
)

aged_entries : (db : Database) (moment : ℕ) (es : List (Key × DatabaseCopy))
    → AllByRecursion (OfEntry (There db)) es
    → AllByRecursion (OfEntry (IsOfCopy db))
    (map (λ (e : Key × DatabaseCopy). (e.0, list_entry_of moment e.1))
    (filter (λ e. is_aged_out moment e.1) es))
aged_entries db moment [] h = tt
aged_entries db moment (e ∷ es) h =
    chosen (λ (fs : List (Key × DatabaseCopy)). AllByRecursion (OfEntry (IsOfCopy db))
    (map (λ (e : Key × DatabaseCopy). (e.0, list_entry_of moment e.1)) fs))
    (is_aged_out moment e.1) (e ∷ filter (λ e. is_aged_out moment e.1) es)
    (filter (λ e. is_aged_out moment e.1) es)
    (λ is. (of_aged db e.0 moment e.1 h.0 is, aged_entries db moment es h.1))
    (λ is. aged_entries db moment es h.1)

-- the retransmissions at the start of an exchange
begun : (moment : ℕ) (db : Database) → AllIn (IsOfCopy db) (max_age_copies moment db)
begun moment db = made_in (IsOfCopy db) _
    (aged_entries db moment (finite.entries db) (all_there db))

-- ---- copies have their own keys

abbrev pub IsOwnKey : Key → DatabaseCopy → Type 0
IsOwnKey key c = lsa_key c.lsa ≡ key

abbrev pub OwnKeys : Database → Type 0
OwnKeys db = AllIn IsOwnKey db

pub own_at : (db : Database) (key : Key) (c : DatabaseCopy) → OwnKeys db
    → finite.get db key ≡ Some c → lsa_key c.lsa ≡ key
own_at db key c own there = subst (IfThere IsOwnKey key) there (own key)

own_changed : (key : Key) (change : DatabaseCopy → DatabaseCopy)
    → ((c : DatabaseCopy) → lsa_key (change c).lsa ≡ lsa_key c.lsa) → (db : Database) → OwnKeys db
    → OwnKeys (changed_by key change db (finite.get db key))
own_changed key change same db own = by_copy (finite.get db key) refl
  where
    by_copy : (o : Option DatabaseCopy) → finite.get db key ≡ o
        → OwnKeys (changed_by key change db o)
    by_copy None is = own
    by_copy (Some c) is = inserted_in IsOwnKey db key (change c) own
        (same c ∙ own_at db key c own is)

own_marked : (moment : ℕ) (says : Content) (db : Database) → OwnKeys db
    → OwnKeys (marked_database moment db says)
own_marked moment (Content.SendsHello hello) db own = own
own_marked moment (Content.Describes d) db own = own
own_marked moment (Content.Requests keys) db own = own
own_marked moment (Content.Updates lsa) db own = own_changed (lsa_key lsa) (λ c. record c {
  sent = Some moment;
}) (λ c. refl) db own
own_marked moment (Content.Acknowledges header) db own = own

abbrev pub marks : ℕ → List Send → Database → Database
marks moment more db = fold (λ (d : Database) (s : Send). marked_database moment d s.content) db
    more

own_all_marked : (moment : ℕ) (more : List Send) (db : Database) → OwnKeys db
    → OwnKeys (marks moment more db)
own_all_marked moment [] db own = own
own_all_marked moment (s ∷ more) db own =
    own_all_marked moment more (marked_database moment db s.content)
    (own_marked moment s.content db own)

-- ---- the entries are still the database's when it changes

-- marks change no LSA
marked_copy : (moment : ℕ) (more : List Send) (db : Database) (key : Key) (x : ListEntry)
    → IsOfCopy db key x → IsOfCopy (marks moment more db) key x
marked_copy moment more db key x of_copy =
    let still : IsStill (marks moment more db) key of_copy.0 =
    mark_all moment more key of_copy.0 db of_copy.1 in
    (record of_copy.0 { sent = still.0 }, still.1, of_copy.2)

-- from one database to another
moved : (old new : Database) → ((key : Key) (x : ListEntry) → IsOfCopy old key x
    → IsOfCopy new key x) → (n : Neighbor) → Of (OfIt old) n → Of (OfIt new) n
moved old new so n h = (
  h.0,
  λ key. if_so (IsOfCopy old) (IsOfCopy new) key
      (finite.get n.retransmissions key) (so key) (h.1 key),
)

-- the copies of other keys stay
others_put : (db : Database) (key : Key) (c : DatabaseCopy) (q : Key)
    → eq_by_cmp key_cmp q key ≡ false → (x : ListEntry) → IsOfCopy db q x
    → IsOfCopy (finite.insert db key c) q x
others_put db key c q other x of_copy = (
  of_copy.0,
  finite.get-insert keys_total db key c q
      ∙ ap (λ b. cond b (Some c) (finite.get db q)) other ∙ of_copy.1,
  of_copy.2,
)

put_there : (db : Database) (key : Key) (c : DatabaseCopy)
    → finite.get (finite.insert db key c) key ≡ Some c
put_there db key c =
    finite.get-insert keys_total db key c key
    ∙ ap (λ (o : Ordering). cond (is_eq o) (Some c) (finite.get db key))
    (tied_itself keys_total key)

-- ---- flooding

module _ (moment : ℕ) (sender : Option ℕ) (lsa : Lsa) (old new : Database)
    (adds : IsOfCopy new (lsa_key lsa) (record { header = lsa.header; at = moment }))
    (others : (q : Key) → eq_by_cmp key_cmp q (lsa_key lsa) ≡ false → (x : ListEntry)
    → IsOfCopy old q x → IsOfCopy new q x) where
  released : (t : ByKey ListEntry) → AllIn (IsOfCopy old) t
      → AllIn (IsOfCopy new) (finite.remove t (lsa_key lsa))
  released t all q =
      subst (IfThere (IsOfCopy new) q) (sym (finite.get-remove keys_total t (lsa_key lsa) q))
      (chosen (IfThere (IsOfCopy new) q) (eq_by_cmp key_cmp q (lsa_key lsa)) None (finite.get t q)
      (λ is. tt)
      (λ is. if_so (IsOfCopy old) (IsOfCopy new) q (finite.get t q) (others q is) (all q)))

  no_lists : (n : Neighbor) → n.retransmissions ≡ finite.empty
      → AllIn (IsOfCopy new) n.retransmissions
  no_lists n is = subst (AllIn (IsOfCopy new)) (sym is) (none_in (IsOfCopy new))

  abbrev met : Neighbor → Bool
  met n = satisfies_request moment lsa (request_of n lsa)

  abbrev got : Neighbor → Step
  got n = record {
    neighbor = add_retransmission moment lsa.header (without_satisfied_request moment lsa n);
    sends = Updates lsa ∷ [];
  }

  abbrev not_got : Neighbor → Step
  not_got n = no_sends (remove_retransmission (lsa_key lsa)
      (without_satisfied_request moment lsa n))

  flooded_to : (number : ℕ) (link : Link) (n : Neighbor) → Of (OfIt old) n
      → Of (OfIt new) (flood_to moment sender lsa number link n).neighbor
  flooded_to number link n h =
      let rest : AllIn (IsOfCopy new) (finite.remove n.retransmissions (lsa_key lsa)) =
      released n.retransmissions h.1 in
      let entered : AllIn (IsOfCopy new)
      (finite.insert (finite.remove n.retransmissions (lsa_key lsa)) (lsa_key lsa) (record {
        header = lsa.header;
        at = moment;
      })) =
      inserted_in (IsOfCopy new) (finite.remove n.retransmissions (lsa_key lsa)) (lsa_key lsa)
      (record { header = lsa.header; at = moment }) rest adds in (
        flood_to_kept Sound sound_kept moment sender lsa number link n h.0,
        chosen (λ (s : Step). AllIn (IsOfCopy new) s.neighbor.retransmissions)
            (is_exchange_or_later n.state)
            (cond (is_to_be_sent moment sender number lsa n) (got n) (not_got n)) (no_sends n)
            (λ part. chosen (λ (s : Step). AllIn (IsOfCopy new) s.neighbor.retransmissions)
            (is_to_be_sent moment sender number lsa n) (got n) (not_got n)
            (λ is. chosen (λ (m : Neighbor). AllIn (IsOfCopy new)
            (add_retransmission moment lsa.header m).retransmissions) (met n)
            (without_request (lsa_key lsa) n) n
            (λ e. entered) (λ e. entered))
            (λ is. chosen (λ (m : Neighbor). AllIn (IsOfCopy new)
            (remove_retransmission (lsa_key lsa) m).retransmissions) (met n)
            (without_request (lsa_key lsa) n) n
            (λ e. rest) (λ e. rest)))
            (λ before. no_lists n (h.0.0 before).2),
      )

-- ---- links and database

pub record IsItsOwn (a : Area) : Type 0 where
  pub keys : OwnKeys a.database
  pub each : HoldsOfEach (Of (OfIt a.database)) a.links

abbrev OfOutcome : AreaState → Type 0
OfOutcome o = IsItsOwn o.area

stepped_so : (P R : Neighbor → Type 0) (f : Stepping)
    → ((number : ℕ) (link : Link) (n : Neighbor) → P n → R (f number link n).neighbor)
    → (k : ℕ) (xs : List Link)
    → HoldsOfEach P xs → HoldsOfEach R
    (map (λ (e : ℕ × Link). record e.1 { neighbor = step_on (f e.0 e.1) e.1.neighbor })
    (enumerate_from k xs))
stepped_so P R f so k [] h = tt
stepped_so P R f so k (x ∷ xs) h = (one x.neighbor h.0, stepped_so P R f so (k + 1) xs h.1)
  where
    one : (o : Option Neighbor) → Holds P o → Holds R (step_on (f k x) o)
    one None here = tt
    one (Some n) here = so k x n here

-- what is sent marks the database
sending_kept : (moment : ℕ) (more : List Send) (o : AreaState) → OfOutcome o
    → OfOutcome (sending moment more o)
sending_kept moment more o h = record {
  keys = own_all_marked moment more o.area.database h.keys;
  each = each_so (Of (OfIt o.area.database)) (Of (OfIt (marks moment more o.area.database)))
      (moved o.area.database (marks moment more o.area.database)
      (marked_copy moment more o.area.database)) o.area.links h.each;
}

links_kept : (f : List Link → List Link) (o : AreaState)
    → HoldsOfEach (Of (OfIt o.area.database)) (f o.area.links) → OfOutcome o
    → OfOutcome (on_links f o)
links_kept f o so h = record { keys = h.keys; each = so }

each_kept : (moment : ℕ) (f : Stepping) (o : AreaState)
    → ((number : ℕ) (link : Link) (n : Neighbor) → Of (OfIt o.area.database) n
    → Of (OfIt o.area.database) (f number link n).neighbor) → OfOutcome o
    → OfOutcome (each_neighbor moment f o)
each_kept moment f o keeps h =
    sending_kept moment (stepping_sends f o.area.links) (on_links (stepped_links f) o)
    (record {
      keys = h.keys;
      each = stepped_so (Of (OfIt o.area.database)) (Of (OfIt o.area.database)) f keeps 1
          o.area.links h.each;
    })

one_kept : (moment number : ℕ) (f : Neighbor → Step) (o : AreaState)
    → ((n : Neighbor) → Of (OfIt o.area.database) n → Of (OfIt o.area.database) (f n).neighbor)
    → OfOutcome o → OfOutcome (one_neighbor moment number f o)
one_kept moment number f o keeps h =
    each_kept moment (only_at number f) o
    (λ place link n at. chosen (λ (s : Step). Of (OfIt o.area.database) s.neighbor)
    (place == number) (f n) (record { neighbor = n; sends = [] }) (λ e. keeps n at) (λ e. at)) h

-- the LSA is in the database already
flood_kept : (moment : ℕ) (sender : Option ℕ) (lsa : Lsa) (old : Database) (o : AreaState)
    → OwnKeys o.area.database
    → IsOfCopy o.area.database (lsa_key lsa) (record { header = lsa.header; at = moment })
    → ((q : Key) → eq_by_cmp key_cmp q (lsa_key lsa) ≡ false → (x : ListEntry) → IsOfCopy old q x
    → IsOfCopy o.area.database q x)
    → HoldsOfEach (Of (OfIt old)) o.area.links → OfOutcome (flood moment sender lsa o)
flood_kept moment sender lsa old o keys adds others each =
    sending_kept moment (stepping_sends (flood_to moment sender lsa) o.area.links)
    (on_links (stepped_links (flood_to moment sender lsa)) o)
    (record {
      keys = keys;
      each = stepped_so (Of (OfIt old)) (Of (OfIt o.area.database)) (flood_to moment sender lsa)
          (flooded_to moment sender lsa old o.area.database adds others) 1 o.area.links each;
    })

-- an LSA that was just stored is flooded
put_kept : (moment : ℕ) (sender : Option ℕ) (lsa : Lsa) (received : Option ℕ) (o : AreaState)
    → OfOutcome o → OfOutcome (flood moment sender lsa
    (on_database (λ db. finite.insert db (lsa_key lsa) (record {
      lsa = lsa;
      stored = moment;
      received = received;
      sent = None;
    })) o))
put_kept moment sender lsa received o h =
    let db : Database = o.area.database in
    let c : DatabaseCopy = record {
      lsa = lsa;
      stored = moment;
      received = received;
      sent = None;
    } in
    flood_kept moment sender lsa db (on_database (λ d. finite.insert d (lsa_key lsa) c) o)
    (inserted_in IsOwnKey db (lsa_key lsa) c h.keys refl)
    (at_once (finite.insert db (lsa_key lsa) c) (lsa_key lsa) c (put_there db (lsa_key lsa) c))
    (others_put db (lsa_key lsa) c) h.each

-- ---- aging, and premature aging

aged_flooded : (moment : ℕ) (e : Key × DatabaseCopy) (o : AreaState)
    → IsStill o.area.database e.0 e.1 → is_aged_out moment e.1 ≡ true → OfOutcome o
    → OfOutcome (flood_from_nobody moment (lsa_now moment e.1) o)
aged_flooded moment e o still aged h =
    let db : Database = o.area.database in
    let c : DatabaseCopy = record e.1 { sent = still.0 } in
    flood_kept moment None (lsa_now moment e.1) db o h.keys
    (subst (λ (k : Key). IsOfCopy db k (list_entry_of moment e.1))
    (sym (own_at db e.0 c h.keys still.1)) (of_aged db e.0 moment c still.1 aged))
    (λ q other x of_copy. of_copy) h.each

both_aged : (a b : Bool) → (a && b) ≡ true → a ≡ true
both_aged true b e = refl
both_aged false b e = e

pub ages_kept : (before moment : ℕ) (es : List (Key × DatabaseCopy)) (o : AreaState)
    → AllByRecursion (StillThere o.area.database) es → OfOutcome o
    → OfOutcome (fold (flood_if_aged before moment) o es)
ages_kept before moment [] o still h = h
ages_kept before moment (e ∷ es) o still h =
    let so : OfOutcome (flood_if_aged before moment o e)
    × AllByRecursion (StillThere (flood_if_aged before moment o e).area.database) es =
    chosen (λ (p : AreaState). OfOutcome p × AllByRecursion (StillThere p.area.database) es)
    (has_just_aged_out before moment e.1)
    (flood_from_nobody moment (lsa_now moment e.1) o) o
    (λ is. (
      aged_flooded moment e o still.0 (both_aged (is_aged_out moment e.1)
          (not (is_aged_out before e.1)) is) h,
      still_marked moment (stepping_sends (flood_to moment None (lsa_now moment e.1)) o.area.links)
          o.area.database es still.1,
    ))
    (λ is. (h, still.1)) in
    ages_kept before moment es (flood_if_aged before moment o e) so.1 so.0

abbrev aged : ℕ → DatabaseCopy → DatabaseCopy
aged moment d = record d { lsa = lsa_with_age 3600 d.lsa; stored = moment }

flushes_kept : (moment : ℕ) (key : Key) (c : DatabaseCopy) (o : AreaState)
    → finite.get o.area.database key ≡ Some c → OfOutcome o
    → OfOutcome (flood_from_nobody moment (lsa_with_age 3600 c.lsa)
    (on_database (age_prematurely moment key) o))
flushes_kept moment key c o is h =
    subst (λ (k : Key). finite.get o.area.database k ≡ Some c
    → OfOutcome (flood_from_nobody moment (lsa_with_age 3600 c.lsa)
    (on_database (age_prematurely moment k) o)))
    (own_at o.area.database key c h.keys is) flushed is
  where
    by_copy : OfOutcome (flood_from_nobody moment (lsa_with_age 3600 c.lsa)
        (on_database (λ db. finite.insert db (lsa_key c.lsa) (aged moment c)) o))
    by_copy =
        let db : Database = o.area.database in
        flood_kept moment None (lsa_with_age 3600 c.lsa) db
        (on_database (λ d. finite.insert d (lsa_key c.lsa) (aged moment c)) o)
        (inserted_in IsOwnKey db (lsa_key c.lsa) (aged moment c) h.keys refl)
        (at_once (finite.insert db (lsa_key c.lsa) (aged moment c)) (lsa_key c.lsa) (aged moment c)
        (put_there db (lsa_key c.lsa) (aged moment c)))
        (others_put db (lsa_key c.lsa) (aged moment c)) h.each

    flushed : finite.get o.area.database (lsa_key c.lsa) ≡ Some c
        → OfOutcome (flood_from_nobody moment (lsa_with_age 3600 c.lsa)
        (on_database (age_prematurely moment (lsa_key c.lsa)) o))
    flushed there =
        subst (λ (x : Option DatabaseCopy). OfOutcome
        (flood_from_nobody moment (lsa_with_age 3600 c.lsa)
        (on_database (λ db. changed_by (lsa_key c.lsa) (aged moment) o.area.database x) o)))
        (sym there) by_copy

-- ---- received LSAs

install_kept : (moment number : ℕ) (lsa : Lsa) (o : AreaState) → OfOutcome o
    → OfOutcome (flood_and_install moment number lsa o)
install_kept moment number lsa o h =
    let flooded : AreaState = flood moment (Some number) lsa
    (on_database (install_flooded moment lsa) o) in
    let so : OfOutcome flooded = put_kept moment (Some number) lsa (Some moment) o h in
    record {
      keys = so.keys;
      each = changed_keeps (Of (OfIt flooded.area.database)) number
          (delay_acknowledgment lsa.header)
          (λ link at. at) flooded.area.links so.each;
    }

copy_kept : (moment number : ℕ) (c : Option DatabaseCopy) (o : AreaState) → OfOutcome o
    → OfOutcome (send_copy moment number c o)
copy_kept moment number None o h = h
copy_kept moment number (Some c) o h =
    sending_kept moment (sends_at number (Updates (lsa_now moment c) ∷ [])) o h

case_kept : (case : Case) (moment number : ℕ) (lsa : Lsa) (o : AreaState) → OfOutcome o
    → OfOutcome (after_case case moment number lsa o)
case_kept Case.Unreadable moment number lsa o h = h
case_kept Case.NothingToFlush moment number lsa o h =
    sending_kept moment (sends_at number (Content.Acknowledges lsa.header ∷ [])) o h
case_kept Case.TooSoon moment number lsa o h = h
case_kept Case.Newer moment number lsa o h = install_kept moment number lsa o h
case_kept Case.BadRequest moment number lsa o h =
    one_kept moment number (adjacencies.mismatch_step moment) o
    (mismatched_kept (OfIt o.area.database) (its_kept o.area.database) moment) h
case_kept Case.ImpliedAcknowledgment moment number lsa o h =
    one_kept moment number (λ n. no_sends (remove_retransmission (lsa_key lsa) n)) o
    (λ n at. released_kept (OfIt o.area.database) (its_kept o.area.database) (lsa_key lsa) n at) h
case_kept Case.Duplicate moment number lsa o h =
    sending_kept moment (sends_at number (Content.Acknowledges lsa.header ∷ [])) o h
case_kept Case.SequenceWraps moment number lsa o h = h
case_kept Case.SentJustNow moment number lsa o h = h
case_kept Case.Older moment number lsa o h = copy_kept moment number (database_copy lsa o.area) o h

-- ---- Hellos

heard_before : (db : Database) (from moment : ℕ) (o : Option Neighbor) → Holds (Of (OfIt db)) o
    → Of (OfIt db) (adjacencies.with_hello_heard from moment o)
heard_before db from moment None h = (its_kept db).begins
heard_before db from moment (Some n) h = h

hello_heard : (own moment number from : ℕ) (hello : Hello) (link : Option Link) (o : AreaState)
    → Holds (Of (OfIt o.area.database)) (neighbor_on link) → OfOutcome o
    → OfOutcome (receive_hello_on own moment number from hello link o)
hello_heard own moment number from hello None o here h = h
hello_heard own moment number from hello (Some link) o here h =
    let db : Database = o.area.database in
    let s : Step = adjacencies.after_hello moment from (names own hello) link.neighbor in
    let so : Of (OfIt db) s.neighbor =
    hello_kept (OfIt db) (its_kept db) moment from (names own hello) link.neighbor
    (heard_before db from moment link.neighbor here) in
    chosen OfOutcome (accepts own from hello link) (accept_hello moment number s o) o
    (λ is. sending_kept moment (sends_at number s.sends)
    (on_links (change_link number (with_neighbor s.neighbor)) o)
    (record {
      keys = h.keys;
      each = changed_keeps (Of (OfIt db)) number (with_neighbor s.neighbor) (λ l at. so)
          o.area.links h.each;
    }))
    (λ is. h)

-- ---- removal

module _ (moment : ℕ) (a : Area) where
  abbrev left : Database
  left = finite.retain_keys a.database (stays moment a)

  stays_there : (q : Key) (x : ListEntry) → any_has_retransmission q a.links ≡ true
      → IsOfCopy a.database q x → IsOfCopy left q x
  stays_there q x is of_copy =
      let kept : stays moment a q ≡ true =
      ap (stays_as moment (any_has_retransmission q a.links)) of_copy.1
      ∙ or_right (not (is_aged_out moment of_copy.0)) (any_has_retransmission q a.links) is in (
        of_copy.0,
        finite.get-retain_keys a.database (stays moment a) q
            (λ y e. ap (stays moment a) (sym (keys_exact q y e)))
            ∙ ap (λ b. cond b (finite.get a.database q) None) kept ∙ of_copy.1,
        of_copy.2,
      )

  neighbor_left : (n : Neighbor) → ((q : Key) → finite.contains_key n.retransmissions q ≡ true
      → any_has_retransmission q a.links ≡ true) → Of (OfIt a.database) n → Of (OfIt left) n
  neighbor_left n on h = (h.0, λ q. at q (finite.get n.retransmissions q) refl (h.1 q))
    where
      at : (q : Key) (o : Option ListEntry) → finite.get n.retransmissions q ≡ o
          → IfThere (IsOfCopy a.database) q o → IfThere (IsOfCopy left) q o
      at q None is there = tt
      at q (Some x) is there = stays_there q x (on q (ap is_some is)) there

  each_left : (xs : List Link) → ((q : Key) → any_has_retransmission q xs ≡ true
      → any_has_retransmission q a.links ≡ true) → HoldsOfEach (Of (OfIt a.database)) xs
      → HoldsOfEach (Of (OfIt left)) xs
  each_left [] among h = tt
  each_left (x ∷ xs) among h = (
    one x.neighbor (λ q is. among q (ap (λ b. b || any_has_retransmission q xs) is)) h.0,
    each_left xs (λ q is. among q (or_right (has_retransmission q x.neighbor)
        (any_has_retransmission q xs) is)) h.1,
  )
    where
      one : (o : Option Neighbor) → ((q : Key) → has_retransmission q o ≡ true
          → any_has_retransmission q a.links ≡ true) → Holds (Of (OfIt a.database)) o
          → Holds (Of (OfIt left)) o
      one None on here = tt
      one (Some n) on here = neighbor_left n on here

  removed : IsItsOwn a → IsItsOwn (record a { database = left })
  removed h = record {
    keys = retained_in IsOwnKey a.database (stays moment a) h.keys;
    each = each_left a.links (λ q is. is) h.each;
  }

-- ---- the complete event

abbrev pub its_own : Invariant
its_own = record {
  of_area = λ a sends. IsItsOwn a;
  of_announced = λ id announced. Unit {0};
  of_lsa = λ lsa. Unit {0};
  of_key = λ key. Unit {0};
  without_room = Unit {0};
}

pub parts_keep : IsKeptByParts its_own
parts_keep = record {
  ages = λ before moment o h. ages_kept before moment (finite.entries o.area.database) o
      (still_all o.area.database _ (all_there o.area.database)) h;
  flushes = λ moment key c o is young h. flushes_kept moment key c o is h;
  originates = λ moment key says p own goes wants grows h.
      put_kept moment None (new_instance key (finite.get p.router.area.database key) says) None
      (walk.outcome p) h.area;
  own_router = λ r own. tt;
  case = λ case moment number lsa so o h. case_kept case moment number lsa o h;
  own_received = λ r lsa so is own. tt;
  hello = λ own moment number from hello o h.
      hello_heard own moment number from hello (link_at number o.area.links) o
      (one_holds (Of (OfIt o.area.database)) number o.area.links h.each) h;
  description = λ own moment number d o h.
      one_kept moment number (after_description own moment o.area.database d) o
      (description_kept (OfIt o.area.database) (its_kept o.area.database) own moment
      o.area.database d
      (begun moment o.area.database)) h;
  requested = λ moment number keys o h. sending_kept moment
      (sends_at number (map Content.Updates (requested_lsas moment o.area.database keys))) o h;
  mismatch = λ moment number o h.
      one_kept moment number (adjacencies.mismatch_step moment) o
      (mismatched_kept (OfIt o.area.database) (its_kept o.area.database) moment) h;
  acknowledgment = λ moment number headers o h.
      one_kept moment number (λ n. no_sends (after_acknowledgment moment headers n)) o
      (acknowledgment_kept (OfIt o.area.database) (its_kept o.area.database) moment headers) h;
  due = λ moment r own. none_asked (due_keys moment r);
  inactive = λ moment o h.
      links_kept (map (expire_timers moment)) o
      (each_link_keeps (Of (OfIt o.area.database)) (expire_timers moment)
      (λ link at.
      exchange_settled (OfIt o.area.database) (its_kept o.area.database) moment
      link.interface.dead_interval
      (adjacencies.after_inactivity_timer moment link.interface.dead_interval link.neighbor)
      (still_heard_kept (OfIt o.area.database) (its_kept o.area.database) moment
      link.interface.dead_interval link.neighbor at)) o.area.links h.each) h;
  again = λ moment o h.
      each_kept moment (again moment o) o
      (λ number link n at. again_kept (OfIt o.area.database) (its_kept o.area.database) moment
      link.interface.retransmit_interval o.area.database n at) h;
  acknowledges = λ moment o h.
      sending_kept moment (sends_of acknowledgments_on o.area.links)
      (on_links (map without_acknowledgments) o)
      (links_kept (map without_acknowledgments) o
      (each_link_keeps (Of (OfIt o.area.database)) without_acknowledgments (λ link at. at)
      o.area.links h.each) h);
  hellos = λ moment o h.
      sending_kept moment (sends_of (hello_sent_on moment) o.area.links)
      (on_links (map (with_hello_sent moment)) o)
      (links_kept (map (with_hello_sent moment)) o
      (each_link_keeps (Of (OfIt o.area.database)) (with_hello_sent moment) (λ link at. at)
      o.area.links h.each) h);
  announces = λ r e own h. tt;
  unannounces = λ r key h. tt;
  link_down = λ number o h. record {
    keys = h.keys;
    each = changed_keeps (Of (OfIt o.area.database)) number taken_down (λ link at. tt) o.area.links
        h.each;
  };
  loaded = λ o h.
      links_kept (map link_loading_done) o
      (each_link_keeps (Of (OfIt o.area.database)) link_loading_done
      (λ link at. filled_on_kept (OfIt o.area.database) (its_kept o.area.database) link.neighbor at)
      o.area.links h.each) h;
  requests = λ moment o h.
      each_kept moment (λ number link n. request_next moment n) o
      (λ number link n at. request_kept (OfIt o.area.database) (its_kept o.area.database) moment n
      at) h;
  removes = λ moment o h. removed moment o.area h;
}

brings : (old : Router) (event : Occurrence) → Brings its_own old event
brings old event = record {
  packet = λ number bytes packet is text. brought_any packet.body;
  key = λ tagged tag priced price is. (tt, tt);
}

event_kept : (old : Router) (moment : ℕ) (event : Occurrence) (outs : List Out) (new : Router)
    → Happens old moment event outs new → IsItsOwn old.area → IsItsOwn new.area
event_kept old moment event outs new happens h =
    subst (λ (r : Router). IsItsOwn r.area) (sym happens.router)
    (walk.event_kept its_own parts_keep old moment event happens.after (brings old event)
    happens.own (record { area = h; announced = tt })).area

-- ---- the start

fresh_so : (is : List Interface) → HoldsOfEach (Of (OfIt finite.empty)) (map fresh_link is)
fresh_so [] = tt
fresh_so (i ∷ is) = (tt, fresh_so is)

initial_kept : (c : Config) → IsItsOwn (initial c).area
initial_kept c =
    (originate_or_wait_kept its_own parts_keep c.start (router_key c.router) (record {
      router = unannounced_router c;
      sends = [];
    }) tt
    (record {
      area = record { keys = none_in IsOwnKey; each = fresh_so c.interfaces };
      announced = tt;
    })).area

run_kept : (steps : List EventStep) (old new : Router) → Run old steps new → IsItsOwn old.area
    → IsItsOwn new.area
run_kept [] old new same h = subst (λ (r : Router). IsItsOwn r.area) (sym same) h
run_kept (s ∷ steps) old new run h =
    run_kept steps run.0 new run.2 (event_kept old s.moment s.event s.outs run.0 run.1 h)

-- ---- in terms of the law

entry_of : (db : Database) (n : Neighbor) → AllIn (IsOfCopy db) n.retransmissions
    → AreOfTheDatabase db n
entry_of db n all key entry is = subst (IfThere (IsOfCopy db) key) is (all key)

all_of : (db : Database) (n : Neighbor) → AreOfTheDatabase db n
    → AllIn (IsOfCopy db) n.retransmissions
all_of db n are key = found (finite.get n.retransmissions key) refl
  where
    found : (o : Option ListEntry) → finite.get n.retransmissions key ≡ o
        → IfThere (IsOfCopy db) key o
    found None is = tt
    found (Some x) is = are key x is

pub told : (r : Router) → IsItsOwn r.area → HasItsRetransmissions r
told r h = record {
  keys = λ key copy there. own_at r.area.database key copy h.keys there;
  lists = each_so (Of (OfIt r.area.database)) HasSoundLists (λ n at. sound_lists n at.0)
      r.area.links h.each;
  entries = each_so (Of (OfIt r.area.database)) (AreOfTheDatabase r.area.database)
      (λ n at. entry_of r.area.database n at.1) r.area.links h.each;
}

both_each : (db : Database) (xs : List Link) → HoldsOfEach HasSoundLists xs
    → HoldsOfEach (AreOfTheDatabase db) xs → HoldsOfEach (Of (OfIt db)) xs
both_each db [] lists entries = tt
both_each db (x ∷ xs) lists entries =
    (one x.neighbor lists.0 entries.0, both_each db xs lists.1 entries.1)
  where
    one : (o : Option Neighbor) → Holds HasSoundLists o → Holds (AreOfTheDatabase db) o
        → Holds (Of (OfIt db)) o
    one None sound are = tt
    one (Some n) sound are = (sound_of n sound, all_of db n are)

pub read : (r : Router) → HasItsRetransmissions r → IsItsOwn r.area
read r h = record {
  keys = λ key. found key (finite.get r.area.database key) refl;
  each = both_each r.area.database r.area.links h.lists h.entries;
}
  where
    found : (key : Key) (o : Option DatabaseCopy) → finite.get r.area.database key ≡ o
        → IfThere IsOwnKey key o
    found key None is = tt
    found key (Some c) is = h.keys key c is

pub retransmissions_are_of_the_database : RetransmissionsAreOfTheDatabase
retransmissions_are_of_the_database = record {
  first = λ c. told (initial c) (initial_kept c);
  event = λ old moment event outs new happens h. told new
      (event_kept old moment event outs new happens (read old h));
  run = λ c steps new run. told new (run_kept steps (initial c) new run (initial_kept c));
}
