-- A property of all instances that a router holds, receives and sends is one of those that it holds
-- and sends after an event; and why an instance is known.
use Rattle.std.proofs.Common.{◌≡◌, ℕ, false, zero, suc, ◌<◌, length, List, [], ◌∷◌, ◌++◌, map}
use Rattle.std.proofs.Common.{Option, None, Some, refl, sym, ap, subst, ◌∙◌, arith}
use Rattle.std.specs.Prelude.{slice_index_or}
use Rattle.std.specs.FinMap as finite
use Rattle.std.specs.List.{AllByRecursion, Contains, cons_option, filter_map, flat_map}
use Rattle.words.specs.declared.key.Key.{Key}
use Rattle.words.specs.declared.route.External.{External}
use Rattle.lsa.specs.Reading.{lsa_in}
use Rattle.lsa.specs.declared.body.LsaBody.{LsaBody}
use Rattle.lsdb.specs.Copies.{DatabaseCopy}
use Rattle.lsdb.specs.Headers.{Lsa}
use Rattle.lsdb.specs.Instances.{ListEntry}
use Rattle.packet.specs.declared.model.PacketBody.{PacketBody}
use Rattle.packet.specs.declared.model.PacketBody.TheVariants as body
use Rattle.packet.specs.declared.model.Packet.{Packet}
use Rattle.packet.specs.Text.{PacketText}
use Rattle.adjacency.specs.Contents.{Content}
use Rattle.adjacency.specs.Neighbors.{Neighbor}
use Rattle.adjacency.specs.declared.interface.Interface.{Interface}
use Rattle.adjacency.proofs.Maps.{AllIn, IfThere, OfEntry, entries_in, none_in, of_entries}
use Rattle.adjacency.proofs.Told.{OfContent, OfCopy, OfListed, OfOwedIfAny, Telling}
use Rattle.received.specs.Links.{Link}
use Rattle.received.specs.AreaStates.{Send}
use Rattle.received.proofs.Told.{OfArea, OfLink, OfLinks, OfSend, OfWaiting}
use Rattle.event_rules.specs.declared.model.Config.{Config}
use Rattle.event_rules.specs.declared.model.Out.{Out}
use Rattle.event_rules.specs.Endings.{end_event}
use Rattle.event_rules.specs.Events.{Happens, initial}
use Rattle.invariants.specs.InOrder.{AnnouncesItsOwn}
use Rattle.invariants.specs.Known.{instances_in_content, instances_in_send, instances_in_sends}
use Rattle.event_rules.specs.InstanceIdentities.{InstanceIdentity, identity_of_lsa}
use Rattle.event_rules.specs.InstanceIdentities.{identity_of_header}
use Rattle.event_rules.specs.InstanceIdentities.{instances_received, instances_in_update}
use Rattle.event_rules.specs.Originations.{external_key, has_max_sequence, new_instance, router_key}
use Rattle.event_rules.specs.EventState.{EventState}
use Rattle.event_rules.specs.Routers.{Occurrence, Router, fresh_link, unannounced_router}
use Rattle.invariants.specs.Worlds.{IsKnown, instances_stored, instances_on_link, instances_on_list}
use Rattle.invariants.proofs.Told.{IsOwn, event_told, first_told, told}
use Rattle.invariants.proofs.Lists.{later_is}
use Rattle.event_rules.proofs.Walk.{IfRead, OfBrought, OfBytes, OfEvent}
use Rattle.event_rules.proofs.Rooms.{both}

-- ---- lists

pub at_place : {X : Type 0} (P : X → Type 0) (xs : List X) → AllByRecursion P xs → (x : X) (k : ℕ)
    → k < length xs → slice_index_or xs k x ≡ x → P x
at_place P [] h x k lt e = absurd (omega (arith, lt))
at_place P (y ∷ ys) h x zero lt e = subst P e h.0
at_place P (y ∷ ys) h x (suc k) lt e = let further : k < length ys = omega (arith, lt) in
    at_place P ys h.1 x k further e

pub of_member : {X : Type 0} (P : X → Type 0) (xs : List X) → AllByRecursion P xs → (x : X)
    → Contains xs x → P x
of_member P xs h x c = at_place P xs h x c.0 c.1 c.2

pub of_members : {X : Type 0} (P : X → Type 0) (xs : List X) → ((x : X) → Contains xs x → P x)
    → AllByRecursion P xs
of_members P [] each = tt
of_members P (x ∷ xs) each =
    let first : 0 < suc (length xs) = omega arith in
    (each x (0, first, refl), of_members P xs (λ y c. each y (later_is x xs y c)))

pub left_all : {X : Type 0} (P : X → Type 0) (xs ys : List X) → AllByRecursion P (xs ++ ys)
    → AllByRecursion P xs
left_all P [] ys h = tt
left_all P (x ∷ xs) ys h = (h.0, left_all P xs ys h.1)

pub right_all : {X : Type 0} (P : X → Type 0) (xs ys : List X) → AllByRecursion P (xs ++ ys)
    → AllByRecursion P ys
right_all P [] ys h = h
right_all P (x ∷ xs) ys h = right_all P xs ys h.1

pub each_all : {X : Type 0} (P Q : X → Type 0) → ((x : X) → P x → Q x) → (xs : List X)
    → AllByRecursion P xs → AllByRecursion Q xs
each_all P Q so [] h = tt
each_all P Q so (x ∷ xs) h = (so x h.0, each_all P Q so xs h.1)

pub named_sends : (K : InstanceIdentity → Type 0) (sends : List Send)
    → AllByRecursion K (instances_in_sends sends)
    → AllByRecursion (λ (s : Send). AllByRecursion K (instances_in_content s.content)) sends
named_sends K [] h = tt
named_sends K (s ∷ sends) h = (
  left_all K (instances_in_send s) (instances_in_sends sends) h,
  named_sends K sends (right_all K (instances_in_send s) (instances_in_sends sends) h),
)

-- ---- a property of an instance, for all that has instances

-- together with a property of its key
module _ (K : InstanceIdentity → Type 0) (P : Key → Type 0)
    (so : (name : InstanceIdentity) → K name → P name.key) (count : ℕ) where
  abbrev pub named_by : Telling
  named_by = record {
    of_lsa = λ lsa. K (identity_of_lsa lsa);
    of_header = λ h. K (identity_of_header h);
    of_key = P;
    aged = λ age l le h. h;
    header = λ l h. h;
    key = λ l h. so (identity_of_lsa l) h;
    count = count;
  }

  values_named : {X : Type 0} (f : X → InstanceIdentity) (es : List (Key × X))
      → AllByRecursion (OfEntry (λ k x. K (f x))) es → AllByRecursion K (map f (map (λ e. e.1) es))
  values_named f [] h = tt
  values_named f (e ∷ es) h = (h.0, values_named f es h.1)

  named_values : {X : Type 0} (f : X → InstanceIdentity) (es : List (Key × X))
      → AllByRecursion K (map f (map (λ e. e.1) es)) → AllByRecursion (OfEntry (λ k x. K (f x))) es
  named_values f [] h = tt
  named_values f (e ∷ es) h = (h.0, named_values f es h.1)

  owed_named : (o : Option Neighbor) → OfOwedIfAny named_by o
      → AllByRecursion K (instances_on_list o)
  owed_named None h = tt
  owed_named (Some n) h = values_named (λ (l : ListEntry). identity_of_header l.header)
      (finite.entries n.retransmissions) (entries_in (OfListed named_by) n.retransmissions h)

  named_owed : (o : Option Neighbor) → AllByRecursion K (instances_on_list o)
      → OfOwedIfAny named_by o
  named_owed None h = tt
  named_owed (Some n) h = of_entries (OfListed named_by) n.retransmissions
      (named_values (λ (l : ListEntry). identity_of_header l.header)
      (finite.entries n.retransmissions) h)

  link_named : (link : Link) → OfLink named_by link → AllByRecursion K (instances_on_link link)
  link_named link h =
      both K (instances_on_list link.neighbor)
      (map identity_of_header (finite.values link.acknowledgments))
      (owed_named link.neighbor h.neighbor)
      (values_named identity_of_header (finite.entries link.acknowledgments)
      (entries_in (OfWaiting named_by) link.acknowledgments h.acknowledgments))

  named_link : (link : Link) → AllByRecursion K (instances_on_link link) → OfLink named_by link
  named_link link h = record {
    neighbor = named_owed link.neighbor
        (left_all K (instances_on_list link.neighbor)
        (map identity_of_header (finite.values link.acknowledgments)) h);
    acknowledgments = of_entries (OfWaiting named_by) link.acknowledgments
        (named_values identity_of_header (finite.entries link.acknowledgments)
        (right_all K (instances_on_list link.neighbor)
        (map identity_of_header (finite.values link.acknowledgments)) h));
  }

  links_named : (links : List Link) → OfLinks named_by links
      → AllByRecursion K (flat_map instances_on_link links)
  links_named [] h = tt
  links_named (link ∷ links) h = both K (instances_on_link link)
      (flat_map instances_on_link links) (link_named link h.0) (links_named links h.1)

  named_links : (links : List Link) → AllByRecursion K (flat_map instances_on_link links)
      → OfLinks named_by links
  named_links [] h = tt
  named_links (link ∷ links) h = (
    named_link link (left_all K (instances_on_link link) (flat_map instances_on_link links) h),
    named_links links (right_all K (instances_on_link link) (flat_map instances_on_link links)
        h),
  )

  content_named : (c : Content) → OfContent named_by c → AllByRecursion K (instances_in_content c)
  content_named (Content.SendsHello hello) h = tt
  content_named (Content.Describes d) h = tt
  content_named (Content.Requests keys) h = tt
  content_named (Content.Updates lsa) h = (h, tt)
  content_named (Content.Acknowledges header) h = (h, tt)

  sends_named : (sends : List Send) → AllByRecursion (OfSend named_by) sends
      → AllByRecursion K (instances_in_sends sends)
  sends_named [] h = tt
  sends_named (s ∷ sends) h = both K (instances_in_send s) (instances_in_sends sends)
      (content_named s.content h.0) (sends_named sends h.1)

  pub held_named : (r : Router) (sends : List Send) → OfArea named_by r.area sends
      → AllByRecursion K (instances_stored r ++ instances_in_sends sends)
  held_named r sends h =
      both K (instances_stored r) (instances_in_sends sends)
      (both K (map (λ c. identity_of_lsa c.lsa) (finite.values r.area.database))
      (flat_map instances_on_link r.area.links)
      (values_named (λ (c : DatabaseCopy). identity_of_lsa c.lsa) (finite.entries r.area.database)
      (entries_in (OfCopy named_by) r.area.database h.copies))
      (links_named r.area.links h.links))
      (sends_named sends h.sent)

  pub named_held : (r : Router) → length r.area.links ≡ count
      → AllByRecursion K (instances_stored r) → OfArea named_by r.area []
  named_held r few h = record {
    copies = of_entries (OfCopy named_by) r.area.database
        (named_values (λ (c : DatabaseCopy). identity_of_lsa c.lsa) (finite.entries r.area.database)
        (left_all K (map (λ c. identity_of_lsa c.lsa) (finite.values r.area.database))
        (flat_map instances_on_link r.area.links) h));
    links = named_links r.area.links (right_all K
        (map (λ c. identity_of_lsa c.lsa) (finite.values r.area.database))
        (flat_map instances_on_link r.area.links) h);
    few = few;
    sent = tt;
  }

  -- the LSAs of a Link State Update that can be parsed
  lsas_brought : (lsas : List (List ℕ)) → AllByRecursion K (instances_in_update lsas)
      → AllByRecursion (OfBytes named_by.of_lsa) lsas
  lsas_brought [] h = tt
  lsas_brought (bytes ∷ rest) h = one_of (lsa_in bytes) h (λ more. lsas_brought rest more)
    where
      one_of : (o : Option Lsa) → AllByRecursion K
          (map identity_of_lsa (cons_option o (filter_map lsa_in rest)))
          → (AllByRecursion K (instances_in_update rest)
          → AllByRecursion (OfBytes named_by.of_lsa) rest)
          → IfRead named_by.of_lsa o × AllByRecursion (OfBytes named_by.of_lsa) rest
      one_of None all more = (tt, more all)
      one_of (Some lsa) all more = (all.0, more all.1)

  pub body_brought : (b : PacketBody) → AllByRecursion K (instances_received b)
      → OfBrought named_by.of_lsa b
  body_brought (body.Hello hello) h = tt
  body_brought (body.Description d) h = tt
  body_brought (body.Request keys) h = tt
  body_brought (body.Update lsas) h = lsas_brought lsas h
  body_brought (body.Acknowledgment headers) h = tt

-- ---- why an instance is known

pub data IsExplained (old : Router) (event : Occurrence) (N : InstanceIdentity → Type 0)
    (name : InstanceIdentity) : Type 0 where
  Held : Contains (instances_stored old) name → IsExplained old event N name
  Brought : (number : ℕ) (bytes : List ℕ) (packet : Packet) → event ≡ Occurrence.Packet number bytes
      → PacketText bytes packet → Contains (instances_received packet.body) name
      → IsExplained old event N name
  New : N name → IsExplained old event N name

-- N holds of new instances
module _ (old : Router) (event : Occurrence) (N : InstanceIdentity → Type 0) where
  new_one : (name : InstanceIdentity) → IsExplained old event N name → Option InstanceIdentity
  new_one name (IsExplained.Held c) = None
  new_one name (IsExplained.Brought number bytes packet is text c) = None
  new_one name (IsExplained.New n) = Some name

  pub new_ones : (names : List InstanceIdentity) → AllByRecursion (IsExplained old event N) names
      → List InstanceIdentity
  new_ones [] h = []
  new_ones (name ∷ names) h = cons_option (new_one name h.0) (new_ones names h.1)

  pub all_new : (names : List InstanceIdentity) (h : AllByRecursion (IsExplained old event N) names)
      → AllByRecursion N (new_ones names h)
  unfolding new_ones new_one
  all_new [] h = tt
  all_new (name ∷ names) h = with_first h.0 (all_new names h.1)
    where
      with_first : (e : IsExplained old event N name) → AllByRecursion N (new_ones names h.1)
          → AllByRecursion N (cons_option (new_one name e) (new_ones names h.1))
      with_first (IsExplained.Held c) rest = rest
      with_first (IsExplained.Brought number bytes packet is text c) rest = rest
      with_first (IsExplained.New n) rest = (n, rest)

  known_more : (more : List InstanceIdentity) (x name : InstanceIdentity)
      → IsKnown old event more name → IsKnown old event (x ∷ more) name
  known_more more x name (IsKnown.Held c) = IsKnown.Held c
  known_more more x name (IsKnown.Brought number bytes packet is text c) =
      IsKnown.Brought number bytes packet is text c
  known_more more x name (IsKnown.Originated c) = IsKnown.Originated (later_is x more name c)

  pub all_known : (names : List InstanceIdentity)
      (h : AllByRecursion (IsExplained old event N) names)
      → AllByRecursion (IsKnown old event (new_ones names h)) names
  unfolding new_ones new_one
  all_known [] h = tt
  all_known (name ∷ names) h = with_first h.0 (all_known names h.1)
    where
      with_first : (e : IsExplained old event N name)
          → AllByRecursion (IsKnown old event (new_ones names h.1)) names
          → AllByRecursion (IsKnown old event
          (cons_option (new_one name e) (new_ones names h.1))) (name ∷ names)
      with_first (IsExplained.Held c) rest = (IsKnown.Held c, rest)
      with_first (IsExplained.Brought number bytes packet is text c) rest =
          (IsKnown.Brought number bytes packet is text c, rest)
      with_first (IsExplained.New n) rest =
          let first : 0 < suc (length (new_ones names h.1)) = omega arith in (
            IsKnown.Originated (0, first, refl),
            each_all (IsKnown old event (new_ones names h.1))
                (IsKnown old event (name ∷ new_ones names h.1))
                (λ x k. known_more (new_ones names h.1) name x k) names
                rest,
          )

-- ---- what is announced

-- together with other properties of their keys
pub all_own : (t : Telling) (r : Router) → AnnouncesItsOwn r
    → ((key : Key) (e : External) → finite.get r.announced key ≡ Some e → t.of_key key)
    → AllIn (IsOwn t r.id) r.announced
all_own t r own so key = found (finite.get r.announced key) (own key) (so key)
  where
    found : (o : Option External) → ((e : External) → o ≡ Some e → key.advertising_router ≡ r.id)
        → ((e : External) → o ≡ Some e → t.of_key key) → IfThere (IsOwn t r.id) key o
    found None each keys = tt
    found (Some e) each keys = (each e refl, keys e refl)

pub announces : (t : Telling) (r : Router) → AllIn (IsOwn t r.id) r.announced → AnnouncesItsOwn r
announces t r all key e is = (subst (IfThere (IsOwn t r.id) key) is (all key)).0

-- ---- an event

-- a property of instances and of their keys
module _ (Q : InstanceIdentity → Type 0) (P : Key → Type 0)
    (so : (name : InstanceIdentity) → Q name → P name.key) where
  -- it holds of what is held before the event, of what the event brings, and of new instances
  pub record Enters (old : Router) (event : Occurrence) : Type 0 where
    pub own : P (router_key old.id)
    pub held : AllByRecursion Q (instances_stored old)
    pub announced : (key : Key) (e : External) → finite.get old.announced key ≡ Some e → P key
    pub brought : (number : ℕ) (bytes : List ℕ) (packet : Packet)
        → event ≡ Occurrence.Packet number bytes → PacketText bytes packet
        → AllByRecursion Q (instances_received packet.body)
    pub asked : (tagged : External) (tag : ℕ) (priced : External) (price : ℕ)
        → event ≡ Occurrence.Redistribute tagged tag priced price
        → P (external_key old.id priced.prefix)
    pub new : (key : Key) (copy : Option DatabaseCopy) (says : LsaBody) → P key
        → IfThere (λ k c. Q (identity_of_lsa c.lsa)) key copy → has_max_sequence copy ≡ false
        → Q (identity_of_lsa (new_instance key copy says))

  -- so it holds of what is held after it, and of what is sent
  pub record Leaves (old : Router) (event : Occurrence) (p : EventState) : Type 0 where
    pub holds : AllByRecursion Q (instances_stored p.router ++ instances_in_sends p.sends)
    pub same_router : p.router.id ≡ old.id
    pub own : AnnouncesItsOwn p.router
    pub announced : (key : Key) (e : External) → finite.get p.router.announced key ≡ Some e → P key

  module _ (old : Router) (moment : ℕ) (event : Occurrence) (outs : List Out) (new : Router)
      (happens : Happens old moment event outs new) where
    abbrev t : Telling
    t = named_by Q P so (length old.area.links)

    abbrev p : EventState
    p = end_event old moment happens.after

    left : AnnouncesItsOwn old → Enters old event → OfEvent (told t old.id) p
    left own enters =
        event_told t old.id (λ key copy says its wants. enters.new key copy says its.1 wants.0
        wants.1) enters.own old moment event happens.after
        (record {
          packet = λ number bytes packet is text. body_brought Q P so (length old.area.links)
              packet.body (enters.brought number bytes packet is text);
          key = λ tagged tag priced price is. ((refl, enters.asked tagged tag priced price is), tt);
        })
        happens.own (named_held Q P so (length old.area.links) old refl enters.held) refl
        (all_own t old own enters.announced)

    pub event_leaves : AnnouncesItsOwn old → Enters old event → Leaves old event p
    event_leaves own enters =
        let end : OfEvent (told t old.id) p = left own enters in
        record {
          holds = held_named Q P so (length old.area.links) p.router p.sends end.area;
          same_router = end.announced.0;
          own = announces t p.router (subst (λ id. AllIn (IsOwn t id) p.router.announced)
              (sym end.announced.0) end.announced.1);
          announced = λ key e is. (subst (IfThere (IsOwn t old.id) key) is (end.announced.1 key)).1;
        }

abbrev Any : InstanceIdentity → Type 0
Any name = Unit {0}

own_left : (old : Router) (moment : ℕ) (event : Occurrence) (outs : List Out) (new : Router)
    (happens : Happens old moment event outs new) → AnnouncesItsOwn old
    → Leaves Any (λ key. Unit {0}) (λ name q. tt) old event (end_event old moment happens.after)
own_left old moment event outs new happens own =
    event_leaves Any (λ key. Unit {0}) (λ name q. tt) old moment event outs new happens own
    (record {
      own = tt;
      held = of_members Any (instances_stored old) (λ name c. tt);
      announced = λ key e is. tt;
      brought = λ number bytes packet is text. of_members Any (instances_received packet.body)
          (λ name c. tt);
      asked = λ tagged tag priced price is. tt;
      new = λ key copy says its there goes. tt;
    })

pub own_stays : (old : Router) (moment : ℕ) (event : Occurrence) (outs : List Out) (new : Router)
    → Happens old moment event outs new → AnnouncesItsOwn old → AnnouncesItsOwn new
own_stays old moment event outs new happens own =
    subst AnnouncesItsOwn (sym happens.router) (own_left old moment event outs new happens own).own

pub router_stays : (old : Router) (moment : ℕ) (event : Occurrence) (outs : List Out) (new : Router)
    → Happens old moment event outs new → AnnouncesItsOwn old → new.id ≡ old.id
router_stays old moment event outs new happens own =
    ap (λ (r : Router). r.id) happens.router
    ∙ (own_left old moment event outs new happens own).same_router

-- ---- the start, and every run

pub none_on : (t : Telling) (is : List Interface) → OfLinks t (map fresh_link is)
none_on t [] = tt
none_on t (i ∷ is) = (
  record {
    neighbor = tt;
    acknowledgments = none_in (OfWaiting t);
  },
  none_on t is,
)

abbrev anything : Config → Telling
anything c = named_by Any (λ key. Unit {0}) (λ name q. tt) (length (map fresh_link c.interfaces))

pub first_own : (c : Config) → AnnouncesItsOwn (initial c)
first_own c =
    let start : EventState = record { router = unannounced_router c; sends = [] } in
    let at : OfEvent (told (anything c) c.router) start = record {
      area = record {
        copies = none_in (OfCopy (anything c));
        links = none_on (anything c) c.interfaces;
        few = refl;
        sent = tt;
      };
      announced = (refl, none_in (IsOwn (anything c) c.router));
    } in
    let end = first_told (anything c) c.router (λ key copy says its wants. tt) tt c.start start at
    in
    announces (anything c) (initial c)
    (subst (λ id. AllIn (IsOwn (anything c) id) (initial c).announced) (sym end.announced.0)
    end.announced.1)
