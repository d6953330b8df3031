-- One entry of a retransmission list through a complete event: it stays, unless the adjacency is
-- given up or the LSA is flooded; or the event's packet has its instance.
use Rattle.std.proofs.Common.{◌≡◌, ℕ, ℤ, zero, suc, ◌+◌, ◌-◌, Bool, true, false, cond, not, ◌&&◌}
use Rattle.std.proofs.Common.{◌⊎◌, inl, inr, List, [], ◌∷◌, map, Option, None, Some, is_some, refl}
use Rattle.std.proofs.Common.{sym, ap, subst, ◌∙◌, arith}
use Rattle.std.specs.Prelude.{◌==◌, is_none, nat_le, nat_lt, slice_get}
use Rattle.std.specs.declared.cmp.Ordering.{Ordering}
use Rattle.std.specs.declared.cmp.Ordering.TheVariants.{Less, Equal, Greater}
use Rattle.std.specs.FinMap as finite
use Rattle.std.specs.List.{AllByRecursion, Contains, enumerate_from, filter_map, fold}
use Rattle.std.specs.Cmp.{tied_itself}
use Rattle.std.specs.Ordering.{int_cmp, is_eq, is_gt, nat_cmp, ordering_then}
use Rattle.std.proofs.lemmas.Bool.{eq-eqb, eqb-true, and_parts}
use Rattle.words.specs.declared.key.Key.{Key}
use Rattle.lsa.specs.Reading.{lsa_in}
use Rattle.lsdb.specs.Copies.{DatabaseCopy, age_now, age_prematurely, copy_now, has_just_aged_out}
use Rattle.lsdb.specs.Copies.{install_flooded, install_originated, in_this_second}
use Rattle.lsdb.specs.Copies.{received_just_now, is_aged_out, lsa_now, newer_than_copy}
use Rattle.lsdb.specs.Copies.{same_as_copy, sent_just_now}
use Rattle.lsdb.specs.Headers.{Header, Lsa, header_with_age, key_of, lsa_with_age, lsa_key}
use Rattle.lsdb.specs.Instances.{instance_of}
use Rattle.lsdb.specs.Keys.{ByKey, same_key}
use Rattle.lsdb.specs.Order.{age_at, compare_ages, is_max_age, is_newer}
use Rattle.lsdb.proofs.Keys.{keys_exact, keys_total}
use Rattle.packet.specs.declared.model.PacketBody.{PacketBody}
use Rattle.packet.specs.declared.model.PacketBody.TheVariants as body
use Rattle.packet.specs.declared.model.Description.{Description}
use Rattle.packet.specs.declared.model.Hello.{Hello}
use Rattle.packet.specs.declared.model.Packet.{Packet}
use Rattle.adjacency.specs.Adjacencies as adjacencies
use Rattle.adjacency.specs.Contents.{Content, Step, Updates, no_sends}
use Rattle.adjacency.specs.Descriptions.{after_description}
use Rattle.adjacency.specs.Floods.{flooded_in_exchange, flooding, satisfies_request}
use Rattle.adjacency.specs.Floods.{exceeds_request, request_of}
use Rattle.adjacency.specs.Floods.{without_satisfied_request}
use Rattle.adjacency.specs.Neighbors.{Neighbor, is_exchange_or_later}
use Rattle.adjacency.specs.Requests.{request_next, without_request}
use Rattle.adjacency.specs.Retransmissions.{add_retransmission, after_acknowledgment}
use Rattle.adjacency.specs.Retransmissions.{remove_retransmission}
use Rattle.adjacency.proofs.Kept.{chosen}
use Rattle.adjacency.proofs.Maps.{OfEntry}
use Rattle.received.specs.Cases.{Case, case_of_readable, first_case, is_wrapping}
use Rattle.adjacency.specs.Asked.{is_on_request_list, has_retransmission_of}
use Rattle.received.specs.Flooding.{flood, flood_to, is_incoming}
use Rattle.received.specs.Holds.{Holds}
use Rattle.received.specs.Links.{Area, Link, any_exchange_or_loading, delay_acknowledgment}
use Rattle.received.specs.Links.{change_link, link_at, neighbor_at, neighbor_on}
use Rattle.received.specs.AreaStates.{AreaState, Send, Stepping, each_neighbor, sends_at}
use Rattle.received.specs.AreaStates.{on_database}
use Rattle.received.specs.AreaStates.{on_links, one_neighbor, only_at, sending, step_on, sends_of}
use Rattle.received.specs.AreaStates.{stepped_links, stepping_sends}
use Rattle.received.specs.Updates.{after_case, case_at, database_copy, flood_and_install}
use Rattle.received.specs.Updates.{send_copy}
use Rattle.received.proofs.Marks.{IsStill, changed_by, mark_all, There, all_there}
use Rattle.event_rules.specs.Commands.{taken_down}
use Rattle.event_rules.specs.Endings.{link_loading_done, loading_done_on, start_event, stays}
use Rattle.event_rules.specs.Endings.{flood_if_aged}
use Rattle.event_rules.specs.EventState.{EventState, flood_from_nobody}
use Rattle.event_rules.specs.Hellos.{accepts, names}
use Rattle.event_rules.specs.InstanceIdentities.{InstanceIdentity, identity_of_header}
use Rattle.event_rules.specs.InstanceIdentities.{identity_of_lsa}
use Rattle.event_rules.specs.InstanceIdentities.{instances_advertised}
use Rattle.event_rules.specs.Originations.{forget_originations, install_and_flood, interval_is_over}
use Rattle.event_rules.specs.Originations.{is_recent, new_instance}
use Rattle.event_rules.specs.Packets.{accept_hello, is_from, receive_acknowledgment}
use Rattle.event_rules.specs.Packets.{receive_description, receive_hello, receive_hello_on}
use Rattle.event_rules.specs.Packets.{is_hello, requested_lsas, with_neighbor}
use Rattle.event_rules.specs.Routers.{Occurrence, Router}
use Rattle.event_rules.specs.Ticks.{acknowledgments_on, again, expire_timers, hello_sent_on}
use Rattle.event_rules.specs.Ticks.{send_acknowledgments, send_hellos, settled_exchange}
use Rattle.event_rules.specs.Ticks.{with_hello_sent, without_acknowledgments}
use Rattle.invariants.specs.NewInstances.{lsas_brought}
use Rattle.invariants.specs.TakenOff.{BringsNewer, IsAsked, IsTold, comes_to_max_age}
use Rattle.invariants.specs.TakenOff.{is_gone_or_aged, is_gone_or_stored, owed_instance}
use Rattle.event_rules.proofs.Walk.{Invariant, outcome}
use Rattle.invariants.proofs.EventWalk.{IsHeard, IsKeptToo}
use Rattle.invariants.proofs.Limits.{AreExternal, new_key, tied_key, wanted_type}
use Rattle.invariants.proofs.Lists.{of_empty}
use Rattle.invariants.proofs.Owing.{Owing, acknowledgment_owing, again_owing, description_owing}
use Rattle.invariants.proofs.Owing.{filled_owing, flooded_other, flooded_same, hello_owing}
use Rattle.invariants.proofs.Owing.{mismatched_owing, old_description_owing, put_other, put_same}
use Rattle.invariants.proofs.Owing.{released_owing, request_owing}
use Rattle.invariants.proofs.Retransmitted.{IsItsOwn, OwnKeys, own_at}
use Rattle.invariants.proofs.Taken.{owed_where_implied}
use Rattle.invariants.proofs.Worlds.{mapped}

-- ---- the neighbor at one interface

module _ (P R : Option Neighbor → Type 0) (none : P None → R None) where
  -- after a change of each link that depends on its number
  place_kept : (g : (ℕ × Link) → Link) (k i : ℕ) (xs : List Link)
      → ((link : Link) → P link.neighbor → R (g (k + i, link)).neighbor)
      → P (neighbor_on (slice_get xs i))
      → R (neighbor_on (slice_get (map g (enumerate_from k xs)) i))
  place_kept g k i [] so h = none h
  place_kept g k zero (x ∷ xs) so h = let e : k + 0 ≡ k = omega arith in
      subst (λ m. R (g (m, x)).neighbor) e (so x h)
  place_kept g k (suc i) (x ∷ xs) so h =
      let e : k + suc i ≡ k + 1 + i = omega arith in
      place_kept g (k + 1) i xs (λ link p. subst (λ m. R (g (m, link)).neighbor) e (so link p)) h

  pub numbered_kept : (g : (ℕ × Link) → Link) (number : ℕ)
      → ((link : Link) → P link.neighbor → R (g (number, link)).neighbor) → (xs : List Link)
      → P (neighbor_at number xs) → R (neighbor_at number (map g (enumerate_from 1 xs)))
  numbered_kept g zero so xs h = none h
  numbered_kept g (suc i) so xs h = let e : suc i ≡ 1 + i = omega arith in
      place_kept g 1 i xs (λ link p. subst (λ m. R (g (m, link)).neighbor) e (so link p)) h

  -- after the same change of each link
  each_place_kept : (g : Link → Link) (i : ℕ) (xs : List Link)
      → ((link : Link) → P link.neighbor → R (g link).neighbor) → P (neighbor_on (slice_get xs i))
      → R (neighbor_on (slice_get (map g xs) i))
  each_place_kept g i [] so h = none h
  each_place_kept g zero (x ∷ xs) so h = so x h
  each_place_kept g (suc i) (x ∷ xs) so h = each_place_kept g i xs so h

  pub each_kept_at : (g : Link → Link) (number : ℕ)
      → ((link : Link) → P link.neighbor → R (g link).neighbor) → (xs : List Link)
      → P (neighbor_at number xs) → R (neighbor_at number (map g xs))
  each_kept_at g zero so xs h = none h
  each_kept_at g (suc i) so xs h = each_place_kept g i xs so h

  -- after a step of each neighbor
  pub stepped_kept : (f : Stepping) (number : ℕ)
      → ((link : Link) → P link.neighbor → R (step_on (f number link) link.neighbor))
      → (xs : List Link) → P (neighbor_at number xs)
      → R (neighbor_at number (stepped_links f xs))
  stepped_kept f number so xs h = numbered_kept
      (λ (e : ℕ × Link). record e.1 { neighbor = step_on (f e.0 e.1) e.1.neighbor }) number so xs h

-- ---- an instance that is newer than one like the copy

older_than_aged : (a : ℕ) → is_gt (compare_ages a 3600) ≡ false
older_than_aged a = by_age (a == 3600) refl
  where
    by_age : (b : Bool) → (a == 3600) ≡ b
        → is_gt (cond (b && not true) Greater
        (cond (true && not b) Less (cond (nat_lt 900 ((a - 3600) + (3600 - a))) (nat_cmp 3600 a)
        Equal))) ≡ false
    by_age true is = ap (λ m. is_gt (cond (nat_lt 900 ((m - 3600) + (3600 - m))) (nat_cmp 3600 m)
        Equal)) (eqb-true a 3600 is)
    by_age false is = refl

decided : (r s t u : Ordering) → is_gt t ≡ false
    → is_gt (ordering_then r (ordering_then s t)) ≡ true
    → is_gt (ordering_then r (ordering_then s u)) ≡ true
decided Less s t u lesser e = absurd cc
decided Equal Less t u lesser e = absurd cc
decided Equal Equal t u lesser e = let no_such : true ≡ false = sym e ∙ lesser in absurd cc
decided Equal Greater t u lesser e = refl
decided Greater s t u lesser e = refl

-- ---- the case of an LSA

newer_found : (a b c d e f g h : Bool)
    → first_case ((a, Case.NothingToFlush) ∷ (b, Case.TooSoon) ∷ (c, Case.Newer)
    ∷ (d, Case.BadRequest) ∷ (e, Case.ImpliedAcknowledgment) ∷ (f, Case.Duplicate)
    ∷ (g, Case.SequenceWraps) ∷ (h, Case.SentJustNow) ∷ []) Case.Older
    ≡ Case.Newer → (b ≡ false) × (c ≡ true)
newer_found true b c d e f g h is = absurd (cc)
newer_found false true c d e f g h is = absurd (cc)
newer_found false false true d e f g h is = (refl, refl)
newer_found false false false true e f g h is = absurd (cc)
newer_found false false false false true f g h is = absurd (cc)
newer_found false false false false false true g h is = absurd (cc)
newer_found false false false false false false true h is = absurd (cc)
newer_found false false false false false false false true is = absurd (cc)
newer_found false false false false false false false false is = absurd (cc)

not_just_now : (a b : Bool) → (true && (a && b)) ≡ false → a ≡ true → b ≡ false
not_just_now true b e is = e
not_just_now false b e is = absurd cc

newer_case : (moment : ℕ) (c : DatabaseCopy) (sender : Option Neighbor) (synchronizing : Bool)
    (lsa : Lsa) → case_of_readable moment (Some c) sender synchronizing lsa ≡ Case.Newer
    → (newer_than_copy moment lsa.header (Some c) ≡ true)
    × (received_just_now moment (Some c) ≡ false)
newer_case moment c sender synchronizing lsa is =
    let found = newer_found
    (is_max_age lsa.header.age && is_none (Some c) && not synchronizing)
    (is_some (Some c) && newer_than_copy moment lsa.header (Some c) && received_just_now moment
    (Some c))
    (newer_than_copy moment lsa.header (Some c))
    (is_on_request_list (lsa_key lsa) sender)
    (same_as_copy moment lsa.header (Some c) && has_retransmission_of moment lsa.header sender)
    (same_as_copy moment lsa.header (Some c))
    (is_wrapping moment (Some c))
    (sent_just_now moment (Some c))
    is in (
      found.1,
      not_just_now (newer_than_copy moment lsa.header (Some c))
          (received_just_now moment (Some c)) found.0 found.1,
    )

-- ---- keys and copies

-- a copy that is flushed at this moment
abbrev pub flushed_copy : ℕ → DatabaseCopy → DatabaseCopy
flushed_copy moment c = record c { lsa = lsa_with_age 3600 c.lsa; stored = moment }

pub itself : (k : Key) → same_key k k ≡ true
itself k = ap (λ (o : Ordering). is_eq o) (tied_itself keys_total k)

some_same : {c d : DatabaseCopy} → Some c ≡ Some d → c ≡ d
some_same e = cc

-- ---- moments

pub no_time : (m : ℕ) → nat_le 5 (m - m) ≡ false
no_time m = let e : m - m ≡ 0 = omega arith in ap (nat_le 5) e

-- an origination at this moment isn't forgotten at this moment
pub kept_time : (moment : ℕ) (t : ByKey ℕ) (k : Key) → finite.get t k ≡ Some moment
    → finite.get (finite.retain_keys t (λ (q : Key). is_recent moment (finite.get t q))) k
    ≡ Some moment
kept_time moment t k at =
    finite.get-retain_keys t (λ (q : Key). is_recent moment (finite.get t q)) k
    (λ x e. ap (λ (q : Key). is_recent moment (finite.get t q)) (sym (keys_exact k x e)))
    ∙ ap (λ b. cond b (finite.get t k) None)
    (ap (λ (x : Option ℕ). is_recent moment x) at ∙ ap not (no_time moment))
    ∙ at

aged_at_once : (m : ℕ) → (age_at 3600 m m == 3600) ≡ true
aged_at_once m = let e : age_at 3600 m m ≡ 3600 = omega arith in ap (λ a. a == 3600) e

-- ---- the entry

module _ (old : Router) (moment : ℕ) (event : Occurrence) (number : ℕ) (before : Neighbor)
    (name : InstanceIdentity) (copy : DatabaseCopy)
    (there : finite.get old.area.database name.key ≡ Some copy)
    (is_it : identity_of_lsa copy.lsa ≡ name) where
  abbrev key : Key
  key = name.key

  abbrev Asked : Type 0
  Asked = IsAsked event number before key

  abbrev Told : Type 0
  Told = IsTold event number before.router name

  abbrev Owes : Neighbor → Type 0
  Owes = Owing key name Asked

  -- the neighbor at the interface
  abbrev pub HoldsThere : Area → Type 0
  HoldsThere a = Holds Owes (neighbor_at number a.links)

  -- a copy with the instance; it is unchanged, or has MaxAge
  record IsLike (c : DatabaseCopy) : Type 0 where
    name_is : identity_of_lsa c.lsa ≡ name
    received : c.received ≡ copy.received
    age : ((c.lsa ≡ copy.lsa) × (c.stored ≡ copy.stored)) ⊎ (is_aged_out moment c ≡ true)

  -- it reached MaxAge in this event, unless it was flushed
  abbrev IsYoung : Type 0
  IsYoung = is_aged_out moment copy ≡ true → not (is_aged_out old.moment copy) ≡ true

  -- it was stored at this moment
  abbrev IsStored : Area → Type 0
  IsStored a = (c : DatabaseCopy) × (finite.get a.database key ≡ Some c)
      × ((c.stored == moment) ≡ true)

  data Became (a : Area) (t : ByKey ℕ) : Type 0 where
    WasTold : Told → Became a t
    WasReplaced : BringsNewer old moment event key → IsStored a → Became a t
    WasOriginated : key.advertising_router ≡ old.id → finite.get t key ≡ Some moment
        → (finite.get old.originated key ≡ Some moment → ⊥) → IsStored a → Became a t
    IsOwed : (c : DatabaseCopy) → finite.get a.database key ≡ Some c → IsLike c → HoldsThere a
        → Became a t
    HasAged : (c : DatabaseCopy) → finite.get a.database key ≡ Some c → IsLike c
        → is_aged_out moment c ≡ true → IsYoung → Asked → Became a t

  pub record Lately (o : AreaState) (t : ByKey ℕ) : Type 0 where
    became : Became o.area t
    remembers : finite.get old.originated key ≡ Some moment → finite.get t key ≡ Some moment

  -- ---- what stays the same

  still_like : (c : DatabaseCopy) (sent : Option ℕ) → IsLike c → IsLike (record c { sent = sent })
  still_like c sent l = record { name_is = l.name_is; received = l.received; age = l.age }

  still_stored : (a b : Area) → ((c : DatabaseCopy) → finite.get a.database key ≡ Some c
      → IsStill b.database key c) → IsStored a → IsStored b
  still_stored a b still st = let s : IsStill b.database key st.0 = still st.0 st.1 in
      (record (st.0) { sent = s.0 }, s.1, st.2)

  moved : (a b : Area) (t : ByKey ℕ)
      → ((c : DatabaseCopy) → finite.get a.database key ≡ Some c → IsStill b.database key c)
      → (HoldsThere a → HoldsThere b ⊎ Told) → Became a t → Became b t
  moved a b t still owed (WasTold told) = WasTold told
  moved a b t still owed (WasReplaced newer st) = WasReplaced newer (still_stored a b still st)
  moved a b t still owed (WasOriginated own now not_before st) =
      WasOriginated own now not_before (still_stored a b still st)
  moved a b t still owed (IsOwed c at like h) = by_owed (still c at) (owed h)
    where
      by_owed : IsStill b.database key c → HoldsThere b ⊎ Told → Became b t
      by_owed s (inl k) = IsOwed (record c { sent = s.0 }) s.1 (still_like c s.0 like) k
      by_owed s (inr told) = WasTold told
  moved a b t still owed (HasAged c at like aged young asked) =
      let s : IsStill b.database key c = still c at in
      HasAged (record c { sent = s.0 }) s.1 (still_like c s.0 like) aged young asked

  -- what is sent marks the database
  sent_became : (more : List Send) (o : AreaState) (t : ByKey ℕ) → Became o.area t
      → Became (sending moment more o).area t
  sent_became more o t h = moved o.area (sending moment more o).area t
      (λ c at. mark_all moment more key c o.area.database at) (λ k. inl k) h

  links_became : (f : List Link → List Link) (o : AreaState) (t : ByKey ℕ)
      → (HoldsThere o.area → Holds Owes (neighbor_at number (f o.area.links)) ⊎ Told)
      → Became o.area t → Became (on_links f o).area t
  links_became f o t keeps h = moved o.area (on_links f o).area t (λ c at. (c.sent, at)) keeps h

  each_link_became : (g : Link → Link)
      → ((link : Link) → Holds Owes link.neighbor → Holds Owes (g link).neighbor)
      → (o : AreaState) (t : ByKey ℕ) → Became o.area t → Became (on_links (map g) o).area t
  each_link_became g keeps o t h = links_became (map g) o t
      (λ k. inl (each_kept_at (Holds Owes) (Holds Owes) (λ n. n) g number keeps o.area.links k)) h

  change_became : (place : ℕ) (change : Link → Link)
      → ((link : Link) → Holds Owes link.neighbor → Holds Owes (change link).neighbor)
      → (o : AreaState) (t : ByKey ℕ) → Became o.area t
      → Became (on_links (change_link place change) o).area t
  change_became place change keeps o t h =
      links_became (change_link place change) o t
      (λ k. inl (numbered_kept (Holds Owes) (Holds Owes) (λ n. n)
      (λ (e : ℕ × Link). cond (e.0 == place) (change e.1) e.1) number
      (λ link at. chosen (λ (l : Link). Holds Owes l.neighbor) (number == place) (change link) link
      (λ e. keeps link at) (λ e. at)) o.area.links k)) h

  step_owed : (f : Neighbor → Step) → ((m : Neighbor) → Owes m → Owes (f m).neighbor)
      → (o : Option Neighbor) → Holds Owes o → Holds Owes (step_on f o)
  step_owed f keeps None h = tt
  step_owed f keeps (Some m) h = keeps m h

  each_became : (f : Stepping) → ((link : Link) (m : Neighbor) → Owes m
      → Owes (f number link m).neighbor) → (o : AreaState) (t : ByKey ℕ) → Became o.area t
      → Became (each_neighbor moment f o).area t
  each_became f keeps o t h =
      sent_became (stepping_sends f o.area.links) (on_links (stepped_links f) o) t
      (links_became (stepped_links f) o t
      (λ k. inl (stepped_kept (Holds Owes) (Holds Owes) (λ n. n) f number
      (λ link at. step_owed (f number link) (keeps link) link.neighbor at) o.area.links k)) h)

  one_became : (place : ℕ) (f : Neighbor → Step) → ((m : Neighbor) → Owes m → Owes (f m).neighbor)
      → (o : AreaState) (t : ByKey ℕ) → Became o.area t
      → Became (one_neighbor moment place f o).area t
  one_became place f keeps o t h =
      each_became (only_at place f)
      (λ link m at. chosen (λ (s : Step). Owes s.neighbor) (number == place) (f m) (record {
        neighbor = m;
        sends = [];
      }) (λ e. keeps m at) (λ e. at)) o t h

  -- ---- flooding

  -- a copy of another key is stored in the database
  put_became : (k : Key) (c : DatabaseCopy) (o : AreaState) (t : ByKey ℕ) → same_key key k ≡ false
      → Became o.area t → Became (on_database (λ db. finite.insert db k c) o).area t
  put_became k c o t other h =
      moved o.area (on_database (λ db. finite.insert db k c) o).area t
      (λ d at. (d.sent, put_other o.area.database k key c other ∙ at)) (λ h. inl h) h

  flood_other_became : (sender : Option ℕ) (lsa : Lsa) (o : AreaState) (t : ByKey ℕ)
      → same_key key (lsa_key lsa) ≡ false → Became o.area t
      → Became (flood moment sender lsa o).area t
  flood_other_became sender lsa o t other h =
      each_became (flood_to moment sender lsa)
      (λ link m at. flooded_other key name Asked moment (is_incoming sender number) lsa m other
      at) o t h

  abbrev OwesOrAsked : Option Neighbor → Type 0
  OwesOrAsked o = Holds Owes o ⊎ Asked

  -- flooding this key and instance at MaxAge, which wasn't received from a neighbor
  flood_same_became : (lsa : Lsa) (o : AreaState) (t : ByKey ℕ) → same_key key (lsa_key lsa) ≡ true
      → record {
        key = key;
        sequence = lsa.header.sequence;
        checksum = lsa.header.checksum;
      } ≡ name → IsYoung
      → ((c : DatabaseCopy) → finite.get o.area.database key ≡ Some c → IsLike c
      → is_aged_out moment c ≡ true) → Became o.area t
      → Became (flood_from_nobody moment lsa o).area t
  flood_same_became lsa o t same named young aged h = by_state h
    where
      one : (link : Link) → Holds Owes link.neighbor
          → OwesOrAsked (step_on (flood_to moment None lsa number link) link.neighbor)
      one link k = by_neighbor link.neighbor k
        where
          by_neighbor : (n : Option Neighbor) → Holds Owes n
              → OwesOrAsked (step_on (flood_to moment None lsa number link) n)
          by_neighbor None k = inl tt
          by_neighbor (Some m) k = flooded_same key name Asked moment lsa m same named k

      marks : (c : DatabaseCopy) → finite.get o.area.database key ≡ Some c
          → IsStill (flood_from_nobody moment lsa o).area.database key c
      marks c at = mark_all moment (stepping_sends (flood_to moment None lsa) o.area.links) key c
          o.area.database at

      by_owed : (c : DatabaseCopy) → finite.get o.area.database key ≡ Some c → IsLike c
          → OwesOrAsked (neighbor_at number (stepped_links (flood_to moment None lsa) o.area.links))
          → Became (flood_from_nobody moment lsa o).area t
      by_owed c at like (inl k) = IsOwed (record c {
        sent = (marks c at).0;
      }) (marks c at).1 (still_like c (marks c at).0 like) k
      by_owed c at like (inr asked) = HasAged (record c {
        sent = (marks c at).0;
      }) (marks c at).1 (still_like c (marks c at).0 like) (aged c at like) young asked

      by_state : Became o.area t → Became (flood_from_nobody moment lsa o).area t
      by_state (WasTold told) = WasTold told
      by_state (WasReplaced newer st) =
          WasReplaced newer (still_stored o.area (flood_from_nobody moment lsa o).area marks st)
      by_state (WasOriginated own now not_before st) =
          WasOriginated own now not_before
          (still_stored o.area (flood_from_nobody moment lsa o).area marks st)
      by_state (IsOwed c at like k) =
          by_owed c at like (stepped_kept (Holds Owes) OwesOrAsked (λ n. inl n)
          (flood_to moment None lsa) number one o.area.links k)
      by_state (HasAged c at like a y asked) = HasAged (record c {
        sent = (marks c at).0;
      }) (marks c at).1 (still_like c (marks c at).0 like) a y asked

  -- ---- self-originated LSAs

  -- other moments of originations
  times_became : (a : Area) (t u : ByKey ℕ)
      → (finite.get t key ≡ Some moment → finite.get u key ≡ Some moment) → Became a t → Became a u
  times_became a t u so (WasTold told) = WasTold told
  times_became a t u so (WasReplaced newer st) = WasReplaced newer st
  times_became a t u so (WasOriginated own now not_before st) =
      WasOriginated own (so now) not_before st
  times_became a t u so (IsOwed c at like h) = IsOwed c at like h
  times_became a t u so (HasAged c at like aged young asked) = HasAged c at like aged young asked

  named_key : (c : DatabaseCopy) → identity_of_lsa c.lsa ≡ name → lsa_key c.lsa ≡ key
  named_key c e = ap (λ (m : InstanceIdentity). m.key) e

  with_key : (c : DatabaseCopy) → identity_of_lsa c.lsa ≡ name → record {
    key = key;
    sequence = c.lsa.header.sequence;
    checksum = c.lsa.header.checksum;
  } ≡ name
  with_key c e = ap (λ (k : Key). record {
    key = k;
    sequence = c.lsa.header.sequence;
    checksum = c.lsa.header.checksum;
  }) (sym (named_key c e)) ∙ e

  -- one that is younger than MaxAge is unchanged
  young_before : (c : DatabaseCopy) → IsLike c → is_aged_out moment c ≡ false
      → is_aged_out moment copy ≡ false
  young_before c like young = by_age like.age
    where
      by_age : ((c.lsa ≡ copy.lsa) × (c.stored ≡ copy.stored)) ⊎ (is_aged_out moment c ≡ true)
          → is_aged_out moment copy ≡ false
      by_age (inl same) =
          sym (ap (λ (l : Lsa). is_max_age (age_at l.header.age c.stored moment)) same.0
          ∙ ap (λ (s : ℕ). is_max_age (age_at copy.lsa.header.age s moment)) same.1) ∙ young
      by_age (inr aged) = let no_such : true ≡ false = sym aged ∙ young in absurd cc

  never_aged : (b c : Bool) → b ≡ false → b ≡ true → not c ≡ true
  never_aged b c is e = let no_such : true ≡ false = sym e ∙ is in absurd cc

  module _ (c : DatabaseCopy) (o : AreaState) (t : ByKey ℕ)
      (at : finite.get o.area.database key ≡ Some c) (young : is_aged_out moment c ≡ false) where
    abbrev aged_out : AreaState
    aged_out = on_database (λ db. finite.insert db key (flushed_copy moment c)) o

    put_there : finite.get aged_out.area.database key ≡ Some (flushed_copy moment c)
    put_there = put_same o.area.database key key (flushed_copy moment c) (itself key)

    only_that : (d : DatabaseCopy) → finite.get aged_out.area.database key ≡ Some d → IsLike d
        → is_aged_out moment d ≡ true
    only_that d is like = let same : flushed_copy moment c ≡ d = some_same (sym put_there ∙ is) in
        subst (λ (x : DatabaseCopy). is_aged_out moment x ≡ true) same (aged_at_once moment)

    flush_owed : HoldsThere o.area → IsLike c
        → Became (flood_from_nobody moment (lsa_with_age 3600 c.lsa) aged_out).area t
    flush_owed h like =
        flood_same_became (lsa_with_age 3600 c.lsa) aged_out t
        (subst (λ (k : Key). same_key key k ≡ true) (sym (named_key c like.name_is))
        (itself key)) (with_key c like.name_is)
        (λ e. never_aged (is_aged_out moment copy) (is_aged_out old.moment copy)
        (young_before c like young) e) only_that
        (IsOwed (flushed_copy moment c) put_there (record {
          name_is = like.name_is;
          received = like.received;
          age = inr (aged_at_once moment);
        }) h)

    flush_stored : IsStored (flood_from_nobody moment (lsa_with_age 3600 c.lsa) aged_out).area
    flush_stored =
        let s : IsStill (flood_from_nobody moment (lsa_with_age 3600 c.lsa) aged_out).area.database
        key
        (flushed_copy moment c) =
        mark_all moment (stepping_sends (flood_to moment None (lsa_with_age 3600 c.lsa))
        aged_out.area.links) key (flushed_copy moment c) aged_out.area.database put_there in
        (record (flushed_copy moment c) { sent = s.0 }, s.1, eq-eqb moment moment refl)

    flush_same : Became o.area t → Became
        (flood_from_nobody moment (lsa_with_age 3600 c.lsa) aged_out).area t
    flush_same (WasTold told) = WasTold told
    flush_same (WasReplaced newer st) = WasReplaced newer flush_stored
    flush_same (WasOriginated own now not_before st) = WasOriginated own now not_before flush_stored
    flush_same (IsOwed d is like h) = let same : d ≡ c = some_same (sym is ∙ at) in
        flush_owed h (subst IsLike same like)
    flush_same (HasAged d is like aged y asked) =
        let same : d ≡ c = some_same (sym is ∙ at) in
        let no_such : true ≡ false = sym aged ∙ ap (λ (x : DatabaseCopy). is_aged_out moment x) same
        ∙ young in absurd cc

  flush_became : (k : Key) (c : DatabaseCopy) (o : AreaState) (t : ByKey ℕ)
      → finite.get o.area.database k ≡ Some c → is_aged_out moment c ≡ false → IsItsOwn o.area
      → Became o.area t → Became (flood_from_nobody moment (lsa_with_age 3600 c.lsa)
      (on_database (age_prematurely moment k) o)).area t
  flush_became k c o t at young its h =
      subst (λ (x : Option DatabaseCopy). Became
      (flood_from_nobody moment (lsa_with_age 3600 c.lsa)
      (on_database (λ db. changed_by k (flushed_copy moment) o.area.database x) o)).area t) (sym at)
      (by_key (same_key key k) refl)
    where
      by_key : (b : Bool) → same_key key k ≡ b
          → Became (flood_from_nobody moment (lsa_with_age 3600 c.lsa)
          (on_database (λ db. finite.insert db k (flushed_copy moment c)) o)).area t
      by_key true same =
          let e : key ≡ k = tied_key key k same in
          subst (λ (q : Key). Became (flood_from_nobody moment (lsa_with_age 3600 c.lsa)
          (on_database (λ db. finite.insert db q (flushed_copy moment c)) o)).area t) e
          (flush_same c o t (subst (λ (q : Key). finite.get o.area.database q ≡ Some c) (sym e) at)
          young h)
      by_key false other =
          let its_key : lsa_key c.lsa ≡ k = own_at o.area.database k c its.keys at in
          flood_other_became None (lsa_with_age 3600 c.lsa)
          (on_database (λ db. finite.insert db k (flushed_copy moment c)) o) t
          (subst (λ (q : Key). same_key key q ≡ false) (sym its_key) other)
          (put_became k (flushed_copy moment c) o t other h)

  too_early : (t : ByKey ℕ) → finite.get t key ≡ Some moment
      → interval_is_over moment (finite.get t key) ≡ true → ⊥
  too_early t at over = let no_such : true ≡ false =
      sym over ∙ ap (λ (x : Option ℕ). interval_is_over moment x) at ∙ no_time moment in absurd cc

  -- what is stored in the database and flooded is there
  put_stored : (sender : Option ℕ) (lsa : Lsa) (c : DatabaseCopy) (o : AreaState)
      → same_key key (lsa_key lsa) ≡ true → (c.stored == moment) ≡ true
      → IsStored (flood moment sender lsa
      (on_database (λ db. finite.insert db (lsa_key lsa) c) o)).area
  put_stored sender lsa c o same st =
      let s : IsStill (flood moment sender lsa
      (on_database (λ db. finite.insert db (lsa_key lsa) c) o)).area.database key c =
      mark_all moment (stepping_sends (flood_to moment sender lsa) o.area.links) key c
      (finite.insert o.area.database (lsa_key lsa) c)
      (put_same o.area.database (lsa_key lsa) key c same) in
      (record c { sent = s.0 }, s.1, st)

  originate_lately : (k : Key) (lsa : Lsa) (o : AreaState) (t : ByKey ℕ) → lsa_key lsa ≡ k
      → k.advertising_router ≡ old.id → interval_is_over moment (finite.get t k) ≡ true → Lately o t
      → Lately (install_and_flood moment lsa o) (finite.insert t k moment)
  originate_lately k lsa o t its_key own over h = by_key (same_key key k) refl
    where
      by_key : (b : Bool) → same_key key k ≡ b
          → Lately (install_and_flood moment lsa o) (finite.insert t k moment)
      by_key true same =
          let e : k ≡ key = sym (tied_key key k same) in
          let now : finite.get (finite.insert t k moment) key ≡ Some moment =
          put_same t k key moment same in
          let c : DatabaseCopy = record {
            lsa = lsa;
            stored = moment;
            received = None;
            sent = None;
          } in
          record {
            became = WasOriginated (subst (λ (q : Key). q.advertising_router ≡ old.id) e own) now
                (λ before_it. too_early t (h.remembers before_it)
                (subst (λ (q : Key). interval_is_over moment (finite.get t q) ≡ true) e over))
                (put_stored None lsa c o (subst (λ (q : Key). same_key key q ≡ true) (sym its_key)
                same) (eq-eqb moment moment refl));
            remembers = λ before_it. now;
          }
      by_key false other =
          let not_it : same_key key (lsa_key lsa) ≡ false =
          subst (λ (q : Key). same_key key q ≡ false) (sym its_key) other in
          let c : DatabaseCopy = record {
            lsa = lsa;
            stored = moment;
            received = None;
            sent = None;
          } in
          record {
            became = times_became _ t (finite.insert t k moment)
                (λ at. put_other t k key moment other ∙ at)
                (flood_other_became None lsa (on_database (install_originated moment lsa) o) t
                not_it (put_became (lsa_key lsa) c o t not_it h.became));
            remembers = λ before_it. put_other t k key moment other ∙ h.remembers before_it;
          }

  forget_lately : (o : AreaState) (r : Router) → Lately o r.originated
      → Lately o (forget_originations moment r).originated
  forget_lately o r h = record {
    became = times_became o.area r.originated (forget_originations moment r).originated
        (λ at. kept_time moment r.originated key at) h.became;
    remembers = λ before_it. kept_time moment r.originated key (h.remembers before_it);
  }

  -- ---- received LSAs

  -- an LSA that is newer than the present copy is newer than that before the event
  newer_before : (c : DatabaseCopy) (x : Header) → IsLike c
      → is_newer (instance_of x) (copy_now moment c) ≡ true
      → is_newer (instance_of x) (copy_now moment copy) ≡ true
  newer_before c x like newer = by_age like.age
    where
      sequences : c.lsa.header.sequence ≡ copy.lsa.header.sequence
      sequences = ap (λ (m : InstanceIdentity). m.sequence) (like.name_is ∙ sym is_it)

      checksums : c.lsa.header.checksum ≡ copy.lsa.header.checksum
      checksums = ap (λ (m : InstanceIdentity). m.checksum) (like.name_is ∙ sym is_it)

      by_numbers : is_max_age (age_now moment c) ≡ true
          → is_newer (instance_of x) (copy_now moment copy) ≡ true
      by_numbers aged =
          let old_age : age_now moment c ≡ 3600 = eqb-true (age_now moment c) 3600 aged in
          subst (λ (s : ℤ). is_gt (ordering_then (int_cmp x.sequence s)
          (ordering_then (nat_cmp x.checksum copy.lsa.header.checksum)
          (compare_ages x.age (age_now moment copy)))) ≡ true) sequences
          (subst (λ k. is_gt (ordering_then (int_cmp x.sequence c.lsa.header.sequence)
          (ordering_then (nat_cmp x.checksum k) (compare_ages x.age (age_now moment copy))))
          ≡ true) checksums
          (decided (int_cmp x.sequence c.lsa.header.sequence)
          (nat_cmp x.checksum c.lsa.header.checksum) (compare_ages x.age (age_now moment c))
          (compare_ages x.age (age_now moment copy))
          (subst (λ a. is_gt (compare_ages x.age a) ≡ false) (sym old_age) (older_than_aged x.age))
          newer))

      by_age : ((c.lsa ≡ copy.lsa) × (c.stored ≡ copy.stored)) ⊎ (is_aged_out moment c ≡ true)
          → is_newer (instance_of x) (copy_now moment copy) ≡ true
      by_age (inl same) =
          subst (λ s. is_newer (instance_of x)
          (instance_of (header_with_age (age_at copy.lsa.header.age s moment) copy.lsa.header))
          ≡ true) same.1
          (subst (λ (l : Lsa). is_newer (instance_of x)
          (instance_of (header_with_age (age_at l.header.age c.stored moment) l.header)) ≡ true)
          same.0 newer)
      by_age (inr aged) = by_numbers aged

  module _ (start : EventState) (place : ℕ) (packet : Packet)
      (heard : IsHeard start event place packet)
      (stands : (m : Neighbor) × (neighbor_at number start.router.area.links ≡ Some m)
      × (m.router ≡ before.router) × (is_exchange_or_later m.state ≡ true)) where
    -- a packet that was received at the interface is from the neighbor
    is_from_it : is_hello packet.body ≡ false → (number == place) ≡ true
        → packet.router ≡ before.router
    is_from_it other here =
        let at : neighbor_at place start.router.area.links ≡ Some stands.0 =
        ap (λ n. neighbor_at n start.router.area.links) (sym (eqb-true number place here))
        ∙ stands.1 in
        let same : (stands.0.router == packet.router) ≡ true =
        ap (λ (n : Option Neighbor). is_from packet.router n) (sym at) ∙ heard.from other in
        sym (eqb-true stands.0.router packet.router same) ∙ stands.2

    tells : is_hello packet.body ≡ false → (number == place) ≡ true
        → Contains (instances_advertised packet.body) name → Told
    tells other here told = record {
      bytes = heard.bytes;
      packet = packet;
      is = heard.is ∙ ap (λ n. Occurrence.Packet n heard.bytes) (sym (eqb-true number place here));
      text = heard.text;
      from = is_from_it other here;
      told = told;
    }

    brings : (b : PacketBody) (lsa : Lsa) → Contains (lsas_brought b) lsa
        → Contains (instances_advertised b) (identity_of_lsa lsa)
    brings (body.Hello h) lsa c = absurd (of_empty lsa c)
    brings (body.Description d) lsa c = absurd (of_empty lsa c)
    brings (body.Request keys) lsa c = absurd (of_empty lsa c)
    brings (body.Update lsas) lsa c = mapped identity_of_lsa (filter_map lsa_in lsas) lsa c
    brings (body.Acknowledgment headers) lsa c = absurd (of_empty lsa c)

    replaces : (lsa : Lsa) (o : AreaState) (t : ByKey ℕ) → Contains (lsas_brought packet.body) lsa
        → case_at moment place lsa o.area ≡ Case.Newer → lsa_key lsa ≡ key → (c : DatabaseCopy)
        → finite.get o.area.database key ≡ Some c → IsLike c → BringsNewer old moment event key
    replaces lsa o t among is its_key c at like =
        let found = newer_case moment c (neighbor_at place o.area.links)
        (any_exchange_or_loading o.area.links) lsa
        (subst (λ (x : Option DatabaseCopy). case_of_readable moment x
        (neighbor_at place o.area.links) (any_exchange_or_loading o.area.links) lsa
        ≡ Case.Newer)
        (subst (λ (k : Key). finite.get o.area.database k ≡ Some c) (sym its_key) at) is) in
        record {
          lsa = lsa;
          brought = record {
            interface = place;
            bytes = heard.bytes;
            packet = packet;
            is = heard.is;
            text = heard.text;
            among = among;
          };
          of_key = its_key;
          newer = subst (λ (x : Option DatabaseCopy). newer_than_copy moment lsa.header x ≡ true)
              (sym there) (newer_before c lsa.header like found.0);
          in_time = subst (λ (x : Option DatabaseCopy). received_just_now moment x ≡ false)
              (sym there)
              (subst (λ (x : Option ℕ). in_this_second moment x ≡ false) like.received found.1);
        }

    install_became : (lsa : Lsa) (o : AreaState) (t : ByKey ℕ)
        → Contains (lsas_brought packet.body) lsa → case_at moment place lsa o.area ≡ Case.Newer
        → Became o.area t → Became (flood_and_install moment place lsa o).area t
    install_became lsa o t among is h = by_key (same_key key (lsa_key lsa)) refl
      where
        by_same : key ≡ lsa_key lsa → IsStored (flood_and_install moment place lsa o).area
            → Became o.area t → Became (flood_and_install moment place lsa o).area t
        by_same e st (WasTold told) = WasTold told
        by_same e st (WasReplaced newer before_it) = WasReplaced newer st
        by_same e st (WasOriginated own now not_before before_it) =
            WasOriginated own now not_before st
        by_same e st (IsOwed c at like k) =
            WasReplaced (replaces lsa o t among is (sym e) c at like) st
        by_same e st (HasAged c at like aged young asked) =
            WasReplaced (replaces lsa o t among is (sym e) c at like) st

        by_key : (b : Bool) → same_key key (lsa_key lsa) ≡ b
            → Became (flood_and_install moment place lsa o).area t
        by_key true same =
            let c : DatabaseCopy = record {
              lsa = lsa;
              stored = moment;
              received = Some moment;
              sent = None;
            } in
            by_same (tied_key key (lsa_key lsa) same)
            (put_stored (Some place) lsa c o same (eq-eqb moment moment refl)) h
        by_key false other =
            let c : DatabaseCopy = record {
              lsa = lsa;
              stored = moment;
              received = Some moment;
              sent = None;
            } in
            change_became place (delay_acknowledgment lsa.header) (λ link at. at)
            (flood moment (Some place) lsa (on_database (install_flooded moment lsa) o)) t
            (flood_other_became (Some place) lsa (on_database (install_flooded moment lsa) o) t
            other (put_became (lsa_key lsa) c o t other h))

    copy_became : (c : Option DatabaseCopy) (o : AreaState) (t : ByKey ℕ) → Became o.area t
        → Became (send_copy moment place c o).area t
    copy_became None o t h = h
    copy_became (Some c) o t h = sent_became (sends_at place (Updates (lsa_now moment c) ∷ [])) o
        t h

    abbrev release : Lsa → Neighbor → Step
    release lsa n = no_sends (remove_retransmission (lsa_key lsa) n)

    abbrev IsSenders : Lsa → Option Neighbor → Type 0
    IsSenders lsa n = Holds Owes n × ((number == place) ≡ true
        → has_retransmission_of moment lsa.header n ≡ true)

    abbrev IsReleased : Lsa → Option Neighbor → Type 0
    IsReleased lsa n = Holds Owes n ⊎ (((number == place) ≡ true) × (identity_of_lsa lsa ≡ name))

    released_at : (lsa : Lsa) (link : Link) (n : Option Neighbor) → IsSenders lsa n
        → IsReleased lsa (step_on (only_at place (release lsa) number link) n)
    released_at lsa link None at = inl tt
    released_at lsa link (Some m) at =
        chosen (λ (s : Step). IsReleased lsa (Some s.neighbor)) (number == place) (release lsa m)
        (record { neighbor = m; sends = [] })
        (λ e. by_entry e (released_owing key name Asked moment lsa.header m (at.1 e) at.0))
        (λ e. inl at.0)
      where
        by_entry : (number == place) ≡ true
            → Owes (remove_retransmission (lsa_key lsa) m) ⊎ (identity_of_header lsa.header ≡ name)
            → IsReleased lsa (Some (release lsa m).neighbor)
        by_entry e (inl k) = inl k
        by_entry e (inr is) = inr (e, is)

    implied_became : (lsa : Lsa) (o : AreaState) (t : ByKey ℕ)
        → Contains (lsas_brought packet.body) lsa → is_hello packet.body ≡ false
        → case_at moment place lsa o.area ≡ Case.ImpliedAcknowledgment → Became o.area t
        → Became (one_neighbor moment place (release lsa) o).area t
    implied_became lsa o t among other is h =
        sent_became (stepping_sends (only_at place (release lsa)) o.area.links)
        (on_links (stepped_links (only_at place (release lsa))) o) t
        (links_became (stepped_links (only_at place (release lsa))) o t
        (λ k. by_result (stepped_kept (IsSenders lsa) (IsReleased lsa) (λ n. inl tt)
        (only_at place (release lsa)) number (λ link at. released_at lsa link link.neighbor at)
        o.area.links (k, sender_is))) h)
      where
        sender_is : (number == place) ≡ true
            → has_retransmission_of moment lsa.header (neighbor_at number o.area.links) ≡ true
        sender_is e =
            subst (λ n. has_retransmission_of moment lsa.header (neighbor_at n o.area.links) ≡ true)
            (sym (eqb-true number place e))
            (owed_where_implied moment (database_copy lsa o.area) (neighbor_at place o.area.links)
            (any_exchange_or_loading o.area.links) lsa is)

        by_result : IsReleased lsa (neighbor_at number
            (stepped_links (only_at place (release lsa)) o.area.links))
            → Holds Owes (neighbor_at number
            (stepped_links (only_at place (release lsa)) o.area.links)) ⊎ Told
        by_result (inl k) = inl k
        by_result (inr so) = inr (tells other so.0
            (subst (Contains (instances_advertised packet.body)) so.1
            (brings packet.body lsa among)))

    case_became : (case : Case) (lsa : Lsa) (o : AreaState) (t : ByKey ℕ)
        → Contains (lsas_brought packet.body) lsa → is_hello packet.body ≡ false
        → case_at moment place lsa o.area ≡ case → Became o.area t
        → Became (after_case case moment place lsa o).area t
    case_became Case.Unreadable lsa o t among other is h = h
    case_became Case.NothingToFlush lsa o t among other is h =
        sent_became (sends_at place (Content.Acknowledges lsa.header ∷ [])) o t h
    case_became Case.TooSoon lsa o t among other is h = h
    case_became Case.Newer lsa o t among other is h = install_became lsa o t among is h
    case_became Case.BadRequest lsa o t among other is h =
        one_became place (adjacencies.mismatch_step moment) (mismatched_owing key name Asked moment)
        o t h
    case_became Case.ImpliedAcknowledgment lsa o t among other is h =
        implied_became lsa o t among other is h
    case_became Case.Duplicate lsa o t among other is h =
        sent_became (sends_at place (Content.Acknowledges lsa.header ∷ [])) o t h
    case_became Case.SequenceWraps lsa o t among other is h = h
    case_became Case.SentJustNow lsa o t among other is h = h
    case_became Case.Older lsa o t among other is h = copy_became (database_copy lsa o.area) o t h

    -- ---- other packets

    abbrev begun : AreaState
    begun = record { area = start.router.area; sends = start.sends }

    hello_became : (own : ℕ) (h : Hello) (t : ByKey ℕ) → Became start.router.area t
        → Became (receive_hello own moment place packet.router h begun).area t
    hello_became own h t b = by_link (link_at place start.router.area.links) refl
      where
        at_place : (link : Option Link) → link_at place start.router.area.links ≡ link
            → (number == place) ≡ true → Holds Owes (neighbor_at number start.router.area.links)
            → Holds Owes (neighbor_on link)
        at_place link is e k =
            subst (λ (l : Option Link). Holds Owes (neighbor_on l)) is
            (subst (λ n. Holds Owes (neighbor_at n start.router.area.links))
            (eqb-true number place e) k)

        by_link : (link : Option Link) → link_at place start.router.area.links ≡ link
            → Became (receive_hello_on own moment place packet.router h link begun).area t
        by_link None is = b
        by_link (Some link) is =
            let s : Step = adjacencies.after_hello moment packet.router (names own h) link.neighbor
            in
            chosen (λ (o : AreaState). Became o.area t) (accepts own packet.router h link)
            (accept_hello moment place s begun) begun
            (λ e. sent_became (sends_at place s.sends)
            (on_links (change_link place (with_neighbor s.neighbor)) begun) t
            (links_became (change_link place (with_neighbor s.neighbor)) begun t
            (λ k. inl (numbered_kept (λ (n : Option Neighbor). Holds Owes n
            × ((number == place) ≡ true → Holds Owes link.neighbor)) (Holds Owes) (λ n. tt)
            (λ (f : ℕ × Link). cond (f.0 == place) (with_neighbor s.neighbor f.1) f.1) number
            (λ l at. chosen (λ (m : Link). Holds Owes m.neighbor) (number == place)
            (with_neighbor s.neighbor l) l
            (λ here. hello_owing key name Asked moment packet.router (names own h) link.neighbor
            (at.1 here)) (λ away. at.0))
            start.router.area.links (k, λ here. at_place (Some link) is here k))) b)) (λ e. b)

    description_became : (own : ℕ) (d : Description) (t : ByKey ℕ)
        → packet.body ≡ body.Description d → Became start.router.area t
        → Became (receive_description own moment place d begun).area t
    description_became own d t is b =
        let f : Neighbor → Step = after_description own moment start.router.area.database d in
        sent_became (stepping_sends (only_at place f) start.router.area.links)
        (on_links (stepped_links (only_at place f)) begun) t
        (links_became (stepped_links (only_at place f)) begun t
        (λ k. inl (stepped_kept (λ (n : Option Neighbor). Holds Owes n × IsLater n) (Holds Owes)
        (λ n. tt) (only_at place f) number
        (λ link at. described link link.neighbor at.0 at.1) start.router.area.links
        (k, subst IsLater (sym stands.1) stands.3))) b)
      where
        IsLater : Option Neighbor → Type 0
        IsLater None = Unit {0}
        IsLater (Some m) = is_exchange_or_later m.state ≡ true

        asked : (number == place) ≡ true → Contains (map key_of d.headers) key → Asked
        asked e c = IsAsked.Now heard.bytes packet d
            (heard.is ∙ ap (λ n. Occurrence.Packet n heard.bytes) (sym (eqb-true number place e)))
            heard.text is c

        described : (link : Link) (n : Option Neighbor) → Holds Owes n → IsLater n
            → Holds Owes (step_on (only_at place
            (after_description own moment start.router.area.database d) number link) n)
        described link None k later = tt
        described link (Some m) k later =
            chosen (λ (s : Step). Owes s.neighbor) (number == place)
            (after_description own moment start.router.area.database d m) (record {
              neighbor = m;
              sends = [];
            })
            (λ e. description_owing key name Asked d (asked e) own moment start.router.area.database
            m later k) (λ e. k)

    acknowledgment_became : (headers : List Header) (t : ByKey ℕ)
        → packet.body ≡ body.Acknowledgment headers → Became start.router.area t
        → Became (receive_acknowledgment moment place headers begun).area t
    acknowledgment_became headers t is b =
        let f : Neighbor → Step = λ n. no_sends (after_acknowledgment moment headers n) in
        sent_became (stepping_sends (only_at place f) start.router.area.links)
        (on_links (stepped_links (only_at place f)) begun) t
        (links_became (stepped_links (only_at place f)) begun t
        (λ k. by_result (stepped_kept (Holds Owes) Acked (λ n. inl tt) (only_at place f) number
        (λ link at. acked link link.neighbor at) start.router.area.links k)) b)
      where
        Acked : Option Neighbor → Type 0
        Acked n = Holds Owes n ⊎ (((number == place) ≡ true)
            × Contains (map identity_of_header headers) name)

        acked : (link : Link) (n : Option Neighbor) → Holds Owes n
            → Acked (step_on (only_at place (λ n. no_sends (after_acknowledgment moment headers n))
            number link) n)
        acked link None k = inl tt
        acked link (Some m) k =
            chosen (λ (s : Step). Acked (Some s.neighbor)) (number == place)
            (no_sends (after_acknowledgment moment headers m)) (record {
              neighbor = m;
              sends = [];
            })
            (λ e. by_headers e (acknowledgment_owing key name Asked moment headers m k))
            (λ e. inl k)
          where
            by_headers : (number == place) ≡ true
                → Owes (after_acknowledgment moment headers m)
                ⊎ Contains (map identity_of_header headers) name
                → Acked (Some (after_acknowledgment moment headers m))
            by_headers e (inl h) = inl h
            by_headers e (inr c) = inr (e, c)

        other : is_hello packet.body ≡ false
        other = ap is_hello is

        by_result : Acked (neighbor_at number
            (stepped_links (only_at place (λ n. no_sends (after_acknowledgment moment headers n)))
            start.router.area.links)) → Holds Owes
            (neighbor_at number (stepped_links
            (only_at place (λ n. no_sends (after_acknowledgment moment headers n)))
            start.router.area.links)) ⊎ Told
        by_result (inl k) = inl k
        by_result (inr so) = inr (tells other so.0
            (subst (λ (x : PacketBody). Contains (instances_advertised x) name) (sym is) so.1))

  -- ---- a Tick, a command, and the end

  run_out_owed : (dead : ℕ) (n : Option Neighbor) → Holds Owes n
      → Holds Owes (settled_exchange moment dead (adjacencies.after_inactivity_timer moment dead n))
  run_out_owed dead None h = tt
  run_out_owed dead (Some m) h =
      chosen (λ (o : Option Neighbor). Holds Owes (settled_exchange moment dead o))
      (adjacencies.has_passed m.last_heard dead moment) None (Some m) (λ e. tt)
      (λ e. old_description_owing key name Asked moment dead m h)

  inactive_became : (o : AreaState) (t : ByKey ℕ) → Became o.area t
      → Became (on_links (map (expire_timers moment)) o).area t
  inactive_became o t h = each_link_became (expire_timers moment)
      (λ link at. run_out_owed link.interface.dead_interval link.neighbor at) o t h

  again_became : (o : AreaState) (t : ByKey ℕ) → Became o.area t
      → Became (each_neighbor moment (again moment o) o).area t
  again_became o t h = each_became (again moment o)
      (λ link m at. again_owing key name Asked moment link.interface.retransmit_interval
      o.area.database m at) o t h

  acknowledges_became : (o : AreaState) (t : ByKey ℕ) → Became o.area t
      → Became (send_acknowledgments moment o).area t
  acknowledges_became o t h =
      sent_became (sends_of acknowledgments_on o.area.links)
      (on_links (map without_acknowledgments) o) t
      (each_link_became without_acknowledgments (λ link at. at) o t h)

  hellos_became : (o : AreaState) (t : ByKey ℕ) → Became o.area t
      → Became (send_hellos moment o).area t
  hellos_became o t h =
      sent_became (sends_of (hello_sent_on moment) o.area.links)
      (on_links (map (with_hello_sent moment)) o) t
      (each_link_became (with_hello_sent moment) (λ link at. at) o t h)

  filled_on : (n : Option Neighbor) → Holds Owes n → Holds Owes (loading_done_on n)
  filled_on None h = tt
  filled_on (Some m) h = filled_owing key name Asked m h

  pub data Ended (o : AreaState) (t : ByKey ℕ) : Type 0 where
    EndTold : Told → Ended o t
    EndReplaced : BringsNewer old moment event key
        → is_gone_or_stored moment (finite.get o.area.database key) ≡ true → Ended o t
    EndOriginated : key.advertising_router ≡ old.id → finite.get t key ≡ Some moment
        → (finite.get old.originated key ≡ Some moment → ⊥)
        → is_gone_or_stored moment (finite.get o.area.database key) ≡ true → Ended o t
    EndOwed : HoldsThere o.area → Ended o t
    EndAged : comes_to_max_age old.moment moment (Some copy) (finite.get o.area.database key) ≡ true
        → Asked → Ended o t

  came_to_max_age : (after : Option DatabaseCopy) → IsYoung → is_gone_or_aged moment after ≡ true
      → comes_to_max_age old.moment moment (Some copy) after ≡ true
  came_to_max_age after young aged =
      chosen (λ b. b ≡ true) (is_aged_out moment copy) (not (is_aged_out old.moment copy))
      (is_gone_or_aged moment after) young (λ e. aged)

  still_aged : (c : DatabaseCopy) (x : Option DatabaseCopy) → x ≡ Some c
      → is_aged_out moment c ≡ true → is_gone_or_aged moment x ≡ true
  still_aged c x at aged = ap (is_gone_or_aged moment) at ∙ aged

  stored_there : (a : Area) → IsStored a
      → is_gone_or_stored moment (finite.get a.database key) ≡ true
  stored_there a st = ap (is_gone_or_stored moment) st.1 ∙ st.2

  stored_left : (a : Area) → IsStored a
      → is_gone_or_stored moment (finite.get (finite.retain_keys a.database (stays moment a)) key)
      ≡ true
  stored_left a st =
      ap (is_gone_or_stored moment) (finite.get-retain_keys a.database (stays moment a) key
      (λ y e. ap (stays moment a) (sym (keys_exact key y e))))
      ∙ chosen (λ (y : Option DatabaseCopy). is_gone_or_stored moment y ≡ true) (stays moment a key)
      (finite.get a.database key) None (λ e. stored_there a st) (λ e. refl)

  ended : (o : AreaState) (t : ByKey ℕ) → Became o.area t → Ended o t
  ended o t (WasTold told) = EndTold told
  ended o t (WasReplaced newer st) = EndReplaced newer (stored_there o.area st)
  ended o t (WasOriginated own now not_before st) =
      EndOriginated own now not_before (stored_there o.area st)
  ended o t (IsOwed c at like h) = EndOwed h
  ended o t (HasAged c at like aged young asked) =
      EndAged (came_to_max_age (finite.get o.area.database key) young
      (still_aged c (finite.get o.area.database key) at aged)) asked

  removed_ended : (o : AreaState) (t : ByKey ℕ) → Became o.area t
      → Ended (on_database (λ db. finite.retain_keys db (stays moment o.area)) o) t
  removed_ended o t (WasTold told) = EndTold told
  removed_ended o t (WasReplaced newer st) = EndReplaced newer (stored_left o.area st)
  removed_ended o t (WasOriginated own now not_before st) =
      EndOriginated own now not_before (stored_left o.area st)
  removed_ended o t (IsOwed c at like h) = EndOwed h
  removed_ended o t (HasAged c at like aged young asked) =
      let x : Option DatabaseCopy = finite.get o.area.database key in
      let left : is_gone_or_aged moment (cond (stays moment o.area key) x None) ≡ true =
      chosen (λ (y : Option DatabaseCopy). is_gone_or_aged moment y ≡ true)
      (stays moment o.area key) x None (λ e. still_aged c x at aged) (λ e. refl) in
      EndAged (came_to_max_age (finite.get
      (finite.retain_keys o.area.database (stays moment o.area)) key) young
      (ap (is_gone_or_aged moment) (finite.get-retain_keys o.area.database (stays moment o.area) key
      (λ y e. ap (stays moment o.area) (sym (keys_exact key y e)))) ∙ left)) asked

  -- ---- aging

  abbrev Stands : Neighbor → Type 0
  Stands m = (m.router ≡ before.router) × (is_exchange_or_later m.state ≡ true)

  abbrev pub StandsThere : Option Neighbor → Type 0
  StandsThere None = ⊥
  StandsThere (Some m) = Stands m

  flooding_stands : (from : Bool) (lsa : Lsa) (m : Neighbor) → Stands m
      → Stands (flooding moment from lsa m).neighbor
  flooding_stands from lsa m h =
      let w : Neighbor = without_satisfied_request moment lsa m in
      let met : Stands w = chosen Stands (satisfies_request moment lsa (request_of m lsa))
      (without_request (lsa_key lsa) m) m (λ e. h) (λ e. h) in
      let got : Step = record {
        neighbor = add_retransmission moment lsa.header w;
        sends = Updates lsa ∷ [];
      } in
      chosen (λ (s : Step). Stands s.neighbor) (is_exchange_or_later m.state)
      (flooded_in_exchange moment from lsa m) (no_sends m)
      (λ part. chosen (λ (s : Step). Stands s.neighbor)
      (not from && exceeds_request moment lsa (request_of m lsa)) got
      (no_sends (remove_retransmission (lsa_key lsa) w)) (λ e. met) (λ e. met)) (λ e. h)

  flood_stands : (lsa : Lsa) (o : AreaState) → StandsThere (neighbor_at number o.area.links)
      → StandsThere (neighbor_at number (flood_from_nobody moment lsa o).area.links)
  flood_stands lsa o h = stepped_kept StandsThere StandsThere (λ n. n) (flood_to moment None lsa)
      number (λ link at. one link link.neighbor at) o.area.links h
    where
      one : (link : Link) (n : Option Neighbor) → StandsThere n
          → StandsThere (step_on (flood_to moment None lsa number link) n)
      one link None at = at
      one link (Some m) at = flooding_stands (is_incoming None number) lsa m at

  like_aged : (c : DatabaseCopy) → is_aged_out moment copy ≡ true → IsLike c
      → is_aged_out moment c ≡ true
  like_aged c aged like = by_age like.age
    where
      by_age : ((c.lsa ≡ copy.lsa) × (c.stored ≡ copy.stored)) ⊎ (is_aged_out moment c ≡ true)
          → is_aged_out moment c ≡ true
      by_age (inl same) =
          ap (λ (l : Lsa). is_max_age (age_at l.header.age c.stored moment)) same.0
          ∙ ap (λ (s : ℕ). is_max_age (age_at copy.lsa.header.age s moment)) same.1 ∙ aged
      by_age (inr it) = it

  age_became : (keys : OwnKeys old.area.database) (e : Key × DatabaseCopy)
      → There old.area.database e.0 e.1 → (o : AreaState) (t : ByKey ℕ)
      → has_just_aged_out old.moment moment e.1 ≡ true → Became o.area t
      → Became (flood_from_nobody moment (lsa_now moment e.1) o).area t
  age_became keys e at o t just h = by_key (same_key key e.0) refl
    where
      its_key : lsa_key e.1.lsa ≡ e.0
      its_key = own_at old.area.database e.0 e.1 keys at

      by_key : (b : Bool) → same_key key e.0 ≡ b
          → Became (flood_from_nobody moment (lsa_now moment e.1) o).area t
      by_key true same =
          let here : finite.get old.area.database key ≡ Some e.1 =
          subst (λ (k : Key). finite.get old.area.database k ≡ Some e.1)
          (sym (tied_key key e.0 same)) at in
          let it : copy ≡ e.1 = some_same (sym there ∙ here) in
          let aged = and_parts (is_aged_out moment copy) (not (is_aged_out old.moment copy))
          (subst (λ (c : DatabaseCopy). has_just_aged_out old.moment moment c ≡ true) (sym it)
          just) in
          subst (λ (c : DatabaseCopy). Became (flood_from_nobody moment (lsa_now moment c) o).area
          t) it
          (flood_same_became (lsa_now moment copy) o t
          (subst (λ (k : Key). same_key key k ≡ true) (sym (named_key copy is_it)) (itself key))
          (with_key copy is_it)
          (λ e. aged.1) (λ c at like. like_aged c aged.0 like) h)
      by_key false other = flood_other_became None (lsa_now moment e.1) o t
          (subst (λ (k : Key). same_key key k ≡ false) (sym its_key) other) h

  ages_became : (keys : OwnKeys old.area.database) (es : List (Key × DatabaseCopy))
      → AllByRecursion (OfEntry (There old.area.database)) es → (o : AreaState) (t : ByKey ℕ)
      → Became o.area t × StandsThere (neighbor_at number o.area.links)
      → Became (fold (flood_if_aged old.moment moment) o es).area t
      × StandsThere (neighbor_at number
      (fold (flood_if_aged old.moment moment) o es).area.links)
  ages_became keys [] all o t h = h
  ages_became keys (e ∷ es) all o t h =
      ages_became keys es all.1 (flood_if_aged old.moment moment o e) t
      (chosen (λ (p : AreaState). Became p.area t × StandsThere (neighbor_at number p.area.links))
      (has_just_aged_out old.moment moment e.1)
      (flood_from_nobody moment (lsa_now moment e.1) o) o
      (λ just. (age_became keys e all.0 o t just h.0, flood_stands (lsa_now moment e.1) o h.1))
      (λ is. h))

  -- ---- the start

  pub begins : OwnKeys old.area.database → (m : Neighbor)
      → neighbor_at number old.area.links ≡ Some m → Stands m → Owes m
      → Lately (record {
        area = (start_event moment old).router.area;
        sends = (start_event moment old).sends;
      }) old.originated
      × StandsThere (neighbor_at number (start_event moment old).router.area.links)
  begins keys m at stands owes =
      let o : AreaState = record { area = old.area; sends = [] } in
      let like : IsLike copy = record {
        name_is = is_it;
        received = refl;
        age = inl (refl, refl);
      } in
      let all = ages_became keys (finite.entries old.area.database) (all_there old.area.database) o
      old.originated
      (IsOwed copy there like (subst (Holds Owes) (sym at) owes), subst StandsThere (sym at) stands)
      in
      (record { became = all.0; remembers = λ e. e }, all.1)

  -- ---- every part

  -- for a database whose copies have their own keys, and announced external destinations with own
  -- keys
  module _ (i : Invariant) (its : (a : Area) (sends : List Send) → i.of_area a sends → IsItsOwn a)
      (own : (k : Key) → i.of_key k → k.advertising_router ≡ old.id)
      (externals : (r : Router) → i.of_announced r.id r.announced → AreExternal r.announced)
      (stands : StandsThere (neighbor_at number (start_event moment old).router.area.links)) where
    there_is : (n : Option Neighbor) → StandsThere n
        → (m : Neighbor) × (n ≡ Some m) × (m.router ≡ before.router)
        × (is_exchange_or_later m.state ≡ true)
    there_is None h = absurd h
    there_is (Some m) h = (m, refl, h.0, h.1)

    abbrev start : EventState
    start = start_event moment old

    standing : (m : Neighbor) × (neighbor_at number start.router.area.links ≡ Some m)
        × (m.router ≡ before.router) × (is_exchange_or_later m.state ≡ true)
    standing = there_is (neighbor_at number start.router.area.links) stands

    pub each_part : IsKeptToo i Lately Ended start moment event
    each_part = record {
      flushes = λ k c o t at young area h. record {
        became = flush_became k c o t at young (its o.area o.sends area) h.became;
        remembers = h.remembers;
      };
      originates = λ k says p of_key goes may wants so h.
          originate_lately k (new_instance k (finite.get p.router.area.database k) says) (outcome p)
          p.router.originated
          (new_key k (finite.get p.router.area.database k) says
          (wanted_type p.router k says (externals p.router so.announced) wants)) (own k of_key)
          may h;
      case = λ place packet heard case lsa o t among other is area h. record {
        became = case_became start place packet heard standing case lsa o t among other is h.became;
        remembers = h.remembers;
      };
      hello = λ place packet hello heard is so h. record {
        became = hello_became start place packet heard standing start.router.id hello
            start.router.originated h.became;
        remembers = h.remembers;
      };
      description = λ place packet d heard is so h.
          record {
            became = description_became start place packet heard standing start.router.id d
                start.router.originated is h.became;
            remembers = h.remembers;
          };
      acknowledgment = λ place packet headers heard is so h.
          record {
            became = acknowledgment_became start place packet heard standing headers
                start.router.originated is h.became;
            remembers = h.remembers;
          };
      requested = λ place keys o t area h.
          record {
            became = sent_became (sends_at place
                (map Content.Updates (requested_lsas moment o.area.database keys))) o t h.became;
            remembers = h.remembers;
          };
      mismatch = λ place o t area h. record {
        became = one_became place (adjacencies.mismatch_step moment)
            (mismatched_owing key name Asked moment) o t h.became;
        remembers = h.remembers;
      };
      forgets = λ r o area h. forget_lately o r h;
      inactive = λ o t area h. record {
        became = inactive_became o t h.became;
        remembers = h.remembers;
      };
      again = λ o t area h. record { became = again_became o t h.became; remembers = h.remembers };
      acknowledges = λ o t area h. record {
        became = acknowledges_became o t h.became;
        remembers = h.remembers;
      };
      hellos = λ o t area h. record {
        became = hellos_became o t h.became;
        remembers = h.remembers;
      };
      link_down = λ place o t area h. record {
        became = change_became place taken_down (λ link at. tt) o t h.became;
        remembers = h.remembers;
      };
      loaded = λ o t area h. record {
        became = each_link_became link_loading_done (λ link at. filled_on link.neighbor at) o t
            h.became;
        remembers = h.remembers;
      };
      requests = λ o t area h.
          record {
            became = each_became (λ place link m. request_next moment m)
                (λ link m at. request_owing key name Asked moment m at) o t h.became;
            remembers = h.remembers;
          };
      removes = λ o t area h. removed_ended o t h.became;
      stays = λ o t area h. ended o t h.became;
    }
