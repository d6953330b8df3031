-- A copy that is settled with a neighbor, in an event: if it was settled before the event, it is so
-- after it.
use Rattle.std.proofs.Common.{◌≡◌, ℕ, ◌≤◌, Bool, true, false, cond, not, ◌⊎◌, inl, inr, List, []}
use Rattle.std.proofs.Common.{◌∷◌, map, Option, None, Some, refl, sym, ap, subst, ◌∙◌, arith}
use Rattle.std.specs.Prelude.{◌==◌, length, nat_lt}
use Rattle.std.specs.FinMap as finite
use Rattle.std.specs.List.{AllByRecursion, Contains, filter_map, cons_option, fold}
use Rattle.std.proofs.lemmas.Bool.{eqb-true, ltb-false}
use Rattle.words.specs.declared.key.Key.{Key}
use Rattle.lsa.specs.Origination.{sealed_lsa}
use Rattle.lsa.specs.Reading.{body_fills, checksum_is_right, fault_of, first_of, is_known_type}
use Rattle.lsa.specs.Reading.{lsa_in, read_unless}
use Rattle.lsa.specs.declared.body.LsaBody.{LsaBody}
use Rattle.lsa.specs.declared.fault.LsaFault.{LsaFault}
use Rattle.lsa.specs.declared.fault.LsaFault.TheVariants as wrong
use Rattle.words.specs.Fields.{field}
use Rattle.lsdb.specs.Copies.{DatabaseCopy, copy_now, has_just_aged_out, lsa_now}
use Rattle.lsdb.specs.Headers.{Header, Lsa, key_of, lsa_key}
use Rattle.lsdb.specs.Instances.{ListEntry}
use Rattle.lsdb.specs.Keys.{ByKey, key_cmp, same_key}
use Rattle.lsdb.specs.declared.order.Instance.{Instance}
use Rattle.packet.specs.declared.model.PacketBody.{PacketBody}
use Rattle.packet.specs.declared.model.PacketBody.TheVariants as body
use Rattle.packet.specs.declared.model.Packet.{Packet}
use Rattle.adjacency.specs.Contents.{Content}
use Rattle.adjacency.specs.Lists.{HasSoundLists}
use Rattle.adjacency.specs.Neighbors.{Neighbor, is_exchange_or_later}
use Rattle.adjacency.proofs.Kept.{chosen}
use Rattle.adjacency.proofs.Maps.{OfEntry}
use Rattle.received.specs.Flooding.{flood_to}
use Rattle.received.specs.Holds.{Holds, HoldsOfEach}
use Rattle.received.specs.Links.{Area, Link, link_at, neighbor_at, neighbor_on}
use Rattle.received.specs.AreaStates.{AreaState, sends_at, step_on, stepping_sends}
use Rattle.received.proofs.Holding.{one_holds}
use Rattle.received.proofs.Marks.{There, all_there}
use Rattle.event_rules.specs.declared.model.Out.{Out}
use Rattle.event_rules.specs.Endings.{end_event, flood_if_aged, start_event}
use Rattle.event_rules.specs.EventState.{EventState, flood_from_nobody}
use Rattle.event_rules.specs.Events.{Happens}
use Rattle.event_rules.specs.Originations.{new_instance}
use Rattle.event_rules.specs.Packets.{is_from, is_hello, requested_lsas}
use Rattle.event_rules.specs.Routers.{Occurrence, Router}
use Rattle.event_rules.proofs.Walk.{outcome}
use Rattle.invariants.specs.InOrder.{IsConsistent}
use Rattle.invariants.specs.NewInstances.{lsas_brought}
use Rattle.invariants.specs.Retransmissions.{AreOfTheDatabase, HasItsRetransmissions}
use Rattle.invariants.proofs.Acknowledged.{in_order, order_begun, order_brings, order_kept}
use Rattle.invariants.proofs.EventWalk.{IsHeard, IsKeptToo, event_kept_too}
use Rattle.invariants.proofs.Leaving.{stepped_kept}
use Rattle.invariants.proofs.Limits.{tied_key}
use Rattle.invariants.proofs.Lists.{of_cons, of_empty}
use Rattle.invariants.proofs.Retransmitted.{IsItsOwn, OwnKeys, own_at, read}
use Rattle.invariants.proofs.Retransmitted as retransmitted
use Rattle.invariants.proofs.Worlds.{mapped}
use Rattle.agreement_laws.specs.Exchanged.{Converses, Tells, conversation_with, headers_told}
use Rattle.agreement_laws.proofs.Ages.{aged_at_least}
use Rattle.agreement_laws.proofs.Describing.{held, instance_at}
use Rattle.agreement_laws.proofs.Lists.{some_same}
use Rattle.agreement_laws.proofs.Parts as parts
use Rattle.agreement_laws.proofs.Parts.{SaidBy, held_marked}
use Rattle.agreement_laws.proofs.Settling.{Has, Saying, Settling, settling_more}

-- ---- ages of LSAs that are parsed, and of those that are originated

not_too_old : (a b c d e f g : Bool) (s : LsaFault) (t : LsaFault) (u : LsaFault) (v : LsaFault)
    (w : LsaFault) (x : LsaFault) (y : LsaFault)
    → first_of ((a, s) ∷ (b, t) ∷ (c, u) ∷ (d, v) ∷ (e, w) ∷ (f, x) ∷ (g, y) ∷ []) ≡ None
    → e ≡ false
not_too_old true b c d e f g s t u v w x y is = absurd cc
not_too_old false true c d e f g s t u v w x y is = absurd cc
not_too_old false false true d e f g s t u v w x y is = absurd cc
not_too_old false false false true e f g s t u v w x y is = absurd cc
not_too_old false false false false true f g s t u v w x y is = absurd cc
not_too_old false false false false false f g s t u v w x y is = refl

young_text : (bytes : List ℕ) → fault_of bytes ≡ None → field bytes 0 2 ≤ 3600
unfolding fault_of
young_text bytes is = ltb-false 3600 (field bytes 0 2)
    (not_too_old (nat_lt (length bytes) 20) (not (field bytes 18 2 == length bytes))
    (not (checksum_is_right bytes)) (not (is_known_type (field bytes 3 1)))
    (nat_lt 3600 (field bytes 0 2)) (field bytes 12 4 == 0x8000_0000)
    (not (body_fills (field bytes 3 1) bytes))
    wrong.Short wrong.Length wrong.Checksum wrong.LsType wrong.Body wrong.Body wrong.Body is)

-- the age of a parsed LSA is at most MaxAge
read_age : (bytes : List ℕ) (lsa : Lsa) → lsa_in bytes ≡ Some lsa → lsa.header.age ≤ 3600
read_age bytes lsa is = by_fault (fault_of bytes) refl is
  where
    by_fault : (o : Option LsaFault) → fault_of bytes ≡ o → read_unless bytes o ≡ Some lsa
        → lsa.header.age ≤ 3600
    by_fault None e at = subst (λ (l : Lsa). l.header.age ≤ 3600) (some_same at)
        (young_text bytes e)
    by_fault (Some f) e at = absurd cc

brought_age : (lsas : List (List ℕ)) (lsa : Lsa) → Contains (filter_map lsa_in lsas) lsa
    → lsa.header.age ≤ 3600
brought_age [] lsa c = absurd (of_empty lsa c)
brought_age (bytes ∷ rest) lsa c = by_first (lsa_in bytes) refl (λ k. brought_age rest lsa k) c
  where
    by_first : (o : Option Lsa) → lsa_in bytes ≡ o
        → (Contains (filter_map lsa_in rest) lsa → lsa.header.age ≤ 3600)
        → Contains (cons_option o (filter_map lsa_in rest)) lsa → lsa.header.age ≤ 3600
    by_first None e others k = others k
    by_first (Some l) e others k = by_place (of_cons l (filter_map lsa_in rest) lsa k)
      where
        by_place : (l ≡ lsa) ⊎ Contains (filter_map lsa_in rest) lsa → lsa.header.age ≤ 3600
        by_place (inl is) = subst (λ (m : Lsa). m.header.age ≤ 3600) is (read_age bytes l e)
        by_place (inr more) = others more

brought_by : (b : PacketBody) (lsa : Lsa) → Contains (lsas_brought b) lsa → (lsa.header.age ≤ 3600)
    × Contains (headers_told b) lsa.header
brought_by (body.Hello h) lsa c = absurd (of_empty lsa c)
brought_by (body.Description d) lsa c = absurd (of_empty lsa c)
brought_by (body.Request keys) lsa c = absurd (of_empty lsa c)
brought_by (body.Update lsas) lsa c =
    (brought_age lsas lsa c, mapped (λ (l : Lsa). l.header) (filter_map lsa_in lsas) lsa c)
brought_by (body.Acknowledgment headers) lsa c = absurd (of_empty lsa c)

originated_age : (key : Key) (c : Option DatabaseCopy) (says : LsaBody)
    → (new_instance key c says).header.age ≤ 3600
unfolding sealed_lsa
originated_age key c says = omega arith

-- ---- an event

abbrev pub Anybody : ℕ → Type 0
Anybody router = Unit {0}

module _ (key : Key) (number : ℕ) (Before : Saying) (old : Router) (moment : ℕ) (event : Occurrence)
  where
    abbrev pub start : EventState
    start = start_event moment old

    -- what was said before in this conversation, or is said in this event
    abbrev pub Base : Saying
    Base with_it l =
        (Before with_it l × Converses number with_it old)
        ⊎ (Tells event number with_it.router l.header × (l.at ≡ moment) × (key_of l.header ≡ key))

    -- the interface exists
    abbrev pub HasLink : Type 0
    HasLink = (link : Link) × (link_at number old.area.links ≡ Some link)

    -- the neighbor at the interface is this router
    abbrev pub IsIts : ℕ → Type 0
    IsIts router = (from : ℕ) → is_from from (neighbor_at number start.router.area.links) ≡ true
        → from ≡ router

    abbrev Stands : AreaState → Type 0
    Stands o = parts.Stands key moment number HasLink IsIts Base o

    -- ---- aging

    abbrev Aging : Option Instance → AreaState → Type 0
    Aging x o = parts.HoldsThere key moment number HasLink Anybody Base o.sends x
        (neighbor_at number o.area.links)

    -- settled, or still to be flooded
    abbrev Ages : DatabaseCopy → List (Key × DatabaseCopy) → AreaState → Type 0
    Ages c es o =
        (held moment key o.area.database ≡ Some (copy_now moment c))
        × (Aging (Some (copy_now moment c)) o
        ⊎ (Aging None o × (has_just_aged_out old.moment moment c ≡ true)
        × (finite.find key_cmp key es ≡ Some c)))

    found_by : (e : Key × DatabaseCopy) (es : List (Key × DatabaseCopy)) (c : DatabaseCopy)
        → finite.find key_cmp key (e ∷ es) ≡ Some c → ((same_key key e.0 ≡ true) × (e.1 ≡ c))
        ⊎ ((same_key key e.0 ≡ false) × (finite.find key_cmp key es ≡ Some c))
    found_by e es c at = by_key (same_key key e.0) refl at
      where
        by_key : (b : Bool) → same_key key e.0 ≡ b → cond b (Some e.1) (finite.find key_cmp key es)
            ≡ Some c → ((same_key key e.0 ≡ true) × (e.1 ≡ c))
            ⊎ ((same_key key e.0 ≡ false) × (finite.find key_cmp key es ≡ Some c))
        by_key true is found = inl (is, some_same found)
        by_key false is found = inr (is, found)

    module _ (c : DatabaseCopy) (there : finite.get old.area.database key ≡ Some c)
        (keys : OwnKeys old.area.database) where
      abbrev flooded : (Key × DatabaseCopy) → AreaState → AreaState
      flooded e o = flood_from_nobody moment (lsa_now moment e.1) o

      still_held : (e : Key × DatabaseCopy) (o : AreaState) → held moment key o.area.database
          ≡ Some (copy_now moment c) → held moment key (flooded e o).area.database
          ≡ Some (copy_now moment c)
      still_held e o is = held_marked moment key
          (stepping_sends (flood_to moment None (lsa_now moment e.1)) o.area.links) o.area.database
          ∙ is

      -- another copy is flooded
      other_flooded : (e : Key × DatabaseCopy) (o : AreaState) (x : Option Instance)
          → There old.area.database e.0 e.1 → same_key key e.0 ≡ false → Aging x o
          → Aging x (flooded e o)
      other_flooded e o x at other h =
          parts.flood_any key moment number HasLink Anybody Base None (lsa_now moment e.1) o x
          (subst (λ (k : Key). same_key key k ≡ false)
          (sym (own_at old.area.database e.0 e.1 keys at)) other) h

      -- this one is
      same_flooded : (e : Key × DatabaseCopy) (o : AreaState) (x : Option Instance)
          → There old.area.database e.0 e.1 → same_key key e.0 ≡ true
          → held moment key o.area.database ≡ Some (copy_now moment c) → Aging x o
          → Aging (Some (copy_now moment c)) (flooded e o)
      same_flooded e o x at same is h =
          let here : finite.get old.area.database key ≡ Some e.1 =
          subst (λ (k : Key). finite.get old.area.database k ≡ Some e.1)
          (sym (tied_key key e.0 same)) at in
          let it : c ≡ e.1 = some_same (sym there ∙ here) in
          subst (λ (y : Option Instance). parts.HoldsThere key moment number HasLink Anybody Base
          (flooded e o).sends y (neighbor_at number (flooded e o).area.links)) (still_held e o is)
          (parts.flood_same key moment number HasLink Anybody Base (lsa_now moment e.1) o x
          (subst (λ (k : Key). same_key key k ≡ true)
          (sym (own_at old.area.database e.0 e.1 keys at))
          same)
          (is ∙ ap (λ (d : DatabaseCopy). Some (copy_now moment d)) it) h)

      aged_one : (e : Key × DatabaseCopy) (es : List (Key × DatabaseCopy)) (o : AreaState)
          → There old.area.database e.0 e.1 → has_just_aged_out old.moment moment e.1 ≡ true
          → Ages c (e ∷ es) o → Ages c es (flooded e o)
      aged_one e es o at just h = (still_held e o h.0, by_key (same_key key e.0) refl h.1)
        where
          by_key : (b : Bool) → same_key key e.0 ≡ b → Aging (Some (copy_now moment c)) o
              ⊎ (Aging None o × (has_just_aged_out old.moment moment c ≡ true)
              × (finite.find key_cmp key (e ∷ es) ≡ Some c))
              → Aging (Some (copy_now moment c)) (flooded e o)
              ⊎ (Aging None (flooded e o) × (has_just_aged_out old.moment moment c ≡ true)
              × (finite.find key_cmp key es ≡ Some c))
          by_key true same (inl k) = inl (same_flooded e o (Some (copy_now moment c)) at same h.0 k)
          by_key true same (inr k) = inl (same_flooded e o None at same h.0 k.0)
          by_key false other (inl k) = inl (other_flooded e o (Some (copy_now moment c)) at other k)
          by_key false other (inr k) = inr
              (other_flooded e o None at other k.0, k.1, by_place (found_by e es c k.2))
            where
              by_place : ((same_key key e.0 ≡ true) × (e.1 ≡ c))
                  ⊎ ((same_key key e.0 ≡ false) × (finite.find key_cmp key es ≡ Some c))
                  → finite.find key_cmp key es ≡ Some c
              by_place (inl is) = let no : true ≡ false = sym is.0 ∙ other in absurd cc
              by_place (inr is) = is.1

      kept_one : (e : Key × DatabaseCopy) (es : List (Key × DatabaseCopy)) (o : AreaState)
          → has_just_aged_out old.moment moment e.1 ≡ false → Ages c (e ∷ es) o → Ages c es o
      kept_one e es o young h = (h.0, by_state h.1)
        where
          by_state : Aging (Some (copy_now moment c)) o
              ⊎ (Aging None o × (has_just_aged_out old.moment moment c ≡ true)
              × (finite.find key_cmp key (e ∷ es) ≡ Some c)) → Aging (Some (copy_now moment c)) o
              ⊎ (Aging None o × (has_just_aged_out old.moment moment c ≡ true)
              × (finite.find key_cmp key es ≡ Some c))
          by_state (inl k) = inl k
          by_state (inr k) = inr (k.0, k.1, by_place (found_by e es c k.2))
            where
              by_place : ((same_key key e.0 ≡ true) × (e.1 ≡ c))
                  ⊎ ((same_key key e.0 ≡ false) × (finite.find key_cmp key es ≡ Some c))
                  → finite.find key_cmp key es ≡ Some c
              by_place (inl is) =
                  let no : true ≡ false = sym k.1
                  ∙ ap (λ (d : DatabaseCopy). has_just_aged_out old.moment moment d) (sym is.1)
                  ∙ young in absurd cc
              by_place (inr is) = is.1

      all_aged : (es : List (Key × DatabaseCopy))
          → AllByRecursion (OfEntry (There old.area.database)) es → (o : AreaState) → Ages c es o
          → Ages c [] (fold (flood_if_aged old.moment moment) o es)
      all_aged [] all o h = h
      all_aged (e ∷ es) all o h =
          all_aged es all.1 (flood_if_aged old.moment moment o e)
          (chosen (λ (p : AreaState). Ages c es p) (has_just_aged_out old.moment moment e.1)
          (flooded e o) o (λ just. aged_one e es o all.0 just h)
          (λ young. kept_one e es o young h))

      done : (o : AreaState) → Ages c [] o → parts.Stands key moment number HasLink Anybody Base o
      done o h = by_state h.1
        where
          by_state : Aging (Some (copy_now moment c)) o
              ⊎ (Aging None o × (has_just_aged_out old.moment moment c ≡ true)
              × (finite.find key_cmp key [] ≡ Some c))
              → parts.Stands key moment number HasLink Anybody Base o
          by_state (inl k) = subst (λ (x : Option Instance). parts.HoldsThere key moment number
              HasLink Anybody Base o.sends x (neighbor_at number o.area.links)) (sym h.0) k
          by_state (inr k) = absurd cc

    -- without a copy it stays so
    none_aged : (es : List (Key × DatabaseCopy)) (o : AreaState) → held moment key o.area.database
        ≡ None → AllByRecursion (OfEntry (There old.area.database)) es → OwnKeys old.area.database
        → finite.get old.area.database key ≡ None → Aging None o
        → parts.Stands key moment number HasLink Anybody Base
        (fold (flood_if_aged old.moment moment) o es)
    none_aged [] o is all keys nothing h =
        subst (λ (x : Option Instance). parts.HoldsThere key moment number HasLink Anybody Base
        o.sends x (neighbor_at number o.area.links)) (sym is) h
    none_aged (e ∷ es) o is all keys nothing h =
        let p : AreaState = flood_if_aged old.moment moment o e in
        let so : (held moment key p.area.database ≡ None) × Aging None p =
        chosen (λ (q : AreaState). (held moment key q.area.database ≡ None) × Aging None q)
        (has_just_aged_out old.moment moment e.1)
        (flood_from_nobody moment (lsa_now moment e.1) o) o
        (λ just. (
          held_marked moment key (stepping_sends (flood_to moment None (lsa_now moment e.1))
              o.area.links) o.area.database ∙ is,
          parts.flood_any key moment number HasLink Anybody Base None (lsa_now moment e.1) o None
              (subst (λ (k : Key). same_key key k ≡ false)
              (sym (own_at old.area.database e.0 e.1 keys all.0))
              (another (same_key key e.0) refl)) h,
        )) (λ young. (is, h)) in
        none_aged es p so.0 all.1 keys nothing so.1
      where
        another : (b : Bool) → same_key key e.0 ≡ b → same_key key e.0 ≡ false
        another false other = other
        another true same =
            let no : None ≡ Some e.1 = sym nothing
            ∙ subst (λ (k : Key). finite.get old.area.database k ≡ Some e.1)
            (sym (tied_key key e.0 same)) all.0 in absurd cc

    -- ---- before the event

    -- settled at the moment of the last event, by what was said before
    abbrev pub WasSettled : Type 0
    WasSettled = Holds (Settling key old.moment Anybody Before
        (held old.moment key old.area.database)) (neighbor_at number old.area.links)

    module _ (later : old.moment ≤ moment) where
      abbrev begun : AreaState
      begun = record { area = old.area; sends = [] }

      -- what was said before is of the conversation that continues
      still_said : (m : Neighbor) → neighbor_at number old.area.links ≡ Some m
          → is_exchange_or_later m.state ≡ true → (l : ListEntry) → Before (conversation_with m) l
          → SaidBy key moment number HasLink Anybody Base [] (conversation_with m) l
      still_said m at on l said = inl (inl (
        said,
        record {
          neighbor = m;
          there = at;
          exchanging = on;
          is = refl;
        },
      ))

      -- a copy that hasn't reached MaxAge since
      has_aged : (c : DatabaseCopy) (m : Neighbor) → neighbor_at number old.area.links ≡ Some m
          → is_exchange_or_later m.state ≡ true → has_just_aged_out old.moment moment c ≡ false
          → Has key old.moment Anybody Before m.retransmissions m.summary (conversation_with m)
          (copy_now old.moment c) → Has key moment Anybody
          (SaidBy key moment number HasLink Anybody Base []) m.retransmissions m.summary
          (conversation_with m) (copy_now moment c)
      has_aged c m at on young (inl k) = inl k
      has_aged c m at on young (inr (inl k)) =
          inr (inl (k.0, k.1, k.2, aged_at_least k.0 c old.moment moment later young k.3))
      has_aged c m at on young (inr (inr k)) =
          inr (inr (
            k.0,
            still_said m at on k.0 k.1,
            aged_at_least k.0 c old.moment moment later young k.2,
          ))

      settled_aged : (c : DatabaseCopy) (m : Neighbor) → neighbor_at number old.area.links ≡ Some m
          → has_just_aged_out old.moment moment c ≡ false
          → Settling key old.moment Anybody Before (Some (copy_now old.moment c)) m
          → Settling key moment Anybody (SaidBy key moment number HasLink Anybody Base [])
          (Some (copy_now moment c)) m
      settled_aged c m at young h = by_state (is_exchange_or_later m.state) refl h
        where
          by_state : (b : Bool) → is_exchange_or_later m.state ≡ b
              → Settling key old.moment Anybody Before (Some (copy_now old.moment c)) m
              → Settling key moment Anybody (SaidBy key moment number HasLink Anybody Base [])
              (Some (copy_now moment c)) m
          by_state b is (inl before) = inl before
          by_state false is (inr s) = inl is
          by_state true is (inr s) = inr (
            tt,
            λ l there. still_said m at is l (s.1 l there),
            has_aged c m at is young s.2,
          )

      settled_still : (x : Option Instance) (m : Neighbor) → neighbor_at number old.area.links
          ≡ Some m → Settling key old.moment Anybody Before x m
          → Settling key moment Anybody (SaidBy key moment number HasLink Anybody Base []) None m
      settled_still x m at h = by_state (is_exchange_or_later m.state) refl h
        where
          by_state : (b : Bool) → is_exchange_or_later m.state ≡ b
              → Settling key old.moment Anybody Before x m
              → Settling key moment Anybody (SaidBy key moment number HasLink Anybody Base [])
              None m
          by_state b is (inl before) = inl before
          by_state false is (inr s) = inl is
          by_state true is (inr s) = inr (tt, λ l there. still_said m at is l (s.1 l there), tt)

      each_so : (x y : Option Instance)
          → ((m : Neighbor) → neighbor_at number old.area.links ≡ Some m
          → Settling key old.moment Anybody Before x m
          → Settling key moment Anybody (SaidBy key moment number HasLink Anybody Base []) y
          m) → (o : Option Neighbor) → neighbor_at number old.area.links ≡ o
          → Holds (Settling key old.moment Anybody Before x) o
          → Holds (Settling key moment Anybody
          (SaidBy key moment number HasLink Anybody Base []) y) o
      each_so x y so None at h = tt
      each_so x y so (Some m) at h = so m at h

      -- after aging
      begins : OwnKeys old.area.database → WasSettled
          → parts.Stands key moment number HasLink Anybody Base (outcome start)
      begins keys was = by_copy (finite.get old.area.database key) refl was
        where
          by_copy : (o : Option DatabaseCopy) → finite.get old.area.database key ≡ o
              → Holds (Settling key old.moment Anybody Before (instance_at old.moment o))
              (neighbor_at number old.area.links)
              → parts.Stands key moment number HasLink Anybody Base (outcome start)
          by_copy None at h =
              none_aged (finite.entries old.area.database) begun (ap (instance_at moment) at)
              (all_there old.area.database) keys at
              (each_so None None (λ m is s. settled_still None m is s)
              (neighbor_at number old.area.links) refl h)
          by_copy (Some c) at h = by_age (has_just_aged_out old.moment moment c) refl
            where
              ended : Ages c (finite.entries old.area.database) begun
                  → parts.Stands key moment number HasLink Anybody Base (outcome start)
              ended a =
                  done c at keys (fold (flood_if_aged old.moment moment) begun
                  (finite.entries old.area.database))
                  (all_aged c at keys (finite.entries old.area.database)
                  (all_there old.area.database)
                  begun a)

              by_age : (b : Bool) → has_just_aged_out old.moment moment c ≡ b
                  → parts.Stands key moment number HasLink Anybody Base (outcome start)
              by_age true just =
                  ended (
                    ap (instance_at moment) at,
                    inr (
                      each_so (Some (copy_now old.moment c)) None
                          (λ m is s. settled_still (Some (copy_now old.moment c)) m is s)
                          (neighbor_at number old.area.links) refl h,
                      just,
                      sym (finite.get-entries old.area.database key) ∙ at,
                    ),
                  )
              by_age false young =
                  ended (
                    ap (instance_at moment) at,
                    inl (each_so (Some (copy_now old.moment c)) (Some (copy_now moment c))
                        (λ m is s. settled_aged c m is young s) (neighbor_at number old.area.links)
                        refl h),
                  )

      -- the sender of an accepted packet is the neighbor
      its_router : (m : Neighbor) → neighbor_at number start.router.area.links ≡ Some m
          → IsIts m.router
      its_router m at from is = sym (eqb-true m.router from (ap (is_from from) (sym at) ∙ is))

      known_router : (x : Option Instance) (o : Option Neighbor)
          → neighbor_at number start.router.area.links ≡ o
          → parts.HoldsThere key moment number HasLink Anybody Base start.sends x o
          → parts.HoldsThere key moment number HasLink IsIts Base start.sends x o
      known_router x None at h = tt
      known_router x (Some m) at h =
          settling_more key moment Anybody IsIts
          (SaidBy key moment number HasLink Anybody Base start.sends)
          (SaidBy key moment number HasLink IsIts Base start.sends) m (λ any. its_router m at)
          (λ l k. k) x h

      started : OwnKeys old.area.database → WasSettled → Stands (outcome start)
      started keys was =
          known_router (held moment key start.router.area.database)
          (neighbor_at number start.router.area.links) refl (begins keys was)

      -- ---- packets

      tells : (place : ℕ) (packet : Packet) → IsHeard start event place packet
          → is_hello packet.body
          ≡ false → (h : Header) → Contains (headers_told packet.body) h
          → parts.Says key moment number HasLink IsIts Base place h
      tells place packet heard other h c with_it here same its =
          inr (
            record {
              bytes = heard.bytes;
              packet = packet;
              is = heard.is ∙ ap (λ n. Occurrence.Packet n heard.bytes)
                  (sym (eqb-true number place here));
              text = heard.text;
              from = its packet.router (subst
                  (λ n. is_from packet.router (neighbor_at n start.router.area.links) ≡ true)
                  (sym (eqb-true number place here)) (heard.from other));
              told = c;
            },
            refl,
            same,
          )

      -- ---- other properties of the neighbor at the interface

      own_of : (a : Area) → IsItsOwn a → (c : DatabaseCopy) → finite.get a.database key ≡ Some c
          → lsa_key c.lsa ≡ key
      own_of a its c at = own_at a.database key c its.keys at

      one_of : (P : Neighbor → Type 0) (a : Area) → HoldsOfEach P a.links → (m : Neighbor)
          → neighbor_at number a.links ≡ Some m → P m
      one_of P a each m at = subst (Holds P) at (one_holds P number a.links each)

      facts : IsItsOwn start.router.area → HasItsRetransmissions start.router
      facts its = retransmitted.told start.router its

      empty_before : IsItsOwn start.router.area → (m : Neighbor)
          → neighbor_at number start.router.area.links ≡ Some m → is_exchange_or_later m.state
          ≡ false → m.requests ≡ finite.empty
      empty_before its m at early = ((one_of HasSoundLists start.router.area (facts its).lists m
          at).before_exchange early).1

      -- if there was no neighbor before, there is none after aging
      still_nobody : (es : List (Key × DatabaseCopy)) (o : AreaState)
          → neighbor_at number o.area.links
          ≡ None → neighbor_at number (fold (flood_if_aged old.moment moment) o es).area.links
          ≡ None
      still_nobody [] o is = is
      still_nobody (e ∷ es) o is =
          still_nobody es (flood_if_aged old.moment moment o e)
          (chosen (λ (p : AreaState). neighbor_at number p.area.links ≡ None)
          (has_just_aged_out old.moment moment e.1)
          (flood_from_nobody moment (lsa_now moment e.1) o) o
          (λ just. stepped_kept (λ (n : Option Neighbor). n ≡ None)
          (λ (n : Option Neighbor). n ≡ None) (λ e. e) (flood_to moment None (lsa_now moment e.1))
          number
          (λ link k. ap (step_on (flood_to moment None (lsa_now moment e.1) number link)) k)
          o.area.links is) (λ young. is))

      has_link : (m : Neighbor) → neighbor_at number start.router.area.links ≡ Some m → HasLink
      has_link m at = by_link (link_at number old.area.links) refl
        where
          by_link : (link : Option Link) → link_at number old.area.links ≡ link → HasLink
          by_link (Some link) is = (link, is)
          by_link None is =
              let nobody : neighbor_at number start.router.area.links ≡ None =
              still_nobody (finite.entries old.area.database) begun (ap neighbor_on is) in
              let no : None ≡ Some m = sym nobody ∙ at in absurd cc

      -- ---- every part

      abbrev Lately : AreaState → ByKey ℕ → Type 0
      Lately o t = Stands o

      each_part : IsKeptToo (in_order old.id) Lately Lately start moment event
      each_part = record {
        flushes = λ k c o t at young area h. parts.flushes key moment number HasLink IsIts Base k c
            o
            at (own_at o.area.database k c area.keys at) h;
        originates = λ k says p of_key goes may wants so h.
            parts.originates key moment number HasLink IsIts Base
            (new_instance k (finite.get p.router.area.database k) says) (outcome p)
            (originated_age k (finite.get p.router.area.database k) says) h;
        case = λ place packet heard case lsa o t among other is area h.
            let brought = brought_by packet.body lsa among in
            parts.cases key moment number HasLink IsIts Base case place lsa o is brought.0
            (tells place packet heard other lsa.header brought.1) h;
        hello = λ place packet hello heard is so h. parts.hellos key moment number HasLink IsIts
            Base
            start.router.id place packet.router hello (outcome start) h;
        description = λ place packet d heard is so h.
            parts.descriptions key moment number HasLink IsIts Base start.router.id place d
            (outcome start)
            (λ g c. tells place packet heard (ap is_hello is) g
            (subst (λ (b : PacketBody). Contains (headers_told b) g) (sym is) c))
            (own_of start.router.area so.area)
            (λ m at. (its_router m at, empty_before so.area m at, has_link m at)) h;
        acknowledgment = λ place packet headers heard is so h.
            parts.acknowledgments key moment number HasLink IsIts Base place headers (outcome start)
            (λ g c. tells place packet heard (ap is_hello is) g
            (subst (λ (b : PacketBody). Contains (headers_told b) g) (sym is) c))
            (one_of (AreOfTheDatabase start.router.area.database) start.router.area
            (facts so.area).entries) h;
        requested = λ place keys o t area h. parts.sent key moment number HasLink IsIts Base
            (sends_at place (map Content.Updates (requested_lsas moment o.area.database keys))) o h;
        mismatch = λ place o t area h. parts.mismatches key moment number HasLink IsIts Base place o
            h;
        forgets = λ r o area h. h;
        inactive = λ o t area h. parts.inactive key moment number HasLink IsIts Base o h;
        again = λ o t area h. parts.agains key moment number HasLink IsIts Base o h;
        acknowledges = λ o t area h. parts.acknowledges key moment number HasLink IsIts Base o h;
        hellos = λ o t area h. parts.hellos_sent key moment number HasLink IsIts Base o h;
        link_down = λ place o t area h. parts.down key moment number HasLink IsIts Base place o h;
        loaded = λ o t area h. parts.loaded key moment number HasLink IsIts Base o h;
        requests = λ o t area h. parts.requests key moment number HasLink IsIts Base o h;
        removes = λ o t area h. parts.removes key moment number HasLink IsIts Base o h;
        stays = λ o t area h. h;
      }

      -- ---- the complete event

      pub ends : (outs : List Out) (new : Router) (happens : Happens old moment event outs new)
          → IsConsistent old → WasSettled → Stands (outcome (end_event old moment happens.after))
      ends outs new happens order was =
          event_kept_too (in_order old.id) (order_kept old.id) Lately Lately old moment event
          each_part happens.after (order_brings old event) happens.own
          (order_begun old moment order) (started (read old order.retransmissions).keys was)
