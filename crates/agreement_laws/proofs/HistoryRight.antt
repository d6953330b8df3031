-- The events of the right router, with the Router ID 2: it sends a Hello; an hour later, when its
-- own router-LSA has been removed at MaxAge, it receives one and exchanges Database Descriptions as
-- the master.
use Rattle.std.proofs.Common.{◌≡◌, ℕ, Bool, true, false, cond, not, ◌&&◌, ◌||◌, List, [], ◌∷◌}
use Rattle.std.proofs.Common.{length, map, take, drop, None, Some, is_some, refl, sym, ap, ◌∙◌}
use Rattle.std.specs.Prelude.{◌==◌}
use Rattle.std.specs.FinMap as finite
use Rattle.std.specs.FinSet as set
use Rattle.std.specs.List.{filter, fold}
use Rattle.words.specs.declared.key.Key.{Key}
use Rattle.lsa.specs.Origination.{sealed_lsa}
use Rattle.lsdb.specs.Copies.{Database, DatabaseCopy, is_aged_out, list_entry_of, lsa_now}
use Rattle.lsdb.specs.Copies.{newer_than_copy}
use Rattle.lsdb.specs.Headers.{Header, key_of, lsa_key}
use Rattle.lsdb.specs.Instances.{ListEntry, listed_header_now}
use Rattle.lsdb.specs.Keys.{ByKey, key_cmp}
use Rattle.lsdb.proofs.Keys.{keys_total}
use Rattle.packet.specs.declared.model.PacketBody.TheVariants as body
use Rattle.packet.specs.declared.model.Description.{Description}
use Rattle.packet.specs.declared.model.Packet.{Packet}
use Rattle.adjacency.specs.declared.state.NeighborState.TheVariants.{Exchange}
use Rattle.adjacency.specs.Adjacencies.{enter_exstart, initial_description, mismatch_step}
use Rattle.adjacency.specs.Contents.{Content, Describes, Step, no_sends}
use Rattle.adjacency.specs.Contents as contents
use Rattle.adjacency.specs.Descriptions.{as_received, knows_types}
use Rattle.adjacency.specs.Neighbors.{Neighbor, fresh}
use Rattle.adjacency.specs.Requests.{next_request}
use Rattle.received.specs.AreaStates.{AreaState, one_neighbor}
use Rattle.event_rules.specs.Endings.{end_event, loading_done, postpone_router_lsa, remove_aged}
use Rattle.event_rules.specs.Endings.{flood_if_aged, start_event, stays}
use Rattle.event_rules.specs.EventState.{EventState, flood_from_nobody, on_area, on_router}
use Rattle.event_rules.specs.Hellos.{hello_on}
use Rattle.event_rules.specs.Packets.{after_packet}
use Rattle.event_rules.specs.Routers.{Router}
use Rattle.event_rules.specs.Ticks.{after_tick}
use Rattle.agreement_laws.proofs.WorkedEnds.{begins, describes_not, describes_not_later, differ_not}
use Rattle.agreement_laws.proofs.WorkedEnds.{ends_by, last, no_time_passes}
use Rattle.agreement_laws.proofs.HistoryStart.{begun, copy, database, description_of, entries_of}
use Rattle.agreement_laws.proofs.HistoryStart.{leaves_old, left, link_with, lsa, no_entries, old}
use Rattle.agreement_laws.proofs.HistoryStart.{retained, router_with, stays_young, young}
use Rattle.agreement_laws.proofs.HistoryTicks.{tick, ticked, times}
use Rattle.agreement_laws.proofs.HistoryLeft.{a, b, init, last_one, listed, reply}

-- ---- a Tick

abbrev pub greets_first : EventState
greets_first = ticked 2 b None

pub greets : greets_first ≡ after_tick 0 (start_event 0 (begun 2 b))
greets = sym (tick 2 b None refl refl refl)

pub greets_end : end_event (begun 2 b) 0 greets_first ≡ greets_first
greets_end =
    ends_by (begun 2 b) 0 greets_first refl refl
    ∙ ap (λ (db : Database). record {
      router = router_with 2 (link_with b None (Some 0)) db (times 2) 0;
      sends = greets_first.sends;
    })
    (retained 2 b (stays 0 (record {
      links = link_with b None (Some 0) ∷ [];
      database = database 2 b;
    }))
    (stays_young 2 b (link_with b None (Some 0) ∷ [])))

-- ---- an hour later a Hello that lists it

abbrev pub its_hello : Packet
its_hello = record { router = 1; body = body.Hello (hello_on (link_with a (Some init) None)) }

abbrev pub opener : Neighbor
opener = (enter_exstart 3600 (fresh 1 None 3600)).neighbor

abbrev opened_with : Database → ℕ → EventState
opened_with db moment = record {
  router = router_with 2 (link_with b (Some opener) (Some 0)) db (times 2) moment;
  sends = record { interface = 1; content = Content.Describes (initial_description 3600) } ∷ [];
}

abbrev pub opened : EventState
opened = opened_with (database 2 b) 0

abbrev pub opened_at_end : EventState
opened_at_end = opened_with finite.empty 3600

ages : start_event 3600 greets_first.router ≡ record { router = greets_first.router; sends = [] }
ages =
    let o : AreaState = record { area = greets_first.router.area; sends = [] } in
    ap (λ (es : List (Key × DatabaseCopy)). let q : AreaState = fold (flood_if_aged 0 3600) o es in
    record {
      router = record greets_first.router { area = q.area };
      sends = q.sends;
    })
    (entries_of 2 b)
    ∙ (λ i. let q : AreaState = cond (old 2 b i && not (young 2 b i))
    (flood_from_nobody 3600 (lsa_now 3600 (copy 2 b)) o) o in record {
      router = record greets_first.router { area = q.area };
      sends = q.sends;
    })

pub opens : opened ≡ after_packet 3600 1 its_hello (start_event 3600 greets_first.router)
opens = sym (ap (after_packet 3600 1 its_hello) ages)

pub opens_end : end_event greets_first.router 3600 opened ≡ opened_at_end
opens_end =
    ends_by greets_first.router 3600 opened refl refl
    ∙ ap (λ (db : Database). opened_with db 3600)
    (left 2 b (stays 3600 (record {
      links = link_with b (Some opener) (Some 0) ∷ [];
      database = database 2 b;
    }))
    (leaves_old 2 b (link_with b (Some opener) (Some 0) ∷ [])
    (λ i. is_some (finite.get-empty {X = ListEntry} key_cmp (lsa_key (lsa 2 b)) i) || false)))

-- ---- the reply

abbrev pub reply_packet : Packet
reply_packet = record { router = 1; body = body.Description reply }

abbrev its_header : Header
its_header = listed_header_now 0 listed

knows : knows_types reply ≡ true
unfolding sealed_lsa
knows = refl

abbrev asked : Bool → ByKey ListEntry
asked wanted = cond wanted (finite.insert finite.empty (key_of its_header) (record {
  header = its_header;
  at = 3600;
})) finite.empty

abbrev next_one : List (Key × ListEntry) → ℕ → Description
next_one es count = description_of true 3601 3600 es count

-- as the master, with these lists, by whether the LSA is wanted, and with these entries
abbrev leads_with : ByKey ListEntry → Bool → List (Key × ListEntry) → ℕ → Step
leads_with retransmissions wanted es count = record {
  neighbor = record opener {
    state = Exchange;
    is_master = true;
    sequence = 3601;
    summary = finite.from_entries (drop 408 es);
    retransmissions = retransmissions;
    retransmitted_at = 3600;
    received = Some (as_received reply);
    requests = asked wanted;
    described = Some (next_one es count);
    described_at = 3600;
  };
  sends = Describes (next_one es count) ∷ [];
}

abbrev led_by : Step → EventState
led_by s = on_area (λ o. one_neighbor 3600 1 (λ (m : Neighbor). s) o) (record {
  router = opened_at_end.router;
  sends = [];
})

listed_none : (test : DatabaseCopy → Bool)
    → finite.from_entries {R = key_cmp}
    (map (λ (e : Key × DatabaseCopy). (e.0, list_entry_of 3600 e.1))
    (filter (λ e. test e.1) (finite.entries
    (finite.empty {X = DatabaseCopy} {R = key_cmp})))) ≡ finite.empty
listed_none test = ap (λ (es : List (Key × DatabaseCopy)). finite.from_entries {R = key_cmp}
    (map (λ (e : Key × DatabaseCopy). (e.0, list_entry_of 3600 e.1)) (filter (λ e. test e.1) es)))
    (no_entries DatabaseCopy)

abbrev pub leads : EventState
leads = led_by (leads_with finite.empty true [] 0)

pub leads_on : leads ≡ after_packet 3600 1 reply_packet (start_event 3600 opened_at_end.router)
leads_on =
    sym
    (ap (after_packet 3600 1 reply_packet)
    (begins 3600 opened_at_end.router
    (no_time_passes 3600 (finite.entries (finite.empty {X = DatabaseCopy} {R = key_cmp}))))
    ∙ (λ i.
    let young_ones : ByKey ListEntry = listed_none (λ c. not (is_aged_out 3600 c)) i in
    let aged_ones : ByKey ListEntry = listed_none (is_aged_out 3600) i in
    led_by
    (cond (knows i) (leads_with aged_ones
    (newer_than_copy 3600 its_header
    (finite.get-empty {X = DatabaseCopy} key_cmp (key_of its_header) i))
    (finite.entries young_ones) (finite.len young_ones))
    (mismatch_step 3600 (record opener {
      state = Exchange;
      is_master = true;
      summary = young_ones;
      retransmissions = aged_ones;
      retransmitted_at = 3600;
    }))))
    ∙ (λ i. led_by (leads_with finite.empty true (no_entries ListEntry i)
    (finite.len-empty key_cmp ListEntry i))))

abbrev pub asking_of : List Key → Step
asking_of keys =
    let m : Neighbor = (leads_with finite.empty true [] 0).neighbor in
    record {
      neighbor = record m {
        outstanding = set.from_list keys;
        requested_at = 3600;
      };
      sends = contents.Requests keys
          ∷ [];
    }

abbrev asking_all : List Key → EventState
asking_all keys = record {
  router = router_with 2 (link_with b (Some (asking_of keys).neighbor) (Some 0)) finite.empty
      (times 2) 3600;
  sends = record {
    interface = 1;
    content = Content.Describes last_one;
  } ∷ record {
    interface = 1;
    content = Content.Requests keys;
  } ∷ [];
}

abbrev pub led : EventState
led = asking_all (key_of its_header ∷ [])

pub leads_end : end_event opened_at_end.router 3600 leads ≡ led
leads_end =
    let m : Neighbor = (leads_with finite.empty true [] 0).neighbor in
    let later : EventState → EventState =
    λ q. last 3600 (postpone_router_lsa q.router.area.links (loading_done q)) in
    let one : finite.entries m.requests ≡ (
      key_of its_header,
      record {
        header = its_header;
        at = 3600;
      },
    ) ∷ [] =
    finite.entries-insert keys_total finite.empty (key_of its_header) (record {
      header = its_header;
      at = 3600;
    })
    ∙ ap (finite.put key_cmp (key_of its_header) (record {
      header = its_header;
      at = 3600;
    })) (no_entries ListEntry) in
    let some : (finite.len m.requests == 0) ≡ false =
    ap (λ n. n == 0) (finite.len-entries m.requests ∙ ap length one) in
    ap later (describes_not opened_at_end.router.area.links 3600 leads
    (differ_not opened_at_end.router.area.links leads.router.area.links refl))
    ∙ ap (last 3600) (describes_not_later leads)
    ∙ (λ i. on_router (λ (r : Router). record r { moment = 3600 })
    (on_area (λ o. remove_aged 3600 (one_neighbor 3600 1
    (λ (x : Neighbor). cond (true && not (some i) && set.len-empty key_cmp i == 0)
    (asking_of (next_request m)) (no_sends m)) o)) leads))
    ∙ ap (λ (es : List (Key × ListEntry)). asking_all (take 680 (map (λ e. e.0) es))) one
