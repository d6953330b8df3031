-- What a router says about LSAs at an interface, and still has to say: what is sent there, delayed
-- acknowledgments, what is to be described, and the last Database Description, which may be sent
-- again. Each step of the neighbor keeps a property of it.
use Rattle.std.proofs.Common.{◌≡◌, ℕ, zero, suc, ◌+◌, ◌%◌, ◌^◌, Bool, true, false, cond, not, ◌||◌}
use Rattle.std.proofs.Common.{◌⊎◌, inl, inr, List, [], ◌∷◌, map, take, drop, Option, None, Some}
use Rattle.std.specs.Prelude.{nat_lt}
use Rattle.std.specs.FinMap as finite
use Rattle.std.specs.List.{AllByRecursion, filter}
use Rattle.words.specs.Constants.{max_headers_described}
use Rattle.words.specs.declared.key.Key.{Key}
use Rattle.lsdb.specs.Copies.{Database, DatabaseCopy, is_aged_out, list_entry_of}
use Rattle.lsdb.specs.Headers.{Header, Lsa, key_of, lsa_key}
use Rattle.lsdb.specs.Instances.{ListEntry, listed_header_now, instance_of}
use Rattle.lsdb.specs.Order.{is_max_age}
use Rattle.lsdb.specs.declared.order.Instance.{Instance}
use Rattle.packet.specs.declared.model.Description.{Description}
use Rattle.adjacency.specs.declared.state.NeighborState.{NeighborState}
use Rattle.adjacency.specs.declared.state.NeighborState.TheVariants.{Init, ExStart, Exchange}
use Rattle.adjacency.specs.declared.state.NeighborState.TheVariants.{Loading, Full}
use Rattle.adjacency.specs.Adjacencies.{after_hello, after_inactivity_timer, enter_exstart}
use Rattle.adjacency.specs.Adjacencies.{loading_done_in, mismatch_step}
use Rattle.adjacency.specs.Adjacencies.{one_way_received, requests_nothing, two_way_received}
use Rattle.adjacency.specs.Adjacencies.{two_way_received_in, with_hello_heard}
use Rattle.adjacency.specs.Contents.{Content, Step, no_sends, then_}
use Rattle.adjacency.specs.Descriptions.{Verdict, accept, act, after_description, announced_more}
use Rattle.adjacency.specs.Descriptions.{as_received, exchange_done, in_state, send_description}
use Rattle.adjacency.specs.Descriptions.{is_over_for, knows_types, master_goes_on, process}
use Rattle.adjacency.specs.Descriptions.{negotiated_neighbor, repeat, slave_replies, verdict}
use Rattle.adjacency.specs.Descriptions.{with_requests}
use Rattle.adjacency.specs.Floods.{flooding, satisfies_request, request_of}
use Rattle.adjacency.specs.Floods.{without_satisfied_request}
use Rattle.adjacency.specs.Neighbors.{Neighbor, is_exchange_or_later}
use Rattle.adjacency.specs.Requests.{request_next, without_request}
use Rattle.adjacency.specs.Retransmissions.{acknowledged_neighbor, after_acknowledgment}
use Rattle.adjacency.specs.Retransmissions.{describe_again, is_entry, remove_retransmission}
use Rattle.adjacency.specs.Retransmissions.{request_again}
use Rattle.adjacency.proofs.Kept.{chosen}
use Rattle.adjacency.proofs.Maps.{AllIn, OfEntry, entries_in, made_in, none_in}
use Rattle.received.specs.Holds.{Holds}
use Rattle.received.specs.Links.{Link}
use Rattle.received.specs.AreaStates.{Send}
use Rattle.received.proofs.Roomy.{joined}
use Rattle.event_rules.specs.Endings.{loading_done_on}
use Rattle.event_rules.specs.InstanceIdentities.{InstanceIdentity, identity_of_header}
use Rattle.event_rules.specs.InstanceIdentities.{identity_of_lsa}
use Rattle.event_rules.specs.Routers.{Router}
use Rattle.event_rules.specs.Ticks.{settled_exchange}
use Rattle.invariants.proofs.Flooding.{flooding_so}
use Rattle.invariants.proofs.Known.{each_all}
use Rattle.invariants.proofs.Retransmitted.{if_so}
use Rattle.agreement_laws.specs.SaidIsHeld.{IsToDescribe, Waits, young}
use Rattle.agreement_laws.proofs.AtInterface as interface
use Rattle.agreement_laws.proofs.Steps as steps

-- a property of instances and their keys
abbrev pub Truth : Type 1
Truth = Key → Instance → Type 0

module _ (old : Router) where
  abbrev pub OfReceived : Truth → ℕ → Header → Type 0
  OfReceived T number h = Waits number h old.area.links ⊎ T (key_of h) (instance_of h)

  abbrev pub OfAcknowledged : Truth → ℕ → Header → Type 0
  OfAcknowledged T number h = OfReceived T number h
      ⊎ ((finite.get old.area.database (key_of h) ≡ None) × (is_max_age h.age ≡ true))

  abbrev pub OfNamed : Truth → ℕ → InstanceIdentity → Type 0
  OfNamed T number name = IsToDescribe number name old.area.links ⊎ T name.key (young name)

  abbrev pub OfDescription : Truth → ℕ → Description → Type 0
  OfDescription T number d = AllByRecursion
      (λ (h : Header). OfNamed T number (identity_of_header h)) d.headers

  abbrev pub OfContent : Truth → ℕ → Content → Type 0
  OfContent T number (Content.SendsHello hello) = Unit {0}
  OfContent T number (Content.Describes d) = OfDescription T number d
  OfContent T number (Content.Requests keys) = Unit {0}
  OfContent T number (Content.Updates lsa) = T (lsa_key lsa) (instance_of lsa.header)
  OfContent T number (Content.Acknowledges h) = OfAcknowledged T number h

  abbrev pub OfSend : Truth → Send → Type 0
  OfSend T s = OfContent T s.interface s.content

  -- ---- what is still to be said

  abbrev pub OfWaiting : Truth → ℕ → Key → Header → Type 0
  OfWaiting T number key h = OfReceived T number h

  abbrev pub OfListed : Truth → ℕ → Key → ListEntry → Type 0
  OfListed T number key l = OfNamed T number (identity_of_header l.header)

  abbrev pub OfLast : Truth → ℕ → Option Description → Type 0
  OfLast T number None = Unit {0}
  OfLast T number (Some d) = OfDescription T number d

  pub record OfNeighbor (T : Truth) (number : ℕ) (n : Neighbor) : Type 0 where
    pub summary : AllIn (OfListed T number) n.summary
    pub last : OfLast T number n.described

  pub record OfLink (T : Truth) (number : ℕ) (link : Link) : Type 0 where
    pub acknowledgments : AllIn (OfWaiting T number) link.acknowledgments
    pub neighbor : Holds (OfNeighbor T number) link.neighbor

  -- ---- if more is known

  module _ (T U : Truth) (more : (key : Key) (i : Instance) → T key i → U key i) where
    received_more : (number : ℕ) (h : Header) → OfReceived T number h → OfReceived U number h
    received_more number h (inl waited) = inl waited
    received_more number h (inr so) = inr (more (key_of h) (instance_of h) so)

    acknowledged_more : (number : ℕ) (h : Header) → OfAcknowledged T number h
        → OfAcknowledged U number h
    acknowledged_more number h (inl received) = inl (received_more number h received)
    acknowledged_more number h (inr nothing) = inr nothing

    named_more : (number : ℕ) (name : InstanceIdentity) → OfNamed T number name
        → OfNamed U number name
    named_more number name (inl left) = inl left
    named_more number name (inr so) = inr (more name.key (young name) so)

    description_more : (number : ℕ) (d : Description) → OfDescription T number d
        → OfDescription U number d
    description_more number d h =
        each_all (λ (x : Header). OfNamed T number (identity_of_header x))
        (λ (x : Header). OfNamed U number (identity_of_header x))
        (λ x so. named_more number (identity_of_header x) so) d.headers h

    pub content_more : (number : ℕ) (c : Content) → OfContent T number c → OfContent U number c
    content_more number (Content.SendsHello hello) h = tt
    content_more number (Content.Describes d) h = description_more number d h
    content_more number (Content.Requests keys) h = tt
    content_more number (Content.Updates lsa) h = more (lsa_key lsa) (instance_of lsa.header) h
    content_more number (Content.Acknowledges header) h = acknowledged_more number header h

    last_more : (number : ℕ) (o : Option Description) → OfLast T number o → OfLast U number o
    last_more number None h = tt
    last_more number (Some d) h = description_more number d h

    neighbor_more : (number : ℕ) (o : Option Neighbor) → Holds (OfNeighbor T number) o
        → Holds (OfNeighbor U number) o
    neighbor_more number None h = tt
    neighbor_more number (Some n) h = record {
      summary = λ (key : Key). if_so (OfListed T number) (OfListed U number) key
          (finite.get n.summary key) (λ l so. named_more number (identity_of_header l.header) so)
          (h.summary key);
      last = last_more number n.described h.last;
    }

    pub link_more : (number : ℕ) (link : Link) → OfLink T number link → OfLink U number link
    link_more number link h = record {
      acknowledgments = λ (key : Key).
          if_so (OfWaiting T number) (OfWaiting U number) key (finite.get link.acknowledgments key)
          (λ x so. received_more number x so) (h.acknowledgments key);
      neighbor = neighbor_more number link.neighbor h.neighbor;
    }

  -- ---- steps of the neighbor

  module _ (T : Truth) (number : ℕ) where
    pub record OfStep (s : Step) : Type 0 where
      pub neighbor : OfNeighbor T number s.neighbor
      pub sends : AllByRecursion (OfContent T number) s.sends

    pub quiet_step : (n : Neighbor) → OfNeighbor T number n → OfStep (no_sends n)
    quiet_step n h = record { neighbor = h; sends = tt }

    then_step : (s : Step) (next : Neighbor → Step) → OfStep s
        → ((n : Neighbor) → OfNeighbor T number n → OfStep (next n)) → OfStep (then_ s next)
    then_step s next h each =
        let u = each s.neighbor h.neighbor in
        record {
          neighbor = u.neighbor;
          sends = joined (OfContent T number) s.sends (next s.neighbor).sends h.sends u.sends;
        }

    -- ---- attempts and Hellos

    begun : (moment : ℕ) (n : Neighbor) → OfStep (enter_exstart moment n)
    begun moment n = record {
      neighbor = record { summary = none_in (OfListed T number); last = tt };
      sends = (tt, tt);
    }

    pub mismatched : (moment : ℕ) (n : Neighbor) → OfNeighbor T number n
        → OfStep (mismatch_step moment n)
    mismatched moment n h = chosen OfStep (is_exchange_or_later n.state) (enter_exstart moment n)
        (no_sends n) (λ e. begun moment n) (λ e. quiet_step n h)

    named_in : (s : NeighborState) (moment : ℕ) (n : Neighbor) → OfNeighbor T number n
        → OfStep (two_way_received_in s moment n)
    named_in Init moment n h = begun moment n
    named_in ExStart moment n h = quiet_step n h
    named_in Exchange moment n h = quiet_step n h
    named_in Loading moment n h = quiet_step n h
    named_in Full moment n h = quiet_step n h

    named : (moment : ℕ) (n : Neighbor) → OfNeighbor T number n → OfStep (two_way_received moment n)
    named moment n h = named_in n.state moment n h

    heard : (from moment : ℕ) (o : Option Neighbor) → Holds (OfNeighbor T number) o
        → OfNeighbor T number (with_hello_heard from moment o)
    heard from moment None h = record { summary = none_in (OfListed T number); last = tt }
    heard from moment (Some n) h = record { summary = h.summary; last = h.last }

    pub helloed : (moment from : ℕ) (names : Bool) (o : Option Neighbor)
        → Holds (OfNeighbor T number) o → OfStep (after_hello moment from names o)
    helloed moment from true o h = named moment (with_hello_heard from moment o)
        (heard from moment o h)
    helloed moment from false o h = quiet_step (one_way_received (with_hello_heard from moment o))
        (record { summary = none_in (OfListed T number); last = tt })

    -- ---- Database Descriptions

    taken_all : {X : Type 0} (P : X → Type 0) (k : ℕ) (xs : List X) → AllByRecursion P xs
        → AllByRecursion P (take k xs)
    taken_all P zero xs h = tt
    taken_all P (suc k) [] h = tt
    taken_all P (suc k) (x ∷ xs) h = (h.0, taken_all P k xs h.1)

    dropped_all : {X : Type 0} (P : X → Type 0) (k : ℕ) (xs : List X) → AllByRecursion P xs
        → AllByRecursion P (drop k xs)
    dropped_all P zero xs h = h
    dropped_all P (suc k) [] h = tt
    dropped_all P (suc k) (x ∷ xs) h = dropped_all P k xs h.1

    headers_so : (moment : ℕ) (es : List (Key × ListEntry))
        → AllByRecursion (OfEntry (OfListed T number)) es
        → AllByRecursion (λ (h : Header). OfNamed T number (identity_of_header h))
        (map (λ (e : Key × ListEntry). listed_header_now moment e.1) es)
    headers_so moment [] h = tt
    headers_so moment (e ∷ es) h = (h.0, headers_so moment es h.1)

    described : (moment : ℕ) (n : Neighbor) → OfNeighbor T number n
        → OfStep (send_description moment n)
    described moment n h =
        let entries : AllByRecursion (OfEntry (OfListed T number)) (finite.entries n.summary) =
        entries_in (OfListed T number) n.summary h.summary in
        let headers = headers_so moment (take max_headers_described (finite.entries n.summary))
        (taken_all (OfEntry (OfListed T number)) max_headers_described
        (finite.entries n.summary) entries) in
        record {
          neighbor = record {
            summary = made_in (OfListed T number)
                (drop max_headers_described (finite.entries n.summary))
                (dropped_all (OfEntry (OfListed T number)) max_headers_described
                (finite.entries n.summary) entries);
            last = headers;
          };
          sends = (headers, tt);
        }

    repeat_of : (o : Option Description) (moment : ℕ) (n : Neighbor)
        → OfNeighbor T number (record n {
          described = o;
        }) → OfStep (repeat moment (record n { described = o }))
    repeat_of None moment n h = quiet_step (record n { described = None }) h
    repeat_of (Some d) moment n h = record {
      neighbor = record { summary = h.summary; last = h.last };
      sends = (h.last, tt);
    }

    repeated : (moment : ℕ) (n : Neighbor) → OfNeighbor T number n → OfStep (repeat moment n)
    repeated moment n h = repeat_of n.described moment n h

    done : (moment : ℕ) (n : Neighbor) → OfNeighbor T number n
        → OfNeighbor T number (exchange_done moment n)
    done moment n h = record { summary = h.summary; last = h.last }

    gone_on : (moment : ℕ) (d : Description) (n : Neighbor) → OfNeighbor T number n
        → OfStep (master_goes_on moment d n)
    gone_on moment d n h =
        let next : Neighbor = record n { sequence = (n.sequence + 1) % 2 ^ 32 } in
        chosen OfStep (announced_more n.described || d.more) (send_description moment next)
        (no_sends (exchange_done moment n))
        (λ e. described moment next (record {
          summary = h.summary;
          last = h.last;
        }))
        (λ e. quiet_step (exchange_done moment n) (done moment n h))

    replied : (moment : ℕ) (d : Description) (n : Neighbor) → OfNeighbor T number n
        → OfStep (slave_replies moment d n)
    replied moment d n h =
        let next : Neighbor = record n { sequence = d.sequence } in
        let reply : Step = send_description moment next in
        let so : OfStep reply = described moment next (record {
          summary = h.summary;
          last = h.last;
        }) in
        chosen OfStep (announced_more reply.neighbor.described || d.more) reply (record reply {
          neighbor = exchange_done moment reply.neighbor;
        })
        (λ e. so) (λ e. record {
          neighbor = done moment reply.neighbor so.neighbor;
          sends = so.sends;
        })

    accepted : (moment : ℕ) (db : Database) (d : Description) (n : Neighbor) → OfNeighbor T number n
        → OfStep (accept moment db d n)
    accepted moment db d n h =
        let m : Neighbor = with_requests moment db d.headers (record n {
          received = Some (as_received d);
        }) in
        let so : OfNeighbor T number m = record { summary = h.summary; last = h.last } in
        chosen OfStep (knows_types d) (cond m.is_master (master_goes_on moment d m)
        (slave_replies moment d m)) (mismatch_step moment n)
        (λ e. chosen OfStep m.is_master (master_goes_on moment d m) (slave_replies moment d m)
        (λ e. gone_on moment d m so) (λ e. replied moment d m so))
        (λ e. mismatched moment n h)

    -- all copies have the property
    abbrev pub OfCopies : Database → Type 0
    OfCopies db = AllIn (λ (key : Key) (c : DatabaseCopy). OfNamed T number (identity_of_lsa c.lsa))
        db

    listed_so : (moment : ℕ) (es : List (Key × DatabaseCopy))
        → AllByRecursion (OfEntry (λ (key : Key) (c : DatabaseCopy). OfNamed T number
        (identity_of_lsa c.lsa))) es → AllByRecursion (OfEntry (OfListed T number))
        (map (λ (e : Key × DatabaseCopy). (e.0, list_entry_of moment e.1))
        (filter (λ e. not (is_aged_out moment e.1)) es))
    listed_so moment [] h = tt
    listed_so moment (e ∷ es) h = by_test (not (is_aged_out moment e.1)) (listed_so moment es h.1)
      where
        by_test : (b : Bool) → AllByRecursion (OfEntry (OfListed T number))
            (map (λ (x : Key × DatabaseCopy). (x.0, list_entry_of moment x.1))
            (filter (λ x. not (is_aged_out moment x.1)) es))
            → AllByRecursion (OfEntry (OfListed T number))
            (map (λ (x : Key × DatabaseCopy). (x.0, list_entry_of moment x.1))
            (cond b (e ∷ filter (λ x. not (is_aged_out moment x.1)) es)
            (filter (λ x. not (is_aged_out moment x.1)) es)))
        by_test true rest = (h.0, rest)
        by_test false rest = rest

    negotiated : (is_master : Bool) (sequence moment : ℕ) (db : Database) (n : Neighbor)
        → OfCopies db → OfNeighbor T number n
        → OfNeighbor T number (negotiated_neighbor is_master sequence moment db n)
    negotiated is_master sequence moment db n copies h = record {
      summary = made_in (OfListed T number) _
          (listed_so moment (finite.entries db)
          (entries_in (λ (key : Key) (c : DatabaseCopy). OfNamed T number
          (identity_of_lsa c.lsa)) db copies));
      last = h.last;
    }

    acted : (v : Verdict) (moment : ℕ) (db : Database) (d : Description) (n : Neighbor)
        → OfCopies db → OfNeighbor T number n → OfStep (act v moment db d n)
    acted Verdict.Discarded moment db d n copies h = quiet_step n h
    acted Verdict.NegotiatedAsSlave moment db d n copies h =
        accepted moment db d (negotiated_neighbor false d.sequence moment db n)
        (negotiated false d.sequence moment db n copies h)
    acted Verdict.NegotiatedAsMaster moment db d n copies h =
        accepted moment db d (negotiated_neighbor true n.sequence moment db n)
        (negotiated true n.sequence moment db n copies h)
    acted Verdict.Repeated moment db d n copies h = repeated moment n h
    acted Verdict.Accepted moment db d n copies h = accepted moment db d n h
    acted Verdict.Mismatch moment db d n copies h = mismatched moment n h

    judged : (own moment : ℕ) (db : Database) (d : Description) → OfCopies db → (n : Neighbor)
        → OfNeighbor T number n → OfStep (process own moment db d n)
    judged own moment db d copies n h = acted (verdict own n d) moment db d n copies h

    in_state_so : (s : NeighborState) (own moment : ℕ) (db : Database) (d : Description)
        (n : Neighbor) → OfCopies db → OfNeighbor T number n → OfStep (in_state s own moment db d n)
    in_state_so Init own moment db d n copies h =
        then_step (two_way_received moment n) (process own moment db d) (named moment n h)
        (judged own moment db d copies)
    in_state_so ExStart own moment db d n copies h = judged own moment db d copies n h
    in_state_so Exchange own moment db d n copies h = judged own moment db d copies n h
    in_state_so Loading own moment db d n copies h = judged own moment db d copies n h
    in_state_so Full own moment db d n copies h = judged own moment db d copies n h

    pub after_one : (own moment : ℕ) (db : Database) (d : Description) → OfCopies db
        → (n : Neighbor) → OfNeighbor T number n → OfStep (after_description own moment db d n)
    after_one own moment db d copies n h =
        chosen OfStep (nat_lt 8192 d.mtu) (no_sends n) (in_state n.state own moment db d n)
        (λ e. quiet_step n h) (λ e. in_state_so n.state own moment db d n copies h)

    -- ---- flooding and acknowledgments

    pub flooded_so : (moment : ℕ) (from : Bool) (lsa : Lsa) (n : Neighbor)
        → T (lsa_key lsa) (instance_of lsa.header) → OfNeighbor T number n
        → OfStep (flooding moment from lsa n)
    flooded_so moment from lsa n so h =
        flooding_so OfStep moment n from lsa
        (record { neighbor = record { summary = met.summary; last = met.last }; sends = (so, tt) })
        (quiet_step (remove_retransmission (lsa_key lsa) (without_satisfied_request moment lsa n))
        (record { summary = met.summary; last = met.last })) (quiet_step n h)
      where
        met : OfNeighbor T number (without_satisfied_request moment lsa n)
        met =
            chosen (OfNeighbor T number) (satisfies_request moment lsa (request_of n lsa))
            (without_request (lsa_key lsa) n) n (λ e. record {
              summary = h.summary;
              last = h.last;
            }) (λ e. h)

    pub acknowledged : (moment : ℕ) (headers : List Header) (n : Neighbor) → OfNeighbor T number n
        → OfNeighbor T number (after_acknowledgment moment headers n)
    acknowledged moment [] n h = h
    acknowledged moment (x ∷ headers) n h =
        acknowledged moment headers (acknowledged_neighbor moment n x)
        (chosen (OfNeighbor T number) (is_entry moment x (finite.get n.retransmissions (key_of x)))
        (remove_retransmission (key_of x) n) n (λ e. record {
          summary = h.summary;
          last = h.last;
        }) (λ e. h))

    -- ---- Link State Requests, and what a Tick retransmits

    pub asked : (moment : ℕ) (n : Neighbor) → OfNeighbor T number n → OfStep (request_next moment n)
    asked moment n h =
        steps.request_so OfStep moment n (record {
          neighbor = record { summary = h.summary; last = h.last };
          sends = (tt, tt);
        }) (quiet_step n h)

    described_again : (moment interval : ℕ) (n : Neighbor) → OfNeighbor T number n
        → OfStep (describe_again moment interval n)
    described_again moment interval n h =
        steps.describe_again_so OfStep moment n interval (repeated moment n h) (quiet_step n h)

    requested_again : (moment interval : ℕ) (n : Neighbor) → OfNeighbor T number n
        → OfStep (request_again moment interval n)
    requested_again moment interval n h =
        steps.request_again_so OfStep moment n interval (record {
          neighbor = record { summary = h.summary; last = h.last };
          sends = (tt, tt);
        }) (quiet_step n h)

    pub both_again : (moment interval : ℕ) (n : Neighbor) → OfNeighbor T number n
        → OfStep (then_ (describe_again moment interval n) (request_again moment interval))
    both_again moment interval n h = then_step (describe_again moment interval n)
        (request_again moment interval) (described_again moment interval n h)
        (requested_again moment interval)

    -- ---- by each link itself

    filled_in : (s : NeighborState) (n : Neighbor) → OfNeighbor T number n
        → OfNeighbor T number (loading_done_in s n)
    filled_in Init n h = h
    filled_in ExStart n h = h
    filled_in Exchange n h = h
    filled_in Loading n h = chosen (OfNeighbor T number) (requests_nothing n) (record n {
      state = Full;
    }) n (λ e. record { summary = h.summary; last = h.last }) (λ e. h)
    filled_in Full n h = h

    pub filled : (o : Option Neighbor) → Holds (OfNeighbor T number) o
        → Holds (OfNeighbor T number) (loading_done_on o)
    filled o h = interface.loaded (Holds (OfNeighbor T number)) (λ n so. filled_in n.state n so) o h

    pub run_out_so : (moment dead : ℕ) (o : Option Neighbor) → Holds (OfNeighbor T number) o
        → Holds (OfNeighbor T number) (settled_exchange moment dead
        (after_inactivity_timer moment dead o))
    run_out_so moment dead o h =
        interface.inactive (Holds (OfNeighbor T number)) tt moment dead
        (λ n so. chosen (OfNeighbor T number) (is_over_for moment dead n.exchanged) (record n {
          described = None;
        }) n (λ e. record { summary = so.summary; last = tt }) (λ e. so)) o h
