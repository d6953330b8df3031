-- An adjacency is formed, a Database Description is repeated, and the adjacency starts over.
use Rattle.std.proofs.Common.{◌≡◌, ℕ, ◌%◌, ◌^◌, ◌==◌, true, false, cond, not, ◌&&◌, ◌||◌, List, []}
use Rattle.std.proofs.Common.{◌∷◌, None, Some, refl, ap, ◌∙◌, nat_lt}
use Rattle.std.specs.FinSet as set
use Rattle.packet.specs.declared.model.PacketBody.TheVariants as body
use Rattle.packet.specs.declared.model.Description.{Description}
use Rattle.packet.specs.declared.model.Hello.{Hello}
use Rattle.packet.specs.declared.model.Packet.{Packet}
use Rattle.packet.proofs.Whole.{one_packet}
use Rattle.adjacency.specs.Adjacencies as adjacencies
use Rattle.adjacency.specs.Adjacencies.{next_dd_sequence_start, initial_description}
use Rattle.adjacency.specs.Adjacencies.{requests_nothing, enter_exstart}
use Rattle.adjacency.specs.Contents.{Step, no_sends}
use Rattle.adjacency.specs.Contents as contents
use Rattle.adjacency.specs.Descriptions.{Verdict, act, after_description, process, repeat}
use Rattle.adjacency.specs.Neighbors.{Neighbor, fresh}
use Rattle.adjacency.specs.Requests.{next_request}
use Rattle.adjacency.specs.declared.state.NeighborState.TheVariants.{ExStart, Full, Loading}
use Rattle.received.specs.Links.{Link, neighbor_at}
use Rattle.received.specs.AreaStates.{one_neighbor}
use Rattle.event_rules.specs.declared.model.Out.{Out}
use Rattle.event_rules.specs.Endings.{start_event, loading_done, end_event, remove_aged}
use Rattle.event_rules.specs.Events.{Happens}
use Rattle.event_rules.specs.Packets.{accept_hello, after_packet, receive_description}
use Rattle.event_rules.specs.Packets.{receive_hello}
use Rattle.event_rules.specs.Packing.{outs_of}
use Rattle.event_rules.specs.EventState.{EventState, on_area, on_router}
use Rattle.event_rules.specs.Routers.{Occurrence, Router, shown_at}
use Rattle.agreement_laws.specs.WorkedAdjacency.{AnAdjacencyBegins, IsJudged, IsNamingHello}
use Rattle.agreement_laws.specs.WorkedAdjacency.{describes, lonely}
use Rattle.agreement_laws.specs.WorkedOwn.{beside, loading}
use Rattle.agreement_laws.proofs.WorkedEnds.{begins, ended, ends_by, finishes, last}
use Rattle.agreement_laws.proofs.WorkedUpdates.{itself, start}
use Rattle.agreement_laws.specs.WorkedUpdates.{NothingAges}

-- ---- a Hello that lists this router

abbrev pub last_heard : Router → Link → ℕ → ℕ → EventState
last_heard r link moment from =
    record (start (beside r link (enter_exstart moment (fresh from None moment)).neighbor))
    { sends = describes (initial_description (moment % 2 ^ 32)) }

pub hello_ends : (r new : Router) (link : Link) (moment from : ℕ) (bytes : List ℕ) (h : Hello)
    (outs : List Out) → NothingAges r moment → IsNamingHello r link bytes from h
    → (event : Happens (lonely r link) moment (Occurrence.Packet 1 bytes) outs new)
    → end_event (lonely r link) moment event.after
    ≡ ended moment (last_heard r link moment from)
hello_ends r new link moment from bytes h outs nothing hello event =
    let old : Router = lonely r link in
    let packet : Packet = record { router = from; body = body.Hello h } in
    let p : EventState = last_heard r link moment from in
    let own : event.after ≡ p =
    event.own.2
    ∙ ap (λ q. after_packet moment 1 q (start_event moment old))
    (one_packet bytes event.own.0 packet event.own.1 hello.is_text)
    ∙ ap (after_packet moment 1 packet) (begins moment old nothing)
    ∙ (λ i. cond (hello.is_other i && (true || false))
    (on_area (receive_hello r.id moment 1 from h) (start old)) (start old))
    ∙ (λ i. on_area (λ o. cond (hello.is_accepted i)
    (accept_hello moment 1 (adjacencies.after_hello moment from (hello.is_naming i) None) o) o)
    (start old)) in
    ap (end_event old moment) own ∙ ends_by old moment p refl refl

pub opens_it : (r new : Router) (link : Link) (moment from : ℕ) (bytes : List ℕ) (h : Hello)
    (outs : List Out) → NothingAges r moment → IsNamingHello r link bytes from h
    → Happens (lonely r link) moment (Occurrence.Packet 1 bytes) outs new
    → (shown_at new 1 ≡ Some (from, ExStart))
    × (outs ≡ outs_of r.id (lonely r link).area.links
    (describes (initial_description (moment % 2 ^ 32))))
opens_it r new link moment from bytes h outs nothing hello event =
    let old : Router = lonely r link in
    let end : end_event old moment event.after ≡ ended moment (last_heard r link moment from) =
    hello_ends r new link moment from bytes h outs nothing hello event in (
      ap (λ s. shown_at s 1) (event.router ∙ ap (λ (q : EventState). q.router) end),
      event.sent ∙ ap (λ (q : EventState). outs_of r.id old.area.links q.sends) end,
    )

-- ---- a Database Description in Loading

-- the neighbor's step
abbrev pub taken : Router → Link → Neighbor → ℕ → Step → EventState
taken r link n moment s = on_area (λ o. one_neighbor moment 1 (λ m. s) o) (start (beside r link n))

pub judged : (r new : Router) (link : Link) (n : Neighbor) (moment : ℕ) (bytes : List ℕ)
    (d : Description) (v : Verdict) (outs : List Out) → NothingAges r moment
    → IsJudged r n bytes d v → after_description r.id moment r.area.database d n
    ≡ cond (nat_lt 8192 d.mtu) (no_sends n) (process r.id moment r.area.database d n)
    → (event : Happens (beside r link n) moment (Occurrence.Packet 1 bytes) outs new)
    → event.after ≡ taken r link n moment (act v moment r.area.database d n)
judged r new link n moment bytes d v outs nothing said same event =
    let old : Router = beside r link n in
    let packet : Packet = record { router = n.router; body = body.Description d } in
    event.own.2
    ∙ ap (λ q. after_packet moment 1 q (start_event moment old))
    (one_packet bytes event.own.0 packet event.own.1 said.is_text)
    ∙ ap (after_packet moment 1 packet) (begins moment old nothing)
    ∙ (λ i. cond (said.is_other i && (false || itself n.router i))
    (on_area (receive_description r.id moment 1 d) (start old)) (start old))
    ∙ ap (taken r link n moment) same
    ∙ (λ i. taken r link n moment (cond (said.fits i) (no_sends n)
    (process r.id moment r.area.database d n)))
    ∙ (λ i. taken r link n moment (act (said.is_judged i) moment r.area.database d n))

begins_it_again : (r new : Router) (link : Link) (n : Neighbor) (moment : ℕ) (bytes : List ℕ)
    (d : Description) (outs : List Out) → NothingAges r moment
    → IsJudged r (loading n) bytes d Verdict.Mismatch
    → Happens (beside r link (loading n)) moment (Occurrence.Packet 1 bytes) outs new
    → (neighbor_at 1 new.area.links ≡ Some (enter_exstart moment (loading n)).neighbor)
    × (outs ≡ outs_of r.id (beside r link (loading n)).area.links
    (describes (initial_description
    (next_dd_sequence_start moment n.dd_sequence_start))))
begins_it_again r new link n moment bytes d outs nothing said event =
    let old : Router = beside r link (loading n) in
    let p : EventState = taken r link (loading n) moment (enter_exstart moment (loading n)) in
    let end : end_event old moment event.after ≡ ended moment p =
    ap (end_event old moment) (judged r new link (loading n) moment bytes d Verdict.Mismatch outs
    nothing said refl event) ∙ ends_by old moment p refl refl in (
      ap (λ (s : Router). neighbor_at 1 s.area.links)
          (event.router ∙ ap (λ (q : EventState). q.router) end),
      event.sent ∙ ap (λ (q : EventState). outs_of r.id old.area.links q.sends) end,
    )

abbrev pub answered : Router → Link → ℕ → Description → Neighbor → EventState
answered r link moment last_one m = record (start (beside r link m)) { sends = describes last_one }

abbrev pub at_moment : ℕ → EventState → EventState
at_moment moment p = on_router (λ (s : Router). record s { moment = moment }) p

repeats_it : (r new : Router) (link : Link) (n : Neighbor) (moment : ℕ) (bytes : List ℕ)
    (d last_one : Description) (outs : List Out) → NothingAges r moment
    → IsJudged r (loading n) bytes d Verdict.Repeated → n.described ≡ Some last_one
    → requests_nothing n ≡ false → (set.len n.outstanding == 0) ≡ false
    → Happens (beside r link (loading n)) moment (Occurrence.Packet 1 bytes) outs new
    → (shown_at new 1 ≡ Some (n.router, Loading))
    × (outs ≡ outs_of r.id (beside r link (loading n)).area.links
    (describes last_one))
repeats_it r new link n moment bytes d last_one outs nothing said kept busy asked event =
    let old : Router = beside r link (loading n) in
    let m : Neighbor = record (loading n) { described = Some last_one; described_at = moment } in
    let put : Neighbor → EventState = answered r link moment last_one in
    let p : EventState = put m in
    let own : event.after ≡ p =
    judged r new link (loading n) moment bytes d Verdict.Repeated outs nothing said refl event
    ∙ (λ i. taken r link (loading n) moment
    (repeat moment (record (loading n) { described = kept i }))) in
    let full : loading_done p ≡ p = ap (λ b. put (cond b (record m { state = Full }) m)) busy in
    let request : Step = record {
      neighbor = record m {
        outstanding = set.from_list (next_request m);
        requested_at = moment;
      };
      sends = contents.Requests (next_request m) ∷ [];
    } in
    let no_request : last moment p ≡ at_moment moment p =
    λ i. at_moment moment (on_area (λ o. remove_aged moment
    (one_neighbor moment 1 (λ k. cond (true && not (busy i) && asked i) request (no_sends m))
    o)) p) in
    let end : end_event old moment event.after ≡ at_moment moment p =
    ap (end_event old moment) own
    ∙ finishes old moment p (at_moment moment p) full refl no_request in (
      ap (λ s. shown_at s 1) (event.router ∙ ap (λ (q : EventState). q.router) end),
      event.sent ∙ ap (λ (q : EventState). outs_of r.id old.area.links q.sends) end,
    )

pub adjacency_begins : AnAdjacencyBegins
adjacency_begins = record {
  opens = opens_it;
  repeats = repeats_it;
  begins_again = begins_it_again;
  clears = λ moment n. (refl, refl, refl, refl);
}
