-- The database exchange as the slave.
use Rattle.std.proofs.Common.{◌≡◌, ℕ, ◌==◌, Bool, true, false, cond, not, ◌&&◌, ◌||◌, List, [], ◌∷◌}
use Rattle.std.proofs.Common.{length, map, take, Some, refl, ap, ◌∙◌, nat_lt}
use Rattle.std.specs.FinMap as finite
use Rattle.std.specs.FinSet as set
use Rattle.std.proofs.Math.Bool.{or-true}
use Rattle.words.specs.declared.key.Key.{Key}
use Rattle.lsa.specs.Reading.{is_known_type}
use Rattle.lsdb.specs.Headers.{Header, key_of}
use Rattle.lsdb.specs.Instances.{ListEntry}
use Rattle.lsdb.specs.Keys.{ByKey, key_cmp}
use Rattle.lsdb.proofs.Keys.{keys_total}
use Rattle.packet.specs.declared.model.Description.{Description}
use Rattle.adjacency.specs.Adjacencies.{mismatch_step, initial_description, requests_nothing}
use Rattle.adjacency.specs.Contents.{Content, Step, no_sends}
use Rattle.adjacency.specs.Contents as contents
use Rattle.adjacency.specs.Descriptions.{Verdict, exchange_done, is_more_recent, send_description}
use Rattle.adjacency.specs.Descriptions.{as_received, negotiated_neighbor, young_copies}
use Rattle.adjacency.specs.Neighbors.{Neighbor}
use Rattle.adjacency.specs.Requests.{next_request}
use Rattle.adjacency.specs.declared.state.NeighborState.TheVariants.{Exchange, Full, Loading}
use Rattle.received.specs.Links.{Link}
use Rattle.received.specs.AreaStates.{one_neighbor}
use Rattle.event_rules.specs.declared.model.Out.{Out}
use Rattle.event_rules.specs.Endings.{loading_done, end_event, remove_aged}
use Rattle.event_rules.specs.Events.{Happens}
use Rattle.event_rules.specs.Packing.{outs_of}
use Rattle.event_rules.specs.EventState.{EventState, on_area}
use Rattle.event_rules.specs.Routers.{Occurrence, Router, shown_at}
use Rattle.agreement_laws.specs.WorkedAdjacency.{IsJudged, describes}
use Rattle.agreement_laws.specs.WorkedExchange.{AnExchangeAsSlave, last_with, in_ex_start, reply}
use Rattle.agreement_laws.specs.WorkedExchange.{slave}
use Rattle.agreement_laws.specs.WorkedOwn.{beside}
use Rattle.agreement_laws.proofs.WorkedAdjacency.{answered, at_moment, judged, taken}
use Rattle.agreement_laws.proofs.WorkedEnds.{finishes, last}
use Rattle.agreement_laws.specs.WorkedUpdates.{NothingAges}

abbrev asking : ℕ → Neighbor → Step
asking moment m = record {
  neighbor = record m {
    outstanding = set.from_list (next_request m);
    requested_at = moment;
  };
  sends = contents.Requests (next_request m) ∷ [];
}

abbrev ending : ℕ → EventState → Step → EventState
ending moment p s = at_moment moment
    (on_area (λ o. remove_aged moment (one_neighbor moment 1 (λ k. s) o)) p)

-- ---- negotiation

abbrev as_slave : ℕ → ℕ → Router → Neighbor → Neighbor
as_slave moment sequence r n = record
    (negotiated_neighbor false sequence moment r.area.database (in_ex_start n))
    { received = Some (as_received (initial_description sequence)); sequence = sequence }

pub negotiates_it : (r new : Router) (link : Link) (n : Neighbor) (moment sequence : ℕ)
    (bytes : List ℕ) (outs : List Out) → NothingAges r moment
    → IsJudged r (in_ex_start n) bytes (initial_description sequence) Verdict.NegotiatedAsSlave
    → requests_nothing n ≡ true → Happens (beside r link (in_ex_start n)) moment
    (Occurrence.Packet 1 bytes) outs new → (shown_at new 1 ≡ Some (n.router, Exchange))
    × (outs ≡ outs_of r.id (beside r link (in_ex_start n)).area.links
    (describes (reply moment sequence (young_copies moment r.area.database))))
negotiates_it r new link n moment sequence bytes outs nothing said none event =
    let old : Router = beside r link (in_ex_start n) in
    let replied : Step = send_description moment (as_slave moment sequence r n) in
    let m : Neighbor = replied.neighbor in
    let p : EventState = answered r link moment
    (reply moment sequence (young_copies moment r.area.database)) m in
    let own : event.after ≡ p =
    judged r new link (in_ex_start n) moment bytes (initial_description sequence)
    Verdict.NegotiatedAsSlave outs nothing said refl event
    ∙ (λ i. taken r link (in_ex_start n) moment
    (cond (or-true (nat_lt 408 (finite.len (young_copies moment r.area.database))) i) replied
    (record replied { neighbor = exchange_done moment m }))) in
    let quietly : last moment p ≡ at_moment moment p =
    λ i. ending moment p (cond (true && not (none i) && set.len n.outstanding == 0)
    (asking moment m) (no_sends m)) in
    let end : end_event old moment event.after ≡ at_moment moment p = ap (end_event old moment) own
    ∙ finishes old moment p (at_moment moment p) refl refl quietly in (
      ap (λ s. shown_at s 1) (event.router ∙ ap (λ (q : EventState). q.router) end),
      event.sent ∙ ap (λ (q : EventState). outs_of r.id old.area.links q.sends) end,
    )

-- ---- the end of the exchange

loads_it : (r new : Router) (link : Link) (n : Neighbor) (moment : ℕ) (bytes : List ℕ)
    (d : Description) (h : Header) (outs : List Out) → NothingAges r moment
    → IsJudged r (slave n) bytes (last_with h d) Verdict.Accepted → is_known_type h.ls_type
    ≡ true → is_more_recent moment r.area.database h ≡ true → nat_lt 408 (finite.len n.summary)
    ≡ false → finite.entries n.requests ≡ [] → (set.len n.outstanding == 0) ≡ true
    → Happens (beside r link (slave n)) moment (Occurrence.Packet 1 bytes) outs new
    → (shown_at new 1 ≡ Some (n.router, Loading))
    × (outs ≡ outs_of r.id (beside r link (slave n)).area.links
    (record { interface = 1; content = Content.Describes (reply moment d.sequence n.summary) }
    ∷ record { interface = 1; content = Content.Requests (key_of h ∷ []) } ∷ []))
loads_it r new link n moment bytes d h outs nothing said known wanted all_said none free event =
    let old : Router = beside r link (slave n) in
    let l : ListEntry = record { header = h; at = moment } in
    let list : ByKey ListEntry = finite.insert n.requests (key_of h) l in
    let one : finite.entries list ≡ (key_of h, l) ∷ [] =
    finite.entries-insert keys_total n.requests (key_of h) l
    ∙ ap (finite.put key_cmp (key_of h) l) none in
    let some : (finite.len list == 0) ≡ false =
    ap (λ k. k == 0) (finite.len-entries list ∙ ap length one) in
    let asked : Bool → Neighbor = λ b. record (slave n) {
      received = Some (as_received (last_with h d));
      requests = cond b list n.requests;
      sequence = d.sequence;
    } in
    let replied : Bool → Step = λ b. send_description moment (asked b) in
    let m : Neighbor = record (replied true).neighbor { state = Loading; exchanged = Some moment }
    in
    let p : EventState = answered r link moment (reply moment d.sequence n.summary) m in
    let own : event.after ≡ p =
    judged r new link (slave n) moment bytes (last_with h d) Verdict.Accepted outs nothing said refl
    event
    ∙ (λ i. taken r link (slave n) moment (cond (known i && true)
    (cond (nat_lt 408 (finite.len n.summary) || false) (replied (wanted i))
    (record (replied (wanted i)) {
      neighbor = exchange_done moment (replied (wanted i)).neighbor;
    }))
    (mismatch_step moment (slave n))))
    ∙ (λ i. taken r link (slave n) moment
    (cond (all_said i || false) (replied true)
    (record (replied true) { neighbor = exchange_done moment (replied true).neighbor })))
    ∙ (λ i. taken r link (slave n) moment
    (record (replied true) {
      neighbor =
          record (replied true).neighbor
          { state = cond (some i) Full Loading; exchanged = Some moment };
    })) in
    let full : loading_done p ≡ p = λ i. answered r link moment (reply moment d.sequence n.summary)
    (cond (some i) (record m { state = Full }) m) in
    let x : EventState = ending moment p (asking moment m) in
    let requests : last moment p ≡ x =
    λ i. ending moment p (cond (true && not (some i) && free i) (asking moment m) (no_sends m))
    in
    let end : end_event old moment event.after ≡ x = ap (end_event old moment) own
    ∙ finishes old moment p x full refl requests in
    let keys : next_request m ≡ key_of h ∷ [] =
    ap (λ (es : List (Key × ListEntry)). take 680 (map (λ e. e.0) es)) one in (
      ap (λ s. shown_at s 1) (event.router ∙ ap (λ (q : EventState). q.router) end),
      event.sent ∙ ap (λ (q : EventState). outs_of r.id old.area.links q.sends) end
          ∙ ap (λ (ks : List Key). outs_of r.id old.area.links (record {
            interface = 1;
            content = Content.Describes (reply moment d.sequence n.summary);
          }
          ∷ record { interface = 1; content = Content.Requests ks } ∷ [])) keys,
    )

pub exchange_as_slave : AnExchangeAsSlave
exchange_as_slave = record { negotiates = negotiates_it; loads = loads_it }
