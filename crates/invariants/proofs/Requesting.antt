-- At the end of every event, what is left on a request list is requested.
use Rattle.std.proofs.Common.{◌≡◌, ℕ, suc, ◌+◌, ◌==◌, Bool, true, false, not, ◌&&◌, List, [], ◌∷◌}
use Rattle.std.proofs.Common.{map, length, Option, None, Some, refl, sym, ap, subst, ◌∙◌}
use Rattle.std.specs.Prelude.{take}
use Rattle.std.specs.Cmp.{tied_itself}
use Rattle.std.specs.FinMap as finite
use Rattle.std.specs.FinSet as set
use Rattle.std.specs.List.{enumerate_from, list_any}
use Rattle.std.specs.Ordering.{is_eq}
use Rattle.std.proofs.lemmas.Bool.{eqb-true}
use Rattle.std.proofs.lemmas.List.{length-map}
use Rattle.words.specs.declared.key.Key.{Key}
use Rattle.lsdb.specs.Keys.{KeySet, key_cmp, same_key}
use Rattle.lsdb.proofs.Keys.{keys_total}
use Rattle.adjacency.specs.Adjacencies.{loading_done_in, requests_nothing}
use Rattle.adjacency.specs.Contents.{Requests, Step, no_sends}
use Rattle.adjacency.specs.Neighbors.{Neighbor, is_exchange_or_loading}
use Rattle.adjacency.specs.Requests.{is_to_request, next_request, request_next}
use Rattle.adjacency.specs.declared.state.NeighborState.{NeighborState}
use Rattle.adjacency.specs.declared.state.NeighborState.TheVariants.{Init, ExStart, Exchange}
use Rattle.adjacency.specs.declared.state.NeighborState.TheVariants.{Loading, Full}
use Rattle.adjacency.proofs.Kept.{chosen}
use Rattle.received.specs.Holds.{Holds, HoldsOfEach}
use Rattle.received.specs.Links.{Link, any_exchange_or_loading}
use Rattle.received.specs.AreaStates.{AreaState, Stepping, on_database, step_on}
use Rattle.event_rules.specs.Endings.{end_event, originate_router_lsa, postpone_router_lsa}
use Rattle.event_rules.specs.Endings.{link_loading_done, links_differ, loading_done}
use Rattle.event_rules.specs.Endings.{loading_done_on}
use Rattle.event_rules.specs.Endings.{request_all, stays}
use Rattle.event_rules.specs.EventState.{EventState, on_router}
use Rattle.event_rules.specs.Originations.{postpone, router_key}
use Rattle.event_rules.specs.Routers.{Router}
use Rattle.invariants.specs.NeighborLaws.{IsRequesting, WhatIsLeftIsRequested}

-- ---- sets and lists

not_empty : (keys : KeySet) (k : Key) → set.contains keys k ≡ true → (set.len keys == 0) ≡ false
not_empty keys k holds = by_answer (set.len keys == 0) refl
  where
    by_answer : (b : Bool) → (set.len keys == 0) ≡ b → (set.len keys == 0) ≡ false
    by_answer true e =
        let none : true ≡ false = sym holds
        ∙ ap (λ (s : KeySet). set.contains s k)
        (set.empty_of_len keys (eqb-true (set.len keys) 0 e))
        ∙ set.contains-empty key_cmp k in
        absurd cc
    by_answer false e = e

-- the first keys of a list that isn't empty
first_asked : (n : ℕ) (keys : List Key) → (length keys == 0) ≡ false
    → (set.len (set.from_list {R = key_cmp} (take (suc n) keys)) == 0) ≡ false
first_asked n [] e = absurd cc
first_asked n (k ∷ keys) e =
    not_empty (set.from_list (k ∷ take n keys)) k
    (set.contains-from_list keys_total (k ∷ take n keys) k
    ∙ ap (λ o. any_first (is_eq o) (list_any (same_key k) (take n keys)))
    (tied_itself keys_total k))
  where
    any_first : Bool → Bool → Bool
    any_first true b = true
    any_first false b = b

-- ---- one neighbor

-- before the Link State Requests: in Loading the request list isn't empty
abbrev IsLoaded : Neighbor → Type 0
IsLoaded n = n.state ≡ Loading → requests_nothing n ≡ false

loaded_in : (s : NeighborState) (n : Neighbor) → n.state ≡ s → IsLoaded (loading_done_in s n)
loaded_in Init n is = λ at. absurd cc
loaded_in ExStart n is = λ at. absurd cc
loaded_in Exchange n is = λ at. absurd cc
loaded_in Loading n is = chosen IsLoaded (requests_nothing n) (record n {
  state = Full;
}) n (λ none at. absurd cc) (λ some at. some)
loaded_in Full n is = λ at. absurd cc

keys_left : (n : Neighbor) → requests_nothing n ≡ false
    → (length (finite.keys n.requests) == 0) ≡ false
keys_left n some =
    ap (λ (m : ℕ). m == 0) (length-map (finite.entries n.requests) (λ e. e.0)
    ∙ sym (finite.len-entries n.requests)) ∙ some

nothing_outstanding : (a b c : Bool) → (a && not b && c) ≡ false → a ≡ true → b ≡ false → c ≡ false
nothing_outstanding true false c e is some = e
nothing_outstanding true true c e is some = absurd cc
nothing_outstanding false b c e is some = absurd cc

requesting : (moment : ℕ) (n : Neighbor) → IsLoaded n
    → IsRequesting (request_next moment n).neighbor
requesting moment n loaded =
    chosen (λ (s : Step). IsRequesting s.neighbor) (is_to_request n)
    (record {
      neighbor = record n { outstanding = set.from_list (next_request n); requested_at = moment };
      sends = Requests (next_request n) ∷ [];
    })
    (no_sends n)
    (λ may. record {
      loading = loaded;
      outstanding = λ at some. first_asked 679 (finite.keys n.requests) (keys_left n some);
    })
    (λ may. record {
      loading = loaded;
      outstanding = λ at some. nothing_outstanding (is_exchange_or_loading n.state)
          (requests_nothing n) (set.len n.outstanding == 0) may at some;
    })

-- ---- each neighbor

loaded_on : (o : Option Neighbor) → Holds IsLoaded (loading_done_on o)
loaded_on None = tt
loaded_on (Some n) = loaded_in n.state n refl

all_loaded : (links : List Link) → HoldsOfEach IsLoaded (map link_loading_done links)
all_loaded [] = tt
all_loaded (link ∷ links) = (loaded_on link.neighbor, all_loaded links)

requesting_on : (f : Neighbor → Step) → ((n : Neighbor) → IsLoaded n → IsRequesting (f n).neighbor)
    → (o : Option Neighbor) → Holds IsLoaded o → Holds IsRequesting (step_on f o)
requesting_on f so None h = tt
requesting_on f so (Some n) h = so n h

all_requesting : (f : Stepping) → ((number : ℕ) (link : Link) (n : Neighbor) → IsLoaded n
    → IsRequesting (f number link n).neighbor) → (k : ℕ) (links : List Link)
    → HoldsOfEach IsLoaded links
    → HoldsOfEach IsRequesting (map (λ (e : ℕ × Link). record e.1
    { neighbor = step_on (f e.0 e.1) e.1.neighbor }) (enumerate_from k links))
all_requesting f so k [] h = tt
all_requesting f so k (link ∷ links) h =
    (requesting_on (f k link) (so k link) link.neighbor h.0, all_requesting f so (k + 1) links h.1)

-- ---- the end of an event

end_requests : (old : Router) (moment : ℕ) (p : EventState)
    → HoldsOfEach IsRequesting (end_event old moment p).router.area.links
end_requests old moment p =
    let described : EventState = originate_router_lsa old.area.links moment (loading_done p) in
    let loaded : EventState = loading_done described in
    let refilled : EventState = postpone_router_lsa described.router.area.links loaded in
    let o : AreaState = record { area = refilled.router.area; sends = refilled.sends } in
    let before : HoldsOfEach IsLoaded o.area.links =
    chosen (λ (q : EventState). HoldsOfEach IsLoaded q.router.area.links)
    (links_differ described.router.area.links loaded.router.area.links)
    (on_router (postpone (router_key loaded.router.id)) loaded) loaded
    (λ is. all_loaded described.router.area.links)
    (λ is. all_loaded described.router.area.links) in
    let requested : HoldsOfEach IsRequesting (request_all moment o).area.links =
    all_requesting (λ number link n. request_next moment n)
    (λ number link n loaded. requesting moment n loaded) 1 o.area.links before in
    let q : AreaState = request_all moment o in
    chosen (λ (r : AreaState). HoldsOfEach IsRequesting r.area.links)
    (any_exchange_or_loading q.area.links) q
    (on_database (λ db. finite.retain_keys db (stays moment q.area)) q) (λ is. requested)
    (λ is. requested)

pub what_is_left_is_requested : WhatIsLeftIsRequested
what_is_left_is_requested old moment event outs new happens =
    subst (λ (r : Router). HoldsOfEach IsRequesting r.area.links) (sym happens.router)
    (end_requests old moment happens.after)
