-- A Tick in the first second: only the first Hello is due.
use Rattle.std.proofs.Common.{◌≡◌, ℕ, Bool, true, false, cond, not, ◌&&◌, ◌||◌, List, [], ◌∷◌, ◌++◌}
use Rattle.std.proofs.Common.{map, Option, None, Some, refl, ap, ◌∙◌}
use Rattle.std.specs.List.{filter}
use Rattle.std.specs.FinMap as finite
use Rattle.std.specs.FinSet as set
use Rattle.std.specs.Ordering.{eq_by_cmp}
use Rattle.words.specs.declared.key.Key.{Key}
use Rattle.words.specs.declared.route.External.{External}
use Rattle.lsa.specs.Origination.{sealed_lsa}
use Rattle.lsdb.specs.Headers.{Header}
use Rattle.lsdb.specs.Keys.{ByKey, key_cmp}
use Rattle.lsdb.proofs.Keys.{keys_total}
use Rattle.adjacency.specs.Adjacencies.{after_inactivity_timer}
use Rattle.adjacency.specs.Contents.{Content}
use Rattle.adjacency.specs.Neighbors.{Neighbor}
use Rattle.adjacency.specs.Retransmissions.{send_again}
use Rattle.received.specs.Links.{Link}
use Rattle.received.specs.AreaStates.{on_links, sending, sends_at, sent_on, step_on}
use Rattle.event_rules.specs.Endings.{start_event}
use Rattle.event_rules.specs.EventState.{EventState, on_area, on_router}
use Rattle.event_rules.specs.Hellos.{hello_on}
use Rattle.event_rules.specs.Originations.{due_keys, forget_originations, is_due, is_recent}
use Rattle.event_rules.specs.Originations.{refresh_time_is_over}
use Rattle.event_rules.specs.Originations.{originate_due, router_key}
use Rattle.event_rules.specs.Routers.{Router}
use Rattle.event_rules.specs.Ticks.{after_tick, send_acknowledgments, send_all_again, send_hellos}
use Rattle.event_rules.specs.Ticks.{settled_exchange, without_acknowledgments}
use Rattle.agreement_laws.proofs.WorkedEnds.{begins, no_time_passes}
use Rattle.agreement_laws.proofs.HistoryStart.{copy, database, first_times, found, link_with}
use Rattle.agreement_laws.proofs.HistoryStart.{no_entries}
use Rattle.agreement_laws.proofs.HistoryStart.{router_with}

-- the moments of originations that are kept
abbrev pub times : ℕ → ByKey ℕ
times id = finite.retain_keys (first_times id)
    (λ key. is_recent 0 (finite.get (first_times id) key))

and_nothing : (a b : Bool) → b ≡ false → (not a && b) ≡ false
and_nothing true b e = refl
and_nothing false b e = e

fresh_copy : (id address : ℕ) → refresh_time_is_over 0 (Some (copy id address)) ≡ false
unfolding sealed_lsa
fresh_copy id address = refl

module _ (id address : ℕ) (n : Option Neighbor) where
  abbrev before : Router
  before = router_with id (link_with address n None) (database id address) (first_times id) 0

  abbrev pub ticked : EventState
  ticked = record {
    router = router_with id (link_with address n (Some 0)) (database id address) (times id) 0;
    sends = record {
      interface = 1;
      content = Content.SendsHello (hello_on (link_with address n None));
    } ∷ [];
  }

  abbrev resting : Option Neighbor → EventState
  resting m = on_router (forget_originations 0) (record {
    router = router_with id (link_with address m None) (database id address) (first_times id) 0;
    sends = [];
  })

  abbrev rest : EventState → EventState
  rest p = on_area (λ o. send_hellos 0 (send_acknowledgments 0 (send_all_again 0 o))) p

  not_waiting : set.contains (set.remove (set.empty {R = key_cmp}) (router_key id)) (router_key id)
      ≡ false
  not_waiting =
      set.contains-remove keys_total set.empty (router_key id) (router_key id)
      ∙ and_nothing (eq_by_cmp key_cmp (router_key id) (router_key id))
      (set.contains (set.empty {R = key_cmp}) (router_key id))
      (set.contains-empty key_cmp (router_key id))

  not_due : is_due 0 (resting n).router (router_key id) ≡ false
  not_due = (λ i. not_waiting i || refresh_time_is_over 0 (found id address i))
      ∙ fresh_copy id address

  none_due : due_keys 0 (resting n).router ≡ []
  none_due =
      (λ i. filter (is_due 0 (resting n).router)
      (router_key id ∷ map (λ (e : Key × External). e.0) (no_entries External i)))
      ∙ (λ i. cond (not_due i) (router_key id ∷ []) [])

  -- with the neighbor and what is retransmitted to it
  abbrev again_by : Option Neighbor → List Content → EventState
  again_by m contents =
      on_area
      (λ o. send_hellos 0
      (send_acknowledgments 0
      (sending 0 (sends_at 1 contents ++ [])
      (on_links (λ (links : List Link). record (link_with address n None) { neighbor = m } ∷ [])
      o))))
      (resting n)

  -- with these delayed acknowledgments
  abbrev receive_acknowledgment : List (Key × Header) → EventState
  receive_acknowledgment es =
      on_area
      (λ o. send_hellos 0 (sending 0 (sends_at 1
      (map Content.Acknowledges (map (λ (e : Key × Header). e.1) es)) ++ [])
      (on_links (map without_acknowledgments) o)))
      (resting n)

  pub tick : settled_exchange 0 40 (after_inactivity_timer 0 40 n) ≡ n
      → step_on (send_again 0 5 (database id address)) n ≡ n
      → sent_on (send_again 0 5 (database id address)) n ≡ []
      → after_tick 0 (start_event 0 before) ≡ ticked
  tick settled steps sent =
      ap (after_tick 0) (begins 0 before (no_time_passes 0 (finite.entries (database id address))))
      ∙ ap (λ (m : Option Neighbor). rest
      (originate_due 0 (due_keys 0 (resting m).router) (resting m))) settled
      ∙ ap (λ (keys : List Key). rest (originate_due 0 keys (resting n))) none_due
      ∙ (λ i. again_by (steps i) (sent i))
      ∙ ap receive_acknowledgment (no_entries Header)
