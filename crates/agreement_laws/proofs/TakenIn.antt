-- What a Full neighbor described was taken in.
use Rattle.std.proofs.Common.{◌≡◌, ℕ, List, [], ◌∷◌, None, Some, sym, ap, subst, ◌∙◌}
use Rattle.std.specs.FinMap as finite
use Rattle.std.proofs.lemmas.Bool.{eqb-true}
use Rattle.words.specs.declared.key.Key.{Key}
use Rattle.lsdb.specs.Headers.{key_of}
use Rattle.lsdb.specs.Instances.{ListEntry, instance_of, listed_now}
use Rattle.lsdb.specs.Keys.{ByKey, key_cmp}
use Rattle.lsdb.specs.declared.order.Instance.{Instance}
use Rattle.adjacency.specs.Adjacencies.{two_way_received}
use Rattle.adjacency.specs.Laws.{IsBareWhereFull}
use Rattle.adjacency.specs.Neighbors.{Neighbor}
use Rattle.received.specs.Holds.{Holds, HoldsOfEach}
use Rattle.received.specs.Links.{neighbor_at}
use Rattle.received.proofs.Holding.{one_holds}
use Rattle.event_rules.specs.Events.{Run, Step}
use Rattle.event_rules.specs.Routers.{Router}
use Rattle.invariants.specs.InOrder.{IsConsistent}
use Rattle.invariants.proofs.Acknowledged.{routers_stay_in_order}
use Rattle.invariants.proofs.Always.{full_request_nothing}
use Rattle.agreement_laws.specs.Exchanged.{Conversation, Converses, GoesOn, conversation_with}
use Rattle.agreement_laws.specs.Ranks.{RanksFollowTheComparison}
use Rattle.agreement_laws.specs.Requests.{AcceptsKey, BecameOfRequest, IsRequestedOrHeld}
use Rattle.agreement_laws.specs.TakenIn.{AcceptsNoMore, WasTakenIn}
use Rattle.agreement_laws.specs.TakenIn.{WhatAFullNeighborDescribedWasTakenIn}
use Rattle.agreement_laws.proofs.RequestWalk.{accepted_is_requested, requests_are_met}
use Rattle.agreement_laws.proofs.Holding.{became_less, entry_as_new}
use Rattle.agreement_laws.proofs.Lists.{some_same}
use Rattle.agreement_laws.proofs.Conversing.{its_conversation}

module _ (number : ℕ) (with_it : Conversation) where
  -- a run in which the conversation goes on is a run
  as_run : (steps : List Step) (old new : Router) → GoesOn number with_it old steps new
      → Run old steps new
  as_run [] old new goes = goes.0
  as_run (s ∷ steps) old new goes = (goes.1, goes.2, as_run steps goes.1 new goes.3)

  converses : (steps : List Step) (old new : Router) → GoesOn number with_it old steps new
      → Converses number with_it old
  converses [] old new goes = goes.1
  converses (s ∷ steps) old new goes = goes.0

  module _ (ranks : RanksFollowTheComparison) (key : Key) (entry : ListEntry) (new : Router)
      (full : Neighbor) (there : neighbor_at number new.area.links ≡ Some full)
      (done : full.requests ≡ finite.empty) where
    abbrev told : Instance
    told = instance_of entry.header

    -- what is asked now is taken in before the neighbor is Full
    followed : (steps : List Step) (r : Router) → IsConsistent r → (m : Neighbor)
        → neighbor_at number r.area.links ≡ Some m → finite.get m.requests key ≡ Some entry
        → (goes : GoesOn number with_it r steps new)
        → AcceptsNoMore number with_it key r steps new goes
        → WasTakenIn key told r steps new
    followed [] r order m at asked goes none =
        let here : neighbor_at number r.area.links ≡ Some full =
        ap (λ (x : Router). neighbor_at number x.area.links) (sym goes.0) ∙ there in
        let same : m ≡ full = some_same (sym at ∙ here) in
        let no : Some entry ≡ None = sym asked
        ∙ ap (λ (x : Neighbor). finite.get x.requests key) same
        ∙ ap (λ (q : ByKey ListEntry). finite.get q key) done
        ∙ finite.get-empty {X = ListEntry} key_cmp key in
        absurd cc
    followed (s ∷ steps) r order m at asked goes none =
        by_state (λ x is. followed steps goes.1
        (routers_stay_in_order.event r s.moment s.event s.outs goes.1 goes.2 order) x is)
        (requests_are_met ranks r s.moment s.event s.outs goes.1 goes.2 order number m at key entry
        asked)
      where
        mine : conversation_with m ≡ with_it
        mine = its_conversation number with_it r m at goes.0

        by_state : ((x : Neighbor) → neighbor_at number goes.1.area.links ≡ Some x
            → finite.get x.requests key ≡ Some entry
            → (more : GoesOn number with_it goes.1 steps new)
            → AcceptsNoMore number with_it key goes.1 steps new more
            → WasTakenIn key told goes.1 steps new)
            → BecameOfRequest r s.moment s.event number m key entry goes.1
            → WasTakenIn key told r (s ∷ steps) new
        by_state more (BecameOfRequest.Stays (IsRequestedOrHeld.Requested stands)) =
            WasTakenIn.Later r goes.1 new s steps goes.2
            (more stands.neighbor stands.there stands.asked goes.3 none.1)
        by_state more (BecameOfRequest.Stays (IsRequestedOrHeld.Held became)) =
            WasTakenIn.Now r goes.1 new s steps goes.2
            (became_less ranks r s.moment s.event (listed_now s.moment entry) told key goes.1
            (entry_as_new entry s.moment) became) (as_run steps goes.1 new goes.3)
        by_state more (BecameOfRequest.Again again) =
            absurd (none.0 (subst (λ (w : Conversation). AcceptsKey r s.moment s.event number
            w.router key) mine again))
        by_state more (BecameOfRequest.Over over) =
            absurd (over (subst (λ (w : Conversation). Converses number w goes.1) (sym mine)
            (converses steps goes.1 new goes.3)))

pub full_took_in : RanksFollowTheComparison → WhatAFullNeighborDescribedWasTakenIn
full_took_in ranks c earlier old middle new run step rest happens number n d a h last_one with_it
    goes none m there full =
    by_state (accepted_is_requested ranks old step.moment step.event step.outs middle happens order
    number n d a h last_one)
  where
    order : IsConsistent old
    order = routers_stay_in_order.run c earlier old run

    all_of : (steps : List Step) (r q : Router) → Run r steps q
        → HoldsOfEach IsBareWhereFull r.area.links → HoldsOfEach IsBareWhereFull q.area.links
    all_of [] r q same so = subst (λ (x : Router). HoldsOfEach IsBareWhereFull x.area.links)
        (sym same) so
    all_of (s ∷ steps) r q on so = all_of steps on.0 q on.2
        (full_request_nothing.event r s.moment s.event s.outs on.0 on.1 so)

    bare : Holds IsBareWhereFull (neighbor_at number new.area.links)
    bare =
        one_holds IsBareWhereFull number new.area.links
        (all_of rest middle new (as_run number with_it rest middle new goes)
        (full_request_nothing.event old step.moment step.event step.outs middle happens
        (full_request_nothing.run c earlier old run)))

    nothing : m.requests ≡ finite.empty
    nothing = let is : IsBareWhereFull m = subst (Holds IsBareWhereFull) there bare in
        finite.empty_of_len m.requests (eqb-true (finite.len m.requests) 0 (is full))

    by_state : IsRequestedOrHeld old step.moment step.event number
        (conversation_with (two_way_received step.moment n).neighbor) (key_of h) (record {
          header = h;
          at = step.moment;
        }) (instance_of h) middle
        → WasTakenIn (key_of h) (instance_of h) old (step ∷ rest) new
    by_state (IsRequestedOrHeld.Requested stands) =
        WasTakenIn.Later old middle new step rest happens
        (followed number with_it ranks (key_of h) (record {
          header = h;
          at = step.moment;
        }) new m there nothing rest middle
        (routers_stay_in_order.event old step.moment step.event step.outs middle happens order)
        stands.neighbor stands.there stands.asked goes none)
    by_state (IsRequestedOrHeld.Held became) =
        WasTakenIn.Now old middle new step rest happens became
        (as_run number with_it rest middle new goes)
