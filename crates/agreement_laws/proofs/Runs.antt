-- After every run, if an instance is held and is on neither list of the neighbor, one that is at
-- least as new was exchanged.
use Rattle.std.proofs.Common.{◌≡◌, ℕ, zero, suc, ◌≤◌, Bool, true, false, cond, ◌&&◌, ◌⊎◌, inl, inr}
use Rattle.std.proofs.Common.{List, [], ◌∷◌, map, Option, None, Some, is_some, refl, sym, ap, subst}
use Rattle.std.proofs.Common.{◌∙◌}
use Rattle.std.specs.Prelude.{slice_get}
use Rattle.std.specs.FinMap as finite
use Rattle.std.specs.List.{Contains}
use Rattle.words.specs.declared.key.Key.{Key}
use Rattle.lsa.specs.declared.body.LsaBody.{LsaBody}
use Rattle.lsdb.specs.Copies.{DatabaseCopy, age_prematurely, copy_now, install_originated}
use Rattle.lsdb.specs.Copies.{is_aged_out}
use Rattle.lsdb.specs.Headers.{Lsa, key_of, lsa_with_age}
use Rattle.lsdb.specs.Keys.{ByKey, key_cmp}
use Rattle.lsdb.specs.Instances.{ListEntry, listed_now}
use Rattle.lsdb.specs.declared.order.Instance.{Instance}
use Rattle.packet.specs.declared.model.PacketBody.TheVariants as body
use Rattle.adjacency.specs.Neighbors.{Neighbor, is_exchange_or_later}
use Rattle.adjacency.specs.declared.interface.Interface.{Interface}
use Rattle.adjacency.proofs.Kept.{chosen}
use Rattle.received.specs.Flooding.{flood_to}
use Rattle.received.specs.Holds.{Holds}
use Rattle.received.specs.Links.{neighbor_at, neighbor_on}
use Rattle.received.specs.AreaStates.{AreaState, on_database, step_on}
use Rattle.event_rules.specs.declared.model.Config.{Config}
use Rattle.event_rules.specs.declared.model.Out.{Out}
use Rattle.event_rules.specs.Endings.{end_event}
use Rattle.event_rules.specs.EventState.{EventState, flood_from_nobody, on_router}
use Rattle.event_rules.specs.Events.{Happens, Run, Step, initial}
use Rattle.event_rules.specs.Originations.{flush, flush_copy, has_max_sequence, has_room}
use Rattle.event_rules.specs.Originations.{may_originate}
use Rattle.event_rules.specs.Originations.{new_instance, originate, originate_body, postpone}
use Rattle.event_rules.specs.Originations.{router_key}
use Rattle.event_rules.specs.Originations.{wanted_body}
use Rattle.event_rules.specs.Packing.{out_of}
use Rattle.event_rules.specs.Routers.{Router, fresh_link, unannounced_router}
use Rattle.event_rules.proofs.Walk.{outcome}
use Rattle.invariants.specs.InOrder.{IsConsistent}
use Rattle.invariants.proofs.Acknowledged.{routers_stay_in_order}
use Rattle.invariants.proofs.Leaving.{stepped_kept}
use Rattle.event_rules.specs.Clocks.{ClockRunsOn}
use Rattle.agreement_laws.specs.Exchanged.{Conversation, Converses, GoesOn}
use Rattle.agreement_laws.specs.Exchanged.{IsExchanged, WasExchanged, conversation_with}
use Rattle.agreement_laws.specs.HeldWasExchanged.{IsNotOwed, WasExchangedAsNew}
use Rattle.agreement_laws.specs.HeldWasExchanged.{WasExchangedWithFullNeighbors}
use Rattle.agreement_laws.specs.HeldWasExchanged.{WhatIsHeldWasExchanged, is_exchange_done}
use Rattle.agreement_laws.specs.Ranks.{is_at_least}
use Rattle.agreement_laws.proofs.Describing.{held, instance_at}
use Rattle.agreement_laws.proofs.Done.{nothing_is_left}
use Rattle.agreement_laws.proofs.Parts.{SaidBy}
use Rattle.agreement_laws.proofs.Parts as parts
use Rattle.agreement_laws.proofs.Sent.{goes_out}
use Rattle.agreement_laws.proofs.Settling.{HasAny, Saying, Settling, settled_more, settling_more}
use Rattle.agreement_laws.proofs.Walk as walk

-- ---- the start: there is no neighbor, and the moment is that of the start

module _ (number : ℕ) (at : ℕ) where
  flooded_alone : (moment : ℕ) (lsa : Lsa) (o : AreaState) → neighbor_at number o.area.links ≡ None
      → neighbor_at number (flood_from_nobody moment lsa o).area.links ≡ None
  flooded_alone moment lsa o is =
      stepped_kept (λ (n : Option Neighbor). n ≡ None) (λ (n : Option Neighbor). n ≡ None) (λ e. e)
      (flood_to moment None lsa) number
      (λ link e. ap (step_on (flood_to moment None lsa number link)) e) o.area.links is

  flushed_alone : (moment : ℕ) (key : Key) (c : Option DatabaseCopy) (o : AreaState)
      → neighbor_at number o.area.links ≡ None
      → neighbor_at number (flush_copy moment key c o).area.links ≡ None
  flushed_alone moment key None o is = is
  flushed_alone moment key (Some c) o is =
      chosen (λ (p : AreaState). neighbor_at number p.area.links ≡ None) (is_aged_out moment c) o
      (flood_from_nobody moment (lsa_with_age 3600 c.lsa)
      (on_database (age_prematurely moment key) o))
      (λ e. is) (λ e. flooded_alone moment (lsa_with_age 3600 c.lsa)
      (on_database (age_prematurely moment key) o) is)

  originated_alone : (may_now : Bool) (moment : ℕ) (key : Key) (says : Option LsaBody)
      (p : EventState) → (neighbor_at number p.router.area.links ≡ None) × (p.router.moment ≡ at)
      → (neighbor_at number (originate_body may_now moment key says p).router.area.links ≡ None)
      × ((originate_body may_now moment key says p).router.moment ≡ at)
  originated_alone may_now moment key None p is = is
  originated_alone may_now moment key (Some says) p is =
      chosen Alone (has_max_sequence (finite.get p.router.area.database key)) (flush moment key p)
      (cond (may_now && may_originate moment key p.router) (originate moment key says p)
      (on_router (postpone key) p))
      (λ e. (
        flushed_alone moment key (finite.get p.router.area.database key) (outcome p) is.0,
        is.1,
      ))
      (λ e. chosen Alone (may_now && may_originate moment key p.router)
      (originate moment key says p) (on_router (postpone key) p)
      (λ e.
      let lsa : Lsa = new_instance key (finite.get p.router.area.database key) says in (
        flooded_alone moment lsa (on_database (install_originated moment lsa) (outcome p)) is.0,
        is.1,
      )) (λ e. is))
    where
      Alone : EventState → Type 0
      Alone q = (neighbor_at number q.router.area.links ≡ None) × (q.router.moment ≡ at)

fresh_place : (is : List Interface) (i : ℕ) → neighbor_on (slice_get (map fresh_link is) i) ≡ None
fresh_place [] i = refl
fresh_place (x ∷ is) zero = refl
fresh_place (x ∷ is) (suc i) = fresh_place is i

nobody_at : (is : List Interface) (number : ℕ) → neighbor_at number (map fresh_link is) ≡ None
nobody_at is zero = refl
nobody_at is (suc i) = fresh_place is i

pub begins_alone : (c : Config) (number : ℕ) → (neighbor_at number (initial c).area.links ≡ None)
    × ((initial c).moment ≡ c.start)
begins_alone c number =
    let p : EventState = record { router = unannounced_router c; sends = [] } in
    originated_alone number c.start (has_room (router_key c.router) p.router) c.start
    (router_key c.router) (wanted_body p.router (router_key c.router)) p
    (nobody_at c.interfaces number, refl)

-- ---- runs

module _ (key : Key) (number : ℕ) where
  abbrev SaidIn : Router → List Step → Router → Saying
  SaidIn old steps new with_it l = (key_of l.header ≡ key)
      × WasExchanged number with_it l old steps new

  -- said before, in the conversation that has continued since; or in the run
  abbrev After : Saying → Router → List Step → Router → Saying
  After Before old steps new with_it l = (Before with_it l × GoesOn number with_it old steps new)
      ⊎ SaidIn old steps new with_it l

  abbrev pub IsSettled : Saying → Router → Type 0
  IsSettled Before r = Holds (Settling key r.moment walk.Anybody Before
      (held r.moment key r.area.database)) (neighbor_at number r.area.links)

  -- what else is said about neighbors in Exchange or later
  module _ (r : Router) (Said Added : Saying)
      (adds : (m : Neighbor) → neighbor_at number r.area.links ≡ Some m
      → is_exchange_or_later m.state ≡ true → (l : ListEntry) → Said (conversation_with m) l
      → Added (conversation_with m) l) where
    more_of : (x : Option Instance) (m : Neighbor) → neighbor_at number r.area.links ≡ Some m
        → (b : Bool) → is_exchange_or_later m.state ≡ b
        → Settling key r.moment walk.Anybody Said x m
        → Settling key r.moment walk.Anybody Added x m
    more_of x m at b is (inl before) = inl before
    more_of x m at false is (inr s) = inl is
    more_of x m at true is (inr s) = inr
        (settled_more key r.moment walk.Anybody walk.Anybody Said Added m (λ any. any)
        (adds m at is) x s)

    more_on : (x : Option Instance) (o : Option Neighbor) → neighbor_at number r.area.links ≡ o
        → Holds (Settling key r.moment walk.Anybody Said x) o
        → Holds (Settling key r.moment walk.Anybody Added x) o
    more_on x None at h = tt
    more_on x (Some m) at h = more_of x m at (is_exchange_or_later m.state) refl h

    pub more_said : IsSettled Said r → IsSettled Added r
    more_said h = more_on (held r.moment key r.area.database) (neighbor_at number r.area.links) refl
        h

  -- ---- one event

  -- said before, in the same conversation; or in the event
  abbrev pub Then : Saying → Router → Step → Saying
  Then Before old s with_it l =
      (Before with_it l × Converses number with_it old)
      ⊎ ((key_of l.header ≡ key) × IsExchanged old.id s number with_it.router l.header
      × (l.at ≡ s.moment))

  module _ (Before : Saying) (old : Router) (s : Step) (new : Router)
      (happens : Happens old s.moment s.event s.outs new) where
    abbrev ended : EventState
    ended = end_event old s.moment happens.after

    said_then : (with_it : Conversation) (l : ListEntry)
        → SaidBy key s.moment number (walk.HasLink key number Before old s.moment s.event)
        (walk.IsIts key number Before old s.moment s.event)
        (walk.Base key number Before old s.moment s.event) ended.sends with_it l
        → Then Before old s with_it l
    said_then with_it l (inl (inl k)) = inl k
    said_then with_it l (inl (inr k)) = inr (k.2, IsExchanged.Told k.0, k.1)
    said_then with_it l (inr k) =
        inr (
          k.3,
          IsExchanged.Described (record {
            description = k.1.description;
            sent = subst (λ (outs : List Out). Contains outs
                (out_of old.id number (body.Description k.1.description))) (sym happens.sent)
                (goes_out k.1.description old.id ended.sends number old.area.links k.0.0 k.0.1
                k.1.sent);
            among = k.1.among;
          }),
          k.2,
        )

    then_on : (x : Option Instance) (o : Option Neighbor)
        → parts.HoldsThere key s.moment number (walk.HasLink key number Before old s.moment s.event)
        (walk.IsIts key number Before old s.moment s.event)
        (walk.Base key number Before old s.moment s.event) ended.sends x o
        → Holds (Settling key s.moment walk.Anybody (Then Before old s) x) o
    then_on x None h = tt
    then_on x (Some m) h =
        settling_more key s.moment (walk.IsIts key number Before old s.moment s.event) walk.Anybody
        (SaidBy key s.moment number (walk.HasLink key number Before old s.moment s.event)
        (walk.IsIts key number Before old s.moment s.event)
        (walk.Base key number Before old s.moment s.event) ended.sends) (Then Before old s)
        m
        (λ its. tt) (λ l k. said_then (conversation_with m) l k) x h

    pub after_event : old.moment ≤ s.moment → IsConsistent old → IsSettled Before old
        → IsSettled (Then Before old s) new
    after_event later order was =
        subst (λ (r : Router). IsSettled (Then Before old s) r) (sym happens.router)
        (then_on (held s.moment key ended.router.area.database)
        (neighbor_at number ended.router.area.links)
        (walk.ends key number Before old s.moment s.event later s.outs new happens order was))

    pub new_moment : new.moment ≡ s.moment
    new_moment = ap (λ (r : Router). r.moment) happens.router

  -- ---- all of them

  at_end : (Before : Saying) (r : Router) → IsSettled Before r → IsSettled (After Before r [] r) r
  at_end Before r h =
      more_said r Before (After Before r [] r) (λ m at on l said. inl (
        said,
        (
          refl,
          record {
            neighbor = m;
            there = at;
            exchanging = on;
            is = refl;
          },
        ),
      )) h

  run_kept : (steps : List Step) (old new : Router) (Before : Saying) → Run old steps new
      → ClockRunsOn old.moment steps → IsConsistent old → IsSettled Before old
      → IsSettled (After Before old steps new) new
  run_kept [] old new Before same clock order h =
      subst (λ (r : Router). IsSettled (After Before old [] r) r) (sym same) (at_end Before old h)
  run_kept (s ∷ steps) old new Before run clock order h =
      let middle : Router = run.0 in
      let happens : Happens old s.moment s.event s.outs middle = run.1 in
      let on : IsSettled (After (Then Before old s) middle steps new) new =
      run_kept steps middle new (Then Before old s) run.2
      (subst (λ m. ClockRunsOn m steps) (sym (new_moment Before old s middle happens)) clock.1)
      (routers_stay_in_order.event old s.moment s.event s.outs middle happens order)
      (after_event Before old s middle happens clock.0 order h) in
      more_said new (After (Then Before old s) middle steps new) (After Before old (s ∷ steps) new)
      (λ m at exchanges l said. whole (conversation_with m) l said) on
    where
      whole : (w : Conversation) (l : ListEntry) → After (Then Before old s) run.0 steps new w l
          → After Before old (s ∷ steps) new w l
      whole w l (inl (inl k, goes)) = inl (k.0, (k.1, run.0, run.1, goes))
      whole w l (inl (inr k, goes)) = inr
          (k.0, WasExchanged.Now old run.0 new s steps run.1 k.1 k.2 goes)
      whole w l (inr k) = inr (k.0, WasExchanged.Later old run.0 new s steps run.1 k.1)

-- ---- the law

abbrev NothingSaid : Saying
NothingSaid with_it l = ⊥

module _ (c : Config) (steps : List Step) (r : Router) (run : Run (initial c) steps r)
    (clock : ClockRunsOn c.start steps) (number : ℕ) (n : Neighbor)
    (at : neighbor_at number r.area.links ≡ Some n) (on : is_exchange_or_later n.state ≡ true)
    (key : Key) (copy : DatabaseCopy) (there : finite.get r.area.database key ≡ Some copy)
    (free : IsNotOwed n key) where
  abbrev Said : Saying
  Said = After key number NothingSaid (initial c) steps r

  alone_settled : (o : Option Neighbor) → o ≡ None
      → Holds (Settling key (initial c).moment walk.Anybody NothingSaid
      (held (initial c).moment key (initial c).area.database)) o
  alone_settled None is = tt
  alone_settled (Some m) is = absurd cc

  all_settled : IsSettled key number Said r
  all_settled =
      run_kept key number steps (initial c) r NothingSaid run
      (subst (λ m. ClockRunsOn m steps) (sym (begins_alone c number).1) clock)
      (routers_stay_in_order.first c)
      (alone_settled (neighbor_at number (initial c).area.links) (begins_alone c number).0)

  its_settled : Settling key r.moment walk.Anybody Said (Some (copy_now r.moment copy)) n
  its_settled =
      subst (λ (x : Option DatabaseCopy). Settling key r.moment walk.Anybody Said
      (instance_at r.moment x) n) there
      (subst (λ (o : Option Neighbor). Holds
      (Settling key r.moment walk.Anybody Said (held r.moment key r.area.database)) o) at
      all_settled)

  known : Settling key r.moment walk.Anybody Said (Some (copy_now r.moment copy)) n
      → WasExchangedAsNew number (conversation_with n) key (copy_now r.moment copy) (initial c)
      steps r
  known (inl before) = let no : true ≡ false = sym on ∙ before in absurd cc
  known (inr s) = by_place s.2
    where
      by_saying : (l : ListEntry) → is_at_least (listed_now r.moment l) (copy_now r.moment copy)
          ≡ true → Said (conversation_with n) l
          → WasExchangedAsNew number (conversation_with n) key (copy_now r.moment copy)
          (initial c) steps r
      by_saying l new (inl k) = absurd k.0
      by_saying l new (inr k) = record { entry = l; of_key = k.0; as_new = new; exchanged = k.1 }

      by_place : HasAny key r.moment walk.Anybody Said (Some (copy_now r.moment copy))
          n.retransmissions n.summary (conversation_with n)
          → WasExchangedAsNew number (conversation_with n) key (copy_now r.moment copy)
          (initial c) steps r
      by_place (inl listed) = let no : true ≡ false = sym listed ∙ free.acknowledged in absurd cc
      by_place (inr (inl k)) = let no : true ≡ false = sym (ap is_some k.1) ∙ free.described in
          absurd cc
      by_place (inr (inr k)) = by_saying k.0 k.2 k.1

pub held_was_exchanged : WhatIsHeldWasExchanged
held_was_exchanged c steps r run clock number n at on key copy there free =
    known c steps r run clock number n at on key copy there free
    (its_settled c steps r run clock number n at on key copy there free)

-- ---- for a Full neighbor

pub exchanged_with_full : WasExchangedWithFullNeighbors
exchanged_with_full c steps r run clock number n at full key copy there free =
    let empty : n.summary ≡ finite.empty =
    nothing_is_left c steps r run number n at (ap is_exchange_done full) in
    held_was_exchanged c steps r run clock number n at (ap is_exchange_or_later full) key copy there
    (record {
      acknowledged = free;
      described =
          ap (λ (l : ByKey ListEntry). finite.contains_key l key) empty
          ∙ ap is_some (finite.get-empty {X = ListEntry} key_cmp key);
    })
