-- If an event removes an instance from a retransmission list as acknowledged, its packet says so.
use Rattle.std.proofs.Common.{◌≡◌, ◌≤◌, ℕ, true, false, List, [], ◌∷◌, map, Option, None, Some, inl}
use Rattle.std.proofs.Common.{inr, refl, sym, subst, ◌∙◌, arith}
use Rattle.std.specs.FinMap as finite
use Rattle.std.specs.List.{AllByRecursion, filter}
use Rattle.words.specs.declared.key.Key.{Key}
use Rattle.words.specs.declared.route.External.{External}
use Rattle.lsdb.specs.Copies.{DatabaseCopy}
use Rattle.lsdb.specs.Headers.{lsa_key}
use Rattle.lsdb.specs.Instances.{ListEntry}
use Rattle.adjacency.specs.Neighbors.{Neighbor}
use Rattle.adjacency.proofs.Kept.{chosen}
use Rattle.adjacency.proofs.Maps.{AllIn, IfThere, OfEntry, entries_in, inserted_in, removed_in}
use Rattle.received.specs.Holds.{Holds}
use Rattle.received.specs.Links.{neighbor_at}
use Rattle.received.proofs.Holding.{one_holds}
use Rattle.event_rules.proofs.Walk.{Brings, Invariant, IsKeptByParts, MayGrow, OfEvent}
use Rattle.event_rules.specs.declared.model.Config.{Config}
use Rattle.event_rules.specs.declared.model.Out.{Out}
use Rattle.event_rules.specs.Endings.{end_event, start_event}
use Rattle.event_rules.specs.EventState.{EventState}
use Rattle.event_rules.specs.Events.{Happens, Run, Step, initial}
use Rattle.event_rules.specs.InstanceIdentities.{InstanceIdentity, identity_of_lsa}
use Rattle.event_rules.specs.Originations.{due_keys, external_key, is_due, wanted_keys}
use Rattle.event_rules.specs.Routers.{Occurrence, Router}
use Rattle.invariants.specs.Retransmissions.{AreOfTheDatabase, IsOfCopy}
use Rattle.invariants.specs.InOrder.{AnnouncesItsOwn, IsConsistent, RoutersStayInOrder}
use Rattle.invariants.specs.Keeping.{WhatIsTakenOffWasTold}
use Rattle.invariants.specs.TakenOff.{IsAsked, MayLeaveByFlooding, IsTakenOff, IsTold}
use Rattle.invariants.specs.TakenOff.{comes_to_max_age, is_gone_or_stored, listed_instance}
use Rattle.invariants.proofs.Known.{first_own, own_stays}
use Rattle.invariants.proofs.EventWalk.{event_kept_too}
use Rattle.invariants.proofs.Leaving.{Ended, Lately, begins, each_part}
use Rattle.invariants.proofs.Limits.{AreExternal, one_less, one_more, others_stay_within_limits}
use Rattle.invariants.proofs.Owing.{Owing}
use Rattle.invariants.proofs.Retransmitted.{IsItsOwn, parts_keep, read}
use Rattle.invariants.proofs.Retransmitted.{retransmissions_are_of_the_database}
use Rattle.invariants.proofs.Unasked.{brought_any}

-- ---- the invariant at each point of an event: copies have their own keys, and external
-- destinations are announced under own keys

abbrev pub IsOwnExternal : ℕ → Key → External → Type 0
IsOwnExternal own key e = key.advertising_router ≡ own

abbrev pub in_order : ℕ → Invariant
in_order own = record {
  of_area = λ a sends. IsItsOwn a;
  of_announced = λ id announced. (id ≡ own) × AreExternal announced
      × AllIn (IsOwnExternal own) announced;
  of_lsa = λ lsa. Unit {0};
  of_key = λ key. key.advertising_router ≡ own;
  without_room = Unit {0};
}

module _ (own : ℕ) where
  keys_own : (es : List (Key × External)) → AllByRecursion (OfEntry (IsOwnExternal own)) es
      → AllByRecursion (in_order own).of_key (map (λ e. e.0) es)
  keys_own [] h = tt
  keys_own (e ∷ es) h = (h.0, keys_own es h.1)

  filtered_own : (moment : ℕ) (r : Router) (keys : List Key)
      → AllByRecursion (in_order own).of_key keys
      → AllByRecursion (in_order own).of_key (filter (is_due moment r) keys)
  filtered_own moment r [] h = tt
  filtered_own moment r (key ∷ keys) h =
      chosen (AllByRecursion (in_order own).of_key) (is_due moment r key)
      (key ∷ filter (is_due moment r) keys) (filter (is_due moment r) keys)
      (λ is. (h.0, filtered_own moment r keys h.1)) (λ is. filtered_own moment r keys h.1)

  due_own : (moment : ℕ) (r : Router) → (in_order own).of_announced r.id r.announced
      → AllByRecursion (in_order own).of_key (due_keys moment r)
  due_own moment r h = filtered_own moment r (wanted_keys r)
      (h.0, keys_own (finite.entries r.announced) (entries_in (IsOwnExternal own) r.announced h.2))

  pub order_kept : IsKeptByParts (in_order own)
  order_kept = record {
    ages = parts_keep.ages;
    flushes = parts_keep.flushes;
    originates = λ moment key says p of_key goes wants grows h. parts_keep.originates moment key
        says p tt goes wants (MayGrow.Anyway tt) (record { area = h.area; announced = tt });
    own_router = λ r h. h.0;
    case = λ case moment number lsa so o h. parts_keep.case case moment number lsa tt o h;
    own_received = λ r lsa so is h. is ∙ h.0;
    hello = parts_keep.hello;
    description = parts_keep.description;
    requested = parts_keep.requested;
    mismatch = parts_keep.mismatch;
    acknowledgment = parts_keep.acknowledgment;
    due = due_own;
    inactive = parts_keep.inactive;
    again = parts_keep.again;
    acknowledges = parts_keep.acknowledges;
    hellos = parts_keep.hellos;
    announces = λ r e of_key h. (
      h.0,
      one_more r.announced (external_key r.id e.prefix) e refl h.1,
      inserted_in (IsOwnExternal own) r.announced (external_key r.id e.prefix) e h.2 of_key,
    );
    unannounces = λ r key h. (
      h.0,
      one_less r.announced key h.1,
      removed_in (IsOwnExternal own) r.announced key h.2,
    );
    link_down = parts_keep.link_down;
    loaded = parts_keep.loaded;
    requests = parts_keep.requests;
    removes = parts_keep.removes;
  }

pub order_brings : (old : Router) (event : Occurrence) → Brings (in_order old.id) old event
order_brings old event = record {
  packet = λ number bytes packet is text. brought_any packet.body;
  key = λ tagged tag priced price is. (refl, tt);
}

own_externals : (r : Router) → AnnouncesItsOwn r → AllIn (IsOwnExternal r.id) r.announced
own_externals r own key = found (finite.get r.announced key) (own key)
  where
    found : (o : Option External) → ((e : External) → o ≡ Some e → key.advertising_router ≡ r.id)
        → IfThere (IsOwnExternal r.id) key o
    found None each = tt
    found (Some e) each = each e refl

-- after aging
pub order_begun : (old : Router) (moment : ℕ) → IsConsistent old
    → OfEvent (in_order old.id) (start_event moment old)
order_begun old moment order = record {
  area = parts_keep.ages old.moment moment (record {
    area = old.area;
    sends = [];
  }) (read old order.retransmissions);
  announced = (refl, order.externals, own_externals old order.own);
}

-- ---- the law

module _ (old : Router) (moment : ℕ) (event : Occurrence) (new : Router) (number : ℕ)
    (before : Neighbor) (name : InstanceIdentity) (order : IsConsistent old)
    (taken : IsTakenOff old moment event new number before name) where
  -- the copy of the entry
  record HasCopy : Type 0 where
    copy : DatabaseCopy
    there : finite.get old.area.database name.key ≡ Some copy
    is : identity_of_lsa copy.lsa ≡ name

  entries : AreOfTheDatabase old.area.database before
  entries =
      subst (λ (n : Option Neighbor). Holds (AreOfTheDatabase old.area.database) n)
      taken.adjacent.was
      (one_holds (AreOfTheDatabase old.area.database) number old.area.links
      order.retransmissions.entries)

  has_copy : HasCopy
  has_copy = by_entry (finite.get before.retransmissions name.key) refl taken.stood
    where
      by_copy : (l : ListEntry) → listed_instance name.key (Some l) ≡ Some name
          → IsOfCopy old.area.database name.key l → HasCopy
      by_copy l stood of_copy =
          let copy : DatabaseCopy = of_copy.0 in
          let now : l.at ≤ l.at = omega arith in
          let its_key : lsa_key copy.lsa ≡ name.key =
          order.retransmissions.keys name.key copy of_copy.1 in
          let it : record {
            key = name.key;
            sequence = l.header.sequence;
            checksum = l.header.checksum;
          } ≡ name = cc in
          record {
            copy = copy;
            there = of_copy.1;
            is = (λ i. record {
              key = its_key i;
              sequence = (sym (of_copy.2 l.at now) i).sequence;
              checksum = (sym (of_copy.2 l.at now) i).checksum;
            }) ∙ it;
          }

      by_entry : (o : Option ListEntry) → finite.get before.retransmissions name.key ≡ o
          → listed_instance name.key o ≡ Some name → HasCopy
      by_entry None at stood = absurd cc
      by_entry (Some l) at stood = by_copy l stood (entries name.key l at)

module _ (old : Router) (moment : ℕ) (event : Occurrence) (outs : List Out) (new : Router)
    (happens : Happens old moment event outs new) (order : IsConsistent old) (number : ℕ)
    (before : Neighbor)
    (name : InstanceIdentity) (taken : IsTakenOff old moment event new number before name) where
  abbrev p : EventState
  p = end_event old moment happens.after

  its : HasCopy old moment event new number before name order taken
  its = has_copy old moment event new number before name order taken

  abbrev Result : Type 0
  Result = Ended old moment event number before name its.copy its.there its.is (record {
    area = p.router.area;
    sends = p.sends;
  }) p.router.originated

  result : Result
  result =
      let begun = begins old moment event number before name its.copy its.there its.is
      (read old order.retransmissions).keys before taken.adjacent.was
      (refl, taken.adjacent.from)
      (inr (taken.stood, λ e. IsAsked.Before e)) in
      event_kept_too (in_order old.id) (order_kept old.id)
      (Lately old moment event number before name its.copy its.there its.is)
      (Ended old moment event number before name its.copy its.there its.is) old moment event
      (each_part old moment event number before name its.copy its.there its.is (in_order old.id)
      (λ a sends h. h) (λ k h. h) (λ r h. h.1) begun.1)
      happens.after (order_brings old event) happens.own (order_begun old moment order) begun.0

  in_new : (P : Router → Type 0) → P p.router → P new
  in_new P h = subst P (sym happens.router) h

  still_owed : (n : Option Neighbor) → n ≡ Some taken.after
      → Holds (Owing name.key name (IsAsked event number before name.key)) n
      → IsTold event number before.router name
  still_owed None is h = absurd cc
  still_owed (Some m) is h = by_owing
      (subst (Owing name.key name (IsAsked event number before name.key)) same h)
    where
      same : m ≡ taken.after
      same = cc

      by_owing : Owing name.key name (IsAsked event number before name.key) taken.after
          → IsTold event number before.router name
      by_owing (inl gone) = let no_such : true ≡ false = sym taken.adjacent.on ∙ gone in absurd cc
      by_owing (inr so) = absurd (taken.left so.0)

  stored_new : is_gone_or_stored moment (finite.get p.router.area.database name.key) ≡ true
      → is_gone_or_stored moment (finite.get new.area.database name.key) ≡ true
  stored_new st = in_new (λ (r : Router). is_gone_or_stored moment
      (finite.get r.area.database name.key) ≡ true) st

  by_result : Result → IsTold event number before.router name
  by_result (Ended.EndTold told) = told
  by_result (Ended.EndReplaced newer st) =
      absurd (taken.not_by_flooding (MayLeaveByFlooding.Newer newer (stored_new st)))
  by_result (Ended.EndOriginated own now not_before st) =
      absurd (taken.not_by_flooding (MayLeaveByFlooding.Originated (record {
        own = own;
        now = in_new (λ (r : Router). finite.get r.originated name.key ≡ Some moment) now;
        not_before = not_before;
      }) (stored_new st)))
  by_result (Ended.EndOwed h) = still_owed (neighbor_at number p.router.area.links)
      (in_old taken.adjacent.is) h
    where
      in_old : neighbor_at number new.area.links ≡ Some taken.after
          → neighbor_at number p.router.area.links ≡ Some taken.after
      in_old at = subst (λ (r : Router). neighbor_at number r.area.links ≡ Some taken.after)
          happens.router at
  by_result (Ended.EndAged comes asked) =
      absurd (taken.not_by_flooding (MayLeaveByFlooding.Aged
      (in_new (λ (r : Router). comes_to_max_age old.moment moment
      (finite.get old.area.database name.key) (finite.get r.area.database name.key) ≡ true)
      (subst (λ (x : Option DatabaseCopy). comes_to_max_age old.moment moment x
      (finite.get p.router.area.database name.key) ≡ true) (sym its.there) comes)) asked))

  pub told : IsTold event number before.router name
  told = by_result result

pub taken_off_was_told : WhatIsTakenOffWasTold
taken_off_was_told old moment event outs new happens order number before name taken =
    told old moment event outs new happens order number before name taken

-- ---- routers keep the invariant

stays_in_order : (old : Router) (moment : ℕ) (event : Occurrence) (outs : List Out) (new : Router)
    → Happens old moment event outs new → IsConsistent old → IsConsistent new
stays_in_order old moment event outs new happens order = record {
  own = own_stays old moment event outs new happens order.own;
  externals = others_stay_within_limits.event old moment event outs new happens order.externals;
  retransmissions = retransmissions_are_of_the_database.event old moment event outs new happens
      order.retransmissions;
}

run_in_order : (steps : List Step) (old new : Router) → Run old steps new → IsConsistent old
    → IsConsistent new
run_in_order [] old new same order = subst IsConsistent (sym same) order
run_in_order (s ∷ steps) old new run order =
    run_in_order steps run.0 new run.2
    (stays_in_order old s.moment s.event s.outs run.0 run.1 order)

first_in_order : (c : Config) → IsConsistent (initial c)
first_in_order c = record {
  own = first_own c;
  externals = others_stay_within_limits.first c;
  retransmissions = retransmissions_are_of_the_database.first c;
}

pub routers_stay_in_order : RoutersStayInOrder
routers_stay_in_order = record {
  first = first_in_order;
  event = stays_in_order;
  run = λ c steps new run. run_in_order steps (initial c) new run (first_in_order c);
}
