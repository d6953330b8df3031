-- What an event says about LSAs is held after it.
use Rattle.std.proofs.Common.{◌≡◌, ℕ, List, [], ◌∷◌, inl, inr, Option, None, Some, refl, sym, ap}
use Rattle.std.proofs.Common.{subst}
use Rattle.std.specs.FinMap as finite
use Rattle.std.specs.List.{AllByRecursion, Contains}
use Rattle.words.specs.declared.key.Key.{Key}
use Rattle.lsdb.specs.Copies.{copy_now}
use Rattle.lsdb.specs.Headers.{Header, key_of, lsa_key}
use Rattle.lsdb.specs.Instances.{ListEntry, instance_of}
use Rattle.lsdb.specs.Keys.{ByKey}
use Rattle.lsdb.specs.declared.order.Instance.{Instance}
use Rattle.packet.specs.declared.model.Description.{Description}
use Rattle.adjacency.specs.Contents.{Content}
use Rattle.adjacency.specs.Neighbors.{Neighbor}
use Rattle.adjacency.proofs.Maps.{AllIn, IfThere}
use Rattle.received.specs.Holds.{Holds}
use Rattle.received.specs.Links.{Link, link_at, neighbor_at, neighbor_on}
use Rattle.received.specs.AreaStates.{AreaState}
use Rattle.event_rules.specs.InstanceIdentities.{InstanceIdentity, identity_of_header}
use Rattle.event_rules.specs.declared.model.Out.{Out}
use Rattle.event_rules.specs.Endings.{end_event, start_event}
use Rattle.event_rules.specs.EventState.{EventState}
use Rattle.event_rules.specs.Events.{Happens}
use Rattle.event_rules.specs.Routers.{Occurrence, Router}
use Rattle.event_rules.proofs.Walk.{outcome}
use Rattle.invariants.proofs.Lists.{later_is}
use Rattle.invariants.proofs.Taken.{named_first}
use Rattle.invariants.specs.InOrder.{IsConsistent}
use Rattle.invariants.proofs.Acknowledged.{in_order, order_begun, order_brings, order_kept}
use Rattle.invariants.proofs.EventWalk.{IsKeptToo, event_kept_too}
use Rattle.invariants.proofs.Known.{of_member}
use Rattle.invariants.proofs.Limits.{new_key, wanted_type}
use Rattle.invariants.proofs.Retransmitted.{read}
use Rattle.received.proofs.Marks.{all_there}
use Rattle.agreement_laws.specs.SaidIsHeld.{IsAcknowledged, IsOfDatabase, IsReceived, IsToDescribe}
use Rattle.agreement_laws.specs.SaidIsHeld.{SaysWhatIsHeld, WhatIsSaidIsHeld, young}
use Rattle.agreement_laws.proofs.Having.{Whole, joined, whole_begun, whole_kept}
use Rattle.agreement_laws.proofs.Ranks.{follow, itself_at_least}
use Rattle.agreement_laws.proofs.Said as said
use Rattle.agreement_laws.proofs.Said.{AtEnd, IsSo, OnLink}
use Rattle.agreement_laws.proofs.Sayings.{OfAcknowledged, OfDescription, OfLast, OfLink, OfListed}
use Rattle.agreement_laws.proofs.Sayings.{OfNamed, OfNeighbor, OfReceived, OfSend, OfWaiting}
use Rattle.agreement_laws.proofs.Holding.{in_words}

module _ (old : Router) (moment : ℕ) (event : Occurrence) where
  abbrev X : AreaState → ByKey ℕ → Type 0
  X o t = IsSo old moment o

  abbrev Y : AreaState → ByKey ℕ → Type 0
  Y o t = AtEnd old moment event o

  abbrev Anything : AreaState → ByKey ℕ → Type 0
  Anything o t = Unit {0}

  abbrev Both : AreaState → ByKey ℕ → Type 0
  Both o t = X o t × Whole old event moment o.area.database

  says : IsKeptToo (in_order old.id) X Anything (start_event moment old) moment event
  says = record {
    flushes = λ k c o t at young area h. said.flushes old moment k c o area.keys at h;
    originates = λ k says p of_key goes may wants so h.
        said.originates old moment k says (outcome p)
        (new_key k (finite.get p.router.area.database k) says
        (wanted_type p.router k says so.announced.1 wants)) h;
    case = λ place packet heard case lsa o t among other is area h. said.cases old moment case place
        lsa o area.keys is h;
    hello = λ place packet hello heard is so h.
        said.hellos old moment (start_event moment old).router.id place packet.router hello
        (link_at place (start_event moment old).router.area.links)
        (outcome (start_event moment old)) refl h;
    description = λ place packet d heard is so h. said.descriptions old moment
        (start_event moment old).router.id place d (outcome (start_event moment old)) so.area.keys
        h;
    acknowledgment = λ place packet headers heard is so h. said.acknowledgments old moment place
        headers (outcome (start_event moment old)) h;
    requested = λ place keys o t area h. said.requested old moment place keys o area.keys h;
    mismatch = λ place o t area h. said.mismatches old moment place o h;
    forgets = λ r o area h. h;
    inactive = λ o t area h. said.inactive old moment o h;
    again = λ o t area h. said.agains old moment o area.keys h;
    acknowledges = λ o t area h. said.acknowledges old moment o h;
    hellos = λ o t area h. said.hellos_sent old moment o h;
    link_down = λ place o t area h. said.down old moment place o h;
    loaded = λ o t area h. said.loaded old moment o h;
    requests = λ o t area h. said.requests old moment o h;
    removes = λ o t area h. tt;
    stays = λ o t area h. tt;
  }

  each_part : IsKeptToo (in_order old.id) Both Y (start_event moment old) moment event
  each_part =
      joined (in_order old.id) X (λ o t. Whole old event moment o.area.database) Anything Anything Y
      (start_event moment old) moment event says (whole_kept old event moment)
      (λ o t h whole. said.removes old moment event o h whole)
      (λ o t h whole. said.stays_so old moment event o h)

  abbrev Now : Key → Instance → Type 0
  Now key i = said.AsNew old moment old.area.database key i

  -- what is still to be said before the event
  it_waits : (number : ℕ) (link : Link) → link_at number old.area.links ≡ Some link
      → AllIn (OfWaiting old Now number) link.acknowledgments
  it_waits number link at key = by_header (finite.get link.acknowledgments key) refl
    where
      by_header : (o : Option Header) → finite.get link.acknowledgments key ≡ o
          → IfThere (OfWaiting old Now number) key o
      by_header None e = tt
      by_header (Some h) e = inl (record { link = link; there = at; key = key; waits = e })

  each_header : (number : ℕ) (d : Description)
      → ((h : Header) → Contains d.headers h
      → IsToDescribe number (identity_of_header h) old.area.links)
      → OfDescription old Now number d
  each_header number d each = all d.headers each
    where
      all : (hs : List Header) → ((h : Header) → Contains hs h
          → IsToDescribe number (identity_of_header h) old.area.links)
          → AllByRecursion (λ (h : Header). OfNamed old Now number (identity_of_header h)) hs
      all [] left = tt
      all (h ∷ hs) left = (
        inl (left h (named_first h hs h refl)),
        all hs (λ x c. left x (later_is h hs x c)),
      )

  it_is_left : (number : ℕ) (o : Option Neighbor) → neighbor_at number old.area.links ≡ o
      → Holds (OfNeighbor old Now number) o
  it_is_left number None at = tt
  it_is_left number (Some n) at = record {
    summary = λ (key : Key). by_entry key (finite.get n.summary key) refl;
    last = by_last n.described refl;
  }
    where
      by_entry : (key : Key) (o : Option ListEntry) → finite.get n.summary key ≡ o
          → IfThere (OfListed old Now number) key o
      by_entry key None e = tt
      by_entry key (Some l) e = inl (IsToDescribe.Listed n key l at e refl)

      by_last : (o : Option Description) → n.described ≡ o → OfLast old Now number o
      by_last None e = tt
      by_last (Some d) e = each_header number d (λ h c. IsToDescribe.Last n d h at e c refl)

  it_stands : (number : ℕ) (o : Option Link) → link_at number old.area.links ≡ o
      → OnLink (OfLink old Now number) o
  it_stands number None at = tt
  it_stands number (Some link) at = record {
    acknowledgments = it_waits number link at;
    neighbor = it_is_left number link.neighbor (ap neighbor_on at);
  }

  starts : IsSo old moment (record { area = old.area; sends = [] })
  starts = record {
    had = λ key c at. (c, at, itself_at_least (copy_now moment c));
    said = record {
      sends = tt;
      left = λ number. it_stands number (link_at number old.area.links) refl;
    };
  }

  begun : IsConsistent old → X (outcome (start_event moment old)) old.originated
  begun order =
      said.ages old moment (finite.entries old.area.database) (record {
        area = old.area;
        sends = [];
      }) (read old order.retransmissions).keys
      (all_there old.area.database) starts

  module _ (outs : List Out) (new : Router) (happens : Happens old moment event outs new)
      (order : IsConsistent old) where
    abbrev ended : EventState
    ended = end_event old moment happens.after

    abbrev Held : Key → Instance → Type 0
    Held key i = said.Ended old moment event (outcome ended) key i

    so : AtEnd old moment event (outcome ended)
    so =
        event_kept_too (in_order old.id) (order_kept old.id) Both Y old moment event each_part
        happens.after (order_brings old event) happens.own (order_begun old moment order)
        (begun order, whole_begun old event moment)

    received : (number : ℕ) (h : Header) → OfReceived old Held number h
        → IsReceived old moment event ended.router number h
    received number h (inl waited) = IsReceived.Waited waited
    received number h (inr held) = IsReceived.Held
        (in_words follow (key_of h) moment (instance_of h) old event ended.router held)

    why : (number : ℕ) (h : Header) → OfAcknowledged old Held number h
        → IsAcknowledged old moment event ended.router number h
    why number h (inl so) = IsAcknowledged.Received (received number h so)
    why number h (inr nothing) = IsAcknowledged.NothingToFlush nothing.0 nothing.1

    of_database : (number : ℕ) (name : InstanceIdentity) → OfNamed old Held number name
        → IsOfDatabase old moment event ended.router number name
    of_database number name (inl left) = IsOfDatabase.ToDescribe left
    of_database number name (inr held) =
        IsOfDatabase.Held (in_words follow name.key moment (young name) old event ended.router held)

    of_left : (number : ℕ) (n : Neighbor) → neighbor_at number ended.router.area.links ≡ Some n
        → OfNeighbor old Held number n
    of_left number n at = by_link (link_at number ended.router.area.links) (so.left number) at
      where
        by_link : (o : Option Link) → OnLink (OfLink old Held number) o → neighbor_on o ≡ Some n
            → OfNeighbor old Held number n
        by_link None h is = absurd cc
        by_link (Some link) h is = subst (Holds (OfNeighbor old Held number)) is h.neighbor

    to_describe : (number : ℕ) (name : InstanceIdentity)
        → IsToDescribe number name ended.router.area.links
        → IsOfDatabase old moment event ended.router number name
    to_describe number name (IsToDescribe.Listed n key l at there is) =
        of_database number name (subst (OfNamed old Held number) is
        (subst (IfThere (OfListed old Held number) key) there
        ((of_left number n at).summary key)))
    to_describe number name (IsToDescribe.Last n d h at there c is) =
        of_database number name (subst (OfNamed old Held number) is
        (of_member (λ (x : Header). OfNamed old Held number (identity_of_header x)) d.headers
        (subst (OfLast old Held number) there (of_left number n at).last) h c))

    at_end : SaysWhatIsHeld old moment event ended.sends ended.router
    at_end = record {
      updates = λ number lsa c.
          in_words follow (lsa_key lsa) moment (instance_of lsa.header) old event ended.router
          (of_member (OfSend old Held) ended.sends so.sends (record {
            interface = number;
            content = Content.Updates lsa;
          }) c);
      acknowledged = λ number h c. why number h
          (of_member (OfSend old Held) ended.sends so.sends (record {
            interface = number;
            content = Content.Acknowledges h;
          }) c);
      waiting = λ number h w.
          let its : OnLink (OfLink old Held number) (Some w.link) =
          subst (OnLink (OfLink old Held number)) w.there (so.left number) in
          received number h (subst (IfThere (OfWaiting old Held number) w.key) w.waits
          (its.acknowledgments w.key));
      described = λ number d h c among.
          of_database number (identity_of_header h)
          (of_member (λ (x : Header). OfNamed old Held number (identity_of_header x)) d.headers
          (of_member (OfSend old Held) ended.sends so.sends (record {
            interface = number;
            content = Content.Describes d;
          }) c) h among);
      to_describe = to_describe;
    }

pub said_is_held : WhatIsSaidIsHeld
said_is_held old moment event outs new happens order =
    subst (λ (r : Router). SaysWhatIsHeld old moment event
    (end_event old moment happens.after).sends r) (sym happens.router)
    (at_end old moment event outs new happens order)
