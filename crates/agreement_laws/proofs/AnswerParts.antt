-- What each part of an event keeps of the Descriptions that were sent at an interface, and of its
-- neighbor: each is right by the neighbor's role.
use Rattle.std.proofs.Common.{◌≡◌, ℕ, zero, suc, ◌+◌, Bool, true, false, cond, ◌&&◌, ◌⊎◌}
use Rattle.std.proofs.Common.{inl, inr, List, [], ◌∷◌, ◌++◌, map, Option, None, Some, refl, sym}
use Rattle.std.proofs.Common.{ap, subst, ◌∙◌, arith}
use Rattle.std.specs.Prelude.{◌==◌, slice_get}
use Rattle.std.specs.FinMap as finite
use Rattle.std.specs.List.{Contains, enumerate_from, flat_map, fold}
use Rattle.std.proofs.lemmas.Bool.{and_parts, eq-eqb, eqb-true}
use Rattle.std.proofs.lemmas.List.Elements.{Contains-append_cases}
use Rattle.words.specs.declared.key.Key.{Key}
use Rattle.lsdb.specs.Copies.{DatabaseCopy, has_just_aged_out, install_flooded, lsa_now}
use Rattle.lsdb.specs.Headers.{Header, Lsa, lsa_key}
use Rattle.packet.specs.declared.model.Description.{Description}
use Rattle.packet.specs.declared.model.Hello.{Hello}
use Rattle.adjacency.specs.Adjacencies as adjacencies
use Rattle.adjacency.specs.Contents.{Content, Step, Updates, no_sends}
use Rattle.adjacency.specs.Descriptions.{after_description}
use Rattle.adjacency.specs.Floods.{flooding, without_satisfied_request}
use Rattle.adjacency.specs.Neighbors.{Neighbor, is_exchange_or_later}
use Rattle.adjacency.specs.Requests.{request_next}
use Rattle.adjacency.specs.Retransmissions.{after_acknowledgment, remove_retransmission}
use Rattle.adjacency.proofs.Kept.{chosen}
use Rattle.received.specs.Cases.{Case}
use Rattle.received.specs.Flooding.{flood, flood_to, is_incoming}
use Rattle.received.specs.Holds.{Holds}
use Rattle.received.specs.Links.{Link, change_link, delay_acknowledgment, link_at, neighbor_at}
use Rattle.received.specs.Links.{neighbor_on}
use Rattle.received.specs.AreaStates.{AreaState, Send, Stepping, each_neighbor, on_database}
use Rattle.received.specs.AreaStates.{on_links}
use Rattle.received.specs.AreaStates.{one_neighbor, only_at, sending, sends_at, sent_on, step_on}
use Rattle.received.specs.AreaStates.{stepped_links, stepping_sends, sends_of}
use Rattle.received.specs.Updates.{after_case, database_copy, send_copy}
use Rattle.event_rules.specs.Commands.{taken_down}
use Rattle.event_rules.specs.Endings.{flood_if_aged, link_loading_done}
use Rattle.event_rules.specs.EventState.{flood_from_nobody}
use Rattle.event_rules.specs.Hellos.{accepts, agrees, hello_is_due, hello_on, is_foreign, may_be}
use Rattle.event_rules.specs.Hellos.{names}
use Rattle.event_rules.specs.Packets.{accept_hello, receive_description, receive_hello}
use Rattle.event_rules.specs.Packets.{receive_hello_on, with_neighbor}
use Rattle.event_rules.specs.Ticks.{acknowledgments_on, again, expire_timers, hello_sent_on}
use Rattle.event_rules.specs.Ticks.{send_acknowledgments}
use Rattle.event_rules.specs.Ticks.{send_hellos, with_hello_sent, without_acknowledgments}
use Rattle.invariants.proofs.Flooding.{flooding_so}
use Rattle.invariants.proofs.Leaving.{each_kept_at, numbered_kept, stepped_kept}
use Rattle.invariants.proofs.Lists.{later_is, of_cons, of_empty}
use Rattle.invariants.proofs.Taken.{named_first}
use Rattle.agreement_laws.specs.Exchanged.{Conversation}
use Rattle.agreement_laws.specs.Accepted.{accepts_description}
use Rattle.agreement_laws.proofs.AnswerSteps.{AreOther, OfStep, Sound, With, fewer, none_sent}
use Rattle.agreement_laws.proofs.AnswerSteps.{one_other}
use Rattle.agreement_laws.proofs.AnswerSteps as steps
use Rattle.agreement_laws.proofs.Lists.{some_same}
use Rattle.agreement_laws.proofs.Steps as neighbor_steps
use Rattle.agreement_laws.proofs.AtInterface as interface

-- ---- what is sent, by interfaces

abbrev pub at_place : ℕ → Content → Send
at_place number c = record { interface = number; content = c }

in_sends_at : (k : ℕ) (cs : List Content) (number : ℕ) (c : Content)
    → Contains (sends_at k cs) (at_place number c) → (k ≡ number) × Contains cs c
in_sends_at k [] number c h = absurd (of_empty (at_place number c) h)
in_sends_at k (x ∷ cs) number c h =
    by_place (λ j. in_sends_at k cs number c j)
    (of_cons (at_place k x) (sends_at k cs) (at_place number c) h)
  where
    by_place : (Contains (sends_at k cs) (at_place number c) → (k ≡ number) × Contains cs c)
        → (at_place k x ≡ at_place number c) ⊎ Contains (sends_at k cs) (at_place number c)
        → (k ≡ number) × Contains (x ∷ cs) c
    by_place rest (inl is) =
        (ap (λ (s : Send). s.interface) is, named_first x cs c (ap (λ (s : Send). s.content) is))
    by_place rest (inr j) = let r = rest j in (r.0, later_is x cs c r.1)

module _ (g : ℕ → Link → List Content) (number : ℕ) (c : Content) where
  abbrev FromPlace : ℕ → List Link → Type 0
  FromPlace k xs =
      (i : ℕ) × (link : Link) × (slice_get xs i ≡ Some link) × (number ≡ k + i)
      × Contains (g number link) c

  from_place : (k : ℕ) (xs : List Link)
      → Contains (flat_map (λ (e : ℕ × Link). sends_at e.0 (g e.0 e.1)) (enumerate_from k xs))
      (at_place number c) → FromPlace k xs
  from_place k [] h = absurd (of_empty (at_place number c) h)
  from_place k (x ∷ xs) h =
      by_place (λ j. from_place (k + 1) xs j)
      (Contains-append_cases (sends_at k (g k x))
      (flat_map (λ (e : ℕ × Link). sends_at e.0 (g e.0 e.1)) (enumerate_from (k + 1) xs))
      (at_place number c) h)
    where
      by_place : (Contains (flat_map (λ (e : ℕ × Link). sends_at e.0 (g e.0 e.1))
          (enumerate_from (k + 1) xs)) (at_place number c) → FromPlace (k + 1) xs)
          → Contains (sends_at k (g k x)) (at_place number c)
          ⊎ Contains (flat_map (λ (e : ℕ × Link). sends_at e.0 (g e.0 e.1))
          (enumerate_from (k + 1) xs)) (at_place number c)
          → FromPlace k (x ∷ xs)
      by_place rest (inl j) =
          let it = in_sends_at k (g k x) number c j in
          let is : k ≡ number = it.0 in
          let e : number ≡ k + 0 = omega (arith, is) in
          (0, x, refl, e, subst (λ (n : ℕ). Contains (g n x) c) is it.1)
      by_place rest (inr j) =
          let r = rest j in
          let is : number ≡ k + 1 + r.0 = r.3 in
          let e : number ≡ k + suc r.0 = omega (arith, is) in (suc r.0, r.1, r.2, e, r.4)

  -- what is sent at the interface is of its link
  from_links : (xs : List Link)
      → Contains (flat_map (λ (e : ℕ × Link). sends_at e.0 (g e.0 e.1)) (enumerate_from 1 xs))
      (at_place number c)
      → (link : Link) × (link_at number xs ≡ Some link) × Contains (g number link) c
  from_links xs h =
      let r = from_place 1 xs h in
      let is : number ≡ 1 + r.0 = r.3 in
      let e : suc r.0 ≡ number = omega (arith, is) in
      (r.1, subst (λ (n : ℕ). link_at n xs ≡ Some r.1) e r.2, r.4)

-- ---- the neighbor after a step of each

module _ (f : Stepping) where
  stepped_place : (k i : ℕ) (xs : List Link) (link : Link) → slice_get xs i ≡ Some link
      → neighbor_on (slice_get (map (λ (e : ℕ × Link).
      record e.1 { neighbor = step_on (f e.0 e.1) e.1.neighbor }) (enumerate_from k xs)) i)
      ≡ step_on (f (k + i) link) link.neighbor
  stepped_place k i [] link at = absurd cc
  stepped_place k zero (x ∷ xs) link at =
      let e : k ≡ k + 0 = omega arith in
      ap (λ (l : Link). step_on (f k l) l.neighbor) (some_same at)
      ∙ ap (λ (n : ℕ). step_on (f n link) link.neighbor) e
  stepped_place k (suc i) (x ∷ xs) link at =
      let e : k + 1 + i ≡ k + suc i = omega arith in
      stepped_place (k + 1) i xs link at ∙ ap (λ (n : ℕ). step_on (f n link) link.neighbor) e

  stepped_at : (number : ℕ) (xs : List Link) (link : Link) → link_at number xs ≡ Some link
      → neighbor_at number (stepped_links f xs) ≡ step_on (f number link) link.neighbor
  stepped_at zero xs link at = absurd cc
  stepped_at (suc i) xs link at =
      let e : 1 + i ≡ suc i = omega arith in
      stepped_place 1 i xs link at ∙ ap (λ (n : ℕ). step_on (f n link) link.neighbor) e

  nobody_at : (number : ℕ) (xs : List Link) → neighbor_at number xs ≡ None
      → neighbor_at number (stepped_links f xs) ≡ None
  nobody_at number xs is =
      stepped_kept (λ (n : Option Neighbor). n ≡ None) (λ (n : Option Neighbor). n ≡ None)
      (λ e. e) f number (λ link e. ap (step_on (f number link)) e) xs is

-- ---- flooding sends no Descriptions

flood_other : (moment : ℕ) (from : Bool) (lsa : Lsa) (m : Neighbor)
    → AreOther (flooding moment from lsa m).sends
flood_other moment from lsa m =
    flooding_so (λ (s : Step). AreOther s.sends) moment m from lsa
    (one_other (Updates lsa) tt) none_sent none_sent

-- ---- the parts

module _ (own : ℕ) (Acc : Description → Type 0) (Began : Conversation → Type 0)
    (Was : Description → Type 0) (number moment : ℕ) where
  -- sent before, or in the event
  abbrev pub Said : List Send → Description → Type 0
  Said sends d = Was d ⊎ Contains sends (at_place number (Content.Describes d))

  abbrev pub IsSound : List Send → Neighbor → Type 0
  IsSound sends m = Sound own Acc Began (Said sends) m

  abbrev pub There : List Send → Option Neighbor → Type 0
  There sends o = Holds (IsSound sends) o

  abbrev pub Stands : AreaState → Type 0
  Stands o = There o.sends (neighbor_at number o.area.links)

  -- ---- what is sent

  abbrev NoneHere : List Send → Type 0
  NoneHere more = (d : Description) → Contains more (at_place number (Content.Describes d)) → ⊥

  more_sent : (sends more : List Send) → NoneHere more → (o : Option Neighbor) → There sends o
      → There (sends ++ more) o
  more_sent sends more none None h = tt
  more_sent sends more none (Some m) h =
      fewer own Acc Began (Said sends) (Said (sends ++ more)) by m h
    where
      by_place : (d : Description) → Contains sends (at_place number (Content.Describes d))
          ⊎ Contains more (at_place number (Content.Describes d)) → Said sends d
      by_place d (inl c) = inr c
      by_place d (inr c) = absurd (none d c)

      by : (d : Description) → Said (sends ++ more) d → Said sends d
      by d (inl k) = inl k
      by d (inr c) =
          by_place d (Contains-append_cases sends more (at_place number (Content.Describes d)) c)

  sent : (more : List Send) (o : AreaState) → NoneHere more → Stands o
      → Stands (sending moment more o)
  sent more o none h = more_sent o.sends more none (neighbor_at number o.area.links) h

  others_here : (place : ℕ) (cs : List Content) → AreOther cs → NoneHere (sends_at place cs)
  others_here place cs other d c =
      other (Content.Describes d) (in_sends_at place cs number (Content.Describes d) c).1

  others_of : (g : Link → List Content) → ((link : Link) → AreOther (g link)) → (xs : List Link)
      → NoneHere (sends_of g xs)
  others_of g other xs d c =
      let r = from_links (λ (i : ℕ) (link : Link). g link) number (Content.Describes d) xs c in
      other r.0 (Content.Describes d) r.2

  -- ---- links

  each_link : (g : Link → Link) (o : AreaState)
      → ((link : Link) → There o.sends link.neighbor → There o.sends (g link).neighbor)
      → Stands o → Stands (on_links (map g) o)
  each_link g o keeps h =
      each_kept_at (There o.sends) (There o.sends) (λ n. n) g number keeps o.area.links h

  change_at : (place : ℕ) (change : Link → Link) (o : AreaState)
      → ((link : Link) → There o.sends link.neighbor → There o.sends (change link).neighbor)
      → Stands o → Stands (on_links (change_link place change) o)
  change_at place change o keeps h =
      interface.changed (There o.sends) number place change o.area.links keeps h

  -- a step of each neighbor, with what it sends at its interface
  module _ (f : Stepping) (o : AreaState) (link : Link)
      (at : link_at number o.area.links ≡ Some link) where
    abbrev stepping : List Send
    stepping = stepping_sends f o.area.links

    sent_here : (m : Neighbor) → link.neighbor ≡ Some m → (d : Description)
        → Contains stepping (at_place number (Content.Describes d))
        → Contains (f number link m).sends (Content.Describes d)
    sent_here m is d j =
        let r = from_links (λ (i : ℕ) (l : Link). sent_on (f i l) l.neighbor) number
        (Content.Describes d) o.area.links j in
        subst (λ (n : Option Neighbor).
        Contains (sent_on (f number link) n) (Content.Describes d)) is
        (subst (λ (l : Link). Contains (sent_on (f number l) l.neighbor)
        (Content.Describes d)) (some_same (sym r.1 ∙ at)) r.2)

    further : (m : Neighbor) → link.neighbor ≡ Some m → (d : Description)
        → Said (o.sends ++ stepping) d
        → With own Acc Began (Said o.sends) (f number link m).sends d
    further m is d (inl k) = inl (inl k)
    further m is d (inr c) =
        by_place
        (Contains-append_cases o.sends stepping (at_place number (Content.Describes d)) c)
      where
        by_place : Contains o.sends (at_place number (Content.Describes d))
            ⊎ Contains stepping (at_place number (Content.Describes d))
            → With own Acc Began (Said o.sends) (f number link m).sends d
        by_place (inl j) = inl (inr j)
        by_place (inr j) = inr (sent_here m is d j)

    by_neighbor : ((m : Neighbor) → neighbor_at number o.area.links ≡ Some m
        → IsSound o.sends m → OfStep own Acc Began (Said o.sends) (f number link m))
        → Stands o → (n : Option Neighbor) → link.neighbor ≡ n
        → There (o.sends ++ stepping) (step_on (f number link) n)
    by_neighbor keeps h None is = tt
    by_neighbor keeps h (Some m) is =
        let there : neighbor_at number o.area.links ≡ Some m = ap neighbor_on at ∙ is in
        fewer own Acc Began (With own Acc Began (Said o.sends) (f number link m).sends)
        (Said (o.sends ++ stepping)) (further m is) (f number link m).neighbor
        (keeps m there (subst (There o.sends) there h))

  each_step : (f : Stepping) (o : AreaState)
      → ((link : Link) (m : Neighbor) → neighbor_at number o.area.links ≡ Some m
      → IsSound o.sends m → OfStep own Acc Began (Said o.sends) (f number link m))
      → Stands o → Stands (each_neighbor moment f o)
  each_step f o keeps h = by_link (link_at number o.area.links) refl
    where
      by_link : (l : Option Link) → link_at number o.area.links ≡ l
          → Stands (each_neighbor moment f o)
      by_link None at =
          subst (There (o.sends ++ stepping_sends f o.area.links))
          (sym (nobody_at f number o.area.links (ap neighbor_on at))) tt
      by_link (Some link) at =
          subst (There (o.sends ++ stepping_sends f o.area.links))
          (sym (stepped_at f number o.area.links link at))
          (by_neighbor f o link at (keeps link) h link.neighbor refl)

  one_step : (place : ℕ) (f : Neighbor → Step) (o : AreaState)
      → ((m : Neighbor) → neighbor_at number o.area.links ≡ Some m → (number == place) ≡ true
      → IsSound o.sends m → OfStep own Acc Began (Said o.sends) (f m))
      → Stands o → Stands (one_neighbor moment place f o)
  one_step place f o keeps h =
      each_step (only_at place f) o
      (λ link m is at. chosen (OfStep own Acc Began (Said o.sends)) (number == place) (f m)
      (record { neighbor = m; sends = [] }) (λ e. keeps m is e at)
      (λ e. steps.nothing own Acc Began (Said o.sends) m at)) h

  -- ---- flooding

  pub floods : (sender : Option ℕ) (lsa : Lsa) (o : AreaState) → Stands o
      → Stands (flood moment sender lsa o)
  floods sender lsa o h =
      each_step (flood_to moment sender lsa) o
      (λ link m is at. steps.flooded own Acc Began moment (is_incoming sender number) lsa
      (Said o.sends) m at) h

  -- ---- ages

  -- before Exchange nothing was sent in a conversation
  abbrev pub IsNew : Neighbor → Type 0
  IsNew m =
      is_exchange_or_later m.state ≡ false
      → ((w : Conversation) → Began w → ⊥) × ((d : Description) → Was d → ⊥)

  pub record Aged (o : AreaState) : Type 0 where
    pub stands : Stands o
    pub none : NoneHere o.sends
    pub new : Holds IsNew (neighbor_at number o.area.links)

  new_flooded : (lsa : Lsa) (m : Neighbor) → IsNew m → IsNew (flooding moment false lsa m).neighbor
  new_flooded lsa m h =
      let met : IsNew (without_satisfied_request moment lsa m) =
      neighbor_steps.met IsNew moment lsa m h h
      in neighbor_steps.flooded IsNew moment false lsa m met met h

  aged_one : (lsa : Lsa) (o : AreaState) → Aged o → Aged (flood_from_nobody moment lsa o)
  aged_one lsa o h = record {
    stands = floods None lsa o h.stands;
    none = none_here;
    new = interface.stepped (Holds IsNew) number f o.area.links (λ link m k. new_flooded lsa m k)
        h.new;
  }
    where
      f : Stepping
      f = flood_to moment None lsa

      other_on : (link : Link) (n : Option Neighbor) → AreOther (sent_on (f number link) n)
      other_on link None = none_sent
      other_on link (Some m) = flood_other moment false lsa m

      none_here : NoneHere (o.sends ++ stepping_sends f o.area.links)
      none_here d c =
          by_place (Contains-append_cases o.sends (stepping_sends f o.area.links)
          (at_place number (Content.Describes d)) c)
        where
          by_place : Contains o.sends (at_place number (Content.Describes d))
              ⊎ Contains (stepping_sends f o.area.links) (at_place number (Content.Describes d)) → ⊥
          by_place (inl j) = h.none d j
          by_place (inr j) =
              let r = from_links (λ (i : ℕ) (l : Link). sent_on (f i l) l.neighbor) number
              (Content.Describes d) o.area.links j in
              other_on r.0 r.0.neighbor (Content.Describes d) r.2

  pub ages : (before : ℕ) (es : List (Key × DatabaseCopy)) (o : AreaState) → Aged o
      → Aged (fold (flood_if_aged before moment) o es)
  ages before [] o h = h
  ages before (e ∷ es) o h =
      ages before es (flood_if_aged before moment o e)
      (chosen Aged (has_just_aged_out before moment e.1)
      (flood_from_nobody moment (lsa_now moment e.1) o) o
      (λ just. aged_one (lsa_now moment e.1) o h) (λ young. h))

  -- ---- packets

  copy_sent : (place : ℕ) (c : Option DatabaseCopy) (o : AreaState) → Stands o
      → Stands (send_copy moment place c o)
  copy_sent place None o h = h
  copy_sent place (Some c) o h =
      let says : List Content = Updates (lsa_now moment c) ∷ [] in
      sent (sends_at place says) o
      (others_here place says (one_other (Updates (lsa_now moment c)) tt)) h

  pub mismatches : (place : ℕ) (o : AreaState) → Stands o
      → Stands (one_neighbor moment place (adjacencies.mismatch_step moment) o)
  mismatches place o h =
      one_step place (adjacencies.mismatch_step moment) o
      (λ m is e at. steps.mismatched own Acc Began moment (Said o.sends) m at) h

  acknowledges_at_once : (place : ℕ) (x : Header) (o : AreaState) → Stands o
      → Stands (sending moment (sends_at place (Content.Acknowledges x ∷ [])) o)
  acknowledges_at_once place x o h =
      let says : List Content = Content.Acknowledges x ∷ [] in
      sent (sends_at place says) o
      (others_here place says (one_other (Content.Acknowledges x) tt)) h

  pub cases : (case : Case) (place : ℕ) (lsa : Lsa) (o : AreaState) → Stands o
      → Stands (after_case case moment place lsa o)
  cases Case.Unreadable place lsa o h = h
  cases Case.NothingToFlush place lsa o h = acknowledges_at_once place lsa.header o h
  cases Case.TooSoon place lsa o h = h
  cases Case.Newer place lsa o h =
      let p : AreaState = on_database (install_flooded moment lsa) o in
      change_at place (delay_acknowledgment lsa.header) (flood moment (Some place) lsa p)
      (λ link at. at) (floods (Some place) lsa p h)
  cases Case.BadRequest place lsa o h = mismatches place o h
  cases Case.ImpliedAcknowledgment place lsa o h =
      one_step place (λ m. no_sends (remove_retransmission (lsa_key lsa) m)) o
      (λ m is e at.
      steps.nothing own Acc Began (Said o.sends) (remove_retransmission (lsa_key lsa) m) at) h
  cases Case.Duplicate place lsa o h = acknowledges_at_once place lsa.header o h
  cases Case.SequenceWraps place lsa o h = h
  cases Case.SentJustNow place lsa o h = h
  cases Case.Older place lsa o h = copy_sent place (database_copy lsa o.area) o h

  pub hellos : (its place from : ℕ) (hello : Hello) → its ≡ own → (o : AreaState) → Stands o
      → Stands (receive_hello its moment place from hello o)
  hellos its place from hello same o h = by_link (link_at place o.area.links) refl
    where
      by_link : (link : Option Link) → link_at place o.area.links ≡ link
          → Stands (receive_hello_on its moment place from hello link o)
      by_link None is = h
      by_link (Some link) is =
          chosen Stands (accepts its from hello link) (accept_hello moment place s o) o
          (λ e. taken (subst (λ (i : ℕ). is_foreign i from ≡ true) same
          (and_parts (is_foreign its from) (agrees link hello && may_be link.neighbor from) e).0)
          (number == place) refl) (λ e. h)
        where
          s : Step
          s = adjacencies.after_hello moment from (names its hello) link.neighbor

          says : List Send
          says = sends_at place s.sends

          set : (ℕ × Link) → Link
          set e = cond (e.0 == place) (with_neighbor s.neighbor e.1) e.1

          here : (number == place) ≡ true → is_foreign own from ≡ true
              → IsSound (o.sends ++ says) s.neighbor
          here e foreign =
              fewer own Acc Began (With own Acc Began (Said o.sends) s.sends)
              (Said (o.sends ++ says)) by s.neighbor
              (steps.helloed own Acc Began moment from foreign (names its hello) (Said o.sends)
              link.neighbor at)
            where
              at : There o.sends link.neighbor
              at =
                  subst (λ (l : Option Link). There o.sends (neighbor_on l)) is
                  (subst (λ (i : ℕ). There o.sends (neighbor_at i o.area.links))
                  (eqb-true number place e) h)

              by_place : (d : Description)
                  → Contains o.sends (at_place number (Content.Describes d))
                  ⊎ Contains says (at_place number (Content.Describes d))
                  → With own Acc Began (Said o.sends) s.sends d
              by_place d (inl c) = inl (inr c)
              by_place d (inr c) =
                  inr (in_sends_at place s.sends number (Content.Describes d) c).1

              by : (d : Description) → Said (o.sends ++ says) d
                  → With own Acc Began (Said o.sends) s.sends d
              by d (inl k) = inl (inl k)
              by d (inr c) =
                  by_place d (Contains-append_cases o.sends says
                  (at_place number (Content.Describes d)) c)

          away : (number == place) ≡ false → NoneHere says
          away e d c =
              let its_place : place ≡ number =
              (in_sends_at place s.sends number (Content.Describes d) c).0 in
              let no : true ≡ false = sym (eq-eqb number place (sym its_place)) ∙ e in absurd cc

          taken : is_foreign own from ≡ true → (b : Bool) → (number == place) ≡ b
              → Stands (accept_hello moment place s o)
          taken foreign true e =
              numbered_kept (λ (n : Option Neighbor). Unit {0}) (There (o.sends ++ says)) (λ u. tt)
              set number
              (λ l u. chosen (λ (x : Link). There (o.sends ++ says) x.neighbor) (number == place)
              (with_neighbor s.neighbor l) l (λ k. here e foreign)
              (λ k. let no : true ≡ false = sym e ∙ k in absurd cc)) o.area.links tt
          taken foreign false e =
              more_sent o.sends says (away e) (neighbor_at number (map set
              (enumerate_from 1 o.area.links)))
              (numbered_kept (There o.sends) (There o.sends) (λ n. n) set number
              (λ l at. chosen (λ (x : Link). There o.sends x.neighbor) (number == place)
              (with_neighbor s.neighbor l) l
              (λ k. let no : true ≡ false = sym k ∙ e in absurd cc) (λ k. at)) o.area.links h)

  pub descriptions : (place : ℕ) (d : Description) (o : AreaState) → Aged o
      → ((m : Neighbor) → neighbor_at number o.area.links ≡ Some m → (number == place) ≡ true
      → is_foreign own m.router ≡ true → accepts_description own moment m d ≡ true → Acc d)
      → Stands (receive_description own moment place d o)
  descriptions place d o h acc =
      one_step place (after_description own moment o.area.database d) o
      (λ m is e at. steps.judged own Acc Began moment o.area.database d (Said o.sends) m at
      (λ early. new m is early) (acc m is e at.0)) h.stands
    where
      new : (m : Neighbor) → neighbor_at number o.area.links ≡ Some m
          → is_exchange_or_later m.state ≡ false
          → ((w : Conversation) → Began w → ⊥) × ((x : Description) → Said o.sends x → ⊥)
      new m is early = (so.0, by)
        where
          so : ((w : Conversation) → Began w → ⊥) × ((x : Description) → Was x → ⊥)
          so = subst (Holds IsNew) is h.new early

          by : (x : Description) → Said o.sends x → ⊥
          by x (inl k) = so.1 x k
          by x (inr c) = h.none x c

  pub acknowledgments : (place : ℕ) (headers : List Header) (o : AreaState) → Stands o
      → Stands (one_neighbor moment place
      (λ m. no_sends (after_acknowledgment moment headers m)) o)
  acknowledgments place headers o h =
      one_step place (λ m. no_sends (after_acknowledgment moment headers m)) o
      (λ m is e at. steps.nothing own Acc Began (Said o.sends)
      (after_acknowledgment moment headers m)
      (steps.acknowledged own Acc Began moment headers (Said o.sends) m at)) h

  pub requested : (place : ℕ) (lsas : List Lsa) (o : AreaState) → Stands o
      → Stands (sending moment (sends_at place (map Updates lsas)) o)
  requested place lsas o h =
      sent (sends_at place (map Updates lsas)) o
      (others_here place (map Updates lsas) (steps.mapped_other Updates (λ lsa. tt) lsas)) h

  -- ---- a Tick, a command, and the end

  pub inactive : (o : AreaState) → Stands o → Stands (on_links (map (expire_timers moment)) o)
  inactive o h =
      each_link (expire_timers moment) o
      (λ link at. interface.inactive (There o.sends) tt moment link.interface.dead_interval
      (λ m k. steps.old_description own Acc Began moment link.interface.dead_interval
      (Said o.sends) m k) link.neighbor at) h

  pub agains : (o : AreaState) → Stands o → Stands (each_neighbor moment (again moment o) o)
  agains o h =
      each_step (again moment o) o
      (λ link m is at. steps.again own Acc Began moment link.interface.retransmit_interval
      o.area.database (Said o.sends) m at) h

  pub acknowledges : (o : AreaState) → Stands o → Stands (send_acknowledgments moment o)
  acknowledges o h =
      sent (sends_of acknowledgments_on o.area.links) (on_links (map without_acknowledgments) o)
      (others_of acknowledgments_on
      (λ link. steps.mapped_other Content.Acknowledges (λ x. tt)
      (finite.values link.acknowledgments)) o.area.links)
      (each_link without_acknowledgments o (λ link at. at) h)

  pub hellos_sent : (o : AreaState) → Stands o → Stands (send_hellos moment o)
  hellos_sent o h =
      sent (sends_of (hello_sent_on moment) o.area.links)
      (on_links (map (with_hello_sent moment)) o)
      (others_of (hello_sent_on moment)
      (λ link. chosen AreOther (hello_is_due moment link)
      (Content.SendsHello (hello_on link) ∷ []) []
      (λ e. one_other (Content.SendsHello (hello_on link)) tt) (λ e. none_sent)) o.area.links)
      (each_link (with_hello_sent moment) o (λ link at. at) h)

  pub down : (place : ℕ) (o : AreaState) → Stands o
      → Stands (on_links (change_link place taken_down) o)
  down place o h = change_at place taken_down o (λ link at. tt) h

  pub loaded : (o : AreaState) → Stands o → Stands (on_links (map link_loading_done) o)
  loaded o h =
      each_link link_loading_done o
      (λ link at. interface.loaded (There o.sends) (steps.filled own Acc Began (Said o.sends))
      link.neighbor at) h

  pub requests : (o : AreaState) → Stands o
      → Stands (each_neighbor moment (λ place link m. request_next moment m) o)
  requests o h =
      each_step (λ place link m. request_next moment m) o
      (λ link m is at. steps.asked own Acc Began moment (Said o.sends) m at) h
