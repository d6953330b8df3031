-- The announced destinations after an event: only a `Redistribute` adds one.
use Rattle.std.proofs.Common.{◌≡◌, ℕ, ◌<◌, ◌⊎◌, inl, inr, Bool, true, false, cond, not, ◌&&◌, List}
use Rattle.std.proofs.Common.{[], ◌∷◌, map, Option, None, Some, refl, sym, ◌∙◌, ap, subst}
use Rattle.std.specs.Prelude.{◌==◌, nat_le}
use Rattle.std.specs.FinMap as finite
use Rattle.routes.proofs.Lists.{first_is, later_is}
use Rattle.std.proofs.lemmas.Bool.{leb-false}
use Rattle.words.specs.Constants.{ls_infinity}
use Rattle.words.specs.Numbers.{InterfaceNumber, Moment, RouterNumber}
use Rattle.words.specs.Prefixes.{Network}
use Rattle.words.specs.declared.key.Key.{Key}
use Rattle.words.specs.declared.route.External.{External}
use Rattle.lsa.specs.Reading.{lsa_in}
use Rattle.lsa.specs.declared.body.LsaBody.{LsaBody}
use Rattle.lsa.specs.declared.body.LsaBody.TheVariants as says
use Rattle.lsa.specs.declared.body.ExternalLsa.{ExternalLsa}
use Rattle.lsdb.specs.Headers.{Lsa, lsa_key}
use Rattle.lsdb.specs.Keys.{ByKey, key_cmp, same_key}
use Rattle.lsdb.proofs.Keys.{keys_total}
use Rattle.packet.specs.declared.model.PacketBody.{PacketBody}
use Rattle.packet.specs.declared.model.PacketBody.TheVariants as body
use Rattle.packet.specs.declared.model.Packet.{Packet}
use Rattle.received.specs.Cases.{Case}
use Rattle.received.specs.Links.{neighbor_at}
use Rattle.received.specs.AreaStates.{on_links}
use Rattle.received.specs.Updates.{after_case, case_at, goes_on}
use Rattle.event_rules.specs.Commands.{after_redistribute, after_withdraw, announce, announce_as}
use Rattle.event_rules.specs.Commands.{answered_external, end_want, is_announced_as, is_for}
use Rattle.event_rules.specs.Endings.{end_event, is_current, links_differ, loading_done}
use Rattle.event_rules.specs.Endings.{originate_router_lsa}
use Rattle.event_rules.specs.Endings.{start_event}
use Rattle.event_rules.specs.Events.{Happens, OwnPart, Run, Step, initial}
use Rattle.event_rules.specs.EventState.{EventState, on_area, on_router}
use Rattle.event_rules.specs.Originations.{announced_body, due_keys, external_body, external_key}
use Rattle.event_rules.specs.Originations.{flush}
use Rattle.event_rules.specs.Originations.{forget_originations, has_max_sequence, has_room}
use Rattle.event_rules.specs.Originations.{should_originate}
use Rattle.event_rules.specs.Originations.{may_originate, originate, originate_anyway}
use Rattle.event_rules.specs.Originations.{originate_body}
use Rattle.event_rules.specs.Originations.{originate_due, originate_or_flush, originate_or_postpone}
use Rattle.event_rules.specs.Originations.{postpone, receive_self_originated, router_body}
use Rattle.event_rules.specs.Originations.{router_key}
use Rattle.event_rules.specs.Originations.{wanted_body}
use Rattle.event_rules.specs.Packets.{after_lsas, after_packet, after_self_originated}
use Rattle.event_rules.specs.Packets.{receive_acknowledgment}
use Rattle.event_rules.specs.Packets.{after_parsed, neighbor_is_exchange_or_later, case_in}
use Rattle.event_rules.specs.Packets.{after_heard}
use Rattle.event_rules.specs.Packets.{is_heard}
use Rattle.event_rules.specs.Packets.{receive_request}
use Rattle.event_rules.specs.Routers.{Occurrence, Router, unannounced_router}
use Rattle.event_rules.specs.Ticks.{after_tick, expire_timers}
use Rattle.event_rules.specs.declared.model.Config.{Config}
use Rattle.event_rules.specs.declared.model.Out.{Out}
use Rattle.program_laws.specs.Announced.{IsAskedFor, WhatIsAnnouncedWasAskedFor}
use Rattle.program_laws.proofs.Apart.{tied_key}

-- ---- parts that don't change them

abbrev pub Told : Type 0
Told = RouterNumber × ByKey External

abbrev pub told : EventState → Told
told p = (p.router.id, p.router.announced)

abbrev pub Leaves : (EventState → EventState) → Type 0
Leaves f = (p : EventState) → told (f p) ≡ told p

either : (t : Told) (b : Bool) (x y : EventState) → told x ≡ t → told y ≡ t → told (cond b x y) ≡ t
either t true x y one other = one
either t false x y one other = other

pub by_body : (may_now : Bool) (moment : Moment) (key : Key) (s : Option LsaBody)
    → Leaves (originate_body may_now moment key s)
by_body may_now moment key None p = refl
by_body may_now moment key (Some s) p =
    either (told p) (has_max_sequence (finite.get p.router.area.database key)) (flush moment key p)
    (cond (may_now && may_originate moment key p.router) (originate moment key s p)
    (on_router (postpone key) p)) refl
    (either (told p) (may_now && may_originate moment key p.router) (originate moment key s p)
    (on_router (postpone key) p) refl refl)

originates : (moment : Moment) (key : Key) → Leaves (originate_or_postpone moment key)
originates moment key p = by_body (has_room key p.router) moment key (wanted_body p.router key) p

each_due : (moment : Moment) (keys : List Key) → Leaves (originate_due moment keys)
each_due moment [] p = refl
each_due moment (key ∷ keys) p = each_due moment keys (originate_or_postpone moment key p)
    ∙ originates moment key p

pub ticked : (moment : Moment) → Leaves (after_tick moment)
ticked moment p =
    let q : EventState = on_router (forget_originations moment)
    (on_area (on_links (map (expire_timers moment))) p) in
    each_due moment (due_keys moment q.router) q

settled : (wanted : Bool) (moment : Moment) (key : Key)
    → Leaves (originate_or_flush wanted moment key)
settled true moment key p = originates moment key p
settled false moment key p = refl

own_received : (moment : Moment) (lsa : Lsa) → Leaves (receive_self_originated moment lsa)
own_received moment lsa p =
    either (told p) (lsa.header.advertising_router == p.router.id)
    (originate_or_flush (should_originate (wanted_body p.router (lsa_key lsa))) moment (lsa_key lsa)
    p)
    p
    (settled (should_originate (wanted_body p.router (lsa_key lsa))) moment (lsa_key lsa) p) refl

self_originated : (case : Case) (moment : Moment) (lsa : Lsa)
    → Leaves (after_self_originated case moment lsa)
self_originated Case.Unreadable moment lsa p = refl
self_originated Case.NothingToFlush moment lsa p = refl
self_originated Case.TooSoon moment lsa p = refl
self_originated Case.Newer moment lsa p = own_received moment lsa p
self_originated Case.BadRequest moment lsa p = refl
self_originated Case.ImpliedAcknowledgment moment lsa p = refl
self_originated Case.Duplicate moment lsa p = refl
self_originated Case.SequenceWraps moment lsa p = refl
self_originated Case.SentJustNow moment lsa p = refl
self_originated Case.Older moment lsa p = refl

unread : (moment : Moment) (number : InterfaceNumber) (lsa : Option Lsa)
    → Leaves (after_parsed moment number lsa)
unread moment number None p = refl
unread moment number (Some lsa) p =
    let case : Case = case_at moment number lsa p.router.area in
    self_originated case moment lsa (on_area (after_case case moment number lsa) p)

updated : (moment : Moment) (number : InterfaceNumber) (lsas : List (List ℕ))
    → Leaves (after_lsas moment number lsas)
updated moment number [] p = refl
updated moment number (bytes ∷ rest) p =
    let q : EventState = after_parsed moment number (lsa_in bytes) p in
    let one : told q ≡ told p = unread moment number (lsa_in bytes) p in
    either (told p) (goes_on (case_in moment number (lsa_in bytes) p))
    (after_lsas moment number rest q) q (updated moment number rest q ∙ one) one

from : (moment : Moment) (number : InterfaceNumber) (router : RouterNumber) (in_exchange : Bool)
    (b : PacketBody) → Leaves (after_heard moment number router in_exchange b)
from moment number router in_exchange (body.Hello h) p = refl
from moment number router in_exchange (body.Description d) p = refl
from moment number router in_exchange (body.Request keys) p =
    either (told p) in_exchange (on_area (receive_request moment number keys) p) p refl refl
from moment number router in_exchange (body.Update lsas) p =
    either (told p) in_exchange (after_lsas moment number lsas p) p (updated moment number lsas p)
    refl
from moment number router in_exchange (body.Acknowledgment headers) p =
    either (told p) in_exchange (on_area (receive_acknowledgment moment number headers) p) p refl
    refl

pub received : (moment : Moment) (number : InterfaceNumber) (packet : Packet)
    → Leaves (after_packet moment number packet)
received moment number packet p =
    let n = neighbor_at number p.router.area.links in
    either (told p) (is_heard p.router.id packet n)
    (after_heard moment number packet.router (neighbor_is_exchange_or_later n) packet.body p) p
    (from moment number packet.router (neighbor_is_exchange_or_later n) packet.body p) refl

pub ended : (old : Router) (moment : Moment) → Leaves (end_event old moment)
ended old moment p =
    let loaded : EventState = loading_done p in
    let key : Key = router_key loaded.router.id in
    let differ : Bool = links_differ old.area.links loaded.router.area.links && not
    (is_current moment loaded.router) in
    let q : EventState = originate_router_lsa old.area.links moment loaded in
    let again : EventState = loading_done q in
    either (told q) (links_differ q.router.area.links again.router.area.links)
    (on_router (postpone (router_key again.router.id)) again) again refl refl
    ∙ either (told p) differ (originate_or_postpone moment key loaded) loaded
    (originates moment key loaded) refl

-- ---- what an event adds

-- a `Redistribute` that announces the destination with this key
pub record Adds (own : RouterNumber) (event : Occurrence) (key : Key) (e : External) : Type 0 where
  pub tagged : External
  pub tag : ℕ
  pub asked : External
  pub price : ℕ
  pub is : event ≡ Occurrence.Redistribute tagged tag asked price
  pub answers : e ≡ answered_external asked tag price
  pub below : price < ls_infinity
  pub at : key ≡ external_key own e.prefix

abbrev Grows : RouterNumber → Occurrence → ByKey External → ByKey External → Type 0
Grows own event before after = (key : Key) (e : External) → finite.get after key ≡ Some e
    → (finite.get before key ≡ Some e) ⊎ Adds own event key e

same_grows : (own : RouterNumber) (event : Occurrence) (before after : ByKey External) → after
    ≡ before → Grows own event before after
same_grows own event before after same key e is =
    inl (ap (λ (m : ByKey External). finite.get m key) (sym same) ∙ is)

without_one : (own : RouterNumber) (event : Occurrence) (before : ByKey External) (k : Key)
    → Grows own event before (finite.remove before k)
without_one own event before k key e is =
    inl (by_key (same_key key k) (sym (finite.get-remove keys_total before k key) ∙ is))
  where
    by_key : (b : Bool) → cond b None (finite.get before key) ≡ Some e → finite.get before key
        ≡ Some e
    by_key true never = absurd (let none : None ≡ Some e = never in cc)
    by_key false here = here

with_one : (own : RouterNumber) (event : Occurrence) (before : ByKey External) (x : External)
    → ((key : Key) → key ≡ external_key own x.prefix → Adds own event key x)
    → Grows own event before (finite.insert before (external_key own x.prefix) x)
with_one own event before x adds key e is =
    by_key (same_key key (external_key own x.prefix)) refl
    (sym (finite.get-insert keys_total before (external_key own x.prefix) x key) ∙ is)
  where
    by_key : (b : Bool) → same_key key (external_key own x.prefix) ≡ b
        → cond b (Some x) (finite.get before key) ≡ Some e → (finite.get before key ≡ Some e)
        ⊎ Adds own event key e
    by_key true same found =
        let it : x ≡ e = let s : Some x ≡ Some e = found in cc in
        inr (subst (λ (y : External). Adds own event key y) it
        (adds key (tied_key key (external_key own x.prefix) same)))
    by_key false other here = inl here

module _ (moment : Moment) (tagged : External) (tag : ℕ) (asked : External) (price : ℕ)
    (p : EventState) where
  abbrev own : RouterNumber
  own = p.router.id

  abbrev event : Occurrence
  event = Occurrence.Redistribute tagged tag asked price

  abbrev key : Key
  key = external_key own asked.prefix

  abbrev x : External
  x = answered_external asked tag price

  abbrev q : EventState
  q = on_router (announce key x) p

  by_same : price < ls_infinity → (c : Bool)
      → Grows own event p.router.announced
      (cond c p (originate_anyway moment key q)).router.announced
  by_same below true = same_grows own event p.router.announced p.router.announced refl
  by_same below false =
      subst (λ (m : ByKey External). Grows own event p.router.announced m)
      (sym (ap (λ (t : Told). t.1) (by_body true moment key (wanted_body q.router key) q)))
      (with_one own event p.router.announced x (λ k at. record {
        tagged = tagged;
        tag = tag;
        asked = asked;
        price = price;
        is = refl;
        answers = refl;
        below = below;
        at = at;
      }))

  by_price : (b : Bool) → nat_le ls_infinity price ≡ b
      → Grows own event p.router.announced
      (cond b (end_want moment key p) (announce_as moment key x p)).router.announced
  by_price true high = without_one own event p.router.announced key
  by_price false low = by_same (leb-false ls_infinity price low)
      (is_announced_as x (finite.get p.router.announced key))

  redistributed : Grows own event p.router.announced
      (after_redistribute moment asked tag price p).router.announced
  redistributed = by_price (nat_le ls_infinity price) refl

withdrawn : (moment : Moment) (prefix : Network) (p : EventState)
    → Grows p.router.id (Occurrence.Withdraw prefix) p.router.announced
    (after_withdraw moment prefix p).router.announced
withdrawn moment prefix p = by_choice (is_for prefix (finite.get p.router.announced key))
  where
    key : Key
    key = external_key p.router.id prefix

    by_choice : (b : Bool) → Grows p.router.id (Occurrence.Withdraw prefix) p.router.announced
        (cond b (end_want moment (external_key p.router.id prefix) p) p).router.announced
    by_choice true = without_one p.router.id (Occurrence.Withdraw prefix) p.router.announced
        (external_key p.router.id prefix)
    by_choice false = same_grows p.router.id (Occurrence.Withdraw prefix) p.router.announced
        p.router.announced refl

pub redistributed_id : (moment : Moment) (asked : External) (tag price : ℕ) (p : EventState)
    → (after_redistribute moment asked tag price p).router.id ≡ p.router.id
redistributed_id moment asked tag price p = by_price_too (nat_le ls_infinity price)
  where
    by_same_too : (c : Bool) → (cond c p
        (originate_anyway moment (external_key p.router.id asked.prefix)
        (on_router (announce (external_key p.router.id asked.prefix)
        (answered_external asked tag price)) p))).router.id ≡ p.router.id
    by_same_too true = refl
    by_same_too false =
        let k : Key = external_key p.router.id asked.prefix in
        let grown : EventState = on_router (announce k (answered_external asked tag price)) p in
        ap (λ (t : Told). t.0) (by_body true moment k (wanted_body grown.router k) grown)

    by_price_too : (b : Bool) → (cond b (end_want moment (external_key p.router.id asked.prefix) p)
        (announce_as moment (external_key p.router.id asked.prefix)
        (answered_external asked tag price) p)).router.id ≡ p.router.id
    by_price_too true = refl
    by_price_too false = by_same_too (is_announced_as (answered_external asked tag price)
        (finite.get p.router.announced (external_key p.router.id asked.prefix)))

pub withdrawn_id : (moment : Moment) (prefix : Network) (p : EventState)
    → (after_withdraw moment prefix p).router.id ≡ p.router.id
withdrawn_id moment prefix p = by_choice_too
    (is_for prefix (finite.get p.router.announced (external_key p.router.id prefix)))
  where
    by_choice_too : (b : Bool) → (cond b (end_want moment (external_key p.router.id prefix) p)
        p).router.id ≡ p.router.id
    by_choice_too true = refl
    by_choice_too false = refl

-- ---- the event's own part, and the complete event

abbrev announced_of : EventState → ByKey External
announced_of p = p.router.announced

own_part : (moment : Moment) (event : Occurrence) (p after : EventState)
    → OwnPart moment event p after → (after.router.id ≡ p.router.id)
    × Grows p.router.id event (announced_of p) (announced_of after)
own_part moment (Occurrence.Packet number bytes) p after (packet, text, is) =
    let e : told after ≡ told p = ap told is ∙ received moment number packet p in (
      ap (λ (t : Told). t.0) e,
      same_grows p.router.id _ (announced_of p) (announced_of after)
          (ap (λ (t : Told). t.1) e),
    )
own_part moment Occurrence.Tick p after is =
    let e : told after ≡ told p = ap told is ∙ ticked moment p in (
      ap (λ (t : Told). t.0) e,
      same_grows p.router.id _ (announced_of p) (announced_of after)
          (ap (λ (t : Told). t.1) e),
    )
own_part moment (Occurrence.Redistribute tagged tag asked price) p after is =
    let P : EventState → Type 0 = λ q. (q.router.id ≡ p.router.id)
    × Grows p.router.id (Occurrence.Redistribute tagged tag asked price) (announced_of p)
    (announced_of q) in
    subst P (sym is) (
      redistributed_id moment asked tag price p,
      redistributed moment tagged tag asked price p,
    )
own_part moment (Occurrence.Withdraw prefix) p after is =
    let P : EventState → Type 0 = λ q. (q.router.id ≡ p.router.id)
    × Grows p.router.id (Occurrence.Withdraw prefix) (announced_of p) (announced_of q) in
    subst P (sym is) (withdrawn_id moment prefix p, withdrawn moment prefix p)
own_part moment (Occurrence.Install answers) p after is =
    let e : told after ≡ told p = ap told is in (
      ap (λ (t : Told). t.0) e,
      same_grows p.router.id _ (announced_of p) (announced_of after)
          (ap (λ (t : Told). t.1) e),
    )
own_part moment (Occurrence.LinkDown number) p after is =
    let e : told after ≡ told p = ap told is in (
      ap (λ (t : Told). t.0) e,
      same_grows p.router.id _ (announced_of p) (announced_of after)
          (ap (λ (t : Told). t.1) e),
    )

happened : (old : Router) (moment : Moment) (event : Occurrence) (outs : List Out) (new : Router)
    → Happens old moment event outs new → (new.id ≡ old.id)
    × Grows old.id event old.announced new.announced
happened old moment event outs new h =
    let own = own_part moment event (start_event moment old) h.after h.own in
    let end : told (end_event old moment h.after) ≡ told h.after = ended old moment h.after in
    let same : new.announced ≡ h.after.router.announced = ap (λ (r : Router). r.announced) h.router
    ∙ ap (λ (t : Told). t.1) end in (
      ap (λ (r : Router). r.id) h.router ∙ ap (λ (t : Told). t.0) end ∙ own.0,
      subst (λ (m : ByKey External). Grows old.id event old.announced m) (sym same) own.1,
    )

-- ---- runs

abbrev Asked : RouterNumber → List Step → Key → External → Type 0
Asked own steps key e = (key ≡ external_key own e.prefix) × IsAskedFor steps e

later : (s : Step) (steps : List Step) (e : External) → IsAskedFor steps e
    → IsAskedFor (s ∷ steps) e
later s steps e a = record {
  step = a.step;
  among = later_is s steps a.step a.among;
  tagged = a.tagged;
  tag = a.tag;
  asked = a.asked;
  price = a.price;
  is = a.is;
  answers = a.answers;
  below = a.below;
}

ran : (old : Router) (steps : List Step) (new : Router) → Run old steps new → (new.id ≡ old.id)
    × ((key : Key) (e : External) → finite.get new.announced key ≡ Some e
    → (finite.get old.announced key ≡ Some e) ⊎ Asked old.id steps key e)
ran old [] new is = (
  ap (λ (r : Router). r.id) is,
  λ key e there. inl (ap (λ (r : Router). finite.get r.announced key) (sym is) ∙ there),
)
ran old (s ∷ steps) new (middle, first, others) =
    let one = happened old s.moment s.event s.outs middle first in
    let rest = ran middle steps new others in (
      rest.0 ∙ one.0,
      λ key e there.
          elim (rest.1 key e there) [
            | inl before ↦
                elim (one.1 key e before) [
                  | inl earlier ↦ inl earlier
                  | inr a ↦ inr (
                    a.at,
                    record {
                      step = s;
                      among = first_is s steps;
                      tagged = a.tagged;
                      tag = a.tag;
                      asked = a.asked;
                      price = a.price;
                      is = a.is;
                      answers = a.answers;
                      below = a.below;
                    },
                  )
                ]
            | inr a ↦ inr (a.0 ∙ ap (λ own. external_key own e.prefix) one.0, later s steps e a.1)
          ],
    )

at_first : (c : Config) → (initial c).announced ≡ finite.empty
at_first c = ap (λ (t : Told). t.1) (originates c.start (router_key c.router) (record {
  router = unannounced_router c;
  sends = [];
}))

announced : (c : Config) (steps : List Step) (r : Router) → Run (initial c) steps r
    → (key : Key) (e : External) → finite.get r.announced key ≡ Some e → Asked r.id steps key e
announced c steps r run key e there =
    let all = ran (initial c) steps r run in
    elim (all.1 key e there) [
      | inl before ↦ absurd (let no : None ≡ Some e = sym (finite.get-empty key_cmp key)
          ∙ ap (λ (m : ByKey External). finite.get m key) (sym (at_first c)) ∙ before in cc)
      | inr a ↦ (a.0 ∙ ap (λ own. external_key own e.prefix) (sym all.0), a.1)
    ]

said : (c : Config) (steps : List Step) (r : Router) → Run (initial c) steps r
    → (key : Key) (lsa : ExternalLsa) → wanted_body r key ≡ Some (says.External lsa)
    → (e : External) × IsAskedFor steps e × (says.External lsa ≡ external_body e)
said c steps r run key lsa = by_key (same_key key (router_key r.id))
  where
    by_want : (o : Option External) → finite.get r.announced key ≡ o → announced_body o
        ≡ Some (says.External lsa) → (e : External) × IsAskedFor steps e
        × (says.External lsa ≡ external_body e)
    by_want None there never = absurd (let none : None ≡ Some (says.External lsa) = never in cc)
    by_want (Some e) there is = (
      e,
      (announced c steps r run key e there).1,
      let s : Some (external_body e) ≡ Some (says.External lsa) = is in cc,
    )

    by_key : (b : Bool) → cond b (Some (router_body r.area.links))
        (announced_body (finite.get r.announced key)) ≡ Some (says.External lsa) → (e : External)
        × IsAskedFor steps e × (says.External lsa ≡ external_body e)
    by_key true never = absurd (let s : Some (router_body r.area.links) ≡ Some (says.External lsa) =
        never in cc)
    by_key false is = by_want (finite.get r.announced key) refl is

pub what_is_announced_was_asked_for : WhatIsAnnouncedWasAskedFor
what_is_announced_was_asked_for = record { announced = announced; told = said }
