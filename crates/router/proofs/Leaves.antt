-- The changes of links and database that a router makes: what each sends comes after what was sent
-- before, and the interfaces stay the same.
use Rattle.std.proofs.Common.{◌≡◌, ℕ, Bool, true, false, cond, List, [], ◌∷◌, map, refl, sym}
use Rattle.std.proofs.Common.{ap, ◌∙◌}
use Rattle.std.specs.Prelude.{Option, None, Some}
use Rattle.std.specs.List.{fold}
use Rattle.std.specs.FinMap as finite
use mathlib.Core.Bool.{false≢true}
use Rattle.words.specs.Constants.{max_age}
use Rattle.words.specs.declared.key.Key.{Key}
use Rattle.lsdb.specs.Headers.{Lsa, lsa_with_age, lsa_key}
use Rattle.lsdb.specs.Copies.{DatabaseCopy, age_prematurely, has_just_aged_out}
use Rattle.lsdb.specs.Copies.{is_aged_out}
use Rattle.lsdb.specs.Copies.{lsa_now}
use Rattle.adjacency.specs.Adjacencies.{mismatch_step}
use Rattle.adjacency.specs.Contents.{no_sends}
use Rattle.adjacency.specs.Requests.{request_next}
use Rattle.adjacency.specs.Retransmissions.{remove_retransmission}
use Rattle.received.specs.Cases.{Case}
use Rattle.received.specs.Flooding.{flood_to}
use Rattle.received.specs.Links.{Area, any_exchange_or_loading, delay_acknowledgment}
use Rattle.received.specs.Links.{change_link}
use Rattle.received.specs.AreaStates.{AreaState, on_database, on_links, only_at}
use Rattle.received.specs.AreaStates.{stepped_links}
use Rattle.received.specs.Updates.{after_case, database_copy, flood_and_install}
use Rattle.received.specs.Updates.{send_copy}
use Rattle.event_rules.specs.Commands.{after_link_down, taken_down}
use Rattle.event_rules.specs.Endings.{link_loading_done, remove_aged, request_all, stays}
use Rattle.event_rules.specs.Endings.{flood_aged, flood_if_aged}
use Rattle.event_rules.specs.EventState.{EventState, flood_from_nobody, on_area}
use Rattle.event_rules.specs.Originations.{flush, flush_copy, install_and_flood}
use Rattle.event_rules.specs.Ticks.{again, expire_timers, send_acknowledgments, send_all_again}
use Rattle.event_rules.specs.Ticks.{send_hellos}
use Rattle.event_rules.specs.Ticks.{with_hello_sent, without_acknowledgments}
use Rattle.area.specs.Cases.{is_to_be_installed}
use Rattle.area.specs.Links.{age_copy, with_no_sends}
use Rattle.router.specs.Aging.{outcomes_in_turn}
use Rattle.router.specs.Making.{interfaces_of}
use Rattle.router.proofs.Making.{Appends, KeepsInterfaces}
use Rattle.router.proofs.Areas.{appends_links, appends_nothing, appends_then}
use Rattle.router.proofs.Areas.{change_interfaces, keeps_neighbors, map_interfaces}

-- ---- self-originated LSAs

pub appends_install : (moment : ℕ) (lsa : Lsa) → Appends (install_and_flood moment lsa)
appends_install moment lsa o = refl

pub keeps_install : (moment : ℕ) (lsa : Lsa) → KeepsInterfaces (install_and_flood moment lsa)
keeps_install moment lsa a = keeps_neighbors moment (flood_to moment None lsa) a

module _ (moment : ℕ) (key : Key) where
  abbrev pub aged_and_flooded : DatabaseCopy → AreaState → AreaState
  aged_and_flooded c o = flood_from_nobody moment (lsa_with_age max_age c.lsa)
      (on_database (age_prematurely moment key) o)

  flush_by : (c : DatabaseCopy) (o : AreaState) (b : Bool)
      → cond b o (aged_and_flooded c o)
      ≡ outcomes_in_turn o (cond b (with_no_sends o.area)
      (aged_and_flooded c (with_no_sends o.area)))
  flush_by c o true = appends_nothing o
  flush_by c o false = refl

  pub appends_flush : (copy : Option DatabaseCopy) → Appends (flush_copy moment key copy)
  appends_flush None o = appends_nothing o
  appends_flush (Some c) o = flush_by c o (is_aged_out moment c)

  kept_by : (c : DatabaseCopy) (a : Area) (b : Bool)
      → interfaces_of (cond b (with_no_sends a) (aged_and_flooded c (with_no_sends a))).area.links
      ≡ interfaces_of a.links
  kept_by c a true = refl
  kept_by c a false = keeps_neighbors moment (flood_to moment None (lsa_with_age max_age c.lsa)) a

  pub keeps_flush : (copy : Option DatabaseCopy) → KeepsInterfaces (flush_copy moment key copy)
  keeps_flush None a = refl
  keeps_flush (Some c) a = kept_by c a (is_aged_out moment c)

  -- a copy that is younger than MaxAge
  pub flushed_is : (c : DatabaseCopy) (copy : Option DatabaseCopy) (o : AreaState) → Some c ≡ copy
      → false ≡ is_aged_out moment c
      → age_copy moment key copy o ≡ flush_copy moment key copy o
  flushed_is c copy o there young =
      ap (λ (x : Option DatabaseCopy). age_copy moment key x o) (sym there)
      ∙ ap (λ b. cond b o (aged_and_flooded c o)) young
      ∙ ap (λ (x : Option DatabaseCopy). flush_copy moment key x o) there

  -- nothing happens to a copy that has MaxAge, or without one
  module _ (p : EventState) (copy : Option DatabaseCopy)
      (is : copy ≡ finite.get p.router.area.database key) where
    pub rests_without : None ≡ copy → p ≡ flush moment key p
    rests_without none =
        ap (λ (x : Option DatabaseCopy). on_area (flush_copy moment key x) p) (none ∙ is)

    pub rests_aged : (c : DatabaseCopy) → Some c ≡ copy → true ≡ is_aged_out moment c
        → p ≡ flush moment key p
    rests_aged c there aged =
        ap (λ b. on_area (λ o. cond b o (aged_and_flooded c o)) p) aged
        ∙ ap (λ (x : Option DatabaseCopy). on_area (flush_copy moment key x) p) (there ∙ is)

-- ---- received LSAs

module _ (moment number : ℕ) (lsa : Lsa) where
  appends_copy : (copy : Option DatabaseCopy) (o : AreaState)
      → send_copy moment number copy o
      ≡ outcomes_in_turn o (send_copy moment number copy (with_no_sends o.area))
  appends_copy None o = appends_nothing o
  appends_copy (Some c) o = refl

  pub appends_case : (c : Case) → Appends (after_case c moment number lsa)
  appends_case Case.Unreadable o = appends_nothing o
  appends_case Case.NothingToFlush o = refl
  appends_case Case.TooSoon o = appends_nothing o
  appends_case Case.Newer o = refl
  appends_case Case.BadRequest o = refl
  appends_case Case.ImpliedAcknowledgment o = refl
  appends_case Case.Duplicate o = refl
  appends_case Case.SequenceWraps o = appends_nothing o
  appends_case Case.SentJustNow o = appends_nothing o
  appends_case Case.Older o = appends_copy (database_copy lsa o.area) o

  keeps_copy : (copy : Option DatabaseCopy) (a : Area)
      → interfaces_of (send_copy moment number copy (with_no_sends a)).area.links
      ≡ interfaces_of a.links
  keeps_copy None a = refl
  keeps_copy (Some c) a = refl

  pub keeps_case : (c : Case) → KeepsInterfaces (after_case c moment number lsa)
  keeps_case Case.Unreadable a = refl
  keeps_case Case.NothingToFlush a = refl
  keeps_case Case.TooSoon a = refl
  keeps_case Case.Newer a =
      change_interfaces number (delay_acknowledgment lsa.header) (λ l. refl)
      (stepped_links (flood_to moment (Some number) lsa) a.links)
      ∙ keeps_neighbors moment (flood_to moment (Some number) lsa) a
  keeps_case Case.BadRequest a = keeps_neighbors moment (only_at number (mismatch_step moment)) a
  keeps_case Case.ImpliedAcknowledgment a =
      keeps_neighbors moment (only_at number
      (λ n. no_sends (remove_retransmission (lsa_key lsa) n))) a
  keeps_case Case.Duplicate a = refl
  keeps_case Case.SequenceWraps a = refl
  keeps_case Case.SentJustNow a = refl
  keeps_case Case.Older a = keeps_copy (database_copy lsa a) a

  -- an LSA of the case `Newer` is installed
  pub newer_installs : (c : Case) → is_to_be_installed c ≡ true → (o : AreaState)
      → flood_and_install moment number lsa o ≡ after_case c moment number lsa o
  newer_installs Case.Unreadable is o = absurd (false≢true is)
  newer_installs Case.NothingToFlush is o = absurd (false≢true is)
  newer_installs Case.TooSoon is o = absurd (false≢true is)
  newer_installs Case.Newer is o = refl
  newer_installs Case.BadRequest is o = absurd (false≢true is)
  newer_installs Case.ImpliedAcknowledgment is o = absurd (false≢true is)
  newer_installs Case.Duplicate is o = absurd (false≢true is)
  newer_installs Case.SequenceWraps is o = absurd (false≢true is)
  newer_installs Case.SentJustNow is o = absurd (false≢true is)
  newer_installs Case.Older is o = absurd (false≢true is)

-- ---- aging

module _ (before moment : ℕ) where
  abbrev aged : (Key × DatabaseCopy) → AreaState → AreaState
  aged e o = flood_if_aged before moment o e

  abbrev all_aged : List (Key × DatabaseCopy) → AreaState → AreaState
  all_aged es o = fold (flood_if_aged before moment) o es

  age_by : (e : Key × DatabaseCopy) (o : AreaState) (b : Bool)
      → cond b (flood_from_nobody moment (lsa_now moment e.1) o) o
      ≡ outcomes_in_turn o (cond b (flood_from_nobody moment (lsa_now moment e.1)
      (with_no_sends o.area)) (with_no_sends o.area))
  age_by e o true = refl
  age_by e o false = appends_nothing o

  appends_each : (es : List (Key × DatabaseCopy)) → Appends (all_aged es)
  appends_each [] o = appends_nothing o
  appends_each (e ∷ es) o = appends_then (aged e) (all_aged es)
      (λ p. age_by e p (has_just_aged_out before moment e.1)) (appends_each es) o

  pub appends_ages : Appends (flood_aged before moment)
  appends_ages o = appends_each (finite.entries o.area.database) o

  keeps_by : (e : Key × DatabaseCopy) (o : AreaState) (b : Bool)
      → interfaces_of (cond b (flood_from_nobody moment (lsa_now moment e.1) o) o).area.links
      ≡ interfaces_of o.area.links
  keeps_by e o true = keeps_neighbors moment (flood_to moment None (lsa_now moment e.1)) o.area
  keeps_by e o false = refl

  keeps_each : (es : List (Key × DatabaseCopy)) (o : AreaState)
      → interfaces_of (all_aged es o).area.links ≡ interfaces_of o.area.links
  keeps_each [] o = refl
  keeps_each (e ∷ es) o = keeps_each es (aged e o)
      ∙ keeps_by e o (has_just_aged_out before moment e.1)

  pub keeps_ages : KeepsInterfaces (flood_aged before moment)
  keeps_ages a = keeps_each (finite.entries a.database) (with_no_sends a)

-- ---- timers

module _ (moment : ℕ) where
  pub appends_requests : Appends (request_all moment)
  appends_requests o = refl

  pub keeps_requests : KeepsInterfaces (request_all moment)
  keeps_requests a = keeps_neighbors moment (λ number link n. request_next moment n) a

  pub appends_again : Appends (send_all_again moment)
  appends_again o = refl

  pub keeps_again : KeepsInterfaces (send_all_again moment)
  keeps_again a = keeps_neighbors moment (again moment (with_no_sends a)) a

  pub appends_acknowledgments : Appends (send_acknowledgments moment)
  appends_acknowledgments o = refl

  pub keeps_acknowledgments : KeepsInterfaces (send_acknowledgments moment)
  keeps_acknowledgments a = map_interfaces without_acknowledgments (λ l. refl) a.links

  pub appends_hellos : Appends (send_hellos moment)
  appends_hellos o = refl

  pub keeps_hellos : KeepsInterfaces (send_hellos moment)
  keeps_hellos a = map_interfaces (with_hello_sent moment) (λ l. refl) a.links

  abbrev without_aged : Area → AreaState → AreaState
  without_aged a o = on_database (λ db. finite.retain_keys db (stays moment a)) o

  removed_by : (o : AreaState) (b : Bool)
      → cond b o (without_aged o.area o)
      ≡ outcomes_in_turn o (cond b (with_no_sends o.area)
      (without_aged o.area (with_no_sends o.area)))
  removed_by o true = appends_nothing o
  removed_by o false = appends_nothing (without_aged o.area o)

  pub appends_removal : Appends (remove_aged moment)
  appends_removal o = removed_by o (any_exchange_or_loading o.area.links)

  remains_by : (a : Area) (b : Bool)
      → interfaces_of (cond b (with_no_sends a) (without_aged a (with_no_sends a))).area.links
      ≡ interfaces_of a.links
  remains_by a true = refl
  remains_by a false = refl

  pub keeps_removal : KeepsInterfaces (remove_aged moment)
  keeps_removal a = remains_by a (any_exchange_or_loading a.links)

  pub appends_expiry : Appends (on_links (map (expire_timers moment)))
  appends_expiry o = appends_links (map (expire_timers moment)) o

  pub keeps_expiry : KeepsInterfaces (on_links (map (expire_timers moment)))
  keeps_expiry a = map_interfaces (expire_timers moment) (λ l. refl) a.links

pub appends_loading : Appends (on_links (map link_loading_done))
appends_loading o = appends_links (map link_loading_done) o

pub keeps_loading : KeepsInterfaces (on_links (map link_loading_done))
keeps_loading a = map_interfaces link_loading_done (λ l. refl) a.links

pub appends_down : (number : ℕ) → Appends (on_links (change_link number taken_down))
appends_down number o = appends_links (change_link number taken_down) o

pub keeps_down : (number : ℕ) → KeepsInterfaces (on_links (change_link number taken_down))
keeps_down number a = change_interfaces number taken_down (λ l. refl) a.links

-- without such a link nothing changes
pub stays_up : (number : ℕ) (p : EventState)
    → change_link number taken_down p.router.area.links ≡ p.router.area.links
    → p ≡ after_link_down number p
stays_up number p same = λ i. record {
  router = record p.router { area = record p.router.area { links = sym same i } };
  sends = p.sends;
}
