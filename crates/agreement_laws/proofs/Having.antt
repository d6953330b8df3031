-- Each copy during an event is of an instance that was held before, that the event's packet has, or
-- that is the router's own.
use Rattle.std.proofs.Common.{◌≡◌, ℕ, Bool, true, false, List, [], Option, None, Some}
use Rattle.std.proofs.Common.{refl, sym, ap, subst, ◌∙◌}
use Rattle.std.specs.FinMap as finite
use Rattle.std.specs.List.{fold}
use Rattle.words.specs.declared.key.Key.{Key}
use Rattle.lsa.specs.declared.body.LsaBody.{LsaBody}
use Rattle.lsdb.specs.Copies.{Database, DatabaseCopy, age_prematurely, copy_now}
use Rattle.lsdb.specs.Copies.{install_flooded, install_originated}
use Rattle.lsdb.specs.Headers.{Lsa, lsa_key}
use Rattle.lsdb.specs.Keys.{ByKey, same_key}
use Rattle.lsdb.specs.Order.{age_at}
use Rattle.lsdb.specs.declared.order.Instance.{Instance}
use Rattle.received.specs.AreaStates.{AreaState, Send, marked_database, on_database}
use Rattle.event_rules.specs.Endings.{start_event, stays}
use Rattle.event_rules.specs.EventState.{EventState}
use Rattle.event_rules.specs.Originations.{new_instance}
use Rattle.event_rules.specs.Routers.{Occurrence, Router}
use Rattle.event_rules.proofs.Walk.{Invariant}
use Rattle.invariants.specs.NewInstances.{BringsLsa}
use Rattle.invariants.proofs.Acknowledged.{in_order}
use Rattle.invariants.proofs.EventWalk.{IsKeptToo, Lately, came}
use Rattle.invariants.proofs.Limits.{tied_key}
use Rattle.agreement_laws.specs.CopiesClimb.{HasHad}
use Rattle.agreement_laws.proofs.Describing.{held, instance_at}
use Rattle.agreement_laws.proofs.Lists.{some_same}
use Rattle.agreement_laws.proofs.Parts.{held_marked, held_other, held_put}
use Rattle.agreement_laws.proofs.Databases.{IsKept, aged_out, ages, flushed_copy}
use Rattle.agreement_laws.proofs.Databases.{installed_copy, kept_too, originated_copy}

-- ---- two properties at once

module _ (i : Invariant) (X W Y V Z : Lately) (start : EventState) (moment : ℕ) (event : Occurrence)
    (x : IsKeptToo i X Y start moment event) (w : IsKeptToo i W V start moment event) where
  pub joined : ((o : AreaState) (t : ByKey ℕ) → X o t → W o t
      → Z (on_database (λ db. finite.retain_keys db (stays moment o.area)) o) t)
      → ((o : AreaState) (t : ByKey ℕ) → X o t → W o t → Z o t)
      → IsKeptToo i (λ o t. X o t × W o t) Z start moment event
  joined on_removed on_stays = record {
    flushes = λ k c o t at young area h.
        (x.flushes k c o t at young area h.0, w.flushes k c o t at young area h.1);
    originates = λ k says p of_key goes may wants so h. (
      x.originates k says p of_key goes may wants so h.0,
      w.originates k says p of_key goes may wants so h.1,
    );
    case = λ place packet heard case lsa o t among other is area h. (
      x.case place packet heard case lsa o t among other is area h.0,
      w.case place packet heard case lsa o t among other is area h.1,
    );
    hello = λ place packet hello heard is so h.
        (x.hello place packet hello heard is so h.0, w.hello place packet hello heard is so h.1);
    description = λ place packet d heard is so h. (
      x.description place packet d heard is so h.0,
      w.description place packet d heard is so h.1,
    );
    acknowledgment = λ place packet headers heard is so h. (
      x.acknowledgment place packet headers heard is so h.0,
      w.acknowledgment place packet headers heard is so h.1,
    );
    requested = λ place keys o t area h.
        (x.requested place keys o t area h.0, w.requested place keys o t area h.1);
    mismatch = λ place o t area h. (x.mismatch place o t area h.0, w.mismatch place o t area h.1);
    forgets = λ r o area h. (x.forgets r o area h.0, w.forgets r o area h.1);
    inactive = λ o t area h. (x.inactive o t area h.0, w.inactive o t area h.1);
    again = λ o t area h. (x.again o t area h.0, w.again o t area h.1);
    acknowledges = λ o t area h. (x.acknowledges o t area h.0, w.acknowledges o t area h.1);
    hellos = λ o t area h. (x.hellos o t area h.0, w.hellos o t area h.1);
    link_down = λ place o t area h. (
      x.link_down place o t area h.0,
      w.link_down place o t area h.1,
    );
    loaded = λ o t area h. (x.loaded o t area h.0, w.loaded o t area h.1);
    requests = λ o t area h. (x.requests o t area h.0, w.requests o t area h.1);
    removes = λ o t area h. on_removed o t h.0 h.1;
    stays = λ o t area h. on_stays o t h.0 h.1;
  }

-- ---- an instance at another age

aged : (old : Router) (event : Occurrence) (key : Key) (i : Instance) (age : ℕ)
    → HasHad old event key i → HasHad old event key (record i { age = age })
aged old event key i age (HasHad.Before c at is) = HasHad.Before c at (record {
  sequence = is.sequence;
  checksum = is.checksum;
})
aged old event key i age (HasHad.Brought lsa brings its_key is) =
    HasHad.Brought lsa brings its_key (record { sequence = is.sequence; checksum = is.checksum })
aged old event key i age (HasHad.Own own) = HasHad.Own own

module _ (old : Router) (event : Occurrence) (moment : ℕ) where
  -- each copy is of such an instance
  abbrev pub Whole : Database → Type 0
  Whole db = (key : Key) (i : Instance) → held moment key db ≡ Some i → HasHad old event key i

  pub whole_at : (db : Database) (key : Key) (c : DatabaseCopy) → Whole db → finite.get db key
      ≡ Some c → HasHad old event key (copy_now moment c)
  whole_at db key c h at = h key (copy_now moment c) (ap (instance_at moment) at)

  -- ---- the database

  whole_sent : (more : List Send) (db : Database) → Whole db
      → Whole (fold (λ (d : Database) (s : Send). marked_database moment d s.content) db more)
  whole_sent more db h key i at = h key i (sym (held_marked moment key more db) ∙ at)

  whole_put : (k : Key) (c : DatabaseCopy) (db : Database) → HasHad old event k (copy_now moment c)
      → Whole db → Whole (finite.insert db k c)
  whole_put k c db why h key i at = by_key (same_key key k) refl
    where
      by_key : (b : Bool) → same_key key k ≡ b → HasHad old event key i
      by_key true here =
          subst (λ (q : Key). HasHad old event q i) (sym (tied_key key k here))
          (subst (HasHad old event k) (some_same (sym (held_put moment key k c db here) ∙ at)) why)
      by_key false away = h key i (sym (held_other moment key k c db away) ∙ at)

  whole_flushed : (k : Key) (c : DatabaseCopy) (db : Database) → finite.get db k ≡ Some c
      → Whole db → Whole (age_prematurely moment k db)
  whole_flushed k c db at h =
      subst Whole (sym (aged_out moment k c db at))
      (whole_put k (flushed_copy moment c) db
      (aged old event k (copy_now moment c) (age_at 3600 moment moment)
      (h k (copy_now moment c) (ap (instance_at moment) at))) h)

  whole_originated : (k : Key) (c : Option DatabaseCopy) (says : LsaBody) (db : Database)
      → lsa_key (new_instance k c says) ≡ k → k.advertising_router ≡ old.id → Whole db
      → Whole (install_originated moment (new_instance k c says) db)
  whole_originated k c says db its_key own h =
      whole_put (lsa_key (new_instance k c says)) (originated_copy moment (new_instance k c says))
      db (HasHad.Own (ap (λ (q : Key). q.advertising_router) its_key ∙ own)) h

  whole_installed : (lsa : Lsa) (db : Database) → BringsLsa event lsa → Whole db
      → Whole (install_flooded moment lsa db)
  whole_installed lsa db brings h =
      whole_put (lsa_key lsa) (installed_copy moment lsa) db
      (HasHad.Brought lsa brings refl (record { sequence = refl; checksum = refl })) h

  pub whole : IsKept old.id moment Whole
  whole = record {
    marks = whole_sent;
    flushes = whole_flushed;
    originates = λ k says db own its_key h. whole_originated k (finite.get db k) says db its_key own
        h;
  }

  -- ---- the event

  at_first : Whole old.area.database
  at_first key i at = by_copy (finite.get old.area.database key) refl
    where
      by_copy : (c : Option DatabaseCopy) → finite.get old.area.database key ≡ c
          → HasHad old event key i
      by_copy None is = let no : None ≡ Some i = sym (ap (instance_at moment) is) ∙ at in absurd cc
      by_copy (Some c) is =
          let same : copy_now moment c ≡ i = some_same (sym (ap (instance_at moment) is) ∙ at) in
          HasHad.Before c is (record {
            sequence = ap (λ (x : Instance). x.sequence) same;
            checksum = ap (λ (x : Instance). x.checksum) same;
          })

  pub whole_begun : Whole (start_event moment old).router.area.database
  whole_begun =
      ages old.id moment Whole whole old.moment (finite.entries old.area.database) (record {
        area = old.area;
        sends = [];
      }) at_first

  abbrev start : EventState
  start = start_event moment old

  pub whole_kept : IsKeptToo (in_order old.id) (λ o t. Whole o.area.database) (λ o t. Unit {0})
      start moment event
  whole_kept =
      kept_too old moment event Whole whole
      (λ place packet heard lsa among db newer h. whole_installed lsa db
      (came heard lsa among) h)
