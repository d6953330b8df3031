-- The end of an event, after its own part: a property stays if the router's own LSAs, the end of
-- Loading and new requests keep it.
use Rattle.std.proofs.Common.{◌≡◌, ℕ, Bool, cond, not, ◌&&◌, List, map, Option, None, Some, refl}
use Rattle.std.specs.FinMap as finite
use Rattle.words.specs.declared.key.Key.{Key}
use Rattle.lsa.specs.declared.body.LsaBody.{LsaBody}
use Rattle.lsdb.specs.Copies.{DatabaseCopy, age_prematurely, is_aged_out}
use Rattle.lsdb.specs.Headers.{lsa_with_age}
use Rattle.adjacency.proofs.Kept.{chosen}
use Rattle.received.specs.Links.{Link, any_exchange_or_loading}
use Rattle.received.specs.AreaStates.{AreaState, on_database, on_links}
use Rattle.event_rules.specs.Endings.{end_event, is_current, originate_router_lsa}
use Rattle.event_rules.specs.Endings.{postpone_router_lsa}
use Rattle.event_rules.specs.Endings.{link_loading_done, links_differ, loading_done, request_all}
use Rattle.event_rules.specs.Endings.{stays}
use Rattle.event_rules.specs.EventState.{EventState, flood_from_nobody, on_router}
use Rattle.event_rules.specs.Originations.{flush, flush_copy, has_max_sequence, has_room}
use Rattle.event_rules.specs.Originations.{install_and_flood, may_originate, new_instance}
use Rattle.event_rules.specs.Originations.{originate}
use Rattle.event_rules.specs.Originations.{originate_body, originate_or_postpone, postpone}
use Rattle.event_rules.specs.Originations.{router_key}
use Rattle.event_rules.specs.Originations.{wanted_body}
use Rattle.event_rules.specs.Routers.{Router}
use Rattle.event_rules.proofs.Walk.{MayGrow, OfEvent, outcome}
use Rattle.invariants.proofs.Acknowledged.{in_order, order_kept}
use Rattle.invariants.proofs.Retransmitted.{IsItsOwn}

module _ (own moment : ℕ) (X : AreaState → Type 0) where
  pub record IsKeptToEnd : Type 0 where
    pub flushes : (k : Key) (c : DatabaseCopy) (o : AreaState)
        → finite.get o.area.database k ≡ Some c → IsItsOwn o.area → X o
        → X (flood_from_nobody moment (lsa_with_age 3600 c.lsa)
        (on_database (age_prematurely moment k) o))
    pub originates : (k : Key) (says : LsaBody) (p : EventState) → k.advertising_router ≡ own
        → wanted_body p.router k ≡ Some says → OfEvent (in_order own) p → X (outcome p)
        → X (install_and_flood moment
        (new_instance k (finite.get p.router.area.database k) says) (outcome p))
    pub loaded : (o : AreaState) → X o → X (on_links (map link_loading_done) o)
    pub requests : (o : AreaState) → X o → X (request_all moment o)

  pub record Going (p : EventState) : Type 0 where
    pub so : OfEvent (in_order own) p
    pub still : X (outcome p)

  module _ (kept : IsKeptToEnd) where
    flushed : (k : Key) (c : Option DatabaseCopy) (o : AreaState) → finite.get o.area.database k ≡ c
        → IsItsOwn o.area → X o
        → IsItsOwn (flush_copy moment k c o).area × X (flush_copy moment k c o)
    flushed k None o at its h = (its, h)
    flushed k (Some c) o at its h =
        chosen (λ (q : AreaState). IsItsOwn q.area × X q) (is_aged_out moment c) o
        (flood_from_nobody moment (lsa_with_age 3600 c.lsa)
        (on_database (age_prematurely moment k) o))
        (λ aged. (its, h))
        (λ young. ((order_kept own).flushes moment k c o at young its, kept.flushes k c o at its h))

    flush_goes : (k : Key) (p : EventState) → Going p → Going (flush moment k p)
    flush_goes k p h =
        let q = flushed k (finite.get p.router.area.database k) (outcome p) refl h.so.area h.still
        in
        record { so = record { area = q.0; announced = h.so.announced }; still = q.1 }

    waits : (k : Key) (p : EventState) → Going p → Going (on_router (postpone k) p)
    waits k p h = record {
      so = record { area = h.so.area; announced = h.so.announced };
      still = h.still;
    }

    body_goes : (may_now : Bool) (k : Key) (says : Option LsaBody) (p : EventState)
        → k.advertising_router ≡ own → wanted_body p.router k ≡ says → Going p
        → Going (originate_body may_now moment k says p)
    body_goes may_now k None p its wants h = h
    body_goes may_now k (Some says) p its wants h =
        chosen Going (has_max_sequence (finite.get p.router.area.database k)) (flush moment k p)
        (cond (may_now && may_originate moment k p.router) (originate moment k says p)
        (on_router (postpone k) p)) (λ is. flush_goes k p h)
        (λ is. chosen Going (may_now && may_originate moment k p.router)
        (originate moment k says p) (on_router (postpone k) p)
        (λ may. record {
          so = record {
            area = (order_kept own).originates moment k says p its is wants (MayGrow.Anyway tt)
                h.so;
            announced = h.so.announced;
          };
          still = kept.originates k says p its wants h.so h.still;
        }) (λ may. waits k p h))

    loads : (p : EventState) → Going p → Going (loading_done p)
    loads p h = record {
      so = record {
        area = (order_kept own).loaded (outcome p) h.so.area;
        announced = h.so.announced;
      };
      still = kept.loaded (outcome p) h.still;
    }

    describes : (before : List Link) (p : EventState) → Going p
        → Going (originate_router_lsa before moment p)
    describes before p h =
        chosen Going (links_differ before p.router.area.links && not (is_current moment p.router))
        (originate_or_postpone moment (router_key p.router.id) p) p
        (λ is. body_goes (has_room (router_key p.router.id) p.router) (router_key p.router.id)
        (wanted_body p.router (router_key p.router.id)) p
        ((order_kept own).own_router p.router h.so.announced) refl h) (λ is. h)

    describes_later : (before : List Link) (p : EventState) → Going p
        → Going (postpone_router_lsa before p)
    describes_later before p h =
        chosen Going (links_differ before p.router.area.links)
        (on_router (postpone (router_key p.router.id)) p) p
        (λ is. waits (router_key p.router.id) p h) (λ is. h)

    -- then copies leave the database, or stay
    pub ended : (Y : AreaState → Type 0) → ((o : AreaState) → X o → Y o)
        → ((o : AreaState) → X o
        → Y (on_database (λ db. finite.retain_keys db (stays moment o.area)) o))
        → (old : Router) (after : EventState) → Going after
        → Y (outcome (end_event old moment after))
    ended Y stay leave old after h =
        let said : EventState = originate_router_lsa old.area.links moment (loading_done after) in
        let refilled : EventState =
        postpone_router_lsa said.router.area.links (loading_done said) in
        let q : Going refilled = describes_later said.router.area.links (loading_done said)
        (loads said (describes old.area.links (loading_done after) (loads after h))) in
        let o : AreaState = request_all moment (outcome refilled) in
        let asks : X o = kept.requests (outcome refilled) q.still in
        chosen Y (any_exchange_or_loading o.area.links) o
        (on_database (λ db. finite.retain_keys db (stays moment o.area)) o) (λ is. stay o asks)
        (λ is. leave o asks)
