-- Events in which no neighbor is in Exchange or Loading and no copy reaches MaxAge: their beginning
-- and their end.
use Rattle.std.proofs.Common.{◌≡◌, ℕ, Bool, true, false, cond, not, ◌&&◌, ◌||◌, List, [], ◌∷◌, map}
use Rattle.std.proofs.Common.{Option, None, Some, refl, sym, ap, ◌∙◌, true≢false}
use Rattle.std.specs.List.{fold, list_any}
use Rattle.std.specs.Cmp.{tied_itself}
use Rattle.std.specs.Cmp.Lexicographic.{nat_list_cmp_total}
use Rattle.std.specs.FinMap as finite
use Rattle.std.specs.FinSet as set
use Rattle.std.specs.Ordering.{is_eq}
use Rattle.std.specs.Prelude.{◌==◌}
use Rattle.words.specs.declared.key.Key.{Key}
use Rattle.lsa.specs.Text.{body_text}
use Rattle.lsa.specs.declared.body.LsaBody.{LsaBody}
use Rattle.lsdb.specs.Copies.{DatabaseCopy, has_just_aged_out, is_aged_out, lsa_now}
use Rattle.lsdb.proofs.Keys.{keys_exact, keys_total}
use Rattle.adjacency.specs.Adjacencies.{loading_done_in, requests_nothing}
use Rattle.adjacency.specs.Contents.{no_sends}
use Rattle.adjacency.specs.Contents as contents
use Rattle.adjacency.specs.Neighbors.{Neighbor, is_exchange_or_loading}
use Rattle.adjacency.specs.Requests.{next_request, request_next}
use Rattle.adjacency.specs.declared.state.NeighborState.{NeighborState}
use Rattle.adjacency.specs.declared.state.NeighborState.TheVariants.{Init, ExStart, Exchange}
use Rattle.adjacency.specs.declared.state.NeighborState.TheVariants.{Loading, Full}
use Rattle.received.specs.Links.{Link, any_has_retransmission, any_exchange_or_loading}
use Rattle.received.specs.Links.{neighbor_is_exchange_or_loading}
use Rattle.received.specs.AreaStates.{AreaState, on_database}
use Rattle.event_rules.specs.Endings.{originate_router_lsa, postpone_router_lsa, start_event}
use Rattle.event_rules.specs.Endings.{link_loading_done, loading_done, loading_done_on, end_event}
use Rattle.event_rules.specs.Endings.{is_current, links_differ, remove_aged, request_all, same_body}
use Rattle.event_rules.specs.Endings.{flood_if_aged, stays, stays_as}
use Rattle.event_rules.specs.Originations.{originate_or_postpone, postpone, router_body, router_key}
use Rattle.event_rules.specs.EventState.{EventState, flood_from_nobody, on_area, on_router}
use Rattle.event_rules.specs.Routers.{Router}
use Rattle.agreement_laws.proofs.WorkedLinks.{each_rest, left_false, right_false, same_rest}
use Rattle.agreement_laws.proofs.WorkedLinks.{same_router, seen}

-- ---- the beginning

ages_nothing : (before moment : ℕ) (o : AreaState) (es : List (Key × DatabaseCopy))
    → list_any (λ e. has_just_aged_out before moment e.1) es ≡ false
    → fold (flood_if_aged before moment) o es ≡ o
ages_nothing before moment o [] e = refl
ages_nothing before moment o (x ∷ es) e =
    ap (λ b. fold (flood_if_aged before moment)
    (cond b (flood_from_nobody moment (lsa_now moment x.1) o) o) es) (left_false _ _ e)
    ∙ ages_nothing before moment o es (right_false (has_just_aged_out before moment x.1) _ e)

pub begins : (moment : ℕ) (r : Router)
    → list_any (λ e. has_just_aged_out r.moment moment e.1) (finite.entries r.area.database) ≡ false
    → start_event moment r ≡ record { router = r; sends = [] }
begins moment r nothing =
    ap (λ (o : AreaState). record { router = record r { area = o.area }; sends = o.sends })
    (ages_nothing r.moment moment (record {
      area = r.area;
      sends = [];
    }) (finite.entries r.area.database) nothing)

pub not_both_ways : (b : Bool) → (b && not b) ≡ false
not_both_ways true = refl
not_both_ways false = refl

-- within one second nothing ages
pub no_time_passes : (moment : ℕ) (es : List (Key × DatabaseCopy))
    → list_any (λ e. has_just_aged_out moment moment e.1) es ≡ false
no_time_passes moment [] = refl
no_time_passes moment (x ∷ es) = λ i. not_both_ways (is_aged_out moment x.1) i || no_time_passes
    moment es i

-- ---- no neighbor becomes Full

filled_in_rest : (s : NeighborState) (n : Neighbor) → is_exchange_or_loading s ≡ false
    → loading_done_in s n
    ≡ n
filled_in_rest Init n e = refl
filled_in_rest ExStart n e = refl
filled_in_rest Exchange n e = refl
filled_in_rest Loading n e = absurd (true≢false e)
filled_in_rest Full n e = refl

filled_rest : (o : Option Neighbor) → neighbor_is_exchange_or_loading o ≡ false → loading_done_on o
    ≡ o
filled_rest None e = refl
filled_rest (Some n) e = ap Some (filled_in_rest n.state n e)

all_filled : (xs : List Link) → any_exchange_or_loading xs ≡ false → map link_loading_done xs ≡ xs
all_filled [] e = refl
all_filled (x ∷ xs) e = λ i. record x {
  neighbor = filled_rest x.neighbor (left_false _ _ e) i;
}
    ∷ all_filled xs (right_false (neighbor_is_exchange_or_loading x.neighbor) _ e) i

none_filled : (p : EventState) → any_exchange_or_loading p.router.area.links ≡ false
    → loading_done p ≡ p
none_filled p e = λ i. record p {
  router = record p.router {
    area = record p.router.area { links = all_filled p.router.area.links e i };
  };
}

-- ---- the router-LSA stays the same

same_itself : (b : LsaBody) → same_body b b ≡ true
same_itself b = ap is_eq (tied_itself nat_list_cmp_total (body_text b))

pub differ_not : (a b : List Link) → router_body a ≡ router_body b → links_differ a b ≡ false
differ_not a b e = ap (λ c. not (same_body c (router_body b))) e
    ∙ ap not (same_itself (router_body b))

pub describes_not : (before : List Link) (moment : ℕ) (p : EventState)
    → links_differ before p.router.area.links ≡ false → originate_router_lsa before moment p ≡ p
describes_not before moment p e = ap
    (λ b. cond (b && not (is_current moment p.router))
    (originate_or_postpone moment (router_key p.router.id) p) p) e

pub describes_not_later : (p : EventState) → postpone_router_lsa p.router.area.links p ≡ p
describes_not_later p = ap (λ b. cond b (on_router (postpone (router_key p.router.id)) p) p)
    (differ_not p.router.area.links p.router.area.links refl)

-- ---- nothing is requested

asks_not : (moment : ℕ) (n : Neighbor) → is_exchange_or_loading n.state ≡ false
    → request_next moment n ≡ no_sends n
asks_not moment n e =
    ap (λ b. cond (b && not (requests_nothing n) && set.len n.outstanding == 0)
    (record {
      neighbor = record n {
        outstanding = set.from_list (next_request n);
        requested_at = moment;
      };
      sends = contents.Requests (next_request n) ∷ [];
    })
    (no_sends n)) e

-- ---- the complete end

-- copies at MaxAge that are on no retransmission list are removed
abbrev pub removed : ℕ → AreaState → AreaState
removed moment o = on_database (λ db. finite.retain_keys db (stays moment o.area)) o

abbrev pub ended : ℕ → EventState → EventState
ended moment p = on_router (λ (r : Router). record r {
  moment = moment;
}) (on_area (removed moment) p)

abbrev pub last : ℕ → EventState → EventState
last moment p = on_router (λ (r : Router). record r {
  moment = moment;
}) (on_area (λ o. remove_aged moment (request_all moment o)) p)

pub last_rest : (moment : ℕ) (p : EventState) → any_exchange_or_loading p.router.area.links ≡ false
    → last moment p ≡ ended moment p
last_rest moment p e =
    let o : AreaState = record { area = p.router.area; sends = p.sends } in
    let asked : request_all moment o ≡ o =
    each_rest (request_next moment) (asks_not moment) moment o e in
    let left : remove_aged moment o ≡ removed moment o = ap (λ b. cond b o (removed moment o)) e in
    ap (λ (q : AreaState). record {
      router = record p.router { area = q.area; moment = moment };
      sends = q.sends;
    })
    (ap (remove_aged moment) asked ∙ left)

-- an event that doesn't change the body of the router-LSA, and after which no neighbor becomes Full
pub finishes : (old : Router) (moment : ℕ) (p x : EventState) → loading_done p ≡ p
    → router_body old.area.links ≡ router_body p.router.area.links → last moment p ≡ x
    → end_event old moment p ≡ x
finishes old moment p x full same end =
    let later : EventState → EventState =
    λ q. last moment (postpone_router_lsa q.router.area.links (loading_done q)) in
    ap (λ q. later (originate_router_lsa old.area.links moment q)) full
    ∙ ap later (describes_not old.area.links moment p
    (differ_not old.area.links p.router.area.links same))
    ∙ ap (λ q. last moment (postpone_router_lsa p.router.area.links q)) full
    ∙ ap (last moment) (describes_not_later p)
    ∙ end

-- the same with no neighbor in Exchange or Loading after it
pub ends_by : (old : Router) (moment : ℕ) (p : EventState) → router_body old.area.links
    ≡ router_body p.router.area.links → any_exchange_or_loading p.router.area.links ≡ false
    → end_event old moment p ≡ ended moment p
ends_by old moment p same still = finishes old moment p (ended moment p) (none_filled p still) same
    (last_rest moment p still)

-- an event that doesn't change the neighbors and their states
pub ends : (old : Router) (moment : ℕ) (p : EventState) → map seen p.router.area.links
    ≡ map seen old.area.links → any_exchange_or_loading old.area.links ≡ false
    → end_event old moment p ≡ ended moment p
ends old moment p same rest =
    ends_by old moment p (same_router old.area.links p.router.area.links (sym same))
    (same_rest p.router.area.links old.area.links same ∙ rest)

-- ---- what is left of the database

pub got : (moment : ℕ) (o : AreaState) (k : Key) → finite.get (removed moment o).area.database k
    ≡ cond (stays moment o.area k) (finite.get o.area.database k) None
got moment o k = finite.get-retain_keys o.area.database (stays moment o.area) k
    (λ x e. ap (stays moment o.area) (sym (keys_exact k x e)))

kept_again : (moment : ℕ) (w : Bool) (x : Option DatabaseCopy) (b : Bool) → stays_as moment w x ≡ b
    → cond (stays_as moment w (cond b x None)) (cond b x None) None ≡ cond b x None
kept_again moment w x true e = ap (λ b. cond b x None) e
kept_again moment w x false e = refl

-- removing them again removes nothing
pub removed_once : (moment : ℕ) (o : AreaState) → (removed moment (removed moment o)).area.database
    ≡ (removed moment o).area.database
removed_once moment o =
    finite.same_map keys_total keys_exact _ _ (λ k.
    let w : Bool = any_has_retransmission k o.area.links in
    let x : Option DatabaseCopy = finite.get o.area.database k in
    let here : finite.get (removed moment o).area.database k ≡ cond (stays_as moment w x) x None =
    got moment o k in
    got moment (removed moment o) k
    ∙ ap (λ y. cond (stays_as moment w y) y None) here
    ∙ kept_again moment w x (stays_as moment w x) refl
    ∙ sym here)
