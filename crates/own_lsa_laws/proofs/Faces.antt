-- What the router-LSA depends on in a link, which flooding and sending don't change.
use Rattle.std.proofs.Common.{◌≡◌, ℕ, ◌+◌, Bool, true, false, cond, not, ◌&&◌, List, [], ◌∷◌, ◌++◌}
use Rattle.std.proofs.Common.{map, Option, None, Some, is_some, refl, sym, ap, ◌∙◌}
use Rattle.std.specs.Prelude.{◌==◌}
use Rattle.std.specs.List.{enumerate_from, flat_map, fold}
use Rattle.std.specs.FinMap as finite
use Rattle.std.specs.FinSet as set
use Rattle.words.specs.declared.key.Key.{Key}
use Rattle.lsa.specs.declared.body.LsaBody.{LsaBody}
use Rattle.lsa.specs.declared.body.LsaBody.TheVariants as body
use Rattle.lsa.specs.declared.body.RouterLink.{RouterLink}
use Rattle.lsa.specs.declared.body.LinkKind.TheVariants.{PointToPoint}
use Rattle.lsdb.specs.Copies.{Database, DatabaseCopy, age_prematurely, has_just_aged_out}
use Rattle.lsdb.specs.Copies.{is_aged_out}
use Rattle.lsdb.specs.Copies.{lsa_now}
use Rattle.lsdb.specs.Headers.{Lsa, lsa_with_age, lsa_key}
use Rattle.packet.specs.declared.model.Description.{Description}
use Rattle.adjacency.specs.declared.interface.Interface.{Interface}
use Rattle.adjacency.specs.Adjacencies.{has_passed}
use Rattle.adjacency.specs.Contents.{Requests, Step, Updates, no_sends}
use Rattle.adjacency.specs.Descriptions.{repeat}
use Rattle.adjacency.specs.Floods.{flooded_in_exchange, satisfies_request, exceeds_request}
use Rattle.adjacency.specs.Floods.{request_of}
use Rattle.adjacency.specs.Floods.{without_satisfied_request}
use Rattle.adjacency.specs.Neighbors.{Neighbor, is_exchange_or_later, is_full}
use Rattle.adjacency.specs.Requests.{is_to_request, next_request, request_next, still_outstanding}
use Rattle.adjacency.specs.Requests.{without_request}
use Rattle.adjacency.specs.Retransmissions.{add_retransmission, describe_again}
use Rattle.adjacency.specs.Retransmissions.{next_retransmissions, remove_retransmission}
use Rattle.adjacency.specs.Retransmissions.{repeats_description, request_again, update_again}
use Rattle.adjacency.proofs.Kept.{chosen}
use Rattle.received.specs.Cases.{Case}
use Rattle.received.specs.Flooding.{flood, flood_to, is_incoming}
use Rattle.received.specs.Links.{Link, delay_acknowledgment}
use Rattle.received.specs.AreaStates.{AreaState, Stepping, each_neighbor, on_database, only_at}
use Rattle.received.specs.AreaStates.{step_on}
use Rattle.received.specs.Updates.{after_case, goes_on, send_copy}
use Rattle.event_rules.specs.Endings.{flood_if_aged}
use Rattle.event_rules.specs.EventState.{EventState, flood_from_nobody, on_area, on_router}
use Rattle.event_rules.specs.Originations.{flush, flush_copy, has_max_sequence, links_of}
use Rattle.event_rules.specs.Originations.{may_originate}
use Rattle.event_rules.specs.Originations.{new_instance, originate, originate_body, point_to_point}
use Rattle.event_rules.specs.Originations.{postpone, router_body, stub}
use Rattle.event_rules.specs.Ticks.{again}

-- ---- what it depends on

pub record Face : Type 0 where
  pub interface : Interface
  pub is_there : Bool
  pub full : Option ℕ

abbrev pub full_router : Option Neighbor → Option ℕ
full_router None = None
full_router (Some n) = cond (is_full n.state) (Some n.router) None

abbrev pub face : Link → Face
face link = record {
  interface = link.interface;
  is_there = is_some link.neighbor;
  full = full_router link.neighbor;
}

abbrev pub faces : List Link → List Face
faces = map face

abbrev pub told_to : Interface → Option ℕ → List RouterLink
told_to i None = []
told_to i (Some router) = record {
  link_id = router;
  link_data = i.address;
  kind = PointToPoint;
  metric = i.cost;
  tos = [];
} ∷ []

abbrev pub face_links : Face → List RouterLink
face_links f = told_to f.interface f.full ++ stub f.interface ∷ []

told_by_state : (i : Interface) (router : ℕ) (b : Bool)
    → cond b (record {
      link_id = router;
      link_data = i.address;
      kind = PointToPoint;
      metric = i.cost;
      tos = [];
    }
    ∷ []) [] ≡ told_to i (cond b (Some router) None)
told_by_state i router true = refl
told_by_state i router false = refl

told_by_neighbor : (i : Interface) (o : Option Neighbor) → point_to_point i o
    ≡ told_to i (full_router o)
told_by_neighbor i None = refl
told_by_neighbor i (Some n) = told_by_state i n.router (is_full n.state)

links_by_faces : (links : List Link) → flat_map links_of links ≡ flat_map face_links (faces links)
links_by_faces [] = refl
links_by_faces (x ∷ xs) = λ i. (told_by_neighbor x.interface x.neighbor i ++ stub x.interface ∷ [])
    ++ links_by_faces xs i

abbrev pub faces_body : List Face → LsaBody
faces_body fs = body.Router (record { flags = 2; links = flat_map face_links fs })

pub body_by_faces : (links : List Link) → router_body links ≡ faces_body (faces links)
body_by_faces links = ap (λ (ls : List RouterLink). body.Router (record {
  flags = 2;
  links = ls;
})) (links_by_faces links)

pub same_faces : (xs ys : List Link) → faces ys ≡ faces xs → router_body ys ≡ router_body xs
same_faces xs ys e = body_by_faces ys ∙ ap faces_body e ∙ sym (body_by_faces xs)

-- ---- lists of links

pub mapped_faces : (g : Link → Link) → ((link : Link) → face (g link) ≡ face link)
    → (xs : List Link) → faces (map g xs) ≡ faces xs
mapped_faces g so [] = refl
mapped_faces g so (x ∷ xs) = λ i. so x i ∷ mapped_faces g so xs i

changed_faces : (number : ℕ) (change : Link → Link)
    → ((link : Link) → face (change link) ≡ face link) → (k : ℕ) (xs : List Link)
    → faces (map (λ (e : ℕ × Link). cond (e.0 == number) (change e.1) e.1)
    (enumerate_from k xs)) ≡ faces xs
changed_faces number change so k [] = refl
changed_faces number change so k (x ∷ xs) =
    let one : face (cond (k == number) (change x) x) ≡ face x =
    chosen (λ (l : Link). face l ≡ face x) (k == number) (change x) x (λ e. so x) (λ e. refl) in
    λ i. one i ∷ changed_faces number change so (k + 1) xs i

-- ---- steps of the neighbors

-- the same router, in the same state
abbrev pub IsAsBefore : Neighbor → Neighbor → Type 0
IsAsBefore n m = (m.router ≡ n.router) × (m.state ≡ n.state)

abbrev pub LeavesStates : Stepping → Type 0
LeavesStates f = (number : ℕ) (link : Link) (n : Neighbor) → IsAsBefore n (f number link n).neighbor

stepped_faces : (f : Stepping) → LeavesStates f → (k : ℕ) (xs : List Link)
    → faces (map (λ (e : ℕ × Link). record e.1 { neighbor = step_on (f e.0 e.1) e.1.neighbor })
    (enumerate_from k xs)) ≡ faces xs
stepped_faces f so k [] = refl
stepped_faces f so k (x ∷ xs) = let here = one x.neighbor in λ i. here i
    ∷ stepped_faces f so (k + 1) xs i
  where
    one : (o : Option Neighbor) → ◌≡◌ {A = Face} (record {
      interface = x.interface;
      is_there = is_some (step_on (f k x) o);
      full = full_router (step_on (f k x) o);
    })
        (record { interface = x.interface; is_there = is_some o; full = full_router o })
    one None = refl
    one (Some n) = λ i. record {
      interface = x.interface;
      is_there = true;
      full = cond (is_full ((so k x n).1 i)) (Some ((so k x n).0 i)) None;
    }

pub each_faces : (moment : ℕ) (f : Stepping) → LeavesStates f → (o : AreaState)
    → faces (each_neighbor moment f o).area.links ≡ faces o.area.links
each_faces moment f so o = stepped_faces f so 1 o.area.links

-- ---- flooding

flooded_so : (moment : ℕ) (from : Bool) (lsa : Lsa) (n : Neighbor)
    → IsAsBefore n (flooded_in_exchange moment from lsa n).neighbor
flooded_so moment from lsa n =
    let is_met : Bool = satisfies_request moment lsa (request_of n lsa) in
    let left : Neighbor = without_request (lsa_key lsa) n in
    let m : Neighbor = without_satisfied_request moment lsa n in
    chosen (λ (s : Step). IsAsBefore n s.neighbor)
    (not from && exceeds_request moment lsa (request_of n lsa))
    (record {
      neighbor = add_retransmission moment lsa.header m;
      sends = Updates lsa ∷ [];
    })
    (no_sends (remove_retransmission (lsa_key lsa) m))
    (λ e. chosen (λ (k : Neighbor). IsAsBefore n (add_retransmission moment lsa.header k)) is_met
    left n (λ e. (refl, refl)) (λ e. (refl, refl)))
    (λ e. chosen (λ (k : Neighbor). IsAsBefore n (remove_retransmission (lsa_key lsa) k)) is_met
    left n (λ e. (refl, refl)) (λ e. (refl, refl)))

flood_so : (moment : ℕ) (sender : Option ℕ) (lsa : Lsa) → LeavesStates (flood_to moment sender lsa)
flood_so moment sender lsa number link n =
    chosen (λ (s : Step). IsAsBefore n s.neighbor) (is_exchange_or_later n.state)
    (flooded_in_exchange moment (is_incoming sender number) lsa n) (no_sends n)
    (λ e. flooded_so moment (is_incoming sender number) lsa n) (λ e. (refl, refl))

pub flood_faces : (moment : ℕ) (sender : Option ℕ) (lsa : Lsa) (o : AreaState)
    → faces (flood moment sender lsa o).area.links ≡ faces o.area.links
flood_faces moment sender lsa o = each_faces moment (flood_to moment sender lsa)
    (flood_so moment sender lsa) o

-- LSAs that reach MaxAge are flooded
pub ages_faces : (before moment : ℕ) (es : List (Key × DatabaseCopy)) (o : AreaState)
    → faces (fold (flood_if_aged before moment) o es).area.links ≡ faces o.area.links
ages_faces before moment [] o = refl
ages_faces before moment (e ∷ es) o =
    ages_faces before moment es (flood_if_aged before moment o e)
    ∙ chosen (λ (q : AreaState). faces q.area.links ≡ faces o.area.links)
    (has_just_aged_out before moment e.1) (flood_from_nobody moment (lsa_now moment e.1) o) o
    (λ is. flood_faces moment None (lsa_now moment e.1) o) (λ is. refl)

-- ---- received LSAs

copy_faces : (moment number : ℕ) (c : Option DatabaseCopy) (o : AreaState)
    → faces (send_copy moment number c o).area.links ≡ faces o.area.links
copy_faces moment number None o = refl
copy_faces moment number (Some c) o = refl

-- except after a bad request, which ends the Link State Update
pub case_faces : (case : Case) (moment number : ℕ) (lsa : Lsa) (o : AreaState) → goes_on case ≡ true
    → faces (after_case case moment number lsa o).area.links ≡ faces o.area.links
case_faces Case.Unreadable moment number lsa o on = refl
case_faces Case.NothingToFlush moment number lsa o on = refl
case_faces Case.TooSoon moment number lsa o on = refl
case_faces Case.Newer moment number lsa o on =
    let p : AreaState = on_database (λ db. finite.insert db (lsa_key lsa) (record {
      lsa = lsa;
      stored = moment;
      received = Some moment;
      sent = None;
    })) o in
    changed_faces number (delay_acknowledgment lsa.header) (λ link. refl) 1
    (flood moment (Some number) lsa p).area.links ∙ flood_faces moment (Some number) lsa p
case_faces Case.BadRequest moment number lsa o on = absurd cc
case_faces Case.ImpliedAcknowledgment moment number lsa o on =
    each_faces moment (only_at number (λ n. no_sends (remove_retransmission (lsa_key lsa) n)))
    (λ place link n. chosen (λ (s : Step). IsAsBefore n s.neighbor) (place == number)
    (no_sends (remove_retransmission (lsa_key lsa) n)) (no_sends n) (λ e. (refl, refl))
    (λ e. (refl, refl))) o
case_faces Case.Duplicate moment number lsa o on = refl
case_faces Case.SequenceWraps moment number lsa o on = refl
case_faces Case.SentJustNow moment number lsa o on = refl
case_faces Case.Older moment number lsa o on =
    copy_faces moment number (finite.get o.area.database (lsa_key lsa)) o

-- ---- self-originated LSAs

abbrev pub StaysFaced : EventState → EventState → Type 0
StaysFaced p q = faces q.router.area.links ≡ faces p.router.area.links

flushed_faces : (moment : ℕ) (key : Key) (c : Option DatabaseCopy) (p : EventState)
    → StaysFaced p (on_area (flush_copy moment key c) p)
flushed_faces moment key None p = refl
flushed_faces moment key (Some c) p =
    let o : AreaState = record { area = p.router.area; sends = p.sends } in
    let aged : AreaState = on_database (age_prematurely moment key) o in
    chosen (λ (q : AreaState). faces q.area.links ≡ faces p.router.area.links)
    (is_aged_out moment c)
    o (flood_from_nobody moment (lsa_with_age 3600 c.lsa) aged)
    (λ is. refl) (λ is. flood_faces moment None (lsa_with_age 3600 c.lsa) aged)

pub flush_faces : (moment : ℕ) (key : Key) (p : EventState) → StaysFaced p (flush moment key p)
flush_faces moment key p = flushed_faces moment key (finite.get p.router.area.database key) p

pub originate_faces : (moment : ℕ) (key : Key) (says : LsaBody) (p : EventState)
    → StaysFaced p (originate moment key says p)
originate_faces moment key says p =
    let lsa : Lsa = new_instance key (finite.get p.router.area.database key) says in
    flood_faces moment None lsa
    (on_database (λ db. finite.insert db (lsa_key lsa) (record {
      lsa = lsa;
      stored = moment;
      received = None;
      sent = None;
    })) (record {
      area = p.router.area;
      sends = p.sends;
    }))

pub body_faces : (may_now : Bool) (moment : ℕ) (key : Key) (says : Option LsaBody) (p : EventState)
    → StaysFaced p (originate_body may_now moment key says p)
body_faces may_now moment key None p = refl
body_faces may_now moment key (Some says) p =
    chosen (StaysFaced p) (has_max_sequence (finite.get p.router.area.database key))
    (flush moment key p)
    (cond (may_now && may_originate moment key p.router) (originate moment key says p)
    (on_router (postpone key) p))
    (λ is. flush_faces moment key p)
    (λ is. chosen (StaysFaced p) (may_now && may_originate moment key p.router)
    (originate moment key says p) (on_router (postpone key) p)
    (λ may. originate_faces moment key says p) (λ may. refl))

-- ---- what a Tick sends, and Link State Requests

repeated_so : (o : Option Description) (moment : ℕ) (n : Neighbor)
    → IsAsBefore n (repeat moment (record n { described = o })).neighbor
repeated_so None moment n = (refl, refl)
repeated_so (Some d) moment n = (refl, refl)

described_so : (moment interval : ℕ) (n : Neighbor)
    → IsAsBefore n (describe_again moment interval n).neighbor
described_so moment interval n =
    chosen (λ (s : Step). IsAsBefore n s.neighbor)
    (repeats_description n.state n.is_master && has_passed n.described_at interval moment)
    (repeat moment n) (no_sends n)
    (λ e. repeated_so n.described moment n) (λ e. (refl, refl))

requested_so : (moment interval : ℕ) (n : Neighbor)
    → IsAsBefore n (request_again moment interval n).neighbor
requested_so moment interval n =
    chosen (λ (s : Step). IsAsBefore n s.neighbor)
    (not (set.len n.outstanding == 0) && has_passed n.requested_at interval moment)
    (record {
      neighbor = record n {
        requested_at = moment;
      };
      sends = Requests (still_outstanding n) ∷ [];
    }) (no_sends n)
    (λ e. (refl, refl)) (λ e. (refl, refl))

updated_so : (moment interval : ℕ) (db : Database) (n : Neighbor)
    → IsAsBefore n (update_again moment interval db n).neighbor
updated_so moment interval db n =
    chosen (λ (s : Step). IsAsBefore n s.neighbor)
    (not (finite.len n.retransmissions == 0) && has_passed n.retransmitted_at interval moment)
    (record {
      neighbor = record n {
        retransmitted_at = moment;
      };
      sends = map Updates (next_retransmissions moment db n);
    })
    (no_sends n) (λ e. (refl, refl)) (λ e. (refl, refl))

pub again_so : (moment : ℕ) (o : AreaState) → LeavesStates (again moment o)
again_so moment o number link n =
    let interval : ℕ = link.interface.retransmit_interval in
    let first : Neighbor = (describe_again moment interval n).neighbor in
    let second : Neighbor = (request_again moment interval first).neighbor in
    let a = described_so moment interval n in
    let b = requested_so moment interval first in
    let c = updated_so moment interval o.area.database second in
    (c.0 ∙ b.0 ∙ a.0, c.1 ∙ b.1 ∙ a.1)

pub asks_so : (moment : ℕ) → LeavesStates (λ number link n. request_next moment n)
asks_so moment number link n =
    chosen (λ (s : Step). IsAsBefore n s.neighbor) (is_to_request n)
    (record {
      neighbor = record n {
        outstanding = set.from_list (next_request n);
        requested_at = moment;
      };
      sends = Requests (next_request n) ∷ [];
    }) (no_sends n)
    (λ e. (refl, refl)) (λ e. (refl, refl))
