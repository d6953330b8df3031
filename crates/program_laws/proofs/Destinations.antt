-- What a router has for other keys than this one, after an event.
use Rattle.std.proofs.Common.{◌≡◌, Bool, true, false, cond, not, ◌&&◌, ◌||◌, List, [], ◌∷◌, ◌++◌}
use Rattle.std.proofs.Common.{map, Option, None, Some, is_some, refl, sym, ◌∙◌, ap, subst}
use Rattle.std.specs.Prelude.{nat_lt}
use Rattle.std.specs.Cmp.{tied_itself}
use Rattle.std.specs.List.{flat_map}
use Rattle.std.specs.Ordering.{is_eq}
use Rattle.std.specs.FinMap as finite
use Rattle.std.specs.FinSet as set
use Rattle.words.specs.Numbers.{Moment, RouterNumber}
use Rattle.words.specs.declared.key.Key.{Key}
use Rattle.lsa.specs.declared.body.LsaBody.{LsaBody}
use Rattle.lsa.specs.declared.body.LsaBody.TheVariants as says
use Rattle.lsdb.specs.Limits.{is_own_external, own_externals}
use Rattle.words.specs.Constants.{max_age, max_lsas, max_own_externals}
use Rattle.lsdb.specs.Copies.{Database, DatabaseCopy, age_prematurely, install_originated}
use Rattle.lsdb.specs.Copies.{is_aged_out}
use Rattle.lsdb.specs.Headers.{Lsa, lsa_with_age, lsa_key}
use Rattle.lsdb.specs.Keys.{KeySet, same_key}
use Rattle.lsdb.proofs.Keys.{keys_exact, keys_total}
use Rattle.adjacency.specs.declared.state.NeighborState.{NeighborState}
use Rattle.adjacency.specs.declared.state.NeighborState.TheVariants.{Init, ExStart, Exchange}
use Rattle.adjacency.specs.declared.state.NeighborState.TheVariants.{Loading, Full}
use Rattle.adjacency.specs.Adjacencies as adjacencies
use Rattle.adjacency.specs.Adjacencies.{requests_nothing}
use Rattle.adjacency.specs.Asked.{has_retransmission}
use Rattle.adjacency.specs.Contents.{Content, no_sends}
use Rattle.adjacency.specs.Neighbors.{Neighbor}
use Rattle.adjacency.specs.Requests.{is_to_request, next_request, request_next}
use Rattle.received.specs.Flooding.{flood_to}
use Rattle.received.specs.Links.{Link, any_exchange_or_loading, any_has_retransmission}
use Rattle.received.specs.Links.{neighbor_is_exchange_or_loading}
use Rattle.received.specs.AreaStates.{AreaState, Send, Stepping, each_neighbor, on_database}
use Rattle.received.specs.AreaStates.{on_links}
use Rattle.received.specs.AreaStates.{stepping_sends}
use Rattle.event_rules.specs.Endings as Endings
use Rattle.event_rules.specs.Endings.{copy_has_body, end_event, originate_router_lsa}
use Rattle.event_rules.specs.Endings.{postpone_router_lsa}
use Rattle.event_rules.specs.Endings.{is_at, is_current, link_loading_done, links_differ}
use Rattle.event_rules.specs.Endings.{loading_done}
use Rattle.event_rules.specs.Endings.{loading_done_on, remove_aged, request_all, same_body}
use Rattle.event_rules.specs.Endings.{stays_as}
use Rattle.event_rules.specs.EventState.{EventState, flood_from_nobody, on_area, on_router}
use Rattle.event_rules.specs.Originations.{announced_body, as_originated, flush_copy}
use Rattle.event_rules.specs.Originations.{has_max_sequence}
use Rattle.event_rules.specs.Originations.{has_room, interval_is_over, originate_body}
use Rattle.event_rules.specs.Originations.{originate_or_postpone}
use Rattle.event_rules.specs.Originations.{wanted_body, install_and_flood, links_of, new_instance}
use Rattle.event_rules.specs.Originations.{postpone, router_body, router_key}
use Rattle.event_rules.specs.Routers.{Router}
use Rattle.program_laws.specs.Destinations.{link_without, neighbor_on_without, router_without}
use Rattle.program_laws.specs.Destinations.{sends_without, updates}
use Rattle.program_laws.proofs.Apart as apart

module _ (key : Key) where
  -- ---- an event in progress, except for the key

  abbrev pub cut : EventState → EventState
  cut p = record { router = router_without key p.router; sends = sends_without key p.sends }

  abbrev pub cut_outcome : AreaState → AreaState
  cut_outcome o = record {
    area = record {
      links = map (link_without key) o.area.links;
      database = finite.remove o.area.database key;
    };
    sends = sends_without key o.sends;
  }

  -- the part does the same to the rest as without the key
  abbrev pub Overlooks : (EventState → EventState) → Type 0
  Overlooks f = (p : EventState) → cut (f p) ≡ cut (f (cut p))

  abbrev pub OverlooksIn : (AreaState → AreaState) → Type 0
  OverlooksIn f = (o : AreaState)
      → (map (link_without key) (f o).area.links
      ≡ map (link_without key) (f (cut_outcome o)).area.links)
      × (finite.remove (f o).area.database key
      ≡ finite.remove (f (cut_outcome o)).area.database key)
      × (sends_without key (f o).sends ≡ sends_without key (f (cut_outcome o)).sends)

  -- what is sent

  more_sent : (b : Bool) (s : Send) (xs ys : List Send) → not (updates key s.content) ≡ b
      → sends_without key (xs ++ ys) ≡ sends_without key (sends_without key xs ++ ys)
      → cond b (s ∷ sends_without key (xs ++ ys)) (sends_without key (xs ++ ys))
      ≡ sends_without key (cond b (s ∷ sends_without key xs) (sends_without key xs) ++ ys)
  more_sent true s xs ys is rest = ap (λ (zs : List Send). s ∷ zs) rest
      ∙ sym (ap (λ (b : Bool). cond b (s ∷ sends_without key (sends_without key xs ++ ys))
      (sends_without key (sends_without key xs ++ ys))) is)
  more_sent false s xs ys is rest = rest

  pub sent_more : (xs ys : List Send) → sends_without key (xs ++ ys)
      ≡ sends_without key (sends_without key xs ++ ys)
  sent_more [] ys = refl
  sent_more (s ∷ xs) ys = more_sent (not (updates key s.content)) s xs ys refl (sent_more xs ys)

  nothing_more : (xs : List Send) → xs ++ [] ≡ xs
  nothing_more [] = refl
  nothing_more (s ∷ xs) = ap (λ (zs : List Send). s ∷ zs) (nothing_more xs)

  pub sent_twice : (xs : List Send) → sends_without key xs
      ≡ sends_without key (sends_without key xs)
  sent_twice xs = ap (sends_without key) (sym (nothing_more xs)) ∙ sent_more xs []
      ∙ ap (sends_without key) (nothing_more (sends_without key xs))

  set_twice : (s : KeySet) → set.remove s key ≡ set.remove (set.remove s key) key
  set_twice s = set.same_set keys_total keys_exact _ _ (λ q.
      set.contains-remove keys_total s key q ∙ again (same_key q key) (set.contains s q)
      ∙ sym (set.contains-remove keys_total (set.remove s key) key q
      ∙ ap (λ b. not (same_key q key) && b) (set.contains-remove keys_total s key q)))
    where
      again : (b c : Bool) → (not b && c) ≡ (not b && (not b && c))
      again true c = refl
      again false c = refl

  links_twice : (links : List Link) → map (link_without key) links
      ≡ map (link_without key) (map (link_without key) links)
  links_twice [] = refl
  links_twice (link ∷ links) =
      let one : link_without key link ≡ link_without key (link_without key link) =
      ap (λ (o : Option Neighbor). record link { neighbor = o }) (on link.neighbor) in
      let others = links_twice links in
      λ i. one i ∷ others i
    where
      on : (o : Option Neighbor) → neighbor_on_without key o
          ≡ neighbor_on_without key (neighbor_on_without key o)
      on None = refl
      on (Some n) = ap (λ (m : Neighbor). Some m) (apart.kept key n)

  pub on_outcome : (f : AreaState → AreaState) → OverlooksIn f → Overlooks (on_area f)
  on_outcome f overlooks p =
      let both = overlooks (record { area = p.router.area; sends = p.sends }) in
      let announced = apart.twice key p.router.announced in
      let waiting = set_twice p.router.waiting in
      let originated = apart.twice key p.router.originated in
      λ i. record {
        router = record p.router {
          area = record { links = both.0 i; database = both.1 i };
          announced = announced i;
          waiting = waiting i;
          originated = originated i;
        };
        sends = both.2 i;
      }

  pub stays : Overlooks (λ p. p)
  stays p =
      let links = links_twice p.router.area.links in
      let database = apart.twice key p.router.area.database in
      let announced = apart.twice key p.router.announced in
      let waiting = set_twice p.router.waiting in
      let originated = apart.twice key p.router.originated in
      let sends = sent_twice p.sends in
      λ i. record {
        router = record p.router {
          area = record { links = links i; database = database i };
          announced = announced i;
          waiting = waiting i;
          originated = originated i;
        };
        sends = sends i;
      }

  pub one_after_another : (f g : EventState → EventState) → Overlooks f → Overlooks g
      → Overlooks (λ p. g (f p))
  one_after_another f g first second p = second (f p) ∙ ap (λ (q : EventState). cut (g q)) (first p)
      ∙ sym (second (f (cut p)))

  -- ---- steps of the neighbors, and flooding

  each : (moment : Moment) (f : Stepping) → apart.Overlooks key f
      → OverlooksIn (each_neighbor moment f)
  each moment f overlooks o =
      let sends = apart.sends_alike key f overlooks o.area.links in
      let db : Database = o.area.database in (
        apart.stepped_alike key f overlooks o.area.links,
        apart.same_but key _ _ (apart.all_marked_agree key moment (stepping_sends f o.area.links) db
            (finite.remove db key) (apart.turned key (finite.remove db key) db
            (apart.removed_agrees key db)))
            ∙ ap (λ sends. finite.remove (apart.marked_all key moment (finite.remove db key) sends)
            key) sends,
        sent_more o.sends (stepping_sends f o.area.links)
            ∙ ap (λ (more : List Send). sends_without key (sends_without key o.sends ++ more))
            sends,
      )

  floods : (moment : Moment) (lsa : Lsa) → OverlooksIn (flood_from_nobody moment lsa)
  floods moment lsa =
      each moment (flood_to moment None lsa)
      (λ number link n. apart.flooding_alike key moment lsa n)

  -- ---- parts of an outcome

  nothing : OverlooksIn (λ o. o)
  nothing o = (links_twice o.area.links, apart.twice key o.area.database, sent_twice o.sends)

  after : (f g : AreaState → AreaState) → OverlooksIn f → OverlooksIn g → OverlooksIn (λ o. g (f o))
  after f g first second o =
      let both = first o in
      let same : cut_outcome (f o) ≡ cut_outcome (f (cut_outcome o)) = λ i. record {
        area = record { links = both.0 i; database = both.1 i };
        sends = both.2 i;
      } in
      let here = second (f o) in
      let there = second (f (cut_outcome o)) in (
        here.0 ∙ ap (λ (x : AreaState). map (link_without key) (g x).area.links) same ∙ sym there.0,
        here.1 ∙ ap (λ (x : AreaState). finite.remove (g x).area.database key) same ∙ sym there.1,
        here.2 ∙ ap (λ (x : AreaState). sends_without key (g x).sends) same ∙ sym there.2,
      )

  changed_in : (h : Database → Database)
      → ((d e : Database) → apart.Agree key d e → apart.Agree key (h d) (h e))
      → OverlooksIn (on_database h)
  changed_in h agree o =
      let d : Database = o.area.database in (
        links_twice o.area.links,
        apart.same_but key (h d) (h (finite.remove d key))
            (agree d (finite.remove d key)
            (apart.turned key (finite.remove d key) d (apart.removed_agrees key d))),
        sent_twice o.sends,
      )

  age_copy : (moment : Moment) (k : Key) (c : DatabaseCopy) (b : Bool)
      → OverlooksIn (λ o. cond b o (flood_from_nobody moment (lsa_with_age max_age c.lsa)
      (on_database (age_prematurely moment k) o)))
  age_copy moment k c true = nothing
  age_copy moment k c false =
      after (on_database (age_prematurely moment k))
      (flood_from_nobody moment (lsa_with_age max_age c.lsa))
      (changed_in (age_prematurely moment k) (λ d e agree. apart.copies_agree key k (λ c. record c {
        lsa = lsa_with_age max_age c.lsa;
        stored = moment;
      }) d e agree))
      (floods moment (lsa_with_age max_age c.lsa))

  flushed : (moment : Moment) (k : Key) (x : Option DatabaseCopy)
      → Overlooks (on_area (flush_copy moment k x))
  flushed moment k None p = stays p
  flushed moment k (Some c) p = on_outcome (flush_copy moment k (Some c))
      (age_copy moment k c (is_aged_out moment c)) p

  installs : (moment : Moment) (lsa : Lsa) → OverlooksIn (install_and_flood moment lsa)
  installs moment lsa =
      after (on_database (install_originated moment lsa)) (flood_from_nobody moment lsa)
      (changed_in (install_originated moment lsa)
      (λ d e agree. apart.agree_inserted key d e agree (lsa_key lsa) (record {
        lsa = lsa;
        stored = moment;
        received = None;
        sent = None;
      }))) (floods moment lsa)

  -- ---- sets

  pub same_set_but : (s t : KeySet)
      → ((q : Key) → same_key q key ≡ false → set.contains s q ≡ set.contains t q)
      → set.remove s key ≡ set.remove t key
  same_set_but s t agree = set.same_set keys_total keys_exact _ _
      (λ q. set.contains-remove keys_total s key q ∙ by_key q (same_key q key) refl
      ∙ sym (set.contains-remove keys_total t key q))
    where
      by_key : (q : Key) (b : Bool) → same_key q key ≡ b → (not b && set.contains s q)
          ≡ (not b && set.contains t q)
      by_key q true is = refl
      by_key q false other = agree q other

  left_set : (s : KeySet) (q : Key) → same_key q key ≡ false → set.contains s q
      ≡ set.contains (set.remove s key) q
  left_set s q other = sym (set.contains-remove keys_total s key q
      ∙ ap (λ b. not b && set.contains s q) other)

  -- ---- self-originated LSAs

  noted : (moment : Moment) (k : Key) → Overlooks (on_router (as_originated moment k))
  noted moment k p =
      let r : Router = p.router in
      let links = links_twice r.area.links in
      let database = apart.twice key r.area.database in
      let announced = apart.twice key r.announced in
      let waiting = same_set_but (set.remove r.waiting k) (set.remove (set.remove r.waiting key) k)
      (λ q other.
      set.contains-remove keys_total r.waiting k q
      ∙ ap (λ b. not (same_key q k) && b) (left_set r.waiting q other)
      ∙ sym (set.contains-remove keys_total (set.remove r.waiting key) k q)) in
      let originated = apart.same_but key (finite.insert r.originated k moment)
      (finite.insert (finite.remove r.originated key) k moment)
      (apart.agree_inserted key r.originated (finite.remove r.originated key)
      (apart.turned key (finite.remove r.originated key) r.originated
      (apart.removed_agrees key r.originated)) k moment) in
      let sends = sent_twice p.sends in
      λ i. record {
        router = record r {
          area = record { links = links i; database = database i };
          announced = announced i;
          waiting = waiting i;
          originated = originated i;
        };
        sends = sends i;
      }

  waits : (k : Key) → Overlooks (on_router (postpone k))
  waits k p =
      let r : Router = p.router in
      let links = links_twice r.area.links in
      let database = apart.twice key r.area.database in
      let announced = apart.twice key r.announced in
      let originated = apart.twice key r.originated in
      let waiting = same_set_but (set.insert r.waiting k) (set.insert (set.remove r.waiting key) k)
      (λ q other.
      set.contains-insert keys_total r.waiting k q
      ∙ ap (λ b. same_key q k || b) (left_set r.waiting q other)
      ∙ sym (set.contains-insert keys_total (set.remove r.waiting key) k q)) in
      let sends = sent_twice p.sends in
      λ i. record {
        router = record r {
          area = record { links = links i; database = database i };
          announced = announced i;
          waiting = waiting i;
          originated = originated i;
        };
        sends = sends i;
      }

  chosen : (b : Bool) (x y z w : EventState) → cut x ≡ cut z → cut y ≡ cut w → cut (cond b x y)
      ≡ cut (cond b z w)
  chosen true x y z w one other = one
  chosen false x y z w one other = other

  -- a self-originated LSA of another key is originated, flushed first, or waits, by its tests
  abbrev pub own_lsa : Bool → Bool → Moment → Key → Option DatabaseCopy → LsaBody → EventState
      → EventState
  own_lsa wraps may moment k x says p =
      cond wraps (on_area (flush_copy moment k x) p)
      (cond may (on_router (as_originated moment k)
      (on_area (install_and_flood moment (new_instance k x says)) p)) (on_router (postpone k) p))

  own_lsas : (wraps may : Bool) (moment : Moment) (k : Key) (x : Option DatabaseCopy)
      (says : LsaBody) → Overlooks (own_lsa wraps may moment k x says)
  own_lsas true may moment k x says p = flushed moment k x p
  own_lsas false true moment k x says p =
      one_after_another (on_area (install_and_flood moment (new_instance k x says)))
      (on_router (as_originated moment k))
      (on_outcome (install_and_flood moment (new_instance k x says))
      (installs moment (new_instance k x says))) (noted moment k) p
  own_lsas false false moment k x says p = waits k p

  -- ---- the router-LSA

  link_bodies : (links : List Link) → flat_map links_of links
      ≡ flat_map links_of (map (link_without key) links)
  link_bodies [] = refl
  link_bodies (link ∷ links) =
      let one = on link.neighbor in
      let others = link_bodies links in
      λ i. one i ++ others i
    where
      on : (o : Option Neighbor) → links_of (record link {
        neighbor = o;
      }) ≡ links_of (record link { neighbor = neighbor_on_without key o })
      on None = refl
      on (Some n) = refl

  bodies : (links : List Link) → router_body links ≡ router_body (map (link_without key) links)
  bodies links = ap (λ l. says.Router (record { flags = 2; links = l })) (link_bodies links)

  pub itself : (k : Key) → same_key k k ≡ true
  itself k = ap is_eq (tied_itself keys_total k)

  module _ (other : (id : RouterNumber) → same_key (router_key id) key ≡ false) where
    -- the router-LSA has a copy
    abbrev pub HasRouterLsa : EventState → Type 0
    HasRouterLsa p = finite.contains_key p.router.area.database (router_key p.router.id) ≡ true

    still_there : (p : EventState) → HasRouterLsa p → HasRouterLsa (cut p)
    still_there p there = ap is_some (apart.removed_agrees key p.router.area.database
        (router_key p.router.id) (other p.router.id)) ∙ there

    abbrev told : Moment → EventState → EventState
    told moment p =
        let k : Key = router_key p.router.id in
        own_lsa (has_max_sequence (finite.get p.router.area.database k))
        (interval_is_over moment (finite.get p.router.originated k)) moment k
        (finite.get p.router.area.database k) (router_body p.router.area.links) p

    is_told : (moment : Moment) (p : EventState) → HasRouterLsa p
        → originate_or_postpone moment (router_key p.router.id) p ≡ told moment p
    is_told moment p there =
        let r : Router = p.router in
        let k : Key = router_key r.id in
        let room : has_room k r ≡ true =
        ap (λ b. b || (nat_lt (finite.len r.area.database) max_lsas &&
        (not (is_own_external r.id k) || nat_lt (own_externals r.id r.area.database)
        max_own_externals))) there in
        let wanted : wanted_body r k ≡ Some (router_body r.area.links) =
        ap (λ b. cond b (Some (router_body r.area.links))
        (announced_body (finite.get r.announced k))) (itself k) in
        ap (λ b. originate_body b moment k (wanted_body r k) p) room
        ∙ ap (λ (o : Option LsaBody). originate_body true moment k o p) wanted

    tells : (moment : Moment) → Overlooks (told moment)
    tells moment p =
        let k : Key = router_key p.router.id in
        let x = finite.get p.router.area.database k in
        let t = finite.get p.router.originated k in
        let copies : x ≡ finite.get (finite.remove p.router.area.database key) k =
        sym (apart.removed_agrees key p.router.area.database k (other p.router.id)) in
        let times : t ≡ finite.get (finite.remove p.router.originated key) k =
        sym (apart.removed_agrees key p.router.originated k (other p.router.id)) in
        let body = bodies p.router.area.links in
        own_lsas (has_max_sequence x) (interval_is_over moment t) moment k x
        (router_body p.router.area.links) p
        ∙ (λ i. cut (own_lsa (has_max_sequence (copies i)) (interval_is_over moment (times i))
        moment k (copies i) (body i) (cut p)))

    abbrev differs : List Link → Moment → EventState → Bool
    differs before moment p = links_differ before p.router.area.links && not
        (is_current moment p.router)

    differs_alike : (before : List Link) (moment : Moment) (p : EventState)
        → differs before moment p ≡ differs before moment (cut p)
    differs_alike before moment p =
        let k : Key = router_key p.router.id in
        let copies = sym (apart.removed_agrees key p.router.area.database k (other p.router.id)) in
        let times = sym (apart.removed_agrees key p.router.originated k (other p.router.id)) in
        let body = bodies p.router.area.links in
        λ i. not (same_body (router_body before) (body i)) && not
        (is_at moment (times i) && copy_has_body (body i) (copies i))

    described : (before : List Link) (moment : Moment) (p : EventState) → HasRouterLsa p
        → cut (originate_router_lsa before moment p)
        ≡ cut (originate_router_lsa before moment (cut p))
    described before moment p there =
        let k : Key = router_key p.router.id in
        chosen (differs before moment p) (originate_or_postpone moment k p) p
        (originate_or_postpone moment k (cut p)) (cut p)
        (ap cut (is_told moment p there) ∙ tells moment p
        ∙ sym (ap cut (is_told moment (cut p) (still_there p there)))) (stays p)
        ∙ ap (λ b. cut (cond b (originate_or_postpone moment k (cut p)) (cut p)))
        (differs_alike before moment p)

    -- ---- Loading to Full

    loading_by : (s : NeighborState) (n : Neighbor)
        → apart.without key (adjacencies.loading_done_in s n)
        ≡ apart.without key (adjacencies.loading_done_in s (apart.without key n))
    loading_by Init n = apart.kept key n
    loading_by ExStart n = apart.kept key n
    loading_by Exchange n = apart.kept key n
    loading_by Loading n = by_requests (requests_nothing n)
      where
        by_requests : (b : Bool) → apart.without key (cond b (record n {
          state = Full;
        }) n) ≡ apart.without key
            (cond b (record (apart.without key n) { state = Full }) (apart.without key n))
        by_requests true = apart.kept key (record n { state = Full })
        by_requests false = apart.kept key n
    loading_by Full n = apart.kept key n

    loading_links : (links : List Link) → map (link_without key) (map link_loading_done links)
        ≡ map (link_without key) (map link_loading_done (map (link_without key) links))
    loading_links [] = refl
    loading_links (link ∷ links) =
        let one = ap (λ (o : Option Neighbor). record link { neighbor = o }) (on link.neighbor) in
        let others = loading_links links in
        λ i. one i ∷ others i
      where
        on : (o : Option Neighbor) → neighbor_on_without key (loading_done_on o)
            ≡ neighbor_on_without key (loading_done_on (neighbor_on_without key o))
        on None = refl
        on (Some n) = ap (λ (m : Neighbor). Some m) (loading_by n.state n)

    loads : Overlooks loading_done
    loads = on_outcome (on_links (map link_loading_done))
        (λ o. (loading_links o.area.links, apart.twice key o.area.database, sent_twice o.sends))

    -- ---- the rest of an event's end

    abbrev refilled : EventState → EventState
    refilled q = postpone_router_lsa q.router.area.links (loading_done q)

    refills : Overlooks refilled
    refills q =
        let links : List Link = q.router.area.links in
        let loaded : List Link = map link_loading_done links in
        let again : List Link = map link_loading_done (map (link_without key) links) in
        let before = bodies links in
        let after_loading : router_body loaded ≡ router_body again = bodies loaded
        ∙ ap router_body (loading_links links) ∙ sym (bodies again) in
        let k : Key = router_key q.router.id in
        chosen (links_differ links loaded) (on_router (postpone k) (loading_done q))
        (loading_done q)
        (on_router (postpone k) (loading_done (cut q))) (loading_done (cut q))
        (one_after_another loading_done (on_router (postpone k)) loads (waits k) q) (loads q)
        ∙ (λ i. cut (cond (not (same_body (before i) (after_loading i)))
        (on_router (postpone k) (loading_done (cut q))) (loading_done (cut q))))

    requests_by : (b : Bool) (moment : Moment) (n : Neighbor)
        → apart.AreAlike key
        (cond b (record {
          neighbor = record n {
            outstanding = set.from_list (next_request n);
            requested_at = moment;
          };
          sends = Content.Requests (next_request n) ∷ [];
        }) (no_sends n))
        (cond b (record {
          neighbor = record (apart.without key n)
              { outstanding = set.from_list (next_request n); requested_at = moment };
          sends = Content.Requests (next_request n) ∷ [];
        }) (no_sends (apart.without key n)))
    requests_by true moment n = (
      apart.kept key (record n {
        outstanding = set.from_list (next_request n);
        requested_at = moment;
      }),
      refl,
    )
    requests_by false moment n = (apart.kept key n, refl)

    on_lists : (q : Key) → same_key q key ≡ false → (links : List Link)
        → any_has_retransmission q links ≡ any_has_retransmission q (map (link_without key) links)
    on_lists q apart_ [] = refl
    on_lists q apart_ (link ∷ links) =
        let one = on link.neighbor in
        let others = on_lists q apart_ links in
        λ i. one i || others i
      where
        on : (o : Option Neighbor) → has_retransmission q o
            ≡ has_retransmission q (neighbor_on_without key o)
        on None = refl
        on (Some n) = ap is_some (sym (apart.removed_agrees key n.retransmissions q apart_))

    exchanging : (links : List Link) → any_exchange_or_loading links
        ≡ any_exchange_or_loading (map (link_without key) links)
    exchanging [] = refl
    exchanging (link ∷ links) =
        let one = on link.neighbor in
        let others = exchanging links in
        λ i. one i || others i
      where
        on : (o : Option Neighbor) → neighbor_is_exchange_or_loading o
            ≡ neighbor_is_exchange_or_loading (neighbor_on_without key o)
        on None = refl
        on (Some n) = refl

    removes : (moment : Moment) → OverlooksIn (remove_aged moment)
    removes moment o =
        let links : List Link = o.area.links in
        let d : Database = o.area.database in
        let e : Database = finite.remove d key in
        let keeps : Key → Bool = Endings.stays moment o.area in
        let keeps_so : Key → Bool = Endings.stays moment (cut_outcome o).area in
        let left : AreaState = on_database (λ db. finite.retain_keys db keeps) o in
        let left_so : AreaState = on_database (λ db. finite.retain_keys db keeps_so) (cut_outcome o)
        in
        let all = apart.same_but key (finite.retain_keys d keeps) (finite.retain_keys e keeps_so)
        (λ q apart_.
        finite.get-retain_keys d keeps q (λ x is. ap keeps (sym (keys_exact q x is)))
        ∙ (λ i. cond (stays_as moment (on_lists q apart_ links i)
        (sym (apart.removed_agrees key d q apart_) i))
        (sym (apart.removed_agrees key d q apart_) i) None)
        ∙ sym (finite.get-retain_keys e keeps_so q (λ x is. ap keeps_so (sym (keys_exact q x is)))))
        in
        let P : Bool → Type 0 = λ b. (map (link_without key)
        (cond (any_exchange_or_loading links) o left).area.links
        ≡ map (link_without key) (cond b (cut_outcome o) left_so).area.links)
        × (finite.remove (cond (any_exchange_or_loading links) o left).area.database key
        ≡ finite.remove (cond b (cut_outcome o) left_so).area.database key)
        × (sends_without key (cond (any_exchange_or_loading links) o left).sends
        ≡ sends_without key (cond b (cut_outcome o) left_so).sends) in
        subst P (exchanging links)
        (by_state (any_exchange_or_loading links) o left (cut_outcome o) left_so (links_twice links)
        (apart.twice key d) (links_twice links) all (sent_twice o.sends) (sent_twice o.sends))
      where
        by_state : (b : Bool) (x y z w : AreaState) → map (link_without key) x.area.links
            ≡ map (link_without key) z.area.links → finite.remove x.area.database key
            ≡ finite.remove z.area.database key → map (link_without key) y.area.links
            ≡ map (link_without key) w.area.links → finite.remove y.area.database key
            ≡ finite.remove w.area.database key → sends_without key x.sends
            ≡ sends_without key z.sends → sends_without key y.sends
            ≡ sends_without key w.sends
            → (map (link_without key) (cond b x y).area.links
            ≡ map (link_without key) (cond b z w).area.links)
            × (finite.remove (cond b x y).area.database key
            ≡ finite.remove (cond b z w).area.database key)
            × (sends_without key (cond b x y).sends
            ≡ sends_without key (cond b z w).sends)
        by_state true x y z w l d m e s t = (l, d, s)
        by_state false x y z w l d m e s t = (m, e, t)

    abbrev last : Moment → EventState → EventState
    last moment p = on_router (λ (r : Router). record r {
      moment = moment;
    }) (on_area (λ o. remove_aged moment (request_all moment o)) p)

    at_moment : (moment : Moment) → Overlooks (on_router (λ (r : Router). record r {
      moment = moment;
    }))
    at_moment moment p = ap (λ (q : EventState). record {
      router = record q.router { moment = moment };
      sends = q.sends;
    }) (stays p)

    lasts : (moment : Moment) → Overlooks (last moment)
    lasts moment =
        one_after_another (on_area (λ o. remove_aged moment (request_all moment o)))
        (on_router (λ (r : Router). record r { moment = moment }))
        (on_outcome (λ o. remove_aged moment (request_all moment o))
        (after (request_all moment) (remove_aged moment)
        (each moment (λ number link n. request_next moment n)
        (λ number link n. requests_by (is_to_request n) moment n)) (removes moment)))
        (at_moment moment)

    pub ended : (old : Router) (moment : Moment) (p : EventState) → HasRouterLsa p
        → cut (end_event old moment p) ≡ cut (end_event old moment (cut p))
    ended old moment p there =
        let before : List Link = old.area.links in
        let x : EventState = originate_router_lsa before moment (loading_done p) in
        let y : EventState = originate_router_lsa before moment (loading_done (cut p)) in
        let same : cut x ≡ cut y =
        described before moment (loading_done p) there
        ∙ ap (λ (q : EventState). cut (originate_router_lsa before moment q)) (loads p)
        ∙ sym (described before moment (loading_done (cut p)) (still_there p there)) in
        let rest = one_after_another refilled (last moment) refills (lasts moment) in
        rest x ∙ ap (λ (q : EventState). cut (last moment (refilled q))) same ∙ sym (rest y)
