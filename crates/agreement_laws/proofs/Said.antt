-- What each part of an event says about LSAs is held then: the LSAs of its Link State Updates, and
-- what its acknowledgments identify when they arise.
use Rattle.std.proofs.Common.{◌≡◌, ℕ, zero, suc, ◌+◌, true, cond, inl, inr, List, []}
use Rattle.std.proofs.Common.{◌∷◌, ◌++◌, map, Option, None, Some, refl, sym, ap, subst, ◌∙◌, arith}
use Rattle.std.specs.Prelude.{◌==◌, nat_le, slice_get}
use Rattle.std.specs.FinMap as finite
use Rattle.std.specs.List.{AllByRecursion, cons_option, enumerate_from, filter_map, flat_map, fold}
use Rattle.std.proofs.lemmas.Bool.{eqb-true}
use Rattle.words.specs.declared.key.Key.{Key}
use Rattle.lsa.specs.declared.body.LsaBody.{LsaBody}
use Rattle.lsdb.specs.Copies.{Database, DatabaseCopy, age_prematurely, copy_now, has_just_aged_out}
use Rattle.lsdb.specs.Copies.{install_flooded, install_originated, lsa_now}
use Rattle.lsdb.specs.Copies.{newer_than_copy, same_as_copy}
use Rattle.lsdb.specs.Headers.{Header, Lsa, key_of, lsa_with_age, lsa_key}
use Rattle.lsdb.specs.Instances.{instance_of}
use Rattle.lsdb.specs.Keys.{same_key}
use Rattle.lsdb.specs.declared.order.Instance.{Instance}
use Rattle.packet.specs.declared.model.Description.{Description}
use Rattle.packet.specs.declared.model.Hello.{Hello}
use Rattle.adjacency.specs.Adjacencies as adjacencies
use Rattle.adjacency.specs.Contents.{Content, Step, Updates, no_sends, then_}
use Rattle.adjacency.specs.Descriptions.{after_description}
use Rattle.adjacency.specs.Neighbors.{Neighbor}
use Rattle.adjacency.specs.Requests.{request_next}
use Rattle.adjacency.specs.Retransmissions.{after_acknowledgment, describe_again, lsa_of}
use Rattle.adjacency.specs.Retransmissions.{next_retransmissions, remove_retransmission}
use Rattle.adjacency.specs.Retransmissions.{request_again, retransmission_lsas, send_again}
use Rattle.adjacency.specs.Retransmissions.{that_fit, update_again}
use Rattle.adjacency.proofs.Kept.{chosen}
use Rattle.adjacency.proofs.Maps.{IfThere, OfEntry, entries_in, inserted_in, none_in}
use Rattle.received.specs.Cases.{Case}
use Rattle.received.specs.Flooding.{flood, flood_to, is_incoming}
use Rattle.received.specs.Holds.{Holds}
use Rattle.received.specs.Links.{Area, Link, change_link, delay_acknowledgment, link_at}
use Rattle.received.specs.AreaStates.{AreaState, Send, Stepping, each_neighbor, marked_database}
use Rattle.received.specs.AreaStates.{on_database, on_links, one_neighbor, only_at, sending}
use Rattle.received.specs.AreaStates.{sends_at}
use Rattle.received.specs.AreaStates.{sent_on, step_on, stepped_links, stepping_sends, sends_of}
use Rattle.received.specs.Updates.{after_case, case_at, database_copy, send_copy}
use Rattle.received.proofs.Marks.{There}
use Rattle.received.proofs.Roomy.{joined}
use Rattle.event_rules.specs.Commands.{taken_down}
use Rattle.event_rules.specs.Endings.{flood_if_aged, link_loading_done, stays}
use Rattle.event_rules.specs.EventState.{flood_from_nobody}
use Rattle.event_rules.specs.InstanceIdentities.{identity_of_lsa}
use Rattle.event_rules.specs.Hellos.{accepts, hello_is_due, hello_on, names}
use Rattle.event_rules.specs.Originations.{install_and_flood, new_instance}
use Rattle.event_rules.specs.Packets.{accept_hello, receive_hello_on, requested_lsas, with_neighbor}
use Rattle.event_rules.specs.Routers.{Occurrence, Router}
use Rattle.event_rules.specs.Ticks.{acknowledgments_on, again, expire_timers, hello_sent_on}
use Rattle.event_rules.specs.Ticks.{send_acknowledgments}
use Rattle.event_rules.specs.Ticks.{send_hellos, with_hello_sent, without_acknowledgments}
use Rattle.invariants.proofs.Known.{each_all}
use Rattle.invariants.proofs.Retransmitted.{OwnKeys, own_at}
use Rattle.invariants.proofs.Leaving.{itself}
use Rattle.agreement_laws.specs.SaidIsHeld.{young}
use Rattle.agreement_laws.specs.CopiesClimb.{HasHad}
use Rattle.agreement_laws.proofs.Ages.{noted_at_least}
use Rattle.agreement_laws.proofs.Having.{Whole, whole_at}
use Rattle.agreement_laws.proofs.Ranks.{follow, itself_at_least, older_at_least, same_back}
use Rattle.agreement_laws.proofs.Sayings.{OfContent, OfCopies, OfLink, OfNamed, OfNeighbor, OfSend}
use Rattle.agreement_laws.proofs.Sayings.{OfStep, OfWaiting, Truth, acknowledged, after_one, asked}
use Rattle.agreement_laws.proofs.Sayings.{both_again, content_more, filled, flooded_so, helloed}
use Rattle.agreement_laws.proofs.Sayings.{link_more, mismatched, quiet_step, run_out_so}
use Rattle.agreement_laws.proofs.Cases.{is_newer_case, nothing_to_flush, same_where_duplicate}
use Rattle.agreement_laws.proofs.Databases.{aged_out}
use Rattle.agreement_laws.proofs.Holding.{HasEnded, IsHeldAsNew, held_flushed, held_installed}
use Rattle.agreement_laws.proofs.Holding.{held_originated, held_removed, held_same, held_sent}
use Rattle.agreement_laws.proofs.Steps as steps

-- ---- links

abbrev pub OnLink : (Link → Type 0) → Option Link → Type 0
OnLink P None = Unit {0}
OnLink P (Some link) = P link

module _ (P R : Link → Type 0) where
  place_on : (g : (ℕ × Link) → Link) (k i : ℕ) (xs : List Link)
      → ((link : Link) → P link → R (g (k + i, link))) → OnLink P (slice_get xs i)
      → OnLink R (slice_get (map g (enumerate_from k xs)) i)
  place_on g k i [] so h = tt
  place_on g k zero (x ∷ xs) so h = let e : k + 0 ≡ k = omega arith in
      subst (λ m. R (g (m, x))) e (so x h)
  place_on g k (suc i) (x ∷ xs) so h =
      let e : k + suc i ≡ k + 1 + i = omega arith in
      place_on g (k + 1) i xs (λ link p. subst (λ m. R (g (m, link))) e (so link p)) h

  pub numbered_on : (g : (ℕ × Link) → Link) (number : ℕ)
      → ((link : Link) → P link → R (g (number, link))) → (xs : List Link)
      → OnLink P (link_at number xs) → OnLink R (link_at number (map g (enumerate_from 1 xs)))
  numbered_on g zero so xs h = tt
  numbered_on g (suc i) so xs h = let e : suc i ≡ 1 + i = omega arith in
      place_on g 1 i xs (λ link p. subst (λ m. R (g (m, link))) e (so link p)) h

  each_place_on : (g : Link → Link) (i : ℕ) (xs : List Link) → ((link : Link) → P link → R (g link))
      → OnLink P (slice_get xs i) → OnLink R (slice_get (map g xs) i)
  each_place_on g i [] so h = tt
  each_place_on g zero (x ∷ xs) so h = so x h
  each_place_on g (suc i) (x ∷ xs) so h = each_place_on g i xs so h

  each_on : (g : Link → Link) (number : ℕ) → ((link : Link) → P link → R (g link))
      → (xs : List Link) → OnLink P (link_at number xs) → OnLink R (link_at number (map g xs))
  each_on g zero so xs h = tt
  each_on g (suc i) so xs h = each_place_on g i xs so h

-- ---- what is sent at the interfaces

module _ (P : ℕ → Content → Type 0) where
  abbrev OfNumbered : Send → Type 0
  OfNumbered s = P s.interface s.content

  numbered_sent : (number : ℕ) (cs : List Content) → AllByRecursion (P number) cs
      → AllByRecursion OfNumbered (sends_at number cs)
  numbered_sent number [] h = tt
  numbered_sent number (c ∷ cs) h = (h.0, numbered_sent number cs h.1)

  -- by each link, from a property of it
  by_links_sent : (f : ℕ → Link → List Content) → (k : ℕ) (xs : List Link)
      → ((i : ℕ) → OnLink (λ link. AllByRecursion (P (k + i)) (f (k + i) link)) (slice_get xs i))
      → AllByRecursion OfNumbered (flat_map (λ (e : ℕ × Link). sends_at e.0 (f e.0 e.1))
      (enumerate_from k xs))
  by_links_sent f k [] each = tt
  by_links_sent f k (x ∷ xs) each =
      let e : k + 0 ≡ k = omega arith in
      joined OfNumbered (sends_at k (f k x))
      (flat_map (λ (e : ℕ × Link). sends_at e.0 (f e.0 e.1)) (enumerate_from (k + 1) xs))
      (numbered_sent k (f k x) (subst (λ m. AllByRecursion (P m) (f m x)) e (each 0)))
      (by_links_sent f (k + 1) xs (λ i.
      let e : k + suc i ≡ k + 1 + i = omega arith in
      subst (λ m. OnLink (λ link. AllByRecursion (P m) (f m link)) (slice_get xs i)) e
      (each (suc i))))

-- ---- one router

module _ (old : Router) (moment : ℕ) where
  pub record IsSaid (T : Truth) (o : AreaState) : Type 0 where
    pub sends : AllByRecursion (OfSend old T) o.sends
    pub left : (number : ℕ) → OnLink (OfLink old T number) (link_at number o.area.links)

  -- ---- if more is known

  module _ (T U : Truth) (more : (key : Key) (i : Instance) → T key i → U key i) where
    on_link_more : (number : ℕ) (o : Option Link) → OnLink (OfLink old T number) o
        → OnLink (OfLink old U number) o
    on_link_more number None h = tt
    on_link_more number (Some link) h = link_more old T U more number link h

    sends_more : (sends : List Send) → AllByRecursion (OfSend old T) sends
        → AllByRecursion (OfSend old U) sends
    sends_more sends h = each_all (OfSend old T) (OfSend old U)
        (λ s so. content_more old T U more s.interface s.content so) sends h

    pub said_more : (o : AreaState) → IsSaid T o → IsSaid U o
    said_more o h = record {
      sends = sends_more o.sends h.sends;
      left = λ number. on_link_more number (link_at number o.area.links) (h.left number);
    }

  -- ---- at a point of the event

  -- one that is at least as new is held
  abbrev pub AsNew : Database → Truth
  AsNew db key i = IsHeldAsNew follow key moment i db

  abbrev pub Grows : Database → Database → Type 0
  Grows db new = (key : Key) (i : Instance) → AsNew db key i → AsNew new key i

  pub record IsSo (o : AreaState) : Type 0 where
    -- what was held before
    pub had : (key : Key) (c : DatabaseCopy) → finite.get old.area.database key ≡ Some c
        → AsNew o.area.database key (copy_now moment c)
    pub said : IsSaid (AsNew o.area.database) o

  abbrev KeepsWaiting : Area → Area → Type 0
  KeepsWaiting a b =
      (number : ℕ) → OnLink (OfLink old (AsNew b.database) number) (link_at number a.links)
      → OnLink (OfLink old (AsNew b.database) number) (link_at number b.links)

  -- a change that sends nothing
  changed : (o : AreaState) (a : Area) → Grows o.area.database a.database → KeepsWaiting o.area a
      → IsSo o → IsSo (record { area = a; sends = o.sends })
  changed o a grows keeps h =
      let more : IsSaid (AsNew a.database) o =
      said_more (AsNew o.area.database) (AsNew a.database) grows o h.said in
      record {
        had = λ key c at. grows key (copy_now moment c) (h.had key c at);
        said = record { sends = more.sends; left = λ number. keeps number (more.left number) };
      }

  -- a change that sends more
  changed_with : (o : AreaState) (a : Area) (sends : List Send) → Grows o.area.database a.database
      → AllByRecursion (OfSend old (AsNew a.database)) sends → KeepsWaiting o.area a → IsSo o
      → IsSo (record { area = a; sends = o.sends ++ sends })
  changed_with o a sends grows new keeps h =
      let more : IsSaid (AsNew a.database) o =
      said_more (AsNew o.area.database) (AsNew a.database) grows o h.said in
      record {
        had = λ key c at. grows key (copy_now moment c) (h.had key c at);
        said = record {
          sends = joined (OfSend old (AsNew a.database)) o.sends sends more.sends new;
          left = λ number. keeps number (more.left number);
        };
      }

  -- ---- what is sent

  abbrev marked : List Send → Database → Database
  marked more db = fold (λ (d : Database) (s : Send). marked_database moment d s.content) db more

  mark_grows : (more : List Send) (db : Database) → Grows db (marked more db)
  mark_grows more db key i h = held_sent follow key moment i more db h

  sent_so : (more : List Send) (o : AreaState)
      → AllByRecursion (OfSend old (AsNew o.area.database)) more → IsSo o
      → IsSo (sending moment more o)
  sent_so more o new h =
      changed_with o (sending moment more o).area more (mark_grows more o.area.database)
      (sends_more (AsNew o.area.database) (AsNew (marked more o.area.database))
      (mark_grows more o.area.database) more new) (λ number at. at) h

  -- at one interface
  sent_at : (number : ℕ) (cs : List Content) (o : AreaState)
      → AllByRecursion (OfContent old (AsNew o.area.database) number) cs → IsSo o
      → IsSo (sending moment (sends_at number cs) o)
  sent_at number cs o new h = sent_so (sends_at number cs) o
      (numbered_sent (OfContent old (AsNew o.area.database)) number cs new) h

  -- ---- links

  same_database : (db : Database) → Grows db db
  same_database db key i h = h

  on_each : (g : Link → Link) (o : AreaState)
      → ((number : ℕ) (link : Link) → OfLink old (AsNew o.area.database) number link
      → OfLink old (AsNew o.area.database) number (g link)) → IsSo o → IsSo (on_links (map g) o)
  on_each g o keeps h =
      changed o (on_links (map g) o).area (same_database o.area.database)
      (λ number at. each_on (OfLink old (AsNew o.area.database) number)
      (OfLink old (AsNew o.area.database) number) g number (keeps number) o.area.links at) h

  on_one : (place : ℕ) (change : Link → Link) (o : AreaState)
      → ((number : ℕ) (link : Link) → (number == place) ≡ true
      → OfLink old (AsNew o.area.database) number link
      → OfLink old (AsNew o.area.database) number (change link)) → IsSo o
      → IsSo (on_links (change_link place change) o)
  on_one place change o keeps h =
      changed o (on_links (change_link place change) o).area (same_database o.area.database)
      (λ number at. numbered_on (OfLink old (AsNew o.area.database) number)
      (OfLink old (AsNew o.area.database) number)
      (λ (e : ℕ × Link). cond (e.0 == place) (change e.1) e.1) number
      (λ link so. chosen (OfLink old (AsNew o.area.database) number) (number == place) (change link)
      link (λ e. keeps number link e so) (λ e. so)) o.area.links at) h

  -- ---- steps of the neighbors

  -- what each neighbor's step does to the property
  abbrev Steps : AreaState → Stepping → Type 0
  Steps o f = (number : ℕ) (link : Link) (n : Neighbor)
      → OfNeighbor old (AsNew o.area.database) number n
      → OfStep old (AsNew o.area.database) number (f number link n)

  step_on_so : (o : AreaState) (f : Stepping) → Steps o f
      → (number : ℕ) (link : Link) (n : Option Neighbor)
      → Holds (OfNeighbor old (AsNew o.area.database) number) n
      → Holds (OfNeighbor old (AsNew o.area.database) number) (step_on (f number link) n)
  step_on_so o f steps number link None h = tt
  step_on_so o f steps number link (Some n) h = (steps number link n h).neighbor

  sent_on_so : (o : AreaState) (f : Stepping) → Steps o f
      → (number : ℕ) (link : Link) (n : Option Neighbor)
      → Holds (OfNeighbor old (AsNew o.area.database) number) n
      → AllByRecursion (OfContent old (AsNew o.area.database) number)
      (sent_on (f number link) n)
  sent_on_so o f steps number link None h = tt
  sent_on_so o f steps number link (Some n) h = (steps number link n h).sends

  stepped : (f : Stepping) (o : AreaState) → Steps o f → IsSo o
      → IsSo (on_links (stepped_links f) o)
  stepped f o steps h =
      changed o (on_links (stepped_links f) o).area (same_database o.area.database)
      (λ number at. numbered_on (OfLink old (AsNew o.area.database) number)
      (OfLink old (AsNew o.area.database) number)
      (λ (e : ℕ × Link). record e.1 { neighbor = step_on (f e.0 e.1) e.1.neighbor }) number
      (λ link so. record {
        acknowledgments = so.acknowledgments;
        neighbor = step_on_so o f steps number link link.neighbor so.neighbor;
      }) o.area.links at) h

  each_so : (f : Stepping) (o : AreaState) → Steps o f → IsSo o → IsSo (each_neighbor moment f o)
  each_so f o steps h =
      sent_so (stepping_sends f o.area.links) (on_links (stepped_links f) o)
      (by_links_sent (OfContent old (AsNew o.area.database))
      (λ number link. sent_on (f number link) link.neighbor) 1 o.area.links
      (λ i. let e : suc i ≡ 1 + i = omega arith in
      subst (λ m. OnLink (λ link. AllByRecursion (OfContent old (AsNew o.area.database) m)
      (sent_on (f m link) link.neighbor)) (slice_get o.area.links i)) e
      (on_link (suc i) (slice_get o.area.links i) (h.said.left (suc i)))))
      (stepped f o steps h)
    where
      on_link : (number : ℕ) (l : Option Link)
          → OnLink (OfLink old (AsNew o.area.database) number) l
          → OnLink (λ link. AllByRecursion (OfContent old (AsNew o.area.database) number)
          (sent_on (f number link) link.neighbor)) l
      on_link number None k = tt
      on_link number (Some link) k = sent_on_so o f steps number link link.neighbor k.neighbor

  one_so : (place : ℕ) (f : Neighbor → Step) (o : AreaState)
      → ((number : ℕ) (n : Neighbor) → OfNeighbor old (AsNew o.area.database) number n
      → OfStep old (AsNew o.area.database) number (f n)) → IsSo o
      → IsSo (one_neighbor moment place f o)
  one_so place f o step h =
      each_so (only_at place f) o
      (λ number link n so. chosen (OfStep old (AsNew o.area.database) number) (number == place)
      (f n) (record { neighbor = n; sends = [] })
      (λ e. step number n so) (λ e. quiet_step old (AsNew o.area.database) number n so)) h

  -- ---- flooding of what is held

  flooded : (sender : Option ℕ) (lsa : Lsa) (o : AreaState)
      → AsNew o.area.database (lsa_key lsa) (instance_of lsa.header) → IsSo o
      → IsSo (flood moment sender lsa o)
  flooded sender lsa o so h =
      each_so (flood_to moment sender lsa) o
      (λ number link n at. flooded_so old (AsNew o.area.database) number moment
      (is_incoming sender number) lsa n so at) h

  -- ---- copies

  -- an existing copy
  of_copy : (db : Database) (key : Key) (c : DatabaseCopy) → OwnKeys db → finite.get db key ≡ Some c
      → AsNew db (lsa_key (lsa_now moment c)) (instance_of (lsa_now moment c).header)
  of_copy db key c own at =
      subst (λ (k : Key). AsNew db k (copy_now moment c)) (sym (own_at db key c own at))
      (c, at, itself_at_least (copy_now moment c))

  -- a copy that is stored at this moment
  put_so : (lsa : Lsa) (received sent : Option ℕ) (db : Database) (key : Key) → lsa_key lsa ≡ key
      → AsNew (finite.insert db key (record {
        lsa = lsa;
        stored = moment;
        received = received;
        sent = sent;
      })) (lsa_key lsa)
      (instance_of lsa.header)
  put_so lsa received sent db key is =
      held_same follow (lsa_key lsa) moment (instance_of lsa.header) key (record {
        lsa = lsa;
        stored = moment;
        received = received;
        sent = sent;
      }) db
      (ap (same_key (lsa_key lsa)) (sym is) ∙ itself (lsa_key lsa))
      (noted_at_least lsa.header moment (instance_of lsa.header)
      (itself_at_least (instance_of lsa.header)))

  -- ---- aging, and self-originated LSAs

  pub ages : (es : List (Key × DatabaseCopy)) (o : AreaState) → OwnKeys old.area.database
      → AllByRecursion (OfEntry (There old.area.database)) es → IsSo o
      → IsSo (fold (flood_if_aged old.moment moment) o es)
  ages [] o own all h = h
  ages (e ∷ es) o own all h =
      ages es (flood_if_aged old.moment moment o e) own all.1
      (chosen IsSo (has_just_aged_out old.moment moment e.1)
      (flood_from_nobody moment (lsa_now moment e.1) o) o
      (λ is. flooded None (lsa_now moment e.1) o
      (subst (λ (k : Key). AsNew o.area.database k (copy_now moment e.1))
      (sym (own_at old.area.database e.0 e.1 own all.0)) (h.had e.0 e.1 all.0)) h) (λ is. h))

  on_copies : (o : AreaState) (db : Database) → Grows o.area.database db → IsSo o
      → IsSo (on_database (λ d. db) o)
  on_copies o db grows h = changed o (on_database (λ d. db) o).area grows (λ number at. at) h

  pub flushes : (key : Key) (c : DatabaseCopy) (o : AreaState) → OwnKeys o.area.database
      → finite.get o.area.database key ≡ Some c → IsSo o
      → IsSo (flood_from_nobody moment (lsa_with_age 3600 c.lsa)
      (on_database (age_prematurely moment key) o))
  flushes key c o own at h =
      flooded None (lsa_with_age 3600 c.lsa) (on_database (age_prematurely moment key) o)
      (subst (λ (db : Database). AsNew db (lsa_key c.lsa)
      (instance_of (lsa_with_age 3600 c.lsa).header))
      (sym (aged_out moment key c o.area.database at))
      (put_so (lsa_with_age 3600 c.lsa) c.received c.sent o.area.database key
      (own_at o.area.database key c own at)))
      (on_copies o (age_prematurely moment key o.area.database)
      (λ k i so. held_flushed follow k moment i key c o.area.database at so) h)

  pub originates : (key : Key) (says : LsaBody) (o : AreaState)
      → lsa_key (new_instance key (finite.get o.area.database key) says) ≡ key → IsSo o
      → IsSo (install_and_flood moment (new_instance key (finite.get o.area.database key) says)
      o)
  originates key says o its_key h =
      let lsa : Lsa = new_instance key (finite.get o.area.database key) says in
      flooded None lsa (on_database (install_originated moment lsa) o)
      (put_so lsa None None o.area.database (lsa_key lsa) refl)
      (on_copies o (install_originated moment lsa o.area.database)
      (λ k i so. held_originated follow k moment i key says o.area.database its_key so) h)

  -- ---- a received LSA

  installs : (place : ℕ) (lsa : Lsa) (o : AreaState)
      → newer_than_copy moment lsa.header (database_copy lsa o.area) ≡ true → IsSo o
      → IsSo (after_case Case.Newer moment place lsa o)
  installs place lsa o newer h =
      let p : AreaState = on_database (install_flooded moment lsa) o in
      let there : AsNew p.area.database (lsa_key lsa) (instance_of lsa.header) =
      put_so lsa (Some moment) None o.area.database (lsa_key lsa) refl in
      let q : AreaState = flood moment (Some place) lsa p in
      let still : AsNew q.area.database (lsa_key lsa) (instance_of lsa.header) =
      mark_grows (stepping_sends (flood_to moment (Some place) lsa) p.area.links)
      p.area.database (lsa_key lsa) (instance_of lsa.header) there in
      on_one place (delay_acknowledgment lsa.header) q
      (λ number link e so. record {
        acknowledgments = inserted_in (OfWaiting old (AsNew q.area.database) number)
            link.acknowledgments (key_of lsa.header) lsa.header so.acknowledgments (inr still);
        neighbor = so.neighbor;
      })
      (flooded (Some place) lsa p there
      (on_copies o (install_flooded moment lsa o.area.database)
      (λ k i so. held_installed follow k moment i lsa o.area.database newer so) h))

  -- there was none before if there is none now
  none_before : (key : Key) (o : AreaState) → finite.get o.area.database key ≡ None → IsSo o
      → finite.get old.area.database key ≡ None
  none_before key o none h = by_copy (finite.get old.area.database key) refl
    where
      by_copy : (c : Option DatabaseCopy) → finite.get old.area.database key ≡ c → c ≡ None
      by_copy None at = refl
      by_copy (Some c) at =
          let has = h.had key c at in
          let no : None ≡ Some has.0 = sym none ∙ has.1 in absurd cc

  -- the copy is the same instance
  same_held : (lsa : Lsa) (o : AreaState) (c : Option DatabaseCopy)
      → finite.get o.area.database (lsa_key lsa) ≡ c → same_as_copy moment lsa.header c ≡ true
      → AsNew o.area.database (lsa_key lsa) (instance_of lsa.header)
  same_held lsa o None at same = absurd cc
  same_held lsa o (Some c) at same =
      (c, at, same_back (instance_of lsa.header) (copy_now moment c) same)

  copy_sent : (place : ℕ) (key : Key) (c : Option DatabaseCopy) (o : AreaState)
      → OwnKeys o.area.database → finite.get o.area.database key ≡ c → IsSo o
      → IsSo (send_copy moment place c o)
  copy_sent place key None o own at h = h
  copy_sent place key (Some c) o own at h =
      sent_at place (Updates (lsa_now moment c) ∷ []) o (of_copy o.area.database key c own at, tt) h

  pub cases : (case : Case) (place : ℕ) (lsa : Lsa) (o : AreaState) → OwnKeys o.area.database
      → case_at moment place lsa o.area ≡ case → IsSo o → IsSo (after_case case moment place lsa o)
  cases Case.Unreadable place lsa o own is h = h
  cases Case.NothingToFlush place lsa o own is h =
      let both = nothing_to_flush moment place lsa o.area is in
      sent_at place (Content.Acknowledges lsa.header ∷ []) o
      (inr (none_before (lsa_key lsa) o both.1 h, both.0), tt) h
  cases Case.TooSoon place lsa o own is h = h
  cases Case.Newer place lsa o own is h =
      installs place lsa o (is_newer_case moment place lsa o.area is) h
  cases Case.BadRequest place lsa o own is h =
      one_so place (adjacencies.mismatch_step moment) o
      (λ number n so. mismatched old (AsNew o.area.database) number moment n so) h
  cases Case.ImpliedAcknowledgment place lsa o own is h =
      one_so place (λ n. no_sends (remove_retransmission (lsa_key lsa) n)) o
      (λ number n so. quiet_step old (AsNew o.area.database) number
      (remove_retransmission (lsa_key lsa) n) (record {
        summary = so.summary;
        last = so.last;
      })) h
  cases Case.Duplicate place lsa o own is h =
      let same = same_where_duplicate moment place lsa o.area is in
      sent_at place (Content.Acknowledges lsa.header ∷ []) o
      (inl (inr (same_held lsa o (database_copy lsa o.area) refl same)), tt) h
  cases Case.SequenceWraps place lsa o own is h = h
  cases Case.SentJustNow place lsa o own is h = h
  cases Case.Older place lsa o own is h =
      copy_sent place (lsa_key lsa) (database_copy lsa o.area) o own refl h

  -- ---- other packets

  pub hellos : (own place from : ℕ) (hello : Hello) (link : Option Link) (o : AreaState)
      → link_at place o.area.links ≡ link → IsSo o
      → IsSo (receive_hello_on own moment place from hello link o)
  hellos own place from hello None o at h = h
  hellos own place from hello (Some link) o at h =
      let s : Step = adjacencies.after_hello moment from (names own hello) link.neighbor in
      chosen IsSo (accepts own from hello link) (accept_hello moment place s o) o
      (λ e. sent_at place s.sends (on_links (change_link place (with_neighbor s.neighbor)) o)
      step.sends
      (on_one place (with_neighbor s.neighbor) o
      (λ number l e so. record {
        acknowledgments = so.acknowledgments;
        neighbor = subst (λ m. OfNeighbor old (AsNew o.area.database) m s.neighbor)
            (sym (eqb-true number place e)) step.neighbor;
      }) h)) (λ e. h)
    where
      its : OfLink old (AsNew o.area.database) place link
      its = subst (OnLink (OfLink old (AsNew o.area.database) place)) at (h.said.left place)

      step : OfStep old (AsNew o.area.database) place
          (adjacencies.after_hello moment from (names own hello) link.neighbor)
      step = helloed old (AsNew o.area.database) place moment from (names own hello) link.neighbor
          its.neighbor

  copies_held : (number : ℕ) (db : Database) → OwnKeys db → OfCopies old (AsNew db) number db
  copies_held number db own key = by_copy (finite.get db key) refl
    where
      by_copy : (c : Option DatabaseCopy) → finite.get db key ≡ c
          → IfThere (λ (key : Key) (c : DatabaseCopy). OfNamed old (AsNew db) number
          (identity_of_lsa c.lsa)) key c
      by_copy None at = tt
      by_copy (Some c) at =
          inr (subst (λ (k : Key). AsNew db k (young (identity_of_lsa c.lsa)))
          (sym (own_at db key c own at))
          (c, at, older_at_least (copy_now moment c)))

  pub descriptions : (own place : ℕ) (d : Description) (o : AreaState) → OwnKeys o.area.database
      → IsSo o → IsSo (one_neighbor moment place (after_description own moment o.area.database d) o)
  descriptions own place d o keys h =
      one_so place (after_description own moment o.area.database d) o
      (λ number n so. after_one old (AsNew o.area.database) number own moment o.area.database d
      (copies_held number o.area.database keys) n so) h

  pub acknowledgments : (place : ℕ) (headers : List Header) (o : AreaState) → IsSo o
      → IsSo (one_neighbor moment place (λ n. no_sends (after_acknowledgment moment headers n)) o)
  acknowledgments place headers o h =
      one_so place (λ n. no_sends (after_acknowledgment moment headers n)) o
      (λ number n so. quiet_step old (AsNew o.area.database) number
      (after_acknowledgment moment headers n)
      (acknowledged old (AsNew o.area.database) number moment headers n so)) h

  pub mismatches : (place : ℕ) (o : AreaState) → IsSo o
      → IsSo (one_neighbor moment place (adjacencies.mismatch_step moment) o)
  mismatches place o h = one_so place (adjacencies.mismatch_step moment) o
      (λ number n so. mismatched old (AsNew o.area.database) number moment n so) h

  -- ---- copies and their keys

  module _ (T : Truth) (number : ℕ) where
    updates_so : (lsas : List Lsa) → AllByRecursion
        (λ (l : Lsa). T (lsa_key l) (instance_of l.header)) lsas
        → AllByRecursion (OfContent old T number) (map Updates lsas)
    updates_so [] h = tt
    updates_so (l ∷ lsas) h = (h.0, updates_so lsas h.1)

    fitting_so : (used : ℕ) (lsas : List Lsa)
        → AllByRecursion (λ (l : Lsa). T (lsa_key l) (instance_of l.header)) lsas
        → AllByRecursion (λ (l : Lsa). T (lsa_key l) (instance_of l.header))
        (that_fit used lsas)
    fitting_so used [] h = tt
    fitting_so used (l ∷ ls) h =
        chosen (AllByRecursion (λ (l : Lsa). T (lsa_key l) (instance_of l.header)))
        (nat_le (used + l.header.length) 8192) (l ∷ that_fit (used + l.header.length) ls) []
        (λ e. (h.0, fitting_so (used + l.header.length) ls h.1)) (λ e. tt)

  copies_so : (db : Database) → OwnKeys db → (keys : List Key)
      → AllByRecursion (λ (l : Lsa). AsNew db (lsa_key l) (instance_of l.header))
      (filter_map (λ (key : Key). lsa_of moment (finite.get db key)) keys)
  copies_so db own [] = tt
  copies_so db own (key ∷ keys) = with_one (finite.get db key) refl (copies_so db own keys)
    where
      with_one : (c : Option DatabaseCopy) → finite.get db key ≡ c
          → AllByRecursion (λ (l : Lsa). AsNew db (lsa_key l) (instance_of l.header))
          (filter_map (λ (k : Key). lsa_of moment (finite.get db k)) keys)
          → AllByRecursion (λ (l : Lsa). AsNew db (lsa_key l) (instance_of l.header))
          (cons_option (lsa_of moment c)
          (filter_map (λ (k : Key). lsa_of moment (finite.get db k)) keys))
      with_one None at rest = rest
      with_one (Some c) at rest = (of_copy db key c own at, rest)

  pub requested : (place : ℕ) (keys : List Key) (o : AreaState) → OwnKeys o.area.database → IsSo o
      → IsSo (sending moment (sends_at place
      (map Content.Updates (requested_lsas moment o.area.database keys))) o)
  requested place keys o own h =
      sent_at place (map Content.Updates (requested_lsas moment o.area.database keys)) o
      (updates_so (AsNew o.area.database) place (requested_lsas moment o.area.database keys)
      (copies_so o.area.database own keys)) h

  -- ---- a Tick

  update_again_so : (db : Database) (number interval : ℕ) (n : Neighbor) → OwnKeys db
      → OfNeighbor old (AsNew db) number n
      → OfStep old (AsNew db) number (update_again moment interval db n)
  update_again_so db number interval n own h =
      steps.update_again_so (OfStep old (AsNew db) number) moment n interval db (record {
        neighbor = record { summary = h.summary; last = h.last };
        sends = updates_so (AsNew db) number (next_retransmissions moment db n)
            (fitting_so (AsNew db) number 28 (retransmission_lsas moment db n)
            (copies_so db own (finite.keys n.retransmissions)));
      }) (quiet_step old (AsNew db) number n h)

  again_so : (db : Database) (number interval : ℕ) (n : Neighbor) → OwnKeys db
      → OfNeighbor old (AsNew db) number n
      → OfStep old (AsNew db) number (send_again moment interval db n)
  again_so db number interval n own h =
      let first : Step = then_ (describe_again moment interval n) (request_again moment interval) in
      let so : OfStep old (AsNew db) number first =
      both_again old (AsNew db) number moment interval n h in
      let last : OfStep old (AsNew db) number (update_again moment interval db first.neighbor) =
      update_again_so db number interval first.neighbor own so.neighbor in
      record {
        neighbor = last.neighbor;
        sends = joined (OfContent old (AsNew db) number) first.sends
            (update_again moment interval db first.neighbor).sends so.sends last.sends;
      }

  pub agains : (o : AreaState) → OwnKeys o.area.database → IsSo o
      → IsSo (each_neighbor moment (again moment o) o)
  agains o own h = each_so (again moment o) o
      (λ number link n so. again_so o.area.database number link.interface.retransmit_interval n own
      so) h

  values_so : (T : Truth) (number : ℕ) (es : List (Key × Header))
      → AllByRecursion (OfEntry (OfWaiting old T number)) es
      → AllByRecursion (OfContent old T number) (map Content.Acknowledges (map (λ e. e.1) es))
  values_so T number [] h = tt
  values_so T number (e ∷ es) h = (inl h.0, values_so T number es h.1)

  waiting_so : (T : Truth) (number : ℕ) (o : Option Link) → OnLink (OfLink old T number) o
      → OnLink (λ link. AllByRecursion (OfContent old T number) (acknowledgments_on link)) o
  waiting_so T number None h = tt
  waiting_so T number (Some link) h =
      values_so T number (finite.entries link.acknowledgments)
      (entries_in (OfWaiting old T number) link.acknowledgments h.acknowledgments)

  pub acknowledges : (o : AreaState) → IsSo o → IsSo (send_acknowledgments moment o)
  acknowledges o h =
      sent_so (sends_of acknowledgments_on o.area.links) (on_links (map without_acknowledgments) o)
      (by_links_sent (OfContent old (AsNew o.area.database))
      (λ number link. acknowledgments_on link) 1 o.area.links
      (λ i. let e : suc i ≡ 1 + i = omega arith in
      subst (λ m. OnLink (λ link. AllByRecursion (OfContent old (AsNew o.area.database) m)
      (acknowledgments_on link)) (slice_get o.area.links i)) e
      (waiting_so (AsNew o.area.database) (suc i) (slice_get o.area.links i)
      (h.said.left (suc i)))))
      (on_each without_acknowledgments o (λ number link so. record {
        acknowledgments = none_in (OfWaiting old (AsNew o.area.database) number);
        neighbor = so.neighbor;
      }) h)

  hello_sent_so : (T : Truth) (number : ℕ) (link : Link)
      → AllByRecursion (OfContent old T number) (hello_sent_on moment link)
  hello_sent_so T number link =
      chosen (AllByRecursion (OfContent old T number)) (hello_is_due moment link)
      (Content.SendsHello (hello_on link) ∷ []) [] (λ is. (tt, tt)) (λ is. tt)

  pub hellos_sent : (o : AreaState) → IsSo o → IsSo (send_hellos moment o)
  hellos_sent o h =
      sent_so (sends_of (hello_sent_on moment) o.area.links)
      (on_links (map (with_hello_sent moment)) o)
      (by_links_sent (OfContent old (AsNew o.area.database))
      (λ number link. hello_sent_on moment link) 1 o.area.links
      (λ i. on_any (1 + i) (slice_get o.area.links i)))
      (on_each (with_hello_sent moment) o (λ number link so. record {
        acknowledgments = so.acknowledgments;
        neighbor = so.neighbor;
      }) h)
    where
      on_any : (number : ℕ) (l : Option Link)
          → OnLink (λ link. AllByRecursion (OfContent old (AsNew o.area.database) number)
          (hello_sent_on moment link)) l
      on_any number None = tt
      on_any number (Some link) = hello_sent_so (AsNew o.area.database) number link

  pub inactive : (o : AreaState) → IsSo o → IsSo (on_links (map (expire_timers moment)) o)
  inactive o h =
      on_each (expire_timers moment) o (λ number link so. record {
        acknowledgments = so.acknowledgments;
        neighbor = run_out_so old (AsNew o.area.database) number moment link.interface.dead_interval
            link.neighbor so.neighbor;
      }) h

  pub down : (place : ℕ) (o : AreaState) → IsSo o → IsSo (on_links (change_link place taken_down) o)
  down place o h = on_one place taken_down o (λ number link e so. record {
    acknowledgments = so.acknowledgments;
    neighbor = tt;
  }) h

  pub loaded : (o : AreaState) → IsSo o → IsSo (on_links (map link_loading_done) o)
  loaded o h =
      on_each link_loading_done o (λ number link so. record {
        acknowledgments = so.acknowledgments;
        neighbor = filled old (AsNew o.area.database) number link.neighbor so.neighbor;
      }) h

  pub requests : (o : AreaState) → IsSo o
      → IsSo (each_neighbor moment (λ place link m. request_next moment m) o)
  requests o h = each_so (λ place link m. request_next moment m) o
      (λ number link n so. asked old (AsNew o.area.database) number moment n so) h

  -- ---- the end

  -- it is held as new, or has left at MaxAge
  abbrev pub Ended : Occurrence → AreaState → Truth
  Ended event o key i = HasEnded follow key moment i (HasHad old event key) o.area

  abbrev pub AtEnd : Occurrence → AreaState → Type 0
  AtEnd event o = IsSaid (Ended event o) o

  pub stays_so : (event : Occurrence) (o : AreaState) → IsSo o → AtEnd event o
  stays_so event o h = said_more (AsNew o.area.database) (Ended event o) (λ key i so. inl so) o
      h.said

  pub removes : (event : Occurrence) (o : AreaState) → IsSo o
      → Whole old event moment o.area.database
      → AtEnd event (on_database (λ db. finite.retain_keys db (stays moment o.area)) o)
  removes event o h whole =
      let left : AreaState = on_database (λ db. finite.retain_keys db (stays moment o.area)) o in
      let more : IsSaid (Ended event left) o =
      said_more (AsNew o.area.database) (Ended event left)
      (λ key i so. held_removed follow key moment i (HasHad old event key) o.area
      (λ c at. whole_at old event moment o.area.database key c whole at) so) o h.said in
      record { sends = more.sends; left = more.left }
