-- A copy that is settled with the neighbor at an interface, in each part of an event: it stays
-- settled, or the copy that replaces it is.
use Rattle.std.proofs.Common.{◌≡◌, ℕ, zero, suc, ◌≤◌, Bool, true, false, cond, ◌⊎◌, inl}
use Rattle.std.proofs.Common.{inr, List, [], ◌∷◌, ◌++◌, map, Option, None, Some, refl, sym}
use Rattle.std.proofs.Common.{ap, subst, ◌∙◌, arith}
use Rattle.std.specs.Prelude.{◌==◌, ◌+◌, slice_get}
use Rattle.std.specs.FinMap as finite
use Rattle.std.specs.List.{Contains, enumerate_from, flat_map, fold}
use Rattle.std.specs.Ordering.{eq_by_cmp}
use Rattle.std.proofs.lemmas.Bool.{eq-eqb, eqb-true}
use Rattle.std.proofs.lemmas.List.Elements.{Contains-append_left, Contains-append_right}
use Rattle.words.specs.declared.key.Key.{Key}
use Rattle.lsdb.specs.Copies.{Database, DatabaseCopy, age_prematurely, copy_now, install_flooded}
use Rattle.lsdb.specs.Copies.{install_originated, lsa_now, same_as_copy}
use Rattle.lsdb.specs.Headers.{Header, Lsa, key_of, lsa_with_age, lsa_key}
use Rattle.lsdb.specs.Instances.{ListEntry, instance_of, listed_now}
use Rattle.lsdb.specs.Keys.{ByKey, key_cmp, same_key}
use Rattle.lsdb.specs.Order.{age_at}
use Rattle.lsdb.specs.declared.order.Instance.{Instance}
use Rattle.lsdb.proofs.Keys.{keys_exact, keys_total}
use Rattle.packet.specs.declared.model.Description.{Description}
use Rattle.packet.specs.declared.model.Hello.{Hello}
use Rattle.adjacency.specs.Adjacencies as adjacencies
use Rattle.adjacency.specs.Contents.{Content, Step, Updates, no_sends}
use Rattle.adjacency.specs.Descriptions.{after_description}
use Rattle.adjacency.specs.Floods.{flooding}
use Rattle.adjacency.specs.Neighbors.{Neighbor, is_exchange_or_later}
use Rattle.adjacency.specs.Requests.{request_next}
use Rattle.adjacency.specs.Retransmissions.{after_acknowledgment, remove_retransmission}
use Rattle.adjacency.proofs.Kept.{chosen}
use Rattle.received.specs.Cases.{Case}
use Rattle.received.specs.Flooding.{flood, flood_to, is_incoming}
use Rattle.received.specs.Holds.{Holds}
use Rattle.received.specs.Links.{Link, change_link, delay_acknowledgment}
use Rattle.received.specs.Links.{link_at, neighbor_at, neighbor_on}
use Rattle.received.specs.AreaStates.{AreaState, Send, Stepping, each_neighbor, marked_database}
use Rattle.received.specs.AreaStates.{sends_at, on_database, on_links, one_neighbor, only_at}
use Rattle.received.specs.AreaStates.{sending}
use Rattle.received.specs.AreaStates.{sent_on, step_on, stepped_links, stepping_sends, sends_of}
use Rattle.received.specs.Updates.{after_case, case_at, database_copy, flood_and_install}
use Rattle.received.specs.Updates.{send_copy}
use Rattle.received.proofs.Marks.{changed_by, tied}
use Rattle.event_rules.specs.Commands.{taken_down}
use Rattle.event_rules.specs.Endings.{link_loading_done, stays}
use Rattle.event_rules.specs.EventState.{flood_from_nobody}
use Rattle.event_rules.specs.Hellos.{accepts, names}
use Rattle.event_rules.specs.Originations.{install_and_flood}
use Rattle.event_rules.specs.Packets.{accept_hello, receive_acknowledgment, receive_description}
use Rattle.event_rules.specs.Packets.{receive_hello, receive_hello_on}
use Rattle.event_rules.specs.Packets.{with_neighbor}
use Rattle.event_rules.specs.Ticks.{acknowledgments_on, again, expire_timers, hello_sent_on}
use Rattle.event_rules.specs.Ticks.{send_acknowledgments}
use Rattle.event_rules.specs.Ticks.{send_hellos, with_hello_sent, without_acknowledgments}
use Rattle.invariants.specs.Retransmissions.{AreOfTheDatabase}
use Rattle.invariants.proofs.Leaving.{each_kept_at, stepped_kept}
use Rattle.invariants.proofs.Limits.{tied_key}
use Rattle.invariants.proofs.Owing.{put_other, put_same}
use Rattle.invariants.proofs.Worlds.{mapped}
use Rattle.agreement_laws.specs.Exchanged.{Conversation, conversation_with}
use Rattle.agreement_laws.specs.Ranks.{is_at_least}
use Rattle.agreement_laws.proofs.Ages.{age_at_once, entry_at_least, noted_at_least}
use Rattle.agreement_laws.proofs.Describing.{held, instance_at}
use Rattle.agreement_laws.proofs.Describing as describing
use Rattle.agreement_laws.proofs.Lists.{some_same}
use Rattle.agreement_laws.proofs.Ranks.{itself_at_least, same_at_least}
use Rattle.agreement_laws.proofs.Settling.{Known, Saying, Settling, settling_more}
use Rattle.agreement_laws.proofs.Settling as settling
use Rattle.agreement_laws.proofs.Cases.{same_where_implied}
use Rattle.agreement_laws.proofs.Databases.{flushed_copy, installed_copy, originated_copy}
use Rattle.agreement_laws.proofs.AtInterface as interface

-- ---- what is held when the database changes

module _ (moment : ℕ) (key : Key) where
  marked_by : (k : Key) (db : Database) (o : Option DatabaseCopy) → finite.get db k ≡ o
      → held moment key (changed_by k (λ c. record c {
        sent = Some moment;
      }) db o) ≡ held moment key db
  marked_by k db None at = refl
  marked_by k db (Some c) at =
      ap (instance_at moment) (finite.get-insert keys_total db k (record c {
        sent = Some moment;
      }) key) ∙ by_key (eq_by_cmp key_cmp key k) refl
    where
      by_key : (b : Bool) → eq_by_cmp key_cmp key k ≡ b
          → instance_at moment (cond b (Some (record c {
            sent = Some moment;
          })) (finite.get db key)) ≡ held moment key db
      by_key true same = ap (instance_at moment)
          (sym at ∙ finite.get_tied keys_total db key k (tied (key_cmp key k) same))
      by_key false other = refl

  marked_one : (says : Content) (db : Database) → held moment key (marked_database moment db says)
      ≡ held moment key db
  marked_one (Content.SendsHello h) db = refl
  marked_one (Content.Describes d) db = refl
  marked_one (Content.Requests keys) db = refl
  marked_one (Content.Updates lsa) db =
      marked_by (lsa_key lsa) db (finite.get db (lsa_key lsa)) refl
  marked_one (Content.Acknowledges h) db = refl

  -- what is sent marks copies, and doesn't change the instances
  pub held_marked : (more : List Send) (db : Database)
      → held moment key (fold (λ (d : Database) (s : Send). marked_database moment d s.content) db
      more) ≡ held moment key db
  held_marked [] db = refl
  held_marked (s ∷ more) db = held_marked more (marked_database moment db s.content)
      ∙ marked_one s.content db

  pub held_other : (k : Key) (c : DatabaseCopy) (db : Database) → same_key key k ≡ false
      → held moment key (finite.insert db k c) ≡ held moment key db
  held_other k c db other = ap (instance_at moment) (put_other db k key c other)

  pub held_put : (k : Key) (c : DatabaseCopy) (db : Database) → same_key key k ≡ true
      → held moment key (finite.insert db k c) ≡ Some (copy_now moment c)
  held_put k c db same = ap (instance_at moment) (put_same db k key c same)

-- ---- what is sent at an interface

module _ (f : Stepping) (content : Content) (n : Neighbor) where
  abbrev at_place : ℕ → Send
  at_place number = record { interface = number; content = content }

  sent_from : (k i : ℕ) (xs : List Link) → neighbor_on (slice_get xs i) ≡ Some n
      → ((link : Link) → link.neighbor ≡ Some n → Contains (f (k + i) link n).sends content)
      → Contains (flat_map (λ (e : ℕ × Link). sends_at e.0 (sent_on (f e.0 e.1) e.1.neighbor))
      (enumerate_from k xs)) (at_place (k + i))
  sent_from k i [] at so = absurd cc
  sent_from k zero (x ∷ xs) at so =
      let e : k + 0 ≡ k = omega arith in
      Contains-append_left (sends_at k (sent_on (f k x) x.neighbor)) _ (at_place (k + 0))
      (subst (λ m. Contains (sends_at k (sent_on (f k x) x.neighbor)) (at_place m)) (sym e)
      (subst (λ (o : Option Neighbor). Contains (sends_at k (sent_on (f k x) o)) (at_place k))
      (sym at)
      (mapped (λ c. record {
        interface = k;
        content = c;
      }) (f k x n).sends content
      (subst (λ m. Contains (f m x n).sends content) e (so x at)))))
  sent_from k (suc i) (x ∷ xs) at so =
      let e : k + suc i ≡ k + 1 + i = omega arith in
      Contains-append_right (sends_at k (sent_on (f k x) x.neighbor)) _ (at_place (k + suc i))
      (subst (λ m. Contains (flat_map (λ (g : ℕ × Link). sends_at g.0
      (sent_on (f g.0 g.1) g.1.neighbor)) (enumerate_from (k + 1) xs)) (at_place m)) (sym e)
      (sent_from (k + 1) i xs at (λ link is. subst (λ m. Contains (f m link n).sends content) e
      (so link is))))

  -- what the neighbor's step sends is sent at its interface
  pub sent_there : (number : ℕ) (xs : List Link) → neighbor_at number xs ≡ Some n
      → ((link : Link) → link.neighbor ≡ Some n → Contains (f number link n).sends content)
      → Contains (stepping_sends f xs) (at_place number)
  sent_there zero xs at so = absurd cc
  sent_there (suc i) xs at so =
      let e : suc i ≡ 1 + i = omega arith in
      subst (λ m. Contains (stepping_sends f xs) (at_place m)) (sym e)
      (sent_from 1 i xs at (λ link is. subst (λ m. Contains (f m link n).sends content) e
      (so link is)))

-- ---- the neighbor at one interface, and one key

-- a Database Description with the header is sent at the interface
pub record Describes (sends : List Send) (number : ℕ) (header : Header) : Type 0 where
  pub description : Description
  pub sent : Contains sends (record { interface = number; content = Content.Describes description })
  pub among : Contains description.headers header

-- if there is a neighbor at the interface, `There`
module _ (key : Key) (moment : ℕ) (number : ℕ) (There : Type 0) (Of : ℕ → Type 0) (Base : Saying)
  where
    -- said before or in this event, or described in it
    abbrev pub SaidBy : List Send → Saying
    SaidBy sends with_it l = Base with_it l
        ⊎ (There × Describes sends number l.header × (l.at ≡ moment) × (key_of l.header ≡ key))

    abbrev pub SettlingBy : List Send → Option Instance → Neighbor → Type 0
    SettlingBy sends x m = Settling key moment Of (SaidBy sends) x m

    abbrev pub HoldsThere : List Send → Option Instance → Option Neighbor → Type 0
    HoldsThere sends x o = Holds (SettlingBy sends x) o

    abbrev pub Stands : AreaState → Type 0
    Stands o = HoldsThere o.sends (held moment key o.area.database)
        (neighbor_at number o.area.links)

    -- ---- what is sent

    more_said : (sends more : List Send) (w : Conversation) (l : ListEntry) → SaidBy sends w l
        → SaidBy (sends ++ more) w l
    more_said sends more w l (inl k) = inl k
    more_said sends more w l (inr k) =
        inr (
          k.0,
          record {
            description = k.1.description;
            sent = Contains-append_left sends more (record {
              interface = number;
              content = Content.Describes k.1.description;
            }) k.1.sent;
            among = k.1.among;
          },
          k.2,
          k.3,
        )

    pub more_sent : (sends more : List Send) (x : Option Instance) (o : Option Neighbor)
        → HoldsThere sends x o → HoldsThere (sends ++ more) x o
    more_sent sends more x None h = tt
    more_sent sends more x (Some m) h =
        settling_more key moment Of Of (SaidBy sends) (SaidBy (sends ++ more)) m (λ o. o)
        (λ l k. more_said sends more (conversation_with m) l k) x h

    -- what is sent marks the database
    pub sent : (more : List Send) (o : AreaState) → Stands o → Stands (sending moment more o)
    sent more o h =
        subst (λ (x : Option Instance). HoldsThere (o.sends ++ more) x
        (neighbor_at number o.area.links)) (sym (held_marked moment key more o.area.database))
        (more_sent o.sends more (held moment key o.area.database) (neighbor_at number o.area.links)
        h)

    -- ---- links

    pub each_link : (g : Link → Link) (o : AreaState)
        → ((link : Link) → HoldsThere o.sends (held moment key o.area.database) link.neighbor
        → HoldsThere o.sends (held moment key o.area.database) (g link).neighbor) → Stands o
        → Stands (on_links (map g) o)
    each_link g o keeps h =
        each_kept_at (HoldsThere o.sends (held moment key o.area.database))
        (HoldsThere o.sends (held moment key o.area.database)) (λ n. n) g number keeps
        o.area.links h

    pub change_at : (place : ℕ) (change : Link → Link) (o : AreaState)
        → ((link : Link) → HoldsThere o.sends (held moment key o.area.database) link.neighbor
        → HoldsThere o.sends (held moment key o.area.database) (change link).neighbor) → Stands o
        → Stands (on_links (change_link place change) o)
    change_at place change o keeps h =
        interface.changed (HoldsThere o.sends (held moment key o.area.database)) number place change
        o.area.links keeps h

    -- a step of each neighbor: for the instance x before it, and y after it
    pub each_step : (f : Stepping) (o : AreaState) (x : Option Instance)
        → ((link : Link) (m : Neighbor) → SettlingBy o.sends x m
        → SettlingBy o.sends (held moment key o.area.database) (f number link m).neighbor)
        → HoldsThere o.sends x (neighbor_at number o.area.links)
        → Stands (each_neighbor moment f o)
    each_step f o x keeps h =
        sent (stepping_sends f o.area.links) (on_links (stepped_links f) o)
        (stepped_kept (HoldsThere o.sends x) (HoldsThere o.sends (held moment key o.area.database))
        (λ n. n) f number (λ link at. one link link.neighbor at) o.area.links h)
      where
        one : (link : Link) (n : Option Neighbor) → HoldsThere o.sends x n
            → HoldsThere o.sends (held moment key o.area.database) (step_on (f number link) n)
        one link None k = tt
        one link (Some m) k = keeps link m k

    pub one_step : (place : ℕ) (f : Neighbor → Step) (o : AreaState)
        → ((m : Neighbor) → (number == place) ≡ true
        → SettlingBy o.sends (held moment key o.area.database) m
        → SettlingBy o.sends (held moment key o.area.database) (f m).neighbor) → Stands o
        → Stands (one_neighbor moment place f o)
    one_step place f o keeps h =
        each_step (only_at place f) o (held moment key o.area.database)
        (λ link m at. interface.stepped_at (HoldsThere o.sends (held moment key o.area.database))
        number place f link m (λ e k. keeps m e k) at) h

    -- ---- flooding

    pub flood_other : (sender : Option ℕ) (lsa : Lsa) (o : AreaState) → same_key key (lsa_key lsa)
        ≡ false → Stands o → Stands (flood moment sender lsa o)
    flood_other sender lsa o other h =
        each_step (flood_to moment sender lsa) o (held moment key o.area.database)
        (λ link m at. settling.flooded_other key moment Of (SaidBy o.sends)
        (held moment key o.area.database) moment (is_incoming sender number) lsa m other at) h

    -- an LSA of another key, whatever is held
    pub flood_any : (sender : Option ℕ) (lsa : Lsa) (o : AreaState) (x : Option Instance)
        → same_key key (lsa_key lsa) ≡ false
        → HoldsThere o.sends x (neighbor_at number o.area.links)
        → HoldsThere (flood moment sender lsa o).sends x
        (neighbor_at number (flood moment sender lsa o).area.links)
    flood_any sender lsa o x other h =
        more_sent o.sends (stepping_sends (flood_to moment sender lsa) o.area.links) x
        (neighbor_at number (stepped_links (flood_to moment sender lsa) o.area.links))
        (interface.stepped (HoldsThere o.sends x) number (flood_to moment sender lsa) o.area.links
        (λ link m k. settling.flooded_other key moment Of (SaidBy o.sends) x moment
        (is_incoming sender number) lsa m other k) h)

    -- an LSA of this key that wasn't received from a neighbor; what was held before doesn't matter
    pub flood_same : (lsa : Lsa) (o : AreaState) (x : Option Instance) → same_key key (lsa_key lsa)
        ≡ true → held moment key o.area.database ≡ Some (instance_of lsa.header)
        → HoldsThere o.sends x (neighbor_at number o.area.links)
        → Stands (flood_from_nobody moment lsa o)
    flood_same lsa o x same is h =
        each_step (flood_to moment None lsa) o x
        (λ link m at. subst (λ (y : Option Instance). SettlingBy o.sends y
        (flood_to moment None lsa number link m).neighbor) (sym is)
        (settling.flooded_same key moment Of (SaidBy o.sends) x lsa m same at)) h

    -- an LSA of this key from a neighbor, which thus has said it
    pub flood_back : (place : ℕ) (lsa : Lsa) (o : AreaState) (x : Option Instance) (i : Instance)
        → same_key key (lsa_key lsa) ≡ true → held moment key o.area.database ≡ Some i
        → instance_of lsa.header ≡ i → ((m : Neighbor) → (place == number) ≡ true → Of m.router
        → Known key moment Of (SaidBy o.sends) (conversation_with m) i)
        → HoldsThere o.sends x (neighbor_at number o.area.links)
        → Stands (flood moment (Some place) lsa o)
    flood_back place lsa o x i same is it says h =
        each_step (flood_to moment (Some place) lsa) o x
        (λ link m at. by_place m (place == number) refl at) h
      where
        by_place : (m : Neighbor) (b : Bool) → (place == number) ≡ b → SettlingBy o.sends x m
            → SettlingBy o.sends (held moment key o.area.database)
            (flooding moment b lsa m).neighbor
        by_place m true e at =
            subst (λ (y : Option Instance). SettlingBy o.sends y
            (flooding moment true lsa m).neighbor) (sym is)
            (settling.flooded_back key moment Of (SaidBy o.sends) x i lsa m (says m e) at)
        by_place m false e at =
            subst (λ (y : Option Instance). SettlingBy o.sends y
            (flooding moment false lsa m).neighbor) (ap (λ (j : Instance). Some j) it ∙ sym is)
            (settling.flooded_same key moment Of (SaidBy o.sends) x lsa m same at)

    -- ---- self-originated LSAs

    of_age : (l : Lsa) (age : ℕ) → age ≡ l.header.age
        → Some (instance_of (record l.header { age = age })) ≡ Some (instance_of l.header)
    of_age l age is = ap (λ (a : ℕ). Some (instance_of (record l.header { age = a }))) is

    pub flushes : (k : Key) (c : DatabaseCopy) (o : AreaState)
        → finite.get o.area.database k ≡ Some c → lsa_key c.lsa ≡ k → Stands o
        → Stands (flood_from_nobody moment (lsa_with_age 3600 c.lsa)
        (on_database (age_prematurely moment k) o))
    flushes k c o at own h =
        subst (λ (x : Option DatabaseCopy). Stands
        (flood_from_nobody moment (lsa_with_age 3600 c.lsa)
        (on_database (λ db. changed_by k (flushed_copy moment) o.area.database x) o))) (sym at)
        (by_key (same_key key k) refl)
      where
        aged : AreaState
        aged = on_database (λ db. finite.insert db k (flushed_copy moment c)) o

        max_age : age_at 3600 moment moment ≡ 3600
        max_age = omega arith

        by_key : (b : Bool) → same_key key k ≡ b
            → Stands (flood_from_nobody moment (lsa_with_age 3600 c.lsa)
            (on_database (λ db. finite.insert db k (flushed_copy moment c)) o))
        by_key true same =
            flood_same (lsa_with_age 3600 c.lsa)
            (on_database (λ db. finite.insert db k (flushed_copy moment c)) o)
            (held moment key o.area.database)
            (subst (λ (q : Key). same_key key q ≡ true) (sym own) same)
            (held_put moment key k (flushed_copy moment c) o.area.database same
            ∙ of_age (lsa_with_age 3600 c.lsa) (age_at 3600 moment moment) max_age) h
        by_key false other =
            flood_other None (lsa_with_age 3600 c.lsa)
            (on_database (λ db. finite.insert db k (flushed_copy moment c)) o)
            (subst (λ (q : Key). same_key key q ≡ false) (sym own) other)
            (subst (λ (x : Option Instance). HoldsThere o.sends x (neighbor_at number o.area.links))
            (sym (held_other moment key k (flushed_copy moment c) o.area.database other)) h)

    pub originates : (lsa : Lsa) (o : AreaState) → lsa.header.age ≤ 3600 → Stands o
        → Stands (install_and_flood moment lsa o)
    originates lsa o most h = by_key (same_key key (lsa_key lsa)) refl
      where
        by_key : (b : Bool) → same_key key (lsa_key lsa) ≡ b
            → Stands (install_and_flood moment lsa o)
        by_key true same =
            flood_same lsa (on_database (install_originated moment lsa) o)
            (held moment key o.area.database) same
            (held_put moment key (lsa_key lsa) (originated_copy moment lsa) o.area.database same
            ∙ of_age lsa (age_at lsa.header.age moment moment)
            (age_at_once lsa.header.age moment most)) h
        by_key false other =
            flood_other None lsa (on_database (install_originated moment lsa) o) other
            (subst (λ (x : Option Instance). HoldsThere o.sends x (neighbor_at number o.area.links))
            (sym (held_other moment key (lsa_key lsa) (originated_copy moment lsa) o.area.database
            other))
            h)

    -- ---- received LSAs

    -- an LSA that was received at this interface: the neighbor has said its header
    abbrev pub Says : ℕ → Header → Type 0
    Says place h = (w : Conversation) → (number == place) ≡ true → key_of h ≡ key → Of w.router
        → Base w (record { header = h; at = moment })

    turned : (a b : ℕ) → (a == b) ≡ true → (b == a) ≡ true
    turned a b e = eq-eqb b a (sym (eqb-true a b e))

    installs : (place : ℕ) (lsa : Lsa) (o : AreaState) → lsa.header.age ≤ 3600
        → Says place lsa.header → Stands o → Stands (flood_and_install moment place lsa o)
    installs place lsa o most says h =
        change_at place (delay_acknowledgment lsa.header)
        (flood moment (Some place) lsa (on_database (install_flooded moment lsa) o))
        (λ link at. at) (by_key (same_key key (lsa_key lsa)) refl)
      where
        known : (m : Neighbor) → (place == number) ≡ true → same_key key (lsa_key lsa) ≡ true
            → Of m.router → Known key moment Of (SaidBy o.sends) (conversation_with m)
            (instance_of lsa.header)
        known m e same of = (
          record { header = lsa.header; at = moment },
          inl (says (conversation_with m) (turned place number e)
              (sym (tied_key key (lsa_key lsa) same)) of),
          noted_at_least lsa.header moment (instance_of lsa.header)
              (itself_at_least (instance_of lsa.header)),
        )

        by_key : (b : Bool) → same_key key (lsa_key lsa) ≡ b
            → Stands (flood moment (Some place) lsa (on_database (install_flooded moment lsa) o))
        by_key true same =
            flood_back place lsa (on_database (install_flooded moment lsa) o)
            (held moment key o.area.database) (instance_of lsa.header) same
            (held_put moment key (lsa_key lsa) (installed_copy moment lsa) o.area.database
            same
            ∙ of_age lsa (age_at lsa.header.age moment moment)
            (age_at_once lsa.header.age moment most)) refl
            (λ m e of. known m e same of) h
        by_key false other =
            flood_other (Some place) lsa (on_database (install_flooded moment lsa) o) other
            (subst (λ (x : Option Instance). HoldsThere o.sends x (neighbor_at number o.area.links))
            (sym (held_other moment key (lsa_key lsa) (installed_copy moment lsa) o.area.database
            other)) h)

    copy_sent : (place : ℕ) (c : Option DatabaseCopy) (o : AreaState) → Stands o
        → Stands (send_copy moment place c o)
    copy_sent place None o h = h
    copy_sent place (Some c) o h = sent (sends_at place (Updates (lsa_now moment c) ∷ [])) o h

    implies : (place : ℕ) (lsa : Lsa) (o : AreaState)
        → same_as_copy moment lsa.header (database_copy lsa o.area) ≡ true → Says place lsa.header
        → Stands o → Stands (one_neighbor moment place
        (λ n. no_sends (remove_retransmission (lsa_key lsa) n)) o)
    implies place lsa o is says h =
        one_step place (λ n. no_sends (remove_retransmission (lsa_key lsa) n)) o
        (λ m e at. settling.implied key moment Of (SaidBy o.sends) (held moment key o.area.database)
        lsa m
        (λ same of i has. (
          record { header = lsa.header; at = moment },
          inl (says (conversation_with m) e (sym (tied_key key (lsa_key lsa) same)) of),
          noted_at_least lsa.header moment i (as_copy (tied_key key (lsa_key lsa) same) i has),
        )) at) h
      where
        by_copy : (c : Option DatabaseCopy) → same_as_copy moment lsa.header c ≡ true
            → (i : Instance) → instance_at moment c ≡ Some i
            → is_at_least (instance_of lsa.header) i ≡ true
        by_copy None e i has = absurd cc
        by_copy (Some c) e i has = subst
            (λ (j : Instance). is_at_least (instance_of lsa.header) j ≡ true) (some_same has)
            (same_at_least (instance_of lsa.header) (copy_now moment c) e)

        as_copy : key ≡ lsa_key lsa → (i : Instance) → held moment key o.area.database ≡ Some i
            → is_at_least (instance_of lsa.header) i ≡ true
        as_copy same i has = by_copy (finite.get o.area.database (lsa_key lsa)) is i
            (subst (λ (k : Key). held moment k o.area.database ≡ Some i) same has)

    pub mismatches : (place : ℕ) (o : AreaState) → Stands o
        → Stands (one_neighbor moment place (adjacencies.mismatch_step moment) o)
    mismatches place o h =
        one_step place (adjacencies.mismatch_step moment) o
        (λ m e at. settling.mismatched key moment Of (SaidBy o.sends)
        (held moment key o.area.database) moment m at) h

    pub cases : (case : Case) (place : ℕ) (lsa : Lsa) (o : AreaState)
        → case_at moment place lsa o.area
        ≡ case → lsa.header.age ≤ 3600 → Says place lsa.header → Stands o
        → Stands (after_case case moment place lsa o)
    cases Case.Unreadable place lsa o is most says h = h
    cases Case.NothingToFlush place lsa o is most says h =
        sent (sends_at place (Content.Acknowledges lsa.header ∷ [])) o h
    cases Case.TooSoon place lsa o is most says h = h
    cases Case.Newer place lsa o is most says h = installs place lsa o most says h
    cases Case.BadRequest place lsa o is most says h = mismatches place o h
    cases Case.ImpliedAcknowledgment place lsa o is most says h =
        implies place lsa o (same_where_implied moment place lsa o.area is) says h
    cases Case.Duplicate place lsa o is most says h =
        sent (sends_at place (Content.Acknowledges lsa.header ∷ [])) o h
    cases Case.SequenceWraps place lsa o is most says h = h
    cases Case.SentJustNow place lsa o is most says h = h
    cases Case.Older place lsa o is most says h = copy_sent place (database_copy lsa o.area) o h

    -- ---- other packets

    pub hellos : (own place from : ℕ) (hello : Hello) (o : AreaState) → Stands o
        → Stands (receive_hello own moment place from hello o)
    hellos own place from hello o h = by_link (link_at place o.area.links) refl
      where
        by_link : (link : Option Link) → link_at place o.area.links ≡ link
            → Stands (receive_hello_on own moment place from hello link o)
        by_link None is = h
        by_link (Some link) is =
            let s : Step = adjacencies.after_hello moment from (names own hello) link.neighbor in
            chosen Stands (accepts own from hello link) (accept_hello moment place s o) o
            (λ e. sent (sends_at place s.sends)
            (on_links (change_link place (with_neighbor s.neighbor)) o)
            (interface.heard (HoldsThere o.sends (held moment key o.area.database)) number place
            s.neighbor link o.area.links is
            (λ at. settling.helloed key moment Of (SaidBy o.sends) (held moment key o.area.database)
            moment from (names own hello) link.neighbor at) h)) (λ e. h)

    -- a step of only this neighbor, with what it sends
    step_here : (f : Stepping) (o : AreaState)
        → ((link : Link) (m : Neighbor) → neighbor_at number o.area.links ≡ Some m
        → SettlingBy o.sends (held moment key o.area.database) m
        → SettlingBy (o.sends ++ stepping_sends f o.area.links)
        (held moment key o.area.database) (f number link m).neighbor) → Stands o
        → Stands (each_neighbor moment f o)
    step_here f o keeps h =
        subst (λ (x : Option Instance). HoldsThere (o.sends ++ stepping_sends f o.area.links) x
        (neighbor_at number (stepped_links f o.area.links)))
        (sym (held_marked moment key (stepping_sends f o.area.links) o.area.database))
        (stepped_kept (λ (n : Option Neighbor). HoldsThere o.sends (held moment key o.area.database)
        n
        × (neighbor_at number o.area.links ≡ n))
        (HoldsThere (o.sends ++ stepping_sends f o.area.links) (held moment key o.area.database))
        (λ n. tt) f number (λ link at. one link link.neighbor at) o.area.links (h, refl))
      where
        one : (link : Link) (n : Option Neighbor)
            → HoldsThere o.sends (held moment key o.area.database) n
            × (neighbor_at number o.area.links ≡ n)
            → HoldsThere (o.sends ++ stepping_sends f o.area.links)
            (held moment key o.area.database) (step_on (f number link) n)
        one link None at = tt
        one link (Some m) at = keeps link m at.1 at.0

    more_settled : (sends more : List Send) (x : Option Instance) (m : Neighbor)
        → SettlingBy sends x m → SettlingBy (sends ++ more) x m
    more_settled sends more x m h = more_sent sends more x (Some m) h

    pub acknowledgments : (place : ℕ) (headers : List Header) (o : AreaState)
        → ((g : Header) → Contains headers g → Says place g)
        → ((m : Neighbor) → neighbor_at number o.area.links ≡ Some m
        → AreOfTheDatabase o.area.database m) → Stands o
        → Stands (receive_acknowledgment moment place headers o)
    acknowledgments place headers o says of h =
        step_here (only_at place f) o
        (λ link m is at. more_settled o.sends (stepping_sends (only_at place f) o.area.links)
        (held moment key o.area.database) (only_at place f number link m).neighbor
        (chosen (λ (s : Step). SettlingBy o.sends (held moment key o.area.database) s.neighbor)
        (number == place) (f m) (record { neighbor = m; sends = [] })
        (λ e. settling.acknowledged key moment Of (SaidBy o.sends) (held moment key o.area.database)
        headers m
        (λ g c same its. inl (says g c (conversation_with m) e same its)) (as_copies m (of m is))
        at)
        (λ e. at))) h
      where
        f : Neighbor → Step
        f n = no_sends (after_acknowledgment moment headers n)

        as_copies : (m : Neighbor) → AreOfTheDatabase o.area.database m
            → settling.IsOfIt key moment Of (SaidBy o.sends) (held moment key o.area.database)
            m.retransmissions
        as_copies m are l i at is =
            let of_copy = are key l at in
            subst (λ (j : Instance). is_at_least (listed_now moment l) j ≡ true)
            (some_same (sym (ap (instance_at moment) of_copy.1) ∙ is))
            (entry_at_least l of_copy.0 moment of_copy.2)

    -- ---- a Database Description

    -- what is described in the step is described in what is sent
    pub descriptions : (own place : ℕ) (d : Description) (o : AreaState)
        → ((g : Header) → Contains d.headers g → Says place g)
        → ((c : DatabaseCopy) → finite.get o.area.database key ≡ Some c → lsa_key c.lsa ≡ key)
        → ((m : Neighbor) → neighbor_at number o.area.links ≡ Some m → Of m.router
        × (is_exchange_or_later m.state ≡ false → m.requests ≡ finite.empty) × There)
        → Stands o → Stands (receive_description own moment place d o)
    descriptions own place d o says its of h =
        step_here (only_at place f) o (λ link m is at. by_place link m is at (number == place) refl)
        h
      where
        f : Neighbor → Step
        f = after_description own moment o.area.database d

        nothing : (m : Neighbor) (w : Conversation) → m.requests ≡ finite.empty → (l : ListEntry)
            → finite.get m.requests key ≡ Some l → SaidBy o.sends w l
        nothing m w is l at =
            let no : None ≡ Some l = sym (finite.get-empty {X = ListEntry} key_cmp key)
            ∙ sym (ap (λ (r : ByKey ListEntry). finite.get r key) is) ∙ at in absurd cc

        settled : (m : Neighbor) → neighbor_at number o.area.links ≡ Some m → (number == place)
            ≡ true → SettlingBy o.sends (held moment key o.area.database) m
            → describing.OfStep key moment Of (SaidBy o.sends) (held moment key o.area.database)
            (after_description own moment o.area.database d m)
        settled m is here at =
            describing.after key moment Of (SaidBy o.sends) d o.area.database its own m (of m is).0
            (λ w g c same router. inl (says g c w here same (subst Of (sym router) (of m is).0)))
            (λ early l there. nothing m (conversation_with m) ((of m is).1 early) l there) at

        by_place : (link : Link) (m : Neighbor) → neighbor_at number o.area.links ≡ Some m
            → SettlingBy o.sends (held moment key o.area.database) m → (b : Bool)
            → (number == place)
            ≡ b → SettlingBy (o.sends ++ stepping_sends
            (only_at place (after_description own moment o.area.database d)) o.area.links)
            (held moment key o.area.database)
            (cond b (after_description own moment o.area.database d m) (record {
              neighbor = m;
              sends = [];
            })).neighbor
        by_place link m is at false away =
            more_settled o.sends (stepping_sends
            (only_at place (after_description own moment o.area.database d)) o.area.links)
            (held moment key o.area.database) m at
        by_place link m is at true here =
            let s : Step = after_description own moment o.area.database d m in
            let all : List Send = stepping_sends
            (only_at place (after_description own moment o.area.database d)) o.area.links in
            settling_more key moment Of Of (describing.SaidWith key moment Of (SaidBy o.sends)
            s.sends) (SaidBy (o.sends ++ all)) s.neighbor (λ o. o)
            (λ l k. further l k) (held moment key o.area.database) (settled m is here at)
          where
            further : (l : ListEntry) → describing.SaidWith key moment Of (SaidBy o.sends)
                (after_description own moment o.area.database d m).sends
                (conversation_with (after_description own moment o.area.database d m).neighbor) l
                → SaidBy (o.sends ++ stepping_sends
                (only_at place (after_description own moment o.area.database d))
                o.area.links) (conversation_with
                (after_description own moment o.area.database d m).neighbor) l
            further l (inl k) = more_said o.sends
                (stepping_sends (only_at place (after_description own moment o.area.database d))
                o.area.links) (conversation_with
                (after_description own moment o.area.database d m).neighbor) l k
            further l (inr k) =
                inr (
                  (of m is).2,
                  record {
                    description = k.0;
                    sent = Contains-append_right o.sends
                        (stepping_sends (only_at place
                        (after_description own moment o.area.database d)) o.area.links) (record {
                          interface = number;
                          content = Content.Describes k.0;
                        })
                        (sent_there (only_at place (after_description own moment o.area.database d))
                        (Content.Describes k.0) m number o.area.links is
                        (λ link there. subst (λ (b : Bool). Contains
                        (cond b (after_description own moment o.area.database d m) (record {
                          neighbor = m;
                          sends = [];
                        })).sends (Content.Describes k.0)) (sym here)
                        k.1));
                    among = k.2;
                  },
                  k.3,
                  k.4,
                )

    -- ---- a Tick, a command, and the end

    pub inactive : (o : AreaState) → Stands o → Stands (on_links (map (expire_timers moment)) o)
    inactive o h =
        each_link (expire_timers moment) o
        (λ link at. interface.inactive (HoldsThere o.sends (held moment key o.area.database)) tt
        moment link.interface.dead_interval
        (λ m k. settling.old_description key moment Of (SaidBy o.sends)
        (held moment key o.area.database) moment link.interface.dead_interval m k)
        link.neighbor at) h

    pub agains : (o : AreaState) → Stands o → Stands (each_neighbor moment (again moment o) o)
    agains o h =
        each_step (again moment o) o (held moment key o.area.database)
        (λ link m at. settling.again key moment Of (SaidBy o.sends)
        (held moment key o.area.database)
        moment link.interface.retransmit_interval o.area.database m at) h

    pub acknowledges : (o : AreaState) → Stands o → Stands (send_acknowledgments moment o)
    acknowledges o h =
        sent (sends_of acknowledgments_on o.area.links) (on_links (map without_acknowledgments) o)
        (each_link without_acknowledgments o (λ link at. at) h)

    pub hellos_sent : (o : AreaState) → Stands o → Stands (send_hellos moment o)
    hellos_sent o h =
        sent (sends_of (hello_sent_on moment) o.area.links)
        (on_links (map (with_hello_sent moment)) o)
        (each_link (with_hello_sent moment) o (λ link at. at) h)

    pub down : (place : ℕ) (o : AreaState) → Stands o
        → Stands (on_links (change_link place taken_down) o)
    down place o h = change_at place taken_down o (λ link at. tt) h

    pub loaded : (o : AreaState) → Stands o → Stands (on_links (map link_loading_done) o)
    loaded o h = each_link link_loading_done o
        (λ link at. interface.loaded (HoldsThere o.sends (held moment key o.area.database))
        (settling.filled key moment Of (SaidBy o.sends) (held moment key o.area.database))
        link.neighbor at) h

    pub requests : (o : AreaState) → Stands o
        → Stands (each_neighbor moment (λ place link m. request_next moment m) o)
    requests o h =
        each_step (λ place link m. request_next moment m) o (held moment key o.area.database)
        (λ link m at. settling.asked key moment Of (SaidBy o.sends)
        (held moment key o.area.database)
        moment m at) h

    gone_one : (sends : List Send) (x : Option Instance) (n : Option Neighbor)
        → HoldsThere sends x n → HoldsThere sends None n
    gone_one sends x None h = tt
    gone_one sends x (Some m) h = settling.gone key moment Of (SaidBy sends) x m h

    -- a copy that is removed is settled
    pub removes : (o : AreaState) → Stands o
        → Stands (on_database (λ db. finite.retain_keys db (stays moment o.area)) o)
    removes o h =
        subst (λ (c : Option DatabaseCopy). HoldsThere o.sends (instance_at moment c)
        (neighbor_at number o.area.links))
        (sym (finite.get-retain_keys o.area.database (stays moment o.area) key
        (λ y e. ap (stays moment o.area) (sym (keys_exact key y e)))))
        (chosen (λ (c : Option DatabaseCopy). HoldsThere o.sends (instance_at moment c)
        (neighbor_at number o.area.links)) (stays moment o.area key)
        (finite.get o.area.database key) None
        (λ e. h) (λ e. gone_one o.sends (held moment key o.area.database)
        (neighbor_at number o.area.links) h))
