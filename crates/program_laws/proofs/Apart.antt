-- Maps, neighbors, links and databases that agree except for one key, and flooding over them.
use Rattle.std.proofs.Common.{◌≡◌, ℕ, ◌+◌, Bool, true, false, cond, List, [], ◌∷◌, ◌++◌, map}
use Rattle.std.proofs.Common.{Option, None, Some, refl, sym, ◌∙◌, ap, subst}
use Rattle.std.specs.List.{enumerate_from, flat_map, fold}
use Rattle.std.specs.FinMap as finite
use Rattle.words.specs.Numbers.{Moment}
use Rattle.words.specs.declared.key.Key.{Key}
use Rattle.lsdb.specs.Copies.{Database, DatabaseCopy, change_copy}
use Rattle.lsdb.specs.Headers.{Lsa, lsa_key}
use Rattle.lsdb.specs.Instances.{ListEntry}
use Rattle.lsdb.specs.Keys.{ByKey, same_key}
use Rattle.lsdb.proofs.Keys.{keys_exact, keys_total}
pub use Rattle.lsdb.proofs.Keys.{tied as tied_key}
use Rattle.adjacency.specs.Contents.{Content, Step, no_sends}
use Rattle.adjacency.specs.Contents.Content.{Updates}
use Rattle.adjacency.specs.Floods.{flooding, satisfies_request, exceeds_request, request_of}
use Rattle.adjacency.specs.Neighbors.{Neighbor, is_exchange_or_later, is_exchange_or_loading}
use Rattle.adjacency.specs.Requests.{without_request}
use Rattle.adjacency.specs.Retransmissions.{add_retransmission, remove_retransmission}
use Rattle.received.specs.Links.{Link}
use Rattle.received.specs.AreaStates.{Send, Stepping, marked_database, sends_at, sent_on, step_on}
use Rattle.received.specs.AreaStates.{stepped_links, stepping_sends}
use Rattle.received.proofs.Marks.{changed_by}
use Rattle.program_laws.specs.Destinations.{link_without, neighbor_on_without, neighbor_without}

module _ (key : Key) where
  -- ---- maps

  -- the same for all keys except this one
  abbrev pub Agree : {X : Type 0} → ByKey X → ByKey X → Type 0
  Agree {X} m n = (q : Key) → same_key q key ≡ false → finite.get m q ≡ finite.get n q

  pub same_but : {X : Type 0} (m n : ByKey X) → Agree m n → finite.remove m key
      ≡ finite.remove n key
  same_but {X} m n agree = finite.same_map keys_total keys_exact _ _
      (λ q. finite.get-remove keys_total m key q ∙ by_key q (same_key q key) refl
      ∙ sym (finite.get-remove keys_total n key q))
    where
      by_key : (q : Key) (b : Bool) → same_key q key ≡ b → cond b None (finite.get m q)
          ≡ cond b None (finite.get n q)
      by_key q true is = refl
      by_key q false other = agree q other

  pub removed_agrees : {X : Type 0} (m : ByKey X) → Agree (finite.remove m key) m
  removed_agrees {X} m q other = finite.get-remove keys_total m key q
      ∙ ap (λ b. cond b None (finite.get m q)) other

  pub inserted_agrees : {X : Type 0} (m : ByKey X) (x : X) → Agree (finite.insert m key x) m
  inserted_agrees {X} m x q other = finite.get-insert keys_total m key x q
      ∙ ap (λ b. cond b (Some x) (finite.get m q)) other

  pub turned : {X : Type 0} (m n : ByKey X) → Agree m n → Agree n m
  turned {X} m n agree q other = sym (agree q other)

  pub joined : {X : Type 0} (l m n : ByKey X) → Agree l m → Agree m n → Agree l n
  joined {X} l m n one two q other = one q other ∙ two q other

  pub agree_removed : {X : Type 0} (m n : ByKey X) → Agree m n → (k : Key)
      → Agree (finite.remove m k) (finite.remove n k)
  agree_removed {X} m n agree k q other =
      finite.get-remove keys_total m k q ∙ ap (cond (same_key q k) None) (agree q other)
      ∙ sym (finite.get-remove keys_total n k q)

  pub agree_inserted : {X : Type 0} (m n : ByKey X) → Agree m n → (k : Key) (x : X)
      → Agree (finite.insert m k x) (finite.insert n k x)
  agree_inserted {X} m n agree k x q other =
      finite.get-insert keys_total m k x q ∙ ap (cond (same_key q k) (Some x)) (agree q other)
      ∙ sym (finite.get-insert keys_total n k x q)

  pub twice : {X : Type 0} (m : ByKey X) → finite.remove m key
      ≡ finite.remove (finite.remove m key) key
  twice {X} m = same_but m (finite.remove m key) (turned (finite.remove m key) m (removed_agrees m))

  -- ---- a neighbor's step

  abbrev pub without : Neighbor → Neighbor
  without = neighbor_without key

  -- the same packets, and the same neighbor except for the key
  abbrev pub AreAlike : Step → Step → Type 0
  AreAlike s t = (without s.neighbor ≡ without t.neighbor) × (s.sends ≡ t.sends)

  pub kept : (n : Neighbor) → without n ≡ without (without n)
  kept n = ap (λ (r : ByKey ListEntry). record n {
    retransmissions = r;
    retransmitted_at = 0;
  }) (twice n.retransmissions)

  -- the flooding step, by its tests
  abbrev pub step_by : Bool → Bool → Bool → Moment → Lsa → Neighbor → Step
  step_by later gets satisfies_request moment lsa n =
      cond later
      (cond gets
      (record {
        neighbor = add_retransmission moment lsa.header
            (cond satisfies_request (without_request (lsa_key lsa) n) n);
        sends = Updates lsa ∷ [];
      })
      (no_sends (remove_retransmission (lsa_key lsa)
      (cond satisfies_request (without_request (lsa_key lsa) n) n))))
      (no_sends n)

  taken : (k : Key) (r : ByKey ListEntry) → finite.remove (finite.remove r k) key
      ≡ finite.remove (finite.remove (finite.remove r key) k) key
  taken k r = same_but _ _ (agree_removed r (finite.remove r key)
      (turned (finite.remove r key) r (removed_agrees r)) k)

  added : (k : Key) (x : ListEntry) (r : ByKey ListEntry)
      → finite.remove (finite.insert (finite.remove r k) k x) key
      ≡ finite.remove (finite.insert (finite.remove (finite.remove r key) k) k x) key
  added k x r = same_but _ _ (agree_inserted _ _
      (agree_removed r (finite.remove r key) (turned (finite.remove r key) r (removed_agrees r)) k)
      k x)

  alike_by : (later gets satisfies_request : Bool) (moment : Moment) (lsa : Lsa) (n : Neighbor)
      → AreAlike (step_by later gets satisfies_request moment lsa n)
      (step_by later gets satisfies_request moment lsa (without n))
  alike_by false gets satisfies_request moment lsa n = (kept n, refl)
  alike_by true true true moment lsa n = (
    ap (λ (r : ByKey ListEntry). record (without_request (lsa_key lsa) n)
        { retransmissions = r; retransmitted_at = 0 }) (added (lsa_key lsa) (record {
          header = lsa.header;
          at = moment;
        }) n.retransmissions),
    refl,
  )
  alike_by true true false moment lsa n = (
    ap (λ (r : ByKey ListEntry). record n {
      retransmissions = r;
      retransmitted_at = 0;
    }) (added (lsa_key lsa) (record {
      header = lsa.header;
      at = moment;
    }) n.retransmissions),
    refl,
  )
  alike_by true false true moment lsa n = (
    ap (λ (r : ByKey ListEntry). record (without_request (lsa_key lsa) n)
        { retransmissions = r; retransmitted_at = 0 }) (taken (lsa_key lsa) n.retransmissions),
    refl,
  )
  alike_by true false false moment lsa n = (
    ap (λ (r : ByKey ListEntry). record n {
      retransmissions = r;
      retransmitted_at = 0;
    }) (taken (lsa_key lsa) n.retransmissions),
    refl,
  )

  pub flooding_alike : (moment : Moment) (lsa : Lsa) (n : Neighbor)
      → AreAlike (flooding moment false lsa n) (flooding moment false lsa (without n))
  flooding_alike moment lsa n = alike_by (is_exchange_or_later n.state)
      (exceeds_request moment lsa (request_of n lsa))
      (satisfies_request moment lsa (request_of n lsa)) moment lsa n

  -- ---- the LSA of the key itself, if no neighbor requests it

  none_of : (b : Bool) (o : Option ListEntry) → o ≡ None → cond b o None ≡ None
  none_of true o is = is
  none_of false o is = refl

  own_by : (later gets : Bool) (moment : Moment) (lsa : Lsa) → lsa_key lsa ≡ key → (n : Neighbor)
      → without (step_by later gets false moment lsa n).neighbor ≡ without n
  own_by false gets moment lsa is n = refl
  own_by true true moment lsa is n =
      ap (λ (r : ByKey ListEntry). record n { retransmissions = r; retransmitted_at = 0 })
      (same_but _ _ (λ q other.
      let apart : same_key q (lsa_key lsa) ≡ false = ap (same_key q) is ∙ other in
      finite.get-insert keys_total (finite.remove n.retransmissions (lsa_key lsa)) (lsa_key lsa)
      (record { header = lsa.header; at = moment }) q
      ∙ ap (λ b. cond b (Some (record {
        header = lsa.header;
        at = moment;
      }))
      (finite.get (finite.remove n.retransmissions (lsa_key lsa)) q)) apart
      ∙ finite.get-remove keys_total n.retransmissions (lsa_key lsa) q
      ∙ ap (λ b. cond b None (finite.get n.retransmissions q)) apart))
  own_by true false moment lsa is n =
      ap (λ (r : ByKey ListEntry). record n { retransmissions = r; retransmitted_at = 0 })
      (same_but _ _ (λ q other.
      let apart : same_key q (lsa_key lsa) ≡ false = ap (same_key q) is ∙ other in
      finite.get-remove keys_total n.retransmissions (lsa_key lsa) q
      ∙ ap (λ b. cond b None (finite.get n.retransmissions q)) apart))

  pub own_flooded : (moment : Moment) (lsa : Lsa) → lsa_key lsa ≡ key → (n : Neighbor)
      → finite.get n.requests (lsa_key lsa) ≡ None → without (flooding moment false lsa n).neighbor
      ≡ without n
  own_flooded moment lsa is n none =
      let nothing : request_of n lsa ≡ None =
      none_of (is_exchange_or_loading n.state) (finite.get n.requests (lsa_key lsa)) none in
      ap (λ (o : Option ListEntry). without
      (step_by (is_exchange_or_later n.state) (exceeds_request moment lsa o)
      (satisfies_request moment lsa o) moment
      lsa n).neighbor) nothing
      ∙ own_by (is_exchange_or_later n.state) true moment lsa is n

  -- ---- steps of all neighbors

  abbrev pub cut : Link → Link
  cut = link_without key

  abbrev pub Overlooks : Stepping → Type 0
  Overlooks f = (number : ℕ) (link : Link) (n : Neighbor)
      → AreAlike (f number link n) (f number (cut link) (without n))

  on_neighbor : (f : Stepping) → Overlooks f → (number : ℕ) (link : Link) (o : Option Neighbor)
      → neighbor_on_without key (step_on (f number link) o)
      ≡ neighbor_on_without key (step_on (f number (cut link)) (neighbor_on_without key o))
  on_neighbor f overlooks number link None = refl
  on_neighbor f overlooks number link (Some n) =
      ap (λ (m : Neighbor). Some m) (overlooks number link n).0

  sent_same : (f : Stepping) → Overlooks f → (number : ℕ) (link : Link) (o : Option Neighbor)
      → sent_on (f number link) o ≡ sent_on (f number (cut link)) (neighbor_on_without key o)
  sent_same f overlooks number link None = refl
  sent_same f overlooks number link (Some n) = (overlooks number link n).1

  stepped_from : (f : Stepping) → Overlooks f → (number : ℕ) (links : List Link)
      → map cut (map (λ (e : ℕ × Link). record e.1 { neighbor = step_on (f e.0 e.1) e.1.neighbor })
      (enumerate_from number links))
      ≡ map cut (map (λ (e : ℕ × Link). record e.1 { neighbor = step_on (f e.0 e.1) e.1.neighbor })
      (enumerate_from number (map cut links)))
  stepped_from f overlooks number [] = refl
  stepped_from f overlooks number (link ∷ links) =
      let one = ap (λ (o : Option Neighbor). record link {
        neighbor = o;
      }) (on_neighbor f overlooks number link link.neighbor) in
      let others = stepped_from f overlooks (number + 1) links in
      λ i. one i ∷ others i

  sends_from : (f : Stepping) → Overlooks f → (number : ℕ) (links : List Link)
      → flat_map (λ (e : ℕ × Link). sends_at e.0 (sent_on (f e.0 e.1) e.1.neighbor))
      (enumerate_from number links)
      ≡ flat_map (λ (e : ℕ × Link). sends_at e.0 (sent_on (f e.0 e.1) e.1.neighbor))
      (enumerate_from number (map cut links))
  sends_from f overlooks number [] = refl
  sends_from f overlooks number (link ∷ links) =
      let one = ap (sends_at number) (sent_same f overlooks number link link.neighbor) in
      let others = sends_from f overlooks (number + 1) links in
      λ i. one i ++ others i

  pub stepped_alike : (f : Stepping) → Overlooks f → (links : List Link)
      → map cut (stepped_links f links) ≡ map cut (stepped_links f (map cut links))
  stepped_alike f overlooks links = stepped_from f overlooks 1 links

  pub sends_alike : (f : Stepping) → Overlooks f → (links : List Link) → stepping_sends f links
      ≡ stepping_sends f (map cut links)
  sends_alike f overlooks links = sends_from f overlooks 1 links

  -- ---- databases

  changed_agree : (k : Key) (change : DatabaseCopy → DatabaseCopy) (d e : Database) → Agree d e
      → (x y : Option DatabaseCopy) → ((same_key k key ≡ false) → x ≡ y)
      → Agree (changed_by k change d x) (changed_by k change e y)
  changed_agree k change d e agree x y same = by_key (same_key k key) refl
    where
      own : (d : Database) (x : Option DatabaseCopy) → k ≡ key → Agree (changed_by k change d x) d
      own d None is q other = refl
      own d (Some c) is q other = finite.get-insert keys_total d k (change c) q
          ∙ ap (λ b. cond b (Some (change c)) (finite.get d q)) (ap (same_key q) is ∙ other)

      alike : (x : Option DatabaseCopy) → Agree (changed_by k change d x) (changed_by k change e x)
      alike None = agree
      alike (Some c) = agree_inserted d e agree k (change c)

      by_key : (b : Bool) → same_key k key ≡ b
          → Agree (changed_by k change d x) (changed_by k change e y)
      by_key true is =
          let at : k ≡ key = tied_key k key is in
          λ q other. own d x at q other ∙ agree q other ∙ sym (own e y at q other)
      by_key false apart = subst (λ (z : Option DatabaseCopy). Agree (changed_by k change d x)
          (changed_by k change e z)) (same apart) (alike x)

  pub copies_agree : (k : Key) (change : DatabaseCopy → DatabaseCopy) (d e : Database) → Agree d e
      → Agree (change_copy k change d) (change_copy k change e)
  copies_agree k change d e agree =
      changed_agree k change d e agree (finite.get d k) (finite.get e k) (λ apart. agree k apart)

  pub own_copy_agrees : (k : Key) → k ≡ key → (change : DatabaseCopy → DatabaseCopy) (d : Database)
      → Agree (change_copy k change d) d
  own_copy_agrees k is change d = by_copy (finite.get d k)
    where
      by_copy : (x : Option DatabaseCopy) → Agree (changed_by k change d x) d
      by_copy None q other = refl
      by_copy (Some c) q other = finite.get-insert keys_total d k (change c) q
          ∙ ap (λ b. cond b (Some (change c)) (finite.get d q)) (ap (same_key q) is ∙ other)

  marked_agree : (moment : Moment) (c : Content) (d e : Database) → Agree d e
      → Agree (marked_database moment d c) (marked_database moment e c)
  marked_agree moment (Content.SendsHello hello) d e agree = agree
  marked_agree moment (Content.Describes description) d e agree = agree
  marked_agree moment (Content.Requests keys) d e agree = agree
  marked_agree moment (Content.Updates lsa) d e agree = copies_agree (lsa_key lsa) (λ c. record c {
    sent = Some moment;
  }) d e agree
  marked_agree moment (Content.Acknowledges header) d e agree = agree

  abbrev pub marked_all : Moment → Database → List Send → Database
  marked_all moment d sends = fold (λ (db : Database) (s : Send). marked_database moment db
      s.content) d sends

  pub all_marked_agree : (moment : Moment) (sends : List Send) (d e : Database) → Agree d e
      → Agree (marked_all moment d sends) (marked_all moment e sends)
  all_marked_agree moment [] d e agree = agree
  all_marked_agree moment (s ∷ sends) d e agree =
      all_marked_agree moment sends (marked_database moment d s.content)
      (marked_database moment e s.content) (marked_agree moment s.content d e agree)
