-- Two routers with one interface each at their start, and what becomes of the one copy that each
-- holds.
use Rattle.std.proofs.Common.{◌≡◌, ℕ, Bool, true, false, cond, not, ◌&&◌, ◌||◌, List, [], ◌∷◌}
use Rattle.std.proofs.Common.{length, map, take, Option, None, Some, is_some, refl, sym, ap, subst}
use Rattle.std.proofs.Common.{◌∙◌, arith}
use Rattle.std.specs.Prelude.{◌==◌, nat_lt}
use Rattle.std.specs.FinMap as finite
use Rattle.std.specs.FinSet as set
use Rattle.words.specs.declared.key.Key.{Key}
use Rattle.lsa.specs.Origination.{sealed_lsa}
use Rattle.lsdb.specs.Copies.{Database, DatabaseCopy, is_aged_out}
use Rattle.lsdb.specs.Headers.{Lsa, lsa_key}
use Rattle.lsdb.specs.Keys.{ByKey, key_cmp, same_key}
use Rattle.lsdb.proofs.Keys.{keys_exact, keys_total}
use Rattle.lsdb.specs.Instances.{ListEntry, listed_header_now}
use Rattle.packet.specs.declared.model.Description.{Description}
use Rattle.adjacency.specs.declared.interface.Interface.{Interface}
use Rattle.adjacency.specs.Neighbors.{Neighbor}
use Rattle.received.specs.Links.{Link, any_has_retransmission}
use Rattle.event_rules.specs.declared.model.Config.{Config}
use Rattle.event_rules.specs.Endings.{stays, stays_as}
use Rattle.event_rules.specs.EventState.{EventState, on_area, on_router}
use Rattle.event_rules.specs.Events.{initial}
use Rattle.event_rules.specs.Originations.{as_originated, flush, has_max_sequence, has_room}
use Rattle.event_rules.specs.Originations.{install_and_flood, interval_is_over, new_instance}
use Rattle.event_rules.specs.Originations.{originate_body, postpone, router_body, router_key}
use Rattle.event_rules.specs.Routers.{Router, fresh_link, unannounced_router}
use Rattle.invariants.proofs.Limits.{new_key, tied_key}
use Rattle.invariants.proofs.Owing.{put_other, put_same}
use Rattle.invariants.proofs.Leaving.{itself}
use Rattle.agreement_laws.proofs.WorkedOwn.{wanted}

abbrev pub interface : ℕ → Interface
interface address = record {
  address = address;
  length = 24;
  cost = 1;
  hello_interval = 10;
  dead_interval = 40;
  retransmit_interval = 5;
  delay = 1;
}

abbrev pub config : ℕ → ℕ → Config
config id address = record { router = id; start = 0; interfaces = interface address ∷ [] }

-- the first router-LSA of a router
abbrev pub lsa : ℕ → ℕ → Lsa
lsa id address = new_instance (router_key id) None
    (router_body (fresh_link (interface address) ∷ []))

abbrev pub copy : ℕ → ℕ → DatabaseCopy
copy id address = record { lsa = lsa id address; stored = 0; received = None; sent = None }

abbrev pub database : ℕ → ℕ → Database
database id address = finite.insert finite.empty (lsa_key (lsa id address)) (copy id address)

-- a Description after the opening ones, with these entries
abbrev pub description_of : Bool → ℕ → ℕ → List (Key × ListEntry) → ℕ → Description
description_of master sequence at es count = record {
  mtu = 8192;
  options = 2;
  init = false;
  more = nat_lt 408 count;
  master = master;
  sequence = sequence;
  headers = map (λ (e : Key × ListEntry). listed_header_now at e.1) (take 408 es);
}

abbrev pub link_with : ℕ → Option Neighbor → Option ℕ → Link
link_with address n hello = record {
  interface = interface address;
  neighbor = n;
  acknowledgments = finite.empty;
  last_hello_sent = hello;
}

abbrev pub router_with : ℕ → Link → Database → ByKey ℕ → ℕ → Router
router_with id link db originated moment = record {
  id = id;
  area = record { links = link ∷ []; database = db };
  announced = finite.empty;
  waiting = set.remove set.empty (router_key id);
  originated = originated;
  answers = [];
  moment = moment;
}

abbrev pub first_times : ℕ → ByKey ℕ
first_times id = finite.insert finite.empty (router_key id) 0

abbrev pub begun : ℕ → ℕ → Router
begun id address = router_with id (link_with address None None) (database id address)
    (first_times id) 0

-- ---- empty maps

no_length : {A : Type 0} (xs : List A) → length xs ≡ 0 → xs ≡ []
no_length [] e = refl
no_length (x ∷ xs) e = absurd (omega arith)

pub no_entries : (X : Type 0) → finite.entries (finite.empty {X = X} {R = key_cmp}) ≡ []
no_entries X = no_length (finite.entries (finite.empty {X = X} {R = key_cmp}))
    (sym (finite.len-entries (finite.empty {X = X} {R = key_cmp})) ∙ finite.len-empty key_cmp X)

pub nothing_in : (X : Type 0) → (finite.len (finite.empty {X = X} {R = key_cmp}) == 0) ≡ true
nothing_in X = ap (λ k. k == 0) (finite.len-empty key_cmp X)

-- ---- the start

pub begins_so : (id address : ℕ) → initial (config id address) ≡ begun id address
begins_so id address =
    let p : EventState = record { router = unannounced_router (config id address); sends = [] } in
    let key : Key = router_key id in
    let room : has_room key p.router ≡ true =
    λ i. is_some (finite.get-empty {X = DatabaseCopy} key_cmp key i) ||
    (nat_lt (finite.len-empty key_cmp DatabaseCopy i) 16384 && true) in
    let none : finite.get p.router.area.database key ≡ None =
    finite.get-empty {X = DatabaseCopy} key_cmp key in
    let never : finite.get p.router.originated key ≡ None = finite.get-empty {X = ℕ} key_cmp key in
    let told : Option DatabaseCopy → EventState =
    λ c. on_router (as_originated 0 key)
    (on_area (install_and_flood 0 (new_instance key c (router_body p.router.area.links))) p)
    in
    ap (λ (q : EventState). q.router)
    ((λ i. originate_body (room i) 0 key (wanted p.router i) p)
    ∙ (λ i. cond (has_max_sequence (none i)) (flush 0 key p)
    (cond (true && interval_is_over 0 (never i)) (told (none i)) (on_router (postpone key) p))))

-- ---- the one copy

pub its_key : (id address : ℕ) → lsa_key (lsa id address) ≡ router_key id
its_key id address = new_key (router_key id) None
    (router_body (fresh_link (interface address) ∷ [])) refl

pub entries_of : (id address : ℕ) → finite.entries (database id address)
    ≡ (lsa_key (lsa id address), copy id address) ∷ []
entries_of id address =
    finite.entries-insert keys_total finite.empty (lsa_key (lsa id address)) (copy id address)
    ∙ ap (finite.put key_cmp (lsa_key (lsa id address)) (copy id address))
    (no_entries DatabaseCopy)

pub found : (id address : ℕ) → finite.get (database id address) (router_key id)
    ≡ Some (copy id address)
found id address =
    put_same finite.empty (lsa_key (lsa id address)) (router_key id) (copy id address)
    (subst (λ (k : Key). same_key (router_key id) k ≡ true) (sym (its_key id address))
    (itself (router_key id)))

neither : (b : Bool) → ◌≡◌ {A = Option DatabaseCopy} (cond b None None) None
neither true = refl
neither false = refl

pub found_there : (id address : ℕ) → finite.get (database id address) (lsa_key (lsa id address))
    ≡ Some (copy id address)
found_there id address = put_same finite.empty (lsa_key (lsa id address)) (lsa_key (lsa id address))
    (copy id address) (itself (lsa_key (lsa id address)))

module _ (id address : ℕ) (test : Key → Bool) where
  abbrev k : Key
  k = lsa_key (lsa id address)

  by_test : (q : Key) → finite.get (finite.retain_keys (database id address) test) q
      ≡ cond (test q) (finite.get (database id address) q) None
  by_test q = finite.get-retain_keys (database id address) test q
      (λ y e. ap test (sym (keys_exact q y e)))

  -- it stays, or is removed
  pub retained : test k ≡ true → finite.retain_keys (database id address) test ≡ database id address
  retained so = finite.same_map keys_total keys_exact
      (finite.retain_keys (database id address) test) (database id address)
      (λ q. by_test q ∙ by_key q (same_key q k) refl)
    where
      by_key : (q : Key) (b : Bool) → same_key q k ≡ b
          → cond (test q) (finite.get (database id address) q) None
          ≡ finite.get (database id address) q
      by_key q true same = ap (λ b. cond b (finite.get (database id address) q) None)
          (ap test (tied_key q k same) ∙ so)
      by_key q false other =
          let none : finite.get (database id address) q ≡ None =
          put_other finite.empty k q (copy id address) other
          ∙ finite.get-empty {X = DatabaseCopy} key_cmp q in
          ap (λ (c : Option DatabaseCopy). cond (test q) c None) none ∙ neither (test q) ∙ sym none

  pub left : test k ≡ false → finite.retain_keys (database id address) test ≡ finite.empty
  left so = finite.same_map keys_total keys_exact (finite.retain_keys (database id address) test)
      finite.empty (λ q. by_test q ∙ by_key q (same_key q k) refl
      ∙ sym (finite.get-empty {X = DatabaseCopy} key_cmp q))
    where
      by_key : (q : Key) (b : Bool) → same_key q k ≡ b
          → cond (test q) (finite.get (database id address) q) None ≡ None
      by_key q true same = ap (λ b. cond b (finite.get (database id address) q) None)
          (ap test (tied_key q k same) ∙ so)
      by_key q false other = ap (λ (c : Option DatabaseCopy). cond (test q) c None)
          (put_other finite.empty k q (copy id address) other
          ∙ finite.get-empty {X = DatabaseCopy} key_cmp q) ∙ neither (test q)

-- its age is 0 at first, and it reaches MaxAge after an hour
pub young : (id address : ℕ) → is_aged_out 0 (copy id address) ≡ false
unfolding sealed_lsa
young id address = refl

pub old : (id address : ℕ) → is_aged_out 3600 (copy id address) ≡ true
unfolding sealed_lsa
old id address = refl

-- so it stays in the database at first, but not then, since it is on no retransmission list
pub stays_young : (id address : ℕ) (links : List Link) → stays 0 (record {
  links = links;
  database = database id address;
}) (lsa_key (lsa id address)) ≡ true
stays_young id address links =
    ap (stays_as 0 (any_has_retransmission (lsa_key (lsa id address)) links))
    (found_there id address)
    ∙ (λ i. not (young id address i) || any_has_retransmission (lsa_key (lsa id address)) links)

pub leaves_old : (id address : ℕ) (links : List Link)
    → any_has_retransmission (lsa_key (lsa id address)) links ≡ false
    → stays 3600 (record {
      links = links;
      database = database id address;
    }) (lsa_key (lsa id address)) ≡ false
leaves_old id address links free =
    ap (stays_as 3600 (any_has_retransmission (lsa_key (lsa id address)) links))
    (found_there id address) ∙ (λ i. not (old id address i) || free i)
