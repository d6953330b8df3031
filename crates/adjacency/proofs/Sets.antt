-- A set of keys that is stored as a map.
use Rattle.std.proofs.Common.{◌≡◌, ℕ, zero, suc, ◌<◌, ◌==◌, Bool, true, false, cond, not, ◌&&◌}
use Rattle.std.proofs.Common.{◌||◌, List, Some, None, refl, sym, ap, ◌∙◌, arith, ◌+◌, length, take}
use Rattle.std.proofs.Common.{get_or}
use mathlib.Core.Bool.{false≢true}
use Rattle.std.proofs.lemmas.Bool.{eqb-true}
use Rattle.std.proofs.lemmas.List.{take_more}
use Rattle.std.proofs.lemmas.Bool.Decides.{nat_tests}
use Rattle.std.specs.Prelude.{Option, is_some}
use Rattle.std.specs.Ordering.{eq_by_cmp}
use Rattle.std.specs.FinMap as finite
use Rattle.std.specs.FinSet as set
use Rattle.packet.specs.declared.model.Description.{Description}
use Rattle.words.specs.declared.key.Key.{Key}
use Rattle.lsdb.specs.Instances.{ListEntry}
use Rattle.lsdb.specs.Keys.{ByKey, key_cmp}
use Rattle.lsdb.proofs.Keys.{keys_exact, keys_total}
use Rattle.adjacency.specs.declared.standing.Standing.{Standing}
use Rattle.adjacency.specs.Neighbors.{Neighbor, is_exchange_or_loading}
use Rattle.adjacency.specs.Requests.{is_to_request, next_request}
use Rattle.adjacency.specs.Views.{keys_of, neighbor_of}
use Rattle.adjacency.proofs.Neighbors.{contains_key_of, no_keys}

none_of : {X : Type 0} (o : Option X) → is_some o ≡ false → o ≡ None
none_of None is = refl
none_of (Some x) is = absurd (false≢true (sym is))

same_tests : (a b : ℕ) → (a ≡ 0 → b ≡ 0) → (b ≡ 0 → a ≡ 0) → (a == 0) ≡ (b == 0)
same_tests zero b f g = ap (λ (n : ℕ). n == 0) (sym (f refl))
same_tests (suc a) zero f g = absurd (omega (arith, g refl))
same_tests (suc a) (suc b) f g = grind (arith, nat_tests)

module _ {X : Type 0} where
  -- without keys there are no entries
  pub keys_none : (m : ByKey X) → keys_of m ≡ set.empty → m ≡ finite.empty
  keys_none m is = finite.same_map keys_total keys_exact m finite.empty (λ q.
      none_of (finite.get m q) (sym (contains_key_of m q) ∙ ap (λ s. set.contains s q) is
      ∙ set.contains-empty key_cmp q) ∙ sym (finite.get-empty key_cmp q))

  pub empty_keys : (m : ByKey X) → (finite.len m == 0) ≡ (set.len (keys_of m) == 0)
  empty_keys m = same_tests (finite.len m) (set.len (keys_of m))
      (λ is. ap (λ n. set.len (keys_of n)) (finite.empty_of_len m is) ∙ ap set.len (no_keys X)
      ∙ set.len-empty key_cmp)
      (λ is. ap finite.len (keys_none m (set.empty_of_len (keys_of m) is))
      ∙ finite.len-empty key_cmp X)

  either_some : (b : Bool) (x : X) (o : Option X) → is_some (cond b (Some x) o) ≡ (b || is_some o)
  either_some true x o = refl
  either_some false x o = refl

  pub keys_insert : (m : ByKey X) (k : Key) (x : X)
      → keys_of (finite.insert m k x) ≡ set.insert (keys_of m) k
  keys_insert m k x = set.same_set keys_total keys_exact (keys_of (finite.insert m k x))
      (set.insert (keys_of m) k) (λ q.
      contains_key_of (finite.insert m k x) q ∙ ap is_some (finite.get-insert keys_total m k x q)
      ∙ either_some (eq_by_cmp key_cmp q k) x (finite.get m q)
      ∙ ap (λ b. eq_by_cmp key_cmp q k || b) (sym (contains_key_of m q))
      ∙ sym (set.contains-insert keys_total (keys_of m) k q))

  pub may_now : (s : Standing) (des : Option Description) (sum req : ByKey ListEntry)
      (out : ByKey X) (retr : ByKey ListEntry)
      → (is_exchange_or_loading s.state && not (finite.len req == 0) && finite.len out == 0)
      ≡ is_to_request (neighbor_of s des sum req out retr)
  unfolding neighbor_of
  may_now s des sum req out retr = ap
      (λ b. is_exchange_or_loading s.state && not (finite.len req == 0) && b) (empty_keys out)

pub pushed_key : (ks : List Key) (i : ℕ) (d : Key) → i < length ks
    → set.insert (set.from_list {R = key_cmp} (take i ks)) (get_or ks i d)
    ≡ set.from_list (take (i + 1) ks)
pushed_key ks i d lt = sym (ap (set.from_list {R = key_cmp}) (take_more ks i d lt)
    ∙ set.from_list_push keys_total keys_exact (take i ks) (get_or ks i d))

-- a neighbor that may request has nothing outstanding
last_of : (a b c : Bool) → (a && b && c) ≡ true → c ≡ true
last_of true true c is = is
last_of true false c is = absurd (false≢true is)
last_of false b c is = absurd (false≢true is)

pub waits_for_nothing : (n : Neighbor) → is_to_request n ≡ true → n.outstanding ≡ set.empty
waits_for_nothing n is =
    let none : set.len n.outstanding ≡ 0 =
    omega (
      arith,
      eqb-true (set.len n.outstanding) 0
          (last_of (is_exchange_or_loading n.state) (not (finite.len n.requests == 0))
          (set.len n.outstanding == 0) is),
    ) in
    set.empty_of_len n.outstanding none

module _ {X : Type 0} (s : Standing) (des : Option Description) (sum req : ByKey ListEntry)
    (out : ByKey X) (retr : ByKey ListEntry) where
  pub outstanding_now : keys_of out ≡ (neighbor_of s des sum req out retr).outstanding
  unfolding neighbor_of
  outstanding_now = refl

  pub first_now : take 680 (finite.keys req) ≡ next_request (neighbor_of s des sum req out retr)
  unfolding neighbor_of
  first_now = refl

  pub requests_out : (moment : ℕ) (asked : ByKey X) (ks : List Key)
      → keys_of asked ≡ set.from_list ks → ks ≡ take 680 (finite.keys req)
      → neighbor_of (record s { requested_at = moment }) des sum req asked retr
      ≡ record (neighbor_of s des sum req out retr) {
        outstanding = set.from_list (next_request (neighbor_of s des sum req out retr));
        requested_at = moment;
      }
  unfolding neighbor_of
  requests_out moment asked ks is are =
      λ i. record (neighbor_of s des sum req out retr)
      { outstanding = (is ∙ ap (set.from_list {R = key_cmp}) are) i; requested_at = moment }
