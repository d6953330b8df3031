-- The copies at MaxAge that are on no list, in turn, are those that don't stay.
use Rattle.std.proofs.Common.{◌≡◌, ℕ, T, Bool, true, false, cond, not, ◌&&◌, ◌||◌, List, [], ◌∷◌}
use Rattle.std.proofs.Common.{map, Option, None, Some, refl, sym, ap, ◌∙◌}
use Rattle.std.specs.List.{filter, list_any}
use Rattle.std.specs.FinMap as finite
use Rattle.std.specs.FinMap.Entries.{below_all, is_sorted}
use Rattle.std.specs.Ordering.{eq_by_cmp}
use Rattle.words.specs.declared.key.Key.{Key}
use Rattle.lsdb.specs.Copies.{Database, DatabaseCopy, max_age_keys, is_aged_out}
use Rattle.lsdb.specs.Keys.{key_cmp}
use Rattle.lsdb.proofs.Keys.{absent, equal, first, keys_exact, keys_total, second}
use Rattle.received.specs.Links.{Area, Link, any_has_retransmission}
use Rattle.event_rules.specs.Endings.{stays, stays_as}
use Rattle.area.specs.Links.{without_acknowledged}
use Rattle.router.specs.Aging.{without_each}

abbrev passes : (DatabaseCopy → Bool) → Option DatabaseCopy → Bool
passes t None = false
passes t (Some c) = t c

module _ (t : DatabaseCopy → Bool) (q : Key) where
  abbrev among : List (Key × DatabaseCopy) → Bool
  among es = list_any (eq_by_cmp key_cmp q) (map (λ e. e.0) (filter (λ e. t e.1) es))

  by_test : (e : Key × DatabaseCopy) (es : List (Key × DatabaseCopy)) (tied passed : Bool)
      (rest : Option DatabaseCopy) → t e.1 ≡ passed → eq_by_cmp key_cmp q e.0 ≡ tied
      → among es ≡ passes t rest → (tied ≡ true → rest ≡ None)
      → among (e ∷ es) ≡ passes t (cond tied (Some e.1) rest)
  by_test e es true true rest passed tied so none =
      ap (λ b. list_any (eq_by_cmp key_cmp q)
      (map (λ f. f.0) (cond b (e ∷ filter (λ f. t f.1) es) (filter (λ f. t f.1) es)))) passed
      ∙ ap (λ b. b || among es) tied ∙ sym passed
  by_test e es true false rest passed tied so none =
      ap (λ b. list_any (eq_by_cmp key_cmp q)
      (map (λ f. f.0) (cond b (e ∷ filter (λ f. t f.1) es) (filter (λ f. t f.1) es)))) passed
      ∙ so ∙ ap (passes t) (none refl) ∙ sym passed
  by_test e es false true rest passed tied so none =
      ap (λ b. list_any (eq_by_cmp key_cmp q)
      (map (λ f. f.0) (cond b (e ∷ filter (λ f. t f.1) es) (filter (λ f. t f.1) es)))) passed
      ∙ ap (λ b. b || among es) tied ∙ so
  by_test e es false false rest passed tied so none =
      ap (λ b. list_any (eq_by_cmp key_cmp q)
      (map (λ f. f.0) (cond b (e ∷ filter (λ f. t f.1) es) (filter (λ f. t f.1) es)))) passed
      ∙ so

  among_is : (es : List (Key × DatabaseCopy)) → T (is_sorted key_cmp es)
      → among es ≡ passes t (finite.find key_cmp q es)
  among_is [] sorted = refl
  among_is (e ∷ es) sorted =
      by_test e es (eq_by_cmp key_cmp q e.0) (t e.1) (finite.find key_cmp q es) refl refl
      (among_is es (second (below_all key_cmp e.0 es) (is_sorted key_cmp es) sorted))
      (λ tied. absent q e.0 es (equal (key_cmp q e.0) tied)
      (first (below_all key_cmp e.0 es) (is_sorted key_cmp es) sorted))

-- a key is removed if it is among them and on no list
module _ (links : List Link) (q : Key) where
  abbrev on_list : Bool
  on_list = any_has_retransmission q links

  by_key : (k : Key) (m : Database) (tied listed : Bool) → eq_by_cmp key_cmp q k ≡ tied
      → any_has_retransmission k links ≡ listed
      → finite.get (without_acknowledged links m k) q
      ≡ cond (tied && not listed) None (finite.get m q)
  by_key k m tied true tie is = ap (λ b. finite.get (cond b m (finite.remove m k)) q) is ∙ kept tied
    where
      kept : (b : Bool) → finite.get m q ≡ cond (b && false) None (finite.get m q)
      kept true = refl
      kept false = refl
  by_key k m tied false tie is =
      ap (λ b. finite.get (cond b m (finite.remove m k)) q) is ∙ finite.get-remove keys_total m k q
      ∙ ap (λ b. cond b None (finite.get m q)) tie ∙ gone tied
    where
      gone : (b : Bool) → cond b None (finite.get m q) ≡ cond (b && true) None (finite.get m q)
      gone true = refl
      gone false = refl

  same_list : (k : Key) (b : Bool) → eq_by_cmp key_cmp q k ≡ b
      → (b && not (any_has_retransmission k links)) ≡ (b && not on_list)
  same_list k true tied = ap (λ x. not (any_has_retransmission x links))
      (sym (keys_exact q k (equal (key_cmp q k) tied)))
  same_list k false tied = refl

  again : (tied later listed : Bool) (o : Option DatabaseCopy)
      → cond (later && not listed) None (cond (tied && not listed) None o)
      ≡ cond ((tied || later) && not listed) None o
  again true true true o = refl
  again true true false o = refl
  again true false true o = refl
  again true false false o = refl
  again false true true o = refl
  again false true false o = refl
  again false false true o = refl
  again false false false o = refl

  left : (keys : List Key) (m : Database)
      → finite.get (without_each links m keys) q
      ≡ cond (list_any (eq_by_cmp key_cmp q) keys && not on_list) None (finite.get m q)
  left [] m = refl
  left (k ∷ ks) m =
      left ks (without_acknowledged links m k)
      ∙ ap (cond (list_any (eq_by_cmp key_cmp q) ks && not on_list) None)
      (by_key k m (eq_by_cmp key_cmp q k) (any_has_retransmission k links) refl refl
      ∙ ap (λ b. cond b None (finite.get m q)) (same_list k (eq_by_cmp key_cmp q k) refl))
      ∙ again (eq_by_cmp key_cmp q k) (list_any (eq_by_cmp key_cmp q) ks) on_list (finite.get m q)

  by_copy : (moment : ℕ) (o : Option DatabaseCopy)
      → cond (passes (is_aged_out moment) o && not on_list) None o
      ≡ cond (stays_as moment on_list o) o None
  by_copy moment None = either (false && not on_list)
    where
      either : (b : Bool) → cond {A = Option DatabaseCopy} b None None ≡ None
      either true = refl
      either false = refl
  by_copy moment (Some c) = tests (is_aged_out moment c) on_list
    where
      tests : (aged listed : Bool) → cond (aged && not listed) None (Some c)
          ≡ cond (not aged || listed) (Some c) None
      tests true true = refl
      tests true false = refl
      tests false true = refl
      tests false false = refl

pub aged_leave : (moment : ℕ) (a : Area)
    → without_each a.links a.database (max_age_keys moment a.database)
    ≡ finite.retain_keys a.database (stays moment a)
aged_leave moment a =
    finite.same_map keys_total keys_exact _ _ (λ q.
    left a.links q (max_age_keys moment a.database) a.database
    ∙ ap (λ b. cond (b && not (any_has_retransmission q a.links)) None (finite.get a.database q))
    (among_is (is_aged_out moment) q (finite.entries a.database)
    (finite.entries_sorted a.database)
    ∙ ap (passes (is_aged_out moment)) (sym (finite.get-entries a.database q)))
    ∙ by_copy a.links q moment (finite.get a.database q)
    ∙ sym (finite.get-retain_keys a.database (stays moment a) q
    (λ x tied. ap (stays moment a) (sym (keys_exact q x tied)))))
