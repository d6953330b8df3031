-- Without the keys since whose origination MinLSInterval has passed, the originations are the
-- recent ones.
use Rattle.std.proofs.Common.{◌≡◌, ℕ, T, Bool, true, false, cond, not, ◌||◌, List, [], ◌∷◌}
use Rattle.std.proofs.Common.{map, Option, None, Some, refl, sym, ap, ◌∙◌}
use Rattle.std.specs.List.{filter, fold, list_any}
use Rattle.std.specs.FinMap as finite
use Rattle.std.specs.FinMap.Entries.{below_all, is_sorted}
use Rattle.std.specs.Ordering.{eq_by_cmp}
use Rattle.words.specs.declared.key.Key.{Key}
use Rattle.keyed_map.specs.Slots.{keys_where}
use Rattle.lsdb.specs.Keys.{ByKey, key_cmp}
use Rattle.lsdb.proofs.Keys.{absent, equal, first, keys_exact, keys_total, second}
use Rattle.event_rules.specs.Originations.{interval_is_over, is_recent}

module _ {X : Type 0} where
  abbrev pub passes : (X → Bool) → Option X → Bool
  passes t None = false
  passes t (Some x) = t x

  module _ (t : X → Bool) (q : Key) where
    abbrev pub among : List (Key × X) → Bool
    among es = list_any (eq_by_cmp key_cmp q) (keys_where (λ k x. t x) es)

    by_test : (e : Key × X) (es : List (Key × X)) (tied passed : Bool) (rest : Option X)
        → t e.1 ≡ passed → eq_by_cmp key_cmp q e.0 ≡ tied → among es ≡ passes t rest
        → (tied ≡ true → rest ≡ None) → among (e ∷ es) ≡ passes t (cond tied (Some e.1) rest)
    by_test e es true true rest passed tied so none =
        ap (λ b. list_any (eq_by_cmp key_cmp q)
        (map (λ f. f.0) (cond b (e ∷ filter (λ f. t f.1) es) (filter (λ f. t f.1) es)))) passed
        ∙ ap (λ b. b || among es) tied ∙ sym passed
    by_test e es true false rest passed tied so none =
        ap (λ b. list_any (eq_by_cmp key_cmp q)
        (map (λ f. f.0) (cond b (e ∷ filter (λ f. t f.1) es) (filter (λ f. t f.1) es)))) passed
        ∙ so ∙ ap (passes t) (none refl) ∙ sym passed
    by_test e es false true rest passed tied so none =
        ap (λ b. list_any (eq_by_cmp key_cmp q)
        (map (λ f. f.0) (cond b (e ∷ filter (λ f. t f.1) es) (filter (λ f. t f.1) es)))) passed
        ∙ ap (λ b. b || among es) tied ∙ so
    by_test e es false false rest passed tied so none =
        ap (λ b. list_any (eq_by_cmp key_cmp q)
        (map (λ f. f.0) (cond b (e ∷ filter (λ f. t f.1) es) (filter (λ f. t f.1) es)))) passed
        ∙ so

    pub among_is : (es : List (Key × X)) → T (is_sorted key_cmp es)
        → among es ≡ passes t (finite.find key_cmp q es)
    among_is [] sorted = refl
    among_is (e ∷ es) sorted =
        by_test e es (eq_by_cmp key_cmp q e.0) (t e.1) (finite.find key_cmp q es) refl refl
        (among_is es (second (below_all key_cmp e.0 es) (is_sorted key_cmp es) sorted))
        (λ tied. absent q e.0 es (equal (key_cmp q e.0) tied)
        (first (below_all key_cmp e.0 es) (is_sorted key_cmp es) sorted))

  again : (tied later : Bool) (o : Option X)
      → cond later None (cond tied None o) ≡ cond (tied || later) None o
  again true true o = refl
  again true false o = refl
  again false true o = refl
  again false false o = refl

  -- a key is removed if it is among them
  pub left : (q : Key) (keys : List Key) (m : ByKey X)
      → finite.get (fold finite.remove m keys) q
      ≡ cond (list_any (eq_by_cmp key_cmp q) keys) None (finite.get m q)
  left q [] m = refl
  left q (k ∷ ks) m =
      left q ks (finite.remove m k)
      ∙ ap (cond (list_any (eq_by_cmp key_cmp q) ks) None) (finite.get-remove keys_total m k q)
      ∙ again (eq_by_cmp key_cmp q k) (list_any (eq_by_cmp key_cmp q) ks) (finite.get m q)

abbrev pub is_over : ℕ → ℕ → Bool
is_over moment at = interval_is_over moment (Some at)

by_origination : (moment : ℕ) (o : Option ℕ)
    → cond (passes (is_over moment) o) None o ≡ cond (is_recent moment o) o None
by_origination moment None = refl
by_origination moment (Some at) = tests (is_over moment at)
  where
    tests : (b : Bool) → cond b None (Some at) ≡ cond (not b) (Some at) None
    tests true = refl
    tests false = refl

pub forgotten : (moment : ℕ) (m : ByKey ℕ)
    → fold finite.remove m (keys_where (λ k at. is_over moment at) (finite.entries m))
    ≡ finite.retain_keys m (λ key. is_recent moment (finite.get m key))
forgotten moment m =
    let recent = λ (key : Key). is_recent moment (finite.get m key) in
    finite.same_map keys_total keys_exact _ _ (λ q.
    left q (keys_where (λ k at. is_over moment at) (finite.entries m)) m
    ∙ ap (λ b. cond b None (finite.get m q))
    (among_is (is_over moment) q (finite.entries m) (finite.entries_sorted m)
    ∙ ap (passes (is_over moment)) (sym (finite.get-entries m q)))
    ∙ by_origination moment (finite.get m q)
    ∙ sym (finite.get-retain_keys m recent q (λ x tied. ap recent (sym (keys_exact q x tied)))))
