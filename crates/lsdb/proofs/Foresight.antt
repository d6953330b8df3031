-- What stays foreseen when the copy of a key changes, and when more keys are aged.
use Rattle.std.proofs.Common.{◌≡◌, ℕ, ◌+◌, ◌-◌, ◌≤◌, arith, Bool, true, false, cond, ◌||◌, List}
use Rattle.std.proofs.Common.{◌∷◌, Some, None, refl, sym, ap, subst, ◌∙◌}
use mathlib.Core.Bool.{false≢true}
use Rattle.std.specs.Prelude.{◌<◌, Option, is_some}
use Rattle.std.specs.List.{list_any}
use Rattle.std.specs.Cmp.{tied_itself}
use Rattle.std.specs.FinMap as finite
use Rattle.std.specs.Ordering.{eq_by_cmp, is_eq}
use Rattle.words.specs.declared.key.Key.{Key}
use Rattle.lsdb.specs.Copies.{Database, DatabaseCopy}
use Rattle.lsdb.specs.Foresight.{Foresees, ForeseesAll, aged_at}
use Rattle.lsdb.specs.Keys.{ByKey, key_cmp}
use Rattle.lsdb.specs.Order.{age_at, is_max_age}
use Rattle.lsdb.specs.declared.ages.Ages.{Ages}
use Rattle.lsdb.proofs.Keys.{keys_total, tied}

none_aged : (ages : Ages) (q : Key) → Foresees ages q None
none_aged ages q moment before is = absurd (false≢true is)

-- ---- the copy of a key changes

module _ (ages : Ages) (copies : Database) (k : Key) (all : ForeseesAll ages copies) where
  put_at : (t : DatabaseCopy) → Foresees ages k (Some t) → (q : Key) (b : Bool)
      → eq_by_cmp key_cmp q k ≡ b → Foresees ages q (cond b (Some t) (finite.get copies q))
  put_at t there q true is = subst (λ x. Foresees ages x (Some t)) (sym (tied q k is)) there
  put_at t there q false is = all q

  pub foresees_put : (t : DatabaseCopy) → Foresees ages k (Some t)
      → ForeseesAll ages (finite.insert copies k t)
  foresees_put t there q =
      subst (Foresees ages q) (sym (finite.get-insert keys_total copies k t q))
      (put_at t there q (eq_by_cmp key_cmp q k) refl)

  taken_at : (q : Key) (b : Bool) → Foresees ages q (cond b None (finite.get copies q))
  taken_at q true = none_aged ages q
  taken_at q false = all q

  pub foresees_taken : ForeseesAll ages (finite.remove copies k)
  foresees_taken q = subst (Foresees ages q) (sym (finite.get-remove keys_total copies k q))
      (taken_at q (eq_by_cmp key_cmp q k))

pub foresees_nothing : (ages : Ages) → ForeseesAll ages finite.empty
foresees_nothing ages q moment before is =
    absurd (false≢true (sym (ap (aged_at moment) (finite.get-empty {X = DatabaseCopy} key_cmp q))
    ∙ is))

-- ---- more keys are aged

still_there : (b : Bool) (o : Option (Unit {0})) → is_some o ≡ true
    → is_some (cond b (Some tt) o) ≡ true
still_there true o is = refl
still_there false o is = is

pub aged_more : (aged : ByKey (Unit {0})) (k q : Key) → finite.contains_key aged q ≡ true
    → finite.contains_key (finite.insert aged k tt) q ≡ true
aged_more aged k q is =
    ap is_some (finite.get-insert keys_total aged k tt q)
    ∙ still_there (eq_by_cmp key_cmp q k) (finite.get aged q) is

pub aged_there : (aged : ByKey (Unit {0})) (k : Key)
    → finite.contains_key (finite.insert aged k tt) k ≡ true
aged_there aged k =
    ap is_some (finite.get-insert keys_total aged k tt k)
    ∙ ap (λ r. is_some (cond (is_eq r) (Some tt) (finite.get aged k))) (tied_itself keys_total k)

-- ---- the copies of all keys, one after the other

absent_at : (ages : Ages) (q : Key) (o : Option DatabaseCopy) → is_some o ≡ false
    → Foresees ages q o
absent_at ages q None is = none_aged ages q
absent_at ages q (Some t) is = absurd (false≢true (sym is))

-- nothing has to be foreseen for keys without copies
pub foresees_absent : (ages : Ages) (copies : Database) (q : Key)
    → list_any (eq_by_cmp key_cmp q) (finite.keys copies) ≡ false
    → Foresees ages q (finite.get copies q)
foresees_absent ages copies q none =
    absent_at ages q (finite.get copies q) (finite.contains_key-keys copies q ∙ none)

-- ages that are due at the same moment foresee the same for a key that isn't aged in the others
pub foresees_past : (ages made : Ages) → made.due ≡ ages.due → (q : Key) (o : Option DatabaseCopy)
    → list_any (eq_by_cmp key_cmp q) (finite.keys ages.aged.present) ≡ false → Foresees ages q o
    → Foresees made q o
foresees_past ages made due q o none foreseen moment before is = absurd (false≢true
    (sym (finite.contains_key-keys ages.aged.present q ∙ none)
    ∙ foreseen moment (subst (λ d. moment < d) due before) is))

module _ (ages more_ages : Ages) (copies : Database) (key : Key) (rest : List Key)
    (before : (q : Key) → list_any (eq_by_cmp key_cmp q) (key ∷ rest) ≡ false
    → Foresees ages q (finite.get copies q))
    (more : (q : Key) (o : Option DatabaseCopy) → Foresees ages q o → Foresees more_ages q o)
    (there : Foresees more_ages key (finite.get copies key)) where
  next_at : (q : Key) (b : Bool) → eq_by_cmp key_cmp q key ≡ b
      → list_any (eq_by_cmp key_cmp q) rest ≡ false → Foresees more_ages q (finite.get copies q)
  next_at q true is none = subst (λ x. Foresees more_ages x (finite.get copies x))
      (sym (tied q key is)) there
  next_at q false is none =
      more q (finite.get copies q) (before q
      (ap (λ c. c || list_any (eq_by_cmp key_cmp q) rest) is ∙ none))

  -- after the copy of one more key is foreseen
  pub foresees_next : (q : Key) → list_any (eq_by_cmp key_cmp q) rest ≡ false
      → Foresees more_ages q (finite.get copies q)
  foresees_next q none = next_at q (eq_by_cmp key_cmp q key) refl none

-- ---- one copy

pub young_before : (age stored due moment : ℕ) → age < 3600 → due ≤ stored + (3600 - age)
    → moment < due → is_max_age (age_at age stored moment) ≡ false
young_before age stored due moment young late before = grind arith

pub was_young : (age stored moment : ℕ) → is_max_age (age_at age stored moment) ≡ false → age < 3600
was_young age stored moment young = grind arith
