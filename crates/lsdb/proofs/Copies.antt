-- Changes of one copy, by what the database has at its key.
use Rattle.std.proofs.Common.{◌≡◌, ℕ, sym, ap}
use Rattle.std.specs.Prelude.{Option, None, Some, is_some, false, refl}
use Rattle.std.specs.FinMap as finite
use Rattle.words.specs.declared.key.Key.{Key}
use Rattle.lsdb.specs.Copies.{Database, DatabaseCopy, age_prematurely, change_copy, mark_sent}
use Rattle.lsdb.specs.Headers.{lsa_with_age}
use Rattle.lsdb.specs.Kept.{RouterDatabase}

pub none_is : {X : Type 0} (o : Option X) → is_some o ≡ false → None ≡ o
none_is None is = refl
none_is (Some x) is = absurd cc

abbrev changed_at : Key → (DatabaseCopy → DatabaseCopy) → Database → Option DatabaseCopy → Database
changed_at k change d None = d
changed_at k change d (Some c) = finite.insert d k (change c)

change_is : (k : Key) (change : DatabaseCopy → DatabaseCopy) (d : Database)
    (o : Option DatabaseCopy) → finite.get d k ≡ o
    → change_copy k change d ≡ changed_at k change d o
change_is k change d o is = ap (changed_at k change d) is

module _ (moment : ℕ) (k : Key) (d : Database) where
  -- the copy is marked as sent
  pub marks : (c : DatabaseCopy) → finite.get d k ≡ Some c → finite.insert d k (record c {
    sent = Some moment;
  }) ≡ mark_sent moment k d
  marks c some = sym (change_is k (λ c. record c { sent = Some moment }) d (Some c) some)

  pub marks_none : finite.get d k ≡ None → d ≡ mark_sent moment k d
  marks_none none = sym (change_is k (λ c. record c { sent = Some moment }) d None none)

  -- the copy has MaxAge from now on
  pub ages : (c : DatabaseCopy) → finite.get d k ≡ Some c
      → finite.insert d k (record c {
        lsa = lsa_with_age 3600 c.lsa;
        stored = moment;
      }) ≡ age_prematurely moment k d
  ages c some = sym (change_is k (λ c. record c {
    lsa = lsa_with_age 3600 c.lsa;
    stored = moment;
  }) d (Some c) some)

  pub ages_none : finite.get d k ≡ None → d ≡ age_prematurely moment k d
  ages_none none = sym (change_is k (λ c. record c {
    lsa = lsa_with_age 3600 c.lsa;
    stored = moment;
  }) d None none)

pub database_is : {r : ℕ} {p q s t : Database} → p ≡ q → s ≡ t
    → ◌≡◌ {A = RouterDatabase} (record {
      router = r;
      present = p;
      committed = s;
    }) (record { router = r; present = q; committed = t })
database_is {r} a b i = record { router = r; present = a i; committed = b i }
