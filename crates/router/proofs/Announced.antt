-- Announced destinations have their own keys, also after each edit.
use Rattle.std.proofs.Common.{◌≡◌, Bool, true, false, cond, Option, None, Some, refl}
use Rattle.std.proofs.Common.{sym, ap, subst, ◌∙◌}
use mathlib.Core.Bool.{false≢true}
use Rattle.std.specs.Prelude.{is_some}
use Rattle.std.specs.FinMap as finite
use Rattle.std.specs.Ordering.{eq_by_cmp}
use Rattle.words.specs.Numbers.{RouterNumber}
use Rattle.words.specs.declared.key.Key.{Key}
use Rattle.words.specs.declared.route.External.{External}
use Rattle.lsdb.specs.Keys.{ByKey, key_cmp}
use Rattle.lsdb.proofs.Keys.{equal, keys_exact, keys_total}
use Rattle.router.specs.Owned.{AreOwn, IsWithItsKey}

value_or : External → Option External → External
value_or e None = e
value_or e (Some x) = x

value_is : (e : External) (x : External) → ◌≡◌ {A = Option External} (Some e) (Some x) → e ≡ x
unfolding value_or
value_is e x is = ap (value_or e) is

module _ (id : RouterNumber) where
  pub none_own : AreOwn id finite.empty
  none_own k e is = absurd (false≢true (ap is_some (sym (finite.get-empty key_cmp k) ∙ is)))

  by_key : (m : ByKey External) (key k : Key) (e x : External) (b : Bool) → AreOwn id m
      → IsWithItsKey id key e → eq_by_cmp key_cmp k key ≡ b → cond b (Some e) (finite.get m k)
      ≡ Some x
      → IsWithItsKey id k x
  by_key m key k e x true own here tied is =
      subst (λ (y : External). IsWithItsKey id k y) (value_is e x is)
      (subst (λ (q : Key). IsWithItsKey id q e)
      (sym (keys_exact k key (equal (key_cmp k key) tied)))
      here)
  by_key m key k e x false own here tied is = own k x is

  pub insert_own : (m : ByKey External) (key : Key) (e : External) → AreOwn id m
      → IsWithItsKey id key e
      → AreOwn id (finite.insert m key e)
  insert_own m key e own here k x is =
      by_key m key k e x (eq_by_cmp key_cmp k key) own here refl
      (sym (finite.get-insert keys_total m key e k) ∙ is)

  kept : (m : ByKey External) (k : Key) (x : External) (b : Bool) → AreOwn id m
      → cond b None (finite.get m k) ≡ Some x → IsWithItsKey id k x
  kept m k x true own is = absurd (false≢true (ap is_some is))
  kept m k x false own is = own k x is

  pub remove_own : (m : ByKey External) (key : Key) → AreOwn id m → AreOwn id (finite.remove m key)
  remove_own m key own k x is = kept m k x (eq_by_cmp key_cmp k key) own
      (sym (finite.get-remove keys_total m key k) ∙ is)
