-- What tests of booleans, orders and keys say.
use Rattle.std.proofs.Common.{◌≡◌, Bool, true, false, cond, T, List, [], ◌∷◌, ◌&&◌, None, Some}
use Rattle.std.proofs.Common.{refl, sym, ap, subst, ◌∙◌}
use Rattle.std.specs.FinMap as finite
use Rattle.std.specs.FinMap.Entries.{below_all}
use Rattle.std.specs.Ordering.{is_eq, is_lt}
use Rattle.std.specs.declared.cmp.Ordering.{Ordering}
use Rattle.std.specs.declared.cmp.Ordering.TheVariants.{Less, Equal, Greater}
use Rattle.words.specs.declared.key.Key.{Key}
use Rattle.keyed_map.specs.Keys.{key_cmp}
use Rattle.keyed_map.proofs.Keys.{keys_total}

pub first : (a b : Bool) → T (a && b) → T a
first true b p = tt
first false b p = p

pub second : (a b : Bool) → T (a && b) → T b
second true b p = p
second false b p = absurd p

pub less : (r : Ordering) → T (is_lt r) → r ≡ Less
less Less p = refl
less Equal p = absurd p
less Greater p = absurd p

pub equal : (r : Ordering) → is_eq r ≡ true → r ≡ Equal
equal Less p = absurd (subst T (sym p) tt)
equal Equal p = refl
equal Greater p = absurd (subst T (sym p) tt)

-- a key that is equal to one below all others isn't among them
pub absent : {X : Type 0} (q k : Key) (es : List (Key × X)) → key_cmp q k ≡ Equal
    → T (below_all key_cmp k es) → finite.find key_cmp q es ≡ None
absent q k [] same all = refl
absent q k (e ∷ es) same all =
    ap (λ r. cond (is_eq r) (Some e.1) (finite.find key_cmp q es))
    (keys_total.congr q k e.0 same ∙ less (key_cmp k e.0)
    (first (is_lt (key_cmp k e.0)) (below_all key_cmp k es) all))
    ∙ absent q k es same (second (is_lt (key_cmp k e.0)) (below_all key_cmp k es) all)
