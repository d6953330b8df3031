-- A map and its committed state, after an edit that may be refused.
use Rattle.std.proofs.Common.{◌≡◌, Result, Ok, Err, OnOk, OnErr, sym, subst}
use Rattle.keyed_map.specs.Keys.{ByKey}
use Rattle.keyed_map.specs.Held.{Held}

pub held : {X : Type 0} {p q s t : ByKey X} → p ≡ q → s ≡ t → ◌≡◌ {A = Held X} (record {
  present = p;
  committed = s;
}) (record { present = q; committed = t })
held a b i = record { present = a i; committed = b i }

-- what holds of both the old and the edited map holds whatever the result
pub after : {A E V : Type 0} (r : Result A E) (P : V → Type 0) (new old edited : V)
    → OnOk r (new ≡ edited) → OnErr r (new ≡ old) → P edited → P old → P new
after (Ok a) P new old edited ok err p q = subst P (sym ok) p
after (Err e) P new old edited ok err p q = subst P (sym err) q

pub on_ok : {A E P Q : Type 0} (r : Result A E) → (P → Q) → OnOk r P → OnOk r Q
on_ok (Ok a) f p = f p
on_ok (Err e) f p = tt
