-- If the moment is the same, no copy reaches MaxAge.
use Rattle.std.proofs.Common.{◌≡◌, ℕ, Bool, true, false, not, ◌&&◌, cond, List, [], ◌∷◌, refl}
use Rattle.std.proofs.Common.{subst, ap, ◌∙◌}
use Rattle.std.specs.List.{fold}
use Rattle.std.specs.FinMap as finite
use Rattle.words.specs.declared.key.Key.{Key}
use Rattle.lsdb.specs.Copies.{DatabaseCopy, is_aged_out, lsa_now}
use Rattle.received.specs.AreaStates.{AreaState}
use Rattle.event_rules.specs.EventState.{flood_from_nobody}
use Rattle.event_rules.specs.Endings.{flood_aged, flood_if_aged}

not_both : (b : Bool) → (b && not b) ≡ false
not_both true = refl
not_both false = refl

module _ (moment : ℕ) where
  no_age : (e : Key × DatabaseCopy) (o : AreaState) → flood_if_aged moment moment o e ≡ o
  no_age e o = ap (λ b. cond b (flood_from_nobody moment (lsa_now moment e.1) o) o)
      (not_both (is_aged_out moment e.1))

  no_ages : (es : List (Key × DatabaseCopy)) (o : AreaState)
      → fold (flood_if_aged moment moment) o es ≡ o
  no_ages [] o = refl
  no_ages (e ∷ es) o = ap (λ p. fold (flood_if_aged moment moment) p es) (no_age e o) ∙ no_ages es o

pub nothing_ages : (before moment : ℕ) → before ≡ moment → (o : AreaState)
    → flood_aged before moment o ≡ o
nothing_ages before moment same o =
    subst (λ m. flood_aged before m o ≡ o) same (no_ages before (finite.entries o.area.database) o)
