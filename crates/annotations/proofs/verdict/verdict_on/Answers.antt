use Rattle.std.proofs.Common.{◌≡◌, List, ℕ, refl, subst, sym, true, false}
use Rattle.std.proofs.lemmas.Bool.{false≢true}
use Rattle.verifier.specs.Verdicts.{Accepts}
use Rattle.annotations.proofs.Faults.{unjudged, why}
use Rattle.annotations.proofs.verdict.verdict_on.Goals as goal

pub returns-in-Ok-verify_object : goal.returns-in-Ok-verify_object
returns-in-Ok-verify_object c = record {
  is_for = record { same_hook = refl; same_code = refl; spells = c.in-Ok.ensures };
  accepts = subst (λ (bytes : List ℕ). Accepts bytes c.in-Ok-verify_object.accepted)
      c.deref.ensures.value c.in-Ok-verify_object.ensures.accepts;
}

pub returns-in-Err-Refused : goal.returns-in-Err-Refused
returns-in-Err-Refused c = (
  record {
    is_for = record { same_hook = refl; same_code = refl; spells = c.in-Ok.ensures };
    refuses = why _ _ _ _ _ c.deref.ensures.value c.in-Err-Refused.is c.in-Err-Refused.field-0-is
        c.verify_object.ensures.refuses;
    by_rule = λ is. let never : true ≡ false = rw is at c.if-ne.ensures in false≢true (sym never);
  },
  c.endless_for-endless.ensures,
)

pub returns-in-Err : goal.returns-in-Err
returns-in-Err c = unjudged _ _ _ c.requires c.fault_of.ensures
